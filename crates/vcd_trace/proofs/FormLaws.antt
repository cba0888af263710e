-- The reading of a form, part by part.
use Rattle.std.proofs.Common.{◌≡◌, ℕ, ◌+◌, ◌-◌, ◌<◌, ◌≤◌, Bool, true, false, cond, List, [], ◌∷◌, ◌++◌, Option, Some, None, refl, sym, ap, subst, ◌∙◌, arith, append_assoc}
use Rattle.std.specs.Prelude.{◌==◌, ⊤}
use Rattle.std.specs.List.{flat_map}
use Rattle.std.proofs.lemmas.Grind.{flat_map-append}
use Rattle.std.proofs.lemmas.List.{append-nil}
use Rattle.lisa_words.specs.Steps.{◌>>=◌}
use Rattle.lisa_words.specs.Many.{many, with_front}
use Rattle.lisa_words.proofs.ManyLaws.{goes_on, fails_on, is_done}
use Rattle.vcd_trace.specs.VcdWords.{Placed, words_from}
use Rattle.vcd_trace.specs.Forms.{Form, place_after, place_behind, may_end, variables_in, events_in, form_of_parts, ended_form}
use Rattle.vcd_trace.specs.Parts.{keyword_of, part_by, part_of, is_over, next_of, form_of_read, form_of}
use Rattle.vcd_trace.specs.declared.parts.Part.{Part}
use Rattle.vcd_trace.specs.declared.parts.Part.TheVariants.{Note, Comment, Opens, Closes, Declares, Definitions, Begins, Ends, Happens}
use Rattle.vcd_trace.specs.declared.parts.Event.TheVariants as events
use Rattle.vcd_trace.specs.declared.places.Place.{Place}
use Rattle.vcd_trace.specs.declared.places.Place.TheVariants.{Head, Body}
use Rattle.vcd_trace.proofs.PartLaws.{part_shrinks}

pub behind_append : (p : Place) (xs ys : List Part) → place_behind p (xs ++ ys) ≡ (place_behind p xs >>= λ q. place_behind q ys)
behind_append p [] ys = refl
behind_append p (x ∷ xs) ys = go (place_after p x) (λ n. behind_append n xs ys)
  where
    go : (o : Option Place) → ((n : Place) → place_behind n (xs ++ ys) ≡ (place_behind n xs >>= λ q. place_behind q ys))
        → (o >>= λ n. place_behind n (xs ++ ys)) ≡ ((o >>= λ n. place_behind n xs) >>= λ q. place_behind q ys)
    go None rec = refl
    go (Some n) rec = rec n

pub form_is : (bytes : List ℕ) → form_of bytes ≡ form_of_read (many part_of is_over (words_from 0 bytes))
unfolding form_of
form_is bytes = refl

-- at most so many scopes are open
abbrev pub IsOpenTo : Place → ℕ → Type 0
IsOpenTo (Head depth) most = depth ≤ most
IsOpenTo (Body inside) most = ⊤

-- what was read so far of the words, and what is left
pub record IsRead (bytes : List ℕ) (left : List Placed) (place : Place) (form : Form) : Type 0 where
  pub done : List Part
  pub total : with_front done (many part_of is_over left) ≡ many part_of is_over (words_from 0 bytes)
  pub stands : place_behind (Head 0) done ≡ Some place
  pub made : form ≡ form_of_parts done

pub read_first : (bytes : List ℕ) → IsRead bytes (words_from 0 bytes) (Head 0) (record { variables = []; events = [] })
read_first bytes = record { done = []; total = go (many part_of is_over (words_from 0 bytes)); stands = refl; made = refl }
  where
    go : (o : Option (List Part × List Placed)) → with_front [] o ≡ o
    go None = refl
    go (Some x) = refl

module _ (bytes : List ℕ) (left : List Placed) (place : Place) (form : Form) (read : IsRead bytes left place form) where
  pub read_end : left ≡ [] → form_of bytes ≡ cond (may_end place) (Some form) None
  read_end none =
      form_is bytes
      ∙ ap form_of_read (is_done part_of is_over part_shrinks read.done left (many part_of is_over (words_from 0 bytes)) read.total (sym (ap is_over none)))
      ∙ ap (λ (o : Option Place). ended_form read.done o) read.stands
      ∙ ap (λ (f : Form). cond (may_end place) (Some f) None) (sym read.made)

  module _ (w : Placed) (ws : List Placed) (is : left ≡ w ∷ ws) where
    part_is : part_of left ≡ part_by (keyword_of w.text) w ws
    part_is = ap part_of is

    not_over : false ≡ is_over left
    not_over = sym (ap is_over is)

    pub read_none : part_by (keyword_of w.text) w ws ≡ None → form_of bytes ≡ None
    read_none e = form_is bytes ∙ ap form_of_read (fails_on part_of is_over part_shrinks read.done left (many part_of is_over (words_from 0 bytes)) read.total not_over (part_is ∙ e))

    module _ (p : Part) (rest : List Placed) (part : part_by (keyword_of w.text) w ws ≡ Some (p, rest)) where
      more : with_front (read.done ++ p ∷ []) (many part_of is_over rest) ≡ many part_of is_over (words_from 0 bytes)
      more = goes_on part_of is_over part_shrinks read.done left (many part_of is_over (words_from 0 bytes)) read.total p rest not_over (part_is ∙ part)

      -- where the part may not stand, there is no form
      pub read_wrong : place_after place p ≡ None → form_of bytes ≡ None
      read_wrong e = form_is bytes ∙ ap form_of_read (sym more) ∙ go (many part_of is_over rest)
        where
          wrong : (all : List Part) → place_behind (Head 0) ((read.done ++ p ∷ []) ++ all) ≡ None
          wrong all =
              ap (place_behind (Head 0)) (append_assoc read.done (p ∷ []) all) ∙ behind_append (Head 0) read.done (p ∷ all)
              ∙ ap (λ (o : Option Place). o >>= λ q. place_behind q (p ∷ all)) read.stands
              ∙ ap (λ (o : Option Place). o >>= λ n. place_behind n all) e

          go : (o : Option (List Part × List Placed)) → form_of_read (with_front (read.done ++ p ∷ []) o) ≡ None
          go None = refl
          go (Some x) = ap (λ (o : Option Place). ended_form ((read.done ++ p ∷ []) ++ x.0) o) (wrong x.0)

      pub read_more : (next : Place) (longer : Form) → place_after place p ≡ Some next → longer.variables ≡ form.variables ++ variables_in p → longer.events ≡ form.events ++ events_in p → IsRead bytes rest next longer
      read_more next longer e variables events = record {
        done = read.done ++ p ∷ [];
        total = more;
        stands = behind_append (Head 0) read.done (p ∷ []) ∙ ap (λ (o : Option Place). o >>= λ q. place_behind q (p ∷ [])) read.stands ∙ ap (λ (o : Option Place). o >>= λ n. Some n) e;
        made = λ i. record { variables = both_variables i; events = both_events i };
      }
        where
          both_variables : longer.variables ≡ flat_map variables_in (read.done ++ p ∷ [])
          both_variables =
              variables ∙ ap (λ (f : Form). f.variables ++ variables_in p) read.made ∙ ap (λ (l : List _). flat_map variables_in read.done ++ l) (sym (append-nil (variables_in p)))
              ∙ sym (flat_map-append variables_in read.done (p ∷ []))

          both_events : longer.events ≡ flat_map events_in (read.done ++ p ∷ [])
          both_events =
              events ∙ ap (λ (f : Form). f.events ++ events_in p) read.made ∙ ap (λ (l : List _). flat_map events_in read.done ++ l) (sym (append-nil (events_in p)))
              ∙ sym (flat_map-append events_in read.done (p ∷ []))

-- a part opens one scope at most
pub open_more : (place next : Place) (p : Part) (n m : ℕ) → place_after place p ≡ Some next → IsOpenTo place n → n < m → IsOpenTo next m
open_more place next p n m e fits less = go place p (place_after place p) refl e fits
  where
    same : (a b : Place) → ◌≡◌ {A = Option Place} (Some a) (Some b) → a ≡ b
    same a b f = cc

    to : (a : Place) → IsOpenTo a m → ◌≡◌ {A = Option Place} (Some a) (Some next) → IsOpenTo next m
    to a h f = subst (λ (q : Place). IsOpenTo q m) (same a next f) h

    if_none : (b : Bool) (a : Place) → IsOpenTo a m → cond b None (Some a) ≡ Some next → IsOpenTo next m
    if_none true a h f = absurd cc
    if_none false a h f = to a h f

    if_some : (b : Bool) (a : Place) → IsOpenTo a m → cond b (Some a) None ≡ Some next → IsOpenTo next m
    if_some true a h f = to a h f
    if_some false a h f = absurd cc

    go : (place : Place) (p : Part) (o : Option Place) → place_after place p ≡ o → place_after place p ≡ Some next → IsOpenTo place n → IsOpenTo next m
    go (Head depth) Note o is f fits = to (Head depth) (omega arith) f
    go (Head depth) Comment o is f fits = to (Head depth) (omega arith) f
    go (Head depth) Opens o is f fits = to (Head (depth + 1)) (omega arith) f
    go (Head depth) Closes o is f fits = if_none (depth == 0) (Head (depth - 1)) (omega arith) f
    go (Head depth) (Declares v) o is f fits = to (Head depth) (omega arith) f
    go (Head depth) Definitions o is f fits = if_some (depth == 0) (Body false) tt f
    go (Head depth) Begins o is f fits = absurd cc
    go (Head depth) Ends o is f fits = absurd cc
    go (Head depth) (Happens e) o is f fits = absurd cc
    go (Body inside) Note o is f fits = absurd cc
    go (Body inside) Comment o is f fits = to (Body inside) tt f
    go (Body inside) Opens o is f fits = absurd cc
    go (Body inside) Closes o is f fits = absurd cc
    go (Body inside) (Declares v) o is f fits = absurd cc
    go (Body inside) Definitions o is f fits = absurd cc
    go (Body inside) Begins o is f fits = if_none inside (Body true) tt f
    go (Body inside) Ends o is f fits = if_some inside (Body false) tt f
    go (Body inside) (Happens (events.Change c)) o is f fits = to (Body inside) tt f
    go (Body inside) (Happens (events.Time t)) o is f fits = if_none inside (Body false) tt f

pub next_some : (ts : List Placed) (w : Placed) (ws : List Placed) → Some (w, ws) ≡ next_of ts → ts ≡ w ∷ ws
next_some [] w ws e = absurd cc
next_some (v ∷ vs) w ws e = let f : ◌≡◌ {A = Placed × List Placed} (w, ws) (v, vs) = cc in λ i. (sym f i).0 ∷ (sym f i).1

pub next_none : (ts : List Placed) → ◌≡◌ {A = Option (Placed × List Placed)} None (next_of ts) → ts ≡ []
next_none [] e = refl
next_none (v ∷ vs) e = absurd cc
