-- Texts that make up parts, one behind the other.
use Rattle.std.proofs.Common.{◌≡◌, ℕ, suc, ◌+◌, ◌<◌, Bool, true, false, cond, List, [], ◌∷◌, ◌++◌, length, take, drop, get_or, map, Option, Some, None, refl, sym, ap, ◌∙◌, arith, append_assoc, length-append}
use Rattle.std.specs.Prelude.{not, All}
use Rattle.std.specs.List.{list_all, flat_map, prefix_len}
use Rattle.std.proofs.lemmas.Bool.{and_parts}
use Rattle.std.proofs.lemmas.Grind.{flat_map-append}
use Rattle.std.proofs.lemmas.List.{append-nil, map-append}
use Rattle.lisa_words.specs.Steps.{◌>>=◌}
use Rattle.lisa_words.specs.Many.{many, with_front}
use Rattle.lisa_words.specs.Bytes.{is_blank, front_is}
use Rattle.lisa_words.proofs.ManyLaws.{many_is}
use Rattle.lisa_words.proofs.Runs.{run_is}
use Rattle.vcd_trace.specs.VcdWords.{Placed, word_at, is_solid, with_byte, words_from}
use Rattle.vcd_trace.specs.Written.{Variable, Change}
use Rattle.vcd_trace.specs.Forms.{Form, place_after, place_behind, variables_in, events_in, form_of_parts, ended_form}
use Rattle.vcd_trace.specs.Parts.{part_of, is_over, form_of_read, form_of}
use Rattle.vcd_trace.specs.declared.parts.Part.{Part}
use Rattle.vcd_trace.specs.declared.parts.Event.{Event}
use Rattle.vcd_trace.specs.declared.parts.Event.TheVariants as events
use Rattle.vcd_trace.specs.declared.places.Place.{Place}
use Rattle.vcd_trace.specs.declared.places.Place.TheVariants.{Head, Body}
use Rattle.vcd_trace.proofs.WordLaws.{solid_word}
use Rattle.vcd_trace.proofs.PartLaws.{part_shrinks}
use Rattle.vcd_trace.proofs.FormLaws.{behind_append, form_is}

-- the parts that the words of bytes make up, which stand from a place on
abbrev pub parts_from : ℕ → List ℕ → Option (List Part × List Placed)
parts_from at bytes = many part_of is_over (words_from at bytes)

front_front : (xs ys : List Part) (o : Option (List Part × List Placed)) → with_front xs (with_front ys o) ≡ with_front (xs ++ ys) o
front_front xs ys None = refl
front_front xs ys (Some x) = ap (λ (l : List Part). Some (l, x.1)) (sym (append_assoc xs ys x.0))

front_none : (o : Option (List Part × List Placed)) → o ≡ with_front [] o
front_none None = refl
front_none (Some x) = refl

-- one part, and then the others
one_part : (ts later : List Placed) (p : Part) → part_of ts ≡ Some (p, later) → many part_of is_over ts ≡ with_front (p ∷ []) (many part_of is_over later)
one_part [] later p e = absurd cc
one_part (t ∷ ts) later p e =
    many_is part_of is_over part_shrinks (t ∷ ts)
    ∙ ap (λ (z : Option (Part × List Placed)). z >>= λ a. many part_of is_over a.1 >>= λ all. Some (a.0 ∷ all.0, all.1)) e

-- no part
no_parts : many part_of is_over [] ≡ Some ([], [])
no_parts = many_is part_of is_over part_shrinks []

-- ---- lines of words with single blanks between

abbrev pub line : List (List ℕ) → List ℕ
line [] = []
line (w ∷ []) = w ++ 10 ∷ []
line (w ∷ v ∷ ws) = w ++ (32 ∷ line (v ∷ ws))

abbrev pub words_at : ℕ → List (List ℕ) → List Placed
words_at at [] = []
words_at at (w ∷ ws) = word_at at w ∷ words_at (at + length w + 1) ws

-- a word has one byte or more, and none is a blank
pub record IsWord (w : List ℕ) : Type 0 where
  pub some : 0 < length w
  pub solid : list_all is_solid w ≡ true

not_blank : (b : ℕ) → is_solid b ≡ true → is_blank b ≡ false
not_blank b e = go (is_blank b) e
  where
    go : (t : Bool) → not t ≡ true → t ≡ false
    go true e = absurd cc
    go false e = refl

word_then : (at : ℕ) (w : List ℕ) (gap : ℕ) (rest : List ℕ) → IsWord w → is_blank gap ≡ true → words_from at (w ++ (gap ∷ rest)) ≡ word_at at w ∷ words_from (at + length w + 1) rest
word_then at [] gap rest is blank = let s = is.some in absurd (omega arith)
word_then at (c ∷ cs) gap rest is blank =
    let parts = and_parts (is_solid c) (list_all is_solid cs) is.solid in
    let n : prefix_len is_solid (cs ++ (gap ∷ rest)) ≡ length cs = run_is is_solid cs (gap ∷ rest) parts.1 (ap not blank) in
    let far : at + 1 + length cs + 1 ≡ at + suc (length cs) + 1 = omega arith in
    solid_word at c (cs ++ (gap ∷ rest)) (not_blank c parts.0)
    ∙ ap (λ (k : ℕ). word_at at (c ∷ take k (cs ++ (gap ∷ rest))) ∷ words_from (at + 1 + k) (drop k (cs ++ (gap ∷ rest)))) n
    ∙ ap (λ (l : List ℕ). word_at at (c ∷ l) ∷ words_from (at + 1 + length cs) (drop (length cs) (cs ++ (gap ∷ rest)))) (taken cs (gap ∷ rest))
    ∙ ap (λ (l : List ℕ). word_at at (c ∷ cs) ∷ words_from (at + 1 + length cs) l) (dropped cs (gap ∷ rest))
    ∙ ap (λ (t : Bool). word_at at (c ∷ cs) ∷ cond t (words_from (at + 1 + length cs + 1) rest) (with_byte (at + 1 + length cs) gap (front_is is_solid rest) (words_from (at + 1 + length cs + 1) rest))) blank
    ∙ ap (λ (k : ℕ). word_at at (c ∷ cs) ∷ words_from k rest) far
  where
    taken : (xs ys : List ℕ) → take (length xs) (xs ++ ys) ≡ xs
    taken [] ys = refl
    taken (x ∷ xs) ys = ap (λ (l : List ℕ). x ∷ l) (taken xs ys)

    dropped : (xs ys : List ℕ) → drop (length xs) (xs ++ ys) ≡ ys
    dropped [] ys = refl
    dropped (x ∷ xs) ys = dropped xs ys

-- the words of a line
line_words : (at : ℕ) (ws : List (List ℕ)) (rest : List ℕ) → All IsWord ws → words_from at (line ws ++ rest) ≡ words_at at ws ++ words_from (at + length (line ws)) rest
line_words at [] rest all = let e : at ≡ at + 0 = omega arith in ap (λ (k : ℕ). words_from k rest) e
line_words at (w ∷ []) rest all =
    let e : at + length w + 1 ≡ at + length (w ++ 10 ∷ []) = omega (arith, length-append w (10 ∷ [])) in
    ap (words_from at) (append_assoc w (10 ∷ []) rest) ∙ word_then at w 10 rest (all 0 w (omega arith)) refl ∙ ap (λ (k : ℕ). word_at at w ∷ words_from k rest) e
line_words at (w ∷ v ∷ ws) rest all =
    let e : at + length w + 1 + length (line (v ∷ ws)) ≡ at + length (w ++ (32 ∷ line (v ∷ ws))) = omega (arith, length-append w (32 ∷ line (v ∷ ws))) in
    ap (words_from at) (append_assoc w (32 ∷ line (v ∷ ws)) rest) ∙ word_then at w 32 (line (v ∷ ws) ++ rest) (all 0 w (omega arith)) refl
    ∙ ap (λ (l : List Placed). word_at at w ∷ l) (line_words (at + length w + 1) (v ∷ ws) rest (λ i d within. all (suc i) d (omega arith)))
    ∙ ap (λ (k : ℕ). word_at at w ∷ (words_at (at + length w + 1) (v ∷ ws) ++ words_from k rest)) e

-- ---- pieces

-- an event without its place
abbrev pub bare_change : Change → Change
bare_change c = record { at = 0; code = c.code; value = c.value }

abbrev pub bare : Event → Event
bare (events.Time m) = events.Time (record { at = 0; time = m.time })
bare (events.Change c) = events.Change (bare_change c)

-- Wherever a text stands, its words make up some parts, which lead from a place to a place, declare these variables and have these events.
pub record Piece (text : List ℕ) (from to : Place) (vars : List Variable) (es : List Event) : Type 0 where
  pub parts : ℕ → List Part
  pub makes : (at : ℕ) (rest : List ℕ) → parts_from at (text ++ rest) ≡ with_front (parts at) (parts_from (at + length text) rest)
  pub places : (at : ℕ) → place_behind from (parts at) ≡ Some to
  pub declares : (at : ℕ) → flat_map variables_in (parts at) ≡ vars
  pub happens : (at : ℕ) → map bare (flat_map events_in (parts at)) ≡ es

pub piece_none : (place : Place) → Piece [] place place [] []
piece_none place = record {
  parts = λ at. [];
  makes = λ at rest. (let e : at ≡ at + 0 = omega arith in ap (λ (k : ℕ). parts_from k rest) e ∙ front_none (parts_from (at + 0) rest));
  places = λ at. refl;
  declares = λ at. refl;
  happens = λ at. refl;
}

pub piece_both : (s t : List ℕ) (a b c : Place) (vs ws : List Variable) (es fs : List Event) → Piece s a b vs es → Piece t b c ws fs → Piece (s ++ t) a c (vs ++ ws) (es ++ fs)
piece_both s t a b c vs ws es fs p q = record {
  parts = λ at. p.parts at ++ q.parts (at + length s);
  makes = λ at rest. (
      let far : at + length s + length t ≡ at + length (s ++ t) = omega (arith, length-append s t) in
      ap (parts_from at) (append_assoc s t rest) ∙ p.makes at (t ++ rest) ∙ ap (with_front (p.parts at)) (q.makes (at + length s) rest)
      ∙ front_front (p.parts at) (q.parts (at + length s)) (parts_from (at + length s + length t) rest)
      ∙ ap (λ (k : ℕ). with_front (p.parts at ++ q.parts (at + length s)) (parts_from k rest)) far);
  places = λ at. behind_append a (p.parts at) (q.parts (at + length s)) ∙ ap (λ (o : Option Place). o >>= λ n. place_behind n (q.parts (at + length s))) (p.places at) ∙ q.places (at + length s);
  declares = λ at. flat_map-append variables_in (p.parts at) (q.parts (at + length s)) ∙ (λ i. p.declares at i ++ q.declares (at + length s) i);
  happens = λ at.
      ap (map bare) (flat_map-append events_in (p.parts at) (q.parts (at + length s))) ∙ map-append bare (flat_map events_in (p.parts at)) (flat_map events_in (q.parts (at + length s)))
      ∙ (λ i. p.happens at i ++ q.happens (at + length s) i);
}

-- a line that makes up one part
pub piece_line : (ws : List (List ℕ)) (from to : Place) (part : ℕ → Part) → All IsWord ws → ((at : ℕ) (later : List Placed) → part_of (words_at at ws ++ later) ≡ Some (part at, later))
    → ((at : ℕ) → place_after from (part at) ≡ Some to) → (vars : List Variable) → ((at : ℕ) → variables_in (part at) ≡ vars) → (es : List Event) → ((at : ℕ) → map bare (events_in (part at)) ≡ es)
    → Piece (line ws) from to vars es
piece_line ws from to part all makes places vars declares es happens = record {
  parts = λ at. part at ∷ [];
  makes = λ at rest. ap (many part_of is_over) (line_words at ws rest all) ∙ one_part (words_at at ws ++ words_from (at + length (line ws)) rest) (words_from (at + length (line ws)) rest) (part at) (makes at (words_from (at + length (line ws)) rest));
  places = λ at. ap (λ (o : Option Place). o >>= λ n. Some n) (places at);
  declares = λ at. append-nil (variables_in (part at)) ∙ declares at;
  happens = λ at. ap (map bare) (append-nil (events_in (part at))) ∙ happens at;
}

-- pieces of a list, which all stand at one place
pub piece_list : {X : Type 0} (text : X → List ℕ) (place : Place) (vars : X → List Variable) (es : X → List Event) (xs : List X)
    → ((k : ℕ) (d : X) → k < length xs → (x : X) → x ≡ get_or xs k d → Piece (text x) place place (vars x) (es x))
    → Piece (flat_map text xs) place place (flat_map vars xs) (flat_map es xs)
piece_list text place vars es [] each = piece_none place
piece_list text place vars es (x ∷ xs) each =
    piece_both (text x) (flat_map text xs) place place place (vars x) (flat_map vars xs) (es x) (flat_map es xs)
    (each 0 x (omega arith) x refl) (piece_list text place vars es xs (λ k d within y is. each (suc k) d (omega arith) y is))

-- a whole dump in pieces
pub piece_form : (text : List ℕ) (vars : List Variable) (es : List Event) → Piece text (Head 0) (Body false) vars es
    → (form : Form) × (form_of text ≡ Some form) × (form.variables ≡ vars) × (map bare form.events ≡ es)
piece_form text vars es p = (
  form_of_parts (p.parts 0),
  form_is text ∙ ap form_of_read (ap (parts_from 0) (sym (append-nil text)) ∙ p.makes 0 [] ∙ ap (with_front (p.parts 0)) no_parts) ∙ ap (λ (l : List Part). ended_form l (place_behind (Head 0) l)) (append-nil (p.parts 0))
      ∙ ap (λ (o : Option Place). ended_form (p.parts 0) o) (p.places 0),
  p.declares 0,
  p.happens 0,
)
