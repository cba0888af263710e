-- What a line that is read keeps.
use Rattle.std.proofs.Common.{◌≡◌, ℕ, zero, suc, ◌+◌, ◌^◌, ◌<◌, Bool, true, false, List, [], ◌∷◌, length, get_or, map, refl, subst, arith, ⊎_elim, Option, Some, None, Result, Ok, Err, cond}
use Rattle.std.specs.Prelude.{All, AllPairs, find, position, unwrap_or, nat_le, slice_index_or, ◌==◌}
use Rattle.std.specs.List.{list_any}
use Rattle.std.proofs.lemmas.Bool.{cases_Bool, leb-false, not-false, false≢true}
use Rattle.std.proofs.lemmas.List.{get_or-map}
use Rattle.std.proofs.lemmas.List.Quantifiers.{position-Some}
use Rattle.lisa_engine.specs.ScheduleLine.{Line}
use Rattle.lisa_engine.specs.PinValues.{IsFor}
use Rattle.lisa_engine.specs.Schedules.{is_named, names_twice, is_unknown, placed, name_at, width_at, is_too_wide, unless, placed_line, checked_line, line_of, form_of, onto, followed_by, lines_from}
use Rattle.lisa_engine.specs.declared.parts.Item.{Item}
use Rattle.lisa_engine.specs.declared.parts.Setting.{Setting}
use Rattle.lisa_engine.specs.declared.schedule.ScheduleFault.{ScheduleFault}
use Rattle.lisa_engine.specs.declared.schedule.ScheduleFault.TheVariants.{BadLine, UnknownPin, NotRising, PinRange}
use Rattle.lisa_engine.proofs.Loading.{find_none}

place_there : {X : Type 0} (p : X → Bool) (xs : List X) (d : X) → list_any p xs ≡ true → unwrap_or (position p xs) 0 < length xs
place_there p [] d some = absurd (false≢true some)
place_there p (x ∷ xs) d some = at (position p (x ∷ xs)) refl
  where
    at : (o : Option ℕ) → position p (x ∷ xs) ≡ o → unwrap_or o 0 < length (x ∷ xs)
    at None is = omega arith
    at (Some i) is = (position-Some p (x ∷ xs) i d is).0

-- a line as it is kept: its edge rises, its pins are there, and its values fit them
pub record IsKept (pins : List Item) (before : ℕ) (line : Line) : Type 0 where
  pub rises : before < line.edge
  pub places : All (λ setting. setting.pin < length pins) line.settings
  pub fits : (pin : Item) → All (λ setting. setting.value < 2 ^ (slice_index_or pins setting.pin pin).width) line.settings

unless_ok : {X : Type 0} (o : Option X) (fault : X → ScheduleFault) (rest : Result Line ScheduleFault) (line : Line) → unless o fault rest ≡ Ok line → (o ≡ None) × (rest ≡ Ok line)
unless_ok None fault rest line is = (refl, is)
unless_ok (Some x) fault rest line is = cc

all_map : {X Y : Type 0} (f : X → Y) (P : Y → Type 0) (xs : List X) → All (λ x. P (f x)) xs → All P (map f xs)
all_map f P [] h k d within = absurd (omega arith)
all_map f P (x ∷ xs) h zero d within = h 0 x (omega arith)
all_map f P (x ∷ xs) h (suc k) d within = all_map f P xs (λ j e b. h (suc j) e (omega arith)) k d (omega arith)

narrow : (pins : List Item) (setting : Setting) (pin : Item) → setting.pin < length pins → is_too_wide pins setting ≡ false → setting.value < 2 ^ (slice_index_or pins setting.pin pin).width
narrow pins setting pin there fits =
    subst (λ w. setting.value < 2 ^ w) (get_or-map (λ p. p.width) pins setting.pin pin 0 there) (leb-false (2 ^ width_at pins setting.pin) setting.value fits)

kept_placed : (pins : List Item) (before number edge : ℕ) (settings : List (List ℕ × ℕ)) (line : Line) (d : Item)
    → before < edge → find (is_unknown pins) settings ≡ None → placed_line pins number edge (map (placed pins) settings) ≡ Ok line → IsKept pins before line
kept_placed pins before number edge settings line d rises known is =
    let fine = unless_ok (find (is_too_wide pins) (map (placed pins) settings)) (λ setting. PinRange number (name_at pins setting.pin) setting.value)
    (Ok (record { edge = edge; settings = map (placed pins) settings })) line is in
    let same : record { edge = edge; settings = map (placed pins) settings } ≡ line = ok_same fine.1 in
    let places : All (λ setting. setting.pin < length pins) (map (placed pins) settings)
    = all_map (placed pins) (λ setting. setting.pin < length pins) settings
    (λ k e b. place_there (is_named (get_or settings k e).0) pins d (not-false _ (find_none (is_unknown pins) settings known k e b))) in
    let narrow_all : (pin : Item) → All (λ setting. setting.value < 2 ^ (slice_index_or pins setting.pin pin).width) (map (placed pins) settings)
    = λ pin k e b. narrow pins (get_or (map (placed pins) settings) k e) pin (places k e b) (find_none (is_too_wide pins) (map (placed pins) settings) fine.0 k e b) in
    subst (IsKept pins before) same (record { rises = rises; places = places; fits = narrow_all })
  where
    ok_same : {a b : Line} → ◌≡◌ {A = Result Line ScheduleFault} (Ok a) (Ok b) → a ≡ b
    ok_same e = cc

-- a line that is read is kept so
pub line_kept : (pins : List Item) (before number : ℕ) (o : Option (ℕ × List (List ℕ × ℕ))) (line : Line) (d : Item) → checked_line pins number before o ≡ Ok line → IsKept pins before line
line_kept pins before number None line d is = cc
line_kept pins before number (Some (edge, settings)) line d is = ⊎_elim
    (λ t. let e : ◌≡◌ {A = Result Line ScheduleFault} (Err (BadLine number)) (Ok line) = rw t at is in cc)
    (λ f. let known = unless_ok (find (is_unknown pins) settings) (λ setting. UnknownPin number setting.0)
    (cond (nat_le edge before) (Err (NotRising number)) (placed_line pins number edge (map (placed pins) settings))) line (rw f at is) in
    ⊎_elim
    (λ t. let e : ◌≡◌ {A = Result Line ScheduleFault} (Err (NotRising number)) (Ok line) = rw t at known.1 in cc)
    (λ g. kept_placed pins before number edge settings line d (leb-false edge before g) known.0 (rw g at known.1))
    (cases_Bool (nat_le edge before)))
    (cases_Bool (names_twice settings))

-- lines that are kept: each as it stands, and each later than those before it
pub record AreKept (pins : List Item) (before : ℕ) (lines : List Line) : Type 0 where
  pub each : All (IsKept pins before) lines
  pub rising : AllPairs (λ a b. a.edge < b.edge) lines

one_more_kept : (pins : List Item) (before : ℕ) (line : Line) (lines : List Line) → IsKept pins before line → AreKept pins line.edge lines → AreKept pins before (line ∷ lines)
one_more_kept pins before line lines first rest = record { each = each; rising = rising }
  where
    later : (k : ℕ) (d : Line) → k < length lines → IsKept pins before (get_or lines k d)
    later k d within = let h = rest.each k d within in record { rises = omega (arith, first.rises, h.rises); places = h.places; fits = h.fits }

    each : (k : ℕ) (d : Line) → k < length (line ∷ lines) → IsKept pins before (get_or (line ∷ lines) k d)
    each zero d within = first
    each (suc k) d within = later k d (omega arith)

    rising : (i j : ℕ) (d : Line) → i < j → j < length (line ∷ lines) → (get_or (line ∷ lines) i d).edge < (get_or (line ∷ lines) j d).edge
    rising zero zero d less within = absurd (omega arith)
    rising zero (suc j) d less within = (rest.each j d (omega arith)).rises
    rising (suc i) zero d less within = absurd (omega arith)
    rising (suc i) (suc j) d less within = rest.rising i j d (omega arith) (omega arith)

pub lines_kept : (pins : List Item) (d : Item) (texts : List (List ℕ)) (number before : ℕ) (lines : List Line) → lines_from pins number before texts ≡ Ok lines → AreKept pins before lines
lines_kept pins d [] number before lines is = ok_same lines is
  where
    ok_same : (lines : List Line) → ◌≡◌ {A = Result (List Line) ScheduleFault} (Ok []) (Ok lines) → AreKept pins before lines
    ok_same lines e = let same : [] ≡ lines = cc in subst (AreKept pins before) same (record { each = λ k e b. absurd (omega arith); rising = λ i j e l b. absurd (omega arith) })
lines_kept pins d (text ∷ texts) number before lines is = ⊎_elim
    (λ t. lines_kept pins d texts (number + 1) before lines (rw t at is))
    (λ f. first (λ edge more rest. lines_kept pins d texts (number + 1) edge more rest) (line_of pins number before text) refl (rw f at is))
    (cases_Bool (length text == 0))
  where
    second : ((edge : ℕ) (more : List Line) → lines_from pins (number + 1) edge texts ≡ Ok more → AreKept pins edge more)
        → (line : Line) (r : Result (List Line) ScheduleFault) → IsKept pins before line → lines_from pins (number + 1) line.edge texts ≡ r → onto line r ≡ Ok lines → AreKept pins before lines
    second rests line (Err fault) kept rest is = cc
    second rests line (Ok more) kept rest is =
        let same : line ∷ more ≡ lines = cc in
        subst (AreKept pins before) same (one_more_kept pins before line more kept (rests line.edge more rest))

    first : ((edge : ℕ) (more : List Line) → lines_from pins (number + 1) edge texts ≡ Ok more → AreKept pins edge more)
        → (r : Result Line ScheduleFault) → line_of pins number before text ≡ r → followed_by (λ line. lines_from pins (number + 1) line.edge texts) r ≡ Ok lines → AreKept pins before lines
    first rests (Err fault) line is = cc
    first rests (Ok read) line is = second rests read (lines_from pins (number + 1) read.edge texts) (line_kept pins before number (form_of text) read d line) refl is

pub kept_for : {pins : List Item} {before : ℕ} {lines : List Line} → AreKept pins before lines → IsFor pins lines
kept_for kept = record {
  playable = record { rising = kept.rising; places = λ k d b. (kept.each k d b).places };
  fitting = λ pin k d b. (kept.each k d b).fits pin;
}
