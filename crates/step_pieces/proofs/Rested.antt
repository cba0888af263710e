-- What steps leave as it was.
use Rattle.std.proofs.Common.{◌≡◌, ℕ, ◌<◌, ◌≤◌, List, [], ◌∷◌, ◌++◌, length, refl, ap, ◌∙◌, arith, nat_eq}
use Rattle.std.specs.Prelude.{slice_index, All}
use Rattle.std.proofs.lemmas.List.{get_or-set_same, get_or-set_other, length-set}
use Rattle.std.proofs.lemmas.List.Elements.{All-head, All-tail}
use Rattle.std.proofs.lemmas.List.Sums.{fold-append}
use Rattle.std.proofs.lemmas.Bool.{cond_both}
use Rattle.step_program.specs.Programs.{Program, Expr, Const, Now, Before, Pin, Temp, Cell, One, Two, Choose, Aim, ToItem, ToTemp, ToCell, Move}
use Rattle.step_program.specs.Effects.{Moment, value, taken, effect, chosen}
use Rattle.step_pieces.specs.Pieces.{set_temp, IsScratch}
use Rattle.step_pieces.specs.Running.{ran, Rests, IsLow}

-- ---- what rests

pub rests_none : (from : ℕ) (a : Moment) → Rests from a a
rests_none from a = record { items = refl; cells = refl; room = refl; temps = λ k h. refl }

pub rests_up : (from to : ℕ) (a b : Moment) → from ≤ to → Rests to a b → Rests from a b
rests_up from to a b le r = record { items = r.items; cells = r.cells; room = r.room; temps = λ k h. r.temps k (omega arith) }

pub rests_on : (from to : ℕ) (a b c : Moment) → from ≤ to → Rests from a b → Rests to b c → Rests from a c
rests_on from to a b c le r s = record {
  items = s.items ∙ r.items;
  cells = s.cells ∙ r.cells;
  room = s.room ∙ r.room;
  temps = λ k h. s.temps k (omega arith) ∙ r.temps k h;
}

pub low_up : (from to : ℕ) (e : Expr) → from ≤ to → IsLow from e → IsLow to e
low_up from to (Const w v) le low = low
low_up from to (Now item) le low = low
low_up from to (Before item) le low = low
low_up from to (Pin pin) le low = low
low_up from to (Temp temp) le low = omega (arith, low)
low_up from to (Cell array index) le low = absurd low
low_up from to (One one a) le low = absurd low
low_up from to (Two two a b) le low = absurd low
low_up from to (Choose c a b) le low = absurd low

-- ---- running

module _ (p : Program) (before pins : List ℕ) where
  abbrev run : Moment → List Move → Moment
  run now moves = ran p before pins now moves

  pub ran_append : (now : Moment) (xs ys : List Move) → run now (xs ++ ys) ≡ run (run now xs) ys
  ran_append now xs ys = fold-append (effect p before pins) now xs ys

  pub low_value : (from : ℕ) (e : Expr) (a b : Moment) → IsLow from e → Rests from a b → value p before pins b e ≡ value p before pins a e
  low_value from (Const w v) a b low r = refl
  low_value from (Now item) a b low r = ap (λ (xs : List ℕ). slice_index xs item) r.items
  low_value from (Before item) a b low r = refl
  low_value from (Pin pin) a b low r = refl
  low_value from (Temp temp) a b low r = r.temps temp low
  low_value from (Cell array index) a b low r = absurd low
  low_value from (One one x) a b low r = absurd low
  low_value from (Two two x y) a b low r = absurd low
  low_value from (Choose c x y) a b low r = absurd low

  -- a temp that takes a value
  pub temp_set : (from temp v : ℕ) (now : Moment) → from ≤ temp → Rests from now (taken p before pins now (ToTemp temp) v)
  temp_set from temp v now le = record {
    items = refl;
    cells = refl;
    room = length-set now.temps temp v;
    temps = λ k h. get_or-set_other now.temps temp k v 0 (λ e. omega arith);
  }

  pub temp_read : (temp v : ℕ) (now : Moment) → temp < length now.temps → slice_index (taken p before pins now (ToTemp temp) v).temps temp ≡ v
  temp_read temp v now h = get_or-set_same now.temps temp v 0 h

  taken_rests : (from : ℕ) (aim : Aim) (v : ℕ) (now : Moment) → IsScratch from aim → Rests from now (taken p before pins now aim v)
  taken_rests from (ToItem item) v now h = absurd h
  taken_rests from (ToTemp temp) v now h = temp_set from temp v now h
  taken_rests from (ToCell array index) v now h = absurd h

  -- a step rests where its target is scratch, or its guard 0
  pub move_rests : (from : ℕ) (move : Move) (now : Moment) → IsScratch from move.aim → Rests from now (effect p before pins now move)
  move_rests from move now h =
      cond_both (nat_eq (value p before pins now move.guard) 0) now (taken p before pins now move.aim (value p before pins now move.value)) (λ (m : Moment). Rests from now m)
      (λ e. rests_none from now)
      (λ e. taken_rests from move.aim (value p before pins now move.value) now h)

  pub idle : (move : Move) (now : Moment) → value p before pins now move.guard ≡ 0 → effect p before pins now move ≡ now
  idle move now h = ap (λ (g : ℕ). chosen g (taken p before pins now move.aim (value p before pins now move.value)) now) h

  pub scratch_rests : (from : ℕ) (moves : List Move) (now : Moment) → All (λ (m : Move). IsScratch from m.aim) moves → Rests from now (run now moves)
  scratch_rests from [] now all = rests_none from now
  scratch_rests from (x ∷ xs) now all =
      rests_on from from now (effect p before pins now x) (run (effect p before pins now x) xs) (omega arith)
      (move_rests from x now (All-head (λ (m : Move). IsScratch from m.aim) x xs all))
      (scratch_rests from xs (effect p before pins now x) (All-tail (λ (m : Move). IsScratch from m.aim) x xs all))

  -- what a temp holds that is set
  pub set_value : (temp : ℕ) (e : Expr) (now : Moment) → temp < length now.temps → value p before pins (run now (set_temp temp e ∷ [])) (Temp temp) ≡ value p before pins now e
  set_value temp e now h = temp_read temp (value p before pins now e) now h

  pub set_rests : (from temp : ℕ) (e : Expr) (now : Moment) → from ≤ temp → Rests from now (run now (set_temp temp e ∷ []))
  set_rests from temp e now le = temp_set from temp (value p before pins now e) now le
