-- Bits, temps that are set, and the widths of pieces one after the other.
use Rattle.std.proofs.Common.{◌≡◌, ℕ, Bool, true, false, not, ◌&&◌, ◌||◌, cond, List, ◌++◌, refl, ap, ◌∙◌, bit_and, bit_or, nat_eq}
use Rattle.std.proofs.lemmas.List.Sums.{fold-append}
use Rattle.step_program.specs.Programs.{Expr, Move, Program}
use Rattle.step_program.specs.Effects.{Moment, value, effect}
use Rattle.step_pieces.specs.Running.{ran}
use Rattle.lowered_time.specs.Pieces.{both, either, none}
use Rattle.lowered_time.specs.Lowering.{bit}

-- ---- bits

pub and_bits : (a b : Bool) → bit_and (bit a) (bit b) ≡ bit (a && b)
and_bits true true = refl
and_bits true false = refl
and_bits false true = refl
and_bits false false = refl

pub or_bits : (a b : Bool) → bit_or (bit a) (bit b) ≡ bit (a || b)
or_bits true true = refl
or_bits true false = refl
or_bits false true = refl
or_bits false false = refl

pub none_bit : (b : Bool) → cond (nat_eq (bit b) 0) 1 0 ≡ bit (not b)
none_bit true = refl
none_bit false = refl

module _ (p : Program) (before pins : List ℕ) where
  pub both_is : (now : Moment) (x y : Expr) (a b : Bool) → value p before pins now x ≡ bit a → value p before pins now y ≡ bit b → value p before pins now (both x y) ≡ bit (a && b)
  both_is now x y a b is_x is_y = ap (λ (n : ℕ). bit_and n (value p before pins now y)) is_x ∙ ap (λ (n : ℕ). bit_and (bit a) n) is_y ∙ and_bits a b

  pub either_is : (now : Moment) (x y : Expr) (a b : Bool) → value p before pins now x ≡ bit a → value p before pins now y ≡ bit b → value p before pins now (either x y) ≡ bit (a || b)
  either_is now x y a b is_x is_y = ap (λ (n : ℕ). bit_or n (value p before pins now y)) is_x ∙ ap (λ (n : ℕ). bit_or (bit a) n) is_y ∙ or_bits a b

  pub none_is : (now : Moment) (x : Expr) (a : Bool) → value p before pins now x ≡ bit a → value p before pins now (none x) ≡ bit (not a)
  none_is now x a is_x = ap (λ (n : ℕ). cond (nat_eq n 0) 1 0) is_x ∙ none_bit a

  pub ran_append : (xs ys : List Move) (now : Moment) → ran p before pins now (xs ++ ys) ≡ ran p before pins (ran p before pins now xs) ys
  ran_append xs ys now = fold-append (effect p before pins) now xs ys
