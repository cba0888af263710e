-- What operands cost, and what operators cost over any operands.
use Rattle.std.proofs.Common.{ℕ, ◌+◌, ◌≡◌, ◌≤◌, Bool, true, false, ap, arith, nat_eq, if◌then◌else◌}
use Rattle.step_program.specs.declared.expressions.OneOp.{OneOp}
use Rattle.step_program.specs.declared.expressions.OneOp.TheVariants.{Not, Cut, Widen}
use Rattle.step_program.specs.declared.expressions.TwoOp.{TwoOp}
use Rattle.step_program.specs.declared.expressions.TwoOp.TheVariants as ops
use Rattle.step_program.specs.Programs.{Program, Expr, Const, Now, Before, Pin, Temp, Cell, One, Two, Choose, ToItem, ToTemp, ToCell}
use Rattle.step_program.specs.Effects.{width}
use Rattle.step_pieces.specs.Pieces.{set_temp}
use Rattle.netlist_rules.specs.Sizes.{sign_most}
use Rattle.module_sizes.specs.Charges.{wire_most, held_most, name_most, operand_most, settled_most, given_most}
use Rattle.module_sizes.specs.Costs.{Rates, IsLongest, expr_cost, move_cost, IsFree}

one_of : (b : Bool) (x y n : ℕ) → x ≤ n → y ≤ n → (if b then x else y) ≤ n
one_of true x y n h k = h
one_of false x y n h k = k

-- what a temp holds is a wire or a number
pub held_low : (width : ℕ) → held_most width ≤ 25
held_low width = one_of (nat_eq width 1) 14 25 25 (omega arith) (omega arith)

-- of one bit a wire
pub bit_low : (width : ℕ) → width ≡ 1 → held_most width ≤ 14
bit_low width is = omega (arith, ap held_most is)

pub temp_low : (p : Program) (most temp : ℕ) → operand_most p most (Temp temp) ≤ 25
temp_low p most temp = held_low (width p (Temp temp))

pub sign_low : (two : TwoOp) → sign_most two ≤ 3
sign_low ops.Add = omega arith
sign_low ops.Sub = omega arith
sign_low ops.Mul = omega arith
sign_low ops.And = omega arith
sign_low ops.Or = omega arith
sign_low ops.Xor = omega arith
sign_low ops.Shl = omega arith
sign_low ops.Shr = omega arith
sign_low ops.Equal = omega arith
sign_low ops.Less = omega arith

module _ (p : Program) (most : ℕ) (names : IsLongest most) where
  -- whatever stands as an operand, it is no longer than the longest name
  pub operand_low : (e : Expr) → operand_most p most e ≤ 196
  operand_low (Const w v) = omega arith
  operand_low (Now item) = let h = names.greatest in omega (arith, h)
  operand_low (Before item) = let h = names.greatest in omega (arith, h)
  operand_low (Pin pin) = let h = names.greatest in omega (arith, h)
  operand_low (Temp temp) = let h = temp_low p most temp in omega (arith, h)
  operand_low (Cell array index) = omega arith
  operand_low (One Not a) = omega arith
  operand_low (One (Cut narrow) a) = one_of (nat_eq narrow (width p a)) (operand_most p most a) wire_most 196 (operand_low a) (omega arith)
  operand_low (One (Widen wide) a) = one_of (nat_eq wide (width p a)) (operand_most p most a) wire_most 196 (operand_low a) (omega arith)
  operand_low (Two two a b) = omega arith
  operand_low (Choose test this other) = omega arith

  pub settled_low : (e : Expr) → settled_most p most e ≤ 243
  settled_low (Const w v) = omega arith
  settled_low (Now item) = let h = names.greatest in omega (arith, h)
  settled_low (Before item) = let h = names.greatest in omega (arith, h)
  settled_low (Pin pin) = let h = names.greatest in omega (arith, h)
  settled_low (Temp temp) = omega arith
  settled_low (Cell array index) = omega arith
  settled_low (One Not a) = omega arith
  settled_low (One (Cut narrow) a) = one_of (nat_eq narrow (width p a)) (settled_most p most a) 0 243 (settled_low a) (omega arith)
  settled_low (One (Widen wide) a) = one_of (nat_eq wide (width p a)) (settled_most p most a) 0 243 (settled_low a) (omega arith)
  settled_low (Two two a b) = omega arith
  settled_low (Choose test this other) = omega arith

  module _ (rates : Rates) where
    abbrev cost : Expr → ℕ
    cost e = expr_cost p most rates e

    -- ---- operators over operands that cost so much

    pub one_cost : (one : OneOp) (a : Expr) (m : ℕ) → cost a ≤ m → cost (One one a) ≤ m + 255
    one_cost one a m h = let o = operand_low a in omega (arith, h, o)

    pub two_cost : (two : TwoOp) (a b : Expr) (m n : ℕ) → cost a ≤ m → cost b ≤ n → cost (Two two a b) ≤ m + n + 442
    two_cost two a b m n h k = let o = operand_low a in let q = operand_low b in let s = sign_low two in omega (arith, h, k, o, q, s)

    pub choose_cost : (test this other : Expr) (l m n : ℕ) → cost test ≤ l → cost this ≤ m → cost other ≤ n → cost (Choose test this other) ≤ l + m + n + 639
    choose_cost test this other l m n g h k =
        let o = operand_low test in
        let q = operand_low this in
        let r = operand_low other in
        omega (arith, g, h, k, o, q, r)

    -- of an operator's result the complement costs little more
    pub not_two_cost : (two : TwoOp) (a b : Expr) (m : ℕ) → cost (Two two a b) ≤ m → cost (One Not (Two two a b)) ≤ m + 86
    not_two_cost two a b m h = omega (arith, h)

    -- ---- steps

    -- a temp that is always set
    pub set_cost : (temp : ℕ) (e : Expr) (m : ℕ) → cost e ≤ m → move_cost p most rates (set_temp temp e) ≤ m + 243
    set_cost temp e m h = let s = settled_low e in omega (arith, h, s)

    -- under a guard
    given_low : (old : ℕ) (guard value : Expr) → old ≤ 196 → given_most p most old guard value ≤ 639
    given_low old (Const w v) value o = let s = settled_low value in omega (arith, s)
    given_low old (Now item) value o = let g = operand_low (Now item) in let v = operand_low value in omega (arith, o, g, v)
    given_low old (Before item) value o = let g = operand_low (Before item) in let v = operand_low value in omega (arith, o, g, v)
    given_low old (Pin pin) value o = let g = operand_low (Pin pin) in let v = operand_low value in omega (arith, o, g, v)
    given_low old (Temp temp) value o = let g = operand_low (Temp temp) in let v = operand_low value in omega (arith, o, g, v)
    given_low old (Cell array index) value o = let v = operand_low value in omega (arith, o, v)
    given_low old (One one a) value o = let g = operand_low (One one a) in let v = operand_low value in omega (arith, o, g, v)
    given_low old (Two two a b) value o = let v = operand_low value in omega (arith, o, v)
    given_low old (Choose c a b) value o = let v = operand_low value in omega (arith, o, v)

    pub item_cost : (guard : Expr) (item : ℕ) (value : Expr) (m : ℕ) → IsFree p most rates guard → cost value ≤ m
        → move_cost p most rates (record { guard = guard; aim = ToItem item; value = value }) ≤ m + 639
    item_cost guard item value m free h =
        let greatest = names.greatest in
        let g = given_low (name_most most) guard value (omega (arith, greatest)) in
        omega (arith, free, h, g)

    pub temp_cost : (guard : Expr) (temp : ℕ) (value : Expr) (m : ℕ) → IsFree p most rates guard → cost value ≤ m
        → move_cost p most rates (record { guard = guard; aim = ToTemp temp; value = value }) ≤ m + 639
    temp_cost guard temp value m free h =
        let old = held_low (width p (Temp temp)) in
        let g = given_low (held_most (width p (Temp temp))) guard value (omega (arith, old)) in
        omega (arith, free, h, g)

    pub cell_cost : (guard : Expr) (array : ℕ) (index value : Expr) (m n : ℕ) → IsFree p most rates guard → cost index ≤ m → cost value ≤ n
        → move_cost p most rates (record { guard = guard; aim = ToCell array index; value = value }) ≤ m + n + 810 + rates.write array
    cell_cost guard array index value m n free h k =
        let greatest = names.greatest in
        let g = operand_low guard in
        let i = operand_low index in
        let v = operand_low value in
        omega (arith, free, h, k, g, i, v, greatest)
