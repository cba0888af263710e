use Rattle.std.proofs.Common.{◌≡◌, ◌≤◌, ◌<◌, ◌^◌, ℕ, ◌+◌, ◌*◌, get_or, arith, inl, inr}
use Rattle.std.proofs.lemmas.Bool.{cases_lt}
use Rattle.instruction_texts.specs.Runs.{digit}
use Rattle.instruction_texts.proofs.Summing.{sum_on, too_large}
use Rattle.instruction_texts.proofs.numbers.value_up_to.Goals as goal

over : (a n : ℕ) → (a < n → ⊥) → n ≤ a
over a n h = elim (cases_lt a n) [ inl lt ↦ absurd (h lt) | inr le ↦ le ]

pub returns-in_default : goal.returns-in_default
returns-in_default c up =
    let d : digit (get_or c.args.digits.now c.digits.i 0) < c.args.base = rw c.digit_value-digit.ensures at c.if-digit-base.false in
    let big : 2 ^ 64 ≤ c.digits.sum * c.args.base = over (c.digits.sum * c.args.base) (2 ^ 64) c.in_default.ensures in
    too_large c.args.base c.args.high c.args.digits.now c.digits.i c.digits.sum (omega arith) c.digits.invariant (omega arith) d (omega arith) up

pub returns-in_default-checked_add : goal.returns-in_default-checked_add
returns-in_default-checked_add c up =
    let d : digit (get_or c.args.digits.now c.digits.i 0) < c.args.base = rw c.digit_value-digit.ensures at c.if-digit-base.false in
    let big : 2 ^ 64 ≤ c.in-Some.product + c.digit_value-digit.result = over (c.in-Some.product + c.digit_value-digit.result) (2 ^ 64) c.in_default-checked_add.ensures in
    too_large c.args.base c.args.high c.args.digits.now c.digits.i c.digits.sum (omega arith) c.digits.invariant (omega arith) d (omega (arith, c.in-Some.ensures.1, c.digit_value-digit.ensures)) up

pub returns-then-next-high : goal.returns-then-next-high
returns-then-next-high c up =
    let d : digit (get_or c.args.digits.now c.digits.i 0) < c.args.base = rw c.digit_value-digit.ensures at c.if-digit-base.false in
    too_large c.args.base c.args.high c.args.digits.now c.digits.i c.digits.sum (omega arith) c.digits.invariant (omega arith) d (omega (arith, c.in-Some.ensures.1, c.in-Some-checked_add.ensures.1, c.digit_value-digit.ensures)) up

pub digits-preserved : goal.digits-preserved
digits-preserved c =
    let d : digit (get_or c.args.digits.now c.digits.i 0) < c.args.base = rw c.digit_value-digit.ensures at c.if-digit-base.false in
    let e : c.digits.sum * c.args.base + digit (get_or c.args.digits.now c.digits.i 0) ≡ c.in-Some-checked_add.next = omega (arith, c.in-Some.ensures.1, c.in-Some-checked_add.ensures.1, c.digit_value-digit.ensures) in
    rw (← e) (sum_on c.args.base c.args.digits.now c.digits.i c.digits.sum c.digits.invariant (omega arith) d)
