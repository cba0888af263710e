-- Lengths as 32 bits tell them.
use Rattle.std.proofs.Common.{◌≡◌, ◌≢◌, ℕ, zero, suc, List, Bool, true, false, Option, Some, None, ◌+◌, ◌*◌, ◌^◌, ◌-◌, ◌<◌, ◌≤◌, sym, ap, subst, ◌∙◌, ⊎_elim, arith}
use Rattle.std.specs.Prelude.{min, max, nat_eq, nat_lt, if◌then◌else◌, IfSome}
use Rattle.std.proofs.lemmas.Bool.{cases_lt, eq-eqb}
use Rattle.std.proofs.lemmas.Bool.Decides.{nat_tests}
use Rattle.lisa_words.specs.declared.binary.Operator.{Operator}
use Rattle.lisa_words.specs.declared.binary.Operator.TheVariants as operators
use Rattle.verilog_text.specs.declared.expressions.VOne.{VOne}
use Rattle.verilog_text.specs.declared.expressions.VOne.TheVariants.{Negate}
use Rattle.verilog_text.specs.Trees.{VTree, One}
use Rattle.verilog_text.specs.Values.{Widths, v_width, two_width}
use Rattle.verilog_text.specs.WidePlaces.{where_wide}
use Rattle.verilog_size_checks.specs.Sought.{capped, misfit}

pub capped_small : (n : ℕ) → n < 2 ^ 32 → n ≡ capped n
unfolding capped
capped_small n small = omega arith

pub capped_sum : (a b x y : ℕ) → a ≡ capped x → b ≡ capped y → min (a + b) (2 ^ 32 - 1) ≡ capped (x + y)
unfolding capped
capped_sum a b x y e g = omega arith

pub capped_max : (a b x y : ℕ) → a ≡ capped x → b ≡ capped y → max a b ≡ capped (max x y)
unfolding capped
capped_max a b x y e g = omega arith

times_capped : (times x : ℕ) → min (times * min x (2 ^ 32 - 1)) (2 ^ 32 - 1) ≡ min (times * x) (2 ^ 32 - 1)
times_capped zero x = omega arith
times_capped (suc times) x =
    ⊎_elim
    (λ less. let e : min x (2 ^ 32 - 1) ≡ x = omega arith in ap (λ (k : ℕ). min (suc times * k) (2 ^ 32 - 1)) e)
    (λ le.
    let e : min x (2 ^ 32 - 1) ≡ 2 ^ 32 - 1 = omega arith in
    let more : x ≤ suc times * x = omega arith in
    let end : min (suc times * (2 ^ 32 - 1)) (2 ^ 32 - 1) ≡ min (suc times * x) (2 ^ 32 - 1) = omega arith in
    ap (λ (k : ℕ). min (suc times * k) (2 ^ 32 - 1)) e ∙ end)
    (cases_lt x (2 ^ 32 - 1))

pub capped_times : (times a x : ℕ) → a ≡ capped x → min (times * a) (2 ^ 32 - 1) ≡ capped (times * x)
unfolding capped
capped_times times a x e = ap (λ (k : ℕ). min (times * k) (2 ^ 32 - 1)) e ∙ times_capped times x

pub capped_two : (operator : Operator) (a b x y : ℕ) → a ≡ capped x → b ≡ capped y → two_width operator a b ≡ capped (two_width operator x y)
capped_two operators.Equal a b x y e g = capped_small 1 (omega arith)
capped_two operators.Unequal a b x y e g = capped_small 1 (omega arith)
capped_two operators.Less a b x y e g = capped_small 1 (omega arith)
capped_two operators.LessEqual a b x y e g = capped_small 1 (omega arith)
capped_two operators.Greater a b x y e g = capped_small 1 (omega arith)
capped_two operators.GreaterEqual a b x y e g = capped_small 1 (omega arith)
capped_two operators.BothTrue a b x y e g = capped_small 1 (omega arith)
capped_two operators.OneTrue a b x y e g = capped_small 1 (omega arith)
capped_two operators.Left a b x y e g = e
capped_two operators.Right a b x y e g = e
capped_two operators.Add a b x y e g = capped_max a b x y e g
capped_two operators.Sub a b x y e g = capped_max a b x y e g
capped_two operators.Mul a b x y e g = capped_max a b x y e g
capped_two operators.And a b x y e g = capped_max a b x y e g
capped_two operators.Or a b x y e g = capped_max a b x y e g
capped_two operators.Xor a b x y e g = capped_max a b x y e g

-- a part more
pub capped_more : (r a x y : ℕ) → r ≡ capped (a + x) → capped (r + y) ≡ capped (a + (x + y))
unfolding capped
capped_more r a x y e = omega arith

pub capped_end : (a all : ℕ) → a < 2 ^ 32 → capped (a + 0) ≡ capped all → a ≡ capped all
capped_end a all small e = let same : a ≡ a + 0 = omega arith in capped_small a small ∙ ap capped same ∙ e

pub wide_above : (width x at : ℕ) → 64 < width → width ≡ capped x → Some at ≡ where_wide x at
unfolding capped
wide_above width x at more e =
    let far : 64 < x = omega arith in
    let test : nat_lt 64 x ≡ true = above x far in
    ap (λ (b : Bool). if b then Some at else None) (sym test)
  where
    above : (n : ℕ) → 64 < n → nat_lt 64 n ≡ true
    above n less = grind (arith, nat_tests)

pub wide_within : (width x at : ℕ) → width ≤ 64 → width ≡ capped x → None ≡ where_wide x at
unfolding capped
wide_within width x at less e =
    let near : x ≤ 64 = omega arith in
    let test : nat_lt 64 x ≡ false = within x near in
    ap (λ (b : Bool). if b then Some at else None) (sym test)
  where
    within : (n : ℕ) → n ≤ 64 → nat_lt 64 n ≡ false
    within n le = grind (arith, nat_tests)

-- the length of an index against the one that is needed
same_length : (width x k : ℕ) → width ≡ capped x → width ≡ k → k < 32 → x ≡ k
unfolding capped
same_length width x k e same small = omega arith

other_length : (width x k : ℕ) → width ≡ capped x → width ≢ k → k < 32 → x ≢ k
unfolding capped
other_length width x k e differ small same = differ (omega arith)

other_test : (a b : ℕ) → a ≢ b → nat_eq a b ≡ false
other_test a b apart = grind (arith, nat_tests)

abbrev told_of : List ℕ → ℕ → ℕ → List ℕ × ℕ × ℕ
told_of name width needed = (name, width, needed)

pub misfit_none : (name : List ℕ) (width x k : ℕ) → width ≡ capped x → width ≡ k → k < 32 → misfit name x (Some k) ≡ None
misfit_none name width x k e same small =
    let test : nat_eq x k ≡ true = eq-eqb x k (same_length width x k e same small) in
    ap (λ (b : Bool). if b then None else Some (told_of name (capped x) k)) test

pub misfit_some : (name : List ℕ) (width x k : ℕ) → width ≡ capped x → width ≢ k → k < 32 → misfit name x (Some k) ≡ Some (name, width, k)
misfit_some name width x k e differ small =
    let test : nat_eq x k ≡ false = other_test x k (other_length width x k e differ small) in
    ap (λ (b : Bool). if b then None else Some (told_of name (capped x) k)) test ∙ ap (λ (n : ℕ). Some (told_of name n k)) (sym e)

small_needed : (k : ℕ) (o : Option ℕ) → o ≡ Some k → IfSome o (λ j. j < 32) → k < 32
small_needed k o is small = subst (λ (p : Option ℕ). IfSome p (λ j. j < 32)) is small

pub misfit_right : (name : List ℕ) (width x k : ℕ) (o : Option ℕ) → o ≡ Some k → IfSome o (λ j. j < 32) → width ≡ capped x → width ≡ k → misfit name x o ≡ None
misfit_right name width x k o is small e same = ap (misfit name x) is ∙ misfit_none name width x k e same (small_needed k o is small)

pub misfit_wrong : (name copy : List ℕ) (width x k : ℕ) (o : Option ℕ) → o ≡ Some k → IfSome o (λ j. j < 32) → width ≡ capped x → width ≢ k → copy ≡ name → misfit name x o ≡ Some (copy, width, k)
misfit_wrong name copy width x k o is small e differ same =
    ap (misfit name x) is ∙ misfit_some name width x k e differ (small_needed k o is small) ∙ ap (λ (n : List ℕ). Some (told_of n width k)) (sym same)

pub one_length : (one : VOne) (a : ℕ) (widths : Widths) (e : VTree) → one ≡ Negate → 1 ≡ capped (v_width widths (One one e))
one_length one a widths e is = capped_small 1 (omega arith) ∙ ap (λ (o : VOne). capped (v_width widths (One o e))) (sym is)
