-- What operators make of typed words.
use Rattle.std.specs.Prelude.{ℕ, Bool, Option, None, Some, max, not, ◌&&◌, ◌||◌, nat_eq, cond, bit_and, bit_or, bit_xor}
use Rattle.lisa_words.specs.Words.{word_add, word_sub, word_mul, word_shl, word_shr, word_less}
use Rattle.lisa_words.specs.declared.binary.Operator.{Operator}
use Rattle.lisa_words.specs.declared.binary.Operator.TheVariants as operators
use Rattle.description_types.specs.Shapes.{joined_kind}
use Rattle.typed_values.specs.declared.operations.Arithmetic.{Arithmetic}
use Rattle.typed_values.specs.declared.operations.Arithmetic.TheVariants as arithmetics
use Rattle.typed_values.specs.Words.{TypedWord, typed, fitted, truth, is_zero, number_value}

-- both are widened to the greater width, each by its own kind; what is made of them is signed only where both are
abbrev pub both : (ℕ → ℕ → ℕ → ℕ) → TypedWord → TypedWord → TypedWord
both make a b = typed (joined_kind a.kind b.kind) (max a.width b.width) (make (max a.width b.width) (fitted a (max a.width b.width)) (fitted b (max a.width b.width)))

abbrev pub made_by : Arithmetic → ℕ → ℕ → ℕ → ℕ
made_by arithmetics.Add = word_add
made_by arithmetics.Sub = word_sub
made_by arithmetics.Mul = word_mul
made_by arithmetics.And = λ w x y. bit_and x y
made_by arithmetics.Or = λ w x y. bit_or x y
made_by arithmetics.Xor = λ w x y. bit_xor x y

abbrev pub is_same : TypedWord → TypedWord → Bool
is_same a b = nat_eq (fitted a (max a.width b.width)) (fitted b (max a.width b.width))

-- as signed numbers only where both are signed
abbrev pub is_less : TypedWord → TypedWord → Bool
is_less a b = word_less (joined_kind a.kind b.kind) (max a.width b.width) (fitted a (max a.width b.width)) (fitted b (max a.width b.width))

abbrev pub two_value : Operator → TypedWord → TypedWord → TypedWord
two_value operators.Add a b = both word_add a b
two_value operators.Sub a b = both word_sub a b
two_value operators.Mul a b = both word_mul a b
two_value operators.And a b = both (λ w x y. bit_and x y) a b
two_value operators.Or a b = both (λ w x y. bit_or x y) a b
two_value operators.Xor a b = both (λ w x y. bit_xor x y) a b
two_value operators.Left a b = typed a.kind a.width (word_shl a.width a.bits b.bits)
two_value operators.Right a b = typed a.kind a.width (word_shr a.kind a.width a.bits b.bits)
two_value operators.Equal a b = truth (is_same a b)
two_value operators.Unequal a b = truth (not (is_same a b))
two_value operators.Less a b = truth (is_less a b)
two_value operators.LessEqual a b = truth (not (is_less b a))
two_value operators.Greater a b = truth (is_less b a)
two_value operators.GreaterEqual a b = truth (not (is_less a b))
two_value operators.BothTrue a b = truth (not (is_zero a) && not (is_zero b))
two_value operators.OneTrue a b = truth (not (is_zero a) || not (is_zero b))

-- an operand beside another: a literal takes the kind of the other where that is none. Given are the numbers of those that are literals.
abbrev pub operand : Option ℕ → Option ℕ → TypedWord → TypedWord → TypedWord
operand (Some v) None own other = number_value other.kind v
operand _ _ own other = own

-- the type and value of `test ? a : b`: the chosen one, widened as beside the other
abbrev pub chosen : Bool → TypedWord → TypedWord → TypedWord
chosen test a b = typed (joined_kind a.kind b.kind) (max a.width b.width) (cond test (fitted a (max a.width b.width)) (fitted b (max a.width b.width)))
