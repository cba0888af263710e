-- A number at a width, whatever its kind.
use Rattle.std.proofs.Common.{◌≡◌, ◌<◌, ◌+◌, ◌-◌, ◌^◌, ℕ, Bool, true, false, cond, nat_lt, refl, ap, subst, arith}
use Rattle.lisa_words.specs.declared.words.Kind.{Kind}
use Rattle.lisa_words.specs.declared.words.Kind.TheVariants as kinds
use Rattle.lisa_words.specs.Words.{word_cut, word_widen, reduced}
use Rattle.lisa_words.proofs.WordLaws.{low_half}
use Rattle.lisa_tree.specs.declared.tokens.Shape.{Shape}
use Rattle.description_types.specs.Shapes.{digit_count, shape_of}
use Rattle.typed_values.specs.Words.{TypedWord, typed, fitted, number_value}
use Rattle.typed_values.proofs.Numbers.{digits_hold}

-- cut or widened, it is what it means, modulo the width
unsigned_at : (n v width : ℕ) → fitted (typed kinds.Unsigned n v) width ≡ word_cut width v
unsigned_at n v width = elim (nat_lt width n) as (λ b. cond b (word_cut width v) (word_widen kinds.Unsigned n v width) ≡ word_cut width v) [
  | true ↦ refl
  | false ↦ refl
]

signed_at : (n v width : ℕ) → v < 2 ^ (n - 1) → fitted (typed kinds.Signed n v) width ≡ word_cut width v
signed_at n v width low = elim (nat_lt width n) as (λ b. cond b (word_cut width v) (word_widen kinds.Signed n v width) ≡ word_cut width v) [
  | true ↦ refl
  | false ↦ ap (λ z. reduced z width) (low_half n v low)
]

abbrev typed_of : Shape → ℕ → TypedWord
typed_of shape v = typed shape.kind shape.width v

one_more : (n : ℕ) → n ≡ n + 1 - 1
one_more n = omega arith

signed_number : (v width : ℕ) (b : Bool) → v < 2 ^ 64 → fitted (typed_of (cond b (shape_of kinds.Signed (digit_count v + 1)) (shape_of kinds.Unsigned 64)) v) width ≡ word_cut width v
signed_number v width true h = signed_at (digit_count v + 1) v width (subst (λ (n : ℕ). v < 2 ^ n) (one_more (digit_count v)) (digits_hold v h).1)
signed_number v width false h = unsigned_at 64 v width

pub number_at : (kind : Kind) (v width : ℕ) → v < 2 ^ 64 → fitted (number_value kind v) width ≡ word_cut width v
number_at kinds.Unsigned v width h = unsigned_at _ v width
number_at kinds.Signed v width h = signed_number v width (nat_lt (digit_count v) 64) h
