-- Words with their types.
use Rattle.std.specs.Prelude.{ℕ, Bool, ◌&&◌, cond, nat_le, nat_lt, nat_eq}
use Rattle.lisa_words.specs.declared.words.Kind.{Kind}
use Rattle.lisa_words.specs.declared.words.Kind.TheVariants as kinds
use Rattle.lisa_words.specs.Words.{word_cut, word_widen}
use Rattle.lisa_tree.specs.declared.tokens.Shape.{Shape}
use Rattle.description_types.specs.Shapes.{number_shape}
use Rattle.typed_values.specs.declared.values.Value.{Value}

pub record TypedWord : Type 0 where
  pub kind : Kind
  pub width : ℕ
  pub bits : ℕ

abbrev pub typed : Kind → ℕ → ℕ → TypedWord
typed kind width bits = record { kind = kind; width = width; bits = bits }

-- the plain value that the code's value stands for
abbrev pub typed_word : Value → TypedWord
typed_word v = typed v.kind v.word.width v.word.bits

-- a width of a type; one that isn't from 1 to 64, which no accepted description has, counts as 1
abbrev pub word_width : ℕ → ℕ
word_width width = cond (nat_le 1 width && nat_le width 64) width 1

-- the bits of a value at another width: cut, or widened by its own kind
abbrev pub fitted : TypedWord → ℕ → ℕ
fitted v width = cond (nat_lt width v.width) (word_cut width v.bits) (word_widen v.kind v.width v.bits width)

-- a value as one of another type
abbrev pub as_shape : Shape → TypedWord → TypedWord
as_shape shape v = typed shape.kind (word_width shape.width) (fitted v (word_width shape.width))

-- 0 of a type
abbrev pub zero_of : Shape → TypedWord
zero_of shape = typed shape.kind (word_width shape.width) 0

-- a truth value
abbrev pub truth : Bool → TypedWord
truth b = typed kinds.Unsigned 1 (cond b 1 0)

-- a value that isn't 0 is true
abbrev pub is_zero : TypedWord → Bool
is_zero v = nat_eq v.bits 0

abbrev number_in : Shape → ℕ → TypedWord
number_in shape value = typed shape.kind shape.width value

-- a number by itself, or in the kind of another value
abbrev pub number_value : Kind → ℕ → TypedWord
number_value kind value = number_in (number_shape kind value) value
