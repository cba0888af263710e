-- The values of expressions over what a store holds.
use Rattle.std.specs.Prelude.{ℕ, List, [], Option, None, Some, not, bit_and, slice_index, slice_index_or}
use Rattle.lisa_words.specs.declared.words.Kind.{Kind}
use Rattle.lisa_words.specs.declared.words.Kind.TheVariants as kinds
use Rattle.lisa_tree.specs.declared.tokens.Shape.{Shape}
use Rattle.typed_values.specs.Words.{TypedWord, typed, as_shape, truth, is_zero, number_value}
use Rattle.typed_values.specs.Operators.{operand, chosen}
use Rattle.typed_values.specs.Expressions.{made_of, complement}
use Rattle.typed_values.specs.Effects.{whole_of}
use Rattle.behavior_plans.specs.Holdings.{Holdings, word_at}
use Rattle.behavior_plans.specs.Terms.{TermTree, Number, Register, Kept, Pin, Decoded, Local, Element, Input, Cast, Complement, Negate, Two, Choose}

-- the number that a literal is
abbrev pub literal : TermTree → Option ℕ
literal (Number value) = Some value
literal (Register place) = None
literal (Kept place) = None
literal (Pin place) = None
literal Decoded = None
literal (Local slot) = None
literal (Element shape array last index) = None
literal (Input shape place) = None
literal (Cast shape a) = None
literal (Complement a) = None
literal (Negate a) = None
literal (Two operator a b) = None
literal (Choose c a b) = None

-- bits in a type
abbrev pub shaped_word : Shape → ℕ → TypedWord
shaped_word shape bits = as_shape shape (typed kinds.Unsigned 64 bits)

-- a cell in the type of its array
abbrev pub element_word : List (List ℕ) → Shape → ℕ → ℕ → TypedWord
element_word cells shape array index = shaped_word shape (slice_index (slice_index_or cells array []) index)

-- an index from 0 to the last one of an array, which is one less than a power of two
abbrev pub wrapped : ℕ → ℕ → ℕ
wrapped last index = bit_and index last

abbrev pub term_value : Holdings → TermTree → TypedWord
term_value h (Number value) = number_value kinds.Unsigned value
term_value h (Register place) = word_at h.registers place
term_value h (Kept place) = word_at h.kept place
term_value h (Pin place) = word_at h.pins place
term_value h Decoded = truth h.decoded
term_value h (Local slot) = word_at h.slots slot
term_value h (Element shape array last index) = element_word h.cells shape array (wrapped last (term_value h index).bits)
term_value h (Input shape place) = shaped_word shape (slice_index h.fields place)
term_value h (Cast shape a) = as_shape shape (term_value h a)
term_value h (Complement a) = complement (term_value h a)
term_value h (Negate a) = truth (is_zero (term_value h a))
term_value h (Two operator a b) = made_of operator (literal a) (literal b) (term_value h a) (term_value h b)
term_value h (Choose c a b) = chosen (not (is_zero (term_value h c))) (operand (literal a) (literal b) (term_value h a) (term_value h b)) (operand (literal b) (literal a) (term_value h b) (term_value h a))

-- what is assigned, by the kind of the place
abbrev pub term_whole : Holdings → TermTree → Kind → TypedWord
term_whole h e = whole_of (literal e) (term_value h e)
