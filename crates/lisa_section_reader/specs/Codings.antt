-- Reading codings.
use Rattle.std.specs.Prelude.{ℕ, List, ◌∷◌, length, Option, Some, None, ◌==◌, ◌&&◌, nat_le, if◌then◌else◌}
use Rattle.lisa_tree.specs.declared.tokens.Keyword.TheVariants as keywords
use Rattle.lisa_tree.specs.declared.tokens.Sign.TheVariants as signs
use Rattle.lisa_tree.specs.declared.tokens.TokenPart.{TokenPart}
use Rattle.lisa_tree.specs.declared.tokens.TokenPart.TheVariants as parts
use Rattle.lisa_tree.specs.declared.descriptions.Pattern.{Pattern}
use Rattle.lisa_tree.specs.declared.descriptions.CodingItem.{CodingItem}
use Rattle.lisa_tree.specs.declared.descriptions.CodingItem.TheVariants as codings
use Rattle.lisa_tree.specs.Expressions as expressions
use Rattle.lisa_tree.specs.Expressions.{ExprTree}
use Rattle.lisa_tree.specs.Descriptions as descriptions
use Rattle.lisa_tree.specs.Descriptions.{CodingTree}
use Rattle.lisa_words.specs.Many.{Item, many}
use Rattle.lisa_words.specs.Steps.{◌>>=◌}
use Rattle.lisa_behav_reader.specs.Past.{past_of}
use Rattle.lisa_behav_reader.specs.Reading.{name_of}
use Rattle.lisa_section_reader.specs.Resources.{ends}

-- how often a digit may stand
abbrev pub count_of : ℕ → Option ℕ
count_of times = if nat_le 1 times && nat_le times 65535 then Some times else None

abbrev pub whole_pattern : List ℕ → Option ℕ → Pattern
whole_pattern digits times = record { digits = digits; times = times }

-- one digit that stands some number of times
abbrev pub repeated_of : List ℕ → ℕ → Option Pattern
repeated_of digits times = if length digits == 1 then (count_of times >>= λ n. Some (whole_pattern digits (Some n))) else None

-- behind the digits of a pattern
abbrev pub times_of : List ℕ → Item TokenPart Pattern
times_of digits (parts.Sign signs.OpenSquare ∷ parts.Number times base ∷ parts.Sign signs.CloseSquare ∷ ts) = repeated_of digits times >>= λ pattern. Some (pattern, ts)
times_of digits (parts.Sign signs.OpenSquare ∷ ts) = None
times_of digits ts = Some (whole_pattern digits None, ts)

abbrev pub bits_of : Item TokenPart Pattern
bits_of (parts.Pattern digits ∷ ts) = times_of digits ts
bits_of _ = None

-- behind the name that an element begins with
abbrev pub field_of : List ℕ → Item TokenPart CodingItem
field_of name (parts.Sign signs.Equal ∷ ts) = bits_of ts >>= λ bits. Some (codings.Field name bits.0, bits.1)
field_of name ts = Some (codings.Child name, ts)

unfoldable pub element_of : Item TokenPart CodingItem
element_of (parts.Named name ∷ ts) = field_of name ts
element_of ts = bits_of ts >>= λ bits. Some (codings.Bits bits.0, bits.1)

unfoldable pub elements_of : Item TokenPart (List CodingItem)
elements_of ts = many element_of ends ts

-- one or more elements
unfoldable pub element_list_of : Item TokenPart (List CodingItem)
element_list_of ts = element_of ts >>= λ first. elements_of first.1 >>= λ more. Some (first.0 ∷ more.0, more.1)

unfoldable pub items_of : Item TokenPart CodingTree
items_of ts = element_list_of ts >>= λ all. Some (descriptions.Items all.0, all.1)

-- the group of a root, behind its `==`
unfoldable pub group_of : ExprTree → Item TokenPart CodingTree
group_of place ts = name_of ts >>= λ group. Some (descriptions.Root place group.0, group.1)

-- behind the place of a root
unfoldable pub root_of : ExprTree → Item TokenPart CodingTree
root_of place ts = past_of signs.EqualEqual ts >>= λ rest. group_of place rest

unfoldable pub coding_of : Item TokenPart CodingTree
coding_of (parts.Reserved keywords.In ∷ parts.Sign signs.Dot ∷ parts.Named field ∷ ts) = root_of (expressions.Input field) ts
coding_of (parts.Named register ∷ parts.Sign signs.EqualEqual ∷ ts) = group_of (expressions.Named register) ts
coding_of ts = items_of ts
