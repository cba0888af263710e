-- Reading names, fields and instances.
use Rattle.std.specs.Prelude.{ℕ, Bool, true, false, not, List, ◌∷◌, Some, None, ◌==◌, if◌then◌else◌}
use Rattle.lisa_tree.specs.declared.tokens.Shape.{Shape}
use Rattle.lisa_tree.specs.declared.tokens.Sign.{Sign}
use Rattle.lisa_tree.specs.declared.tokens.Sign.TheVariants as signs
use Rattle.lisa_tree.specs.declared.tokens.TokenPart.{TokenPart}
use Rattle.lisa_tree.specs.declared.tokens.TokenPart.TheVariants as parts
use Rattle.lisa_tree.specs.Grammar.{Toks}
use Rattle.lisa_words.specs.Many.{Item, many}
use Rattle.lisa_words.specs.Steps.{◌>>=◌}
use Rattle.lisa_behav_reader.specs.Past.{past_of, number_of}
use Rattle.lisa_behav_reader.specs.Reading.{name_of}

-- the sign stands in front of a name
abbrev pub follows : Sign → Toks → Bool
follows sign (parts.Sign first ∷ parts.Named name ∷ ts) = number_of first == number_of sign
follows sign _ = false

-- a sign, and the name behind it
unfoldable pub behind_of : Sign → Item TokenPart (List ℕ)
behind_of sign ts = past_of sign ts >>= λ a. name_of a

abbrev pub ends_names : Sign → Toks → Bool
ends_names sign ts = not (follows sign ts)

unfoldable pub more_names_of : Sign → Item TokenPart (List (List ℕ))
more_names_of sign ts = many (behind_of sign) (ends_names sign) ts

-- one or more names with a sign between each two
unfoldable pub names_of : Sign → Item TokenPart (List (List ℕ))
names_of sign ts = name_of ts >>= λ first. more_names_of sign first.1 >>= λ more. Some (first.0 ∷ more.0, more.1)

-- the tokens without a sign that may stand in front
abbrev pub without : Sign → Toks → Toks
without sign (parts.Sign first ∷ ts) = if number_of first == number_of sign then ts else parts.Sign first ∷ ts
without sign ts = ts

-- a type and a name
abbrev pub typed_of : Item TokenPart (Shape × List ℕ)
typed_of (parts.TypeWord shape ∷ parts.Named name ∷ ts) = Some ((shape, name), ts)
typed_of _ = None

-- `type name ;`
unfoldable pub field_of : Item TokenPart (Shape × List ℕ)
field_of ts = typed_of ts >>= λ t. past_of signs.Semicolon t.1 >>= λ rest. Some (t.0, rest)

abbrev pub is_typed : Toks → Bool
is_typed (parts.TypeWord shape ∷ ts) = true
is_typed _ = false

abbrev pub ends_fields : Toks → Bool
ends_fields ts = not (is_typed ts)

unfoldable pub fields_of : Item TokenPart (List (Shape × List ℕ))
fields_of ts = many field_of ends_fields ts
