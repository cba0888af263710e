-- Reading declarations.
use Rattle.std.specs.Prelude.{ℕ, Bool, true, false, not, List, ◌∷◌, Option, Some, None}
use Rattle.lisa_tree.specs.declared.tokens.Keyword.TheVariants as keywords
use Rattle.lisa_tree.specs.declared.tokens.Sign.TheVariants as signs
use Rattle.lisa_tree.specs.declared.tokens.TokenPart.{TokenPart}
use Rattle.lisa_tree.specs.declared.tokens.TokenPart.TheVariants as parts
use Rattle.lisa_tree.specs.Descriptions as descriptions
use Rattle.lisa_tree.specs.Descriptions.{DeclareTree}
use Rattle.lisa_tree.specs.Grammar.{Toks}
use Rattle.lisa_words.specs.Many.{Item, many}
use Rattle.lisa_words.specs.Steps.{◌>>=◌}
use Rattle.lisa_behav_reader.specs.Past.{past_of}
use Rattle.lisa_behav_reader.specs.Reading.{name_of}
use Rattle.lisa_section_reader.specs.Lists.{names_of}
use Rattle.lisa_section_reader.specs.Resources.{ends}

abbrev pub Answer : Type 0
Answer = Option (DeclareTree × Toks)

-- what stands behind the name of an instance
abbrev pub meaning_of : List ℕ → Item TokenPart (List ℕ × List ℕ)
meaning_of name (parts.Sign signs.Equal ∷ parts.Named operation ∷ ts) = Some ((name, operation), ts)
meaning_of name ts = Some ((name, name), ts)

unfoldable pub instance_of : Item TokenPart (List ℕ × List ℕ)
instance_of ts = name_of ts >>= λ name. meaning_of name.0 name.1

unfoldable pub next_instance_of : Item TokenPart (List ℕ × List ℕ)
next_instance_of ts = past_of signs.Comma ts >>= λ a. instance_of a

abbrev pub has_comma : Toks → Bool
has_comma (parts.Sign signs.Comma ∷ ts) = true
has_comma _ = false

abbrev pub ends_instances : Toks → Bool
ends_instances ts = not (has_comma ts)

unfoldable pub more_instances_of : Item TokenPart (List (List ℕ × List ℕ))
more_instances_of ts = many next_instance_of ends_instances ts

unfoldable pub group_of : Toks → Answer
group_of ts =
    names_of signs.Comma ts >>= λ names. past_of signs.Equal names.1 >>= λ a. past_of signs.OpenBrace a >>= λ b. names_of signs.OrOr b >>= λ alternatives. past_of signs.CloseBrace alternatives.1 >>= λ c.
    past_of signs.Semicolon c >>= λ rest. Some (descriptions.Group names.0 alternatives.0, rest)

-- one or more instances with commas between them
unfoldable pub instance_list_of : Item TokenPart (List (List ℕ × List ℕ))
instance_list_of ts = instance_of ts >>= λ first. more_instances_of first.1 >>= λ more. Some (first.0 ∷ more.0, more.1)

unfoldable pub instances_of : Toks → Answer
instances_of ts = instance_list_of ts >>= λ all. past_of signs.Semicolon all.1 >>= λ rest. Some (descriptions.Instance all.0, rest)

unfoldable pub labels_of : Toks → Answer
labels_of ts = names_of signs.Comma ts >>= λ names. past_of signs.Semicolon names.1 >>= λ rest. Some (descriptions.Label names.0, rest)

unfoldable pub references_of : Toks → Answer
references_of ts = names_of signs.Comma ts >>= λ names. past_of signs.Semicolon names.1 >>= λ rest. Some (descriptions.Reference names.0, rest)

unfoldable pub declare_of : Toks → Answer
declare_of (parts.Reserved keywords.Group ∷ ts) = group_of ts
declare_of (parts.Reserved keywords.Instance ∷ ts) = instances_of ts
declare_of (parts.Reserved keywords.Label ∷ ts) = labels_of ts
declare_of (parts.Reserved keywords.Reference ∷ ts) = references_of ts
declare_of _ = None

unfoldable pub declares_of : Toks → Option (List DeclareTree × Toks)
declares_of ts = many declare_of ends ts
