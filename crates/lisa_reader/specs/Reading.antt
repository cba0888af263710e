-- Reading sections, operations and a description from left to right.
use Rattle.std.specs.Prelude.{ℕ, Bool, true, false, List, [], ◌∷◌, Option, Some, None}
use Rattle.lisa_tree.specs.declared.tokens.Keyword.{Keyword}
use Rattle.lisa_tree.specs.declared.tokens.Keyword.TheVariants as keywords
use Rattle.lisa_tree.specs.declared.tokens.Sign.TheVariants as signs
use Rattle.lisa_tree.specs.declared.tokens.TokenPart.{TokenPart}
use Rattle.lisa_tree.specs.declared.tokens.TokenPart.TheVariants as parts
use Rattle.lisa_tree.specs.Descriptions as descriptions
use Rattle.lisa_tree.specs.Descriptions.{ResourceTree, SectionTree, OperationTree, DescriptionTree}
use Rattle.lisa_tree.specs.Grammar.{Toks}
use Rattle.lisa_words.specs.Many.{Item, many}
use Rattle.lisa_words.specs.Steps.{◌>>=◌}
use Rattle.lisa_behav_reader.specs.Past.{past_of}
use Rattle.lisa_behav_reader.specs.Reading.{reads, whole}
use Rattle.lisa_behav_reader.specs.StmtReading as stmt_reading
use Rattle.lisa_behav_reader.specs.StmtReading.{stmts}
use Rattle.lisa_section_reader.specs.Resources.{ends, resources_of}
use Rattle.lisa_section_reader.specs.Declares.{declares_of}
use Rattle.lisa_section_reader.specs.Codings.{coding_of}
use Rattle.lisa_section_reader.specs.Syntaxes.{syntax_of}
use Rattle.lisa_activation_reader.specs.Reading.{activation_of}
use Rattle.lisa_reader.specs.Skipping.{skip_of}

-- ---- sections

-- a section, or nothing where it is skipped
abbrev pub Part : Type 0
Part = Option SectionTree

unfoldable pub declares_in : Item TokenPart SectionTree
declares_in ts = declares_of ts >>= λ x. Some (descriptions.Declares x.0, x.1)

unfoldable pub coding_in : Item TokenPart SectionTree
coding_in ts = coding_of ts >>= λ x. Some (descriptions.Coding x.0, x.1)

unfoldable pub syntax_in : Item TokenPart SectionTree
syntax_in ts = syntax_of ts >>= λ x. Some (descriptions.Syntax x.0, x.1)

unfoldable pub behavior_in : Item TokenPart SectionTree
behavior_in ts = stmts (stmt_reading.many 128 ts) >>= λ x. Some (descriptions.Behavior x.0, x.1)

unfoldable pub expression_in : Item TokenPart SectionTree
expression_in ts = reads (whole 128 ts) >>= λ x. Some (descriptions.Expression x.0, x.1)

unfoldable pub activation_in : Item TokenPart SectionTree
activation_in ts = activation_of 128 ts >>= λ x. Some (descriptions.Activation x.0, x.1)

-- what stands between the braces of the section that this word begins
abbrev pub inside_of : Keyword → Item TokenPart SectionTree
inside_of keywords.Declare ts = declares_in ts
inside_of keywords.Coding ts = coding_in ts
inside_of keywords.Syntax ts = syntax_in ts
inside_of keywords.Behavior ts = behavior_in ts
inside_of keywords.Expression ts = expression_in ts
inside_of keywords.Activation ts = activation_in ts
inside_of _ ts = None

-- behind the `{` of a section that is kept
unfoldable pub kept_of : Keyword → Item TokenPart Part
kept_of keyword ts = inside_of keyword ts >>= λ x. past_of signs.CloseBrace x.1 >>= λ rest. Some (Some x.0, rest)

-- behind the `{` of a section that is skipped
unfoldable pub skipped_of : Item TokenPart Part
skipped_of ts = skip_of ts 0 >>= λ rest. Some (None, rest)

-- behind the word of a section and its `{`
abbrev pub block_of : Keyword → Item TokenPart Part
block_of keywords.Semantics ts = skipped_of ts
block_of keyword ts = kept_of keyword ts

unfoldable pub part_of : Item TokenPart Part
part_of (parts.Reserved keyword ∷ parts.Sign signs.OpenBrace ∷ ts) = block_of keyword ts
part_of _ = None

-- a section in front of others, where there is one
abbrev pub before : Part → List SectionTree → List SectionTree
before None all = all
before (Some a) all = a ∷ all

-- the sections that are kept
abbrev pub kept : List Part → List SectionTree
kept [] = []
kept (part ∷ rest) = before part (kept rest)

-- the sections up to a `}`
unfoldable pub sections_of : Item TokenPart (List SectionTree)
sections_of ts = many part_of ends ts >>= λ x. Some (kept x.0, x.1)

-- ---- operations

-- whether ALIAS stands in front
abbrev pub is_alias : Toks → Bool
is_alias (parts.Reserved keywords.Alias ∷ ts) = true
is_alias _ = false

-- the tokens behind an ALIAS that may stand in front
abbrev pub behind_alias : Toks → Toks
behind_alias (parts.Reserved keywords.Alias ∷ ts) = ts
behind_alias ts = ts

-- `OPERATION name`
abbrev pub title_of : Item TokenPart (List ℕ)
title_of (parts.Reserved keywords.Operation ∷ parts.Named name ∷ ts) = Some (name, ts)
title_of _ = None

-- behind IN
abbrev pub place_of : Item TokenPart (Option (List ℕ × List ℕ))
place_of (parts.Named pipe ∷ parts.Sign signs.Dot ∷ parts.Named stage ∷ ts) = Some (Some (pipe, stage), ts)
place_of _ = None

-- pipeline and stage, where the operation has one
abbrev pub stage_of : Item TokenPart (Option (List ℕ × List ℕ))
stage_of (parts.Reserved keywords.In ∷ ts) = place_of ts
stage_of ts = Some (None, ts)

abbrev pub operation : Bool → List ℕ → Option (List ℕ × List ℕ) → List SectionTree → OperationTree
operation alias name stage sections = record { name = name; alias = alias; stage = stage; sections = sections }

-- behind ALIAS, where it stands
unfoldable pub titled_of : Bool → Item TokenPart OperationTree
titled_of alias ts =
    title_of ts >>= λ name. stage_of name.1 >>= λ stage. past_of signs.OpenBrace stage.1 >>= λ a. sections_of a >>= λ all. past_of signs.CloseBrace all.1 >>= λ rest. Some (operation alias name.0 stage.0 all.0, rest)

unfoldable pub operation_of : Item TokenPart OperationTree
operation_of ts = titled_of (is_alias ts) (behind_alias ts)

-- ---- descriptions

abbrev pub is_done : Toks → Bool
is_done [] = true
is_done (t ∷ ts) = false

-- all operations to the end
unfoldable pub operations_of : Item TokenPart (List OperationTree)
operations_of ts = many operation_of is_done ts

-- behind RESOURCE
abbrev pub behind_resource : Toks → Option Toks
behind_resource (parts.Reserved keywords.Resource ∷ ts) = Some ts
behind_resource _ = None

-- the resources with their word and braces
unfoldable pub resource_part_of : Item TokenPart (List ResourceTree)
resource_part_of ts = behind_resource ts >>= λ a. past_of signs.OpenBrace a >>= λ b. resources_of b >>= λ all. past_of signs.CloseBrace all.1 >>= λ rest. Some (all.0, rest)

abbrev pub description : List ResourceTree → List OperationTree → DescriptionTree
description resources operations = record { resources = resources; operations = operations }

unfoldable pub description_of : Toks → Option DescriptionTree
description_of ts = resource_part_of ts >>= λ r. operations_of r.1 >>= λ o. Some (description r.0 o.0)
