-- Reading resources.
use Rattle.std.specs.Prelude.{ℕ, Bool, true, false, List, ◌∷◌, Option, Some, None}
use Rattle.lisa_tree.specs.declared.tokens.Keyword.{Keyword}
use Rattle.lisa_tree.specs.declared.tokens.Keyword.TheVariants as keywords
use Rattle.lisa_tree.specs.declared.tokens.Shape.{Shape}
use Rattle.lisa_tree.specs.declared.tokens.Sign.TheVariants as signs
use Rattle.lisa_tree.specs.declared.tokens.TokenPart.{TokenPart}
use Rattle.lisa_tree.specs.declared.tokens.TokenPart.TheVariants as parts
use Rattle.lisa_tree.specs.declared.descriptions.RegisterWord.{RegisterWord}
use Rattle.lisa_tree.specs.declared.descriptions.RegisterWord.TheVariants as registers
use Rattle.lisa_tree.specs.declared.descriptions.MemoryWord.{MemoryWord}
use Rattle.lisa_tree.specs.declared.descriptions.MemoryWord.TheVariants as memories
use Rattle.lisa_tree.specs.Descriptions as descriptions
use Rattle.lisa_tree.specs.Descriptions.{ResourceTree}
use Rattle.lisa_tree.specs.Grammar.{Toks}
use Rattle.lisa_words.specs.Many.{Item, many}
use Rattle.lisa_words.specs.Steps.{◌>>=◌}
use Rattle.lisa_behav_reader.specs.Past.{past_of}
use Rattle.lisa_behav_reader.specs.Reading.{name_of}
use Rattle.lisa_section_reader.specs.Lists.{names_of, without, typed_of, fields_of}

abbrev pub Answer : Type 0
Answer = Option (ResourceTree × Toks)

-- `[ number ] ;`
abbrev pub depth_of : Item TokenPart ℕ
depth_of (parts.Sign signs.OpenSquare ∷ parts.Number depth base ∷ parts.Sign signs.CloseSquare ∷ parts.Sign signs.Semicolon ∷ ts) = Some (depth, ts)
depth_of _ = None

-- behind a register's type and name
abbrev pub sized_of : RegisterWord → Shape × List ℕ → Toks → Answer
sized_of word t (parts.Sign signs.Semicolon ∷ ts) = Some (descriptions.Register word t.0 t.1 None, ts)
sized_of word t ts = depth_of ts >>= λ d. Some (descriptions.Register word t.0 t.1 (Some d.0), d.1)

unfoldable pub register_of : RegisterWord → Toks → Answer
register_of word ts = typed_of ts >>= λ t. sized_of word t.0 t.1

abbrev pub register_word_of : Keyword → Option RegisterWord
register_word_of keywords.Register = Some registers.Register
register_word_of keywords.ProgramCounter = Some registers.ProgramCounter
register_word_of keywords.ControlRegister = Some registers.ControlRegister
register_word_of _ = None

abbrev pub word_of : Item TokenPart RegisterWord
word_of (parts.Reserved keyword ∷ ts) = register_word_of keyword >>= λ word. Some (word, ts)
word_of _ = None

-- behind CLOCKED
unfoldable pub clocked_of : Toks → Answer
clocked_of ts = word_of ts >>= λ word. typed_of word.1 >>= λ t. past_of signs.Semicolon t.1 >>= λ rest. Some (descriptions.Clocked word.0 t.0.0 t.0.1, rest)

unfoldable pub memory_of : MemoryWord → Toks → Answer
memory_of word ts = typed_of ts >>= λ t. depth_of t.1 >>= λ d. Some (descriptions.Memory word t.0.0 t.0.1 d.0, d.1)

unfoldable pub pin_of : Toks → Answer
pin_of ts = typed_of ts >>= λ t. past_of signs.Semicolon t.1 >>= λ rest. Some (descriptions.Pin t.0.0 t.0.1, rest)

-- behind PIPELINE
unfoldable pub pipeline_of : Toks → Answer
pipeline_of ts =
    name_of ts >>= λ name. past_of signs.Equal name.1 >>= λ a. past_of signs.OpenBrace a >>= λ b. names_of signs.Semicolon b >>= λ stages. past_of signs.CloseBrace (without signs.Semicolon stages.1) >>= λ c.
    past_of signs.Semicolon c >>= λ rest. Some (descriptions.Pipeline name.0 stages.0, rest)

abbrev pub in_of : Item TokenPart (List ℕ)
in_of (parts.Reserved keywords.In ∷ parts.Named pipe ∷ ts) = Some (pipe, ts)
in_of _ = None

-- behind PIPELINE_REGISTER
unfoldable pub boundary_of : Toks → Answer
boundary_of ts = in_of ts >>= λ pipe. past_of signs.OpenBrace pipe.1 >>= λ a. fields_of a >>= λ fields. past_of signs.CloseBrace fields.1 >>= λ rest. Some (descriptions.Fields pipe.0 fields.0, without signs.Semicolon rest)

unfoldable pub resource_of : Toks → Answer
resource_of (parts.Reserved keywords.Register ∷ ts) = register_of registers.Register ts
resource_of (parts.Reserved keywords.ProgramCounter ∷ ts) = register_of registers.ProgramCounter ts
resource_of (parts.Reserved keywords.ControlRegister ∷ ts) = register_of registers.ControlRegister ts
resource_of (parts.Reserved keywords.Clocked ∷ ts) = clocked_of ts
resource_of (parts.Reserved keywords.Memory ∷ ts) = memory_of memories.Memory ts
resource_of (parts.Reserved keywords.DataMemory ∷ ts) = memory_of memories.DataMemory ts
resource_of (parts.Reserved keywords.ProgramMemory ∷ ts) = memory_of memories.ProgramMemory ts
resource_of (parts.Reserved keywords.Pin ∷ ts) = pin_of ts
resource_of (parts.Reserved keywords.Pipeline ∷ ts) = pipeline_of ts
resource_of (parts.Reserved keywords.PipelineRegister ∷ ts) = boundary_of ts
resource_of _ = None

-- where a `}` stands
abbrev pub ends : Toks → Bool
ends (parts.Sign signs.CloseBrace ∷ ts) = true
ends _ = false

unfoldable pub resources_of : Toks → Option (List ResourceTree × Toks)
resources_of ts = many resource_of ends ts
