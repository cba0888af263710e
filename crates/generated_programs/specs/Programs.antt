-- A source of so many instructions that are drawn.
use Rattle.std.specs.Prelude.{◌≡◌, ℕ, List, ◌∷◌, ◌++◌, Some, codes}
use Rattle.lisa_tree.specs.Descriptions.{DescriptionTree}
use Rattle.lisa_object.specs.Texts.{text_of}
use Rattle.rand_pcg.specs.Lcg.{Lcg, started, increment_of}
use Rattle.rand_pcg.specs.Pcg.{multiplier_128, pcg64}
use Rattle.generated_programs.specs.Memories.{IsProgramMemory}
use Rattle.generated_programs.specs.Draws.{drawn_lines}

-- the generator of a number, on the stream 0
abbrev pub generator_of : ℕ → Lcg
generator_of number = started 128 multiplier_128 number (increment_of 128 0)

-- a line for the memory, and one for each instruction
abbrev pub program_text : DescriptionTree → List ℕ → ℕ → ℕ → List ℕ
program_text d memory number count =
    text_of ((codes ".section " ++ memory) ∷ drawn_lines d pcg64 count (generator_of number))

-- the source of so many instructions, drawn from a number
pub record IsProgram (d : DescriptionTree) (number count : ℕ) (text : List ℕ) : Type 0 where
  pub memory : List ℕ
  pub has_memory : IsProgramMemory d (Some memory)
  pub is : text ≡ program_text d memory number count
