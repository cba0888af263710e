-- The memory of a program is one, and where there is one, some form is plain.
use Rattle.std.proofs.Common.{◌≡◌, ◌<◌, ℕ, List, Option, None, Some, length, sym, ap, ◌∙◌}
use Rattle.std.proofs.lemmas.Option.{same_Some}
use Rattle.lisa_tree.specs.Descriptions.{DescriptionTree}
use Rattle.lisa_syntax.specs.lisa_machine.Verdicts.{IsAccepted}
use Rattle.instruction_forms.specs.Widths.{HasWidth}
use Rattle.lisa_syntax.specs.lisa_forms.Coverage.{IsUncoveredVerdict}
use Rattle.generated_programs.specs.Memories.{memory_of_width, IsProgramMemory}
use Rattle.generated_programs.specs.Draws.{plain_forms}
use Rattle.generated_programs.specs.Programs.{program_text, IsProgram}
use Rattle.generated_programs.proofs.Marked.{some_choice}
use Rattle.generated_programs.proofs.Widths.{one_width}

module _ (d : DescriptionTree) where
  pub one_memory : (a b : Option (List ℕ)) → IsProgramMemory d a → IsProgramMemory d b → a ≡ b
  one_memory a b x y = x.is ∙ ap (memory_of_width d) (one_width d x.width y.width x.has_width y.has_width) ∙ sym y.is

  pub some_or_none : (name : List ℕ) → IsProgramMemory d (Some name) → IsProgramMemory d None → ⊥
  some_or_none name x y = absurd (let e = one_memory (Some name) None x y in cc e)

  pub chosen_from : IsAccepted d → IsUncoveredVerdict d None → (name : List ℕ) → IsProgramMemory d (Some name) → 0 < length (plain_forms d)
  chosen_from accepted covered name memory = by memory.width memory.has_width memory.is
    where
      by : (width : Option ℕ) → HasWidth d width → Some name ≡ memory_of_width d width → 0 < length (plain_forms d)
      by None has is = absurd (cc is)
      by (Some w) has is = some_choice d accepted covered w has

pub one_program : (d : DescriptionTree) (number count : ℕ) (xs ys : List ℕ) → IsProgram d number count xs → IsProgram d number count ys → xs ≡ ys
one_program d number count xs ys x y =
    x.is ∙ ap (λ (m : List ℕ). program_text d m number count) (same_Some x.memory y.memory (one_memory d (Some x.memory) (Some y.memory) x.has_memory y.has_memory)) ∙ sym y.is
