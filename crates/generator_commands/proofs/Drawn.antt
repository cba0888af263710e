-- From what drawing a program answers to what a command finds.
use Rattle.std.proofs.Common.{◌≡◌, ◌≢◌, ℕ, List, refl, Ok, Err, None, Some, ◌⊎◌, ⊎_elim}
use Rattle.std.specs.Global.{Vec}
use Rattle.lisa_tree.specs.Descriptions.{DescriptionTree}
use Rattle.lisa_object.specs.declared.faults.GenFault.{GenFault}
use Rattle.lisa_object.specs.declared.faults.GenFault.TheVariants as faults
use Rattle.generated_programs.specs.Memories.{IsProgramMemory}
use Rattle.generated_programs.specs.Programs.{IsProgram}
use Rattle.generated_programs.proofs.Programmed.{some_or_none}
use Rattle.assembler_commands.specs.lisa_forms.Coverage.{IsOverlapVerdict, IsUncoveredVerdict}
use Rattle.generated_programs.specs.lisa_syntax.Texts.{IsAmbiguityVerdict}
use Rattle.lisa_outcomes.specs.declared.status.Refusal.TheVariants as refusals
use Rattle.lisa_outcomes.specs.Stages.{Finds}
use Rattle.lisa_outcomes.proofs.Finding.{found_ok, found_memory, found_refused}
use Rattle.lisa_outcomes.proofs.Refusals.{program_refusal}
use Rattle.lisa_outcomes.proofs.Told.{none_is_no_some}
use Rattle.assembler_commands.specs.lisa_machine.Verdicts.{before, nothing, Verdict}
use Rattle.assembler_commands.specs.checked_descriptions.Instructions.{HasInstructions, from_aliases, from_ambiguities, from_overlaps}
use Rattle.generator_commands.specs.Generates.{IsNoProgram}
use Rattle.generator_commands.specs.Undrawn.{undrawn_end}

-- ---- each alias is covered

kept : (verdict rest : Verdict) → before verdict rest None → verdict None × rest None
kept verdict rest both = ⊎_elim (λ broken. absurd (none_is_no_some broken.fault broken.is)) (λ b. b) both

pub all_covered : (d : DescriptionTree) → HasInstructions d → IsUncoveredVerdict d None
all_covered d has = (kept (IsUncoveredVerdict d) nothing (kept (IsAmbiguityVerdict d) (from_aliases d) (kept (IsOverlapVerdict d) (from_ambiguities d) has.1).1).1).0

-- ---- programs

module _ (d : DescriptionTree) (number count : ℕ) where
  pub drawn_finds : ((xs ys : List ℕ) → IsProgram d number count xs → IsProgram d number count ys → xs ≡ ys) → (text : Vec ℕ) → IsProgram d number count text.items
      → Finds {X = Vec ℕ} (λ text. text.items) (IsProgram d number count) (IsNoProgram d) (Ok text)
  drawn_finds one text is =
      found_ok (λ (v : Vec ℕ). v.items) (IsProgram d number count) (IsNoProgram d) text is (λ other here. one text.items other is here) (λ refusal wrong. some_or_none d is.memory is.has_memory wrong.0)

  pub undrawn_finds : (f : GenFault) → ((f ≡ faults.NoMemory) ⊎ ((f ≡ faults.NoProgram) × IsProgramMemory d None)) → Finds {X = Vec ℕ} (λ text. text.items) (IsProgram d number count) (IsNoProgram d) (Err (undrawn_end f))
  undrawn_finds faults.NoMemory is = found_memory (λ (v : Vec ℕ). v.items) (IsProgram d number count) (IsNoProgram d)
  undrawn_finds faults.NoProgram is = ⊎_elim (λ m. absurd (distinct m))
      (λ n. found_refused (λ (v : Vec ℕ). v.items) (IsProgram d number count) (IsNoProgram d) (refusals.Program faults.NoProgram) (program_refusal faults.NoProgram distinct) (n.1, refl)
      (λ text program. some_or_none d program.memory program.has_memory n.1))
      is
    where
      distinct : faults.NoProgram ≢ faults.NoMemory
      distinct e = cc
