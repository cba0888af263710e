-- What is given over a description is given over the text that `verilog` gave, and the other way round.
use Rattle.std.proofs.Common.{◌≡◌, ◌∙◌, ℕ, false, List, [], Option, None, Some, inl, inr, sym, ap, subst}
use Rattle.lisa_tree.specs.Descriptions.{DescriptionTree}
use Rattle.lisa_tree.specs.Texts.{SpellsText}
use Rattle.description_digest.specs.Digests.{digest_of}
use Rattle.lisa_reader.proofs.ByteLaws.{one_description, spelled_unbroken}
use Rattle.lisa_engine.specs.Memory.{Memory}
use Rattle.lisa_engine.specs.Images.{IsImage}
use Rattle.lisa_object.specs.declared.parts.Stamped.{Stamped}
use Rattle.verilog_text.specs.Trees.{ModuleTree}
use Rattle.verilog_text.specs.Clockable.{IsClockable}
use Rattle.verilog_rules.proofs.Clockable.{accepted}
use Rattle.module_commands.proofs.verilog_reader_proofs.TextLaws.{one_spelled, accepted_unbroken}
use Rattle.lisa_outcomes.specs.declared.status.Refusal.{Refusal}
use Rattle.lisa_outcomes.specs.Outcomes.{Outcome, Finished, Refusing, passed, stopped}
use Rattle.lisa_outcomes.specs.RunFiles.{RunBytes}
use Rattle.engine_commands.specs.declared.tasks.Task.{Task}
use Rattle.engine_commands.specs.Images.{IsImageOf}
use Rattle.engine_commands.specs.Schedules.{schedule_bytes}
use Rattle.engine_commands.specs.Making.{GivesMade}
use Rattle.verilog_command.specs.checked_descriptions.Checked.{Checked, IsChecked, IsFaulty, AfterChecks}
use Rattle.verilog_command.specs.checked_descriptions.DescriptionImages.{HasDigest, IsImageFor, IsForAnother}
use Rattle.description_commands.specs.Runs.{described_machine, GivesChecked, GivesRun}
use Rattle.module_commands.specs.Designs.{Design, no_module, no_image, clock_machine}
use Rattle.module_commands.specs.Clocks.{GivesClock}
use Rattle.verilog_command.specs.Modules.{IsLightText, written}
use Rattle.headline_laws.specs.Headline.{Writes, over, is_session, AreBytes, IsOwnImage}
use Rattle.headline_laws.proofs.Machines.{memories_kept, to_module, from_module}

-- a description is checked in one way, and not where it is refused
pub record AreUnique : Type 0 where
  pub one : (d : DescriptionTree) (a b : Checked) → IsChecked d a → IsChecked d b → a ≡ b
  pub whole : (d : DescriptionTree) (c : Checked) (refusal : Refusal) → IsChecked d c → IsFaulty d refusal → ⊥

pub unique : ((d : DescriptionTree) (a b : Checked) → IsChecked d a → IsChecked d b → a ≡ b)
    → ((d : DescriptionTree) (c : Checked) (refusal : Refusal) → IsChecked d c → IsFaulty d refusal → ⊥) → AreUnique
unique one whole = record { one = one; whole = whole }

-- ---- a description whose text `verilog` gave

pub record IsWritten (run : RunBytes) (text : List ℕ) : Type 0 where
  pub tree : DescriptionTree
  pub spelled : SpellsText run.main tree
  pub checked : Checked
  pub is : IsChecked tree checked
  pub light : IsLightText checked text

pub written_so : (run : RunBytes) (text : List ℕ) → Writes run.main text → IsWritten run text
written_so run text (passed {a = d} spelled (passed {a = c} is (written light))) = record { tree = d; spelled = spelled; checked = c; is = is; light = light }

module _ (checks : AreUnique) (run : RunBytes) (text : List ℕ) (w : IsWritten run text) (task : Task) (silent : is_session task ≡ false) (input : List ℕ) (bytes : AreBytes input) where
  -- ---- from the description to the module

  from_checks : (outcome : Outcome) → AfterChecks w.tree (GivesChecked task run input) outcome → GivesChecked task run input w.checked outcome
  from_checks outcome (passed {a = c} is gives) = subst (λ (x : Checked). GivesChecked task run input x outcome) (checks.one w.tree c w.checked is w.is) gives
  from_checks _ (stopped {refusal = refusal} wrong) = absurd (checks.whole w.tree w.checked refusal w.is wrong)

  from_description : (outcome : Outcome) → GivesRun task run input outcome → GivesChecked task run input w.checked outcome
  from_description outcome (passed {a = d} spelled gives) =
      from_checks outcome (subst (λ (x : DescriptionTree). AfterChecks x (GivesChecked task run input) outcome) (one_description run.main d w.tree spelled w.spelled) gives)
  from_description _ (stopped unread) = absurd (spelled_unbroken run.main w.tree unread.0 w.spelled unread.1)

  clockable : IsClockable w.light.text.tree
  clockable = accepted text w.light.text.tree w.light.text.accepted

  abbrev design : List Memory → Design
  design memories = record { tree = w.light.text.tree; memories = memories }

  to_design : (outcome : Outcome) (memories : List Memory) → IsImageFor w.checked.tree run.image memories
      → GivesMade task (described_machine w.checked memories) memories (schedule_bytes run.schedule) input outcome → GivesClock task (over text run) input outcome
  to_design outcome memories image gives =
      passed {a = design memories} (record { accepted = w.light.text.accepted; image = image.image; spelled = image.spelled; memories = image.are })
      (to_module w.checked w.light.text.tree w.light.text.is_module clockable memories (subst IsImage (sym image.are) (memories_kept run.image image.image image.spelled)) (schedule_bytes run.schedule) task input outcome silent bytes gives)

  printed : (shown : List ℕ) → GivesChecked task run input w.checked (Finished shown) → GivesClock task (over text run) input (Finished shown)
  printed shown (passed {a = memories} image gives) = to_design (Finished shown) memories image gives

  pub print_alike : (shown : List ℕ) → GivesRun task run input (Finished shown) → GivesClock task (over text run) input (Finished shown)
  print_alike shown gives = printed shown (from_description (Finished shown) gives)

  -- ---- with an image of its own also where it is refused, and back

  module _ (own : IsOwnImage run) where
    not_another : (refusal : Refusal) → IsForAnother w.checked.tree run.image refusal → ⊥
    not_another refusal other = other.2 (own w.tree other.0 w.spelled other.1 ∙ sym (ap digest_of w.is.tree))

    given : (outcome : Outcome) → GivesChecked task run input w.checked outcome → GivesClock task (over text run) input outcome
    given outcome (passed {a = memories} image gives) = to_design outcome memories image gives
    given _ (stopped (inl wrong)) = stopped (no_image {tree = w.light.text.tree} w.light.text.accepted wrong)
    given _ (stopped {refusal = refusal} (inr other)) = absurd (not_another refusal other)

    pub to_clock : (outcome : Outcome) → GivesRun task run input outcome → GivesClock task (over text run) input outcome
    to_clock outcome gives = given outcome (from_description outcome gives)

    has_digest : (image : Option Stamped) → IsImageOf run.image image → HasDigest w.checked.tree image
    has_digest None spelled = tt
    has_digest (Some image) spelled = own w.tree image w.spelled spelled ∙ sym (ap digest_of w.is.tree)

    to_run : (outcome : Outcome) → GivesChecked task run input w.checked outcome → GivesRun task run input outcome
    to_run outcome gives = passed {a = w.tree} w.spelled (passed {a = w.checked} w.is gives)

    of_tree : (outcome : Outcome) (d : Design) → d.tree ≡ w.light.text.tree → GivesMade task (clock_machine d) d.memories (schedule_bytes run.schedule) input outcome
        → GivesMade task (clock_machine (design d.memories)) d.memories (schedule_bytes run.schedule) input outcome
    of_tree outcome d same gives = subst (λ (m : ModuleTree). GivesMade task (clock_machine (record { tree = m; memories = d.memories })) d.memories (schedule_bytes run.schedule) input outcome) same gives

    pub from_clock : (outcome : Outcome) → GivesClock task (over text run) input outcome → GivesRun task run input outcome
    from_clock outcome (passed {a = d} is gives) =
        to_run outcome (passed {a = d.memories} (record { image = is.image; spelled = is.spelled; digest = has_digest is.image is.spelled; are = is.memories })
        (from_module w.checked w.light.text.tree w.light.text.is_module clockable d.memories (subst IsImage (sym is.memories) (memories_kept run.image is.image is.spelled)) (schedule_bytes run.schedule) task input outcome silent bytes
        (of_tree outcome d (one_spelled text d.tree w.light.text.tree is.accepted.spelling w.light.text.accepted.spelling) gives)))
    from_clock _ (stopped (no_module unread)) = absurd (accepted_unbroken text w.light.text.tree unread.0 w.light.text.accepted unread.1)
    from_clock _ (stopped {refusal = refusal} (no_image accepted wrong)) = to_run (Refusing refusal []) (stopped (inl wrong))
