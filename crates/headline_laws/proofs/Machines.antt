-- The machine of a description and that of its module.
use Rattle.std.proofs.Common.{◌≡◌, ℕ, false, List, [], Option, None, Some, sym, subst, arith}
use Rattle.std.specs.Prelude.{All}
use Rattle.lisa_engine.specs.Memory.{Memory}
use Rattle.lisa_engine.specs.Images.{IsImage, missing_memory}
use Rattle.lisa_engine.specs.Shape.{AreEntries, IsWidth}
use Rattle.lisa_engine.specs.declared.parts.Item.{Item}
use Rattle.lisa_object.specs.declared.parts.Stamped.{Stamped}
use Rattle.machine_parts.specs.Parts.{arrays_of, pins_of}
use Rattle.description_commands.specs.description_sizes.Sizes.{items}
use Rattle.description_commands.specs.lisa_meaning.States.{state_of}
use Rattle.verilog_text.specs.Trees.{ModuleTree}
use Rattle.verilog_text.specs.Clocked.{v_state}
use Rattle.verilog_text.specs.Clockable.{IsClockable}
use Rattle.lisa_outcomes.specs.Outcomes.{Outcome}
use Rattle.engine_commands.specs.declared.tasks.Task.{Task}
use Rattle.engine_commands.specs.Images.{IsImageOf, memories_of}
use Rattle.lisa_engine.specs.Machines.{Machine, machine_of}
use Rattle.engine_commands.specs.Making.{GivesMade}
use Rattle.verilog_command.specs.checked_descriptions.Checked.{Checked}
use Rattle.description_commands.specs.Runs.{described_machine}
use Rattle.module_commands.specs.Designs.{Design, clock_machine}
use Rattle.verilog_command.specs.Modules.{IsModuleOf}
use Rattle.headline_laws.specs.Headline.{is_session, AreBytes}
use Rattle.headline_laws.proofs.Agreeing.{same_made}
use Rattle.headline_laws.proofs.Widths.{pin_widths}

-- the memories that bytes spell are those of an image
no_image : IsImage []
no_image = record {
  memories = λ k memory low. absurd (omega arith);
  distinct = λ i j memory before low. absurd (omega arith);
  total = omega arith;
}

some_same : {T : Type 0} {x y : T} → Some x ≡ Some y → x ≡ y
some_same e = cc

pub memories_kept : (bytes : Option (List ℕ)) (image : Option Stamped) → IsImageOf bytes image → IsImage (memories_of image)
memories_kept None image is = subst (λ (i : Option Stamped). IsImage (memories_of i)) (sym is) no_image
memories_kept (Some bytes) image is = subst (λ (i : Option Stamped). IsImage (memories_of i)) (sym is.1) is.2.image

module _ (c : Checked) (m : ModuleTree) (is : IsModuleOf c m) (clockable : IsClockable m) (memories : List Memory) (kept : IsImage memories) (third : List ℕ) where
  abbrev design : Design
  design = record { tree = m; memories = memories }

  -- the module's states as those of a machine with the description's pins, items and arrays
  abbrev module_machine : Machine
  module_machine = machine_of (pins_of c.tree) (items c.tree c.width) (arrays_of c.tree) (v_state m memories)

  machine_same : clock_machine design ≡ module_machine
  machine_same = λ i. machine_of (is.pins i) (is.items i) (is.arrays i) (v_state m memories)

  states_same : missing_memory (arrays_of c.tree) memories ≡ None → (entries : List (List ℕ)) → AreEntries (pins_of c.tree) entries → v_state m memories entries ≡ state_of c.tree memories entries
  states_same none entries fits = is.states memories entries kept none fits

  widths : All (λ (pin : Item). IsWidth pin.width) (pins_of c.tree)
  widths = subst (λ (pins : List Item). All (λ (pin : Item). IsWidth pin.width) pins) is.pins (pin_widths m clockable)

  pub to_module : (task : Task) (input : List ℕ) (outcome : Outcome) → is_session task ≡ false → AreBytes input → GivesMade task (described_machine c memories) memories third input outcome
      → GivesMade task (clock_machine design) memories third input outcome
  to_module task input outcome silent bytes gives = subst (λ (machine : Machine). GivesMade task machine memories third input outcome) (sym machine_same)
      (same_made (pins_of c.tree) (items c.tree c.width) (arrays_of c.tree) (state_of c.tree memories) (v_state m memories) third widths memories
      (λ none entries fits. sym (states_same none entries fits)) task input outcome silent bytes gives)

  pub from_module : (task : Task) (input : List ℕ) (outcome : Outcome) → is_session task ≡ false → AreBytes input → GivesMade task (clock_machine design) memories third input outcome
      → GivesMade task (described_machine c memories) memories third input outcome
  from_module task input outcome silent bytes gives =
      same_made (pins_of c.tree) (items c.tree c.width) (arrays_of c.tree) (v_state m memories) (state_of c.tree memories) third widths memories states_same task input outcome silent bytes
      (subst (λ (machine : Machine). GivesMade task machine memories third input outcome) machine_same gives)
