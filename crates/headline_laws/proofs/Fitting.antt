-- The text that `verilog` gave is no longer than a module may be.
use Rattle.std.proofs.Common.{◌≡◌, ◌≤◌, ◌+◌, ◌*◌, ℕ, List, Option, length, refl, ap, arith}
use Rattle.lisa_tree.specs.Descriptions.{DescriptionTree}
use Rattle.machine_parts.specs.Parts.{arrays_of, pins_of}
use Rattle.instruction_forms.specs.Widths.{HasWidth}
use Rattle.coding_tables.specs.Instructions.{form_count}
use Rattle.description_commands.specs.description_sizes.Sizes.{items}
use Rattle.description_commands.specs.description_sizes.Laws.{AreWithinLimits}
use Rattle.description_commands.specs.lisa_forms.Verdicts.{HasForms}
use Rattle.lisa_outcomes.specs.RunFiles.{RunBytes}
use Rattle.verilog_command.specs.checked_descriptions.Checked.{Checked}
use Rattle.verilog_command.proofs.checked_descriptions_proofs.Listed.{sound_parts}
use Rattle.module_commands.specs.Clocks.{module_limit}
use Rattle.headline_laws.proofs.Written.{AreUnique, IsWritten}

-- each count of a description is within its limit
abbrev pub AreLimited : Type 0
AreLimited = (d : DescriptionTree) → HasForms d → (width : Option ℕ) × HasWidth d width × AreWithinLimits d width (form_count d)

bytes_fit : (bytes weight items arrays pins : ℕ) → bytes ≤ 2048 * (weight + items + arrays + pins + 16) → weight ≤ 50000 → items ≤ 8192 → arrays ≤ 1024 → pins ≤ 64 → bytes ≤ module_limit
bytes_fit bytes weight items arrays pins short light few_items few_arrays few_pins = omega (arith, short, light, few_items, few_arrays, few_pins)

module _ (unique : AreUnique) (limited : AreLimited) (run : RunBytes) (text : List ℕ) (w : IsWritten run text) where
  few_items : length (items w.checked.tree w.checked.width) ≤ 8192
  few_items =
      let limits = limited w.tree (sound_parts w.tree w.is.sound).1.0 in
      let other : Checked = record { tree = w.tree; width = limits.0 } in
      let same : w.checked ≡ other = unique.one w.tree w.checked other w.is (record { tree = refl; sound = w.is.sound; width = limits.1 }) in
      let few = limits.2.few_items in
      let e = ap (λ (c : Checked). length (items c.tree c.width)) same in
      omega (arith, few, e)

  few_arrays : length (arrays_of w.checked.tree) ≤ 1024
  few_arrays =
      let few = (limited w.tree (sound_parts w.tree w.is.sound).1.0).2.few_arrays in
      let e = ap (λ (d : DescriptionTree). length (arrays_of d)) w.is.tree in
      omega (arith, few, e)

  few_pins : length (pins_of w.checked.tree) ≤ 64
  few_pins =
      let few = (limited w.tree (sound_parts w.tree w.is.sound).1.0).2.few_pins in
      let e = ap (λ (d : DescriptionTree). length (pins_of d)) w.is.tree in
      omega (arith, few, e)

  pub text_fits : length text ≤ module_limit
  text_fits = bytes_fit _ _ _ _ _ w.light.short w.light.light few_items few_arrays few_pins
