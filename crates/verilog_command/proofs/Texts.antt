-- The text of a step program's module, where the program is that of a description: it is as short as is promised.
use Rattle.std.proofs.Common.{◌≡◌, ◌≤◌, ◌∙◌, ℕ, List, None, length, sym, ap, subst, arith}
use Rattle.lisa_engine.specs.Images.{missing_memory}
use Rattle.lisa_engine.specs.Shape.{AreEntries}
use Rattle.lisa_engine.specs.declared.parts.Item.{Item}
use Rattle.lisa_engine.specs.declared.parts.ArrayItem.{ArrayItem}
use Rattle.lisa_lower.specs.machine_parts.Parts.{arrays_of}
use Rattle.checked_descriptions.specs.description_sizes.Sizes.{items}
use Rattle.lisa_lower.specs.description_weight.Weights.{weight}
use Rattle.step_program.specs.Programs.{Program}
use Rattle.lisa_lower.specs.netlist_rules.Sizes.{module_most}
use Rattle.netlist_build.specs.Carried.{IsTextOf}
use Rattle.lisa_lower.specs.Lowered.{IsLowered}
use Rattle.checked_descriptions.specs.Checked.{Checked}
use Rattle.verilog_command.specs.Modules.{most_bytes, text_limit, IsModuleText, IsLightText}

at_most : (n a b c : ℕ) → n ≤ a → a ≤ b → b ≡ c → n ≤ c
at_most n a b c low rise same = omega (arith, low, rise, same)

module _ (c : Checked) (p : Program) (is : IsLowered c.tree c.width p) where
  same_limit : most_bytes (weight c.tree) (length p.items) (length p.arrays) (length p.pins) ≡ text_limit c
  same_limit =
      ap (λ (all : List Item). most_bytes (weight c.tree) (length all) (length p.arrays) (length p.pins)) is.items
      ∙ ap (λ (all : List ArrayItem). most_bytes (weight c.tree) (length (items c.tree c.width)) (length all) (length p.pins)) is.arrays
      ∙ ap (λ (all : List Item). most_bytes (weight c.tree) (length (items c.tree c.width)) (length (arrays_of c.tree)) (length all)) is.pins

  of_module : (bytes : List ℕ) → IsTextOf p bytes → IsModuleText c bytes
  of_module bytes text = record {
    tree = text.tree;
    accepted = text.accepted;
    is_module = record {
      items = text.is_module.items ∙ is.items;
      arrays = text.is_module.arrays ∙ is.arrays;
      pins = text.is_module.pins ∙ is.pins;
      states = λ image entries rules none fit.
          let mine = subst (λ (arrays : List ArrayItem). missing_memory arrays image ≡ None) (sym is.arrays) none in
          let fitting = subst (λ (pins : List Item). AreEntries pins entries) (sym is.pins) fit in
          text.is_module.states image entries rules mine fitting ∙ is.states image entries rules mine fitting;
    };
  }

  pub text_is : (bytes : List ℕ) → IsTextOf p bytes → IsLightText c bytes
  text_is bytes text = record {
    light = is.light;
    text = of_module bytes text;
    short = at_most (length bytes) (module_most 7 p) (most_bytes (weight c.tree) (length p.items) (length p.arrays) (length p.pins)) (text_limit c)
        (text.few.short 7 is.small.enough) is.small.low same_limit;
  }
