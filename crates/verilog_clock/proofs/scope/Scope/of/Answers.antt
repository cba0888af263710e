use Rattle.std.proofs.Common.{ℕ, ◌≤◌, ◌∙◌, ap, subst, length, List, ◌++◌, sym, map}
use Rattle.std.specs.Prelude.{slice_index}
use Rattle.std.proofs.lemmas.List.{length-map}
use Rattle.lisa_engine.specs.declared.parts.Item.{Item}
use Rattle.lisa_engine.specs.declared.parts.ArrayItem.{ArrayItem}
use Rattle.verilog_text.specs.Trees.{module_tree}
use Rattle.verilog_text.specs.Clocked.{regs, arrays}
use Rattle.verilog_clock.specs.Names.{Declares}
use Rattle.verilog_clock.proofs.Declared.{words_keys, words_widths, memory_keys, narrow_at}
use Rattle.verilog_clock.proofs.scope.Scope.of.Goals as goal

pub invariant_of-result : goal.invariant_of-result
invariant_of-result c =
    let first = c.in_ok-declare_regs.ensures in
    let second : Declares c.declare_regs.new.names c.declare_items.new.names (map (λ (item : Item). item.name) c.args.module.now.inputs.items) (map (λ (item : Item). item.width) c.args.module.now.inputs.items)
    = subst (λ (all : List Item). Declares c.declare_regs.new.names c.declare_items.new.names (map (λ (item : Item). item.name) all) (map (λ (item : Item). item.width) all)) c.deref.ensures.value c.in_ok-declare_items.ensures in
    let wide = words_widths _ _ _ _ _ _ _ c.new-words.ensures.names c.new-words.ensures.widths first second c.in_ok-declare_wires.ensures in
    let memory = c.in_ok-declare_arrays.ensures.wide ∙ ap (λ (ws : List ℕ). ws ++ map (λ (array : ArrayItem). array.width) (arrays (module_tree c.args.module.now).members)) c.new-memories.ensures.widths in
    record {
      word_names = words_keys _ _ _ _ _ _ _ c.new-words.ensures.names c.new-words.ensures.widths first second c.in_ok-declare_wires.ensures c.requires.distinct_scalars;
      word_widths = wide;
      memory_names = memory_keys _ _ _ c.new-memories.ensures.names c.in_ok-declare_arrays.ensures c.requires.distinct_arrays;
      memory_widths = memory;
      counted = c.len-reg_count.ensures ∙ c.declare_regs.new.names.widths.ok.0 ∙ ap length (first.wide ∙ ap (λ (ws : List ℕ). ws ++ map (λ (item : Item). item.width) (regs (module_tree c.args.module.now).members)) c.new-words.ensures.widths)
          ∙ length-map (regs (module_tree c.args.module.now).members) (λ (item : Item). item.width);
      narrow_words = λ place. subst (λ (ws : List ℕ). slice_index ws place ≤ 64) (sym wide) (narrow_at (λ (item : Item). item.width) _ c.requires.narrow_scalars place);
      narrow_memories = λ place. subst (λ (ws : List ℕ). slice_index ws place ≤ 64) (sym memory) (narrow_at (λ (array : ArrayItem). array.width) _ c.requires.narrow_arrays place);
    }
