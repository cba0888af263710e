use Rattle.std.proofs.Common.{◌≡◌, ◌≤◌, ℕ, List, length, sym, subst, Ok, Err}
use Rattle.std.specs.Prelude.{Result, IfOk}
use Rattle.std.specs.Global.{Vec}
use Rattle.lisa_words.specs.declared.names.NoMemory.{NoMemory}
use Rattle.verilog_text.specs.Trees.{ModuleTree, module_tree}
use Rattle.verilog_text.specs.Spelling.{VSpells}
use Rattle.verilog_text.specs.Printing.{module_text, module_size}
use Rattle.verilog_text.proofs.PrintedModules.{text_spells, text_size}
use Rattle.verilog_text.proofs.printer.print_module.Goals as goal

along : (P : List ℕ → Type 0) (text : List ℕ) (r : Result (Vec ℕ) NoMemory) → IfOk r (λ v. v.items ≡ text) → P text → IfOk r (λ v. P v.items)
along P text (Ok v) e h = subst P (sym e) h
along P text (Err f) e h = tt

pub returns-clause-spells : goal.returns-clause-spells
returns-clause-spells c =
    let m : ModuleTree = module_tree c.args.whole.now in
    along (λ (bytes : List ℕ). VSpells bytes m) (module_text m) c.write_module.result c.write_module.ensures (text_spells c.requires.1)

pub returns-clause-size : goal.returns-clause-size
returns-clause-size c =
    let m : ModuleTree = module_tree c.args.whole.now in
    along (λ (bytes : List ℕ). length bytes ≤ module_size m) (module_text m) c.write_module.result c.write_module.ensures (text_size c.requires.1)
