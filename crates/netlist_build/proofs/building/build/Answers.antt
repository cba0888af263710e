use Rattle.std.proofs.Common.{◌≡◌, ◌≤◌, sym, subst, length, Ok, Err}
use Rattle.std.specs.Prelude.{Result, IfOk, OnOk}
use Rattle.lisa_words.specs.declared.names.NoMemory.{NoMemory}
use Rattle.verilog_text.specs.declared.modules.Module.{Module}
use Rattle.verilog_text.specs.Trees.{ModuleTree, module_tree}
use Rattle.step_program.specs.Programs.{program_tree}
use Rattle.netlist_wires.specs.Wiring.{built}
use Rattle.netlist_wires.specs.contracts.keys.KeyPartialEq.TheImpl as impl
use Rattle.netlist_build.specs.Symbolic.{first}
use Rattle.netlist_build.proofs.Finds.{is_find}
use Rattle.netlist_build.proofs.EqualKeys.{key_same}
use Rattle.verilog_text.specs.Clocked.{nets}
use Rattle.verilog_text.specs.Printing.{module_text}
use Rattle.verilog_text.specs.Faults.{VAccepts}
use Rattle.netlist_wires.specs.Costs.{wires_most}
use Rattle.netlist_build.specs.Carried.{IsModuleOf, AreFew, WiresDiffer}
use Rattle.netlist_build.proofs.Sharing.{key_equal, first_finds}
use Rattle.netlist_build.proofs.Promises.{is_module, is_accepted, is_small, has_few_wires, is_shared}
use Rattle.netlist_build.proofs.building.build.Goals as goal

-- what holds of the module that is made, where there are so few wires
along : (P : ModuleTree → Type 0) (Few : Type 0) (m : ModuleTree) (r : Result Module NoMemory) → IfOk r (λ v. module_tree v ≡ m) → OnOk r Few → (Few → P m) → IfOk r (λ v. P (module_tree v))
along P Few m (Ok v) e few h = subst P (sym e) (h few)
along P Few m (Err f) e few h = tt

pub returns-clause-is_module : goal.returns-clause-is_module
returns-clause-is_module c =
    let p = program_tree c.args.program.now in
    let find = first impl.eq-value.it in
    along (IsModuleOf p) _ (built find p) c.assemble.result c.assemble.ensures.built c.assemble.ensures.few (λ few. is_module find (is_find impl.eq-value.it key_same) p c.requires.formed c.requires.distinct few)

pub returns-clause-accepted : goal.returns-clause-accepted
returns-clause-accepted c =
    let p = program_tree c.args.program.now in
    let find = first impl.eq-value.it in
    along (λ m. VAccepts (module_text m) m) _ (built find p) c.assemble.result c.assemble.ensures.built c.assemble.ensures.few (λ few. is_accepted find (is_find impl.eq-value.it key_same) p c.requires.formed c.requires.distinct few)

pub returns-clause-size : goal.returns-clause-size
returns-clause-size c =
    let p = program_tree c.args.program.now in
    let find = first impl.eq-value.it in
    along (λ m. AreFew p (length (module_text m))) _ (built find p) c.assemble.result c.assemble.ensures.built c.assemble.ensures.few (λ few. is_small find (is_find impl.eq-value.it key_same) p c.requires.formed few)

pub returns-clause-wires : goal.returns-clause-wires
returns-clause-wires c =
    let p = program_tree c.args.program.now in
    let find = first impl.eq-value.it in
    along (λ m. length (nets m.members) ≤ wires_most p) _ (built find p) c.assemble.result c.assemble.ensures.built c.assemble.ensures.few (λ few. has_few_wires find (is_find impl.eq-value.it key_same) p c.requires.formed)

pub returns-clause-shared : goal.returns-clause-shared
returns-clause-shared c =
    let p = program_tree c.args.program.now in
    let find = first impl.eq-value.it in
    along WiresDiffer _ (built find p) c.assemble.result c.assemble.ensures.built c.assemble.ensures.few
    (λ few. is_shared find (is_find impl.eq-value.it key_same) p c.requires.formed (first_finds impl.eq-value.it key_equal) c.requires.distinct few)
