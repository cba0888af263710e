use Rattle.std.proofs.Common.{◌≡◌, sym, subst, List, ℕ, Option, IfSome}
use Rattle.std.specs.Global.{Vec}
use Rattle.std.proofs.lemmas.Result.{err_from_is_err_and}
use Rattle.verilog_text.specs.Trees.{ModuleTree, module_tree}
use Rattle.verilog_text.specs.Faults.{VAccepts}
use Rattle.verilog_text.specs.declared.faults.VerilogFault.TheVariants.{NoMemory as OutOfMemory}
use Rattle.step_program.specs.Programs.{program_tree}
use Rattle.netlist_build.specs.Carried.{IsModuleOf, IsTextOf}
use Rattle.netlist_samples.proofs.modules.read_back.Goals as goal

pub returns-in_err-whole-clause-fault : goal.returns-in_err-whole-clause-fault
returns-in_err-whole-clause-fault c =
    let told : IsTextOf (program_tree c.args.program.now) c.in-Some.text.items = subst (λ (o : Option (Vec ℕ)). IfSome o (λ v. IsTextOf (program_tree c.args.program.now) v.items)) c.in-Some.is c.in_ok-text.ensures.text in
    let fault : c.in_err-whole.field-0.0 ≡ OutOfMemory = c.in_err-whole.ensures.only told.tree (subst (λ (b : List ℕ). VAccepts b told.tree) (sym c.deref.ensures.value) told.accepted) in
    let p = err_from_is_err_and c.from_residual-in_err-whole.result c.from_residual-in_err-whole.ensures.1 in
    rw (p.1, p.2) fault

pub returns-clause-found : goal.returns-clause-found
returns-clause-found c =
    let told : IsTextOf (program_tree c.args.program.now) c.in-Some.text.items = subst (λ (o : Option (Vec ℕ)). IfSome o (λ v. IsTextOf (program_tree c.args.program.now) v.items)) c.in-Some.is c.in_ok-text.ensures.text in
    let same : module_tree c.in_ok-whole.whole ≡ told.tree = c.in_ok-whole.ensures.only told.tree (subst (λ (b : List ℕ). VAccepts b told.tree) (sym c.deref.ensures.value) told.accepted) in
    subst (λ (m : ModuleTree). IsModuleOf (program_tree c.args.program.now) m) (sym same) told.is_module
