use Rattle.std.proofs.Common.{◌∙◌, ◌++◌, ℕ, List, [], ◌∷◌, Some, ap, ap₂}
use Rattle.verilog_text.specs.declared.modules.Action.{Action}
use Rattle.verilog_text.specs.declared.modules.Action.TheVariants as acts
use Rattle.verilog_text.specs.Trees as trees
use Rattle.verilog_text.specs.Trees.{VTree, ActionTrees, action_trees, vexpr_tree}
use Rattle.verilog_text.proofs.Views.{action_then-If}
use Rattle.step_program.specs.Programs.{program_tree}
use Rattle.netlist_wires.specs.Wiring.{named}
use Rattle.netlist_build.proofs.assembling.put_write.Goals as goal

pub returns : goal.returns
returns c = λ rest. (
    let p = program_tree c.args.program.now in
    let w = c.args.write.now in
    let name = c.in_ok-name.name in
    let index = c.in_ok-index.index in
    let value = c.in_ok-value.value in
    let test = vexpr_tree c.in_ok-test.test in
    let is_this = c.in_ok-push.ensures.items ∙ ap (λ (xs : List Action). xs ++ (acts.Set name (Some index) value ∷ [])) c.new-this.ensures.items in
    action_then-If c.in_ok-test.test c.push.new.self c.new.result rest
    ∙ ap (λ (xs : List Action). trees.If test (action_trees xs) (action_trees c.new.result.items) rest) is_this
    ∙ ap (λ (xs : List Action). trees.If test (trees.Put name (vexpr_tree index) (vexpr_tree value) trees.Done) (action_trees xs) rest) c.new.ensures.items
    ∙ ap (λ (t : VTree). trees.If t (trees.Put name (vexpr_tree index) (vexpr_tree value) trees.Done) trees.Done rest) c.in_ok-test.ensures
    ∙ ap₂ (λ (i v : VTree). trees.If (named p w.guard) (trees.Put name i v trees.Done) trees.Done rest) c.in_ok-index.ensures c.in_ok-value.ensures
    ∙ ap (λ (n : List ℕ). trees.If (named p w.guard) (trees.Put n (named p w.index) (named p w.value) trees.Done) trees.Done rest) (rw c.deref.ensures.value at c.in_ok-name.ensures)
    )
