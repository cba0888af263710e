use Rattle.std.proofs.Common.{refl, ◌≡◌, ◌∙◌, sym, ap, None, Some, Bool, true, List}
use Rattle.std.specs.Option.{is_some}
use Rattle.lisa_tree.specs.Operations.{number_of, own_stage}
use Rattle.graph_paths.specs.Paths.{saw}
use Rattle.stage_checks.specs.Controls.{main_name}
use Rattle.stage_checks.proofs.Tables.{gone}
use Rattle.stage_checks.proofs.Staged.{nothing_runs, all_staged, inner_nodes, are_free}
use Rattle.stage_checks.proofs.running.free_operations.Goals as goal

pub returns-in_default : goal.returns-in_default
returns-in_default g c =
    let none : number_of (g.N.Names.tree c.args.names.now) main_name ≡ None = sym c.in_ok-start.ensures ∙ c.in_default.is in
    λ o h. (λ on. absurd (cc (sym (ap (λ (l : List Bool). saw l o) c.new.ensures.items) ∙ on)), λ r. absurd (nothing_runs (g.N.Names.tree c.args.names.now) none o None r))

pub returns-then-is_some : goal.returns-then-is_some
returns-then-is_some g c =
    let d = g.N.Names.tree c.args.names.now in
    let main : number_of d main_name ≡ Some c.in-Some.start = sym c.in_ok-start.ensures ∙ c.in-Some.is in
    let staged : is_some (own_stage d c.in-Some.start) ≡ true = ap is_some (sym c.own_stage.ensures) ∙ sym c.is_some.ensures ∙ c.if-is_some.true in
    λ o h. (λ on. absurd (cc (sym (ap (λ (l : List Bool). saw l o) c.new-then-is_some.ensures.items) ∙ on)), λ r. absurd (all_staged d c.in-Some.start main staged o None r refl))

pub reached-requires-clause-nodes : goal.reached-requires-clause-nodes
reached-requires-clause-nodes g c =
    let inside = rw c.deref.ensures.value at c.in_ok-inner.ensures.inner in
    let len = rw c.deref.ensures.value at c.in_ok-inner.ensures.length in
    rw c.deref-2.ensures.value (inner_nodes (g.N.Names.tree c.args.names.now) c.in_ok-next.next.items c.in_ok-next.ensures c.in_ok-inner.inner.items inside len)

pub returns : goal.returns
returns g c =
    let d = g.N.Names.tree c.args.names.now in
    let main : number_of d main_name ≡ Some c.in-Some.start = sym c.in_ok-start.ensures ∙ c.in-Some.is in
    let none : own_stage d c.in-Some.start ≡ None = gone (own_stage d c.in-Some.start) (ap is_some (sym c.own_stage.ensures) ∙ sym c.is_some.ensures ∙ c.if-is_some.false) in
    let inside = rw c.deref.ensures.value at c.in_ok-inner.ensures.inner in
    let exact = rw c.deref-2.ensures.value at c.in_ok-free.ensures.exact in
    are_free d c.in_ok-next.next.items c.in_ok-next.ensures c.in-Some.start main c.in_ok-inner.inner.items inside none c.in_ok-free.free.items exact
