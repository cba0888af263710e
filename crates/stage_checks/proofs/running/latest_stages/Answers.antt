use Rattle.std.proofs.Common.{◌≡◌, ℕ, ◌∙◌, sym, ap, None, Some, Option, subst, List, ◌<◌}
use Rattle.lisa_tree.specs.Operations.{number_of, own_stage}
use Rattle.stage_checks.specs.Controls.{main_name}
use Rattle.stage_checks.specs.Running.{IsLatest}
use Rattle.stage_checks.specs.Spreading.{entry}
use Rattle.stage_checks.proofs.Staged.{nothing_runs, are_nodes, inner_nodes, source_nodes, is_latest}
use Rattle.stage_checks.proofs.running.latest_stages.Goals as goal

pub returns-in_default : goal.returns-in_default
returns-in_default g c =
    let d = g.N.Names.tree c.args.names.now in
    let none : number_of d main_name ≡ None = sym c.in_ok-start.ensures ∙ c.in_default.is in
    let empty : (o : ℕ) → entry c.new.result.items o ≡ None = λ o. ap (λ (l : List (Option ℕ)). entry l o) c.new.ensures.items in
    λ o h. subst (λ (x : Option ℕ). IsLatest d o x) (sym (empty o)) (λ t r. nothing_runs d none o (Some t) r)

pub reached-requires-clause-nodes : goal.reached-requires-clause-nodes
reached-requires-clause-nodes g c = rw c.deref-2.ensures.value (are_nodes (g.N.Names.tree c.args.names.now) c.in_ok-next.next.items c.in_ok-next.ensures)

pub greatest-requires-clause-nodes : goal.greatest-requires-clause-nodes
greatest-requires-clause-nodes g c =
    let inside = rw c.deref.ensures.value at c.in_ok-inner.ensures.inner in
    let len = rw c.deref.ensures.value at c.in_ok-inner.ensures.length in
    rw c.deref-4.ensures.value (inner_nodes (g.N.Names.tree c.args.names.now) c.in_ok-next.next.items c.in_ok-next.ensures c.in_ok-inner.inner.items inside len)

pub greatest-requires-clause-sources : goal.greatest-requires-clause-sources
greatest-requires-clause-sources g c =
    let len = rw c.deref.ensures.value at c.in_ok-inner.ensures.length in
    let seen = rw c.deref-2.ensures.value at c.in_ok-reached.ensures.length in
    let rows = rw c.deref-3.ensures.value at c.in_ok-sources.ensures in
    let within = source_nodes (own_stage (g.N.Names.tree c.args.names.now)) c.in_ok-sources.sources.items c.in_ok-reached.reached.items rows in
    rw (c.deref-5.ensures.value, c.deref-4.ensures.value) (λ t b l. subst (λ (n : ℕ). b < n) (seen ∙ sym len) (within t b l))

pub returns : goal.returns
returns g c =
    let d = g.N.Names.tree c.args.names.now in
    let main : number_of d main_name ≡ Some c.in-Some.start = sym c.in_ok-start.ensures ∙ c.in-Some.is in
    let inside = rw c.deref.ensures.value at c.in_ok-inner.ensures.inner in
    let exact = rw c.deref-2.ensures.value at c.in_ok-reached.ensures.exact in
    let rows = rw c.deref-3.ensures.value at c.in_ok-sources.ensures in
    let greatest = rw (c.deref-4.ensures.value, c.deref-5.ensures.value) at c.in_ok-latest.ensures.greatest in
    λ o h. is_latest d c.in_ok-next.next.items c.in_ok-next.ensures c.in-Some.start main c.in_ok-inner.inner.items inside c.in_ok-sources.sources.items c.in_ok-reached.reached.items exact rows o _ h (greatest o)
