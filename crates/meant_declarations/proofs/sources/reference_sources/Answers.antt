use Rattle.std.proofs.Common.{◌≡◌, ◌+◌, ℕ, List, length, ap, sym, subst, ◌∙◌, arith}
use Rattle.std.specs.Global.{Vec}
use Rattle.std.proofs.lemmas.List.{length_push}
use Rattle.lisa_tree.specs.Declarations.{entries}
use Rattle.graph_paths.specs.Paths.{targets}
use Rattle.meant_declarations.specs.Sources.{AreSome}
use Rattle.meant_declarations.proofs.Sourced.{one_more_some, are_sources}
use Rattle.meant_declarations.proofs.sources.reference_sources.Goals as goal

pub loop-entry-preserved : goal.loop-entry-preserved
loop-entry-preserved g c =
    let d = g.N.Names.tree c.args.names.now in
    let i = c.loop-entry.entry in
    let known = c.in_ok-known-2.known in
    let row = c.in_ok-some_row.field-0 in
    let here : AreSome d i row.items = c.in_ok-some_row.ensures in
    record {
      count = ap length c.in_ok-push.ensures.items ∙ length_push c.loop-entry.next.items row ∙ ap (λ (k : ℕ). k + 1) c.loop-entry.invariant.count;
      noted = c.loop-entry.invariant.noted;
      around = c.in_ok-known-2.ensures;
      each = λ k h. subst (λ (rows : List (Vec ℕ)). AreSome d k (targets rows k)) (sym c.in_ok-push.ensures.items) (one_more_some d c.loop-entry.next.items row i c.loop-entry.invariant.count c.loop-entry.invariant.each here k h);
    }

pub returns : goal.returns
returns g c =
    let d = g.N.Names.tree c.args.names.now in
    let last : c.loop-entry.entry ≡ length (entries d) = omega (arith, c.loop-entry-test.false, c.loop-entry.auto.entry-end, c.entry_count-entry-end.ensures) in
    let count : length c.loop-entry.next.items ≡ length (entries d) = c.loop-entry.invariant.count ∙ last in
    are_sources d c.loop-entry.next.items count (λ i h. c.loop-entry.invariant.each i (omega (arith, h, c.loop-entry.invariant.count)))
