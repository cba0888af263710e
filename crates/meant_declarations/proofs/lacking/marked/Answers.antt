use Rattle.std.proofs.Common.{◌≡◌, ◌+◌, ℕ, List, Bool, length, ap, sym, subst, ◌∙◌, arith}
use Rattle.std.proofs.lemmas.List.{length_push}
use Rattle.lisa_tree.specs.Declarations.{entries, owner_at}
use Rattle.graph_paths.specs.Paths.{saw}
use Rattle.meant_declarations.specs.Sources.{IsCovered}
use Rattle.meant_declarations.specs.Lacking.{IsMarked}
use Rattle.meant_declarations.proofs.Lacked.{is_marked, one_more_marked, are_marked}
use Rattle.meant_declarations.proofs.lacking.marked.Goals as goal

pub loop-entry-preserved : goal.loop-entry-preserved
loop-entry-preserved g c =
    let d = g.N.Names.tree c.args.names.now in
    let i = c.loop-entry.entry in
    let known = c.in_ok-known-2.known in
    let mark = c.is_short.result in
    let covered : IsCovered d (owner_at d i) known.cover known.rest.items = subst (λ (o : ℕ). IsCovered d o known.cover known.rest.items) c.owner_at-operation.ensures c.in_ok-known-2.ensures.covered in
    let this : IsMarked d i mark = subst (IsMarked d i) (sym c.is_short.ensures) (is_marked d i known.cover known.rest.items covered) in
    record {
      count = ap length c.in_ok-push.ensures.items ∙ length_push c.loop-entry.marks.items mark ∙ ap (λ (k : ℕ). k + 1) c.loop-entry.invariant.count;
      around = c.in_ok-known-2.ensures;
      each = λ k h. subst (λ (marks : List Bool). IsMarked d k (saw marks k)) (sym c.in_ok-push.ensures.items) (one_more_marked d c.loop-entry.marks.items mark i c.loop-entry.invariant.count c.loop-entry.invariant.each this k h);
    }

pub returns : goal.returns
returns g c =
    let d = g.N.Names.tree c.args.names.now in
    let last : c.loop-entry.entry ≡ length (entries d) = omega (arith, c.loop-entry-test.false, c.loop-entry.auto.entry-end, c.entry_count-entry-end.ensures) in
    let count : length c.loop-entry.marks.items ≡ length (entries d) = c.loop-entry.invariant.count ∙ last in
    are_marked d c.loop-entry.marks.items count (λ i h. c.loop-entry.invariant.each i (omega (arith, h, c.loop-entry.invariant.count)))
