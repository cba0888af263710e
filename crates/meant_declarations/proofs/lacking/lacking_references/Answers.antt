use Rattle.std.proofs.Common.{◌≡◌, ◌+◌, ℕ, List, Bool, length, ap, sym, ◌∙◌, arith}
use Rattle.std.proofs.lemmas.List.{length_push}
use Rattle.lisa_tree.specs.Declarations.{entries}
use Rattle.graph_paths.specs.Paths.{saw}
use Rattle.meant_declarations.specs.Meanings.{SomeLedTo}
use Rattle.meant_declarations.specs.Lacking.{lacks}
use Rattle.meant_declarations.proofs.Walks.{one_more_mark, all_marks}
use Rattle.meant_declarations.proofs.Lacked.{lacks_past}
use Rattle.meant_declarations.proofs.lacking.lacking_references.Goals as goal

pub loop-entry-preserved : goal.loop-entry-preserved
loop-entry-preserved g c = record {
  count = ap length c.in_ok-push.ensures.items ∙ length_push c.loop-entry.lacking.items c.is_lacking.result ∙ ap (λ (k : ℕ). k + 1) c.loop-entry.invariant.count;
  each = λ i h.
      ap (λ (marks : List Bool). saw marks i) c.in_ok-push.ensures.items
      ∙ one_more_mark (lacks (g.N.Names.tree c.args.names.now)) c.loop-entry.lacking.items c.is_lacking.result c.loop-entry.entry c.loop-entry.invariant.count c.loop-entry.invariant.each c.is_lacking.ensures i h;
}

pub returns : goal.returns
returns g c =
    let d = g.N.Names.tree c.args.names.now in
    let last : c.loop-entry.entry ≡ length (entries d) = omega (arith, c.loop-entry-test.false, c.loop-entry.auto.entry-end, c.entry_count-entry-end.ensures) in
    all_marks (lacks d) c.loop-entry.lacking.items c.loop-entry.entry c.loop-entry.invariant.count c.loop-entry.invariant.each (λ i h. lacks_past d i (omega (arith, h, last)))
