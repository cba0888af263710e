use Rattle.std.proofs.Common.{◌∙◌, ap, arith}
use Rattle.lisa_tree.specs.Descriptions.{DescriptionTree}
use Rattle.noted_names.specs.Standing.{names_in}
use Rattle.noted_names.proofs.Noting.{all_noted, one_noted}
use Rattle.noted_names.proofs.naming.memo_of.Goals as goal

pub each-preserved : goal.each-preserved
each-preserved g c = record {
  right = c.in_ok-note_name.ensures.right;
  noted = one_noted c.each.memo.table c.note_name.new.memo.table c.in_ok-met.met.items c.each.place c.index.result.now c.each.invariant.noted c.in_ok-note_name.ensures.kept (omega (arith, c.each-test.true, c.len-place-end.ensures, c.in_ok-met.met.ok.0)) c.index.ensures c.in_ok-note_name.ensures.noted;
}

pub returns-clause-noted : goal.returns-clause-noted
returns-clause-noted g c =
    all_noted c.each.memo.table c.in_ok-met.met.items (names_in (g.N.Names.tree c.args.names.now) c.args.operation) c.each.place c.each.invariant.noted (omega (arith, c.each-test.false, c.len-place-end.ensures, c.in_ok-met.met.ok.0))
    (c.in_ok-met.ensures ∙ ap (λ (d : DescriptionTree). names_in d c.args.operation) c.description.ensures)
