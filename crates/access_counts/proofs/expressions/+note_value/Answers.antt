use Rattle.std.proofs.Common.{◌∙◌}
use Rattle.access_counts.proofs.Noting.{both_noted}
use Rattle.access_counts.proofs.expressions.+note_value.Goals as goal

pub returns-in-Choose : goal.returns-in-Choose
returns-in-Choose g t c =
    let d = g.N.Names.tree c.args.names.now in
    rw c.in-Choose.is (both_noted d c.args.operation _ _ _ _ _ _ (rw c.deref-in-Choose.ensures at c.note_value-in-Choose.ensures)
    (both_noted d c.args.operation _ _ _ _ _ _ (rw c.deref-in-Choose-2.ensures at c.note_value-in-Choose-2.ensures) (rw c.deref-in-Choose-3.ensures at c.note_value-in-Choose-3.ensures)))
