use Rattle.std.proofs.Common.{arith}
use Rattle.text_tables.proofs.Parted.{pieces_in}
use Rattle.text_tables.proofs.Sharing.{first_of_all, none_from, none_at_all}
use Rattle.text_tables.proofs.shared.first_shared.Goals as goal

pub returns-in-Some : goal.returns-in-Some
returns-in-Some c = first_of_all (pieces_in c.args.texts.now) c.args.texts.now.texts.items c.forms.first c.in-Some.shared c.forms.invariant (rw c.in-Some.is at c.in_ok-shared.ensures)

pub forms-preserved : goal.forms-preserved
forms-preserved c = none_from (pieces_in c.args.texts.now) c.args.texts.now.texts.items c.forms.first c.forms.invariant (rw c.in_default.is at c.in_ok-shared.ensures)

pub returns : goal.returns
returns c = none_at_all (pieces_in c.args.texts.now) c.args.texts.now.texts.items c.forms.first c.forms.invariant (omega arith)
