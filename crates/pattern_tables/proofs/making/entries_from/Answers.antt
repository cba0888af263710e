use Rattle.pattern_tables.proofs.Entering.{taken, passed}
use Rattle.pattern_tables.proofs.making.entries_from.Goals.{then-plain-form+in_ok-push, else-plain-form}
use Rattle.pattern_tables.proofs.making.entries_from.Goals as goal

pub forms-preserved : goal.forms-preserved
forms-preserved c = elim c.if-plain-form.branch [
  | then-plain-form+in_ok-push w ↦ rw w.entries-is (taken _ _ c.forms.form _ _ c.forms.entries.items w.push.new.self.items _ c.forms-test.true c.requires.level w.if-plain-form.true w.in_ok-push.ensures.items c.forms.invariant)
  | else-plain-form w ↦ rw w.entries-is (passed _ _ c.forms.form (record { mask = 0; pattern = 0 }) _ c.forms.entries.items _ c.forms-test.true c.requires.level w.if-plain-form.false c.forms.invariant)
]
