use Rattle.form_texts.proofs.Listed.{found_bad, none_bad}
use Rattle.form_texts.proofs.writing.first_bad_text.Goals as goal

pub returns-then-not-branch : goal.returns-then-not-branch
returns-then-not-branch g c =
    found_bad (g.N.Names.tree c.args.names.now) c.args.forms.now c.requires.forms c.loop-number.number c.loop-number.invariant c.index-forms-number.result c.loop-number-test.true c.index-forms-number.is c.in_ok-is_good.field-0
    (c.in_ok-is_good.ensures (g.N.Names.tree c.args.names.now) c.in_ok-templates.ensures) c.if-not-branch.true

pub returns : goal.returns
returns g c = none_bad (g.N.Names.tree c.args.names.now) c.args.forms.now c.requires.forms c.loop-number.number c.loop-number.invariant c.loop-number-test.false
