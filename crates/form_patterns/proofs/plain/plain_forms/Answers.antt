use Rattle.form_patterns.proofs.Standing.{plain_made}
use Rattle.form_patterns.proofs.plain.plain_forms.Goals as goal

pub returns : goal.returns
returns g c = plain_made (g.N.Names.tree c.args.names.now) c.args.forms.now c.loop-form.form-index c.loop-form.all.items c.requires.forms c.loop-form-test.false c.loop-form.invariant
