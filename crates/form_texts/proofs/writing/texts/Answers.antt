use Rattle.form_texts.proofs.Listed.{texts_are}
use Rattle.form_texts.proofs.writing.texts.Goals as goal

pub returns : goal.returns
returns g c = texts_are (g.N.Names.tree c.args.names.now) c.args.forms.now c.requires.forms _ c.loop-form.form-index c.loop-form-test.false c.loop-form.invariant.pieces c.loop-form.invariant.orders
