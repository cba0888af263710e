use Rattle.form_patterns.proofs.Standing.{patterns_made, patterns_more}
use Rattle.form_patterns.proofs.literal_bits.patterns.Goals as goal

pub loop-form-preserved : goal.loop-form-preserved
loop-form-preserved g c =
    patterns_more (g.N.Names.tree c.args.names.now) c.args.forms.now c.loop-form.form-index c.form-item.result c.loop-form.all.items c.push.new.self.items c.form_bits.result
    c.loop-form-test.true c.form-item.is c.in_ok-push.ensures.items c.form_bits.ensures c.loop-form.invariant

pub returns : goal.returns
returns g c = patterns_made (g.N.Names.tree c.args.names.now) c.args.forms.now c.loop-form.form-index c.loop-form.all.items c.requires.forms c.loop-form-test.false c.loop-form.invariant
