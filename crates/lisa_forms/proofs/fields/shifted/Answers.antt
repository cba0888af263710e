use Rattle.lisa_forms.proofs.Adding.{whole}
use Rattle.lisa_forms.proofs.fields.shifted.Goals as goal

pub returns-else-value-eq0 : goal.returns-else-value-eq0
returns-else-value-eq0 c = whole c.args.value c.args.place.lsb c.args.place.width c.requires.below c.requires.inside
