use Rattle.form_patterns.proofs.Placing.{whole_places}
use Rattle.form_patterns.proofs.laws.fields_stand_in_preorder.Goals as goal

pub returns : goal.returns
returns c d f fits = whole_places d f fits
