use Rattle.module_sizes.proofs.Rows.{load_cost}
use Rattle.module_sizes.proofs.laws.rows_are_paid_by_forms.Goals as goal

pub returns : goal.returns
returns c p most rates d width base e from longest free formed = load_cost p most longest rates d width base e from free formed
