use Rattle.std.proofs.Common.{◌∙◌}
use Rattle.graph_paths.proofs.Search.{targets_at}
use Rattle.occurrence_choices.proofs.asking.row.Goals as goal

pub returns : goal.returns
returns c = c.as_slice.ensures.value ∙ targets_at _ _ _ c.requires c.index-rows-form.is
