use Rattle.std.proofs.Common.{◌∙◌, ℕ, ap}
use Rattle.lowered_layouts.specs.lowered_words.Rows.{chosen_flag}
use Rattle.lowered_edges.specs.Code.{parts_tree}
use Rattle.lowered_edges.proofs.parts.EdgePartsParts.chooses.Goals as goal

pub returns : goal.returns
returns c = c.in_ok-flag.ensures ∙ ap (λ (base : ℕ). chosen_flag (parts_tree c.args.self.now) base c.args.number) c.in_ok-base.ensures
