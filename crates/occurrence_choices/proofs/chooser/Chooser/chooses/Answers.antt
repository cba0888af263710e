use Rattle.std.proofs.Common.{ap, ◌∙◌}
use Rattle.lisa_tree.specs.Descriptions.{DescriptionTree}
use Rattle.lisa_tree.specs.declared.descriptions.Description.{Description}
use Rattle.scene_paths.specs.lisa_meaning.Cores.{chooses}
use Rattle.scene_paths.specs.Lookups.{tree_of}
use Rattle.occurrence_choices.proofs.chooser.Chooser.chooses.Goals as goal

pub returns : goal.returns
returns c =
    c.chooses.ensures ∙ ap (λ (d : DescriptionTree). chooses d c.args.number c.args.word) c.self.invariant
    ∙ ap (λ (d : Description). chooses (tree_of d) c.args.number c.args.word) c.self.view_is
