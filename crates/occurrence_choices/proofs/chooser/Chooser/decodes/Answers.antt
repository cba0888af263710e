use Rattle.std.proofs.Common.{ap, ◌∙◌}
use Rattle.lisa_tree.specs.Descriptions.{DescriptionTree}
use Rattle.lisa_tree.specs.declared.descriptions.Description.{Description}
use Rattle.scene_paths.specs.lisa_meaning.Cores.{decodes}
use Rattle.scene_paths.specs.Lookups.{tree_of}
use Rattle.occurrence_choices.proofs.chooser.Chooser.decodes.Goals as goal

pub returns : goal.returns
returns c =
    c.decodes.ensures ∙ ap (λ (d : DescriptionTree). decodes d c.args.word) c.self.invariant
    ∙ ap (λ (d : Description). decodes (tree_of d) c.args.word) c.self.view_is
