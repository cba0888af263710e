-- Parts of instructions' forms.
use Rattle.std.specs.Prelude.{Option, option_map}
use Rattle.lisa_meaning.specs.instruction_forms.Trees.{FormTree, form_tree}
use Rattle.scene_paths.specs.declared.part.Part.{Part}

abbrev pub part_tree : Part → FormTree
part_tree part = form_tree part.form.now

abbrev pub part_trees : Option Part → Option FormTree
part_trees part = option_map part_tree part
