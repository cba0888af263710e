use Rattle.std.proofs.Common.{◌+◌, drop, map}
use Rattle.assembler_commands.specs.ObjectViews.{texts_of, trees_of}
use Rattle.assembler_commands.proofs.ObjectFiles.{HasRead}
use Rattle.assembler_commands.proofs.objects.objects_of.Given as goal

abbrev pub invariant-loop-place : goal.invariant-loop-place
invariant-loop-place l = HasRead (texts_of l.files) (texts_of (drop l.place l.files)) (l.place + 1) (trees_of l.all.items)
