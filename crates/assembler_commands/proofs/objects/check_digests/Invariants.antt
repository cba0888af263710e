use Rattle.std.proofs.Common.{◌+◌, drop, map}
use Rattle.assembler_commands.specs.ObjectViews.{trees_of}
use Rattle.assembler_commands.proofs.Digested.{HasDigests}
use Rattle.assembler_commands.proofs.objects.check_digests.Given as goal

abbrev pub invariant-loop-place : goal.invariant-loop-place
invariant-loop-place l = HasDigests l.digest (trees_of l.objects) (trees_of (drop l.place l.objects)) (l.place + 1)
