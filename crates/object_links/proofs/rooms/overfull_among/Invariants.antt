use Rattle.std.proofs.Common.{◌≡◌, drop}
use Rattle.placed_programs.specs.Addresses.{Counts}
use Rattle.object_links.specs.Firsts.{first_of}
use Rattle.object_links.specs.LinkFaults.{if_overfull}
use Rattle.object_links.specs.LineSizes.{count_of}
use Rattle.object_links.proofs.Capped.{Alike}
use Rattle.object_links.proofs.rooms.overfull_among.Given as goal

abbrev pub invariant-each : goal.invariant-each
invariant-each l = (all : Counts) → Alike (count_of l.counts) all → first_of (if_overfull all) (drop l.memory-index l.memories) ≡ first_of (if_overfull all) l.memories
