use Rattle.std.proofs.Common.{◌≡◌, ◌+◌, drop}
use Rattle.std.specs.List.{fold}
use Rattle.hex_files.specs.Maps.{laid, stored}
use Rattle.hex_files.proofs.hex_reader.store_bytes.Given as goal

abbrev pub invariant-loop-place : goal.invariant-loop-place
invariant-loop-place l = fold stored l.values.items (laid (l.start + l.place) (drop l.place l.content)) ≡ fold stored l.fn.values.items (laid l.start l.content)
