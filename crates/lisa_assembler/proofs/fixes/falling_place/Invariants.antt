use Rattle.std.proofs.Common.{◌≡◌, ◌++◌, map, take, drop}
use Rattle.placed_programs.specs.Entries.{PlainFix}
use Rattle.lisa_assembler.specs.Objects.{put_falling}
use Rattle.lisa_assembler.specs.Fixes.{fix_tree}
use Rattle.lisa_assembler.proofs.fixes.falling_place.Given as goal

abbrev pub invariant-loop-place : goal.invariant-loop-place
invariant-loop-place l = (f : PlainFix) → f.lsb ≡ l.lsb → put_falling f (map fix_tree l.fixes) ≡ map fix_tree (take l.place l.fixes) ++ put_falling f (map fix_tree (drop l.place l.fixes))
