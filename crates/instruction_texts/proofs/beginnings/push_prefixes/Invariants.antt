use Rattle.std.specs.Prelude.{◌≡◌, ◌-◌, ◌++◌, map, length}
use Rattle.instruction_texts.specs.Starts.{start_of, prefixes, run_prefixes}
use Rattle.instruction_texts.proofs.beginnings.push_prefixes.Given as goal

abbrev pub invariant-lengths : goal.invariant-lengths
invariant-lengths l = map start_of l.starts.items ++ prefixes l.run l.count (length l.run - l.count) ≡ map start_of l.fn.starts.items ++ run_prefixes l.run
