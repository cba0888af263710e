use Rattle.std.proofs.Common.{◌≡◌, ℕ, take}
use Rattle.graph_paths.specs.Paths.{is_in}
use Rattle.meant_declarations.specs.Declaring.{has}
use Rattle.meant_declarations.proofs.declaring.set_of.Given as goal

abbrev pub invariant-loop-number : goal.invariant-loop-number
invariant-loop-number l = (p : ℕ) → has l.set p ≡ is_in p (take l.number-index l.numbers)
