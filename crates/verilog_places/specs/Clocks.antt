-- Modules whose `always` blocks name the clock.
use Rattle.std.specs.Prelude.{◌≡◌, ℕ, List, map, All}
use Rattle.verilog_text.specs.Trees.{MemberTree, Always, ModuleTree}

-- an `always` block that names this clock
abbrev pub clocked : (clock : List ℕ) → MemberTree → MemberTree
clocked clock (Always edge actions) = Always clock actions
clocked clock member = member

-- each `always` block names the clock
abbrev pub with_one_clock : ModuleTree → ModuleTree
with_one_clock m = record { name = m.name; clock = m.clock; inputs = m.inputs; members = map (clocked m.clock) m.members }

-- they do so already
abbrev pub HasOneClock : ModuleTree → Type 0
HasOneClock m = All (λ member. clocked m.clock member ≡ member) m.members
