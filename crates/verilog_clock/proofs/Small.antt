-- The members of a module that can be clocked are small.
use Rattle.std.proofs.Common.{zero, suc, ◌+◌, ◌≤◌, List, [], ◌∷◌, ◌++◌, length, map, arith, subst, length-append}
use Rattle.std.specs.Prelude.{All}
use Rattle.std.proofs.lemmas.List.{get_or-append-add}
use Rattle.lisa_engine.specs.declared.parts.Item.{Item}
use Rattle.verilog_text.specs.Trees.{MemberTree, Reg, Array, Wire, Initial, Always, ModuleTree}
use Rattle.verilog_text.specs.Values.{Widths}
use Rattle.verilog_text.specs.Clocked.{regs, nets, widths_of}
use Rattle.verilog_text.specs.Clocked as modules
use Rattle.verilog_text.specs.Clockable.{IsNarrowMember, IsClockable}
use Rattle.verilog_clock.specs.Named.{IsSmallMember}

abbrev wires : List MemberTree → List Item
wires all = map (λ (net : modules.Net). net.item) (nets all)

small_of : (w : Widths) (all : List MemberTree) → All (IsNarrowMember w) all → All (λ (item : Item). item.width ≤ 64) (wires all) → All (IsSmallMember w) all
small_of w [] narrow small k d within = absurd (omega arith)
small_of w (Reg item ∷ rest) narrow small zero d within = tt
small_of w (Array array ∷ rest) narrow small zero d within = tt
small_of w (Wire item e ∷ rest) narrow small zero d within = (small 0 item (omega arith), narrow 0 d (omega arith))
small_of w (Initial settings ∷ rest) narrow small zero d within = tt
small_of w (Always edge actions ∷ rest) narrow small zero d within = narrow 0 d (omega arith)
small_of w (Reg item ∷ rest) narrow small (suc k) d within = small_of w rest (λ j x less. narrow (suc j) x (omega arith)) small k d (omega arith)
small_of w (Array array ∷ rest) narrow small (suc k) d within = small_of w rest (λ j x less. narrow (suc j) x (omega arith)) small k d (omega arith)
small_of w (Wire item e ∷ rest) narrow small (suc k) d within = small_of w rest (λ j x less. narrow (suc j) x (omega arith)) (λ j x less. small (suc j) x (omega arith)) k d (omega arith)
small_of w (Initial settings ∷ rest) narrow small (suc k) d within = small_of w rest (λ j x less. narrow (suc j) x (omega arith)) small k d (omega arith)
small_of w (Always edge actions ∷ rest) narrow small (suc k) d within = small_of w rest (λ j x less. narrow (suc j) x (omega arith)) small k d (omega arith)

all_back : {X : Type 0} (P : X → Type 0) (xs ys : List X) → All P (xs ++ ys) → All P ys
all_back P xs ys all k d within = subst P (get_or-append-add xs ys k d) (all (length xs + k) d (omega (arith, length-append xs ys)))

pub small_members : (m : ModuleTree) → IsClockable m → All (IsSmallMember (widths_of m)) m.members
small_members m clockable =
    small_of (widths_of m) m.members clockable.narrow
    (all_back (λ (item : Item). item.width ≤ 64) m.inputs (wires m.members)
    (all_back (λ (item : Item). item.width ≤ 64) (regs m.members) (m.inputs ++ wires m.members) clockable.narrow_scalars))
