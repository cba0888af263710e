-- The pins of a module have from 1 to 64 bits.
use Rattle.std.proofs.Common.{◌+◌, List, ◌++◌, length, map, subst, arith, length-append}
use Rattle.std.specs.Prelude.{All}
use Rattle.std.proofs.lemmas.List.{get_or-append-add, get_or_append_left}
use Rattle.lisa_engine.specs.Shape.{IsWidth}
use Rattle.lisa_engine.specs.declared.parts.Item.{Item}
use Rattle.verilog_text.specs.Trees.{ModuleTree}
use Rattle.verilog_text.specs.Clocked.{regs, nets}
use Rattle.verilog_text.specs.Clocked as modules
use Rattle.verilog_text.specs.Clockable.{IsClockable}

front_all : (P : Item → Type 0) (xs ys : List Item) → All P (xs ++ ys) → All P xs
front_all P xs ys all k d within = subst P (get_or_append_left xs ys d k within) (all k d (omega (arith, length-append xs ys)))

back_all : (P : Item → Type 0) (xs ys : List Item) → All P (xs ++ ys) → All P ys
back_all P xs ys all k d within = subst P (get_or-append-add xs ys k d) (all (length xs + k) d (omega (arith, length-append xs ys)))

pub pin_widths : (m : ModuleTree) → IsClockable m → All (λ (pin : Item). IsWidth pin.width) m.inputs
pin_widths m clockable =
    let wires = map (λ (net : modules.Net). net.item) (nets m.members) in
    front_all (λ (pin : Item). IsWidth pin.width) m.inputs wires
    (back_all (λ (pin : Item). IsWidth pin.width) (regs m.members) (m.inputs ++ wires)
    (λ k d within. (clockable.some_scalars k d within, clockable.narrow_scalars k d within)))
