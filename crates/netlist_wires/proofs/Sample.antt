-- A worked program, `M[0] := x + 1`, `temp := M[0]`, `x := temp + temp`, and its module's wires.
use Rattle.std.proofs.Common.{◌≡◌, List, [], ◌∷◌, refl}
use Rattle.std.specs.Prelude.{codes, None}
use Rattle.step_program.specs.declared.expressions.TwoOp.TheVariants as ops
use Rattle.step_program.specs.Programs.{Program, Const, Now, Temp, Cell, Two, ToItem, ToTemp, ToCell}
use Rattle.netlist_wires.specs.declared.keys.Flat.TheVariants.{Fixed, OfItem, OfWire}
use Rattle.netlist_wires.specs.declared.keys.Body.TheVariants.{Load, Operate, Select}
use Rattle.netlist_wires.specs.declared.keys.Key.{Key}
use Rattle.netlist_wires.specs.Wiring.{Find, share, ended}
use Rattle.netlist_wires.specs.Costs.{wires_most}

abbrev sample : Program
sample = record {
  items = record { name = codes "x"; width = 8 } ∷ [];
  arrays = record { name = codes "M"; width = 8; depth = 2 } ∷ [];
  pins = [];
  first = 0 ∷ [];
  temps = 8 ∷ [];
  moves = record { guard = Const 1 1; aim = ToCell 0 (Const 1 0); value = Two ops.Add (Now 0) (Const 8 1) }
      ∷ record { guard = Const 1 1; aim = ToTemp 0; value = Cell 0 (Const 1 0) }
      ∷ record { guard = Const 1 1; aim = ToItem 0; value = Two ops.Add (Temp 0) (Temp 0) } ∷ [];
}

abbrev nowhere : Find
nowhere keys key = None

abbrev wires : List Key
wires = record { width = 8; body = Operate ops.Add (OfItem 0) (Fixed 8 1) }
    ∷ record { width = 8; body = Load 0 (Fixed 1 0) }
    ∷ record { width = 1; body = Operate ops.Equal (Fixed 1 0) (Fixed 1 0) }
    ∷ record { width = 8; body = Select (Fixed 1 1) (OfWire 0) (OfWire 1) }
    ∷ record { width = 8; body = Select (OfWire 2) (OfWire 3) (OfWire 1) }
    ∷ record { width = 8; body = Operate ops.Add (OfWire 4) (OfWire 4) } ∷ []

sample_wires : (ended nowhere sample).keys ≡ wires
unfolding share
sample_wires = refl

sample_most : wires_most sample ≡ 8
sample_most = refl
