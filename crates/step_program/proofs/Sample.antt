-- A worked program: `M[0] := x + 1`, `temp := M[0]`, `x := temp + temp`, three edges from 0.
use Rattle.std.proofs.Common.{◌≡◌, [], ◌∷◌, refl}
use Rattle.std.specs.Prelude.{codes}
use Rattle.lisa_engine.specs.State.{State}
use Rattle.step_program.specs.declared.expressions.TwoOp.TheVariants as ops
use Rattle.step_program.specs.Programs.{Program, Const, Now, Temp, Cell, Two, ToItem, ToTemp, ToCell}
use Rattle.step_program.specs.Effects.{p_state}

sample : Program
sample = record {
  items = record { name = codes "x"; width = 8 } ∷ [];
  arrays = record { name = codes "M"; width = 8; depth = 2 } ∷ [];
  pins = [];
  first = 0 ∷ [];
  temps = 8 ∷ [];
  moves = record { guard = Const 1 1; aim = ToCell 0 (Const 1 0); value = Two ops.Add (Now 0) (Const 8 1) }
      ∷ record { guard = Const 1 1; aim = ToTemp 0; value = Cell 0 (Const 1 0) }
      ∷ record { guard = Const 1 1; aim = ToItem 0; value = Two ops.Add (Temp 0) (Temp 0) } ∷ [];
}

after : State
after = record { items = 14 ∷ []; cells = (7 ∷ 0 ∷ []) ∷ [] }

sample_runs : p_state sample [] ([] ∷ [] ∷ [] ∷ []) ≡ after
unfolding sample after
sample_runs = refl
