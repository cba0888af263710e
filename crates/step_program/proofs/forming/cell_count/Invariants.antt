use Rattle.std.proofs.Common.{◌≡◌, ◌≤◌, ◌*◌, ◌^◌, take}
use Rattle.std.specs.Prelude.{sum_by}
use Rattle.step_program.proofs.forming.cell_count.Given as goal

abbrev pub invariant-loop-array : goal.invariant-loop-array
invariant-loop-array l = record {
  sum : l.count ≡ sum_by (λ array. array.depth) (take l.array-index l.arrays);
  small : l.count ≤ l.array-index * 2 ^ 32;
}
