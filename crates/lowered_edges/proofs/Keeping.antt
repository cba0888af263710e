-- A behaviour leaves as it was what isn't its own.
use Rattle.std.proofs.Common.{◌≤◌, ℕ, length, arith}
use Rattle.lisa_tree.specs.Descriptions.{DescriptionTree}
use Rattle.step_program.specs.Programs.{Program}
use Rattle.step_program.specs.Effects as steps
use Rattle.activation_plans.specs.lisa_meaning.Cores.{core_of}
use Rattle.lowered_time.specs.Building.{time_temps}
use Rattle.lowered_time.specs.Lowering.{Keeps, HasRowWord}
use Rattle.lowered_behaviors.specs.Laws.{KeepsElse}
use Rattle.lowered_layouts.specs.Temps.{rows_at, lasting_widths}
use Rattle.lowered_layouts.specs.Items.{time_layout}
use Rattle.lowered_layouts.proofs.Temps.{lasting_long, times_last}
use Rattle.lowered_edges.specs.Meaning.{meant}
use Rattle.lowered_edges.proofs.Moments.{behind_registers, has_row, row_had, row_left}

module _ (d : DescriptionTree) (width : ℕ) (p : Program) (from : ℕ) (low : length (lasting_widths d width) ≤ from) (a b : steps.Moment)
    (k : KeepsElse d (time_temps (core_of d)) (rows_at d) from a b) where
  pub keeps_else : Keeps (core_of d) (time_layout d width) from a b
  keeps_else = record {
    times = λ temp less. let first = times_last d width in k.temps_before temp less (omega (arith, less, first, low));
    others = λ temp least less. let long = lasting_long d width in k.temps_behind temp (omega (arith, long, least)) less;
    temp_count = k.temp_count;
    item_count = k.item_count;
    places = λ place at. k.items place (behind_registers d width p place at);
  }

  pub rows_else : (row word : ℕ) → HasRowWord (meant d width p) row word a → HasRowWord (meant d width p) row word b
  rows_else row word has = has_row d width p row word b (row_left d width p row word a b (λ n least less. k.temps_behind n least (omega (arith, less, low))) (row_had d width p row word a has))
