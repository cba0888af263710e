use Rattle.std.proofs.Common.{◌≡◌, ℕ, List, drop}
use Rattle.std.specs.Option.{option_or}
use Rattle.name_tables.specs.TableViews.{value_of}
use Rattle.verilog_size_checks.specs.Sought.{first_of, input_value}
use Rattle.verilog_size_checks.proofs.tables.enter_inputs.Given as goal

abbrev pub invariant-each : goal.invariant-each
invariant-each l = (n : List ℕ) → option_or (value_of l.table n) (first_of (input_value l.kind n) (drop l.input-index l.inputs))
    ≡ option_or (value_of l.initial.table n) (first_of (input_value l.kind n) l.inputs)
