use Rattle.std.proofs.Common.{◌≡◌, ◌++◌, map, drop}
use Rattle.verilog_text.specs.Conditions.{head_declares, Input}
use Rattle.verilog_places.specs.Trees.{bare_inputs, bare_module, placed_module}
use Rattle.verilog_checks.specs.Views.{declared_by}
use Rattle.verilog_checks.proofs.survey.head.Given as goal

abbrev pub invariant-each : goal.invariant-each
invariant-each l = map declared_by l.out.items ++ map (λ item. record { name = item.name; sort = Input item.width }) (bare_inputs (drop l.input-index l.module.inputs.items))
    ≡ head_declares (bare_module (placed_module l.module))
