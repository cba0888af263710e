use Rattle.std.proofs.Common.{◌≡◌, List, ℕ, Option, map, subst}
use Rattle.std.specs.Prelude.{IfOk}
use Rattle.verilog_checks.specs.Views.{told}
use Rattle.verilog_checks.specs.Readings.{reg_names, given_names}
use Rattle.verilog_checks.proofs.BrokenRules.{unset_by_sets}
use Rattle.verilog_checks.proofs.rules.first_unset.Goals as goal

pub returns : goal.returns
returns c =
    let all = map told c.args.events.now in
    subst (λ (a : Option (List ℕ)). IfOk c.first_unset_among.result (λ o. o ≡ a))
    (unset_by_sets (reg_names all) (given_names all) c.new-earlier.result.keys.items c.in_ok-regs.regs.keys.items c.in_ok-given.given.keys.items all c.in_ok-regs.ensures c.in_ok-given.ensures c.new-earlier.ensures)
    c.first_unset_among.ensures
