use Rattle.std.proofs.Common.{ℕ, List, ap, ◌∙◌}
use Rattle.std.specs.Prelude.{fold, replicate}
use Rattle.verilog_text.specs.Clocked.{first_set, settings, regs}
use Rattle.verilog_clock.specs.Scopes.{module_in}
use Rattle.verilog_clock.proofs.Zeros.{zeros_are}
use Rattle.verilog_clock.proofs.firsts.first_values.Goals as goal

pub each-init : goal.each-init
each-init c =
    let m = module_in c.args.scope.now in
    ap (λ (values : List ℕ). fold (first_set m) values (settings m.members))
    (c.in_ok-values.ensures.items_if_clones_equal (λ y e. e) ∙ ap (λ (n : ℕ). replicate {A = ℕ} n 0) c.requires ∙ zeros_are (regs m.members))
