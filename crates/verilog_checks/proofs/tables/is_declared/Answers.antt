use Rattle.std.proofs.Common.{◌∙◌, ap, ap₂, ℕ}
use Rattle.std.specs.Prelude.{min, nat_lt}
use Rattle.verilog_checks.proofs.Members.{place_before}
use Rattle.verilog_checks.proofs.tables.is_declared.Goals as goal

pub returns : goal.returns
returns c = ap₂ (λ (a b : ℕ). nat_lt a b) c.place.ensures (c.min.ensures ∙ ap (λ (n : ℕ). min c.args.before n) c.len.ensures) ∙ place_before c.args.names.now.keys.items c.args.name.now c.args.before
