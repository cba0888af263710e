use Rattle.std.proofs.Common.{◌∙◌, ap₂, ℕ}
use Rattle.std.specs.Prelude.{min}
use Rattle.verilog_clock.proofs.Places.{front_place}
use Rattle.verilog_clock.proofs.scope.Scope.target.Goals as goal

pub returns : goal.returns
returns c = c.min.ensures ∙ ap₂ (λ (a b : ℕ). min a b) c.place.ensures c.args.self.now.counted ∙ front_place _ _ c.args.name.now
