use Rattle.std.proofs.Common.{◌∙◌, ap, ap₂, List, ℕ}
use Rattle.std.specs.Prelude.{nat_eq, slice_index}
use Rattle.std.specs.List.{position_or_len}
use Rattle.std.specs.Cmp.Lexicographic.{pointwise}
use Rattle.verilog_clock.proofs.Places.{arrays_place}
use Rattle.verilog_clock.proofs.scope.Scope.cell_width.Goals as goal

pub returns-clause-value : goal.returns-clause-value
returns-clause-value c = c.width.ensures ∙ ap₂ (λ (ws : List ℕ) (n : ℕ). slice_index ws n) c.args.self.now.memory_widths
    (ap (λ (ks : List (List ℕ)). position_or_len (pointwise nat_eq c.args.name.now) ks) c.args.self.now.memory_names ∙ arrays_place _ c.args.name.now)
