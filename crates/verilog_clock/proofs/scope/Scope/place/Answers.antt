use Rattle.std.proofs.Common.{◌∙◌, ap, List, ℕ}
use Rattle.std.specs.Prelude.{nat_eq}
use Rattle.std.specs.List.{position_or_len}
use Rattle.std.specs.Cmp.Lexicographic.{pointwise}
use Rattle.verilog_clock.proofs.Places.{items_place}
use Rattle.verilog_clock.proofs.scope.Scope.place.Goals as goal

pub returns : goal.returns
returns c = c.place.ensures ∙ ap (λ (ks : List (List ℕ)). position_or_len (pointwise nat_eq c.args.name.now) ks) c.args.self.now.word_names ∙ items_place _ c.args.name.now
