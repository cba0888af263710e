use Rattle.std.proofs.Common.{◌≤◌, ◌+◌, ◌∙◌, ℕ, Option, sym, ap, arith}
use Rattle.std.specs.Prelude.{unwrap_or}
use Rattle.least_fixed_points.specs.Settles.{entry}
use Rattle.instruction_forms.proofs.Spans.{span_is}
use Rattle.instruction_forms.proofs.picking.end.Goals as goal

pub returns : goal.returns
returns g c =
    let d = g.N.Names.tree c.args.sources.now.names.now in
    let good = c.requires.pick in
    let low = good.low in
    let small : good.width ≤ 64 = omega (arith, low) in
    ap (λ (n : ℕ). c.args.pick.low + n) (
    c.unwrap_or-width.ensures
    ∙ ap (λ (x : Option ℕ). unwrap_or x 0) (c.of_operation.ensures ∙ good.is)
    ∙ sym (span_is d (entry c.args.sources.now.widths.now) c.requires.wide c.args.pick.operation good.width c.requires.there good.is small))
