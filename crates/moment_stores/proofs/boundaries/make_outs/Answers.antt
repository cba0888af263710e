use Rattle.std.proofs.Common.{◌≡◌, arith, ℕ, ap, ◌∙◌}
use Rattle.std.specs.Prelude.{Option, None, replicate}
use Rattle.moment_stores.proofs.Tables.{replicate_table}
use Rattle.moment_stores.proofs.boundaries.make_outs.Goals as goal

pub returns : goal.returns
returns c =
    let none : Option ℕ = None in
    let all : c.each.i ≡ c.args.count = omega (arith, c.each-test.false, c.each.auto.i-end) in
    c.each.invariant ∙ ap (λ (n : ℕ). replicate n (replicate c.args.width none)) all ∙ replicate_table c.args.count c.args.width none
