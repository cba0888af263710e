use Rattle.std.proofs.Common.{◌≡◌, arith, ℕ, ap, ◌∙◌}
use Rattle.std.specs.Prelude.{replicate}
use Rattle.moment_stores.proofs.Tables.{replicate_table}
use Rattle.moment_stores.proofs.boundaries.make_fields.Goals as goal

pub returns : goal.returns
returns c =
    let none : ℕ = 0 in
    let all : c.each.i ≡ c.args.count = omega (arith, c.each-test.false, c.each.auto.i-end) in
    c.each.invariant ∙ ap (λ (n : ℕ). replicate n (replicate c.args.width none)) all ∙ replicate_table c.args.count c.args.width none
