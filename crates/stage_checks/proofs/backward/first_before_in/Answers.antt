use Rattle.std.proofs.Common.{◌≡◌, ℕ, ◌∙◌, sym, ap, Option, false, arith}
use Rattle.lisa_tree.specs.Declarations.{plain_at}
use Rattle.stage_checks.specs.Controls.{is_before}
use Rattle.stage_checks.specs.Spreading.{entry}
use Rattle.stage_checks.specs.Backward.{first_before, plain_of}
use Rattle.stage_checks.proofs.Stages.{none_before}
use Rattle.stage_checks.proofs.backward.first_before_in.Goals as goal

pub returns-then-not-is_before : goal.returns-then-not-is_before
returns-then-not-is_before g c =
    let d = g.N.Names.tree c.args.names.now in
    let off : is_before (entry c.args.earliest.now c.in-Some.choice) c.args.late ≡ false = ap (λ (x : Option ℕ). is_before x c.args.late) (sym c.stage_in.ensures) ∙ grind arith in
    none_before d c.args.late (plain_at d c.in-Some.choice) (entry c.args.earliest.now c.in-Some.choice) (c.requires c.in-Some.choice) off
    ∙ ap (λ (x : Option ℕ). first_before d c.args.late (plain_of d x)) (sym c.in-Some.is)
