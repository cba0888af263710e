use Rattle.std.proofs.Common.{◌≡◌, sym, ◌∙◌, ap, true, false}
use Rattle.std.specs.Option.{is_some}
use Rattle.stage_checks.specs.Spreading.{entry}
use Rattle.stage_checks.proofs.Tables.{entry_at, given_twice, given_once, not_twice, pushed}
use Rattle.stage_checks.proofs.spreading.mark.Goals as goal

pub returns-then-is_some-clause-table : goal.returns-then-is_some-clause-table
returns-then-is_some-clause-table c =
    let there : is_some (entry c.args.table.now.items c.args.node) ≡ true = ap is_some (entry_at _ _ _ c.requires ∙ sym c.index.ensures) ∙ sym c.is_some.ensures ∙ c.if-is_some.true in
    λ b. given_twice _ _ b _ there

pub returns-then-is_some-clause-work : goal.returns-then-is_some-clause-work
returns-then-is_some-clause-work c =
    let there : is_some (entry c.args.table.now.items c.args.node) ≡ true = ap is_some (entry_at _ _ _ c.requires ∙ sym c.index.ensures) ∙ sym c.is_some.ensures ∙ c.if-is_some.true in
    λ b. not_twice _ _ _ b there

pub returns-clause-table : goal.returns-clause-table
returns-clause-table c =
    let none : is_some (entry c.args.table.now.items c.args.node) ≡ false = ap is_some (entry_at _ _ _ c.requires ∙ sym c.index.ensures) ∙ sym c.is_some.ensures ∙ c.if-is_some.false in
    λ b. given_once _ _ b _ c.requires none

pub returns-clause-work : goal.returns-clause-work
returns-clause-work c =
    let none : is_some (entry c.args.table.now.items c.args.node) ≡ false = ap is_some (entry_at _ _ _ c.requires ∙ sym c.index.ensures) ∙ sym c.is_some.ensures ∙ c.if-is_some.false in
    λ b. rw c.in_ok-push.ensures.items (pushed _ _ _ b none)
