use Rattle.std.proofs.Common.{◌∙◌, sym, ap, arith, inl, Ok}
use Rattle.std.proofs.lemmas.Bool.{not-false, not-true}
use Rattle.lisa_engine.proofs.Names.{twice_there, once_there, behind_there}
use Rattle.lisa_engine.proofs.schedule.is_any_named_twice.Goals as goal

pub returns-then-not-branch : goal.returns-then-not-branch
returns-then-not-branch c =
    let twice = twice_there c.args.settings.now c.loop-left.left c.index-settings-left.result (omega arith) c.loop-left.invariant.0 c.index-settings-left.is
    c.loop-left.behind c.setting.inside.name (ap (λ p. p.0) c.setting.view_is) c.loop-left.invariant.1 (not-false _ (sym c.in_ok-insert.ensures.added ∙ c.if-not-branch.true)) in
    inl (ap Ok (sym twice))

pub loop-left-preserved : goal.loop-left-preserved
loop-left-preserved c =
    let settings = c.args.settings.now in (
      omega (arith, c.loop-left.invariant.0),
      behind_there settings c.loop-left.left c.index-settings-left.result (omega arith) c.loop-left.invariant.0 c.index-settings-left.is c.loop-left.behind c.setting.inside.name (ap (λ p. p.0) c.setting.view_is)
          c.loop-left.invariant.1 c.insert.new.self c.in_ok-insert.ensures.updates,
      once_there settings c.loop-left.left c.index-settings-left.result (omega arith) c.loop-left.invariant.0 c.index-settings-left.is c.loop-left.behind c.setting.inside.name (ap (λ p. p.0) c.setting.view_is)
          c.loop-left.invariant.1 (not-true _ (sym c.in_ok-insert.ensures.added ∙ c.if-not-branch.false)) c.loop-left.invariant.2,
    )
