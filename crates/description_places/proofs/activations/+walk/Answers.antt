use Rattle.std.proofs.Common.{◌≡◌, sym, ap, ◌∙◌, true, arith}
use Rattle.description_places.proofs.Firsts.{never}
use Rattle.std.specs.Option.{is_some}
use Rattle.description_places.proofs.Depths.{chosen_depth, other_depth, item_depth}
use Rattle.description_places.proofs.Choices.{chosen_first, chosen_none, chosen_other}
use Rattle.description_places.proofs.activations.+walk.Goals as goal

pub walk_act-returns-in-Some : goal.walk_act-returns-in-Some
walk_act-returns-in-Some g t c =
    let a = c.in-Choose in
    let e = c.in_ok-fault-in-Choose in
    let some : is_some e.field-0 ≡ true = ap is_some c.in-Some.is in
    sym c.in-Some.is
    ∙ chosen_first (g.C.Condition.breaks c.args.condition.now) c.args.operation c.args.act.now a.test a.chosen a.other e.field-0 a.is
    (rw c.deref.ensures.value at e.ensures) some

pub walk_act-walk_chosen-requires : goal.walk_act-walk_chosen-requires
walk_act-walk_chosen-requires g t c κs within =
    let a = c.in-Choose in
    (omega (arith, c.decreases, chosen_depth c.args.act.now a.test a.chosen a.other c.deref.result.now a.is c.deref.ensures.value), within)

pub walk_act-walk_acts-requires : goal.walk_act-walk_acts-requires
walk_act-walk_acts-requires g t c κs within =
    let a = c.in-Choose in
    let b = c.in-Some-other in (
      omega (arith, c.decreases, other_depth c.args.act.now a.test a.chosen a.other c.deref.result.now a.is c.deref.ensures.value b.other c.deref-in-Some-other.result.now b.is c.deref-in-Some-other.ensures.value),
      within,
    )

pub walk_acts-walk_act-requires : goal.walk_acts-walk_act-requires
walk_acts-walk_act-requires g t c κs within =
    (omega (arith, c.decreases, item_depth c.args.acts.now c.loop-act.act-index c.act-item.result (omega arith) c.act-item.is), within)

pub walk_act-returns-in_ok-found-in-Some-other : goal.walk_act-returns-in_ok-found-in-Some-other
walk_act-returns-in_ok-found-in-Some-other g t c =
    let a = c.in-Choose in
    let e = c.in_ok-fault-in-Choose in
    chosen_other (g.C.Condition.breaks c.args.condition.now) c.args.operation c.args.act.now a.test a.chosen a.other e.field-0 a.is (rw c.deref.ensures.value at e.ensures)
    c.in-Some-other.other _ _ c.in-Some-other.is (never e.field-0 c.in_default.not-Some) c.deref-in-Some-other.ensures.value c.in_ok-found-in-Some-other.ensures

pub walk_act-returns-in-None : goal.walk_act-returns-in-None
walk_act-returns-in-None g t c =
    let a = c.in-Choose in
    let e = c.in_ok-fault-in-Choose in
    chosen_none (g.C.Condition.breaks c.args.condition.now) c.args.operation c.args.act.now a.test a.chosen a.other e.field-0 a.is (rw c.deref.ensures.value at e.ensures) c.in-None.is
    (never e.field-0 c.in_default.not-Some)
