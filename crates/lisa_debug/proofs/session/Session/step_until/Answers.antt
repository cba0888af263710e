use Rattle.std.proofs.Common.{◌≡◌, ◌+◌, ◌∙◌, length, ap, sym, arith, refl, true, false}
use Rattle.lisa_debug.proofs.Steps.{came_more, came_at, played_now, played_then}
use Rattle.lisa_debug.proofs.Untils.{until_none, until_more, until_met, until_all}
use Rattle.std.specs.Prelude.{◌==◌, slice_index}
use Rattle.std.proofs.lemmas.Bool.{ne_eqb, eq-eqb}
use Rattle.lisa_engine.specs.Machines.{course_of, state_at}
use Rattle.lisa_debug.specs.Answers.{is_met}
use Rattle.lisa_debug.proofs.session.Session.step_until.Goals as goal

pub replay-next-requires : goal.replay-next-requires
replay-next-requires g c = c.requires.live

pub loop-made-init : goal.loop-made-init
loop-made-init g c = (
  came_at (length c.args.self.now.journal.entries.items + 0) c.replay-next.ensures.came (omega arith),
  played_then (length c.args.self.now.journal.entries.items + 0) refl (omega arith) c.replay-next.ensures.played,
  until_none (is_met (course_of (g.E.Engine.machine c.args.self.now.engine) c.args.self.now.schedule) c.args.item c.args.value) (length c.args.self.now.journal.entries.items) c.args.count,
)

pub make_edge-requires-clause-live : goal.make_edge-requires-clause-live
make_edge-requires-clause-live g c = c.loop-made.invariant.0.live

pub make_edge-requires-clause-limit : goal.make_edge-requires-clause-limit
make_edge-requires-clause-limit g c = omega (arith, c.loop-made.invariant.0.stands, c.requires.limit)

pub make_edge-requires-clause-played : goal.make_edge-requires-clause-played
make_edge-requires-clause-played g c =
    played_now (length c.loop-made.self.journal.entries.items) c.loop-made.invariant.0.same (sym c.loop-made.invariant.0.stands) c.loop-made.invariant.1

pub value-requires : goal.value-requires
value-requires g c = omega (arith, c.requires.item, ap length (ap (λ k. k.machine.items) c.loop-made.invariant.0.same))

pub loop-made-preserved : goal.loop-made-preserved
loop-made-preserved g c =
    let came = c.loop-made.invariant.0 in
    let now_is : g.E.Engine.present c.loop-made.self.engine ≡ state_at (course_of (g.E.Engine.machine c.args.self.now.engine) c.args.self.now.schedule) (length c.args.self.now.journal.entries.items + c.loop-made.made) = came.live.now ∙ (λ i. state_at (came.same i) (came.stands i)) in
    let not : (is_met (course_of (g.E.Engine.machine c.args.self.now.engine) c.args.self.now.schedule) c.args.item c.args.value) (length c.args.self.now.journal.entries.items + c.loop-made.made) ≡ false
    = ap (λ s. slice_index s.items c.args.item == c.args.value) (sym now_is) ∙ ap (λ v. v == c.args.value) (sym c.value.ensures) ∙ ne_eqb c.value.result c.args.value c.if-value.false in (
      came_more (length c.args.self.now.journal.entries.items + (c.loop-made.made + 1)) c.loop-made.invariant.0 c.in_ok-next.ensures.came (omega (arith, c.loop-made.invariant.0.stands)),
      played_then (length c.args.self.now.journal.entries.items + (c.loop-made.made + 1)) c.loop-made.invariant.0.same (omega (arith, c.loop-made.invariant.0.stands)) c.in_ok-next.ensures.played,
      until_more (is_met (course_of (g.E.Engine.machine c.args.self.now.engine) c.args.self.now.schedule) c.args.item c.args.value) (length c.args.self.now.journal.entries.items) c.args.count c.loop-made.made c.loop-made-test.true not c.loop-made.invariant.2,
    )

pub returns-then-value : goal.returns-then-value
returns-then-value g c =
    let came = c.loop-made.invariant.0 in
    let now_is : g.E.Engine.present c.loop-made.self.engine ≡ state_at (course_of (g.E.Engine.machine c.args.self.now.engine) c.args.self.now.schedule) (length c.args.self.now.journal.entries.items + c.loop-made.made) = came.live.now ∙ (λ i. state_at (came.same i) (came.stands i)) in
    let met : (is_met (course_of (g.E.Engine.machine c.args.self.now.engine) c.args.self.now.schedule) c.args.item c.args.value) (length c.args.self.now.journal.entries.items + c.loop-made.made) ≡ true
    = ap (λ s. slice_index s.items c.args.item == c.args.value) (sym now_is) ∙ ap (λ v. v == c.args.value) (sym c.value.ensures) ∙ eq-eqb c.value.result c.args.value c.if-value.true in
    came_at _ c.loop-made.invariant.0 (until_met (is_met (course_of (g.E.Engine.machine c.args.self.now.engine) c.args.self.now.schedule) c.args.item c.args.value) (length c.args.self.now.journal.entries.items) c.args.count c.loop-made.made met c.loop-made.invariant.2)

pub returns : goal.returns
returns g c = came_at _ c.loop-made.invariant.0 (until_all (is_met (course_of (g.E.Engine.machine c.args.self.now.engine) c.args.self.now.schedule) c.args.item c.args.value) (length c.args.self.now.journal.entries.items) c.args.count c.loop-made.made (omega arith) c.loop-made.invariant.2)
