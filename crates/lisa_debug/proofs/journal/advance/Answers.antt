use Rattle.std.proofs.Common.{◌+◌, ap, ◌∙◌, sym, subst, take, arith}
use Rattle.lisa_engine.specs.PinValues.{after_lines, IsPlayable}
use Rattle.lisa_engine.specs.Machines.{Course, course_of}
use Rattle.lisa_debug.proofs.Steps.{same_course, played_fit, has_made}
use Rattle.lisa_debug.proofs.journal.advance.Goals as goal

pub keep_row-requires : goal.keep_row-requires
keep_row-requires g c = c.requires.row

pub play-next-requires-clause-playable : goal.play-next-requires-clause-playable
play-next-requires-clause-playable g c = subst (λ n. IsPlayable n c.args.schedule.now) (sym c.requires.room) c.requires.schedule.playable

pub play-next-requires-clause-within : goal.play-next-requires-clause-within
play-next-requires-clause-within g c = c.requires.played.after.within

pub play-next-requires-clause-played : goal.play-next-requires-clause-played
play-next-requires-clause-played g c = λ k line l. omega (arith, c.requires.played.after.before k line l)

pub play-next-requires-clause-values : goal.play-next-requires-clause-values
play-next-requires-clause-values g c = c.requires.played.values ∙ ap (λ n. after_lines n (take c.args.next c.args.schedule.now)) (sym c.requires.room)

pub edge-requires : goal.edge-requires
edge-requires g c =
    let course : Course = course_of (g.E.Engine.machine c.args.engine.now) c.args.schedule.now in
    played_fit course (c.args.edge + 1) c.play-next.result c.play-next.new.into c.requires.schedule (record {
      after = c.play-next.ensures.place;
      values = c.play-next.ensures.values ∙ ap (λ n. after_lines n (take c.play-next.result c.args.schedule.now)) c.requires.room;
    })

pub returns-clause-made : goal.returns-clause-made
returns-clause-made g c =
    let course : Course = course_of (g.E.Engine.machine c.args.engine.now) c.args.schedule.now in
    let now : Course = course_of (g.E.Engine.machine c.edge.new.self) c.args.schedule.now in
    has_made course now (g.E.Engine.present c.args.engine.now) (g.E.Engine.present c.edge.new.self) (g.E.Engine.touch_list c.edge.new.self) c.args.edge c.play-next.result c.play-next.new.into c.keep_row.new.row
    c.requires.schedule
    (record {
      after = c.play-next.ensures.place;
      values = c.play-next.ensures.values ∙ ap (λ n. after_lines n (take c.play-next.result c.args.schedule.now)) c.requires.room;
    })
    c.requires.now c.edge.ensures.leads c.edge.ensures.touches
    (same_course c.args.schedule.now c.edge.ensures.machine) c.keep_row.ensures

pub returns-clause-played : goal.returns-clause-played
returns-clause-played g c = record {
  after = c.play-next.ensures.place;
  values = c.play-next.ensures.values ∙ ap (λ n. after_lines n (take c.play-next.result c.args.schedule.now)) c.requires.room;
}
