use Rattle.std.proofs.Common.{◌∙◌, length, ap, sym, arith, refl}
use Rattle.lisa_engine.specs.Machines.{course_of, state_at}
use Rattle.lisa_debug.proofs.session.Session.make.Goals as goal

pub same-schedule : goal.same-schedule
same-schedule g c = refl

pub returns : goal.returns
returns g c = record {
  course = refl;
  lives = record {
    schedule = c.requires.schedule;
    now = c.requires.first ∙ ap (λ es. state_at (course_of (g.E.Engine.machine c.args.engine) c.args.schedule) (length es)) (sym c.new.ensures.items);
    limit = omega (arith, ap length c.new.ensures.items);
    entries = λ k d within. absurd (omega (arith, ap length c.new.ensures.items));
    row = omega (arith, c.in_ok-row.ensures.len, ap length c.items.ensures);
    room = omega (arith, c.in_ok-pins.ensures.len, ap length c.pins.ensures);
  };
  position = ap length c.new.ensures.items;
}
