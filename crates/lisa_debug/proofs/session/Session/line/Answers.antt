use Rattle.std.proofs.Common.{length}
use Rattle.lisa_debug.proofs.Fronts.{puts_spent, on_map}
use Rattle.lisa_engine.specs.Machines.{course_of}
use Rattle.lisa_debug.specs.Kept.{CameTo}
use Rattle.lisa_debug.specs.Answers.{answer}
use Rattle.lisa_debug.proofs.session.Session.line.Goals as goal

pub read-requires : goal.read-requires
read-requires g c = c.requires.limit

pub returns-in_err-read-clause-puts : goal.returns-in_err-read-clause-puts
returns-in_err-read-clause-puts g c = puts_spent _ _ _ _ _ c.from_residual.ensures.1 c.in_err-read.ensures.memory

pub respond-requires-clause-live : goal.respond-requires-clause-live
respond-requires-clause-live g c = c.requires

pub respond-requires-clause-within : goal.respond-requires-clause-within
respond-requires-clause-within g c = c.in_ok-read.ensures.within

pub respond-requires-clause-shown : goal.respond-requires-clause-shown
respond-requires-clause-shown g c = c.in_ok-read.ensures.shown

pub returns-clause-puts : goal.returns-clause-puts
returns-clause-puts g c = rw c.in_ok-read.ensures.read at c.respond.ensures.puts

pub returns-clause-position : goal.returns-clause-position
returns-clause-position g c =
    let before = course_of (g.E.Engine.machine c.args.self.now.engine) c.args.self.now.schedule in
    on_map {X = CameTo before (course_of (g.E.Engine.machine c.respond.new.self.engine) c.respond.new.self.schedule)
    (g.E.Engine.present c.respond.new.self.engine) c.respond.new.self.journal (answer before (length c.args.self.now.journal.entries.items) c.args.line.now).position}
    c.respond.result (rw c.in_ok-read.ensures.read at c.respond.ensures.came) (λ came. came.stands)

pub returns-clause-course : goal.returns-clause-course
returns-clause-course g c =
    let before = course_of (g.E.Engine.machine c.args.self.now.engine) c.args.self.now.schedule in
    on_map {X = CameTo before (course_of (g.E.Engine.machine c.respond.new.self.engine) c.respond.new.self.schedule)
    (g.E.Engine.present c.respond.new.self.engine) c.respond.new.self.journal (answer before (length c.args.self.now.journal.entries.items) c.args.line.now).position}
    c.respond.result (rw c.in_ok-read.ensures.read at c.respond.ensures.came) (λ came. came.same)

pub returns-clause-lives : goal.returns-clause-lives
returns-clause-lives g c =
    let before = course_of (g.E.Engine.machine c.args.self.now.engine) c.args.self.now.schedule in
    on_map {X = CameTo before (course_of (g.E.Engine.machine c.respond.new.self.engine) c.respond.new.self.schedule)
    (g.E.Engine.present c.respond.new.self.engine) c.respond.new.self.journal (answer before (length c.args.self.now.journal.entries.items) c.args.line.now).position}
    c.respond.result (rw c.in_ok-read.ensures.read at c.respond.ensures.came) (λ came. came.live)

pub returns-clause-goes : goal.returns-clause-goes
returns-clause-goes g c = rw c.in_ok-read.ensures.read at c.respond.ensures.goes
