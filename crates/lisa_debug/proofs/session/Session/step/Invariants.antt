use Rattle.std.proofs.Common.{◌+◌, length}
use Rattle.lisa_engine.specs.Machines.{course_of}
use Rattle.lisa_debug.specs.Kept.{CameTo, IsPlayed}
use Rattle.lisa_debug.proofs.session.Session.step.Given as goal

abbrev pub invariant-loop-made : goal.invariant-loop-made
invariant-loop-made g l =
    CameTo (course_of (g.E.Engine.machine l.fn.self.engine) l.fn.self.schedule)
    (course_of (g.E.Engine.machine l.self.engine) l.self.schedule) (g.E.Engine.present l.self.engine) l.self.journal (length l.fn.self.journal.entries.items + l.made)
    × IsPlayed (course_of (g.E.Engine.machine l.fn.self.engine) l.fn.self.schedule) (length l.fn.self.journal.entries.items + l.made) l.next l.self.journal.pins.items
