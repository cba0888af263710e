use Rattle.std.proofs.Common.{◌≤◌, ◌++◌, ℕ, List, Option, take}
use Rattle.std.specs.Io.KnownBytes.{Appends}
use Rattle.lisa_engine.specs.Machines.{Course, course_of}
use Rattle.lisa_debug.specs.Kept.{IsLive}
use Rattle.lisa_debug.specs.Sessions.{answers, whole_lines}
use Rattle.lisa_debug.specs.Taking.{Stands}
use Rattle.lisa_debug.proofs.input.take_bytes.Given as goal

abbrev pub invariant-loop-byte : goal.invariant-loop-byte
invariant-loop-byte g l =
    let before = course_of (g.E.Engine.machine l.fn.session.engine) l.fn.session.schedule in
    let now = course_of (g.E.Engine.machine l.session.engine) l.session.schedule in
    IsLive now (g.E.Engine.present l.session.engine) l.session.journal
    × (g.O.Sink.faults l.fn.out ≤ g.O.Sink.faults l.out)
    × ((course : Course) (start : Option (List ℕ)) (taken : List ℕ) → Stands course before (g.E.Engine.present l.fn.session.engine) l.fn.session.journal l.fn.line.items taken
    → Appends start (g.O.Sink.written l.fn.out) (answers course (whole_lines taken)).text
    → Stands course now (g.E.Engine.present l.session.engine) l.session.journal l.line.items (taken ++ take l.byte-index l.bytes)
    × Appends start (g.O.Sink.written l.out) (answers course (whole_lines (taken ++ take l.byte-index l.bytes))).text)
