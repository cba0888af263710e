use Rattle.std.proofs.Common.{ap, Some}
use Rattle.lisa_io.proofs.Failing.{Fails, kept, later, cause, others}
use Rattle.lisa_io.proofs.files.MemFilesFiles.read.Goals as goal

pub returns-then-fails-clause-held : goal.returns-then-fails-clause-held
returns-then-fails-clause-held c =
    let fails : Fails c.index_mut.result.now c.fail.new.file = record { name = c.fail.ensures.name; bytes = c.fail.ensures.bytes; faults = c.fail.ensures.faults; fits = c.fail.ensures.before } in
    ap Some (kept c.args.self.now.files.items c.in-Some.at c.index_mut.result.now c.fail.new.file fails c.index_mut.ensures.value)

pub returns-then-fails-clause-later : goal.returns-then-fails-clause-later
returns-then-fails-clause-later c =
    let fails : Fails c.index_mut.result.now c.fail.new.file = record { name = c.fail.ensures.name; bytes = c.fail.ensures.bytes; faults = c.fail.ensures.faults; fits = c.fail.ensures.before } in
    later c.args.self.now.files.items c.in-Some.at c.index_mut.result.now c.fail.new.file c.args.self.now.missing fails c.index_mut.ensures.value

pub returns-then-fails-clause-cause : goal.returns-then-fails-clause-cause
returns-then-fails-clause-cause c =
    let fails : Fails c.index_mut.result.now c.fail.new.file = record { name = c.fail.ensures.name; bytes = c.fail.ensures.bytes; faults = c.fail.ensures.faults; fits = c.fail.ensures.before } in
    cause _ c.args.self.now.files.items c.in-Some.at c.index_mut.result.now c.fail.new.file c.args.self.now.missing c.args.name.now fails c.index_mut.ensures.value (rw c.deref.ensures.value at c.in-Some.ensures.within)
    (rw c.deref.ensures.value at (c.in-Some.ensures.found c.index_mut.result.now)) (rw c.deref.ensures.value at (c.in-Some.ensures.passes c.index_mut.result.now))
    (rw c.deref.ensures.value at (c.in-Some.ensures.first c.index_mut.result.now))

pub returns-then-fails-clause-others : goal.returns-then-fails-clause-others
returns-then-fails-clause-others c = λ other differs held.
    let fails : Fails c.index_mut.result.now c.fail.new.file = record { name = c.fail.ensures.name; bytes = c.fail.ensures.bytes; faults = c.fail.ensures.faults; fits = c.fail.ensures.before } in
    others c.args.self.now.files.items c.in-Some.at c.index_mut.result.now c.fail.new.file c.args.self.now.missing c.args.name.now other fails c.index_mut.ensures.value
    (rw c.deref.ensures.value at (c.in-Some.ensures.passes c.index_mut.result.now)) differs
