use Rattle.std.proofs.Common.{◌≡◌, ◌+◌, ◌≤◌, length, take, refl, inr, arith, rules}
use Rattle.std.proofs.lemmas.List.{length-take-le}
use Rattle.lisa_io.proofs.Known.{appends_kept}
use Rattle.lisa_engine.specs.Machines.{course_of}
use Rattle.lisa_debug.specs.Sessions.{answers, whole_lines, most_input}
use Rattle.lisa_debug.proofs.Readings.{not_long, ran_stop, ran_failed, ran_quit, reads_more}
use Rattle.lisa_debug.proofs.input.answer_lines.Goals as goal

pub returns-in_err-count-clause-ran : goal.returns-in_err-count-clause-ran
returns-in_err-count-clause-ran g c =
    ran_stop _ _ _ _ c.from_residual.ensures.1 c.loop-taken.invariant.0 c.in_err-count.ensures.left c.in_err-count.ensures.written (λ is. absurd (not_long _ c.in_err-count.ensures.ends is))

pub returns-in_err-take_bytes-clause-ran : goal.returns-in_err-take_bytes-clause-ran
returns-in_err-take_bytes-clause-ran g c =
    let reads = c.loop-taken.invariant.0 in
    let course = course_of (g.E.Engine.machine c.args.session.now.engine) c.args.session.now.schedule in
    let put = appends_kept _ _ _ (answers course (whole_lines reads.so_far)).text reads.put c.in_ok-count.ensures.written in
    let within : c.loop-taken.taken + length (take c.in_ok-count.count c.take_piece.new.piece) ≤ most_input + 1
    = omega (arith, length-take-le c.in_ok-count.count c.take_piece.new.piece (search rules), c.in_ok-count.ensures.bound, c.min-room.ensures) in
    ran_failed _ _ (take c.in_ok-count.count c.take_piece.new.piece) _ c.from_residual-in_err-take_bytes.ensures.1 reads c.in_ok-count.ensures.bytes within
    (c.in_err-take_bytes.ensures.takes course _ reads.so_far reads.stands put)

pub loop-taken-preserved : goal.loop-taken-preserved
loop-taken-preserved g c =
    let reads = c.loop-taken.invariant.0 in
    let course = course_of (g.E.Engine.machine c.args.session.now.engine) c.args.session.now.schedule in
    let put = appends_kept _ _ _ (answers course (whole_lines reads.so_far)).text reads.put c.in_ok-count.ensures.written in
    let long = length-take-le c.in_ok-count.count c.take_piece.new.piece (search rules) in
    let total : c.loop-taken.taken + length (take c.in_ok-count.count c.take_piece.new.piece) ≡ c.loop-taken.taken + c.in_ok-count.count = omega (arith, long) in
    let within : c.loop-taken.taken + c.in_ok-count.count ≤ most_input + 1 = omega (arith, c.in_ok-count.ensures.bound, c.min-room.ensures) in (
      reads_more _ (take c.in_ok-count.count c.take_piece.new.piece) (c.loop-taken.taken + c.in_ok-count.count) reads c.in_ok-count.ensures.bytes total within
          (rw c.in-On.is at c.in_ok-take_bytes.ensures.takes course _ reads.so_far reads.stands put),
      omega (arith, c.loop-taken.invariant.1, c.in_ok-count.ensures.causes.input_later),
      omega (arith, c.loop-taken.invariant.2, c.in_ok-count.ensures.causes.out_later, c.in_ok-take_bytes.ensures.fault.later),
    )

pub returns-in-Quit-clause-ran : goal.returns-in-Quit-clause-ran
returns-in-Quit-clause-ran g c =
    let reads = c.loop-taken.invariant.0 in
    let course = course_of (g.E.Engine.machine c.args.session.now.engine) c.args.session.now.schedule in
    let put = appends_kept _ _ _ (answers course (whole_lines reads.so_far)).text reads.put c.in_ok-count.ensures.written in
    let within : c.loop-taken.taken + length (take c.in_ok-count.count c.take_piece.new.piece) ≤ most_input + 1
    = omega (arith, length-take-le c.in_ok-count.count c.take_piece.new.piece (search rules), c.in_ok-count.ensures.bound, c.min-room.ensures) in
    ran_quit _ _ (take c.in_ok-count.count c.take_piece.new.piece) _ c.flush_out.ensures.ends reads c.in_ok-count.ensures.bytes within
    (rw c.in-Quit.is at c.in_ok-take_bytes.ensures.takes course _ reads.so_far reads.stands put) c.flush_out.ensures.written

pub returns-in_err-flush_out-clause-ran : goal.returns-in_err-flush_out-clause-ran
returns-in_err-flush_out-clause-ran g c =
    ran_stop _ _ _ _ c.from_residual-in_err-flush_out.ensures.1 c.loop-taken.invariant.0 (search rules) c.in_err-flush_out.ensures.written (λ is. absurd (not_long _ (inr c.in_err-flush_out.ensures.ends) is))

pub returns-clause-ran : goal.returns-clause-ran
returns-clause-ran g c =
    ran_stop _ _ _ _ refl c.loop-taken.invariant.0 (search rules) c.in_ok-flush_out.ensures.written (λ is. omega (arith, c.loop-taken.invariant.0.within, c.loop-taken-test.false))
