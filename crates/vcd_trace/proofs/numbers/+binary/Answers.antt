use Rattle.std.proofs.Common.{ap, sym, arith, length}
use Rattle.vcd_trace.proofs.BinaryDigits.{one_digit, binary_first, binary_count, binary_room, binary_more}
use Rattle.vcd_trace.proofs.numbers.+binary.Goals as goal

pub returns-then-value-lt2-clause-digits : goal.returns-then-value-lt2-clause-digits
returns-then-value-lt2-clause-digits t c = binary_first _ _ c.if-value-lt2.true (omega arith)

pub returns-then-value-lt2-clause-count : goal.returns-then-value-lt2-clause-count
returns-then-value-lt2-clause-count t c = sym (ap length (one_digit c.args.value c.if-value-lt2.true))

pub bounds-into-count : goal.bounds-into-count
bounds-into-count t c = binary_room _ _ c.if-value-lt2.false (omega arith) c.binary-count.ensures.count

pub returns-clause-digits : goal.returns-clause-digits
returns-clause-digits t c = binary_more _ _ _ c.if-value-lt2.false (omega arith) (omega (arith, binary_room _ _ c.if-value-lt2.false (omega arith) c.binary-count.ensures.count)) c.binary-count.ensures.digits

pub returns-clause-count : goal.returns-clause-count
returns-clause-count t c = binary_count _ _ c.if-value-lt2.false (omega arith) c.binary-count.ensures.count

pub returns-clause-room : goal.returns-clause-room
returns-clause-room t c = omega (arith, binary_room _ _ c.if-value-lt2.false (omega arith) c.binary-count.ensures.count)
