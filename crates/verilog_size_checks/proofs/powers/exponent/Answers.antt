use Rattle.std.proofs.Common.{sym, ◌∙◌, arith}
use Rattle.verilog_size_checks.proofs.PowerLaws.{small_none, small_found}
use Rattle.verilog_size_checks.proofs.powers.exponent.Goals as goal

pub returns-then-k-from-clause-value : goal.returns-then-k-from-clause-value
returns-then-k-from-clause-value c = sym (small_found c.powers.k c.args.depth c.powers-test.true (c.if-k-from.true ∙ c.from.ensures))

pub returns-clause-value : goal.returns-clause-value
returns-clause-value c = sym (small_none c.powers.k c.args.depth c.powers-test.false (omega arith) c.powers.invariant)
