use Rattle.verilog_reader.proofs.TextLaws.{one_spelled, accepted_unbroken, one_fault}
use Rattle.verilog_reader.proofs.OutcomeLaws.{has_outcome}
use Rattle.verilog_reader.proofs.laws.modules_are_unique.Goals as goal

pub returns-clause-some : goal.returns-clause-some
returns-clause-some c = has_outcome c.args.bytes.now

pub returns-clause-one : goal.returns-clause-one
returns-clause-one c = λ m n v w. one_spelled c.args.bytes.now m n v w

pub returns-clause-whole : goal.returns-clause-whole
returns-clause-whole c = λ m fault a b. accepted_unbroken c.args.bytes.now m fault a b

pub returns-clause-first : goal.returns-clause-first
returns-clause-first c = λ f g b d. one_fault c.args.bytes.now f g b d
