use Rattle.std.proofs.Common.{arith}
use Rattle.text_tables.proofs.OneMore.{before_two, between_two, behind_two}
use Rattle.text_tables.proofs.joining.least.Goals as goal

pub returns-then-form-first : goal.returns-then-form-first
returns-then-form-first c = λ all line ks gs m h. before_two all line ks c.args.form gs m c.args.first c.args.second c.if-form-first.true h

pub returns-then-form-second : goal.returns-then-form-second
returns-then-form-second c = λ all line ks gs m h. between_two all line ks c.args.form gs m c.args.first c.args.second (omega arith) (omega arith) h

pub returns-else-first-form : goal.returns-else-first-form
returns-else-first-form c = λ all line ks gs m h. behind_two all line ks c.args.form gs m c.args.first c.args.second (omega arith) h
