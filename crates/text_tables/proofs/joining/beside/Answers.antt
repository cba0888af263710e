use Rattle.std.proofs.Common.{arith}
use Rattle.text_tables.proofs.OneMore.{with_same, with_earlier, with_later}
use Rattle.text_tables.proofs.joining.beside.Goals as goal

pub returns-then-form-first : goal.returns-then-form-first
returns-then-form-first c = λ all line ks gs m h. with_earlier all line ks c.args.form gs m c.args.first c.args.operands c.if-form-first.true h

pub returns-then-first-form : goal.returns-then-first-form
returns-then-first-form c = λ all line ks gs m h. with_later all line ks c.args.form gs m c.args.first c.args.operands c.if-first-form.true h

pub returns : goal.returns
returns c = λ all line ks gs m h. with_same all line ks c.args.form gs m c.args.first c.args.operands (omega arith) h
