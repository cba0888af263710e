use Rattle.std.proofs.Common.{map}
use Rattle.asm_source.specs.Plain.{token_tree}
use Rattle.lisa_syntax.proofs.Again.{reading_of, fault_of, plain_of, single_of, again_of}
use Rattle.lisa_syntax.proofs.syntax.Syntax.read_line.Goals as goal

pub returns-clause-matched : goal.returns-clause-matched
returns-clause-matched c = λ d is. reading_of d c.args.self.now is (map token_tree c.args.line.now) c.form_of_line.result c.form_of_line.ensures.matched

pub returns-clause-fault : goal.returns-clause-fault
returns-clause-fault c = λ d is. fault_of d c.args.self.now is (map token_tree c.args.line.now) c.form_of_line.result c.form_of_line.ensures.fault

pub returns-clause-plain : goal.returns-clause-plain
returns-clause-plain c = λ d ts is plain. plain_of d c.args.self.now is (map token_tree c.args.line.now) ts plain c.form_of_line.result c.form_of_line.ensures.matched

pub returns-clause-single : goal.returns-clause-single
returns-clause-single c = λ d ts is plain i j. single_of d c.args.self.now is (map token_tree c.args.line.now) ts plain i j c.form_of_line.result c.form_of_line.ensures.fault

pub returns-clause-again : goal.returns-clause-again
returns-clause-again c = λ d k vs t is instruction plain. again_of d c.args.self.now is (map token_tree c.args.line.now) k vs t instruction plain c.form_of_line.result c.form_of_line.ensures.matched c.form_of_line.ensures.fault
