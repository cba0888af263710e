use Rattle.std.proofs.Common.{map}
use Rattle.asm_source.specs.Plain.{token_tree}
use Rattle.lisa_syntax.proofs.Lined.{found_level}
use Rattle.lisa_syntax.proofs.syntax.Syntax.form_of_line.Goals as goal

pub matched-requires-clause-level : goal.matched-requires-clause-level
matched-requires-clause-level c = found_level c.args.self.now.table (map token_tree c.args.line.now) c.in_ok-read.field-0 c.in-One.form c.in-One.operands c.deref.result.now c.in_ok-read.ensures c.in-One.is c.deref.ensures.value
