use Rattle.std.proofs.Common.{◌∙◌}
use Rattle.instruction_texts.proofs.Prefixes.{behind_none, behind_hex}
use Rattle.instruction_texts.proofs.numbers.behind.Goals as goal

pub returns-in_default : goal.returns-in_default
returns-in_default c = behind_none c.args.hex c.args.prefix.now c.args.text.now c.in_default.ensures

pub returns-then-hex : goal.returns-then-hex
returns-then-hex c = c.strip-then-hex.ensures ∙ behind_hex c.args.hex c.args.prefix.now c.args.text.now c.in-Some.rest.now c.if-hex.true c.in-Some.ensures
