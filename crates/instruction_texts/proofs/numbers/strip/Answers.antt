use Rattle.std.proofs.Common.{List, ℕ, Some, sym, ap, ◌∙◌}
use Rattle.instruction_texts.proofs.Prefixes.{stripped, unstripped}
use Rattle.instruction_texts.proofs.numbers.strip.Goals as goal

pub returns-in_default : goal.returns-in_default
returns-in_default c = sym (unstripped c.args.prefix.now c.args.text.now c.in_default.ensures.cases)

pub returns : goal.returns
returns c = sym (stripped c.args.prefix.now c.args.text.now c.in-Some.ensures.cases.0 ∙ ap (λ (l : List ℕ). Some l) (sym c.in-Some.ensures.cases.1))
