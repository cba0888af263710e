use Rattle.lisa_tree.specs.Descriptions.{description_tree}
use Rattle.generated_programs.proofs.Programmed.{some_or_none}
use Rattle.generated_programs.proofs.generating.generate.Goals as goal

pub returns-in_err-text-in-Some-clause-none : goal.returns-in_err-text-in-Some-clause-none
returns-in_err-text-in-Some-clause-none c = λ none. absurd (some_or_none (description_tree c.args.machine.now) _ c.in-Some.ensures none)

pub returns-in_ok-text-in-Some-clause-none : goal.returns-in_ok-text-in-Some-clause-none
returns-in_ok-text-in-Some-clause-none c = λ none. absurd (some_or_none (description_tree c.args.machine.now) _ c.in-Some.ensures none)
