use Rattle.std.proofs.Common.{subst, Option}
use Rattle.lisa_tree.specs.declared.faults.DescFault.{DescFault}
use Rattle.lisa_tree.specs.Descriptions.{DescriptionTree, description_tree}
use Rattle.lisa_machine.specs.Verdicts.{conditions}
use Rattle.lisa_machine.proofs.checking.first_fault.Goals as goal

pub returns : goal.returns
returns c =
    let verdict = subst (λ (t : DescriptionTree). conditions t c.in_ok-found.found) c.in_ok-tables.ensures c.in_ok-found.ensures in
    record {
      accepted = λ none. subst (λ (found : Option DescFault). conditions (description_tree c.args.description.now) found) none verdict;
      fault = λ f is. subst (λ (found : Option DescFault). conditions (description_tree c.args.description.now) found) is verdict;
    }
