use Rattle.std.proofs.Common.{ap, sym, subst}
use Rattle.lisa_tree.specs.declared.descriptions.Description.{Description}
use Rattle.lisa_tree.specs.Descriptions.{description_tree}
use Rattle.lisa_syntax.specs.lisa_machine.Verdicts.{IsAccepted}
use Rattle.checked_descriptions.proofs.InstructionVerdicts.{forms_refused, words_refused, texts_refused, aliases_refused, all_kept}
use Rattle.checked_descriptions.proofs.Tooled.{told, checks_refused, instructions_refused}
use Rattle.checked_descriptions.proofs.tools.make.Goals as goal

pub returns-in_err-machine-clause-fault : goal.returns-in_err-machine-clause-fault
returns-in_err-machine-clause-fault c = told _ _ c.from_residual.ensures.1 (checks_refused _ _ c.in_err-machine.ensures.fault)

pub returns-in_err-forms-clause-fault : goal.returns-in_err-forms-clause-fault
returns-in_err-forms-clause-fault c =
    let same = ap description_tree c.in_ok-machine.ensures.machine in
    told _ _ c.from_residual-in_err-forms.ensures.1 (instructions_refused _ _ _ same c.in_ok-machine.ensures.accepted (forms_refused _ _ c.in_err-forms.ensures.fault))

pub returns-in_err-coding-clause-fault : goal.returns-in_err-coding-clause-fault
returns-in_err-coding-clause-fault c =
    let same = ap description_tree c.in_ok-machine.ensures.machine in
    told _ _ c.from_residual-in_err-coding.ensures.1 (instructions_refused _ _ _ same c.in_ok-machine.ensures.accepted (words_refused _ _ c.in_ok-forms.ensures.accepted c.in_err-coding.ensures.fault))

pub returns-in_err-syntax-clause-fault : goal.returns-in_err-syntax-clause-fault
returns-in_err-syntax-clause-fault c =
    let same = ap description_tree c.in_ok-machine.ensures.machine in
    told _ _ c.from_residual-in_err-syntax.ensures.1 (instructions_refused _ _ _ same c.in_ok-machine.ensures.accepted
    (texts_refused _ _ c.in_ok-forms.ensures.accepted c.in_ok-coding.ensures.apart c.in_err-syntax.ensures.fault))

pub returns-in_err-aliases-clause-fault : goal.returns-in_err-aliases-clause-fault
returns-in_err-aliases-clause-fault c =
    let same = ap description_tree c.in_ok-machine.ensures.machine in
    let d = description_tree c.in_ok-machine.machine in
    told _ _ c.from_residual-in_err-aliases.ensures.1 (instructions_refused _ _ _ same c.in_ok-machine.ensures.accepted
    (aliases_refused _ _ c.in_ok-forms.ensures.accepted c.in_ok-coding.ensures.apart c.in_ok-syntax.ensures.plain (c.in_err-aliases.ensures.fault d c.in_ok-coding.ensures.coding)))

pub returns-clause-tools : goal.returns-clause-tools
returns-clause-tools c =
    let d = description_tree c.in_ok-machine.machine in
    record {
      accepted = subst (λ (x : Description). IsAccepted (description_tree x)) (sym c.in_ok-machine.ensures.machine) c.in_ok-machine.ensures.accepted;
      instructions = all_kept d c.in_ok-forms.ensures.accepted c.in_ok-coding.ensures.apart c.in_ok-syntax.ensures.plain (c.in_ok-aliases.ensures.covered d c.in_ok-coding.ensures.coding);
      forms = c.in_ok-forms.ensures.forms;
      coding = c.in_ok-coding.ensures.coding;
      syntax = c.in_ok-syntax.ensures.syntax;
    }
