use Rattle.std.proofs.Common.{List, ◌∙◌, subst}
use Rattle.std.specs.Prelude.{IfOk, IfNone}
use Rattle.instruction_texts.specs.declared.shapes.Shape.{Shape}
use Rattle.instruction_texts.specs.declared.shapes.Token.{Token}
use Rattle.instruction_texts.specs.Shapes.{IsText}
use Rattle.text_tables.specs.Parts.{text_pieces}
use Rattle.text_tables.proofs.shared.common_of.Goals as goal

pub returns-in-Some-Some-clause-none : goal.returns-in-Some-Some-clause-none
returns-in-Some-Some-clause-none c =
    subst (λ (ss : List Shape). IfOk c.common_text.result (λ found. IfNone found ((ts : List Token) → IsText ss ts → IsText (text_pieces c.args.shared.now c.args.second.now) ts → ⊥))) c.in-Some-Some.ensures
    (subst (λ (us : List Shape). IfOk c.common_text.result (λ found. IfNone found ((ts : List Token) → IsText c.in-Some-Some.one.now ts → IsText us ts → ⊥))) c.in-Some-Some.ensures' c.common_text.ensures.none)

pub returns-clause-none : goal.returns-clause-none
returns-clause-none c =
    subst (λ (ss : List Shape). IfOk c.common_text-2.result (λ found. IfNone found ((ts : List Token) → IsText ss ts → IsText (text_pieces c.args.shared.now c.args.second.now) ts → ⊥))) (c.deref.ensures.value ∙ c.in_ok-one.ensures)
    (subst (λ (us : List Shape). IfOk c.common_text-2.result (λ found. IfNone found ((ts : List Token) → IsText c.deref.result.now ts → IsText us ts → ⊥))) (c.deref-2.ensures.value ∙ c.in_ok-other.ensures) c.common_text-2.ensures.none)
