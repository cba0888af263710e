-- From the texts of forms to the syntax that is made of them.
use Rattle.std.proofs.Common.{◌≡◌, ◌≤◌, ℕ, List, Option, None, Some, length, map, sym, ap, ◌∙◌, subst, arith}
use Rattle.std.specs.Prelude.{Vec}
use Rattle.std.specs.Global.{Global}
use Rattle.std.specs.List.{All}
use Rattle.lisa_tree.specs.declared.descriptions.Description.{Description}
use Rattle.lisa_tree.specs.declared.faults.DescFault.{DescFault}
use Rattle.lisa_tree.specs.declared.faults.DescFault.TheVariants as faults
use Rattle.lisa_tree.specs.Descriptions.{description_tree}
use Rattle.lisa_forms.specs.lisa_machine.Verdicts.{IsAccepted}
use Rattle.lisa_forms.specs.coding_tables.Instructions.{forms_of, form_count}
use Rattle.instruction_texts.specs.declared.shapes.Shape.{Shape}
use Rattle.instruction_texts.specs.Shapes.{IsSized}
use Rattle.lisa_forms.specs.form_texts.Instructions.{AreTexts, instruction_shapes, instruction_order}
use Rattle.lisa_forms.specs.form_texts.declared.writing.FormTexts.{FormTexts}
use Rattle.text_tables.specs.Parts.{all_pieces}
use Rattle.text_tables.specs.declared.shared.Shared.{Shared}
use Rattle.text_tables.specs.Shared.{AnswersShared}
use Rattle.lisa_forms.specs.Verdicts.{HasForms, form_name_at}
use Rattle.lisa_syntax.specs.declared.syntax.Syntax.{Syntax}
use Rattle.lisa_syntax.specs.Parts.{IsSyntaxOf}
use Rattle.lisa_syntax.specs.Texts.{IsAmbiguityFault, IsAmbiguityVerdict}
use Rattle.lisa_syntax.specs.Orders.{AreOrdersOf}
use Rattle.lisa_syntax.proofs.Shown.{all_orders}
use Rattle.lisa_syntax.proofs.Sharing.{texts, map_long, all_sized, none_shared, first_of}

module _ (m n : Description) (same : n ≡ m) (made_texts : FormTexts) (are : AreTexts (description_tree n) made_texts) (accepted : IsAccepted (description_tree m)) (has : HasForms (description_tree m)) where
  abbrev pieces : List (List Shape)
  pieces = all_pieces made_texts.texts

  of_machine : AreTexts (description_tree m) made_texts
  of_machine = subst (λ (x : Description). AreTexts (description_tree x) made_texts) same are

  pub texts_sized : All (All IsSized) pieces
  texts_sized = subst (λ (us : List (List Shape)). All (All IsSized) us) (sym of_machine.shapes) (all_sized (description_tree m) accepted has)

  module _ (found : Option Shared) (answers : AnswersShared pieces found) where
    of_texts : AnswersShared (texts (description_tree m)) found
    of_texts = subst (λ (us : List (List Shape)). AnswersShared us found) of_machine.shapes answers

    pub none_ambiguous : found ≡ None → IsAmbiguityVerdict (description_tree m) None
    none_ambiguous none = none_shared (description_tree m) accepted has (subst (AnswersShared (texts (description_tree m))) none of_texts)

    pub first_ambiguous : (s : Shared) → found ≡ Some s → (fault : DescFault) → fault ≡ faults.Ambiguous (form_name_at (description_tree m) s.first) (form_name_at (description_tree m) s.second) s.text.items → IsAmbiguityFault (description_tree m) fault
    first_ambiguous s some fault named = first_of (description_tree m) accepted has s (subst (AnswersShared (texts (description_tree m))) some of_texts) fault named

  counted : length pieces ≡ form_count (description_tree m)
  counted = ap length of_machine.shapes ∙ map_long (instruction_shapes (description_tree m)) (forms_of (description_tree m))

  pub texts_level : length made_texts.orders.items ≡ length pieces
  texts_level = sym (map_long (λ v. v.items) made_texts.orders.items) ∙ ap length of_machine.orders ∙ map_long (instruction_order (description_tree m)) (forms_of (description_tree m)) ∙ sym counted

  pub texts_few : form_count (description_tree m) ≤ 1024 → length pieces ≤ 1024
  texts_few few = omega (arith, counted, few)

  pub texts_ordered : AreOrdersOf pieces (map (λ v. v.items) made_texts.orders.items)
  texts_ordered =
      subst (λ (us : List (List Shape)). AreOrdersOf us (map (λ v. v.items) made_texts.orders.items)) (sym of_machine.shapes)
      (subst (AreOrdersOf (texts (description_tree m))) (sym of_machine.orders) (all_orders (description_tree m) accepted has))

  -- the syntax of these texts is the description's
  pub made : IsAmbiguityVerdict (description_tree m) None → (s : Syntax) → s.table ≡ pieces → s.orders ≡ made_texts.orders → IsSyntaxOf (description_tree m) s
  made apart s table orders = record {
    accepted = accepted;
    has_forms = has;
    apart = apart;
    pieces = table ∙ of_machine.shapes;
    all_orders = ap (λ (v : Vec (Vec ℕ Global) Global). map (λ w. w.items) v.items) orders ∙ of_machine.orders;
  }
