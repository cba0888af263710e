-- The forms of a list, one after the other.
use Rattle.std.proofs.Common.{◌≡◌, ◌<◌, ◌≤◌, ◌+◌, ℕ, zero, suc, List, [], ◌∷◌, None, Some, Bool, true, false, cond, length, get_or, drop, take, map, refl, sym, ap, ◌∙◌, arith}
use Rattle.std.proofs.Math.ListN.{drop_of_length-le}
use Rattle.lisa_tree.specs.Descriptions.{DescriptionTree}
use Rattle.instruction_forms.proofs.description_graph_proofs.Lists as lists
use Rattle.instruction_forms.specs.declared.form.Form.{Form}
use Rattle.instruction_forms.specs.Trees.{FormTree, form_tree}
use Rattle.instruction_forms.specs.Described.{AreForms}
use Rattle.instruction_texts.specs.Symbols.{Sym, gather, shown_values, is_instruction_text}
use Rattle.text_tables.specs.Parts.{all_pieces}
use Rattle.form_texts.specs.declared.writing.FormTexts.{FormTexts}
use Rattle.form_texts.specs.Instructions.{AreTexts, first_bad_text}
use Rattle.form_texts.specs.Written.{written}
use Rattle.form_texts.proofs.Numbered.{first_bad, of_all, first_bad_is}

take_whole : {X : Type 0} (xs : List X) (n : ℕ) → length xs ≤ n → take n xs ≡ xs
take_whole [] zero h = refl
take_whole [] (suc n) h = refl
take_whole (x ∷ xs) zero h = absurd (omega arith)
take_whole {X = X} (x ∷ xs) (suc n) h = ap (λ (l : List X). x ∷ l) (take_whole xs n (omega arith))

module _ (d : DescriptionTree) (forms : List Form) (are : AreForms d forms) where
  pub texts_are : (all : FormTexts) (n : ℕ) → length forms ≤ n → all_pieces all.texts ≡ map (λ (f : FormTree). gather [] (written d f)) (map form_tree (take n forms))
      → map (λ v. v.items) all.orders.items ≡ map (λ (f : FormTree). shown_values (written d f)) (map form_tree (take n forms)) → AreTexts d all
  texts_are all n past shapes orders =
      let whole : map form_tree (take n forms) ≡ map form_tree forms = ap (map form_tree) (take_whole forms n past) in
      record {
        shapes = shapes ∙ ap (map (λ (f : FormTree). gather [] (written d f))) whole ∙ of_all d (λ (s : List (Sym ℕ)). gather [] s) (map form_tree forms) are;
        orders = orders ∙ ap (map (λ (f : FormTree). shown_values (written d f))) whole ∙ of_all d (λ (s : List (Sym ℕ)). shown_values s) (map form_tree forms) are;
      }

  module _ (i : ℕ) (so_far : first_bad d i (map form_tree (drop i forms)) ≡ first_bad d 0 (map form_tree forms)) where
    pub found_bad : (x : Form) → i < length forms → x ≡ get_or forms i x → (good : Bool) → good ≡ is_instruction_text (written d (form_tree x)) → good ≡ false → Some i ≡ first_bad_text d
    found_bad x h is good same bad =
        sym (refused good same bad)
        ∙ sym (ap (λ (xs : List Form). first_bad d i (map form_tree xs)) (lists.one_more forms i x h is))
        ∙ so_far
        ∙ first_bad_is d (map form_tree forms) are
      where
        refused : (good : Bool) → good ≡ is_instruction_text (written d (form_tree x)) → good ≡ false → first_bad d i (map form_tree (x ∷ drop (i + 1) forms)) ≡ Some i
        refused true same bad = absurd (cc bad)
        refused false same bad = ap (λ (b : Bool). cond b (first_bad d (suc i) (map form_tree (drop (i + 1) forms))) (Some i)) (sym same)

    pub none_bad : length forms ≤ i → None ≡ first_bad_text d
    none_bad past = sym (ap (λ (xs : List Form). first_bad d i (map form_tree xs)) (drop_of_length-le forms past)) ∙ so_far ∙ first_bad_is d (map form_tree forms) are
