-- Each instruction is of one form, with one list of values.
use Rattle.std.proofs.Common.{◌≡◌, ◌<◌, ℕ, zero, suc, List, length, refl, sym, ap, ◌∙◌, subst, arith}
use Rattle.std.specs.Prelude.{slice_index_or}
use Rattle.lisa_tree.specs.Descriptions.{DescriptionTree}
use Rattle.instruction_trees.specs.Trees.{Tree, Done, Fits, IsBelow, In, form}
use Rattle.instruction_trees.specs.Values.{values}
use Rattle.instruction_trees.specs.Forms.{Distinct, none, more}
use Rattle.instruction_trees.proofs.Relabelled.{fits_relabel}
use Rattle.form_patterns.specs.coding_tables.Codings.{coding_table}
use Rattle.form_patterns.specs.coding_tables.Instructions.{instruction_items}
use Rattle.form_patterns.proofs.coding_tables_proofs.Heights.{are_listed}
use Rattle.pattern_tables.proofs.Decoding.{in_place, place_in}
use Rattle.form_patterns.specs.Filled.{IsInstruction}
use Rattle.form_patterns.proofs.Filling.{its_values}
use Rattle.form_promises.specs.lisa_machine.Soundness.{IsSound}
use Rattle.form_promises.proofs.Listed.{forms_distinct}

-- what is listed once stands at one place
one_place : {A : Type 0} {xs : List A} → Distinct xs → (e : A) (j k : ℕ) → j < length xs → k < length xs → slice_index_or xs j e ≡ slice_index_or xs k e → j ≡ k
one_place none e j k h l same = absurd (omega (arith, h))
one_place (more {x = x} {xs = xs} out apart) e zero zero h l same = refl
one_place (more {x = x} {xs = xs} out apart) e zero (suc k) h l same = absurd (out (subst (λ y. In y xs) (sym same) (place_in xs k e (omega (arith, l)))))
one_place (more {x = x} {xs = xs} out apart) e (suc j) zero h l same = absurd (out (subst (λ y. In y xs) same (place_in xs j e (omega (arith, h)))))
one_place (more {x = x} {xs = xs} out apart) e (suc j) (suc k) h l same = ap suc (one_place apart e j k (omega (arith, h)) (omega (arith, l)) same)

module _ (d : DescriptionTree) (s : IsSound d) where
  pub some_form : (t : Tree ℕ) → Fits IsBelow (coding_table d) t (instruction_items d) → (k : ℕ) × IsInstruction d k (values t) t
  some_form t fits =
      let listed = are_listed d s.circles (form t) (fits_relabel (λ _. tt) (coding_table d) IsBelow t (instruction_items d) fits) in
      let at = in_place listed in
      (at.0, record { fits = fits; formed = sym (at.2 Done); valued = refl })

  pub one_form : (j k : ℕ) (vs ws : List ℕ) (t : Tree ℕ) → IsInstruction d j vs t → IsInstruction d k ws t → (j ≡ k) × (vs ≡ ws)
  one_form j k vs ws t a b = (
    one_place (forms_distinct d s) Done j k (its_values d j vs t a).within (its_values d k ws t b).within (sym a.formed ∙ b.formed),
    sym a.valued ∙ b.valued,
  )
