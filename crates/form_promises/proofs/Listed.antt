-- No choice of an accepted description lists an alternative twice, so no form is listed twice.
use Rattle.std.proofs.Common.{◌≡◌, ◌≢◌, ◌<◌, ℕ, suc, List, [], ◌∷◌, Option, None, Some, length, refl, sym, ap, ◌∙◌, arith, subst}
use Rattle.std.specs.Prelude.{slice_get, slice_index_or}
use Rattle.std.proofs.lemmas.Slice.Eq.{bytes_eq-Decides}
use Rattle.lisa_tree.specs.Descriptions.{OperationTree, DescriptionTree}
use Rattle.lisa_tree.specs.Same.{same_name}
use Rattle.lisa_tree.specs.Operations.{number_of, numbers_of}
use Rattle.lisa_tree.specs.Declarations.{Choice, choices, alternatives_at}
use Rattle.instruction_trees.specs.Trees.{In, here, there}
use Rattle.instruction_trees.specs.Forms.{Distinct, none, more}
use Rattle.form_texts.specs.coding_tables.Instructions.{forms_of}
use Rattle.form_texts.proofs.coding_tables_proofs.Heights.{listed_once}
use Rattle.lisa_machine.specs.Distinctness.{AreDistinct}
use Rattle.lisa_machine.specs.Soundness.{IsSound}
use Rattle.lisa_machine.proofs.Choosing.{alternatives_are}
use Rattle.lisa_machine.proofs.Decoding.{position_there}
use Rattle.lisa_machine.proofs.Distinct.{alternatives_distinct}

module _ (d : DescriptionTree) where
  -- ---- the numbers of names

  one_numbered : (n : List ℕ) (names : List (List ℕ)) (o : ℕ) → number_of d n ≡ Some o → numbers_of d (n ∷ names) ≡ o ∷ numbers_of d names
  one_numbered n names o is = cc is

  none_numbered : (n : List ℕ) (names : List (List ℕ)) → number_of d n ≡ None → numbers_of d (n ∷ names) ≡ numbers_of d names
  none_numbered n names is = cc is

  -- operations of one number have one name
  same_operation : (n m : List ℕ) (o : ℕ) → number_of d n ≡ Some o → number_of d m ≡ Some o → n ≡ m
  same_operation n m o e f =
      let x = position_there (λ (operation : OperationTree). same_name n operation.name) d.operations o e in
      let y = position_there (λ (operation : OperationTree). same_name m operation.name) d.operations o f in
      let same : x.0 ≡ y.0 = cc (x.1, y.1) in
      (bytes_eq-Decides n x.0.name).0 x.2 ∙ ap (λ (operation : OperationTree). operation.name) same ∙ sym ((bytes_eq-Decides m y.0.name).0 y.2)

  -- a name unlike all of these
  abbrev IsOther : List ℕ → List (List ℕ) → Type 0
  IsOther n names = (i : ℕ) → i < length names → n ≢ slice_index_or names i n

  other_first : (n m : List ℕ) (names : List (List ℕ)) → IsOther n (m ∷ names) → n ≢ m
  other_first n m names other = other 0 (omega arith)

  other_rest : (n m : List ℕ) (names : List (List ℕ)) → IsOther n (m ∷ names) → IsOther n names
  other_rest n m names other = λ i h. other (suc i) (omega (arith, h))

  not_among : (n : List ℕ) (o : ℕ) → number_of d n ≡ Some o → (names : List (List ℕ)) → IsOther n names → In o (numbers_of d names) → ⊥
  not_among n o is [] other i = elim i [ ]
  not_among n o is (m ∷ names) other i = by (number_of d m) refl (not_among n o is names (other_rest n m names other))
    where
      here_or_later : (p : ℕ) → number_of d m ≡ Some p → (In o (numbers_of d names) → ⊥) → (ks : List ℕ) → numbers_of d names ≡ ks → In o (p ∷ ks) → ⊥
      here_or_later p at later ks same here = other_first n m names other (same_operation n m o is at)
      here_or_later p at later ks same (there j) = later (subst (λ (xs : List ℕ). In o xs) (sym same) j)

      by : (r : Option ℕ) → number_of d m ≡ r → (In o (numbers_of d names) → ⊥) → ⊥
      by None at later = later (subst (λ (xs : List ℕ). In o xs) (none_numbered m names at) i)
      by (Some p) at later = here_or_later p at later (numbers_of d names) refl (subst (λ (xs : List ℕ). In o xs) (one_numbered m names p at) i)

  numbers_distinct : (names : List (List ℕ)) → AreDistinct names → Distinct (numbers_of d names)
  numbers_distinct [] apart = none
  numbers_distinct (n ∷ names) apart = by (number_of d n) refl (numbers_distinct names (λ i j x l h. apart (suc i) (suc j) x (omega (arith, l)) (omega (arith, h))))
    where
      by : (r : Option ℕ) → number_of d n ≡ r → Distinct (numbers_of d names) → Distinct (numbers_of d (n ∷ names))
      by None at rest = subst (λ (xs : List ℕ). Distinct xs) (sym (none_numbered n names at)) rest
      by (Some o) at rest = subst (λ (xs : List ℕ). Distinct xs) (sym (one_numbered n names o at)) (more (not_among n o at names (λ i h. apart 0 (suc i) n (omega arith) (omega (arith, h)))) rest)

  pub choices_distinct : IsSound d → (c : ℕ) → Distinct (alternatives_at d c)
  choices_distinct s c = by (slice_get (choices d) c) refl
    where
      nothing : slice_get (choices d) c ≡ None → alternatives_at d c ≡ []
      nothing at = cc at

      by : (r : Option Choice) → slice_get (choices d) c ≡ r → Distinct (alternatives_at d c)
      by None at = subst (λ (xs : List ℕ). Distinct xs) (sym (nothing at)) none
      by (Some x) at = subst (λ (xs : List ℕ). Distinct xs) (sym (alternatives_are d c x at)) (numbers_distinct x.alternatives (alternatives_distinct d s.names c x at))

  pub forms_distinct : IsSound d → Distinct (forms_of d)
  forms_distinct s = listed_once d (choices_distinct s)
