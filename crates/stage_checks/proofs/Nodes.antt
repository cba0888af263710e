-- Operations, choices and stages are within their bounds.
use Rattle.std.proofs.Common.{◌≡◌, ℕ, ◌-◌, ◌<◌, ◌≤◌, List, [], ◌∷◌, ◌++◌, Option, None, Some, Bool, true, false, cond, ◌||◌, not, nat_eq, nat_lt, length, filter, refl, ap, sym, ◌∙◌, arith, inl, inr, subst}
use Rattle.std.specs.Prelude.{slice_get, position}
use Rattle.std.specs.Option.{option_to_list}
use Rattle.std.proofs.lemmas.Bool.{cases_Bool, eqb-true, or_cases, ltb-false, le-ltb}
use Rattle.std.proofs.lemmas.Option.{slice_get_past}
use Rattle.std.proofs.lemmas.List.Quantifiers.{position-Some}
use Rattle.lisa_tree.specs.Descriptions.{OperationTree, DescriptionTree}
use Rattle.lisa_tree.specs.Same.{same_name}
use Rattle.lisa_tree.specs.Declarations.{Choice, choices, alternatives_at, plain_at}
use Rattle.lisa_tree.specs.Operations.{number_of, numbers_of, is_alias, own_stage, operation_at}
use Rattle.lisa_tree.specs.Resources.{stages, stage_at}
use Rattle.graph_paths.specs.Paths.{is_in}
use Rattle.stage_checks.specs.Running.{named_choices}
use Rattle.stage_checks.specs.Graphs.{node_count, nodes_of, row_at}

position_within : {X : Type 0} (p : X → Bool) (xs : List X) (i : ℕ) → position p xs ≡ Some i → i < length xs
position_within p [] i e = absurd (cc e)
position_within p (x ∷ xs) i e = (position-Some p (x ∷ xs) i x e).0

pub number_within : (d : DescriptionTree) (n : List ℕ) (o : ℕ) → number_of d n ≡ Some o → o < length d.operations
number_within d n o e = position_within (λ (operation : OperationTree). same_name n operation.name) d.operations o e

numbers_cons : (d : DescriptionTree) (n : List ℕ) (rest : List (List ℕ)) → numbers_of d (n ∷ rest) ≡ option_to_list (number_of d n) ++ numbers_of d rest
numbers_cons d n rest = grind arith

numbers_within : (d : DescriptionTree) (all : List (List ℕ)) (o : ℕ) → is_in o (numbers_of d all) ≡ true → o < length d.operations
numbers_within d [] o e = absurd (cc e)
numbers_within d (n ∷ rest) o e = at (number_of d n) refl (sym (ap (is_in o) (numbers_cons d n rest)) ∙ e) (numbers_within d rest o)
  where
    at : (x : Option ℕ) → number_of d n ≡ x → is_in o (option_to_list x ++ numbers_of d rest) ≡ true → (is_in o (numbers_of d rest) ≡ true → o < length d.operations) → o < length d.operations
    at None is h more = more h
    at (Some k) is h more = elim (or_cases (nat_eq o k) (is_in o (numbers_of d rest)) h) [
      | inl same ↦ subst (λ (m : ℕ). m < length d.operations) (sym (eqb-true o k same)) (number_within d n k is)
      | inr later ↦ more later
    ]

filter_in : (p : ℕ → Bool) (xs : List ℕ) (o : ℕ) → is_in o (filter p xs) ≡ true → is_in o xs ≡ true
filter_in p [] o e = e
filter_in p (x ∷ xs) o e = at (p x) e (filter_in p xs o)
  where
    at : (b : Bool) → is_in o (cond b (x ∷ filter p xs) (filter p xs)) ≡ true → (is_in o (filter p xs) ≡ true → is_in o xs ≡ true) → (nat_eq o x || is_in o xs) ≡ true
    at true h more = elim (or_cases (nat_eq o x) (is_in o (filter p xs)) h) [ inl same ↦ grind arith | inr later ↦ (let l = more later in grind arith) ]
    at false h more = let l = more h in grind arith

alternatives_within : (d : DescriptionTree) (c o : ℕ) → is_in o (alternatives_at d c) ≡ true → o < length d.operations
alternatives_within d c o e = at (slice_get (choices d) c) refl
  where
    at : (x : Option Choice) → slice_get (choices d) c ≡ x → o < length d.operations
    at None is = absurd (cc (rw is at e))
    at (Some choice) is = numbers_within d choice.alternatives o (rw is at e)

pub plain_within : (d : DescriptionTree) (c o : ℕ) → is_in o (plain_at d c) ≡ true → o < length d.operations
plain_within d c o e = alternatives_within d c o (filter_in (λ k. not (is_alias d k)) (alternatives_at d c) o e)

pub plain_past : (d : DescriptionTree) (c : ℕ) → length (choices d) ≤ c → plain_at d c ≡ []
plain_past d c h = let gone : slice_get (choices d) c ≡ None = slice_get_past (choices d) c h in rw gone refl

pub plain_choice : (d : DescriptionTree) (c o : ℕ) → is_in o (plain_at d c) ≡ true → nat_lt c (length (choices d)) ≡ true
plain_choice d c o e = elim (cases_Bool (nat_lt c (length (choices d)))) [
  | inl on ↦ on
  | inr off ↦ absurd (cc (sym (ap (is_in o) (plain_past d c (ltb-false c (length (choices d)) off))) ∙ e))
]

pub own_past : (d : DescriptionTree) (o : ℕ) → length d.operations ≤ o → own_stage d o ≡ None
own_past d o h = let gone : slice_get d.operations o ≡ None = slice_get_past d.operations o h in rw gone refl

stage_within : (d : DescriptionTree) (n : List ℕ) (s : ℕ) → stage_at d n ≡ Some s → s < length (stages d)
stage_within d n s e = position_within (same_name n) (stages d) s e

pub own_within : (d : DescriptionTree) (o s : ℕ) → own_stage d o ≡ Some s → s < length (stages d)
own_within d o s e = at (operation_at d o) refl
  where
    of_stage : (operation : OperationTree) (x : Option (List ℕ × List ℕ)) → operation.stage ≡ x → operation_at d o ≡ Some operation → s < length (stages d)
    of_stage operation None is found = absurd (cc (rw (found, is) at e))
    of_stage operation (Some stage) is found = stage_within d stage.1 s (rw (found, is) at e)

    at : (x : Option OperationTree) → operation_at d o ≡ x → s < length (stages d)
    at None is = absurd (cc (rw is at e))
    at (Some operation) is = of_stage operation operation.stage refl is

-- ---- rows

pub rows_end : (d : DescriptionTree) (n : ℕ) → n ≡ node_count d → (a : ℕ) → cond (nat_lt a n) (row_at d a) [] ≡ row_at d a
rows_end d n is a = elim (cases_Bool (nat_lt a n)) [
  | inl on ↦ ap (λ (b : Bool). cond b (row_at d a) []) on
  | inr off ↦ (let l = ltb-false a n off in
      ap (λ (b : Bool). cond b (row_at d a) []) off
      ∙ sym (ap (λ (b : Bool). cond b (nodes_of d (named_choices d a)) (plain_at d (a - length d.operations))) (le-ltb a (length d.operations) (omega arith))
      ∙ plain_past d (a - length d.operations) (omega arith)))
]
