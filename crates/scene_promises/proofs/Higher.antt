-- What stands above an operation is what lists it.
use Rattle.std.proofs.Common.{◌≡◌, ◌++◌, ◌||◌, ◌∙◌, ℕ, suc, zero, List, [], ◌∷◌, Some, Bool, true, false, cond, nat_eq, refl, sym, ap, subst, arith, inl, inr}
use Rattle.std.specs.Prelude.{slice_get}
use Rattle.std.specs.List.{dedup, dedup_from}
use Rattle.std.proofs.lemmas.Bool.{or_cases, eqb-true, eq-eqb}
use Rattle.std.proofs.lemmas.List.Folds.{list_any-append}
use Rattle.std.proofs.lemmas.Option.{same_Some}
use Rattle.lisa_tree.specs.Descriptions.{DescriptionTree}
use Rattle.lisa_tree.specs.Operations.{numbers_of, is_alias}
use Rattle.lisa_tree.specs.Declarations.{Choice, choices, alternatives_at, listings, above_in, above}
use Rattle.graph_paths.specs.Paths.{is_in}
use Rattle.scene_promises.specs.Listings.{Lists}

-- ---- lists

in_first : (p k : ℕ) (xs : List ℕ) → p ≡ k → is_in p (k ∷ xs) ≡ true
in_first p k xs same = let t : nat_eq p k ≡ true = eq-eqb p k same in grind arith

in_rest : (p k : ℕ) (xs : List ℕ) → is_in p xs ≡ true → is_in p (k ∷ xs) ≡ true
in_rest p k xs h = grind arith

in_left : (p : ℕ) (xs ys : List ℕ) → is_in p xs ≡ true → is_in p (xs ++ ys) ≡ true
in_left p xs ys h = list_any-append (nat_eq p) xs ys ∙ (let t : (is_in p xs || is_in p ys) ≡ true = grind arith in t)

in_right : (p : ℕ) (xs ys : List ℕ) → is_in p ys ≡ true → is_in p (xs ++ ys) ≡ true
in_right p xs ys h = list_any-append (nat_eq p) xs ys ∙ (let t : (is_in p xs || is_in p ys) ≡ true = grind arith in t)

-- what stands once stands there
once_from : (p k : ℕ) (xs : List ℕ) → is_in p (dedup_from nat_eq k xs) ≡ is_in p (k ∷ xs)
once_from p k [] = refl
once_from p k (x ∷ xs) = by (nat_eq x k) refl (once_from p k xs) (once_from p x xs)
  where
    by : (b : Bool) → nat_eq x k ≡ b → is_in p (dedup_from nat_eq k xs) ≡ is_in p (k ∷ xs) → is_in p (dedup_from nat_eq x xs) ≡ is_in p (x ∷ xs)
        → is_in p (cond b (dedup_from nat_eq k xs) (k ∷ dedup_from nat_eq x xs)) ≡ is_in p (k ∷ x ∷ xs)
    by true e same other = let twice : nat_eq p x ≡ nat_eq p k = ap (nat_eq p) (eqb-true x k e) in same ∙ (let t : (nat_eq p k || is_in p xs) ≡ (nat_eq p k || (nat_eq p x || is_in p xs)) = grind arith in t)
    by false e same other = ap (λ (b : Bool). nat_eq p k || b) other

once : (p : ℕ) (xs : List ℕ) → is_in p (dedup nat_eq xs) ≡ is_in p xs
once p [] = refl
once p (x ∷ xs) = once_from p x xs

-- ---- the listings of one choice

listed_by : (q p o : ℕ) (xs : List ℕ) → is_in q (listings p o xs) ≡ true → (q ≡ p) × (is_in o xs ≡ true)
listed_by q p o [] h = absurd (cc h)
listed_by q p o (x ∷ xs) h = by (nat_eq x o) refl h (listed_by q p o xs)
  where
    by : (b : Bool) → nat_eq x o ≡ b → is_in q (cond b (p ∷ listings p o xs) (listings p o xs)) ≡ true → (is_in q (listings p o xs) ≡ true → (q ≡ p) × (is_in o xs ≡ true)) → (q ≡ p) × (is_in o (x ∷ xs) ≡ true)
    by true e g more = elim (or_cases (nat_eq q p) (is_in q (listings p o xs)) g) [
      | inl same ↦ (eqb-true q p same, in_first o x xs (sym (eqb-true x o e)))
      | inr later ↦ ((more later).0, in_rest o x xs (more later).1)
    ]
    by false e g more = ((more g).0, in_rest o x xs (more g).1)

lists_by : (p o : ℕ) (xs : List ℕ) → is_in o xs ≡ true → is_in p (listings p o xs) ≡ true
lists_by p o [] h = absurd (cc h)
lists_by p o (x ∷ xs) h = by (nat_eq x o) refl (lists_by p o xs)
  where
    by : (b : Bool) → nat_eq x o ≡ b → (is_in o xs ≡ true → is_in p (listings p o xs) ≡ true) → is_in p (cond b (p ∷ listings p o xs) (listings p o xs)) ≡ true
    by true e more = in_first p p (listings p o xs) refl
    by false e more = elim (or_cases (nat_eq o x) (is_in o xs) h) [
      | inl same ↦ absurd (cc (sym e ∙ eq-eqb x o (sym (eqb-true o x same))))
      | inr later ↦ more later
    ]

-- ---- all choices

-- a choice among these, of this operation, has the other one
record Among (d : DescriptionTree) (p o : ℕ) (all : List Choice) : Type 0 where
  pub number : ℕ
  pub choice : Choice
  pub is : slice_get all number ≡ Some choice
  pub owner : choice.operation ≡ p
  pub no_alias : is_alias d choice.operation ≡ false
  pub listed : is_in o (numbers_of d choice.alternatives) ≡ true

one_more : (d : DescriptionTree) (p o : ℕ) (x : Choice) (all : List Choice) → Among d p o all → Among d p o (x ∷ all)
one_more d p o x all a = record { number = suc a.number; choice = a.choice; is = a.is; owner = a.owner; no_alias = a.no_alias; listed = a.listed }

among : (d : DescriptionTree) (p o : ℕ) (all : List Choice) → is_in p (above_in d o all) ≡ true → Among d p o all
among d p o [] h = absurd (cc h)
among d p o (x ∷ all) h = by (is_alias d x.operation) refl h (among d p o all)
  where
    own : List ℕ
    own = listings x.operation o (numbers_of d x.alternatives)

    by : (b : Bool) → is_alias d x.operation ≡ b → is_in p (cond b (above_in d o all) (own ++ above_in d o all)) ≡ true → (is_in p (above_in d o all) ≡ true → Among d p o all) → Among d p o (x ∷ all)
    by true e g more = one_more d p o x all (more g)
    by false e g more = elim (or_cases (is_in p own) (is_in p (above_in d o all)) (sym (list_any-append (nat_eq p) own (above_in d o all)) ∙ g)) [
      | inl here ↦ (let l = listed_by p x.operation o (numbers_of d x.alternatives) here in record { number = 0; choice = x; is = refl; owner = sym l.0; no_alias = e; listed = l.1 })
      | inr later ↦ one_more d p o x all (more later)
    ]

further : (d : DescriptionTree) (p o : ℕ) (x : Choice) (all : List Choice) → is_in p (above_in d o all) ≡ true → is_in p (above_in d o (x ∷ all)) ≡ true
further d p o x all h = by (is_alias d x.operation)
  where
    own : List ℕ
    own = listings x.operation o (numbers_of d x.alternatives)

    by : (b : Bool) → is_in p (cond b (above_in d o all) (own ++ above_in d o all)) ≡ true
    by true = h
    by false = in_right p own (above_in d o all) h

stands : (d : DescriptionTree) (o k : ℕ) (all : List Choice) (x : Choice) → slice_get all k ≡ Some x → is_alias d x.operation ≡ false → is_in o (numbers_of d x.alternatives) ≡ true → is_in x.operation (above_in d o all) ≡ true
stands d o k [] x is plain h = absurd (cc is)
stands d o zero (y ∷ all) x is plain h =
    let own = listings x.operation o (numbers_of d x.alternatives) in
    let mine : is_in x.operation (own ++ above_in d o all) ≡ true = in_left x.operation own (above_in d o all) (lists_by x.operation o (numbers_of d x.alternatives) h) in
    subst (λ (z : Choice). is_in x.operation (above_in d o (z ∷ all)) ≡ true) (sym (same_Some y x is)) (ap (λ (b : Bool). is_in x.operation (cond b (above_in d o all) (own ++ above_in d o all))) plain ∙ mine)
stands d o (suc k) (y ∷ all) x is plain h = further d x.operation o y all (stands d o k all x is plain h)

-- ---- above an operation

module _ (d : DescriptionTree) where
  numbered : (c o : ℕ) (x : Choice) → slice_get (choices d) c ≡ Some x → alternatives_at d c ≡ numbers_of d x.alternatives
  numbered c o x is = cc is

  pub lists : (o p : ℕ) → is_in p (above d o) ≡ true → Lists d p o
  lists o p h =
      let a = among d p o (choices d) (sym (once p (above_in d o (choices d))) ∙ h) in
      record {
        no_alias = ap (is_alias d) (sym a.owner) ∙ a.no_alias;
        number = a.number;
        choice = a.choice;
        is = a.is;
        owner = a.owner;
        listed = ap (is_in o) (numbered a.number o a.choice a.is) ∙ a.listed;
      }

  pub listed_above : (o p : ℕ) → Lists d p o → is_in p (above d o) ≡ true
  listed_above o p l =
      let plain : is_alias d l.choice.operation ≡ false = ap (is_alias d) l.owner ∙ l.no_alias in
      let own : is_in l.choice.operation (above_in d o (choices d)) ≡ true = stands d o l.number (choices d) l.choice l.is plain (ap (is_in o) (sym (numbered l.number o l.choice l.is)) ∙ l.listed) in
      subst (λ (q : ℕ). is_in q (above d o) ≡ true) l.owner (once l.choice.operation (above_in d o (choices d)) ∙ own)
