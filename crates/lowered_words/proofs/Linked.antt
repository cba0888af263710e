-- Last steps of ways in a set that keeps their order.
use Rattle.std.proofs.Common.{◌≡◌, ◌+◌, ◌++◌, ◌||◌, ◌∙◌, ℕ, suc, Bool, true, false, not, cond, List, [], ◌∷◌, Option, Some, nat_eq, refl, sym, ap, arith}
use Rattle.std.specs.Prelude.{option_map, position}
use Rattle.std.specs.Borrow.{Bor}
use Rattle.std.specs.List.{list_any, position_or_len}
use Rattle.std.proofs.lemmas.Bool.{and_from, eq-eqb}
use Rattle.indexmap.specs.IndexSet.{insert_key}
use Rattle.instruction_forms.specs.declared.form.Form.{Form}
use Rattle.lowered_words.specs.declared.links.Link.{Link}
use Rattle.lowered_words.specs.declared.links.Link.TheVariants as links
use Rattle.lowered_words.specs.contracts.links.LinkPartialEq.TheImpl as link_impl
use Rattle.lowered_words.specs.Links.{same_link, with_link}
use Rattle.lowered_words.proofs.Reaching.{position_more}

-- the derived test
pub derived_same : (a b : Link) → link_impl.eq-value.it a b ≡ same_link a b
derived_same (links.Whole o) (links.Whole p) = refl
derived_same (links.Whole o) (links.Child w j p) = refl
derived_same (links.Child v i o) (links.Whole p) = refl
derived_same (links.Child v i o) (links.Child w j p) = refl

pub place_found : (all : List Link) (l : Link) → position (link_impl.eq-value.it l) all ≡ position (same_link l) all
place_found all l = ap (λ (test : Link → Bool). position test all) (λ i b. derived_same l b i)

pub any_found : (all : List Link) (l : Link) → list_any (link_impl.eq-value.it l) all ≡ list_any (same_link l) all
any_found all l = ap (λ (test : Link → Bool). list_any test all) (λ i b. derived_same l b i)

length_found : (all : List Link) (l : Link) → position_or_len (link_impl.eq-value.it l) all ≡ position_or_len (same_link l) all
length_found all l = ap (λ (test : Link → Bool). position_or_len test all) (λ i b. derived_same l b i)

pub keys_with : (all : List Link) (l : Link) → insert_key link_impl.eq-value.it all l ≡ with_link all l
keys_with all l = ap (λ (b : Bool). cond b all (all ++ l ∷ [])) (any_found all l)

-- the place of what is there then
module _ {X : Type 0} (p : X → Bool) (x : X) (passes : p x ≡ true) where
  pub new_place : (xs : List X) → position p (cond (list_any p xs) xs (xs ++ x ∷ [])) ≡ Some (position_or_len p xs)
  new_place [] = position_more p x [] ∙ ap (λ (b : Bool). cond b (Some 0) (option_map suc (position p []))) passes
  new_place (y ∷ xs) = by (p y) refl (new_place xs)
    where
      later : (b : Bool) → position p (y ∷ cond b xs (xs ++ x ∷ [])) ≡ position p (cond b (y ∷ xs) (y ∷ (xs ++ x ∷ [])))
      later true = refl
      later false = refl

      by : (b : Bool) → p y ≡ b → position p (cond (list_any p xs) xs (xs ++ x ∷ [])) ≡ Some (position_or_len p xs)
          → position p (cond (b || list_any p xs) (y ∷ xs) (y ∷ (xs ++ x ∷ []))) ≡ Some (cond (not b) (1 + position_or_len p xs) 0)
      by true is rest = position_more p y xs ∙ ap (λ (c : Bool). cond c (Some 0) (option_map suc (position p xs))) is
      by false is rest =
          let others : List X = cond (list_any p xs) xs (xs ++ x ∷ []) in
          sym (later (list_any p xs))
          ∙ position_more p y others
          ∙ ap (λ (c : Bool). cond c (Some 0) (option_map suc (position p others))) is
          ∙ ap (λ (o : Option ℕ). option_map suc o) rest
          ∙ ap (λ (n : ℕ). Some n) (let e : suc (position_or_len p xs) ≡ 1 + position_or_len p xs = omega arith in e)

same_itself : (l : Link) → same_link l l ≡ true
same_itself (links.Whole o) = eq-eqb o o refl
same_itself (links.Child v i o) = and_from (nat_eq v v) _ (eq-eqb v v refl) (and_from (nat_eq i i) (nat_eq o o) (eq-eqb i i refl) (eq-eqb o o refl))

pub place_with : (all : List Link) (l : Link) (k : ℕ) → k ≡ position_or_len (link_impl.eq-value.it l) all → position (same_link l) (with_link all l) ≡ Some k
place_with all l k is = new_place (same_link l) l (same_itself l) all ∙ ap (λ (n : ℕ). Some n) (sym (is ∙ length_found all l))

-- what was new is put behind the others
module _ (all : List Link) (l : Link) (parts next : List (Bor Form)) (x : Bor Form) (added : Bool) (is : added ≡ not (list_any (link_impl.eq-value.it l) all)) where
  pub part_new : added ≡ true → next ≡ parts ++ x ∷ [] → next ≡ cond (list_any (same_link l) all) parts (parts ++ x ∷ [])
  part_new holds pushed = by (list_any (link_impl.eq-value.it l) all) (any_found all l) (sym is ∙ holds)
    where
      by : (b : Bool) → b ≡ list_any (same_link l) all → not b ≡ true → next ≡ cond (list_any (same_link l) all) parts (parts ++ x ∷ [])
      by true e fails = absurd (cc fails)
      by false e fails = pushed ∙ ap (λ (b : Bool). cond b parts (parts ++ x ∷ [])) e

  pub part_old : added ≡ false → next ≡ parts → next ≡ cond (list_any (same_link l) all) parts (parts ++ x ∷ [])
  part_old fails kept = by (list_any (link_impl.eq-value.it l) all) (any_found all l) (sym is ∙ fails)
    where
      by : (b : Bool) → b ≡ list_any (same_link l) all → not b ≡ false → next ≡ cond (list_any (same_link l) all) parts (parts ++ x ∷ [])
      by true e holds = kept ∙ ap (λ (b : Bool). cond b parts (parts ++ x ∷ [])) e
      by false e holds = absurd (cc holds)
