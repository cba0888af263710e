-- A tree is its form with its values, and each form with values is one tree.
use Rattle.std.proofs.Common.{◌≡◌, ℕ, zero, suc, ◌+◌, List, [], ◌∷◌, ◌++◌, length, map, refl, sym, ap, ap₂, ◌∙◌, arith}
use Rattle.std.proofs.lemmas.List.{length-append, length-map, map-append}
use Rattle.instruction_trees.specs.Trees.{Tree, Done, Pass, Value, Choose, relabel, Form, form}
use Rattle.instruction_trees.proofs.Relabelled.{owns_relabel, numbered_relabel}
use Rattle.instruction_trees.specs.Values.{own_values, inner_values, values, owns, inners, numbered, filled, upto}

upto_append : (a m n : ℕ) → upto a (m + n) ≡ upto a m ++ upto (a + m) n
upto_append a zero n = ap₂ upto (omega arith) (omega arith)
upto_append a (suc m) n = let e : suc m + n ≡ suc (m + n) = omega arith in ap (upto a) e ∙ ap (λ (l : List ℕ). a ∷ l) (upto_append (suc a) m n ∙ ap (λ (k : ℕ). upto (suc a) m ++ upto k n) (omega arith))

split_same : {A : Type 0} (xs us ys vs : List A) → length xs ≡ length us → xs ++ ys ≡ us ++ vs → (xs ≡ us) × (ys ≡ vs)
split_same [] [] ys vs l e = (refl, e)
split_same [] (u ∷ us) ys vs l e = absurd cc
split_same (x ∷ xs) [] ys vs l e = absurd cc
split_same {A = A} (x ∷ xs) (u ∷ us) ys vs l e = let tails : xs ++ ys ≡ us ++ vs = cc in let heads : x ≡ u = cc in let t = split_same xs us ys vs (cc) tails in (ap₂ (λ (y : A) (l : List A). y ∷ l) heads t.0, t.1)

length-upto : (a n : ℕ) → length (upto a n) ≡ n
length-upto a zero = refl
length-upto a (suc n) = ap suc (length-upto (suc a) n)

module _ {V : Type 0} where
  pub owns_is : (t : Tree V) → length (own_values t) ≡ owns t
  owns_is Done = refl
  owns_is (Pass t) = owns_is t
  owns_is (Value v t) = ap suc (owns_is t)
  owns_is (Choose k own t) = owns_is t

  pub inners_is : (t : Tree V) → length (inner_values t) ≡ inners t
  inners_is Done = refl
  inners_is (Pass t) = inners_is t
  inners_is (Value v t) = inners_is t
  inners_is (Choose k own t) =
      length-append (own_values own ++ inner_values own) (inner_values t)
      ∙ ap₂ (λ (x y : ℕ). x + y) (length-append (own_values own) (inner_values own) ∙ ap₂ (λ (x y : ℕ). x + y) (owns_is own) (inners_is own)) (inners_is t)

  -- what is numbered so has its own values back
  pub back : (f : ℕ → V) (a b : ℕ) (t : Tree V) → map f (upto a (owns t)) ≡ own_values t → map f (upto b (inners t)) ≡ inner_values t → relabel f (numbered a b t) ≡ t
  back f a b Done h k = refl
  back f a b (Pass t) h k = ap (λ (u : Tree V). Pass u) (back f a b t h k)
  back f a b (Value v t) h k = let head : f a ≡ v = cc in let tail : map f (upto (suc a) (owns t)) ≡ own_values t = cc in ap₂ (λ (x : V) (u : Tree V). Value x u) head (back f (suc a) b t tail k)
  back f a b (Choose c own t) h k =
      let n = owns own + inners own in
      let cut : map f (upto b n) ++ map f (upto (b + n) (inners t)) ≡ (own_values own ++ inner_values own) ++ inner_values t = sym (map-append f (upto b n) (upto (b + n) (inners t))) ∙ sym (ap (map f) (upto_append b n (inners t))) ∙ k in
      let sizes : length (map f (upto b n)) ≡ length (own_values own ++ inner_values own) = length-map (upto b n) f ∙ length-upto b n ∙ sym (length-append (own_values own) (inner_values own) ∙ ap₂ (λ (x y : ℕ). x + y) (owns_is own) (inners_is own)) in
      let s = split_same (map f (upto b n)) (own_values own ++ inner_values own) (map f (upto (b + n) (inners t))) (inner_values t) sizes cut in
      let cut' : map f (upto b (owns own)) ++ map f (upto (b + owns own) (inners own)) ≡ own_values own ++ inner_values own = sym (map-append f (upto b (owns own)) (upto (b + owns own) (inners own))) ∙ sym (ap (map f) (upto_append b (owns own) (inners own))) ∙ s.0 in
      let r = split_same (map f (upto b (owns own))) (own_values own) (map f (upto (b + owns own) (inners own))) (inner_values own) (length-map (upto b (owns own)) f ∙ length-upto b (owns own) ∙ sym (owns_is own)) cut' in
      ap₂ (λ (x y : Tree V). Choose c x y) (back f b (b + owns own) own r.0 r.1) (back f a (b + n) t h s.1)

  -- and its numbers are in order
  pub own_numbers : (a b : ℕ) (t : Tree V) → own_values (numbered a b t) ≡ upto a (owns t)
  own_numbers a b Done = refl
  own_numbers a b (Pass t) = own_numbers a b t
  own_numbers a b (Value v t) = ap (λ (l : List ℕ). a ∷ l) (own_numbers (suc a) b t)
  own_numbers a b (Choose c own t) = own_numbers a (b + (owns own + inners own)) t

  pub inner_numbers : (a b : ℕ) (t : Tree V) → inner_values (numbered a b t) ≡ upto b (inners t)
  inner_numbers a b Done = refl
  inner_numbers a b (Pass t) = inner_numbers a b t
  inner_numbers a b (Value v t) = inner_numbers (suc a) b t
  inner_numbers a b (Choose c own t) =
      ap₂ (λ (x y : List ℕ). x ++ y) (ap₂ (λ (x y : List ℕ). x ++ y) (own_numbers b (b + owns own) own) (inner_numbers b (b + owns own) own) ∙ sym (upto_append b (owns own) (inners own))) (inner_numbers a (b + (owns own + inners own)) t)
      ∙ sym (upto_append b (owns own + inners own) (inners t))

  pub all_numbers : (t : Tree V) → values (numbered 0 (owns t) t) ≡ upto 0 (owns t + inners t)
  all_numbers t = ap₂ (λ (x y : List ℕ). x ++ y) (own_numbers 0 (owns t) t) (inner_numbers 0 (owns t) t) ∙ ap (λ (k : ℕ). upto 0 (owns t) ++ upto k (inners t)) (omega arith) ∙ sym (upto_append 0 (owns t) (inners t))

  -- a tree is its form with its values
  pub tree_is : (f : ℕ → V) (t : Tree V) → map f (upto 0 (owns t + inners t)) ≡ values t → filled f t ≡ t
  tree_is f t e =
      let cut : map f (upto 0 (owns t)) ++ map f (upto (owns t) (inners t)) ≡ own_values t ++ inner_values t =
      ap (λ (k : ℕ). map f (upto 0 (owns t)) ++ map f (upto k (inners t))) (omega arith) ∙ sym (map-append f (upto 0 (owns t)) (upto (0 + owns t) (inners t))) ∙ sym (ap (map f) (upto_append 0 (owns t) (inners t))) ∙ e in
      let r = split_same (map f (upto 0 (owns t))) (own_values t) (map f (upto (owns t) (inners t))) (inner_values t) (length-map (upto 0 (owns t)) f ∙ length-upto 0 (owns t) ∙ sym (owns_is t)) cut in
      back f 0 (owns t) t r.0 r.1

module _ {V U : Type 0} (f : V → U) where
  pub own_relabel : (t : Tree V) → own_values (relabel f t) ≡ map f (own_values t)
  own_relabel Done = refl
  own_relabel (Pass t) = own_relabel t
  own_relabel (Value v t) = ap (λ (l : List U). f v ∷ l) (own_relabel t)
  own_relabel (Choose c own t) = own_relabel t

  pub inner_relabel : (t : Tree V) → inner_values (relabel f t) ≡ map f (inner_values t)
  inner_relabel Done = refl
  inner_relabel (Pass t) = inner_relabel t
  inner_relabel (Value v t) = inner_relabel t
  inner_relabel (Choose c own t) =
      ap₂ (λ (x y : List U). x ++ y) (ap₂ (λ (x y : List U). x ++ y) (own_relabel own) (inner_relabel own) ∙ sym (map-append f (own_values own) (inner_values own))) (inner_relabel t)
      ∙ sym (map-append f (own_values own ++ inner_values own) (inner_values t))

  pub values_relabel : (t : Tree V) → values (relabel f t) ≡ map f (values t)
  values_relabel t = ap₂ (λ (x y : List U). x ++ y) (own_relabel t) (inner_relabel t) ∙ sym (map-append f (own_values t) (inner_values t))

  pub form_relabel : (t : Tree V) → form (relabel f t) ≡ form t
  form_relabel Done = refl
  form_relabel (Pass t) = ap (λ (u : Form). Pass u) (form_relabel t)
  form_relabel (Value v t) = ap (λ (u : Form). Value tt u) (form_relabel t)
  form_relabel (Choose c own t) = ap₂ (λ (x y : Form). Choose c x y) (form_relabel own) (form_relabel t)

module _ {U : Type 0} where
  pub form_numbered : (a b : ℕ) (t : Tree U) → form (numbered a b t) ≡ form t
  form_numbered a b Done = refl
  form_numbered a b (Pass t) = ap (λ (u : Form). Pass u) (form_numbered a b t)
  form_numbered a b (Value v t) = ap (λ (u : Form). Value tt u) (form_numbered (suc a) b t)
  form_numbered a b (Choose c own t) = ap₂ (λ (x y : Form). Choose c x y) (form_numbered b (b + owns own) own) (form_numbered a (b + (owns own + inners own)) t)

-- a form with values is a tree of that form with these values
pub filled_form : {V U : Type 0} (f : ℕ → V) (t : Tree U) → form (filled f t) ≡ form t
filled_form f t = form_relabel f (numbered 0 (owns t) t) ∙ form_numbered 0 (owns t) t

pub filled_values : {V U : Type 0} (f : ℕ → V) (t : Tree U) → values (filled f t) ≡ map f (upto 0 (owns t + inners t))
filled_values f t = values_relabel f (numbered 0 (owns t) t) ∙ ap (map f) (all_numbers t)

-- the same of a tree's form
pub tree_of_form : (f : ℕ → ℕ) (t : Tree ℕ) → map f (upto 0 (owns t + inners t)) ≡ values t → filled f (form t) ≡ t
tree_of_form f t e =
    let n : numbered 0 (owns (form t)) (form t) ≡ numbered 0 (owns t) t = ap (λ (k : ℕ). numbered 0 k (form t)) (owns_relabel (λ _. tt) t) ∙ numbered_relabel (λ _. tt) 0 (owns t) t in
    ap (relabel f) n ∙ tree_is f t e

pub values_count : (t : Tree ℕ) → length (values t) ≡ owns t + inners t
values_count t = length-append (own_values t) (inner_values t) ∙ ap₂ (λ (x y : ℕ). x + y) (owns_is t) (inners_is t)
