-- The first of some texts that two runs share is one that both accept, and there is one where they share any.
use Rattle.std.proofs.Common.{◌≡◌, ℕ, Bool, true, false, cond, List, [], ◌∷◌, ◌++◌, Option, Some, None, refl, sym, ap, ◌∙◌, subst}
use Rattle.std.specs.Prelude.{is_some}
use Rattle.std.specs.List.{find}
use Rattle.std.proofs.lemmas.Bool.{and_parts}
use Rattle.instruction_texts.specs.declared.shapes.Token.TheVariants.{Word}
use Rattle.instruction_texts.specs.declared.places.Run.{Run}
use Rattle.instruction_texts.specs.Leads.{lead_of, accepts_run, both_accept, run_tries, shared_run}
use Rattle.instruction_texts.specs.Moves.{RunOf, IsCommon}
use Rattle.instruction_texts.proofs.CommonRuns.{find_is, run_common}

module _ (f : List ℕ → Bool) where
  pub first_found : (x : List ℕ) (ys : List (List ℕ)) (t : List ℕ) → Some t ≡ cond (f x) (Some x) None → Some t ≡ find f (x ∷ ys)
  first_found x ys t e = go (f x) e where
    go : (b : Bool) → Some t ≡ cond b (Some x) None → Some t ≡ cond b (Some x) (find f ys)
    go true h = h
    go false h = absurd cc

  pub next_found : (x : List ℕ) (ys : List (List ℕ)) (o : Option (List ℕ)) → None ≡ cond (f x) (Some x) None → o ≡ find f ys → o ≡ find f (x ∷ ys)
  next_found x ys o e k = go (f x) e where
    go : (b : Bool) → None ≡ cond b (Some x) None → o ≡ cond b (Some x) (find f ys)
    go true h = absurd cc
    go false h = k

  pub found_left : (xs ys : List (List ℕ)) (t : List ℕ) → Some t ≡ find f xs → Some t ≡ find f (xs ++ ys)
  found_left [] ys t e = absurd cc
  found_left (x ∷ xs) ys t e = go (f x) e (found_left xs ys t) where
    go : (b : Bool) → Some t ≡ cond b (Some x) (find f xs) → (Some t ≡ find f xs → Some t ≡ find f (xs ++ ys)) → Some t ≡ cond b (Some x) (find f (xs ++ ys))
    go true h below = h
    go false h below = below h

  pub found_right : (xs ys : List (List ℕ)) → None ≡ find f xs → find f ys ≡ find f (xs ++ ys)
  found_right [] ys e = refl
  found_right (x ∷ xs) ys e = go (f x) e (found_right xs ys) where
    go : (b : Bool) → None ≡ cond b (Some x) (find f xs) → (None ≡ find f xs → find f ys ≡ find f (xs ++ ys)) → find f ys ≡ cond b (Some x) (find f (xs ++ ys))
    go true h below = absurd cc
    go false h below = below h

pub shared_is : (r s : Run) (t : List ℕ) → Some t ≡ shared_run r s → IsCommon (RunOf r.prefix.now r.ending) (RunOf s.prefix.now s.ending) (Some (Word t))
shared_is r s t e =
    let h = and_parts (accepts_run r t) (accepts_run s t) (find_is (both_accept r s) (run_tries r ++ run_tries s) t (sym e)) in
    ((t, refl, h.0), (t, refl, h.1))

pub none_shared : (r s : Run) → None ≡ shared_run r s → IsCommon (RunOf r.prefix.now r.ending) (RunOf s.prefix.now s.ending) None
none_shared r s e t a b =
    let same : a.0 ≡ b.0 = (let both : Word a.0 ≡ Word b.0 = sym a.1 ∙ b.1 in cc) in
    let some : is_some (shared_run r s) ≡ true = run_common (lead_of r.ending r.prefix.now) r.ending (lead_of s.ending s.prefix.now) s.ending a.0 a.2 (subst (λ (l : List ℕ). accepts_run s l ≡ true) (sym same) b.2) in
    absurd (let f : is_some {T = List ℕ} None ≡ true = ap (λ (o : Option (List ℕ)). is_some o) e ∙ some in cc)
