-- What the loop over the terms of a fix keeps.
use Rattle.std.proofs.Common.{◌≡◌, ℕ, ◌+◌, ◌<◌, List, [], ◌∷◌, ◌++◌, length, Option, Some, None, refl, sym, ap, subst, ◌∙◌, append_assoc, arith}
use Rattle.std.proofs.lemmas.List.{append-nil}
use Rattle.asm_source.specs.declared.parts.Term.{Term}
use Rattle.lisa_object.specs.declared.faults.Stop.{Stop}
use Rattle.lisa_object.specs.declared.faults.Stop.TheVariants.{Misspelled, NoMemory}
use Rattle.lisa_object.specs.Gives.{Fails}
use Rattle.lisa_object.specs.Reading.{◌>>=◌, Word}
use Rattle.lisa_object.specs.ObjectReading.{term_of, terms_of}

abbrev pub Terms : Type 0
Terms = Option (List Term)

abbrev pub terms_with : List Term → Terms → Terms
terms_with front more = more >>= λ all. Some (front ++ all)

pub begins : (r : Terms) → terms_with [] r ≡ r
begins (Some x) = refl
begins None = refl

regroup : (front : List Term) (t : Term) (r : Terms) → terms_with front (r >>= λ all. Some (t ∷ all)) ≡ terms_with (front ++ t ∷ []) r
regroup front t (Some x) = ap (λ (l : List Term). Some l) (simp append_assoc)
regroup front t None = refl

one : (w : Word) (ws : List Word) (r : Option Term) → term_of w ≡ r → terms_of (w ∷ ws) ≡ (r >>= λ t. terms_of ws >>= λ ts. Some (t ∷ ts))
unfolding terms_of
one w ws r e = ap (λ (q : Option Term). q >>= λ t. terms_of ws >>= λ ts. Some (t ∷ ts)) e

no_terms : terms_of [] ≡ Some []
unfolding terms_of
no_terms = refl

module _ (front : List Term) (left : List Word) (total : Terms) (same : terms_with front (terms_of left) ≡ total) where
  pub whole : left ≡ [] → total ≡ Some front
  whole is = sym same ∙ ap (λ (l : List Word). terms_with front (terms_of l)) is ∙ ap (terms_with front) no_terms ∙ ap (λ (l : List Term). Some l) (append-nil front)

  module _ (w : Word) (ws : List Word) (is : left ≡ w ∷ ws) where
    at_next : terms_with front (terms_of (w ∷ ws)) ≡ total
    at_next = ap (λ (l : List Word). terms_with front (terms_of l)) (sym is) ∙ same

    pub goes_on : (t : Term) → term_of w ≡ Some t → terms_with (front ++ t ∷ []) (terms_of ws) ≡ total
    goes_on t e = sym (regroup front t (terms_of ws)) ∙ ap (terms_with front) (sym (one w ws (Some t) e)) ∙ at_next

    pub fails : (e : Stop) → Fails e (term_of w) → Fails e total
    fails NoMemory h = tt
    fails (Misspelled at) h = sym at_next ∙ ap (terms_with front) (one w ws None h)
