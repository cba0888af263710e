-- Names that stand again, by the set of those that were seen.
use Rattle.std.proofs.Common.{◌≡◌, ◌<◌, ◌+◌, ℕ, suc, Bool, true, false, List, [], ◌∷◌, ◌++◌, length, get_or, drop, drop-cons, Some, cond, ap, sym, ◌∙◌, add-one}
use Rattle.std.specs.List.{list_any}
use Rattle.lisa_tree.specs.declared.tokens.Shape.{Shape}
use Rattle.lisa_tree.specs.Same.{same_name}
use Rattle.name_checks.specs.Doubled.{again_in, field_names}

-- the name at an index stands again
pub again_here : (names : List (List ℕ)) (seen : List (List ℕ)) (i : ℕ) (n : List ℕ) → i < length names → n ≡ get_or names i n → list_any (same_name n) seen ≡ true → again_in seen (drop i names) ≡ Some n
again_here names seen i n h e t =
    ap (again_in seen) (drop-cons names i n h ∙ ap (λ (m : List ℕ). m ∷ drop (suc i) names) (sym e))
    ∙ ap (λ (b : Bool). cond b (Some n) (again_in (seen ++ n ∷ []) (drop (suc i) names))) t

-- it doesn't
pub again_past : (names : List (List ℕ)) (seen next : List (List ℕ)) (i : ℕ) (n : List ℕ) → i < length names → n ≡ get_or names i n → list_any (same_name n) seen ≡ false → next ≡ seen ++ n ∷ [] → again_in seen (drop i names) ≡ again_in next (drop (i + 1) names)
again_past names seen next i n h e t grown =
    ap (again_in seen) (drop-cons names i n h ∙ ap (λ (m : List ℕ). m ∷ drop (suc i) names) (sym e))
    ∙ ap (λ (b : Bool). cond b (Some n) (again_in (seen ++ n ∷ []) (drop (suc i) names))) t
    ∙ ap (λ (s : List (List ℕ)). again_in s (drop (suc i) names)) (sym grown)
    ∙ ap (λ (k : ℕ). again_in next (drop k names)) (sym (add-one i))

field_row : (fields : List (Shape × List ℕ)) (i : ℕ) (f : Shape × List ℕ) → i < length fields → f ≡ get_or fields i f → field_names (drop i fields) ≡ f.1 ∷ field_names (drop (suc i) fields)
field_row fields i f h e = ap field_names (drop-cons fields i f h ∙ ap (λ (g : Shape × List ℕ). g ∷ drop (suc i) fields) (sym e))

-- the same of fields
pub field_here : (fields : List (Shape × List ℕ)) (seen : List (List ℕ)) (i : ℕ) (f : Shape × List ℕ) → i < length fields → f ≡ get_or fields i f → list_any (same_name f.1) seen ≡ true → again_in seen (field_names (drop i fields)) ≡ Some f.1
field_here fields seen i f h e t =
    ap (again_in seen) (field_row fields i f h e)
    ∙ ap (λ (b : Bool). cond b (Some f.1) (again_in (seen ++ f.1 ∷ []) (field_names (drop (suc i) fields)))) t

pub field_past : (fields : List (Shape × List ℕ)) (seen next : List (List ℕ)) (i : ℕ) (f : Shape × List ℕ) → i < length fields → f ≡ get_or fields i f → list_any (same_name f.1) seen ≡ false → next ≡ seen ++ f.1 ∷ [] → again_in seen (field_names (drop i fields)) ≡ again_in next (field_names (drop (i + 1) fields))
field_past fields seen next i f h e t grown =
    ap (again_in seen) (field_row fields i f h e)
    ∙ ap (λ (b : Bool). cond b (Some f.1) (again_in (seen ++ f.1 ∷ []) (field_names (drop (suc i) fields)))) t
    ∙ ap (λ (s : List (List ℕ)). again_in s (field_names (drop (suc i) fields))) (sym grown)
    ∙ ap (λ (k : ℕ). again_in next (field_names (drop k fields))) (sym (add-one i))
