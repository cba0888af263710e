-- One more resource with its value.
use Rattle.std.proofs.Common.{◌≡◌, ◌∙◌, ◌++◌, ◌⊎◌, ⊎_elim, ℕ, List, [], ◌∷◌, map, refl, sym, ap, ap₂, Option, None, Some, append_assoc, append-nil}
use Rattle.std.specs.Prelude.{filter_map, zip}
use Rattle.std.specs.List.{cons_option}
use Rattle.lisa_tree.specs.declared.descriptions.Resource.{Resource}
use Rattle.lisa_tree.specs.Descriptions.{resource_tree}
use Rattle.typed_values.specs.declared.values.Value.{Value}
use Rattle.typed_values.specs.Words.{typed_word}
use Rattle.machine_parts.specs.Parts.{register_bits}

-- the bits that are left to list
abbrev pub left : List Resource → List Value → List ℕ
left rs vs = filter_map register_bits (zip (map resource_tree rs) (map typed_word vs))

one_left : (rs rest : List Resource) (vs others : List Value) (r : Resource) (v : Value) → rs ≡ r ∷ rest → vs ≡ v ∷ others → left rs vs ≡ cons_option (register_bits (resource_tree r, typed_word v)) (left rest others)
one_left rs rest vs others r v is are = ap₂ left is are

pub listed_more : (all new whole : List ℕ) (rs rest : List Resource) (vs others : List Value) (r : Resource) (v : Value) (bits : ℕ) → rs ≡ r ∷ rest → vs ≡ v ∷ others → register_bits (resource_tree r, typed_word v) ≡ Some bits
    → new ≡ all ++ bits ∷ [] → all ++ left rs vs ≡ whole → new ++ left rest others ≡ whole
listed_more all new whole rs rest vs others r v bits is are has pushed so_far =
    let one : left rs vs ≡ bits ∷ left rest others = one_left rs rest vs others r v is are ∙ ap (λ (found : Option ℕ). cons_option found (left rest others)) has in
    ap (λ (l : List ℕ). l ++ left rest others) pushed ∙ append_assoc all (bits ∷ []) (left rest others) ∙ sym (ap (λ (l : List ℕ). all ++ l) one) ∙ so_far

pub passed_over : (all whole : List ℕ) (rs rest : List Resource) (vs others : List Value) (r : Resource) (v : Value) → rs ≡ r ∷ rest → vs ≡ v ∷ others → register_bits (resource_tree r, typed_word v) ≡ None
    → all ++ left rs vs ≡ whole → all ++ left rest others ≡ whole
passed_over all whole rs rest vs others r v is are none so_far =
    let one : left rs vs ≡ left rest others = one_left rs rest vs others r v is are ∙ ap (λ (found : Option ℕ). cons_option found (left rest others)) none in
    sym (ap (λ (l : List ℕ). all ++ l) one) ∙ so_far

none_right : (rs : List Resource) → left rs [] ≡ []
none_right [] = refl
none_right (r ∷ rs) = refl

none_left : (rs : List Resource) (vs : List Value) → (rs ≡ []) ⊎ (vs ≡ []) → left rs vs ≡ []
none_left rs vs ended = ⊎_elim (λ e. ap (λ (l : List Resource). left l vs) e) (λ e. ap (λ (l : List Value). left rs l) e ∙ none_right rs) ended

pub listed_all : (all whole : List ℕ) (rs : List Resource) (vs : List Value) → (rs ≡ []) ⊎ (vs ≡ []) → all ++ left rs vs ≡ whole → all ≡ whole
listed_all all whole rs vs ended so_far = sym (append-nil all) ∙ sym (ap (λ (l : List ℕ). all ++ l) (none_left rs vs ended)) ∙ so_far
