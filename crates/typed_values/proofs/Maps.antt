-- Locals and registers as plain ones.
use Rattle.std.proofs.Common.{◌≡◌, ◌<◌, ◌∙◌, ℕ, zero, suc, Bool, true, false, List, [], ◌∷◌, Some, map, length, take, cond, option_map, refl, ap, sym}
use Rattle.std.specs.Prelude.{nat_eq, slice_set, slice_index_or}
use Rattle.std.specs.Map.{lookup}
use Rattle.std.specs.Cmp.Lexicographic.{pointwise}
use Rattle.name_tables.specs.NamedValues.{with_value}
use Rattle.lisa_words.specs.declared.words.Kind.{Kind}
use Rattle.typed_values.specs.declared.values.Value.{Value}
use Rattle.typed_values.specs.Words.{TypedWord, typed_word, truth}
use Rattle.std.proofs.lemmas.List.{map-set, get_or-map}
use Rattle.typed_values.specs.Effects.{like}

abbrev pub plain : List ℕ × Value → List ℕ × TypedWord
plain e = (e.0, typed_word e.1)

pub looked_up : (test : List ℕ → Bool) (es : List (List ℕ × Value)) → option_map typed_word (lookup test es) ≡ lookup test (map plain es)
looked_up test [] = refl
looked_up test (e ∷ es) = elim (test e.0) as (λ b. option_map typed_word (cond b (Some e.1) (lookup test es)) ≡ cond b (Some (typed_word e.1)) (lookup test (map plain es))) [
  | true ↦ refl
  | false ↦ looked_up test es
]

pub inserted : (es : List (List ℕ × Value)) (n : List ℕ) (v : Value) → map plain (with_value es n v) ≡ with_value (map plain es) n (typed_word v)
inserted [] n v = refl
inserted (e ∷ es) n v = elim (pointwise nat_eq n e.0) as (λ b. map plain (cond b ((e.0, v) ∷ es) (e ∷ with_value es n v)) ≡ cond b ((e.0, typed_word v) ∷ map plain es) (plain e ∷ with_value (map plain es) n (typed_word v))) [
  | true ↦ refl
  | false ↦ ap (λ (l : List (List ℕ × TypedWord)). plain e ∷ l) (inserted es n v)
]

pub taken : (count : ℕ) (es : List (List ℕ × Value)) → map plain (take count es) ≡ take count (map plain es)
taken zero es = refl
taken (suc count) [] = refl
taken (suc count) (e ∷ es) = ap (λ (l : List (List ℕ × TypedWord)). plain e ∷ l) (taken count es)

pub replaced : (xs : List Value) (k : ℕ) (old new : Value) (given : Kind → TypedWord) → k < length xs → old ≡ slice_index_or xs k old → typed_word new ≡ like (typed_word old) given
    → map typed_word (slice_set xs k new) ≡ slice_set (map typed_word xs) k (like (slice_index_or (map typed_word xs) k (truth false)) given)
replaced xs k old new given h is e =
    let read : typed_word old ≡ slice_index_or (map typed_word xs) k (truth false) = ap typed_word is ∙ sym (get_or-map typed_word xs k old (truth false) h) in
    map-set typed_word xs k new ∙ ap (λ (w : TypedWord). slice_set (map typed_word xs) k w) (e ∙ ap (λ (w : TypedWord). like w given) read)
