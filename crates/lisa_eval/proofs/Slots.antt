-- The slot of a local has its value.
use Rattle.std.proofs.Common.{◌≡◌, ℕ, suc, Bool, true, false, cond, List, [], ◌∷◌, Option, None, Some, length, map, take, MatchOption, refl, sym, ap, subst}
use Rattle.std.specs.Prelude.{option_map}
use Rattle.std.specs.Map.{lookup}
use Rattle.lisa_tree.specs.Same.{same_name}
use Rattle.description_places.specs.Scopes.{Scope}
use Rattle.typed_values.specs.Words.{TypedWord}
use Rattle.typed_values.specs.Effects.{Locals}
use Rattle.behavior_plans.specs.Holdings.{word_at}
use Rattle.lisa_eval.specs.Resolving.{local_slot}
use Rattle.lisa_eval.specs.Holding.{HoldsLocals}

-- what is found is in the slot
abbrev pub IsSlotOf : List TypedWord → Option TypedWord → Option ℕ → Type 0
IsSlotOf slots found slot = MatchOption slot (found ≡ None) (λ s. found ≡ Some (word_at slots s))

one_more : (w : TypedWord) (ws : List TypedWord) (found : Option TypedWord) (slot : Option ℕ) → IsSlotOf ws found slot → IsSlotOf (w ∷ ws) found (option_map (λ (s : ℕ). suc s) slot)
one_more w ws found None is = is
one_more w ws found (Some s) is = is

in_slots : (n : List ℕ) (scope : Scope) (locals : Locals) (slots : List TypedWord) → map (λ local. local.0) locals ≡ map (λ entry. entry.0) scope → take (length locals) slots ≡ map (λ local. local.1) locals
    → IsSlotOf slots (lookup (same_name n) locals) (local_slot n scope)
in_slots n [] [] slots names values = refl
in_slots n [] (v ∷ vs) slots names values = absurd (cc names)
in_slots n (x ∷ xs) [] slots names values = absurd (cc names)
in_slots n (x ∷ xs) (v ∷ vs) [] names values = absurd (cc values)
in_slots n (x ∷ xs) (v ∷ vs) (w ∷ ws) names values =
    let name : v.0 ≡ x.0 = cc names in
    let held : w ≡ v.1 = cc values in
    let rest = in_slots n xs vs ws (cc names) (cc values) in
    subst (λ (name : List ℕ). IsSlotOf (w ∷ ws) (lookup (same_name n) (v ∷ vs)) (cond (same_name n name) (Some 0) (option_map (λ (s : ℕ). suc s) (local_slot n xs)))) name
    (by (same_name n v.0) held rest)
  where
    by : (b : Bool) → w ≡ v.1 → IsSlotOf ws (lookup (same_name n) vs) (local_slot n xs)
        → IsSlotOf (w ∷ ws) (cond b (Some v.1) (lookup (same_name n) vs)) (cond b (Some 0) (option_map (λ (s : ℕ). suc s) (local_slot n xs)))
    by true held rest = ap (λ (x : TypedWord). Some x) (sym held)
    by false held rest = one_more w ws (lookup (same_name n) vs) (local_slot n xs) rest

pub slot_has : (n : List ℕ) (scope : Scope) (locals : Locals) (slots : List TypedWord) → HoldsLocals scope locals slots → IsSlotOf slots (lookup (same_name n) locals) (local_slot n scope)
slot_has n scope locals slots holds = in_slots n scope locals slots holds.names holds.values
