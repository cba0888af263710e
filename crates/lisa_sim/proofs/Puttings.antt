-- Items that are put into a store, one after the other.
use Rattle.std.proofs.Common.{◌≡◌, ◌+◌, ℕ, zero, suc, List, [], ◌∷◌, Some, length, map, get_or, refl, sym, ap, ◌∙◌, subst, arith}
use Rattle.std.specs.Prelude.{slice_get}
use Rattle.std.proofs.lemmas.Option.{same_Some}
use Rattle.item_layouts.specs.declared.place.ItemPlace.{ItemPlace}
use Rattle.item_layouts.specs.declared.place.ItemPlace.TheVariants.{Register, Field, Word, Bit}
use Rattle.item_layouts.specs.Layouts.{ItemValues, value_at}
use Rattle.activation_plans.specs.lisa_meaning.Moments.{Contents}
use Rattle.behavior_runs.specs.moment_stores.Changes.{with_cells}
use Rattle.pipeline_states.specs.Putting.{IsPut}
use Rattle.lisa_sim.specs.Holding.{with_item}
use Rattle.pipeline_states.proofs.Putting.{none_put, put_register, put_field, put_none}

pub at_map : {X : Type 0} (f : X → ℕ) (xs : List X) (i : ℕ) (x : X) → slice_get xs i ≡ Some x → get_or (map f xs) i 0 ≡ f x
at_map f [] i x e = absurd (cc e)
at_map f (y ∷ ys) zero x e = ap f (same_Some y x e)
at_map f (y ∷ ys) (suc i) x e = at_map f ys i x e

-- the items are the values at their places
abbrev pub AreAt : List ItemPlace → List ℕ → ItemValues → Type 0
AreAt places items v = items ≡ map (value_at v) places

-- so far all were put
abbrev pub PutTo : List ItemPlace → List ℕ → ℕ → Contents → Contents → Type 0
PutTo places items count old new = (v : ItemValues) → AreAt places items v → IsPut places v count old new

module _ (places : List ItemPlace) (items : List ℕ) (i : ℕ) (old now : Contents) (put : PutTo places items i old now) where
  next_put : (p : ItemPlace) → slice_get places i ≡ Some p → (v : ItemValues) → AreAt places items v → IsPut places v (suc i) old (with_item p (get_or items i 0) now)
  next_put (Register k) at v are = put_register places v i old now (put v are) k (get_or items i 0) at (ap (λ (xs : List ℕ). get_or xs i 0) are ∙ at_map (value_at v) places i (Register k) at)
  next_put (Field s f) at v are = put_field places v i old now (put v are) s f (get_or items i 0) at (ap (λ (xs : List ℕ). get_or xs i 0) are ∙ at_map (value_at v) places i (Field s f) at)
  next_put (Word s) at v are = put_none places v i old now (put v are) (Word s) at (λ k e. cc e) (λ t f e. cc e)
  next_put (Bit s k) at v are = put_none places v i old now (put v are) (Bit s k) at (λ j e. cc e) (λ t f e. cc e)

  pub item_put : (p : ItemPlace) (bits : ℕ) (new : Contents) → slice_get places i ≡ Some p → bits ≡ get_or items i 0 → new ≡ with_item p bits now → PutTo places items (i + 1) old new
  item_put p bits new at value is v are =
      let same : suc i ≡ i + 1 = omega arith in
      let put : new ≡ with_item p (get_or items i 0) now = is ∙ ap (λ (n : ℕ). with_item p n now) value in
      subst (λ (n : ℕ). IsPut places v n old new) same
      (subst (λ (c : Contents). IsPut places v (suc i) old c) (sym put) (next_put p at v are))

pub none_put_to : (places : List ItemPlace) (items : List ℕ) (old : Contents) → PutTo places items 0 old old
none_put_to places items old v are = none_put places v old

pub all_put : (places : List ItemPlace) (items : List ℕ) (count : ℕ) (old new : Contents) → count ≡ length places → PutTo places items count old new → PutTo places items (length places) old new
all_put places items count old new e put = subst (λ (n : ℕ). PutTo places items n old new) e put

-- touches put back change cells alone
pub cells_put : (places : List ItemPlace) (v : ItemValues) (count : ℕ) (old now new : Contents) (cells : List (List ℕ)) → IsPut places v count old now → new ≡ with_cells cells now → IsPut places v count old (with_cells old.cells new)
cells_put places v count old now new cells put is =
    subst (λ (c : Contents). IsPut places v count old (with_cells old.cells c)) (sym is) (record {
      registers = put.registers;
      registers_are = put.registers_are;
      fields = put.fields;
      fields_are = put.fields_are;
      cells = refl;
    })
