-- What is known of a description is determined.
use Rattle.std.proofs.Common.{◌≡◌, ◌↔◌, ℕ, Bool, true, false, Option, None, Some, refl, sym, subst}
use Rattle.std.proofs.Math.Path.{fun_ext}
use Rattle.lisa_tree.specs.Descriptions.{DescriptionTree}
use Rattle.description_types.specs.declared.values.Trait.{Trait}
use Rattle.description_types.specs.declared.values.Trait.TheVariants as which
use Rattle.description_types.specs.declared.values.Traits.{Traits}
use Rattle.description_types.specs.declared.values.TypeOf.{TypeOf}
use Rattle.description_types.specs.declared.values.Assignable.{Assignable}
use Rattle.description_types.specs.Facts.{Fact}
use Rattle.description_types.specs.Kinds.{type_fact, assignable_fact}
use Rattle.description_types.specs.Uses.{holds}
use Rattle.description_types.specs.Tables.{AreValues, AreTraits, AreTypes, AreAssignables, apart, unfit, IsTypeless, IsUnassignable, DifferInType, DifferInAssigning, IsSettled, Known, AreKinds}

pub same_option : {T : Type 0} (x y : Option T) → ((t : T) → x ≡ Some t → y ≡ Some t) → ((t : T) → y ≡ Some t → x ≡ Some t) → x ≡ y
same_option None None f g = refl
same_option None (Some t) f g = g t refl
same_option (Some t) y f g = sym (f t refl)

same_mark : {P : Type 0} (x y : Bool) → ((x ≡ true) ↔ P) → ((y ≡ true) ↔ P) → x ≡ y
same_mark true y f g = sym (g.1 (f.0 refl))
same_mark false true f g = f.1 (g.0 refl)
same_mark false false f g = refl

one_table : {T : Type 0} (d : DescriptionTree) (fact : Fact T) (known other : ℕ → Option T) → AreValues d fact known → AreValues d fact other → known ≡ other
one_table d fact known other w v = fun_ext (λ a. same_option (known a) (other a) (λ t e. (v a t).1 ((w a t).0 e)) (λ t e. (w a t).1 ((v a t).0 e)))

one_marks : (P : ℕ → Type 0) (known other : ℕ → Bool) → ((i : ℕ) → (known i ≡ true) ↔ P i) → ((i : ℕ) → (other i ≡ true) ↔ P i) → known ≡ other
one_marks P known other w v = fun_ext (λ i. same_mark (known i) (other i) (w i) (v i))

-- ---- traits

same_traits : (s t : Traits) → ((q : Trait) → holds q s ≡ holds q t) → s ≡ t
same_traits s t each = λ i. record {
  label = each which.Label i;
  child = each which.Child i;
  staged = each which.Staged i;
  rooted = each which.Rooted i;
  uncoded = each which.Uncoded i;
  misplaced = each which.Misplaced i;
  instructions = each which.Instructions i;
  listed_staged = each which.ListedStaged i;
  listed_rooted = each which.ListedRooted i;
}

one_traits : (d : DescriptionTree) (known other : ℕ → Traits) → AreTraits d known → AreTraits d other → known ≡ other
one_traits d known other w v = fun_ext (λ i. same_traits (known i) (other i) (λ q. same_mark (holds q (known i)) (holds q (other i)) (w q i) (v q i)))

-- ---- all of it

pub one_known : (d : DescriptionTree) (known other : Known) → AreKinds d known → AreKinds d other → known ≡ other
one_known d known other w v =
    let traits = one_traits d known.traits other.traits w.traits v.traits in
    let types = one_table d (type_fact d (apart known.traits)) known.types other.types w.types (subst (λ (t : ℕ → Traits). AreTypes d t other.types) (sym traits) v.types) in
    let typeless = one_marks (IsTypeless d known.types) known.typeless other.typeless w.typeless
    (subst (λ (t : ℕ → Option TypeOf). (i : ℕ) → (other.typeless i ≡ true) ↔ IsTypeless d t i) (sym types) v.typeless) in
    let types_differ = one_marks (λ i. IsSettled d known.types i × DifferInType d known.types i) known.types_differ other.types_differ w.types_differ
    (subst (λ (t : ℕ → Option TypeOf). (i : ℕ) → (other.types_differ i ≡ true) ↔ (IsSettled d t i × DifferInType d t i)) (sym types) v.types_differ) in
    let of_other : AreAssignables d known.traits known.typeless other.assignables =
    subst (λ (m : ℕ → Bool). AreAssignables d known.traits m other.assignables) (sym typeless) (subst (λ (t : ℕ → Traits). AreAssignables d t other.typeless other.assignables) (sym traits) v.assignables) in
    let assignables = one_table d (assignable_fact d (apart known.traits) (unfit known.traits known.typeless)) known.assignables other.assignables w.assignables of_other in
    let unassignable = one_marks (IsUnassignable d known.assignables) known.unassignable other.unassignable w.unassignable
    (subst (λ (t : ℕ → Option Assignable). (i : ℕ) → (other.unassignable i ≡ true) ↔ IsUnassignable d t i) (sym assignables) v.unassignable) in
    let assignables_differ = one_marks (λ i. IsSettled d known.assignables i × DifferInAssigning d known.assignables i) known.assignables_differ other.assignables_differ w.assignables_differ
    (subst (λ (t : ℕ → Option Assignable). (i : ℕ) → (other.assignables_differ i ≡ true) ↔ (IsSettled d t i × DifferInAssigning d t i)) (sym assignables) v.assignables_differ) in
    λ i. record {
      types = types i;
      assignables = assignables i;
      traits = traits i;
      typeless = typeless i;
      unassignable = unassignable i;
      types_differ = types_differ i;
      assignables_differ = assignables_differ i;
    }
