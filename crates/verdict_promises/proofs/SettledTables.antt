-- What follows from rules that rest on each other has a table, and what is known of a description's names.
use Rattle.std.proofs.Common.{◌≡◌, ◌∙◌, ◌↔◌, ◌⊎◌, ◌<◌, ◌≤◌, ℕ, Bool, true, Option, None, Some, length, sym, ap, subst, inl, inr}
use Rattle.std.proofs.lemmas.Option.{same_Some}
use Rattle.lisa_tree.specs.Descriptions.{DescriptionTree}
use Rattle.lisa_tree.specs.Declarations.{entries}
use Rattle.lisa_tree.specs.Paths.{node_count}
use Rattle.least_fixed_points.specs.Settles.{Settles, settled, IsMonotone}
use Rattle.meant_declarations.specs.Meant.{SomeMeant}
use Rattle.description_types.specs.declared.values.TypeOf.{TypeOf}
use Rattle.description_types.specs.declared.values.Assignable.{Assignable}
use Rattle.description_types.specs.declared.values.Trait.{Trait}
use Rattle.description_types.specs.declared.values.Trait.TheVariants as which
use Rattle.description_types.specs.declared.values.Traits.{Traits}
use Rattle.description_types.specs.Facts.{Fact, IsSteady, follows}
use Rattle.description_types.specs.Larger.{follows_monotone}
use Rattle.description_types.specs.Ends.{follows_ends}
use Rattle.description_types.specs.Steady.{types_steady, assignables_steady}
use Rattle.description_types.specs.Kinds.{type_fact, assignable_fact}
use Rattle.description_types.specs.Uses.{holds, own_traits}
use Rattle.description_types.specs.Tables.{AreValues, AreMeant, AreTraits, AreTypes, AreAssignables, apart, unfit, IsTypeless, IsUnassignable, DifferInType, DifferInAssigning, IsSettled, Known, AreKinds}
use Rattle.description_types.proofs.MeantMarks.{meant_from}
use Rattle.verdict_promises.proofs.Undenied.{Undenied, surely, then, either, table, marks}
use Rattle.verdict_promises.proofs.FormFirsts.{one_value}

none_is_no_some : {T : Type 0} (t : T) → None ≡ Some t → ⊥
none_is_no_some t e = cc

-- ---- rules that rest on each other

module _ {T : Type 0} (step : (ℕ → Option T) → ℕ → Option T) (monotone : IsMonotone step) (n : ℕ) (ends : (known : ℕ → Option T) (a : ℕ) → n ≤ a → step known a ≡ None) where
  abbrev IsValue : ℕ → Option T → Type 0
  IsValue a x = (t : T) → (x ≡ Some t) ↔ Settles step a t

  with_value : (a : ℕ) (u : T) → Settles step a u → IsValue a (Some u)
  with_value a u s = λ t. ((λ e. subst (λ (z : T). Settles step a z) (same_Some u t e) s), (λ r. ap Some (one_value step monotone a u t s r)))

  without_value : (a : ℕ) → ((t : T) → Settles step a t → ⊥) → IsValue a None
  without_value a never = λ t. ((λ e. absurd (none_is_no_some t e)), (λ r. absurd (never t r)))

  none_past : (a : ℕ) → n ≤ a → (t : T) → Settles step a t → ⊥
  none_past a h t (settled known from is) = none_is_no_some t (sym (ends known a h) ∙ is)

  one : (a : ℕ) → Undenied ((x : Option T) × IsValue a x)
  one a = then (either ((t : T) × Settles step a t)) by
    where
      by : ((t : T) × Settles step a t) ⊎ (((t : T) × Settles step a t) → ⊥) → Undenied ((x : Option T) × IsValue a x)
      by (inl s) = surely (Some s.0, with_value a s.0 s.1)
      by (inr never) = surely (None, without_value a (λ t r. never (t, r)))

  pub some_table : Undenied ((known : ℕ → Option T) × ((a : ℕ) (t : T) → (known a ≡ Some t) ↔ Settles step a t))
  some_table = table IsValue None n (λ a h. without_value a (none_past a h)) (λ a h. one a)

-- ---- what is known of a description's names

module _ (d : DescriptionTree) where
  values : {T : Type 0} (fact : Fact T) → IsSteady fact → Undenied ((known : ℕ → Option T) × AreValues d fact known)
  values fact steady = some_table (follows d fact) (follows_monotone d fact steady) (node_count d) (follows_ends d fact)

  meant : (P : ℕ → Type 0) → Undenied ((m : ℕ → Bool) × AreMeant d P m)
  meant P = marks (SomeMeant d P) (length (entries d)) (λ i x. meant_from d x.1.0)

  -- ---- traits

  abbrev Has : Trait → (ℕ → Bool) → Type 0
  Has q m = AreMeant d (λ j. holds q (own_traits d j) ≡ true) m

  abbrev traits_of : (label child staged rooted uncoded misplaced instructions listed_staged listed_rooted : ℕ → Bool) → ℕ → Traits
  traits_of label child staged rooted uncoded misplaced instructions listed_staged listed_rooted i = record {
    label = label i;
    child = child i;
    staged = staged i;
    rooted = rooted i;
    uncoded = uncoded i;
    misplaced = misplaced i;
    instructions = instructions i;
    listed_staged = listed_staged i;
    listed_rooted = listed_rooted i;
  }

  all_traits : (l c s r u m i t o : ℕ → Bool) → Has which.Label l → Has which.Child c → Has which.Staged s → Has which.Rooted r → Has which.Uncoded u → Has which.Misplaced m → Has which.Instructions i
      → Has which.ListedStaged t → Has which.ListedRooted o → AreTraits d (traits_of l c s r u m i t o)
  all_traits l c s r u m i t o a b e f g h j k n which.Label = a
  all_traits l c s r u m i t o a b e f g h j k n which.Child = b
  all_traits l c s r u m i t o a b e f g h j k n which.Staged = e
  all_traits l c s r u m i t o a b e f g h j k n which.Rooted = f
  all_traits l c s r u m i t o a b e f g h j k n which.Uncoded = g
  all_traits l c s r u m i t o a b e f g h j k n which.Misplaced = h
  all_traits l c s r u m i t o a b e f g h j k n which.Instructions = j
  all_traits l c s r u m i t o a b e f g h j k n which.ListedStaged = k
  all_traits l c s r u m i t o a b e f g h j k n which.ListedRooted = n

  trait : (q : Trait) → Undenied ((m : ℕ → Bool) × Has q m)
  trait q = meant (λ j. holds q (own_traits d j) ≡ true)

  some_traits : Undenied ((traits : ℕ → Traits) × AreTraits d traits)
  some_traits =
      then (trait which.Label) (λ l. then (trait which.Child) (λ c. then (trait which.Staged) (λ s. then (trait which.Rooted) (λ r. then (trait which.Uncoded) (λ u.
      then (trait which.Misplaced) (λ m. then (trait which.Instructions) (λ i. then (trait which.ListedStaged) (λ t. then (trait which.ListedRooted) (λ o.
      surely (traits_of l.0 c.0 s.0 r.0 u.0 m.0 i.0 t.0 o.0, all_traits l.0 c.0 s.0 r.0 u.0 m.0 i.0 t.0 o.0 l.1 c.1 s.1 r.1 u.1 m.1 i.1 t.1 o.1))))))))))

  -- ---- all of it

  typeless_names : (types : ℕ → Option TypeOf) → Undenied ((m : ℕ → Bool) × ((i : ℕ) → (m i ≡ true) ↔ IsTypeless d types i))
  typeless_names types = marks (λ i. IsTypeless d types i) (length (entries d)) below
    where
      below : (i : ℕ) → IsTypeless d types i → i < length (entries d)
      below i (inl x) = meant_from d x.1.0
      below i (inr x) = meant_from d x.1.1.0

  unassignable_names : (assignables : ℕ → Option Assignable) → Undenied ((m : ℕ → Bool) × ((i : ℕ) → (m i ≡ true) ↔ IsUnassignable d assignables i))
  unassignable_names assignables = marks (λ i. IsUnassignable d assignables i) (length (entries d)) (λ i x. meant_from d x.1.1.0)

  differing_types : (types : ℕ → Option TypeOf) → Undenied ((m : ℕ → Bool) × ((i : ℕ) → (m i ≡ true) ↔ (IsSettled d types i × DifferInType d types i)))
  differing_types types = marks (λ i. IsSettled d types i × DifferInType d types i) (length (entries d)) (λ i x. meant_from d x.1.means_one)

  differing_assignables : (assignables : ℕ → Option Assignable) → Undenied ((m : ℕ → Bool) × ((i : ℕ) → (m i ≡ true) ↔ (IsSettled d assignables i × DifferInAssigning d assignables i)))
  differing_assignables assignables = marks (λ i. IsSettled d assignables i × DifferInAssigning d assignables i) (length (entries d)) (λ i x. meant_from d x.1.0.1.0)

  with_types : (traits : ℕ → Traits) (types : ℕ → Option TypeOf) → AreTraits d traits → AreTypes d traits types → Undenied ((known : Known) × AreKinds d known)
  with_types traits types are typed =
      then (typeless_names types) (λ (typeless : (m : ℕ → Bool) × ((i : ℕ) → (m i ≡ true) ↔ IsTypeless d types i)).
      then (differing_types types) (λ (differ : (m : ℕ → Bool) × ((i : ℕ) → (m i ≡ true) ↔ (IsSettled d types i × DifferInType d types i))).
      then (values (assignable_fact d (apart traits) (unfit traits typeless.0)) (assignables_steady d (apart traits) (unfit traits typeless.0))) (λ (assignables : (known : ℕ → Option Assignable) × AreAssignables d traits typeless.0 known).
      then (unassignable_names assignables.0) (λ (not : (m : ℕ → Bool) × ((i : ℕ) → (m i ≡ true) ↔ IsUnassignable d assignables.0 i)).
      then (differing_assignables assignables.0) (λ (unlike : (m : ℕ → Bool) × ((i : ℕ) → (m i ≡ true) ↔ (IsSettled d assignables.0 i × DifferInAssigning d assignables.0 i))).
      surely (
        record { types = types; assignables = assignables.0; traits = traits; typeless = typeless.0; unassignable = not.0; types_differ = differ.0; assignables_differ = unlike.0 },
        record { traits = are; types = typed; typeless = typeless.1; types_differ = differ.1; assignables = assignables.1; unassignable = not.1; assignables_differ = unlike.1 },
      ))))))

  pub some_kinds : Undenied ((known : Known) × AreKinds d known)
  some_kinds =
      then some_traits (λ (t : (traits : ℕ → Traits) × AreTraits d traits).
      then (values (type_fact d (apart t.0)) (types_steady d (apart t.0))) (λ (k : (known : ℕ → Option TypeOf) × AreTypes d t.0 known).
      with_types t.0 k.0 t.1 k.1))
