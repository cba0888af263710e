-- What is known of operations, choices and declared names. An open node has no value.
use Rattle.std.specs.Prelude.{ℕ, ◌≡◌, ◌≢◌, ◌↔◌, ◌||◌, ◌⊎◌, Bool, true, List, Option, Some}
use Rattle.std.specs.Option.{is_some}
use Rattle.lisa_tree.specs.Descriptions.{DescriptionTree}
use Rattle.lisa_tree.specs.Declarations.{what_at}
use Rattle.lisa_tree.specs.Paths.{entry_node}
use Rattle.graph_paths.specs.Paths.{saw}
use Rattle.least_fixed_points.specs.Settles.{entry, Settles}
use Rattle.meant_declarations.specs.Meant.{MayMean, SomeMeant}
use Rattle.description_types.specs.declared.values.TypeOf.{TypeOf}
use Rattle.description_types.specs.declared.values.TypeOf.TheVariants as types
use Rattle.description_types.specs.declared.values.Assignable.{Assignable}
use Rattle.description_types.specs.declared.values.Assignable.TheVariants as assigns
use Rattle.description_types.specs.declared.values.Trait.{Trait}
use Rattle.description_types.specs.declared.values.Traits.{Traits}
use Rattle.description_types.specs.Refused.{is_apart}
use Rattle.description_types.specs.Facts.{Fact, follows}
use Rattle.description_types.specs.Kinds.{is_incomplete, type_fact, assignable_fact}
use Rattle.description_types.specs.Uses.{holds, own_traits, TraitMarks, traits_by}

-- exactly the values that nodes have
abbrev pub AreValues : {T : Type 0} → DescriptionTree → Fact T → (ℕ → Option T) → Type 0
AreValues {T = T} d fact known = (a : ℕ) (t : T) → (known a ≡ Some t) ↔ Settles (follows d fact) a t

-- the names that may mean a declaration of which this holds
abbrev pub AreMeant : DescriptionTree → (ℕ → Type 0) → (ℕ → Bool) → Type 0
AreMeant d P marks = (i : ℕ) → (marks i ≡ true) ↔ SomeMeant d P i

abbrev pub AreTraits : DescriptionTree → (ℕ → Traits) → Type 0
AreTraits d traits = (q : Trait) → AreMeant d (λ j. holds q (own_traits d j) ≡ true) (λ i. holds q (traits i))

-- which declared names may be no value, by their traits alone
abbrev pub apart : (ℕ → Traits) → ℕ → Bool
apart traits i = is_apart (traits i)

abbrev pub AreTypes : DescriptionTree → (ℕ → Traits) → (ℕ → Option TypeOf) → Type 0
AreTypes d traits known = AreValues d (type_fact d (apart traits)) known

-- the declaration has no type
abbrev pub LacksType : DescriptionTree → (ℕ → Option TypeOf) → ℕ → Type 0
LacksType d known j = known (entry_node d j) ≡ Some types.NoType

-- an alternative of the declaration has no expression, or it is a label without a field
abbrev pub IsIncomplete : DescriptionTree → ℕ → Type 0
IsIncomplete d j = is_incomplete d j (what_at d j) ≡ true

-- a declared name has a value, so nothing that it may mean is open
abbrev pub IsSettled : {T : Type 0} → DescriptionTree → (ℕ → Option T) → ℕ → Type 0
IsSettled d known i = is_some (known (entry_node d i)) ≡ true

-- Some declaration that a name may mean has no type. Where one is open this is said only of one that is incomplete.
abbrev pub IsTypeless : DescriptionTree → (ℕ → Option TypeOf) → ℕ → Type 0
IsTypeless d known i = SomeMeant d (IsIncomplete d) i ⊎ (IsSettled d known i × SomeMeant d (LacksType d known) i)

-- two declarations that a name may mean have different types, and no use makes them refused; no type differs from every type
pub record DifferInType (d : DescriptionTree) (known : ℕ → Option TypeOf) (i : ℕ) : Type 0 where
  pub one : ℕ
  pub other : ℕ
  pub means_one : MayMean d i one
  pub means_other : MayMean d i other
  pub type_of_one : TypeOf
  pub type_of_other : TypeOf
  pub is_one : known (entry_node d one) ≡ Some type_of_one
  pub is_other : known (entry_node d other) ≡ Some type_of_other
  pub one_stands : type_of_one ≢ types.Refused
  pub other_stands : type_of_other ≢ types.Refused
  pub differ : type_of_one ≢ type_of_other

-- which declared names may be no value: those that are apart, and those without a type
abbrev pub unfit : (ℕ → Traits) → (ℕ → Bool) → ℕ → Bool
unfit traits typeless i = typeless i || is_apart (traits i)

abbrev pub AreAssignables : DescriptionTree → (ℕ → Traits) → (ℕ → Bool) → (ℕ → Option Assignable) → Type 0
AreAssignables d traits typeless known = AreValues d (assignable_fact d (apart traits) (unfit traits typeless)) known

-- the declaration may be assigned, or not
abbrev pub MayAssign : DescriptionTree → (ℕ → Option Assignable) → ℕ → Type 0
MayAssign d known j = known (entry_node d j) ≡ Some assigns.Yes

abbrev pub MayNotAssign : DescriptionTree → (ℕ → Option Assignable) → ℕ → Type 0
MayNotAssign d known j = known (entry_node d j) ≡ Some assigns.No

-- of two declarations that a name may mean, one may be assigned and one may not
abbrev pub DifferInAssigning : DescriptionTree → (ℕ → Option Assignable) → ℕ → Type 0
DifferInAssigning d known i = SomeMeant d (MayAssign d known) i × SomeMeant d (MayNotAssign d known) i

-- some declaration that a name may mean may not be assigned, and none is open
abbrev pub IsUnassignable : DescriptionTree → (ℕ → Option Assignable) → ℕ → Type 0
IsUnassignable d known i = IsSettled d known i × SomeMeant d (MayNotAssign d known) i

pub record Known : Type 0 where
  -- of nodes
  pub types : ℕ → Option TypeOf
  pub assignables : ℕ → Option Assignable
  -- of declared names, by their numbers: what holds of some declaration that the name may mean
  pub traits : ℕ → Traits
  pub typeless : ℕ → Bool
  -- the same where none is open, and what two of them differ in then
  pub unassignable : ℕ → Bool
  pub types_differ : ℕ → Bool
  pub assignables_differ : ℕ → Bool

-- exactly what holds of them
pub record AreKinds (d : DescriptionTree) (known : Known) : Type 0 where
  pub traits : AreTraits d known.traits
  pub types : AreTypes d known.traits known.types
  pub typeless : (i : ℕ) → (known.typeless i ≡ true) ↔ IsTypeless d known.types i
  pub types_differ : (i : ℕ) → (known.types_differ i ≡ true) ↔ (IsSettled d known.types i × DifferInType d known.types i)
  pub assignables : AreAssignables d known.traits known.typeless known.assignables
  pub unassignable : (i : ℕ) → (known.unassignable i ≡ true) ↔ IsUnassignable d known.assignables i
  pub assignables_differ : (i : ℕ) → (known.assignables_differ i ≡ true) ↔ (IsSettled d known.assignables i × DifferInAssigning d known.assignables i)

-- tables with an entry for each node, and some with one for each declared name
pub record Tables : Type 0 where
  pub types : List (Option TypeOf)
  pub assignables : List (Option Assignable)
  pub traits : TraitMarks
  pub typeless : List Bool
  pub unassignable : List Bool
  pub types_differ : List Bool
  pub assignables_differ : List Bool

-- what tables say
abbrev pub known_by : Tables → Known
known_by t = record {
  types = entry t.types;
  assignables = entry t.assignables;
  traits = traits_by t.traits;
  typeless = saw t.typeless;
  unassignable = saw t.unassignable;
  types_differ = saw t.types_differ;
  assignables_differ = saw t.assignables_differ;
}
