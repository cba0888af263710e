-- Which operations declare each name, and which stand above one.
use Rattle.std.specs.Prelude.{◌≡◌, ◌++◌, ◌∷◌, [], ℕ, Bool, true, List, Option, None, Some, cond}
use Rattle.std.specs.BTreeMap.{BTreeMap, get}
use Rattle.std.specs.BTreeSet.{BTreeSet, contains}
use Rattle.std.specs.Cmp.Lexicographic.{slice_cmp}
use Rattle.std.specs.Ordering.{nat_cmp}
use Rattle.std.specs.Global.{Vec}
use Rattle.std.specs.Option.{is_some}
use Rattle.lisa_tree.specs.Descriptions.{DescriptionTree}
use Rattle.lisa_tree.specs.Declarations.{owner_at, entry_name_at, declared_at, above}
use Rattle.graph_paths.specs.Paths.{is_in}
use Rattle.meant_declarations.specs.Sources.{IsCovered}

-- what a table has for a name
abbrev pub row_of : BTreeMap (List ℕ) (Vec ℕ) → List ℕ → Option (Vec ℕ)
row_of table n = get (slice_cmp nat_cmp) table n

abbrev pub items_of : Option (Vec ℕ) → List ℕ
items_of None = []
items_of (Some row) = row.items

abbrev pub noted_for : BTreeMap (List ℕ) (Vec ℕ) → List ℕ → List ℕ
noted_for table n = items_of (row_of table n)

-- a number behind these, where it is so
abbrev pub behind_if : Bool → ℕ → List ℕ → List ℕ
behind_if b p row = cond b (row ++ p ∷ []) row

-- the operation of a declared name is noted for that name
abbrev pub IsNoted : DescriptionTree → BTreeMap (List ℕ) (Vec ℕ) → ℕ → Type 0
IsNoted d table i = (n : List ℕ) → entry_name_at d i ≡ Some n → is_in (owner_at d i) (noted_for table n) ≡ true

abbrev pub AreNoted : DescriptionTree → BTreeMap (List ℕ) (Vec ℕ) → Type 0
AreNoted d table = (i : ℕ) → IsNoted d table i

-- whether a set has a number
abbrev pub has : BTreeSet ℕ → ℕ → Bool
has set p = contains nat_cmp set p

-- what is known of the operations above one
pub record IsAround (d : DescriptionTree) (o : ℕ) (cover : Option ℕ) (rest : List ℕ) (all : BTreeSet ℕ) : Type 0 where
  pub covered : IsCovered d o cover rest
  pub each : (p : ℕ) → has all p ≡ is_in p (above d o)

-- some operations above one, among them all that declare a name
pub record AreDeclaring (d : DescriptionTree) (o : ℕ) (n : List ℕ) (operations : List ℕ) : Type 0 where
  pub inside : (p : ℕ) → is_in p operations ≡ true → is_in p (above d o) ≡ true
  pub all : (p : ℕ) → is_in p (above d o) ≡ true → is_some (declared_at d p n) ≡ true → is_in p operations ≡ true
