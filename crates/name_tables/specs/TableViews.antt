-- What ordered sets and tables say of names.
use Rattle.std.specs.Prelude.{ℕ, Bool, List, Option}
use Rattle.std.specs.Ordering.{nat_cmp}
use Rattle.std.specs.Cmp.Lexicographic.{slice_cmp}
use Rattle.std.specs.BTreeMap.{BTreeMap, get}
use Rattle.std.specs.BTreeSet.{BTreeSet, contains}

-- whether a set has the name
abbrev pub has_name : BTreeSet (List ℕ) → List ℕ → Bool
has_name set name = contains (slice_cmp nat_cmp) set name

-- the value that a table gives the name
abbrev pub value_of : {V : Type 0} → BTreeMap (List ℕ) V → List ℕ → Option V
value_of table name = get (slice_cmp nat_cmp) table name
