-- Names that were seen.
use Rattle.std.specs.Prelude.{◌≡◌, ℕ, List}
use Rattle.std.specs.List.{list_any}
use Rattle.std.specs.Str.{bytes_eq}
use Rattle.std.specs.Ordering.{nat_cmp}
use Rattle.std.specs.Cmp.Lexicographic.{slice_cmp}
use Rattle.std.specs.BTreeSet.{BTreeSet}
use Rattle.std.specs.BTreeSet as sorted

-- the ordered set has these names and no others
abbrev pub HoldsSorted : BTreeSet (List ℕ) → List (List ℕ) → Type 0
HoldsSorted set names = (name : List ℕ) → sorted.contains (slice_cmp nat_cmp) set name ≡ list_any (bytes_eq name) names
