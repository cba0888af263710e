-- Numbers of forms that are kept for the beginnings of their texts.
use Rattle.std.specs.Prelude.{ℕ, Bool, true, false, List, [], ◌∷◌, ◌++◌, Option, Some, None, Vec, nat_eq, ◌≡◌}
use Rattle.std.specs.Global.{Global}
use Rattle.std.specs.List.{flat_map}
use Rattle.std.specs.BTreeMap.{BTreeMap, get}
use Rattle.std.specs.Cmp.Lexicographic.{pointwise, slice_cmp}
use Rattle.std.specs.Ordering.{nat_cmp}
use Rattle.std.specs.declared.cmp.Ordering.{Ordering}
use Rattle.instruction_texts.specs.declared.shapes.Shape.{Shape}
use Rattle.instruction_texts.specs.Starts.{Beginning, Mark, Word, Prefix, first_start, negative_start}
use Rattle.text_tables.specs.declared.beginnings.Beginnings.{Beginnings}

-- the numbers, or none
abbrev pub items_of : Option (Vec ℕ Global) → List ℕ
items_of None = []
items_of (Some v) = v.items

-- what is kept for a key
abbrev pub kept_at : {K : Type 0} → (K → K → Ordering) → BTreeMap K (Vec ℕ Global) → K → List ℕ
kept_at cmp m k = items_of (get cmp m k)

-- the number is added where the test holds
abbrev pub with_if : Bool → ℕ → List ℕ → List ℕ
with_if true k ks = ks ++ k ∷ []
with_if false k ks = ks

-- those of the forms that begin so, where None stands for the forms without pieces
abbrev pub numbers_of : Beginnings → Option Beginning → List ℕ
numbers_of t None = t.bare.items
numbers_of t (Some (Mark c)) = kept_at nat_cmp t.signs c
numbers_of t (Some (Word w)) = kept_at (slice_cmp nat_cmp) t.words w
numbers_of t (Some (Prefix p)) = kept_at (slice_cmp nat_cmp) t.prefixes p

-- whether they are one beginning, or none both
abbrev pub same : Option Beginning → Option Beginning → Bool
same None None = true
same (Some (Mark c)) (Some (Mark d)) = nat_eq c d
same (Some (Word v)) (Some (Word w)) = pointwise nat_eq v w
same (Some (Prefix p)) (Some (Prefix q)) = pointwise nat_eq p q
same _ _ = false

-- whether it is the beginning of the form's negative numbers
abbrev pub same_negative : Option Beginning → Option Beginning → Bool
same_negative None b = false
same_negative (Some a) b = same (Some a) b

-- the form is added to those of each of its beginnings, and to no other
abbrev pub Enters : List Shape → ℕ → Beginnings → Beginnings → Type 0
Enters ss k old new = (b : Option Beginning) → numbers_of new b ≡ with_if (same_negative (negative_start ss) b) k (with_if (same (first_start ss) b) k (numbers_of old b))

-- the forms without pieces, and those that begin in one of these ways
abbrev pub begun : Beginnings → List Beginning → List ℕ
begun t bs = numbers_of t None ++ flat_map (λ b. numbers_of t (Some b)) bs
