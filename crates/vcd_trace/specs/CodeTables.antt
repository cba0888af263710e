-- Tables of codes.
use Rattle.std.specs.Prelude.{ℕ, ◌≡◌, List, [], ◌∷◌, map, slice_index_or, Option, Some, None, unwrap_or, slice_set}
use Rattle.std.proofs.Common.{Ordering}
use Rattle.std.specs.Borrow.{Bor}
use Rattle.std.specs.Ordering.{nat_cmp}
use Rattle.std.specs.Cmp.Lexicographic.{slice_cmp}
use Rattle.std.specs.BTreeMap.{BTreeMap, get}
use Rattle.std.specs.BTreeSet.{BTreeSet, contains}
use Rattle.std.specs.List.{list_any}
use Rattle.std.specs.Str.{bytes_eq}
use Rattle.vcd_trace.specs.Written.{Variable, Change, Changed}
use Rattle.vcd_trace.specs.Meaning.{place_of, changed, time_changes}

-- the order of codes
abbrev pub by_bytes : Bor (List ℕ) → Bor (List ℕ) → Ordering
by_bytes x y = slice_cmp nat_cmp x.now y.now

-- the table has for each code the place of the first variable with it
abbrev pub AreSlots : BTreeMap (Bor (List ℕ)) ℕ → List Variable → Type 0
AreSlots slots variables = (code : Bor (List ℕ)) → get by_bytes slots code ≡ place_of variables code.now

-- the place of the first variable with the code of one
abbrev pub slot_of : List Variable → Variable → ℕ
slot_of variables v = unwrap_or (place_of variables v.code) 0

-- the values by places, where a code gets one
abbrev pub put_value : List ℕ → Option ℕ → Option ℕ → List ℕ
put_value values None value = values
put_value values (Some place) value = slice_set values place (unwrap_or value 0)

-- the set has the codes of these changes
abbrev pub AreGiven : BTreeSet (Bor (List ℕ)) → List Change → Type 0
AreGiven codes changes = (code : Bor (List ℕ)) → contains by_bytes codes code ≡ list_any (λ c. bytes_eq c.code code.now) changes

-- the values at these places
abbrev pub values_in : List ℕ → List ℕ → List ℕ
values_in present slots = map (λ slot. slice_index_or present slot 0) slots

-- a time that ends, if one has begun, and the values before the next
abbrev pub ended_times : Option ℕ → Option (List ℕ) → List ℕ → List Changed
ended_times None before now = []
ended_times (Some time) before now = changed time (time_changes before now) ∷ []

abbrev pub ended_before : Option ℕ → Option (List ℕ) → List ℕ → Option (List ℕ)
ended_before None before now = before
ended_before (Some time) before now = Some now
