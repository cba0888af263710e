-- Symbols of programs that are placed one behind the other, and the values of sums.
use Rattle.std.specs.Prelude.{ℕ, ℤ, pos, neg_ℤ, ◌+ℤ◌, Bool, true, false, List, [], ◌∷◌, filter, flat_map, Option, Some, None, unwrap_or}
use Rattle.std.specs.List.{list_any}
use Rattle.std.specs.Map.{lookup}
use Rattle.std.specs.Option.{option_or}
use Rattle.std.specs.Str.{bytes_eq}
use Rattle.asm_source.specs.Plain.{PlainSum}
use Rattle.asm_source.specs.declared.parts.Term.{Term}
use Rattle.placed_programs.specs.Entries.{Entry, Enter, Room, Put, Mark, Equal, Share}
use Rattle.placed_programs.specs.Addresses.{Counts, counts_after, definitions}

-- the parts, each with the cells that stand before it; each part begins outside of any section
abbrev pub with_counts : {C : Type 0} → Counts → List (List (Entry C)) → List (Counts × List (Entry C))
with_counts counts [] = []
with_counts counts (es ∷ parts) = (counts, es) ∷ with_counts (counts_after counts None es) parts

-- the names that an entry shares
abbrev pub shared_by : {C : Type 0} → Entry C → List (List ℕ)
shared_by (Enter n w) = []
shared_by (Room n) = []
shared_by (Put c) = []
shared_by (Mark n) = []
shared_by (Equal n v) = []
shared_by (Share n) = n ∷ []

abbrev pub is_shared : {C : Type 0} → List (Entry C) → List ℕ → Bool
is_shared es name = list_any (bytes_eq name) (flat_map shared_by es)

-- the definitions of a part that the others see
abbrev pub exports : {C : Type 0} → Counts → List (Entry C) → List (List ℕ × ℤ)
exports counts es = filter (λ d. is_shared es d.0) (definitions counts None es)

abbrev pub all_exports : {C : Type 0} → List (Counts × List (Entry C)) → List (List ℕ × ℤ)
all_exports parts = flat_map (λ p. exports p.0 p.1) parts

-- what a name means: the part's own definition, else the one that another part shares
abbrev pub symbol : (own others : List (List ℕ × ℤ)) → List ℕ → Option ℤ
symbol own others name = option_or (lookup (bytes_eq name) own) (lookup (bytes_eq name) others)

-- ---- sums, in a cell with this address

abbrev pub Symbols : Type 0
Symbols = List ℕ → Option ℤ

-- a name without a value counts 0
abbrev pub named_value : Symbols → ℕ → Option (List ℕ) → ℤ
named_value symbols a None = pos a
named_value symbols a (Some name) = unwrap_or (symbols name) (pos 0)

abbrev pub turned : Bool → ℤ → ℤ
turned true v = neg_ℤ v
turned false v = v

abbrev pub term_value : Symbols → ℕ → Term → ℤ
term_value symbols a t = turned t.minus (named_value symbols a t.name)

abbrev pub terms_value : Symbols → ℕ → List Term → ℤ
terms_value symbols a [] = pos 0
terms_value symbols a (t ∷ ts) = term_value symbols a t +ℤ terms_value symbols a ts

abbrev pub sum_value : Symbols → ℕ → PlainSum → ℤ
sum_value symbols a s = s.constant +ℤ terms_value symbols a s.terms
