-- What the tables of a description say.
use Rattle.std.specs.Prelude.{ℕ, zero, suc, ◌≡◌, Bool, false, not, ◌&&◌, nat_eq, nat_lt, List, [], ◌∷◌, ◌++◌, Option, None, cond, filter}
use Rattle.std.specs.List.{list_all, dedup}
use Rattle.std.specs.BTreeMap.{BTreeMap}
use Rattle.lisa_tree.specs.Descriptions.{DescriptionTree}
use Rattle.lisa_tree.specs.Same.{same_name}
use Rattle.lisa_tree.specs.Operations.{numbers_of, is_alias}
use Rattle.name_tables.specs.TableViews.{value_of}
use Rattle.lisa_tree.specs.Declarations.{Choice, Entry, listings}

-- a choice with its operations by their numbers, and those of them that are no aliases
pub record Chosen : Type 0 where
  pub operation : ℕ
  pub alternatives : List ℕ
  pub plain : List ℕ

abbrev pub no_aliases : DescriptionTree → List ℕ → List ℕ
no_aliases d numbers = filter (λ o. not (is_alias d o)) numbers

abbrev pub chosen : DescriptionTree → Choice → Chosen
chosen d c = record { operation = c.operation; alternatives = numbers_of d c.alternatives; plain = no_aliases d (numbers_of d c.alternatives) }

-- what the table of an operation says of a name
abbrev pub find_in : List (BTreeMap (List ℕ) ℕ) → ℕ → List ℕ → Option ℕ
find_in [] o n = None
find_in (t ∷ ts) zero n = value_of t n
find_in (t ∷ ts) (suc o) n = find_in ts o n

-- an operation declares the name
abbrev pub declares : ℕ → List ℕ → Entry → Bool
declares o n e = nat_eq e.operation o && same_name n e.name

abbrev pub is_owned_below : ℕ → Entry → Bool
is_owned_below count e = nat_lt e.operation count

abbrev pub are_below : ℕ → List ℕ → Bool
are_below count numbers = list_all (λ x. nat_lt x count) numbers

abbrev pub chooses_below : ℕ → Chosen → Bool
chooses_below count c = are_below count c.alternatives

-- the operations above one, once for each time that they list it, by choices whose operations are numbers
abbrev pub above_chosen : DescriptionTree → ℕ → List Chosen → List ℕ
above_chosen d o [] = []
above_chosen d o (c ∷ rest) = cond (is_alias d c.operation) [] (listings c.operation o c.alternatives) ++ above_chosen d o rest

-- ---- rows in which no number stands directly behind itself

abbrev pub ends_in : List ℕ → ℕ → Bool
ends_in [] x = false
ends_in (y ∷ []) x = nat_eq x y
ends_in (y ∷ z ∷ rest) x = ends_in (z ∷ rest) x

-- A row becomes another one by these: where it had some numbers, each once, the other has them and these, each once.
abbrev pub Joins : List ℕ → List ℕ → List ℕ → Type 0
Joins old new more = (all : List ℕ) → old ≡ dedup nat_eq all → new ≡ dedup nat_eq (all ++ more)
