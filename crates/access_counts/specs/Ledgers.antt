-- On the way: what texts were found to do so far and which names are still to be unfolded, and what all that is worth.
use Rattle.std.specs.Prelude.{ℕ, ◌≡◌, ◌+◌, ◌-◌, ◌*◌, ◌^◌, min, List, [], ◌∷◌, length}
use Rattle.std.specs.Option.{option_map_or}
use Rattle.lisa_tree.specs.Descriptions.{DescriptionTree}
use Rattle.lisa_tree.specs.Declarations.{entries, declared_at}
use Rattle.access_counts.specs.Accesses.{Access, Naming}
use Rattle.access_counts.specs.Unfolded.{of_resources}
use Rattle.access_counts.specs.declared.ledger.Ledger.{Ledger}

-- Counts stay at 2 ^ 64 - 1.
abbrev pub capped : ℕ → ℕ
capped n = min n (2 ^ 64 - 1)

-- Prices: of a read and of a write of an element of each resource, and of each declared name where it is read, assigned and called.
pub record Prices : Type 0 where
  pub read : ℕ → ℕ
  pub write : ℕ → ℕ
  pub value : ℕ → ℕ
  pub place : ℕ → ℕ
  pub run : ℕ → ℕ

-- what counts are worth, by the price of each place, where the first one stands at a number
abbrev pub worth_from : (ℕ → ℕ) → ℕ → List ℕ → ℕ
worth_from price i [] = 0
worth_from price i (n ∷ rest) = n * price i + worth_from price (i + 1) rest

abbrev pub worth : (ℕ → ℕ) → List ℕ → ℕ
worth price counts = worth_from price 0 counts

abbrev pub ledger_worth : Prices → Ledger → ℕ
ledger_worth p l = worth p.read l.reads.items + (worth p.write l.writes.items + (worth p.value l.values.items + (worth p.place l.places.items + worth p.run l.runs.items)))

-- the prices by names instead of numbers
abbrev pub access_by : DescriptionTree → Prices → Access
access_by d p = of_resources d p.read p.write

abbrev pub naming_by : DescriptionTree → ℕ → Prices → Naming
naming_by d o p = record {
  read = λ n. option_map_or p.value (declared_at d o n) 0;
  assigned = λ n. option_map_or p.place (declared_at d o n) 0;
  run = λ n. option_map_or p.run (declared_at d o n) 0;
}

-- there is a count for each resource, and for each declared name
pub record HasRoom (d : DescriptionTree) (l : Ledger) : Type 0 where
  pub reads : length l.reads.items ≡ length d.resources
  pub writes : length l.writes.items ≡ length d.resources
  pub values : length l.values.items ≡ length (entries d)
  pub places : length l.places.items ≡ length (entries d)
  pub runs : length l.runs.items ≡ length (entries d)

-- a cost is added
pub record Gains (old cost new : ℕ) : Type 0 where
  pub same : capped new ≡ capped (old + cost)

-- At all prices a ledger is worth more by the cost of a text of an operation, so many times.
pub record IsAdded (d : DescriptionTree) (o : ℕ) (old new : Ledger) (times : ℕ) (cost : Access → Naming → ℕ) : Type 0 where
  pub room : HasRoom d new
  pub more : (p : Prices) → Gains (ledger_worth p old) (times * cost (access_by d p) (naming_by d o p)) (ledger_worth p new)

-- Over a list of texts: with what is left a ledger is worth more by the cost of all.
pub record IsGoing (d : DescriptionTree) (o : ℕ) (start now : Ledger) (times : ℕ) (left all : Access → Naming → ℕ) : Type 0 where
  pub room : HasRoom d now
  pub rest : (p : Prices) → capped (ledger_worth p now + times * left (access_by d p) (naming_by d o p)) ≡ capped (ledger_worth p start + times * all (access_by d p) (naming_by d o p))
