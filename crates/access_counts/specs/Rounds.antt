-- On the way: what is still to be unfolded, one level after another.
use Rattle.std.specs.Prelude.{ℕ, ◌≡◌, ◌<◌, ◌+◌, List, get_or, length, sum_by}
use Rattle.lisa_tree.specs.Descriptions.{DescriptionTree}
use Rattle.lisa_tree.specs.Operations.{sections_at}
use Rattle.access_counts.specs.declared.ledger.Ledger.{Ledger}
use Rattle.access_counts.specs.Accesses.{Access}
use Rattle.access_counts.specs.Unfolded.{Counted, of_resources, sections_accesses, texts_accesses, counted_within}
use Rattle.access_counts.specs.Ledgers.{Prices, capped, ledger_worth, access_by, naming_by, HasRoom}

-- numbers below a bound
abbrev pub AreBelow : ℕ → List ℕ → Type 0
AreBelow count numbers = (k : ℕ) → k < length numbers → get_or numbers k 0 < count

abbrev pub AllBelow : ℕ → (ℕ → List ℕ) → Type 0
AllBelow count chosen = (i : ℕ) → AreBelow count (chosen i)

-- what reads and writes of the resources cost, by their numbers
pub record Rates : Type 0 where
  pub read : ℕ → ℕ
  pub write : ℕ → ℕ

-- a declared name costs what all operations count that it may choose
abbrev pub prices_by : (ℕ → List ℕ) → Rates → (ℕ → Counted) → Prices
prices_by chosen rates counted = record {
  read = rates.read;
  write = rates.write;
  value = λ i. sum_by (λ b. (counted b).read) (chosen i);
  place = λ i. sum_by (λ b. (counted b).assigned) (chosen i);
  run = λ i. sum_by (λ b. (counted b).run) (chosen i);
}

-- names cost nothing
abbrev pub bare : Rates → Prices
bare rates = record { read = rates.read; write = rates.write; value = λ i. 0; place = λ i. 0; run = λ i. 0 }

abbrev pub access_of : DescriptionTree → Rates → Access
access_of d rates = of_resources d rates.read rates.write

-- what an operation counts, and what its behaviour and activation do, by the prices of names
abbrev pub priced : DescriptionTree → Prices → ℕ → Counted
priced d p o = sections_accesses (access_by d p) (naming_by d o p) (sections_at d o)

abbrev pub texts_priced : DescriptionTree → Prices → ℕ → ℕ
texts_priced d p o = texts_accesses (access_by d p) (naming_by d o p) (sections_at d o)

-- The names of a ledger were unfolded once: it is worth as much as before where each operation counts what it unfolds to.
pub record IsUnfolded (d : DescriptionTree) (chosen : ℕ → List ℕ) (old new : Ledger) : Type 0 where
  pub room : HasRoom d new
  pub same : (rates : Rates) (counted : ℕ → Counted)
      → capped (ledger_worth (prices_by chosen rates counted) new) ≡ capped (ledger_worth (prices_by chosen rates (priced d (prices_by chosen rates counted))) old)

-- all that a ledger is worth where operations are unfolded so many levels deep
abbrev pub worth_within : ℕ → DescriptionTree → (ℕ → List ℕ) → Rates → Ledger → ℕ
worth_within k d chosen rates l = ledger_worth (prices_by chosen rates (counted_within k d chosen (access_of d rates))) l
