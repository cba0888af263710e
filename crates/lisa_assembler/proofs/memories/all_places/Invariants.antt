use Rattle.std.proofs.Common.{◌≡◌, ℕ, List, drop}
use Rattle.std.specs.Option.{option_or}
use Rattle.name_tables.specs.TableViews.{value_of}
use Rattle.lisa_assembler.specs.Places.{place_from}
use Rattle.lisa_assembler.proofs.memories.all_places.Given as goal

abbrev pub invariant-loop-place : goal.invariant-loop-place
invariant-loop-place l = (n : List ℕ) → option_or (value_of l.places n) (place_from l.place (drop l.place l.memories) n) ≡ place_from 0 l.memories n
