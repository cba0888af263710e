use Rattle.std.proofs.Common.{ℕ, List, Option}
use Rattle.noted_names.specs.declared.places.Places.{Places}
use Rattle.noted_names.specs.Memos.{Remembers}
use Rattle.noted_names.proofs.memos.no_slots.Given as goal

abbrev pub invariant-slots : goal.invariant-slots
invariant-slots l = (f : List ℕ → Option Places) → Remembers f l.slots.items
