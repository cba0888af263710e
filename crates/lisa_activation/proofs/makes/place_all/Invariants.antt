use Rattle.lisa_activation.proofs.Places.{PlacedTo}
use Rattle.lisa_activation.proofs.makes.place_all.Given as goal

abbrev pub invariant-loop-number : goal.invariant-loop-number
invariant-loop-number l = PlacedTo l.placings l.columns l.number
