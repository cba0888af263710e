-- What is drawn so far, before what is drawn for the fields that are left.
use Rattle.std.proofs.Common.{map}
use Rattle.pattern_tables.specs.Places.{pair_of}
use Rattle.generated_programs.specs.Draws.{drawn_values}
use Rattle.generated_programs.proofs.Stepping.{IsDrawn}
use Rattle.generated_programs.proofs.drawing.draw_values.Given as goal

abbrev pub invariant-loop-place : goal.invariant-loop-place
invariant-loop-place g l = IsDrawn g.G.NextWord.step l.places (drawn_values g.G.NextWord.step (map pair_of l.places) l.fn.generator) l.place-index l.values.items l.generator
