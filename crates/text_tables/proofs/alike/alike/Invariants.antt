use Rattle.std.specs.Prelude.{◌≡◌, take}
use Rattle.text_tables.proofs.alike.alike.Given as goal

abbrev pub invariant-pieces : goal.invariant-pieces
invariant-pieces l = take l.i l.fn.one ≡ take l.i l.fn.other
