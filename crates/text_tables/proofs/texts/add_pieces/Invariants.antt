use Rattle.std.proofs.Common.{◌≡◌, ◌++◌, take}
use Rattle.text_tables.proofs.texts.add_pieces.Given as goal

abbrev pub invariant-loop-piece : goal.invariant-loop-piece
invariant-loop-piece l = l.all.items ≡ l.fn.all.items ++ take l.piece-index l.own
