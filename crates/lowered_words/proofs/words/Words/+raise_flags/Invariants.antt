-- The flags of the part and of the children before a place are put.
use Rattle.std.proofs.Common.{false}
use Rattle.lowered_time.specs.Pieces.{steps}
use Rattle.lowered_time.specs.Code.{Adds}
use Rattle.lowered_words.specs.Ways.{Way}
use Rattle.lowered_words.specs.Code.{words_tree, IsAt}
use Rattle.lowered_words.proofs.Writing.{flags_before}
use Rattle.lowered_words.proofs.words.Words.+raise_flags.Given as goal

abbrev pub invariant-loop-place : goal.invariant-loop-place
invariant-loop-place l = (w : Way) → IsAt (words_tree l.self) w l.way → Adds (steps (flags_before (words_tree l.self) false l.base l.scratch w l.place l.children)) l.fn.draft l.draft
