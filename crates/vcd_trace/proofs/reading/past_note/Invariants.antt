use Rattle.std.proofs.Common.{◌≡◌, ◌≤◌, length}
use Rattle.vcd_trace.specs.Left.{words_left, end_at}
use Rattle.vcd_trace.specs.Parts.{behind_note}
use Rattle.vcd_trace.proofs.reading.past_note.Given as goal

abbrev pub invariant-loop-word : goal.invariant-loop-word
invariant-loop-word l = (behind_note (words_left l.left) ≡ behind_note (words_left l.fn.words)) × (l.fn.words.at ≤ l.left.at) × (end_at l.left ≡ end_at l.fn.words)

abbrev pub decreases-loop-word : goal.decreases-loop-word
decreases-loop-word l = length l.left.rest.now
