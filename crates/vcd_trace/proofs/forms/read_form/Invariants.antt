use Rattle.std.proofs.Common.{◌≡◌, length}
use Rattle.vcd_trace.specs.Left.{words_left, end_at}
use Rattle.vcd_trace.proofs.FormLaws.{IsRead, IsOpenTo}
use Rattle.vcd_trace.proofs.forms.read_form.Given as goal

abbrev pub invariant-loop-word : goal.invariant-loop-word
invariant-loop-word l = IsRead l.fn.bytes (words_left l.words) l.place l.content × (end_at l.words ≡ length l.fn.bytes) × IsOpenTo l.place l.words.at

abbrev pub decreases-loop-word : goal.decreases-loop-word
decreases-loop-word l = length l.words.rest.now
