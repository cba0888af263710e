use Rattle.std.proofs.Common.{◌≡◌, ℕ, ◌+◌, ◌-◌, ◌≤◌, drop, length}
use Rattle.hex_files.specs.MemhReading.{words_from}
use Rattle.hex_files.proofs.memh_words.next_word.Given as goal

abbrev pub invariant-gaps : goal.invariant-gaps
invariant-gaps l = ((at : ℕ) → words_from (at + l.skipped) (drop l.skipped l.text) ≡ words_from at l.text) × (l.skipped ≤ length l.text)

abbrev pub decreases-gaps : goal.decreases-gaps
decreases-gaps l = length l.text - l.skipped
