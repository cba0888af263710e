use Rattle.std.proofs.Common.{◌≡◌, ◌+◌, ◌≤◌, length}
use Rattle.lisa_tree.specs.Tokens.{toks}
use Rattle.lisa_reader.specs.Skipping.{skip_of}
use Rattle.lisa_reader.proofs.skipping.skipped.Given as goal

abbrev pub invariant-each : goal.invariant-each
invariant-each l = (skip_of (toks l.rest) l.inner ≡ skip_of (toks l.tokens) 0) × (l.inner + length l.rest ≤ length l.tokens)

abbrev pub decreases-each : goal.decreases-each
decreases-each l = length l.rest
