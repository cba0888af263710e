use Rattle.std.proofs.Common.{◌≡◌, ◌≤◌, length, map}
use Rattle.lisa_tree.specs.Descriptions.{section_tree}
use Rattle.lisa_tree.specs.Tokens.{toks}
use Rattle.lisa_words.specs.Many.{with_front}
use Rattle.lisa_reader.specs.Reading.{sections_of}
use Rattle.lisa_reader.proofs.sections.sections.Given as goal

abbrev pub invariant-each : goal.invariant-each
invariant-each l = (with_front (map section_tree l.all.items) (sections_of (toks l.rest)) ≡ sections_of (toks l.tokens)) × (length l.rest ≤ length l.tokens)

abbrev pub decreases-each : goal.decreases-each
decreases-each l = length l.rest
