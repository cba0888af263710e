use Rattle.std.proofs.Common.{◌≡◌, ◌≤◌, length, map}
use Rattle.lisa_tree.specs.Descriptions.{resource_tree}
use Rattle.lisa_tree.specs.Tokens.{toks}
use Rattle.lisa_words.specs.Many.{with_front, many}
use Rattle.lisa_section_reader.specs.Resources.{resource_of, ends, resources_of}
use Rattle.lisa_section_reader.proofs.resources.all_resources.Given as goal

abbrev pub invariant-each : goal.invariant-each
invariant-each l = (with_front (map resource_tree l.all.items) (many resource_of ends (toks l.rest)) ≡ resources_of (toks l.tokens)) × (length l.rest ≤ length l.tokens)

abbrev pub decreases-each : goal.decreases-each
decreases-each l = length l.rest
