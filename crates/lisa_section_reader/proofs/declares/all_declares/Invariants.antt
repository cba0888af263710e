use Rattle.std.proofs.Common.{◌≡◌, ◌≤◌, length, map}
use Rattle.lisa_tree.specs.Descriptions.{declare_tree}
use Rattle.lisa_tree.specs.Tokens.{toks}
use Rattle.lisa_words.specs.Many.{with_front, many}
use Rattle.lisa_section_reader.specs.Resources.{ends}
use Rattle.lisa_section_reader.specs.Declares.{declare_of, declares_of}
use Rattle.lisa_section_reader.proofs.declares.all_declares.Given as goal

abbrev pub invariant-each : goal.invariant-each
invariant-each l = (with_front (map declare_tree l.all.items) (many declare_of ends (toks l.rest)) ≡ declares_of (toks l.tokens)) × (length l.rest ≤ length l.tokens)

abbrev pub decreases-each : goal.decreases-each
decreases-each l = length l.rest
