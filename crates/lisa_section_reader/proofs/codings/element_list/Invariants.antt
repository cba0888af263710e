use Rattle.std.proofs.Common.{◌≡◌, ◌<◌, length}
use Rattle.lisa_tree.specs.Tokens.{toks}
use Rattle.lisa_words.specs.Many.{with_front, many}
use Rattle.lisa_section_reader.specs.Resources.{ends}
use Rattle.lisa_section_reader.specs.Codings.{element_of, element_list_of}
use Rattle.lisa_section_reader.proofs.codings.element_list.Given as goal

abbrev pub invariant-each : goal.invariant-each
invariant-each l = (with_front l.all.items (many element_of ends (toks l.rest)) ≡ element_list_of (toks l.tokens)) × (length l.rest < length l.tokens)

abbrev pub decreases-each : goal.decreases-each
decreases-each l = length l.rest
