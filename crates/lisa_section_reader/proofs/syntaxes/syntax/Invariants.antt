use Rattle.std.proofs.Common.{◌≡◌, ◌<◌, length}
use Rattle.lisa_tree.specs.Tokens.{toks}
use Rattle.lisa_words.specs.Many.{with_front, many}
use Rattle.lisa_section_reader.specs.Resources.{ends}
use Rattle.lisa_section_reader.specs.Syntaxes.{syntax_item_of, syntax_of}
use Rattle.lisa_section_reader.proofs.syntaxes.syntax.Given as goal

abbrev pub invariant-each : goal.invariant-each
invariant-each l = (with_front l.all.items (many syntax_item_of ends (toks l.rest)) ≡ syntax_of (toks l.tokens)) × (length l.rest < length l.tokens)

abbrev pub decreases-each : goal.decreases-each
decreases-each l = length l.rest
