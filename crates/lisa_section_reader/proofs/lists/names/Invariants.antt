use Rattle.std.proofs.Common.{◌≡◌, ◌<◌, length}
use Rattle.lisa_tree.specs.Tokens.{toks}
use Rattle.lisa_words.specs.Many.{with_front, many}
use Rattle.lisa_section_reader.specs.Lists.{behind_of, ends_names, names_of}
use Rattle.lisa_section_reader.proofs.lists.names.Given as goal

abbrev pub invariant-each : goal.invariant-each
invariant-each l = (with_front l.all.items (many (behind_of l.sign) (ends_names l.sign) (toks l.rest)) ≡ names_of l.sign (toks l.tokens)) × (length l.rest < length l.tokens)

abbrev pub decreases-each : goal.decreases-each
decreases-each l = length l.rest
