use Rattle.std.proofs.Common.{◌≡◌, ◌≤◌, length}
use Rattle.lisa_tree.specs.Tokens.{toks}
use Rattle.lisa_words.specs.Many.{with_front, many}
use Rattle.lisa_section_reader.specs.Lists.{field_of, ends_fields, fields_of}
use Rattle.lisa_section_reader.proofs.lists.fields.Given as goal

abbrev pub invariant-each : goal.invariant-each
invariant-each l = (with_front l.all.items (many field_of ends_fields (toks l.rest)) ≡ fields_of (toks l.tokens)) × (length l.rest ≤ length l.tokens)

abbrev pub decreases-each : goal.decreases-each
decreases-each l = length l.rest
