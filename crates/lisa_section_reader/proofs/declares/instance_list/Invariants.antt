use Rattle.std.proofs.Common.{◌≡◌, ◌<◌, length}
use Rattle.lisa_tree.specs.Tokens.{toks}
use Rattle.lisa_words.specs.Many.{with_front, many}
use Rattle.lisa_section_reader.specs.Declares.{next_instance_of, ends_instances, instance_list_of}
use Rattle.lisa_section_reader.proofs.declares.instance_list.Given as goal

abbrev pub invariant-each : goal.invariant-each
invariant-each l = (with_front l.all.items (many next_instance_of ends_instances (toks l.rest)) ≡ instance_list_of (toks l.tokens)) × (length l.rest < length l.tokens)

abbrev pub decreases-each : goal.decreases-each
decreases-each l = length l.rest
