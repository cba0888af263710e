use Rattle.std.proofs.Common.{◌≡◌, ◌≤◌, length, map}
use Rattle.lisa_tree.specs.Descriptions.{operation_tree}
use Rattle.lisa_tree.specs.Tokens.{toks}
use Rattle.lisa_words.specs.Many.{many, with_front}
use Rattle.lisa_reader.specs.Reading.{operation_of, is_done, operations_of}
use Rattle.lisa_reader.proofs.operations.operations.Given as goal

abbrev pub invariant-each : goal.invariant-each
invariant-each l = with_front (map operation_tree l.all.items) (many operation_of is_done (toks l.rest)) ≡ operations_of (toks l.tokens)

abbrev pub decreases-each : goal.decreases-each
decreases-each l = length l.rest
