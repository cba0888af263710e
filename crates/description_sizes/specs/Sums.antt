-- What an occurrence adds to the counts of the unfolded text, by the counts of its operation.
use Rattle.std.specs.Prelude.{ℕ, unwrap_or}
use Rattle.activation_trees.specs.declared.parts.Occurrence.{Occurrence}
use Rattle.text_counts.specs.Tables.{TextTable, nodes_of}

abbrev pub statements_by : TextTable → Occurrence → ℕ
statements_by t x = unwrap_or (t.statements x.operation) 0

abbrev pub nodes_by : TextTable → Occurrence → ℕ
nodes_by t x = unwrap_or (nodes_of t x.operation) 0
