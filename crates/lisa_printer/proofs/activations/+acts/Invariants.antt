use Rattle.std.proofs.Common.{◌≡◌, drop}
use Rattle.lisa_tree.specs.Activations.{act_trees}
use Rattle.lisa_printer.specs.CanonicalTokens.{acts_tokens}
use Rattle.lisa_printer.specs.Sheets.{write_all}
use Rattle.lisa_printer.proofs.LoopLaws.{acts_after}
use Rattle.lisa_printer.proofs.activations.+acts.Given as goal

abbrev pub invariant-put_acts-loop-a : goal.invariant-put_acts-loop-a
invariant-put_acts-loop-a l = write_all l.page (acts_after l.first (act_trees (drop l.a-index l.all))) ≡ write_all l.initial.page (acts_tokens (act_trees l.all))
