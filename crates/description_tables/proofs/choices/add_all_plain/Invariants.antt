use Rattle.std.proofs.Common.{◌≡◌, ◌++◌, drop}
use Rattle.lisa_tree.specs.Descriptions.{description_tree}
use Rattle.description_tables.specs.Laws.{no_aliases}
use Rattle.description_tables.proofs.choices.add_all_plain.Given as goal

abbrev pub invariant-loop-number : goal.invariant-loop-number
invariant-loop-number l =
    let d = description_tree l.globals.description.now in
    l.plain.items ++ no_aliases d (drop l.number-index l.numbers) ≡ l.fn.plain.items ++ no_aliases d l.numbers
