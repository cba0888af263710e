use Rattle.std.proofs.Common.{◌≡◌, ◌++◌, drop}
use Rattle.lisa_tree.specs.Descriptions.{description_tree}
use Rattle.lisa_tree.specs.Operations.{numbers_of}
use Rattle.description_tables.proofs.choices.add_numbers.Given as goal

abbrev pub invariant-loop-name : goal.invariant-loop-name
invariant-loop-name l =
    let d = description_tree l.globals.description.now in
    l.numbers.items ++ numbers_of d (drop l.name-index l.names) ≡ l.fn.numbers.items ++ numbers_of d l.names
