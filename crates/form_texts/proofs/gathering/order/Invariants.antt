use Rattle.std.proofs.Common.{◌≡◌, ◌++◌, List, drop}
use Rattle.std.specs.List.{flat_map}
use Rattle.instruction_texts.specs.Symbols.{shown_values}
use Rattle.form_texts.specs.Strings.{symbols_of}
use Rattle.form_texts.specs.declared.strings.Strings.{Strings}
use Rattle.form_texts.proofs.gathering.order.Given as goal

abbrev pub invariant-loop-symbol : goal.invariant-loop-symbol
invariant-loop-symbol l = (strings : List Strings) → l.order.items ++ shown_values (flat_map (symbols_of strings) (drop l.symbol-index l.symbols)) ≡ shown_values (flat_map (symbols_of strings) l.symbols)
