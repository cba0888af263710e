use Rattle.std.proofs.Common.{◌≡◌, drop}
use Rattle.std.specs.List.{flat_map}
use Rattle.instruction_texts.specs.Symbols.{is_clean}
use Rattle.form_texts.specs.Strings.{symbols_of, clean_behind}
use Rattle.form_texts.proofs.conditions.is_clean.Given as goal

abbrev pub invariant-loop-symbol : goal.invariant-loop-symbol
invariant-loop-symbol l = clean_behind l.behind_number (flat_map (symbols_of l.strings) (drop l.symbol-index l.symbols)) ≡ is_clean (flat_map (symbols_of l.strings) l.symbols)
