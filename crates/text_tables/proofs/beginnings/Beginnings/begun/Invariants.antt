use Rattle.std.proofs.Common.{◌≡◌, ◌++◌, Some, None, take}
use Rattle.std.specs.List.{flat_map}
use Rattle.instruction_texts.specs.Starts.{start_of}
use Rattle.text_tables.specs.Beginnings.{numbers_of}
use Rattle.text_tables.proofs.beginnings.Beginnings.begun.Given as goal

abbrev pub invariant-starts : goal.invariant-starts
invariant-starts l = l.forms.items ≡ numbers_of l.self None ++ flat_map (λ start. numbers_of l.self (Some (start_of start))) (take l.start-index l.start-items)
