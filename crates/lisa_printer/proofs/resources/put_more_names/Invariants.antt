use Rattle.std.proofs.Common.{◌≡◌, drop}
use Rattle.lisa_printer.specs.CanonicalTokens.{more_names}
use Rattle.lisa_printer.specs.Sheets.{write_all}
use Rattle.lisa_printer.proofs.resources.put_more_names.Given as goal

abbrev pub invariant-loop-name : goal.invariant-loop-name
invariant-loop-name l = write_all l.page (more_names l.sign (drop l.name-index l.rest)) ≡ write_all l.initial.page (more_names l.sign l.rest)
