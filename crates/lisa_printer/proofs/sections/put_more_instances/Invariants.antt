use Rattle.std.proofs.Common.{◌≡◌, drop}
use Rattle.lisa_printer.specs.CanonicalTokens.{more_instances}
use Rattle.lisa_printer.specs.Sheets.{write_all}
use Rattle.lisa_printer.proofs.sections.put_more_instances.Given as goal

abbrev pub invariant-loop-name : goal.invariant-loop-name
invariant-loop-name l = write_all l.page (more_instances (drop l.name-index l.rest)) ≡ write_all l.initial.page (more_instances l.rest)
