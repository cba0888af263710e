use Rattle.std.proofs.Common.{◌≡◌, length}
use Rattle.std.specs.Option.{option_copied}
use Rattle.text_lines.specs.Cuts.{parts_behind}
use Rattle.lisa_object.specs.ObjectReading.{terms_of}
use Rattle.lisa_object.proofs.TermLoop.{terms_with}
use Rattle.lisa_object.proofs.object_line.terms.Given as goal

abbrev pub invariant-each : goal.invariant-each
invariant-each l = terms_with l.all.items (terms_of (parts_behind 32 (option_copied l.rest))) ≡ terms_of (parts_behind 32 (option_copied l.fn.left))

abbrev pub decreases-each : goal.decreases-each
decreases-each l = length (parts_behind 32 (option_copied l.rest))
