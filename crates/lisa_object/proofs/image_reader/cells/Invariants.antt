use Rattle.std.proofs.Common.{◌≡◌, ◌-◌}
use Rattle.std.specs.Option.{option_copied}
use Rattle.text_lines.specs.Cuts.{parts_behind}
use Rattle.lisa_object.specs.ImageReading.{cells_of}
use Rattle.lisa_object.proofs.CellLoop.{cells_with}
use Rattle.lisa_object.proofs.image_reader.cells.Given as goal

abbrev pub invariant-each : goal.invariant-each
invariant-each l = cells_with l.cells.items (cells_of l.width (l.count - l.counter) (parts_behind 10 (option_copied l.rest))) ≡ cells_of l.width l.count (parts_behind 10 (option_copied l.fn.left))
