use Rattle.std.proofs.Common.{◌≡◌, length, sym, ◌∙◌, arith}
use Rattle.std.specs.Option.{option_copied}
use Rattle.text_lines.specs.Cuts.{parts_behind}
use Rattle.lisa_object.proofs.CellLoop.{cells_counted}
use Rattle.lisa_object.proofs.image_reader.memory.Goals as goal

pub returns-clause-seen : goal.returns-clause-seen
returns-clause-seen c = λ names h. rw c.in_ok-name.ensures ((c.in_ok-enter.ensures.new names h).1)

pub returns-clause-total : goal.returns-clause-total
returns-clause-total c =
    let counted = cells_counted c.in-Some.extent.width c.in-Some.extent.count _ c.in_ok-cells.cells.items _ c.in_ok-cells.ensures in
    (omega (arith, counted.cells), omega (arith, c.if-extent-before.false))
