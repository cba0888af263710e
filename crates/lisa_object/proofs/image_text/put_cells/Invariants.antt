use Rattle.std.proofs.Common.{◌≡◌, ◌++◌, take, map}
use Rattle.lisa_object.specs.Texts.{text_of, hex}
use Rattle.lisa_object.proofs.image_text.put_cells.Given as goal

abbrev pub invariant-loop-cell : goal.invariant-loop-cell
invariant-loop-cell l = l.out.items ≡ l.fn.out.items ++ text_of (map hex (take l.cell-index l.cells))
