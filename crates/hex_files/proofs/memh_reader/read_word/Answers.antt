use Rattle.std.proofs.Common.{Some, sym, ap, ◌∙◌}
use Rattle.hex_files.proofs.CellLoop.{bad, to_index, put_any}
use Rattle.hex_files.proofs.memh_reader.read_word.Goals as goal

pub returns-in_default : goal.returns-in_default
returns-in_default c = λ later. bad c.args.memory.now c.args.cells.now.items c.args.index c.args.at c.args.text.now later (sym c.in_default.ensures)

pub returns-in-Index : goal.returns-in-Index
returns-in-Index c = λ later. to_index c.args.memory.now c.args.cells.now.items c.args.index c.args.at c.args.text.now later c.in-Index.next (sym c.in-Some.ensures ∙ ap (λ w. Some w) c.in-Index.is)

pub returns-in-Value : goal.returns-in-Value
returns-in-Value c = λ later.
    put_any c.args.memory.now c.args.cells.now.items c.args.index c.args.at c.args.text.now later c.in-Value.value _ c.put_cell.result (sym c.in-Some.ensures ∙ ap (λ w. Some w) c.in-Value.is) c.put_cell.ensures
