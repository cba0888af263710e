use Rattle.std.proofs.Common.{◌+◌, length, arith}
use Rattle.std.proofs.lemmas.Result.{err_from_is_err_and}
use Rattle.hex_files.specs.MemhReading.{words_from}
use Rattle.hex_files.proofs.CellLoop.{first, all_read, word_read, word_missed}
use Rattle.hex_files.proofs.memh_reader.read_cells.Goals as goal

pub words-init : goal.words-init
words-init c = (first c.args.memory.now c.args.bytes.now c.new-cells.result.items c.new-cells.ensures.items, omega arith)

pub returns-in_err-after : goal.returns-in_err-after
returns-in_err-after c =
    let p = err_from_is_err_and c.from_residual.result c.from_residual.ensures.1 in
    let later = words_from (c.words.at + c.in-Some.skipped + length c.in-Some.text.now) c.in-Some.behind.now in
    rw (p.1, p.2) (word_missed c.args.memory.now c.words.cells.items c.words.next (c.words.at + c.in-Some.skipped) (words_from c.words.at c.words.rest.now) _ c.words.invariant.0 c.in-Some.text.now later c.words.cells.items c.in_err-after.field-0.0 (c.in-Some.ensures.words c.words.at) (c.in_err-after.ensures later))

pub words-preserved : goal.words-preserved
words-preserved c =
    let later = words_from (c.words.at + c.in-Some.skipped + length c.in-Some.text.now) c.in-Some.behind.now in (
      word_read c.args.memory.now c.words.cells.items c.words.next (c.words.at + c.in-Some.skipped) (words_from c.words.at c.words.rest.now) _ c.words.invariant.0 c.in-Some.text.now later c.in_ok-after.after _ (c.in-Some.ensures.words c.words.at) (c.in_ok-after.ensures later),
      omega (arith, c.words.invariant.1, c.in-Some.ensures.within),
    )

pub returns : goal.returns
returns c = all_read c.args.memory.now c.words.cells.items c.words.next (words_from c.words.at c.words.rest.now) _ c.words.invariant.0 (c.in_default.ensures.words c.words.at)
