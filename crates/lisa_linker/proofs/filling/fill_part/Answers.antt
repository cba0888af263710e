use Rattle.std.proofs.Common.{map}
use Rattle.std.proofs.lemmas.Result.{err_from_is_err_and}
use Rattle.lisa_object.specs.Objects.{object_line_tree}
use Rattle.placed_programs.specs.Entries.{entries_of}
use Rattle.object_links.specs.LineSizes.{count_of}
use Rattle.lisa_linker.specs.Tables.{symbols_in, cells_of}
use Rattle.lisa_linker.proofs.Filled.{part_added, part_range, part_stops, part_sized}
use Rattle.std.proofs.Common.{sym, ◌∙◌}
use Rattle.lisa_linker.proofs.filling.fill_part.Goals as goal

pub returns-in_err-fill_lines-clause-fault : goal.returns-in_err-fill_lines-clause-fault
returns-in_err-fill_lines-clause-fault c = λ shared is.
    let p = err_from_is_err_and c.from_residual.result c.from_residual.ensures.1 in
    rw (p.1, p.2) (part_stops c.args.number c.in-Ok.own c.args.others.now shared (count_of c.args.counts.now) (cells_of c.args.cells.now) (cells_of c.fill_lines.new.cells) (entries_of (map object_line_tree c.args.lines.now))
    c.requires.counted c.in-Ok.ensures.values is c.in_err-fill_lines.field-0.0 c.in_err-fill_lines.ensures.fault)

pub returns-clause-sized : goal.returns-clause-sized
returns-clause-sized c =
    part_sized (symbols_in c.in-Ok.own c.args.others.now) (count_of c.args.counts.now) (count_of c.line_values.new.counts) (cells_of c.args.cells.now) (cells_of c.fill_lines.new.cells) (entries_of (map object_line_tree c.args.lines.now))
    c.requires.counted c.in-Ok.ensures.counted c.in_ok-fill_lines.ensures.added

pub returns-clause-added : goal.returns-clause-added
returns-clause-added c = λ shared is.
    part_added c.args.number c.in-Ok.own c.args.others.now shared (count_of c.args.counts.now) (cells_of c.args.cells.now) (cells_of c.fill_lines.new.cells) (entries_of (map object_line_tree c.args.lines.now))
    c.requires.counted c.in-Ok.ensures.values is c.in_ok-fill_lines.ensures.added

pub returns-clause-fits : goal.returns-clause-fits
returns-clause-fits c = λ shared is.
    sym (part_range c.args.number c.in-Ok.own c.args.others.now shared (count_of c.args.counts.now) (cells_of c.args.cells.now) (cells_of c.fill_lines.new.cells) (entries_of (map object_line_tree c.args.lines.now))
    c.requires.counted c.in-Ok.ensures.values is) ∙ c.in_ok-fill_lines.ensures.fits
