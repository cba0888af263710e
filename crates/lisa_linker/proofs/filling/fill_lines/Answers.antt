use Rattle.std.proofs.Common.{List, map, subst}
use Rattle.std.specs.Option.{option_copied}
use Rattle.std.proofs.lemmas.Result.{err_from_is_err_and}
use Rattle.lisa_object.specs.declared.parts.ObjectLine.{ObjectLine}
use Rattle.lisa_object.specs.Objects.{object_line_tree}
use Rattle.lisa_linker.specs.Tables.{symbols_of, cells_of}
use Rattle.lisa_linker.proofs.Filled.{AreFilled, filled_first, filled_on, line_stops, filled_all, ranges_all}
use Rattle.lisa_linker.proofs.FixBits.{ready}
use Rattle.lisa_linker.proofs.filling.fill_lines.Goals as goal

pub each-init : goal.each-init
each-init c = filled_first c.args.number (symbols_of c.args.values) (cells_of c.args.cells.now) (map object_line_tree c.args.lines.now) c.requires.lines

pub fill_here-requires-clause-ready : goal.fill_here-requires-clause-ready
fill_here-requires-clause-ready c =
    let P : List ObjectLine → Type 0 = λ ls. AreFilled c.args.number (symbols_of c.args.values) (cells_of c.args.cells.now) (map object_line_tree c.args.lines.now)
    (cells_of c.each.cells) (option_copied c.each.here) (map object_line_tree ls) in
    let a = subst P c.in-Some.ensures c.each.invariant in
    ready a.standing (object_line_tree c.in-Some.line.now) (map object_line_tree c.in-Some.rest.now) a.lines a.narrow

pub returns-in_err-fill_here-clause-fault : goal.returns-in_err-fill_here-clause-fault
returns-in_err-fill_here-clause-fault c =
    let P : List ObjectLine → Type 0 = λ ls. AreFilled c.args.number (symbols_of c.args.values) (cells_of c.args.cells.now) (map object_line_tree c.args.lines.now)
    (cells_of c.each.cells) (option_copied c.each.here) (map object_line_tree ls) in
    let p = err_from_is_err_and c.from_residual.result c.from_residual.ensures.1 in
    rw (p.1, p.2) (line_stops c.args.number (symbols_of c.args.values) (cells_of c.args.cells.now) (map object_line_tree c.args.lines.now) (cells_of c.each.cells) (option_copied c.each.here)
    (object_line_tree c.in-Some.line.now) (map object_line_tree c.in-Some.rest.now) c.in_err-fill_here.field-0.0 (subst P c.in-Some.ensures c.each.invariant) c.in_err-fill_here.ensures.fault)

pub each-preserved : goal.each-preserved
each-preserved c =
    let P : List ObjectLine → Type 0 = λ ls. AreFilled c.args.number (symbols_of c.args.values) (cells_of c.args.cells.now) (map object_line_tree c.args.lines.now)
    (cells_of c.each.cells) (option_copied c.each.here) (map object_line_tree ls) in
    filled_on c.args.number (symbols_of c.args.values) (cells_of c.args.cells.now) (map object_line_tree c.args.lines.now) (cells_of c.each.cells) (cells_of c.fill_here.new.cells)
    (option_copied c.each.here) (option_copied c.line_enters-here.result) (object_line_tree c.in-Some.line.now) (map object_line_tree c.in-Some.rest.now) (subst P c.in-Some.ensures c.each.invariant)
    c.in_ok-fill_here.ensures.added c.in_ok-fill_here.ensures.fits c.line_enters-here.ensures

pub returns-clause-added : goal.returns-clause-added
returns-clause-added c =
    let P : List ObjectLine → Type 0 = λ ls. AreFilled c.args.number (symbols_of c.args.values) (cells_of c.args.cells.now) (map object_line_tree c.args.lines.now)
    (cells_of c.each.cells) (option_copied c.each.here) (map object_line_tree ls) in
    filled_all c.args.number (symbols_of c.args.values) (cells_of c.args.cells.now) (map object_line_tree c.args.lines.now) (cells_of c.each.cells) (option_copied c.each.here) (subst P c.in_default.ensures c.each.invariant)

pub returns-clause-fits : goal.returns-clause-fits
returns-clause-fits c =
    let P : List ObjectLine → Type 0 = λ ls. AreFilled c.args.number (symbols_of c.args.values) (cells_of c.args.cells.now) (map object_line_tree c.args.lines.now)
    (cells_of c.each.cells) (option_copied c.each.here) (map object_line_tree ls) in
    ranges_all c.args.number (symbols_of c.args.values) (cells_of c.args.cells.now) (map object_line_tree c.args.lines.now) (cells_of c.each.cells) (option_copied c.each.here) (subst P c.in_default.ensures c.each.invariant)
