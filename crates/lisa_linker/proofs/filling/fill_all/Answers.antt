use Rattle.std.proofs.Common.{◌+◌, refl, List, drop, map, subst, sym, rules, arith}
use Rattle.std.proofs.lemmas.List.{drop_all}
use Rattle.std.proofs.lemmas.Result.{err_from_is_err_and}
use Rattle.lisa_object.specs.declared.parts.Object.{Object}
use Rattle.lisa_object.specs.Objects.{object_tree}
use Rattle.placed_programs.specs.Addresses.{no_cells}
use Rattle.placed_programs.specs.Entries.{entries_of}
use Rattle.object_links.specs.LineNames.{parts_of}
use Rattle.object_links.specs.LineSizes.{count_of}
use Rattle.object_links.proofs.Steps.{one_object}
use Rattle.lisa_linker.specs.Tables.{cells_of}
use Rattle.lisa_linker.proofs.Filled.{ArePlaced, placed_first, placed_on, placed_fault, placed_all}
use Rattle.lisa_linker.proofs.filling.fill_all.Goals as goal

pub each-init : goal.each-init
each-init c = (refl, (λ m. search rules), λ shared is. placed_first shared (parts_of (map object_tree c.args.objects.now)) (count_of c.new-counts.result) (cells_of c.new-cells.result) (λ m. search rules) (λ m. search rules))

pub fill_object-requires-clause-counted : goal.fill_object-requires-clause-counted
fill_object-requires-clause-counted c = c.each.invariant.1

pub returns-in_err-fill_object-clause-fault : goal.returns-in_err-fill_object-clause-fault
returns-in_err-fill_object-clause-fault c = λ shared is.
    let P : List Object → Type 0 = λ os. ArePlaced shared (parts_of (map object_tree c.args.objects.now)) no_cells (c.each.number + 1) (count_of c.each.counts) (cells_of c.each.cells) (parts_of (map object_tree os)) in
    let p = err_from_is_err_and c.from_residual.result c.from_residual.ensures.1 in
    rw (p.1, p.2) (placed_fault shared (parts_of (map object_tree c.args.objects.now)) no_cells (c.each.number + 1) (count_of c.each.counts) (cells_of c.each.cells)
    (entries_of (object_tree c.object-item.result).lines) (parts_of (map object_tree (drop (c.each.object-index + 1) c.args.objects.now))) c.in_err-fill_object.field-0.0
    (subst P (one_object c.args.objects.now c.each.object-index c.object-item.result (omega arith) c.object-item.is) (c.each.invariant.2 shared is)) (c.in_err-fill_object.ensures.fault shared is))

pub each-preserved : goal.each-preserved
each-preserved c = (
  omega arith,
  c.in_ok-fill_object.ensures.sized,
  λ shared is.
      let P : List Object → Type 0 = λ os. ArePlaced shared (parts_of (map object_tree c.args.objects.now)) no_cells (c.each.number + 1) (count_of c.each.counts) (cells_of c.each.cells) (parts_of (map object_tree os)) in
      placed_on shared (parts_of (map object_tree c.args.objects.now)) no_cells (c.each.number + 1) (count_of c.each.counts) (count_of c.fill_object.new.counts) (cells_of c.each.cells) (cells_of c.fill_object.new.cells)
      (entries_of (object_tree c.object-item.result).lines) (parts_of (map object_tree (drop (c.each.object-index + 1) c.args.objects.now)))
      (subst P (one_object c.args.objects.now c.each.object-index c.object-item.result (omega arith) c.object-item.is) (c.each.invariant.2 shared is))
      c.in_ok-fill_object.ensures.counted (c.in_ok-fill_object.ensures.added shared is) (c.in_ok-fill_object.ensures.fits shared is),
)

pub returns-clause-added : goal.returns-clause-added
returns-clause-added c = λ shared is.
    let P : List Object → Type 0 = λ os. ArePlaced shared (parts_of (map object_tree c.args.objects.now)) no_cells (c.each.number + 1) (count_of c.each.counts) (cells_of c.each.cells) (parts_of (map object_tree os)) in
    placed_all shared (parts_of (map object_tree c.args.objects.now)) no_cells (c.each.number + 1) (count_of c.each.counts) (cells_of c.each.cells)
    (subst P (drop_all c.each.object-index c.args.objects.now (omega arith)) (c.each.invariant.2 shared is))

pub returns-clause-fits : goal.returns-clause-fits
returns-clause-fits c = λ shared is.
    let P : List Object → Type 0 = λ os. ArePlaced shared (parts_of (map object_tree c.args.objects.now)) no_cells (c.each.number + 1) (count_of c.each.counts) (cells_of c.each.cells) (parts_of (map object_tree os)) in
    let p = subst P (drop_all c.each.object-index c.args.objects.now (omega arith)) (c.each.invariant.2 shared is) in
    sym p.ranges
