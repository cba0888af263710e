use Rattle.std.proofs.Common.{◌≡◌, List, ℕ, ◌-◌, ◌∷◌, [], Some, None, refl, sym, ap, ◌∙◌, arith}
use Rattle.std.specs.Option.{option_copied}
use Rattle.text_lines.specs.Cuts.{parts_behind}
use Rattle.lisa_object.specs.ImageReading.{cells_of}
use Rattle.lisa_object.proofs.CellLoop.{cells_with, begins, lacking, spoiled, goes_on, whole}
use Rattle.lisa_object.proofs.image_reader.cells.Goals as goal

pub each-init : goal.each-init
each-init c =
    let whole : c.args.count - 0 ≡ c.args.count = omega arith in
    ap (λ (l : List ℕ). cells_with l (cells_of c.args.width (c.args.count - 0) (parts_behind 10 (option_copied c.args.left)))) c.new-cells.ensures.items
    ∙ begins (cells_of c.args.width (c.args.count - 0) (parts_behind 10 (option_copied c.args.left))) ∙ ap (λ (n : ℕ). cells_of c.args.width n (parts_behind 10 (option_copied c.args.left))) whole

pub returns-in_default : goal.returns-in_default
returns-in_default c = lacking c.args.width c.args.count c.each.counter c.each.cells.items (parts_behind 10 (option_copied c.each.rest)) _ c.each.invariant c.each-test.true (ap (λ o. parts_behind 10 (option_copied o)) c.in_default.is)

pub returns-in_default-cell_at : goal.returns-in_default-cell_at
returns-in_default-cell_at c =
    let first : parts_behind 10 (option_copied c.each.rest) ≡ c.cut.result.0.now ∷ parts_behind 10 (option_copied c.cut.result.1) = ap (λ o. parts_behind 10 (option_copied o)) c.in-Some.is ∙ c.cut.ensures.parts in
    spoiled c.args.width c.args.count c.each.counter c.each.cells.items (parts_behind 10 (option_copied c.each.rest)) _ c.each.invariant c.each-test.true c.cut.result.0.now (parts_behind 10 (option_copied c.cut.result.1)) first (sym c.in_default-cell_at.ensures)

pub each-preserved : goal.each-preserved
each-preserved c =
    let first : parts_behind 10 (option_copied c.each.rest) ≡ c.cut.result.0.now ∷ parts_behind 10 (option_copied c.cut.result.1) = ap (λ o. parts_behind 10 (option_copied o)) c.in-Some.is ∙ c.cut.ensures.parts in
    rw c.in_ok-push.ensures.items (goes_on c.args.width c.args.count c.each.counter c.each.cells.items (parts_behind 10 (option_copied c.each.rest)) _ c.each.invariant c.each-test.true c.cut.result.0.now (parts_behind 10 (option_copied c.cut.result.1)) c.in-Some-cell_at.cell first (sym c.in-Some-cell_at.ensures))

pub returns : goal.returns
returns c = whole c.args.width c.args.count c.each.counter c.each.cells.items (parts_behind 10 (option_copied c.each.rest)) _ c.each.invariant c.each-test.false
