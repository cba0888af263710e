use Rattle.std.proofs.Common.{◌≡◌, Some, None, sym, ◌∙◌}
use Rattle.std.proofs.lemmas.Result.{err_from_is_err_and}
use Rattle.lisa_object.proofs.ImageStart.{unopened, opened, fails}
use Rattle.lisa_object.proofs.image_reader.image.Goals as goal

pub returns-in_default : goal.returns-in_default
returns-in_default c = unopened _ _ _ c.cut.ensures.parts (sym c.in_default.ensures)

pub returns-in_err-memories : goal.returns-in_err-memories
returns-in_err-memories c =
    let p = err_from_is_err_and c.from_residual.result c.from_residual.ensures.1 in
    rw (p.1, p.2) (fails _ _ _ c.cut.ensures.parts c.in-Some.digest (sym c.in-Some.ensures) c.in_err-memories.field-0.0 c.in_err-memories.ensures)

pub returns : goal.returns
returns c = opened _ _ _ c.cut.ensures.parts c.in-Some.digest (sym c.in-Some.ensures) _ c.in_ok-memories.ensures
