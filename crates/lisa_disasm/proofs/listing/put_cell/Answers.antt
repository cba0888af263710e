use Rattle.std.proofs.Common.{◌∙◌, ◌++◌, ◌∷◌, [], Err, refl}
use Rattle.lisa_engine.specs.declared.trace.TraceEnd.TheVariants.{NoMemory}
use Rattle.lisa_engine.proofs.TraceTexts.{unless_wanted, unless_failed, unless_ok, unless_over}
use Rattle.lisa_disasm.proofs.Lined.{written_line}
use Rattle.lisa_disasm.proofs.listing.put_cell.Goals as goal

pub returns-in_default : goal.returns-in_default
returns-in_default g c = λ d own is syntax line. unless_wanted (own ++ 10 ∷ []) (Err NoMemory) refl

pub returns-in_err-put_all : goal.returns-in_err-put_all
returns-in_err-put_all g c = λ d own is syntax line.
    unless_over (c.deref.ensures.value ∙ written_line d c.args.coding.now is c.args.is_code c.args.word own c.in-Ok.line.items line (c.in-Ok.ensures d is syntax))
    (unless_failed _ _ c.from_residual.ensures.1 c.in_err-put_all.ensures)

pub returns : goal.returns
returns g c = λ d own is syntax line.
    unless_over (c.deref.ensures.value ∙ written_line d c.args.coding.now is c.args.is_code c.args.word own c.in-Ok.line.items line (c.in-Ok.ensures d is syntax))
    (unless_ok c.in_ok-put_all.ensures)
