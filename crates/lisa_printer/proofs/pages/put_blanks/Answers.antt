use Rattle.std.proofs.Common.{◌++◌, ◌∷◌, [], List, ℕ, ap, ◌∙◌}
use Rattle.lisa_printer.proofs.SheetLaws.{two_blanks}
use Rattle.lisa_printer.proofs.pages.put_blanks.Goals as goal

pub loop-preserved : goal.loop-preserved
loop-preserved c =
    c.in_ok-extend_from_slice.ensures.items ∙ ap (λ (xs : List ℕ). xs ++ (32 ∷ 32 ∷ [])) c.loop.invariant ∙ two_blanks c.args.bytes.now.items c.loop.counter
