use Rattle.std.proofs.Common.{◌≡◌, ◌∙◌, sym, get_or, true, arith}
use Rattle.std.proofs.Math.Seq.{drop-cons}
use Rattle.std.proofs.lemmas.Grind.{common_steps}
use Rattle.lisa_io.specs.Memory.{named}
use Rattle.lisa_io.proofs.Found.{find_here}
use Rattle.lisa_io.proofs.files.place_of.Goals as goal

pub returns-then-eq-clause-found : goal.returns-then-eq-clause-found
returns-then-eq-clause-found c = λ d.
    let passes : named c.args.name.now (get_or c.args.files.now c.loop-place.place d) ≡ true = grind (arith, common_steps) in
    sym c.loop-place.invariant.0 ∙ find_here (named c.args.name.now) _ _ _ (drop-cons c.args.files.now c.loop-place.place d (omega arith)) passes

pub returns-then-eq-clause-first : goal.returns-then-eq-clause-first
returns-then-eq-clause-first c = λ d k h. c.loop-place.invariant.1 d k h
