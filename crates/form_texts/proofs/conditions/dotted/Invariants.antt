use Rattle.std.proofs.Common.{◌≡◌, drop}
use Rattle.form_texts.specs.Pieces.{dotted}
use Rattle.form_texts.proofs.conditions.dotted.Given as goal

abbrev pub invariant-loop-shape : goal.invariant-loop-shape
invariant-loop-shape l = dotted (drop l.shape-index l.shapes) ≡ dotted l.shapes
