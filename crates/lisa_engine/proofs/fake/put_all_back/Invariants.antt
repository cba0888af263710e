use Rattle.std.proofs.Common.{◌≡◌, ◌≤◌, length, [], ◌∷◌, drop}
use Rattle.lisa_engine.specs.Touches.{put_back}
use Rattle.lisa_engine.proofs.fake.put_all_back.Given as goal

abbrev pub invariant-loop-left : goal.invariant-loop-left
invariant-loop-left l = (l.left ≤ length l.touches) × (l.cells ∷ [] ≡ put_back (drop l.left l.touches) (l.fn.cells ∷ []))

abbrev pub decreases-loop-left : goal.decreases-loop-left
decreases-loop-left l = l.left
