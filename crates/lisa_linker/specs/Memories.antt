-- The memories that programs are linked for.
use Rattle.std.specs.Prelude.{◌≤◌, ◌≢◌, List, All, AllPairs, sum_by}
use Rattle.lisa_engine.specs.declared.parts.ArrayItem.{ArrayItem}
use Rattle.lisa_engine.specs.Images.{IsDepth}

pub record IsPlace (a : ArrayItem) : Type 0 where
  pub narrow : 1 ≤ a.width
  pub wide : a.width ≤ 64
  pub depth : IsDepth a.depth

-- memories with names of their own, of at most 4,194,304 cells together
pub record AreMemories (memories : List ArrayItem) : Type 0 where
  pub places : All IsPlace memories
  pub distinct : AllPairs (λ a b. a.name ≢ b.name) memories
  pub total : sum_by (λ a. a.depth) memories ≤ 4194304
