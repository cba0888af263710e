-- What the code puts behind a draft.
use Rattle.std.specs.Prelude.{◌≡◌}
use Rattle.step_pieces.specs.declared.drafts.Draft.{Draft}
use Rattle.step_pieces.specs.declared.leaves.Leaf.{Leaf}
use Rattle.step_pieces.specs.Pieces.{Builder, behind, top}
use Rattle.step_pieces.specs.Drafts.{leaf_tree, piece_of}
use Rattle.lowered_time.specs.Pieces.{Maker}

-- a builder's piece stands behind what was drafted before
abbrev pub Adds : Builder → (old new : Draft) → Type 0
Adds builder old new = piece_of new ≡ behind (piece_of old) (builder (top 0 (piece_of old)))

-- and so does what makes a value, which the leaf is
pub record Makes (maker : Maker) (old new : Draft) (out : Leaf) : Type 0 where
  pub added : Adds (λ from. (maker from).piece) old new
  pub is_out : leaf_tree out ≡ (maker (top 0 (piece_of old))).out
