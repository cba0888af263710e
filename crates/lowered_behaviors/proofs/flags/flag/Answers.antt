use Rattle.std.proofs.Common.{◌∙◌, ℕ, Option, ap, sym}
use Rattle.scene_paths.specs.Lookups.{tree_of}
use Rattle.step_pieces.specs.Drafts.{leaf_tree}
use Rattle.lowered_behaviors.specs.Standpoints.{own_way}
use Rattle.lowered_behaviors.specs.Values.{flag}
use Rattle.lowered_behaviors.specs.Positions.{standpoint_of}
use Rattle.lowered_behaviors.proofs.Flagged.{flag_apart, flag_known}
use Rattle.lowered_behaviors.proofs.flags.flag.Goals as goal

pub returns-in-None : goal.returns-in-None
returns-in-None g c =
    let d = tree_of c.args.ground.now.words.now.described.now in
    c.bit.ensures ∙ flag_apart d c.args.ground.now.row (own_way (standpoint_of d c.args.positions.now)) c.in-None.ensures

pub returns-in_ok-flag-in-Some-row : goal.returns-in_ok-flag-in-Some-row
returns-in_ok-flag-in-Some-row g c =
    let d = tree_of c.args.ground.now.words.now.described.now in
    let w = own_way (standpoint_of d c.args.positions.now) in
    flag_known d c.in-Some-row.base w c.in-Some.way (leaf_tree c.in_ok-flag-in-Some-row.flag) c.in-Some.ensures c.in_ok-flag-in-Some-row.ensures
    ∙ ap (λ (row : Option ℕ). flag d row w) (sym c.in-Some-row.is)
