use Rattle.std.proofs.Common.{◌∙◌, ℕ, Option, ap, sym, refl}
use Rattle.scene_paths.specs.Lookups.{tree_of}
use Rattle.step_pieces.specs.Pieces.{behind, top}
use Rattle.step_pieces.specs.Drafts.{piece_of}
use Rattle.lowered_values.specs.Computed.{Computed}
use Rattle.lowered_values.specs.Code.{plain}
use Rattle.lowered_statements.proofs.Drafted.{none_adds}
use Rattle.lowered_behaviors.specs.Standpoints.{own_way}
use Rattle.lowered_behaviors.specs.Values.{label_by}
use Rattle.lowered_behaviors.specs.Positions.{standpoint_of}
use Rattle.lowered_behaviors.proofs.Flagged.{label_wordless, label_adds, label_out}
use Rattle.lowered_behaviors.proofs.flags.label.Goals as goal

pub returns-in-None-clause-draft : goal.returns-in-None-clause-draft
returns-in-None-clause-draft g c =
    let d = tree_of c.args.ground.now.words.now.described.now in
    let w = own_way (standpoint_of d c.args.home.now) in
    let old = piece_of c.args.draft.now in
    none_adds old old refl
    ∙ ap (λ (x : Computed). behind old x.piece) (sym (label_wordless d (top 0 old) c.args.name.now w) ∙ ap (λ (row : Option ℕ). label_by d (top 0 old) c.args.name.now row w) (sym c.in-None.is))

pub returns-in-None-clause-out : goal.returns-in-None-clause-out
returns-in-None-clause-out g c =
    let d = tree_of c.args.ground.now.words.now.described.now in
    let w = own_way (standpoint_of d c.args.home.now) in
    let old = piece_of c.args.draft.now in
    c.absent.ensures
    ∙ ap (λ (x : Computed). x.out) (sym (label_wordless d (top 0 old) c.args.name.now w) ∙ ap (λ (row : Option ℕ). label_by d (top 0 old) c.args.name.now row w) (sym c.in-None.is))

pub returns-in_ok-source-in-Some-way-clause-draft : goal.returns-in_ok-source-in-Some-way-clause-draft
returns-in_ok-source-in-Some-way-clause-draft g c =
    let d = tree_of c.args.ground.now.words.now.described.now in
    let w = own_way (standpoint_of d c.args.home.now) in
    let n = c.args.name.now in
    let old = piece_of c.args.draft.now in
    label_adds d n c.in-Some.base w c.in-Some-way.way old (piece_of c.label.new.draft) c.in-Some-way.ensures c.in_ok-source-in-Some-way.ensures.draft
    ∙ ap (λ (row : Option ℕ). behind old (label_by d (top 0 old) n row w).piece) (sym c.in-Some.is)

pub returns-in_ok-source-in-Some-way-clause-out : goal.returns-in_ok-source-in-Some-way-clause-out
returns-in_ok-source-in-Some-way-clause-out g c =
    let d = tree_of c.args.ground.now.words.now.described.now in
    let w = own_way (standpoint_of d c.args.home.now) in
    let n = c.args.name.now in
    let old = piece_of c.args.draft.now in
    label_out d n c.in-Some.base (top 0 old) w c.in-Some-way.way (plain c.in_ok-source-in-Some-way.source) c.in-Some-way.ensures c.in_ok-source-in-Some-way.ensures.out
    ∙ ap (λ (row : Option ℕ). (label_by d (top 0 old) n row w).out) (sym c.in-Some.is)
