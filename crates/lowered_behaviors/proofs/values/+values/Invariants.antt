-- The levels fall with each EXPRESSION of a child. What is left to prepare and to choose gives the same in the end.
use Rattle.std.proofs.Common.{◌≡◌, ℕ, ◌+◌, ◌*◌, List, drop, map}
use Rattle.std.specs.Map.{lookup}
use Rattle.name_tables.specs.TableViews.{value_of}
use Rattle.lisa_tree.specs.Same.{same_name}
use Rattle.scene_paths.specs.Lookups.{tree_of}
use Rattle.step_pieces.specs.Pieces.{behind}
use Rattle.step_pieces.specs.Drafts.{piece_of}
use Rattle.lowered_values.specs.Code.{plain}
use Rattle.lowered_statements.specs.Code.{base, scope_of}
use Rattle.lowered_behaviors.specs.Standpoints.{alternatives_at}
use Rattle.lowered_behaviors.specs.Values.{chosen_value, decoded_in}
use Rattle.lowered_behaviors.specs.Code.{expressed_within, ground_of, prepared_within, texts_of}
use Rattle.lowered_behaviors.specs.Positions.{standpoint_of, stood}
use Rattle.lowered_behaviors.proofs.Preparing.{found_before}
use Rattle.lowered_behaviors.proofs.values.+values.Given as goal

abbrev pub decreases-value_below : goal.decreases-value_below
decreases-value_below g l = l.more * 8 + 7

abbrev pub decreases-prepare : goal.decreases-prepare
decreases-prepare g l = l.more * 8 + 6

abbrev pub decreases-name_value : goal.decreases-name_value
decreases-name_value g l = l.more * 8 + 5

abbrev pub decreases-declared_value : goal.decreases-declared_value
decreases-declared_value g l = l.more * 8 + 4

abbrev pub decreases-child_value : goal.decreases-child_value
decreases-child_value g l = l.more * 8 + 3

abbrev pub decreases-choose_all : goal.decreases-choose_all
decreases-choose_all g l = l.more * 8 + 2

abbrev pub decreases-choose_value : goal.decreases-choose_value
decreases-choose_value g l = l.more * 8 + 1

abbrev pub decreases-expression_value : goal.decreases-expression_value
decreases-expression_value g l = l.more * 8

abbrev pub invariant-prepare-each : goal.invariant-prepare-each
invariant-prepare-each g l =
    let ground = ground_of g.P.Placing.places l.ground in
    let made = prepared_within l.more ground (standpoint_of ground.description l.positions) (scope_of l.locals) (base l.fn.draft) (texts_of l.names) in
    let left = prepared_within l.more ground (standpoint_of ground.description l.positions) (scope_of l.locals) (base l.draft) (texts_of (drop l.name-index l.names)) in
    record {
      draft : behind (piece_of l.draft) left.piece ≡ behind (piece_of l.fn.draft) made.piece;
      known : (n : List ℕ) → found_before (value_of l.known.sources n) (lookup (same_name n) left.known) ≡ lookup (same_name n) made.known;
      decoded : plain l.known.decoded ≡ decoded_in l.ground.row;
    }

abbrev pub invariant-choose_all-each : goal.invariant-choose_all-each
invariant-choose_all-each g l =
    let ground = ground_of g.P.Placing.places l.ground in
    let value = expressed_within l.more ground in
    behind (piece_of l.draft) (chosen_value value ground l.shape l.temp (base l.draft) (map (stood ground.description l.reach l.home) (drop l.operation-index l.operations)))
    ≡ behind (piece_of l.fn.draft) (chosen_value value ground l.shape l.temp (base l.fn.draft) (alternatives_at (tree_of l.ground.words.now.described.now) l.name (standpoint_of ground.description l.home)))
