-- As an edge ends, what lasts is what the core closes with.
use Rattle.std.proofs.Common.{◌≡◌, ◌<◌, ◌≤◌, ◌∙◌, ℕ, false, true, cond, List, Option, length, get_or}
use Rattle.lisa_tree.specs.Descriptions.{DescriptionTree}
use Rattle.lisa_tree.specs.Resources.{stages}
use Rattle.pipeline_time.specs.Edges.{is_held, is_flushed}
use Rattle.step_program.specs.Programs.{Program}
use Rattle.step_program.specs.Effects as steps
use Rattle.step_pieces.specs.Running.{ran}
use Rattle.activation_plans.specs.lisa_meaning.Cores.{core_of}
use Rattle.activation_plans.specs.lisa_meaning.Moments.{Moment, close_moment}
use Rattle.activation_plans.proofs.lisa_meaning_proofs.Stored.{closes}
use Rattle.lowered_behaviors.proofs.meaning_promises_proofs.Kept.{fitting, moment_stored}
use Rattle.lowered_time.specs.Building.{held_at, open_at}
use Rattle.lowered_time.specs.Lowering.{bit, Agrees, Lasts, Keeps}
use Rattle.lowered_layouts.specs.Ends.{ends}
use Rattle.lowered_layouts.specs.Items.{time_layout, IsArranged}
use Rattle.lowered_layouts.specs.Laws.{held_temp, open_temp}
use Rattle.lowered_layouts.proofs.Ends.{has_contents, ends_keep}
use Rattle.lowered_edges.specs.Meaning.{meant}
use Rattle.lowered_edges.proofs.Moments.{agreed, lasting}

pub edge_closes : (d : DescriptionTree) (declared : Option ℕ) (width : ℕ) (p : Program) → IsArranged d declared width p → (from : ℕ) (before pins : List ℕ) (m : Moment) (now : steps.Moment) → Agrees (meant d width p) before pins m now
    → ((level : ℕ) → 0 < level → level ≤ length (stages d) → get_or now.temps (held_at level) 0 ≡ bit (is_held m.stalled level))
    → ((level : ℕ) → 0 < level → level ≤ length (stages d) → get_or now.temps (open_at level) 0 ≡ bit (cond (is_held m.stalled level) false (cond (is_flushed m.flushed level) false true)))
    → Lasts (meant d width p) (close_moment d m) (steps.kept (ran p before pins now (ends d held_temp open_temp from).moves))
    × Keeps (core_of d) (time_layout d width) from now (ran p before pins now (ends d held_temp open_temp from).moves)
edge_closes d declared width p arranged from before pins m now is held free =
    let at = agreed d width p before pins m now is in
    let after = ran p before pins now (ends d held_temp open_temp from).moves in
    let keeps = ends_keep d declared width p arranged before pins m now at.holds from in (
      lasting d width p (close_moment d m) (steps.kept after) (record {
        contents = has_contents d declared width p arranged before pins m now at.holds from (record { held = held; free = free });
        item_count = keeps.item_count ∙ at.holds.item_count;
        fit = fitting d (close_moment d m) (closes d m (moment_stored d m at.holds.fits.moment));
      }),
      keeps,
    )
