-- The parts of a description do what time asks of them.
use Rattle.std.proofs.Common.{ℕ, Option}
use Rattle.std.proofs.lemmas.Nat.{pow_pos}
use Rattle.lowered_edges.proofs.Owned.{owned}
use Rattle.lowered_edges.proofs.Moments.{agreed, is_word, unseen, row_unseen, begins, stalled_is, flushed_is}
use Rattle.lowered_edges.proofs.Rowed.{loaded, load_agrees, load_keeps, load_rows, row_is}
use Rattle.lowered_edges.proofs.Behaving.{trees, chosen_plain, behaves, rests}
use Rattle.lowered_edges.proofs.Testing.{condition_is, condition_leaves}
use Rattle.lowered_edges.proofs.Idle.{idles}
use Rattle.lowered_edges.proofs.Fetching.{fetches}
use Rattle.lowered_edges.proofs.Closing.{edge_closes}
use Rattle.lisa_tree.specs.Descriptions.{DescriptionTree}
use Rattle.description_types.specs.Types.{Types}
use Rattle.step_program.specs.Programs.{Program}
use Rattle.lowered_edges.specs.Laws.{PartsAreLowered}

pub parts_lowered : (d : DescriptionTree) (types : Types) (declared : Option ℕ) (width : ℕ) (p : Program) → PartsAreLowered d types declared width p
parts_lowered d types declared width p lowered = record {
  owned = owned d;
  chosen = λ number word plain. chosen_plain d types declared width p lowered number word plain;
  no_word = is_word d width p 0 (pow_pos width);
  unseen = λ before pins m now after u a. unseen d width p before pins m now after u a;
  row_unseen = λ row word now after u a. row_unseen d width p row word now after u a;
  begins = λ memory old pins entry lasts. begins d width p memory old pins entry lasts;
  behaves = λ number row guard from before pins m now word part guards one has runs.
      behaves d types declared width p lowered before pins number row guard from m now part.lasting part.placed part.agrees guards word one has runs;
  rests = λ number row guard from before pins m now part guards off.
      rests d types declared width p lowered before pins number row guard from m now part.lasting part.placed part.agrees guards off;
  idles = λ number idle. idles d types width number idle;
  condition_is = λ number test row from before pins m now word part has runs.
      condition_is d types declared width p lowered before pins number test row from m now part.lasting part.placed part.agrees word has runs;
  condition_leaves = λ number test row from before pins m now part.
      condition_leaves d types declared width p lowered before pins number test row from m now part.lasting part.placed part.agrees;
  fetches = λ from before pins m now part. fetches d types declared width p lowered before pins from m now part.lasting part.agrees part.placed;
  loads = λ row e from before pins m now word there part at fits.
      loaded d width p before pins row e from m now there part.lasting part.placed part.agrees word lowered.arranged.words lowered.apart at fits;
  load_leaves = λ row e from before pins m now there part. (
    record {
      agrees = load_agrees d width p before pins row e from m now there part.lasting part.placed part.agrees;
      keeps = load_keeps d width p before pins row e from m now there part.lasting part.placed part.agrees;
    },
    (λ other word differs has. load_rows d width p before pins row e from m now there part.lasting part.placed part.agrees other word differs has),
  );
  row_is = λ before pins row word now has. row_is d width p before pins (trees d types declared width p lowered) row word now has;
  stalled_is = λ before pins m now level a least most. stalled_is d width p before pins m now level a least most;
  flushed_is = λ before pins m now level a least most. flushed_is d width p before pins m now level a least most;
  stalls_within = λ before pins m now a. (agreed d width p before pins m now a).stalls;
  closes = λ from before pins m now part held free. edge_closes d declared width p lowered.arranged from before pins m now part.agrees held free;
}
