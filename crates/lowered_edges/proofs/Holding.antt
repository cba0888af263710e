-- A value that is held by one temp more, behind the steps that compute it.
use Rattle.std.proofs.Common.{◌≡◌, ◌<◌, ◌≤◌, ◌+◌, ◌∙◌, ℕ, List, [], ◌∷◌, ◌++◌, length, get_or, sym, ap, subst, arith}
use Rattle.std.specs.Prelude.{slice_index}
use Rattle.lisa_tree.specs.Descriptions.{DescriptionTree}
use Rattle.step_program.specs.Programs.{Program, Expr, Temp}
use Rattle.step_program.specs.Effects as steps
use Rattle.step_program.specs.Effects.{value}
use Rattle.step_pieces.specs.Pieces.{Piece, held, top, set_temp}
use Rattle.step_pieces.specs.Running.{ran, Rests, HasTemps}
use Rattle.step_pieces.specs.Formed.{Lies}
use Rattle.step_pieces.proofs.Laid.{lies_right, lies_one}
use Rattle.step_pieces.proofs.Rested.{rests_on, ran_append, set_value, set_rests}
use Rattle.activation_plans.specs.lisa_meaning.Cores.{core_of}
use Rattle.activation_plans.specs.lisa_meaning.Moments.{Moment}
use Rattle.lowered_time.specs.Lowering.{Agrees, HasRowWord, Keeps}
use Rattle.lowered_layouts.specs.Temps.{lasting_widths}
use Rattle.lowered_layouts.specs.Items.{time_layout}
use Rattle.lowered_layouts.proofs.Temps.{lasting_long, times_last}
use Rattle.lowered_edges.specs.Meaning.{meant}
use Rattle.lowered_edges.proofs.Moments.{agrees, agreed, has_row, row_had, LeavesThings, moment_left, row_left}

module _ (p : Program) (before pins : List ℕ) (from : ℕ) (a : Piece) (w : ℕ) (e : Expr) (now : steps.Moment) where
  -- what the steps of the value leave
  abbrev pub middle : steps.Moment
  middle = ran p before pins now a.moves

  abbrev pub after : steps.Moment
  after = ran p before pins now (held from a w e).moves

  after_is : after ≡ ran p before pins middle (set_temp (top from a) e ∷ [])
  after_is = ran_append p before pins now a.moves (set_temp (top from a) e ∷ [])

  pub held_rests : Rests from now middle → Rests from now after
  held_rests r = subst (λ (m : steps.Moment). Rests from now m) (sym after_is) (rests_on from from now middle (ran p before pins middle (set_temp (top from a) e ∷ [])) (omega arith) r (set_rests p before pins from (top from a) e middle (omega arith)))

  pub held_temp : Lies p.temps from (held from a w e).widths → (top from a < length p.temps) × (slice_index p.temps (top from a) ≡ w)
  held_temp lies = lies_one p.temps (top from a) w [] (lies_right p.temps from a.widths (w ∷ []) lies)

  pub held_value : Lies p.temps from (held from a w e).widths → HasTemps p now → Rests from now middle → value p before pins after (Temp (top from a)) ≡ value p before pins middle e
  held_value lies has r =
      let room = (held_temp lies).0 in
      let long = r.room in
      ap (λ (m : steps.Moment). value p before pins m (Temp (top from a))) after_is ∙ set_value p before pins (top from a) e middle (omega (arith, room, long, has))

-- ---- where all but scratch rests

module _ (d : DescriptionTree) (width : ℕ) (p : Program) (from : ℕ) (low : length (lasting_widths d width) ≤ from) (a b : steps.Moment) (r : Rests from a b) where
  things_rest : LeavesThings d width p a b
  things_rest = record {
    items = λ k less. ap (λ (ns : List ℕ). get_or ns k 0) r.items;
    item_count = ap (λ (ns : List ℕ). length ns) r.items;
    temps = λ k first less. r.temps k (let long = lasting_long d width in omega (arith, less, long, low));
    temp_count = r.room;
    cells = r.cells;
  }

  pub agrees_still : (before pins : List ℕ) (m : Moment) → Agrees (meant d width p) before pins m a → Agrees (meant d width p) before pins m b
  agrees_still before pins m is = agrees d width p before pins m b (moment_left d width p before pins m a b things_rest (agreed d width p before pins m a is))

  pub keeps_still : Keeps (core_of d) (time_layout d width) from a b
  keeps_still = record {
    times = λ temp less. let first = times_last d width in r.temps temp (omega (arith, less, first, low));
    others = λ temp least less. r.temps temp less;
    temp_count = r.room;
    item_count = ap (λ (ns : List ℕ). length ns) r.items;
    places = λ place at. ap (λ (ns : List ℕ). get_or ns place 0) r.items;
  }

  pub rows_still : (row word : ℕ) → HasRowWord (meant d width p) row word a → HasRowWord (meant d width p) row word b
  rows_still row word has = has_row d width p row word b (row_left d width p row word a b (λ k least less. r.temps k (omega (arith, less, low))) (row_had d width p row word a has))
