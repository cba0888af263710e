-- What an edge begins with.
use Rattle.std.proofs.Common.{◌≡◌, ◌<◌, ◌+◌, ◌-◌, ◌∙◌, ℕ, zero, suc, List, [], ◌∷◌, Option, None, Some, length, map, get_or, sym, ap, arith, refl}
use Rattle.std.specs.Prelude.{slice_index, cond}
use Rattle.std.specs.Option.{is_some}
use Rattle.std.specs.List.{range_with_len}
use Rattle.std.proofs.lemmas.List.{length-map}
use Rattle.std.proofs.lemmas.List.FromFn.{length-range_with_len, get_or-map-range_with_len}
use Rattle.lisa_tree.specs.Descriptions.{DescriptionTree}
use Rattle.lisa_engine.specs.State.{State}
use Rattle.lisa_engine.specs.Shape.{IsFitting}
use Rattle.lisa_tree.specs.Resources.{stages, fields}
use Rattle.machine_parts.specs.Parts.{pins_of, registers_of}
use Rattle.step_program.specs.Programs.{Program}
use Rattle.step_program.specs.Effects.{begun}
use Rattle.state_items.specs.lisa_meaning.Moments.{Contents, Outs, begin_moment, by_boundaries, written}
use Rattle.state_items.proofs.lisa_meaning_proofs.Stored.{begins}
use Rattle.lowered_resources.specs.meaning_promises.Fitting.{ContentsFit, MomentFits}
use Rattle.lowered_resources.proofs.meaning_promises_proofs.Kept.{stored, moment_fitting}
use Rattle.lowered_resources.specs.Places.{Lasting, Written, Out, Stall, Flush, HasField}
use Rattle.lowered_resources.specs.Holding.{HoldsBefore, HoldsNow, HoldsFit, Holds}
use Rattle.lowered_layouts.specs.Temps.{temp}
use Rattle.lowered_layouts.specs.Items.{field_place, places_of, IsArranged}
use Rattle.lowered_layouts.specs.States.{HasContents}

-- every temp is 0
zeros : (ws : List ℕ) (k : ℕ) → slice_index (map (λ (w : ℕ). 0) ws) k ≡ 0
zeros [] k = refl
zeros (w ∷ ws) zero = refl
zeros (w ∷ ws) (suc k) = zeros ws k

abbrev none_at : ℕ → Option ℕ
none_at f = None

module _ (d : DescriptionTree) where
  abbrev unwritten : Outs
  unwritten = by_boundaries d (λ s f. None)

  abbrev row : List (Option ℕ)
  row = map none_at (range_with_len 0 (length (fields d)))

  row_at : (s f : ℕ) → HasField d s f → get_or unwritten s [] ≡ row
  row_at s f has =
      let low = has.0 in
      get_or-map-range_with_len (λ (t : ℕ). row) 0 (length (stages d) - 1) s s [] (omega (arith, low)) (omega arith)

  pub rooms : (s f : ℕ) → HasField d s f → (s < length unwritten) × (f < length (get_or unwritten s []))
  rooms s f has =
      let low = has.0 in
      let less = has.1 in
      let long : length unwritten ≡ length (stages d) - 1 = length-map (range_with_len 0 (length (stages d) - 1)) (λ (t : ℕ). row) ∙ length-range_with_len 0 (length (stages d) - 1) in
      let wide : length (get_or unwritten s []) ≡ length (fields d) =
      ap (λ (r : List (Option ℕ)). length r) (row_at s f has) ∙ length-map (range_with_len 0 (length (fields d))) none_at ∙ length-range_with_len 0 (length (fields d)) in
      (omega (arith, low, long), omega (arith, less, wide))

  unwritten_at : (s f : ℕ) → HasField d s f → written unwritten s f ≡ None
  unwritten_at s f has =
      ap (λ (r : List (Option ℕ)). get_or r f None) (row_at s f has)
      ∙ get_or-map-range_with_len none_at 0 (length (fields d)) f f None has.1 (omega arith)

  module _ (p : Program) (pins : List ℕ) (memory : Contents) (old : State) where
    pub edge_begins : HasContents d memory old → length old.items ≡ length p.items → ContentsFit d memory → IsFitting (pins_of d) pins → Holds d (places_of d) p old.items pins (begin_moment d pins memory) (begun p old)
    edge_begins contents count fit pinned = record {
      item_count = count;
      past = record { kept = contents.registers; fields = contents.fields; same_pins = refl };
      present = record {
        registers = contents.registers;
        cells = contents.cells;
        marks = λ s f has. zeros p.temps (temp d (Written s f)) ∙ sym (ap (λ (o : Option ℕ). cond (is_some o) 1 0) (unwritten_at s f has));
        outs = λ s f bits has got. (let none = unwritten_at s f has in absurd (cc (sym none ∙ got)));
        stalled = λ level is. zeros p.temps (temp d (Stall level));
        flushed = λ level is. zeros p.temps (temp d (Flush level));
      };
      fits = record {
        moment = moment_fitting d (begin_moment d pins memory) (begins d pins memory (stored d memory fit));
        rooms = rooms;
        kept = fit.registers;
        pins = pinned;
      };
    }
