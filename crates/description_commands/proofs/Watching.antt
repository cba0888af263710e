-- A simulator that makes the edges of a schedule, and the counts of what its stages did.
use Rattle.std.proofs.Common.{◌≡◌, ℕ, suc, ◌+◌, ◌-◌, ◌^◌, ◌<◌, ◌≤◌, Bool, cond, List, [], ◌∷◌, ◌++◌, length, replicate, refl, sym, ap, ◌∙◌, subst, arith}
use Rattle.std.specs.Prelude.{slice_index, count_by}
use Rattle.std.specs.List.{flat_map, enumerate_from}
use Rattle.std.proofs.lemmas.List.{get_or-replicate}
use Rattle.std.proofs.lemmas.List.Sums.{fold-append, sum_by-cons, count_by-le-length}
use Rattle.lisa_engine.specs.State.{State}
use Rattle.lisa_engine.specs.ScheduleLine.{Line}
use Rattle.lisa_engine.specs.Shape.{IsFitting}
use Rattle.lisa_engine.specs.PinValues.{IsFor}
use Rattle.lisa_engine.specs.Machines.{Machine, machine_of, course_of, entries_to}
use Rattle.lisa_engine.proofs.Edges.{Led, ArePlayed, fit_now, values_more}
use Rattle.lisa_engine.proofs.Played.{values_at}
use Rattle.lisa_tree.specs.Descriptions.{DescriptionTree}
use Rattle.lisa_tree.specs.Resources.{stages}
use Rattle.activation_bits.specs.Members.{has}
use Rattle.pipeline_time.specs.Edges.{is_held, is_flushed}
use Rattle.pipeline_time.specs.Journal.{Log}
use Rattle.pipeline_time.specs.States.{next, log_of, edge_of}
use Rattle.pipeline_runs.specs.declared.seen.Seen.{Seen}
use Rattle.pipeline_runs.specs.Seeing.{has_run, IsSeen}
use Rattle.activation_plans.specs.lisa_meaning.Cores.{core_of}
use Rattle.lisa_sim.specs.lisa_meaning.States.{after_edges, state_of}
use Rattle.lisa_sim.specs.machine_parts.Parts.{arrays_of, pins_of}
use Rattle.lisa_sim.specs.Seeing.{IsLastSeen}
use Rattle.lisa_sim.specs.Simulators.{description_of, image_of}
use Rattle.lisa_sim.specs.declared.simulator.Simulator.{Simulator}
use Rattle.description_commands.specs.declared.occupancy.Occupancy.{Occupancy}
use Rattle.description_commands.specs.Occupancies.{occupancy_line, stage_line, occupancy_text}
use Rattle.description_commands.specs.Occupied.{CountsMore, AreUpTo, IsOccupancy, counted_line}

-- what a simulator shows, and its machine
abbrev pub present : Simulator → State
present s = s.runner.present

abbrev pub machine : Simulator → Machine
machine s = machine_of (pins_of (description_of s)) s.forms.now.items.items (arrays_of (description_of s)) (state_of (description_of s) (image_of s))

-- the journal of so many edges of a schedule
abbrev pub past_of : Simulator → List Line → ℕ → List Log
past_of s lines edges = (after_edges (description_of s) (image_of s) (entries_to (course_of (machine s) lines) edges)).past

-- ---- counts of one more edge

counts_with : (test : Log → Bool) (stages stage : ℕ) (log : Log) (past : List Log) (before now : ℕ) → now ≡ cond (has stages stage) 1 0 + before → has stages stage ≡ test log → before ≡ count_by test past → now ≡ count_by test (log ∷ past)
counts_with test stages stage log past before now more seen counted =
    more ∙ ap (λ b. cond b 1 0 + before) seen ∙ ap (λ n. cond (test log) 1 0 + n) counted ∙ sym (sum_by-cons (λ l. cond (test l) 1 0) log past)

counted_more : (d : DescriptionTree) (log : Log) (past : List Log) (seen : Seen) (before now : Occupancy) → IsSeen (core_of d) log seen → IsOccupancy d past before
    → CountsMore seen.ran before.executed now.executed → CountsMore seen.held before.held now.held → CountsMore seen.flushed before.flushed now.flushed → IsOccupancy d (log ∷ past) now
counted_more d log past seen before now is counted executed held flushed = record {
  executed = λ stage low. counts_with (λ l. has_run (core_of d) l (suc stage)) seen.ran stage log past _ _ (executed stage low) (is.ran stage low) (counted.executed stage low);
  held = λ stage low. counts_with (λ l. is_held l.stalled (suc stage)) seen.held stage log past _ _ (held stage low) (is.stages.as_held stage low) (counted.held stage low);
  flushed = λ stage low. counts_with (λ l. is_flushed l.flushed (suc stage)) seen.flushed stage log past _ _ (flushed stage low) (is.stages.as_flushed stage low) (counted.flushed stage low);
}

pub none_counted : (d : DescriptionTree) (counts : Occupancy) → counts.executed ≡ replicate 8 0 → counts.held ≡ replicate 8 0 → counts.flushed ≡ replicate 8 0 → IsOccupancy d [] counts
none_counted d counts executed held flushed = record {
  executed = λ stage low. ap (λ l. slice_index l stage) executed ∙ get_or-replicate 8 stage 0 0 low;
  held = λ stage low. ap (λ l. slice_index l stage) held ∙ get_or-replicate 8 stage 0 0 low;
  flushed = λ stage low. ap (λ l. slice_index l stage) flushed ∙ get_or-replicate 8 stage 0 0 low;
}

up_to : (test : ℕ → Log → Bool) (past : List Log) (counts : List ℕ) (edges : ℕ) → length past < 2 ^ 32 - 1 → ((stage : ℕ) → stage < 8 → slice_index counts stage ≡ count_by (test stage) past) → AreUpTo (2 ^ 32 - 2) counts
up_to test past counts edges few counted stage low = let most = count_by-le-length (test stage) past in omega (arith, few, counted stage low, most)

-- ---- their text

lines_same : (d : DescriptionTree) (past : List Log) (counts : Occupancy) → IsOccupancy d past counts → (stage : ℕ) (names : List (List ℕ)) → stage + length names ≤ 8
    → flat_map (counted_line counts) (enumerate_from stage names) ≡ flat_map (stage_line d past) (enumerate_from stage names)
lines_same d past counts counted stage [] few = refl
lines_same d past counts counted stage (name ∷ names) few =
    let low : stage < 8 = omega (arith, few) in
    let rest = lines_same d past counts counted (stage + 1) names (omega (arith, few)) in
    λ i. occupancy_line name (counted.executed stage low i) (counted.held stage low i) (counted.flushed stage low i) ++ rest i

pub text_same : (d : DescriptionTree) (past : List Log) (counts : Occupancy) (names : List (List ℕ)) → IsOccupancy d past counts → names ≡ stages d → length (stages d) ≤ 8
    → flat_map (counted_line counts) (enumerate_from 0 names) ≡ occupancy_text d past
text_same d past counts names counted is few = ap (λ n. flat_map (counted_line counts) (enumerate_from 0 n)) is ∙ lines_same d past counts counted 0 (stages d) (omega (arith, few))

-- ---- the simulator

-- one that came from the first one by the schedule's edges, with the counts of these
pub record Watched (first now : Simulator) (lines : List Line) (edges place : ℕ) (pins : List ℕ) (counts : Occupancy) : Type 0 where
  pub led : Led present machine first now lines 0 edges
  pub played : ArePlayed lines (length (machine first).pins) edges place pins
  pub description : description_of now ≡ description_of first
  pub image : image_of now ≡ image_of first
  pub many : length (past_of first lines edges) ≡ edges
  pub counted : IsOccupancy (description_of first) (past_of first lines edges) counts

pub none_watched : (first : Simulator) (lines : List Line) (place : ℕ) (pins : List ℕ) (counts : Occupancy) → ArePlayed lines (length (machine first).pins) 0 place pins → IsOccupancy (description_of first) [] counts
    → Watched first first lines 0 place pins counts
none_watched first lines place pins counts played counted = record {
  led = record { leads = λ at. at; kept = refl };
  played = played;
  description = refl;
  image = refl;
  many = refl;
  counted = counted;
}

module _ (first now : Simulator) (lines : List Line) (edges before place : ℕ) (old pins : List ℕ) (counts : Occupancy) (far : Watched first now lines edges before old counts)
    (for : IsFor (machine first).pins lines) (played : ArePlayed lines (length (machine first).pins) (edges + 1) place pins) where
  -- the values of the pins fit, and there is room for the counts
  pub pins_fit : IsFitting (machine now).pins pins
  pins_fit = fit_now present machine first now now lines 0 edges place pins far.led for played

  pub room_executed : edges < 2 ^ 32 - 1 → AreUpTo (2 ^ 32 - 2) counts.executed
  room_executed few = up_to (λ stage log. has_run (core_of (description_of first)) log (suc stage)) (past_of first lines edges) counts.executed edges (omega (arith, far.many, few)) far.counted.executed

  pub room_held : edges < 2 ^ 32 - 1 → AreUpTo (2 ^ 32 - 2) counts.held
  room_held few = up_to (λ stage log. is_held log.stalled (suc stage)) (past_of first lines edges) counts.held edges (omega (arith, far.many, few)) far.counted.held

  pub room_flushed : edges < 2 ^ 32 - 1 → AreUpTo (2 ^ 32 - 2) counts.flushed
  room_flushed few = up_to (λ stage log. is_flushed log.flushed (suc stage)) (past_of first lines edges) counts.flushed edges (omega (arith, far.many, few)) far.counted.flushed

  -- the entries so far, and with those of this edge
  abbrev so_far : List (List ℕ)
  so_far = entries_to (course_of (machine first) lines) edges

  all_entries : so_far ++ pins ∷ [] ≡ entries_to (course_of (machine first) lines) (edges + 1)
  all_entries =
      ap (λ v. so_far ++ v ∷ []) (played.values ∙ values_at (length (machine first).pins) lines (edges + 1) place played.place)
      ∙ sym (values_more (length (machine first).pins) lines edges)

  -- the journal of one more edge has one log more
  abbrev log_now : Log
  log_now = log_of (core_of (description_of first)) (edge_of (core_of (description_of first)) pins (after_edges (description_of first) (image_of first) so_far))

  past_more : past_of first lines (edges + 1) ≡ log_now ∷ past_of first lines edges
  past_more =
      ap (λ entries. (after_edges (description_of first) (image_of first) entries).past) (sym all_entries)
      ∙ ap (λ s. s.past) (fold-append (next (core_of (description_of first))) _ so_far (pins ∷ []))

  pub watched_more : (later : Simulator) (seen : Seen) (more : Occupancy) → present first ≡ (machine first).defined []
      → ((l : List (List ℕ)) → present now ≡ (machine now).defined l → IsLastSeen (description_of now) (image_of now) (l ++ pins ∷ []) seen)
      → Led present machine first later lines 0 (edges + 1) → description_of later ≡ description_of now → image_of later ≡ image_of now
      → CountsMore seen.ran counts.executed more.executed → CountsMore seen.held counts.held more.held → CountsMore seen.flushed counts.flushed more.flushed
      → Watched first later lines (edges + 1) place pins more
  watched_more later seen more begun sees led described imaged executed held flushed = record {
    led = led;
    played = played;
    description = described ∙ far.description;
    image = imaged ∙ far.image;
    many = ap length past_more ∙ one far.many;
    counted = subst (λ past. IsOccupancy (description_of first) past more) (sym past_more) (counted_more (description_of first) log_now (past_of first lines edges) seen counts more is_seen far.counted executed held flushed);
  }
    where
      one : length (past_of first lines edges) ≡ edges → suc (length (past_of first lines edges)) ≡ edges + 1
      one e = omega (arith, e)

      here : present now ≡ (machine now).defined so_far
      here = far.led.leads begun ∙ ap (λ m. m.defined so_far) (sym far.led.kept)

      last_seen : IsLastSeen (description_of first) (image_of first) (so_far ++ pins ∷ []) seen
      last_seen = subst (λ image. IsLastSeen (description_of first) image (so_far ++ pins ∷ []) seen) far.image
          (subst (λ d. IsLastSeen d (image_of now) (so_far ++ pins ∷ []) seen) far.description (sees so_far here))

      same_log : (a b : Log) (rest others : List Log) → a ∷ rest ≡ b ∷ others → a ≡ b
      same_log a b rest others e = cc

      is_log : last_seen.last ≡ log_now
      is_log = same_log _ _ _ _ (sym last_seen.journal ∙ ap (λ s. s.past) (fold-append (next (core_of (description_of first))) _ so_far (pins ∷ [])))

      is_seen : IsSeen (core_of (description_of first)) log_now seen
      is_seen = subst (λ log. IsSeen (core_of (description_of first)) log seen) is_log last_seen.is_seen
