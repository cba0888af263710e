-- The turns of an edge, one after the other, from what the core has as it begins.
use Rattle.std.proofs.Common.{◌≡◌, ℕ, zero, suc, ◌+◌, ◌<◌, ◌≤◌, Bool, true, false, not, ◌&&◌, ◌||◌, cond, List, [], ◌∷◌, ◌++◌, length, map, get_or, Option, Some, None, refl, sym, ap, ap₂, ◌∙◌, subst, arith, nat_eq, nat_le, ⊎_elim, inl}
use Rattle.std.specs.Prelude.{is_some}
use Rattle.std.specs.Option.{unwrap_or}
use Rattle.std.specs.List.{list_any, fold, filter, AllByRecursion}
use Rattle.std.proofs.lemmas.Bool.{cases_eq, eqb-true, eqb-false, both_ways, lt-leb}
use Rattle.std.proofs.lemmas.List.{get_or-set_same, get_or-set_other, length-set, length-map}
use Rattle.lisa_engine.specs.State.{State}
use Rattle.step_program.specs.Programs.{Expr, Const, Temp, Move, Program}
use Rattle.step_program.specs.Effects.{Moment, begun}
use Rattle.step_pieces.specs.Formed.{Lies}
use Rattle.step_pieces.proofs.Laid.{lies_left, lies_right}
use Rattle.pipeline_time.specs.Acts.{Acts, Done, Act}
use Rattle.pipeline_time.specs.Cores.{Core, main_node, all_nodes, slot_level}
use Rattle.pipeline_time.specs.Running.{Running, own_word, behavior, run, run_occurrence}
use Rattle.pipeline_time.specs.Edges.{is_held, is_flushed, is_free, waiting, is_due, run_due, turn as core_turn, turns as core_turns, start}
use Rattle.pipeline_time.specs.Journal.{Log, stands, stage_word as word_of}
use Rattle.pipeline_time.specs.Sound.{IsSound}
use Rattle.pipeline_time.proofs.Tree.{tree_of}
use Rattle.pipeline_time.proofs.Held.{Controls, turns_controls}
use Rattle.pipeline_time.proofs.Turns.{Far, IsWorded, moving, turn_far, main_far}
use Rattle.pipeline_time.proofs.Agree.{IsGoodPast, worded}
use Rattle.step_pieces.specs.Pieces.{always}
use Rattle.lowered_time.specs.Pieces.{both, either, none}
use Rattle.lowered_time.specs.Building.{Operations, Layout, taken_at, slot_at, held_at, open_at, recorded_at, row_of, own_row, active, turn_of, stage_word, place_word, held_after, controls, turn, turns, main_run}
use Rattle.lowered_time.specs.Lowering.{bit, no_guard, IsLaidOut, Meant, IsPart, AreLowered, Agrees, HasRowWord, IsWordOf, Lasts, IsEntry}
use Rattle.lowered_time.proofs.Base.{both_is, either_is, none_is, ran_append}
use Rattle.lowered_time.proofs.Went.{with_temp, go, val, Tied, Went, tied_part, unseen_temp}
use Rattle.lowered_time.proofs.Running.{active_runs, occurrence_went, own_runs, own_row_for}
use Rattle.lowered_time.proofs.Turning.{turn_runs, turn_rests}

module _ {R M A B C D E : Type 0} (core : Core R M) (sound : IsSound core) (ops : Operations) (layout : Layout) (p : Program) (meant : Meant R M A B C D E) (before pins : List ℕ) (lowered : AreLowered core ops layout p meant) (laid : IsLaidOut core layout p) (enough : layout.lasting ≤ length p.temps)
    (past : List Log) (good : IsGoodPast core past)
    (bits_are : (level number place : ℕ) → layout.bit level number ≡ Some place → get_or before place 0 ≡ bit (is_some (stands core past level number)))
    (words_are : (level place : ℕ) → layout.word level ≡ Some place → get_or before place 0 ≡ word_of core past level)
    (no_words : (level : ℕ) → layout.word level ≡ None → word_of core past level ≡ 0)
    (are_words : (level : ℕ) → IsWordOf meant (word_of core past level)) where
  abbrev root : ℕ
  root = sound.root

  abbrev G : List Move → Moment → Moment
  G moves lane = go core ops layout p meant root before pins moves lane

  abbrev V : Moment → Expr → ℕ
  V lane e = val core ops layout p meant root before pins lane e

  abbrev T : Running M → Moment → Type 0
  T now lane = Tied core ops layout p meant root before pins now lane

  abbrev W : ℕ → ℕ → Running M → Moment → Moment → Type 0
  W from index now lane after = Went core ops layout p meant root before pins from index now lane after

  abbrev pub words : ℕ → ℕ
  words = word_of core past

  standing_worded : IsWorded core (word_of core past) (stands core past)
  standing_worded = worded core sound past good

  -- ---- which levels are held and open

  abbrev is_open_now : Running M → ℕ → Bool
  is_open_now now level = not (is_held (core.stalled now.moment) level) && not (is_flushed (core.flushed now.moment) level)

  -- the temps of the levels behind one are right
  pub record AreControls (level : ℕ) (now : Running M) (lane : Moment) : Type 0 where
    pub held : (l : ℕ) → level < l → l ≤ core.stages → get_or lane.temps (held_at l) 0 ≡ bit (is_held (core.stalled now.moment) l)
    pub free : (l : ℕ) → level < l → l ≤ core.stages → get_or lane.temps (open_at l) 0 ≡ bit (is_open_now now l)

  -- a temp of a level is set
  tied_control : (temp v : ℕ) (now : Running M) (lane : Moment) → slot_at < temp → temp < recorded_at core.stages 0 → T now lane → T now (with_temp temp v lane)
  tied_control temp v now lane low high tied = record {
    agrees = lowered.unseen before pins now.moment lane (with_temp temp v lane) (unseen_temp core ops layout p meant root before pins temp v lane (inl (omega (arith, high)))) tied.agrees;
    recorded = λ k less. get_or-set_other lane.temps temp (recorded_at core.stages k) v 0 (λ same. omega (arith, same, high)) ∙ tied.recorded k less;
    taken = get_or-set_other lane.temps temp taken_at v 0 (λ same. omega (arith, same, low)) ∙ tied.taken;
    slot = get_or-set_other lane.temps temp slot_at v 0 (λ same. omega (arith, same, low)) ∙ tied.slot;
    is_word = tied.is_word;
    temp_count = length-set lane.temps temp v ∙ tied.temp_count;
    item_count = tied.item_count;
    recording = tied.recording;
  }

  -- a stage is held where a stall names it, or where the next one is held
  held_more : (level : ℕ) (stalled : List ℕ) → is_held stalled level ≡ (list_any (λ (stall : ℕ). nat_eq stall level) stalled || is_held stalled (suc level))
  held_more level [] = refl
  held_more level (stall ∷ stalled) =
      ap₂ (λ (x y : Bool). x || y) (one stall) (held_more level stalled)
      ∙ regroup (nat_eq stall level) (nat_le (suc level) stall) (list_any (λ (s : ℕ). nat_eq s level) stalled) (is_held stalled (suc level))
    where
      one : (n : ℕ) → nat_le level n ≡ (nat_eq n level || nat_le (suc level) n)
      one n = grind arith

      regroup : (a b c d : Bool) → ((a || b) || (c || d)) ≡ ((a || c) || (b || d))
      regroup true b c d = refl
      regroup false true true d = refl
      regroup false true false d = refl
      regroup false false c d = refl

  none_beyond : (stalled : List ℕ) → AllByRecursion (λ (stall : ℕ). stall ≤ core.stages) stalled → is_held stalled (suc core.stages) ≡ false
  none_beyond [] each = refl
  none_beyond (stall ∷ stalled) each = ap₂ (λ (x y : Bool). x || y) (lt-leb (suc core.stages) stall (omega (arith, each.0))) (none_beyond stalled each.1)

  held_after_is : (level : ℕ) (now : Running M) (lane : Moment) → level ≤ core.stages → T now lane → AreControls level now lane → V lane (held_after core ops layout level) ≡ bit (is_held (core.stalled now.moment) (suc level))
  held_after_is level now lane within tied right = of (nat_eq level core.stages) refl
    where
      of : (b : Bool) → nat_eq level core.stages ≡ b → V lane (cond b (Const 1 0) (Temp (held_at (suc level)))) ≡ bit (is_held (core.stalled now.moment) (suc level))
      of true e =
          let same = eqb-true level core.stages e in
          sym (ap (λ (n : ℕ). bit (is_held (core.stalled now.moment) (suc n))) same ∙ ap bit (none_beyond (core.stalled now.moment) (lowered.stalls_within before pins now.moment lane tied.agrees)))
      of false e = let ne = eqb-false level core.stages e in right.held (suc level) (omega arith) (omega (arith, within, ne))

  -- the temps of a level are made at its turn
  pub record Controlled (level : ℕ) (now : Running M) (lane after : Moment) : Type 0 where
    pub tied : T now after
    pub right : AreControls level now after
    pub free : V after (Temp (open_at (suc level))) ≡ bit (is_free core now (suc level))

  controlled : (level : ℕ) (now : Running M) (lane : Moment) (from : ℕ) → suc level ≤ core.stages → T now lane → AreControls (suc level) now lane
      → Controlled level now lane (G (controls core ops layout (suc level) from).moves lane)
  controlled level now lane from within tied right =
      let l = suc level in
      let held = is_held (core.stalled now.moment) l in
      let flushed = is_flushed (core.flushed now.moment) l in
      let v = V lane (either (ops.stalled l) (held_after core ops layout l)) in
      let v_is : v ≡ bit held =
      either_is p before pins lane (ops.stalled l) (held_after core ops layout l) _ _ (lowered.stalled_is before pins now.moment lane l tied.agrees (omega arith) within) (held_after_is l now lane within tied right)
      ∙ sym (ap bit (held_more l (core.stalled now.moment))) in
      let lane1 = with_temp (held_at l) v lane in
      let tied1 = tied_control (held_at l) v now lane (omega arith) (omega (arith, within)) tied in
      let room : held_at l < length lane.temps = omega (arith, within, tied.temp_count, enough, laid.lasts) in
      let at1 : V lane1 (Temp (held_at l)) ≡ bit held = get_or-set_same lane.temps (held_at l) v 0 room ∙ v_is in
      let w = V lane1 (both (none (Temp (held_at l))) (none (ops.flushed l))) in
      let w_is : w ≡ bit (not held && not flushed) =
      both_is p before pins lane1 (none (Temp (held_at l))) (none (ops.flushed l)) (not held) (not flushed) (none_is p before pins lane1 (Temp (held_at l)) held at1)
      (none_is p before pins lane1 (ops.flushed l) flushed (lowered.flushed_is before pins now.moment lane1 l tied1.agrees (omega arith) within)) in
      let after = with_temp (open_at l) w lane1 in
      let tied2 = tied_control (open_at l) w now lane1 (omega arith) (omega (arith, within)) tied1 in
      let room2 : open_at l < length lane1.temps = omega (arith, within, tied1.temp_count, enough, laid.lasts) in
      let at2 : get_or after.temps (open_at l) 0 ≡ bit (not held && not flushed) = get_or-set_same lane1.temps (open_at l) w 0 room2 ∙ w_is in
      record {
        tied = tied2;
        right = record {
          held = λ k low high. ⊎_elim
              (λ e. ap (λ (n : ℕ). get_or after.temps (held_at n) 0) e ∙ get_or-set_other lane1.temps (open_at l) (held_at l) w 0 (λ same. omega (arith, same)) ∙ at1 ∙ sym (ap (λ (n : ℕ). bit (is_held (core.stalled now.moment) n)) e))
              (λ ne. get_or-set_other lane1.temps (open_at l) (held_at k) w 0 (λ same. omega (arith, same)) ∙ get_or-set_other lane.temps (held_at l) (held_at k) v 0 (λ same. ne (omega (arith, same))) ∙ right.held k (omega (arith, low, ne)) high)
              (cases_eq k l);
          free = λ k low high. ⊎_elim
              (λ e. ap (λ (n : ℕ). get_or after.temps (open_at n) 0) e ∙ at2 ∙ sym (ap (λ (n : ℕ). bit (is_open_now now n)) e))
              (λ ne. get_or-set_other lane1.temps (open_at l) (open_at k) w 0 (λ same. ne (omega (arith, same))) ∙ get_or-set_other lane.temps (held_at l) (open_at k) v 0 (λ same. omega (arith, same)) ∙ right.free k (omega (arith, low, ne)) high)
              (cases_eq k l);
        };
        free = at2;
      }

  -- the word that moves on from a level, at its turn
  pub stage_word_is : (level : ℕ) (now : Running M) (lane : Moment) → T now lane → V lane (stage_word core ops layout level) ≡ moving core words now.slot level
  stage_word_is level now lane tied = of (nat_eq level (slot_level core)) (layout.word level) refl
    where
      of : (b : Bool) (o : Option ℕ) → layout.word level ≡ o → V lane (cond b (Temp slot_at) (place_word core ops layout o)) ≡ cond b (unwrap_or now.slot 0) (words level)
      of true o e = tied.slot
      of false None e = sym (no_words level e)
      of false (Some place) e = words_are level place e

  moving_word : (level : ℕ) (now : Running M) (lane : Moment) → T now lane → IsWordOf meant (moving core words now.slot level)
  moving_word level now lane tied = of (nat_eq level (slot_level core))
    where
      of : (b : Bool) → IsWordOf meant (cond b (unwrap_or now.slot 0) (words level))
      of true = tied.is_word
      of false = are_words level

  -- ---- one turn

  -- which of the levels from this one on are held and flushed stays as it is
  turn_controls : (level : ℕ) (now : Running M) → Controls core (suc level) now (core_turn core (stands core past) (suc level) now)
  turn_controls level now =
      let all = turns_controls core sound (stands core past) (suc level) now in
      let rest = turns_controls core sound (stands core past) level (core_turn core (stands core past) (suc level) now) in
      record {
        held = λ later above. sym (rest.held later (omega arith)) ∙ all.held later above;
        flushed = λ later above. sym (rest.flushed later (omega arith)) ∙ all.flushed later above;
      }

  right_later : (level : ℕ) (now next : Running M) (lane : Moment) → Controls core (suc level) now next → AreControls level now lane → AreControls level next lane
  right_later level now next lane same right = record {
    held = λ l low high. right.held l low high ∙ sym (ap bit (same.held l low));
    free = λ l low high. right.free l low high ∙ sym (ap₂ (λ (x y : Bool). bit (not x && not y)) (same.held l low) (same.flushed l low));
  }

  right_kept : (level from index : ℕ) (now next : Running M) (lane after : Moment) → W from index next lane after → AreControls level now lane → AreControls level now after
  right_kept level from index now next lane after went right = record {
    held = λ l low high. went.controls (held_at l) (omega arith) (omega (arith, high)) ∙ right.held l low high;
    free = λ l low high. went.controls (open_at l) (omega arith) (omega (arith, high)) ∙ right.free l low high;
  }

  pub record Come (level : ℕ) (now : Running M) (lane : Moment) : Type 0 where
    pub tied : T now lane
    pub right : AreControls level now lane
    pub far : Far core words (suc level) now

  abbrev entire : Acts
  entire = Act 0 0 false core.acts Done

  turn_made : (level from : ℕ) (now : Running M) (lane : Moment) → suc level ≤ core.stages → layout.lasting ≤ from → Lies p.temps from (turn core ops layout (suc level) from).widths → Come (suc level) now lane
      → Come level (core_turn core (stands core past) (suc level) now) (G (turn core ops layout (suc level) from).moves lane)
  turn_made level from now lane within low placed come =
      let l = suc level in
      let c = controlled level now lane from within come.tied come.right in
      let lane1 = G (controls core ops layout l from).moves lane in
      let base = from + 0 in
      let load = ops.load (row_of core ops layout l) (stage_word core ops layout l) base in
      let base' = base + length load.widths in
      let body = turn_of core ops layout l 0 (Act 0 0 false core.acts Done) base' in
      let placed0 : Lies p.temps base (load.widths ++ body.widths) = subst (λ (n : ℕ). Lies p.temps n (load.widths ++ body.widths)) {x = from} {y = base} (omega arith) placed in
      let placed1 = lies_left p.temps base load.widths body.widths placed0 in
      let placed2 = lies_right p.temps base load.widths body.widths placed0 in
      let here : IsPart core ops layout p meant base load.widths before pins now.moment lane1 = record { lasting = omega (arith, low); placed = placed1; agrees = c.tied.agrees } in
      let leaves = lowered.load_leaves (row_of core ops layout l) (stage_word core ops layout l) base before pins now.moment lane1 (omega (arith, within)) here in
      let lane2 = G load.moves lane1 in
      let tied2 : T now lane2 = tied_part core ops layout p meant root before pins base now now lane1 lane2 c.tied leaves.0.keeps leaves.0.agrees refl refl refl in
      let word = moving core words now.slot l in
      let has = lowered.loads (row_of core ops layout l) (stage_word core ops layout l) base before pins now.moment lane1 word (omega (arith, within)) here (stage_word_is l now lane1 c.tied) (moving_word l now lane1 c.tied) in
      let right2 : AreControls level now lane2 = record {
        held = λ k above high. leaves.0.keeps.times (held_at k) (omega (arith, high)) ∙ c.right.held k above high;
        free = λ k above high. leaves.0.keeps.times (open_at k) (omega (arith, high)) ∙ c.right.free k above high;
      } in
      let free2 : V lane2 (Temp (open_at l)) ≡ bit (is_free core now l) = leaves.0.keeps.times (open_at l) (omega (arith, within)) ∙ c.free in
      let next = core_turn core (stands core past) l now in
      let lane3 = G body.moves lane2 in
      let went3 : W base' 0 next lane2 lane3 = by (is_free core now l) refl lane2 base' (omega (arith, low)) placed2 tied2 free2 has in
      subst (λ (m : Moment). Come level next m) (sym (ran_append p before pins load.moves body.moves lane1)) record {
        tied = went3.tied;
        right = right_later level now next lane3 (turn_controls level now) (right_kept level base' 0 now next lane2 lane3 went3 right2);
        far = turn_far core sound words (stands core past) standing_worded level now within come.far;
      }
    where
      by : (b : Bool) → is_free core now (suc level) ≡ b → (lane2 : Moment) (base' : ℕ) → layout.lasting ≤ base' → Lies p.temps base' (turn_of core ops layout (suc level) 0 entire base').widths → T now lane2 → V lane2 (Temp (open_at (suc level))) ≡ bit (is_free core now (suc level)) → HasRowWord meant (row_of core ops layout (suc level)) (moving core words now.slot (suc level)) lane2
          → W base' 0 (core_turn core (stands core past) (suc level) now) lane2 (G (turn_of core ops layout (suc level) 0 entire base').moves lane2)
      by true e lane2 base' low' placed' tied' free' has' =
          let waits = waiting core (stands core past) (suc level) now in
          subst (λ (end : Running M). W base' 0 end lane2 (G (turn_of core ops layout (suc level) 0 entire base').moves lane2))
          (sym (ap (λ (b : Bool). cond b (fold (run_due core waits) now (filter (is_due core waits (suc level)) (all_nodes core))) now) e))
          (turn_runs core sound ops layout p meant before pins lowered laid enough past good bits_are (suc level) (omega arith) now come.far.first entire 0 base' 0 0 false now lane2 within (tree_of core sound) (lowered.owned, tt) (omega arith) low' placed' tied' (free' ∙ ap bit e) has' refl).went
      by false e lane2 base' low' placed' tied' free' has' =
          let waits = waiting core (stands core past) (suc level) now in
          subst (λ (end : Running M). W base' 0 end lane2 (G (turn_of core ops layout (suc level) 0 entire base').moves lane2))
          (sym (ap (λ (b : Bool). cond b (fold (run_due core waits) now (filter (is_due core waits (suc level)) (all_nodes core))) now) e))
          (turn_rests core sound ops layout p meant before pins lowered laid enough past good bits_are (suc level) (omega arith) now come.far.first entire 0 base' 0 false now lane2 within (tree_of core sound) low' placed' tied' (free' ∙ ap bit e))

  pub turns_made : (level from : ℕ) (now : Running M) (lane : Moment) → level ≤ core.stages → layout.lasting ≤ from → Lies p.temps from (turns core ops layout level from).widths → Come level now lane
      → Come 0 (core_turns core (stands core past) level now) (G (turns core ops layout level from).moves lane)
  turns_made zero from now lane within low placed come = come
  turns_made (suc level) from now lane within low placed come =
      let one = turn core ops layout (suc level) from in
      let base = from + length one.widths in
      let rest = turns core ops layout level base in
      let placed1 = lies_left p.temps from one.widths rest.widths placed in
      let placed2 = lies_right p.temps from one.widths rest.widths placed in
      let first = turn_made level from now lane within low placed1 come in
      subst (λ (m : Moment). Come 0 (core_turns core (stands core past) (suc level) now) m) (sym (ran_append p before pins one.moves rest.moves lane))
      (turns_made level base (core_turn core (stands core past) (suc level) now) (G one.moves lane) (omega arith) (omega (arith, low)) placed2 first)

  -- ---- `main`

  zeros : (ws : List ℕ) (t : ℕ) → ◌≡◌ {A = ℕ} (get_or (map (λ (w : ℕ). 0) ws) t 0) 0
  zeros [] t = refl
  zeros (w ∷ ws) zero = refl
  zeros (w ∷ ws) (suc t) = zeros ws t

  begun_tied : (memory : R) (old : State) → IsEntry meant pins → Lasts meant memory old → old.items ≡ before → length old.items ≡ length p.items → T (start core pins memory) (begun p old)
  begun_tied memory old entry lasts is items = record {
    agrees = subst (λ (b : List ℕ). Agrees meant b pins (core.begin pins memory) (begun p old)) is (lowered.begins memory old pins entry lasts);
    recorded = λ k less. zeros p.temps (recorded_at core.stages k);
    taken = zeros p.temps taken_at;
    slot = zeros p.temps slot_at;
    is_word = lowered.no_word;
    temp_count = length-map p.temps (λ (w : ℕ). 0);
    item_count = items;
    recording = record { made = tt; first = tt };
  }

  pub main_made : (memory : R) (old : State) → IsEntry meant pins → Lasts meant memory old → old.items ≡ before → length old.items ≡ length p.items → Lies p.temps layout.lasting (main_run core ops layout layout.lasting).widths
      → Come core.stages (run_occurrence core 0 (main_node core) (start core pins memory)) (G (main_run core ops layout layout.lasting).moves (begun p old))
  main_made memory old entry lasts is items placed =
      let from = layout.lasting in
      let now = start core pins memory in
      let tied = begun_tied memory old entry lasts is items in
      let tree = tree_of core sound in
      let mine = own_word core 0 false 0 now in
      let begun' = behavior core 0 mine now in
      let end = run core 0 mine core.acts begun' in
      let past_is = tree.1.past_is in
      let runs = own_runs core ops layout p meant root before pins lowered laid.lasts enough sound.one_root 0 0 false None now (core.is_root 0) refl (omega arith) past_is (λ e. absurd (both_ways false refl e)) (λ e. absurd (both_ways false refl e)) (λ e. absurd (both_ways false refl e)) in
      let went : W from 0 end (begun p old) (G (main_run core ops layout from).moves (begun p old)) =
      occurrence_went core ops layout p meant root before pins lowered laid.lasts enough sound.one_root (core.is_root 0) from 0 0 0 false None always (active core ops layout 0 (own_row core ops layout 0 false None) always core.acts) now end (begun p old) refl (omega arith) placed no_guard tied refl (omega arith)
      (λ e. absurd (both_ways false refl e)) (λ r e. absurd (none_is r e)) runs
      (λ from' lane' more placed' tied' on' has'. active_runs core ops layout p meant root before pins lowered laid.lasts enough sound.one_root 0 (own_row core ops layout 0 false None) core.acts from' 1 0 mine (false || core.is_root 0) always begun' lane' tree.4 lowered.owned (omega arith) more placed' no_guard tied' on'
      (own_row_for core ops layout p meant root before pins lowered laid.lasts enough sound.one_root 0 0 false false None (core.is_root 0) refl (λ e. e) (omega arith) ((λ e. absurd (both_ways false refl e)), (λ r e. absurd (none_is r e)))) has' runs) in
      record {
        tied = went.tied;
        right = record { held = λ l low high. absurd (omega (arith, low, high)); free = λ l low high. absurd (omega (arith, low, high)) };
        far = main_far core sound words (stands core past) standing_worded pins memory (suc core.stages);
      }
    where
      none_is : (r : ℕ) → None ≡ Some r → ⊥
      none_is r e = cc
