-- An edge of the program is an edge of the core.
use Rattle.std.proofs.Common.{◌≡◌, ℕ, zero, suc, ◌+◌, ◌≤◌, Bool, true, false, not, ◌&&◌, cond, List, [], ◌∷◌, ◌++◌, length, get_or, Option, Some, None, refl, sym, ap, ◌∙◌, subst, arith, nat_eq, fold, All}
use Rattle.std.specs.Prelude.{is_some}
use Rattle.std.specs.Option.{unwrap_or}
use Rattle.std.proofs.lemmas.Bool.{both_ways}
use Rattle.std.proofs.lemmas.List.{append-nil, append_assoc}
use Rattle.std.proofs.lemmas.List.Elements.{All-head, All-tail}
use Rattle.lisa_engine.specs.State.{State}
use Rattle.lisa_engine.specs.Memory.{Memory}
use Rattle.step_program.specs.Programs.{Temp, Move, Program}
use Rattle.step_program.specs.Effects.{Moment, begun, kept, effect, p_edge, p_first, p_state}
use Rattle.step_pieces.specs.Formed.{Lies}
use Rattle.step_pieces.proofs.Laid.{lies_left, lies_right}
use Rattle.pipeline_time.specs.Cores.{Core, slot_level}
use Rattle.pipeline_time.specs.Running.{Running}
use Rattle.pipeline_time.specs.Edges.{is_held, is_flushed, edge as core_edge}
use Rattle.pipeline_time.specs.Journal.{Log, stands, standing, slots, stage_word as word_of}
use Rattle.pipeline_time.specs.States.{State as CoreState, after, log_of, slot_made}
use Rattle.pipeline_time.specs.Bits.{Hardware, next_bit as core_bit, next_word as core_word, is_open, shown, first_hardware}
use Rattle.pipeline_time.specs.Sound.{IsSound}
use Rattle.pipeline_time.proofs.Tree.{level_within}
use Rattle.pipeline_time.proofs.Behind.{stands_behind}
use Rattle.pipeline_time.proofs.Agree.{IsGoodPast, good_past, same_standing, edge_agrees, agree}
use Rattle.step_pieces.specs.Pieces.{Piece}
use Rattle.lowered_time.specs.Building.{Operations, Layout, held_at, open_at, main_run, turns, ends}
use Rattle.lowered_time.specs.Lowering.{bit, a_bit, a_word, Meant, IsPart, Keeps, Shows, IsWordOf, Lasts, IsEntry}
use Rattle.lowered_time.specs.Laws.{MakesEdges}
use Rattle.lowered_time.proofs.Base.{ran_append}
use Rattle.lowered_time.proofs.Went.{go}
use Rattle.lowered_time.proofs.Turns.{Come, main_made, turns_made}
use Rattle.lowered_time.proofs.Ends.{EndsMade, ends_made}

module _ {R M A B C D E : Type 0} (core : Core R M) (sound : IsSound core) (ops : Operations) (layout : Layout) (p : Program) (meant : Meant R M A B C D E) (makes : MakesEdges core ops layout p meant) where
  abbrev Show : Hardware R → State → Type 0
  Show hard state = Shows core ops layout p meant hard state

  slot_word : (o : Option ℕ) (now : Running M) → IsWordOf meant 0 → IsWordOf meant (unwrap_or now.slot 0) → IsWordOf meant (unwrap_or (slot_made core o now) 0)
  slot_word None now none some = none
  slot_word (Some zero) now none some = of (not (is_held (core.stalled now.moment) 1) && not (is_flushed (core.flushed now.moment) 1))
    where
      of : (b : Bool) → IsWordOf meant (unwrap_or (cond b now.slot None) 0)
      of true = some
      of false = none
  slot_word (Some (suc stage)) now none some = some

  next_is_word : (now : Running M) (words : ℕ → ℕ) (level : ℕ) → IsWordOf meant 0 → IsWordOf meant (unwrap_or now.slot 0) → ((l : ℕ) → IsWordOf meant (words l)) → IsWordOf meant (core_word core (log_of core now) words level)
  next_is_word now words zero none some each = none
  next_is_word now words (suc level) none some each = of (is_held (log_of core now).stalled (suc level)) (is_flushed (log_of core now).flushed (suc level)) (is_open (log_of core now) level && not (nat_eq level core.stages)) (nat_eq level (slot_level core))
    where
      of : (a b c d : Bool) → IsWordOf meant (cond a (cond b 0 (words (suc level))) (cond c (cond d (unwrap_or (slot_made core core.root_level now) 0) (words level)) 0))
      of true true c d = none
      of true false c d = each (suc level)
      of false b true true = slot_word core.root_level now none some
      of false b true false = each level
      of false b false d = none

  module _ (first : R) (entries : List (List ℕ)) (pins : List ℕ) (state : State) (entry : IsEntry meant pins) (shows : Show (shown core (after core first entries)) state) where
    abbrev core_state : CoreState R
    core_state = after core first entries

    abbrev past : List Log
    past = core_state.past

    good : IsGoodPast core past
    good = good_past core sound first entries

    abbrev hardware : Running M → Hardware R
    hardware now = record {
      memory = core.close now.moment;
      bits = core_bit core (log_of core now) (λ level number. is_some (stands core past level number));
      words = core_word core (log_of core now) (word_of core past);
    }

    no_words : (level : ℕ) → layout.word level ≡ None → word_of core past level ≡ 0
    no_words level none = of (standing past level (slots core past)) refl
      where
        of : (o : Option ℕ) → standing past level (slots core past) ≡ o → unwrap_or o 0 ≡ 0
        of None e = refl
        of (Some w) e =
            let b = stands_behind core first entries level (ap is_some e) in
            absurd (both_ways false refl (sym (ap is_some none) ∙ makes.laid_out.has_word level b.0 b.1 b.2))

    abbrev before : List ℕ
    before = state.items

    low : layout.lasting ≤ length p.temps
    low = let w = makes.placed.room in omega (arith, w)

    abbrev G : List Move → Moment → Moment
    G moves lane = go core ops layout p meant sound.root before pins moves lane

    abbrev main : Piece
    main = main_run core ops layout layout.lasting

    abbrev base1 : ℕ
    base1 = layout.lasting + length main.widths

    abbrev turning : Piece
    turning = turns core ops layout core.stages base1

    abbrev base2 : ℕ
    base2 = base1 + length turning.widths

    abbrev base3 : ℕ
    base3 = base2 + 0

    abbrev closing : Piece
    closing = ops.close (λ level. Temp (held_at level)) (λ level. Temp (open_at level)) base3

    placed1 : Lies p.temps layout.lasting main.widths
    placed1 = lies_left p.temps layout.lasting main.widths (turning.widths ++ closing.widths) makes.placed

    placed2 : Lies p.temps base1 (turning.widths ++ closing.widths)
    placed2 = lies_right p.temps layout.lasting main.widths (turning.widths ++ closing.widths) makes.placed

    placed3 : Lies p.temps base1 turning.widths
    placed3 = lies_left p.temps base1 turning.widths closing.widths placed2

    placed4 : Lies p.temps base3 closing.widths
    placed4 = subst (λ (n : ℕ). Lies p.temps n closing.widths) {x = base2} {y = base3} (omega arith) (lies_right p.temps base1 turning.widths closing.widths placed2)

    abbrev lane0 : Moment
    lane0 = begun p state

    abbrev lane1 : Moment
    lane1 = G main.moves lane0

    abbrev lane2 : Moment
    lane2 = G turning.moves lane1

    abbrev lane3 : Moment
    lane3 = G (ends core ops layout core.stages) lane2

    abbrev lane4 : Moment
    lane4 = G closing.moves lane3

    abbrev now : Running M
    now = core_edge core (stands core past) pins core_state.memory

    abbrev Comes : ℕ → Running M → Moment → Type 0
    Comes level n lane = Come core sound ops layout p meant before pins makes.lowered makes.laid_out low past good shows.bits shows.words no_words shows.are_words level n lane

    come : Comes 0 now lane2
    come = turns_made core sound ops layout p meant before pins makes.lowered makes.laid_out low past good shows.bits shows.words no_words shows.are_words core.stages base1 _ lane1 (omega arith) (omega arith) placed3
        (main_made core sound ops layout p meant before pins makes.lowered makes.laid_out low past good shows.bits shows.words no_words shows.are_words core_state.memory state entry shows.lasts refl shows.item_count placed1)

    ended : EndsMade core sound ops layout p meant before pins makes.lowered makes.laid_out low past good shows.bits shows.words no_words shows.are_words now lane2 come core.stages lane3
    ended = ends_made core sound ops layout p meant before pins makes.lowered makes.laid_out low past good shows.bits shows.words no_words shows.are_words now lane2 come core.stages

    here : IsPart core ops layout p meant base3 closing.widths before pins now.moment lane3
    here = record { lasting = omega arith; placed = placed4; agrees = makes.lowered.unseen before pins now.moment lane2 lane3 ended.ending.unseen come.tied.agrees }

    temp_is : (t : ℕ) → get_or lane3.temps t 0 ≡ get_or lane2.temps t 0
    temp_is t = ap (λ (ts : List ℕ). get_or ts t 0) ended.ending.temps

    open_by : (a b : Bool) → (not a && not b) ≡ cond a false (cond b false true)
    open_by true b = refl
    open_by false true = refl
    open_by false false = refl

    closes : Lasts meant (core.close now.moment) (kept lane4) × Keeps core layout base3 lane3 lane4
    closes = makes.lowered.closes base3 before pins now.moment lane3 here
        (λ level above within. temp_is (held_at level) ∙ come.right.held level above within)
        (λ level above within. temp_is (open_at level) ∙ come.right.free level above within ∙ ap bit (open_by (is_held (core.stalled now.moment) level) (is_flushed (core.flushed now.moment) level)))

    bit_shown : (level number place : ℕ) → layout.bit level number ≡ Some place → get_or lane3.items place 0 ≡ bit (core_bit core (log_of core now) (λ level number. is_some (stands core past level number)) level number)
    bit_shown zero number place at = let b = makes.laid_out.bit_between zero number place at in absurd (omega (arith, b.2))
    bit_shown (suc level) number place at = let b = makes.laid_out.bit_between (suc level) number place at in let w = level_within core sound number in ended.bits level number place (omega (arith, b.3, w)) at

    word_shown : (level place : ℕ) → layout.word level ≡ Some place → get_or lane3.items place 0 ≡ core_word core (log_of core now) (word_of core past) level
    word_shown zero place at = let b = makes.laid_out.word_between zero place at in absurd (omega (arith, b.1))
    word_shown (suc level) place at = let b = makes.laid_out.word_between (suc level) place at in ended.words level place (omega (arith, b.2)) at

    same_edge : p_edge p state pins ≡ kept lane4
    same_edge =
        ap (λ (moves : List Move). kept (fold (effect p before pins) lane0 moves)) makes.moves
        ∙ ap kept
        (ran_append p before pins main.moves (turning.moves ++ (ends core ops layout core.stages ++ closing.moves)) lane0
        ∙ ran_append p before pins turning.moves (ends core ops layout core.stages ++ closing.moves) lane1
        ∙ ran_append p before pins (ends core ops layout core.stages) closing.moves lane2)

    made : Show (hardware now) (p_edge p state pins)
    made = subst (λ (s : State). Show (hardware now) s) (sym same_edge) record {
      lasts = closes.0;
      bits = λ level number place at. closes.1.places place (a_bit level number at) ∙ bit_shown level number place at;
      words = λ level place at. closes.1.places place (a_word level at) ∙ word_shown level place at;
      item_count = closes.1.item_count ∙ ended.ending.unseen.item_count ∙ come.tied.item_count;
      are_words = λ level. next_is_word now (word_of core past) level makes.lowered.no_word come.tied.is_word shows.are_words;
    }

    -- one edge, from what the state shows
    pub edge_made : Show (shown core (after core first (entries ++ pins ∷ []))) (p_edge p state pins)
    edge_made =
        subst (λ (hard : Hardware R). Show hard (p_edge p state pins)) (edge_agrees core sound first entries pins (shown core core_state) refl)
        (subst (λ (s : ℕ → ℕ → Option ℕ). Show (hardware (core_edge core s pins core_state.memory)) (p_edge p state pins)) (sym (same_standing core sound core_state good)) made)

  -- ---- any edges

  abbrev Entries : List (List ℕ) → Type 0
  Entries entries = All (IsEntry meant) entries

  from_here : (first : R) (done entries : List (List ℕ)) (state : State) → All (IsEntry meant) entries → Show (shown core (after core first done)) state → Show (shown core (after core first (done ++ entries))) (fold (p_edge p) state entries)
  from_here first done [] state each shows = subst (λ (xs : List (List ℕ)). Show (shown core (after core first xs)) state) (sym (append-nil done)) shows
  from_here first done (pins ∷ entries) state each shows =
      subst (λ (xs : List (List ℕ)). Show (shown core (after core first xs)) (fold (p_edge p) (p_edge p state pins) entries)) (append_assoc done (pins ∷ []) entries)
      (from_here first (done ++ pins ∷ []) entries (p_edge p state pins) (All-tail (IsEntry meant) pins entries each) (edge_made first done pins state (All-head (IsEntry meant) pins entries each) shows))

  pub states_made : (first : R) (image : List Memory) (entries : List (List ℕ)) → Show (first_hardware core first) (p_first p image) → All (IsEntry meant) entries → Show (shown core (after core first entries)) (p_state p image entries)
  states_made first image entries shows each = from_here first [] entries (p_first p image) each (subst (λ (hard : Hardware R). Show hard (p_first p image)) (agree core sound first []) shows)
