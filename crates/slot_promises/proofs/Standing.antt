-- What stands past the root stands with a slot, after any edges.
use Rattle.std.proofs.Common.{◌≡◌, ℕ, zero, suc, ◌<◌, ◌≤◌, Bool, true, false, cond, not, ◌&&◌, ◌||◌, List, [], ◌∷◌, Option, None, Some, refl, sym, ap, ap₂, ◌∙◌, subst, ⊎_elim, arith, nat_eq}
use Rattle.std.specs.Prelude.{is_some}
use Rattle.std.specs.Option.{unwrap_or, option_or}
use Rattle.std.specs.List.{fold, AllByRecursion}
use Rattle.std.proofs.lemmas.Bool.{cond-true, cond-false, both_ways, ne_eqb, eqb-false, eqb-true, or_right}
use Rattle.pipeline_time.specs.Cores.{Core, all_nodes, level_of, above_of, is_past, level_of_slots, slot_level}
use Rattle.pipeline_time.specs.Running.{Activation, Running, word_below}
use Rattle.pipeline_time.specs.Edges.{is_free}
use Rattle.pipeline_time.specs.Journal.{Log, journal, stands, stage_word}
use Rattle.pipeline_time.specs.States.{State, slot_made, log_of, edge_of, next, first_state, after}
use Rattle.pipeline_time.specs.Bits.{is_open}
use Rattle.pipeline_time.specs.Sound.{IsSound}
use Rattle.pipeline_time.specs.Laws.{turn_word}
use Rattle.pipeline_time.proofs.Lists.{each_both}
use Rattle.pipeline_time.proofs.Tree.{RootAbove, level_within, past_later, whole, tree_of}
use Rattle.pipeline_time.proofs.Held.{IsDeep, all_deep}
use Rattle.pipeline_time.proofs.Falls.{of_contained}
use Rattle.pipeline_time.proofs.Turns.{slots_before, none_some}
use Rattle.pipeline_time.proofs.Places.{stays, open_moves, made_word, picks, slots_next, stood, none_below}
use Rattle.pipeline_time.proofs.Agree.{IsGoodMade, IsGoodPast, all_later, made_good, between, words_agree, worded, next_good, good_past}
use Rattle.pipeline_time.proofs.Due.{due_chosen}
use Rattle.slot_promises.specs.Slots.{slot_at, turn_slot, PastHasSlot, DueHasSlot}
use Rattle.slot_promises.proofs.Taken.{MadeHas}
use Rattle.slot_promises.proofs.Turns.{IsSlotted, due_has, edge_has, come_has}

some_of : (a b : Option ℕ) → is_some b ≡ true → is_some (option_or a b) ≡ true
some_of None b is = is
some_of (Some x) b is = refl

first_of : (a b : Option ℕ) → is_some a ≡ true → is_some (option_or a b) ≡ true
first_of None b is = absurd (both_ways false refl is)
first_of (Some x) b is = refl

-- a slot that is there has the word that is read of it
read_slot : (o : Option ℕ) (word : ℕ) → is_some o ≡ true → unwrap_or o 0 ≡ word → o ≡ Some word
read_slot None word is e = absurd (both_ways false refl is)
read_slot (Some w) word is e = ap Some e

some_cond : (c : Bool) (a b : Option ℕ) → is_some (cond c a b) ≡ cond c (is_some a) (is_some b)
some_cond true a b = refl
some_cond false a b = refl

-- a slot that moves on, by the tests of the table
moved_on : (r o n s : Bool) (slot held before : Option ℕ) → s ≡ false → o ≡ true → n ≡ false → is_some (cond r slot before) ≡ true → is_some (option_or (cond (r && not n) slot None) (cond s held (cond (o && not n) before None))) ≡ true
moved_on true true false false slot held before stays moves ends is = first_of slot before is
moved_on false true false false slot held before stays moves ends is = is
moved_on r false n s slot held before stays moves ends is = absurd (both_ways false refl moves)
moved_on r true true s slot held before stays moves ends is = absurd (both_ways true ends refl)
moved_on r true false true slot held before stays moves ends is = absurd (both_ways true stays refl)

module _ {R M : Type 0} (core : Core R M) where
  -- the slot that moves on from a level in an edge
  abbrev moving_slot : Log → List Log → ℕ → Option ℕ
  moving_slot log past level = cond (nat_eq level (slot_level core)) log.slot (slot_at core past level)

  -- what an edge recorded past the root it recorded where a slot moved on
  abbrev HasMoving : Log → List Log → Activation → Type 0
  HasMoving log past a = is_past core a.occurrence ≡ true → is_some (moving_slot log past a.level) ≡ true

  abbrev IsTakenPast : List Log → Type 0
  IsTakenPast [] = Unit {0}
  IsTakenPast (log ∷ past) = AllByRecursion (HasMoving log past) log.made × IsTakenPast past

  made_moving : (log : Log) (past : List Log) (made : List Activation) (level number word : ℕ) → AllByRecursion (HasMoving log past) made → made_word made level number ≡ Some word → is_past core number ≡ true → is_some (moving_slot log past level) ≡ true
  made_moving log past [] level number word each e is = absurd (none_some word e)
  made_moving log past (a ∷ made) level number word each e is =
      ⊎_elim
      (λ here.
      let same = eqb-true a.occurrence number here.0 in
      subst (λ l. is_some (moving_slot log past l) ≡ true) (eqb-true a.level level here.1) (each.0 (ap (is_past core) same ∙ is)))
      (λ more. made_moving log past made level number word each.1 more is)
      (picks (nat_eq a.occurrence number) (nat_eq a.level level) a.word word (made_word made level number) e)

module _ {R M : Type 0} (core : Core R M) (sound : IsSound core) where
  pub has_slots : (past : List Log) (level number word : ℕ) → IsGoodPast core past → IsTakenPast core past → is_past core number ≡ true → stands core past level number ≡ Some word → is_some (slot_at core past level) ≡ true
  has_slots [] level number word good taken is e = absurd (none_some word e)
  has_slots (log ∷ past) zero number word good taken is e = absurd (none_some word (sym (none_below (log ∷ past) (journal core number (log ∷ past))) ∙ e))
  has_slots (log ∷ past) (suc level) number word good taken is e =
      ⊎_elim
      (λ new.
      let m = made_good core (stage_word core past) log log.made level number word good.0.each new in
      onward m.open_there (omega (arith, m.later)) (made_moving core log past log.made level number word taken.0 new is))
      (λ old. ⊎_elim
      (λ held. stay held.0 (has_slots past (suc level) number word good.1 taken.1 is held.1))
      (λ moves.
      let b = between core past level number word good.1 moves.2 in
      let ne = eqb-false level (level_of core number) moves.1 in
      onward moves.0 (omega (arith, b.until_own, ne)) (behind b.after_activator b.staged b.until_own (has_slots past level number word good.1 taken.1 is moves.2)))
      old)
      (stood core log past level number word (all_later core (stage_word core past) log good.0) e)
    where
      there : is_some (slot_at core (log ∷ past) (suc level)) ≡ is_some (option_or (cond (nat_eq level (slot_level core) && not (nat_eq level core.stages)) log.slot None) (cond (stays log (suc level)) (slot_at core past (suc level)) (cond (is_open log level && not (nat_eq level core.stages)) (slot_at core past level) None)))
      there = ap is_some (slots_next core log past level good.0.slot_within)

      onward : is_open log level ≡ true → level < level_of core number → is_some (moving_slot core log past level) ≡ true → is_some (slot_at core (log ∷ past) (suc level)) ≡ true
      onward moves below has =
          there
          ∙ moved_on (nat_eq level (slot_level core)) (is_open log level) (nat_eq level core.stages) (stays log (suc level)) log.slot (slot_at core past (suc level)) (slot_at core past level)
          (open_moves log level moves) moves (ne_eqb level core.stages (λ at. let l = level_within core sound number in omega arith)) has

      stay : stays log (suc level) ≡ true → is_some (slot_at core past (suc level)) ≡ true → is_some (slot_at core (log ∷ past) (suc level)) ≡ true
      stay held has =
          there
          ∙ some_of (cond (nat_eq level (slot_level core) && not (nat_eq level core.stages)) log.slot None) _
          (ap is_some (cond-true (stays log (suc level)) (slot_at core past (suc level)) _ held) ∙ has)

      behind : above_of core number < level → 0 < above_of core number → level ≤ level_of core number → is_some (slot_at core past level) ≡ true → is_some (moving_slot core log past level) ≡ true
      behind low staged until has =
          let l = level_within core sound number in
          let b = slots_before core (above_of core number) level (past_later core sound number is (omega (arith, l))) low (omega arith) in
          ap is_some (cond-false (nat_eq level (slot_level core)) log.slot (slot_at core past level) (ne_eqb level (slot_level core) (λ same. omega (arith, b)))) ∙ has

  -- the log keeps the slot with which something past the root was recorded
  slot_kept : (now : Running M) (o : Option ℕ) (above level : ℕ) → core.root_level ≡ o → RootAbove core above → level ≡ level_of_slots o → is_free core now level ≡ true → slot_made core o now ≡ now.slot
  slot_kept now None above level e root at free = absurd (none_some root.level (sym e ∙ root.is))
  slot_kept now (Some zero) above level e root at free = ap (λ b. cond b now.slot None) (subst (λ l. is_free core now l ≡ true) at free)
  slot_kept now (Some (suc stage)) above level e root at free = refl

  -- in which stages slots stand
  abbrev slot_there : List Log → ℕ → Bool
  slot_there past level = is_some (slot_at core past level)

  made_taken : (words : ℕ → ℕ) (past : List Log) (now : Running M) (a : Activation) → MadeHas core (slot_there past) now.slot a → IsGoodMade core words (log_of core now) a → HasMoving core (log_of core now) past a
  made_taken words past now a has good is = by (nat_eq a.level (slot_level core)) refl
    where
      by : (b : Bool) → nat_eq a.level (slot_level core) ≡ b → is_some (moving_slot core (log_of core now) past a.level) ≡ true
      by true here =
          let l = level_within core sound a.occurrence in
          let root = past_later core sound a.occurrence is (omega (arith, good.later, l)) in
          let kept = slot_kept now core.root_level (above_of core a.occurrence) a.level refl root (eqb-true a.level (slot_level core) here) good.open_there in
          ap is_some (cond-true (nat_eq a.level (slot_level core)) (log_of core now).slot (slot_at core past a.level) here ∙ kept)
          ∙ sym (cond-true (nat_eq a.level 0 || nat_eq a.level (slot_level core)) (is_some now.slot) (slot_there past a.level) (or_right (nat_eq a.level 0) _ here))
          ∙ has is
      by false other =
          ap is_some (cond-false (nat_eq a.level (slot_level core)) (log_of core now).slot (slot_at core past a.level) other)
          ∙ sym (ap₂ (λ z s. cond (z || s) (is_some now.slot) (slot_there past a.level)) (ne_eqb a.level 0 (λ e. omega (arith, good.staged))) other)
          ∙ has is

  slots_there : (past : List Log) → IsGoodPast core past → IsTakenPast core past → IsSlotted core (slot_there past) (stands core past)
  slots_there past good taken = record {
    later = (worded core sound past good).later;
    slot = λ level number is there. of level number is (stands core past level number) refl there;
  }
    where
      of : (level number : ℕ) → is_past core number ≡ true → (o : Option ℕ) → stands core past level number ≡ o → is_some o ≡ true → slot_there past level ≡ true
      of level number is None e there = absurd (both_ways false refl there)
      of level number is (Some word) e there = has_slots past level number word good taken is e

  next_taken : (state : State R) (pins : List ℕ) → IsGoodPast core state.past → IsTakenPast core state.past → IsTakenPast core (next core state pins).past
  next_taken state pins good taken =
      let now = edge_of core pins state in
      let have = edge_has core sound (slot_there state.past) (stands core state.past) (slots_there state.past good taken) pins state.memory in
      let goods = (next_good core sound state pins good).0 in
      (each_both (MadeHas core (slot_there state.past) now.slot) (IsGoodMade core (stage_word core state.past) (log_of core now)) (HasMoving core (log_of core now) state.past) now.made (made_taken (stage_word core state.past) state.past now) have.made goods.each, taken)

  fold_taken : (entries : List (List ℕ)) (state : State R) → IsGoodPast core state.past → IsTakenPast core state.past → IsTakenPast core (fold (next core) state entries).past
  fold_taken [] state good taken = taken
  fold_taken (pins ∷ entries) state good taken = fold_taken entries (next core state pins) (next_good core sound state pins good) (next_taken state pins good taken)

  taken_past : (first : R) (entries : List (List ℕ)) → IsTakenPast core (after core first entries).past
  taken_past first entries = fold_taken entries (first_state core first) tt tt

  pub past_has_slot : PastHasSlot core
  past_has_slot first entries level number word is e =
      let past = (after core first entries).past in
      let good = good_past core sound first entries in
      let has = words_agree core sound past level number word good e in
      read_slot (slot_at core past level) word (has_slots past level number word good (taken_past first entries) is e)
      (sym (has.is ∙ ap (λ p. word_below p (stage_word core past level)) is))

  read_turn : (c : Bool) (slot held : Option ℕ) → unwrap_or (cond c slot held) 0 ≡ cond c (unwrap_or slot 0) (unwrap_or held 0)
  read_turn true slot held = refl
  read_turn false slot held = refl

  pub due_has_slot : DueHasSlot core
  due_has_slot first entries pins level now node word above comes in_tree due is waits =
      let state = after core first entries in
      let past = state.past in
      let slotted = slots_there past (good_past core sound first entries) (taken_past first entries) in
      let deep : IsDeep core sound node = of_contained (IsDeep core sound) (all_nodes core) node (all_deep core sound 0 false 0 (whole core) (tree_of core sound)) in_tree in
      let have = come_has core sound (slot_there past) (stands core past) slotted pins state.memory level now comes in
      let has = due_has core sound (slot_there past) (stands core past) slotted level now above have node deep.good due is in
      let chosen = due_chosen core sound first entries pins level now node above comes in_tree due word (sym (ap (λ o. unwrap_or o 0) waits)) in
      read_slot (turn_slot core past now level) word
      (some_cond (nat_eq level (slot_level core)) now.slot (slot_at core past level)
      ∙ sym (ap (λ z. cond (z || nat_eq level (slot_level core)) (is_some now.slot) (slot_there past level)) (ne_eqb level 0 (λ e. omega (arith, above))))
      ∙ has)
      (read_turn (nat_eq level (slot_level core)) now.slot (slot_at core past level)
      ∙ sym (chosen.0 ∙ ap (λ p. word_below p (turn_word core past now level)) is))
