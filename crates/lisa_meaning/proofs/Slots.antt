-- The word of each stage is 0, or one that some instruction has.
use Rattle.std.proofs.Common.{◌≡◌, ◌&&◌, ℕ, zero, suc, Bool, true, false, cond, List, [], ◌∷◌, ◌++◌, Option, None, Some, length, refl, subst}
use Rattle.std.specs.Prelude.{find, option_map, unwrap_or}
use Rattle.std.specs.List.{AllByRecursion, fold}
use Rattle.std.proofs.lemmas.Bool.{and_parts, cond_both}
use Rattle.std.proofs.lemmas.Option.{same_Some}
use Rattle.pipeline_time.specs.Cores.{Core}
use Rattle.pipeline_time.specs.Running.{Running, behavior, activate}
use Rattle.pipeline_time.specs.Edges.{is_free}
use Rattle.pipeline_time.specs.Journal.{Log, Entry, place, is_at, slot_entries, slots, stands, stage_word}
use Rattle.pipeline_time.specs.States.{State, slot_made, edge_of, next, first_state, after}
use Rattle.lisa_meaning.proofs.Running.{edge_kept}

-- what each edge keeps, and the first state has, holds after any edges
pub after_kept : {R M : Type 0} (core : Core R M) (S : State R → Type 0) → ((state : State R) (pins : List ℕ) → S state → S (next core state pins)) → (state : State R) (entries : List (List ℕ)) → S state → S (fold (next core) state entries)
after_kept core S step state [] kept = kept
after_kept core S step state (pins ∷ entries) kept = after_kept core S step (next core state pins) entries (step state pins kept)

module _ {R M : Type 0} (core : Core R M) where
  abbrev HasSlot : Option ℕ → Type 0
  HasSlot slot = (w : ℕ) → slot ≡ Some w → core.decodes w ≡ true

  behavior_slot : (number word : ℕ) (now : Running M) → HasSlot now.slot → HasSlot (behavior core number word now).slot
  unfolding behavior
  behavior_slot number word now has =
      cond_both (core.is_root number && core.decodes word) (Some word) now.slot HasSlot
      (λ is w e. subst (λ v. core.decodes v ≡ true) (same_Some word w e) (and_parts (core.is_root number) (core.decodes word) is).1)
      (λ is. has)

  activate_slot : (level number word : ℕ) (now : Running M) → HasSlot now.slot → HasSlot (activate core level number word now).slot
  unfolding activate
  activate_slot zero number word now has = has
  activate_slot (suc stage) number word now has = has

  made_slot : (level : Option ℕ) (now : Running M) → HasSlot now.slot → HasSlot (slot_made core level now)
  made_slot None now has = λ w e. absurd (cc e)
  made_slot (Some zero) now has = cond_both (is_free core now 1) now.slot None HasSlot (λ free. has) (λ not' w e. absurd (cc e))
  made_slot (Some (suc stage)) now has = has

  abbrev HaveSlots : List Log → Type 0
  HaveSlots past = AllByRecursion (λ (log : Log). HasSlot log.slot) past

  next_slots : (state : State R) (pins : List ℕ) → HaveSlots state.past → HaveSlots (next core state pins).past
  next_slots state pins has =
      let now = edge_of core pins state in
      (made_slot core.root_level now (edge_kept core (λ (r : Running M). HasSlot r.slot) behavior_slot activate_slot (stands core state.past) pins state.memory (λ w e. absurd (cc e))), has)

  all_slots : (first : R) (entries : List (List ℕ)) → HaveSlots (after core first entries).past
  all_slots first entries = after_kept core (λ (s : State R). HaveSlots s.past) next_slots (first_state core first) entries tt

  module _ (Q : ℕ → Type 0) (none : Q 0) (some : (w : ℕ) → core.decodes w ≡ true → Q w) where
    entries_have : (edge : ℕ) (slot : Option ℕ) (rest : List Entry) → HasSlot slot → AllByRecursion (λ (e : Entry). Q e.word) rest → AllByRecursion (λ (e : Entry). Q e.word) (slot_entries core edge slot ++ rest)
    entries_have edge None rest has all = all
    entries_have edge (Some w) rest has all = (some w (has w refl), all)

    slots_have : (past : List Log) → HaveSlots past → AllByRecursion (λ (e : Entry). Q e.word) (slots core past)
    slots_have [] has = tt
    slots_have (log ∷ past) has = entries_have (suc (length past)) log.slot (slots core past) has.0 (slots_have past has.1)

    found_has : (p : Entry → Bool) (entries : List Entry) → AllByRecursion (λ (e : Entry). Q e.word) entries → Q (unwrap_or (option_map (λ (e : Entry). e.word) (find p entries)) 0)
    found_has p [] all = none
    found_has p (e ∷ entries) all = by (p e) (found_has p entries all.1)
      where
        by : (b : Bool) → Q (unwrap_or (option_map (λ (x : Entry). x.word) (find p entries)) 0) → Q (unwrap_or (option_map (λ (x : Entry). x.word) (cond b (Some e) (find p entries))) 0)
        by true h = all.0
        by false h = h

    pub word_has : (first : R) (entries : List (List ℕ)) (level : ℕ) → Q (stage_word core (after core first entries).past level)
    word_has first entries level =
        let past = (after core first entries).past in
        found_has (λ (e : Entry). is_at level (place past e)) (slots core past) (slots_have past (all_slots first entries))
