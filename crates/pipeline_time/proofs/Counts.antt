-- At most one activation of an occurrence stands in a stage, and at most one slot.
use Rattle.std.proofs.Common.{◌≡◌, ℕ, zero, suc, ◌+◌, ◌≤◌, Bool, true, false, cond, not, ◌&&◌, ◌||◌, List, [], ◌∷◌, ◌++◌, length, Option, None, Some, refl, sym, ap, ap₂, ◌∙◌, subst, ⊎_elim, arith, nat_eq}
use Rattle.std.specs.Option.{unwrap_or, option_map}
use Rattle.std.specs.List.{fold, find, AllByRecursion, Contains}
use Rattle.std.proofs.lemmas.Bool.{cond_both, cond-true, cond-false, cases_Bool, both_ways, and_left, and_parts, eqb-true, lt-ltb, false_from_ne_true}
use Rattle.pipeline_time.specs.Cores.{Core, level_of, above_of, slot_level}
use Rattle.pipeline_time.specs.Running.{Activation}
use Rattle.pipeline_time.specs.Journal.{Log, Entry, place, is_at, standing, activation_entry, entries_of, journal, slot_entries, slots, stands, stage_word}
use Rattle.pipeline_time.specs.States.{State, next, first_state, after}
use Rattle.pipeline_time.specs.Bits.{is_open}
use Rattle.pipeline_time.specs.Sound.{IsSound}
use Rattle.pipeline_time.specs.Laws.{count_standing}
use Rattle.pipeline_time.proofs.Lists.{each_so}
use Rattle.pipeline_time.proofs.Falls.{how_many, many_filtered, many_append, many_same, many_none, none_found, only_found, of_contained}
use Rattle.pipeline_time.proofs.Turns.{none_some}
use Rattle.pipeline_time.proofs.Places.{stays, open_moves, IsOld, one, either, other, neither, at_new, place_above, made_word, journal_old, slots_old, IsLater}
use Rattle.pipeline_time.proofs.Agree.{IsGoodPast, all_later, made_good, between, no_slot, worded, good_past, next_good}
use Rattle.pipeline_time.proofs.Once.{times, edge_once}

-- how many of what was made before stand after an edge
old_many : (log : Log) (past : List Log) (last level : ℕ) (entries : List Entry) → AllByRecursion (IsOld past last) entries → how_many (λ entry. is_at (suc level) (place (log ∷ past) entry)) entries ≡ cond (stays log (suc level)) (how_many (λ entry. is_at (suc level) (place past entry)) entries) (cond (is_open log level && not (nat_eq level last)) (how_many (λ entry. is_at level (place past entry)) entries) 0)
old_many log past last level entries old =
    let p = λ (l : ℕ) (entry : Entry). is_at l (place past entry) in
    let q = λ (entry : Entry). is_at (suc level) (place (log ∷ past) entry) in
    let moves = is_open log level && not (nat_eq level last) in
    let each = λ (f : Entry → Bool) (h : (entry : Entry) → ((is_at (suc level) (place past entry) && stays log (suc level)) || (is_at level (place past entry) && moves)) ≡ f entry).
    each_so (IsOld past last) (λ entry. q entry ≡ f entry) entries (λ entry so. subst (λ k. q entry ≡ ((p (suc level) entry && stays log (suc level)) || (p level entry && (is_open log level && not (nat_eq level k))))) so.ends (one log past level entry so.before) ∙ h entry) old in
    ⊎_elim
    (λ stay.
    let shut : moves ≡ false = and_left (is_open log level) (not (nat_eq level last)) (false_from_ne_true _ (λ o. both_ways _ (open_moves log level o) stay)) in
    many_same q (p (suc level)) entries (each (p (suc level)) (λ entry. either _ (p level entry) (stays log (suc level)) moves stay shut))
    ∙ sym (cond-true (stays log (suc level)) _ _ stay))
    (λ leaves.
    ⊎_elim
    (λ move.
    many_same q (p level) entries (each (p level) (λ entry. other (p (suc level) entry) _ (stays log (suc level)) moves leaves move))
    ∙ sym (cond-false (stays log (suc level)) _ _ leaves ∙ cond-true moves _ _ move))
    (λ stop.
    many_none q entries (each (λ entry. false) (λ entry. neither (p (suc level) entry) (p level entry) (stays log (suc level)) moves leaves stop))
    ∙ sym (cond-false (stays log (suc level)) _ _ leaves ∙ cond-false moves _ _ stop))
    (cases_Bool moves))
    (cases_Bool (stays log (suc level)))

none_standing : (past : List Log) (level : ℕ) (entries : List Entry) → standing past level entries ≡ None → how_many (λ entry. is_at level (place past entry)) entries ≡ 0
none_standing past level entries e = none_found (λ entry. is_at level (place past entry)) entries (of (find (λ entry. is_at level (place past entry)) entries) e)
  where
    of : (o : Option Entry) → option_map (λ (entry : Entry). entry.word) o ≡ None → o ≡ None
    of None e = refl
    of (Some entry) e = absurd (none_some entry.word (sym e))

many_above : (past : List Log) (entries : List Entry) → how_many (λ entry. is_at 0 (place past entry)) entries ≡ 0
many_above past entries = many_none (λ entry. is_at 0 (place past entry)) entries (all entries)
  where
    all : (entries : List Entry) → AllByRecursion (λ entry. is_at 0 (place past entry) ≡ false) entries
    all [] = tt
    all (entry ∷ entries) = (place_above past entry, all entries)

never_made : (made : List Activation) (level number : ℕ) → made_word made level number ≡ None → times made level number ≡ 0
never_made [] level number e = refl
never_made (a ∷ made) level number e =
    of (nat_eq a.occurrence number) (nat_eq a.level level) (made_word made level number) (times made level number) (never_made made level number) e
  where
    of : (x y : Bool) (o : Option ℕ) (n : ℕ) → (o ≡ None → n ≡ 0) → cond x (cond y (Some a.word) o) o ≡ None → cond (x && y) (suc n) n ≡ 0
    of true true o n so e = absurd (none_some a.word (sym e))
    of true false o n so e = so e
    of false y o n so e = so e

-- one or the other of two counts that are at most one
at_most : (s m : Bool) (a b : ℕ) → a ≤ 1 → b ≤ 1 → cond s a (cond m b 0) ≤ 1
at_most true m a b x y = x
at_most false true a b x y = y
at_most false false a b x y = omega arith

-- none where it doesn't stay, and none moves in
none_left : (s m : Bool) (a b : ℕ) → s ≡ false → b ≡ 0 → cond s a (cond m b 0) ≡ 0
none_left true m a b e z = absurd (both_ways true e refl)
none_left false true a b e z = z
none_left false false a b e z = refl

module _ {R M : Type 0} (core : Core R M) where
  -- what each edge recorded at a level, at most once
  abbrev pub IsOncePast : List Log → Type 0
  IsOncePast [] = Unit {0}
  IsOncePast (log ∷ past) = ((level number : ℕ) → times log.made level number ≤ 1) × IsOncePast past

  new_many : (log : Log) (past : List Log) (level number : ℕ) (made : List Activation) → AllByRecursion (IsLater core) made → how_many (λ entry. is_at (suc level) (place (log ∷ past) entry)) (entries_of core number (suc (length past)) made) ≡ times made level number
  new_many log past level number [] each = refl
  new_many log past level number (a ∷ made) each =
      of (nat_eq a.occurrence number) (entries_of core number (suc (length past)) made) (times made level number) (new_many log past level number made each.1)
    where
      head : Entry
      head = activation_entry core (suc (length past)) a

      and_true : (x : Bool) → (x && true) ≡ x
      and_true x = grind arith

      at_head : is_at (suc level) (place (log ∷ past) head) ≡ nat_eq a.level level
      at_head = at_new log past level head refl ∙ ap (λ b. nat_eq a.level level && b) (lt-ltb a.level (level_of core a.occurrence) each.0) ∙ and_true (nat_eq a.level level)

      of : (x : Bool) (entries : List Entry) (n : ℕ) → how_many (λ entry. is_at (suc level) (place (log ∷ past) entry)) entries ≡ n → how_many (λ entry. is_at (suc level) (place (log ∷ past) entry)) (cond x (head ∷ entries) entries) ≡ cond (x && nat_eq a.level level) (suc n) n
      of true entries n e = ap₂ (λ b m. cond b (suc m) m) at_head e
      of false entries n e = e

  many_stand : (past : List Log) (level number : ℕ) → IsGoodPast core past → IsOncePast past → how_many (λ entry. is_at level (place past entry)) (journal core number past) ≤ 1
  many_stand [] level number good once = omega arith
  many_stand (log ∷ past) zero number good once = let e = many_above (log ∷ past) (journal core number (log ∷ past)) in omega arith
  many_stand (log ∷ past) (suc level) number good once = by (λ l. many_stand past l number good.1 once.1) (made_word log.made level number) refl
    where
      before : ℕ
      before = cond (stays log (suc level)) (how_many (λ entry. is_at (suc level) (place past entry)) (journal core number past)) (cond (is_open log level && not (nat_eq level (level_of core number))) (how_many (λ entry. is_at level (place past entry)) (journal core number past)) 0)

      total : how_many (λ entry. is_at (suc level) (place (log ∷ past) entry)) (journal core number (log ∷ past)) ≡ times log.made level number + before
      total =
          many_append (λ entry. is_at (suc level) (place (log ∷ past) entry)) (entries_of core number (suc (length past)) log.made) (journal core number past)
          ∙ ap₂ (λ a b. a + b) (new_many log past level number log.made (all_later core (stage_word core past) log good.0)) (old_many log past (level_of core number) level (journal core number past) (journal_old core past number))

      by : ((l : ℕ) → how_many (λ entry. is_at l (place past entry)) (journal core number past) ≤ 1) → (o : Option ℕ) → made_word log.made level number ≡ o → how_many (λ entry. is_at (suc level) (place (log ∷ past) entry)) (journal core number (log ∷ past)) ≤ 1
      by earlier None e =
          let few : before ≤ 1 = at_most (stays log (suc level)) (is_open log level && not (nat_eq level (level_of core number))) _ _ (earlier (suc level)) (earlier level) in
          let never = never_made log.made level number e in
          omega (arith, total)
      by earlier (Some w) e =
          let m = made_good core (stage_word core past) log log.made level number w good.0.each e in
          let none = none_standing past level (journal core number past) (absent (stands core past level number) refl m.above) in
          let old : before ≡ 0 = none_left (stays log (suc level)) (is_open log level && not (nat_eq level (level_of core number))) _ _ (open_moves log level m.open_there) none in
          let single = once.0 level number in
          omega (arith, total)
        where
          absent : (o : Option ℕ) → stands core past level number ≡ o → above_of core number ≡ level → stands core past level number ≡ None
          absent None e above = e
          absent (Some v) e above = let b = between core past level number v good.1 e in absurd (omega (arith, b.after_activator))

  many_slots : (past : List Log) (level : ℕ) → IsGoodPast core past → how_many (λ entry. is_at level (place past entry)) (slots core past) ≤ 1
  many_slots [] level good = omega arith
  many_slots (log ∷ past) zero good = let e = many_above (log ∷ past) (slots core (log ∷ past)) in omega arith
  many_slots (log ∷ past) (suc level) good =
      by (at_most (stays log (suc level)) (is_open log level && not (nat_eq level core.stages)) _ _ (many_slots past (suc level) good.1) (many_slots past level good.1)) log.slot refl
    where
      before : ℕ
      before = cond (stays log (suc level)) (how_many (λ entry. is_at (suc level) (place past entry)) (slots core past)) (cond (is_open log level && not (nat_eq level core.stages)) (how_many (λ entry. is_at level (place past entry)) (slots core past)) 0)

      old : how_many (λ entry. is_at (suc level) (place (log ∷ past) entry)) (slots core past) ≡ before
      old = old_many log past core.stages level (slots core past) (slots_old core past)

      made : ℕ → Entry
      made w = record { edge = suc (length past); level = slot_level core; last = core.stages; word = w }

      by : before ≤ 1 → (o : Option ℕ) → log.slot ≡ o → how_many (λ entry. is_at (suc level) (place (log ∷ past) entry)) (slot_entries core (suc (length past)) log.slot ++ slots core past) ≤ 1
      by earlier None e = subst (λ (s : Option ℕ). how_many (λ entry. is_at (suc level) (place (log ∷ past) entry)) (slot_entries core (suc (length past)) s ++ slots core past) ≤ 1) (sym e) (omega (arith, old, earlier))
      by earlier (Some w) e = subst (λ (s : Option ℕ). how_many (λ entry. is_at (suc level) (place (log ∷ past) entry)) (slot_entries core (suc (length past)) s ++ slots core past) ≤ 1) (sym e)
          (cond_both (is_at (suc level) (place (log ∷ past) (made w))) (suc (how_many (λ entry. is_at (suc level) (place (log ∷ past) entry)) (slots core past))) (how_many (λ entry. is_at (suc level) (place (log ∷ past) entry)) (slots core past)) (λ n. n ≤ 1)
          (λ is.
          let at = eqb-true (slot_level core) level (and_parts (nat_eq (slot_level core) level) _ (sym (at_new log past level (made w) refl) ∙ is)).0 in
          let opened = subst (λ l. is_open log l ≡ true) at (good.0.slot_open w e) in
          let none = none_standing past level (slots core past) (no_slot core past level good.1 (omega arith)) in
          let gone : before ≡ 0 = none_left (stays log (suc level)) (is_open log level && not (nat_eq level core.stages)) _ _ (open_moves log level opened) none in
          omega (arith, old))
          (λ is. omega (arith, old, earlier)))

no_word_here : (entry : Entry) (b : Bool) (n : ℕ) (o : Option Entry) → (n ≡ 0 → unwrap_or (option_map (λ (entry : Entry). entry.word) o) 0 ≡ 0) → cond b (suc n) n ≡ 0 → unwrap_or (option_map (λ (entry : Entry). entry.word) (cond b (Some entry) o)) 0 ≡ 0
no_word_here entry true n o so e = absurd (omega (arith, e))
no_word_here entry false n o so e = so e

no_word : (test : Entry → Bool) (entries : List Entry) → how_many test entries ≡ 0 → unwrap_or (option_map (λ (entry : Entry). entry.word) (find test entries)) 0 ≡ 0
no_word test [] e = refl
no_word test (entry ∷ entries) e = no_word_here entry (test entry) (how_many test entries) (find test entries) (no_word test entries) e

module _ {R M : Type 0} (core : Core R M) (sound : IsSound core) where
  fold_once : (entries : List (List ℕ)) (state : State R) → IsGoodPast core state.past → IsOncePast core state.past → IsOncePast core (fold (next core) state entries).past
  fold_once [] state good once = once
  fold_once (pins ∷ entries) state good once =
      fold_once entries (next core state pins) (next_good core sound state pins good)
      ((edge_once core sound (stage_word core state.past) (stands core state.past) (worded core sound state.past good) pins state.memory).made_once, once)

  once_past : (first : R) (entries : List (List ℕ)) → IsOncePast core (after core first entries).past
  once_past first entries = fold_once entries (first_state core first) tt tt

  pub one_stands : (first : R) (entries : List (List ℕ)) (level number : ℕ) → count_standing (after core first entries).past level (journal core number (after core first entries).past) ≤ 1
  one_stands first entries level number =
      let past = (after core first entries).past in
      let e = many_filtered (λ (entry : Entry). is_at level (place past entry)) (journal core number past) in
      let few = many_stand core past level number (good_past core sound first entries) (once_past first entries) in
      omega arith

  pub one_slot : (first : R) (entries : List (List ℕ)) (level : ℕ) → count_standing (after core first entries).past level (slots core (after core first entries).past) ≤ 1
  one_slot first entries level =
      let past = (after core first entries).past in
      let e = many_filtered (λ (entry : Entry). is_at level (place past entry)) (slots core past) in
      let few = many_slots core past level (good_past core sound first entries) in
      omega arith

  pub slot_is_word : (first : R) (entries : List (List ℕ)) (level : ℕ) (slot : Entry) → Contains (slots core (after core first entries).past) slot → is_at level (place (after core first entries).past slot) ≡ true → stage_word core (after core first entries).past level ≡ slot.word
  slot_is_word first entries level slot among there =
      let past = (after core first entries).past in
      let test = λ (entry : Entry). is_at level (place past entry) in
      let found = of_contained (λ entry. test entry ≡ true → find test (slots core past) ≡ Some entry) (slots core past) slot (only_found test (slots core past) (many_slots core past level (good_past core sound first entries))) among there in
      ap (λ (o : Option Entry). unwrap_or (option_map (λ (entry : Entry). entry.word) o) 0) found

  pub no_slot_no_word : (past : List Log) (level : ℕ) → count_standing past level (slots core past) ≡ 0 → stage_word core past level ≡ 0
  no_slot_no_word past level none =
      let test = λ (entry : Entry). is_at level (place past entry) in
      no_word test (slots core past) (sym (many_filtered test (slots core past)) ∙ none)
