-- The hardware after any edges is what the state shows.
use Rattle.std.proofs.Common.{◌≡◌, ℕ, zero, suc, ◌<◌, ◌≤◌, Bool, true, false, cond, not, ◌&&◌, ◌||◌, List, [], ◌∷◌, ◌++◌, Option, None, Some, refl, sym, ap, ap₂, ◌∙◌, subst, ⊎_elim, arith, nat_eq}
use Rattle.std.proofs.Math.Path.{fun_ext}
use Rattle.std.specs.Prelude.{is_some}
use Rattle.std.specs.Option.{unwrap_or, option_or}
use Rattle.std.specs.List.{fold, AllByRecursion}
use Rattle.std.proofs.lemmas.Bool.{cond-true, cond-false, both_ways, ne_eqb, and_parts, eqb-true, eqb-false, not-true, cases_eq}
use Rattle.std.proofs.lemmas.List.Sums.{fold-append}
use Rattle.pipeline_time.specs.Cores.{Core, level_of, above_of, is_past, level_of_slots, slot_level}
use Rattle.pipeline_time.specs.Running.{Activation, Running, word_below}
use Rattle.pipeline_time.specs.Edges.{Standing, is_held, is_flushed, is_free, edge}
use Rattle.pipeline_time.specs.Journal.{Log, standing, journal, slots, stands, stage_word}
use Rattle.pipeline_time.specs.States.{State, slot_made, log_of, edge_of, next, first_state, after}
use Rattle.pipeline_time.specs.Bits.{is_recorded, is_open, Hardware, next_bit, word_from, next_word, bits_stand, next_hardware, first_hardware, hardware_after, shown}
use Rattle.pipeline_time.specs.Sound.{IsSound}
use Rattle.pipeline_time.proofs.Lists.{each_so}
use Rattle.pipeline_time.proofs.Tree.{RootAbove, level_within, past_later}
use Rattle.pipeline_time.proofs.Leaves.{HasWord, before_has}
use Rattle.pipeline_time.proofs.Turns.{IsKept, Far, IsWorded, moving, slots_before, none_some, edge_far}
use Rattle.pipeline_time.proofs.Places.{stays, open_free, open_moves, made_word, recorded_word, picks, IsLater, stands_next, slots_next, stood, none_below}

-- what a stage's word is, by the tests of the hardware and by those of the table
shape : (r h f o n : Bool) (slot a b : Option ℕ) → (o ≡ true → h ≡ false) → (r ≡ true → b ≡ None) → (r ≡ true → o ≡ false → slot ≡ None) → unwrap_or (option_or (cond (r && not n) slot None) (cond (h && not f) a (cond (o && not n) b None))) 0 ≡ cond h (cond f 0 (unwrap_or a 0)) (cond (o && not n) (cond r (unwrap_or slot 0) (unwrap_or b 0)) 0)
shape r true f true n slot a b free below shut = absurd (both_ways true (free refl) refl)
shape true true true false true slot a b free below shut = refl
shape true true true false false slot a b free below shut = ap (λ s. unwrap_or (option_or s None) 0) (shut refl refl)
shape true true false false true slot a b free below shut = refl
shape true true false false false slot a b free below shut = ap (λ s. unwrap_or (option_or s a) 0) (shut refl refl)
shape true false f true true slot a b free below shut = refl
shape true false f true false slot a b free below shut = ap (λ x. unwrap_or (option_or slot x) 0) (below refl) ∙ or_none slot
  where
    or_none : (o : Option ℕ) → unwrap_or (option_or o None) 0 ≡ unwrap_or o 0
    or_none None = refl
    or_none (Some x) = refl
shape true false f false true slot a b free below shut = refl
shape true false f false false slot a b free below shut = ap (λ s. unwrap_or (option_or s None) 0) (shut refl refl)
shape false true true false n slot a b free below shut = refl
shape false true false false n slot a b free below shut = refl
shape false false f true true slot a b free below shut = refl
shape false false f true false slot a b free below shut = refl
shape false false f false n slot a b free below shut = refl

some_or : (m x : Option ℕ) → is_some (option_or m x) ≡ (is_some m || is_some x)
some_or None x = refl
some_or (Some v) x = refl

some_cond : (s : Bool) (a x : Option ℕ) → is_some (cond s a x) ≡ cond s (is_some a) (is_some x)
some_cond true a x = refl
some_cond false a x = refl

bit_shape : (r s o n a b : Bool) → (r ≡ true → o ≡ true) → (o ≡ true → s ≡ false) → (r || cond s a (cond (o && not n) b false)) ≡ ((a && s) || (o && ((b && not n) || r)))
bit_shape r s o n a b opened moves = grind arith

module _ {R M : Type 0} (core : Core R M) where
  -- what each edge keeps of what it recorded, given the words of the stages before it
  pub record IsGoodMade (words : ℕ → ℕ) (log : Log) (a : Activation) : Type 0 where
    pub staged : 0 < a.level
    pub above : above_of core a.occurrence ≡ a.level
    pub later : a.level < level_of core a.occurrence
    pub open_there : is_open log a.level ≡ true
    pub word : HasWord core (word_from core log words a.level) a.occurrence a.word

  pub record IsGoodLog (words : ℕ → ℕ) (log : Log) : Type 0 where
    pub each : AllByRecursion (IsGoodMade words log) log.made
    pub slot_within : (word : ℕ) → log.slot ≡ Some word → slot_level core ≤ core.stages
    pub slot_open : (word : ℕ) → log.slot ≡ Some word → is_open log (slot_level core) ≡ true

  abbrev pub IsGoodPast : List Log → Type 0
  IsGoodPast [] = Unit {0}
  IsGoodPast (log ∷ past) = IsGoodLog (stage_word core past) log × IsGoodPast past

  pub all_later : (words : ℕ → ℕ) (log : Log) → IsGoodLog words log → AllByRecursion (IsLater core) log.made
  all_later words log good = each_so (IsGoodMade words log) (IsLater core) log.made (λ a g. g.later) good.each

  -- what was recorded for an occurrence
  pub record IsMade (words : ℕ → ℕ) (log : Log) (level number word : ℕ) : Type 0 where
    pub staged : 0 < level
    pub above : above_of core number ≡ level
    pub later : level < level_of core number
    pub open_there : is_open log level ≡ true
    pub has_word : HasWord core (word_from core log words level) number word

  pub made_good : (words : ℕ → ℕ) (log : Log) (made : List Activation) (level number word : ℕ) → AllByRecursion (IsGoodMade words log) made → made_word made level number ≡ Some word → IsMade words log level number word
  made_good words log [] level number word each e = absurd (none_some word e)
  made_good words log (a ∷ made) level number word each e =
      ⊎_elim
      (λ here.
      let g = each.0 in
      subst (λ n. IsMade words log level n word) (eqb-true a.occurrence number here.0)
      (subst (λ l. IsMade words log l a.occurrence word) (eqb-true a.level level here.1)
      (subst (λ w. IsMade words log a.level a.occurrence w) here.2
      (record { staged = g.staged; above = g.above; later = g.later; open_there = g.open_there; has_word = g.word }))))
      (λ more. made_good words log made level number word each.1 more)
      (picks (nat_eq a.occurrence number) (nat_eq a.level level) a.word word (made_word made level number) e)

  -- where an occurrence stands
  pub record IsBetween (level number : ℕ) : Type 0 where
    pub staged : 0 < above_of core number
    pub after_activator : above_of core number < level
    pub until_own : level ≤ level_of core number

  pub between : (past : List Log) (level number word : ℕ) → IsGoodPast past → stands core past level number ≡ Some word → IsBetween level number
  between [] level number word good e = absurd (none_some word e)
  between (log ∷ past) zero number word good e = absurd (none_some word (sym (none_below (log ∷ past) (journal core number (log ∷ past))) ∙ e))
  between (log ∷ past) (suc level) number word good e =
      ⊎_elim
      (λ new.
      let m = made_good (stage_word core past) log log.made level number word good.0.each new in
      record { staged = omega (arith, m.above, m.staged); after_activator = omega (arith, m.above); until_own = omega (arith, m.later) })
      (λ old. ⊎_elim
      (λ held. between past (suc level) number word good.1 held.1)
      (λ moves.
      let b = between past level number word good.1 moves.2 in
      let ne = eqb-false level (level_of core number) moves.1 in
      record { staged = b.staged; after_activator = omega (arith, b.after_activator); until_own = omega (arith, b.until_own) })
      old)
      (stood core log past level number word (all_later (stage_word core past) log good.0) e)

  -- no slot stands before the stage after the one that makes them
  pub no_slot : (past : List Log) (level : ℕ) → IsGoodPast past → level ≤ slot_level core → standing past level (slots core past) ≡ None
  no_slot [] level good low = refl
  no_slot (log ∷ past) zero good low = none_below (log ∷ past) (slots core (log ∷ past))
  no_slot (log ∷ past) (suc level) good low =
      slots_next core log past level good.0.slot_within
      ∙ ap₂ option_or
      (ap (λ b. cond (b && not (nat_eq level core.stages)) log.slot None) (ne_eqb level (slot_level core) (λ e. omega arith)))
      (ap₂ (λ a b. cond (stays log (suc level)) a (cond (is_open log level && not (nat_eq level core.stages)) b None)) (no_slot past (suc level) good.1 low) (no_slot past level good.1 (omega arith)) ∙ nothing (stays log (suc level)) (is_open log level && not (nat_eq level core.stages)) None)
    where
      nothing : (s m : Bool) (o : Option ℕ) → cond s o (cond m o o) ≡ o
      nothing true m o = refl
      nothing false true o = refl
      nothing false false o = refl

  pub words_next : (log : Log) (past : List Log) (level : ℕ) → IsGoodLog (stage_word core past) log → IsGoodPast past → stage_word core (log ∷ past) level ≡ next_word core log (stage_word core past) level
  words_next log past zero good before = ap (λ o. unwrap_or o 0) (none_below (log ∷ past) (slots core (log ∷ past)))
  words_next log past (suc level) good before =
      ap (λ o. unwrap_or o 0) (slots_next core log past level good.slot_within)
      ∙ shape (nat_eq level (slot_level core)) (is_held log.stalled (suc level)) (is_flushed log.flushed (suc level)) (is_open log level) (nat_eq level core.stages) log.slot (standing past (suc level) (slots core past)) (standing past level (slots core past))
      (open_free log level)
      (λ is. no_slot past level before (let e = eqb-true level (slot_level core) is in omega arith))
      (λ is shut. no_word log.slot (λ word some. let e = eqb-true level (slot_level core) is in both_ways _ shut (subst (λ l. is_open log l ≡ true) (sym e) (good.slot_open word some))))
    where
      no_word : (o : Option ℕ) → ((word : ℕ) → o ≡ Some word → ⊥) → o ≡ None
      no_word None h = refl
      no_word (Some w) h = absurd (h w refl)

  pub bits_next : (log : Log) (past : List Log) (level number : ℕ) → IsGoodLog (stage_word core past) log → is_some (stands core (log ∷ past) level number) ≡ next_bit core log (λ l n. is_some (stands core past l n)) level number
  bits_next log past zero number good = ap is_some (none_below (log ∷ past) (journal core number (log ∷ past)))
  bits_next log past (suc level) number good =
      ap is_some (stands_next core log past level number (all_later (stage_word core past) log good))
      ∙ some_or (made_word log.made level number) _
      ∙ ap₂ (λ a b. a || b)
      (recorded_word log.made level number)
      (some_cond (stays log (suc level)) (stands core past (suc level) number) _
      ∙ ap (λ x. cond (stays log (suc level)) (is_some (stands core past (suc level) number)) x) (some_cond (is_open log level && not (nat_eq level (level_of core number))) (stands core past level number) None))
      ∙ bit_shape (is_recorded log.made level number) (stays log (suc level)) (is_open log level) (nat_eq level (level_of core number)) (is_some (stands core past (suc level) number)) (is_some (stands core past level number))
      (λ is. some_opened (made_word log.made level number) refl (recorded_word log.made level number ∙ is))
      (open_moves log level)
    where
      some_opened : (o : Option ℕ) → made_word log.made level number ≡ o → is_some o ≡ true → is_open log level ≡ true
      some_opened None e is = absurd (both_ways false refl is)
      some_opened (Some w) e is = (made_good (stage_word core past) log log.made level number w good.each e).open_there

module _ {R M : Type 0} (core : Core R M) (sound : IsSound core) where
  -- What stands past the root has the word of its stage, which chooses it.
  pub words_agree : (past : List Log) (level number word : ℕ) → IsGoodPast core past → stands core past level number ≡ Some word → HasWord core (stage_word core past level) number word
  words_agree [] level number word good e = absurd (none_some word e)
  words_agree (log ∷ past) zero number word good e = absurd (none_some word (sym (none_below (log ∷ past) (journal core number (log ∷ past))) ∙ e))
  words_agree (log ∷ past) (suc level) number word good e =
      ⊎_elim
      (λ new.
      let m = made_good core (stage_word core past) log log.made level number word good.0.each new in
      subst (λ w. HasWord core w number word) (sym (next ∙ moved_word m.open_there (inside (omega (arith, m.later))))) m.has_word)
      (λ old. ⊎_elim
      (λ held.
      subst (λ w. HasWord core w number word) (sym (next ∙ held_word held.0)) (words_agree past (suc level) number word good.1 held.1))
      (λ moves.
      let b = between core past level number word good.1 moves.2 in
      let ne = eqb-false level (level_of core number) moves.1 in
      let has = words_agree past level number word good.1 moves.2 in
      passed (inside (omega (arith, b.until_own, ne))) b.until_own b.after_activator b.staged moves.0 has (is_past core number) refl)
      old)
      (stood core log past level number word (all_later core (stage_word core past) log good.0) e)
    where
      next : stage_word core (log ∷ past) (suc level) ≡ next_word core log (stage_word core past) (suc level)
      next = words_next core log past (suc level) good.0 good.1

      inside : level < level_of core number → nat_eq level core.stages ≡ false
      inside below = ne_eqb level core.stages (λ at. let l = level_within core sound number in omega arith)

      moved_word : is_open log level ≡ true → nat_eq level core.stages ≡ false → next_word core log (stage_word core past) (suc level) ≡ word_from core log (stage_word core past) level
      moved_word moves within =
          cond-false (is_held log.stalled (suc level)) _ _ (open_free log level moves)
          ∙ ap₂ (λ o n. cond (o && not n) (word_from core log (stage_word core past) level) 0) moves within

      held_word : stays log (suc level) ≡ true → next_word core log (stage_word core past) (suc level) ≡ stage_word core past (suc level)
      held_word held =
          let both = and_parts (is_held log.stalled (suc level)) _ held in
          cond-true (is_held log.stalled (suc level)) _ _ both.0 ∙ cond-false (is_flushed log.flushed (suc level)) 0 (stage_word core past (suc level)) (not-true _ both.1)

      passed : nat_eq level core.stages ≡ false → level ≤ level_of core number → above_of core number < level → 0 < above_of core number → is_open log level ≡ true → HasWord core (stage_word core past level) number word → (p : Bool) → is_past core number ≡ p → HasWord core (stage_word core (log ∷ past) (suc level)) number word
      passed within fits low staged moves has true is =
          let l = level_within core sound number in
          let apart : nat_eq level (slot_level core) ≡ false = ne_eqb level (slot_level core) (λ same.
          let b = slots_before core (above_of core number) level (past_later core sound number is (omega (arith, l))) low (omega arith) in omega arith) in
          subst (λ w. HasWord core w number word)
          (sym (next ∙ moved_word moves within ∙ cond-false (nat_eq level (slot_level core)) (unwrap_or log.slot 0) (stage_word core past level) apart)) has
      passed within fits low staged moves has false is = before_has core (stage_word core (log ∷ past) (suc level)) number word (record { before = is; none = has.is ∙ ap (λ p. word_below p (stage_word core past level)) is })

  some_between : (past : List Log) (level number : ℕ) → IsGoodPast core past → (o : Option ℕ) → stands core past level number ≡ o → is_some o ≡ true → (above_of core number < level) × (1 < level)
  some_between past level number good None e is = absurd (both_ways false refl is)
  some_between past level number good (Some w) e is = let b = between core past level number w good e in (b.after_activator, omega (arith, b.after_activator, b.staged))

  pub worded : (past : List Log) → IsGoodPast core past → IsWorded core (stage_word core past) (stands core past)
  worded past good = record {
    later = λ level number is. some_between past level number good (stands core past level number) refl is;
    word = λ level number word e. words_agree past level number word good e;
  }

  -- the log keeps a slot where something past the root was recorded with it
  slot_kept : (now : Running M) (o : Option ℕ) (above level : ℕ) → core.root_level ≡ o → RootAbove core above → level ≡ level_of_slots o → is_free core now level ≡ true → slot_made core o now ≡ now.slot
  slot_kept now None above level e root at free = absurd (none_some root.level (sym e ∙ root.is))
  slot_kept now (Some zero) above level e root at free = ap (λ b. cond b now.slot None) (subst (λ l. is_free core now l ≡ true) at free)
  slot_kept now (Some (suc stage)) above level e root at free = refl

  slot_fits : (words : ℕ → ℕ) (now : Running M) (o : Option ℕ) (word : ℕ) → core.root_level ≡ o → Far core words 1 now → slot_made core o now ≡ Some word → (level_of_slots o ≤ core.stages) × (is_free core now (level_of_slots o) ≡ true)
  slot_fits words now None word e far some = absurd (none_some word some)
  slot_fits words now (Some zero) word e far some =
      let r = sound.root_within 0 e in (omega (arith, r.0), of (is_free core now 1) refl some)
    where
      of : (b : Bool) → is_free core now 1 ≡ b → cond b now.slot None ≡ Some word → is_free core now 1 ≡ true
      of true is some = is
      of false is some = absurd (none_some word some)
  slot_fits words now (Some (suc stage)) word e far some = ((sound.root_within (suc stage) e).1, far.slot word stage some e)

  log_good : (words : ℕ → ℕ) (now : Running M) → Far core words 1 now → IsGoodLog core words (log_of core now)
  log_good words now far = record {
    each = each_so (IsKept core words 1 now) (IsGoodMade core words (log_of core now)) now.made (λ a k. record {
      staged = k.staged;
      above = k.above;
      later = k.later;
      open_there = k.free;
      word = word a k (is_past core a.occurrence) refl;
    }) far.each;
    slot_within = λ w some. (slot_fits words now core.root_level w refl far some).0;
    slot_open = λ w some. (slot_fits words now core.root_level w refl far some).1;
  }
    where
      word : (a : Activation) → IsKept core words 1 now a → (p : Bool) → is_past core a.occurrence ≡ p → HasWord core (word_from core (log_of core now) words a.level) a.occurrence a.word
      word a k true is =
          ⊎_elim
          (λ at.
          let l = level_within core sound a.occurrence in
          let root = past_later core sound a.occurrence is (omega (arith, k.later, l)) in
          let same = slot_kept now core.root_level (above_of core a.occurrence) a.level refl root at k.free in
          subst (λ (s : Option ℕ). HasWord core (cond (nat_eq a.level (slot_level core)) (unwrap_or s 0) (words a.level)) a.occurrence a.word) (sym same) k.word)
          (λ ne.
          let apart = ne_eqb a.level (slot_level core) ne in
          subst (λ w. HasWord core w a.occurrence a.word)
          (cond-false (nat_eq a.level (slot_level core)) (unwrap_or now.slot 0) (words a.level) apart
          ∙ sym (cond-false (nat_eq a.level (slot_level core)) (unwrap_or (log_of core now).slot 0) (words a.level) apart)) k.word)
          (cases_eq a.level (slot_level core))
      word a k false is = before_has core (word_from core (log_of core now) words a.level) a.occurrence a.word (record { before = is; none = k.word.is ∙ ap (λ p. word_below p (moving core words now.slot a.level)) is })

  -- every edge leaves a good log
  pub next_good : (state : State R) (pins : List ℕ) → IsGoodPast core state.past → IsGoodPast core (next core state pins).past
  next_good state pins good = (log_good (stage_word core state.past) (edge_of core pins state) (edge_far core sound (stage_word core state.past) (stands core state.past) (worded state.past good) pins state.memory), good)

  pub fold_good : (entries : List (List ℕ)) (state : State R) → IsGoodPast core state.past → IsGoodPast core (fold (next core) state entries).past
  fold_good [] state good = good
  fold_good (pins ∷ entries) state good = fold_good entries (next core state pins) (next_good state pins good)

  pub good_past : (first : R) (entries : List (List ℕ)) → IsGoodPast core (after core first entries).past
  good_past first entries = fold_good entries (first_state core first) tt

  pub same_standing : (state : State R) → IsGoodPast core state.past → bits_stand core (shown core state) ≡ stands core state.past
  same_standing state good = fun_ext (λ level. fun_ext (λ number. of level number (stands core state.past level number) refl))
    where
      of : (level number : ℕ) (o : Option ℕ) → stands core state.past level number ≡ o → cond (is_some (stands core state.past level number)) (Some (word_below (is_past core number) (stage_word core state.past level))) None ≡ stands core state.past level number
      of level number None e = ap (λ (o : Option ℕ). cond (is_some o) (Some (word_below (is_past core number) (stage_word core state.past level))) None) e ∙ sym e
      of level number (Some word) e =
          ap (λ (o : Option ℕ). cond (is_some o) (Some (word_below (is_past core number) (stage_word core state.past level))) None) e
          ∙ ap Some (sym (words_agree state.past level number word good e).is)
          ∙ sym e

  -- one edge
  pub step_agrees : (state : State R) (pins : List ℕ) → IsGoodPast core state.past → next_hardware core (shown core state) pins ≡ shown core (next core state pins)
  step_agrees state pins good =
      let log = log_of core (edge_of core pins state) in
      let now_good = (next_good state pins good).0 in
      ap ended (same_standing state good)
      ∙ ap₂ (λ (bits : ℕ → ℕ → Bool) (words : ℕ → ℕ). (let h : Hardware R = record { memory = core.close (edge_of core pins state).moment; bits = bits; words = words } in h))
      (fun_ext (λ level. fun_ext (λ number. sym (bits_next core log state.past level number now_good))))
      (fun_ext (λ level. sym (words_next core log state.past level now_good good)))
    where
      ended : Standing → Hardware R
      ended standing = record {
        memory = core.close (edge core standing pins state.memory).moment;
        bits = next_bit core (log_of core (edge core standing pins state.memory)) (λ l n. is_some (stands core state.past l n));
        words = next_word core (log_of core (edge core standing pins state.memory)) (stage_word core state.past);
      }

  fold_agrees : (entries : List (List ℕ)) (hard : Hardware R) (state : State R) → IsGoodPast core state.past → hard ≡ shown core state → fold (next_hardware core) hard entries ≡ shown core (fold (next core) state entries)
  fold_agrees [] hard state good same = same
  fold_agrees (pins ∷ entries) hard state good same =
      fold_agrees entries (next_hardware core hard pins) (next core state pins) (next_good state pins good)
      (ap (λ (h : Hardware R). next_hardware core h pins) same ∙ step_agrees state pins good)

  pub agree : (first : R) (entries : List (List ℕ)) → hardware_after core first entries ≡ shown core (after core first entries)
  agree first entries = fold_agrees entries (first_hardware core first) (first_state core first) tt refl

  pub edge_agrees : (first : R) (entries : List (List ℕ)) (pins : List ℕ) (hard : Hardware R) → hard ≡ shown core (after core first entries) → next_hardware core hard pins ≡ shown core (after core first (entries ++ pins ∷ []))
  edge_agrees first entries pins hard same =
      ap (λ (h : Hardware R). next_hardware core h pins) same
      ∙ step_agrees (after core first entries) pins (good_past first entries)
      ∙ ap (λ (s : State R). shown core s) (sym (fold-append (next core) (first_state core first) entries (pins ∷ [])))
