-- What stands after an edge, by what stood before it.
use Rattle.std.proofs.Common.{◌≡◌, ℕ, suc, ◌<◌, ◌≤◌, Bool, true, false, cond, not, ◌&&◌, ◌||◌, ◌⊎◌, List, [], ◌∷◌, ◌++◌, length, Option, None, Some, refl, sym, ap, ap₂, ◌∙◌, subst, inl, inr, ⊎_elim, arith, nat_eq, nat_le, nat_lt}
use Rattle.std.proofs.Math.Dec.{eqb-suc-suc, eqb-suc-zero}
use Rattle.std.specs.Prelude.{is_some}
use Rattle.std.specs.Option.{option_or, option_map}
use Rattle.std.specs.List.{find, AllByRecursion}
use Rattle.std.proofs.lemmas.Bool.{cond_both, cond-true, cond-false, cases_Bool, both_ways, eq-eqb, ne_eqb, and_left, and_parts, or_left, or_right, or_cases, eqb-true, not-true, le-leb, leb-true, lt-ltb, false_from_ne_true}
use Rattle.std.proofs.lemmas.List.Folds.{find-append}
use Rattle.pipeline_time.specs.Cores.{Core, level_of, slot_level}
use Rattle.pipeline_time.specs.Running.{Activation}
use Rattle.pipeline_time.specs.Edges.{is_held, is_flushed}
use Rattle.pipeline_time.specs.Journal.{Log, Entry, Place, Gone, At, first_place, next_place, place, is_at, standing, activation_entry, entries_of, journal, slot_entries, slots, stands}
use Rattle.pipeline_time.specs.Bits.{is_recorded, is_open}
use Rattle.pipeline_time.proofs.Lists.{each_append, each_so, find_same, find_none}

abbrev pub entry_word : Option Entry → Option ℕ
entry_word o = option_map (λ (entry : Entry). entry.word) o

-- what stays in a stage
abbrev pub stays : Log → ℕ → Bool
stays log level = is_held log.stalled level && not (is_flushed log.flushed level)

pub held_before : (stalled : List ℕ) (earlier level : ℕ) → earlier ≤ level → is_held stalled level ≡ true → is_held stalled earlier ≡ true
held_before [] earlier level before is = is
held_before (stall ∷ stalled) earlier level before is =
    ⊎_elim
    (λ here. or_left (nat_le earlier stall) (is_held stalled earlier) (le-leb earlier stall (let l = leb-true level stall here in omega arith)))
    (λ more. or_right (nat_le earlier stall) (is_held stalled earlier) (held_before stalled earlier level before more))
    (or_cases (nat_le level stall) (is_held stalled level) is)

-- where a stage is open the next isn't held
pub open_free : (log : Log) (level : ℕ) → is_open log level ≡ true → is_held log.stalled (suc level) ≡ false
open_free log level moves =
    let free = not-true (is_held log.stalled level) (and_parts (not (is_held log.stalled level)) (not (is_flushed log.flushed level)) moves).0 in
    false_from_ne_true _ (λ held. both_ways _ free (held_before log.stalled level (suc level) (omega arith) held))

pub open_moves : (log : Log) (level : ℕ) → is_open log level ≡ true → stays log (suc level) ≡ false
open_moves log level moves = and_left (is_held log.stalled (suc level)) (not (is_flushed log.flushed (suc level))) (open_free log level moves)

row : (f h w : Bool) (here level : ℕ) → is_at (suc level) (cond f Gone (cond h (At here) (cond w Gone (At (suc here))))) ≡ ((nat_eq here (suc level) && (h && not f)) || (nat_eq here level && ((not h && not f) && not w)))
row true h w here level = grind arith
row false true w here level = grind arith
row false false true here level = grind arith
row false false false here level = rw eqb-suc-suc (grind arith)

same_under : (here level : ℕ) (test : ℕ → Bool) → (nat_eq here level && test here) ≡ (nat_eq here level && test level)
same_under here level test = ⊎_elim (λ e. ap (λ l. nat_eq here level && test l) (eqb-true here level e)) (λ e. ap (λ b. b && test here) e ∙ sym (ap (λ b. b && test level) e)) (cases_Bool (nat_eq here level))

-- one row of the table, as seen from the level that is moved into
moved_at : (last : ℕ) (log : Log) (level : ℕ) (p : Place) → is_at (suc level) (next_place last log p) ≡ ((is_at (suc level) p && stays log (suc level)) || (is_at level p && (is_open log level && not (nat_eq level last))))
moved_at last log level Gone = refl
moved_at last log level (At here) =
    row (is_flushed log.flushed here) (is_held log.stalled here) (nat_eq here last) here level
    ∙ ap₂ (λ a b. a || b)
    (same_under here (suc level) (λ l. stays log l))
    (same_under here level (λ l. is_open log l && not (nat_eq l last)))

pub one : (log : Log) (past : List Log) (level : ℕ) (entry : Entry) → entry.edge ≤ length past → is_at (suc level) (place (log ∷ past) entry) ≡ ((is_at (suc level) (place past entry) && stays log (suc level)) || (is_at level (place past entry) && (is_open log level && not (nat_eq level entry.last))))
one log past level entry before =
    ap (λ b. is_at (suc level) (cond b (first_place entry) (next_place entry.last log (place past entry)))) (ne_eqb entry.edge (suc (length past)) (λ e. omega arith))
    ∙ moved_at entry.last log level (place past entry)

pub either : (a b s o : Bool) → s ≡ true → o ≡ false → ((a && s) || (b && o)) ≡ a
either a b s o is shut = grind arith

pub other : (a b s o : Bool) → s ≡ false → o ≡ true → ((a && s) || (b && o)) ≡ b
other a b s o shut is = grind arith

pub neither : (a b s o : Bool) → s ≡ false → o ≡ false → ((a && s) || (b && o)) ≡ false
neither a b s o shut stop = grind arith

-- what was made before: its edge, and the last level in which it stands
pub record IsOld (past : List Log) (last : ℕ) (entry : Entry) : Type 0 where
  pub before : entry.edge ≤ length past
  pub ends : entry.last ≡ last

-- what stands after an edge, of what was made before
pub old_standing : (log : Log) (past : List Log) (last level : ℕ) (entries : List Entry) → AllByRecursion (IsOld past last) entries → standing (log ∷ past) (suc level) entries ≡ cond (stays log (suc level)) (standing past (suc level) entries) (cond (is_open log level && not (nat_eq level last)) (standing past level entries) None)
old_standing log past last level entries old =
    let p = λ (l : ℕ) (entry : Entry). is_at l (place past entry) in
    let q = λ (entry : Entry). is_at (suc level) (place (log ∷ past) entry) in
    let moves = is_open log level && not (nat_eq level last) in
    let each = λ (f : Entry → Bool) (h : (entry : Entry) → ((is_at (suc level) (place past entry) && stays log (suc level)) || (is_at level (place past entry) && moves)) ≡ f entry).
    each_so (IsOld past last) (λ entry. q entry ≡ f entry) entries (λ entry so. subst (λ k. q entry ≡ ((p (suc level) entry && stays log (suc level)) || (p level entry && (is_open log level && not (nat_eq level k))))) so.ends (one log past level entry so.before) ∙ h entry) old in
    ⊎_elim
    (λ stay.
    let shut : moves ≡ false = and_left (is_open log level) (not (nat_eq level last)) (false_from_ne_true _ (λ o. both_ways _ (open_moves log level o) stay)) in
    ap entry_word (find_same q (p (suc level)) entries (each (p (suc level)) (λ entry. either _ (p level entry) (stays log (suc level)) moves stay shut)))
    ∙ sym (cond-true (stays log (suc level)) _ _ stay))
    (λ leaves.
    ⊎_elim
    (λ move.
    ap entry_word (find_same q (p level) entries (each (p level) (λ entry. other (p (suc level) entry) _ (stays log (suc level)) moves leaves move)))
    ∙ sym (cond-false (stays log (suc level)) _ _ leaves ∙ cond-true moves _ _ move))
    (λ stop.
    ap entry_word (find_none q entries (each (λ entry. false) (λ entry. neither (p (suc level) entry) (p level entry) (stays log (suc level)) moves leaves stop)))
    ∙ sym (cond-false (stays log (suc level)) _ _ leaves ∙ cond-false moves _ _ stop))
    (cases_Bool moves))
    (cases_Bool (stays log (suc level)))

-- the word of what was recorded for an occurrence at a level
abbrev pub made_word : List Activation → ℕ → ℕ → Option ℕ
made_word [] level number = None
made_word (a ∷ made) level number =
    cond (nat_eq a.occurrence number) (cond (nat_eq a.level level) (Some a.word) (made_word made level number)) (made_word made level number)

pub recorded_word : (made : List Activation) (level number : ℕ) → is_some (made_word made level number) ≡ is_recorded made level number
recorded_word [] level number = refl
recorded_word (a ∷ made) level number =
    of (nat_eq a.occurrence number) (nat_eq a.level level) a.word (made_word made level number) (is_recorded made level number) (recorded_word made level number)
  where
    of : (x y : Bool) (w : ℕ) (o : Option ℕ) (r : Bool) → is_some o ≡ r → is_some (cond x (cond y (Some w) o) o) ≡ ((x && y) || r)
    of true true w o r e = refl
    of true false w o r e = e
    of false y w o r e = e

entry_or : (a b : Option Entry) → entry_word (option_or a b) ≡ option_or (entry_word a) (entry_word b)
entry_or None b = refl
entry_or (Some x) b = refl

joined : (past : List Log) (level : ℕ) (xs ys : List Entry) → standing past level (xs ++ ys) ≡ option_or (standing past level xs) (standing past level ys)
joined past level xs ys = ap entry_word (find-append (λ entry. is_at level (place past entry)) xs ys) ∙ entry_or (find (λ entry. is_at level (place past entry)) xs) (find (λ entry. is_at level (place past entry)) ys)

-- what was made in the newest edge stands after its maker's level
pub at_new : (log : Log) (past : List Log) (level : ℕ) (entry : Entry) → entry.edge ≡ suc (length past) → is_at (suc level) (place (log ∷ past) entry) ≡ (nat_eq entry.level level && nat_lt entry.level entry.last)
at_new log past level entry e =
    ap (λ b. is_at (suc level) (cond b (first_place entry) (next_place entry.last log (place past entry)))) (eq-eqb entry.edge (suc (length past)) e)
    ∙ of (nat_lt entry.level entry.last)
  where
    of : (b : Bool) → is_at (suc level) (cond b (At (suc entry.level)) Gone) ≡ (nat_eq entry.level level && b)
    of true = rw eqb-suc-suc (grind arith)
    of false = grind arith

pub none_word : (w : ℕ) → None ≡ Some w → ⊥
none_word w e = cc

split : (m : Option ℕ) (s o n : Bool) (a b : Option ℕ) (w : ℕ) → option_or m (cond s a (cond (o && not n) b None)) ≡ Some w → (m ≡ Some w) ⊎ (((s ≡ true) × (a ≡ Some w)) ⊎ ((o ≡ true) × (n ≡ false) × (b ≡ Some w)))
split (Some x) s o n a b w e = inl e
split None true o n a b w e = inr (inl (refl, e))
split None false true false a b w e = inr (inr (refl, refl, e))
split None false true true a b w e = absurd (none_word w e)
split None false false n a b w e = absurd (none_word w e)

pub picks : (x y : Bool) (v w : ℕ) (o : Option ℕ) → cond x (cond y (Some v) o) o ≡ Some w → ((x ≡ true) × (y ≡ true) × (v ≡ w)) ⊎ (o ≡ Some w)
picks true true v w o e = let f : v ≡ w = cc in inl (refl, refl, f)
picks true false v w o e = inr e
picks false y v w o e = inr e

module _ {R M : Type 0} (core : Core R M) where
  -- what was recorded stands first behind the level of its activator
  abbrev pub IsLater : Activation → Type 0
  IsLater a = a.level < level_of core a.occurrence

  new_standing : (log : Log) (past : List Log) (level number : ℕ) (made : List Activation) → AllByRecursion IsLater made → standing (log ∷ past) (suc level) (entries_of core number (suc (length past)) made) ≡ made_word made level number
  new_standing log past level number [] each = refl
  new_standing log past level number (a ∷ made) each =
      of (nat_eq a.occurrence number) (entries_of core number (suc (length past)) made)
      ∙ ap (λ o. cond (nat_eq a.occurrence number) (cond (nat_eq a.level level) (Some a.word) o) o) (new_standing log past level number made each.1)
    where
      head : Entry
      head = activation_entry core (suc (length past)) a

      test : Entry → Bool
      test entry = is_at (suc level) (place (log ∷ past) entry)

      and_true : (x : Bool) → (x && true) ≡ x
      and_true x = grind arith

      at_head : is_at (suc level) (place (log ∷ past) head) ≡ nat_eq a.level level
      at_head = at_new log past level head refl ∙ ap (λ b. nat_eq a.level level && b) (lt-ltb a.level (level_of core a.occurrence) each.0) ∙ and_true (nat_eq a.level level)

      word_or : (b : Bool) (o : Option Entry) → entry_word (cond b (Some head) o) ≡ cond b (Some a.word) (entry_word o)
      word_or true o = refl
      word_or false o = refl

      of : (x : Bool) (entries : List Entry) → standing (log ∷ past) (suc level) (cond x (head ∷ entries) entries) ≡ cond x (cond (nat_eq a.level level) (Some a.word) (standing (log ∷ past) (suc level) entries)) (standing (log ∷ past) (suc level) entries)
      of true entries = ap (λ b. entry_word (cond b (Some head) (find (λ entry. is_at (suc level) (place (log ∷ past) entry)) entries))) at_head ∙ word_or (nat_eq a.level level) (find (λ entry. is_at (suc level) (place (log ∷ past) entry)) entries)
      of false entries = refl

  pub made_old : (number edge : ℕ) (past : List Log) (made : List Activation) → edge ≤ length past → AllByRecursion (IsOld past (level_of core number)) (entries_of core number edge made)
  made_old number edge past [] below = tt
  made_old number edge past (a ∷ made) below =
      cond_both (nat_eq a.occurrence number) (activation_entry core edge a ∷ entries_of core number edge made) (entries_of core number edge made) (AllByRecursion (IsOld past (level_of core number)))
      (λ is. (record { before = below; ends = ap (level_of core) (eqb-true a.occurrence number is) }, made_old number edge past made below))
      (λ is. made_old number edge past made below)

  older : (log : Log) (past : List Log) (last : ℕ) (entries : List Entry) → AllByRecursion (IsOld past last) entries → AllByRecursion (IsOld (log ∷ past) last) entries
  older log past last entries each = each_so (IsOld past last) (IsOld (log ∷ past) last) entries (λ entry so. record { before = omega (arith, so.before); ends = so.ends }) each

  pub journal_old : (past : List Log) (number : ℕ) → AllByRecursion (IsOld past (level_of core number)) (journal core number past)
  journal_old [] number = tt
  journal_old (log ∷ past) number =
      each_append _ (entries_of core number (suc (length past)) log.made) (journal core number past)
      (made_old number (suc (length past)) (log ∷ past) log.made (omega arith))
      (older log past (level_of core number) (journal core number past) (journal_old past number))

  pub slots_old : (past : List Log) → AllByRecursion (IsOld past core.stages) (slots core past)
  slots_old [] = tt
  slots_old (log ∷ past) =
      each_append _ (slot_entries core (suc (length past)) log.slot) (slots core past)
      (of log.slot)
      (older log past core.stages (slots core past) (slots_old past))
    where
      of : (slot : Option ℕ) → AllByRecursion (IsOld (log ∷ past) core.stages) (slot_entries core (suc (length past)) slot)
      of None = tt
      of (Some w) = (record { before = omega arith; ends = refl }, tt)

  -- what stands after an edge
  pub stands_next : (log : Log) (past : List Log) (level number : ℕ) → AllByRecursion IsLater log.made → stands core (log ∷ past) (suc level) number ≡ option_or (made_word log.made level number) (cond (stays log (suc level)) (stands core past (suc level) number) (cond (is_open log level && not (nat_eq level (level_of core number))) (stands core past level number) None))
  stands_next log past level number later =
      joined (log ∷ past) (suc level) (entries_of core number (suc (length past)) log.made) (journal core number past)
      ∙ ap₂ option_or (new_standing log past level number log.made later) (old_standing log past (level_of core number) level (journal core number past) (journal_old past number))

  new_slot : (log : Log) (past : List Log) (level : ℕ) → ((word : ℕ) → log.slot ≡ Some word → slot_level core ≤ core.stages) → standing (log ∷ past) (suc level) (slot_entries core (suc (length past)) log.slot) ≡ cond (nat_eq level (slot_level core) && not (nat_eq level core.stages)) log.slot None
  new_slot log past level within = of log.slot refl
    where
      entry_cond : (b : Bool) (entry : Entry) → entry_word (cond b (Some entry) None) ≡ cond b (Some entry.word) None
      entry_cond true entry = refl
      entry_cond false entry = refl

      none : (b : Bool) (o : Option ℕ) → o ≡ cond b o o
      none true o = refl
      none false o = refl

      -- at the last level a slot is gone at once
      same : (l stages level : ℕ) → l ≤ stages → (nat_eq l level && nat_lt l stages) ≡ (nat_eq level l && not (nat_eq level stages))
      same l stages level low = grind arith

      of : (slot : Option ℕ) → log.slot ≡ slot → standing (log ∷ past) (suc level) (slot_entries core (suc (length past)) slot) ≡ cond (nat_eq level (slot_level core) && not (nat_eq level core.stages)) slot None
      of None e = none (nat_eq level (slot_level core) && not (nat_eq level core.stages)) None
      of (Some w) e =
          let entry : Entry = record { edge = suc (length past); level = slot_level core; last = core.stages; word = w } in
          ap (λ b. entry_word (cond b (Some entry) None)) (at_new log past level entry refl ∙ same (slot_level core) core.stages level (within w e))
          ∙ entry_cond (nat_eq level (slot_level core) && not (nat_eq level core.stages)) entry

  pub slots_next : (log : Log) (past : List Log) (level : ℕ) → ((word : ℕ) → log.slot ≡ Some word → slot_level core ≤ core.stages) → standing (log ∷ past) (suc level) (slots core (log ∷ past)) ≡ option_or (cond (nat_eq level (slot_level core) && not (nat_eq level core.stages)) log.slot None) (cond (stays log (suc level)) (standing past (suc level) (slots core past)) (cond (is_open log level && not (nat_eq level core.stages)) (standing past level (slots core past)) None))
  slots_next log past level within =
      joined (log ∷ past) (suc level) (slot_entries core (suc (length past)) log.slot) (slots core past)
      ∙ ap₂ option_or (new_slot log past level within) (old_standing log past core.stages level (slots core past) (slots_old past))

  -- where an occurrence that stands came from
  pub stood : (log : Log) (past : List Log) (level number word : ℕ) → AllByRecursion IsLater log.made → stands core (log ∷ past) (suc level) number ≡ Some word → (made_word log.made level number ≡ Some word) ⊎ (((stays log (suc level) ≡ true) × (stands core past (suc level) number ≡ Some word)) ⊎ ((is_open log level ≡ true) × (nat_eq level (level_of core number) ≡ false) × (stands core past level number ≡ Some word)))
  stood log past level number word later e =
      split (made_word log.made level number) (stays log (suc level)) (is_open log level) (nat_eq level (level_of core number)) (stands core past (suc level) number) (stands core past level number) word (sym (stands_next log past level number later) ∙ e)

-- nothing stands at level 0
moved_above : (last : ℕ) (log : Log) (p : Place) → is_at 0 p ≡ false → is_at 0 (next_place last log p) ≡ false
moved_above last log Gone above = refl
moved_above last log (At level) above =
    cond_both (is_flushed log.flushed level) Gone _ (λ p. is_at 0 p ≡ false) (λ e. refl)
    (λ e. cond_both (is_held log.stalled level) (At level) _ (λ p. is_at 0 p ≡ false) (λ e. above)
    (λ e. cond_both (nat_eq level last) Gone (At (suc level)) (λ p. is_at 0 p ≡ false) (λ e. refl) (λ e. eqb-suc-zero level)))

pub place_above : (past : List Log) (entry : Entry) → is_at 0 (place past entry) ≡ false
place_above [] entry = refl
place_above (log ∷ past) entry =
    cond_both (nat_eq entry.edge (suc (length past))) (first_place entry) (next_place entry.last log (place past entry)) (λ p. is_at 0 p ≡ false)
    (λ e. cond_both (nat_lt entry.level entry.last) (At (suc entry.level)) Gone (λ p. is_at 0 p ≡ false) (λ e. eqb-suc-zero entry.level) (λ e. refl))
    (λ e. moved_above entry.last log (place past entry) (place_above past entry))

all_above : (past : List Log) (entries : List Entry) → AllByRecursion (λ entry. is_at 0 (place past entry) ≡ false) entries
all_above past [] = tt
all_above past (entry ∷ entries) = (place_above past entry, all_above past entries)

pub none_below : (past : List Log) (entries : List Entry) → standing past 0 entries ≡ None
none_below past entries = ap entry_word (find_none (λ entry. is_at 0 (place past entry)) entries (all_above past entries))
