-- Slots stand behind the level in which they are made, and in one of the stages.
use Rattle.std.proofs.Common.{◌≡◌, ℕ, zero, suc, ◌<◌, ◌≤◌, Bool, true, false, cond, List, [], ◌∷◌, ◌++◌, length, Option, None, Some, refl, subst, arith, nat_eq, nat_lt}
use Rattle.std.specs.Prelude.{is_some}
use Rattle.std.specs.Option.{option_map}
use Rattle.std.specs.List.{fold, find, AllByRecursion}
use Rattle.std.proofs.lemmas.Bool.{cond_both, both_ways, eqb-false, eqb-true, ltb-true}
use Rattle.pipeline_time.specs.Cores.{Core, slot_level}
use Rattle.pipeline_time.specs.Running.{Running}
use Rattle.pipeline_time.specs.Edges.{is_held, is_flushed}
use Rattle.pipeline_time.specs.Journal.{Log, Entry, Place, Gone, At, first_place, next_place, place, is_at, standing, slot_entries, slots}
use Rattle.pipeline_time.specs.States.{State, slot_made, edge_of, next, first_state, after}

-- ---- places

abbrev pub IsBetween : Entry → Place → Type 0
IsBetween entry Gone = Unit {0}
IsBetween entry (At level) = (entry.level < level) × (level ≤ entry.last)

moved_between : (entry : Entry) (log : Log) (p : Place) → IsBetween entry p → IsBetween entry (next_place entry.last log p)
moved_between entry log Gone h = tt
moved_between entry log (At level) h =
    cond_both (is_flushed log.flushed level) Gone _ (IsBetween entry) (λ e. tt)
    (λ e. cond_both (is_held log.stalled level) (At level) _ (IsBetween entry) (λ e. h)
    (λ e. cond_both (nat_eq level entry.last) Gone (At (suc level)) (IsBetween entry) (λ e. tt)
    (λ e. (let n = eqb-false level entry.last e in (omega (arith, h.0), omega (arith, h.1, n))))))

-- something stands behind its maker's level, and up to its last one
pub place_between : (past : List Log) (entry : Entry) → IsBetween entry (place past entry)
place_between [] entry = tt
place_between (log ∷ past) entry =
    cond_both (nat_eq entry.edge (suc (length past))) (first_place entry) (next_place entry.last log (place past entry)) (IsBetween entry)
    (λ e. cond_both (nat_lt entry.level entry.last) (At (suc entry.level)) Gone (IsBetween entry) (λ l. (let n = ltb-true entry.level entry.last l in (omega arith, omega (arith, n)))) (λ l. tt))
    (λ e. moved_between entry log (place past entry) (place_between past entry))

at_between : (entry : Entry) (level : ℕ) (p : Place) → IsBetween entry p → is_at level p ≡ true → (entry.level < level) × (level ≤ entry.last)
at_between entry level Gone h e = absurd (both_ways false refl e)
at_between entry level (At here) h e = subst (λ (l : ℕ). (entry.level < l) × (l ≤ entry.last)) (eqb-true here level e) h

-- ---- slots

module _ {R M : Type 0} (core : Core R M) where
  abbrev HasRoot : Option ℕ → Type 0
  HasRoot slot = is_some slot ≡ true → is_some core.root_level ≡ true

  made_rooted : (o : Option ℕ) (now : Running M) → is_some (slot_made core o now) ≡ true → is_some o ≡ true
  made_rooted None now e = e
  made_rooted (Some zero) now e = refl
  made_rooted (Some (suc stage)) now e = refl

  HaveRoots : List Log → Type 0
  HaveRoots past = AllByRecursion (λ (log : Log). HasRoot log.slot) past

  rooted : (state : State R) (entries : List (List ℕ)) → HaveRoots state.past → HaveRoots (fold (next core) state entries).past
  unfolding HaveRoots
  rooted state [] all = all
  rooted state (pins ∷ entries) all = rooted (next core state pins) entries (made_rooted core.root_level (edge_of core pins state), all)

  -- a slot's levels, and that there is a root
  record IsSlot (entry : Entry) : Type 0 where
    level_is : entry.level ≡ slot_level core
    last_is : entry.last ≡ core.stages
    root_is : is_some core.root_level ≡ true

  one_slot : (edge : ℕ) (slot : Option ℕ) (rest : List Entry) → HasRoot slot → AllByRecursion IsSlot rest → AllByRecursion IsSlot (slot_entries core edge slot ++ rest)
  one_slot edge None rest has all = all
  one_slot edge (Some w) rest has all = (record { level_is = refl; last_is = refl; root_is = has refl }, all)

  all_slots : (past : List Log) → HaveRoots past → AllByRecursion IsSlot (slots core past)
  unfolding HaveRoots
  all_slots [] has = tt
  all_slots (log ∷ past) has = one_slot (suc (length past)) log.slot (slots core past) has.0 (all_slots past has.1)

  abbrev Stands : ℕ → Type 0
  Stands level = (is_some core.root_level ≡ true) × (slot_level core < level) × (level ≤ core.stages)

  found_behind : (past : List Log) (level : ℕ) (entries : List Entry) → AllByRecursion IsSlot entries → is_some (standing past level entries) ≡ true → Stands level
  found_behind past level [] all e = absurd (both_ways false refl e)
  found_behind past level (entry ∷ entries) all e = by (is_at level (place past entry)) refl (found_behind past level entries all.1) e
    where
      by : (b : Bool) → is_at level (place past entry) ≡ b → (is_some (standing past level entries) ≡ true → Stands level) → is_some (option_map (λ (x : Entry). x.word) (cond b (Some entry) (find (λ (x : Entry). is_at level (place past x)) entries))) ≡ true → Stands level
      by true at rest is =
          let h = at_between entry level (place past entry) (place_between past entry) at in
          let l = all.0.level_is in
          let s = all.0.last_is in
          (all.0.root_is, omega (arith, h.0, l), omega (arith, h.1, s))
      by false at rest is = rest is

  pub stands_behind : (first : R) (entries : List (List ℕ)) (level : ℕ) → is_some (standing (after core first entries).past level (slots core (after core first entries).past)) ≡ true → Stands level
  unfolding HaveRoots
  stands_behind first entries level e =
      let past = (after core first entries).past in
      found_behind past level (slots core past) (all_slots past (rooted (first_state core first) entries tt)) e
