-- An edge from what a state shows to what the next one shows.
use Rattle.std.proofs.Common.{◌≡◌, ℕ, suc, ◌<◌, Bool, true, false, cond, ◌&&◌, List, [], ◌∷◌, ◌++◌, Option, Some, refl, sym, ap, ap₂, ◌∙◌, subst, arith, nat_eq}
use Rattle.std.specs.Prelude.{slice_get, slice_index, is_some}
use Rattle.std.specs.Option.{unwrap_or}
use Rattle.std.specs.List.{Contains}
use Rattle.std.proofs.lemmas.Bool.{ne_eqb}
use Rattle.std.proofs.lemmas.List.Folds.{list_any_none}
use Rattle.std.proofs.lemmas.List.Elements.{All-from_recursion, Contains-get_or}
use Rattle.std.proofs.lemmas.Option.{slice_get_within, get_or_from_slice_get}
use Rattle.pipeline_time.specs.Cores.{Core, main_node, all_nodes, level_of, level_of_slots, slot_level}
use Rattle.pipeline_time.specs.Running.{Activation, Running, word_below, run_occurrence}
use Rattle.pipeline_time.specs.Edges.{Standing, waiting, is_due, turn, turns, start, edge}
use Rattle.pipeline_time.specs.Journal.{journal, slots, stands, stage_word}
use Rattle.pipeline_time.specs.States.{State, edge_of, after}
use Rattle.pipeline_time.specs.Bits.{Hardware, is_recorded, shown}
use Rattle.pipeline_time.specs.Sound.{IsSound}
use Rattle.pipeline_time.specs.Laws.{TurnComes, at_first, further, turn_word}
use Rattle.pipeline_time.proofs.Lists.{each_so}
use Rattle.pipeline_time.proofs.Places.{none_below}
use Rattle.pipeline_time.proofs.Turns.{IsKept, edge_far}
use Rattle.pipeline_time.proofs.Agree.{good_past, worded, same_standing, edge_agrees}
use Rattle.pipeline_time.proofs.Due.{due_chosen}
use Rattle.lisa_activation.specs.declared.kept.Queues.{Queues}
use Rattle.lisa_activation.specs.Queued.{is_due as is_queued}
use Rattle.lisa_activation.proofs.Agree.{due_agrees}
use Rattle.pipeline_runs.specs.declared.plan.Plan.{Plan}
use Rattle.pipeline_runs.specs.Runs.{node_of, Represents}
use Rattle.pipeline_runs.specs.Turns.{IsPlanOf, IsEquipped, WaitAs}
use Rattle.pipeline_runs.specs.Pipelines.{AreWords, ShowsHardware, NoneBelow, HasCome, hardware_ended}
use Rattle.pipeline_runs.proofs.Tables.{node_at, number_is, level_is}

contained : {X : Type 0} (xs : List X) (n : ℕ) (x : X) → slice_get xs n ≡ Some x → Contains xs x
contained xs n x e = subst (λ y. Contains xs y) (get_or_from_slice_get xs n x x e) (Contains-get_or xs n x (slice_get_within xs n x e))

module _ {R M : Type 0} (core : Core R M) (first : R) (entries : List (List ℕ)) where
  abbrev before : State R
  before = after core first entries

  abbrev standing_before : Standing
  standing_before = stands core before.past

  -- the word that moves on, by the plan's root
  moving : (plan : Plan) → IsPlanOf core plan → (words : List ℕ) (slot : Option ℕ) (now : Running M) (stage word : ℕ) → stage < 8 → AreWords words (shown core before).words → slot ≡ now.slot → word ≡ cond (nat_eq (suc stage) (level_of_slots plan.root_level)) (unwrap_or slot 0) (slice_index words stage) → word ≡ turn_word core before.past now (suc stage)
  moving plan planned words slot now stage word low words_are slot_is is =
      is
      ∙ ap (λ (r : Option ℕ). cond (nat_eq (suc stage) (level_of_slots r)) (unwrap_or slot 0) (slice_index words stage)) planned.root
      ∙ ap₂ (λ (s : Option ℕ) (w : ℕ). cond (nat_eq (suc stage) (slot_level core)) (unwrap_or s 0) w) slot_is (words_are stage low)

  -- what waits is what is due by the queues
  pub wait_as : (queues : Queues) (plan : Plan) → IsEquipped core queues plan → (pins words : List ℕ) (moment : M) (slot : Option ℕ) (stage word : ℕ) (now : Running M) → stage < 8 → HasCome core first entries pins words moment queues slot (suc stage) now → word ≡ cond (nat_eq (suc stage) (level_of_slots plan.root_level)) (unwrap_or slot 0) (slice_index words stage) → WaitAs core queues stage word (waiting core standing_before (suc stage) now) plan.occurrences.items
  wait_as queues plan equipped pins words moment slot stage word now low come is n o e = (due, worded')
    where
      sound : IsSound core
      sound = equipped.sound

      waits : ℕ → Option ℕ
      waits = waiting core standing_before (suc stage) now

      number : o.number ≡ n
      number = number_is core sound plan equipped.planned n o e

      by_queues : is_queued queues stage n ≡ (nat_eq (level_of core n) (suc stage) && is_some (waits n))
      by_queues =
          due_agrees core queues (shown core before) now stage n equipped.tables come.seen.holds low
          ∙ ap (λ (s : Standing). nat_eq (level_of core n) (suc stage) && is_some (waiting core s (suc stage) now n)) (same_standing core sound before (good_past core sound first entries))

      due : is_due core waits (suc stage) (node_of o) ≡ is_queued queues stage n
      due = ap₂ (λ l m. nat_eq l (suc stage) && is_some (waits m)) (sym (level_is core sound plan equipped.planned n o e)) number ∙ sym by_queues

      worded' : is_queued queues stage n ≡ true → unwrap_or (waits o.number) 0 ≡ word_below o.past word
      worded' queued =
          (due_chosen core sound first entries pins (suc stage) now (node_of o) (omega arith) come.comes (contained (all_nodes core) n (node_of o) (node_at core sound plan equipped.planned n o e)) (due ∙ queued) (unwrap_or (waits o.number) 0) refl).0
          ∙ ap (λ w. word_below o.past w) (sym (moving plan equipped.planned words slot now stage word low come.words_are come.seen.slot_is is))

  -- the turns of the earlier stages, over a core that is the same
  pub turned_on : (core' : Core R M) (words : List ℕ) (moment : M) (queues : Queues) (slot : Option ℕ) (moment' : M) (queues' : Queues) (slot' : Option ℕ) (pins : List ℕ) (level stage : ℕ) (now : Running M) → level ≡ suc stage → core' ≡ core → TurnComes core standing_before pins before.memory level now → AreWords words (shown core before).words → Represents moment queues slot (shown core before).bits (turn core standing_before (suc stage) now) → ((then : Running M) → HasCome core' first entries pins words moment queues slot stage then → HasCome core' first entries pins words moment' queues' slot' 0 (turns core' (stands core' (after core' first entries).past) stage then)) → HasCome core first entries pins words moment' queues' slot' 0 (turns core standing_before level now)
  turned_on core' words moment queues slot moment' queues' slot' pins level stage now e same comes words_are seen rest =
      let on = subst (λ (c : Core R M). (then : Running M) → HasCome c first entries pins words moment queues slot stage then → HasCome c first entries pins words moment' queues' slot' 0 (turns c (stands c (after c first entries).past) stage then)) same rest in
      subst (λ l. HasCome core first entries pins words moment' queues' slot' 0 (turns core standing_before l now)) (sym e)
      (on (turn core standing_before (suc stage) now) (record {
        comes = further (subst (λ l. TurnComes core standing_before pins before.memory l now) e comes);
        words_are = words_are;
        seen = seen;
      }))

  pub none_turned : (words : List ℕ) (moment : M) (queues : Queues) (slot : Option ℕ) (pins : List ℕ) (level : ℕ) (now : Running M) → level ≡ 0 → HasCome core first entries pins words moment queues slot level now → HasCome core first entries pins words moment queues slot 0 (turns core standing_before level now)
  none_turned words moment queues slot pins level now e come =
      subst (λ l. HasCome core first entries pins words moment queues slot 0 (turns core standing_before l now)) (sym e)
      (subst (λ l. HasCome core first entries pins words moment queues slot l now) e come)

-- ---- the whole edge

module _ {R M : Type 0} (core : Core R M) (sound : IsSound core) (first : R) (entries : List (List ℕ)) (pins : List ℕ) where
  abbrev ending : Running M
  ending = edge_of core pins (after core first entries)

  none_made : (number : ℕ) → is_recorded ending.made 0 number ≡ false
  none_made number =
      let past = (after core first entries).past in
      let far = edge_far core sound (stage_word core past) (stands core past) (worded core sound past (good_past core sound first entries)) pins (after core first entries).memory in
      let test = λ (a : Activation). nat_eq a.occurrence number && nat_eq a.level 0 in
      list_any_none test ending.made
      (All-from_recursion (λ a. test a ≡ false) ending.made
      (each_so (IsKept core (stage_word core past) 1 ending) (λ a. test a ≡ false) ending.made
      (λ a kept. later (nat_eq a.occurrence number) (nat_eq a.level 0) (ne_eqb a.level 0 (λ e. omega (arith, kept.staged)))) far.each))
    where
      later : (a b : Bool) → b ≡ false → (a && b) ≡ false
      later a b e = grind arith

  pub none_below_at_end : NoneBelow (shown core (after core first entries)).bits (shown core (after core first entries)).words ending.made
  none_below_at_end =
      let past = (after core first entries).past in
      record {
        no_bit = λ number. ap is_some (none_below past (journal core number past));
        no_word = ap (λ (o : Option ℕ). unwrap_or o 0) (none_below past (slots core past));
        none_made = none_made;
      }

  pub next_shown : hardware_ended core (shown core (after core first entries)).bits (shown core (after core first entries)).words ending ≡ shown core (after core first (entries ++ pins ∷ []))
  next_shown =
      let state = after core first entries in
      ap (λ (s : Standing). hardware_ended core (shown core state).bits (shown core state).words (edge core s pins state.memory)) (sym (same_standing core sound state (good_past core sound first entries)))
      ∙ edge_agrees core sound first entries pins (shown core state) refl

-- what the parts of an edge do, one after another, up to its end
module _ {R M : Type 0} (lasting : R) (m1 m2 m3 : M) (q0 q1 q2 q3 : Queues) (s1 s2 s3 : Option ℕ) (words0 words : List ℕ) (pins : List ℕ) where
  abbrev Begins : Core R M → Type 0
  Begins core = (hard : Hardware R) → ShowsHardware lasting q0 words0 hard → Represents m1 q1 s1 hard.bits (start core pins hard.memory)

  abbrev RunsMain : Core R M → Type 0
  RunsMain core = (bits : ℕ → ℕ → Bool) (now : Running M) → Represents m1 q1 s1 bits now → Represents m2 q2 s2 bits (run_occurrence core 0 (main_node core) now)

  abbrev RunsTurns : ℕ → Core R M → Type 0
  RunsTurns level core = (first : R) (entries : List (List ℕ)) (pins : List ℕ) (now : Running M) → HasCome core first entries pins words m2 q2 s2 level now → HasCome core first entries pins words m3 q3 s3 0 (turns core (stands core (after core first entries).past) level now)

  comes_on : (core : Core R M) → (level : ℕ) → level ≡ core.stages → words ≡ words0 → Begins core → RunsMain core → RunsTurns level core → (first : R) (entries : List (List ℕ)) → ShowsHardware lasting q0 words0 (shown core (after core first entries)) → HasCome core first entries pins words m3 q3 s3 0 (edge_of core pins (after core first entries))
  comes_on core level is same begins main turned first entries shows =
      let state = after core first entries in
      let ran = run_occurrence core 0 (main_node core) (start core pins state.memory) in
      let begun = main (shown core state).bits (start core pins state.memory) (begins (shown core state) shows) in
      let words_are = subst (λ (ws : List ℕ). AreWords ws (shown core state).words) (sym same) shows.words_are in
      let come = subst (λ l. HasCome core first entries pins words m2 q2 s2 l ran) (sym is) (record { comes = at_first; words_are = words_are; seen = begun }) in
      subst (λ l. HasCome core first entries pins words m3 q3 s3 0 (turns core (stands core state.past) l ran)) is (turned first entries pins ran come)

  pub comes : (core c1 c2 : Core R M) → c1 ≡ core → c2 ≡ c1 → (level : ℕ) → level ≡ core.stages → words ≡ words0 → Begins core → RunsMain c1 → RunsTurns level c2 → (first : R) (entries : List (List ℕ)) → ShowsHardware lasting q0 words0 (shown core (after core first entries)) → HasCome core first entries pins words m3 q3 s3 0 (edge_of core pins (after core first entries))
  comes core c1 c2 e1 e2 level is same begins main turned =
      comes_on core level is same begins
      (subst (λ (c : Core R M). RunsMain c) e1 main)
      (subst (λ (c : Core R M). RunsTurns level c) (e2 ∙ e1) turned)

-- and its end
pub leads : {R M : Type 0} (core c3 : Core R M) (lasting' : R) (m3 : M) (q3 q4 : Queues) (s3 : Option ℕ) (words words' pins : List ℕ) (first : R) (entries : List (List ℕ)) → c3 ≡ core → IsSound core → HasCome core first entries pins words m3 q3 s3 0 (edge_of core pins (after core first entries)) → ((bits : ℕ → ℕ → Bool) (levels : ℕ → ℕ) (now : Running M) → Represents m3 q3 s3 bits now → AreWords words levels → NoneBelow bits levels now.made → ShowsHardware lasting' q4 words' (hardware_ended c3 bits levels now)) → ShowsHardware lasting' q4 words' (shown core (after core first (entries ++ pins ∷ [])))
leads {R = R} {M = M} core c3 lasting' m3 q3 q4 s3 words words' pins first entries same sound come ends =
    let state = after core first entries in
    let end = edge_of core pins state in
    let there = ends (shown core state).bits (shown core state).words end come.seen come.words_are (none_below_at_end core sound first entries pins) in
    subst (λ (h : Hardware R). ShowsHardware lasting' q4 words' h) (next_shown core sound first entries pins)
    (subst (λ (c : Core R M). ShowsHardware lasting' q4 words' (hardware_ended c (shown core state).bits (shown core state).words end)) same there)
