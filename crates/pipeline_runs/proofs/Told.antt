-- The stages that ran, by the queues at the end of an edge.
use Rattle.std.proofs.Common.{◌≡◌, ◌≢◌, ℕ, suc, ◌+◌, ◌<◌, ◌≤◌, Bool, true, false, cond, not, ◌&&◌, ◌||◌, List, [], ◌∷◌, Option, None, Some, is_some, refl, sym, ap, ap₂, ◌∙◌, subst, ⊎_elim, arith, nat_eq}
use Rattle.std.specs.Option.{option_map, unwrap_or}
use Rattle.std.specs.List.{list_any, find, AllByRecursion}
use Rattle.std.proofs.lemmas.Bool.{eq-eqb, ne_eqb, eqb-true, and_parts, and_from, cases_eq, cases_Bool}
use Rattle.activation_bits.specs.Members.{has}
use Rattle.pipeline_time.specs.Acts.{Node}
use Rattle.pipeline_time.specs.Cores.{Core, all_nodes, node_of, level_of}
use Rattle.pipeline_time.specs.Running.{Running}
use Rattle.pipeline_time.specs.Edges.{Standing, is_held, is_flushed, is_free, waiting, is_due}
use Rattle.pipeline_time.specs.Journal.{stands}
use Rattle.pipeline_time.specs.States.{log_of, edge_of, after}
use Rattle.pipeline_time.specs.Bits.{shown}
use Rattle.pipeline_time.specs.Sound.{IsSound}
use Rattle.pipeline_time.proofs.Tree.{has_number, whole, tree_of, find_passes, good_of}
use Rattle.pipeline_time.proofs.Held.{IsDeep, all_deep}
use Rattle.pipeline_time.proofs.Agree.{good_past, same_standing}
use Rattle.lisa_activation.specs.declared.kept.Queues.{Queues}
use Rattle.lisa_activation.specs.Queued.{is_due as is_queued}
use Rattle.lisa_activation.specs.Shown.{AreQueuesOf}
use Rattle.lisa_activation.proofs.Agree.{due_agrees}
use Rattle.pipeline_runs.specs.declared.seen.Seen.{Seen}
use Rattle.pipeline_runs.specs.Runs.{Represents}
use Rattle.pipeline_runs.specs.Pipelines.{HasCome}
use Rattle.pipeline_runs.specs.Seeing.{TellsSome, IsSeen, has_run}
use Rattle.pipeline_runs.proofs.Ran.{what_is_due_runs}

-- ---- stage by stage

-- what is due in a stage that is neither held nor flushed
abbrev pub open_and_queued : Queues → ℕ → ℕ → ℕ → ℕ → Bool
open_and_queued queues held flushed stage number = (not (has held stage) && not (has flushed stage)) && is_queued queues stage number

-- the bits of the stages so far
pub record AreToldTo (queues : Queues) (held flushed stages stage : ℕ) : Type 0 where
  pub so_far : (s : ℕ) → s < stage → TellsSome (open_and_queued queues held flushed s) (has stages s)
  pub none_yet : (s : ℕ) → stage ≤ s → has stages s ≡ false

module _ (queues : Queues) (held flushed : ℕ) where
  or_true : (b : Bool) → (b || true) ≡ true
  or_true b = grind arith

  or_false : (b : Bool) → (b || false) ≡ b
  or_false b = grind arith

  pub told_with : (stages stages' stage : ℕ) → ((s : ℕ) → has stages' s ≡ (has stages s || nat_eq s stage)) → TellsSome (open_and_queued queues held flushed stage) true → AreToldTo queues held flushed stages stage → AreToldTo queues held flushed stages' (stage + 1)
  told_with stages stages' stage with_it told far = record {
    so_far = λ s low.
        ⊎_elim
        (λ (e : s ≡ stage).
        let is : has stages' s ≡ true = with_it s ∙ ap (λ b. has stages s || b) (eq-eqb s stage e) ∙ or_true (has stages s) in
        subst (λ b. TellsSome (open_and_queued queues held flushed s) b) (sym is)
        (subst (λ n. TellsSome (open_and_queued queues held flushed n) true) (sym e) told))
        (λ (ne : s ≢ stage).
        let is : has stages' s ≡ has stages s = with_it s ∙ ap (λ b. has stages s || b) (ne_eqb s stage ne) ∙ or_false (has stages s) in
        subst (λ b. TellsSome (open_and_queued queues held flushed s) b) (sym is) (far.so_far s (omega (arith, low, ne))))
        (cases_eq s stage);
    none_yet = λ s late. with_it s ∙ ap₂ (λ (a b : Bool). a || b) (far.none_yet s (omega (arith, late))) (ne_eqb s stage (λ e. omega (arith, late, e)));
  }

  pub told_without : (stages stage : ℕ) → TellsSome (open_and_queued queues held flushed stage) false → AreToldTo queues held flushed stages stage → AreToldTo queues held flushed stages (stage + 1)
  told_without stages stage told far = record {
    so_far = λ s low.
        ⊎_elim
        (λ (e : s ≡ stage).
        subst (λ b. TellsSome (open_and_queued queues held flushed s) b) (sym (far.none_yet s (omega (arith, e))))
        (subst (λ n. TellsSome (open_and_queued queues held flushed n) false) (sym e) told))
        (λ (ne : s ≢ stage). far.so_far s (omega (arith, low, ne)))
        (cases_eq s stage);
    none_yet = λ s late. far.none_yet s (omega (arith, late));
  }

-- ---- against what time says

found_here : (q : Node → Bool) (y x : Node) (xs : List Node) (o : Option Node) (b : Bool) → (o ≡ Some x → list_any q xs ≡ true) → cond b (Some y) o ≡ Some x → q x ≡ true → (q y || list_any q xs) ≡ true
found_here q y x xs o true rest e is = let same : y ≡ x = cc in ap (λ b. b || list_any q xs) (ap q same ∙ is)
found_here q y x xs o false rest e is = let more = rest e in grind arith

none_is : (x : Node) → None ≡ Some x → ⊥
none_is x e = cc

-- what is found passes for one of the list
found_any : (p q : Node → Bool) (xs : List Node) (x : Node) → find p xs ≡ Some x → q x ≡ true → list_any q xs ≡ true
found_any p q [] x e is = absurd (none_is x e)
found_any p q (y ∷ xs) x e is = found_here q y x xs (find p xs) (p y) (λ f. found_any p q xs x f is) e is

module _ {R M : Type 0} (core : Core R M) (sound : IsSound core) (first : R) (entries : List (List ℕ)) (pins : List ℕ) where
  abbrev ending : Running M
  ending = edge_of core pins (after core first entries)

  abbrev waits : ℕ → ℕ → Option ℕ
  waits level = waiting core (stands core (after core first entries).past) level ending

  module _ (queues : Queues) (tables : AreQueuesOf core queues) (moment : M) (slot : Option ℕ) (seen : Represents moment queues slot (shown core (after core first entries)).bits ending)
      (held flushed : ℕ)
      (helds : (stage : ℕ) → stage < 8 → has held stage ≡ is_held (core.stalled moment) (suc stage))
      (flusheds : (stage : ℕ) → stage < 8 → has flushed stage ≡ is_flushed (core.flushed moment) (suc stage)) where
    queued_so : (stage number : ℕ) → stage < 8 → is_queued queues stage number ≡ (nat_eq (level_of core number) (suc stage) && is_some (waits (suc stage) number))
    queued_so stage number low =
        due_agrees core queues (shown core (after core first entries)) ending stage number tables seen.holds low
        ∙ ap (λ (s : Standing). nat_eq (level_of core number) (suc stage) && is_some (waiting core s (suc stage) ending number)) (same_standing core sound (after core first entries) (good_past core sound first entries))

    free_so : (stage : ℕ) → stage < 8 → (not (has held stage) && not (has flushed stage)) ≡ is_free core ending (suc stage)
    free_so stage low =
        ap₂ (λ h f. not h && not f)
        (helds stage low ∙ ap (λ m. is_held (core.stalled m) (suc stage)) seen.moment_is)
        (flusheds stage low ∙ ap (λ m. is_flushed (core.flushed m) (suc stage)) seen.moment_is)

    -- one that is due by the queues is due by time
    queued_due : (stage number : ℕ) → stage < 8 → is_queued queues stage number ≡ true → list_any (is_due core (waits (suc stage)) (suc stage)) (all_nodes core) ≡ true
    queued_due stage number low queued =
        let both = and_parts (nat_eq (level_of core number) (suc stage)) (is_some (waits (suc stage) number)) (sym (queued_so stage number low) ∙ queued) in
        let at = eqb-true (level_of core number) (suc stage) both.0 in
        ⊎_elim
        (λ none. let e = ap (λ x. unwrap_or (option_map (λ (node : Node). node.level) x) 0) none in absurd (omega (arith, e, at)))
        (λ some.
        let node = some.0 in
        let e = ap (λ x. unwrap_or (option_map (λ (n : Node). n.level) x) 0) some.1 in
        let same = eqb-true node.number number (find_passes core sound (has_number number) (all_nodes core) node some.1) in
        found_any (has_number number) (is_due core (waits (suc stage)) (suc stage)) (all_nodes core) node some.1
        (and_from (nat_eq node.level (suc stage)) (is_some (waits (suc stage) node.number)) (eq-eqb node.level (suc stage) (omega (arith, e, at))) (ap (λ n. is_some (waits (suc stage) n)) same ∙ both.1)))
        (good_of core sound number)

    none_due : (stage : ℕ) (xs : List Node) → stage < 8 → ((number : ℕ) → is_queued queues stage number ≡ false) → AllByRecursion (IsDeep core sound) xs → list_any (is_due core (waits (suc stage)) (suc stage)) xs ≡ false
    none_due stage [] low none each = refl
    none_due stage (node ∷ xs) low none each =
        ap₂ (λ a b. a || b)
        (ap (λ l. nat_eq l (suc stage) && is_some (waits (suc stage) node.number)) (sym each.0.good.level_is) ∙ sym (queued_so stage node.number low) ∙ none node.number)
        (none_due stage xs low none each.1)

    ran_so : (stage : ℕ) (b : Bool) → stage < 8 → TellsSome (open_and_queued queues held flushed stage) b → b ≡ (is_free core ending (suc stage) && list_any (is_due core (waits (suc stage)) (suc stage)) (all_nodes core))
    ran_so stage true low told =
        let both = and_parts (not (has held stage) && not (has flushed stage)) (is_queued queues stage told.0) told.1 in
        sym (and_from (is_free core ending (suc stage)) _ (sym (free_so stage low) ∙ both.0) (queued_due stage told.0 low both.1))
    ran_so stage false low told =
        ⊎_elim
        (λ free.
        let none = none_due stage (all_nodes core) low (λ number. sym (ap (λ b. b && is_queued queues stage number) (free_so stage low ∙ free)) ∙ told number) (all_deep core sound 0 false 0 (whole core) (tree_of core sound)) in
        sym (ap₂ (λ a b. a && b) free none))
        (λ busy. sym (ap (λ b. b && list_any (is_due core (waits (suc stage)) (suc stage)) (all_nodes core)) busy))
        (cases_Bool (is_free core ending (suc stage)))

    pub seen_so : (ran : ℕ) → ((stage : ℕ) → stage < 8 → TellsSome (open_and_queued queues held flushed stage) (has ran stage)) → IsSeen core (log_of core ending) (record { ran = ran; held = held; flushed = flushed })
    seen_so ran told = record {
      ran = λ stage low. ran_so stage (has ran stage) low (told stage low) ∙ sym (what_is_due_runs core sound first entries pins stage);
      stages = record {
        as_held = λ stage low. helds stage low ∙ ap (λ m. is_held (core.stalled m) (suc stage)) seen.moment_is;
        as_flushed = λ stage low. flusheds stage low ∙ ap (λ m. is_flushed (core.flushed m) (suc stage)) seen.moment_is;
      };
    }

-- what is told of a core is told of one that is the same
pub seen_on : {R M : Type 0} (core core' : Core R M) (moment : M) (queues : Queues) (slot : Option ℕ) (words pins : List ℕ) (first : R) (entries : List (List ℕ)) (seen : Seen) → core' ≡ core → ((first : R) (entries : List (List ℕ)) (pins words : List ℕ) → HasCome core' first entries pins words moment queues slot 0 (edge_of core' pins (after core' first entries)) → IsSeen core' (log_of core' (edge_of core' pins (after core' first entries))) seen) → HasCome core first entries pins words moment queues slot 0 (edge_of core pins (after core first entries)) → IsSeen core (log_of core (edge_of core pins (after core first entries))) seen
seen_on {R = R} {M = M} core core' moment queues slot words pins first entries seen same told come =
    subst (λ (c : Core R M). HasCome c first entries pins words moment queues slot 0 (edge_of c pins (after c first entries)) → IsSeen c (log_of c (edge_of c pins (after c first entries))) seen) same
    (told first entries pins words) come
