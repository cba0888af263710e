-- What an edge records, and with which words.
use Rattle.std.proofs.Common.{◌≡◌, ℕ, zero, suc, ◌+◌, ◌<◌, ◌≤◌, Bool, true, false, cond, not, ◌&&◌, ◌⊎◌, List, [], ◌∷◌, ◌++◌, Option, None, Some, refl, sym, ap, ap₂, ◌∙◌, subst, inl, inr, ⊎_elim, arith, append_assoc, nat_eq}
use Rattle.std.specs.Prelude.{is_some}
use Rattle.std.specs.Option.{unwrap_or, option_or, option_map}
use Rattle.std.specs.List.{find, filter, fold, AllByRecursion}
use Rattle.std.proofs.lemmas.Bool.{cond_both, cond-true, cond-false, eq-eqb, ne_eqb, eqb-true, both_ways, cases_eq, cases_lt, false_from_ne_true, and_parts}
use Rattle.pipeline_time.specs.Acts.{Node, size}
use Rattle.pipeline_time.specs.Cores.{Core, main_node, all_nodes, level_of, above_of, is_past, level_of_slots, slot_level}
use Rattle.pipeline_time.specs.Running.{Activation, Running, word_below, run_occurrence}
use Rattle.pipeline_time.specs.Edges.{Standing, word_in, is_held, is_flushed, is_free, waiting, is_due, run_due, turn, turns, start, edge}
use Rattle.pipeline_time.specs.Sound.{IsSound}
use Rattle.pipeline_time.proofs.Lists.{each_append, each_so}
use Rattle.pipeline_time.proofs.Tree.{RootAbove, IsGood, whole, tree_of}
use Rattle.pipeline_time.proofs.Induct.{occurrence_tracked, IsTurned, due_turned}
use Rattle.pipeline_time.proofs.Leaves.{IsNew, IsNewFirst, HasWord, before_has, Leaves, leaves_tracked, firsts_none}

-- what the turn of another level than the root's leaves, where what is past the root runs with this word
pub record Turned {R M : Type 0} (core : Core R M) (word here : ℕ) (now after : Running M) : Type 0 where
  pub held : (level : ℕ) → here ≤ level → is_held (core.stalled after.moment) level ≡ is_held (core.stalled now.moment) level
  pub flushed : (level : ℕ) → here ≤ level → is_flushed (core.flushed after.moment) level ≡ is_flushed (core.flushed now.moment) level
  pub first : after.first ≡ now.first
  pub slot : after.slot ≡ now.slot
  pub news : List Activation
  pub made : after.made ≡ news ++ now.made
  pub each : AllByRecursion (IsNew core here) news
  pub worded : AllByRecursion (λ a. HasWord core word a.occurrence a.word) news

-- the word with which what is past the root runs at a level
abbrev pub moving : {R M : Type 0} → Core R M → (ℕ → ℕ) → Option ℕ → ℕ → ℕ
moving core words slot level = cond (nat_eq level (slot_level core)) (unwrap_or slot 0) (words level)

-- what holds of an edge as far as the turn of a level
pub record IsKept {R M : Type 0} (core : Core R M) (words : ℕ → ℕ) (from : ℕ) (now : Running M) (a : Activation) : Type 0 where
  pub so_far : from ≤ a.level
  pub staged : 0 < a.level
  pub above : above_of core a.occurrence ≡ a.level
  pub later : a.level < level_of core a.occurrence
  pub free : is_free core now a.level ≡ true
  pub word : HasWord core (moving core words now.slot a.level) a.occurrence a.word

pub record IsFirst {R M : Type 0} (core : Core R M) (slot : Option ℕ) (number own : ℕ) : Type 0 where
  pub above : above_of core number ≡ 0
  pub word : (is_past core number ≡ true → core.root_level ≡ Some 0) → HasWord core (unwrap_or slot 0) number own

pub record Far {R M : Type 0} (core : Core R M) (words : ℕ → ℕ) (from : ℕ) (now : Running M) : Type 0 where
  pub each : AllByRecursion (IsKept core words from now) now.made
  pub none : (stage : ℕ) → core.root_level ≡ Some (suc stage) → suc stage < from → now.slot ≡ None
  pub slot : (word stage : ℕ) → now.slot ≡ Some word → core.root_level ≡ Some (suc stage) → is_free core now (suc stage) ≡ true
  pub first : AllByRecursion (λ pair. IsFirst core now.slot pair.0 pair.1) now.first

-- What the proof of an edge needs of what stands: it was activated from an earlier level, which is a stage's, with the word of its stage.
pub record IsWorded {R M : Type 0} (core : Core R M) (words : ℕ → ℕ) (stands : Standing) : Type 0 where
  pub later : (level number : ℕ) → is_some (stands level number) ≡ true → (above_of core number < level) × (1 < level)
  pub word : (level number word : ℕ) → stands level number ≡ Some word → HasWord core (words level) number word

pub some_same : (a b : ℕ) → Some a ≡ Some b → a ≡ b
some_same a b e = cc

pub none_some : (w : ℕ) → None ≡ Some w → ⊥
none_some w e = cc

pub some_not_none : (o : Option ℕ) (w : ℕ) → o ≡ None → o ≡ Some w → ⊥
some_not_none o w n s = cc

-- a slot's level lies before that of what is past the root
pub slots_before : {R M : Type 0} (core : Core R M) (above level : ℕ) → RootAbove core above → above < level → 1 < level → slot_level core < level
slots_before core above level root low staged = subst (λ n. n < level) (sym (ap level_of_slots root.is)) (of root.level root.before)
  where
    of : (r : ℕ) → r ≤ above → level_of_slots (Some r) < level
    of zero before = staged
    of (suc stage) before = omega arith

module _ {R M : Type 0} (core : Core R M) (sound : IsSound core) (words : ℕ → ℕ) (stands : Standing) (worded : IsWorded core words stands) where
  first_found : (slot : Option ℕ) (number : ℕ) (pairs : List (ℕ × ℕ)) → AllByRecursion (λ pair. IsFirst core slot pair.0 pair.1) pairs → (w : ℕ) → word_in number pairs ≡ Some w → IsFirst core slot number w
  first_found slot number [] each w e = absurd (none_some w e)
  first_found slot number (pair ∷ pairs) each w e = of (nat_eq pair.0 number) refl (first_found slot number pairs each.1 w) e
    where
      of : (b : Bool) → nat_eq pair.0 number ≡ b → (word_in number pairs ≡ Some w → IsFirst core slot number w) → option_map (λ (pair : ℕ × ℕ). pair.1) (cond b (Some pair) (find (λ (pair : ℕ × ℕ). nat_eq pair.0 number) pairs)) ≡ Some w → IsFirst core slot number w
      of true is more e = subst (λ n. IsFirst core slot n w) (eqb-true pair.0 number is) (subst (λ v. IsFirst core slot pair.0 v) (some_same pair.1 w e) each.0)
      of false is more e = more e

  -- at a level that isn't a slot's, and where it is, of what isn't past the root
  words_moving : (slot : Option ℕ) (level number own : ℕ) → (is_past core number ≡ true → nat_eq level (slot_level core) ≡ false) → HasWord core (words level) number own → HasWord core (moving core words slot level) number own
  words_moving slot level number own apart has = of (is_past core number) refl
    where
      of : (p : Bool) → is_past core number ≡ p → HasWord core (moving core words slot level) number own
      of true is = subst (λ w. HasWord core w number own) (sym (ap (λ b. cond b (unwrap_or slot 0) (words level)) (apart is))) has
      of false is = before_has core (moving core words slot level) number own (record { before = is; none = has.is ∙ ap (λ p. word_below p (words level)) is })

  slots_moving : (slot : Option ℕ) (level number own : ℕ) → (is_past core number ≡ true → nat_eq level (slot_level core) ≡ true) → HasWord core (unwrap_or slot 0) number own → HasWord core (moving core words slot level) number own
  slots_moving slot level number own there has = of (is_past core number) refl
    where
      of : (p : Bool) → is_past core number ≡ p → HasWord core (moving core words slot level) number own
      of true is = subst (λ w. HasWord core w number own) (sym (ap (λ b. cond b (unwrap_or slot 0) (words level)) (there is))) has
      of false is = before_has core (moving core words slot level) number own (record { before = is; none = has.is ∙ ap (λ p. word_below p (unwrap_or slot 0)) is })

  -- what is due at a level, with its word
  pub record IsReady (level : ℕ) (now : Running M) (node : Node) : Type 0 where
    pub at : node.level ≡ level
    pub before : node.above < level
    pub word : HasWord core (moving core words now.slot level) node.number (unwrap_or (waiting core stands level now node.number) 0)

  pub ready : (level : ℕ) (now : Running M) → 0 < level → AllByRecursion (λ pair. IsFirst core now.slot pair.0 pair.1) now.first → (node : Node) → IsGood core sound.root node → is_due core (waiting core stands level now) level node ≡ true → IsReady level now node
  ready level now above first node good is = by (stands level node.number) refl
    where
      both : (nat_eq node.level level ≡ true) × (is_some (waiting core stands level now node.number) ≡ true)
      both = and_parts (nat_eq node.level level) _ is

      at : node.level ≡ level
      at = eqb-true node.level level both.0

      staged : 0 < core.stages
      staged = omega (arith, at, good.within)

      fresh : Option ℕ
      fresh = cond (nat_eq level 1) (word_in node.number now.first) None

      root_above : is_past core node.number ≡ true → RootAbove core node.above
      root_above past = good.past_above (sym good.past_is ∙ past) staged

      waits : (o : Option ℕ) → stands level node.number ≡ o → waiting core stands level now node.number ≡ option_or o fresh
      waits o e = ap (λ o. option_or o fresh) e

      firsts : (w : ℕ) → level ≡ 1 → waiting core stands level now node.number ≡ Some w → IsFirst core now.slot node.number w → IsReady level now node
      firsts w one e f =
          let zero' : node.above ≡ 0 = sym good.above_is ∙ f.above in
          let none : is_past core node.number ≡ true → core.root_level ≡ Some 0 = λ past. let r = root_above past in r.is ∙ ap Some (omega (arith, r.before)) in
          record {
            at = at;
            before = omega arith;
            word = subst (λ v. HasWord core (moving core words now.slot level) node.number v) (sym (ap (λ o. unwrap_or o 0) e))
                (slots_moving now.slot level node.number w (λ past. eq-eqb level (slot_level core) (one ∙ sym (ap level_of_slots (none past)))) (f.word none));
          }

      found : (b : Bool) → nat_eq level 1 ≡ b → (o : Option ℕ) → word_in node.number now.first ≡ o → stands level node.number ≡ None → IsReady level now node
      found true one (Some w) e absent = firsts w (eqb-true level 1 one) (waits None absent ∙ ap (λ b. cond b (word_in node.number now.first) None) one ∙ e) (first_found now.slot node.number now.first first w e)
      found true one None e absent = absurd (both_ways false refl (sym (ap is_some (waits None absent ∙ ap (λ b. cond b (word_in node.number now.first) None) one ∙ e)) ∙ both.1))
      found false other o e absent = absurd (both_ways false refl (sym (ap is_some (waits None absent ∙ ap (λ b. cond b (word_in node.number now.first) None) other)) ∙ both.1))

      by : (o : Option ℕ) → stands level node.number ≡ o → IsReady level now node
      by (Some w) e =
          let l = worded.later level node.number (ap is_some e) in
          record {
            at = at;
            before = omega (arith, good.above_is, l.0);
            word = subst (λ v. HasWord core (moving core words now.slot level) node.number v) (sym (ap (λ o. unwrap_or o 0) (waits (Some w) e)))
                (words_moving now.slot level node.number w (λ past. ne_eqb level (slot_level core) (λ same. let b = slots_before core node.above level (root_above past) (omega (arith, good.above_is, l.0)) l.1 in omega arith)) (worded.word level node.number w e));
          }
      by None e = found (nat_eq level 1) refl (word_in node.number now.first) refl e

  pub ready_at : (level : ℕ) (now : Running M) → 0 < level → AllByRecursion (λ pair. IsFirst core now.slot pair.0 pair.1) now.first → (node : Node) → IsGood core sound.root node → is_due core (waiting core stands level now) level node ≡ true → (node.level ≡ level) × (node.above < level)
  ready_at level now above first node good is = let r = ready level now above first node good is in (r.at, r.before)

  free_kept : (level : ℕ) (now after : Running M) → is_held (core.stalled after.moment) level ≡ is_held (core.stalled now.moment) level → is_flushed (core.flushed after.moment) level ≡ is_flushed (core.flushed now.moment) level → is_free core after level ≡ is_free core now level
  free_kept level now after held flushed = ap₂ (λ h f. not h && not f) held flushed

  first_kept : (level : ℕ) (now after : Running M) (firsts : List (ℕ × ℕ)) → 0 < level → AllByRecursion (IsNewFirst core level) firsts → after.first ≡ firsts ++ now.first → after.first ≡ now.first
  first_kept level now after firsts staged each e = e ∙ ap (λ xs. xs ++ now.first) (firsts_none core sound level firsts staged each)

  of_leaves : (level : ℕ) (past : Bool) (word from to own : ℕ) (number : ℕ) (now after : Running M) → 0 < level → (core.root_level ≡ Some level → ⊥) → 0 < core.stages → is_past core number ≡ past → HasWord core word number own → Leaves core sound.root level past own from to now after → Turned core word level now after
  of_leaves level true word from to own number now after low ne staged is has leaves = record {
    held = leaves.held low;
    flushed = leaves.flushed low;
    first = first_kept level now after leaves.firsts low leaves.each_first leaves.first;
    news = leaves.news;
    made = leaves.made;
    each = leaves.each;
    slot = leaves.words.0;
    worded = subst (λ w. AllByRecursion (λ a. HasWord core w a.occurrence a.word) leaves.news) (has.is ∙ ap (λ p. word_below p word) is) leaves.words.1.0;
  }
  of_leaves level false word from to own number now after low ne staged is has leaves =
      let quiet = leaves.words.quiet (inl (ne, staged)) in
      record {
        held = leaves.held low;
        flushed = leaves.flushed low;
        first = first_kept level now after leaves.firsts low leaves.each_first leaves.first;
        news = leaves.news;
        made = leaves.made;
        each = leaves.each;
        slot = quiet.0;
        worded = each_so _ (λ a. HasWord core word a.occurrence a.word) leaves.news (λ a b. before_has core word a.occurrence a.word b) quiet.1.0;
      }

  turned_both : (word level : ℕ) (a b c : Running M) → Turned core word level a b → Turned core word level b c → Turned core word level a c
  turned_both word level a b c one two = record {
    held = λ l above. two.held l above ∙ one.held l above;
    flushed = λ l above. two.flushed l above ∙ one.flushed l above;
    first = two.first ∙ one.first;
    slot = two.slot ∙ one.slot;
    news = two.news ++ one.news;
    made = two.made ∙ ap (λ xs. two.news ++ xs) one.made ∙ sym (append_assoc two.news one.news a.made);
    each = each_append _ two.news one.news two.each one.each;
    worded = each_append _ two.news one.news two.worded one.worded;
  }

  turned : (level : ℕ) (now : Running M) → (core.root_level ≡ Some level → ⊥) → 0 < level → 0 < core.stages → AllByRecursion (λ pair. IsFirst core now.slot pair.0 pair.1) now.first → IsTurned core sound.root (waiting core stands level now) (is_due core (waiting core stands level now) level) (λ from to before after. Turned core (moving core words now.slot level) level before after)
  turned level now ne above staged first = record {
    same = λ from to m. record { held = λ l h. refl; flushed = λ l h. refl; first = refl; slot = refl; news = []; made = refl; each = tt; worded = tt };
    wider = λ from to from' to' m after low high t. t;
    both = λ from middle to a b c low high one two. turned_both (moving core words now.slot level) level a b c one two;
    node = λ node m is good tree.
        let r = ready level now above first node good is in
        let own = unwrap_or (waiting core stands level now node.number) 0 in
        let after = run_due core (waiting core stands level now) m node in
        of_leaves level node.past (moving core words now.slot level) node.number (suc (node.number + size node.own)) own node.number m after above ne staged good.past_is r.word
        (subst (λ l. Leaves core sound.root l node.past own node.number (suc (node.number + size node.own)) m after) r.at
        (occurrence_tracked core sound.root (Leaves core sound.root) (leaves_tracked core sound) own node m good tree));
  }

  root_turned : (level : ℕ) (now : Running M) → core.root_level ≡ Some level → 0 < level → AllByRecursion (λ pair. IsFirst core now.slot pair.0 pair.1) now.first → IsTurned core sound.root (waiting core stands level now) (is_due core (waiting core stands level now) level) (Leaves core sound.root level false 0)
  root_turned level now e above first =
      let tracked = leaves_tracked core sound in
      record {
        same = λ from to m. tracked.same level false 0 from to m;
        wider = λ from to from' to' m after low high t. tracked.wider level false 0 from to from' to' m after low high t;
        both = λ from middle to a b c low high one two. tracked.both level false 0 from middle to a b c low high one two;
        node = λ node m is good tree.
            let r = ready level now above first node good is in
            let past : node.past ≡ false = false_from_ne_true node.past (λ p.
            let a = good.past_above p (omega (arith, r.at, good.within)) in
            let same = some_same a.level level (sym a.is ∙ e) in omega (arith, a.before, r.before)) in
            let own = unwrap_or (waiting core stands level now node.number) 0 in
            let word : own ≡ 0 = r.word.is ∙ ap (λ p. word_below p (moving core words now.slot level)) (good.past_is ∙ past) in
            let end = suc (node.number + size node.own) in
            let after = run_due core (waiting core stands level now) m node in
            subst (λ l. Leaves core sound.root l false 0 node.number end m after) r.at
            (subst (λ b. Leaves core sound.root node.level b 0 node.number end m after) past
            (subst (λ w. Leaves core sound.root node.level node.past w node.number end m after) word
            (occurrence_tracked core sound.root (Leaves core sound.root) tracked own node m good tree)));
      }

  -- what was recorded in a turn
  new_kept : (level : ℕ) (after : Running M) (word : ℕ) (news : List Activation) → is_free core after level ≡ true → word ≡ moving core words after.slot level → AllByRecursion (IsNew core level) news → AllByRecursion (λ a. HasWord core word a.occurrence a.word) news → AllByRecursion (IsKept core words level after) news
  new_kept level after word [] free e each worded = tt
  new_kept level after word (a ∷ news) free e each worded =
      let new = each.0 in (
        record {
          so_far = omega (arith, new.at);
          staged = omega (arith, new.at, new.staged);
          above = new.above ∙ sym new.at;
          later = omega (arith, new.at, new.later);
          free = subst (λ l. is_free core after l ≡ true) (sym new.at) free;
          word = subst (λ l. HasWord core (moving core words after.slot l) a.occurrence a.word) (sym new.at) (subst (λ w. HasWord core w a.occurrence a.word) e worded.0);
        },
        new_kept level after word news free e each.1 worded.1,
      )

  -- what was recorded before
  old_kept : (level : ℕ) (now after : Running M) → ((l : ℕ) → suc level ≤ l → is_free core after l ≡ is_free core now l) → ((l : ℕ) → suc level ≤ l → moving core words now.slot l ≡ moving core words after.slot l) → (made : List Activation) → AllByRecursion (IsKept core words (suc level) now) made → AllByRecursion (IsKept core words level after) made
  old_kept level now after free slot [] each = tt
  old_kept level now after free slot (a ∷ made) each =
      let k = each.0 in (
        record {
          so_far = omega (arith, k.so_far);
          staged = k.staged;
          above = k.above;
          later = k.later;
          free = free a.level k.so_far ∙ k.free;
          word = subst (λ w. HasWord core w a.occurrence a.word) (slot a.level k.so_far) k.word;
        },
        old_kept level now after free slot made each.1,
      )

  -- the turn of the root's level
  root_far : (stage : ℕ) (now after : Running M) (from to : ℕ) → core.root_level ≡ Some (suc stage) → is_free core now (suc stage) ≡ true → Far core words (suc (suc stage)) now → Leaves core sound.root (suc stage) false 0 from to now after → Far core words (suc stage) after
  root_far stage now after from to e free far t =
      let level = suc stage in
      let at : slot_level core ≡ level = ap level_of_slots e in
      let none = far.none stage e (omega arith) in
      let kept = λ (l : ℕ) (h : level ≤ l). free_kept l now after (t.held (omega arith) l h) (t.flushed (omega arith) l h) in
      let words_here : unwrap_or after.slot 0 ≡ moving core words after.slot level = sym (cond-true (nat_eq level (slot_level core)) (unwrap_or after.slot 0) (words level) (eq-eqb level (slot_level core) (sym at))) in
      record {
        each = subst (λ made. AllByRecursion (IsKept core words level after) made) (sym t.made)
            (each_append _ t.news now.made
            (new_kept level after (unwrap_or after.slot 0) t.news (kept level (omega arith) ∙ free) words_here t.each (t.words.loud none).0)
            (old_kept level now after (λ l h. kept l (omega (arith, h))) (λ l h.
            let apart = ne_eqb l (slot_level core) (λ same. omega (arith, h)) in
            cond-false (nat_eq l (slot_level core)) (unwrap_or now.slot 0) (words l) apart ∙ sym (cond-false (nat_eq l (slot_level core)) (unwrap_or after.slot 0) (words l) apart)) now.made far.each));
        none = λ s is below. let same = some_same (suc s) level (sym is ∙ e) in absurd (omega arith);
        slot = λ word s some is. subst (λ l. is_free core after l ≡ true) (some_same level (suc s) (sym e ∙ is)) (kept level (omega arith) ∙ free);
        first = subst (λ pairs. AllByRecursion (λ pair. IsFirst core after.slot pair.0 pair.1) pairs) (sym (first_kept level now after t.firsts (omega arith) t.each_first t.first))
            (each_so _ (λ pair. IsFirst core after.slot pair.0 pair.1) now.first (λ pair f. record {
              above = f.above;
              word = λ so.
                  let not_past : is_past core pair.0 ≡ false = false_from_ne_true (is_past core pair.0) (λ p. let same = some_same 0 level (sym (so p) ∙ e) in omega arith) in
                  before_has core (unwrap_or after.slot 0) pair.0 pair.1 (record { before = not_past; none = (f.word so).is ∙ ap (λ p. word_below p (unwrap_or now.slot 0)) not_past });
            }) far.first);
      }

  -- the turn of another level
  other_far : (stage : ℕ) (now after : Running M) → (core.root_level ≡ Some (suc stage) → ⊥) → is_free core now (suc stage) ≡ true → Far core words (suc (suc stage)) now → Turned core (moving core words now.slot (suc stage)) (suc stage) now after → Far core words (suc stage) after
  other_far stage now after ne free far t =
      let level = suc stage in
      let kept = λ (l : ℕ) (h : level ≤ l). free_kept l now after (t.held l h) (t.flushed l h) in
      record {
        each = subst (λ made. AllByRecursion (IsKept core words level after) made) (sym t.made)
            (each_append _ t.news now.made
            (new_kept level after (moving core words now.slot level) t.news (kept level (omega arith) ∙ free) (ap (λ s. moving core words s level) (sym t.slot)) t.each t.worded)
            (old_kept level now after (λ l h. kept l (omega (arith, h))) (λ l h. ap (λ s. moving core words s l) (sym t.slot)) now.made far.each));
        none = λ s is below. t.slot ∙ far.none s is (omega arith);
        slot = λ word s some is.
            let some' = sym t.slot ∙ some in
            ⊎_elim
            (λ below. absurd (some_not_none now.slot word (far.none s is (omega arith)) some'))
            (λ high. kept (suc s) high ∙ far.slot word s some' is)
            (cases_lt (suc s) level);
        first = subst (λ pairs. AllByRecursion (λ pair. IsFirst core after.slot pair.0 pair.1) pairs) (sym t.first)
            (subst (λ (s : Option ℕ). AllByRecursion (λ pair. IsFirst core s pair.0 pair.1) now.first) (sym t.slot) far.first);
      }

  at_root : (o : Option ℕ) (level : ℕ) → (o ≡ Some level) ⊎ (o ≡ Some level → ⊥)
  at_root None level = inr (λ e. none_some level e)
  at_root (Some r) level = ⊎_elim (λ e. inl (ap Some e)) (λ ne. inr (λ e. ne (some_same r level e))) (cases_eq r level)

  pub turn_far : (stage : ℕ) (now : Running M) → suc stage ≤ core.stages → Far core words (suc (suc stage)) now → Far core words (suc stage) (turn core stands (suc stage) now)
  turn_far stage now within far =
      let level = suc stage in
      let test = is_due core (waiting core stands level now) level in
      let after = fold (run_due core (waiting core stands level now)) now (filter test (all_nodes core)) in
      let at = ready_at level now (omega arith) far.first in
      cond_both (is_free core now level) after now (Far core words level)
      (λ free.
      ⊎_elim
      (λ e. root_far stage now after 0 (0 + size (whole core)) e free far
      (due_turned core sound.root (waiting core stands level now) level test at (Leaves core sound.root level false 0) (root_turned level now e (omega arith) far.first) 0 false 0 (whole core) now (tree_of core sound)))
      (λ ne. other_far stage now after ne free far
      (due_turned core sound.root (waiting core stands level now) level test at (λ from to before after. Turned core (moving core words now.slot level) level before after) (turned level now ne (omega arith) (omega (arith, within)) far.first) 0 false 0 (whole core) now (tree_of core sound)))
      (at_root core.root_level level))
      (λ busy. record {
        each = each_so _ (IsKept core words level now) now.made (λ a k. record { so_far = omega (arith, k.so_far); staged = k.staged; above = k.above; later = k.later; free = k.free; word = k.word }) far.each;
        none = λ s is below. far.none s is (omega arith);
        slot = far.slot;
        first = far.first;
      })

  turns_far : (level : ℕ) (now : Running M) → level ≤ core.stages → Far core words (suc level) now → Far core words 1 (turns core stands level now)
  turns_far zero now within far = far
  turns_far (suc level) now within far = turns_far level _ (omega arith) (turn_far level now within far)

  pub main_far : (pins : List ℕ) (memory : R) (from : ℕ) → Far core words from (run_occurrence core 0 (main_node core) (start core pins memory))
  main_far pins memory from =
      let begun = start core pins memory in
      let after = run_occurrence core 0 (main_node core) begun in
      let tree = tree_of core sound in
      let l = occurrence_tracked core sound.root (Leaves core sound.root) (leaves_tracked core sound) 0 (main_node core) begun tree.1 tree.4 in
      let empty = λ (s : ℕ) (is : core.root_level ≡ Some (suc s)). (l.words.quiet (inl ((λ e. let same = some_same 0 (suc s) (sym e ∙ is) in omega arith), (sound.root_within (suc s) is).0))).0 in
      record {
        each = subst (λ made. AllByRecursion (IsKept core words from after) made) (sym l.made)
            (each_append _ l.news [] (each_so _ (IsKept core words from after) l.news (λ a new. absurd (omega (arith, new.staged))) l.each) tt);
        none = λ s is below. empty s is;
        slot = λ word s some is. absurd (some_not_none after.slot word (empty s is) some);
        first = subst (λ pairs. AllByRecursion (λ pair. IsFirst core after.slot pair.0 pair.1) pairs) (sym l.first)
            (each_append _ l.firsts []
            (firsts_kept after.slot l.firsts l.each_first (l.words.loud refl).1) tt);
      }
    where
      firsts_kept : (slot : Option ℕ) (firsts : List (ℕ × ℕ)) → AllByRecursion (IsNewFirst core 0) firsts → AllByRecursion (λ pair. HasWord core (unwrap_or slot 0) pair.0 pair.1) firsts → AllByRecursion (λ pair. IsFirst core slot pair.0 pair.1) firsts
      firsts_kept slot [] each has = tt
      firsts_kept slot (pair ∷ firsts) each has = (record { above = each.0.above; word = λ so. has.0 }, firsts_kept slot firsts each.1 has.1)

  pub edge_far : (pins : List ℕ) (memory : R) → Far core words 1 (edge core stands pins memory)
  edge_far pins memory = turns_far core.stages _ (omega arith) (main_far pins memory (suc core.stages))
