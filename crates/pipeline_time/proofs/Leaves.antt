-- What a run at a level leaves.
use Rattle.std.proofs.Common.{◌≡◌, ℕ, zero, suc, ◌<◌, ◌≤◌, Bool, true, false, cond, ◌&&◌, ◌||◌, ◌⊎◌, List, [], ◌∷◌, ◌++◌, Option, None, Some, refl, sym, ap, ap₂, ◌∙◌, subst, inl, inr, ⊎_elim, arith, append_assoc, nat_eq, nat_le}
use Rattle.std.specs.Option.{unwrap_or}
use Rattle.std.specs.List.{AllByRecursion}
use Rattle.std.proofs.lemmas.Bool.{ne_eqb, lt-leb, cases_lt, both_ways, false_from_ne_true}
use Rattle.std.proofs.lemmas.List.Folds.{list_any-append, list_any_none}
use Rattle.pipeline_time.specs.Acts.{Node}
use Rattle.pipeline_time.specs.Cores.{Core, level_of, above_of, is_past}
use Rattle.pipeline_time.specs.Running.{Activation, Running, word_below, own_word, behavior, activate}
use Rattle.pipeline_time.specs.Edges.{is_held, is_flushed}
use Rattle.pipeline_time.specs.Sound.{NamesEarlier, IsSound}
use Rattle.pipeline_time.proofs.Lists.{each_append, each_so}
use Rattle.pipeline_time.proofs.Tree.{IsGood, chosen_decodes}
use Rattle.pipeline_time.proofs.Induct.{IsTracked}

-- what was recorded at a level
pub record IsNew {R M : Type 0} (core : Core R M) (here : ℕ) (a : Activation) : Type 0 where
  pub at : a.level ≡ here
  pub staged : 0 < here
  pub above : above_of core a.occurrence ≡ here
  pub later : here < level_of core a.occurrence

-- what was activated from no stage
pub record IsNewFirst {R M : Type 0} (core : Core R M) (here : ℕ) (pair : ℕ × ℕ) : Type 0 where
  pub at : here ≡ 0
  pub above : above_of core pair.0 ≡ 0

-- past the root the word is this one and chooses the occurrence, and else it is 0
pub record HasWord {R M : Type 0} (core : Core R M) (word number own : ℕ) : Type 0 where
  pub is : own ≡ word_below (is_past core number) word
  pub chosen : is_past core number ≡ true → core.chooses number own ≡ true

pub record IsBefore {R M : Type 0} (core : Core R M) (number own : ℕ) : Type 0 where
  pub before : is_past core number ≡ false
  pub none : own ≡ 0

-- of all that was recorded, and of all that was activated from no stage
abbrev pub Each : (ℕ → ℕ → Type 0) → List Activation → List (ℕ × ℕ) → Type 0
Each P news firsts = AllByRecursion (λ a. P a.occurrence a.word) news × AllByRecursion (λ pair. P pair.0 pair.1) firsts

pub each_both : (P : ℕ → ℕ → Type 0) (xs ys : List Activation) (ps qs : List (ℕ × ℕ)) → Each P xs ps → Each P ys qs → Each P (xs ++ ys) (ps ++ qs)
each_both P xs ys ps qs one two = (each_append _ xs ys one.0 two.0, each_append _ ps qs one.1 two.1)

pub each_as : (P Q : ℕ → ℕ → Type 0) (xs : List Activation) (ps : List (ℕ × ℕ)) → ((number own : ℕ) → P number own → Q number own) → Each P xs ps → Each Q xs ps
each_as P Q xs ps so each = (each_so _ _ xs (λ a h. so a.occurrence a.word h) each.0, each_so _ _ ps (λ pair h. so pair.0 pair.1 h) each.1)

-- the root doesn't run here
abbrev pub IsAway : {R M : Type 0} → Core R M → ℕ → ℕ → ℕ → ℕ → Type 0
IsAway core root here from to = ((core.root_level ≡ Some here → ⊥) × (0 < core.stages)) ⊎ ((root < from) ⊎ (to ≤ root))

-- before the root: where it doesn't run all is before it, and where it does it takes its word at most once
pub record WordsBefore {R M : Type 0} (core : Core R M) (root here from to : ℕ) (now after : Running M) (news : List Activation) (firsts : List (ℕ × ℕ)) : Type 0 where
  pub quiet : IsAway core root here from to → (after.slot ≡ now.slot) × Each (IsBefore core) news firsts
  pub loud : now.slot ≡ None → Each (HasWord core (unwrap_or after.slot 0)) news firsts

abbrev pub WordsKept : {R M : Type 0} → Core R M → ℕ → ℕ → Bool → ℕ → ℕ → ℕ → Running M → Running M → List Activation → List (ℕ × ℕ) → Type 0
WordsKept core root here true word from to now after news firsts = (after.slot ≡ now.slot) × Each (HasWord core word) news firsts
WordsKept core root here false word from to now after news firsts = WordsBefore core root here from to now after news firsts

pub record Leaves {R M : Type 0} (core : Core R M) (root here : ℕ) (inside : Bool) (word from to : ℕ) (now after : Running M) : Type 0 where
  pub held : 0 < here → (level : ℕ) → here ≤ level → is_held (core.stalled after.moment) level ≡ is_held (core.stalled now.moment) level
  pub flushed : 0 < here → (level : ℕ) → here ≤ level → is_flushed (core.flushed after.moment) level ≡ is_flushed (core.flushed now.moment) level
  pub news : List Activation
  pub made : after.made ≡ news ++ now.made
  pub each : AllByRecursion (IsNew core here) news
  pub firsts : List (ℕ × ℕ)
  pub first : after.first ≡ firsts ++ now.first
  pub each_first : AllByRecursion (IsNewFirst core here) firsts
  pub words : WordsKept core root here inside word from to now after news firsts

module _ {R M : Type 0} (core : Core R M) where
  pub before_has : (word number own : ℕ) → IsBefore core number own → HasWord core word number own
  before_has word number own b = record {
    is = b.none ∙ sym (ap (λ p. word_below p word) b.before);
    chosen = λ past. absurd (both_ways (is_past core number) b.before past);
  }

  module _ (root : ℕ) where
    words_same : (here : ℕ) (inside : Bool) (word from to : ℕ) (now after : Running M) → after.slot ≡ now.slot → WordsKept core root here inside word from to now after [] []
    words_same here true word from to now after same = (same, (tt, tt))
    words_same here false word from to now after same = record { quiet = λ away. (same, (tt, tt)); loud = λ none. (tt, tt) }

    words_wider : (here : ℕ) (inside : Bool) (word from to from' to' : ℕ) (now after : Running M) (news : List Activation) (firsts : List (ℕ × ℕ)) → from' ≤ from → to ≤ to' → WordsKept core root here inside word from to now after news firsts → WordsKept core root here inside word from' to' now after news firsts
    words_wider here true word from to from' to' now after news firsts low high words = words
    words_wider here false word from to from' to' now after news firsts low high words = record {
      quiet = λ away. words.quiet (⊎_elim inl (λ r. inr (⊎_elim (λ l. inl (omega arith)) (λ h. inr (omega arith)) r)) away);
      loud = words.loud;
    }

    words_both : (here : ℕ) (inside : Bool) (word from middle to : ℕ) (a b c : Running M) (xs ys : List Activation) (ps qs : List (ℕ × ℕ)) → from ≤ middle → middle ≤ to → WordsKept core root here inside word from middle a b xs ps → WordsKept core root here inside word middle to b c ys qs → WordsKept core root here inside word from to a c (ys ++ xs) (qs ++ ps)
    words_both here true word from middle to a b c xs ys ps qs low high one two = (two.0 ∙ one.0, each_both _ ys xs qs ps two.1 one.1)
    words_both here false word from middle to a b c xs ys ps qs low high one two = record {
      quiet = λ away.
          let q1 = one.quiet (⊎_elim inl (λ r. inr (⊎_elim inl (λ h. inr (omega arith)) r)) away) in
          let q2 = two.quiet (⊎_elim inl (λ r. inr (⊎_elim (λ l. inl (omega arith)) inr r)) away) in
          (q2.0 ∙ q1.0, each_both _ ys xs qs ps q2.1 q1.1);
      loud = λ none.
          let W : ℕ → ℕ → Type 0 = HasWord core (unwrap_or c.slot 0) in
          ⊎_elim
          (λ before.
          let q2 = two.quiet (inr (inl before)) in
          each_both W ys xs qs ps
          (each_as (IsBefore core) W ys qs (before_has (unwrap_or c.slot 0)) q2.1)
          (subst (λ (slot : Option ℕ). Each (HasWord core (unwrap_or slot 0)) xs ps) (sym q2.0) (one.loud none)))
          (λ after.
          let q1 = one.quiet (inr (inr after)) in
          each_both W ys xs qs ps (two.loud (q1.0 ∙ none)) (each_as (IsBefore core) W xs ps (before_has (unwrap_or c.slot 0)) q1.1))
          (cases_lt root middle);
    }

    leaves_both : (here : ℕ) (inside : Bool) (word from middle to : ℕ) (a b c : Running M) → from ≤ middle → middle ≤ to → Leaves core root here inside word from middle a b → Leaves core root here inside word middle to b c → Leaves core root here inside word from to a c
    leaves_both here inside word from middle to a b c low high one two = record {
      held = λ staged level above. two.held staged level above ∙ one.held staged level above;
      flushed = λ staged level above. two.flushed staged level above ∙ one.flushed staged level above;
      news = two.news ++ one.news;
      made = two.made ∙ ap (λ xs. two.news ++ xs) one.made ∙ sym (append_assoc two.news one.news a.made);
      each = each_append _ two.news one.news two.each one.each;
      firsts = two.firsts ++ one.firsts;
      first = two.first ∙ ap (λ xs. two.firsts ++ xs) one.first ∙ sym (append_assoc two.firsts one.firsts a.first);
      each_first = each_append _ two.firsts one.firsts two.each_first one.each_first;
      words = words_both here inside word from middle to a b c one.news two.news one.firsts two.firsts low high one.words two.words;
    }

    -- an occurrence that isn't the root leaves the slot
    slot_same : (number word : ℕ) (now : Running M) → core.is_root number ≡ false → (behavior core number word now).slot ≡ now.slot
    unfolding behavior
    slot_same number word now other = ap (λ b. cond (b && core.decodes word) (Some word) now.slot) other

    slot_taken : (number word : ℕ) (now : Running M) (d : Bool) → core.is_root number ≡ true → core.decodes word ≡ d → (behavior core number word now).slot ≡ cond d (Some word) now.slot
    unfolding behavior
    slot_taken number word now d is decodes = ap₂ (λ b d. cond (b && d) (Some word) now.slot) is decodes

    other_word : (number : ℕ) (past : Bool) (word : ℕ) (now : Running M) → core.is_root number ≡ false → own_word core number past word now ≡ word_below past word
    other_word number past word now other = ap (λ b. cond b (core.fetch now.moment) (word_below past word)) other

module _ {R M : Type 0} (core : Core R M) (sound : IsSound core) where
  abbrev root : ℕ
  root = sound.root

  -- where the word isn't an instruction's all is before the root
  undecoded : (word number own : ℕ) → core.decodes word ≡ false → HasWord core word number own → HasWord core 0 number own
  undecoded word number own none has = of (is_past core number) refl
    where
      of : (p : Bool) → is_past core number ≡ p → HasWord core 0 number own
      of true is =
          let same : own ≡ word = has.is ∙ ap (λ p. word_below p word) is in
          absurd (both_ways (core.decodes word) none (chosen_decodes core sound number word is (ap (core.chooses number) (sym same) ∙ has.chosen is)))
      of false is = before_has core 0 number own (record { before = is; none = has.is ∙ ap (λ p. word_below p word) is })

  -- the words of the root
  root_words : (node : Node) (to : ℕ) (now after : Running M) (news : List Activation) (firsts : List (ℕ × ℕ)) (word : ℕ) → core.is_root node.number ≡ true → IsGood core root node → node.number < to → WordsKept core root node.level true word (suc node.number) to (behavior core node.number word now) after news firsts → WordsBefore core root node.level node.number to now after news firsts
  root_words node to now after news firsts word is good within words =
      let number : node.number ≡ root = sound.one_root node.number is in
      record {
        quiet = λ away. absurd (⊎_elim (λ l. l.0 (good.root_is is l.1)) (λ r. ⊎_elim (λ l. omega arith) (λ h. omega arith) r) away);
        loud = λ none. by (core.decodes word) refl none;
      }
    where
      by : (d : Bool) → core.decodes word ≡ d → now.slot ≡ None → Each (HasWord core (unwrap_or after.slot 0)) news firsts
      by true decodes none =
          let slot : after.slot ≡ Some word = words.0 ∙ slot_taken core root node.number word now true is decodes in
          subst (λ (s : Option ℕ). Each (HasWord core (unwrap_or s 0)) news firsts) (sym slot) words.1
      by false decodes none =
          let slot : after.slot ≡ None = words.0 ∙ slot_taken core root node.number word now false is decodes ∙ none in
          subst (λ (s : Option ℕ). Each (HasWord core (unwrap_or s 0)) news firsts) (sym slot)
          (each_as (HasWord core word) (HasWord core 0) news firsts (λ number own has. undecoded word number own decodes has) words.1)

  -- the words of an occurrence from those of what it runs
  node_words : (node : Node) (inside past : Bool) (word to : ℕ) (now after : Running M) (news : List Activation) (firsts : List (ℕ × ℕ)) → node.past ≡ past → (node.past ≡ true → inside ≡ true) → (inside ≡ true → root < node.number) → IsGood core root node → node.number < to → WordsKept core root node.level (past || core.is_root node.number) (own_word core node.number past word now) (suc node.number) to (behavior core node.number (own_word core node.number past word now) now) after news firsts → WordsKept core root node.level inside word node.number to now after news firsts
  node_words node true true word to now after news firsts is under beyond good within words =
      let other : core.is_root node.number ≡ false = false_from_ne_true _ (λ r. let e = sound.one_root node.number r in let l = beyond refl in omega arith) in
      let same = slot_same core root node.number (own_word core node.number true word now) now other in
      let w = other_word core root node.number true word now other in
      (words.0 ∙ same, subst (λ v. Each (HasWord core v) news firsts) w words.1)
  node_words node true false word to now after news firsts is under beyond good within words =
      let other : core.is_root node.number ≡ false = false_from_ne_true _ (λ r. let e = sound.one_root node.number r in let l = beyond refl in omega arith) in
      let same = slot_same core root node.number (own_word core node.number false word now) now other in
      let inner : WordsBefore core root node.level (suc node.number) to (behavior core node.number (own_word core node.number false word now) now) after news firsts = subst (λ b. WordsKept core root node.level b (own_word core node.number false word now) (suc node.number) to (behavior core node.number (own_word core node.number false word now) now) after news firsts) other words in
      let q = inner.quiet (inr (inl (let l = beyond refl in omega arith))) in
      (q.0 ∙ same, each_as (IsBefore core) (HasWord core word) news firsts (before_has core word) q.1)
  node_words node false true word to now after news firsts is under beyond good within words = absurd (both_ways false refl (under is))
  node_words node false false word to now after news firsts is under beyond good within words = by (core.is_root node.number) refl words
    where
      by : (b : Bool) → core.is_root node.number ≡ b → WordsKept core root node.level b (own_word core node.number false word now) (suc node.number) to (behavior core node.number (own_word core node.number false word now) now) after news firsts → WordsBefore core root node.level node.number to now after news firsts
      by true is words = root_words node to now after news firsts (own_word core node.number false word now) is good within words
      by false other words =
          let same = slot_same core root node.number (own_word core node.number false word now) now other in
          record {
            quiet = λ away.
                let q = words.quiet (⊎_elim inl (λ r. inr (⊎_elim (λ l. inl (omega arith)) inr r)) away) in
                (q.0 ∙ same, q.1);
            loud = λ none. words.loud (same ∙ none);
          }

  adds_held : (level : ℕ) (before after : List ℕ) → NamesEarlier level before after → 0 < level → (l : ℕ) → level ≤ l → is_held after l ≡ is_held before l
  adds_held level before after adds staged l above =
      ap (λ xs. is_held xs l) adds.is_added
      ∙ list_any-append (λ stall. nat_le l stall) adds.more before
      ∙ ap (λ b. b || is_held before l)
      (list_any_none _ adds.more (λ k d within. lt-leb _ _ (omega (arith, adds.are_earlier staged k d within))))

  adds_flushed : (level : ℕ) (before after : List ℕ) → NamesEarlier level before after → 0 < level → (l : ℕ) → level ≤ l → is_flushed after l ≡ is_flushed before l
  adds_flushed level before after adds staged l above =
      ap (λ xs. is_flushed xs l) adds.is_added
      ∙ list_any-append (λ flush. nat_eq flush l) adds.more before
      ∙ ap (λ b. b || is_flushed before l)
      (list_any_none _ adds.more (λ k d within. ne_eqb _ _ (λ e. omega (arith, adds.are_earlier staged k d within))))

  node_leaves : (node : Node) (inside : Bool) (word to : ℕ) (now after : Running M) → IsGood core root node → (node.past ≡ true → inside ≡ true) → (inside ≡ true → root < node.number) → node.number < to → Leaves core root node.level (node.past || core.is_root node.number) (own_word core node.number node.past word now) (suc node.number) to (behavior core node.number (own_word core node.number node.past word now) now) after → Leaves core root node.level inside word node.number to now after
  unfolding behavior
  node_leaves node inside word to now after good under beyond within inner =
      let w = own_word core node.number node.past word now in
      record {
        held = λ staged level above. inner.held staged level above ∙ adds_held node.level _ _ (good.stalls w now.moment) staged level above;
        flushed = λ staged level above. inner.flushed staged level above ∙ adds_flushed node.level _ _ (good.flushes w now.moment) staged level above;
        news = inner.news;
        made = inner.made;
        each = inner.each;
        firsts = inner.firsts;
        first = inner.first;
        each_first = inner.each_first;
        words = node_words node inside node.past word to now after inner.news inner.firsts refl under beyond good within inner.words;
      }

  activated_words : (node : Node) (inside : Bool) (word : ℕ) (now after : Running M) (news : List Activation) (firsts : List (ℕ × ℕ)) → (node.past ≡ true → inside ≡ true) → IsGood core root node → after.slot ≡ now.slot → ((P : ℕ → ℕ → Type 0) → P node.number (word_below node.past word) → Each P news firsts) → core.chooses node.number word ≡ true → WordsKept core root node.above inside word node.number (suc node.number) now after news firsts
  activated_words node true word now after news firsts under good slot each chosen = (
    slot,
    each (HasWord core word) (record {
      is = ap (λ p. word_below p word) (sym good.past_is);
      chosen = λ past. ap (core.chooses node.number) (ap (λ p. word_below p word) (sym good.past_is ∙ past)) ∙ chosen;
    }),
  )
  activated_words node false word now after news firsts under good slot each chosen =
      let not_past : node.past ≡ false = false_from_ne_true node.past (λ p. both_ways false refl (under p)) in
      let before : IsBefore core node.number (word_below node.past word) = record { before = good.past_is ∙ not_past; none = ap (λ p. word_below p word) not_past } in
      record {
        quiet = λ away. (slot, each (IsBefore core) before);
        loud = λ none. each (HasWord core (unwrap_or after.slot 0)) (before_has core (unwrap_or after.slot 0) node.number _ before);
      }

  activated_at : (above : ℕ) (node : Node) (inside : Bool) (word : ℕ) (now : Running M) → node.above ≡ above → IsGood core root node → (node.past ≡ true → inside ≡ true) → node.above < node.level → core.chooses node.number word ≡ true → Leaves core root node.above inside word node.number (suc node.number) now (activate core above node.number (word_below node.past word) now)
  unfolding activate
  activated_at zero node inside word now is good under later chosen = record {
    held = λ staged level above. refl;
    flushed = λ staged level above. refl;
    news = [];
    made = refl;
    each = tt;
    firsts = (node.number, word_below node.past word) ∷ [];
    first = refl;
    each_first = (record { at = is; above = good.above_is ∙ is }, tt);
    words = activated_words node inside word now _ [] ((node.number, word_below node.past word) ∷ []) under good refl (λ P p. (tt, (p, tt))) chosen;
  }
  activated_at (suc stage) node inside word now is good under later chosen = record {
    held = λ staged level above. refl;
    flushed = λ staged level above. refl;
    news = record { occurrence = node.number; level = suc stage; word = word_below node.past word } ∷ [];
    made = refl;
    each = (record { at = sym is; staged = omega (arith, is); above = good.above_is; later = omega (arith, good.level_is) }, tt);
    firsts = [];
    first = refl;
    each_first = tt;
    words = activated_words node inside word now _ (record { occurrence = node.number; level = suc stage; word = word_below node.past word } ∷ []) [] under good refl (λ P p. ((p, tt), tt)) chosen;
  }

  pub leaves_tracked : IsTracked core root (Leaves core root)
  leaves_tracked = record {
    same = λ here inside word from to now. record {
      held = λ staged level above. refl;
      flushed = λ staged level above. refl;
      news = [];
      made = refl;
      each = tt;
      firsts = [];
      first = refl;
      each_first = tt;
      words = words_same core root here inside word from to now now refl;
    };
    wider = λ here inside word from to from' to' now after low high leaves. record {
      held = leaves.held;
      flushed = leaves.flushed;
      news = leaves.news;
      made = leaves.made;
      each = leaves.each;
      firsts = leaves.firsts;
      first = leaves.first;
      each_first = leaves.each_first;
      words = words_wider core root here inside word from to from' to' now after leaves.news leaves.firsts low high leaves.words;
    };
    both = leaves_both core root;
    node = node_leaves;
    activated = λ node inside word now good under later chosen. activated_at node.above node inside word now refl good under later chosen;
  }

  -- behind the first level nothing is activated from no stage
  pub firsts_none : (here : ℕ) (firsts : List (ℕ × ℕ)) → 0 < here → AllByRecursion (IsNewFirst core here) firsts → firsts ≡ []
  firsts_none here [] staged each = refl
  firsts_none here (pair ∷ firsts) staged each = absurd (omega (arith, each.0.at))
