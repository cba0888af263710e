-- What a sound tree promises of each occurrence, found by its number.
use Rattle.std.proofs.Common.{◌≡◌, ℕ, suc, ◌+◌, ◌<◌, ◌≤◌, Bool, true, false, cond, ◌||◌, ◌⊎◌, List, [], ◌∷◌, ◌++◌, Option, Some, None, refl, sym, ap, ◌∙◌, inl, inr, ⊎_elim, arith, nat_eq}
use Rattle.std.specs.List.{find, AllByRecursion}
use Rattle.std.specs.Option.{option_or, option_map, unwrap_or}
use Rattle.std.proofs.lemmas.Bool.{eq-eqb, ne_eqb, eqb-true, cases_eq, cases_lt, cases_Bool, or_cases, both_ways}
use Rattle.std.proofs.lemmas.List.Folds.{find-append}
use Rattle.pipeline_time.specs.Acts.{Acts, Done, Act, When, Node, nodes, size}
use Rattle.pipeline_time.specs.Cores.{Core, all_nodes, node_of, level_of, above_of, is_past}
use Rattle.pipeline_time.specs.Sound.{NamesEarlier, IsTree, IsSound}
use Rattle.pipeline_time.proofs.Lists.{each_append}

abbrev pub has_number : ℕ → Node → Bool
has_number number node = nat_eq node.number number

-- the root runs in this level, or in an earlier one, or in no stage
pub record RootAbove {R M : Type 0} (core : Core R M) (above : ℕ) : Type 0 where
  pub level : ℕ
  pub is : core.root_level ≡ Some level
  pub before : level ≤ above

pub record IsGood {R M : Type 0} (core : Core R M) (root : ℕ) (node : Node) : Type 0 where
  pub level_is : level_of core node.number ≡ node.level
  pub above_is : above_of core node.number ≡ node.above
  pub past_is : is_past core node.number ≡ node.past
  pub ordered : node.above ≤ node.level
  pub within : node.level ≤ core.stages
  pub stalls : (word : ℕ) (m : M) → NamesEarlier node.level (core.stalled m) (core.stalled (core.behave node.number word m))
  pub flushes : (word : ℕ) (m : M) → NamesEarlier node.level (core.flushed m) (core.flushed (core.behave node.number word m))
  pub root_is : core.is_root node.number ≡ true → 0 < core.stages → core.root_level ≡ Some node.level
  pub chosen : node.past ≡ true → (word : ℕ) → core.chooses node.number word ≡ true → core.decodes word ≡ true
  pub past_above : node.past ≡ true → 0 < core.stages → RootAbove core node.above
  pub past_after : node.past ≡ true → root < node.number

-- a numbered tree of good occurrences, whose activator is the root or past it, or is not
abbrev pub IsGoodTree : {R M : Type 0} → Core R M → ℕ → ℕ → Bool → ℕ → Acts → Type 0
IsGoodTree core root above inside from Done = Unit {0}
IsGoodTree core root above inside from (Act number level past own rest) =
    (number ≡ from)
    × IsGood core root (record { number = number; above = above; level = level; past = past; own = own })
    × (past ≡ true → inside ≡ true)
    × (inside ≡ true → root < number)
    × IsGoodTree core root level (past || core.is_root number) (suc from) own
    × IsGoodTree core root above inside (suc (from + size own)) rest
IsGoodTree core root above inside from (When number test taken other rest) =
    IsGoodTree core root above inside from taken
    × IsGoodTree core root above inside (from + size taken) other
    × IsGoodTree core root above inside (from + (size taken + size other)) rest

find_left : (p : Node → Bool) (xs ys : List Node) (x : Node) → find p xs ≡ Some x → find p (xs ++ ys) ≡ find p xs
find_left p xs ys x e = find-append p xs ys ∙ ap (λ o. option_or o (find p ys)) e ∙ sym e

find_right : (p : Node → Bool) (xs ys : List Node) → find p xs ≡ None → find p (xs ++ ys) ≡ find p ys
find_right p xs ys e = find-append p xs ys ∙ ap (λ o. option_or o (find p ys)) e

not_first : (n : ℕ) (x : Node) (xs : List Node) → (x.number ≡ n → ⊥) → find (has_number n) (x ∷ xs) ≡ find (has_number n) xs
not_first n x xs ne = ap (λ b. cond b (Some x) (find (has_number n) xs)) (ne_eqb x.number n ne)

module _ {R M : Type 0} (core : Core R M) where
  outside : (above : ℕ) (inside : Bool) (from : ℕ) (acts : Acts) (n : ℕ) → IsTree core above inside from acts → (n < from) ⊎ (from + size acts ≤ n) → find (has_number n) (nodes above acts) ≡ None
  outside above inside from Done n tree out = refl
  outside above inside from (Act number level past own rest) n tree out =
      let ne : number ≡ n → ⊥ = λ e. ⊎_elim (λ l. omega (arith, tree.0)) (λ r. omega (arith, tree.0)) out in
      let below = nodes level own in
      not_first n _ (below ++ nodes above rest) ne
      ∙ find_right (has_number n) below (nodes above rest) (outside level _ (suc from) own n tree.2 (⊎_elim (λ l. inl (omega arith)) (λ r. inr (omega arith)) out))
      ∙ outside above inside (suc (from + size own)) rest n tree.3 (⊎_elim (λ l. inl (omega arith)) (λ r. inr (omega arith)) out)
  outside above inside from (When number test taken other rest) n tree out =
      find_right (has_number n) (nodes above taken) (nodes above other ++ nodes above rest) (outside above inside from taken n tree.0 (⊎_elim (λ l. inl (omega arith)) (λ r. inr (omega arith)) out))
      ∙ find_right (has_number n) (nodes above other) (nodes above rest) (outside above inside (from + size taken) other n tree.1 (⊎_elim (λ l. inl (omega arith)) (λ r. inr (omega arith)) out))
      ∙ outside above inside (from + (size taken + size other)) rest n tree.2 (⊎_elim (λ l. inl (omega arith)) (λ r. inr (omega arith)) out)

  pub within : (above : ℕ) (inside : Bool) (from : ℕ) (acts : Acts) (n : ℕ) → IsTree core above inside from acts → from ≤ n → n < from + size acts → (node : Node) × (find (has_number n) (nodes above acts) ≡ Some node)
  within above inside from Done n tree low high = absurd (omega arith)
  within above inside from (Act number level past own rest) n tree low high =
      let head : Node = record { number = number; above = above; level = level; past = past; own = own } in
      let below = nodes level own in
      let later = nodes above rest in
      ⊎_elim
      (λ e. (head, ap (λ b. cond b (Some head) (find (has_number n) (below ++ later))) (eq-eqb number n (tree.0 ∙ sym e))))
      (λ ne.
      let step = not_first n head (below ++ later) (λ e. ne (sym e ∙ tree.0)) in
      ⊎_elim
      (λ l. let i = within level (past || core.is_root number) (suc from) own n tree.2 (omega arith) (omega arith) in
      (i.0, step ∙ find_left (has_number n) below later i.0 i.1 ∙ i.1))
      (λ r. let i = within above inside (suc (from + size own)) rest n tree.3 r (omega arith) in
      (i.0, step ∙ find_right (has_number n) below later (outside level (past || core.is_root number) (suc from) own n tree.2 (inr (omega arith))) ∙ i.1))
      (cases_lt n (suc (from + size own))))
      (cases_eq n from)
  within above inside from (When number test taken other rest) n tree low high =
      let first = nodes above taken in
      let second = nodes above other in
      let later = nodes above rest in
      ⊎_elim
      (λ l. let i = within above inside from taken n tree.0 low l in
      (i.0, find_left (has_number n) first (second ++ later) i.0 i.1 ∙ i.1))
      (λ beyond.
      let step = find_right (has_number n) first (second ++ later) (outside above inside from taken n tree.0 (inr beyond)) in
      ⊎_elim
      (λ l. let i = within above inside (from + size taken) other n tree.1 beyond (omega arith) in
      (i.0, step ∙ find_left (has_number n) second later i.0 i.1 ∙ i.1))
      (λ r. let i = within above inside (from + (size taken + size other)) rest n tree.2 r (omega arith) in
      (i.0, step ∙ find_right (has_number n) second later (outside above inside (from + size taken) other n tree.1 (inr (omega arith))) ∙ i.1))
      (cases_lt n (from + (size taken + size other))))
      (cases_lt n (from + size taken))

  module _ (root : ℕ) (one_root : (number : ℕ) → core.is_root number ≡ true → number ≡ root) where
    -- what holds under the root and past it
    abbrev Under : ℕ → ℕ → Type 0
    Under above from = (0 < core.stages → RootAbove core above) × (root < from)

    later : (above level from from' : ℕ) → above ≤ level → from ≤ from' → Under above from → Under level from'
    later above level from from' up on under =
        (λ staged. let r = under.0 staged in record { level = r.level; is = r.is; before = omega (arith, r.before) }, omega (arith, under.1))

    -- as far as the whole list finds what the items have
    found : (above : ℕ) (inside : Bool) (from : ℕ) (acts : Acts) → IsTree core above inside from acts → (inside ≡ true → Under above from) → ((n : ℕ) → from ≤ n → n < from + size acts → node_of core n ≡ find (has_number n) (nodes above acts)) → IsGoodTree core root above inside from acts
    found above inside from Done tree under same = tt
    found above inside from (Act number level past own rest) tree under same =
        let head : Node = record { number = number; above = above; level = level; past = past; own = own } in
        let below = nodes level own in
        let after = nodes above rest in
        let here : node_of core number ≡ Some head = same number (omega (arith, tree.0)) (omega (arith, tree.0)) ∙ ap (λ b. cond b (Some head) (find (has_number number) (below ++ after))) (eq-eqb number number refl) in
        let o = tree.1 in (
          tree.0,
          record {
            level_is = ap (λ x. unwrap_or (option_map (λ (node : Node). node.level) x) 0) here;
            above_is = ap (λ x. unwrap_or (option_map (λ (node : Node). node.above) x) 0) here;
            past_is = ap (λ x. unwrap_or (option_map (λ (node : Node). node.past) x) false) here;
            ordered = o.ordered;
            within = o.within;
            stalls = o.stalls;
            flushes = o.flushes;
            root_is = o.root;
            chosen = o.chosen;
            past_above = λ is staged. (under (o.past_inside is)).0 staged;
            past_after = λ is. let l = (under (o.past_inside is)).1 in omega (arith, tree.0);
          },
          o.past_inside,
          λ is. let l = (under is).1 in omega (arith, tree.0),
          found level (past || core.is_root number) (suc from) own tree.2
              (λ is. ⊎_elim
              (λ p. later above level from (suc from) o.ordered (omega arith) (under (o.past_inside p)))
              (λ r. (λ staged. record { level = level; is = o.root r staged; before = omega arith }, let e = one_root number r in omega (arith, tree.0)))
              (or_cases past (core.is_root number) is))
              (λ n low high.
              let i = within level (past || core.is_root number) (suc from) own n tree.2 low high in
              same n (omega arith) (omega arith)
              ∙ not_first n head (below ++ after) (λ e. omega (arith, tree.0))
              ∙ find_left (has_number n) below after i.0 i.1),
          found above inside (suc (from + size own)) rest tree.3 (λ is. later above above from (suc (from + size own)) (omega arith) (omega arith) (under is)) (λ n low high.
              same n (omega arith) (omega arith)
              ∙ not_first n head (below ++ after) (λ e. omega (arith, tree.0))
              ∙ find_right (has_number n) below after (outside level (past || core.is_root number) (suc from) own n tree.2 (inr (omega arith)))),
        )
    found above inside from (When number test taken other rest) tree under same =
        let first = nodes above taken in
        let second = nodes above other in
        let after = nodes above rest in (
          found above inside from taken tree.0 under (λ n low high.
              let i = within above inside from taken n tree.0 low high in
              same n low (omega arith) ∙ find_left (has_number n) first (second ++ after) i.0 i.1),
          found above inside (from + size taken) other tree.1 (λ is. later above above from (from + size taken) (omega arith) (omega arith) (under is)) (λ n low high.
              let i = within above inside (from + size taken) other n tree.1 low high in
              same n (omega arith) (omega arith)
              ∙ find_right (has_number n) first (second ++ after) (outside above inside from taken n tree.0 (inr low))
              ∙ find_left (has_number n) second after i.0 i.1),
          found above inside (from + (size taken + size other)) rest tree.2 (λ is. later above above from (from + (size taken + size other)) (omega arith) (omega arith) (under is)) (λ n low high.
              same n (omega arith) (omega arith)
              ∙ find_right (has_number n) first (second ++ after) (outside above inside from taken n tree.0 (inr (omega arith)))
              ∙ find_right (has_number n) second after (outside above inside (from + size taken) other n tree.1 (inr (omega arith)))),
        )

abbrev pub whole : {R M : Type 0} → Core R M → Acts
whole core = Act 0 0 false core.acts Done

module _ {R M : Type 0} (core : Core R M) (sound : IsSound core) where
  pub tree_of : IsGoodTree core sound.root 0 false 0 (whole core)
  tree_of = found core sound.root sound.one_root 0 false 0 (whole core) sound.tree (λ e. absurd (both_ways false refl e)) (λ n low high. refl)

  pub all_good : (above : ℕ) (inside : Bool) (from : ℕ) (acts : Acts) → IsGoodTree core sound.root above inside from acts → AllByRecursion (IsGood core sound.root) (nodes above acts)
  all_good above inside from Done tree = tt
  all_good above inside from (Act number level past own rest) tree =
      (tree.1, each_append (IsGood core sound.root) (nodes level own) (nodes above rest) (all_good level _ _ own tree.4) (all_good above inside _ rest tree.5))
  all_good above inside from (When number test taken other rest) tree =
      each_append (IsGood core sound.root) (nodes above taken) _ (all_good above inside _ taken tree.0)
      (each_append (IsGood core sound.root) (nodes above other) (nodes above rest) (all_good above inside _ other tree.1) (all_good above inside _ rest tree.2))

  -- of every number, found or not
  of_found : (P : Node → Type 0) (p : Node → Bool) (xs : List Node) → AllByRecursion P xs → (find p xs ≡ None) ⊎ ((node : Node) × (find p xs ≡ Some node) × P node)
  of_found P p [] each = inl refl
  of_found P p (x ∷ xs) each =
      ⊎_elim
      (λ is. inr (x, ap (λ b. cond b (Some x) (find p xs)) is, each.0))
      (λ is. ⊎_elim
      (λ none. inl (ap (λ b. cond b (Some x) (find p xs)) is ∙ none))
      (λ some. inr (some.0, ap (λ b. cond b (Some x) (find p xs)) is ∙ some.1, some.2))
      (of_found P p xs each.1))
      (cases_Bool (p x))

  pub good_of : (number : ℕ) → (node_of core number ≡ None) ⊎ ((node : Node) × (node_of core number ≡ Some node) × IsGood core sound.root node)
  good_of number = of_found (IsGood core sound.root) (has_number number) (all_nodes core) (all_good 0 false 0 (whole core) tree_of)

  pub level_within : (number : ℕ) → level_of core number ≤ core.stages
  level_within number =
      ⊎_elim
      (λ none. let e = ap (λ x. unwrap_or (option_map (λ (node : Node). node.level) x) 0) none in omega arith)
      (λ some. let e = ap (λ x. unwrap_or (option_map (λ (node : Node). node.level) x) 0) some.1 in omega (arith, some.2.within))
      (good_of number)

  pub past_later : (number : ℕ) → is_past core number ≡ true → 0 < core.stages → RootAbove core (above_of core number)
  past_later number is staged =
      ⊎_elim
      (λ none. absurd (both_ways false refl (sym (ap (λ x. unwrap_or (option_map (λ (node : Node). node.past) x) false) none) ∙ is)))
      (λ some.
      let e = ap (λ x. unwrap_or (option_map (λ (node : Node). node.above) x) 0) some.1 in
      let r = some.2.past_above (sym (ap (λ x. unwrap_or (option_map (λ (node : Node). node.past) x) false) some.1) ∙ is) staged in
      record { level = r.level; is = r.is; before = omega (arith, r.before) })
      (good_of number)

  none_some : (x : Node) → None ≡ Some x → ⊥
  none_some x e = cc

  passing : (p : Node → Bool) (y x : Node) (o : Option Node) (b : Bool) → p y ≡ b → (o ≡ Some x → p x ≡ true) → cond b (Some y) o ≡ Some x → p x ≡ true
  passing p y x o true is so e = let same : y ≡ x = cc in ap p (sym same) ∙ is
  passing p y x o false is so e = so e

  pub find_passes : (p : Node → Bool) (xs : List Node) (x : Node) → find p xs ≡ Some x → p x ≡ true
  find_passes p [] x e = absurd (none_some x e)
  find_passes p (y ∷ xs) x e = passing p y x (find p xs) (p y) refl (find_passes p xs x) e

  -- a word whose instruction chooses what is past the root is an instruction's
  pub chosen_decodes : (number word : ℕ) → is_past core number ≡ true → core.chooses number word ≡ true → core.decodes word ≡ true
  chosen_decodes number word is chosen =
      ⊎_elim
      (λ none. absurd (both_ways false refl (sym (ap (λ x. unwrap_or (option_map (λ (node : Node). node.past) x) false) none) ∙ is)))
      (λ some.
      let same = eqb-true some.0.number number (find_passes (has_number number) (all_nodes core) some.0 some.1) in
      some.2.chosen (sym (ap (λ x. unwrap_or (option_map (λ (node : Node). node.past) x) false) some.1) ∙ is) word (ap (λ n. core.chooses n word) same ∙ chosen))
      (good_of number)
