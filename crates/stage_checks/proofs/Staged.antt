-- The nodes of the graph run as the operations do, and their latest stages are the greatest numbers that spread to them.
use Rattle.std.proofs.Common.{◌≡◌, ℕ, ◌+◌, ◌-◌, ◌<◌, ◌≤◌, List, [], ◌∷◌, Option, None, Some, Bool, true, false, cond, ◌&&◌, not, nat_eq, nat_lt, length, refl, ap, sym, ◌∙◌, arith, inl, inr, subst, ⊎_elim, ◌↔◌}
use Rattle.std.specs.Option.{option_or, is_some}
use Rattle.std.specs.Global.{Vec}
use Rattle.std.proofs.lemmas.Bool.{cases_Bool, eqb-true, eq-eqb, or_cases, ltb-true, ltb-false, lt-ltb, le-ltb}
use Rattle.lisa_tree.specs.Descriptions.{DescriptionTree}
use Rattle.lisa_tree.specs.Declarations.{choices, plain_at}
use Rattle.lisa_tree.specs.Operations.{number_of, own_stage}
use Rattle.graph_paths.specs.Paths.{is_in, targets, Leads, Reaches, edge, more, AreNodes, saw}
use Rattle.graph_paths.proofs.Search.{saw_below}
use Rattle.stage_checks.specs.Controls.{main_name}
use Rattle.stage_checks.specs.Spreading.{Spreads, source, along, IsGreatest}
use Rattle.stage_checks.specs.Running.{named_choices, RunsIn, begins, goes, IsLatest, AreFree}
use Rattle.stage_checks.specs.Graphs.{nodes_of, IsGraph, AreInner, IsFrom, is_stage, Runs, first, then}
use Rattle.stage_checks.proofs.Nodes.{number_within, plain_within, plain_choice, own_past}

-- ---- any graph

module _ (next : List (Vec ℕ)) (own : ℕ → Option ℕ) (start : ℕ) where
  from_start : (b : ℕ) (s : Option ℕ) → Runs next own start b s → IsFrom next start b
  from_start b s (first same is) = inl same
  from_start b s (then {a = a} r l e) = ⊎_elim
      (λ (same : a ≡ start). inr (edge (subst (λ (k : ℕ). Leads next k b) same l)))
      (λ (way : Reaches next start a). inr (more way l)) (from_start a _ r)

  runs_on : (b : ℕ) → Reaches next start b → (s : Option ℕ) × Runs next own start b s
  runs_on b (edge l) = (_, then (first refl refl) l refl)
  runs_on b (more {b = m} r l) = let before = runs_on m r in (_, then before.1 l refl)

  runs_somehow : (b : ℕ) → IsFrom next start b → (s : Option ℕ) × Runs next own start b s
  runs_somehow b (inl same) = (_, first same refl)
  runs_somehow b (inr way) = runs_on b way

  only_own : (b t : ℕ) (s : Option ℕ) → Runs next own start b s → own b ≡ Some t → s ≡ Some t
  only_own b t s (first same is) e = sym is ∙ e
  only_own b t s (then {s = u} r l is) e = sym is ∙ ap (λ (x : Option ℕ). option_or x u) e

  module _ (inner : List (Vec ℕ)) (inside : AreInner own next inner) where
    is_none : (x : Option ℕ) → not (is_some x) ≡ true → x ≡ None
    is_none None e = refl
    is_none (Some t) e = absurd (cc e)

    outer_edge : (a b : ℕ) → Leads inner a b → Leads next a b
    outer_edge a b l = grind (arith, inside a b)

    inner_none : (a b : ℕ) → Leads inner a b → own b ≡ None
    inner_none a b l = is_none (own b) (grind (arith, inside a b))

    inner_edge : (a b : ℕ) → Leads next a b → own b ≡ None → Leads inner a b
    inner_edge a b l none = let n : is_some (own b) ≡ false = ap is_some none in grind (arith, inside a b)

    -- ---- outside of stages

    inner_free : own start ≡ None → (b : ℕ) → Reaches inner start b → Runs next own start b None
    inner_free none b (edge l) = then (first refl none) (outer_edge start b l) (ap (λ (x : Option ℕ). option_or x None) (inner_none start b l))
    inner_free none b (more {b = m} r l) = then (inner_free none m r) (outer_edge m b l) (ap (λ (x : Option ℕ). option_or x None) (inner_none m b l))

    pub from_free : own start ≡ None → (b : ℕ) → IsFrom inner start b → Runs next own start b None
    from_free none b (inl same) = first same (ap own same ∙ none)
    from_free none b (inr way) = inner_free none b way

    both_none : (x y : Option ℕ) → option_or x y ≡ None → (x ≡ None) × (y ≡ None)
    both_none None y e = (refl, e)
    both_none (Some t) y e = absurd (cc e)

    pub to_free : (b : ℕ) (s : Option ℕ) → Runs next own start b s → s ≡ None → IsFrom inner start b
    to_free b s (first same is) e = inl same
    to_free b s (then {a = a} {s = u} r l is) e =
        let none = both_none (own b) u (is ∙ e) in
        let here : Leads inner a b = inner_edge a b l none.0 in
        ⊎_elim
        (λ (same : a ≡ start). inr (edge (subst (λ (k : ℕ). Leads inner k b) same here)))
        (λ (way : Reaches inner start a). inr (more way here)) (to_free a u r none.1)

    pub none_free : (t : ℕ) → own start ≡ Some t → (b : ℕ) (s : Option ℕ) → Runs next own start b s → s ≡ None → ⊥
    none_free t staged b s (first same is) e = absurd (cc (sym staged ∙ sym (ap own same) ∙ is ∙ e))
    none_free t staged b s (then {a = a} {s = u} r l is) e = none_free t staged a u r (both_none (own b) u (is ∙ e)).1

    -- ---- in stages

    module _ (sources : List (Vec ℕ)) (reached : List Bool) (exact : (b : ℕ) → (saw reached b ≡ true) ↔ IsFrom next start b)
        (rows : (t b : ℕ) → is_in b (targets sources t) ≡ (saw reached b && is_stage t (own b))) where
      staged : (t : ℕ) (x : Option ℕ) → is_stage t x ≡ true → x ≡ Some t
      staged t None e = absurd (cc e)
      staged t (Some s) e = ap Some (sym (eqb-true t s e))

      stage_is : (t : ℕ) (x : Option ℕ) → x ≡ Some t → is_stage t x ≡ true
      stage_is t x e = ap (is_stage t) e ∙ eq-eqb t t refl

      pub to_runs : (b t : ℕ) → Spreads inner sources b t → Runs next own start b (Some t)
      to_runs b t (source l) =
          let on : saw reached b ≡ true = grind (arith, rows t b) in
          let is : own b ≡ Some t = staged t (own b) (grind (arith, rows t b)) in
          let way = runs_somehow b ((exact b).0 on) in
          subst (λ (s : Option ℕ). Runs next own start b s) (only_own b t way.0 way.1 is) way.1
      to_runs b t (along {a = a} r l) = then (to_runs a t r) (outer_edge a b l) (ap (λ (x : Option ℕ). option_or x (Some t)) (inner_none a b l))

      at_source : (b t : ℕ) → IsFrom next start b → own b ≡ Some t → Spreads inner sources b t
      at_source b t way is =
          let on : saw reached b ≡ true = (exact b).1 way in
          let here : is_stage t (own b) ≡ true = stage_is t (own b) is in
          source (grind (arith, rows t b))

      pub to_spreads : (b t : ℕ) (s : Option ℕ) → Runs next own start b s → s ≡ Some t → Spreads inner sources b t
      to_spreads b t s (first same is) e = at_source b t (inl same) (is ∙ e)
      to_spreads b t s (then {a = a} {s = u} r l is) e = at (own b) refl (to_spreads a t u r)
        where
          at : (x : Option ℕ) → own b ≡ x → (u ≡ Some t → Spreads inner sources a t) → Spreads inner sources b t
          at None none before = along (before (sym (ap (λ (y : Option ℕ). option_or y u) none) ∙ is ∙ e)) (inner_edge a b l none)
          at (Some v) some before =
              let same : own b ≡ Some t = some ∙ sym (ap (λ (y : Option ℕ). option_or y u) some) ∙ is ∙ e in
              at_source b t (from_start b s (then r l is)) same

pub source_nodes : (own : ℕ → Option ℕ) (sources : List (Vec ℕ)) (reached : List Bool) → ((t b : ℕ) → is_in b (targets sources t) ≡ (saw reached b && is_stage t (own b)))
    → (t b : ℕ) → Leads sources t b → b < length reached
source_nodes own sources reached rows t b l = saw_below reached b (grind (arith, rows t b))

-- ---- the graph of activations

module _ (d : DescriptionTree) where
  in_nodes : (cs : List ℕ) (c : ℕ) → is_in c cs ≡ true → nat_lt c (length (choices d)) ≡ true → is_in (length d.operations + c) (nodes_of d cs) ≡ true
  in_nodes [] c e h = absurd (cc e)
  in_nodes (k ∷ cs) c e h = ⊎_elim here (λ l. later (nat_lt k (length (choices d))) (in_nodes cs c l h)) (or_cases (nat_eq c k) (is_in c cs) e)
    where
      later : (b : Bool) → is_in (length d.operations + c) (nodes_of d cs) ≡ true → is_in (length d.operations + c) (cond b ((length d.operations + k) ∷ nodes_of d cs) (nodes_of d cs)) ≡ true
      later true l = grind arith
      later false l = l

      here : nat_eq c k ≡ true → is_in (length d.operations + c) (nodes_of d (k ∷ cs)) ≡ true
      here same =
          let is : c ≡ k = eqb-true c k same in
          let on : nat_lt k (length (choices d)) ≡ true = ap (λ (m : ℕ). nat_lt m (length (choices d))) (sym is) ∙ h in
          let self : nat_eq (length d.operations + c) (length d.operations + k) ≡ true = eq-eqb _ _ (ap (λ (m : ℕ). length d.operations + m) is) in
          ap (λ (b : Bool). is_in (length d.operations + c) (cond b ((length d.operations + k) ∷ nodes_of d cs) (nodes_of d cs))) on ∙ grind arith

  -- a node of these choices
  record NodeOf (cs : List ℕ) (b : ℕ) : Type 0 where
    choice : ℕ
    is : b ≡ length d.operations + choice
    named : is_in choice cs ≡ true
    within : choice < length (choices d)

  nodes_in : (cs : List ℕ) (b : ℕ) → is_in b (nodes_of d cs) ≡ true → NodeOf cs b
  nodes_in [] b e = absurd (cc e)
  nodes_in (k ∷ cs) b e = at (nat_lt k (length (choices d))) refl e (nodes_in cs b)
    where
      wider : NodeOf cs b → NodeOf (k ∷ cs) b
      wider n = record { choice = n.choice; is = n.is; named = (let m = n.named in grind arith); within = n.within }

      at : (f : Bool) → nat_lt k (length (choices d)) ≡ f → is_in b (cond f ((length d.operations + k) ∷ nodes_of d cs) (nodes_of d cs)) ≡ true → (is_in b (nodes_of d cs) ≡ true → NodeOf cs b) → NodeOf (k ∷ cs) b
      at false off h rest = wider (rest h)
      at true on h rest = ⊎_elim
          (λ (same : nat_eq b (length d.operations + k) ≡ true). record {
            choice = k;
            is = eqb-true b (length d.operations + k) same;
            named = (let self : nat_eq k k ≡ true = eq-eqb k k refl in grind arith);
            within = ltb-true k (length (choices d)) on;
          })
          (λ l. wider (rest l)) (or_cases (nat_eq b (length d.operations + k)) (is_in b (nodes_of d cs)) h)

  module _ (next : List (Vec ℕ)) (g : IsGraph d next) where
    operation_row : (a : ℕ) → a < length d.operations → targets next a ≡ nodes_of d (named_choices d a)
    operation_row a h = g.rows a ∙ ap (λ (b : Bool). cond b (nodes_of d (named_choices d a)) (plain_at d (a - length d.operations))) (lt-ltb a (length d.operations) h)

    choice_row : (a : ℕ) → length d.operations ≤ a → targets next a ≡ plain_at d (a - length d.operations)
    choice_row a h = g.rows a ∙ ap (λ (b : Bool). cond b (nodes_of d (named_choices d a)) (plain_at d (a - length d.operations))) (le-ltb a (length d.operations) h)

    pub are_nodes : AreNodes next
    are_nodes a b l = ⊎_elim on off (cases_Bool (nat_lt a (length d.operations)))
      where
        on : nat_lt a (length d.operations) ≡ true → b < length next
        on h =
            let n = nodes_in (named_choices d a) b (sym (ap (is_in b) (operation_row a (ltb-true a (length d.operations) h))) ∙ l) in
            omega (arith, n.is, n.within, g.len)

        off : nat_lt a (length d.operations) ≡ false → b < length next
        off h =
            let n = plain_within d (a - length d.operations) b (sym (ap (is_in b) (choice_row a (ltb-false a (length d.operations) h))) ∙ l) in
            omega (arith, n, g.len)

    pub inner_nodes : (inner : List (Vec ℕ)) → AreInner (own_stage d) next inner → length inner ≡ length next → AreNodes inner
    inner_nodes inner inside len a b l = let m = are_nodes a b (grind (arith, inside a b)) in omega (arith, m, len)

    module _ (start : ℕ) (main : number_of d main_name ≡ Some start) where
      pub runs_within : (o : ℕ) (s : Option ℕ) → RunsIn d o s → o < length d.operations
      runs_within o s (begins is stage) = number_within d main_name o is
      runs_within o s (goes r act e) = plain_within d act.choice o act.plain

      pub forward : (o : ℕ) (s : Option ℕ) → RunsIn d o s → Runs next (own_stage d) start o s
      forward o s (begins is stage) = let same : o ≡ start = cc (sym is ∙ main) in first same stage
      forward o t (goes {p = p} {s = s} r act e) =
          let c = act.choice in
          let to_choice : Leads next p (length d.operations + c) =
          ap (is_in (length d.operations + c)) (operation_row p (runs_within p s r)) ∙ in_nodes (named_choices d p) c act.named (plain_choice d c o act.plain) in
          let back : length d.operations + c - length d.operations ≡ c = omega arith in
          let to_operation : Leads next (length d.operations + c) o =
          ap (is_in o) (choice_row (length d.operations + c) (omega arith)) ∙ ap (λ (k : ℕ). is_in o (plain_at d k)) back ∙ act.plain in
          then (then (forward p s r) to_choice (ap (λ (x : Option ℕ). option_or x s) (own_past d (length d.operations + c) (omega arith)))) to_operation e

      -- what runs at a node: an operation, or a choice that an operation names
      data RunsAt (a : ℕ) (s : Option ℕ) : Type 0 where
        operation : a < length d.operations → RunsIn d a s → RunsAt a s
        choice : (c p : ℕ) → a ≡ length d.operations + c → RunsIn d p s → is_in c (named_choices d p) ≡ true → RunsAt a s

      one_on : (a b : ℕ) (s t : Option ℕ) → RunsAt a s → Leads next a b → option_or (own_stage d b) s ≡ t → RunsAt b t
      one_on a b s t (operation h r) l e =
          let n = nodes_in (named_choices d a) b (sym (ap (is_in b) (operation_row a h)) ∙ l) in
          let none : own_stage d b ≡ None = own_past d b (omega (arith, n.is)) in
          let same : s ≡ t = sym (ap (λ (x : Option ℕ). option_or x s) none) ∙ e in
          choice n.choice a n.is (subst (λ (x : Option ℕ). RunsIn d a x) same r) n.named
      one_on a b s t (choice c p is r named) l e =
          let back : a - length d.operations ≡ c = omega arith in
          let plain : is_in b (plain_at d c) ≡ true = sym (ap (λ (k : ℕ). is_in b (plain_at d k)) back) ∙ sym (ap (is_in b) (choice_row a (omega arith))) ∙ l in
          operation (plain_within d c b plain) (goes r (record { choice = c; named = named; plain = plain }) e)

      runs_at : (a : ℕ) (s : Option ℕ) → Runs next (own_stage d) start a s → RunsAt a s
      runs_at a s (first same is) = operation (subst (λ (k : ℕ). k < length d.operations) (sym same) (number_within d main_name start main)) (begins (main ∙ ap Some (sym same)) is)
      runs_at b t (then {a = a} {s = s} r l e) = one_on a b s t (runs_at a s r) l e

      pub back_again : (o : ℕ) (s : Option ℕ) → o < length d.operations → Runs next (own_stage d) start o s → RunsIn d o s
      back_again o s h r = at (runs_at o s r)
        where
          at : RunsAt o s → RunsIn d o s
          at (operation l run) = run
          at (choice c p is run named) = absurd (omega arith)

      module _ (inner : List (Vec ℕ)) (inside : AreInner (own_stage d) next inner) where
        pub are_free : own_stage d start ≡ None → (free : List Bool) → ((b : ℕ) → (saw free b ≡ true) ↔ IsFrom inner start b) → AreFree d (saw free)
        are_free none free exact = λ o h. (
          (λ on. back_again o None h (from_free next (own_stage d) start inner inside none o ((exact o).0 on))),
          (λ r. (exact o).1 (to_free next (own_stage d) start inner inside o None (forward o None r) refl)),
        )

        module _ (sources : List (Vec ℕ)) (reached : List Bool) (exact : (b : ℕ) → (saw reached b ≡ true) ↔ IsFrom next start b)
            (rows : (t b : ℕ) → is_in b (targets sources t) ≡ (saw reached b && is_stage t (own_stage d b))) where
          spreads_in : (o t : ℕ) → RunsIn d o (Some t) → Spreads inner sources o t
          spreads_in o t r = to_spreads next (own_stage d) start inner inside sources reached exact rows o t (Some t) (forward o (Some t) r) refl

          spreads_out : (o t : ℕ) → o < length d.operations → Spreads inner sources o t → RunsIn d o (Some t)
          spreads_out o t h r = back_again o (Some t) h (to_runs next (own_stage d) start inner inside sources reached exact rows o t r)

          pub is_latest : (o : ℕ) (x : Option ℕ) → o < length d.operations → IsGreatest inner sources o x → IsLatest d o x
          is_latest o None h none = λ t r. none t (spreads_in o t r)
          is_latest o (Some t) h greatest = (spreads_out o t h greatest.0, λ u r. greatest.1 u (spreads_in o u r))

  -- ---- without `main` nothing runs

  pub nothing_runs : number_of d main_name ≡ None → (o : ℕ) (s : Option ℕ) → RunsIn d o s → ⊥
  nothing_runs none o s (begins is stage) = absurd (cc (sym none ∙ is))
  nothing_runs none o s (goes {p = p} {s = u} r act e) = nothing_runs none p u r

  -- where `main` has a stage, nothing runs outside of stages
  pub all_staged : (m : ℕ) → number_of d main_name ≡ Some m → is_some (own_stage d m) ≡ true → (o : ℕ) (s : Option ℕ) → RunsIn d o s → s ≡ None → ⊥
  all_staged m main staged o s (begins is stage) e =
      let same : o ≡ m = cc (sym is ∙ main) in
      absurd (cc (sym staged ∙ ap is_some (sym (ap (own_stage d) same) ∙ stage ∙ e)))
  all_staged m main staged o s (goes {p = p} {s = u} r act e) none = all_staged m main staged p u r (second (own_stage d o) u (e ∙ none))
    where
      second : (x y : Option ℕ) → option_or x y ≡ None → y ≡ None
      second None y e = e
      second (Some v) y e = absurd (cc e)
