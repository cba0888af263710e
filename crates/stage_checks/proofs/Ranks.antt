-- Spreading keeps `Spreading`, and ends with the greatest numbers.
use Rattle.std.proofs.Common.{◌≡◌, ℕ, ◌+◌, ◌≤◌, List, [], ◌∷◌, ◌++◌, Option, None, Some, Bool, true, false, ◌||◌, ◌&&◌, not, nat_eq, length, refl, ap, sym, ◌∙◌, arith, ◌⊎◌, inl, inr, subst, replicate}
use Rattle.std.specs.Option.{is_some}
use Rattle.std.specs.Global.{Vec}
use Rattle.std.proofs.Math.ListN.{length-replicate}
use Rattle.std.proofs.lemmas.Bool.{cases_Bool, eqb-true, or_cases, cases_eq}
use Rattle.graph_paths.specs.Paths.{is_in, targets, Leads}
use Rattle.graph_paths.proofs.Seen.{in-push}
use Rattle.graph_paths.proofs.Long.{within}
use Rattle.stage_checks.specs.Spreading.{Spreads, source, along, IsGreatest, entry, given, AtLeast, Spreading, AreSourced}
use Rattle.stage_checks.proofs.Tables.{nothing_yet}

keeps : (x : Option ℕ) (b : Bool) (rank t : ℕ) → AtLeast t x → AtLeast t (given x b rank)
keeps None b rank t h = absurd h
keeps (Some u) b rank t h = h

keeps_equal : (x : Option ℕ) (b : Bool) (rank t : ℕ) → x ≡ Some t → given x b rank ≡ Some t
keeps_equal None b rank t e = absurd (cc e)
keeps_equal (Some u) b rank t e = e

is_given : (x : Option ℕ) (b : Bool) (rank : ℕ) → b ≡ true → ((u : ℕ) → x ≡ Some u → rank ≤ u) → AtLeast rank (given x b rank)
is_given None true rank e high = omega arith
is_given None false rank e high = absurd (cc e)
is_given (Some u) b rank e high = high u refl

-- where an entry came from
data Came (x : Option ℕ) (b : Bool) (rank t : ℕ) : Type 0 where
  before : x ≡ Some t → Came x b rank t
  now : x ≡ None → b ≡ true → rank ≡ t → Came x b rank t

came : (x : Option ℕ) (b : Bool) (rank t : ℕ) → given x b rank ≡ Some t → Came x b rank t
came None true rank t e = now refl refl (cc e)
came None false rank t e = absurd (cc e)
came (Some u) b rank t e = before e

at_least_entry : (x : Option ℕ) (t u : ℕ) → x ≡ Some u → AtLeast t x → t ≤ u
at_least_entry x t u e h = subst (λ (y : Option ℕ). AtLeast t y) e h

module _ (next sources : List (Vec ℕ)) where
  -- The nodes get a number. Each node to go on from is still one, or it leads to these alone.
  pub marked : (rank : ℕ) (table table' : List (Option ℕ)) (work front work' nodes : List ℕ) → Spreading next sources rank table work
      → ((b : ℕ) → is_in b nodes ≡ true → Spreads next sources b rank)
      → ((b : ℕ) → is_in b front ≡ true → is_in b work ≡ true)
      → ((b c : ℕ) → is_in b work ≡ true → is_in b front ≡ false → Leads next b c → is_in c nodes ≡ true)
      → length table' ≡ length table
      → ((b : ℕ) → entry table' b ≡ given (entry table b) (is_in b nodes) rank)
      → ((b : ℕ) → is_in b work' ≡ (is_in b front || (is_in b nodes && not (is_some (entry table b)))))
      → Spreading next sources rank table' work'
  marked rank table table' work front work' nodes g each inner covered len s w = record {
    len = len ∙ g.len;
    sound = λ b t e. elim (came (entry table b) (is_in b nodes) rank t (sym (s b) ∙ e)) [
      | before old ↦ g.sound b t old
      | now none here same ↦ subst (λ (k : ℕ). Spreads next sources b k) same (each b here)
    ];
    high = λ b t e. elim (came (entry table b) (is_in b nodes) rank t (sym (s b) ∙ e)) [
      | before old ↦ g.high b t old
      | now none here same ↦ omega arith
    ];
    works = λ b h. elim (or_cases (is_in b front) (is_in b nodes && not (is_some (entry table b))) (sym (w b) ∙ h)) [
      | inl old ↦ s b ∙ keeps_equal (entry table b) (is_in b nodes) rank rank (g.works b (inner b old))
      | inr new ↦ s b ∙ fresh (entry table b) (is_in b nodes) new
    ];
    closed = λ b c t e out l. elim (came (entry table b) (is_in b nodes) rank t (sym (s b) ∙ e)) [
      | before old ↦ after b c t old out l (cases_Bool (is_in b work))
      | now none here same ↦ absurd (lost b none here out)
    ];
  }
    where
      fresh : (x : Option ℕ) (b : Bool) → (b && not (is_some x)) ≡ true → given x b rank ≡ Some rank
      fresh None true e = refl
      fresh None false e = absurd (cc e)
      fresh (Some u) true e = absurd (cc e)
      fresh (Some u) false e = absurd (cc e)

      lost : (b : ℕ) → entry table b ≡ None → is_in b nodes ≡ true → is_in b work' ≡ false → ⊥
      lost b none here out = let n : is_some (entry table b) ≡ false = ap is_some none in absurd (grind (arith, w b))

      after : (b c t : ℕ) → entry table b ≡ Some t → is_in b work' ≡ false → Leads next b c → (is_in b work ≡ true) ⊎ (is_in b work ≡ false) → AtLeast t (entry table' c)
      after b c t old out l (inl on) =
          let not_front : is_in b front ≡ false = grind (arith, w b) in
          let e : Some rank ≡ Some t = sym (g.works b on) ∙ old in
          let same : rank ≡ t = cc e in
          subst (λ (k : ℕ). AtLeast k (entry table' c)) same
          (subst (λ (y : Option ℕ). AtLeast rank y) (sym (s c)) (is_given (entry table c) (is_in c nodes) rank (covered b c on not_front l) (g.high c)))
      after b c t old out l (inr off) =
          subst (λ (y : Option ℕ). AtLeast t y) (sym (s c)) (keeps (entry table c) (is_in c nodes) rank t (g.closed b c t old off l))

  pub still_sourced : (rank k : ℕ) (table table' : List (Option ℕ)) (nodes : List ℕ)
      → ((b : ℕ) → entry table' b ≡ given (entry table b) (is_in b nodes) rank) → AreSourced sources k table → AreSourced sources k table'
  still_sourced rank k table table' nodes s sourced = λ b t h l. subst (λ (y : Option ℕ). AtLeast t y) (sym (s b)) (keeps (entry table b) (is_in b nodes) rank t (sourced b t h l))

  -- the sources of a number get it
  pub sources_marked : (rank : ℕ) (table table' : List (Option ℕ))
      → ((b : ℕ) → entry table' b ≡ given (entry table b) (is_in b (targets sources rank)) rank)
      → ((b t : ℕ) → entry table b ≡ Some t → rank ≤ t) → AreSourced sources (rank + 1) table → AreSourced sources rank table'
  sources_marked rank table table' s high sourced = λ b t h l. elim (cases_eq t rank) [
    | inl same ↦ subst (λ (k : ℕ). AtLeast k (entry table' b)) (sym same)
        (subst (λ (y : Option ℕ). AtLeast rank y) (sym (s b)) (is_given (entry table b) (is_in b (targets sources rank)) rank (subst (λ (k : ℕ). Leads sources k b) same l) (high b)))
    | inr other ↦ subst (λ (y : Option ℕ). AtLeast t y) (sym (s b)) (keeps (entry table b) (is_in b (targets sources rank)) rank t (sourced b t (omega arith) l))
  ]

  pub lower : (rank : ℕ) (table : List (Option ℕ)) → Spreading next sources (rank + 1) table [] → Spreading next sources rank table []
  lower rank table g = record {
    len = g.len;
    sound = g.sound;
    high = λ b t e. let h = g.high b t e in omega (arith, h);
    works = λ b h. absurd (cc h);
    closed = g.closed;
  }

  -- nothing came yet
  pub begins : (rank : ℕ) (table : List (Option ℕ)) → table ≡ replicate (length next) None → Spreading next sources rank table []
  begins rank table e = record {
    len = ap length e ∙ length-replicate (length next) None;
    sound = λ b t f. absurd (cc (sym (nothing_yet table (length next) b e) ∙ f));
    high = λ b t f. absurd (cc (sym (nothing_yet table (length next) b e) ∙ f));
    works = λ b h. absurd (cc h);
    closed = λ b c t f o l. absurd (cc (sym (nothing_yet table (length next) b e) ∙ f));
  }

  pub none_sourced : (table : List (Option ℕ)) → AreSourced sources (length sources) table
  none_sourced table = λ b t h l. let in_range = within sources t b l in absurd (omega (arith, in_range))

  complete : (table : List (Option ℕ)) → Spreading next sources 0 table [] → AreSourced sources 0 table → (b t : ℕ) → Spreads next sources b t → AtLeast t (entry table b)
  complete table g sourced b t (source l) = sourced b t (omega arith) l
  complete table g sourced b t (along {a = a} r l) = from (entry table a) refl (complete table g sourced a t r)
    where
      later : (x : Option ℕ) (u : ℕ) → t ≤ u → AtLeast u x → AtLeast t x
      later None u h k = absurd k
      later (Some v) u h k = omega arith

      from : (x : Option ℕ) → entry table a ≡ x → AtLeast t x → AtLeast t (entry table b)
      from None e h = absurd h
      from (Some u) e h = later (entry table b) u h (g.closed a b u e refl l)

  pub ends : (table : List (Option ℕ)) → Spreading next sources 0 table [] → AreSourced sources 0 table → (b : ℕ) → IsGreatest next sources b (entry table b)
  ends table g sourced b = at (entry table b) refl
    where
      at : (x : Option ℕ) → entry table b ≡ x → IsGreatest next sources b x
      at None e = λ t r. subst (λ (y : Option ℕ). AtLeast t y) e (complete table g sourced b t r)
      at (Some t) e = (g.sound b t e, λ u r. subst (λ (y : Option ℕ). AtLeast u y) e (complete table g sourced b u r))

pub in_front : (b : ℕ) (work front : List ℕ) (node : ℕ) → work ≡ front ++ node ∷ [] → is_in b front ≡ true → is_in b work ≡ true
in_front b work front node split on = grind (arith, ap (is_in b) split, in-push b front node)

pub is_last : (b : ℕ) (work front : List ℕ) (node : ℕ) → work ≡ front ++ node ∷ [] → is_in b work ≡ true → is_in b front ≡ false → b ≡ node
is_last b work front node split on off = let same : nat_eq b node ≡ true = grind (arith, ap (is_in b) split, in-push b front node) in eqb-true b node same
