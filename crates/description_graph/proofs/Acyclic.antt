-- A circle of nodes has an operation, or one of operations stands beside it.
use Rattle.std.proofs.Common.{◌≡◌, ◌||◌, ◌++◌, ℕ, suc, List, [], ◌∷◌, Option, None, Some, Bool, true, false, cond, nat_eq, refl, ap, sym, ◌∙◌, arith, inl, inr, subst}
use Rattle.std.specs.Prelude.{slice_get}
use Rattle.std.specs.List.{list_any, dedup, dedup_from}
use Rattle.std.specs.Global.{Vec}
use Rattle.std.proofs.lemmas.Bool.{or_cases, eqb-true, and_parts, eq-eqb}
use Rattle.std.proofs.lemmas.List.Folds.{list_any-append}
use Rattle.graph_paths.specs.Paths.{is_in, IsAcyclic}
use Rattle.lisa_tree.specs.Descriptions.{DescriptionTree}
use Rattle.lisa_tree.specs.Operations.{numbers_of, is_alias}
use Rattle.lisa_tree.specs.Declarations.{Entry, Choice, entries, choices, listings, above_in, above, owner_at, declared_at}
use Rattle.lisa_tree.specs.Paths.{Node, Operation, Choosing, Declaring, refers, node_at, leads}
use Rattle.description_graph.specs.Graph.{IsGraph, is_at}
use Rattle.description_graph.specs.Circles.{Reaches, edge, more, IsFirstCircularOperation}
use Rattle.description_graph.proofs.Hits.{found, at_is}
use Rattle.description_graph.proofs.Meant.{next_of}
use Rattle.description_graph.proofs.Outlining.{outline_of}
use Rattle.description_graph.proofs.Steps.{to_nodes}

-- ---- the operations above one lead to it

record Listed (d : DescriptionTree) (o p : ℕ) (cs : List Choice) : Type 0 where
  pub c : ℕ
  pub x : Choice
  pub at : slice_get cs c ≡ Some x
  pub owner : x.operation ≡ p
  pub lists : is_in o (numbers_of d x.alternatives) ≡ true

in_listings : (q o p : ℕ) (xs : List ℕ) → is_in p (listings q o xs) ≡ true → (q ≡ p) × (is_in o xs ≡ true)
in_listings q o p [] e = absurd (cc e)
in_listings q o p (x ∷ xs) e = by (nat_eq x o) refl (λ f. in_listings q o p xs f)
  where
    by : (b : Bool) → nat_eq x o ≡ b → (is_in p (listings q o xs) ≡ true → (q ≡ p) × (is_in o xs ≡ true)) → (q ≡ p) × (is_in o (x ∷ xs) ≡ true)
    by true is rest =
        let here : nat_eq o x ≡ true = eq-eqb o x (sym (eqb-true x o is)) in
        let on : is_in o (x ∷ xs) ≡ true = grind arith in
        let f : (nat_eq p q || is_in p (listings q o xs)) ≡ true = grind arith in
        elim (or_cases (nat_eq p q) (is_in p (listings q o xs)) f) [
          | inl same ↦ (sym (eqb-true p q same), on)
          | inr later ↦ ((rest later).0, on)
        ]
    by false is rest =
        let f : is_in p (listings q o xs) ≡ true = grind arith in
        let r = rest f in
        let g = r.1 in
        (r.0, grind arith)

next_listed : (d : DescriptionTree) (o p : ℕ) (c : Choice) (cs : List Choice) → Listed d o p cs → Listed d o p (c ∷ cs)
next_listed d o p c cs l = record { c = suc l.c; x = l.x; at = l.at; owner = l.owner; lists = l.lists }

listed : (d : DescriptionTree) (o p : ℕ) (cs : List Choice) → is_in p (above_in d o cs) ≡ true → Listed d o p cs
listed d o p [] e = absurd (cc e)
listed d o p (c ∷ cs) e = by (is_alias d c.operation) refl (λ f. next_listed d o p c cs (listed d o p cs f))
  where
    by : (b : Bool) → is_alias d c.operation ≡ b → (is_in p (above_in d o cs) ≡ true → Listed d o p (c ∷ cs)) → Listed d o p (c ∷ cs)
    by true is rest = rest (grind arith)
    by false is rest =
        let own : List ℕ = listings c.operation o (numbers_of d c.alternatives) in
        let f : is_in p (own ++ above_in d o cs) ≡ true = grind arith in
        elim (or_cases (is_in p own) (is_in p (above_in d o cs)) (sym (list_any-append (nat_eq p) own (above_in d o cs)) ∙ f)) [
          | inl here ↦ (let l = in_listings c.operation o p (numbers_of d c.alternatives) here in record { c = 0; x = c; at = refl; owner = l.0; lists = l.1 })
          | inr later ↦ rest later
        ]

once_from : (p k : ℕ) (xs : List ℕ) → is_in p (dedup_from nat_eq k xs) ≡ true → is_in p (k ∷ xs) ≡ true
once_from p k [] e = e
once_from p k (x ∷ xs) e = by (nat_eq x k) (once_from p k xs) (once_from p x xs) e
  where
    by : (b : Bool) → (is_in p (dedup_from nat_eq k xs) ≡ true → is_in p (k ∷ xs) ≡ true) → (is_in p (dedup_from nat_eq x xs) ≡ true → is_in p (x ∷ xs) ≡ true)
        → is_in p (cond b (dedup_from nat_eq k xs) (k ∷ dedup_from nat_eq x xs)) ≡ true → is_in p (k ∷ x ∷ xs) ≡ true
    by true same other e = let f = same e in grind arith
    by false same other e = elim (or_cases (nat_eq p k) (is_in p (dedup_from nat_eq x xs)) e) [
      | inl here ↦ grind arith
      | inr later ↦ (let f = other later in grind arith)
    ]

once : (p : ℕ) (xs : List ℕ) → is_in p (dedup nat_eq xs) ≡ true → is_in p xs ≡ true
once p [] e = e
once p (x ∷ xs) e = once_from p x xs e

above_leads : (d : DescriptionTree) (o p : ℕ) → is_in p (above d o) ≡ true → Reaches d (Operation p) (Operation o)
above_leads d o p e =
    let l = listed d o p (choices d) (once p (above_in d o (choices d)) e) in
    let q : nat_eq l.x.operation p ≡ true = eq-eqb l.x.operation p l.owner in
    more (edge {a = Operation p} {b = Choosing l.c} (owned l.c l.x l.at q)) (lists l.c l.x l.at l.lists)
  where
    owned : (c : ℕ) (x : Choice) → slice_get (choices d) c ≡ Some x → nat_eq x.operation p ≡ true → leads d (Operation p) (Choosing c) ≡ true
    owned c x at q = cc (at, q)

    lists : (c : ℕ) (x : Choice) → slice_get (choices d) c ≡ Some x → is_in o (numbers_of d x.alternatives) ≡ true → leads d (Choosing c) (Operation o) ≡ true
    lists c x at q = cc (at, q)

-- ---- a reference leads to a name of an operation above

any_above : (d : DescriptionTree) (n : List ℕ) (j : ℕ) (ps : List ℕ) → list_any (λ p. is_at (declared_at d p n) j) ps ≡ true → is_in (owner_at d j) ps ≡ true
any_above d n j [] e = absurd (cc e)
any_above d n j (p ∷ ps) e = elim (or_cases (is_at (declared_at d p n) j) (list_any (λ p. is_at (declared_at d p n) j) ps) e) [
  | inl here ↦ (let f = found d p n j (at_is (declared_at d p n) j here) in let t : nat_eq (owner_at d j) p ≡ true = eq-eqb (owner_at d j) p f.owner in grind arith)
  | inr later ↦ (let t = any_above d n j ps later in grind arith)
]

up : (d : DescriptionTree) (i j : ℕ) → leads d (Declaring i) (Declaring j) ≡ true → Reaches d (Operation (owner_at d j)) (Operation (owner_at d i))
up d i j e = by (slice_get (entries d) i) refl
  where
    by : (r : Option Entry) → slice_get (entries d) i ≡ r → Reaches d (Operation (owner_at d j)) (Operation (owner_at d i))
    by None at = absurd (cc (at, e))
    by (Some x) at =
        let t : next_of d (Some x) j ≡ true = sym (ap (λ (r : Option Entry). next_of d r j) at) ∙ e in
        let a = any_above d x.name j (above d x.operation) ((and_parts (refers x.what) (list_any (λ p. is_at (declared_at d p x.name) j) (above d x.operation)) t).1) in
        let o : x.operation ≡ owner_at d i = cc at in
        subst (λ (k : ℕ). Reaches d (Operation (owner_at d j)) (Operation k)) o (above_leads d x.operation (owner_at d j) a)

-- ---- circles

join : (d : DescriptionTree) (x y z : Node) → Reaches d x y → Reaches d y z → Reaches d x z
join d x y z r (edge e) = more r e
join d x y z r (more {b = m} s e) = more (join d x y m r s) e

module _ (d : DescriptionTree) (none : (o : ℕ) → Reaches d (Operation o) (Operation o) → ⊥) where
  -- what a path from a choice has passed
  data After (c : ℕ) : Node → Type 0 where
    to : (o : ℕ) → leads d (Choosing c) (Operation o) ≡ true → After c (Operation o)
    beyond : (o : ℕ) {y : Node} → leads d (Choosing c) (Operation o) ≡ true → Reaches d (Operation o) y → After c y

  to_first : (c : ℕ) (y : Node) → leads d (Choosing c) y ≡ true → After c y
  to_first c (Operation o) e = to o e
  to_first c (Choosing k) e = absurd (cc e)
  to_first c (Declaring i) e = absurd (cc e)

  one_on : (c : ℕ) (x y : Node) → After c x → leads d x y ≡ true → After c y
  one_on c x y (beyond o f s) e = beyond o f (more s e)
  one_on c (Operation a) y (to o f) e = beyond o f (edge e)

  after : (c : ℕ) (y : Node) → Reaches d (Choosing c) y → After c y
  after c y (edge e) = to_first c y e
  after c y (more {b = m} r e) = one_on c m y (after c m r) e

  no_choice : (c : ℕ) (y : Node) → y ≡ Choosing c → After c y → ⊥
  no_choice c y is (beyond o f s) = none o (more (subst (λ (z : Node). Reaches d (Operation o) z) is s) f)
  no_choice c (Operation a) is (to o e) = absurd (cc is)

  -- what a path from a declared name has passed
  data From (i : ℕ) : Node → Type 0 where
    at : (o : ℕ) → Reaches d (Declaring i) (Operation o) → From i (Operation o)
    past : (o : ℕ) {y : Node} → Reaches d (Declaring i) (Operation o) → Reaches d (Operation o) y → From i y
    chosen : (c : ℕ) → Reaches d (Declaring i) (Choosing c) → From i (Choosing c)
    meant : (j : ℕ) → Reaches d (Declaring i) (Declaring j) → Reaches d (Operation (owner_at d j)) (Operation (owner_at d i)) → From i (Declaring j)

  from_first : (i : ℕ) (y : Node) → leads d (Declaring i) y ≡ true → From i y
  from_first i (Operation o) e = absurd (cc e)
  from_first i (Choosing c) e = chosen c (edge e)
  from_first i (Declaring j) e = meant j (edge e) (up d i j e)

  from_choice : (i c : ℕ) (y : Node) → Reaches d (Declaring i) (Choosing c) → leads d (Choosing c) y ≡ true → From i y
  from_choice i c (Operation b) r e = at b (more r e)
  from_choice i c (Choosing b) r e = absurd (cc e)
  from_choice i c (Declaring b) r e = absurd (cc e)

  from_entry : (i j : ℕ) (y : Node) → Reaches d (Declaring i) (Declaring j) → Reaches d (Operation (owner_at d j)) (Operation (owner_at d i)) → leads d (Declaring j) y ≡ true → From i y
  from_entry i j (Operation b) r s e = absurd (cc e)
  from_entry i j (Choosing b) r s e = chosen b (more r e)
  from_entry i j (Declaring b) r s e = meant b (more r e) (join d (Operation (owner_at d b)) (Operation (owner_at d j)) (Operation (owner_at d i)) (up d j b e) s)

  onward : (i : ℕ) (x y : Node) → From i x → leads d x y ≡ true → From i y
  onward i x y (past o r s) e = past o r (more s e)
  onward i (Operation a) y (at o r) e = past o r (edge e)
  onward i (Choosing a) y (chosen c r) e = from_choice i c y r e
  onward i (Declaring a) y (meant j r s) e = from_entry i j y r s e

  from : (i : ℕ) (y : Node) → Reaches d (Declaring i) y → From i y
  from i y (edge e) = from_first i y e
  from i y (more {b = m} r e) = onward i m y (from i m r) e

  no_entry : (i : ℕ) (y : Node) → y ≡ Declaring i → From i y → ⊥
  no_entry i y is (past o r s) = none o (join d (Operation o) (Declaring i) (Operation o) (subst (λ (z : Node). Reaches d (Operation o) z) is s) r)
  no_entry i (Operation a) is (at o r) = absurd (cc is)
  no_entry i (Choosing a) is (chosen c r) = absurd (cc is)
  no_entry i (Declaring a) is (meant j r s) =
      let same : j ≡ i = cc is in
      none (owner_at d i) (subst (λ (k : ℕ). Reaches d (Operation (owner_at d k)) (Operation (owner_at d i))) same s)

  pub no_circle : (x : Node) → Reaches d x x → ⊥
  no_circle (Operation o) r = none o r
  no_circle (Choosing c) r = no_choice c (Choosing c) refl (after c (Choosing c) r)
  no_circle (Declaring i) r = no_entry i (Declaring i) refl (from i (Declaring i) r)

pub acyclic : (d : DescriptionTree) (next : List (Vec ℕ)) → IsGraph d next → IsFirstCircularOperation d None → IsAcyclic next
acyclic d next graph none = λ a r. no_circle d none (node_at d a) (to_nodes d next (outline_of d next graph) a a r)
