-- References have the same facts by some of what they directly mean as by all of it.
use Rattle.std.proofs.Common.{◌≡◌, ◌↔◌, ◌<◌, ◌≤◌, ◌+◌, ◌-◌, ◌&&◌, ℕ, Bool, true, false, List, [], ◌∷◌, Option, None, Some, cond, nat_lt, length, refl, ap, sym, ◌∙◌, arith, subst}
use Rattle.std.specs.Prelude.{slice_get}
use Rattle.std.specs.Option.{is_none}
use Rattle.std.specs.Global.{Vec}
use Rattle.std.proofs.lemmas.Bool.{le-ltb, ltb-false}
use Rattle.std.proofs.lemmas.Option.{same_Some}
use Rattle.lisa_tree.specs.Descriptions.{DescriptionTree}
use Rattle.lisa_tree.specs.declared.declared.What.{What}
use Rattle.lisa_tree.specs.declared.declared.What.TheVariants as whats
use Rattle.lisa_tree.specs.Declarations.{Entry, entries, choices, declared_at, what_at, is_reference, owner_at, entry_name_at, above}
use Rattle.lisa_tree.specs.Paths.{Node, Operation, Choosing, Declaring, node_at, entry_node}
use Rattle.graph_paths.specs.Paths.{targets, is_in, saw, Leads, Reaches, edge, more}
use Rattle.least_fixed_points.specs.Settles.{Settles, settled}
use Rattle.meant_declarations.specs.Meanings.{direct_meanings, AreSources}
use Rattle.meant_declarations.specs.Lacking.{any_lacks, lacks}
use Rattle.meant_declarations.proofs.Direct.{directly, means_directly}
use Rattle.meant_declarations.proofs.Differ.{one_of, of_one}
use Rattle.description_types.specs.Facts.{Fact, merged, at_entry, declared_value, reference_value, entry_value, node_value, follows}
use Rattle.description_types.specs.Ends.{past}
use Rattle.description_types.specs.Sourced.{source_value, sourced_value, sourced_entry, sourced_node, follows_sources, IsJoin}
use Rattle.description_types.proofs.Joining.{below_then, one_value, Below, Together, are_together, has_together}

-- a path, from its first edge on
data Forward (rows : List (Vec ℕ)) : ℕ → ℕ → Type 0 where
  last : {i j : ℕ} → Leads rows i j → Forward rows i j
  next : {i k j : ℕ} → Leads rows i k → Forward rows k j → Forward rows i j

extended : {rows : List (Vec ℕ)} {i k j : ℕ} → Forward rows i k → Leads rows k j → Forward rows i j
extended (last l) e = next l (last e)
extended (next l p) e = next l (extended p e)

forward : {rows : List (Vec ℕ)} {i j : ℕ} → Reaches rows i j → Forward rows i j
forward (edge l) = last l
forward (more r l) = extended (forward r) l

none_is : {T : Type 0} (r : Option T) → is_none r ≡ true → r ≡ None
none_is None e = refl
none_is (Some x) e = absurd (cc e)

marked_off : {T : Type 0} (b : Bool) (x : Option T) (t : T) → cond b None x ≡ Some t → (b ≡ false) × (x ≡ Some t)
marked_off true x t e = absurd (cc e)
marked_off false x t e = (refl, e)

module _ {T : Type 0} (d : DescriptionTree) (fact : Fact T) (join : IsJoin fact.either) (rows : List (Vec ℕ)) (sources : AreSources d rows) (lacking : List Bool) (marks : (i : ℕ) → saw lacking i ≡ lacks d i) where
  abbrev f : T → T → T
  f = fact.either

  abbrev One : ℕ → T → Type 0
  One a t = Settles (follows d fact) a t

  abbrev Other : ℕ → T → Type 0
  Other a t = Settles (follows_sources d rows lacking fact) a t

  entry_at : (i : ℕ) → node_at d (entry_node d i) ≡ Declaring i
  entry_at i =
      let operations : nat_lt (entry_node d i) (length d.operations) ≡ false = past (entry_node d i) (length d.operations) (omega arith) in
      let chosen : nat_lt (entry_node d i - length d.operations) (length (choices d)) ≡ false = past (entry_node d i - length d.operations) (length (choices d)) (omega arith) in
      let number : entry_node d i - length d.operations - length (choices d) ≡ i = omega arith in
      ap (λ (b : Bool). cond b (Operation (entry_node d i)) (cond (nat_lt (entry_node d i - length d.operations) (length (choices d))) (Choosing (entry_node d i - length d.operations)) (Declaring (entry_node d i - length d.operations - length (choices d))))) operations
      ∙ ap (λ (b : Bool). cond b (Choosing (entry_node d i - length d.operations)) (Declaring (entry_node d i - length d.operations - length (choices d)))) chosen
      ∙ ap (λ (n : ℕ). Declaring n) number

  -- ---- one reference

  module _ (i : ℕ) (e : Entry) (at : slice_get (entries d) i ≡ Some e) (what : e.what ≡ whats.Reference) where
    what_is : what_at d i ≡ Some whats.Reference
    what_is =
        let own : what_at d i ≡ Some e.what = rw at refl in
        own ∙ ap (λ (w : What). Some w) what

    full_is : (known : ℕ → Option T) → entry_value d fact known i (what_at d i) ≡ merged f (declared_value d known e.name) (above d e.operation)
    full_is known =
        let own : reference_value d f known (owner_at d i) (entry_name_at d i) ≡ merged f (declared_value d known e.name) (above d e.operation) = rw at refl in
        ap (entry_value d fact known i) what_is ∙ own

    sourced_is : (known : ℕ → Option T) → sourced_entry d rows lacking fact known i (what_at d i) ≡ sourced_value d rows lacking f known i
    sourced_is known = ap (sourced_entry d rows lacking fact known i) what_is

    lacks_is : lacks d i ≡ any_lacks d e.name (above d e.operation)
    lacks_is =
        let own : lacks d i ≡ (is_reference (Some e.what) && any_lacks d e.name (above d e.operation)) = rw at refl in
        own ∙ ap (λ (w : What). is_reference (Some w) && any_lacks d e.name (above d e.operation)) what

    -- an operation above declares a direct meaning
    record Upper (k : ℕ) : Type 0 where
      pub operation : ℕ
      pub listed : is_in operation (above d e.operation) ≡ true
      pub declared : declared_at d operation e.name ≡ Some k

    upper : (k : ℕ) → is_in k (direct_meanings d i) ≡ true → Upper k
    upper k h =
        let m = directly d i k h in
        let same : m.e ≡ e = same_Some m.e e (sym m.is ∙ at) in
        record {
          operation = m.by.operation;
          listed = subst (λ (x : Entry). is_in m.by.operation (above d x.operation) ≡ true) same m.by.listed;
          declared = subst (λ (x : Entry). declared_at d m.by.operation x.name ≡ Some k) same m.by.declared;
        }

    direct : (p k : ℕ) → is_in p (above d e.operation) ≡ true → declared_at d p e.name ≡ Some k → is_in k (direct_meanings d i) ≡ true
    direct p k h g = means_directly d i p k e at what h g

    value_at : (known : ℕ → Option T) (p k : ℕ) → declared_at d p e.name ≡ Some k → declared_value d known e.name p ≡ known (entry_node d k)
    value_at known p k g = ap (at_entry d known) g

    -- where a value is known of what an operation declares, it declares something
    declares_some : (known : ℕ → Option T) (p : ℕ) (u : T) → declared_value d known e.name p ≡ Some u → (k : ℕ) × (declared_at d p e.name ≡ Some k)
    declares_some known p u g = by (declared_at d p e.name) refl
      where
        by : (r : Option ℕ) → declared_at d p e.name ≡ r → (k : ℕ) × (declared_at d p e.name ≡ Some k)
        by None is = absurd (cc (sym (ap (at_entry d known) is) ∙ g))
        by (Some k) is = (k, is)

    declares_each : saw lacking i ≡ false → (p : ℕ) → is_in p (above d e.operation) ≡ true → (k : ℕ) × (declared_at d p e.name ≡ Some k)
    declares_each off p h = by (declared_at d p e.name) refl
      where
        by : (r : Option ℕ) → declared_at d p e.name ≡ r → (k : ℕ) × (declared_at d p e.name ≡ Some k)
        by None is =
            let on : any_lacks d e.name (above d e.operation) ≡ true = of_one (λ q. is_none (declared_at d q e.name)) p (above d e.operation) h (ap is_none is) in
            absurd (cc (sym off ∙ marks i ∙ lacks_is ∙ on))
        by (Some k) is = (k, is)

    unmarked : (known : ℕ → Option T) (t : T) → Together f join (declared_value d known e.name) (above d e.operation) t → saw lacking i ≡ false
    unmarked known t together = by (any_lacks d e.name (above d e.operation)) refl
      where
        by : (b : Bool) → any_lacks d e.name (above d e.operation) ≡ b → saw lacking i ≡ false
        by false off = marks i ∙ lacks_is ∙ off
        by true on =
            let o = one_of (λ q. is_none (declared_at d q e.name)) (above d e.operation) on in
            let v = together.each o.number o.listed in
            let none : declared_at d o.number e.name ≡ None = none_is (declared_at d o.number e.name) o.holds in
            absurd (cc (sym (ap (at_entry d known) none) ∙ v.is))

  -- ---- what settles by some settles by all

  record Low (P : ℕ → T → Type 0) (t : T) (y : ℕ) : Type 0 where
    pub value : T
    pub settles : P (entry_node d y) value
    pub below : f value t ≡ t

  record ToOne (a : ℕ) (t : T) : Type 0 where
    pub one : One a t
    pub low : (i : ℕ) → node_at d a ≡ Declaring i → (y : ℕ) → Forward rows i y → Low One t y

  abbrev row_value : (ℕ → Option T) → ℕ → Option T
  row_value known k = known (entry_node d k)

  record Rowed (known : ℕ → Option T) (i : ℕ) (t : T) : Type 0 where
    pub off : saw lacking i ≡ false
    pub together : Together f join (row_value known) (targets rows i) t

  rowed : (known : ℕ → Option T) (a : ℕ) (t : T) → follows_sources d rows lacking fact known a ≡ Some t → (i : ℕ) → node_at d a ≡ Declaring i → (e : Entry) → slice_get (entries d) i ≡ Some e → e.what ≡ whats.Reference → Rowed known i t
  rowed known a t g i node e at what =
      let own : sourced_value d rows lacking f known i ≡ Some t = sym (sourced_is i e at what known) ∙ sym (ap (sourced_node d rows lacking fact known) node) ∙ g in
      let two = marked_off (saw lacking i) (source_value d f known (targets rows i)) t own in
      record { off = two.0; together = are_together f join (row_value known) (targets rows i) t two.1 }

  module _ (known : ℕ → Option T) (sub : (b : ℕ) (u : T) → known b ≡ Some u → ToOne b u) where
    one_low : (a : ℕ) (t : T) → follows_sources d rows lacking fact known a ≡ Some t → (i : ℕ) → node_at d a ≡ Declaring i → (y : ℕ) → Forward rows i y → Low One t y
    one_low a t g i node y (last l) =
        let m = directly d i y (sources.direct i y l) in
        let b = (rowed known a t g i node m.e m.is m.what).together.each y l in
        record { value = b.it; settles = (sub (entry_node d y) b.it b.is).one; below = b.below }
    one_low a t g i node y (next {k = k} l p) =
        let m = directly d i k (sources.direct i k l) in
        let b = (rowed known a t g i node m.e m.is m.what).together.each k l in
        let s = (sub (entry_node d k) b.it b.is).low k (entry_at k) y p in
        record { value = s.value; settles = s.settles; below = below_then f join s.value b.it t s.below b.below }

    module _ (a : ℕ) (t : T) (g : follows_sources d rows lacking fact known a ≡ Some t) (i : ℕ) (node : node_at d a ≡ Declaring i) (e : Entry) (at : slice_get (entries d) i ≡ Some e) (what : e.what ≡ whats.Reference) where
      row : Rowed known i t
      row = rowed known a t g i node e at what

      -- a table of all that is directly meant
      pick_direct : (j : ℕ) (b : Bool) → is_in j (direct_meanings d i) ≡ b → Option T
      pick_direct j true h = let s = one_low a t g i node j (forward (sources.reached i j h)) in Some s.value
      pick_direct j false h = None

      pick_row : (j : ℕ) (b : Bool) → is_in j (targets rows i) ≡ b → Option T
      pick_row j true h = known (entry_node d j)
      pick_row j false h = pick_direct j (is_in j (direct_meanings d i)) refl

      picked : ℕ → Option T
      picked j = pick_row j (is_in j (targets rows i)) refl

      abbrev base : ℕ
      base = length d.operations + length (choices d)

      table : ℕ → Option T
      table b = cond (nat_lt b base) None (picked (b - base))

      direct_settles : (j : ℕ) (b : Bool) (h : is_in j (direct_meanings d i) ≡ b) (u : T) → pick_direct j b h ≡ Some u → One (entry_node d j) u
      unfolding pick_direct
      direct_settles j true h u k =
          let s = one_low a t g i node j (forward (sources.reached i j h)) in
          subst (λ (x : T). One (entry_node d j) x) (same_Some s.value u k) s.settles
      direct_settles j false h u k = absurd (cc k)

      row_settles : (j : ℕ) (b : Bool) (h : is_in j (targets rows i) ≡ b) (u : T) → pick_row j b h ≡ Some u → One (entry_node d j) u
      unfolding pick_row
      row_settles j true h u k = (sub (entry_node d j) u k).one
      row_settles j false h u k = direct_settles j (is_in j (direct_meanings d i)) refl u k

      table_by : (b : ℕ) (u : T) (c : Bool) → nat_lt b base ≡ c → cond c None (picked (b - base)) ≡ Some u → One b u
      unfolding picked
      table_by b u true is k = absurd (cc k)
      table_by b u false is k =
          let l : base ≤ b = ltb-false b base is in
          let same : entry_node d (b - base) ≡ b = omega (arith, l) in
          subst (λ (x : ℕ). One x u) same (row_settles (b - base) (is_in (b - base) (targets rows i)) refl u k)

      table_settles : (b : ℕ) (u : T) → table b ≡ Some u → One b u
      unfolding table
      table_settles b u k = table_by b u (nat_lt b base) refl k

      at_table : (j : ℕ) → table (entry_node d j) ≡ picked j
      unfolding table
      at_table j =
          let off : nat_lt (entry_node d j) base ≡ false = le-ltb (entry_node d j) base (omega arith) in
          let number : entry_node d j - base ≡ j = omega arith in
          ap (λ (c : Bool). cond c None (picked (entry_node d j - base))) off ∙ ap picked number

      row_picks : (j : ℕ) (b : Bool) (h : is_in j (targets rows i) ≡ b) → b ≡ true → pick_row j b h ≡ known (entry_node d j)
      unfolding pick_row
      row_picks j true h on = refl
      row_picks j false h on = absurd (cc on)

      direct_picks : (j : ℕ) (b : Bool) (h : is_in j (direct_meanings d i) ≡ b) → b ≡ true → Below f join (pick_direct j b h) t
      unfolding pick_direct
      direct_picks j true h on = let s = one_low a t g i node j (forward (sources.reached i j h)) in record { it = s.value; is = refl; below = s.below }
      direct_picks j false h on = absurd (cc on)

      any_picks : (j : ℕ) (b : Bool) (h : is_in j (targets rows i) ≡ b) → is_in j (direct_meanings d i) ≡ true → Below f join (pick_row j b h) t
      unfolding pick_row
      any_picks j true h on = row.together.each j h
      any_picks j false h on = direct_picks j (is_in j (direct_meanings d i)) refl on

      picks : (j : ℕ) → is_in j (direct_meanings d i) ≡ true → Below f join (table (entry_node d j)) t
      unfolding picked
      picks j on = let b = any_picks j (is_in j (targets rows i)) refl on in record { it = b.it; is = at_table j ∙ b.is; below = b.below }

      all_picks : (p : ℕ) → is_in p (above d e.operation) ≡ true → Below f join (declared_value d table e.name p) t
      all_picks p h =
          let k = declares_each i e at what row.off p h in
          let b = picks k.0 (direct i e at what p k.0 h k.1) in
          record { it = b.it; is = value_at i e at what table p k.0 k.1 ∙ b.is; below = b.below }

      one_reference : One a t
      unfolding picked
      one_reference =
          let first = upper i e at what row.together.number (sources.direct i row.together.number row.together.listed) in
          let has = has_together f join (declared_value d table e.name) (above d e.operation) first.operation first.listed (λ p h. (let b = all_picks p h in (b.it, b.is))) in
          let whole = are_together f join (declared_value d table e.name) (above d e.operation) has.0 has.1 in
          let down : f has.0 t ≡ t = whole.least t (λ p u h k. (let b = all_picks p h in subst (λ (x : T). f x t ≡ t) (same_Some b.it u (sym b.is ∙ k)) b.below)) in
          let up : f t has.0 ≡ has.0 = row.together.least has.0 (λ k u h v.
          (let x = upper i e at what k (sources.direct i k h) in
          let b = whole.each x.operation x.listed in
          let is : declared_value d table e.name x.operation ≡ Some u = value_at i e at what table x.operation k x.declared ∙ at_table k ∙ row_picks k (is_in k (targets rows i)) refl h ∙ v in
          subst (λ (y : T). f y has.0 ≡ has.0) (same_Some b.it u (sym b.is ∙ is)) b.below)) in
          let same : has.0 ≡ t = one_value f join has.0 t down up in
          settled table table_settles (ap (node_value d fact table) node ∙ full_is i e at what table ∙ has.1 ∙ ap (λ (x : T). Some x) same)

    one_by : (a : ℕ) (t : T) → follows_sources d rows lacking fact known a ≡ Some t → (x : Node) → node_at d a ≡ x → sourced_node d rows lacking fact known x ≡ Some t → One a t
    one_by a t g (Operation o) node e = settled known (λ b u k. (sub b u k).one) (ap (node_value d fact known) node ∙ e)
    one_by a t g (Choosing c) node e = settled known (λ b u k. (sub b u k).one) (ap (node_value d fact known) node ∙ e)
    one_by a t g (Declaring i) node e = by (what_at d i) refl e
      where
        plain : (r : Option What) → what_at d i ≡ r → entry_value d fact known i r ≡ Some t → One a t
        plain r is k = settled known (λ b u k. (sub b u k).one) (ap (node_value d fact known) node ∙ ap (entry_value d fact known i) is ∙ k)

        by_entry : (r : Option Entry) → slice_get (entries d) i ≡ r → what_at d i ≡ Some whats.Reference → One a t
        by_entry None at is = (let none : what_at d i ≡ None = rw at refl in absurd (cc (sym none ∙ is)))
        by_entry (Some x) at is = (let own : what_at d i ≡ Some x.what = rw at refl in one_reference a t g i node x at (same_Some x.what whats.Reference (sym own ∙ is)))

        by : (r : Option What) → what_at d i ≡ r → sourced_entry d rows lacking fact known i r ≡ Some t → One a t
        by None is k = absurd (cc k)
        by (Some (whats.Group c)) is k = plain (Some (whats.Group c)) is k
        by (Some (whats.Instance c)) is k = plain (Some (whats.Instance c)) is k
        by (Some whats.Label) is k = plain (Some whats.Label) is k
        by (Some whats.Reference) is k = by_entry (slice_get (entries d) i) refl is

  to_one : (a : ℕ) (t : T) → Other a t → ToOne a t
  to_one a t (settled known each g) = record {
    one = one_by known (λ b u k. to_one b u (each b u k)) a t g (node_at d a) refl g;
    low = one_low known (λ b u k. to_one b u (each b u k)) a t g;
  }

  -- ---- what settles by all settles by some

  record ToOther (a : ℕ) (t : T) : Type 0 where
    pub other : Other a t
    pub low : (i : ℕ) → node_at d a ≡ Declaring i → (y : ℕ) → Forward rows i y → Low Other t y

  all_together : (known : ℕ → Option T) (a : ℕ) (t : T) → follows d fact known a ≡ Some t → (i : ℕ) → node_at d a ≡ Declaring i → (e : Entry) → slice_get (entries d) i ≡ Some e → e.what ≡ whats.Reference
      → Together f join (declared_value d known e.name) (above d e.operation) t
  all_together known a t g i node e at what = are_together f join (declared_value d known e.name) (above d e.operation) t (sym (full_is i e at what known) ∙ sym (ap (node_value d fact known) node) ∙ g)

  direct_below : (known : ℕ → Option T) (a : ℕ) (t : T) → follows d fact known a ≡ Some t → (i : ℕ) → node_at d a ≡ Declaring i → (j : ℕ) → is_in j (direct_meanings d i) ≡ true → Below f join (known (entry_node d j)) t
  direct_below known a t g i node j h =
      let m = directly d i j h in
      let b = (all_together known a t g i node m.e m.is m.what).each m.by.operation m.by.listed in
      record { it = b.it; is = sym (value_at i m.e m.is m.what known m.by.operation j m.by.declared) ∙ b.is; below = b.below }

  first_of : (i j : ℕ) → Forward rows i j → (k : ℕ) × (is_in k (targets rows i) ≡ true)
  first_of i j (last l) = (j, l)
  first_of i j (next {k = k} l p) = (k, l)

  module _ (unique : (a : ℕ) (u v : T) → Other a u → Other a v → u ≡ v) (known : ℕ → Option T) (sub : (b : ℕ) (u : T) → known b ≡ Some u → ToOther b u) where
    other_low : (a : ℕ) (t : T) → follows d fact known a ≡ Some t → (i : ℕ) → node_at d a ≡ Declaring i → (y : ℕ) → Forward rows i y → Low Other t y
    other_low a t g i node y (last l) =
        let b = direct_below known a t g i node y (sources.direct i y l) in
        record { value = b.it; settles = (sub (entry_node d y) b.it b.is).other; below = b.below }
    other_low a t g i node y (next {k = k} l p) =
        let b = direct_below known a t g i node k (sources.direct i k l) in
        let s = (sub (entry_node d k) b.it b.is).low k (entry_at k) y p in
        record { value = s.value; settles = s.settles; below = below_then f join s.value b.it t s.below b.below }

    module _ (a : ℕ) (t : T) (g : follows d fact known a ≡ Some t) (i : ℕ) (node : node_at d a ≡ Declaring i) (e : Entry) (at : slice_get (entries d) i ≡ Some e) (what : e.what ≡ whats.Reference) where
      below_row : (s : T) → Together f join (row_value known) (targets rows i) s → (j : ℕ) (u : T) → known (entry_node d j) ≡ Some u → Forward rows i j → f u s ≡ s
      below_row s some j u is (last l) = let b = some.each j l in subst (λ (x : T). f x s ≡ s) (same_Some b.it u (sym b.is ∙ is)) b.below
      below_row s some j u is (next {k = k} l p) =
          let b = some.each k l in
          let low = (sub (entry_node d k) b.it b.is).low k (entry_at k) j p in
          let same : low.value ≡ u = unique (entry_node d j) low.value u low.settles (sub (entry_node d j) u is).other in
          subst (λ (x : T). f x s ≡ s) same (below_then f join low.value b.it s low.below b.below)

      other_reference : Other a t
      other_reference =
          let whole = all_together known a t g i node e at what in
          let own = whole.each whole.number whole.listed in
          let some = declares_some i e at what known whole.number own.it own.is in
          let one = first_of i some.0 (forward (sources.reached i some.0 (direct i e at what whole.number some.0 whole.listed some.1))) in
          let has = has_together f join (row_value known) (targets rows i) one.0 one.1 (λ k h. (let b = direct_below known a t g i node k (sources.direct i k h) in (b.it, b.is))) in
          let few = are_together f join (row_value known) (targets rows i) has.0 has.1 in
          let down : f has.0 t ≡ t = few.least t (λ k u h v. (let b = direct_below known a t g i node k (sources.direct i k h) in subst (λ (x : T). f x t ≡ t) (same_Some b.it u (sym b.is ∙ v)) b.below)) in
          let up : f t has.0 ≡ has.0 = whole.least has.0 (λ p u h v.
          (let k = declares_some i e at what known p u v in
          below_row has.0 few k.0 u (sym (value_at i e at what known p k.0 k.1) ∙ v) (forward (sources.reached i k.0 (direct i e at what p k.0 h k.1))))) in
          let same : has.0 ≡ t = one_value f join has.0 t down up in
          settled known (λ b u k. (sub b u k).other)
          (ap (sourced_node d rows lacking fact known) node ∙ sourced_is i e at what known ∙ ap (λ (b : Bool). cond b None (source_value d f known (targets rows i))) (unmarked i e at what known t whole) ∙ has.1 ∙ ap (λ (x : T). Some x) same)

    other_by : (a : ℕ) (t : T) → follows d fact known a ≡ Some t → (x : Node) → node_at d a ≡ x → node_value d fact known x ≡ Some t → Other a t
    other_by a t g (Operation o) node e = settled known (λ b u k. (sub b u k).other) (ap (sourced_node d rows lacking fact known) node ∙ e)
    other_by a t g (Choosing c) node e = settled known (λ b u k. (sub b u k).other) (ap (sourced_node d rows lacking fact known) node ∙ e)
    other_by a t g (Declaring i) node e = by (what_at d i) refl e
      where
        plain : (r : Option What) → what_at d i ≡ r → sourced_entry d rows lacking fact known i r ≡ Some t → Other a t
        plain r is k = settled known (λ b u k. (sub b u k).other) (ap (sourced_node d rows lacking fact known) node ∙ ap (sourced_entry d rows lacking fact known i) is ∙ k)

        by_entry : (r : Option Entry) → slice_get (entries d) i ≡ r → what_at d i ≡ Some whats.Reference → Other a t
        by_entry None at is = (let none : what_at d i ≡ None = rw at refl in absurd (cc (sym none ∙ is)))
        by_entry (Some x) at is = (let own : what_at d i ≡ Some x.what = rw at refl in other_reference a t g i node x at (same_Some x.what whats.Reference (sym own ∙ is)))

        by : (r : Option What) → what_at d i ≡ r → entry_value d fact known i r ≡ Some t → Other a t
        by None is k = absurd (cc k)
        by (Some (whats.Group c)) is k = plain (Some (whats.Group c)) is k
        by (Some (whats.Instance c)) is k = plain (Some (whats.Instance c)) is k
        by (Some whats.Label) is k = plain (Some whats.Label) is k
        by (Some whats.Reference) is k = by_entry (slice_get (entries d) i) refl is

  to_other : ((a : ℕ) (u v : T) → Other a u → Other a v → u ≡ v) → (a : ℕ) (t : T) → One a t → ToOther a t
  to_other unique a t (settled known each g) = record {
    other = other_by unique known (λ b u k. to_other unique b u (each b u k)) a t g (node_at d a) refl g;
    low = other_low unique known (λ b u k. to_other unique b u (each b u k)) a t g;
  }

  -- a table that has the values by some has those by all
  pub same_values : (table : ℕ → Option T) → ((a : ℕ) (t : T) → (table a ≡ Some t) ↔ Other a t) → (a : ℕ) (t : T) → (table a ≡ Some t) ↔ One a t
  same_values table exact a t = (
    λ e. (to_one a t ((exact a t).0 e)).one,
    λ s. (exact a t).1 (to_other (λ b u v p q. same_Some u v (sym ((exact b u).1 p) ∙ (exact b v).1 q)) a t s).other,
  )
