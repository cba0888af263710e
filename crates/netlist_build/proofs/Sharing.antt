-- Each key stands once, and so no two wires are alike.
use Rattle.std.proofs.Common.{◌≡◌, ◌≢◌, ℕ, ◌-◌, zero, suc, ◌^◌, ◌<◌, ◌≤◌, Bool, true, false, ◌&&◌, List, [], ◌∷◌, ◌++◌, length, get_or, refl, sym, ap, ap₂, ◌∙◌, subst, arith, nat_eq, nat_lt, ◌⊎◌, inl, inr, ⊎_elim}
use Rattle.std.specs.Prelude.{Option, Some, None, AllPairs, position, slice_index_or}
use Rattle.std.specs.List.{slice_get, list_any, position_or_len}
use Rattle.std.proofs.lemmas.Bool.{cond_both, false≢true}
use Rattle.std.proofs.lemmas.Bool.Decides.{nat_tests}
use Rattle.std.proofs.lemmas.List.{length-map}
use Rattle.std.proofs.lemmas.List.Folds.{list_any_at}
use Rattle.std.proofs.lemmas.Option.{slice_get_within, slice_get-get_or, get_or_from_slice_get}
use Rattle.lisa_engine.specs.declared.parts.Item.{Item}
use Rattle.lisa_words.specs.declared.binary.Operator.{Operator}
use Rattle.lisa_words.specs.declared.binary.Operator.TheVariants as operators
use Rattle.verilog_text.specs.Trees as trees
use Rattle.verilog_text.specs.Trees.{VTree}
use Rattle.verilog_text.specs.Clocked.{Net}
use Rattle.verilog_rules.proofs.Apart.{Has}
use Rattle.step_program.specs.declared.expressions.OneOp.{OneOp}
use Rattle.step_program.specs.declared.expressions.OneOp.TheVariants as ones
use Rattle.step_program.specs.declared.expressions.TwoOp.{TwoOp}
use Rattle.step_program.specs.declared.expressions.TwoOp.TheVariants as ops
use Rattle.step_program.specs.Programs.{Expr, Const, Now, Before, Pin, Temp, Cell, One, Two, Choose, Aim, ToItem, ToTemp, ToCell, Move, Program}
use Rattle.step_program.specs.Effects.{array_width, width}
use Rattle.step_program.specs.WellFormed.{IsWellFormed}
use Rattle.netlist_wires.specs.declared.keys.Flat.{Flat}
use Rattle.netlist_wires.specs.declared.keys.Flat.TheVariants.{Fixed, OfItem, OfPin, OfWire}
use Rattle.netlist_wires.specs.declared.keys.Body.{Body}
use Rattle.netlist_wires.specs.declared.keys.Body.TheVariants.{Copied, Lowest, Padded, Inverse, Load, Operate, Select}
use Rattle.netlist_wires.specs.declared.keys.Key.{Key}
use Rattle.netlist_wires.specs.declared.keys.Write.{Write}
use Rattle.netlist_wires.specs.Tables.{HasDistinctNames}
use Rattle.netlist_wires.specs.Wiring.{item_name, pin_name, array_name, wire_name, operator_of, named, lowest, body_tree, Made, Find, shared, share, behind, load, Sym, nothing, refit, changed, settled, is_zero, keeps_right, keeps_left, combined_by, shifts_out, combined_unless, combined, lower, given_once, given, Going, aimed, gone, gone_all, begun_going, ended}
use Rattle.netlist_wires.proofs.Members.{wire_nets}
use Rattle.netlist_wires.proofs.Named.{item_names, item_at, array_at, wire_same, free_no_wire, items_apart, arrays_apart, pins_apart, items_no_pins, items_free, pins_free}
use Rattle.netlist_wires.proofs.Growing.{IsNamed, IsBelow, IsBodyBelow, IsOrdered}
use Rattle.netlist_build.specs.Symbolic.{first}
use Rattle.netlist_build.proofs.Finds.{any_or_len}
use Rattle.step_program.specs.contracts.expressions.TwoOpPartialEq.TheImpl as two_impl
use Rattle.netlist_wires.specs.contracts.keys.FlatPartialEq.TheImpl as flat_impl
use Rattle.netlist_wires.specs.contracts.keys.BodyPartialEq.TheImpl as body_impl
use Rattle.netlist_wires.specs.contracts.keys.KeyPartialEq.TheImpl as key_impl

-- ---- a key equals itself

same_number : (n : ℕ) → nat_eq n n ≡ true
same_number n = grind (arith, nat_tests)

both_true : {a b : Bool} → a ≡ true → b ≡ true → (a && b) ≡ true
both_true e f = ap₂ (λ (a b : Bool). a && b) e f

op_equal : (op : TwoOp) → two_impl.eq-value.it op op ≡ true
op_equal ops.Add = refl
op_equal ops.Sub = refl
op_equal ops.Mul = refl
op_equal ops.And = refl
op_equal ops.Or = refl
op_equal ops.Xor = refl
op_equal ops.Shl = refl
op_equal ops.Shr = refl
op_equal ops.Equal = refl
op_equal ops.Less = refl

flat_equal : (f : Flat) → flat_impl.eq-value.it f f ≡ true
flat_equal (Fixed w v) = both_true (same_number w) (same_number v)
flat_equal (OfItem i) = same_number i
flat_equal (OfPin i) = same_number i
flat_equal (OfWire k) = same_number k

body_equal : (body : Body) → body_impl.eq-value.it body body ≡ true
body_equal (Copied f) = flat_equal f
body_equal (Lowest h f) = both_true (same_number h) (flat_equal f)
body_equal (Padded z f) = both_true (same_number z) (flat_equal f)
body_equal (Inverse f) = flat_equal f
body_equal (Load a f) = both_true (same_number a) (flat_equal f)
body_equal (Operate op f g) = both_true (op_equal op) (both_true (flat_equal f) (flat_equal g))
body_equal (Select c f g) = both_true (flat_equal c) (both_true (flat_equal f) (flat_equal g))

pub key_equal : (key : Key) → key_impl.eq-value.it key key ≡ true
key_equal key = both_true (same_number key.width) (body_equal key.body)

-- ---- the table finds what is there

abbrev pub Finds : Find → Type 0
Finds find = (keys : List Key) (key : Key) → find keys key ≡ None → (k : ℕ) → slice_get keys k ≡ Some key → ⊥

not_found : {X : Type 0} (p : X → Bool) (xs : List X) → position p xs ≡ None → list_any p xs ≡ false
not_found p xs e =
    cond_both (nat_lt (position_or_len p xs) (length xs)) (Some (position_or_len p xs)) None (λ (o : Option ℕ). o ≡ None → list_any p xs ≡ false)
    (λ is e. absurd (cc)) (λ is e. any_or_len p xs ∙ is) e

pub first_finds : (eq : Key → Key → Bool) → ((key : Key) → eq key key ≡ true) → Finds (first eq)
first_finds eq same keys key none k at =
    let there : list_any (eq key) keys ≡ true =
    list_any_at (eq key) keys k key (slice_get_within keys k key at) (subst (λ (x : Key). eq key x ≡ true) (sym (get_or_from_slice_get keys k key key at)) (same key)) in
    false≢true (sym (not_found (eq key) keys none) ∙ there)

-- ---- each key stands once

abbrev pub IsOnce : List Key → Type 0
IsOnce keys = (j k : ℕ) (key : Key) → slice_get keys j ≡ Some key → slice_get keys k ≡ Some key → j ≡ k

back : (keys : List Key) (new : Key) (k : ℕ) (key : Key) → slice_get (keys ++ (new ∷ [])) k ≡ Some key → (slice_get keys k ≡ Some key) ⊎ ((k ≡ length keys) × (key ≡ new))
back [] new zero key e = inr (refl, cc)
back [] new (suc k) key e = absurd (cc)
back (x ∷ keys) new zero key e = inl e
back (x ∷ keys) new (suc k) key e = elim (back keys new k key e) [ inl h ↦ inl h | inr h ↦ inr (ap suc h.0, h.1) ]

push_once : (keys : List Key) (new : Key) → IsOnce keys → ((k : ℕ) → slice_get keys k ≡ Some new → ⊥) → IsOnce (keys ++ (new ∷ []))
push_once keys new once fresh j k key a b =
    ⊎_elim
    (λ old. ⊎_elim (λ also. once j k key old also) (λ new_too. absurd (fresh j (old ∙ ap (λ (x : Key). Some x) new_too.1))) (back keys new k key b))
    (λ last. ⊎_elim (λ old. absurd (fresh k (old ∙ ap (λ (x : Key). Some x) last.1))) (λ also. last.0 ∙ sym also.0) (back keys new k key b))
    (back keys new j key a)

module _ (find : Find) (finds : Finds find) where
  share_once : (w : ℕ) (body : Body) (keys : List Key) → IsOnce keys → IsOnce (share find w body keys).keys
  unfolding share
  share_once w body keys once = go (find keys (record { width = w; body = body })) refl
    where
      go : (o : Option ℕ) → find keys (record { width = w; body = body }) ≡ o → IsOnce (shared o (record { width = w; body = body }) keys).keys
      go (Some k) e = once
      go None e = push_once keys (record { width = w; body = body }) once (finds keys (record { width = w; body = body }) e)

  behind_once : (w : ℕ) (same : Bool) (write : Write) (x : Flat) (found : Made) → IsOnce found.keys → IsOnce (behind find w same write x found).keys
  behind_once w false write x found once = once
  behind_once w true write x found once =
      let e = share find 1 (Operate ops.Equal write.index x) found.keys in
      let c = share find w (Select write.guard write.value found.flat) e.keys in
      share_once w (Select e.flat c.flat found.flat) c.keys
      (share_once w (Select write.guard write.value found.flat) e.keys (share_once 1 (Operate ops.Equal write.index x) found.keys once))

  load_once : (p : Program) (a : ℕ) (ws : List Write) (x : Flat) (keys : List Key) → IsOnce keys → IsOnce (load find p a ws x keys).keys
  load_once p a [] x keys once = share_once (array_width p a) (Load a x) keys once
  load_once p a (write ∷ ws) x keys once =
      behind_once (array_width p a) (nat_eq write.array a) write x (load find p a ws x keys) (load_once p a ws x keys once)

  refit_once : (same : Bool) (to : ℕ) (body : Body) (f : Flat) (keys : List Key) → IsOnce keys → IsOnce (refit find same to body f keys).keys
  refit_once true to body f keys once = once
  refit_once false to body (Fixed w v) keys once = once
  refit_once false to body (OfItem i) keys once = share_once to body keys once
  refit_once false to body (OfPin i) keys once = share_once to body keys once
  refit_once false to body (OfWire k) keys once = share_once to body keys once

  changed_once : (one : OneOp) (w : ℕ) (f : Flat) (keys : List Key) → IsOnce keys → IsOnce (changed find one w f keys).keys
  changed_once ones.Not w f keys once = share_once w (Inverse f) keys once
  changed_once (ones.Cut narrow) w f keys once = refit_once (nat_eq narrow w) narrow (Lowest (narrow - 1) f) f keys once
  changed_once (ones.Widen wide) w f keys once = refit_once (nat_eq wide w) wide (Padded (wide - w) f) f keys once

  settled_once : (w : ℕ) (f : Flat) (keys : List Key) → IsOnce keys → IsOnce (settled find w f keys).keys
  settled_once w (Fixed v b) keys once = once
  settled_once w (OfItem i) keys once = share_once w (Copied (OfItem i)) keys once
  settled_once w (OfPin i) keys once = share_once w (Copied (OfPin i)) keys once
  settled_once w (OfWire k) keys once = once

  combined_by_once : (op : TwoOp) (w : ℕ) (right left : Bool) (f g : Flat) (keys : List Key) → IsOnce keys → IsOnce (combined_by find op w right left f g keys).keys
  combined_by_once op w true left f g keys once = settled_once w g keys once
  combined_by_once op w false true f g keys once = settled_once w f keys once
  combined_by_once op w false false f g keys once = share_once w (Operate op f g) keys once

  combined_unless_once : (op : TwoOp) (w : ℕ) (out : Bool) (f g : Flat) (keys : List Key) → IsOnce keys → IsOnce (combined_unless find op w out f g keys).keys
  combined_unless_once op w true f g keys once = once
  combined_unless_once op w false f g keys once = combined_by_once op w (keeps_right op && is_zero f) (keeps_left op && is_zero g) f g keys once

  combined_once : (op : TwoOp) (w : ℕ) (f g : Flat) (keys : List Key) → IsOnce keys → IsOnce (combined find op w f g keys).keys
  combined_once op w f g keys once = combined_unless_once op w (shifts_out op w g) f g keys once

  lower_once : (p : Program) (s : Sym) (e : Expr) (keys : List Key) → IsOnce keys → IsOnce (lower find p s e keys).keys
  lower_once p s (Const w v) keys once = once
  lower_once p s (Now i) keys once = once
  lower_once p s (Before i) keys once = once
  lower_once p s (Pin i) keys once = once
  lower_once p s (Temp i) keys once = once
  lower_once p s (Cell a index) keys once =
      let x = lower find p s index keys in load_once p a s.writes x.flat x.keys (lower_once p s index keys once)
  lower_once p s (One one a) keys once =
      let x = lower find p s a keys in changed_once one (width p a) x.flat x.keys (lower_once p s a keys once)
  lower_once p s (Two op a b) keys once =
      let x = lower find p s a keys in
      let y = lower find p s b x.keys in
      combined_once op (width p (Two op a b)) x.flat y.flat y.keys (lower_once p s b x.keys (lower_once p s a keys once))
  lower_once p s (Choose t a b) keys once =
      let c = lower find p s t keys in
      let x = lower find p s a c.keys in
      let y = lower find p s b x.keys in
      share_once (width p a) (Select c.flat x.flat y.flat) y.keys (lower_once p s b x.keys (lower_once p s a c.keys (lower_once p s t keys once)))

  given_once_once : (w : ℕ) (zero : Bool) (v old : Flat) (keys : List Key) → IsOnce keys → IsOnce (given_once find w zero v old keys).keys
  given_once_once w true v old keys once = once
  given_once_once w false v old keys once = settled_once w v keys once

  all_given_once : (w : ℕ) (g v old : Flat) (keys : List Key) → IsOnce keys → IsOnce (given find w g v old keys).keys
  all_given_once w (Fixed u n) v old keys once = given_once_once w (nat_eq n 0) v old keys once
  all_given_once w (OfItem i) v old keys once = share_once w (Select (OfItem i) v old) keys once
  all_given_once w (OfPin i) v old keys once = share_once w (Select (OfPin i) v old) keys once
  all_given_once w (OfWire k) v old keys once = share_once w (Select (OfWire k) v old) keys once

  aimed_once : (p : Program) (s : Sym) (aim : Aim) (w : ℕ) (g v : Flat) (keys : List Key) → IsOnce keys → IsOnce (aimed find p s aim w g v keys).keys
  aimed_once p s (ToItem i) w g v keys once = all_given_once w g v (slice_index_or s.items i nothing) keys once
  aimed_once p s (ToTemp i) w g v keys once = all_given_once w g v (slice_index_or s.temps i nothing) keys once
  aimed_once p s (ToCell a index) w g v keys once = lower_once p s index keys once

  gone_once : (p : Program) (go : Going) (move : Move) → IsOnce go.keys → IsOnce (gone find p go move).keys
  gone_once p go move once =
      let g = lower find p go.sym move.guard go.keys in
      let v = lower find p go.sym move.value g.keys in
      aimed_once p go.sym move.aim (width p move.value) g.flat v.flat v.keys (lower_once p go.sym move.value g.keys (lower_once p go.sym move.guard go.keys once))

  all_once : (p : Program) (go : Going) (moves : List Move) → IsOnce go.keys → IsOnce (gone_all find p go moves).keys
  all_once p go [] once = once
  all_once p go (move ∷ moves) once = all_once p (gone find p go move) moves (gone_once p go move once)

  pub ended_once : (p : Program) → IsOnce (ended find p).keys
  ended_once p = all_once p (begun_going p) p.moves (λ j k key a b. absurd (cc))

-- ---- an expression tells its key

abbrev op_back : Operator → TwoOp
op_back operators.Add = ops.Add
op_back operators.Sub = ops.Sub
op_back operators.Mul = ops.Mul
op_back operators.And = ops.And
op_back operators.Or = ops.Or
op_back operators.Xor = ops.Xor
op_back operators.Left = ops.Shl
op_back operators.Right = ops.Shr
op_back operators.Equal = ops.Equal
op_back _ = ops.Less

op_is : (op : TwoOp) → op_back (operator_of op) ≡ op
op_is ops.Add = refl
op_is ops.Sub = refl
op_is ops.Mul = refl
op_is ops.And = refl
op_is ops.Or = refl
op_is ops.Xor = refl
op_is ops.Shl = refl
op_is ops.Shr = refl
op_is ops.Equal = refl
op_is ops.Less = refl

op_same : (a b : TwoOp) → operator_of a ≡ operator_of b → a ≡ b
op_same a b e = sym (op_is a) ∙ ap op_back e ∙ op_is b

-- 0 for what an operand is, and 1 for everything else
abbrev tree_kind : VTree → ℕ
tree_kind (trees.Number w v) = 0
tree_kind (trees.Named name) = 0
tree_kind _ = 1

kind_named : (p : Program) (f : Flat) → tree_kind (named p f) ≡ 0
kind_named p (Fixed w v) = refl
kind_named p (OfItem i) = refl
kind_named p (OfPin i) = refl
kind_named p (OfWire k) = refl

no_operand : (p : Program) (f : Flat) (e : VTree) → tree_kind e ≡ 1 → named p f ≡ e → ⊥
no_operand p f e kind is = let bad : 0 ≡ 1 = sym (kind_named p f) ∙ ap tree_kind is ∙ kind in omega (arith, bad)

has_name : (names : List (List ℕ)) (i : ℕ) → i < length names → Has names (slice_index_or names i [])
has_name [] i h = absurd (omega (arith, h))
has_name (x ∷ names) zero h = inl refl
has_name (x ∷ names) (suc i) h = inr (has_name names i (omega (arith, h)))

module _ (p : Program) (formed : IsWellFormed p) (distinct : HasDistinctNames p) where
  no_keys : length {A = Key} [] ≤ 2 ^ 64
  no_keys = omega arith

  has_item : (i : ℕ) → i < length p.items → Has (item_names p.items) (item_name p i)
  has_item i h = has_name (item_names p.items) i (omega (arith, h, length-map p.items (λ (item : Item). item.name)))

  has_pin : (i : ℕ) → i < length p.pins → Has (item_names p.pins) (pin_name p i)
  has_pin i h = has_name (item_names p.pins) i (omega (arith, h, length-map p.pins (λ (item : Item). item.name)))

  item_same : (i j : ℕ) → i < length p.items → j < length p.items → item_name p i ≡ item_name p j → i ≡ j
  item_same i j li lj e =
      let apart = items_apart p formed distinct [] no_keys in
      sym (item_at p.items apart i (item_name p i) li refl) ∙ item_at p.items apart j (item_name p i) lj (sym e)

  pin_same : (i j : ℕ) → i < length p.pins → j < length p.pins → pin_name p i ≡ pin_name p j → i ≡ j
  pin_same i j li lj e =
      let apart = pins_apart p formed distinct [] no_keys in
      sym (item_at p.pins apart i (pin_name p i) li refl) ∙ item_at p.pins apart j (pin_name p i) lj (sym e)

  array_same : (i j : ℕ) → i < length p.arrays → j < length p.arrays → array_name p i ≡ array_name p j → i ≡ j
  array_same i j li lj e =
      let apart = arrays_apart p formed distinct [] no_keys in
      sym (array_at p.arrays apart i (array_name p i) li refl) ∙ array_at p.arrays apart j (array_name p i) lj (sym e)

  item_no_pin : (i j : ℕ) → i < length p.items → j < length p.pins → item_name p i ≡ pin_name p j → ⊥
  item_no_pin i j li lj e =
      items_no_pins p formed distinct [] no_keys (pin_name p j) (subst (λ (name : List ℕ). Has (item_names p.items) name) e (has_item i li)) (has_pin j lj)

  item_no_wire : (i k : ℕ) → i < length p.items → k < 2 ^ 64 → item_name p i ≡ wire_name k → ⊥
  item_no_wire i k li lk e = free_no_wire (item_name p i) k lk (items_free p formed distinct [] no_keys (item_name p i) (has_item i li)) (sym e)

  pin_no_wire : (i k : ℕ) → i < length p.pins → k < 2 ^ 64 → pin_name p i ≡ wire_name k → ⊥
  pin_no_wire i k li lk e = free_no_wire (pin_name p i) k lk (pins_free p formed distinct [] no_keys (pin_name p i) (has_pin i li)) (sym e)

  flat_same : (n m : ℕ) → n ≤ 2 ^ 64 → m ≤ 2 ^ 64 → (f g : Flat) → IsBelow p n f → IsBelow p m g → named p f ≡ named p g → f ≡ g
  flat_same n m ln lm (Fixed w v) (Fixed x y) b c e = cc
  flat_same n m ln lm (OfItem i) (OfItem j) b c e = let same : item_name p i ≡ item_name p j = cc in ap OfItem (item_same i j b c same)
  flat_same n m ln lm (OfItem i) (OfPin j) b c e = let same : item_name p i ≡ pin_name p j = cc in absurd (item_no_pin i j b c same)
  flat_same n m ln lm (OfItem i) (OfWire k) b c e = let same : item_name p i ≡ wire_name k = cc in absurd (item_no_wire i k b (omega (arith, lm, c)) same)
  flat_same n m ln lm (OfPin i) (OfItem j) b c e = let same : item_name p j ≡ pin_name p i = cc in absurd (item_no_pin j i c b same)
  flat_same n m ln lm (OfPin i) (OfPin j) b c e = let same : pin_name p i ≡ pin_name p j = cc in ap OfPin (pin_same i j b c same)
  flat_same n m ln lm (OfPin i) (OfWire k) b c e = let same : pin_name p i ≡ wire_name k = cc in absurd (pin_no_wire i k b (omega (arith, lm, c)) same)
  flat_same n m ln lm (OfWire k) (OfItem j) b c e = let same : item_name p j ≡ wire_name k = cc in absurd (item_no_wire j k c (omega (arith, ln, b)) same)
  flat_same n m ln lm (OfWire k) (OfPin j) b c e = let same : pin_name p j ≡ wire_name k = cc in absurd (pin_no_wire j k c (omega (arith, ln, b)) same)
  flat_same n m ln lm (OfWire j) (OfWire k) b c e =
      let same : wire_name j ≡ wire_name k = cc in ap OfWire (wire_same j k (omega (arith, ln, b)) (omega (arith, lm, c)) same)
  flat_same n m ln lm _ _ b c e = absurd (cc)

  -- bits of an operand are the bits of no other one, and nothing else
  bits_parts : {a b : List ℕ} {h g : ℕ} → trees.Bits a h 0 ≡ trees.Bits b g 0 → (trees.Named a ≡ trees.Named b) × (h ≡ g)
  bits_parts e = (cc, cc)

  lowest_parts : (h g : ℕ) (f k : Flat) → IsNamed f → IsNamed k → lowest p h f ≡ lowest p g k → (named p f ≡ named p k) × (h ≡ g)
  lowest_parts h g (Fixed w v) k is other e = absurd is
  lowest_parts h g (OfItem i) (Fixed w v) is other e = absurd other
  lowest_parts h g (OfItem i) (OfItem j) is other e = bits_parts e
  lowest_parts h g (OfItem i) (OfPin j) is other e = bits_parts e
  lowest_parts h g (OfItem i) (OfWire j) is other e = bits_parts e
  lowest_parts h g (OfPin i) (Fixed w v) is other e = absurd other
  lowest_parts h g (OfPin i) (OfItem j) is other e = bits_parts e
  lowest_parts h g (OfPin i) (OfPin j) is other e = bits_parts e
  lowest_parts h g (OfPin i) (OfWire j) is other e = bits_parts e
  lowest_parts h g (OfWire i) (Fixed w v) is other e = absurd other
  lowest_parts h g (OfWire i) (OfItem j) is other e = bits_parts e
  lowest_parts h g (OfWire i) (OfPin j) is other e = bits_parts e
  lowest_parts h g (OfWire i) (OfWire j) is other e = bits_parts e

  abbrev selects : VTree → ℕ
  selects (trees.Bits name high low) = 1
  selects _ = 0

  lowest_selects : (h : ℕ) (f : Flat) → IsNamed f → selects (lowest p h f) ≡ 1
  lowest_selects h (Fixed w v) is = absurd is
  lowest_selects h (OfItem i) is = refl
  lowest_selects h (OfPin i) is = refl
  lowest_selects h (OfWire k) is = refl

  named_selects : (f : Flat) → selects (named p f) ≡ 0
  named_selects (Fixed w v) = refl
  named_selects (OfItem i) = refl
  named_selects (OfPin i) = refl
  named_selects (OfWire k) = refl

  no_select : (h : ℕ) (f : Flat) (e : VTree) → IsNamed f → selects e ≡ 0 → lowest p h f ≡ e → ⊥
  no_select h f e is none same = absurd (omega (arith, lowest_selects h f is, ap selects same, none))

  body_same : (n m : ℕ) → n ≤ 2 ^ 64 → m ≤ 2 ^ 64 → (a b : Body) → IsBodyBelow p n a → IsBodyBelow p m b → body_tree p a ≡ body_tree p b → a ≡ b
  body_same n m ln lm (Copied f) (Copied g) b c e = ap Copied (flat_same n m ln lm f g b c e)
  body_same n m ln lm (Lowest h f) (Lowest g k) b c e =
      let r = lowest_parts h g f k b.1 c.1 e in
      ap₂ {C = Body} (λ (h : ℕ) (f : Flat). Lowest h f) r.1 (flat_same n m ln lm f k b.2 c.2 r.0)
  body_same n m ln lm (Lowest h f) (Copied g) b c e = absurd (no_select h f (named p g) b.1 (named_selects g) e)
  body_same n m ln lm (Lowest h f) (Padded z g) b c e = absurd (no_select h f (body_tree p (Padded z g)) b.1 refl e)
  body_same n m ln lm (Lowest h f) (Inverse g) b c e = absurd (no_select h f (body_tree p (Inverse g)) b.1 refl e)
  body_same n m ln lm (Lowest h f) (Load a g) b c e = absurd (no_select h f (body_tree p (Load a g)) b.1 refl e)
  body_same n m ln lm (Lowest h f) (Operate o g k) b c e = absurd (no_select h f (body_tree p (Operate o g k)) b.1 refl e)
  body_same n m ln lm (Lowest h f) (Select g k l) b c e = absurd (no_select h f (body_tree p (Select g k l)) b.1 refl e)
  body_same n m ln lm (Copied g) (Lowest h f) b c e = absurd (no_select h f (named p g) c.1 (named_selects g) (sym e))
  body_same n m ln lm (Padded z g) (Lowest h f) b c e = absurd (no_select h f (body_tree p (Padded z g)) c.1 refl (sym e))
  body_same n m ln lm (Inverse g) (Lowest h f) b c e = absurd (no_select h f (body_tree p (Inverse g)) c.1 refl (sym e))
  body_same n m ln lm (Load a g) (Lowest h f) b c e = absurd (no_select h f (body_tree p (Load a g)) c.1 refl (sym e))
  body_same n m ln lm (Operate o g k) (Lowest h f) b c e = absurd (no_select h f (body_tree p (Operate o g k)) c.1 refl (sym e))
  body_same n m ln lm (Select g k l) (Lowest h f) b c e = absurd (no_select h f (body_tree p (Select g k l)) c.1 refl (sym e))
  body_same n m ln lm (Padded z f) (Padded y g) b c e =
      let zeros : z ≡ y = cc in
      let same : named p f ≡ named p g = cc in
      ap₂ {C = Body} (λ (z : ℕ) (f : Flat). Padded z f) zeros (flat_same n m ln lm f g b.1 c.1 same)
  body_same n m ln lm (Copied f) (Padded z g) b c e = absurd (no_operand p f (body_tree p (Padded z g)) refl e)
  body_same n m ln lm (Padded z g) (Copied f) b c e = absurd (no_operand p f (body_tree p (Padded z g)) refl (sym e))
  body_same n m ln lm (Copied f) (Inverse g) b c e = absurd (no_operand p f (body_tree p (Inverse g)) refl e)
  body_same n m ln lm (Copied f) (Load a g) b c e = absurd (no_operand p f (body_tree p (Load a g)) refl e)
  body_same n m ln lm (Copied f) (Operate o g h) b c e = absurd (no_operand p f (body_tree p (Operate o g h)) refl e)
  body_same n m ln lm (Copied f) (Select g h k) b c e = absurd (no_operand p f (body_tree p (Select g h k)) refl e)
  body_same n m ln lm (Inverse g) (Copied f) b c e = absurd (no_operand p f (body_tree p (Inverse g)) refl (sym e))
  body_same n m ln lm (Load a g) (Copied f) b c e = absurd (no_operand p f (body_tree p (Load a g)) refl (sym e))
  body_same n m ln lm (Operate o g h) (Copied f) b c e = absurd (no_operand p f (body_tree p (Operate o g h)) refl (sym e))
  body_same n m ln lm (Select g h k) (Copied f) b c e = absurd (no_operand p f (body_tree p (Select g h k)) refl (sym e))
  body_same n m ln lm (Inverse f) (Inverse g) b c e = let same : named p f ≡ named p g = cc in ap Inverse (flat_same n m ln lm f g b c same)
  body_same n m ln lm (Load a f) (Load d g) b c e =
      let names : array_name p a ≡ array_name p d = cc in
      let same : named p f ≡ named p g = cc in
      ap₂ {C = Body} (λ (a : ℕ) (f : Flat). Load a f) (array_same a d b.0 c.0 names) (flat_same n m ln lm f g b.1 c.1 same)
  body_same n m ln lm (Operate o f g) (Operate q h i) b c e =
      let operator : operator_of o ≡ operator_of q = cc in
      let left : named p f ≡ named p h = cc in
      let right : named p g ≡ named p i = cc in
      ap₂ {C = Body} (λ (o : TwoOp) (go : TwoOp → Body). go o) (op_same o q operator)
      (ap₂ {C = TwoOp → Body} (λ (f g : Flat) (o : TwoOp). Operate o f g) (flat_same n m ln lm f h b.0 c.0 left) (flat_same n m ln lm g i b.1 c.1 right))
  body_same n m ln lm (Select f g h) (Select i j k) b c e =
      let test : named p f ≡ named p i = cc in
      let this : named p g ≡ named p j = cc in
      let other : named p h ≡ named p k = cc in
      ap₂ {C = Body} (λ (f : Flat) (go : Flat → Body). go f) (flat_same n m ln lm f i b.0 c.0 test)
      (ap₂ {C = Flat → Body} (λ (g h f : Flat). Select f g h) (flat_same n m ln lm g j b.1 c.1 this) (flat_same n m ln lm h k b.2 c.2 other))
  body_same n m ln lm _ _ b c e = absurd (cc)

  -- ---- wires by their places

  net_count : (n : ℕ) (keys : List Key) → length (wire_nets p n keys) ≡ length keys
  net_count n [] = refl
  net_count n (key ∷ keys) = omega (arith, net_count (suc n) keys)

  net_width : (n : ℕ) (keys : List Key) (i : ℕ) (d : Net) (any : Key) → i < length keys → (slice_index_or (wire_nets p n keys) i d).item.width ≡ (get_or keys i any).width
  net_width n [] i d any h = absurd (omega (arith, h))
  net_width n (key ∷ keys) zero d any h = refl
  net_width n (key ∷ keys) (suc i) d any h = net_width (suc n) keys i d any (omega (arith, h))

  net_value : (n : ℕ) (keys : List Key) (i : ℕ) (d : Net) (any : Key) → i < length keys → (slice_index_or (wire_nets p n keys) i d).value ≡ body_tree p (get_or keys i any).body
  net_value n [] i d any h = absurd (omega (arith, h))
  net_value n (key ∷ keys) zero d any h = refl
  net_value n (key ∷ keys) (suc i) d any h = net_value (suc n) keys i d any (omega (arith, h))

  key_is : (a b : Key) → a.width ≡ b.width → a.body ≡ b.body → a ≡ b
  key_is a b widths bodies = ap₂ {C = Key} (λ (w : ℕ) (body : Body). (let key : Key = record { width = w; body = body } in key)) widths bodies

  pub wires_differ : (keys : List Key) → IsOnce keys → IsOrdered p keys → length keys ≤ 2 ^ 64 → AllPairs (λ (a b : Net). a.item.width ≡ b.item.width → a.value ≢ b.value) (wire_nets p 0 keys)
  wires_differ keys once ordered few i j d less within widths values =
      let any : Key = record { width = 0; body = Copied nothing } in
      let lj : j < length keys = omega (arith, within, net_count 0 keys) in
      let li : i < length keys = omega (arith, less, lj) in
      let a = get_or keys i any in
      let b = get_or keys j any in
      let at_a = slice_get-get_or keys i any li in
      let at_b = slice_get-get_or keys j any lj in
      let same_width : a.width ≡ b.width = sym (net_width 0 keys i d any li) ∙ widths ∙ net_width 0 keys j d any lj in
      let same_body : a.body ≡ b.body =
      body_same i j (omega (arith, li, few)) (omega (arith, lj, few)) a.body b.body (ordered i a at_a).below (ordered j b at_b).below
      (sym (net_value 0 keys i d any li) ∙ values ∙ net_value 0 keys j d any lj) in
      let place : i ≡ j = once i j b (at_a ∙ ap (λ (x : Key). Some x) (key_is a b same_width same_body)) at_b in
      omega (arith, less, place)
