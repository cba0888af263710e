-- The decisions decide what they are to.
use Rattle.std.proofs.Common.{◌≡◌, ℕ, zero, suc, ◌^◌, ◌<◌, ◌≤◌, Bool, true, false, List, [], ◌∷◌, ◌++◌, length, map, take, drop, get_or, nat_eq, nat_le, nat_lt, not, ◌&&◌, ◌||◌, inl, inr, Option, Some, None, refl, sym, ap, subst, ◌∙◌, arith}
use Rattle.std.specs.Prelude.{codes, sum_by, slice_index, All}
use Rattle.std.specs.List.{slice_get, list_any, list_all, starts_with}
use Rattle.std.specs.Option.{option_map, option_map_or, option_and_then}
use Rattle.std.specs.Str.{bytes_eq}
use Rattle.std.specs.Cmp.Lexicographic.{same_text}
use Rattle.std.proofs.lemmas.Bool.{and_parts, and_from, leb-true, le-leb, ltb-true, lt-ltb, eqb-true, eq-eqb, or_cases, false≢true, agree_below_at}
use Rattle.std.proofs.lemmas.List.{length-map, take-append-drop, length-drop}
use Rattle.std.proofs.lemmas.List.Elements.{All-nil, All-cons, All-head, All-tail}
use Rattle.std.proofs.lemmas.Option.{cond_some, option_and_then_some, slice_get-map, slice_get_within, slice_get-get_or, get_or_from_slice_get}
use Rattle.std.proofs.lemmas.Slice.Eq.{bytes_eq-Decides}
use Rattle.lisa_engine.specs.Images.{IsDepth}
use Rattle.lisa_engine.specs.Shape.{IsFitting}
use Rattle.lisa_engine.specs.declared.parts.Item.{Item}
use Rattle.lisa_engine.specs.declared.parts.ArrayItem.{ArrayItem}
use Rattle.step_program.specs.declared.expressions.OneOp.{OneOp}
use Rattle.step_program.specs.declared.expressions.OneOp.TheVariants.{Not, Cut, Widen}
use Rattle.step_program.specs.declared.expressions.TwoOp.{TwoOp}
use Rattle.step_program.specs.declared.expressions.TwoOp.TheVariants as ops
use Rattle.step_program.specs.Programs.{Expr, Const, Now, Before, Pin, Temp, Cell, One, Two, Choose, Aim, ToItem, ToTemp, ToCell, Move, Program}
use Rattle.step_program.specs.Effects.{array_width, array_depth, one_width, two_width, width}
use Rattle.step_program.specs.WellFormed.{IsGraphic, IsDigit, IsWireName, IsFreeName, IsWidth, IsDeclared, IsStored, FitsOne, FitsTwo, IsFit, IsAimed, IsMove, IsWellFormed}
use Rattle.step_program.specs.Decided.{is_graphic, is_digit, is_wire_name, is_free_name, is_width, is_declared, needs, exponents, is_depth, is_stored, width_if, one_fit, two_fit, item_fit, cell_fit, fit, aim_fit, move_fit, is_move, are_firsts, is_counted, is_named, is_well_formed}

-- a test that holds of each element decides that the fact does
module _ {X : Type 0} (q : X → Bool) (P : X → Type 0) where
  all_back : ((x : X) → q x ≡ true → P x) → (xs : List X) → list_all q xs ≡ true → All P xs
  all_back back [] e = All-nil P
  all_back back (x ∷ xs) e = let parts = and_parts (q x) (list_all q xs) e in All-cons P x xs (back x parts.0) (all_back back xs parts.1)

  all_there : ((x : X) → P x → q x ≡ true) → (xs : List X) → All P xs → list_all q xs ≡ true
  all_there there [] a = refl
  all_there there (x ∷ xs) a = and_from (q x) (list_all q xs) (there x (All-head P x xs a)) (all_there there xs (All-tail P x xs a))

between_back : (a b x : ℕ) → (nat_le a x && nat_le x b) ≡ true → (a ≤ x) × (x ≤ b)
between_back a b x e = let parts = and_parts (nat_le a x) (nat_le x b) e in (leb-true a x parts.0, leb-true x b parts.1)

between_there : (a b x : ℕ) → (a ≤ x) × (x ≤ b) → (nat_le a x && nat_le x b) ≡ true
between_there a b x h = and_from (nat_le a x) (nat_le x b) (le-leb a x h.0) (le-leb x b h.1)

-- ---- names

wire_back : (name : List ℕ) → is_wire_name name ≡ true → IsWireName name
wire_back name e =
    let a = and_parts (starts_with nat_eq name (codes "wire.") && nat_lt 5 (length name)) (list_all is_digit (drop 5 name)) e in
    let b = and_parts (starts_with nat_eq name (codes "wire.")) (nat_lt 5 (length name)) a.0 in
    let long : 5 < length name = ltb-true 5 (length name) b.1 in
    let front : codes "wire." ≡ take 5 name = same_text (codes "wire.") (take 5 name) (sym b.0) in
    record {
      digits = drop 5 name;
      some = omega (arith, length-drop 5 name, long);
      all = all_back is_digit IsDigit (between_back 48 57) (drop 5 name) a.1;
      is = sym (ap (λ (xs : List ℕ). xs ++ drop 5 name) front ∙ take-append-drop 5 name);
    }

wire_there : (name : List ℕ) → IsWireName name → is_wire_name name ≡ true
wire_there name w = subst (λ (n : List ℕ). is_wire_name n ≡ true) (sym w.is) (go w.digits w.some w.all)
  where
    go : (ds : List ℕ) → 0 < length ds → All IsDigit ds → is_wire_name (codes "wire." ++ ds) ≡ true
    go ds some all = and_from (nat_lt 5 (length (codes "wire." ++ ds))) (list_all is_digit ds) (lt-ltb 5 (length (codes "wire." ++ ds)) (omega (arith, some))) (all_there is_digit IsDigit (between_there 48 57) ds all)

free_back : (name : List ℕ) → is_free_name name ≡ true → IsFreeName name
free_back name e =
    let a = and_parts (nat_lt 0 (length name) && list_all is_graphic name && not (bytes_eq name (codes "edge.clock"))) (not (is_wire_name name)) e in
    let b = and_parts (nat_lt 0 (length name) && list_all is_graphic name) (not (bytes_eq name (codes "edge.clock"))) a.0 in
    let c = and_parts (nat_lt 0 (length name)) (list_all is_graphic name) b.0 in
    record {
      some = ltb-true 0 (length name) c.0;
      graphic = all_back is_graphic IsGraphic (between_back 33 126) name c.1;
      no_clock = λ is. lies (bytes_eq name (codes "edge.clock")) ((bytes_eq-Decides name (codes "edge.clock")).1 is) b.1;
      no_wire = λ w. lies (is_wire_name name) (wire_there name w) a.1;
    }
  where
    lies : (t : Bool) → t ≡ true → not t ≡ true → ⊥
    lies t e f = false≢true (sym (ap not e) ∙ f)

free_there : (name : List ℕ) → IsFreeName name → is_free_name name ≡ true
free_there name f =
    and_from (nat_lt 0 (length name) && list_all is_graphic name && not (bytes_eq name (codes "edge.clock"))) (not (is_wire_name name))
    (and_from (nat_lt 0 (length name) && list_all is_graphic name) (not (bytes_eq name (codes "edge.clock")))
    (and_from (nat_lt 0 (length name)) (list_all is_graphic name) (lt-ltb 0 (length name) f.some) (all_there is_graphic IsGraphic (between_there 33 126) name f.graphic))
    (never (bytes_eq name (codes "edge.clock")) refl (λ e. f.no_clock ((bytes_eq-Decides name (codes "edge.clock")).0 e))))
    (never (is_wire_name name) refl (λ e. f.no_wire (wire_back name e)))
  where
    never : (t : Bool) {s : Bool} → s ≡ t → (s ≡ true → ⊥) → not s ≡ true
    never true e h = absurd (h e)
    never false e h = ap not e

-- ---- declarations

declared_back : (item : Item) → is_declared item ≡ true → IsDeclared item
declared_back item e = let a = and_parts (is_free_name item.name) (is_width item.width) e in (free_back item.name a.0, between_back 1 64 item.width a.1)

declared_there : (item : Item) → IsDeclared item → is_declared item ≡ true
declared_there item h = and_from (is_free_name item.name) (is_width item.width) (free_there item.name h.0) (between_there 1 64 item.width h.1)

abbrev in_range : ℕ → Bool
in_range k = nat_le 1 k && nat_le k 20

depth_among : (d : ℕ) (ks : List ℕ) → list_all in_range ks ≡ true → list_any (needs d) ks ≡ true → IsDepth d
depth_among d [] all e = absurd (false≢true e)
depth_among d (k ∷ ks) all e =
    let a = and_parts (in_range k) (list_all in_range ks) all in
    let b = between_back 1 20 k a.0 in
    elim (or_cases (needs d k) (list_any (needs d) ks) e) [
      | inl here ↦ (k, b.0, b.1, eqb-true d (2 ^ k) here)
      | inr there ↦ depth_among d ks a.1 there
    ]

depth_back : (d : ℕ) → is_depth d ≡ true → IsDepth d
depth_back d e = depth_among d exponents refl e

abbrev is_power : ℕ → Bool
is_power k = not (nat_le 1 k) || is_depth (2 ^ k)

every : ℕ → Bool
every k = true

depth_there : (d : ℕ) → IsDepth d → is_depth d ≡ true
unfolding every
depth_there d h = subst (λ (n : ℕ). is_depth n ≡ true) (sym h.3) (each h.0 h.1 h.2)
  where
    go : (k : ℕ) (t : Bool) → t ≡ true → (not t || is_depth (2 ^ k)) ≡ true → is_depth (2 ^ k) ≡ true
    go k true e f = f
    go k false e f = absurd (false≢true e)

    each : (k : ℕ) → 1 ≤ k → k ≤ 20 → is_depth (2 ^ k) ≡ true
    each k low high = go k (nat_le 1 k) (le-leb 1 k low) (agree_below_at is_power every 21 k refl (omega (arith, high)))

stored_back : (array : ArrayItem) → is_stored array ≡ true → IsStored array
stored_back array e =
    let a = and_parts (is_free_name array.name && is_width array.width) (is_depth array.depth) e in
    let b = and_parts (is_free_name array.name) (is_width array.width) a.0 in
    (free_back array.name b.0, between_back 1 64 array.width b.1, depth_back array.depth a.1)

stored_there : (array : ArrayItem) → IsStored array → is_stored array ≡ true
stored_there array h =
    and_from (is_free_name array.name && is_width array.width) (is_depth array.depth)
    (and_from (is_free_name array.name) (is_width array.width) (free_there array.name h.0) (between_there 1 64 array.width h.1)) (depth_there array.depth h.2)

-- ---- expressions

one_back : (one : OneOp) (w v : ℕ) → one_fit one w ≡ Some v → FitsOne one w × (one_width one w ≡ v)
one_back Not w v e = (tt, cc)
one_back (Cut narrow) w v e = let s = cond_some (nat_le 1 narrow && nat_le narrow w) narrow v e in (between_back 1 w narrow s.0, s.1)
one_back (Widen wide) w v e = let s = cond_some (nat_le w wide && nat_le wide 64) wide v e in (between_back w 64 wide s.0, s.1)

if_true : (b : Bool) (w : ℕ) → b ≡ true → width_if b w ≡ Some w
if_true b w e = ap (λ (t : Bool). width_if t w) e

one_there : (one : OneOp) (w : ℕ) → FitsOne one w → one_fit one w ≡ Some (one_width one w)
one_there Not w h = refl
one_there (Cut narrow) w h = if_true (nat_le 1 narrow && nat_le narrow w) narrow (between_there 1 w narrow h)
one_there (Widen wide) w h = if_true (nat_le w wide && nat_le wide 64) wide (between_there w 64 wide h)

equal_back : (a b w v : ℕ) → width_if (nat_eq a b) w ≡ Some v → (a ≡ b) × (w ≡ v)
equal_back a b w v e = let s = cond_some (nat_eq a b) w v e in (eqb-true a b s.0, s.1)

equal_there : (a b w : ℕ) → a ≡ b → width_if (nat_eq a b) w ≡ Some w
equal_there a b w h = if_true (nat_eq a b) w (eq-eqb a b h)

two_back : (two : TwoOp) (a b v : ℕ) → two_fit two a b ≡ Some v → FitsTwo two a b × (two_width two a ≡ v)
two_back ops.Shl a b v e = (tt, cc)
two_back ops.Shr a b v e = (tt, cc)
two_back ops.Equal a b v e = equal_back a b 1 v e
two_back ops.Less a b v e = equal_back a b 1 v e
two_back ops.Add a b v e = equal_back a b a v e
two_back ops.Sub a b v e = equal_back a b a v e
two_back ops.Mul a b v e = equal_back a b a v e
two_back ops.And a b v e = equal_back a b a v e
two_back ops.Or a b v e = equal_back a b a v e
two_back ops.Xor a b v e = equal_back a b a v e

two_there : (two : TwoOp) (a b : ℕ) → FitsTwo two a b → two_fit two a b ≡ Some (two_width two a)
two_there ops.Shl a b h = refl
two_there ops.Shr a b h = refl
two_there ops.Equal a b h = equal_there a b 1 h
two_there ops.Less a b h = equal_there a b 1 h
two_there ops.Add a b h = equal_there a b a h
two_there ops.Sub a b h = equal_there a b a h
two_there ops.Mul a b h = equal_there a b a h
two_there ops.And a b h = equal_there a b a h
two_there ops.Or a b h = equal_there a b a h
two_there ops.Xor a b h = equal_there a b a h

got_back : (xs : List ℕ) (i w : ℕ) → slice_get xs i ≡ Some w → (i < length xs) × (slice_index xs i ≡ w)
got_back xs i w e = (slice_get_within xs i w e, get_or_from_slice_get xs i w 0 e)

got_there : (xs : List ℕ) (i : ℕ) → i < length xs → slice_get xs i ≡ Some (slice_index xs i)
got_there xs i h = slice_get-get_or xs i 0 h

item_back : (items : List Item) (i w : ℕ) → item_fit items i ≡ Some w → (i < length items) × (slice_index (map (λ item. item.width) items) i ≡ w)
item_back items i w e =
    let r = got_back (map (λ (item : Item). item.width) items) i w (slice_get-map (λ (item : Item). item.width) items i ∙ e) in
    (omega (arith, r.0, length-map items (λ (item : Item). item.width)), r.1)

item_there : (items : List Item) (i : ℕ) → i < length items → item_fit items i ≡ Some (slice_index (map (λ item. item.width) items) i)
item_there items i h =
    sym (slice_get-map (λ (item : Item). item.width) items i) ∙ got_there (map (λ (item : Item). item.width) items) i (omega (arith, h, length-map items (λ (item : Item). item.width)))

cell_back : (p : Program) (a i w : ℕ) → cell_fit p.arrays a i ≡ Some w → (a < length p.arrays) × (array_depth p a ≡ 2 ^ i) × (array_width p a ≡ w)
cell_back p a i w e =
    option_and_then_some (λ (array : ArrayItem). width_if (needs array.depth i) array.width) (slice_get p.arrays a) w e
    (λ x at is. (let s = cond_some (needs x.depth i) x.width w is in (
      slice_get_within p.arrays a x at,
      get_or_from_slice_get (map (λ (array : ArrayItem). array.depth) p.arrays) a x.depth 0 (slice_get-map (λ (array : ArrayItem). array.depth) p.arrays a ∙ ap (option_map (λ (array : ArrayItem). array.depth)) at)
          ∙ eqb-true x.depth (2 ^ i) s.0,
      get_or_from_slice_get (map (λ (array : ArrayItem). array.width) p.arrays) a x.width 0 (slice_get-map (λ (array : ArrayItem). array.width) p.arrays a ∙ ap (option_map (λ (array : ArrayItem). array.width)) at)
          ∙ s.1,
    )))

cell_there : (p : Program) (a i : ℕ) → a < length p.arrays → array_depth p a ≡ 2 ^ i → cell_fit p.arrays a i ≡ Some (array_width p a)
cell_there p a i h deep = go (slice_get p.arrays a) refl
  where
    go : (o : Option ArrayItem) → slice_get p.arrays a ≡ o → cell_fit p.arrays a i ≡ Some (array_width p a)
    go None at = absurd (let d : ArrayItem = record { name = []; width = 0; depth = 0 } in let e = slice_get-get_or p.arrays a d h in cc)
    go (Some x) at =
        let is_depth = get_or_from_slice_get (map (λ (array : ArrayItem). array.depth) p.arrays) a x.depth 0 (slice_get-map (λ (array : ArrayItem). array.depth) p.arrays a ∙ ap (option_map (λ (array : ArrayItem). array.depth)) at) in
        let is_width = get_or_from_slice_get (map (λ (array : ArrayItem). array.width) p.arrays) a x.width 0 (slice_get-map (λ (array : ArrayItem). array.width) p.arrays a ∙ ap (option_map (λ (array : ArrayItem). array.width)) at) in
        ap (option_and_then (λ (array : ArrayItem). width_if (needs array.depth i) array.width)) at
        ∙ if_true (needs x.depth i) x.width (eq-eqb x.depth (2 ^ i) (sym is_depth ∙ deep)) ∙ ap Some (sym is_width)

fit_back : (p : Program) (e : Expr) (w : ℕ) → fit p e ≡ Some w → IsFit p e × (width p e ≡ w)
fit_back p (Const v x) w h =
    let s = cond_some (is_width v && nat_lt x (2 ^ v)) v w h in
    let t = and_parts (is_width v) (nat_lt x (2 ^ v)) s.0 in
    ((between_back 1 64 v t.0, ltb-true x (2 ^ v) t.1), s.1)
fit_back p (Now i) w h = item_back p.items i w h
fit_back p (Before i) w h = item_back p.items i w h
fit_back p (Pin i) w h = item_back p.pins i w h
fit_back p (Temp i) w h = got_back p.temps i w h
fit_back p (Cell a index) w h =
    option_and_then_some (λ (v : ℕ). cell_fit p.arrays a v) (fit p index) w h
    (λ x e g. (let r = fit_back p index x e in let c = cell_back p a x w g in ((c.0, r.0, c.1 ∙ ap (λ (v : ℕ). 2 ^ v) (sym r.1)), c.2)))
fit_back p (One one a) w h =
    option_and_then_some (λ (v : ℕ). one_fit one v) (fit p a) w h
    (λ x e g. (let r = fit_back p a x e in let c = one_back one x w g in ((r.0, subst (FitsOne one) (sym r.1) c.0), ap (one_width one) r.1 ∙ c.1)))
fit_back p (Two two a b) w h =
    option_and_then_some (λ (v : ℕ). option_and_then (λ u. two_fit two v u) (fit p b)) (fit p a) w h
    (λ x e g. option_and_then_some (λ (u : ℕ). two_fit two x u) (fit p b) w g
    (λ y f k. (let r = fit_back p a x e in let s = fit_back p b y f in let c = two_back two x y w k in (
      (r.0, s.0, subst (λ (u : ℕ). FitsTwo two u (width p b)) (sym r.1) (subst (FitsTwo two x) (sym s.1) c.0)),
      ap (two_width two) r.1 ∙ c.1,
    ))))
fit_back p (Choose t a b) w h =
    option_and_then_some (λ (v : ℕ). option_and_then (λ u. option_and_then (λ z. width_if (nat_eq u z) u) (fit p b)) (fit p a)) (fit p t) w h
    (λ z d j. option_and_then_some (λ (u : ℕ). option_and_then (λ z. width_if (nat_eq u z) u) (fit p b)) (fit p a) w j
    (λ x e g. option_and_then_some (λ (y : ℕ). width_if (nat_eq x y) x) (fit p b) w g
    (λ y f k. (let q = fit_back p t z d in let r = fit_back p a x e in let s = fit_back p b y f in let c = equal_back x y x w k in (
      (q.0, r.0, s.0, r.1 ∙ c.0 ∙ sym s.1),
      r.1 ∙ c.1,
    )))))

fit_there : (p : Program) (e : Expr) → IsFit p e → fit p e ≡ Some (width p e)
fit_there p (Const v x) h =
    if_true (is_width v && nat_lt x (2 ^ v)) v (and_from (is_width v) (nat_lt x (2 ^ v)) (between_there 1 64 v h.0) (lt-ltb x (2 ^ v) h.1))
fit_there p (Now i) h = item_there p.items i h
fit_there p (Before i) h = item_there p.items i h
fit_there p (Pin i) h = item_there p.pins i h
fit_there p (Temp i) h = got_there p.temps i h
fit_there p (Cell a index) h = ap (option_and_then (λ (v : ℕ). cell_fit p.arrays a v)) (fit_there p index h.1) ∙ cell_there p a (width p index) h.0 h.2
fit_there p (One one a) h = ap (option_and_then (λ (v : ℕ). one_fit one v)) (fit_there p a h.0) ∙ one_there one (width p a) h.1
fit_there p (Two two a b) h =
    ap (option_and_then (λ (v : ℕ). option_and_then (λ u. two_fit two v u) (fit p b))) (fit_there p a h.0)
    ∙ ap (option_and_then (λ (u : ℕ). two_fit two (width p a) u)) (fit_there p b h.1)
    ∙ two_there two (width p a) (width p b) h.2
fit_there p (Choose t a b) h =
    ap (option_and_then (λ (v : ℕ). option_and_then (λ u. option_and_then (λ z. width_if (nat_eq u z) u) (fit p b)) (fit p a))) (fit_there p t h.0)
    ∙ ap (option_and_then (λ (u : ℕ). option_and_then (λ z. width_if (nat_eq u z) u) (fit p b))) (fit_there p a h.1)
    ∙ ap (option_and_then (λ (z : ℕ). width_if (nat_eq (width p a) z) (width p a))) (fit_there p b h.2)
    ∙ equal_there (width p a) (width p b) (width p a) h.3

-- ---- steps

aim_back : (p : Program) (aim : Aim) (w : ℕ) → aim_fit p aim ≡ Some w → IsAimed p aim w
aim_back p (ToItem i) w h = item_back p.items i w h
aim_back p (ToTemp i) w h = got_back p.temps i w h
aim_back p (ToCell a index) w h = fit_back p (Cell a index) w h

aim_there : (p : Program) (aim : Aim) (w : ℕ) → IsAimed p aim w → aim_fit p aim ≡ Some w
aim_there p (ToItem i) w h = item_there p.items i h.0 ∙ ap Some h.1
aim_there p (ToTemp i) w h = got_there p.temps i h.0 ∙ ap Some h.1
aim_there p (ToCell a index) w h = fit_there p (Cell a index) h.0 ∙ ap Some h.1

some_back : (o : Option ℕ) → option_map_or (λ w. true) o false ≡ true → (w : ℕ) × (o ≡ Some w)
some_back (Some w) e = (w, refl)
some_back None e = absurd (false≢true e)

move_back : (p : Program) (move : Move) → is_move p move ≡ true → IsMove p move
move_back p move e =
    let o = some_back (move_fit p move) e in
    option_and_then_some (λ (g : ℕ). option_and_then (λ v. option_and_then (λ w. width_if (nat_eq v w) w) (aim_fit p move.aim)) (fit p move.value)) (fit p move.guard) o.0 o.1
    (λ g d j. option_and_then_some (λ (v : ℕ). option_and_then (λ w. width_if (nat_eq v w) w) (aim_fit p move.aim)) (fit p move.value) o.0 j
    (λ v f k. option_and_then_some (λ (w : ℕ). width_if (nat_eq v w) w) (aim_fit p move.aim) o.0 k
    (λ w h l. (let a = fit_back p move.guard g d in let b = fit_back p move.value v f in let c = equal_back v w w o.0 l in
    record { guard = a.0; value = b.0; aim = aim_back p move.aim (width p move.value) (h ∙ ap Some (sym c.0 ∙ sym b.1)) }))))

move_there : (p : Program) (move : Move) → IsMove p move → is_move p move ≡ true
move_there p move m =
    ap (λ (o : Option ℕ). option_map_or (λ w. true) o false)
    (ap (option_and_then (λ (g : ℕ). option_and_then (λ v. option_and_then (λ w. width_if (nat_eq v w) w) (aim_fit p move.aim)) (fit p move.value))) (fit_there p move.guard m.guard)
    ∙ ap (option_and_then (λ (v : ℕ). option_and_then (λ w. width_if (nat_eq v w) w) (aim_fit p move.aim))) (fit_there p move.value m.value)
    ∙ ap (option_and_then (λ (w : ℕ). width_if (nat_eq (width p move.value) w) w)) (aim_there p move.aim (width p move.value) m.aim)
    ∙ equal_there (width p move.value) (width p move.value) (width p move.value) refl)

-- ---- programs

firsts_back : (items : List Item) (values : List ℕ) → are_firsts items values ≡ true → IsFitting items values
firsts_back [] [] e = record { count = refl; within = λ k item h. absurd (omega (arith, h)) }
firsts_back [] (v ∷ values) e = absurd (let h : length (v ∷ values) ≡ 0 = eqb-true (length (v ∷ values)) 0 e in omega (arith, h))
firsts_back (item ∷ items) [] e = absurd (false≢true e)
firsts_back (item ∷ items) (v ∷ values) e =
    let a = and_parts (nat_lt v (2 ^ item.width)) (are_firsts items values) e in
    let rest = firsts_back items values a.1 in
    record { count = omega (arith, rest.count); within = each (ltb-true v (2 ^ item.width) a.0) rest }
  where
    each : v < 2 ^ item.width → IsFitting items values → (k : ℕ) (d : Item) → k < length (item ∷ items) → slice_index (v ∷ values) k < 2 ^ (get_or (item ∷ items) k d).width
    each h r zero d k = h
    each h r (suc n) d k = r.within n d (omega (arith, k))

firsts_there : (items : List Item) (values : List ℕ) → IsFitting items values → are_firsts items values ≡ true
firsts_there [] [] f = refl
firsts_there [] (v ∷ values) f = absurd (omega (arith, f.count))
firsts_there (item ∷ items) [] f = absurd (omega (arith, f.count))
firsts_there (item ∷ items) (v ∷ values) f =
    and_from (nat_lt v (2 ^ item.width)) (are_firsts items values) (lt-ltb v (2 ^ item.width) (f.within zero item (omega arith)))
    (firsts_there items values (record { count = omega (arith, f.count); within = λ k d h. f.within (suc k) d (omega (arith, h)) }))

pub formed_back : (p : Program) → is_well_formed p ≡ true → IsWellFormed p
formed_back p e =
    let a = and_parts (is_counted p && is_named p && are_firsts p.items p.first) (list_all (is_move p) p.moves) e in
    let b = and_parts (is_counted p && is_named p) (are_firsts p.items p.first) a.0 in
    let c = and_parts (is_counted p) (is_named p) b.0 in
    let n3 = and_parts (list_all is_declared p.items && list_all is_stored p.arrays && list_all is_declared p.pins) (list_all is_width p.temps) c.1 in
    let n2 = and_parts (list_all is_declared p.items && list_all is_stored p.arrays) (list_all is_declared p.pins) n3.0 in
    let n1 = and_parts (list_all is_declared p.items) (list_all is_stored p.arrays) n2.0 in
    let cells = sum_by (λ (array : ArrayItem). array.depth) p.arrays in
    let k3 = and_parts (nat_le (length p.items) 8192 && nat_le (length p.arrays) 1024 && nat_le (length p.pins) 64) (nat_le cells 4194304) c.0 in
    let k2 = and_parts (nat_le (length p.items) 8192 && nat_le (length p.arrays) 1024) (nat_le (length p.pins) 64) k3.0 in
    let k1 = and_parts (nat_le (length p.items) 8192) (nat_le (length p.arrays) 1024) k2.0 in
    record {
      items = all_back is_declared IsDeclared declared_back p.items n1.0;
      arrays = all_back is_stored IsStored stored_back p.arrays n1.1;
      pins = all_back is_declared IsDeclared declared_back p.pins n2.1;
      temps = all_back is_width IsWidth (between_back 1 64) p.temps n3.1;
      first = firsts_back p.items p.first b.1;
      moves = all_back (is_move p) (IsMove p) (move_back p) p.moves a.1;
      few_items = leb-true (length p.items) 8192 k1.0;
      few_arrays = leb-true (length p.arrays) 1024 k1.1;
      few_cells = leb-true cells 4194304 k3.1;
      few_pins = leb-true (length p.pins) 64 k2.1;
    }

pub formed_there : (p : Program) → IsWellFormed p → is_well_formed p ≡ true
formed_there p w =
    let cells = sum_by (λ (array : ArrayItem). array.depth) p.arrays in
    and_from (is_counted p && is_named p && are_firsts p.items p.first) (list_all (is_move p) p.moves)
    (and_from (is_counted p && is_named p) (are_firsts p.items p.first)
    (and_from (is_counted p) (is_named p)
    (and_from (nat_le (length p.items) 8192 && nat_le (length p.arrays) 1024 && nat_le (length p.pins) 64) (nat_le cells 4194304)
    (and_from (nat_le (length p.items) 8192 && nat_le (length p.arrays) 1024) (nat_le (length p.pins) 64)
    (and_from (nat_le (length p.items) 8192) (nat_le (length p.arrays) 1024) (le-leb (length p.items) 8192 w.few_items) (le-leb (length p.arrays) 1024 w.few_arrays)) (le-leb (length p.pins) 64 w.few_pins)) (le-leb cells 4194304 w.few_cells))
    (and_from (list_all is_declared p.items && list_all is_stored p.arrays && list_all is_declared p.pins) (list_all is_width p.temps)
    (and_from (list_all is_declared p.items && list_all is_stored p.arrays) (list_all is_declared p.pins)
    (and_from (list_all is_declared p.items) (list_all is_stored p.arrays) (all_there is_declared IsDeclared declared_there p.items w.items) (all_there is_stored IsStored stored_there p.arrays w.arrays))
    (all_there is_declared IsDeclared declared_there p.pins w.pins)) (all_there is_width IsWidth (between_there 1 64) p.temps w.temps)))
    (firsts_there p.items p.first w.first))
    (all_there (is_move p) (IsMove p) (move_there p) p.moves w.moves)
