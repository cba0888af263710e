-- As wires are made, each reads what is there, and each operand is as wide as what it stands for; and how many there are.
use Rattle.std.proofs.Common.{◌≡◌, ℕ, zero, suc, ◌+◌, ◌-◌, ◌*◌, ◌^◌, ◌<◌, ◌≤◌, Bool, true, false, ◌&&◌, List, [], ◌∷◌, ◌++◌, length, map, refl, sym, ap, ◌∙◌, subst, arith, nat_eq, cond, length-append, ◌⊎◌, inl, inr, Option, Some, None, ⊎_elim}
use Rattle.std.specs.Prelude.{All, slice_index, slice_index_or, slice_set}
use Rattle.std.specs.List.{slice_get}
use Rattle.std.specs.Option.{option_map}
use Rattle.std.proofs.lemmas.Nat.{pow_pos}
use Rattle.std.proofs.lemmas.Bool.{cases_eq, cases_lt, eqb-true, eqb-false}
use Rattle.std.proofs.lemmas.List.{get_or_append_left, get_or-set_same, get_or-set_other, length-set, length-map, map-append}
use Rattle.std.proofs.lemmas.List.Elements.{All-map, All-head, All-tail}
use Rattle.std.proofs.lemmas.Option.{slice_get_within, slice_get-map, get_or_from_slice_get}
use Rattle.lisa_engine.specs.declared.parts.Item.{Item}
use Rattle.lisa_engine.specs.declared.parts.ArrayItem.{ArrayItem}
use Rattle.step_program.specs.declared.expressions.OneOp.{OneOp}
use Rattle.step_program.specs.declared.expressions.OneOp.TheVariants as ones
use Rattle.step_program.specs.declared.expressions.TwoOp.{TwoOp}
use Rattle.step_program.specs.declared.expressions.TwoOp.TheVariants as ops
use Rattle.step_program.specs.Programs.{Expr, Const, Now, Before, Pin, Temp, Cell, One, Two, Choose, Aim, ToItem, ToTemp, ToCell, Move, Program}
use Rattle.step_program.specs.Effects.{item_width, pin_width, array_width, array_depth, one_width, two_width, width}
use Rattle.step_program.specs.WellFormed.{IsWidth, FitsOne, FitsTwo, IsFit, IsAimed, IsMove, IsWellFormed}
use Rattle.step_program.proofs.Fits.{one_below}
use Rattle.netlist_wires.specs.declared.keys.Flat.{Flat}
use Rattle.netlist_wires.specs.declared.keys.Flat.TheVariants.{Fixed, OfItem, OfPin, OfWire}
use Rattle.netlist_wires.specs.declared.keys.Body.{Body}
use Rattle.netlist_wires.specs.declared.keys.Body.TheVariants.{Copied, Lowest, Padded, Inverse, Load, Operate, Select}
use Rattle.netlist_wires.specs.declared.keys.Key.{Key}
use Rattle.netlist_wires.specs.declared.keys.Write.{Write}
use Rattle.netlist_wires.specs.Tables.{IsFind}
use Rattle.netlist_wires.specs.Costs.{writes_to, expr_cost, aim_cost, arrays_after, move_cost, moves_cost}
use Rattle.netlist_wires.specs.Wiring.{Made, Find, shared, share, behind, load, Sym, nothing, refit, changed, settled, is_zero, keeps_right, keeps_left, combined_by, shifts_out, combined_unless, combined, lower, given_once, given, Going, aimed, gone, gone_all, own_items, begun_going}
use Rattle.netlist_wires.proofs.Longer.{IsLonger, same_longer, then_longer, longer_length}
use Rattle.netlist_wires.proofs.Kept.{both_true, left_width, right_width}
use Rattle.netlist_wires.proofs.Meanings.{at_end}

-- ---- operands that are there

-- a number within its width, or the place of an item, pin, or one of the first wires
abbrev pub IsBelow : Program → ℕ → Flat → Type 0
IsBelow p n (Fixed w v) = IsWidth w × (v < 2 ^ w)
IsBelow p n (OfItem i) = i < length p.items
IsBelow p n (OfPin i) = i < length p.pins
IsBelow p n (OfWire k) = k < n

-- an operand that is no number
abbrev pub IsNamed : Flat → Type 0
IsNamed (Fixed w v) = ⊥
IsNamed (OfItem i) = Unit {0}
IsNamed (OfPin i) = Unit {0}
IsNamed (OfWire k) = Unit {0}

abbrev pub IsBodyBelow : Program → ℕ → Body → Type 0
IsBodyBelow p n (Copied f) = IsBelow p n f
IsBodyBelow p n (Lowest high f) = (high < 64) × IsNamed f × IsBelow p n f
IsBodyBelow p n (Padded zeros f) = IsWidth zeros × IsBelow p n f
IsBodyBelow p n (Inverse f) = IsBelow p n f
IsBodyBelow p n (Load array f) = (array < length p.arrays) × IsBelow p n f
IsBodyBelow p n (Operate op f g) = IsBelow p n f × IsBelow p n g
IsBodyBelow p n (Select c f g) = IsBelow p n c × IsBelow p n f × IsBelow p n g

abbrev pub key_widths : List Key → List ℕ
key_widths keys = map (λ key. key.width) keys

abbrev pub flat_width : Program → List Key → Flat → ℕ
flat_width p keys (Fixed w v) = w
flat_width p keys (OfItem i) = item_width p i
flat_width p keys (OfPin i) = pin_width p i
flat_width p keys (OfWire k) = slice_index (key_widths keys) k

-- an index is as wide as the depth needs, bits lie inside their operand, and what is padded has at most 64 bits
abbrev pub IsIndexed : Program → List Key → Body → Type 0
IsIndexed p keys (Lowest high f) = high < flat_width p keys f
IsIndexed p keys (Padded zeros f) = zeros + flat_width p keys f ≤ 64
IsIndexed p keys (Load array f) = array_depth p array ≡ 2 ^ flat_width p keys f
IsIndexed p keys _ = Unit {0}

pub record IsSound (p : Program) (keys : List Key) (f : Flat) (w : ℕ) : Type 0 where
  pub below : IsBelow p (length keys) f
  pub wide : flat_width p keys f ≡ w

pub record IsKeyAt (p : Program) (keys : List Key) (k : ℕ) (key : Key) : Type 0 where
  pub below : IsBodyBelow p k key.body
  pub small : IsWidth key.width
  pub indexed : IsIndexed p keys key.body

abbrev pub IsOrdered : Program → List Key → Type 0
IsOrdered p keys = (k : ℕ) (key : Key) → slice_get keys k ≡ Some key → IsKeyAt p keys k key

pub below_on : (p : Program) (n m : ℕ) (f : Flat) → n ≤ m → IsBelow p n f → IsBelow p m f
below_on p n m (Fixed w v) h b = b
below_on p n m (OfItem i) h b = b
below_on p n m (OfPin i) h b = b
below_on p n m (OfWire k) h b = omega (arith, h, b)

body_on : (p : Program) (n m : ℕ) (body : Body) → n ≤ m → IsBodyBelow p n body → IsBodyBelow p m body
body_on p n m (Copied f) h b = below_on p n m f h b
body_on p n m (Lowest high f) h b = (b.0, b.1, below_on p n m f h b.2)
body_on p n m (Padded zeros f) h b = (b.0, below_on p n m f h b.1)
body_on p n m (Inverse f) h b = below_on p n m f h b
body_on p n m (Load array f) h b = (b.0, below_on p n m f h b.1)
body_on p n m (Operate op f g) h b = (below_on p n m f h b.0, below_on p n m g h b.1)
body_on p n m (Select c f g) h b = (below_on p n m c h b.0, below_on p n m f h b.1, below_on p n m g h b.2)

pub flat_width_on : (p : Program) {keys now : List Key} (f : Flat) → IsLonger keys now → IsBelow p (length keys) f → flat_width p now f ≡ flat_width p keys f
flat_width_on p (Fixed w v) g b = refl
flat_width_on p (OfItem i) g b = refl
flat_width_on p (OfPin i) g b = refl
flat_width_on p {keys = keys} (OfWire k) g b =
    ap (λ (ks : List Key). slice_index (key_widths ks) k) g.is
    ∙ ap (λ (ws : List ℕ). slice_index ws k) (map-append (λ (key : Key). key.width) keys g.more)
    ∙ get_or_append_left (key_widths keys) (key_widths g.more) 0 k (omega (arith, b, length-map keys (λ (key : Key). key.width)))

indexed_on : (p : Program) {keys now : List Key} (body : Body) → IsLonger keys now → IsBodyBelow p (length keys) body → IsIndexed p keys body → IsIndexed p now body
indexed_on p (Copied f) g b i = tt
indexed_on p (Lowest high f) g b i = omega (arith, i, flat_width_on p f g b.2)
indexed_on p (Padded zeros f) g b i = omega (arith, i, flat_width_on p f g b.1)
indexed_on p (Inverse f) g b i = tt
indexed_on p (Load array f) g b i = i ∙ ap (λ (w : ℕ). 2 ^ w) (sym (flat_width_on p f g b.1))
indexed_on p (Operate op f h) g b i = tt
indexed_on p (Select c f h) g b i = tt

pub sound_on : (p : Program) {keys now : List Key} (f : Flat) (w : ℕ) → IsLonger keys now → IsSound p keys f w → IsSound p now f w
sound_on p {keys = keys} {now = now} f w g s = record { below = below_on p (length keys) (length now) f (longer_length g) s.below; wide = flat_width_on p f g s.below ∙ s.wide }

pub record Grown (p : Program) (keys : List Key) (out : Made) (most w : ℕ) : Type 0 where
  pub longer : IsLonger keys out.keys
  pub few : length out.keys ≤ length keys + most
  pub ordered : IsOrdered p keys → IsOrdered p out.keys
  pub sound : IsSound p out.keys out.flat w

then_grown : {m n v w : ℕ} (p : Program) (keys : List Key) (a b : Made) → Grown p keys a m v → Grown p a.keys b n w → Grown p keys b (m + n) w
then_grown p keys a b g h = record { longer = then_longer g.longer h.longer; few = omega (arith, g.few, h.few); ordered = λ o. h.ordered (g.ordered o); sound = h.sound }

back : (keys : List Key) (new : Key) (k : ℕ) (key : Key) → slice_get (keys ++ (new ∷ [])) k ≡ Some key → (slice_get keys k ≡ Some key) ⊎ ((k ≡ length keys) × (key ≡ new))
back [] new zero key e = inr (refl, cc)
back [] new (suc k) key e = absurd (cc)
back (x ∷ keys) new zero key e = inl e
back (x ∷ keys) new (suc k) key e = elim (back keys new k key e) [ inl h ↦ inl h | inr h ↦ inr (ap suc h.0, h.1) ]

width_there : (keys : List Key) (k : ℕ) (key : Key) → slice_get keys k ≡ Some key → slice_index (key_widths keys) k ≡ key.width
width_there keys k key e =
    get_or_from_slice_get (key_widths keys) k key.width 0 (slice_get-map (λ (key : Key). key.width) keys k ∙ ap (option_map (λ (key : Key). key.width)) e)

-- ---- widths

module _ (p : Program) (formed : IsWellFormed p) where
  pub item_small : (i : ℕ) → i < length p.items → IsWidth (item_width p i)
  item_small i h = All-map IsWidth (λ (item : Item). item.width) p.items (λ k d l. (formed.items k d l).1) i 0 (omega (arith, h, length-map p.items (λ (item : Item). item.width)))

  pub pin_small : (i : ℕ) → i < length p.pins → IsWidth (pin_width p i)
  pin_small i h = All-map IsWidth (λ (item : Item). item.width) p.pins (λ k d l. (formed.pins k d l).1) i 0 (omega (arith, h, length-map p.pins (λ (item : Item). item.width)))

  pub array_small : (i : ℕ) → i < length p.arrays → IsWidth (array_width p i)
  array_small i h = All-map IsWidth (λ (array : ArrayItem). array.width) p.arrays (λ k d l. (formed.arrays k d l).1) i 0 (omega (arith, h, length-map p.arrays (λ (array : ArrayItem). array.width)))

  pub temp_small : (i : ℕ) → i < length p.temps → IsWidth (slice_index p.temps i)
  temp_small i h = formed.temps i 0 h

  one_small : (one : OneOp) (w : ℕ) → IsWidth w → FitsOne one w → IsWidth (one_width one w)
  one_small ones.Not w h f = h
  one_small (ones.Cut narrow) w h f = (f.0, omega (arith, f.1, h.1))
  one_small (ones.Widen wide) w h f = (omega (arith, f.0, h.0), f.1)

  two_small : (op : TwoOp) (w : ℕ) → IsWidth w → IsWidth (two_width op w)
  two_small ops.Add w h = h
  two_small ops.Sub w h = h
  two_small ops.Mul w h = h
  two_small ops.And w h = h
  two_small ops.Or w h = h
  two_small ops.Xor w h = h
  two_small ops.Shl w h = h
  two_small ops.Shr w h = h
  two_small ops.Equal w h = (omega arith, omega arith)
  two_small ops.Less w h = (omega arith, omega arith)

  pub fit_small : (e : Expr) → IsFit p e → IsWidth (width p e)
  fit_small (Const w v) fit = fit.0
  fit_small (Now i) fit = item_small i fit
  fit_small (Before i) fit = item_small i fit
  fit_small (Pin i) fit = pin_small i fit
  fit_small (Temp i) fit = temp_small i fit
  fit_small (Cell a index) fit = array_small a fit.0
  fit_small (One one a) fit = one_small one (width p a) (fit_small a fit.0) fit.1
  fit_small (Two op a b) fit = two_small op (width p a) (fit_small a fit.0)
  fit_small (Choose t a b) fit = fit_small a fit.1

  module _ (find : Find) (is_find : IsFind find) where
    pub share_grown : (w : ℕ) (body : Body) (keys : List Key) → IsWidth w → IsBodyBelow p (length keys) body → IsIndexed p keys body → Grown p keys (share find w body keys) 1 w
    unfolding share
    share_grown w body keys small below indexed = go (find keys (record { width = w; body = body })) refl
      where
        go : (o : Option ℕ) → find keys (record { width = w; body = body }) ≡ o → Grown p keys (shared o (record { width = w; body = body }) keys) 1 w
        go (Some k) e =
            let at = is_find keys (record { width = w; body = body }) k e in
            record {
              longer = same_longer keys;
              few = omega arith;
              ordered = λ h. h;
              sound = record { below = slice_get_within keys k (record { width = w; body = body }) at; wide = width_there keys k (record { width = w; body = body }) at };
            }
        go None e =
            let new : Key = record { width = w; body = body } in
            let long : IsLonger keys (keys ++ (new ∷ [])) = record { more = new ∷ []; is = refl } in
            let many : length (keys ++ (new ∷ [])) ≡ length keys + 1 = length-append keys (new ∷ []) in
            record {
              longer = long;
              few = omega (arith, many);
              ordered = λ h k key at.
                  elim (back keys new k key at) [
                    | inl a ↦ (let is = h k key a in let less = slice_get_within keys k key a in
                        record { below = is.below; small = is.small; indexed = indexed_on p key.body long (body_on p k (length keys) key.body (omega (arith, less)) is.below) is.indexed })
                    | inr a ↦ subst (λ (x : Key). IsKeyAt p (keys ++ (new ∷ [])) k x) (sym a.1)
                        (subst (λ (n : ℕ). IsKeyAt p (keys ++ (new ∷ [])) n new) (sym a.0) (record { below = below; small = small; indexed = indexed_on p body long below indexed }))
                  ];
              sound = record { below = omega (arith, many); wide = width_there (keys ++ (new ∷ [])) (length keys) new (at_end keys new) };
            }

    -- ---- what is made so far is there

    pub record IsWriteSound (keys : List Key) (write : Write) : Type 0 where
      pub array : write.array < length p.arrays
      pub guard : IsBelow p (length keys) write.guard
      pub index : IsBelow p (length keys) write.index
      pub deep : array_depth p write.array ≡ 2 ^ flat_width p keys write.index
      pub value : IsBelow p (length keys) write.value

    abbrev pub AreSound : List Key → List Write → Type 0
    AreSound keys [] = Unit {0}
    AreSound keys (w ∷ ws) = IsWriteSound keys w × AreSound keys ws

    pub record IsSymSound (keys : List Key) (s : Sym) : Type 0 where
      pub items_many : length s.items ≡ length p.items
      pub temps_many : length s.temps ≡ length p.temps
      pub items : (i : ℕ) → i < length p.items → IsSound p keys (slice_index_or s.items i nothing) (item_width p i)
      pub temps : (i : ℕ) → i < length p.temps → IsSound p keys (slice_index_or s.temps i nothing) (slice_index p.temps i)
      pub writes : AreSound keys s.writes

    writes_on : {keys now : List Key} (ws : List Write) → IsLonger keys now → AreSound keys ws → AreSound now ws
    writes_on [] g b = tt
    writes_on {keys = keys} {now = now} (w ∷ ws) g b = (
      record {
        array = b.0.array;
        guard = below_on p (length keys) (length now) w.guard (longer_length g) b.0.guard;
        index = below_on p (length keys) (length now) w.index (longer_length g) b.0.index;
        deep = b.0.deep ∙ ap (λ (n : ℕ). 2 ^ n) (sym (flat_width_on p w.index g b.0.index));
        value = below_on p (length keys) (length now) w.value (longer_length g) b.0.value;
      },
      writes_on ws g b.1,
    )

    pub sym_on : {keys now : List Key} (s : Sym) → IsLonger keys now → IsSymSound keys s → IsSymSound now s
    sym_on s g b = record {
      items_many = b.items_many;
      temps_many = b.temps_many;
      items = λ i h. sound_on p (slice_index_or s.items i nothing) (item_width p i) g (b.items i h);
      temps = λ i h. sound_on p (slice_index_or s.temps i nothing) (slice_index p.temps i) g (b.temps i h);
      writes = writes_on s.writes g b.writes;
    }

    abbrev pub arrays_of : List Write → List ℕ
    arrays_of ws = map (λ write. write.array) ws

    abbrev extra : Bool → ℕ
    extra same = cond same 3 0

    behind_grown : (a : ℕ) (same : Bool) (w : Write) (x : Flat) (found : Made) → IsWidth (array_width p a) → IsBelow p (length found.keys) w.guard → IsBelow p (length found.keys) w.index
        → IsBelow p (length found.keys) w.value → IsBelow p (length found.keys) x → IsSound p found.keys found.flat (array_width p a)
        → Grown p found.keys (behind find (array_width p a) same w x found) (extra same) (array_width p a)
    behind_grown a false w x found small g i v bx sound = record { longer = same_longer found.keys; few = omega arith; ordered = λ h. h; sound = sound }
    behind_grown a true w x r small g i v bx sound =
        let width = array_width p a in
        let e = share find 1 (Operate ops.Equal w.index x) r.keys in
        let c = share find width (Select w.guard w.value r.flat) e.keys in
        let d = share find width (Select e.flat c.flat r.flat) c.keys in
        let ge : Grown p r.keys e 1 1 = share_grown 1 (Operate ops.Equal w.index x) r.keys (omega arith, omega arith) (i, bx) tt in
        let to_e = longer_length ge.longer in
        let gc : Grown p e.keys c 1 width = share_grown width (Select w.guard w.value r.flat) e.keys small
        (below_on p (length r.keys) (length e.keys) w.guard to_e g, below_on p (length r.keys) (length e.keys) w.value to_e v, below_on p (length r.keys) (length e.keys) r.flat to_e sound.below) tt in
        let to_c = longer_length gc.longer in
        let gd : Grown p c.keys d 1 width = share_grown width (Select e.flat c.flat r.flat) c.keys small
        (below_on p (length e.keys) (length c.keys) e.flat to_c ge.sound.below, gc.sound.below, below_on p (length r.keys) (length c.keys) r.flat (omega (arith, to_e, to_c)) sound.below) tt in
        then_grown p r.keys e d ge (then_grown p e.keys c d gc gd)

    more_writes : (a : ℕ) (w : Write) (ws : List Write) → 1 + 3 * writes_to a (arrays_of ws) + extra (nat_eq w.array a) ≡ 1 + 3 * writes_to a (arrays_of (w ∷ ws))
    more_writes a w ws = go (nat_eq w.array a)
      where
        go : (b : Bool) → 1 + 3 * writes_to a (arrays_of ws) + extra b ≡ 1 + 3 * cond b (1 + writes_to a (arrays_of ws)) (writes_to a (arrays_of ws))
        go true = omega arith
        go false = omega arith

    load_grown : (a : ℕ) (ws : List Write) (x : Flat) (keys : List Key) → a < length p.arrays → AreSound keys ws → IsBelow p (length keys) x → array_depth p a ≡ 2 ^ flat_width p keys x
        → Grown p keys (load find p a ws x keys) (1 + 3 * writes_to a (arrays_of ws)) (array_width p a)
    load_grown a [] x keys less bs bx deep = share_grown (array_width p a) (Load a x) keys (array_small a less) (less, bx) deep
    load_grown a (w ∷ ws) x keys less bs bx deep =
        let r = load find p a ws x keys in
        let gr : Grown p keys r (1 + 3 * writes_to a (arrays_of ws)) (array_width p a) = load_grown a ws x keys less bs.1 bx deep in
        let to_r = longer_length gr.longer in
        let on : (f : Flat) → IsBelow p (length keys) f → IsBelow p (length r.keys) f = λ f b. below_on p (length keys) (length r.keys) f to_r b in
        let out = behind find (array_width p a) (nat_eq w.array a) w x r in
        subst (λ (n : ℕ). Grown p keys out n (array_width p a)) (more_writes a w ws)
        (then_grown p keys r out gr (behind_grown a (nat_eq w.array a) w x r (array_small a less) (on w.guard bs.0.guard) (on w.index bs.0.index) (on w.value bs.0.value) (on x bx) gr.sound))

    refit_grown : (same : Bool) (to w : ℕ) (body : Body) (f : Flat) (keys : List Key) → nat_eq to w ≡ same → IsWidth to → IsSound p keys f w
        → (same ≡ false → IsNamed f → IsBodyBelow p (length keys) body × IsIndexed p keys body) → Grown p keys (refit find same to body f keys) 1 to
    refit_grown true to w body f keys e small sound ok = record { longer = same_longer keys; few = omega arith; ordered = λ h. h; sound = subst (IsSound p keys f) (sym (eqb-true to w e)) sound }
    refit_grown false to w body (Fixed v b) keys e small sound ok =
        record { longer = same_longer keys; few = omega arith; ordered = λ h. h; sound = record { below = (small, one_below (ones.Cut to) w b); wide = refl } }
    refit_grown false to w body (OfItem i) keys e small sound ok = share_grown to body keys small (ok refl tt).0 (ok refl tt).1
    refit_grown false to w body (OfPin i) keys e small sound ok = share_grown to body keys small (ok refl tt).0 (ok refl tt).1
    refit_grown false to w body (OfWire k) keys e small sound ok = share_grown to body keys small (ok refl tt).0 (ok refl tt).1

    changed_grown : (one : OneOp) (w : ℕ) (f : Flat) (keys : List Key) → IsWidth (one_width one w) → FitsOne one w → IsSound p keys f w → Grown p keys (changed find one w f keys) 1 (one_width one w)
    changed_grown ones.Not w f keys small fit sound = share_grown w (Inverse f) keys small sound.below tt
    changed_grown (ones.Cut narrow) w f keys small fit sound =
        refit_grown (nat_eq narrow w) narrow w (Lowest (narrow - 1) f) f keys refl small sound (λ other named. ((omega (arith, small.1), named, sound.below), omega (arith, fit, sound.wide)))
    changed_grown (ones.Widen wide) w f keys small fit sound =
        refit_grown (nat_eq wide w) wide w (Padded (wide - w) f) f keys refl small sound (λ other named. (let more : w < wide = wider wide w fit.0 other in
        (((omega (arith, more), omega (arith, fit.1)), sound.below), omega (arith, more, fit.1, sound.wide))))
      where
        wider : (a b : ℕ) → b ≤ a → nat_eq a b ≡ false → b < a
        wider a b le other = ⊎_elim (λ less. less) (λ ge. absurd (eqb-false a b other (omega (arith, le, ge)))) (cases_lt b a)

    settled_grown : (w : ℕ) (f : Flat) (keys : List Key) → IsWidth w → IsSound p keys f w → Grown p keys (settled find w f keys) 1 w
    settled_grown w (Fixed v b) keys small sound = record { longer = same_longer keys; few = omega arith; ordered = λ h. h; sound = sound }
    settled_grown w (OfItem i) keys small sound = share_grown w (Copied (OfItem i)) keys small sound.below tt
    settled_grown w (OfPin i) keys small sound = share_grown w (Copied (OfPin i)) keys small sound.below tt
    settled_grown w (OfWire k) keys small sound = record { longer = same_longer keys; few = omega arith; ordered = λ h. h; sound = sound }

    combined_by_grown : (op : TwoOp) (w v : ℕ) (right left : Bool) (f g : Flat) (keys : List Key) → (keeps_right op && is_zero f) ≡ right → (keeps_left op && is_zero g) ≡ left → IsWidth (two_width op w) → FitsTwo op w v
        → IsSound p keys f w → IsSound p keys g v → Grown p keys (combined_by find op (two_width op w) right left f g keys) 1 (two_width op w)
    combined_by_grown op w v true left f g keys is_r is_l small fit sf sg = settled_grown (two_width op w) g keys small (subst (IsSound p keys g) (right_width op w v (both_true is_r).0 fit) sg)
    combined_by_grown op w v false true f g keys is_r is_l small fit sf sg = settled_grown (two_width op w) f keys small (subst (IsSound p keys f) (left_width op w (both_true is_l).0) sf)
    combined_by_grown op w v false false f g keys is_r is_l small fit sf sg = share_grown (two_width op w) (Operate op f g) keys small (sf.below, sg.below) tt

    combined_unless_grown : (op : TwoOp) (w v : ℕ) (out : Bool) (f g : Flat) (keys : List Key) → IsWidth (two_width op w) → FitsTwo op w v → IsSound p keys f w → IsSound p keys g v
        → Grown p keys (combined_unless find op (two_width op w) out f g keys) 1 (two_width op w)
    combined_unless_grown op w v true f g keys small fit sf sg =
        record { longer = same_longer keys; few = omega arith; ordered = λ h. h; sound = record { below = (small, pow_pos (two_width op w)); wide = refl } }
    combined_unless_grown op w v false f g keys small fit sf sg = combined_by_grown op w v (keeps_right op && is_zero f) (keeps_left op && is_zero g) f g keys refl refl small fit sf sg

    combined_grown : (op : TwoOp) (w v : ℕ) (f g : Flat) (keys : List Key) → IsWidth (two_width op w) → FitsTwo op w v → IsSound p keys f w → IsSound p keys g v
        → Grown p keys (combined find op (two_width op w) f g keys) 1 (two_width op w)
    combined_grown op w v f g keys small fit sf sg = combined_unless_grown op w v (shifts_out op (two_width op w) g) f g keys small fit sf sg

    pub lower_grown : (s : Sym) (e : Expr) (keys : List Key) → IsSymSound keys s → IsFit p e → Grown p keys (lower find p s e keys) (expr_cost (arrays_of s.writes) e) (width p e)
    lower_grown s (Const w v) keys b fit = record { longer = same_longer keys; few = omega arith; ordered = λ h. h; sound = record { below = fit; wide = refl } }
    lower_grown s (Now i) keys b fit = record { longer = same_longer keys; few = omega arith; ordered = λ h. h; sound = b.items i fit }
    lower_grown s (Before i) keys b fit = record { longer = same_longer keys; few = omega arith; ordered = λ h. h; sound = record { below = fit; wide = refl } }
    lower_grown s (Pin i) keys b fit = record { longer = same_longer keys; few = omega arith; ordered = λ h. h; sound = record { below = fit; wide = refl } }
    lower_grown s (Temp i) keys b fit = record { longer = same_longer keys; few = omega arith; ordered = λ h. h; sound = b.temps i fit }
    lower_grown s (Cell a index) keys b fit =
        let arrays = arrays_of s.writes in
        let x = lower find p s index keys in
        let gx : Grown p keys x (expr_cost arrays index) (width p index) = lower_grown s index keys b fit.1 in
        then_grown p keys x (load find p a s.writes x.flat x.keys) gx
        (load_grown a s.writes x.flat x.keys fit.0 (writes_on s.writes gx.longer b.writes) gx.sound.below (fit.2 ∙ ap (λ (w : ℕ). 2 ^ w) (sym gx.sound.wide)))
    lower_grown s (One one a) keys b fit =
        let x = lower find p s a keys in
        let gx : Grown p keys x (expr_cost (arrays_of s.writes) a) (width p a) = lower_grown s a keys b fit.0 in
        then_grown p keys x (changed find one (width p a) x.flat x.keys) gx (changed_grown one (width p a) x.flat x.keys (fit_small (One one a) fit) fit.1 gx.sound)
    lower_grown s (Two op a b) keys bs fit =
        let arrays = arrays_of s.writes in
        let x = lower find p s a keys in
        let y = lower find p s b x.keys in
        let gx : Grown p keys x (expr_cost arrays a) (width p a) = lower_grown s a keys bs fit.0 in
        let gy : Grown p x.keys y (expr_cost arrays b) (width p b) = lower_grown s b x.keys (sym_on s gx.longer bs) fit.1 in
        let out = combined find op (width p (Two op a b)) x.flat y.flat y.keys in
        let go : Grown p y.keys out 1 (width p (Two op a b)) = combined_grown op (width p a) (width p b) x.flat y.flat y.keys (fit_small (Two op a b) fit) fit.2 (sound_on p x.flat (width p a) gy.longer gx.sound) gy.sound in
        then_grown p keys x out gx (then_grown p x.keys y out gy go)
    lower_grown s (Choose t a b) keys bs fit =
        let arrays = arrays_of s.writes in
        let c = lower find p s t keys in
        let x = lower find p s a c.keys in
        let y = lower find p s b x.keys in
        let gc : Grown p keys c (expr_cost arrays t) (width p t) = lower_grown s t keys bs fit.0 in
        let gx : Grown p c.keys x (expr_cost arrays a) (width p a) = lower_grown s a c.keys (sym_on s gc.longer bs) fit.1 in
        let gy : Grown p x.keys y (expr_cost arrays b) (width p b) = lower_grown s b x.keys (sym_on s (then_longer gc.longer gx.longer) bs) fit.2 in
        let out = share find (width p a) (Select c.flat x.flat y.flat) y.keys in
        let go : Grown p y.keys out 1 (width p a) = share_grown (width p a) (Select c.flat x.flat y.flat) y.keys (fit_small a fit.1) (
          below_on p (length c.keys) (length y.keys) c.flat (longer_length (then_longer gx.longer gy.longer)) gc.sound.below,
          below_on p (length x.keys) (length y.keys) x.flat (longer_length gy.longer) gx.sound.below,
          gy.sound.below,
        ) tt in
        then_grown p keys c out gc (then_grown p c.keys x out gx (then_grown p x.keys y out gy go))

    -- ---- steps

    pub record Went (keys : List Key) (out : Going) (most : ℕ) : Type 0 where
      pub longer : IsLonger keys out.keys
      pub few : length out.keys ≤ length keys + most
      pub ordered : IsOrdered p keys → IsOrdered p out.keys
      pub sym : IsSymSound out.keys out.sym

    flats_set : (keys : List Key) (ws : List ℕ) (fs : List Flat) (n i : ℕ) (f : Flat) → length fs ≡ n → i < n → IsSound p keys f (slice_index ws i)
        → ((j : ℕ) → j < n → IsSound p keys (slice_index_or fs j nothing) (slice_index ws j)) → (j : ℕ) → j < n → IsSound p keys (slice_index_or (slice_set fs i f) j nothing) (slice_index ws j)
    flats_set keys ws fs n i f many less new all j h = elim (cases_eq j i) [
      | inl same ↦ subst (λ (j : ℕ). IsSound p keys (slice_index_or (slice_set fs i f) j nothing) (slice_index ws j)) (sym same)
          (subst (λ (g : Flat). IsSound p keys g (slice_index ws i)) (sym (get_or-set_same fs i f nothing (omega (arith, many, less)))) new)
      | inr other ↦ subst (λ (g : Flat). IsSound p keys g (slice_index ws j)) (sym (get_or-set_other fs i j f nothing other)) (all j h)
    ]

    given_once_grown : (w : ℕ) (zero : Bool) (v old : Flat) (keys : List Key) → IsWidth w → IsSound p keys v w → IsSound p keys old w → Grown p keys (given_once find w zero v old keys) 1 w
    given_once_grown w true v old keys small bv bold = record { longer = same_longer keys; few = omega arith; ordered = λ h. h; sound = bold }
    given_once_grown w false v old keys small bv bold = settled_grown w v keys small bv

    given_grown : (w : ℕ) (g v old : Flat) (keys : List Key) → IsWidth w → IsBelow p (length keys) g → IsSound p keys v w → IsSound p keys old w → Grown p keys (given find w g v old keys) 1 w
    given_grown w (Fixed u n) v old keys small bg bv bold = given_once_grown w (nat_eq n 0) v old keys small bv bold
    given_grown w (OfItem i) v old keys small bg bv bold = share_grown w (Select (OfItem i) v old) keys small (bg, bv.below, bold.below) tt
    given_grown w (OfPin i) v old keys small bg bv bold = share_grown w (Select (OfPin i) v old) keys small (bg, bv.below, bold.below) tt
    given_grown w (OfWire k) v old keys small bg bv bold = share_grown w (Select (OfWire k) v old) keys small (bg, bv.below, bold.below) tt

    aimed_grown : (s : Sym) (aim : Aim) (w : ℕ) (g v : Flat) (keys : List Key) → IsSymSound keys s → IsWidth w → IsBelow p (length keys) g → IsSound p keys v w → IsAimed p aim w
        → Went keys (aimed find p s aim w g v keys) (aim_cost (arrays_of s.writes) aim)
    aimed_grown s (ToItem i) w g v keys b small bg bv aim =
        let f = slice_index_or s.items i nothing in
        let c = given find w g v f keys in
        let gc : Grown p keys c 1 w = given_grown w g v f keys small bg bv (subst (IsSound p keys f) aim.1 (b.items i aim.0)) in
        let on = sym_on s gc.longer b in
        record {
          longer = gc.longer;
          few = gc.few;
          ordered = gc.ordered;
          sym = record {
            items_many = length-set s.items i c.flat ∙ on.items_many;
            temps_many = on.temps_many;
            items = flats_set c.keys (map (λ (item : Item). item.width) p.items) s.items (length p.items) i c.flat on.items_many aim.0 (subst (IsSound p c.keys c.flat) (sym aim.1) gc.sound) on.items;
            temps = on.temps;
            writes = on.writes;
          };
        }
    aimed_grown s (ToTemp i) w g v keys b small bg bv aim =
        let f = slice_index_or s.temps i nothing in
        let c = given find w g v f keys in
        let gc : Grown p keys c 1 w = given_grown w g v f keys small bg bv (subst (IsSound p keys f) aim.1 (b.temps i aim.0)) in
        let on = sym_on s gc.longer b in
        record {
          longer = gc.longer;
          few = gc.few;
          ordered = gc.ordered;
          sym = record {
            items_many = on.items_many;
            temps_many = length-set s.temps i c.flat ∙ on.temps_many;
            items = on.items;
            temps = flats_set c.keys p.temps s.temps (length p.temps) i c.flat on.temps_many aim.0 (subst (IsSound p c.keys c.flat) (sym aim.1) gc.sound) on.temps;
            writes = on.writes;
          };
        }
    aimed_grown s (ToCell a index) w g v keys b small bg bv aim =
        let x = lower find p s index keys in
        let gx : Grown p keys x (expr_cost (arrays_of s.writes) index) (width p index) = lower_grown s index keys b aim.0.1 in
        let on = sym_on s gx.longer b in
        let far = longer_length gx.longer in
        record {
          longer = gx.longer;
          few = gx.few;
          ordered = gx.ordered;
          sym = record {
            items_many = on.items_many;
            temps_many = on.temps_many;
            items = on.items;
            temps = on.temps;
            writes = (
              record {
                array = aim.0.0;
                guard = below_on p (length keys) (length x.keys) g far bg;
                index = gx.sound.below;
                deep = aim.0.2 ∙ ap (λ (n : ℕ). 2 ^ n) (sym gx.sound.wide);
                value = below_on p (length keys) (length x.keys) v far bv.below;
              },
              on.writes,
            );
          };
        }

    gone_grown : (go : Going) (move : Move) → IsSymSound go.keys go.sym → IsMove p move → Went go.keys (gone find p go move) (move_cost (arrays_of go.sym.writes) move)
    gone_grown go move b is =
        let arrays = arrays_of go.sym.writes in
        let g = lower find p go.sym move.guard go.keys in
        let v = lower find p go.sym move.value g.keys in
        let gg : Grown p go.keys g (expr_cost arrays move.guard) (width p move.guard) = lower_grown go.sym move.guard go.keys b is.guard in
        let gv : Grown p g.keys v (expr_cost arrays move.value) (width p move.value) = lower_grown go.sym move.value g.keys (sym_on go.sym gg.longer b) is.value in
        let to_v = then_longer gg.longer gv.longer in
        let out = aimed find p go.sym move.aim (width p move.value) g.flat v.flat v.keys in
        let w : Went v.keys out (aim_cost arrays move.aim) = aimed_grown go.sym move.aim (width p move.value) g.flat v.flat v.keys (sym_on go.sym to_v b) (fit_small move.value is.value)
        (below_on p (length g.keys) (length v.keys) g.flat (longer_length gv.longer) gg.sound.below) gv.sound is.aim in
        record { longer = then_longer to_v w.longer; few = omega (arith, gg.few, gv.few, w.few); ordered = λ h. w.ordered (gv.ordered (gg.ordered h)); sym = w.sym }

    arrays_then : (s : Sym) (aim : Aim) (w : ℕ) (g v : Flat) (keys : List Key) → arrays_of (aimed find p s aim w g v keys).sym.writes ≡ arrays_after aim (arrays_of s.writes)
    arrays_then s (ToItem i) w g v keys = refl
    arrays_then s (ToTemp i) w g v keys = refl
    arrays_then s (ToCell a index) w g v keys = refl

    pub all_grown : (go : Going) (moves : List Move) → IsSymSound go.keys go.sym → All (IsMove p) moves → Went go.keys (gone_all find p go moves) (moves_cost (arrays_of go.sym.writes) moves)
    all_grown go [] b all = record { longer = same_longer go.keys; few = omega arith; ordered = λ h. h; sym = b }
    all_grown go (move ∷ moves) b all =
        let arrays = arrays_of go.sym.writes in
        let one = gone find p go move in
        let w = gone_grown go move b (All-head (IsMove p) move moves all) in
        let g = lower find p go.sym move.guard go.keys in
        let v = lower find p go.sym move.value g.keys in
        let r : Went one.keys (gone_all find p one moves) (moves_cost (arrays_after move.aim arrays) moves) =
        subst (λ (all : List ℕ). Went one.keys (gone_all find p one moves) (moves_cost all moves)) (arrays_then go.sym move.aim (width p move.value) g.flat v.flat v.keys)
        (all_grown one moves w.sym (All-tail (IsMove p) move moves all)) in
        record { longer = then_longer w.longer r.longer; few = omega (arith, w.few, r.few); ordered = λ h. r.ordered (w.ordered h); sym = r.sym }

    -- ---- as an edge begins

    own_at : (from : ℕ) (items : List Item) (i : ℕ) → i < length items → slice_index_or (own_items from items) i nothing ≡ OfItem (from + i)
    own_at from [] i h = absurd (omega (arith, h))
    own_at from (x ∷ items) zero h = ap OfItem (omega arith)
    own_at from (x ∷ items) (suc i) h = own_at (suc from) items i (omega (arith, h)) ∙ ap OfItem (omega arith)

    own_many : (from : ℕ) (items : List Item) → length (own_items from items) ≡ length items
    own_many from [] = refl
    own_many from (x ∷ items) = omega (arith, own_many (suc from) items)

    zero_at : (ws : List ℕ) (i : ℕ) → i < length ws → slice_index_or (map (λ w. Fixed w 0) ws) i nothing ≡ Fixed (slice_index ws i) 0
    zero_at [] i h = absurd (omega (arith, h))
    zero_at (w ∷ ws) zero h = refl
    zero_at (w ∷ ws) (suc i) h = zero_at ws i (omega (arith, h))

    pub begun_sound : IsSymSound [] (begun_going p).sym
    begun_sound = record {
      items_many = own_many 0 p.items;
      temps_many = length-map p.temps (λ (w : ℕ). Fixed w 0);
      items = λ i h. subst (λ (f : Flat). IsSound p [] f (item_width p i)) (sym (own_at 0 p.items i h ∙ ap OfItem {x = 0 + i} {y = i} (omega arith))) (record { below = h; wide = refl });
      temps = λ i h. subst (λ (f : Flat). IsSound p [] f (slice_index p.temps i)) (sym (zero_at p.temps i h)) (record { below = (temp_small i h, pow_pos (slice_index p.temps i)); wide = refl });
      writes = tt;
    }
