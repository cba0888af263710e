-- What is made stands for the present values.
use Rattle.std.proofs.Common.{◌≡◌, ℕ, ◌-◌, suc, ◌%◌, ◌^◌, ◌<◌, Bool, true, false, ◌&&◌, List, [], ◌∷◌, ◌++◌, length, map, refl, sym, ap, ap₂, ◌∙◌, subst, arith, nat_eq, cond, append_assoc, length-append, Option, Some, None}
use Rattle.std.specs.Prelude.{fold, slice_index, slice_index_or, slice_set, All}
use Rattle.std.specs.List.{slice_get}
use Rattle.std.proofs.lemmas.Bool.{eqb-true, eqb-false}
use Rattle.std.proofs.lemmas.List.{map-set, get_or-set_same, get_or-set_other, set-get_or, length-map}
use Rattle.std.proofs.lemmas.List.Elements.{All-head, All-tail}
use Rattle.std.proofs.Math.ListN.{get_or-map}
use Rattle.std.proofs.Math.Seq.{get_or-append_seam}
use Rattle.std.proofs.Math.Nat.{mod-eq_of_lt}
use Rattle.lisa_words.specs.Words.{word_not}
use Rattle.lisa_engine.specs.State.{State}
use Rattle.lisa_engine.specs.Touches.{set_cell}
use Rattle.lisa_engine.specs.declared.parts.Item.{Item}
use Rattle.lisa_engine.specs.declared.parts.ArrayItem.{ArrayItem}
use Rattle.verilog_text.specs.Values.{Env, truth, assigned}
use Rattle.step_program.specs.declared.expressions.OneOp.{OneOp}
use Rattle.step_program.specs.declared.expressions.OneOp.TheVariants as ones
use Rattle.step_program.specs.declared.expressions.TwoOp.{TwoOp}
use Rattle.step_program.specs.declared.expressions.TwoOp.TheVariants as ops
use Rattle.step_program.specs.Programs.{Expr, Const, Now, Before, Pin, Temp, Cell, One, Two, Choose, Aim, ToItem, ToTemp, ToCell, Move, Program}
use Rattle.step_program.specs.Effects.{item_width, pin_width, array_width, array_depth, one_width, two_width, width, Moment, one_value, two_value, chosen, value, taken, effect, begun}
use Rattle.step_program.specs.WellFormed.{FitsTwo, IsFit, IsAimed, IsMove}
use Rattle.step_program.proofs.Fits.{IsWithin, AreWithin, widths, array_widths, array_depths, cells_set, IsNow, two_below, value_below, effect_now, chosen_both, read_map}
use Rattle.netlist_wires.specs.declared.keys.Flat.{Flat}
use Rattle.netlist_wires.specs.declared.keys.Flat.TheVariants.{Fixed, OfItem, OfPin, OfWire}
use Rattle.netlist_wires.specs.declared.keys.Body.{Body}
use Rattle.netlist_wires.specs.declared.keys.Body.TheVariants.{Copied, Lowest, Padded, Inverse, Load, Operate, Select}
use Rattle.netlist_wires.specs.declared.keys.Key.{Key}
use Rattle.netlist_wires.specs.declared.keys.Write.{Write}
use Rattle.netlist_wires.specs.Tables.{IsFind}
use Rattle.netlist_wires.specs.Wiring.{item_name, pin_name, array_name, wire_name, body_tree, Made, Find, shared, share, behind, load, Sym, nothing, refit, changed, settled, is_zero, keeps_right, keeps_left, combined_by, shifts_out, combined_unless, combined, lower, given_once, given, Going, aimed, gone, gone_all, own_items, begun_going}
use Rattle.netlist_wires.proofs.Longer.{IsLonger, longer_get, share_longer, load_longer, changed_longer, combined_longer, lower_longer, aimed_longer, all_longer}
use Rattle.netlist_wires.proofs.Operands.{means, wide, copied, lowest_done, padded_done, inverted, two_done, equal_done, load_done, select_done, picked}
use Rattle.netlist_wires.proofs.Kept.{both_true, left_width, right_width, left_value, right_value, zero_means, out_value}

-- what an edge's meaning of names tells of the program's items, pins and arrays
pub record Knows (p : Program) (old : State) (pins : List ℕ) (env : Env) : Type 0 where
  pub item : (i : ℕ) → i < length p.items → env.look (item_name p i) ≡ slice_index old.items i
  pub item_wide : (i : ℕ) → i < length p.items → env.widths.wide (item_name p i) ≡ item_width p i
  pub pin : (i : ℕ) → i < length p.pins → env.look (pin_name p i) ≡ slice_index pins i
  pub pin_wide : (i : ℕ) → i < length p.pins → env.widths.wide (pin_name p i) ≡ pin_width p i
  pub cell : (a j : ℕ) → a < length p.arrays → env.read (array_name p a) j ≡ slice_index (slice_index_or old.cells a []) j
  pub cell_wide : (a : ℕ) → a < length p.arrays → env.widths.cell (array_name p a) ≡ array_width p a

-- each wire has its expression's value and its key's width
abbrev pub Solves : Program → Env → List Key → Type 0
Solves p env keys = (k : ℕ) (key : Key) → slice_get keys k ≡ Some key
    → (env.look (wire_name k) ≡ assigned env key.width (body_tree p key.body)) × (env.widths.wide (wire_name k) ≡ key.width)

-- where the wire of a key is
pub record Shares (w : ℕ) (body : Body) (out : Made) : Type 0 where
  pub wire : ℕ
  pub flat : out.flat ≡ OfWire wire
  pub at : slice_get out.keys wire ≡ Some (record { width = w; body = body })

pub at_end : (keys : List Key) (key : Key) → slice_get (keys ++ (key ∷ [])) (length keys) ≡ Some key
at_end [] key = refl
at_end (x ∷ keys) key = at_end keys key

pub shares : (find : Find) → IsFind find → (w : ℕ) (body : Body) (keys : List Key) → Shares w body (share find w body keys)
unfolding share
shares find is_find w body keys = go (find keys (record { width = w; body = body })) refl
  where
    go : (o : Option ℕ) → find keys (record { width = w; body = body }) ≡ o → Shares w body (shared o (record { width = w; body = body }) keys)
    go (Some k) e = record { wire = k; flat = refl; at = is_find keys (record { width = w; body = body }) k e }
    go None e = record { wire = length keys; flat = refl; at = at_end keys (record { width = w; body = body }) }

module _ (p : Program) (old : State) (pins : List ℕ) (items_fit : IsWithin (widths p.items) old.items) (pins_fit : IsWithin (widths p.pins) pins)
    (cells_fit : AreWithin (array_depths p.arrays) (array_widths p.arrays) old.cells) (find : Find) (is_find : IsFind find) (env : Env) (knows : Knows p old pins env) where
  abbrev Good : Made → (v w : ℕ) → Type 0
  Good out v w = (means p env out.flat ≡ v) × (wide p env out.flat ≡ w)

  -- what holds of later keys holds of earlier ones
  down : {keys now : List Key} → IsLonger keys now → Solves p env now → Solves p env keys
  down g solves k key e = solves k key (longer_get g k key e)

  shared_is : (w : ℕ) (body : Body) (keys : List Key) → Solves p env (share find w body keys).keys → Good (share find w body keys) (assigned env w (body_tree p body)) w
  shared_is w body keys solves =
      let s = shares find is_find w body keys in
      let at = solves s.wire (record { width = w; body = body }) s.at in
      (ap (means p env) s.flat ∙ at.0, ap (wide p env) s.flat ∙ at.1)

  -- ---- cells behind the writes

  abbrev pub written : List Write → List (List ℕ)
  written [] = old.cells
  written (w ∷ ws) = chosen (means p env w.guard) (set_cell (written ws) w.array (means p env w.index) (means p env w.value)) (written ws)

  pub record IsWrite (w : Write) : Type 0 where
    pub array : w.array < length p.arrays
    pub index : means p env w.index < array_depth p w.array
    pub value : means p env w.value < 2 ^ array_width p w.array

  abbrev pub AreWrites : List Write → Type 0
  AreWrites [] = Unit {0}
  AreWrites (w ∷ ws) = IsWrite w × AreWrites ws

  written_within : (ws : List Write) → AreWrites ws → AreWithin (array_depths p.arrays) (array_widths p.arrays) (written ws)
  written_within [] is = cells_fit
  written_within (w ∷ ws) is =
      chosen_both (means p env w.guard) (set_cell (written ws) w.array (means p env w.index) (means p env w.value)) (written ws) (AreWithin (array_depths p.arrays) (array_widths p.arrays))
      (cells_set (array_depths p.arrays) (array_widths p.arrays) (written ws) w.array (means p env w.index) (means p env w.value) (written_within ws is.1) is.0.value) (written_within ws is.1)

  -- the cell at an index of an array, behind the writes
  abbrev cell_at : List Write → (a j : ℕ) → ℕ
  cell_at ws a j = slice_index (slice_index_or (written ws) a []) j

  -- the row of another array
  other_row : (w : Write) (ws : List Write) (a : ℕ) → nat_eq w.array a ≡ false → slice_index_or (written (w ∷ ws)) a [] ≡ slice_index_or (written ws) a []
  other_row w ws a e =
      chosen_both (means p env w.guard) (set_cell (written ws) w.array (means p env w.index) (means p env w.value)) (written ws) (λ (cells : List (List ℕ)). slice_index_or cells a [] ≡ slice_index_or (written ws) a [])
      (get_or-set_other (written ws) w.array a _ [] (λ k. eqb-false w.array a e (sym k))) refl

  same_row : (w : Write) (ws : List Write) → IsWrite w → AreWrites ws → (j : ℕ)
      → slice_index (chosen (means p env w.guard) (slice_set (slice_index_or (written ws) w.array []) (means p env w.index) (means p env w.value)) (slice_index_or (written ws) w.array [])) j ≡ cell_at (w ∷ ws) w.array j
  same_row w ws is all j = go (nat_eq (means p env w.guard) 0)
    where
      go : (b : Bool) → slice_index (cond b (slice_index_or (written ws) w.array []) (slice_set (slice_index_or (written ws) w.array []) (means p env w.index) (means p env w.value))) j
          ≡ slice_index (slice_index_or (cond b (written ws) (set_cell (written ws) w.array (means p env w.index) (means p env w.value))) w.array []) j
      go true = refl
      go false =
          let few : w.array < length (written ws) = omega (arith, is.array, (written_within ws all).many, length-map p.arrays (λ (array : ArrayItem). array.width)) in
          sym (ap (λ (r : List ℕ). slice_index r j) (get_or-set_same (written ws) w.array (slice_set (slice_index_or (written ws) w.array []) (means p env w.index) (means p env w.value)) [] few))

  behind_good : (same : Bool) (w : Write) (ws : List Write) (a : ℕ) (x : Flat) (found : Made) → nat_eq w.array a ≡ same → a < length p.arrays → IsWrite w → AreWrites ws
      → (Solves p env found.keys → Good found (cell_at ws a (means p env x)) (array_width p a)) → Solves p env (behind find (array_width p a) same w x found).keys
      → Good (behind find (array_width p a) same w x found) (cell_at (w ∷ ws) a (means p env x)) (array_width p a)
  behind_good false w ws a x found e less is all good solves =
      let g = good solves in (g.0 ∙ sym (ap (λ (row : List ℕ). slice_index row (means p env x)) (other_row w ws a e)), g.1)
  behind_good true w ws a x r same less is all good solves =
      let width = array_width p a in
      let here : w.array ≡ a = eqb-true w.array a same in
      let e = share find 1 (Operate ops.Equal w.index x) r.keys in
      let c = share find width (Select w.guard w.value r.flat) e.keys in
      let at_c = down (share_longer find width (Select e.flat c.flat r.flat) c.keys) solves in
      let at_e = down (share_longer find width (Select w.guard w.value r.flat) e.keys) at_c in
      let at_r = down (share_longer find 1 (Operate ops.Equal w.index x) r.keys) at_e in
      let gr : Good r (cell_at ws a (means p env x)) width = good at_r in
      let ge = shared_is 1 (Operate ops.Equal w.index x) r.keys at_e in
      let gc = shared_is width (Select w.guard w.value r.flat) e.keys at_c in
      let gd = shared_is width (Select e.flat c.flat r.flat) c.keys solves in
      let fits = written_within ws all in
      let low_r : means p env r.flat < 2 ^ width = subst (λ (x : ℕ). x < 2 ^ width) (sym gr.0) (fits.each a (means p env x)) in
      let low_v : means p env w.value < 2 ^ width = subst (λ (b : ℕ). means p env w.value < 2 ^ array_width p b) here is.value in
      let is_c = gc.0 ∙ select_done p env width w.guard w.value r.flat low_v low_r in
      let low_c : means p env c.flat < 2 ^ width = subst (λ (x : ℕ). x < 2 ^ width) (sym is_c) (chosen_both (means p env w.guard) (means p env w.value) (means p env r.flat) (λ (x : ℕ). x < 2 ^ width) low_v low_r) in
      let is_e = ge.0 ∙ equal_done p env w.index x in
      let i = means p env w.index in
      let j = means p env x in
      let row = slice_index_or (written ws) w.array [] in
      let many : i < length row = subst (λ (n : ℕ). i < n) (sym (fits.deep w.array)) is.index in
      let gr_here : means p env r.flat ≡ slice_index row j = gr.0 ∙ ap (λ (b : ℕ). cell_at ws b j) (sym here) in (
        gd.0 ∙ select_done p env width e.flat c.flat r.flat low_c low_r
            ∙ ap₂ (λ (t c : ℕ). chosen t c (means p env r.flat)) is_e is_c
            ∙ ap (λ (r : ℕ). chosen (truth (nat_eq i j)) (chosen (means p env w.guard) (means p env w.value) r) r) gr_here
            ∙ picked row (means p env w.guard) i j (means p env w.value) many
            ∙ same_row w ws is all j ∙ ap (λ (b : ℕ). cell_at (w ∷ ws) b j) here,
        gd.1,
      )

  load_good : (a : ℕ) (ws : List Write) (x : Flat) (keys : List Key) → a < length p.arrays → AreWrites ws → Solves p env (load find p a ws x keys).keys
      → Good (load find p a ws x keys) (cell_at ws a (means p env x)) (array_width p a)
  load_good a [] x keys less is solves =
      let s = shared_is (array_width p a) (Load a x) keys solves in (
        s.0 ∙ load_done p env a (array_width p a) x ∙ ap (λ (v : ℕ). v % 2 ^ array_width p a) (knows.cell a (means p env x) less)
            ∙ mod-eq_of_lt (cells_fit.each a (means p env x)),
        s.1,
      )
  load_good a (w ∷ ws) x keys less is solves =
      behind_good (nat_eq w.array a) w ws a x (load find p a ws x keys) refl less is.0 is.1 (λ h. load_good a ws x keys less is.1 h) solves

  -- ---- expressions

  -- what is made so far stands for the present
  pub record Stands (s : Sym) (now : Moment) : Type 0 where
    pub items : map (means p env) s.items ≡ now.items
    pub temps : map (means p env) s.temps ≡ now.temps
    pub wide_items : map (wide p env) s.items ≡ widths p.items
    pub wide_temps : map (wide p env) s.temps ≡ p.temps
    pub cells : written s.writes ≡ now.cells
    pub writes : AreWrites s.writes

  at_flat : (fs : List Flat) (i : ℕ) → slice_index (map (means p env) fs) i ≡ means p env (slice_index_or fs i nothing)
  at_flat fs i = get_or-map (means p env) fs i nothing

  at_wide : (fs : List Flat) (i : ℕ) → slice_index (map (wide p env) fs) i ≡ wide p env (slice_index_or fs i nothing)
  at_wide fs i = get_or-map (wide p env) fs i nothing

  refit_good : (same : Bool) (to w : ℕ) (body : Body) (f : Flat) (x : ℕ) (keys : List Key) → nat_eq to w ≡ same → means p env f ≡ x → wide p env f ≡ w → x < 2 ^ w
      → assigned env to (body_tree p body) ≡ means p env f % 2 ^ to → Solves p env (refit find same to body f keys).keys → Good (refit find same to body f keys) (x % 2 ^ to) to
  refit_good true to w body f x keys e is at low done solves =
      let kept : to ≡ w = eqb-true to w e in
      (is ∙ sym (mod-eq_of_lt (subst (λ (n : ℕ). x < 2 ^ n) (sym kept) low)), at ∙ sym kept)
  refit_good false to w body (Fixed v b) x keys e is at low done solves = (ap (λ (n : ℕ). n % 2 ^ to) is, refl)
  refit_good false to w body (OfItem i) x keys e is at low done solves = let r = shared_is to body keys solves in (r.0 ∙ done ∙ ap (λ (v : ℕ). v % 2 ^ to) is, r.1)
  refit_good false to w body (OfPin i) x keys e is at low done solves = let r = shared_is to body keys solves in (r.0 ∙ done ∙ ap (λ (v : ℕ). v % 2 ^ to) is, r.1)
  refit_good false to w body (OfWire k) x keys e is at low done solves = let r = shared_is to body keys solves in (r.0 ∙ done ∙ ap (λ (v : ℕ). v % 2 ^ to) is, r.1)

  changed_good : (one : OneOp) (w : ℕ) (f : Flat) (x : ℕ) (keys : List Key) → means p env f ≡ x → wide p env f ≡ w → x < 2 ^ w → Solves p env (changed find one w f keys).keys
      → Good (changed find one w f keys) (one_value one w x) (one_width one w)
  changed_good ones.Not w f x keys is at low solves = let r = shared_is w (Inverse f) keys solves in (r.0 ∙ inverted p env w f at ∙ ap (word_not w) is, r.1)
  changed_good (ones.Cut narrow) w f x keys is at low solves = refit_good (nat_eq narrow w) narrow w (Lowest (narrow - 1) f) f x keys refl is at low (lowest_done p env narrow f) solves
  changed_good (ones.Widen wide) w f x keys is at low solves = refit_good (nat_eq wide w) wide w (Padded (wide - w) f) f x keys refl is at low (padded_done p env wide (wide - w) f) solves

  copied_good : (w : ℕ) (f : Flat) (x : ℕ) (keys : List Key) → means p env f ≡ x → x < 2 ^ w → Solves p env (share find w (Copied f) keys).keys → Good (share find w (Copied f) keys) x w
  copied_good w f x keys is low solves =
      let r = shared_is w (Copied f) keys solves in
      (r.0 ∙ copied p env w f ∙ ap (λ (v : ℕ). v % 2 ^ w) is ∙ mod-eq_of_lt low, r.1)

  settled_good : (w : ℕ) (f : Flat) (x : ℕ) (keys : List Key) → means p env f ≡ x → wide p env f ≡ w → x < 2 ^ w → Solves p env (settled find w f keys).keys → Good (settled find w f keys) x w
  settled_good w (Fixed v b) x keys is at low solves = (is, at)
  settled_good w (OfItem i) x keys is at low solves = copied_good w (OfItem i) x keys is low solves
  settled_good w (OfPin i) x keys is at low solves = copied_good w (OfPin i) x keys is low solves
  settled_good w (OfWire k) x keys is at low solves = (is, at)

  combined_by_good : (op : TwoOp) (w : ℕ) (right left : Bool) (f g : Flat) (x y : ℕ) (keys : List Key) → (keeps_right op && is_zero f) ≡ right → (keeps_left op && is_zero g) ≡ left
      → means p env f ≡ x → means p env g ≡ y → wide p env f ≡ w → FitsTwo op w (wide p env g) → x < 2 ^ w → y < 2 ^ wide p env g → Solves p env (combined_by find op (two_width op w) right left f g keys).keys
      → Good (combined_by find op (two_width op w) right left f g keys) (two_value op w x y) (two_width op w)
  combined_by_good op w true left f g x y keys is_r is_l is_f is_g at_f match low_x low_y solves =
      let both = both_true is_r in
      let same : two_value op w x y ≡ y = right_value op w (wide p env g) x y both.0 (sym is_f ∙ zero_means p env f both.1) match low_y in
      settled_good (two_width op w) g (two_value op w x y) keys (is_g ∙ sym same) (right_width op w (wide p env g) both.0 match) (two_below op w (wide p env g) x y low_x low_y match) solves
  combined_by_good op w false true f g x y keys is_r is_l is_f is_g at_f match low_x low_y solves =
      let both = both_true is_l in
      let same : two_value op w x y ≡ x = left_value op w x y both.0 (sym is_g ∙ zero_means p env g both.1) low_x in
      settled_good (two_width op w) f (two_value op w x y) keys (is_f ∙ sym same) (at_f ∙ left_width op w both.0) (two_below op w (wide p env g) x y low_x low_y match) solves
  combined_by_good op w false false f g x y keys is_r is_l is_f is_g at_f match low_x low_y solves =
      let r = shared_is (two_width op w) (Operate op f g) keys solves in
      let low_f : means p env f < 2 ^ w = subst (λ (v : ℕ). v < 2 ^ w) (sym is_f) low_x in
      let low_g : means p env g < 2 ^ wide p env g = subst (λ (v : ℕ). v < 2 ^ wide p env g) (sym is_g) low_y in
      (r.0 ∙ two_done p env op w f g at_f match low_f low_g ∙ ap₂ (two_value op w) is_f is_g, r.1)

  combined_unless_good : (op : TwoOp) (w : ℕ) (out : Bool) (f g : Flat) (x y : ℕ) (keys : List Key) → shifts_out op (two_width op w) g ≡ out
      → means p env f ≡ x → means p env g ≡ y → wide p env f ≡ w → FitsTwo op w (wide p env g) → x < 2 ^ w → y < 2 ^ wide p env g → Solves p env (combined_unless find op (two_width op w) out f g keys).keys
      → Good (combined_unless find op (two_width op w) out f g keys) (two_value op w x y) (two_width op w)
  combined_unless_good op w true f g x y keys is_out is_f is_g at_f match low_x low_y solves = (sym (ap (two_value op w x) (sym is_g) ∙ out_value p env op w x g is_out low_x), refl)
  combined_unless_good op w false f g x y keys is_out is_f is_g at_f match low_x low_y solves =
      combined_by_good op w (keeps_right op && is_zero f) (keeps_left op && is_zero g) f g x y keys refl refl is_f is_g at_f match low_x low_y solves

  combined_good : (op : TwoOp) (w : ℕ) (f g : Flat) (x y : ℕ) (keys : List Key) → means p env f ≡ x → means p env g ≡ y → wide p env f ≡ w → FitsTwo op w (wide p env g) → x < 2 ^ w → y < 2 ^ wide p env g
      → Solves p env (combined find op (two_width op w) f g keys).keys → Good (combined find op (two_width op w) f g keys) (two_value op w x y) (two_width op w)
  combined_good op w f g x y keys is_f is_g at_f match low_x low_y solves =
      combined_unless_good op w (shifts_out op (two_width op w) g) f g x y keys refl is_f is_g at_f match low_x low_y solves

  lower_good : (s : Sym) (now : Moment) (e : Expr) (keys : List Key) → Stands s now → IsNow p now → IsFit p e → Solves p env (lower find p s e keys).keys
      → Good (lower find p s e keys) (value p old.items pins now e) (width p e)
  lower_good s now (Const w v) keys st is fit solves = (refl, refl)
  lower_good s now (Now i) keys st is fit solves = (
    sym (at_flat s.items i) ∙ ap (λ (xs : List ℕ). slice_index xs i) st.items,
    sym (at_wide s.items i) ∙ ap (λ (xs : List ℕ). slice_index xs i) st.wide_items,
  )
  lower_good s now (Before i) keys st is fit solves = (knows.item i fit, knows.item_wide i fit)
  lower_good s now (Pin i) keys st is fit solves = (knows.pin i fit, knows.pin_wide i fit)
  lower_good s now (Temp i) keys st is fit solves = (
    sym (at_flat s.temps i) ∙ ap (λ (xs : List ℕ). slice_index xs i) st.temps,
    sym (at_wide s.temps i) ∙ ap (λ (xs : List ℕ). slice_index xs i) st.wide_temps,
  )
  lower_good s now (Cell a index) keys st is fit solves =
      let x = lower find p s index keys in
      let gx : Good x (value p old.items pins now index) (width p index) = lower_good s now index keys st is fit.1 (down (load_longer find p a s.writes x.flat x.keys) solves) in
      let r = load_good a s.writes x.flat x.keys fit.0 st.writes solves in
      (r.0 ∙ ap₂ (λ (cells : List (List ℕ)) (j : ℕ). slice_index (slice_index_or cells a []) j) st.cells gx.0, r.1)
  lower_good s now (One one a) keys st is fit solves =
      let x = lower find p s a keys in
      let gx : Good x (value p old.items pins now a) (width p a) = lower_good s now a keys st is fit.0 (down (changed_longer find one (width p a) x.flat x.keys) solves) in
      changed_good one (width p a) x.flat (value p old.items pins now a) x.keys gx.0 gx.1 (value_below p old.items pins items_fit pins_fit now a is fit.0) solves
  lower_good s now (Two op a b) keys st is fit solves =
      let x = lower find p s a keys in
      let y = lower find p s b x.keys in
      let at_y = down (combined_longer find op (width p (Two op a b)) x.flat y.flat y.keys) solves in
      let gx : Good x (value p old.items pins now a) (width p a) = lower_good s now a keys st is fit.0 (down (lower_longer find p s b x.keys) at_y) in
      let gy : Good y (value p old.items pins now b) (width p b) = lower_good s now b x.keys st is fit.1 at_y in
      let low_b : value p old.items pins now b < 2 ^ wide p env y.flat = subst (λ (w : ℕ). value p old.items pins now b < 2 ^ w) (sym gy.1) (value_below p old.items pins items_fit pins_fit now b is fit.1) in
      combined_good op (width p a) x.flat y.flat (value p old.items pins now a) (value p old.items pins now b) y.keys gx.0 gy.0 gx.1 (subst (FitsTwo op (width p a)) (sym gy.1) fit.2)
      (value_below p old.items pins items_fit pins_fit now a is fit.0) low_b solves
  lower_good s now (Choose t a b) keys st is fit solves =
      let c = lower find p s t keys in
      let x = lower find p s a c.keys in
      let y = lower find p s b x.keys in
      let w = width p a in
      let at_y = down (share_longer find w (Select c.flat x.flat y.flat) y.keys) solves in
      let at_x = down (lower_longer find p s b x.keys) at_y in
      let gc : Good c (value p old.items pins now t) (width p t) = lower_good s now t keys st is fit.0 (down (lower_longer find p s a c.keys) at_x) in
      let gx : Good x (value p old.items pins now a) w = lower_good s now a c.keys st is fit.1 at_x in
      let gy : Good y (value p old.items pins now b) (width p b) = lower_good s now b x.keys st is fit.2 at_y in
      let r = shared_is w (Select c.flat x.flat y.flat) y.keys solves in
      let low_x : means p env x.flat < 2 ^ w = subst (λ (v : ℕ). v < 2 ^ w) (sym gx.0) (value_below p old.items pins items_fit pins_fit now a is fit.1) in
      let low_y : means p env y.flat < 2 ^ w = subst (λ (v : ℕ). v < 2 ^ w) (sym gy.0)
      (subst (λ (w : ℕ). value p old.items pins now b < 2 ^ w) (sym fit.3) (value_below p old.items pins items_fit pins_fit now b is fit.2)) in (
        r.0 ∙ select_done p env w c.flat x.flat y.flat low_x low_y
            ∙ ap₂ (λ (t : ℕ) (run : ℕ → ℕ). run t) gc.0 (ap₂ {C = ℕ → ℕ} (λ (x y t : ℕ). chosen t x y) gx.0 gy.0),
        r.1,
      )

  -- ---- steps

  same_set : (f : Flat → ℕ) (fs : List Flat) (i : ℕ) (new : Flat) (xs : List ℕ) (x : ℕ) → map f fs ≡ xs → f new ≡ x → map f (slice_set fs i new) ≡ slice_set xs i x
  same_set f fs i new xs x e h = map-set f fs i new ∙ ap₂ (λ (ys : List ℕ) (y : ℕ). slice_set ys i y) e h

  given_once_good : (w : ℕ) (zero : Bool) (v old : Flat) (x y : ℕ) (keys : List Key) → means p env v ≡ x → wide p env v ≡ w → means p env old ≡ y → wide p env old ≡ w → x < 2 ^ w
      → Solves p env (given_once find w zero v old keys).keys → Good (given_once find w zero v old keys) (cond zero y x) w
  given_once_good w true v old x y keys is at was had low solves = (was, had)
  given_once_good w false v old x y keys is at was had low solves = settled_good w v x keys is at low solves

  chosen_good : (w : ℕ) (g v old : Flat) (x y : ℕ) (keys : List Key) → means p env v ≡ x → means p env old ≡ y → x < 2 ^ w → y < 2 ^ w
      → Solves p env (share find w (Select g v old) keys).keys → Good (share find w (Select g v old) keys) (chosen (means p env g) x y) w
  chosen_good w g v old x y keys is was low less solves =
      let r = shared_is w (Select g v old) keys solves in
      let low_v : means p env v < 2 ^ w = subst (λ (n : ℕ). n < 2 ^ w) (sym is) low in
      let low_old : means p env old < 2 ^ w = subst (λ (n : ℕ). n < 2 ^ w) (sym was) less in
      (r.0 ∙ select_done p env w g v old low_v low_old ∙ ap₂ (λ (x y : ℕ). chosen (means p env g) x y) is was, r.1)

  given_good : (w : ℕ) (g v old : Flat) (x y : ℕ) (keys : List Key) → means p env v ≡ x → wide p env v ≡ w → means p env old ≡ y → wide p env old ≡ w → x < 2 ^ w → y < 2 ^ w
      → Solves p env (given find w g v old keys).keys → Good (given find w g v old keys) (chosen (means p env g) x y) w
  given_good w (Fixed u n) v old x y keys is at was had low less solves = given_once_good w (nat_eq n 0) v old x y keys is at was had low solves
  given_good w (OfItem i) v old x y keys is at was had low less solves = chosen_good w (OfItem i) v old x y keys is was low less solves
  given_good w (OfPin i) v old x y keys is at was had low less solves = chosen_good w (OfPin i) v old x y keys is was low less solves
  given_good w (OfWire k) v old x y keys is at was had low less solves = chosen_good w (OfWire k) v old x y keys is was low less solves

  aimed_good : (b : Bool) (s : Sym) (now : Moment) (aim : Aim) (w : ℕ) (g v : Flat) (x : ℕ) (keys : List Key) → Stands s now → IsNow p now → IsAimed p aim w → nat_eq (means p env g) 0 ≡ b
      → means p env v ≡ x → wide p env v ≡ w → x < 2 ^ w → Solves p env (aimed find p s aim w g v keys).keys → Stands (aimed find p s aim w g v keys).sym (cond b now (taken p old.items pins now aim x))
  aimed_good b s now (ToItem i) w g v x keys st is fit test gv at low solves =
      let f = slice_index_or s.items i nothing in
      let c = given find w g v f keys in
      let is_f : means p env f ≡ slice_index now.items i = sym (at_flat s.items i) ∙ ap (λ (xs : List ℕ). slice_index xs i) st.items in
      let at_f : wide p env f ≡ w = sym (at_wide s.items i) ∙ ap (λ (xs : List ℕ). slice_index xs i) st.wide_items ∙ fit.1 in
      let low_f : slice_index now.items i < 2 ^ w = subst (λ (w : ℕ). slice_index now.items i < 2 ^ w) fit.1 (is.items.each i) in
      let r : Good c (chosen (means p env g) x (slice_index now.items i)) w = given_good w g v f x (slice_index now.items i) keys gv at is_f at_f low low_f solves in
      let wides : map (wide p env) (slice_set s.items i c.flat) ≡ widths p.items =
      same_set (wide p env) s.items i c.flat (widths p.items) (item_width p i) st.wide_items (r.1 ∙ sym fit.1) ∙ set-get_or (widths p.items) i 0 in
      elim b as (λ (b : Bool). nat_eq (means p env g) 0 ≡ b → Stands (record { items = slice_set s.items i c.flat; temps = s.temps; writes = s.writes }) (cond b now (taken p old.items pins now (ToItem i) x))) [
        | true ↦ λ test. record {
          items = same_set (means p env) s.items i c.flat now.items (slice_index now.items i) st.items (r.0 ∙ ap (λ (b : Bool). cond b (slice_index now.items i) x) test) ∙ set-get_or now.items i 0;
          temps = st.temps;
          wide_items = wides;
          wide_temps = st.wide_temps;
          cells = st.cells;
          writes = st.writes;
        }
        | false ↦ λ test. record {
          items = same_set (means p env) s.items i c.flat now.items x st.items (r.0 ∙ ap (λ (b : Bool). cond b (slice_index now.items i) x) test);
          temps = st.temps;
          wide_items = wides;
          wide_temps = st.wide_temps;
          cells = st.cells;
          writes = st.writes;
        }
      ] test
  aimed_good b s now (ToTemp i) w g v x keys st is fit test gv at low solves =
      let f = slice_index_or s.temps i nothing in
      let c = given find w g v f keys in
      let is_f : means p env f ≡ slice_index now.temps i = sym (at_flat s.temps i) ∙ ap (λ (xs : List ℕ). slice_index xs i) st.temps in
      let at_f : wide p env f ≡ w = sym (at_wide s.temps i) ∙ ap (λ (xs : List ℕ). slice_index xs i) st.wide_temps ∙ fit.1 in
      let low_f : slice_index now.temps i < 2 ^ w = subst (λ (w : ℕ). slice_index now.temps i < 2 ^ w) fit.1 (is.temps.each i) in
      let r : Good c (chosen (means p env g) x (slice_index now.temps i)) w = given_good w g v f x (slice_index now.temps i) keys gv at is_f at_f low low_f solves in
      let wides : map (wide p env) (slice_set s.temps i c.flat) ≡ p.temps =
      same_set (wide p env) s.temps i c.flat p.temps (slice_index p.temps i) st.wide_temps (r.1 ∙ sym fit.1) ∙ set-get_or p.temps i 0 in
      elim b as (λ (b : Bool). nat_eq (means p env g) 0 ≡ b → Stands (record { items = s.items; temps = slice_set s.temps i c.flat; writes = s.writes }) (cond b now (taken p old.items pins now (ToTemp i) x))) [
        | true ↦ λ test. record {
          items = st.items;
          temps = same_set (means p env) s.temps i c.flat now.temps (slice_index now.temps i) st.temps (r.0 ∙ ap (λ (b : Bool). cond b (slice_index now.temps i) x) test) ∙ set-get_or now.temps i 0;
          wide_items = st.wide_items;
          wide_temps = wides;
          cells = st.cells;
          writes = st.writes;
        }
        | false ↦ λ test. record {
          items = st.items;
          temps = same_set (means p env) s.temps i c.flat now.temps x st.temps (r.0 ∙ ap (λ (b : Bool). cond b (slice_index now.temps i) x) test);
          wide_items = st.wide_items;
          wide_temps = wides;
          cells = st.cells;
          writes = st.writes;
        }
      ] test
  aimed_good b s now (ToCell a index) w g v x keys st is fit test gv at low solves =
      let y = lower find p s index keys in
      let gy = lower_good s now index keys st is fit.0.1 solves in
      let at = value p old.items pins now index in
      let low_y : means p env y.flat < array_depth p a = subst (λ (v : ℕ). v < array_depth p a) (sym gy.0)
      (subst (λ (n : ℕ). at < n) (sym fit.0.2) (value_below p old.items pins items_fit pins_fit now index is fit.0.1)) in
      let low_v : means p env v < 2 ^ array_width p a = subst (λ (x : ℕ). x < 2 ^ array_width p a) (sym gv) (subst (λ (w : ℕ). x < 2 ^ w) (sym fit.1) low) in
      let new : Write = record { array = a; guard = g; index = y.flat; value = v } in
      let writes : AreWrites (new ∷ s.writes) = (record { array = fit.0.0; index = low_y; value = low_v }, st.writes) in
      let cells : written (new ∷ s.writes) ≡ cond b now.cells (set_cell now.cells a at x) =
      ap₂ (λ (b : Bool) (f : List (List ℕ) → List (List ℕ)). cond b (written s.writes) (f (written s.writes))) test
      (ap₂ {C = List (List ℕ) → List (List ℕ)} (λ (i y : ℕ) (xs : List (List ℕ)). set_cell xs a i y) gy.0 gv)
      ∙ ap (λ (xs : List (List ℕ)). cond b xs (set_cell xs a at x)) st.cells in
      elim b as (λ (b : Bool). written (new ∷ s.writes) ≡ cond b now.cells (set_cell now.cells a at x) → Stands (record { items = s.items; temps = s.temps; writes = new ∷ s.writes }) (cond b now (taken p old.items pins now (ToCell a index) x))) [
        | true ↦ λ cells. record { items = st.items; temps = st.temps; wide_items = st.wide_items; wide_temps = st.wide_temps; cells = cells; writes = writes }
        | false ↦ λ cells. record { items = st.items; temps = st.temps; wide_items = st.wide_items; wide_temps = st.wide_temps; cells = cells; writes = writes }
      ] cells

  gone_good : (go : Going) (now : Moment) (move : Move) → Stands go.sym now → IsNow p now → IsMove p move → Solves p env (gone find p go move).keys
      → Stands (gone find p go move).sym (effect p old.items pins now move)
  gone_good go now move st is fit solves =
      let g = lower find p go.sym move.guard go.keys in
      let v = lower find p go.sym move.value g.keys in
      let at_v = down (aimed_longer find p go.sym move.aim (width p move.value) g.flat v.flat v.keys) solves in
      let gv = lower_good go.sym now move.value g.keys st is fit.value at_v in
      let gg = lower_good go.sym now move.guard go.keys st is fit.guard (down (lower_longer find p go.sym move.value g.keys) at_v) in
      aimed_good (nat_eq (value p old.items pins now move.guard) 0) go.sym now move.aim (width p move.value) g.flat v.flat (value p old.items pins now move.value) v.keys st is fit.aim
      (ap (λ (x : ℕ). nat_eq x 0) gg.0) gv.0 gv.1 (value_below p old.items pins items_fit pins_fit now move.value is fit.value) solves

  pub record Ends (s : Sym) (now : Moment) : Type 0 where
    pub stands : Stands s now
    pub is_now : IsNow p now

  pub all_good : (go : Going) (now : Moment) (moves : List Move) → Stands go.sym now → IsNow p now → All (IsMove p) moves → Solves p env (gone_all find p go moves).keys
      → Ends (gone_all find p go moves).sym (fold (effect p old.items pins) now moves)
  all_good go now [] st is fit solves = record { stands = st; is_now = is }
  all_good go now (move ∷ moves) st is fit solves =
      all_good (gone find p go move) (effect p old.items pins now move) moves
      (gone_good go now move st is (All-head (IsMove p) move moves fit) (down (all_longer find p (gone find p go move) moves) solves))
      (effect_now p old.items pins items_fit pins_fit now move is (All-head (IsMove p) move moves fit)) (All-tail (IsMove p) move moves fit) solves

  -- ---- as an edge begins

  own_means : (done xs : List ℕ) (first rest : List Item) → length done ≡ length first → length xs ≡ length rest → p.items ≡ first ++ rest → old.items ≡ done ++ xs
      → map (means p env) (own_items (length first) rest) ≡ xs
  own_means done [] first [] same l is e = refl
  own_means done [] first (w ∷ ws) same l is e = absurd (omega (arith, l))
  own_means done (x ∷ xs) first [] same l is e = absurd (omega (arith, l))
  own_means done (x ∷ xs) first (w ∷ ws) same l is e =
      let less : length first < length p.items = omega (arith, ap (λ (ys : List Item). length ys) is, length-append first (w ∷ ws)) in
      let h : slice_index old.items (length first) ≡ x = ap (λ (ys : List ℕ). slice_index ys (length first)) e ∙ ap (slice_index (done ++ (x ∷ xs))) (sym same) ∙ get_or-append_seam done x xs 0 in
      let next : length (first ++ (w ∷ [])) ≡ suc (length first) = omega (arith, length-append first (w ∷ [])) in
      let next_done : length (done ++ (x ∷ [])) ≡ length (first ++ (w ∷ [])) = omega (arith, length-append first (w ∷ []), length-append done (x ∷ []), same) in
      ap₂ (λ (y : ℕ) (ys : List ℕ). y ∷ ys) (knows.item (length first) less ∙ h)
      (ap (λ (n : ℕ). map (means p env) (own_items n ws)) (sym next)
      ∙ own_means (done ++ (x ∷ [])) xs (first ++ (w ∷ [])) ws next_done (omega (arith, l)) (is ∙ sym (append_assoc first (w ∷ []) ws)) (e ∙ sym (append_assoc done (x ∷ []) xs)))

  own_wide : (first rest : List Item) → p.items ≡ first ++ rest → map (wide p env) (own_items (length first) rest) ≡ widths rest
  own_wide first [] is = refl
  own_wide first (w ∷ ws) is =
      let less : length first < length p.items = omega (arith, ap (λ (ys : List Item). length ys) is, length-append first (w ∷ ws)) in
      let h : item_width p (length first) ≡ w.width = read_map (λ (item : Item). item.width) p.items (length first) w less
      ∙ ap (λ (item : Item). item.width) (ap (λ (ys : List Item). slice_index_or ys (length first) w) is ∙ get_or-append_seam first w ws w) in
      let next : length (first ++ (w ∷ [])) ≡ suc (length first) = omega (arith, length-append first (w ∷ [])) in
      ap₂ (λ (y : ℕ) (ys : List ℕ). y ∷ ys) (knows.item_wide (length first) less ∙ h)
      (ap (λ (n : ℕ). map (wide p env) (own_items n ws)) (sym next) ∙ own_wide (first ++ (w ∷ [])) ws (is ∙ sym (append_assoc first (w ∷ []) ws)))

  zeros_mean : (ws : List ℕ) → map (means p env) (map (λ w. Fixed w 0) ws) ≡ map (λ w. 0) ws
  zeros_mean [] = refl
  zeros_mean (w ∷ ws) = ap (λ (ys : List ℕ). 0 ∷ ys) (zeros_mean ws)

  zeros_wide : (ws : List ℕ) → map (wide p env) (map (λ w. Fixed w 0) ws) ≡ ws
  zeros_wide [] = refl
  zeros_wide (w ∷ ws) = ap (λ (ys : List ℕ). w ∷ ys) (zeros_wide ws)

  pub begun_good : Stands (begun_going p).sym (begun p old)
  begun_good = record {
    items = own_means [] old.items [] p.items refl (items_fit.many ∙ length-map p.items (λ (item : Item). item.width)) refl refl;
    temps = zeros_mean p.temps;
    wide_items = own_wide [] p.items refl;
    wide_temps = zeros_wide p.temps;
    cells = refl;
    writes = tt;
  }
