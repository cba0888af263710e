-- The text of a program's module is no longer than stated.
use Rattle.std.proofs.Common.{◌≡◌, ℕ, zero, suc, ◌+◌, ◌*◌, ◌-◌, ◌^◌, ◌<◌, ◌≤◌, max, Bool, true, false, ◌&&◌, List, [], ◌∷◌, ◌++◌, length, map, refl, sym, ap, subst, arith, nat_eq, cond, Option, Some, None, inl, inr, length-append, suc-mul, mul_comm, le_of_mul-le-mul_right, codes, if◌then◌else◌}
use Rattle.std.specs.Prelude.{All, flat_map, slice_index, slice_index_or, slice_set}
use Rattle.std.specs.List.{slice_get}
use Rattle.std.specs.Fmt.{decimal}
use Rattle.std.proofs.lemmas.Bool.{cases_lt, le-ltb}
use Rattle.std.proofs.lemmas.Fmt.{length-decimal-le, length-decimal-le_wide}
use Rattle.std.proofs.lemmas.List.{get_or_past}
use Rattle.std.proofs.lemmas.List.Elements.{All-nil, All-cons, All-head, All-tail}
use Rattle.std.proofs.Math.Nat.{pow-le-pow_right}
use Rattle.lisa_engine.specs.Images.{IsDepth}
use Rattle.lisa_engine.specs.declared.parts.Item.{Item}
use Rattle.lisa_engine.specs.declared.parts.ArrayItem.{ArrayItem}
use Rattle.lisa_words.specs.Operators.{level_of}
use Rattle.lisa_words.specs.declared.binary.Operator.{Operator}
use Rattle.verilog_text.specs.declared.tokens.VKeyword.TheVariants as words
use Rattle.verilog_text.specs.declared.tokens.VSign.TheVariants as signs
use Rattle.verilog_text.specs.Tokens.{VToks, Named, Reserved, Plain, Mark}
use Rattle.verilog_text.specs.Trees as trees
use Rattle.verilog_text.specs.Trees.{VTree, Then, End, ActionTrees, SettingTree, MemberTree}
use Rattle.verilog_text.specs.Grammar.{vsign_of, setting_tokens}
use Rattle.verilog_text.specs.Printing.{own_level, wrapped, bare, parts_tokens, more_tokens, shown, action_tokens, member_tokens, input_tokens, module_tokens, range_tokens}
use Rattle.step_program.specs.declared.expressions.OneOp.TheVariants as ones
use Rattle.step_program.specs.declared.expressions.TwoOp.{TwoOp}
use Rattle.step_program.specs.declared.expressions.TwoOp.TheVariants as ops
use Rattle.step_program.specs.Programs.{Expr, Const, Now, Before, Pin, Temp, Cell, One, Two, Choose, Aim, ToItem, ToTemp, ToCell, Move, Program}
use Rattle.step_program.specs.Effects.{array_width, width}
use Rattle.step_program.specs.WellFormed.{IsWidth, IsMove, IsWellFormed}
use Rattle.netlist_wires.specs.declared.keys.Flat.{Flat}
use Rattle.netlist_wires.specs.declared.keys.Flat.TheVariants.{Fixed, OfItem, OfPin, OfWire}
use Rattle.netlist_wires.specs.declared.keys.Body.{Body}
use Rattle.netlist_wires.specs.declared.keys.Body.TheVariants.{Copied, Lowest, Padded, Inverse, Load, Operate, Select}
use Rattle.netlist_wires.specs.declared.keys.Key.{Key}
use Rattle.netlist_wires.specs.declared.keys.Write.{Write}
use Rattle.netlist_wires.specs.Tables.{IsFind, program_names}
use Rattle.netlist_wires.specs.Costs.{writes_to, arrays_after}
use Rattle.netlist_wires.specs.Wiring.{item_name, pin_name, array_name, wire_name, operator_of, named, lowest, body_tree, Made, Find, shared, share, behind, load, Sym, nothing, refit, settled, is_zero, keeps_right, keeps_left, combined_by, shifts_out, combined_unless, combined, lower, given_once, given, Going, aimed, gone, gone_all, wires_from, set_items, put_cell, put_cells, actions, first_settings, clock_name, reg_members, array_members, module_at}
use Rattle.netlist_wires.proofs.Named.{item_names, array_names}
use Rattle.netlist_wires.proofs.Growing.{IsBelow, IsBodyBelow, IsOrdered, IsSymSound, flat_width, all_grown}
use Rattle.netlist_rules.proofs.Lengths.{number_size, number_low, sized_most, toks_size, toks_size-append}
use Rattle.netlist_rules.proofs.Spelled.{ArePuts}
use Rattle.netlist_rules.specs.Sizes.{longest, Room, room_for, number_most, wire_most, name_most, held_most, operand_most, frame_most, sign_most, pair_most, expr_most, settled_most, given_most, aim_most, move_most, moves_most, module_most}

-- ---- what wires take at most, where names have so much room

-- a number of one bit is no longer than a wire, and neither a wire nor any number is longer than the longest name
pub record IsRoom (room : Room) : Type 0 where
  pub least_wire : 4 ≤ room.wire
  pub less : room.wire ≤ room.name
  pub least_name : 25 ≤ room.name

abbrev flat_most : Room → Flat → ℕ
flat_most room (Fixed w v) = number_size w
flat_most room (OfItem i) = name_most room
flat_most room (OfPin i) = name_most room
flat_most room (OfWire k) = wire_most room

abbrev body_most : Room → Body → ℕ
body_most room (Copied f) = flat_most room f
body_most room (Lowest high f) = 11 + flat_most room f
body_most room (Padded zeros f) = 12 + flat_most room f
body_most room (Inverse f) = 2 + flat_most room f
body_most room (Load a f) = 4 + name_most room + flat_most room f
body_most room (Operate op f g) = sign_most op + (flat_most room f + flat_most room g)
body_most room (Select c f g) = 4 + (flat_most room c + (flat_most room f + flat_most room g))

abbrev pub keys_most : Room → List Key → ℕ
keys_most room [] = 0
keys_most room (key ∷ keys) = (frame_most room + body_most room key.body) + keys_most room keys

keys_append : (room : Room) (keys more : List Key) → keys_most room (keys ++ more) ≡ keys_most room keys + keys_most room more
keys_append room [] more = omega arith
keys_append room (key ∷ keys) more = omega (arith, keys_append room keys more)

-- each key takes its frame
frames_most : (room : Room) (keys : List Key) → length keys * frame_most room ≤ keys_most room keys
frames_most room [] = omega arith
frames_most room (key ∷ keys) = omega (arith, suc-mul (length keys) (frame_most room), frames_most room keys)

-- what the writes take in the `always` block
abbrev puts_most : Room → List Write → ℕ
puts_most room [] = 0
puts_most room (w ∷ ws) = (26 + name_most room + flat_most room w.guard + flat_most room w.index + flat_most room w.value) + puts_most room ws

-- what the wires and the writes take
abbrev pub going_most : Room → Going → ℕ
going_most room go = keys_most room go.keys + puts_most room go.sym.writes

-- so there are no more wires than frames have room
pub wires_few : (room : Room) (go : Going) (n : ℕ) → going_most room go ≤ frame_most room * n → length go.keys ≤ n
wires_few room go n h =
    let all : length go.keys * frame_most room ≤ n * frame_most room = omega (arith, h, frames_most room go.keys, mul_comm n (frame_most room)) in
    le_of_mul-le-mul_right all (omega arith)

abbrev arrays_of : List Write → List ℕ
arrays_of ws = map (λ write. write.array) ws

-- a number or a wire
abbrev IsSettled : Flat → Type 0
IsSettled (Fixed w v) = Unit {0}
IsSettled (OfItem i) = ⊥
IsSettled (OfPin i) = ⊥
IsSettled (OfWire k) = Unit {0}

abbrev AreSettled : List Flat → Type 0
AreSettled [] = Unit {0}
AreSettled (f ∷ fs) = IsSettled f × AreSettled fs

settled_at : (fs : List Flat) (i : ℕ) → AreSettled fs → IsSettled (slice_index_or fs i nothing)
settled_at [] i all = tt
settled_at (f ∷ fs) zero all = all.0
settled_at (f ∷ fs) (suc i) all = settled_at fs i all.1

settled_set : (fs : List Flat) (i : ℕ) (f : Flat) → AreSettled fs → IsSettled f → AreSettled (slice_set fs i f)
settled_set [] i f all new = tt
settled_set (g ∷ fs) zero f all new = (new, all.1)
settled_set (g ∷ fs) (suc i) f all new = (all.0, settled_set fs i f all.1 new)

pub zeros_settled : (ws : List ℕ) → AreSettled (map (λ w. Fixed w 0) ws)
zeros_settled [] = tt
zeros_settled (w ∷ ws) = (tt, zeros_settled ws)

-- a wire
abbrev IsWire : Flat → Type 0
IsWire (Fixed w v) = ⊥
IsWire (OfItem i) = ⊥
IsWire (OfPin i) = ⊥
IsWire (OfWire k) = Unit {0}

wire_settled : (f : Flat) → IsWire f → IsSettled f
wire_settled (Fixed w v) is = tt
wire_settled (OfItem i) is = is
wire_settled (OfPin i) is = is
wire_settled (OfWire k) is = tt

wire_size : (room : Room) (f : Flat) → IsWire f → flat_most room f ≡ wire_most room
wire_size room (Fixed w v) is = absurd is
wire_size room (OfItem i) is = absurd is
wire_size room (OfPin i) is = absurd is
wire_size room (OfWire k) is = refl

module _ (find : Find) (room : Room) (fits : IsRoom room) where
  flat_small : (f : Flat) → flat_most room f ≤ name_most room
  flat_small (Fixed w v) = omega (arith, number_low w, fits.least_name)
  flat_small (OfItem i) = omega arith
  flat_small (OfPin i) = omega arith
  flat_small (OfWire k) = omega (arith, fits.less)

  -- the wires take so much, and with an operand so much more
  abbrev Spends : Made → (m n : ℕ) → Type 0
  Spends made m n = (keys_most room made.keys ≤ m) × (keys_most room made.keys + flat_most room made.flat ≤ m + n)

  share_short : (w : ℕ) (body : Body) (keys : List Key) → keys_most room (share find w body keys).keys ≤ keys_most room keys + (frame_most room + body_most room body)
  unfolding share
  share_short w body keys = go (find keys (record { width = w; body = body }))
    where
      go : (o : Option ℕ) → keys_most room (shared o (record { width = w; body = body }) keys).keys ≤ keys_most room keys + (frame_most room + body_most room body)
      go (Some k) = omega arith
      go None = omega (arith, keys_append room keys (record { width = w; body = body } ∷ []))

  share_wire : (w : ℕ) (body : Body) (keys : List Key) → IsWire (share find w body keys).flat
  unfolding share
  share_wire w body keys = go (find keys (record { width = w; body = body }))
    where
      go : (o : Option ℕ) → IsWire (shared o (record { width = w; body = body }) keys).flat
      go (Some k) = tt
      go None = tt

  share_settled : (w : ℕ) (body : Body) (keys : List Key) → IsSettled (share find w body keys).flat
  share_settled w body keys = wire_settled (share find w body keys).flat (share_wire w body keys)

  share_size : (w : ℕ) (body : Body) (keys : List Key) → flat_most room (share find w body keys).flat ≡ wire_most room
  share_size w body keys = wire_size room (share find w body keys).flat (share_wire w body keys)

  share_spends : (w : ℕ) (body : Body) (keys : List Key) → Spends (share find w body keys) (keys_most room keys + (frame_most room + body_most room body)) (wire_most room)
  share_spends w body keys = let h = share_short w body keys in (h, omega (arith, h, share_size w body keys))

  -- ---- reads of cells

  abbrev extra : Bool → ℕ
  extra same = cond same (pair_most room) 0

  behind_wire : (w : ℕ) (same : Bool) (write : Write) (x : Flat) (found : Made) → IsWire found.flat → IsWire (behind find w same write x found).flat
  behind_wire w false write x found is = is
  behind_wire w true write x r is =
      let e = share find 1 (Operate ops.Equal write.index x) r.keys in
      let c = share find w (Select write.guard write.value r.flat) e.keys in
      share_wire w (Select e.flat c.flat r.flat) c.keys

  behind_short : (w : ℕ) (same : Bool) (write : Write) (x : Flat) (found : Made) → IsWire found.flat → keys_most room (behind find w same write x found).keys ≤ keys_most room found.keys + extra same
  behind_short w false write x found is = omega arith
  behind_short w true write x r is =
      let e = share find 1 (Operate ops.Equal write.index x) r.keys in
      let c = share find w (Select write.guard write.value r.flat) e.keys in
      omega (
        arith,
        wire_size room r.flat is,
        share_size 1 (Operate ops.Equal write.index x) r.keys,
        share_size w (Select write.guard write.value r.flat) e.keys,
        flat_small write.index,
        flat_small x,
        flat_small write.guard,
        flat_small write.value,
        share_short 1 (Operate ops.Equal write.index x) r.keys,
        share_short w (Select write.guard write.value r.flat) e.keys,
        share_short w (Select e.flat c.flat r.flat) c.keys,
      )

  load_wire : (p : Program) (a : ℕ) (ws : List Write) (x : Flat) (keys : List Key) → IsWire (load find p a ws x keys).flat
  load_wire p a [] x keys = share_wire (array_width p a) (Load a x) keys
  load_wire p a (w ∷ ws) x keys = behind_wire (array_width p a) (nat_eq w.array a) w x (load find p a ws x keys) (load_wire p a ws x keys)

  load_settled : (p : Program) (a : ℕ) (ws : List Write) (x : Flat) (keys : List Key) → IsSettled (load find p a ws x keys).flat
  load_settled p a ws x keys = wire_settled (load find p a ws x keys).flat (load_wire p a ws x keys)

  more_writes : (a : ℕ) (w : Write) (ws : List Write) → writes_to a (arrays_of ws) * pair_most room + extra (nat_eq w.array a) ≡ writes_to a (arrays_of (w ∷ ws)) * pair_most room
  more_writes a w ws = go (nat_eq w.array a) (pair_most room)
    where
      go : (b : Bool) (n : ℕ) → writes_to a (arrays_of ws) * n + cond b n 0 ≡ cond b (1 + writes_to a (arrays_of ws)) (writes_to a (arrays_of ws)) * n
      go true n = grind arith
      go false n = grind arith

  load_short : (p : Program) (a : ℕ) (ws : List Write) (x : Flat) (keys : List Key)
      → keys_most room (load find p a ws x keys).keys ≤ keys_most room keys + (frame_most room + 4 + name_most room + flat_most room x + writes_to a (arrays_of ws) * pair_most room)
  load_short p a [] x keys = omega (arith, share_short (array_width p a) (Load a x) keys)
  load_short p a (w ∷ ws) x keys =
      let r = load find p a ws x keys in
      omega (arith, load_short p a ws x keys, behind_short (array_width p a) (nat_eq w.array a) w x r (load_wire p a ws x keys), more_writes a w ws)

  -- ---- operands of another width

  refit_share : (to m n : ℕ) (body : Body) (f : Flat) (keys : List Key) → body_most room body ≤ 12 + flat_most room f → keys_most room keys + flat_most room f ≤ m + n
      → Spends (share find to body keys) (m + (frame_most room + 12 + n)) (wire_most room)
  refit_share to m n body f keys b h = let t = share_spends to body keys in (omega (arith, b, h, t.0), omega (arith, b, h, t.1))

  -- one that keeps its width is as long as it was
  refit_spends : (same : Bool) (to m n : ℕ) (body : Body) (f : Flat) (keys : List Key) → body_most room body ≤ 12 + flat_most room f → keys_most room keys + flat_most room f ≤ m + n
      → Spends (refit find same to body f keys) (m + (frame_most room + 12 + n)) (cond same n (wire_most room))
  refit_spends true to m n body f keys b h = (omega (arith, h), omega (arith, h))
  refit_spends false to m n body (Fixed w v) keys b h = (omega (arith, h), omega (arith, h, number_low to))
  refit_spends false to m n body (OfItem i) keys b h = refit_share to m n body (OfItem i) keys b h
  refit_spends false to m n body (OfPin i) keys b h = refit_share to m n body (OfPin i) keys b h
  refit_spends false to m n body (OfWire k) keys b h = refit_share to m n body (OfWire k) keys b h

  -- ---- operands that are held, and operands of two

  settled_is : (w : ℕ) (f : Flat) (keys : List Key) → IsSettled (settled find w f keys).flat
  settled_is w (Fixed v b) keys = tt
  settled_is w (OfItem i) keys = share_settled w (Copied (OfItem i)) keys
  settled_is w (OfPin i) keys = share_settled w (Copied (OfPin i)) keys
  settled_is w (OfWire k) keys = tt

  settled_spends : (w : ℕ) (f : Flat) (keys : List Key) → Spends (settled find w f keys) (keys_most room keys + (frame_most room + flat_most room f)) (wire_most room)
  settled_spends w (Fixed v b) keys = (omega arith, omega arith)
  settled_spends w (OfItem i) keys = share_spends w (Copied (OfItem i)) keys
  settled_spends w (OfPin i) keys = share_spends w (Copied (OfPin i)) keys
  settled_spends w (OfWire k) keys = (omega arith, omega arith)

  settled_short : (w : ℕ) (f : Flat) (keys : List Key) → keys_most room (settled find w f keys).keys ≤ keys_most room keys + (frame_most room + name_most room)
  settled_short w f keys = omega (arith, (settled_spends w f keys).0, flat_small f)

  combined_by_settled : (op : TwoOp) (w : ℕ) (right left : Bool) (f g : Flat) (keys : List Key) → IsSettled (combined_by find op w right left f g keys).flat
  combined_by_settled op w true left f g keys = settled_is w g keys
  combined_by_settled op w false true f g keys = settled_is w f keys
  combined_by_settled op w false false f g keys = share_settled w (Operate op f g) keys

  combined_unless_settled : (op : TwoOp) (w : ℕ) (out : Bool) (f g : Flat) (keys : List Key) → IsSettled (combined_unless find op w out f g keys).flat
  combined_unless_settled op w true f g keys = tt
  combined_unless_settled op w false f g keys = combined_by_settled op w (keeps_right op && is_zero f) (keeps_left op && is_zero g) f g keys

  combined_settled : (op : TwoOp) (w : ℕ) (f g : Flat) (keys : List Key) → IsSettled (combined find op w f g keys).flat
  combined_settled op w f g keys = combined_unless_settled op w (shifts_out op w g) f g keys

  -- where a number is given there is no wire, whose frame is longer
  abbrev pair_spent : TwoOp → (f g : Flat) → List Key → ℕ
  pair_spent op f g keys = keys_most room keys + (frame_most room + sign_most op + flat_most room f + flat_most room g)

  combined_by_spends : (op : TwoOp) (w : ℕ) (right left : Bool) (f g : Flat) (keys : List Key) → Spends (combined_by find op w right left f g keys) (pair_spent op f g keys) (wire_most room)
  combined_by_spends op w true left f g keys = let t = settled_spends w g keys in (omega (arith, t.0), omega (arith, t.1))
  combined_by_spends op w false true f g keys = let t = settled_spends w f keys in (omega (arith, t.0), omega (arith, t.1))
  combined_by_spends op w false false f g keys = let t = share_spends w (Operate op f g) keys in (omega (arith, t.0), omega (arith, t.1))

  combined_unless_spends : (op : TwoOp) (w : ℕ) (out : Bool) (f g : Flat) (keys : List Key) → Spends (combined_unless find op w out f g keys) (pair_spent op f g keys) (wire_most room)
  combined_unless_spends op w true f g keys = (omega arith, omega (arith, number_low w, fits.least_wire))
  combined_unless_spends op w false f g keys = combined_by_spends op w (keeps_right op && is_zero f) (keeps_left op && is_zero g) f g keys

  combined_spends : (op : TwoOp) (w : ℕ) (f g : Flat) (keys : List Key) → Spends (combined find op w f g keys) (pair_spent op f g keys) (wire_most room)
  combined_spends op w f g keys = combined_unless_spends op w (shifts_out op w g) f g keys

  -- ---- what temps hold

  -- a number or a wire each, and no longer than told
  record AreHeld (p : Program) (s : Sym) : Type 0 where
    no_name : AreSettled s.temps
    short : (i : ℕ) → flat_most room (slice_index_or s.temps i nothing) ≤ held_most room (slice_index p.temps i)

  number_held : (w : ℕ) → number_size w ≤ held_most room w
  number_held w = go (nat_eq w 1)
    where
      go : (one : Bool) → (if one then 6 else 25) ≤ (if one then wire_most room else max number_most (wire_most room))
      go true = omega (arith, fits.least_wire)
      go false = omega arith

  wire_held : (w : ℕ) → wire_most room ≤ held_most room w
  wire_held w = go (nat_eq w 1)
    where
      go : (one : Bool) → wire_most room ≤ (if one then wire_most room else max number_most (wire_most room))
      go true = omega arith
      go false = omega arith

  flat_held : (p : Program) (keys : List Key) (f : Flat) (w : ℕ) → IsSettled f → flat_width p keys f ≡ w → flat_most room f ≤ held_most room w
  flat_held p keys (Fixed v b) w is wide = subst (λ (n : ℕ). number_size v ≤ held_most room n) wide (number_held v)
  flat_held p keys (OfItem i) w is wide = absurd is
  flat_held p keys (OfPin i) w is wide = absurd is
  flat_held p keys (OfWire k) w is wide = wire_held w

  -- ---- expressions

  lower_spends : (p : Program) (s : Sym) (e : Expr) (keys : List Key) → AreHeld p s → Spends (lower find p s e keys) (keys_most room keys + expr_most p room (arrays_of s.writes) e) (operand_most p room e)
  lower_spends p s (Const w v) keys ok = (omega arith, omega (arith, number_low w))
  lower_spends p s (Now i) keys ok = (omega arith, omega (arith, flat_small (slice_index_or s.items i nothing)))
  lower_spends p s (Before i) keys ok = (omega arith, omega arith)
  lower_spends p s (Pin i) keys ok = (omega arith, omega arith)
  lower_spends p s (Temp i) keys ok = (omega arith, omega (arith, ok.short i))
  lower_spends p s (Cell a index) keys ok =
      let x = lower find p s index keys in
      let i = (lower_spends p s index keys ok).1 in
      let h = load_short p a s.writes x.flat x.keys in
      (omega (arith, i, h), omega (arith, i, h, wire_size room (load find p a s.writes x.flat x.keys).flat (load_wire p a s.writes x.flat x.keys)))
  lower_spends p s (One ones.Not a) keys ok =
      let x = lower find p s a keys in
      let i = (lower_spends p s a keys ok).1 in
      let t = share_spends (width p a) (Inverse x.flat) x.keys in
      (omega (arith, i, t.0), omega (arith, i, t.1))
  lower_spends p s (One (ones.Cut narrow) a) keys ok =
      let x = lower find p s a keys in
      let t = refit_spends (nat_eq narrow (width p a)) narrow (keys_most room keys + expr_most p room (arrays_of s.writes) a) (operand_most p room a) (Lowest (narrow - 1) x.flat) x.flat x.keys (omega arith) (lower_spends p s a keys ok).1 in
      (omega (arith, t.0), omega (arith, t.1))
  lower_spends p s (One (ones.Widen wide) a) keys ok =
      let x = lower find p s a keys in
      let t = refit_spends (nat_eq wide (width p a)) wide (keys_most room keys + expr_most p room (arrays_of s.writes) a) (operand_most p room a) (Padded (wide - width p a) x.flat) x.flat x.keys (omega arith) (lower_spends p s a keys ok).1 in
      (omega (arith, t.0), omega (arith, t.1))
  lower_spends p s (Two op a b) keys ok =
      let x = lower find p s a keys in
      let y = lower find p s b x.keys in
      let i = (lower_spends p s a keys ok).1 in
      let j = (lower_spends p s b x.keys ok).1 in
      let t = combined_spends op (width p (Two op a b)) x.flat y.flat y.keys in
      (omega (arith, i, j, t.0), omega (arith, i, j, t.1))
  lower_spends p s (Choose t a b) keys ok =
      let c = lower find p s t keys in
      let x = lower find p s a c.keys in
      let y = lower find p s b x.keys in
      let h = (lower_spends p s t keys ok).1 in
      let i = (lower_spends p s a c.keys ok).1 in
      let j = (lower_spends p s b x.keys ok).1 in
      let d = share_spends (width p a) (Select c.flat x.flat y.flat) y.keys in
      (omega (arith, h, i, j, d.0), omega (arith, h, i, j, d.1))

  -- ---- what targets hold

  given_once_is : (w : ℕ) (zero : Bool) (v old : Flat) (keys : List Key) → IsSettled old → IsSettled (given_once find w zero v old keys).flat
  given_once_is w true v old keys is = is
  given_once_is w false v old keys is = settled_is w v keys

  given_is : (w : ℕ) (g v old : Flat) (keys : List Key) → IsSettled old → IsSettled (given find w g v old keys).flat
  given_is w (Fixed u n) v old keys is = given_once_is w (nat_eq n 0) v old keys is
  given_is w (OfItem i) v old keys is = share_settled w (Select (OfItem i) v old) keys
  given_is w (OfPin i) v old keys is = share_settled w (Select (OfPin i) v old) keys
  given_is w (OfWire k) v old keys is = share_settled w (Select (OfWire k) v old) keys

  -- a number or a wire is held as it is
  settled_free : (w n : ℕ) (f : Flat) (keys : List Key) → IsSettled f → keys_most room (settled find w f keys).keys ≤ keys_most room keys + n
  settled_free w n (Fixed v b) keys is = omega arith
  settled_free w n (OfItem i) keys is = absurd is
  settled_free w n (OfPin i) keys is = absurd is
  settled_free w n (OfWire k) keys is = omega arith

  -- what is cut or extended is a number or a wire, but where its width stays
  refit_held : (same : Bool) (to w n : ℕ) (body : Body) (f : Flat) (keys now : List Key) → keys_most room (settled find w f now).keys ≤ keys_most room now + n
      → keys_most room (settled find w (refit find same to body f keys).flat now).keys ≤ keys_most room now + cond same n 0
  refit_held true to w n body f keys now h = h
  refit_held false to w n body (Fixed v b) keys now h = omega arith
  refit_held false to w n body (OfItem i) keys now h = settled_free w 0 (share find to body keys).flat now (share_settled to body keys)
  refit_held false to w n body (OfPin i) keys now h = settled_free w 0 (share find to body keys).flat now (share_settled to body keys)
  refit_held false to w n body (OfWire k) keys now h = settled_free w 0 (share find to body keys).flat now (share_settled to body keys)

  lower_held : (p : Program) (s : Sym) (e : Expr) (w : ℕ) (keys now : List Key) → AreSettled s.temps
      → keys_most room (settled find w (lower find p s e keys).flat now).keys ≤ keys_most room now + settled_most p room e
  lower_held p s (Const u v) w keys now ok = omega arith
  lower_held p s (Now i) w keys now ok = settled_short w (slice_index_or s.items i nothing) now
  lower_held p s (Before i) w keys now ok = settled_short w (OfItem i) now
  lower_held p s (Pin i) w keys now ok = settled_short w (OfPin i) now
  lower_held p s (Temp i) w keys now ok = settled_free w 0 (slice_index_or s.temps i nothing) now (settled_at s.temps i ok)
  lower_held p s (Cell a index) w keys now ok =
      let x = lower find p s index keys in settled_free w 0 (load find p a s.writes x.flat x.keys).flat now (load_settled p a s.writes x.flat x.keys)
  lower_held p s (One ones.Not a) w keys now ok =
      let x = lower find p s a keys in settled_free w 0 (share find (width p a) (Inverse x.flat) x.keys).flat now (share_settled (width p a) (Inverse x.flat) x.keys)
  lower_held p s (One (ones.Cut narrow) a) w keys now ok =
      let x = lower find p s a keys in refit_held (nat_eq narrow (width p a)) narrow w (settled_most p room a) (Lowest (narrow - 1) x.flat) x.flat x.keys now (lower_held p s a w keys now ok)
  lower_held p s (One (ones.Widen wide) a) w keys now ok =
      let x = lower find p s a keys in refit_held (nat_eq wide (width p a)) wide w (settled_most p room a) (Padded (wide - width p a) x.flat) x.flat x.keys now (lower_held p s a w keys now ok)
  lower_held p s (Two op a b) w keys now ok =
      let x = lower find p s a keys in
      let y = lower find p s b x.keys in
      settled_free w 0 (combined find op (width p (Two op a b)) x.flat y.flat y.keys).flat now (combined_settled op (width p (Two op a b)) x.flat y.flat y.keys)
  lower_held p s (Choose t a b) w keys now ok =
      let c = lower find p s t keys in
      let x = lower find p s a c.keys in
      let y = lower find p s b x.keys in
      settled_free w 0 (share find (width p a) (Select c.flat x.flat y.flat) y.keys).flat now (share_settled (width p a) (Select c.flat x.flat y.flat) y.keys)

  given_once_short : (w n : ℕ) (zero : Bool) (v old : Flat) (keys : List Key) → keys_most room (settled find w v keys).keys ≤ keys_most room keys + n
      → keys_most room (given_once find w zero v old keys).keys ≤ keys_most room keys + n
  given_once_short w n true v old keys h = omega arith
  given_once_short w n false v old keys h = h

  -- a guard of any kind, where the value and what was there are so long
  given_any : (w : ℕ) (g v old : Flat) (keys : List Key) → keys_most room (given find w g v old keys).keys ≤ keys_most room keys + (frame_most room + 4 + flat_most room g + flat_most room v + flat_most room old)
  given_any w (Fixed u n) v old keys = given_once_short w (frame_most room + 4 + number_size u + flat_most room v + flat_most room old) (nat_eq n 0) v old keys (omega (arith, (settled_spends w v keys).0))
  given_any w (OfItem i) v old keys = omega (arith, share_short w (Select (OfItem i) v old) keys)
  given_any w (OfPin i) v old keys = omega (arith, share_short w (Select (OfPin i) v old) keys)
  given_any w (OfWire k) v old keys = omega (arith, share_short w (Select (OfWire k) v old) keys)

  module _ (p : Program) (s : Sym) (ok : AreHeld p s) (guard e : Expr) (w : ℕ) (keys : List Key) where
    abbrev g : Made
    g = lower find p s guard keys

    abbrev v : Made
    v = lower find p s e g.keys

    any_short : (n : ℕ) (old : Flat) → flat_most room old ≤ n
        → keys_most room (given find w g.flat v.flat old v.keys).keys
        ≤ keys_most room keys + (expr_most p room (arrays_of s.writes) guard + expr_most p room (arrays_of s.writes) e) + (frame_most room + 4 + operand_most p room guard + operand_most p room e + n)
    any_short n old h = omega (arith, h, (lower_spends p s guard keys ok).1, (lower_spends p s e g.keys ok).1, given_any w g.flat v.flat old v.keys)

  -- the wires of a guard and a value, and what is held of them
  given_short : (p : Program) (s : Sym) (guard e : Expr) (w n : ℕ) (old : Flat) (keys : List Key) → AreHeld p s → flat_most room old ≤ n
      → (let g = lower find p s guard keys in let v = lower find p s e g.keys in
      keys_most room (given find w g.flat v.flat old v.keys).keys
      ≤ keys_most room keys + (expr_most p room (arrays_of s.writes) guard + expr_most p room (arrays_of s.writes) e) + given_most p room n guard e)
  given_short p s (Const u x) e w n old keys ok h =
      let v = lower find p s e keys in
      omega (arith, (lower_spends p s e keys ok).0, given_once_short w (settled_most p room e) (nat_eq x 0) v.flat old v.keys (lower_held p s e w keys v.keys ok.no_name))
  given_short p s (Now i) e w n old keys ok h = any_short p s ok (Now i) e w keys n old h
  given_short p s (Before i) e w n old keys ok h = any_short p s ok (Before i) e w keys n old h
  given_short p s (Pin i) e w n old keys ok h = any_short p s ok (Pin i) e w keys n old h
  given_short p s (Temp i) e w n old keys ok h = any_short p s ok (Temp i) e w keys n old h
  given_short p s (Cell a i) e w n old keys ok h = any_short p s ok (Cell a i) e w keys n old h
  given_short p s (One o a) e w n old keys ok h = any_short p s ok (One o a) e w keys n old h
  given_short p s (Two o a b) e w n old keys ok h = any_short p s ok (Two o a b) e w keys n old h
  given_short p s (Choose c a b) e w n old keys ok h = any_short p s ok (Choose c a b) e w keys n old h

  -- ---- steps

  aimed_short : (p : Program) (s : Sym) (guard e : Expr) (w : ℕ) (keys : List Key) (aim : Aim) → AreHeld p s
      → (let g = lower find p s guard keys in let v = lower find p s e g.keys in let arrays = arrays_of s.writes in
      going_most room (aimed find p s aim w g.flat v.flat v.keys)
      ≤ keys_most room keys + puts_most room s.writes + (expr_most p room arrays guard + expr_most p room arrays e) + aim_most p room arrays guard e aim)
  aimed_short p s guard e w keys (ToItem i) ok =
      let old = slice_index_or s.items i nothing in omega (arith, given_short p s guard e w (name_most room) old keys ok (flat_small old))
  aimed_short p s guard e w keys (ToTemp i) ok =
      let old = slice_index_or s.temps i nothing in omega (arith, given_short p s guard e w (held_most room (slice_index p.temps i)) old keys ok (ok.short i))
  aimed_short p s guard e w keys (ToCell a index) ok =
      let g = lower find p s guard keys in
      let v = lower find p s e g.keys in
      omega (arith, (lower_spends p s guard keys ok).1, (lower_spends p s e g.keys ok).1, (lower_spends p s index v.keys ok).1)

  gone_short : (p : Program) (go : Going) (move : Move) → AreHeld p go.sym → going_most room (gone find p go move) ≤ going_most room go + move_most p room (arrays_of go.sym.writes) move
  gone_short p go move ok = omega (arith, aimed_short p go.sym move.guard move.value (width p move.value) go.keys move.aim ok)

  aimed_settled : (p : Program) (s : Sym) (aim : Aim) (w : ℕ) (g v : Flat) (keys : List Key) → AreSettled s.temps → AreSettled (aimed find p s aim w g v keys).sym.temps
  aimed_settled p s (ToItem i) w g v keys ok = ok
  aimed_settled p s (ToTemp i) w g v keys ok =
      let old = slice_index_or s.temps i nothing in settled_set s.temps i (given find w g v old keys).flat ok (given_is w g v old keys (settled_at s.temps i ok))
  aimed_settled p s (ToCell a index) w g v keys ok = ok

  arrays_then : (p : Program) (s : Sym) (aim : Aim) (w : ℕ) (g v : Flat) (keys : List Key) → arrays_of (aimed find p s aim w g v keys).sym.writes ≡ arrays_after aim (arrays_of s.writes)
  arrays_then p s (ToItem i) w g v keys = refl
  arrays_then p s (ToTemp i) w g v keys = refl
  arrays_then p s (ToCell a index) w g v keys = refl

  module _ (p : Program) (formed : IsWellFormed p) (is_find : IsFind find) where
    are_held : (keys : List Key) (s : Sym) → IsSymSound p formed find is_find keys s → AreSettled s.temps → AreHeld p s
    are_held keys s sound ok = record { no_name = ok; short = λ i. elim (cases_lt i (length p.temps)) [ inl less ↦ there i less | inr past ↦ nowhere i past ] }
      where
        there : (i : ℕ) → i < length p.temps → flat_most room (slice_index_or s.temps i nothing) ≤ held_most room (slice_index p.temps i)
        there i less = flat_held p keys (slice_index_or s.temps i nothing) (slice_index p.temps i) (settled_at s.temps i ok) (sound.temps i less).wide

        nowhere : (i : ℕ) → length p.temps ≤ i → flat_most room (slice_index_or s.temps i nothing) ≤ held_most room (slice_index p.temps i)
        nowhere i past =
            let flat : slice_index_or s.temps i nothing ≡ nothing = get_or_past s.temps i nothing (omega (arith, past, sound.temps_many)) in
            let wide : 0 ≡ slice_index p.temps i = sym (get_or_past p.temps i 0 past) in
            subst (λ (f : Flat). flat_most room f ≤ held_most room (slice_index p.temps i)) (sym flat) (flat_held p keys nothing (slice_index p.temps i) tt wide)

    pub all_short : (go : Going) (moves : List Move) → IsSymSound p formed find is_find go.keys go.sym → All (IsMove p) moves → AreSettled go.sym.temps
        → going_most room (gone_all find p go moves) ≤ going_most room go + moves_most p room (arrays_of go.sym.writes) moves
    all_short go [] sound are ok = omega arith
    all_short go (move ∷ moves) sound are ok =
        let one = gone find p go move in
        let g = lower find p go.sym move.guard go.keys in
        let v = lower find p go.sym move.value g.keys in
        let then_sound = (all_grown p formed find is_find go (move ∷ []) sound (All-cons (IsMove p) move [] (All-head (IsMove p) move moves are) (All-nil (IsMove p)))).sym in
        let after = aimed_settled p go.sym move.aim (width p move.value) g.flat v.flat v.keys ok in
        let rest : going_most room (gone_all find p one moves) ≤ going_most room one + moves_most p room (arrays_after move.aim (arrays_of go.sym.writes)) moves =
        subst (λ (all : List ℕ). going_most room (gone_all find p one moves) ≤ going_most room one + moves_most p room all moves) (arrays_then p go.sym move.aim (width p move.value) g.flat v.flat v.keys)
        (all_short one moves then_sound (All-tail (IsMove p) move moves are) after) in
        omega (arith, gone_short p go move (are_held go.keys go.sym sound ok), rest)

-- ---- names are no longer than the longest

longest_least : (names : List (List ℕ)) → 25 ≤ longest names
longest_least [] = omega arith
longest_least (n ∷ names) = omega (arith, longest_least names)

longest_front : (xs ys : List (List ℕ)) → longest xs ≤ longest (xs ++ ys)
longest_front [] ys = longest_least ys
longest_front (x ∷ xs) ys = omega (arith, longest_front xs ys)

longest_back : (xs ys : List (List ℕ)) → longest ys ≤ longest (xs ++ ys)
longest_back [] ys = omega arith
longest_back (x ∷ xs) ys = omega (arith, longest_back xs ys)

longest_at : (names : List (List ℕ)) (i : ℕ) → length (slice_index_or names i []) ≤ longest names
longest_at [] i = omega arith
longest_at (n ∷ names) zero = omega arith
longest_at (n ∷ names) (suc i) = omega (arith, longest_at names i)

-- the room of a program, whose longest name is no shorter than a wire's of 20 digits
pub room_is : (digits : ℕ) → digits ≤ 20 → (p : Program) → IsRoom (room_for digits (longest (program_names p)))
room_is digits within p = let least = longest_least (program_names p) in record { least_wire = omega arith; less = omega (arith, within, least); least_name = least }

-- ---- the tokens of what is written

-- what stands at its own level or a looser one has no parentheses
wrapped_not : (level : ℕ) (e : VTree) (ts : VToks) → level ≤ own_level e → wrapped level e ts ≡ ts
wrapped_not level e ts h = ap (λ (b : Bool). if b then (Mark signs.OpenRound ∷ (ts ++ Mark signs.CloseRound ∷ [])) else ts) (le-ltb (own_level e) level h)

zero_digit : length (decimal 0) ≤ 1
zero_digit = length-decimal-le 1 0 (omega arith) (omega arith) (omega arith)

range_size : (w : ℕ) (rest : VToks) → IsWidth w → toks_size (range_tokens w ++ rest) ≤ 11 + toks_size rest
range_size w rest h = omega (arith, h, zero_digit, length-decimal-le 2 (w - 1) (omega arith) (omega (arith, h.1)) (omega (arith, h.1)))

module _ (digits : ℕ) (some : 1 ≤ digits) (within : digits ≤ 20) (p : Program) (formed : IsWellFormed p) (end : Going) (few : length end.keys ≤ 10 ^ digits) (ordered : IsOrdered p end.keys) (items_many : length end.sym.items ≡ length p.items)
    (items_below : (i : ℕ) → i < length p.items → IsBelow p (length end.keys) (slice_index_or end.sym.items i nothing)) (puts : ArePuts p formed (length end.keys) end.sym.writes) where
  abbrev most : ℕ
  most = longest (program_names p)

  abbrev room : Room
  room = room_for digits most

  item_short : (i : ℕ) → length (item_name p i) ≤ most
  item_short i = omega (arith, longest_at (item_names p.items) i, longest_front (item_names p.items) (array_names p.arrays ++ item_names p.pins))

  array_short : (i : ℕ) → length (array_name p i) ≤ most
  array_short i = omega (arith, longest_at (array_names p.arrays) i, longest_front (array_names p.arrays) (item_names p.pins), longest_back (item_names p.items) (array_names p.arrays ++ item_names p.pins))

  pin_short : (i : ℕ) → length (pin_name p i) ≤ most
  pin_short i = omega (arith, longest_at (item_names p.pins) i, longest_back (array_names p.arrays) (item_names p.pins), longest_back (item_names p.items) (array_names p.arrays ++ item_names p.pins))

  wire_short : (k : ℕ) → k < 10 ^ digits → length (wire_name k) ≤ 5 + digits
  wire_short k h =
      let far : 10 ^ digits ≤ 10 ^ 20 = pow-le-pow_right {n = 10} (omega arith) within in
      omega (arith, length-append (codes "wire.") (decimal k), length-decimal-le_wide digits k some h (omega (arith, h, far)))

  -- ---- operands and what wires carry

  bare_size : (n : ℕ) (f : Flat) → n ≤ 10 ^ digits → IsBelow p n f → toks_size (bare (named p f)) ≤ flat_most room f
  bare_size n (Fixed w v) less b = omega (arith, sized_most w v)
  bare_size n (OfItem i) less b = omega (arith, item_short i)
  bare_size n (OfPin i) less b = omega (arith, pin_short i)
  bare_size n (OfWire k) less b = omega (arith, wire_short k (omega (arith, less, b)))

  named_level : (f : Flat) → own_level (named p f) ≡ 12
  named_level (Fixed w v) = refl
  named_level (OfItem i) = refl
  named_level (OfPin i) = refl
  named_level (OfWire k) = refl

  flat_size : (n level : ℕ) (f : Flat) → level ≤ 12 → n ≤ 10 ^ digits → IsBelow p n f → toks_size (shown level (named p f)) ≤ flat_most room f
  flat_size n level f h less b =
      subst (λ (ts : VToks). toks_size ts ≤ flat_most room f) (sym (wrapped_not level (named p f) (bare (named p f)) (omega (arith, h, named_level f)))) (bare_size n f less b)

  flat_low : (n : ℕ) (f : Flat) → n ≤ 10 ^ digits → IsBelow p n f → toks_size (shown 0 (named p f)) ≤ name_most room
  flat_low n f less b = omega (arith, flat_size n 0 f (omega arith) less b, flat_small (λ keys key. None) room (room_is digits within p) f)

  lowest_bare : (n high : ℕ) (f : Flat) → n ≤ 10 ^ digits → IsBelow p n f → high < 64 → toks_size (bare (lowest p high f)) ≤ 11 + flat_most room f
  lowest_bare n high (Fixed w v) less b small = omega (arith, sized_most w v)
  lowest_bare n high (OfItem i) less b small = omega (arith, item_short i, zero_digit, length-decimal-le 2 high (omega arith) (omega (arith, small)) (omega (arith, small)))
  lowest_bare n high (OfPin i) less b small = omega (arith, pin_short i, zero_digit, length-decimal-le 2 high (omega arith) (omega (arith, small)) (omega (arith, small)))
  lowest_bare n high (OfWire k) less b small =
      omega (arith, wire_short k (omega (arith, less, b)), zero_digit, length-decimal-le 2 high (omega arith) (omega (arith, small)) (omega (arith, small)))

  body_bare : (n : ℕ) (body : Body) → n ≤ 10 ^ digits → IsBodyBelow p n body → toks_size (bare (body_tree p body)) ≤ body_most room body
  body_bare n (Copied f) less b = bare_size n f less b
  body_bare n (Lowest high f) less b = lowest_bare n high f less b.2 b.0
  body_bare n (Padded zeros f) less b =
      omega (
        arith,
        flat_size n 0 f (omega arith) less b.1,
        toks_size-append (parts_tokens (Then (trees.Number zeros 0) (Then (named p f) End))) (Mark signs.CloseBrace ∷ []),
        toks_size-append (shown 0 (named p f)) (more_tokens End),
      )
  body_bare n (Inverse f) less b = omega (arith, flat_size n 12 f (omega arith) less b)
  body_bare n (Load a f) less b =
      omega (arith, flat_size n 0 f (omega arith) less b.1, array_short a, toks_size-append (shown 0 (named p f)) (Mark signs.CloseSquare ∷ []))
  body_bare n (Operate op f g) less b = operator (operator_of op) (low op) (sign_size op)
    where
      low : (op : TwoOp) → suc (level_of (operator_of op)) ≤ 12
      low ops.Add = omega arith
      low ops.Sub = omega arith
      low ops.Mul = omega arith
      low ops.And = omega arith
      low ops.Or = omega arith
      low ops.Xor = omega arith
      low ops.Shl = omega arith
      low ops.Shr = omega arith
      low ops.Equal = omega arith
      low ops.Less = omega arith

      sign_size : (op : TwoOp) → toks_size (Mark (vsign_of (operator_of op)) ∷ []) ≤ sign_most op
      sign_size ops.Add = omega arith
      sign_size ops.Sub = omega arith
      sign_size ops.Mul = omega arith
      sign_size ops.And = omega arith
      sign_size ops.Or = omega arith
      sign_size ops.Xor = omega arith
      sign_size ops.Shl = omega arith
      sign_size ops.Shr = omega arith
      sign_size ops.Equal = omega arith
      sign_size ops.Less = omega arith

      operator : (o : Operator) → suc (level_of o) ≤ 12 → toks_size (Mark (vsign_of o) ∷ []) ≤ sign_most op → toks_size (bare (trees.Two o (named p f) (named p g))) ≤ sign_most op + (flat_most room f + flat_most room g)
      operator o h sign =
          omega (
            arith,
            sign,
            flat_size n (level_of o) f (omega (arith, h)) less b.0,
            flat_size n (suc (level_of o)) g h less b.1,
            toks_size-append (shown (level_of o) (named p f)) (Mark (vsign_of o) ∷ shown (suc (level_of o)) (named p g)),
          )
  body_bare n (Select c f g) less b =
      omega (
        arith,
        flat_size n 1 c (omega arith) less b.0,
        flat_size n 0 f (omega arith) less b.1,
        flat_size n 0 g (omega arith) less b.2,
        toks_size-append (shown 1 (named p c)) (Mark signs.Question ∷ (shown 0 (named p f) ++ (Mark signs.Colon ∷ shown 0 (named p g)))),
        toks_size-append (shown 0 (named p f)) (Mark signs.Colon ∷ shown 0 (named p g)),
      )

  body_size : (n : ℕ) (body : Body) → n ≤ 10 ^ digits → IsBodyBelow p n body → toks_size (shown 0 (body_tree p body)) ≤ body_most room body
  body_size n body less b =
      subst (λ (ts : VToks). toks_size ts ≤ body_most room body) (sym (wrapped_not 0 (body_tree p body) (bare (body_tree p body)) (omega arith))) (body_bare n body less b)

  -- ---- members

  wires_size : (n : ℕ) (keys : List Key) (rest : List MemberTree) → n + length keys ≤ 10 ^ digits → ((k : ℕ) (key : Key) → slice_get keys k ≡ Some key → IsBodyBelow p (n + k) key.body × IsWidth key.width)
      → toks_size (flat_map member_tokens (wires_from p n keys ++ rest)) ≤ keys_most room keys + toks_size (flat_map member_tokens rest)
  wires_size n [] rest less low = omega arith
  wires_size n (key ∷ keys) rest less low =
      let here = low zero key refl in
      let value = shown 0 (body_tree p key.body) in
      let later = flat_map member_tokens (wires_from p (suc n) keys ++ rest) in
      omega (
        arith,
        wire_short n (omega (arith, less)),
        body_size (n + 0) key.body (omega (arith, less)) here.0,
        toks_size-append value (Mark signs.Semicolon ∷ []),
        range_size key.width (Named (wire_name n) ∷ Mark signs.Equal ∷ (value ++ Mark signs.Semicolon ∷ [])) here.1,
        toks_size-append (Reserved words.Wire ∷ (range_tokens key.width ++ (Named (wire_name n) ∷ Mark signs.Equal ∷ (value ++ Mark signs.Semicolon ∷ [])))) later,
        wires_size (suc n) keys rest (omega (arith, less)) (λ k x e. (let r = low (suc k) x e in (subst (λ (j : ℕ). IsBodyBelow p j x.body) {x = n + suc k} {y = suc n + k} (omega arith) r.0, r.1))),
      )

  regs_size : (items : List Item) (rest : List MemberTree) → ((i : ℕ) → length (slice_index_or (item_names items) i []) ≤ most) → ((i : ℕ) (d : Item) → i < length items → IsWidth (slice_index_or items i d).width)
      → toks_size (flat_map member_tokens (reg_members items ++ rest)) ≤ length items * (17 + name_most room) + toks_size (flat_map member_tokens rest)
  regs_size [] rest short wide = omega arith
  regs_size (item ∷ items) rest short wide =
      let more : suc (length items) * (17 + name_most room) ≡ length items * (17 + name_most room) + (17 + name_most room) = grind arith in
      let own = Named item.name ∷ Mark signs.Semicolon ∷ [] in
      omega (
        arith,
        more,
        short zero,
        range_size item.width own (wide 0 item (omega arith)),
        toks_size-append (Reserved words.Reg ∷ (range_tokens item.width ++ own)) (flat_map member_tokens (reg_members items ++ rest)),
        regs_size items rest (λ i. short (suc i)) (λ i d h. wide (suc i) d (omega (arith, h))),
      )

  arrays_size : (all : List ArrayItem) (rest : List MemberTree) → ((i : ℕ) → length (slice_index_or (array_names all) i []) ≤ most)
      → ((i : ℕ) (d : ArrayItem) → i < length all → IsWidth (slice_index_or all i d).width × (length (decimal ((slice_index_or all i d).depth - 1)) ≤ 7))
      → toks_size (flat_map member_tokens (array_members all ++ rest)) ≤ length all * (33 + name_most room) + toks_size (flat_map member_tokens rest)
  arrays_size [] rest short wide = omega arith
  arrays_size (array ∷ all) rest short wide =
      let more : suc (length all) * (33 + name_most room) ≡ length all * (33 + name_most room) + (33 + name_most room) = grind arith in
      let here = wide 0 array (omega arith) in
      let own = Named array.name ∷ Mark signs.OpenSquare ∷ Plain 0 (length (decimal 0)) ∷ Mark signs.Colon ∷ Plain (array.depth - 1) (length (decimal (array.depth - 1))) ∷ Mark signs.CloseSquare ∷ Mark signs.Semicolon ∷ [] in
      omega (
        arith,
        more,
        short zero,
        zero_digit,
        here.1,
        range_size array.width own here.0,
        toks_size-append (Reserved words.Reg ∷ (range_tokens array.width ++ own)) (flat_map member_tokens (array_members all ++ rest)),
        arrays_size all rest (λ i. short (suc i)) (λ i d h. wide (suc i) d (omega (arith, h))),
      )

  starts_size : (items : List Item) (first : List ℕ) → ((i : ℕ) → length (slice_index_or (item_names items) i []) ≤ most) → toks_size (flat_map setting_tokens (first_settings items first)) ≤ length items * (29 + name_most room)
  starts_size [] first short = omega arith
  starts_size (item ∷ items) [] short = omega arith
  starts_size (item ∷ items) (v ∷ first) short =
      let more : suc (length items) * (29 + name_most room) ≡ length items * (29 + name_most room) + (29 + name_most room) = grind arith in
      omega (arith, more, short zero, sized_most item.width v, number_low item.width, starts_size items first (λ i. short (suc i)))

  pins_size : (items : List Item) (rest : VToks) → ((i : ℕ) → length (slice_index_or (item_names items) i []) ≤ most) → ((i : ℕ) (d : Item) → i < length items → IsWidth (slice_index_or items i d).width)
      → toks_size (flat_map input_tokens items ++ rest) ≤ length items * (19 + name_most room) + toks_size rest
  pins_size [] rest short wide = omega arith
  pins_size (item ∷ items) rest short wide =
      let more : suc (length items) * (19 + name_most room) ≡ length items * (19 + name_most room) + (19 + name_most room) = grind arith in
      let own = Named item.name ∷ [] in
      omega (
        arith,
        more,
        short zero,
        range_size item.width own (wide 0 item (omega arith)),
        toks_size-append (flat_map input_tokens (item ∷ items)) rest,
        toks_size-append (Mark signs.Comma ∷ Reserved words.Input ∷ (range_tokens item.width ++ own)) (flat_map input_tokens items),
        toks_size-append (flat_map input_tokens items) rest,
        pins_size items rest (λ i. short (suc i)) (λ i d h. wide (suc i) d (omega (arith, h))),
      )

  -- ---- actions

  sets_size : (n from : ℕ) (fs : List Flat) (rest : ActionTrees) → n ≤ 10 ^ digits → ((i : ℕ) → i < length fs → IsBelow p n (slice_index_or fs i nothing))
      → toks_size (action_tokens (set_items p from fs rest)) ≤ length fs * (5 + 2 * name_most room) + toks_size (action_tokens rest)
  sets_size n from [] rest less low = omega arith
  sets_size n from (f ∷ fs) rest less low =
      let more : suc (length fs) * (5 + 2 * name_most room) ≡ length fs * (5 + 2 * name_most room) + (5 + 2 * name_most room) = grind arith in
      omega (
        arith,
        more,
        item_short from,
        flat_low n f less (low zero (omega arith)),
        toks_size-append (shown 0 (named p f)) (Mark signs.Semicolon ∷ action_tokens (set_items p (suc from) fs rest)),
        sets_size n (suc from) fs rest less (λ i h. low (suc i) (omega (arith, h))),
      )

  put_size : (n : ℕ) (w : Write) (rest : ActionTrees) → n ≤ 10 ^ digits → (w.array < length p.arrays) × IsBelow p n w.guard × IsBelow p n w.index × IsBelow p n w.value
      → toks_size (action_tokens (put_cell p w rest)) ≤ (26 + name_most room + flat_most room w.guard + flat_most room w.index + flat_most room w.value) + toks_size (action_tokens rest)
  put_size n w rest less b =
      let g = shown 0 (named p w.guard) in
      let i = shown 0 (named p w.index) in
      let v = shown 0 (named p w.value) in
      let stored = Named (array_name p w.array) ∷ Mark signs.OpenSquare ∷ (i ++ (Mark signs.CloseSquare ∷ Mark signs.LessEqual ∷ (v ++ (Mark signs.Semicolon ∷ [])))) in
      let later = Reserved words.End ∷ action_tokens rest in
      omega (
        arith,
        array_short w.array,
        flat_size n 0 w.guard (omega arith) less b.1,
        flat_size n 0 w.index (omega arith) less b.2,
        flat_size n 0 w.value (omega arith) less b.3,
        toks_size-append g (Mark signs.CloseRound ∷ Reserved words.Begin ∷ (stored ++ later)),
        toks_size-append stored later,
        toks_size-append i (Mark signs.CloseSquare ∷ Mark signs.LessEqual ∷ (v ++ (Mark signs.Semicolon ∷ []))),
        toks_size-append v (Mark signs.Semicolon ∷ []),
      )

  puts_size : (n : ℕ) (ws : List Write) (rest : ActionTrees) → n ≤ 10 ^ digits → ArePuts p formed n ws
      → toks_size (action_tokens (put_cells p ws rest)) ≤ puts_most room ws + toks_size (action_tokens rest)
  puts_size n [] rest less b = omega arith
  puts_size n (w ∷ ws) rest less b = omega (arith, put_size n w rest less b.0, puts_size n ws (put_cell p w rest) less b.1)

  -- ---- the module

  depth_short : (d : ℕ) → IsDepth d → length (decimal (d - 1)) ≤ 7
  depth_short d h =
      let k : 2 ^ h.0 ≤ 2 ^ 20 = pow-le-pow_right {n = 2} (omega arith) h.2 in
      length-decimal-le 7 (d - 1) (omega arith) (omega (arith, k, h.3)) (omega (arith, k, h.3))

  four : length p.items * (17 + name_most room) + length p.items * (29 + name_most room) + length p.items * (5 + 2 * name_most room) ≡ length p.items * (51 + 4 * name_most room)
  four = grind arith

  initial_size : (rest : List MemberTree) → toks_size (flat_map member_tokens (trees.Initial (first_settings p.items p.first) ∷ rest)) ≤ 18 + length p.items * (29 + name_most room) + toks_size (flat_map member_tokens rest)
  initial_size rest =
      let all = flat_map setting_tokens (first_settings p.items p.first) in
      omega (
        arith,
        starts_size p.items p.first item_short,
        toks_size-append all (Reserved words.End ∷ []),
        toks_size-append (Reserved words.Initial ∷ Reserved words.Begin ∷ (all ++ Reserved words.End ∷ [])) (flat_map member_tokens rest),
      )

  always_size : toks_size (flat_map member_tokens (trees.Always clock_name (actions p end.sym) ∷ [])) ≤ 43 + length p.items * (5 + 2 * name_most room) + puts_most room end.sym.writes
  always_size =
      let same : length end.sym.items * (5 + 2 * name_most room) ≡ length p.items * (5 + 2 * name_most room) = ap (λ (n : ℕ). n * (5 + 2 * name_most room)) items_many in
      let acts = action_tokens (actions p end.sym) in
      omega (
        arith,
        same,
        toks_size-append acts (Reserved words.End ∷ []),
        toks_size-append (member_tokens (trees.Always clock_name (actions p end.sym))) [],
        sets_size (length end.keys) 0 end.sym.items (put_cells p end.sym.writes trees.Done) few (λ i h. items_below i (omega (arith, items_many, h))),
        puts_size (length end.keys) end.sym.writes trees.Done few puts,
      )

  members_size : toks_size (flat_map member_tokens (module_at p end).members)
      ≤ 61 + length p.items * (51 + 4 * name_most room) + length p.arrays * (33 + name_most room) + going_most room end
  members_size =
      let last = trees.Always clock_name (actions p end.sym) ∷ [] in
      let middle = trees.Initial (first_settings p.items p.first) ∷ (wires_from p 0 end.keys ++ last) in
      omega (
        arith,
        four,
        regs_size p.items (array_members p.arrays ++ middle) item_short (λ i d h. (formed.items i d h).1),
        arrays_size p.arrays middle array_short (λ i d h. (let r = formed.arrays i d h in (r.1, depth_short _ r.2))),
        initial_size (wires_from p 0 end.keys ++ last),
        wires_size 0 end.keys last (omega (arith, few)) (λ k key e. (let is = ordered k key e in (subst (λ (n : ℕ). IsBodyBelow p n key.body) {x = k} {y = 0 + k} (omega arith) is.below, is.small))),
        always_size,
      )

  pub module_short : going_most room end ≤ moves_most p room [] p.moves → toks_size (module_tokens (module_at p end)) ≤ module_most digits p
  module_short h =
      let all = flat_map member_tokens (module_at p end).members in
      let head = flat_map input_tokens p.pins ++ (Mark signs.CloseRound ∷ Mark signs.Semicolon ∷ []) in
      omega (
        arith,
        h,
        members_size,
        toks_size-append all (Reserved words.EndModule ∷ []),
        pins_size p.pins (Mark signs.CloseRound ∷ Mark signs.Semicolon ∷ []) pin_short (λ i d h. (formed.pins i d h).1),
        toks_size-append (Reserved words.Module ∷ Named (codes "machine") ∷ Mark signs.OpenRound ∷ Reserved words.Input ∷ Named clock_name ∷ head) (all ++ Reserved words.EndModule ∷ []),
      )
