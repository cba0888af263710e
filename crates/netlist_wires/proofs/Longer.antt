-- Keys are only added, behind the others.
use Rattle.std.proofs.Common.{◌≡◌, ℕ, ◌-◌, ◌<◌, ◌≤◌, Bool, true, false, ◌&&◌, List, [], ◌∷◌, ◌++◌, length, refl, sym, ap, ◌∙◌, arith, append_assoc, length-append, nat_eq, Option, Some, None}
use Rattle.std.specs.List.{slice_get}
use Rattle.std.specs.Prelude.{slice_index_or}
use Rattle.std.proofs.lemmas.List.{append-nil, get_or_append_left}
use Rattle.std.proofs.lemmas.Option.{slice_get_within, slice_get-get_or, get_or_from_slice_get}
use Rattle.step_program.specs.declared.expressions.OneOp.{OneOp}
use Rattle.step_program.specs.declared.expressions.OneOp.TheVariants as ones
use Rattle.step_program.specs.declared.expressions.TwoOp.{TwoOp}
use Rattle.step_program.specs.declared.expressions.TwoOp.TheVariants as ops
use Rattle.step_program.specs.Programs.{Expr, Const, Now, Before, Pin, Temp, Cell, One, Two, Choose, Aim, ToItem, ToTemp, ToCell, Move, Program}
use Rattle.step_program.specs.Effects.{array_width, width}
use Rattle.netlist_wires.specs.declared.keys.Flat.{Flat}
use Rattle.netlist_wires.specs.declared.keys.Flat.TheVariants.{Fixed, OfItem, OfPin, OfWire}
use Rattle.netlist_wires.specs.declared.keys.Body.{Body}
use Rattle.netlist_wires.specs.declared.keys.Body.TheVariants.{Copied, Lowest, Padded, Inverse, Load, Operate, Select}
use Rattle.netlist_wires.specs.declared.keys.Key.{Key}
use Rattle.netlist_wires.specs.declared.keys.Write.{Write}
use Rattle.netlist_wires.specs.Wiring.{Made, Find, shared, share, behind, load, Sym, nothing, refit, changed, settled, is_zero, keeps_right, keeps_left, combined_by, shifts_out, combined_unless, combined, lower, given_once, given, Going, aimed, gone, gone_all}

pub record IsLonger (keys now : List Key) : Type 0 where
  pub more : List Key
  pub is : now ≡ keys ++ more

pub same_longer : (keys : List Key) → IsLonger keys keys
same_longer keys = record { more = []; is = sym (append-nil keys) }

pub then_longer : {a b c : List Key} → IsLonger a b → IsLonger b c → IsLonger a c
then_longer {a = a} g h = record { more = g.more ++ h.more; is = h.is ∙ ap (λ (xs : List Key). xs ++ h.more) g.is ∙ append_assoc a g.more h.more }

-- what holds of a list and more holds of a longer one
pub longer_get : {keys now : List Key} → IsLonger keys now → (k : ℕ) (key : Key) → slice_get keys k ≡ Some key → slice_get now k ≡ Some key
longer_get {keys = keys} g k key e =
    let h = slice_get_within keys k key e in
    let long : k < length (keys ++ g.more) = omega (arith, length-append keys g.more, h) in
    ap (λ (xs : List Key). slice_get xs k) g.is ∙ slice_get-get_or (keys ++ g.more) k key long
    ∙ ap (λ (x : Key). Some x) (get_or_append_left keys g.more key k h ∙ get_or_from_slice_get keys k key key e)

pub longer_length : {keys now : List Key} → IsLonger keys now → length keys ≤ length now
longer_length {keys = keys} g = omega (arith, length-append keys g.more, ap (λ (xs : List Key). length xs) g.is)

module _ (find : Find) where
  pub share_longer : (w : ℕ) (body : Body) (keys : List Key) → IsLonger keys (share find w body keys).keys
  unfolding share
  share_longer w body keys = go (find keys (record { width = w; body = body }))
    where
      go : (o : Option ℕ) → IsLonger keys (shared o (record { width = w; body = body }) keys).keys
      go (Some k) = same_longer keys
      go None = record { more = record { width = w; body = body } ∷ []; is = refl }

  pub behind_longer : (w : ℕ) (same : Bool) (write : Write) (x : Flat) (found : Made) → IsLonger found.keys (behind find w same write x found).keys
  behind_longer w false write x found = same_longer found.keys
  behind_longer w true write x found =
      let e = share find 1 (Operate ops.Equal write.index x) found.keys in
      let c = share find w (Select write.guard write.value found.flat) e.keys in
      then_longer (share_longer 1 (Operate ops.Equal write.index x) found.keys)
      (then_longer (share_longer w (Select write.guard write.value found.flat) e.keys) (share_longer w (Select e.flat c.flat found.flat) c.keys))

  pub load_longer : (p : Program) (a : ℕ) (ws : List Write) (x : Flat) (keys : List Key) → IsLonger keys (load find p a ws x keys).keys
  load_longer p a [] x keys = share_longer (array_width p a) (Load a x) keys
  load_longer p a (write ∷ ws) x keys =
      then_longer (load_longer p a ws x keys) (behind_longer (array_width p a) (nat_eq write.array a) write x (load find p a ws x keys))

  refit_longer : (same : Bool) (to : ℕ) (body : Body) (f : Flat) (keys : List Key) → IsLonger keys (refit find same to body f keys).keys
  refit_longer true to body f keys = same_longer keys
  refit_longer false to body (Fixed w v) keys = same_longer keys
  refit_longer false to body (OfItem i) keys = share_longer to body keys
  refit_longer false to body (OfPin i) keys = share_longer to body keys
  refit_longer false to body (OfWire k) keys = share_longer to body keys

  pub changed_longer : (one : OneOp) (w : ℕ) (f : Flat) (keys : List Key) → IsLonger keys (changed find one w f keys).keys
  changed_longer ones.Not w f keys = share_longer w (Inverse f) keys
  changed_longer (ones.Cut narrow) w f keys = refit_longer (nat_eq narrow w) narrow (Lowest (narrow - 1) f) f keys
  changed_longer (ones.Widen wide) w f keys = refit_longer (nat_eq wide w) wide (Padded (wide - w) f) f keys

  pub settled_longer : (w : ℕ) (f : Flat) (keys : List Key) → IsLonger keys (settled find w f keys).keys
  settled_longer w (Fixed v b) keys = same_longer keys
  settled_longer w (OfItem i) keys = share_longer w (Copied (OfItem i)) keys
  settled_longer w (OfPin i) keys = share_longer w (Copied (OfPin i)) keys
  settled_longer w (OfWire k) keys = same_longer keys

  combined_by_longer : (op : TwoOp) (w : ℕ) (right left : Bool) (f g : Flat) (keys : List Key) → IsLonger keys (combined_by find op w right left f g keys).keys
  combined_by_longer op w true left f g keys = settled_longer w g keys
  combined_by_longer op w false true f g keys = settled_longer w f keys
  combined_by_longer op w false false f g keys = share_longer w (Operate op f g) keys

  combined_unless_longer : (op : TwoOp) (w : ℕ) (out : Bool) (f g : Flat) (keys : List Key) → IsLonger keys (combined_unless find op w out f g keys).keys
  combined_unless_longer op w true f g keys = same_longer keys
  combined_unless_longer op w false f g keys = combined_by_longer op w (keeps_right op && is_zero f) (keeps_left op && is_zero g) f g keys

  pub combined_longer : (op : TwoOp) (w : ℕ) (f g : Flat) (keys : List Key) → IsLonger keys (combined find op w f g keys).keys
  combined_longer op w f g keys = combined_unless_longer op w (shifts_out op w g) f g keys

  pub lower_longer : (p : Program) (s : Sym) (e : Expr) (keys : List Key) → IsLonger keys (lower find p s e keys).keys
  lower_longer p s (Const w v) keys = same_longer keys
  lower_longer p s (Now i) keys = same_longer keys
  lower_longer p s (Before i) keys = same_longer keys
  lower_longer p s (Pin i) keys = same_longer keys
  lower_longer p s (Temp i) keys = same_longer keys
  lower_longer p s (Cell a index) keys =
      let x = lower find p s index keys in then_longer (lower_longer p s index keys) (load_longer p a s.writes x.flat x.keys)
  lower_longer p s (One one a) keys =
      let x = lower find p s a keys in then_longer (lower_longer p s a keys) (changed_longer one (width p a) x.flat x.keys)
  lower_longer p s (Two op a b) keys =
      let x = lower find p s a keys in
      let y = lower find p s b x.keys in
      then_longer (lower_longer p s a keys) (then_longer (lower_longer p s b x.keys) (combined_longer op (width p (Two op a b)) x.flat y.flat y.keys))
  lower_longer p s (Choose t a b) keys =
      let c = lower find p s t keys in
      let x = lower find p s a c.keys in
      let y = lower find p s b x.keys in
      then_longer (lower_longer p s t keys)
      (then_longer (lower_longer p s a c.keys) (then_longer (lower_longer p s b x.keys) (share_longer (width p a) (Select c.flat x.flat y.flat) y.keys)))

  given_once_longer : (w : ℕ) (zero : Bool) (v old : Flat) (keys : List Key) → IsLonger keys (given_once find w zero v old keys).keys
  given_once_longer w true v old keys = same_longer keys
  given_once_longer w false v old keys = settled_longer w v keys

  pub given_longer : (w : ℕ) (g v old : Flat) (keys : List Key) → IsLonger keys (given find w g v old keys).keys
  given_longer w (Fixed u n) v old keys = given_once_longer w (nat_eq n 0) v old keys
  given_longer w (OfItem i) v old keys = share_longer w (Select (OfItem i) v old) keys
  given_longer w (OfPin i) v old keys = share_longer w (Select (OfPin i) v old) keys
  given_longer w (OfWire k) v old keys = share_longer w (Select (OfWire k) v old) keys

  pub aimed_longer : (p : Program) (s : Sym) (aim : Aim) (w : ℕ) (g v : Flat) (keys : List Key) → IsLonger keys (aimed find p s aim w g v keys).keys
  aimed_longer p s (ToItem i) w g v keys = given_longer w g v (slice_index_or s.items i nothing) keys
  aimed_longer p s (ToTemp i) w g v keys = given_longer w g v (slice_index_or s.temps i nothing) keys
  aimed_longer p s (ToCell a index) w g v keys = lower_longer p s index keys

  pub gone_longer : (p : Program) (go : Going) (move : Move) → IsLonger go.keys (gone find p go move).keys
  gone_longer p go move =
      let g = lower find p go.sym move.guard go.keys in
      let v = lower find p go.sym move.value g.keys in
      then_longer (lower_longer p go.sym move.guard go.keys)
      (then_longer (lower_longer p go.sym move.value g.keys) (aimed_longer p go.sym move.aim (width p move.value) g.flat v.flat v.keys))

  pub all_longer : (p : Program) (go : Going) (moves : List Move) → IsLonger go.keys (gone_all find p go moves).keys
  all_longer p go [] = same_longer go.keys
  all_longer p go (move ∷ moves) = then_longer (gone_longer p go move) (all_longer p (gone find p go move) moves)
