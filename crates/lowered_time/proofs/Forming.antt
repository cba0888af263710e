-- The steps of an edge are well formed where those of its parts are.
use Rattle.std.proofs.Common.{◌≡◌, ◌≢◌, ℕ, zero, suc, ◌+◌, ◌<◌, ◌≤◌, ◌^◌, Bool, true, false, ◌&&◌, ◌||◌, cond, List, [], ◌∷◌, ◌++◌, length, Option, Some, None, refl, sym, ap, ◌∙◌, subst, arith, nat_eq}
use Rattle.std.specs.Prelude.{is_some, All}
use Rattle.std.specs.Option.{option_map}
use Rattle.std.proofs.lemmas.Bool.{both_ways, ne_eqb, eqb-false}
use Rattle.std.proofs.lemmas.Nat.{pow_pos}
use Rattle.std.proofs.lemmas.List.Elements.{All-append}
use Rattle.step_program.specs.Programs.{Program, Expr, Const, Before, Temp, ToItem, ToTemp, Move}
use Rattle.step_program.specs.Effects.{width, item_width}
use Rattle.step_program.specs.WellFormed.{IsWidth, IsFit}
use Rattle.step_program.specs.Depths.{expr_depth}
use Rattle.step_pieces.specs.Pieces.{Builder, always}
use Rattle.step_pieces.specs.Formed.{Lies, IsStep, IsPiece}
use Rattle.step_pieces.proofs.Laid.{lies_left, lies_right, lies_one, nothing_formed, behind_formed, all_one}
use Rattle.pipeline_time.specs.Acts.{Acts, Done, Act, When, size}
use Rattle.pipeline_time.specs.Cores.{Core, above_of, is_past, slot_level}
use Rattle.pipeline_time.specs.Sound.{IsSound}
use Rattle.pipeline_time.proofs.Tree.{IsGoodTree, tree_of}
use Rattle.lowered_time.specs.Pieces.{Maker, nothing, steps, chain, bind, given, both, either, none, holding}
use Rattle.lowered_time.specs.Building.{Operations, Layout, taken_at, slot_at, held_at, open_at, recorded_at, time_temps, root_row, row_of, own_row, chosen, slotted, rooted, recorded, occurrence, is_idle, active, waits, due, turn_of, place_word, stage_word, held_after, controls, turn, turns, main_run, stood, came, next_bit, next_word, set_place, bit_ends, ends, edge}
use Rattle.lowered_time.specs.Forming.{IsLeaf, time_width, IsRowFor, AreFormed}
use Rattle.lowered_time.specs.Lowering.{IsLaidOut, IsOwned, IsGuard, no_guard, held_guard, IsRow}

module _ {R M : Type 0} (core : Core R M) (sound : IsSound core) (ops : Operations) (layout : Layout) (p : Program) (formed : AreFormed core ops layout p) (laid : IsLaidOut core layout p) where
  abbrev root : ℕ
  root = sound.root

  -- an expression of a width and of little depth
  record IsShallow (w : ℕ) (e : Expr) : Type 0 where
    fits : IsFit p e
    wide : width p e ≡ w
    low : expr_depth e ≤ 6

  of_leaf : (w : ℕ) (e : Expr) → IsLeaf p w e → IsShallow w e
  of_leaf w e l = record { fits = l.fits; wide = l.wide; low = let d = l.leaf in omega (arith, d) }

  two_bits : (x y : Expr) → IsLeaf p 1 x → IsLeaf p 1 y → IsShallow 1 (both x y)
  two_bits x y a b = record { fits = (a.fits, b.fits, a.wide ∙ sym b.wide); wide = a.wide; low = let d = a.leaf in let d' = b.leaf in grind (arith, d, d') }

  bit_always : IsLeaf p 1 always
  bit_always = record { fits = ((omega arith, omega arith), omega arith); wide = refl; leaf = omega arith }

  -- a temp of time
  time_temp : (temp w : ℕ) → temp < time_temps core → time_width layout temp ≡ w → IsLeaf p w (Temp temp)
  time_temp temp w less is = record { fits = let a = formed.lasts.0 in let b = formed.lasts.1 in omega (arith, less, a, b); wide = formed.temps temp less ∙ is; leaf = omega arith }

  bit_temp : (temp : ℕ) → temp < time_temps core → temp ≢ slot_at → IsLeaf p 1 (Temp temp)
  bit_temp temp less ne = time_temp temp 1 less (ap (λ (b : Bool). cond b layout.width 1) (ne_eqb temp slot_at ne))

  slot_temp : IsLeaf p layout.width (Temp slot_at)
  slot_temp = time_temp slot_at layout.width (omega arith) refl

  -- a scratch temp of one bit
  new_bit : (from : ℕ) (rest : List ℕ) → Lies p.temps from (1 ∷ rest) → IsLeaf p 1 (Temp from)
  new_bit from rest lies = let one = lies_one p.temps from 1 rest lies in record { fits = one.0; wide = one.1; leaf = omega arith }

  -- ---- guards

  record IsOn (from : ℕ) (guard : Expr) : Type 0 where
    leaf : IsLeaf p 1 guard
    guards : IsGuard p layout from guard

  on_always : (from : ℕ) → IsOn from always
  on_always from = record { leaf = bit_always; guards = no_guard }

  on_new : (from : ℕ) (rest : List ℕ) → layout.lasting ≤ from → Lies p.temps from (1 ∷ rest) → IsOn (from + 1) (Temp from)
  on_new from rest low lies = record { leaf = new_bit from rest lies; guards = held_guard low (omega arith) (lies_one p.temps from 1 rest lies).1 }

  guard_later : (from to : ℕ) (guard : Expr) → from ≤ to → IsGuard p layout from guard → IsGuard p layout to guard
  guard_later from to _ more no_guard = no_guard
  guard_later from to _ more (held_guard low less one) = held_guard low (omega (arith, less, more)) one

  on_later : (from to : ℕ) (guard : Expr) → from ≤ to → IsOn from guard → IsOn to guard
  on_later from to guard more is = record { leaf = is.leaf; guards = guard_later from to guard more is.guards }

  -- ---- rows

  is_root_row : IsRow core (root_row core ops layout)
  is_root_row = omega arith

  -- ---- steps

  step_formed : (w temp : ℕ) (guard e : Expr) → IsLeaf p 1 guard → IsLeaf p w (Temp temp) → IsShallow w e → IsStep p (given guard (ToTemp temp) e)
  step_formed w temp guard e g t is = record {
    formed = record { guard = g.fits; value = is.fits; aim = (t.fits, t.wide ∙ sym is.wide) };
    shallow = let a = g.leaf in let b = is.low in grind (arith, a, b);
  }

  item_formed : (w place : ℕ) (e : Expr) → (place < length p.items) × (item_width p place ≡ w) → IsShallow w e → IsStep p (given always (ToItem place) e)
  item_formed w place e at is = record {
    formed = record { guard = bit_always.fits; value = is.fits; aim = (at.0, at.1 ∙ sym is.wide) };
    shallow = let b = is.low in grind (arith, b);
  }

  no_widths : All IsWidth []
  no_widths k d h = absurd (omega (arith, h))

  no_steps : All (IsStep p) []
  no_steps k d h = absurd (omega (arith, h))

  all_two : (a b : Move) → IsStep p a → IsStep p b → All (IsStep p) (a ∷ b ∷ [])
  all_two a b x y = All-append (IsStep p) (a ∷ []) (b ∷ []) (all_one (IsStep p) a x) (all_one (IsStep p) b y)

  steps_formed : (moves : List Move) (from : ℕ) → All (IsStep p) moves → IsPiece p (steps moves from)
  steps_formed moves from all = record { widths = no_widths; steps = all }

  one_width : IsWidth 1
  one_width = (omega arith, omega arith)

  holding_formed : (from : ℕ) (e : Expr) → Lies p.temps from (1 ∷ []) → IsShallow 1 e → IsPiece p (holding 1 e from).piece
  holding_formed from e lies is = record {
    widths = all_one IsWidth 1 one_width;
    steps = all_one (IsStep p) _ (step_formed 1 from always e bit_always (new_bit from [] lies) is);
  }

  -- ---- one after the other

  chain_formed : (first second : Builder) (from : ℕ) → Lies p.temps from (chain first second from).widths
      → (Lies p.temps from (first from).widths → IsPiece p (first from))
      → (Lies p.temps (from + length (first from).widths) (second (from + length (first from).widths)).widths → IsPiece p (second (from + length (first from).widths)))
      → IsPiece p (chain first second from)
  chain_formed first second from lies one two =
      behind_formed p (first from) (second (from + length (first from).widths))
      (one (lies_left p.temps from (first from).widths (second (from + length (first from).widths)).widths lies))
      (two (lies_right p.temps from (first from).widths (second (from + length (first from).widths)).widths lies))

  bind_formed : (maker : Maker) (user : Expr → Builder) (from : ℕ) → Lies p.temps from (bind maker user from).widths
      → (Lies p.temps from (maker from).piece.widths → IsPiece p (maker from).piece)
      → (Lies p.temps from (maker from).piece.widths → Lies p.temps (from + length (maker from).piece.widths) (user (maker from).out (from + length (maker from).piece.widths)).widths → IsPiece p (user (maker from).out (from + length (maker from).piece.widths)))
      → IsPiece p (bind maker user from)
  bind_formed maker user from lies one two =
      let base = from + length (maker from).piece.widths in
      let left = lies_left p.temps from (maker from).piece.widths (user (maker from).out base).widths lies in
      behind_formed p (maker from).piece (user (maker from).out base) (one left) (two left (lies_right p.temps from (maker from).piece.widths (user (maker from).out base).widths lies))

  -- what takes no steps where it is idle
  idle_formed : (idle : Bool) (f : Builder) (from : ℕ) → Lies p.temps from (cond idle nothing f from).widths → (Lies p.temps from (f from).widths → IsPiece p (f from)) → IsPiece p (cond idle nothing f from)
  idle_formed true f from lies is = nothing_formed p
  idle_formed false f from lies is = is lies

  -- ---- occurrences and items

  slotted_formed : (guard : Expr) (from : ℕ) → IsLeaf p 1 guard → Lies p.temps from (slotted core ops layout guard from).widths → IsPiece p (slotted core ops layout guard from)
  slotted_formed guard from is lies =
      let test = both guard (ops.decodes (root_row core ops layout)) in
      let user = λ (decoded : Expr). steps (given decoded (ToTemp slot_at) (ops.word (root_row core ops layout)) ∷ given decoded (ToTemp taken_at) always ∷ []) in
      bind_formed (holding 1 test) user from lies
      (λ l. holding_formed from test l (two_bits guard (ops.decodes (root_row core ops layout)) is (formed.row_decodes (root_row core ops layout) is_root_row)))
      (λ l r. steps_formed (given (Temp from) (ToTemp slot_at) (ops.word (root_row core ops layout)) ∷ given (Temp from) (ToTemp taken_at) always ∷ []) (from + 1) (all_two _ _
      (step_formed layout.width slot_at (Temp from) (ops.word (root_row core ops layout)) (new_bit from [] l) slot_temp (of_leaf layout.width (ops.word (root_row core ops layout)) (formed.row_words (root_row core ops layout) is_root_row)))
      (step_formed 1 taken_at (Temp from) always (new_bit from [] l) (bit_temp taken_at (omega arith) (λ e. omega (arith, e))) (of_leaf 1 always bit_always))))

  rooted_formed : (b : Bool) (guard : Expr) (from : ℕ) → layout.lasting ≤ from → IsLeaf p 1 guard → Lies p.temps from (rooted core ops layout b guard from).widths → IsPiece p (rooted core ops layout b guard from)
  rooted_formed false guard from low is lies = nothing_formed p
  rooted_formed true guard from low is lies =
      let base = from + length (ops.fetch from).piece.widths in
      bind_formed ops.fetch (λ word. chain (ops.load (root_row core ops layout) word) (slotted core ops layout guard)) from lies (λ l. (formed.fetches from low l).0)
      (λ l r. chain_formed (ops.load (root_row core ops layout) (ops.fetch from).out) (slotted core ops layout guard) base r
      (λ l'. formed.loads (root_row core ops layout) (ops.fetch from).out base is_root_row (omega (arith, low)) (formed.fetches from low l).1 l')
      (λ r'. slotted_formed guard (base + length (ops.load (root_row core ops layout) (ops.fetch from).out base).widths) is r'))

  recorded_formed : (number : ℕ) (guard : Expr) (from : ℕ) → number < suc (size core.acts) → IsLeaf p 1 guard → IsPiece p (recorded core ops layout number guard from)
  recorded_formed number guard from less is =
      steps_formed _ from (all_one (IsStep p) _ (step_formed 1 (recorded_at core.stages number) guard always is (bit_temp (recorded_at core.stages number) (omega (arith, less)) (λ e. omega (arith, e))) (of_leaf 1 always bit_always)))

  occurrence_formed : (number : ℕ) (past : Bool) (row : Option ℕ) (guard : Expr) (items : Builder) (from : ℕ) → layout.lasting ≤ from → IsOn from guard → IsRowFor core ops layout p number (own_row core ops layout number past row)
      → Lies p.temps from (occurrence core ops layout number past row guard items from).widths
      → ((from' : ℕ) → from ≤ from' → Lies p.temps from' (items from').widths → IsPiece p (items from'))
      → IsPiece p (occurrence core ops layout number past row guard items from)
  occurrence_formed number past row guard items from low is row_is lies inner =
      let root_part = rooted core ops layout (core.is_root number) guard in
      let behave_part = ops.behavior number (own_row core ops layout number past row) guard in
      let base = from + length (root_part from).widths in
      chain_formed root_part (chain behave_part items) from lies
      (λ l. rooted_formed (core.is_root number) guard from low is.leaf l)
      (λ r. chain_formed behave_part items base r
      (λ l. formed.behaviors number (own_row core ops layout number past row) guard base (omega (arith, low)) (on_later from base guard (omega arith) is).guards row_is l)
      (λ r'. inner (base + length (behave_part base).widths) (omega arith) r'))

  abbrev AreRows : Option ℕ → Type 0
  AreRows row = (r : ℕ) → row ≡ Some r → IsRow core r

  chosen_formed : (number : ℕ) (past : Bool) (row : Option ℕ) (guard : Expr) (from : ℕ) → number < suc (size core.acts) → is_past core number ≡ past → AreRows row → layout.lasting ≤ from → IsOn from guard
      → Lies p.temps from (chosen core ops layout number past row guard from).piece.widths
      → IsPiece p (chosen core ops layout number past row guard from).piece
      × IsOn (from + length (chosen core ops layout number past row guard from).piece.widths) (chosen core ops layout number past row guard from).out
  chosen_formed number false row guard from less past_is rows low is lies = (nothing_formed p, on_later from (from + 0) guard (omega arith) is)
  chosen_formed number true None guard from less past_is rows low is lies = (nothing_formed p, on_later from (from + 0) guard (omega arith) is)
  chosen_formed number true (Some row) guard from less past_is rows low is lies =
      (holding_formed from (both guard (ops.chooses row number)) lies (two_bits guard (ops.chooses row number) is.leaf (formed.row_chooses row number (rows row refl) less past_is)), on_new from [] low lies)

  record RowFor (inside : Bool) (row : Option ℕ) : Type 0 where
    some : inside ≡ true → is_some row ≡ true
    rows : AreRows row

  no_rows : AreRows None
  no_rows r e = absurd (none_is e)
    where
      none_is : None ≡ Some r → ⊥
      none_is at = cc

  no_row_for : RowFor false None
  no_row_for = record { some = λ e. absurd (both_ways false refl e); rows = no_rows }

  same_some : (a b : ℕ) → Some a ≡ Some b → a ≡ b
  same_some a b e = cc

  one_row : (row : ℕ) → IsRow core row → AreRows (Some row)
  one_row row is r e = subst (IsRow core) (same_some row r e) is

  row_for : (inside : Bool) (row : ℕ) → IsRow core row → RowFor inside (Some row)
  row_for inside row is = record { some = λ e. refl; rows = one_row row is }

  own_row_for : (number : ℕ) (past inside : Bool) (row : Option ℕ) → (past ≡ true → inside ≡ true) → RowFor inside row → RowFor (past || core.is_root number) (own_row core ops layout number past row)
  own_row_for number past inside row so row_is = of (core.is_root number) past so
    where
      of : (b past : Bool) → (past ≡ true → inside ≡ true) → RowFor (past || b) (cond b (Some (root_row core ops layout)) (cond past row None))
      of true past so = row_for (past || true) (root_row core ops layout) is_root_row
      of false true so = record { some = λ e. row_is.some (so refl); rows = row_is.rows }
      of false false so = no_row_for

  own_row_is : (number : ℕ) (past inside : Bool) (row : Option ℕ) → number < suc (size core.acts) → is_past core number ≡ past → (past ≡ true → inside ≡ true) → RowFor inside row → IsRowFor core ops layout p number (own_row core ops layout number past row)
  own_row_is number past inside row less past_is so row_is =
      let own = own_row_for number past inside row so row_is in
      record {
        there = less;
        own = λ e. own.some (ap (λ (b : Bool). b || core.is_root number) (sym past_is) ∙ e);
        is_row = own.rows;
      }

  -- an `if` reads by the row of its own occurrence
  abbrev Owner : ℕ → Option ℕ → Type 0
  Owner owner row = IsRowFor core ops layout p owner row

  abbrev Below : ℕ → Acts → Type 0
  Below index acts = index + size acts ≤ suc (size core.acts)

  active_formed : (here : ℕ) (row : Option ℕ) (acts : Acts) (above index owner : ℕ) (inside : Bool) (guard : Expr) (from : ℕ) → IsGoodTree core root above inside index acts → IsOwned owner acts → Below index acts → RowFor inside row → Owner owner row
      → layout.lasting ≤ from → IsOn from guard → Lies p.temps from (active core ops layout here row guard acts from).widths → IsPiece p (active core ops layout here row guard acts from)
  active_formed here row Done above index owner inside guard from tree owned below row_for own_is low is lies = nothing_formed p
  active_formed here row (Act number level past own rest) above index owner inside guard from tree owned below row_for own_is low is lies =
      let less : number < suc (size core.acts) = omega (arith, tree.0, below) in
      let good = tree.1 in
      let choose = chosen core ops layout number past row guard in
      let user = λ (g : Expr). cond (nat_eq level here) (occurrence core ops layout number past row g (active core ops layout here (own_row core ops layout number past row) g own)) (recorded core ops layout number g) in
      let first = cond (nat_eq level here && is_idle core ops layout number own) nothing (bind choose user) in
      let base = from + length (choose from).piece.widths in
      chain_formed first (active core ops layout here row guard rest) from lies
      (λ l. idle_formed (nat_eq level here && is_idle core ops layout number own) (bind choose user) from l
      (λ l. bind_formed choose user from l
      (λ l'. (chosen_formed number past row guard from less good.past_is row_for.rows low is l').0)
      (λ l' r. by (nat_eq level here) (choose from).out base (omega (arith, low)) (chosen_formed number past row guard from less good.past_is row_for.rows low is l').1 r
      (λ g from' more g_is lies'. active_formed here (own_row core ops layout number past row) own level (suc number) number (past || core.is_root number) g from' (subst (λ (n : ℕ). IsGoodTree core root level (past || core.is_root number) (suc n) own) (sym tree.0) tree.4) owned.0 (omega (arith, tree.0, below)) (own_row_for number past inside row tree.2 row_for) (own_row_is number past inside row less good.past_is tree.2 row_for) more g_is lies'))))
      (λ r. active_formed here row rest above (suc (index + size own)) owner inside guard (from + length (first from).widths) tree.5 owned.1 (omega (arith, below)) row_for own_is (omega (arith, low)) (on_later from (from + length (first from).widths) guard (omega arith) is) r)
    where
      by : (b : Bool) (g : Expr) (base : ℕ) → layout.lasting ≤ base → IsOn base g → Lies p.temps base (cond b (occurrence core ops layout number past row g (active core ops layout here (own_row core ops layout number past row) g own)) (recorded core ops layout number g) base).widths
          → ((g : Expr) (from' : ℕ) → layout.lasting ≤ from' → IsOn from' g → Lies p.temps from' (active core ops layout here (own_row core ops layout number past row) g own from').widths → IsPiece p (active core ops layout here (own_row core ops layout number past row) g own from'))
          → IsPiece p (cond b (occurrence core ops layout number past row g (active core ops layout here (own_row core ops layout number past row) g own)) (recorded core ops layout number g) base)
      by true g base low' g_is lies' inner = occurrence_formed number past row g (active core ops layout here (own_row core ops layout number past row) g own) base low' g_is (own_row_is number past inside row (omega (arith, tree.0, below)) tree.1.past_is tree.2 row_for) lies'
          (λ from' more l. inner g from' (omega (arith, low', more)) (on_later base from' g more g_is) l)
      by false g base low' g_is lies' inner = recorded_formed number g base (omega (arith, tree.0, below)) g_is.leaf
  active_formed here row (When number test taken other rest) above index owner inside guard from tree owned below row_for own_is low is lies =
      let row_number = subst (λ (n : ℕ). IsRowFor core ops layout p n row) (sym owned.0) own_is in
      let maker = ops.condition number test row in
      let user2 = λ (holds taking : Expr). bind (holding 1 (both guard (none holds))) (λ leaving. chain (active core ops layout here row taking taken) (active core ops layout here row leaving other)) in
      let user1 = λ (holds : Expr). bind (holding 1 (both guard holds)) (user2 holds) in
      let first = bind maker user1 in
      let holds = (maker from).out in
      let base1 = from + length (maker from).piece.widths in
      let base2 = base1 + 1 in
      let base3 = base2 + 1 in
      let one = active core ops layout here row (Temp base1) taken in
      let two = active core ops layout here row (Temp base2) other in
      chain_formed first (active core ops layout here row guard rest) from lies
      (λ l. bind_formed maker user1 from l
      (λ l1. (formed.conditions number test row from low row_number l1).0)
      (λ l1 r1.
      let c = (formed.conditions number test row from low row_number l1).1 in
      bind_formed (holding 1 (both guard holds)) (user2 holds) base1 r1
      (λ l2. holding_formed base1 (both guard holds) l2 (two_bits guard holds is.leaf c))
      (λ l2 r2. bind_formed (holding 1 (both guard (none holds))) (λ leaving. chain one (active core ops layout here row leaving other)) base2 r2
      (λ l3. holding_formed base2 (both guard (none holds)) l3 (and_none guard holds is.leaf c))
      (λ l3 r3. chain_formed one two base3 r3
      (λ l4. active_formed here row taken above index owner inside (Temp base1) base3 tree.0 owned.1 (omega (arith, below)) row_for own_is (omega (arith, low)) (on_later (base1 + 1) base3 (Temp base1) (omega arith) (on_new base1 [] (omega (arith, low)) l2)) l4)
      (λ r4. active_formed here row other above (index + size taken) owner inside (Temp base2) (base3 + length (one base3).widths) tree.1 owned.2 (omega (arith, below)) row_for own_is (omega (arith, low)) (on_later (base2 + 1) (base3 + length (one base3).widths) (Temp base2) (omega arith) (on_new base2 [] (omega (arith, low)) l3)) r4)))))
      (λ r. active_formed here row rest above (index + (size taken + size other)) owner inside guard (from + length (first from).widths) tree.2 owned.3 (omega (arith, below)) row_for own_is (omega (arith, low)) (on_later from (from + length (first from).widths) guard (omega arith) is) r)
    where
      and_none : (x y : Expr) → IsLeaf p 1 x → IsLeaf p 1 y → IsShallow 1 (both x (none y))
      and_none x y a b = record {
        fits = (a.fits, (b.fits, ((omega arith, omega arith), omega arith), b.wide), a.wide);
        wide = a.wide;
        low = let d = a.leaf in let d' = b.leaf in grind (arith, d, d');
      }

  -- ---- turns

  -- what a due occurrence waits by
  waits_formed : (level above number : ℕ) (e : Expr) → number < suc (size core.acts) → waits core ops layout level above number ≡ Some e → IsLeaf p 1 e
  waits_formed level zero number e less is = of (nat_eq level 1) is
    where
      of : (b : Bool) → cond b (Some (Temp (recorded_at core.stages number))) None ≡ Some e → IsLeaf p 1 e
      of true is = let same : Temp (recorded_at core.stages number) ≡ e = cc in subst (IsLeaf p 1) same (bit_temp (recorded_at core.stages number) (omega (arith, less)) (λ at. omega (arith, at)))
      of false is = absurd (none_is is)
        where
          none_is : None ≡ Some e → ⊥
          none_is at = cc
  waits_formed level (suc above) number e less is = of (layout.bit level number) refl is
    where
      of : (o : Option ℕ) → layout.bit level number ≡ o → option_map (λ place. Before place) o ≡ Some e → IsLeaf p 1 e
      of None at is = absurd (none_is is)
        where
          none_is : None ≡ Some e → ⊥
          none_is at = cc
      of (Some place) at is = let same : Before place ≡ e = cc in let b = formed.bits level number place at in subst (IsLeaf p 1) same (record { fits = b.0; wide = b.1; leaf = omega arith })

  open_bit : (level : ℕ) → level ≤ core.stages → IsLeaf p 1 (Temp (open_at level))
  open_bit level within = bit_temp (open_at level) (omega (arith, within)) (λ e. omega (arith, e))

  held_bit : (level : ℕ) → level ≤ core.stages → IsLeaf p 1 (Temp (held_at level))
  held_bit level within = bit_temp (held_at level) (omega (arith, within)) (λ e. omega (arith, e))

  due_formed : (level number above : ℕ) (past inside : Bool) (own : Acts) (o : Option Expr) (from : ℕ) → level ≤ core.stages → IsGoodTree core root above (past || core.is_root number) (suc number) own → IsOwned number own → number + suc (size own) ≤ suc (size core.acts)
      → is_past core number ≡ past → ((e : Expr) → o ≡ Some e → IsLeaf p 1 e)
      → layout.lasting ≤ from → Lies p.temps from (due core ops layout level number past own o from).widths → IsPiece p (due core ops layout level number past own o from)
  due_formed level number above past inside own None from within tree owned below past_is leaf low lies = nothing_formed p
  due_formed level number above past inside own (Some e) from within tree owned below past_is leaf low lies =
      let row = Some (row_of core ops layout level) in
      let given = row_for true (row_of core ops layout level) (omega (arith, within)) in
      let less : number < suc (size core.acts) = omega (arith, below) in
      let test = both (Temp (open_at level)) e in
      let items = active core ops layout level (own_row core ops layout number past row) (Temp from) own in
      bind_formed (holding 1 test) (λ g. occurrence core ops layout number past row g (active core ops layout level (own_row core ops layout number past row) g own)) from lies
      (λ l. holding_formed from test l (two_bits (Temp (open_at level)) e (open_bit level within) (leaf e refl)))
      (λ l r. occurrence_formed number past row (Temp from) items (from + 1) (omega (arith, low)) (on_new from [] low l) (own_row_is number past true row less past_is (λ x. refl) given) r
      (λ from' more l'. active_formed level (own_row core ops layout number past row) own above (suc number) number (past || core.is_root number) (Temp from) from' tree owned (omega (arith, below)) (own_row_for number past true row (λ x. refl) given) (own_row_is number past true row less past_is (λ x. refl) given) (omega (arith, low, more)) (on_later (from + 1) from' (Temp from) more (on_new from [] low l)) l'))

  turn_formed : (level : ℕ) (acts : Acts) (above index owner : ℕ) (inside : Bool) (from : ℕ) → level ≤ core.stages → IsGoodTree core root above inside index acts → IsOwned owner acts → Below index acts
      → layout.lasting ≤ from → Lies p.temps from (turn_of core ops layout level above acts from).widths → IsPiece p (turn_of core ops layout level above acts from)
  turn_formed level Done above index owner inside from within tree owned below low lies = nothing_formed p
  turn_formed level (Act number own_level past own rest) above index owner inside from within tree owned below low lies =
      let first = cond (nat_eq own_level level) (due core ops layout level number past own (waits core ops layout level above number)) (turn_of core ops layout level own_level own) in
      let own_tree = subst (λ (n : ℕ). IsGoodTree core root own_level (past || core.is_root number) (suc n) own) (sym tree.0) tree.4 in
      chain_formed first (turn_of core ops layout level above rest) from lies
      (λ l. by (nat_eq own_level level) l
      (λ l'. due_formed level number own_level past inside own (waits core ops layout level above number) from within own_tree owned.0 (omega (arith, tree.0, below)) tree.1.past_is (λ e is. waits_formed level above number e (omega (arith, tree.0, below)) is) low l')
      (λ l'. turn_formed level own own_level (suc number) number (past || core.is_root number) from within own_tree owned.0 (omega (arith, tree.0, below)) low l'))
      (λ r. turn_formed level rest above (suc (index + size own)) owner inside (from + length (first from).widths) within tree.5 owned.1 (omega (arith, below)) (omega (arith, low)) r)
    where
      by : (b : Bool) → Lies p.temps from (cond b (due core ops layout level number past own (waits core ops layout level above number)) (turn_of core ops layout level own_level own) from).widths
          → (Lies p.temps from (due core ops layout level number past own (waits core ops layout level above number) from).widths → IsPiece p (due core ops layout level number past own (waits core ops layout level above number) from))
          → (Lies p.temps from (turn_of core ops layout level own_level own from).widths → IsPiece p (turn_of core ops layout level own_level own from))
          → IsPiece p (cond b (due core ops layout level number past own (waits core ops layout level above number)) (turn_of core ops layout level own_level own) from)
      by true l one two = one l
      by false l one two = two l
  turn_formed level (When number test taken other rest) above index owner inside from within tree owned below low lies =
      let one = turn_of core ops layout level above taken in
      let two = turn_of core ops layout level above other in
      let three = turn_of core ops layout level above rest in
      let base = from + length (one from).widths in
      chain_formed one (chain two three) from lies
      (λ l. turn_formed level taken above index owner inside from within tree.0 owned.1 (omega (arith, below)) low l)
      (λ r. chain_formed two three base r
      (λ l. turn_formed level other above (index + size taken) owner inside base within tree.1 owned.2 (omega (arith, below)) (omega (arith, low)) l)
      (λ r'. turn_formed level rest above (index + (size taken + size other)) owner inside (base + length (two base).widths) within tree.2 owned.3 (omega (arith, below)) (omega (arith, low)) r'))

  none_shallow : (x : Expr) → IsLeaf p 1 x → IsShallow 1 (none x)
  none_shallow x a = record { fits = (a.fits, ((omega arith, omega arith), omega arith), a.wide); wide = refl; low = let d = a.leaf in grind (arith, d) }

  both_shallow : (x y : Expr) → IsFit p x → IsFit p y → width p x ≡ 1 → width p y ≡ 1 → expr_depth x ≤ 4 → expr_depth y ≤ 4 → IsShallow 1 (both x y)
  both_shallow x y a b wide wide' low low' = record { fits = (a, b, wide ∙ sym wide'); wide = wide; low = grind (arith, low, low') }

  held_after_leaf : (level : ℕ) → level ≤ core.stages → IsLeaf p 1 (held_after core ops layout level)
  held_after_leaf level within = of (nat_eq level core.stages) refl
    where
      of : (b : Bool) → nat_eq level core.stages ≡ b → IsLeaf p 1 (cond b (Const 1 0) (Temp (held_at (suc level))))
      of true e = record { fits = ((omega arith, omega arith), omega arith); wide = refl; leaf = omega arith }
      of false e = let ne = eqb-false level core.stages e in held_bit (suc level) (omega (arith, within, ne))

  stage_word_leaf : (level : ℕ) → IsLeaf p layout.width (stage_word core ops layout level)
  stage_word_leaf level = of (nat_eq level (slot_level core)) (layout.word level) refl
    where
      of : (b : Bool) (o : Option ℕ) → layout.word level ≡ o → IsLeaf p layout.width (cond b (Temp slot_at) (place_word core ops layout o))
      of true o at = slot_temp
      of false None at = record { fits = (formed.word_width, positive layout.width); wide = refl; leaf = omega arith }
        where
          positive : (w : ℕ) → 0 < 2 ^ w
          positive w = pow_pos w
      of false (Some place) at = let w = formed.words level place at in record { fits = w.0; wide = w.1; leaf = omega arith }

  controls_formed : (level from : ℕ) → 0 < level → level ≤ core.stages → IsPiece p (controls core ops layout level from)
  controls_formed level from some within =
      let a = formed.stalled level some within in
      let b = held_after_leaf level within in
      let h = held_bit level within in
      let f = formed.flushed level some within in
      let nh = none_shallow (Temp (held_at level)) h in
      let nf = none_shallow (ops.flushed level) f in
      steps_formed (given always (ToTemp (held_at level)) (either (ops.stalled level) (held_after core ops layout level)) ∷ given always (ToTemp (open_at level)) (both (none (Temp (held_at level))) (none (ops.flushed level))) ∷ []) from
      (all_two _ _
      (step_formed 1 (held_at level) always (either (ops.stalled level) (held_after core ops layout level)) bit_always h (record { fits = (a.fits, b.fits, a.wide ∙ sym b.wide); wide = a.wide; low = let d = a.leaf in let d' = b.leaf in grind (arith, d, d') }))
      (step_formed 1 (open_at level) always (both (none (Temp (held_at level))) (none (ops.flushed level))) bit_always (open_bit level within)
      (both_shallow (none (Temp (held_at level))) (none (ops.flushed level)) nh.fits nf.fits refl refl (let d = h.leaf in grind (arith, d)) (let d = f.leaf in grind (arith, d)))))

  one_turn : (level from : ℕ) → 0 < level → level ≤ core.stages → layout.lasting ≤ from → IsOwned 0 core.acts → Lies p.temps from (turn core ops layout level from).widths → IsPiece p (turn core ops layout level from)
  one_turn level from some within low owned lies =
      let load = ops.load (row_of core ops layout level) (stage_word core ops layout level) in
      let body = turn_of core ops layout level 0 (Act 0 0 false core.acts Done) in
      chain_formed (controls core ops layout level) (chain load body) from lies
      (λ l. controls_formed level from some within)
      (λ r. chain_formed load body (from + 0) r
      (λ l. formed.loads (row_of core ops layout level) (stage_word core ops layout level) (from + 0) (omega (arith, within)) (omega (arith, low)) (stage_word_leaf level) l)
      (λ r'. turn_formed level (Act 0 0 false core.acts Done) 0 0 0 false (from + 0 + length (load (from + 0)).widths) within (tree_of core sound) (owned, tt) (omega arith) (omega (arith, low)) r'))

  all_turns : (level from : ℕ) → level ≤ core.stages → layout.lasting ≤ from → IsOwned 0 core.acts → Lies p.temps from (turns core ops layout level from).widths → IsPiece p (turns core ops layout level from)
  all_turns zero from within low owned lies = nothing_formed p
  all_turns (suc level) from within low owned lies =
      chain_formed (turn core ops layout (suc level)) (turns core ops layout level) from lies
      (λ l. one_turn (suc level) from (omega arith) within low owned l)
      (λ r. all_turns level (from + length (turn core ops layout (suc level) from).widths) (omega arith) (omega (arith, low)) owned r)

  main_formed : (from : ℕ) → layout.lasting ≤ from → IsOwned 0 core.acts → Lies p.temps from (main_run core ops layout from).widths → IsPiece p (main_run core ops layout from)
  main_formed from low owned lies =
      let tree = tree_of core sound in
      let row = own_row_is 0 false false None (omega arith) tree.1.past_is (λ e. e) no_row_for in
      occurrence_formed 0 false None always (active core ops layout 0 (own_row core ops layout 0 false None) always core.acts) from low (on_always from) row lies
      (λ from' more l. active_formed 0 (own_row core ops layout 0 false None) core.acts 0 1 0 (false || core.is_root 0) always from' tree.4 owned (omega arith) (own_row_for 0 false false None (λ e. e) no_row_for) row (omega (arith, low, more)) (on_always from') l)

  -- ---- ends

  zero_bit : IsLeaf p 1 (Const 1 0)
  zero_bit = record { fits = ((omega arith, omega arith), omega arith); wide = refl; leaf = omega arith }

  came_leaf : (level number : ℕ) → number < suc (size core.acts) → IsLeaf p 1 (came core ops layout level number)
  came_leaf level number less = of (nat_eq level (above_of core number)) (layout.bit level number) refl
    where
      of : (b : Bool) (o : Option ℕ) → layout.bit level number ≡ o → IsLeaf p 1 (cond b (Temp (recorded_at core.stages number)) (stood core ops layout o))
      of true o at = bit_temp (recorded_at core.stages number) (omega (arith, less)) (λ e. omega (arith, e))
      of false None at = zero_bit
      of false (Some place) at = let b = formed.bits level number place at in record { fits = b.0; wide = b.1; leaf = omega arith }

  next_bit_shallow : (level number place : ℕ) → suc level ≤ core.stages → number < suc (size core.acts) → layout.bit (suc level) number ≡ Some place → IsShallow 1 (next_bit core ops layout level number place)
  next_bit_shallow level number place within less at =
      let b = formed.bits (suc level) number place at in
      let h = held_bit (suc level) within in
      let f = formed.flushed (suc level) (omega arith) within in
      let o = open_bit level (omega (arith, within)) in
      let c = came_leaf level number less in
      record {
        fits = ((b.0, (h.fits, (f.fits, ((omega arith, omega arith), omega arith), f.wide), h.wide), b.1 ∙ sym h.wide), (o.fits, c.fits, o.wide ∙ sym c.wide), b.1 ∙ sym o.wide);
        wide = b.1;
        low = let d = h.leaf in let d' = f.leaf in let d'' = o.leaf in let d3 = c.leaf in grind (arith, d, d', d'', d3);
      }

  next_word_shallow : (level place : ℕ) → suc level ≤ core.stages → layout.word (suc level) ≡ Some place → IsShallow layout.width (next_word core ops layout level place)
  next_word_shallow level place within at =
      let w = formed.words (suc level) place at in
      let h = held_bit (suc level) within in
      let f = formed.flushed (suc level) (omega arith) within in
      let o = open_bit level (omega (arith, within)) in
      let s = stage_word_leaf level in
      record {
        fits = (h.fits, (f.fits, (formed.word_width, pow_pos layout.width), w.0, sym w.1), (o.fits, s.fits, (formed.word_width, pow_pos layout.width), s.wide), sym s.wide);
        wide = refl;
        low = let d = h.leaf in let d' = f.leaf in let d'' = o.leaf in let d3 = s.leaf in grind (arith, d, d', d'', d3);
      }

  set_formed : (w : ℕ) (o : Option ℕ) (next : ℕ → Expr) → ((place : ℕ) → o ≡ Some place → (place < length p.items) × (item_width p place ≡ w) × IsShallow w (next place)) → All (IsStep p) (set_place core ops layout o next)
  set_formed w None next each = no_steps
  set_formed w (Some place) next each = let e = each place refl in all_one (IsStep p) _ (item_formed w place (next place) (e.0, e.1) e.2)

  bits_formed : (level number : ℕ) → suc level ≤ core.stages → number ≤ suc (size core.acts) → All (IsStep p) (bit_ends core ops layout level number)
  bits_formed level zero within low = no_steps
  bits_formed level (suc number) within low =
      All-append (IsStep p) (bit_ends core ops layout level number) (set_place core ops layout (layout.bit (suc level) number) (next_bit core ops layout level number)) (bits_formed level number within (omega (arith, low)))
      (set_formed 1 (layout.bit (suc level) number) (next_bit core ops layout level number) (λ place at. let b = formed.bits (suc level) number place at in (b.0, b.1, next_bit_shallow level number place within (omega (arith, low)) at)))

  ends_formed : (level : ℕ) → level ≤ core.stages → All (IsStep p) (ends core ops layout level)
  ends_formed zero within = no_steps
  ends_formed (suc level) within =
      All-append (IsStep p) (ends core ops layout level) (bit_ends core ops layout level (suc (size core.acts)) ++ set_place core ops layout (layout.word (suc level)) (next_word core ops layout level)) (ends_formed level (omega (arith, within)))
      (All-append (IsStep p) (bit_ends core ops layout level (suc (size core.acts))) (set_place core ops layout (layout.word (suc level)) (next_word core ops layout level)) (bits_formed level (suc (size core.acts)) within (omega arith))
      (set_formed layout.width (layout.word (suc level)) (next_word core ops layout level) (λ place at. let w = formed.words (suc level) place at in (w.0, w.1, next_word_shallow level place within at))))

  pub edge_formed : IsOwned 0 core.acts → Lies p.temps layout.lasting (edge core ops layout layout.lasting).widths → IsPiece p (edge core ops layout layout.lasting)
  edge_formed owned lies =
      let main = main_run core ops layout in
      let rest = turns core ops layout core.stages in
      let end = steps (ends core ops layout core.stages) in
      let closing = ops.close (λ level. Temp (held_at level)) (λ level. Temp (open_at level)) in
      let base1 = layout.lasting + length (main layout.lasting).widths in
      let base2 = base1 + length (rest base1).widths in
      chain_formed main (chain rest (chain end closing)) layout.lasting lies
      (λ l. main_formed layout.lasting (omega arith) owned l)
      (λ r. chain_formed rest (chain end closing) base1 r
      (λ l. all_turns core.stages base1 (omega arith) (omega arith) owned l)
      (λ r'. chain_formed end closing base2 r'
      (λ l. steps_formed (ends core ops layout core.stages) base2 (ends_formed core.stages (omega arith)))
      (λ r''. formed.closes (base2 + 0) (omega arith) r'')))
