-- What the steps of an edge's activations cost: what activations are worth, over all levels together.
use Rattle.std.proofs.Common.{◌≡◌, ℕ, zero, suc, ◌+◌, ◌*◌, ◌≤◌, ◌<◌, Bool, true, false, ◌||◌, ◌&&◌, [], ◌∷◌, Option, None, Some, length, refl, sym, ap, ◌∙◌, subst, arith, nat_eq, cond}
use Rattle.std.specs.Option.{option_map}
use Rattle.std.proofs.lemmas.Bool.{both_ways, eqb-true, eqb-false, ne_eqb}
use Rattle.std.proofs.lemmas.Option.{same_Some}
use Rattle.step_program.specs.declared.expressions.TwoOp.TheVariants as opers
use Rattle.step_program.specs.Programs.{Program, Expr, Const, Before, Temp, ToTemp}
use Rattle.pipeline_time.specs.Acts.{Acts, Done, Act, When}
use Rattle.pipeline_time.specs.Cores.{Core, slot_level}
use Rattle.step_pieces.specs.Pieces.{Piece, Builder, behind, always}
use Rattle.lowered_time.specs.Pieces.{Made, Maker, nothing, steps, chain, bind, given, holding, both, none}
use Rattle.lowered_time.specs.Building.{Operations, Layout, slot_at, taken_at, held_at, open_at, recorded_at, place_word, root_row, row_of, own_row, stage_word, held_after, controls, turn, turns, main_run, chosen, slotted, rooted, recorded, occurrence, active, waits, due, turn_of, is_idle}
use Rattle.module_sizes.specs.Costs.{Rates, IsLongest, AreFormed, expr_cost, IsFree, move_cost}
use Rattle.module_sizes.specs.Activating as spec
use Rattle.module_sizes.specs.Activating.{Activating, items_worth, acts_worth, IsQuiet, Prices, ArePriced, root_worth, each_worth, guard_worth, activating, edge_worth}
use Rattle.module_sizes.specs.Charges.{operand_most}
use Rattle.module_sizes.proofs.Operands.{temp_low, operand_low, two_cost, temp_cost}
use Rattle.module_sizes.proofs.Adding.{total, formed_left, formed_right, behind_cost}

module _ (p : Program) (most : ℕ) (longest : IsLongest most) (rates : Rates) where
  abbrev Free : Expr → Type 0
  Free e = IsFree p most rates e

  abbrev cost : Piece → ℕ
  cost a = total p most rates a

  -- where the steps are formed, they cost so much
  abbrev Few : ℕ → Builder → Type 0
  Few n f = (from : ℕ) → AreFormed p (f from).moves → cost (f from) ≤ n

  -- and so much less
  abbrev Spares : (n s : ℕ) → Builder → Type 0
  Spares n s f = (from : ℕ) → AreFormed p (f from).moves → cost (f from) + s ≤ n

  abbrev Makes : ℕ → Made → Type 0
  Makes n m = spec.Makes p most rates n m

  -- a wire or a number
  abbrev pub IsShort : Expr → Type 0
  IsShort e = operand_most p most e ≤ 27

  abbrev Tells : ℕ → Made → Type 0
  Tells n m = spec.Tells p most rates n m

  pub temp_short : (temp : ℕ) → IsShort (Temp temp)
  temp_short temp = let h = temp_low p most temp in omega (arith, h)

  -- two pieces, of which each is formed
  both_cost : (a b : Piece) (m n : ℕ) → AreFormed p (behind a b).moves → (AreFormed p a.moves → cost a ≤ m) → (AreFormed p b.moves → cost b ≤ n) → cost (behind a b) ≤ m + n
  both_cost a b m n formed h k = behind_cost p most rates a b m n (h (formed_left p a.moves b.moves formed)) (k (formed_right p a.moves b.moves formed))

  pub chain_few : (f g : Builder) (m n : ℕ) → Few m f → Few n g → Few (m + n) (chain f g)
  chain_few f g m n h k from formed =
      both_cost (f from) (g (from + length (f from).widths)) m n formed (λ first. h from first) (λ rest. k (from + length (f from).widths) rest)

  bind_few : (maker : Maker) (user : Expr → Builder) (m n : ℕ) → ((from : ℕ) → Makes m (maker from)) → ((e : Expr) → Free e → Few n (user e)) → Few (m + n) (bind maker user)
  bind_few maker user m n h k from formed =
      let made = h from in
      let base = from + length (maker from).piece.widths in
      both_cost (maker from).piece (user (maker from).out base) m n formed (λ first. made.low) (λ rest. k (maker from).out made.out base rest)

  bind_told : (maker : Maker) (user : Expr → Builder) (m n : ℕ) → ((from : ℕ) → Tells m (maker from)) → ((e : Expr) → Free e → IsShort e → Few n (user e)) → Few (m + n) (bind maker user)
  bind_told maker user m n h k from formed =
      let told = h from in
      let base = from + length (maker from).piece.widths in
      both_cost (maker from).piece (user (maker from).out base) m n formed (λ first. told.makes.low) (λ rest. k (maker from).out told.makes.out told.short base rest)

  -- what is told is paid by what it is told for
  paid_few : (maker : Maker) (user : Expr → Builder) (m n : ℕ) → ((from : ℕ) → Tells m (maker from)) → ((e : Expr) → Free e → IsShort e → Spares n m (user e)) → Few n (bind maker user)
  paid_few maker user m n h k from formed =
      let told = h from in
      let made = (maker from).piece in
      let base = from + length made.widths in
      let rest = user (maker from).out base in
      let low = told.makes.low in
      let spared = k (maker from).out told.makes.out told.short base (formed_right p made.moves rest.moves formed) in
      let all = behind_cost p most rates made rest (cost made) (cost rest) (omega arith) (omega arith) in
      omega (arith, low, spared, all)

  first_spares : (f g : Builder) (m n s : ℕ) → Spares m s f → Few n g → Spares (m + n) s (chain f g)
  first_spares f g m n s h k from formed =
      let rest = g (from + length (f from).widths) in
      let one = h from (formed_left p (f from).moves rest.moves formed) in
      let more = k (from + length (f from).widths) (formed_right p (f from).moves rest.moves formed) in
      let all = behind_cost p most rates (f from) rest (cost (f from)) (cost rest) (omega arith) (omega arith) in
      omega (arith, one, more, all)

  rest_spares : (f g : Builder) (m n s : ℕ) → Few m f → Spares n s g → Spares (m + n) s (chain f g)
  rest_spares f g m n s h k from formed =
      let rest = g (from + length (f from).widths) in
      let one = h from (formed_left p (f from).moves rest.moves formed) in
      let more = k (from + length (f from).widths) (formed_right p (f from).moves rest.moves formed) in
      let all = behind_cost p most rates (f from) rest (cost (f from)) (cost rest) (omega arith) (omega arith) in
      omega (arith, one, more, all)

  -- a temp for two bits together
  both_made : (x y : Expr) → Free x → Free y → (from : ℕ) → Tells 442 (holding 1 (both x y) from)
  both_made x y h k from =
      let c = two_cost p most longest rates opers.And x y 0 0 (omega (arith, h)) (omega (arith, k)) in
      record { makes = record { out = refl; low = omega (arith, c) }; short = temp_short from }

  -- with one that is short
  short_made : (x y : Expr) → Free x → Free y → IsShort y → (from : ℕ) → Tells 273 (holding 1 (both x y) from)
  short_made x y h k s from =
      let o = operand_low p most longest x in
      record { makes = record { out = refl; low = omega (arith, h, k, s, o) }; short = temp_short from }

  -- for one without the other
  without_made : (x y : Expr) → Free x → Free y → IsShort y → (from : ℕ) → Tells 375 (holding 1 (both x (none y)) from)
  without_made x y h k s from =
      let o = operand_low p most longest x in
      record { makes = record { out = refl; low = omega (arith, h, k, s, o) }; short = temp_short from }

  -- and for two that are short
  shorts_made : (x y : Expr) → Free x → Free y → IsShort x → IsShort y → (from : ℕ) → Tells 91 (holding 1 (both x y) from)
  shorts_made x y h k s t from = record { makes = record { out = refl; low = omega (arith, h, k, s, t) }; short = temp_short from }

  pub told_few : (guard : Expr) (temp : ℕ) (value : Expr) → Free guard → Free value → move_cost p most rates (given guard (ToTemp temp) value) ≤ 639
  told_few guard temp value h k = let c = temp_cost p most longest rates guard temp value 0 h (omega (arith, k)) in omega (arith, c)

  module _ {R M : Type 0} (core : Core R M) (ops : Operations) (layout : Layout) where
    module _ (prices : Prices) (priced : ArePriced core p most rates ops prices) where
      abbrev worth : Activating
      worth = activating core prices

      -- ---- an occurrence

      chosen_told : (number : ℕ) (past : Bool) (row : Option ℕ) (guard : Expr) → Free guard → IsShort guard → (from : ℕ) → Tells 91 (chosen core ops layout number past row guard from)
      chosen_told number false row guard h s from = record { makes = record { out = h; low = omega arith }; short = s }
      chosen_told number true None guard h s from = record { makes = record { out = h; low = omega arith }; short = s }
      chosen_told number true (Some row) guard h s from = shorts_made guard (ops.chooses row number) h (priced.chooses row number) s (priced.short row number) from

      abbrev slot_steps : Expr → Builder
      slot_steps decoded = steps (given decoded (ToTemp slot_at) (ops.word (root_row core ops layout)) ∷ given decoded (ToTemp taken_at) always ∷ [])

      slot_few : (decoded : Expr) → Free decoded → Few 1278 (slot_steps decoded)
      slot_few decoded free from formed =
          let one = told_few decoded slot_at (ops.word (root_row core ops layout)) free (priced.words (root_row core ops layout)) in
          let two = told_few decoded taken_at always free refl in
          omega (arith, one, two)

      slotted_few : (guard : Expr) → Free guard → Few 1720 (slotted core ops layout guard)
      slotted_few guard h from formed =
          bind_told (holding 1 (both guard (ops.decodes (root_row core ops layout)))) slot_steps 442 1278
          (both_made guard (ops.decodes (root_row core ops layout)) h (priced.decodes (root_row core ops layout))) (λ decoded free short. slot_few decoded free) from formed

      root_spares : (guard : Expr) → Free guard → Spares (root_worth prices) 91 (rooted core ops layout true guard)
      root_spares guard h from formed =
          let all = bind_few ops.fetch (λ word. chain (ops.load (root_row core ops layout) word) (slotted core ops layout guard)) prices.fetch (prices.load + 1720) priced.fetches
          (λ word free. chain_few (ops.load (root_row core ops layout) word) (slotted core ops layout guard) prices.load 1720 (λ from formed. priced.loads (root_row core ops layout) word from free formed) (slotted_few guard h)) from formed in
          omega (arith, all)

      rooted_few : (b : Bool) (guard : Expr) → Free guard → Few (cond b (root_worth prices) 0) (rooted core ops layout b guard)
      rooted_few false guard h from formed = omega arith
      rooted_few true guard h from formed = let all = root_spares guard h from formed in omega (arith, all)

      behavior_few : (number : ℕ) (row : Option ℕ) (guard : Expr) → Free guard → Few (prices.behavior number) (ops.behavior number row guard)
      behavior_few number row guard h from formed = let all = priced.behaves number row guard from h in omega (arith, all)

      recorded_few : (number : ℕ) (guard : Expr) → Free guard → Few 639 (recorded core ops layout number guard)
      recorded_few number guard h from formed = let one = told_few guard (recorded_at core.stages number) always h refl in omega (arith, one)

      occurrence_few : (number : ℕ) (past : Bool) (row : Option ℕ) (guard : Expr) (items : Builder) (n : ℕ) → Free guard → Few n items → Few (worth.own number + n) (occurrence core ops layout number past row guard items)
      occurrence_few number past row guard items n h k from formed =
          let c = chain_few (rooted core ops layout (core.is_root number) guard) (chain (ops.behavior number (own_row core ops layout number past row) guard) items) (cond (core.is_root number) (root_worth prices) 0) (prices.behavior number + n)
          (rooted_few (core.is_root number) guard h)
          (chain_few (ops.behavior number (own_row core ops layout number past row) guard) items (prices.behavior number) n (behavior_few number (own_row core ops layout number past row) guard h) k) from formed in
          omega (arith, c)

      -- one that isn't idle does something, is the root, or has items
      busy_spares : (number : ℕ) (row : Option ℕ) (guard : Expr) → Free guard → core.is_root number ≡ false → ops.idle number ≡ false → Spares (prices.behavior number) 91 (ops.behavior number row guard)
      busy_spares number row guard h plain busy from formed =
          let all = priced.behaves number row guard from h in
          let spare : guard_worth (core.is_root number || ops.idle number) ≡ 100
          = ap (λ (b : Bool). guard_worth (b || ops.idle number)) plain ∙ ap (λ (b : Bool). guard_worth (false || b)) busy in
          omega (arith, all, spare)

      some_items : (number : ℕ) (own : Acts) → is_idle core ops layout number own ≡ false → ops.idle number ≡ true → items_worth own ≡ 600
      some_items number Done busy idle = absurd (both_ways (ops.idle number) busy idle)
      some_items number (Act _ _ _ _ _) busy idle = refl
      some_items number (When _ _ _ _ _) busy idle = refl

      -- so what it costs leaves its guard over
      occurrence_spares : (number : ℕ) (past : Bool) (row : Option ℕ) (guard : Expr) (own : Acts) (items : Builder) (n : ℕ) → is_idle core ops layout number own ≡ false → Free guard → Few n items
          → Spares (worth.own number + (items_worth own + n)) 91 (occurrence core ops layout number past row guard items)
      occurrence_spares number past row guard own items n busy h k = by (core.is_root number) (ops.idle number) refl refl
        where
          mine : Option ℕ
          mine = own_row core ops layout number past row

          by : (root idle : Bool) → core.is_root number ≡ root → ops.idle number ≡ idle
              → Spares ((cond root (root_worth prices) 0 + prices.behavior number) + (items_worth own + n)) 91 (chain (rooted core ops layout root guard) (chain (ops.behavior number mine guard) items))
          by true idle e f from formed =
              let c = first_spares (rooted core ops layout true guard) (chain (ops.behavior number mine guard) items) (root_worth prices) (prices.behavior number + n) 91 (root_spares guard h)
              (chain_few (ops.behavior number mine guard) items (prices.behavior number) n (behavior_few number mine guard h) k) from formed in
              omega (arith, c)
          by false false e f from formed =
              let c = rest_spares (rooted core ops layout false guard) (chain (ops.behavior number mine guard) items) 0 (prices.behavior number + n) 91 (rooted_few false guard h)
              (first_spares (ops.behavior number mine guard) items (prices.behavior number) n 91 (busy_spares number mine guard h e f) k) from formed in
              omega (arith, c)
          by false true e f from formed =
              let some = some_items number own busy f in
              let c = chain_few (rooted core ops layout false guard) (chain (ops.behavior number mine guard) items) 0 (prices.behavior number + n) (rooted_few false guard h)
              (chain_few (ops.behavior number mine guard) items (prices.behavior number) n (behavior_few number mine guard h) k) from formed in
              omega (arith, c, some)

      -- ---- the items under an activator

      abbrev active_worth : ℕ → Acts → ℕ
      active_worth here Done = 0
      active_worth here (Act number level past own rest) = cond (nat_eq level here) (worth.own number + (items_worth own + active_worth here own)) 730 + active_worth here rest
      active_worth here (When number n taken other rest) = (prices.test number n + (273 + (375 + (active_worth here taken + active_worth here other)))) + active_worth here rest

      -- what is done with an occurrence that is chosen
      abbrev act_steps : (here number level : ℕ) (past : Bool) → Option ℕ → Acts → Expr → Builder
      act_steps here number level past row own e =
          cond (nat_eq level here) (occurrence core ops layout number past row e (active core ops layout here (own_row core ops layout number past row) e own)) (recorded core ops layout number e)

      -- and with the branches of an `if`
      abbrev leaving_steps : (here : ℕ) → Option ℕ → (taken other : Acts) → Expr → Expr → Builder
      leaving_steps here row taken other taking leaving = chain (active core ops layout here row taking taken) (active core ops layout here row leaving other)

      abbrev taking_steps : (here : ℕ) → Option ℕ → (guard : Expr) → (taken other : Acts) → Expr → Expr → Builder
      taking_steps here row guard taken other holds taking = bind (holding 1 (both guard (none holds))) (leaving_steps here row taken other taking)

      abbrev when_steps : (here : ℕ) → Option ℕ → (guard : Expr) → (taken other : Acts) → Expr → Builder
      when_steps here row guard taken other holds = bind (holding 1 (both guard holds)) (taking_steps here row guard taken other holds)

      -- an occurrence that is chosen, or one that takes no steps
      abbrev act_worth : (same : Bool) (here number : ℕ) → Acts → ℕ
      act_worth same here number own = cond same (worth.own number + (items_worth own + active_worth here own)) 730

      act_few : (same idle : Bool) (here number : ℕ) (past : Bool) (row : Option ℕ) (own : Acts) (maker : Maker) → is_idle core ops layout number own ≡ idle → ((from : ℕ) → Tells 91 (maker from))
          → ((e : Expr) → Free e → IsShort e → Few (active_worth here own) (active core ops layout here (own_row core ops layout number past row) e own))
          → Few (act_worth same here number own)
          (cond (same && idle) nothing
          (bind maker (λ e. cond same (occurrence core ops layout number past row e (active core ops layout here (own_row core ops layout number past row) e own)) (recorded core ops layout number e))))
      act_few true true here number past row own maker is told items from formed = omega arith
      act_few true false here number past row own maker is told items from formed =
          paid_few maker (λ e. occurrence core ops layout number past row e (active core ops layout here (own_row core ops layout number past row) e own)) 91
          (worth.own number + (items_worth own + active_worth here own)) told
          (λ e free short. occurrence_spares number past row e own (active core ops layout here (own_row core ops layout number past row) e own) (active_worth here own) is free (items e free short)) from formed
      act_few false idle here number past row own maker is told items from formed =
          paid_few maker (λ e. recorded core ops layout number e) 91 730 told (λ e free short base formed. (let r = recorded_few number e free base formed in omega (arith, r))) from formed

      active_few : (here : ℕ) (acts : Acts) (row : Option ℕ) (guard : Expr) → Free guard → IsShort guard → Few (active_worth here acts) (active core ops layout here row guard acts)
      active_few here Done row guard h s from formed = omega arith
      active_few here (Act number level past own rest) row guard h s from formed =
          chain_few
          (cond (nat_eq level here && is_idle core ops layout number own) nothing (bind (chosen core ops layout number past row guard) (act_steps here number level past row own)))
          (active core ops layout here row guard rest) (act_worth (nat_eq level here) here number own) (active_worth here rest)
          (act_few (nat_eq level here) (is_idle core ops layout number own) here number past row own (chosen core ops layout number past row guard) refl (chosen_told number past row guard h s)
          (λ e free short. active_few here own (own_row core ops layout number past row) e free short))
          (active_few here rest row guard h s) from formed
      active_few here (When number n taken other rest) row guard h s from formed =
          chain_few (bind (ops.condition number n row) (when_steps here row guard taken other)) (active core ops layout here row guard rest)
          (prices.test number n + (273 + (375 + (active_worth here taken + active_worth here other)))) (active_worth here rest)
          (bind_told (ops.condition number n row) (when_steps here row guard taken other) (prices.test number n) (273 + (375 + (active_worth here taken + active_worth here other))) (priced.tests number n row)
          (λ holds free short.
          bind_told (holding 1 (both guard holds)) (taking_steps here row guard taken other holds) 273 (375 + (active_worth here taken + active_worth here other)) (short_made guard holds h free short)
          (λ taking first brief.
          bind_told (holding 1 (both guard (none holds))) (leaving_steps here row taken other taking) 375 (active_worth here taken + active_worth here other) (without_made guard holds h free short)
          (λ leaving second small.
          chain_few (active core ops layout here row taking taken) (active core ops layout here row leaving other) (active_worth here taken) (active_worth here other)
          (active_few here taken row taking first brief) (active_few here other row leaving second small)))))
          (active_few here rest row guard h s) from formed

      -- ---- what is due

      abbrev due_worth : Option Expr → ℕ → ℕ
      due_worth None n = 0
      due_worth (Some waiting) n = 442 + n

      waits_free : (level above number : ℕ) (e : Expr) → waits core ops layout level above number ≡ Some e → Free e
      waits_free level zero number e is = go (nat_eq level 1) is
        where
          go : (b : Bool) → cond b (Some (Temp (recorded_at core.stages number))) None ≡ Some e → Free e
          go true same = subst Free {x = Temp (recorded_at core.stages number)} (same_Some (Temp (recorded_at core.stages number)) e same) refl
          go false same = absurd (cc same)
      waits_free level (suc above) number e is = go (layout.bit level number) is
        where
          go : (r : Option ℕ) → option_map (λ place. Before place) r ≡ Some e → Free e
          go None same = absurd (cc same)
          go (Some place) same = subst Free {x = Before place} (same_Some (Before place) e same) refl

      abbrev due_steps : (level number : ℕ) (past : Bool) → Acts → Expr → Builder
      due_steps level number past own e =
          occurrence core ops layout number past (Some (row_of core ops layout level)) e (active core ops layout level (own_row core ops layout number past (Some (row_of core ops layout level))) e own)

      due_few : (level number : ℕ) (past : Bool) (own : Acts) (r : Option Expr) → ((e : Expr) → r ≡ Some e → Free e) → Few (due_worth r (worth.own number + active_worth level own)) (due core ops layout level number past own r)
      due_few level number past own None free from formed = omega arith
      due_few level number past own (Some waiting) free from formed =
          bind_told (holding 1 (both (Temp (open_at level)) waiting)) (due_steps level number past own) 442 (worth.own number + active_worth level own) (both_made (Temp (open_at level)) waiting refl (free waiting refl))
          (λ e low short.
          occurrence_few number past (Some (row_of core ops layout level)) e (active core ops layout level (own_row core ops layout number past (Some (row_of core ops layout level))) e own) (active_worth level own) low
          (active_few level own (own_row core ops layout number past (Some (row_of core ops layout level))) e low short)) from formed

      abbrev turn_worth : ℕ → ℕ → Acts → ℕ
      turn_worth level above Done = 0
      turn_worth level above (Act number own_level past own rest) =
          cond (nat_eq own_level level) (due_worth (waits core ops layout level above number) (worth.own number + active_worth level own)) (turn_worth level own_level own) + turn_worth level above rest
      turn_worth level above (When number n taken other rest) = turn_worth level above taken + (turn_worth level above other + turn_worth level above rest)

      turn_few : (level above : ℕ) (acts : Acts) → Few (turn_worth level above acts) (turn_of core ops layout level above acts)
      turn_few level above Done from formed = omega arith
      turn_few level above (Act number own_level past own rest) from formed =
          chain_few (cond (nat_eq own_level level) (due core ops layout level number past own (waits core ops layout level above number)) (turn_of core ops layout level own_level own)) (turn_of core ops layout level above rest)
          (cond (nat_eq own_level level) (due_worth (waits core ops layout level above number) (worth.own number + active_worth level own)) (turn_worth level own_level own)) (turn_worth level above rest)
          (by (nat_eq own_level level) (turn_few level own_level own)) (turn_few level above rest) from formed
        where
          by : (b : Bool) → Few (turn_worth level own_level own) (turn_of core ops layout level own_level own)
              → Few (cond b (due_worth (waits core ops layout level above number) (worth.own number + active_worth level own)) (turn_worth level own_level own))
              (cond b (due core ops layout level number past own (waits core ops layout level above number)) (turn_of core ops layout level own_level own))
          by true k = due_few level number past own (waits core ops layout level above number) (λ e is. waits_free level above number e is)
          by false k = k
      turn_few level above (When number n taken other rest) from formed =
          chain_few (turn_of core ops layout level above taken) (chain (turn_of core ops layout level above other) (turn_of core ops layout level above rest)) (turn_worth level above taken) (turn_worth level above other + turn_worth level above rest) (turn_few level above taken)
          (chain_few (turn_of core ops layout level above other) (turn_of core ops layout level above rest) (turn_worth level above other) (turn_worth level above rest) (turn_few level above other) (turn_few level above rest)) from formed

      -- ---- each occurrence once

      abbrev sum_turns : ℕ → ℕ → Acts → ℕ
      sum_turns zero above acts = 0
      sum_turns (suc n) above acts = turn_worth (suc n) above acts + sum_turns n above acts

      sum_done : (n above : ℕ) → sum_turns n above Done ≡ 0
      sum_done zero above = refl
      sum_done (suc n) above = let more = sum_done n above in omega (arith, more)

      sum_when : (n above number m : ℕ) (taken other rest : Acts) → sum_turns n above (When number m taken other rest) ≡ sum_turns n above taken + (sum_turns n above other + sum_turns n above rest)
      sum_when zero above number m taken other rest = omega arith
      sum_when (suc n) above number m taken other rest = let more = sum_when n above number m taken other rest in omega (arith, more)

      due_low : (r : Option Expr) (n : ℕ) → due_worth r n ≤ 442 + n
      due_low None n = omega arith
      due_low (Some e) n = omega arith

      module _ (number level : ℕ) (past : Bool) (own rest : Acts) where
        abbrev item : Acts
        item = Act number level past own rest

        -- in an earlier turn it isn't due
        sum_lower : (n above : ℕ) → n < level → sum_turns n above item ≡ sum_turns n level own + sum_turns n above rest
        sum_lower zero above low = omega arith
        sum_lower (suc n) above low =
            let other : nat_eq level (suc n) ≡ false = ne_eqb level (suc n) (λ e. absurd (omega (arith, e, low))) in
            let here : cond (nat_eq level (suc n)) (due_worth (waits core ops layout (suc n) above number) (worth.own number + active_worth (suc n) own)) (turn_worth (suc n) level own) ≡ turn_worth (suc n) level own
            = ap (λ (b : Bool). cond b (due_worth (waits core ops layout (suc n) above number) (worth.own number + active_worth (suc n) own)) (turn_worth (suc n) level own)) other in
            let more = sum_lower n above (omega (arith, low)) in
            omega (arith, here, more)

        sum_act : (n above : ℕ) → sum_turns n above item ≤ (442 + (worth.own number + active_worth level own)) + (sum_turns n level own + sum_turns n above rest)
        sum_act zero above = omega arith
        sum_act (suc n) above = by (nat_eq level (suc n)) refl (sum_act n above)
          where
            by : (b : Bool) → nat_eq level (suc n) ≡ b → sum_turns n above item ≤ (442 + (worth.own number + active_worth level own)) + (sum_turns n level own + sum_turns n above rest)
                → (cond b (due_worth (waits core ops layout (suc n) above number) (worth.own number + active_worth (suc n) own)) (turn_worth (suc n) level own) + turn_worth (suc n) above rest) + sum_turns n above item
                ≤ (442 + (worth.own number + active_worth level own)) + ((turn_worth (suc n) level own + sum_turns n level own) + (turn_worth (suc n) above rest + sum_turns n above rest))
            by true e more =
                let same : level ≡ suc n = eqb-true level (suc n) e in
                let all : active_worth level own ≡ active_worth (suc n) own = ap (λ (l : ℕ). active_worth l own) same in
                let low = due_low (waits core ops layout (suc n) above number) (worth.own number + active_worth (suc n) own) in
                let lower = sum_lower n above (omega (arith, same)) in
                omega (arith, all, low, lower)
            by false e more = omega (arith, more)

        -- nor in the turn of its activator's level
        sum_quiet : (n above : ℕ) → level ≡ above → layout.bit level number ≡ None → sum_turns n above item ≤ sum_turns n level own + sum_turns n above rest
        sum_quiet zero above same quiet = omega arith
        sum_quiet (suc n) above same quiet = by (nat_eq level (suc n)) refl (sum_quiet n above same quiet)
          where
            none : nat_eq level (suc n) ≡ true → waits core ops layout (suc n) above number ≡ None
            none e =
                let here : suc n ≡ level = sym (eqb-true level (suc n) e) in
                subst (λ (a : ℕ). waits core ops layout (suc n) a number ≡ None) {x = suc n} {y = above} (here ∙ same)
                (ap (λ (r : Option ℕ). option_map (λ (place : ℕ). Before place) r) (ap (λ (l : ℕ). layout.bit l number) here ∙ quiet))

            by : (b : Bool) → nat_eq level (suc n) ≡ b → sum_turns n above item ≤ sum_turns n level own + sum_turns n above rest
                → (cond b (due_worth (waits core ops layout (suc n) above number) (worth.own number + active_worth (suc n) own)) (turn_worth (suc n) level own) + turn_worth (suc n) above rest) + sum_turns n above item
                ≤ (turn_worth (suc n) level own + sum_turns n level own) + (turn_worth (suc n) above rest + sum_turns n above rest)
            by true e more =
                let no : due_worth (waits core ops layout (suc n) above number) (worth.own number + active_worth (suc n) own) ≡ 0
                = ap (λ (r : Option Expr). due_worth r (worth.own number + active_worth (suc n) own)) (none e) in
                omega (arith, no, more)
            by false e more = omega (arith, more)

      -- what waits does so where there are stages
      waiting_each : (above level n : ℕ) → above ≤ level → level ≤ n → (level ≡ above → ⊥) → 1523 ≤ each_worth n
      waiting_each above level zero ordered within other = absurd (other (omega (arith, ordered, within)))
      waiting_each above level (suc n) ordered within other = omega arith

      -- the items under an activator of a level, and what is due of them and below them in all turns
      once : (acts : Acts) (above n : ℕ) → IsQuiet layout core.stages above acts → active_worth above acts + sum_turns n above acts ≤ acts_worth worth acts
      once Done above n quiet = let none = sum_done n above in omega (arith, none)
      once (Act number level past own rest) above n quiet = by (nat_eq level above) refl (once own level n quiet.3) (once rest above n quiet.4)
        where
          by : (b : Bool) → nat_eq level above ≡ b → active_worth level own + sum_turns n level own ≤ acts_worth worth own → active_worth above rest + sum_turns n above rest ≤ acts_worth worth rest
              → (cond b (worth.own number + (items_worth own + active_worth above own)) 730 + active_worth above rest) + sum_turns n above (Act number level past own rest)
              ≤ (worth.each + (worth.own number + items_worth own)) + (acts_worth worth own + acts_worth worth rest)
          by true e first second =
              let same : level ≡ above = eqb-true level above e in
              let all : active_worth level own ≡ active_worth above own = ap (λ (l : ℕ). active_worth l own) same in
              let turns = sum_quiet number level past own rest n above same (quiet.2 same) in
              omega (arith, all, turns, first, second)
          by false e first second =
              let turns = sum_act number level past own rest n above in
              let each = waiting_each above level core.stages quiet.0 quiet.1 (eqb-false level above e) in
              omega (arith, turns, first, second, each)
      once (When number m taken other rest) above n quiet =
          let a = once taken above n quiet.0 in
          let b = once other above n quiet.1 in
          let c = once rest above n quiet.2 in
          let all = sum_when n above number m taken other rest in
          omega (arith, a, b, c, all)

      -- ---- all turns, and `main`

      controls_few : (level : ℕ) → Free (ops.stalled level) → Free (ops.flushed level) → Few 1768 (controls core ops layout level)
      controls_few level stalled flushed from formed =
          let held = by_levels (nat_eq level core.stages) in
          let one = two_cost p most longest rates opers.Or (ops.stalled level) (held_after core ops layout level) 0 0 (omega (arith, stalled)) (omega (arith, held)) in
          let first = two_cost p most longest rates opers.Equal (Temp (held_at level)) (Const 1 0) 0 0 (omega arith) (omega arith) in
          let second = two_cost p most longest rates opers.Equal (ops.flushed level) (Const 1 0) 0 0 (omega (arith, flushed)) (omega arith) in
          let two = two_cost p most longest rates opers.And (none (Temp (held_at level))) (none (ops.flushed level)) 442 442 first second in
          omega (arith, one, two)
        where
          by_levels : (b : Bool) → expr_cost p most rates (cond b (Const 1 0) (Temp (held_at (suc level)))) ≡ 0
          by_levels true = refl
          by_levels false = refl

      word_free : (level : ℕ) → Free (stage_word core ops layout level)
      word_free level = by_slot (nat_eq level (slot_level core)) (placed (layout.word level))
        where
          placed : (r : Option ℕ) → Free (place_word core ops layout r)
          placed None = refl
          placed (Some place) = refl

          by_slot : (b : Bool) → Free (place_word core ops layout (layout.word level)) → Free (cond b (Temp slot_at) (place_word core ops layout (layout.word level)))
          by_slot true h = refl
          by_slot false h = h

      turns_few : (n : ℕ) → Few (n * (1768 + prices.load) + sum_turns n 0 (Act 0 0 false core.acts Done)) (turns core ops layout n)
      turns_few zero from formed = omega arith
      turns_few (suc n) from formed =
          let all = Act 0 0 false core.acts Done in
          let one = chain_few (controls core ops layout (suc n)) (chain (ops.load (row_of core ops layout (suc n)) (stage_word core ops layout (suc n))) (turn_of core ops layout (suc n) 0 all)) 1768 (prices.load + turn_worth (suc n) 0 all)
          (controls_few (suc n) (priced.stalled (suc n)) (priced.flushed (suc n)))
          (chain_few (ops.load (row_of core ops layout (suc n)) (stage_word core ops layout (suc n))) (turn_of core ops layout (suc n) 0 all) prices.load (turn_worth (suc n) 0 all)
          (λ from formed. priced.loads (row_of core ops layout (suc n)) (stage_word core ops layout (suc n)) from (word_free (suc n)) formed) (turn_few (suc n) 0 all)) in
          let both = chain_few (turn core ops layout (suc n)) (turns core ops layout n) (1768 + (prices.load + turn_worth (suc n) 0 all)) (n * (1768 + prices.load) + sum_turns n 0 all) one (turns_few n) from formed in
          omega (arith, both)

      sum_main : (n : ℕ) → sum_turns n 0 (Act 0 0 false core.acts Done) ≡ sum_turns n 0 core.acts
      sum_main zero = refl
      sum_main (suc n) =
          let more = sum_main n in
          let off : nat_eq 0 (suc n) ≡ false = ne_eqb 0 (suc n) (λ e. absurd (omega (arith, e))) in
          let here : cond (nat_eq 0 (suc n)) (due_worth (waits core ops layout (suc n) 0 0) (worth.own 0 + active_worth (suc n) core.acts)) (turn_worth (suc n) 0 core.acts) ≡ turn_worth (suc n) 0 core.acts
          = ap (λ (b : Bool). cond b (due_worth (waits core ops layout (suc n) 0 0) (worth.own 0 + active_worth (suc n) core.acts)) (turn_worth (suc n) 0 core.acts)) off in
          omega (arith, more, here)

      main_few : Few (worth.own 0 + active_worth 0 core.acts) (main_run core ops layout)
      main_few from formed =
          occurrence_few 0 false None always (active core ops layout 0 (own_row core ops layout 0 false None) always core.acts) (active_worth 0 core.acts) refl
          (active_few 0 core.acts (own_row core ops layout 0 false None) always refl (omega arith)) from formed

      -- `main` and what is due in all levels
      pub edge_few : IsQuiet layout core.stages 0 core.acts → Few (edge_worth core prices core.stages) (chain (main_run core ops layout) (turns core ops layout core.stages))
      edge_few quiet from formed =
          let o = once core.acts 0 core.stages quiet in
          let m = sum_main core.stages in
          let all = chain_few (main_run core ops layout) (turns core ops layout core.stages) (worth.own 0 + active_worth 0 core.acts) (core.stages * (1768 + prices.load) + sum_turns core.stages 0 (Act 0 0 false core.acts Done)) main_few (turns_few core.stages) from formed in
          omega (arith, o, m, all)

      -- with what is done behind them
      pub edge_then : IsQuiet layout core.stages 0 core.acts → (rest : Builder) (n : ℕ) → Few n rest → Few (edge_worth core prices core.stages + n) (chain (main_run core ops layout) (chain (turns core ops layout core.stages) rest))
      edge_then quiet rest n few from formed =
          let o = once core.acts 0 core.stages quiet in
          let m = sum_main core.stages in
          let later = chain_few (turns core ops layout core.stages) rest (core.stages * (1768 + prices.load) + sum_turns core.stages 0 (Act 0 0 false core.acts Done)) n (turns_few core.stages) few in
          let all = chain_few (main_run core ops layout) (chain (turns core ops layout core.stages) rest) (worth.own 0 + active_worth 0 core.acts)
          ((core.stages * (1768 + prices.load) + sum_turns core.stages 0 (Act 0 0 false core.acts Done)) + n) main_few later from formed in
          omega (arith, o, m, all)
