-- What steps are charged with behind writes of cells: no more than at rates by which a read costs a pair for each write of its array.
use Rattle.std.proofs.Common.{◌≡◌, ℕ, ◌+◌, ◌*◌, ◌≤◌, Bool, true, false, List, [], ◌∷◌, refl, arith, nat_eq, if◌then◌else◌}
use Rattle.std.proofs.Math.Nat.{mul-le-mul_right}
use Rattle.step_program.specs.Programs.{Program, Expr, Const, Now, Before, Pin, Temp, Cell, One, Two, Choose, Aim, ToItem, ToTemp, ToCell, Move}
use Rattle.netlist_wires.specs.Costs.{writes_to, arrays_after}
use Rattle.module_sizes.specs.Charges.{pair_most, expr_most, move_most, moves_most}
use Rattle.module_sizes.specs.Costs.{expr_reads, aim_accesses, moves_accesses, move_cost, moves_cost, pair_rates, write_rates}

module _ (p : Program) (most : ℕ) where
  -- what a read of each array costs behind writes of these
  abbrev behind : List ℕ → ℕ → ℕ
  behind arrays a = writes_to a arrays * pair_most most

  expr_pairs : (arrays : List ℕ) (e : Expr) → expr_most p most arrays e ≡ expr_most p most [] e + expr_reads (behind arrays) e
  expr_pairs arrays (Const w v) = refl
  expr_pairs arrays (Now item) = refl
  expr_pairs arrays (Before item) = refl
  expr_pairs arrays (Pin pin) = refl
  expr_pairs arrays (Temp temp) = refl
  expr_pairs arrays (Cell array index) = let i = expr_pairs arrays index in omega (arith, i)
  expr_pairs arrays (One one a) = let i = expr_pairs arrays a in omega (arith, i)
  expr_pairs arrays (Two two a b) = let i = expr_pairs arrays a in let j = expr_pairs arrays b in omega (arith, i, j)
  expr_pairs arrays (Choose t a b) = let h = expr_pairs arrays t in let i = expr_pairs arrays a in let j = expr_pairs arrays b in omega (arith, h, i, j)

  -- more writes cost more
  reads_rise : (low high : ℕ → ℕ) → ((a : ℕ) → low a ≤ high a) → (e : Expr) → expr_reads low e ≤ expr_reads high e
  reads_rise low high rise (Const w v) = omega arith
  reads_rise low high rise (Now item) = omega arith
  reads_rise low high rise (Before item) = omega arith
  reads_rise low high rise (Pin pin) = omega arith
  reads_rise low high rise (Temp temp) = omega arith
  reads_rise low high rise (Cell array index) = let h = rise array in let i = reads_rise low high rise index in omega (arith, h, i)
  reads_rise low high rise (One one a) = reads_rise low high rise a
  reads_rise low high rise (Two two a b) = let i = reads_rise low high rise a in let j = reads_rise low high rise b in omega (arith, i, j)
  reads_rise low high rise (Choose t a b) = let h = reads_rise low high rise t in let i = reads_rise low high rise a in let j = reads_rise low high rise b in omega (arith, h, i, j)

  expr_low : (arrays : List ℕ) (rate : ℕ → ℕ) → ((a : ℕ) → behind arrays a ≤ rate a) → (e : Expr) → expr_most p most arrays e ≤ expr_most p most [] e + expr_reads rate e
  expr_low arrays rate rise e = let same = expr_pairs arrays e in let more = reads_rise (behind arrays) rate rise e in omega (arith, same, more)

  move_low : (arrays : List ℕ) (rate : ℕ → ℕ) → ((a : ℕ) → behind arrays a ≤ rate a) → (move : Move) → move_most p most arrays move ≤ move_cost p most (pair_rates rate) move
  move_low arrays rate rise move = by move.aim
    where
      g : expr_most p most arrays move.guard ≤ expr_most p most [] move.guard + expr_reads rate move.guard
      g = expr_low arrays rate rise move.guard

      v : expr_most p most arrays move.value ≤ expr_most p most [] move.value + expr_reads rate move.value
      v = expr_low arrays rate rise move.value

      by : (aim : Aim) → move_most p most arrays (record { guard = move.guard; aim = aim; value = move.value }) ≤ move_cost p most (pair_rates rate) (record { guard = move.guard; aim = aim; value = move.value })
      by (ToItem item) = omega (arith, g, v)
      by (ToTemp temp) = omega (arith, g, v)
      by (ToCell array index) = let i = expr_low arrays rate rise index in omega (arith, g, v, i)

  -- ---- all writes

  abbrev all_after : List Move → List ℕ → List ℕ
  all_after [] arrays = arrays
  all_after (move ∷ moves) arrays = all_after moves (arrays_after move.aim arrays)

  later : (a : ℕ) (aim : Aim) (arrays : List ℕ) → writes_to a arrays ≤ writes_to a (arrays_after aim arrays)
  later a (ToItem item) arrays = omega arith
  later a (ToTemp temp) arrays = omega arith
  later a (ToCell array index) arrays = go (nat_eq array a)
    where
      go : (b : Bool) → writes_to a arrays ≤ (if b then 1 + writes_to a arrays else writes_to a arrays)
      go true = omega arith
      go false = omega arith

  all_later : (a : ℕ) (moves : List Move) (arrays : List ℕ) → writes_to a arrays ≤ writes_to a (all_after moves arrays)
  all_later a [] arrays = omega arith
  all_later a (move ∷ moves) arrays = let one = later a move.aim arrays in let more = all_later a moves (arrays_after move.aim arrays) in omega (arith, one, more)

  moves_low : (moves : List Move) (arrays : List ℕ) (rate : ℕ → ℕ) → ((a : ℕ) → behind (all_after moves arrays) a ≤ rate a) → moves_most p most arrays moves ≤ moves_cost p most (pair_rates rate) moves
  moves_low [] arrays rate rise = omega arith
  moves_low (move ∷ moves) arrays rate rise =
      let one = move_low arrays rate (λ a. (let up = mul-le-mul_right (pair_most most) (all_later a (move ∷ moves) arrays) in let top = rise a in omega (arith, up, top))) move in
      let more = moves_low moves (arrays_after move.aim arrays) rate rise in
      omega (arith, one, more)

  -- the writes of an array are what steps cost at rates by which only these cost
  pub reads_none : (e : Expr) → expr_reads (λ a. 0) e ≡ 0
  reads_none (Const w v) = refl
  reads_none (Now item) = refl
  reads_none (Before item) = refl
  reads_none (Pin pin) = refl
  reads_none (Temp temp) = refl
  reads_none (Cell array index) = let i = reads_none index in omega (arith, i)
  reads_none (One one a) = reads_none a
  reads_none (Two two a b) = let i = reads_none a in let j = reads_none b in omega (arith, i, j)
  reads_none (Choose t a b) = let h = reads_none t in let i = reads_none a in let j = reads_none b in omega (arith, h, i, j)

  aim_writes : (a : ℕ) (aim : Aim) (arrays : List ℕ) → writes_to a (arrays_after aim arrays) ≡ writes_to a arrays + aim_accesses (write_rates a 1) aim
  aim_writes a (ToItem item) arrays = omega arith
  aim_writes a (ToTemp temp) arrays = omega arith
  aim_writes a (ToCell array index) arrays = go (nat_eq array a)
    where
      none : expr_reads (λ a. 0) index ≡ 0
      none = reads_none index

      go : (b : Bool) → (if b then 1 + writes_to a arrays else writes_to a arrays) ≡ writes_to a arrays + ((if b then 1 else 0) + expr_reads (λ a. 0) index)
      go true = omega (arith, none)
      go false = omega (arith, none)

  moves_writes : (a : ℕ) (moves : List Move) (arrays : List ℕ) → writes_to a (all_after moves arrays) ≡ writes_to a arrays + moves_accesses (write_rates a 1) moves
  moves_writes a [] arrays = omega arith
  moves_writes a (move ∷ moves) arrays =
      let one = aim_writes a move.aim arrays in
      let more = moves_writes a moves (arrays_after move.aim arrays) in
      let g = reads_none move.guard in
      let v = reads_none move.value in
      omega (arith, one, more, g, v)

  pub pairs_low : (moves : List Move) (writes : ℕ → ℕ) → ((a : ℕ) → moves_accesses (write_rates a 1) moves ≤ writes a)
      → moves_most p most [] moves ≤ moves_cost p most (pair_rates (λ a. writes a * pair_most most)) moves
  pairs_low moves writes few =
      moves_low moves [] (λ a. writes a * pair_most most)
      (λ a. (let same = moves_writes a moves [] in
      let low = few a in
      let no_more : writes_to a (all_after moves []) ≤ writes a = omega (arith, same, low) in
      mul-le-mul_right (pair_most most) no_more))
