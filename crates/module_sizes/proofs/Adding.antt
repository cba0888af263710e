-- Steps one behind the other cost as much as each.
use Rattle.std.proofs.Common.{◌≡◌, ℕ, ◌+◌, ◌≤◌, List, [], ◌∷◌, ◌++◌, arith}
use Rattle.step_program.specs.declared.expressions.TwoOp.{TwoOp}
use Rattle.step_program.specs.Programs.{Program, Expr, Two, Choose, Move}
use Rattle.step_pieces.specs.Pieces.{Piece, behind, top, held, set_temp}
use Rattle.module_sizes.specs.Costs.{Rates, IsLongest, AreFormed, expr_cost, moves_cost}
use Rattle.module_sizes.proofs.Operands.{set_cost}

-- steps one behind the other are formed where each is
module _ (p : Program) where
  pub formed_left : (xs ys : List Move) → AreFormed p (xs ++ ys) → AreFormed p xs
  formed_left [] ys formed = tt
  formed_left (x ∷ xs) ys formed = (formed.0, formed_left xs ys formed.1)

  pub formed_right : (xs ys : List Move) → AreFormed p (xs ++ ys) → AreFormed p ys
  formed_right [] ys formed = formed
  formed_right (x ∷ xs) ys formed = formed_right xs ys formed.1

module _ (p : Program) (most : ℕ) (rates : Rates) where
  abbrev pub total : Piece → ℕ
  total a = moves_cost p most rates a.moves

  pub moves_append : (xs ys : List Move) → moves_cost p most rates (xs ++ ys) ≡ moves_cost p most rates xs + moves_cost p most rates ys
  moves_append [] ys = omega arith
  moves_append (x ∷ xs) ys = let more = moves_append xs ys in omega (arith, more)

  -- pieces that cost so much
  pub behind_cost : (a b : Piece) (m n : ℕ) → total a ≤ m → total b ≤ n → total (behind a b) ≤ m + n
  behind_cost a b m n h k = let all = moves_append a.moves b.moves in omega (arith, all, h, k)

  pub held_cost : IsLongest most → (from : ℕ) (a : Piece) (width : ℕ) (e : Expr) (m n : ℕ) → total a ≤ m → expr_cost p most rates e ≤ n → total (held from a width e) ≤ m + n + 243
  held_cost names from a width e m n h k =
      let all = moves_append a.moves (set_temp (top from a) e ∷ []) in
      let one = set_cost p most names rates (top from a) e n k in
      omega (arith, all, h, one)

  -- what operators give is held as it is
  pub held_two_cost : (from : ℕ) (a : Piece) (width : ℕ) (two : TwoOp) (x y : Expr) (m n : ℕ) → total a ≤ m → expr_cost p most rates (Two two x y) ≤ n → total (held from a width (Two two x y)) ≤ m + n
  held_two_cost from a width two x y m n h k =
      let all = moves_append a.moves (set_temp (top from a) (Two two x y) ∷ []) in
      omega (arith, all, h, k)

  pub held_choose_cost : (from : ℕ) (a : Piece) (width : ℕ) (c x y : Expr) (m n : ℕ) → total a ≤ m → expr_cost p most rates (Choose c x y) ≤ n → total (held from a width (Choose c x y)) ≤ m + n
  held_choose_cost from a width c x y m n h k =
      let all = moves_append a.moves (set_temp (top from a) (Choose c x y) ∷ []) in
      omega (arith, all, h, k)
