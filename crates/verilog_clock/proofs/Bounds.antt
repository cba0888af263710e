-- The value of an expression at a length is within that length, if its own length is no greater.
use Rattle.std.proofs.Common.{ℕ, zero, suc, ◌+◌, ◌-◌, ◌*◌, ◌^◌, ◌<◌, ◌≤◌, Bool, true, false, List, subst, arith}
use Rattle.std.proofs.lemmas.Nat.{mod_below, pow_pos, pow-add, and_le_l, or_lt, xor_lt}
use Rattle.std.proofs.Math.Pow.{pow_mono}
use Rattle.std.specs.Prelude.{if◌then◌else◌, pos, negsuc, ◌-ℤ◌}
use Rattle.lisa_words.proofs.WordLaws.{reduced-lt}
use Rattle.lisa_words.specs.declared.binary.Operator.{Operator}
use Rattle.lisa_words.specs.declared.binary.Operator.TheVariants as operators
use Rattle.verilog_text.specs.declared.expressions.VOne.TheVariants as ones
use Rattle.verilog_text.specs.declared.expressions.VExpr.{VExpr, Join', Row_of-VExpr, end_of-VExpr, more_of-VExpr}
use Rattle.verilog_text.specs.declared.expressions.VExpr.TheVariants as exprs
use Rattle.verilog_text.specs.Trees.{vexpr_tree, row_trees, ModuleTree}
use Rattle.verilog_text.specs.Values.{Env, v_width, v_value, parts_width, parts_value, left_length, right_length, two_width, operate, truth, is_true, repeated}
use Rattle.verilog_text.specs.Clocked.{env_of}
use Rattle.verilog_clock.specs.Named.{AreWithin}

-- what the names have is within their widths
pub record AreBound (env : Env) : Type 0 where
  pub looked : (name : List ℕ) → env.look name < 2 ^ env.widths.wide name
  pub had : (name : List ℕ) (index : ℕ) → env.read name index < 2 ^ env.widths.cell name

pub are_bound : (m : ModuleTree) (values : List ℕ) (cells : List (List ℕ)) → AreWithin m values cells → AreBound (env_of m values cells)
are_bound m values cells within = record {
  looked = λ name. within.of_scalars _;
  had = λ name index. within.of_cells _ index;
}

truth_below : (b : Bool) (length : ℕ) → 1 ≤ length → truth b < 2 ^ length
truth_below true length some = let more : 2 ^ 1 ≤ 2 ^ length = pow_mono some in omega arith
truth_below false length some = pow_pos length

more_below : (n a b : ℕ) → n < 2 ^ a → a ≤ b → n < 2 ^ b
more_below n a b below le = let more : 2 ^ a ≤ 2 ^ b = pow_mono le in omega arith

-- a value in front of others
pub front_below : (v r a b : ℕ) → v < 2 ^ a → r < 2 ^ b → v * 2 ^ b + r < 2 ^ (a + b)
front_below v r a b in_v in_r =
    let h : suc v * 2 ^ b ≤ 2 ^ a * 2 ^ b = grind arith in
    omega (arith, pow-add 2 a b, h)

pub repeated_below : (times width v : ℕ) → v < 2 ^ width → repeated times width v < 2 ^ (times * width)
repeated_below zero width v below = pow_pos (0 * width)
repeated_below (suc times) width v below =
    subst (λ (n : ℕ). repeated (suc times) width v < 2 ^ n) {x = width + times * width} {y = suc times * width} (omega arith)
    (front_below v (repeated times width v) width (times * width) below (repeated_below times width v below))

one_or_other : (b : Bool) (x y k : ℕ) → x < k → y < k → (if b then x else y) < k
one_or_other true x y k in_x in_y = in_x
one_or_other false x y k in_x in_y = in_y

operate_below : (op : Operator) (length a b wa wb : ℕ) → two_width op wa wb ≤ length
    → (wa ≤ left_length op length wa wb → a < 2 ^ left_length op length wa wb) → (wb ≤ right_length op length wa wb → b < 2 ^ right_length op length wa wb)
    → operate op length a b < 2 ^ length
operate_below operators.Add length a b wa wb le in_a in_b = mod_below _ _ (pow_pos length)
operate_below operators.Sub length a b wa wb le in_a in_b = reduced-lt (pos a -ℤ pos b) length
operate_below operators.Mul length a b wa wb le in_a in_b = mod_below _ _ (pow_pos length)
operate_below operators.And length a b wa wb le in_a in_b = let below : a < 2 ^ length = in_a (omega arith) in omega (arith, and_le_l a b)
operate_below operators.Or length a b wa wb le in_a in_b = or_lt length a b (in_a (omega arith)) (in_b (omega arith))
operate_below operators.Xor length a b wa wb le in_a in_b = xor_lt length a b (in_a (omega arith)) (in_b (omega arith))
operate_below operators.Left length a b wa wb le in_a in_b = mod_below _ _ (pow_pos length)
operate_below operators.Right length a b wa wb le in_a in_b = mod_below _ _ (pow_pos length)
operate_below operators.Equal length a b wa wb le in_a in_b = truth_below _ length le
operate_below operators.Unequal length a b wa wb le in_a in_b = truth_below _ length le
operate_below operators.Less length a b wa wb le in_a in_b = truth_below _ length le
operate_below operators.LessEqual length a b wa wb le in_a in_b = truth_below _ length le
operate_below operators.Greater length a b wa wb le in_a in_b = truth_below _ length le
operate_below operators.GreaterEqual length a b wa wb le in_a in_b = truth_below _ length le
operate_below operators.BothTrue length a b wa wb le in_a in_b = one_or_other (is_true a) (truth (is_true b)) 0 (2 ^ length) (truth_below _ length le) (pow_pos length)
operate_below operators.OneTrue length a b wa wb le in_a in_b = one_or_other (is_true a) 1 (truth (is_true b)) (2 ^ length) (truth_below true length le) (truth_below _ length le)

mutual
  pub value_below : (env : Env) (e : VExpr) (length : ℕ) → AreBound env → v_width env.widths (vexpr_tree e) ≤ length → v_value env (vexpr_tree e) length < 2 ^ length
  value_below env (exprs.Number word) length bound le = more_below word.bits word.width length word.fits le
  value_below env (exprs.Named name) length bound le = more_below _ _ length (bound.looked name) le
  value_below env (exprs.Bits name high low) length bound le = more_below _ (suc (high - low)) length (mod_below _ _ (pow_pos (suc (high - low)))) le
  value_below env (exprs.Cell' name p index) length bound le = more_below _ _ length (bound.had name _) le
  value_below env (exprs.One' ones.Complement p a) length bound le = reduced-lt (negsuc (v_value env (vexpr_tree a) length)) length
  value_below env (exprs.One' ones.Negate p a) length bound le = truth_below _ length le
  value_below env (exprs.Two' op p a q b) length bound le =
      operate_below op length _ _ (v_width env.widths (vexpr_tree a)) (v_width env.widths (vexpr_tree b)) le
      (λ in_a. value_below env a _ bound in_a) (λ in_b. value_below env b _ bound in_b)
  value_below env (exprs.Choose' p c q a r b) length bound le =
      one_or_other _ _ _ (2 ^ length) (value_below env a length bound (omega (arith, le))) (value_below env b length bound (omega (arith, le)))
  value_below env (Join' shape row) length bound le = more_below _ _ length (row_below env row bound) le
  value_below env (exprs.Repeat' times p a) length bound le =
      more_below _ _ length (repeated_below times (v_width env.widths (vexpr_tree a)) _ (value_below env a (v_width env.widths (vexpr_tree a)) bound (omega arith))) le

  row_below : {m : _} (env : Env) (row : Row_of-VExpr m) → AreBound env → parts_value env (row_trees row) < 2 ^ parts_width env.widths (row_trees row)
  row_below env end_of-VExpr bound = pow_pos 0
  row_below env (more_of-VExpr e rest) bound =
      front_below _ _ (v_width env.widths (vexpr_tree e)) (parts_width env.widths (row_trees rest))
      (value_below env e (v_width env.widths (vexpr_tree e)) bound (omega arith)) (row_below env rest bound)
