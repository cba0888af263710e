-- Lengths and values of expressions. The numbers in brackets are sections of IEEE 1364-2001.
-- All operands are unsigned, and each bit is 0 or 1. Lengths may be of any size: replications nest.
use Rattle.std.specs.Prelude.{ℕ, zero, suc, ◌+◌, ◌-◌, ◌*◌, ◌/◌, ◌%◌, ◌^◌, max, Bool, nat_eq, nat_lt, not, if◌then◌else◌, bit_and, bit_or, bit_xor, List}
use Rattle.lisa_words.specs.Words.{word_add, word_sub, word_mul, word_not, word_shl, word_shr}
use Rattle.lisa_words.specs.declared.words.Kind.TheVariants.{Unsigned}
use Rattle.lisa_words.specs.declared.binary.Operator.{Operator}
use Rattle.lisa_words.specs.declared.binary.Operator.TheVariants as operators
use Rattle.verilog_text.specs.declared.expressions.VOne.TheVariants.{Complement, Negate}
use Rattle.verilog_text.specs.Trees.{VTree, Number, Named, Bits, Cell, One, Two, Choose, Join, Repeat, VTrees, End, Then}

-- how wide a reg, wire or input of a name is, and the cells of an array
pub record Widths : Type 0 where
  pub wide : List ℕ → ℕ
  pub cell : List ℕ → ℕ

-- what is known of the names: how wide they are, and their values
pub record Env : Type 0 where
  pub widths : Widths
  pub look : List ℕ → ℕ
  pub read : List ℕ → (index : ℕ) → ℕ

-- ---- the self-determined length of an expression [4.4.1, table 29]

-- of an operator with two operands, from theirs
abbrev pub two_width : Operator → ℕ → ℕ → ℕ
two_width operators.Equal a b = 1
two_width operators.Unequal a b = 1
two_width operators.Less a b = 1
two_width operators.LessEqual a b = 1
two_width operators.Greater a b = 1
two_width operators.GreaterEqual a b = 1
two_width operators.BothTrue a b = 1
two_width operators.OneTrue a b = 1
two_width operators.Left a b = a
two_width operators.Right a b = a
two_width operator a b = max a b

abbrev mutual
  pub v_width : Widths → VTree → ℕ
  v_width widths (Number width value) = width
  v_width widths (Named name) = widths.wide name
  v_width widths (Bits name high low) = suc (high - low)
  v_width widths (Cell name index) = widths.cell name
  v_width widths (One Complement a) = v_width widths a
  v_width widths (One Negate a) = 1
  v_width widths (Two operator a b) = two_width operator (v_width widths a) (v_width widths b)
  v_width widths (Choose test this other) = max (v_width widths this) (v_width widths other)
  v_width widths (Join parts) = parts_width widths parts
  v_width widths (Repeat times a) = times * v_width widths a

  -- a concatenation is as long as its parts together [4.1.14]
  pub parts_width : Widths → VTrees → ℕ
  parts_width widths End = 0
  parts_width widths (Then e rest) = v_width widths e + parts_width widths rest

-- ---- the lengths that an operator hands down to its operands, from the length of its context and the operands' own

-- operands of arithmetic and of bitwise operators take the context's length, those of a comparison the larger of the two, and the
-- others are self-determined [4.4.1, table 29]
abbrev pub left_length : Operator → ℕ → ℕ → ℕ → ℕ
left_length operators.Equal length a b = max a b
left_length operators.Unequal length a b = max a b
left_length operators.Less length a b = max a b
left_length operators.LessEqual length a b = max a b
left_length operators.Greater length a b = max a b
left_length operators.GreaterEqual length a b = max a b
left_length operators.BothTrue length a b = a
left_length operators.OneTrue length a b = a
left_length operator length a b = length

-- a shift's right operand is self-determined
abbrev pub right_length : Operator → ℕ → ℕ → ℕ → ℕ
right_length operators.Equal length a b = max a b
right_length operators.Unequal length a b = max a b
right_length operators.Less length a b = max a b
right_length operators.LessEqual length a b = max a b
right_length operators.Greater length a b = max a b
right_length operators.GreaterEqual length a b = max a b
right_length operators.BothTrue length a b = b
right_length operators.OneTrue length a b = b
right_length operators.Left length a b = b
right_length operators.Right length a b = b
right_length operator length a b = length

-- ---- values

-- 1 for true, 0 for false
abbrev pub truth : Bool → ℕ
truth b = if b then 1 else 0

-- a value is true where it isn't 0
abbrev pub is_true : ℕ → Bool
is_true a = not (nat_eq a 0)

-- the operators at a length [4.1.5, 4.1.7 to 4.1.10, 4.1.12]
abbrev pub operate : Operator → ℕ → ℕ → ℕ → ℕ
operate operators.Add length a b = word_add length a b
operate operators.Sub length a b = word_sub length a b
operate operators.Mul length a b = word_mul length a b
operate operators.And length a b = bit_and a b
operate operators.Or length a b = bit_or a b
operate operators.Xor length a b = bit_xor a b
operate operators.Left length a b = word_shl length a b
operate operators.Right length a b = word_shr Unsigned length a b
operate operators.Equal length a b = truth (nat_eq a b)
operate operators.Unequal length a b = truth (not (nat_eq a b))
operate operators.Less length a b = truth (nat_lt a b)
operate operators.LessEqual length a b = truth (not (nat_lt b a))
operate operators.Greater length a b = truth (nat_lt b a)
operate operators.GreaterEqual length a b = truth (not (nat_lt a b))
operate operators.BothTrue length a b = if is_true a then truth (is_true b) else 0
operate operators.OneTrue length a b = if is_true a then 1 else truth (is_true b)

-- a value of a width, many times
abbrev pub repeated : (times width value : ℕ) → ℕ
repeated zero width value = 0
repeated (suc times) width value = value * 2 ^ (times * width) + repeated times width value

abbrev mutual
  -- the value of an expression at a length, which is no less than its own: the length goes down to the operands in context, and
  -- the leaves are extended with zeros [4.4.1, 4.5.2]
  pub v_value : Env → VTree → (length : ℕ) → ℕ
  v_value env (Number width value) length = value
  v_value env (Named name) length = env.look name
  v_value env (Bits name high low) length = env.look name / 2 ^ low % 2 ^ suc (high - low)
  v_value env (Cell name index) length = env.read name (v_value env index (v_width env.widths index))
  v_value env (One Complement a) length = word_not length (v_value env a length)
  v_value env (One Negate a) length = truth (not (is_true (v_value env a (v_width env.widths a))))
  v_value env (Two operator a b) length =
      operate operator length (v_value env a (left_length operator length (v_width env.widths a) (v_width env.widths b))) (v_value env b (right_length operator length (v_width env.widths a) (v_width env.widths b)))
  v_value env (Choose test this other) length = if is_true (v_value env test (v_width env.widths test)) then v_value env this length else v_value env other length
  v_value env (Join parts) length = parts_value env parts
  v_value env (Repeat times a) length = repeated times (v_width env.widths a) (v_value env a (v_width env.widths a))

  -- the first part of a concatenation is its highest [4.1.14]
  pub parts_value : Env → VTrees → ℕ
  parts_value env End = 0
  parts_value env (Then e rest) = v_value env e (v_width env.widths e) * 2 ^ parts_width env.widths rest + parts_value env rest

-- the value at its own length
abbrev pub self_value : Env → VTree → ℕ
self_value env e = v_value env e (v_width env.widths e)

-- what a target of a width takes: the expression at the larger of both lengths, cut to the target [4.4.1, 9.2.2]
abbrev pub assigned : Env → (width : ℕ) → VTree → ℕ
assigned env width e = v_value env e (max width (v_width env.widths e)) % 2 ^ width
