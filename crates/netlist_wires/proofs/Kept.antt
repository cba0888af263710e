-- Operators keep an operand beside the number 0, and shifts by the width or more leave 0.
use Rattle.std.proofs.Common.{◌≡◌, ℕ, ◌^◌, ◌%◌, ◌<◌, ◌≤◌, Bool, true, false, ◌&&◌, refl, sym, ap, ◌∙◌, subst, arith, nat_eq}
use Rattle.std.specs.Int.Bits.{or_zero_l, or_zero_r, xor_zero_l, xor_zero_r}
use Rattle.std.proofs.lemmas.Bool.{eqb-true, leb-true}
use Rattle.std.proofs.lemmas.Nat.{pow_pos}
use Rattle.std.proofs.Math.Nat.{mod-eq_of_lt}
use Rattle.lisa_words.specs.Words.{word_shr}
use Rattle.lisa_words.specs.declared.words.Kind.TheVariants.{Unsigned}
use Rattle.lisa_words.proofs.Reduced.{none_below}
use Rattle.lisa_words.proofs.WordLaws.{shl_far}
use Rattle.verilog_text.specs.Values.{Env}
use Rattle.step_program.specs.declared.expressions.TwoOp.{TwoOp}
use Rattle.step_program.specs.declared.expressions.TwoOp.TheVariants as ops
use Rattle.step_program.specs.Programs.{Program}
use Rattle.step_program.specs.Effects.{two_width, two_value}
use Rattle.step_program.specs.WellFormed.{FitsTwo}
use Rattle.netlist_wires.specs.declared.keys.Flat.{Flat}
use Rattle.netlist_wires.specs.declared.keys.Flat.TheVariants.{Fixed, OfItem, OfPin, OfWire}
use Rattle.netlist_wires.specs.Wiring.{is_zero, keeps_right, keeps_left, reaches, shifts_out}
use Rattle.netlist_wires.proofs.Operands.{means}

pub both_true : {a b : Bool} → (a && b) ≡ true → (a ≡ true) × (b ≡ true)
both_true {a = true} e = (refl, e)
both_true {a = false} e = absurd (cc)

pub zero_means : (p : Program) (env : Env) (f : Flat) → is_zero f ≡ true → means p env f ≡ 0
zero_means p env (Fixed w v) e = eqb-true v 0 e
zero_means p env (OfItem i) e = absurd (cc)
zero_means p env (OfPin i) e = absurd (cc)
zero_means p env (OfWire k) e = absurd (cc)

-- ---- widths

pub right_width : (op : TwoOp) (w v : ℕ) → keeps_right op ≡ true → FitsTwo op w v → v ≡ two_width op w
right_width ops.Add w v e fit = sym fit
right_width ops.Sub w v e fit = absurd (cc)
right_width ops.Mul w v e fit = absurd (cc)
right_width ops.And w v e fit = absurd (cc)
right_width ops.Or w v e fit = sym fit
right_width ops.Xor w v e fit = sym fit
right_width ops.Shl w v e fit = absurd (cc)
right_width ops.Shr w v e fit = absurd (cc)
right_width ops.Equal w v e fit = absurd (cc)
right_width ops.Less w v e fit = absurd (cc)

pub left_width : (op : TwoOp) (w : ℕ) → keeps_left op ≡ true → w ≡ two_width op w
left_width ops.Add w e = refl
left_width ops.Sub w e = refl
left_width ops.Mul w e = absurd (cc)
left_width ops.And w e = absurd (cc)
left_width ops.Or w e = refl
left_width ops.Xor w e = refl
left_width ops.Shl w e = refl
left_width ops.Shr w e = refl
left_width ops.Equal w e = absurd (cc)
left_width ops.Less w e = absurd (cc)

-- ---- values

zero_left : (op : TwoOp) (w v y : ℕ) → keeps_right op ≡ true → FitsTwo op w v → y < 2 ^ v → two_value op w 0 y ≡ y
zero_left ops.Add w v y e fit low = ap (λ (n : ℕ). n % 2 ^ w) (omega arith) ∙ mod-eq_of_lt (subst (λ (n : ℕ). y < 2 ^ n) (sym fit) low)
zero_left ops.Sub w v y e fit low = absurd (cc)
zero_left ops.Mul w v y e fit low = absurd (cc)
zero_left ops.And w v y e fit low = absurd (cc)
zero_left ops.Or w v y e fit low = or_zero_l y
zero_left ops.Xor w v y e fit low = xor_zero_l y
zero_left ops.Shl w v y e fit low = absurd (cc)
zero_left ops.Shr w v y e fit low = absurd (cc)
zero_left ops.Equal w v y e fit low = absurd (cc)
zero_left ops.Less w v y e fit low = absurd (cc)

zero_right : (op : TwoOp) (w x : ℕ) → keeps_left op ≡ true → x < 2 ^ w → two_value op w x 0 ≡ x
zero_right ops.Add w x e low = ap (λ (n : ℕ). n % 2 ^ w) (omega arith) ∙ mod-eq_of_lt low
zero_right ops.Sub w x e low = ap (λ (n : ℕ). n % 2 ^ w) (omega arith) ∙ mod-eq_of_lt low
zero_right ops.Mul w x e low = absurd (cc)
zero_right ops.And w x e low = absurd (cc)
zero_right ops.Or w x e low = or_zero_r x
zero_right ops.Xor w x e low = xor_zero_r x
zero_right ops.Shl w x e low = ap (λ (n : ℕ). n % 2 ^ w) (omega arith) ∙ mod-eq_of_lt low
zero_right ops.Shr w x e low = ap (λ (n : ℕ). n % 2 ^ w) (omega arith) ∙ mod-eq_of_lt low
zero_right ops.Equal w x e low = absurd (cc)
zero_right ops.Less w x e low = absurd (cc)

pub right_value : (op : TwoOp) (w v x y : ℕ) → keeps_right op ≡ true → x ≡ 0 → FitsTwo op w v → y < 2 ^ v → two_value op w x y ≡ y
right_value op w v x y e none fit low = ap (λ (n : ℕ). two_value op w n y) none ∙ zero_left op w v y e fit low

pub left_value : (op : TwoOp) (w x y : ℕ) → keeps_left op ≡ true → y ≡ 0 → x < 2 ^ w → two_value op w x y ≡ x
left_value op w x y e none low = ap (two_value op w x) none ∙ zero_right op w x e low

-- ---- shifts that leave nothing

reaches_means : (p : Program) (env : Env) (w : ℕ) (g : Flat) → reaches w g ≡ true → w ≤ means p env g
reaches_means p env w (Fixed v b) e = leb-true w b e
reaches_means p env w (OfItem i) e = absurd (cc)
reaches_means p env w (OfPin i) e = absurd (cc)
reaches_means p env w (OfWire k) e = absurd (cc)

shr_none : (w a by : ℕ) → a < 2 ^ w → w ≤ by → word_shr Unsigned w a by ≡ 0
shr_none w a by low far = ap (λ (k : ℕ). k % 2 ^ w) (none_below w a by far low) ∙ mod-eq_of_lt (pow_pos w)

pub out_value : (p : Program) (env : Env) (op : TwoOp) (w x : ℕ) (g : Flat) → shifts_out op (two_width op w) g ≡ true → x < 2 ^ w → two_value op w x (means p env g) ≡ 0
out_value p env ops.Add w x g e low = absurd (cc)
out_value p env ops.Sub w x g e low = absurd (cc)
out_value p env ops.Mul w x g e low = absurd (cc)
out_value p env ops.And w x g e low = absurd (cc)
out_value p env ops.Or w x g e low = absurd (cc)
out_value p env ops.Xor w x g e low = absurd (cc)
out_value p env ops.Shl w x g e low = shl_far w x (means p env g) (reaches_means p env w g e)
out_value p env ops.Shr w x g e low = shr_none w x (means p env g) low (reaches_means p env w g e)
out_value p env ops.Equal w x g e low = absurd (cc)
out_value p env ops.Less w x g e low = absurd (cc)
