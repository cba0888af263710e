-- Each template has the value that is defined.
use Rattle.std.proofs.Common.{◌≡◌, ℕ, ◌+◌, ◌-◌, ◌/◌, ◌%◌, ◌^◌, ◌<◌, ◌≤◌, Bool, true, false, List, refl, sym, ap, ap₂, ◌∙◌, ⊎_elim, subst, arith, nat_eq, nat_lt, cond}
use Rattle.std.specs.Prelude.{pos, negsuc, ◌+ℤ◌, ◌-ℤ◌}
use Rattle.std.specs.Int.{int_div_euclid}
use Rattle.std.proofs.lemmas.Bool.{cases_lt, eqb-true, eqb-false, lt-ltb, le-ltb}
use Rattle.std.proofs.lemmas.Bool.Decides.{nat_tests}
use Rattle.std.proofs.lemmas.Nat.{shr_le}
use Rattle.std.proofs.Math.Nat.{mod-eq_of_lt, pow-le-pow_right}
use Rattle.lisa_words.specs.declared.words.Kind.{Kind}
use Rattle.lisa_words.specs.declared.words.Kind.TheVariants.{Unsigned, Signed}
use Rattle.lisa_words.specs.Words.{reduced, meant, word_cut, word_widen, word_not, word_shr, word_less}
use Rattle.lisa_words.proofs.WordLaws.{reduced-lt, reduced-meant, low_half, high_half}
use Rattle.lisa_words.proofs.Reduced.{moved_down as not_moved}
use Rattle.step_program.specs.declared.expressions.OneOp.TheVariants.{Not, Cut, Widen}
use Rattle.step_program.specs.declared.expressions.TwoOp.TheVariants as ops
use Rattle.step_program.specs.Programs.{Program, Expr, Const, One, Two, Choose}
use Rattle.step_program.specs.Effects.{Moment, width, value, chosen}
use Rattle.typed_values.specs.Words.{TypedWord, fitted as fitted_bits}
use Rattle.lowered_values.specs.Operands.{Operand, StandsFor}
use Rattle.lowered_values.specs.Templates.{half, widened, fitted, is_zero, picked, less, moved_down}
use Rattle.lowered_values.proofs.Signed.{widens, compares}

module _ (p : Program) (before pins : List ℕ) (now : Moment) where
  abbrev val : Expr → ℕ
  val e = value p before pins now e

  -- ---- widths

  widened_value : (kind : Kind) (w to a : ℕ) (e : Expr) → 1 ≤ w → w ≤ to → width p e ≡ w → val e ≡ a → a < 2 ^ w → val (widened kind w to e) ≡ word_widen kind w a to
  widened_value Unsigned w to a e some wider at is low = ap (λ (n : ℕ). n % 2 ^ to) is
  widened_value Signed w to a e some wider at is low =
      let m = 2 ^ (w - 1) in
      let grows : 2 ^ w ≤ 2 ^ to = pow-le-pow_right {n = 2} (omega arith) wider in
      let below : (a + m) % 2 ^ w < 2 ^ w = reduced-lt (pos (a + m)) w in
      let small : (a + m) % 2 ^ w < 2 ^ to = omega (arith, grows, below) in
      ap₂ (λ (u n : ℕ). reduced (pos ((n + m) % 2 ^ u % 2 ^ to) -ℤ pos m) to) at is
      ∙ ap (λ (n : ℕ). reduced (pos n -ℤ pos m) to) (mod-eq_of_lt small)
      ∙ widens w to a some low

  widened_width : (kind : Kind) (w to : ℕ) (e : Expr) → width p (widened kind w to e) ≡ to
  widened_width Unsigned w to e = refl
  widened_width Signed w to e = refl

  pub fitted_value : (x : Operand) (v : TypedWord) (to : ℕ) → StandsFor p before pins now x v → val (fitted x to) ≡ fitted_bits v to
  fitted_value x v to h = subst (λ (w : ℕ). val (cond (nat_eq to w) x.at (cond (nat_lt to w) (One (Cut to) x.at) (widened x.kind w to x.at))) ≡ fitted_bits v to) (sym h.width)
      (subst (λ (k : Kind). val (cond (nat_eq to v.width) x.at (cond (nat_lt to v.width) (One (Cut to) x.at) (widened k v.width to x.at))) ≡ fitted_bits v to) (sym h.kind)
      (go (nat_eq to v.width) (nat_lt to v.width) refl refl))
    where
      go : (same narrow : Bool) → nat_eq to v.width ≡ same → nat_lt to v.width ≡ narrow
          → val (cond same x.at (cond narrow (One (Cut to) x.at) (widened v.kind v.width to x.at))) ≡ cond narrow (word_cut to v.bits) (word_widen v.kind v.width v.bits to)
      go true true e f = let is : to ≡ v.width = eqb-true to v.width e in absurd (bad is f)
        where
          bad : to ≡ v.width → nat_lt to v.width ≡ true → ⊥
          bad is f = let g : nat_lt to v.width ≡ false = le-ltb to v.width (omega (arith, is)) in cc
      go true false e f =
          let is : to ≡ v.width = eqb-true to v.width e in
          h.bits ∙ sym (ap (λ (w : ℕ). word_widen v.kind v.width v.bits w) is ∙ reduced-meant v.kind v.width v.bits h.fits.within)
      go false true e f = ap (word_cut to) h.bits
      go false false e f =
          let wider : v.width ≤ to = ⊎_elim (λ l. absurd (less_not l f)) (λ ge. ge) (cases_lt to v.width) in
          widened_value v.kind v.width to v.bits x.at h.fits.least wider h.wide h.bits h.fits.within
        where
          less_not : to < v.width → nat_lt to v.width ≡ false → ⊥
          less_not l f = let g : nat_lt to v.width ≡ true = lt-ltb to v.width l in cc

  pub fitted_width : (x : Operand) (v : TypedWord) (to : ℕ) → StandsFor p before pins now x v → width p (fitted x to) ≡ to
  fitted_width x v to h = go (nat_eq to x.width) (nat_lt to x.width) refl
    where
      go : (same narrow : Bool) → nat_eq to x.width ≡ same → width p (cond same x.at (cond narrow (One (Cut to) x.at) (widened x.kind x.width to x.at))) ≡ to
      go true narrow e = h.wide ∙ sym h.width ∙ sym (eqb-true to x.width e)
      go false true e = refl
      go false false e = widened_width x.kind x.width to x.at

  -- ---- tests

  pub picked_value : (x : Operand) (v : TypedWord) (this other : Expr) → StandsFor p before pins now x v → val (picked x this other) ≡ cond (nat_eq v.bits 0) (val other) (val this)
  picked_value x v this other h = go (nat_eq x.width 1)
    where
      inner : (b : Bool) → chosen (cond b 1 0) (val other) (val this) ≡ cond b (val other) (val this)
      inner true = refl
      inner false = refl

      go : (b : Bool) → val (cond b (Choose x.at this other) (Choose (is_zero x) other this)) ≡ cond (nat_eq v.bits 0) (val other) (val this)
      go true = ap (λ (n : ℕ). cond (nat_eq n 0) (val other) (val this)) h.bits
      go false = ap (λ (n : ℕ). chosen (cond (nat_eq n 0) 1 0) (val other) (val this)) h.bits ∙ inner (nat_eq v.bits 0)

  pub less_value : (kind : Kind) (w : ℕ) (x y : Expr) → 1 ≤ w → width p x ≡ w → width p y ≡ w → val x < 2 ^ w → val y < 2 ^ w → val (less kind w x y) ≡ cond (word_less kind w (val x) (val y)) 1 0
  less_value Unsigned w x y some at_x at_y low_x low_y = refl
  less_value Signed w x y some at_x at_y low_x low_y =
      let m = 2 ^ (w - 1) in
      ap₂ (λ (u v : ℕ). cond (nat_lt ((val x + m) % 2 ^ u) ((val y + m) % 2 ^ v)) 1 0) at_x at_y
      ∙ ap (λ (b : Bool). cond b 1 0) (compares w (val x) (val y) some low_x low_y)

  -- ---- shifts

  pub moved_value : (kind : Kind) (w : ℕ) (x by : Expr) → 1 ≤ w → width p x ≡ w → val x < 2 ^ w → val (moved_down kind w x by) ≡ word_shr kind w (val x) (val by)
  moved_value Unsigned w x by some at low = ap (λ (u : ℕ). word_shr Unsigned u (val x) (val by)) at
  moved_value Signed w x by some at low = ⊎_elim below above (cases_lt (val x) (2 ^ (w - 1)))
    where
      tested : (b : Bool) → nat_lt (val x) (2 ^ (w - 1)) ≡ b
          → val (moved_down Signed w x by) ≡ chosen (cond b 1 0) (word_shr Unsigned (width p x) (val x) (val by)) (word_not (width p x) (word_shr Unsigned (width p x) (word_not (width p x) (val x)) (val by)))
      tested b e = ap (λ (b : Bool). chosen (cond b 1 0) (word_shr Unsigned (width p x) (val x) (val by)) (word_not (width p x) (word_shr Unsigned (width p x) (word_not (width p x) (val x)) (val by)))) e

      below : val x < 2 ^ (w - 1) → val (moved_down Signed w x by) ≡ word_shr Signed w (val x) (val by)
      below l =
          tested true (lt-ltb (val x) (2 ^ (w - 1)) l) ∙ ap (λ (u : ℕ). word_shr Unsigned u (val x) (val by)) at
          ∙ sym (ap (λ z. reduced (int_div_euclid z (pos (2 ^ val by))) w) (low_half w (val x) l))

      above : 2 ^ (w - 1) ≤ val x → val (moved_down Signed w x by) ≡ word_shr Signed w (val x) (val by)
      above ge =
          let turned = word_not w (val x) in
          let fits : turned / 2 ^ val by < 2 ^ w = omega (arith, shr_le turned (val by), reduced-lt (negsuc (val x)) w) in
          tested false (le-ltb (val x) (2 ^ (w - 1)) ge)
          ∙ ap (λ (u : ℕ). word_not u (word_shr Unsigned u (word_not u (val x)) (val by))) at
          ∙ not_moved w (val x) (val by) turned (turned / 2 ^ val by % 2 ^ w) (meant Signed w (val x)) low refl (mod-eq_of_lt fits) (high_half w (val x) ge low)
