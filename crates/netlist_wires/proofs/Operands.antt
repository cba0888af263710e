-- What a wire of one operator has, from what its operands mean.
use Rattle.std.proofs.Common.{◌≡◌, ℕ, zero, suc, ◌+◌, ◌-◌, ◌*◌, ◌/◌, ◌%◌, ◌^◌, ◌<◌, Bool, true, false, List, refl, sym, ap, ap₂, ◌∙◌, arith, nat_eq, cond, not}
use Rattle.std.specs.Prelude.{max, length, slice_index, slice_set}
use Rattle.std.proofs.lemmas.Bool.{cond_both, eqb-true, eqb-false}
use Rattle.std.proofs.lemmas.List.{get_or-set_same, get_or-set_other}
use Rattle.std.proofs.lemmas.Nat.{mod_below, pow_pos}
use Rattle.std.proofs.Math.Nat.{mod-eq_of_lt, mod-one, max-eq_left}
use Rattle.lisa_words.specs.Words.{word_not}
use Rattle.lisa_words.specs.declared.binary.Operator.TheVariants as operators
use Rattle.verilog_text.specs.Values.{Widths, Env, truth, is_true, operate, left_length, right_length, v_width, v_value, assigned, self_value}
use Rattle.verilog_text.specs.Values as values
use Rattle.step_program.specs.declared.expressions.OneOp.TheVariants.{Not}
use Rattle.step_program.specs.declared.expressions.TwoOp.{TwoOp}
use Rattle.step_program.specs.declared.expressions.TwoOp.TheVariants as ops
use Rattle.step_program.specs.Programs.{Program}
use Rattle.step_program.specs.Effects.{two_width, two_value, chosen}
use Rattle.step_program.specs.WellFormed.{FitsTwo}
use Rattle.step_program.proofs.Fits.{one_below, two_below, chosen_both}
use Rattle.netlist_wires.specs.declared.keys.Flat.{Flat}
use Rattle.netlist_wires.specs.declared.keys.Flat.TheVariants.{Fixed, OfItem, OfPin, OfWire}
use Rattle.netlist_wires.specs.declared.keys.Body.TheVariants.{Lowest, Padded, Inverse, Load, Operate, Select}
use Rattle.netlist_wires.specs.Wiring.{operator_of, named, body_tree, array_name}

pub max_self : (w : ℕ) → max w w ≡ w
max_self w = max-eq_left (omega arith)

max_both : (w f g : ℕ) → f ≡ w → w ≡ g → max w (max f g) ≡ w
max_both w f g a b = ap (max w) (ap₂ max a (sym b) ∙ max_self w) ∙ max_self w

-- an operator at its context's length, where the widths match
pub length_is : (op : TwoOp) (w f g : ℕ) → f ≡ w → FitsTwo op w g → (a b : ℕ) → operate (operator_of op) (max (two_width op w) (values.two_width (operator_of op) f g)) a b ≡ two_value op w a b
length_is ops.Add w f g e m a b = ap (λ (l : ℕ). operate operators.Add l a b) (max_both w f g e m)
length_is ops.Sub w f g e m a b = ap (λ (l : ℕ). operate operators.Sub l a b) (max_both w f g e m)
length_is ops.Mul w f g e m a b = ap (λ (l : ℕ). operate operators.Mul l a b) (max_both w f g e m)
length_is ops.And w f g e m a b = refl
length_is ops.Or w f g e m a b = refl
length_is ops.Xor w f g e m a b = refl
length_is ops.Shl w f g e m a b = ap (λ (l : ℕ). operate operators.Left l a b) (ap (max w) e ∙ max_self w)
length_is ops.Shr w f g e m a b = ap (λ (l : ℕ). operate operators.Right l a b) (ap (max w) e ∙ max_self w)
length_is ops.Equal w f g e m a b = refl
length_is ops.Less w f g e m a b = refl

module _ (p : Program) (env : Env) where
  -- what a flat operand is worth, and how wide it is; no length changes it
  abbrev pub means : Flat → ℕ
  means f = v_value env (named p f) 0

  abbrev pub wide : Flat → ℕ
  wide f = v_width env.widths (named p f)

  pub at_any : (f : Flat) (l : ℕ) → v_value env (named p f) l ≡ means f
  at_any (Fixed w v) l = refl
  at_any (OfItem i) l = refl
  at_any (OfPin i) l = refl
  at_any (OfWire k) l = refl

  -- one operator each
  pub copied : (w : ℕ) (f : Flat) → assigned env w (named p f) ≡ means f % 2 ^ w
  copied w f = ap (λ (x : ℕ). x % 2 ^ w) (at_any f (max w (wide f)))

  bits_done : (w n : ℕ) → n / 2 ^ 0 % 2 ^ suc (w - 1 - 0) % 2 ^ w ≡ n % 2 ^ w
  bits_done zero n = mod-one (n / 2 ^ 0 % 2 ^ suc (0 - 1 - 0)) ∙ sym (mod-one n)
  bits_done (suc w) n =
      ap (λ (a : ℕ). a % 2 ^ suc (suc w - 1 - 0) % 2 ^ suc w) {x = n / 2 ^ 0} {y = n} (omega arith)
      ∙ ap (λ (b : ℕ). n % 2 ^ suc b % 2 ^ suc w) {x = suc w - 1 - 0} {y = w} (omega arith)
      ∙ mod-eq_of_lt (mod_below n (2 ^ suc w) (pow_pos (suc w)))

  pub lowest_done : (w : ℕ) (f : Flat) → assigned env w (body_tree p (Lowest (w - 1) f)) ≡ means f % 2 ^ w
  lowest_done w (Fixed v b) = refl
  lowest_done w (OfItem i) = bits_done w (means (OfItem i))
  lowest_done w (OfPin i) = bits_done w (means (OfPin i))
  lowest_done w (OfWire k) = bits_done w (means (OfWire k))

  pub padded_done : (w count : ℕ) (f : Flat) → assigned env w (body_tree p (Padded count f)) ≡ means f % 2 ^ w
  padded_done w count f = ap (λ (x : ℕ). x % 2 ^ w) {x = 0 * 2 ^ (wide f + 0) + (v_value env (named p f) (wide f) * 2 ^ 0 + 0)} {y = means f} (omega (arith, at_any f (wide f)))

  pub inverted : (w : ℕ) (f : Flat) → wide f ≡ w → assigned env w (body_tree p (Inverse f)) ≡ word_not w (means f)
  inverted w f e =
      ap₂ (λ (l x : ℕ). word_not l x % 2 ^ w) (ap (max w) e ∙ max_self w) (at_any f (max w (wide f)))
      ∙ mod-eq_of_lt (one_below Not w (means f))

  pub two_done : (op : TwoOp) (w : ℕ) (f g : Flat) → wide f ≡ w → FitsTwo op w (wide g) → means f < 2 ^ w → means g < 2 ^ wide g
      → assigned env (two_width op w) (body_tree p (Operate op f g)) ≡ two_value op w (means f) (means g)
  two_done op w f g e m h k =
      let l = max (two_width op w) (values.two_width (operator_of op) (wide f) (wide g)) in
      ap (λ (x : ℕ). x % 2 ^ two_width op w)
      (ap₂ (operate (operator_of op) l) (at_any f (left_length (operator_of op) l (wide f) (wide g))) (at_any g (right_length (operator_of op) l (wide f) (wide g)))
      ∙ length_is op w (wide f) (wide g) e m (means f) (means g))
      ∙ mod-eq_of_lt (two_below op w (wide g) (means f) (means g) h k m)

  -- whether two operands are equal, however wide they are
  pub equal_done : (f g : Flat) → assigned env 1 (body_tree p (Operate ops.Equal f g)) ≡ truth (nat_eq (means f) (means g))
  equal_done f g =
      let l = max (wide f) (wide g) in
      ap (λ (x : ℕ). x % 2 ^ 1) (ap₂ (λ (a b : ℕ). truth (nat_eq a b)) (at_any f l) (at_any g l))
      ∙ mod-eq_of_lt (cond_both (nat_eq (means f) (means g)) 1 0 (λ (x : ℕ). x < 2 ^ 1) (λ _. omega arith) (λ _. omega arith))

  pub load_done : (array w : ℕ) (f : Flat) → assigned env w (body_tree p (Load array f)) ≡ env.read (array_name p array) (means f) % 2 ^ w
  load_done array w f = ap (λ (x : ℕ). env.read (array_name p array) x % 2 ^ w) (at_any f (wide f))

  turned : {X : Type 0} (test : ℕ) (this other : X) → cond (is_true test) this other ≡ chosen test this other
  turned test this other = go (nat_eq test 0)
    where
      go : (b : Bool) → cond (not b) this other ≡ cond b other this
      go true = refl
      go false = refl

  pub select_done : (w : ℕ) (c f g : Flat) → means f < 2 ^ w → means g < 2 ^ w → assigned env w (body_tree p (Select c f g)) ≡ chosen (means c) (means f) (means g)
  select_done w c f g hf hg =
      let l = max w (max (wide f) (wide g)) in
      ap₂ (λ (t : ℕ) (run : ℕ → ℕ). run t % 2 ^ w) (at_any c (wide c)) (ap₂ {C = ℕ → ℕ} (λ (x y t : ℕ). cond (is_true t) x y) (at_any f l) (at_any g l))
      ∙ ap (λ (x : ℕ). x % 2 ^ w) (turned (means c) (means f) (means g))
      ∙ mod-eq_of_lt (chosen_both (means c) (means f) (means g) (λ (x : ℕ). x < 2 ^ w) hf hg)

-- a cell behind one more write: `same` tells whether the write is of this cell
pub picked : (row : List ℕ) (g i j v : ℕ) → i < length row → chosen (truth (nat_eq i j)) (chosen g v (slice_index row j)) (slice_index row j) ≡ slice_index (chosen g (slice_set row i v) row) j
picked row g i j v h =
    chosen_of (nat_eq g 0) refl
  where
    at_other : (b : Bool) → nat_eq i j ≡ b → chosen (truth b) v (slice_index row j) ≡ slice_index (slice_set row i v) j
    at_other true e = sym (ap (slice_index (slice_set row i v)) (sym (eqb-true i j e)) ∙ get_or-set_same row i v 0 h)
    at_other false e = sym (get_or-set_other row i j v 0 (λ k. eqb-false i j e (sym k)))

    both : (t x : ℕ) → chosen t x x ≡ x
    both t x = go (nat_eq t 0)
      where
        go : (b : Bool) → cond b x x ≡ x
        go true = refl
        go false = refl

    chosen_of : (b : Bool) → nat_eq g 0 ≡ b → chosen (truth (nat_eq i j)) (cond b (slice_index row j) v) (slice_index row j) ≡ slice_index (cond b row (slice_set row i v)) j
    chosen_of true e = both (truth (nat_eq i j)) (slice_index row j)
    chosen_of false e = at_other (nat_eq i j) refl
