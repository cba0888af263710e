-- The names that an expression reads, computed one after the other, all have their values behind the last one.
use Rattle.std.proofs.Common.{◌≡◌, ◌⊎◌, ◌≤◌, ◌++◌, ◌∙◌, ℕ, Bool, true, false, cond, List, [], ◌∷◌, Some, refl, sym, ap, subst, arith, inl, inr, ⊎_elim}
use Rattle.std.specs.Map.{lookup}
use Rattle.std.specs.Cmp.Lexicographic.{nat_list_eq_equiv, same_text}
use Rattle.lisa_tree.specs.Same.{same_name}
use Rattle.step_program.specs.Programs.{Program}
use Rattle.step_program.specs.Effects.{Moment}
use Rattle.typed_values.specs.Words.{TypedWord}
use Rattle.step_pieces.specs.Pieces.{Piece, behind, top}
use Rattle.step_pieces.specs.Running.{ran, Rests}
use Rattle.step_pieces.specs.Formed.{Lies}
use Rattle.step_pieces.proofs.Rested.{ran_append}
use Rattle.step_pieces.proofs.Laid.{lies_left, lies_right}
use Rattle.lowered_values.specs.Operands.{Operand, StandsFor, IsOperand}
use Rattle.lowered_values.specs.Computed.{Computed}
use Rattle.lowered_values.proofs.Lowering.{Scratch, top_low, top_behind, rested, stands_on, operand_up}
use Rattle.lowered_behaviors.specs.Values.{Prepared, prepared, operand_or}
use Rattle.lowered_behaviors.proofs.Scratch.{prepared_scratch}

-- ---- names in a list

abbrev pub Among : List ℕ → List (List ℕ) → Type 0
Among n [] = ⊥
Among n (m ∷ rest) = (n ≡ m) ⊎ Among n rest

pub among_first : (n : List ℕ) (xs ys : List (List ℕ)) → Among n xs → Among n (xs ++ ys)
among_first n [] ys h = absurd h
among_first n (x ∷ xs) ys h = ⊎_elim (λ same. inl same) (λ more. inr (among_first n xs ys more)) h

pub among_second : (n : List ℕ) (xs ys : List (List ℕ)) → Among n ys → Among n (xs ++ ys)
among_second n [] ys h = h
among_second n (x ∷ xs) ys h = inr (among_second n xs ys h)

-- ---- one after the other

abbrev pub out_of : List ℕ → Prepared → Operand
out_of n x = operand_or (lookup (same_name n) x.known)

module _ (one : ℕ → List ℕ → Computed) (P : List ℕ → ℕ → Operand → Type 0) (Q : List ℕ → Type 0) where
  -- what is asked of each name is asked of all
  pub each_formed : (temps : List ℕ) (lasts : ℕ) (up : (n : List ℕ) (from to : ℕ) (x : Operand) → from ≤ to → P n from x → P n to x)
      → ((n : List ℕ) (from : ℕ) → Q n → lasts ≤ from → Lies temps from (one from n).piece.widths → P n (top from (one from n).piece) (one from n).out)
      → (names : List (List ℕ)) (from : ℕ) → lasts ≤ from → Lies temps from (prepared one from names).piece.widths → (n : List ℕ) → Among n names → Q n
      → P n (top from (prepared one from names).piece) (out_of n (prepared one from names))
  each_formed temps lasts up each [] from le lies n among q = absurd among
  each_formed temps lasts up each (m ∷ rest) from le lies n among q =
      by (same_name n m) refl
      (λ more. each_formed temps lasts up each rest (top from (one from m).piece) (omega (arith, le)) (lies_right temps from (one from m).piece.widths (prepared one (top from (one from m).piece) rest).piece.widths lies) n more q)
    where
      x : Computed
      x = one from m

      y : Prepared
      y = prepared one (top from x.piece) rest

      by : (b : Bool) → same_name n m ≡ b → (Among n rest → P n (top (top from x.piece) y.piece) (out_of n y)) → P n (top from (behind x.piece y.piece)) (operand_or (cond b (Some x.out) (lookup (same_name n) y.known)))
      by true e later =
          let same : n ≡ m = same_text n m (sym e) in
          let own : P m (top from x.piece) x.out = each m from (subst Q same q) le (lies_left temps from x.piece.widths y.piece.widths lies) in
          let top_is = top_behind from x.piece y.piece in
          up n (top from x.piece) (top from (behind x.piece y.piece)) x.out (let t = top_low (top from x.piece) y.piece in omega (arith, t, top_is)) (subst (λ (k : List ℕ). P k (top from x.piece) x.out) (sym same) own)
      by false e later =
          let more : Among n rest = ⊎_elim (λ same. absurd (not_same same)) (λ h. h) among in
          subst (λ (k : ℕ). P n k (out_of n y)) (top_behind from x.piece y.piece) (later more)
        where
          not_same : n ≡ m → ⊥
          not_same same = let own : same_name n m ≡ true = ap (same_name n) (sym same) ∙ nat_list_eq_equiv.refl n in absurd (cc (sym own ∙ e))

module _ (p : Program) (before pins : List ℕ) (one : ℕ → List ℕ → Computed) (scratch : (from : ℕ) (n : List ℕ) → Scratch from (one from n).piece) (lasts : ℕ) (Good : Moment → Type 0)
    (lasting : (from : ℕ) (a b : Moment) → lasts ≤ from → Rests from a b → Good a → Good b) (Q : List ℕ → Type 0) (v : List ℕ → TypedWord)
    (each : (n : List ℕ) (from : ℕ) (now : Moment) → Q n → lasts ≤ from → Lies p.temps from (one from n).piece.widths → Good now
    → IsOperand p (top from (one from n).piece) (one from n).out × StandsFor p before pins (ran p before pins now (one from n).piece.moves) (one from n).out (v n)) where
  abbrev run : Moment → Piece → Moment
  run now a = ran p before pins now a.moves

  pub all_prepared : (names : List (List ℕ)) (from : ℕ) (now : Moment) → lasts ≤ from → Lies p.temps from (prepared one from names).piece.widths → Good now → (n : List ℕ) → Among n names → Q n
      → IsOperand p (top from (prepared one from names).piece) (out_of n (prepared one from names))
      × StandsFor p before pins (run now (prepared one from names).piece) (out_of n (prepared one from names)) (v n)
  all_prepared [] from now le lies good n among q = absurd among
  all_prepared (m ∷ rest) from now le lies good n among q =
      by (same_name n m) refl
      (λ more. all_prepared rest (top from (one from m).piece) (run now (one from m).piece) (omega (arith, le)) (lies_right p.temps from (one from m).piece.widths (prepared one (top from (one from m).piece) rest).piece.widths lies)
      (lasting from now (run now (one from m).piece) le (rested p before pins from (one from m).piece now (scratch from m)) good) n more q)
    where
      x : Computed
      x = one from m

      y : Prepared
      y = prepared one (top from x.piece) rest

      mid : Moment
      mid = run now x.piece

      end : Moment
      end = run now (behind x.piece y.piece)

      end_is : end ≡ run mid y.piece
      end_is = ran_append p before pins now x.piece.moves y.piece.moves

      by : (b : Bool) → same_name n m ≡ b → (Among n rest → IsOperand p (top (top from x.piece) y.piece) (out_of n y) × StandsFor p before pins (run mid y.piece) (out_of n y) (v n))
          → IsOperand p (top from (behind x.piece y.piece)) (operand_or (cond b (Some x.out) (lookup (same_name n) y.known)))
          × StandsFor p before pins end (operand_or (cond b (Some x.out) (lookup (same_name n) y.known))) (v n)
      by true e later =
          let same : n ≡ m = same_text n m (sym e) in
          let own = each m from now (subst Q same q) le (lies_left p.temps from x.piece.widths y.piece.widths lies) good in
          let top_is = top_behind from x.piece y.piece in
          let r = rested p before pins (top from x.piece) y.piece mid (prepared_scratch one scratch (top from x.piece) rest) in (
            operand_up p (top from x.piece) (top from (behind x.piece y.piece)) x.out (let t = top_low (top from x.piece) y.piece in omega (arith, t, top_is)) own.0,
            subst (λ (m : Moment). StandsFor p before pins m x.out (v n)) (sym end_is)
                (stands_on p before pins (top from x.piece) x.out (v n) mid (run mid y.piece) own.0.low r (subst (λ (k : List ℕ). StandsFor p before pins mid x.out (v k)) (sym same) own.1)),
          )
      by false e later =
          let more : Among n rest = ⊎_elim (λ same. absurd (not_same same)) (λ h. h) among in
          let h = later more in (
            subst (λ (k : ℕ). IsOperand p k (out_of n y)) (top_behind from x.piece y.piece) h.0,
            subst (λ (m : Moment). StandsFor p before pins m (out_of n y) (v n)) (sym end_is) h.1,
          )
        where
          not_same : n ≡ m → ⊥
          not_same same = let own : same_name n m ≡ true = ap (same_name n) (sym same) ∙ nat_list_eq_equiv.refl n in absurd (cc (sym own ∙ e))
