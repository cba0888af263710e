-- The digits that are written are the number's numeral.
use Rattle.std.proofs.Common.{◌≡◌, ℕ, zero, suc, ◌*◌, ◌/◌, ◌%◌, ◌^◌, ◌<◌, ◌≤◌, Bool, true, false, cond, List, [], ◌∷◌, ◌++◌, map, refl, sym, ap, ◌∙◌, subst, arith, inl, inr, ◌⊎◌, append_assoc}
use Rattle.std.specs.Fmt.{digits, digits_onto}
use Rattle.std.specs.Int.Digits.{digits_of}
use Rattle.std.proofs.lemmas.Int.Digits.{digits_of_step}
use Rattle.std.proofs.lemmas.List.{map-append, append-nil}
use Rattle.std.proofs.lemmas.Bool.{cases_eq, eq-eqb, ne_eqb}
use Rattle.std.proofs.Math.Nat.{pow-zero, pow-suc}
use Rattle.instruction_texts.specs.Runs.{base_of}
use Rattle.instruction_texts.specs.Written.{char_of, numeral}

two : (hex : Bool) → 2 ≤ base_of hex
two true = omega arith
two false = omega arith

smaller : (hex : Bool) (n q : ℕ) → n < q * base_of hex → n / base_of hex < q
smaller true n q h = omega arith
smaller false n q h = omega arith

onto : (hex : Bool) (k n : ℕ) (acc : List ℕ) → 0 < n → n < base_of hex ^ k → digits_onto k (base_of hex) false n acc ≡ map char_of (digits_of (base_of hex) n) ++ acc
onto hex zero n acc some h = let e : base_of hex ^ 0 ≡ 1 = pow-zero (base_of hex) in absurd (omega arith)
onto hex (suc k) n acc some h = go (cases_eq (n / base_of hex) 0) (λ x y. onto hex k (n / base_of hex) (char_of (n % base_of hex) ∷ acc) x y) where
  last : digits_of (base_of hex) n ≡ digits_of (base_of hex) (n / base_of hex) ++ (n % base_of hex ∷ [])
  last = digits_of_step (base_of hex) n (two hex) some

  whole : map char_of (digits_of (base_of hex) n) ++ acc ≡ map char_of (digits_of (base_of hex) (n / base_of hex)) ++ (char_of (n % base_of hex) ∷ acc)
  whole = ap (λ (l : List ℕ). map char_of l ++ acc) last ∙ ap (λ (l : List ℕ). l ++ acc) (map-append char_of (digits_of (base_of hex) (n / base_of hex)) (n % base_of hex ∷ []))
      ∙ append_assoc (map char_of (digits_of (base_of hex) (n / base_of hex))) (char_of (n % base_of hex) ∷ []) acc

  go : (n / base_of hex ≡ 0) ⊎ (n / base_of hex ≡ 0 → ⊥)
      → (0 < n / base_of hex → n / base_of hex < base_of hex ^ k → digits_onto k (base_of hex) false (n / base_of hex) (char_of (n % base_of hex) ∷ acc) ≡ map char_of (digits_of (base_of hex) (n / base_of hex)) ++ (char_of (n % base_of hex) ∷ acc))
      → digits_onto (suc k) (base_of hex) false n acc ≡ map char_of (digits_of (base_of hex) n) ++ acc
  go (inl e) below =
      ap (λ (c : Bool). cond c (char_of (n % base_of hex) ∷ acc) (digits_onto k (base_of hex) false (n / base_of hex) (char_of (n % base_of hex) ∷ acc))) (eq-eqb (n / base_of hex) 0 e)
      ∙ ap (λ (m : ℕ). map char_of (digits_of (base_of hex) m) ++ (char_of (n % base_of hex) ∷ acc)) (sym e) ∙ sym whole
  go (inr ne) below =
      let p : base_of hex ^ suc k ≡ base_of hex ^ k * base_of hex = pow-suc (base_of hex) k in
      let small : n / base_of hex < base_of hex ^ k = smaller hex n (base_of hex ^ k) (subst (λ (m : ℕ). n < m) p h) in
      ap (λ (c : Bool). cond c (char_of (n % base_of hex) ∷ acc) (digits_onto k (base_of hex) false (n / base_of hex) (char_of (n % base_of hex) ∷ acc))) (ne_eqb (n / base_of hex) 0 ne)
      ∙ below (omega arith) small ∙ sym whole

few : (hex : Bool) (v : ℕ) → v < 2 ^ 64 → v < base_of hex ^ 64
few true v h = omega arith
few false v h = omega arith

zero_text : (hex : Bool) → digits (base_of hex) false 0 ≡ 48 ∷ []
unfolding digits
zero_text true = refl
zero_text false = refl

some_text : (hex : Bool) (v : ℕ) → 0 < v → v < 2 ^ 64 → digits (base_of hex) false v ≡ map char_of (digits_of (base_of hex) v) ++ []
unfolding digits
some_text hex v some h = onto hex 64 v [] some (few hex v h)

pub written_digits : (hex : Bool) (v : ℕ) → v < 2 ^ 64 → digits (base_of hex) false v ≡ numeral (base_of hex) v
written_digits hex v h = go (cases_eq v 0) where
  go : (v ≡ 0) ⊎ (v ≡ 0 → ⊥) → digits (base_of hex) false v ≡ numeral (base_of hex) v
  go (inl e) = subst (λ (k : ℕ). digits (base_of hex) false k ≡ numeral (base_of hex) k) (sym e) (zero_text hex)
  go (inr ne) =
      some_text hex v (omega arith) h ∙ append-nil (map char_of (digits_of (base_of hex) v))
      ∙ ap (λ (c : Bool). cond c (48 ∷ []) (map char_of (digits_of (base_of hex) v))) (sym (ne_eqb v 0 ne))
