-- Prefixes, and what stands behind them.
use Rattle.std.proofs.Common.{◌≡◌, ℕ, Bool, true, false, cond, List, [], ◌∷◌, ◌++◌, length, take, drop, Option, Some, None, refl, sym, ap, ◌∙◌, arith, nat_eq, inl, inr, ◌⊎◌}
use Rattle.std.specs.Cmp.Lexicographic.{pointwise}
use Rattle.std.proofs.lemmas.Bool.{and_parts, eqb-true, eq-eqb, ne_eqb, cases_eq}
use Rattle.instruction_texts.specs.declared.shapes.Ending.TheVariants.{Plain, Number}
use Rattle.std.specs.Prelude.{is_some}
use Rattle.instruction_texts.specs.Shapes.{lead, zero_x}
use Rattle.instruction_texts.specs.Leads.{number_of, number_behind}
use Rattle.instruction_texts.specs.Runs.{base_of, value, strip, ends, ends_some, accepts}

pub stripped : (p text : List ℕ) → pointwise nat_eq (take (length p) text) p ≡ true → strip p text ≡ Some (drop (length p) text)
stripped [] text h = refl
stripped (c ∷ p) [] h = absurd cc
stripped (c ∷ p) (d ∷ text) h =
    let t = and_parts (nat_eq d c) (pointwise nat_eq (take (length p) text) p) h in
    rw (eq-eqb c d (sym (eqb-true d c t.0))) (stripped p text t.1)

pub unstripped : (p text : List ℕ) → pointwise nat_eq (take (length p) text) p ≡ false → strip p text ≡ None
unstripped [] text h = absurd cc
unstripped (c ∷ p) [] h = refl
unstripped (c ∷ p) (d ∷ text) h = go (cases_eq c d) (λ k. unstripped p text k) where
  go : (c ≡ d) ⊎ (c ≡ d → ⊥) → (pointwise nat_eq (take (length p) text) p ≡ false → strip p text ≡ None) → cond (nat_eq c d) (strip p text) None ≡ None
  go (inl e) below = rw (eq-eqb c d e) (below (rw (eq-eqb d c (sym e)) at h))
  go (inr ne) below = rw (ne_eqb c d ne) refl

pub empty_is : (cs : List ℕ) → nat_eq (length cs) 0 ≡ ends Plain cs
empty_is [] = refl
empty_is (c ∷ cs) = ne_eqb (length (c ∷ cs)) 0 (λ e. omega arith)

either : (b : Bool) (v : ℕ) → is_some (cond b (Some v) None) ≡ b
either true v = refl
either false v = refl

abbrev then_strip : List ℕ → Option (List ℕ) → Option (List ℕ)
then_strip q None = None
then_strip q (Some cs) = strip q cs

-- one prefix behind another
pub strip_twice : (p q text : List ℕ) → strip (p ++ q) text ≡ then_strip q (strip p text)
strip_twice [] q text = refl
strip_twice (c ∷ p) q [] = refl
strip_twice (c ∷ p) q (d ∷ text) = go (nat_eq c d) (strip_twice p q text) where
  go : (b : Bool) → strip (p ++ q) text ≡ then_strip q (strip p text) → cond b (strip (p ++ q) text) None ≡ then_strip q (cond b (strip p text) None)
  go true below = below
  go false below = refl

pub behind_none : (hex : Bool) (p text : List ℕ) → None ≡ strip p text → None ≡ strip (lead hex p) text
behind_none false p text e = e
behind_none true p text e = ap (then_strip zero_x) e ∙ sym (strip_twice p zero_x text)

pub behind_hex : (hex : Bool) (p text rest : List ℕ) → hex ≡ true → Some rest ≡ strip p text → strip zero_x rest ≡ strip (lead hex p) text
behind_hex true p text rest h e = ap (then_strip zero_x) e ∙ sym (strip_twice p zero_x text)
behind_hex false p text rest h e = absurd cc

-- a number that stands behind a prefix is what ends a run that is accepted
pub accepts_number : (hex positive : Bool) (high : ℕ) (p text : List ℕ) → is_some (number_behind hex positive high p text) ≡ accepts (lead hex p) (Number hex positive high) text
accepts_number hex positive high p text = go (strip (lead hex p) text) where
  go : (o : Option (List ℕ)) → is_some (number_of hex positive high o) ≡ ends_some (Number hex positive high) o
  go None = refl
  go (Some cs) = either (ends (Number hex positive high) cs) (value (base_of hex) cs)
