-- One condition and the rest.
use Rattle.std.proofs.Common.{◌≡◌, ◌∙◌, true, false, Option, None, Some, refl, sym, inl, inr, ⊎_elim}
use Rattle.std.specs.Option.{is_some}
use Rattle.lisa_tree.specs.declared.faults.DescFault.{DescFault}
use Rattle.lisa_machine.specs.Verdicts.{Broken, before}

-- the condition is broken
pub here : (verdict rest : Option DescFault → Type 0) (found : Option DescFault) → verdict found → is_some found ≡ true → before verdict rest found
here verdict rest None v e = absurd (cc e)
here verdict rest (Some fault) v e = inl (record { fault = fault; is = refl; first_fault = v })

-- it isn't
pub past : (verdict rest : Option DescFault → Type 0) (found answer : Option DescFault) → verdict found → is_some found ≡ false → rest answer → before verdict rest answer
past verdict rest None answer v e r = inr (v, r)
past verdict rest (Some fault) answer v e r = absurd (cc e)

-- a verdict is the only one
abbrev pub IsOne : (Option DescFault → Type 0) → Type 0
IsOne verdict = (a b : Option DescFault) → verdict a → verdict b → a ≡ b

none_is_no_some : (f : DescFault) → None ≡ Some f → ⊥
none_is_no_some f e = cc

pub before_is_one : (verdict rest : Option DescFault → Type 0) → IsOne verdict → IsOne rest → IsOne (before verdict rest)
before_is_one verdict rest one others a b x y = ⊎_elim (λ p. ⊎_elim (λ q. both p q) (λ q. absurd (apart p q.0)) y) (λ p. ⊎_elim (λ q. absurd (apart q p.0)) (λ q. others a b p.1 q.1) y) x
  where
    both : Broken verdict a → Broken verdict b → a ≡ b
    both p q = p.is ∙ one (Some p.fault) (Some q.fault) p.first_fault q.first_fault ∙ sym q.is

    apart : {c : Option DescFault} → Broken verdict c → verdict None → ⊥
    apart p none = none_is_no_some p.fault (one None (Some p.fault) none p.first_fault)
