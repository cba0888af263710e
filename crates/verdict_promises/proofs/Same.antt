-- Faults that are the same.
use Rattle.std.proofs.Common.{◌≡◌, Option, None, Some, refl, sym, subst, ⊎_elim}
use Rattle.std.proofs.lemmas.Option.{same_Some}
use Rattle.lisa_tree.specs.declared.faults.DescFault.{DescFault}
use Rattle.lisa_tree.specs.declared.faults.DescFault.TheVariants as faults
use Rattle.lisa_reader.specs.Answers.{IsSameFault}
use Rattle.lisa_machine.specs.Verdicts.{Broken, before, nothing}
use Rattle.verdict_promises.specs.Firsts.{IsSameFirst}

own : (f : DescFault) → IsSameFirst f f
own (faults.Ambiguous first second text) = (refl, refl)
own (faults.NotADescription at) = tt
own _ = refl

pub same : (f g : DescFault) → f ≡ g → IsSameFirst f g
same f g e = subst (IsSameFirst f) e (own f)

-- bytes that spell no description have no two forms
pub unread_same : (f g : DescFault) → IsSameFault f g → IsSameFirst f g
unread_same (faults.Ambiguous first second text) g s = same (faults.Ambiguous first second text) g s
unread_same _ g s = s

-- ---- verdicts

pub none_is_no_some : (f : DescFault) → None ≡ Some f → ⊥
none_is_no_some f e = cc

-- what a condition's faults are is the same fault
abbrev pub IsAlike : (Option DescFault → Type 0) → Type 0
IsAlike verdict = (f g : DescFault) → verdict (Some f) → verdict (Some g) → IsSameFirst f g

-- a condition isn't both broken and kept
abbrev pub Decides : (Option DescFault → Type 0) → Type 0
Decides verdict = (f : DescFault) → verdict None → verdict (Some f) → ⊥

pub nothing_alike : IsAlike nothing
nothing_alike f g x y = absurd (none_is_no_some f (sym x))

pub before_alike : (verdict rest : Option DescFault → Type 0) → Decides verdict → IsAlike verdict → IsAlike rest → IsAlike (before verdict rest)
before_alike verdict rest decides alike others f g x y =
    ⊎_elim (λ p. ⊎_elim (λ q. both p q) (λ q. absurd (decides p.fault q.0 p.first_fault)) y) (λ p. ⊎_elim (λ q. absurd (decides q.fault p.0 q.first_fault)) (λ q. others f g p.1 q.1) y) x
  where
    both : Broken verdict (Some f) → Broken verdict (Some g) → IsSameFirst f g
    both p q =
        let first : IsSameFirst p.fault q.fault = alike p.fault q.fault p.first_fault q.first_fault in
        subst (λ (h : DescFault). IsSameFirst h g) (sym (same_Some f p.fault p.is)) (subst (IsSameFirst p.fault) (sym (same_Some g q.fault q.is)) first)

pub nothing_decides : Decides nothing
nothing_decides f kept broken = none_is_no_some f (sym broken)

pub before_decides : (verdict rest : Option DescFault → Type 0) → Decides verdict → Decides rest → Decides (before verdict rest)
before_decides verdict rest one others f kept broken =
    ⊎_elim (λ p. none_is_no_some p.fault p.is) (λ p. ⊎_elim (λ q. one q.fault p.0 q.first_fault) (λ q. others f p.1 q.1) broken) kept
