-- One condition and the rest.
use Rattle.std.proofs.Common.{◌≡◌, ◌⊎◌, Option, None, Some, Result, Ok, Err, IfOk, IfErr, refl, inl, inr, ⊎_elim}
use Rattle.lisa_tree.specs.declared.faults.DescFault.{DescFault}
use Rattle.lisa_tree.specs.declared.faults.DescFault.TheVariants as faults
use Rattle.form_promises.specs.lisa_machine.Verdicts.{before}

-- the condition is broken
pub here : (verdict rest : Option DescFault → Type 0) (f : DescFault) → verdict (Some f) → before verdict rest (Some f)
here verdict rest f v = inl (record { fault = f; is = refl; first_fault = v })

-- it isn't
pub past : (verdict rest : Option DescFault → Type 0) (found : Option DescFault) → verdict None → rest found → before verdict rest found
past verdict rest found v r = inr (v, r)

abbrev pub Refusal : (Option DescFault → Type 0) → DescFault → Type 0
Refusal verdict f = (f ≡ faults.NoMemory) ⊎ verdict (Some f)

pub refused_here : (verdict rest : Option DescFault → Type 0) (f : DescFault) → Refusal verdict f → Refusal (before verdict rest) f
refused_here verdict rest f h = ⊎_elim (λ p. inl p) (λ v. inr (here verdict rest f v)) h

pub refused_past : (verdict rest : Option DescFault → Type 0) (f : DescFault) → verdict None → Refusal rest f → Refusal (before verdict rest) f
refused_past verdict rest f v h = ⊎_elim (λ p. inl p) (λ r. inr (past verdict rest (Some f) v r)) h

pub err_past : {X : Type 0} (verdict rest : Option DescFault → Type 0) (result : Result X DescFault) → verdict None → IfErr result (Refusal rest) → IfErr result (Refusal (before verdict rest))
err_past verdict rest (Ok x) v h = h
err_past verdict rest (Err f) v h = refused_past verdict rest f v h

pub ok_past : {X : Type 0} (verdict rest : Option DescFault → Type 0) (result : Result X DescFault) → verdict None → IfOk result (λ _. rest None) → IfOk result (λ _. before verdict rest None)
ok_past verdict rest (Ok x) v h = past verdict rest None v h
ok_past verdict rest (Err f) v h = h
