-- The three ends of a step that looks for something.
use Rattle.std.proofs.Common.{◌≡◌, refl, subst, Ok, Err}
use Rattle.lisa_outcomes.specs.declared.status.End.TheVariants as ends
use Rattle.lisa_outcomes.specs.declared.status.Refusal.{Refusal}
use Rattle.lisa_outcomes.specs.Refusals.{IsRefusal}
use Rattle.lisa_outcomes.specs.Stages.{Finds}
use Rattle.lisa_outcomes.proofs.Told.{err_is, ok_is_no_err, not_ok}

memory_is_no_refusal : (r : Refusal) → ends.NoMemory ≡ ends.Refused r → ⊥
memory_is_no_refusal r e = cc

memory_is_no_read : ends.NoMemory ≡ ends.ReadFault → ⊥
memory_is_no_read e = cc

memory_is_no_write : ends.NoMemory ≡ ends.WriteFault → ⊥
memory_is_no_write e = cc

refusal_is_no_read : (r : Refusal) → ends.Refused r ≡ ends.ReadFault → ⊥
refusal_is_no_read r e = cc

refusal_is_no_write : (r : Refusal) → ends.Refused r ≡ ends.WriteFault → ⊥
refusal_is_no_write r e = cc

same_refusal : (a b : Refusal) → ends.Refused a ≡ ends.Refused b → a ≡ b
same_refusal a b e = cc

pub found_ok : {X A : Type 0} (view : X → A) (Found : A → Type 0) (Wrong : Refusal → Type 0) (x : X) → Found (view x) → ((a : A) → Found a → view x ≡ a) → ((r : Refusal) → Wrong r → ⊥)
    → Finds view Found Wrong (Ok x)
found_ok view Found Wrong x here same none = record {
  found = here;
  only = same;
  wrong = λ refusal e. absurd (ok_is_no_err _ _ e);
  real = λ refusal e. absurd (ok_is_no_err _ _ e);
  none = λ refusal wrong ok. none refusal wrong;
  read = λ e. ok_is_no_err _ _ e;
  write = λ e. ok_is_no_err _ _ e;
}

pub found_memory : {X A : Type 0} (view : X → A) (Found : A → Type 0) (Wrong : Refusal → Type 0) → Finds view Found Wrong (Err ends.NoMemory)
found_memory view Found Wrong = record {
  found = tt;
  only = λ a here. refl;
  wrong = λ refusal e. absurd (memory_is_no_refusal refusal (err_is _ _ e));
  real = λ refusal e. absurd (memory_is_no_refusal refusal (err_is _ _ e));
  none = λ refusal wrong ok. not_ok ok;
  read = λ e. memory_is_no_read (err_is _ _ e);
  write = λ e. memory_is_no_write (err_is _ _ e);
}

pub found_refused : {X A : Type 0} (view : X → A) (Found : A → Type 0) (Wrong : Refusal → Type 0) (r : Refusal) → IsRefusal r → Wrong r → ((a : A) → Found a → ⊥)
    → Finds view Found Wrong (Err (ends.Refused r))
found_refused view Found Wrong r real wrong none = record {
  found = tt;
  only = λ a here. absurd (none a here);
  wrong = λ refusal e. subst Wrong (same_refusal _ _ (err_is _ _ e)) wrong;
  real = λ refusal e. subst IsRefusal (same_refusal _ _ (err_is _ _ e)) real;
  none = λ refusal other ok. not_ok ok;
  read = λ e. refusal_is_no_read r (err_is _ _ e);
  write = λ e. refusal_is_no_write r (err_is _ _ e);
}
