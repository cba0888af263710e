-- What a command writes that writes a trace.
use Rattle.std.proofs.Common.{◌≡◌, refl, List, ℕ, Option, Ok, Err}
use Rattle.lisa_engine.specs.Traces.{PutsUnless}
use Rattle.lisa_engine.specs.declared.trace.TraceEnd.TheVariants as traces
use Rattle.lisa_outcomes.specs.declared.status.End.TheVariants as ends
use Rattle.lisa_outcomes.specs.declared.status.Refusal.{Refusal}
use Rattle.lisa_outcomes.specs.Writes.{Writes}
use Rattle.lisa_outcomes.proofs.Told.{err_is, ok_is_no_err}

pub ok_trace : {T U : Type 0} (x : T) (u : U) (before after : Option (List ℕ)) (old new : ℕ) (text : List ℕ) → PutsUnless {T = T} before after old new (Ok x) text → Writes {T = U} before after old new (Ok u) text
ok_trace x u before after old new text puts = record {
  all = puts.all;
  front = puts.front;
  later = puts.later;
  write = λ e. absurd (ok_is_no_err u _ e);
  read = λ e. ok_is_no_err u _ e;
  refused = λ refusal e. ok_is_no_err u _ e;
}

pub failed_trace : {T U : Type 0} (before after : Option (List ℕ)) (old new : ℕ) (text : List ℕ) → PutsUnless {T = T} before after old new (Err traces.WriteFault) text
    → Writes {T = U} before after old new (Err ends.WriteFault) text
failed_trace before after old new text puts = record {
  all = tt;
  front = puts.front;
  later = puts.later;
  write = λ e. puts.fault refl;
  read = λ e. unread (err_is _ _ e);
  refused = λ refusal e. other refusal (err_is _ _ e);
}
  where
    unread : ends.WriteFault ≡ ends.ReadFault → ⊥
    unread e = cc

    other : (r : Refusal) → ends.WriteFault ≡ ends.Refused r → ⊥
    other r e = cc

pub wanting_trace : {T U : Type 0} (before after : Option (List ℕ)) (old new : ℕ) (text : List ℕ) → PutsUnless {T = T} before after old new (Err traces.NoMemory) text
    → Writes {T = U} before after old new (Err ends.NoMemory) text
wanting_trace before after old new text puts = record {
  all = tt;
  front = puts.front;
  later = puts.later;
  write = λ e. absurd (faulty (err_is _ _ e));
  read = λ e. unread (err_is _ _ e);
  refused = λ refusal e. other refusal (err_is _ _ e);
}
  where
    faulty : ends.NoMemory ≡ ends.WriteFault → ⊥
    faulty e = cc

    unread : ends.NoMemory ≡ ends.ReadFault → ⊥
    unread e = cc

    other : (r : Refusal) → ends.NoMemory ≡ ends.Refused r → ⊥
    other r e = cc
