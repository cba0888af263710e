-- What a command replies that writes its one text.
use Rattle.std.proofs.Common.{◌≡◌, inr, subst, arith, List, ℕ, Option, Result, Ok, Err, IsOk, OnOk, refl}
use Rattle.std.specs.Io.KnownBytes.{Appends}
use Rattle.lisa_io.specs.Contents.{AppendsFront, Puts}
use Rattle.lisa_io.proofs.Known.{appends_none}
use Rattle.lisa_outcomes.specs.declared.status.End.{End}
use Rattle.lisa_outcomes.specs.declared.status.End.TheVariants as ends
use Rattle.lisa_outcomes.specs.declared.status.Refusal.{Refusal}
use Rattle.lisa_outcomes.specs.Outcomes.{Outcome, Finished, Refusing}
use Rattle.lisa_outcomes.specs.Writes.{Writes}
use Rattle.lisa_outcomes.specs.Replies.{Replies}
use Rattle.lisa_outcomes.proofs.Told.{err_is, not_ok, ok_is_no_err}

ok_writes : {T : Type 0} (result : Result T End) (P : Type 0) → OnOk result P → IsOk result → P
ok_writes (Ok x) P p ok = p
ok_writes (Err e) P p ok = absurd (not_ok ok)

refusing_is_no_finished : (refusal : Refusal) (text other : List ℕ) → Refusing refusal text ≡ Finished other → ⊥
refusing_is_no_finished refusal text other e = cc

-- the text is all that is given
pub written_replies : {T : Type 0} (text : List ℕ) (before after : Option (List ℕ)) (old new : ℕ) (result : Result T End) → Writes before after old new result text
    → Replies (λ (outcome : Outcome). outcome ≡ Finished text) before after old new result
written_replies text before after old new result writes = record {
  done = λ ok. (text, refl, ok_writes result _ writes.all ok);
  refused = λ refusal e. absurd (writes.refused refusal e);
  real = λ refusal e. absurd (writes.refused refusal e);
  read = writes.read;
  later = writes.later;
  write = writes.write;
  front = inr (Finished text, refl, writes.front);
  finished = λ other is refusal e. writes.refused refusal e;
  refusing = λ refusal other is ok. refusing_is_no_finished refusal other text is;
}

-- nothing is written where memory is wanted
pub no_memory_writes : {T : Type 0} (sink : Option (List ℕ)) (old : ℕ) (text : List ℕ) → Writes {T = T} sink sink old old (Err ends.NoMemory) text
no_memory_writes sink old text = record {
  all = tt;
  front = (0, omega arith, appends_none sink);
  later = omega arith;
  write = λ e. absurd (faulty (err_is _ _ e));
  read = λ e. unread (err_is _ _ e);
  refused = λ refusal e. other refusal (err_is _ _ e);
}
  where
    faulty : ends.NoMemory ≡ ends.WriteFault → ⊥
    faulty e = cc

    unread : ends.NoMemory ≡ ends.ReadFault → ⊥
    unread e = cc

    other : (r : Refusal) → ends.NoMemory ≡ ends.Refused r → ⊥
    other r e = cc

-- a text that was put whole, or in part
pub ok_put : {T E : Type 0} (u : T) (before after : Option (List ℕ)) (old new : ℕ) (text wanted : List ℕ) → text ≡ wanted → Puts {T = T} {E = E} before after old new (Ok u) text
    → Writes {T = T} before after old new (Ok u) wanted
ok_put u before after old new text wanted same puts = record {
  all = subst (Appends before after) same puts.all;
  front = subst (AppendsFront before after) same puts.front;
  later = puts.cause.later;
  write = λ e. absurd (ok_is_no_err _ _ e);
  read = λ e. ok_is_no_err _ _ e;
  refused = λ refusal e. ok_is_no_err _ _ e;
}

pub failed_put : {T U E : Type 0} (x : E) (before after : Option (List ℕ)) (old new : ℕ) (text wanted : List ℕ) → text ≡ wanted → Puts {T = U} {E = E} before after old new (Err x) text
    → Writes {T = T} before after old new (Err ends.WriteFault) wanted
failed_put x before after old new text wanted same puts = record {
  all = tt;
  front = subst (AppendsFront before after) same puts.front;
  later = puts.cause.later;
  write = λ e. puts.cause.failed;
  read = λ e. unread (err_is _ _ e);
  refused = λ refusal e. other refusal (err_is _ _ e);
}
  where
    unread : ends.WriteFault ≡ ends.ReadFault → ⊥
    unread e = cc

    other : (r : Refusal) → ends.WriteFault ≡ ends.Refused r → ⊥
    other r e = cc
