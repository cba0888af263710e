-- The end of a command whose output was sent on.
use Rattle.std.proofs.Common.{◌≡◌, ◌≤◌, ◌∙◌, sym, subst, arith, List, ℕ, Option, Result, Ok, Err, IsOk, ⊎_elim}
use Rattle.lisa_io.specs.Causes.{Rose}
use Rattle.lisa_io.proofs.Known.{appends_kept}
use Rattle.lisa_outcomes.specs.declared.status.End.{End}
use Rattle.lisa_outcomes.specs.declared.status.End.TheVariants as ends
use Rattle.lisa_outcomes.specs.declared.status.Refusal.{Refusal}
use Rattle.lisa_outcomes.specs.Outcomes.{Outcome}
use Rattle.lisa_outcomes.specs.Ends.{Ends}
use Rattle.lisa_cli.specs.Sent.{IsSentOn}
use Rattle.lisa_outcomes.proofs.Told.{err_is, not_ok}
use Rattle.lisa_outcomes.proofs.Within.{within_kept}

rose_before : (a b c : ℕ) → Rose a b → b ≤ c → Rose a c
rose_before a b c risen after = omega arith

pub rose_behind : (a b c : ℕ) → a ≤ b → Rose b c → Rose a c
rose_behind a b c first risen = omega arith

write_is_no_refusal : (r : Refusal) → ends.WriteFault ≡ ends.Refused r → ⊥
write_is_no_refusal r e = cc

write_is_no_read : ends.WriteFault ≡ ends.ReadFault → ⊥
write_is_no_read e = cc

err_no_ok : {T : Type 0} (e : End) (result : Result T End) → result ≡ Err e → IsOk result → ⊥
err_no_ok e (Ok x) is ok = absurd (cc)
err_no_ok e (Err f) is ok = not_ok ok

-- it ended as before
kept : {T W : Type 0} (Told : W → Type 0) (Gives : W → Outcome → Type 0) (Blamed Blamed' : Type 0) (before middle after sent : Option (List ℕ)) (old between new : ℕ) (end result : Result T End)
    → (Blamed → Blamed') → Ends Told Gives Blamed before middle old between end → IsSentOn middle after sent between new end result → result ≡ end
    → Ends Told Gives Blamed' before after old new result
kept Told Gives Blamed Blamed' before middle after sent old between new end result blamed all one is = record {
  done = λ ok w e. let d = all.done (subst IsOk is ok) w e in (d.0, d.1, appends_kept _ _ _ _ d.2 one.keeps);
  refused = λ refusal r w e. let d = all.refused refusal (sym is ∙ r) w e in (d.0, d.1, appends_kept _ _ _ _ d.2 one.keeps);
  real = λ refusal r. all.real refusal (sym is ∙ r);
  read = λ r. blamed (all.read (sym is ∙ r));
  later = omega (arith, all.later, one.later);
  write = λ r. rose_before old between new (all.write (sym is ∙ r)) one.later;
  front = λ w e. within_kept (Gives w) before middle after one.keeps (all.front w e);
  finished = λ w text e gives refusal r. all.finished w text e gives refusal (sym is ∙ r);
  refusing = λ w refusal text e gives ok. all.refusing w refusal text e gives (subst IsOk is ok);
}

-- it ended in a write fault
failed : {T W : Type 0} (Told : W → Type 0) (Gives : W → Outcome → Type 0) (Blamed Blamed' : Type 0) (before middle after sent : Option (List ℕ)) (old between new : ℕ) (end result : Result T End)
    → Ends Told Gives Blamed before middle old between end → IsSentOn middle after sent between new end result → result ≡ Err ends.WriteFault → Rose between new
    → Ends Told Gives Blamed' before after old new result
failed Told Gives Blamed Blamed' before middle after sent old between new end result all one is risen = record {
  done = λ ok. absurd (err_no_ok _ result is ok);
  refused = λ refusal r. absurd (write_is_no_refusal refusal (err_is _ _ (sym is ∙ r)));
  real = λ refusal r. absurd (write_is_no_refusal refusal (err_is _ _ (sym is ∙ r)));
  read = λ r. absurd (write_is_no_read (err_is _ _ (sym is ∙ r)));
  later = omega (arith, all.later, one.later);
  write = λ r. rose_behind old between new all.later risen;
  front = λ w e. within_kept (Gives w) before middle after one.keeps (all.front w e);
  finished = λ w text e gives refusal r. write_is_no_refusal refusal (err_is _ _ (sym is ∙ r));
  refusing = λ w refusal text e gives ok. err_no_ok _ result is ok;
}

pub sent_ends : {T W : Type 0} (Told : W → Type 0) (Gives : W → Outcome → Type 0) (Blamed Blamed' : Type 0) (before middle after sent : Option (List ℕ)) (old between new : ℕ) (end result : Result T End)
    → (Blamed → Blamed') → Ends Told Gives Blamed before middle old between end → IsSentOn middle after sent between new end result → Ends Told Gives Blamed' before after old new result
sent_ends Told Gives Blamed Blamed' before middle after sent old between new end result blamed all one = ⊎_elim
    (λ s. kept Told Gives Blamed Blamed' before middle after sent old between new end result blamed all one s)
    (λ f. failed Told Gives Blamed Blamed' before middle after sent old between new end result all one f.0 f.1)
    one.same
