use Rattle.std.proofs.Common.{sym, ap, subst, Err}
use Rattle.lisa_outcomes.specs.Refusals.{IsRefusal}
use Rattle.lisa_outcomes.proofs.Refusals.{too_long_refusal}
use Rattle.lisa_outcomes.proofs.Told.{told_bytes, told_more, long_is_no_fault, err_is, ok_is_no_err}
use Rattle.lisa_outcomes.proofs.loading.load.Goals as goal

pub returns-in-Ok-clause-loads : goal.returns-in-Ok-clause-loads
returns-in-Ok-clause-loads g c = record {
  bytes = (c.in-Ok.ensures.short, told_bytes _ _ _ c.in-Ok.ensures.bytes (λ n. ok_is_no_err _ _ (c.in-Ok.ensures.missing n)));
  refused = λ r e. absurd (cc);
  real = λ r e. absurd (cc);
  read = λ e. absurd (cc);
  write = λ e. cc;
}

pub returns-in-Err-clause-loads : goal.returns-in-Err-clause-loads
returns-in-Err-clause-loads g c = record {
  bytes = tt;
  refused = λ r e.
      let said = c.unread.ensures.refused r (err_is _ _ e) in
      (said.1, told_more _ _ _ (λ b t. c.in-Err.ensures.too_long b t (ap Err said.0)) (λ n. long_is_no_fault _ said.0 (err_is _ _ (c.in-Err.ensures.missing n))));
  real = λ r e. subst IsRefusal (sym (c.unread.ensures.refused r (err_is _ _ e)).1) (too_long_refusal c.args.name.now);
  read = λ e. c.in-Err.ensures.fault (ap Err (c.unread.ensures.read (err_is _ _ e)));
  write = λ e. c.unread.ensures.write (err_is _ _ e);
}
