-- What a command replies by what its steps found.
use Rattle.std.proofs.Common.{◌≡◌, ◌∙◌, sym, ap, subst, arith, List, ℕ, [], Option, Result, Ok, Err, refl}
use Rattle.lisa_io.proofs.Known.{appends_none}
use Rattle.lisa_outcomes.specs.declared.status.End.{End}
use Rattle.lisa_outcomes.specs.declared.status.End.TheVariants as ends
use Rattle.lisa_outcomes.specs.declared.status.Refusal.{Refusal}
use Rattle.lisa_outcomes.specs.Outcomes.{Outcome, Finished, After, passed, stopped}
use Rattle.lisa_outcomes.specs.Stages.{Finds}
use Rattle.lisa_outcomes.specs.Replies.{Replies}
use Rattle.lisa_outcomes.proofs.Within.{nothing_within, within_more}
use Rattle.lisa_outcomes.proofs.Told.{err_is, not_ok}

-- it was found: what comes is what the rest of the command gives
pub passed_replies : {X A T : Type 0} (view : X → A) (Found : A → Type 0) (Wrong : Refusal → Type 0) (Then : A → Outcome → Type 0) (x : X) (before after : Option (List ℕ)) (old new : ℕ)
    (result : Result T End) → Finds view Found Wrong (Ok x) → Replies (Then (view x)) before after old new result → Replies (After Found Wrong Then) before after old new result
passed_replies {A = A} view Found Wrong Then x before after old new result finds replies = record {
  done = λ ok. let r = replies.done ok in (r.0, passed finds.found r.1, r.2);
  refused = λ refusal e. let r = replies.refused refusal e in (r.0, passed finds.found r.1, r.2);
  real = replies.real;
  read = replies.read;
  later = replies.later;
  write = replies.write;
  front = within_more (Then (view x)) (After Found Wrong Then) before after (λ outcome then. passed finds.found then) replies.front;
  finished = λ text gives refusal e. replies.finished text (rest _ gives) refusal e;
  refusing = λ refusal text gives ok. replies.refusing refusal text (rest _ gives) ok;
}
  where
    rest : (outcome : Outcome) → After Found Wrong Then outcome → Then (view x) outcome
    rest outcome (passed {a = a} here then) = subst (λ (b : A). Then b outcome) (sym (finds.only a here)) then
    rest _ (stopped {refusal = refusal} wrong) = absurd (finds.none refusal wrong refl)

-- it wasn't found, and nothing was written
pub stopped_replies : {X A T : Type 0} (view : X → A) (Found : A → Type 0) (Wrong : Refusal → Type 0) (Then : A → Outcome → Type 0) (end : End) (sink : Option (List ℕ)) (old : ℕ)
    → Finds {X = X} view Found Wrong (Err end) → Replies {T = T} (After Found Wrong Then) sink sink old old (Err end)
stopped_replies view Found Wrong Then end sink old finds = record {
  done = λ ok. absurd (not_ok ok);
  refused = λ refusal e. ([], stopped (finds.wrong refusal (ap Err (err_is _ _ e))), appends_none sink);
  real = λ refusal e. finds.real refusal (ap Err (err_is _ _ e));
  read = λ e. finds.read (ap Err (err_is _ _ e));
  later = omega arith;
  write = λ e. absurd (finds.write (ap Err (err_is _ _ e)));
  front = nothing_within (After Found Wrong Then) sink;
  finished = λ text gives refusal e. never gives refusal (err_is _ _ e);
  refusing = λ refusal text gives ok. not_ok ok;
}
  where
    memory_is_no_refusal : (r : Refusal) → ends.NoMemory ≡ ends.Refused r → ⊥
    memory_is_no_refusal r e = cc

    never : {text : List ℕ} → After Found Wrong Then (Finished text) → (refusal : Refusal) → end ≡ ends.Refused refusal → ⊥
    never (passed {a = a} here then) refusal e = memory_is_no_refusal refusal (sym (finds.only a here) ∙ e)

-- memory was wanted, and nothing was written
pub memory_replies : {T : Type 0} (Gives : Outcome → Type 0) (sink : Option (List ℕ)) (old : ℕ) → Replies {T = T} Gives sink sink old old (Err ends.NoMemory)
memory_replies Gives sink old = record {
  done = λ ok. absurd (not_ok ok);
  refused = λ refusal e. absurd (memory_is_no_refusal refusal (err_is _ _ e));
  real = λ refusal e. absurd (memory_is_no_refusal refusal (err_is _ _ e));
  read = λ e. unread (err_is _ _ e);
  later = omega arith;
  write = λ e. absurd (faulty (err_is _ _ e));
  front = nothing_within Gives sink;
  finished = λ text gives refusal e. memory_is_no_refusal refusal (err_is _ _ e);
  refusing = λ refusal text gives ok. not_ok ok;
}
  where
    memory_is_no_refusal : (r : Refusal) → ends.NoMemory ≡ ends.Refused r → ⊥
    memory_is_no_refusal r e = cc

    unread : ends.NoMemory ≡ ends.ReadFault → ⊥
    unread e = cc

    faulty : ends.NoMemory ≡ ends.WriteFault → ⊥
    faulty e = cc
