-- From what a command does with what it found to what it does with all that it reads.
use Rattle.std.proofs.Common.{◌≡◌, ◌≢◌, ◌<◌, ◌≤◌, ◌∙◌, sym, ap, subst, refl, arith, List, ℕ, [], length, Option, Some, Result, Ok, Err}
use Rattle.lisa_io.proofs.Known.{appends_none}
use Rattle.lisa_outcomes.specs.declared.status.End.{End}
use Rattle.lisa_outcomes.specs.declared.status.End.TheVariants as ends
use Rattle.lisa_outcomes.specs.declared.status.Refusal.{Refusal}
use Rattle.lisa_outcomes.specs.Outcomes.{Outcome, Finished, FileMap, After, passed, stopped, IsFile, IsTooLong}
use Rattle.lisa_outcomes.specs.Refusals.{IsRefusal}
use Rattle.lisa_outcomes.specs.Stages.{Finds}
use Rattle.lisa_outcomes.specs.Ends.{Ends}
use Rattle.lisa_outcomes.specs.Replies.{Replies}
use Rattle.lisa_outcomes.proofs.Told.{err_is, not_ok}
use Rattle.lisa_outcomes.proofs.Within.{nothing_within, within_more}

-- a command that reads nothing more
pub replies_end : {T W : Type 0} (Told : W → Type 0) (Blamed : Type 0) (Gives : Outcome → Type 0) (before after : Option (List ℕ)) (old new : ℕ) (result : Result T End)
    → Replies Gives before after old new result → Ends Told (λ (w : W). Gives) Blamed before after old new result
replies_end Told Blamed Gives before after old new result replies = record {
  done = λ ok w e. replies.done ok;
  refused = λ refusal is w e. replies.refused refusal is;
  real = replies.real;
  read = λ is. absurd (replies.read is);
  later = replies.later;
  write = replies.write;
  front = λ w e. replies.front;
  finished = λ w text e gives. replies.finished text gives;
  refusing = λ w refusal text e gives. replies.refusing refusal text gives;
}

-- what gives the same of more that is told
pub ends_within : {T W V : Type 0} (Told : W → Type 0) (Told' : V → Type 0) (Gives : W → Outcome → Type 0) (Blamed Blamed' : Type 0) (part : V → W)
    (before after : Option (List ℕ)) (old new : ℕ) (result : Result T End) → ((v : V) → Told' v → Told (part v)) → (Blamed → Blamed')
    → Ends Told Gives Blamed before after old new result → Ends Told' (λ v. Gives (part v)) Blamed' before after old new result
ends_within Told Told' Gives Blamed Blamed' part before after old new result told blamed ends = record {
  done = λ ok v e. ends.done ok (part v) (told v e);
  refused = λ refusal is v e. ends.refused refusal is (part v) (told v e);
  real = ends.real;
  read = λ is. blamed (ends.read is);
  later = ends.later;
  write = ends.write;
  front = λ v e. ends.front (part v) (told v e);
  finished = λ v text e gives. ends.finished (part v) text (told v e) gives;
  refusing = λ v refusal text e gives. ends.refusing (part v) refusal text (told v e) gives;
}

-- what was looked for is found in each world that is told, and the rest of the command has it
pub passed_told : {A T W : Type 0} (Told : W → Type 0) (Found : W → A → Type 0) (Wrong : W → Refusal → Type 0) (Then : W → A → Outcome → Type 0) (Inner Blamed : Type 0) (a : A) (before after : Option (List ℕ)) (old new : ℕ)
    (result : Result T End) → ((w : W) → Told w → Found w a) → ((w : W) (b : A) → Told w → Found w b → a ≡ b) → ((w : W) (refusal : Refusal) → Told w → Wrong w refusal → ⊥) → (Inner → Blamed)
    → Ends Told (λ w. Then w a) Inner before after old new result → Ends Told (λ w. After (Found w) (Wrong w) (Then w)) Blamed before after old new result
passed_told {A = A} {W = W} Told Found Wrong Then Inner Blamed a before after old new result found only none blamed ends = record {
  done = λ ok w e. let r = ends.done ok w e in (r.0, passed (found w e) r.1, r.2);
  refused = λ refusal is w e. let r = ends.refused refusal is w e in (r.0, passed (found w e) r.1, r.2);
  real = ends.real;
  read = λ is. blamed (ends.read is);
  later = ends.later;
  write = ends.write;
  front = λ w e. within_more (Then w a) (After (Found w) (Wrong w) (Then w)) before after (λ outcome then. passed (found w e) then) (ends.front w e);
  finished = λ w text e gives refusal is. ends.finished w text e (rest w _ e gives) refusal is;
  refusing = λ w refusal text e gives ok. ends.refusing w refusal text e (rest w _ e gives) ok;
}
  where
    rest : (w : W) (outcome : Outcome) → Told w → After (Found w) (Wrong w) (Then w) outcome → Then w a outcome
    rest w outcome e (passed {a = b} here then) = subst (λ (c : A). Then w c outcome) (sym (only w b e here)) then
    rest w _ e (stopped {refusal = refusal} wrong) = absurd (none w refusal e wrong)

-- it wasn't found, and nothing was written
pub stopped_told : {A T W : Type 0} (Told : W → Type 0) (Found : W → A → Type 0) (Wrong : W → Refusal → Type 0) (Then : W → A → Outcome → Type 0) (Blamed : Type 0) (end : End) (sink : Option (List ℕ)) (old : ℕ)
    → ((refusal : Refusal) → end ≡ ends.Refused refusal → IsRefusal refusal) → ((refusal : Refusal) → end ≡ ends.Refused refusal → (w : W) → Told w → Wrong w refusal) → ((refusal : Refusal) → end ≡ ends.Refused refusal → (w : W) (a : A) → Told w → Found w a → ⊥)
    → (end ≡ ends.ReadFault → Blamed) → end ≢ ends.WriteFault → Ends {T = T} Told (λ w. After (Found w) (Wrong w) (Then w)) Blamed sink sink old old (Err end)
stopped_told {W = W} Told Found Wrong Then Blamed end sink old real wrong none read write = record {
  done = λ ok. absurd (not_ok ok);
  refused = λ refusal is w e. ([], stopped (wrong refusal (err_is _ _ is) w e), appends_none sink);
  real = λ refusal is. real refusal (err_is _ _ is);
  read = λ is. read (err_is _ _ is);
  later = omega arith;
  write = λ is. absurd (write (err_is _ _ is));
  front = λ w e. nothing_within (After (Found w) (Wrong w) (Then w)) sink;
  finished = λ w text e gives refusal is. never w e gives refusal (err_is _ _ is);
  refusing = λ w refusal text e gives ok. not_ok ok;
}
  where
    never : (w : W) → Told w → {text : List ℕ} → After (Found w) (Wrong w) (Then w) (Finished text) → (refusal : Refusal) → end ≡ ends.Refused refusal → ⊥
    never w e (passed {a = a} here then) refusal is = none refusal is w a e here

-- a step that looks for something in what is at hand
pub passed_ends : {X A T W : Type 0} (view : X → A) (Found : A → Type 0) (Wrong : Refusal → Type 0) (Told : W → Type 0) (Then : W → A → Outcome → Type 0) (Inner Blamed : Type 0) (x : X) (before after : Option (List ℕ)) (old new : ℕ)
    (result : Result T End) → Finds view Found Wrong (Ok x) → (Inner → Blamed) → Ends Told (λ w. Then w (view x)) Inner before after old new result
    → Ends Told (λ w. After Found Wrong (Then w)) Blamed before after old new result
passed_ends view Found Wrong Told Then Inner Blamed x before after old new result finds blamed ends =
    passed_told Told (λ w. Found) (λ w. Wrong) Then Inner Blamed (view x) before after old new result
    (λ w e. finds.found) (λ w b e here. finds.only b here) (λ w refusal e wrong. finds.none refusal wrong refl) blamed ends

pub stopped_ends : {X A T W : Type 0} (view : X → A) (Found : A → Type 0) (Wrong : Refusal → Type 0) (Told : W → Type 0) (Then : W → A → Outcome → Type 0) (Blamed : Type 0) (end : End) (sink : Option (List ℕ)) (old : ℕ)
    → Finds {X = X} view Found Wrong (Err end) → Ends {T = T} Told (λ w. After Found Wrong (Then w)) Blamed sink sink old old (Err end)
stopped_ends view Found Wrong Told Then Blamed end sink old finds =
    stopped_told Told (λ w. Found) (λ w. Wrong) Then Blamed end sink old (λ refusal is. finds.real refusal (ap Err is)) (λ refusal is w e. finds.wrong refusal (ap Err is)) (λ refusal is w a e here. memory_is_no_refusal refusal (sym (finds.only a here) ∙ is))
    (λ is. absurd (finds.read (ap Err is))) (λ is. finds.write (ap Err is))
  where
    memory_is_no_refusal : (r : Refusal) → ends.NoMemory ≡ ends.Refused r → ⊥
    memory_is_no_refusal r e = cc

same_bytes : {a b : List ℕ} → Some a ≡ Some b → a ≡ b
same_bytes e = cc

-- a file has one list of bytes, which isn't both short and long
pub same_file : (files : FileMap) (name bytes other : List ℕ) (limit : ℕ) → files name ≡ Some bytes → IsFile files name limit other → bytes ≡ other
same_file files name bytes other limit told here = same_bytes (sym told ∙ here.0)

pub no_long_file : (files : FileMap) (name bytes : List ℕ) (limit : ℕ) (refusal : Refusal) → files name ≡ Some bytes → length bytes ≤ limit → IsTooLong files name limit refusal → ⊥
no_long_file files name bytes limit refusal told short wrong = over (subst (λ (x : List ℕ). length x ≤ limit) (same_bytes (sym told ∙ wrong.1)) short) wrong.2
  where
    over : length wrong.0 ≤ limit → limit < length wrong.0 → ⊥
    over x y = omega arith

-- memory was wanted, and nothing was written
pub wanting_ends : {T W : Type 0} (Told : W → Type 0) (Gives : W → Outcome → Type 0) (Blamed : Type 0) (sink : Option (List ℕ)) (old : ℕ) → Ends {T = T} Told Gives Blamed sink sink old old (Err ends.NoMemory)
wanting_ends Told Gives Blamed sink old = record {
  done = λ ok. absurd (not_ok ok);
  refused = λ refusal is. absurd (refuses refusal (err_is _ _ is));
  real = λ refusal is. absurd (refuses refusal (err_is _ _ is));
  read = λ is. absurd (reads (err_is _ _ is));
  later = omega arith;
  write = λ is. absurd (writes (err_is _ _ is));
  front = λ w e. nothing_within (Gives w) sink;
  finished = λ w text e gives refusal is. refuses refusal (err_is _ _ is);
  refusing = λ w refusal text e gives ok. not_ok ok;
}
  where
    refuses : (r : Refusal) → ends.NoMemory ≡ ends.Refused r → ⊥
    refuses r e = cc

    reads : ends.NoMemory ≡ ends.ReadFault → ⊥
    reads e = cc

    writes : ends.NoMemory ≡ ends.WriteFault → ⊥
    writes e = cc
