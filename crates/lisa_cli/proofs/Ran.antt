-- What a run answers, by how its command ended, how its output was sent on and how the status was told.
use Rattle.std.proofs.Common.{◌≡◌, ◌≤◌, ◌∙◌, sym, ap, refl, subst, arith, List, ℕ, Option, Some, Result, Ok, Err, IsOk, ◌⊎◌, inl, inr, ⊎_elim, false, []}
use Rattle.std.specs.Io.KnownBytes.{Appends, Keeps}
use Rattle.lisa_io.specs.Causes.{Rose}
use Rattle.lisa_io.proofs.Known.{appends_kept, appends_none}
use Rattle.lisa_outcomes.specs.declared.status.End.{End}
use Rattle.lisa_outcomes.specs.declared.status.End.TheVariants as ends
use Rattle.lisa_outcomes.specs.declared.status.Refusal.{Refusal}
use Rattle.lisa_outcomes.specs.declared.status.Status.{Status}
use Rattle.lisa_outcomes.specs.declared.status.Status.TheVariants as statuses
use Rattle.lisa_outcomes.specs.Outcomes.{Finished, Refusing, Given}
use Rattle.lisa_outcomes.specs.Ends.{Ends}
use Rattle.lisa_outcomes.proofs.Told.{not_ok}
use Rattle.generator_commands.proofs.description_commands_proofs.Stopped.{run_kept}
use Rattle.generator_commands.proofs.module_commands_proofs.Stopped.{clock_kept}
use Rattle.lisa_outcomes.specs.RunFiles.{run_bytes}
use Rattle.command_words.specs.Requests.{Request, Format, Check, Verilog, Assemble, Link, Disassemble, Generate, Soak, Export, Import, Replay, Occupancy, Simulate, Clock, Asks, reads_input}
use Rattle.lisa_cli.specs.Gives.{Gives}
use Rattle.lisa_cli.specs.Statuses.{status_of}
use Rattle.lisa_cli.specs.Sent.{IsSentOn}
use Rattle.refusal_lines.specs.Says.{status_text}
use Rattle.refusal_lines.specs.Told.{IsTold}
use Rattle.lisa_cli.specs.Runs.{Stands}
use Rattle.lisa_cli.specs.Headline.{IsAnswer, IsSomeRefusal}
use Rattle.lisa_cli.specs.Worlds.{World, Readings, Writings, world, Blames, Blamed, file_failed, input_failed, IsCutOver, IsGiven, IsKnown, NoneFailed}
use Rattle.lisa_cli.proofs.Flushed.{sent_ends, rose_behind}

-- what stands after a read fault names what failed
blamed_blames : (r : Readings) (before after : Option (List ℕ)) (request : Request) → Blamed r before after request → Blames r request
blamed_blames r before after request (file_failed failed nothing) = inl failed
blamed_blames r before after request (input_failed failed cut) = inr failed

-- and what stands is kept where nothing more is put
cut_kept : (request : Request) (bytes : List (List ℕ)) (left rest before after sent : Option (List ℕ)) → Keeps after sent → IsCutOver request bytes left rest before after → IsCutOver request bytes left rest before sent
cut_kept (Format description) bytes left rest before after sent keeps cut = cut
cut_kept (Check description) bytes left rest before after sent keeps cut = cut
cut_kept (Verilog description) bytes left rest before after sent keeps cut = cut
cut_kept (Assemble description source) bytes left rest before after sent keeps cut = cut
cut_kept (Link description objects) bytes left rest before after sent keeps cut = cut
cut_kept (Disassemble description image) bytes left rest before after sent keeps cut = cut
cut_kept (Generate description number count) bytes left rest before after sent keeps cut = cut
cut_kept (Soak description verilog number count edges) bytes left rest before after sent keeps cut = cut
cut_kept (Export format description image memory) bytes left rest before after sent keeps cut = cut
cut_kept (Import format description file memory) bytes left rest before after sent keeps cut = cut
cut_kept (Replay dump) bytes left rest before after sent keeps cut = cut
cut_kept (Occupancy names edges) bytes left rest before after sent keeps cut = cut
cut_kept (Simulate task names) bytes left rest before after sent keeps cut = run_kept task (run_bytes names bytes) left rest before after sent keeps cut
cut_kept (Clock task names) bytes left rest before after sent keeps cut = clock_kept task (run_bytes names bytes) left rest before after sent keeps cut

blamed_kept : (r : Readings) (before after sent : Option (List ℕ)) (request : Request) → Keeps after sent → Blamed r before after request → Blamed r before sent request
blamed_kept r before after sent request keeps (file_failed failed nothing) = file_failed failed (appends_kept _ _ _ _ nothing keeps)
blamed_kept r before after sent request keeps (input_failed failed cut) =
    input_failed failed (λ files told. let run = cut files told in (run.0, run.1, cut_kept request run.0 r.input r.input_after before after sent keeps run.2))

-- a command that ended, whose output was sent on and whose status was told
pub record Ran {T : Type 0} (w : World) (words : List (List ℕ)) (request : Request) (end : Result T End) (status : Status) : Type 0 where
  pub asks : Asks words request
  pub one : (other : Request) → Asks words other → request ≡ other
  pub how : Ends (IsGiven w.reads.held w.reads.input request) (λ given. Gives given request) (Blamed w.reads w.writes.out w.writes.out_after request) w.writes.out w.writes.out_after w.writes.out_faults w.writes.out_faults_after end
  pub sent_done : IsOk end → w.writes.out_sent ≡ w.writes.out_after
  pub sent_refused : (refusal : Refusal) → end ≡ Err (ends.Refused refusal) → w.writes.out_sent ≡ w.writes.out_after
  pub sent_read : end ≡ Err ends.ReadFault → (w.writes.out_sent ≡ w.writes.out_after) ⊎ Rose w.writes.out_faults w.writes.out_faults_after
  pub told : IsTold (status_of end) w.writes.err w.writes.err_after w.writes.err_faults w.writes.err_faults_after status
  pub input : reads_input request ≡ false → (w.reads.input_after ≡ w.reads.input) × (w.reads.input_faults_after ≡ w.reads.input_faults)
  pub held : w.reads.held_after ≡ w.reads.held
  pub files_later : (name : List ℕ) → w.reads.file_faults name ≤ w.reads.file_faults_after name
  pub input_later : w.reads.input_faults ≤ w.reads.input_faults_after

pub sent_ran : {T : Type 0} (r : Readings) (o : Writings) (words : List (List ℕ)) (request : Request) (middle : Option (List ℕ)) (between : ℕ) (end result : Result T End) (status : Status)
    → Asks words request → ((other : Request) → Asks words other → request ≡ other)
    → Ends (IsGiven r.held r.input request) (λ given. Gives given request) (Blamed r o.out middle request) o.out middle o.out_faults between end
    → IsSentOn middle o.out_after o.out_sent between o.out_faults_after end result → IsTold (status_of result) o.err o.err_after o.err_faults o.err_faults_after status
    → (reads_input request ≡ false → (r.input_after ≡ r.input) × (r.input_faults_after ≡ r.input_faults)) → r.held_after ≡ r.held
    → ((name : List ℕ) → r.file_faults name ≤ r.file_faults_after name) → r.input_faults ≤ r.input_faults_after → Ran (world r o) words request result status
sent_ran r o words request middle between end result status asks one ends sent_on told input held files_later input_later = record {
  asks = asks;
  one = one;
  how = sent_ends (IsGiven r.held r.input request) (λ given. Gives given request) _ _ o.out middle o.out_after o.out_sent o.out_faults between o.out_faults_after end result (blamed_kept r o.out middle o.out_after request sent_on.keeps) ends sent_on;
  sent_done = sent_on.done;
  sent_refused = sent_on.refused;
  sent_read = λ is. ⊎_elim (λ s. inl s) (λ f. inr (rose_behind _ _ _ ends.later f)) (sent_on.read is);
  told = told;
  input = input;
  held = held;
  files_later = files_later;
  input_later = input_later;
}

-- the status stands
stands : {T : Type 0} {w : World} {words : List (List ℕ)} {request : Request} (end : Result T End) {status : Status} → Ran w words request end status → Stands w words (status_of end)
stands {request = request} (Ok x) ran = record { request = request; asks = ran.asks; written = ran.how.done refl }
stands {request = request} (Err (ends.Refused refusal)) ran = record { request = request; asks = ran.asks; real = ran.how.real refusal refl; written = ran.how.refused refusal refl }
stands {request = request} (Err ends.ReadFault) ran = record { request = request; asks = ran.asks; blamed = ran.how.read refl }
stands {request = request} (Err ends.WriteFault) ran = record { request = request; asks = ran.asks; failed = ran.how.write refl; within = ran.how.front }
stands {request = request} (Err ends.NoMemory) ran = record { request = request; asks = ran.asks; within = ran.how.front }

is_done : {T : Type 0} (end : Result T End) → status_of end ≡ statuses.Done → IsOk end
is_done (Ok x) e = refl
is_done (Err (ends.Refused r)) e = absurd (cc)
is_done (Err ends.ReadFault) e = absurd (cc)
is_done (Err ends.WriteFault) e = absurd (cc)
is_done (Err ends.NoMemory) e = absurd (cc)

is_refused : {T : Type 0} (end : Result T End) (r : Refusal) → status_of end ≡ statuses.Refused r → end ≡ Err (ends.Refused r)
is_refused (Ok x) r e = absurd (cc)
is_refused (Err (ends.Refused q)) r e = ap (λ (x : Refusal). Err (ends.Refused x)) (same _ _ e)
  where
    same : (a b : Refusal) → statuses.Refused a ≡ statuses.Refused b → a ≡ b
    same a b e = cc
is_refused (Err ends.ReadFault) r e = absurd (cc)
is_refused (Err ends.WriteFault) r e = absurd (cc)
is_refused (Err ends.NoMemory) r e = absurd (cc)

is_read : {T : Type 0} (end : Result T End) → status_of end ≡ statuses.ReadFault → end ≡ Err ends.ReadFault
is_read (Ok x) e = absurd (cc)
is_read (Err (ends.Refused q)) e = absurd (cc)
is_read (Err ends.ReadFault) e = refl
is_read (Err ends.WriteFault) e = absurd (cc)
is_read (Err ends.NoMemory) e = absurd (cc)

done_differs : (s : Status) → s ≡ statuses.WriteFault → s ≡ statuses.Done → ⊥
done_differs s a b = apart (sym a ∙ b)
  where
    apart : statuses.WriteFault ≡ statuses.Done → ⊥
    apart e = cc

refused_differs : (s : Status) (r : Refusal) → s ≡ statuses.WriteFault → s ≡ statuses.Refused r → ⊥
refused_differs s r a b = apart (sym a ∙ b)
  where
    apart : statuses.WriteFault ≡ statuses.Refused r → ⊥
    apart e = cc

read_differs : (s : Status) → s ≡ statuses.WriteFault → s ≡ statuses.ReadFault → ⊥
read_differs s a b = apart (sym a ∙ b)
  where
    apart : statuses.WriteFault ≡ statuses.ReadFault → ⊥
    apart e = cc

-- a status that is no write fault is that of the end
told_as : {s status : Status} {a b : Option (List ℕ)} {m n : ℕ} → (status ≡ statuses.WriteFault → ⊥) → IsTold s a b m n status → status ≡ s
told_as other told = ⊎_elim (λ t. t.0) (λ f. absurd (other f.0)) told.told

-- where nothing failed the status was told
told_unfailed : {s status : Status} {a b : Option (List ℕ)} {m n : ℕ} → (Rose m n → ⊥) → IsTold s a b m n status → status ≡ s
told_unfailed none told = ⊎_elim (λ t. t.0) (λ f. absurd (none f.2)) told.told

-- what a command that didn't fail comes to
ended : {T : Type 0} {w : World} {words : List (List ℕ)} {request : Request} (end : Result T End) {status : Status} → Ran w words request end status → NoneFailed w request
    → IsOk end ⊎ ((r : Refusal) × (end ≡ Err (ends.Refused r))) ⊎ (end ≡ Err ends.NoMemory)
ended (Ok x) ran none = inl refl
ended (Err (ends.Refused r)) ran none = inr (inl (r, refl))
ended {w = w} {request = request} (Err ends.ReadFault) ran none = absurd (none.read (blamed_blames w.reads w.writes.out w.writes.out_after request (ran.how.read refl)))
ended (Err ends.WriteFault) ran none = absurd (none.out (ran.how.write refl))
ended (Err ends.NoMemory) ran none = inr (inr refl)

ok_status : {T : Type 0} (end : Result T End) → IsOk end → status_of end ≡ statuses.Done
ok_status (Ok x) ok = refl
ok_status (Err e) ok = absurd (not_ok ok)

ran_done_always : {T : Type 0} {w : World} {words : List (List ℕ)} {request : Request} {end : Result T End} {status : Status} → Ran w words request end status
    → (other : Request) (given : Given) (text : List ℕ) → Asks words other → IsKnown w other given → Gives given other (Finished text) → NoneFailed w other
    → (status ≡ statuses.Done) ⊎ (status ≡ statuses.NoMemory)
ran_done_always {w = w} {end = end} ran other given text asks known gives none =
    let same = sym (ran.one other asks) in
    let mine = subst (λ (q : Request). Gives given q (Finished text)) same gives in
    let told_too = subst (λ (q : Request). IsKnown w q given) same known in
    let unfailed = subst (NoneFailed w) same none in
    let told = told_unfailed unfailed.err ran.told in
    ⊎_elim (λ ok. inl (told ∙ ok_status end ok))
    (λ rest. ⊎_elim (λ r. absurd (ran.how.finished given text told_too mine r.0 r.1)) (λ m. inr (told ∙ ap status_of m)) rest)
    (ended end ran unfailed)

ran_refused_always : {T : Type 0} {w : World} {words : List (List ℕ)} {request : Request} {end : Result T End} {status : Status} → Ran w words request end status
    → (other : Request) (given : Given) (refusal : Refusal) (text : List ℕ) → Asks words other → IsKnown w other given → Gives given other (Refusing refusal text) → NoneFailed w other
    → IsSomeRefusal status ⊎ (status ≡ statuses.NoMemory)
ran_refused_always {w = w} {end = end} ran other given refusal text asks known gives none =
    let same = sym (ran.one other asks) in
    let mine = subst (λ (q : Request). Gives given q (Refusing refusal text)) same gives in
    let told_too = subst (λ (q : Request). IsKnown w q given) same known in
    let unfailed = subst (NoneFailed w) same none in
    let told = told_unfailed unfailed.err ran.told in
    ⊎_elim (λ ok. absurd (ran.how.refusing given refusal text told_too mine ok))
    (λ rest. ⊎_elim (λ r. inl (r.0, told ∙ ap status_of r.1)) (λ m. inr (told ∙ ap status_of m)) rest)
    (ended end ran unfailed)

-- a request was performed
pub ran_answer : {T : Type 0} (w : World) (words : List (List ℕ)) (request : Request) (end : Result T End) (status : Status) → Ran w words request end status → IsAnswer w words status
ran_answer w words request end status ran = record {
  answer = ⊎_elim
      (λ t. inl (subst (λ (s : Status). Stands w words s × Appends w.writes.err w.writes.err_after (status_text s)) (sym t.0) (stands end ran, t.1)))
      (λ f. inr (f.0, record { status = status_of end; stands = stands end ran; has = f.1; failed = f.2; said = f.3 }))
      ran.told.told;
  done_always = ran_done_always ran;
  refused_always = ran_refused_always ran;
  usage_always = λ none whole. absurd (none request ran.asks);
  sent = λ s. ⊎_elim
      (λ d. ran.sent_done (is_done end (sym (told_as (λ f. done_differs status f d) ran.told) ∙ d)))
      (λ r. ran.sent_refused r.0 (is_refused end r.0 (sym (told_as (λ f. refused_differs status r.0 f r.1) ran.told) ∙ r.1)))
      s;
  sent_read = λ r. ran.sent_read (is_read end (sym (told_as (λ f. read_differs status f r) ran.told) ∙ r));
  input = λ unread. ran.input (unread request ran.asks);
  kept = record { held = ran.held; files = ran.files_later; input = ran.input_later; out = ran.how.later; err = ran.told.later };
}

pub same_request : (a b : Request) → Some a ≡ Some b → a ≡ b
same_request a b e = cc

-- the words asked for nothing
pub usage_answer : (r : Readings) (o : Writings) (words : List (List ℕ)) (status : Status) → ((request : Request) → Asks words request → ⊥) → r.held_after ≡ r.held
    → r.file_faults_after ≡ r.file_faults → r.input_after ≡ r.input → r.input_faults_after ≡ r.input_faults → o.out_after ≡ o.out → o.out_faults_after ≡ o.out_faults
    → IsTold statuses.Usage o.err o.err_after o.err_faults o.err_faults_after status → IsAnswer (world r o) words status
usage_answer r o words status none held files left input out faults told = record {
  answer = ⊎_elim
      (λ t. inl (subst (λ (s : Status). Stands (world r o) words s × Appends o.err o.err_after (status_text s)) (sym t.0) (usage, t.1)))
      (λ f. inr (f.0, record { status = statuses.Usage; stands = usage; has = refl; failed = f.2; said = f.3 }))
      told.told;
  done_always = λ request given text asks. absurd (none request asks);
  refused_always = λ request given refusal text asks. absurd (none request asks);
  usage_always = λ no whole. told_unfailed whole told;
  sent = λ s. absurd (⊎_elim (λ d. usage_is_no_done (sym (told_as (λ f. done_differs status f d) told) ∙ d)) (λ q. usage_is_no_refusal q.0 (sym (told_as (λ f. refused_differs status q.0 f q.1) told) ∙ q.1)) s);
  sent_read = λ s. absurd (usage_is_no_read (sym (told_as (λ f. read_differs status f s) told) ∙ s));
  input = λ unread. (left, input);
  kept = record {
    held = held;
    files = λ name. subst (λ (n : ℕ). r.file_faults name ≤ n) (sym (ap (λ (f : List ℕ → ℕ). f name) files)) (omega arith);
    input = omega (arith, input);
    out = omega (arith, faults);
    err = told.later;
  };
}
  where
    usage : Stands (world r o) words statuses.Usage
    usage = record { none = none; written = subst (λ (s : Option (List ℕ)). Appends o.out s []) (sym out) (appends_none o.out) }

    usage_is_no_done : statuses.Usage ≡ statuses.Done → ⊥
    usage_is_no_done e = cc

    usage_is_no_refusal : (q : Refusal) → statuses.Usage ≡ statuses.Refused q → ⊥
    usage_is_no_refusal q e = cc

    usage_is_no_read : statuses.Usage ≡ statuses.ReadFault → ⊥
    usage_is_no_read e = cc
