-- An input that is read to its end, to `quit`, to a fault or past its limit.
use Rattle.std.proofs.Common.{◌≡◌, ℕ, ◌+◌, ◌<◌, ◌≤◌, List, [], ◌∷◌, ◌++◌, length, refl, sym, ap, subst, ◌∙◌, arith, append_assoc, length-append, Option, Some, None, Result, Ok, Err, inl, inr, ⊎_elim}
use Rattle.std.specs.Prelude.{IfErr, ◌⊎◌}
use Rattle.std.specs.Result.{IsErrAnd}
use Rattle.std.specs.Io.KnownBytes.{Appends, Consumes, Keeps, IsAtEnd}
use Rattle.std.proofs.lemmas.List.{append-nil}
use Rattle.lisa_io.specs.Contents.{AppendsFront}
use Rattle.lisa_io.proofs.Known.{appends_more, appends_kept}
use Rattle.lisa_engine.specs.State.{State}
use Rattle.lisa_engine.specs.Traces.{PutsUnless}
use Rattle.lisa_engine.specs.declared.trace.TraceEnd.{TraceEnd}
use Rattle.lisa_engine.specs.declared.trace.TraceEnd.TheVariants as answer
use Rattle.lisa_debug.specs.Ends.{session_end}
use Rattle.lisa_engine.specs.Machines.{Course}
use Rattle.lisa_debug.specs.Answers.{Answer, answer}
use Rattle.lisa_debug.specs.Sessions.{next_answer, followed, answers, whole_lines, rest_of, last_line, lines_of, most_input}
use Rattle.lisa_debug.specs.Taking.{Stands, Takes, Finishes}
use Rattle.lisa_debug.specs.Runs.{IsWhole, GoesOn, Ran}
use Rattle.lisa_debug.specs.declared.command.Go.{Go}
use Rattle.lisa_debug.specs.declared.command.Go.TheVariants.{On, Quit}
use Rattle.lisa_debug.specs.declared.ends.SessionEnd.{SessionEnd}
use Rattle.lisa_debug.specs.declared.ends.SessionEnd.TheVariants.{TooLong, ReadFault, WriteFault, NoMemory}
use Rattle.lisa_debug.specs.declared.journal.Journal.{Journal}
use Rattle.lisa_debug.proofs.Inputs.{answers_more}
use Rattle.lisa_debug.proofs.Takings.{front_after, front_whole, answered_here}

pub consumes_more : (a b c : Option (List ℕ)) (xs ys : List ℕ) → Consumes a b xs → Consumes b c ys → Consumes a c (xs ++ ys)
consumes_more None b c xs ys p q = tt
consumes_more (Some us) None c xs ys p q = absurd p
consumes_more (Some us) (Some bs) None xs ys p q = absurd q
consumes_more (Some us) (Some bs) (Some cs) xs ys p q = p ∙ ap (λ t. xs ++ t) q ∙ sym (append_assoc xs ys cs)

pub consumes_kept : (a b c : Option (List ℕ)) (xs : List ℕ) → Consumes a b xs → Keeps b c → Consumes a c xs
consumes_kept None b c xs p q = tt
consumes_kept (Some us) None c xs p q = absurd p
consumes_kept (Some us) (Some bs) None xs p q = absurd q
consumes_kept (Some us) (Some bs) (Some cs) xs p q = p ∙ ap (λ t. xs ++ t) (sym q)

pub consumes_none : (a : Option (List ℕ)) → Consumes a a []
consumes_none None = tt
consumes_none (Some xs) = refl

-- the last line
last_some : (xs : List ℕ) → 0 < length xs → last_line xs ≡ xs ∷ []
last_some [] some = absurd (omega arith)
last_some (x ∷ xs) some = refl

last_none : (xs : List ℕ) → length xs ≡ 0 → last_line xs ≡ []
last_none [] none = refl
last_none (x ∷ xs) none = absurd (omega arith)

pub finishes_none : {course before : Course} {present : State} {journal : Journal} {T E : Type 0} {line taken : List ℕ} {start w : Option (List ℕ)} (v : T) → length line ≡ 0
    → Stands course before present journal line taken → Appends start w (answers course (whole_lines taken)).text → Finishes {T = T} {E = E} course taken start w (Ok v)
finishes_none {course = course} {line = line} {taken = taken} {start = start} {w = w} v none st had =
    let same : lines_of taken ≡ whole_lines taken
    = ap (λ t. whole_lines taken ++ t) (last_none (rest_of taken) (omega (arith, ap length st.kept))) ∙ append-nil (whole_lines taken) in
    let all : Appends start w (answers course (lines_of taken)).text = subst (λ ls. Appends start w (answers course ls).text) (sym same) had in
    record { all = all; front = front_whole start w (answers course (lines_of taken)).text all }

last_answer : (course : Course) (taken : List ℕ) (next : Answer) → 0 < length (rest_of taken) → (answers course (whole_lines taken)).go ≡ On
    → answer course (answers course (whole_lines taken)).position (rest_of taken) ≡ next
    → answers course (lines_of taken) ≡ followed (answers course (whole_lines taken)) next
last_answer course taken next some on is =
    let before = answers course (whole_lines taken) in
    ap (λ t. answers course (whole_lines taken ++ t)) (last_some (rest_of taken) some)
    ∙ answers_more course (whole_lines taken) (rest_of taken)
    ∙ ap (λ go. next_answer course before go (rest_of taken)) on
    ∙ ap (followed before) is

pub finishes_line : {course before : Course} {present : State} {journal : Journal} {T : Type 0} {line taken : List ℕ} {start w v : Option (List ℕ)} {x y : ℕ} {go : Go} (u : T) → 0 < length line
    → Stands course before present journal line taken → Appends start w (answers course (whole_lines taken)).text
    → PutsUnless {T = Go} w v x y (Ok go) (answer before (length journal.entries.items) line).text → Finishes {T = T} {E = TraceEnd} course taken start v (Ok u)
finishes_line {course = course} {before = before} {journal = journal} {line = line} {taken = taken} {start = start} {w = w} {v = v} u some st had puts =
    let next = answer before (length journal.entries.items) line in
    let whole = last_answer course taken next (omega (arith, ap length st.kept)) st.on (answered_here line refl st) in
    let all : Appends start v (answers course (lines_of taken)).text
    = subst (λ (a : Answer). Appends start v a.text) (sym whole) (appends_more start w v (answers course (whole_lines taken)).text next.text had puts.all) in
    record { all = all; front = front_whole start v (answers course (lines_of taken)).text all }

pub finishes_part : {course before : Course} {present : State} {journal : Journal} {T U : Type 0} {line taken : List ℕ} {start w v : Option (List ℕ)} {x y : ℕ} {e : TraceEnd}
    (r : Result T TraceEnd) (Q : TraceEnd → Type 0) → IsErrAnd r Q → 0 < length line
    → Stands course before present journal line taken → Appends start w (answers course (whole_lines taken)).text
    → PutsUnless {T = U} w v x y (Err e) (answer before (length journal.entries.items) line).text → Finishes {T = T} {E = TraceEnd} course taken start v r
finishes_part (Ok u) Q is some st had puts = absurd is
finishes_part {course = course} {before = before} {journal = journal} {line = line} {taken = taken} {start = start} {w = w} {v = v} (Err d) Q is some st had puts =
    let next = answer before (length journal.entries.items) line in
    let whole = last_answer course taken next (omega (arith, ap length st.kept)) st.on (answered_here line refl st) in
    record {
      all = tt;
      front = subst (λ (a : Answer). AppendsFront start v a.text) (sym whole) (front_after start w v (answers course (whole_lines taken)).text next.text had puts.front);
    }

-- a front that is kept
pub front_kept : (a b c : Option (List ℕ)) (s : List ℕ) → AppendsFront a b s → Keeps b c → AppendsFront a c s
front_kept a b c s p kept = (p.0, p.1, appends_kept a b c _ p.2 kept)

-- all that was put is sent on, or it failed
pub finishes_sent : {T U E F : Type 0} {u : T} {course : Course} {taken : List ℕ} {start w v : Option (List ℕ)} (r : Result U F)
    → Finishes {T = T} {E = E} course taken start w (Ok u) → Keeps w v → Finishes {T = U} {E = F} course taken start v r
finishes_sent {course = course} {taken = taken} {start = start} {w = w} {v = v} (Ok d) f kept = record {
  all = appends_kept start w v (answers course (lines_of taken)).text f.all kept;
  front = front_kept start w v (answers course (lines_of taken)).text f.front kept;
}
finishes_sent {course = course} {taken = taken} {start = start} {w = w} {v = v} (Err e) f kept = record {
  all = tt;
  front = front_kept start w v (answers course (lines_of taken)).text f.front kept;
}

pub finishes_exit : {T U E F : Type 0} {e : E} {course : Course} {taken : List ℕ} {start w : Option (List ℕ)} (r : Result U F) (Q : F → Type 0) → IsErrAnd r Q
    → Finishes {T = T} {E = E} course taken start w (Err e) → Finishes {T = U} {E = F} course taken start w r
finishes_exit (Ok d) Q is f = absurd is
finishes_exit (Err e) Q is f = record { all = tt; front = f.front }

-- bytes were taken so far, as many as are counted, and their whole lines are answered
pub record Reads (course now : Course) (present : State) (journal : Journal) (line : List ℕ) (count : ℕ) (left rest start written : Option (List ℕ)) : Type 0 where
  pub so_far : List ℕ
  pub consumed : Consumes left rest so_far
  pub counted : length so_far ≡ count
  pub within : count ≤ most_input + 1
  pub stands : Stands course now present journal line so_far
  pub put : Appends start written (answers course (whole_lines so_far)).text

-- nothing was taken, and nothing answered
pub reads_none : {course now : Course} {present : State} {journal : Journal} {line : List ℕ} (left start : Option (List ℕ)) → Stands course now present journal line []
    → Appends start start [] → Reads course now present journal line 0 left left start start
reads_none left start st none = record { so_far = []; consumed = consumes_none left; counted = refl; within = omega arith; stands = st; put = none }

goes_on : {course now : Course} {present : State} {journal : Journal} {line : List ℕ} {count : ℕ} {left rest start w : Option (List ℕ)} (v : Option (List ℕ))
    → (reads : Reads course now present journal line count left rest start w) → Keeps w v → GoesOn course reads.so_far start v
goes_on {course = course} {start = start} {w = w} v reads kept = record { on = reads.stands.on; all = appends_kept start w v (answers course (whole_lines reads.so_far)).text reads.put kept }

err_same : (e f : SessionEnd) → ◌≡◌ {A = Result (Unit {0}) SessionEnd} (Err e) (Err f) → e ≡ f
err_same e f is = cc

-- neither of the other ends
pub not_long : (e : SessionEnd) → (e ≡ ReadFault) ⊎ (e ≡ WriteFault) → e ≡ TooLong → ⊥
not_long TooLong ends is = ⊎_elim (λ x. absurd (cc)) (λ x. absurd (cc)) ends
not_long ReadFault ends is = absurd (cc)
not_long WriteFault ends is = absurd (cc)
not_long NoMemory ends is = absurd (cc)

pub session_ends : (e : TraceEnd) → (session_end e ≡ NoMemory) ⊎ (session_end e ≡ WriteFault)
session_ends answer.WriteFault = inr refl
session_ends answer.NoMemory = inl refl

-- the session stops after what was taken
pub ran_stop : {course now : Course} {present : State} {journal : Journal} {line : List ℕ} {count : ℕ} {left rest start w : Option (List ℕ)} (next v : Option (List ℕ))
    (r : Result (Unit {0}) SessionEnd) (end : SessionEnd) → IsErrAnd r (λ e. e ≡ end)
    → Reads course now present journal line count left rest start w → Keeps rest next → Keeps w v → (end ≡ TooLong → count ≡ most_input + 1)
    → Ran course left next start v r
ran_stop next v (Ok u) end is reads left_kept kept long = absurd is
ran_stop {course = course} {left = left} {rest = rest} {start = start} {w = w} next v (Err e) end is reads left_kept kept long = record {
  taken = reads.so_far;
  lines = whole_lines reads.so_far;
  consumed = consumes_kept left rest next reads.so_far reads.consumed left_kept;
  within = omega (arith, reads.counted, reads.within);
  heard = inl refl;
  done = tt;
  too_long = λ is_long. (reads.counted ∙ long (sym is ∙ err_same e TooLong is_long), goes_on v reads kept);
  read_fault = λ _. goes_on v reads kept;
  front = front_whole start v (answers course (whole_lines reads.so_far)).text (appends_kept start w v (answers course (whole_lines reads.so_far)).text reads.put kept);
}

-- neither of the two other ends
is_neither : (e : SessionEnd) → (e ≡ NoMemory) ⊎ (e ≡ WriteFault) → (◌≡◌ {A = Result (Unit {0}) SessionEnd} (Err e) (Err TooLong) → ⊥) × (◌≡◌ {A = Result (Unit {0}) SessionEnd} (Err e) (Err ReadFault) → ⊥)
is_neither TooLong ends = absurd (⊎_elim (λ x. absurd (cc)) (λ x. absurd (cc)) ends)
is_neither ReadFault ends = absurd (⊎_elim (λ x. absurd (cc)) (λ x. absurd (cc)) ends)
is_neither WriteFault ends = (λ x. absurd (cc), λ x. absurd (cc))
is_neither NoMemory ends = (λ x. absurd (cc), λ x. absurd (cc))

-- the input is at its end
pub ran_end : {course now : Course} {present : State} {journal : Journal} {line : List ℕ} {count : ℕ} {left rest start w : Option (List ℕ)} (next v : Option (List ℕ)) (r : Result (Unit {0}) SessionEnd)
    → (reads : Reads course now present journal line count left rest start w) → Consumes rest next [] → IsAtEnd next → count ≤ most_input
    → Finishes course reads.so_far start v r → IfErr r (λ e. (e ≡ NoMemory) ⊎ (e ≡ WriteFault))
    → Ran course left next start v r
ran_end {course = course} {left = left} {rest = rest} {start = start} next v (Ok u) reads none end short f ends =
    let whole : IsWhole reads.so_far next = record { end = end; short = omega (arith, reads.counted) } in
    record {
      taken = reads.so_far;
      lines = lines_of reads.so_far;
      consumed = subst (Consumes left next) (append-nil reads.so_far) (consumes_more left rest next reads.so_far [] reads.consumed none);
      within = omega (arith, reads.counted, reads.within);
      heard = inr (refl, whole);
      done = record { ended = inr (refl, whole); all = f.all };
      too_long = λ is. absurd (cc);
      read_fault = λ is. absurd (cc);
      front = f.front;
    }
ran_end {course = course} {left = left} {rest = rest} {start = start} next v (Err e) reads none end short f ends =
    let whole : IsWhole reads.so_far next = record { end = end; short = omega (arith, reads.counted) } in
    record {
      taken = reads.so_far;
      lines = lines_of reads.so_far;
      consumed = subst (Consumes left next) (append-nil reads.so_far) (consumes_more left rest next reads.so_far [] reads.consumed none);
      within = omega (arith, reads.counted, reads.within);
      heard = inr (refl, whole);
      done = tt;
      too_long = λ is. absurd ((is_neither e ends).0 is);
      read_fault = λ is. absurd ((is_neither e ends).1 is);
      front = f.front;
    }

-- more bytes were taken, and an answer failed
pub ran_failed : {course now next : Course} {present after : State} {journal kept : Journal} {line heard : List ℕ} {count : ℕ} {left rest start w : Option (List ℕ)} {d : TraceEnd}
    (last v : Option (List ℕ)) (bytes : List ℕ) (r : Result (Unit {0}) SessionEnd) → IsErrAnd r (λ e. e ≡ session_end d)
    → (reads : Reads course now present journal line count left rest start w) → Consumes rest last bytes → count + length bytes ≤ most_input + 1
    → Takes course next after kept heard (reads.so_far ++ bytes) start v (Err d)
    → Ran course left last start v r
ran_failed last v bytes (Ok u) is reads more within took = absurd is
ran_failed {course = course} {left = left} {rest = rest} {start = start} {d = d} last v bytes (Err e) fails reads more within took = record {
  taken = reads.so_far ++ bytes;
  lines = whole_lines (reads.so_far ++ bytes);
  consumed = consumes_more left rest last reads.so_far bytes reads.consumed more;
  within = omega (arith, reads.counted, length-append reads.so_far bytes);
  heard = inl refl;
  done = tt;
  too_long = λ is. absurd ((is_neither e (subst (λ (x : SessionEnd). (x ≡ NoMemory) ⊎ (x ≡ WriteFault)) (sym fails) (session_ends d))).0 is);
  read_fault = λ is. absurd ((is_neither e (subst (λ (x : SessionEnd). (x ≡ NoMemory) ⊎ (x ≡ WriteFault)) (sym fails) (session_ends d))).1 is);
  front = took.front;
}

-- a `quit` line ended among them
pub ran_quit : {course now next : Course} {present after : State} {journal kept : Journal} {line heard : List ℕ} {count : ℕ} {left rest start w v : Option (List ℕ)}
    (last flushed : Option (List ℕ)) (bytes : List ℕ) (r : Result (Unit {0}) SessionEnd) → IfErr r (λ e. e ≡ WriteFault)
    → (reads : Reads course now present journal line count left rest start w) → Consumes rest last bytes → count + length bytes ≤ most_input + 1
    → Takes course next after kept heard (reads.so_far ++ bytes) start v (Ok Quit) → Keeps v flushed
    → Ran course left last start flushed r
ran_quit {course = course} {left = left} {rest = rest} {start = start} {v = v} last flushed bytes (Ok u) ends reads more within took sent =
    let all = appends_kept start v flushed (answers course (whole_lines (reads.so_far ++ bytes))).text took.all sent in
    record {
      taken = reads.so_far ++ bytes;
      lines = whole_lines (reads.so_far ++ bytes);
      consumed = consumes_more left rest last reads.so_far bytes reads.consumed more;
      within = omega (arith, reads.counted, length-append reads.so_far bytes);
      heard = inl refl;
      done = record { ended = inl (sym took.goes); all = all };
      too_long = λ is. absurd (cc);
      read_fault = λ is. absurd (cc);
      front = front_whole start flushed (answers course (whole_lines (reads.so_far ++ bytes))).text all;
    }
ran_quit {course = course} {left = left} {rest = rest} {start = start} {v = v} last flushed bytes (Err e) ends reads more within took sent = record {
  taken = reads.so_far ++ bytes;
  lines = whole_lines (reads.so_far ++ bytes);
  consumed = consumes_more left rest last reads.so_far bytes reads.consumed more;
  within = omega (arith, reads.counted, length-append reads.so_far bytes);
  heard = inl refl;
  done = tt;
  too_long = λ is. absurd ((is_neither e (inr ends)).0 is);
  read_fault = λ is. absurd ((is_neither e (inr ends)).1 is);
  front = front_whole start flushed (answers course (whole_lines (reads.so_far ++ bytes))).text
      (appends_kept start v flushed (answers course (whole_lines (reads.so_far ++ bytes))).text took.all sent);
}

-- and the session goes on
pub reads_more : {course now next : Course} {present after : State} {journal kept : Journal} {line heard : List ℕ} {count : ℕ} {left rest start w v : Option (List ℕ)}
    (last : Option (List ℕ)) (bytes : List ℕ) (total : ℕ) → (reads : Reads course now present journal line count left rest start w) → Consumes rest last bytes → count + length bytes ≡ total → total ≤ most_input + 1
    → Takes course next after kept heard (reads.so_far ++ bytes) start v (Ok On) → Reads course next after kept heard total left last start v
reads_more {left = left} {rest = rest} last bytes total reads more is within took = record {
  so_far = reads.so_far ++ bytes;
  consumed = consumes_more left rest last reads.so_far bytes reads.consumed more;
  counted = omega (arith, reads.counted, length-append reads.so_far bytes);
  within = within;
  stands = took.stands refl;
  put = took.all;
}
