-- Bytes of an input that are taken.
use Rattle.std.proofs.Common.{◌≡◌, ℕ, ◌+◌, ◌<◌, List, [], ◌∷◌, ◌++◌, length, take, drop, get_or, false, sym, ap, subst, ◌∙◌, arith, append_assoc, length-append, Option, Result, Ok, Err}
use Rattle.std.specs.Prelude.{◌==◌, OnOk, IfOk}
use Rattle.std.specs.Result.{IsErrAnd}
use Rattle.std.specs.Io.KnownBytes.{Appends}
use Rattle.std.proofs.lemmas.List.{take_more, take-append-le, take-append-drop}
use Rattle.std.proofs.Math.Seq.{take-append-add, take-length}
use Rattle.lisa_io.specs.Contents.{AppendsFront}
use Rattle.lisa_io.proofs.Known.{appends_more}
use Rattle.lisa_engine.specs.State.{State}
use Rattle.lisa_engine.specs.Traces.{PutsUnless}
use Rattle.lisa_engine.specs.declared.trace.TraceEnd.{TraceEnd}
use Rattle.lisa_engine.specs.Machines.{Course}
use Rattle.lisa_debug.specs.Answers.{Answer, answer}
use Rattle.lisa_debug.specs.Kept.{CameTo}
use Rattle.lisa_debug.specs.Sessions.{followed, next_answer, answers, whole_lines, rest_of}
use Rattle.lisa_debug.specs.Taking.{Stands, Takes}
use Rattle.lisa_debug.specs.declared.command.Go.{Go}
use Rattle.lisa_debug.specs.declared.command.Go.TheVariants.{On, Quit}
use Rattle.lisa_debug.specs.declared.journal.Journal.{Journal}
use Rattle.lisa_debug.proofs.Steps.{came_more, came_at}
use Rattle.lisa_debug.proofs.Inputs.{Begins, whole_feed, rest_feed, whole_other, rest_other, whole_begins, answers_more, answers_ended, answers_begin}

-- a front of a text, of a longer one, and a whole text
pub front_after : (a b c : Option (List ℕ)) (s t : List ℕ) → Appends a b s → AppendsFront b c t → AppendsFront a c (s ++ t)
front_after a b c s t p q = (length s + q.0, omega (arith, length-append s t, q.1), rw take-append-add (appends_more a b c s (take q.0 t) p q.2))

pub front_begins : (a b : Option (List ℕ)) (s t : List ℕ) → Begins s t → AppendsFront a b s → AppendsFront a b t
front_begins a b s t begins q = subst (AppendsFront a b) (sym begins.is)
    (q.0, omega (arith, length-append s begins.behind, q.1), rw (take-append-le q.0 s begins.behind q.1) q.2)

pub front_whole : (a b : Option (List ℕ)) (s : List ℕ) → Appends a b s → AppendsFront a b s
front_whole a b s p = (length s, omega arith, rw take-length p)

-- the answers to the lines before, and then one more
pub one_more : (course : Course) (taken : List ℕ) (next : Answer) → (answers course (whole_lines taken)).go ≡ On
    → answer course (answers course (whole_lines taken)).position (rest_of taken) ≡ next
    → answers course (whole_lines (taken ++ 10 ∷ [])) ≡ followed (answers course (whole_lines taken)) next
one_more course taken next on is =
    let before = answers course (whole_lines taken) in
    ap (answers course) (whole_feed taken) ∙ answers_more course (whole_lines taken) (rest_of taken)
    ∙ ap (λ go. next_answer course before go (rest_of taken)) on
    ∙ ap (followed before) is

pub answered_here : {course before : Course} {present : State} {journal : Journal} {line taken : List ℕ} (heard : List ℕ) → heard ≡ line → Stands course before present journal line taken
    → answer course (answers course (whole_lines taken)).position (rest_of taken) ≡ answer before (length journal.entries.items) heard
answered_here heard same st = λ i. answer (sym st.to.same i) (sym st.to.stands i) (sym (same ∙ st.kept) i)

-- a line feed, and the line before it is answered
pub takes_feed : {course before now : Course} {present after : State} {journal kept : Journal} {line : List ℕ} {x y : ℕ} (left taken heard : List ℕ) (start w v : Option (List ℕ)) (go : Go)
    → heard ≡ line → Stands course before present journal line taken → Appends start w (answers course (whole_lines taken)).text
    → PutsUnless {T = Go} w v x y (Ok go) (answer before (length journal.entries.items) heard).text
    → CameTo before now after kept (answer before (length journal.entries.items) heard).position → go ≡ (answer before (length journal.entries.items) heard).go → left ≡ []
    → Takes course now after kept left (taken ++ 10 ∷ []) start v (Ok go)
takes_feed {course = course} {before = before} {journal = journal} left taken heard start w v go same_line st had puts came goes none =
    let so_far = answers course (whole_lines taken) in
    let next = answer before (length journal.entries.items) heard in
    let whole = one_more course taken next st.on (answered_here heard same_line st) in
    let all : Appends start v (answers course (whole_lines (taken ++ 10 ∷ []))).text
    = subst (λ (a : Answer). Appends start v a.text) (sym whole) (appends_more start w v so_far.text next.text had puts.all) in
    let same : go ≡ (answers course (whole_lines (taken ++ 10 ∷ []))).go = goes ∙ sym (ap (λ (a : Answer). a.go) whole) in
    record {
      stands = λ on. record {
        to = came_more (answers course (whole_lines (taken ++ 10 ∷ []))).position st.to came (sym (ap (λ (a : Answer). a.position) whole));
        on = sym same ∙ on;
        kept = none ∙ sym (rest_feed taken);
      };
      goes = same;
      all = all;
      front = front_whole start v (answers course (whole_lines (taken ++ 10 ∷ []))).text all;
    }

-- it is answered in part
pub takes_part : {course before now : Course} {present after : State} {journal kept : Journal} {line : List ℕ} {T : Type 0} {x y : ℕ} {e : TraceEnd} (left taken heard : List ℕ) (start w v : Option (List ℕ))
    (r : Result Go TraceEnd) (Q : TraceEnd → Type 0) → IsErrAnd r Q
    → heard ≡ line → Stands course before present journal line taken → Appends start w (answers course (whole_lines taken)).text
    → PutsUnless {T = T} w v x y (Err e) (answer before (length journal.entries.items) heard).text
    → Takes course now after kept left (taken ++ 10 ∷ []) start v r
takes_part left taken heard start w v (Ok go) Q is same_line st had puts = absurd is
takes_part {course = course} {before = before} {journal = journal} left taken heard start w v (Err d) Q is same_line st had puts =
    let so_far = answers course (whole_lines taken) in
    let next = answer before (length journal.entries.items) heard in
    let whole = one_more course taken next st.on (answered_here heard same_line st) in
    record {
      stands = tt;
      goes = tt;
      all = tt;
      front = subst (λ (a : Answer). AppendsFront start v a.text) (sym whole) (front_after start w v so_far.text next.text had puts.front);
    }

-- another byte is kept
pub takes_other : {course before : Course} {present : State} {journal : Journal} {line : List ℕ} (byte : ℕ) (left taken : List ℕ) (start w : Option (List ℕ)) (r : Result Go TraceEnd)
    → (byte == 10) ≡ false → Stands course before present journal line taken → Appends start w (answers course (whole_lines taken)).text
    → OnOk r (left ≡ line ++ byte ∷ []) → IfOk r (λ go. go ≡ On)
    → Takes course before present journal left (taken ++ byte ∷ []) start w r
takes_other {course = course} {line = line} byte left taken start w (Ok go) other st had kept on =
    let same : answers course (whole_lines (taken ++ byte ∷ [])) ≡ answers course (whole_lines taken) = ap (answers course) (whole_other byte other taken) in
    let all : Appends start w (answers course (whole_lines (taken ++ byte ∷ []))).text = subst (λ (a : Answer). Appends start w a.text) (sym same) had in
    record {
      stands = λ _. record {
        to = came_at (answers course (whole_lines (taken ++ byte ∷ []))).position st.to (sym (ap (λ (a : Answer). a.position) same));
        on = ap (λ (a : Answer). a.go) same ∙ st.on;
        kept = kept ∙ ap (λ t. t ++ byte ∷ []) st.kept ∙ sym (rest_other byte other taken);
      };
      goes = on ∙ sym (ap (λ (a : Answer). a.go) same ∙ st.on);
      all = all;
      front = front_whole start w (answers course (whole_lines (taken ++ byte ∷ []))).text all;
    }
takes_other {course = course} byte left taken start w (Err e) other st had kept on =
    let same : answers course (whole_lines (taken ++ byte ∷ [])) ≡ answers course (whole_lines taken) = ap (answers course) (whole_other byte other taken) in
    record {
      stands = tt;
      goes = tt;
      all = tt;
      front = front_whole start w (answers course (whole_lines (taken ++ byte ∷ []))).text (subst (λ (a : Answer). Appends start w a.text) (sym same) had);
    }

-- more bytes behind a `quit` line, or behind a failure
pub takes_ended : {course now : Course} {present : State} {journal : Journal} {line : List ℕ} (left xs ys : List ℕ) (start w : Option (List ℕ))
    → Takes course now present journal line xs start w (Ok Quit) → Takes course now present journal left (xs ++ ys) start w (Ok Quit)
takes_ended {course = course} left xs ys start w took =
    let same : answers course (whole_lines (xs ++ ys)) ≡ answers course (whole_lines xs)
    = answers_ended course (whole_lines xs) (whole_lines (xs ++ ys)) (whole_begins xs ys) (sym took.goes) in
    record {
      stands = λ (on : ◌≡◌ {A = Go} Quit On). absurd (cc);
      goes = took.goes ∙ sym (ap (λ (a : Answer). a.go) same);
      all = subst (λ (a : Answer). Appends start w a.text) (sym same) took.all;
      front = subst (λ (a : Answer). AppendsFront start w a.text) (sym same) took.front;
    }

pub takes_cut : {course now next : Course} {present after : State} {journal kept : Journal} {line : List ℕ} {e : TraceEnd} (left xs ys : List ℕ) (start w : Option (List ℕ))
    (r : Result Go TraceEnd) (Q : TraceEnd → Type 0) → IsErrAnd r Q
    → Takes course now present journal line xs start w (Err e) → Takes course next after kept left (xs ++ ys) start w r
takes_cut left xs ys start w (Ok go) Q is took = absurd is
takes_cut {course = course} left xs ys start w (Err d) Q is took = record {
  stands = tt;
  goes = tt;
  all = tt;
  front = front_begins start w (answers course (whole_lines xs)).text (answers course (whole_lines (xs ++ ys))).text
      (answers_begin course (whole_lines xs) (whole_lines (xs ++ ys)) (whole_begins xs ys)) took.front;
}

-- the bytes so far, and one more
pub so_far_more : (taken bytes : List ℕ) (k byte : ℕ) → k < length bytes → byte ≡ get_or bytes k 0 → (taken ++ take k bytes) ++ byte ∷ [] ≡ taken ++ take (k + 1) bytes
so_far_more taken bytes k byte within is =
    append_assoc taken (take k bytes) (byte ∷ []) ∙ ap (λ b. taken ++ (take k bytes ++ b ∷ [])) is ∙ ap (λ t. taken ++ t) (sym (take_more bytes k 0 within))

pub so_far_rest : (taken bytes : List ℕ) (k byte : ℕ) → k < length bytes → byte ≡ get_or bytes k 0 → ((taken ++ take k bytes) ++ byte ∷ []) ++ drop (k + 1) bytes ≡ taken ++ bytes
so_far_rest taken bytes k byte within is =
    ap (λ t. t ++ drop (k + 1) bytes) (so_far_more taken bytes k byte within is) ∙ append_assoc taken (take (k + 1) bytes) (drop (k + 1) bytes)
    ∙ ap (λ t. taken ++ t) (take-append-drop (k + 1) bytes)

-- the same bytes
pub takes_at : {course now : Course} {present : State} {journal : Journal} {line xs ys : List ℕ} {start w : Option (List ℕ)} {r : Result Go TraceEnd}
    → xs ≡ ys → Takes course now present journal line xs start w r → Takes course now present journal line ys start w r
takes_at {course = course} {now = now} {present = present} {journal = journal} {line = line} {start = start} {w = w} {r = r} same took =
    subst (λ t. Takes course now present journal line t start w r) same took

-- all bytes, of which none ended the session
pub takes_all : {course now : Course} {present : State} {journal : Journal} {line : List ℕ} (xs : List ℕ) (start w : Option (List ℕ))
    → Stands course now present journal line xs → Appends start w (answers course (whole_lines xs)).text → Takes course now present journal line xs start w (Ok On)
takes_all {course = course} xs start w st had = record { stands = λ _. st; goes = sym st.on; all = had; front = front_whole start w (answers course (whole_lines xs)).text had }
