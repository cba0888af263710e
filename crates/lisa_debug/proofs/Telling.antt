-- What a session gives of an input whose bytes are told.
use Rattle.std.proofs.Common.{◌≡◌, ℕ, ◌+◌, ◌-◌, ◌≤◌, List, [], ◌++◌, length, take, Bool, true, false, refl, sym, ap, subst, ◌∙◌, arith, length-append, Option, Some, None, Result, Ok, Err, inl, ⊎_elim}
use Rattle.std.specs.Prelude.{◌&&◌, nat_lt}
use Rattle.std.specs.Io.KnownBytes.{Appends, Consumes, IsAtEnd}
use Rattle.std.proofs.Math.Bool.{and-false}
use Rattle.std.proofs.Math.Seq.{take-append-add}
use Rattle.std.proofs.lemmas.Bool.{lt-ltb, le-ltb}
use Rattle.std.proofs.lemmas.List.{append-nil, take-append-le, take_all}
use Rattle.lisa_io.specs.Contents.{AppendsFront}
use Rattle.lisa_engine.specs.Machines.{Course}
use Rattle.lisa_debug.specs.Answers.{Answer}
use Rattle.lisa_debug.specs.Sessions.{answers, whole_lines, lines_of, most_input, goes_on, first_bytes, is_too_long, session_text}
use Rattle.lisa_debug.specs.Runs.{IsWhole, AreHeard, GoesOn, IsOver, Ran, Gives}
use Rattle.lisa_debug.specs.declared.command.Go.TheVariants.{On, Quit}
use Rattle.lisa_debug.specs.declared.ends.SessionEnd.{SessionEnd}
use Rattle.lisa_debug.specs.declared.ends.SessionEnd.TheVariants.{NoMemory}
use Rattle.lisa_debug.proofs.Inputs.{Begins, whole_begins, lines_begin, answers_ended, answers_begin}
use Rattle.lisa_debug.proofs.Takings.{front_begins}

-- the bytes taken, and those that are left
record Told (input taken : List ℕ) (rest : Option (List ℕ)) : Type 0 where
  behind : List ℕ
  is : input ≡ taken ++ behind
  none : IsAtEnd rest → behind ≡ []

told : (input taken : List ℕ) (rest : Option (List ℕ)) → Consumes (Some input) rest taken → Told input taken rest
told input taken None consumed = absurd consumed
told input taken (Some ys) consumed = record { behind = ys; is = consumed; none = λ end. end }

-- as much of the first bytes as was taken
first_taken : (taken behind : List ℕ) → length taken ≤ most_input + 1 → first_bytes (taken ++ behind) ≡ taken ++ take (most_input + 1 - length taken) behind
first_taken taken behind within =
    let total : most_input + 1 ≡ length taken + (most_input + 1 - length taken) = omega arith in
    ap (λ n. take n (taken ++ behind)) total ∙ take-append-add taken behind (most_input + 1 - length taken)

-- the text of a session, by whether its input is too long
text_true : (course : Course) (input : List ℕ) → is_too_long course input ≡ true → session_text course input ≡ (answers course (whole_lines (first_bytes input))).text
text_true course input is = rw is refl

text_false : (course : Course) (input : List ℕ) → is_too_long course input ≡ false → session_text course input ≡ (answers course (lines_of input)).text
text_false course input is = rw is refl

session_begins : (course : Course) (input taken behind : List ℕ) → input ≡ taken ++ behind → length taken ≤ most_input + 1
    → Begins (answers course (whole_lines taken)).text (session_text course input)
session_begins course input taken behind is within = decide (is_too_long course input) refl
  where
    decide : (b : Bool) → is_too_long course input ≡ b → Begins (answers course (whole_lines taken)).text (session_text course input)
    decide true long =
        let first : first_bytes input ≡ taken ++ take (most_input + 1 - length taken) behind = ap first_bytes is ∙ first_taken taken behind within in
        subst (Begins (answers course (whole_lines taken)).text) (sym (text_true course input long ∙ ap (λ t. (answers course (whole_lines t)).text) first))
        (answers_begin course (whole_lines taken) (whole_lines (taken ++ take (most_input + 1 - length taken) behind)) (whole_begins taken (take (most_input + 1 - length taken) behind)))
    decide false short =
        subst (Begins (answers course (whole_lines taken)).text) (sym (text_false course input short ∙ ap (λ t. (answers course (lines_of t)).text) is))
        (answers_begin course (whole_lines taken) (lines_of (taken ++ behind)) (lines_begin taken behind))

-- the whole input
not_long : (course : Course) (input : List ℕ) → length input ≤ most_input → is_too_long course input ≡ false
not_long course input short = ap (λ b. b && goes_on (answers course (whole_lines (first_bytes input))).go) (le-ltb most_input (length input) short)

-- a `quit` line among the bytes taken
quit_first : (course : Course) (input taken behind : List ℕ) → input ≡ taken ++ behind → length taken ≤ most_input + 1 → (answers course (whole_lines taken)).go ≡ Quit
    → is_too_long course input ≡ false
quit_first course input taken behind is within ended =
    let more = take (most_input + 1 - length taken) behind in
    let first : first_bytes input ≡ taken ++ more = ap first_bytes is ∙ first_taken taken behind within in
    let go : (answers course (whole_lines (first_bytes input))).go ≡ Quit
    = ap (λ t. (answers course (whole_lines t)).go) first
    ∙ ap (λ (a : Answer). a.go) (answers_ended course (whole_lines taken) (whole_lines (taken ++ more)) (whole_begins taken more) ended) ∙ ended in
    ap (λ g. nat_lt most_input (length input) && goes_on g) go ∙ and-false (nat_lt most_input (length input))

quit_text : (course : Course) (input taken behind : List ℕ) → input ≡ taken ++ behind → length taken ≤ most_input + 1 → (answers course (whole_lines taken)).go ≡ Quit
    → (answers course (whole_lines taken)).text ≡ session_text course input
quit_text course input taken behind is within ended =
    sym (text_false course input (quit_first course input taken behind is within ended) ∙ ap (λ t. (answers course (lines_of t)).text) is
    ∙ ap (λ (a : Answer). a.text) (answers_ended course (whole_lines taken) (lines_of (taken ++ behind)) (lines_begin taken behind) ended))

-- more bytes than an input may have
all_taken : (input taken behind : List ℕ) → input ≡ taken ++ behind → length taken ≡ most_input + 1 → first_bytes input ≡ taken
all_taken input taken behind is long =
    ap first_bytes is ∙ take-append-le (most_input + 1) taken behind (omega arith) ∙ take_all (most_input + 1) taken (omega arith)

is_long : (course : Course) (input taken behind : List ℕ) → input ≡ taken ++ behind → length taken ≡ most_input + 1 → (answers course (whole_lines taken)).go ≡ On
    → is_too_long course input ≡ true
is_long course input taken behind is long on =
    let go : (answers course (whole_lines (first_bytes input))).go ≡ On = ap (λ t. (answers course (whole_lines t)).go) (all_taken input taken behind is long) ∙ on in
    (λ i. lt-ltb most_input (length input) (omega (arith, long, ap length is, length-append taken behind)) i && goes_on (go i))

long_text : (course : Course) (input taken behind : List ℕ) → input ≡ taken ++ behind → length taken ≡ most_input + 1 → (answers course (whole_lines taken)).go ≡ On
    → (answers course (whole_lines taken)).text ≡ session_text course input
long_text course input taken behind is long on =
    sym (text_true course input (is_long course input taken behind is long on) ∙ ap (λ t. (answers course (whole_lines t)).text) (all_taken input taken behind is long))

-- the input is what was taken
record AllTaken (course : Course) (input taken : List ℕ) : Type 0 where
  short : is_too_long course input ≡ false
  text : (answers course (lines_of taken)).text ≡ session_text course input

all_of : (course : Course) (input taken : List ℕ) (rest : Option (List ℕ)) → Told input taken rest → IsWhole taken rest → AllTaken course input taken
all_of course input taken rest t whole =
    let same : input ≡ taken = t.is ∙ ap (λ b. taken ++ b) (t.none whole.end) ∙ append-nil taken in
    let short = not_long course input (omega (arith, ap length same, whole.short)) in
    record { short = short; text = sym (text_false course input short ∙ ap (λ l. (answers course (lines_of l)).text) same) }

over_told : (course : Course) (input taken : List ℕ) (rest : Option (List ℕ)) (lines : List (List ℕ)) (before after : Option (List ℕ)) → Told input taken rest
    → length taken ≤ most_input + 1 → AreHeard taken rest lines → IsOver course taken rest lines before after
    → (is_too_long course input ≡ false) × Appends before after (session_text course input)
over_told course input taken rest lines before after t within heard over = ⊎_elim
    (λ whole. ⊎_elim
    (λ quit.
    let ended : (answers course (whole_lines taken)).go ≡ Quit = ap (λ l. (answers course l).go) (sym whole) ∙ quit in (
      quit_first course input taken t.behind t.is within ended,
      subst (Appends before after) (ap (λ l. (answers course l).text) whole ∙ quit_text course input taken t.behind t.is within ended) over.all,
    ))
    (λ end. at_end end.0 end.1)
    over.ended)
    (λ end. at_end end.0 end.1)
    heard
  where
    at_end : lines ≡ lines_of taken → IsWhole taken rest → (is_too_long course input ≡ false) × Appends before after (session_text course input)
    at_end is whole =
        let all = all_of course input taken rest t whole in
        (all.short, subst (Appends before after) (ap (λ l. (answers course l).text) is ∙ all.text) over.all)

front_told : (course : Course) (input taken : List ℕ) (rest : Option (List ℕ)) (lines : List (List ℕ)) (before after : Option (List ℕ)) → Told input taken rest
    → length taken ≤ most_input + 1 → AreHeard taken rest lines → AppendsFront before after (answers course lines).text → AppendsFront before after (session_text course input)
front_told course input taken rest lines before after t within heard front = ⊎_elim
    (λ whole. front_begins before after (answers course (whole_lines taken)).text (session_text course input) (session_begins course input taken t.behind t.is within)
    (subst (λ l. AppendsFront before after (answers course l).text) whole front))
    (λ end. subst (AppendsFront before after) (ap (λ l. (answers course l).text) end.0 ∙ (all_of course input taken rest t end.1).text) front)
    heard

long_told : (course : Course) (input taken : List ℕ) (rest before after : Option (List ℕ)) → Told input taken rest → (length taken ≡ most_input + 1) × GoesOn course taken before after
    → (is_too_long course input ≡ true) × Appends before after (session_text course input)
long_told course input taken rest before after t long = (
  is_long course input taken t.behind t.is long.0 long.1.on,
  subst (Appends before after) (long_text course input taken t.behind t.is long.0 long.1.on) long.1.all,
)

pub gives_told : (course : Course) (input : List ℕ) (left rest before after : Option (List ℕ)) (r : Result (Unit {0}) SessionEnd) → left ≡ Some input → Ran course left rest before after r
    → Gives course input before after r
gives_told course input left rest before after (Ok u) is ran =
    let t = told input ran.taken rest (subst (λ l. Consumes l rest ran.taken) is ran.consumed) in
    record {
      done = over_told course input ran.taken rest ran.lines before after t ran.within ran.heard ran.done;
      too_long = λ long. absurd (cc);
      front = front_told course input ran.taken rest ran.lines before after t ran.within ran.heard ran.front;
    }
gives_told course input left rest before after (Err e) is ran =
    let t = told input ran.taken rest (subst (λ l. Consumes l rest ran.taken) is ran.consumed) in
    record {
      done = tt;
      too_long = λ long. long_told course input ran.taken rest before after t (ran.too_long long);
      front = front_told course input ran.taken rest ran.lines before after t ran.within ran.heard ran.front;
    }

-- nothing is taken, for want of memory
pub ran_nothing : (course : Course) (left before : Option (List ℕ)) → Consumes left left [] → AppendsFront before before [] → Ran course left left before before (Err NoMemory)
ran_nothing course left before none front = record {
  taken = [];
  lines = [];
  consumed = none;
  within = omega arith;
  heard = inl refl;
  done = tt;
  too_long = λ is. absurd (cc);
  read_fault = λ is. absurd (cc);
  front = front;
}
