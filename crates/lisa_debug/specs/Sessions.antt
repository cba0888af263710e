-- What a session answers to an input, from the states of its course alone.
use Rattle.std.specs.Prelude.{ℕ, ◌+◌, ◌-◌, ◌==◌, ◌&&◌, List, [], ◌∷◌, ◌++◌, length, take, fold, slice_index_or, nat_lt, Bool, true, false, if◌then◌else◌}
use Rattle.std.specs.List.{slice_split}
use Rattle.lisa_engine.specs.Machines.{Course}
use Rattle.lisa_debug.specs.Answers.{Answer, answer}
use Rattle.lisa_debug.specs.declared.command.Go.{Go}
use Rattle.lisa_debug.specs.declared.command.Go.TheVariants.{On, Quit}

-- a session is after no edge first, and has answered nothing
abbrev pub first_answer : Answer
first_answer = record { text = []; position = 0; go = On }

-- one answer, and then another
abbrev pub followed : Answer → Answer → Answer
followed before next = record { text = before.text ++ next.text; position = next.position; go = next.go }

-- the next line is answered after as many edges as the lines before it led to; behind `quit` no line is answered
abbrev pub next_answer : Course → Answer → Go → List ℕ → Answer
next_answer course before On line = followed before (answer course before.position line)
next_answer course before Quit line = before

abbrev pub answered : Course → Answer → List ℕ → Answer
answered course before line = next_answer course before before.go line

-- the answers to lines, one after another
abbrev pub answers : Course → List (List ℕ) → Answer
answers course lines = fold (answered course) first_answer lines

-- the parts of an input between its line feeds
abbrev pub parts : List ℕ → List (List ℕ)
parts input = slice_split (λ byte. byte == 10) input

-- its lines that end with a line feed: all parts but the last
abbrev pub whole_lines : List ℕ → List (List ℕ)
whole_lines input = take (length (parts input) - 1) (parts input)

-- the bytes behind its last line feed
abbrev pub rest_of : List ℕ → List ℕ
rest_of input = slice_index_or (parts input) (length (parts input) - 1) []

-- bytes behind the last line feed are one more line, where there are any
abbrev pub last_line : List ℕ → List (List ℕ)
last_line [] = []
last_line (byte ∷ bytes) = (byte ∷ bytes) ∷ []

abbrev pub lines_of : List ℕ → List (List ℕ)
lines_of input = whole_lines input ++ last_line (rest_of input)

-- how many bytes an input has at most
abbrev pub most_input : ℕ
most_input = 1048576

abbrev pub goes_on : Go → Bool
goes_on On = true
goes_on Quit = false

-- the first bytes of an input, of which one is too many
abbrev pub first_bytes : List ℕ → List ℕ
first_bytes input = take (most_input + 1) input

-- it has more bytes, and no whole line among the first of them is `quit`
abbrev pub is_too_long : Course → List ℕ → Bool
is_too_long course input = nat_lt most_input (length input) && goes_on (answers course (whole_lines (first_bytes input))).go

-- what is answered to an input
abbrev pub session_text : Course → List ℕ → List ℕ
session_text course input =
    if is_too_long course input then (answers course (whole_lines (first_bytes input))).text
    else (answers course (lines_of input)).text
