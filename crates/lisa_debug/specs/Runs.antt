-- What a session over an input gives, however it ends.
use Rattle.std.specs.Prelude.{ℕ, ◌≤◌, ◌≡◌, ◌+◌, ◌⊎◌, List, Option, Result, Err, OnOk, true, false, length}
use Rattle.std.specs.Io.KnownBytes.{Appends, Consumes, IsAtEnd}
use Rattle.lisa_io.specs.Causes.{Rose}
use Rattle.lisa_io.specs.Contents.{AppendsFront}
use Rattle.lisa_engine.specs.Machines.{Course}
use Rattle.lisa_debug.specs.Sessions.{answers, whole_lines, lines_of, most_input, is_too_long, session_text}
use Rattle.lisa_debug.specs.declared.command.Go.TheVariants.{On, Quit}
use Rattle.lisa_debug.specs.declared.ends.SessionEnd.{SessionEnd}
use Rattle.lisa_debug.specs.declared.ends.SessionEnd.TheVariants.{TooLong, ReadFault, WriteFault}

-- these bytes are the whole input
pub record IsWhole (taken : List ℕ) (left : Option (List ℕ)) : Type 0 where
  pub end : IsAtEnd left
  pub short : length taken ≤ most_input

-- the lines of the bytes taken: those that end with a line feed, and all of them at the input's end
abbrev pub AreHeard : List ℕ → Option (List ℕ) → List (List ℕ) → Type 0
AreHeard taken left lines = (lines ≡ whole_lines taken) ⊎ ((lines ≡ lines_of taken) × IsWhole taken left)

-- all whole lines are answered, and none of them was `quit`
pub record GoesOn (course : Course) (taken : List ℕ) (before after : Option (List ℕ)) : Type 0 where
  pub on : (answers course (whole_lines taken)).go ≡ On
  pub all : Appends before after (answers course (whole_lines taken)).text

-- the last line that was answered is `quit`, or the input is at its end and its lines are answered
pub record IsOver (course : Course) (taken : List ℕ) (left : Option (List ℕ)) (lines : List (List ℕ)) (before after : Option (List ℕ)) : Type 0 where
  pub ended : ((answers course lines).go ≡ Quit) ⊎ ((lines ≡ lines_of taken) × IsWhole taken left)
  pub all : Appends before after (answers course lines).text

-- a session that took some bytes of an input: their lines are answered, or a front of the answers was appended
pub record Ran (course : Course) (left rest : Option (List ℕ)) (before after : Option (List ℕ)) (result : Result (Unit {0}) SessionEnd) : Type 0 where
  pub taken : List ℕ
  pub lines : List (List ℕ)
  pub consumed : Consumes left rest taken
  pub within : length taken ≤ most_input + 1
  pub heard : AreHeard taken rest lines
  pub done : OnOk result (IsOver course taken rest lines before after)
  pub too_long : result ≡ Err TooLong → (length taken ≡ most_input + 1) × GoesOn course taken before after
  pub read_fault : result ≡ Err ReadFault → GoesOn course taken before after
  pub front : AppendsFront before after (answers course lines).text

-- what it gives of an input whose bytes are told
pub record Gives (course : Course) (input : List ℕ) (before after : Option (List ℕ)) (result : Result (Unit {0}) SessionEnd) : Type 0 where
  pub done : OnOk result ((is_too_long course input ≡ false) × Appends before after (session_text course input))
  pub too_long : result ≡ Err TooLong → (is_too_long course input ≡ true) × Appends before after (session_text course input)
  pub front : AppendsFront before after (session_text course input)

-- a fault is told only where the count of the one that failed rose
pub record HasCauses {T : Type 0} (input_before input_now out_before out_now : ℕ) (result : Result T SessionEnd) : Type 0 where
  pub input_later : input_before ≤ input_now
  pub out_later : out_before ≤ out_now
  pub read_fault : result ≡ Err ReadFault → Rose input_before input_now
  pub write_fault : result ≡ Err WriteFault → Rose out_before out_now

-- what was put is sent on for good, unless the output failed or memory was wanted
pub record IsSent {T : Type 0} (sent written : Option (List ℕ)) (result : Result T SessionEnd) : Type 0 where
  pub done : OnOk result (sent ≡ written)
  pub too_long : result ≡ Err TooLong → sent ≡ written
  pub read_fault : result ≡ Err ReadFault → sent ≡ written
