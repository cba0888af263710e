-- What the code answers, by what the definition gives.
use Rattle.std.specs.Prelude.{◌≡◌, ◌++◌, ℕ, ◌<◌, ◌≤◌, ◌^◌, ◌⊎◌, List, length, map, Result, Ok, Err, Option, Some, None}
use Rattle.std.specs.Global.{Vec}
use Rattle.lisa_words.specs.declared.words.Word.{Word}
use Rattle.verilog_text.specs.declared.faults.VerilogFault.{VerilogFault}
use Rattle.verilog_text.specs.declared.faults.VerilogFault.TheVariants as faults
use Rattle.verilog_text.specs.declared.tokens.VToken.{VToken}
use Rattle.verilog_text.specs.Tokens.{VTok, vtok_of, vtok_of_part}
use Rattle.verilog_text.specs.Lexing.{Breaks}
use Rattle.verilog_lexer.specs.declared.items.Found.{Found}
use Rattle.verilog_lexer.specs.declared.items.Found.TheVariants as founds
use Rattle.verilog_lexer.specs.Reading.{◌>>=◌, Answer, Item, Skip, Take}

abbrev pub placed : VToken → ℕ × VTok
placed t = (t.at, vtok_of t)

abbrev pub item_of : Found → Item
item_of (founds.Skip n) = Skip n
item_of (founds.Take n part) = Take n (vtok_of_part part)

abbrev pub found_len : Found → ℕ
found_len (founds.Skip n) = n
found_len (founds.Take n part) = n

-- the definition gives the fault at this byte, unless memory ran out
abbrev pub Fails : {Y : Type 0} → VerilogFault → Result Y ℕ → Type 0
Fails faults.NoMemory read = Unit {0}
Fails (faults.BadByte at) read = read ≡ Err at
Fails _ read = ⊥

-- what a function answered, seen by view, is what the definition gives, unless memory ran out
abbrev pub Gives : {X Y : Type 0} → (X → Y) → Result X VerilogFault → Result Y ℕ → Type 0
Gives view (Ok x) read = read ≡ Ok (view x)
Gives view (Err e) read = Fails e read

-- these tokens, or want of memory
abbrev pub GivesTokens : List (ℕ × VTok) → Result (Vec VToken) VerilogFault → Type 0
GivesTokens ts (Ok v) = map placed v.items ≡ ts
GivesTokens ts (Err fault) = fault ≡ faults.NoMemory

-- a fault at this byte, or want of memory
abbrev pub GivesFault : ℕ → Result (Vec VToken) VerilogFault → Type 0
GivesFault place (Ok v) = ⊥
GivesFault place (Err fault) = (fault ≡ faults.BadByte place) ⊎ (fault ≡ faults.NoMemory)

-- the first byte at fault, or want of memory
abbrev pub IsFirst : List ℕ → VerilogFault → Type 0
IsFirst bytes faults.NoMemory = Unit {0}
IsFirst bytes (faults.BadByte place) = Breaks 0 bytes place
IsFirst bytes _ = ⊥

-- a length that leaves less
abbrev pub IsPart : List ℕ → Found → Type 0
IsPart bytes f = (0 < found_len f) × (found_len f ≤ length bytes)

-- what was read before, and what is still read
abbrev pub with_front : List (ℕ × VTok) → Answer → Answer
with_front front r = r >>= λ ts. Ok (front ++ ts)

abbrev pub result_word : Option Word → Option (ℕ × ℕ)
result_word None = None
result_word (Some word) = Some (word.width, word.bits)
