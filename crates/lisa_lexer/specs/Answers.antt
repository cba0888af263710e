-- What the code answers, by what the definition gives.
use Rattle.std.specs.Prelude.{◌≡◌, ◌++◌, ℕ, ◌<◌, ◌≤◌, ◌⊎◌, List, length, Result, Ok, Err}
use Rattle.std.specs.Global.{Vec}
use Rattle.lisa_tree.specs.declared.faults.DescFault.{DescFault}
use Rattle.lisa_tree.specs.declared.faults.DescFault.TheVariants as faults
use Rattle.lisa_tree.specs.declared.tokens.Token.{Token}
use Rattle.lisa_tree.specs.Tokens.{Lexes, Breaks}
use Rattle.lisa_lexer.specs.declared.items.Item.{Item}
use Rattle.lisa_lexer.specs.declared.items.Item.TheVariants.{Skip, Take}
use Rattle.lisa_lexer.specs.Lexing.{◌>>=◌, Answer}

-- the definition gives this fault, unless memory ran out
abbrev pub Fails : {Y : Type 0} → DescFault → Result Y DescFault → Type 0
Fails faults.NoMemory read = Unit {0}
Fails fault read = read ≡ Err fault

-- what a function answered, seen by view, is what the definition gives, unless memory ran out
abbrev pub Gives : {X Y : Type 0} → (X → Y) → Result X DescFault → Result Y DescFault → Type 0
Gives view (Ok x) read = read ≡ Ok (view x)
Gives view (Err e) read = Fails e read

-- these tokens, or want of memory
abbrev pub GivesTokens : List Token → Result (Vec Token) DescFault → Type 0
GivesTokens ts (Ok v) = v.items ≡ ts
GivesTokens ts (Err fault) = fault ≡ faults.NoMemory

-- this fault, or want of memory
abbrev pub GivesFault : DescFault → Result (Vec Token) DescFault → Type 0
GivesFault f (Ok v) = ⊥
GivesFault f (Err fault) = (fault ≡ f) ⊎ (fault ≡ faults.NoMemory)

-- the first fault of the bytes, or want of memory
abbrev pub IsFirst : List ℕ → DescFault → Type 0
IsFirst bytes faults.NoMemory = Unit {0}
IsFirst bytes fault = Breaks 0 bytes fault

-- the bytes are some tokens, or have some fault
pub data HasOutcome (bytes : List ℕ) : Type 0 where
  lexes : (ts : List Token) → Lexes 0 bytes ts → HasOutcome bytes
  breaks : (fault : DescFault) → Breaks 0 bytes fault → HasOutcome bytes

abbrev pub item_len : Item → ℕ
item_len (Skip n) = n
item_len (Take n part) = n

-- a length that leaves less
abbrev pub IsPart : List ℕ → Item → Type 0
IsPart bytes i = (0 < item_len i) × (item_len i ≤ length bytes)

-- what was read before, and what is still read
abbrev pub with_front : List Token → Answer → Answer
with_front front r = r >>= λ ts. Ok (front ++ ts)
