-- What the code answers, by what the definition gives.
use Rattle.std.specs.Prelude.{◌≡◌, ◌++◌, ◌∷◌, [], Bool, true, false, List, Result, Ok, Err}
use Rattle.asm_source.specs.declared.flaw.Flaw.{Flaw}
use Rattle.asm_source.specs.declared.flaw.Flaw.TheVariants as flaws
use Rattle.asm_source.specs.declared.flaw.SourceFault.{SourceFault}
use Rattle.asm_source.specs.declared.flaw.SourceFault.TheVariants as faults
use Rattle.asm_source.specs.Plain.{PlainValue, PlainLine}
use Rattle.asm_source.specs.Sums.{◌>>=◌, Reading}
use Rattle.asm_source.specs.Parts.{past_expression}

abbrev pub Fails : {Y : Type 0} → Flaw → Result Y Flaw → Type 0
Fails flaws.NoMemory read = Unit {0}
Fails flaws.BadLine read = read ≡ Err flaws.BadLine
Fails flaws.UnknownDirective read = read ≡ Err flaws.UnknownDirective
Fails flaws.BadExpression read = read ≡ Err flaws.BadExpression

-- what a function answered, seen by view, is what the definition gives, unless memory ran out
abbrev pub Gives : {X Y : Type 0} → (X → Y) → Result X Flaw → Result Y Flaw → Type 0
Gives view (Ok x) read = read ≡ Ok (view x)
Gives view (Err e) read = Fails e read

-- what was read before, and what is still read
abbrev pub with_front : {A : Type 0} → List A → Reading (List A) → Reading (List A)
with_front front read = read >>= λ all. Ok (front ++ all.0, all.1)

-- the value that a text is was taken, or it is a bad expression, or the line is refused
abbrev pub Takes : Result Bool Flaw → List PlainValue → List PlainValue → Result PlainValue Flaw → Type 0
Takes (Ok true) old new read = (v : PlainValue) × (read ≡ Ok v) × (new ≡ old ++ v ∷ [])
Takes (Ok false) old new read = (read ≡ Err flaws.BadExpression) × (new ≡ old)
Takes (Err flaws.BadExpression) old new read = ⊥
Takes (Err flaws.BadLine) old new read = read ≡ Err flaws.BadLine
Takes (Err flaws.UnknownDirective) old new read = read ≡ Err flaws.UnknownDirective
Takes (Err flaws.NoMemory) old new read = Unit {0}

-- what comes of the values so far and what follows them
abbrev pub values_with : Bool → List PlainValue → Result (List PlainValue) Flaw → Result (List PlainValue) Flaw
values_with true front more = more >>= λ all. Ok (front ++ all)
values_with false front more = past_expression more

abbrev pub Misses : {Y : Type 0} → SourceFault → Result Y SourceFault → Type 0
Misses faults.NoMemory read = Unit {0}
Misses fault read = read ≡ Err fault

-- the same for a whole source
abbrev pub Finds : {X Y : Type 0} → (X → Y) → Result X SourceFault → Result Y SourceFault → Type 0
Finds view (Ok x) read = read ≡ Ok (view x)
Finds view (Err e) read = Misses e read

-- what was read before, and what follows it
abbrev pub lines_with : List PlainLine → Result (List PlainLine) SourceFault → Result (List PlainLine) SourceFault
lines_with front more = more >>= λ all. Ok (front ++ all)
