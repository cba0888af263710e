-- Runs of word characters, the numbers in which they end, and the texts that two of them share.
use Rattle.std.specs.Prelude.{ℕ, ◌+◌, ◌-◌, ◌*◌, ◌^◌, Bool, true, false, not, ◌&&◌, ◌||◌, List, [], ◌∷◌, ◌++◌, length, Option, Some, None, nat_eq, nat_lt, nat_le, if◌then◌else◌}
use Rattle.std.specs.List.{find}
use Rattle.instruction_texts.specs.declared.shapes.Ending.{Ending}
use Rattle.instruction_texts.specs.declared.shapes.Ending.TheVariants.{Plain, Number}

-- the value of a digit, lower case where it is a letter, and 99 for what is none
abbrev pub digit : ℕ → ℕ
digit c = if nat_le 48 c && nat_le c 57 then c - 48 else if nat_le 97 c && nat_le c 102 then c - 87 else 99

abbrev pub base_of : Bool → ℕ
base_of hex = if hex then 16 else 10

-- the number that digits write
abbrev pub value : ℕ → List ℕ → ℕ
value base [] = 0
value base (c ∷ cs) = digit c * base ^ length cs + value base cs

abbrev pub all_digits : ℕ → List ℕ → Bool
all_digits base [] = true
all_digits base (c ∷ cs) = nat_lt (digit c) base && all_digits base cs

-- some digit, and no zero before another one
abbrev pub is_plain : List ℕ → Bool
is_plain [] = false
is_plain (c ∷ []) = true
is_plain (c ∷ d ∷ cs) = not (nat_eq (digit c) 0)

-- these characters stand behind the prefix of a run with this ending
abbrev pub ends : Ending → List ℕ → Bool
ends Plain [] = true
ends Plain (c ∷ cs) = false
ends (Number hex positive high) cs = (all_digits (base_of hex) cs && is_plain cs) && (nat_le (value (base_of hex) cs) high && (not positive || nat_lt 0 (value (base_of hex) cs)))

-- what follows a prefix
abbrev pub strip : List ℕ → List ℕ → Option (List ℕ)
strip [] cs = Some cs
strip (p ∷ ps) [] = None
strip (p ∷ ps) (c ∷ cs) = if nat_eq p c then strip ps cs else None

abbrev pub ends_some : Ending → Option (List ℕ) → Bool
ends_some e None = false
ends_some e (Some cs) = ends e cs

-- the text is the prefix and what may stand behind it
abbrev pub accepts : List ℕ → Ending → List ℕ → Bool
accepts p e text = ends_some e (strip p text)

-- texts of which one is common to two runs, if any is
abbrev pub tries : List ℕ → Ending → List (List ℕ)
tries p Plain = p ∷ []
tries p (Number hex positive high) = (p ++ 48 ∷ []) ∷ (p ++ 49 ∷ []) ∷ []

abbrev pub common_run : List ℕ → Ending → List ℕ → Ending → Option (List ℕ)
common_run p e q f = find (λ t. accepts p e t && accepts q f t) (tries p e ++ tries q f)
