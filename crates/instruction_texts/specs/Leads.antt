-- Prefixes with what belongs to the number behind them, and numbers that are small enough.
use Rattle.std.specs.Prelude.{◌≡◌, ◌≤◌, ℕ, Bool, true, List, Option, Some, None, ◌&&◌, ◌++◌, if◌then◌else◌}
use Rattle.instruction_texts.specs.declared.shapes.Ending.{Ending}
use Rattle.instruction_texts.specs.declared.shapes.Ending.TheVariants.{Plain, Number}
use Rattle.std.specs.List.{find}
use Rattle.instruction_texts.specs.declared.places.Run.{Run}
use Rattle.instruction_texts.specs.Runs.{base_of, value, all_digits, ends, strip, accepts, tries}
use Rattle.instruction_texts.specs.Shapes.{lead}

-- a prefix with the `0x` of the number that the ending is
abbrev pub lead_of : Ending → List ℕ → List ℕ
lead_of Plain p = p
lead_of (Number hex positive high) p = lead hex p

abbrev pub IsUpTo : ℕ → ℕ → List ℕ → Type 0
IsUpTo base high cs = (all_digits base cs ≡ true) × (value base cs ≤ high)

abbrev pub number_of : Bool → Bool → ℕ → Option (List ℕ) → Option ℕ
number_of hex positive high None = None
number_of hex positive high (Some cs) = if ends (Number hex positive high) cs then Some (value (base_of hex) cs) else None

-- the number of this kind that a text has behind a prefix
abbrev pub number_behind : Bool → Bool → ℕ → List ℕ → List ℕ → Option ℕ
number_behind hex positive high p text = number_of hex positive high (strip (lead hex p) text)

-- the text is one of the run
abbrev pub accepts_run : Run → List ℕ → Bool
accepts_run r text = accepts (lead_of r.ending r.prefix.now) r.ending text

-- the text is one of both runs
abbrev pub both_accept : Run → Run → List ℕ → Bool
both_accept r s text = accepts_run r text && accepts_run s text

abbrev pub run_tries : Run → List (List ℕ)
run_tries r = tries (lead_of r.ending r.prefix.now) r.ending

abbrev pub shared_run : Run → Run → Option (List ℕ)
shared_run r s = find (both_accept r s) (run_tries r ++ run_tries s)
