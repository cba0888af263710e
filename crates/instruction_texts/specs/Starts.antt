-- How the texts of a form begin, and how a line may.
use Rattle.std.specs.Prelude.{◌≡◌, ℕ, zero, suc, ◌-◌, List, [], ◌∷◌, ◌++◌, length, take, Option, Some, None, slice_index_or, if◌then◌else◌, ◌⊎◌}
use Rattle.asm_source.specs.Plain.{PlainToken, Run, Sign, Operand}
use Rattle.asm_source.specs.Bytes.{is_digit}
use Rattle.instruction_trees.specs.Trees.{In}
use Rattle.instruction_texts.specs.declared.shapes.Shape.{Shape}
use Rattle.instruction_texts.specs.declared.shapes.Shape.TheVariants.{Other, Literal, Unsigned, Signed}
use Rattle.instruction_texts.specs.declared.starts.Start.{Start}
use Rattle.instruction_texts.specs.declared.starts.Start.TheVariants as starts

-- a character, a run, or a run that is this prefix and a number
pub data Beginning : Type 0 where
  Mark : ℕ → Beginning
  Word : List ℕ → Beginning
  Prefix : List ℕ → Beginning

abbrev pub start_of : Start → Beginning
start_of (starts.Sign c) = Mark c
start_of (starts.Word w) = Word w.now
start_of (starts.Prefix p) = Prefix p.now

-- how the texts of a form begin, where its first number isn't a negative one
abbrev pub first_start : List Shape → Option Beginning
first_start [] = None
first_start (Other c ∷ ss) = Some (Mark c)
first_start (Literal p ∷ ss) = Some (Word p)
first_start (Unsigned hex p n ∷ ss) = Some (Prefix p)
first_start (Signed p n ∷ ss) = Some (Prefix p)

abbrev pub minus_start : List ℕ → Beginning
minus_start [] = Mark 45
minus_start (c ∷ p) = Word (c ∷ p)

-- how those begin that begin with a negative number
abbrev pub negative_start : List Shape → Option Beginning
negative_start (Signed p n ∷ ss) = Some (minus_start p)
negative_start _ = None

-- the first k characters, where a digit follows them
abbrev pub prefix_at : List ℕ → ℕ → List Beginning
prefix_at run k = if is_digit (slice_index_or run k 0) then Prefix (take k run) ∷ [] else []

-- those of the next n lengths, from k on
abbrev pub prefixes : List ℕ → ℕ → ℕ → List Beginning
prefixes run k zero = []
prefixes run k (suc n) = prefix_at run k ++ prefixes run (suc k) n

-- a number of 64 bits has at most 20 characters
abbrev pub run_prefixes : List ℕ → List Beginning
run_prefixes run = prefixes run (length run - 20) (length run - (length run - 20))

abbrev pub line_starts : List PlainToken → List Beginning
line_starts [] = []
line_starts (Sign c ∷ line) = Mark c ∷ []
line_starts (Run w ∷ line) = Word w ∷ run_prefixes w
line_starts (Operand p s ∷ line) = Prefix p ∷ []

-- one of the form's starts is among these
abbrev pub HasStart : List Shape → List Beginning → Type 0
HasStart [] bs = Unit {0}
HasStart (s ∷ ss) bs = (b : Beginning) × ((first_start (s ∷ ss) ≡ Some b) ⊎ (negative_start (s ∷ ss) ≡ Some b)) × In b bs
