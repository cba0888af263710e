-- What is kept of a run from edge to edge.
use Rattle.std.specs.Prelude.{ℕ, ◌==◌, ◌%◌, List, [], ◌∷◌, ◌++◌, drop, slice_index, if◌then◌else◌, Option, Some, None}
use Rattle.lisa_engine.specs.declared.parts.Setting.{Setting}
use Rattle.lisa_board.specs.declared.parts.Console.{Console}
use Rattle.lisa_board.specs.Feeding.{rest_of, offer}

-- what is left of the input, and the values of STROBE and TAKEN in the last row
pub record Seen : Type 0 where
  pub rest : List ℕ
  pub strobe : ℕ
  pub taken : ℕ

-- what is kept for a console where this row is the last, behind others
abbrev pub seen_by : Option Console → List ℕ → List (List ℕ) → List ℕ → Seen
seen_by None input earlier row = record { rest = input; strobe = 0; taken = 0 }
seen_by (Some console) input earlier row = record {
  rest = rest_of console input (earlier ++ row ∷ []);
  strobe = slice_index row console.strobe;
  taken = slice_index row console.taken;
}

abbrev pub offered_by : Option Console → List ℕ → List Setting
offered_by None rest = []
offered_by (Some console) rest = offer console rest

-- what is kept after one more row
abbrev pub next_seen : Console → Seen → List ℕ → Seen
next_seen console seen row = record {
  rest = if seen.taken == slice_index row console.taken then seen.rest else drop 1 seen.rest;
  strobe = slice_index row console.strobe;
  taken = slice_index row console.taken;
}

-- what that row prints
abbrev pub shown_by : Console → ℕ → List ℕ → List ℕ
shown_by console strobe row = if strobe == slice_index row console.strobe then [] else (slice_index row console.shown % 256) ∷ []
