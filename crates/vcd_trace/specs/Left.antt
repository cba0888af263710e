-- What is left of a text.
use Rattle.std.specs.Prelude.{ℕ, ◌+◌, List, length}
use Rattle.vcd_trace.specs.VcdWords.{Placed, words_from}
use Rattle.vcd_trace.specs.declared.left.Words.{Words}

abbrev pub words_left : Words → List Placed
words_left words = words_from words.at words.rest.now

-- the place where the text ends
abbrev pub end_at : Words → ℕ
end_at words = words.at + length words.rest.now
