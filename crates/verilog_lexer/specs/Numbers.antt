-- One more digit of a number.
use Rattle.std.specs.Prelude.{ℕ, ◌+◌, ◌*◌, ◌==◌, if◌then◌else◌}
use Rattle.verilog_text.specs.Lexing.{digit_of}

abbrev pub next_number : ℕ → ℕ → ℕ → ℕ
next_number base n b = if b == 95 then n else base * n + digit_of b
