-- A recursion that goes down by a size: `fix size fail step` answers at w what `step` makes of w, where a call within it is answered only
-- at a smaller size. It meets its own equation, fix_is of proofs/Fixed.antt. Where the type of the answers depends on what is asked,
-- take FixEach.
use Rattle.std.specs.Prelude.{ℕ, zero, suc, nat_lt, if◌then◌else◌}

-- a call within a task is answered only where its size is smaller
abbrev pub guarded : {W Out : Type 0} → (W → ℕ) → Out → (W → Out) → W → W → Out
guarded size fail rec w v = if nat_lt (size v) (size w) then rec v else fail

-- the answer with this many calls in one another
unfoldable pub within : {W Out : Type 0} → (W → ℕ) → Out → ((W → Out) → W → Out) → ℕ → W → Out
within size fail step zero w = fail
within size fail step (suc f) w = step (guarded size fail (within size fail step f) w) w

-- the answer
unfoldable pub fix : {W Out : Type 0} → (W → ℕ) → Out → ((W → Out) → W → Out) → W → Out
fix size fail step w = within size fail step (suc (size w)) w
