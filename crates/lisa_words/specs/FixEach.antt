-- The recursion of Fix where the type of the answers depends on what is asked. Its equation is fix_each_is of proofs/FixedEach.antt.
-- Give the answers' type by name: `fix_each {Out = Out} size fail step w`.
use Rattle.std.specs.Prelude.{ℕ, zero, suc, nat_lt, if◌then◌else◌}

-- a call within a task is answered only where its size is smaller
abbrev pub guarded_each : {W : Type 0} {Out : W → Type 0} → (W → ℕ) → ((w : W) → Out w) → ((w : W) → Out w) → W → (w : W) → Out w
guarded_each size fail rec w v = if nat_lt (size v) (size w) then rec v else fail v

-- the answer with this many calls in one another
unfoldable pub within_each : {W : Type 0} {Out : W → Type 0} → (W → ℕ) → ((w : W) → Out w) → (((w : W) → Out w) → (w : W) → Out w) → ℕ → (w : W) → Out w
within_each size fail step zero w = fail w
within_each {Out = Out} size fail step (suc f) w = step (guarded_each {Out = Out} size fail (within_each {Out = Out} size fail step f) w) w

-- the answer
unfoldable pub fix_each : {W : Type 0} {Out : W → Type 0} → (W → ℕ) → ((w : W) → Out w) → (((w : W) → Out w) → (w : W) → Out w) → (w : W) → Out w
fix_each {Out = Out} size fail step w = within_each {Out = Out} size fail step (suc (size w)) w
