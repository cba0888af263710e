-- Steps that may give nothing: `o >>= f` goes on with what o gives. Its lemmas are in proofs/StepLaws.antt: bind_some, bind_same,
-- guard_some, some_is.
use Rattle.std.specs.Prelude.{Option, Some, None}

infixl 10 ◌>>=◌
abbrev pub ◌>>=◌ : {A B : Type 0} → Option A → (A → Option B) → Option B
(Some x) >>= f = f x
None >>= f = None
