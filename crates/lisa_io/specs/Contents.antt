-- What files hold, where that is told, and what a read gives of it.
use Rattle.std.specs.Prelude.{ℕ, ◌<◌, ◌≤◌, ◌≡◌, List, length, take, drop, Option, Some, None, Result, OnOk, ⊤, ◌++◌}
use Rattle.std.specs.Io.KnownBytes.{Appends}
use Rattle.lisa_io.specs.Causes.{HasCause}

-- an optional map from names to bytes
abbrev pub Held : Type 0
Held = Option (List ℕ → Option (List ℕ))

-- the bytes of a name are told, and are these
abbrev pub Tells : Held → List ℕ → List ℕ → Type 0
Tells held name bytes = (files : List ℕ → Option (List ℕ)) × (held ≡ Some files) × (files name ≡ Some bytes)

-- it is told that there is no file of this name
abbrev pub TellsNone : Held → List ℕ → Type 0
TellsNone held name = (files : List ℕ → Option (List ℕ)) × (held ≡ Some files) × (files name ≡ None)

-- a read from a place gave the next k bytes of the file at Ok k, and none only at the end or with no room
pub record ReadsNext (bytes : List ℕ) (from : ℕ) (into : List ℕ) (k : ℕ) : Type 0 where
  pub within : k ≤ length (drop from bytes)
  pub same : take k into ≡ take k (drop from bytes)
  pub end : k ≡ 0 → 0 < length into → length bytes ≤ from

-- known bytes are a front of others
abbrev pub IsFront : Option (List ℕ) → Option (List ℕ) → Type 0
IsFront None whole = ⊤
IsFront (Some xs) None = ⊥
IsFront (Some xs) (Some ys) = (rest : List ℕ) × (ys ≡ xs ++ rest)

-- known bytes stay at the front, and some front of these follows them
abbrev pub AppendsFront : Option (List ℕ) → Option (List ℕ) → List ℕ → Type 0
AppendsFront old new bytes = (n : ℕ) × (n ≤ length bytes) × Appends old new (take n bytes)

-- a text was appended at Ok, and a front of it otherwise; a failure comes only where the count of faults rose
pub record Puts {T E : Type 0} (before after : Option (List ℕ)) (old new : ℕ) (result : Result T E) (text : List ℕ) : Type 0 where
  pub all : OnOk result (Appends before after text)
  pub front : AppendsFront before after text
  pub cause : HasCause old new result
