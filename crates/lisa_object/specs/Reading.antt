-- Reading words, on lists.
use Rattle.std.specs.Prelude.{ℕ, zero, suc, ◌+◌, ◌-◌, ◌*◌, ◌^◌, Bool, true, false, List, [], ◌∷◌, Option, Some, None, nat_lt, nat_le, ◌&&◌, ◌==◌, codes, if◌then◌else◌, decimal}
use Rattle.std.specs.List.{slice_split}
use Rattle.std.specs.Str.{bytes_eq}
use Rattle.std.specs.Str.Parse.{digits_value}
use Rattle.lisa_object.specs.Texts.{hex}

infixl 10 ◌>>=◌
abbrev pub ◌>>=◌ : {A B : Type 0} → Option A → (A → Option B) → Option B
(Some x) >>= f = f x
None >>= f = None

abbrev pub Word : Type 0
Word = List ℕ

-- the first word, and those behind it
abbrev pub first_of : List Word → Option (Word × List Word)
first_of [] = None
first_of (w ∷ ws) = Some (w, ws)

abbrev pub is_nil : List Word → Bool
is_nil [] = true
is_nil (w ∷ ws) = false

-- an empty last line: the text ends at a line feed
abbrev pub is_last : List Word → Bool
is_last ([] ∷ []) = true
is_last _ = false

-- the number below a bound whose text a word is
abbrev pub written : ℕ → (ℕ → Word) → ℕ → Word → Option ℕ
written bound text n word = if nat_lt n bound && bytes_eq (text n) word then Some n else None

unfoldable pub decimal_of : Word → Option ℕ
decimal_of word = written (2 ^ 64) decimal (digits_value 10 word) word

unfoldable pub hex_of : Word → Option ℕ
hex_of word = written (2 ^ 64) hex (digits_value 16 word) word

unfoldable pub small_of : Word → Option ℕ
small_of word = decimal_of word >>= λ n. if nat_lt n (2 ^ 32) then Some n else None

-- the value of a lower-case digit
abbrev pub nibble : ℕ → Option ℕ
nibble b = if nat_le 48 b && nat_le b 57 then Some (b - 48) else (if nat_le 97 b && nat_le b 102 then Some (b - 87) else None)

-- the byte that two digits write, and what stands behind them
abbrev pub pair_of : Word → Option (ℕ × Word)
pair_of (a ∷ b ∷ rest) = nibble a >>= λ high. nibble b >>= λ low. Some (16 * high + low, rest)
pair_of _ = None

-- so many bytes and nothing behind them
unfoldable pub bytes_of : ℕ → Word → Option (List ℕ)
bytes_of zero [] = Some []
bytes_of zero (a ∷ rest) = None
bytes_of (suc n) digits = pair_of digits >>= λ p. bytes_of n p.1 >>= λ all. Some (p.0 ∷ all)

abbrev pub digest_of : Word → Option (List ℕ)
digest_of word = bytes_of 32 word

-- the digest in a first line
abbrev pub digest_behind : List Word → Option (List ℕ)
digest_behind words = first_of words >>= λ one. first_of one.1 >>= λ d. if bytes_eq one.0 (codes "1") && is_nil d.1 then digest_of d.0 else None

unfoldable pub opening_of : Word → Word → Option (List ℕ)
opening_of keyword line = first_of (slice_split (λ b. b == 32) line) >>= λ k. if bytes_eq k.0 keyword then digest_behind k.1 else None
