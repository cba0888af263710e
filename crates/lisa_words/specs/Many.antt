-- Items one behind the other, once for every kind of token and of item. `Each S ts all`: the tokens spell these items, where S says what
-- spells one. `many read stops ts`: the items that `read` takes, up to where `stops` holds, and what is left. The laws are in
-- proofs/ManyLaws.antt: many_is (its equation), many_sound, many_complete (from an IsItem), each_same, and for the loop of the code over
-- `with_front`: goes_on, fails_on, is_done.
use Rattle.std.specs.Prelude.{◌≡◌, ℕ, Bool, List, [], ◌∷◌, ◌++◌, length, Option, Some, None, if◌then◌else◌}
use Rattle.lisa_words.specs.Fix.{fix}
use Rattle.lisa_words.specs.Steps.{◌>>=◌}

-- a list of tokens spells these items, where S says what spells one
pub data Each {Tok A : Type 0} (S : List Tok → A → Type 0) : List Tok → List A → Type 0 where
  none : Each S [] []
  some : {ts xs ys : List Tok} {a : A} {all : List A} → S xs a → Each S ys all → ts ≡ xs ++ ys → Each S ts (a ∷ all)

-- what reads one thing at the front, and gives what is left
abbrev pub Item : Type 0 → Type 0 → Type 0
Item Tok A = List Tok → Option (A × List Tok)

abbrev pub next_of : {Tok A : Type 0} → Item Tok A → Item Tok (List A) → Item Tok (List A)
next_of read rec ts = read ts >>= λ a. rec a.1 >>= λ all. Some (a.0 ∷ all.0, all.1)

abbrev pub many_step : {Tok A : Type 0} → Item Tok A → (List Tok → Bool) → Item Tok (List A) → Item Tok (List A)
many_step read stops rec ts = if stops ts then Some ([], ts) else next_of read rec ts

abbrev pub size : {Tok : Type 0} → List Tok → ℕ
size ts = length ts

-- the items up to where they stop
unfoldable pub many : {Tok A : Type 0} → Item Tok A → (List Tok → Bool) → Item Tok (List A)
many read stops ts = fix size None (many_step read stops) ts

-- what was read before, and what is still read
abbrev pub with_front : {Tok A : Type 0} → List A → Option (List A × List Tok) → Option (List A × List Tok)
with_front front read = read >>= λ x. Some (front ++ x.0, x.1)
