-- An input that is being taken whole.
use Rattle.std.proofs.Common.{◌≡◌, ◌+◌, ◌<◌, ◌≤◌, ◌∙◌, sym, ap, subst, arith, List, ℕ, [], ◌++◌, length, Option, Some, None, length-append}
use Rattle.std.proofs.lemmas.List.{append-nil}
use Rattle.std.specs.Io.KnownBytes.{Consumes, Keeps, IsAtEnd}
use Rattle.lisa_debug.proofs.Readings.{consumes_more, consumes_kept}
use Rattle.engine_commands.specs.Inputs.{TakesWithin}

-- these bytes were taken so far, and the count of faults hasn't fallen
pub record Takes (limit : ℕ) (left rest : Option (List ℕ)) (first last : ℕ) (bytes : List ℕ) : Type 0 where
  pub consumed : Consumes left rest bytes
  pub within : length bytes ≤ limit + 1
  pub later : first ≤ last

pub taken_within : {limit first last : ℕ} {left rest : Option (List ℕ)} {bytes : List ℕ} → Takes limit left rest first last bytes → TakesWithin limit left rest
taken_within {bytes = bytes} takes = record { taken = bytes; consumed = takes.consumed; within = takes.within }

-- a take failed, which consumed nothing
pub failed_within : {limit first last : ℕ} {left rest : Option (List ℕ)} {bytes : List ℕ} (next : Option (List ℕ)) → Takes limit left rest first last bytes → Keeps rest next → TakesWithin limit left next
failed_within {left = left} {rest = rest} {bytes = bytes} next takes keeps =
    record { taken = bytes; consumed = consumes_kept left rest next bytes takes.consumed keeps; within = takes.within }

-- one more piece
pub takes_more : {limit first last : ℕ} {left rest : Option (List ℕ)} {bytes : List ℕ} (next : Option (List ℕ)) (now : ℕ) (piece items : List ℕ) → Takes limit left rest first last bytes
    → Consumes rest next piece → last ≤ now → length bytes + length piece ≤ limit + 1 → items ≡ bytes ++ piece → Takes limit left next first now items
takes_more {limit = limit} {left = left} {rest = rest} {bytes = bytes} next now piece items takes more later room is = record {
  consumed = subst (Consumes left next) (sym is) (consumes_more left rest next bytes piece takes.consumed more);
  within = omega (arith, ap length is, length-append bytes piece, room);
  later = omega (arith, takes.later, later);
}

-- at its end they are all of it
pub whole_is : {limit first last : ℕ} {left rest : Option (List ℕ)} {bytes : List ℕ} (next : Option (List ℕ)) → Takes limit left rest first last bytes → Consumes rest next [] → IsAtEnd next
    → (whole : List ℕ) → left ≡ Some whole → bytes ≡ whole
whole_is {left = left} {rest = rest} {bytes = bytes} next takes none end whole told =
    ended next end (subst (λ (l : Option (List ℕ)). Consumes l next (bytes ++ [])) told (consumes_more left rest next bytes [] takes.consumed none))
  where
    ended : (n : Option (List ℕ)) → IsAtEnd n → Consumes (Some whole) n (bytes ++ []) → bytes ≡ whole
    ended None end consumed = absurd consumed
    ended (Some ys) end consumed = sym (consumed ∙ ap (λ t. (bytes ++ []) ++ t) end ∙ append-nil (bytes ++ []) ∙ append-nil bytes)

-- more were taken than the limit
pub longer : {limit first last : ℕ} {left rest : Option (List ℕ)} {bytes : List ℕ} → Takes limit left rest first last bytes → limit < length bytes
    → (whole : List ℕ) → left ≡ Some whole → limit < length whole
longer {limit = limit} {left = left} {rest = rest} {bytes = bytes} takes past whole told =
    begun rest (subst (λ (l : Option (List ℕ)). Consumes l rest bytes) told takes.consumed)
  where
    begun : (r : Option (List ℕ)) → Consumes (Some whole) r bytes → limit < length whole
    begun None consumed = absurd consumed
    begun (Some ys) consumed = omega (arith, past, ap length consumed, length-append bytes ys)
