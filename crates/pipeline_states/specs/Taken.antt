-- Items with their places.
use Rattle.std.specs.Prelude.{ℕ, Bool, false, not, ◌&&◌, List, fold, nat_eq, zip, if◌then◌else◌}
use Rattle.std.specs.List.{list_any}
use Rattle.item_layouts.specs.declared.place.ItemPlace.{ItemPlace}
use Rattle.item_layouts.specs.declared.place.ItemPlace.TheVariants.{Register, Field, Word, Bit}

abbrev pub is_bit : ℕ → ℕ → ItemPlace → Bool
is_bit s k (Register j) = false
is_bit s k (Field t f) = false
is_bit s k (Word t) = false
is_bit s k (Bit t j) = nat_eq t s && nat_eq j k

abbrev pub is_word : ℕ → ItemPlace → Bool
is_word s (Register j) = false
is_word s (Field t f) = false
is_word s (Word t) = nat_eq t s
is_word s (Bit t j) = false

-- whether a bit is among the places, and isn't 0
abbrev pub bit_in : List ItemPlace → List ℕ → ℕ → ℕ → Bool
bit_in places items s k = list_any (λ one. is_bit s k one.0 && not (nat_eq one.1 0)) (zip places items)

-- the value of a stage's word, where it is among the places; else 0
abbrev pub word_in : List ItemPlace → List ℕ → ℕ → ℕ
word_in places items s = fold (λ word one. if is_word s one.0 then one.1 else word) 0 (zip places items)
