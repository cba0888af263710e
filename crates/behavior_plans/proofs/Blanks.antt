-- Tables that are filled with one word.
use Rattle.std.proofs.Common.{◌≡◌, ℕ, zero, suc, ◌-◌, List, [], ◌∷◌, ◌++◌, take, map, replicate, refl, ap, ap₂, ◌∙◌, arith}
use Rattle.typed_values.specs.declared.values.Value.{Value}
use Rattle.typed_values.specs.Words.{TypedWord, typed_word}

take_none : {X : Type 0} (n : ℕ) → take {A = X} n [] ≡ []
take_none zero = refl
take_none (suc n) = refl

map_filled : (n : ℕ) (v : Value) → map typed_word (replicate n v) ≡ replicate n (typed_word v)
map_filled zero v = refl
map_filled (suc n) v = ap (λ (ws : List TypedWord). typed_word v ∷ ws) (map_filled n v)

pub filled : (new old : List Value) (len n : ℕ) (v : Value) (w : TypedWord) → new ≡ take n old ++ replicate (n - len) v → old ≡ [] → len ≡ 0 → typed_word v ≡ w → map typed_word new ≡ replicate n w
filled new old len n v w is none empty word =
    let count : n - len ≡ n = omega (arith, empty) in
    ap (map typed_word) (is ∙ ap₂ (λ (xs : List Value) k. take n xs ++ replicate k v) none count ∙ ap (λ (xs : List Value). xs ++ replicate n v) (take_none n))
    ∙ map_filled n v ∙ ap (replicate n) word

pub copies : {X : Type 0} (new old : List X) (len n : ℕ) (v : X) → new ≡ take n old ++ replicate (n - len) v → old ≡ [] → len ≡ 0 → new ≡ replicate n v
copies new old len n v is none empty =
    let count : n - len ≡ n = omega (arith, empty) in
    is ∙ ap₂ (λ xs k. take n xs ++ replicate k v) none count ∙ ap (λ xs. xs ++ replicate n v) (take_none n)
