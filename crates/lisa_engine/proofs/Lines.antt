-- Lines for the pairs of two lists, or of the places of one, appended one after another.
use Rattle.std.proofs.Common.{◌≡◌, ℕ, ◌+◌, ◌<◌, ◌≤◌, List, length, get_or, take, sym, ◌∙◌, subst, arith, Option, Result, Ok}
use Rattle.std.specs.List.{flat_map, zip, enumerate_from}
use Rattle.std.proofs.lemmas.Slice.Zip.{get_or-zip, length-zip}
use Rattle.std.proofs.lemmas.List.FromFn.{get_or-enumerate_from, length-enumerate_from}
use Rattle.lisa_io.specs.Contents.{Puts}
use Rattle.lisa_io.proofs.Known.{puts_more, puts_whole}

pub zip_at : {K V : Type 0} (ks : List K) (vs : List V) (i : ℕ) (k : K) (v : V)
    → i < length ks → length vs ≡ length ks → k ≡ get_or ks i k → v ≡ get_or vs i v → get_or (zip ks vs) i (k, v) ≡ (k, v)
zip_at ks vs i k v within same is_k is_v =
    get_or-zip ks vs i (k, v) within (omega arith) ∙ (λ j. (sym is_k j, sym is_v j))

pub zip_more : {K V T E : Type 0} (f : K × V → List ℕ) (ks : List K) (vs : List V) (i : ℕ) (k : K) (v : V) (u : T)
    (a b c : Option (List ℕ)) (x y z : ℕ) (r : Result T E)
    → i < length ks → length vs ≡ length ks → k ≡ get_or ks i k → v ≡ get_or vs i v
    → Puts {T = T} {E = E} a b x y (Ok u) (flat_map f (take i (zip ks vs))) → Puts b c y z r (f (k, v)) → Puts a c x z r (flat_map f (take (i + 1) (zip ks vs)))
zip_more f ks vs i k v u a b c x y z r within same is_k is_v p q =
    puts_more f (zip ks vs) i (k, v) u a b c x y z r (omega (arith, length-zip ks vs)) p
    (subst (λ d. Puts b c y z r (f d)) (sym (zip_at ks vs i k v within same is_k is_v)) q)

pub zip_whole : {K V T E : Type 0} (f : K × V → List ℕ) (ks : List K) (vs : List V) (i : ℕ) (a b : Option (List ℕ)) (x y : ℕ) (r : Result T E)
    → length ks ≤ i → Puts a b x y r (flat_map f (take i (zip ks vs))) → Puts a b x y r (flat_map f (zip ks vs))
zip_whole f ks vs i a b x y r all p = puts_whole f (zip ks vs) i a b x y r (omega (arith, length-zip ks vs)) p

pub places_more : {V T E : Type 0} (f : ℕ × V → List ℕ) (vs : List V) (i : ℕ) (v : V) (u : T)
    (a b c : Option (List ℕ)) (x y z : ℕ) (r : Result T E)
    → i < length vs → v ≡ get_or vs i v
    → Puts {T = T} {E = E} a b x y (Ok u) (flat_map f (take i (enumerate_from 0 vs))) → Puts b c y z r (f (i, v)) → Puts a c x z r (flat_map f (take (i + 1) (enumerate_from 0 vs)))
places_more f vs i v u a b c x y z r within is_v p q =
    puts_more f (enumerate_from 0 vs) i (i, v) u a b c x y z r (omega (arith, length-enumerate_from 0 vs)) p
    (subst (λ d. Puts b c y z r (f d)) (sym (get_or-enumerate_from 0 vs i (i, v) within ∙ (λ j. (none j, sym is_v j)))) q)
  where
    none : 0 + i ≡ i
    none = omega arith

pub places_whole : {V T E : Type 0} (f : ℕ × V → List ℕ) (vs : List V) (i : ℕ) (a b : Option (List ℕ)) (x y : ℕ) (r : Result T E)
    → length vs ≤ i → Puts a b x y r (flat_map f (take i (enumerate_from 0 vs))) → Puts a b x y r (flat_map f (enumerate_from 0 vs))
places_whole f vs i a b x y r all p = puts_whole f (enumerate_from 0 vs) i a b x y r (omega (arith, length-enumerate_from 0 vs)) p
