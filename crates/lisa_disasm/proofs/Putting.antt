-- Texts that are appended one after another, with two ways to end early.
use Rattle.std.proofs.Common.{◌≡◌, ℕ, ◌+◌, ◌<◌, ◌≤◌, List, [], ◌∷◌, ◌++◌, length, get_or, take, drop, refl, sym, ap, ◌∙◌, Option, Result, Ok, Err}
use Rattle.std.specs.List.{flat_map}
use Rattle.std.specs.Result.{IsErrAnd}
use Rattle.std.specs.Prelude.{codes}
use Rattle.std.proofs.lemmas.Grind.{flat_map-append}
use Rattle.std.proofs.lemmas.List.Folds.{flat_map-map}
use Rattle.std.proofs.lemmas.List.{append-nil, take_more, take_all, take-append-drop}
use Rattle.lisa_engine.specs.Memory.{Memory}
use Rattle.lisa_engine.specs.Traces.{PutsUnless}
use Rattle.lisa_engine.specs.declared.trace.TraceEnd.{TraceEnd}
use Rattle.lisa_engine.proofs.TraceTexts.{unless_then, unless_stop, unless_over}
use Rattle.lisa_object.specs.Texts.{text_of}
use Rattle.lisa_disasm.specs.Listings.{memory_lines, listing}

-- the step of a loop that appends a text for each element
pub unless_more : {X T U : Type 0} {u : T} (f : X → List ℕ) (xs : List X) (i : ℕ) (v : X) {a b c : Option (List ℕ)} {x y z : ℕ} {r : Result U TraceEnd}
    → i < length xs → v ≡ get_or xs i v → PutsUnless {T = T} a b x y (Ok u) (flat_map f (take i xs)) → PutsUnless {T = U} b c y z r (f v) → PutsUnless {T = U} a c x z r (flat_map f (take (i + 1) xs))
unless_more f xs i v within is p q =
    unless_over
    (ap (λ t. flat_map f (take i xs) ++ f t) is
    ∙ sym (ap (flat_map f) (take_more xs i v within) ∙ flat_map-append f (take i xs) (get_or xs i v ∷ []) ∙ ap (λ t. flat_map f (take i xs) ++ t) (append-nil (f (get_or xs i v)))))
    (unless_then p q)

-- the same of the element that stands there
pub unless_at : {X T U : Type 0} {u : T} (f : X → List ℕ) (xs : List X) (i : ℕ) (d : X) {a b c : Option (List ℕ)} {x y z : ℕ} {r : Result U TraceEnd}
    → i < length xs → PutsUnless {T = T} a b x y (Ok u) (flat_map f (take i xs)) → PutsUnless {T = U} b c y z r (f (get_or xs i d)) → PutsUnless {T = U} a c x z r (flat_map f (take (i + 1) xs))
unless_at f xs i d within p q =
    unless_over
    (sym (ap (flat_map f) (take_more xs i d within) ∙ flat_map-append f (take i xs) (get_or xs i d ∷ []) ∙ ap (λ t. flat_map f (take i xs) ++ t) (append-nil (f (get_or xs i d)))))
    (unless_then p q)

-- the end of such a loop, and a failure in it
pub unless_whole : {X T : Type 0} (f : X → List ℕ) (xs : List X) (n : ℕ) {a b : Option (List ℕ)} {x y : ℕ} {r : Result T TraceEnd}
    → length xs ≤ n → PutsUnless {T = T} a b x y r (flat_map f (take n xs)) → PutsUnless {T = T} a b x y r (flat_map f xs)
unless_whole f xs n all p = unless_over (ap (flat_map f) (take_all n xs all)) p

pub unless_early : {X T U : Type 0} {e : TraceEnd} (f : X → List ℕ) (xs : List X) (n : ℕ) {a b : Option (List ℕ)} {x y : ℕ} (r : Result U TraceEnd)
    → IsErrAnd r (λ d. d ≡ e) → PutsUnless {T = T} a b x y (Err e) (flat_map f (take n xs)) → PutsUnless {T = U} a b x y r (flat_map f xs)
unless_early f xs n r is p =
    unless_over (sym (flat_map-append f (take n xs) (drop n xs)) ∙ ap (flat_map f) (take-append-drop n xs))
    (unless_stop (flat_map f (drop n xs)) r is p)

-- ---- texts of lines

-- a line with its line feed
abbrev pub ended : List ℕ → List ℕ
ended line = line ++ 10 ∷ []

pub memory_text : (line : ℕ → ℕ → List ℕ) (m : Memory) → ended (codes ".section " ++ m.name) ++ flat_map (λ w. ended (line m.width w)) m.cells ≡ text_of (memory_lines line m)
memory_text line m = ap (λ t. ended (codes ".section " ++ m.name) ++ t) (sym (flat_map-map ended (line m.width) m.cells))

lines_of_all : {X : Type 0} (f : X → List (List ℕ)) (xs : List X) → flat_map (λ x. text_of (f x)) xs ≡ text_of (flat_map f xs)
lines_of_all f [] = refl
lines_of_all f (x ∷ xs) = ap (λ t. text_of (f x) ++ t) (lines_of_all f xs) ∙ sym (flat_map-append ended (f x) (flat_map f xs))

pub image_text : (line : ℕ → ℕ → List ℕ) (image : List Memory) → flat_map (λ m. text_of (memory_lines line m)) image ≡ listing line image
image_text line image = lines_of_all (memory_lines line) image
