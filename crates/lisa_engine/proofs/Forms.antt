-- The words of a line and the form that they write.
use Rattle.std.proofs.Common.{◌≡◌, ℕ, ◌-◌, ◌<◌, ◌≤◌, List, [], ◌∷◌, length, take, drop, get_or, map, refl, ap, ◌∙◌, arith, Option, Some, None}
use Rattle.std.specs.Prelude.{◌==◌}
use Rattle.std.specs.List.{slice_split}
use Rattle.std.specs.Option.{option_map, option_and_then}
use Rattle.std.specs.Borrow.{Bor}
use Rattle.std.proofs.lemmas.List.{take_all}
use Rattle.lisa_engine.specs.Schedules.{edge_of, settings_of, form_of, form_of_words}

-- fewer than two words write none
pub no_form : (words : List (Bor (List ℕ))) (text : List ℕ) → map (λ w. w.now) words ≡ slice_split (λ c. c == 32) text → length words < 2 → None ≡ form_of text
no_form [] text split short = ap form_of_words split
no_form (edge ∷ []) text split short = ap form_of_words split
no_form (edge ∷ word ∷ words) text split short = absurd (omega arith)

-- how many words stand behind the first
pub behind : {X : Type 0} (xs : List X) → length (take (length xs - 1) (drop 1 xs)) ≡ length xs - 1
behind [] = refl
behind (x ∷ xs) = ap length (take_all (length (x ∷ xs) - 1) xs (omega arith)) ∙ omega arith

-- the first word writes the edge, and those behind it the settings
pub form_read : (words : List (Bor (List ℕ))) (text : List ℕ) (d : Bor (List ℕ)) (edge : ℕ) (settings : Option (List (List ℕ × ℕ)))
    → map (λ w. w.now) words ≡ slice_split (λ c. c == 32) text → 2 ≤ length words
    → Some edge ≡ edge_of (get_or words 0 d).now → settings ≡ settings_of (map (λ w. w.now) (take (length words - 1) (drop 1 words)))
    → option_map (λ s. (edge, s)) settings ≡ form_of text
form_read [] text d edge settings split long edge_is settings_is = absurd (omega arith)
form_read (first ∷ []) text d edge settings split long edge_is settings_is = absurd (omega arith)
form_read (first ∷ word ∷ words) text d edge settings split long edge_is settings_is =
    let rest : List (Bor (List ℕ)) = word ∷ words in
    let all : take (length (first ∷ rest) - 1) rest ≡ rest = take_all (length (first ∷ rest) - 1) rest (omega arith) in
    ap (option_map (λ s. (edge, s))) (settings_is ∙ ap (λ ws. settings_of (map (λ w. w.now) ws)) all)
    ∙ ap (option_and_then (λ e. option_map (λ s. (e, s)) (settings_of (map (λ w. w.now) rest)))) edge_is
    ∙ ap form_of_words split
