-- Pieces of objects put one behind the other.
use Rattle.std.proofs.Common.{◌≡◌, ℕ, List, [], ◌∷◌, ◌++◌, map, refl, sym, ap, ◌∙◌, append_assoc}
use Rattle.std.specs.Prelude.{codes}
use Rattle.std.proofs.lemmas.List.{append-nil}
use Rattle.lisa_object.specs.declared.parts.ObjectLine.{ObjectLine}
use Rattle.lisa_object.specs.Texts.{line_of, text_of}
use Rattle.lisa_object.specs.Objects.{object_line_tree}
use Rattle.lisa_object.specs.ObjectText.{line_words}
use Rattle.lisa_object.specs.ObjectPieces.{behind_blanks, line_text}

-- a line is its first word, and each other one behind a blank
line_blanks : (w : List ℕ) (ws : List (List ℕ)) → line_of (w ∷ ws) ≡ w ++ behind_blanks ws
line_blanks w [] = sym (append-nil w)
line_blanks w (v ∷ ws) = ap (λ (l : List ℕ). w ++ 32 ∷ l) (line_blanks v ws)

regrouped : (a l w k n b : List ℕ) → ((a ++ codes "fix ") ++ (l ++ (codes " " ++ (w ++ (32 ∷ (k ++ codes " ")))))) ++ (n ++ b) ≡ a ++ (codes "fix " ++ (l ++ 32 ∷ (w ++ 32 ∷ (k ++ 32 ∷ (n ++ b)))))
regrouped a l w k n b = simp append_assoc

pub fix_puts : (a l w k n : List ℕ) (ws : List (List ℕ)) (x y : List ℕ) → x ≡ a ++ codes "fix " → y ≡ x ++ (l ++ (codes " " ++ (w ++ (32 ∷ (k ++ codes " "))))) → y ++ (n ++ behind_blanks ws) ≡ a ++ line_of (codes "fix" ∷ l ∷ w ∷ k ∷ n ∷ ws)
fix_puts a l w k n ws x y e f =
    let all : y ≡ (a ++ codes "fix ") ++ (l ++ (codes " " ++ (w ++ (32 ∷ (k ++ codes " "))))) = rw (f, e) refl in
    ap (λ (t : List ℕ). t ++ (n ++ behind_blanks ws)) all ∙ regrouped a l w k n (behind_blanks ws)
    ∙ ap (λ (t : List ℕ). a ++ (codes "fix " ++ (l ++ 32 ∷ (w ++ 32 ∷ (k ++ 32 ∷ t))))) (sym (line_blanks n ws))

pub lines_put : (ls : List ObjectLine) → text_of (map (λ l. line_of (line_words l)) (map object_line_tree ls) ++ codes "end" ∷ []) ≡ text_of (map line_text ls) ++ (codes "end" ++ 10 ∷ [])
lines_put [] = refl
lines_put (l ∷ ls) = ap (λ (t : List ℕ). (line_text l ++ 10 ∷ []) ++ t) (lines_put ls) ∙ sym (append_assoc (line_text l ++ 10 ∷ []) (text_of (map line_text ls)) (codes "end" ++ 10 ∷ []))
