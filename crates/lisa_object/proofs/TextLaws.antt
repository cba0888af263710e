-- Texts and their lines, lines and their words.
use Rattle.std.proofs.Common.{◌≡◌, ℕ, ◌+◌, ◌<◌, ◌≤◌, Bool, true, false, cond, List, [], ◌∷◌, ◌++◌, length, refl, sym, ap, subst, ◌∙◌, append_assoc, eq-eqb, arith}
use Rattle.std.specs.Prelude.{◌==◌, not, ◌&&◌}
use Rattle.std.specs.List.{slice_split, onto_first, list_all, join_with_byte, flat_map}
use Rattle.std.proofs.lemmas.Bool.{and_parts, and_from, not-true}
use Rattle.std.proofs.lemmas.List.Splits.{slice_split-cons_yes, slice_split-cons_no, join_with_byte-slice_split}
use Rattle.lisa_object.specs.Texts.{line_of, text_of}
use Rattle.lisa_object.specs.Reading.{Word}

-- none of the bytes is this one
abbrev pub lacks : ℕ → List ℕ → Bool
lacks c xs = list_all (λ b. not (b == c)) xs

pub lacks-append : (c : ℕ) (xs ys : List ℕ) → lacks c xs ≡ true → lacks c ys ≡ true → lacks c (xs ++ ys) ≡ true
lacks-append c [] ys h k = k
lacks-append c (x ∷ xs) ys h k = let p = and_parts (not (x == c)) (lacks c xs) h in and_from _ _ p.0 (lacks-append c xs ys p.1 k)

-- no cut
pub one_part : (c : ℕ) (xs : List ℕ) → lacks c xs ≡ true → slice_split (λ b. b == c) xs ≡ xs ∷ []
one_part c [] h = refl
one_part c (x ∷ xs) h =
    let p = and_parts (not (x == c)) (lacks c xs) h in
    slice_split-cons_no (λ b. b == c) x xs (not-true (x == c) p.0) ∙ ap (onto_first x) (one_part c xs p.1)

same_byte : (c : ℕ) → (c == c) ≡ true
same_byte c = eq-eqb c c refl

-- a cut behind what lacks the byte
pub first_part : (c : ℕ) (xs ys : List ℕ) → lacks c xs ≡ true → slice_split (λ b. b == c) (xs ++ c ∷ ys) ≡ xs ∷ slice_split (λ b. b == c) ys
first_part c [] ys h = slice_split-cons_yes (λ b. b == c) c ys (same_byte c)
first_part c (x ∷ xs) ys h =
    let p = and_parts (not (x == c)) (lacks c xs) h in
    slice_split-cons_no (λ b. b == c) x (xs ++ c ∷ ys) (not-true (x == c) p.0) ∙ ap (onto_first x) (first_part c xs ys p.1)

-- ---- lines

abbrev pub all_lack : ℕ → List Word → Bool
all_lack c words = list_all (lacks c) words

pub all_lack-append : (c : ℕ) (xs ys : List Word) → all_lack c xs ≡ true → all_lack c ys ≡ true → all_lack c (xs ++ ys) ≡ true
all_lack-append c [] ys h k = k
all_lack-append c (x ∷ xs) ys h k = let p = and_parts (lacks c x) (all_lack c xs) h in and_from _ _ p.0 (all_lack-append c xs ys p.1 k)

line_first : (line : Word) (lines : List Word) → text_of (line ∷ lines) ≡ line ++ 10 ∷ text_of lines
line_first line lines = append_assoc line (10 ∷ []) (text_of lines)

pub text_parts : (lines : List Word) → all_lack 10 lines ≡ true → slice_split (λ b. b == 10) (text_of lines) ≡ lines ++ [] ∷ []
text_parts [] h = refl
text_parts (line ∷ lines) h =
    let p = and_parts (lacks 10 line) (all_lack 10 lines) h in
    ap (slice_split (λ b. b == 10)) (line_first line lines) ∙ first_part 10 line (text_of lines) p.0 ∙ ap (λ (l : List Word). line ∷ l) (text_parts lines p.1)

joined_on : (line : Word) (lines : List Word) → join_with_byte 10 (line ∷ (lines ++ [] ∷ [])) ≡ line ++ 10 ∷ join_with_byte 10 (lines ++ [] ∷ [])
joined_on line [] = refl
joined_on line (l ∷ lines) = refl

joined_lines : (lines : List Word) → join_with_byte 10 (lines ++ [] ∷ []) ≡ text_of lines
joined_lines [] = refl
joined_lines (line ∷ lines) = joined_on line lines ∙ ap (λ (l : List ℕ). line ++ 10 ∷ l) (joined_lines lines) ∙ sym (line_first line lines)

pub parts_text : (bytes : List ℕ) (lines : List Word) → slice_split (λ b. b == 10) bytes ≡ lines ++ [] ∷ [] → bytes ≡ text_of lines
parts_text bytes lines e = sym (join_with_byte-slice_split 10 bytes) ∙ ap (join_with_byte 10) e ∙ joined_lines lines

-- ---- words

pub line_words : (word : Word) (words : List Word) → all_lack 32 (word ∷ words) ≡ true → slice_split (λ b. b == 32) (line_of (word ∷ words)) ≡ word ∷ words
line_words word [] h = one_part 32 word (and_parts (lacks 32 word) true h).0
line_words word (w ∷ words) h =
    let p = and_parts (lacks 32 word) (all_lack 32 (w ∷ words)) h in
    first_part 32 word (line_of (w ∷ words)) p.0 ∙ ap (λ (l : List Word). word ∷ l) (line_words w words p.1)

pub words_line : (line : Word) (words : List Word) → slice_split (λ b. b == 32) line ≡ words → line ≡ line_of words
words_line line words e = sym (join_with_byte-slice_split 32 line) ∙ ap (join_with_byte 32) e

-- a line lacks a byte that its words lack and that is no blank
pub line_lacks : (c : ℕ) (words : List Word) → not (32 == c) ≡ true → all_lack c words ≡ true → lacks c (line_of words) ≡ true
line_lacks c [] other h = refl
line_lacks c (word ∷ []) other h = (and_parts (lacks c word) true h).0
line_lacks c (word ∷ w ∷ words) other h =
    let p = and_parts (lacks c word) (all_lack c (w ∷ words)) h in
    lacks-append c word (32 ∷ line_of (w ∷ words)) p.0 (and_from _ _ other (line_lacks c (w ∷ words) other p.1))
