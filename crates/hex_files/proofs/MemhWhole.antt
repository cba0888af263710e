-- The text of a memory, word by word.
use Rattle.std.proofs.Common.{◌≡◌, ℕ, zero, suc, ◌+◌, ◌*◌, ◌^◌, ◌<◌, ◌≤◌, false, List, [], ◌∷◌, ◌++◌, length, take, drop, Option, None, Ok, All, refl, sym, ap, ◌∙◌, arith, append_assoc, ne_eqb}
use Rattle.std.specs.List.{flat_map}
use Rattle.std.proofs.lemmas.Bool.{lt-leb}
use Rattle.std.proofs.lemmas.List.Elements.{All-tail}
use Rattle.std.proofs.Math.Seq.{take-append_seam, drop-append_seam}
use Rattle.std.proofs.Math.Pow.{pow_mono}
use Rattle.lisa_engine.specs.Memory.{Memory}
use Rattle.lisa_engine.specs.declared.parts.ArrayItem.{ArrayItem}
use Rattle.lisa_words.specs.Bytes.{is_blank, front_is}
use Rattle.lisa_words.specs.Gaps.{blanks, starts_comment}
use Rattle.lisa_words.proofs.GapLaws.{gap_whole, gap_absent}
use Rattle.hex_files.specs.declared.faults.MemhFault.{MemhFault}
use Rattle.hex_files.specs.declared.memh_words.MemhWord.{MemhWord}
use Rattle.hex_files.specs.Maps.{laid}
use Rattle.hex_files.specs.MemhText.{fixed_digits, digit_count, memh_text}
use Rattle.hex_files.specs.Arrays.{with_cells}
use Rattle.hex_files.specs.MemhReading.{Placed, word_len, words_from, cell_fault, filled, memh_of}
use Rattle.hex_files.specs.MemhMachine.{if_sound, and_more, meant, writes_from}
use Rattle.hex_files.specs.Printable.{IsPrintable, array_of}
use Rattle.hex_files.proofs.MapLaws.{values_laid}
use Rattle.hex_files.proofs.MemhRules.{words_agree}
use Rattle.hex_files.proofs.WordLoops.{no_words, behind_gap, next_is, len_further, len_blank}
use Rattle.hex_files.proofs.DigitTexts.{Glyphs, none, some, digits_are, length-fixed_digits, cell_word}

-- ---- the words

no_blank : (b : ℕ) → 47 < b → is_blank b ≡ false
no_blank b h = rw (ne_eqb b 32 (λ e. omega (arith, e, h)), ne_eqb b 9 (λ e. omega (arith, e, h)), ne_eqb b 10 (λ e. omega (arith, e, h)), ne_eqb b 13 (λ e. omega (arith, e, h))) refl

no_comment : (b : ℕ) (bs : List ℕ) → 47 < b → starts_comment (b ∷ bs) ≡ false
no_comment b [] h = refl
no_comment b (c ∷ bs) h = rw (ne_eqb b 47 (λ e. omega (arith, e, h))) refl

len_of : (xs rest : List ℕ) → Glyphs xs → word_len (xs ++ 10 ∷ rest) ≡ length xs
len_of [] rest none = len_blank 10 rest refl
len_of (x ∷ xs) rest (some g more) = len_further x (xs ++ 10 ∷ rest) (no_blank x g.above) (no_comment x (xs ++ 10 ∷ rest) g.above) ∙ ap suc (len_of xs rest more)

word_there : (at : ℕ) (xs rest : List ℕ) → Glyphs xs → 0 < length xs → front_is is_blank rest ≡ false → words_from at (xs ++ 10 ∷ rest) ≡ (at, xs) ∷ words_from (at + length xs + 1) rest
word_there at [] rest gs pos f = absurd (omega arith)
word_there at (x ∷ xs) rest (some g more) pos f =
    let text : List ℕ = (x ∷ xs) ++ 10 ∷ rest in
    let len : word_len text ≡ length (x ∷ xs) = len_of (x ∷ xs) rest (some g more) in
    next_is at text (omega arith) (gap_absent text (no_blank x g.above) (no_comment x (xs ++ 10 ∷ rest) g.above))
    ∙ ap (λ (n : ℕ). (at, take n text) ∷ words_from (at + n) (drop n text)) len
    ∙ ap (λ (t : List ℕ). (at, t) ∷ words_from (at + length (x ∷ xs)) (drop (length (x ∷ xs)) text)) (take-append_seam (x ∷ xs) (10 ∷ rest))
    ∙ ap (λ (t : List ℕ). (at, x ∷ xs) ∷ words_from (at + length (x ∷ xs)) t) (drop-append_seam (x ∷ xs) (10 ∷ rest))
    ∙ ap (λ (ws : List Placed). (at, x ∷ xs) ∷ ws) (behind_gap (at + length (x ∷ xs)) 1 (10 ∷ rest) (gap_whole {text = 10 ∷ []} {rest = rest} (blanks refl refl f)))

-- the words of cells in so many digits each
words_of : ℕ → ℕ → List ℕ → List Placed
words_of k at [] = []
words_of k at (c ∷ cs) = (at, fixed_digits k c) ∷ words_of k (at + k + 1) cs

line : ℕ → ℕ → List ℕ
line k c = fixed_digits k c ++ 10 ∷ []

front_glyph : (xs rest : List ℕ) → Glyphs xs → 0 < length xs → front_is is_blank (xs ++ rest) ≡ false
front_glyph [] rest gs pos = absurd (omega arith)
front_glyph (x ∷ xs) rest (some g more) pos = no_blank x g.above

no_blank_front : (k : ℕ) (cs : List ℕ) → 0 < k → front_is is_blank (flat_map (line k) cs) ≡ false
unfolding line
no_blank_front k [] pos = refl
no_blank_front k (c ∷ cs) pos = ap (front_is is_blank) (append_assoc (fixed_digits k c) (10 ∷ []) (flat_map (line k) cs)) ∙ front_glyph (fixed_digits k c) (10 ∷ flat_map (line k) cs) (digits_are k c) (omega (arith, length-fixed_digits k c))

text_words : (k at : ℕ) (cs : List ℕ) → 0 < k → words_from at (flat_map (line k) cs) ≡ words_of k at cs
unfolding line words_of
text_words k at [] pos = no_words at
text_words k at (c ∷ cs) pos =
    ap (words_from at) (append_assoc (fixed_digits k c) (10 ∷ []) (flat_map (line k) cs))
    ∙ word_there at (fixed_digits k c) (flat_map (line k) cs) (digits_are k c) (omega (arith, length-fixed_digits k c)) (no_blank_front k cs pos)
    ∙ ap (λ (n : ℕ). (at, fixed_digits k c) ∷ words_from (at + n + 1) (flat_map (line k) cs)) (length-fixed_digits k c)
    ∙ ap (λ (ws : List Placed). (at, fixed_digits k c) ∷ ws) (text_words k (at + k + 1) cs pos)

-- ---- what they give

no_fault : (array : ArrayItem) (index value : ℕ) → value < 2 ^ array.width → index < array.depth → cell_fault array index value ≡ None
no_fault array index value fits there = rw (lt-leb (2 ^ array.width) value fits, lt-leb array.depth index there) refl

given : (array : ArrayItem) (k at index : ℕ) (cs : List ℕ) → 0 < k → 2 ^ array.width ≤ 16 ^ k → array.width ≤ 64 → index + length cs ≤ array.depth → All (λ c. c < 2 ^ array.width) cs
    → writes_from array index (words_of k at cs) ≡ Ok (laid index cs)
unfolding writes_from words_of laid
given array k at index [] pos wide narrow room fits = refl
given array k at index (c ∷ cs) pos wide narrow room fits =
    let small : c < 2 ^ array.width = fits 0 0 (omega arith) in
    ap (λ (w : Option MemhWord). meant array (λ next. writes_from array next (words_of k (at + k + 1) cs)) at index w)
    (cell_word k c pos (omega (arith, small, wide)) (omega (arith, small, pow_mono narrow)))
    ∙ ap (λ (f : Option MemhFault). if_sound f (and_more (index, c) (writes_from array (index + 1) (words_of k (at + k + 1) cs)))) (no_fault array index c small (omega arith))
    ∙ ap (and_more (index, c)) (given array k (at + k + 1) (index + 1) cs pos wide narrow (omega arith) (All-tail (λ x. x < 2 ^ array.width) c cs fits))

-- ---- the digits are enough

as_bits : (k : ℕ) → 16 ^ k ≡ 2 ^ (4 * k)
as_bits zero = refl
as_bits (suc k) = let r = as_bits k in let e : 4 * suc k ≡ suc (suc (suc (suc (4 * k)))) = omega arith in omega (arith, r, ap (λ (n : ℕ). 2 ^ n) e)

enough : (width : ℕ) → 2 ^ width ≤ 16 ^ digit_count width
enough width = let le : width ≤ 4 * digit_count width = omega arith in omega (arith, as_bits (digit_count width), pow_mono le)

pub read_back : (m : Memory) → IsPrintable m → memh_of (array_of m) (memh_text m) ≡ Ok m
unfolding line
read_back m p =
    let pos : 0 < digit_count m.width = let s = p.some in omega arith in
    ap (filled (array_of m)) (sym (words_agree (array_of m) (words_from 0 (memh_text m))))
    ∙ ap (λ (ws : List Placed). filled (array_of m) (writes_from (array_of m) 0 ws)) (text_words (digit_count m.width) 0 m.cells pos)
    ∙ ap (filled (array_of m)) (given (array_of m) (digit_count m.width) 0 0 m.cells pos (enough m.width) p.wide (let r = p.room in omega arith) p.within)
    ∙ ap (λ (cells : List ℕ). Ok (with_cells (array_of m) cells)) (values_laid m.cells)
