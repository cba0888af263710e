-- The lines of a listing that enter a memory or give a value, read as lines of a source.
use Rattle.std.proofs.Common.{◌≡◌, ◌≢◌, ◌<◌, ◌+◌, ◌^◌, ◌++◌, ◌&&◌, ◌==◌, ℕ, suc, pos, List, [], ◌∷◌, Bool, true, false, cond, not, None, Some, Ok, take, drop, refl, sym, ap, ◌∙◌, arith, append_assoc}
use Rattle.std.specs.Prelude.{codes}
use Rattle.std.specs.Char.{digit_value}
use Rattle.std.specs.List.{list_all, prefix_len, before_first, slice_split}
use Rattle.std.specs.Str.Parse.{AllDigits, digits_value}
use Rattle.std.proofs.lemmas.List.{append-nil}
use Rattle.std.proofs.lemmas.Bool.{and_parts, and_from}
use Rattle.std.proofs.lemmas.Bool.Decides.{nat_tests}
use Rattle.std.proofs.lemmas.Fmt.{digits_is_IsNumeral}
use Rattle.lisa_words.specs.Numerals.{IsNumeralBelow}
use Rattle.asm_source.specs.Bytes.{is_blank, is_word, is_name_byte, is_letter, is_line_byte, is_name, front_is, skip_blanks, front_word, behind_word}
use Rattle.asm_source.specs.Numbers.{number_of}
use Rattle.asm_source.specs.Plain.{PlainPart, Section, Cells, Number}
use Rattle.asm_source.specs.Parts.{label_at, name_in, number_in, cell_of, values_of, directive_of, part_of, line_of}
use Rattle.asm_source.specs.Items.{all_items}
use Rattle.asm_source.proofs.Loops.{starts, ends}
use Rattle.asm_source.proofs.Numerals.{numeral_is}
use Rattle.asm_source.proofs.Stops.{no_label}
use Rattle.lisa_object.specs.Texts.{hex}
use Rattle.lisa_object.proofs.TextLaws.{lacks, one_part}

-- ---- lists

all_weaker : (p q : ℕ → Bool) → ((c : ℕ) → p c ≡ true → q c ≡ true) → (w : List ℕ) → list_all p w ≡ true → list_all q w ≡ true
all_weaker p q of [] h = refl
all_weaker p q of (c ∷ w) h =
    let both = and_parts (p c) (list_all p w) h in
    and_from (q c) (list_all q w) (of c both.0) (all_weaker p q of w both.1)

all_both : (p : ℕ → Bool) (v w : List ℕ) → list_all p v ≡ true → list_all p w ≡ true → list_all p (v ++ w) ≡ true
all_both p [] w h g = g
all_both p (c ∷ v) w h g =
    let both = and_parts (p c) (list_all p v) h in
    and_from (p c) (list_all p (v ++ w)) both.0 (all_both p v w both.1 g)

take_one : (n c : ℕ) (l : List ℕ) → take (1 + n) (c ∷ l) ≡ c ∷ take n l
take_one n c l = ap (λ (k : ℕ). take k (c ∷ l)) (let e : 1 + n ≡ suc n = omega arith in e)

drop_one : (n c : ℕ) (l : List ℕ) → drop (1 + n) (c ∷ l) ≡ drop n l
drop_one n c l = ap (λ (k : ℕ). drop k (c ∷ l)) (let e : 1 + n ≡ suc n = omega arith in e)

-- the longest run of a kind of bytes at the front
take_run : (p : ℕ → Bool) (w rest : List ℕ) → list_all p w ≡ true → front_is p rest ≡ false → take (prefix_len p (w ++ rest)) (w ++ rest) ≡ w
take_run p [] [] all stop = refl
take_run p [] (c ∷ rest) all stop = rw stop refl
take_run p (c ∷ w) rest all stop =
    let both = and_parts (p c) (list_all p w) all in
    ap (λ (b : Bool). take (cond b (1 + prefix_len p (w ++ rest)) 0) (c ∷ (w ++ rest))) both.0
    ∙ take_one (prefix_len p (w ++ rest)) c (w ++ rest)
    ∙ ap (λ (l : List ℕ). c ∷ l) (take_run p w rest both.1 stop)

drop_run : (p : ℕ → Bool) (w rest : List ℕ) → list_all p w ≡ true → front_is p rest ≡ false → drop (prefix_len p (w ++ rest)) (w ++ rest) ≡ rest
drop_run p [] [] all stop = refl
drop_run p [] (c ∷ rest) all stop = rw stop refl
drop_run p (c ∷ w) rest all stop =
    let both = and_parts (p c) (list_all p w) all in
    ap (λ (b : Bool). drop (cond b (1 + prefix_len p (w ++ rest)) 0) (c ∷ (w ++ rest))) both.0
    ∙ drop_one (prefix_len p (w ++ rest)) c (w ++ rest)
    ∙ drop_run p w rest both.1 stop

-- what stands before a `;`
commented : (text note : List ℕ) → list_all (λ b. not (b == 59)) text ≡ true → before_first (λ b. b == 59) (text ++ 59 ∷ note) ≡ text
commented text note all = take_run (λ b. not (b == 59)) text (59 ∷ note) all refl

uncommented : (text : List ℕ) → list_all (λ b. not (b == 59)) text ≡ true → before_first (λ b. b == 59) text ≡ text
uncommented text all =
    let whole : text ++ [] ≡ text = append-nil text in
    ap (λ (l : List ℕ). before_first (λ b. b == 59) l) (sym whole) ∙ take_run (λ b. not (b == 59)) text [] all refl

-- ---- bytes

word_line : (c : ℕ) → is_word c ≡ true → is_line_byte c ≡ true
word_line c h = grind (arith, nat_tests)

word_comment : (c : ℕ) → is_word c ≡ true → not (c == 59) ≡ true
word_comment c h = grind (arith, nat_tests)

word_comma : (c : ℕ) → is_word c ≡ true → not (c == 44) ≡ true
word_comma c h = grind (arith, nat_tests)

word_blank : (c : ℕ) → is_word c ≡ true → is_blank c ≡ false
word_blank c h = grind (arith, nat_tests)

name_word : (c : ℕ) → is_name_byte c ≡ true → is_word c ≡ true
name_word c h = grind (arith, nat_tests)

letter_word : (c : ℕ) → is_letter c ≡ true → is_word c ≡ true
letter_word c h = grind (arith, nat_tests)

digit_word : (c : ℕ) → digit_value c < 16 → is_word c ≡ true
digit_word c h = grind (arith, nat_tests)

digits_word : (ds : List ℕ) → AllDigits 16 ds → list_all is_word ds ≡ true
digits_word [] h = refl
digits_word (d ∷ ds) h = and_from (is_word d) (list_all is_word ds) (digit_word d h.0) (digits_word ds h.1)

hex_word : (w : ℕ) → w < 2 ^ 64 → list_all is_word (hex w) ≡ true
hex_word w lt = digits_word (hex w) (digits_is_IsNumeral 16 false (omega arith) (omega arith) w (omega arith)).0.1

hex_numeral : (w : ℕ) → w < 2 ^ 64 → IsNumeralBelow 16 (2 ^ 64) (hex w) × (w ≡ digits_value 16 (hex w))
hex_numeral w lt =
    let made = digits_is_IsNumeral 16 false (omega arith) (omega arith) w (omega arith) in
    let same : digits_value 16 (hex w) ≡ w = made.1 in
    ((made.0, omega (arith, same, lt)), sym same)

-- ---- a line whose first word is `.section` or `.word`, with a blank behind it

no_labels : (text : List ℕ) → skip_blanks text ≡ text → label_at text ≡ Ok None → all_items label_at text ≡ Ok ([], text)
no_labels text first none =
    ends label_at no_label text [] text (starts label_at text) (ap label_at first ∙ none) ∙ ap (λ (l : List ℕ). Ok ([], l)) first

section_label : (rest : List ℕ) → label_at (codes ".section" ++ 32 ∷ rest) ≡ Ok None
unfolding label_at
section_label rest = refl

word_label : (rest : List ℕ) → label_at (codes ".word" ++ 32 ∷ rest) ≡ Ok None
unfolding label_at
word_label rest = refl

section_part : (rest name : List ℕ) → name_in (32 ∷ rest) ≡ Ok name → part_of (codes ".section" ++ 32 ∷ rest) ≡ Ok (Section name)
unfolding part_of directive_of
section_part rest name e = rw e refl

word_part : (rest : List ℕ) (n : ℕ) → values_of (slice_split (λ b. b == 44) (32 ∷ rest)) ≡ Ok (Number (pos n) ∷ []) → part_of (codes ".word" ++ 32 ∷ rest) ≡ Ok (Cells (Number (pos n) ∷ []))
unfolding part_of directive_of
word_part rest n e = rw e refl

-- what is read of a line, by what stands before its comment
read_line : (line text : List ℕ) (part : PlainPart) → list_all is_line_byte line ≡ true → before_first (λ b. b == 59) line ≡ text → all_items label_at text ≡ Ok ([], text) → part_of text ≡ Ok part
    → line_of line ≡ Ok ([], part)
unfolding line_of
read_line line text part all cut labels is = rw (all, cut, labels, is) refl

-- ---- a memory's line

name_line : (name : List ℕ) → is_name name ≡ true → list_all is_word name ≡ true
name_line [] h = absurd (cc h)
name_line (b ∷ bs) h =
    let front = (and_parts (is_letter b && list_all is_name_byte bs) _ h).0 in
    let both = and_parts (is_letter b) (list_all is_name_byte bs) front in
    and_from (is_word b) (list_all is_word bs) (letter_word b both.0) (all_weaker is_name_byte is_word name_word bs both.1)

no_blanks : (c : ℕ) (rest : List ℕ) → is_blank c ≡ false → skip_blanks (c ∷ rest) ≡ c ∷ rest
no_blanks c rest h = rw h refl

past_blank : (c : ℕ) (rest : List ℕ) → is_blank c ≡ false → skip_blanks (32 ∷ (c ∷ rest)) ≡ c ∷ rest
past_blank c rest h = drop_one (prefix_len is_blank (c ∷ rest)) 32 (c ∷ rest) ∙ no_blanks c rest h

past_word_blank : (w rest : List ℕ) → w ≢ [] → list_all is_word w ≡ true → skip_blanks (32 ∷ (w ++ rest)) ≡ w ++ rest
past_word_blank [] rest some all = absurd (some refl)
past_word_blank (c ∷ w) rest some all = past_blank c (w ++ rest) (word_blank c (and_parts (is_word c) (list_all is_word w) all).0)

some_name : (name : List ℕ) → is_name name ≡ true → name ≢ []
some_name [] h = absurd (cc h)
some_name (b ∷ bs) h = λ e. cc e

name_read : (name : List ℕ) → is_name name ≡ true → name_in (32 ∷ name) ≡ Ok name
unfolding name_in
name_read name h =
    let all : list_all is_word name ≡ true = name_line name h in
    let whole : name ++ [] ≡ name = append-nil name in
    let skipped : skip_blanks (32 ∷ name) ≡ name = ap (λ (l : List ℕ). skip_blanks (32 ∷ l)) (sym whole) ∙ past_word_blank name [] (some_name name h) all ∙ whole in
    let front : front_word name ≡ name = ap front_word (sym whole) ∙ take_run is_word name [] all refl in
    let behind : behind_word name ≡ [] = ap behind_word (sym whole) ∙ drop_run is_word name [] all refl in
    rw (skipped, front, behind, h) refl

pub section_read : (name : List ℕ) → is_name name ≡ true → line_of (codes ".section " ++ name) ≡ Ok ([], Section name)
section_read name h =
    let all : list_all is_word name ≡ true = name_line name h in
    let line : list_all is_line_byte (codes ".section " ++ name) ≡ true = all_both is_line_byte (codes ".section ") name refl (all_weaker is_word is_line_byte word_line name all) in
    let plain : list_all (λ b. not (b == 59)) (codes ".section " ++ name) ≡ true =
    all_both (λ b. not (b == 59)) (codes ".section ") name refl (all_weaker is_word (λ b. not (b == 59)) word_comment name all) in
    read_line (codes ".section " ++ name) (codes ".section " ++ name) (Section name) line (uncommented (codes ".section " ++ name) plain)
    (no_labels (codes ".section " ++ name) refl (section_label name)) (section_part name name (name_read name h))

-- ---- a value's line

abbrev zero_x : List ℕ
zero_x = 48 ∷ 120 ∷ []

value_number : (w : ℕ) → w < 2 ^ 64 → number_of (zero_x ++ hex w) ≡ Some w
unfolding number_of
value_number w lt = sym (numeral_is 16 (hex w) (Some w) (hex_numeral w lt))

-- what stands behind the value: nothing, or blanks
record IsTail (tail : List ℕ) : Type 0 where
  blank : list_all is_blank tail ≡ true
  front : front_is is_word tail ≡ false
  commas : lacks 44 tail ≡ true
  comment : list_all (λ b. not (b == 59)) tail ≡ true
  line : list_all is_line_byte tail ≡ true

module _ (w : ℕ) (lt : w < 2 ^ 64) (tail : List ℕ) (is : IsTail tail) where
  word_all : list_all is_word (zero_x ++ hex w) ≡ true
  word_all = all_both is_word zero_x (hex w) refl (hex_word w lt)

  front : front_word ((zero_x ++ hex w) ++ tail) ≡ zero_x ++ hex w
  front = take_run is_word (zero_x ++ hex w) tail word_all is.front

  behind : behind_word ((zero_x ++ hex w) ++ tail) ≡ tail
  behind = drop_run is_word (zero_x ++ hex w) tail word_all is.front

  number : number_in ((zero_x ++ hex w) ++ tail) ≡ Some (pos w)
  unfolding number_in
  number = rw (front, behind, value_number w lt, is.blank) refl

  cell : cell_of (32 ∷ ((zero_x ++ hex w) ++ tail)) ≡ Ok (Number (pos w))
  unfolding cell_of
  cell = rw (past_blank 48 (120 ∷ (hex w ++ tail)) refl, number) refl

  no_comma : lacks 44 (32 ∷ ((zero_x ++ hex w) ++ tail)) ≡ true
  no_comma = all_both (λ b. not (b == 44)) (zero_x ++ hex w) tail (all_weaker is_word (λ b. not (b == 44)) word_comma (zero_x ++ hex w) word_all) is.commas

  values : values_of (slice_split (λ b. b == 44) (32 ∷ ((zero_x ++ hex w) ++ tail))) ≡ Ok (Number (pos w) ∷ [])
  unfolding values_of
  values = rw (one_part 44 (32 ∷ ((zero_x ++ hex w) ++ tail)) no_comma, cell) refl

  abbrev shown : List ℕ
  shown = codes ".word " ++ ((zero_x ++ hex w) ++ tail)

  shown_plain : list_all (λ b. not (b == 59)) shown ≡ true
  shown_plain =
      all_both (λ b. not (b == 59)) (codes ".word ") ((zero_x ++ hex w) ++ tail) refl
      (all_both (λ b. not (b == 59)) (zero_x ++ hex w) tail (all_weaker is_word (λ b. not (b == 59)) word_comment (zero_x ++ hex w) word_all) is.comment)

  shown_line : list_all is_line_byte shown ≡ true
  shown_line =
      all_both is_line_byte (codes ".word ") ((zero_x ++ hex w) ++ tail) refl
      (all_both is_line_byte (zero_x ++ hex w) tail (all_weaker is_word is_line_byte word_line (zero_x ++ hex w) word_all) is.line)

  read_as : (line : List ℕ) → list_all is_line_byte line ≡ true → before_first (λ b. b == 59) line ≡ shown → line_of line ≡ Ok ([], Cells (Number (pos w) ∷ []))
  read_as line all cut = read_line line shown (Cells (Number (pos w) ∷ [])) all cut (no_labels shown refl (word_label ((zero_x ++ hex w) ++ tail))) (word_part ((zero_x ++ hex w) ++ tail) w values)

no_tail : IsTail []
no_tail = record { blank = refl; front = refl; commas = refl; comment = refl; line = refl }

one_blank : IsTail (32 ∷ [])
one_blank = record { blank = refl; front = refl; commas = refl; comment = refl; line = refl }

pub value_read : (w : ℕ) → w < 2 ^ 64 → line_of (codes ".word 0x" ++ hex w) ≡ Ok ([], Cells (Number (pos w) ∷ []))
value_read w lt =
    let whole : codes ".word " ++ ((zero_x ++ hex w) ++ []) ≡ codes ".word 0x" ++ hex w = ap (λ (l : List ℕ). codes ".word 0x" ++ l) (append-nil (hex w)) in
    ap line_of (sym whole)
    ∙ read_as w lt [] no_tail (shown w lt [] no_tail) (shown_line w lt [] no_tail) (uncommented (shown w lt [] no_tail) (shown_plain w lt [] no_tail))

pub noted_read : (w : ℕ) (note : List ℕ) → w < 2 ^ 64 → list_all is_line_byte note ≡ true
    → line_of ((codes ".word 0x" ++ hex w) ++ (codes " ; " ++ note)) ≡ Ok ([], Cells (Number (pos w) ∷ []))
noted_read w note lt all =
    let before : List ℕ = shown w lt (32 ∷ []) one_blank in
    let whole : (codes ".word 0x" ++ hex w) ++ (codes " ; " ++ note) ≡ before ++ 59 ∷ (32 ∷ note) =
    ap (λ (l : List ℕ). codes ".word 0x" ++ l) (sym (append_assoc (hex w) (32 ∷ []) (59 ∷ (32 ∷ note)))) in
    let line : list_all is_line_byte (before ++ 59 ∷ (32 ∷ note)) ≡ true = all_both is_line_byte before (59 ∷ (32 ∷ note)) (shown_line w lt (32 ∷ []) one_blank) all in
    ap line_of whole
    ∙ read_as w lt (32 ∷ []) one_blank (before ++ 59 ∷ (32 ∷ note)) line (commented before (32 ∷ note) (shown_plain w lt (32 ∷ []) one_blank))
