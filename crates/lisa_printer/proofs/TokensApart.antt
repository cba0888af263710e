-- A token is the longest at the front where what follows it doesn't go on with it.
use Rattle.std.proofs.Common.{◌≡◌, ℕ, Some, ◌<◌, ◌≤◌, Bool, true, false, List, [], ◌∷◌, ◌++◌, length, ◌⊎◌, inl, inr, refl, sym, ap, ◌∙◌, arith, append_assoc, length-append}
use Rattle.std.specs.Prelude.{◌==◌, ◌&&◌, ◌||◌}
use Rattle.std.specs.List.{list_all, prefix_len}
use Rattle.std.specs.Char.{digit_value}
use Rattle.std.specs.Fmt.{decimal}
use Rattle.std.specs.Str.Parse.{AllDigits}
use Rattle.std.proofs.lemmas.Bool.{and_from, and_parts, both_ways, cases_Bool}
use Rattle.std.proofs.lemmas.Bool.Decides.{nat_tests}
use Rattle.std.proofs.lemmas.Fmt.{decimal_is_IsNumeral}
use Rattle.std.proofs.lemmas.List.Folds.{list_all-append}
use Rattle.lisa_words.specs.Bytes.{is_blank, is_digit, is_hexadecimal, is_letter, is_word, front_is}
use Rattle.lisa_words.specs.Gaps.{starts_comment}
use Rattle.lisa_words.proofs.Runs.{same_head, same_tail, run_longest, run_is}
use Rattle.lisa_words.specs.declared.words.Kind.{Kind}
use Rattle.lisa_words.specs.declared.words.Kind.TheVariants as kinds
use Rattle.lisa_tree.specs.declared.tokens.Keyword.{Keyword}
use Rattle.lisa_tree.specs.declared.tokens.Keyword.TheVariants as keywords
use Rattle.lisa_tree.specs.declared.tokens.Shape.{Shape}
use Rattle.lisa_tree.specs.declared.tokens.Sign.{Sign}
use Rattle.lisa_tree.specs.declared.tokens.Sign.TheVariants as signs
use Rattle.lisa_tree.specs.declared.tokens.TokenPart.{TokenPart}
use Rattle.lisa_tree.specs.declared.tokens.TokenPart.TheVariants as parts
use Rattle.lisa_tree.specs.Spellings.{sign_text, keyword_text, kind_text, shape_text}
use Rattle.lisa_tree.specs.Tokens as tokens
use Rattle.lisa_tree.specs.Tokens.{IsToken, IsTypeWidth, Begins, is_in_string, is_pattern_digit, is_glued, named, reserved, type_word, hexadecimal, pattern, string, sign}
use Rattle.lisa_printer.specs.CanonicalText.{sign_in, leans}

-- ---- the form of a token

-- a run of word bytes, a string, or a sign
data Form : List ℕ → TokenPart → Type 0 where
  worded : {text : List ℕ} {part : TokenPart} → front_is is_word text ≡ true → list_all is_word text ≡ true → leans (sign_in part) ≡ false → Form text part
  quoted : {inner : List ℕ} → list_all is_in_string inner ≡ true → Form (34 ∷ (inner ++ 34 ∷ [])) (parts.Text inner)
  signed : (s : Sign) → Form (sign_text s) (parts.Sign s)

weaker : (p q : ℕ → Bool) → ((b : ℕ) → p b ≡ true → q b ≡ true) → (xs : List ℕ) → list_all p xs ≡ true → list_all q xs ≡ true
weaker p q h [] all = refl
weaker p q h (b ∷ xs) all = let t = and_parts (p b) (list_all p xs) all in and_from (q b) (list_all q xs) (h b t.0) (weaker p q h xs t.1)

front_weaker : (p q : ℕ → Bool) → ((b : ℕ) → p b ≡ true → q b ≡ true) → (xs : List ℕ) → front_is p xs ≡ true → front_is q xs ≡ true
front_weaker p q h [] e = absurd cc
front_weaker p q h (b ∷ xs) e = h b e

letter_word : (b : ℕ) → is_letter b ≡ true → is_word b ≡ true
letter_word b e = grind (arith, nat_tests)

digit_word : (b : ℕ) → is_digit b ≡ true → is_word b ≡ true
digit_word b e = grind (arith, nat_tests)

hexadecimal_word : (b : ℕ) → is_hexadecimal b ≡ true → is_word b ≡ true
hexadecimal_word b e = grind (arith, nat_tests)

pattern_word : (b : ℕ) → is_pattern_digit b ≡ true → is_word b ≡ true
pattern_word b e = grind (arith, nat_tests)

value_word : (b : ℕ) → digit_value b < 10 → is_word b ≡ true
value_word b h = grind (arith, nat_tests)

digits_word : (ds : List ℕ) → AllDigits 10 ds → list_all is_word ds ≡ true
digits_word [] h = refl
digits_word (b ∷ ds) h = and_from (is_word b) (list_all is_word ds) (value_word b h.0) (digits_word ds h.1)

keyword_front : (k : Keyword) → front_is is_word (keyword_text k) ≡ true
keyword_front keywords.Resource = refl
keyword_front _ = refl

keyword_all : (k : Keyword) → list_all is_word (keyword_text k) ≡ true
keyword_all keywords.Resource = refl
keyword_all _ = refl

shape_front : (s : Shape) → front_is is_word (shape_text s) ≡ true
shape_front s = go s.kind
  where
    go : (k : Kind) → front_is is_word (kind_text k ++ decimal s.width) ≡ true
    go kinds.Unsigned = refl
    go kinds.Signed = refl

shape_all : (s : Shape) → IsTypeWidth s.width → list_all is_word (shape_text s) ≡ true
shape_all s w = rw list_all-append (and_from _ _ (letters s.kind) (digits_word (decimal s.width) (decimal_is_IsNumeral s.width (omega (arith, w.1))).0.1))
  where
    letters : (k : Kind) → list_all is_word (kind_text k) ≡ true
    letters kinds.Unsigned = refl
    letters kinds.Signed = refl

form_of : {text : List ℕ} {part : TokenPart} → IsToken text part → Form text part
form_of (named {text = text} front all no_word no_type) = worded (front_weaker is_letter is_word letter_word text front) all refl
form_of (reserved k) = worded (keyword_front k) (keyword_all k) refl
form_of (type_word s w) = worded (shape_front s) (shape_all s w) refl
form_of (tokens.decimal {digits = ds} front all) = worded (front_weaker is_digit is_word digit_word ds front) (weaker is_digit is_word digit_word ds all) refl
form_of (hexadecimal {digits = ds} front all) = worded refl (weaker is_hexadecimal is_word hexadecimal_word ds all) refl
form_of (pattern {digits = ds} front all) = worded refl (weaker is_pattern_digit is_word pattern_word ds all) refl
form_of (string all) = quoted all
form_of (sign s) = signed s

-- ---- what may follow

-- a byte that may go on with a token: a word byte, the second byte of a sign, or of what begins a comment
abbrev pub joins : ℕ → Bool
joins b = is_word b || b == 60 || b == 62 || b == 61 || b == 38 || b == 124 || b == 47 || b == 42

-- the token has a sign that nothing goes on with, or what follows it doesn't
abbrev pub IsApart : TokenPart → List ℕ → Type 0
IsApart part rest = (leans (sign_in part) ≡ true) ⊎ (front_is joins rest ≡ false)

word_joins : (b : ℕ) → is_word b ≡ true → joins b ≡ true
word_joins b e = rw e refl

no_word : (rest : List ℕ) → front_is joins rest ≡ false → front_is is_word rest ≡ false
no_word [] e = refl
no_word (b ∷ rest) e = elim (cases_Bool (is_word b)) [ inl t ↦ absurd (both_ways (joins b) e (word_joins b t)) | inr f ↦ f ]

-- the first byte of a sign of two bytes may begin one, and the second one joins
abbrev begins_two : ℕ → Bool
begins_two b = b == 60 || b == 62 || b == 61 || b == 33 || b == 38 || b == 124 || b == 35

abbrev is_pair : List ℕ → Bool
is_pair [] = true
is_pair (b ∷ []) = true
is_pair (b ∷ c ∷ []) = begins_two b && joins c
is_pair _ = false

sign_pair : (s : Sign) → is_pair (sign_text s) ≡ true
sign_pair signs.ShiftLeft = refl
sign_pair _ = refl

sign_front : (s : Sign) → front_is is_word (sign_text s) ≡ false
sign_front signs.ShiftLeft = refl
sign_front _ = refl

sign_no_quote : (s : Sign) → front_is (λ (b : ℕ). b == 34) (sign_text s) ≡ false
sign_no_quote signs.ShiftLeft = refl
sign_no_quote _ = refl

sign_some : (s : Sign) → 1 ≤ length (sign_text s)
sign_some signs.ShiftLeft = omega arith
sign_some _ = omega arith

pair_short : (xs : List ℕ) → is_pair xs ≡ true → length xs ≤ 2
pair_short [] e = omega arith
pair_short (b ∷ []) e = omega arith
pair_short (b ∷ c ∷ []) e = omega arith
pair_short (b ∷ c ∷ d ∷ xs) e = absurd cc

-- a sign that leans begins none of two bytes
lean_alone : (s : Sign) → leans (Some s) ≡ true → front_is begins_two (sign_text s) ≡ false
lean_alone signs.OpenRound e = refl
lean_alone signs.OpenSquare e = refl
lean_alone signs.Dot e = refl
lean_alone _ e = absurd cc

-- ---- the longest token

front_of : (p : ℕ → Bool) (text rest more after : List ℕ) → text ++ rest ≡ more ++ after → 0 < length text → 0 < length more → front_is p more ≡ front_is p text
front_of p [] rest more after e lt lm = absurd (omega arith)
front_of p (b ∷ text) rest [] after e lt lm = absurd (omega arith)
front_of p (b ∷ text) rest (c ∷ more) after e lt lm = ap p (sym (same_head b c (text ++ rest) (more ++ after) e))

front_some : (p : ℕ → Bool) (xs : List ℕ) → front_is p xs ≡ true → 0 < length xs
front_some p [] e = absurd cc
front_some p (b ∷ xs) e = omega arith

form_some : {text : List ℕ} {part : TokenPart} → Form text part → 0 < length text
form_some (worded {text = text} front all l) = front_some is_word text front
form_some (quoted all) = omega arith
form_some (signed s) = omega (arith, sign_some s)

-- a sign of two bytes where a shorter one stands goes on with what follows
two_contradict : (xs ys rest after : List ℕ) → is_pair ys ≡ true → 1 ≤ length xs → xs ++ rest ≡ ys ++ after → (front_is begins_two xs ≡ false) ⊎ (front_is joins rest ≡ false) → length ys ≤ length xs
two_contradict [] ys rest after p some e h = absurd (omega arith)
two_contradict (a ∷ []) [] rest after p some e h = omega arith
two_contradict (a ∷ []) (b ∷ []) rest after p some e h = omega arith
two_contradict (a ∷ []) (b ∷ c ∷ []) [] after p some e h = absurd cc
two_contradict (a ∷ []) (b ∷ c ∷ []) (d ∷ rest) after p some e (inl alone) =
    absurd (both_ways (begins_two a) alone (ap begins_two (same_head a b (d ∷ rest) (c ∷ after) e) ∙ (and_parts (begins_two b) (joins c) p).0))
two_contradict (a ∷ []) (b ∷ c ∷ []) (d ∷ rest) after p some e (inr ends) =
    absurd (both_ways (joins d) ends (ap joins (same_head d c rest after (same_tail a b (d ∷ rest) (c ∷ after) e)) ∙ (and_parts (begins_two b) (joins c) p).1))
two_contradict (a ∷ []) (b ∷ c ∷ d ∷ ys) rest after p some e h = absurd cc
two_contradict (a ∷ a' ∷ xs) ys rest after p some e h = omega (arith, pair_short ys p)

quote_same : (inner inner' rest after : List ℕ) → list_all is_in_string inner ≡ true → list_all is_in_string inner' ≡ true → (34 ∷ (inner ++ 34 ∷ [])) ++ rest ≡ (34 ∷ (inner' ++ 34 ∷ [])) ++ after
    → length inner' ≡ length inner
quote_same inner inner' rest after all all' e =
    let f : inner ++ (34 ∷ rest) ≡ inner' ++ (34 ∷ after) =
    sym (append_assoc inner (34 ∷ []) rest) ∙ same_tail 34 34 ((inner ++ 34 ∷ []) ++ rest) ((inner' ++ 34 ∷ []) ++ after) e ∙ append_assoc inner' (34 ∷ []) after in
    sym (run_is is_in_string inner' (34 ∷ after) all' refl) ∙ ap (prefix_len is_in_string) (sym f) ∙ run_is is_in_string inner (34 ∷ rest) all refl

bound : {text more : List ℕ} {part other : TokenPart} → Form text part → Form more other → (rest after : List ℕ) → IsApart part rest → text ++ rest ≡ more ++ after → length more ≤ length text
bound (worded {text = text} front all l) (worded {text = more} front' all' l') rest after (inl e) is = absurd (both_ways (leans _) l e)
bound (worded {text = text} front all l) (worded {text = more} front' all' l') rest after (inr ends) is =
    omega (arith, run_longest is_word (text ++ rest) more after is all', run_is is_word text rest all (no_word rest ends))
bound (worded {text = text} front all l) (quoted {inner = inner} all') rest after a is =
    absurd (both_ways (front_is is_word text) (sym (front_of is_word text rest (34 ∷ (inner ++ 34 ∷ [])) after is (front_some is_word text front) (omega arith))) front)
bound (worded {text = text} front all l) (signed s) rest after a is =
    absurd (both_ways (front_is is_word text) (sym (front_of is_word text rest (sign_text s) after is (front_some is_word text front) (omega (arith, sign_some s))) ∙ sign_front s) front)
bound (quoted {inner = inner} all) (worded {text = more} front' all' l') rest after a is =
    absurd (both_ways (front_is is_word more) (front_of is_word (34 ∷ (inner ++ 34 ∷ [])) rest more after is (omega arith) (front_some is_word more front')) front')
bound (quoted {inner = inner} all) (quoted {inner = inner'} all') rest after a is =
    omega (arith, quote_same inner inner' rest after all all' is, length-append inner (34 ∷ []), length-append inner' (34 ∷ []))
bound (quoted {inner = inner} all) (signed s) rest after a is =
    absurd (both_ways (front_is (λ (b : ℕ). b == 34) (sign_text s)) (sign_no_quote s)
    (front_of (λ (b : ℕ). b == 34) (34 ∷ (inner ++ 34 ∷ [])) rest (sign_text s) after is (omega arith) (omega (arith, sign_some s))))
bound (signed s) (worded {text = more} front' all' l') rest after a is =
    absurd (both_ways (front_is is_word more) (front_of is_word (sign_text s) rest more after is (omega (arith, sign_some s)) (front_some is_word more front') ∙ sign_front s) front')
bound (signed s) (quoted {inner = inner} all') rest after a is =
    absurd (both_ways (front_is (λ (b : ℕ). b == 34) (sign_text s)) (sign_no_quote s)
    (sym (front_of (λ (b : ℕ). b == 34) (sign_text s) rest (34 ∷ (inner ++ 34 ∷ [])) after is (omega (arith, sign_some s)) (omega arith))))
bound (signed s) (signed s') rest after (inl e) is = two_contradict (sign_text s) (sign_text s') rest after (sign_pair s') (sign_some s) is (inl (lean_alone s e))
bound (signed s) (signed s') rest after (inr e) is = two_contradict (sign_text s) (sign_text s') rest after (sign_pair s') (sign_some s) is (inr e)

-- ---- a token in front of what is apart from it

word_no_comment : (b : ℕ) (bytes : List ℕ) → is_word b ≡ true → starts_comment (b ∷ bytes) ≡ false
word_no_comment b [] e = refl
word_no_comment b (c ∷ bytes) e = grind (arith, nat_tests)

first_false : (a b : Bool) → (a || b) ≡ false → a ≡ false
first_false true b e = absurd cc
first_false false b e = refl

second_false : (a b : Bool) → (a || b) ≡ false → b ≡ false
second_false true b e = absurd cc
second_false false b e = e

slash_no_comment : (rest : List ℕ) → front_is joins rest ≡ false → starts_comment (47 ∷ rest) ≡ false
slash_no_comment [] e = refl
slash_no_comment (c ∷ rest) e =
    let star : (c == 42) ≡ false = second_false _ (c == 42) e in
    let stroke : (c == 47) ≡ false = second_false _ (c == 47) (first_false _ (c == 42) e) in
    rw (stroke, star) refl

sign_no_comment : (s : Sign) (rest : List ℕ) → IsApart (parts.Sign s) rest → starts_comment (sign_text s ++ rest) ≡ false
sign_no_comment signs.Slash rest (inl e) = absurd cc
sign_no_comment signs.Slash rest (inr e) = slash_no_comment rest e
sign_no_comment s [] a = alone s
  where
    alone : (s : Sign) → starts_comment (sign_text s ++ []) ≡ false
    alone signs.ShiftLeft = refl
    alone _ = refl
sign_no_comment signs.ShiftLeft (c ∷ rest) a = refl
sign_no_comment _ (c ∷ rest) a = refl

pub record Stands (text rest : List ℕ) (part : TokenPart) : Type 0 where
  pub no_comment : starts_comment (text ++ rest) ≡ false
  pub begins : Begins (text ++ rest) text rest part
  pub free : is_glued part rest ≡ false
  pub no_blank : front_is is_blank (text ++ rest) ≡ false

no_comment_of : {text : List ℕ} {part : TokenPart} → Form text part → (rest : List ℕ) → IsApart part rest → starts_comment (text ++ rest) ≡ false
no_comment_of (worded {text = []} front all l) rest a = absurd cc
no_comment_of (worded {text = b ∷ text} front all l) rest a = word_no_comment b (text ++ rest) front
no_comment_of (quoted {inner = []} all) rest a = refl
no_comment_of (quoted {inner = b ∷ inner} all) rest a = refl
no_comment_of (signed s) rest a = sign_no_comment s rest a

word_no_blank : (b : ℕ) → is_word b ≡ true → is_blank b ≡ false
word_no_blank b e = grind (arith, nat_tests)

no_blank_of : {text : List ℕ} {part : TokenPart} → Form text part → (rest : List ℕ) → front_is is_blank (text ++ rest) ≡ false
no_blank_of (worded {text = []} front all l) rest = absurd cc
no_blank_of (worded {text = b ∷ text} front all l) rest = word_no_blank b front
no_blank_of (quoted all) rest = refl
no_blank_of (signed signs.ShiftLeft) rest = refl
no_blank_of (signed _) rest = refl

free_of : (part : TokenPart) (rest : List ℕ) → IsApart part rest → is_glued part rest ≡ false
free_of (parts.Number value base) rest (inl e) = absurd cc
free_of (parts.Number value base) rest (inr e) = no_word rest e
free_of (parts.Pattern digits) rest (inl e) = absurd cc
free_of (parts.Pattern digits) rest (inr e) = no_word rest e
free_of _ rest a = refl

pub stands : {text : List ℕ} {part : TokenPart} → IsToken text part → (rest : List ℕ) → IsApart part rest → Stands text rest part
stands {part = part} is rest a = record {
  no_comment = no_comment_of (form_of is) rest a;
  begins = record { parts = refl; is = is; longest = λ more after other e u. bound (form_of is) (form_of u) rest after a e };
  free = free_of part rest a;
  no_blank = no_blank_of (form_of is) rest;
}
