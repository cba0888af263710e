-- Tokens that are written apart are read again.
use Rattle.std.proofs.Common.{◌≡◌, ℕ, ◌+◌, ◌≤◌, Bool, true, false, eqb, List, [], ◌∷◌, ◌++◌, length, Some, None, refl, sym, ap, subst, ◌∙◌, inl, inr, arith, append_assoc}
use Rattle.std.specs.Prelude.{is_none, ◌&&◌}
use Rattle.std.specs.List.{list_all, prefix_len}
use Rattle.std.proofs.lemmas.Bool.{both_ways, and_parts, cases_Bool, not-true, eqb-true, ne_eqb, or_right}
use Rattle.std.proofs.lemmas.Bool.Decides.{nat_tests}
use Rattle.std.proofs.lemmas.List.{append-nil}
use Rattle.std.proofs.lemmas.List.Folds.{length-prefix_len}
use Rattle.lisa_tree.specs.declared.tokens.Sign.{Sign}
use Rattle.lisa_tree.specs.declared.tokens.TokenPart.{TokenPart}
use Rattle.lisa_tree.specs.declared.tokens.TokenPart.TheVariants as parts
use Rattle.lisa_tree.specs.Spellings.{keyword_text, shape_text, sign_text}
use Rattle.lisa_tree.specs.Tokens.{is_pattern_digit, is_in_string, IsToken, named, reserved, type_word, decimal, hexadecimal, pattern, string, sign, Begins, is_glued, Fits, placed, end, gap, token}
use Rattle.lisa_words.specs.Bytes.{is_blank, is_digit, is_hexadecimal, is_letter, is_word, front_is}
use Rattle.lisa_words.specs.Gaps.{blanks, starts_comment}
use Rattle.lisa_words.proofs.Runs.{run_is}
use Rattle.lisa_lexer.specs.Lexing.{starts_zero, is_quote}
use Rattle.lisa_lexer.specs.Signs.{two_bytes, sign_of}
use Rattle.lisa_lexer.specs.Written.{is_free, is_apart, Piece, text_of, ArePieces, parts_of, Reads}
use Rattle.lisa_lexer.proofs.Fronts.{front_more, front_no_comment, no_stroke}
use Rattle.lisa_lexer.proofs.ReservedLaws.{keyword_front, shape_front, reserved_part, type_part}
use Rattle.lisa_lexer.proofs.SignLaws.{sign_back, sign_no_letter, sign_no_digit, sign_no_quote}
use Rattle.lisa_lexer.proofs.TokenLaws.{token_some, token_no_blank}
use Rattle.lisa_lexer.proofs.Longest.{Longest, word_longest, hexadecimal_longest, pattern_longest, decimal_longest, string_longest, NoWord, sign_here, SignHere, single, double}

-- what a written token is, in front of what doesn't go on with it
pub record Stands (text rest : List ℕ) (part : TokenPart) : Type 0 where
  pub no_comment : starts_comment (text ++ rest) ≡ false
  pub begins : Begins (text ++ rest) text rest part
  pub free : is_glued part rest ≡ false

-- a token as long as the longest one
begins_by : (text rest long after : List ℕ) (part u : TokenPart) → IsToken text part → Longest (text ++ rest) long after u → length long ≤ length text → Begins (text ++ rest) text rest part
begins_by text rest long after part u is h le = record { parts = refl; is = is; longest = λ more behind v e m. let bound = h.bound more behind v e m in omega (arith, bound, le) }

front_join : (p : ℕ → Bool) (text rest : List ℕ) → front_is p text ≡ true → front_is p (text ++ rest) ≡ true
front_join p [] rest e = absurd cc
front_join p (b ∷ text) rest e = e

-- what passes less passes neither
no_front : (p : ℕ → Bool) → ((b : ℕ) → p b ≡ true → is_word b ≡ true) → (rest : List ℕ) → front_is is_word rest ≡ false → front_is p rest ≡ false
no_front p h [] e = refl
no_front p h (b ∷ rest) e = elim (cases_Bool (p b)) [ inl is ↦ absurd (both_ways (is_word b) e (h b is)) | inr other ↦ other ]

digit_word : (b : ℕ) → is_digit b ≡ true → is_word b ≡ true
digit_word b d = or_right (is_letter b) _ d

-- ---- words

word_stands : (text rest : List ℕ) (part : TokenPart) → IsToken text part → front_is is_letter text ≡ true → list_all is_word text ≡ true → ((r : List ℕ) → is_glued part r ≡ false) → front_is is_word rest ≡ false → Stands text rest part
word_stands text rest part is l all free e =
    let front : front_is is_letter (text ++ rest) ≡ true = front_join is_letter text rest l in
    let run : prefix_len is_word (text ++ rest) ≡ length text = run_is is_word text rest all e in
    let longest = word_longest (text ++ rest) front in
    record {
      no_comment = front_no_comment is_letter refl (text ++ rest) front;
      begins = begins_by text rest _ _ part _ is longest (omega (arith, run, length-prefix_len is_word (text ++ rest)));
      free = free rest;
    }

-- ---- numbers and patterns

hexadecimal_word : (b : ℕ) → is_hexadecimal b ≡ true → is_word b ≡ true
hexadecimal_word b d = grind (arith, nat_tests)

pattern_word : (b : ℕ) → is_pattern_digit b ≡ true → is_word b ≡ true
pattern_word b d = grind (arith, nat_tests)

hexadecimal_stands : (digits rest : List ℕ) (part : TokenPart) → IsToken (48 ∷ 120 ∷ digits) part → front_is is_hexadecimal digits ≡ true → list_all is_hexadecimal digits ≡ true → is_glued part rest ≡ false → front_is is_word rest ≡ false
    → Stands (48 ∷ 120 ∷ digits) rest part
hexadecimal_stands digits rest part is d all free e =
    let run : prefix_len is_hexadecimal (digits ++ rest) ≡ length digits = run_is is_hexadecimal digits rest all (no_front is_hexadecimal hexadecimal_word rest e) in
    let longest = hexadecimal_longest (digits ++ rest) (front_join is_hexadecimal digits rest d) in
    record {
      no_comment = refl;
      begins = begins_by (48 ∷ 120 ∷ digits) rest _ _ part _ is longest (omega (arith, run, length-prefix_len is_hexadecimal (digits ++ rest)));
      free = free;
    }

pattern_stands : (digits rest : List ℕ) (part : TokenPart) → IsToken (48 ∷ 98 ∷ digits) part → front_is is_pattern_digit digits ≡ true → list_all is_pattern_digit digits ≡ true → is_glued part rest ≡ false → front_is is_word rest ≡ false
    → Stands (48 ∷ 98 ∷ digits) rest part
pattern_stands digits rest part is d all free e =
    let run : prefix_len is_pattern_digit (digits ++ rest) ≡ length digits = run_is is_pattern_digit digits rest all (no_front is_pattern_digit pattern_word rest e) in
    let longest = pattern_longest (digits ++ rest) (front_join is_pattern_digit digits rest d) in
    record {
      no_comment = refl;
      begins = begins_by (48 ∷ 98 ∷ digits) rest _ _ part _ is longest (omega (arith, run, length-prefix_len is_pattern_digit (digits ++ rest)));
      free = free;
    }

module _ (letter : ℕ) (p : ℕ → Bool) (no_digit : is_digit letter ≡ false) (is_letters : is_word letter ≡ true) where
  second_false : (x y z : Bool) → y ≡ false → (x && y && z) ≡ false
  second_false true true z e = absurd cc
  second_false true false z e = refl
  second_false false y z e = refl

  zero_at : (a b : ℕ) (l : List ℕ) → eqb b letter ≡ false → starts_zero letter p (a ∷ b ∷ l) ≡ false
  zero_at a b [] e = refl
  zero_at a b (c ∷ l) e = second_false (eqb a 48) (eqb b letter) (p c) e

  no_zero : (text rest : List ℕ) → front_is is_digit text ≡ true → list_all is_digit text ≡ true → front_is is_word rest ≡ false → starts_zero letter p (text ++ rest) ≡ false
  no_zero [] rest d all e = absurd cc
  no_zero (a ∷ []) [] d all e = refl
  no_zero (a ∷ []) (c ∷ rest) d all e = zero_at a c rest (ne_eqb c letter (λ f. both_ways (is_word c) e (ap is_word f ∙ is_letters)))
  no_zero (a ∷ b ∷ text) rest d all e =
      let digit : is_digit b ≡ true = (and_parts _ _ (and_parts (is_digit a) (list_all is_digit (b ∷ text)) all).1).0 in
      zero_at a b (text ++ rest) (ne_eqb b letter (λ f. both_ways (is_digit letter) no_digit (ap is_digit (sym f) ∙ digit)))

decimal_stands : (text rest : List ℕ) (part : TokenPart) → IsToken text part → front_is is_digit text ≡ true → list_all is_digit text ≡ true → is_glued part rest ≡ false → front_is is_word rest ≡ false → Stands text rest part
decimal_stands text rest part is d all free e =
    let front : front_is is_digit (text ++ rest) ≡ true = front_join is_digit text rest d in
    let run : prefix_len is_digit (text ++ rest) ≡ length text = run_is is_digit text rest all (no_front is_digit digit_word rest e) in
    let longest = decimal_longest (text ++ rest) (no_zero 120 is_hexadecimal refl refl text rest d all e) (no_zero 98 is_pattern_digit refl refl text rest d all e) front in
    record {
      no_comment = front_no_comment is_digit refl (text ++ rest) front;
      begins = begins_by text rest _ _ part _ is longest (omega (arith, run, length-prefix_len is_digit (text ++ rest)));
      free = free;
    }

-- ---- strings

string_stands : (inner rest : List ℕ) → list_all is_in_string inner ≡ true → Stands (34 ∷ (inner ++ 34 ∷ [])) rest (parts.Text inner)
string_stands inner rest all =
    let whole : 34 ∷ (inner ++ 34 ∷ rest) ≡ (34 ∷ (inner ++ 34 ∷ [])) ++ rest = ap (λ (l : List ℕ). 34 ∷ l) (sym (append_assoc inner (34 ∷ []) rest)) in
    let longest = subst (λ (l : List ℕ). Longest l (34 ∷ (inner ++ 34 ∷ [])) rest (parts.Text inner)) whole (string_longest inner rest all) in
    record {
      no_comment = front_no_comment is_quote refl ((34 ∷ (inner ++ 34 ∷ [])) ++ rest) refl;
      begins = begins_by (34 ∷ (inner ++ 34 ∷ [])) rest _ _ (parts.Text inner) _ (string all) longest (omega arith);
      free = refl;
    }

-- ---- signs

no_double : (b c : ℕ) (cs : List ℕ) (s : Sign) → is_free (b ∷ []) (c ∷ cs) ≡ true → two_bytes b c ≡ Some s → ⊥
no_double b c cs s free e = both_ways (is_none (two_bytes b c)) (ap is_none e) (and_parts _ _ free).0

single_bound : {b : ℕ} {bs more : List ℕ} {u : TokenPart} → SignHere b bs more u → is_free (b ∷ []) bs ≡ true → length more ≤ 1
single_bound (single s is e same) free = omega (arith, ap length is)
single_bound {b} {bs} (double s c cs f is e same) free = absurd (no_double b c cs s (sym (ap (is_free (b ∷ [])) f) ∙ free) e)

double_bound : {b : ℕ} {bs more : List ℕ} {u : TokenPart} → SignHere b bs more u → length more ≤ 2
double_bound (single s is e same) = omega (arith, ap length is)
double_bound (double s c cs f is e same) = omega (arith, ap length is)

free_no_comment : (b : ℕ) (rest : List ℕ) → is_free (b ∷ []) rest ≡ true → starts_comment (b ∷ rest) ≡ false
free_no_comment b [] e = refl
free_no_comment b (c ∷ rest) e = not-true _ (and_parts _ _ e).1

double_no_comment : (b c : ℕ) (rest : List ℕ) (s : Sign) → two_bytes b c ≡ Some s → starts_comment (b ∷ c ∷ rest) ≡ false
double_no_comment b c rest s e = elim (cases_Bool (eqb b 47)) [
  | inl is ↦ absurd (let none : two_bytes b c ≡ None = ap (λ (x : ℕ). two_bytes x c) (eqb-true b 47 is) in cc)
  | inr other ↦ no_stroke b c c other
]

sign_stands : (text rest : List ℕ) (s : Sign) → sign_text s ≡ text → IsToken text (parts.Sign s) → is_free text rest ≡ true → Stands text rest (parts.Sign s)
sign_stands [] rest s e is free = absurd (omega (arith, token_some is))
sign_stands (b ∷ []) rest s e is free =
    let no_word : NoWord (b ∷ rest) = (sym (ap (front_is is_letter) e) ∙ sign_no_letter s, sym (ap (front_is is_digit) e) ∙ sign_no_digit s, sym (ap (front_is is_quote) e) ∙ sign_no_quote s) in
    record {
      no_comment = free_no_comment b rest free;
      begins = record { parts = refl; is = is; longest = λ more after u f m. single_bound (sign_here b rest more after u no_word f m) free };
      free = refl;
    }
sign_stands (b ∷ c ∷ []) rest s e is free =
    let no_word : NoWord (b ∷ c ∷ rest) = (sym (ap (front_is is_letter) e) ∙ sign_no_letter s, sym (ap (front_is is_digit) e) ∙ sign_no_digit s, sym (ap (front_is is_quote) e) ∙ sign_no_quote s) in
    record {
      no_comment = double_no_comment b c rest s (sym (ap sign_of e) ∙ sign_back s);
      begins = record { parts = refl; is = is; longest = λ more after u f m. double_bound (sign_here b (c ∷ rest) more after u no_word f m) };
      free = refl;
    }
sign_stands (b ∷ c ∷ d ∷ text) rest s e is free = absurd (let none : None ≡ Some s = sym (ap sign_of e) ∙ sign_back s in cc)

-- ---- each token

pub stands : {text : List ℕ} {part : TokenPart} → IsToken text part → (rest : List ℕ) → is_apart part rest ≡ true → Stands text rest part
stands (named {text = text} l all no_k no_s) rest e = word_stands text rest (parts.Named text) (named l all no_k no_s) l all (λ r. refl) (not-true (front_is is_word rest) e)
stands (reserved k) rest e = word_stands (keyword_text k) rest (parts.Reserved k) (reserved k) (keyword_front k) (reserved_part k).0 (λ r. refl) (not-true (front_is is_word rest) e)
stands (type_word s w) rest e = word_stands (shape_text s) rest (parts.TypeWord s) (type_word s w) (shape_front s) (type_part s w).0 (λ r. refl) (not-true (front_is is_word rest) e)
stands (decimal {digits = text} d all) rest e = let f = not-true (front_is is_word rest) e in decimal_stands text rest _ (decimal d all) d all f f
stands (hexadecimal {digits = digits} d all) rest e = let f = not-true (front_is is_word rest) e in hexadecimal_stands digits rest _ (hexadecimal d all) d all f f
stands (pattern {digits = digits} d all) rest e = let f = not-true (front_is is_word rest) e in pattern_stands digits rest _ (pattern d all) d all f f
stands (string {text = inner} all) rest e = string_stands inner rest all
stands (sign s) rest e = sign_stands (sign_text s) rest s refl (sign s) e

-- ---- pieces

blanks_read : (bs rest : List ℕ) (us : List TokenPart) → list_all is_blank bs ≡ true → front_is is_blank rest ≡ false → Reads rest us → Reads (bs ++ rest) us
blanks_read [] rest us all ends r = r
blanks_read (b ∷ bs) rest us all ends r = λ at.
    let both = and_parts (is_blank b) (list_all is_blank bs) all in
    let more = r (at + length (b ∷ bs)) in
    (more.0, gap (blanks both.0 both.1 ends) refl more.1, more.2)

token_read : (text rest : List ℕ) (part : TokenPart) (us : List TokenPart) → IsToken text part → Fits part → is_apart part rest ≡ true → Reads rest us → Reads (text ++ rest) (part ∷ us)
token_read text rest part us is fit apart r = λ at.
    let s = stands is rest apart in
    let more = r (at + length text) in
    (placed at part ∷ more.0, token s.no_comment s.begins s.free fit more.1, ap (λ (l : List TokenPart). part ∷ l) more.2)

pub written : (ps : List Piece) (last : List ℕ) → ArePieces ps last → Reads (text_of ps last) (parts_of ps)
written [] last h = subst (λ (l : List ℕ). Reads l []) (append-nil last) (blanks_read last [] [] h refl (λ at. ([], end, refl)))
written (p ∷ ps) last h =
    let first : front_is is_blank (p.text ++ text_of ps last) ≡ false = sym (front_more is_blank (p.text ++ text_of ps last) p.text (text_of ps last) refl (token_some h.1)) ∙ token_no_blank h.1 in
    blanks_read p.blanks (p.text ++ text_of ps last) (p.part ∷ parts_of ps) h.0 first (token_read p.text (text_of ps last) p.part (parts_of ps) h.1 h.2 h.3 (written ps last h.4))
