-- What stands at the front, and that item_at says it.
use Rattle.std.proofs.Common.{◌≡◌, ℕ, suc, ◌+◌, ◌^◌, ◌<◌, ◌≤◌, Bool, true, false, cond, eqb, ltb, List, [], ◌∷◌, ◌++◌, length, take, drop, Option, Some, None, Ok, Err, refl, sym, ap, subst, ◌∙◌, arith, inl, inr, ◌⊎◌, append_assoc}
use Rattle.std.specs.Prelude.{not}
use Rattle.std.specs.Str.Parse.{digits_value}
use Rattle.std.specs.List.{list_all, prefix_len}
use Rattle.std.proofs.lemmas.Bool.{both_ways, eqb-true, ltb-true, ltb-false, lt-ltb, le-ltb}
use Rattle.std.proofs.lemmas.List.{take-append-drop, take_at, drop_at, length-append, append-nil}
use Rattle.std.proofs.lemmas.List.Folds.{length-prefix_len}
use Rattle.lisa_tree.specs.declared.faults.DescFault.{DescFault}
use Rattle.lisa_tree.specs.declared.faults.DescFault.TheVariants as faults
use Rattle.lisa_tree.specs.declared.tokens.Base.{Base}
use Rattle.lisa_tree.specs.declared.tokens.Base.TheVariants as bases
use Rattle.lisa_tree.specs.declared.tokens.Sign.{Sign}
use Rattle.lisa_tree.specs.declared.tokens.TokenPart.{TokenPart}
use Rattle.lisa_tree.specs.declared.tokens.TokenPart.TheVariants as parts
use Rattle.lisa_tree.specs.Tokens.{is_pattern_digit, is_in_string, Begins, is_glued, Fits, Stuck, bad, broken, in_string, no_quote, glued, wide_number, wide_pattern, long}
use Rattle.lisa_words.specs.declared.gaps.Gap.{Gap}
use Rattle.lisa_words.specs.declared.gaps.Gap.TheVariants as gaps
use Rattle.lisa_words.specs.Bytes.{is_blank, is_digit, is_hexadecimal, is_letter, is_word, front_is}
use Rattle.lisa_words.specs.Gaps.{IsGap, blanks, line, block, BrokenGap, in_line, in_block, no_end, starts_comment, GapIs, gap_at}
use Rattle.lisa_words.proofs.Runs.{same_head, taken_pass, run_ends, run_is}
use Rattle.lisa_words.proofs.GapLaws.{gap_is, gap_whole, gap_broken, gap_absent}
use Rattle.lisa_lexer.specs.declared.items.Item.TheVariants.{Skip, Take}
use Rattle.lisa_lexer.specs.Lexing.{Front, word_at, decimal_at, hexadecimal_at, pattern_at, number_at, starts_zero, string_end, string_at, one_at, two_at, sign_at, past_gap, is_quote, item_at}
use Rattle.lisa_lexer.specs.Reserved.{word_part}
use Rattle.lisa_lexer.specs.Signs.{one_byte, two_bytes}
use Rattle.lisa_lexer.proofs.Fronts.{not_letter_digit, not_letter_blank, not_digit_blank, front_apart, front_false, front_more, front_no_comment}
use Rattle.lisa_lexer.proofs.ReservedLaws.{word_fits, word_free, word_long}
use Rattle.lisa_lexer.proofs.TokenLaws.{token_some, string_only, token_no_blank}
use Rattle.lisa_lexer.proofs.Longest.{Longest, begins_from, begins_only, word_longest, zero_split, hexadecimal_longest, pattern_longest, decimal_longest, string_longest, NoWord, NoTwo, two_longest, one_longest, no_sign}

-- ---- what is answered of a token

fits : TokenPart → Bool
fits (parts.Named name) = not (ltb 64 (length name))
fits (parts.Reserved k) = true
fits (parts.TypeWord s) = true
fits (parts.Number value base) = ltb value (2 ^ 64)
fits (parts.Pattern digits) = not (ltb 64 (length digits))
fits (parts.Text t) = true
fits (parts.Sign s) = true

too_big : ℕ → TokenPart → DescFault
too_big at (parts.Named name) = faults.NameTooLong at
too_big at _ = faults.NumberTooWide at

-- a token of n bytes, where the rest follows
pub verdict : ℕ → ℕ → TokenPart → List ℕ → Front
verdict at n part rest = cond (fits part) (cond (is_glued part rest) (Err (faults.BadByte (at + n))) (Ok (Take n part))) (Err (too_big at part))

fits_of : (part : TokenPart) → Fits part → fits part ≡ true
unfolding fits
fits_of (parts.Named name) h = ap not (le-ltb 64 (length name) h)
fits_of (parts.Reserved k) h = refl
fits_of (parts.TypeWord s) h = refl
fits_of (parts.Number value base) h = lt-ltb value (2 ^ 64) h
fits_of (parts.Pattern digits) h = ap not (le-ltb 64 (length digits) h)
fits_of (parts.Text t) h = refl
fits_of (parts.Sign s) h = refl

pub verdict_good : (at n : ℕ) (part : TokenPart) (rest : List ℕ) → Fits part → is_glued part rest ≡ false → verdict at n part rest ≡ Ok (Take n part)
unfolding verdict
verdict_good at n part rest fit free = rw (fits_of part fit, free) refl

pub verdict_glued : (at n : ℕ) (part : TokenPart) (rest : List ℕ) → Fits part → is_glued part rest ≡ true → verdict at n part rest ≡ Err (faults.BadByte (at + n))
unfolding verdict
verdict_glued at n part rest fit free = rw (fits_of part fit, free) refl

pub verdict_long : (at n : ℕ) (name rest : List ℕ) → 64 < length name → verdict at n (parts.Named name) rest ≡ Err (faults.NameTooLong at)
unfolding verdict fits too_big
verdict_long at n name rest far = rw (lt-ltb 64 (length name) far) refl

pub verdict_number : (at n value : ℕ) (base : Base) (rest : List ℕ) → 2 ^ 64 ≤ value → verdict at n (parts.Number value base) rest ≡ Err (faults.NumberTooWide at)
unfolding verdict fits too_big
verdict_number at n value base rest far = rw (le-ltb value (2 ^ 64) far) refl

pub verdict_pattern : (at n : ℕ) (digits rest : List ℕ) → 64 < length digits → verdict at n (parts.Pattern digits) rest ≡ Err (faults.NumberTooWide at)
unfolding verdict fits too_big
verdict_pattern at n digits rest far = rw (lt-ltb 64 (length digits) far) refl

-- a token of n bytes stands at the front
pub record Takes (bytes : List ℕ) (n : ℕ) (part : TokenPart) : Type 0 where
  pub text : List ℕ
  pub rest : List ℕ
  pub no_comment : starts_comment bytes ≡ false
  pub begins : Begins bytes text rest part
  pub len : length text ≡ n
  pub free : is_glued part rest ≡ false
  pub fit : Fits part

-- a gap of n bytes stands at the front
pub record Skips (bytes : List ℕ) (n : ℕ) : Type 0 where
  pub text : List ℕ
  pub rest : List ℕ
  pub parts : bytes ≡ text ++ rest
  pub is : IsGap text rest
  pub len : length text ≡ n
  pub some : 0 < n

abbrev pub ItemIs : ℕ → List ℕ → Front → Type 0
ItemIs at bytes (Ok (Skip n)) = Skips bytes n
ItemIs at bytes (Ok (Take n part)) = Takes bytes n part
ItemIs at bytes (Err fault) = Stuck at bytes fault

module _ (at : ℕ) (bytes text rest : List ℕ) (no_comment : starts_comment bytes ≡ false) where
  taken : (part : TokenPart) → Begins bytes text rest part → is_glued part rest ≡ false → Fits part → ItemIs at bytes (Ok (Take (length text) part))
  taken part begins free fit = record { text = text; rest = rest; no_comment = no_comment; begins = begins; len = refl; free = free; fit = fit }

  verdict_is : (part : TokenPart) → Begins bytes text rest part → ItemIs at bytes (verdict at (length text) part rest)
  unfolding verdict fits too_big
  verdict_is (parts.Named name) h = go (ltb 64 (length name)) refl
    where
      go : (c : Bool) → ltb 64 (length name) ≡ c → ItemIs at bytes (cond (not c) (Ok (Take (length text) (parts.Named name))) (Err (faults.NameTooLong at)))
      go true e = long h (ltb-true _ _ e)
      go false e = taken (parts.Named name) h refl (ltb-false _ _ e)
  verdict_is (parts.Reserved k) h = taken (parts.Reserved k) h refl tt
  verdict_is (parts.TypeWord s) h = taken (parts.TypeWord s) h refl tt
  verdict_is (parts.Number value base) h = go (ltb value (2 ^ 64)) (front_is is_word rest) refl refl
    where
      go : (c d : Bool) → ltb value (2 ^ 64) ≡ c → front_is is_word rest ≡ d → ItemIs at bytes (cond c (cond d (Err (faults.BadByte (at + length text))) (Ok (Take (length text) (parts.Number value base)))) (Err (faults.NumberTooWide at)))
      go true true e f = glued h (ltb-true _ _ e) f
      go true false e f = taken (parts.Number value base) h f (ltb-true _ _ e)
      go false d e f = wide_number h (ltb-false _ _ e)
  verdict_is (parts.Pattern digits) h = go (ltb 64 (length digits)) (front_is is_word rest) refl refl
    where
      go : (c d : Bool) → ltb 64 (length digits) ≡ c → front_is is_word rest ≡ d → ItemIs at bytes (cond (not c) (cond d (Err (faults.BadByte (at + length text))) (Ok (Take (length text) (parts.Pattern digits)))) (Err (faults.NumberTooWide at)))
      go true d e f = wide_pattern h (ltb-true _ _ e)
      go false true e f = glued h (ltb-false _ _ e) f
      go false false e f = taken (parts.Pattern digits) h f (ltb-false _ _ e)
  verdict_is (parts.Text t) h = taken (parts.Text t) h refl tt
  verdict_is (parts.Sign s) h = taken (parts.Sign s) h refl tt

-- the longest token at the front is known, and item_at answers by it
pub record Known (at : ℕ) (bytes : List ℕ) : Type 0 where
  pub text : List ℕ
  pub rest : List ℕ
  pub part : TokenPart
  pub no_comment : starts_comment bytes ≡ false
  pub longest : Longest bytes text rest part
  pub answer : item_at at bytes ≡ verdict at (length text) part rest

known_is : (at : ℕ) (bytes : List ℕ) → Known at bytes → ItemIs at bytes (item_at at bytes)
known_is at bytes k = subst (ItemIs at bytes) (sym k.answer) (verdict_is at bytes k.text k.rest k.no_comment k.part (begins_from bytes k.text k.rest k.part k.longest))

known_begins : (at : ℕ) (bytes : List ℕ) → Known at bytes → (text rest : List ℕ) (part : TokenPart) → Begins bytes text rest part → item_at at bytes ≡ verdict at (length text) part rest
known_begins at bytes k text rest part h =
    let same = begins_only bytes k.text k.rest text rest k.part part k.longest h in
    k.answer ∙ ap (λ (l : List ℕ). verdict at (length l) k.part k.rest) (sym same.text) ∙ ap (λ (l : List ℕ). verdict at (length text) k.part l) (sym same.rest) ∙ ap (λ (u : TokenPart). verdict at (length text) u rest) (sym same.part)

-- ---- names and words

item_word : (at : ℕ) (bytes : List ℕ) → front_is is_letter bytes ≡ true → item_at at bytes ≡ word_at at bytes
unfolding item_at
item_word at bytes l = rw l refl

word_verdict : (at : ℕ) (bytes : List ℕ) → word_at at bytes ≡ verdict at (length (take (prefix_len is_word bytes) bytes)) (word_part (take (prefix_len is_word bytes) bytes)) (drop (prefix_len is_word bytes) bytes)
unfolding word_at
word_verdict at bytes = go (ltb 64 (prefix_len is_word bytes)) refl
  where
    text : List ℕ
    text = take (prefix_len is_word bytes) bytes

    rest : List ℕ
    rest = drop (prefix_len is_word bytes) bytes

    len : length (take (prefix_len is_word bytes) bytes) ≡ prefix_len is_word bytes
    len = length-prefix_len is_word bytes

    go : (c : Bool) → ltb 64 (prefix_len is_word bytes) ≡ c
        → cond c (Err (faults.NameTooLong at)) (Ok (Take (prefix_len is_word bytes) (word_part (take (prefix_len is_word bytes) bytes)))) ≡ verdict at (length (take (prefix_len is_word bytes) bytes)) (word_part (take (prefix_len is_word bytes) bytes)) (drop (prefix_len is_word bytes) bytes)
    go true e =
        let far : 64 < length (take (prefix_len is_word bytes) bytes) = let more = ltb-true _ _ e in omega (arith, more, len) in
        sym (ap (λ (u : TokenPart). verdict at (length (take (prefix_len is_word bytes) bytes)) u (drop (prefix_len is_word bytes) bytes)) (word_long (take (prefix_len is_word bytes) bytes) far)
        ∙ verdict_long at (length (take (prefix_len is_word bytes) bytes)) (take (prefix_len is_word bytes) bytes) (drop (prefix_len is_word bytes) bytes) far)
    go false e =
        let few : length (take (prefix_len is_word bytes) bytes) ≤ 64 = let le = ltb-false _ _ e in omega (arith, le, len) in
        sym (verdict_good at (length (take (prefix_len is_word bytes) bytes)) (word_part (take (prefix_len is_word bytes) bytes)) (drop (prefix_len is_word bytes) bytes) (word_fits (take (prefix_len is_word bytes) bytes) few) (word_free (take (prefix_len is_word bytes) bytes) (drop (prefix_len is_word bytes) bytes))
        ∙ ap (λ (m : ℕ). Ok (Take m (word_part (take (prefix_len is_word bytes) bytes)))) len)

known_word : (at : ℕ) (bytes : List ℕ) → front_is is_letter bytes ≡ true → Known at bytes
known_word at bytes l = record {
  text = take (prefix_len is_word bytes) bytes;
  rest = drop (prefix_len is_word bytes) bytes;
  part = word_part (take (prefix_len is_word bytes) bytes);
  no_comment = front_no_comment is_letter refl bytes l;
  longest = word_longest bytes l;
  answer = item_word at bytes l ∙ word_verdict at bytes;
}

-- ---- numbers and patterns

no_letter : (bytes : List ℕ) → front_is is_digit bytes ≡ true → front_is is_letter bytes ≡ false
no_letter bytes d = front_false is_letter bytes (λ l. front_apart is_letter is_digit not_letter_digit bytes l d)

item_number : (at : ℕ) (bytes : List ℕ) → front_is is_digit bytes ≡ true → item_at at bytes ≡ number_at at bytes
unfolding item_at
item_number at bytes d = rw (no_letter bytes d, d) refl

two_more : (p : ℕ → Bool) (body : List ℕ) → 2 + prefix_len p body ≡ suc (suc (length (take (prefix_len p body) body)))
two_more p body = omega (arith, length-prefix_len p body)

hexadecimal_verdict : (at : ℕ) (body : List ℕ) → hexadecimal_at at body ≡ verdict at (2 + prefix_len is_hexadecimal body) (parts.Number (digits_value 16 (take (prefix_len is_hexadecimal body) body)) bases.Hexadecimal) (drop (prefix_len is_hexadecimal body) body)
unfolding hexadecimal_at verdict fits too_big
hexadecimal_verdict at body = refl

decimal_verdict : (at : ℕ) (bytes : List ℕ) → decimal_at at bytes ≡ verdict at (prefix_len is_digit bytes) (parts.Number (digits_value 10 (take (prefix_len is_digit bytes) bytes)) bases.Decimal) (drop (prefix_len is_digit bytes) bytes)
unfolding decimal_at verdict fits too_big
decimal_verdict at bytes = refl

cond_not : {A : Type 0} (b : Bool) (x y : A) → cond b x y ≡ cond (not b) y x
cond_not true x y = refl
cond_not false x y = refl

pattern_verdict : (at : ℕ) (body : List ℕ) → pattern_at at body ≡ verdict at (2 + prefix_len is_pattern_digit body) (parts.Pattern (take (prefix_len is_pattern_digit body) body)) (drop (prefix_len is_pattern_digit body) body)
unfolding pattern_at verdict fits too_big
pattern_verdict at body = cond_not (ltb 64 (prefix_len is_pattern_digit body)) _ _ ∙ ap (λ (m : ℕ). cond (not (ltb 64 m)) (cond (front_is is_word (drop (prefix_len is_pattern_digit body) body)) (Err (faults.BadByte (at + (2 + prefix_len is_pattern_digit body)))) (Ok (Take (2 + prefix_len is_pattern_digit body) (parts.Pattern (take (prefix_len is_pattern_digit body) body))))) (Err (faults.NumberTooWide at))) (sym (length-prefix_len is_pattern_digit body))

known_hexadecimal : (at : ℕ) (body : List ℕ) → starts_zero 120 is_hexadecimal (48 ∷ 120 ∷ body) ≡ true → front_is is_hexadecimal body ≡ true → Known at (48 ∷ 120 ∷ body)
unfolding number_at
known_hexadecimal at body e d = record {
  text = 48 ∷ 120 ∷ take (prefix_len is_hexadecimal body) body;
  rest = drop (prefix_len is_hexadecimal body) body;
  part = parts.Number (digits_value 16 (take (prefix_len is_hexadecimal body) body)) bases.Hexadecimal;
  no_comment = refl;
  longest = hexadecimal_longest body d;
  answer = item_number at (48 ∷ 120 ∷ body) refl ∙ rw e (hexadecimal_verdict at body
      ∙ ap (λ (m : ℕ). verdict at m (parts.Number (digits_value 16 (take (prefix_len is_hexadecimal body) body)) bases.Hexadecimal) (drop (prefix_len is_hexadecimal body) body)) (two_more is_hexadecimal body));
}

known_pattern : (at : ℕ) (body : List ℕ) → starts_zero 120 is_hexadecimal (48 ∷ 98 ∷ body) ≡ false → starts_zero 98 is_pattern_digit (48 ∷ 98 ∷ body) ≡ true → front_is is_pattern_digit body ≡ true → Known at (48 ∷ 98 ∷ body)
unfolding number_at
known_pattern at body f e d = record {
  text = 48 ∷ 98 ∷ take (prefix_len is_pattern_digit body) body;
  rest = drop (prefix_len is_pattern_digit body) body;
  part = parts.Pattern (take (prefix_len is_pattern_digit body) body);
  no_comment = refl;
  longest = pattern_longest body d;
  answer = item_number at (48 ∷ 98 ∷ body) refl ∙ rw (f, e) (pattern_verdict at body
      ∙ ap (λ (m : ℕ). verdict at m (parts.Pattern (take (prefix_len is_pattern_digit body) body)) (drop (prefix_len is_pattern_digit body) body)) (two_more is_pattern_digit body));
}

known_decimal : (at : ℕ) (bytes : List ℕ) → starts_zero 120 is_hexadecimal bytes ≡ false → starts_zero 98 is_pattern_digit bytes ≡ false → front_is is_digit bytes ≡ true → Known at bytes
unfolding number_at
known_decimal at bytes f e d = record {
  text = take (prefix_len is_digit bytes) bytes;
  rest = drop (prefix_len is_digit bytes) bytes;
  part = parts.Number (digits_value 10 (take (prefix_len is_digit bytes) bytes)) bases.Decimal;
  no_comment = front_no_comment is_digit refl bytes d;
  longest = decimal_longest bytes f e d;
  answer = item_number at bytes d ∙ rw (f, e) (decimal_verdict at bytes
      ∙ ap (λ (m : ℕ). verdict at m (parts.Number (digits_value 10 (take (prefix_len is_digit bytes) bytes)) bases.Decimal) (drop (prefix_len is_digit bytes) bytes)) (sym (length-prefix_len is_digit bytes)));
}

known_number : (at : ℕ) (bytes : List ℕ) → front_is is_digit bytes ≡ true → Known at bytes
known_number at bytes d = go (starts_zero 120 is_hexadecimal bytes) (starts_zero 98 is_pattern_digit bytes) refl refl
  where
    go : (p q : Bool) → starts_zero 120 is_hexadecimal bytes ≡ p → starts_zero 98 is_pattern_digit bytes ≡ q → Known at bytes
    go true q e f =
        let z = zero_split 120 is_hexadecimal bytes e in
        subst (Known at) (sym z.0) (known_hexadecimal at (drop 2 bytes) (subst (λ (l : List ℕ). starts_zero 120 is_hexadecimal l ≡ true) z.0 e) z.1)
    go false true e f =
        let z = zero_split 98 is_pattern_digit bytes f in
        subst (Known at) (sym z.0) (known_pattern at (drop 2 bytes) (subst (λ (l : List ℕ). starts_zero 120 is_hexadecimal l ≡ false) z.0 e) (subst (λ (l : List ℕ). starts_zero 98 is_pattern_digit l ≡ true) z.0 f) z.1)
    go false false e f = known_decimal at bytes e f d

-- ---- strings

item_string : (at : ℕ) (body : List ℕ) → item_at at (34 ∷ body) ≡ string_at at body
unfolding item_at
item_string at body = refl

-- by what stands behind the run
string_run : (at : ℕ) (inner rest : List ℕ) → list_all is_in_string inner ≡ true → front_is is_in_string rest ≡ false → string_at at (inner ++ rest) ≡ string_end at (length inner) inner rest
unfolding string_at
string_run at inner rest all ends =
    let n : prefix_len is_in_string (inner ++ rest) ≡ length inner = run_is is_in_string inner rest all ends in
    ap (λ (m : ℕ). string_end at m (take m (inner ++ rest)) (drop m (inner ++ rest))) n
    ∙ ap (λ (l : List ℕ). string_end at (length inner) l (drop (length inner) (inner ++ rest))) (take_at inner rest (length inner) refl)
    ∙ ap (λ (l : List ℕ). string_end at (length inner) inner l) (drop_at inner rest (length inner) refl)

known_string : (at : ℕ) (inner rest : List ℕ) → list_all is_in_string inner ≡ true → Known at (34 ∷ (inner ++ 34 ∷ rest))
known_string at inner rest all = record {
  text = 34 ∷ (inner ++ 34 ∷ []);
  rest = rest;
  part = parts.Text inner;
  no_comment = front_no_comment is_quote refl (34 ∷ (inner ++ 34 ∷ rest)) refl;
  longest = string_longest inner rest all;
  answer = item_string at (inner ++ 34 ∷ rest) ∙ string_run at inner (34 ∷ rest) all refl
      ∙ ap (λ (m : ℕ). Ok (Take m (parts.Text inner))) (omega (arith, length-append inner (34 ∷ [])))
      ∙ sym (verdict_good at (length (34 ∷ (inner ++ 34 ∷ []))) (parts.Text inner) rest tt refl);
}

pub item_in_string : (at : ℕ) (inner rest : List ℕ) (b : ℕ) → list_all is_in_string inner ≡ true → is_in_string b ≡ false → eqb b 34 ≡ false → item_at at (34 ∷ (inner ++ b ∷ rest)) ≡ Err (faults.BadByte (at + (1 + length inner)))
item_in_string at inner rest b all e f =
    item_string at (inner ++ b ∷ rest) ∙ string_run at inner (b ∷ rest) all e
    ∙ ap (λ (c : Bool). cond c (Ok (Take (2 + length inner) (parts.Text inner))) (Err (faults.BadByte (at + (1 + length inner))))) f

pub item_no_quote : (at : ℕ) (inner : List ℕ) → list_all is_in_string inner ≡ true → item_at at (34 ∷ inner) ≡ Err (faults.BadByte at)
item_no_quote at inner all =
    item_string at inner ∙ ap (string_at at) (sym (append-nil inner)) ∙ string_run at inner [] all refl

-- ---- gaps

pub item_past : (at : ℕ) (bytes : List ℕ) → NoWord bytes → item_at at bytes ≡ past_gap at bytes (gap_at bytes)
unfolding item_at
item_past at bytes n = rw (n.0, n.1, n.2) refl

blank_no_word : (bytes : List ℕ) → front_is is_blank bytes ≡ true → NoWord bytes
blank_no_word bytes e =
    (front_false is_letter bytes (λ l. front_apart is_letter is_blank not_letter_blank bytes l e), front_false is_digit bytes (λ l. front_apart is_digit is_blank not_digit_blank bytes l e), no_quote_blank bytes e)
  where
    not_quote_blank : (b : ℕ) → is_quote b ≡ true → is_blank b ≡ true → ⊥
    not_quote_blank b q e = let is : b ≡ 34 = eqb-true b 34 q in both_ways (is_blank 34) refl (ap is_blank (sym is) ∙ e)

    no_quote_blank : (bytes : List ℕ) → front_is is_blank bytes ≡ true → front_is is_quote bytes ≡ false
    no_quote_blank bytes e = front_false is_quote bytes (λ l. front_apart is_quote is_blank not_quote_blank bytes l e)

pub item_gap : (at : ℕ) {text rest : List ℕ} → IsGap text rest → item_at at (text ++ rest) ≡ Ok (Skip (length text))
item_gap at {text} {rest} g = item_past at (text ++ rest) (no_word g) ∙ ap (past_gap at (text ++ rest)) (gap_whole g)
  where
    no_word : {text rest : List ℕ} → IsGap text rest → NoWord (text ++ rest)
    no_word (blanks {b = b} {bs = bs} {rest = rest} e all ends) = blank_no_word (b ∷ (bs ++ rest)) e
    no_word (line all ends) = (refl, refl, refl)
    no_word (block body all e) = (refl, refl, refl)

broken_front : {bytes : List ℕ} {n : ℕ} → BrokenGap bytes n → NoWord bytes
broken_front (in_line body rest b all e) = (refl, refl, refl)
broken_front (in_block body rest b n all e at lt) = (refl, refl, refl)
broken_front (no_end e) = (refl, refl, refl)

pub item_broken : (at : ℕ) {bytes : List ℕ} {n : ℕ} → BrokenGap bytes n → item_at at bytes ≡ Err (faults.BadByte (at + n))
item_broken at {bytes} g = item_past at bytes (broken_front g) ∙ ap (past_gap at bytes) (gap_broken g)

-- ---- signs

item_sign : (at : ℕ) (bytes : List ℕ) → NoWord bytes → front_is is_blank bytes ≡ false → starts_comment bytes ≡ false → item_at at bytes ≡ sign_at at bytes
item_sign at bytes n e c = item_past at bytes n ∙ ap (past_gap at bytes) (gap_absent bytes e c)

module _ (at b : ℕ) (n : (bs : List ℕ) → NoWord (b ∷ bs)) where
  -- a sign, or none
  known_one : (bs : List ℕ) → NoTwo b bs → starts_comment (b ∷ bs) ≡ false → item_at at (b ∷ bs) ≡ one_at at (one_byte b)
      → Known at (b ∷ bs) ⊎ ((one_byte b ≡ None) × (item_at at (b ∷ bs) ≡ Err (faults.BadByte at)))
  known_one bs none c e = go (one_byte b) refl e
    where
      go : (o : Option Sign) → one_byte b ≡ o → item_at at (b ∷ bs) ≡ one_at at o → Known at (b ∷ bs) ⊎ ((one_byte b ≡ None) × (item_at at (b ∷ bs) ≡ Err (faults.BadByte at)))
      go None f e = inr (f, e)
      go (Some s) f e = inl (record {
        text = b ∷ [];
        rest = bs;
        part = parts.Sign s;
        no_comment = c;
        longest = one_longest b bs s (n bs) none f;
        answer = e ∙ sym (verdict_good at 1 (parts.Sign s) bs tt refl);
      })

  known_sign : (bs : List ℕ) → front_is is_blank (b ∷ bs) ≡ false → starts_comment (b ∷ bs) ≡ false
      → Known at (b ∷ bs) ⊎ (NoTwo b bs × (one_byte b ≡ None) × (item_at at (b ∷ bs) ≡ Err (faults.BadByte at)))
  unfolding sign_at
  known_sign [] e c = elim (known_one [] (λ d ds f. absurd cc) c (item_sign at (b ∷ []) (n []) e c)) [
    | inl k ↦ inl k
    | inr none ↦ inr ((λ d ds f. absurd cc), none.0, none.1)
  ]
  known_sign (d ∷ bs) e c = go (two_bytes b d) refl (item_sign at (b ∷ d ∷ bs) (n (d ∷ bs)) e c)
    where
      go : (o : Option Sign) → two_bytes b d ≡ o → item_at at (b ∷ d ∷ bs) ≡ two_at at o (one_byte b) → Known at (b ∷ d ∷ bs) ⊎ (NoTwo b (d ∷ bs) × (one_byte b ≡ None) × (item_at at (b ∷ d ∷ bs) ≡ Err (faults.BadByte at)))
      go None f g =
          let none : NoTwo b (d ∷ bs) = λ x xs h. ap (two_bytes b) (sym (same_head d x bs xs h)) ∙ f in
          elim (known_one (d ∷ bs) none c g) [ inl k ↦ inl k | inr h ↦ inr (none, h.0, h.1) ]
      go (Some s) f g = inl (record {
        text = b ∷ d ∷ [];
        rest = bs;
        part = parts.Sign s;
        no_comment = c;
        longest = two_longest b d bs s (n (d ∷ bs)) f;
        answer = g ∙ sym (verdict_good at 2 (parts.Sign s) bs tt refl);
      })

-- ---- whatever stands at the front

-- nothing known begins the bytes
pub data Unknown (at b : ℕ) (bs : List ℕ) : Type 0 where
  unknown : NoWord (b ∷ bs) → NoTwo b bs → one_byte b ≡ None → item_at at (b ∷ bs) ≡ Err (faults.BadByte at) → Unknown at b bs

-- where neither a string, a blank nor a comment begins, a token is known or none begins
token_or_none : (at b : ℕ) (bs : List ℕ) → eqb b 34 ≡ false → is_blank b ≡ false → starts_comment (b ∷ bs) ≡ false → Known at (b ∷ bs) ⊎ Unknown at b bs
token_or_none at b bs q e c = go (is_letter b) (is_digit b) refl refl
  where
    go : (l d : Bool) → is_letter b ≡ l → is_digit b ≡ d → Known at (b ∷ bs) ⊎ Unknown at b bs
    go true d f g = inl (known_word at (b ∷ bs) f)
    go false true f g = inl (known_number at (b ∷ bs) g)
    go false false f g = elim (known_sign at b (λ bs. (f, g, q)) bs e c) [
      | inl k ↦ inl k
      | inr h ↦ inr (unknown (f, g, q) h.0 h.1 h.2)
    ]

-- a token that begins the bytes is known
token_known : (at b : ℕ) (bs text rest : List ℕ) (part : TokenPart) → starts_comment (b ∷ bs) ≡ false → Begins (b ∷ bs) text rest part → Known at (b ∷ bs)
token_known at b bs text rest part c h = go (eqb b 34) refl
  where
    front : (p : ℕ → Bool) → front_is p text ≡ p b
    front p = front_more p (b ∷ bs) text rest h.parts (token_some h.is)

    go : (q : Bool) → eqb b 34 ≡ q → Known at (b ∷ bs)
    go true q =
        let f = string_only h.is (front is_quote ∙ q) in
        let whole : b ∷ bs ≡ 34 ∷ (f.inner ++ 34 ∷ rest) = h.parts ∙ ap (λ (l : List ℕ). l ++ rest) f.is ∙ ap (λ (l : List ℕ). 34 ∷ l) (append_assoc f.inner (34 ∷ []) rest) in
        subst (Known at) (sym whole) (known_string at f.inner rest f.all)
    go false q = elim (token_or_none at b bs q (sym (front is_blank) ∙ token_no_blank h.is) c) [
      | inl k ↦ k
      | inr u ↦ elim u [ unknown n none e a ↦ absurd (no_sign b bs text rest part n none e h) ]
    ]

pub item_begins : (at : ℕ) (bytes text rest : List ℕ) (part : TokenPart) → starts_comment bytes ≡ false → Begins bytes text rest part → item_at at bytes ≡ verdict at (length text) part rest
item_begins at [] text rest part c h = absurd (omega (arith, token_some h.is, length-append text rest, ap length h.parts))
item_begins at (b ∷ bs) text rest part c h = known_begins at (b ∷ bs) (token_known at b bs text rest part c h) text rest part h

pub item_bad : (at b : ℕ) (bs : List ℕ) → is_blank b ≡ false → starts_comment (b ∷ bs) ≡ false → eqb b 34 ≡ false → ((text rest : List ℕ) (part : TokenPart) → Begins (b ∷ bs) text rest part → ⊥) → item_at at (b ∷ bs) ≡ Err (faults.BadByte at)
item_bad at b bs e c q nothing = elim (token_or_none at b bs q e c) [
  | inl k ↦ absurd (nothing k.text k.rest k.part (begins_from (b ∷ bs) k.text k.rest k.part k.longest))
  | inr u ↦ elim u [ unknown n none f a ↦ a ]
]

-- ---- what item_at says

string_is : (at : ℕ) (body : List ℕ) → ItemIs at (34 ∷ body) (item_at at (34 ∷ body))
string_is at body = go (drop (prefix_len is_in_string body) body) refl (run_ends is_in_string body)
  where
    inner : List ℕ
    inner = take (prefix_len is_in_string body) body

    all : list_all is_in_string (take (prefix_len is_in_string body) body) ≡ true
    all = taken_pass is_in_string body

    parts_of : (l : List ℕ) → drop (prefix_len is_in_string body) body ≡ l → body ≡ take (prefix_len is_in_string body) body ++ l
    parts_of l e = sym (take-append-drop (prefix_len is_in_string body) body) ∙ ap (λ (x : List ℕ). take (prefix_len is_in_string body) body ++ x) e

    go : (l : List ℕ) → drop (prefix_len is_in_string body) body ≡ l → front_is is_in_string (drop (prefix_len is_in_string body) body) ≡ false → ItemIs at (34 ∷ body) (item_at at (34 ∷ body))
    go [] e f =
        let whole : body ≡ take (prefix_len is_in_string body) body = parts_of [] e ∙ append-nil (take (prefix_len is_in_string body) body) in
        subst (λ (l : List ℕ). ItemIs at (34 ∷ l) (item_at at (34 ∷ l))) (sym whole) (subst (ItemIs at (34 ∷ take (prefix_len is_in_string body) body)) (sym (item_no_quote at (take (prefix_len is_in_string body) body) all)) (no_quote all))
    go (b ∷ rest) e f = ended (eqb b 34) refl
      where
        ended : (c : Bool) → eqb b 34 ≡ c → ItemIs at (34 ∷ body) (item_at at (34 ∷ body))
        ended true g =
            let whole : body ≡ take (prefix_len is_in_string body) body ++ 34 ∷ rest = parts_of (b ∷ rest) e ∙ ap (λ (x : ℕ). take (prefix_len is_in_string body) body ++ x ∷ rest) (eqb-true b 34 g) in
            subst (λ (l : List ℕ). ItemIs at (34 ∷ l) (item_at at (34 ∷ l))) (sym whole) (known_is at (34 ∷ (take (prefix_len is_in_string body) body ++ 34 ∷ rest)) (known_string at (take (prefix_len is_in_string body) body) rest all))
        ended false g =
            let wrong : is_in_string b ≡ false = sym (ap (front_is is_in_string) e) ∙ f in
            subst (λ (l : List ℕ). ItemIs at (34 ∷ l) (item_at at (34 ∷ l))) (sym (parts_of (b ∷ rest) e))
            (subst (ItemIs at (34 ∷ (take (prefix_len is_in_string body) body ++ b ∷ rest))) (sym (item_in_string at (take (prefix_len is_in_string body) body) rest b all wrong g)) (in_string (take (prefix_len is_in_string body) body) rest b all wrong g))

-- what is no string, by what gap_at says
gap_item_is : (at b : ℕ) (bs : List ℕ) → eqb b 34 ≡ false → ItemIs at (b ∷ bs) (item_at at (b ∷ bs))
gap_item_is at b bs q = go (gap_at (b ∷ bs)) (gap_is (b ∷ bs))
  where
    go : (g : Gap) → GapIs (b ∷ bs) g → ItemIs at (b ∷ bs) (item_at at (b ∷ bs))
    go gaps.Absent h = elim (token_or_none at b bs q h.0 h.1) [
      | inl k ↦ known_is at (b ∷ bs) k
      | inr u ↦ elim u [ unknown n none e a ↦ subst (ItemIs at (b ∷ bs)) (sym a) (bad h.0 h.1 q (λ text rest part k. no_sign b bs text rest part n none e k)) ]
    ]
    go (gaps.Whole n) h =
        let whole : b ∷ bs ≡ take n (b ∷ bs) ++ drop n (b ∷ bs) = sym (take-append-drop n (b ∷ bs)) in
        let answer : item_at at (b ∷ bs) ≡ Ok (Skip (length (take n (b ∷ bs)))) = ap (item_at at) whole ∙ item_gap at h.2 in
        subst (ItemIs at (b ∷ bs)) (sym answer) (record { text = take n (b ∷ bs); rest = drop n (b ∷ bs); parts = whole; is = h.2; len = refl; some = omega (arith, h.0, h.1) })
    go (gaps.Broken n) h = subst (ItemIs at (b ∷ bs)) (sym (item_broken at h)) (broken h)

pub item_is : (at b : ℕ) (bs : List ℕ) → ItemIs at (b ∷ bs) (item_at at (b ∷ bs))
item_is at b bs = go (eqb b 34) refl
  where
    go : (q : Bool) → eqb b 34 ≡ q → ItemIs at (b ∷ bs) (item_at at (b ∷ bs))
    go true q = subst (λ (x : ℕ). ItemIs at (x ∷ bs) (item_at at (x ∷ bs))) (sym (eqb-true b 34 q)) (string_is at bs)
    go false q = gap_item_is at b bs q
