-- The longest token at the front, for each kind of first byte.
use Rattle.std.proofs.Common.{◌≡◌, ℕ, ◌+◌, ◌<◌, ◌≤◌, Bool, true, false, cond, eqb, List, [], ◌∷◌, ◌++◌, length, take, drop, Some, None, refl, sym, ap, subst, ◌∙◌, arith, append_assoc}
use Rattle.std.specs.Prelude.{◌&&◌}
use Rattle.std.specs.Str.Parse.{digits_value}
use Rattle.std.specs.List.{list_all, prefix_len}
use Rattle.std.proofs.lemmas.Bool.{both_ways, and_parts, and_from, eqb-true, eq-eqb, or_left}
use Rattle.std.proofs.lemmas.List.{take-append-drop, take_at, drop_at}
use Rattle.std.proofs.lemmas.List.Folds.{length-prefix_len}
use Rattle.lisa_tree.specs.declared.tokens.Base.TheVariants as bases
use Rattle.lisa_tree.specs.declared.tokens.Sign.{Sign}
use Rattle.lisa_tree.specs.declared.tokens.TokenPart.{TokenPart}
use Rattle.lisa_tree.specs.declared.tokens.TokenPart.TheVariants as parts
use Rattle.lisa_tree.specs.Tokens.{is_pattern_digit, is_in_string, IsToken, decimal, hexadecimal, pattern, string, sign, Begins}
use Rattle.lisa_words.specs.Bytes.{is_digit, is_hexadecimal, is_letter, is_word, front_is}
use Rattle.lisa_words.proofs.Runs.{same_head, same_tail, taken_pass, run_longest, run_is}
use Rattle.lisa_lexer.specs.Lexing.{is_quote, starts_zero}
use Rattle.lisa_lexer.specs.Reserved.{word_part}
use Rattle.lisa_lexer.specs.Signs.{one_byte, two_bytes, sign_of}
use Rattle.lisa_lexer.proofs.Fronts.{front_more, front_take, front_run, front_weaker}
use Rattle.lisa_lexer.proofs.ReservedLaws.{word_token}
use Rattle.lisa_lexer.proofs.SignLaws.{one_is, two_is, sign_back}
use Rattle.lisa_lexer.proofs.TokenLaws.{token_some, word_only, NumberForm, is_decimal, is_hexa, is_pattern, number_only, StringForm, string_only, sign_only}

-- The longest token at the front of the bytes has n bytes and is this part, and no other token is as long.
pub record Longest (bytes text rest : List ℕ) (part : TokenPart) : Type 0 where
  pub parts : bytes ≡ text ++ rest
  pub is : IsToken text part
  pub bound : (more after : List ℕ) (u : TokenPart) → bytes ≡ more ++ after → IsToken more u → length more ≤ length text
  pub only : (more after : List ℕ) (u : TokenPart) → bytes ≡ more ++ after → IsToken more u → length more ≡ length text → u ≡ part

pub begins_from : (bytes text rest : List ℕ) (part : TokenPart) → Longest bytes text rest part → Begins bytes text rest part
begins_from bytes text rest part h = record { parts = h.parts; is = h.is; longest = λ more after u e is. h.bound more after u e is }

pub record Same (a b x y : List ℕ) (t u : TokenPart) : Type 0 where
  pub text : a ≡ b
  pub rest : x ≡ y
  pub part : t ≡ u

-- the front of two ways to cut a list
front_same : (a b x y : List ℕ) → a ++ x ≡ b ++ y → length a ≡ length b → a ≡ b
front_same a b x y e len = sym (take_at a x (length a) refl) ∙ ap (take (length a)) e ∙ take_at b y (length a) (sym len)

rest_same : (a b x y : List ℕ) → a ++ x ≡ b ++ y → length a ≡ length b → x ≡ y
rest_same a b x y e len = sym (drop_at a x (length a) refl) ∙ ap (drop (length a)) e ∙ drop_at b y (length a) (sym len)

pub begins_only : (bytes text rest text' rest' : List ℕ) (part u : TokenPart) → Longest bytes text rest part → Begins bytes text' rest' u → Same text' text rest' rest u part
begins_only bytes text rest text' rest' part u h b =
    let len : length text' ≡ length text = omega (arith, h.bound text' rest' u b.parts b.is, b.longest text rest part h.parts h.is) in
    let cut : text' ++ rest' ≡ text ++ rest = sym b.parts ∙ h.parts in
    record { text = front_same text' text rest' rest cut len; rest = rest_same text' text rest' rest cut len; part = h.only text' rest' u b.parts b.is len }

-- the token's first byte is that of the bytes
front_of : (p : ℕ → Bool) (v : Bool) (bytes more after : List ℕ) (u : TokenPart) → front_is p bytes ≡ v → bytes ≡ more ++ after → IsToken more u → front_is p more ≡ v
front_of p v bytes more after u f e is = front_more p bytes more after e (token_some is) ∙ f

-- ---- names and words

letter_word : (b : ℕ) → is_letter b ≡ true → is_word b ≡ true
letter_word b l = or_left _ _ l

pub word_longest : (bytes : List ℕ) → front_is is_letter bytes ≡ true → Longest bytes (take (prefix_len is_word bytes) bytes) (drop (prefix_len is_word bytes) bytes) (word_part (take (prefix_len is_word bytes) bytes))
word_longest bytes l =
    let some : 0 < prefix_len is_word bytes = front_run is_word bytes (front_weaker is_letter is_word letter_word bytes l) in
    let len : length (take (prefix_len is_word bytes) bytes) ≡ prefix_len is_word bytes = length-prefix_len is_word bytes in
    let whole : bytes ≡ take (prefix_len is_word bytes) bytes ++ drop (prefix_len is_word bytes) bytes = sym (take-append-drop (prefix_len is_word bytes) bytes) in
    record {
      parts = whole;
      is = word_token (take (prefix_len is_word bytes) bytes) (front_take is_letter (prefix_len is_word bytes) bytes some ∙ l) (taken_pass is_word bytes);
      bound = λ more after u e is. let run = run_longest is_word bytes more after e (word_only is (front_of is_letter true bytes more after u l e is)).0 in omega (arith, run, len);
      only = λ more after u e is same. (word_only is (front_of is_letter true bytes more after u l e is)).1 ∙ ap word_part (front_same more (take (prefix_len is_word bytes) bytes) after (drop (prefix_len is_word bytes) bytes) (sym e ∙ whole) same);
    }

-- ---- numbers and patterns

pub zero_split : (letter : ℕ) (p : ℕ → Bool) (bytes : List ℕ) → starts_zero letter p bytes ≡ true → (bytes ≡ 48 ∷ letter ∷ drop 2 bytes) × (front_is p (drop 2 bytes) ≡ true)
zero_split letter p [] e = absurd cc
zero_split letter p (a ∷ []) e = absurd cc
zero_split letter p (a ∷ b ∷ []) e = absurd cc
zero_split letter p (a ∷ b ∷ c ∷ bytes) e =
    let all = and_parts (eqb a 48 && eqb b letter) (p c) e in
    let two = and_parts (eqb a 48) (eqb b letter) all.0 in
    (ap (λ (x : ℕ). x ∷ b ∷ c ∷ bytes) (eqb-true a 48 two.0) ∙ ap (λ (x : ℕ). 48 ∷ x ∷ c ∷ bytes) (eqb-true b letter two.1), all.1)

pub zero_made : (letter : ℕ) (p : ℕ → Bool) (digits after : List ℕ) → front_is p digits ≡ true → starts_zero letter p (48 ∷ letter ∷ (digits ++ after)) ≡ true
zero_made letter p [] after e = absurd cc
zero_made letter p (c ∷ digits) after e = and_from _ _ (eq-eqb letter letter refl) e

-- the second bytes of two lists that are one
seconds : (a b c d : ℕ) (xs ys : List ℕ) → a ∷ b ∷ xs ≡ c ∷ d ∷ ys → b ≡ d
seconds a b c d xs ys e = same_head b d xs ys (same_tail a c (b ∷ xs) (d ∷ ys) e)

thirds : (a b c d : ℕ) (xs ys : List ℕ) → a ∷ b ∷ xs ≡ c ∷ d ∷ ys → xs ≡ ys
thirds a b c d xs ys e = same_tail b d xs ys (same_tail a c (b ∷ xs) (d ∷ ys) e)

-- 0, a letter that is no digit, and a run of other digits
one_long : (letter : ℕ) (body more after : List ℕ) → is_digit letter ≡ false → 48 ∷ letter ∷ body ≡ more ++ after → list_all is_digit more ≡ true → length more ≤ 1
one_long letter body more after e is all =
    let run = run_longest is_digit (48 ∷ letter ∷ body) more after is all in
    let len : prefix_len is_digit (48 ∷ letter ∷ body) ≡ 1 = ap (λ (c : Bool). 1 + cond c (1 + prefix_len is_digit body) 0) e in
    omega (arith, run, len)

hexa_bound : {more : List ℕ} {u : TokenPart} → NumberForm more u → (body after : List ℕ) → 48 ∷ 120 ∷ body ≡ more ++ after → (length more ≤ 2 + prefix_len is_hexadecimal body)
hexa_bound (is_decimal {text = more} all) body after e = let le = one_long 120 body more after refl e all in omega (arith, le)
hexa_bound (is_hexa {digits = digits} d all) body after e = let run = run_longest is_hexadecimal body digits after (thirds 48 120 48 120 body (digits ++ after) e) all in omega (arith, run)
hexa_bound (is_pattern {digits = digits} d all) body after e = absurd (omega (arith, seconds 48 120 48 98 body (digits ++ after) e))

hexa_only : {more : List ℕ} {u : TokenPart} → NumberForm more u → (body after : List ℕ) → 48 ∷ 120 ∷ body ≡ more ++ after → 0 < prefix_len is_hexadecimal body → length more ≡ 2 + prefix_len is_hexadecimal body
    → u ≡ parts.Number (digits_value 16 (take (prefix_len is_hexadecimal body) body)) bases.Hexadecimal
hexa_only (is_decimal {text = more} all) body after e some len = absurd (let le = one_long 120 body more after refl e all in omega (arith, le, len, some))
hexa_only (is_hexa {digits = digits} d all) body after e some len =
    let same : length digits ≡ prefix_len is_hexadecimal body = omega (arith, len) in
    let is : digits ≡ take (prefix_len is_hexadecimal body) body = sym (ap (take (prefix_len is_hexadecimal body)) (thirds 48 120 48 120 body (digits ++ after) e) ∙ take_at digits after (prefix_len is_hexadecimal body) same) in
    ap (λ (l : List ℕ). parts.Number (digits_value 16 l) bases.Hexadecimal) is
hexa_only (is_pattern {digits = digits} d all) body after e some len = absurd (omega (arith, seconds 48 120 48 98 body (digits ++ after) e))

pub hexadecimal_longest : (body : List ℕ) → front_is is_hexadecimal body ≡ true
    → Longest (48 ∷ 120 ∷ body) (48 ∷ 120 ∷ take (prefix_len is_hexadecimal body) body) (drop (prefix_len is_hexadecimal body) body) (parts.Number (digits_value 16 (take (prefix_len is_hexadecimal body) body)) bases.Hexadecimal)
hexadecimal_longest body d =
    let some : 0 < prefix_len is_hexadecimal body = front_run is_hexadecimal body d in
    let len : length (take (prefix_len is_hexadecimal body) body) ≡ prefix_len is_hexadecimal body = length-prefix_len is_hexadecimal body in
    record {
      parts = ap (λ (l : List ℕ). 48 ∷ 120 ∷ l) (sym (take-append-drop (prefix_len is_hexadecimal body) body));
      is = hexadecimal (front_take is_hexadecimal (prefix_len is_hexadecimal body) body some ∙ d) (taken_pass is_hexadecimal body);
      bound = λ more after u e is. let le = hexa_bound (number_only is (front_of is_digit true (48 ∷ 120 ∷ body) more after u refl e is)) body after e in omega (arith, le, len);
      only = λ more after u e is same. hexa_only (number_only is (front_of is_digit true (48 ∷ 120 ∷ body) more after u refl e is)) body after e some (omega (arith, same, len));
    }

pattern_bound : {more : List ℕ} {u : TokenPart} → NumberForm more u → (body after : List ℕ) → 48 ∷ 98 ∷ body ≡ more ++ after → (length more ≤ 2 + prefix_len is_pattern_digit body)
pattern_bound (is_decimal {text = more} all) body after e = let le = one_long 98 body more after refl e all in omega (arith, le)
pattern_bound (is_pattern {digits = digits} d all) body after e = let run = run_longest is_pattern_digit body digits after (thirds 48 98 48 98 body (digits ++ after) e) all in omega (arith, run)
pattern_bound (is_hexa {digits = digits} d all) body after e = absurd (omega (arith, seconds 48 98 48 120 body (digits ++ after) e))

pattern_only : {more : List ℕ} {u : TokenPart} → NumberForm more u → (body after : List ℕ) → 48 ∷ 98 ∷ body ≡ more ++ after → 0 < prefix_len is_pattern_digit body → length more ≡ 2 + prefix_len is_pattern_digit body
    → u ≡ parts.Pattern (take (prefix_len is_pattern_digit body) body)
pattern_only (is_decimal {text = more} all) body after e some len = absurd (let le = one_long 98 body more after refl e all in omega (arith, le, len, some))
pattern_only (is_pattern {digits = digits} d all) body after e some len =
    let same : length digits ≡ prefix_len is_pattern_digit body = omega (arith, len) in
    let is : digits ≡ take (prefix_len is_pattern_digit body) body = sym (ap (take (prefix_len is_pattern_digit body)) (thirds 48 98 48 98 body (digits ++ after) e) ∙ take_at digits after (prefix_len is_pattern_digit body) same) in
    ap (λ (l : List ℕ). parts.Pattern l) is
pattern_only (is_hexa {digits = digits} d all) body after e some len = absurd (omega (arith, seconds 48 98 48 120 body (digits ++ after) e))

pub pattern_longest : (body : List ℕ) → front_is is_pattern_digit body ≡ true
    → Longest (48 ∷ 98 ∷ body) (48 ∷ 98 ∷ take (prefix_len is_pattern_digit body) body) (drop (prefix_len is_pattern_digit body) body) (parts.Pattern (take (prefix_len is_pattern_digit body) body))
pattern_longest body d =
    let some : 0 < prefix_len is_pattern_digit body = front_run is_pattern_digit body d in
    let len : length (take (prefix_len is_pattern_digit body) body) ≡ prefix_len is_pattern_digit body = length-prefix_len is_pattern_digit body in
    record {
      parts = ap (λ (l : List ℕ). 48 ∷ 98 ∷ l) (sym (take-append-drop (prefix_len is_pattern_digit body) body));
      is = pattern (front_take is_pattern_digit (prefix_len is_pattern_digit body) body some ∙ d) (taken_pass is_pattern_digit body);
      bound = λ more after u e is. let le = pattern_bound (number_only is (front_of is_digit true (48 ∷ 98 ∷ body) more after u refl e is)) body after e in omega (arith, le, len);
      only = λ more after u e is same. pattern_only (number_only is (front_of is_digit true (48 ∷ 98 ∷ body) more after u refl e is)) body after e some (omega (arith, same, len));
    }

module _ (bytes : List ℕ) (no_hexa : starts_zero 120 is_hexadecimal bytes ≡ false) (no_pattern : starts_zero 98 is_pattern_digit bytes ≡ false) where
  decimal_form : {more : List ℕ} {u : TokenPart} → NumberForm more u → (after : List ℕ) → bytes ≡ more ++ after → (list_all is_digit more ≡ true) × (u ≡ parts.Number (digits_value 10 more) bases.Decimal)
  decimal_form (is_decimal all) after e = (all, refl)
  decimal_form (is_hexa {digits = digits} d all) after e = absurd (both_ways (starts_zero 120 is_hexadecimal bytes) no_hexa (ap (starts_zero 120 is_hexadecimal) e ∙ zero_made 120 is_hexadecimal digits after d))
  decimal_form (is_pattern {digits = digits} d all) after e = absurd (both_ways (starts_zero 98 is_pattern_digit bytes) no_pattern (ap (starts_zero 98 is_pattern_digit) e ∙ zero_made 98 is_pattern_digit digits after d))

  pub decimal_longest : front_is is_digit bytes ≡ true
      → Longest bytes (take (prefix_len is_digit bytes) bytes) (drop (prefix_len is_digit bytes) bytes) (parts.Number (digits_value 10 (take (prefix_len is_digit bytes) bytes)) bases.Decimal)
  decimal_longest d =
      let some : 0 < prefix_len is_digit bytes = front_run is_digit bytes d in
      let len : length (take (prefix_len is_digit bytes) bytes) ≡ prefix_len is_digit bytes = length-prefix_len is_digit bytes in
      let whole : bytes ≡ take (prefix_len is_digit bytes) bytes ++ drop (prefix_len is_digit bytes) bytes = sym (take-append-drop (prefix_len is_digit bytes) bytes) in
      record {
        parts = whole;
        is = decimal (front_take is_digit (prefix_len is_digit bytes) bytes some ∙ d) (taken_pass is_digit bytes);
        bound = λ more after u e is. let run = run_longest is_digit bytes more after e (decimal_form (number_only is (front_of is_digit true bytes more after u d e is)) after e).0 in omega (arith, run, len);
        only = λ more after u e is same. (decimal_form (number_only is (front_of is_digit true bytes more after u d e is)) after e).1
            ∙ ap (λ (l : List ℕ). parts.Number (digits_value 10 l) bases.Decimal) (front_same more (take (prefix_len is_digit bytes) bytes) after (drop (prefix_len is_digit bytes) bytes) (sym e ∙ whole) same);
      }

-- ---- strings

-- the run behind a quote, up to a byte that no string has
string_run : (inner rest : List ℕ) (b : ℕ) → list_all is_in_string inner ≡ true → is_in_string b ≡ false → prefix_len is_in_string (inner ++ b ∷ rest) ≡ length inner
string_run inner rest b all e = run_is is_in_string inner (b ∷ rest) all e

string_inner : (inner rest more after : List ℕ) (u : TokenPart) → list_all is_in_string inner ≡ true → (f : StringForm more u) → 34 ∷ (inner ++ 34 ∷ rest) ≡ more ++ after → f.inner ≡ inner
string_inner inner rest more after u all f e =
    let behind : inner ++ 34 ∷ rest ≡ f.inner ++ 34 ∷ after =
    same_tail 34 34 (inner ++ 34 ∷ rest) (f.inner ++ 34 ∷ after) (e ∙ ap (λ (l : List ℕ). l ++ after) f.is ∙ ap (λ (l : List ℕ). 34 ∷ l) (append_assoc f.inner (34 ∷ []) after)) in
    let len : length f.inner ≡ length inner = sym (string_run f.inner after 34 f.all refl) ∙ ap (prefix_len is_in_string) (sym behind) ∙ string_run inner rest 34 all refl in
    front_same f.inner inner (34 ∷ after) (34 ∷ rest) (sym behind) len

pub string_longest : (inner rest : List ℕ) → list_all is_in_string inner ≡ true → Longest (34 ∷ (inner ++ 34 ∷ rest)) (34 ∷ (inner ++ 34 ∷ [])) rest (parts.Text inner)
string_longest inner rest all = record {
  parts = ap (λ (l : List ℕ). 34 ∷ l) (sym (append_assoc inner (34 ∷ []) rest));
  is = string all;
  bound = λ more after u e is. let f = string_only is (front_of is_quote true (34 ∷ (inner ++ 34 ∷ rest)) more after u refl e is) in
      let len : length more ≡ length (34 ∷ (inner ++ 34 ∷ [])) = ap length f.is ∙ ap (λ (l : List ℕ). length (34 ∷ (l ++ 34 ∷ []))) (string_inner inner rest more after u all f e) in omega (arith, len);
  only = λ more after u e is same. let f = string_only is (front_of is_quote true (34 ∷ (inner ++ 34 ∷ rest)) more after u refl e is) in
      f.same ∙ ap (λ (l : List ℕ). parts.Text l) (string_inner inner rest more after u all f e);
}

-- ---- signs

abbrev pub NoWord : List ℕ → Type 0
NoWord bytes = (front_is is_letter bytes ≡ false) × (front_is is_digit bytes ≡ false) × (front_is is_quote bytes ≡ false)

-- what a sign at the front is
pub data SignHere (b : ℕ) (bs : List ℕ) (more : List ℕ) (u : TokenPart) : Type 0 where
  single : (s : Sign) → more ≡ b ∷ [] → one_byte b ≡ Some s → u ≡ parts.Sign s → SignHere b bs more u
  double : (s : Sign) (c : ℕ) (cs : List ℕ) → bs ≡ c ∷ cs → more ≡ b ∷ c ∷ [] → two_bytes b c ≡ Some s → u ≡ parts.Sign s → SignHere b bs more u

pub sign_here : (b : ℕ) (bs more after : List ℕ) (u : TokenPart) → NoWord (b ∷ bs) → b ∷ bs ≡ more ++ after → IsToken more u → SignHere b bs more u
sign_here b bs more after u n e is =
    let s = sign_only is (front_of is_letter false (b ∷ bs) more after u n.0 e is) (front_of is_digit false (b ∷ bs) more after u n.1 e is) (front_of is_quote false (b ∷ bs) more after u n.2 e is) in
    go more e (ap sign_of s.1 ∙ sign_back s.0) s.2
  where
    go : (more : List ℕ) {s : Sign} → b ∷ bs ≡ more ++ after → sign_of more ≡ Some s → u ≡ parts.Sign s → SignHere b bs more u
    go [] e f same = absurd cc
    go (x ∷ []) {s} e f same =
        let first : b ≡ x = same_head b x bs after e in
        single s (ap (λ (y : ℕ). y ∷ []) (sym first)) (ap one_byte first ∙ f) same
    go (x ∷ y ∷ []) {s} e f same =
        let first : b ≡ x = same_head b x bs (y ∷ after) e in
        double s y after (same_tail b x bs (y ∷ after) e) (ap (λ (z : ℕ). z ∷ y ∷ []) (sym first)) (ap (λ (z : ℕ). two_bytes z y) first ∙ f) same
    go (x ∷ y ∷ z ∷ more) e f same = absurd cc

two_bound : {b : ℕ} {bs more : List ℕ} {u : TokenPart} → SignHere b bs more u → length more ≤ 2
two_bound (single s is e same) = omega (arith, ap length is)
two_bound (double s c cs f is e same) = omega (arith, ap length is)

two_only : {b : ℕ} {bs more : List ℕ} {u : TokenPart} → SignHere b bs more u → (c : ℕ) (cs : List ℕ) (t : Sign) → bs ≡ c ∷ cs → two_bytes b c ≡ Some t → length more ≡ 2 → u ≡ parts.Sign t
two_only (single s is e same) c cs t h f len = absurd (omega (arith, ap length is, len))
two_only {b} {bs} (double s c' cs' g is e same) c cs t h f len =
    let second : c' ≡ c = same_head c' c cs' cs (sym g ∙ h) in
    let sign_same : s ≡ t = let both : two_bytes b c ≡ Some s = ap (two_bytes b) (sym second) ∙ e in cc in
    same ∙ ap (λ (x : Sign). parts.Sign x) sign_same

pub two_longest : (b c : ℕ) (bs : List ℕ) (s : Sign) → NoWord (b ∷ c ∷ bs) → two_bytes b c ≡ Some s → Longest (b ∷ c ∷ bs) (b ∷ c ∷ []) bs (parts.Sign s)
two_longest b c bs s n e = record {
  parts = refl;
  is = subst (λ (l : List ℕ). IsToken l (parts.Sign s)) (two_is b c s e) (sign s);
  bound = λ more after u f is. two_bound (sign_here b (c ∷ bs) more after u n f is);
  only = λ more after u f is len. two_only (sign_here b (c ∷ bs) more after u n f is) c bs s refl e len;
}

-- no sign of two bytes begins
abbrev pub NoTwo : ℕ → List ℕ → Type 0
NoTwo b bs = (c : ℕ) (cs : List ℕ) → bs ≡ c ∷ cs → two_bytes b c ≡ None

one_form : {b : ℕ} {bs more : List ℕ} {u : TokenPart} → SignHere b bs more u → NoTwo b bs → (s : Sign) × (more ≡ b ∷ []) × (one_byte b ≡ Some s) × (u ≡ parts.Sign s)
one_form (single s is e same) none = (s, is, e, same)
one_form (double s c cs f is e same) none = absurd (let none' = none c cs f in cc)

pub one_longest : (b : ℕ) (bs : List ℕ) (s : Sign) → NoWord (b ∷ bs) → NoTwo b bs → one_byte b ≡ Some s → Longest (b ∷ bs) (b ∷ []) bs (parts.Sign s)
one_longest b bs s n none e = record {
  parts = refl;
  is = subst (λ (l : List ℕ). IsToken l (parts.Sign s)) (one_is b s e) (sign s);
  bound = λ more after u f is. omega (arith, ap length (one_form (sign_here b bs more after u n f is) none).1);
  only = λ more after u f is len.
      let g = one_form (sign_here b bs more after u n f is) none in
      let same : g.0 ≡ s = let both : one_byte b ≡ Some g.0 = g.2 in cc in
      g.3 ∙ ap (λ (x : Sign). parts.Sign x) same;
}

pub no_sign : (b : ℕ) (bs text rest : List ℕ) (u : TokenPart) → NoWord (b ∷ bs) → NoTwo b bs → one_byte b ≡ None → Begins (b ∷ bs) text rest u → ⊥
no_sign b bs text rest u n none e h = let g = one_form (sign_here b bs text rest u n h.parts h.is) none in let both : one_byte b ≡ Some g.0 = g.2 in absurd cc
