-- The text of written tokens lexes to them.
use Rattle.std.proofs.Common.{◌≡◌, ◌≢◌, ℕ, zero, suc, ◌+◌, ◌-◌, ◌*◌, ◌/◌, ◌%◌, ◌^◌, ◌<◌, ◌≤◌, Bool, true, false, cond, eqb, ltb, leb, List, [], ◌∷◌, ◌++◌, length, get_or, map, Option, Some, None, refl, sym, ap, subst, ◌∙◌, arith, inl, inr, ◌⊎◌, append_assoc, ◌&&◌, ◌||◌, not}
use Rattle.std.specs.Prelude.{fold, is_some}
use Rattle.std.specs.Fmt.{decimal}
use Rattle.std.specs.List.{list_all}
use Rattle.std.proofs.lemmas.Bool.{cases_lt, lt-ltb, le-leb, leb-true, ltb-true, eqb-true, ne_eqb, and_parts, and_from, agree_below_at}
use Rattle.std.proofs.lemmas.Bool.Decides.{nat_tests}
use Rattle.std.proofs.lemmas.Fmt.{decimal_by_steps}
use Rattle.std.proofs.lemmas.List.{length-append, get_or_append_left}
use Rattle.std.proofs.lemmas.List.Folds.{list_all-append}
use Rattle.std.proofs.lemmas.List.Sums.{fold-append}
use Rattle.std.proofs.Math.Seq.{get_or-append_seam}
use Rattle.std.proofs.Math.Nat.{pow-le-pow_right}
use Rattle.lisa_words.specs.Bytes.{is_blank, is_digit, is_hexadecimal, is_letter, front_is}
use Rattle.lisa_words.specs.Gaps as gaps
use Rattle.verilog_text.specs.declared.tokens.VKeyword.{VKeyword}
use Rattle.verilog_text.specs.declared.tokens.VKeyword.TheVariants as words
use Rattle.verilog_text.specs.declared.tokens.VSign.{VSign}
use Rattle.verilog_text.specs.declared.tokens.VSign.TheVariants as signs
use Rattle.verilog_text.specs.Tokens.{VTok, VToks, Named, Reserved, Sized, Plain, Mark}
use Rattle.verilog_text.specs.Lexing as lexing
use Rattle.verilog_text.specs.Lexing.{vword_text, one_byte, two_bytes, is_name_byte, is_graphic, base_of, digit_of, is_base_digit, is_more_digit, digits_number, IsVToken, Begins, is_accepted, is_glued, Lexes}
use Rattle.verilog_text.specs.Printing.{vsign_text, token_text, space_behind, tokens_text}
use Rattle.verilog_text.proofs.TokenContents.{HasText, Have, IsWritten, AreWritten}

-- ---- tokens have no white space in them

abbrev is_high : ℕ → Bool
is_high b = leb 33 b

pub all_weaken : (p q : ℕ → Bool) → ((b : ℕ) → p b ≡ true → q b ≡ true) → (xs : List ℕ) → list_all p xs ≡ true → list_all q xs ≡ true
all_weaken p q h [] e = refl
all_weaken p q h (x ∷ xs) e = let parts = and_parts (p x) (list_all p xs) e in and_from (q x) (list_all q xs) (h x parts.0) (all_weaken p q h xs parts.1)

name_byte_low : (b : ℕ) → is_name_byte b ≡ true → 33 ≤ b
name_byte_low b e = grind (arith, nat_tests)

name_byte_high : (b : ℕ) → is_name_byte b ≡ true → b ≤ 126
name_byte_high b e = grind (arith, nat_tests)

letter_name : (b : ℕ) → is_letter b ≡ true → is_name_byte b ≡ true
letter_name b e = rw e refl

pub name_graphic : (b : ℕ) → is_name_byte b ≡ true → is_graphic b ≡ true
name_graphic b e = and_from (leb 33 b) (leb b 126) (le-leb 33 b (name_byte_low b e)) (le-leb b 126 (name_byte_high b e))

graphic_high : (b : ℕ) → is_graphic b ≡ true → is_high b ≡ true
graphic_high b e = (and_parts (leb 33 b) (leb b 126) e).0

digit_low : (b : ℕ) → is_digit b ≡ true → 48 ≤ b
digit_low b e = leb-true 48 b (and_parts (leb 48 b) (leb b 57) e).0

digit_top : (b : ℕ) → is_digit b ≡ true → b ≤ 57
digit_top b e = leb-true b 57 (and_parts (leb 48 b) (leb b 57) e).1

digit_high : (b : ℕ) → is_digit b ≡ true → is_high b ≡ true
digit_high b e = let low = digit_low b e in le-leb 33 b (omega arith)

hexadecimal_high : (b : ℕ) → is_hexadecimal b ≡ true → 33 ≤ b
hexadecimal_high b e = grind (arith, nat_tests)

base_high : (base b : ℕ) → is_base_digit base b ≡ true → is_high b ≡ true
base_high base b e = le-leb 33 b (hexadecimal_high b (and_parts (is_hexadecimal b) (ltb (digit_of b) base) e).0)

more_high : (base b : ℕ) → is_more_digit base b ≡ true → is_high b ≡ true
more_high base b e = go (is_base_digit base b) refl e
  where
    go : (t : Bool) → is_base_digit base b ≡ t → (t || eqb b 95) ≡ true → is_high b ≡ true
    go true h k = base_high base b h
    go false h k = let same = eqb-true b 95 k in le-leb 33 b (omega arith)

word_high : (k : VKeyword) → list_all is_high (vword_text k) ≡ true
word_high words.Module = refl
word_high words.Input = refl
word_high words.Wire = refl
word_high words.EndModule = refl
word_high words.Reg = refl
word_high words.Initial = refl
word_high words.Begin = refl
word_high words.End = refl
word_high words.Always = refl
word_high words.PosEdge = refl
word_high words.If = refl
word_high words.Else = refl

abbrev never : ℕ → Bool
never b = false

some_is_some : {A : Type 0} (o : Option A) (x : A) → o ≡ Some x → is_some o ≡ true
some_is_some o x e = ap is_some e

one_high : (b : ℕ) (s : VSign) → one_byte b ≡ Some s → is_high b ≡ true
one_high b s e =
    elim (cases_lt b 33) [
      | inl lt ↦ absurd (clash (sym (some_is_some (one_byte b) s e) ∙ agree_below_at (λ (k : ℕ). is_some (one_byte k)) never 33 b refl lt))
      | inr ge ↦ le-leb 33 b ge
    ]
  where
    clash : true ≡ false → ⊥
    clash h = cc

record High (b c : ℕ) : Type 0 where
  first : is_high b ≡ true
  second : is_high c ≡ true

two_step : (x y b c : ℕ) (t s : VSign) (o : Option VSign) → 33 ≤ x → 33 ≤ y → (o ≡ Some s → High b c) → cond (eqb b x && eqb c y) (Some t) o ≡ Some s → High b c
two_step x y b c t s o lx ly k e = go (eqb b x && eqb c y) refl e
  where
    go : (w : Bool) → (eqb b x && eqb c y) ≡ w → cond w (Some t) o ≡ Some s → High b c
    go true h f =
        let parts = and_parts (eqb b x) (eqb c y) h in
        let sb = eqb-true b x parts.0 in
        let sc = eqb-true c y parts.1 in
        record { first = le-leb 33 b (omega arith); second = le-leb 33 c (omega arith) }
    go false h f = k f

two_high : (b c : ℕ) (s : VSign) → two_bytes b c ≡ Some s → High b c
two_high b c s e =
    two_step 60 60 b c signs.ShiftLeft s _ (omega arith) (omega arith) (two_step 62 62 b c signs.ShiftRight s _ (omega arith) (omega arith) (two_step 60 61 b c signs.LessEqual s _ (omega arith) (omega arith)
    (two_step 62 61 b c signs.GreaterEqual s _ (omega arith) (omega arith) (two_step 61 61 b c signs.EqualEqual s _ (omega arith) (omega arith) (two_step 33 61 b c signs.NotEqual s _ (omega arith) (omega arith)
    (two_step 38 38 b c signs.AndAnd s _ (omega arith) (omega arith) (two_step 124 124 b c signs.OrOr s _ (omega arith) (omega arith) (two_step 94 126 b c signs.Xnor s _ (omega arith) (omega arith)
    (two_step 126 94 b c signs.Xnor s None (omega arith) (omega arith) (λ (h : None ≡ Some s). absurd cc)))))))))) e

pub token_high : {text : List ℕ} {tok : VTok} → IsVToken text tok → list_all is_high text ≡ true
token_high (lexing.word k is) = ap (list_all is_high) is ∙ word_high k
token_high (lexing.simple {b = b} {bs = bs} first all other) =
    and_from (is_high b) (list_all is_high bs) (graphic_high b (name_graphic b (letter_name b first))) (all_weaken is_name_byte is_high (λ k h. graphic_high k (name_graphic k h)) bs all)
token_high (lexing.escaped {b = b} {bs = bs} all) = all_weaken is_graphic is_high graphic_high (b ∷ bs) all
token_high (lexing.plain {b = b} {bs = bs} all) = all_weaken is_digit is_high digit_high (b ∷ bs) all
token_high (lexing.sized base letter z b zs bs all lead is first more parts) =
    ap (list_all is_high) parts ∙ list_all-append is_high (z ∷ zs) (39 ∷ letter ∷ b ∷ bs)
    ∙ and_from (list_all is_high (z ∷ zs)) (list_all is_high (39 ∷ letter ∷ b ∷ bs)) (all_weaken is_digit is_high digit_high (z ∷ zs) all)
    (and_from (is_high letter) (list_all is_high (b ∷ bs)) (letter_high letter base is) (and_from (is_high b) (list_all is_high bs) (base_high base b first) (all_weaken (is_more_digit base) is_high (more_high base) bs more)))
  where
    clash : true ≡ false → ⊥
    clash h = cc

    letter_high : (b base : ℕ) → base_of b ≡ Some base → is_high b ≡ true
    letter_high b base e =
        elim (cases_lt b 33) [
          | inl lt ↦ absurd (clash (sym (some_is_some (base_of b) base e) ∙ agree_below_at (λ (k : ℕ). is_some (base_of k)) never 33 b refl lt))
          | inr ge ↦ le-leb 33 b ge
        ]
token_high (lexing.one {b = b} {sign = sign} e) = and_from (is_high b) true (one_high b sign e) refl
token_high (lexing.two {b = b} {c = c} {sign = sign} e) = let h = two_high b c sign e in and_from (is_high b) (list_all is_high (c ∷ [])) h.first (and_from (is_high c) true h.second refl)

-- ---- so a token ends before white space

all_at : (p : ℕ → Bool) (xs : List ℕ) (i : ℕ) → list_all p xs ≡ true → i < length xs → p (get_or xs i 0) ≡ true
all_at p [] i e lt = absurd (omega arith)
all_at p (x ∷ xs) zero e lt = (and_parts (p x) (list_all p xs) e).0
all_at p (x ∷ xs) (suc i) e lt = all_at p xs i (and_parts (p x) (list_all p xs) e).1 (omega arith)

pub ends_at_space : (text rest more after : List ℕ) (g : ℕ) (other : VTok) → g < 33 → text ++ (g ∷ rest) ≡ more ++ after → IsVToken more other → length more ≤ length text
ends_at_space text rest more after g other low e is =
    elim (cases_lt (length text) (length more)) [
      | inl lt ↦
          let same : g ≡ get_or more (length text) 0 = sym (get_or-append_seam text g rest 0) ∙ ap (λ (l : List ℕ). get_or l (length text) 0) e ∙ get_or_append_left more after 0 (length text) lt in
          let high = leb-true 33 (get_or more (length text) 0) (all_at is_high more (length text) (token_high is) lt) in
          absurd (omega arith)
      | inr ge ↦ ge
    ]

-- ---- numbers

pub record Writes (n : ℕ) (ds : List ℕ) : Type 0 where
  pub some : 0 < length ds
  pub each : list_all is_digit ds ≡ true
  pub value : digits_number 10 ds ≡ n
  pub lead : 0 < n → get_or ds 0 0 ≢ 48

digit_is : (d : ℕ) → d < 10 → is_digit (48 + d) ≡ true
digit_is d lt = and_from _ _ (le-leb 48 (48 + d) (omega arith)) (le-leb (48 + d) 57 (omega arith))

abbrev next : ℕ → ℕ → ℕ
next n b = cond (eqb b 95) n (10 * n + digit_of b)

next_is : (n d : ℕ) → d < 10 → next n (48 + d) ≡ 10 * n + d
next_is n d lt = rw (ne_eqb (48 + d) 95 (λ h. absurd (omega arith)), le-leb (48 + d) 57 (omega arith)) (omega arith)

one_digit : (n : ℕ) → n < 10 → Writes n ((48 + n) ∷ [])
one_digit n lt = record { some = omega arith; each = and_from _ _ (digit_is n lt) refl; value = next_is 0 n lt ∙ omega arith; lead = λ some h. absurd (omega arith) }

more_digits : (n : ℕ) (ds : List ℕ) → 10 ≤ n → Writes (n / 10) ds → Writes n (ds ++ ((48 + n % 10) ∷ []))
more_digits n ds le w = record {
  some = omega (arith, length-append ds ((48 + n % 10) ∷ []), w.some);
  each = list_all-append is_digit ds ((48 + n % 10) ∷ []) ∙ and_from _ _ w.each (and_from _ _ (digit_is (n % 10) (omega arith)) refl);
  value = fold-append next 0 ds ((48 + n % 10) ∷ []) ∙ next_is (digits_number 10 ds) (n % 10) (omega arith) ∙ omega (arith, w.value);
  lead = λ some h. w.lead (omega arith) (sym (get_or_append_left ds ((48 + n % 10) ∷ []) 0 0 w.some) ∙ h);
}

pub decimal_writes : (n : ℕ) → n < 2 ^ 64 → Writes n (decimal n)
decimal_writes n lt = decimal_by_steps Writes one_digit more_digits n lt

plain_from : (ds : List ℕ) → 0 < length ds → list_all is_digit ds ≡ true → IsVToken ds (Plain (digits_number 10 ds) (length ds))
plain_from [] some all = absurd (omega arith)
plain_from (d ∷ ds) some all = lexing.plain all

decimal_digit_base : (b : ℕ) → is_digit b ≡ true → is_base_digit 10 b ≡ true
decimal_digit_base b e =
    let low = digit_low b e in
    let top = digit_top b e in
    and_from (is_hexadecimal b) (ltb (digit_of b) 10) (rw e refl) (rw (le-leb b 57 top) (lt-ltb (b - 48) 10 (omega arith)))

decimal_digit_more : (b : ℕ) → is_digit b ≡ true → is_more_digit 10 b ≡ true
decimal_digit_more b e = rw (decimal_digit_base b e) refl

sized_from : (zs bs : List ℕ) → 0 < length zs → 0 < length bs → list_all is_digit zs ≡ true → list_all is_digit bs ≡ true → get_or zs 0 0 ≢ 48
    → IsVToken (zs ++ (39 ∷ 100 ∷ bs)) (Sized (digits_number 10 zs) (digits_number 10 bs))
sized_from [] bs some more all each lead = absurd (omega arith)
sized_from (z ∷ zs) [] some more all each lead = absurd (omega arith)
sized_from (z ∷ zs) (b ∷ bs) some more all each lead =
    let parts = and_parts (is_digit b) (list_all is_digit bs) each in
    lexing.sized 10 100 z b zs bs all lead refl (decimal_digit_base b parts.0) (all_weaken is_digit (is_more_digit 10) decimal_digit_more bs parts.1) refl

escaped_from : (name : List ℕ) → list_all is_graphic name ≡ true → 0 < length name → IsVToken (92 ∷ name) (Named name)
escaped_from [] all some = absurd (omega arith)
escaped_from (b ∷ bs) all some = lexing.escaped all

sign_token : (s : VSign) → IsVToken (vsign_text s) (Mark s)
sign_token signs.ShiftLeft = lexing.two refl
sign_token signs.ShiftRight = lexing.two refl
sign_token signs.LessEqual = lexing.two refl
sign_token signs.GreaterEqual = lexing.two refl
sign_token signs.EqualEqual = lexing.two refl
sign_token signs.NotEqual = lexing.two refl
sign_token signs.AndAnd = lexing.two refl
sign_token signs.OrOr = lexing.two refl
sign_token signs.Xnor = lexing.two refl
sign_token signs.OpenBrace = lexing.one refl
sign_token signs.CloseBrace = lexing.one refl
sign_token signs.OpenRound = lexing.one refl
sign_token signs.CloseRound = lexing.one refl
sign_token signs.OpenSquare = lexing.one refl
sign_token signs.CloseSquare = lexing.one refl
sign_token signs.Semicolon = lexing.one refl
sign_token signs.Comma = lexing.one refl
sign_token signs.Equal = lexing.one refl
sign_token signs.Less = lexing.one refl
sign_token signs.Greater = lexing.one refl
sign_token signs.Plus = lexing.one refl
sign_token signs.Minus = lexing.one refl
sign_token signs.Star = lexing.one refl
sign_token signs.And = lexing.one refl
sign_token signs.Or = lexing.one refl
sign_token signs.Caret = lexing.one refl
sign_token signs.Tilde = lexing.one refl
sign_token signs.Exclamation = lexing.one refl
sign_token signs.Question = lexing.one refl
sign_token signs.Colon = lexing.one refl
sign_token signs.At = lexing.one refl

pub small_power : (w v : ℕ) → w ≤ 64 → v < 2 ^ w → v < 2 ^ 64
small_power w v le lt = let grows : 2 ^ w ≤ 2 ^ 64 = pow-le-pow_right {n = 2} (omega arith) le in omega arith

pub written_token : (tok : VTok) → IsWritten tok → IsVToken (token_text tok) tok
written_token (Named name) h = escaped_from name h.0 h.1
written_token (Reserved k) h = lexing.word k refl
written_token (Sized width value) h =
    let w = decimal_writes width (omega (arith, h.1)) in
    let v = decimal_writes value (small_power width value h.1 h.2) in
    subst (λ (k : ℕ). IsVToken (token_text (Sized width value)) (Sized k value)) w.value
    (subst (λ (k : ℕ). IsVToken (token_text (Sized width value)) (Sized (digits_number 10 (decimal width)) k)) v.value
    (sized_from (decimal width) (decimal value) w.some v.some w.each v.each (w.lead h.0)))
written_token (Plain value digits) h =
    let v = decimal_writes value (omega (arith, h.0)) in
    subst (λ (k : ℕ). IsVToken (decimal value) (Plain value k)) (sym h.1) (subst (λ (k : ℕ). IsVToken (decimal value) (Plain k (length (decimal value)))) v.value (plain_from (decimal value) v.some v.each))
written_token (Mark s) h = sign_token s

space_is : (tok : VTok) → (space_behind tok ≡ 32) ⊎ (space_behind tok ≡ 10)
space_is (Mark signs.Semicolon) = inr refl
space_is (Mark _) = inl refl
space_is (Reserved words.Begin) = inr refl
space_is (Reserved words.End) = inr refl
space_is (Reserved _) = inl refl
space_is (Named name) = inl refl
space_is (Sized width value) = inl refl
space_is (Plain value digits) = inl refl

abbrev IsSpace : ℕ → Type 0
IsSpace g = (g ≡ 32) ⊎ (g ≡ 10)

space_low : (g : ℕ) → IsSpace g → g < 33
space_low g (inl e) = omega arith
space_low g (inr e) = omega arith

by_space : (P : ℕ → Type 0) (g : ℕ) → IsSpace g → P 32 → P 10 → P g
by_space P g (inl e) x y = subst P (sym e) x
by_space P g (inr e) x y = subst P (sym e) y

accepted : (tok : VTok) (rest : List ℕ) (g : ℕ) → IsSpace g → IsWritten tok → is_accepted (token_text tok) tok (g ∷ rest) ≡ true
accepted (Named name) rest g s h = by_space (λ (k : ℕ). is_accepted (92 ∷ name) (Named name) (k ∷ rest) ≡ true) g s refl refl
accepted (Reserved k) rest g s h = refl
accepted (Sized width value) rest g s h = and_from (leb width 64) (ltb value (2 ^ width)) (le-leb width 64 h.1) (lt-ltb value (2 ^ width) h.2)
accepted (Plain value digits) rest g s h = and_from (ltb value (2 ^ 31)) (not (front_is (λ b. eqb b 39) (g ∷ rest))) (lt-ltb value (2 ^ 31) h.0) (by_space (λ (k : ℕ). not (eqb k 39) ≡ true) g s refl refl)
accepted (Mark sign) rest g s h = refl

loose : (tok : VTok) (rest : List ℕ) (g : ℕ) → IsSpace g → is_glued (token_text tok) tok (g ∷ rest) ≡ false
loose (Named name) rest g s = refl
loose (Reserved k) rest g s = refl
loose (Sized width value) rest g s = by_space (λ (k : ℕ). is_glued (token_text (Sized width value)) (Sized width value) (k ∷ rest) ≡ false) g s refl refl
loose (Plain value digits) rest g s = by_space (λ (k : ℕ). is_name_byte k ≡ false) g s refl refl
loose (Mark sign) rest g s = refl

-- the tokens, each with the place at which it is written
abbrev pub placed : ℕ → VToks → List (ℕ × VTok)
placed at [] = []
placed at (t ∷ ts) = (at, t) ∷ placed (at + length (token_text t) + 1) ts

pub placed_same : (at : ℕ) (ts : VToks) → map (λ (t : ℕ × VTok). t.1) (placed at ts) ≡ ts
placed_same at [] = refl
placed_same at (t ∷ ts) = ap (λ (l : VToks). t ∷ l) (placed_same (at + length (token_text t) + 1) ts)

word_some : (k : VKeyword) → 0 < length (vword_text k)
word_some words.Module = omega arith
word_some words.Input = omega arith
word_some words.Wire = omega arith
word_some words.EndModule = omega arith
word_some words.Reg = omega arith
word_some words.Initial = omega arith
word_some words.Begin = omega arith
word_some words.End = omega arith
word_some words.Always = omega arith
word_some words.PosEdge = omega arith
word_some words.If = omega arith
word_some words.Else = omega arith

some_text : (tok : VTok) → IsWritten tok → 0 < length (token_text tok)
some_text tok h = some (written_token tok h)
  where
    some : {text : List ℕ} {t : VTok} → IsVToken text t → 0 < length text
    some (lexing.word k is) = rw is (word_some k)
    some (lexing.simple a b c) = omega arith
    some (lexing.escaped a) = omega arith
    some (lexing.plain a) = omega arith
    some (lexing.sized base letter z b zs bs c d e f g is) = omega (arith, ap length is, length-append (z ∷ zs) (39 ∷ letter ∷ b ∷ bs))
    some (lexing.one a) = omega arith
    some (lexing.two a) = omega arith

no_space_front : (ts : VToks) → AreWritten ts → front_is is_blank (tokens_text ts) ≡ false
no_space_front [] h = refl
no_space_front (t ∷ ts) h = go (token_text t) (token_high (written_token t h.0)) (some_text t h.0)
  where
    go : (xs : List ℕ) → list_all is_high xs ≡ true → 0 < length xs → front_is is_blank ((xs ++ (space_behind t ∷ [])) ++ tokens_text ts) ≡ false
    go [] all some = absurd (omega arith)
    go (x ∷ xs) all some = let high = leb-true 33 x (and_parts (is_high x) (list_all is_high xs) all).0 in grind (arith, nat_tests)

pub text_lexes : (at : ℕ) (ts : VToks) → AreWritten ts → Lexes at (tokens_text ts) (placed at ts)
text_lexes at [] h = lexing.end
text_lexes at (t ∷ ts) h =
    let g = space_behind t in
    let is = space_is t in
    let begins : Begins (tokens_text (t ∷ ts)) (token_text t) (g ∷ tokens_text ts) t = record {
      parts = append_assoc (token_text t) (g ∷ []) (tokens_text ts);
      is = written_token t h.0;
      longest = λ more after other e other_is. ends_at_space (token_text t) (tokens_text ts) more after g other (space_low g is) (sym (append_assoc (token_text t) (g ∷ []) (tokens_text ts)) ∙ e) other_is;
    } in
    let blank : is_blank g ≡ true = by_space (λ (k : ℕ). is_blank k ≡ true) g is refl refl in
    lexing.token begins (accepted t (tokens_text ts) g is h.0) (loose t (tokens_text ts) g is)
    (lexing.gap {text = g ∷ []} refl (gaps.blanks blank refl (no_space_front ts h.1)) (text_lexes (at + length (token_text t) + 1) ts h.1))

-- ---- what was lexed has its text

lead_least : (zs : List ℕ) (n : ℕ) → 1 ≤ n → 1 ≤ fold next n zs
lead_least [] n le = le
lead_least (z ∷ zs) n le = lead_least zs (next n z) (go (eqb z 95))
  where
    go : (b : Bool) → 1 ≤ cond b n (10 * n + digit_of z)
    go true = le
    go false = omega arith

pub size_least : (z : ℕ) (zs : List ℕ) → is_digit z ≡ true → z ≢ 48 → 1 ≤ digits_number 10 (z ∷ zs)
size_least z zs e lead =
    let low = digit_low z e in
    let top = digit_top z e in
    let first : next 0 z ≡ z - 48 = rw (ne_eqb z 95 (λ h. absurd (omega arith)), le-leb z 57 top) (omega arith) in
    lead_least zs (next 0 z) (omega (arith, first, lead))

pub has_text : {text : List ℕ} {tok : VTok} (rest : List ℕ) → IsVToken text tok → is_accepted text tok rest ≡ true → HasText tok
has_text rest (lexing.word k is) a = tt
has_text rest (lexing.simple {b = b} {bs = bs} first all other) a =
    (and_from (is_graphic b) (list_all is_graphic bs) (name_graphic b (letter_name b first)) (all_weaken is_name_byte is_graphic name_graphic bs all), omega arith)
has_text rest (lexing.escaped all) a = (all, omega arith)
has_text rest (lexing.plain {b = b} {bs = bs} all) a = ltb-true _ _ (and_parts (ltb (digits_number 10 (b ∷ bs)) (2 ^ 31)) (not (front_is (λ b. eqb b 39) rest)) a).0
has_text rest (lexing.sized base letter z b zs bs all lead is first more parts) a =
    let both = and_parts (leb (digits_number 10 (z ∷ zs)) 64) (ltb (digits_number base (b ∷ bs)) (2 ^ digits_number 10 (z ∷ zs))) a in
    (size_least z zs (and_parts (is_digit z) (list_all is_digit zs) all).0 lead, leb-true _ _ both.0, ltb-true _ _ both.1)
has_text rest (lexing.one e) a = tt
has_text rest (lexing.two e) a = tt

pub lexed_have : {at : ℕ} {bytes : List ℕ} {ts : List (ℕ × VTok)} → Lexes at bytes ts → Have (map (λ (t : ℕ × VTok). t.1) ts)
lexed_have lexing.end = tt
lexed_have (lexing.gap is g ls) = lexed_have ls
lexed_have (lexing.token {rest = rest} b a g ls) = (has_text rest b.is a, lexed_have ls)
