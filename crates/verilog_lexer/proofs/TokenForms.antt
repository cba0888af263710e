-- What a token is, by its first byte.
use Rattle.std.proofs.Common.{◌≡◌, ◌≢◌, ℕ, zero, suc, ◌+◌, ◌-◌, ◌*◌, ◌<◌, ◌≤◌, Bool, true, false, cond, eqb, ltb, leb, List, [], ◌∷◌, ◌++◌, length, Option, Some, None, refl, sym, ap, subst, ◌∙◌, arith, inl, inr, ◌⊎◌, ◌&&◌, ◌||◌, not}
use Rattle.std.specs.Prelude.{is_some, codes, fold}
use Rattle.std.specs.List.{list_all}
use Rattle.std.specs.Str.{bytes_eq}
use Rattle.std.proofs.lemmas.Bool.{cases_lt, cases_Bool, both_ways, le-leb, leb-true, eqb-true, ne_eqb, and_parts, and_from, agree_below_at}
use Rattle.std.proofs.lemmas.Bool.Decides.{nat_tests}
use Rattle.std.proofs.lemmas.Slice.Eq.{bytes_eq-Decides}
use Rattle.std.proofs.lemmas.List.{length-append}
use Rattle.lisa_words.specs.Bytes.{is_blank, is_digit, is_letter, is_word, front_is}
use Rattle.lisa_words.proofs.Runs.{same_head, same_tail}
use Rattle.verilog_text.specs.declared.tokens.VKeyword.{VKeyword}
use Rattle.verilog_text.specs.declared.tokens.VKeyword.TheVariants as words
use Rattle.verilog_text.specs.declared.tokens.VSign.{VSign}
use Rattle.verilog_text.specs.declared.tokens.VSign.TheVariants as signs
use Rattle.verilog_text.specs.Tokens.{VTok, Named, Reserved, Sized, Plain, Mark}
use Rattle.verilog_text.specs.Lexing as lexing
use Rattle.verilog_text.specs.Lexing.{vword_text, one_byte, two_bytes, is_name_byte, is_graphic, base_of, digit_of, is_base_digit, is_more_digit, digits_number, IsVToken}
use Rattle.verilog_lexer.specs.Reading.{keyword_of, named_or, word_tok, is_backslash, is_zero}

-- ---- words

one_word : (w text : List ℕ) (k : VKeyword) (o : Option VKeyword) (j : VKeyword) → text ≡ vword_text k → cond (bytes_eq w text) (Some k) o ≡ Some j → (o ≡ Some j → w ≡ vword_text j) → w ≡ vword_text j
one_word w text k o j is e rest = go (bytes_eq w text) refl e
  where
    go : (b : Bool) → bytes_eq w text ≡ b → cond b (Some k) o ≡ Some j → w ≡ vword_text j
    go true f e = let same : k ≡ j = cc in (bytes_eq-Decides w text).0 f ∙ is ∙ ap vword_text same
    go false f e = rest e

keyword_is : (w : List ℕ) (k : VKeyword) → keyword_of w ≡ Some k → w ≡ vword_text k
keyword_is w k e =
    one_word w (codes "module") words.Module _ k refl e (λ h. one_word w (codes "input") words.Input _ k refl h (λ h. one_word w (codes "wire") words.Wire _ k refl h (λ h. one_word w (codes "endmodule") words.EndModule _ k refl h
    (λ h. one_word w (codes "reg") words.Reg _ k refl h (λ h. one_word w (codes "initial") words.Initial _ k refl h (λ h. one_word w (codes "begin") words.Begin _ k refl h (λ h. one_word w (codes "end") words.End _ k refl h
    (λ h. one_word w (codes "always") words.Always _ k refl h (λ h. one_word w (codes "posedge") words.PosEdge _ k refl h (λ h. one_word w (codes "if") words.If _ k refl h (λ h. one_word w (codes "else") words.Else _ k refl h (λ h. absurd cc))))))))))))

keyword_back : (k : VKeyword) → keyword_of (vword_text k) ≡ Some k
keyword_back words.Module = refl
keyword_back words.Input = refl
keyword_back words.Wire = refl
keyword_back words.EndModule = refl
keyword_back words.Reg = refl
keyword_back words.Initial = refl
keyword_back words.Begin = refl
keyword_back words.End = refl
keyword_back words.Always = refl
keyword_back words.PosEdge = refl
keyword_back words.If = refl
keyword_back words.Else = refl

keyword_front : (k : VKeyword) → front_is is_letter (vword_text k) ≡ true
keyword_front words.Module = refl
keyword_front words.Input = refl
keyword_front words.Wire = refl
keyword_front words.EndModule = refl
keyword_front words.Reg = refl
keyword_front words.Initial = refl
keyword_front words.Begin = refl
keyword_front words.End = refl
keyword_front words.Always = refl
keyword_front words.PosEdge = refl
keyword_front words.If = refl
keyword_front words.Else = refl

keyword_all : (k : VKeyword) → list_all is_name_byte (vword_text k) ≡ true
keyword_all words.Module = refl
keyword_all words.Input = refl
keyword_all words.Wire = refl
keyword_all words.EndModule = refl
keyword_all words.Reg = refl
keyword_all words.Initial = refl
keyword_all words.Begin = refl
keyword_all words.End = refl
keyword_all words.Always = refl
keyword_all words.PosEdge = refl
keyword_all words.If = refl
keyword_all words.Else = refl

keyword_none : (w : List ℕ) → ((k : VKeyword) → w ≢ vword_text k) → keyword_of w ≡ None
keyword_none w other = go (keyword_of w) refl
  where
    go : (o : Option VKeyword) → keyword_of w ≡ o → o ≡ None
    go None e = refl
    go (Some k) e = absurd (other k (keyword_is w k e))

pub letter_name : (b : ℕ) → is_letter b ≡ true → is_name_byte b ≡ true
letter_name b e = rw e refl

-- a run of name bytes that begins with a letter is a token
pub word_token : (w : List ℕ) → front_is is_letter w ≡ true → list_all is_name_byte w ≡ true → IsVToken w (word_tok w)
word_token [] front all = absurd cc
word_token (b ∷ bs) front all = go (keyword_of (b ∷ bs)) refl
  where
    go : (o : Option VKeyword) → keyword_of (b ∷ bs) ≡ o → IsVToken (b ∷ bs) (named_or (b ∷ bs) o)
    go None e = lexing.simple front (and_parts (is_name_byte b) (list_all is_name_byte bs) all).1 (λ k same. clash (sym e ∙ ap keyword_of same ∙ keyword_back k))
      where
        clash : {k : VKeyword} → ◌≡◌ {A = Option VKeyword} None (Some k) → ⊥
        clash h = absurd cc
    go (Some k) e = lexing.word k (keyword_is (b ∷ bs) k e)

-- ---- no byte is of two kinds

abbrev never : ℕ → Bool
never b = false

pub not_letter_digit : (b : ℕ) → is_letter b ≡ true → is_digit b ≡ true → ⊥
not_letter_digit b l d = grind (arith, nat_tests)

pub not_letter_backslash : (b : ℕ) → is_letter b ≡ true → is_backslash b ≡ true → ⊥
not_letter_backslash b l d = grind (arith, nat_tests)

pub not_digit_backslash : (b : ℕ) → is_digit b ≡ true → is_backslash b ≡ true → ⊥
not_digit_backslash b l d = grind (arith, nat_tests)

letter_small : (b : ℕ) → is_letter b ≡ true → b < 128
letter_small b l = grind (arith, nat_tests)

digit_small : (b : ℕ) → is_digit b ≡ true → b < 128
digit_small b l = grind (arith, nat_tests)

backslash_small : (b : ℕ) → is_backslash b ≡ true → b < 128
backslash_small b l = let is = eqb-true b 92 l in omega arith

abbrev is_sign_byte : ℕ → Bool
is_sign_byte b = is_some (one_byte b)

not_sign_letter : (b : ℕ) → is_sign_byte b ≡ true → is_letter b ≡ true → ⊥
not_sign_letter b s e = both_ways (is_sign_byte b && is_letter b) (agree_below_at (λ (k : ℕ). is_sign_byte k && is_letter k) never 128 b refl (letter_small b e)) (and_from (is_sign_byte b) (is_letter b) s e)

not_sign_digit : (b : ℕ) → is_sign_byte b ≡ true → is_digit b ≡ true → ⊥
not_sign_digit b s e = both_ways (is_sign_byte b && is_digit b) (agree_below_at (λ (k : ℕ). is_sign_byte k && is_digit k) never 128 b refl (digit_small b e)) (and_from (is_sign_byte b) (is_digit b) s e)

not_sign_backslash : (b : ℕ) → is_sign_byte b ≡ true → is_backslash b ≡ true → ⊥
not_sign_backslash b s e = both_ways (is_sign_byte b && is_backslash b) (agree_below_at (λ (k : ℕ). is_sign_byte k && is_backslash k) never 128 b refl (backslash_small b e)) (and_from (is_sign_byte b) (is_backslash b) s e)

-- the first byte of a sign of two bytes is a sign too
two_first : (x y b c : ℕ) (t s : VSign) (o : Option VSign) → is_sign_byte x ≡ true → (o ≡ Some s → is_sign_byte b ≡ true) → cond (eqb b x && eqb c y) (Some t) o ≡ Some s → is_sign_byte b ≡ true
two_first x y b c t s o is k e = go (eqb b x && eqb c y) refl e
  where
    go : (w : Bool) → (eqb b x && eqb c y) ≡ w → cond w (Some t) o ≡ Some s → is_sign_byte b ≡ true
    go true h f = ap is_sign_byte (eqb-true b x (and_parts (eqb b x) (eqb c y) h).0) ∙ is
    go false h f = k f

two_sign : (b c : ℕ) (s : VSign) → two_bytes b c ≡ Some s → is_sign_byte b ≡ true
two_sign b c s e =
    two_first 60 60 b c signs.ShiftLeft s _ refl (two_first 62 62 b c signs.ShiftRight s _ refl (two_first 60 61 b c signs.LessEqual s _ refl (two_first 62 61 b c signs.GreaterEqual s _ refl
    (two_first 61 61 b c signs.EqualEqual s _ refl (two_first 33 61 b c signs.NotEqual s _ refl (two_first 38 38 b c signs.AndAnd s _ refl (two_first 124 124 b c signs.OrOr s _ refl
    (two_first 94 126 b c signs.Xnor s _ refl (two_first 126 94 b c signs.Xnor s None refl (λ (h : None ≡ Some s). absurd cc)))))))))) e

-- ---- what a token is, by its first byte

-- the kinds of first bytes
pub data Kind : List ℕ → VTok → Type 0 where
  letters : {text : List ℕ} {tok : VTok} → front_is is_letter text ≡ true → list_all is_name_byte text ≡ true → tok ≡ word_tok text → Kind text tok
  backslash : {name : List ℕ} → front_is is_graphic name ≡ true → list_all is_graphic name ≡ true → Kind (92 ∷ name) (Named name)
  digits : {text : List ℕ} → front_is is_digit text ≡ true → list_all is_digit text ≡ true → Kind text (Plain (digits_number 10 text) (length text))
  number : (base letter b : ℕ) (zs bs : List ℕ) {text : List ℕ} {tok : VTok} → front_is is_digit zs ≡ true → list_all is_digit zs ≡ true → front_is is_zero zs ≡ false → base_of letter ≡ Some base
      → is_base_digit base b ≡ true → list_all (is_more_digit base) bs ≡ true → text ≡ zs ++ (39 ∷ letter ∷ b ∷ bs) → tok ≡ Sized (digits_number 10 zs) (digits_number base (b ∷ bs)) → Kind text tok
  one : {b : ℕ} {s : VSign} → one_byte b ≡ Some s → is_sign_byte b ≡ true → Kind (b ∷ []) (Mark s)
  two : {b c : ℕ} {s : VSign} → two_bytes b c ≡ Some s → is_sign_byte b ≡ true → Kind (b ∷ c ∷ []) (Mark s)

pub kind_of : {text : List ℕ} {tok : VTok} → IsVToken text tok → Kind text tok
kind_of (lexing.word k is) = letters (ap (front_is is_letter) is ∙ keyword_front k) (ap (list_all is_name_byte) is ∙ keyword_all k) (sym (ap (λ (w : List ℕ). named_or w (keyword_of w)) is ∙ ap (named_or (vword_text k)) (keyword_back k)))
kind_of (lexing.simple {b = b} {bs = bs} first all other) =
    letters first (and_from (is_name_byte b) (list_all is_name_byte bs) (letter_name b first) all) (sym (ap (named_or (b ∷ bs)) (keyword_none (b ∷ bs) other)))
kind_of (lexing.escaped {b = b} {bs = bs} all) = backslash (and_parts (is_graphic b) (list_all is_graphic bs) all).0 all
kind_of (lexing.plain {b = b} {bs = bs} all) = digits (and_parts (is_digit b) (list_all is_digit bs) all).0 all
kind_of (lexing.sized base letter z b zs bs all lead is first more parts) =
    number base letter b (z ∷ zs) bs (and_parts (is_digit z) (list_all is_digit zs) all).0 all (ne_eqb z 48 lead) is first more parts refl
kind_of (lexing.one {b = b} {sign = s} e) = one e (ap is_some e)
kind_of (lexing.two {b = b} {c = c} {sign = s} e) = two e (two_sign b c s e)

pub record Word (text : List ℕ) (tok : VTok) : Type 0 where
  pub all : list_all is_name_byte text ≡ true
  pub is : tok ≡ word_tok text

front_zs : (p : ℕ → Bool) (zs rest : List ℕ) → front_is is_digit zs ≡ true → front_is p (zs ++ rest) ≡ front_is p zs
front_zs p [] rest e = absurd cc
front_zs p (z ∷ zs) rest e = refl

pub front_clash : (p q : ℕ → Bool) → ((b : ℕ) → p b ≡ true → q b ≡ true → ⊥) → (xs : List ℕ) → front_is p xs ≡ true → front_is q xs ≡ true → ⊥
front_clash p q h [] e f = absurd cc
front_clash p q h (b ∷ xs) e f = h b e f

pub word_only : {text : List ℕ} {tok : VTok} → Kind text tok → front_is is_letter text ≡ true → Word text tok
word_only (letters l all is) f = record { all = all; is = is }
word_only (backslash g all) f = absurd cc
word_only (digits {text = text} d all) f = absurd (front_clash is_letter is_digit not_letter_digit text f d)
word_only (number base letter b zs bs d all lead is first more parts t) f =
    absurd (front_clash is_letter is_digit not_letter_digit zs (sym (front_zs is_letter zs (39 ∷ letter ∷ b ∷ bs) d) ∙ ap (front_is is_letter) (sym parts) ∙ f) d)
word_only (one {b = b} e s) f = absurd (not_sign_letter b s f)
word_only (two {b = b} e s) f = absurd (not_sign_letter b s f)

pub record Escaped (text : List ℕ) (tok : VTok) : Type 0 where
  pub name : List ℕ
  pub parts : text ≡ 92 ∷ name
  pub front : front_is is_graphic name ≡ true
  pub all : list_all is_graphic name ≡ true
  pub is : tok ≡ Named name

pub escaped_only : {text : List ℕ} {tok : VTok} → Kind text tok → front_is is_backslash text ≡ true → Escaped text tok
escaped_only (letters {text = text} l all is) f = absurd (front_clash is_letter is_backslash not_letter_backslash text l f)
escaped_only (backslash {name = name} g all) f = record { name = name; parts = refl; front = g; all = all; is = refl }
escaped_only (digits {text = text} d all) f = absurd (front_clash is_digit is_backslash not_digit_backslash text d f)
escaped_only (number base letter b zs bs d all lead is first more parts t) f =
    absurd (front_clash is_digit is_backslash not_digit_backslash zs d (sym (front_zs is_backslash zs (39 ∷ letter ∷ b ∷ bs) d) ∙ ap (front_is is_backslash) (sym parts) ∙ f))
escaped_only (one {b = b} e s) f = absurd (not_sign_backslash b s f)
escaped_only (two {b = b} e s) f = absurd (not_sign_backslash b s f)

pub record SizedText (text : List ℕ) (tok : VTok) : Type 0 where
  pub base : ℕ
  pub letter : ℕ
  pub b : ℕ
  pub zs : List ℕ
  pub bs : List ℕ
  pub all : list_all is_digit zs ≡ true
  pub lead : front_is is_zero zs ≡ false
  pub is_base : base_of letter ≡ Some base
  pub first : is_base_digit base b ≡ true
  pub more : list_all (is_more_digit base) bs ≡ true
  pub parts : text ≡ zs ++ (39 ∷ letter ∷ b ∷ bs)
  pub is : tok ≡ Sized (digits_number 10 zs) (digits_number base (b ∷ bs))

pub record PlainText (text : List ℕ) (tok : VTok) : Type 0 where
  pub all : list_all is_digit text ≡ true
  pub is : tok ≡ Plain (digits_number 10 text) (length text)

pub number_only : {text : List ℕ} {tok : VTok} → Kind text tok → front_is is_digit text ≡ true → PlainText text tok ⊎ SizedText text tok
number_only (letters {text = text} l all is) f = absurd (front_clash is_letter is_digit not_letter_digit text l f)
number_only (backslash g all) f = absurd cc
number_only (digits d all) f = inl (record { all = all; is = refl })
number_only (number base letter b zs bs d all lead is first more parts t) f =
    inr (record { base = base; letter = letter; b = b; zs = zs; bs = bs; all = all; lead = lead; is_base = is; first = first; more = more; parts = parts; is = t })
number_only (one {b = b} e s) f = absurd (not_sign_digit b s f)
number_only (two {b = b} e s) f = absurd (not_sign_digit b s f)

pub data SignText : List ℕ → VTok → Type 0 where
  of_one : {b : ℕ} {s : VSign} → one_byte b ≡ Some s → SignText (b ∷ []) (Mark s)
  of_two : {b c : ℕ} {s : VSign} → two_bytes b c ≡ Some s → SignText (b ∷ c ∷ []) (Mark s)

pub sign_only : {text : List ℕ} {tok : VTok} → Kind text tok → front_is is_letter text ≡ false → front_is is_backslash text ≡ false → front_is is_digit text ≡ false → SignText text tok
sign_only (letters {text = text} l all is) f g h = absurd (both_ways (front_is is_letter text) f l)
sign_only (backslash e all) f g h = absurd cc
sign_only (digits {text = text} d all) f g h = absurd (both_ways (front_is is_digit text) h d)
sign_only (number base letter b zs bs {text = text} d all lead is first more parts t) f g h =
    absurd (both_ways (front_is is_digit text) h (ap (front_is is_digit) parts ∙ front_zs is_digit zs (39 ∷ letter ∷ b ∷ bs) d ∙ d))
sign_only (one e s) f g h = of_one e
sign_only (two e s) f g h = of_two e

-- a token has a byte, and begins no comment
pub kind_some : {text : List ℕ} {tok : VTok} → Kind text tok → 0 < length text
kind_some (letters {text = []} l all is) = absurd cc
kind_some (letters {text = b ∷ bs} l all is) = omega arith
kind_some (backslash g all) = omega arith
kind_some (digits {text = []} d all) = absurd cc
kind_some (digits {text = b ∷ bs} d all) = omega arith
kind_some (number base letter b zs bs d all lead is first more parts t) = omega (arith, ap length parts, length-append zs (39 ∷ letter ∷ b ∷ bs))
kind_some (one e s) = omega arith
kind_some (two e s) = omega arith

abbrev is_stroke : ℕ → Bool
is_stroke b = eqb b 47

not_stroke : (p : ℕ → Bool) → p 47 ≡ false → (b : ℕ) → p b ≡ true → is_stroke b ≡ true → ⊥
not_stroke p other b e s = both_ways (p 47) other (ap p (sym (eqb-true b 47 s)) ∙ e)

pub false_front : (p : ℕ → Bool) (xs : List ℕ) → (front_is p xs ≡ true → ⊥) → front_is p xs ≡ false
false_front p xs h = elim (cases_Bool (front_is p xs)) [ inl e ↦ absurd (h e) | inr e ↦ e ]

pub no_stroke : {text : List ℕ} {tok : VTok} → Kind text tok → front_is is_stroke text ≡ false
no_stroke (letters {text = text} l all is) = false_front is_stroke text (λ s. front_clash is_letter is_stroke (not_stroke is_letter refl) text l s)
no_stroke (backslash g all) = refl
no_stroke (digits {text = text} d all) = false_front is_stroke text (λ s. front_clash is_digit is_stroke (not_stroke is_digit refl) text d s)
no_stroke (number base letter b zs bs {text = text} d all lead is first more parts t) =
    ap (front_is is_stroke) parts ∙ front_zs is_stroke zs (39 ∷ letter ∷ b ∷ bs) d ∙ false_front is_stroke zs (λ s. front_clash is_digit is_stroke (not_stroke is_digit refl) zs d s)
no_stroke (one {b = b} e s) = false_front is_stroke (b ∷ []) (λ t. not_stroke is_sign_byte refl b s t)
no_stroke (two {b = b} {c = c} e s) = false_front is_stroke (b ∷ c ∷ []) (λ t. not_stroke is_sign_byte refl b s t)
