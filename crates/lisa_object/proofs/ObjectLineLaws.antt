-- Lines of objects are read back, and nothing else is.
use Rattle.std.proofs.Common.{◌≡◌, ◌≢◌, ℕ, zero, suc, ◌+◌, ◌-◌, ◌*◌, ◌^◌, ◌<◌, ◌≤◌, Bool, true, false, cond, ℤ, pos, negsuc, List, [], ◌∷◌, ◌++◌, length, map, Option, Some, None, refl, sym, ap, subst, ◌∙◌, inl, inr, arith, eq-eqb, ne_eqb}
use Rattle.std.specs.Prelude.{nat_lt, nat_le, ◌==◌, ◌&&◌, ◌||◌, not, codes, decimal, ◌-ℤ◌}
use Rattle.std.specs.List.{list_any, list_all, slice_split}
use Rattle.std.specs.Str.{bytes_eq}
use Rattle.std.specs.Fmt.{signed_decimal}
use Rattle.std.specs.Str.Parse.{AllDigits}
use Rattle.std.specs.Char.{digit_value}
use Rattle.std.proofs.lemmas.Bool.{and_parts, and_from, lt-ltb, ltb-true, eqb-true, false≢true, not-true, cases_lt, or_cases}
use Rattle.std.proofs.lemmas.Bool.Decides.{nat_tests}
use Rattle.std.proofs.lemmas.Int.{ints}
use Rattle.std.proofs.lemmas.Fmt.{decimal_is_IsNumeral_wide}
use Rattle.asm_source.specs.Bytes.{is_letter, is_name_byte, is_name}
use Rattle.asm_source.specs.Plain.{PlainSum}
use Rattle.asm_source.specs.declared.parts.Term.{Term}
use Rattle.lisa_object.specs.declared.parts.FixKind.{FixKind}
use Rattle.lisa_object.specs.declared.parts.FixKind.TheVariants as kinds
use Rattle.lisa_object.specs.Texts.{line_of, hex}
use Rattle.lisa_object.specs.Objects.{PlainObjectLine, Section, Space, Label, Equ, Global, Cell, Fix}
use Rattle.lisa_object.specs.ObjectText.{kind_word, symbol_word, term_word, line_words}
use Rattle.lisa_object.specs.ObjectRules.{is_symbol, has_symbol, has_names}
use Rattle.lisa_object.specs.Reading.{◌>>=◌, Word, first_of, is_nil, small_of, hex_of}
use Rattle.lisa_object.specs.ObjectReading.{one_of, two_of, wide_of, negative, integer_of, name_of, section_of, space_of, label_of, global_of, named_by, equ_of, cell_of, kind_of, symbol_of, signed_term, term_of, terms_of, FixHead, fix_head, fix_of, line_from, line_at}
use Rattle.lisa_object.proofs.Options.{bind_some, some_is, cond_some, guard_some}
use Rattle.lisa_object.proofs.WordLaws.{same_bytes, bytes_same, hex_there, hex_back, wide_there, wide_back}
use Rattle.lisa_object.proofs.TextLaws.{lacks, all_lack, words_line}
use Rattle.lisa_object.proofs.TextLaws as texts
use Rattle.lisa_object.proofs.PlainWords.{is_plain, plain_lacks, digits_plain, decimal_plain, hex_plain}
use Rattle.lisa_object.proofs.HeadLaws.{small_there, small_back}
use Rattle.lisa_object.proofs.WideLaws.{no_digits}

-- ---- plain words

above : (b : ℕ) → is_name_byte b ≡ true → nat_lt 32 b ≡ true
above b e = grind (arith, nat_tests)

bytes_plain : (bs : Word) → list_all is_name_byte bs ≡ true → is_plain bs ≡ true
bytes_plain [] e = refl
bytes_plain (b ∷ bs) e = let p = and_parts (is_name_byte b) (list_all is_name_byte bs) e in and_from _ _ (above b p.0) (bytes_plain bs p.1)

letter_above : (b : ℕ) → is_letter b ≡ true → nat_lt 32 b ≡ true
letter_above b e = grind (arith, nat_tests)

pub name_plain : (name : Word) → is_name name ≡ true → is_plain name ≡ true
name_plain [] e = refl
name_plain (b ∷ bs) e =
    let p = and_parts (is_letter b && list_all is_name_byte bs) (nat_le (length (b ∷ bs)) 64) e in
    let q = and_parts (is_letter b) (list_all is_name_byte bs) p.0 in
    and_from _ _ (letter_above b q.0) (bytes_plain bs q.1)

-- at most 21 digits
abbrev pub IsShortInt : ℤ → Type 0
IsShortInt (pos n) = n < 10 ^ 21
IsShortInt (negsuc n) = suc n < 10 ^ 21

wide_plain : (n : ℕ) → n < 10 ^ 21 → is_plain (decimal n) ≡ true
wide_plain n lt = digits_plain 10 (decimal n) (omega arith) (decimal_is_IsNumeral_wide n (omega arith)).0.1

pub integer_plain : (z : ℤ) → IsShortInt z → is_plain (signed_decimal z) ≡ true
integer_plain (pos n) lt = wide_plain n lt
integer_plain (negsuc n) lt = wide_plain (suc n) lt

pub kind_plain : (k : FixKind) → is_plain (kind_word k) ≡ true
kind_plain kinds.Unsigned = refl
kind_plain kinds.Signed = refl
kind_plain kinds.Whole = refl

symbol_plain : (s : Option Word) → is_symbol s ≡ true → is_plain (symbol_word s) ≡ true
symbol_plain None e = refl
symbol_plain (Some n) e = name_plain n e

sign_above : (m : Bool) → nat_lt 32 (cond m 45 43) ≡ true
sign_above true = refl
sign_above false = refl

term_plain : (t : Term) → has_symbol t ≡ true → is_plain (term_word t) ≡ true
term_plain t e = and_from _ _ (sign_above t.minus) (symbol_plain t.name e)

-- ---- integers

first_digit : (ds : Word) → AllDigits 10 ds → 0 < length ds → (b : ℕ) × (bs : Word) × (ds ≡ b ∷ bs) × ((b == 45) ≡ false)
first_digit [] h some = absurd (omega arith)
first_digit (b ∷ bs) h some = (b, bs, refl, ne_eqb b 45 (λ e. let f : digit_value b ≡ 36 = ap digit_value e in omega (arith, f, h.0)))

positive_there : (w : Word) (n : ℕ) (b : ℕ) (bs : Word) → w ≡ b ∷ bs → (b == 45) ≡ false → wide_of w ≡ Some n → integer_of w ≡ Some (pos n)
unfolding integer_of
positive_there w n b bs is other e = ap integer_of is ∙ rw other (ap (λ (q : Option ℕ). q >>= λ n. Some (pos n)) (ap wide_of (sym is) ∙ e))

pub integer_there : (z : ℤ) → IsShortInt z → integer_of (signed_decimal z) ≡ Some z
unfolding integer_of
integer_there (pos n) lt =
    let d = decimal_is_IsNumeral_wide n (omega arith) in
    let f = first_digit (decimal n) d.0.1 d.0.0 in
    positive_there (decimal n) n f.0 f.1 f.2 f.3 (wide_there n lt)
integer_there (negsuc n) lt =
    let some : (suc n == 0) ≡ false = ne_eqb (suc n) 0 (λ e. omega arith) in
    let minus : pos 0 -ℤ pos (suc n) ≡ negsuc n = omega (arith, ints) in
    rw (wide_there (suc n) lt, some) (ap (λ (z : ℤ). Some z) minus)

negative_back : (n : ℕ) (z : ℤ) → negative n ≡ Some z → 45 ∷ decimal n ≡ signed_decimal z
negative_back zero z e = absurd cc
negative_back (suc n) z e =
    let some : (suc n == 0) ≡ false = ne_eqb (suc n) 0 (λ e. omega arith) in
    let minus : pos 0 -ℤ pos (suc n) ≡ negsuc n = omega (arith, ints) in
    let same : Some (pos 0 -ℤ pos (suc n)) ≡ Some z = rw some at e in
    ap signed_decimal (sym minus ∙ some_is (pos 0 -ℤ pos (suc n)) z same)

pub integer_back : (w : Word) (z : ℤ) → integer_of w ≡ Some z → w ≡ signed_decimal z
unfolding integer_of
integer_back [] z e = absurd cc
integer_back (b ∷ bs) z e = go (b == 45) refl e
  where
    go : (t : Bool) → (b == 45) ≡ t → cond t (wide_of bs >>= negative) (wide_of (b ∷ bs) >>= λ n. Some (pos n)) ≡ Some z → b ∷ bs ≡ signed_decimal z
    go true is f =
        let a = bind_some (wide_of bs) negative z f in
        ap (λ (c : ℕ). c ∷ bs) (eqb-true b 45 is) ∙ ap (λ (l : Word). 45 ∷ l) (wide_back a.0 bs a.1).1 ∙ negative_back a.0 z a.2
    go false is f =
        let a = bind_some (wide_of (b ∷ bs)) (λ n. Some (pos n)) z f in
        (wide_back a.0 (b ∷ bs) a.1).1 ∙ ap signed_decimal (some_is (pos a.0) z a.2)

-- ---- names, kinds and terms

name_back : (w n : Word) → name_of w ≡ Some n → (is_name n ≡ true) × (w ≡ n)
name_back w n e = let g = guard_some (is_name w) w n e in (subst (λ (x : Word). is_name x ≡ true) g.1 g.0, g.1)

name_there : (n : Word) → is_name n ≡ true → name_of n ≡ Some n
name_there n e = rw e refl

kind_there : (k : FixKind) → kind_of (kind_word k) ≡ Some k
kind_there kinds.Unsigned = refl
kind_there kinds.Signed = refl
kind_there kinds.Whole = refl

kind_back : (w : Word) (k : FixKind) → kind_of w ≡ Some k → w ≡ kind_word k
kind_back w k e = first (bytes_eq w (codes "u")) refl e
  where
    third : (t : Bool) → bytes_eq w (codes "w") ≡ t → cond t (Some kinds.Whole) None ≡ Some k → w ≡ kind_word k
    third true is f = bytes_same w (codes "w") is ∙ ap kind_word (some_is kinds.Whole k f)
    third false is f = absurd cc

    second : (t : Bool) → bytes_eq w (codes "s") ≡ t → cond t (Some kinds.Signed) (cond (bytes_eq w (codes "w")) (Some kinds.Whole) None) ≡ Some k → w ≡ kind_word k
    second true is f = bytes_same w (codes "s") is ∙ ap kind_word (some_is kinds.Signed k f)
    second false is f = third (bytes_eq w (codes "w")) refl f

    first : (t : Bool) → bytes_eq w (codes "u") ≡ t → cond t (Some kinds.Unsigned) (cond (bytes_eq w (codes "s")) (Some kinds.Signed) (cond (bytes_eq w (codes "w")) (Some kinds.Whole) None)) ≡ Some k → w ≡ kind_word k
    first true is f = bytes_same w (codes "u") is ∙ ap kind_word (some_is kinds.Unsigned k f)
    first false is f = second (bytes_eq w (codes "s")) refl f

no_dollar : (n : Word) → is_name n ≡ true → bytes_eq n (codes "$") ≡ false
no_dollar n e = go (bytes_eq n (codes "$")) refl
  where
    go : (t : Bool) → bytes_eq n (codes "$") ≡ t → bytes_eq n (codes "$") ≡ false
    go true is = absurd (false≢true (ap is_name (sym (bytes_same n (codes "$") is)) ∙ e))
    go false is = is

symbol_there : (s : Option Word) → is_symbol s ≡ true → symbol_of (symbol_word s) ≡ Some s
symbol_there None e = refl
symbol_there (Some n) e = rw (no_dollar n e, e) refl

symbol_back : (w : Word) (s : Option Word) → symbol_of w ≡ Some s → (w ≡ symbol_word s) × (is_symbol s ≡ true)
symbol_back w s e = go (bytes_eq w (codes "$")) refl e
  where
    go : (t : Bool) → bytes_eq w (codes "$") ≡ t → cond t (Some None) (name_of w >>= λ n. Some (Some n)) ≡ Some s → (w ≡ symbol_word s) × (is_symbol s ≡ true)
    go true is f = subst (λ (x : Option Word). (w ≡ symbol_word x) × (is_symbol x ≡ true)) (some_is None s f) (bytes_same w (codes "$") is, refl)
    go false is f =
        let a = bind_some (name_of w) (λ n. Some (Some n)) s f in
        let b = name_back w a.0 a.1 in
        subst (λ (x : Option Word). (w ≡ symbol_word x) × (is_symbol x ≡ true)) (some_is (Some a.0) s a.2) (b.1, b.0)

term_made : (m : Bool) (s : Option Word) → is_symbol s ≡ true → term_of (cond m 45 43 ∷ symbol_word s) ≡ Some (record { minus = m; name = s })
unfolding term_of
term_made true s e = rw (symbol_there s e) refl
term_made false s e = rw (symbol_there s e) refl

pub term_there : (t : Term) → has_symbol t ≡ true → term_of (term_word t) ≡ Some t
term_there t e = term_made t.minus t.name e

signed_back : (m : Bool) (w : Word) (t : Term) → signed_term m w ≡ Some t → (cond m 45 43 ∷ w ≡ term_word t) × (has_symbol t ≡ true)
signed_back m w t e =
    let a = bind_some (symbol_of w) (λ s. Some (record { minus = m; name = s })) t e in
    let b = symbol_back w a.0 a.1 in
    let made : Term = record { minus = m; name = a.0 } in
    subst (λ (x : Term). (cond m 45 43 ∷ w ≡ term_word x) × (has_symbol x ≡ true)) (some_is made t a.2) (ap (λ (l : Word). cond m 45 43 ∷ l) b.0, b.1)

pub term_back : (w : Word) (t : Term) → term_of w ≡ Some t → (w ≡ term_word t) × (has_symbol t ≡ true)
unfolding term_of
term_back [] t e = absurd cc
term_back (b ∷ bs) t e = go (b == 43) refl e
  where
    minus : (q : Bool) → (b == 45) ≡ q → cond q (signed_term true bs) None ≡ Some t → (b ∷ bs ≡ term_word t) × (has_symbol t ≡ true)
    minus true is f = let r = signed_back true bs t f in (ap (λ (c : ℕ). c ∷ bs) (eqb-true b 45 is) ∙ r.0, r.1)
    minus false is f = absurd cc

    go : (q : Bool) → (b == 43) ≡ q → cond q (signed_term false bs) (cond (b == 45) (signed_term true bs) None) ≡ Some t → (b ∷ bs ≡ term_word t) × (has_symbol t ≡ true)
    go true is f = let r = signed_back false bs t f in (ap (λ (c : ℕ). c ∷ bs) (eqb-true b 43 is) ∙ r.0, r.1)
    go false is f = minus (b == 45) refl f

terms_there : (ts : List Term) → list_all has_symbol ts ≡ true → terms_of (map term_word ts) ≡ Some ts
unfolding terms_of
terms_there [] e = refl
terms_there (t ∷ ts) e = let p = and_parts (has_symbol t) (list_all has_symbol ts) e in rw (term_there t p.0, terms_there ts p.1) refl

terms_back : (ws : List Word) (ts : List Term) → terms_of ws ≡ Some ts → (ws ≡ map term_word ts) × (list_all has_symbol ts ≡ true)
unfolding terms_of
terms_back [] ts e = subst (λ (x : List Term). ([] ≡ map term_word x) × (list_all has_symbol x ≡ true)) (some_is [] ts e) (refl, refl)
terms_back (w ∷ ws) ts e =
    let a = bind_some (term_of w) (λ t. terms_of ws >>= λ ts. Some (t ∷ ts)) ts e in
    let b = bind_some (terms_of ws) (λ ts. Some (a.0 ∷ ts)) ts a.2 in
    let first = term_back w a.0 a.1 in
    let more = terms_back ws b.0 b.1 in
    subst (λ (x : List Term). (w ∷ ws ≡ map term_word x) × (list_all has_symbol x ≡ true)) (some_is (a.0 ∷ b.0) ts b.2)
    (ap (λ (l : Word). l ∷ ws) first.0 ∙ ap (λ (l : List Word). term_word a.0 ∷ l) more.0, and_from _ _ first.1 more.1)

terms_plain : (ts : List Term) → list_all has_symbol ts ≡ true → all_lack 32 (map term_word ts) ≡ true × all_lack 10 (map term_word ts) ≡ true
terms_plain [] e = (refl, refl)
terms_plain (t ∷ ts) e =
    let p = and_parts (has_symbol t) (list_all has_symbol ts) e in
    let plain = term_plain t p.0 in
    let more = terms_plain ts p.1 in
    (and_from _ _ (plain_lacks 32 (term_word t) (omega arith) plain) more.0, and_from _ _ (plain_lacks 10 (term_word t) (omega arith) plain) more.1)

-- ---- words one and two

one_back : (ws : List Word) (w : Word) → one_of ws ≡ Some w → ws ≡ w ∷ []
one_back [] w e = absurd cc
one_back (a ∷ []) w e = ap (λ (l : Word). l ∷ []) (some_is a w e)
one_back (a ∷ b ∷ ws) w e = absurd cc

two_back : (ws : List Word) (a b : Word) → two_of ws ≡ Some (a, b) → ws ≡ a ∷ b ∷ []
two_back [] a b e = absurd cc
two_back (x ∷ []) a b e = absurd cc
two_back (x ∷ y ∷ []) a b e =
    let same = some_is (x, y) (a, b) e in
    ap (λ (p : Word × Word). p.0 ∷ p.1 ∷ []) same
two_back (x ∷ y ∷ z ∷ ws) a b e = absurd cc

-- ---- lines

pub record IsLine (words : List Word) (l : PlainObjectLine) : Type 0 where
  pub parts : words ≡ line_words l
  pub names : has_names l ≡ true

section_back : (ws : List Word) (l : PlainObjectLine) → section_of ws ≡ Some l → IsLine (codes "section" ∷ ws) l
unfolding section_of
section_back ws l e =
    let a = bind_some (two_of ws) (λ w. small_of w.1 >>= λ width. name_of w.0 >>= λ n. Some (Section n width)) l e in
    let b = bind_some (small_of a.0.1) (λ width. name_of a.0.0 >>= λ n. Some (Section n width)) l a.2 in
    let n = bind_some (name_of a.0.0) (λ n. Some (Section n b.0)) l b.2 in
    let name = name_back a.0.0 n.0 n.1 in
    subst (λ (x : PlainObjectLine). IsLine (codes "section" ∷ ws) x) (some_is (Section n.0 b.0) l n.2)
    (record { parts = ap (λ (k : List Word). codes "section" ∷ k) (two_back ws a.0.0 a.0.1 a.1 ∙ ap (λ (k : Word). k ∷ a.0.1 ∷ []) name.1 ∙ ap (λ (k : Word). n.0 ∷ k ∷ []) (small_back a.0.1 b.0 b.1).1); names = name.0 })

space_back : (ws : List Word) (l : PlainObjectLine) → space_of ws ≡ Some l → IsLine (codes "space" ∷ ws) l
unfolding space_of
space_back ws l e =
    let a = bind_some (one_of ws) (λ w. small_of w >>= λ n. Some (Space n)) l e in
    let b = bind_some (small_of a.0) (λ n. Some (Space n)) l a.2 in
    subst (λ (x : PlainObjectLine). IsLine (codes "space" ∷ ws) x) (some_is (Space b.0) l b.2)
    (record { parts = ap (λ (k : List Word). codes "space" ∷ k) (one_back ws a.0 a.1 ∙ ap (λ (k : Word). k ∷ []) (small_back a.0 b.0 b.1).1); names = refl })

label_back : (ws : List Word) (l : PlainObjectLine) → label_of ws ≡ Some l → IsLine (codes "label" ∷ ws) l
unfolding label_of
label_back ws l e =
    let a = bind_some (one_of ws) (λ w. name_of w >>= λ n. Some (Label n)) l e in
    let n = bind_some (name_of a.0) (λ n. Some (Label n)) l a.2 in
    let name = name_back a.0 n.0 n.1 in
    subst (λ (x : PlainObjectLine). IsLine (codes "label" ∷ ws) x) (some_is (Label n.0) l n.2)
    (record { parts = ap (λ (k : List Word). codes "label" ∷ k) (one_back ws a.0 a.1 ∙ ap (λ (k : Word). k ∷ []) name.1); names = name.0 })

global_back : (ws : List Word) (l : PlainObjectLine) → global_of ws ≡ Some l → IsLine (codes "global" ∷ ws) l
unfolding global_of
global_back ws l e =
    let a = bind_some (one_of ws) (λ w. name_of w >>= λ n. Some (Global n)) l e in
    let n = bind_some (name_of a.0) (λ n. Some (Global n)) l a.2 in
    let name = name_back a.0 n.0 n.1 in
    subst (λ (x : PlainObjectLine). IsLine (codes "global" ∷ ws) x) (some_is (Global n.0) l n.2)
    (record { parts = ap (λ (k : List Word). codes "global" ∷ k) (one_back ws a.0 a.1 ∙ ap (λ (k : Word). k ∷ []) name.1); names = name.0 })

equ_back : (ws : List Word) (l : PlainObjectLine) → equ_of ws ≡ Some l → IsLine (codes "equ" ∷ ws) l
unfolding equ_of
equ_back ws l e =
    let a = bind_some (two_of ws) (λ w. integer_of w.1 >>= λ v. name_of w.0 >>= λ n. Some (Equ n v)) l e in
    let b = bind_some (integer_of a.0.1) (λ v. name_of a.0.0 >>= λ n. Some (Equ n v)) l a.2 in
    let n = bind_some (name_of a.0.0) (λ n. Some (Equ n b.0)) l b.2 in
    let name = name_back a.0.0 n.0 n.1 in
    subst (λ (x : PlainObjectLine). IsLine (codes "equ" ∷ ws) x) (some_is (Equ n.0 b.0) l n.2)
    (record { parts = ap (λ (k : List Word). codes "equ" ∷ k) (two_back ws a.0.0 a.0.1 a.1 ∙ ap (λ (k : Word). k ∷ a.0.1 ∷ []) name.1 ∙ ap (λ (k : Word). n.0 ∷ k ∷ []) (integer_back a.0.1 b.0 b.1)); names = name.0 })

cell_back : (ws : List Word) (l : PlainObjectLine) → cell_of ws ≡ Some l → IsLine (codes "cell" ∷ ws) l
unfolding cell_of
cell_back ws l e =
    let a = bind_some (one_of ws) (λ w. hex_of w >>= λ v. Some (Cell v)) l e in
    let b = bind_some (hex_of a.0) (λ v. Some (Cell v)) l a.2 in
    subst (λ (x : PlainObjectLine). IsLine (codes "cell" ∷ ws) x) (some_is (Cell b.0) l b.2)
    (record { parts = ap (λ (k : List Word). codes "cell" ∷ k) (one_back ws a.0 a.1 ∙ ap (λ (k : Word). k ∷ []) (hex_back b.0 a.0 b.1).1); names = refl })

head_back : (ws : List Word) (l w : ℕ) (k : FixKind) (n : ℤ) (rest : List Word) → fix_head ws ≡ Some (l, w, k, n, rest) → ws ≡ decimal l ∷ decimal w ∷ kind_word k ∷ signed_decimal n ∷ rest
head_back [] l w k n rest e = absurd cc
head_back (a ∷ []) l w k n rest e = absurd cc
head_back (a ∷ b ∷ []) l w k n rest e = absurd cc
head_back (a ∷ b ∷ c ∷ []) l w k n rest e = absurd cc
head_back (a ∷ b ∷ c ∷ d ∷ ws) l w k n rest e =
    let p = bind_some (small_of a) (λ l. small_of b >>= λ w. kind_of c >>= λ k. integer_of d >>= λ n. Some (l, w, k, n, ws)) (l, w, k, n, rest) e in
    let q = bind_some (small_of b) (λ w. kind_of c >>= λ k. integer_of d >>= λ n. Some (p.0, w, k, n, ws)) (l, w, k, n, rest) p.2 in
    let r = bind_some (kind_of c) (λ k. integer_of d >>= λ n. Some (p.0, q.0, k, n, ws)) (l, w, k, n, rest) q.2 in
    let s = bind_some (integer_of d) (λ n. Some (p.0, q.0, r.0, n, ws)) (l, w, k, n, rest) r.2 in
    let same : (p.0, q.0, r.0, s.0, ws) ≡ (l, w, k, n, rest) = some_is (p.0, q.0, r.0, s.0, ws) (l, w, k, n, rest) s.2 in
    subst (λ (h : FixHead). a ∷ b ∷ c ∷ d ∷ ws ≡ decimal h.0 ∷ decimal h.1 ∷ kind_word h.2 ∷ signed_decimal h.3 ∷ h.4) same
    (ap (λ (x : Word). x ∷ b ∷ c ∷ d ∷ ws) (small_back a p.0 p.1).1 ∙ ap (λ (x : Word). decimal p.0 ∷ x ∷ c ∷ d ∷ ws) (small_back b q.0 q.1).1
    ∙ ap (λ (x : Word). decimal p.0 ∷ decimal q.0 ∷ x ∷ d ∷ ws) (kind_back c r.0 r.1) ∙ ap (λ (x : Word). decimal p.0 ∷ decimal q.0 ∷ kind_word r.0 ∷ x ∷ ws) (integer_back d s.0 s.1))

fix_back : (ws : List Word) (l : PlainObjectLine) → fix_of ws ≡ Some l → IsLine (codes "fix" ∷ ws) l
unfolding fix_of
fix_back ws l e =
    let h = bind_some (fix_head ws) (λ h. terms_of h.4 >>= λ ts. Some (Fix h.0 h.1 h.2 (record { constant = h.3; terms = ts }))) l e in
    let t = bind_some (terms_of h.0.4) (λ ts. Some (Fix h.0.0 h.0.1 h.0.2 (record { constant = h.0.3; terms = ts }))) l h.2 in
    let terms = terms_back h.0.4 t.0 t.1 in
    subst (λ (x : PlainObjectLine). IsLine (codes "fix" ∷ ws) x) (some_is (Fix h.0.0 h.0.1 h.0.2 (record { constant = h.0.3; terms = t.0 })) l t.2)
    (record { parts = ap (λ (k : List Word). codes "fix" ∷ k) (head_back ws h.0.0 h.0.1 h.0.2 h.0.3 h.0.4 h.1 ∙ ap (λ (k : List Word). decimal h.0.0 ∷ decimal h.0.1 ∷ kind_word h.0.2 ∷ signed_decimal h.0.3 ∷ k) terms.0); names = terms.1 })

module _ (k : Word) (ws : List Word) (l : PlainObjectLine) where
  choose : (keyword : Word) (here there : Option PlainObjectLine) → (here ≡ Some l → IsLine (keyword ∷ ws) l) → (there ≡ Some l → IsLine (k ∷ ws) l) → cond (bytes_eq k keyword) here there ≡ Some l → IsLine (k ∷ ws) l
  choose keyword here there found others e = go (bytes_eq k keyword) refl e
    where
      go : (t : Bool) → bytes_eq k keyword ≡ t → cond t here there ≡ Some l → IsLine (k ∷ ws) l
      go true is f = subst (λ (x : Word). IsLine (x ∷ ws) l) (sym (bytes_same k keyword is)) (found f)
      go false is f = others f

  nothing : ◌≡◌ {A = Option PlainObjectLine} None (Some l) → IsLine (k ∷ ws) l
  nothing e = absurd cc

  from_back : line_from k ws ≡ Some l → IsLine (k ∷ ws) l
  from_back e =
      choose (codes "section") (section_of ws) _ (section_back ws l)
      (choose (codes "space") (space_of ws) _ (space_back ws l)
      (choose (codes "label") (label_of ws) _ (label_back ws l)
      (choose (codes "equ") (equ_of ws) _ (equ_back ws l)
      (choose (codes "global") (global_of ws) _ (global_back ws l)
      (choose (codes "cell") (cell_of ws) _ (cell_back ws l)
      (choose (codes "fix") (fix_of ws) None (fix_back ws l) nothing)))))) e

words_back : (ws : List Word) (l : PlainObjectLine) → (first_of ws >>= λ k. line_from k.0 k.1) ≡ Some l → IsLine ws l
words_back [] l e = absurd cc
words_back (k ∷ ws) l e = from_back k ws l e

pub record IsText (line : Word) (l : PlainObjectLine) : Type 0 where
  pub text : line ≡ line_of (line_words l)
  pub names : has_names l ≡ true

pub line_back : (line : Word) (l : PlainObjectLine) → line_at line ≡ Some l → IsText line l
unfolding line_at
line_back line l e =
    let a = words_back (slice_split (λ b. b == 32) line) l e in
    record { text = words_line line (line_words l) a.parts; names = a.names }

-- ---- and back again

-- numbers that the code's types hold
abbrev pub FitsLine : PlainObjectLine → Type 0
FitsLine (Section n w) = w < 2 ^ 32
FitsLine (Space n) = n < 2 ^ 32
FitsLine (Label n) = Unit {0}
FitsLine (Equ n v) = IsShortInt v
FitsLine (Global n) = Unit {0}
FitsLine (Cell v) = v < 2 ^ 64
FitsLine (Fix l w k s) = (l < 2 ^ 32) × (w < 2 ^ 32) × IsShortInt s.constant

pub words_lack : (c : ℕ) → c ≤ 32 → (l : PlainObjectLine) → has_names l ≡ true → FitsLine l → ((ts : List Term) → list_all has_symbol ts ≡ true → all_lack c (map term_word ts) ≡ true) → all_lack c (line_words l) ≡ true
words_lack c le (Section n w) h f ts = and_from _ _ (plain_lacks c (codes "section") le refl) (and_from _ _ (plain_lacks c n le (name_plain n h)) (and_from _ _ (plain_lacks c (decimal w) le (decimal_plain w (omega arith))) refl))
words_lack c le (Space n) h f ts = and_from _ _ (plain_lacks c (codes "space") le refl) (and_from _ _ (plain_lacks c (decimal n) le (decimal_plain n (omega arith))) refl)
words_lack c le (Label n) h f ts = and_from _ _ (plain_lacks c (codes "label") le refl) (and_from _ _ (plain_lacks c n le (name_plain n h)) refl)
words_lack c le (Equ n v) h f ts = and_from _ _ (plain_lacks c (codes "equ") le refl) (and_from _ _ (plain_lacks c n le (name_plain n h)) (and_from _ _ (plain_lacks c (signed_decimal v) le (integer_plain v f)) refl))
words_lack c le (Global n) h f ts = and_from _ _ (plain_lacks c (codes "global") le refl) (and_from _ _ (plain_lacks c n le (name_plain n h)) refl)
words_lack c le (Cell v) h f ts = and_from _ _ (plain_lacks c (codes "cell") le refl) (and_from _ _ (plain_lacks c (hex v) le (hex_plain v f)) refl)
words_lack c le (Fix l w k s) h f ts =
    and_from _ _ (plain_lacks c (codes "fix") le refl) (and_from _ _ (plain_lacks c (decimal l) le (decimal_plain l (omega (arith, f.0)))) (and_from _ _ (plain_lacks c (decimal w) le (decimal_plain w (omega (arith, f.1))))
    (and_from _ _ (plain_lacks c (kind_word k) le (kind_plain k)) (and_from _ _ (plain_lacks c (signed_decimal s.constant) le (integer_plain s.constant f.2)) (ts s.terms h)))))

pub blanks_lack : (l : PlainObjectLine) → has_names l ≡ true → FitsLine l → all_lack 32 (line_words l) ≡ true
blanks_lack l h f = words_lack 32 (omega arith) l h f (λ ts e. (terms_plain ts e).0)

pub feeds_lack : (l : PlainObjectLine) → has_names l ≡ true → FitsLine l → all_lack 10 (line_words l) ≡ true
feeds_lack l h f = words_lack 10 (omega arith) l h f (λ ts e. (terms_plain ts e).1)

words_there : (l : PlainObjectLine) → has_names l ≡ true → FitsLine l → (first_of (line_words l) >>= λ k. line_from k.0 k.1) ≡ Some l
unfolding section_of space_of label_of equ_of global_of cell_of fix_of
words_there (Section n w) h f = rw (small_there w f, h) refl
words_there (Space n) h f = rw (small_there n f) refl
words_there (Label n) h f = rw h refl
words_there (Equ n v) h f = rw (integer_there v f, h) refl
words_there (Global n) h f = rw h refl
words_there (Cell v) h f = rw (hex_there v f) refl
words_there (Fix l w k s) h f = rw (small_there l f.0, small_there w f.1, kind_there k, integer_there s.constant f.2, terms_there s.terms h) refl

parts_there : (l : PlainObjectLine) → all_lack 32 (line_words l) ≡ true → slice_split (λ b. b == 32) (line_of (line_words l)) ≡ line_words l
parts_there (Section n w) h = texts.line_words (codes "section") (n ∷ decimal w ∷ []) h
parts_there (Space n) h = texts.line_words (codes "space") (decimal n ∷ []) h
parts_there (Label n) h = texts.line_words (codes "label") (n ∷ []) h
parts_there (Equ n v) h = texts.line_words (codes "equ") (n ∷ signed_decimal v ∷ []) h
parts_there (Global n) h = texts.line_words (codes "global") (n ∷ []) h
parts_there (Cell v) h = texts.line_words (codes "cell") (hex v ∷ []) h
parts_there (Fix l w k s) h = texts.line_words (codes "fix") (decimal l ∷ decimal w ∷ kind_word k ∷ signed_decimal s.constant ∷ map term_word s.terms) h

pub line_there : (l : PlainObjectLine) → has_names l ≡ true → FitsLine l → line_at (line_of (line_words l)) ≡ Some l
unfolding line_at
line_there l h f = ap (λ (ws : List Word). first_of ws >>= λ k. line_from k.0 k.1) (parts_there l (blanks_lack l h f)) ∙ words_there l h f

-- the line `end` is no line
pub end_is_none : line_at (codes "end") ≡ None
unfolding line_at
end_is_none = refl
