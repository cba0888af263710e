-- Tokens and faults are those of the definition, and no others.
use Rattle.std.proofs.Common.{◌≡◌, ℕ, zero, suc, ◌+◌, ◌<◌, ◌≤◌, Bool, true, false, ltb, List, [], ◌∷◌, ◌++◌, length, drop, Ok, Err, refl, sym, ap, subst, ◌∙◌, arith}
use Rattle.std.proofs.lemmas.Bool.{lt-ltb}
use Rattle.std.proofs.lemmas.List.{length-drop, drop_at, length-append}
use Rattle.lisa_words.specs.Gaps.{IsGap, blanks, line, block}
use Rattle.lisa_words.specs.Fix.{guarded}
use Rattle.lisa_words.proofs.Fixed.{fix_is}
use Rattle.verilog_text.specs.Tokens.{VTok}
use Rattle.verilog_text.specs.Lexing.{Begins, is_accepted, is_glued, Lexes, end, gap, token, Stuck, Breaks, behind_gap, behind_token, stuck}
use Rattle.verilog_lexer.specs.Reading.{Front, Item, Skip, Take, item_at, Answer, ◌>>=◌, on_item, step, size, lex}
use Rattle.verilog_lexer.proofs.TokenForms.{kind_of, kind_some}
use Rattle.verilog_lexer.proofs.ItemLaws.{verdict_good, ItemIs, item_is, item_gap, item_begins, stuck_item}

abbrev len_of : Item → ℕ
len_of (Skip n) = n
len_of (Take n tok) = n

positive : (at : ℕ) (bytes : List ℕ) (i : Item) → ItemIs at bytes (Ok i) → 0 < len_of i
positive at bytes (Skip n) h = h.some
positive at bytes (Take n tok) h = omega (arith, h.len, kind_some (kind_of h.begins.is))

same_on : (r : Front) (f g : Item → Answer) → ((i : Item) → r ≡ Ok i → f i ≡ g i) → (r >>= f) ≡ (r >>= g)
same_on (Ok i) f g h = h i refl
same_on (Err e) f g h = refl

pub lex_end : (at : ℕ) → lex (at, []) ≡ Ok []
unfolding lex
lex_end at = fix_is size (Ok []) step (at, [])

pub lex_is : (at b : ℕ) (bs : List ℕ) → lex (at, b ∷ bs) ≡ (item_at at (b ∷ bs) >>= on_item lex at (b ∷ bs))
unfolding lex
lex_is at b bs = fix_is size (Ok []) step (at, b ∷ bs) ∙ same_on (item_at at (b ∷ bs)) (on_item (guarded size (Ok []) lex (at, b ∷ bs)) at (b ∷ bs)) (on_item lex at (b ∷ bs)) go
  where
    less : (n : ℕ) → 0 < n → ltb (length (drop n (b ∷ bs))) (length (b ∷ bs)) ≡ true
    less n some = lt-ltb _ _ (omega (arith, length-drop n (b ∷ bs)))

    known : (i : Item) → item_at at (b ∷ bs) ≡ Ok i → 0 < len_of i
    known i e = positive at (b ∷ bs) i (subst (ItemIs at (b ∷ bs)) e (item_is at b bs))

    go : (i : Item) → item_at at (b ∷ bs) ≡ Ok i → on_item (guarded size (Ok []) lex (at, b ∷ bs)) at (b ∷ bs) i ≡ on_item lex at (b ∷ bs) i
    go (Skip n) e = rw (less n (known (Skip n) e)) refl
    go (Take n tok) e = rw (less n (known (Take n tok) e)) refl

pub lex_at : (at : ℕ) (bytes : List ℕ) → 0 < length bytes → lex (at, bytes) ≡ (item_at at bytes >>= on_item lex at bytes)
lex_at at [] some = absurd (omega arith)
lex_at at (b ∷ bs) some = lex_is at b bs

-- ---- what is answered holds

abbrev pub LexIs : ℕ → List ℕ → Answer → Type 0
LexIs at bytes (Ok ts) = Lexes at bytes ts
LexIs at bytes (Err place) = Breaks at bytes place

after_gap : (at : ℕ) (bytes text rest : List ℕ) (r : Answer) → bytes ≡ text ++ rest → IsGap text rest → LexIs (at + length text) rest r → LexIs at bytes r
after_gap at bytes text rest (Ok ts) e g h = gap e g h
after_gap at bytes text rest (Err place) e g h = behind_gap e g h

after_token : (at : ℕ) (bytes text rest : List ℕ) (tok : VTok) (r : Answer) → Begins bytes text rest tok → is_accepted text tok rest ≡ true → is_glued text tok rest ≡ false
    → LexIs (at + length text) rest r → LexIs at bytes (r >>= λ ts. Ok ((at, tok) ∷ ts))
after_token at bytes text rest tok (Ok ts) b a free h = token b a free h
after_token at bytes text rest tok (Err place) b a free h = behind_token b a free h

rest_is : (n : ℕ) (bytes text rest : List ℕ) → bytes ≡ text ++ rest → length text ≡ n → drop n bytes ≡ rest
rest_is n bytes text rest e len = ap (drop n) e ∙ drop_at text rest n len

moved : (at n : ℕ) (bytes text rest : List ℕ) (r : Answer) → bytes ≡ text ++ rest → length text ≡ n → LexIs (at + n) (drop n bytes) r → LexIs (at + length text) rest r
moved at n bytes text rest r e len h = subst (λ (l : List ℕ). LexIs (at + length text) l r) (rest_is n bytes text rest e len) (subst (λ (m : ℕ). LexIs (at + m) (drop n bytes) r) (sym len) h)

pub lexed : (k at : ℕ) (bytes : List ℕ) → length bytes ≤ k → LexIs at bytes (lex (at, bytes))
lexed k at [] le = rw lex_end end
lexed zero at (b ∷ bs) le = absurd (omega arith)
lexed (suc k) at (b ∷ bs) le = rw (lex_is at b bs) (go (item_at at (b ∷ bs)) (item_is at b bs) (λ n some. lexed k (at + n) (drop n (b ∷ bs)) (omega (arith, length-drop n (b ∷ bs)))))
  where
    go : (r : Front) → ItemIs at (b ∷ bs) r → ((n : ℕ) → 0 < n → LexIs (at + n) (drop n (b ∷ bs)) (lex (at + n, drop n (b ∷ bs)))) → LexIs at (b ∷ bs) (r >>= on_item lex at (b ∷ bs))
    go (Err place) h rec = stuck h
    go (Ok (Skip n)) h rec = after_gap at (b ∷ bs) h.text h.rest _ h.parts h.is (moved at n (b ∷ bs) h.text h.rest _ h.parts h.len (rec n h.some))
    go (Ok (Take n tok)) h rec =
        after_token at (b ∷ bs) h.text h.rest tok _ h.begins h.accepted h.free (moved at n (b ∷ bs) h.text h.rest _ h.begins.parts h.len (rec n (omega (arith, h.len, kind_some (kind_of h.begins.is)))))

-- ---- what holds is answered

gap_some : {text rest : List ℕ} → IsGap text rest → 0 < length text
gap_some (blanks e all ends) = omega arith
gap_some (line all ends) = omega arith
gap_some (block body all e) = omega arith

lex_gap : (at : ℕ) (bytes text rest : List ℕ) → IsGap text rest → bytes ≡ text ++ rest → lex (at, bytes) ≡ lex (at + length text, rest)
lex_gap at bytes text rest g e =
    ap (λ (l : List ℕ). lex (at, l)) e
    ∙ lex_at at (text ++ rest) (omega (arith, gap_some g, length-append text rest))
    ∙ ap (λ (r : Front). r >>= on_item lex at (text ++ rest)) (item_gap at g)
    ∙ ap (λ (l : List ℕ). lex (at + length text, l)) (drop_at text rest (length text) refl)

lex_token : (at : ℕ) (bytes text rest : List ℕ) (tok : VTok) → Begins bytes text rest tok → is_accepted text tok rest ≡ true → is_glued text tok rest ≡ false
    → lex (at, bytes) ≡ (lex (at + length text, rest) >>= λ ts. Ok ((at, tok) ∷ ts))
lex_token at bytes text rest tok b a free =
    lex_at at bytes (omega (arith, kind_some (kind_of b.is), length-append text rest, ap length b.parts))
    ∙ ap (λ (r : Front). r >>= on_item lex at bytes) (item_begins at bytes text rest tok b ∙ verdict_good at (length text) text rest tok a free)
    ∙ ap (λ (l : List ℕ). lex (at + length text, l) >>= λ ts. Ok ((at, tok) ∷ ts)) (rest_is (length text) bytes text rest b.parts refl)

pub lex_complete : {at : ℕ} {bytes : List ℕ} {ts : List (ℕ × VTok)} → Lexes at bytes ts → lex (at, bytes) ≡ Ok ts
lex_complete (end {at = at}) = lex_end at
lex_complete (gap {at = at} {bytes = bytes} {text = text} {rest = rest} e g d) = lex_gap at bytes text rest g e ∙ lex_complete d
lex_complete (token {at = at} {bytes = bytes} {text = text} {rest = rest} {tok = tok} b a free d) =
    lex_token at bytes text rest tok b a free ∙ ap (λ (r : Answer). r >>= λ ts. Ok ((at, tok) ∷ ts)) (lex_complete d)

pub lex_breaks : {at : ℕ} {bytes : List ℕ} {place : ℕ} → Breaks at bytes place → lex (at, bytes) ≡ Err place
lex_breaks (behind_gap {at = at} {bytes = bytes} {text = text} {rest = rest} e g d) = lex_gap at bytes text rest g e ∙ lex_breaks d
lex_breaks (behind_token {at = at} {bytes = bytes} {text = text} {rest = rest} {tok = tok} b a free d) =
    lex_token at bytes text rest tok b a free ∙ ap (λ (r : Answer). r >>= λ ts. Ok ((at, tok) ∷ ts)) (lex_breaks d)
lex_breaks (stuck {at = at} {bytes = bytes} s) =
    let there = stuck_item s in
    lex_at at bytes there.0 ∙ ap (λ (r : Front). r >>= on_item lex at bytes) there.1

-- a length that item_at answers lies inside the bytes
pub item_within : (at : ℕ) (bytes : List ℕ) (i : Item) → ItemIs at bytes (Ok i) → (0 < len_of i) × (len_of i ≤ length bytes)
item_within at bytes (Skip n) h = (h.some, omega (arith, h.len, length-append h.text h.rest, ap length h.parts))
item_within at bytes (Take n tok) h = (positive at bytes (Take n tok) h, omega (arith, h.len, length-append h.text h.rest, ap length h.begins.parts))
