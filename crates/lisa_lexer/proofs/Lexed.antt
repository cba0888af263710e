-- Tokens and faults are those of the definition, and no others.
use Rattle.std.proofs.Common.{◌≡◌, ℕ, zero, suc, ◌+◌, ◌<◌, ◌≤◌, Bool, true, false, ltb, List, [], ◌∷◌, ◌++◌, length, drop, Ok, Err, refl, sym, ap, subst, ◌∙◌, arith}
use Rattle.std.proofs.lemmas.Bool.{lt-ltb}
use Rattle.std.proofs.lemmas.List.{length-drop, drop_at, length-append}
use Rattle.lisa_tree.specs.declared.faults.DescFault.{DescFault}
use Rattle.lisa_tree.specs.declared.tokens.Token.{Token}
use Rattle.lisa_tree.specs.declared.tokens.TokenPart.{TokenPart}
use Rattle.lisa_tree.specs.declared.tokens.TokenPart.TheVariants as parts
use Rattle.lisa_tree.specs.Tokens.{IsToken, named, reserved, type_word, decimal, hexadecimal, pattern, string, sign, Begins, is_glued, Fits, placed, Lexes, end, gap, token, Stuck, bad, broken, in_string, no_quote, glued, wide_number, wide_pattern, long, Breaks, behind_gap, behind_token, stuck}
use Rattle.lisa_words.specs.Bytes.{is_digit, is_letter, front_is}
use Rattle.lisa_words.specs.Gaps.{IsGap, blanks, line, block, BrokenGap, in_line, in_block, no_end, starts_comment}
use Rattle.lisa_words.specs.Fix.{guarded}
use Rattle.lisa_words.proofs.Fixed.{fix_is}
use Rattle.lisa_lexer.specs.declared.items.Item.{Item}
use Rattle.lisa_lexer.specs.declared.items.Item.TheVariants.{Skip, Take}
use Rattle.lisa_lexer.specs.Answers.{HasOutcome, lexes, breaks}
use Rattle.lisa_lexer.specs.Lexing.{Front, item_at, Answer, ◌>>=◌, on_item, step, size, lex}
use Rattle.lisa_lexer.proofs.Fronts.{front_more, front_no_comment}
use Rattle.lisa_lexer.proofs.TokenLaws.{token_some}
use Rattle.lisa_lexer.proofs.ItemLaws.{verdict_good, verdict_glued, verdict_long, verdict_number, verdict_pattern, ItemIs, item_is, item_gap, item_broken, item_in_string, item_no_quote, item_begins, item_bad}

abbrev len_of : Item → ℕ
len_of (Skip n) = n
len_of (Take n part) = n

positive : (at : ℕ) (bytes : List ℕ) (i : Item) → ItemIs at bytes (Ok i) → 0 < len_of i
positive at bytes (Skip n) h = h.some
positive at bytes (Take n part) h = omega (arith, h.len, token_some h.begins.is)

same_on : (r : Front) (f g : Item → Answer) → ((i : Item) → r ≡ Ok i → f i ≡ g i) → (r >>= f) ≡ (r >>= g)
same_on (Ok i) f g h = h i refl
same_on (Err e) f g h = refl

pub lex_end : (at : ℕ) → lex (at, []) ≡ Ok []
unfolding lex
lex_end at = fix_is size (Ok []) step (at, [])

pub lex_is : (at b : ℕ) (bs : List ℕ) → lex (at, b ∷ bs) ≡ (item_at at (b ∷ bs) >>= on_item lex at (b ∷ bs))
unfolding lex
lex_is at b bs = fix_is size (Ok []) step (at, b ∷ bs) ∙ same_on (item_at at (b ∷ bs)) (on_item (guarded size (Ok []) lex (at, b ∷ bs)) at (b ∷ bs)) (on_item lex at (b ∷ bs)) go
  where
    less : (n : ℕ) → 0 < n → ltb (length (drop n (b ∷ bs))) (length (b ∷ bs)) ≡ true
    less n some = lt-ltb _ _ (omega (arith, length-drop n (b ∷ bs)))

    known : (i : Item) → item_at at (b ∷ bs) ≡ Ok i → 0 < len_of i
    known i e = positive at (b ∷ bs) i (subst (ItemIs at (b ∷ bs)) e (item_is at b bs))

    go : (i : Item) → item_at at (b ∷ bs) ≡ Ok i → on_item (guarded size (Ok []) lex (at, b ∷ bs)) at (b ∷ bs) i ≡ on_item lex at (b ∷ bs) i
    go (Skip n) e = rw (less n (known (Skip n) e)) refl
    go (Take n part) e = rw (less n (known (Take n part) e)) refl

pub lex_at : (at : ℕ) (bytes : List ℕ) → 0 < length bytes → lex (at, bytes) ≡ (item_at at bytes >>= on_item lex at bytes)
lex_at at [] some = absurd (omega arith)
lex_at at (b ∷ bs) some = lex_is at b bs

-- ---- what is answered holds

abbrev pub LexIs : ℕ → List ℕ → Answer → Type 0
LexIs at bytes (Ok ts) = Lexes at bytes ts
LexIs at bytes (Err fault) = Breaks at bytes fault

after_gap : (at : ℕ) (bytes text rest : List ℕ) (r : Answer) → IsGap text rest → bytes ≡ text ++ rest → LexIs (at + length text) rest r → LexIs at bytes r
after_gap at bytes text rest (Ok ts) g e h = gap g e h
after_gap at bytes text rest (Err fault) g e h = behind_gap g e h

after_token : (at : ℕ) (bytes text rest : List ℕ) (part : TokenPart) (r : Answer) → starts_comment bytes ≡ false → Begins bytes text rest part → is_glued part rest ≡ false → Fits part
    → LexIs (at + length text) rest r → LexIs at bytes (r >>= λ ts. Ok (placed at part ∷ ts))
after_token at bytes text rest part (Ok ts) c b free fit h = token c b free fit h
after_token at bytes text rest part (Err fault) c b free fit h = behind_token c b free fit h

-- the rest of bytes that are cut behind a text
rest_is : (n : ℕ) (bytes text rest : List ℕ) → bytes ≡ text ++ rest → length text ≡ n → drop n bytes ≡ rest
rest_is n bytes text rest e len = ap (drop n) e ∙ drop_at text rest n len

moved : (at n : ℕ) (bytes text rest : List ℕ) (r : Answer) → bytes ≡ text ++ rest → length text ≡ n → LexIs (at + n) (drop n bytes) r → LexIs (at + length text) rest r
moved at n bytes text rest r e len h = subst (λ (l : List ℕ). LexIs (at + length text) l r) (rest_is n bytes text rest e len) (subst (λ (m : ℕ). LexIs (at + m) (drop n bytes) r) (sym len) h)

pub lexed : (k at : ℕ) (bytes : List ℕ) → length bytes ≤ k → LexIs at bytes (lex (at, bytes))
lexed k at [] le = rw lex_end end
lexed zero at (b ∷ bs) le = absurd (omega arith)
lexed (suc k) at (b ∷ bs) le = rw (lex_is at b bs) (go (item_at at (b ∷ bs)) (item_is at b bs) (λ n some. lexed k (at + n) (drop n (b ∷ bs)) (omega (arith, length-drop n (b ∷ bs)))))
  where
    go : (r : Front) → ItemIs at (b ∷ bs) r → ((n : ℕ) → 0 < n → LexIs (at + n) (drop n (b ∷ bs)) (lex (at + n, drop n (b ∷ bs)))) → LexIs at (b ∷ bs) (r >>= on_item lex at (b ∷ bs))
    go (Err fault) h rec = stuck h
    go (Ok (Skip n)) h rec = after_gap at (b ∷ bs) h.text h.rest _ h.is h.parts (moved at n (b ∷ bs) h.text h.rest _ h.parts h.len (rec n h.some))
    go (Ok (Take n part)) h rec =
        after_token at (b ∷ bs) h.text h.rest part _ h.no_comment h.begins h.free h.fit (moved at n (b ∷ bs) h.text h.rest _ h.begins.parts h.len (rec n (omega (arith, h.len, token_some h.begins.is))))

pub has_outcome : (bytes : List ℕ) → HasOutcome bytes
has_outcome bytes = go (lex (0, bytes)) (lexed (length bytes) 0 bytes (omega arith))
  where
    go : (r : Answer) → LexIs 0 bytes r → HasOutcome bytes
    go (Ok ts) h = lexes ts h
    go (Err fault) h = breaks fault h

-- ---- what holds is answered

gap_some : {text rest : List ℕ} → IsGap text rest → 0 < length text
gap_some (blanks e all ends) = omega arith
gap_some (line all ends) = omega arith
gap_some (block body all e) = omega arith

lex_gap : (at : ℕ) (bytes text rest : List ℕ) → IsGap text rest → bytes ≡ text ++ rest → lex (at, bytes) ≡ lex (at + length text, rest)
lex_gap at bytes text rest g e =
    ap (λ (l : List ℕ). lex (at, l)) e
    ∙ lex_at at (text ++ rest) (omega (arith, gap_some g, length-append text rest))
    ∙ ap (λ (r : Front). r >>= on_item lex at (text ++ rest)) (item_gap at g)
    ∙ ap (λ (l : List ℕ). lex (at + length text, l)) (drop_at text rest (length text) refl)

lex_token : (at : ℕ) (bytes text rest : List ℕ) (part : TokenPart) → starts_comment bytes ≡ false → Begins bytes text rest part → is_glued part rest ≡ false → Fits part
    → lex (at, bytes) ≡ (lex (at + length text, rest) >>= λ ts. Ok (placed at part ∷ ts))
lex_token at bytes text rest part c b free fit =
    lex_at at bytes (omega (arith, token_some b.is, length-append text rest, ap length b.parts))
    ∙ ap (λ (r : Front). r >>= on_item lex at bytes) (item_begins at bytes text rest part c b ∙ verdict_good at (length text) part rest fit free)
    ∙ ap (λ (l : List ℕ). lex (at + length text, l) >>= λ ts. Ok (placed at part ∷ ts)) (rest_is (length text) bytes text rest b.parts refl)

pub lex_complete : {at : ℕ} {bytes : List ℕ} {ts : List Token} → Lexes at bytes ts → lex (at, bytes) ≡ Ok ts
lex_complete (end {at = at}) = lex_end at
lex_complete (gap {at = at} {bytes = bytes} {text = text} {rest = rest} g e d) = lex_gap at bytes text rest g e ∙ lex_complete d
lex_complete (token {at = at} {bytes = bytes} {text = text} {rest = rest} {part = part} c b free fit d) =
    lex_token at bytes text rest part c b free fit ∙ ap (λ (r : Answer). r >>= λ ts. Ok (placed at part ∷ ts)) (lex_complete d)

-- bytes are at most one list of tokens
pub lexes_same : {at : ℕ} {bytes : List ℕ} {ts us : List Token} → Lexes at bytes ts → Lexes at bytes us → ts ≡ us
lexes_same {at} {bytes} {ts} {us} d e = let same : ◌≡◌ {A = Answer} (Ok ts) (Ok us) = sym (lex_complete d) ∙ lex_complete e in cc

-- ---- faults

-- how a token of some kinds begins
abbrev FrontOf : TokenPart → List ℕ → Type 0
FrontOf (parts.Named name) text = front_is is_letter text ≡ true
FrontOf (parts.Number value base) text = front_is is_digit text ≡ true
FrontOf (parts.Pattern digits) text = front_is is_digit text ≡ true
FrontOf _ text = Unit {0}

token_front : {text : List ℕ} {part : TokenPart} → IsToken text part → FrontOf part text
token_front (named l all no_k no_s) = l
token_front (reserved k) = tt
token_front (type_word s w) = tt
token_front (decimal d all) = d
token_front (hexadecimal d all) = refl
token_front (pattern d all) = refl
token_front (string all) = tt
token_front (sign s) = tt

-- a token that begins with a letter or a digit begins no comment
plain : (p : ℕ → Bool) (bytes text rest : List ℕ) (part : TokenPart) → p 47 ≡ false → Begins bytes text rest part → front_is p text ≡ true → starts_comment bytes ≡ false
plain p bytes text rest part other b f = front_no_comment p other bytes (sym (front_more p bytes text rest b.parts (token_some b.is)) ∙ f)

glued_plain : (bytes text rest : List ℕ) (part : TokenPart) → Begins bytes text rest part → is_glued part rest ≡ true → starts_comment bytes ≡ false
glued_plain bytes text rest (parts.Number value base) b g = plain is_digit bytes text rest (parts.Number value base) refl b (token_front b.is)
glued_plain bytes text rest (parts.Pattern digits) b g = plain is_digit bytes text rest (parts.Pattern digits) refl b (token_front b.is)
glued_plain bytes text rest _ b g = absurd cc

stuck_item : {at : ℕ} {bytes : List ℕ} {fault : DescFault} → Stuck at bytes fault → (0 < length bytes) × (item_at at bytes ≡ Err fault)
stuck_item (bad {at = at} {b = b} {bs = bs} e c q nothing) = (omega arith, item_bad at b bs e c q nothing)
stuck_item (broken {at = at} {bytes = bytes} g) = (broken_some g, item_broken at g)
  where
    broken_some : {bytes : List ℕ} {n : ℕ} → BrokenGap bytes n → 0 < length bytes
    broken_some (in_line body rest b all e) = omega arith
    broken_some (in_block body rest b n all e f lt) = omega arith
    broken_some (no_end e) = omega arith
stuck_item (in_string {at = at} text rest b all e f) = (omega arith, item_in_string at text rest b all e f)
stuck_item (no_quote {at = at} {text = text} all) = (omega arith, item_no_quote at text all)
stuck_item (glued {at = at} {bytes = bytes} {text = text} {rest = rest} {part = part} b fit g) =
    (omega (arith, token_some b.is, length-append text rest, ap length b.parts), item_begins at bytes text rest part (glued_plain bytes text rest part b g) b ∙ verdict_glued at (length text) part rest fit g)
stuck_item (wide_number {at = at} {value = value} {base = base} {bytes = bytes} {text = text} {rest = rest} b far) = (
  omega (arith, token_some b.is, length-append text rest, ap length b.parts),
  item_begins at bytes text rest (parts.Number value base) (plain is_digit bytes text rest (parts.Number value base) refl b (token_front b.is)) b ∙ verdict_number at (length text) value base rest far,
)
stuck_item (wide_pattern {at = at} {bytes = bytes} {text = text} {rest = rest} {digits = digits} b far) = (
  omega (arith, token_some b.is, length-append text rest, ap length b.parts),
  item_begins at bytes text rest (parts.Pattern digits) (plain is_digit bytes text rest (parts.Pattern digits) refl b (token_front b.is)) b ∙ verdict_pattern at (length text) digits rest far,
)
stuck_item (long {at = at} {bytes = bytes} {text = text} {rest = rest} {name = name} b far) = (
  omega (arith, token_some b.is, length-append text rest, ap length b.parts),
  item_begins at bytes text rest (parts.Named name) (plain is_letter bytes text rest (parts.Named name) refl b (token_front b.is)) b ∙ verdict_long at (length text) name rest far,
)

pub lex_breaks : {at : ℕ} {bytes : List ℕ} {fault : DescFault} → Breaks at bytes fault → lex (at, bytes) ≡ Err fault
lex_breaks (behind_gap {at = at} {bytes = bytes} {text = text} {rest = rest} g e d) = lex_gap at bytes text rest g e ∙ lex_breaks d
lex_breaks (behind_token {at = at} {bytes = bytes} {text = text} {rest = rest} {part = part} c b free fit d) =
    lex_token at bytes text rest part c b free fit ∙ ap (λ (r : Answer). r >>= λ ts. Ok (placed at part ∷ ts)) (lex_breaks d)
lex_breaks (stuck {at = at} {bytes = bytes} s) =
    let there = stuck_item s in
    lex_at at bytes there.0 ∙ ap (λ (r : Front). r >>= on_item lex at bytes) there.1

-- bytes have at most one first fault, and none where they are tokens
pub breaks_same : {at : ℕ} {bytes : List ℕ} {f g : DescFault} → Breaks at bytes f → Breaks at bytes g → f ≡ g
breaks_same {at} {bytes} {f} {g} d e = let same : ◌≡◌ {A = Answer} (Err f) (Err g) = sym (lex_breaks d) ∙ lex_breaks e in cc

pub lexes_whole : {at : ℕ} {bytes : List ℕ} {ts : List Token} {fault : DescFault} → Lexes at bytes ts → Breaks at bytes fault → ⊥
lexes_whole {at} {bytes} {ts} {fault} d e = let same : ◌≡◌ {A = Answer} (Ok ts) (Err fault) = sym (lex_complete d) ∙ lex_breaks e in absurd cc

-- a length that item_at answers lies inside the bytes
pub item_within : (at : ℕ) (bytes : List ℕ) (i : Item) → ItemIs at bytes (Ok i) → (0 < len_of i) × (len_of i ≤ length bytes)
item_within at bytes (Skip n) h = (h.some, omega (arith, h.len, length-append h.text h.rest, ap length h.parts))
item_within at bytes (Take n part) h = (positive at bytes (Take n part) h, omega (arith, h.len, length-append h.text h.rest, ap length h.begins.parts))
