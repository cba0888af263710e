-- The bytes of a text, alone in a line of a source, are cut into the pieces of the text again.
use Rattle.std.proofs.Common.{◌≡◌, ◌≢◌, ◌<◌, ◌+◌, ◌++◌, ◌&&◌, ◌||◌, ◌==◌, ℕ, suc, List, [], ◌∷◌, Bool, true, false, cond, not, None, Some, Ok, length, map, take, drop, refl, sym, ap, ap₂, ◌∙◌, arith, append_assoc}
use Rattle.std.specs.List.{list_all, prefix_len, position_or_len, before_first}
use Rattle.std.proofs.lemmas.List.{append-nil, length-append}
use Rattle.std.proofs.lemmas.Bool.{and_parts, and_from}
use Rattle.std.proofs.lemmas.Bool.Decides.{nat_tests}
use Rattle.asm_source.specs.Bytes.{is_blank, is_word, is_line_byte, front_is, skip_blanks}
use Rattle.asm_source.specs.Plain.{PlainToken, Run, Instruction, PlainPart}
use Rattle.asm_source.specs.Plain as plain
use Rattle.asm_source.specs.Items.{all_items}
use Rattle.asm_source.specs.Parts.{label_of, label_at, token_of, token_at, part_of, line_of}
use Rattle.asm_source.proofs.Loops.{Along, starts, goes_on, ends}
use Rattle.asm_source.proofs.Stops.{no_label, no_token}
use Rattle.instruction_texts.specs.declared.shapes.Token.{Token}
use Rattle.instruction_texts.specs.declared.shapes.Token.TheVariants.{Word, Sign}
use Rattle.instruction_texts.specs.Lines.{plain_token}
use Rattle.instruction_texts.specs.Written.{laid_out, text_bytes}

-- a byte that may stand in a text: no blank, and none that marks a label, a comment or an operand
abbrev pub is_shown : ℕ → Bool
is_shown c = is_line_byte c && not (c == 32 || c == 9 || c == 58 || c == 59 || c == 64)

-- runs of word characters, and single others that may stand in a text
abbrev pub ArePieces : List Token → Type 0
ArePieces [] = Unit {0}
ArePieces (Word w ∷ ts) = (w ≢ []) × (list_all is_word w ≡ true) × ArePieces ts
ArePieces (Sign c ∷ ts) = (is_word c ≡ false) × (is_shown c ≡ true) × ArePieces ts

-- ---- lists

all_weaker : (p q : ℕ → Bool) → ((c : ℕ) → p c ≡ true → q c ≡ true) → (w : List ℕ) → list_all p w ≡ true → list_all q w ≡ true
all_weaker p q of [] h = refl
all_weaker p q of (c ∷ w) h =
    let both = and_parts (p c) (list_all p w) h in
    and_from (q c) (list_all q w) (of c both.0) (all_weaker p q of w both.1)

pub all_both : (p : ℕ → Bool) (v w : List ℕ) → list_all p v ≡ true → list_all p w ≡ true → list_all p (v ++ w) ≡ true
all_both p [] w h g = g
all_both p (c ∷ v) w h g =
    let both = and_parts (p c) (list_all p v) h in
    and_from (p c) (list_all p (v ++ w)) both.0 (all_both p v w both.1 g)

-- ---- bytes

word_blank : (c : ℕ) → is_word c ≡ true → is_blank c ≡ false
word_blank c h = grind (arith, nat_tests)

word_line : (c : ℕ) → is_word c ≡ true → is_line_byte c ≡ true
word_line c h = grind (arith, nat_tests)

word_comment : (c : ℕ) → is_word c ≡ true → (c == 59) ≡ false
word_comment c h = grind (arith, nat_tests)

shown_blank : (c : ℕ) → is_shown c ≡ true → is_blank c ≡ false
shown_blank c h = grind (arith, nat_tests)

shown_line : (c : ℕ) → is_shown c ≡ true → is_line_byte c ≡ true
shown_line c h = (and_parts (is_line_byte c) _ h).0

shown_comment : (c : ℕ) → is_shown c ≡ true → (c == 59) ≡ false
shown_comment c h = grind (arith, nat_tests)

shown_label : (c : ℕ) → is_shown c ≡ true → (c == 58) ≡ false
shown_label c h = grind (arith, nat_tests)

shown_operand : (c : ℕ) → is_shown c ≡ true → (c == 64) ≡ false
shown_operand c h = grind (arith, nat_tests)

-- ---- runs

take_one : (n c : ℕ) (l : List ℕ) → take (1 + n) (c ∷ l) ≡ c ∷ take n l
take_one n c l = ap (λ (k : ℕ). take k (c ∷ l)) (let e : 1 + n ≡ suc n = omega arith in e)

drop_one : (n c : ℕ) (l : List ℕ) → drop (1 + n) (c ∷ l) ≡ drop n l
drop_one n c l = ap (λ (k : ℕ). drop k (c ∷ l)) (let e : 1 + n ≡ suc n = omega arith in e)

-- the longest run of a kind of bytes at the front
take_run : (p : ℕ → Bool) (w rest : List ℕ) → list_all p w ≡ true → front_is p rest ≡ false → take (prefix_len p (w ++ rest)) (w ++ rest) ≡ w
take_run p [] [] all stop = refl
take_run p [] (c ∷ rest) all stop = rw stop refl
take_run p (c ∷ w) rest all stop =
    let both = and_parts (p c) (list_all p w) all in
    ap (λ (b : Bool). take (cond b (1 + prefix_len p (w ++ rest)) 0) (c ∷ (w ++ rest))) both.0
    ∙ take_one (prefix_len p (w ++ rest)) c (w ++ rest)
    ∙ ap (λ (l : List ℕ). c ∷ l) (take_run p w rest both.1 stop)

drop_run : (p : ℕ → Bool) (w rest : List ℕ) → list_all p w ≡ true → front_is p rest ≡ false → drop (prefix_len p (w ++ rest)) (w ++ rest) ≡ rest
drop_run p [] [] all stop = refl
drop_run p [] (c ∷ rest) all stop = rw stop refl
drop_run p (c ∷ w) rest all stop =
    let both = and_parts (p c) (list_all p w) all in
    ap (λ (b : Bool). drop (cond b (1 + prefix_len p (w ++ rest)) 0) (c ∷ (w ++ rest))) both.0
    ∙ drop_one (prefix_len p (w ++ rest)) c (w ++ rest)
    ∙ drop_run p w rest both.1 stop

no_blanks : (c : ℕ) (rest : List ℕ) → is_blank c ≡ false → skip_blanks (c ∷ rest) ≡ c ∷ rest
no_blanks c rest h = rw h refl

-- what follows a run is no word character, no `@` and no `:`
abbrev Ends : List ℕ → Type 0
Ends [] = Unit {0}
Ends (b ∷ bs) = (is_word b ≡ false) × ((b == 64) ≡ false) × ((b == 58) ≡ false)

front_ends : (rest : List ℕ) → Ends rest → front_is is_word rest ≡ false
front_ends [] e = refl
front_ends (b ∷ bs) e = e.0

ends_run : (ts : List Token) → ArePieces ts → Ends (laid_out true ts)
ends_run [] h = tt
ends_run (Word w ∷ ts) h = (refl, refl, refl)
ends_run (Sign c ∷ ts) h = (h.0, shown_operand c h.1, shown_label c h.1)

-- ---- pieces

sign_at : (c : ℕ) (rest : List ℕ) → is_word c ≡ false → (c == 64) ≡ false → token_at (c ∷ rest) ≡ Ok (Some (plain.Sign c, rest))
unfolding token_at
sign_at c rest word operand = rw (word, operand) refl

run_of : (w rest : List ℕ) → w ≢ [] → Ends rest → token_of w rest ≡ Ok (Some (Run w, rest))
run_of [] rest some e = absurd (some refl)
run_of (c ∷ w) [] some e = refl
run_of (c ∷ w) (b ∷ bs) some e = rw e.1 refl

run_at : (w rest : List ℕ) → w ≢ [] → list_all is_word w ≡ true → Ends rest → token_at (w ++ rest) ≡ Ok (Some (Run w, rest))
unfolding token_at
run_at w rest some all e = ap₂ token_of (take_run is_word w rest all (front_ends rest e)) (drop_run is_word w rest all (front_ends rest e)) ∙ run_of w rest some e

run_first : (w rest : List ℕ) → w ≢ [] → list_all is_word w ≡ true → skip_blanks (w ++ rest) ≡ w ++ rest
run_first [] rest some all = absurd (some refl)
run_first (c ∷ w) rest some all = no_blanks c (w ++ rest) (word_blank c (and_parts (is_word c) (list_all is_word w) all).0)

long_run : (w : List ℕ) → w ≢ [] → 0 < length w
long_run [] some = absurd (some refl)
long_run (c ∷ w) some = omega arith

blank_run : (w rest : List ℕ) → skip_blanks (32 ∷ (w ++ rest)) ≡ skip_blanks (w ++ rest)
blank_run w rest = drop_one (prefix_len is_blank (w ++ rest)) 32 (w ++ rest)

pieces_from : (text : List ℕ) (front : List PlainToken) (behind : Bool) (ts : List Token) → ArePieces ts → Along token_at text front (laid_out behind ts) → all_items token_at text ≡ Ok (front ++ map plain_token ts, [])
pieces_from text front behind [] h along =
    ends token_at no_token text front [] along no_token ∙ ap (λ (l : List PlainToken). Ok (l, [])) (sym (append-nil front))
pieces_from text front behind (Sign c ∷ ts) h along =
    let rest = laid_out false ts in
    let at : token_at (skip_blanks (c ∷ rest)) ≡ Ok (Some (plain.Sign c, rest)) = ap token_at (no_blanks c rest (shown_blank c h.1)) ∙ sign_at c rest h.0 (shown_operand c h.1) in
    pieces_from text (front ++ plain.Sign c ∷ []) false ts h.2 (goes_on token_at no_token text front (c ∷ rest) along (plain.Sign c) rest at (omega arith))
    ∙ ap (λ (l : List PlainToken). Ok (l, [])) (append_assoc front (plain.Sign c ∷ []) (map plain_token ts))
pieces_from text front true (Word w ∷ ts) h along =
    let rest = laid_out true ts in
    let at : token_at (skip_blanks (32 ∷ (w ++ rest))) ≡ Ok (Some (Run w, rest)) = ap token_at (blank_run w rest ∙ run_first w rest h.0 h.1) ∙ run_at w rest h.0 h.1 (ends_run ts h.2) in
    let e = length-append w rest in
    pieces_from text (front ++ Run w ∷ []) true ts h.2 (goes_on token_at no_token text front (32 ∷ (w ++ rest)) along (Run w) rest at (omega (arith, e)))
    ∙ ap (λ (l : List PlainToken). Ok (l, [])) (append_assoc front (Run w ∷ []) (map plain_token ts))
pieces_from text front false (Word w ∷ ts) h along =
    let rest = laid_out true ts in
    let at : token_at (skip_blanks (w ++ rest)) ≡ Ok (Some (Run w, rest)) = ap token_at (run_first w rest h.0 h.1) ∙ run_at w rest h.0 h.1 (ends_run ts h.2) in
    let e = length-append w rest in
    let some = long_run w h.0 in
    pieces_from text (front ++ Run w ∷ []) true ts h.2 (goes_on token_at no_token text front (w ++ rest) along (Run w) rest at (omega (arith, e, some)))
    ∙ ap (λ (l : List PlainToken). Ok (l, [])) (append_assoc front (Run w ∷ []) (map plain_token ts))

pieces_read : (ts : List Token) → ArePieces ts → all_items token_at (text_bytes ts) ≡ Ok (map plain_token ts, [])
pieces_read ts h = pieces_from (text_bytes ts) [] false ts h (starts token_at (text_bytes ts))

-- ---- no label stands in front

label_run : (w rest : List ℕ) → Ends rest → label_of w rest ≡ Ok None
label_run w [] e = refl
label_run w (b ∷ bs) e = rw e.2 refl

label_in_run : (w rest : List ℕ) → list_all is_word w ≡ true → Ends rest → label_at (w ++ rest) ≡ Ok None
unfolding label_at
label_in_run w rest all e = ap₂ label_of (take_run is_word w rest all (front_ends rest e)) (drop_run is_word w rest all (front_ends rest e)) ∙ label_run w rest e

-- what stands at the front of a text that isn't empty
abbrev StartsShown : List ℕ → Type 0
StartsShown [] = ⊥
StartsShown (c ∷ bs) = is_blank c ≡ false

no_label_in : (ts : List Token) → ArePieces ts → label_at (skip_blanks (text_bytes ts)) ≡ Ok None
no_label_in [] h = no_label
no_label_in (Sign c ∷ ts) h =
    let rest = laid_out false ts in
    ap label_at (no_blanks c rest (shown_blank c h.1)) ∙ label_in_run [] (c ∷ rest) refl (h.0, shown_operand c h.1, shown_label c h.1)
no_label_in (Word w ∷ ts) h =
    let rest = laid_out true ts in
    ap label_at (run_first w rest h.0 h.1) ∙ label_in_run w rest h.1 (ends_run ts h.2)

skipped : (ts : List Token) → ArePieces ts → skip_blanks (text_bytes ts) ≡ text_bytes ts
skipped [] h = refl
skipped (Sign c ∷ ts) h = no_blanks c (laid_out false ts) (shown_blank c h.1)
skipped (Word w ∷ ts) h = run_first w (laid_out true ts) h.0 h.1

labels_read : (ts : List Token) → ArePieces ts → all_items label_at (text_bytes ts) ≡ Ok ([], text_bytes ts)
labels_read ts h =
    ends label_at no_label (text_bytes ts) [] (text_bytes ts) (starts label_at (text_bytes ts)) (no_label_in ts h)
    ∙ ap (λ (l : List ℕ). Ok ([], l)) (skipped ts h)

-- ---- the line

-- its first byte isn't `.`
abbrev pub IsUndotted : List ℕ → Type 0
IsUndotted [] = ⊥
IsUndotted (c ∷ bs) = (c == 46) ≡ false

part_read : (text : List ℕ) (all : List PlainToken) → IsUndotted text → all_items token_at text ≡ Ok (all, []) → part_of text ≡ Ok (Instruction all)
unfolding part_of
part_read [] all dot e = absurd dot
part_read (c ∷ bs) all dot e = rw (dot, e) refl

no_comment : (text : List ℕ) → list_all (λ b. not (b == 59)) text ≡ true → before_first (λ b. b == 59) text ≡ text
no_comment [] h = refl
no_comment (c ∷ text) h =
    let both = and_parts (not (c == 59)) (list_all (λ b. not (b == 59)) text) h in
    ap (λ (b : Bool). take (cond b (1 + position_or_len (λ x. x == 59) text) 0) (c ∷ text)) both.0
    ∙ take_one (position_or_len (λ x. x == 59) text) c text
    ∙ ap (λ (l : List ℕ). c ∷ l) (no_comment text both.1)

line_bytes_of : (behind : Bool) (ts : List Token) → ArePieces ts → list_all is_line_byte (laid_out behind ts) ≡ true
line_bytes_of behind [] h = refl
line_bytes_of behind (Sign c ∷ ts) h = and_from (is_line_byte c) (list_all is_line_byte (laid_out false ts)) (shown_line c h.1) (line_bytes_of false ts h.2)
line_bytes_of true (Word w ∷ ts) h = all_both is_line_byte w (laid_out true ts) (all_weaker is_word is_line_byte word_line w h.1) (line_bytes_of true ts h.2)
line_bytes_of false (Word w ∷ ts) h = all_both is_line_byte w (laid_out true ts) (all_weaker is_word is_line_byte word_line w h.1) (line_bytes_of true ts h.2)

no_comment_in : (behind : Bool) (ts : List Token) → ArePieces ts → list_all (λ b. not (b == 59)) (laid_out behind ts) ≡ true
no_comment_in behind [] h = refl
no_comment_in behind (Sign c ∷ ts) h = and_from (not (c == 59)) (list_all (λ b. not (b == 59)) (laid_out false ts)) (ap not (shown_comment c h.1)) (no_comment_in false ts h.2)
no_comment_in true (Word w ∷ ts) h = all_both (λ b. not (b == 59)) w (laid_out true ts) (all_weaker is_word (λ b. not (b == 59)) (λ c e. ap not (word_comment c e)) w h.1) (no_comment_in true ts h.2)
no_comment_in false (Word w ∷ ts) h = all_both (λ b. not (b == 59)) w (laid_out true ts) (all_weaker is_word (λ b. not (b == 59)) (λ c e. ap not (word_comment c e)) w h.1) (no_comment_in true ts h.2)

-- such a text that doesn't begin with `.`, alone in a line, is read as its pieces, without a label
pub text_line : (ts : List Token) → ArePieces ts → IsUndotted (text_bytes ts) → line_of (text_bytes ts) ≡ Ok ([], Instruction (map plain_token ts))
unfolding line_of
text_line ts h dot =
    let text = text_bytes ts in
    let part = part_read text (map plain_token ts) dot (pieces_read ts h) in
    rw (line_bytes_of false ts h, no_comment text (no_comment_in false ts h), labels_read ts h, part) refl
