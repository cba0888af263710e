-- Texts are made of pieces that may stand in a line, where the strings of the syntax are.
use Rattle.std.proofs.Common.{◌≡◌, ◌≢◌, ◌≤◌, ◌++◌, ◌&&◌, ◌==◌, ℕ, zero, suc, List, [], ◌∷◌, Bool, true, false, cond, map, refl, sym, subst, arith, nat_eq, nat_lt}
use Rattle.std.specs.Prelude.{slice_index_or}
use Rattle.std.specs.List.{list_all, AllByRecursion}
use Rattle.std.proofs.lemmas.Bool.{and_parts, and_from, ltb-true}
use Rattle.std.proofs.lemmas.Bool.Decides.{nat_tests}
use Rattle.lisa_tree.specs.Tokens.{is_in_string}
use Rattle.asm_source.specs.Bytes.{is_word}
use Rattle.instruction_trees.specs.Trees.{Table, coding, Tree, Done, Pass, Value, Choose}
use Rattle.instruction_texts.specs.declared.shapes.Shape.{Shape}
use Rattle.instruction_texts.specs.declared.shapes.Shape.TheVariants.{Other, Literal, Unsigned, Signed}
use Rattle.instruction_texts.specs.declared.shapes.Token.{Token}
use Rattle.instruction_texts.specs.declared.shapes.Token.TheVariants.{Word, Sign}
use Rattle.instruction_texts.specs.Runs.{digit, base_of, all_digits, is_plain}
use Rattle.instruction_texts.specs.Shapes.{zero_x, lead, before_sign, Spells, end, other, literal, unsigned, positive, negative}
use Rattle.instruction_texts.specs.Symbols.{Kind, Decimal, WithSign, Hexadecimal, Content, Text, Number, Part, Element, Sym, Byte, Gap, Shown, own_fields, shown_at, text_sym, written_by, gap, others, assemble, parts_of, symbols, flush_shape, gather, starts_dot, is_dotted, has_pieces}
use Rattle.instruction_texts.specs.Written.{laid_out, text_bytes}
use Rattle.lisa_syntax.proofs.LineBytes.{is_shown, ArePieces, IsUndotted, all_both}

-- ---- symbols

-- each byte may stand in a text
abbrev pub AreShown : {V : Type 0} → List (Sym V) → Type 0
AreShown [] = Unit {0}
AreShown (Byte c ∷ s) = (is_shown c ≡ true) × AreShown s
AreShown (Gap ∷ s) = AreShown s
AreShown (Shown kind n v ∷ s) = AreShown s

-- a string has bytes that a description's strings may have
abbrev pub IsInStrings : Content → Type 0
IsInStrings (Text bs) = list_all is_in_string bs ≡ true
IsInStrings _ = Unit {0}

abbrev pub IsOfStrings : Element → Type 0
IsOfStrings e = IsInStrings e.content

string_shown : (c : ℕ) → is_in_string c ≡ true → nat_eq c 32 ≡ false → is_shown c ≡ true
string_shown c h blank = grind (arith, nat_tests)

shown_text : (V : Type 0) (bs : List ℕ) → list_all is_in_string bs ≡ true → AreShown {V = V} (map text_sym bs)
shown_text V [] h = tt
shown_text V (b ∷ bs) h = (let both = and_parts (is_in_string b) (list_all is_in_string bs) h in by (nat_eq b 32) refl both.0 (shown_text V bs both.1))
  where
    by : (c : Bool) → nat_eq b 32 ≡ c → is_in_string b ≡ true → AreShown {V = V} (map text_sym bs) → AreShown {V = V} (cond {A = Sym V} c Gap (Byte b) ∷ map text_sym bs)
    by true e in_string more = more
    by false e in_string more = (string_shown b in_string e, more)

shown_gap : (V : Type 0) (b : Bool) → AreShown {V = V} (gap b)
shown_gap V true = tt
shown_gap V false = tt

module _ {V : Type 0} where
  shown_both : (xs ys : List (Sym V)) → AreShown xs → AreShown ys → AreShown (xs ++ ys)
  shown_both [] ys h g = g
  shown_both (Byte c ∷ xs) ys h g = (h.0, shown_both xs ys h.1 g)
  shown_both (Gap ∷ xs) ys h g = shown_both xs ys h g
  shown_both (Shown kind n v ∷ xs) ys h g = shown_both xs ys h g

  shown_field : (kind : Kind) (k : ℕ) (fields : List (ℕ × V)) → AreShown (shown_at kind k fields)
  shown_field kind k [] = tt
  shown_field kind zero (f ∷ fields) = tt
  shown_field kind (suc k) (f ∷ fields) = shown_field kind k fields

  shown_part : (parts : List (List (Sym V))) (k : ℕ) → AllByRecursion AreShown parts → AreShown (slice_index_or parts k [])
  shown_part [] k h = tt
  shown_part (p ∷ parts) zero h = h.0
  shown_part (p ∷ parts) (suc k) h = shown_part parts k h.1

  module _ (fields : List (ℕ × V)) (parts : List (List (Sym V))) (all : AllByRecursion AreShown parts) where
    shown_written : (c : Content) → IsInStrings c → AreShown (written_by fields parts c)
    shown_written (Text bs) h = shown_text V bs h
    shown_written (Number kind k) h = shown_field kind k fields
    shown_written (Part k) h = shown_part parts k all

    shown_others : (es : List Element) → AllByRecursion IsOfStrings es → AreShown (others fields parts es)
    shown_others [] h = tt
    shown_others (e ∷ es) h = shown_both (gap e.joined) (written_by fields parts e.content ++ others fields parts es) (shown_gap V e.joined) (shown_both (written_by fields parts e.content) (others fields parts es) (shown_written e.content h.0) (shown_others es h.1))

    shown_assembled : (es : List Element) → AllByRecursion IsOfStrings es → AreShown (assemble fields parts es)
    shown_assembled [] h = tt
    shown_assembled (e ∷ es) h = shown_both (written_by fields parts e.content) (others fields parts es) (shown_written e.content h.0) (shown_others es h.1)

  module _ (table : Table) (syntax : List (List Element)) (strings : (k : ℕ) → AllByRecursion IsOfStrings (slice_index_or syntax k [])) where
    shown_parts : (t : Tree V) → AllByRecursion AreShown (parts_of table syntax t)
    shown_parts Done = tt
    shown_parts (Pass t) = shown_parts t
    shown_parts (Value v t) = shown_parts t
    shown_parts (Choose k own t) = (shown_assembled (own_fields own (coding table k)) (parts_of table syntax own) (shown_parts own) (slice_index_or syntax k []) (strings k), shown_parts t)

    pub symbols_shown : (k : ℕ) (t : Tree V) → AreShown (symbols table syntax k t)
    symbols_shown k t = shown_assembled (own_fields t (coding table k)) (parts_of table syntax t) (shown_parts t) (slice_index_or syntax k []) (strings k)

-- ---- shapes

-- runs are of word characters, and what is no run may stand in a text
abbrev pub MayStand : Shape → Type 0
MayStand (Other c) = (is_word c ≡ false) × (is_shown c ≡ true)
MayStand (Literal p) = (p ≢ []) × (list_all is_word p ≡ true)
MayStand (Unsigned hex p n) = list_all is_word p ≡ true
MayStand (Signed p n) = list_all is_word p ≡ true

some_run : (c : ℕ) (p : List ℕ) → (c ∷ p) ≢ []
some_run c p e = cc e

flushed : (p : List ℕ) (ss : List Shape) → list_all is_word p ≡ true → AllByRecursion MayStand ss → AllByRecursion MayStand (flush_shape p ss)
flushed [] ss run all = all
flushed (c ∷ p) ss run all = ((some_run c p, run), all)

module _ {V : Type 0} where
  pub shapes_stand : (p : List ℕ) (s : List (Sym V)) → list_all is_word p ≡ true → AreShown s → AllByRecursion MayStand (gather p s)
  shapes_stand p [] run h = flushed p [] run tt
  shapes_stand p (Gap ∷ s) run h = flushed p (gather [] s) run (shapes_stand [] s refl h)
  shapes_stand p (Byte c ∷ s) run h = by (is_word c) refl (λ longer. shapes_stand (p ++ c ∷ []) s longer h.1) (shapes_stand [] s refl h.1)
    where
      by : (b : Bool) → is_word c ≡ b → (list_all is_word (p ++ c ∷ []) ≡ true → AllByRecursion MayStand (gather (p ++ c ∷ []) s)) → AllByRecursion MayStand (gather [] s)
          → AllByRecursion MayStand (cond b (gather (p ++ c ∷ []) s) (flush_shape p (Other c ∷ gather [] s)))
      by true e longer apart = longer (all_both is_word p (c ∷ []) run (and_from (is_word c) true e refl))
      by false e longer apart = flushed p (Other c ∷ gather [] s) run ((e, h.0), apart)
  shapes_stand p (Shown Decimal n v ∷ s) run h = (run, shapes_stand [] s refl h)
  shapes_stand p (Shown Hexadecimal n v ∷ s) run h = (run, shapes_stand [] s refl h)
  shapes_stand p (Shown WithSign n v ∷ s) run h = (run, shapes_stand [] s refl h)

-- ---- texts

digit_word : (base c : ℕ) → base ≤ 16 → nat_lt (digit c) base ≡ true → is_word c ≡ true
digit_word base c le h = grind (arith, nat_tests, ltb-true)

digits_word : (base : ℕ) → base ≤ 16 → (cs : List ℕ) → all_digits base cs ≡ true → list_all is_word cs ≡ true
digits_word base le [] h = refl
digits_word base le (c ∷ cs) h =
    let both = and_parts (nat_lt (digit c) base) (all_digits base cs) h in
    and_from (is_word c) (list_all is_word cs) (digit_word base c le both.0) (digits_word base le cs both.1)

base_small : (hex : Bool) → base_of hex ≤ 16
base_small true = omega arith
base_small false = omega arith

-- the digits of a number: some, and all of them word characters
record AreDigits (cs : List ℕ) : Type 0 where
  some : cs ≢ []
  words : list_all is_word cs ≡ true

some_digit : (cs : List ℕ) → is_plain cs ≡ true → cs ≢ []
some_digit [] h = absurd (cc h)
some_digit (c ∷ cs) h = some_run c cs

digits_are : (hex : Bool) (cs : List ℕ) (rest : Bool) → ((all_digits (base_of hex) cs && is_plain cs) && rest) ≡ true → AreDigits cs
digits_are hex cs rest h =
    let first = and_parts (all_digits (base_of hex) cs && is_plain cs) rest h in
    let both = and_parts (all_digits (base_of hex) cs) (is_plain cs) first.0 in
    record { some = some_digit cs both.1; words = digits_word (base_of hex) (base_small hex) cs both.0 }

behind : (p cs : List ℕ) → cs ≢ [] → (p ++ cs) ≢ []
behind [] cs some = some
behind (c ∷ p) cs some = some_run c (p ++ cs)

lead_word : (hex : Bool) (p : List ℕ) → list_all is_word p ≡ true → list_all is_word (lead hex p) ≡ true
lead_word true p run = all_both is_word p zero_x run refl
lead_word false p run = run

run_stands : (p cs : List ℕ) (ts : List Token) → list_all is_word p ≡ true → AreDigits cs → ArePieces ts → ArePieces (Word (p ++ cs) ∷ ts)
run_stands p cs ts run digits more = (behind p cs digits.some, all_both is_word p cs run digits.words, more)

sign_stands : (p cs : List ℕ) (ts : List Token) → list_all is_word p ≡ true → AreDigits cs → ArePieces ts → ArePieces (before_sign p (Sign 45 ∷ Word cs ∷ ts))
sign_stands [] cs ts run digits more = (refl, refl, (digits.some, digits.words, more))
sign_stands (c ∷ p) cs ts run digits more = (some_run c p, run, (refl, refl, (digits.some, digits.words, more)))

pub pieces_stand : {ss : List Shape} {vs : List ℕ} {ts : List Token} → Spells ss vs ts → AllByRecursion MayStand ss → ArePieces ts
pieces_stand end h = tt
pieces_stand (other s) h = (h.0.0, h.0.1, pieces_stand s h.1)
pieces_stand (literal s) h = (h.0.0, h.0.1, pieces_stand s h.1)
pieces_stand (unsigned {hex = hex} {p = p} cs {ts = ts} e v s is) h = subst ArePieces (sym is) (run_stands (lead hex p) cs ts (lead_word hex p h.0) (digits_are hex cs _ e) (pieces_stand s h.1))
pieces_stand (positive {p = p} cs {ts = ts} e v s is) h = subst ArePieces (sym is) (run_stands p cs ts h.0 (digits_are false cs _ e) (pieces_stand s h.1))
pieces_stand (negative {p = p} cs {ts = ts} e v s is) h = subst ArePieces (sym is) (sign_stands p cs ts h.0 (digits_are false cs _ e) (pieces_stand s h.1))

-- ---- the first byte

no_dot : (c : ℕ) → is_word c ≡ false → (c == 46) ≡ false
no_dot c h = grind (arith, nat_tests)

plain_digit : (base c : ℕ) → base ≤ 16 → nat_lt (digit c) base ≡ true → (c == 46) ≡ false
plain_digit base c le h = grind (arith, nat_tests, ltb-true)

digits_undotted : (hex : Bool) (cs more : List ℕ) (rest : Bool) → ((all_digits (base_of hex) cs && is_plain cs) && rest) ≡ true → IsUndotted (cs ++ more)
digits_undotted hex [] more rest h = absurd (cc h)
digits_undotted hex (c ∷ cs) more rest h =
    let first = and_parts (all_digits (base_of hex) (c ∷ cs) && is_plain (c ∷ cs)) rest h in
    let both = and_parts (all_digits (base_of hex) (c ∷ cs)) (is_plain (c ∷ cs)) first.0 in
    plain_digit (base_of hex) c (base_small hex) (and_parts (nat_lt (digit c) (base_of hex)) (all_digits (base_of hex) cs) both.0).0

run_undotted : (p more : List ℕ) → IsUndotted more → starts_dot p ≡ false → IsUndotted (p ++ more)
run_undotted [] more h e = h
run_undotted (c ∷ p) more h e = e

-- the first run of a text, and what follows it
front_undotted : (hex : Bool) (p cs more : List ℕ) (rest : Bool) → ((all_digits (base_of hex) cs && is_plain cs) && rest) ≡ true → starts_dot p ≡ false → IsUndotted ((lead hex p ++ cs) ++ more)
front_undotted true [] cs more rest e undotted = refl
front_undotted false [] cs more rest e undotted = digits_undotted false cs more rest e
front_undotted true (c ∷ p) cs more rest e undotted = undotted
front_undotted false (c ∷ p) cs more rest e undotted = undotted

sign_undotted : (p cs : List ℕ) (ts : List Token) → starts_dot p ≡ false → IsUndotted (text_bytes (before_sign p (Sign 45 ∷ Word cs ∷ ts)))
sign_undotted [] cs ts undotted = refl
sign_undotted (c ∷ p) cs ts undotted = undotted

literal_undotted : (p : List ℕ) (ts : List Token) → p ≢ [] → starts_dot p ≡ false → IsUndotted (text_bytes (Word p ∷ ts))
literal_undotted [] ts some undotted = absurd (some refl)
literal_undotted (c ∷ p) ts some undotted = undotted

pub text_undotted : {ss : List Shape} {vs : List ℕ} {ts : List Token} → Spells ss vs ts → AllByRecursion MayStand ss → has_pieces ss ≡ true → is_dotted ss ≡ false → IsUndotted (text_bytes ts)
text_undotted end h some undotted = absurd (cc some)
text_undotted (other {c = c} s) h some undotted = no_dot c h.0.0
text_undotted (literal {p = p} {ts = ts} s) h some undotted = literal_undotted p ts h.0.0 undotted
text_undotted (unsigned {hex = hex} {p = p} cs {ts = ts} e v s is) h some undotted = subst (λ (us : List Token). IsUndotted (text_bytes us)) (sym is) (front_undotted hex p cs (laid_out true ts) _ e undotted)
text_undotted (positive {p = p} cs {ts = ts} e v s is) h some undotted = subst (λ (us : List Token). IsUndotted (text_bytes us)) (sym is) (front_undotted false p cs (laid_out true ts) _ e undotted)
text_undotted (negative {p = p} cs {ts = ts} e v s is) h some undotted = subst (λ (us : List Token). IsUndotted (text_bytes us)) (sym is) (sign_undotted p cs ts undotted)
