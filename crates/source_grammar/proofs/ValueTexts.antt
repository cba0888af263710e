-- Names, numbers and values that stand alone among blanks: what is read, and the spelling.
use Rattle.std.proofs.Common.{◌≡◌, ℕ, ℤ, ◌<◌, ⊎_elim, Bool, true, false, cond, List, [], ◌∷◌, ◌++◌, length, drop, Option, Some, None, Result, Ok, Err, refl, sym, ap, subst, ◌∙◌, append_assoc, arith}
use Rattle.std.specs.Prelude.{◌&&◌, ◌==◌, codes}
use Rattle.std.specs.List.{list_all}
use Rattle.std.proofs.lemmas.Bool.{and_parts, eqb-true}
use Rattle.std.proofs.lemmas.Bool.Decides.{nat_tests}
use Rattle.asm_source.specs.declared.flaw.Flaw.{Flaw}
use Rattle.asm_source.specs.declared.flaw.Flaw.TheVariants as flaws
use Rattle.asm_source.specs.Bytes.{is_blank, is_digit, is_letter, is_word, is_name, front_is, skip_blanks, front_word, behind_word}
use Rattle.asm_source.specs.Numbers.{number_of, signed}
use Rattle.asm_source.specs.Plain.{PlainSum, PlainValue, Number, Added}
use Rattle.asm_source.specs.Sums.{◌>>=◌, operand_at}
use Rattle.asm_source.specs.Parts.{with_sign, signed_word, alone, number_at, number_in, name_in, or_bad, cell_at, cell_of}
use Rattle.source_grammar.specs.Grammar.{AreBlanks, EndsWord, Among, SpellsNumber, SpellsSigned, positive, negative, SpellsName, SpellsValue, plain, summed}
use Rattle.source_grammar.proofs.Runs.{bind_ok, by_test, all_both, word_is, front_word_is, behind_word_is, blanks_of, skip_is, word_blank, blanks_end, name_all, name_front, front_some, front_kept, front_weaker}
use Rattle.source_grammar.proofs.NumberWords.{number_found, number_only, number_all, number_front}
use Rattle.source_grammar.proofs.SumTexts.{first_is, operand_found, operand_only}

-- ---- a word among blanks

pub word_front : (word rest : List ℕ) → 0 < length word → list_all is_word word ≡ true → front_is is_blank (word ++ rest) ≡ false
word_front [] rest some all = absurd (omega arith)
word_front (c ∷ word) rest some all = word_blank c (and_parts (is_word c) (list_all is_word word) all).0

-- a text as blanks, the word behind them, and what follows it
pub worded : (text : List ℕ) → text ≡ (blanks_of text).0 ++ (front_word (skip_blanks text) ++ behind_word (skip_blanks text))
worded text = let b = blanks_of text in b.1 ∙ ap (λ (l : List ℕ). b.0 ++ l) (word_is (skip_blanks text))

module _ (blanks word behind : List ℕ) (blank : AreBlanks blanks) (some : 0 < length word) (all : list_all is_word word ≡ true) (ends : EndsWord behind) where
  pub among_word : front_word (skip_blanks (blanks ++ (word ++ behind))) ≡ word
  among_word = ap front_word (skip_is blanks (word ++ behind) blank (word_front word behind some all)) ∙ front_word_is word behind all ends

  pub among_behind : behind_word (skip_blanks (blanks ++ (word ++ behind))) ≡ behind
  among_behind = ap behind_word (skip_is blanks (word ++ behind) blank (word_front word behind some all)) ∙ behind_word_is word behind all ends

pub name_some : (name : List ℕ) → is_name name ≡ true → 0 < length name
name_some name h = front_some is_letter name (name_front name h)

-- ---- names

pub name_in_found : (text name : List ℕ) → name_in text ≡ Ok name → Among SpellsName text name
unfolding name_in
name_in_found text name e =
    ⊎_elim
    (λ yes.
    let both = and_parts (is_name (front_word (skip_blanks text))) (list_all is_blank (behind_word (skip_blanks text))) yes.0 in
    let same : ◌≡◌ {A = Result (List ℕ) Flaw} (Ok (front_word (skip_blanks text))) (Ok name) = yes.1 in
    record {
      before = (blanks_of text).0;
      word = front_word (skip_blanks text);
      behind = behind_word (skip_blanks text);
      is = worded text;
      blank_before = (blanks_of text).2;
      blank_behind = both.1;
      spelled = (both.0, let is : name ≡ front_word (skip_blanks text) = cc in is);
    })
    (λ none. absurd (let bad : ◌≡◌ {A = Result (List ℕ) Flaw} (Err flaws.BadLine) (Ok name) = none.1 in cc))
    (by_test (is_name (front_word (skip_blanks text)) && list_all is_blank (behind_word (skip_blanks text))) (Ok (front_word (skip_blanks text))) (Err flaws.BadLine) (Ok name) e)

pub name_in_only : {text name : List ℕ} → Among SpellsName text name → name_in text ≡ Ok name
unfolding name_in
name_in_only {text} {name} m =
    let some = name_some m.word m.spelled.0 in
    let all = name_all m.word m.spelled.0 in
    let ends = blanks_end m.behind m.blank_behind in
    let front : front_word (skip_blanks text) ≡ m.word = ap (λ (l : List ℕ). front_word (skip_blanks l)) m.is ∙ among_word m.before m.word m.behind m.blank_before some all ends in
    let behind : behind_word (skip_blanks text) ≡ m.behind = ap (λ (l : List ℕ). behind_word (skip_blanks l)) m.is ∙ among_behind m.before m.word m.behind m.blank_before some all ends in
    rw (front, behind, m.spelled.0, m.blank_behind, m.spelled.1) refl

-- ---- numbers with a sign

-- a number with a sign at the front of a text
record SignedAt (text : List ℕ) (z : ℤ) (rest : List ℕ) : Type 0 where
  word : List ℕ
  is : text ≡ word ++ rest
  spelled : SpellsSigned word z

same_signed : (x : ℤ × List ℕ) (z : ℤ) (rest : List ℕ) → ◌≡◌ {A = Option (ℤ × List ℕ)} (Some x) (Some (z, rest)) → (x.0 ≡ z) × (x.1 ≡ rest)
same_signed x z rest e = let same : x ≡ (z, rest) = cc in (ap (λ y. y.0) same, ap (λ y. y.1) same)

record CountedAt (minus : Bool) (text : List ℕ) (z : ℤ) (rest : List ℕ) : Type 0 where
  n : ℕ
  counts : SpellsNumber (front_word text) n
  same : z ≡ signed minus n
  behind : rest ≡ behind_word text

counted_found : (minus : Bool) (text : List ℕ) (z : ℤ) (rest : List ℕ) (o : Option ℕ) → number_of (front_word text) ≡ o → with_sign minus (behind_word text) o ≡ Some (z, rest) → CountedAt minus text z rest
counted_found minus text z rest None is e = absurd (cc e)
counted_found minus text z rest (Some n) is e =
    let pair = same_signed (signed minus n, behind_word text) z rest e in
    record { n = n; counts = number_found (front_word text) n is; same = sym pair.0; behind = sym pair.1 }

signed_found : (text : List ℕ) (z : ℤ) (rest : List ℕ) → number_at text ≡ Some (z, rest) → SignedAt text z rest
signed_found text z rest e =
    ⊎_elim
    (λ minus.
    let at = counted_found true (drop 1 text) z rest (number_of (front_word (drop 1 text))) refl minus.1 in
    record {
      word = codes "-" ++ front_word (drop 1 text);
      is = first_is 45 text minus.0 ∙ ap (λ (l : List ℕ). codes "-" ++ l) (word_is (drop 1 text) ∙ ap (λ (l : List ℕ). front_word (drop 1 text) ++ l) (sym at.behind));
      spelled = subst (SpellsSigned (codes "-" ++ front_word (drop 1 text))) (sym at.same) (negative refl at.counts);
    })
    (λ bare.
    let at = counted_found false text z rest (number_of (front_word text)) refl bare.1 in
    record { word = front_word text; is = word_is text ∙ ap (λ (l : List ℕ). front_word text ++ l) (sym at.behind); spelled = subst (SpellsSigned (front_word text)) (sym at.same) (positive at.counts) })
    (by_test (front_is (λ b. b == 45) text) (signed_word true (drop 1 text)) (signed_word false text) (Some (z, rest)) e)

alone_found : (text : List ℕ) (z : ℤ) (o : Option (ℤ × List ℕ)) → number_at (skip_blanks text) ≡ o → alone o ≡ Some z → Among SpellsSigned text z
alone_found text z None is e = absurd (cc e)
alone_found text z (Some x) is e =
    ⊎_elim
    (λ yes.
    let at = signed_found (skip_blanks text) x.0 x.1 is in
    let b = blanks_of text in
    let same : x.0 ≡ z = (let p : ◌≡◌ {A = Option ℤ} (Some x.0) (Some z) = yes.1 in cc) in
    record { before = b.0; word = at.word; behind = x.1; is = b.1 ∙ ap (λ (l : List ℕ). b.0 ++ l) at.is; blank_before = b.2; blank_behind = yes.0; spelled = subst (SpellsSigned at.word) same at.spelled })
    (λ none. absurd (let bad : ◌≡◌ {A = Option ℤ} None (Some z) = none.1 in cc))
    (by_test (list_all is_blank x.1) (Some x.0) None (Some z) e)

pub number_in_found : (text : List ℕ) (z : ℤ) → number_in text ≡ Some z → Among SpellsSigned text z
unfolding number_in
number_in_found text z e = alone_found text z (number_at (skip_blanks text)) refl e

digit_minus : (c : ℕ) → is_digit c ≡ true → (c == 45) ≡ false
digit_minus c h = grind (arith, nat_tests)

counted_read : (minus : Bool) (digits rest : List ℕ) (n : ℕ) → SpellsNumber digits n → EndsWord rest → signed_word minus (digits ++ rest) ≡ Some (signed minus n, rest)
counted_read minus digits rest n number ends = rw (front_word_is digits rest (number_all number) ends, behind_word_is digits rest (number_all number) ends, number_only number) refl

bare_read : (text : List ℕ) → front_is (λ b. b == 45) text ≡ false → number_at text ≡ signed_word false text
bare_read text h = rw h refl

pub signed_only : {word : List ℕ} {z : ℤ} → SpellsSigned word z → (rest : List ℕ) → EndsWord rest → number_at (word ++ rest) ≡ Some (z, rest)
signed_only (positive {word = w} {n = n} number) rest ends =
    bare_read (w ++ rest) (front_weaker is_digit (λ b. b == 45) digit_minus (w ++ rest) (front_kept is_digit w rest (number_front number)))
    ∙ counted_read false w rest n number ends
signed_only (negative {digits = ds} {n = n} split number) rest ends =
    ap (λ (l : List ℕ). number_at (l ++ rest)) split ∙ counted_read true ds rest n number ends

digit_blank : (c : ℕ) → is_digit c ≡ true → is_blank c ≡ false
digit_blank c h = grind (arith, nat_tests)

pub signed_front : {word : List ℕ} {z : ℤ} → SpellsSigned word z → (rest : List ℕ) → front_is is_blank (word ++ rest) ≡ false
signed_front (positive {word = w} number) rest = front_weaker is_digit is_blank digit_blank (w ++ rest) (front_kept is_digit w rest (number_front number))
signed_front (negative split number) rest = ap (λ (l : List ℕ). front_is is_blank (l ++ rest)) split

alone_read : (z : ℤ) (rest : List ℕ) → AreBlanks rest → alone (Some (z, rest)) ≡ Some z
alone_read z rest h = rw h refl

pub number_in_only : {text : List ℕ} {z : ℤ} → Among SpellsSigned text z → number_in text ≡ Some z
unfolding number_in
number_in_only {z = z} m =
    ap (λ (l : List ℕ). alone (number_at (skip_blanks l))) m.is
    ∙ ap (λ (l : List ℕ). alone (number_at l)) (skip_is m.before (m.word ++ m.behind) m.blank_before (signed_front m.spelled m.behind))
    ∙ ap alone (signed_only m.spelled m.behind (blanks_end m.behind m.blank_behind))
    ∙ alone_read z m.behind m.blank_behind

-- ---- values

abbrev Value : Type 0
Value = Result PlainValue Flaw

-- what is spelled behind blanks, with more blanks before it
pub more_blanks : {A : Type 0} (Spells : List ℕ → A → Type 0) (text rest : List ℕ) (a : A) (blanks : List ℕ) → text ≡ blanks ++ rest → AreBlanks blanks → Among Spells rest a → Among Spells text a
more_blanks Spells text rest a blanks is blank m = record {
  before = blanks ++ m.before;
  word = m.word;
  behind = m.behind;
  is = is ∙ ap (λ (l : List ℕ). blanks ++ l) m.is ∙ sym (append_assoc blanks m.before (m.word ++ m.behind));
  blank_before = all_both is_blank blanks m.before blank m.blank_before;
  blank_behind = m.blank_behind;
  spelled = m.spelled;
}

pub with_spelled : {A B : Type 0} {Spells : List ℕ → A → Type 0} {Says : List ℕ → B → Type 0} {text : List ℕ} {a : A} {b : B} → ((word : List ℕ) → Spells word a → Says word b) → Among Spells text a → Among Says text b
with_spelled make m = record { before = m.before; word = m.word; behind = m.behind; is = m.is; blank_before = m.blank_before; blank_behind = m.blank_behind; spelled = make m.word m.spelled }

abbrev pub lone : PlainSum × List ℕ → Value
lone s = cond (list_all is_blank s.1) (Ok (Added s.0)) (Err flaws.BadLine)

plain_found : (text : List ℕ) (v : PlainValue) (o : Option ℤ) → number_in text ≡ o → or_bad Number o ≡ Ok v → Among SpellsValue text v
plain_found text v None is e = absurd (cc e)
plain_found text v (Some z) is e =
    let same : Number z ≡ v = (let p : ◌≡◌ {A = Value} (Ok (Number z)) (Ok v) = e in cc) in
    with_spelled (λ word spelled. subst (SpellsValue word) same (plain spelled)) (number_in_found text z is)

cell_at_found : (text : List ℕ) (v : PlainValue) → cell_at text ≡ Ok v → Among SpellsValue text v
cell_at_found [] v e = absurd (cc e)
cell_at_found (b ∷ bs) v e =
    ⊎_elim
    (λ at_sign.
    let got = bind_ok (operand_at bs) lone v at_sign.1 in
    ⊎_elim
    (λ yes.
    let at = operand_found bs got.0.0 got.0.1 got.1 in
    let same : Added got.0.0 ≡ v = (let p : ◌≡◌ {A = Value} (Ok (Added got.0.0)) (Ok v) = yes.1 in cc) in
    record {
      before = [];
      word = codes "@" ++ at.0.word;
      behind = got.0.1;
      is = ap (λ (c : ℕ). c ∷ bs) (eqb-true b 64 at_sign.0) ∙ ap (λ (l : List ℕ). codes "@" ++ l) at.0.is;
      blank_before = refl;
      blank_behind = yes.0;
      spelled = subst (SpellsValue (codes "@" ++ at.0.word)) same (summed refl at.0.spelled);
    })
    (λ none. absurd (let bad : ◌≡◌ {A = Value} (Err flaws.BadLine) (Ok v) = none.1 in cc))
    (by_test (list_all is_blank got.0.1) (Ok (Added got.0.0)) (Err flaws.BadLine) (Ok v) got.2))
    (λ bare. plain_found (b ∷ bs) v (number_in (b ∷ bs)) refl bare.1)
    (by_test (b == 64) (operand_at bs >>= lone) (or_bad Number (number_in (b ∷ bs))) (Ok v) e)

pub cell_found : (text : List ℕ) (v : PlainValue) → cell_of text ≡ Ok v → Among SpellsValue text v
unfolding cell_of
cell_found text v e = let b = blanks_of text in more_blanks SpellsValue text (skip_blanks text) v b.0 b.1 b.2 (cell_at_found (skip_blanks text) v e)

-- a number's text begins with no `@`
digit_at : (c : ℕ) → is_digit c ≡ true → (c == 64) ≡ false
digit_at c h = grind (arith, nat_tests)

signed_at : {word : List ℕ} {z : ℤ} → SpellsSigned word z → (rest : List ℕ) → front_is (λ b. b == 64) (word ++ rest) ≡ false
signed_at (positive {word = w} number) rest = front_weaker is_digit (λ b. b == 64) digit_at (w ++ rest) (front_kept is_digit w rest (number_front number))
signed_at (negative split number) rest = ap (λ (l : List ℕ). front_is (λ b. b == 64) (l ++ rest)) split

no_number : number_in [] ≡ None
unfolding number_in number_of
no_number = refl

bare_cell : (text : List ℕ) (z : ℤ) → front_is (λ b. b == 64) text ≡ false → number_in text ≡ Some z → cell_at text ≡ Ok (Number z)
bare_cell [] z h e = absurd (let empty = no_number in cc)
bare_cell (b ∷ bs) z h e = rw (h, e) refl

lone_read : (s : PlainSum) (rest : List ℕ) → AreBlanks rest → lone (s, rest) ≡ Ok (Added s)
lone_read s rest h = rw h refl

value_read : {word : List ℕ} {v : PlainValue} → SpellsValue word v → (rest : List ℕ) → AreBlanks rest → cell_at (word ++ rest) ≡ Ok v
value_read (plain {word = w} {z = z} spelled) rest blank =
    bare_cell (w ++ rest) z (signed_at spelled rest) (number_in_only (record { before = []; word = w; behind = rest; is = refl; blank_before = refl; blank_behind = blank; spelled = spelled }))
value_read (summed {s = s} split spelled) rest blank =
    ap (λ (l : List ℕ). cell_at (l ++ rest)) split ∙ ap (λ q. q >>= lone) (operand_only spelled rest (blanks_end rest blank)) ∙ lone_read s rest blank

value_front : {word : List ℕ} {v : PlainValue} → SpellsValue word v → (rest : List ℕ) → front_is is_blank (word ++ rest) ≡ false
value_front (plain spelled) rest = signed_front spelled rest
value_front (summed split spelled) rest = ap (λ (l : List ℕ). front_is is_blank (l ++ rest)) split

pub cell_only : {text : List ℕ} {v : PlainValue} → Among SpellsValue text v → cell_of text ≡ Ok v
unfolding cell_of
cell_only m =
    ap (λ (l : List ℕ). cell_at (skip_blanks l)) m.is
    ∙ ap cell_at (skip_is m.before (m.word ++ m.behind) m.blank_before (value_front m.spelled m.behind))
    ∙ value_read m.spelled m.behind m.blank_behind
