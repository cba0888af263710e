-- What stands behind an `@`: what is read, and the spelling.
use Rattle.std.proofs.Common.{◌≡◌, ◌≢◌, ℕ, zero, suc, ◌≤◌, ⊎_elim, Bool, true, false, cond, List, [], ◌∷◌, ◌++◌, drop, Option, Some, None, Result, Ok, Err, refl, sym, ap, ◌∙◌, append_assoc, arith, subst}
use Rattle.std.specs.Prelude.{◌||◌, ◌==◌, codes}
use Rattle.std.specs.List.{list_all}
use Rattle.std.proofs.lemmas.Bool.{and_parts, and_left, eqb-true}
use Rattle.std.proofs.lemmas.Bool.Decides.{nat_tests}
use Rattle.asm_source.specs.declared.flaw.Flaw.{Flaw}
use Rattle.asm_source.specs.declared.flaw.Flaw.TheVariants as flaws
use Rattle.asm_source.specs.declared.operands.Atom.{Atom}
use Rattle.asm_source.specs.declared.operands.Atom.TheVariants.{Value, Symbol}
use Rattle.asm_source.specs.Bytes.{is_digit, is_letter, is_name_byte, is_word, is_name, front_is, front_word, behind_word}
use Rattle.asm_source.specs.Numbers.{number_of}
use Rattle.asm_source.specs.Plain.{PlainSum}
use Rattle.asm_source.specs.Sums.{◌>>=◌, Reading, value_or_bad, word_atom, atom_at, one_term, plus, behind_term, terms_at, inner_at, sum_at, operand_at}
use Rattle.source_grammar.specs.Grammar.{EndsWord, SpellsAtom, named, counted, here, SpellsTerms, one, added, taken, SpellsSum, alone, bracketed, bracketed_minus}
use Rattle.source_grammar.proofs.Runs.{bind_ok, by_test, word_is, front_word_is, behind_word_is, name_all, name_front, front_kept, front_weaker}
use Rattle.source_grammar.proofs.NumberWords.{number_found, number_only, number_all, number_front}

-- ---- terms

digit_letter : (c : ℕ) → is_digit c ≡ true → is_letter c ≡ false
digit_letter c h = grind (arith, nat_tests)

no_name : (word : List ℕ) → front_is is_letter word ≡ false → is_name word ≡ false
no_name [] h = refl
no_name (b ∷ bs) h = and_left _ _ (and_left (is_letter b) (list_all is_name_byte bs) h)

value_found : (word : List ℕ) (a : Atom) (o : Option ℕ) → number_of word ≡ o → value_or_bad o ≡ Ok a → SpellsAtom word a
value_found word a None is e = absurd (cc e)
value_found word a (Some n) is e = let same : Value n ≡ a = (let p : ◌≡◌ {A = Result Atom Flaw} (Ok (Value n)) (Ok a) = e in cc) in subst (SpellsAtom word) same (counted (number_found word n is))

word_found : (word : List ℕ) (a : Atom) → word_atom word ≡ Ok a → SpellsAtom word a
unfolding word_atom
word_found word a e =
    ⊎_elim
    (λ yes. let same : Symbol (Some word) ≡ a = (let p : ◌≡◌ {A = Result Atom Flaw} (Ok (Symbol (Some word))) (Ok a) = yes.1 in cc) in subst (SpellsAtom word) same (named yes.0))
    (λ no. value_found word a (number_of word) refl no.1)
    (by_test (is_name word) (Ok (Symbol (Some word))) (value_or_bad (number_of word)) (Ok a) e)

word_only : {word : List ℕ} {a : Atom} → list_all is_word word ≡ true → SpellsAtom word a → word_atom word ≡ Ok a
unfolding word_atom
word_only all (named {word = w} is) = rw is refl
word_only all (counted {word = w} number) = rw (no_name w (front_weaker is_digit is_letter digit_letter w (number_front number)), number_only number) refl
word_only all here = absurd (let dollar : list_all is_word (codes "$") ≡ true = all in cc dollar)

-- a term at the front of a text
pub record AtomAt (text : List ℕ) (a : Atom) (rest : List ℕ) : Type 0 where
  pub word : List ℕ
  pub is : text ≡ word ++ rest
  pub spelled : SpellsAtom word a

abbrev pub paired : List ℕ → Atom → Reading Atom
paired rest a = Ok (a, rest)

pub atom_found : (text : List ℕ) (a : Atom) (rest : List ℕ) → atom_at text ≡ Ok (a, rest) → AtomAt text a rest
unfolding atom_at
atom_found [] a rest e = absurd (cc e)
atom_found (b ∷ bs) a rest e = ⊎_elim dollar word (by_test (b == 36) (Ok (Symbol None, bs)) (word_atom (front_word (b ∷ bs)) >>= paired (behind_word (b ∷ bs))) (Ok (a, rest)) e)
  where
    dollar : ((b == 36) ≡ true) × (◌≡◌ {A = Reading Atom} (Ok (Symbol None, bs)) (Ok (a, rest))) → AtomAt (b ∷ bs) a rest
    dollar h =
        let first : b ≡ 36 = eqb-true b 36 h.0 in
        let pair : (Symbol None, bs) ≡ (a, rest) = (let p = h.1 in cc) in
        record { word = codes "$"; is = rw first (ap (λ (x : Atom × List ℕ). 36 ∷ x.1) pair); spelled = subst (SpellsAtom (codes "$")) (ap (λ (x : Atom × List ℕ). x.0) pair) here }

    word : ((b == 36) ≡ false) × ((word_atom (front_word (b ∷ bs)) >>= paired (behind_word (b ∷ bs))) ≡ Ok (a, rest)) → AtomAt (b ∷ bs) a rest
    word h =
        let got = bind_ok (word_atom (front_word (b ∷ bs))) (paired (behind_word (b ∷ bs))) (a, rest) h.1 in
        let pair : (got.0, behind_word (b ∷ bs)) ≡ (a, rest) = (let p = got.2 in cc) in
        record {
          word = front_word (b ∷ bs);
          is = word_is (b ∷ bs) ∙ ap (λ (x : Atom × List ℕ). front_word (b ∷ bs) ++ x.1) pair;
          spelled = word_found (front_word (b ∷ bs)) a (got.1 ∙ ap (λ (x : Atom × List ℕ). Ok x.0) pair);
        }

-- what a term begins with
abbrev pub starts_term : ℕ → Bool
starts_term b = is_letter b || (is_digit b || b == 36)

letter_starts : (c : ℕ) → is_letter c ≡ true → starts_term c ≡ true
letter_starts c h = grind (arith, nat_tests)

digit_starts : (c : ℕ) → is_digit c ≡ true → starts_term c ≡ true
digit_starts c h = grind (arith, nat_tests)

front_also : (p q : ℕ → Bool) → ((c : ℕ) → p c ≡ true → q c ≡ true) → (w : List ℕ) → front_is p w ≡ true → front_is q w ≡ true
front_also p q of [] h = absurd (cc h)
front_also p q of (c ∷ w) h = of c h

pub atom_front : {word : List ℕ} {a : Atom} → SpellsAtom word a → front_is starts_term word ≡ true
atom_front (named {word = w} is) = front_also is_letter starts_term letter_starts w (name_front w is)
atom_front (counted {word = w} number) = front_also is_digit starts_term digit_starts w (number_front number)
atom_front here = refl

term_dollar : (text : List ℕ) (a : Atom) → front_is (λ b. b == 36) text ≡ false → word_atom (front_word text) ≡ Ok a → front_word text ≢ [] → atom_at text ≡ Ok (a, behind_word text)
unfolding atom_at
term_dollar [] a free e some = absurd (some refl)
term_dollar (b ∷ bs) a free e some = rw (free, e) refl

letter_dollar : (c : ℕ) → is_word c ≡ true → (c == 36) ≡ false
letter_dollar c h = grind (arith, nat_tests)

word_front : (word rest : List ℕ) → list_all is_word word ≡ true → word ≢ [] → front_is (λ b. b == 36) (word ++ rest) ≡ false
word_front [] rest all some = absurd (some refl)
word_front (c ∷ word) rest all some = letter_dollar c (and_parts (is_word c) (list_all is_word word) all).0

term_word : {word : List ℕ} {a : Atom} (rest : List ℕ) → list_all is_word word ≡ true → word ≢ [] → SpellsAtom word a → EndsWord rest → atom_at (word ++ rest) ≡ Ok (a, rest)
term_word {word} {a} rest all some spelled ends =
    let front : front_word (word ++ rest) ≡ word = front_word_is word rest all ends in
    term_dollar (word ++ rest) a (word_front word rest all some) (ap word_atom front ∙ word_only all spelled) (λ e. some (sym front ∙ e))
    ∙ ap (λ (l : List ℕ). Ok (a, l)) (behind_word_is word rest all ends)

not_empty : (p : ℕ → Bool) (w : List ℕ) → front_is p w ≡ true → w ≢ []
not_empty p [] h = absurd (cc h)
not_empty p (c ∷ w) h = λ e. cc e

pub atom_only : {word : List ℕ} {a : Atom} → SpellsAtom word a → (rest : List ℕ) → EndsWord rest → atom_at (word ++ rest) ≡ Ok (a, rest)
unfolding atom_at
atom_only (named {word = w} is) rest ends = term_word rest (name_all w is) (not_empty is_letter w (name_front w is)) (named is) ends
atom_only (counted {word = w} number) rest ends = term_word rest (number_all number) (not_empty is_digit w (number_front number)) (counted number) ends
atom_only here rest ends = refl

-- ---- terms joined

-- so many terms at most at the front of a text, and a `)` behind them
pub record TermsAt (most : ℕ) (minus : Bool) (text : List ℕ) (s : PlainSum) (rest : List ℕ) : Type 0 where
  pub count : ℕ
  pub within : count ≤ most
  pub inner : List ℕ
  pub is : text ≡ inner ++ (codes ")" ++ rest)
  pub spelled : SpellsTerms count minus inner s

abbrev pub added_up : PlainSum → PlainSum × List ℕ → Reading PlainSum
added_up first s = Ok (plus first s.0, s.1)

-- a pair that is given is this one
pub same_pair : {A : Type 0} (x : A × List ℕ) (a : A) (rest : List ℕ) → ◌≡◌ {A = Reading A} (Ok x) (Ok (a, rest)) → (x.0 ≡ a) × (x.1 ≡ rest)
same_pair x a rest e = let same : x ≡ (a, rest) = cc in (ap (λ y. y.0) same, ap (λ y. y.1) same)

module _ (n : ℕ) (found : (minus : Bool) (text : List ℕ) (s : PlainSum) (rest : List ℕ) → terms_at n minus text ≡ Ok (s, rest) → TermsAt n minus text s rest) (minus : Bool) (text : List ℕ) (a : Atom) (s : PlainSum) (rest : List ℕ) where
  joined : (b : ℕ) (bs : List ℕ) (next : Bool) → AtomAt text a (b ∷ bs) → ((first more : List ℕ) (count : ℕ) (t : PlainSum) → SpellsAtom first a → SpellsTerms count next more t → s ≡ plus (one_term minus a) t → SpellsTerms (suc count) minus (first ++ (b ∷ more)) s)
      → (terms_at n next bs >>= added_up (one_term minus a)) ≡ Ok (s, rest) → TermsAt (suc n) minus text s rest
  joined b bs next at make e =
      let got = bind_ok (terms_at n next bs) (added_up (one_term minus a)) (s, rest) e in
      let pair = same_pair (plus (one_term minus a) got.0.0, got.0.1) s rest got.2 in
      let more : TermsAt n next bs got.0.0 got.0.1 = found next bs got.0.0 got.0.1 got.1 in
      record {
        count = suc more.count;
        within = omega (arith, more.within);
        inner = at.word ++ (b ∷ more.inner);
        is = at.is ∙ ap (λ (l : List ℕ). at.word ++ (b ∷ l)) more.is ∙ ap (λ (l : List ℕ). at.word ++ (b ∷ (more.inner ++ (codes ")" ++ l)))) pair.1 ∙ sym (append_assoc at.word (b ∷ more.inner) (codes ")" ++ rest));
        spelled = make at.word more.inner more.count got.0.0 at.spelled more.spelled (sym pair.0);
      }

  behind_found : (behind : List ℕ) → AtomAt text a behind → behind_term (terms_at n) (one_term minus a) behind ≡ Ok (s, rest) → TermsAt (suc n) minus text s rest
  behind_found [] at e = absurd (cc e)
  behind_found (b ∷ bs) at e =
      ⊎_elim
      (λ end.
      let is : b ≡ 41 = eqb-true b 41 end.0 in
      let pair = same_pair (one_term minus a, bs) s rest end.1 in
      record { count = 1; within = omega arith; inner = at.word; is = at.is ∙ ap (λ (c : ℕ). at.word ++ (c ∷ bs)) is ∙ ap (λ (l : List ℕ). at.word ++ (41 ∷ l)) pair.1; spelled = subst (SpellsTerms 1 minus at.word) pair.0 (one at.spelled) })
      (λ on. ⊎_elim
      (λ plus_sign. let is : b ≡ 43 = eqb-true b 43 plus_sign.0 in
      joined b bs false at (λ first more count t x y z. subst (SpellsTerms (suc count) minus (first ++ (b ∷ more))) (sym z) (added (ap (λ (c : ℕ). first ++ (c ∷ more)) is) x y)) plus_sign.1)
      (λ other. ⊎_elim
      (λ minus_sign. let is : b ≡ 45 = eqb-true b 45 minus_sign.0 in
      joined b bs true at (λ first more count t x y z. subst (SpellsTerms (suc count) minus (first ++ (b ∷ more))) (sym z) (taken (ap (λ (c : ℕ). first ++ (c ∷ more)) is) x y)) minus_sign.1)
      (λ none. absurd (let bad : ◌≡◌ {A = Reading PlainSum} (Err flaws.BadExpression) (Ok (s, rest)) = none.1 in cc))
      (by_test (b == 45) (terms_at n true bs >>= added_up (one_term minus a)) (Err flaws.BadExpression) (Ok (s, rest)) other.1))
      (by_test (b == 43) (terms_at n false bs >>= added_up (one_term minus a)) (cond (b == 45) (terms_at n true bs >>= added_up (one_term minus a)) (Err flaws.BadExpression)) (Ok (s, rest)) on.1))
      (by_test (b == 41) (Ok (one_term minus a, bs)) (cond (b == 43) (terms_at n false bs >>= added_up (one_term minus a)) (cond (b == 45) (terms_at n true bs >>= added_up (one_term minus a)) (Err flaws.BadExpression))) (Ok (s, rest)) e)

pub terms_found : (n : ℕ) (minus : Bool) (text : List ℕ) (s : PlainSum) (rest : List ℕ) → terms_at n minus text ≡ Ok (s, rest) → TermsAt n minus text s rest
unfolding terms_at
terms_found zero minus text s rest e = absurd (cc e)
terms_found (suc n) minus text s rest e =
    let got = bind_ok (atom_at text) (λ a. behind_term (terms_at n) (one_term minus a.0) a.1) (s, rest) e in
    behind_found n (terms_found n) minus text got.0.0 s rest got.0.1 (atom_found text got.0.0 got.0.1 got.1) got.2

term_step : (n : ℕ) (minus : Bool) (text : List ℕ) (a : Atom) (rest : List ℕ) → atom_at text ≡ Ok (a, rest) → terms_at (suc n) minus text ≡ behind_term (terms_at n) (one_term minus a) rest
unfolding terms_at
term_step n minus text a rest e = ap (λ (q : Reading Atom). q >>= λ a. behind_term (terms_at n) (one_term minus a.0) a.1) e

pub terms_only : {k : ℕ} {minus : Bool} {inner : List ℕ} {s : PlainSum} → SpellsTerms k minus inner s → (n : ℕ) → k ≤ n → (rest : List ℕ) → terms_at n minus (inner ++ (codes ")" ++ rest)) ≡ Ok (s, rest)
terms_only (one spelled) zero le rest = absurd (omega arith)
terms_only (one {minus = m} {text = t} {a = a} spelled) (suc n) le rest = term_step n m (t ++ (codes ")" ++ rest)) a (codes ")" ++ rest) (atom_only spelled (codes ")" ++ rest) refl)
terms_only (added split spelled more) zero le rest = absurd (omega arith)
terms_only (added {minus = m} {text = t} {first = f} {rest = r} {a = a} split spelled more) (suc n) le rest =
    ap (terms_at (suc n) m) (ap (λ (l : List ℕ). l ++ (codes ")" ++ rest)) split ∙ append_assoc f (codes "+" ++ r) (codes ")" ++ rest))
    ∙ term_step n m (f ++ (codes "+" ++ (r ++ (codes ")" ++ rest)))) a (codes "+" ++ (r ++ (codes ")" ++ rest))) (atom_only spelled (codes "+" ++ (r ++ (codes ")" ++ rest))) refl)
    ∙ ap (λ (q : Reading PlainSum). q >>= added_up (one_term m a)) (terms_only more n (omega arith) rest)
terms_only (taken split spelled more) zero le rest = absurd (omega arith)
terms_only (taken {minus = m} {text = t} {first = f} {rest = r} {a = a} split spelled more) (suc n) le rest =
    ap (terms_at (suc n) m) (ap (λ (l : List ℕ). l ++ (codes ")" ++ rest)) split ∙ append_assoc f (codes "-" ++ r) (codes ")" ++ rest))
    ∙ term_step n m (f ++ (codes "-" ++ (r ++ (codes ")" ++ rest)))) a (codes "-" ++ (r ++ (codes ")" ++ rest))) (atom_only spelled (codes "-" ++ (r ++ (codes ")" ++ rest))) refl)
    ∙ ap (λ (q : Reading PlainSum). q >>= added_up (one_term m a)) (terms_only more n (omega arith) rest)

-- ---- operands

-- an operand at the front of a text
pub record SumAt (text : List ℕ) (s : PlainSum) (rest : List ℕ) : Type 0 where
  pub word : List ℕ
  pub is : text ≡ word ++ rest
  pub spelled : SpellsSum word s

pub first_is : (c : ℕ) (text : List ℕ) → front_is (λ b. b == c) text ≡ true → text ≡ c ∷ drop 1 text
first_is c [] h = absurd (cc h)
first_is c (b ∷ bs) h = ap (λ (x : ℕ). x ∷ bs) (eqb-true b c h)

closed : (inner rest : List ℕ) → inner ++ (codes ")" ++ rest) ≡ (inner ++ codes ")") ++ rest
closed inner rest = sym (append_assoc inner (codes ")") rest)

inner_found : (text : List ℕ) (s : PlainSum) (rest : List ℕ) → inner_at text ≡ Ok (s, rest) → SumAt (codes "(" ++ text) s rest
unfolding inner_at
inner_found text s rest e =
    ⊎_elim
    (λ minus.
    let at = terms_found 8 true (drop 1 text) s rest minus.1 in
    record {
      word = codes "(-" ++ (at.inner ++ codes ")");
      is = ap (λ (l : List ℕ). codes "(" ++ l) (first_is 45 text minus.0) ∙ ap (λ (l : List ℕ). codes "(-" ++ l) (at.is ∙ closed at.inner rest);
      spelled = bracketed_minus refl at.within at.spelled;
    })
    (λ bare.
    let at = terms_found 8 false text s rest bare.1 in
    record { word = codes "(" ++ (at.inner ++ codes ")"); is = ap (λ (l : List ℕ). codes "(" ++ l) (at.is ∙ closed at.inner rest); spelled = bracketed refl at.within at.spelled })
    (by_test (front_is (λ b. b == 45) text) (terms_at 8 true (drop 1 text)) (terms_at 8 false text) (Ok (s, rest)) e)

abbrev pub term_alone : Atom × List ℕ → Reading PlainSum
term_alone a = Ok (one_term false a.0, a.1)

sum_found : (text : List ℕ) (s : PlainSum) (rest : List ℕ) → sum_at text ≡ Ok (s, rest) → SumAt text s rest
sum_found [] s rest e = absurd (cc e)
sum_found (b ∷ bs) s rest e =
    ⊎_elim
    (λ open_sign.
    let at = inner_found bs s rest open_sign.1 in
    record { word = at.word; is = ap (λ (c : ℕ). c ∷ bs) (eqb-true b 40 open_sign.0) ∙ at.is; spelled = at.spelled })
    (λ bare.
    let got = bind_ok (atom_at (b ∷ bs)) term_alone (s, rest) bare.1 in
    let pair = same_pair (one_term false got.0.0, got.0.1) s rest got.2 in
    let at = atom_found (b ∷ bs) got.0.0 got.0.1 got.1 in
    record { word = at.word; is = at.is ∙ ap (λ (l : List ℕ). at.word ++ l) pair.1; spelled = subst (SpellsSum at.word) pair.0 (alone at.spelled) })
    (by_test (b == 40) (inner_at bs) (atom_at (b ∷ bs) >>= term_alone) (Ok (s, rest)) e)

abbrev pub ended : PlainSum × List ℕ → Reading PlainSum
ended s = cond (front_is is_word s.1) (Err flaws.BadExpression) (Ok s)

pub operand_found : (text : List ℕ) (s : PlainSum) (rest : List ℕ) → operand_at text ≡ Ok (s, rest) → SumAt text s rest × EndsWord rest
unfolding operand_at
operand_found text s rest e =
    let got = bind_ok (sum_at text) ended (s, rest) e in
    ⊎_elim
    (λ word. absurd (let bad : ◌≡◌ {A = Reading PlainSum} (Err flaws.BadExpression) (Ok (s, rest)) = word.1 in cc))
    (λ end.
    let same : got.0 ≡ (s, rest) = (let p : ◌≡◌ {A = Reading PlainSum} (Ok got.0) (Ok (s, rest)) = end.1 in cc) in
    (sum_found text s rest (got.1 ∙ ap (λ (x : PlainSum × List ℕ). Ok x) same), sym (ap (λ (x : PlainSum × List ℕ). front_is is_word x.1) same) ∙ end.0))
    (by_test (front_is is_word got.0.1) (Err flaws.BadExpression) (Ok got.0) (Ok (s, rest)) got.2)

starts_open : (c : ℕ) → starts_term c ≡ true → (c == 40) ≡ false
starts_open c h = grind (arith, nat_tests)

starts_minus : (c : ℕ) → starts_term c ≡ true → (c == 45) ≡ false
starts_minus c h = grind (arith, nat_tests)

pub terms_front : {k : ℕ} {minus : Bool} {inner : List ℕ} {s : PlainSum} → SpellsTerms k minus inner s → front_is starts_term inner ≡ true
terms_front (one spelled) = atom_front spelled
terms_front (added {first = f} {rest = r} split spelled more) = ap (front_is starts_term) split ∙ front_kept starts_term f (codes "+" ++ r) (atom_front spelled)
terms_front (taken {first = f} {rest = r} split spelled more) = ap (front_is starts_term) split ∙ front_kept starts_term f (codes "-" ++ r) (atom_front spelled)

no_open : (text : List ℕ) → front_is (λ b. b == 40) text ≡ false → sum_at text ≡ (atom_at text >>= term_alone)
unfolding atom_at
no_open [] h = refl
no_open (b ∷ bs) h = rw h refl

inner_plain : (text : List ℕ) → front_is (λ b. b == 45) text ≡ false → inner_at text ≡ terms_at 8 false text
unfolding inner_at
inner_plain text h = rw h refl

inner_minus : (text : List ℕ) → inner_at (codes "-" ++ text) ≡ terms_at 8 true text
unfolding inner_at
inner_minus text = refl

pub sum_only : {word : List ℕ} {s : PlainSum} → SpellsSum word s → (rest : List ℕ) → EndsWord rest → sum_at (word ++ rest) ≡ Ok (s, rest)
sum_only (alone {text = w} spelled) rest ends =
    no_open (w ++ rest) (front_weaker starts_term (λ b. b == 40) starts_open (w ++ rest) (front_kept starts_term w rest (atom_front spelled)))
    ∙ ap (λ (q : Reading Atom). q >>= term_alone) (atom_only spelled rest ends)
sum_only (bracketed {inner = i} split within spelled) rest ends =
    ap (λ (l : List ℕ). sum_at (l ++ rest)) split
    ∙ ap inner_at (sym (closed i rest))
    ∙ inner_plain (i ++ (codes ")" ++ rest)) (front_weaker starts_term (λ b. b == 45) starts_minus (i ++ (codes ")" ++ rest)) (front_kept starts_term i (codes ")" ++ rest) (terms_front spelled)))
    ∙ terms_only spelled 8 within rest
sum_only (bracketed_minus {inner = i} split within spelled) rest ends =
    ap (λ (l : List ℕ). sum_at (l ++ rest)) split
    ∙ ap (λ (l : List ℕ). inner_at (codes "-" ++ l)) (sym (closed i rest))
    ∙ inner_minus (i ++ (codes ")" ++ rest))
    ∙ terms_only spelled 8 within rest

pub operand_only : {word : List ℕ} {s : PlainSum} → SpellsSum word s → (rest : List ℕ) → EndsWord rest → operand_at (word ++ rest) ≡ Ok (s, rest)
unfolding operand_at
operand_only spelled rest ends = rw (sum_only spelled rest ends, ends) refl
