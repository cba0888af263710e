-- Values between commas: what is read, and the spelling.
use Rattle.std.proofs.Common.{◌≡◌, ℕ, ℤ, Bool, true, false, not, List, [], ◌∷◌, ◌++◌, Result, Ok, Err, refl, sym, ap, subst, ◌∙◌, arith}
use Rattle.std.specs.Prelude.{◌==◌, codes}
use Rattle.std.specs.List.{list_all, slice_split, onto_first}
use Rattle.std.proofs.lemmas.Bool.{and_parts, and_from, eqb-true, not-true, not_from_false}
use Rattle.std.proofs.lemmas.Bool.Decides.{nat_tests}
use Rattle.std.proofs.lemmas.List.Splits.{slice_split-cons_yes, slice_split-cons_no}
use Rattle.asm_source.specs.declared.flaw.Flaw.{Flaw}
use Rattle.asm_source.specs.declared.flaw.Flaw.TheVariants as flaws
use Rattle.asm_source.specs.declared.operands.Atom.{Atom}
use Rattle.asm_source.specs.Bytes.{is_blank, is_word}
use Rattle.asm_source.specs.Plain.{PlainSum, PlainValue}
use Rattle.asm_source.specs.Parts.{cell_of, past_expression, value_and, values_of}
use Rattle.source_grammar.specs.Grammar.{Among, SpellsSigned, positive, negative, SpellsAtom, named, counted, here, SpellsTerms, one, added, taken, SpellsSum, alone, bracketed, bracketed_minus, SpellsValue, plain, summed, SpellsValues, one_value, value}
use Rattle.source_grammar.proofs.Runs.{bind_ok, all_weaker, all_both, name_all}
use Rattle.source_grammar.proofs.NumberWords.{number_all}
use Rattle.source_grammar.proofs.ValueTexts.{cell_found, cell_only}

-- ---- no comma in a value

abbrev pub uncut : ℕ → Bool
uncut b = not (b == 44)

word_uncut : (c : ℕ) → is_word c ≡ true → uncut c ≡ true
word_uncut c h = grind (arith, nat_tests)

blank_uncut : (c : ℕ) → is_blank c ≡ true → uncut c ≡ true
blank_uncut c h = grind (arith, nat_tests)

words_uncut : (w : List ℕ) → list_all is_word w ≡ true → list_all uncut w ≡ true
words_uncut w h = all_weaker is_word uncut word_uncut w h

signed_uncut : {word : List ℕ} {z : ℤ} → SpellsSigned word z → list_all uncut word ≡ true
signed_uncut (positive {word = w} number) = words_uncut w (number_all number)
signed_uncut (negative {digits = ds} split number) = ap (list_all uncut) split ∙ words_uncut ds (number_all number)

atom_uncut : {word : List ℕ} {a : Atom} → SpellsAtom word a → list_all uncut word ≡ true
atom_uncut (named {word = w} is) = words_uncut w (name_all w is)
atom_uncut (counted {word = w} number) = words_uncut w (number_all number)
atom_uncut here = refl

terms_uncut : {k : ℕ} {minus : Bool} {inner : List ℕ} {s : PlainSum} → SpellsTerms k minus inner s → list_all uncut inner ≡ true
terms_uncut (one spelled) = atom_uncut spelled
terms_uncut (added {first = f} {rest = r} split spelled more) = ap (list_all uncut) split ∙ all_both uncut f (codes "+" ++ r) (atom_uncut spelled) (terms_uncut more)
terms_uncut (taken {first = f} {rest = r} split spelled more) = ap (list_all uncut) split ∙ all_both uncut f (codes "-" ++ r) (atom_uncut spelled) (terms_uncut more)

sum_uncut : {word : List ℕ} {s : PlainSum} → SpellsSum word s → list_all uncut word ≡ true
sum_uncut (alone spelled) = atom_uncut spelled
sum_uncut (bracketed {inner = i} split within spelled) = ap (list_all uncut) split ∙ all_both uncut i (codes ")") (terms_uncut spelled) refl
sum_uncut (bracketed_minus {inner = i} split within spelled) = ap (list_all uncut) split ∙ all_both uncut i (codes ")") (terms_uncut spelled) refl

value_uncut : {word : List ℕ} {v : PlainValue} → SpellsValue word v → list_all uncut word ≡ true
value_uncut (plain spelled) = signed_uncut spelled
value_uncut (summed split spelled) = ap (list_all uncut) split ∙ sum_uncut spelled

pub among_uncut : {text : List ℕ} {v : PlainValue} → Among SpellsValue text v → list_all uncut text ≡ true
among_uncut m =
    ap (list_all uncut) m.is
    ∙ all_both uncut m.before (m.word ++ m.behind) (all_weaker is_blank uncut blank_uncut m.before m.blank_before)
    (all_both uncut m.word m.behind (value_uncut m.spelled) (all_weaker is_blank uncut blank_uncut m.behind m.blank_behind))

-- ---- a text and its parts

-- parts with commas between them
pub data Cuts : List ℕ → List (List ℕ) → Type 0 where
  whole : {text : List ℕ} {parts : List (List ℕ)} → list_all uncut text ≡ true → parts ≡ text ∷ [] → Cuts text parts
  cut : {text first rest : List ℕ} {parts more : List (List ℕ)} → list_all uncut first ≡ true → text ≡ first ++ (codes "," ++ rest) → Cuts rest more → parts ≡ first ∷ more → Cuts text parts

abbrev pub parts_of : List ℕ → List (List ℕ)
parts_of text = slice_split (λ b. b == 44) text

longer : (c : ℕ) {text : List ℕ} {parts : List (List ℕ)} → uncut c ≡ true → Cuts text parts → Cuts (c ∷ text) (onto_first c parts)
longer c {text} u (whole all e) = whole (and_from (uncut c) (list_all uncut text) u all) (ap (onto_first c) e)
longer c u (cut {first = f} all split more e) = cut (and_from (uncut c) (list_all uncut f) u all) (ap (λ (l : List ℕ). c ∷ l) split) more (ap (onto_first c) e)

pub cuts_of : (text : List ℕ) → Cuts text (parts_of text)
cuts_of [] = whole refl refl
cuts_of (c ∷ text) = by (c == 44) refl (cuts_of text)
  where
    by : (b : Bool) → (c == 44) ≡ b → Cuts text (parts_of text) → Cuts (c ∷ text) (parts_of (c ∷ text))
    by true e more = cut {first = []} {rest = text} refl (ap (λ (x : ℕ). x ∷ text) (eqb-true c 44 e)) more (slice_split-cons_yes (λ b. b == 44) c text e)
    by false e more = subst (Cuts (c ∷ text)) (sym (slice_split-cons_no (λ b. b == 44) c text e)) (longer c (not_from_false (c == 44) e) more)

pub one_part : (text : List ℕ) → list_all uncut text ≡ true → parts_of text ≡ text ∷ []
one_part [] h = refl
one_part (c ∷ text) h =
    let p = and_parts (uncut c) (list_all uncut text) h in
    slice_split-cons_no (λ b. b == 44) c text (not-true (c == 44) p.0) ∙ ap (onto_first c) (one_part text p.1)

pub first_part : (first rest : List ℕ) → list_all uncut first ≡ true → parts_of (first ++ (codes "," ++ rest)) ≡ first ∷ parts_of rest
first_part [] rest h = slice_split-cons_yes (λ b. b == 44) 44 rest refl
first_part (c ∷ first) rest h =
    let p = and_parts (uncut c) (list_all uncut first) h in
    slice_split-cons_no (λ b. b == 44) c (first ++ (codes "," ++ rest)) (not-true (c == 44) p.0) ∙ ap (onto_first c) (first_part first rest p.1)

-- ---- all values

abbrev Values : Type 0
Values = Result (List PlainValue) Flaw

abbrev pub onto : PlainValue → List PlainValue → Values
onto v all = Ok (v ∷ all)

-- a first value and further ones
record FirstOf (text : List ℕ) (texts : List (List ℕ)) (vs : List PlainValue) : Type 0 where
  v : PlainValue
  more : List PlainValue
  first : cell_of text ≡ Ok v
  behind : values_of texts ≡ Ok more
  is : vs ≡ v ∷ more

spoiled : (r : Values) (vs : List PlainValue) → past_expression r ≡ Ok vs → ⊥
spoiled (Ok x) vs e = cc
spoiled (Err x) vs e = cc

first_found : (text : List ℕ) (texts : List (List ℕ)) (vs : List PlainValue) (r : Result PlainValue Flaw) → cell_of text ≡ r → value_and r (values_of texts) ≡ Ok vs → FirstOf text texts vs
first_found text texts vs (Ok v) is e =
    let got = bind_ok (values_of texts) (onto v) vs e in
    record { v = v; more = got.0; first = is; behind = got.1; is = (let p : ◌≡◌ {A = Values} (Ok (v ∷ got.0)) (Ok vs) = got.2 in let same : vs ≡ v ∷ got.0 = cc in same) }
first_found text texts vs (Err flaws.BadExpression) is e = absurd (spoiled (values_of texts) vs e)
first_found text texts vs (Err flaws.BadLine) is e = absurd (cc e)
first_found text texts vs (Err flaws.UnknownDirective) is e = absurd (cc e)
first_found text texts vs (Err flaws.NoMemory) is e = absurd (cc e)

values_first : (text : List ℕ) (texts : List (List ℕ)) (vs : List PlainValue) → values_of (text ∷ texts) ≡ Ok vs → FirstOf text texts vs
unfolding values_of
values_first text texts vs e = first_found text texts vs (cell_of text) refl e

values_none : (vs : List PlainValue) → values_of [] ≡ Ok vs → vs ≡ []
unfolding values_of
values_none vs e = let p : ◌≡◌ {A = Values} (Ok []) (Ok vs) = e in cc

pub values_step : (text : List ℕ) (texts : List (List ℕ)) (v : PlainValue) (more : List PlainValue) → cell_of text ≡ Ok v → values_of texts ≡ Ok more → values_of (text ∷ texts) ≡ Ok (v ∷ more)
unfolding values_of
values_step text texts v more e f = rw (e, f) refl

pub no_values : values_of [] ≡ Ok []
unfolding values_of
no_values = refl

pub cuts_found : {text : List ℕ} {parts : List (List ℕ)} → Cuts text parts → (vs : List PlainValue) → values_of parts ≡ Ok vs → SpellsValues text vs
cuts_found (whole {text = text} all e) vs is =
    let f = values_first text [] vs (ap values_of (sym e) ∙ is) in
    subst (SpellsValues text) (sym (f.is ∙ ap (λ (l : List PlainValue). f.v ∷ l) (values_none f.more f.behind))) (one_value (cell_found text f.v f.first))
cuts_found (cut {first = first} {more = parts} all split more e) vs is =
    let f = values_first first parts vs (ap values_of (sym e) ∙ is) in
    subst (SpellsValues _) (sym f.is) (value split (cell_found first f.v f.first) (cuts_found more f.more f.behind))

pub values_found : (text : List ℕ) (vs : List PlainValue) → values_of (slice_split (λ b. b == 44) text) ≡ Ok vs → SpellsValues text vs
values_found text vs e = cuts_found (cuts_of text) vs e

pub values_only : {text : List ℕ} {vs : List PlainValue} → SpellsValues text vs → values_of (slice_split (λ b. b == 44) text) ≡ Ok vs
values_only (one_value {text = text} {v = v} m) = ap values_of (one_part text (among_uncut m)) ∙ values_step text [] v [] (cell_only m) no_values
values_only (value {first = first} {rest = rest} {v = v} {vs = vs} split m more) =
    ap (λ (l : List ℕ). values_of (parts_of l)) split ∙ ap values_of (first_part first rest (among_uncut m))
    ∙ values_step first (parts_of rest) v vs (cell_only m) (values_only more)
