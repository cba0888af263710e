-- Directives, parts and lines: what is read, and the spelling.
use Rattle.std.proofs.Common.{◌≡◌, ℕ, ℤ, ◌≤◌, ⊎_elim, true, List, ◌++◌, Option, Some, None, Result, Ok, Err, refl, sym, ap, subst, subst₂, ◌∙◌, arith}
use Rattle.std.specs.Prelude.{◌&&◌, ◌==◌, nat_le, codes}
use Rattle.std.specs.Str.{bytes_eq}
use Rattle.std.specs.List.{list_all, slice_split}
use Rattle.std.proofs.lemmas.Bool.{and_parts}
use Rattle.std.proofs.lemmas.Bool.Decides.{nat_tests}
use Rattle.std.proofs.lemmas.Slice.Eq.{bytes_eq-Decides}
use Rattle.asm_source.specs.declared.flaw.Flaw.{Flaw}
use Rattle.asm_source.specs.declared.flaw.Flaw.TheVariants as flaws
use Rattle.asm_source.specs.Bytes.{is_blank, is_digit, is_name, skip_blanks, front_word, behind_word}
use Rattle.asm_source.specs.Numbers.{number_of}
use Rattle.asm_source.specs.Plain.{PlainValue, PlainPart, Section, Global, Equ, Cells, Space}
use Rattle.asm_source.specs.Sums.{◌>>=◌}
use Rattle.asm_source.specs.Parts.{number_in, name_in, or_bad, equ_of, space_from, space_of, values_of, cells_of, directive_of}
use Rattle.source_grammar.specs.Grammar.{AreBlanks, EndsWord, SpellsNumber, SpellsDirective, section, global, equ, cells, space}
use Rattle.source_grammar.proofs.Runs.{bind_ok, by_test, word_ends, blanks_of, blanks_end, name_all, front_some}
use Rattle.source_grammar.proofs.NumberWords.{number_found, number_only, number_all, number_front}
use Rattle.source_grammar.proofs.ValueTexts.{worded, among_word, among_behind, name_some, name_in_found, name_in_only, number_in_found, number_in_only}
use Rattle.source_grammar.proofs.ValueLists.{values_found, values_only}

abbrev Read : Type 0
Read = Result PlainPart Flaw

pub same_part : (p q : PlainPart) → ◌≡◌ {A = Read} (Ok p) (Ok q) → q ≡ p
same_part p q e = cc

no_part : (f : Flaw) (q : PlainPart) → ◌≡◌ {A = Read} (Err f) (Ok q) → ⊥
no_part f q e = cc

as_directive : {word made rest : List ℕ} {p q : PlainPart} → word ≡ made → p ≡ q → SpellsDirective made rest q → SpellsDirective word rest p
as_directive {rest = rest} is same d = subst₂ (λ (w : List ℕ) (p : PlainPart). SpellsDirective w rest p) (sym is) (sym same) d

as_part : {word rest : List ℕ} {p q : PlainPart} → p ≡ q → SpellsDirective word rest q → SpellsDirective word rest p
as_part {word} {rest} same d = subst (SpellsDirective word rest) (sym same) d

-- ---- directives

equ_found : (text : List ℕ) (p : PlainPart) → equ_of text ≡ Ok p → SpellsDirective (codes ".equ") text p
unfolding equ_of
equ_found text p e = ⊎_elim yes (λ none. absurd (no_part flaws.BadLine p none.1)) (by_test (is_name word) (or_bad (Equ word) (number_in behind)) (Err flaws.BadLine) (Ok p) e)
  where
    word : List ℕ
    word = front_word (skip_blanks text)

    behind : List ℕ
    behind = behind_word (skip_blanks text)

    numbered : (is_name word ≡ true) → (o : Option ℤ) → number_in behind ≡ o → or_bad (Equ word) o ≡ Ok p → SpellsDirective (codes ".equ") text p
    numbered named None is e = absurd (cc e)
    numbered named (Some z) is e = as_part (same_part (Equ word z) p e) (equ (blanks_of text).0 {name = word} {number = behind} (worded text) (blanks_of text).2 named (word_ends (skip_blanks text)) (number_in_found behind z is))

    yes : (is_name word ≡ true) × (or_bad (Equ word) (number_in behind) ≡ Ok p) → SpellsDirective (codes ".equ") text p
    yes h = numbered h.0 (number_in behind) refl h.1

below : (n : ℕ) → nat_le n 1048576 ≡ true → n ≤ 1048576
below n h = grind (arith, nat_tests)

within : (n : ℕ) → n ≤ 1048576 → nat_le n 1048576 ≡ true
within n h = grind (arith, nat_tests)

space_found : (text : List ℕ) (p : PlainPart) → space_of text ≡ Ok p → SpellsDirective (codes ".space") text p
unfolding space_of
space_found text p e = counted (number_of word) refl e
  where
    word : List ℕ
    word = front_word (skip_blanks text)

    behind : List ℕ
    behind = behind_word (skip_blanks text)

    counted : (o : Option ℕ) → number_of word ≡ o → space_from o behind ≡ Ok p → SpellsDirective (codes ".space") text p
    counted None is e = absurd (cc e)
    counted (Some n) is e =
        ⊎_elim
        (λ yes.
        let both = and_parts (nat_le n 1048576) (list_all is_blank behind) yes.0 in
        as_part (same_part (Space n) p yes.1) (space (record { before = (blanks_of text).0; word = word; behind = behind; is = worded text; blank_before = (blanks_of text).2; blank_behind = both.1; spelled = number_found word n is }) (below n both.0)))
        (λ none. absurd (no_part flaws.BadLine p none.1))
        (by_test (nat_le n 1048576 && list_all is_blank behind) (Ok (Space n)) (Err flaws.BadLine) (Ok p) e)

abbrev pub as_section : List ℕ → Read
as_section name = Ok (Section name)

abbrev pub as_global : List ℕ → Read
as_global name = Ok (Global name)

abbrev pub as_cells : List PlainValue → Read
as_cells all = Ok (Cells all)

pub word_same : (a b : List ℕ) → bytes_eq a b ≡ true → a ≡ b
word_same a b e = (bytes_eq-Decides a b).0 e

pub directive_found : (word rest : List ℕ) (p : PlainPart) → directive_of word rest ≡ Ok p → SpellsDirective word rest p
unfolding directive_of
directive_found word rest p e =
    ⊎_elim
    (λ yes. let got = bind_ok (name_in rest) as_section p yes.1 in as_directive (word_same word (codes ".section") yes.0) (same_part (Section got.0) p got.2) (section (name_in_found rest got.0 got.1)))
    (λ a. ⊎_elim
    (λ yes. let got = bind_ok (name_in rest) as_global p yes.1 in as_directive (word_same word (codes ".global") yes.0) (same_part (Global got.0) p got.2) (global (name_in_found rest got.0 got.1)))
    (λ b. ⊎_elim
    (λ yes. subst (λ (w : List ℕ). SpellsDirective w rest p) (sym (word_same word (codes ".equ") yes.0)) (equ_found rest p yes.1))
    (λ c. ⊎_elim
    (λ yes. let got = bind_ok (values_of (slice_split (λ b. b == 44) rest)) as_cells p yes.1 in as_directive (word_same word (codes ".word") yes.0) (same_part (Cells got.0) p got.2) (cells (values_found rest got.0 got.1)))
    (λ d. ⊎_elim
    (λ yes. subst (λ (w : List ℕ). SpellsDirective w rest p) (sym (word_same word (codes ".space") yes.0)) (space_found rest p yes.1))
    (λ none. absurd (no_part flaws.UnknownDirective p none.1))
    (by_test (bytes_eq word (codes ".space")) (space_of rest) (Err flaws.UnknownDirective) (Ok p) d.1))
    (by_test (bytes_eq word (codes ".word")) (cells_of rest) _ (Ok p) c.1))
    (by_test (bytes_eq word (codes ".equ")) (equ_of rest) _ (Ok p) b.1))
    (by_test (bytes_eq word (codes ".global")) (name_in rest >>= as_global) _ (Ok p) a.1))
    (by_test (bytes_eq word (codes ".section")) (name_in rest >>= as_section) _ (Ok p) e)

equ_read : (blanks name number : List ℕ) (z : ℤ) → AreBlanks blanks → is_name name ≡ true → EndsWord number → number_in number ≡ Some z → equ_of (blanks ++ (name ++ number)) ≡ Ok (Equ name z)
unfolding equ_of
equ_read blanks name number z blank named ends is =
    rw (among_word blanks name number blank (name_some name named) (name_all name named) ends, among_behind blanks name number blank (name_some name named) (name_all name named) ends, named, is) refl

space_read : (blanks word behind : List ℕ) (n : ℕ) → AreBlanks blanks → SpellsNumber word n → n ≤ 1048576 → AreBlanks behind → space_of (blanks ++ (word ++ behind)) ≡ Ok (Space n)
unfolding space_of
space_read blanks word behind n blank number le ends =
    let some = front_some is_digit word (number_front number) in
    rw (among_word blanks word behind blank some (number_all number) (blanks_end behind ends), among_behind blanks word behind blank some (number_all number) (blanks_end behind ends), number_only number, within n le, ends) refl

pub directive_only : {word rest : List ℕ} {p : PlainPart} → SpellsDirective word rest p → directive_of word rest ≡ Ok p
unfolding directive_of
directive_only (section m) = ap (λ q. q >>= as_section) (name_in_only m)
directive_only (global m) = ap (λ q. q >>= as_global) (name_in_only m)
directive_only (equ blanks {name = n} {number = number} {z = z} is blank named ends m) = ap equ_of is ∙ equ_read blanks n number z blank named ends (number_in_only m)
directive_only (cells m) = ap (λ q. q >>= as_cells) (values_only m)
directive_only (space {n = n} m le) =
    ap space_of m.is ∙ space_read m.before m.word m.behind n m.blank_before m.spelled le m.blank_behind
