-- What is read of directives, parts and lines that aren't of their form.
use Rattle.std.proofs.Common.{◌≡◌, ◌≢◌, ℕ, ℤ, ◌↔◌, ⊎_elim, true, false, List, [], ◌∷◌, ◌++◌, drop, Option, Some, None, Result, Ok, Err, refl, sym, ap, ◌∙◌}
use Rattle.std.specs.Prelude.{◌&&◌, ◌==◌, nat_le, codes}
use Rattle.std.specs.Str.{bytes_eq}
use Rattle.std.specs.List.{list_all, slice_split, before_first, prefix_len}
use Rattle.std.proofs.lemmas.Bool.{false_from_ne_true, both_ways, eqb-true}
use Rattle.std.proofs.lemmas.Slice.Eq.{bytes_eq-Decides}
use Rattle.asm_source.specs.declared.flaw.Flaw.{Flaw}
use Rattle.asm_source.specs.declared.flaw.Flaw.TheVariants as flaws
use Rattle.asm_source.specs.Bytes.{is_blank, is_word, is_line_byte, is_name, front_is, skip_blanks, front_word, behind_word}
use Rattle.asm_source.specs.Numbers.{number_of}
use Rattle.asm_source.specs.Plain.{PlainToken, Nothing, Equ, Space, Instruction}
use Rattle.asm_source.specs.Sums.{◌>>=◌, Reading}
use Rattle.asm_source.specs.Items.{all_items}
use Rattle.asm_source.specs.Parts.{number_in, name_in, or_bad, equ_of, space_from, space_of, values_of, cells_of, directive_of, token_at, label_at, part_at, part_of, statement_of, line_of}
use Rattle.source_grammar.specs.Grammar.{AreBlanks, EndsWord, Begins}
use Rattle.source_grammar.specs.Refusals.{SpellsMixed, BreaksPart, broken_instruction, broken_cells, UnknownPart, HasUnknownDirective, HasBadExpression, IsBadLine}
use Rattle.source_grammar.proofs.Runs.{bind_err, by_test, other_flaw, not_ok, run_all, run_stops, run_is, word_is, word_all, word_ends, front_word_is, behind_word_is, blanks_of, skipped_all, skip_is, front_kept, front_weaker}
use Rattle.source_grammar.proofs.Chains.{all_found}
use Rattle.source_grammar.proofs.TokenTexts.{takes_token}
use Rattle.source_grammar.proofs.LabelTexts.{takes_label, labels_found}
use Rattle.source_grammar.proofs.PartTexts.{as_section, as_global, as_cells, word_same}
use Rattle.source_grammar.proofs.LineTexts.{as_instruction, dotted, undotted, dot_blank, Said, said, part_behind, unnoted, comment_is, begun, line_found, line_only}
use Rattle.source_grammar.proofs.BrokenTexts.{broken_found, broken_only, tokens_broken, tokens_break, labels_broken}
use Rattle.source_grammar.proofs.BrokenValues.{ValuesErr, bad_values, bad_sums, values_err, mixed_only}

-- ---- directives

name_err : (text : List ℕ) (e : Flaw) → name_in text ≡ Err e → e ≡ flaws.BadLine
unfolding name_in
name_err text e h =
    ⊎_elim
    (λ yes. absurd (not_ok (front_word (skip_blanks text)) e yes.1))
    (λ none. other_flaw _ e none.1)
    (by_test (is_name (front_word (skip_blanks text)) && list_all is_blank (behind_word (skip_blanks text))) (Ok (front_word (skip_blanks text))) (Err flaws.BadLine) (Err e) h)

equ_number_err : (word : List ℕ) (o : Option ℤ) (e : Flaw) → or_bad (Equ word) o ≡ Err e → e ≡ flaws.BadLine
equ_number_err word None e h = other_flaw _ e h
equ_number_err word (Some z) e h = absurd (not_ok (Equ word z) e h)

equ_err : (text : List ℕ) (e : Flaw) → equ_of text ≡ Err e → e ≡ flaws.BadLine
unfolding equ_of
equ_err text e h =
    ⊎_elim
    (λ yes. equ_number_err (front_word (skip_blanks text)) (number_in (behind_word (skip_blanks text))) e yes.1)
    (λ none. other_flaw _ e none.1)
    (by_test (is_name (front_word (skip_blanks text))) (or_bad (Equ (front_word (skip_blanks text))) (number_in (behind_word (skip_blanks text)))) (Err flaws.BadLine) (Err e) h)

space_from_err : (o : Option ℕ) (rest : List ℕ) (e : Flaw) → space_from o rest ≡ Err e → e ≡ flaws.BadLine
space_from_err None rest e h = other_flaw _ e h
space_from_err (Some n) rest e h =
    ⊎_elim (λ yes. absurd (not_ok (Space n) e yes.1)) (λ none. other_flaw _ e none.1) (by_test (nat_le n 1048576 && list_all is_blank rest) (Ok (Space n)) (Err flaws.BadLine) (Err e) h)

space_err : (text : List ℕ) (e : Flaw) → space_of text ≡ Err e → e ≡ flaws.BadLine
unfolding space_of
space_err text e h = space_from_err (number_of (front_word (skip_blanks text))) (behind_word (skip_blanks text)) e h

-- why a directive isn't read
data DirectiveErr (word rest : List ℕ) (e : Flaw) : Type 0 where
  bad_directive : e ≡ flaws.BadLine → DirectiveErr word rest e
  unknown_directive : e ≡ flaws.UnknownDirective → word ≢ codes ".section" → word ≢ codes ".global" → word ≢ codes ".equ" → word ≢ codes ".word" → word ≢ codes ".space" → DirectiveErr word rest e
  bad_cells : e ≡ flaws.BadExpression → word ≡ codes ".word" → SpellsMixed true rest → DirectiveErr word rest e

of_values : (word rest : List ℕ) (e : Flaw) → word ≡ codes ".word" → ValuesErr rest e → DirectiveErr word rest e
of_values word rest e is (bad_values same) = bad_directive same
of_values word rest e is (bad_sums same mixed) = bad_cells same is mixed

other_word : (a b : List ℕ) → bytes_eq a b ≡ false → a ≢ b
other_word a b off = λ same. both_ways (bytes_eq a b) off ((bytes_eq-Decides a b).1 same)

directive_err : (word rest : List ℕ) (e : Flaw) → directive_of word rest ≡ Err e → DirectiveErr word rest e
unfolding directive_of
directive_err word rest e h =
    ⊎_elim
    (λ yes. ⊎_elim (λ bad. bad_directive (name_err rest e bad)) (λ got. absurd (not_ok _ e got.2)) (bind_err (name_in rest) as_section e yes.1))
    (λ a. ⊎_elim
    (λ yes. ⊎_elim (λ bad. bad_directive (name_err rest e bad)) (λ got. absurd (not_ok _ e got.2)) (bind_err (name_in rest) as_global e yes.1))
    (λ b. ⊎_elim
    (λ yes. bad_directive (equ_err rest e yes.1))
    (λ c. ⊎_elim
    (λ yes. ⊎_elim
    (λ bad. of_values word rest e (word_same word (codes ".word") yes.0) (values_err rest e bad))
    (λ got. absurd (not_ok _ e got.2))
    (bind_err (values_of (slice_split (λ b. b == 44) rest)) as_cells e yes.1))
    (λ d. ⊎_elim
    (λ yes. bad_directive (space_err rest e yes.1))
    (λ none. unknown_directive (other_flaw _ e none.1) (other_word word (codes ".section") a.0) (other_word word (codes ".global") b.0) (other_word word (codes ".equ") c.0) (other_word word (codes ".word") d.0) (other_word word (codes ".space") none.0))
    (by_test (bytes_eq word (codes ".space")) (space_of rest) (Err flaws.UnknownDirective) (Err e) d.1))
    (by_test (bytes_eq word (codes ".word")) (cells_of rest) _ (Err e) c.1))
    (by_test (bytes_eq word (codes ".equ")) (equ_of rest) _ (Err e) b.1))
    (by_test (bytes_eq word (codes ".global")) (name_in rest >>= as_global) _ (Err e) a.1))
    (by_test (bytes_eq word (codes ".section")) (name_in rest >>= as_section) _ (Err e) h)

differs : (a b : List ℕ) → a ≢ b → bytes_eq a b ≡ false
differs a b other = false_from_ne_true (bytes_eq a b) (λ e. other (word_same a b e))

unknown_read : (word rest : List ℕ) → word ≢ codes ".section" → word ≢ codes ".global" → word ≢ codes ".equ" → word ≢ codes ".word" → word ≢ codes ".space" → directive_of word rest ≡ Err flaws.UnknownDirective
unfolding directive_of
unknown_read word rest a b c d e = rw (differs word (codes ".section") a, differs word (codes ".global") b, differs word (codes ".equ") c, differs word (codes ".word") d, differs word (codes ".space") e) refl

cells_read : (rest : List ℕ) → SpellsMixed true rest → directive_of (codes ".word") rest ≡ Err flaws.BadExpression
unfolding directive_of
cells_read rest m = ap (λ q. q >>= as_cells) (mixed_only m)

-- ---- parts

-- why what stands behind the labels isn't read
data PartErr (behind : List ℕ) (e : Flaw) : Type 0 where
  bad_part : e ≡ flaws.BadLine → PartErr behind e
  unknown_part : e ≡ flaws.UnknownDirective → UnknownPart behind → PartErr behind e
  broken_part : e ≡ flaws.BadExpression → BreaksPart behind → PartErr behind e

of_directive : (behind blanks word rest : List ℕ) (e : Flaw) → behind ≡ blanks ++ (word ++ rest) → AreBlanks blanks → list_all is_word word ≡ true → EndsWord rest → front_is (λ b. b == 46) word ≡ true → DirectiveErr word rest e → PartErr behind e
of_directive behind blanks word rest e split blank all ends dot (bad_directive is) = bad_part is
of_directive behind blanks word rest e split blank all ends dot (unknown_directive is a b c d f) =
    unknown_part is (record { blanks = blanks; word = word; rest = rest; is = split; blank = blank; all = all; ends = ends; dot = dot; no_section = a; no_global = b; no_equ = c; no_word = d; no_space = f })
of_directive behind blanks word rest e split blank all ends dot (bad_cells is same mixed) =
    broken_part is (broken_cells blanks (split ∙ ap (λ (w : List ℕ). blanks ++ (w ++ rest)) same) blank ends mixed)

dot_front : (b : ℕ) (bs : List ℕ) → (b == 46) ≡ true → front_is (λ b. b == 46) (front_word (b ∷ bs)) ≡ true
dot_front b bs h = front_of (front_word (b ∷ bs)) (behind_word (b ∷ bs)) (word_is (b ∷ bs)) (word_ends (b ∷ bs))
  where
    front_of : (w r : List ℕ) → b ∷ bs ≡ w ++ r → EndsWord r → front_is (λ b. b == 46) w ≡ true
    front_of [] r is ends = absurd (both_ways (front_is is_word r) ends (sym (ap (front_is is_word) is) ∙ ap is_word (eqb-true b 46 h)))
    front_of (c ∷ w) r is ends = sym (ap (front_is (λ b. b == 46)) is) ∙ h

err_at : (behind text : List ℕ) (e : Flaw) → skip_blanks behind ≡ text → part_at text ≡ Err e → PartErr behind e
err_at behind [] e is h = absurd (not_ok Nothing e h)
err_at behind (b ∷ bs) e is h =
    let blanks = blanks_of behind in
    let split : behind ≡ blanks.0 ++ (b ∷ bs) = blanks.1 ∙ ap (λ (l : List ℕ). blanks.0 ++ l) is in
    ⊎_elim
    (λ dot.
    of_directive behind blanks.0 (front_word (b ∷ bs)) (behind_word (b ∷ bs)) e (split ∙ ap (λ (l : List ℕ). blanks.0 ++ l) (word_is (b ∷ bs))) blanks.2 (word_all (b ∷ bs)) (word_ends (b ∷ bs)) (dot_front b bs dot.0)
    (directive_err (front_word (b ∷ bs)) (behind_word (b ∷ bs)) e dot.1))
    (λ other. ⊎_elim
    (λ bad.
    let t = tokens_broken (broken_found token_at (b ∷ bs) e bad) in
    broken_part t.0 (broken_instruction blanks.0 split blanks.2 (sym (ap (front_is is_blank) is) ∙ skipped_all behind) other.0 t.1))
    (λ got. absurd (not_ok (Instruction got.0.0) e got.2))
    (bind_err (all_items token_at (b ∷ bs)) as_instruction e other.1))
    (by_test (b == 46) (directive_of (front_word (b ∷ bs)) (behind_word (b ∷ bs))) (all_items token_at (b ∷ bs) >>= as_instruction) (Err e) h)

part_err : (behind : List ℕ) (e : Flaw) → part_of (skip_blanks behind) ≡ Err e → PartErr behind e
unfolding part_of
part_err behind e h = err_at behind (skip_blanks behind) e refl h

directed : (blanks word rest : List ℕ) → AreBlanks blanks → list_all is_word word ≡ true → EndsWord rest → front_is (λ b. b == 46) word ≡ true → part_of (skip_blanks (blanks ++ (word ++ rest))) ≡ directive_of word rest
directed blanks word rest blank all ends dot =
    let front : front_is (λ b. b == 46) (word ++ rest) ≡ true = front_kept (λ b. b == 46) word rest dot in
    ap part_of (skip_is blanks (word ++ rest) blank (front_weaker (λ b. b == 46) is_blank dot_blank (word ++ rest) front))
    ∙ dotted (word ++ rest) front
    ∙ ap (λ (l : List ℕ). directive_of l (behind_word (word ++ rest))) (front_word_is word rest all ends)
    ∙ ap (directive_of word) (behind_word_is word rest all ends)

unknown_only : {behind : List ℕ} → UnknownPart behind → part_of (skip_blanks behind) ≡ Err flaws.UnknownDirective
unknown_only u =
    ap (λ (l : List ℕ). part_of (skip_blanks l)) u.is ∙ directed u.blanks u.word u.rest u.blank u.all u.ends u.dot
    ∙ unknown_read u.word u.rest u.no_section u.no_global u.no_equ u.no_word u.no_space

breaks_only : {behind : List ℕ} → BreaksPart behind → part_of (skip_blanks behind) ≡ Err flaws.BadExpression
breaks_only (broken_instruction blanks {rest = r} {b = b} split blank first free broken) =
    ap (λ (l : List ℕ). part_of (skip_blanks l)) split ∙ ap part_of (skip_is blanks (b ∷ r) blank first) ∙ undotted b r free
    ∙ ap (λ (q : Reading (List PlainToken)). q >>= as_instruction) (broken_only token_at takes_token (tokens_break broken))
breaks_only (broken_cells blanks {rest = r} split blank ends mixed) =
    ap (λ (l : List ℕ). part_of (skip_blanks l)) split ∙ directed blanks (codes ".word") r blank refl ends refl ∙ cells_read r mixed

-- ---- lines

-- why a line isn't read
data LineErr (line : List ℕ) (e : Flaw) : Type 0 where
  bad_line : e ≡ flaws.BadLine → LineErr line e
  unknown_line : e ≡ flaws.UnknownDirective → HasUnknownDirective line → LineErr line e
  broken_line : e ≡ flaws.BadExpression → HasBadExpression line → LineErr line e

of_part : (line : List ℕ) (labels : List (List ℕ)) (behind : List ℕ) (e : Flaw) → Begins line labels behind → PartErr behind e → LineErr line e
of_part line labels behind e begins (bad_part is) = bad_line is
of_part line labels behind e begins (unknown_part is u) = unknown_line is (record { labels = labels; behind = behind; begins = begins; breaks = u })
of_part line labels behind e begins (broken_part is b) = broken_line is (record { labels = labels; behind = behind; begins = begins; breaks = b })

line_err : (line : List ℕ) (e : Flaw) → line_of line ≡ Err e → LineErr line e
unfolding line_of
line_err line e h = ⊎_elim printable (λ none. bad_line (other_flaw _ e none.1)) (by_test (list_all is_line_byte line) (statement_of text) (Err flaws.BadLine) (Err e) h)
  where
    text : List ℕ
    text = before_first (λ b. b == 59) line

    comment : List ℕ
    comment = drop (prefix_len unnoted line) line

    behind_labels : (list_all is_line_byte line ≡ true) → (x : List (List ℕ) × List ℕ) → all_items label_at text ≡ Ok x → part_behind x ≡ Err e → LineErr line e
    behind_labels all x is bad =
        let at = labels_found (all_found label_at takes_label text x.0 x.1 is) in
        ⊎_elim
        (λ part. of_part line x.0 at.behind e
        (record {
          front = at.front;
          comment = comment;
          is = run_is unnoted line ∙ ap (λ (l : List ℕ). l ++ comment) at.is;
          printable = all;
          uncommented = sym (ap (list_all unnoted) at.is) ∙ run_all unnoted line;
          noted = comment_is comment (run_stops unnoted line);
          labelled = at.labelled;
          no_more = at.no_more;
        })
        (part_err at.behind e (ap part_of (sym at.rest_is) ∙ part)))
        (λ got. absurd (not_ok (x.0, got.0) e got.2))
        (bind_err (part_of x.1) (said x.0) e bad)

    printable : (list_all is_line_byte line ≡ true) × (statement_of text ≡ Err e) → LineErr line e
    printable is =
        ⊎_elim
        (λ bad. bad_line (labels_broken (broken_found label_at text e bad)))
        (λ got. behind_labels is.0 got.0 got.1 got.2)
        (bind_err (all_items label_at text) part_behind e is.1)

unknown_of : {line : List ℕ} {e : Flaw} → LineErr line e → e ≡ flaws.UnknownDirective → HasUnknownDirective line
unknown_of (bad_line is) e = absurd (cc (is, e))
unknown_of (unknown_line is u) e = u
unknown_of (broken_line is b) e = absurd (cc (is, e))

broken_of : {line : List ℕ} {e : Flaw} → LineErr line e → e ≡ flaws.BadExpression → HasBadExpression line
broken_of (bad_line is) e = absurd (cc (is, e))
broken_of (unknown_line is u) e = absurd (cc (is, e))
broken_of (broken_line is b) e = b

unknown_line_read : {line : List ℕ} → HasUnknownDirective line → line_of line ≡ Err flaws.UnknownDirective
unknown_line_read u = begun u.begins (Err flaws.UnknownDirective) (unknown_only u.breaks)

broken_line_read : {line : List ℕ} → HasBadExpression line → line_of line ≡ Err flaws.BadExpression
broken_line_read b = begun b.begins (Err flaws.BadExpression) (breaks_only b.breaks)

pub unknown_lines : (line : List ℕ) → (line_of line ≡ Err flaws.UnknownDirective) ↔ HasUnknownDirective line
unknown_lines line = (λ h. unknown_of (line_err line flaws.UnknownDirective h) refl, λ u. unknown_line_read u)

pub broken_lines : (line : List ℕ) → (line_of line ≡ Err flaws.BadExpression) ↔ HasBadExpression line
broken_lines line = (λ h. broken_of (line_err line flaws.BadExpression h) refl, λ b. broken_line_read b)

bad_of : {line : List ℕ} {e : Flaw} → IsBadLine line → LineErr line e → e ≡ flaws.BadLine
bad_of bad (bad_line is) = is
bad_of bad (unknown_line is u) = absurd (bad.no_unknown u)
bad_of bad (broken_line is b) = absurd (bad.no_bad_expression b)

bad_read : (line : List ℕ) (r : Result Said Flaw) → line_of line ≡ r → IsBadLine line → line_of line ≡ Err flaws.BadLine
bad_read line (Ok x) is bad = absurd (bad.no_spelling x.0 x.1 (line_found line x.0 x.1 is))
bad_read line (Err e) is bad = is ∙ ap (λ (f : Flaw). Err f) (bad_of bad (line_err line e is))

two_flaws : (line : List ℕ) (f g : Flaw) → line_of line ≡ Err f → line_of line ≡ Err g → g ≡ f
two_flaws line f g a b = other_flaw f g (sym a ∙ b)

pub bad_lines : (line : List ℕ) → (line_of line ≡ Err flaws.BadLine) ↔ IsBadLine line
bad_lines line = (
  λ h. record {
    no_spelling = λ labels part s. not_ok (labels, part) flaws.BadLine (sym (line_only s) ∙ h);
    no_unknown = λ u. (let same = two_flaws line flaws.UnknownDirective flaws.BadLine (unknown_line_read u) h in cc);
    no_bad_expression = λ b. (let same = two_flaws line flaws.BadExpression flaws.BadLine (broken_line_read b) h in cc);
  },
  λ bad. bad_read line (line_of line) refl bad,
)

no_other : {line : List ℕ} {e : Flaw} → LineErr line e → e ≡ flaws.NoMemory → ⊥
no_other (bad_line is) e = cc (is, e)
no_other (unknown_line is u) e = cc (is, e)
no_other (broken_line is b) e = cc (is, e)

pub no_other_flaw : (line : List ℕ) → line_of line ≢ Err flaws.NoMemory
no_other_flaw line = λ h. no_other (line_err line flaws.NoMemory h) refl
