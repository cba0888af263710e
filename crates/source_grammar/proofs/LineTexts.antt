-- Parts and lines: what is read, and the spelling.
use Rattle.std.proofs.Common.{◌≡◌, ℕ, ⊎_elim, Bool, true, false, not, List, [], ◌∷◌, ◌++◌, drop, Result, Ok, Err, refl, sym, ap, subst, ◌∙◌}
use Rattle.std.specs.Prelude.{◌==◌}
use Rattle.std.specs.List.{list_all, before_first, prefix_len}
use Rattle.std.proofs.lemmas.Bool.{eqb-true, not-false}
use Rattle.std.proofs.lemmas.List.{append-nil}
use Rattle.asm_source.specs.declared.flaw.Flaw.{Flaw}
use Rattle.asm_source.specs.declared.flaw.Flaw.TheVariants as flaws
use Rattle.asm_source.specs.Bytes.{is_blank, is_line_byte, front_is, skip_blanks, front_word, behind_word}
use Rattle.asm_source.specs.Plain.{PlainToken, PlainPart, Nothing, Instruction}
use Rattle.asm_source.specs.Sums.{◌>>=◌, Reading}
use Rattle.asm_source.specs.Items.{all_items}
use Rattle.asm_source.specs.Parts.{directive_of, token_at, label_at, part_at, part_of, statement_of, line_of}
use Rattle.source_grammar.specs.Grammar.{SpellsLabels, SpellsDirective, section, global, equ, cells, space, SpellsPart, nothing, directive, instruction, IsComment, no_comment, note, Begins, SpellsLine}
use Rattle.source_grammar.proofs.Runs.{bind_ok, by_test, run_all, run_stops, run_is, take_run, word_is, word_all, word_ends, front_word_is, behind_word_is, blanks_of, skipped_all, skip_is, front_kept, front_weaker}
use Rattle.source_grammar.proofs.Chains.{all_found, all_only}
use Rattle.source_grammar.proofs.TokenTexts.{takes_token, tokens_found, tokens_only, blank_skipped}
use Rattle.source_grammar.proofs.LabelTexts.{takes_label, labels_found, labels_only}
use Rattle.source_grammar.proofs.PartTexts.{same_part, directive_found, directive_only}

abbrev Tokens : Type 0
Tokens = List PlainToken × List ℕ

abbrev pub as_instruction : Tokens → Result PlainPart Flaw
as_instruction all = Ok (Instruction all.0)

-- ---- parts

found_at : (behind text : List ℕ) (p : PlainPart) → skip_blanks behind ≡ text → part_at text ≡ Ok p → SpellsPart behind p
found_at behind [] p is e =
    let b = blanks_of behind in
    subst (SpellsPart behind) (sym (same_part Nothing p e)) (nothing (ap (list_all is_blank) (b.1 ∙ ap (λ (l : List ℕ). b.0 ++ l) is ∙ append-nil b.0) ∙ b.2))
found_at behind (b ∷ bs) p is e =
    let blanks = blanks_of behind in
    let split : behind ≡ blanks.0 ++ (b ∷ bs) = blanks.1 ∙ ap (λ (l : List ℕ). blanks.0 ++ l) is in
    ⊎_elim
    (λ dot.
    directive blanks.0 (split ∙ ap (λ (l : List ℕ). blanks.0 ++ l) (word_is (b ∷ bs))) blanks.2 (word_all (b ∷ bs)) (word_ends (b ∷ bs)) (directive_found (front_word (b ∷ bs)) (behind_word (b ∷ bs)) p dot.1))
    (λ other.
    let got = bind_ok (all_items token_at (b ∷ bs)) as_instruction p other.1 in
    subst (SpellsPart behind) (sym (same_part (Instruction got.0.0) p got.2)) (instruction blanks.0 split blanks.2 (sym (ap (front_is is_blank) is) ∙ skipped_all behind) other.0 (tokens_found (all_found token_at takes_token (b ∷ bs) got.0.0 got.0.1 got.1))))
    (by_test (b == 46) (directive_of (front_word (b ∷ bs)) (behind_word (b ∷ bs))) (all_items token_at (b ∷ bs) >>= as_instruction) (Ok p) e)

pub part_found : (behind : List ℕ) (p : PlainPart) → part_of (skip_blanks behind) ≡ Ok p → SpellsPart behind p
unfolding part_of
part_found behind p e = found_at behind (skip_blanks behind) p refl e

directive_front : {word rest : List ℕ} {p : PlainPart} → SpellsDirective word rest p → front_is (λ b. b == 46) word ≡ true
directive_front (section m) = refl
directive_front (global m) = refl
directive_front (equ blanks is blank named ends m) = refl
directive_front (cells m) = refl
directive_front (space m le) = refl

pub dotted : (text : List ℕ) → front_is (λ b. b == 46) text ≡ true → part_of text ≡ directive_of (front_word text) (behind_word text)
unfolding part_of
dotted [] h = absurd (cc h)
dotted (b ∷ bs) h = rw h refl

pub undotted : (b : ℕ) (bs : List ℕ) → (b == 46) ≡ false → part_of (b ∷ bs) ≡ (all_items token_at (b ∷ bs) >>= as_instruction)
unfolding part_of
undotted b bs h = rw h refl

no_part : part_of [] ≡ Ok Nothing
unfolding part_of
no_part = refl

pub dot_blank : (c : ℕ) → (c == 46) ≡ true → is_blank c ≡ false
dot_blank c h = ap is_blank (eqb-true c 46 h)

pub part_only : {behind : List ℕ} {p : PlainPart} → SpellsPart behind p → part_of (skip_blanks behind) ≡ Ok p
part_only (nothing {text = text} all) = ap part_of (blank_skipped text all) ∙ no_part
part_only (directive blanks {word = w} {rest = r} split blank all ends spelled) =
    let dot : front_is (λ b. b == 46) (w ++ r) ≡ true = front_kept (λ b. b == 46) w r (directive_front spelled) in
    ap (λ (l : List ℕ). part_of (skip_blanks l)) split
    ∙ ap part_of (skip_is blanks (w ++ r) blank (front_weaker (λ b. b == 46) is_blank dot_blank (w ++ r) dot))
    ∙ dotted (w ++ r) dot
    ∙ ap (λ (l : List ℕ). directive_of l (behind_word (w ++ r))) (front_word_is w r all ends)
    ∙ ap (directive_of w) (behind_word_is w r all ends)
    ∙ directive_only spelled
part_only (instruction blanks {rest = r} {b = b} split blank first free spelled) =
    ap (λ (l : List ℕ). part_of (skip_blanks l)) split
    ∙ ap part_of (skip_is blanks (b ∷ r) blank first)
    ∙ undotted b r free
    ∙ ap (λ (q : Reading (List PlainToken)). q >>= as_instruction) (all_only token_at takes_token (tokens_only spelled))

-- ---- lines

abbrev pub Said : Type 0
Said = List (List ℕ) × PlainPart

abbrev pub said : List (List ℕ) → PlainPart → Result Said Flaw
said ls p = Ok (ls, p)

abbrev pub part_behind : List (List ℕ) × List ℕ → Result Said Flaw
part_behind labels = part_of labels.1 >>= said labels.0

same_said : (x : Said) (ls : List (List ℕ)) (p : PlainPart) → ◌≡◌ {A = Result Said Flaw} (Ok x) (Ok (ls, p)) → (x.0 ≡ ls) × (x.1 ≡ p)
same_said x ls p e = let same : x ≡ (ls, p) = cc in (ap (λ y. y.0) same, ap (λ y. y.1) same)

abbrev pub unnoted : ℕ → Bool
unnoted b = not (b == 59)

pub comment_is : (text : List ℕ) → front_is unnoted text ≡ false → IsComment text
comment_is [] h = no_comment
comment_is (b ∷ bs) h = subst (λ (c : ℕ). IsComment (c ∷ bs)) (sym (eqb-true b 59 (not-false (b == 59) h))) (note {rest = bs})

comment_stops : {text : List ℕ} → IsComment text → front_is unnoted text ≡ false
comment_stops no_comment = refl
comment_stops note = refl

pub line_found : (line : List ℕ) (ls : List (List ℕ)) (p : PlainPart) → line_of line ≡ Ok (ls, p) → SpellsLine line ls p
unfolding line_of
line_found line ls p e = ⊎_elim yes (λ none. absurd (let bad : ◌≡◌ {A = Result Said Flaw} (Err flaws.BadLine) (Ok (ls, p)) = none.1 in cc)) (by_test (list_all is_line_byte line) (statement_of text) (Err flaws.BadLine) (Ok (ls, p)) e)
  where
    text : List ℕ
    text = before_first (λ b. b == 59) line

    comment : List ℕ
    comment = drop (prefix_len unnoted line) line

    yes : (list_all is_line_byte line ≡ true) × (statement_of text ≡ Ok (ls, p)) → SpellsLine line ls p
    yes h =
        let got = bind_ok (all_items label_at text) part_behind (ls, p) h.1 in
        let part = bind_ok (part_of got.0.1) (said got.0.0) (ls, p) got.2 in
        let pair = same_said (got.0.0, part.0) ls p part.2 in
        let at = labels_found (all_found label_at takes_label text got.0.0 got.0.1 got.1) in
        record {
          behind = at.behind;
          begins = record {
            front = at.front;
            comment = comment;
            is = run_is unnoted line ∙ ap (λ (l : List ℕ). l ++ comment) at.is;
            printable = h.0;
            uncommented = sym (ap (list_all unnoted) at.is) ∙ run_all unnoted line;
            noted = comment_is comment (run_stops unnoted line);
            labelled = subst (λ (l : List (List ℕ)). SpellsLabels at.front l) pair.0 at.labelled;
            no_more = at.no_more;
          };
          stated = part_found at.behind p (ap part_of (sym at.rest_is) ∙ part.1 ∙ ap (λ (q : PlainPart). Ok q) pair.1);
        }

line_read : (line text : List ℕ) (r : Result Said Flaw) → list_all is_line_byte line ≡ true → before_first (λ b. b == 59) line ≡ text → statement_of text ≡ r → line_of line ≡ r
unfolding line_of
line_read line text r all cut is = rw (all, cut) is

-- what is read of a line whose labels are these, by what is read behind them
pub begun : {line : List ℕ} {ls : List (List ℕ)} {behind : List ℕ} → Begins line ls behind → (r : Result PlainPart Flaw) → part_of (skip_blanks behind) ≡ r → line_of line ≡ (r >>= said ls)
begun {line} {ls} {behind} s r e =
    line_read line (s.front ++ behind) (r >>= said ls) s.printable
    (ap (before_first (λ b. b == 59)) s.is ∙ take_run unnoted (s.front ++ behind) s.comment s.uncommented (comment_stops s.noted))
    (ap (λ (q : Reading (List (List ℕ))). q >>= part_behind) (all_only label_at takes_label (labels_only s.labelled behind s.no_more))
    ∙ ap (λ (q : Result PlainPart Flaw). q >>= said ls) e)

pub line_only : {line : List ℕ} {ls : List (List ℕ)} {p : PlainPart} → SpellsLine line ls p → line_of line ≡ Ok (ls, p)
line_only {p = p} s = begun s.begins (Ok p) (part_only s.stated)

-- a line is spelled in one way at most
pub line_single : {line : List ℕ} {ls ms : List (List ℕ)} {p q : PlainPart} → SpellsLine line ls p → SpellsLine line ms q → (ls ≡ ms) × (p ≡ q)
line_single {ls = ls} {ms = ms} {p = p} {q = q} s t = same_said (ls, p) ms q (sym (line_only s) ∙ line_only t)
