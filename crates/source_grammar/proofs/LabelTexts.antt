-- The labels at the front of a line: what is read, and the spelling.
use Rattle.std.proofs.Common.{◌≡◌, ℕ, ◌<◌, ⊎_elim, Bool, true, false, cond, not, List, [], ◌∷◌, ◌++◌, length, Option, Some, None, Result, Ok, Err, refl, sym, ap, ◌∙◌, append_assoc, arith, subst}
use Rattle.std.specs.Prelude.{◌&&◌, ◌==◌, codes}
use Rattle.std.specs.List.{list_all}
use Rattle.std.proofs.lemmas.Bool.{and_parts, eqb-true, not-true}
use Rattle.std.proofs.lemmas.List.{length-append}
use Rattle.asm_source.specs.declared.flaw.Flaw.{Flaw}
use Rattle.asm_source.specs.declared.flaw.Flaw.TheVariants as flaws
use Rattle.asm_source.specs.Bytes.{is_blank, is_letter, is_word, is_name, front_is, skip_blanks, front_word, behind_word}
use Rattle.asm_source.specs.Parts.{is_empty, named_label, label_of, label_at}
use Rattle.asm_source.proofs.Stops.{no_label}
use Rattle.source_grammar.specs.Grammar.{EndsWord, SpellsLabels, no_labels, label, StartsLabel}
use Rattle.source_grammar.proofs.Runs.{by_test, word_is, word_all, front_word_is, behind_word_is, blanks_of, skip_is, word_blank, name_all, name_front, front_some}
use Rattle.source_grammar.proofs.TokenTexts.{some_length, some_empty}
use Rattle.source_grammar.proofs.Chains.{Chain, stop, link, Takes}

abbrev Read : Type 0
Read = Result (Option (List ℕ × List ℕ)) Flaw

-- a label at the front of a text
record LabelAt (text name rest : List ℕ) : Type 0 where
  is : text ≡ name ++ (codes ":" ++ rest)
  named : is_name name ≡ true

same_label : (x : List ℕ × List ℕ) (name rest : List ℕ) → ◌≡◌ {A = Read} (Ok (Some x)) (Ok (Some (name, rest))) → (x.0 ≡ name) × (x.1 ≡ rest)
same_label x name rest e = let same : x ≡ (name, rest) = cc in (ap (λ y. y.0) same, ap (λ y. y.1) same)

named_found : (word rest name after : List ℕ) → named_label word rest ≡ Ok (Some (name, after)) → LabelAt (word ++ (codes ":" ++ rest)) name after
named_found word rest name after e =
    ⊎_elim
    (λ yes.
    let pair = same_label (word, rest) name after yes.1 in
    record { is = ap (λ (l : List ℕ). l ++ (codes ":" ++ rest)) pair.0 ∙ ap (λ (l : List ℕ). name ++ (codes ":" ++ l)) pair.1; named = ap is_name (sym pair.0) ∙ yes.0 })
    (λ none. absurd (let bad : ◌≡◌ {A = Read} (Err flaws.BadLine) (Ok (Some (name, after))) = none.1 in cc))
    (by_test (is_name word) (Ok (Some (word, rest))) (Err flaws.BadLine) (Ok (Some (name, after))) e)

read_found : (word behind name after : List ℕ) → label_of word behind ≡ Ok (Some (name, after)) → LabelAt (word ++ behind) name after
read_found word [] name after e = absurd (cc e)
read_found word (b ∷ bs) name after e =
    ⊎_elim
    (λ yes.
    let colon : b ≡ 58 = eqb-true b 58 (and_parts (b == 58) (not (is_empty word)) yes.0).0 in
    let at = named_found word bs name after yes.1 in
    record { is = ap (λ (c : ℕ). word ++ (c ∷ bs)) colon ∙ at.is; named = at.named })
    (λ none. absurd (let bad : ◌≡◌ {A = Read} (Ok None) (Ok (Some (name, after))) = none.1 in cc))
    (by_test (b == 58 && not (is_empty word)) (named_label word bs) (Ok None) (Ok (Some (name, after))) e)

label_found : (text name after : List ℕ) → label_at text ≡ Ok (Some (name, after)) → LabelAt text name after
unfolding label_at
label_found text name after e =
    let at = read_found (front_word text) (behind_word text) name after e in
    record { is = word_is text ∙ at.is; named = at.named }

read_as : (word behind : List ℕ) (r : Read) → list_all is_word word ≡ true → EndsWord behind → label_of word behind ≡ r → label_at (word ++ behind) ≡ r
unfolding label_at
read_as word behind r all ends e = rw (front_word_is word behind all ends, behind_word_is word behind all ends) e

colon_read : (word rest : List ℕ) → 0 < length word → label_of word (codes ":" ++ rest) ≡ named_label word rest
colon_read word rest some = rw (some_empty word some) refl

named_read : (name rest : List ℕ) → is_name name ≡ true → named_label name rest ≡ Ok (Some (name, rest))
named_read name rest h = rw h refl

label_only : (name rest : List ℕ) → is_name name ≡ true → label_at (name ++ (codes ":" ++ rest)) ≡ Ok (Some (name, rest))
label_only name rest h =
    read_as name (codes ":" ++ rest) (Ok (Some (name, rest))) (name_all name h) refl
    (colon_read name rest (front_some is_letter name (name_front name h)) ∙ named_read name rest h)

word_front : (word rest : List ℕ) → 0 < length word → list_all is_word word ≡ true → front_is is_blank (word ++ rest) ≡ false
word_front [] rest some all = absurd (omega arith)
word_front (c ∷ word) rest some all = word_blank c (and_parts (is_word c) (list_all is_word word) all).0

-- ---- where none stands

named_some : (word rest : List ℕ) → named_label word rest ≡ Ok None → ⊥
named_some word rest e =
    ⊎_elim
    (λ yes. let bad : ◌≡◌ {A = Read} (Ok (Some (word, rest))) (Ok None) = yes.1 in cc)
    (λ none. let bad : ◌≡◌ {A = Read} (Err flaws.BadLine) (Ok None) = none.1 in cc)
    (by_test (is_name word) (Ok (Some (word, rest))) (Err flaws.BadLine) (Ok None) e)

none_starts : (text : List ℕ) → label_at (skip_blanks text) ≡ Ok None → StartsLabel text → ⊥
none_starts text e s =
    let skipped : skip_blanks text ≡ s.word ++ (codes ":" ++ s.rest) = ap skip_blanks s.is ∙ skip_is s.blanks (s.word ++ (codes ":" ++ s.rest)) s.blank (word_front s.word (codes ":" ++ s.rest) s.some s.all) in
    named_some s.word s.rest (sym (ap label_at skipped ∙ read_as s.word (codes ":" ++ s.rest) (named_label s.word s.rest) s.all refl (colon_read s.word s.rest s.some)) ∙ e)

free_read : (word behind : List ℕ) → ((rest : List ℕ) → 0 < length word → behind ≡ codes ":" ++ rest → ⊥) → label_of word behind ≡ Ok None
free_read word [] free = refl
free_read word (b ∷ bs) free = by (b == 58 && not (is_empty word)) refl
  where
    by : (t : Bool) → (b == 58 && not (is_empty word)) ≡ t → cond t (named_label word bs) (Ok None) ≡ Ok None
    by false e = refl
    by true e =
        let both = and_parts (b == 58) (not (is_empty word)) e in
        absurd (free bs (some_length word (not-true (is_empty word) both.1)) (ap (λ (c : ℕ). c ∷ bs) (eqb-true b 58 both.0)))

starts_none : (text : List ℕ) → (StartsLabel text → ⊥) → label_at (skip_blanks text) ≡ Ok None
unfolding label_at
starts_none text free =
    let b = blanks_of text in
    let whole = word_is (skip_blanks text) in
    free_read (front_word (skip_blanks text)) (behind_word (skip_blanks text))
    (λ rest some colon. free (record {
      blanks = b.0;
      word = front_word (skip_blanks text);
      rest = rest;
      is = b.1 ∙ ap (λ (l : List ℕ). b.0 ++ l) (whole ∙ ap (λ (l : List ℕ). front_word (skip_blanks text) ++ l) colon);
      blank = b.2;
      some = some;
      all = word_all (skip_blanks text);
    }))

-- ---- all labels

pub takes_label : Takes label_at
takes_label = record {
  stops = no_label;
  shorter = λ text name rest front e.
      let at = label_found text name rest e in
      omega (arith, ap length at.is, length-append name (codes ":" ++ rest));
}

-- labels at the front of a text, as many as there are
pub record LabelsAt (text : List ℕ) (ls : List (List ℕ)) (rest : List ℕ) : Type 0 where
  pub front : List ℕ
  pub behind : List ℕ
  pub is : text ≡ front ++ behind
  pub labelled : SpellsLabels front ls
  pub no_more : StartsLabel behind → ⊥
  pub rest_is : rest ≡ skip_blanks behind

pub labels_found : {text rest : List ℕ} {ls : List (List ℕ)} → Chain label_at text ls rest → LabelsAt text ls rest
labels_found (stop {text = text} none e last) = record { front = []; behind = text; is = refl; labelled = subst (SpellsLabels []) (sym e) no_labels; no_more = none_starts text none; rest_is = last }
labels_found (link {text = text} {behind = r} {x = name} {more = m} is more e) =
    let b = blanks_of text in
    let at = label_found (skip_blanks text) name r is in
    let all = labels_found more in
    record {
      front = b.0 ++ (name ++ (codes ":" ++ all.front));
      behind = all.behind;
      is =
          b.1 ∙ ap (λ (l : List ℕ). b.0 ++ l) (at.is ∙ ap (λ (l : List ℕ). name ++ (codes ":" ++ l)) all.is ∙ sym (append_assoc name (codes ":" ++ all.front) all.behind))
          ∙ sym (append_assoc b.0 (name ++ (codes ":" ++ all.front)) all.behind);
      labelled = subst (SpellsLabels (b.0 ++ (name ++ (codes ":" ++ all.front)))) (sym e) (label b.0 refl b.2 at.named all.labelled);
      no_more = all.no_more;
      rest_is = all.rest_is;
    }

pub labels_only : {front : List ℕ} {ls : List (List ℕ)} → SpellsLabels front ls → (behind : List ℕ) → (StartsLabel behind → ⊥) → Chain label_at (front ++ behind) ls (skip_blanks behind)
labels_only no_labels behind free = stop (starts_none behind free) refl refl
labels_only (label blanks {name = n} {rest = r} split all named more) behind free =
    let whole : blanks ++ (n ++ (codes ":" ++ r)) ++ behind ≡ blanks ++ (n ++ (codes ":" ++ (r ++ behind))) =
    append_assoc blanks (n ++ (codes ":" ++ r)) behind ∙ ap (λ (l : List ℕ). blanks ++ l) (append_assoc n (codes ":" ++ r) behind)
    in
    link
    (ap (λ (l : List ℕ). label_at (skip_blanks (l ++ behind))) split ∙ ap (λ (l : List ℕ). label_at (skip_blanks l)) whole
    ∙ ap label_at (skip_is blanks (n ++ (codes ":" ++ (r ++ behind))) all (word_front n (codes ":" ++ (r ++ behind)) (front_some is_letter n (name_front n named)) (name_all n named)))
    ∙ label_only n (r ++ behind) named)
    (labels_only more behind free)
    refl
