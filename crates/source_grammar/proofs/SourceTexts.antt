-- What is read of a source, line by line, and the spelling.
use Rattle.std.proofs.Common.{◌≡◌, ℕ, ◌+◌, ⊎_elim, List, [], ◌∷◌, Result, Ok, Err, refl, sym, ap, ◌∙◌, subst}
use Rattle.asm_source.specs.declared.flaw.Flaw.{Flaw}
use Rattle.asm_source.specs.declared.flaw.Flaw.TheVariants as flaws
use Rattle.asm_source.specs.declared.flaw.SourceFault.{SourceFault}
use Rattle.asm_source.specs.Plain.{PlainLine}
use Rattle.asm_source.specs.Sums.{◌>>=◌}
use Rattle.asm_source.specs.Parts.{line_of}
use Rattle.asm_source.specs.Source.{fault_at, numbered, source_from}
use Rattle.source_grammar.specs.Grammar.{SpellsLine}
use Rattle.source_grammar.specs.Sources.{SpellsLines, no_lines, lines_on, HasFlaw, HasFirstFault, fault_here, fault_behind}
use Rattle.source_grammar.proofs.Runs.{bind_ok, bind_err, other_flaw, not_ok}
use Rattle.source_grammar.proofs.LineTexts.{Said, line_found, line_only}
use Rattle.source_grammar.proofs.BrokenLines.{unknown_lines, broken_lines, bad_lines, no_other_flaw}

abbrev Lines : Type 0
Lines = Result (List PlainLine) SourceFault

abbrev onto : PlainLine → List PlainLine → Lines
onto first more = Ok (first ∷ more)

abbrev with_line : ℕ → List (List ℕ) → PlainLine → Lines
with_line n texts first = source_from (n + 1) texts >>= onto first

-- ---- a line

line_numbered : (n : ℕ) (text : List ℕ) (l : PlainLine) (r : Result Said Flaw) → line_of text ≡ r → numbered n r ≡ Ok l → (l.line ≡ n) × SpellsLine text l.labels l.part
line_numbered n text l (Ok x) is e =
    let same : record { line = n; labels = x.0; part = x.1 } ≡ l = (let p : ◌≡◌ {A = Result PlainLine SourceFault} (Ok (record { line = n; labels = x.0; part = x.1 })) (Ok l) = e in cc) in
    subst (λ (k : PlainLine). (k.line ≡ n) × SpellsLine text k.labels k.part) same (refl, line_found text x.0 x.1 is)
line_numbered n text l (Err f) is e = absurd (cc e)

flaw_found : (text : List ℕ) (flaw : Flaw) → line_of text ≡ Err flaw → HasFlaw text flaw
flaw_found text flaws.BadLine h = (bad_lines text).0 h
flaw_found text flaws.UnknownDirective h = (unknown_lines text).0 h
flaw_found text flaws.BadExpression h = (broken_lines text).0 h
flaw_found text flaws.NoMemory h = no_other_flaw text h

flaw_only : (text : List ℕ) (flaw : Flaw) → HasFlaw text flaw → line_of text ≡ Err flaw
flaw_only text flaws.BadLine h = (bad_lines text).1 h
flaw_only text flaws.UnknownDirective h = (unknown_lines text).1 h
flaw_only text flaws.BadExpression h = (broken_lines text).1 h
flaw_only text flaws.NoMemory h = absurd h

fault_numbered : (n : ℕ) (text : List ℕ) (texts : List (List ℕ)) (fault : SourceFault) (r : Result Said Flaw) → line_of text ≡ r → numbered n r ≡ Err fault → HasFirstFault n (text ∷ texts) fault
fault_numbered n text texts fault (Ok x) is e = absurd (cc e)
fault_numbered n text texts fault (Err f) is e = subst (HasFirstFault n (text ∷ texts)) (sym (other_flaw (fault_at n f) fault e)) (fault_here f (flaw_found text f is))

-- ---- all lines

pub lines_found : (n : ℕ) (texts : List (List ℕ)) (ls : List PlainLine) → source_from n texts ≡ Ok ls → SpellsLines n texts ls
unfolding source_from
lines_found n [] ls e = let same : [] ≡ ls = (let p : ◌≡◌ {A = Lines} (Ok []) (Ok ls) = e in cc) in subst (SpellsLines n []) same no_lines
lines_found n (text ∷ texts) ls e =
    let got = bind_ok (numbered n (line_of text)) (with_line n texts) ls e in
    let more = bind_ok (source_from (n + 1) texts) (onto got.0) ls got.2 in
    let same : got.0 ∷ more.0 ≡ ls = (let p : ◌≡◌ {A = Lines} (Ok (got.0 ∷ more.0)) (Ok ls) = more.2 in cc) in
    let first = line_numbered n text got.0 (line_of text) refl got.1 in
    subst (SpellsLines n (text ∷ texts)) same (lines_on first.0 first.1 (lines_found (n + 1) texts more.0 more.1))

line_read : (n : ℕ) (text : List ℕ) (l : PlainLine) → l.line ≡ n → SpellsLine text l.labels l.part → numbered n (line_of text) ≡ Ok l
line_read n text l is s = ap (numbered n) (line_only s) ∙ ap (λ (k : ℕ). Ok (record { line = k; labels = l.labels; part = l.part })) (sym is)

read_on : (n : ℕ) (text : List ℕ) (texts : List (List ℕ)) (l : PlainLine) → numbered n (line_of text) ≡ Ok l → source_from n (text ∷ texts) ≡ with_line n texts l
unfolding source_from
read_on n text texts l e = ap (λ (q : Result PlainLine SourceFault). q >>= with_line n texts) e

none_read : (n : ℕ) → source_from n [] ≡ Ok []
unfolding source_from
none_read n = refl

pub lines_only : {n : ℕ} {texts : List (List ℕ)} {ls : List PlainLine} → SpellsLines n texts ls → source_from n texts ≡ Ok ls
lines_only (no_lines {number = n}) = none_read n
lines_only (lines_on {number = n} {text = text} {texts = texts} {l = l} is s more) = read_on n text texts l (line_read n text l is s) ∙ ap (λ (q : Lines). q >>= onto l) (lines_only more)

-- ---- the first fault

pub fault_found : (n : ℕ) (texts : List (List ℕ)) (fault : SourceFault) → source_from n texts ≡ Err fault → HasFirstFault n texts fault
unfolding source_from
fault_found n [] fault e = absurd (not_ok [] fault e)
fault_found n (text ∷ texts) fault e =
    ⊎_elim
    (λ bad. fault_numbered n text texts fault (line_of text) refl bad)
    (λ got. ⊎_elim
    (λ bad. fault_behind (line_numbered n text got.0 (line_of text) refl got.1).1 (fault_found (n + 1) texts fault bad))
    (λ more. absurd (not_ok (got.0 ∷ more.0) fault more.2))
    (bind_err (source_from (n + 1) texts) (onto got.0) fault got.2))
    (bind_err (numbered n (line_of text)) (with_line n texts) fault e)

fault_read : (n : ℕ) (text : List ℕ) (texts : List (List ℕ)) (flaw : Flaw) → line_of text ≡ Err flaw → source_from n (text ∷ texts) ≡ Err (fault_at n flaw)
unfolding source_from
fault_read n text texts flaw e = ap (λ (q : Result Said Flaw). numbered n q >>= with_line n texts) e

pub fault_only : {n : ℕ} {texts : List (List ℕ)} {fault : SourceFault} → HasFirstFault n texts fault → source_from n texts ≡ Err fault
fault_only (fault_here flaw {number = n} {text = text} {texts = texts} h) = fault_read n text texts flaw (flaw_only text flaw h)
fault_only (fault_behind {number = n} {text = text} {texts = texts} {labels = labels} {part = part} s more) =
    let l : PlainLine = record { line = n; labels = labels; part = part } in
    read_on n text texts l (line_read n text l refl s) ∙ ap (λ (q : Lines). q >>= onto l) (fault_only more)
