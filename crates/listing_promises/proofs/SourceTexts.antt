-- The text of lines is a source of what these lines say.
use Rattle.std.proofs.Common.{◌≡◌, ◌+◌, ◌-◌, ◌++◌, ◌==◌, ℕ, zero, suc, List, [], ◌∷◌, Bool, true, false, cond, not, length, refl, ap, ◌∙◌, arith}
use Rattle.std.specs.Prelude.{Result, Ok, Err, slice_index}
use Rattle.std.specs.List.{list_all, before_first, AllByRecursion}
use Rattle.std.specs.Str.Lines.{lines, lines_of_parts, strip_carriage_return}
use Rattle.std.proofs.lemmas.Bool.{and_parts, and_from}
use Rattle.std.proofs.lemmas.Bool.Decides.{nat_tests}
use Rattle.asm_source.specs.declared.flaw.Flaw.{Flaw}
use Rattle.asm_source.specs.declared.flaw.Flaw.TheVariants.{BadLine}
use Rattle.asm_source.specs.Bytes.{is_line_byte}
use Rattle.asm_source.specs.Plain.{PlainPart, PlainLine}
use Rattle.asm_source.specs.Parts.{statement_of, line_of}
use Rattle.asm_source.specs.Source.{source_from, source_of}
use Rattle.lisa_object.specs.Texts.{text_of}
use Rattle.lisa_object.proofs.TextLaws.{lacks, all_lack, text_parts}

-- ---- a line that is read has bytes that may stand in a line

passed : {A : Type 0} (b : Bool) (r : Result A Flaw) (x : A) → cond b r (Err BadLine) ≡ Ok x → b ≡ true
passed true r x e = refl
passed false r x e = absurd (cc e)

pub line_bytes : (line : List ℕ) (x : List (List ℕ) × PlainPart) → line_of line ≡ Ok x → list_all is_line_byte line ≡ true
unfolding line_of
line_bytes line x e = passed (list_all is_line_byte line) (statement_of (before_first (λ b. b == 59) line)) x e

byte_lacks : (c : ℕ) → is_line_byte c ≡ true → not (c == 10) ≡ true
byte_lacks c h = grind (arith, nat_tests)

byte_return : (c : ℕ) → is_line_byte c ≡ true → (c == 13) ≡ false
byte_return c h = grind (arith, nat_tests)

line_lacks : (line : List ℕ) → list_all is_line_byte line ≡ true → lacks 10 line ≡ true
line_lacks [] h = refl
line_lacks (c ∷ line) h =
    let both = and_parts (is_line_byte c) (list_all is_line_byte line) h in
    and_from (not (c == 10)) (lacks 10 line) (byte_lacks c both.0) (line_lacks line both.1)

no_return : (line : List ℕ) (i : ℕ) → list_all is_line_byte line ≡ true → (slice_index line i == 13) ≡ false
no_return [] zero h = refl
no_return [] (suc i) h = refl
no_return (c ∷ line) zero h = byte_return c (and_parts (is_line_byte c) (list_all is_line_byte line) h).0
no_return (c ∷ line) (suc i) h = no_return line i (and_parts (is_line_byte c) (list_all is_line_byte line) h).1

stripped : (line : List ℕ) → list_all is_line_byte line ≡ true → strip_carriage_return line ≡ line
stripped line h = rw (no_return line (length line - 1) h) refl

-- ---- the lines of a text

abbrev AreLines : List (List ℕ) → Type 0
AreLines texts = AllByRecursion (λ line. list_all is_line_byte line ≡ true) texts

parts_kept : (texts : List (List ℕ)) → AreLines texts → lines_of_parts (texts ++ [] ∷ []) ≡ texts
parts_kept [] h = refl
parts_kept (line ∷ []) h = ap (λ (l : List ℕ). l ∷ []) (stripped line h.0)
parts_kept (line ∷ next ∷ texts) h =
    ap (λ (l : List ℕ). l ∷ lines_of_parts (next ∷ (texts ++ [] ∷ []))) (stripped line h.0)
    ∙ ap (λ (ls : List (List ℕ)). line ∷ ls) (parts_kept (next ∷ texts) h.1)

all_lacking : (texts : List (List ℕ)) → AreLines texts → all_lack 10 texts ≡ true
all_lacking [] h = refl
all_lacking (line ∷ texts) h = and_from (lacks 10 line) (all_lack 10 texts) (line_lacks line h.0) (all_lacking texts h.1)

lines_again : (texts : List (List ℕ)) → AreLines texts → lines (text_of texts) ≡ texts
lines_again texts h = ap lines_of_parts (text_parts texts (all_lacking texts h)) ∙ parts_kept texts h

-- ---- what lines say

-- each line says this part, without a label
abbrev pub AreSaid : List (List ℕ) → List PlainPart → Type 0
AreSaid [] [] = Unit {0}
AreSaid (text ∷ texts) (part ∷ parts) = (line_of text ≡ Ok ([], part)) × AreSaid texts parts
AreSaid [] (part ∷ parts) = ⊥
AreSaid (text ∷ texts) [] = ⊥

-- the lines of parts, counted from this number on
abbrev pub plain_lines : ℕ → List PlainPart → List PlainLine
plain_lines n [] = []
plain_lines n (part ∷ parts) = record { line = n; labels = []; part = part } ∷ plain_lines (n + 1) parts

pub said_both : (texts : List (List ℕ)) (parts : List PlainPart) (more : List (List ℕ)) (others : List PlainPart) → AreSaid texts parts → AreSaid more others → AreSaid (texts ++ more) (parts ++ others)
said_both [] [] more others h k = k
said_both (text ∷ texts) (part ∷ parts) more others h k = (h.0, said_both texts parts more others h.1 k)
said_both [] (part ∷ parts) more others h k = absurd h
said_both (text ∷ texts) [] more others h k = absurd h

are_lines : (texts : List (List ℕ)) (parts : List PlainPart) → AreSaid texts parts → AreLines texts
are_lines [] parts h = tt
are_lines (text ∷ texts) (part ∷ parts) h = (line_bytes text ([], part) h.0, are_lines texts parts h.1)
are_lines (text ∷ texts) [] h = absurd h

read_from : (n : ℕ) (texts : List (List ℕ)) (parts : List PlainPart) → AreSaid texts parts → source_from n texts ≡ Ok (plain_lines n parts)
unfolding source_from
read_from n [] [] h = refl
read_from n (text ∷ texts) (part ∷ parts) h = rw (h.0, read_from (n + 1) texts parts h.1) refl
read_from n [] (part ∷ parts) h = absurd h
read_from n (text ∷ texts) [] h = absurd h

-- the text of the lines is a source of what they say
pub source_said : (texts : List (List ℕ)) (parts : List PlainPart) → AreSaid texts parts → source_of (text_of texts) ≡ Ok (plain_lines 1 parts)
unfolding source_of
source_said texts parts h = ap (source_from 1) (lines_again texts (are_lines texts parts h)) ∙ read_from 1 texts parts h
