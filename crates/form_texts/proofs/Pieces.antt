-- One more symbol of a text, and strings that are kept.
use Rattle.std.proofs.Common.{◌≡◌, ◌<◌, ◌+◌, ◌++◌, ℕ, List, [], ◌∷◌, Bool, true, false, if◌then◌else◌, length, get_or, drop, drop-cons, map, refl, sym, ap, ap₂, ◌∙◌, add-one, append_assoc, append-nil, take, ◌≤◌, Option, None, Some}
use Rattle.std.specs.List.{flat_map}
use Rattle.std.proofs.Math.ListN.{drop_of_length-le}
use Rattle.lisa_tree.specs.declared.descriptions.Format.TheVariants as formats
use Rattle.asm_source.specs.Bytes.{is_word}
use Rattle.instruction_texts.specs.declared.shapes.Shape.{Shape}
use Rattle.instruction_texts.specs.declared.shapes.Shape.TheVariants.{Other}
use Rattle.instruction_texts.specs.Symbols.{Sym, text_sym, flush_shape, gather}
use Rattle.form_texts.specs.declared.symbols.Symbol.{Symbol}
use Rattle.form_texts.specs.declared.symbols.Symbol.TheVariants as symbols
use Rattle.form_texts.specs.Strings.{strings_at, bytes_of, symbols_of, strings_number, IsOpened}
use Rattle.form_texts.specs.declared.strings.Strings.{Strings}
use Rattle.form_texts.specs.Pieces.{ended, pieces_at, run_at}

pub flushed : (p : List ℕ) (ss : List Shape) → flush_shape p ss ≡ ended p ++ ss
flushed [] ss = refl
flushed (c ∷ p) ss = refl

-- what is kept for an operation, if it is one
strings_by : List Strings → Option ℕ → Option Strings
strings_by strings None = None
strings_by strings (Some o) = strings_at strings o

its_strings : (strings : List Strings) (s : Symbol) (o : ℕ) → strings_number s ≡ Some o → symbols_of strings s ≡ map text_sym (bytes_of (strings_at strings o))
unfolding strings_by
its_strings strings (symbols.Byte c) o e = absurd (cc e)
its_strings strings symbols.Gap o e = absurd (cc e)
its_strings strings (symbols.Number format width field) o e = absurd (cc e)
its_strings strings (symbols.Strings k) o e = ap (λ (r : Option ℕ). map text_sym (bytes_of (strings_by strings r))) e

pub gathered : (strings : List Strings) (p : List ℕ) (s : Symbol) (rest : List (Sym ℕ)) → strings_number s ≡ None → gather p (symbols_of strings s ++ rest) ≡ pieces_at p s ++ gather (run_at p s) rest
gathered strings p symbols.Gap rest e = flushed p (gather [] rest)
gathered strings p (symbols.Byte c) rest e = by (is_word c)
  where
    by : (b : Bool) → (if b then gather (p ++ c ∷ []) rest else flush_shape p (Other c ∷ gather [] rest)) ≡ (if b then [] else ended p ++ Other c ∷ []) ++ gather (if b then p ++ c ∷ [] else []) rest
    by true = refl
    by false = flushed p (Other c ∷ gather [] rest) ∙ sym (append_assoc (ended p) (Other c ∷ []) (gather [] rest))
gathered strings p (symbols.Number formats.Decimal width field) rest e = refl
gathered strings p (symbols.Number formats.Hexadecimal width field) rest e = refl
gathered strings p (symbols.Number formats.SignedDecimal width field) rest e = refl
gathered strings p (symbols.Strings o) rest e = absurd (cc e)

-- strings that are kept, behind pieces
pub strings_grown : (strings : List Strings) (o : ℕ) (k : Strings) (pieces : List Shape) → strings_at strings o ≡ Some k → IsOpened k pieces → (parts more before : List Shape) (p : List ℕ)
    → more ≡ parts ++ (before ++ (ended (p ++ take k.head k.text.items) ++ pieces)) → (after : List Shape) (q : List ℕ) → after ≡ [] → q ≡ k.run.items → (s : Symbol) → strings_number s ≡ Some o → (rest : List (Sym ℕ))
    → more ++ (after ++ gather q rest) ≡ parts ++ (before ++ gather p (symbols_of strings s ++ rest))
strings_grown strings o k pieces at opened parts more before p are after q none run s is rest =
    let front = ended (p ++ take k.head k.text.items) in
    let behind = gather k.run.items rest in
    ap₂ (λ (x : List Shape) (y : List Shape). x ++ (y ++ gather q rest)) are none
    ∙ ap (λ (r : List ℕ). (parts ++ (before ++ (front ++ pieces))) ++ gather r rest) run
    ∙ append_assoc parts (before ++ (front ++ pieces)) behind
    ∙ ap (λ (x : List Shape). parts ++ x) (append_assoc before (front ++ pieces) behind)
    ∙ ap (λ (x : List Shape). parts ++ (before ++ x)) (append_assoc front pieces behind)
    ∙ ap (λ (x : List Shape). parts ++ (before ++ x)) (sym (opened.gathers p rest))
    ∙ ap (λ (r : Option Strings). parts ++ (before ++ gather p (map text_sym (bytes_of r) ++ rest))) (sym at)
    ∙ ap (λ (l : List (Sym ℕ)). parts ++ (before ++ gather p (l ++ rest))) (sym (its_strings strings s o is))

-- ---- all symbols

pub one_symbol : (strings : List Strings) (all : List Symbol) (i : ℕ) (s d : Symbol) → i < length all → s ≡ get_or all i d
    → flat_map (symbols_of strings) (drop i all) ≡ symbols_of strings s ++ flat_map (symbols_of strings) (drop (i + 1) all)
one_symbol strings all i s d h is =
    ap (flat_map (symbols_of strings)) (drop-cons all i d h ∙ ap (λ (n : ℕ). get_or all i d ∷ drop n all) (sym (add-one i)))
    ∙ ap (λ (x : Symbol). symbols_of strings x ++ flat_map (symbols_of strings) (drop (i + 1) all)) (sym is)

-- the run is ended, and what is left is a part
pub parts_ended : (strings : List Strings) (all : List Symbol) (i : ℕ) (parts before after whole total : List Shape) (p : List ℕ) → length all ≤ i
    → parts ++ (before ++ gather p (flat_map (symbols_of strings) (drop i all))) ≡ total → after ≡ before ++ ended p → whole ≡ parts ++ after → whole ≡ total
parts_ended strings all i parts before after whole total p past so_far run part =
    part
    ∙ ap (λ (x : List Shape). parts ++ x) run
    ∙ ap (λ (x : List Shape). parts ++ (before ++ x)) (sym (append-nil (ended p)) ∙ sym (flushed p []))
    ∙ ap (λ (l : List Symbol). parts ++ (before ++ gather p (flat_map (symbols_of strings) l))) (sym (drop_of_length-le all past))
    ∙ so_far
