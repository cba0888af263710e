-- Strings that are kept: how they go on behind a run, and how a text goes on behind them.
use Rattle.std.proofs.Common.{◌≡◌, ◌<◌, ◌≤◌, ◌+◌, ◌++◌, ℕ, zero, suc, List, [], ◌∷◌, Bool, true, false, not, ◌&&◌, if◌then◌else◌, nat_eq, length, get_or, drop, take, map, refl, sym, ap, ap₂, ◌∙◌, subst, arith, append_assoc, append-nil, Option, None, Some, cond, drop-cons, add-one}
use Rattle.std.specs.List.{flat_map, list_all}
use Rattle.std.proofs.lemmas.Grind.{flat_map-append}
use Rattle.std.proofs.lemmas.List.{map-append, take-append-drop}
use Rattle.std.proofs.Math.Dec.{eqb-suc-zero}
use Rattle.std.proofs.lemmas.Bool.{and_parts, eqb-true}
use Rattle.asm_source.specs.Bytes.{is_word}
use Rattle.instruction_texts.specs.declared.shapes.Shape.{Shape}
use Rattle.instruction_texts.specs.declared.shapes.Shape.TheVariants.{Other, Literal, Unsigned, Signed}
use Rattle.std.specs.Prelude.{slice_index_or}
use Rattle.std.specs.Option.{option_to_list}
use Rattle.std.proofs.Math.ListN.{drop_of_length-le}
use Rattle.instruction_texts.specs.Symbols.{Sym, Byte, Gap, text_sym, flush_shape, gather, parts_from, is_clean, shown_values, starts_dot, is_dotted, has_pieces}
use Rattle.form_texts.specs.Pieces.{ended, pieces_at, run_at, dotted}
use Rattle.form_texts.specs.declared.strings.Strings.{Strings}
use Rattle.form_texts.specs.declared.symbols.Symbol.{Symbol}
use Rattle.form_texts.specs.declared.symbols.Symbol.TheVariants as symbols
use Rattle.form_texts.specs.Strings.{strings_at, bytes_of, symbols_of, strings_number, field_number, clean_behind, clean_after, IsOpened}
use Rattle.std.specs.Global.{Vec}
use Rattle.std.specs.Prelude.{OnOk, Result, Ok, Err}
use Rattle.text_tables.specs.Parts.{part_pieces, text_pieces}
use Rattle.text_tables.specs.Shared.{shapes_at}
use Rattle.text_tables.specs.declared.texts.Part.{Part}
use Rattle.text_tables.specs.declared.texts.Part.TheVariants as kinds
use Rattle.text_tables.proofs.Parted.{part_first}
use Rattle.form_texts.proofs.Pieces.{gathered, flushed, one_symbol}

-- ---- one more

pub pushed : {A : Type 0} (f : A → List (Sym ℕ)) (old : List A) (x : A) → flat_map f (old ++ x ∷ []) ≡ flat_map f old ++ f x
pushed f old x = flat_map-append f old (x ∷ []) ∙ ap (λ (l : List (Sym ℕ)). flat_map f old ++ l) (append-nil (f x))

-- ---- the front of strings

no_blank : (c : ℕ) → nat_eq c 32 ≡ true → is_word c ≡ true → ⊥
no_blank c e h =
    let is : c ≡ 32 = eqb-true c 32 e in
    let word : is_word 32 ≡ true = subst (λ (d : ℕ). is_word d ≡ true) is h in
    absurd (cc word)

first_word : (c : ℕ) (head : List ℕ) → list_all is_word (c ∷ head) ≡ true → is_word c ≡ true
first_word c head h = (and_parts (is_word c) (list_all is_word head) h).0

other_words : (c : ℕ) (head : List ℕ) → list_all is_word (c ∷ head) ≡ true → list_all is_word head ≡ true
other_words c head h = (and_parts (is_word c) (list_all is_word head) h).1

abbrev blank_or : Bool → ℕ → Sym ℕ
blank_or b c = if b then Gap else Byte c

-- a word character isn't a blank
word_is_byte : (c : ℕ) → is_word c ≡ true → text_sym {V = ℕ} c ≡ Byte c
word_is_byte c h = by (nat_eq c 32) refl
  where
    by : (b : Bool) → nat_eq c 32 ≡ b → blank_or b c ≡ Byte c
    by true e = absurd (no_blank c e h)
    by false e = refl

front_gathered : (head : List ℕ) (p : List ℕ) (rest : List (Sym ℕ)) → list_all is_word head ≡ true → gather p (map text_sym head ++ rest) ≡ gather (p ++ head) rest
front_gathered [] p rest h = ap (λ (q : List ℕ). gather q rest) (sym (append-nil p))
front_gathered (c ∷ head) p rest h =
    let word : is_word c ≡ true = first_word c head h in
    ap (λ (s : Sym ℕ). gather p (s ∷ (map text_sym head ++ rest))) (word_is_byte c word)
    ∙ ap (λ (b : Bool). if b then gather (p ++ c ∷ []) (map text_sym head ++ rest) else flush_shape p (Other c ∷ gather [] (map text_sym head ++ rest))) word
    ∙ front_gathered head (p ++ c ∷ []) rest (other_words c head h)
    ∙ ap (λ (q : List ℕ). gather q rest) (append_assoc p (c ∷ []) head)

-- a blank or a character that is none of a word ends the run before it
parting : (c : ℕ) (cs : List ℕ) (q : List ℕ) (rest : List (Sym ℕ)) → is_word c ≡ false → gather q (map text_sym (c ∷ cs) ++ rest) ≡ ended q ++ gather [] (map text_sym (c ∷ cs) ++ rest)
parting c cs q rest none = by (nat_eq c 32)
  where
    more : List (Sym ℕ)
    more = map text_sym cs ++ rest

    byte : (w : Bool) → w ≡ false → (if w then gather (q ++ c ∷ []) more else flush_shape q (Other c ∷ gather [] more)) ≡ ended q ++ (if w then gather (c ∷ []) more else Other c ∷ gather [] more)
    byte true e = absurd (cc e)
    byte false e = flushed q (Other c ∷ gather [] more)

    by : (b : Bool) → gather q ((if b then Gap else Byte c) ∷ more) ≡ ended q ++ gather [] ((if b then Gap else Byte c) ∷ more)
    by true = flushed q (gather [] more)
    by false = byte (is_word c) none

pub behind_front : (text : List ℕ) (head : ℕ) → head < length text → list_all is_word (take head text) ≡ true → is_word (slice_index_or text head 0) ≡ false → (p : List ℕ) (rest : List (Sym ℕ))
    → gather p (map text_sym text ++ rest) ≡ ended (p ++ take head text) ++ gather [] (map text_sym (drop head text) ++ rest)
behind_front text head h words none p rest =
    let front = take head text in
    let behind = drop head text in
    let opened : behind ≡ slice_index_or text head 0 ∷ drop (suc head) text = drop-cons text head 0 h in
    ap (λ (l : List ℕ). gather p (map text_sym l ++ rest)) (sym (take-append-drop head text))
    ∙ ap (λ (l : List (Sym ℕ)). gather p (l ++ rest)) (map-append text_sym front behind)
    ∙ ap (gather p) (append_assoc (map text_sym front) (map text_sym behind) rest)
    ∙ front_gathered front p (map text_sym behind ++ rest) words
    ∙ ap (λ (l : List ℕ). gather (p ++ front) (map text_sym l ++ rest)) opened
    ∙ parting (slice_index_or text head 0) (drop (suc head) text) (p ++ front) rest none
    ∙ ap (λ (l : List ℕ). ended (p ++ front) ++ gather [] (map text_sym l ++ rest)) (sym opened)

-- whether a run goes on with strings, by their front
pub front_parts : (text : List ℕ) (head : ℕ) → head < length text → list_all is_word (take head text) ≡ true → is_word (slice_index_or text head 0) ≡ false → (rest : List (Sym ℕ))
    → parts_from (map text_sym text ++ rest) ≡ nat_eq head 0
front_parts [] head h words none rest = absurd (omega arith)
front_parts (c ∷ text) zero h words none rest = by (nat_eq c 32)
  where
    by : (b : Bool) → parts_from ((if b then Gap else Byte c) ∷ (map text_sym text ++ rest)) ≡ true
    by true = refl
    by false = ap not none
front_parts (c ∷ text) (suc head) h words none rest =
    let word = first_word c (take head text) words in
    ap (λ (s : Sym ℕ). parts_from (s ∷ (map text_sym text ++ rest))) (word_is_byte c word) ∙ ap not word ∙ sym (eqb-suc-zero head)

pub made_opened : (s : Strings) (pieces : List Shape) → s.head < length s.text.items → list_all is_word (take s.head s.text.items) ≡ true → is_word (slice_index_or s.text.items s.head 0) ≡ false
    → ((rest : List (Sym ℕ)) → pieces ++ gather s.run.items rest ≡ gather [] (map text_sym (drop s.head s.text.items) ++ rest)) → dotted pieces ≡ s.dotted → IsOpened s pieces
made_opened s pieces h words none made dots = record {
  gathers = λ p rest. behind_front s.text.items s.head h words none p rest ∙ ap (λ (ss : List Shape). ended (p ++ take s.head s.text.items) ++ ss) (sym (made rest));
  parts = front_parts s.text.items s.head h words none;
  dots = dots;
}

-- ---- the pieces of strings, byte by byte

-- the symbol of a byte is no strings
plain_symbol : (s : Symbol) (c : ℕ) → ((strings : List Strings) → symbols_of strings s ≡ text_sym c ∷ []) → strings_number s ≡ None
plain_symbol (symbols.Byte b) c e = refl
plain_symbol symbols.Gap c e = refl
plain_symbol (symbols.Number format width field) c e = refl
plain_symbol (symbols.Strings o) c e = absurd (let h = e [] in cc h)

pub byte_grown : (text : List ℕ) (i c d : ℕ) (s : Symbol) (before after : List Shape) (p q : List ℕ) (total : List (Sym ℕ) → List Shape) → i < length text → c ≡ get_or text i d
    → ((strings : List Strings) → symbols_of strings s ≡ text_sym c ∷ []) → q ≡ run_at p s → after ≡ before ++ pieces_at p s
    → ((rest : List (Sym ℕ)) → before ++ gather p (map text_sym (drop i text) ++ rest) ≡ total rest) → (rest : List (Sym ℕ)) → after ++ gather q (map text_sym (drop (i + 1) text) ++ rest) ≡ total rest
byte_grown text i c d s before after p q total h is symbol run shapes so_far rest =
    let more = map text_sym (drop (i + 1) text) ++ rest in
    let opened : drop i text ≡ c ∷ drop (i + 1) text = drop-cons text i d h ∙ ap₂ (λ (b n : ℕ). b ∷ drop n text) (sym is) (sym (add-one i)) in
    ap₂ (λ (x : List Shape) (r : List ℕ). x ++ gather r more) shapes run
    ∙ append_assoc before (pieces_at p s) (gather (run_at p s) more)
    ∙ ap (λ (x : List Shape). before ++ x) (sym (gathered [] p s more (plain_symbol s c symbol)))
    ∙ ap (λ (l : List (Sym ℕ)). before ++ gather p (l ++ more)) (symbol [])
    ∙ ap (λ (l : List ℕ). before ++ gather p (map text_sym l ++ rest)) (sym opened)
    ∙ so_far rest

-- ---- no numbers stand among strings

pub strings_clean : (bs : List ℕ) (rest : List (Sym ℕ)) → is_clean (map text_sym bs ++ rest) ≡ is_clean rest
strings_clean [] rest = refl
strings_clean (c ∷ bs) rest = by (nat_eq c 32) ∙ strings_clean bs rest
  where
    by : (b : Bool) → is_clean ((if b then Gap else Byte c) ∷ (map text_sym bs ++ rest)) ≡ is_clean (map text_sym bs ++ rest)
    by true = refl
    by false = refl

pub strings_shown : (bs : List ℕ) (rest : List (Sym ℕ)) → shown_values (map text_sym bs ++ rest) ≡ shown_values rest
strings_shown [] rest = refl
strings_shown (c ∷ bs) rest = by (nat_eq c 32) ∙ strings_shown bs rest
  where
    by : (b : Bool) → shown_values ((if b then Gap else Byte c) ∷ (map text_sym bs ++ rest)) ≡ shown_values (map text_sym bs ++ rest)
    by true = refl
    by false = refl

-- ---- what follows a number

pub strings_behind : (b : Bool) (bs : List ℕ) (head : ℕ) (r : Option Bool) (rest : List (Sym ℕ)) → parts_from (map text_sym bs ++ rest) ≡ nat_eq head 0 → r ≡ cond (b && not (nat_eq head 0)) None (Some false)
    → clean_behind b (map text_sym bs ++ rest) ≡ clean_after r rest
strings_behind b bs head r rest parts is = by b (nat_eq head 0) parts ∙ ap (λ (x : Option Bool). clean_after x rest) (sym is)
  where
    by : (b p : Bool) → parts_from (map text_sym bs ++ rest) ≡ p → clean_behind b (map text_sym bs ++ rest) ≡ clean_after (cond (b && not p) None (Some false)) rest
    by true true e = ap (λ (q : Bool). q && is_clean (map text_sym bs ++ rest)) e ∙ strings_clean bs rest
    by true false e = ap (λ (q : Bool). q && is_clean (map text_sym bs ++ rest)) e
    by false p e = strings_clean bs rest

-- ---- the numbers of a text

one_shown : (strings : List Strings) (s : Symbol) (rest : List (Sym ℕ)) → shown_values (symbols_of strings s ++ rest) ≡ option_to_list (field_number s) ++ shown_values rest
one_shown strings (symbols.Byte c) rest = refl
one_shown strings symbols.Gap rest = refl
one_shown strings (symbols.Number format width field) rest = refl
one_shown strings (symbols.Strings o) rest = strings_shown (bytes_of (strings_at strings o)) rest

pub shown_end : (strings : List Strings) (all : List Symbol) (i : ℕ) (order total : List ℕ) → length all ≤ i → order ++ shown_values (flat_map (symbols_of strings) (drop i all)) ≡ total → order ≡ total
shown_end strings all i order total past so_far =
    sym (append-nil order) ∙ ap (λ (l : List Symbol). order ++ shown_values (flat_map (symbols_of strings) l)) (sym (drop_of_length-le all past)) ∙ so_far

module _ (strings : List Strings) (all : List Symbol) (i : ℕ) (s d : Symbol) (h : i < length all) (is : s ≡ get_or all i d) where
  abbrev rest : List (Sym ℕ)
  rest = flat_map (symbols_of strings) (drop (i + 1) all)

  pub shown_on : (order next total : List ℕ) → next ≡ order ++ option_to_list (field_number s) → order ++ shown_values (flat_map (symbols_of strings) (drop i all)) ≡ total → next ++ shown_values rest ≡ total
  shown_on order next total grown so_far =
      ap (λ (l : List ℕ). l ++ shown_values rest) grown
      ∙ append_assoc order (option_to_list (field_number s)) (shown_values rest)
      ∙ ap (λ (l : List ℕ). order ++ l) (sym (one_shown strings s rest) ∙ ap (λ (l : List (Sym ℕ)). shown_values l) (sym (one_symbol strings all i s d h is)))
      ∙ so_far

-- strings that are kept
pub kept_behind : (all : List Strings) (o : ℕ) (k : Strings) → strings_at all o ≡ Some k → (b : Bool) (r : Option Bool) → ((rest : List (Sym ℕ)) → parts_from (map text_sym k.text.items ++ rest) ≡ nat_eq k.head 0)
    → (s : Symbol) → s ≡ symbols.Strings o → r ≡ cond (b && not (nat_eq k.head 0)) None (Some false) → (rest : List (Sym ℕ)) → clean_behind b (symbols_of all s ++ rest) ≡ clean_after r rest
kept_behind all o k at b r parts s is e rest =
    ap (λ (x : Symbol). clean_behind b (symbols_of all x ++ rest)) is
    ∙ ap (λ (x : Option Strings). clean_behind b (map text_sym (bytes_of x) ++ rest)) at
    ∙ strings_behind b k.text.items k.head r rest (parts rest) e

-- ---- the parts of strings that are added

pub strings_added : (shared : List (Vec Shape)) (o : ℕ) (parts mid more : List Part) (shapes after : List Shape) (run grown front : List ℕ) → grown ≡ run ++ front → after ≡ shapes ++ ended grown
    → text_pieces shared mid ≡ text_pieces shared parts ++ after → more ≡ mid ++ kinds.Shared o ∷ [] → text_pieces shared more ≡ text_pieces shared parts ++ (shapes ++ (ended (run ++ front) ++ shapes_at (map (λ v. v.items) shared) o))
strings_added shared o all mid more shapes after run grown front gone ended_run part shared_part =
    let list = shapes_at (map (λ v. v.items) shared) o in
    ap (text_pieces shared) shared_part
    ∙ flat_map-append (part_pieces shared) mid (kinds.Shared o ∷ [])
    ∙ ap₂ (λ (x y : List Shape). x ++ y) (part ∙ ap (λ (x : List Shape). text_pieces shared all ++ x) (ended_run ∙ ap (λ (r : List ℕ). shapes ++ ended r) gone)) (append-nil list)
    ∙ append_assoc (text_pieces shared all) (shapes ++ ended (run ++ front)) list
    ∙ ap (λ (x : List Shape). text_pieces shared all ++ x) (append_assoc shapes (ended (run ++ front)) list)

-- what three clauses say of an answer, together
pub on_one : {A E : Type 0} {P Q : Type 0} (r : Result A E) → OnOk r P → (P → Q) → OnOk r Q
on_one (Ok a) p f = f p
on_one (Err e) p f = tt

pub on_three : {A E : Type 0} {P Q R S : Type 0} (r : Result A E) → OnOk r P → OnOk r Q → OnOk r R → (P → Q → R → S) → OnOk r S
on_three (Ok a) p q r f = f p q r
on_three (Err e) p q r f = tt

-- ---- the first run of a text

pub dotted_first : (ss us : List Shape) (b : Bool) → dotted ss ≡ Some b → is_dotted (ss ++ us) ≡ b
dotted_first [] us b e = absurd (cc e)
dotted_first (Other c ∷ ss) us b e = dotted_first ss us b e
dotted_first (Literal p ∷ ss) us b e = let h : starts_dot p ≡ b = cc in h
dotted_first (Unsigned hex p n ∷ ss) us b e = let h : starts_dot p ≡ b = cc in h
dotted_first (Signed p n ∷ ss) us b e = let h : starts_dot p ≡ b = cc in h

pub dotted_none : (ss us : List Shape) → dotted ss ≡ None → is_dotted (ss ++ us) ≡ is_dotted us
dotted_none [] us e = refl
dotted_none (Other c ∷ ss) us e = dotted_none ss us e
dotted_none (Literal p ∷ ss) us e = absurd (cc e)
dotted_none (Unsigned hex p n ∷ ss) us e = absurd (cc e)
dotted_none (Signed p n ∷ ss) us e = absurd (cc e)

pub pieces_first : (ss us : List Shape) → 0 < length ss → has_pieces (ss ++ us) ≡ true
pieces_first [] us h = absurd (omega arith)
pieces_first (s ∷ ss) us h = refl

module _ (shared : List (Vec Shape)) (all : List Part) (i : ℕ) (part : Part) (own : List Shape) (h : i < length all) (is : part ≡ get_or all i part) (pieces : own ≡ part_pieces shared part) where
  split : text_pieces shared (drop i all) ≡ own ++ text_pieces shared (drop (i + 1) all)
  split = part_first shared all i part h is ∙ ap (λ (ss : List Shape). ss ++ text_pieces shared (drop (i + 1) all)) (sym pieces)

  pub dotted_found : (b total : Bool) → dotted own ≡ Some b → is_dotted (text_pieces shared (drop i all)) ≡ total → b ≡ total
  dotted_found b total some so_far = sym (dotted_first own (text_pieces shared (drop (i + 1) all)) b some) ∙ ap is_dotted (sym split) ∙ so_far

  pub dotted_passed : (total : Bool) → dotted own ≡ None → is_dotted (text_pieces shared (drop i all)) ≡ total → is_dotted (text_pieces shared (drop (i + 1) all)) ≡ total
  dotted_passed total none so_far = sym (dotted_none own (text_pieces shared (drop (i + 1) all)) none) ∙ ap is_dotted (sym split) ∙ so_far

  pub pieces_found : (total : Bool) → 0 < length own → has_pieces (text_pieces shared (drop i all)) ≡ total → true ≡ total
  pieces_found total some so_far = sym (pieces_first own (text_pieces shared (drop (i + 1) all)) some) ∙ ap has_pieces (sym split) ∙ so_far
