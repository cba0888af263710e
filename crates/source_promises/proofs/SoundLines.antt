-- Lines that bytes say are sound: their names are names, and their numbers and sums are within bounds.
use Rattle.std.proofs.Common.{◌≡◌, ◌<◌, ◌≤◌, ◌+◌, ◌-◌, ◌*◌, ◌^◌, ◌∙◌, ℕ, zero, suc, Bool, true, false, cond, ℤ, pos, List, [], ◌∷◌, ◌++◌, length, drop, length-append, Option, None, Some, Result, Ok, Err, refl, ap, subst, arith}
use Rattle.std.specs.Prelude.{◌&&◌, ◌==◌, ◌-ℤ◌, ◌+ℤ◌, ◌≤ℤ◌, not, nat_le, nat_lt, codes}
use Rattle.std.specs.List.{AllByRecursion, list_all, slice_split, before_first}
use Rattle.std.specs.Char.{digit_value}
use Rattle.std.specs.Str.{bytes_eq}
use Rattle.std.specs.Str.Lines.{lines}
use Rattle.std.specs.Str.Parse.{digits_value}
use Rattle.std.proofs.lemmas.Bool.{and_parts, and_from, leb-true, ltb-true}
use Rattle.std.proofs.lemmas.Int.{ints}
use Rattle.asm_source.specs.declared.flaw.Flaw.{Flaw}
use Rattle.asm_source.specs.declared.flaw.Flaw.TheVariants as flaws
use Rattle.asm_source.specs.declared.flaw.SourceFault.{SourceFault}
use Rattle.asm_source.specs.declared.operands.Atom.{Atom}
use Rattle.asm_source.specs.declared.operands.Atom.TheVariants.{Value, Symbol}
use Rattle.asm_source.specs.declared.parts.Term.{Term}
use Rattle.asm_source.specs.Bytes.{is_blank, is_word, is_line_byte, is_name, front_is, skip_blanks, front_word, behind_word}
use Rattle.asm_source.specs.Numbers.{is_numeral, numeral_of, starts_hex, number_of, signed, IsShort}
use Rattle.asm_source.specs.Plain.{PlainSum, PlainToken, Run, Sign, Operand, PlainValue, Number, Added, PlainPart, Nothing, Section, Global, Equ, Cells, Space, Instruction, PlainLine}
use Rattle.asm_source.specs.Sums.{◌>>=◌, value_or_bad, word_atom, atom_at, one_term, plus, behind_term, terms_at, inner_at, sum_at, operand_at}
use Rattle.asm_source.specs.Items.{Item, on_item, items, all_items}
use Rattle.asm_source.specs.Parts.{is_empty, named_label, label_of, label_at, with_sign, signed_word, alone, number_at, number_in, name_in, or_bad, equ_of, space_from, space_of, cell_at, cell_of, value_and, values_of, cells_of, directive_of, token_of, token_at, part_at, part_of, statement_of, line_of}
use Rattle.asm_source.specs.Source.{numbered, source_from, source_of}
use Rattle.lisa_object.specs.ObjectRules.{has_symbol}

-- ---- what is sound

abbrev pub IsName : List ℕ → Type 0
IsName n = is_name n ≡ true

-- a sum of at most so many terms and numbers
pub record IsSoundSum (k : ℕ) (s : PlainSum) : Type 0 where
  pub named : list_all has_symbol s.terms ≡ true
  pub short : IsShort k s.constant
  pub few : length s.terms ≤ k

abbrev pub IsSoundToken : PlainToken → Type 0
IsSoundToken (Run w) = Unit {0}
IsSoundToken (Sign b) = Unit {0}
IsSoundToken (Operand w s) = IsSoundSum 8 s

abbrev pub IsSoundValue : PlainValue → Type 0
IsSoundValue (Number n) = Unit {0}
IsSoundValue (Added s) = IsSoundSum 8 s

abbrev pub IsSoundPart : PlainPart → Type 0
IsSoundPart Nothing = Unit {0}
IsSoundPart (Section n) = IsName n
IsSoundPart (Global n) = IsName n
IsSoundPart (Equ n v) = IsName n × IsShort 1 v
IsSoundPart (Cells vs) = AllByRecursion IsSoundValue vs
IsSoundPart (Space n) = n ≤ 1048576
IsSoundPart (Instruction ts) = AllByRecursion IsSoundToken ts

pub record IsSoundLine (l : PlainLine) : Type 0 where
  pub labels : AllByRecursion IsName l.labels
  pub part : IsSoundPart l.part

-- ---- steps of readers

ok_is : {A E : Type 0} (x y : A) → ◌≡◌ {A = Result A E} (Ok x) (Ok y) → x ≡ y
ok_is x y e = cc

some_is : {A : Type 0} (x y : A) → Some x ≡ Some y → x ≡ y
some_is x y e = cc

then_ok : {A B E : Type 0} (r : Result A E) (f : A → Result B E) (y : B) → (r >>= f) ≡ Ok y → (x : A) × (r ≡ Ok x) × (f x ≡ Ok y)
then_ok (Ok x) f y e = (x, refl, e)
then_ok (Err a) f y e = absurd (cc e)

-- ---- numbers

numeral_below : (radix : ℕ) (digits : List ℕ) (n : ℕ) → numeral_of radix digits ≡ Some n → n < 2 ^ 64
numeral_below radix digits n e = by (is_numeral radix digits) refl e
  where
    by : (b : Bool) → is_numeral radix digits ≡ b → cond b (Some (digits_value radix digits)) None ≡ Some n → n < 2 ^ 64
    by true is h =
        let tests = and_parts (nat_lt 0 (length digits) && list_all (λ b. nat_lt (digit_value b) radix) digits) (nat_lt (digits_value radix digits) (2 ^ 64)) is in
        let low : digits_value radix digits < 2 ^ 64 = ltb-true (digits_value radix digits) (2 ^ 64) tests.1 in
        let same : digits_value radix digits ≡ n = some_is (digits_value radix digits) n h in
        subst (λ (m : ℕ). m < 2 ^ 64) same low
    by false is h = absurd (cc h)

number_below : (word : List ℕ) (n : ℕ) → number_of word ≡ Some n → n < 2 ^ 64
unfolding number_of
number_below word n e = by (starts_hex word) e
  where
    by : (b : Bool) → cond b (numeral_of 16 (drop 2 word)) (numeral_of 10 word) ≡ Some n → n < 2 ^ 64
    by true h = numeral_below 16 (drop 2 word) n h
    by false h = numeral_below 10 word n h

signed_short : (minus : Bool) (n : ℕ) → n < 2 ^ 64 → IsShort 1 (signed minus n)
signed_short true n h = (omega (arith, ints, h), omega (arith, ints, h))
signed_short false n h = (omega (arith, ints, h), omega (arith, ints, h))

word_short : (minus : Bool) (text : List ℕ) (x : ℤ × List ℕ) → signed_word minus text ≡ Some x → IsShort 1 x.0
word_short minus text x e = by (number_of (front_word text)) refl e
  where
    by : (o : Option ℕ) → number_of (front_word text) ≡ o → with_sign minus (behind_word text) o ≡ Some x → IsShort 1 x.0
    by None is h = absurd (cc h)
    by (Some n) is h =
        subst (λ (z : ℤ × List ℕ). IsShort 1 z.0) (some_is (signed minus n, behind_word text) x h) (signed_short minus n (number_below (front_word text) n is))

at_short : (text : List ℕ) (x : ℤ × List ℕ) → number_at text ≡ Some x → IsShort 1 x.0
at_short text x e = by (front_is (λ b. b == 45) text) e
  where
    by : (t : Bool) → cond t (signed_word true (drop 1 text)) (signed_word false text) ≡ Some x → IsShort 1 x.0
    by true h = word_short true (drop 1 text) x h
    by false h = word_short false text x h

in_short : (text : List ℕ) (v : ℤ) → number_in text ≡ Some v → IsShort 1 v
unfolding number_in
in_short text v e = by (number_at (skip_blanks text)) refl e
  where
    kept : (t : Bool) (x : ℤ × List ℕ) → cond t (Some x.0) None ≡ Some v → IsShort 1 x.0 → IsShort 1 v
    kept true x h s = subst (IsShort 1) (some_is x.0 v h) s
    kept false x h s = absurd (cc h)

    by : (o : Option (ℤ × List ℕ)) → number_at (skip_blanks text) ≡ o → alone o ≡ Some v → IsShort 1 v
    by None is h = absurd (cc h)
    by (Some x) is h = kept (list_all is_blank x.1) x h (at_short (skip_blanks text) x is)

-- ---- sums

abbrev IsSoundAtom : Atom → Type 0
IsSoundAtom (Value n) = n < 2 ^ 64
IsSoundAtom (Symbol None) = Unit {0}
IsSoundAtom (Symbol (Some n)) = IsName n

word_sound : (word : List ℕ) (a : Atom) → word_atom word ≡ Ok a → IsSoundAtom a
unfolding word_atom
word_sound word a e = by (is_name word) refl e
  where
    valued : (o : Option ℕ) → number_of word ≡ o → value_or_bad o ≡ Ok a → IsSoundAtom a
    valued None is h = absurd (cc h)
    valued (Some n) is h = subst IsSoundAtom (ok_is (Value n) a h) (number_below word n is)

    by : (b : Bool) → is_name word ≡ b → cond b (Ok (Symbol (Some word))) (value_or_bad (number_of word)) ≡ Ok a → IsSoundAtom a
    by true is h = subst IsSoundAtom (ok_is (Symbol (Some word)) a h) is
    by false is h = valued (number_of word) refl h

atom_sound : (text : List ℕ) (r : Atom × List ℕ) → atom_at text ≡ Ok r → IsSoundAtom r.0
unfolding atom_at
atom_sound [] r e = absurd (cc e)
atom_sound (b ∷ bs) r e = by (b == 36) e
  where
    by : (t : Bool) → cond t (Ok (Symbol None, bs)) (word_atom (front_word (b ∷ bs)) >>= λ a. Ok (a, behind_word (b ∷ bs))) ≡ Ok r → IsSoundAtom r.0
    by true h = subst (λ (z : Atom × List ℕ). IsSoundAtom z.0) (ok_is (Symbol None, bs) r h) tt
    by false h =
        let x = then_ok (word_atom (front_word (b ∷ bs))) (λ a. Ok (a, behind_word (b ∷ bs))) r h in
        subst (λ (z : Atom × List ℕ). IsSoundAtom z.0) (ok_is (x.0, behind_word (b ∷ bs)) r x.2) (word_sound (front_word (b ∷ bs)) x.0 x.1)

one_sound : (minus : Bool) (a : Atom) → IsSoundAtom a → IsSoundSum 1 (one_term minus a)
one_sound minus (Value n) h = record { named = refl; short = signed_short minus n h; few = omega arith }
one_sound minus (Symbol None) h = record { named = refl; short = (omega (arith, ints), omega (arith, ints)); few = omega arith }
one_sound minus (Symbol (Some n)) h = record { named = and_from (is_name n) true h refl; short = (omega (arith, ints), omega (arith, ints)); few = omega arith }

wider : (j k : ℕ) (s : PlainSum) → j ≤ k → IsSoundSum j s → IsSoundSum k s
wider j k s le sound =
    let low = sound.short.0 in
    let high = sound.short.1 in
    let few = sound.few in
    record { named = sound.named; short = (omega (arith, ints, le, low), omega (arith, ints, le, high)); few = omega (arith, le, few) }

all_named : (xs ys : List Term) → list_all has_symbol xs ≡ true → list_all has_symbol ys ≡ true → list_all has_symbol (xs ++ ys) ≡ true
all_named [] ys a b = b
all_named (x ∷ xs) ys a b =
    let p = and_parts (has_symbol x) (list_all has_symbol xs) a in
    and_from (has_symbol x) (list_all has_symbol (xs ++ ys)) p.0 (all_named xs ys p.1 b)

plus_sound : (j k m : ℕ) (a b : PlainSum) → m ≡ j + k → IsSoundSum j a → IsSoundSum k b → IsSoundSum m (plus a b)
plus_sound j k m a b e x y =
    let low = x.short.0 in
    let other_low = y.short.0 in
    let high = x.short.1 in
    let other_high = y.short.1 in
    let few = x.few in
    let other_few = y.few in
    record {
      named = all_named a.terms b.terms x.named y.named;
      short = (omega (arith, ints, e, low, other_low), omega (arith, ints, e, high, other_high));
      few = omega (arith, e, length-append a.terms b.terms, few, other_few);
    }

behind_sound : (n : ℕ) (first : PlainSum) → IsSoundSum 1 first → ((minus : Bool) (text : List ℕ) (r : PlainSum × List ℕ) → terms_at n minus text ≡ Ok r → IsSoundSum n r.0)
    → (text : List ℕ) (r : PlainSum × List ℕ) → behind_term (terms_at n) first text ≡ Ok r → IsSoundSum (suc n) r.0
behind_sound n first one more [] r e = absurd (cc e)
behind_sound n first one more (b ∷ bs) r e = by (b == 41) (b == 43) (b == 45) e
  where
    added : (minus : Bool) → (terms_at n minus bs >>= λ s. Ok (plus first s.0, s.1)) ≡ Ok r → IsSoundSum (suc n) r.0
    added minus h =
        let s = then_ok (terms_at n minus bs) (λ s. Ok (plus first s.0, s.1)) r h in
        subst (λ (z : PlainSum × List ℕ). IsSoundSum (suc n) z.0) (ok_is (plus first s.0.0, s.0.1) r s.2) (plus_sound 1 n (suc n) first s.0.0 (omega arith) one (more minus bs s.0 s.1))

    by : (x y z : Bool)
        → cond x (Ok (first, bs)) (cond y (terms_at n false bs >>= λ s. Ok (plus first s.0, s.1)) (cond z (terms_at n true bs >>= λ s. Ok (plus first s.0, s.1)) (Err flaws.BadExpression))) ≡ Ok r
        → IsSoundSum (suc n) r.0
    by true y z h = subst (λ (z : PlainSum × List ℕ). IsSoundSum (suc n) z.0) (ok_is (first, bs) r h) (wider 1 (suc n) first (omega arith) one)
    by false true z h = added false h
    by false false true h = added true h
    by false false false h = absurd (cc h)

terms_sound : (n : ℕ) (minus : Bool) (text : List ℕ) (r : PlainSum × List ℕ) → terms_at n minus text ≡ Ok r → IsSoundSum n r.0
unfolding terms_at
terms_sound zero minus text r e = absurd (cc e)
terms_sound (suc n) minus text r e =
    let a = then_ok (atom_at text) (λ a. behind_term (terms_at n) (one_term minus a.0) a.1) r e in
    behind_sound n (one_term minus a.0.0) (one_sound minus a.0.0 (atom_sound text a.0 a.1)) (λ minus text r e. terms_sound n minus text r e) a.0.1 r a.2

inner_sound : (text : List ℕ) (r : PlainSum × List ℕ) → inner_at text ≡ Ok r → IsSoundSum 8 r.0
unfolding inner_at
inner_sound text r e = by (front_is (λ b. b == 45) text) e
  where
    by : (t : Bool) → cond t (terms_at 8 true (drop 1 text)) (terms_at 8 false text) ≡ Ok r → IsSoundSum 8 r.0
    by true h = terms_sound 8 true (drop 1 text) r h
    by false h = terms_sound 8 false text r h

sum_sound : (text : List ℕ) (r : PlainSum × List ℕ) → sum_at text ≡ Ok r → IsSoundSum 8 r.0
sum_sound [] r e = absurd (cc e)
sum_sound (b ∷ bs) r e = by (b == 40) e
  where
    by : (t : Bool) → cond t (inner_at bs) (atom_at (b ∷ bs) >>= λ a. Ok (one_term false a.0, a.1)) ≡ Ok r → IsSoundSum 8 r.0
    by true h = inner_sound bs r h
    by false h =
        let a = then_ok (atom_at (b ∷ bs)) (λ a. Ok (one_term false a.0, a.1)) r h in
        subst (λ (z : PlainSum × List ℕ). IsSoundSum 8 z.0) (ok_is (one_term false a.0.0, a.0.1) r a.2)
        (wider 1 8 (one_term false a.0.0) (omega arith) (one_sound false a.0.0 (atom_sound (b ∷ bs) a.0 a.1)))

operand_sound : (text : List ℕ) (r : PlainSum × List ℕ) → operand_at text ≡ Ok r → IsSoundSum 8 r.0
unfolding operand_at
operand_sound text r e =
    let s = then_ok (sum_at text) (λ s. cond (front_is is_word s.1) (Err flaws.BadExpression) (Ok s)) r e in
    by s.0 (front_is is_word s.0.1) s.2 (sum_sound text s.0 s.1)
  where
    by : (s : PlainSum × List ℕ) (t : Bool) → cond t (Err flaws.BadExpression) (Ok s) ≡ Ok r → IsSoundSum 8 s.0 → IsSoundSum 8 r.0
    by s true h sound = absurd (cc h)
    by s false h sound = subst (λ (z : PlainSum × List ℕ). IsSoundSum 8 z.0) (ok_is s r h) sound

-- ---- values

at_sound : (text : List ℕ) (v : PlainValue) → cell_at text ≡ Ok v → IsSoundValue v
at_sound [] v e = absurd (cc e)
at_sound (b ∷ bs) v e = by (b == 64) e
  where
    added : (s : PlainSum × List ℕ) → operand_at bs ≡ Ok s → (t : Bool) → cond t (Ok (Added s.0)) (Err flaws.BadLine) ≡ Ok v → IsSoundValue v
    added s is true h = subst IsSoundValue (ok_is (Added s.0) v h) (operand_sound bs s is)
    added s is false h = absurd (cc h)

    bare : (o : Option ℤ) → or_bad Number o ≡ Ok v → IsSoundValue v
    bare None h = absurd (cc h)
    bare (Some n) h = subst IsSoundValue (ok_is (Number n) v h) tt

    by : (t : Bool) → cond t (operand_at bs >>= λ s. cond (list_all is_blank s.1) (Ok (Added s.0)) (Err flaws.BadLine)) (or_bad Number (number_in (b ∷ bs))) ≡ Ok v → IsSoundValue v
    by true h =
        let s = then_ok (operand_at bs) (λ s. cond (list_all is_blank s.1) (Ok (Added s.0)) (Err flaws.BadLine)) v h in
        added s.0 s.1 (list_all is_blank s.0.1) s.2
    by false h = bare (number_in (b ∷ bs)) h

cell_sound : (text : List ℕ) (v : PlainValue) → cell_of text ≡ Ok v → IsSoundValue v
unfolding cell_of
cell_sound text v e = at_sound (skip_blanks text) v e

values_sound : (texts : List (List ℕ)) (vs : List PlainValue) → values_of texts ≡ Ok vs → AllByRecursion IsSoundValue vs
unfolding values_of
values_sound [] vs e = subst (AllByRecursion IsSoundValue) (ok_is [] vs e) tt
values_sound (text ∷ texts) vs e = by (cell_of text) refl e (λ vs e. values_sound texts vs e)
  where
    by : (r : Result PlainValue Flaw) → cell_of text ≡ r → value_and r (values_of texts) ≡ Ok vs
        → ((vs : List PlainValue) → values_of texts ≡ Ok vs → AllByRecursion IsSoundValue vs) → AllByRecursion IsSoundValue vs
    by (Ok v) is h more =
        let all = then_ok (values_of texts) (λ all. Ok (v ∷ all)) vs h in
        subst (AllByRecursion IsSoundValue) (ok_is (v ∷ all.0) vs all.2) (cell_sound text v is, more all.0 all.1)
    by (Err flaws.BadExpression) is h more = let all = then_ok (values_of texts) (λ all. Err flaws.BadExpression) vs h in absurd (cc all.2)
    by (Err flaws.BadLine) is h more = absurd (cc h)
    by (Err flaws.UnknownDirective) is h more = absurd (cc h)
    by (Err flaws.NoMemory) is h more = absurd (cc h)

-- ---- directives

named_sound : (text n : List ℕ) → name_in text ≡ Ok n → IsName n
unfolding name_in
named_sound text n e = by (is_name (front_word (skip_blanks text)) && list_all is_blank (behind_word (skip_blanks text))) refl e
  where
    by : (t : Bool) → (is_name (front_word (skip_blanks text)) && list_all is_blank (behind_word (skip_blanks text))) ≡ t → cond t (Ok (front_word (skip_blanks text))) (Err flaws.BadLine) ≡ Ok n → IsName n
    by true is h = subst IsName (ok_is (front_word (skip_blanks text)) n h) (and_parts (is_name (front_word (skip_blanks text))) (list_all is_blank (behind_word (skip_blanks text))) is).0
    by false is h = absurd (cc h)

equ_sound : (text : List ℕ) (p : PlainPart) → equ_of text ≡ Ok p → IsSoundPart p
unfolding equ_of
equ_sound text p e = by (is_name (front_word (skip_blanks text))) refl e
  where
    valued : (o : Option ℤ) → number_in (behind_word (skip_blanks text)) ≡ o → is_name (front_word (skip_blanks text)) ≡ true → or_bad (Equ (front_word (skip_blanks text))) o ≡ Ok p → IsSoundPart p
    valued None is name h = absurd (cc h)
    valued (Some v) is name h = subst IsSoundPart (ok_is (Equ (front_word (skip_blanks text)) v) p h) (name, in_short (behind_word (skip_blanks text)) v is)

    by : (t : Bool) → is_name (front_word (skip_blanks text)) ≡ t → cond t (or_bad (Equ (front_word (skip_blanks text))) (number_in (behind_word (skip_blanks text)))) (Err flaws.BadLine) ≡ Ok p → IsSoundPart p
    by true is h = valued (number_in (behind_word (skip_blanks text))) refl is h
    by false is h = absurd (cc h)

space_sound : (text : List ℕ) (p : PlainPart) → space_of text ≡ Ok p → IsSoundPart p
unfolding space_of
space_sound text p e = by (number_of (front_word (skip_blanks text))) e
  where
    tested : (n : ℕ) (t : Bool) → (nat_le n 1048576 && list_all is_blank (behind_word (skip_blanks text))) ≡ t → cond t (Ok (Space n)) (Err flaws.BadLine) ≡ Ok p → IsSoundPart p
    tested n true is h = subst IsSoundPart (ok_is (Space n) p h) (leb-true n 1048576 (and_parts (nat_le n 1048576) (list_all is_blank (behind_word (skip_blanks text))) is).0)
    tested n false is h = absurd (cc h)

    by : (o : Option ℕ) → space_from o (behind_word (skip_blanks text)) ≡ Ok p → IsSoundPart p
    by None h = absurd (cc h)
    by (Some n) h = tested n (nat_le n 1048576 && list_all is_blank (behind_word (skip_blanks text))) refl h

cells_sound : (text : List ℕ) (p : PlainPart) → cells_of text ≡ Ok p → IsSoundPart p
cells_sound text p e =
    let texts : List (List ℕ) = slice_split (λ b. b == 44) text in
    let all = then_ok (values_of texts) (λ all. Ok (Cells all)) p e in
    subst IsSoundPart (ok_is (Cells all.0) p all.2) (values_sound texts all.0 all.1)

directive_sound : (word rest : List ℕ) (p : PlainPart) → directive_of word rest ≡ Ok p → IsSoundPart p
unfolding directive_of
directive_sound word rest p e =
    by (bytes_eq word (codes ".section")) (bytes_eq word (codes ".global")) (bytes_eq word (codes ".equ")) (bytes_eq word (codes ".word")) (bytes_eq word (codes ".space")) e
  where
    by : (section global equ values space : Bool)
        → cond section (name_in rest >>= λ name. Ok (Section name))
        (cond global (name_in rest >>= λ name. Ok (Global name))
        (cond equ (equ_of rest) (cond values (cells_of rest) (cond space (space_of rest) (Err flaws.UnknownDirective))))) ≡ Ok p
        → IsSoundPart p
    by true global equ values space h =
        let n = then_ok (name_in rest) (λ name. Ok (Section name)) p h in
        subst IsSoundPart (ok_is (Section n.0) p n.2) (named_sound rest n.0 n.1)
    by false true equ values space h =
        let n = then_ok (name_in rest) (λ name. Ok (Global name)) p h in
        subst IsSoundPart (ok_is (Global n.0) p n.2) (named_sound rest n.0 n.1)
    by false false true values space h = equ_sound rest p h
    by false false false true space h = cells_sound rest p h
    by false false false false true h = space_sound rest p h
    by false false false false false h = absurd (cc h)

-- ---- labels and tokens

label_sound : (text : List ℕ) (x : List ℕ × List ℕ) → label_at text ≡ Ok (Some x) → IsName x.0
unfolding label_at
label_sound text x e = by (behind_word text) e
  where
    named : (bs : List ℕ) (t : Bool) → is_name (front_word text) ≡ t → cond t (Ok (Some ((front_word text), bs))) (Err flaws.BadLine) ≡ Ok (Some x) → IsName x.0
    named bs true is h = subst (λ (z : List ℕ × List ℕ). IsName z.0) (some_is ((front_word text), bs) x (ok_is (Some ((front_word text), bs)) (Some x) h)) is
    named bs false is h = absurd (cc h)

    tested : (bs : List ℕ) (t : Bool) → cond t (named_label (front_word text) bs) (Ok None) ≡ Ok (Some x) → IsName x.0
    tested bs true h = named bs (is_name (front_word text)) refl h
    tested bs false h = absurd (cc h)

    by : (rest : List ℕ) → label_of (front_word text) rest ≡ Ok (Some x) → IsName x.0
    by [] h = absurd (cc h)
    by (b ∷ bs) h = tested bs (b == 58 && not (is_empty (front_word text))) h

token_sound : (text : List ℕ) (x : PlainToken × List ℕ) → token_at text ≡ Ok (Some x) → IsSoundToken x.0
unfolding token_at
token_sound text x e = by (behind_word text) e
  where
    same : (y : PlainToken × List ℕ) → ◌≡◌ {A = Result (Option (PlainToken × List ℕ)) Flaw} (Ok (Some y)) (Ok (Some x)) → IsSoundToken y.0 → IsSoundToken x.0
    same y h sound = subst (λ (z : PlainToken × List ℕ). IsSoundToken z.0) (some_is y x (ok_is (Some y) (Some x) h)) sound

    last : (t : Bool) → cond {A = Result (Option (PlainToken × List ℕ)) Flaw} t (Ok None) (Ok (Some (Run (front_word text), []))) ≡ Ok (Some x) → IsSoundToken x.0
    last true h = absurd (cc h)
    last false h = same (Run (front_word text), []) h tt

    more : (b : ℕ) (bs : List ℕ) (at empty : Bool)
        → cond at (operand_at bs >>= λ s. Ok (Some (Operand (front_word text) s.0, s.1))) (cond empty (Ok (Some (Sign b, bs))) (Ok (Some (Run (front_word text), b ∷ bs)))) ≡ Ok (Some x) → IsSoundToken x.0
    more b bs true empty h =
        let s = then_ok (operand_at bs) (λ s. Ok (Some (Operand (front_word text) s.0, s.1))) (Some x) h in
        same (Operand (front_word text) s.0.0, s.0.1) s.2 (operand_sound bs s.0 s.1)
    more b bs false true h = same (Sign b, bs) h tt
    more b bs false false h = same (Run (front_word text), b ∷ bs) h tt

    by : (rest : List ℕ) → token_of (front_word text) rest ≡ Ok (Some x) → IsSoundToken x.0
    by [] h = last (is_empty (front_word text)) h
    by (b ∷ bs) h = more b bs (b == 64) (is_empty (front_word text)) h

module _ {A : Type 0} (item : Item A) (P : A → Type 0) (each : (text : List ℕ) (x : A × List ℕ) → item text ≡ Ok (Some x) → P x.0) where
  abbrev Each : List A × List ℕ → Type 0
  Each r = AllByRecursion P r.0

  items_sound : (n : ℕ) (text : List ℕ) (r : List A × List ℕ) → items item n text ≡ Ok r → AllByRecursion P r.0
  unfolding items
  items_sound zero text r e = subst Each (ok_is ([], text) r e) tt
  items_sound (suc n) text r e =
      let o = then_ok (item (skip_blanks text)) (on_item (items item n) (skip_blanks text)) r e in
      by o.0 o.1 o.2 (λ text r e. items_sound n text r e)
    where
      by : (o : Option (A × List ℕ)) → item (skip_blanks text) ≡ Ok o → on_item (items item n) (skip_blanks text) o ≡ Ok r
          → ((text : List ℕ) (r : List A × List ℕ) → items item n text ≡ Ok r → AllByRecursion P r.0) → AllByRecursion P r.0
      by None is h more = subst Each (ok_is ([], skip_blanks text) r h) tt
      by (Some x) is h more =
          let all = then_ok (items item n x.1) (λ all. Ok (x.0 ∷ all.0, all.1)) r h in
          subst Each (ok_is (x.0 ∷ all.0.0, all.0.1) r all.2) (each (skip_blanks text) x is, more x.1 all.0 all.1)

-- ---- lines

part_sound : (text : List ℕ) (p : PlainPart) → part_at text ≡ Ok p → IsSoundPart p
part_sound [] p e = subst IsSoundPart (ok_is Nothing p e) tt
part_sound (b ∷ bs) p e = by (b == 46) e
  where
    by : (t : Bool) → cond t (directive_of (front_word (b ∷ bs)) (behind_word (b ∷ bs))) (all_items token_at (b ∷ bs) >>= λ all. Ok (Instruction all.0)) ≡ Ok p → IsSoundPart p
    by true h = directive_sound (front_word (b ∷ bs)) (behind_word (b ∷ bs)) p h
    by false h =
        let all = then_ok (all_items token_at (b ∷ bs)) (λ all. Ok (Instruction all.0)) p h in
        subst IsSoundPart (ok_is (Instruction all.0.0) p all.2) (items_sound token_at IsSoundToken token_sound (length (b ∷ bs)) (b ∷ bs) all.0 all.1)

part_of_sound : (text : List ℕ) (p : PlainPart) → part_of text ≡ Ok p → IsSoundPart p
unfolding part_of
part_of_sound text p e = part_sound text p e

abbrev IsSoundPair : List (List ℕ) × PlainPart → Type 0
IsSoundPair x = AllByRecursion IsName x.0 × IsSoundPart x.1

statement_sound : (text : List ℕ) (x : List (List ℕ) × PlainPart) → statement_of text ≡ Ok x → IsSoundPair x
statement_sound text x e =
    let labels = then_ok (all_items label_at text) (λ labels. part_of labels.1 >>= λ part. Ok (labels.0, part)) x e in
    let part = then_ok (part_of labels.0.1) (λ part. Ok (labels.0.0, part)) x labels.2 in
    subst IsSoundPair (ok_is (labels.0.0, part.0) x part.2)
    (items_sound label_at IsName label_sound (length text) text labels.0 labels.1, part_of_sound labels.0.1 part.0 part.1)

line_sound : (text : List ℕ) (x : List (List ℕ) × PlainPart) → line_of text ≡ Ok x → IsSoundPair x
unfolding line_of
line_sound text x e = by (list_all is_line_byte text) e
  where
    by : (t : Bool) → cond t (statement_of (before_first (λ b. b == 59) text)) (Err flaws.BadLine) ≡ Ok x → IsSoundPair x
    by true h = statement_sound (before_first (λ b. b == 59) text) x h
    by false h = absurd (cc h)

numbered_sound : (n : ℕ) (text : List ℕ) (l : PlainLine) → numbered n (line_of text) ≡ Ok l → IsSoundLine l
numbered_sound n text l e = by (line_of text) refl e
  where
    by : (r : Result (List (List ℕ) × PlainPart) Flaw) → line_of text ≡ r → numbered n r ≡ Ok l → IsSoundLine l
    by (Ok x) is h =
        let sound = line_sound text x is in
        subst IsSoundLine (ok_is (record { line = n; labels = x.0; part = x.1 }) l h) (record { labels = sound.0; part = sound.1 })
    by (Err flaw) is h = absurd (cc h)

from_sound : (n : ℕ) (texts : List (List ℕ)) (ls : List PlainLine) → source_from n texts ≡ Ok ls → AllByRecursion IsSoundLine ls
unfolding source_from
from_sound n [] ls e = subst (AllByRecursion IsSoundLine) (ok_is [] ls e) tt
from_sound n (text ∷ texts) ls e =
    let first = then_ok (numbered n (line_of text)) (λ first. source_from (n + 1) texts >>= λ more. Ok (first ∷ more)) ls e in
    let rest = then_ok (source_from (n + 1) texts) (λ more. Ok (first.0 ∷ more)) ls first.2 in
    subst (AllByRecursion IsSoundLine) (ok_is (first.0 ∷ rest.0) ls rest.2) (numbered_sound n text first.0 first.1, from_sound (n + 1) texts rest.0 rest.1)

-- the lines that the bytes of a source say
pub lines_sound : (bytes : List ℕ) (ls : List PlainLine) → source_of bytes ≡ Ok ls → AllByRecursion IsSoundLine ls
unfolding source_of
lines_sound bytes ls e = from_sound 1 (lines bytes) ls e
