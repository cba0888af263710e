-- An object's text spells it alone.
use Rattle.std.proofs.Common.{◌≡◌, ◌≢◌, ℕ, zero, suc, ◌+◌, ◌-◌, ◌*◌, ◌^◌, ◌<◌, ◌≤◌, Bool, true, false, cond, ℤ, pos, negsuc, List, [], ◌∷◌, ◌++◌, length, get_or, map, Option, Some, None, refl, sym, ap, subst, ◌∙◌, append_assoc, arith}
use Rattle.std.specs.Prelude.{◌==◌, ◌&&◌, ◌||◌, ◌-ℤ◌, int_le, codes, All, AllPairs, nat_lt, nat_le}
use Rattle.std.specs.List.{list_any, slice_split, flat_map}
use Rattle.std.specs.Str.{bytes_eq}
use Rattle.std.proofs.lemmas.Bool.{and_parts, and_from, false≢true, not-true, leb-true, ltb-true}
use Rattle.std.proofs.lemmas.Int.{ints}
use Rattle.std.proofs.lemmas.List.Elements.{All-nil, All-cons, All-head, All-tail}
use Rattle.std.proofs.Math.Pow.{pow_mono}
use Rattle.lisa_object.specs.declared.rules.Standing.{Standing}
use Rattle.lisa_object.specs.Texts.{line_of, digest_digits}
use Rattle.lisa_object.specs.Reading.{◌>>=◌, Word, is_last, opening_of}
use Rattle.lisa_object.specs.Objects.{PlainObjectLine, Section, Space, Label, Equ, Global, Cell, Fix, PlainObject}
use Rattle.lisa_object.specs.ObjectText.{line_words, object_head, object_lines, object_text}
use Rattle.lisa_object.specs.ObjectRules.{has_names, is_within, fits_kind, is_clear, is_sum, defined, IsObject}
use Rattle.lisa_object.specs.LineMachine.{start, may_follow, after, are_lines}
use Rattle.lisa_object.specs.ObjectReading.{line_at, is_new, next_line, lines_of, object_of}
use Rattle.lisa_object.proofs.Options.{bind_some, some_is, guard_some}
use Rattle.lisa_object.proofs.WordLaws.{same_bytes, bytes_same}
use Rattle.lisa_object.proofs.TextLaws.{all_lack, all_lack-append, line_lacks, text_parts, parts_text}
use Rattle.lisa_object.proofs.PlainWords.{plain_lacks}
use Rattle.lisa_object.proofs.DigestLaws.{digest_plain}
use Rattle.lisa_object.proofs.HeadLaws.{opening_there, opening_back}
use Rattle.lisa_object.proofs.LineRules.{lines_keep_rules, rules_make_lines}
use Rattle.lisa_object.proofs.ObjectLineLaws.{IsShortInt, FitsLine, line_there, line_back, feeds_lack, end_is_none}

-- ---- numbers within their types

abbrev Small : Standing → Type 0
Small st = (st.width ≤ 64) × (st.below ≤ 64)

low_int : (m n : ℕ) → int_le (pos 0 -ℤ pos m) (negsuc n) ≡ true → suc n ≤ m
low_int zero n e = absurd (false≢true (sym (ap (λ (z : ℤ). int_le z (negsuc n)) none) ∙ e))
  where
    none : pos 0 -ℤ pos 0 ≡ pos 0
    none = omega (arith, ints)
low_int (suc k) n e =
    let minus : pos 0 -ℤ pos (suc k) ≡ negsuc k = omega (arith, ints) in
    let le : n ≤ k = leb-true n k (sym (ap (λ (z : ℤ). int_le z (negsuc n)) minus) ∙ e) in
    omega arith

short_int : (m : ℕ) (z : ℤ) → m < 10 ^ 21 → is_within m z ≡ true → IsShortInt z
short_int m (pos n) lt e =
    let p = and_parts (int_le (pos 0 -ℤ pos m) (pos n)) (int_le (pos n) (pos m)) e in
    omega (arith, leb-true n m p.1)
short_int m (negsuc n) lt e =
    let p = and_parts (int_le (pos 0 -ℤ pos m) (negsuc n)) (int_le (negsuc n) (pos m)) e in
    omega (arith, low_int m n p.0)

fits : (st : Standing) (l : PlainObjectLine) → Small st → may_follow st l ≡ true → FitsLine l
fits st (Section n w) small e = let p = and_parts (nat_le 1 w) (nat_le w 64) e in omega (arith, leb-true w 64 p.1)
fits st (Space n) small e = let p = and_parts (nat_lt 0 st.width) (nat_le n 1048576) e in omega (arith, leb-true n 1048576 p.1)
fits st (Label n) small e = tt
fits st (Equ n v) small e = short_int (2 ^ 64 - 1) v (omega arith) e
fits st (Global n) small e = tt
fits st (Cell v) small e = let p = and_parts (nat_lt 0 st.width) (nat_lt v (2 ^ st.width)) e in omega (arith, ltb-true v (2 ^ st.width) p.1, pow_mono {i = st.width} {j = 64} small.0)
fits st (Fix l w k s) small e =
    let p1 = and_parts (nat_le 1 w && nat_le (l + w) st.below && is_clear st.cell l w && fits_kind st.width k l w) (is_sum s) e in
    let p2 = and_parts (nat_le 1 w && nat_le (l + w) st.below && is_clear st.cell l w) (fits_kind st.width k l w) p1.0 in
    let p3 = and_parts (nat_le 1 w && nat_le (l + w) st.below) (is_clear st.cell l w) p2.0 in
    let p4 = and_parts (nat_le 1 w) (nat_le (l + w) st.below) p3.0 in
    let low : l + w ≤ st.below = leb-true (l + w) st.below p4.1 in
    let sum = and_parts (is_within (8 * (2 ^ 64 - 1)) s.constant) (nat_le (length s.terms) 8) p1.1 in
    (omega (arith, low, small.1), omega (arith, low, small.1), short_int (8 * (2 ^ 64 - 1)) s.constant (omega arith) sum.0)

small_on : (st : Standing) (l : PlainObjectLine) → Small st → may_follow st l ≡ true → Small (after st l)
small_on st (Section n w) small e = let p = and_parts (nat_le 1 w) (nat_le w 64) e in (leb-true w 64 p.1, omega arith)
small_on st (Space n) small e = (small.0, omega arith)
small_on st (Label n) small e = (small.0, omega arith)
small_on st (Equ n v) small e = (small.0, omega arith)
small_on st (Global n) small e = (small.0, omega arith)
small_on st (Cell v) small e = (small.0, small.0)
small_on st (Fix l w k s) small e =
    let p1 = and_parts (nat_le 1 w && nat_le (l + w) st.below && is_clear st.cell l w && fits_kind st.width k l w) (is_sum s) e in
    let p2 = and_parts (nat_le 1 w && nat_le (l + w) st.below && is_clear st.cell l w) (fits_kind st.width k l w) p1.0 in
    let p3 = and_parts (nat_le 1 w && nat_le (l + w) st.below) (is_clear st.cell l w) p2.0 in
    let p4 = and_parts (nat_le 1 w) (nat_le (l + w) st.below) p3.0 in
    (small.0, omega (arith, leb-true (l + w) st.below p4.1, small.1))

-- ---- lines behind others

-- lines that may stand behind others, of which these names were defined
abbrev Stand : Standing → List Word → List PlainObjectLine → Type 0
Stand st seen [] = Unit {0}
Stand st seen (l ∷ ls) = (has_names l ≡ true) × (may_follow st l ≡ true) × (is_new seen (defined l) ≡ true) × Stand (after st l) (defined l ++ seen) ls

abbrev line_texts : List PlainObjectLine → List Word
line_texts ls = map (λ l. line_of (line_words l)) ls

not_end : (line : Word) (l : PlainObjectLine) → line_at line ≡ Some l → bytes_eq line (codes "end") ≡ false
not_end line l e = go (bytes_eq line (codes "end")) refl
  where
    go : (t : Bool) → bytes_eq line (codes "end") ≡ t → bytes_eq line (codes "end") ≡ false
    go true is = absurd (let f : ◌≡◌ {A = Option PlainObjectLine} None (Some l) = sym end_is_none ∙ ap line_at (sym (bytes_same line (codes "end") is)) ∙ e in cc)
    go false is = is

pub lines_there : (st : Standing) (seen : List Word) (ls : List PlainObjectLine) → Small st → Stand st seen ls → lines_of st seen (line_texts ls ++ codes "end" ∷ [] ∷ []) ≡ Some ls
unfolding lines_of
lines_there st seen [] small h = refl
lines_there st seen (l ∷ ls) small h =
    let there = line_there l h.0 (fits st l small h.1) in
    rw (not_end (line_of (line_words l)) l there, there, h.1, h.2, lines_there (after st l) (defined l ++ seen) ls (small_on st l small h.1) h.3) refl

last_back : (lines : List Word) → is_last lines ≡ true → lines ≡ [] ∷ []
last_back [] e = absurd (false≢true e)
last_back ([] ∷ []) e = refl
last_back ([] ∷ w ∷ ws) e = absurd (false≢true e)
last_back ((b ∷ bs) ∷ ws) e = absurd (false≢true e)

pub lines_back : (st : Standing) (seen lines : List Word) (ls : List PlainObjectLine) → lines_of st seen lines ≡ Some ls → (lines ≡ line_texts ls ++ codes "end" ∷ [] ∷ []) × Stand st seen ls
unfolding lines_of
lines_back st seen [] ls e = absurd cc
lines_back st seen (line ∷ lines) ls e = go (bytes_eq line (codes "end")) refl e (λ st seen ls e. lines_back st seen lines ls e)
  where
    go : (t : Bool) → bytes_eq line (codes "end") ≡ t
        → cond t (cond (is_last lines) (Some []) None) (next_line st seen line >>= λ l. lines_of (after st l) (defined l ++ seen) lines >>= λ more. Some (l ∷ more)) ≡ Some ls
        → ((st : Standing) (seen : List Word) (ls : List PlainObjectLine) → lines_of st seen lines ≡ Some ls → (lines ≡ line_texts ls ++ codes "end" ∷ [] ∷ []) × Stand st seen ls)
        → (line ∷ lines ≡ line_texts ls ++ codes "end" ∷ [] ∷ []) × Stand st seen ls
    go true is f more =
        let a = guard_some (is_last lines) [] ls f in
        subst (λ (x : List PlainObjectLine). (line ∷ lines ≡ line_texts x ++ codes "end" ∷ [] ∷ []) × Stand st seen x) a.1
        (ap (λ (l : Word). l ∷ lines) (bytes_same line (codes "end") is) ∙ ap (λ (l : List Word). codes "end" ∷ l) (last_back lines a.0), tt)
    go false is f more =
        let a = bind_some (next_line st seen line) (λ l. lines_of (after st l) (defined l ++ seen) lines >>= λ more. Some (l ∷ more)) ls f in
        let b = bind_some (lines_of (after st a.0) (defined a.0 ++ seen) lines) (λ more. Some (a.0 ∷ more)) ls a.2 in
        let d = bind_some (line_at line) (λ l. cond (may_follow st l && is_new seen (defined l)) (Some l) None) a.0 a.1 in
        let g = guard_some (may_follow st d.0 && is_new seen (defined d.0)) d.0 a.0 d.2 in
        let tests = and_parts (may_follow st d.0) (is_new seen (defined d.0)) g.0 in
        let text = line_back line a.0 (d.1 ∙ ap (λ (x : PlainObjectLine). Some x) g.1) in
        let rest = more (after st a.0) (defined a.0 ++ seen) b.0 b.1 in
        subst (λ (x : List PlainObjectLine). (line ∷ lines ≡ line_texts x ++ codes "end" ∷ [] ∷ []) × Stand st seen x) (some_is (a.0 ∷ b.0) ls b.2) (
          ap (λ (l : Word). l ∷ lines) text.text ∙ ap (λ (l : List Word). line_of (line_words a.0) ∷ l) rest.0,
          (text.names, subst (λ (x : PlainObjectLine). may_follow st x ≡ true) g.1 tests.0, subst (λ (x : PlainObjectLine). is_new seen (defined x) ≡ true) g.1 tests.1, rest.1),
        )

-- ---- names

abbrev Differ : Word → Word → Type 0
Differ a b = a ≢ b

abbrev Unseen : List Word → Word → Type 0
Unseen seen n = list_any (bytes_eq n) seen ≡ false

record Fresh (seen names : List Word) : Type 0 where
  distinct : AllPairs Differ names
  unseen : All (Unseen seen) names

unlike : (xs ys : Word) → (ys ≡ xs → ⊥) → bytes_eq xs ys ≡ false
unlike xs ys h = go (bytes_eq xs ys) refl
  where
    go : (t : Bool) → bytes_eq xs ys ≡ t → bytes_eq xs ys ≡ false
    go true e = absurd (h (sym (bytes_same xs ys e)))
    go false e = e

fresh_tail : (seen : List Word) (n : Word) (ns : List Word) → Fresh seen (n ∷ ns) → Fresh (n ∷ seen) ns
fresh_tail seen n ns h = record {
  distinct = λ i j d lt within. h.distinct (suc i) (suc j) d (omega arith) (omega arith);
  unseen = λ k d lt. rw (unlike (get_or ns k d) n (h.distinct 0 (suc k) d (omega arith) (omega arith))) (All-tail (Unseen seen) n ns h.unseen k d lt);
}

old_new : (n : Word) (seen : List Word) (m : Word) → Unseen (n ∷ seen) m → Differ n m × Unseen seen m
old_new n seen m h = go (bytes_eq m n) refl h
  where
    go : (t : Bool) → bytes_eq m n ≡ t → (t || list_any (bytes_eq m) seen) ≡ false → Differ n m × Unseen seen m
    go true e f = absurd (false≢true (sym f))
    go false e f = (λ same. false≢true (sym e ∙ same_bytes m n (sym same)), f)

fresh_cons : (seen : List Word) (n : Word) (ns : List Word) → Unseen seen n → Fresh (n ∷ seen) ns → Fresh seen (n ∷ ns)
fresh_cons seen n ns here h = record {
  distinct = λ i j d lt within. go i j d lt within;
  unseen = All-cons (Unseen seen) n ns here (λ k d lt. (old_new n seen (get_or ns k d) (h.unseen k d lt)).1);
}
  where
    go : (i j : ℕ) (d : Word) → i < j → j < length (n ∷ ns) → Differ (get_or (n ∷ ns) i d) (get_or (n ∷ ns) j d)
    go i zero d lt within = absurd (omega arith)
    go zero (suc j) d lt within = (old_new n seen (get_or ns j d) (h.unseen j d (omega arith))).0
    go (suc i) (suc j) d lt within = h.distinct i j d (omega arith) (omega arith)

-- a line defines no name or one
with_name : (seen : List Word) (n : Word) (ns : List Word) → Fresh seen (n ∷ ns) → (is_new seen (n ∷ []) ≡ true) × Fresh (n ∷ seen) ns
with_name seen n ns h = (rw (All-head (Unseen seen) n ns h.unseen) refl, fresh_tail seen n ns h)

names_first : (seen : List Word) (l : PlainObjectLine) (ns : List Word) → Fresh seen (defined l ++ ns) → (is_new seen (defined l) ≡ true) × Fresh (defined l ++ seen) ns
names_first seen (Section n w) ns h = (refl, h)
names_first seen (Space n) ns h = (refl, h)
names_first seen (Label n) ns h = with_name seen n ns h
names_first seen (Equ n v) ns h = with_name seen n ns h
names_first seen (Global n) ns h = (refl, h)
names_first seen (Cell v) ns h = (refl, h)
names_first seen (Fix l w k s) ns h = (refl, h)

names_back : (seen : List Word) (l : PlainObjectLine) (ns : List Word) → is_new seen (defined l) ≡ true → Fresh (defined l ++ seen) ns → Fresh seen (defined l ++ ns)
names_back seen (Section n w) ns e h = h
names_back seen (Space n) ns e h = h
names_back seen (Label n) ns e h = fresh_cons seen n ns (not-true (list_any (bytes_eq n) seen) e) h
names_back seen (Equ n v) ns e h = fresh_cons seen n ns (not-true (list_any (bytes_eq n) seen) e) h
names_back seen (Global n) ns e h = h
names_back seen (Cell v) ns e h = h
names_back seen (Fix l w k s) ns e h = h

stands : (st : Standing) (seen : List Word) (ls : List PlainObjectLine) → are_lines st ls ≡ true → Fresh seen (flat_map defined ls) → Stand st seen ls
stands st seen [] e h = tt
stands st seen (l ∷ ls) e h =
    let p = and_parts (has_names l && may_follow st l) (are_lines (after st l) ls) e in
    let q = and_parts (has_names l) (may_follow st l) p.0 in
    let names = names_first seen l (flat_map defined ls) h in
    (q.0, q.1, names.0, stands (after st l) (defined l ++ seen) ls p.1 names.1)

record Kept (st : Standing) (seen : List Word) (ls : List PlainObjectLine) : Type 0 where
  lines : are_lines st ls ≡ true
  names : Fresh seen (flat_map defined ls)

kept : (st : Standing) (seen : List Word) (ls : List PlainObjectLine) → Stand st seen ls → Kept st seen ls
kept st seen [] h = record { lines = refl; names = record { distinct = λ i j d lt within. absurd (omega arith); unseen = All-nil (Unseen seen) } }
kept st seen (l ∷ ls) h =
    let more = kept (after st l) (defined l ++ seen) ls h.3 in
    record { lines = and_from _ _ (and_from _ _ h.0 h.1) more.lines; names = names_back seen l (flat_map defined ls) h.2 more.names }

-- ---- found

last_lines : (o : PlainObject) → object_head o.digest ∷ (line_texts o.lines ++ codes "end" ∷ [] ∷ []) ≡ object_lines o ++ [] ∷ []
last_lines o = ap (λ (l : List Word). object_head o.digest ∷ l) (sym (append_assoc (line_texts o.lines) (codes "end" ∷ []) ([] ∷ [])))

pub record IsSpelled (bytes : List ℕ) (o : PlainObject) : Type 0 where
  pub keeps : IsObject o
  pub text : bytes ≡ object_text o

found_parts : (bytes : List ℕ) (parts : List Word) (o : PlainObject) → slice_split (λ b. b == 10) bytes ≡ parts → object_of parts ≡ Some o → IsSpelled bytes o
unfolding object_of
found_parts bytes [] o is e = absurd cc
found_parts bytes (line ∷ lines) o is e =
    let a = bind_some (opening_of (codes "object") line) (λ d. lines_of start [] lines >>= λ ls. Some (record { digest = d; lines = ls })) o e in
    let b = bind_some (lines_of start [] lines) (λ ls. Some (record { digest = a.0; lines = ls })) o a.2 in
    let head = opening_back (codes "object") line a.0 a.1 in
    let rest = lines_back start [] lines b.0 b.1 in
    let rules = kept start [] b.0 rest.1 in
    let made : PlainObject = record { digest = a.0; lines = b.0 } in
    subst (λ (x : PlainObject). IsSpelled bytes x) (some_is made o b.2) (record {
      keeps = record { digest = head.1; lines = lines_keep_rules b.0 rules.lines; distinct = rules.names.distinct };
      text = parts_text bytes (object_lines made) (is ∙ ap (λ (l : Word). l ∷ lines) head.0 ∙ ap (λ (l : List Word). object_head a.0 ∷ l) rest.0 ∙ last_lines made);
    })

pub found : (bytes : List ℕ) (o : PlainObject) → object_of (slice_split (λ b. b == 10) bytes) ≡ Some o → IsSpelled bytes o
found bytes o e = found_parts bytes (slice_split (λ b. b == 10) bytes) o refl e

-- ---- and no other

texts_lack : (st : Standing) (ls : List PlainObjectLine) → Small st → are_lines st ls ≡ true → all_lack 10 (line_texts ls) ≡ true
texts_lack st [] small e = refl
texts_lack st (l ∷ ls) small e =
    let p = and_parts (has_names l && may_follow st l) (are_lines (after st l) ls) e in
    let q = and_parts (has_names l) (may_follow st l) p.0 in
    and_from _ _ (line_lacks 10 (line_words l) refl (feeds_lack l q.0 (fits st l small q.1))) (texts_lack (after st l) ls (small_on st l small q.1) p.1)

small_start : Small start
small_start = (omega arith, omega arith)

lines_lack : (o : PlainObject) → IsObject o → all_lack 10 (object_lines o) ≡ true
lines_lack o h =
    and_from _ _ (line_lacks 10 (codes "object" ∷ codes "1" ∷ digest_digits o.digest ∷ []) refl (and_from _ _ refl (and_from _ _ refl (and_from _ _ (plain_lacks 10 (digest_digits o.digest) (omega arith) (digest_plain o.digest)) refl))))
    (all_lack-append 10 (line_texts o.lines) (codes "end" ∷ []) (texts_lack start o.lines small_start (rules_make_lines o.lines h.lines)) refl)

pub only : (o : PlainObject) → IsObject o → object_of (slice_split (λ b. b == 10) (object_text o)) ≡ Some o
unfolding object_of
only o h =
    let parts = text_parts (object_lines o) (lines_lack o h) ∙ sym (last_lines o) in
    let names : Fresh [] (flat_map defined o.lines) = record { distinct = h.distinct; unseen = λ k d lt. refl } in
    let lines = lines_there start [] o.lines small_start (stands start [] o.lines (rules_make_lines o.lines h.lines) names) in
    let opening = opening_there (codes "object") o.digest refl h.digest in
    ap object_of parts ∙ ap (λ (q : Option (List ℕ)). q >>= λ d. lines_of start [] (line_texts o.lines ++ codes "end" ∷ [] ∷ []) >>= λ ls. Some (record { digest = d; lines = ls })) opening
    ∙ ap (λ (q : Option (List PlainObjectLine)). q >>= λ ls. Some (record { digest = o.digest; lines = ls })) lines
