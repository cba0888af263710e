-- A reader that goes from line to line takes those lines that the rules of objects allow.
use Rattle.std.proofs.Common.{◌≡◌, ◌<◌, ◌≤◌, ◌+◌, ◌^◌, ◌⊎◌, inl, inr, ℕ, true, List, [], ◌∷◌, ◌++◌, append_assoc, append-nil, Some, reverse, get_or, refl, sym, ap, subst, ◌∙◌, arith}
use Rattle.std.specs.Prelude.{◌&&◌, All, IsTrue, nat_le, nat_lt}
use Rattle.std.specs.List.{flat_map}
use Rattle.std.proofs.lemmas.Bool.{and_parts, and_from, le-leb, leb-true, lt-ltb, ltb-true}
use Rattle.std.proofs.lemmas.List.{flat_map_more, reverse-append, same_from_push}
use Rattle.std.proofs.lemmas.List.Elements.{All-nil, All-cons, All-head, All-tail, All-push, All-pop, All-weaker}
use Rattle.asm_source.specs.Plain.{PlainSum}
use Rattle.lisa_object.specs.declared.parts.FixKind.{FixKind}
use Rattle.lisa_object.specs.declared.rules.Standing.{Standing}
use Rattle.lisa_object.specs.Objects.{PlainObjectLine, Section, Space, Label, Equ, Global, Cell, Fix}
use Rattle.lisa_object.specs.ObjectRules.{has_names, is_sum, IsInRange, widths, section_width, fits_kind, is_clear, IsFixFrom, HasCell, MayStand, AreLines}
use Rattle.lisa_object.specs.LineMachine.{start, may_follow, after, are_lines}

abbrev Ls : Type 0
Ls = List PlainObjectLine

-- ---- the width of a section

-- one line more
abbrev next_width : Ls → PlainObjectLine → ℕ
next_width before l = get_or (reverse (widths l) ++ reverse (flat_map widths before)) 0 0

width_more : (before : Ls) (l : PlainObjectLine) → section_width (before ++ l ∷ []) ≡ next_width before l
width_more before l =
    let more : flat_map widths before ++ widths l ≡ flat_map widths (before ++ l ∷ []) = flat_map_more widths [] before l in
    ap (λ (ws : List ℕ). get_or (reverse ws) 0 0) (sym more) ∙ ap (λ (ws : List ℕ). get_or ws 0 0) (reverse-append (flat_map widths before) (widths l))

width_after : (before : Ls) (l : PlainObjectLine) (st : Standing) → st.width ≡ section_width before → (after st l).width ≡ section_width (before ++ l ∷ [])
width_after before l st e = by l ∙ sym (width_more before l)
  where
    by : (l : PlainObjectLine) → (after st l).width ≡ next_width before l
    by (Section n w) = refl
    by (Space n) = e
    by (Label n) = e
    by (Equ n v) = e
    by (Global n) = e
    by (Cell v) = e
    by (Fix l w k s) = e

-- ---- what a reader takes keeps the rules

-- the cell whose fixes may follow
record HasLast (before : Ls) (st : Standing) : Type 0 where
  front : Ls
  between : Ls
  cell : before ≡ front ++ Cell st.cell ∷ between
  above : All (IsFixFrom st.below) between
  within : st.below ≤ section_width front
  width : st.width ≡ section_width front

record IsAt (before : Ls) (st : Standing) : Type 0 where
  width : st.width ≡ section_width before
  last : 0 < st.below → HasLast before st

fix_from : (low high : ℕ) → low ≤ high → (l : PlainObjectLine) → IsFixFrom high l → IsFixFrom low l
fix_from low high le (Section n w) h = h
fix_from low high le (Space n) h = h
fix_from low high le (Label n) h = h
fix_from low high le (Equ n v) h = h
fix_from low high le (Global n) h = h
fix_from low high le (Cell v) h = h
fix_from low high le (Fix l w k s) h = omega (arith, le, h)

-- a fix that may follow
record Follows (st : Standing) (l w : ℕ) (k : FixKind) (s : PlainSum) : Type 0 where
  some : 1 ≤ w
  within : l + w ≤ st.below
  clear : is_clear st.cell l w ≡ true
  kind_fits : fits_kind st.width k l w ≡ true
  sum : is_sum s ≡ true

follows : (st : Standing) (l w : ℕ) (k : FixKind) (s : PlainSum) → may_follow st (Fix l w k s) ≡ true → Follows st l w k s
follows st l w k s e =
    let p1 = and_parts (nat_le 1 w && nat_le (l + w) st.below && is_clear st.cell l w && fits_kind st.width k l w) (is_sum s) e in
    let p2 = and_parts (nat_le 1 w && nat_le (l + w) st.below && is_clear st.cell l w) (fits_kind st.width k l w) p1.0 in
    let p3 = and_parts (nat_le 1 w && nat_le (l + w) st.below) (is_clear st.cell l w) p2.0 in
    let p4 = and_parts (nat_le 1 w) (nat_le (l + w) st.below) p3.0 in
    record { some = leb-true 1 w p4.0; within = leb-true (l + w) st.below p4.1; clear = p3.1; kind_fits = p2.1; sum = p1.1 }

fix_stands : (before : Ls) (st : Standing) (l w : ℕ) (k : FixKind) (s : PlainSum) → IsAt before st → Follows st l w k s → HasCell before l w k
fix_stands before st l w k s at f =
    let some : 0 < st.below = omega (arith, f.some, f.within) in
    let last = at.last some in
    record {
      front = last.front;
      bits = st.cell;
      between = last.between;
      cell = last.cell;
      above = All-weaker (IsFixFrom st.below) (IsFixFrom (l + w)) (fix_from (l + w) st.below f.within) last.between last.above;
      within = omega (arith, f.within, last.within);
      clear = f.clear;
      kind_fits = subst (λ (n : ℕ). fits_kind n k l w ≡ true) last.width f.kind_fits;
    }

in_section : (before : Ls) (st : Standing) → IsAt before st → nat_lt 0 st.width ≡ true → 0 < section_width before
in_section before st at e = subst (λ (n : ℕ). 0 < n) at.width (ltb-true 0 st.width e)

stands : (before : Ls) (st : Standing) (l : PlainObjectLine) → IsAt before st → may_follow st l ≡ true → MayStand before l
stands before st (Section n w) at e = tt
stands before st (Space n) at e = in_section before st at (and_parts (nat_lt 0 st.width) (nat_le n 1048576) e).0
stands before st (Label n) at e = in_section before st at e
stands before st (Equ n v) at e = tt
stands before st (Global n) at e = tt
stands before st (Cell v) at e =
    let p = and_parts (nat_lt 0 st.width) (nat_lt v (2 ^ st.width)) e in
    (in_section before st at p.0, subst (λ (n : ℕ). v < 2 ^ n) at.width (ltb-true v (2 ^ st.width) p.1))
stands before st (Fix l w k s) at e = fix_stands before st l w k s at (follows st l w k s e)

in_range : (st : Standing) (l : PlainObjectLine) → may_follow st l ≡ true → IsInRange l
in_range st (Section n w) e = let p = and_parts (nat_le 1 w) (nat_le w 64) e in (leb-true 1 w p.0, leb-true w 64 p.1)
in_range st (Space n) e = leb-true n 1048576 (and_parts (nat_lt 0 st.width) (nat_le n 1048576) e).1
in_range st (Label n) e = tt
in_range st (Equ n v) e = e
in_range st (Global n) e = tt
in_range st (Cell v) e = tt
in_range st (Fix l w k s) e = let f = follows st l w k s e in (f.some, f.sum)

no_last : (before : Ls) (st : Standing) → st.below ≡ 0 → 0 < st.below → HasLast before st
no_last before st none some = absurd (omega (arith, none, some))

last_on : (before : Ls) (st : Standing) (l : PlainObjectLine) → IsAt before st → may_follow st l ≡ true → 0 < (after st l).below → HasLast (before ++ l ∷ []) (after st l)
last_on before st (Section n w) at e = no_last (before ++ Section n w ∷ []) (after st (Section n w)) refl
last_on before st (Space n) at e = no_last (before ++ Space n ∷ []) (after st (Space n)) refl
last_on before st (Label n) at e = no_last (before ++ Label n ∷ []) (after st (Label n)) refl
last_on before st (Equ n v) at e = no_last (before ++ Equ n v ∷ []) (after st (Equ n v)) refl
last_on before st (Global n) at e = no_last (before ++ Global n ∷ []) (after st (Global n)) refl
last_on before st (Cell v) at e = λ some. record {
  front = before;
  between = [];
  cell = refl;
  above = All-nil (IsFixFrom st.width);
  within = omega (arith, at.width);
  width = at.width;
}
last_on before st (Fix l w k s) at e = λ some.
    let f = follows st l w k s e in
    let last = at.last (omega (arith, f.some, f.within)) in
    let this : PlainObjectLine = Fix l w k s in
    record {
      front = last.front;
      between = last.between ++ this ∷ [];
      cell = ap (λ (ls : Ls). ls ++ this ∷ []) last.cell ∙ append_assoc last.front (Cell st.cell ∷ last.between) (this ∷ []);
      above = All-push (IsFixFrom l) last.between this (All-weaker (IsFixFrom st.below) (IsFixFrom l) (fix_from l st.below (omega (arith, f.within))) last.between last.above) (omega arith);
      within = omega (arith, f.within, last.within);
      width = last.width;
    }

at_on : (before : Ls) (st : Standing) (l : PlainObjectLine) → IsAt before st → may_follow st l ≡ true → IsAt (before ++ l ∷ []) (after st l)
at_on before st l at e = record { width = width_after before l st at.width; last = last_on before st l at e }

taken : (st : Standing) (l : PlainObjectLine) (ls : Ls) → are_lines st (l ∷ ls) ≡ true → (has_names l ≡ true) × (may_follow st l ≡ true) × (are_lines (after st l) ls ≡ true)
taken st l ls e =
    let p = and_parts (has_names l && may_follow st l) (are_lines (after st l) ls) e in
    let q = and_parts (has_names l) (may_follow st l) p.0 in
    (q.0, q.1, p.1)

abbrev InOrder : Ls → Ls → Type 0
InOrder front ls = (before behind : Ls) (l : PlainObjectLine) → ls ≡ before ++ l ∷ behind → MayStand (front ++ before) l

in_order : (front : Ls) (st : Standing) (ls : Ls) → IsAt front st → are_lines st ls ≡ true → InOrder front ls
in_order front st [] at e [] behind l is = absurd cc
in_order front st [] at e (b ∷ before) behind l is = absurd cc
in_order front st (m ∷ ls) at e [] behind l is =
    let t = taken st m ls e in
    let same : m ≡ l = cc in
    subst (λ (x : PlainObjectLine). MayStand (front ++ []) x) same (subst (λ (f : Ls). MayStand f m) (sym (append-nil front)) (stands front st m at t.1))
in_order front st (m ∷ ls) at e (b ∷ before) behind l is =
    let t = taken st m ls e in
    let same : m ≡ b = cc in
    let rest : ls ≡ before ++ l ∷ behind = cc in
    let more = in_order (front ++ m ∷ []) (after st m) ls (at_on front st m at t.1) t.2 before behind l rest in
    subst (λ (x : PlainObjectLine). MayStand (front ++ x ∷ before) l) same (subst (λ (f : Ls). MayStand f l) (append_assoc front (m ∷ []) before) more)

names_are : (st : Standing) (ls : Ls) → are_lines st ls ≡ true → All (λ l. IsTrue (has_names l)) ls
names_are st [] e = All-nil (λ l. IsTrue (has_names l))
names_are st (l ∷ ls) e = let t = taken st l ls e in All-cons (λ l. IsTrue (has_names l)) l ls t.0 (names_are (after st l) ls t.2)

ranges_are : (st : Standing) (ls : Ls) → are_lines st ls ≡ true → All IsInRange ls
ranges_are st [] e = All-nil IsInRange
ranges_are st (l ∷ ls) e = let t = taken st l ls e in All-cons IsInRange l ls (in_range st l t.1) (ranges_are (after st l) ls t.2)

pub lines_keep_rules : (ls : Ls) → are_lines start ls ≡ true → AreLines ls
lines_keep_rules ls e = record {
  names = names_are start ls e;
  ranges = ranges_are start ls e;
  order = in_order [] start ls (record { width = refl; last = no_last [] start refl }) e;
}

-- ---- and what keeps the rules is taken

-- What a reader keeps of lines, at each cell that they end in with fixes above this bit behind it.
record IsLast (st : Standing) (front : Ls) (bits bit : ℕ) : Type 0 where
  cell : st.cell ≡ bits
  below : bit ≤ st.below
  width : st.width ≡ section_width front

record IsKept (before : Ls) (st : Standing) : Type 0 where
  width : st.width ≡ section_width before
  last : (front between : Ls) (bits bit : ℕ) → before ≡ front ++ Cell bits ∷ between → All (IsFixFrom bit) between → bit ≤ section_width front → IsLast st front bits bit

kept_start : IsKept [] start
kept_start = record { width = refl; last = none }
  where
    none : (front between : Ls) (bits bit : ℕ) → [] ≡ front ++ Cell bits ∷ between → All (IsFixFrom bit) between → bit ≤ section_width front → IsLast start front bits bit
    none [] between bits bit e above within = absurd cc
    none (l ∷ front) between bits bit e above within = absurd cc

abbrev Ends : Ls → Type 0
Ends ls = (ls ≡ []) ⊎ ((init : Ls) × (l : PlainObjectLine) × (ls ≡ init ++ l ∷ []))

ends : (ls : Ls) → Ends ls
ends [] = inl refl
ends (l ∷ ls) = by (ends ls)
  where
    by : Ends ls → Ends (l ∷ ls)
    by (inl e) = inr ([], l, ap (λ (x : Ls). l ∷ x) e)
    by (inr (init, last, e)) = inr (l ∷ init, last, ap (λ (x : Ls). l ∷ x) e)

-- the line is the cell itself
last_cell : (before front : Ls) (st : Standing) (bits bit : ℕ) → IsKept before st → before ≡ front → bit ≤ section_width front → IsLast (after st (Cell bits)) front bits bit
last_cell before front st bits bit kept same within =
    let width : st.width ≡ section_width front = kept.width ∙ ap section_width same in
    record { cell = refl; below = omega (arith, width, within); width = width }

-- the line is a fix of it
last_fix : (st : Standing) (l : PlainObjectLine) (front : Ls) (bits bit : ℕ) → IsFixFrom bit l → IsLast st front bits bit → IsLast (after st l) front bits bit
last_fix st (Section n w) front bits bit h last = absurd h
last_fix st (Space n) front bits bit h last = absurd h
last_fix st (Label n) front bits bit h last = absurd h
last_fix st (Equ n v) front bits bit h last = absurd h
last_fix st (Global n) front bits bit h last = absurd h
last_fix st (Cell v) front bits bit h last = absurd h
last_fix st (Fix l w k s) front bits bit h last = record { cell = last.cell; below = h; width = last.width }

kept_on : (before : Ls) (st : Standing) (l : PlainObjectLine) → IsKept before st → IsKept (before ++ l ∷ []) (after st l)
kept_on before st l kept = record { width = width_after before l st kept.width; last = λ front between bits bit e above within. by front between bits bit e above within (ends between) }
  where
    by : (front between : Ls) (bits bit : ℕ) → before ++ l ∷ [] ≡ front ++ Cell bits ∷ between → All (IsFixFrom bit) between → bit ≤ section_width front → Ends between → IsLast (after st l) front bits bit
    by front between bits bit e above within (inl none) =
        let both = same_from_push before front l (Cell bits) (e ∙ ap (λ (x : Ls). front ++ Cell bits ∷ x) none) in
        subst (λ (x : PlainObjectLine). IsLast (after st x) front bits bit) (sym both.1) (last_cell before front st bits bit kept both.0 within)
    by front between bits bit e above within (inr (init, fix, is)) =
        let both = same_from_push before (front ++ Cell bits ∷ init) l fix (e ∙ ap (λ (x : Ls). front ++ Cell bits ∷ x) is ∙ sym (append_assoc front (Cell bits ∷ init) (fix ∷ []))) in
        let parts = All-pop (IsFixFrom bit) between init (Some fix) is above in
        last_fix st l front bits bit (subst (IsFixFrom bit) (sym both.1) parts.1) (kept.last front init bits bit both.0 parts.0 within)

sectioned : (before : Ls) (st : Standing) → IsKept before st → 0 < section_width before → nat_lt 0 st.width ≡ true
sectioned before st kept some = lt-ltb 0 st.width (subst (λ (n : ℕ). 0 < n) (sym kept.width) some)

fix_follows : (before : Ls) (st : Standing) (l w : ℕ) (k : FixKind) (s : PlainSum) → IsKept before st → (1 ≤ w) × IsTrue (is_sum s) → HasCell before l w k → may_follow st (Fix l w k s) ≡ true
fix_follows before st l w k s kept range has =
    let last = kept.last has.front has.between has.bits (l + w) has.cell has.above has.within in
    let clear : is_clear st.cell l w ≡ true = subst (λ (n : ℕ). is_clear n l w ≡ true) (sym last.cell) has.clear in
    let kind : fits_kind st.width k l w ≡ true = subst (λ (n : ℕ). fits_kind n k l w ≡ true) (sym last.width) has.kind_fits in
    and_from _ _ (and_from _ _ (and_from _ _ (and_from _ _ (le-leb 1 w range.0) (le-leb (l + w) st.below last.below)) clear) kind) range.1

may : (before : Ls) (st : Standing) (l : PlainObjectLine) → IsKept before st → IsInRange l → MayStand before l → may_follow st l ≡ true
may before st (Section n w) kept range stands = and_from _ _ (le-leb 1 w range.0) (le-leb w 64 range.1)
may before st (Space n) kept range stands = and_from _ _ (sectioned before st kept stands) (le-leb n 1048576 range)
may before st (Label n) kept range stands = sectioned before st kept stands
may before st (Equ n v) kept range stands = range
may before st (Global n) kept range stands = refl
may before st (Cell v) kept range stands = and_from _ _ (sectioned before st kept stands.0) (lt-ltb v (2 ^ st.width) (subst (λ (n : ℕ). v < 2 ^ n) (sym kept.width) stands.1))
may before st (Fix l w k s) kept range stands = fix_follows before st l w k s kept range stands

are_taken : (front : Ls) (st : Standing) (ls : Ls) → IsKept front st → All (λ l. IsTrue (has_names l)) ls → All IsInRange ls → InOrder front ls → are_lines st ls ≡ true
are_taken front st [] kept names ranges order = refl
are_taken front st (l ∷ ls) kept names ranges order =
    let stands : MayStand front l = subst (λ (f : Ls). MayStand f l) (append-nil front) (order [] ls l refl) in
    let follows = may front st l kept (All-head IsInRange l ls ranges) stands in
    let rest : InOrder (front ++ l ∷ []) ls = λ before behind m is.
    subst (λ (f : Ls). MayStand f m) (sym (append_assoc front (l ∷ []) before)) (order (l ∷ before) behind m (ap (λ (x : Ls). l ∷ x) is)) in
    and_from _ _ (and_from _ _ (All-head (λ l. IsTrue (has_names l)) l ls names) follows)
    (are_taken (front ++ l ∷ []) (after st l) ls (kept_on front st l kept) (All-tail (λ l. IsTrue (has_names l)) l ls names) (All-tail IsInRange l ls ranges) rest)

pub rules_make_lines : (ls : Ls) → AreLines ls → are_lines start ls ≡ true
rules_make_lines ls h = are_taken [] start ls kept_start h.names h.ranges h.order
