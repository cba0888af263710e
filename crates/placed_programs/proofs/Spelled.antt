-- In each object a fix stands behind its cell, so that its lines are those of its entries.
use Rattle.std.proofs.Common.{◌≡◌, ◌+◌, ◌≤◌, true, List, [], ◌∷◌, ◌++◌, map, refl, ap, ◌∙◌, arith}
use Rattle.std.specs.Prelude.{◌&&◌, nat_le}
use Rattle.std.proofs.lemmas.Bool.{and_parts, leb-true}
use Rattle.lisa_object.specs.declared.rules.Standing.{Standing}
use Rattle.lisa_object.specs.Objects.{PlainObjectLine, Section, Space, Label, Equ, Global, Cell, Fix}
use Rattle.lisa_object.specs.ObjectRules.{has_names, fits_kind, is_clear, is_sum, AreLines}
use Rattle.lisa_object.specs.LineMachine.{start, may_follow, after, are_lines}
use Rattle.lisa_object.proofs.LineRules.{rules_make_lines}
use Rattle.placed_programs.specs.Entries.{PlainFix, fix_line, lines_of, front_fixes, entries_of}

rest_of : (st : Standing) (l : PlainObjectLine) (ls : List PlainObjectLine) → are_lines st (l ∷ ls) ≡ true → are_lines (after st l) ls ≡ true
rest_of st l ls e = (and_parts (has_names l && may_follow st l) (are_lines (after st l) ls) e).1

-- where no bit is left, no fix follows
none_front : (st : Standing) (ls : List PlainObjectLine) → st.below ≡ 0 → are_lines st ls ≡ true → front_fixes ls ≡ []
none_front st [] z e = refl
none_front st (Section n w ∷ ls) z e = refl
none_front st (Space n ∷ ls) z e = refl
none_front st (Label n ∷ ls) z e = refl
none_front st (Equ n v ∷ ls) z e = refl
none_front st (Global n ∷ ls) z e = refl
none_front st (Cell v ∷ ls) z e = refl
none_front st (Fix l w k s ∷ ls) z e =
    let line = and_parts (has_names (Fix l w k s) && may_follow st (Fix l w k s)) (are_lines (after st (Fix l w k s)) ls) e in
    let may = and_parts (has_names (Fix l w k s)) (may_follow st (Fix l w k s)) line.0 in
    let kind = and_parts (nat_le 1 w && nat_le (l + w) st.below && is_clear st.cell l w && fits_kind st.width k l w) (is_sum s) may.1 in
    let clear = and_parts (nat_le 1 w && nat_le (l + w) st.below && is_clear st.cell l w) (fits_kind st.width k l w) kind.0 in
    let below = and_parts (nat_le 1 w && nat_le (l + w) st.below) (is_clear st.cell l w) clear.0 in
    let both = and_parts (nat_le 1 w) (nat_le (l + w) st.below) below.0 in
    let narrow : 1 ≤ w = leb-true 1 w both.0 in
    let within : l + w ≤ st.below = leb-true (l + w) st.below both.1 in
    absurd (omega (arith, z, narrow, within))

-- the entries behind a line of which no fix can be
behind : (ls : List PlainObjectLine) → front_fixes ls ≡ [] → ls ≡ map fix_line (front_fixes ls) ++ lines_of (entries_of ls) → ls ≡ lines_of (entries_of ls)
behind ls none e = e ∙ ap (λ (fs : List PlainFix). map fix_line fs ++ lines_of (entries_of ls)) none

lines_again : (st : Standing) (ls : List PlainObjectLine) → are_lines st ls ≡ true → ls ≡ map fix_line (front_fixes ls) ++ lines_of (entries_of ls)
lines_again st [] e = refl
lines_again st (Section n w ∷ ls) e =
    let r = rest_of st (Section n w) ls e in
    let next = after st (Section n w) in
    ap (λ (m : List PlainObjectLine). Section n w ∷ m) (behind ls (none_front next ls refl r) (lines_again next ls r))
lines_again st (Space n ∷ ls) e =
    let r = rest_of st (Space n) ls e in
    let next = after st (Space n) in
    ap (λ (m : List PlainObjectLine). Space n ∷ m) (behind ls (none_front next ls refl r) (lines_again next ls r))
lines_again st (Label n ∷ ls) e =
    let r = rest_of st (Label n) ls e in
    let next = after st (Label n) in
    ap (λ (m : List PlainObjectLine). Label n ∷ m) (behind ls (none_front next ls refl r) (lines_again next ls r))
lines_again st (Equ n v ∷ ls) e =
    let r = rest_of st (Equ n v) ls e in
    let next = after st (Equ n v) in
    ap (λ (m : List PlainObjectLine). Equ n v ∷ m) (behind ls (none_front next ls refl r) (lines_again next ls r))
lines_again st (Global n ∷ ls) e =
    let r = rest_of st (Global n) ls e in
    let next = after st (Global n) in
    ap (λ (m : List PlainObjectLine). Global n ∷ m) (behind ls (none_front next ls refl r) (lines_again next ls r))
lines_again st (Cell v ∷ ls) e = ap (λ (m : List PlainObjectLine). Cell v ∷ m) (lines_again (after st (Cell v)) ls (rest_of st (Cell v) ls e))
lines_again st (Fix l w k s ∷ ls) e = ap (λ (m : List PlainObjectLine). Fix l w k s ∷ m) (lines_again (after st (Fix l w k s)) ls (rest_of st (Fix l w k s) ls e))

pub lines_are_entries : (ls : List PlainObjectLine) → AreLines ls → ls ≡ lines_of (entries_of ls)
lines_are_entries ls rules = let e = rules_make_lines ls rules in behind ls (none_front start ls refl e) (lines_again start ls e)
