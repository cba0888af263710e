-- Lines of an object that may follow each other.
use Rattle.std.proofs.Common.{◌≡◌, ◌<◌, ◌≤◌, ◌+◌, ◌-◌, ◌*◌, ◌^◌, ◌∙◌, ℕ, Bool, true, false, ℤ, pos, List, [], ◌∷◌, ◌++◌, append_assoc, length, map, refl, sym, subst, arith}
use Rattle.std.specs.Prelude.{◌&&◌, ◌-ℤ◌, ◌≤ℤ◌, int_le, nat_le, nat_lt, IsTrue}
use Rattle.std.proofs.lemmas.Bool.{and_from, le-leb, lt-ltb}
use Rattle.std.proofs.lemmas.Int.{ints}
use Rattle.asm_source.specs.Numbers.{IsShort}
use Rattle.asm_source.specs.Plain.{PlainSum}
use Rattle.lisa_object.specs.declared.parts.FixKind.{FixKind}
use Rattle.lisa_object.specs.declared.rules.Standing.{Standing}
use Rattle.lisa_object.specs.Objects.{PlainObjectLine, Section, Space, Label, Equ, Global, Cell, Fix}
use Rattle.lisa_object.specs.ObjectRules.{has_names, is_within, fits_kind, is_clear, is_sum}
use Rattle.lisa_object.specs.LineMachine.{may_follow, after, are_lines}
use Rattle.placed_programs.specs.Entries.{PlainFix, PlainCell, fix_line}
use Rattle.source_promises.proofs.SoundLines.{IsName, IsSoundSum}

-- ---- numbers

le_true : (a b : ℤ) → a ≤ℤ b → int_le a b ≡ true
le_true a b h = by (int_le a b) refl
  where
    by : (t : Bool) → int_le a b ≡ t → int_le a b ≡ true
    by true e = e
    by false e = absurd (omega (arith, ints, e, h))

within_true : (k : ℕ) (v : ℤ) → IsShort k v → is_within (k * (2 ^ 64 - 1)) v ≡ true
within_true k v s =
    and_from (int_le (pos 0 -ℤ pos (k * (2 ^ 64 - 1))) v) (int_le v (pos (k * (2 ^ 64 - 1)))) (le_true (pos 0 -ℤ pos (k * (2 ^ 64 - 1))) v s.0) (le_true v (pos (k * (2 ^ 64 - 1))) s.1)

sum_true : (s : PlainSum) → IsSoundSum 8 s → is_sum s ≡ true
sum_true s sound = and_from (is_within (8 * (2 ^ 64 - 1)) s.constant) (nat_le (length s.terms) 8) (within_true 8 s.constant sound.short) (le-leb (length s.terms) 8 sound.few)

-- ---- lines one behind the other

-- the lines may stand where cells are so wide, and what follows stands where cells are so wide
abbrev pub GoesOn : ℕ → List PlainObjectLine → ℕ → Type 0
GoesOn w ls v = (st : Standing) → st.width ≡ w → (rest : List PlainObjectLine) → ((behind : Standing) → behind.width ≡ v → are_lines behind rest ≡ true) → are_lines st (ls ++ rest) ≡ true

pub none_on : (w : ℕ) → GoesOn w [] w
none_on w = λ st e rest more. more st e

pub both_on : (w v u : ℕ) (xs ys : List PlainObjectLine) → GoesOn w xs v → GoesOn v ys u → GoesOn w (xs ++ ys) u
both_on w v u xs ys first second = λ st e rest more.
    subst (λ (ls : List PlainObjectLine). are_lines st ls ≡ true) (sym (append_assoc xs ys rest)) (first st e (ys ++ rest) (λ behind f. second behind f rest more))

pub whole_on : (w v : ℕ) (ls : List PlainObjectLine) → GoesOn w ls v → (st : Standing) → st.width ≡ w → are_lines st (ls ++ []) ≡ true
whole_on w v ls on st e = on st e [] (λ behind f. refl)

-- one line
record MayStand (st : Standing) (l : PlainObjectLine) (v : ℕ) : Type 0 where
  named : has_names l ≡ true
  follows : may_follow st l ≡ true
  width : (after st l).width ≡ v

one_on : (w v : ℕ) (l : PlainObjectLine) → ((st : Standing) → st.width ≡ w → MayStand st l v) → GoesOn w (l ∷ []) v
one_on w v l may = λ st e rest more.
    let m = may st e in
    and_from (has_names l && may_follow st l) (are_lines (after st l) rest) (and_from (has_names l) (may_follow st l) m.named m.follows) (more (after st l) m.width)

some_true : (st : Standing) (w : ℕ) → st.width ≡ w → 0 < w → nat_lt 0 st.width ≡ true
some_true st w e some = lt-ltb 0 st.width (subst (λ (n : ℕ). 0 < n) (sym e) some)

pub section_on : (w v : ℕ) (n : List ℕ) → IsName n → 1 ≤ v → v ≤ 64 → GoesOn w (Section n v ∷ []) v
section_on w v n name narrow wide =
    one_on w v (Section n v) (λ st e. record { named = name; follows = and_from (nat_le 1 v) (nat_le v 64) (le-leb 1 v narrow) (le-leb v 64 wide); width = refl })

pub space_on : (w n : ℕ) → 0 < w → n ≤ 1048576 → GoesOn w (Space n ∷ []) w
space_on w n some few =
    one_on w w (Space n) (λ st e. record { named = refl; follows = and_from (nat_lt 0 st.width) (nat_le n 1048576) (some_true st w e some) (le-leb n 1048576 few); width = e })

pub label_on : (w : ℕ) (n : List ℕ) → 0 < w → IsName n → GoesOn w (Label n ∷ []) w
label_on w n some name = one_on w w (Label n) (λ st e. record { named = name; follows = some_true st w e some; width = e })

pub equ_on : (w : ℕ) (n : List ℕ) (v : ℤ) → IsName n → IsShort 1 v → GoesOn w (Equ n v ∷ []) w
equ_on w n v name short = one_on w w (Equ n v) (λ st e. record { named = name; follows = within_true 1 v short; width = e })

pub global_on : (w : ℕ) (n : List ℕ) → IsName n → GoesOn w (Global n ∷ []) w
global_on w n name = one_on w w (Global n) (λ st e. record { named = name; follows = refl; width = e })

-- ---- cells

-- a fix of a cell with these bits in a section of this width, which lies below this bit
pub record IsKeptFix (section bits below : ℕ) (f : PlainFix) : Type 0 where
  pub narrow : 0 < f.width
  pub within : f.lsb + f.width ≤ below
  pub clear : is_clear bits f.lsb f.width ≡ true
  pub kind : fits_kind section f.kind f.lsb f.width ≡ true
  pub sound : IsSoundSum 8 f.sum

-- one below the other
abbrev pub AreKeptFixes : (section bits below : ℕ) → List PlainFix → Type 0
AreKeptFixes section bits below [] = Unit {0}
AreKeptFixes section bits below (f ∷ fs) = IsKeptFix section bits below f × AreKeptFixes section bits f.lsb fs

pub record IsKeptCell (w : ℕ) (c : PlainCell) : Type 0 where
  pub below : c.bits < 2 ^ w
  pub fixes : AreKeptFixes w c.bits w c.fixes

fix_follows : (section bits below : ℕ) (f : PlainFix) (st : Standing) → IsKeptFix section bits below f → st.width ≡ section → st.cell ≡ bits → st.below ≡ below → may_follow st (fix_line f) ≡ true
fix_follows section bits below f st kept e c b =
    let a1 : nat_le 1 f.width ≡ true = le-leb 1 f.width kept.narrow in
    let a2 : nat_le (f.lsb + f.width) st.below ≡ true = le-leb (f.lsb + f.width) st.below (subst (λ (n : ℕ). f.lsb + f.width ≤ n) (sym b) kept.within) in
    let a3 : is_clear st.cell f.lsb f.width ≡ true = subst (λ (n : ℕ). is_clear n f.lsb f.width ≡ true) (sym c) kept.clear in
    let a4 : fits_kind st.width f.kind f.lsb f.width ≡ true = subst (λ (n : ℕ). fits_kind n f.kind f.lsb f.width ≡ true) (sym e) kept.kind in
    and_from (nat_le 1 f.width && nat_le (f.lsb + f.width) st.below && is_clear st.cell f.lsb f.width && fits_kind st.width f.kind f.lsb f.width) (is_sum f.sum)
    (and_from (nat_le 1 f.width && nat_le (f.lsb + f.width) st.below && is_clear st.cell f.lsb f.width) (fits_kind st.width f.kind f.lsb f.width)
    (and_from (nat_le 1 f.width && nat_le (f.lsb + f.width) st.below) (is_clear st.cell f.lsb f.width) (and_from (nat_le 1 f.width) (nat_le (f.lsb + f.width) st.below) a1 a2) a3) a4)
    (sum_true f.sum kept.sound)

fixes_on : (section bits below : ℕ) (fs : List PlainFix) → AreKeptFixes section bits below fs → (st : Standing) → st.width ≡ section → st.cell ≡ bits → st.below ≡ below
    → (rest : List PlainObjectLine) → ((behind : Standing) → behind.width ≡ section → are_lines behind rest ≡ true) → are_lines st (map fix_line fs ++ rest) ≡ true
fixes_on section bits below [] kept st e c b rest more = more st e
fixes_on section bits below (f ∷ fs) kept st e c b rest more =
    let l : PlainObjectLine = fix_line f in
    and_from (has_names l && may_follow st l) (are_lines (after st l) (map fix_line fs ++ rest))
    (and_from (has_names l) (may_follow st l) kept.0.sound.named (fix_follows section bits below f st kept.0 e c b))
    (fixes_on section bits f.lsb fs kept.1 (after st l) e c refl rest more)

pub cell_on : (w : ℕ) (c : PlainCell) → 0 < w → IsKeptCell w c → GoesOn w (Cell c.bits ∷ map fix_line c.fixes) w
cell_on w c some kept = λ st e rest more.
    let l : PlainObjectLine = Cell c.bits in
    and_from (has_names l && may_follow st l) (are_lines (after st l) (map fix_line c.fixes ++ rest))
    (and_from (has_names l) (may_follow st l) refl
    (and_from (nat_lt 0 st.width) (nat_lt c.bits (2 ^ st.width)) (some_true st w e some) (lt-ltb c.bits (2 ^ st.width) (subst (λ (n : ℕ). c.bits < 2 ^ n) (sym e) kept.below))))
    (fixes_on w c.bits w c.fixes kept.fixes (after st l) e refl e rest more)
