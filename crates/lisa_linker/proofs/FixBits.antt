-- The fixes of a cell fill its bits.
use Rattle.std.proofs.Common.{◌≡◌, ◌<◌, ◌≤◌, ◌+◌, ◌-◌, ◌*◌, ◌/◌, ◌%◌, ◌^◌, ℕ, true, List, [], ◌∷◌, refl, sym, ap, subst, ◌∙◌, arith}
use Rattle.std.specs.Prelude.{◌&&◌, nat_le, nat_lt, sum_by}
use Rattle.std.proofs.lemmas.Bool.{and_parts, leb-true, ltb-true, eqb-true}
use Rattle.std.proofs.lemmas.Nat.{pow_pos, pow-add, mod-pow-add, mod_low, mod_below, shr_split, shr_below, shl_below, one_shl, mul-add-lt}
use Rattle.std.proofs.Math.Pow.{pow_mono}
use Rattle.std.proofs.lemmas.List.Sums.{sum_by-cons}
use Rattle.std.proofs.Math.Nat.{add-mul-mod_self_right}
use Rattle.lisa_words.specs.Words.{reduced}
use Rattle.lisa_words.proofs.WordLaws.{reduced-lt}
use Rattle.asm_source.specs.Plain.{PlainSum}
use Rattle.lisa_object.specs.declared.parts.FixKind.{FixKind}
use Rattle.lisa_object.specs.declared.rules.Standing.{Standing}
use Rattle.lisa_object.specs.Objects.{PlainObjectLine, Section, Space, Label, Equ, Global, Cell, Fix}
use Rattle.lisa_object.specs.ObjectRules.{has_names, fits_kind, is_clear, is_sum}
use Rattle.lisa_object.specs.LineMachine.{may_follow, after, are_lines}
use Rattle.placed_programs.specs.Entries.{PlainFix, front_fixes}
use Rattle.placed_programs.specs.Symbols.{Symbols, sum_value}
use Rattle.placed_programs.specs.Placed.{fix_value, object_sense}
use Rattle.lisa_linker.specs.LineValues.{cell_before, fixed, AreFixes, IsReady}

-- ---- the rules of lines, taken apart

pub record AreFollowed (st : Standing) (l : PlainObjectLine) (ls : List PlainObjectLine) : Type 0 where
  pub may : may_follow st l ≡ true
  pub rest : are_lines (after st l) ls ≡ true

pub followed : (st : Standing) (l : PlainObjectLine) (ls : List PlainObjectLine) → are_lines st (l ∷ ls) ≡ true → AreFollowed st l ls
followed st l ls e =
    let whole = and_parts (has_names l && may_follow st l) (are_lines (after st l) ls) e in
    record { may = (and_parts (has_names l) (may_follow st l) whole.0).1; rest = whole.1 }

pub record IsFixLine (st : Standing) (l w : ℕ) (s : PlainSum) : Type 0 where
  pub some : 1 ≤ w
  pub within : l + w ≤ st.below
  pub clear : (st.cell / 2 ^ l) % 2 ^ w ≡ 0
  pub sum : is_sum s ≡ true

pub fix_line : (st : Standing) (l w : ℕ) (k : FixKind) (s : PlainSum) → may_follow st (Fix l w k s) ≡ true → IsFixLine st l w s
fix_line st l w k s e =
    let kind = and_parts (nat_le 1 w && nat_le (l + w) st.below && is_clear st.cell l w && fits_kind st.width k l w) (is_sum s) e in
    let clear = and_parts (nat_le 1 w && nat_le (l + w) st.below && is_clear st.cell l w) (fits_kind st.width k l w) kind.0 in
    let below = and_parts (nat_le 1 w && nat_le (l + w) st.below) (is_clear st.cell l w) clear.0 in
    let both = and_parts (nat_le 1 w) (nat_le (l + w) st.below) below.0 in
    record {
      some = leb-true 1 w both.0;
      within = leb-true (l + w) st.below both.1;
      clear = eqb-true ((st.cell / 2 ^ l) % 2 ^ w) 0 below.1;
      sum = kind.1;
    }

pub cell_line : (st : Standing) (v : ℕ) → may_follow st (Cell v) ≡ true → v < 2 ^ st.width
cell_line st v e = ltb-true v (2 ^ st.width) (and_parts (nat_lt 0 st.width) (nat_lt v (2 ^ st.width)) e).1

-- ---- one fix

-- the lower bits are the same too
low_of : (x c b k : ℕ) → k ≤ b → x % 2 ^ b ≡ c % 2 ^ b → x % 2 ^ k ≡ c % 2 ^ k
low_of x c b k h e =
    let j : ℕ = b - k in
    let whole : j + k ≡ b = omega (arith, h) in
    let low : (n : ℕ) → n % 2 ^ b % 2 ^ k ≡ n % 2 ^ k =
    λ n. ap (λ (i : ℕ). n % 2 ^ i % 2 ^ k) (sym whole) ∙ ap (λ (m : ℕ). m % 2 ^ k) (mod-pow-add n j k) ∙ mod_low (n / 2 ^ k % 2 ^ j) k (n % 2 ^ k) (mod_below n (2 ^ k) (pow_pos k)) in
    sym (low x) ∙ ap (λ (m : ℕ). m % 2 ^ k) e ∙ low c

-- where these bits are 0, the bits up to them are those below them
cleared : (c l w : ℕ) → (c / 2 ^ l) % 2 ^ w ≡ 0 → c % 2 ^ (w + l) ≡ c % 2 ^ l
cleared c l w e =
    let split : c % 2 ^ (w + l) ≡ (c / 2 ^ l % 2 ^ w) * 2 ^ l + c % 2 ^ l = mod-pow-add c w l in
    let none : (c / 2 ^ l % 2 ^ w) * 2 ^ l ≡ 0 * 2 ^ l = ap (λ (m : ℕ). m * 2 ^ l) e in
    omega (arith, split, none)

fix_fits : (x c l w b whole v : ℕ) → l + w ≤ b → b ≤ whole → x < 2 ^ whole → x % 2 ^ b ≡ c % 2 ^ b → (c / 2 ^ l) % 2 ^ w ≡ 0 → v < 2 ^ w → x + v * 2 ^ l < 2 ^ whole
fix_fits x c l w b whole v inside most below same clear small =
    let k : ℕ = w + l in
    let j : ℕ = whole - k in
    let all : j + k ≡ whole = omega (arith, inside, most) in
    let q : ℕ = x / 2 ^ k in
    let r : ℕ = c % 2 ^ l in
    let is_low : x % 2 ^ k ≡ r = low_of x c b k (omega (arith, inside)) same ∙ cleared c l w clear in
    let split : q * 2 ^ k + x % 2 ^ k ≡ x = shr_split x k in
    let low : r < 2 ^ l = mod_below c (2 ^ l) (pow_pos l) in
    let part : v * 2 ^ l + r < 2 ^ l * 2 ^ w = mul-add-lt v (2 ^ l) r (2 ^ w) small low in
    let is_part : 2 ^ k ≡ 2 ^ w * 2 ^ l = pow-add 2 w l in
    let is_high : 2 ^ (j + k) ≡ 2 ^ j * 2 ^ k = pow-add 2 j k in
    let below' : x < 2 ^ (j + k) = let P : ℕ → Type 0 = λ n. x < 2 ^ n in subst P (sym all) below in
    let high : q < 2 ^ j = shr_below x j k below' in
    let turned : 2 ^ w * 2 ^ l ≡ 2 ^ l * 2 ^ w = omega arith in
    let within : v * 2 ^ l + r < 2 ^ k = omega (arith, part, is_part, turned) in
    let sum : q * 2 ^ k + (v * 2 ^ l + r) < 2 ^ k * 2 ^ j = mul-add-lt q (2 ^ k) (v * 2 ^ l + r) (2 ^ j) high within in
    let turned' : 2 ^ j * 2 ^ k ≡ 2 ^ k * 2 ^ j = omega arith in
    let end : x + v * 2 ^ l < 2 ^ (j + k) = omega (arith, sum, split, is_low, is_high, turned') in
    let P : ℕ → Type 0 = λ n. x + v * 2 ^ l < 2 ^ n in subst P all end

fix_low : (x c l w b v : ℕ) → l + w ≤ b → x % 2 ^ b ≡ c % 2 ^ b → (x + v * 2 ^ l) % 2 ^ l ≡ c % 2 ^ l
fix_low x c l w b v inside same = add-mul-mod_self_right x v (2 ^ l) ∙ low_of x c b l (omega (arith, inside)) same

-- ---- all fixes behind a cell

pub fixes_fit : (symbols : Symbols) (a : ℕ) (st : Standing) (ls : List PlainObjectLine) → are_lines st ls ≡ true → st.below ≤ st.width
    → (x : ℕ) → x < 2 ^ st.width → x % 2 ^ st.below ≡ st.cell % 2 ^ st.below → x + sum_by (fix_value symbols a) (front_fixes ls) < 2 ^ st.width
fixes_fit symbols a st [] e most x below same = omega (arith, below)
fixes_fit symbols a st (Section n w ∷ ls) e most x below same = omega (arith, below)
fixes_fit symbols a st (Space n ∷ ls) e most x below same = omega (arith, below)
fixes_fit symbols a st (Label n ∷ ls) e most x below same = omega (arith, below)
fixes_fit symbols a st (Equ n v ∷ ls) e most x below same = omega (arith, below)
fixes_fit symbols a st (Global n ∷ ls) e most x below same = omega (arith, below)
fixes_fit symbols a st (Cell v ∷ ls) e most x below same = omega (arith, below)
fixes_fit symbols a st (Fix l w k s ∷ ls) e most x below same =
    let next = followed st (Fix l w k s) ls e in
    let line = fix_line st l w k s next.may in
    let v : ℕ = reduced (sum_value symbols a s) w in
    let small : v < 2 ^ w = reduced-lt (sum_value symbols a s) w in
    let fits : x + v * 2 ^ l < 2 ^ st.width = fix_fits x st.cell l w st.below st.width v line.within most below same line.clear small in
    let low : (x + v * 2 ^ l) % 2 ^ l ≡ st.cell % 2 ^ l = fix_low x st.cell l w st.below v line.within same in
    let within : l + w ≤ st.below = line.within in
    let rest : x + v * 2 ^ l + sum_by (fix_value symbols a) (front_fixes ls) < 2 ^ st.width =
    fixes_fit symbols a (after st (Fix l w k s)) ls next.rest (omega (arith, within, most)) (x + v * 2 ^ l) fits low in
    let own : sum_by (fix_value symbols a) (front_fixes (Fix l w k s ∷ ls)) ≡ v * 2 ^ l + sum_by (fix_value symbols a) (front_fixes ls) =
    sum_by-cons (fix_value symbols a) (record { lsb = l; width = w; kind = k; sum = s }) (front_fixes ls) in
    omega (arith, rest, own)

-- a cell with its fixes has no more bits than its section's cells
pub cell_fits : (symbols : Symbols) (a : ℕ) (st : Standing) (v : ℕ) (ls : List PlainObjectLine) → are_lines st (Cell v ∷ ls) ≡ true
    → object_sense symbols a (cell_before v ls) < 2 ^ st.width
cell_fits symbols a st v ls e =
    let next = followed st (Cell v) ls e in
    fixes_fit symbols a (after st (Cell v)) ls next.rest (omega arith) v (cell_line st v next.may) refl

-- sections stay at most 64 bits wide
pub narrow_behind : (st : Standing) (l : PlainObjectLine) → may_follow st l ≡ true → st.width ≤ 64 → (after st l).width ≤ 64
narrow_behind st (Section n w) e h = leb-true w 64 (and_parts (nat_le 1 w) (nat_le w 64) e).1
narrow_behind st (Space n) e h = h
narrow_behind st (Label n) e h = h
narrow_behind st (Equ n v) e h = h
narrow_behind st (Global n) e h = h
narrow_behind st (Cell v) e h = h
narrow_behind st (Fix l w k s) e h = h

-- ---- fixes one by one

pub fixed_is : (symbols : Symbols) (a v : ℕ) (ls : List PlainObjectLine) → fixed symbols a v ls ≡ object_sense symbols a (cell_before v ls)
fixed_is symbols a v [] = omega arith
fixed_is symbols a v (Section n w ∷ ls) = omega arith
fixed_is symbols a v (Space n ∷ ls) = omega arith
fixed_is symbols a v (Label n ∷ ls) = omega arith
fixed_is symbols a v (Equ n x ∷ ls) = omega arith
fixed_is symbols a v (Global n ∷ ls) = omega arith
fixed_is symbols a v (Cell x ∷ ls) = omega arith
fixed_is symbols a v (Fix l w k s ∷ ls) =
    let f : PlainFix = record { lsb = l; width = w; kind = k; sum = s } in
    let rest : fixed symbols a (v + fix_value symbols a f) ls ≡ v + fix_value symbols a f + sum_by (fix_value symbols a) (front_fixes ls) = fixed_is symbols a (v + fix_value symbols a f) ls in
    let own : sum_by (fix_value symbols a) (front_fixes (Fix l w k s ∷ ls)) ≡ fix_value symbols a f + sum_by (fix_value symbols a) (front_fixes ls) =
    sum_by-cons (fix_value symbols a) f (front_fixes ls) in
    omega (arith, rest, own)

pub fixed_least : (symbols : Symbols) (a v : ℕ) (ls : List PlainObjectLine) → v ≤ fixed symbols a v ls
fixed_least symbols a v ls = let e = fixed_is symbols a v ls in omega (arith, e)

pub fixes_are : (st : Standing) (ls : List PlainObjectLine) → are_lines st ls ≡ true → st.below ≤ 64 → AreFixes ls
fixes_are st [] e h = tt
fixes_are st (Section n w ∷ ls) e h = tt
fixes_are st (Space n ∷ ls) e h = tt
fixes_are st (Label n ∷ ls) e h = tt
fixes_are st (Equ n v ∷ ls) e h = tt
fixes_are st (Global n ∷ ls) e h = tt
fixes_are st (Cell v ∷ ls) e h = tt
fixes_are st (Fix l w k s ∷ ls) e h =
    let next = followed st (Fix l w k s) ls e in
    let line = fix_line st l w k s next.may in
    let some : 1 ≤ w = line.some in
    let within : l + w ≤ st.below = line.within in
    (some, omega (arith, within, h), line.sum, fixes_are (after st (Fix l w k s)) ls next.rest (omega (arith, within, h)))

pub ready : (st : Standing) (l : PlainObjectLine) (ls : List PlainObjectLine) → are_lines st (l ∷ ls) ≡ true → st.width ≤ 64 → IsReady l ls
ready st (Section n w) ls e h = tt
ready st (Space n) ls e h = tt
ready st (Label n) ls e h = tt
ready st (Equ n v) ls e h = tt
ready st (Global n) ls e h = tt
ready st (Fix l w k s) ls e h = tt
ready st (Cell v) ls e h =
    let next = followed st (Cell v) ls e in (
      fixes_are (after st (Cell v)) ls next.rest h,
      λ symbols a.
          let fits : object_sense symbols a (cell_before v ls) < 2 ^ st.width = cell_fits symbols a st v ls e in
          let is : fixed symbols a v ls ≡ object_sense symbols a (cell_before v ls) = fixed_is symbols a v ls in
          let most : 2 ^ st.width ≤ 2 ^ 64 = pow_mono {i = st.width} {j = 64} h in
          omega (arith, fits, is, most),
    )

pub amount_fits : (v lsb width : ℕ) → v < 2 ^ width → 1 ≤ width → lsb + width ≤ 64 → v * (1 * 2 ^ lsb % 18446744073709551616) < 2 ^ 64
amount_fits v lsb width small some within =
    let one : 1 * 2 ^ lsb % 18446744073709551616 ≡ 2 ^ lsb = one_shl lsb 64 (omega (arith, some, within)) in
    let P : ℕ → Type 0 = λ p. v * p < 2 ^ 64 in
    let below : v * 2 ^ lsb < 2 ^ (width + lsb) = shl_below v width lsb small in
    let most : 2 ^ (width + lsb) ≤ 2 ^ 64 = pow_mono {i = width + lsb} {j = 64} (omega (arith, within)) in
    subst P (sym one) (omega (arith, below, most))
