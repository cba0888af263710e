-- Where a form matches a line, one of its starts is one of the line's.
use Rattle.std.proofs.Common.{◌≡◌, ℕ, zero, suc, ◌+◌, ◌-◌, ◌*◌, ◌^◌, ◌<◌, ◌≤◌, Bool, true, false, cond, List, [], ◌∷◌, ◌++◌, length, take, refl, sym, ap, ◌∙◌, subst, arith, inl, inr, nat_lt, append_assoc, nat_eq}
use Rattle.std.specs.Prelude.{slice_index_or}
use Rattle.std.specs.List.{All}
use Rattle.std.proofs.lemmas.Bool.{and_parts, ltb-true, cases_lt, eqb-false, not-true}
use Rattle.std.proofs.lemmas.Bool.Decides.{nat_tests}
use Rattle.std.proofs.lemmas.List.{length-append}
use Rattle.std.proofs.Math.Nat.{mul-le-mul_right}
use Rattle.asm_source.specs.Plain.{PlainToken, Run, Sign}
use Rattle.asm_source.specs.Bytes.{is_digit}
use Rattle.instruction_trees.specs.Trees.{In, here, there}
use Rattle.instruction_texts.specs.declared.shapes.Shape.{Shape}
use Rattle.instruction_texts.specs.declared.shapes.Shape.TheVariants.{Unsigned, Signed}
use Rattle.instruction_texts.specs.Runs.{digit, base_of, value, all_digits, is_plain}
use Rattle.instruction_texts.specs.Shapes.{zero_x, lead, IsSized}
use Rattle.instruction_texts.specs.Lines as lines
use Rattle.instruction_texts.specs.Lines.{Plain, Matches, sign_behind}
use Rattle.instruction_texts.specs.Starts.{Beginning, Mark, Word, Prefix, prefix_at, prefixes, run_prefixes, line_starts, HasStart}
use Rattle.instruction_texts.proofs.CommonRuns.{IsNumber, number_parts, power_some}
use Rattle.instruction_texts.proofs.OneText.{power_mono}
use Rattle.instruction_texts.proofs.SpelledTexts.{first_sized}

-- ---- prefixes among those of a run

in_left : {x : Beginning} {xs : List Beginning} (ys : List Beginning) → In x xs → In x (xs ++ ys)
in_left ys (here) = here
in_left ys (there i) = there (in_left ys i)

in_right : {x : Beginning} (xs : List Beginning) {ys : List Beginning} → In x ys → In x (xs ++ ys)
in_right [] i = i
in_right (y ∷ xs) i = there (in_right xs i)

at_prefix : (run : List ℕ) (k : ℕ) → is_digit (slice_index_or run k 0) ≡ true → In (Prefix (take k run)) (prefix_at run k)
at_prefix run k h = subst (λ (b : Bool). In (Prefix (take k run)) (cond b (Prefix (take k run) ∷ []) [])) (sym h) here

in_prefixes : (run : List ℕ) (from n k : ℕ) → from ≤ k → k < from + n → is_digit (slice_index_or run k 0) ≡ true → In (Prefix (take k run)) (prefixes run from n)
in_prefixes run from zero k low high h = absurd (omega arith)
in_prefixes run from (suc n) k low high h = elim (cases_lt from k) [
  | inl lt ↦ in_right (prefix_at run from) (in_prefixes run (suc from) n k (omega arith) (omega arith) h)
  | inr le ↦ (let e : k ≡ from = omega arith in in_left (prefixes run (suc from) n) (subst (λ (j : ℕ). In (Prefix (take k run)) (prefix_at run j)) e (at_prefix run k h)))
]

take_front : (p q : List ℕ) → take (length p) (p ++ q) ≡ p
take_front [] q = refl
take_front (c ∷ p) q = ap (λ (l : List ℕ). c ∷ l) (take_front p q)

index_behind : (p : List ℕ) (c : ℕ) (q : List ℕ) → slice_index_or (p ++ c ∷ q) (length p) 0 ≡ c
index_behind [] c q = refl
index_behind (d ∷ p) c q = index_behind p c q

prefix_in : (p : List ℕ) (c : ℕ) (cs : List ℕ) → length (c ∷ cs) ≤ 20 → is_digit c ≡ true → In (Prefix p) (run_prefixes (p ++ c ∷ cs))
prefix_in p c cs short h =
    let run = p ++ c ∷ cs in
    let l : length run ≡ length p + length (c ∷ cs) = length-append p (c ∷ cs) in
    let i = in_prefixes run (length run - 20) (length run - (length run - 20)) (length p) (omega arith) (omega arith) (ap (λ (d : ℕ). is_digit d) (index_behind p c cs) ∙ h) in
    subst (λ (q : List ℕ). In (Prefix q) (run_prefixes run)) (take_front p (c ∷ cs)) i

-- ---- how long a number is

large : (hex : Bool) (cs : List ℕ) → is_plain cs ≡ true → 2 ≤ length cs → base_of hex ^ (length cs - 1) ≤ value (base_of hex) cs
large hex [] p h = absurd (omega arith)
large hex (c ∷ []) p h = absurd (omega arith)
large hex (c ∷ d ∷ cs) p h =
    let b = base_of hex in
    let n = length (d ∷ cs) in
    let zero_no = eqb-false (digit c) 0 (not-true (nat_eq (digit c) 0) p) in
    let some : 0 < digit c = elim (cases_lt 0 (digit c)) [ inl l ↦ l | inr l ↦ absurd (zero_no (omega arith)) ] in
    let m : 1 * b ^ n ≤ digit c * b ^ n = mul-le-mul_right (b ^ n) some in
    let e : length (c ∷ d ∷ cs) - 1 ≡ n = omega arith in
    subst (λ (k : ℕ). b ^ k ≤ value b (c ∷ d ∷ cs)) (sym e) (omega arith)

abbrev most : Bool → ℕ
most true = 18
most false = 20

short : (hex : Bool) (cs : List ℕ) → is_plain cs ≡ true → value (base_of hex) cs < 2 ^ 64 → length cs ≤ most hex
short true cs p h = elim (cases_lt (most true) (length cs)) [
  | inl long ↦ (let l : 16 ^ (length cs - 1) ≤ value 16 cs = large true cs p (omega arith) in let m : 16 ^ 18 ≤ 16 ^ (length cs - 1) = power_mono 16 18 (length cs - 1) (omega arith) (omega arith) in absurd (omega arith))
  | inr le ↦ le
]
short false cs p h = elim (cases_lt (most false) (length cs)) [
  | inl long ↦ (let l : 10 ^ (length cs - 1) ≤ value 10 cs = large false cs p (omega arith) in let m : 10 ^ 20 ≤ 10 ^ (length cs - 1) = power_mono 10 20 (length cs - 1) (omega arith) (omega arith) in absurd (omega arith))
  | inr le ↦ le
]

decimal_digit : (c : ℕ) → nat_lt (digit c) 10 ≡ true → is_digit c ≡ true
decimal_digit c h = grind (arith, nat_tests, ltb-true)

power_64 : (n : ℕ) → n ≤ 64 → 2 ^ n ≤ 2 ^ 64
power_64 n h = power_mono 2 n 64 (omega arith) h

-- a number that ends a run leaves its prefix among those of the run
number_in : (hex : Bool) (p cs : List ℕ) (high : ℕ) → IsNumber hex false high cs → high < 2 ^ 64 → In (Prefix p) (run_prefixes (lead hex p ++ cs))
number_in true p cs high is h =
    let below = is.below in
    let l = short true cs is.plain (omega arith) in
    subst (λ (w : List ℕ). In (Prefix p) (run_prefixes w)) (sym (append_assoc p zero_x cs)) (prefix_in p 48 (120 ∷ cs) (omega arith) refl)
number_in false p [] high is h = absurd (let e = is.plain in cc)
number_in false p (c ∷ cs) high is h =
    let below = is.below in
    let l = short false (c ∷ cs) is.plain (omega arith) in
    let d = and_parts (nat_lt (digit c) 10) (all_digits 10 cs) is.digits in
    prefix_in p c cs l (decimal_digit c d.0)

starts_with : (line : List PlainToken) (us : List PlainToken) (ss : List Shape) → us ≡ line → HasStart ss (line_starts line) → HasStart ss (line_starts us)
starts_with line us ss e h = subst (λ (l : List PlainToken). HasStart ss (line_starts l)) (sym e) h

negative_has : (p : List ℕ) (n : ℕ) (cs : List ℕ) (ss : List Shape) (ts : List PlainToken) → HasStart (Signed p n ∷ ss) (line_starts (sign_behind p (Sign 45 ∷ Run cs ∷ ts)))
negative_has [] n cs ss ts = (Mark 45, inr refl, here)
negative_has (c ∷ p) n cs ss ts = (Word (c ∷ p), inr refl, here)

pub start_is_there : {ss : List Shape} {gs : List Plain} {line : List PlainToken} → Matches ss gs line → All IsSized ss → HasStart ss (line_starts line)
start_is_there lines.end sized = tt
start_is_there (lines.other {c = c} m) sized = (Mark c, inl refl, here)
start_is_there (lines.literal {p = p} m) sized = (Word p, inl refl, here)
start_is_there (lines.operand {p = p} m) sized = (Prefix p, inl refl, here)
start_is_there (lines.signed_operand {p = p} m) sized = (Prefix p, inl refl, here)
start_is_there (lines.unsigned {hex = hex} {p = p} cs {n = n} {ss = ss} {ts = ts} {us = us} h v m e) sized =
    let w = first_sized (Unsigned hex p n) ss sized in
    let q = power_64 n w.1 in
    let z = power_some 2 n (omega arith) in
    starts_with (Run (lead hex p ++ cs) ∷ ts) us (Unsigned hex p n ∷ ss) e (Prefix p, inl refl, there (number_in hex p cs (2 ^ n - 1) (number_parts hex false (2 ^ n - 1) cs h) (omega arith)))
start_is_there (lines.positive {p = p} cs {n = n} {ss = ss} {ts = ts} {us = us} h v m e) sized =
    let w = first_sized (Signed p n) ss sized in
    let q = power_64 (n - 1) (omega (arith, w.1)) in
    let z = power_some 2 (n - 1) (omega arith) in
    starts_with (Run (p ++ cs) ∷ ts) us (Signed p n ∷ ss) e (Prefix p, inl refl, there (number_in false p cs (2 ^ (n - 1) - 1) (number_parts false false (2 ^ (n - 1) - 1) cs h) (omega arith)))
start_is_there (lines.negative {p = p} cs {n = n} {ss = ss} {ts = ts} {us = us} h v m e) sized = starts_with (sign_behind p (Sign 45 ∷ Run cs ∷ ts)) us (Signed p n ∷ ss) e (negative_has p n cs ss ts)

-- ---- the loop over the lengths

pub prefixes_on : (run : List ℕ) (k : ℕ) → k < length run → prefixes run k (length run - k) ≡ prefix_at run k ++ prefixes run (k + 1) (length run - (k + 1))
prefixes_on run k h =
    let e : length run - k ≡ suc (length run - (k + 1)) = omega arith in
    let s : suc k ≡ k + 1 = omega arith in
    ap (λ (n : ℕ). prefixes run k n) e ∙ ap (λ (j : ℕ). prefix_at run k ++ prefixes run j (length run - (k + 1))) s

pub no_more : (run : List ℕ) (k : ℕ) → length run ≤ k → prefixes run k (length run - k) ≡ []
no_more run k h = let e : length run - k ≡ 0 = omega arith in ap (λ (n : ℕ). prefixes run k n) e
