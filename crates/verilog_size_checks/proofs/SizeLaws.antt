-- What is found and told is what is broken first.
use Rattle.std.proofs.Common.{◌≡◌, ◌≢◌, ℕ, ◌^◌, ◌-◌, ◌<◌, ◌≤◌, List, [], Bool, true, false, Option, Some, None, refl, sym, ap, ◌∙◌, subst, arith}
use Rattle.std.specs.Prelude.{nat_eq, nat_lt, nat_le, min, flat_map, codes, if◌then◌else◌}
use Rattle.std.proofs.lemmas.Bool.{and_parts, and_from}
use Rattle.std.proofs.lemmas.Bool.Decides.{nat_tests}
use Rattle.lisa_engine.specs.Images.{IsDepth}
use Rattle.verilog_text.specs.declared.faults.VerilogFault.{VerilogFault}
use Rattle.verilog_text.specs.declared.faults.VerilogFault.TheVariants as faults
use Rattle.verilog_text.specs.Trees.{VTree, ModuleTree}
use Rattle.verilog_text.specs.Values.{v_width}
use Rattle.verilog_text.specs.Clocked.{widths_of}
use Rattle.verilog_text.specs.Clocked as modules
use Rattle.verilog_text.specs.Conditions.{Sort, Clock, Input, Register, Store, Net, sort_of, member_indexes, NeedsWidth, Counted, AtMost, Depth, counted, IsExcess, what_of, count_of, limit_of, IsFirst, IsMisindexed, IsTooMany}
use Rattle.verilog_places.specs.Trees.{PlacedModuleTree, bare_module, bare_members}
use Rattle.verilog_places.specs.WidePlaces.{first_wide}
use Rattle.verilog_size_checks.specs.Sought.{first_of, exponent, sort_needs, needs, capped, misfit, index_fault, is_within, count_fault, TellsIndex, TellsPlace, TellsDriver, TellsCount, driven_again}
use Rattle.verilog_size_checks.specs.Answers.{IndexesHold, WidthsHold, DriversHold, IsFirstBrokenSize}
use Rattle.verilog_size_checks.proofs.FirstLaws.{none_is_first, found_is_first}
use Rattle.verilog_size_checks.proofs.PowerLaws.{exponent_found, exponent_sound}
use Rattle.verilog_size_checks.proofs.DriverLaws.{some_driven}

abbrev told_of : List ℕ → ℕ → ℕ → List ℕ × ℕ × ℕ
told_of name a b = (name, a, b)

same_triple : (a b : List ℕ × ℕ × ℕ) → Some a ≡ Some b → a ≡ b
same_triple a b is = cc

-- ---- indexes

sort_sound : (s : Option Sort) (k : ℕ) → sort_needs s ≡ Some k → (width : ℕ) × (s ≡ Some (Store width (2 ^ k)))
sort_sound None k is = absurd cc
sort_sound (Some Clock) k is = absurd cc
sort_sound (Some (Input width)) k is = absurd cc
sort_sound (Some (Register width)) k is = absurd cc
sort_sound (Some (Store width depth)) k is = (width, ap (λ (d : ℕ). Some (Store width d)) (sym (exponent_sound k depth is)))
sort_sound (Some (Net width)) k is = absurd cc

needs_sound : (m : ModuleTree) (name : List ℕ) (k : ℕ) → needs m name ≡ Some k → (width : ℕ) × (sort_of m name ≡ Some (Store width (2 ^ k)))
unfolding needs
needs_sound m name k is = sort_sound (sort_of m name) k is

needs_found : (m : ModuleTree) (name : List ℕ) (k width : ℕ) → sort_of m name ≡ Some (Store width (2 ^ k)) → needs m name ≡ Some k
unfolding needs
needs_found m name k width is = ap sort_needs is ∙ exponent_found k (2 ^ k) refl

capped_is : (n : ℕ) → capped n ≡ min n (2 ^ 32 - 1)
unfolding capped
capped_is n = refl

misfit_told : (name : List ℕ) (length : ℕ) (o : Option ℕ) (n : List ℕ) (width k : ℕ) → misfit name length o ≡ Some (n, width, k)
    → (o ≡ Some k) × (length ≢ k) × (name ≡ n) × (width ≡ min length (2 ^ 32 - 1))
misfit_told name length None n width k is = absurd cc
misfit_told name length (Some needed) n width k is = go (nat_eq length needed) refl is
  where
    go : (b : Bool) → nat_eq length needed ≡ b → (if b then None else Some (told_of name (capped length) needed)) ≡ Some (n, width, k)
        → (Some needed ≡ Some k) × (length ≢ k) × (name ≡ n) × (width ≡ min length (2 ^ 32 - 1))
    go true same told = absurd cc
    go false other told =
        let same = same_triple (told_of name (capped length) needed) (n, width, k) told in
        let same_name : name ≡ n = ap (λ (t : List ℕ × ℕ × ℕ). t.0) same in
        let same_width : capped length ≡ width = ap (λ (t : List ℕ × ℕ × ℕ). t.1) same in
        let same_needed : needed ≡ k = ap (λ (t : List ℕ × ℕ × ℕ). t.2) same in
        let differ : length ≢ needed = grind (arith, nat_tests) in
        (ap (λ (i : ℕ). Some i) same_needed, (λ e. differ (e ∙ sym same_needed)), same_name, sym same_width ∙ capped_is length)

abbrev IsWrong : ModuleTree → List ℕ × VTree → Type 0
IsWrong m p = (k : ℕ) × NeedsWidth m p k

not_missed : (m : ModuleTree) (p : List ℕ × VTree) → IsWrong m p → index_fault m p ≡ None → ⊥
not_missed m p wrong none =
    let length = v_width (widths_of m) p.1 in
    let some : needs m p.0 ≡ Some wrong.0 = needs_found m p.0 wrong.0 wrong.1.0 wrong.1.1 in
    let test : nat_eq length wrong.0 ≡ false = differs length wrong.0 wrong.1.2 in
    let told : index_fault m p ≡ Some (p.0, capped length, wrong.0) = ap (misfit p.0 length) some ∙ ap (λ (b : Bool). if b then None else Some (told_of p.0 (capped length) wrong.0)) test in
    absurd cc
  where
    differs : (a b : ℕ) → a ≢ b → nat_eq a b ≡ false
    differs a b other = grind (arith, nat_tests)

index_wrong : (m : ModuleTree) (p : List ℕ × VTree) (n : List ℕ) (width k : ℕ) → index_fault m p ≡ Some (n, width, k)
    → NeedsWidth m p k × (p.0 ≡ n) × (width ≡ min (v_width (widths_of m) p.1) (2 ^ 32 - 1))
index_wrong m p n width k is =
    let told = misfit_told p.0 (v_width (widths_of m) p.1) (needs m p.0) n width k is in
    let sort = needs_sound m p.0 k told.0 in
    ((sort.0, sort.1, told.1), told.2, told.3)

pub indexes_hold : (p : PlacedModuleTree) → first_of (index_fault (bare_module p)) (flat_map member_indexes (bare_members p.members)) ≡ None → IndexesHold p
indexes_hold p none name width needed misindexed =
    none_is_first (index_fault (bare_module p)) (IsWrong (bare_module p)) (not_missed (bare_module p)) (flat_map member_indexes (bare_members p.members)) none (name, misindexed.0) misindexed.1

misindexed : (m : ModuleTree) (n : List ℕ) (width k : ℕ) → first_of (index_fault m) (flat_map member_indexes m.members) ≡ Some (n, width, k) → IsMisindexed m n width k
misindexed m n width k is =
    let found = found_is_first (index_fault m) (IsWrong m) (not_missed m) (λ p b told. (b.2, (index_wrong m p b.0 b.1 b.2 told).0)) (flat_map member_indexes m.members) (n, width, k) is in
    let told = index_wrong m found.0 n width k found.2 in (
      found.0.1,
      subst (λ (name : List ℕ). IsFirst (IsWrong m) (flat_map member_indexes m.members) (name, found.0.1)) told.1 found.1,
      subst (λ (name : List ℕ). NeedsWidth m (name, found.0.1) k) told.1 told.0,
      told.2,
    )

pub index_told : (p : PlacedModuleTree) (fault : VerilogFault) → TellsIndex (first_of (index_fault (bare_module p)) (flat_map member_indexes (bare_members p.members))) fault → IsFirstBrokenSize p fault
index_told p (faults.IndexWidth name width needed) tells = misindexed (bare_module p) name width needed tells
index_told p faults.NoMemory tells = tt
index_told p _ tells = absurd tells

-- ---- counts

within_depth : (depth : ℕ) → is_within (exponent depth) ≡ true → IsDepth depth
within_depth depth is = go (exponent depth) refl is
  where
    go : (o : Option ℕ) → exponent depth ≡ o → is_within o ≡ true → IsDepth depth
    go None none fits = absurd cc
    go (Some k) some fits =
        let both = and_parts (nat_le 1 k) (nat_le k 20) fits in
        let low : nat_le 1 k ≡ true = both.0 in
        let high : nat_le k 20 ≡ true = both.1 in
        (k, grind (arith, nat_tests), grind (arith, nat_tests), sym (exponent_sound k depth some))

depth_within : (depth : ℕ) → IsDepth depth → is_within (exponent depth) ≡ true
depth_within depth is =
    let at_least : nat_le 1 is.0 ≡ true = low is.0 is.1 in
    let at_most : nat_le is.0 20 ≡ true = high is.0 is.2 in
    ap is_within (exponent_found is.0 depth (sym is.3)) ∙ and_from (nat_le 1 is.0) (nat_le is.0 20) at_least at_most
  where
    low : (k : ℕ) → 1 ≤ k → nat_le 1 k ≡ true
    low k le = grind (arith, nat_tests)

    high : (k : ℕ) → k ≤ 20 → nat_le k 20 ≡ true
    high k le = grind (arith, nat_tests)

not_missed_count : (c : Counted) → IsExcess c → count_fault c ≡ None → ⊥
not_missed_count (AtMost what count limit) more none = go (nat_lt limit count) refl none
  where
    go : (b : Bool) → nat_lt limit count ≡ b → (if b then Some (told_of what count limit) else None) ≡ None → ⊥
    go true so some = cc
    go false never some = let le : count ≤ limit = grind (arith, nat_tests) in omega arith
not_missed_count (Depth depth) more none = go (is_within (exponent depth)) refl none
  where
    go : (b : Bool) → is_within (exponent depth) ≡ b → (if b then None else Some (told_of (codes "depth") depth 1048576)) ≡ None → ⊥
    go true so some = more (within_depth depth so)
    go false never some = cc

count_wrong : (c : Counted) (what : List ℕ) (count limit : ℕ) → count_fault c ≡ Some (what, count, limit) → IsExcess c × (what_of c ≡ what) × (count_of c ≡ count) × (limit_of c ≡ limit)
count_wrong (AtMost w n l) what count limit is = go (nat_lt l n) refl is
  where
    go : (b : Bool) → nat_lt l n ≡ b → (if b then Some (told_of w n l) else None) ≡ Some (what, count, limit) → (l < n) × (w ≡ what) × (n ≡ count) × (l ≡ limit)
    go true so some =
        let same = same_triple (told_of w n l) (what, count, limit) some in
        (grind (arith, nat_tests), ap (λ (t : List ℕ × ℕ × ℕ). t.0) same, ap (λ (t : List ℕ × ℕ × ℕ). t.1) same, ap (λ (t : List ℕ × ℕ × ℕ). t.2) same)
    go false never some = absurd cc
count_wrong (Depth depth) what count limit is = go (is_within (exponent depth)) refl is
  where
    go : (b : Bool) → is_within (exponent depth) ≡ b → (if b then None else Some (told_of (codes "depth") depth 1048576)) ≡ Some (what, count, limit)
        → (¬ IsDepth depth) × (codes "depth" ≡ what) × (depth ≡ count) × (1048576 ≡ limit)
    go true so some = absurd cc
    go false never some =
        let same = same_triple (told_of (codes "depth") depth 1048576) (what, count, limit) some in
        ((λ fits. let fine = depth_within depth fits in cc), ap (λ (t : List ℕ × ℕ × ℕ). t.0) same, ap (λ (t : List ℕ × ℕ × ℕ). t.1) same, ap (λ (t : List ℕ × ℕ × ℕ). t.2) same)

pub counts_hold : (m : ModuleTree) → first_of count_fault (counted m) ≡ None → (what : List ℕ) (count limit : ℕ) → ¬ IsTooMany m what count limit
counts_hold m none what count limit many = none_is_first count_fault IsExcess not_missed_count (counted m) none many.0 many.1

too_many : (m : ModuleTree) (what : List ℕ) (count limit : ℕ) → first_of count_fault (counted m) ≡ Some (what, count, limit) → IsTooMany m what count limit
too_many m what count limit is =
    let found = found_is_first count_fault IsExcess not_missed_count (λ c b told. (count_wrong c b.0 b.1 b.2 told).0) (counted m) (what, count, limit) is in
    let told = count_wrong found.0 what count limit found.2 in
    (found.0, found.1, told.1, told.2, told.3)

-- ---- the faults of the later conditions

pub place_told : (p : PlacedModuleTree) (fault : VerilogFault) → IndexesHold p → TellsPlace (first_wide p) fault → IsFirstBrokenSize p fault
place_told p (faults.TooWide at) hold tells = (hold, tells)
place_told p _ hold tells = absurd tells

pub driver_told : (p : PlacedModuleTree) (fault : VerilogFault) → WidthsHold p → TellsDriver (driven_again [] (modules.blocks (bare_members p.members))) fault → IsFirstBrokenSize p fault
driver_told p (faults.TwoDrivers name) hold tells = (hold, some_driven (bare_module p) name tells)
driver_told p faults.NoMemory hold tells = tt
driver_told p _ hold tells = absurd tells

pub count_told : (p : PlacedModuleTree) (fault : VerilogFault) → DriversHold p → TellsCount (first_of count_fault (counted (bare_module p))) fault → IsFirstBrokenSize p fault
count_told p (faults.TooMany what count limit) hold tells = (hold, too_many (bare_module p) what count limit tells)
count_told p faults.NoMemory hold tells = tt
count_told p _ hold tells = absurd tells
