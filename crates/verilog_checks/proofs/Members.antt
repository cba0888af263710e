-- Names among others.
use Rattle.std.proofs.Common.{◌≡◌, ℕ, zero, suc, ◌+◌, ◌<◌, ◌≤◌, Bool, true, false, cond, not, ◌||◌, List, [], ◌∷◌, ◌++◌, length, take, get_or, Option, Some, None, refl, sym, ap, ◌∙◌, arith}
use Rattle.std.specs.Prelude.{Contains, slice_index_or, slice_get, nat_lt, min, if◌then◌else◌, option_map, find, map}
use Rattle.std.specs.List.{position_or_len}
use Rattle.std.proofs.lemmas.Bool.{true≢false, false≢true}
use Rattle.std.proofs.lemmas.Bool.Decides.{nat_tests}
use Rattle.verilog_text.specs.Conditions.{Declared, names_of}
use Rattle.verilog_checks.specs.declared.parts.Declaration.{Declaration}
use Rattle.verilog_checks.specs.Views.{declared_by, sort_by}
use Rattle.std.specs.Str.{bytes_eq}
use Rattle.std.proofs.lemmas.Slice.Eq.{bytes_eq-Decides}
use Rattle.name_tables.specs.Keys.{insert_key, insert_all}
use Rattle.verilog_checks.specs.Readings.{has, sort_in}

pub same_bytes : (a b : List ℕ) → bytes_eq a b ≡ true → a ≡ b
same_bytes a b is = (bytes_eq-Decides a b).0 is

pub bytes_eq_from : (a b : List ℕ) → a ≡ b → bytes_eq a b ≡ true
bytes_eq_from a b is = (bytes_eq-Decides a b).1 is

pub bytes_eq-turned : (a b : List ℕ) → bytes_eq a b ≡ bytes_eq b a
bytes_eq-turned a b = go (bytes_eq a b) (bytes_eq b a) refl refl
  where
    go : (x y : Bool) → bytes_eq a b ≡ x → bytes_eq b a ≡ y → x ≡ y
    go true true is other = refl
    go false false is other = refl
    go true false is other = sym (bytes_eq_from b a (sym (same_bytes a b is))) ∙ other
    go false true is other = sym is ∙ bytes_eq_from a b (sym (same_bytes b a other))

-- a test by bytes finds exactly what the list contains
pub has_contains : (names : List (List ℕ)) (name : List ℕ) → has names name ≡ true → Contains names name
has_contains [] name is = absurd (false≢true is)
has_contains (x ∷ xs) name is = go (bytes_eq name x) refl is (has_contains xs name)
  where
    go : (b : Bool) → bytes_eq name x ≡ b → (b || has xs name) ≡ true → (has xs name ≡ true → Contains xs name) → Contains (x ∷ xs) name
    go true here so later = (0, omega arith, sym (same_bytes name x here))
    go false past so later = let c = later so in (suc c.0, omega (arith, c.1), c.2)

contains_has_at : (names : List (List ℕ)) (name : List ℕ) (k : ℕ) → k < length names → slice_index_or names k name ≡ name → has names name ≡ true
contains_has_at [] name k within is = absurd (omega arith)
contains_has_at (x ∷ xs) name zero within is = ap (λ (b : Bool). b || has xs name) (bytes_eq_from name x (sym is))
contains_has_at (x ∷ xs) name (suc k) within is = ap (λ (b : Bool). bytes_eq name x || b) (contains_has_at xs name k (omega arith) is) ∙ go (bytes_eq name x)
  where
    go : (b : Bool) → (b || true) ≡ true
    go true = refl
    go false = refl

pub contains_has : (names : List (List ℕ)) (name : List ℕ) → Contains names name → has names name ≡ true
contains_has names name c = contains_has_at names name c.0 c.1 c.2

pub not_contains : (names : List (List ℕ)) (name : List ℕ) → not (has names name) ≡ true → ¬ Contains names name
not_contains names name is c = false≢true (sym (ap not (contains_has names name c)) ∙ is)

pub no_contains : (names : List (List ℕ)) (name : List ℕ) → (¬ Contains names name) → not (has names name) ≡ true
no_contains names name never = go (has names name) refl
  where
    go : (b : Bool) → has names name ≡ b → not b ≡ true
    go true is = absurd (never (has_contains names name is))
    go false is = refl

-- ---- a set has what was put into it

has-append : (xs ys : List (List ℕ)) (name : List ℕ) → has (xs ++ ys) name ≡ (has xs name || has ys name)
has-append [] ys name = refl
has-append (x ∷ xs) ys name = ap (λ (b : Bool). bytes_eq name x || b) (has-append xs ys name) ∙ go (bytes_eq name x)
  where
    go : (b : Bool) → (b || (has xs name || has ys name)) ≡ ((b || has xs name) || has ys name)
    go true = refl
    go false = refl

or_false : (b : Bool) → (b || false) ≡ b
or_false true = refl
or_false false = refl

or_comm_here : (a b : Bool) → (a || b) ≡ (b || a)
or_comm_here true true = refl
or_comm_here true false = refl
or_comm_here false true = refl
or_comm_here false false = refl

or_assoc_here : (a b c : Bool) → ((a || b) || c) ≡ (a || (b || c))
or_assoc_here true b c = refl
or_assoc_here false b c = refl

-- a key that is put in is found, and so is what was there
has-insert_key : (keys : List (List ℕ)) (key name : List ℕ) → has (insert_key keys key) name ≡ (has keys name || bytes_eq name key)
has-insert_key keys key name = go (has keys key) refl
  where
    among : (b : Bool) → has keys key ≡ true → bytes_eq name key ≡ b → has keys name ≡ (has keys name || b)
    among true there same = ap (λ (n : List ℕ). has keys n) (same_bytes name key same) ∙ there ∙ sym (ap (λ (b : Bool). b || true) (ap (λ (n : List ℕ). has keys n) (same_bytes name key same) ∙ there))
    among false there other = sym (or_false (has keys name))

    go : (b : Bool) → has keys key ≡ b → has (if b then keys else keys ++ (key ∷ [])) name ≡ (has keys name || bytes_eq name key)
    go true there = among (bytes_eq name key) there refl
    go false new = has-append keys (key ∷ []) name ∙ ap (λ (b : Bool). has keys name || b) (or_false (bytes_eq name key))

pub has-insert_all : (keys names : List (List ℕ)) (name : List ℕ) → has (insert_all keys names) name ≡ (has keys name || has names name)
has-insert_all keys [] name = sym (or_false (has keys name))
has-insert_all keys (key ∷ rest) name =
    has-insert_all (insert_key keys key) rest name
    ∙ ap (λ (b : Bool). b || has rest name) (has-insert_key keys key name)
    ∙ or_assoc_here (has keys name) (bytes_eq name key) (has rest name)

-- ---- places

less : (n m : ℕ) → n < m → nat_lt n m ≡ true
less n m is = grind (arith, nat_tests)

no_less : (n m : ℕ) → m ≤ n → nat_lt n m ≡ false
no_less n m is = grind (arith, nat_tests)

same_less : (a b c d : ℕ) → (a < b → c < d) → (c < d → a < b) → nat_lt a b ≡ nat_lt c d
same_less a b c d to from = grind (arith, nat_tests)

-- a name that stands among the first ones
pub place_before : (names : List (List ℕ)) (name : List ℕ) (n : ℕ) → nat_lt (position_or_len (bytes_eq name) names) (min n (length names)) ≡ has (take n names) name
place_before [] name zero = refl
place_before [] name (suc n) = no_less 0 (min (suc n) 0) (omega arith)
place_before (x ∷ xs) name zero = no_less (position_or_len (bytes_eq name) (x ∷ xs)) (min 0 (length (x ∷ xs))) (omega arith)
place_before (x ∷ xs) name (suc n) = go (bytes_eq name x) (place_before xs name n)
  where
    go : (b : Bool) → nat_lt (position_or_len (bytes_eq name) xs) (min n (length xs)) ≡ has (take n xs) name
        → nat_lt (cond (not b) (1 + position_or_len (bytes_eq name) xs) 0) (min (suc n) (length (x ∷ xs))) ≡ (b || has (take n xs) name)
    go true is = less 0 (min (suc n) (length (x ∷ xs))) (omega arith)
    go false is = same_less (1 + position_or_len (bytes_eq name) xs) (min (suc n) (length (x ∷ xs))) (position_or_len (bytes_eq name) xs) (min n (length xs)) (λ h. omega (arith, h)) (λ h. omega (arith, h)) ∙ is

-- ---- what stands at a name's place

one_more : (k : ℕ) → 1 + k ≡ suc k
one_more k = omega arith

pub sort_at : (all : List Declared) (name : List ℕ)
    → option_map (λ (d : Declared). d.sort) (slice_get all (position_or_len (bytes_eq name) (names_of all))) ≡ sort_in all name
sort_at [] name = refl
sort_at (d ∷ all) name = go (bytes_eq name d.name) (bytes_eq d.name name) (bytes_eq-turned name d.name) (sort_at all name)
  where
    go : (b e : Bool) → b ≡ e → option_map (λ (d : Declared). d.sort) (slice_get all (position_or_len (bytes_eq name) (names_of all))) ≡ sort_in all name
        → option_map (λ (d : Declared). d.sort) (slice_get (d ∷ all) (cond (not b) (1 + position_or_len (bytes_eq name) (names_of all)) 0))
        ≡ option_map (λ (d : Declared). d.sort) (cond e (Some d) (find (λ d. bytes_eq d.name name) all))
    go true true same rest = refl
    go false false same rest = ap (λ (k : ℕ). option_map (λ (d : Declared). d.sort) (slice_get (d ∷ all) k)) (one_more (position_or_len (bytes_eq name) (names_of all))) ∙ rest
    go true false same rest = absurd (true≢false same)
    go false true same rest = absurd (false≢true same)

pub get_declared : (all : List Declaration) (k : ℕ) → option_map (λ (d : Declared). d.sort) (slice_get (map declared_by all) k) ≡ option_map (λ (d : Declaration). sort_by d.kind) (slice_get all k)
get_declared [] k = refl
get_declared (d ∷ all) zero = refl
get_declared (d ∷ all) (suc k) = get_declared all k

-- what the place of a name leads to
pub kind_told : (all : List Declaration) (keys : List (List ℕ)) (name : List ℕ) (k : ℕ) (o : Option Declaration)
    → keys ≡ names_of (map declared_by all) → k ≡ position_or_len (bytes_eq name) keys → o ≡ slice_get all k → option_map (λ (d : Declaration). sort_by d.kind) o ≡ sort_in (map declared_by all) name
kind_told all keys name k o same place there =
    ap (option_map (λ (d : Declaration). sort_by d.kind)) there ∙ sym (get_declared all k)
    ∙ ap (λ (i : ℕ). option_map (λ (d : Declared). d.sort) (slice_get (map declared_by all) i)) (place ∙ ap (λ (ks : List (List ℕ)). position_or_len (bytes_eq name) ks) same)
    ∙ sort_at (map declared_by all) name

pub got : (all : List Declaration) (k : ℕ) (d : Declaration) → k < length all → d ≡ get_or all k d → Some d ≡ slice_get all k
got [] k d within is = absurd (omega arith)
got (x ∷ all) zero d within is = ap (λ (y : Declaration). Some y) is
got (x ∷ all) (suc k) d within is = got all k d (omega arith) is

pub got_none : (all : List Declaration) (k : ℕ) → length all ≤ k → None ≡ slice_get all k
got_none [] k past = refl
got_none (x ∷ all) zero past = absurd (omega arith)
got_none (x ∷ all) (suc k) past = got_none all k (omega arith)
