-- Names that stand twice among settings.
use Rattle.std.proofs.Common.{◌≡◌, ℕ, zero, suc, ◌+◌, ◌-◌, ◌<◌, ◌≤◌, Bool, true, false, cond, ◌||◌, not, List, [], ◌∷◌, length, drop, get_or, refl, sym, ap, ◌∙◌, subst, arith, Bor, Ordering}
use Rattle.std.specs.BTreeSet.{BTreeSet, contains, Updates}
use Rattle.std.specs.Cmp.Lexicographic.{slice_cmp}
use Rattle.std.specs.Ordering.{nat_cmp}
use Rattle.std.specs.Str.{bytes_eq}
use Rattle.std.proofs.lemmas.Bool.{false≢true, cases_Bool}
use Rattle.std.proofs.lemmas.Map.Text.{is_eq-slice_cmp}
use Rattle.std.proofs.lemmas.List.{drop_more}
use Rattle.lisa_engine.specs.Schedules.{is_set, names_twice}

-- the order of names
abbrev pub by_bytes : Bor (List ℕ) → Bor (List ℕ) → Ordering
by_bytes x y = slice_cmp nat_cmp x.now y.now

-- the set has the names of these settings
abbrev pub AreBehind : BTreeSet (Bor (List ℕ)) → List (List ℕ × ℕ) → Type 0
AreBehind set settings = (name : Bor (List ℕ)) → contains by_bytes set name ≡ is_set settings name.now

or_here : (a b : Bool) → cond a true b ≡ (a || b)
or_here true b = refl
or_here false b = refl

-- one more in front
behind_more : (set more : BTreeSet (Bor (List ℕ))) (settings : List (List ℕ × ℕ)) (name : Bor (List ℕ)) (setting : List ℕ × ℕ) → AreBehind set settings → name.now ≡ setting.0
    → Updates by_bytes set more name true → AreBehind more (setting ∷ settings)
behind_more set more settings name setting are is updates other =
    updates.0 other ∙ ap (λ b. cond b true (contains by_bytes set other)) (is_eq-slice_cmp name.now other.now) ∙ ap (λ b. cond (bytes_eq name.now other.now) true b) (are other)
    ∙ or_here (bytes_eq name.now other.now) (is_set settings other.now) ∙ ap (λ n. bytes_eq n other.now || is_set settings other.now) is

-- a name that stands twice behind a place stands twice
twice_behind : (settings : List (List ℕ × ℕ)) (n : ℕ) → names_twice (drop n settings) ≡ true → names_twice settings ≡ true
twice_behind settings zero twice = twice
twice_behind [] (suc n) twice = twice
twice_behind (setting ∷ settings) (suc n) twice = ap (λ b. is_set settings setting.0 || b) (twice_behind settings n twice) ∙ or_true (is_set settings setting.0)
  where
    or_true : (b : Bool) → (b || true) ≡ true
    or_true true = refl
    or_true false = refl

-- at a setting, with those behind it
module _ (settings : List (List ℕ × ℕ)) (left : ℕ) (setting : List ℕ × ℕ) (some : 0 < left) (within : left ≤ length settings) (is : setting ≡ get_or settings (left - 1) setting)
    (set : BTreeSet (Bor (List ℕ))) (name : Bor (List ℕ)) (named : name.now ≡ setting.0) (are : AreBehind set (drop left settings)) where
  unfolded : drop (left - 1) settings ≡ setting ∷ drop left settings
  unfolded =
      let same : left - 1 + 1 ≡ left = omega arith in
      drop_more settings (left - 1) setting (omega arith) ∙ (λ i. sym is i ∷ drop (same i) settings)

  behind_is : contains by_bytes set name ≡ is_set (drop left settings) setting.0
  behind_is = are name ∙ ap (is_set (drop left settings)) named

  pub twice_there : contains by_bytes set name ≡ true → names_twice settings ≡ true
  twice_there there = twice_behind settings (left - 1) (ap names_twice unfolded ∙ ap (λ b. b || names_twice (drop left settings)) (sym behind_is ∙ there))

  pub once_there : contains by_bytes set name ≡ false → names_twice (drop left settings) ≡ false → names_twice (drop (left - 1) settings) ≡ false
  once_there new once = ap names_twice unfolded ∙ ap (λ b. b || names_twice (drop left settings)) (sym behind_is ∙ new) ∙ once

  pub behind_there : (more : BTreeSet (Bor (List ℕ))) → Updates by_bytes set more name true → AreBehind more (drop (left - 1) settings)
  behind_there more updates = subst (AreBehind more) (sym unfolded) (behind_more set more (drop left settings) name setting are named updates)
