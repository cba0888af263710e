-- Tables of codes, and the first variables with them.
use Rattle.std.proofs.Common.{◌≡◌, ℕ, suc, ◌+◌, ◌-◌, ◌<◌, ◌≤◌, Bool, true, false, cond, List, [], ◌∷◌, ◌++◌, length, drop, get_or, Option, Some, None, refl, sym, ap, subst, ◌∙◌, arith, Bor}
use Rattle.std.specs.Option.{option_map}
use Rattle.std.specs.Str.{bytes_eq}
use Rattle.std.specs.BTreeMap.{BTreeMap, get, Updates}
use Rattle.std.specs.BTreeSet as sorted
use Rattle.std.specs.BTreeSet.{BTreeSet}
use Rattle.std.specs.List.{list_any}
use Rattle.std.specs.Prelude.{◌||◌, IfSome}
use Rattle.std.proofs.lemmas.Bool.Decides.{Decides-eqb}
use Rattle.std.proofs.lemmas.Slice.Eq.{slice_eq-Decides}
use Rattle.std.proofs.lemmas.Map.Text.{is_eq-slice_cmp}
use Rattle.std.proofs.lemmas.List.{drop_more, drop_all}
use Rattle.std.proofs.lemmas.List.Folds.{list_any-append}
use Rattle.vcd_trace.specs.Written.{Variable, Change}
use Rattle.vcd_trace.specs.Meaning.{place_of, width_of}
use Rattle.vcd_trace.specs.CodeTables.{by_bytes, AreSlots, AreGiven}

pub same_bytes : (xs ys : List ℕ) → bytes_eq xs ys ≡ true → xs ≡ ys
same_bytes xs ys e = (slice_eq-Decides Decides-eqb xs ys true (sym e)).0 refl

pub equal_bytes : (xs : List ℕ) → bytes_eq xs xs ≡ true
equal_bytes xs = (slice_eq-Decides Decides-eqb xs xs (bytes_eq xs xs) refl).1 refl

pub is_false : (b : Bool) → (b ≡ true → ⊥) → b ≡ false
is_false true f = absurd (f refl)
is_false false f = refl

-- ---- the first variable with a code

abbrev pub HasPlace : List Variable → List ℕ → ℕ → Variable → Type 0
HasPlace vs code p d = (p < length vs) × ((get_or vs p d).code ≡ code) × (width_of vs code ≡ (get_or vs p d).width)

pub place_is : (vs : List Variable) (code : List ℕ) (p : ℕ) (d : Variable) → place_of vs code ≡ Some p → HasPlace vs code p d
place_is [] code p d e = absurd cc
place_is (v ∷ vs) code p d e = go (bytes_eq v.code code) refl (place_of vs code) refl e (λ k f. place_is vs code k d f)
  where
    on : (k : ℕ) → place_of vs code ≡ Some k → (p ≡ suc k) → bytes_eq v.code code ≡ false → HasPlace vs code k d → HasPlace (v ∷ vs) code p d
    on k f same b h =
        subst (λ (q : ℕ). HasPlace (v ∷ vs) code q d) (sym same) (omega (arith, h.0), h.1, ap (λ (t : Bool). cond t v.width (width_of vs code)) b ∙ h.2)

    go : (b : Bool) → bytes_eq v.code code ≡ b → (o : Option ℕ) → place_of vs code ≡ o → cond b (Some 0) (option_map suc o) ≡ Some p
        → ((k : ℕ) → place_of vs code ≡ Some k → HasPlace vs code k d) → HasPlace (v ∷ vs) code p d
    go true is o f e rec =
        let zero_is : 0 ≡ p = cc in
        subst (λ (q : ℕ). HasPlace (v ∷ vs) code q d) zero_is (omega arith, same_bytes v.code code is, ap (λ (t : Bool). cond t v.width (width_of vs code)) is)
    go false is None f e rec = absurd cc
    go false is (Some k) f e rec = let same : suc k ≡ p = cc in on k f (sym same) is (rec k f)

pub no_place : (vs : List Variable) (code : List ℕ) → place_of vs code ≡ None → width_of vs code ≡ 0
no_place [] code e = refl
no_place (v ∷ vs) code e = go (bytes_eq v.code code) (place_of vs code) refl e (λ f. no_place vs code f)
  where
    go : (b : Bool) (o : Option ℕ) → place_of vs code ≡ o → cond b (Some 0) (option_map suc o) ≡ None → (place_of vs code ≡ None → width_of vs code ≡ 0) → cond b v.width (width_of vs code) ≡ 0
    go true o f e rec = absurd cc
    go false None f e rec = rec f
    go false (Some k) f e rec = absurd cc

pub has_place : (front rest : List Variable) (v : Variable) → (p : ℕ) × (place_of (front ++ v ∷ rest) v.code ≡ Some p)
has_place [] rest v = (0, ap (λ (b : Bool). cond b (Some 0) (option_map suc (place_of rest v.code))) (equal_bytes v.code))
has_place (x ∷ front) rest v = go (bytes_eq x.code v.code) (has_place front rest v)
  where
    go : (b : Bool) → (p : ℕ) × (place_of (front ++ v ∷ rest) v.code ≡ Some p) → (p : ℕ) × (cond b (Some 0) (option_map suc (place_of (front ++ v ∷ rest) v.code)) ≡ Some p)
    go true h = (0, refl)
    go false h = (suc h.0, ap (option_map suc) h.1)

pub place_below : (o : Option ℕ) (vs : List Variable) (code : List ℕ) → o ≡ place_of vs code → IfSome o (λ p. p < length vs)
place_below None vs code e = tt
place_below (Some p) vs code e = (place_is vs code p (record { code = []; name = []; width = 0 }) (sym e)).0

-- ---- the table, from the last variable on

abbrev pub AreBehind : BTreeMap (Bor (List ℕ)) ℕ → List Variable → ℕ → Type 0
AreBehind slots vs left = (code : Bor (List ℕ)) → get by_bytes slots code ≡ option_map (λ k. left + k) (place_of (drop left vs) code.now)

pub none_behind : (slots : BTreeMap (Bor (List ℕ)) ℕ) (vs : List Variable) → ((code : Bor (List ℕ)) → get by_bytes slots code ≡ None) → AreBehind slots vs (length vs)
none_behind slots vs none code = none code ∙ ap (λ (l : List Variable). option_map (λ k. length vs + k) (place_of l code.now)) (sym (drop_all (length vs) vs (omega arith)))

module _ (vs : List Variable) (left : ℕ) (v : Variable) (some : 0 < left) (within : left ≤ length vs) (is : v ≡ get_or vs (left - 1) v)
    (slots more : BTreeMap (Bor (List ℕ)) ℕ) (key : Bor (List ℕ)) (named : key.now ≡ v.code) (updates : Updates by_bytes slots more key (Some (left - 1))) where
  unfolded : drop (left - 1) vs ≡ v ∷ drop left vs
  unfolded =
      let same : left - 1 + 1 ≡ left = omega arith in
      drop_more vs (left - 1) v (omega arith) ∙ (λ i. sym is i ∷ drop (same i) vs)

  step : (b : Bool) (o : Option ℕ) → cond b (Some (left - 1)) (option_map (λ k. left + k) o) ≡ option_map (λ k. left - 1 + k) (cond b (Some 0) (option_map suc o))
  step true o = let e : left - 1 ≡ left - 1 + 0 = omega arith in ap (λ (k : ℕ). Some k) e
  step false None = refl
  step false (Some k) = let e : left + k ≡ left - 1 + suc k = omega arith in ap (λ (k : ℕ). Some k) e

  pub one_behind : AreBehind slots vs left → AreBehind more vs (left - 1)
  one_behind are code =
      updates.0 code
      ∙ ap (λ (b : Bool). cond b (Some (left - 1)) (get by_bytes slots code)) (is_eq-slice_cmp key.now code.now ∙ ap (λ (n : List ℕ). bytes_eq n code.now) named)
      ∙ ap (λ (o : Option ℕ). cond (bytes_eq v.code code.now) (Some (left - 1)) o) (are code)
      ∙ step (bytes_eq v.code code.now) (place_of (drop left vs) code.now)
      ∙ ap (λ (l : List Variable). option_map (λ k. left - 1 + k) (place_of l code.now)) (sym unfolded)

pub all_behind : (slots : BTreeMap (Bor (List ℕ)) ℕ) (vs : List Variable) (left : ℕ) → left ≡ 0 → AreBehind slots vs left → AreSlots slots vs
all_behind slots vs left none are code =
    subst (λ (n : ℕ). AreBehind slots vs n) none are code ∙ go (place_of vs code.now)
  where
    go : (o : Option ℕ) → option_map (λ k. 0 + k) o ≡ o
    go None = refl
    go (Some k) = let e : 0 + k ≡ k = omega arith in ap (λ (k : ℕ). Some k) e

-- ---- sets of codes

or_here : (a b : Bool) → cond a true b ≡ (b || (a || false))
or_here true true = refl
or_here true false = refl
or_here false true = refl
or_here false false = refl

pub one_given : (codes more : BTreeSet (Bor (List ℕ))) (changes : List Change) (c : Change) (key : Bor (List ℕ)) → key.now ≡ c.code → AreGiven codes changes
    → sorted.Updates by_bytes codes more key true → AreGiven more (changes ++ c ∷ [])
one_given codes more changes c key named are updates code =
    updates.0 code
    ∙ ap (λ (b : Bool). cond b true (sorted.contains by_bytes codes code)) (is_eq-slice_cmp key.now code.now ∙ ap (λ (n : List ℕ). bytes_eq n code.now) named)
    ∙ ap (λ (b : Bool). cond (bytes_eq c.code code.now) true b) (are code)
    ∙ or_here (bytes_eq c.code code.now) (list_any (λ x. bytes_eq x.code code.now) changes)
    ∙ sym (list_any-append (λ x. bytes_eq x.code code.now) changes (c ∷ []))
