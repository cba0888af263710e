-- Where the first `*/` stands.
use Rattle.std.proofs.Common.{◌≡◌, ℕ, zero, suc, ◌+◌, ◌-◌, ◌<◌, ◌≤◌, Bool, true, false, cond, eqb, List, [], ◌∷◌, ◌++◌, length, take, drop, get_or, Option, Some, None, refl, sym, ap, subst, ◌∙◌, arith}
use Rattle.std.specs.Prelude.{◌==◌, ◌&&◌, option_map}
use Rattle.std.proofs.lemmas.Bool.{and_parts, eqb-true}
use Rattle.std.proofs.lemmas.List.{length-drop, length-take, length-append}
use Rattle.std.proofs.Math.Seq.{drop-cons}
use Rattle.lisa_words.specs.Bytes.{front_is}
use Rattle.lisa_words.specs.Gaps.{end_of}

-- a place further on
abbrev pub shifted : ℕ → Option ℕ → Option ℕ
shifted k None = None
shifted k (Some n) = Some (k + n)

shifted-suc : (k : ℕ) (o : Option ℕ) → shifted k (option_map suc o) ≡ shifted (suc k) o
shifted-suc k None = refl
shifted-suc k (Some n) = ap (λ (m : ℕ). Some m) (omega arith)

pub shifted-zero : (o : Option ℕ) → shifted 0 o ≡ o
shifted-zero None = refl
shifted-zero (Some n) = ap (λ (m : ℕ). Some m) (omega arith)

abbrev closes : ℕ → List ℕ → Bool
closes b bs = b == 42 && front_is (λ c. c == 47) bs

-- the front of what is left
front_at : (body : List ℕ) (k : ℕ) → k < length body → drop k body ≡ get_or body k 0 ∷ drop (suc k) body
front_at body k lt = drop-cons body k 0 lt

second_at : (body : List ℕ) (k : ℕ) → front_is (λ c. c == 47) (drop k body) ≡ (get_or body k 0 == 47)
second_at [] zero = refl
second_at [] (suc k) = refl
second_at (b ∷ body) zero = refl
second_at (b ∷ body) (suc k) = second_at body k

pub end_next : (body : List ℕ) (k : ℕ) → k < length body → (get_or body k 0 ≡ 42 → get_or body (suc k) 0 ≡ 47 → ⊥) → shifted k (end_of (drop k body)) ≡ shifted (suc k) (end_of (drop (suc k) body))
end_next body k lt none = ap (λ (l : List ℕ). shifted k (end_of l)) (front_at body k lt) ∙ go (closes (get_or body k 0) (drop (suc k) body)) refl
  where
    go : (c : Bool) → closes (get_or body k 0) (drop (suc k) body) ≡ c → shifted k (cond c (Some 0) (option_map suc (end_of (drop (suc k) body)))) ≡ shifted (suc k) (end_of (drop (suc k) body))
    go true e =
        let parts = and_parts (eqb (get_or body k 0) 42) (front_is (λ c. c == 47) (drop (suc k) body)) e in
        absurd (none (eqb-true _ _ parts.0) (eqb-true _ _ (sym (second_at body (suc k)) ∙ parts.1)))
    go false e = shifted-suc k (end_of (drop (suc k) body))

end_one : (body : List ℕ) → length body ≤ 1 → end_of body ≡ None
end_one [] le = refl
end_one (b ∷ []) le = go (eqb b 42)
  where
    go : (c : Bool) → cond {A = Option ℕ} (c && false) (Some 0) None ≡ None
    go true = refl
    go false = refl
end_one (b ∷ c ∷ body) le = absurd (omega arith)

pub end_last : (body : List ℕ) (k : ℕ) → length body ≤ suc k → end_of (drop k body) ≡ None
end_last body k le = end_one (drop k body) (omega (arith, length-drop k body))

-- what stands around the first `*/`
pub end_splits : (body : List ℕ) (n : ℕ) → end_of body ≡ Some n → body ≡ take n body ++ (42 ∷ 47 ∷ drop (suc (suc n)) body)
end_splits [] n e = absurd cc
end_splits (b ∷ body) n e = go (eqb b 42) (front_is (λ c. c == 47) body) refl refl e (λ m f. end_splits body m f)
  where
    found : (body : List ℕ) → front_is (λ c. c == 47) body ≡ true → body ≡ 47 ∷ drop 1 body
    found [] e = absurd cc
    found (c ∷ body) e = ap (λ (x : ℕ). x ∷ body) (eqb-true c 47 e)

    on : (o : Option ℕ) → end_of body ≡ o → option_map suc o ≡ Some n → ((m : ℕ) → end_of body ≡ Some m → body ≡ take m body ++ (42 ∷ 47 ∷ drop (suc (suc m)) body)) → b ∷ body ≡ take n (b ∷ body) ++ (42 ∷ 47 ∷ drop (suc (suc n)) (b ∷ body))
    on None e f rec = absurd cc
    on (Some m) e f rec =
        let is : suc m ≡ n = cc in
        subst (λ (k : ℕ). b ∷ body ≡ take k (b ∷ body) ++ (42 ∷ 47 ∷ drop (suc (suc k)) (b ∷ body))) is (ap (λ (l : List ℕ). b ∷ l) (rec m e))

    go : (p q : Bool) → eqb b 42 ≡ p → front_is (λ c. c == 47) body ≡ q → cond (p && q) (Some 0) (option_map suc (end_of body)) ≡ Some n
        → ((m : ℕ) → end_of body ≡ Some m → body ≡ take m body ++ (42 ∷ 47 ∷ drop (suc (suc m)) body)) → b ∷ body ≡ take n (b ∷ body) ++ (42 ∷ 47 ∷ drop (suc (suc n)) (b ∷ body))
    go true true p q f rec =
        let here : 0 ≡ n = cc in
        let whole : b ∷ body ≡ 42 ∷ 47 ∷ drop 1 body = ap (λ (x : ℕ). x ∷ body) (eqb-true b 42 p) ∙ ap (λ (l : List ℕ). 42 ∷ l) (found body q) in
        subst (λ (k : ℕ). b ∷ body ≡ take k (b ∷ body) ++ (42 ∷ 47 ∷ drop (suc (suc k)) (b ∷ body))) here whole
    go true false p q f rec = on (end_of body) refl f rec
    go false q p q' f rec = on (end_of body) refl f rec

pub end_within : (body : List ℕ) (n : ℕ) → end_of body ≡ Some n → n + 2 ≤ length body
end_within body n e = omega (arith, ap length (end_splits body n e), length-append (take n body) (42 ∷ 47 ∷ drop (suc (suc n)) body), length-take n body)

-- ---- a search from the left

less-one : (k : ℕ) → suc k - 1 ≡ k
less-one k = omega arith

more-one : (k : ℕ) → suc k + 1 - 1 ≡ suc k
more-one k = omega arith

-- the search stands at i, and looks at the byte before
abbrev pub Searched : List ℕ → ℕ → Type 0
Searched body i = shifted (i - 1) (end_of (drop (i - 1) body)) ≡ end_of body

pub search_on : (body : List ℕ) (i : ℕ) → 1 ≤ i → i < length body → (get_or body (i - 1) 0 ≡ 42 → get_or body i 0 ≡ 47 → ⊥) → Searched body i → Searched body (i + 1)
search_on body zero le lt none h = absurd (omega arith)
search_on body (suc k) le lt none h =
    let none' : get_or body k 0 ≡ 42 → get_or body (suc k) 0 ≡ 47 → ⊥ = λ a b. none (ap (λ (j : ℕ). get_or body j 0) (less-one k) ∙ a) b in
    subst (λ (j : ℕ). shifted j (end_of (drop j body)) ≡ end_of body) (sym (more-one k))
    (sym (end_next body k (omega arith) none') ∙ subst (λ (j : ℕ). shifted j (end_of (drop j body)) ≡ end_of body) (less-one k) h)

pub search_fails : (body : List ℕ) (i : ℕ) → 1 ≤ i → length body ≤ i → Searched body i → None ≡ end_of body
search_fails body zero le lt h = absurd (omega arith)
search_fails body (suc k) le lt h =
    ap (shifted k) (sym (end_last body k lt)) ∙ subst (λ (j : ℕ). shifted j (end_of (drop j body)) ≡ end_of body) (less-one k) h
