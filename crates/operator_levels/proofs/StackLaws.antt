-- What joining does, for any way of spelling by levels.
use Rattle.std.proofs.Common.{◌≡◌, ℕ, zero, suc, ◌<◌, ◌≤◌, Bool, true, false, cond, ltb, List, [], ◌∷◌, ◌++◌, Option, Some, None, option_and_then, refl, sym, ap, subst, ◌∙◌, append_assoc, arith, inl, inr, max}
use Rattle.std.proofs.lemmas.Bool.{cases_lt, ltb-true, lt-ltb, le-ltb}
use Rattle.lisa_words.specs.declared.binary.Operator.{Operator}
use Rattle.lisa_words.specs.declared.binary.Operator.TheVariants as operators
use Rattle.lisa_words.specs.Operators.{level_of}
use Rattle.operator_levels.specs.Stacks.{Stack, joined_before, pushed, finished}

pub level_range : (o : Operator) → (1 ≤ level_of o) × (level_of o ≤ 10)
level_range operators.OneTrue = (omega arith, omega arith)
level_range operators.BothTrue = (omega arith, omega arith)
level_range operators.Or = (omega arith, omega arith)
level_range operators.Xor = (omega arith, omega arith)
level_range operators.And = (omega arith, omega arith)
level_range operators.Equal = (omega arith, omega arith)
level_range operators.Unequal = (omega arith, omega arith)
level_range operators.Less = (omega arith, omega arith)
level_range operators.LessEqual = (omega arith, omega arith)
level_range operators.Greater = (omega arith, omega arith)
level_range operators.GreaterEqual = (omega arith, omega arith)
level_range operators.Left = (omega arith, omega arith)
level_range operators.Right = (omega arith, omega arith)
level_range operators.Add = (omega arith, omega arith)
level_range operators.Sub = (omega arith, omega arith)
level_range operators.Mul = (omega arith, omega arith)

some_same : {A : Type 0} (x y : A) → ◌≡◌ {A = Option A} (Some x) (Some y) → x ≡ y
some_same x y e = cc

pub and_then_some : {A B : Type 0} (f : A → Option B) (o : Option A) (y : B) → option_and_then f o ≡ Some y → (x : A) × (o ≡ Some x) × (f x ≡ Some y)
and_then_some f (Some x) y e = (x, refl, e)
and_then_some f None y e = absurd cc

not_below : (a b : ℕ) → ltb a b ≡ false → b ≤ a
not_below a b e =
    elim (cases_lt a b) [
      | inl lt ↦ absurd (let is = lt-ltb a b lt in cc)
      | inr ge ↦ ge
    ]

-- what waits last binds less tightly than this
abbrev pub IsLooser : {Tree : Type 0} → Stack Tree → ℕ → Type 0
IsLooser [] l = Unit {0}
IsLooser ((a, o) ∷ rest) l = level_of o < l

pub looser_up : {Tree : Type 0} (stack : Stack Tree) (l m : ℕ) → l ≤ m → IsLooser stack l → IsLooser stack m
looser_up [] l m le h = tt
looser_up ((a, o) ∷ rest) l m le h = omega (arith, h)

module _ {Tree : Type 0} (two : Operator → Tree → Tree → Tree) (depth : Tree → ℕ) (limit : ℕ) where
  -- nothing is joined behind a looser operator
  pub joined_stays : (stack : Stack Tree) (l : ℕ) (t : Tree) → IsLooser stack l → joined_before two depth limit l stack t ≡ Some (stack, t)
  joined_stays [] l t h = refl
  joined_stays ((a, o) ∷ rest) l t h = rw (lt-ltb (level_of o) l h) refl

  -- two are joined behind an operator that is as tight, where the tree isn't too deep
  pub joined_pops : (stack : Stack Tree) (o : Operator) (l : ℕ) (a t : Tree) → l ≤ level_of o → depth (two o a t) ≤ limit → joined_before two depth limit l ((a, o) ∷ stack) t ≡ joined_before two depth limit l stack (two o a t)
  joined_pops stack o l a t le deep = rw (le-ltb (level_of o) l le, le-ltb limit (depth (two o a t)) deep) refl

  pub pushed_stays : (stack : Stack Tree) (o : Operator) (t : Tree) → IsLooser stack (level_of o) → pushed two depth limit stack t o ≡ Some ((t, o) ∷ stack)
  pushed_stays stack o t h = ap (option_and_then (λ (x : Stack Tree × Tree). Some ((x.1, o) ∷ x.0))) (joined_stays stack (level_of o) t h)

  pub pushed_pops : (stack : Stack Tree) (o p : Operator) (a t : Tree) → level_of p ≤ level_of o → depth (two o a t) ≤ limit → pushed two depth limit ((a, o) ∷ stack) t p ≡ pushed two depth limit stack (two o a t) p
  pushed_pops stack o p a t le deep = ap (option_and_then (λ (x : Stack Tree × Tree). Some ((x.1, p) ∷ x.0))) (joined_pops stack o (level_of p) a t le deep)

  pub finished_pops : (stack : Stack Tree) (o : Operator) (a t : Tree) → depth (two o a t) ≤ limit → finished two depth limit ((a, o) ∷ stack) t ≡ finished two depth limit stack (two o a t)
  finished_pops stack o a t deep = ap (option_and_then (λ (x : Stack Tree × Tree). Some x.1)) (joined_pops stack o 1 a t (level_range o).0 deep)

  pub finished_alone : (t : Tree) → finished two depth limit [] t ≡ Some t
  finished_alone t = refl

joined_depth : {Tree : Type 0} (two : Operator → Tree → Tree → Tree) (depth : Tree → ℕ) (limit level : ℕ) (stack : Stack Tree) (t : Tree) → depth t ≤ limit → (x : Stack Tree × Tree)
    → joined_before two depth limit level stack t ≡ Some x → depth x.1 ≤ limit
joined_depth two depth limit level [] t le x e = subst (λ (y : Stack _ × _). depth y.1 ≤ limit) (some_same ([], t) x e) le
joined_depth two depth limit level ((a, o) ∷ rest) t le x e = go (ltb (level_of o) level) (ltb limit (depth (two o a t))) refl e (λ deep f. joined_depth two depth limit level rest (two o a t) deep x f)
  where
    go : (b c : Bool) → ltb limit (depth (two o a t)) ≡ c → cond b (Some ((a, o) ∷ rest, t)) (cond c None (joined_before two depth limit level rest (two o a t))) ≡ Some x
        → (depth (two o a t) ≤ limit → joined_before two depth limit level rest (two o a t) ≡ Some x → depth x.1 ≤ limit) → depth x.1 ≤ limit
    go true c deep e rec = subst (λ (y : Stack _ × _). depth y.1 ≤ limit) (some_same ((a, o) ∷ rest, t) x e) le
    go false true deep e rec = absurd cc
    go false false deep e rec = rec (not_below limit (depth (two o a t)) deep) e

-- Spelled says which lists of tokens spell a tree at a level.
module _ {Tok Tree : Type 0} (Spelled : ℕ → List Tok → Tree → Type 0) (sign : Operator → Tok) (two : Operator → Tree → Tree → Tree)
    (pair : (o : Operator) (xs ys : List Tok) (a b : Tree) → Spelled (level_of o) xs a → Spelled (suc (level_of o)) ys b → Spelled (level_of o) (xs ++ (sign o ∷ ys)) (two o a b))
    (tighter : (l : ℕ) (ts : List Tok) (t : Tree) → Spelled (suc l) ts t → Spelled l ts t) where
  pub loosened : (k m : ℕ) (ts : List Tok) (t : Tree) → k ≤ m → Spelled m ts t → Spelled k ts t
  loosened k zero ts t le d = let same : 0 ≡ k = omega arith in subst (λ (l : ℕ). Spelled l ts t) same d
  loosened k (suc m) ts t le d =
      elim (cases_lt m k) [
        | inl lt ↦ (let same : suc m ≡ k = omega arith in subst (λ (l : ℕ). Spelled l ts t) same d)
        | inr ge ↦ loosened k m ts t ge (tighter m ts t d)
      ]

  -- These tokens spell what waits: each operand and its operator, ever tighter ones. What stands behind is of the level l or a tighter one.
  pub data Waits : Stack Tree → List Tok → ℕ → Type 0 where
    nothing : Waits [] [] 1
    behind : (o : Operator) {rest : Stack Tree} {ws xs : List Tok} {l : ℕ} {a : Tree} → Waits rest ws l → l ≤ level_of o → Spelled (level_of o) xs a → Waits ((a, o) ∷ rest) (ws ++ (xs ++ sign o ∷ [])) (suc (level_of o))

  -- what is there when the operators of a level and tighter ones are joined
  pub record Joins (level : ℕ) (ts : List Tok) (x : Stack Tree × Tree) : Type 0 where
    pub front : List Tok
    pub last : List Tok
    pub least : ℕ
    pub own : ℕ
    pub waits : Waits x.0 front least
    pub spelled : Spelled own last x.1
    pub fits : least ≤ own
    pub tight : level ≤ own
    pub low : least ≤ max 1 level
    pub whole : ts ≡ front ++ last

  nothing_before : {stack : Stack Tree} {ws : List Tok} {l : ℕ} → Waits stack ws l → l ≤ 1 → ws ≡ []
  nothing_before nothing le = refl
  nothing_before (behind o w up d) le = absurd (omega (arith, (level_range o).0))

  module _ (depth : Tree → ℕ) (limit : ℕ) where
    joins : (level : ℕ) {stack : Stack Tree} {ws : List Tok} {l : ℕ} → Waits stack ws l → (m : ℕ) (xs : List Tok) (t : Tree) → Spelled m xs t → l ≤ m → level ≤ m → (x : Stack Tree × Tree)
        → joined_before two depth limit level stack t ≡ Some x → Joins level (ws ++ xs) x
    joins level nothing m xs t d le tight x e =
        subst (λ (y : Stack Tree × Tree). Joins level xs y) (some_same ([], t) x e) (record {
          front = [];
          last = xs;
          least = 1;
          own = m;
          waits = nothing;
          spelled = d;
          fits = le;
          tight = tight;
          low = omega arith;
          whole = refl;
        })
    joins level (behind o {rest = rest} {ws = ws} {xs = ys} {l = l} {a = a} w up da) m xs t d le tight x e =
        go (ltb (level_of o) level) (ltb limit (depth (two o a t))) refl refl e
        (λ ge f. joins level w (level_of o) (ys ++ (sign o ∷ xs)) (two o a t) (pair o ys xs a t da (loosened (suc (level_of o)) m xs t le d)) up ge x f)
      where
        regrouped : (ws ++ (ys ++ sign o ∷ [])) ++ xs ≡ ws ++ (ys ++ (sign o ∷ xs))
        regrouped = append_assoc ws (ys ++ sign o ∷ []) xs ∙ ap (λ (u : List Tok). ws ++ u) (append_assoc ys (sign o ∷ []) xs)

        go : (b c : Bool) → ltb (level_of o) level ≡ b → ltb limit (depth (two o a t)) ≡ c
            → cond b (Some ((a, o) ∷ rest, t)) (cond c None (joined_before two depth limit level rest (two o a t))) ≡ Some x
            → (level ≤ level_of o → joined_before two depth limit level rest (two o a t) ≡ Some x → Joins level (ws ++ (ys ++ (sign o ∷ xs))) x)
            → Joins level ((ws ++ (ys ++ sign o ∷ [])) ++ xs) x
        go true c is _ e rec =
            let less : level_of o < level = ltb-true _ _ is in
            subst (λ (y : Stack Tree × Tree). Joins level ((ws ++ (ys ++ sign o ∷ [])) ++ xs) y) (some_same ((a, o) ∷ rest, t) x e) (record {
              front = ws ++ (ys ++ sign o ∷ []);
              last = xs;
              least = suc (level_of o);
              own = m;
              waits = behind o w up da;
              spelled = d;
              fits = le;
              tight = tight;
              low = omega arith;
              whole = refl;
            })
        go false true _ _ e rec = absurd cc
        go false false is deep e rec =
            let j = rec (not_below (level_of o) level is) e in
            record {
              front = j.front;
              last = j.last;
              least = j.least;
              own = j.own;
              waits = j.waits;
              spelled = j.spelled;
              fits = j.fits;
              tight = j.tight;
              low = j.low;
              whole = regrouped ∙ j.whole;
            }

    -- what waits with an operand and an operator more
    pub pushed_waits : {stack : Stack Tree} {ws : List Tok} {l : ℕ} → Waits stack ws l → (m : ℕ) (xs : List Tok) (t : Tree) (o : Operator) → Spelled m xs t → l ≤ m → level_of o ≤ m → (new : Stack Tree)
        → pushed two depth limit stack t o ≡ Some new → Waits new (ws ++ (xs ++ sign o ∷ [])) (suc (level_of o))
    pushed_waits {stack} {ws = ws} w m xs t o d le tight new e =
        let p = and_then_some (λ (x : Stack Tree × Tree). Some ((x.1, o) ∷ x.0)) (joined_before two depth limit (level_of o) stack t) new e in
        let j = joins (level_of o) w m xs t d le tight p.0 p.1 in
        let low : j.least ≤ level_of o = omega (arith, j.low, (level_range o).0) in
        let made = behind o j.waits low (loosened (level_of o) j.own j.last p.0.1 j.tight j.spelled) in
        let tokens : j.front ++ (j.last ++ sign o ∷ []) ≡ ws ++ (xs ++ sign o ∷ []) = sym (append_assoc j.front j.last (sign o ∷ [])) ∙ ap (λ (u : List Tok). u ++ sign o ∷ []) (sym j.whole) ∙ append_assoc ws xs (sign o ∷ []) in
        subst (λ (s : Stack Tree). Waits s (ws ++ (xs ++ sign o ∷ [])) (suc (level_of o))) (some_same ((p.0.1, o) ∷ p.0.0) new p.2)
        (subst (λ (u : List Tok). Waits ((p.0.1, o) ∷ p.0.0) u (suc (level_of o))) tokens made)

    -- the whole tree is spelled at the loosest level of operators
    pub finished_spelled : {stack : Stack Tree} {ws : List Tok} {l : ℕ} → Waits stack ws l → (m : ℕ) (xs : List Tok) (t : Tree) → Spelled m xs t → l ≤ m → 1 ≤ m → (new : Tree)
        → finished two depth limit stack t ≡ Some new → Spelled 1 (ws ++ xs) new
    finished_spelled {stack} {ws = ws} w m xs t d le some new e =
        let p = and_then_some (λ (x : Stack Tree × Tree). Some x.1) (joined_before two depth limit 1 stack t) new e in
        let j = joins 1 w m xs t d le some p.0 p.1 in
        let none = nothing_before j.waits j.low in
        let tokens : j.last ≡ ws ++ xs = sym (j.whole ∙ ap (λ (u : List Tok). u ++ j.last) none) in
        subst (λ (u : List Tok). Spelled 1 u new) tokens (subst (Spelled 1 j.last) (some_same p.0.1 new p.2) (loosened 1 j.own j.last p.0.1 j.tight j.spelled))

-- a tree that comes out is within the limit
pub finished_depth : {Tree : Type 0} (two : Operator → Tree → Tree → Tree) (depth : Tree → ℕ) (limit : ℕ) (stack : Stack Tree) (t new : Tree) → depth t ≤ limit → finished two depth limit stack t ≡ Some new → depth new ≤ limit
finished_depth two depth limit stack t new le e =
    let p = and_then_some (λ (x : Stack _ × _). Some x.1) (joined_before two depth limit 1 stack t) new e in
    subst (λ (u : _). depth u ≤ limit) (some_same p.0.1 new p.2) (joined_depth two depth limit 1 stack t le p.0 p.1)
