-- Operands that wait, with the operators behind them, are spelled by tokens; so is what joining makes of them.
use Rattle.std.proofs.Common.{◌≡◌, ℕ, zero, suc, ◌<◌, ◌≤◌, Bool, true, false, cond, ltb, [], ◌∷◌, ◌++◌, Some, None, refl, sym, ap, subst, ◌∙◌, append_assoc, arith, inl, inr, max}
use Rattle.std.proofs.lemmas.Bool.{cases_lt, ltb-true, lt-ltb}
use Rattle.lisa_words.specs.declared.binary.Operator.{Operator}
use Rattle.lisa_words.specs.Operators.{level_of}
use Rattle.operator_levels.specs.Stacks.{Stack, joined_before}
use Rattle.operator_levels.proofs.StackLaws.{level_range, and_then_some}
use Rattle.lisa_words.proofs.StepLaws.{some_is}
use Rattle.verilog_text.specs.Tokens as tokens
use Rattle.verilog_text.specs.Grammar.{vsign_of}
use Rattle.verilog_places.specs.Trees.{PlacedTree, two}
use Rattle.verilog_places.specs.Spelling as grammar
use Rattle.verilog_places.specs.Spelling.{PlacedToks, SpellsPlaced}
use Rattle.verilog_expression_reader.specs.Reading.{depth, push, finish}

not_below : (a b : ℕ) → ltb a b ≡ false → b ≤ a
not_below a b e =
    elim (cases_lt a b) [
      | inl lt ↦ absurd (let is = lt-ltb a b lt in cc)
      | inr ge ↦ ge
    ]

pub loosened : (k m : ℕ) (ts : PlacedToks) (t : PlacedTree) → k ≤ m → SpellsPlaced m ts t → SpellsPlaced k ts t
loosened k zero ts t le d = let same : 0 ≡ k = omega arith in subst (λ (l : ℕ). SpellsPlaced l ts t) same d
loosened k (suc m) ts t le d =
    elim (cases_lt m k) [
      | inl lt ↦ (let same : suc m ≡ k = omega arith in subst (λ (l : ℕ). SpellsPlaced l ts t) same d)
      | inr ge ↦ loosened k m ts t ge (grammar.tighter d)
    ]

-- These tokens spell what waits: each operand and its operator, ever tighter ones. What stands behind is of the level l or a tighter one.
pub data Waits : Stack PlacedTree → PlacedToks → ℕ → Type 0 where
  nothing : Waits [] [] 1
  behind : (o : Operator) (at : ℕ) {rest : Stack PlacedTree} {ws xs : PlacedToks} {l : ℕ} {a : PlacedTree} → Waits rest ws l → l ≤ level_of o → SpellsPlaced (level_of o) xs a
      → Waits ((a, o) ∷ rest) (ws ++ (xs ++ (at, tokens.Mark (vsign_of o)) ∷ [])) (suc (level_of o))

-- what is there when the operators of a level and tighter ones are joined
pub record Joins (level : ℕ) (ts : PlacedToks) (x : Stack PlacedTree × PlacedTree) : Type 0 where
  pub front : PlacedToks
  pub last : PlacedToks
  pub least : ℕ
  pub own : ℕ
  pub waits : Waits x.0 front least
  pub spelled : SpellsPlaced own last x.1
  pub fits : least ≤ own
  pub tight : level ≤ own
  pub low : least ≤ max 1 level
  pub whole : ts ≡ front ++ last

nothing_before : {stack : Stack PlacedTree} {ws : PlacedToks} {l : ℕ} → Waits stack ws l → l ≤ 1 → ws ≡ []
nothing_before nothing le = refl
nothing_before (behind o at w up d) le = absurd (omega (arith, (level_range o).0))

module _ (limit : ℕ) where
  joins : (level : ℕ) {stack : Stack PlacedTree} {ws : PlacedToks} {l : ℕ} → Waits stack ws l → (m : ℕ) (xs : PlacedToks) (t : PlacedTree) → SpellsPlaced m xs t → l ≤ m → level ≤ m
      → (x : Stack PlacedTree × PlacedTree) → joined_before two depth limit level stack t ≡ Some x → Joins level (ws ++ xs) x
  joins level nothing m xs t d le tight x e =
      subst (λ (y : Stack PlacedTree × PlacedTree). Joins level xs y) (some_is ([], t) x e) (record {
        front = [];
        last = xs;
        least = 1;
        own = m;
        waits = nothing;
        spelled = d;
        fits = le;
        tight = tight;
        low = omega arith;
        whole = refl;
      })
  joins level (behind o at {rest = rest} {ws = ws} {xs = ys} {l = l} {a = a} w up da) m xs t d le tight x e =
      go (ltb (level_of o) level) (ltb limit (depth (two o a t))) refl refl e
      (λ ge f. joins level w (level_of o) (ys ++ ((at, tokens.Mark (vsign_of o)) ∷ xs)) (two o a t) (grammar.two o at refl da (loosened (suc (level_of o)) m xs t le d) refl) up ge x f)
    where
      regrouped : (ws ++ (ys ++ (at, tokens.Mark (vsign_of o)) ∷ [])) ++ xs ≡ ws ++ (ys ++ ((at, tokens.Mark (vsign_of o)) ∷ xs))
      regrouped = append_assoc ws (ys ++ (at, tokens.Mark (vsign_of o)) ∷ []) xs ∙ ap (λ (u : PlacedToks). ws ++ u) (append_assoc ys ((at, tokens.Mark (vsign_of o)) ∷ []) xs)

      go : (b c : Bool) → ltb (level_of o) level ≡ b → ltb limit (depth (two o a t)) ≡ c
          → cond b (Some ((a, o) ∷ rest, t)) (cond c None (joined_before two depth limit level rest (two o a t))) ≡ Some x
          → (level ≤ level_of o → joined_before two depth limit level rest (two o a t) ≡ Some x → Joins level (ws ++ (ys ++ ((at, tokens.Mark (vsign_of o)) ∷ xs))) x)
          → Joins level ((ws ++ (ys ++ (at, tokens.Mark (vsign_of o)) ∷ [])) ++ xs) x
      go true c is _ e rec =
          let less : level_of o < level = ltb-true _ _ is in
          subst (λ (y : Stack PlacedTree × PlacedTree). Joins level ((ws ++ (ys ++ (at, tokens.Mark (vsign_of o)) ∷ [])) ++ xs) y) (some_is ((a, o) ∷ rest, t) x e) (record {
            front = ws ++ (ys ++ (at, tokens.Mark (vsign_of o)) ∷ []);
            last = xs;
            least = suc (level_of o);
            own = m;
            waits = behind o at w up da;
            spelled = d;
            fits = le;
            tight = tight;
            low = omega arith;
            whole = refl;
          })
      go false true _ _ e rec = absurd cc
      go false false is deep e rec =
          let j = rec (not_below (level_of o) level is) e in
          record {
            front = j.front;
            last = j.last;
            least = j.least;
            own = j.own;
            waits = j.waits;
            spelled = j.spelled;
            fits = j.fits;
            tight = j.tight;
            low = j.low;
            whole = regrouped ∙ j.whole;
          }

  -- what waits with an operand and an operator more
  pub pushed_waits : {stack : Stack PlacedTree} {ws : PlacedToks} {l : ℕ} → Waits stack ws l → (m : ℕ) (xs : PlacedToks) (t : PlacedTree) (o : Operator) (at : ℕ) → SpellsPlaced m xs t → l ≤ m → level_of o ≤ m
      → (new : Stack PlacedTree) → push limit stack t o ≡ Some new → Waits new (ws ++ (xs ++ (at, tokens.Mark (vsign_of o)) ∷ [])) (suc (level_of o))
  pushed_waits {stack} {ws = ws} w m xs t o at d le tight new e =
      let p = and_then_some (λ (x : Stack PlacedTree × PlacedTree). Some ((x.1, o) ∷ x.0)) (joined_before two depth limit (level_of o) stack t) new e in
      let j = joins (level_of o) w m xs t d le tight p.0 p.1 in
      let low : j.least ≤ level_of o = omega (arith, j.low, (level_range o).0) in
      let sign : PlacedToks = (at, tokens.Mark (vsign_of o)) ∷ [] in
      let made = behind o at j.waits low (loosened (level_of o) j.own j.last p.0.1 j.tight j.spelled) in
      let split : j.front ++ (j.last ++ sign) ≡ ws ++ (xs ++ sign) = sym (append_assoc j.front j.last sign) ∙ ap (λ (u : PlacedToks). u ++ sign) (sym j.whole) ∙ append_assoc ws xs sign in
      subst (λ (s : Stack PlacedTree). Waits s (ws ++ (xs ++ sign)) (suc (level_of o))) (some_is ((p.0.1, o) ∷ p.0.0) new p.2)
      (subst (λ (u : PlacedToks). Waits ((p.0.1, o) ∷ p.0.0) u (suc (level_of o))) split made)

  -- the whole tree is spelled at the loosest level of operators
  pub finished_spelled : {stack : Stack PlacedTree} {ws : PlacedToks} {l : ℕ} → Waits stack ws l → (m : ℕ) (xs : PlacedToks) (t : PlacedTree) → SpellsPlaced m xs t → l ≤ m → 1 ≤ m
      → (new : PlacedTree) → finish limit stack t ≡ Some new → SpellsPlaced 1 (ws ++ xs) new
  finished_spelled {stack} {ws = ws} w m xs t d le some new e =
      let p = and_then_some (λ (x : Stack PlacedTree × PlacedTree). Some x.1) (joined_before two depth limit 1 stack t) new e in
      let j = joins 1 w m xs t d le some p.0 p.1 in
      let none = nothing_before j.waits j.low in
      let split : j.last ≡ ws ++ xs = sym (j.whole ∙ ap (λ (u : PlacedToks). u ++ j.last) none) in
      subst (λ (u : PlacedToks). SpellsPlaced 1 u new) split (subst (SpellsPlaced 1 j.last) (some_is p.0.1 new p.2) (loosened 1 j.own j.last p.0.1 j.tight j.spelled))
