-- The canonical tokens of an expression spell it, wherever some tokens do.
use Rattle.std.proofs.Common.{◌≡◌, ℕ, zero, suc, ◌^◌, ◌<◌, ◌≤◌, max, Bool, true, false, cond, ltb, List, [], ◌∷◌, ◌++◌, refl, sym, subst, arith, inl, inr}
use Rattle.std.specs.Fmt.{digits}
use Rattle.std.proofs.lemmas.Bool.{cases_lt, lt-ltb, le-ltb}
use Rattle.lisa_tree.specs.declared.tokens.Base.{Base}
use Rattle.lisa_tree.specs.declared.tokens.Base.TheVariants as bases
use Rattle.lisa_tree.specs.declared.tokens.Sign.TheVariants as signs
use Rattle.lisa_tree.specs.declared.tokens.TokenPart.TheVariants as parts
use Rattle.lisa_words.specs.declared.binary.Operator.{Operator}
use Rattle.lisa_words.specs.declared.binary.Operator.TheVariants as operators
use Rattle.lisa_tree.specs.Operators.{sign_of}
use Rattle.lisa_words.specs.Operators.{level_of}
use Rattle.lisa_tree.specs.Expressions as expressions
use Rattle.lisa_tree.specs.Expressions.{ExprTree}
use Rattle.lisa_tree.specs.Grammar as grammar
use Rattle.lisa_tree.specs.Grammar.{Toks, mark, is_binary, binary_value, SpellsExpr, SpellsPlace}
use Rattle.lisa_printer.specs.CanonicalTokens.{own_level, bare_tokens, expr_tokens}
use Rattle.lisa_printer.proofs.Heights.{IsEven, IsPlain, even_none, even_within}
use Rattle.lisa_printer.proofs.SoundTokens.{AreSound, AreSound-append, sound_front, sound_back, sound_sign, binary_writes, not_binary}
use Rattle.lisa_printer.proofs.Replaced.{Replaces, nothing, joined, behind, one, instead, in_rounds, in_squares, spelled_so}

-- the brackets of an expression at a level, where it opens so many without parentheses round it
abbrev pub wrapped_height : ℕ → ℕ → ℕ → ℕ
wrapped_height level own low = cond (ltb own level) (suc low) low

-- what is known of an expression that tokens spell at a level
pub record IsAgain (level : ℕ) (ts : Toks) (e : ExprTree) : Type 0 where
  pub high : ℕ
  pub low : ℕ
  pub even : IsEven ts high
  pub bare : IsEven (bare_tokens e) low
  pub lower : wrapped_height level (own_level e) low ≤ high
  pub sound : AreSound (bare_tokens e)
  pub spells : SpellsExpr (own_level e) (bare_tokens e) e

-- what is spelled at a level is spelled at each looser one
pub loosen : (k level : ℕ) (ts : Toks) (e : ExprTree) → k ≤ level → SpellsExpr level ts e → SpellsExpr k ts e
loosen k zero ts e le d = let same : 0 ≡ k = omega arith in rw (← same) d
loosen k (suc level) ts e le d =
    elim (cases_lt level k) [
      | inl lt ↦ (let same : suc level ≡ k = omega arith in rw (← same) d)
      | inr ge ↦ loosen k level ts e ge (grammar.tighter d)
    ]

own_level_small : (e : ExprTree) → own_level e ≤ 12
own_level_small (expressions.Two operators.Mul a b) = omega arith
own_level_small (expressions.Two o a b) = level_small o
  where
    level_small : (o : Operator) → level_of o ≤ 12
    level_small operators.OneTrue = omega arith
    level_small _ = omega arith
own_level_small _ = omega arith

module _ {level : ℕ} {ts : Toks} {e : ExprTree} (h : IsAgain level ts e) where
  -- the tokens at the level spell it
  pub spelled : level ≤ 12 → SpellsExpr level (expr_tokens level e) e
  spelled le =
      elim (cases_lt (own_level e) level) [
        | inl lt ↦ rw (lt-ltb (own_level e) level lt) (loosen level 12 _ e le (grammar.inside (loosen 0 (own_level e) (bare_tokens e) e (omega arith) h.spells) refl))
        | inr ge ↦ rw (le-ltb (own_level e) level ge) (loosen level (own_level e) (bare_tokens e) e ge h.spells)
      ]

  pub replaced : Replaces ts (expr_tokens level e)
  replaced = go (ltb (own_level e) level) h.lower
    where
      go : (b : Bool) → cond b (suc h.low) h.low ≤ h.high → Replaces ts (cond b (mark signs.OpenRound ∷ (bare_tokens e ++ mark signs.CloseRound ∷ [])) (bare_tokens e))
      go true le = record {
        high = h.high;
        low = max (suc h.low) 0;
        even = h.even;
        kept = even_within (mark signs.OpenRound) (mark signs.CloseRound) (λ n. refl) (λ n. refl) h.bare even_none;
        lower = omega arith;
        sound = (sound_sign signs.OpenRound, AreSound-append (bare_tokens e) (mark signs.CloseRound ∷ []) h.sound (sound_sign signs.CloseRound, tt));
      }
      go false le = record { high = h.high; low = h.low; even = h.even; kept = h.bare; lower = le; sound = h.sound }

-- an expression at its own level
pub at_own : {ts : Toks} {e : ExprTree} → Replaces ts (bare_tokens e) → SpellsExpr (own_level e) (bare_tokens e) e → IsAgain (own_level e) ts e
at_own {e = e} r d = record {
  high = r.high;
  low = r.low;
  even = r.even;
  bare = r.kept;
  sound = r.sound;
  spells = d;
  lower = rw (le-ltb (own_level e) (own_level e) (omega arith)) r.lower;
}

-- a level further out needs no more parentheses
height_falls : (level own low : ℕ) → wrapped_height level own low ≤ wrapped_height (suc level) own low
height_falls level own low =
    elim (cases_lt own level) [
      | inl lt ↦ (let le : own < suc level = omega arith in rw (lt-ltb own level lt, lt-ltb own (suc level) le) (omega arith))
      | inr ge ↦ rw (le-ltb own level ge) (at_least (ltb own (suc level)))
    ]
  where
    at_least : (b : Bool) → low ≤ cond b (suc low) low
    at_least true = omega arith
    at_least false = omega arith

outer : {level : ℕ} {ts : Toks} {e : ExprTree} → IsAgain (suc level) ts e → IsAgain level ts e
outer {level = level} {e = e} h = record {
  high = h.high;
  low = h.low;
  even = h.even;
  bare = h.bare;
  sound = h.sound;
  spells = h.spells;
  lower = omega (arith, h.lower, height_falls level (own_level e) h.low);
}

-- parentheses that the tree may do without
unwrapped : {xs : Toks} {e : ExprTree} → IsAgain 0 xs e → IsAgain 12 (mark signs.OpenRound ∷ (xs ++ mark signs.CloseRound ∷ [])) e
unwrapped {e = e} h = record {
  high = max (suc h.high) 0;
  low = h.low;
  even = even_within (mark signs.OpenRound) (mark signs.CloseRound) (λ n. refl) (λ n. refl) h.even even_none;
  bare = h.bare;
  sound = h.sound;
  spells = h.spells;
  lower = at_most (ltb (own_level e) 12) (omega (arith, bare_lower (own_level e) h.low h.high h.lower));
}
  where
    bare_lower : (own low high : ℕ) → wrapped_height 0 own low ≤ high → low ≤ high
    bare_lower own low high le = omega (arith, at_least (ltb own 0))
      where
        at_least : (b : Bool) → low ≤ cond b (suc low) low
        at_least true = omega arith
        at_least false = omega arith

    at_most : (b : Bool) → h.low ≤ h.high → cond b (suc h.low) h.low ≤ max (suc h.high) 0
    at_most true le = omega arith
    at_most false le = omega arith

plain_sign : (o : Operator) → IsPlain (mark (sign_of o))
plain_sign operators.OneTrue n = refl
plain_sign _ n = refl

level_few : (o : Operator) → level_of o ≤ 10
level_few operators.OneTrue = omega arith
level_few _ = omega arith

-- a number as its base has it
number_again : (value : ℕ) (base : Base) → AreSound (parts.Number value base ∷ []) → IsAgain 12 (parts.Number value base ∷ []) (expressions.Number value base)
number_again value bases.Binary s = absurd (not_binary value s.0.is refl)
number_again value bases.Decimal s = at_own (one (λ n. refl) s.0) grammar.number
number_again value bases.Hexadecimal s = at_own (one (λ n. refl) s.0) grammar.number

binary_again : (value : ℕ) {ds : List ℕ} → value < 2 ^ 64 → IsAgain 12 (parts.Pattern ds ∷ []) (expressions.Number value bases.Binary)
binary_again value lt =
    let w = binary_writes value lt in
    at_own (instead (λ n. refl) (λ n. refl) w.sound nothing)
    (subst (λ (v : ℕ). SpellsExpr 12 (parts.Pattern (digits 2 false value) ∷ []) (expressions.Number v bases.Binary)) w.value (grammar.pattern w.digits (omega (arith, w.value))))

pub again : {level : ℕ} {ts : Toks} {e : ExprTree} → SpellsExpr level ts e → AreSound ts → IsAgain level ts e
again (grammar.number {value = value} {base = base}) s = number_again value base s
again (grammar.pattern {digits = ds} d lt) s = binary_again (binary_value ds) lt
again grammar.named s = at_own (one (λ n. refl) s.0) grammar.named
again (grammar.element {name = name} {xs = xs} {index = index} d whole) s =
    let t = subst AreSound whole s in
    let i = again d (sound_front xs (mark signs.CloseSquare ∷ []) t.1.1) in
    at_own (spelled_so whole (behind (λ n. refl) t.0 (in_squares (replaced i) nothing)))
    (grammar.element (spelled i (omega arith)) refl)
again grammar.input s = at_own (behind (λ n. refl) s.0 (behind (λ n. refl) s.1.0 (one (λ n. refl) s.1.1.0))) grammar.input
again grammar.decoded s = at_own (one (λ n. refl) s.0) grammar.decoded
again (grammar.boundary {pipe = pipe} {before = before} {after = after} {field = field}) s =
    at_own
    (behind (λ n. refl) s.0
    (in_rounds {xs = parts.Named pipe ∷ mark signs.Comma ∷ parts.Named before ∷ mark signs.Slash ∷ parts.Named after ∷ []}
    (behind (λ n. refl) s.1.1.0 (behind (λ n. refl) (sound_sign signs.Comma) (behind (λ n. refl) s.1.1.1.1.0 (behind (λ n. refl) (sound_sign signs.Slash) (one (λ n. refl) s.1.1.1.1.1.1.0)))))
    (behind (λ n. refl) (sound_sign signs.Dot) (one (λ n. refl) s.1.1.1.1.1.1.1.1.1.0))))
    grammar.boundary
again (grammar.inside {xs = xs} {a = a} d whole) s =
    let t = subst AreSound whole s in
    subst (λ (l : Toks). IsAgain 12 l a) (sym whole) (unwrapped (again d (sound_front xs (mark signs.CloseRound ∷ []) t.1)))
again (grammar.complement d) s = let a = again d s.1 in at_own (behind (λ n. refl) s.0 (replaced a)) (grammar.complement (spelled a (omega arith)))
again (grammar.negate d) s = let a = again d s.1 in at_own (behind (λ n. refl) s.0 (replaced a)) (grammar.negate (spelled a (omega arith)))
again (grammar.cast {shape = shape} d) s =
    let a = again d s.1.1.1 in
    at_own (in_rounds {xs = parts.TypeWord shape ∷ []} (one (λ n. refl) s.1.0) (replaced a)) (grammar.cast (spelled a (omega arith)))
again (grammar.two o {level = level} {ts = ts} {xs = xs} {ys = ys} {a = a} {b = b} same left right whole) s =
    let t = subst AreSound whole s in
    let h = again left (sound_front xs (mark (sign_of o) ∷ ys) t) in
    let k = again right (sound_back xs (mark (sign_of o) ∷ ys) t).1 in
    subst (λ (l : ℕ). IsAgain l ts (expressions.Two o a b)) (sym same) (two_again o same h k whole)
  where
    two_again : (o : Operator) {level : ℕ} {ts xs ys : Toks} {a b : ExprTree} → level ≡ level_of o → IsAgain level xs a → IsAgain (suc level) ys b → ts ≡ xs ++ (mark (sign_of o) ∷ ys)
        → IsAgain (level_of o) ts (expressions.Two o a b)
    two_again o {xs = xs} {ys = ys} {a = a} {b = b} same h k whole =
        let h' = subst (λ (l : ℕ). IsAgain l xs a) same h in
        let k' = subst (λ (l : ℕ). IsAgain (suc l) ys b) same k in
        at_own (spelled_so whole (joined (replaced h') (behind (plain_sign o) (sound_sign (sign_of o)) (replaced k'))))
        (grammar.two o refl (spelled h' (omega (arith, level_few o))) (spelled k' (omega (arith, level_few o))) refl)
again (grammar.choose {xs = xs} {ys = ys} {zs = zs} c a b whole) s =
    let t = subst AreSound whole s in
    let rest = (sound_back xs (mark signs.Question ∷ (ys ++ (mark signs.Colon ∷ zs))) t).1 in
    let h = again c (sound_front xs (mark signs.Question ∷ (ys ++ (mark signs.Colon ∷ zs))) t) in
    let k = again a (sound_front ys (mark signs.Colon ∷ zs) rest) in
    let l = again b (sound_back ys (mark signs.Colon ∷ zs) rest).1 in
    at_own (spelled_so whole (joined (replaced h) (behind (λ n. refl) (sound_sign signs.Question) (joined (replaced k) (behind (λ n. refl) (sound_sign signs.Colon) (replaced l))))))
    (grammar.choose (spelled h (omega arith)) (spelled k (omega arith)) (spelled l (omega arith)) refl)
again (grammar.tighter d) s = outer (again d s)

-- a place that is assigned
pub record IsPlaceAgain (ts : Toks) (e : ExprTree) : Type 0 where
  pub replaced : Replaces ts (bare_tokens e)
  pub spelled : SpellsPlace (bare_tokens e) e

pub place_again : {ts : Toks} {e : ExprTree} → SpellsPlace ts e → AreSound ts → IsPlaceAgain ts e
place_again grammar.named s = record { replaced = one (λ n. refl) s.0; spelled = grammar.named }
place_again (grammar.element {xs = xs} d whole) s =
    let t = subst AreSound whole s in
    let i = again d (sound_front xs (mark signs.CloseSquare ∷ []) t.1.1) in
    record {
      replaced = spelled_so whole (behind (λ n. refl) t.0 (in_squares (replaced i) nothing));
      spelled = grammar.element (spelled i (omega arith)) refl;
    }
place_again grammar.output s = record { replaced = behind (λ n. refl) s.0 (behind (λ n. refl) s.1.0 (one (λ n. refl) s.1.1.0)); spelled = grammar.output }
