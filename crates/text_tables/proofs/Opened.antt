-- Forms with a common text begin alike, piece by piece.
use Rattle.std.proofs.Common.{◌≡◌, ℕ, ◌+◌, ◌-◌, ◌<◌, Bool, true, false, not, ◌||◌, List, [], ◌∷◌, ◌++◌, length, take, drop, get_or, min, length-drop, drop-drop, Option, Some, None, nat_eq, is_some, refl, sym, ap, ◌∙◌, subst, arith, inl, inr, ◌⊎◌, eq-eqb, append_assoc}
use Rattle.std.specs.List.{starts_with}
use Rattle.std.specs.Cmp.Lexicographic.{pointwise}
use Rattle.std.proofs.lemmas.Bool.{cases_lt, true≢false}
use Rattle.std.proofs.lemmas.List.{take_all}
use Rattle.std.proofs.lemmas.Bool.Decides.{Decides-eqb}
use Rattle.std.proofs.lemmas.Slice.Eq.{bytes_eq-Decides, starts_is}
use Rattle.instruction_texts.specs.declared.shapes.Shape.{Shape}
use Rattle.instruction_texts.specs.declared.shapes.Shape.TheVariants.{Other, Literal, Unsigned, Signed}
use Rattle.instruction_texts.specs.declared.shapes.Token.{Token}
use Rattle.instruction_texts.specs.declared.shapes.Token.TheVariants as tokens
use Rattle.instruction_texts.specs.Shapes as shapes
use Rattle.instruction_texts.specs.Shapes.{zero_x, lead, before_sign, Spells, IsText}
use Rattle.instruction_texts.specs.Starts.{Beginning, Mark, Word, Prefix, first_start, minus_start, negative_start}
use Rattle.instruction_texts.proofs.OneText.{same_word, same_minus, not_both}
use Rattle.text_tables.specs.Openings.{meet, meet_if_any, begins_so, begin_alike, are_level, stay_level, Share}

-- ---- one token that begins in two ways

-- the token begins so
abbrev Opens : Option Beginning → Token → Type 0
Opens None t = ⊥
Opens (Some (Mark c)) t = t ≡ tokens.Sign c
Opens (Some (Word w)) t = t ≡ tokens.Word w
Opens (Some (Prefix p)) t = (q : List ℕ) × (t ≡ tokens.Word (p ++ q))

-- a text of the form may begin with the token
abbrev Begins : List Shape → Token → Type 0
Begins ss t = Opens (first_start ss) t ⊎ Opens (negative_start ss) t

or_left : (a b : Bool) → a ≡ true → (a || b) ≡ true
or_left a b e = ap (λ (c : Bool). c || b) e

or_right : (a b : Bool) → b ≡ true → (a || b) ≡ true
or_right true b e = refl
or_right false b e = e

run_of : Token → List ℕ
run_of (tokens.Word w) = w
run_of (tokens.Sign c) = []

sign_of : Token → ℕ
sign_of (tokens.Word w) = 0
sign_of (tokens.Sign c) = c

one_run : (v w : List ℕ) → tokens.Word v ≡ tokens.Word w → v ≡ w
unfolding run_of
one_run v w e = ap run_of e

one_sign : (c d : ℕ) → tokens.Sign c ≡ tokens.Sign d → c ≡ d
unfolding sign_of
one_sign c d e = ap sign_of e

two_kinds : (c : ℕ) (w : List ℕ) → tokens.Sign c ≡ tokens.Word w → ⊥
two_kinds c w e = cc

starts : (s p q : List ℕ) → s ≡ p ++ q → starts_with nat_eq s p ≡ true
starts s p q e = (starts_is Decides-eqb s p (starts_with nat_eq s p) refl).1 q e

same_run : (v w : List ℕ) → v ≡ w → pointwise nat_eq v w ≡ true
same_run v w e = (bytes_eq-Decides v w).1 e

-- of two fronts of one run one is a front of the other
fronts : (p x q y : List ℕ) → p ++ x ≡ q ++ y → ((r : List ℕ) × (p ≡ q ++ r)) ⊎ ((r : List ℕ) × (q ≡ p ++ r))
fronts [] x q y e = inr (q, refl)
fronts (c ∷ p) x [] y e = inl (c ∷ p, refl)
fronts (c ∷ p) x (d ∷ q) y e =
    let h : c ≡ d = ap (λ (l : List ℕ). get_or l 0 0) e in
    elim (fronts p x q y (ap (λ (l : List ℕ). drop 1 l) e)) [
      | inl f ↦ inl (f.0, ap (λ (l : List ℕ). c ∷ l) f.1 ∙ ap (λ (n : ℕ). n ∷ (q ++ f.0)) h)
      | inr f ↦ inr (f.0, ap (λ (l : List ℕ). d ∷ l) f.1 ∙ ap (λ (n : ℕ). n ∷ (p ++ f.0)) (sym h))
    ]

two_prefixes : (p x q y : List ℕ) → p ++ x ≡ q ++ y → (starts_with nat_eq p q || starts_with nat_eq q p) ≡ true
two_prefixes p x q y e = elim (fronts p x q y e) [
  | inl f ↦ or_left (starts_with nat_eq p q) (starts_with nat_eq q p) (starts p q f.0 f.1)
  | inr f ↦ or_right (starts_with nat_eq p q) (starts_with nat_eq q p) (starts q p f.0 f.1)
]

meets : (a b : Beginning) (t : Token) → Opens (Some a) t → Opens (Some b) t → meet a b ≡ true
meets (Mark c) (Mark d) t g h = eq-eqb c d (one_sign c d (sym g ∙ h))
meets (Mark c) (Word w) t g h = absurd (two_kinds c w (sym g ∙ h))
meets (Mark c) (Prefix p) t g h = absurd (two_kinds c (p ++ h.0) (sym g ∙ h.1))
meets (Word w) (Mark c) t g h = absurd (two_kinds c w (sym h ∙ g))
meets (Word v) (Word w) t g h = same_run v w (one_run v w (sym g ∙ h))
meets (Word w) (Prefix p) t g h = starts w p h.0 (one_run w (p ++ h.0) (sym g ∙ h.1))
meets (Prefix p) (Mark c) t g h = absurd (two_kinds c (p ++ g.0) (sym h ∙ g.1))
meets (Prefix p) (Word w) t g h = starts w p g.0 (one_run w (p ++ g.0) (sym h ∙ g.1))
meets (Prefix p) (Prefix q) t g h = two_prefixes p g.0 q h.0 (one_run (p ++ g.0) (q ++ h.0) (sym g.1 ∙ h.1))

meet_any : (a b : Option Beginning) (t : Token) → Opens a t → Opens b t → meet_if_any a b ≡ true
meet_any None b t g h = elim g [ ]
meet_any (Some a) None t g h = elim h [ ]
meet_any (Some a) (Some b) t g h = meets a b t g h

so_begun : (a : Option Beginning) (ss : List Shape) (t : Token) → Opens a t → Begins ss t → begins_so a ss ≡ true
so_begun a ss t g h = elim h [
  | inl o ↦ or_left (meet_if_any a (first_start ss)) (meet_if_any a (negative_start ss)) (meet_any a (first_start ss) t g o)
  | inr o ↦ or_right (meet_if_any a (first_start ss)) (meet_if_any a (negative_start ss)) (meet_any a (negative_start ss) t g o)
]

alike : (ss us : List Shape) (t : Token) → Begins ss t → Begins us t → begin_alike ss us ≡ true
alike ss us t g h = elim g [
  | inl o ↦ or_left (begins_so (first_start ss) us) (begins_so (negative_start ss) us) (so_begun (first_start ss) us t o h)
  | inr o ↦ or_right (begins_so (first_start ss) us) (begins_so (negative_start ss) us) (so_begun (negative_start ss) us t o h)
]

-- ---- the first token of a text

-- the first token, with which the form may begin, and what follows it, a text of the other pieces where the first has no sign
abbrev Opened : List Shape → List Token → Type 0
Opened [] ts = ts ≡ []
Opened (s ∷ ss) ts = (t : Token) × (us : List Token) × (ts ≡ t ∷ us) × Begins (s ∷ ss) t × (negative_start (s ∷ ss) ≡ None → IsText ss us)

opened_minus : (p cs : List ℕ) (n : ℕ) (ss : List Shape) (ts us : List Token) → us ≡ before_sign p (tokens.Sign 45 ∷ tokens.Word cs ∷ ts) → Opened (Signed p n ∷ ss) us
opened_minus [] cs n ss ts us e = (tokens.Sign 45, tokens.Word cs ∷ ts, e, inr refl, λ none. absurd cc)
opened_minus (c ∷ p) cs n ss ts us e = (tokens.Word (c ∷ p), tokens.Sign 45 ∷ tokens.Word cs ∷ ts, e, inr refl, λ none. absurd cc)

led : (hex : Bool) (p cs : List ℕ) → (q : List ℕ) × (tokens.Word (lead hex p ++ cs) ≡ tokens.Word (p ++ q))
led true p cs = (zero_x ++ cs, ap (λ (w : List ℕ). tokens.Word w) (append_assoc p zero_x cs))
led false p cs = (cs, refl)

opened : {ss : List Shape} {vs : List ℕ} {ts : List Token} → Spells ss vs ts → Opened ss ts
opened shapes.end = refl
opened (shapes.other {c = c} {vs = vs} {ts = ts} m) = (tokens.Sign c, ts, refl, inl refl, λ none. (vs, m))
opened (shapes.literal {p = p} {vs = vs} {ts = ts} m) = (tokens.Word p, ts, refl, inl refl, λ none. (vs, m))
opened (shapes.unsigned {hex = hex} {p = p} cs {vs = vs} {ts = ts} h v m e) = (tokens.Word (lead hex p ++ cs), ts, e, inl (led hex p cs), λ none. (vs, m))
opened (shapes.positive {p = p} cs {vs = vs} {ts = ts} h v m e) = (tokens.Word (p ++ cs), ts, e, inl (cs, refl), λ none. absurd cc)
opened (shapes.negative {p = p} cs {n = n} {ss = ss} {ts = ts} {us = us} h v m e) = opened_minus p cs n ss ts us e

-- ---- two forms with one text

heads : (t u : Token) (ts us : List Token) → t ∷ ts ≡ u ∷ us → t ≡ u
heads t u ts us e = ap (λ (l : List Token). get_or l 0 t) e

tails : (t u : Token) (ts us : List Token) → t ∷ ts ≡ u ∷ us → ts ≡ us
tails t u ts us e = ap (λ (l : List Token). drop 1 l) e

share_alike : (ss us : List Shape) → 0 < length ss → 0 < length us → Share ss us → begin_alike ss us ≡ true
share_alike [] us p q h = absurd (omega arith)
share_alike (s ∷ ss) [] p q h = absurd (omega arith)
share_alike (s ∷ ss) (u ∷ us) p q h =
    let f = opened h.1.1 in
    let g = opened h.2.1 in
    let same : g.0 ≡ f.0 = heads g.0 f.0 g.1 f.1 (sym g.2 ∙ f.2) in
    alike (s ∷ ss) (u ∷ us) f.0 f.3 (subst (λ (t : Token). Begins (u ∷ us) t) same g.3)

no_sign : (b : Option Beginning) → is_some b ≡ false → b ≡ None
no_sign None e = refl
no_sign (Some b) e = absurd cc

share_behind : (ss us : List Shape) → 0 < length ss → 0 < length us → is_some (negative_start ss) ≡ false → is_some (negative_start us) ≡ false → Share ss us → Share (drop 1 ss) (drop 1 us)
share_behind [] us p q a b h = absurd (omega arith)
share_behind (s ∷ ss) [] p q a b h = absurd (omega arith)
share_behind (s ∷ ss) (u ∷ us) p q a b h =
    let f = opened h.1.1 in
    let g = opened h.2.1 in
    let same : g.1 ≡ f.1 = tails g.0 f.0 g.1 f.1 (sym g.2 ∙ f.2) in
    (f.1, f.4 (no_sign (negative_start (s ∷ ss)) a), subst (λ (ts : List Token). IsText us ts) same (g.4 (no_sign (negative_start (u ∷ us)) b)))

-- pieces with a sign behind the same run
behind_signs : (p : List ℕ) (n m : ℕ) {ss us : List Shape} {vs ws : List ℕ} {ts xs : List Token} → Spells (Signed p n ∷ ss) vs ts → Spells (Signed p m ∷ us) ws xs → ts ≡ xs → Share ss us
behind_signs p n m {us = us} (shapes.positive cs {vs = vs} {ts = ts} {us = xs} h v s a) (shapes.positive ds {vs = ws} {ts = ys} k w t b) e =
    let same = same_word p cs ds ts ys xs a (e ∙ b) in (ts, (vs, s), (ws, subst (λ (l : List Token). Spells us ws l) (sym same.1) t))
behind_signs p n m {us = us} (shapes.negative cs {vs = vs} {ts = ts} {us = xs} h v s a) (shapes.negative ds {vs = ws} {ts = ys} k w t b) e =
    let same = same_minus p cs ds ts ys xs a (e ∙ b) in (ts, (vs, s), (ws, subst (λ (l : List Token). Spells us ws l) (sym same.1) t))
behind_signs p n m (shapes.positive cs {ts = ts} {us = xs} h v s a) (shapes.negative ds {ts = ys} k w t b) e = absurd (not_both p cs ds n ts ys xs h a (e ∙ b))
behind_signs p n m (shapes.negative cs {ts = ts} h v s a) (shapes.positive ds {ts = ys} {us = zs} k w t b) e = absurd (not_both p ds cs m ys ts zs k b (sym e ∙ a))

one_minus : (p q : List ℕ) → meet (minus_start p) (minus_start q) ≡ true → p ≡ q
one_minus [] [] e = refl
one_minus [] (c ∷ q) e = absurd cc
one_minus (c ∷ p) [] e = absurd cc
one_minus (c ∷ p) (d ∷ q) e = (bytes_eq-Decides (c ∷ p) (d ∷ q)).0 e

both_signs : (s u : Shape) (ss us : List Shape) (a b : Beginning) → negative_start (s ∷ ss) ≡ Some a → negative_start (u ∷ us) ≡ Some b → meet a b ≡ true → Share (s ∷ ss) (u ∷ us) → Share ss us
both_signs (Other c) u ss us a b x y e h = absurd cc
both_signs (Literal p) u ss us a b x y e h = absurd cc
both_signs (Unsigned hex p n) u ss us a b x y e h = absurd cc
both_signs (Signed p n) (Other c) ss us a b x y e h = absurd cc
both_signs (Signed p n) (Literal q) ss us a b x y e h = absurd cc
both_signs (Signed p n) (Unsigned hex q m) ss us a b x y e h = absurd cc
both_signs (Signed p n) (Signed q m) ss us a b x y e h =
    let f : minus_start p ≡ a = cc in
    let g : minus_start q ≡ b = cc in
    let same : p ≡ q = one_minus p q (subst (λ (z : Beginning). meet z (minus_start q) ≡ true) (sym f) (subst (λ (z : Beginning). meet a z ≡ true) (sym g) e)) in
    behind_signs p n m h.1.1 (subst (λ (r : List ℕ). Spells (Signed r m ∷ us) h.2.0 h.0) (sym same) h.2.1) refl

-- ---- one of two pieces has a sign

-- the negative number with which a text begins, or what follows the other one
signless : (p : List ℕ) (n : ℕ) {ss : List Shape} {vs : List ℕ} {ts : List Token} → Spells (Signed p n ∷ ss) vs ts → (t : Token) × (us : List Token) × (ts ≡ t ∷ us) × (Opens (Some (minus_start p)) t ⊎ IsText ss us)
signless p n (shapes.positive cs {vs = vs} {ts = ts} h v m e) = (tokens.Word (p ++ cs), ts, e, inr (vs, m))
signless [] n (shapes.negative cs {ts = ts} h v m e) = (tokens.Sign 45, tokens.Word cs ∷ ts, e, inl refl)
signless (c ∷ p) n (shapes.negative cs {ts = ts} h v m e) = (tokens.Word (c ∷ p), tokens.Sign 45 ∷ tokens.Word cs ∷ ts, e, inl refl)

not_so : (b : Bool) → b ≡ true → not b ≡ true → ⊥
not_so b e f = true≢false (sym f ∙ ap not e)

one_signed : (s u : Shape) (ss us : List Shape) (a : Beginning) → negative_start (s ∷ ss) ≡ Some a → negative_start (u ∷ us) ≡ None → not (begins_so (negative_start (s ∷ ss)) (u ∷ us)) ≡ true → Share (s ∷ ss) (u ∷ us) → Share ss us
one_signed (Other c) u ss us a x y e h = absurd cc
one_signed (Literal p) u ss us a x y e h = absurd cc
one_signed (Unsigned hex p n) u ss us a x y e h = absurd cc
one_signed (Signed p n) u ss us a x y e h =
    let f = signless p n h.1.1 in
    let g = opened h.2.1 in
    let same : g.0 ≡ f.0 = heads g.0 f.0 g.1 f.1 (sym g.2 ∙ f.2) in
    let behind : g.1 ≡ f.1 = tails g.0 f.0 g.1 f.1 (sym g.2 ∙ f.2) in
    elim f.3 [
      | inl o ↦ absurd (not_so (begins_so (Some (minus_start p)) (u ∷ us)) (so_begun (Some (minus_start p)) (u ∷ us) f.0 o (subst (λ (t : Token). Begins (u ∷ us) t) same g.3)) e)
      | inr m ↦ (f.1, m, subst (λ (ts : List Token). IsText us ts) behind (g.4 y))
    ]

turned : (ss us : List Shape) → Share ss us → Share us ss
turned ss us h = (h.0, h.2, h.1)

share_level : (ss us : List Shape) → 0 < length ss → 0 < length us → stay_level ss us ≡ true → Share ss us → Share (drop 1 ss) (drop 1 us)
share_level [] us p q e h = absurd (omega arith)
share_level (s ∷ ss) [] p q e h = absurd (omega arith)
share_level (s ∷ ss) (u ∷ us) p q e h = by (negative_start (s ∷ ss)) (negative_start (u ∷ us)) refl refl e where
  by : (a b : Option Beginning) → negative_start (s ∷ ss) ≡ a → negative_start (u ∷ us) ≡ b → are_level a b (begins_so (negative_start (s ∷ ss)) (u ∷ us)) (begins_so (negative_start (u ∷ us)) (s ∷ ss)) ≡ true → Share ss us
  by None None x y e = share_behind (s ∷ ss) (u ∷ us) p q (ap (λ (o : Option Beginning). is_some o) x) (ap (λ (o : Option Beginning). is_some o) y) h
  by None (Some b) x y e = turned us ss (one_signed u s us ss b y x e (turned (s ∷ ss) (u ∷ us) h))
  by (Some a) None x y e = one_signed s u ss us a x y e h
  by (Some a) (Some b) x y e = both_signs s u ss us a b x y e h

share_whole : (ss us : List Shape) → Share ss us → (length ss ≡ 0 → length us ≡ 0) × (length us ≡ 0 → length ss ≡ 0)
share_whole [] [] h = (λ e. refl, λ e. refl)
share_whole [] (u ∷ us) h = absurd (let f = opened h.1.1 in let g = opened h.2.1 in let e = sym f ∙ g.2 in cc)
share_whole (s ∷ ss) [] h = absurd (let f = opened h.1.1 in let g = opened h.2.1 in let e = sym g ∙ f.2 in cc)
share_whole (s ∷ ss) (u ∷ us) h = (λ e. absurd (omega arith), λ e. absurd (omega arith))

-- ---- the loop over the pieces

pub rest_is : {A : Type 0} (i : ℕ) (ss : List A) → take (length ss - i) (drop i ss) ≡ drop i ss
rest_is i ss = take_all (length ss - i) (drop i ss) (omega (arith, length-drop i ss))

-- the pieces from the i-th on, as a slice gives them
abbrev pub rest : ℕ → List Shape → List Shape
rest i ss = take (length ss - i) (drop i ss)

module _ (ss us : List Shape) (i : ℕ) (on : Share ss us → Share (drop i ss) (drop i us)) where
  pub one_ends : i ≡ min (length ss) (length us) → Share ss us → length ss ≡ length us
  one_ends is h =
      let w = share_whole (drop i ss) (drop i us) (on h) in
      let m = length-drop i ss in
      let n = length-drop i us in
      elim (cases_lt (length ss) (length us)) [ inl l ↦ (let e = w.0 (omega arith) in omega arith) | inr l ↦ (let e = w.1 (omega arith) in omega arith) ]

-- ---- pieces behind which more follows

same_first : (s : Shape) (ss us : List Shape) → first_start (s ∷ ss) ≡ first_start (s ∷ us)
same_first (Other c) ss us = refl
same_first (Literal p) ss us = refl
same_first (Unsigned hex p n) ss us = refl
same_first (Signed p n) ss us = refl

same_negative : (s : Shape) (ss us : List Shape) → negative_start (s ∷ ss) ≡ negative_start (s ∷ us)
same_negative (Other c) ss us = refl
same_negative (Literal p) ss us = refl
same_negative (Unsigned hex p n) ss us = refl
same_negative (Signed p n) ss us = refl

-- whether texts begin with one token, by their beginnings
by_starts : Option Beginning → Option Beginning → Option Beginning → Option Beginning → Bool
by_starts a b c d = (meet_if_any a c || meet_if_any a d) || (meet_if_any b c || meet_if_any b d)

alike_heads : (s u : Shape) (ss us vs ws : List Shape) → begin_alike (s ∷ ss) (u ∷ us) ≡ begin_alike (s ∷ vs) (u ∷ ws)
unfolding by_starts
alike_heads s u ss us vs ws =
    ap (λ (a : Option Beginning). by_starts a (negative_start (s ∷ ss)) (first_start (u ∷ us)) (negative_start (u ∷ us))) (same_first s ss vs)
    ∙ ap (λ (b : Option Beginning). by_starts (first_start (s ∷ vs)) b (first_start (u ∷ us)) (negative_start (u ∷ us))) (same_negative s ss vs)
    ∙ ap (λ (c : Option Beginning). by_starts (first_start (s ∷ vs)) (negative_start (s ∷ vs)) c (negative_start (u ∷ us))) (same_first u us ws)
    ∙ ap (λ (d : Option Beginning). by_starts (first_start (s ∷ vs)) (negative_start (s ∷ vs)) (first_start (u ∷ ws)) d) (same_negative u us ws)

-- whether they stay level, by their beginnings
level_by : Option Beginning → Option Beginning → Option Beginning → Option Beginning → Bool
level_by a b c d = are_level a c (meet_if_any a d || meet_if_any a c) (meet_if_any c b || meet_if_any c a)

level_heads : (s u : Shape) (ss us vs ws : List Shape) → stay_level (s ∷ ss) (u ∷ us) ≡ stay_level (s ∷ vs) (u ∷ ws)
unfolding level_by
level_heads s u ss us vs ws =
    ap (λ (a : Option Beginning). level_by a (first_start (s ∷ ss)) (negative_start (u ∷ us)) (first_start (u ∷ us))) (same_negative s ss vs)
    ∙ ap (λ (b : Option Beginning). level_by (negative_start (s ∷ vs)) b (negative_start (u ∷ us)) (first_start (u ∷ us))) (same_first s ss vs)
    ∙ ap (λ (c : Option Beginning). level_by (negative_start (s ∷ vs)) (first_start (s ∷ vs)) c (first_start (u ∷ us))) (same_negative u us ws)
    ∙ ap (λ (d : Option Beginning). level_by (negative_start (s ∷ vs)) (first_start (s ∷ vs)) (negative_start (u ∷ ws)) d) (same_first u us ws)

unlike_heads : (ss us vs ws : List Shape) → 0 < length ss → 0 < length us → begin_alike ss us ≡ false → Share (ss ++ vs) (us ++ ws) → ⊥
unlike_heads [] us vs ws p q e h = absurd (omega arith)
unlike_heads (s ∷ ss) [] vs ws p q e h = absurd (omega arith)
unlike_heads (s ∷ ss) (u ∷ us) vs ws p q e h =
    true≢false (sym (share_alike (s ∷ (ss ++ vs)) (u ∷ (us ++ ws)) (omega arith) (omega arith) h) ∙ alike_heads s u (ss ++ vs) (us ++ ws) ss us ∙ e)

level_behind : (ss us vs ws : List Shape) → 0 < length ss → 0 < length us → stay_level ss us ≡ true → Share (ss ++ vs) (us ++ ws) → Share (drop 1 ss ++ vs) (drop 1 us ++ ws)
level_behind [] us vs ws p q e h = absurd (omega arith)
level_behind (s ∷ ss) [] vs ws p q e h = absurd (omega arith)
level_behind (s ∷ ss) (u ∷ us) vs ws p q e h = share_level (s ∷ (ss ++ vs)) (u ∷ (us ++ ws)) (omega arith) (omega arith) (level_heads s u (ss ++ vs) (us ++ ws) ss us ∙ e) h

module _ (ss us vs ws : List Shape) (i : ℕ) (on : Share (ss ++ vs) (us ++ ws) → Share (drop i ss ++ vs) (drop i us ++ ws)) where
  pub unlike_before : i < length ss → i < length us → begin_alike (rest i ss) (rest i us) ≡ false → Share (ss ++ vs) (us ++ ws) → ⊥
  unlike_before p q e h =
      unlike_heads (drop i ss) (drop i us) vs ws (omega (arith, length-drop i ss)) (omega (arith, length-drop i us)) (rw (rest_is i ss, rest_is i us) at e) (on h)

  pub alike_before : i < length ss → i < length us → stay_level (rest i ss) (rest i us) ≡ true → Share (ss ++ vs) (us ++ ws) → Share (drop (i + 1) ss ++ vs) (drop (i + 1) us ++ ws)
  alike_before p q e h =
      subst (λ (xs : List Shape). Share (xs ++ vs) (drop (i + 1) us ++ ws)) (drop-drop 1 i ss)
      (subst (λ (xs : List Shape). Share (drop 1 (drop i ss) ++ vs) (xs ++ ws)) (drop-drop 1 i us)
      (level_behind (drop i ss) (drop i us) vs ws (omega (arith, length-drop i ss)) (omega (arith, length-drop i us)) (rw (rest_is i ss, rest_is i us) at e) (on h)))

-- ---- the same pieces before others

same_minus_start : (p : List ℕ) → meet (minus_start p) (minus_start p) ≡ true
same_minus_start [] = refl
same_minus_start (c ∷ p) = (bytes_eq-Decides (c ∷ p) (c ∷ p)).1 refl

level_with_itself : (s : Shape) (ss us : List Shape) → stay_level (s ∷ ss) (s ∷ us) ≡ true
level_with_itself (Other c) ss us = refl
level_with_itself (Literal p) ss us = refl
level_with_itself (Unsigned hex p n) ss us = refl
level_with_itself (Signed p n) ss us = same_minus_start p

pub share_past : (same ss us : List Shape) → Share (same ++ ss) (same ++ us) → Share ss us
share_past [] ss us h = h
share_past (s ∷ same) ss us h = share_past same ss us (share_level (s ∷ (same ++ ss)) (s ∷ (same ++ us)) (omega arith) (omega arith) (level_with_itself s (same ++ ss) (same ++ us)) h)
