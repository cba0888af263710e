-- Tokens that stand in the place of others: they are sound, close what they open, and open no more brackets at a time.
use Rattle.std.proofs.Common.{◌≡◌, ℕ, suc, ◌≤◌, max, [], ◌∷◌, ◌++◌, refl, sym, subst, arith}
use Rattle.lisa_tree.specs.declared.tokens.Sign.TheVariants as signs
use Rattle.lisa_tree.specs.declared.tokens.TokenPart.{TokenPart}
use Rattle.lisa_tree.specs.Grammar.{Toks, mark}
use Rattle.lisa_printer.proofs.Heights.{IsEven, IsPlain, IsOpening, IsClosing, even_none, even_append, even_plain, even_within}
use Rattle.lisa_printer.proofs.SoundTokens.{IsSound, AreSound, AreSound-append, sound_sign}

pub record Replaces (ts us : Toks) : Type 0 where
  pub high : ℕ
  pub low : ℕ
  pub even : IsEven ts high
  pub kept : IsEven us low
  pub lower : low ≤ high
  pub sound : AreSound us

pub nothing : Replaces [] []
nothing = record { high = 0; low = 0; even = even_none; kept = even_none; lower = omega arith; sound = tt }

pub joined : {xs xs' ys ys' : Toks} → Replaces xs xs' → Replaces ys ys' → Replaces (xs ++ ys) (xs' ++ ys')
joined {xs' = xs'} {ys' = ys'} h k = record {
  high = max h.high k.high;
  low = max h.low k.low;
  even = even_append h.even k.even;
  kept = even_append h.kept k.kept;
  lower = omega (arith, h.lower, k.lower);
  sound = AreSound-append xs' ys' h.sound k.sound;
}

-- another token for one
pub instead : {t u : TokenPart} {xs xs' : Toks} → IsPlain t → IsPlain u → IsSound u → Replaces xs xs' → Replaces (t ∷ xs) (u ∷ xs')
instead p q s h = record { high = h.high; low = h.low; even = even_plain p h.even; kept = even_plain q h.kept; lower = h.lower; sound = (s, h.sound) }

pub behind : {t : TokenPart} {xs xs' : Toks} → IsPlain t → IsSound t → Replaces xs xs' → Replaces (t ∷ xs) (t ∷ xs')
behind p s h = instead p p s h

pub one : {t : TokenPart} → IsPlain t → IsSound t → Replaces (t ∷ []) (t ∷ [])
one p s = behind p s nothing

-- brackets round some tokens, and others behind them
within : (o c : TokenPart) {xs xs' ys ys' : Toks} → IsOpening o → IsClosing c → IsSound o → IsSound c → Replaces xs xs' → Replaces ys ys' → Replaces (o ∷ (xs ++ (c ∷ ys))) (o ∷ (xs' ++ (c ∷ ys')))
within o c {xs' = xs'} {ys' = ys'} p q s s' h k = record {
  high = max (suc h.high) k.high;
  low = max (suc h.low) k.low;
  even = even_within o c p q h.even k.even;
  kept = even_within o c p q h.kept k.kept;
  lower = omega (arith, h.lower, k.lower);
  sound = (s, AreSound-append xs' (c ∷ ys') h.sound (s', k.sound));
}

pub in_rounds : {xs xs' ys ys' : Toks} → Replaces xs xs' → Replaces ys ys'
    → Replaces (mark signs.OpenRound ∷ (xs ++ (mark signs.CloseRound ∷ ys))) (mark signs.OpenRound ∷ (xs' ++ (mark signs.CloseRound ∷ ys')))
in_rounds h k = within (mark signs.OpenRound) (mark signs.CloseRound) (λ n. refl) (λ n. refl) (sound_sign signs.OpenRound) (sound_sign signs.CloseRound) h k

pub in_squares : {xs xs' ys ys' : Toks} → Replaces xs xs' → Replaces ys ys'
    → Replaces (mark signs.OpenSquare ∷ (xs ++ (mark signs.CloseSquare ∷ ys))) (mark signs.OpenSquare ∷ (xs' ++ (mark signs.CloseSquare ∷ ys')))
in_squares h k = within (mark signs.OpenSquare) (mark signs.CloseSquare) (λ n. refl) (λ n. refl) (sound_sign signs.OpenSquare) (sound_sign signs.CloseSquare) h k

pub in_braces : {xs xs' ys ys' : Toks} → Replaces xs xs' → Replaces ys ys'
    → Replaces (mark signs.OpenBrace ∷ (xs ++ (mark signs.CloseBrace ∷ ys))) (mark signs.OpenBrace ∷ (xs' ++ (mark signs.CloseBrace ∷ ys')))
in_braces h k = within (mark signs.OpenBrace) (mark signs.CloseBrace) (λ n. refl) (λ n. refl) (sound_sign signs.OpenBrace) (sound_sign signs.CloseBrace) h k

-- tokens that are left out
pub left_out : {xs ys ys' : Toks} {h : ℕ} → IsEven xs h → Replaces ys ys' → Replaces (xs ++ ys) ys'
left_out {h = h} e k = record { high = max h k.high; low = k.low; even = even_append e k.even; kept = k.kept; lower = omega (arith, k.lower); sound = k.sound }

-- a token that is written where none stood
pub added : {t : TokenPart} {xs ys : Toks} → IsPlain t → IsSound t → Replaces xs ys → Replaces xs (t ∷ ys)
added p s k = record { high = k.high; low = k.low; even = k.even; kept = even_plain p k.kept; lower = k.lower; sound = (s, k.sound) }

-- the same tokens by another name
pub spelled_so : {ts ts' us : Toks} → ts ≡ ts' → Replaces ts' us → Replaces ts us
spelled_so {us = us} e h = subst (λ (l : Toks). Replaces l us) (sym e) h

-- ---- where something holds

-- they are sound, and stand in the place of others where this holds
pub record ReplacesWhere (P : Type 0) (ts us : Toks) : Type 0 where
  pub sound : AreSound us
  pub replaces : P → Replaces ts us

pub anywhere : {P : Type 0} {ts us : Toks} → Replaces ts us → ReplacesWhere P ts us
anywhere h = record { sound = h.sound; replaces = λ p. h }

pub joined_where : {P : Type 0} {xs xs' ys ys' : Toks} → ReplacesWhere P xs xs' → ReplacesWhere P ys ys' → ReplacesWhere P (xs ++ ys) (xs' ++ ys')
joined_where {xs' = xs'} {ys' = ys'} h k = record { sound = AreSound-append xs' ys' h.sound k.sound; replaces = λ p. joined (h.replaces p) (k.replaces p) }

pub braces_where : {P : Type 0} {xs xs' : Toks} → ReplacesWhere P xs xs'
    → ReplacesWhere P (mark signs.OpenBrace ∷ (xs ++ (mark signs.CloseBrace ∷ []))) (mark signs.OpenBrace ∷ (xs' ++ (mark signs.CloseBrace ∷ [])))
braces_where {xs' = xs'} h = record {
  sound = (sound_sign signs.OpenBrace, AreSound-append xs' (mark signs.CloseBrace ∷ []) h.sound (sound_sign signs.CloseBrace, tt));
  replaces = λ p. in_braces (h.replaces p) nothing;
}

pub left_out_where : {P : Type 0} {xs ys ys' : Toks} {h : ℕ} → (P → IsEven xs h) → ReplacesWhere P ys ys' → ReplacesWhere P (xs ++ ys) ys'
left_out_where e k = record { sound = k.sound; replaces = λ p. left_out (e p) (k.replaces p) }

pub where_so : {P : Type 0} {ts ts' us : Toks} → ts ≡ ts' → ReplacesWhere P ts' us → ReplacesWhere P ts us
where_so {P = P} {us = us} e h = subst (λ (l : Toks). ReplacesWhere P l us) (sym e) h
