-- The canonical text of sound tokens lexes to them.
use Rattle.std.proofs.Common.{◌≡◌, ℕ, zero, suc, ◌+◌, ◌*◌, Bool, true, false, cond, List, [], ◌∷◌, ◌++◌, length, Option, ◌⊎◌, inl, inr, refl, ap}
use Rattle.std.specs.Prelude.{◌||◌, replicate}
use Rattle.std.specs.List.{list_all}
use Rattle.lisa_words.specs.Bytes.{is_blank, front_is}
use Rattle.lisa_words.specs.Gaps.{IsGap, blanks}
use Rattle.lisa_tree.specs.declared.tokens.Sign.{Sign}
use Rattle.lisa_tree.specs.declared.tokens.Sign.TheVariants as signs
use Rattle.lisa_tree.specs.declared.tokens.Token.{Token}
use Rattle.lisa_tree.specs.declared.tokens.TokenPart.{TokenPart}
use Rattle.lisa_tree.specs.declared.tokens.TokenPart.TheVariants as parts
use Rattle.lisa_tree.specs.Grammar.{Toks}
use Rattle.lisa_tree.specs.Spellings.{token_text}
use Rattle.lisa_tree.specs.Tokens as tokens
use Rattle.lisa_tree.specs.Tokens.{Lexes, Fits, placed, toks}
use Rattle.lisa_printer.specs.CanonicalText.{sign_in, is_semicolon, clings, leans, braces_after, rounds_after, ends_line, braces_shown, line_start, text_behind, canonical_text}
use Rattle.lisa_printer.proofs.SoundTokens.{IsSound, AreSound, canonical_token}
use Rattle.lisa_printer.proofs.TokensApart.{joins, IsApart, Stands, stands}

-- ---- what stands behind a token is apart from it

cling_front : (t : TokenPart) (more : List ℕ) → clings (sign_in t) ≡ true → front_is joins (token_text t ++ more) ≡ false
cling_front (parts.Sign signs.Semicolon) more e = refl
cling_front (parts.Sign signs.Comma) more e = refl
cling_front (parts.Sign signs.CloseRound) more e = refl
cling_front (parts.Sign signs.CloseSquare) more e = refl
cling_front (parts.Sign signs.OpenSquare) more e = refl
cling_front (parts.Sign signs.Dot) more e = refl
cling_front _ more e = absurd cc

-- the same as IsApart, of what the last token is
abbrev AreApart : Option Sign → List ℕ → Type 0
AreApart last rest = (leans last ≡ true) ⊎ (front_is joins rest ≡ false)

behind_apart : (braces rounds : ℕ) (last : Option Sign) (ts : Toks) → AreApart last (text_behind braces rounds last ts)
behind_apart braces rounds last [] = go (ends_line rounds last false)
  where
    go : (b : Bool) → AreApart last (cond b (10 ∷ []) [])
    go true = inr refl
    go false = inr refl
behind_apart braces rounds last (t ∷ ts) = go (ends_line rounds last (is_semicolon (sign_in t))) (leans last) (clings (sign_in t)) refl refl
  where
    rest : List ℕ
    rest = text_behind (braces_after braces (sign_in t)) (rounds_after rounds (sign_in t)) (sign_in t) ts

    go : (b l c : Bool) → leans last ≡ l → clings (sign_in t) ≡ c → AreApart last (cond b (line_start braces (sign_in t)) (cond (l || c) [] (32 ∷ [])) ++ (token_text t ++ rest))
    go true l c e f = inr refl
    go false true c e f = inl e
    go false false true e f = inr (cling_front t rest f)
    go false false false e f = inr refl

-- ---- gaps

blanks_all : (n : ℕ) → list_all is_blank (replicate n 32) ≡ true
blanks_all zero = refl
blanks_all (suc n) = blanks_all n

line_gap : (braces : ℕ) (next : Option Sign) (rest : List ℕ) → front_is is_blank rest ≡ false → IsGap (line_start braces next) rest
line_gap braces next rest e = blanks refl (blanks_all (2 * braces_shown braces next)) e

-- ---- the text

-- the tokens that some bytes from a place on lex to
abbrev LexesTo : ℕ → List ℕ → Toks → Type 0
LexesTo at bytes ts = (us : List Token) × Lexes at bytes us × (toks us ≡ ts)

module _ (t : TokenPart) (s : IsSound t) (rest : List ℕ) (ts : Toks) (apart : IsApart t rest) where
  there : Stands (token_text t) rest t
  there = stands (canonical_token t s) rest apart

  pub token_on : (at : ℕ) → ((at : ℕ) → LexesTo at rest ts) → LexesTo at (token_text t ++ rest) (t ∷ ts)
  token_on at more =
      let m = more (at + length (token_text t)) in
      (placed at t ∷ m.0, tokens.token there.no_comment there.begins there.free s.fits m.1, ap (λ (l : Toks). t ∷ l) m.2)

  pub gap_on : (gap : List ℕ) (at : ℕ) → (front_is is_blank (token_text t ++ rest) ≡ false → IsGap gap (token_text t ++ rest)) → ((at : ℕ) → LexesTo at rest ts)
      → LexesTo at (gap ++ (token_text t ++ rest)) (t ∷ ts)
  gap_on gap at is more = let m = token_on (at + length gap) more in (m.0, tokens.gap (is there.no_blank) refl m.1, m.2)

behind_lexes : (braces rounds : ℕ) (last : Option Sign) (ts : Toks) (at : ℕ) → AreSound ts → LexesTo at (text_behind braces rounds last ts) ts
behind_lexes braces rounds last [] at s = go (ends_line rounds last false)
  where
    go : (b : Bool) → LexesTo at (cond b (10 ∷ []) []) []
    go true = ([], tokens.gap (blanks {b = 10} {bs = []} {rest = []} refl refl refl) refl tokens.end, refl)
    go false = ([], tokens.end, refl)
behind_lexes braces rounds last (t ∷ ts) at s =
    go (ends_line rounds last (is_semicolon (sign_in t))) (leans last || clings (sign_in t))
    (λ at. behind_lexes (braces_after braces (sign_in t)) (rounds_after rounds (sign_in t)) (sign_in t) ts at s.1)
  where
    rest : List ℕ
    rest = text_behind (braces_after braces (sign_in t)) (rounds_after rounds (sign_in t)) (sign_in t) ts

    apart : IsApart t rest
    apart = behind_apart (braces_after braces (sign_in t)) (rounds_after rounds (sign_in t)) (sign_in t) ts

    go : (b c : Bool) → ((at : ℕ) → LexesTo at rest ts) → LexesTo at (cond b (line_start braces (sign_in t)) (cond c [] (32 ∷ [])) ++ (token_text t ++ rest)) (t ∷ ts)
    go true c more = gap_on t s.0 rest ts apart (line_start braces (sign_in t)) at (λ e. line_gap braces (sign_in t) (token_text t ++ rest) e) more
    go false true more = token_on t s.0 rest ts apart at more
    go false false more = gap_on t s.0 rest ts apart (32 ∷ []) at (λ e. blanks refl refl e) more

pub canonical_lexes : (ts : Toks) → AreSound ts → LexesTo 0 (canonical_text ts) ts
canonical_lexes [] s = ([], tokens.end, refl)
canonical_lexes (t ∷ ts) s =
    let braces : ℕ = braces_after 0 (sign_in t) in
    let rounds : ℕ = rounds_after 0 (sign_in t) in
    token_on t s.0 (text_behind braces rounds (sign_in t) ts) ts (behind_apart braces rounds (sign_in t) ts) 0 (λ at. behind_lexes braces rounds (sign_in t) ts at s.1)

-- the tokens that some bytes lex to are sound
pub lexes_sound : {at : ℕ} {bytes : List ℕ} {us : List Token} → Lexes at bytes us → AreSound (toks us)
lexes_sound tokens.end = tt
lexes_sound (tokens.gap is e rest) = lexes_sound rest
lexes_sound (tokens.token {text = text} no_comment begins free fits rest) = (record { text = text; is = begins.is; fits = fits }, lexes_sound rest)
