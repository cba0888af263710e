-- Bytes, tokens and the description that they spell.
use Rattle.std.proofs.Common.{◌≡◌, ℕ, zero, suc, ◌+◌, ◌<◌, ◌≤◌, List, [], ◌∷◌, ◌++◌, length, get_or, Option, Some, None, refl, sym, ap, subst, ◌∙◌, arith, ◌⊎◌, inl, inr}
use Rattle.std.proofs.lemmas.Bool.{cases_lt}
use Rattle.std.proofs.lemmas.List.{length-append, length-map}
use Rattle.std.proofs.lemmas.Option.{slice_get_read}
use Rattle.std.specs.List.{slice_get}
use Rattle.lisa_tree.specs.declared.faults.DescFault.{DescFault}
use Rattle.lisa_tree.specs.declared.faults.DescFault.TheVariants as faults
use Rattle.lisa_tree.specs.declared.tokens.Token.{Token}
use Rattle.lisa_tree.specs.declared.tokens.TokenPart.{TokenPart}
use Rattle.lisa_tree.specs.Brackets.{open_at, IsTooDeep, IsFlat}
use Rattle.lisa_tree.specs.Descriptions.{DescriptionTree}
use Rattle.lisa_tree.specs.Texts.{SpellsText}
use Rattle.lisa_tree.specs.Tokens as tokens
use Rattle.lisa_tree.specs.Tokens.{Lexes, Breaks, toks}
use Rattle.lisa_words.proofs.StepLaws.{some_is}
use Rattle.lisa_lexer.specs.Answers.{IsFirst}
use Rattle.lisa_lexer.specs.Answers as lexer
use Rattle.lisa_lexer.proofs.Lexed.{lexes_same, lexes_whole, breaks_same, has_outcome as has_tokens}
use Rattle.lisa_behav_reader.specs.declared.misses.Missed.{Missed}
use Rattle.lisa_behav_reader.specs.declared.misses.Missed.TheVariants as misses
use Rattle.lisa_behav_reader.specs.Gives.{Fails}
use Rattle.lisa_behav_reader.specs.Places.{IsPlace}
use Rattle.lisa_reader.specs.Answers.{AreFlat, IsBroken, broken_token, too_deep, spells_none, HasOutcome, spells, breaks, IsSameFault}
use Rattle.lisa_reader.specs.Reading.{description_of}
use Rattle.lisa_reader.proofs.DescriptionLaws.{description_sound, description_there}

-- ---- places

-- tokens lie within the bytes
pub place_within : {at : ℕ} {bytes : List ℕ} {ts : List Token} → Lexes at bytes ts → (place : ℕ) → IsPlace place ts → place ≤ at + length bytes
place_within tokens.end place p = absurd p
place_within (tokens.gap {text = text} {rest = rest} g is l) place p = omega (arith, place_within l place p, ap length is, length-append text rest)
place_within (tokens.token plain b glued fits l) place (inl e) = omega arith
place_within (tokens.token {text = text} {rest = rest} plain b glued fits l) place (inr p) = omega (arith, place_within l place p, ap length b.parts, length-append text rest)

-- ---- the tokens of the bytes

module _ (bytes : List ℕ) (ts : List Token) (lexes : Lexes 0 bytes ts) where
  same_tokens : (us : List Token) → Lexes 0 bytes us → us ≡ ts
  same_tokens us l = lexes_same l lexes

  pub found : (d : DescriptionTree) → IsFlat (toks ts) → description_of (toks ts) ≡ Some d → SpellsText bytes d
  found d flat e =
      let s = description_sound (toks ts) d e in
      record { tokens = ts; lexes = lexes; flat = flat; spells = s.spells; shallow = s.deep }

  pub read_of : (d : DescriptionTree) → SpellsText bytes d → description_of (toks ts) ≡ Some d
  read_of d s = ap (λ (l : List Token). description_of (toks l)) (sym (same_tokens s.tokens s.lexes)) ∙ description_there (toks s.tokens) d s.spells s.shallow

  pub same_tree : (d e : DescriptionTree) → description_of (toks ts) ≡ Some d → SpellsText bytes e → d ≡ e
  same_tree d e is s = some_is d e (sym is ∙ read_of e s)

  pub not_none : description_of (toks ts) ≡ None → (d : DescriptionTree) → ¬ SpellsText bytes d
  not_none is d = λ s. let there = read_of d s in cc

  pub not_flat : (i : ℕ) → IsTooDeep (toks ts) i → IsFlat (toks ts) → ⊥
  not_flat i deep flat = omega (arith, flat i deep.within, deep.deep)

  flat_tokens : (us : List Token) → Lexes 0 bytes us → IsFlat (toks us) → IsFlat (toks ts)
  flat_tokens us l flat = subst (λ (v : List Token). IsFlat (toks v)) (same_tokens us l) flat

  pub deep_spells_none : (i : ℕ) → IsTooDeep (toks ts) i → (d : DescriptionTree) → ¬ SpellsText bytes d
  deep_spells_none i deep d = λ s. not_flat i deep (flat_tokens s.tokens s.lexes s.flat)

-- ---- what bytes spell

pub one_description : (bytes : List ℕ) (d e : DescriptionTree) → SpellsText bytes d → SpellsText bytes e → d ≡ e
one_description bytes d e s t = same_tree bytes s.tokens s.lexes d e (read_of bytes s.tokens s.lexes d s) t

pub spelled_unbroken : (bytes : List ℕ) (d : DescriptionTree) (fault : DescFault) → SpellsText bytes d → IsBroken bytes fault → ⊥
spelled_unbroken bytes d fault s (broken_token b) = lexes_whole s.lexes b
spelled_unbroken bytes d _ s (too_deep {ts = ts} {i = i} l deep there) = deep_spells_none bytes ts l i deep d s
spelled_unbroken bytes d _ s (spells_none f none le) = none d s

same_index : (ts : List Token) (i j : ℕ) → IsTooDeep (toks ts) i → IsTooDeep (toks ts) j → i ≡ j
same_index ts i j deep other =
    elim (cases_lt i j) [
      | inl lt ↦ absurd (omega (arith, other.first i lt, deep.deep))
      | inr le ↦ elim (cases_lt j i) [
        | inl lt ↦ absurd (omega (arith, deep.first j lt, other.deep))
        | inr ge ↦ omega (arith, le, ge)
      ]
    ]

same_deep : (ts : List Token) (i j : ℕ) (t u : Token) → IsTooDeep (toks ts) i → IsTooDeep (toks ts) j → slice_get ts i ≡ Some t → slice_get ts j ≡ Some u → faults.TooDeep t.at ≡ faults.TooDeep u.at
same_deep ts i j t u deep other e f = ap (λ (x : Token). faults.TooDeep x.at) (some_is t u (sym e ∙ ap (slice_get ts) (same_index ts i j deep other) ∙ f))

same_fault : (f : DescFault) → IsSameFault f f
same_fault (faults.NotADescription at) = tt
same_fault _ = refl

pub one_fault : (bytes : List ℕ) (f g : DescFault) → IsBroken bytes f → IsBroken bytes g → IsSameFault f g
one_fault bytes f g (broken_token b) (broken_token c) = subst (λ (h : DescFault). IsSameFault f h) (breaks_same b c) (same_fault f)
one_fault bytes f _ (broken_token b) (too_deep l deep there) = absurd (lexes_whole l b)
one_fault bytes f _ (broken_token b) (spells_none flat none le) = absurd (lexes_whole flat.lexes b)
one_fault bytes _ g (too_deep l deep there) (broken_token b) = absurd (lexes_whole l b)
one_fault bytes _ _ (too_deep {ts = ts} {i = i} {token = t} l deep there) (too_deep {ts = us} {i = j} {token = u} k other here) =
    let same = lexes_same k l in
    same_deep ts i j t u deep (subst (λ (v : List Token). IsTooDeep (toks v) j) same other) there (subst (λ (v : List Token). slice_get v j ≡ Some u) same here)
one_fault bytes _ _ (too_deep {ts = ts} {i = i} l deep there) (spells_none flat none le) = absurd (not_flat bytes ts l i deep (flat_tokens bytes ts l flat.tokens flat.lexes flat.flat))
one_fault bytes _ g (spells_none flat none le) (broken_token b) = absurd (lexes_whole flat.lexes b)
one_fault bytes _ _ (spells_none flat none le) (too_deep {ts = ts} {i = i} l deep there) = absurd (not_flat bytes ts l i deep (flat_tokens bytes ts l flat.tokens flat.lexes flat.flat))
one_fault bytes _ _ (spells_none flat none le) (spells_none other nothing ge) = tt

-- ---- and each text has one or the other

-- among so many tokens one is the first that is too deep, or none is too deep
deep_or_flat : (ts : List TokenPart) (k : ℕ) → k ≤ length ts → ((i : ℕ) × IsTooDeep ts i) ⊎ ((j : ℕ) → j < k → open_at ts j ≤ 64)
deep_or_flat ts zero le = inr (λ j lt. absurd (omega (arith, lt)))
deep_or_flat ts (suc k) le = go (deep_or_flat ts k (omega (arith, le))) (cases_lt 64 (open_at ts k))
  where
    go : (((i : ℕ) × IsTooDeep ts i) ⊎ ((j : ℕ) → j < k → open_at ts j ≤ 64)) → ((64 < open_at ts k) ⊎ (open_at ts k ≤ 64)) → ((i : ℕ) × IsTooDeep ts i) ⊎ ((j : ℕ) → j < suc k → open_at ts j ≤ 64)
    go (inl there) here = inl there
    go (inr below) (inl deep) = inl (k, record { within = omega (arith, le); deep = deep; first = below })
    go (inr below) (inr flat) = inr (λ j lt. up_to j lt)
      where
        up_to : (j : ℕ) → j < suc k → open_at ts j ≤ 64
        up_to j lt = elim (cases_lt j k) [
          | inl less ↦ below j less
          | inr ge ↦ let same : k ≡ j = omega (arith, lt, ge) in subst (λ (i : ℕ). open_at ts i ≤ 64) same flat
        ]

one_there : (ts : List Token) (i : ℕ) → i < length ts → (t : Token) × (slice_get ts i ≡ Some t)
one_there [] i lt = absurd (omega (arith, lt))
one_there (t ∷ ts) zero lt = (t, refl)
one_there (t ∷ ts) (suc i) lt = one_there ts i (omega (arith, lt))

pub has_outcome : (bytes : List ℕ) → HasOutcome bytes
has_outcome bytes = by_tokens (has_tokens bytes)
  where
    by_tree : (ts : List Token) → Lexes 0 bytes ts → IsFlat (toks ts) → (read : Option DescriptionTree) → description_of (toks ts) ≡ read → HasOutcome bytes
    by_tree ts l flat (Some d) e = spells d (found bytes ts l d flat e)
    by_tree ts l flat None e = breaks (faults.NotADescription 0) (spells_none (record { tokens = ts; lexes = l; flat = flat }) (not_none bytes ts l e) (omega arith))

    by_depth : (ts : List Token) → Lexes 0 bytes ts → (((i : ℕ) × IsTooDeep (toks ts) i) ⊎ ((j : ℕ) → j < length (toks ts) → open_at (toks ts) j ≤ 64)) → HasOutcome bytes
    by_depth ts l (inl (i, deep)) =
        let there = one_there ts i (omega (arith, deep.within, length-map ts (λ (x : Token). x.part))) in breaks (faults.TooDeep there.0.at) (too_deep l deep there.1)
    by_depth ts l (inr flat) = by_tree ts l flat (description_of (toks ts)) refl

    by_tokens : lexer.HasOutcome bytes → HasOutcome bytes
    by_tokens (lexer.lexes ts l) = by_depth ts l (deep_or_flat (toks ts) (length (toks ts)) (omega arith))
    by_tokens (lexer.breaks fault b) = breaks fault (broken_token b)

-- ---- what is answered

-- something was missed, so nothing is read
pub missed_none : {Y : Type 0} (e : Missed) (left : ℕ) (read : Option Y) → e ≡ misses.At left → Fails e read → read ≡ None
missed_none e left read is h = subst (λ (x : Missed). Fails x read) is h

pub token_there : (ts : List Token) (i : ℕ) (t : Token) → IsTooDeep (toks ts) i → t ≡ get_or ts i t → slice_get ts i ≡ Some t
token_there ts i t deep is = slice_get_read ts (length ts) i t refl (omega (arith, deep.within, length-map ts (λ (x : Token). x.part))) is

pub token_fault : (bytes : List ℕ) (f : DescFault) → IsFirst bytes f → (f ≡ faults.NoMemory) ⊎ IsBroken bytes f
token_fault bytes faults.NoMemory h = inl refl
token_fault bytes (faults.BadByte at) h = inr (broken_token h)
token_fault bytes f h = inr (broken_token h)

pub no_description : (bytes : List ℕ) (ts : List Token) (at : ℕ) → Lexes 0 bytes ts → IsFlat (toks ts) → description_of (toks ts) ≡ None → (IsPlace at ts ⊎ (at ≡ length bytes)) → IsBroken bytes (faults.NotADescription at)
no_description bytes ts at l flat none (inl p) = spells_none (record { tokens = ts; lexes = l; flat = flat }) (not_none bytes ts l none) (omega (arith, place_within l at p))
no_description bytes ts at l flat none (inr e) = spells_none (record { tokens = ts; lexes = l; flat = flat }) (not_none bytes ts l none) (omega arith)
