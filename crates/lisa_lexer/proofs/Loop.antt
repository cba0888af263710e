-- What the loop over the bytes keeps.
use Rattle.std.proofs.Common.{◌≡◌, ℕ, ◌+◌, ◌<◌, List, [], ◌∷◌, ◌++◌, length, drop, Result, Ok, Err, refl, sym, ap, subst, ◌∙◌, append_assoc, arith, inl, inr}
use Rattle.std.specs.Prelude.{IfOk, IfErr}
use Rattle.std.specs.Global.{Vec}
use Rattle.std.proofs.lemmas.List.{append-nil, nil_from_length}
use Rattle.lisa_tree.specs.declared.faults.DescFault.{DescFault}
use Rattle.lisa_tree.specs.declared.faults.DescFault.TheVariants as faults
use Rattle.lisa_tree.specs.declared.tokens.Token.{Token}
use Rattle.lisa_tree.specs.declared.tokens.TokenPart.{TokenPart}
use Rattle.lisa_tree.specs.Tokens.{placed, Lexes, Breaks}
use Rattle.lisa_lexer.specs.declared.items.Item.TheVariants.{Skip, Take}
use Rattle.lisa_lexer.specs.Lexing.{Front, item_at, Answer, ◌>>=◌, on_item, lex}
use Rattle.lisa_lexer.specs.Answers.{Gives, Fails, IsFirst, IsPart, with_front, GivesTokens, GivesFault}
use Rattle.lisa_lexer.proofs.ItemLaws.{ItemIs, item_is}
use Rattle.lisa_lexer.proofs.Lexed.{lex_at, lex_end, lexed, lex_complete, lex_breaks, LexIs, item_within}

regroup : (front : List Token) (t : Token) (r : Answer) → with_front front (r >>= λ ts. Ok (t ∷ ts)) ≡ with_front (front ++ t ∷ []) r
regroup front t (Ok ts) = ap (λ (us : List Token). Ok us) (simp append_assoc)
regroup front t (Err f) = refl

-- a length that is answered lies inside the bytes
pub item_part : (at : ℕ) (bytes : List ℕ) (r : Front) → 0 < length bytes → Gives (λ i. i) r (item_at at bytes) → IfOk r (IsPart bytes)
item_part at [] r some g = absurd (omega arith)
item_part at (b ∷ bs) (Ok i) some g = item_within at (b ∷ bs) i (subst (ItemIs at (b ∷ bs)) g (item_is at b bs))
item_part at (b ∷ bs) (Err e) some g = tt

module _ (front : List Token) (at : ℕ) (rest : List ℕ) (some : 0 < length rest) where
  one_step : (r : Front) → item_at at rest ≡ r → lex (at, rest) ≡ (r >>= on_item lex at rest)
  one_step r e = lex_at at rest some ∙ ap (λ (q : Front). q >>= on_item lex at rest) e

  pub skips_on : (n : ℕ) → item_at at rest ≡ Ok (Skip n) → with_front front (lex (at + n, drop n rest)) ≡ with_front front (lex (at, rest))
  skips_on n e = ap (with_front front) (sym (one_step (Ok (Skip n)) e))

  pub takes_on : (n : ℕ) (part : TokenPart) → item_at at rest ≡ Ok (Take n part) → with_front (front ++ placed at part ∷ []) (lex (at + n, drop n rest)) ≡ with_front front (lex (at, rest))
  takes_on n part e = sym (regroup front (placed at part) (lex (at + n, drop n rest))) ∙ ap (with_front front) (sym (one_step (Ok (Take n part)) e))

  pub fails_on : (e : DescFault) → Fails e (item_at at rest) → Fails e (lex (at, rest))
  fails_on faults.NoMemory h = tt
  fails_on e h = one_step (Err e) h

pub fails_whole : (front : List Token) (part total : Answer) (e : DescFault) → with_front front part ≡ total → Fails e part → Fails e total
fails_whole front part total faults.NoMemory so_far h = tt
fails_whole front part total e so_far h = sym so_far ∙ ap (with_front front) h

pub is_done : (front : List Token) (at : ℕ) (rest : List ℕ) (total : Answer) → length rest ≡ 0 → with_front front (lex (at, rest)) ≡ total → total ≡ Ok front
is_done front at rest total none so_far =
    let nothing : rest ≡ [] = nil_from_length rest none in
    sym so_far ∙ ap (λ (l : List ℕ). with_front front (lex (at, l))) nothing ∙ ap (with_front front) (lex_end at) ∙ ap (λ (us : List Token). Ok us) (append-nil front)

-- ---- the public clauses

pub is_found : (bytes : List ℕ) (r : Result (Vec Token) DescFault) → Gives (λ v. v.items) r (lex (0, bytes)) → IfOk r (λ v. Lexes 0 bytes v.items)
is_found bytes (Ok v) g = subst (LexIs 0 bytes) g (lexed (length bytes) 0 bytes (omega arith))
is_found bytes (Err e) g = tt

breaks_at : (bytes : List ℕ) (e : DescFault) → lex (0, bytes) ≡ Err e → Breaks 0 bytes e
breaks_at bytes e g = subst (LexIs 0 bytes) g (lexed (length bytes) 0 bytes (omega arith))

pub is_first : (bytes : List ℕ) (r : Result (Vec Token) DescFault) → Gives (λ v. v.items) r (lex (0, bytes)) → IfErr r (IsFirst bytes)
is_first bytes (Ok v) g = tt
is_first bytes (Err faults.NoMemory) g = tt
is_first bytes (Err e) g = breaks_at bytes e g

pub gives_tokens : (bytes : List ℕ) (r : Result (Vec Token) DescFault) (ts : List Token) → Gives (λ v. v.items) r (lex (0, bytes)) → Lexes 0 bytes ts → GivesTokens ts r
gives_tokens bytes (Ok v) ts g d = let same : ◌≡◌ {A = Answer} (Ok v.items) (Ok ts) = sym g ∙ lex_complete d in cc
gives_tokens bytes (Err faults.NoMemory) ts g d = refl
gives_tokens bytes (Err e) ts g d = let same : ◌≡◌ {A = Answer} (Err e) (Ok ts) = sym g ∙ lex_complete d in absurd cc

pub gives_fault : (bytes : List ℕ) (r : Result (Vec Token) DescFault) (f : DescFault) → Gives (λ v. v.items) r (lex (0, bytes)) → Breaks 0 bytes f → GivesFault f r
gives_fault bytes (Ok v) f g d = let same : ◌≡◌ {A = Answer} (Ok v.items) (Err f) = sym g ∙ lex_breaks d in absurd cc
gives_fault bytes (Err faults.NoMemory) f g d = inr refl
gives_fault bytes (Err e) f g d = inl (let same : ◌≡◌ {A = Answer} (Err e) (Err f) = sym g ∙ lex_breaks d in cc)
