-- What the loop over the bytes keeps.
use Rattle.std.proofs.Common.{◌≡◌, ℕ, ◌+◌, ◌<◌, List, [], ◌∷◌, ◌++◌, length, drop, map, Result, Ok, Err, refl, sym, ap, subst, ◌∙◌, append_assoc, arith, inl, inr}
use Rattle.std.specs.Prelude.{IfOk, IfErr}
use Rattle.std.specs.Global.{Vec}
use Rattle.std.proofs.lemmas.List.{append-nil, nil_from_length}
use Rattle.verilog_text.specs.declared.faults.VerilogFault.{VerilogFault}
use Rattle.verilog_text.specs.declared.faults.VerilogFault.TheVariants as faults
use Rattle.verilog_text.specs.declared.tokens.VToken.{VToken}
use Rattle.verilog_text.specs.Tokens.{VTok}
use Rattle.verilog_text.specs.Lexing.{Lexes, Breaks}
use Rattle.verilog_lexer.specs.declared.items.Found.{Found}
use Rattle.verilog_lexer.specs.declared.items.Found.TheVariants as founds
use Rattle.verilog_lexer.specs.Reading.{Front, Skip, Take, item_at, Answer, ◌>>=◌, on_item, lex}
use Rattle.verilog_lexer.specs.Answers.{Gives, Fails, IsFirst, IsPart, with_front, GivesTokens, GivesFault, placed, item_of}
use Rattle.verilog_lexer.proofs.ItemLaws.{ItemIs, item_is}
use Rattle.verilog_lexer.proofs.LexLaws.{lex_at, lex_end, lexed, lex_complete, lex_breaks, LexIs, item_within}

regroup : (front : List (ℕ × VTok)) (t : ℕ × VTok) (r : Answer) → with_front front (r >>= λ ts. Ok (t ∷ ts)) ≡ with_front (front ++ t ∷ []) r
regroup front t (Ok ts) = ap (λ (us : List (ℕ × VTok)). Ok us) (simp append_assoc)
regroup front t (Err f) = refl

-- a length that is answered lies inside the bytes
pub item_part : (at : ℕ) (bytes : List ℕ) (r : Result Found VerilogFault) → 0 < length bytes → Gives item_of r (item_at at bytes) → IfOk r (IsPart bytes)
item_part at [] r some g = absurd (omega arith)
item_part at (b ∷ bs) (Ok (founds.Skip n)) some g = item_within at (b ∷ bs) (Skip n) (subst (ItemIs at (b ∷ bs)) g (item_is at b bs))
item_part at (b ∷ bs) (Ok (founds.Take n part)) some g = item_within at (b ∷ bs) (item_of (founds.Take n part)) (subst (ItemIs at (b ∷ bs)) g (item_is at b bs))
item_part at (b ∷ bs) (Err e) some g = tt

module _ (front : List (ℕ × VTok)) (at : ℕ) (rest : List ℕ) (some : 0 < length rest) where
  one_step : (r : Front) → item_at at rest ≡ r → lex (at, rest) ≡ (r >>= on_item lex at rest)
  one_step r e = lex_at at rest some ∙ ap (λ (q : Front). q >>= on_item lex at rest) e

  pub skips_on : (n : ℕ) → item_at at rest ≡ Ok (Skip n) → with_front front (lex (at + n, drop n rest)) ≡ with_front front (lex (at, rest))
  skips_on n e = ap (with_front front) (sym (one_step (Ok (Skip n)) e))

  pub takes_on : (n : ℕ) (tok : VTok) → item_at at rest ≡ Ok (Take n tok) → with_front (front ++ (at, tok) ∷ []) (lex (at + n, drop n rest)) ≡ with_front front (lex (at, rest))
  takes_on n tok e = sym (regroup front (at, tok) (lex (at + n, drop n rest))) ∙ ap (with_front front) (sym (one_step (Ok (Take n tok)) e))

  pub fails_on : (e : VerilogFault) → Fails e (item_at at rest) → Fails e (lex (at, rest))
  fails_on faults.NoMemory h = tt
  fails_on (faults.BadByte place) h = one_step (Err place) h
  fails_on _ h = absurd h

pub fails_whole : (front : List (ℕ × VTok)) (part total : Answer) (e : VerilogFault) → with_front front part ≡ total → Fails e part → Fails e total
fails_whole front part total faults.NoMemory so_far h = tt
fails_whole front part total (faults.BadByte place) so_far h = sym so_far ∙ ap (with_front front) h
fails_whole front part total _ so_far h = absurd h

pub is_done : (front : List (ℕ × VTok)) (at : ℕ) (rest : List ℕ) (total : Answer) → length rest ≡ 0 → with_front front (lex (at, rest)) ≡ total → total ≡ Ok front
is_done front at rest total none so_far =
    let empty : rest ≡ [] = nil_from_length rest none in
    sym so_far ∙ ap (λ (l : List ℕ). with_front front (lex (at, l))) empty ∙ ap (with_front front) (lex_end at) ∙ ap (λ (us : List (ℕ × VTok)). Ok us) (append-nil front)

-- ---- the public clauses

pub is_found : (bytes : List ℕ) (r : Result (Vec VToken) VerilogFault) → Gives (λ v. map placed v.items) r (lex (0, bytes)) → IfOk r (λ v. Lexes 0 bytes (map placed v.items))
is_found bytes (Ok v) g = subst (LexIs 0 bytes) g (lexed (length bytes) 0 bytes (omega arith))
is_found bytes (Err e) g = tt

breaks_at : (bytes : List ℕ) (place : ℕ) → lex (0, bytes) ≡ Err place → Breaks 0 bytes place
breaks_at bytes place g = subst (LexIs 0 bytes) g (lexed (length bytes) 0 bytes (omega arith))

pub is_first : (bytes : List ℕ) (r : Result (Vec VToken) VerilogFault) → Gives (λ v. map placed v.items) r (lex (0, bytes)) → IfErr r (IsFirst bytes)
is_first bytes (Ok v) g = tt
is_first bytes (Err faults.NoMemory) g = tt
is_first bytes (Err (faults.BadByte place)) g = breaks_at bytes place g
is_first bytes (Err _) g = absurd g

pub gives_tokens : (bytes : List ℕ) (r : Result (Vec VToken) VerilogFault) (ts : List (ℕ × VTok)) → Gives (λ v. map placed v.items) r (lex (0, bytes)) → Lexes 0 bytes ts → GivesTokens ts r
gives_tokens bytes (Ok v) ts g d = let same : ◌≡◌ {A = Answer} (Ok (map placed v.items)) (Ok ts) = sym g ∙ lex_complete d in cc
gives_tokens bytes (Err faults.NoMemory) ts g d = refl
gives_tokens bytes (Err (faults.BadByte place)) ts g d = let same : ◌≡◌ {A = Answer} (Err place) (Ok ts) = sym g ∙ lex_complete d in absurd cc
gives_tokens bytes (Err _) ts g d = absurd g

pub gives_fault : (bytes : List ℕ) (r : Result (Vec VToken) VerilogFault) (p : ℕ) → Gives (λ v. map placed v.items) r (lex (0, bytes)) → Breaks 0 bytes p → GivesFault p r
gives_fault bytes (Ok v) p g d = let same : ◌≡◌ {A = Answer} (Ok (map placed v.items)) (Err p) = sym g ∙ lex_breaks d in absurd cc
gives_fault bytes (Err faults.NoMemory) p g d = inr refl
gives_fault bytes (Err (faults.BadByte place)) p g d = inl (let same : ◌≡◌ {A = Answer} (Err place) (Err p) = sym g ∙ lex_breaks d in cc)
gives_fault bytes (Err _) p g d = absurd g
