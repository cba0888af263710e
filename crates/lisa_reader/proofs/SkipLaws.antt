-- A block is skipped up to the `}` that closes it.
use Rattle.std.proofs.Common.{◌≡◌, ℕ, zero, suc, ◌<◌, Bool, true, false, List, [], ◌∷◌, ◌++◌, length, Option, Some, None, refl, sym, ap, ◌∙◌, append_assoc, arith}
use Rattle.std.specs.Option.{option_map_or}
use Rattle.lisa_tree.specs.declared.tokens.Sign.TheVariants as signs
use Rattle.lisa_tree.specs.declared.tokens.TokenPart.{TokenPart}
use Rattle.lisa_tree.specs.declared.tokens.TokenPart.TheVariants as parts
use Rattle.lisa_tree.specs.Grammar.{Toks, mark}
use Rattle.lisa_tree.specs.DescriptionGrammar as grammar
use Rattle.lisa_tree.specs.DescriptionGrammar.{is_brace, IsBalanced}
use Rattle.lisa_words.proofs.StepLaws.{some_is}
use Rattle.lisa_behav_reader.specs.declared.misses.Missed.{Missed}
use Rattle.lisa_reader.specs.Skipping.{braces_after, skip_of}

stays : (t : TokenPart) (n : ℕ) → is_brace t ≡ false → braces_after t n ≡ Some n
stays (parts.Sign signs.OpenBrace) n e = absurd cc
stays (parts.Sign signs.CloseBrace) n e = absurd cc
stays t n e = refl

-- balanced tokens are passed over
pub skip_balanced : {xs : Toks} → IsBalanced xs → (ys : Toks) (n : ℕ) → skip_of (xs ++ ys) n ≡ skip_of ys n
skip_balanced grammar.none ys n = refl
skip_balanced (grammar.token {t = t} {ts = ts} plain d) ys n = ap (λ (o : Option ℕ). option_map_or (skip_of (ts ++ ys)) o (Some (ts ++ ys))) (stays t n plain) ∙ skip_balanced d ys n
skip_balanced (grammar.block {xs = xs} {ys = zs} d f is) ys n =
    ap (λ (l : Toks). skip_of (l ++ ys) n) is ∙ ap (λ (l : Toks). skip_of l (suc n)) (append_assoc xs (mark signs.CloseBrace ∷ zs) ys)
    ∙ skip_balanced d (mark signs.CloseBrace ∷ (zs ++ ys)) (suc n) ∙ skip_balanced f ys n

pub skip_there : {xs : Toks} → IsBalanced xs → (rest : Toks) → skip_of (xs ++ (mark signs.CloseBrace ∷ rest)) 0 ≡ Some rest
skip_there d rest = skip_balanced d (mark signs.CloseBrace ∷ rest) 0

-- balanced tokens and a `}`, and the same once more for each brace that is open
abbrev pub Closes : ℕ → Toks → Toks → Type 0
Closes zero ts rest = (xs : Toks) × IsBalanced xs × (ts ≡ xs ++ (mark signs.CloseBrace ∷ rest))
Closes (suc n) ts rest = (xs : Toks) × (us : Toks) × IsBalanced xs × (ts ≡ xs ++ (mark signs.CloseBrace ∷ us)) × Closes n us rest

with_token : (n : ℕ) (t : TokenPart) (ts rest : Toks) → is_brace t ≡ false → Closes n ts rest → Closes n (t ∷ ts) rest
with_token zero t ts rest plain (xs, d, is) = (t ∷ xs, grammar.token plain d, ap (λ (l : Toks). t ∷ l) is)
with_token (suc n) t ts rest plain (xs, us, d, is, c) = (t ∷ xs, us, grammar.token plain d, ap (λ (l : Toks). t ∷ l) is, c)

-- an inner block and what stands behind it
joined : (xs ys ts us tail : Toks) → ts ≡ xs ++ (mark signs.CloseBrace ∷ us) → us ≡ ys ++ tail → mark signs.OpenBrace ∷ ts ≡ (mark signs.OpenBrace ∷ (xs ++ (mark signs.CloseBrace ∷ ys))) ++ tail
joined xs ys ts us tail is same = ap (λ (l : Toks). mark signs.OpenBrace ∷ l) (is ∙ ap (λ (l : Toks). xs ++ (mark signs.CloseBrace ∷ l)) same ∙ sym (append_assoc xs (mark signs.CloseBrace ∷ ys) tail))

with_open : (n : ℕ) (ts rest : Toks) → Closes (suc n) ts rest → Closes n (mark signs.OpenBrace ∷ ts) rest
with_open zero ts rest (xs, us, d, is, (ys, f, same)) = (mark signs.OpenBrace ∷ (xs ++ (mark signs.CloseBrace ∷ ys)), grammar.block d f refl, joined xs ys ts us (mark signs.CloseBrace ∷ rest) is same)
with_open (suc n) ts rest (xs, us, d, is, (ys, vs, f, same, c)) = (mark signs.OpenBrace ∷ (xs ++ (mark signs.CloseBrace ∷ ys)), vs, grammar.block d f refl, joined xs ys ts us (mark signs.CloseBrace ∷ vs) is same, c)

closes_by : (ts : Toks) (n : ℕ) (rest : Toks) → skip_of ts n ≡ Some rest → Closes n ts rest
closes_by [] n rest e = absurd cc
closes_by (parts.Sign signs.OpenBrace ∷ ts) n rest e = with_open n ts rest (closes_by ts (suc n) rest e)
closes_by (parts.Sign signs.CloseBrace ∷ ts) zero rest e = ([], grammar.none, ap (λ (l : Toks). mark signs.CloseBrace ∷ l) (some_is ts rest e))
closes_by (parts.Sign signs.CloseBrace ∷ ts) (suc n) rest e = ([], ts, grammar.none, refl, closes_by ts n rest e)
closes_by (t ∷ ts) n rest e = with_token n t ts rest refl (closes_by ts n rest e)

pub skip_sound : (ts rest : Toks) → skip_of ts 0 ≡ Some rest → (xs : Toks) × IsBalanced xs × (ts ≡ xs ++ (mark signs.CloseBrace ∷ rest))
skip_sound ts rest e = closes_by ts 0 rest e
