-- A text that is written token by token is the canonical text.
use Rattle.std.proofs.Common.{◌≡◌, ℕ, ◌+◌, ◌*◌, Bool, true, false, cond, List, [], ◌∷◌, ◌++◌, Option, refl, sym, ap, ◌∙◌, arith, append_assoc}
use Rattle.std.specs.Prelude.{replicate}
use Rattle.std.proofs.lemmas.List.{replicate-append-replicate, append-nil}
use Rattle.lisa_tree.specs.declared.tokens.Sign.{Sign}
use Rattle.lisa_tree.specs.Grammar.{Toks}
use Rattle.lisa_tree.specs.Spellings.{token_text}
use Rattle.lisa_printer.specs.CanonicalText.{sign_in, braces_after, rounds_after, ends_line, between, text_behind, canonical_text}
use Rattle.lisa_printer.specs.Sheets.{Sheet, blank_sheet, written, extended, write, write_all, finished}

pub two_blanks : (xs : List ℕ) (k : ℕ) → (xs ++ replicate (2 * k) 32) ++ (32 ∷ 32 ∷ []) ≡ xs ++ replicate (2 * (k + 1)) 32
two_blanks xs k =
    let e : 2 * k + 2 ≡ 2 * (k + 1) = omega arith in
    append_assoc xs (replicate (2 * k) 32) (32 ∷ 32 ∷ []) ∙ ap (λ (ys : List ℕ). xs ++ ys) (replicate-append-replicate (2 * k) 2 32 ∙ ap (λ (n : ℕ). replicate n 32) e)

pub write_all-append : (s : Sheet) (xs ys : Toks) → write_all s (xs ++ ys) ≡ write_all (write_all s xs) ys
write_all-append s [] ys = refl
write_all-append s (t ∷ xs) ys = write_all-append (write s t) xs ys

finished_is : (s : Sheet) → finished s ≡ s.text ++ text_behind s.braces s.rounds s.last []
finished_is s = go (ends_line s.rounds s.last false)
  where
    go : (b : Bool) → cond b (s.text ++ 10 ∷ []) s.text ≡ s.text ++ cond b (10 ∷ []) []
    go true = refl
    go false = sym (append-nil s.text)

-- what is written, and then the text behind it
pub text_of-write_all : (s : Sheet) (ts : Toks) → finished (write_all s ts) ≡ s.text ++ text_behind s.braces s.rounds s.last ts
unfolding written
text_of-write_all s [] = finished_is s
text_of-write_all s (t ∷ ts) =
    let gap : List ℕ = between s.braces s.rounds s.last (sign_in t) in
    let rest : List ℕ = text_behind (braces_after s.braces (sign_in t)) (rounds_after s.rounds (sign_in t)) (sign_in t) ts in
    text_of-write_all (write s t) ts ∙ append_assoc (s.text ++ gap) (token_text t) rest ∙ append_assoc s.text gap (token_text t ++ rest)

pub text_is : (ts : Toks) → finished (write_all blank_sheet ts) ≡ canonical_text ts
text_is [] = text_of-write_all blank_sheet []
text_is (t ∷ ts) = text_of-write_all blank_sheet (t ∷ ts)

-- a sheet with these parts is the one on which the token was written
pub written_is : (s t : Sheet) (sign : Option Sign) (text : List ℕ)
    → t.text ≡ (s.text ++ between s.braces s.rounds s.last sign) ++ text → t.braces ≡ braces_after s.braces sign → t.rounds ≡ rounds_after s.rounds sign → t.last ≡ sign
    → t ≡ written s sign text
unfolding written
written_is s t sign text h k l m = λ i. record { text = h i; braces = k i; rounds = l i; last = m i }

pub extended-written : (s : Sheet) (sign : Option Sign) (xs ys : List ℕ) → extended (written s sign xs) ys ≡ written s sign (xs ++ ys)
unfolding written extended
extended-written s sign xs ys =
    λ i. record { text = append_assoc (s.text ++ between s.braces s.rounds s.last sign) xs ys i; braces = braces_after s.braces sign; rounds = rounds_after s.rounds sign; last = sign }

pub extended_is : (s t : Sheet) (text : List ℕ) → t.text ≡ s.text ++ text → t.braces ≡ s.braces → t.rounds ≡ s.rounds → t.last ≡ s.last → t ≡ extended s text
unfolding extended
extended_is s t text h k l m = λ i. record { text = h i; braces = k i; rounds = l i; last = m i }

-- how texts are joined
pub ruleset sheet_steps = (write_all-append, extended-written)
