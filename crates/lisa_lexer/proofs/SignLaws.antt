-- The signs and their bytes.
use Rattle.std.proofs.Common.{◌≡◌, ℕ, Bool, true, false, cond, eqb, leb, [], ◌∷◌, length, Option, Some, refl, sym, ap, ◌∙◌}
use Rattle.std.specs.Prelude.{◌&&◌}
use Rattle.std.proofs.lemmas.Bool.{and_parts, eqb-true}
use Rattle.lisa_tree.specs.declared.tokens.Sign.{Sign}
use Rattle.lisa_tree.specs.declared.tokens.Sign.TheVariants as signs
use Rattle.lisa_tree.specs.Spellings.{sign_text}
use Rattle.lisa_words.specs.Bytes.{is_blank, is_digit, is_letter, front_is}
use Rattle.lisa_lexer.specs.Lexing.{is_quote}
use Rattle.lisa_lexer.specs.Signs.{one_byte, two_bytes, sign_of}

a_byte : (b x : ℕ) (k : Sign) (o : Option Sign) (s : Sign) → sign_text k ≡ x ∷ [] → cond (eqb b x) (Some k) o ≡ Some s → (o ≡ Some s → sign_text s ≡ b ∷ []) → sign_text s ≡ b ∷ []
a_byte b x k o s is e rest = go (eqb b x) refl e
  where
    go : (c : Bool) → eqb b x ≡ c → cond c (Some k) o ≡ Some s → sign_text s ≡ b ∷ []
    go true f e = let same : s ≡ k = cc in ap sign_text same ∙ is ∙ ap (λ (y : ℕ). y ∷ []) (sym (eqb-true b x f))
    go false f e = rest e

a_pair : (b c x y : ℕ) (k : Sign) (o : Option Sign) (s : Sign) → sign_text k ≡ x ∷ y ∷ [] → cond (eqb b x && eqb c y) (Some k) o ≡ Some s → (o ≡ Some s → sign_text s ≡ b ∷ c ∷ []) → sign_text s ≡ b ∷ c ∷ []
a_pair b c x y k o s is e rest = go (eqb b x && eqb c y) refl e
  where
    go : (d : Bool) → (eqb b x && eqb c y) ≡ d → cond d (Some k) o ≡ Some s → sign_text s ≡ b ∷ c ∷ []
    go true f e =
        let both = and_parts (eqb b x) (eqb c y) f in
        let same : s ≡ k = cc in
        ap sign_text same ∙ is ∙ ap (λ (z : ℕ). z ∷ y ∷ []) (sym (eqb-true b x both.0)) ∙ ap (λ (z : ℕ). b ∷ z ∷ []) (sym (eqb-true c y both.1))
    go false f e = rest e

pub one_is : (b : ℕ) (s : Sign) → one_byte b ≡ Some s → sign_text s ≡ b ∷ []
one_is b s e =
    a_byte b 123 signs.OpenBrace _ s refl e (λ h. a_byte b 125 signs.CloseBrace _ s refl h (λ h. a_byte b 40 signs.OpenRound _ s refl h (λ h. a_byte b 41 signs.CloseRound _ s refl h (λ h. a_byte b 91 signs.OpenSquare _ s refl h (λ h. a_byte b 93 signs.CloseSquare _ s refl h (λ h. a_byte b 59 signs.Semicolon _ s refl h (λ h. a_byte b 44 signs.Comma _ s refl h (λ h. a_byte b 46 signs.Dot _ s refl h (λ h. a_byte b 61 signs.Equal _ s refl h (λ h. a_byte b 60 signs.Less _ s refl h (λ h. a_byte b 62 signs.Greater _ s refl h (λ h. a_byte b 43 signs.Plus _ s refl h (λ h. a_byte b 45 signs.Minus _ s refl h (λ h. a_byte b 42 signs.Star _ s refl h (λ h. a_byte b 38 signs.And _ s refl h (λ h. a_byte b 124 signs.Or _ s refl h (λ h. a_byte b 94 signs.Caret _ s refl h (λ h. a_byte b 126 signs.Tilde _ s refl h (λ h. a_byte b 33 signs.Exclamation _ s refl h (λ h. a_byte b 63 signs.Question _ s refl h (λ h. a_byte b 58 signs.Colon _ s refl h (λ h. a_byte b 47 signs.Slash _ s refl h (λ h. absurd cc)))))))))))))))))))))))

pub two_is : (b c : ℕ) (s : Sign) → two_bytes b c ≡ Some s → sign_text s ≡ b ∷ c ∷ []
two_is b c s e =
    a_pair b c 60 60 signs.ShiftLeft _ s refl e (λ h. a_pair b c 62 62 signs.ShiftRight _ s refl h (λ h. a_pair b c 60 61 signs.LessEqual _ s refl h (λ h. a_pair b c 62 61 signs.GreaterEqual _ s refl h (λ h. a_pair b c 61 61 signs.EqualEqual _ s refl h (λ h. a_pair b c 33 61 signs.NotEqual _ s refl h (λ h. a_pair b c 38 38 signs.AndAnd _ s refl h (λ h. a_pair b c 124 124 signs.OrOr _ s refl h (λ h. a_pair b c 35 85 signs.DecimalFormat _ s refl h (λ h. a_pair b c 35 83 signs.SignedFormat _ s refl h (λ h. a_pair b c 35 88 signs.HexadecimalFormat _ s refl h (λ h. absurd cc)))))))))))

pub sign_back : (s : Sign) → sign_of (sign_text s) ≡ Some s
sign_back signs.ShiftLeft = refl
sign_back _ = refl

pub sign_no_letter : (s : Sign) → front_is is_letter (sign_text s) ≡ false
sign_no_letter signs.ShiftLeft = refl
sign_no_letter _ = refl

pub sign_no_digit : (s : Sign) → front_is is_digit (sign_text s) ≡ false
sign_no_digit signs.ShiftLeft = refl
sign_no_digit _ = refl

pub sign_no_quote : (s : Sign) → front_is is_quote (sign_text s) ≡ false
sign_no_quote signs.ShiftLeft = refl
sign_no_quote _ = refl

pub sign_no_blank : (s : Sign) → front_is is_blank (sign_text s) ≡ false
sign_no_blank signs.ShiftLeft = refl
sign_no_blank _ = refl

sign_short : (s : Sign) → (leb 1 (length (sign_text s)) && leb (length (sign_text s)) 2) ≡ true
sign_short signs.ShiftLeft = refl
sign_short _ = refl

pub sign_len : (s : Sign) → (leb 1 (length (sign_text s)) ≡ true) × (leb (length (sign_text s)) 2 ≡ true)
sign_len s = and_parts _ _ (sign_short s)
