-- Tokens that are written one behind the other, with blanks before some of them.
use Rattle.std.specs.Prelude.{◌≡◌, ℕ, ◌&&◌, Bool, true, List, [], ◌∷◌, ◌++◌, is_none, not, map}
use Rattle.std.specs.List.{list_all}
use Rattle.lisa_words.specs.Bytes.{is_blank, is_word, front_is}
use Rattle.lisa_words.specs.Gaps.{starts_comment}
use Rattle.lisa_tree.specs.declared.tokens.Token.{Token}
use Rattle.lisa_tree.specs.declared.tokens.TokenPart.{TokenPart}
use Rattle.lisa_tree.specs.declared.tokens.TokenPart.TheVariants as parts
use Rattle.lisa_tree.specs.Spellings.{sign_text}
use Rattle.lisa_tree.specs.Tokens.{IsToken, Fits, Lexes, toks}
use Rattle.lisa_lexer.specs.Signs.{two_bytes}

-- the bytes behind a sign of one byte make neither a sign of two bytes nor a comment with it
abbrev pub is_free : List ℕ → List ℕ → Bool
is_free (b ∷ []) (c ∷ rest) = is_none (two_bytes b c) && not (starts_comment (b ∷ c ∷ []))
is_free sign rest = true

-- a token doesn't go on with the bytes behind it
abbrev pub is_apart : TokenPart → List ℕ → Bool
is_apart (parts.Named name) rest = not (front_is is_word rest)
is_apart (parts.Reserved k) rest = not (front_is is_word rest)
is_apart (parts.TypeWord s) rest = not (front_is is_word rest)
is_apart (parts.Number value base) rest = not (front_is is_word rest)
is_apart (parts.Pattern digits) rest = not (front_is is_word rest)
is_apart (parts.Text t) rest = true
is_apart (parts.Sign s) rest = is_free (sign_text s) rest

-- a token with its text, and the blanks before it
pub record Piece : Type 0 where
  pub blanks : List ℕ
  pub text : List ℕ
  pub part : TokenPart

-- the bytes that the pieces and the blanks behind the last of them are
abbrev pub text_of : List Piece → List ℕ → List ℕ
text_of [] last = last
text_of (p ∷ ps) last = p.blanks ++ (p.text ++ text_of ps last)

-- each piece is a token that fits and stands apart from what follows
abbrev pub ArePieces : List Piece → List ℕ → Type 0
ArePieces [] last = list_all is_blank last ≡ true
ArePieces (p ∷ ps) last = (list_all is_blank p.blanks ≡ true) × IsToken p.text p.part × Fits p.part × (is_apart p.part (text_of ps last) ≡ true) × ArePieces ps last

abbrev pub parts_of : List Piece → List TokenPart
parts_of ps = map (λ (p : Piece). p.part) ps

-- the bytes are tokens that have these parts, wherever they stand
abbrev pub Reads : List ℕ → List TokenPart → Type 0
Reads bytes us = (at : ℕ) → (ts : List Token) × Lexes at bytes ts × (toks ts ≡ us)
