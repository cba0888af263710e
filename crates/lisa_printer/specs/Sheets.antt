-- A text as it is written, one token behind the other.
use Rattle.std.specs.Prelude.{ℕ, List, [], ◌∷◌, ◌++◌, Option, Some, if◌then◌else◌, false}
use Rattle.lisa_tree.specs.declared.tokens.Sign.{Sign}
use Rattle.lisa_tree.specs.declared.tokens.Sign.TheVariants as signs
use Rattle.lisa_tree.specs.declared.tokens.TokenPart.{TokenPart}
use Rattle.lisa_tree.specs.Grammar.{Toks}
use Rattle.lisa_tree.specs.Spellings.{token_text}
use Rattle.lisa_printer.specs.CanonicalText.{sign_in, braces_after, rounds_after, ends_line, between}

-- what is written, how many braces and round brackets are open behind it, and the last token, as far as it is a sign
pub record Sheet : Type 0 where
  pub text : List ℕ
  pub braces : ℕ
  pub rounds : ℕ
  pub last : Option Sign

-- nothing is written: no blank stands before the first token, as none stands behind `(`
abbrev pub blank_sheet : Sheet
blank_sheet = record { text = []; braces = 0; rounds = 0; last = Some signs.OpenRound }

unfoldable pub written : Sheet → Option Sign → List ℕ → Sheet
written s sign text = record {
  text = (s.text ++ between s.braces s.rounds s.last sign) ++ text;
  braces = braces_after s.braces sign;
  rounds = rounds_after s.rounds sign;
  last = sign;
}

-- more bytes of the last token
unfoldable pub extended : Sheet → List ℕ → Sheet
extended s text = record s { text = s.text ++ text }

abbrev pub write : Sheet → TokenPart → Sheet
write s t = written s (sign_in t) (token_text t)

abbrev pub write_all : Sheet → Toks → Sheet
write_all s [] = s
write_all s (t ∷ ts) = write_all (write s t) ts

-- the text with the end of its last line
abbrev pub finished : Sheet → List ℕ
finished s = if ends_line s.rounds s.last false then s.text ++ 10 ∷ [] else s.text
