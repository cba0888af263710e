-- How a line of a source is spelled: which bytes spell a number, a sum, a value, a token, a label, a part and a line.
use Rattle.std.specs.Prelude.{ℕ, suc, ◌<◌, ◌≤◌, ◌^◌, ℤ, pos, ◌-ℤ◌, ◌≡◌, Bool, true, false, List, [], ◌∷◌, ◌++◌, length, codes, Some, None, ◌==◌, not}
use Rattle.std.specs.List.{list_all}
use Rattle.std.specs.Str.Parse.{digits_value}
use Rattle.lisa_words.specs.Numerals.{IsNumeralBelow}
use Rattle.asm_source.specs.declared.operands.Atom.{Atom}
use Rattle.asm_source.specs.declared.operands.Atom.TheVariants.{Value, Symbol}
use Rattle.asm_source.specs.Bytes.{is_blank, is_word, is_line_byte, is_name, front_is}
use Rattle.asm_source.specs.Plain.{PlainSum, PlainToken, Run, Sign, Operand, PlainValue, Number, Added, PlainPart, Nothing, Section, Global, Equ, Cells, Space, Instruction}
use Rattle.asm_source.specs.Sums.{one_term, plus}

-- spaces and tabs, or nothing
abbrev pub AreBlanks : List ℕ → Type 0
AreBlanks text = list_all is_blank text ≡ true

-- a word ends before this text: no word character comes first
abbrev pub EndsWord : List ℕ → Type 0
EndsWord rest = front_is is_word rest ≡ false

-- what is spelled, with blanks before and behind it
pub record Among {A : Type 0} (Spells : List ℕ → A → Type 0) (text : List ℕ) (a : A) : Type 0 where
  pub before : List ℕ
  pub word : List ℕ
  pub behind : List ℕ
  pub is : text ≡ before ++ (word ++ behind)
  pub blank_before : AreBlanks before
  pub blank_behind : AreBlanks behind
  pub spelled : Spells word a

-- ---- numbers

-- decimal digits, or `0x` and hexadecimal digits of either case, of a number below 2 ^ 64
pub data SpellsNumber : List ℕ → ℕ → Type 0 where
  decimal : {word : List ℕ} → IsNumeralBelow 10 (2 ^ 64) word → SpellsNumber word (digits_value 10 word)
  hexadecimal : {word digits : List ℕ} → word ≡ codes "0x" ++ digits → IsNumeralBelow 16 (2 ^ 64) digits
      → SpellsNumber word (digits_value 16 digits)

-- a number, which may have `-` directly before it
pub data SpellsSigned : List ℕ → ℤ → Type 0 where
  positive : {word : List ℕ} {n : ℕ} → SpellsNumber word n → SpellsSigned word (pos n)
  negative : {word digits : List ℕ} {n : ℕ} → word ≡ codes "-" ++ digits → SpellsNumber digits n
      → SpellsSigned word (pos 0 -ℤ pos n)

abbrev pub SpellsName : List ℕ → List ℕ → Type 0
SpellsName word name = (is_name word ≡ true) × (name ≡ word)

-- ---- operands

-- a name, a number or `$`
pub data SpellsAtom : List ℕ → Atom → Type 0 where
  named : {word : List ℕ} → is_name word ≡ true → SpellsAtom word (Symbol (Some word))
  counted : {word : List ℕ} {n : ℕ} → SpellsNumber word n → SpellsAtom word (Value n)
  here : SpellsAtom (codes "$") (Symbol None)

-- so many terms joined by `+` and `-`, of which the first is taken away or added
pub data SpellsTerms : ℕ → Bool → List ℕ → PlainSum → Type 0 where
  one : {minus : Bool} {text : List ℕ} {a : Atom} → SpellsAtom text a
      → SpellsTerms 1 minus text (one_term minus a)
  added : {n : ℕ} {minus : Bool} {text first rest : List ℕ} {a : Atom} {s : PlainSum}
      → text ≡ first ++ (codes "+" ++ rest) → SpellsAtom first a → SpellsTerms n false rest s
      → SpellsTerms (suc n) minus text (plus (one_term minus a) s)
  taken : {n : ℕ} {minus : Bool} {text first rest : List ℕ} {a : Atom} {s : PlainSum}
      → text ≡ first ++ (codes "-" ++ rest) → SpellsAtom first a → SpellsTerms n true rest s
      → SpellsTerms (suc n) minus text (plus (one_term minus a) s)

-- what stands behind an `@`: a term, or in parentheses one to eight terms, which may have `-` before them
pub data SpellsSum : List ℕ → PlainSum → Type 0 where
  alone : {text : List ℕ} {a : Atom} → SpellsAtom text a → SpellsSum text (one_term false a)
  bracketed : {text inner : List ℕ} {count : ℕ} {s : PlainSum}
      → text ≡ codes "(" ++ (inner ++ codes ")") → count ≤ 8 → SpellsTerms count false inner s
      → SpellsSum text s
  bracketed_minus : {text inner : List ℕ} {count : ℕ} {s : PlainSum}
      → text ≡ codes "(-" ++ (inner ++ codes ")") → count ≤ 8 → SpellsTerms count true inner s
      → SpellsSum text s

-- ---- instructions

-- a token, with this text directly behind it: a run of word characters, as long as it can be and without `@` behind it; a run, or nothing, with `@`
-- and an operand, behind which no word character stands; or a single character that is none of these
pub data SpellsToken : List ℕ → PlainToken → List ℕ → Type 0 where
  run : {text rest : List ℕ} → 0 < length text → list_all is_word text ≡ true → EndsWord rest
      → front_is (λ b. b == 64) rest ≡ false → SpellsToken text (Run text) rest
  operand : {text word sum rest : List ℕ} {s : PlainSum} → text ≡ word ++ (codes "@" ++ sum)
      → list_all is_word word ≡ true → SpellsSum sum s → EndsWord rest
      → SpellsToken text (Operand word s) rest
  sign : {rest : List ℕ} {b : ℕ} → is_blank b ≡ false → is_word b ≡ false → (b == 64) ≡ false
      → SpellsToken (b ∷ []) (Sign b) rest

-- tokens, with blanks before each and behind the last
pub data SpellsTokens : List ℕ → List PlainToken → Type 0 where
  no_tokens : {text : List ℕ} → AreBlanks text → SpellsTokens text []
  token : (blanks : List ℕ) {text word rest : List ℕ} {t : PlainToken} {ts : List PlainToken}
      → text ≡ blanks ++ (word ++ rest) → AreBlanks blanks → SpellsToken word t rest
      → SpellsTokens rest ts → SpellsTokens text (t ∷ ts)

-- ---- directives

-- a value of a `.word`: a number, or `@` and an operand
pub data SpellsValue : List ℕ → PlainValue → Type 0 where
  plain : {word : List ℕ} {z : ℤ} → SpellsSigned word z → SpellsValue word (Number z)
  summed : {word text : List ℕ} {s : PlainSum} → word ≡ codes "@" ++ text → SpellsSum text s
      → SpellsValue word (Added s)

-- one value or more, with commas between them
pub data SpellsValues : List ℕ → List PlainValue → Type 0 where
  one_value : {text : List ℕ} {v : PlainValue} → Among SpellsValue text v → SpellsValues text (v ∷ [])
  value : {text first rest : List ℕ} {v : PlainValue} {vs : List PlainValue}
      → text ≡ first ++ (codes "," ++ rest) → Among SpellsValue first v → SpellsValues rest vs
      → SpellsValues text (v ∷ vs)

-- a directive's word, and what stands behind it
pub data SpellsDirective : List ℕ → List ℕ → PlainPart → Type 0 where
  section : {rest name : List ℕ} → Among SpellsName rest name
      → SpellsDirective (codes ".section") rest (Section name)
  global : {rest name : List ℕ} → Among SpellsName rest name
      → SpellsDirective (codes ".global") rest (Global name)
  equ : (blanks : List ℕ) {rest name number : List ℕ} {z : ℤ} → rest ≡ blanks ++ (name ++ number)
      → AreBlanks blanks → is_name name ≡ true → EndsWord number → Among SpellsSigned number z
      → SpellsDirective (codes ".equ") rest (Equ name z)
  cells : {rest : List ℕ} {vs : List PlainValue} → SpellsValues rest vs
      → SpellsDirective (codes ".word") rest (Cells vs)
  space : {rest : List ℕ} {n : ℕ} → Among SpellsNumber rest n → n ≤ 1048576
      → SpellsDirective (codes ".space") rest (Space n)

-- ---- lines

-- what stands behind the labels, with blanks before it: nothing, a directive, or an instruction, which doesn't begin with `.`
pub data SpellsPart : List ℕ → PlainPart → Type 0 where
  nothing : {text : List ℕ} → AreBlanks text → SpellsPart text Nothing
  directive : (blanks : List ℕ) {text word rest : List ℕ} {p : PlainPart}
      → text ≡ blanks ++ (word ++ rest) → AreBlanks blanks → list_all is_word word ≡ true
      → EndsWord rest → SpellsDirective word rest p → SpellsPart text p
  instruction : (blanks : List ℕ) {text rest : List ℕ} {b : ℕ} {ts : List PlainToken}
      → text ≡ blanks ++ (b ∷ rest) → AreBlanks blanks → is_blank b ≡ false → (b == 46) ≡ false
      → SpellsTokens (b ∷ rest) ts → SpellsPart text (Instruction ts)

-- names with `:` directly behind each, and blanks before each
pub data SpellsLabels : List ℕ → List (List ℕ) → Type 0 where
  no_labels : SpellsLabels [] []
  label : (blanks : List ℕ) {text name rest : List ℕ} {ls : List (List ℕ)}
      → text ≡ blanks ++ (name ++ (codes ":" ++ rest)) → AreBlanks blanks → is_name name ≡ true
      → SpellsLabels rest ls → SpellsLabels text (name ∷ ls)

-- a run of word characters with `:` directly behind it comes first
pub record StartsLabel (text : List ℕ) : Type 0 where
  pub blanks : List ℕ
  pub word : List ℕ
  pub rest : List ℕ
  pub is : text ≡ blanks ++ (word ++ (codes ":" ++ rest))
  pub blank : AreBlanks blanks
  pub some : 0 < length word
  pub all : list_all is_word word ≡ true

-- nothing, or `;` and anything
pub data IsComment : List ℕ → Type 0 where
  no_comment : IsComment []
  note : {rest : List ℕ} → IsComment (codes ";" ++ rest)

-- a line: all labels that stand at its front, a text behind them, and a comment
pub record Begins (line : List ℕ) (labels : List (List ℕ)) (behind : List ℕ) : Type 0 where
  pub front : List ℕ
  pub comment : List ℕ
  pub is : line ≡ (front ++ behind) ++ comment
  pub printable : list_all is_line_byte line ≡ true
  pub uncommented : list_all (λ b. not (b == 59)) (front ++ behind) ≡ true
  pub noted : IsComment comment
  pub labelled : SpellsLabels front labels
  pub no_more : StartsLabel behind → ⊥

-- a line with labels and a part
pub record SpellsLine (line : List ℕ) (labels : List (List ℕ)) (part : PlainPart) : Type 0 where
  pub behind : List ℕ
  pub begins : Begins line labels behind
  pub stated : SpellsPart behind part
