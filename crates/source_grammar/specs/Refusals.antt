-- Why a line spells nothing.
use Rattle.std.specs.Prelude.{ℕ, ◌≡◌, ◌≢◌, Bool, true, false, List, ◌∷◌, ◌++◌, codes, ◌==◌, not}
use Rattle.std.specs.List.{list_all}
use Rattle.asm_source.specs.Bytes.{is_blank, is_word, front_is}
use Rattle.asm_source.specs.Plain.{PlainSum, PlainToken, PlainValue, PlainPart}
use Rattle.source_grammar.specs.Grammar.{AreBlanks, EndsWord, Among, SpellsSum, SpellsToken, SpellsValue, Begins, SpellsLine}

-- what stands behind an `@` begins with no operand, or a word character follows directly behind it
abbrev pub NoSum : List ℕ → Type 0
NoSum text = (word rest : List ℕ) (s : PlainSum) → text ≡ word ++ rest → SpellsSum word s → EndsWord rest → ⊥

-- tokens, and then an `@` with no operand behind it
pub data BreaksTokens : List ℕ → Type 0 where
  broken_here : (blanks word : List ℕ) {text rest : List ℕ}
      → text ≡ blanks ++ (word ++ (codes "@" ++ rest)) → AreBlanks blanks
      → list_all is_word word ≡ true → NoSum rest → BreaksTokens text
  broken_behind : (blanks : List ℕ) {text word rest : List ℕ} {t : PlainToken}
      → text ≡ blanks ++ (word ++ rest) → AreBlanks blanks → SpellsToken word t rest
      → BreaksTokens rest → BreaksTokens text

-- in place of a value an `@` with no operand behind it
pub record BreaksValue (text : List ℕ) : Type 0 where
  pub blanks : List ℕ
  pub rest : List ℕ
  pub is : text ≡ blanks ++ (codes "@" ++ rest)
  pub blank : AreBlanks blanks
  pub no_sum : NoSum rest
  pub no_comma : list_all (λ b. not (b == 44)) text ≡ true

-- one or more values or such texts, with commas between them, and whether there is such a text
pub data SpellsMixed : Bool → List ℕ → Type 0 where
  good_last : {text : List ℕ} {v : PlainValue} → Among SpellsValue text v → SpellsMixed false text
  broken_last : {text : List ℕ} → BreaksValue text → SpellsMixed true text
  good_first : {broken : Bool} {text first rest : List ℕ} {v : PlainValue}
      → text ≡ first ++ (codes "," ++ rest) → Among SpellsValue first v → SpellsMixed broken rest
      → SpellsMixed broken text
  broken_first : (broken : Bool) {text first rest : List ℕ} → text ≡ first ++ (codes "," ++ rest)
      → BreaksValue first → SpellsMixed broken rest → SpellsMixed true text

-- behind the labels an instruction, or a `.word`, with a bad expression in it and else of its form
pub data BreaksPart : List ℕ → Type 0 where
  broken_instruction : (blanks : List ℕ) {text rest : List ℕ} {b : ℕ} → text ≡ blanks ++ (b ∷ rest)
      → AreBlanks blanks → is_blank b ≡ false → (b == 46) ≡ false → BreaksTokens (b ∷ rest)
      → BreaksPart text
  broken_cells : (blanks : List ℕ) {text rest : List ℕ} → text ≡ blanks ++ (codes ".word" ++ rest)
      → AreBlanks blanks → EndsWord rest → SpellsMixed true rest → BreaksPart text

-- behind the labels a word that begins with `.` and is no directive
pub record UnknownPart (text : List ℕ) : Type 0 where
  pub blanks : List ℕ
  pub word : List ℕ
  pub rest : List ℕ
  pub is : text ≡ blanks ++ (word ++ rest)
  pub blank : AreBlanks blanks
  pub all : list_all is_word word ≡ true
  pub ends : EndsWord rest
  pub dot : front_is (λ b. b == 46) word ≡ true
  pub no_section : word ≢ codes ".section"
  pub no_global : word ≢ codes ".global"
  pub no_equ : word ≢ codes ".equ"
  pub no_word : word ≢ codes ".word"
  pub no_space : word ≢ codes ".space"

-- a line of which this is so behind its labels
pub record IsBehind (Breaks : List ℕ → Type 0) (line : List ℕ) : Type 0 where
  pub labels : List (List ℕ)
  pub behind : List ℕ
  pub begins : Begins line labels behind
  pub breaks : Breaks behind

abbrev pub HasUnknownDirective : List ℕ → Type 0
HasUnknownDirective line = IsBehind UnknownPart line

abbrev pub HasBadExpression : List ℕ → Type 0
HasBadExpression line = IsBehind BreaksPart line

-- a line that spells nothing, for neither of these reasons
pub record IsBadLine (line : List ℕ) : Type 0 where
  pub no_spelling : (labels : List (List ℕ)) (part : PlainPart) → SpellsLine line labels part → ⊥
  pub no_unknown : HasUnknownDirective line → ⊥
  pub no_bad_expression : HasBadExpression line → ⊥
