-- Reading the items of an activation from left to right.
use Rattle.std.specs.Prelude.{ℕ, zero, suc, ◌-◌, Bool, true, false, ◌∷◌, length, Option, Some, None, if◌then◌else◌}
use Rattle.lisa_tree.specs.declared.tokens.Keyword.TheVariants as keywords
use Rattle.lisa_tree.specs.declared.tokens.Sign.TheVariants as signs
use Rattle.lisa_tree.specs.declared.tokens.TokenPart.TheVariants as parts
use Rattle.lisa_tree.specs.Expressions.{ExprTree}
use Rattle.lisa_tree.specs.Activations as activations
use Rattle.lisa_tree.specs.Activations.{ActTree, ActTrees}
use Rattle.lisa_tree.specs.Grammar.{Toks}
use Rattle.lisa_words.specs.FixEach.{fix_each}
use Rattle.lisa_words.specs.Steps.{◌>>=◌}
use Rattle.lisa_behav_reader.specs.Past.{past_of}
use Rattle.lisa_behav_reader.specs.Places.{closes_block}
use Rattle.lisa_behav_reader.specs.StmtReading.{test_of}

-- an item, or the items that follow one behind commas
pub data Want : Type 0 where
  One : Want
  More : Want

pub record Task : Type 0 where
  pub want : Want
  pub budget : ℕ
  pub tokens : Toks

abbrev pub Kind : Want → Type 0
Kind One = ActTree
Kind More = ActTrees

abbrev pub Out : Task → Type 0
Out t = Option (Kind t.want × Toks)

abbrev pub one : ℕ → Toks → Task
one n ts = record { want = One; budget = n; tokens = ts }

abbrev pub more : ℕ → Toks → Task
more n ts = record { want = More; budget = n; tokens = ts }

abbrev pub Reader : Type 0
Reader = (t : Task) → Out t

-- an item and the tokens behind it
abbrev pub Answer : Type 0
Answer = Option (ActTree × Toks)

-- items and the tokens behind them
abbrev pub Answers : Type 0
Answers = Option (ActTrees × Toks)

abbrev pub has_comma : Toks → Bool
has_comma (parts.Sign signs.Comma ∷ ts) = true
has_comma _ = false

-- an item that was read, and those that follow it
abbrev pub and_more : Reader → ℕ → Answer → Answers
and_more rec n read = read >>= λ a. rec (more n a.1) >>= λ all. Some (activations.Then a.0 all.0, all.1)

-- one item or more
abbrev pub items_of : Reader → ℕ → Toks → Answers
items_of rec n ts = and_more rec n (rec (one n ts))

-- the items up to a `}`
unfoldable pub all_of : Reader → ℕ → Toks → Answers
all_of rec n ts = if closes_block ts then Some (activations.End, ts) else items_of rec n ts

-- `{ items }`
unfoldable pub braced_of : Reader → ℕ → Toks → Answers
braced_of rec n ts = past_of signs.OpenBrace ts >>= λ a. all_of rec n a >>= λ all. past_of signs.CloseBrace all.1 >>= λ rest. Some (all.0, rest)

-- behind the items that a test chooses
unfoldable pub else_of : Reader → ExprTree → ActTrees → ℕ → Toks → Answer
else_of rec e all n (parts.Reserved keywords.Else ∷ ts) = braced_of rec (n - 1) ts >>= λ others. Some (activations.ChooseElse e all others.0, others.1)
else_of rec e all n ts = Some (activations.Choose e all, ts)

-- behind `if`
unfoldable pub if_of : Reader → ℕ → Toks → Answer
if_of rec n ts = test_of (n - 1) ts >>= λ e. braced_of rec (n - 1) e.1 >>= λ all. else_of rec e.0 all.0 n all.1

unfoldable pub one_of : Reader → ℕ → Toks → Answer
one_of rec zero ts = None
one_of rec (suc n) (parts.Named name ∷ ts) = Some (activations.Start name, ts)
one_of rec (suc n) (parts.Reserved keywords.If ∷ ts) = if_of rec (suc n) ts
one_of rec (suc n) _ = None

-- a comma and an item
unfoldable pub further_of : Reader → ℕ → Toks → Answer
further_of rec n ts = past_of signs.Comma ts >>= λ a. rec (one n a)

unfoldable pub more_of : Reader → ℕ → Toks → Answers
more_of rec n ts = if has_comma ts then and_more rec n (further_of rec n ts) else Some (activations.End, ts)

abbrev pub want_of : Reader → (w : Want) → ℕ → Toks → Option (Kind w × Toks)
want_of rec One n ts = one_of rec n ts
want_of rec More n ts = more_of rec n ts

abbrev pub step : Reader → Reader
step rec t = want_of rec t.want t.budget t.tokens

abbrev pub size : Task → ℕ
size t = length t.tokens

abbrev pub fails : Reader
fails t = None

unfoldable pub acts : Reader
acts t = fix_each {Out = Out} size fails step t

-- the items of an activation of this depth at most, up to a `}`, and the tokens from there on
abbrev pub activation_of : ℕ → Toks → Answers
activation_of n ts = all_of acts n ts
