-- Reading actions from left to right. `begin` and `end` only group: the actions up to the `end`s of all open blocks are one list.
use Rattle.std.specs.Prelude.{ℕ, zero, suc, ◌-◌, List, [], ◌∷◌, length, Option, Some, None}
use Rattle.lisa_words.specs.Fix.{fix}
use Rattle.lisa_words.specs.Steps.{◌>>=◌}
use Rattle.verilog_text.specs.declared.tokens.VKeyword.TheVariants as words
use Rattle.verilog_text.specs.declared.tokens.VSign.TheVariants as signs
use Rattle.verilog_text.specs.Tokens as tokens
use Rattle.verilog_places.specs.Spelling.{PlacedToks}
use Rattle.verilog_places.specs.Trees as placed
use Rattle.verilog_places.specs.Trees.{PlacedTree, PlacedActions}
use Rattle.verilog_expression_reader.specs.Past.{past_of}
use Rattle.verilog_expression_reader.specs.Reading.{whole, reads}

-- an action, or the actions up to the `end`s of so many open blocks
pub data Want : Type 0 where
  Action : Want
  Within : ℕ → Want

-- what is wanted, how deep it may be, and the tokens from there on
pub record Task : Type 0 where
  pub want : Want
  pub budget : ℕ
  pub tokens : PlacedToks

-- the actions and the tokens behind them
abbrev pub Answer : Type 0
Answer = Option (PlacedActions × PlacedToks)

abbrev pub Reader : Type 0
Reader = Task → Answer

abbrev pub action : ℕ → PlacedToks → Task
action n ts = record { want = Action; budget = n; tokens = ts }

abbrev pub within : (open_blocks : ℕ) → ℕ → PlacedToks → Task
within open_blocks n ts = record { want = Within open_blocks; budget = n; tokens = ts }

-- an expression
abbrev pub expr : ℕ → PlacedToks → Option (PlacedTree × PlacedToks)
expr n ts = reads (whole n ts)

-- a name
abbrev pub name_of : PlacedToks → Option (List ℕ × PlacedToks)
name_of ((at, tokens.Named name) ∷ ts) = Some (name, ts)
name_of _ = None

-- `e ;`
unfoldable pub value_of : ℕ → PlacedToks → Option (PlacedTree × PlacedToks)
value_of n ts = expr (n - 1) ts >>= λ v. past_of signs.Semicolon v.1 >>= λ rest. Some (v.0, rest)

-- behind a name
unfoldable pub set_of : List ℕ → ℕ → PlacedToks → Answer
set_of name n ts = past_of signs.LessEqual ts >>= λ a. value_of n a >>= λ v. Some (placed.Set name v.0 placed.Done, v.1)

-- behind `name [`
unfoldable pub put_of : List ℕ → ℕ → PlacedToks → Answer
put_of name n ts =
    expr (n - 1) ts >>= λ i. past_of signs.CloseSquare i.1 >>= λ a. past_of signs.LessEqual a >>= λ b. value_of n b >>= λ v. Some (placed.Put name i.0 v.0 placed.Done, v.1)

unfoldable pub assign_of : List ℕ → ℕ → PlacedToks → Answer
assign_of name n ((at, tokens.Mark signs.OpenSquare) ∷ ts) = put_of name n ts
assign_of name n ts = set_of name n ts

-- `( e )`
unfoldable pub test_of : ℕ → PlacedToks → Option (PlacedTree × PlacedToks)
test_of n ts = past_of signs.OpenRound ts >>= λ a. expr n a >>= λ e. past_of signs.CloseRound e.1 >>= λ rest. Some (e.0, rest)

-- the tokens behind an `else`
abbrev pub behind_else : PlacedToks → Option PlacedToks
behind_else ((at, tokens.Reserved words.Else) ∷ ts) = Some ts
behind_else _ = None

-- behind an `if` and its action: an `else` belongs to it
unfoldable pub else_of : Reader → PlacedTree → PlacedActions → ℕ → PlacedToks → Answer
else_of rec test this n ((at, tokens.Reserved words.Else) ∷ ts) = rec (action (n - 1) ts) >>= λ other. Some (placed.If test this other.0 placed.Done, other.1)
else_of rec test this n ts = Some (placed.If test this placed.Done placed.Done, ts)

-- behind `if`
unfoldable pub if_of : Reader → ℕ → PlacedToks → Answer
if_of rec n ts = test_of (n - 1) ts >>= λ test. rec (action (n - 1) test.1) >>= λ this. else_of rec test.0 this.0 n this.1

-- an action that doesn't begin with `begin`
unfoldable pub single_of : Reader → ℕ → PlacedToks → Answer
single_of rec n ((at, tokens.Named name) ∷ ts) = assign_of name n ts
single_of rec n ((at, tokens.Reserved words.If) ∷ ts) = if_of rec n ts
single_of rec n _ = None

-- what a `begin` or `end` at the front makes of so many open blocks, and the tokens behind it
abbrev pub group_of : (open_blocks : ℕ) → PlacedToks → Option (ℕ × PlacedToks)
group_of zero ts = None
group_of (suc more) ((at, tokens.Reserved words.Begin) ∷ ts) = Some (suc (suc more), ts)
group_of (suc more) ((at, tokens.Reserved words.End) ∷ ts) = Some (more, ts)
group_of (suc more) ts = None

-- the words `begin` and `end` at the front, up to the end of all blocks: how many blocks are open behind them, and the tokens there
abbrev pub grouped : (open_blocks : ℕ) → PlacedToks → ℕ × PlacedToks
grouped zero ts = (zero, ts)
grouped (suc more) ((at, tokens.Reserved words.Begin) ∷ ts) = grouped (suc (suc more)) ts
grouped (suc more) ((at, tokens.Reserved words.End) ∷ ts) = grouped more ts
grouped (suc more) ts = (suc more, ts)

-- an action, and the others up to the `end`s
unfoldable pub next_of : Reader → (open_blocks : ℕ) → ℕ → PlacedToks → Answer
next_of rec open_blocks n ts = single_of rec n ts >>= λ first. rec (within open_blocks n first.1) >>= λ all. Some (placed.joined first.0 all.0, all.1)

abbrev pub rest_of : Reader → ℕ → ℕ × PlacedToks → Answer
rest_of rec n (zero, ts) = Some (placed.Done, ts)
rest_of rec n (suc more, ts) = next_of rec (suc more) n ts

unfoldable pub within_of : Reader → (open_blocks : ℕ) → ℕ → PlacedToks → Answer
within_of rec open_blocks n ts = rest_of rec n (grouped open_blocks ts)

unfoldable pub action_of : Reader → ℕ → PlacedToks → Answer
action_of rec n ((at, tokens.Reserved words.Begin) ∷ ts) = rec (within 1 n ts)
action_of rec n ts = single_of rec n ts

abbrev pub want_of : Reader → Want → ℕ → PlacedToks → Answer
want_of rec Action n ts = action_of rec n ts
want_of rec (Within open_blocks) n ts = within_of rec open_blocks n ts

abbrev pub step : Reader → Reader
step rec t = want_of rec t.want t.budget t.tokens

abbrev pub size : Task → ℕ
size t = length t.tokens

unfoldable pub actions : Reader
actions t = fix size None step t
