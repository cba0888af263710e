-- What compiled modules mean.
use Rattle.std.specs.Prelude.{ℕ, ◌+◌, ◌%◌, ◌^◌, List, [], ◌∷◌, ◌++◌, map, fold, not, slice_index, slice_index_or, slice_set, if◌then◌else◌}
use Rattle.std.specs.Global.{Vec}
use Rattle.lisa_words.specs.Words.{word_not}
use Rattle.lisa_engine.specs.State.{State}
use Rattle.lisa_engine.specs.Touches.{set_cell}
use Rattle.verilog_text.specs.Values.{is_true, truth, operate}
use Rattle.verilog_clock.specs.declared.code.Code.{Code}
use Rattle.verilog_clock.specs.declared.code.Code.TheVariants.{Number, Value, Cell', Complement', Negate', Two', Choose'}
use Rattle.verilog_clock.specs.declared.code.Net.{Net}
use Rattle.verilog_clock.specs.declared.code.Act.{Act, If', Row_of-Act, end_of-Act, more_of-Act}
use Rattle.verilog_clock.specs.declared.code.Act.TheVariants as acts
use Rattle.verilog_clock.specs.declared.code.Update.{Update}
use Rattle.verilog_clock.specs.declared.code.Update.TheVariants as changes

-- the cells of arrays
abbrev pub rows : List (Vec ℕ) → List (List ℕ)
rows cells = map (λ (c : Vec ℕ). c.items) cells

-- the value of an expression, where the places have these values and the arrays these cells
abbrev pub code_value : List ℕ → List (List ℕ) → Code → ℕ
code_value values cells (Number value) = value
code_value values cells (Value place) = slice_index values place
code_value values cells (Cell' array p index) = slice_index (slice_index_or cells array []) (code_value values cells index)
code_value values cells (Complement' length p a) = word_not length.bits (code_value values cells a)
code_value values cells (Negate' p a) = truth (not (is_true (code_value values cells a)))
code_value values cells (Two' operator length p a q b) = operate operator length.bits (code_value values cells a) (code_value values cells b)
code_value values cells (Choose' p test q this r other) = if is_true (code_value values cells test) then code_value values cells this else code_value values cells other

-- the values with those of the wires behind them
abbrev pub nets_values : List (List ℕ) → List ℕ → List Net → List ℕ
nets_values cells values [] = values
nets_values cells values (net ∷ rest) = nets_values cells (values ++ (code_value values cells net.value % 2 ^ net.length.bits ∷ [])) rest

abbrev mutual
  -- what an action is to write
  pub act_updates : List ℕ → List (List ℕ) → Act → List Update
  act_updates values cells (acts.Set place length value) = changes.Item place (code_value values cells value % 2 ^ length.bits) ∷ []
  act_updates values cells (acts.Put array index length value) = changes.Cell array (code_value values cells index) (code_value values cells value % 2 ^ length.bits) ∷ []
  act_updates values cells (If' test p this q other) = if is_true (code_value values cells test) then row_updates values cells this else row_updates values cells other

  pub row_updates : {m : _} → List ℕ → List (List ℕ) → Row_of-Act m → List Update
  row_updates values cells end_of-Act = []
  row_updates values cells (more_of-Act act rest) = act_updates values cells act ++ row_updates values cells rest

abbrev pub acts_updates : List ℕ → List (List ℕ) → List Act → List Update
acts_updates values cells [] = []
acts_updates values cells (act ∷ rest) = act_updates values cells act ++ acts_updates values cells rest

abbrev mutual
  -- the most updates that an action gives
  pub act_most : Act → ℕ
  act_most (acts.Set place length value) = 1
  act_most (acts.Put array index length value) = 1
  act_most (If' test p this q other) = row_most this + row_most other

  pub row_most : {m : _} → Row_of-Act m → ℕ
  row_most end_of-Act = 0
  row_most (more_of-Act act rest) = act_most act + row_most rest

abbrev pub acts_most : List Act → ℕ
acts_most [] = 0
acts_most (act ∷ rest) = act_most act + acts_most rest

-- the state once an update is made
abbrev pub applied : State → Update → State
applied state (changes.Item place value) = record { items = slice_set state.items place value; cells = state.cells }
applied state (changes.Cell array index value) = record { items = state.items; cells = set_cell state.cells array index value }

abbrev pub code_updates : List Net → List Act → State → List ℕ → List Update
code_updates nets all state pins = acts_updates (nets_values state.cells (state.items ++ pins) nets) state.cells all

abbrev pub code_edge : List Net → List Act → State → List ℕ → State
code_edge nets all state pins = fold applied state (code_updates nets all state pins)
