-- Lists that stand inside compiled actions, and updates one after another.
use Rattle.std.proofs.Common.{◌≡◌, ℕ, zero, suc, ◌+◌, ◌<◌, List, [], ◌∷◌, length, get_or, refl, ap, ap₂, ◌∙◌, ◌++◌, Bool, true, false, arith}
use Rattle.std.specs.Prelude.{if◌then◌else◌}
use Rattle.std.specs.Global.{Vec}
use mathlib.Core.Former.{Count}
use Rattle.verilog_text.specs.Values.{is_true}
use Rattle.verilog_clock.specs.declared.code.Code.{Code}
use Rattle.verilog_clock.specs.declared.code.Act.{Act, If', Row_of-Act, end_of-Act, more_of-Act, items-the_row-Act, items_hidden-the_row-Act-0}
use Rattle.verilog_clock.specs.declared.code.Act.TheVariants as acts
use Rattle.verilog_clock.specs.declared.code.Update.{Update}
use Rattle.verilog_clock.specs.Compiled.{code_value, act_updates, row_updates, acts_updates, act_most, row_most, acts_most}

abbrev this_row : Act → (n : Count) × Row_of-Act n
this_row (If' test _ row _ other) = (_, row)
this_row _ = (_, end_of-Act)

abbrev other_row : Act → (n : Count) × Row_of-Act n
other_row (If' test _ row _ other) = (_, other)
other_row _ = (_, end_of-Act)

updates_row : (values : List ℕ) (cells : List (List ℕ)) (n : Count) (row : Row_of-Act n) → row_updates values cells row ≡ acts_updates values cells (items-the_row-Act n row)
updates_row values cells n end_of-Act = refl
updates_row values cells n (more_of-Act a rest) = ap (λ (us : List Update). act_updates values cells a ++ us) (updates_row values cells _ rest)

most_row : (n : Count) (row : Row_of-Act n) → row_most row ≡ acts_most (items-the_row-Act n row)
most_row n end_of-Act = refl
most_row n (more_of-Act a rest) = ap (λ (k : ℕ). act_most a + k) (most_row _ rest)

pub act_updates-If : (values : List ℕ) (cells : List (List ℕ)) (test : Code) (v w : Vec Act)
    → act_updates values cells (acts.If test v w) ≡ (if is_true (code_value values cells test) then acts_updates values cells v.items else acts_updates values cells w.items)
act_updates-If values cells test v w =
    let row = this_row (acts.If test v w) in
    let others = other_row (acts.If test v w) in
    ap₂ (λ (xs ys : List Update). if is_true (code_value values cells test) then xs else ys)
    (updates_row values cells row.0 row.1 ∙ ap (acts_updates values cells) (items_hidden-the_row-Act-0 v))
    (updates_row values cells others.0 others.1 ∙ ap (acts_updates values cells) (items_hidden-the_row-Act-0 w))

pub act_most-If : (test : Code) (v w : Vec Act) → act_most (acts.If test v w) ≡ acts_most v.items + acts_most w.items
act_most-If test v w =
    let row = this_row (acts.If test v w) in
    let others = other_row (acts.If test v w) in
    ap₂ (λ (x y : ℕ). x + y) (most_row row.0 row.1 ∙ ap acts_most (items_hidden-the_row-Act-0 v)) (most_row others.0 others.1 ∙ ap acts_most (items_hidden-the_row-Act-0 w))

pub updates-this : (values : List ℕ) (cells : List (List ℕ)) (test : Code) (v w : Vec Act) (act : Act) → act ≡ acts.If test v w → is_true (code_value values cells test) ≡ true
    → act_updates values cells act ≡ acts_updates values cells v.items
updates-this values cells test v w act is so =
    ap (act_updates values cells) is ∙ act_updates-If values cells test v w ∙ ap (λ (b : Bool). if b then acts_updates values cells v.items else acts_updates values cells w.items) so

pub updates-other : (values : List ℕ) (cells : List (List ℕ)) (test : Code) (v w : Vec Act) (act : Act) → act ≡ acts.If test v w → is_true (code_value values cells test) ≡ false
    → act_updates values cells act ≡ acts_updates values cells w.items
updates-other values cells test v w act is so =
    ap (act_updates values cells) is ∙ act_updates-If values cells test v w ∙ ap (λ (b : Bool). if b then acts_updates values cells v.items else acts_updates values cells w.items) so

pub most-either : (test : Code) (v w : Vec Act) (act : Act) → act ≡ acts.If test v w → act_most act ≡ acts_most v.items + acts_most w.items
most-either test v w act is = ap act_most is ∙ act_most-If test v w

-- a measure of actions
abbrev mutual
  pub act_size : Act → ℕ
  act_size (If' test p this q other) = row_size this + row_size other + 1
  act_size _ = 1

  pub row_size : {m : _} → Row_of-Act m → ℕ
  row_size end_of-Act = 0
  row_size (more_of-Act act rest) = act_size act + row_size rest + 1

abbrev pub acts_size : List Act → ℕ
acts_size [] = 0
acts_size (act ∷ rest) = act_size act + acts_size rest + 1

size_row : (n : Count) (row : Row_of-Act n) → row_size row ≡ acts_size (items-the_row-Act n row)
size_row n end_of-Act = refl
size_row n (more_of-Act a rest) = ap (λ (k : ℕ). act_size a + k + 1) (size_row _ rest)

pub size-either : (test : Code) (v w : Vec Act) (act : Act) → act ≡ acts.If test v w → act_size act ≡ acts_size v.items + acts_size w.items + 1
size-either test v w act is =
    let row = this_row (acts.If test v w) in
    let others = other_row (acts.If test v w) in
    ap act_size is ∙ ap₂ (λ (x y : ℕ). x + y + 1) (size_row row.0 row.1 ∙ ap acts_size (items_hidden-the_row-Act-0 v)) (size_row others.0 others.1 ∙ ap acts_size (items_hidden-the_row-Act-0 w))

pub size_at : (all : List Act) (i : ℕ) (act : Act) → i < length all → act ≡ get_or all i act → act_size act < acts_size all
size_at [] i act within is = absurd (omega arith)
size_at (a ∷ rest) zero act within is = omega (arith, ap act_size is)
size_at (a ∷ rest) (suc i) act within is = omega (arith, size_at rest i act (omega arith) is)
