-- What is spelled as actions is read.
use Rattle.std.proofs.Common.{◌≡◌, ℕ, zero, suc, ◌+◌, ◌-◌, ◌<◌, ◌≤◌, Bool, true, false, cond, List, [], ◌∷◌, ◌++◌, length, Option, Some, None, refl, sym, ap, subst, ◌∙◌, append_assoc, arith, max}
use Rattle.lisa_words.specs.Steps.{◌>>=◌}
use Rattle.verilog_text.specs.declared.tokens.VKeyword.TheVariants as words
use Rattle.verilog_text.specs.declared.tokens.VSign.TheVariants as signs
use Rattle.verilog_text.specs.Tokens as tokens
use Rattle.verilog_text.specs.Trees.{v_depth, actions_depth}
use Rattle.verilog_places.specs.Trees as placed
use Rattle.verilog_places.specs.Trees.{PlacedTree, PlacedActions, joined, bare, bare_actions}
use Rattle.verilog_places.specs.Spelling as grammar
use Rattle.verilog_places.specs.Spelling.{PlacedToks, SpellsPlaced, SpellsPlacedAction, SpellsPlacedActions}
use Rattle.verilog_expression_reader.specs.Past.{past_of}
use Rattle.verilog_action_reader.specs.Reading.{Answer, action, within, expr, value_of, set_of, put_of, assign_of, test_of, else_of, if_of, single_of, grouped, next_of, rest_of, within_of, action_of, actions}
use Rattle.verilog_action_reader.specs.Gives.{with_front}
use Rattle.verilog_action_reader.proofs.ExprFacts.{expr_there}
use Rattle.verilog_action_reader.proofs.JoinLaws.{joined_done, joined_depth, front_joined, front_done}
use Rattle.verilog_action_reader.specs.Taken.{not_else}
use Rattle.verilog_action_reader.proofs.ActionEquation.{actions_is, at_within}

-- ---- no action begins with `else`

free_front : {c : Bool} {ts : PlacedToks} {a : PlacedActions} → SpellsPlacedAction c ts a → (rest : PlacedToks) → not_else (ts ++ rest) ≡ true
free_front (grammar.block p q d is) rest = rw is refl
free_front (grammar.set p q r d is) rest = rw is refl
free_front (grammar.put p q r s t d e is) rest = rw is refl
free_front (grammar.when p q r d e is) rest = rw is refl
free_front (grammar.choose p q r s d e f is) rest = rw is refl

all_free : {ts : PlacedToks} {a : PlacedActions} → SpellsPlacedActions ts a → (rest : PlacedToks) → not_else rest ≡ true → not_else (ts ++ rest) ≡ true
all_free (grammar.none is) rest e = rw is e
all_free (grammar.some {xs = xs} {ys = ys} d f is e) rest free = ap (λ (l : PlacedToks). not_else (l ++ rest)) is ∙ ap not_else (append_assoc xs ys rest) ∙ free_front d (ys ++ rest)

else_stops : (test : PlacedTree) (this : PlacedActions) (n : ℕ) (ts : PlacedToks) → not_else ts ≡ true → else_of actions test this n ts ≡ Some (placed.If test this placed.Done placed.Done, ts)
unfolding else_of
else_stops test this n ((at, tokens.Reserved words.Else) ∷ ts) free = absurd cc
else_stops test this n ts free = refl

-- ---- assignments and tests

value_there : (n p : ℕ) (xs rest : PlacedToks) (value : PlacedTree) → SpellsPlaced 0 xs value → v_depth (bare value) ≤ n - 1 → value_of n (xs ++ ((p, tokens.Mark signs.Semicolon) ∷ rest)) ≡ Some (value, rest)
unfolding value_of
value_there n p xs rest value d le =
    ap (λ (z : Option (PlacedTree × PlacedToks)). z >>= λ v. past_of signs.Semicolon v.1 >>= λ rest. Some (v.0, rest)) (expr_there d (n - 1) ((p, tokens.Mark signs.Semicolon) ∷ rest) le (omega arith))

set_there : (n p q r : ℕ) (name : List ℕ) (xs rest : PlacedToks) (value : PlacedTree) → SpellsPlaced 0 xs value → v_depth (bare value) ≤ n - 1
    → single_of actions n ((p, tokens.Named name) ∷ (q, tokens.Mark signs.LessEqual) ∷ (xs ++ ((r, tokens.Mark signs.Semicolon) ∷ rest))) ≡ Some (placed.Set name value placed.Done, rest)
unfolding single_of assign_of set_of
set_there n p q r name xs rest value d le =
    ap (λ (z : Option (PlacedTree × PlacedToks)). z >>= λ v. Some (placed.Set name v.0 placed.Done, v.1)) (value_there n r xs rest value d le)

put_there : (n p q r s t : ℕ) (name : List ℕ) (xs ys rest : PlacedToks) (index value : PlacedTree) → SpellsPlaced 0 xs index → SpellsPlaced 0 ys value → v_depth (bare index) ≤ n - 1 → v_depth (bare value) ≤ n - 1
    → single_of actions n ((p, tokens.Named name) ∷ (q, tokens.Mark signs.OpenSquare) ∷ (xs ++ ((r, tokens.Mark signs.CloseSquare) ∷ (s, tokens.Mark signs.LessEqual) ∷ (ys ++ ((t, tokens.Mark signs.Semicolon) ∷ rest))))) ≡ Some (placed.Put name index value placed.Done, rest)
unfolding single_of assign_of put_of
put_there n p q r s t name xs ys rest index value d e less le =
    ap (λ (z : Option (PlacedTree × PlacedToks)). z >>= λ i. past_of signs.CloseSquare i.1 >>= λ a. past_of signs.LessEqual a >>= λ b. value_of n b >>= λ v. Some (placed.Put name i.0 v.0 placed.Done, v.1))
    (expr_there d (n - 1) ((r, tokens.Mark signs.CloseSquare) ∷ (s, tokens.Mark signs.LessEqual) ∷ (ys ++ ((t, tokens.Mark signs.Semicolon) ∷ rest))) less (omega arith))
    ∙ ap (λ (z : Option (PlacedTree × PlacedToks)). z >>= λ v. Some (placed.Put name index v.0 placed.Done, v.1)) (value_there n t ys rest value e le)

test_there : (n p q : ℕ) (xs rest : PlacedToks) (test : PlacedTree) → SpellsPlaced 0 xs test → v_depth (bare test) ≤ n → test_of n ((p, tokens.Mark signs.OpenRound) ∷ (xs ++ ((q, tokens.Mark signs.CloseRound) ∷ rest))) ≡ Some (test, rest)
unfolding test_of
test_there n p q xs rest test d le =
    ap (λ (z : Option (PlacedTree × PlacedToks)). z >>= λ e. past_of signs.CloseRound e.1 >>= λ rest. Some (e.0, rest)) (expr_there d n ((q, tokens.Mark signs.CloseRound) ∷ rest) le (omega arith))

-- ---- what is read alone is read in a block

single_of_action : (n : ℕ) (us : PlacedToks) (x : PlacedActions × PlacedToks) → single_of actions n us ≡ Some x → action_of actions n us ≡ Some x
unfolding action_of single_of
single_of_action n ((at, tokens.Reserved words.Begin) ∷ us) x e = absurd cc
single_of_action n us x e = e

single_alone : (n : ℕ) (us rest : PlacedToks) (a : PlacedActions) → single_of actions n us ≡ Some (a, rest) → actions (action n us) ≡ Some (a, rest)
single_alone n us rest a e = actions_is (action n us) ∙ single_of_action n us (a, rest) e

single_first : (k n : ℕ) (us : PlacedToks) (x : PlacedActions × PlacedToks) → single_of actions n us ≡ Some x → rest_of actions n (grouped (suc k) us) ≡ next_of actions (suc k) n us
unfolding single_of
single_first k n ((at, tokens.Reserved words.Begin) ∷ us) x e = absurd cc
single_first k n ((at, tokens.Reserved words.End) ∷ us) x e = absurd cc
single_first k n us x e = refl

single_inside : (k n : ℕ) (us rest : PlacedToks) (a : PlacedActions) → single_of actions n us ≡ Some (a, rest) → actions (within (suc k) n us) ≡ with_front a (actions (within (suc k) n rest))
unfolding next_of
single_inside k n us rest a e = at_within (suc k) n us ∙ single_first k n us (a, rest) e ∙ ap (λ (z : Answer). z >>= λ first. actions (within (suc k) n first.1) >>= λ all. Some (joined first.0 all.0, all.1)) e

pub record Completes (c : Bool) (ts : PlacedToks) (a : PlacedActions) : Type 0 where
  pub alone : (n : ℕ) (rest : PlacedToks) → actions_depth (bare_actions a) ≤ n → (c ≡ false → not_else rest ≡ true) → actions (action n (ts ++ rest)) ≡ Some (a, rest)
  pub inside : (k n : ℕ) (rest : PlacedToks) → actions_depth (bare_actions a) ≤ n → (c ≡ false → not_else rest ≡ true) → actions (within (suc k) n (ts ++ rest)) ≡ with_front a (actions (within (suc k) n rest))

from_single : (c : Bool) (ts : PlacedToks) (a : PlacedActions) → ((n : ℕ) (rest : PlacedToks) → actions_depth (bare_actions a) ≤ n → (c ≡ false → not_else rest ≡ true) → single_of actions n (ts ++ rest) ≡ Some (a, rest)) → Completes c ts a
from_single c ts a single = record {
  alone = λ n rest deep free. single_alone n (ts ++ rest) rest a (single n rest deep free);
  inside = λ k n rest deep free. single_inside k n (ts ++ rest) rest a (single n rest deep free);
}

mutual
  unfolding single_of if_of else_of action_of

  pub complete : {c : Bool} {ts : PlacedToks} {a : PlacedActions} → SpellsPlacedAction c ts a → Completes c ts a
  complete (grammar.block p q {ts = ts} {xs = xs} {all = all} d is) =
      let regrouped : (rest : PlacedToks) → ts ++ rest ≡ (p, tokens.Reserved words.Begin) ∷ (xs ++ ((q, tokens.Reserved words.End) ∷ rest)) = λ rest. ap (λ (l : PlacedToks). l ++ rest) is ∙ ap (λ (l : PlacedToks). (p, tokens.Reserved words.Begin) ∷ l) (append_assoc xs ((q, tokens.Reserved words.End) ∷ []) rest) in
      record {
        alone = λ n rest deep free.
            ap (λ (l : PlacedToks). actions (action n l)) (regrouped rest) ∙ actions_is (action n ((p, tokens.Reserved words.Begin) ∷ (xs ++ ((q, tokens.Reserved words.End) ∷ rest))))
            ∙ complete_all d zero n ((q, tokens.Reserved words.End) ∷ rest) deep refl ∙ ap (with_front all) (at_within 1 n ((q, tokens.Reserved words.End) ∷ rest))
            ∙ ap (λ (b : PlacedActions). Some (b, rest)) (joined_done all);
        inside = λ k n rest deep free.
            ap (λ (l : PlacedToks). actions (within (suc k) n l)) (regrouped rest) ∙ at_within (suc k) n ((p, tokens.Reserved words.Begin) ∷ (xs ++ ((q, tokens.Reserved words.End) ∷ rest)))
            ∙ sym (at_within (suc (suc k)) n (xs ++ ((q, tokens.Reserved words.End) ∷ rest))) ∙ complete_all d (suc k) n ((q, tokens.Reserved words.End) ∷ rest) deep refl
            ∙ ap (with_front all) (at_within (suc (suc k)) n ((q, tokens.Reserved words.End) ∷ rest) ∙ sym (at_within (suc k) n rest));
      }
  complete (grammar.set p q r {name = name} {ts = ts} {xs = xs} {value = value} d is) = from_single true ts (placed.Set name value placed.Done) (λ n rest deep free.
      ap (λ (l : PlacedToks). single_of actions n (l ++ rest)) is ∙ ap (λ (l : PlacedToks). single_of actions n ((p, tokens.Named name) ∷ (q, tokens.Mark signs.LessEqual) ∷ l)) (append_assoc xs ((r, tokens.Mark signs.Semicolon) ∷ []) rest)
      ∙ set_there n p q r name xs rest value d (omega arith))
  complete (grammar.put p q r s t {name = name} {ts = ts} {xs = xs} {ys = ys} {index = index} {value = value} d e is) = from_single true ts (placed.Put name index value placed.Done) (λ n rest deep free.
      ap (λ (l : PlacedToks). single_of actions n (l ++ rest)) is
      ∙ ap (λ (l : PlacedToks). single_of actions n ((p, tokens.Named name) ∷ (q, tokens.Mark signs.OpenSquare) ∷ l)) (append_assoc xs ((r, tokens.Mark signs.CloseSquare) ∷ (s, tokens.Mark signs.LessEqual) ∷ (ys ++ (t, tokens.Mark signs.Semicolon) ∷ [])) rest
      ∙ ap (λ (l : PlacedToks). xs ++ ((r, tokens.Mark signs.CloseSquare) ∷ (s, tokens.Mark signs.LessEqual) ∷ l)) (append_assoc ys ((t, tokens.Mark signs.Semicolon) ∷ []) rest))
      ∙ put_there n p q r s t name xs ys rest index value d e (omega arith) (omega arith))
  complete (grammar.when p q r {ts = ts} {xs = xs} {ys = ys} {test = test} {this = this} d f is) = from_single false ts (placed.If test this placed.Done placed.Done) (λ n rest deep free.
      let c = complete f in
      ap (λ (l : PlacedToks). single_of actions n (l ++ rest)) is ∙ ap (λ (l : PlacedToks). single_of actions n ((p, tokens.Reserved words.If) ∷ (q, tokens.Mark signs.OpenRound) ∷ l)) (append_assoc xs ((r, tokens.Mark signs.CloseRound) ∷ ys) rest)
      ∙ ap (λ (z : Option (PlacedTree × PlacedToks)). z >>= λ test. actions (action (n - 1) test.1) >>= λ this. else_of actions test.0 this.0 n this.1) (test_there (n - 1) q r xs (ys ++ rest) test d (omega arith))
      ∙ ap (λ (z : Answer). z >>= λ this. else_of actions test this.0 n this.1) (c.alone (n - 1) rest (omega arith) (λ _. free refl))
      ∙ else_stops test this n rest (free refl))
  complete (grammar.choose p q r s {closed = closed} {ts = ts} {xs = xs} {ys = ys} {zs = zs} {test = test} {this = this} {other = other} d f g is) = from_single closed ts (placed.If test this other placed.Done) (λ n rest deep free.
      let c = complete f in
      let o = complete g in
      let tail : PlacedToks = (s, tokens.Reserved words.Else) ∷ (zs ++ rest) in
      ap (λ (l : PlacedToks). single_of actions n (l ++ rest)) is
      ∙ ap (λ (l : PlacedToks). single_of actions n ((p, tokens.Reserved words.If) ∷ (q, tokens.Mark signs.OpenRound) ∷ l)) (append_assoc xs ((r, tokens.Mark signs.CloseRound) ∷ (ys ++ ((s, tokens.Reserved words.Else) ∷ zs))) rest
      ∙ ap (λ (l : PlacedToks). xs ++ ((r, tokens.Mark signs.CloseRound) ∷ l)) (append_assoc ys ((s, tokens.Reserved words.Else) ∷ zs) rest))
      ∙ ap (λ (z : Option (PlacedTree × PlacedToks)). z >>= λ test. actions (action (n - 1) test.1) >>= λ this. else_of actions test.0 this.0 n this.1) (test_there (n - 1) q r xs (ys ++ tail) test d (omega arith))
      ∙ ap (λ (z : Answer). z >>= λ this. else_of actions test this.0 n this.1) (c.alone (n - 1) tail (omega arith) (λ h. absurd cc))
      ∙ ap (λ (z : Answer). z >>= λ other. Some (placed.If test this other.0 placed.Done, other.1)) (o.alone (n - 1) rest (omega arith) free))

  pub complete_all : {ts : PlacedToks} {a : PlacedActions} → SpellsPlacedActions ts a → (k n : ℕ) (rest : PlacedToks) → actions_depth (bare_actions a) ≤ n → not_else rest ≡ true → actions (within (suc k) n (ts ++ rest)) ≡ with_front a (actions (within (suc k) n rest))
  complete_all (grammar.none is) k n rest deep free = ap (λ (l : PlacedToks). actions (within (suc k) n (l ++ rest))) is ∙ sym (front_done (actions (within (suc k) n rest)))
  complete_all (grammar.some {xs = xs} {ys = ys} {first = first} {rest = more} {all = all} d f is e) k n rest deep free =
      let c = complete d in
      let depths : actions_depth (bare_actions all) ≡ max (actions_depth (bare_actions first)) (actions_depth (bare_actions more)) = ap (λ (b : PlacedActions). actions_depth (bare_actions b)) e ∙ joined_depth first more in
      ap (λ (l : PlacedToks). actions (within (suc k) n (l ++ rest))) is ∙ ap (λ (l : PlacedToks). actions (within (suc k) n l)) (append_assoc xs ys rest)
      ∙ c.inside k n (ys ++ rest) (omega arith) (λ _. all_free f rest free)
      ∙ ap (with_front first) (complete_all f k n rest (omega arith) free)
      ∙ sym (front_joined first more (actions (within (suc k) n rest)))
      ∙ ap (λ (b : PlacedActions). with_front b (actions (within (suc k) n rest))) (sym e)
