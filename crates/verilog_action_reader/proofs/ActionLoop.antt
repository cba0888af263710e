-- What the loops over a block keep.
use Rattle.std.proofs.Common.{◌≡◌, ℕ, zero, suc, ◌+◌, ◌-◌, ◌<◌, ◌≤◌, List, [], ◌∷◌, length, Option, Some, None, refl, sym, ap, ◌∙◌, arith}
use Rattle.lisa_words.specs.Steps.{◌>>=◌}
use Rattle.verilog_text.specs.declared.tokens.VKeyword.TheVariants as words
use Rattle.verilog_text.specs.Tokens as tokens
use Rattle.verilog_places.specs.Trees as placed
use Rattle.verilog_places.specs.Trees.{PlacedTree, PlacedActions, joined}
use Rattle.verilog_places.specs.Spelling.{PlacedToks}
use Rattle.verilog_expression_reader.specs.declared.misses.Missed.{Missed}
use Rattle.verilog_expression_reader.specs.declared.misses.Missed.TheVariants as misses
use Rattle.verilog_expression_reader.specs.Gives.{Fails}
use Rattle.lisa_words.proofs.StepLaws.{some_is}
use Rattle.verilog_action_reader.specs.Reading.{Answer, action, within, behind_else, else_of, single_of, group_of, grouped, next_of, rest_of, actions}
use Rattle.verilog_action_reader.specs.Gives.{with_front}
use Rattle.verilog_action_reader.proofs.JoinLaws.{joined_done, front_joined, front_done}
use Rattle.verilog_action_reader.proofs.ActionEquation.{at_within}

pub group_more : (k : ℕ) (ts : PlacedToks) (x : ℕ × PlacedToks) → Some x ≡ group_of k ts → grouped k ts ≡ grouped x.0 x.1
group_more zero ts x e = absurd cc
group_more (suc k) ((at, tokens.Reserved words.Begin) ∷ ts) x e = ap (λ (y : ℕ × PlacedToks). grouped y.0 y.1) (sym (some_is x (suc (suc k), ts) e))
group_more (suc k) ((at, tokens.Reserved words.End) ∷ ts) x e = ap (λ (y : ℕ × PlacedToks). grouped y.0 y.1) (sym (some_is x (k, ts) e))
group_more (suc k) _ x e = absurd cc

pub group_none : (k : ℕ) (ts : PlacedToks) → None ≡ group_of k ts → grouped k ts ≡ (k, ts)
group_none zero ts e = refl
group_none (suc k) ((at, tokens.Reserved words.Begin) ∷ ts) e = absurd cc
group_none (suc k) ((at, tokens.Reserved words.End) ∷ ts) e = absurd cc
group_none (suc k) ts e = refl

-- ---- an `else`

pub else_none : (test : PlacedTree) (this : PlacedActions) (n : ℕ) (ts : PlacedToks) → None ≡ behind_else ts → else_of actions test this n ts ≡ Some (placed.If test this placed.Done placed.Done, ts)
unfolding else_of
else_none test this n ((at, tokens.Reserved words.Else) ∷ ts) e = absurd cc
else_none test this n ts e = refl

pub else_some : (test : PlacedTree) (this : PlacedActions) (n : ℕ) (ts rest : PlacedToks) → Some rest ≡ behind_else ts → else_of actions test this n ts ≡ (actions (action (n - 1) rest) >>= λ other. Some (placed.If test this other.0 placed.Done, other.1))
unfolding else_of
else_some test this n ((at, tokens.Reserved words.Else) ∷ ts) rest e = ap (λ (l : PlacedToks). actions (action (n - 1) l) >>= λ other. Some (placed.If test this other.0 placed.Done, other.1)) (sym (some_is rest ts e))
else_some test this n _ rest e = absurd cc

pub else_fails : (test : PlacedTree) (this : PlacedActions) (n : ℕ) (ts rest : PlacedToks) (e : Missed) → Some rest ≡ behind_else ts → Fails e (actions (action (n - 1) rest)) → Fails e (else_of actions test this n ts)
else_fails test this n ts rest misses.NoMemory is h = tt
else_fails test this n ts rest (misses.At left) is h = else_some test this n ts rest is ∙ ap (λ (z : Answer). z >>= λ other. Some (placed.If test this other.0 placed.Done, other.1)) h

-- ---- the loop over a block

pub starts : (n : ℕ) (ts : PlacedToks) (g : ℕ × PlacedToks) → g ≡ grouped 1 ts → with_front placed.Done (rest_of actions n g) ≡ actions (within 1 n ts)
starts n ts g e = front_done (rest_of actions n g) ∙ ap (rest_of actions n) e ∙ sym (at_within 1 n ts)

regroup : (front a : PlacedActions) (r : Answer) → with_front front (r >>= λ all. Some (joined a all.0, all.1)) ≡ with_front (joined front a) r
regroup front a r = sym (front_joined front a r)

module _ (n : ℕ) (front : PlacedActions) (ts : PlacedToks) (total : Answer) where
  pub goes_on : (k : ℕ) (a : PlacedActions) (after : PlacedToks) (g : ℕ × PlacedToks) → with_front front (rest_of actions n (k, ts)) ≡ total → 0 < k → single_of actions n ts ≡ Some (a, after) → g ≡ grouped k after
      → with_front (joined front a) (rest_of actions n g) ≡ total
  unfolding next_of
  goes_on zero a after g so_far some h e = absurd (omega arith)
  goes_on (suc k) a after g so_far some h e =
      ap (λ (y : ℕ × PlacedToks). with_front (joined front a) (rest_of actions n y)) e ∙ ap (with_front (joined front a)) (sym (at_within (suc k) n after))
      ∙ sym (regroup front a (actions (within (suc k) n after)))
      ∙ ap (λ (z : Answer). with_front front (z >>= λ first. actions (within (suc k) n first.1) >>= λ all. Some (joined first.0 all.0, all.1))) (sym h)
      ∙ so_far

  pub fails_on : (k : ℕ) (e : Missed) → with_front front (rest_of actions n (k, ts)) ≡ total → 0 < k → Fails e (single_of actions n ts) → Fails e total
  unfolding next_of
  fails_on zero e so_far some h = absurd (omega arith)
  fails_on (suc k) misses.NoMemory so_far some h = tt
  fails_on (suc k) (misses.At left) so_far some h = sym so_far ∙ ap (λ (z : Answer). with_front front (z >>= λ first. actions (within (suc k) n first.1) >>= λ all. Some (joined first.0 all.0, all.1))) h

  pub is_done : (k : ℕ) → with_front front (rest_of actions n (k, ts)) ≡ total → k ≡ zero → total ≡ Some (front, ts)
  is_done k so_far e = sym so_far ∙ ap (λ (j : ℕ). with_front front (rest_of actions n (j, ts))) e ∙ ap (λ (all : PlacedActions). Some (all, ts)) (joined_done front)
