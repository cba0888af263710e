-- Reading actions meets its equation.
use Rattle.std.proofs.Common.{◌≡◌, ℕ, zero, suc, ◌+◌, ◌-◌, ◌<◌, ◌≤◌, Bool, true, false, cond, ltb, List, [], ◌∷◌, ◌++◌, length, Option, Some, None, refl, sym, ap, subst, ◌∙◌, arith}
use Rattle.std.proofs.lemmas.Bool.{lt-ltb}
use Rattle.std.proofs.lemmas.List.{length-append}
use Rattle.lisa_words.specs.Fix.{guarded, fix}
use Rattle.lisa_words.specs.Steps.{◌>>=◌}
use Rattle.lisa_words.proofs.Fixed.{fix_is}
use Rattle.lisa_words.proofs.StepLaws.{bind_same}
use Rattle.verilog_text.specs.declared.tokens.VKeyword.TheVariants as words
use Rattle.verilog_text.specs.declared.tokens.VSign.TheVariants as signs
use Rattle.verilog_text.specs.Tokens as tokens
use Rattle.verilog_places.specs.Trees as placed
use Rattle.verilog_places.specs.Trees.{PlacedTree, PlacedActions, joined}
use Rattle.verilog_places.specs.Spelling.{PlacedToks}
use Rattle.verilog_action_reader.specs.Reading.{Want, Action, Within, Task, Answer, Reader, action, within, test_of, else_of, if_of, single_of, grouped, next_of, rest_of, within_of, action_of, step, size, actions}
use Rattle.verilog_action_reader.proofs.ActionSound.{actions_sound, single_sound, taken_shorter, test_sound}

test_shorter : (n : ℕ) (ts : PlacedToks) (x : PlacedTree × PlacedToks) → test_of n ts ≡ Some x → length x.1 < length ts
test_shorter n ts x e = let t = test_sound n ts x e in omega (arith, length-append t.inner ((t.close_at, tokens.Mark signs.CloseRound) ∷ x.1), ap length t.parts)

action_shorter : (n : ℕ) (ts : PlacedToks) (x : PlacedActions × PlacedToks) → actions (action n ts) ≡ Some x → length x.1 < length ts
action_shorter n ts x e = taken_shorter n ts x (actions_sound (action n ts) x e)

pub single_shorter : (n : ℕ) (ts : PlacedToks) (x : PlacedActions × PlacedToks) → single_of actions n ts ≡ Some x → length x.1 < length ts
single_shorter n ts x e = taken_shorter n ts x (single_sound actions actions_sound n ts x e)

abbrev IsBelow : ℕ → Reader → Type 0
IsBelow k rec = (v : Task) → size v < k → rec v ≡ actions v

module _ (rec : Reader) (m : ℕ) (below : IsBelow m rec) where
  else_same : (test : PlacedTree) (this : PlacedActions) (n : ℕ) (ts : PlacedToks) → length ts < m → else_of rec test this n ts ≡ else_of actions test this n ts
  unfolding else_of
  else_same test this n ((at, tokens.Reserved words.Else) ∷ ts) le = ap (λ (z : Answer). z >>= λ other. Some (placed.If test this other.0 placed.Done, other.1)) (below (action (n - 1) ts) (omega arith))
  else_same test this n ts le = refl

  if_same : (n : ℕ) (ts : PlacedToks) → length ts < m → if_of rec n ts ≡ if_of actions n ts
  unfolding if_of
  if_same n ts le =
      bind_same (test_of (n - 1) ts) (λ test. rec (action (n - 1) test.1) >>= λ this. else_of rec test.0 this.0 n this.1) (λ test. actions (action (n - 1) test.1) >>= λ this. else_of actions test.0 this.0 n this.1) (λ e q.
      let fewer : length e.1 < length ts = test_shorter (n - 1) ts e q in
      ap (λ (z : Answer). z >>= λ this. else_of rec e.0 this.0 n this.1) (below (action (n - 1) e.1) (omega arith))
      ∙ bind_same (actions (action (n - 1) e.1)) (λ this. else_of rec e.0 this.0 n this.1) (λ this. else_of actions e.0 this.0 n this.1) (λ s r. else_same e.0 s.0 n s.1 (omega (arith, action_shorter (n - 1) e.1 s r))))

  single_same : (n : ℕ) (ts : PlacedToks) → length ts ≤ m → single_of rec n ts ≡ single_of actions n ts
  unfolding single_of
  single_same n ((at, tokens.Reserved words.If) ∷ ts) le = if_same n ts (omega arith)
  single_same n _ le = refl

  next_same : (k n : ℕ) (ts : PlacedToks) → length ts ≤ m → next_of rec k n ts ≡ next_of actions k n ts
  unfolding next_of
  next_same k n ts le =
      ap (λ (z : Answer). z >>= λ first. rec (within k n first.1) >>= λ all. Some (joined first.0 all.0, all.1)) (single_same n ts le)
      ∙ bind_same (single_of actions n ts) (λ first. rec (within k n first.1) >>= λ all. Some (joined first.0 all.0, all.1)) (λ first. actions (within k n first.1) >>= λ all. Some (joined first.0 all.0, all.1)) (λ first e.
      ap (λ (z : Answer). z >>= λ all. Some (joined first.0 all.0, all.1)) (below (within k n first.1) (omega (arith, single_shorter n ts first e))))

  rest_same : (n k : ℕ) (ts : PlacedToks) → length ts ≤ m → rest_of rec n (grouped k ts) ≡ rest_of actions n (grouped k ts)
  rest_same n zero ts le = refl
  rest_same n (suc k) ((at, tokens.Reserved words.Begin) ∷ ts) le = rest_same n (suc (suc k)) ts (omega arith)
  rest_same n (suc k) ((at, tokens.Reserved words.End) ∷ ts) le = rest_same n k ts (omega arith)
  rest_same n (suc k) ts le = next_same (suc k) n ts le

  within_same : (n k : ℕ) (ts : PlacedToks) → length ts ≤ m → within_of rec k n ts ≡ within_of actions k n ts
  unfolding within_of
  within_same n k ts le = rest_same n k ts le

  action_same : (n : ℕ) (ts : PlacedToks) → length ts ≤ m → action_of rec n ts ≡ action_of actions n ts
  unfolding action_of
  action_same n ((at, tokens.Reserved words.Begin) ∷ ts) le = below (within 1 n ts) (omega arith)
  action_same n ts le = single_same n ts le

pub actions_is : (t : Task) → actions t ≡ step actions t
unfolding actions
actions_is t = fix_is size None step t ∙ go t.want t.budget t.tokens
  where
    below : (t : Task) → IsBelow (size t) (guarded size None actions t)
    below t v less = rw (lt-ltb (size v) (size t) less) refl

    go : (w : Want) (n : ℕ) (ts : PlacedToks) → step (guarded size None actions (record { want = w; budget = n; tokens = ts })) (record { want = w; budget = n; tokens = ts }) ≡ step actions (record { want = w; budget = n; tokens = ts })
    go Action n ts = action_same (guarded size None actions (action n ts)) (length ts) (below (action n ts)) n ts (omega arith)
    go (Within k) n ts = within_same (guarded size None actions (within k n ts)) (length ts) (below (within k n ts)) n k ts (omega arith)

pub at_within : (k n : ℕ) (ts : PlacedToks) → actions (within k n ts) ≡ rest_of actions n (grouped k ts)
unfolding within_of
at_within k n ts = actions_is (within k n ts)
