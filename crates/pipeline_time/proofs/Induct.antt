-- One induction over what runs: a relation between two moments that is kept by a BEHAVIOR and by what is recorded holds of all the items of a
-- sound tree.
use Rattle.std.proofs.Common.{◌≡◌, ℕ, suc, ◌+◌, ◌<◌, ◌≤◌, Bool, true, cond, ◌||◌, Option, List, [], ◌∷◌, ◌++◌, refl, sym, ap, ap₂, ◌∙◌, subst, arith, nat_eq}
use Rattle.std.specs.List.{filter, fold}
use Rattle.std.proofs.lemmas.Bool.{cond_both, cond-false, eqb-true, eqb-false, false_from_ne_true}
use Rattle.std.proofs.lemmas.List.Sums.{fold-append}
use Rattle.std.proofs.lemmas.List.Elements.{filter-append}
use Rattle.pipeline_time.specs.Acts.{Acts, Done, Act, When, Node, nodes, size}
use Rattle.pipeline_time.specs.Cores.{Core}
use Rattle.pipeline_time.specs.Running.{Running, word_below, own_word, behavior, activate, run, run_occurrence}
use Rattle.pipeline_time.specs.Edges.{run_due}
use Rattle.pipeline_time.proofs.Tree.{IsGood, IsGoodTree}

-- A relation between what was before and after something runs: at a level, under an activator that is the root or past it or is not, with a
-- word, and of occurrences from one number up to another.
pub record IsTracked {R M : Type 0} (core : Core R M) (root : ℕ) (T : ℕ → Bool → ℕ → ℕ → ℕ → Running M → Running M → Type 0) : Type 0 where
  pub same : (here : ℕ) (inside : Bool) (word from to : ℕ) (now : Running M) → T here inside word from to now now
  pub wider : (here : ℕ) (inside : Bool) (word from to from' to' : ℕ) (now after : Running M) → from' ≤ from → to ≤ to' → T here inside word from to now after → T here inside word from' to' now after
  pub both : (here : ℕ) (inside : Bool) (word from middle to : ℕ) (a b c : Running M) → from ≤ middle → middle ≤ to → T here inside word from middle a b → T here inside word middle to b c → T here inside word from to a c
  -- an occurrence: its BEHAVIOR, and then what it runs
  pub node : (node : Node) (inside : Bool) (word to : ℕ) (now after : Running M) → IsGood core root node → (node.past ≡ true → inside ≡ true) → (inside ≡ true → root < node.number) → node.number < to → T node.level (node.past || core.is_root node.number) (own_word core node.number node.past word now) (suc node.number) to (behavior core node.number (own_word core node.number node.past word now) now) after → T node.level inside word node.number to now after
  -- one that is recorded
  pub activated : (node : Node) (inside : Bool) (word : ℕ) (now : Running M) → IsGood core root node → (node.past ≡ true → inside ≡ true) → node.above < node.level → core.chooses node.number word ≡ true → T node.above inside word node.number (suc node.number) now (activate core node.above node.number (word_below node.past word) now)

module _ {R M : Type 0} (core : Core R M) (root : ℕ) (T : ℕ → Bool → ℕ → ℕ → ℕ → Running M → Running M → Type 0) (tracked : IsTracked core root T) where
  pub run_tracked : (here : ℕ) (inside : Bool) (word from : ℕ) (acts : Acts) (now : Running M) → IsGoodTree core root here inside from acts → T here inside word from (from + size acts) now (run core here word acts now)
  run_tracked here inside word from Done now tree = tracked.same here inside word from _ now
  run_tracked here inside word from (Act number level past own rest) now tree =
      let node : Node = record { number = number; above = here; level = level; past = past; own = own } in
      let word' = own_word core number past word now in
      let begun = behavior core number word' now in
      let end = suc (from + size own) in
      let ran = run core here word' own begun in
      let waits = activate core here number (word_below past word) now in
      let middle' = cond (nat_eq level here) ran waits in
      let middle = cond (core.chooses number word) middle' now in
      tracked.wider here inside word from (end + size rest) from (from + suc (size own + size rest)) now (run core here word rest middle) (omega arith) (omega arith)
      (tracked.both here inside word from end (end + size rest) now middle (run core here word rest middle) (omega arith) (omega arith)
      (cond_both (core.chooses number word) middle' now (T here inside word from end now)
      (λ chosen.
      cond_both (nat_eq level here) ran waits (T here inside word from end now)
      (λ is.
      let e : level ≡ here = eqb-true level here is in
      let inside' = past || core.is_root number in
      let inner : T level inside' word' (suc number) end begun ran =
      tracked.wider level inside' word' (suc from) (suc from + size own) (suc number) end begun ran (omega (arith, tree.0)) (omega arith)
      (subst (λ l. T l inside' word' (suc from) (suc from + size own) begun ran) (sym e)
      (run_tracked here inside' word' (suc from) own begun (subst (λ l. IsGoodTree core root l inside' (suc from) own) e tree.4)))
      in
      tracked.wider here inside word number end from end now ran (omega (arith, tree.0)) (omega arith)
      (subst (λ l. T l inside word number end now ran) e
      (tracked.node node inside word end now ran tree.1 tree.2 tree.3 (omega (arith, tree.0)) inner)))
      (λ is.
      let ne : level ≡ here → ⊥ = eqb-false level here is in
      tracked.wider here inside word number (suc number) from end now waits (omega (arith, tree.0)) (omega (arith, tree.0))
      (tracked.activated node inside word now tree.1 tree.2 (omega (arith, tree.1.ordered)) chosen)))
      (λ unchosen. tracked.same here inside word from end now))
      (run_tracked here inside word end rest middle tree.5))
  run_tracked here inside word from (When number test taken' other rest) now tree =
      let yes' = run core here word taken' now in
      let no' = run core here word other now in
      let holds = core.holds number test word now.moment in
      let middle = cond holds yes' no' in
      let end = from + (size taken' + size other) in
      tracked.wider here inside word from (end + size rest) from (from + (size taken' + (size other + size rest))) now (run core here word rest middle) (omega arith) (omega arith)
      (tracked.both here inside word from end (end + size rest) now middle (run core here word rest middle) (omega arith) (omega arith)
      (cond_both holds yes' no' (T here inside word from end now)
      (λ is. tracked.wider here inside word from (from + size taken') from end now yes' (omega arith) (omega arith) (run_tracked here inside word from taken' now tree.0))
      (λ is. tracked.wider here inside word (from + size taken') (from + size taken' + size other) from end now no' (omega arith) (omega arith) (run_tracked here inside word (from + size taken') other now tree.1)))
      (run_tracked here inside word end rest middle tree.2))

  -- an occurrence that runs by itself
  pub occurrence_tracked : (word : ℕ) (node : Node) (now : Running M) → IsGood core root node → IsGoodTree core root node.level (node.past || core.is_root node.number) (suc node.number) node.own → T node.level node.past word node.number (suc (node.number + size node.own)) now (run_occurrence core word node now)
  occurrence_tracked word node now good tree =
      let word' = own_word core node.number node.past word now in
      let inside' = node.past || core.is_root node.number in
      let begun = behavior core node.number word' now in
      let end = suc (node.number + size node.own) in
      let ran = run core node.level word' node.own begun in
      tracked.node node node.past word end now ran good (λ is. is) good.past_after (omega arith)
      (tracked.wider node.level inside' word' (suc node.number) (suc node.number + size node.own) (suc node.number) end begun ran (omega arith) (omega arith)
      (run_tracked node.level inside' word' (suc node.number) node.own begun tree))

-- A relation of all that is due at a level, in order of numbers.
pub record IsTurned {R M : Type 0} (core : Core R M) (root : ℕ) (words : ℕ → Option ℕ) (test : Node → Bool) (Q : ℕ → ℕ → Running M → Running M → Type 0) : Type 0 where
  pub same : (from to : ℕ) (now : Running M) → Q from to now now
  pub wider : (from to from' to' : ℕ) (now after : Running M) → from' ≤ from → to ≤ to' → Q from to now after → Q from' to' now after
  pub both : (from middle to : ℕ) (a b c : Running M) → from ≤ middle → middle ≤ to → Q from middle a b → Q middle to b c → Q from to a c
  pub node : (node : Node) (now : Running M) → test node ≡ true → IsGood core root node → IsGoodTree core root node.level (node.past || core.is_root node.number) (suc node.number) node.own → Q node.number (suc (node.number + size node.own)) now (run_due core words now node)

module _ {R M : Type 0} (core : Core R M) (root : ℕ) (words : ℕ → Option ℕ) (level : ℕ) (test : Node → Bool) (at : (node : Node) → IsGood core root node → test node ≡ true → (node.level ≡ level) × (node.above < level)) where
  -- Below an activator of a level none of that level is due.
  pub none_due : (above : ℕ) (inside : Bool) (from : ℕ) (acts : Acts) → level ≤ above → IsGoodTree core root above inside from acts → filter test (nodes above acts) ≡ []
  none_due above inside from Done high tree = refl
  none_due above inside from (Act number own_level past own rest) high tree =
      let head : Node = record { number = number; above = above; level = own_level; past = past; own = own } in
      let below = nodes own_level own in
      let after = nodes above rest in
      cond-false (test head) (head ∷ filter test (below ++ after)) (filter test (below ++ after)) (false_from_ne_true (test head) (λ is. let w = at head tree.1 is in omega (arith, w.1)))
      ∙ filter-append test below after
      ∙ ap₂ (λ xs ys. xs ++ ys) (none_due own_level _ (suc from) own (omega (arith, tree.1.ordered)) tree.4) (none_due above inside _ rest high tree.5)
  none_due above inside from (When number t taken' other rest) high tree =
      filter-append test (nodes above taken') (nodes above other ++ nodes above rest)
      ∙ ap₂ (λ xs ys. xs ++ ys) (none_due above inside _ taken' high tree.0)
      (filter-append test (nodes above other) (nodes above rest)
      ∙ ap₂ (λ xs ys. xs ++ ys) (none_due above inside _ other high tree.1) (none_due above inside _ rest high tree.2))

  pub parts : (xs ys : List Node) (now : Running M) → fold (run_due core words) now (filter test (xs ++ ys)) ≡ fold (run_due core words) (fold (run_due core words) now (filter test xs)) (filter test ys)
  parts xs ys now =
      ap (fold (run_due core words) now) (filter-append test xs ys)
      ∙ fold-append (run_due core words) now (filter test xs) (filter test ys)

  pub due_turned : (Q : ℕ → ℕ → Running M → Running M → Type 0) → IsTurned core root words test Q → (above : ℕ) (inside : Bool) (from : ℕ) (acts : Acts) (now : Running M) → IsGoodTree core root above inside from acts → Q from (from + size acts) now (fold (run_due core words) now (filter test (nodes above acts)))
  due_turned Q turned above inside from Done now tree = turned.same from _ now
  due_turned Q turned above inside from (Act number own_level past own rest) now tree =
      let head : Node = record { number = number; above = above; level = own_level; past = past; own = own } in
      let inside' = past || core.is_root number in
      let below = nodes own_level own in
      let later = nodes above rest in
      let end = suc (from + size own) in
      let go = fold (run_due core words) in
      cond_both (test head) (head ∷ filter test (below ++ later)) (filter test (below ++ later)) (λ ys. Q from (from + suc (size own + size rest)) now (go now ys))
      (λ is.
      let after = run_due core words now head in
      let w = at head tree.1 is in
      let e = parts below later after ∙ ap (λ xs. go (go after xs) (filter test later)) (none_due own_level inside' (suc from) own (omega (arith, w.0)) tree.4) in
      subst (λ (m : Running M). Q from (from + suc (size own + size rest)) now m) (sym e)
      (turned.wider from (end + size rest) from (from + suc (size own + size rest)) now (go after (filter test later)) (omega arith) (omega arith)
      (turned.both from end (end + size rest) now after (go after (filter test later)) (omega arith) (omega arith)
      (turned.wider number (suc (number + size own)) from end now after (omega (arith, tree.0)) (omega (arith, tree.0))
      (turned.node head now is tree.1 (subst (λ n. IsGoodTree core root own_level inside' (suc n) own) (sym tree.0) tree.4)))
      (due_turned Q turned above inside end rest after tree.5))))
      (λ is.
      let middle = go now (filter test below) in
      subst (λ (m : Running M). Q from (from + suc (size own + size rest)) now m) (sym (parts below later now))
      (turned.wider (suc from) (end + size rest) from (from + suc (size own + size rest)) now (go middle (filter test later)) (omega arith) (omega arith)
      (turned.both (suc from) end (end + size rest) now middle (go middle (filter test later)) (omega arith) (omega arith)
      (turned.wider (suc from) (suc from + size own) (suc from) end now middle (omega arith) (omega arith) (due_turned Q turned own_level inside' (suc from) own now tree.4))
      (due_turned Q turned above inside end rest middle tree.5))))
  due_turned Q turned above inside from (When number t taken' other rest) now tree =
      let xs = nodes above taken' in
      let ys = nodes above other in
      let zs = nodes above rest in
      let go = fold (run_due core words) in
      let first = go now (filter test xs) in
      let second = go first (filter test ys) in
      let middle = from + size taken' in
      let end = from + (size taken' + size other) in
      let e = parts xs (ys ++ zs) now ∙ parts ys zs first in
      subst (λ (m : Running M). Q from (from + (size taken' + (size other + size rest))) now m) (sym e)
      (turned.wider from (end + size rest) from (from + (size taken' + (size other + size rest))) now (go second (filter test zs)) (omega arith) (omega arith)
      (turned.both from end (end + size rest) now second (go second (filter test zs)) (omega arith) (omega arith)
      (turned.wider from (middle + size other) from end now second (omega arith) (omega arith)
      (turned.both from middle (middle + size other) now first second (omega arith) (omega arith)
      (due_turned Q turned above inside from taken' now tree.0)
      (due_turned Q turned above inside middle other first tree.1)))
      (due_turned Q turned above inside end rest second tree.2)))
