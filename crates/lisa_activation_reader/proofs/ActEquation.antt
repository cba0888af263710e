-- Reading items meets its equation.
use Rattle.std.proofs.Common.{◌≡◌, ℕ, zero, suc, ◌-◌, ◌<◌, ◌≤◌, cond, ◌∷◌, length, Some, refl, ap, ◌∙◌, arith}
use Rattle.std.proofs.lemmas.Bool.{lt-ltb}
use Rattle.std.proofs.lemmas.List.{length-append}
use Rattle.lisa_tree.specs.declared.tokens.Keyword.TheVariants as keywords
use Rattle.lisa_tree.specs.declared.tokens.Sign.TheVariants as signs
use Rattle.lisa_tree.specs.declared.tokens.TokenPart.TheVariants as parts
use Rattle.lisa_tree.specs.Expressions.{ExprTree}
use Rattle.lisa_tree.specs.Activations as activations
use Rattle.lisa_tree.specs.Activations.{ActTree, ActTrees}
use Rattle.lisa_tree.specs.Grammar.{Toks, mark}
use Rattle.lisa_tree.specs.DescriptionGrammar as grammar
use Rattle.lisa_tree.specs.DescriptionGrammar.{SpellsAct}
use Rattle.lisa_words.specs.FixEach.{guarded_each}
use Rattle.lisa_words.specs.Steps.{◌>>=◌}
use Rattle.lisa_words.proofs.FixedEach.{fix_each_is}
use Rattle.lisa_words.proofs.StepLaws.{bind_same}
use Rattle.lisa_behav_reader.specs.Past.{past_of}
use Rattle.lisa_behav_reader.specs.Places.{closes_block}
use Rattle.lisa_behav_reader.specs.StmtReading.{test_of}
use Rattle.lisa_behav_reader.proofs.PastLaws.{past_shorter}
use Rattle.lisa_behav_reader.proofs.StmtSound.{test_sound}
use Rattle.lisa_activation_reader.specs.Reading.{Want, One, More, Out, Task, one, more, Reader, Answer, Answers, has_comma, and_more, items_of, all_of, braced_of, else_of, if_of, one_of, further_of, more_of, step, size, fails, acts}
use Rattle.lisa_activation_reader.proofs.ActSound.{acts_sound, activation_braced, further_takes}

-- an item has tokens
some_tokens : {ts : Toks} {a : ActTree} → SpellsAct ts a → 0 < length ts
some_tokens grammar.start = omega arith
some_tokens (grammar.choose d e is) = omega (arith, ap length is)
some_tokens (grammar.otherwise d e f is) = omega (arith, ap length is)

pub one_shorter : (n : ℕ) (ts : Toks) (x : ActTree × Toks) → acts (one n ts) ≡ Some x → length x.1 < length ts
one_shorter n ts x e = let t = acts_sound (one n ts) x e in omega (arith, some_tokens t.spells, length-append t.front x.1, ap length t.parts)

further_shorter : (n : ℕ) (ts : Toks) (x : ActTree × Toks) → further_of acts n ts ≡ Some x → length x.1 < length ts
further_shorter n ts x e = let f = further_takes n ts x e in let t = f.2 in omega (arith, length-append t.front x.1, ap length t.parts, ap length f.1)

test_shorter : (n : ℕ) (ts : Toks) (x : ExprTree × Toks) → test_of n ts ≡ Some x → length x.1 < length ts
test_shorter n ts x e = let t = test_sound n ts x e in omega (arith, length-append t.inner (mark signs.CloseRound ∷ x.1), ap length t.parts)

braced_shorter : (n : ℕ) (ts : Toks) (x : ActTrees × Toks) → braced_of acts n ts ≡ Some x → length x.1 < length ts
braced_shorter n ts x e = let t = activation_braced n ts x e in omega (arith, length-append t.inner (mark signs.CloseBrace ∷ x.1), ap length t.parts)

abbrev IsBelow : ℕ → Reader → Type 0
IsBelow k rec = (v : Task) → size v < k → rec v ≡ acts v

module _ (rec : Reader) (k : ℕ) (below : IsBelow k rec) where
  and_same : (n : ℕ) (read : Answer) → ((a : ActTree × Toks) → read ≡ Some a → length a.1 < k) → and_more rec n read ≡ and_more acts n read
  and_same n read less =
      bind_same read (λ a. rec (more n a.1) >>= λ all. Some (activations.Then a.0 all.0, all.1)) (λ a. acts (more n a.1) >>= λ all. Some (activations.Then a.0 all.0, all.1)) (λ a e.
      ap (λ (z : Answers). z >>= λ all. Some (activations.Then a.0 all.0, all.1)) (below (more n a.1) (less a e)))

  items_same : (n : ℕ) (ts : Toks) → length ts < k → items_of rec n ts ≡ items_of acts n ts
  items_same n ts lt = ap (and_more rec n) (below (one n ts) lt) ∙ and_same n (acts (one n ts)) (λ a e. omega (arith, one_shorter n ts a e))

  all_same : (n : ℕ) (ts : Toks) → length ts < k → all_of rec n ts ≡ all_of acts n ts
  unfolding all_of
  all_same n ts lt = ap (λ (z : Answers). cond (closes_block ts) (Some (activations.End, ts)) z) (items_same n ts lt)

  braced_same : (n : ℕ) (ts : Toks) → length ts < k → braced_of rec n ts ≡ braced_of acts n ts
  unfolding braced_of
  braced_same n ts lt =
      bind_same (past_of signs.OpenBrace ts) (λ a. all_of rec n a >>= λ all. past_of signs.CloseBrace all.1 >>= λ rest. Some (all.0, rest)) (λ a. all_of acts n a >>= λ all. past_of signs.CloseBrace all.1 >>= λ rest. Some (all.0, rest)) (λ a p.
      ap (λ (z : Answers). z >>= λ all. past_of signs.CloseBrace all.1 >>= λ rest. Some (all.0, rest)) (all_same n a (omega (arith, past_shorter signs.OpenBrace ts a p))))

  else_same : (e : ExprTree) (all : ActTrees) (n : ℕ) (ts : Toks) → length ts < k → else_of rec e all n ts ≡ else_of acts e all n ts
  unfolding else_of
  else_same e all n (parts.Reserved keywords.Else ∷ ts) lt = ap (λ (z : Answers). z >>= λ others. Some (activations.ChooseElse e all others.0, others.1)) (braced_same (n - 1) ts (omega arith))
  else_same e all n ts lt = refl

  if_same : (n : ℕ) (ts : Toks) → length ts < k → if_of rec n ts ≡ if_of acts n ts
  unfolding if_of
  if_same n ts lt =
      bind_same (test_of (n - 1) ts) (λ e. braced_of rec (n - 1) e.1 >>= λ all. else_of rec e.0 all.0 n all.1) (λ e. braced_of acts (n - 1) e.1 >>= λ all. else_of acts e.0 all.0 n all.1) (λ e q.
      let fewer : length e.1 < length ts = test_shorter (n - 1) ts e q in
      ap (λ (z : Answers). z >>= λ all. else_of rec e.0 all.0 n all.1) (braced_same (n - 1) e.1 (omega arith))
      ∙ bind_same (braced_of acts (n - 1) e.1) (λ all. else_of rec e.0 all.0 n all.1) (λ all. else_of acts e.0 all.0 n all.1) (λ all r. else_same e.0 all.0 n all.1 (omega (arith, braced_shorter (n - 1) e.1 all r))))

  one_same : (n : ℕ) (ts : Toks) → length ts ≤ k → one_of rec n ts ≡ one_of acts n ts
  unfolding one_of
  one_same zero ts le = refl
  one_same (suc n) (parts.Reserved keywords.If ∷ ts) le = if_same (suc n) ts (omega arith)
  one_same (suc n) _ le = refl

  further_same : (n : ℕ) (ts : Toks) → length ts ≤ k → further_of rec n ts ≡ further_of acts n ts
  unfolding further_of
  further_same n ts le = bind_same (past_of signs.Comma ts) (λ a. rec (one n a)) (λ a. acts (one n a)) (λ a p. below (one n a) (omega (arith, past_shorter signs.Comma ts a p)))

  more_same : (n : ℕ) (ts : Toks) → length ts ≤ k → more_of rec n ts ≡ more_of acts n ts
  unfolding more_of
  more_same n ts le =
      ap (λ (z : Answers). cond (has_comma ts) z (Some (activations.End, ts)))
      (ap (and_more rec n) (further_same n ts le) ∙ and_same n (further_of acts n ts) (λ a e. omega (arith, further_shorter n ts a e)))

pub acts_is : (t : Task) → acts t ≡ step acts t
unfolding acts
acts_is t = fix_each_is {Out = Out} size fails step t ∙ go t.want t.budget t.tokens
  where
    below : (t : Task) → IsBelow (size t) (guarded_each {Out = Out} size fails acts t)
    below t v less = rw (lt-ltb (size v) (size t) less) refl

    go : (w : Want) (n : ℕ) (ts : Toks) → step (guarded_each {Out = Out} size fails acts (record { want = w; budget = n; tokens = ts })) (record { want = w; budget = n; tokens = ts }) ≡ step acts (record { want = w; budget = n; tokens = ts })
    go One n ts = one_same (guarded_each {Out = Out} size fails acts (one n ts)) (size (one n ts)) (below (one n ts)) n ts (omega arith)
    go More n ts = more_same (guarded_each {Out = Out} size fails acts (more n ts)) (size (more n ts)) (below (more n ts)) n ts (omega arith)
