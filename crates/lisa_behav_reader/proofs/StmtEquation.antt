-- Reading statements meets its equation.
use Rattle.std.proofs.Common.{◌≡◌, ℕ, zero, suc, ◌+◌, ◌-◌, ◌*◌, ◌<◌, ◌≤◌, Bool, true, false, cond, ltb, List, [], ◌∷◌, ◌++◌, length, Option, Some, None, refl, sym, ap, subst, ◌∙◌, arith}
use Rattle.std.proofs.lemmas.Bool.{lt-ltb}
use Rattle.std.proofs.lemmas.List.{length-append}
use Rattle.lisa_tree.specs.declared.tokens.Keyword.TheVariants as keywords
use Rattle.lisa_tree.specs.declared.tokens.Sign.TheVariants as signs
use Rattle.lisa_tree.specs.declared.tokens.TokenPart.TheVariants as parts
use Rattle.lisa_tree.specs.Expressions.{ExprTree}
use Rattle.lisa_tree.specs.Statements as statements
use Rattle.lisa_tree.specs.Statements.{HeadTree, StmtTree, StmtTrees}
use Rattle.lisa_tree.specs.Grammar.{Toks, mark, SpellsStmt}
use Rattle.lisa_tree.specs.Grammar as grammar
use Rattle.lisa_words.specs.FixEach.{guarded_each, fix_each}
use Rattle.lisa_words.specs.Steps.{◌>>=◌}
use Rattle.lisa_words.proofs.FixedEach.{fix_each_is}
use Rattle.lisa_words.proofs.StepLaws.{bind_same}
use Rattle.lisa_behav_reader.specs.Past.{past_of}
use Rattle.lisa_behav_reader.specs.StmtReading.{Want, One, Many, Kind, Out, Task, one, many, Reader, Answer, ends, test_of, head_of, block_of, else_of, if_of, while_of, for_of, one_of, next_of, many_of, want_of, step, fails, size, stmts}
use Rattle.lisa_behav_reader.proofs.PastLaws.{past_shorter}
use Rattle.lisa_behav_reader.proofs.StmtSound.{stmts_sound, test_sound, head_sound}

-- a statement has tokens
some_tokens : {closed : Bool} {ts : Toks} {s : StmtTree} → SpellsStmt closed ts s → 0 < length ts
some_tokens grammar.empty = omega arith
some_tokens (grammar.block d is) = omega (arith, ap length is)
some_tokens grammar.bare = omega arith
some_tokens (grammar.local d is) = omega (arith, ap length is)
some_tokens (grammar.assign {xs = xs} {ys = ys} p d is) = omega (arith, ap length is, length-append xs (mark signs.Equal ∷ (ys ++ mark signs.Semicolon ∷ [])))
some_tokens (grammar.when d e is) = omega (arith, ap length is)
some_tokens (grammar.choose d e f is) = omega (arith, ap length is)
some_tokens (grammar.while d e is) = omega (arith, ap length is)
some_tokens (grammar.for d e is) = omega (arith, ap length is)
some_tokens grammar.call = omega arith
some_tokens grammar.stall = omega arith
some_tokens grammar.flush = omega arith
some_tokens grammar.execute = omega arith
some_tokens grammar.shift = omega arith

pub one_shorter : (n : ℕ) (ts : Toks) (x : StmtTree × Toks) → stmts (one n ts) ≡ Some x → length x.1 < length ts
one_shorter n ts x e = let t = stmts_sound (one n ts) x e in omega (arith, some_tokens t.spells, length-append t.front x.1, ap length t.parts)

test_shorter : (n : ℕ) (ts : Toks) (x : ExprTree × Toks) → test_of n ts ≡ Some x → length x.1 < length ts
test_shorter n ts x e = let t = test_sound n ts x e in omega (arith, length-append t.inner (mark signs.CloseRound ∷ x.1), ap length t.parts)

head_shorter : (n : ℕ) (ts : Toks) (x : HeadTree × Toks) → head_of n ts ≡ Some x → length x.1 ≤ length ts
head_shorter n ts x e = let t = head_sound n ts x e in omega (arith, length-append t.front x.1, ap length t.parts)

abbrev IsBelow : ℕ → Reader → Type 0
IsBelow k rec = (v : Task) → size v < k → rec v ≡ stmts v

module _ (rec : Reader) (k : ℕ) (below : IsBelow k rec) where
  block_same : (n : ℕ) (ts : Toks) → 2 * length ts + 1 < k → block_of rec n ts ≡ block_of stmts n ts
  unfolding block_of
  block_same n ts le = ap (λ (z : Option (StmtTrees × Toks)). z >>= λ all. past_of signs.CloseBrace all.1 >>= λ rest. Some (statements.Block all.0, rest)) (below (many (n - 1) ts) (omega arith))

  else_same : (e : ExprTree) (s : StmtTree) (n : ℕ) (ts : Toks) → 2 * length ts < k → else_of rec e s n ts ≡ else_of stmts e s n ts
  unfolding else_of
  else_same e s n (parts.Reserved keywords.Else ∷ ts) le = ap (λ (z : Answer). z >>= λ u. Some (statements.IfElse e s u.0, u.1)) (below (one (n - 1) ts) (omega arith))
  else_same e s n ts le = refl

  if_same : (n : ℕ) (ts : Toks) → 2 * length ts < k → if_of rec n ts ≡ if_of stmts n ts
  unfolding if_of
  if_same n ts le =
      bind_same (test_of (n - 1) ts) (λ e. rec (one (n - 1) e.1) >>= λ s. else_of rec e.0 s.0 n s.1) (λ e. stmts (one (n - 1) e.1) >>= λ s. else_of stmts e.0 s.0 n s.1) (λ e q.
      let fewer : length e.1 < length ts = test_shorter (n - 1) ts e q in
      ap (λ (z : Answer). z >>= λ s. else_of rec e.0 s.0 n s.1) (below (one (n - 1) e.1) (omega arith))
      ∙ bind_same (stmts (one (n - 1) e.1)) (λ s. else_of rec e.0 s.0 n s.1) (λ s. else_of stmts e.0 s.0 n s.1) (λ s r. else_same e.0 s.0 n s.1 (omega (arith, one_shorter (n - 1) e.1 s r))))

  while_same : (n : ℕ) (ts : Toks) → 2 * length ts < k → while_of rec n ts ≡ while_of stmts n ts
  unfolding while_of
  while_same n ts le =
      bind_same (test_of (n - 1) ts) (λ e. rec (one (n - 1) e.1) >>= λ s. Some (statements.While e.0 s.0, s.1)) (λ e. stmts (one (n - 1) e.1) >>= λ s. Some (statements.While e.0 s.0, s.1)) (λ e q.
      let fewer : length e.1 < length ts = test_shorter (n - 1) ts e q in
      ap (λ (z : Answer). z >>= λ s. Some (statements.While e.0 s.0, s.1)) (below (one (n - 1) e.1) (omega arith)))

  for_same : (n : ℕ) (ts : Toks) → 2 * length ts < k → for_of rec n ts ≡ for_of stmts n ts
  unfolding for_of
  for_same n ts le =
      bind_same (past_of signs.OpenRound ts) (λ a. head_of (n - 1) a >>= λ h. past_of signs.CloseRound h.1 >>= λ rest. rec (one (n - 1) rest) >>= λ s. Some (statements.For h.0 s.0, s.1)) (λ a. head_of (n - 1) a >>= λ h. past_of signs.CloseRound h.1 >>= λ rest. stmts (one (n - 1) rest) >>= λ s. Some (statements.For h.0 s.0, s.1)) (λ a p.
      bind_same (head_of (n - 1) a) (λ h. past_of signs.CloseRound h.1 >>= λ rest. rec (one (n - 1) rest) >>= λ s. Some (statements.For h.0 s.0, s.1)) (λ h. past_of signs.CloseRound h.1 >>= λ rest. stmts (one (n - 1) rest) >>= λ s. Some (statements.For h.0 s.0, s.1)) (λ h q.
      bind_same (past_of signs.CloseRound h.1) (λ rest. rec (one (n - 1) rest) >>= λ s. Some (statements.For h.0 s.0, s.1)) (λ rest. stmts (one (n - 1) rest) >>= λ s. Some (statements.For h.0 s.0, s.1)) (λ rest r.
      let fewer : length rest < length ts = omega (arith, past_shorter signs.OpenRound ts a p, head_shorter (n - 1) a h q, past_shorter signs.CloseRound h.1 rest r) in
      ap (λ (z : Answer). z >>= λ s. Some (statements.For h.0 s.0, s.1)) (below (one (n - 1) rest) (omega arith)))))

  one_same : (n : ℕ) (ts : Toks) → 2 * length ts ≤ k → one_of rec n ts ≡ one_of stmts n ts
  unfolding one_of
  one_same zero ts le = refl
  one_same (suc n) (parts.Sign signs.OpenBrace ∷ ts) le = block_same (suc n) ts (omega arith)
  one_same (suc n) (parts.Reserved keywords.If ∷ ts) le = if_same (suc n) ts (omega arith)
  one_same (suc n) (parts.Reserved keywords.While ∷ ts) le = while_same (suc n) ts (omega arith)
  one_same (suc n) (parts.Reserved keywords.For ∷ ts) le = for_same (suc n) ts (omega arith)
  one_same (suc n) _ le = refl

  many_same : (n : ℕ) (ts : Toks) → 2 * length ts + 1 ≤ k → many_of rec n ts ≡ many_of stmts n ts
  unfolding many_of
  many_same n ts le =
      ap (λ (z : Option (StmtTrees × Toks)). cond (ends ts) (Some (statements.End, ts)) z)
      (ap (λ (z : Answer). z >>= λ s. rec (many n s.1) >>= λ all. Some (statements.Then s.0 all.0, all.1)) (below (one n ts) (omega arith))
      ∙ bind_same (stmts (one n ts)) (λ s. rec (many n s.1) >>= λ all. Some (statements.Then s.0 all.0, all.1)) (λ s. stmts (many n s.1) >>= λ all. Some (statements.Then s.0 all.0, all.1)) (λ s e.
      ap (λ (z : Option (StmtTrees × Toks)). z >>= λ all. Some (statements.Then s.0 all.0, all.1)) (below (many n s.1) (omega (arith, one_shorter n ts s e)))))

pub stmts_is : (t : Task) → stmts t ≡ step stmts t
unfolding stmts
stmts_is t = fix_each_is {Out = Out} size fails step t ∙ go t.want t.budget t.tokens
  where
    below : (t : Task) → IsBelow (size t) (guarded_each {Out = Out} size fails stmts t)
    below t v less = rw (lt-ltb (size v) (size t) less) refl

    go : (w : Want) (n : ℕ) (ts : Toks) → step (guarded_each {Out = Out} size fails stmts (record { want = w; budget = n; tokens = ts })) (record { want = w; budget = n; tokens = ts }) ≡ step stmts (record { want = w; budget = n; tokens = ts })
    go One n ts = one_same (guarded_each {Out = Out} size fails stmts (one n ts)) (size (one n ts)) (below (one n ts)) n ts (omega arith)
    go Many n ts = many_same (guarded_each {Out = Out} size fails stmts (many n ts)) (size (many n ts)) (below (many n ts)) n ts (omega arith)
