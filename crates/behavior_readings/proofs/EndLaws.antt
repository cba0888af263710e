-- Statements are read up to a `}` or the end.
use Rattle.std.proofs.Common.{◌≡◌, ℕ, zero, suc, Bool, true, false, cond, ltb, Some, refl, subst}
use Rattle.lisa_tree.specs.Statements as statements
use Rattle.lisa_tree.specs.Statements.{StmtTrees}
use Rattle.lisa_tree.specs.Grammar.{Toks}
use Rattle.lisa_words.specs.FixEach.{guarded_each, within_each, fix_each}
use Rattle.lisa_words.specs.Steps.{◌>>=◌}
use Rattle.lisa_words.proofs.StepLaws.{bind_some, some_is}
use Rattle.lisa_behav_reader.specs.StmtReading.{Want, One, Many, Kind, Out, Task, one, many, Reader, ends, next_of, many_of, step, size, fails, stmts}

abbrev Claim : (w : Want) → Kind w × Toks → Type 0
Claim One x = Unit {0}
Claim Many x = ends x.1 ≡ true

abbrev IsEnded : Reader → Type 0
IsEnded rec = (t : Task) (x : Kind t.want × Toks) → rec t ≡ Some x → Claim t.want x

many_ended : (rec : Reader) → IsEnded rec → (n : ℕ) (ts : Toks) (x : StmtTrees × Toks) → many_of rec n ts ≡ Some x → ends x.1 ≡ true
unfolding many_of
many_ended rec ended n ts x e = go (ends ts) refl e
  where
    go : (b : Bool) → ends ts ≡ b → cond b (Some (statements.End, ts)) (next_of rec n ts) ≡ Some x → ends x.1 ≡ true
    go true is e = subst (λ (y : StmtTrees × Toks). ends y.1 ≡ true) (some_is (statements.End, ts) x e) is
    go false is e =
        let b = bind_some (rec (one n ts)) (λ s. rec (many n s.1) >>= λ all. Some (statements.Then s.0 all.0, all.1)) x e in
        let c = bind_some (rec (many n b.0.1)) (λ all. Some (statements.Then b.0.0 all.0, all.1)) x b.2 in
        let made : StmtTrees × Toks = (statements.Then b.0.0 c.0.0, c.0.1) in
        subst (λ (y : StmtTrees × Toks). ends y.1 ≡ true) (some_is made x c.2) (ended (many n b.0.1) c.0 c.1)

step_ended : (rec : Reader) → IsEnded rec → IsEnded (step rec)
step_ended rec ended t x e = go t.want t.budget t.tokens x e
  where
    go : (w : Want) (n : ℕ) (ts : Toks) (x : Kind w × Toks) → step rec (record { want = w; budget = n; tokens = ts }) ≡ Some x → Claim w x
    go One n ts x e = tt
    go Many n ts x e = many_ended rec ended n ts x e

guarded_some : (t : Task) (b : Bool) (o : Out t) (y : Kind t.want × Toks) → cond b o (fails t) ≡ Some y → o ≡ Some y
guarded_some t true o y e = e
guarded_some t false o y e = absurd cc

within_ended : (f : ℕ) → IsEnded (within_each {Out = Out} size fails step f)
unfolding within_each
within_ended zero t x e = absurd cc
within_ended (suc f) t x e = step_ended (guarded_each {Out = Out} size fails (within_each {Out = Out} size fails step f) t) (λ v y e'. within_ended f v y (guarded_some v (ltb (size v) (size t)) (within_each {Out = Out} size fails step f v) y e')) t x e

pub statements_ended : (n : ℕ) (ts : Toks) (x : StmtTrees × Toks) → stmts (many n ts) ≡ Some x → ends x.1 ≡ true
unfolding stmts fix_each
statements_ended n ts x e = within_ended (suc (size (many n ts))) (many n ts) x e
