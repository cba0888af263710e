-- What the loop over operands keeps.
use Rattle.std.proofs.Common.{◌≡◌, ℕ, List, [], ◌∷◌, drop, Option, Some, None, refl, sym, ap, ◌∙◌}
use Rattle.lisa_words.specs.declared.binary.Operator.{Operator}
use Rattle.lisa_tree.specs.Expressions.{ExprTree}
use Rattle.lisa_tree.specs.Grammar.{Toks}
use Rattle.operator_levels.specs.Stacks.{Stack}
use Rattle.lisa_words.specs.Steps.{◌>>=◌}
use Rattle.lisa_behav_reader.specs.declared.misses.Missed.{Missed}
use Rattle.lisa_behav_reader.specs.declared.misses.Missed.TheVariants as misses
use Rattle.lisa_behav_reader.specs.Gives.{Fails}
use Rattle.lisa_behav_reader.specs.Reading.{Answer, operands, unary, operator_at, push, finish, go_on, behind_of, operands_of, reads}
use Rattle.lisa_behav_reader.proofs.ExprEquation.{at_operands}
use Rattle.lisa_behav_reader.proofs.ExprComplete.{chain_from}

none_unless : (o : Option Operator) → ((p : Operator) → o ≡ Some p → ⊥) → None ≡ o
none_unless None h = refl
none_unless (Some p) h = absurd (h p refl)

module _ (stack : Stack ExprTree) (n : ℕ) (rest : Toks) (total : Answer) (so_far : reads (operands stack n rest) ≡ total) where
  pub fails_operand : (e : Missed) → Fails e (reads (unary n rest)) → Fails e total
  unfolding operands_of
  fails_operand misses.NoMemory h = tt
  fails_operand (misses.At left) h = sym so_far ∙ at_operands stack n rest ∙ ap (λ (q : Answer). q >>= λ a. behind_of reads stack n a.0 a.1) h

  module _ (t : ExprTree) (after : Toks) (first : reads (unary n rest) ≡ Some (t, after)) where
    goes : (o : Option Operator) → o ≡ operator_at after → total ≡ go_on o reads stack n t after
    unfolding behind_of
    goes o e = sym so_far ∙ chain_from stack n rest t after first ∙ ap (λ (p : Option Operator). go_on p reads stack n t after) (sym e)

    pub goes_on : (o : Operator) (more : Stack ExprTree) → Some o ≡ operator_at after → push n stack t o ≡ Some more → reads (operands more n (drop 1 after)) ≡ total
    goes_on o more e h = sym (goes (Some o) e ∙ ap (λ (p : Option (Stack ExprTree)). p >>= λ more. reads (operands more n (drop 1 after))) h)

    pub fails_push : (o : Operator) (e : Missed) → Some o ≡ operator_at after → Fails e (push n stack t o) → Fails e total
    fails_push o misses.NoMemory is h = tt
    fails_push o (misses.At left) is h = goes (Some o) is ∙ ap (λ (p : Option (Stack ExprTree)). p >>= λ more. reads (operands more n (drop 1 after))) h

    pub fails_finish : (e : Missed) → ((p : Operator) → operator_at after ≡ Some p → ⊥) → Fails e (finish n stack t) → Fails e total
    fails_finish misses.NoMemory is h = tt
    fails_finish (misses.At left) is h = goes None (none_unless (operator_at after) is) ∙ ap (λ (p : Option ExprTree). p >>= λ x. Some (x, after)) h

    pub ends_at : (x : ExprTree) → ((p : Operator) → operator_at after ≡ Some p → ⊥) → finish n stack t ≡ Some x → total ≡ Some (x, after)
    ends_at x is h = goes None (none_unless (operator_at after) is) ∙ ap (λ (p : Option ExprTree). p >>= λ x. Some (x, after)) h
