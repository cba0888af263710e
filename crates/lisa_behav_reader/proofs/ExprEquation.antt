-- Reading meets its equation: it is one step, whose parts are read in the same way.
use Rattle.std.proofs.Common.{◌≡◌, ℕ, zero, suc, ◌+◌, ◌-◌, ◌*◌, ◌<◌, ◌≤◌, Bool, true, false, cond, ltb, List, [], ◌∷◌, ◌++◌, length, drop, Option, Some, None, refl, sym, ap, subst, ◌∙◌, arith}
use Rattle.std.proofs.lemmas.Bool.{lt-ltb}
use Rattle.std.proofs.lemmas.List.{length-append, length-drop}
use Rattle.lisa_tree.specs.declared.tokens.Keyword.TheVariants as keywords
use Rattle.lisa_tree.specs.declared.tokens.Sign.TheVariants as signs
use Rattle.lisa_tree.specs.declared.tokens.TokenPart.TheVariants as parts
use Rattle.lisa_words.specs.declared.binary.Operator.{Operator}
use Rattle.lisa_tree.specs.Operators.{sign_of}
use Rattle.lisa_tree.specs.Expressions as expressions
use Rattle.lisa_tree.specs.Expressions.{ExprTree, expr_depth}
use Rattle.lisa_tree.specs.Grammar.{Toks, mark}
use Rattle.operator_levels.specs.Stacks.{Stack}
use Rattle.lisa_words.specs.Fix.{guarded, fix}
use Rattle.lisa_words.specs.Steps.{◌>>=◌}
use Rattle.lisa_words.proofs.Fixed.{fix_is}
use Rattle.lisa_words.proofs.StepLaws.{bind_same}
use Rattle.lisa_behav_reader.specs.Past.{past_of}
use Rattle.lisa_behav_reader.specs.Reading.{Want, Whole, Operands, Unary, Task, Answer, Reader, whole, operands, unary, operator_at, branches_of, choice_of, whole_of, push, finish, go_on, behind_of, operands_of, named_of, inside_of, primary_of, unary_of, step, size, reads}
use Rattle.lisa_behav_reader.proofs.PastLaws.{past_shorter}
use Rattle.lisa_behav_reader.proofs.ExprSound.{reads_sound, operator_front}

pub whole_shorter : (n : ℕ) (ts : Toks) (x : ExprTree × Toks) → reads (whole n ts) ≡ Some x → length x.1 < length ts
whole_shorter n ts x e = let t = reads_sound (whole n ts) x e in omega (arith, t.some, length-append t.front x.1, ap length t.parts)

operands_shorter : (stack : Stack ExprTree) (n : ℕ) (ts : Toks) (x : ExprTree × Toks) → reads (operands stack n ts) ≡ Some x → length x.1 < length ts
operands_shorter stack n ts x e = let t = reads_sound (operands stack n ts) x e in omega (arith, t.some, length-append t.front x.1, ap length t.parts)

unary_shorter : (n : ℕ) (ts : Toks) (x : ExprTree × Toks) → reads (unary n ts) ≡ Some x → length x.1 < length ts
unary_shorter n ts x e = let t = reads_sound (unary n ts) x e in omega (arith, t.some, length-append t.front x.1, ap length t.parts)

abbrev IsBelow : ℕ → Reader → Type 0
IsBelow k rec = (v : Task) → size v < k → rec v ≡ reads v

-- a call, and what is made of its answer
called : (v : Task) (rec : Reader) (f g : ExprTree × Toks → Answer) → rec v ≡ reads v → ((x : ExprTree × Toks) → reads v ≡ Some x → f x ≡ g x) → (rec v >>= f) ≡ (reads v >>= g)
called v rec f g e h = ap (λ (o : Answer). o >>= f) e ∙ bind_same (reads v) f g h

module _ (rec : Reader) (k : ℕ) (below : IsBelow k rec) where
  branches_same : (c : ExprTree) (n : ℕ) (ts : Toks) → 4 * suc (length ts) ≤ k → branches_of rec c n ts ≡ branches_of reads c n ts
  unfolding branches_of
  branches_same c n ts le =
      ap (λ (z : Answer). cond (ltb (expr_depth c) n) z None)
      (called (whole (n - 1) ts) rec (λ a. past_of signs.Colon a.1 >>= λ rest. rec (whole (n - 1) rest) >>= λ b. Some (expressions.Choose c a.0 b.0, b.1)) (λ a. past_of signs.Colon a.1 >>= λ rest. reads (whole (n - 1) rest) >>= λ b. Some (expressions.Choose c a.0 b.0, b.1)) (below (whole (n - 1) ts) (omega arith))
      (λ a e. bind_same (past_of signs.Colon a.1) (λ rest. rec (whole (n - 1) rest) >>= λ b. Some (expressions.Choose c a.0 b.0, b.1)) (λ rest. reads (whole (n - 1) rest) >>= λ b. Some (expressions.Choose c a.0 b.0, b.1))
      (λ rest p. ap (λ (z : Answer). z >>= λ b. Some (expressions.Choose c a.0 b.0, b.1)) (below (whole (n - 1) rest) (omega (arith, whole_shorter (n - 1) ts a e, past_shorter signs.Colon a.1 rest p))))))

  choice_same : (c : ExprTree) (n : ℕ) (ts : Toks) → 4 * length ts ≤ k → choice_of rec c n ts ≡ choice_of reads c n ts
  choice_same c n (parts.Sign signs.Question ∷ ts) le = branches_same c n ts (omega arith)
  choice_same c n ts le = refl

  whole_same : (n : ℕ) (ts : Toks) → 4 * length ts + 2 ≤ k → whole_of rec n ts ≡ whole_of reads n ts
  unfolding whole_of
  whole_same n ts le = called (operands [] n ts) rec (λ a. choice_of rec a.0 n a.1) (λ a. choice_of reads a.0 n a.1) (below (operands [] n ts) (omega arith)) (λ a e. choice_same a.0 n a.1 (omega (arith, operands_shorter [] n ts a e)))

  behind_same : (stack : Stack ExprTree) (n : ℕ) (t : ExprTree) (ts : Toks) → 4 * length ts ≤ k → behind_of rec stack n t ts ≡ behind_of reads stack n t ts
  unfolding behind_of
  behind_same stack n t ts le = go (operator_at ts) refl
    where
      go : (o : Option Operator) → operator_at ts ≡ o → go_on o rec stack n t ts ≡ go_on o reads stack n t ts
      go None is = refl
      go (Some o) is =
          let f = operator_front o ts is in
          bind_same (push n stack t o) (λ more. rec (operands more n (drop 1 ts))) (λ more. reads (operands more n (drop 1 ts))) (λ more e. below (operands more n (drop 1 ts)) (omega (arith, length-drop 1 ts, ap length f.is)))

  operands_same : (stack : Stack ExprTree) (n : ℕ) (ts : Toks) → 4 * length ts + 1 ≤ k → operands_of rec stack n ts ≡ operands_of reads stack n ts
  unfolding operands_of
  operands_same stack n ts le = called (unary n ts) rec (λ a. behind_of rec stack n a.0 a.1) (λ a. behind_of reads stack n a.0 a.1) (below (unary n ts) (omega arith)) (λ a e. behind_same stack n a.0 a.1 (omega (arith, unary_shorter n ts a e)))

  named_same : (name : List ℕ) (n : ℕ) (ts : Toks) → 4 * suc (length ts) ≤ k → named_of rec name n ts ≡ named_of reads name n ts
  unfolding named_of
  named_same name n (parts.Sign signs.OpenSquare ∷ ts) le = ap (λ (z : Answer). z >>= λ i. past_of signs.CloseSquare i.1 >>= λ rest. Some (expressions.Element name i.0, rest)) (below (whole (n - 1) ts) (omega arith))
  named_same name n ts le = refl

  inside_same : (n : ℕ) (ts : Toks) → 4 * suc (length ts) ≤ k → inside_of rec n ts ≡ inside_of reads n ts
  unfolding inside_of
  inside_same n ts le = ap (λ (z : Answer). z >>= λ a. past_of signs.CloseRound a.1 >>= λ rest. Some (a.0, rest)) (below (whole n ts) (omega arith))

  primary_same : (n : ℕ) (ts : Toks) → 4 * length ts ≤ k → primary_of rec n ts ≡ primary_of reads n ts
  unfolding primary_of
  primary_same n (parts.Named name ∷ ts) le = named_same name n ts (omega arith)
  primary_same n (parts.Sign signs.OpenRound ∷ ts) le = inside_same n ts (omega arith)
  primary_same n _ le = refl

  unary_same : (n : ℕ) (ts : Toks) → 4 * length ts ≤ k → unary_of rec n ts ≡ unary_of reads n ts
  unfolding unary_of
  unary_same zero ts le = refl
  unary_same (suc n) (parts.Sign signs.Tilde ∷ ts) le = ap (λ (z : Answer). z >>= λ a. Some (expressions.Complement a.0, a.1)) (below (unary n ts) (omega arith))
  unary_same (suc n) (parts.Sign signs.Exclamation ∷ ts) le = ap (λ (z : Answer). z >>= λ a. Some (expressions.Negate a.0, a.1)) (below (unary n ts) (omega arith))
  unary_same (suc n) (parts.Sign signs.OpenRound ∷ parts.TypeWord shape ∷ parts.Sign signs.CloseRound ∷ ts) le = ap (λ (z : Answer). z >>= λ a. Some (expressions.Cast shape a.0, a.1)) (below (unary n ts) (omega arith))
  unary_same (suc n) ts le = primary_same (suc n) ts le

reads_is : (t : Task) → reads t ≡ step reads t
unfolding reads
reads_is t = fix_is size None step t ∙ go t.want t.budget t.tokens
  where
    below : (t : Task) → IsBelow (size t) (guarded size None reads t)
    below t v less = rw (lt-ltb (size v) (size t) less) refl

    go : (w : Want) (n : ℕ) (ts : Toks) → step (guarded size None reads (record { want = w; budget = n; tokens = ts })) (record { want = w; budget = n; tokens = ts }) ≡ step reads (record { want = w; budget = n; tokens = ts })
    go Whole n ts = whole_same (guarded size None reads (whole n ts)) (size (whole n ts)) (below (whole n ts)) n ts (omega arith)
    go (Operands stack) n ts = operands_same (guarded size None reads (operands stack n ts)) (size (operands stack n ts)) (below (operands stack n ts)) stack n ts (omega arith)
    go Unary n ts = unary_same (guarded size None reads (unary n ts)) (size (unary n ts)) (below (unary n ts)) n ts (omega arith)

-- ---- case by case

pub at_whole : (n : ℕ) (ts : Toks) → reads (whole n ts) ≡ whole_of reads n ts
at_whole n ts = reads_is (whole n ts)

pub at_operands : (stack : Stack ExprTree) (n : ℕ) (ts : Toks) → reads (operands stack n ts) ≡ operands_of reads stack n ts
at_operands stack n ts = reads_is (operands stack n ts)

pub at_unary : (n : ℕ) (ts : Toks) → reads (unary n ts) ≡ unary_of reads n ts
at_unary n ts = reads_is (unary n ts)
