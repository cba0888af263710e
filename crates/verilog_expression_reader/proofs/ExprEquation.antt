-- Reading meets its equation: it is one step, whose parts are read in the same way.
use Rattle.std.proofs.Common.{◌≡◌, ℕ, zero, suc, ◌+◌, ◌-◌, ◌*◌, ◌<◌, ◌≤◌, cond, ltb, List, [], ◌∷◌, length, drop, Option, Some, None, refl, ap, ◌∙◌, arith}
use Rattle.std.proofs.lemmas.Bool.{lt-ltb}
use Rattle.std.proofs.lemmas.List.{length-append, length-drop}
use Rattle.lisa_words.specs.declared.binary.Operator.{Operator}
use Rattle.operator_levels.specs.Stacks.{Stack}
use Rattle.lisa_words.specs.Fix.{guarded}
use Rattle.lisa_words.specs.Steps.{◌>>=◌}
use Rattle.lisa_words.proofs.Fixed.{fix_is}
use Rattle.lisa_words.proofs.StepLaws.{bind_same}
use Rattle.verilog_text.specs.declared.expressions.VOne.TheVariants as ones
use Rattle.verilog_text.specs.declared.tokens.VSign.TheVariants as signs
use Rattle.verilog_text.specs.Tokens as tokens
use Rattle.verilog_places.specs.Trees as trees
use Rattle.verilog_places.specs.Trees.{PlacedTree, PlacedTrees, moved, choose}
use Rattle.verilog_places.specs.Spelling.{PlacedToks}
use Rattle.verilog_expression_reader.specs.Past.{past_of}
use Rattle.verilog_expression_reader.specs.Reading.{depth, Want, Whole, Operands, Unary, Primary, Parts, Task, Answer, Reader, whole, operands, unary, primary, parts, all_then, operator_at, branches_of, choice_of, whole_of, push, go_on, behind_of, operands_of, cell_of, index_of, named_of, inside_of, more_of, parts_of, join_of, repeat_of, braces_of, primary_of, unary_of, step, size, reads}
use Rattle.verilog_expression_reader.proofs.PastLaws.{past_shorter}
use Rattle.verilog_expression_reader.proofs.ExprSound.{reads_sound, operator_front}

pub whole_shorter : (n : ℕ) (ts : PlacedToks) (x : PlacedTree × PlacedToks) → reads (whole n ts) ≡ Some x → length x.1 < length ts
whole_shorter n ts x e = let t = reads_sound (whole n ts) x e in omega (arith, t.some, length-append t.front x.1, ap length t.split)

operands_shorter : (stack : Stack PlacedTree) (n : ℕ) (ts : PlacedToks) (x : PlacedTree × PlacedToks) → reads (operands stack n ts) ≡ Some x → length x.1 < length ts
operands_shorter stack n ts x e = let t = reads_sound (operands stack n ts) x e in omega (arith, t.some, length-append t.front x.1, ap length t.split)

unary_shorter : (n : ℕ) (ts : PlacedToks) (x : PlacedTree × PlacedToks) → reads (unary n ts) ≡ Some x → length x.1 < length ts
unary_shorter n ts x e = let t = reads_sound (unary n ts) x e in omega (arith, t.some, length-append t.front x.1, ap length t.split)

abbrev IsBelow : ℕ → Reader → Type 0
IsBelow k rec = (v : Task) → size v < k → rec v ≡ reads v

-- a call, and what is made of its answer
called : (v : Task) (rec : Reader) (f g : PlacedTree × PlacedToks → Answer) → rec v ≡ reads v → ((x : PlacedTree × PlacedToks) → reads v ≡ Some x → f x ≡ g x) → (rec v >>= f) ≡ (reads v >>= g)
called v rec f g e h = ap (λ (o : Answer). o >>= f) e ∙ bind_same (reads v) f g h

module _ (rec : Reader) (k : ℕ) (below : IsBelow k rec) where
  branches_same : (c : PlacedTree) (n : ℕ) (ts : PlacedToks) → 5 * suc (length ts) ≤ k → branches_of rec c n ts ≡ branches_of reads c n ts
  unfolding branches_of
  branches_same c n ts le =
      ap (λ (z : Answer). cond (ltb (depth c) n) z None)
      (called (whole (n - 1) ts) rec (λ a. past_of signs.Colon a.1 >>= λ rest. rec (whole (n - 1) rest) >>= λ b. Some (choose c a.0 b.0, b.1)) (λ a. past_of signs.Colon a.1 >>= λ rest. reads (whole (n - 1) rest) >>= λ b. Some (choose c a.0 b.0, b.1)) (below (whole (n - 1) ts) (omega arith))
      (λ a e. bind_same (past_of signs.Colon a.1) (λ rest. rec (whole (n - 1) rest) >>= λ b. Some (choose c a.0 b.0, b.1)) (λ rest. reads (whole (n - 1) rest) >>= λ b. Some (choose c a.0 b.0, b.1))
      (λ rest p. ap (λ (z : Answer). z >>= λ b. Some (choose c a.0 b.0, b.1)) (below (whole (n - 1) rest) (omega (arith, whole_shorter (n - 1) ts a e, past_shorter signs.Colon a.1 rest p))))))

  choice_same : (c : PlacedTree) (n : ℕ) (ts : PlacedToks) → 5 * length ts ≤ k → choice_of rec c n ts ≡ choice_of reads c n ts
  choice_same c n ((at, tokens.Mark signs.Question) ∷ ts) le = branches_same c n ts (omega arith)
  choice_same c n ts le = refl

  whole_same : (n : ℕ) (ts : PlacedToks) → 5 * length ts + 3 ≤ k → whole_of rec n ts ≡ whole_of reads n ts
  unfolding whole_of
  whole_same n ts le = called (operands [] n ts) rec (λ a. choice_of rec a.0 n a.1) (λ a. choice_of reads a.0 n a.1) (below (operands [] n ts) (omega arith)) (λ a e. choice_same a.0 n a.1 (omega (arith, operands_shorter [] n ts a e)))

  behind_same : (stack : Stack PlacedTree) (n : ℕ) (t : PlacedTree) (ts : PlacedToks) → 5 * length ts ≤ k → behind_of rec stack n t ts ≡ behind_of reads stack n t ts
  unfolding behind_of
  behind_same stack n t ts le = go (operator_at ts) refl
    where
      go : (o : Option Operator) → operator_at ts ≡ o → go_on o rec stack n t ts ≡ go_on o reads stack n t ts
      go None is = refl
      go (Some o) is =
          let f = operator_front o ts is in
          bind_same (push n stack t o) (λ more. rec (operands more n (drop 1 ts))) (λ more. reads (operands more n (drop 1 ts))) (λ more e. below (operands more n (drop 1 ts)) (omega (arith, length-drop 1 ts, ap length f.is)))

  operands_same : (stack : Stack PlacedTree) (n : ℕ) (ts : PlacedToks) → 5 * length ts + 2 ≤ k → operands_of rec stack n ts ≡ operands_of reads stack n ts
  unfolding operands_of
  operands_same stack n ts le = called (unary n ts) rec (λ a. behind_of rec stack n a.0 a.1) (λ a. behind_of reads stack n a.0 a.1) (below (unary n ts) (omega arith)) (λ a e. behind_same stack n a.0 a.1 (omega (arith, unary_shorter n ts a e)))

  cell_same : (at : ℕ) (name : List ℕ) (n : ℕ) (ts : PlacedToks) → 5 * suc (length ts) ≤ k → cell_of rec at name n ts ≡ cell_of reads at name n ts
  unfolding cell_of
  cell_same at name n ts le = ap (λ (z : Answer). z >>= λ i. past_of signs.CloseSquare i.1 >>= λ rest. Some (trees.Cell at name i.0, rest)) (below (whole (n - 1) ts) (omega arith))

  index_same : (at : ℕ) (name : List ℕ) (n : ℕ) (ts : PlacedToks) → 5 * suc (length ts) ≤ k → index_of rec at name n ts ≡ index_of reads at name n ts
  index_same at name n ((p, tokens.Plain high digits) ∷ ts) le = refl
  index_same at name n ts le = cell_same at name n ts le

  named_same : (at : ℕ) (name : List ℕ) (n : ℕ) (ts : PlacedToks) → 5 * suc (length ts) ≤ k → named_of rec at name n ts ≡ named_of reads at name n ts
  unfolding named_of
  named_same at name n ((p, tokens.Mark signs.OpenSquare) ∷ ts) le = index_same at name n ts (omega arith)
  named_same at name n ts le = refl

  inside_same : (at n : ℕ) (ts : PlacedToks) → 5 * suc (length ts) ≤ k → inside_of rec at n ts ≡ inside_of reads at n ts
  unfolding inside_of
  inside_same at n ts le = ap (λ (z : Answer). z >>= λ a. past_of signs.CloseRound a.1 >>= λ rest. Some (moved at a.0, rest)) (below (whole n ts) (omega arith))

  more_same : (before : PlacedTrees) (n : ℕ) (ts : PlacedToks) → 5 * length ts ≤ k → more_of rec before n ts ≡ more_of reads before n ts
  more_same before n ((p, tokens.Mark signs.Comma) ∷ ts) le = below (parts before n ts) (omega arith)
  more_same before n ts le = refl

  parts_same : (before : PlacedTrees) (n : ℕ) (ts : PlacedToks) → 5 * length ts + 4 ≤ k → parts_of rec before n ts ≡ parts_of reads before n ts
  unfolding parts_of
  parts_same before n ts le =
      called (whole n ts) rec (λ a. more_of rec (all_then before (trees.Then a.0 trees.End)) n a.1) (λ a. more_of reads (all_then before (trees.Then a.0 trees.End)) n a.1) (below (whole n ts) (omega arith))
      (λ a e. more_same (all_then before (trees.Then a.0 trees.End)) n a.1 (omega (arith, whole_shorter n ts a e)))

  join_same : (at n : ℕ) (ts : PlacedToks) → 5 * suc (length ts) ≤ k → join_of rec at n ts ≡ join_of reads at n ts
  unfolding join_of
  join_same at n ts le = ap (λ (z : Answer). z >>= λ a. past_of signs.CloseBrace a.1 >>= λ rest. Some (moved at a.0, rest)) (below (parts trees.End (n - 1) ts) (omega arith))

  repeat_same : (at times n : ℕ) (ts : PlacedToks) → 5 * suc (length ts) ≤ k → repeat_of rec at times n ts ≡ repeat_of reads at times n ts
  unfolding repeat_of
  repeat_same at times n ts le =
      ap (λ (z : Answer). cond (ltb 0 times) (z >>= λ a. past_of signs.CloseBrace a.1 >>= λ rest. past_of signs.CloseBrace rest >>= λ behind. Some (trees.Repeat at times a.0, behind)) None) (below (whole (n - 1) ts) (omega arith))

  braces_same : (at n : ℕ) (ts : PlacedToks) → 5 * suc (length ts) ≤ k → braces_of rec at n ts ≡ braces_of reads at n ts
  braces_same at n ((p, tokens.Plain times digits) ∷ (q, tokens.Mark signs.OpenBrace) ∷ ts) le = repeat_same at times n ts (omega arith)
  braces_same at n ts le = join_same at n ts le

  primary_same : (n : ℕ) (ts : PlacedToks) → 5 * length ts ≤ k → primary_of rec n ts ≡ primary_of reads n ts
  unfolding primary_of
  primary_same zero ts le = refl
  primary_same (suc n) ((at, tokens.Named name) ∷ ts) le = named_same at name (suc n) ts (omega arith)
  primary_same (suc n) ((at, tokens.Mark signs.OpenRound) ∷ ts) le = inside_same at (suc n) ts (omega arith)
  primary_same (suc n) ((at, tokens.Mark signs.OpenBrace) ∷ ts) le = braces_same at (suc n) ts (omega arith)
  primary_same (suc n) _ le = refl

  unary_same : (n : ℕ) (ts : PlacedToks) → 5 * length ts + 1 ≤ k → unary_of rec n ts ≡ unary_of reads n ts
  unfolding unary_of
  unary_same zero ts le = refl
  unary_same (suc n) ((at, tokens.Mark signs.Tilde) ∷ ts) le = ap (λ (z : Answer). z >>= λ a. Some (trees.One at ones.Complement a.0, a.1)) (below (primary n ts) (omega arith))
  unary_same (suc n) ((at, tokens.Mark signs.Exclamation) ∷ ts) le = ap (λ (z : Answer). z >>= λ a. Some (trees.One at ones.Negate a.0, a.1)) (below (primary n ts) (omega arith))
  unary_same (suc n) ts le = below (primary (suc n) ts) (omega arith)

reads_is : (t : Task) → reads t ≡ step reads t
unfolding reads
reads_is t = fix_is size None step t ∙ go t.want t.budget t.tokens
  where
    below : (t : Task) → IsBelow (size t) (guarded size None reads t)
    below t v less = rw (lt-ltb (size v) (size t) less) refl

    go : (w : Want) (n : ℕ) (ts : PlacedToks) → step (guarded size None reads (record { want = w; budget = n; tokens = ts })) (record { want = w; budget = n; tokens = ts }) ≡ step reads (record { want = w; budget = n; tokens = ts })
    go Whole n ts = whole_same (guarded size None reads (whole n ts)) (size (whole n ts)) (below (whole n ts)) n ts (omega arith)
    go (Operands stack) n ts = operands_same (guarded size None reads (operands stack n ts)) (size (operands stack n ts)) (below (operands stack n ts)) stack n ts (omega arith)
    go Unary n ts = unary_same (guarded size None reads (unary n ts)) (size (unary n ts)) (below (unary n ts)) n ts (omega arith)
    go Primary n ts = primary_same (guarded size None reads (primary n ts)) (size (primary n ts)) (below (primary n ts)) n ts (omega arith)
    go (Parts before) n ts = parts_same (guarded size None reads (parts before n ts)) (size (parts before n ts)) (below (parts before n ts)) before n ts (omega arith)

-- ---- case by case

pub at_whole : (n : ℕ) (ts : PlacedToks) → reads (whole n ts) ≡ whole_of reads n ts
at_whole n ts = reads_is (whole n ts)

pub at_operands : (stack : Stack PlacedTree) (n : ℕ) (ts : PlacedToks) → reads (operands stack n ts) ≡ operands_of reads stack n ts
at_operands stack n ts = reads_is (operands stack n ts)

pub at_unary : (n : ℕ) (ts : PlacedToks) → reads (unary n ts) ≡ unary_of reads n ts
at_unary n ts = reads_is (unary n ts)

pub at_primary : (n : ℕ) (ts : PlacedToks) → reads (primary n ts) ≡ primary_of reads n ts
at_primary n ts = reads_is (primary n ts)

pub at_parts : (before : PlacedTrees) (n : ℕ) (ts : PlacedToks) → reads (parts before n ts) ≡ parts_of reads before n ts
at_parts before n ts = reads_is (parts before n ts)
