-- The parts of a concatenation, one behind the other.
use Rattle.std.proofs.Common.{◌≡◌, ℕ, List, [], ◌∷◌, ◌++◌, Option, Some, None, option_map, max, refl, sym, ap, ◌∙◌, arith}
use Rattle.lisa_words.specs.Steps.{◌>>=◌}
use Rattle.verilog_text.specs.declared.tokens.VSign.TheVariants as signs
use Rattle.verilog_text.specs.Tokens as tokens
use Rattle.verilog_text.specs.Trees.{parts_depth}
use Rattle.verilog_places.specs.declared.expressions.PlacedExpr.{PlacedExpr}
use Rattle.verilog_places.specs.Trees as trees
use Rattle.verilog_places.specs.Trees.{PlacedTree, PlacedTrees, placed_tree, placed_trees, bare_parts}
use Rattle.verilog_places.specs.Spelling.{PlacedToks}
use Rattle.verilog_expression_reader.specs.declared.misses.Missed.{Missed}
use Rattle.verilog_expression_reader.specs.declared.misses.Missed.TheVariants as misses
use Rattle.verilog_expression_reader.specs.Gives.{Fails}
use Rattle.verilog_expression_reader.specs.Reading.{Answer, depth, all_then, whole, parts, more_of, parts_of, reads}
use Rattle.verilog_expression_reader.specs.Past.{past_of}
use Rattle.verilog_expression_reader.proofs.ExprEquation.{at_parts}
use Rattle.verilog_expression_reader.proofs.PastLaws.{past_is}

pub trees_last : (xs : List PlacedExpr) (e : PlacedExpr) → placed_trees (xs ++ e ∷ []) ≡ all_then (placed_trees xs) (trees.Then (placed_tree e) trees.End)
trees_last [] e = refl
trees_last (x ∷ xs) e = ap (trees.Then (placed_tree x)) (trees_last xs e)

pub last_depth : (all : PlacedTrees) (e : PlacedTree) → parts_depth (bare_parts (all_then all (trees.Then e trees.End))) ≡ max (parts_depth (bare_parts all)) (depth e)
last_depth trees.End e = omega arith
last_depth (trees.Then x rest) e = omega (arith, last_depth rest e)

none_of : {A B : Type 0} (f : A → B) (o : Option A) → ((x : A) → o ≡ Some x → ⊥) → option_map f o ≡ None
none_of f None h = refl
none_of f (Some x) h = absurd (h x refl)

pub no_comma : {A : Type 0} (f : A → PlacedToks) (o : Option A) (ts : PlacedToks) → option_map f o ≡ past_of signs.Comma ts → ((x : A) → o ≡ Some x → ⊥) → past_of signs.Comma ts ≡ None
no_comma f o ts e h = sym e ∙ none_of f o h

more_goes : (before : PlacedTrees) (n : ℕ) (ts us : PlacedToks) → past_of signs.Comma ts ≡ Some us → more_of reads before n ts ≡ reads (parts before n us)
more_goes before n ts us e = let p = past_is signs.Comma ts us e in ap (more_of reads before n) p.is

more_ends : (before : PlacedTrees) (n : ℕ) (ts : PlacedToks) → past_of signs.Comma ts ≡ None → more_of reads before n ts ≡ Some (trees.Join 0 before, ts)
more_ends before n ((at, tokens.Mark signs.Comma) ∷ ts) e = absurd cc
more_ends before n ts e = refl

module _ (before : PlacedTrees) (n : ℕ) (rest : PlacedToks) (total : Answer) (so_far : reads (parts before n rest) ≡ total) where
  pub fails_part : (e : Missed) → Fails e (reads (whole n rest)) → Fails e total
  unfolding parts_of
  fails_part misses.NoMemory h = tt
  fails_part (misses.At left) h = sym so_far ∙ at_parts before n rest ∙ ap (λ (q : Answer). q >>= λ a. more_of reads (all_then before (trees.Then a.0 trees.End)) n a.1) h

  next_part : (t : PlacedTree) (after : PlacedToks) → reads (whole n rest) ≡ Some (t, after) → total ≡ more_of reads (all_then before (trees.Then t trees.End)) n after
  unfolding parts_of
  next_part t after h = sym so_far ∙ at_parts before n rest ∙ ap (λ (q : Answer). q >>= λ a. more_of reads (all_then before (trees.Then a.0 trees.End)) n a.1) h

  module _ (t : PlacedTree) (after : PlacedToks) (first : reads (whole n rest) ≡ Some (t, after)) (all : PlacedTrees) (more : all ≡ all_then before (trees.Then t trees.End)) where
    pub goes_part : (us : PlacedToks) → Some us ≡ past_of signs.Comma after → reads (parts all n us) ≡ total
    goes_part us e = ap (λ (xs : PlacedTrees). reads (parts xs n us)) more ∙ sym (next_part t after first ∙ more_goes (all_then before (trees.Then t trees.End)) n after us (sym e))

    pub ends_part : past_of signs.Comma after ≡ None → total ≡ Some (trees.Join 0 all, after)
    ends_part e = next_part t after first ∙ more_ends (all_then before (trees.Then t trees.End)) n after e ∙ ap (λ (xs : PlacedTrees). Some (trees.Join 0 xs, after)) (sym more)
