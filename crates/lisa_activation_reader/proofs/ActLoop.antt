-- What the loop over items keeps.
use Rattle.std.proofs.Common.{◌≡◌, ℕ, true, false, List, [], ◌∷◌, ◌++◌, Some, None, refl, sym, ap, ◌∙◌}
use Rattle.lisa_tree.specs.declared.descriptions.Act.{Act}
use Rattle.lisa_tree.specs.Activations.{ActTree, ActTrees, End, Then, act_tree, act_trees}
use Rattle.lisa_tree.specs.Grammar.{Toks}
use Rattle.lisa_words.specs.Steps.{◌>>=◌}
use Rattle.lisa_behav_reader.specs.declared.misses.Missed.{Missed}
use Rattle.lisa_behav_reader.specs.declared.misses.Missed.TheVariants as misses
use Rattle.lisa_behav_reader.specs.Gives.{Fails}
use Rattle.lisa_activation_reader.specs.Reading.{one, more, Answer, Answers, has_comma, and_more, items_of, further_of, more_of, acts}
use Rattle.lisa_activation_reader.specs.Gives.{glue, with_front}
use Rattle.lisa_activation_reader.proofs.ActEquation.{acts_is}

glue-End : (all : ActTrees) → glue all End ≡ all
glue-End End = refl
glue-End (Then a all) = ap (Then a) (glue-End all)

glue_more : (all : ActTrees) (a : ActTree) (more : ActTrees) → glue all (Then a more) ≡ glue (glue all (Then a End)) more
glue_more End a more = refl
glue_more (Then b all) a more = ap (Then b) (glue_more all a more)

pub act_trees-push : (all : List Act) (a : Act) → act_trees (all ++ a ∷ []) ≡ glue (act_trees all) (Then (act_tree a) End)
act_trees-push [] a = refl
act_trees-push (x ∷ all) a = ap (Then (act_tree x)) (act_trees-push all a)

more_is : (n : ℕ) (ts : Toks) → true ≡ has_comma ts → acts (more n ts) ≡ and_more acts n (further_of acts n ts)
unfolding more_of
more_is n ts e = acts_is (more n ts) ∙ rw (← e) refl

regroup : (front : ActTrees) (a : ActTree) (r : Answers) → with_front front (r >>= λ x. Some (Then a x.0, x.1)) ≡ with_front (glue front (Then a End)) r
regroup front a None = refl
regroup front a (Some x) = ap (λ (all : ActTrees). Some (all, x.1)) (glue_more front a x.0)

with_one : (a : ActTree) (r : Answers) → with_front (Then a End) r ≡ (r >>= λ all. Some (Then a all.0, all.1))
with_one a None = refl
with_one a (Some x) = refl

pub starts : (n : ℕ) (ts after : Toks) (a : ActTree) → acts (one n ts) ≡ Some (a, after) → with_front (Then a End) (acts (more n after)) ≡ items_of acts n ts
starts n ts after a e = with_one a (acts (more n after)) ∙ sym (ap (and_more acts n) e)

pub start_fails : (n : ℕ) (ts : Toks) (e : Missed) → Fails e (acts (one n ts)) → Fails e (items_of acts n ts)
start_fails n ts misses.NoMemory h = tt
start_fails n ts (misses.At left) h = ap (and_more acts n) h

module _ (n : ℕ) (front : ActTrees) (ts : Toks) (total : Answers) (so_far : with_front front (acts (more n ts)) ≡ total) where
  pub goes_on : (a : ActTree) (after : Toks) → true ≡ has_comma ts → further_of acts n ts ≡ Some (a, after) → with_front (glue front (Then a End)) (acts (more n after)) ≡ total
  goes_on a after e h =
      sym (regroup front a (acts (more n after)))
      ∙ ap (λ (z : Answer). with_front front (and_more acts n z)) (sym h)
      ∙ ap (with_front front) (sym (more_is n ts e)) ∙ so_far

  pub fails_on : (e : Missed) → true ≡ has_comma ts → Fails e (further_of acts n ts) → Fails e total
  fails_on misses.NoMemory e h = tt
  fails_on (misses.At left) e h =
      sym so_far ∙ ap (with_front front) (more_is n ts e) ∙ ap (λ (z : Answer). with_front front (and_more acts n z)) h

  pub is_done : false ≡ has_comma ts → total ≡ Some (front, ts)
  unfolding more_of
  is_done e =
      let none : acts (more n ts) ≡ Some (End, ts) = acts_is (more n ts) ∙ rw (← e) refl in
      sym so_far ∙ ap (with_front front) none ∙ ap (λ (all : ActTrees). Some (all, ts)) (glue-End front)
