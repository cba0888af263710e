-- What is spelled as items is read.
use Rattle.std.proofs.Common.{◌≡◌, ℕ, zero, suc, ◌-◌, ◌<◌, ◌≤◌, Bool, true, false, cond, [], ◌∷◌, ◌++◌, Option, Some, refl, ap, ◌∙◌, append_assoc, arith}
use Rattle.lisa_tree.specs.declared.tokens.Keyword.TheVariants as keywords
use Rattle.lisa_tree.specs.declared.tokens.Sign.TheVariants as signs
use Rattle.lisa_tree.specs.declared.tokens.TokenPart.TheVariants as parts
use Rattle.lisa_tree.specs.Expressions.{ExprTree}
use Rattle.lisa_tree.specs.Activations as activations
use Rattle.lisa_tree.specs.Activations.{ActTree, ActTrees, act_depth, acts_depth}
use Rattle.lisa_tree.specs.Grammar.{Toks, mark}
use Rattle.lisa_tree.specs.DescriptionGrammar as grammar
use Rattle.lisa_tree.specs.DescriptionGrammar.{word, SpellsAct, SpellsActs}
use Rattle.lisa_words.specs.Steps.{◌>>=◌}
use Rattle.lisa_behav_reader.specs.Past.{past_of}
use Rattle.lisa_behav_reader.specs.Places.{closes_block}
use Rattle.lisa_behav_reader.proofs.StmtSound.{not_else}
use Rattle.lisa_behav_reader.proofs.StmtComplete.{test_there}
use Rattle.lisa_activation_reader.specs.Reading.{one, more, Answers, has_comma, and_more, items_of, all_of, braced_of, else_of, if_of, one_of, further_of, more_of, acts}
use Rattle.lisa_activation_reader.proofs.ActEquation.{acts_is}

-- there is an item
abbrev is_some : ActTrees → Bool
is_some activations.End = false
is_some (activations.Then a all) = true

-- an item doesn't begin with `}`
act_goes : {ts : Toks} {a : ActTree} → SpellsAct ts a → (rest : Toks) → closes_block (ts ++ rest) ≡ false
act_goes grammar.start rest = refl
act_goes (grammar.choose d f is) rest = ap (λ (l : Toks). closes_block (l ++ rest)) is
act_goes (grammar.otherwise d f g is) rest = ap (λ (l : Toks). closes_block (l ++ rest)) is

closed_free : (ts : Toks) → closes_block ts ≡ true → not_else ts ≡ true
closed_free (parts.Sign signs.CloseBrace ∷ ts) e = refl
closed_free _ e = absurd cc

closed_ends : (ts : Toks) → closes_block ts ≡ true → has_comma ts ≡ false
closed_ends (parts.Sign signs.CloseBrace ∷ ts) e = refl
closed_ends _ e = absurd cc

else_stops : (e : ExprTree) (all : ActTrees) (n : ℕ) (ts : Toks) → not_else ts ≡ true → else_of acts e all n ts ≡ Some (activations.Choose e all, ts)
unfolding else_of
else_stops e all n (parts.Reserved keywords.Else ∷ ts) free = absurd cc
else_stops e all n ts free = refl

more_stops : (n : ℕ) (ts : Toks) → closes_block ts ≡ true → acts (more n ts) ≡ Some (activations.End, ts)
unfolding more_of
more_stops n ts e = acts_is (more n ts) ∙ ap (λ (b : Bool). cond b (and_more acts n (further_of acts n ts)) (Some (activations.End, ts))) (closed_ends ts e)

more_there : (n : ℕ) (ts : Toks) → acts (more n (mark signs.Comma ∷ ts)) ≡ items_of acts n ts
unfolding more_of further_of
more_there n ts = acts_is (more n (mark signs.Comma ∷ ts))

-- items up to a `}` are read, where one or more of them are
entire : {ts : Toks} {all : ActTrees} → SpellsActs ts all → (n : ℕ) (rest : Toks) → closes_block rest ≡ true → (is_some all ≡ true → items_of acts n (ts ++ rest) ≡ Some (all, rest)) → all_of acts n (ts ++ rest) ≡ Some (all, rest)
unfolding all_of
entire grammar.none n rest e items = ap (λ (b : Bool). cond b (Some (activations.End, rest)) (items_of acts n rest)) e
entire (grammar.one {ts = ts} d) n rest e items =
    ap (λ (b : Bool). cond b (Some (activations.End, ts ++ rest)) (items_of acts n (ts ++ rest))) (act_goes d rest) ∙ items refl
entire (grammar.more {ts = ts} {xs = xs} {ys = ys} d f is) n rest e items =
    let goes : closes_block (ts ++ rest) ≡ false = ap (λ (l : Toks). closes_block (l ++ rest)) is ∙ ap closes_block (append_assoc xs (mark signs.Comma ∷ ys) rest) ∙ act_goes d (mark signs.Comma ∷ (ys ++ rest)) in
    ap (λ (b : Bool). cond b (Some (activations.End, ts ++ rest)) (items_of acts n (ts ++ rest))) goes ∙ items refl

-- `{ items }` is read where the items are
braced_there : (n : ℕ) (ys rest : Toks) (all : ActTrees) → all_of acts n (ys ++ (mark signs.CloseBrace ∷ rest)) ≡ Some (all, mark signs.CloseBrace ∷ rest) → braced_of acts n (mark signs.OpenBrace ∷ (ys ++ (mark signs.CloseBrace ∷ rest))) ≡ Some (all, rest)
unfolding braced_of
braced_there n ys rest all e = ap (λ (z : Answers). z >>= λ x. past_of signs.CloseBrace x.1 >>= λ after. Some (x.0, after)) e

act_positive : (a : ActTree) → 0 < act_depth a
act_positive (activations.Start name) = omega arith
act_positive (activations.Choose e all) = omega arith
act_positive (activations.ChooseElse e all others) = omega arith

-- one step, where there is room for an item
by_step : (n : ℕ) (a : ActTree) (us rest : Toks) → act_depth a ≤ n → ((m : ℕ) → n ≡ suc m → one_of acts (suc m) us ≡ Some (a, rest)) → acts (one n us) ≡ Some (a, rest)
by_step zero a us rest le f = absurd (omega (arith, act_positive a))
by_step (suc m) a us rest le f = acts_is (one (suc m) us) ∙ f m refl

mutual
  unfolding one_of if_of else_of

  pub act_complete : {ts : Toks} {a : ActTree} → SpellsAct ts a → (n : ℕ) (rest : Toks) → act_depth a ≤ n → not_else rest ≡ true → acts (one n (ts ++ rest)) ≡ Some (a, rest)
  act_complete (grammar.start {name = name}) n rest le free = by_step n (activations.Start name) _ rest le (λ m same. refl)
  act_complete (grammar.choose {xs = xs} {ys = ys} {test = e} {all = all} d f is) n rest le free = by_step n (activations.Choose e all) _ rest le (λ m same.
      let regrouped = ap (λ (l : Toks). l ++ rest) is ∙ ap (λ (l : Toks). word keywords.If ∷ mark signs.OpenRound ∷ l) (append_assoc xs (mark signs.CloseRound ∷ mark signs.OpenBrace ∷ (ys ++ mark signs.CloseBrace ∷ [])) rest ∙ ap (λ (l : Toks). xs ++ (mark signs.CloseRound ∷ mark signs.OpenBrace ∷ l)) (append_assoc ys (mark signs.CloseBrace ∷ []) rest)) in
      ap (one_of acts (suc m)) regrouped
      ∙ ap (λ (z : Option (ExprTree × Toks)). z >>= λ x. braced_of acts (suc m - 1) x.1 >>= λ y. else_of acts x.0 y.0 (suc m) y.1) (test_there (suc m - 1) e xs (mark signs.OpenBrace ∷ (ys ++ (mark signs.CloseBrace ∷ rest))) d (omega arith))
      ∙ ap (λ (z : Answers). z >>= λ y. else_of acts e y.0 (suc m) y.1) (braced_there (suc m - 1) ys rest all (entire f (suc m - 1) (mark signs.CloseBrace ∷ rest) refl (λ h. items_complete f (suc m - 1) (mark signs.CloseBrace ∷ rest) (omega arith) refl h)))
      ∙ else_stops e all (suc m) rest free)
  act_complete (grammar.otherwise {xs = xs} {ys = ys} {zs = zs} {test = e} {all = all} {others = others} d f g is) n rest le free = by_step n (activations.ChooseElse e all others) _ rest le (λ m same.
      let last : Toks = mark signs.OpenBrace ∷ (zs ++ mark signs.CloseBrace ∷ []) in
      let tail : Toks = word keywords.Else ∷ mark signs.OpenBrace ∷ (zs ++ (mark signs.CloseBrace ∷ rest)) in
      let regrouped = ap (λ (l : Toks). l ++ rest) is ∙ ap (λ (l : Toks). word keywords.If ∷ mark signs.OpenRound ∷ l) (append_assoc xs (mark signs.CloseRound ∷ mark signs.OpenBrace ∷ (ys ++ (mark signs.CloseBrace ∷ word keywords.Else ∷ last))) rest
      ∙ ap (λ (l : Toks). xs ++ (mark signs.CloseRound ∷ mark signs.OpenBrace ∷ l)) (append_assoc ys (mark signs.CloseBrace ∷ word keywords.Else ∷ last) rest
      ∙ ap (λ (l : Toks). ys ++ (mark signs.CloseBrace ∷ word keywords.Else ∷ mark signs.OpenBrace ∷ l)) (append_assoc zs (mark signs.CloseBrace ∷ []) rest))) in
      ap (one_of acts (suc m)) regrouped
      ∙ ap (λ (z : Option (ExprTree × Toks)). z >>= λ x. braced_of acts (suc m - 1) x.1 >>= λ y. else_of acts x.0 y.0 (suc m) y.1) (test_there (suc m - 1) e xs (mark signs.OpenBrace ∷ (ys ++ (mark signs.CloseBrace ∷ tail))) d (omega arith))
      ∙ ap (λ (z : Answers). z >>= λ y. else_of acts e y.0 (suc m) y.1) (braced_there (suc m - 1) ys tail all (entire f (suc m - 1) (mark signs.CloseBrace ∷ tail) refl (λ h. items_complete f (suc m - 1) (mark signs.CloseBrace ∷ tail) (omega arith) refl h)))
      ∙ ap (λ (z : Answers). z >>= λ y. Some (activations.ChooseElse e all y.0, y.1)) (braced_there (suc m - 1) zs rest others (entire g (suc m - 1) (mark signs.CloseBrace ∷ rest) refl (λ h. items_complete g (suc m - 1) (mark signs.CloseBrace ∷ rest) (omega arith) refl h))))

  pub items_complete : {ts : Toks} {all : ActTrees} → SpellsActs ts all → (n : ℕ) (rest : Toks) → acts_depth all ≤ n → closes_block rest ≡ true → is_some all ≡ true → items_of acts n (ts ++ rest) ≡ Some (all, rest)
  items_complete grammar.none n rest le e h = absurd cc
  items_complete (grammar.one {a = a} d) n rest le e h =
      ap (and_more acts n) (act_complete d n rest (omega arith) (closed_free rest e))
      ∙ ap (λ (z : Answers). z >>= λ all. Some (activations.Then a all.0, all.1)) (more_stops n rest e)
  items_complete (grammar.more {xs = xs} {ys = ys} {a = a} d f is) n rest le e h =
      let regrouped = ap (λ (l : Toks). l ++ rest) is ∙ append_assoc xs (mark signs.Comma ∷ ys) rest in
      ap (items_of acts n) regrouped ∙ ap (and_more acts n) (act_complete d n (mark signs.Comma ∷ (ys ++ rest)) (omega arith) refl)
      ∙ ap (λ (z : Answers). z >>= λ all. Some (activations.Then a all.0, all.1)) (more_there n (ys ++ rest) ∙ items_complete f n rest (omega arith) e refl)

pub acts_complete : {ts : Toks} {all : ActTrees} → SpellsActs ts all → (n : ℕ) (rest : Toks) → acts_depth all ≤ n → closes_block rest ≡ true → all_of acts n (ts ++ rest) ≡ Some (all, rest)
acts_complete d n rest le e = entire d n rest e (λ h. items_complete d n rest le e h)
