-- What is read as items is spelled so.
use Rattle.std.proofs.Common.{◌≡◌, ℕ, zero, suc, ◌-◌, ◌<◌, ◌≤◌, Bool, true, false, cond, ltb, [], ◌∷◌, ◌++◌, Some, refl, sym, ap, subst, ◌∙◌, append_assoc, arith}
use Rattle.std.proofs.lemmas.List.{append-nil}
use Rattle.lisa_tree.specs.declared.tokens.Keyword.TheVariants as keywords
use Rattle.lisa_tree.specs.declared.tokens.Sign.TheVariants as signs
use Rattle.lisa_tree.specs.declared.tokens.TokenPart.TheVariants as parts
use Rattle.lisa_tree.specs.Expressions.{ExprTree, expr_depth}
use Rattle.lisa_tree.specs.Activations as activations
use Rattle.lisa_tree.specs.Activations.{ActTree, ActTrees, act_depth, acts_depth}
use Rattle.lisa_tree.specs.Grammar.{Toks, mark, SpellsExpr}
use Rattle.lisa_tree.specs.DescriptionGrammar as grammar
use Rattle.lisa_tree.specs.DescriptionGrammar.{word, SpellsAct, SpellsActs}
use Rattle.lisa_words.specs.FixEach.{guarded_each, within_each, fix_each}
use Rattle.lisa_words.specs.Steps.{◌>>=◌}
use Rattle.lisa_words.proofs.StepLaws.{bind_some, some_is}
use Rattle.lisa_behav_reader.specs.Past.{past_of}
use Rattle.lisa_behav_reader.specs.Places.{closes_block}
use Rattle.lisa_behav_reader.specs.StmtReading.{test_of}
use Rattle.lisa_behav_reader.proofs.PastLaws.{past_is}
use Rattle.lisa_behav_reader.proofs.StmtSound.{test_sound}
use Rattle.lisa_activation_reader.specs.Reading.{Want, One, More, Kind, Out, Task, one, more, Reader, Answer, has_comma, and_more, items_of, all_of, braced_of, else_of, if_of, one_of, further_of, more_of, step, size, fails, acts}

-- These tokens before, and what was taken from the front, spell the item.
pub record TakesAct (n : ℕ) (before ts : Toks) (x : ActTree × Toks) : Type 0 where
  pub front : Toks
  pub parts : ts ≡ front ++ x.1
  pub spells : SpellsAct (before ++ front) x.0
  pub deep : act_depth x.0 ≤ n

pub record TakesActs (n : ℕ) (ts : Toks) (x : ActTrees × Toks) : Type 0 where
  pub front : Toks
  pub parts : ts ≡ front ++ x.1
  pub spells : SpellsActs front x.0
  pub deep : acts_depth x.0 ≤ n

-- what was taken goes on with the items behind any one
pub record TakesMore (n : ℕ) (ts : Toks) (x : ActTrees × Toks) : Type 0 where
  pub front : Toks
  pub parts : ts ≡ front ++ x.1
  pub joins : (xs : Toks) (a : ActTree) → SpellsAct xs a → SpellsActs (xs ++ front) (activations.Then a x.0)
  pub deep : acts_depth x.0 ≤ n

abbrev pub Claim : (w : Want) → ℕ → Toks → Kind w × Toks → Type 0
Claim One n ts x = TakesAct n [] ts x
Claim More n ts x = TakesMore n ts x

abbrev pub IsSound : Reader → Type 0
IsSound rec = (t : Task) (x : Kind t.want × Toks) → rec t ≡ Some x → Claim t.want t.budget t.tokens x

-- items between braces
pub record TakesBraced (n : ℕ) (ts : Toks) (x : ActTrees × Toks) : Type 0 where
  pub inner : Toks
  pub parts : ts ≡ mark signs.OpenBrace ∷ (inner ++ (mark signs.CloseBrace ∷ x.1))
  pub spells : SpellsActs inner x.0
  pub deep : acts_depth x.0 ≤ n

-- a test and what it chooses
abbrev chosen_tokens : Toks → Toks → Toks
chosen_tokens xs ys = word keywords.If ∷ mark signs.OpenRound ∷ (xs ++ (mark signs.CloseRound ∷ mark signs.OpenBrace ∷ (ys ++ mark signs.CloseBrace ∷ [])))

-- tokens that were before are part of what is taken
moved : (n : ℕ) (before ts : Toks) (x : ActTree × Toks) → TakesAct n before ts x → TakesAct n [] (before ++ ts) x
moved n before ts x t = record {
  front = before ++ t.front;
  parts = ap (λ (l : Toks). before ++ l) t.parts ∙ sym (append_assoc before t.front x.1);
  spells = t.spells;
  deep = t.deep;
}

rewritten : (n : ℕ) (ts us : Toks) (x : ActTree × Toks) → ts ≡ us → TakesAct n [] us x → TakesAct n [] ts x
rewritten n ts us x e t = subst (λ (l : Toks). TakesAct n [] l x) (sym e) t

module _ (rec : Reader) (sound : IsSound rec) where
  and_sound : (n : ℕ) (ts : Toks) (read : Answer) → ((a : ActTree × Toks) → read ≡ Some a → TakesAct n [] ts a) → (x : ActTrees × Toks) → and_more rec n read ≡ Some x → TakesActs n ts x
  and_sound n ts read takes x e =
      let b = bind_some read (λ a. rec (more n a.1) >>= λ all. Some (activations.Then a.0 all.0, all.1)) x e in
      let c = bind_some (rec (more n b.0.1)) (λ all. Some (activations.Then b.0.0 all.0, all.1)) x b.2 in
      let t = takes b.0 b.1 in
      let u = sound (more n b.0.1) c.0 c.1 in
      let made : ActTrees × Toks = (activations.Then b.0.0 c.0.0, c.0.1) in
      subst (λ (y : ActTrees × Toks). TakesActs n ts y) (some_is made x c.2) (record {
        front = t.front ++ u.front;
        parts = t.parts ∙ ap (λ (l : Toks). t.front ++ l) u.parts ∙ sym (append_assoc t.front u.front c.0.1);
        spells = u.joins t.front b.0.0 t.spells;
        deep = omega (arith, t.deep, u.deep);
      })

  items_sound : (n : ℕ) (ts : Toks) (x : ActTrees × Toks) → items_of rec n ts ≡ Some x → TakesActs n ts x
  items_sound n ts x e = and_sound n ts (rec (one n ts)) (λ a h. sound (one n ts) a h) x e

  all_sound : (n : ℕ) (ts : Toks) (x : ActTrees × Toks) → all_of rec n ts ≡ Some x → TakesActs n ts x
  unfolding all_of
  all_sound n ts x e = go (closes_block ts) e
    where
      go : (b : Bool) → cond b (Some (activations.End, ts)) (items_of rec n ts) ≡ Some x → TakesActs n ts x
      go true e = subst (λ (y : ActTrees × Toks). TakesActs n ts y) (some_is (activations.End, ts) x e) (record { front = []; parts = refl; spells = grammar.none; deep = omega arith })
      go false e = items_sound n ts x e

  braced_sound : (n : ℕ) (ts : Toks) (x : ActTrees × Toks) → braced_of rec n ts ≡ Some x → TakesBraced n ts x
  unfolding braced_of
  braced_sound n ts x e =
      let p1 = bind_some (past_of signs.OpenBrace ts) (λ a. all_of rec n a >>= λ all. past_of signs.CloseBrace all.1 >>= λ rest. Some (all.0, rest)) x e in
      let p2 = bind_some (all_of rec n p1.0) (λ all. past_of signs.CloseBrace all.1 >>= λ rest. Some (all.0, rest)) x p1.2 in
      let p3 = bind_some (past_of signs.CloseBrace p2.0.1) (λ rest. Some (p2.0.0, rest)) x p2.2 in
      let t = all_sound n p1.0 p2.0 p2.1 in
      let made : ActTrees × Toks = (p2.0.0, p3.0) in
      subst (λ (y : ActTrees × Toks). TakesBraced n ts y) (some_is made x p3.2) (record {
        inner = t.front;
        parts = past_is signs.OpenBrace ts p1.0 p1.1 ∙ ap (λ (l : Toks). mark signs.OpenBrace ∷ l) (t.parts ∙ ap (λ (l : Toks). t.front ++ l) (past_is signs.CloseBrace p2.0.1 p3.0 p3.1));
        spells = t.spells;
        deep = t.deep;
      })

  else_sound : (n : ℕ) (xs ys : Toks) (e : ExprTree) (all : ActTrees) (ts : Toks) (x : ActTree × Toks) → 0 < n → SpellsExpr 0 xs e → SpellsActs ys all → expr_depth e ≤ n - 1 → acts_depth all ≤ n - 1
      → else_of rec e all n ts ≡ Some x → TakesAct n (chosen_tokens xs ys) ts x
  unfolding else_of
  else_sound n xs ys e all (parts.Reserved keywords.Else ∷ ts) x some d f de da r =
      let b = bind_some (braced_of rec (n - 1) ts) (λ others. Some (activations.ChooseElse e all others.0, others.1)) x r in
      let t = braced_sound (n - 1) ts b.0 b.1 in
      let tail : Toks = word keywords.Else ∷ mark signs.OpenBrace ∷ (t.inner ++ mark signs.CloseBrace ∷ []) in
      let made : ActTree × Toks = (activations.ChooseElse e all b.0.0, b.0.1) in
      subst (λ (y : ActTree × Toks). TakesAct n (chosen_tokens xs ys) (parts.Reserved keywords.Else ∷ ts) y) (some_is made x b.2) (record {
        front = tail;
        parts = ap (λ (l : Toks). word keywords.Else ∷ l) (t.parts ∙ ap (λ (l : Toks). mark signs.OpenBrace ∷ l) (sym (append_assoc t.inner (mark signs.CloseBrace ∷ []) b.0.1)));
        spells = grammar.otherwise d f t.spells (ap (λ (l : Toks). word keywords.If ∷ mark signs.OpenRound ∷ l) (append_assoc xs (mark signs.CloseRound ∷ mark signs.OpenBrace ∷ (ys ++ mark signs.CloseBrace ∷ [])) tail
            ∙ ap (λ (l : Toks). xs ++ (mark signs.CloseRound ∷ mark signs.OpenBrace ∷ l)) (append_assoc ys (mark signs.CloseBrace ∷ []) tail)));
        deep = omega (arith, t.deep);
      })
  else_sound n xs ys e all ts x some d f de da r =
      subst (λ (y : ActTree × Toks). TakesAct n (chosen_tokens xs ys) ts y) (some_is (activations.Choose e all, ts) x r) (record {
        front = [];
        parts = refl;
        spells = grammar.choose d f (append-nil _);
        deep = omega arith;
      })

  if_sound : (n : ℕ) (ts : Toks) (x : ActTree × Toks) → 0 < n → if_of rec n ts ≡ Some x → TakesAct n [] (word keywords.If ∷ ts) x
  unfolding if_of
  if_sound n ts x some r =
      let b = bind_some (test_of (n - 1) ts) (λ e. braced_of rec (n - 1) e.1 >>= λ all. else_of rec e.0 all.0 n all.1) x r in
      let c = bind_some (braced_of rec (n - 1) b.0.1) (λ all. else_of rec b.0.0 all.0 n all.1) x b.2 in
      let t = test_sound (n - 1) ts b.0 b.1 in
      let u = braced_sound (n - 1) b.0.1 c.0 c.1 in
      let v = else_sound n t.inner u.inner b.0.0 c.0.0 c.0.1 x some t.spells u.spells t.deep u.deep c.2 in
      rewritten n _ (chosen_tokens t.inner u.inner ++ c.0.1) x
      (ap (λ (l : Toks). word keywords.If ∷ l) (t.parts ∙ ap (λ (l : Toks). mark signs.OpenRound ∷ (t.inner ++ (mark signs.CloseRound ∷ l))) u.parts
      ∙ ap (λ (l : Toks). mark signs.OpenRound ∷ (t.inner ++ (mark signs.CloseRound ∷ mark signs.OpenBrace ∷ l))) (sym (append_assoc u.inner (mark signs.CloseBrace ∷ []) c.0.1))
      ∙ ap (λ (l : Toks). mark signs.OpenRound ∷ l) (sym (append_assoc t.inner (mark signs.CloseRound ∷ mark signs.OpenBrace ∷ (u.inner ++ mark signs.CloseBrace ∷ [])) c.0.1))))
      (moved n (chosen_tokens t.inner u.inner) c.0.1 x v)

  one_sound : (n : ℕ) (ts : Toks) (x : ActTree × Toks) → one_of rec n ts ≡ Some x → TakesAct n [] ts x
  unfolding one_of
  one_sound zero ts x e = absurd cc
  one_sound (suc n) (parts.Named name ∷ ts) x e =
      subst (λ (y : ActTree × Toks). TakesAct (suc n) [] (parts.Named name ∷ ts) y) (some_is (activations.Start name, ts) x e) (record { front = parts.Named name ∷ []; parts = refl; spells = grammar.start; deep = omega arith })
  one_sound (suc n) (parts.Reserved keywords.If ∷ ts) x e = if_sound (suc n) ts x (omega arith) e
  one_sound (suc n) _ x e = absurd cc

  further_sound : (n : ℕ) (ts : Toks) (x : ActTree × Toks) → further_of rec n ts ≡ Some x → (us : Toks) × (ts ≡ mark signs.Comma ∷ us) × TakesAct n [] us x
  unfolding further_of
  further_sound n ts x e =
      let p = bind_some (past_of signs.Comma ts) (λ a. rec (one n a)) x e in
      (p.0, past_is signs.Comma ts p.0 p.1, sound (one n p.0) x p.2)

  more_sound : (n : ℕ) (ts : Toks) (x : ActTrees × Toks) → more_of rec n ts ≡ Some x → TakesMore n ts x
  unfolding more_of
  more_sound n ts x e = go (has_comma ts) e
    where
      go : (b : Bool) → cond b (and_more rec n (further_of rec n ts)) (Some (activations.End, ts)) ≡ Some x → TakesMore n ts x
      go false e = subst (λ (y : ActTrees × Toks). TakesMore n ts y) (some_is (activations.End, ts) x e) (record {
        front = [];
        parts = refl;
        joins = λ xs a d. subst (λ (l : Toks). SpellsActs l (activations.Then a activations.End)) (sym (append-nil xs)) (grammar.one d);
        deep = omega arith;
      })
      go true e =
          let b = bind_some (further_of rec n ts) (λ a. rec (more n a.1) >>= λ all. Some (activations.Then a.0 all.0, all.1)) x e in
          let c = bind_some (rec (more n b.0.1)) (λ all. Some (activations.Then b.0.0 all.0, all.1)) x b.2 in
          let f = further_sound n ts b.0 b.1 in
          let t = f.2 in
          let u = sound (more n b.0.1) c.0 c.1 in
          let made : ActTrees × Toks = (activations.Then b.0.0 c.0.0, c.0.1) in
          subst (λ (y : ActTrees × Toks). TakesMore n ts y) (some_is made x c.2) (record {
            front = mark signs.Comma ∷ (t.front ++ u.front);
            parts = f.1 ∙ ap (λ (l : Toks). mark signs.Comma ∷ l) (t.parts ∙ ap (λ (l : Toks). t.front ++ l) u.parts ∙ sym (append_assoc t.front u.front c.0.1));
            joins = λ xs a d. grammar.more d (u.joins t.front b.0.0 t.spells) refl;
            deep = omega (arith, t.deep, u.deep);
          })

  step_sound : IsSound (step rec)
  step_sound t x e = go t.want t.budget t.tokens x e
    where
      go : (w : Want) (n : ℕ) (ts : Toks) (x : Kind w × Toks) → step rec (record { want = w; budget = n; tokens = ts }) ≡ Some x → Claim w n ts x
      go One n ts x e = one_sound n ts x e
      go More n ts x e = more_sound n ts x e

guarded_some : (t : Task) (b : Bool) (o : Out t) (y : Kind t.want × Toks) → cond b o (fails t) ≡ Some y → o ≡ Some y
guarded_some t true o y e = e
guarded_some t false o y e = absurd cc

within_sound : (f : ℕ) → IsSound (within_each {Out = Out} size fails step f)
unfolding within_each
within_sound zero t x e = absurd cc
within_sound (suc f) t x e = step_sound (guarded_each {Out = Out} size fails (within_each {Out = Out} size fails step f) t) (λ v y e'. within_sound f v y (guarded_some v (ltb (size v) (size t)) (within_each {Out = Out} size fails step f v) y e')) t x e

pub acts_sound : IsSound acts
unfolding acts fix_each
acts_sound t x e = within_sound (suc (size t)) t x e

pub activation_sound : (n : ℕ) (ts : Toks) (x : ActTrees × Toks) → all_of acts n ts ≡ Some x → TakesActs n ts x
activation_sound n ts x e = all_sound acts acts_sound n ts x e

pub activation_braced : (n : ℕ) (ts : Toks) (x : ActTrees × Toks) → braced_of acts n ts ≡ Some x → TakesBraced n ts x
activation_braced n ts x e = braced_sound acts acts_sound n ts x e

pub further_takes : (n : ℕ) (ts : Toks) (x : ActTree × Toks) → further_of acts n ts ≡ Some x → (us : Toks) × (ts ≡ mark signs.Comma ∷ us) × TakesAct n [] us x
further_takes n ts x e = further_sound acts acts_sound n ts x e
