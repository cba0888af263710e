-- What is read as actions is spelled so.
use Rattle.std.proofs.Common.{◌≡◌, ℕ, zero, suc, ◌+◌, ◌-◌, ◌<◌, ◌≤◌, Bool, true, false, cond, ltb, List, [], ◌∷◌, ◌++◌, length, Option, Some, None, refl, sym, ap, subst, ◌∙◌, append_assoc, arith, max}
use Rattle.std.proofs.lemmas.List.{append-nil, length-append}
use Rattle.lisa_words.specs.Fix.{guarded, within as within_calls, fix}
use Rattle.lisa_words.specs.Steps.{◌>>=◌}
use Rattle.lisa_words.proofs.StepLaws.{bind_some, guard_some, some_is}
use Rattle.verilog_text.specs.declared.tokens.VKeyword.TheVariants as words
use Rattle.verilog_text.specs.declared.tokens.VSign.TheVariants as signs
use Rattle.verilog_text.specs.Tokens as tokens
use Rattle.verilog_text.specs.Trees.{VTree, v_depth, actions_depth}
use Rattle.verilog_text.specs.Trees as bares
use Rattle.verilog_places.specs.Trees as placed
use Rattle.verilog_places.specs.Trees.{PlacedTree, PlacedActions, joined, bare, bare_actions}
use Rattle.verilog_places.specs.Spelling as grammar
use Rattle.verilog_places.specs.Spelling.{PlacedToks, SpellsPlaced, SpellsPlacedAction, SpellsPlacedActions}
use Rattle.verilog_expression_reader.specs.Past.{past_of}
use Rattle.verilog_expression_reader.proofs.PastLaws.{past_is}
use Rattle.verilog_action_reader.specs.Reading.{Want, Action, Within, Task, Answer, Reader, action, within, expr, name_of, value_of, set_of, put_of, assign_of, test_of, else_of, if_of, single_of, grouped, next_of, rest_of, within_of, action_of, step, size, actions}
use Rattle.verilog_action_reader.specs.Taken.{not_else, TakesAction}
use Rattle.verilog_action_reader.proofs.ExprFacts.{expr_sound}
use Rattle.verilog_action_reader.proofs.JoinLaws.{joined_done, joined_joined, joined_depth}

-- these tokens are actions up to the `end`s of so many blocks
pub data Closes : ℕ → PlacedToks → PlacedActions → Type 0 where
  closed : {ts : PlacedToks} {all : PlacedActions} → ts ≡ [] → all ≡ placed.Done → Closes zero ts all
  close : (at : ℕ) {k : ℕ} {ts xs ys : PlacedToks} {first rest all : PlacedActions} → SpellsPlacedActions xs first → Closes k ys rest → ts ≡ xs ++ ((at, tokens.Reserved words.End) ∷ ys) → all ≡ joined first rest → Closes (suc k) ts all

pub record TakesWithin (k n : ℕ) (ts : PlacedToks) (x : PlacedActions × PlacedToks) : Type 0 where
  pub front : PlacedToks
  pub parts : ts ≡ front ++ x.1
  pub closes : Closes k front x.0
  pub deep : actions_depth (bare_actions x.0) ≤ n

abbrev pub Claim : Want → ℕ → PlacedToks → PlacedActions × PlacedToks → Type 0
Claim Action n ts x = TakesAction n [] ts x
Claim (Within k) n ts x = TakesWithin k n ts x

abbrev pub IsSound : Reader → Type 0
IsSound rec = (t : Task) (x : PlacedActions × PlacedToks) → rec t ≡ Some x → Claim t.want t.budget t.tokens x

-- tokens that were before are part of what is taken
moved : (n : ℕ) (before more ts : PlacedToks) (x : PlacedActions × PlacedToks) → TakesAction n (before ++ more) ts x → TakesAction n before (more ++ ts) x
moved n before more ts x t = record {
  front = more ++ t.front;
  parts = ap (λ (l : PlacedToks). more ++ l) t.parts ∙ sym (append_assoc more t.front x.1);
  closed = t.closed;
  spells = subst (λ (l : PlacedToks). SpellsPlacedAction t.closed l x.0) (append_assoc before more t.front) t.spells;
  free = t.free;
  deep = t.deep;
}

-- the tokens, written another way
rewritten : (n : ℕ) (before ts us : PlacedToks) (x : PlacedActions × PlacedToks) → ts ≡ us → TakesAction n before us x → TakesAction n before ts x
rewritten n before ts us x e t = subst (λ (l : PlacedToks). TakesAction n before l x) (sym e) t

depth_some : (t : PlacedTree) → 1 ≤ v_depth (bare t)
depth_some (placed.Cell at name i) = omega arith
depth_some _ = omega arith

-- ---- assignments and tests

pub record TakesValue (n : ℕ) (ts : PlacedToks) (x : PlacedTree × PlacedToks) : Type 0 where
  pub inner : PlacedToks
  pub at : ℕ
  pub parts : ts ≡ inner ++ ((at, tokens.Mark signs.Semicolon) ∷ x.1)
  pub spells : SpellsPlaced 0 inner x.0
  pub deep : suc (v_depth (bare x.0)) ≤ n

value_sound : (n : ℕ) (ts : PlacedToks) (x : PlacedTree × PlacedToks) → value_of n ts ≡ Some x → TakesValue n ts x
unfolding value_of
value_sound n ts x e =
    let p1 = bind_some (expr (n - 1) ts) (λ v. past_of signs.Semicolon v.1 >>= λ rest. Some (v.0, rest)) x e in
    let p2 = bind_some (past_of signs.Semicolon p1.0.1) (λ rest. Some (p1.0.0, rest)) x p1.2 in
    let t = expr_sound (n - 1) ts p1.0 p1.1 in
    let p = past_is signs.Semicolon p1.0.1 p2.0 p2.1 in
    let made : PlacedTree × PlacedToks = (p1.0.0, p2.0) in
    subst (λ (y : PlacedTree × PlacedToks). TakesValue n ts y) (some_is made x p2.2) (record {
      inner = t.front;
      at = p.at;
      parts = t.parts ∙ ap (λ (l : PlacedToks). t.front ++ l) p.is;
      spells = t.spells;
      deep = omega (arith, t.deep, depth_some p1.0.0);
    })

set_sound : (n at : ℕ) (name : List ℕ) (ts : PlacedToks) (x : PlacedActions × PlacedToks) → set_of name n ts ≡ Some x → TakesAction n [] ((at, tokens.Named name) ∷ ts) x
unfolding set_of
set_sound n at name ts x e =
    let p1 = bind_some (past_of signs.LessEqual ts) (λ a. value_of n a >>= λ v. Some (placed.Set name v.0 placed.Done, v.1)) x e in
    let p2 = bind_some (value_of n p1.0) (λ v. Some (placed.Set name v.0 placed.Done, v.1)) x p1.2 in
    let p = past_is signs.LessEqual ts p1.0 p1.1 in
    let t = value_sound n p1.0 p2.0 p2.1 in
    let made : PlacedActions × PlacedToks = (placed.Set name p2.0.0 placed.Done, p2.0.1) in
    subst (λ (y : PlacedActions × PlacedToks). TakesAction n [] ((at, tokens.Named name) ∷ ts) y) (some_is made x p2.2) (record {
      front = (at, tokens.Named name) ∷ (p.at, tokens.Mark signs.LessEqual) ∷ (t.inner ++ (t.at, tokens.Mark signs.Semicolon) ∷ []);
      parts = ap (λ (l : PlacedToks). (at, tokens.Named name) ∷ l) (p.is ∙ ap (λ (l : PlacedToks). (p.at, tokens.Mark signs.LessEqual) ∷ l) (t.parts ∙ sym (append_assoc t.inner ((t.at, tokens.Mark signs.Semicolon) ∷ []) p2.0.1)));
      closed = true;
      spells = grammar.set at p.at t.at t.spells refl;
      free = λ h. absurd cc;
      deep = omega (arith, t.deep);
    })

put_sound : (n at open_at : ℕ) (name : List ℕ) (ts : PlacedToks) (x : PlacedActions × PlacedToks) → put_of name n ts ≡ Some x → TakesAction n [] ((at, tokens.Named name) ∷ (open_at, tokens.Mark signs.OpenSquare) ∷ ts) x
unfolding put_of
put_sound n at open_at name ts x e =
    let p1 = bind_some (expr (n - 1) ts) (λ i. past_of signs.CloseSquare i.1 >>= λ a. past_of signs.LessEqual a >>= λ b. value_of n b >>= λ v. Some (placed.Put name i.0 v.0 placed.Done, v.1)) x e in
    let p2 = bind_some (past_of signs.CloseSquare p1.0.1) (λ a. past_of signs.LessEqual a >>= λ b. value_of n b >>= λ v. Some (placed.Put name p1.0.0 v.0 placed.Done, v.1)) x p1.2 in
    let p3 = bind_some (past_of signs.LessEqual p2.0) (λ b. value_of n b >>= λ v. Some (placed.Put name p1.0.0 v.0 placed.Done, v.1)) x p2.2 in
    let p4 = bind_some (value_of n p3.0) (λ v. Some (placed.Put name p1.0.0 v.0 placed.Done, v.1)) x p3.2 in
    let i = expr_sound (n - 1) ts p1.0 p1.1 in
    let p = past_is signs.CloseSquare p1.0.1 p2.0 p2.1 in
    let q = past_is signs.LessEqual p2.0 p3.0 p3.1 in
    let t = value_sound n p3.0 p4.0 p4.1 in
    let made : PlacedActions × PlacedToks = (placed.Put name p1.0.0 p4.0.0 placed.Done, p4.0.1) in
    let ending : PlacedToks = (t.at, tokens.Mark signs.Semicolon) ∷ [] in
    let middle : PlacedToks = (p.at, tokens.Mark signs.CloseSquare) ∷ (q.at, tokens.Mark signs.LessEqual) ∷ (t.inner ++ ending) in
    let behind : p1.0.1 ≡ middle ++ p4.0.1 =
    p.is ∙ ap (λ (l : PlacedToks). (p.at, tokens.Mark signs.CloseSquare) ∷ l) (q.is ∙ ap (λ (l : PlacedToks). (q.at, tokens.Mark signs.LessEqual) ∷ l) (t.parts ∙ sym (append_assoc t.inner ending p4.0.1))) in
    subst (λ (y : PlacedActions × PlacedToks). TakesAction n [] ((at, tokens.Named name) ∷ (open_at, tokens.Mark signs.OpenSquare) ∷ ts) y) (some_is made x p4.2) (record {
      front = (at, tokens.Named name) ∷ (open_at, tokens.Mark signs.OpenSquare) ∷ (i.front ++ middle);
      parts = ap (λ (l : PlacedToks). (at, tokens.Named name) ∷ (open_at, tokens.Mark signs.OpenSquare) ∷ l) (i.parts ∙ ap (λ (l : PlacedToks). i.front ++ l) behind ∙ sym (append_assoc i.front middle p4.0.1));
      closed = true;
      spells = grammar.put at open_at p.at q.at t.at i.spells t.spells refl;
      free = λ h. absurd cc;
      deep = omega (arith, t.deep, i.deep, depth_some p1.0.0);
    })

assign_sound : (n at : ℕ) (name : List ℕ) (ts : PlacedToks) (x : PlacedActions × PlacedToks) → assign_of name n ts ≡ Some x → TakesAction n [] ((at, tokens.Named name) ∷ ts) x
unfolding assign_of
assign_sound n at name ((open_at, tokens.Mark signs.OpenSquare) ∷ ts) x e = put_sound n at open_at name ts x e
assign_sound n at name ts x e = set_sound n at name ts x e

pub record TakesTest (n : ℕ) (ts : PlacedToks) (x : PlacedTree × PlacedToks) : Type 0 where
  pub open_at : ℕ
  pub inner : PlacedToks
  pub close_at : ℕ
  pub parts : ts ≡ (open_at, tokens.Mark signs.OpenRound) ∷ (inner ++ ((close_at, tokens.Mark signs.CloseRound) ∷ x.1))
  pub spells : SpellsPlaced 0 inner x.0
  pub deep : v_depth (bare x.0) ≤ n

pub test_sound : (n : ℕ) (ts : PlacedToks) (x : PlacedTree × PlacedToks) → test_of n ts ≡ Some x → TakesTest n ts x
unfolding test_of
test_sound n ts x e =
    let p1 = bind_some (past_of signs.OpenRound ts) (λ a. expr n a >>= λ e. past_of signs.CloseRound e.1 >>= λ rest. Some (e.0, rest)) x e in
    let p2 = bind_some (expr n p1.0) (λ e. past_of signs.CloseRound e.1 >>= λ rest. Some (e.0, rest)) x p1.2 in
    let p3 = bind_some (past_of signs.CloseRound p2.0.1) (λ rest. Some (p2.0.0, rest)) x p2.2 in
    let p = past_is signs.OpenRound ts p1.0 p1.1 in
    let t = expr_sound n p1.0 p2.0 p2.1 in
    let q = past_is signs.CloseRound p2.0.1 p3.0 p3.1 in
    let made : PlacedTree × PlacedToks = (p2.0.0, p3.0) in
    subst (λ (y : PlacedTree × PlacedToks). TakesTest n ts y) (some_is made x p3.2) (record {
      open_at = p.at;
      inner = t.front;
      close_at = q.at;
      parts = p.is ∙ ap (λ (l : PlacedToks). (p.at, tokens.Mark signs.OpenRound) ∷ l) (t.parts ∙ ap (λ (l : PlacedToks). t.front ++ l) q.is);
      spells = t.spells;
      deep = t.deep;
    })

-- ---- blocks

-- what stands before the first `end` closes nothing
pub before_end : {k : ℕ} {xs ys : PlacedToks} {a all : PlacedActions} {c : Bool} → SpellsPlacedAction c xs a → Closes (suc k) ys all → Closes (suc k) (xs ++ ys) (joined a all)
before_end {xs = xs} {a = a} d (close at {xs = us} {ys = ws} {first = first} {rest = rest} s c is e) =
    close at (grammar.some d s refl refl) c (ap (λ (l : PlacedToks). xs ++ l) is ∙ sym (append_assoc xs us ((at, tokens.Reserved words.End) ∷ ws))) (ap (joined a) e ∙ sym (joined_joined a first rest))

-- a `begin` in front opens one block more
begun_by : (k at p : ℕ) {us vs : PlacedToks} {first rest : PlacedActions} → SpellsPlacedActions us first → Closes (suc k) vs rest → Closes (suc k) ((p, tokens.Reserved words.Begin) ∷ (us ++ ((at, tokens.Reserved words.End) ∷ vs))) (joined first rest)
begun_by k at p {us} {vs} {first} {rest} s c =
    subst (λ (l : PlacedToks). Closes (suc k) ((p, tokens.Reserved words.Begin) ∷ l) (joined first rest)) (append_assoc us ((at, tokens.Reserved words.End) ∷ []) vs) (before_end (grammar.block p at s refl) c)

pub begun : {k : ℕ} {ts : PlacedToks} {all : PlacedActions} (p : ℕ) → Closes (suc (suc k)) ts all → Closes (suc k) ((p, tokens.Reserved words.Begin) ∷ ts) all
begun {k} {ts} {all} p (close at {xs = us} {ys = vs} {first = first} {rest = rest} s c is e) =
    subst (λ (l : PlacedToks). Closes (suc k) ((p, tokens.Reserved words.Begin) ∷ l) all) (sym is) (subst (λ (b : PlacedActions). Closes (suc k) ((p, tokens.Reserved words.Begin) ∷ (us ++ ((at, tokens.Reserved words.End) ∷ vs))) b) (sym e) (begun_by k at p s c))

ended : {k : ℕ} {ts : PlacedToks} {all : PlacedActions} (p : ℕ) → Closes k ts all → Closes (suc k) ((p, tokens.Reserved words.End) ∷ ts) all
ended p c = close p (grammar.none refl) c refl refl

none_left : {ts : PlacedToks} {all : PlacedActions} → Closes zero ts all → (ts ≡ []) × (all ≡ placed.Done)
none_left (closed is e) = (is, e)

-- behind a `begin`, one block is one action
one_block : {ts : PlacedToks} {all : PlacedActions} (p : ℕ) → Closes 1 ts all → SpellsPlacedAction true ((p, tokens.Reserved words.Begin) ∷ ts) all
one_block {ts} {all} p (close at {xs = xs} {ys = ys} {first = first} {rest = rest} s c is e) =
    let n = none_left c in
    subst (λ (l : PlacedToks). SpellsPlacedAction true ((p, tokens.Reserved words.Begin) ∷ l) all) (sym (is ∙ ap (λ (l : PlacedToks). xs ++ ((at, tokens.Reserved words.End) ∷ l)) n.0))
    (subst (λ (b : PlacedActions). SpellsPlacedAction true ((p, tokens.Reserved words.Begin) ∷ (xs ++ (at, tokens.Reserved words.End) ∷ [])) b) (sym (e ∙ ap (joined first) n.1 ∙ joined_done first)) (grammar.block p at s refl))

-- ---- one step

module _ (rec : Reader) (sound : IsSound rec) where
  else_sound : (c : Bool) (n p q r : ℕ) (xs ys : PlacedToks) (e : PlacedTree) (s : PlacedActions) (ts : PlacedToks) (x : PlacedActions × PlacedToks) → SpellsPlaced 0 xs e → SpellsPlacedAction c ys s → (c ≡ false → not_else ts ≡ true) → v_depth (bare e) ≤ n - 1 → actions_depth (bare_actions s) ≤ n - 1
      → else_of rec e s n ts ≡ Some x → TakesAction n ((p, tokens.Reserved words.If) ∷ (q, tokens.Mark signs.OpenRound) ∷ (xs ++ ((r, tokens.Mark signs.CloseRound) ∷ ys))) ts x
  unfolding else_of
  else_sound false n p q r xs ys e s ((at, tokens.Reserved words.Else) ∷ ts) x d f free de ds h = absurd (let no = free refl in cc)
  else_sound true n p q r xs ys e s ((at, tokens.Reserved words.Else) ∷ ts) x d f free de ds h =
      let b = bind_some (rec (action (n - 1) ts)) (λ other. Some (placed.If e s other.0 placed.Done, other.1)) x h in
      let t = sound (action (n - 1) ts) b.0 b.1 in
      let made : PlacedActions × PlacedToks = (placed.If e s b.0.0 placed.Done, b.0.1) in
      subst (λ (y : PlacedActions × PlacedToks). TakesAction n ((p, tokens.Reserved words.If) ∷ (q, tokens.Mark signs.OpenRound) ∷ (xs ++ ((r, tokens.Mark signs.CloseRound) ∷ ys))) ((at, tokens.Reserved words.Else) ∷ ts) y) (some_is made x b.2) (record {
        front = (at, tokens.Reserved words.Else) ∷ t.front;
        parts = ap (λ (l : PlacedToks). (at, tokens.Reserved words.Else) ∷ l) t.parts;
        closed = t.closed;
        spells = grammar.choose p q r at d f t.spells (ap (λ (l : PlacedToks). (p, tokens.Reserved words.If) ∷ (q, tokens.Mark signs.OpenRound) ∷ l) (append_assoc xs ((r, tokens.Mark signs.CloseRound) ∷ ys) ((at, tokens.Reserved words.Else) ∷ t.front)));
        free = t.free;
        deep = omega (arith, t.deep, depth_some e);
      })
  else_sound c n p q r xs ys e s ts x d f free de ds h =
      subst (λ (y : PlacedActions × PlacedToks). TakesAction n ((p, tokens.Reserved words.If) ∷ (q, tokens.Mark signs.OpenRound) ∷ (xs ++ ((r, tokens.Mark signs.CloseRound) ∷ ys))) ts y) (some_is (placed.If e s placed.Done placed.Done, ts) x h) (record {
        front = [];
        parts = refl;
        closed = false;
        spells = grammar.when p q r d f (append-nil _);
        free = λ g. refl;
        deep = omega (arith, depth_some e);
      })

  if_sound : (n p : ℕ) (ts : PlacedToks) (x : PlacedActions × PlacedToks) → if_of rec n ts ≡ Some x → TakesAction n [] ((p, tokens.Reserved words.If) ∷ ts) x
  unfolding if_of
  if_sound n p ts x h =
      let b = bind_some (test_of (n - 1) ts) (λ test. rec (action (n - 1) test.1) >>= λ this. else_of rec test.0 this.0 n this.1) x h in
      let c = bind_some (rec (action (n - 1) b.0.1)) (λ this. else_of rec b.0.0 this.0 n this.1) x b.2 in
      let t = test_sound (n - 1) ts b.0 b.1 in
      let u = sound (action (n - 1) b.0.1) c.0 c.1 in
      let before : PlacedToks = (p, tokens.Reserved words.If) ∷ (t.open_at, tokens.Mark signs.OpenRound) ∷ (t.inner ++ ((t.close_at, tokens.Mark signs.CloseRound) ∷ u.front)) in
      let v = else_sound u.closed n p t.open_at t.close_at t.inner u.front b.0.0 c.0.0 c.0.1 x t.spells u.spells u.free t.deep u.deep c.2 in
      rewritten n [] _ (before ++ c.0.1) x
      (ap (λ (l : PlacedToks). (p, tokens.Reserved words.If) ∷ l) (t.parts ∙ ap (λ (l : PlacedToks). (t.open_at, tokens.Mark signs.OpenRound) ∷ (t.inner ++ ((t.close_at, tokens.Mark signs.CloseRound) ∷ l))) u.parts ∙ ap (λ (l : PlacedToks). (t.open_at, tokens.Mark signs.OpenRound) ∷ l) (sym (append_assoc t.inner ((t.close_at, tokens.Mark signs.CloseRound) ∷ u.front) c.0.1))))
      (moved n [] before c.0.1 x v)

  pub single_sound : (n : ℕ) (ts : PlacedToks) (x : PlacedActions × PlacedToks) → single_of rec n ts ≡ Some x → TakesAction n [] ts x
  unfolding single_of
  single_sound n ((at, tokens.Named name) ∷ ts) x e = assign_sound n at name ts x e
  single_sound n ((at, tokens.Reserved words.If) ∷ ts) x e = if_sound n at ts x e
  single_sound n _ x e = absurd cc

  next_sound : (k n : ℕ) (ts : PlacedToks) (x : PlacedActions × PlacedToks) → next_of rec (suc k) n ts ≡ Some x → TakesWithin (suc k) n ts x
  unfolding next_of
  next_sound k n ts x e =
      let b = bind_some (single_of rec n ts) (λ first. rec (within (suc k) n first.1) >>= λ all. Some (joined first.0 all.0, all.1)) x e in
      let c = bind_some (rec (within (suc k) n b.0.1)) (λ all. Some (joined b.0.0 all.0, all.1)) x b.2 in
      let t = single_sound n ts b.0 b.1 in
      let u = sound (within (suc k) n b.0.1) c.0 c.1 in
      let made : PlacedActions × PlacedToks = (joined b.0.0 c.0.0, c.0.1) in
      subst (λ (y : PlacedActions × PlacedToks). TakesWithin (suc k) n ts y) (some_is made x c.2) (record {
        front = t.front ++ u.front;
        parts = t.parts ∙ ap (λ (l : PlacedToks). t.front ++ l) u.parts ∙ sym (append_assoc t.front u.front c.0.1);
        closes = before_end t.spells u.closes;
        deep = omega (arith, t.deep, u.deep, joined_depth b.0.0 c.0.0);
      })

  rest_sound : (n k : ℕ) (ts : PlacedToks) (x : PlacedActions × PlacedToks) → rest_of rec n (grouped k ts) ≡ Some x → TakesWithin k n ts x
  rest_sound n zero ts x e = subst (λ (y : PlacedActions × PlacedToks). TakesWithin zero n ts y) (some_is (placed.Done, ts) x e) (record { front = []; parts = refl; closes = closed refl refl; deep = omega arith })
  rest_sound n (suc k) ((at, tokens.Reserved words.Begin) ∷ ts) x e =
      let t = rest_sound n (suc (suc k)) ts x e in
      record { front = (at, tokens.Reserved words.Begin) ∷ t.front; parts = ap (λ (l : PlacedToks). (at, tokens.Reserved words.Begin) ∷ l) t.parts; closes = begun at t.closes; deep = t.deep }
  rest_sound n (suc k) ((at, tokens.Reserved words.End) ∷ ts) x e =
      let t = rest_sound n k ts x e in
      record { front = (at, tokens.Reserved words.End) ∷ t.front; parts = ap (λ (l : PlacedToks). (at, tokens.Reserved words.End) ∷ l) t.parts; closes = ended at t.closes; deep = t.deep }
  rest_sound n (suc k) ts x e = next_sound k n ts x e

  within_sound : (n k : ℕ) (ts : PlacedToks) (x : PlacedActions × PlacedToks) → within_of rec k n ts ≡ Some x → TakesWithin k n ts x
  unfolding within_of
  within_sound n k ts x e = rest_sound n k ts x e

  action_sound : (n : ℕ) (ts : PlacedToks) (x : PlacedActions × PlacedToks) → action_of rec n ts ≡ Some x → TakesAction n [] ts x
  unfolding action_of
  action_sound n ((at, tokens.Reserved words.Begin) ∷ ts) x e =
      let t = sound (within 1 n ts) x e in
      record {
        front = (at, tokens.Reserved words.Begin) ∷ t.front;
        parts = ap (λ (l : PlacedToks). (at, tokens.Reserved words.Begin) ∷ l) t.parts;
        closed = true;
        spells = one_block at t.closes;
        free = λ h. absurd cc;
        deep = t.deep;
      }
  action_sound n ts x e = single_sound n ts x e

  step_sound : IsSound (step rec)
  step_sound t x e = go t.want t.budget t.tokens x e
    where
      go : (w : Want) (n : ℕ) (ts : PlacedToks) (x : PlacedActions × PlacedToks) → step rec (record { want = w; budget = n; tokens = ts }) ≡ Some x → Claim w n ts x
      go Action n ts x e = action_sound n ts x e
      go (Within k) n ts x e = within_sound n k ts x e

within_calls_sound : (f : ℕ) → IsSound (within_calls size None step f)
unfolding within_calls
within_calls_sound zero t x e = absurd cc
within_calls_sound (suc f) t x e = step_sound (guarded size None (within_calls size None step f) t) (λ v y g. let h = guard_some (ltb (size v) (size t)) (within_calls size None step f v) y g in within_calls_sound f v y h.1) t x e

pub actions_sound : IsSound actions
unfolding actions fix
actions_sound t x e = within_calls_sound (suc (size t)) t x e

-- an action has tokens
pub some_tokens : {c : Bool} {ts : PlacedToks} {a : PlacedActions} → SpellsPlacedAction c ts a → 0 < length ts
some_tokens (grammar.block p q d is) = omega (arith, ap length is)
some_tokens (grammar.set p q r d is) = omega (arith, ap length is)
some_tokens (grammar.put p q r s t d e is) = omega (arith, ap length is)
some_tokens (grammar.when p q r d e is) = omega (arith, ap length is)
some_tokens (grammar.choose p q r s d e f is) = omega (arith, ap length is)

pub taken_shorter : (n : ℕ) (ts : PlacedToks) (x : PlacedActions × PlacedToks) → TakesAction n [] ts x → length x.1 < length ts
taken_shorter n ts x t = omega (arith, some_tokens t.spells, length-append t.front x.1, ap length t.parts)
