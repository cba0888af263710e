-- What is read as statements is spelled so.
use Rattle.std.proofs.Common.{◌≡◌, ℕ, zero, suc, ◌+◌, ◌-◌, ◌<◌, ◌≤◌, Bool, true, false, cond, ltb, List, [], ◌∷◌, ◌++◌, length, codes, Option, Some, None, refl, sym, ap, subst, ◌∙◌, append_assoc, arith, max}
use Rattle.std.specs.Str.{bytes_eq}
use Rattle.std.proofs.lemmas.Slice.Eq.{bytes_eq-Decides}
use Rattle.std.proofs.lemmas.List.{append-nil, length-append}
use Rattle.lisa_tree.specs.declared.tokens.Keyword.TheVariants as keywords
use Rattle.lisa_tree.specs.declared.tokens.Shape.{Shape}
use Rattle.lisa_tree.specs.declared.tokens.Sign.{Sign}
use Rattle.lisa_tree.specs.declared.tokens.Sign.TheVariants as signs
use Rattle.lisa_tree.specs.declared.tokens.TokenPart.{TokenPart}
use Rattle.lisa_tree.specs.declared.tokens.TokenPart.TheVariants as parts
use Rattle.lisa_tree.specs.Expressions as expressions
use Rattle.lisa_tree.specs.Expressions.{ExprTree, expr_depth}
use Rattle.lisa_tree.specs.Statements as statements
use Rattle.lisa_tree.specs.Statements.{HeadTree, StmtTree, StmtTrees, head_depth, stmt_depth, stmts_depth}
use Rattle.lisa_tree.specs.Grammar as grammar
use Rattle.lisa_tree.specs.Grammar.{Toks, mark, SpellsExpr, SpellsPlace, SpellsHead, SpellsStmt, SpellsStmts, shape_tokens, call_end}
use Rattle.lisa_words.specs.FixEach.{guarded_each, within_each, fix_each}
use Rattle.lisa_words.specs.Steps.{◌>>=◌}
use Rattle.lisa_words.proofs.StepLaws.{bind_some, some_is}
use Rattle.lisa_behav_reader.specs.Past.{past_of}
use Rattle.lisa_behav_reader.specs.Reading.{whole, reads, name_of}
use Rattle.lisa_behav_reader.specs.StmtReading.{Want, One, Many, Kind, Out, Task, one, many, Reader, Answer, expr, ends, assign_of, element_of, call_end_of, pipe_call, stage_call, stage_of, control_of, method_of, child_of, named_of, output_of, initial_of, value_of, local_of, test_of, set_of, head, head_from, head_of, block_of, else_of, if_of, while_of, for_of, one_of, next_of, many_of, step, size, fails, stmts}
use Rattle.lisa_behav_reader.proofs.PastLaws.{past_is}
use Rattle.lisa_behav_reader.proofs.ExprSound.{Takes, reads_sound, name_front}

-- no `else` stands at the front
abbrev pub not_else : Toks → Bool
not_else (parts.Reserved keywords.Else ∷ ts) = false
not_else _ = true

-- These tokens before, and what was taken from the front, spell the statement.
pub record TakesStmt (n : ℕ) (before ts : Toks) (x : StmtTree × Toks) : Type 0 where
  pub front : Toks
  pub parts : ts ≡ front ++ x.1
  pub closed : Bool
  pub spells : SpellsStmt closed (before ++ front) x.0
  pub free : closed ≡ false → not_else x.1 ≡ true
  pub deep : stmt_depth x.0 ≤ n

pub record TakesStmts (n : ℕ) (ts : Toks) (x : StmtTrees × Toks) : Type 0 where
  pub front : Toks
  pub parts : ts ≡ front ++ x.1
  pub spells : SpellsStmts front x.0
  pub deep : stmts_depth x.0 ≤ n

abbrev pub Claim : (w : Want) → ℕ → Toks → Kind w × Toks → Type 0
Claim One n ts x = TakesStmt n [] ts x
Claim Many n ts x = TakesStmts n ts x

abbrev pub IsSound : Reader → Type 0
IsSound rec = (t : Task) (x : Kind t.want × Toks) → rec t ≡ Some x → Claim t.want t.budget t.tokens x

-- tokens that were before are part of what is taken
moved : (n : ℕ) (before more ts : Toks) (x : StmtTree × Toks) → TakesStmt n (before ++ more) ts x → TakesStmt n before (more ++ ts) x
moved n before more ts x t = record {
  front = more ++ t.front;
  parts = ap (λ (l : Toks). more ++ l) t.parts ∙ sym (append_assoc more t.front x.1);
  closed = t.closed;
  spells = subst (λ (l : Toks). SpellsStmt t.closed l x.0) (append_assoc before more t.front) t.spells;
  free = t.free;
  deep = t.deep;
}

-- the tokens, written another way
rewritten : (n : ℕ) (before ts us : Toks) (x : StmtTree × Toks) → ts ≡ us → TakesStmt n before us x → TakesStmt n before ts x
rewritten n before ts us x e t = subst (λ (l : Toks). TakesStmt n before l x) (sym e) t

expr_sound : (n : ℕ) (ts : Toks) (x : ExprTree × Toks) → expr n ts ≡ Some x → Takes 0 n ts x
expr_sound n ts x e = reads_sound (whole n ts) x e

-- ---- statements without parts that are statements

assign_sound : (n : ℕ) (place : ExprTree) (before ts : Toks) (x : StmtTree × Toks) → 0 < n → SpellsPlace before place → expr_depth place ≤ n - 1 → assign_of place n ts ≡ Some x → TakesStmt n before ts x
unfolding assign_of
assign_sound n place before ts x some d le e =
    let p1 = bind_some (past_of signs.Equal ts) (λ a. expr (n - 1) a >>= λ v. past_of signs.Semicolon v.1 >>= λ rest. Some (statements.Assign place v.0, rest)) x e in
    let p2 = bind_some (expr (n - 1) p1.0) (λ v. past_of signs.Semicolon v.1 >>= λ rest. Some (statements.Assign place v.0, rest)) x p1.2 in
    let p3 = bind_some (past_of signs.Semicolon p2.0.1) (λ rest. Some (statements.Assign place p2.0.0, rest)) x p2.2 in
    let t = expr_sound (n - 1) p1.0 p2.0 p2.1 in
    let made : StmtTree × Toks = (statements.Assign place p2.0.0, p3.0) in
    subst (λ (y : StmtTree × Toks). TakesStmt n before ts y) (some_is made x p3.2) (record {
      front = mark signs.Equal ∷ (t.front ++ mark signs.Semicolon ∷ []);
      parts = past_is signs.Equal ts p1.0 p1.1 ∙ ap (λ (l : Toks). mark signs.Equal ∷ l) (t.parts ∙ ap (λ (l : Toks). t.front ++ l) (past_is signs.Semicolon p2.0.1 p3.0 p3.1) ∙ sym (append_assoc t.front (mark signs.Semicolon ∷ []) p3.0));
      closed = true;
      spells = grammar.assign d t.spells refl;
      free = λ h. absurd cc;
      deep = omega (arith, t.deep, le);
    })

depth_some : (t : ExprTree) → 1 ≤ expr_depth t
depth_some (expressions.Element name i) = omega arith
depth_some _ = omega arith

-- a value has a depth, so the place beside it has room
value_room : (n : ℕ) (place : ExprTree) (ts : Toks) (x : StmtTree × Toks) → assign_of place n ts ≡ Some x → 1 ≤ n - 1
unfolding assign_of
value_room n place ts x e =
    let p1 = bind_some (past_of signs.Equal ts) (λ a. expr (n - 1) a >>= λ v. past_of signs.Semicolon v.1 >>= λ rest. Some (statements.Assign place v.0, rest)) x e in
    let p2 = bind_some (expr (n - 1) p1.0) (λ v. past_of signs.Semicolon v.1 >>= λ rest. Some (statements.Assign place v.0, rest)) x p1.2 in
    let t = expr_sound (n - 1) p1.0 p2.0 p2.1 in
    omega (arith, t.deep, depth_some p2.0.0)

element_sound : (n : ℕ) (name : List ℕ) (ts : Toks) (x : StmtTree × Toks) → 0 < n → element_of name n ts ≡ Some x → TakesStmt n [] (parts.Named name ∷ mark signs.OpenSquare ∷ ts) x
unfolding element_of
element_sound n name ts x some e =
    let p1 = bind_some (expr (n - 2) ts) (λ i. past_of signs.CloseSquare i.1 >>= λ rest. assign_of (expressions.Element name i.0) n rest) x e in
    let p2 = bind_some (past_of signs.CloseSquare p1.0.1) (λ rest. assign_of (expressions.Element name p1.0.0) n rest) x p1.2 in
    let t = expr_sound (n - 2) ts p1.0 p1.1 in
    let before : Toks = parts.Named name ∷ mark signs.OpenSquare ∷ (t.front ++ mark signs.CloseSquare ∷ []) in
    let some' : 2 ≤ n = omega (arith, t.deep, depth_some p1.0.0) in
    let made = assign_sound n (expressions.Element name p1.0.0) before p2.0 x some (grammar.element t.spells refl) (omega (arith, t.deep)) p2.2 in
    rewritten n [] (parts.Named name ∷ mark signs.OpenSquare ∷ ts) (before ++ p2.0) x
    (ap (λ (l : Toks). parts.Named name ∷ mark signs.OpenSquare ∷ l) (t.parts ∙ ap (λ (l : Toks). t.front ++ l) (past_is signs.CloseSquare p1.0.1 p2.0 p2.1) ∙ sym (append_assoc t.front (mark signs.CloseSquare ∷ []) p2.0)))
    (moved n [] before p2.0 x made)

call_end_is : (ts rest : Toks) → call_end_of ts ≡ Some rest → ts ≡ call_end ++ rest
unfolding call_end_of
call_end_is ts rest e =
    let p1 = bind_some (past_of signs.OpenRound ts) (λ a. past_of signs.CloseRound a >>= λ b. past_of signs.Semicolon b) rest e in
    let p2 = bind_some (past_of signs.CloseRound p1.0) (λ b. past_of signs.Semicolon b) rest p1.2 in
    past_is signs.OpenRound ts p1.0 p1.1 ∙ ap (λ (l : Toks). mark signs.OpenRound ∷ l) (past_is signs.CloseRound p1.0 p2.0 p2.1 ∙ ap (λ (l : Toks). mark signs.CloseRound ∷ l) (past_is signs.Semicolon p2.0 rest p2.2))

same_bytes : (xs ys : List ℕ) → bytes_eq xs ys ≡ true → xs ≡ ys
same_bytes xs ys e = (bytes_eq-Decides xs ys).0 e

-- a call that ends there, as one closed statement
ended : (n : ℕ) (before ts : Toks) (s : StmtTree) (x : StmtTree × Toks) → SpellsStmt true (before ++ call_end) s → stmt_depth s ≤ n → ts ≡ call_end ++ x.1 → s ≡ x.0 → TakesStmt n before ts x
ended n before ts s x d le is same = record {
  front = call_end;
  parts = is;
  closed = true;
  spells = subst (SpellsStmt true (before ++ call_end)) same d;
  free = λ h. absurd cc;
  deep = subst (λ (u : StmtTree). stmt_depth u ≤ n) same le;
}

module _ (n : ℕ) (some : 0 < n) where
  pipe_sound : (pipe word : List ℕ) (ts rest : Toks) (x : StmtTree × Toks) → ts ≡ call_end ++ rest → pipe_call pipe word rest ≡ Some x → TakesStmt n (parts.Named pipe ∷ mark signs.Dot ∷ parts.Named word ∷ []) ts x
  pipe_sound pipe word ts rest x is e = go (bytes_eq word (codes "execute")) (bytes_eq word (codes "shift")) refl refl e
    where
      go : (b c : Bool) → bytes_eq word (codes "execute") ≡ b → bytes_eq word (codes "shift") ≡ c
          → cond b (Some (statements.Execute pipe, rest)) (cond c (Some (statements.Shift pipe, rest)) None) ≡ Some x → TakesStmt n (parts.Named pipe ∷ mark signs.Dot ∷ parts.Named word ∷ []) ts x
      go true c same _ e =
          let s = some_is (statements.Execute pipe, rest) x e in
          ended n _ ts (statements.Execute pipe) x (subst (λ (w : List ℕ). SpellsStmt true (parts.Named pipe ∷ mark signs.Dot ∷ parts.Named w ∷ call_end) (statements.Execute pipe)) (sym (same_bytes _ _ same)) grammar.execute) some
          (is ∙ ap (λ (y : StmtTree × Toks). call_end ++ y.1) s) (ap (λ (y : StmtTree × Toks). y.0) s)
      go false true _ same e =
          let s = some_is (statements.Shift pipe, rest) x e in
          ended n _ ts (statements.Shift pipe) x (subst (λ (w : List ℕ). SpellsStmt true (parts.Named pipe ∷ mark signs.Dot ∷ parts.Named w ∷ call_end) (statements.Shift pipe)) (sym (same_bytes _ _ same)) grammar.shift) some
          (is ∙ ap (λ (y : StmtTree × Toks). call_end ++ y.1) s) (ap (λ (y : StmtTree × Toks). y.0) s)
      go false false _ _ e = absurd cc

  stage_word_sound : (pipe stage word : List ℕ) (ts rest : Toks) (x : StmtTree × Toks) → ts ≡ call_end ++ rest → stage_call pipe stage word rest ≡ Some x
      → TakesStmt n (parts.Named pipe ∷ mark signs.Dot ∷ parts.Named stage ∷ mark signs.Dot ∷ parts.Named word ∷ []) ts x
  stage_word_sound pipe stage word ts rest x is e = go (bytes_eq word (codes "stall")) (bytes_eq word (codes "flush")) refl refl e
    where
      go : (b c : Bool) → bytes_eq word (codes "stall") ≡ b → bytes_eq word (codes "flush") ≡ c
          → cond b (Some (statements.Stall pipe stage, rest)) (cond c (Some (statements.Flush pipe stage, rest)) None) ≡ Some x → TakesStmt n (parts.Named pipe ∷ mark signs.Dot ∷ parts.Named stage ∷ mark signs.Dot ∷ parts.Named word ∷ []) ts x
      go true c same _ e =
          let s = some_is (statements.Stall pipe stage, rest) x e in
          ended n _ ts (statements.Stall pipe stage) x (subst (λ (w : List ℕ). SpellsStmt true (parts.Named pipe ∷ mark signs.Dot ∷ parts.Named stage ∷ mark signs.Dot ∷ parts.Named w ∷ call_end) (statements.Stall pipe stage)) (sym (same_bytes _ _ same)) grammar.stall) some
          (is ∙ ap (λ (y : StmtTree × Toks). call_end ++ y.1) s) (ap (λ (y : StmtTree × Toks). y.0) s)
      go false true _ same e =
          let s = some_is (statements.Flush pipe stage, rest) x e in
          ended n _ ts (statements.Flush pipe stage) x (subst (λ (w : List ℕ). SpellsStmt true (parts.Named pipe ∷ mark signs.Dot ∷ parts.Named stage ∷ mark signs.Dot ∷ parts.Named w ∷ call_end) (statements.Flush pipe stage)) (sym (same_bytes _ _ same)) grammar.flush) some
          (is ∙ ap (λ (y : StmtTree × Toks). call_end ++ y.1) s) (ap (λ (y : StmtTree × Toks). y.0) s)
      go false false _ _ e = absurd cc

  stage_sound : (pipe stage : List ℕ) (ts : Toks) (x : StmtTree × Toks) → stage_of pipe stage ts ≡ Some x → TakesStmt n [] (parts.Named pipe ∷ mark signs.Dot ∷ parts.Named stage ∷ mark signs.Dot ∷ ts) x
  unfolding stage_of
  stage_sound pipe stage ts x e =
      let p1 = bind_some (name_of ts) (λ word. call_end_of word.1 >>= λ rest. stage_call pipe stage word.0 rest) x e in
      let p2 = bind_some (call_end_of p1.0.1) (λ rest. stage_call pipe stage p1.0.0 rest) x p1.2 in
      let made = stage_word_sound pipe stage p1.0.0 p1.0.1 p2.0 x (call_end_is p1.0.1 p2.0 p2.1) p2.2 in
      rewritten n [] _ (parts.Named pipe ∷ mark signs.Dot ∷ parts.Named stage ∷ mark signs.Dot ∷ parts.Named p1.0.0 ∷ p1.0.1) x
      (ap (λ (l : Toks). parts.Named pipe ∷ mark signs.Dot ∷ parts.Named stage ∷ mark signs.Dot ∷ l) (name_front ts p1.0 p1.1))
      (moved n [] (parts.Named pipe ∷ mark signs.Dot ∷ parts.Named stage ∷ mark signs.Dot ∷ parts.Named p1.0.0 ∷ []) p1.0.1 x made)

  control_sound : (pipe name : List ℕ) (ts : Toks) (x : StmtTree × Toks) → control_of pipe name ts ≡ Some x → TakesStmt n [] (parts.Named pipe ∷ mark signs.Dot ∷ parts.Named name ∷ ts) x
  unfolding control_of
  control_sound pipe name (parts.Sign signs.Dot ∷ ts) x e = stage_sound pipe name ts x e
  control_sound pipe name ts x e =
      let p = bind_some (call_end_of ts) (λ rest. pipe_call pipe name rest) x e in
      moved n [] (parts.Named pipe ∷ mark signs.Dot ∷ parts.Named name ∷ []) ts x (pipe_sound pipe name ts p.0 x (call_end_is ts p.0 p.1) p.2)

  method_sound : (pipe : List ℕ) (ts : Toks) (x : StmtTree × Toks) → method_of pipe ts ≡ Some x → TakesStmt n [] (parts.Named pipe ∷ mark signs.Dot ∷ ts) x
  unfolding method_of
  method_sound pipe ts x e =
      let p = bind_some (name_of ts) (λ name. control_of pipe name.0 name.1) x e in
      rewritten n [] _ (parts.Named pipe ∷ mark signs.Dot ∷ parts.Named p.0.0 ∷ p.0.1) x (ap (λ (l : Toks). parts.Named pipe ∷ mark signs.Dot ∷ l) (name_front ts p.0 p.1)) (control_sound pipe p.0.0 p.0.1 x p.2)

  child_sound : (name : List ℕ) (ts : Toks) (x : StmtTree × Toks) → child_of name ts ≡ Some x → TakesStmt n [] (parts.Named name ∷ mark signs.OpenRound ∷ ts) x
  unfolding child_of
  child_sound name ts x e =
      let p1 = bind_some (past_of signs.CloseRound ts) (λ a. past_of signs.Semicolon a >>= λ rest. Some (statements.Call name, rest)) x e in
      let p2 = bind_some (past_of signs.Semicolon p1.0) (λ rest. Some (statements.Call name, rest)) x p1.2 in
      let s = some_is (statements.Call name, p2.0) x p2.2 in
      let is : mark signs.OpenRound ∷ ts ≡ call_end ++ p2.0 = ap (λ (l : Toks). mark signs.OpenRound ∷ l) (past_is signs.CloseRound ts p1.0 p1.1 ∙ ap (λ (l : Toks). mark signs.CloseRound ∷ l) (past_is signs.Semicolon p1.0 p2.0 p2.1)) in
      moved n [] (parts.Named name ∷ []) (mark signs.OpenRound ∷ ts) x (ended n (parts.Named name ∷ []) (mark signs.OpenRound ∷ ts) (statements.Call name) x grammar.call some (is ∙ ap (λ (y : StmtTree × Toks). call_end ++ y.1) s) (ap (λ (y : StmtTree × Toks). y.0) s))

  named_sound : (name : List ℕ) (ts : Toks) (x : StmtTree × Toks) → named_of name n ts ≡ Some x → TakesStmt n [] (parts.Named name ∷ ts) x
  unfolding named_of
  named_sound name (parts.Sign signs.OpenSquare ∷ ts) x e = element_sound n name ts x some e
  named_sound name (parts.Sign signs.Dot ∷ ts) x e = method_sound name ts x e
  named_sound name (parts.Sign signs.OpenRound ∷ ts) x e = child_sound name ts x e
  named_sound name ts x e = moved n [] (parts.Named name ∷ []) ts x (assign_sound n (expressions.Named name) (parts.Named name ∷ []) ts x some grammar.named (value_room n (expressions.Named name) ts x e) e)

  output_sound : (ts : Toks) (x : StmtTree × Toks) → output_of n ts ≡ Some x → TakesStmt n [] (parts.Reserved keywords.Out ∷ ts) x
  unfolding output_of
  output_sound ts x e =
      let p1 = bind_some (past_of signs.Dot ts) (λ a. name_of a >>= λ field. assign_of (expressions.Output field.0) n field.1) x e in
      let p2 = bind_some (name_of p1.0) (λ field. assign_of (expressions.Output field.0) n field.1) x p1.2 in
      let before : Toks = parts.Reserved keywords.Out ∷ mark signs.Dot ∷ parts.Named p2.0.0 ∷ [] in
      let made = assign_sound n (expressions.Output p2.0.0) before p2.0.1 x some grammar.output (value_room n (expressions.Output p2.0.0) p2.0.1 x p2.2) p2.2 in
      rewritten n [] _ (before ++ p2.0.1) x (ap (λ (l : Toks). parts.Reserved keywords.Out ∷ l) (past_is signs.Dot ts p1.0 p1.1 ∙ ap (λ (l : Toks). mark signs.Dot ∷ l) (name_front p1.0 p2.0 p2.1))) (moved n [] before p2.0.1 x made)

  initial_sound : (shape : Shape) (name : List ℕ) (ts : Toks) (x : StmtTree × Toks) → initial_of shape name n ts ≡ Some x → TakesStmt n (parts.TypeWord shape ∷ parts.Named name ∷ []) ts x
  unfolding initial_of
  initial_sound shape name ts x e =
      let p1 = bind_some (past_of signs.Equal ts) (λ a. expr (n - 1) a >>= λ v. past_of signs.Semicolon v.1 >>= λ rest. Some (statements.Local shape name (Some v.0), rest)) x e in
      let p2 = bind_some (expr (n - 1) p1.0) (λ v. past_of signs.Semicolon v.1 >>= λ rest. Some (statements.Local shape name (Some v.0), rest)) x p1.2 in
      let p3 = bind_some (past_of signs.Semicolon p2.0.1) (λ rest. Some (statements.Local shape name (Some p2.0.0), rest)) x p2.2 in
      let t = expr_sound (n - 1) p1.0 p2.0 p2.1 in
      let made : StmtTree × Toks = (statements.Local shape name (Some p2.0.0), p3.0) in
      subst (λ (y : StmtTree × Toks). TakesStmt n (parts.TypeWord shape ∷ parts.Named name ∷ []) ts y) (some_is made x p3.2) (record {
        front = mark signs.Equal ∷ (t.front ++ mark signs.Semicolon ∷ []);
        parts = past_is signs.Equal ts p1.0 p1.1 ∙ ap (λ (l : Toks). mark signs.Equal ∷ l) (t.parts ∙ ap (λ (l : Toks). t.front ++ l) (past_is signs.Semicolon p2.0.1 p3.0 p3.1) ∙ sym (append_assoc t.front (mark signs.Semicolon ∷ []) p3.0));
        closed = true;
        spells = grammar.local t.spells refl;
        free = λ h. absurd cc;
        deep = omega (arith, t.deep);
      })

  value_sound : (shape : Shape) (name : List ℕ) (ts : Toks) (x : StmtTree × Toks) → value_of shape name n ts ≡ Some x → TakesStmt n (parts.TypeWord shape ∷ parts.Named name ∷ []) ts x
  value_sound shape name (parts.Sign signs.Semicolon ∷ ts) x e =
      subst (λ (y : StmtTree × Toks). TakesStmt n (parts.TypeWord shape ∷ parts.Named name ∷ []) (mark signs.Semicolon ∷ ts) y) (some_is (statements.Local shape name None, ts) x e)
      (record { front = mark signs.Semicolon ∷ []; parts = refl; closed = true; spells = grammar.bare; free = λ h. absurd cc; deep = some })
  value_sound shape name ts x e = initial_sound shape name ts x e

  local_sound : (shape : Shape) (ts : Toks) (x : StmtTree × Toks) → local_of shape n ts ≡ Some x → TakesStmt n [] (parts.TypeWord shape ∷ ts) x
  unfolding local_of
  local_sound shape ts x e =
      let p = bind_some (name_of ts) (λ name. value_of shape name.0 n name.1) x e in
      rewritten n [] _ (parts.TypeWord shape ∷ parts.Named p.0.0 ∷ p.0.1) x (ap (λ (l : Toks). parts.TypeWord shape ∷ l) (name_front ts p.0 p.1)) (moved n [] (parts.TypeWord shape ∷ parts.Named p.0.0 ∷ []) p.0.1 x (value_sound shape p.0.0 p.0.1 x p.2))

-- ---- tests and heads

pub record TakesTest (n : ℕ) (ts : Toks) (x : ExprTree × Toks) : Type 0 where
  pub inner : Toks
  pub parts : ts ≡ mark signs.OpenRound ∷ (inner ++ (mark signs.CloseRound ∷ x.1))
  pub spells : SpellsExpr 0 inner x.0
  pub deep : expr_depth x.0 ≤ n

pub test_sound : (n : ℕ) (ts : Toks) (x : ExprTree × Toks) → test_of n ts ≡ Some x → TakesTest n ts x
unfolding test_of
test_sound n ts x e =
    let p1 = bind_some (past_of signs.OpenRound ts) (λ a. expr n a >>= λ e. past_of signs.CloseRound e.1 >>= λ rest. Some (e.0, rest)) x e in
    let p2 = bind_some (expr n p1.0) (λ e. past_of signs.CloseRound e.1 >>= λ rest. Some (e.0, rest)) x p1.2 in
    let p3 = bind_some (past_of signs.CloseRound p2.0.1) (λ rest. Some (p2.0.0, rest)) x p2.2 in
    let t = expr_sound n p1.0 p2.0 p2.1 in
    let made : ExprTree × Toks = (p2.0.0, p3.0) in
    subst (λ (y : ExprTree × Toks). TakesTest n ts y) (some_is made x p3.2) (record {
      inner = t.front;
      parts = past_is signs.OpenRound ts p1.0 p1.1 ∙ ap (λ (l : Toks). mark signs.OpenRound ∷ l) (t.parts ∙ ap (λ (l : Toks). t.front ++ l) (past_is signs.CloseRound p2.0.1 p3.0 p3.1));
      spells = t.spells;
      deep = t.deep;
    })

record TakesSet (n : ℕ) (ts : Toks) (x : (List ℕ × ExprTree) × Toks) : Type 0 where
  pub inner : Toks
  pub parts : ts ≡ parts.Named x.0.0 ∷ mark signs.Equal ∷ (inner ++ x.1)
  pub spells : SpellsExpr 0 inner x.0.1
  pub deep : expr_depth x.0.1 ≤ n

set_sound : (n : ℕ) (ts : Toks) (x : (List ℕ × ExprTree) × Toks) → set_of n ts ≡ Some x → TakesSet n ts x
unfolding set_of
set_sound n ts x e =
    let p1 = bind_some (name_of ts) (λ name. past_of signs.Equal name.1 >>= λ a. expr n a >>= λ v. Some ((name.0, v.0), v.1)) x e in
    let p2 = bind_some (past_of signs.Equal p1.0.1) (λ a. expr n a >>= λ v. Some ((p1.0.0, v.0), v.1)) x p1.2 in
    let p3 = bind_some (expr n p2.0) (λ v. Some ((p1.0.0, v.0), v.1)) x p2.2 in
    let t = expr_sound n p2.0 p3.0 p3.1 in
    let made : (List ℕ × ExprTree) × Toks = ((p1.0.0, p3.0.0), p3.0.1) in
    subst (λ (y : (List ℕ × ExprTree) × Toks). TakesSet n ts y) (some_is made x p3.2) (record {
      inner = t.front;
      parts = name_front ts p1.0 p1.1 ∙ ap (λ (l : Toks). parts.Named p1.0.0 ∷ l) (past_is signs.Equal p1.0.1 p2.0 p2.1 ∙ ap (λ (l : Toks). mark signs.Equal ∷ l) t.parts);
      spells = t.spells;
      deep = t.deep;
    })

pub record TakesHead (n : ℕ) (ts : Toks) (x : HeadTree × Toks) : Type 0 where
  pub front : Toks
  pub parts : ts ≡ front ++ x.1
  pub spells : SpellsHead front x.0
  pub deep : head_depth x.0 ≤ n

from_sound : (n : ℕ) (shape : Option Shape) (ts : Toks) (x : HeadTree × Toks) → head_from shape n ts ≡ Some x → TakesHead n (shape_tokens shape ++ ts) x
unfolding head_from
from_sound n shape ts x e =
    let p1 = bind_some (set_of n ts) (λ first. past_of signs.Semicolon first.1 >>= λ a. expr n a >>= λ test. past_of signs.Semicolon test.1 >>= λ b. set_of n b >>= λ step. Some (head shape first.0 test.0 step.0, step.1)) x e in
    let p2 = bind_some (past_of signs.Semicolon p1.0.1) (λ a. expr n a >>= λ test. past_of signs.Semicolon test.1 >>= λ b. set_of n b >>= λ step. Some (head shape p1.0.0 test.0 step.0, step.1)) x p1.2 in
    let p3 = bind_some (expr n p2.0) (λ test. past_of signs.Semicolon test.1 >>= λ b. set_of n b >>= λ step. Some (head shape p1.0.0 test.0 step.0, step.1)) x p2.2 in
    let p4 = bind_some (past_of signs.Semicolon p3.0.1) (λ b. set_of n b >>= λ step. Some (head shape p1.0.0 p3.0.0 step.0, step.1)) x p3.2 in
    let p5 = bind_some (set_of n p4.0) (λ step. Some (head shape p1.0.0 p3.0.0 step.0, step.1)) x p4.2 in
    let t = set_sound n ts p1.0 p1.1 in
    let u = expr_sound n p2.0 p3.0 p3.1 in
    let v = set_sound n p4.0 p5.0 p5.1 in
    let made : HeadTree × Toks = (head shape p1.0.0 p3.0.0 p5.0.0, p5.0.1) in
    let tail : Toks = mark signs.Semicolon ∷ (u.front ++ (mark signs.Semicolon ∷ parts.Named p5.0.0.0 ∷ mark signs.Equal ∷ v.inner)) in
    let behind : ts ≡ parts.Named p1.0.0.0 ∷ mark signs.Equal ∷ (t.inner ++ (tail ++ p5.0.1)) =
    t.parts ∙ ap (λ (l : Toks). parts.Named p1.0.0.0 ∷ mark signs.Equal ∷ (t.inner ++ l)) (past_is signs.Semicolon p1.0.1 p2.0 p2.1 ∙ ap (λ (l : Toks). mark signs.Semicolon ∷ l) (u.parts ∙ ap (λ (l : Toks). u.front ++ l) (past_is signs.Semicolon p3.0.1 p4.0 p4.1
    ∙ ap (λ (l : Toks). mark signs.Semicolon ∷ l) v.parts) ∙ sym (append_assoc u.front (mark signs.Semicolon ∷ parts.Named p5.0.0.0 ∷ mark signs.Equal ∷ v.inner) p5.0.1))) in
    let whole : ts ≡ (parts.Named p1.0.0.0 ∷ mark signs.Equal ∷ (t.inner ++ tail)) ++ p5.0.1 = behind ∙ ap (λ (l : Toks). parts.Named p1.0.0.0 ∷ mark signs.Equal ∷ l) (sym (append_assoc t.inner tail p5.0.1)) in
    subst (λ (y : HeadTree × Toks). TakesHead n (shape_tokens shape ++ ts) y) (some_is made x p5.2) (record {
      front = shape_tokens shape ++ (parts.Named p1.0.0.0 ∷ mark signs.Equal ∷ (t.inner ++ tail));
      parts = ap (λ (l : Toks). shape_tokens shape ++ l) whole ∙ sym (append_assoc (shape_tokens shape) (parts.Named p1.0.0.0 ∷ mark signs.Equal ∷ (t.inner ++ tail)) p5.0.1);
      spells = record { first = t.inner; test = u.front; step = v.inner; spells_first = t.spells; spells_test = u.spells; spells_step = v.spells; whole = refl };
      deep = omega (arith, t.deep, u.deep, v.deep);
    })

pub head_sound : (n : ℕ) (ts : Toks) (x : HeadTree × Toks) → head_of n ts ≡ Some x → TakesHead n ts x
unfolding head_of
head_sound n (parts.TypeWord shape ∷ ts) x e = from_sound n (Some shape) ts x e
head_sound n ts x e = from_sound n None ts x e

-- ---- one step

module _ (rec : Reader) (sound : IsSound rec) where
  block_sound : (n : ℕ) (ts : Toks) (x : StmtTree × Toks) → 0 < n → block_of rec n ts ≡ Some x → TakesStmt n [] (mark signs.OpenBrace ∷ ts) x
  unfolding block_of
  block_sound n ts x some e =
      let b = bind_some (rec (many (n - 1) ts)) (λ all. past_of signs.CloseBrace all.1 >>= λ rest. Some (statements.Block all.0, rest)) x e in
      let p = bind_some (past_of signs.CloseBrace b.0.1) (λ rest. Some (statements.Block b.0.0, rest)) x b.2 in
      let t = sound (many (n - 1) ts) b.0 b.1 in
      let made : StmtTree × Toks = (statements.Block b.0.0, p.0) in
      subst (λ (y : StmtTree × Toks). TakesStmt n [] (mark signs.OpenBrace ∷ ts) y) (some_is made x p.2) (record {
        front = mark signs.OpenBrace ∷ (t.front ++ mark signs.CloseBrace ∷ []);
        parts = ap (λ (l : Toks). mark signs.OpenBrace ∷ l) (t.parts ∙ ap (λ (l : Toks). t.front ++ l) (past_is signs.CloseBrace b.0.1 p.0 p.1) ∙ sym (append_assoc t.front (mark signs.CloseBrace ∷ []) p.0));
        closed = true;
        spells = grammar.block t.spells refl;
        free = λ h. absurd cc;
        deep = omega (arith, t.deep);
      })

  else_sound : (c : Bool) (n : ℕ) (xs ys : Toks) (e : ExprTree) (s : StmtTree) (ts : Toks) (x : StmtTree × Toks) → 0 < n → SpellsExpr 0 xs e → SpellsStmt c ys s → (c ≡ false → not_else ts ≡ true) → expr_depth e ≤ n - 1 → stmt_depth s ≤ n - 1
      → else_of rec e s n ts ≡ Some x → TakesStmt n (parts.Reserved keywords.If ∷ mark signs.OpenRound ∷ (xs ++ (mark signs.CloseRound ∷ ys))) ts x
  unfolding else_of
  else_sound false n xs ys e s (parts.Reserved keywords.Else ∷ ts) x more d f free de ds r = absurd (let no = free refl in cc)
  else_sound true n xs ys e s (parts.Reserved keywords.Else ∷ ts) x more d f free de ds r =
      let b = bind_some (rec (one (n - 1) ts)) (λ u. Some (statements.IfElse e s u.0, u.1)) x r in
      let t = sound (one (n - 1) ts) b.0 b.1 in
      let made : StmtTree × Toks = (statements.IfElse e s b.0.0, b.0.1) in
      subst (λ (y : StmtTree × Toks). TakesStmt n (parts.Reserved keywords.If ∷ mark signs.OpenRound ∷ (xs ++ (mark signs.CloseRound ∷ ys))) (parts.Reserved keywords.Else ∷ ts) y) (some_is made x b.2) (record {
        front = parts.Reserved keywords.Else ∷ t.front;
        parts = ap (λ (l : Toks). parts.Reserved keywords.Else ∷ l) t.parts;
        closed = t.closed;
        spells = grammar.choose d f t.spells (ap (λ (l : Toks). parts.Reserved keywords.If ∷ mark signs.OpenRound ∷ l) (append_assoc xs (mark signs.CloseRound ∷ ys) (parts.Reserved keywords.Else ∷ t.front)));
        free = t.free;
        deep = omega (arith, t.deep);
      })
  else_sound c n xs ys e s ts x more d f free de ds r =
      subst (λ (y : StmtTree × Toks). TakesStmt n (parts.Reserved keywords.If ∷ mark signs.OpenRound ∷ (xs ++ (mark signs.CloseRound ∷ ys))) ts y) (some_is (statements.If e s, ts) x r) (record {
        front = [];
        parts = refl;
        closed = false;
        spells = grammar.when d f (append-nil _);
        free = λ h. refl;
        deep = omega arith;
      })

  if_sound : (n : ℕ) (ts : Toks) (x : StmtTree × Toks) → 0 < n → if_of rec n ts ≡ Some x → TakesStmt n [] (parts.Reserved keywords.If ∷ ts) x
  unfolding if_of
  if_sound n ts x more r =
      let b = bind_some (test_of (n - 1) ts) (λ e. rec (one (n - 1) e.1) >>= λ s. else_of rec e.0 s.0 n s.1) x r in
      let c = bind_some (rec (one (n - 1) b.0.1)) (λ s. else_of rec b.0.0 s.0 n s.1) x b.2 in
      let t = test_sound (n - 1) ts b.0 b.1 in
      let u = sound (one (n - 1) b.0.1) c.0 c.1 in
      let before : Toks = parts.Reserved keywords.If ∷ mark signs.OpenRound ∷ (t.inner ++ (mark signs.CloseRound ∷ u.front)) in
      let v = else_sound u.closed n t.inner u.front b.0.0 c.0.0 c.0.1 x more t.spells u.spells u.free t.deep u.deep c.2 in
      rewritten n [] _ (before ++ c.0.1) x
      (ap (λ (l : Toks). parts.Reserved keywords.If ∷ l) (t.parts ∙ ap (λ (l : Toks). mark signs.OpenRound ∷ (t.inner ++ (mark signs.CloseRound ∷ l))) u.parts ∙ ap (λ (l : Toks). mark signs.OpenRound ∷ l) (sym (append_assoc t.inner (mark signs.CloseRound ∷ u.front) c.0.1))))
      (moved n [] before c.0.1 x v)

  while_sound : (n : ℕ) (ts : Toks) (x : StmtTree × Toks) → 0 < n → while_of rec n ts ≡ Some x → TakesStmt n [] (parts.Reserved keywords.While ∷ ts) x
  unfolding while_of
  while_sound n ts x more r =
      let b = bind_some (test_of (n - 1) ts) (λ e. rec (one (n - 1) e.1) >>= λ s. Some (statements.While e.0 s.0, s.1)) x r in
      let c = bind_some (rec (one (n - 1) b.0.1)) (λ s. Some (statements.While b.0.0 s.0, s.1)) x b.2 in
      let t = test_sound (n - 1) ts b.0 b.1 in
      let u = sound (one (n - 1) b.0.1) c.0 c.1 in
      let made : StmtTree × Toks = (statements.While b.0.0 c.0.0, c.0.1) in
      subst (λ (y : StmtTree × Toks). TakesStmt n [] (parts.Reserved keywords.While ∷ ts) y) (some_is made x c.2) (record {
        front = parts.Reserved keywords.While ∷ mark signs.OpenRound ∷ (t.inner ++ (mark signs.CloseRound ∷ u.front));
        parts = ap (λ (l : Toks). parts.Reserved keywords.While ∷ l) (t.parts ∙ ap (λ (l : Toks). mark signs.OpenRound ∷ (t.inner ++ (mark signs.CloseRound ∷ l))) u.parts ∙ ap (λ (l : Toks). mark signs.OpenRound ∷ l) (sym (append_assoc t.inner (mark signs.CloseRound ∷ u.front) c.0.1)));
        closed = u.closed;
        spells = grammar.while t.spells u.spells refl;
        free = u.free;
        deep = omega (arith, t.deep, u.deep);
      })

  for_sound : (n : ℕ) (ts : Toks) (x : StmtTree × Toks) → 0 < n → for_of rec n ts ≡ Some x → TakesStmt n [] (parts.Reserved keywords.For ∷ ts) x
  unfolding for_of
  for_sound n ts x more r =
      let a = bind_some (past_of signs.OpenRound ts) (λ a. head_of (n - 1) a >>= λ h. past_of signs.CloseRound h.1 >>= λ rest. rec (one (n - 1) rest) >>= λ s. Some (statements.For h.0 s.0, s.1)) x r in
      let b = bind_some (head_of (n - 1) a.0) (λ h. past_of signs.CloseRound h.1 >>= λ rest. rec (one (n - 1) rest) >>= λ s. Some (statements.For h.0 s.0, s.1)) x a.2 in
      let p = bind_some (past_of signs.CloseRound b.0.1) (λ rest. rec (one (n - 1) rest) >>= λ s. Some (statements.For b.0.0 s.0, s.1)) x b.2 in
      let c = bind_some (rec (one (n - 1) p.0)) (λ s. Some (statements.For b.0.0 s.0, s.1)) x p.2 in
      let t = head_sound (n - 1) a.0 b.0 b.1 in
      let u = sound (one (n - 1) p.0) c.0 c.1 in
      let made : StmtTree × Toks = (statements.For b.0.0 c.0.0, c.0.1) in
      subst (λ (y : StmtTree × Toks). TakesStmt n [] (parts.Reserved keywords.For ∷ ts) y) (some_is made x c.2) (record {
        front = parts.Reserved keywords.For ∷ mark signs.OpenRound ∷ (t.front ++ (mark signs.CloseRound ∷ u.front));
        parts = ap (λ (l : Toks). parts.Reserved keywords.For ∷ l) (past_is signs.OpenRound ts a.0 a.1 ∙ ap (λ (l : Toks). mark signs.OpenRound ∷ l) (t.parts ∙ ap (λ (l : Toks). t.front ++ l) (past_is signs.CloseRound b.0.1 p.0 p.1 ∙ ap (λ (l : Toks). mark signs.CloseRound ∷ l) u.parts) ∙ sym (append_assoc t.front (mark signs.CloseRound ∷ u.front) c.0.1)));
        closed = u.closed;
        spells = grammar.for t.spells u.spells refl;
        free = u.free;
        deep = omega (arith, t.deep, u.deep);
      })

  one_sound : (n : ℕ) (ts : Toks) (x : StmtTree × Toks) → one_of rec n ts ≡ Some x → TakesStmt n [] ts x
  unfolding one_of
  one_sound zero ts x e = absurd cc
  one_sound (suc n) (parts.Sign signs.Semicolon ∷ ts) x e =
      subst (λ (y : StmtTree × Toks). TakesStmt (suc n) [] (mark signs.Semicolon ∷ ts) y) (some_is (statements.Empty, ts) x e) (record { front = mark signs.Semicolon ∷ []; parts = refl; closed = true; spells = grammar.empty; free = λ h. absurd cc; deep = omega arith })
  one_sound (suc n) (parts.Sign signs.OpenBrace ∷ ts) x e = block_sound (suc n) ts x (omega arith) e
  one_sound (suc n) (parts.TypeWord shape ∷ ts) x e = local_sound (suc n) (omega arith) shape ts x e
  one_sound (suc n) (parts.Named name ∷ ts) x e = named_sound (suc n) (omega arith) name ts x e
  one_sound (suc n) (parts.Reserved keywords.Out ∷ ts) x e = output_sound (suc n) (omega arith) ts x e
  one_sound (suc n) (parts.Reserved keywords.If ∷ ts) x e = if_sound (suc n) ts x (omega arith) e
  one_sound (suc n) (parts.Reserved keywords.While ∷ ts) x e = while_sound (suc n) ts x (omega arith) e
  one_sound (suc n) (parts.Reserved keywords.For ∷ ts) x e = for_sound (suc n) ts x (omega arith) e
  one_sound (suc n) _ x e = absurd cc

  many_sound : (n : ℕ) (ts : Toks) (x : StmtTrees × Toks) → many_of rec n ts ≡ Some x → TakesStmts n ts x
  unfolding many_of
  many_sound n ts x e = go (ends ts) e
    where
      go : (b : Bool) → cond b (Some (statements.End, ts)) (next_of rec n ts) ≡ Some x → TakesStmts n ts x
      go true e = subst (λ (y : StmtTrees × Toks). TakesStmts n ts y) (some_is (statements.End, ts) x e) (record { front = []; parts = refl; spells = grammar.none; deep = omega arith })
      go false e =
          let b = bind_some (rec (one n ts)) (λ s. rec (many n s.1) >>= λ all. Some (statements.Then s.0 all.0, all.1)) x e in
          let c = bind_some (rec (many n b.0.1)) (λ all. Some (statements.Then b.0.0 all.0, all.1)) x b.2 in
          let t = sound (one n ts) b.0 b.1 in
          let u = sound (many n b.0.1) c.0 c.1 in
          let made : StmtTrees × Toks = (statements.Then b.0.0 c.0.0, c.0.1) in
          subst (λ (y : StmtTrees × Toks). TakesStmts n ts y) (some_is made x c.2) (record {
            front = t.front ++ u.front;
            parts = t.parts ∙ ap (λ (l : Toks). t.front ++ l) u.parts ∙ sym (append_assoc t.front u.front c.0.1);
            spells = grammar.some t.spells u.spells refl;
            deep = omega (arith, t.deep, u.deep);
          })

  step_sound : IsSound (step rec)
  step_sound t x e = go t.want t.budget t.tokens x e
    where
      go : (w : Want) (n : ℕ) (ts : Toks) (x : Kind w × Toks) → step rec (record { want = w; budget = n; tokens = ts }) ≡ Some x → Claim w n ts x
      go One n ts x e = one_sound n ts x e
      go Many n ts x e = many_sound n ts x e

guarded_some : (t : Task) (b : Bool) (o : Out t) (y : Kind t.want × Toks) → cond b o (fails t) ≡ Some y → o ≡ Some y
guarded_some t true o y e = e
guarded_some t false o y e = absurd cc

within_sound : (f : ℕ) → IsSound (within_each {Out = Out} size fails step f)
unfolding within_each
within_sound zero t x e = absurd cc
within_sound (suc f) t x e = step_sound (guarded_each {Out = Out} size fails (within_each {Out = Out} size fails step f) t) (λ v y e'. within_sound f v y (guarded_some v (ltb (size v) (size t)) (within_each {Out = Out} size fails step f v) y e')) t x e

pub stmts_sound : IsSound stmts
unfolding stmts fix_each
stmts_sound t x e = within_sound (suc (size t)) t x e
