-- What is read is spelled so.
use Rattle.std.proofs.Common.{◌≡◌, ℕ, zero, suc, ◌+◌, ◌-◌, ◌^◌, ◌<◌, ◌≤◌, Bool, true, false, cond, ltb, ◌&&◌, nat_lt, List, [], ◌∷◌, ◌++◌, length, drop, Option, Some, None, refl, sym, ap, subst, ◌∙◌, append_assoc, arith, inl, inr, max}
use Rattle.std.proofs.lemmas.Bool.{cases_lt, ltb-true, lt-ltb, le-ltb, and_parts}
use Rattle.std.proofs.lemmas.List.{append-nil, length-append}
use Rattle.lisa_tree.specs.declared.tokens.Base.TheVariants as bases
use Rattle.lisa_tree.specs.declared.tokens.Keyword.TheVariants as keywords
use Rattle.lisa_tree.specs.declared.tokens.Sign.{Sign}
use Rattle.lisa_tree.specs.declared.tokens.Sign.TheVariants as signs
use Rattle.lisa_tree.specs.declared.tokens.TokenPart.TheVariants as parts
use Rattle.lisa_words.specs.declared.binary.Operator.{Operator}
use Rattle.lisa_words.specs.declared.binary.Operator.TheVariants as operators
use Rattle.lisa_tree.specs.Operators.{sign_of}
use Rattle.lisa_words.specs.Operators.{level_of}
use Rattle.lisa_tree.specs.Expressions as expressions
use Rattle.lisa_tree.specs.Expressions.{ExprTree, expr_depth}
use Rattle.lisa_tree.specs.Grammar as grammar
use Rattle.lisa_tree.specs.Grammar.{Toks, mark, is_binary, binary_value, SpellsExpr}
use Rattle.operator_levels.specs.Stacks.{Stack}
use Rattle.operator_levels.proofs.StackLaws.{level_range, Waits, nothing, pushed_waits, finished_spelled, finished_depth}
use Rattle.lisa_words.specs.Fix.{guarded, within, fix}
use Rattle.lisa_words.specs.Steps.{◌>>=◌}
use Rattle.lisa_words.proofs.StepLaws.{bind_some, guard_some, some_is}
use Rattle.lisa_behav_reader.specs.Past.{past_of}
use Rattle.lisa_behav_reader.specs.Reading.{Want, Whole, Operands, Unary, Task, Answer, Reader, whole, operands, unary, operator_of, operator_at, branches_of, choice_of, whole_of, push, finish, go_on, behind_of, operands_of, named_of, name_of, input_of, boundary_of, inside_of, pattern_of, primary_of, unary_of, step, size, reads}
use Rattle.lisa_behav_reader.proofs.PastLaws.{past_is}

-- ---- what is claimed

-- what was taken from the front spells the tree
pub record Takes (l n : ℕ) (ts : Toks) (x : ExprTree × Toks) : Type 0 where
  pub front : Toks
  pub parts : ts ≡ front ++ x.1
  pub some : 0 < length front
  pub spells : SpellsExpr l front x.0
  pub deep : expr_depth x.0 ≤ n

pub pair_spelled : (o : Operator) (xs ys : Toks) (a b : ExprTree) → SpellsExpr (level_of o) xs a → SpellsExpr (suc (level_of o)) ys b → SpellsExpr (level_of o) (xs ++ (mark (sign_of o) ∷ ys)) (expressions.Two o a b)
pair_spelled o xs ys a b d e = grammar.two o refl d e refl

pub looser_spelled : (l : ℕ) (ts : Toks) (t : ExprTree) → SpellsExpr (suc l) ts t → SpellsExpr l ts t
looser_spelled l ts t d = grammar.tighter d

abbrev pub WaitsExpr : Stack ExprTree → Toks → ℕ → Type 0
WaitsExpr stack ws l = Waits SpellsExpr (λ o. mark (sign_of o)) expressions.Two pair_spelled looser_spelled stack ws l

-- with what waits, what was taken from the front spells the tree
pub record TakesOperands (stack : Stack ExprTree) (n : ℕ) (ts : Toks) (x : ExprTree × Toks) : Type 0 where
  pub front : Toks
  pub parts : ts ≡ front ++ x.1
  pub some : 0 < length front
  pub spells : (ws : Toks) (l : ℕ) → WaitsExpr stack ws l → l ≤ 11 → SpellsExpr 1 (ws ++ front) x.0
  pub deep : expr_depth x.0 ≤ n

abbrev pub Claim : Want → ℕ → Toks → ExprTree × Toks → Type 0
Claim Whole n ts x = Takes 0 n ts x
Claim (Operands stack) n ts x = TakesOperands stack n ts x
Claim Unary n ts x = Takes 11 n ts x

abbrev pub IsSound : Reader → Type 0
IsSound rec = (t : Task) (x : ExprTree × Toks) → rec t ≡ Some x → Claim t.want t.budget t.tokens x

-- ---- operators

pub record FrontOperator (o : Operator) (ts : Toks) : Type 0 where
  pub rest : Toks
  pub is : ts ≡ mark (sign_of o) ∷ rest

front : (p o : Operator) (ts : Toks) → ◌≡◌ {A = Option Operator} (Some p) (Some o) → FrontOperator o (mark (sign_of p) ∷ ts)
front p o ts e = subst (λ (q : Operator). FrontOperator q (mark (sign_of p) ∷ ts)) (some_is p o e) (record { rest = ts; is = refl })

pub operator_front : (o : Operator) (ts : Toks) → operator_at ts ≡ Some o → FrontOperator o ts
operator_front o (parts.Sign signs.OrOr ∷ ts) e = front operators.OneTrue o ts e
operator_front o (parts.Sign signs.AndAnd ∷ ts) e = front operators.BothTrue o ts e
operator_front o (parts.Sign signs.Or ∷ ts) e = front operators.Or o ts e
operator_front o (parts.Sign signs.Caret ∷ ts) e = front operators.Xor o ts e
operator_front o (parts.Sign signs.And ∷ ts) e = front operators.And o ts e
operator_front o (parts.Sign signs.EqualEqual ∷ ts) e = front operators.Equal o ts e
operator_front o (parts.Sign signs.NotEqual ∷ ts) e = front operators.Unequal o ts e
operator_front o (parts.Sign signs.Less ∷ ts) e = front operators.Less o ts e
operator_front o (parts.Sign signs.LessEqual ∷ ts) e = front operators.LessEqual o ts e
operator_front o (parts.Sign signs.Greater ∷ ts) e = front operators.Greater o ts e
operator_front o (parts.Sign signs.GreaterEqual ∷ ts) e = front operators.GreaterEqual o ts e
operator_front o (parts.Sign signs.ShiftLeft ∷ ts) e = front operators.Left o ts e
operator_front o (parts.Sign signs.ShiftRight ∷ ts) e = front operators.Right o ts e
operator_front o (parts.Sign signs.Plus ∷ ts) e = front operators.Add o ts e
operator_front o (parts.Sign signs.Minus ∷ ts) e = front operators.Sub o ts e
operator_front o (parts.Sign signs.Star ∷ ts) e = front operators.Mul o ts e
operator_front o _ e = absurd cc

pub name_front : (ts : Toks) (x : List ℕ × Toks) → name_of ts ≡ Some x → ts ≡ parts.Named x.0 ∷ x.1
name_front (parts.Named name ∷ ts) x e = ap (λ (y : List ℕ × Toks). parts.Named y.0 ∷ y.1) (some_is (name, ts) x e)
name_front _ x e = absurd cc

-- ---- one step

-- what stands behind an operand
record Behind (stack : Stack ExprTree) (n : ℕ) (t : ExprTree) (ts : Toks) (x : ExprTree × Toks) : Type 0 where
  pub front : Toks
  pub parts : ts ≡ front ++ x.1
  pub spells : (ws xs : Toks) (l : ℕ) → WaitsExpr stack ws l → l ≤ 11 → SpellsExpr 11 xs t → SpellsExpr 1 (ws ++ (xs ++ front)) x.0
  pub deep : expr_depth x.0 ≤ n

-- what stands behind a test
record Chooses (n : ℕ) (c : ExprTree) (ts : Toks) (x : ExprTree × Toks) : Type 0 where
  pub front : Toks
  pub parts : ts ≡ front ++ x.1
  pub spells : (xs : Toks) → SpellsExpr 1 xs c → SpellsExpr 0 (xs ++ front) x.0
  pub deep : expr_depth c ≤ n → expr_depth x.0 ≤ n

pub input_sound : (n : ℕ) (ts : Toks) (x : ExprTree × Toks) → 0 < n → input_of ts ≡ Some x → Takes 12 n (parts.Reserved keywords.In ∷ ts) x
unfolding input_of
input_sound n (parts.Sign signs.Dot ∷ parts.Named field ∷ ts) x some e =
    subst (λ (y : ExprTree × Toks). Takes 12 n (parts.Reserved keywords.In ∷ parts.Sign signs.Dot ∷ parts.Named field ∷ ts) y) (some_is (expressions.Input field, ts) x e)
    (record { front = parts.Reserved keywords.In ∷ mark signs.Dot ∷ parts.Named field ∷ []; parts = refl; some = omega arith; spells = grammar.input; deep = some })
input_sound n _ x some e = absurd cc

pattern_sound : (n : ℕ) (digits : List ℕ) (ts : Toks) (x : ExprTree × Toks) → 0 < n → pattern_of digits ts ≡ Some x → Takes 12 n (parts.Pattern digits ∷ ts) x
unfolding pattern_of
pattern_sound n digits ts x some e =
    let made : ExprTree × Toks = (expressions.Number (binary_value digits) bases.Binary, ts) in
    let g = guard_some (is_binary digits && nat_lt (binary_value digits) (2 ^ 64)) (Some made) x e in
    let both = and_parts (is_binary digits) (nat_lt (binary_value digits) (2 ^ 64)) g.0 in
    subst (λ (y : ExprTree × Toks). Takes 12 n (parts.Pattern digits ∷ ts) y) (some_is made x g.1)
    (record { front = parts.Pattern digits ∷ []; parts = refl; some = omega arith; spells = grammar.pattern both.0 (ltb-true _ _ both.1); deep = some })

boundary_sound : (n : ℕ) (ts : Toks) (x : ExprTree × Toks) → 0 < n → boundary_of ts ≡ Some x → Takes 12 n (parts.Reserved keywords.PipelineRegister ∷ ts) x
unfolding boundary_of
boundary_sound n ts x some e =
    let p1 = bind_some (past_of signs.OpenRound ts) _ x e in
    let p2 = bind_some (name_of p1.0) _ x p1.2 in
    let p3 = bind_some (past_of signs.Comma p2.0.1) _ x p2.2 in
    let p4 = bind_some (name_of p3.0) _ x p3.2 in
    let p5 = bind_some (past_of signs.Slash p4.0.1) _ x p4.2 in
    let p6 = bind_some (name_of p5.0) _ x p5.2 in
    let p7 = bind_some (past_of signs.CloseRound p6.0.1) _ x p6.2 in
    let p8 = bind_some (past_of signs.Dot p7.0) _ x p7.2 in
    let p9 = bind_some (name_of p8.0) _ x p8.2 in
    let made : ExprTree × Toks = (expressions.Boundary p2.0.0 p4.0.0 p6.0.0 p9.0.0, p9.0.1) in
    subst (λ (y : ExprTree × Toks). Takes 12 n (parts.Reserved keywords.PipelineRegister ∷ ts) y) (some_is made x p9.2)
    (record {
      front = parts.Reserved keywords.PipelineRegister ∷ mark signs.OpenRound ∷ parts.Named p2.0.0 ∷ mark signs.Comma ∷ parts.Named p4.0.0 ∷ mark signs.Slash ∷ parts.Named p6.0.0
          ∷ mark signs.CloseRound ∷ mark signs.Dot ∷ parts.Named p9.0.0 ∷ [];
      parts =
          ap (λ (l : Toks). parts.Reserved keywords.PipelineRegister ∷ l) (past_is signs.OpenRound ts p1.0 p1.1
          ∙ ap (λ (l : Toks). mark signs.OpenRound ∷ l) (name_front p1.0 p2.0 p2.1
          ∙ ap (λ (l : Toks). parts.Named p2.0.0 ∷ l) (past_is signs.Comma p2.0.1 p3.0 p3.1
          ∙ ap (λ (l : Toks). mark signs.Comma ∷ l) (name_front p3.0 p4.0 p4.1
          ∙ ap (λ (l : Toks). parts.Named p4.0.0 ∷ l) (past_is signs.Slash p4.0.1 p5.0 p5.1
          ∙ ap (λ (l : Toks). mark signs.Slash ∷ l) (name_front p5.0 p6.0 p6.1
          ∙ ap (λ (l : Toks). parts.Named p6.0.0 ∷ l) (past_is signs.CloseRound p6.0.1 p7.0 p7.1
          ∙ ap (λ (l : Toks). mark signs.CloseRound ∷ l) (past_is signs.Dot p7.0 p8.0 p8.1
          ∙ ap (λ (l : Toks). mark signs.Dot ∷ l) (name_front p8.0 p9.0 p9.1)))))))));
      some = omega arith;
      spells = grammar.boundary;
      deep = some;
    })

module _ (rec : Reader) (sound : IsSound rec) where
  branches_sound : (n : ℕ) (c : ExprTree) (ts : Toks) (x : ExprTree × Toks) → branches_of rec c n ts ≡ Some x → Chooses n c (mark signs.Question ∷ ts) x
  unfolding branches_of
  branches_sound n c ts x e =
      let g = guard_some (ltb (expr_depth c) n) (rec (whole (n - 1) ts) >>= λ a. past_of signs.Colon a.1 >>= λ rest. rec (whole (n - 1) rest) >>= λ b. Some (expressions.Choose c a.0 b.0, b.1)) x e in
      let less : expr_depth c < n = ltb-true _ _ g.0 in
      let a = bind_some (rec (whole (n - 1) ts)) (λ a. past_of signs.Colon a.1 >>= λ rest. rec (whole (n - 1) rest) >>= λ b. Some (expressions.Choose c a.0 b.0, b.1)) x g.1 in
      let p = bind_some (past_of signs.Colon a.0.1) (λ rest. rec (whole (n - 1) rest) >>= λ b. Some (expressions.Choose c a.0.0 b.0, b.1)) x a.2 in
      let b = bind_some (rec (whole (n - 1) p.0)) (λ b. Some (expressions.Choose c a.0.0 b.0, b.1)) x p.2 in
      let t = sound (whole (n - 1) ts) a.0 a.1 in
      let u = sound (whole (n - 1) p.0) b.0 b.1 in
      let made : ExprTree × Toks = (expressions.Choose c a.0.0 b.0.0, b.0.1) in
      subst (λ (y : ExprTree × Toks). Chooses n c (mark signs.Question ∷ ts) y) (some_is made x b.2) (record {
        front = mark signs.Question ∷ (t.front ++ (mark signs.Colon ∷ u.front));
        parts = ap (λ (l : Toks). mark signs.Question ∷ l) (t.parts ∙ ap (λ (l : Toks). t.front ++ l) (past_is signs.Colon a.0.1 p.0 p.1 ∙ ap (λ (l : Toks). mark signs.Colon ∷ l) u.parts) ∙ sym (append_assoc t.front (mark signs.Colon ∷ u.front) b.0.1));
        spells = λ xs d. grammar.choose d t.spells u.spells refl;
        deep = λ le. omega (arith, t.deep, u.deep);
      })

  choice_sound : (n : ℕ) (c : ExprTree) (ts : Toks) (x : ExprTree × Toks) → choice_of rec c n ts ≡ Some x → Chooses n c ts x
  choice_sound n c (parts.Sign signs.Question ∷ ts) x e = branches_sound n c ts x e
  choice_sound n c ts x e =
      subst (λ (y : ExprTree × Toks). Chooses n c ts y) (some_is (c, ts) x e) (record { front = []; parts = refl; spells = λ xs d. subst (λ (l : Toks). SpellsExpr 0 l c) (sym (append-nil xs)) (grammar.tighter d); deep = λ le. le })

  whole_sound : (n : ℕ) (ts : Toks) (x : ExprTree × Toks) → whole_of rec n ts ≡ Some x → Takes 0 n ts x
  unfolding whole_of
  whole_sound n ts x e =
      let a = bind_some (rec (operands [] n ts)) (λ a. choice_of rec a.0 n a.1) x e in
      let t = sound (operands [] n ts) a.0 a.1 in
      let c = choice_sound n a.0.0 a.0.1 x a.2 in
      record {
        front = t.front ++ c.front;
        parts = t.parts ∙ ap (λ (l : Toks). t.front ++ l) c.parts ∙ sym (append_assoc t.front c.front x.1);
        some = omega (arith, length-append t.front c.front, t.some);
        spells = c.spells t.front (t.spells [] 1 nothing (omega arith));
        deep = c.deep t.deep;
      }

  behind_sound : (stack : Stack ExprTree) (n : ℕ) (t : ExprTree) (ts : Toks) (x : ExprTree × Toks) → expr_depth t ≤ n → behind_of rec stack n t ts ≡ Some x → Behind stack n t ts x
  unfolding behind_of
  behind_sound stack n t ts x le e = go (operator_at ts) refl e
    where
      go : (o : Option Operator) → operator_at ts ≡ o → go_on o rec stack n t ts ≡ Some x → Behind stack n t ts x
      go None is e =
          let f = bind_some (finish n stack t) (λ u. Some (u, ts)) x e in
          subst (λ (y : ExprTree × Toks). Behind stack n t ts y) (some_is (f.0, ts) x f.2) (record {
            front = [];
            parts = refl;
            spells = λ ws xs l w few d.
                subst (λ (u : Toks). SpellsExpr 1 (ws ++ u) f.0) (sym (append-nil xs)) (finished_spelled SpellsExpr (λ o. mark (sign_of o)) expressions.Two pair_spelled looser_spelled expr_depth n w 11 xs t d few (omega arith) f.0 f.1);
            deep = finished_depth expressions.Two expr_depth n stack t f.0 le f.1;
          })
      go (Some o) is e =
          let f = operator_front o ts is in
          let p = bind_some (push n stack t o) (λ more. rec (operands more n (drop 1 ts))) x e in
          let u = sound (operands p.0 n (drop 1 ts)) x p.2 in
          record {
            front = mark (sign_of o) ∷ u.front;
            parts = f.is ∙ ap (λ (l : Toks). mark (sign_of o) ∷ l) (sym (ap (drop 1) f.is) ∙ u.parts);
            spells = λ ws xs l w few d.
                let w' = pushed_waits SpellsExpr (λ o. mark (sign_of o)) expressions.Two pair_spelled looser_spelled expr_depth n w 11 xs t o d few (omega (arith, (level_range o).1)) p.0 p.1 in
                let all = u.spells (ws ++ (xs ++ mark (sign_of o) ∷ [])) (suc (level_of o)) w' (omega (arith, (level_range o).1)) in
                subst (λ (l : Toks). SpellsExpr 1 l x.0) (append_assoc ws (xs ++ mark (sign_of o) ∷ []) u.front ∙ ap (λ (l : Toks). ws ++ l) (append_assoc xs (mark (sign_of o) ∷ []) u.front)) all;
            deep = u.deep;
          }

  operands_sound : (stack : Stack ExprTree) (n : ℕ) (ts : Toks) (x : ExprTree × Toks) → operands_of rec stack n ts ≡ Some x → TakesOperands stack n ts x
  unfolding operands_of
  operands_sound stack n ts x e =
      let a = bind_some (rec (unary n ts)) (λ a. behind_of rec stack n a.0 a.1) x e in
      let t = sound (unary n ts) a.0 a.1 in
      let b = behind_sound stack n a.0.0 a.0.1 x t.deep a.2 in
      record {
        front = t.front ++ b.front;
        parts = t.parts ∙ ap (λ (l : Toks). t.front ++ l) b.parts ∙ sym (append_assoc t.front b.front x.1);
        some = omega (arith, length-append t.front b.front, t.some);
        spells = λ ws l w few. b.spells ws t.front l w few t.spells;
        deep = b.deep;
      }

  named_sound : (name : List ℕ) (n : ℕ) (ts : Toks) (x : ExprTree × Toks) → 0 < n → named_of rec name n ts ≡ Some x → Takes 12 n (parts.Named name ∷ ts) x
  unfolding named_of
  named_sound name n (parts.Sign signs.OpenSquare ∷ ts) x some e =
      let b = bind_some (rec (whole (n - 1) ts)) (λ i. past_of signs.CloseSquare i.1 >>= λ rest. Some (expressions.Element name i.0, rest)) x e in
      let p = bind_some (past_of signs.CloseSquare b.0.1) (λ rest. Some (expressions.Element name b.0.0, rest)) x b.2 in
      let t = sound (whole (n - 1) ts) b.0 b.1 in
      let made : ExprTree × Toks = (expressions.Element name b.0.0, p.0) in
      subst (λ (y : ExprTree × Toks). Takes 12 n (parts.Named name ∷ mark signs.OpenSquare ∷ ts) y) (some_is made x p.2) (record {
        front = parts.Named name ∷ mark signs.OpenSquare ∷ (t.front ++ mark signs.CloseSquare ∷ []);
        parts = ap (λ (l : Toks). parts.Named name ∷ mark signs.OpenSquare ∷ l) (t.parts ∙ ap (λ (l : Toks). t.front ++ l) (past_is signs.CloseSquare b.0.1 p.0 p.1) ∙ sym (append_assoc t.front (mark signs.CloseSquare ∷ []) p.0));
        some = omega arith;
        spells = grammar.element t.spells refl;
        deep = omega (arith, t.deep);
      })
  named_sound name n ts x some e =
      subst (λ (y : ExprTree × Toks). Takes 12 n (parts.Named name ∷ ts) y) (some_is (expressions.Named name, ts) x e) (record { front = parts.Named name ∷ []; parts = refl; some = omega arith; spells = grammar.named; deep = some })

  inside_sound : (n : ℕ) (ts : Toks) (x : ExprTree × Toks) → inside_of rec n ts ≡ Some x → Takes 12 n (mark signs.OpenRound ∷ ts) x
  unfolding inside_of
  inside_sound n ts x e =
      let b = bind_some (rec (whole n ts)) (λ a. past_of signs.CloseRound a.1 >>= λ rest. Some (a.0, rest)) x e in
      let p = bind_some (past_of signs.CloseRound b.0.1) (λ rest. Some (b.0.0, rest)) x b.2 in
      let t = sound (whole n ts) b.0 b.1 in
      let made : ExprTree × Toks = (b.0.0, p.0) in
      subst (λ (y : ExprTree × Toks). Takes 12 n (mark signs.OpenRound ∷ ts) y) (some_is made x p.2) (record {
        front = mark signs.OpenRound ∷ (t.front ++ mark signs.CloseRound ∷ []);
        parts = ap (λ (l : Toks). mark signs.OpenRound ∷ l) (t.parts ∙ ap (λ (l : Toks). t.front ++ l) (past_is signs.CloseRound b.0.1 p.0 p.1) ∙ sym (append_assoc t.front (mark signs.CloseRound ∷ []) p.0));
        some = omega arith;
        spells = grammar.inside t.spells refl;
        deep = t.deep;
      })

  primary_sound : (n : ℕ) (ts : Toks) (x : ExprTree × Toks) → 0 < n → primary_of rec n ts ≡ Some x → Takes 12 n ts x
  unfolding primary_of
  primary_sound n (parts.Number value base ∷ ts) x some e =
      subst (λ (y : ExprTree × Toks). Takes 12 n (parts.Number value base ∷ ts) y) (some_is (expressions.Number value base, ts) x e) (record { front = parts.Number value base ∷ []; parts = refl; some = omega arith; spells = grammar.number; deep = some })
  primary_sound n (parts.Pattern digits ∷ ts) x some e = pattern_sound n digits ts x some e
  primary_sound n (parts.Named name ∷ ts) x some e = named_sound name n ts x some e
  primary_sound n (parts.Reserved keywords.In ∷ ts) x some e = input_sound n ts x some e
  primary_sound n (parts.Reserved keywords.Decoded ∷ ts) x some e =
      subst (λ (y : ExprTree × Toks). Takes 12 n (parts.Reserved keywords.Decoded ∷ ts) y) (some_is (expressions.Decoded, ts) x e) (record { front = parts.Reserved keywords.Decoded ∷ []; parts = refl; some = omega arith; spells = grammar.decoded; deep = some })
  primary_sound n (parts.Reserved keywords.PipelineRegister ∷ ts) x some e = boundary_sound n ts x some e
  primary_sound n (parts.Sign signs.OpenRound ∷ ts) x some e = inside_sound n ts x e
  primary_sound n _ x some e = absurd cc

  unary_sound : (n : ℕ) (ts : Toks) (x : ExprTree × Toks) → unary_of rec n ts ≡ Some x → Takes 11 n ts x
  unfolding unary_of
  unary_sound zero ts x e = absurd cc
  unary_sound (suc n) (parts.Sign signs.Tilde ∷ ts) x e =
      let b = bind_some (rec (unary n ts)) (λ a. Some (expressions.Complement a.0, a.1)) x e in
      let t = sound (unary n ts) b.0 b.1 in
      let made : ExprTree × Toks = (expressions.Complement b.0.0, b.0.1) in
      subst (λ (y : ExprTree × Toks). Takes 11 (suc n) (mark signs.Tilde ∷ ts) y) (some_is made x b.2) (record {
        front = mark signs.Tilde ∷ t.front;
        parts = ap (λ (l : Toks). mark signs.Tilde ∷ l) t.parts;
        some = omega arith;
        spells = grammar.complement t.spells;
        deep = omega (arith, t.deep);
      })
  unary_sound (suc n) (parts.Sign signs.Exclamation ∷ ts) x e =
      let b = bind_some (rec (unary n ts)) (λ a. Some (expressions.Negate a.0, a.1)) x e in
      let t = sound (unary n ts) b.0 b.1 in
      let made : ExprTree × Toks = (expressions.Negate b.0.0, b.0.1) in
      subst (λ (y : ExprTree × Toks). Takes 11 (suc n) (mark signs.Exclamation ∷ ts) y) (some_is made x b.2) (record {
        front = mark signs.Exclamation ∷ t.front;
        parts = ap (λ (l : Toks). mark signs.Exclamation ∷ l) t.parts;
        some = omega arith;
        spells = grammar.negate t.spells;
        deep = omega (arith, t.deep);
      })
  unary_sound (suc n) (parts.Sign signs.OpenRound ∷ parts.TypeWord shape ∷ parts.Sign signs.CloseRound ∷ ts) x e =
      let b = bind_some (rec (unary n ts)) (λ a. Some (expressions.Cast shape a.0, a.1)) x e in
      let t = sound (unary n ts) b.0 b.1 in
      let made : ExprTree × Toks = (expressions.Cast shape b.0.0, b.0.1) in
      subst (λ (y : ExprTree × Toks). Takes 11 (suc n) (mark signs.OpenRound ∷ parts.TypeWord shape ∷ mark signs.CloseRound ∷ ts) y) (some_is made x b.2) (record {
        front = mark signs.OpenRound ∷ parts.TypeWord shape ∷ mark signs.CloseRound ∷ t.front;
        parts = ap (λ (l : Toks). mark signs.OpenRound ∷ parts.TypeWord shape ∷ mark signs.CloseRound ∷ l) t.parts;
        some = omega arith;
        spells = grammar.cast t.spells;
        deep = omega (arith, t.deep);
      })
  unary_sound (suc n) ts x e =
      let t = primary_sound (suc n) ts x (omega arith) e in
      record { front = t.front; parts = t.parts; some = t.some; spells = grammar.tighter t.spells; deep = t.deep }

  step_sound : IsSound (step rec)
  step_sound t x e = go t.want t.budget t.tokens e
    where
      go : (w : Want) (n : ℕ) (ts : Toks) → step rec (record { want = w; budget = n; tokens = ts }) ≡ Some x → Claim w n ts x
      go Whole n ts e = whole_sound n ts x e
      go (Operands stack) n ts e = operands_sound stack n ts x e
      go Unary n ts e = unary_sound n ts x e

-- ---- the whole recursion

within_sound : (f : ℕ) → IsSound (within size None step f)
unfolding within
within_sound zero t x e = absurd cc
within_sound (suc f) t x e = step_sound (guarded size None (within size None step f) t) (λ v y e'. within_sound f v y (guard_some (ltb (size v) (size t)) (within size None step f v) y e').1) t x e

pub reads_sound : IsSound reads
unfolding reads fix
reads_sound t x e = within_sound (suc (size t)) t x e
