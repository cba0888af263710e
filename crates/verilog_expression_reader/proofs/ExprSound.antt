-- What is read is spelled so.
use Rattle.std.proofs.Common.{◌≡◌, ℕ, zero, suc, ◌-◌, ◌<◌, ◌≤◌, ltb, List, [], ◌∷◌, ◌++◌, length, drop, Option, Some, None, refl, sym, ap, subst, ◌∙◌, append_assoc, arith}
use Rattle.std.proofs.lemmas.Bool.{ltb-true}
use Rattle.std.proofs.lemmas.List.{append-nil, length-append}
use Rattle.lisa_words.specs.declared.binary.Operator.{Operator}
use Rattle.lisa_words.specs.declared.binary.Operator.TheVariants as operators
use Rattle.lisa_words.specs.Operators.{level_of}
use Rattle.operator_levels.specs.Stacks.{Stack}
use Rattle.operator_levels.proofs.StackLaws.{level_range, finished_depth}
use Rattle.lisa_words.specs.Fix.{guarded, within, fix}
use Rattle.lisa_words.specs.Steps.{◌>>=◌}
use Rattle.lisa_words.proofs.StepLaws.{bind_some, guard_some, some_is}
use Rattle.verilog_text.specs.declared.expressions.VOne.TheVariants as ones
use Rattle.verilog_text.specs.declared.tokens.VSign.TheVariants as signs
use Rattle.verilog_text.specs.Tokens as tokens
use Rattle.verilog_text.specs.Trees.{v_depth, parts_depth}
use Rattle.verilog_text.specs.Grammar.{vsign_of}
use Rattle.verilog_places.specs.Trees as trees
use Rattle.verilog_places.specs.Trees.{PlacedTree, PlacedTrees, bare, bare_parts, moved, two, choose}
use Rattle.verilog_places.specs.Spelling as grammar
use Rattle.verilog_places.specs.Spelling.{PlacedToks, SpellsPlaced, SpellsPlacedParts}
use Rattle.verilog_expression_reader.specs.Past.{past_of}
use Rattle.verilog_expression_reader.specs.Reading.{Want, Whole, Operands, Unary, Primary, Parts, Task, Reader, depth, whole, operands, unary, primary, parts, all_then, operator_at, branches_of, choice_of, whole_of, push, finish, go_on, behind_of, operands_of, bits_of, cell_of, index_of, named_of, inside_of, more_of, parts_of, join_of, repeat_of, braces_of, primary_of, unary_of, step, size, reads}
use Rattle.verilog_expression_reader.proofs.PastLaws.{past_is}
use Rattle.verilog_expression_reader.proofs.Waiting.{Waits, nothing, pushed_waits, finished_spelled}

-- ---- lists of expressions

pub all_then_then : (a b c : PlacedTrees) → all_then (all_then a b) c ≡ all_then a (all_then b c)
all_then_then trees.End b c = refl
all_then_then (trees.Then e rest) b c = ap (trees.Then e) (all_then_then rest b c)

-- ---- places

pub bare_moved : (at : ℕ) (t : PlacedTree) → bare (moved at t) ≡ bare t
bare_moved at (trees.Number old width value) = refl
bare_moved at (trees.Named old name) = refl
bare_moved at (trees.Bits old name high low) = refl
bare_moved at (trees.Cell old name i) = refl
bare_moved at (trees.One old o a) = refl
bare_moved at (trees.Two old o a b) = refl
bare_moved at (trees.Choose old c a b) = refl
bare_moved at (trees.Join old all) = refl
bare_moved at (trees.Repeat old times a) = refl

pub depth_moved : (at : ℕ) (t : PlacedTree) → depth (moved at t) ≡ depth t
depth_moved at t = ap v_depth (bare_moved at t)

-- ---- what is claimed

-- what was taken from the front spells the tree
pub record Takes (l n : ℕ) (ts : PlacedToks) (x : PlacedTree × PlacedToks) : Type 0 where
  pub front : PlacedToks
  pub split : ts ≡ front ++ x.1
  pub some : 0 < length front
  pub spells : SpellsPlaced l front x.0
  pub deep : depth x.0 ≤ n

-- with what waits, what was taken from the front spells the tree
pub record TakesOperands (stack : Stack PlacedTree) (n : ℕ) (ts : PlacedToks) (x : PlacedTree × PlacedToks) : Type 0 where
  pub front : PlacedToks
  pub split : ts ≡ front ++ x.1
  pub some : 0 < length front
  pub spells : (ws : PlacedToks) (l : ℕ) → Waits stack ws l → l ≤ 11 → SpellsPlaced 1 (ws ++ front) x.0
  pub deep : depth x.0 ≤ n

-- behind these parts, what was taken from the front spells the others of the concatenation
pub record TakesParts (before : PlacedTrees) (n : ℕ) (ts : PlacedToks) (x : PlacedTree × PlacedToks) : Type 0 where
  pub front : PlacedToks
  pub split : ts ≡ front ++ x.1
  pub some : 0 < length front
  pub others : PlacedTrees
  pub is : x.0 ≡ trees.Join 0 (all_then before others)
  pub spells : SpellsPlacedParts front others
  pub deep : parts_depth (bare_parts others) ≤ n

abbrev pub Claim : Want → ℕ → PlacedToks → PlacedTree × PlacedToks → Type 0
Claim Whole n ts x = Takes 0 n ts x
Claim (Operands stack) n ts x = TakesOperands stack n ts x
Claim Unary n ts x = Takes 11 n ts x
Claim Primary n ts x = Takes 12 n ts x
Claim (Parts before) n ts x = TakesParts before n ts x

abbrev pub IsSound : Reader → Type 0
IsSound rec = (t : Task) (x : PlacedTree × PlacedToks) → rec t ≡ Some x → Claim t.want t.budget t.tokens x

-- ---- operators

pub record FrontOperator (o : Operator) (ts : PlacedToks) : Type 0 where
  pub at : ℕ
  pub rest : PlacedToks
  pub is : ts ≡ (at, tokens.Mark (vsign_of o)) ∷ rest

front : (p o : Operator) (at : ℕ) (ts : PlacedToks) → ◌≡◌ {A = Option Operator} (Some p) (Some o) → FrontOperator o ((at, tokens.Mark (vsign_of p)) ∷ ts)
front p o at ts e = subst (λ (q : Operator). FrontOperator q ((at, tokens.Mark (vsign_of p)) ∷ ts)) (some_is p o e) (record { at = at; rest = ts; is = refl })

pub operator_front : (o : Operator) (ts : PlacedToks) → operator_at ts ≡ Some o → FrontOperator o ts
operator_front o ((at, tokens.Mark signs.OrOr) ∷ ts) e = front operators.OneTrue o at ts e
operator_front o ((at, tokens.Mark signs.AndAnd) ∷ ts) e = front operators.BothTrue o at ts e
operator_front o ((at, tokens.Mark signs.Or) ∷ ts) e = front operators.Or o at ts e
operator_front o ((at, tokens.Mark signs.Caret) ∷ ts) e = front operators.Xor o at ts e
operator_front o ((at, tokens.Mark signs.And) ∷ ts) e = front operators.And o at ts e
operator_front o ((at, tokens.Mark signs.EqualEqual) ∷ ts) e = front operators.Equal o at ts e
operator_front o ((at, tokens.Mark signs.NotEqual) ∷ ts) e = front operators.Unequal o at ts e
operator_front o ((at, tokens.Mark signs.Less) ∷ ts) e = front operators.Less o at ts e
operator_front o ((at, tokens.Mark signs.LessEqual) ∷ ts) e = front operators.LessEqual o at ts e
operator_front o ((at, tokens.Mark signs.Greater) ∷ ts) e = front operators.Greater o at ts e
operator_front o ((at, tokens.Mark signs.GreaterEqual) ∷ ts) e = front operators.GreaterEqual o at ts e
operator_front o ((at, tokens.Mark signs.ShiftLeft) ∷ ts) e = front operators.Left o at ts e
operator_front o ((at, tokens.Mark signs.ShiftRight) ∷ ts) e = front operators.Right o at ts e
operator_front o ((at, tokens.Mark signs.Plus) ∷ ts) e = front operators.Add o at ts e
operator_front o ((at, tokens.Mark signs.Minus) ∷ ts) e = front operators.Sub o at ts e
operator_front o ((at, tokens.Mark signs.Star) ∷ ts) e = front operators.Mul o at ts e
operator_front o _ e = absurd cc

-- ---- one step

-- what stands behind an operand
record Behind (stack : Stack PlacedTree) (n : ℕ) (t : PlacedTree) (ts : PlacedToks) (x : PlacedTree × PlacedToks) : Type 0 where
  pub front : PlacedToks
  pub split : ts ≡ front ++ x.1
  pub spells : (ws xs : PlacedToks) (l : ℕ) → Waits stack ws l → l ≤ 11 → SpellsPlaced 11 xs t → SpellsPlaced 1 (ws ++ (xs ++ front)) x.0
  pub deep : depth x.0 ≤ n

-- what stands behind a test
record Chooses (n : ℕ) (c : PlacedTree) (ts : PlacedToks) (x : PlacedTree × PlacedToks) : Type 0 where
  pub front : PlacedToks
  pub split : ts ≡ front ++ x.1
  pub spells : (xs : PlacedToks) → SpellsPlaced 1 xs c → SpellsPlaced 0 (xs ++ front) x.0
  pub deep : depth c ≤ n → depth x.0 ≤ n

module _ (rec : Reader) (sound : IsSound rec) where
  branches_sound : (n : ℕ) (c : PlacedTree) (at : ℕ) (ts : PlacedToks) (x : PlacedTree × PlacedToks) → branches_of rec c n ts ≡ Some x → Chooses n c ((at, tokens.Mark signs.Question) ∷ ts) x
  unfolding branches_of
  branches_sound n c at ts x e =
      let g = guard_some (ltb (depth c) n) (rec (whole (n - 1) ts) >>= λ a. past_of signs.Colon a.1 >>= λ rest. rec (whole (n - 1) rest) >>= λ b. Some (choose c a.0 b.0, b.1)) x e in
      let less : depth c < n = ltb-true _ _ g.0 in
      let a = bind_some (rec (whole (n - 1) ts)) (λ a. past_of signs.Colon a.1 >>= λ rest. rec (whole (n - 1) rest) >>= λ b. Some (choose c a.0 b.0, b.1)) x g.1 in
      let p = bind_some (past_of signs.Colon a.0.1) (λ rest. rec (whole (n - 1) rest) >>= λ b. Some (choose c a.0.0 b.0, b.1)) x a.2 in
      let b = bind_some (rec (whole (n - 1) p.0)) (λ b. Some (choose c a.0.0 b.0, b.1)) x p.2 in
      let t = sound (whole (n - 1) ts) a.0 a.1 in
      let u = sound (whole (n - 1) p.0) b.0 b.1 in
      let colon = past_is signs.Colon a.0.1 p.0 p.1 in
      let made : PlacedTree × PlacedToks = (choose c a.0.0 b.0.0, b.0.1) in
      subst (λ (y : PlacedTree × PlacedToks). Chooses n c ((at, tokens.Mark signs.Question) ∷ ts) y) (some_is made x b.2) (record {
        front = (at, tokens.Mark signs.Question) ∷ (t.front ++ ((colon.at, tokens.Mark signs.Colon) ∷ u.front));
        split = ap (λ (l : PlacedToks). (at, tokens.Mark signs.Question) ∷ l) (t.split ∙ ap (λ (l : PlacedToks). t.front ++ l) (colon.is ∙ ap (λ (l : PlacedToks). (colon.at, tokens.Mark signs.Colon) ∷ l) u.split) ∙ sym (append_assoc t.front ((colon.at, tokens.Mark signs.Colon) ∷ u.front) b.0.1));
        spells = λ xs d. grammar.choose at colon.at d t.spells u.spells refl;
        deep = λ le. omega (arith, t.deep, u.deep);
      })

  choice_sound : (n : ℕ) (c : PlacedTree) (ts : PlacedToks) (x : PlacedTree × PlacedToks) → choice_of rec c n ts ≡ Some x → Chooses n c ts x
  choice_sound n c ((at, tokens.Mark signs.Question) ∷ ts) x e = branches_sound n c at ts x e
  choice_sound n c ts x e =
      subst (λ (y : PlacedTree × PlacedToks). Chooses n c ts y) (some_is (c, ts) x e) (record { front = []; split = refl; spells = λ xs d. subst (λ (l : PlacedToks). SpellsPlaced 0 l c) (sym (append-nil xs)) (grammar.tighter d); deep = λ le. le })

  whole_sound : (n : ℕ) (ts : PlacedToks) (x : PlacedTree × PlacedToks) → whole_of rec n ts ≡ Some x → Takes 0 n ts x
  unfolding whole_of
  whole_sound n ts x e =
      let a = bind_some (rec (operands [] n ts)) (λ a. choice_of rec a.0 n a.1) x e in
      let t = sound (operands [] n ts) a.0 a.1 in
      let c = choice_sound n a.0.0 a.0.1 x a.2 in
      record {
        front = t.front ++ c.front;
        split = t.split ∙ ap (λ (l : PlacedToks). t.front ++ l) c.split ∙ sym (append_assoc t.front c.front x.1);
        some = omega (arith, length-append t.front c.front, t.some);
        spells = c.spells t.front (t.spells [] 1 nothing (omega arith));
        deep = c.deep t.deep;
      }

  behind_sound : (stack : Stack PlacedTree) (n : ℕ) (t : PlacedTree) (ts : PlacedToks) (x : PlacedTree × PlacedToks) → depth t ≤ n → behind_of rec stack n t ts ≡ Some x → Behind stack n t ts x
  unfolding behind_of
  behind_sound stack n t ts x le e = go (operator_at ts) refl e
    where
      go : (o : Option Operator) → operator_at ts ≡ o → go_on o rec stack n t ts ≡ Some x → Behind stack n t ts x
      go None is e =
          let f = bind_some (finish n stack t) (λ u. Some (u, ts)) x e in
          subst (λ (y : PlacedTree × PlacedToks). Behind stack n t ts y) (some_is (f.0, ts) x f.2) (record {
            front = [];
            split = refl;
            spells = λ ws xs l w few d. subst (λ (u : PlacedToks). SpellsPlaced 1 (ws ++ u) f.0) (sym (append-nil xs)) (finished_spelled n w 11 xs t d few (omega arith) f.0 f.1);
            deep = finished_depth two depth n stack t f.0 le f.1;
          })
      go (Some o) is e =
          let f = operator_front o ts is in
          let p = bind_some (push n stack t o) (λ more. rec (operands more n (drop 1 ts))) x e in
          let u = sound (operands p.0 n (drop 1 ts)) x p.2 in
          let sign : PlacedToks = (f.at, tokens.Mark (vsign_of o)) ∷ [] in
          record {
            front = (f.at, tokens.Mark (vsign_of o)) ∷ u.front;
            split = f.is ∙ ap (λ (l : PlacedToks). (f.at, tokens.Mark (vsign_of o)) ∷ l) (sym (ap (drop 1) f.is) ∙ u.split);
            spells = λ ws xs l w few d.
                let w' = pushed_waits n w 11 xs t o f.at d few (omega (arith, (level_range o).1)) p.0 p.1 in
                let all = u.spells (ws ++ (xs ++ sign)) (suc (level_of o)) w' (omega (arith, (level_range o).1)) in
                subst (λ (l : PlacedToks). SpellsPlaced 1 l x.0) (append_assoc ws (xs ++ sign) u.front ∙ ap (λ (l : PlacedToks). ws ++ l) (append_assoc xs sign u.front)) all;
            deep = u.deep;
          }

  operands_sound : (stack : Stack PlacedTree) (n : ℕ) (ts : PlacedToks) (x : PlacedTree × PlacedToks) → operands_of rec stack n ts ≡ Some x → TakesOperands stack n ts x
  unfolding operands_of
  operands_sound stack n ts x e =
      let a = bind_some (rec (unary n ts)) (λ a. behind_of rec stack n a.0 a.1) x e in
      let t = sound (unary n ts) a.0 a.1 in
      let b = behind_sound stack n a.0.0 a.0.1 x t.deep a.2 in
      record {
        front = t.front ++ b.front;
        split = t.split ∙ ap (λ (l : PlacedToks). t.front ++ l) b.split ∙ sym (append_assoc t.front b.front x.1);
        some = omega (arith, length-append t.front b.front, t.some);
        spells = λ ws l w few. b.spells ws t.front l w few t.spells;
        deep = b.deep;
      }

  cell_sound : (at : ℕ) (name : List ℕ) (n p : ℕ) (ts : PlacedToks) (x : PlacedTree × PlacedToks) → 0 < n → cell_of rec at name n ts ≡ Some x → Takes 12 n ((at, tokens.Named name) ∷ (p, tokens.Mark signs.OpenSquare) ∷ ts) x
  unfolding cell_of
  cell_sound at name n p ts x some e =
      let b = bind_some (rec (whole (n - 1) ts)) (λ i. past_of signs.CloseSquare i.1 >>= λ rest. Some (trees.Cell at name i.0, rest)) x e in
      let c = bind_some (past_of signs.CloseSquare b.0.1) (λ rest. Some (trees.Cell at name b.0.0, rest)) x b.2 in
      let t = sound (whole (n - 1) ts) b.0 b.1 in
      let close = past_is signs.CloseSquare b.0.1 c.0 c.1 in
      let made : PlacedTree × PlacedToks = (trees.Cell at name b.0.0, c.0) in
      subst (λ (y : PlacedTree × PlacedToks). Takes 12 n ((at, tokens.Named name) ∷ (p, tokens.Mark signs.OpenSquare) ∷ ts) y) (some_is made x c.2) (record {
        front = (at, tokens.Named name) ∷ (p, tokens.Mark signs.OpenSquare) ∷ (t.front ++ (close.at, tokens.Mark signs.CloseSquare) ∷ []);
        split = ap (λ (l : PlacedToks). (at, tokens.Named name) ∷ (p, tokens.Mark signs.OpenSquare) ∷ l) (t.split ∙ ap (λ (l : PlacedToks). t.front ++ l) close.is ∙ sym (append_assoc t.front ((close.at, tokens.Mark signs.CloseSquare) ∷ []) c.0));
        some = omega arith;
        spells = grammar.cell p close.at t.spells refl;
        deep = omega (arith, t.deep);
      })

  bits_sound : (at : ℕ) (name : List ℕ) (n p q high digits : ℕ) (ts : PlacedToks) (x : PlacedTree × PlacedToks) → 0 < n → bits_of at name high ts ≡ Some x
      → Takes 12 n ((at, tokens.Named name) ∷ (p, tokens.Mark signs.OpenSquare) ∷ (q, tokens.Plain high digits) ∷ ts) x
  unfolding bits_of
  bits_sound at name n p q high digits ((r, tokens.Mark signs.CloseSquare) ∷ ts) x some e =
      let front : PlacedToks = (at, tokens.Named name) ∷ (p, tokens.Mark signs.OpenSquare) ∷ (q, tokens.Plain high digits) ∷ (r, tokens.Mark signs.CloseSquare) ∷ [] in
      subst (λ (y : PlacedTree × PlacedToks). Takes 12 n (front ++ ts) y) (some_is (trees.Bits at name high high, ts) x e) (record { front = front; split = refl; some = omega arith; spells = grammar.bit p q r refl; deep = some })
  bits_sound at name n p q high digits ((r, tokens.Mark signs.Colon) ∷ (s, tokens.Plain low more) ∷ (t, tokens.Mark signs.CloseSquare) ∷ ts) x some e =
      let front : PlacedToks = (at, tokens.Named name) ∷ (p, tokens.Mark signs.OpenSquare) ∷ (q, tokens.Plain high digits) ∷ (r, tokens.Mark signs.Colon) ∷ (s, tokens.Plain low more) ∷ (t, tokens.Mark signs.CloseSquare) ∷ [] in
      subst (λ (y : PlacedTree × PlacedToks). Takes 12 n (front ++ ts) y) (some_is (trees.Bits at name high low, ts) x e) (record { front = front; split = refl; some = omega arith; spells = grammar.part p q r s t refl; deep = some })
  bits_sound at name n p q high digits _ x some e = absurd cc

  index_sound : (at : ℕ) (name : List ℕ) (n p : ℕ) (ts : PlacedToks) (x : PlacedTree × PlacedToks) → 0 < n → index_of rec at name n ts ≡ Some x → Takes 12 n ((at, tokens.Named name) ∷ (p, tokens.Mark signs.OpenSquare) ∷ ts) x
  index_sound at name n p ((q, tokens.Plain high digits) ∷ ts) x some e = bits_sound at name n p q high digits ts x some e
  index_sound at name n p ts x some e = cell_sound at name n p ts x some e

  named_sound : (at : ℕ) (name : List ℕ) (n : ℕ) (ts : PlacedToks) (x : PlacedTree × PlacedToks) → 0 < n → named_of rec at name n ts ≡ Some x → Takes 12 n ((at, tokens.Named name) ∷ ts) x
  unfolding named_of
  named_sound at name n ((p, tokens.Mark signs.OpenSquare) ∷ ts) x some e = index_sound at name n p ts x some e
  named_sound at name n ts x some e =
      subst (λ (y : PlacedTree × PlacedToks). Takes 12 n ((at, tokens.Named name) ∷ ts) y) (some_is (trees.Named at name, ts) x e)
      (record { front = (at, tokens.Named name) ∷ []; split = refl; some = omega arith; spells = grammar.named refl; deep = some })

  inside_sound : (at n : ℕ) (ts : PlacedToks) (x : PlacedTree × PlacedToks) → inside_of rec at n ts ≡ Some x → Takes 12 n ((at, tokens.Mark signs.OpenRound) ∷ ts) x
  unfolding inside_of
  inside_sound at n ts x e =
      let b = bind_some (rec (whole n ts)) (λ a. past_of signs.CloseRound a.1 >>= λ rest. Some (moved at a.0, rest)) x e in
      let c = bind_some (past_of signs.CloseRound b.0.1) (λ rest. Some (moved at b.0.0, rest)) x b.2 in
      let t = sound (whole n ts) b.0 b.1 in
      let close = past_is signs.CloseRound b.0.1 c.0 c.1 in
      let made : PlacedTree × PlacedToks = (moved at b.0.0, c.0) in
      subst (λ (y : PlacedTree × PlacedToks). Takes 12 n ((at, tokens.Mark signs.OpenRound) ∷ ts) y) (some_is made x c.2) (record {
        front = (at, tokens.Mark signs.OpenRound) ∷ (t.front ++ (close.at, tokens.Mark signs.CloseRound) ∷ []);
        split = ap (λ (l : PlacedToks). (at, tokens.Mark signs.OpenRound) ∷ l) (t.split ∙ ap (λ (l : PlacedToks). t.front ++ l) close.is ∙ sym (append_assoc t.front ((close.at, tokens.Mark signs.CloseRound) ∷ []) c.0));
        some = omega arith;
        spells = grammar.inside close.at t.spells refl;
        deep = rw (depth_moved at b.0.0) t.deep;
      })

  -- one part, and what stands behind it
  parts_sound : (before : PlacedTrees) (n : ℕ) (ts : PlacedToks) (x : PlacedTree × PlacedToks) → parts_of rec before n ts ≡ Some x → TakesParts before n ts x
  unfolding parts_of
  parts_sound before n ts x e =
      let a = bind_some (rec (whole n ts)) (λ a. more_of rec (all_then before (trees.Then a.0 trees.End)) n a.1) x e in
      let t = sound (whole n ts) a.0 a.1 in
      go a.0.0 a.0.1 t a.2
    where
      go : (c : PlacedTree) (us : PlacedToks) → Takes 0 n ts (c, us) → more_of rec (all_then before (trees.Then c trees.End)) n us ≡ Some x → TakesParts before n ts x
      go c ((p, tokens.Mark signs.Comma) ∷ us) t e =
          let u = sound (parts (all_then before (trees.Then c trees.End)) n us) x e in
          record {
            front = t.front ++ ((p, tokens.Mark signs.Comma) ∷ u.front);
            split = t.split ∙ ap (λ (l : PlacedToks). t.front ++ ((p, tokens.Mark signs.Comma) ∷ l)) u.split ∙ sym (append_assoc t.front ((p, tokens.Mark signs.Comma) ∷ u.front) x.1);
            some = omega (arith, length-append t.front ((p, tokens.Mark signs.Comma) ∷ u.front), t.some);
            others = trees.Then c u.others;
            is = u.is ∙ ap (trees.Join 0) (all_then_then before (trees.Then c trees.End) u.others);
            spells = grammar.more p t.spells u.spells refl;
            deep = omega (arith, t.deep, u.deep);
          }
      go c us t e =
          subst (λ (y : PlacedTree × PlacedToks). TakesParts before n ts y) (some_is (trees.Join 0 (all_then before (trees.Then c trees.End)), us) x e)
          (record { front = t.front; split = t.split; some = t.some; others = trees.Then c trees.End; is = refl; spells = grammar.last t.spells; deep = omega (arith, t.deep) })

  join_sound : (at n : ℕ) (ts : PlacedToks) (x : PlacedTree × PlacedToks) → 0 < n → join_of rec at n ts ≡ Some x → Takes 12 n ((at, tokens.Mark signs.OpenBrace) ∷ ts) x
  unfolding join_of
  join_sound at n ts x some e =
      let b = bind_some (rec (parts trees.End (n - 1) ts)) (λ a. past_of signs.CloseBrace a.1 >>= λ rest. Some (moved at a.0, rest)) x e in
      let c = bind_some (past_of signs.CloseBrace b.0.1) (λ rest. Some (moved at b.0.0, rest)) x b.2 in
      let t = sound (parts trees.End (n - 1) ts) b.0 b.1 in
      let close = past_is signs.CloseBrace b.0.1 c.0 c.1 in
      let front : PlacedToks = (at, tokens.Mark signs.OpenBrace) ∷ (t.front ++ (close.at, tokens.Mark signs.CloseBrace) ∷ []) in
      let joined : trees.Join at t.others ≡ moved at b.0.0 = sym (ap (moved at) t.is) in
      let made : PlacedTree × PlacedToks = (moved at b.0.0, c.0) in
      subst (λ (y : PlacedTree × PlacedToks). Takes 12 n ((at, tokens.Mark signs.OpenBrace) ∷ ts) y) (some_is made x c.2) (record {
        front = front;
        split = ap (λ (l : PlacedToks). (at, tokens.Mark signs.OpenBrace) ∷ l) (t.split ∙ ap (λ (l : PlacedToks). t.front ++ l) close.is ∙ sym (append_assoc t.front ((close.at, tokens.Mark signs.CloseBrace) ∷ []) c.0));
        some = omega arith;
        spells = subst (λ (u : PlacedTree). SpellsPlaced 12 front u) joined (grammar.join close.at t.spells refl);
        deep = subst (λ (u : PlacedTree). depth u ≤ n) joined (omega (arith, t.deep));
      })

  repeat_sound : (at n times p digits q : ℕ) (ts : PlacedToks) (x : PlacedTree × PlacedToks) → 0 < n → repeat_of rec at times n ts ≡ Some x
      → Takes 12 n ((at, tokens.Mark signs.OpenBrace) ∷ (p, tokens.Plain times digits) ∷ (q, tokens.Mark signs.OpenBrace) ∷ ts) x
  unfolding repeat_of
  repeat_sound at n times p digits q ts x some e =
      let g = guard_some (ltb 0 times) (rec (whole (n - 1) ts) >>= λ a. past_of signs.CloseBrace a.1 >>= λ rest. past_of signs.CloseBrace rest >>= λ behind. Some (trees.Repeat at times a.0, behind)) x e in
      let positive : 0 < times = ltb-true _ _ g.0 in
      let a = bind_some (rec (whole (n - 1) ts)) (λ a. past_of signs.CloseBrace a.1 >>= λ rest. past_of signs.CloseBrace rest >>= λ behind. Some (trees.Repeat at times a.0, behind)) x g.1 in
      let b = bind_some (past_of signs.CloseBrace a.0.1) (λ rest. past_of signs.CloseBrace rest >>= λ behind. Some (trees.Repeat at times a.0.0, behind)) x a.2 in
      let c = bind_some (past_of signs.CloseBrace b.0) (λ behind. Some (trees.Repeat at times a.0.0, behind)) x b.2 in
      let t = sound (whole (n - 1) ts) a.0 a.1 in
      let inner = past_is signs.CloseBrace a.0.1 b.0 b.1 in
      let outer = past_is signs.CloseBrace b.0 c.0 c.1 in
      let ends : PlacedToks = (inner.at, tokens.Mark signs.CloseBrace) ∷ (outer.at, tokens.Mark signs.CloseBrace) ∷ [] in
      let made : PlacedTree × PlacedToks = (trees.Repeat at times a.0.0, c.0) in
      subst (λ (y : PlacedTree × PlacedToks). Takes 12 n ((at, tokens.Mark signs.OpenBrace) ∷ (p, tokens.Plain times digits) ∷ (q, tokens.Mark signs.OpenBrace) ∷ ts) y) (some_is made x c.2) (record {
        front = (at, tokens.Mark signs.OpenBrace) ∷ (p, tokens.Plain times digits) ∷ (q, tokens.Mark signs.OpenBrace) ∷ (t.front ++ ends);
        split = ap (λ (l : PlacedToks). (at, tokens.Mark signs.OpenBrace) ∷ (p, tokens.Plain times digits) ∷ (q, tokens.Mark signs.OpenBrace) ∷ l) (t.split
            ∙ ap (λ (l : PlacedToks). t.front ++ l) (inner.is ∙ ap (λ (l : PlacedToks). (inner.at, tokens.Mark signs.CloseBrace) ∷ l) outer.is)
            ∙ sym (append_assoc t.front ends c.0));
        some = omega arith;
        spells = grammar.repeat p q inner.at outer.at positive t.spells refl;
        deep = omega (arith, t.deep);
      })

  braces_sound : (at n : ℕ) (ts : PlacedToks) (x : PlacedTree × PlacedToks) → 0 < n → braces_of rec at n ts ≡ Some x → Takes 12 n ((at, tokens.Mark signs.OpenBrace) ∷ ts) x
  braces_sound at n ((p, tokens.Plain times digits) ∷ (q, tokens.Mark signs.OpenBrace) ∷ ts) x some e = repeat_sound at n times p digits q ts x some e
  braces_sound at n ts x some e = join_sound at n ts x some e

  primary_sound : (n : ℕ) (ts : PlacedToks) (x : PlacedTree × PlacedToks) → primary_of rec n ts ≡ Some x → Takes 12 n ts x
  unfolding primary_of
  primary_sound zero ts x e = absurd cc
  primary_sound (suc n) ((at, tokens.Sized width value) ∷ ts) x e =
      subst (λ (y : PlacedTree × PlacedToks). Takes 12 (suc n) ((at, tokens.Sized width value) ∷ ts) y) (some_is (trees.Number at width value, ts) x e)
      (record { front = (at, tokens.Sized width value) ∷ []; split = refl; some = omega arith; spells = grammar.number refl; deep = omega arith })
  primary_sound (suc n) ((at, tokens.Named name) ∷ ts) x e = named_sound at name (suc n) ts x (omega arith) e
  primary_sound (suc n) ((at, tokens.Mark signs.OpenRound) ∷ ts) x e = inside_sound at (suc n) ts x e
  primary_sound (suc n) ((at, tokens.Mark signs.OpenBrace) ∷ ts) x e = braces_sound at (suc n) ts x (omega arith) e
  primary_sound (suc n) _ x e = absurd cc

  unary_sound : (n : ℕ) (ts : PlacedToks) (x : PlacedTree × PlacedToks) → unary_of rec n ts ≡ Some x → Takes 11 n ts x
  unfolding unary_of
  unary_sound zero ts x e = absurd cc
  unary_sound (suc n) ((at, tokens.Mark signs.Tilde) ∷ ts) x e =
      let b = bind_some (rec (primary n ts)) (λ a. Some (trees.One at ones.Complement a.0, a.1)) x e in
      let t = sound (primary n ts) b.0 b.1 in
      let made : PlacedTree × PlacedToks = (trees.One at ones.Complement b.0.0, b.0.1) in
      subst (λ (y : PlacedTree × PlacedToks). Takes 11 (suc n) ((at, tokens.Mark signs.Tilde) ∷ ts) y) (some_is made x b.2) (record {
        front = (at, tokens.Mark signs.Tilde) ∷ t.front;
        split = ap (λ (l : PlacedToks). (at, tokens.Mark signs.Tilde) ∷ l) t.split;
        some = omega arith;
        spells = grammar.one ones.Complement t.spells refl;
        deep = omega (arith, t.deep);
      })
  unary_sound (suc n) ((at, tokens.Mark signs.Exclamation) ∷ ts) x e =
      let b = bind_some (rec (primary n ts)) (λ a. Some (trees.One at ones.Negate a.0, a.1)) x e in
      let t = sound (primary n ts) b.0 b.1 in
      let made : PlacedTree × PlacedToks = (trees.One at ones.Negate b.0.0, b.0.1) in
      subst (λ (y : PlacedTree × PlacedToks). Takes 11 (suc n) ((at, tokens.Mark signs.Exclamation) ∷ ts) y) (some_is made x b.2) (record {
        front = (at, tokens.Mark signs.Exclamation) ∷ t.front;
        split = ap (λ (l : PlacedToks). (at, tokens.Mark signs.Exclamation) ∷ l) t.split;
        some = omega arith;
        spells = grammar.one ones.Negate t.spells refl;
        deep = omega (arith, t.deep);
      })
  unary_sound (suc n) ts x e =
      let t = sound (primary (suc n) ts) x e in
      record { front = t.front; split = t.split; some = t.some; spells = grammar.tighter t.spells; deep = t.deep }

  step_sound : IsSound (step rec)
  step_sound t x e = go t.want t.budget t.tokens e
    where
      go : (w : Want) (n : ℕ) (ts : PlacedToks) → step rec (record { want = w; budget = n; tokens = ts }) ≡ Some x → Claim w n ts x
      go Whole n ts e = whole_sound n ts x e
      go (Operands stack) n ts e = operands_sound stack n ts x e
      go Unary n ts e = unary_sound n ts x e
      go Primary n ts e = primary_sound n ts x e
      go (Parts before) n ts e = parts_sound before n ts x e

-- ---- the whole recursion

within_sound : (f : ℕ) → IsSound (within size None step f)
unfolding within
within_sound zero t x e = absurd cc
within_sound (suc f) t x e = step_sound (guarded size None (within size None step f) t) (λ v y e'. within_sound f v y (guard_some (ltb (size v) (size t)) (within size None step f v) y e').1) t x e

pub reads_sound : IsSound reads
unfolding reads fix
reads_sound t x e = within_sound (suc (size t)) t x e
