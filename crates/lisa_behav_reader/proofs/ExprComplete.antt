-- What is spelled is read.
use Rattle.std.proofs.Common.{◌≡◌, ℕ, zero, suc, ◌+◌, ◌-◌, ◌^◌, ◌<◌, ◌≤◌, Bool, true, false, cond, ltb, ◌&&◌, nat_lt, List, [], ◌∷◌, ◌++◌, length, drop, Option, Some, None, refl, sym, ap, subst, ◌∙◌, append_assoc, arith, inl, inr, max}
use Rattle.std.specs.Option.{option_map_or}
use Rattle.std.proofs.lemmas.Bool.{cases_lt, lt-ltb}
use Rattle.lisa_tree.specs.declared.tokens.Base.TheVariants as bases
use Rattle.lisa_tree.specs.declared.tokens.Keyword.TheVariants as keywords
use Rattle.lisa_tree.specs.declared.tokens.Sign.{Sign}
use Rattle.lisa_tree.specs.declared.tokens.Sign.TheVariants as signs
use Rattle.lisa_tree.specs.declared.tokens.TokenPart.{TokenPart}
use Rattle.lisa_tree.specs.declared.tokens.TokenPart.TheVariants as parts
use Rattle.lisa_words.specs.declared.binary.Operator.{Operator}
use Rattle.lisa_words.specs.declared.binary.Operator.TheVariants as operators
use Rattle.lisa_tree.specs.Operators.{sign_of}
use Rattle.lisa_words.specs.Operators.{level_of}
use Rattle.lisa_tree.specs.Expressions as expressions
use Rattle.lisa_tree.specs.Expressions.{ExprTree, expr_depth}
use Rattle.lisa_tree.specs.Grammar as grammar
use Rattle.lisa_tree.specs.Grammar.{Toks, mark, is_binary, binary_value, SpellsExpr}
use Rattle.operator_levels.specs.Stacks.{Stack}
use Rattle.operator_levels.proofs.StackLaws.{level_range, IsLooser, looser_up, pushed_stays, pushed_pops, finished_pops}
use Rattle.lisa_words.specs.Steps.{◌>>=◌}
use Rattle.lisa_behav_reader.specs.Past.{past_of}
use Rattle.lisa_behav_reader.specs.Reading.{Answer, whole, operands, unary, operator_of, operator_at, branches_of, choice_of, whole_of, push, finish, go_on, behind_of, operands_of, named_of, name_of, input_of, boundary_of, inside_of, pattern_of, primary_of, unary_of, reads}
use Rattle.lisa_behav_reader.proofs.ExprSound.{operator_front}
use Rattle.lisa_behav_reader.proofs.ExprEquation.{at_whole, at_operands, at_unary}

-- how tightly a token holds on to what stands before it; 13 is more than any level
abbrev pub binds_sign : Sign → ℕ
binds_sign signs.OpenSquare = 13
binds_sign signs.Question = 1
binds_sign sign = option_map_or level_of (operator_of sign) 0

abbrev pub binds : TokenPart → ℕ
binds (parts.Sign sign) = binds_sign sign
binds _ = 0

abbrev pub front_binds : Toks → ℕ
front_binds [] = 0
front_binds (t ∷ ts) = binds t

binds-operator : (o : Operator) → binds (mark (sign_of o)) ≡ level_of o
binds-operator operators.OneTrue = refl
binds-operator _ = refl

operator_there : (o : Operator) (ts : Toks) → operator_at (mark (sign_of o) ∷ ts) ≡ Some o
operator_there operators.OneTrue ts = refl
operator_there _ ts = refl

depth_positive : (t : ExprTree) → 0 < expr_depth t
depth_positive (expressions.Element name i) = omega arith
depth_positive _ = omega arith

-- an operator at the front binds as tightly as its level says
front_level : (o : Operator) (ts : Toks) → operator_at ts ≡ Some o → front_binds ts ≡ level_of o
front_level o ts e = let f = operator_front o ts e in ap front_binds f.is ∙ binds-operator o

none_follows : (ts : Toks) → front_binds ts ≤ 0 → operator_at ts ≡ None
none_follows ts le = go (operator_at ts) refl
  where
    go : (o : Option Operator) → operator_at ts ≡ o → o ≡ None
    go None e = refl
    go (Some o) e = absurd (omega (arith, front_level o ts e, (level_range o).0))

-- ---- the equations, case by case

choice_stops : (c : ExprTree) (n : ℕ) (ts : Toks) → front_binds ts ≤ 0 → choice_of reads c n ts ≡ Some (c, ts)
choice_stops c n (parts.Sign signs.Question ∷ ts) le = absurd (omega arith)
choice_stops c n ts le = refl

behind_alone : (n : ℕ) (t : ExprTree) (ts : Toks) → operator_at ts ≡ None → behind_of reads [] n t ts ≡ Some (t, ts)
unfolding behind_of
behind_alone n t ts e = ap (λ (o : Option Operator). go_on o reads [] n t ts) e

behind_joins : (stack : Stack ExprTree) (n : ℕ) (o : Operator) (a : ExprTree) (ts : Toks) → behind_of reads stack n a (mark (sign_of o) ∷ ts) ≡ (push n stack a o >>= λ more. reads (operands more n ts))
unfolding behind_of
behind_joins stack n o a ts = ap (λ (p : Option Operator). go_on p reads stack n a (mark (sign_of o) ∷ ts)) (operator_there o ts)

-- what waits last is joined where nothing tighter follows
behind_pops : (stack : Stack ExprTree) (n : ℕ) (o : Operator) (a b : ExprTree) (ts : Toks) → front_binds ts ≤ level_of o → expr_depth (expressions.Two o a b) ≤ n → behind_of reads ((a, o) ∷ stack) n b ts ≡ behind_of reads stack n (expressions.Two o a b) ts
unfolding behind_of
behind_pops stack n o a b ts le deep = go (operator_at ts) refl
  where
    go : (p : Option Operator) → operator_at ts ≡ p → go_on p reads ((a, o) ∷ stack) n b ts ≡ go_on p reads stack n (expressions.Two o a b) ts
    go None e = ap (λ (q : Option ExprTree). q >>= λ x. Some (x, ts)) (finished_pops expressions.Two expr_depth n stack o a b deep)
    go (Some p) e = ap (λ (q : Option (Stack ExprTree)). q >>= λ more. reads (operands more n (drop 1 ts))) (pushed_pops expressions.Two expr_depth n stack o p a b (omega (arith, front_level p ts e)) deep)

pub chain_from : (stack : Stack ExprTree) (n : ℕ) (us : Toks) (t : ExprTree) (rest : Toks) → reads (unary n us) ≡ Some (t, rest) → reads (operands stack n us) ≡ behind_of reads stack n t rest
unfolding operands_of
chain_from stack n us t rest e = at_operands stack n us ∙ ap (λ (q : Answer). q >>= λ a. behind_of reads stack n a.0 a.1) e

whole_from : (n : ℕ) (us : Toks) (t : ExprTree) (rest : Toks) → front_binds rest ≤ 0 → reads (operands [] n us) ≡ behind_of reads [] n t rest → reads (whole n us) ≡ Some (t, rest)
unfolding whole_of
whole_from n us t rest stops e =
    at_whole n us ∙ ap (λ (q : Answer). q >>= λ a. choice_of reads a.0 n a.1) (e ∙ behind_alone n t rest (none_follows rest stops)) ∙ choice_stops t n rest stops

-- ---- types

abbrev begins_type : Toks → Bool
begins_type (parts.TypeWord shape ∷ ts) = true
begins_type _ = false

-- no expression begins with a type
no_type : {l : ℕ} {ts : Toks} {t : ExprTree} → SpellsExpr l ts t → (rest : Toks) → begins_type (ts ++ rest) ≡ false
no_type grammar.number rest = refl
no_type (grammar.pattern b c) rest = refl
no_type grammar.named rest = refl
no_type (grammar.element d is) rest = rw is refl
no_type grammar.input rest = refl
no_type grammar.decoded rest = refl
no_type grammar.boundary rest = refl
no_type (grammar.inside d is) rest = rw is refl
no_type (grammar.complement d) rest = refl
no_type (grammar.negate d) rest = refl
no_type (grammar.cast d) rest = refl
no_type (grammar.two o {xs = xs} {ys = ys} same d e is) rest =
    ap (λ (u : Toks). begins_type (u ++ rest)) is ∙ ap begins_type (append_assoc xs (mark (sign_of o) ∷ ys) rest) ∙ no_type d ((mark (sign_of o) ∷ ys) ++ rest)
no_type (grammar.choose {xs = xs} {ys = ys} {zs = zs} d e f is) rest =
    ap (λ (u : Toks). begins_type (u ++ rest)) is ∙ ap begins_type (append_assoc xs (mark signs.Question ∷ (ys ++ (mark signs.Colon ∷ zs))) rest) ∙ no_type d ((mark signs.Question ∷ (ys ++ (mark signs.Colon ∷ zs))) ++ rest)
no_type (grammar.tighter d) rest = no_type d rest

no_cast : (n : ℕ) (us : Toks) → begins_type us ≡ false → unary_of reads (suc n) (mark signs.OpenRound ∷ us) ≡ inside_of reads (suc n) us
unfolding unary_of primary_of
no_cast n (parts.TypeWord shape ∷ us) e = absurd cc
no_cast n us e = refl

named_stops : (name : List ℕ) (n : ℕ) (ts : Toks) → front_binds ts ≤ 11 → named_of reads name n ts ≡ Some (expressions.Named name, ts)
unfolding named_of
named_stops name n (parts.Sign signs.OpenSquare ∷ ts) le = absurd (omega arith)
named_stops name n ts le = refl

pattern_there : (digits : List ℕ) (ts : Toks) → is_binary digits ≡ true → binary_value digits < 2 ^ 64 → pattern_of digits ts ≡ Some (expressions.Number (binary_value digits) bases.Binary, ts)
unfolding pattern_of
pattern_there digits ts b lt = rw (b, lt-ltb (binary_value digits) (2 ^ 64) lt) refl

-- ---- what is spelled is read

pub record Completes (l : ℕ) (ts : Toks) (t : ExprTree) : Type 0 where
  pub operand : 11 ≤ l → (n : ℕ) (rest : Toks) → expr_depth t ≤ n → front_binds rest ≤ 11 → reads (unary n (ts ++ rest)) ≡ Some (t, rest)
  pub chain : 1 ≤ l → l ≤ 11 → (stack : Stack ExprTree) (n : ℕ) (rest : Toks) → IsLooser stack l → expr_depth t ≤ n → front_binds rest ≤ l → reads (operands stack n (ts ++ rest)) ≡ behind_of reads stack n t rest
  pub entire : (n : ℕ) (rest : Toks) → expr_depth t ≤ n → front_binds rest ≤ 0 → reads (whole n (ts ++ rest)) ≡ Some (t, rest)

from_operand : (l : ℕ) (ts : Toks) (t : ExprTree) → ((n : ℕ) (rest : Toks) → expr_depth t ≤ suc n → front_binds rest ≤ 11 → unary_of reads (suc n) (ts ++ rest) ≡ Some (t, rest)) → Completes l ts t
from_operand l ts t f =
    let one : (n : ℕ) (rest : Toks) → expr_depth t ≤ n → front_binds rest ≤ 11 → reads (unary n (ts ++ rest)) ≡ Some (t, rest) = by_budget in
    record {
      operand = λ _ n rest deep stops. one n rest deep stops;
      chain = λ _ few stack n rest loose deep stops. chain_from stack n (ts ++ rest) t rest (one n rest deep (omega arith));
      entire = λ n rest deep stops. whole_from n (ts ++ rest) t rest stops (chain_from [] n (ts ++ rest) t rest (one n rest deep (omega arith)));
    }
  where
    by_budget : (n : ℕ) (rest : Toks) → expr_depth t ≤ n → front_binds rest ≤ 11 → reads (unary n (ts ++ rest)) ≡ Some (t, rest)
    by_budget zero rest deep stops = absurd (omega (arith, depth_positive t))
    by_budget (suc n) rest deep stops = at_unary (suc n) (ts ++ rest) ∙ f n rest deep stops

pub complete : {l : ℕ} {ts : Toks} {t : ExprTree} → SpellsExpr l ts t → Completes l ts t
unfolding unary_of primary_of named_of inside_of input_of boundary_of branches_of whole_of
complete (grammar.number {value = value} {base = base}) = from_operand 12 (parts.Number value base ∷ []) (expressions.Number value base) (λ n rest deep stops. refl)
complete (grammar.pattern {digits = digits} b lt) = from_operand 12 (parts.Pattern digits ∷ []) (expressions.Number (binary_value digits) bases.Binary) (λ n rest deep stops. pattern_there digits rest b lt)
complete (grammar.named {name = name}) = from_operand 12 (parts.Named name ∷ []) (expressions.Named name) (λ n rest deep stops. named_stops name (suc n) rest stops)
complete (grammar.element {name = name} {ts = ts} {xs = xs} {index = i} d is) =
    let c = complete d in
    from_operand 12 ts (expressions.Element name i) (λ n rest deep stops.
    let regrouped = ap (λ (l : Toks). l ++ rest) is ∙ ap (λ (l : Toks). parts.Named name ∷ mark signs.OpenSquare ∷ l) (append_assoc xs (mark signs.CloseSquare ∷ []) rest) in
    ap (unary_of reads (suc n)) regrouped
    ∙ ap (λ (q : Answer). q >>= λ x. past_of signs.CloseSquare x.1 >>= λ after. Some (expressions.Element name x.0, after)) (c.entire (suc n - 1) (mark signs.CloseSquare ∷ rest) (omega arith) (omega arith)))
complete (grammar.input {field = field}) = from_operand 12 (parts.Reserved keywords.In ∷ mark signs.Dot ∷ parts.Named field ∷ []) (expressions.Input field) (λ n rest deep stops. refl)
complete grammar.decoded = from_operand 12 (parts.Reserved keywords.Decoded ∷ []) expressions.Decoded (λ n rest deep stops. refl)
complete (grammar.boundary {pipe = pipe} {before = before} {after = after} {field = field}) =
    from_operand 12 (parts.Reserved keywords.PipelineRegister ∷ mark signs.OpenRound ∷ parts.Named pipe ∷ mark signs.Comma ∷ parts.Named before ∷ mark signs.Slash ∷ parts.Named after ∷ mark signs.CloseRound ∷ mark signs.Dot ∷ parts.Named field ∷ []) (expressions.Boundary pipe before after field) (λ n rest deep stops. refl)
complete (grammar.inside {ts = ts} {xs = xs} {a = a} d is) =
    let c = complete d in
    from_operand 12 ts a (λ n rest deep stops.
    let regrouped = ap (λ (l : Toks). l ++ rest) is ∙ ap (λ (l : Toks). mark signs.OpenRound ∷ l) (append_assoc xs (mark signs.CloseRound ∷ []) rest) in
    ap (unary_of reads (suc n)) regrouped ∙ no_cast n (xs ++ (mark signs.CloseRound ∷ rest)) (no_type d (mark signs.CloseRound ∷ rest))
    ∙ ap (λ (q : Answer). q >>= λ x. past_of signs.CloseRound x.1 >>= λ after. Some (x.0, after)) (c.entire (suc n) (mark signs.CloseRound ∷ rest) deep (omega arith)))
complete (grammar.complement {xs = xs} {a = a} d) =
    let c = complete d in
    from_operand 11 (mark signs.Tilde ∷ xs) (expressions.Complement a) (λ n rest deep stops. ap (λ (q : Answer). q >>= λ x. Some (expressions.Complement x.0, x.1)) (c.operand (omega arith) n rest (omega arith) stops))
complete (grammar.negate {xs = xs} {a = a} d) =
    let c = complete d in
    from_operand 11 (mark signs.Exclamation ∷ xs) (expressions.Negate a) (λ n rest deep stops. ap (λ (q : Answer). q >>= λ x. Some (expressions.Negate x.0, x.1)) (c.operand (omega arith) n rest (omega arith) stops))
complete (grammar.cast {shape = shape} {xs = xs} {a = a} d) =
    let c = complete d in
    from_operand 11 (mark signs.OpenRound ∷ parts.TypeWord shape ∷ mark signs.CloseRound ∷ xs) (expressions.Cast shape a) (λ n rest deep stops. ap (λ (q : Answer). q >>= λ x. Some (expressions.Cast shape x.0, x.1)) (c.operand (omega arith) n rest (omega arith) stops))
complete (grammar.two o {level = l} {ts = ts} {xs = xs} {ys = ys} {a = a} {b = b} same d e is) =
    let c = complete d in
    let k = complete e in
    let some : 1 ≤ l = omega (arith, same, (level_range o).0) in
    let few : l ≤ 10 = omega (arith, same, (level_range o).1) in
    let go : (stack : Stack ExprTree) (n : ℕ) (rest : Toks) → IsLooser stack l → expr_depth (expressions.Two o a b) ≤ n → front_binds rest ≤ l → reads (operands stack n (ts ++ rest)) ≡ behind_of reads stack n (expressions.Two o a b) rest = λ stack n rest loose deep stops.
    let regrouped = ap (λ (u : Toks). u ++ rest) is ∙ append_assoc xs (mark (sign_of o) ∷ ys) rest in
    let loose' : IsLooser stack (level_of o) = subst (IsLooser stack) same loose in
    ap (λ (u : Toks). reads (operands stack n u)) regrouped
    ∙ c.chain some (omega arith) stack n (mark (sign_of o) ∷ (ys ++ rest)) loose (omega arith) (omega (arith, binds-operator o, same))
    ∙ behind_joins stack n o a (ys ++ rest)
    ∙ ap (λ (p : Option (Stack ExprTree)). p >>= λ more. reads (operands more n (ys ++ rest))) (pushed_stays expressions.Two expr_depth n stack o a loose')
    ∙ k.chain (omega arith) (omega arith) ((a, o) ∷ stack) n rest (omega (arith, same)) (omega arith) (omega arith)
    ∙ behind_pops stack n o a b rest (omega (arith, same)) deep in
    record {
      operand = λ high. absurd (omega arith);
      chain = λ _ _ stack n rest loose deep stops. go stack n rest loose deep stops;
      entire = λ n rest deep stops. whole_from n (ts ++ rest) (expressions.Two o a b) rest stops (go [] n rest tt deep (omega arith));
    }
complete (grammar.choose {ts = ts} {xs = xs} {ys = ys} {zs = zs} {c = c} {a = a} {b = b} dc da db is) =
    let kc = complete dc in
    let ka = complete da in
    let kb = complete db in
    record {
      operand = λ high. absurd (omega arith);
      chain = λ some. absurd (omega arith);
      entire = λ n rest deep stops.
          let regrouped = ap (λ (l : Toks). l ++ rest) is ∙ append_assoc xs (mark signs.Question ∷ (ys ++ (mark signs.Colon ∷ zs))) rest ∙ ap (λ (l : Toks). xs ++ (mark signs.Question ∷ l)) (append_assoc ys (mark signs.Colon ∷ zs) rest) in
          let tail : Toks = mark signs.Question ∷ (ys ++ (mark signs.Colon ∷ (zs ++ rest))) in
          let less : expr_depth c < n = omega arith in
          let first : reads (operands [] n (xs ++ tail)) ≡ Some (c, tail) = kc.chain (omega arith) (omega arith) [] n tail tt (omega arith) (omega arith) ∙ behind_alone n c tail refl in
          ap (λ (l : Toks). reads (whole n l)) regrouped ∙ at_whole n (xs ++ tail) ∙ ap (λ (q : Answer). q >>= λ x. choice_of reads x.0 n x.1) first
          ∙ ap (λ (z : Bool). cond z (reads (whole (n - 1) (ys ++ (mark signs.Colon ∷ (zs ++ rest)))) >>= λ x. past_of signs.Colon x.1 >>= λ after. reads (whole (n - 1) after) >>= λ y. Some (expressions.Choose c x.0 y.0, y.1)) None) (lt-ltb (expr_depth c) n less)
          ∙ ap (λ (q : Answer). q >>= λ x. past_of signs.Colon x.1 >>= λ after. reads (whole (n - 1) after) >>= λ y. Some (expressions.Choose c x.0 y.0, y.1)) (ka.entire (n - 1) (mark signs.Colon ∷ (zs ++ rest)) (omega arith) (omega arith))
          ∙ ap (λ (q : Answer). q >>= λ y. Some (expressions.Choose c a y.0, y.1)) (kb.entire (n - 1) rest (omega arith) stops);
    }
complete (grammar.tighter {level = l} {ts = ts} {a = t} d) =
    let c = complete d in
    record {
      operand = λ high n rest deep stops. c.operand (omega arith) n rest deep stops;
      chain = λ some few stack n rest loose deep stops.
          elim (cases_lt l 11) [
            | inl lt ↦ c.chain (omega arith) (omega arith) stack n rest (looser_up stack l (suc l) (omega arith) loose) deep (omega arith)
            | inr ge ↦ chain_from stack n (ts ++ rest) t rest (c.operand (omega arith) n rest deep (omega arith))
          ];
      entire = c.entire;
    }
