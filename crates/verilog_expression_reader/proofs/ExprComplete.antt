-- What is spelled is read.
use Rattle.std.proofs.Common.{◌≡◌, ℕ, zero, suc, ◌-◌, ◌<◌, ◌≤◌, Bool, true, false, cond, List, [], ◌∷◌, ◌++◌, drop, Option, Some, None, refl, ap, subst, ◌∙◌, append_assoc, arith, inl, inr}
use Rattle.std.proofs.lemmas.Bool.{cases_lt, lt-ltb}
use Rattle.lisa_words.specs.declared.binary.Operator.{Operator}
use Rattle.lisa_words.specs.declared.binary.Operator.TheVariants as operators
use Rattle.lisa_words.specs.Operators.{level_of}
use Rattle.operator_levels.specs.Stacks.{Stack}
use Rattle.operator_levels.proofs.StackLaws.{level_range, IsLooser, looser_up, pushed_stays, pushed_pops, finished_pops}
use Rattle.lisa_words.specs.Steps.{◌>>=◌}
use Rattle.verilog_text.specs.declared.expressions.VOne.TheVariants as ones
use Rattle.verilog_text.specs.declared.tokens.VSign.TheVariants as signs
use Rattle.verilog_text.specs.Tokens as tokens
use Rattle.verilog_text.specs.Trees.{parts_depth}
use Rattle.verilog_text.specs.Grammar.{vsign_of}
use Rattle.verilog_places.specs.Trees as trees
use Rattle.verilog_places.specs.Trees.{PlacedTree, PlacedTrees, bare, bare_parts, moved, two, choose}
use Rattle.verilog_places.specs.Spelling as grammar
use Rattle.verilog_places.specs.Spelling.{PlacedToks, SpellsPlaced, SpellsPlacedParts}
use Rattle.verilog_expression_reader.specs.Past.{past_of}
use Rattle.verilog_expression_reader.specs.Stops.{binds, front_binds}
use Rattle.verilog_expression_reader.specs.Reading.{Answer, depth, whole, operands, unary, primary, parts, all_then, operator_at, branches_of, choice_of, whole_of, push, go_on, behind_of, operands_of, bits_of, cell_of, index_of, named_of, inside_of, more_of, parts_of, join_of, repeat_of, braces_of, primary_of, unary_of, reads}
use Rattle.verilog_expression_reader.proofs.ExprSound.{operator_front, all_then_then, depth_moved}
use Rattle.verilog_expression_reader.proofs.ExprEquation.{at_whole, at_operands, at_unary, at_primary, at_parts}

binds-operator : (o : Operator) → binds (tokens.Mark (vsign_of o)) ≡ level_of o
binds-operator operators.OneTrue = refl
binds-operator _ = refl

operator_there : (o : Operator) (at : ℕ) (ts : PlacedToks) → operator_at ((at, tokens.Mark (vsign_of o)) ∷ ts) ≡ Some o
operator_there operators.OneTrue at ts = refl
operator_there _ at ts = refl

depth_positive : (t : PlacedTree) → 0 < depth t
depth_positive (trees.Cell at name i) = omega arith
depth_positive _ = omega arith

-- an operator at the front binds as tightly as its level says
front_level : (o : Operator) (ts : PlacedToks) → operator_at ts ≡ Some o → front_binds ts ≡ level_of o
front_level o ts e = let f = operator_front o ts e in ap front_binds f.is ∙ binds-operator o

none_follows : (ts : PlacedToks) → front_binds ts ≤ 0 → operator_at ts ≡ None
none_follows ts le = go (operator_at ts) refl
  where
    go : (o : Option Operator) → operator_at ts ≡ o → o ≡ None
    go None e = refl
    go (Some o) e = absurd (omega (arith, front_level o ts e, (level_range o).0))

-- ---- the equations, case by case

choice_stops : (c : PlacedTree) (n : ℕ) (ts : PlacedToks) → front_binds ts ≤ 0 → choice_of reads c n ts ≡ Some (c, ts)
choice_stops c n ((at, tokens.Mark signs.Question) ∷ ts) le = absurd (omega arith)
choice_stops c n ts le = refl

behind_alone : (n : ℕ) (t : PlacedTree) (ts : PlacedToks) → operator_at ts ≡ None → behind_of reads [] n t ts ≡ Some (t, ts)
unfolding behind_of
behind_alone n t ts e = ap (λ (o : Option Operator). go_on o reads [] n t ts) e

behind_joins : (stack : Stack PlacedTree) (n : ℕ) (o : Operator) (at : ℕ) (a : PlacedTree) (ts : PlacedToks) → behind_of reads stack n a ((at, tokens.Mark (vsign_of o)) ∷ ts) ≡ (push n stack a o >>= λ more. reads (operands more n ts))
unfolding behind_of
behind_joins stack n o at a ts = ap (λ (p : Option Operator). go_on p reads stack n a ((at, tokens.Mark (vsign_of o)) ∷ ts)) (operator_there o at ts)

-- what waits last is joined where nothing tighter follows
behind_pops : (stack : Stack PlacedTree) (n : ℕ) (o : Operator) (a b : PlacedTree) (ts : PlacedToks) → front_binds ts ≤ level_of o → depth (two o a b) ≤ n → behind_of reads ((a, o) ∷ stack) n b ts ≡ behind_of reads stack n (two o a b) ts
unfolding behind_of
behind_pops stack n o a b ts le deep = go (operator_at ts) refl
  where
    go : (p : Option Operator) → operator_at ts ≡ p → go_on p reads ((a, o) ∷ stack) n b ts ≡ go_on p reads stack n (two o a b) ts
    go None e = ap (λ (q : Option PlacedTree). q >>= λ x. Some (x, ts)) (finished_pops two depth n stack o a b deep)
    go (Some p) e = ap (λ (q : Option (Stack PlacedTree)). q >>= λ more. reads (operands more n (drop 1 ts))) (pushed_pops two depth n stack o p a b (omega (arith, front_level p ts e)) deep)

pub chain_from : (stack : Stack PlacedTree) (n : ℕ) (us : PlacedToks) (t : PlacedTree) (rest : PlacedToks) → reads (unary n us) ≡ Some (t, rest) → reads (operands stack n us) ≡ behind_of reads stack n t rest
unfolding operands_of
chain_from stack n us t rest e = at_operands stack n us ∙ ap (λ (q : Answer). q >>= λ a. behind_of reads stack n a.0 a.1) e

whole_from : (n : ℕ) (us : PlacedToks) (t : PlacedTree) (rest : PlacedToks) → front_binds rest ≤ 0 → reads (operands [] n us) ≡ behind_of reads [] n t rest → reads (whole n us) ≡ Some (t, rest)
unfolding whole_of
whole_from n us t rest stops e =
    at_whole n us ∙ ap (λ (q : Answer). q >>= λ a. choice_of reads a.0 n a.1) (e ∙ behind_alone n t rest (none_follows rest stops)) ∙ choice_stops t n rest stops

-- ---- what expressions don't begin with

abbrev begins_plain : PlacedToks → Bool
begins_plain ((at, tokens.Plain value digits) ∷ ts) = true
begins_plain _ = false

-- no expression begins with a plain number
no_plain : {l : ℕ} {ts : PlacedToks} {t : PlacedTree} → SpellsPlaced l ts t → (rest : PlacedToks) → begins_plain (ts ++ rest) ≡ false
no_plain (grammar.number is) rest = rw is refl
no_plain (grammar.named is) rest = rw is refl
no_plain (grammar.bit p q r is) rest = rw is refl
no_plain (grammar.part p q r s t is) rest = rw is refl
no_plain (grammar.cell p q d is) rest = rw is refl
no_plain (grammar.join p d is) rest = rw is refl
no_plain (grammar.repeat p q r s some d is) rest = rw is refl
no_plain (grammar.inside p d is) rest = rw is refl
no_plain (grammar.one o d is) rest = rw is refl
no_plain (grammar.two o at {xs = xs} {ys = ys} same d e is) rest =
    let tail : PlacedToks = (at, tokens.Mark (vsign_of o)) ∷ ys in
    ap (λ (u : PlacedToks). begins_plain (u ++ rest)) is ∙ ap begins_plain (append_assoc xs tail rest) ∙ no_plain d (tail ++ rest)
no_plain (grammar.choose p q {xs = xs} {ys = ys} {zs = zs} d e f is) rest =
    let tail : PlacedToks = (p, tokens.Mark signs.Question) ∷ (ys ++ ((q, tokens.Mark signs.Colon) ∷ zs)) in
    ap (λ (u : PlacedToks). begins_plain (u ++ rest)) is ∙ ap begins_plain (append_assoc xs tail rest) ∙ no_plain d (tail ++ rest)
no_plain (grammar.tighter d) rest = no_plain d rest

no_plain_part : {ts : PlacedToks} {all : PlacedTrees} → SpellsPlacedParts ts all → (rest : PlacedToks) → begins_plain (ts ++ rest) ≡ false
no_plain_part (grammar.last d) rest = no_plain d rest
no_plain_part (grammar.more at {xs = xs} {ys = ys} d ds is) rest =
    let tail : PlacedToks = (at, tokens.Mark signs.Comma) ∷ ys in
    ap (λ (u : PlacedToks). begins_plain (u ++ rest)) is ∙ ap begins_plain (append_assoc xs tail rest) ∙ no_plain d (tail ++ rest)

no_bits : (at : ℕ) (name : List ℕ) (n : ℕ) (us : PlacedToks) → begins_plain us ≡ false → index_of reads at name n us ≡ cell_of reads at name n us
no_bits at name n ((p, tokens.Plain value digits) ∷ us) e = absurd cc
no_bits at name n us e = refl

no_repeat : (at n : ℕ) (us : PlacedToks) → begins_plain us ≡ false → braces_of reads at n us ≡ join_of reads at n us
no_repeat at n ((p, tokens.Plain value digits) ∷ us) e = absurd cc
no_repeat at n us e = refl

named_stops : (at : ℕ) (name : List ℕ) (n : ℕ) (ts : PlacedToks) → front_binds ts ≤ 11 → named_of reads at name n ts ≡ Some (trees.Named at name, ts)
unfolding named_of
named_stops at name n ((p, tokens.Mark signs.OpenSquare) ∷ ts) le = absurd (omega arith)
named_stops at name n ts le = refl

-- ---- what is spelled is read

pub record Completes (l : ℕ) (ts : PlacedToks) (t : PlacedTree) : Type 0 where
  pub alone : 12 ≤ l → (n : ℕ) (rest : PlacedToks) → depth t ≤ n → front_binds rest ≤ 11 → reads (primary n (ts ++ rest)) ≡ Some (t, rest)
  pub operand : 11 ≤ l → (n : ℕ) (rest : PlacedToks) → depth t ≤ n → front_binds rest ≤ 11 → reads (unary n (ts ++ rest)) ≡ Some (t, rest)
  pub chain : 1 ≤ l → l ≤ 11 → (stack : Stack PlacedTree) (n : ℕ) (rest : PlacedToks) → IsLooser stack l → depth t ≤ n → front_binds rest ≤ l → reads (operands stack n (ts ++ rest)) ≡ behind_of reads stack n t rest
  pub entire : (n : ℕ) (rest : PlacedToks) → depth t ≤ n → front_binds rest ≤ 0 → reads (whole n (ts ++ rest)) ≡ Some (t, rest)

from_operand : (l : ℕ) (ts : PlacedToks) (t : PlacedTree) → (12 ≤ l → (n : ℕ) (rest : PlacedToks) → depth t ≤ n → front_binds rest ≤ 11 → reads (primary n (ts ++ rest)) ≡ Some (t, rest))
    → ((n : ℕ) (rest : PlacedToks) → depth t ≤ suc n → front_binds rest ≤ 11 → unary_of reads (suc n) (ts ++ rest) ≡ Some (t, rest)) → Completes l ts t
from_operand l ts t alone f =
    let one : (n : ℕ) (rest : PlacedToks) → depth t ≤ n → front_binds rest ≤ 11 → reads (unary n (ts ++ rest)) ≡ Some (t, rest) = by_budget in
    record {
      alone = alone;
      operand = λ _ n rest deep stops. one n rest deep stops;
      chain = λ _ few stack n rest loose deep stops. chain_from stack n (ts ++ rest) t rest (one n rest deep (omega arith));
      entire = λ n rest deep stops. whole_from n (ts ++ rest) t rest stops (chain_from [] n (ts ++ rest) t rest (one n rest deep (omega arith)));
    }
  where
    by_budget : (n : ℕ) (rest : PlacedToks) → depth t ≤ n → front_binds rest ≤ 11 → reads (unary n (ts ++ rest)) ≡ Some (t, rest)
    by_budget zero rest deep stops = absurd (omega (arith, depth_positive t))
    by_budget (suc n) rest deep stops = at_unary (suc n) (ts ++ rest) ∙ f n rest deep stops

-- a primary expression begins with no `~` or `!`
abbrev begins_one : PlacedToks → Bool
begins_one ((at, tokens.Mark signs.Tilde) ∷ ts) = true
begins_one ((at, tokens.Mark signs.Exclamation) ∷ ts) = true
begins_one _ = false

not_one : (n : ℕ) (us : PlacedToks) → begins_one us ≡ false → unary_of reads (suc n) us ≡ reads (primary (suc n) us)
unfolding unary_of
not_one n ((at, tokens.Mark signs.Tilde) ∷ us) e = absurd cc
not_one n ((at, tokens.Mark signs.Exclamation) ∷ us) e = absurd cc
not_one n us e = refl

from_primary : (ts : PlacedToks) (t : PlacedTree) → ((rest : PlacedToks) → begins_one (ts ++ rest) ≡ false)
    → ((n : ℕ) (rest : PlacedToks) → depth t ≤ suc n → front_binds rest ≤ 11 → primary_of reads (suc n) (ts ++ rest) ≡ Some (t, rest)) → Completes 12 ts t
from_primary ts t plain f =
    from_operand 12 ts t (λ _ n rest deep stops. by_budget n rest deep stops) (λ n rest deep stops. not_one n (ts ++ rest) (plain rest) ∙ by_budget (suc n) rest deep stops)
  where
    by_budget : (n : ℕ) (rest : PlacedToks) → depth t ≤ n → front_binds rest ≤ 11 → reads (primary n (ts ++ rest)) ≡ Some (t, rest)
    by_budget zero rest deep stops = absurd (omega (arith, depth_positive t))
    by_budget (suc n) rest deep stops = at_primary (suc n) (ts ++ rest) ∙ f n rest deep stops

mutual
  unfolding unary_of primary_of named_of bits_of cell_of inside_of join_of repeat_of branches_of whole_of parts_of

  pub complete : {l : ℕ} {ts : PlacedToks} {t : PlacedTree} → SpellsPlaced l ts t → Completes l ts t
  complete (grammar.number {ts = ts} {at = at} {width = width} {value = value} is) =
      from_primary ts (trees.Number at width value) (λ rest. rw is refl) (λ n rest deep stops. ap (λ (l : PlacedToks). primary_of reads (suc n) (l ++ rest)) is)
  complete (grammar.named {ts = ts} {at = at} {name = name} is) =
      from_primary ts (trees.Named at name) (λ rest. rw is refl) (λ n rest deep stops. ap (λ (l : PlacedToks). primary_of reads (suc n) (l ++ rest)) is ∙ named_stops at name (suc n) rest stops)
  complete (grammar.bit p q r {ts = ts} {at = at} {bit = place} {name = name} is) =
      from_primary ts (trees.Bits at name place place) (λ rest. rw is refl) (λ n rest deep stops. ap (λ (l : PlacedToks). primary_of reads (suc n) (l ++ rest)) is)
  complete (grammar.part p q r s t {ts = ts} {at = at} {high = high} {low = low} {name = name} is) =
      from_primary ts (trees.Bits at name high low) (λ rest. rw is refl) (λ n rest deep stops. ap (λ (l : PlacedToks). primary_of reads (suc n) (l ++ rest)) is)
  complete (grammar.cell p q {ts = ts} {xs = xs} {at = at} {name = name} {index = i} d is) =
      let c = complete d in
      from_primary ts (trees.Cell at name i) (λ rest. rw is refl) (λ n rest deep stops.
      let close : PlacedToks = (q, tokens.Mark signs.CloseSquare) ∷ rest in
      let regrouped = ap (λ (l : PlacedToks). l ++ rest) is ∙ ap (λ (l : PlacedToks). (at, tokens.Named name) ∷ (p, tokens.Mark signs.OpenSquare) ∷ l) (append_assoc xs ((q, tokens.Mark signs.CloseSquare) ∷ []) rest) in
      ap (primary_of reads (suc n)) regrouped
      ∙ no_bits at name (suc n) (xs ++ close) (no_plain d close)
      ∙ ap (λ (a : Answer). a >>= λ x. past_of signs.CloseSquare x.1 >>= λ after. Some (trees.Cell at name x.0, after)) (c.entire (suc n - 1) close (omega arith) (omega arith)))
  complete (grammar.join p {ts = ts} {xs = xs} {at = at} {all = all} ds is) =
      from_primary ts (trees.Join at all) (λ rest. rw is refl) (λ n rest deep stops.
      let close : PlacedToks = (p, tokens.Mark signs.CloseBrace) ∷ rest in
      let regrouped = ap (λ (l : PlacedToks). l ++ rest) is ∙ ap (λ (l : PlacedToks). (at, tokens.Mark signs.OpenBrace) ∷ l) (append_assoc xs ((p, tokens.Mark signs.CloseBrace) ∷ []) rest) in
      ap (primary_of reads (suc n)) regrouped
      ∙ no_repeat at (suc n) (xs ++ close) (no_plain_part ds close)
      ∙ ap (λ (a : Answer). a >>= λ x. past_of signs.CloseBrace x.1 >>= λ after. Some (moved at x.0, after)) (complete_parts ds trees.End (suc n - 1) p rest (omega arith)))
  complete (grammar.repeat p q r s {ts = ts} {xs = xs} {at = at} {times = times} {digits = digits} {a = a} some d is) =
      let c = complete d in
      from_primary ts (trees.Repeat at times a) (λ rest. rw is refl) (λ n rest deep stops.
      let ends : PlacedToks = (r, tokens.Mark signs.CloseBrace) ∷ (s, tokens.Mark signs.CloseBrace) ∷ rest in
      let regrouped = ap (λ (l : PlacedToks). l ++ rest) is ∙ ap (λ (l : PlacedToks). (at, tokens.Mark signs.OpenBrace) ∷ (p, tokens.Plain times digits) ∷ (q, tokens.Mark signs.OpenBrace) ∷ l) (append_assoc xs ((r, tokens.Mark signs.CloseBrace) ∷ (s, tokens.Mark signs.CloseBrace) ∷ []) rest) in
      ap (primary_of reads (suc n)) regrouped
      ∙ ap (λ (z : Bool). cond z (reads (whole (suc n - 1) (xs ++ ends)) >>= λ x. past_of signs.CloseBrace x.1 >>= λ after. past_of signs.CloseBrace after >>= λ behind. Some (trees.Repeat at times x.0, behind)) None) (lt-ltb 0 times some)
      ∙ ap (λ (a : Answer). a >>= λ x. past_of signs.CloseBrace x.1 >>= λ after. past_of signs.CloseBrace after >>= λ behind. Some (trees.Repeat at times x.0, behind)) (c.entire (suc n - 1) ends (omega arith) (omega arith)))
  complete (grammar.inside p {ts = ts} {xs = xs} {at = at} {a = a} d is) =
      let c = complete d in
      from_primary ts (moved at a) (λ rest. rw is refl) (λ n rest deep stops.
      let close : PlacedToks = (p, tokens.Mark signs.CloseRound) ∷ rest in
      let regrouped = ap (λ (l : PlacedToks). l ++ rest) is ∙ ap (λ (l : PlacedToks). (at, tokens.Mark signs.OpenRound) ∷ l) (append_assoc xs ((p, tokens.Mark signs.CloseRound) ∷ []) rest) in
      ap (primary_of reads (suc n)) regrouped
      ∙ ap (λ (a : Answer). a >>= λ x. past_of signs.CloseRound x.1 >>= λ after. Some (moved at x.0, after)) (c.entire (suc n) close (omega (arith, deep, depth_moved at a)) (omega arith)))
  complete (grammar.one ones.Complement {ts = ts} {xs = xs} {at = at} {a = a} d is) =
      let c = complete d in
      from_operand 11 ts (trees.One at ones.Complement a) (λ high. absurd (omega arith))
      (λ n rest deep stops. ap (λ (l : PlacedToks). unary_of reads (suc n) (l ++ rest)) is ∙ ap (λ (a : Answer). a >>= λ x. Some (trees.One at ones.Complement x.0, x.1)) (c.alone (omega arith) n rest (omega arith) stops))
  complete (grammar.one ones.Negate {ts = ts} {xs = xs} {at = at} {a = a} d is) =
      let c = complete d in
      from_operand 11 ts (trees.One at ones.Negate a) (λ high. absurd (omega arith))
      (λ n rest deep stops. ap (λ (l : PlacedToks). unary_of reads (suc n) (l ++ rest)) is ∙ ap (λ (a : Answer). a >>= λ x. Some (trees.One at ones.Negate x.0, x.1)) (c.alone (omega arith) n rest (omega arith) stops))
  complete (grammar.two o at {level = l} {ts = ts} {xs = xs} {ys = ys} {a = a} {b = b} same d e is) =
      let c = complete d in
      let k = complete e in
      let some : 1 ≤ l = omega (arith, same, (level_range o).0) in
      let few : l ≤ 10 = omega (arith, same, (level_range o).1) in
      let go : (stack : Stack PlacedTree) (n : ℕ) (rest : PlacedToks) → IsLooser stack l → depth (two o a b) ≤ n → front_binds rest ≤ l → reads (operands stack n (ts ++ rest)) ≡ behind_of reads stack n (two o a b) rest = λ stack n rest loose deep stops.
      let regrouped = ap (λ (u : PlacedToks). u ++ rest) is ∙ append_assoc xs ((at, tokens.Mark (vsign_of o)) ∷ ys) rest in
      let loose' : IsLooser stack (level_of o) = subst (IsLooser stack) same loose in
      ap (λ (u : PlacedToks). reads (operands stack n u)) regrouped
      ∙ c.chain some (omega arith) stack n ((at, tokens.Mark (vsign_of o)) ∷ (ys ++ rest)) loose (omega arith) (omega (arith, binds-operator o, same))
      ∙ behind_joins stack n o at a (ys ++ rest)
      ∙ ap (λ (p : Option (Stack PlacedTree)). p >>= λ more. reads (operands more n (ys ++ rest))) (pushed_stays two depth n stack o a loose')
      ∙ k.chain (omega arith) (omega arith) ((a, o) ∷ stack) n rest (omega (arith, same)) (omega arith) (omega arith)
      ∙ behind_pops stack n o a b rest (omega (arith, same)) deep in
      record {
        alone = λ high. absurd (omega arith);
        operand = λ high. absurd (omega arith);
        chain = λ _ _ stack n rest loose deep stops. go stack n rest loose deep stops;
        entire = λ n rest deep stops. whole_from n (ts ++ rest) (two o a b) rest stops (go [] n rest tt deep (omega arith));
      }
  complete (grammar.choose p q {ts = ts} {xs = xs} {ys = ys} {zs = zs} {c = c} {a = a} {b = b} dc da db is) =
      let kc = complete dc in
      let ka = complete da in
      let kb = complete db in
      record {
        alone = λ high. absurd (omega arith);
        operand = λ high. absurd (omega arith);
        chain = λ some. absurd (omega arith);
        entire = λ n rest deep stops.
            let colon : PlacedToks = (q, tokens.Mark signs.Colon) ∷ (zs ++ rest) in
            let tail : PlacedToks = (p, tokens.Mark signs.Question) ∷ (ys ++ colon) in
            let regrouped = ap (λ (l : PlacedToks). l ++ rest) is ∙ append_assoc xs ((p, tokens.Mark signs.Question) ∷ (ys ++ ((q, tokens.Mark signs.Colon) ∷ zs))) rest
            ∙ ap (λ (l : PlacedToks). xs ++ ((p, tokens.Mark signs.Question) ∷ l)) (append_assoc ys ((q, tokens.Mark signs.Colon) ∷ zs) rest) in
            let less : depth c < n = omega arith in
            let first : reads (operands [] n (xs ++ tail)) ≡ Some (c, tail) = kc.chain (omega arith) (omega arith) [] n tail tt (omega arith) (omega arith) ∙ behind_alone n c tail refl in
            ap (λ (l : PlacedToks). reads (whole n l)) regrouped ∙ at_whole n (xs ++ tail) ∙ ap (λ (u : Answer). u >>= λ x. choice_of reads x.0 n x.1) first
            ∙ ap (λ (z : Bool). cond z (reads (whole (n - 1) (ys ++ colon)) >>= λ x. past_of signs.Colon x.1 >>= λ after. reads (whole (n - 1) after) >>= λ y. Some (choose c x.0 y.0, y.1)) None) (lt-ltb (depth c) n less)
            ∙ ap (λ (u : Answer). u >>= λ x. past_of signs.Colon x.1 >>= λ after. reads (whole (n - 1) after) >>= λ y. Some (choose c x.0 y.0, y.1)) (ka.entire (n - 1) colon (omega arith) (omega arith))
            ∙ ap (λ (u : Answer). u >>= λ y. Some (choose c a y.0, y.1)) (kb.entire (n - 1) rest (omega arith) stops);
      }
  complete (grammar.tighter {level = l} {ts = ts} {a = t} d) =
      let c = complete d in
      record {
        alone = λ high n rest deep stops. c.alone (omega arith) n rest deep stops;
        operand = λ high n rest deep stops. c.operand (omega arith) n rest deep stops;
        chain = λ some few stack n rest loose deep stops.
            elim (cases_lt l 11) [
              | inl lt ↦ c.chain (omega arith) (omega arith) stack n rest (looser_up stack l (suc l) (omega arith) loose) deep (omega arith)
              | inr ge ↦ chain_from stack n (ts ++ rest) t rest (c.operand (omega arith) n rest deep (omega arith))
            ];
        entire = c.entire;
      }

  complete_parts : {ts : PlacedToks} {all : PlacedTrees} → SpellsPlacedParts ts all → (before : PlacedTrees) (n p : ℕ) (rest : PlacedToks) → parts_depth (bare_parts all) ≤ n
      → reads (parts before n (ts ++ ((p, tokens.Mark signs.CloseBrace) ∷ rest))) ≡ Some (trees.Join 0 (all_then before all), (p, tokens.Mark signs.CloseBrace) ∷ rest)
  complete_parts (grammar.last {ts = ts} {a = a} d) before n p rest deep =
      let c = complete d in
      let close : PlacedToks = (p, tokens.Mark signs.CloseBrace) ∷ rest in
      at_parts before n (ts ++ close)
      ∙ ap (λ (q : Answer). q >>= λ x. more_of reads (all_then before (trees.Then x.0 trees.End)) n x.1) (c.entire n close (omega arith) (omega arith))
  complete_parts (grammar.more at {ts = ts} {xs = xs} {ys = ys} {a = a} {all = all} d ds is) before n p rest deep =
      let c = complete d in
      let close : PlacedToks = (p, tokens.Mark signs.CloseBrace) ∷ rest in
      let tail : PlacedToks = (at, tokens.Mark signs.Comma) ∷ (ys ++ close) in
      ap (λ (l : PlacedToks). reads (parts before n l)) (ap (λ (l : PlacedToks). l ++ close) is ∙ append_assoc xs ((at, tokens.Mark signs.Comma) ∷ ys) close)
      ∙ at_parts before n (xs ++ tail)
      ∙ ap (λ (q : Answer). q >>= λ x. more_of reads (all_then before (trees.Then x.0 trees.End)) n x.1) (c.entire n tail (omega arith) (omega arith))
      ∙ complete_parts ds (all_then before (trees.Then a trees.End)) n p rest (omega arith)
      ∙ ap (λ (t : PlacedTrees). Some (trees.Join 0 t, close)) (all_then_then before (trees.Then a trees.End) all)
