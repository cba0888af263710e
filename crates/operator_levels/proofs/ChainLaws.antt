-- Joining operands one by one groups them by levels.
use Rattle.std.proofs.Common.{◌≡◌, ℕ, suc, ◌≤◌, List, [], ◌∷◌, ◌++◌, Some, option_and_then, refl, sym, ap, subst, ◌∙◌, append_assoc, arith, max}
use Rattle.std.proofs.lemmas.List.{append-nil}
use Rattle.lisa_words.specs.declared.binary.Operator.{Operator}
use Rattle.lisa_words.specs.Operators.{level_of}
use Rattle.lisa_words.specs.Levels.{Level, operand, pair, tighter}
use Rattle.operator_levels.specs.Stacks.{Stack, pushed}
use Rattle.operator_levels.specs.Chains.{Item, Operand, Between, items, IsOperand, IsGrouped, run}
use Rattle.operator_levels.proofs.StackLaws.{level_range, IsLooser, looser_up, pushed_stays, pushed_pops, finished_pops, and_then_some, Waits, nothing, pushed_waits, finished_spelled}

items_behind : {Tree : Type 0} (t : Tree) (rest : List (Operator × Tree)) (o : Operator) (u : Tree) (more : List (Operator × Tree)) → items t (rest ++ (o, u) ∷ more) ≡ items t rest ++ (Between o ∷ items u more)
items_behind t [] o u more = refl
items_behind t ((p, v) ∷ rest) o u more = ap (λ (l : List (Item _)). Operand t ∷ Between p ∷ l) (items_behind v rest o u more)

-- the items tell the operands and the operators
abbrev first_of : {Tree : Type 0} → Tree → List (Item Tree) → Tree
first_of d (Operand t ∷ ts) = t
first_of d _ = d

abbrev rest_of : {Tree : Type 0} → List (Item Tree) → List (Operator × Tree)
rest_of (Operand t ∷ Between o ∷ Operand u ∷ ts) = (o, u) ∷ rest_of (Operand u ∷ ts)
rest_of _ = []

rest_back : {Tree : Type 0} (t : Tree) (rest : List (Operator × Tree)) → rest_of (items t rest) ≡ rest
rest_back t [] = refl
rest_back t ((o, u) ∷ []) = refl
rest_back t ((o, u) ∷ (p, v) ∷ rest) = ap (λ (l : List (Operator × _)). (o, u) ∷ l) (rest_back u ((p, v) ∷ rest))

first_back : {Tree : Type 0} (d t : Tree) (rest : List (Operator × Tree)) → first_of d (items t rest) ≡ t
first_back d t [] = refl
first_back d t ((o, u) ∷ rest) = refl

-- the next operator isn't tighter than this level
abbrev Stops : {Tree : Type 0} → List (Operator × Tree) → ℕ → Type 0
Stops [] l = Unit {0}
Stops ((o, u) ∷ rest) l = level_of o ≤ l

module _ {Tree : Type 0} (two : Operator → Tree → Tree → Tree) (depth : Tree → ℕ) (limit : ℕ) where
  IsIn : ℕ → List (Item Tree) → Tree → Type 0
  IsIn l ts t = Level IsOperand Between two l ts t

  runs_pop : (stack : Stack Tree) (o : Operator) (a t : Tree) (more : List (Operator × Tree)) → Stops more (level_of o) → depth (two o a t) ≤ limit → run two depth limit ((a, o) ∷ stack) t more ≡ run two depth limit stack (two o a t) more
  runs_pop stack o a t [] stops deep = finished_pops two depth limit stack o a t deep
  runs_pop stack o a t ((p, u) ∷ more) stops deep = ap (option_and_then (λ (s : Stack Tree). run two depth limit s u more)) (pushed_pops two depth limit stack o p a t stops deep)

  record Heads (l : ℕ) (ts : List (Item Tree)) (x : Tree) : Type 0 where
    pub first : Tree
    pub rest : List (Operator × Tree)
    pub parts : ts ≡ items first rest
    pub goes : (stack : Stack Tree) (more : List (Operator × Tree)) → IsLooser stack l → Stops more l → depth x ≤ limit → run two depth limit stack first (rest ++ more) ≡ run two depth limit stack x more

  stops_up : (more : List (Operator × Tree)) (l m : ℕ) → l ≤ m → Stops more l → Stops more m
  stops_up [] l m le h = tt
  stops_up ((o, u) ∷ more) l m le h = omega (arith, h)

  module _ (deepens : (o : Operator) (a b : Tree) → depth (two o a b) ≡ suc (max (depth a) (depth b))) where
    heads : {l : ℕ} {ts : List (Item Tree)} {x : Tree} → Level IsOperand Between two l ts x → Heads l ts x
    heads (operand {t = t} is) = record { first = t; rest = []; parts = is; goes = λ stack more _ _ _. refl }
    heads (tighter {l = l} d) =
        let h = heads d in
        record { first = h.first; rest = h.rest; parts = h.parts; goes = λ stack more loose stops deep. h.goes stack more (looser_up stack l (suc l) (omega arith) loose) (stops_up more l (suc l) (omega arith) stops) deep }
    heads (pair o {l = l} {xs = xs} {ys = ys} {ts = ts} {a = a} {b = b} {t = t} same d e parts is) =
        let h = heads d in
        let k = heads e in
        record {
          first = h.first;
          rest = h.rest ++ (o, k.first) ∷ k.rest;
          parts = parts ∙ ap (λ (u : List (Item Tree)). u ++ (Between o ∷ ys)) h.parts ∙ ap (λ (u : List (Item Tree)). items h.first h.rest ++ (Between o ∷ u)) k.parts ∙ sym (items_behind h.first h.rest o k.first k.rest);
          goes = λ stack more loose stops deep.
              let both : depth (two o a b) ≤ limit = subst (λ (u : Tree). depth u ≤ limit) is deep in
              let loose' : IsLooser stack (level_of o) = subst (IsLooser stack) same loose in
              ap (run two depth limit stack h.first) (append_assoc h.rest ((o, k.first) ∷ k.rest) more)
              ∙ h.goes stack ((o, k.first) ∷ (k.rest ++ more)) loose (omega (arith, same)) (omega (arith, both, deepens o a b))
              ∙ ap (option_and_then (λ (s : Stack Tree). run two depth limit s k.first (k.rest ++ more))) (pushed_stays two depth limit stack o a loose')
              ∙ k.goes ((a, o) ∷ stack) more (omega (arith, same)) (stops_up more l (suc l) (omega arith) stops) (omega (arith, both, deepens o a b))
              ∙ runs_pop stack o a b more (subst (Stops more) same stops) both
              ∙ ap (λ (u : Tree). run two depth limit stack u more) (sym is);
        }

    pub only : (t x : Tree) (rest : List (Operator × Tree)) → IsGrouped two (items t rest) x → depth x ≤ limit → run two depth limit [] t rest ≡ Some x
    only t x rest d deep =
        let h = heads d in
        let same_first : t ≡ h.first = sym (first_back t t rest) ∙ ap (first_of t) h.parts ∙ first_back t h.first h.rest in
        let same_rest : rest ≡ h.rest = sym (rest_back t rest) ∙ ap rest_of h.parts ∙ rest_back h.first h.rest in
        ap (λ (u : Tree). run two depth limit [] u rest) same_first ∙ ap (run two depth limit [] h.first) (same_rest ∙ sym (append-nil h.rest)) ∙ h.goes [] [] tt tt deep

  joined_pair : (o : Operator) (xs ys : List (Item Tree)) (a b : Tree) → Level IsOperand Between two (level_of o) xs a → Level IsOperand Between two (suc (level_of o)) ys b → Level IsOperand Between two (level_of o) (xs ++ (Between o ∷ ys)) (two o a b)
  joined_pair o xs ys a b d e = pair o refl d e refl refl

  joined_looser : (l : ℕ) (ts : List (Item Tree)) (t : Tree) → Level IsOperand Between two (suc l) ts t → Level IsOperand Between two l ts t
  joined_looser l ts t d = tighter d

  groups : (t x : Tree) (rest : List (Operator × Tree)) (stack : Stack Tree) (ws : List (Item Tree)) (l : ℕ) → Waits (Level IsOperand Between two) Between two joined_pair joined_looser stack ws l → l ≤ 11
      → run two depth limit stack t rest ≡ Some x → IsGrouped two (ws ++ items t rest) x
  groups t x [] stack ws l w le e = finished_spelled (Level IsOperand Between two) Between two joined_pair joined_looser depth limit w 11 (Operand t ∷ []) t (operand refl) le (omega arith) x e
  groups t x ((o, u) ∷ rest) stack ws l w le e =
      let p = and_then_some (λ (s : Stack Tree). run two depth limit s u rest) (pushed two depth limit stack t o) x e in
      let w' = pushed_waits (Level IsOperand Between two) Between two joined_pair joined_looser depth limit w 11 (Operand t ∷ []) t o (operand refl) le (omega (arith, (level_range o).1)) p.0 p.1 in
      let whole = groups u x rest p.0 (ws ++ (Operand t ∷ Between o ∷ [])) (suc (level_of o)) w' (omega (arith, (level_range o).1)) p.2 in
      subst (λ (l : List (Item Tree)). IsGrouped two l x) (append_assoc ws (Operand t ∷ Between o ∷ []) (items u rest)) whole

  pub found : (t x : Tree) (rest : List (Operator × Tree)) → run two depth limit [] t rest ≡ Some x → IsGrouped two (items t rest) x
  found t x rest e = groups t x rest [] [] 1 nothing (omega arith) e
