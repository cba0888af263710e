-- Nodes in lists, and the edges the other way round.
use Rattle.std.proofs.Common.{◌≡◌, ℕ, ◌<◌, List, [], ◌∷◌, ◌++◌, Bool, true, ◌&&◌, nat_eq, length, sym, ◌∙◌, arith, inl, inr, subst}
use Rattle.std.specs.Global.{Vec}
use Rattle.std.specs.List.{list_all}
use Rattle.std.proofs.lemmas.Bool.{or_cases, eqb-true}
use Rattle.graph_paths.specs.Paths.{targets, is_in, Leads, Reaches, edge, more, AreNodes}
use Rattle.graph_paths.proofs.Seen.{in-push}
use Rattle.graph_paths.proofs.Long.{within}

pub on_left : (x y : Bool) → (x && y) ≡ true → x ≡ true
on_left x y h = grind arith

pub on_right : (x y : Bool) → (x && y) ≡ true → y ≡ true
on_right x y h = grind arith

pub all_of : (p : ℕ → Bool) (b : ℕ) (xs : List ℕ) → list_all p xs ≡ true → is_in b xs ≡ true → p b ≡ true
all_of p b [] all e = absurd (cc e)
all_of p b (x ∷ xs) all e = elim (or_cases (nat_eq b x) (is_in b xs) e) [
  | inl same ↦ subst (λ (z : ℕ). p z ≡ true) (sym (eqb-true b x same)) (on_left (p x) (list_all p xs) all)
  | inr old ↦ all_of p b xs (on_right (p x) (list_all p xs) all) old
]

-- ---- the other way round

module _ (next back : List (Vec ℕ)) (exact : (x y : ℕ) → is_in y (targets back x) ≡ is_in x (targets next y)) where
  in_front : (a b c : ℕ) → Leads back b a → Reaches back a c → Reaches back b c
  in_front a b c e (edge f) = more (edge e) f
  in_front a b c e (more {b = m} r f) = more (in_front a b m e r) f

  turned : (a b : ℕ) → Reaches next a b → Reaches back b a
  turned a b (edge e) = edge (exact b a ∙ e)
  turned a b (more {b = m} r e) = in_front m b a (exact b m ∙ e) (turned a m r)

  pub back_nodes : length back ≡ length next → AreNodes back
  back_nodes len a b e = subst (λ (n : ℕ). b < n) (sym len) (within next b a (sym (exact a b) ∙ e))

-- one more node of nodes that are below a number
pub one_below : (n b k : ℕ) (nodes : List ℕ) → ((x : ℕ) → is_in x nodes ≡ true → x < n) → k < n → is_in b (nodes ++ k ∷ []) ≡ true → b < n
one_below n b k nodes all h e = elim (or_cases (is_in b nodes) (nat_eq b k) (sym (in-push b nodes k) ∙ e)) [
  | inl old ↦ all b old
  | inr new ↦ subst (λ (x : ℕ). x < n) (sym (eqb-true b k new)) h
]
