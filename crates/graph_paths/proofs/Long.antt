-- Where no node reaches itself, every path is shorter than the number of nodes.
use Rattle.std.proofs.Common.{◌≡◌, ℕ, zero, suc, ◌+◌, ◌<◌, List, [], ◌∷◌, Bool, true, false, nat_eq, length, sym, arith, inl, inr, subst, ◌||◌}
use Rattle.std.specs.Global.{Vec}
use Rattle.std.specs.List.{IsDistinct, AllByRecursion}
use Rattle.std.proofs.lemmas.Bool.{eqb-true, cases_Bool, or_cases}
use Rattle.std.proofs.lemmas.Map.Steps.{length-le_from_distinct_below}
use Rattle.graph_paths.specs.Paths.{is_in, Leads, Reaches, edge, more, Long, still, onward, IsAcyclic, AreNodes}

pub within : (next : List (Vec ℕ)) (a b : ℕ) → Leads next a b → a < length next
within [] a b e = absurd (cc e)
within (v ∷ next) zero b e = omega arith
within (v ∷ next) (suc a) b e = let l = within next a b e in omega arith

pub reaches_within : (next : List (Vec ℕ)) (a b : ℕ) → Reaches next a b → a < length next
reaches_within next a b (edge e) = within next a b e
reaches_within next a b (more {b = m} r e) = reaches_within next a m r

apart : (a : ℕ) (xs : List ℕ) → is_in a xs ≡ false → AllByRecursion (λ y. nat_eq a y ≡ false) xs
apart a [] e = tt
apart a (x ∷ xs) e = (or_off_left _ _ e, apart a xs (or_off_right _ _ e))
  where
    or_off_left : (x y : Bool) → (x || y) ≡ false → x ≡ false
    or_off_left x y h = grind arith

    or_off_right : (x y : Bool) → (x || y) ≡ false → y ≡ false
    or_off_right x y h = grind arith

nothing : IsDistinct nat_eq []
unfolding IsDistinct
nothing = tt

apart_more : (a : ℕ) (xs : List ℕ) → is_in a xs ≡ false → IsDistinct nat_eq xs → IsDistinct nat_eq (a ∷ xs)
unfolding IsDistinct
apart_more a xs e d = (apart a xs e, d)

module _ (next : List (Vec ℕ)) (nodes : AreNodes next) (acyclic : IsAcyclic next) where
  -- the nodes on the way so far, all different
  record Way (a : ℕ) (visited : List ℕ) : Type 0 where
    distinct : IsDistinct nat_eq visited
    below : (q : ℕ) → is_in q visited ≡ true → q < length next
    reach : (q : ℕ) → is_in q visited ≡ true → Reaches next q a

  -- the way with its last node
  record Wider (a : ℕ) (visited : List ℕ) : Type 0 where
    distinct : IsDistinct nat_eq (a ∷ visited)
    below : (q : ℕ) → is_in q (a ∷ visited) ≡ true → q < length next

  wider : (a : ℕ) (visited : List ℕ) → a < length next → Way a visited → Wider a visited
  wider a visited h w =
      let out : is_in a visited ≡ false = elim (cases_Bool (is_in a visited)) [ inl on ↦ absurd (acyclic a (w.reach a on)) | inr off ↦ off ] in
      record {
        distinct = apart_more a visited out w.distinct;
        below = λ q e. elim (or_cases (nat_eq q a) (is_in q visited) e) [ inl same ↦ subst (λ (z : ℕ). z < length next) (sym (eqb-true q a same)) h | inr old ↦ w.below q old ];
      }

  short : (k a : ℕ) (visited : List ℕ) → Long next k a → a < length next → Way a visited → k + length visited < length next
  short zero a visited still h w = let l = wider a visited h w in let m = length-le_from_distinct_below (a ∷ visited) (length next) l.distinct l.below in omega (arith, m)
  short (suc k) a visited (onward {b = b} e long) h w =
      let l = wider a visited h w in
      let m = short k b (a ∷ visited) long (nodes a b e) (record {
        distinct = l.distinct;
        below = l.below;
        reach = λ q f. elim (or_cases (nat_eq q a) (is_in q visited) f) [ inl same ↦ edge (subst (λ (z : ℕ). Leads next z b) (sym (eqb-true q a same)) e) | inr old ↦ more (w.reach q old) e ];
      }) in
      omega (arith, m)

  -- a path from a node has fewer edges than there are nodes
  pub paths_are_short : (k a : ℕ) → Long next k a → a < length next → k < length next
  paths_are_short k a long h =
      let l = short k a [] long h (record { distinct = nothing; below = λ q e. absurd (cc e); reach = λ q e. absurd (cc e) }) in omega (arith, l)

-- ranks that fall along each edge show that no node reaches itself
pub falls : (next : List (Vec ℕ)) (rank : ℕ → ℕ) → ((a b : ℕ) → Leads next a b → rank b < rank a) → (a b : ℕ) → Reaches next a b → rank b < rank a
falls next rank f a b (edge e) = f a b e
falls next rank f a b (more {b = m} r e) = let x = falls next rank f a m r in let y = f m b e in omega (arith, x, y)

pub ranks_show : (next : List (Vec ℕ)) (rank : ℕ → ℕ) → ((a b : ℕ) → Leads next a b → rank b < rank a) → IsAcyclic next
ranks_show next rank f a r = let x = falls next rank f a a r in absurd (omega (arith, x))
