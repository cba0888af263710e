-- What declared names lead to, and what they may mean.
use Rattle.std.proofs.Common.{◌≡◌, ◌↔◌, ◌<◌, ◌&&◌, ℕ, List, Option, None, Some, Bool, true, false, length, refl, ap, sym, ◌∙◌, arith, subst}
use Rattle.std.specs.Prelude.{slice_get}
use Rattle.std.proofs.lemmas.Option.{slice_get_within}
use Rattle.lisa_tree.specs.Descriptions.{DescriptionTree}
use Rattle.lisa_tree.specs.declared.declared.What.{What}
use Rattle.lisa_tree.specs.declared.declared.What.TheVariants as whats
use Rattle.lisa_tree.specs.Declarations.{Entry, entries, what_at}
use Rattle.lisa_tree.specs.Paths.{refers}
use Rattle.std.specs.Option.{is_some}
use Rattle.std.specs.Global.{Vec}
use Rattle.graph_paths.specs.Paths.{is_in, saw, AreNodes, Reaches, edge, more as longer}
use Rattle.graph_paths.proofs.Long.{within}
use Rattle.meant_declarations.specs.Meant.{MayMean, itself, higher, IsFound}
use Rattle.meant_declarations.specs.Meanings.{Meant, AreSources, AreMeanings, LeadsTo, here, onward, SomeLedTo}
use Rattle.meant_declarations.specs.Walks.{Comes, here as still, onward as further, IsOrigin, is_declaration}
use Rattle.meant_declarations.proofs.Direct.{directly, means_directly}

both : (x y : Bool) → x ≡ true → y ≡ true → (x && y) ≡ true
both x y p q = grind arith

on_left : (x y : Bool) → (x && y) ≡ true → x ≡ true
on_left x y p = grind arith

on_right : (x y : Bool) → (x && y) ≡ true → y ≡ true
on_right x y p = grind arith

module _ (d : DescriptionTree) where
  -- a name that leads to a declaration may mean it
  pub may_mean : {i j : ℕ} → LeadsTo d i j → is_declaration (what_at d j) ≡ true → MayMean d i j
  may_mean {i = i} {j = j} (here h same) is = at (slice_get (entries d) i) refl
    where
      declared : is_declaration (what_at d i) ≡ true
      declared = subst (λ (z : ℕ). is_declaration (what_at d z) ≡ true) (sym same) is

      definite : (w : What) → is_declaration (Some w) ≡ true → refers w ≡ false
      definite whats.Reference e = absurd (cc e)
      definite (whats.Group c) e = refl
      definite (whats.Instance c) e = refl
      definite whats.Label e = refl

      at : (r : Option Entry) → slice_get (entries d) i ≡ r → MayMean d i j
      at None e = absurd (cc (rw e at declared))
      at (Some x) e = itself x e (definite x.what (rw e at declared)) same
  may_mean (onward {k = k} h more) is = let m = directly d _ k h in higher m.e m.by.operation k m.is m.what m.by.listed m.by.declared (may_mean more is)

  pub leads : {i j : ℕ} → MayMean d i j → LeadsTo d i j
  leads (itself e is other same) = here (slice_get_within (entries d) _ e is) same
  leads (higher e p k is what h at more) = onward (means_directly d _ p k e is what h at) (leads more)

  -- what may be meant is a declaration
  pub is_definite : {i j : ℕ} → MayMean d i j → is_declaration (what_at d j) ≡ true
  is_definite (itself {i = i} e is other same) = subst (λ (z : ℕ). is_declaration (what_at d z) ≡ true) same (rw is (by e.what other))
    where
      by : (w : What) → refers w ≡ false → is_declaration (Some w) ≡ true
      by whats.Reference e = absurd (cc e)
      by (whats.Group c) e = refl
      by (whats.Instance c) e = refl
      by whats.Label e = refl
  is_definite (higher e p k is what h at more) = is_definite more

  -- what is meant by what a name leads to
  pub through : {i j k : ℕ} → LeadsTo d i j → MayMean d j k → MayMean d i k
  through {k = k} (here h same) m = subst (λ (z : ℕ). MayMean d z k) (sym same) m
  through (onward {k = l} h more) m = let n = directly d _ l h in higher n.e n.by.operation l n.is n.what n.by.listed n.by.declared (through more m)

  -- what is led to by what is reached
  pub led_along : (next : List (Vec ℕ)) → AreSources d next → {i b j : ℕ} → Reaches next i b → LeadsTo d b j → LeadsTo d i j
  led_along next are {i = i} {b = b} (edge l) on = onward (are.direct i b l) on
  led_along next are (longer {b = k} {c = b} r l) on = led_along next are r (onward (are.direct k b l) on)

  module _ (m : Meant) (are : AreMeanings d m) where
    along : {i k j : ℕ} → Reaches m.next i k → Comes m.back j k → Comes m.back j i
    along {i = i} {k = k} (edge l) c = further c (are.back i k ∙ l)
    along (longer {b = b} {c = k} r l) c = along r (further c (are.back b k ∙ l))

    pub comes : {i j : ℕ} → LeadsTo d i j → Comes m.back j i
    comes (here h same) = still (subst (λ (z : ℕ). z < length m.back) same (let c = are.back_count in omega (arith, c, h))) (sym same)
    comes (onward {i = i} {k = k} h more) = along (are.sources.reached i k h) (comes more)

    pub led : {i j : ℕ} → Comes m.back j i → LeadsTo d i j
    led (still h same) = here (subst (λ (z : ℕ). z < length (entries d)) same (let c = are.back_count in omega (arith, c, h))) (sym same)
    led (further {b = k} {c = i} r l) = onward (are.sources.direct i k (sym (are.back i k) ∙ l)) (led r)

    pub back_nodes : AreNodes m.back
    back_nodes k i h = let l = within m.next i k (sym (are.back i k) ∙ h) in let c = are.sources.count in let b = are.back_count in omega (arith, l, c, b)

    -- where a walk came from is a marked name that is led to
    pub reached : (marked : List Bool) (i : ℕ) (r : Option ℕ) → IsOrigin m.back marked i r → (is_some r ≡ true) ↔ SomeLedTo d (λ j. saw marked j ≡ true) i
    reached marked i None none = (λ e. absurd (cc e), λ some. absurd (none some.0 some.1.1 (comes some.1.0)))
    reached marked i (Some j) origin = (λ e. (j, (led origin.1, origin.0)), λ some. refl)

    -- where marks are those on declarations alone
    pub found : (marked starts : List Bool) → ((i : ℕ) → saw starts i ≡ (saw marked i && is_declaration (what_at d i))) → (i : ℕ) (r : Option ℕ) → IsOrigin m.back starts i r → IsFound d marked i r
    found marked starts are_starts i None none = λ some. none some.0 (are_starts some.0 ∙ both _ _ some.1.1 (is_definite some.1.0)) (comes (leads some.1.0))
    found marked starts are_starts i (Some j) origin =
        let p : (saw marked j && is_declaration (what_at d j)) ≡ true = sym (are_starts j) ∙ origin.0 in
        (may_mean (led origin.1) (on_right (saw marked j) _ p), on_left (saw marked j) _ p)
