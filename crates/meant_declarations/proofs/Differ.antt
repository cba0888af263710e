-- Declarations that a name may mean have other values exactly where the name leads to a reference whose representative has another value
-- than that of a direct meaning.
use Rattle.std.proofs.Common.{◌≡◌, ◌↔◌, ℕ, List, [], ◌∷◌, Option, None, Some, Bool, true, false, not, nat_eq, refl, ap, sym, ◌∙◌, arith, inl, inr, subst}
use Rattle.std.specs.Prelude.{slice_get}
use Rattle.std.specs.Cmp.{IsEquivalence}
use Rattle.std.specs.List.{list_any}
use Rattle.std.specs.Option.{is_some}
use Rattle.std.proofs.lemmas.Bool.{cases_Bool, or_cases, eq-eqb, eqb-true}
use Rattle.std.proofs.lemmas.Option.{slice_get_within}
use Rattle.lisa_tree.specs.Descriptions.{DescriptionTree}
use Rattle.lisa_tree.specs.Declarations.{Entry, entries}
use Rattle.lisa_tree.specs.Paths.{refers}
use Rattle.std.specs.Global.{Vec}
use Rattle.graph_paths.specs.Paths.{targets, is_in, saw, Leads, Reaches, edge, more as further}
use Rattle.graph_paths.proofs.Long.{within}
use Rattle.meant_declarations.specs.Meant.{MayMean, itself, higher, IsFound, Differ}
use Rattle.meant_declarations.specs.Meanings.{direct_meanings, AreSources, here, onward, SomeLedTo}
use Rattle.meant_declarations.specs.Walks.{found_value, are_other}
use Rattle.meant_declarations.proofs.Direct.{directly, means_directly}
use Rattle.meant_declarations.proofs.Leading.{through, led_along}

-- one of a list
pub record One (p : ℕ → Bool) (all : List ℕ) : Type 0 where
  pub number : ℕ
  pub listed : is_in number all ≡ true
  pub holds : p number ≡ true

pub one_of : (p : ℕ → Bool) (all : List ℕ) → list_any p all ≡ true → One p all
one_of p [] h = absurd (cc h)
one_of p (k ∷ all) h = elim (or_cases (p k) (list_any p all) h) [
  | inl this ↦ record { number = k; listed = (let own : nat_eq k k ≡ true = eq-eqb k k refl in grind arith); holds = this }
  | inr later ↦ (let o = one_of p all later in record { number = o.number; listed = (let l : is_in o.number all ≡ true = o.listed in grind arith); holds = o.holds })
]

pub of_one : (p : ℕ → Bool) (k : ℕ) (all : List ℕ) → is_in k all ≡ true → p k ≡ true → list_any p all ≡ true
of_one p k [] h e = absurd (cc h)
of_one p k (x ∷ all) h e = elim (or_cases (nat_eq k x) (is_in k all) h) [
  | inl same ↦ (let here : p x ≡ true = sym (ap p (eqb-true k x same)) ∙ e in grind arith)
  | inr later ↦ (let more : list_any p all ≡ true = of_one p k all later e in grind arith)
]

some_same : {T : Type 0} (x y : T) → Some x ≡ Some y → x ≡ y
some_same x y f = cc f

-- both have values
record Others {T : Type 0} (same : T → T → Bool) (x y : Option T) : Type 0 where
  pub left : T
  pub right : T
  pub is_left : x ≡ Some left
  pub is_right : y ≡ Some right
  pub other : same left right ≡ false

not_true : (b : Bool) → not b ≡ true → b ≡ false
not_true true e = absurd (cc e)
not_true false e = refl

others : {T : Type 0} (same : T → T → Bool) (x y : Option T) → are_other same x y ≡ true → Others same x y
others same None y e = absurd (cc e)
others same (Some t) None e = absurd (cc e)
others same (Some t) (Some u) e = record { left = t; right = u; is_left = refl; is_right = refl; other = not_true (same t u) e }

module _ {T : Type 0} (d : DescriptionTree) (next : List (Vec ℕ)) (sources : AreSources d next) (same : T → T → Bool) (law : IsEquivalence same) (value : ℕ → Option T) (known : List Bool) (found : ℕ → Option ℕ) (own : ℕ → Option T) (mixed : List Bool)
    (are_known : (i : ℕ) → saw known i ≡ is_some (value i))
    (are_found : (i : ℕ) → IsFound d known i (found i))
    (are_own : (i : ℕ) → own i ≡ found_value value (found i))
    (are_mixed : (i : ℕ) → saw mixed i ≡ list_any (λ k. are_other same (own i) (own k)) (targets next i)) where
  abbrev IsMixed : ℕ → Type 0
  IsMixed j = saw mixed j ≡ true

  -- the representative of a name with a value
  record Represents (i : ℕ) (t : T) : Type 0 where
    pub number : ℕ
    pub meant : MayMean d i number
    pub is : value number ≡ Some t

  represents : (i : ℕ) (t : T) → own i ≡ Some t → Represents i t
  represents i t e = by (found i) refl
    where
      by : (r : Option ℕ) → found i ≡ r → Represents i t
      by None f = absurd (cc (sym (are_own i ∙ ap (found_value value) f) ∙ e))
      by (Some a) f = record { number = a; meant = (subst (IsFound d known i) f (are_found i)).0; is = sym (are_own i ∙ ap (found_value value) f) ∙ e }

  pub differs : (i : ℕ) → SomeLedTo d IsMixed i → Differ d same value i
  differs i (j, (led, e)) =
      let o = one_of (λ k. are_other same (own j) (own k)) (targets next j) (sym (are_mixed j) ∙ e) in
      let p = others same (own j) (own o.number) o.holds in
      let l = represents j p.left p.is_left in
      let r = represents o.number p.right p.is_right in
      let m = directly d j o.number (sources.direct j o.number o.listed) in
      record {
        left = l.number;
        right = r.number;
        means_left = through d led l.meant;
        means_right = through d led (higher m.e m.by.operation o.number m.is m.what m.by.listed m.by.declared r.meant);
        left_value = p.left;
        right_value = p.right;
        is_left = l.is;
        is_right = r.is;
        other = p.other;
      }

  -- ---- where a name leads to no such reference

  has_own : (i j : ℕ) (t : T) → MayMean d i j → value j ≡ Some t → (v : T) × (own i ≡ Some v)
  has_own i j t m e = by (found i) refl
    where
      marked : saw known j ≡ true
      marked = are_known j ∙ ap is_some e

      of : (a : ℕ) (r : Option T) → value a ≡ r → saw known a ≡ true → found i ≡ Some a → (v : T) × (own i ≡ Some v)
      of a None at k f = absurd (cc (sym (are_known a ∙ ap is_some at) ∙ k))
      of a (Some v) at k f = (v, are_own i ∙ ap (found_value value) f ∙ at)

      by : (r : Option ℕ) → found i ≡ r → (v : T) × (own i ≡ Some v)
      by None f = absurd (subst (IsFound d known i) f (are_found i) (j, (m, marked)))
      by (Some a) f = of a (value a) refl (subst (IsFound d known i) f (are_found i)).1 f

  -- the only meaning of a declaration
  only : {i k : ℕ} (e : Entry) → slice_get (entries d) i ≡ Some e → refers e.what ≡ false → MayMean d i k → k ≡ i
  only e is other (itself x at off same) = sym same
  only e is other (higher x p l at what h there more) = absurd (let same : e ≡ x = some_same e x (sym is ∙ at) in cc (other, same, what))

  record Agrees (i : ℕ) (t : T) : Type 0 where
    pub representative : T
    pub is : own i ≡ Some representative
    pub alike : same representative t ≡ true

  apart : (v w : T) (x y : Option T) → x ≡ Some v → y ≡ Some w → same v w ≡ false → are_other same x y ≡ true
  apart v w None y f g off = absurd (cc f)
  apart v w (Some a) None f g off = absurd (cc g)
  apart v w (Some a) (Some b) f g off =
      let l : a ≡ v = some_same a v f in
      let r : b ≡ w = some_same b w g in
      ap (λ (u : T). not (same u b)) l ∙ ap (λ (u : T). not (same v u)) r ∙ ap not off

  -- one edge from a name that isn't mixed
  step : (i k : ℕ) (v w : T) → (IsMixed i → ⊥) → Leads next i k → own i ≡ Some v → own k ≡ Some w → same v w ≡ true
  step i k v w none l x y = elim (cases_Bool (same v w)) [
    | inl on ↦ on
    | inr off ↦ absurd (none (are_mixed i ∙ of_one (λ (n : ℕ). are_other same (own i) (own n)) k (targets next i) l (apart v w (own i) (own k) x y off)))
  ]

  unmixed_at : (i b k : ℕ) → (SomeLedTo d IsMixed i → ⊥) → Reaches next i b → Leads next b k → IsMixed b → ⊥
  unmixed_at i b k none r l e = none (b, (led_along d next sources r (here (let c = sources.count in let h = within next b k l in omega (arith, c, h)) refl), e))

  -- a path from a name that leads to no mixed one
  steps : {i k : ℕ} (v w : T) → (SomeLedTo d IsMixed i → ⊥) → Reaches next i k → own i ≡ Some v → own k ≡ Some w → same v w ≡ true
  steps {i = i} {k = k} v w none (edge l) x y =
      step i k v w (λ e. none (i, (here (let c = sources.count in let h = within next i k l in omega (arith, c, h)) refl, e))) l x y
  steps {i = i} v w none (further {b = b} {c = k} r l) x y =
      let p = represents k w y in
      let m = directly d b k (sources.direct b k l) in
      let u = has_own b p.number w (higher m.e m.by.operation k m.is m.what m.by.listed m.by.declared p.meant) p.is in
      law.congr v u.0 w (steps v u.0 none r x u.1) ∙ step b k u.0 w (unmixed_at i b k none r l) l u.1 y

  agrees : {i j : ℕ} (t : T) → (SomeLedTo d IsMixed i → ⊥) → MayMean d i j → value j ≡ Some t → Agrees i t
  agrees {i = i} {j = j} t none (itself e is other alike) at =
      let o = has_own i j t (itself e is other alike) at in
      let r = represents i o.0 o.1 in
      let k : r.number ≡ j = only e is other r.meant ∙ alike in
      let v : o.0 ≡ t = some_same o.0 t (sym r.is ∙ ap value k ∙ at) in
      record { representative = o.0; is = o.1; alike = subst (λ (u : T). same o.0 u ≡ true) v (law.refl o.0) }
  agrees {i = i} {j = j} t none (higher e p k is what h there more) at =
      let a = agrees t (λ some. none (some.0, (onward direct some.1.0, some.1.1))) more at in
      let o = has_own i j t (higher e p k is what h there more) at in
      record { representative = o.0; is = o.1; alike = law.congr o.0 a.representative t (steps o.0 a.representative none (sources.reached i k direct) o.1 a.is) ∙ a.alike }
    where
      direct : is_in k (direct_meanings d i) ≡ true
      direct = means_directly d i p k e is what h there

  pub unmixed : (i : ℕ) → (SomeLedTo d IsMixed i → ⊥) → Differ d same value i → ⊥
  unmixed i none x =
      let a = agrees x.left_value none x.means_left x.is_left in
      let b = agrees x.right_value none x.means_right x.is_right in
      let one : b.representative ≡ a.representative = some_same b.representative a.representative (sym b.is ∙ a.is) in
      let on : same x.left_value x.right_value ≡ true = sym (law.congr a.representative x.left_value x.right_value a.alike) ∙ subst (λ (u : T). same u x.right_value ≡ true) one b.alike in
      absurd (cc (sym on ∙ x.other))

  pub exactly : (i : ℕ) (told : Bool) → ((told ≡ true) ↔ SomeLedTo d IsMixed i) → (told ≡ true) ↔ Differ d same value i
  exactly i told is = (λ e. differs i (is.0 e), λ x. elim (cases_Bool told) [ inl on ↦ on | inr off ↦ absurd (unmixed i (λ some. absurd (cc (sym (is.1 some) ∙ off))) x) ])
