-- What references may mean.
use Rattle.std.proofs.Common.{◌≡◌, ◌<◌, ◌≢◌, ◌||◌, ◌&&◌, ℕ, zero, suc, List, [], ◌∷◌, Option, Some, Bool, true, false, not, nat_eq, codes, length, refl, sym, ap, ◌∙◌, arith, inl, inr}
use Rattle.std.specs.Prelude.{slice_get}
use Rattle.std.specs.Option.{is_some}
use Rattle.std.specs.List.{list_any}
use Rattle.std.specs.Cmp.Lexicographic.{nat_list_eq_equiv}
use Rattle.std.proofs.lemmas.Bool.{eq-eqb}
use Rattle.lisa_tree.specs.Descriptions.{DescriptionTree}
use Rattle.lisa_tree.specs.declared.declared.What.{What}
use Rattle.lisa_tree.specs.declared.declared.What.TheVariants as whats
use Rattle.lisa_tree.specs.Same.{same_name}
use Rattle.lisa_tree.specs.Operations.{name_at}
use Rattle.lisa_tree.specs.Declarations.{Entry, entries, declared_at, above, is_reference}
use Rattle.lisa_tree.specs.Paths.{Declaring, refers}
use Rattle.lisa_machine.proofs.description_graph_proofs.Hits.{found}
use Rattle.graph_paths.specs.Paths.{is_in}
use Rattle.lisa_machine.specs.description_types.declared.values.Traits.{Traits}
use Rattle.lisa_machine.specs.description_types.declared.values.Trait.TheVariants as which
use Rattle.lisa_machine.specs.description_types.Tables.{Known, AreKinds}
use Rattle.lisa_machine.specs.name_checks.Doubled.{duplicate}
use Rattle.lisa_machine.specs.name_checks.Unknown.{unknown, is_main, lacks, is_loose, what_of}
use Rattle.lisa_machine.specs.kind_checks.Uses.{sorts_differ, what_misdeclared}
use Rattle.lisa_machine.specs.kind_checks.WrongKinds.{wrong_kind}
use Rattle.lisa_machine.specs.Freedom.{IsFree}
use Rattle.lisa_machine.specs.Ranks.{Ranks}
use Rattle.lisa_machine.proofs.Among.{free_place}
use Rattle.lisa_machine.proofs.Entries.{entry_stands}
use Rattle.lisa_machine.proofs.Decoding.{off_left, not_off, some_of, is_found}
use Rattle.lisa_machine.proofs.Named.{entry_found, what_is}
use Rattle.lisa_machine.proofs.Choosing.{rightly_declared}
use Rattle.lisa_machine.specs.meant_declarations.Meant.{MayMean, itself, higher}
use Rattle.use_promises.specs.Meant.{ChoosesFrom, FitsReference}
use Rattle.use_promises.proofs.Traits.{none_in, means, own_child, own_label, shows}

unlike : (a b : List ℕ) → same_name a b ≡ false → a ≢ b
unlike a b e = λ same. absurd (cc (sym (ap (same_name a) same ∙ e), nat_list_eq_equiv.refl a))

-- what a name may mean is no reference
pub definite : (d : DescriptionTree) {i j : ℕ} → MayMean d i j → (e : Entry) → slice_get (entries d) j ≡ Some e → e.what ≡ whats.Reference → ⊥
definite d (itself x is other same) e at what = absurd (cc (is, same, at, other, what))
definite d (higher x p k is w h there more) e at what = definite d more e at what

module _ (d : DescriptionTree) (names : IsFree (duplicate d) d) (stand : IsFree (unknown d) d) where
  tight : (i : ℕ) (e : Entry) → slice_get (entries d) i ≡ Some e → e.what ≡ whats.Reference → is_loose d e.operation e.name ≡ false
  tight i e is what =
      let s = entry_stands d i e is in
      let b = is_found (name_at d e.operation) _ e.name (free_place (unknown d) d stand _ s.stands) in
      let f = entry_found d names i e is in
      let refers : is_reference (what_of d (declared_at d e.operation e.name)) ≡ true = ap (λ (x : Option ℕ). is_reference (what_of d x)) f.declared ∙ ap is_reference (what_is d i e is ∙ ap (λ (x : What). Some x) what) in
      second (is_reference (what_of d (declared_at d e.operation e.name))) (is_loose d e.operation e.name) b refers
    where
      second : (a b : Bool) → not (a && b) ≡ true → a ≡ true → b ≡ false
      second true true g h = absurd (cc g)
      second true false g h = refl
      second false b g h = absurd (cc h)

  pub reference_fits : (i : ℕ) (e : Entry) → slice_get (entries d) i ≡ Some e → e.what ≡ whats.Reference → FitsReference d e
  reference_fits i e is what =
      let t = tight i e is what in
      let all = list_any (lacks d e.name) (above d e.operation) in
      let few = nat_eq (length (above d e.operation)) 0 in
      record {
        not_main = unlike (name_at d e.operation) (codes "main") (first (is_main d e.operation) few all t);
        some = positive (length (above d e.operation)) (middle (is_main d e.operation) few all t);
        each = λ p h. some_of (declared_at d p e.name) (not_off (is_some (declared_at d p e.name)) (none_in (lacks d e.name) p (above d e.operation) h (last (is_main d e.operation) few all t)));
      }
    where
      first : (x y z : Bool) → (x || y || z) ≡ false → x ≡ false
      first x y z h = grind arith

      middle : (x y z : Bool) → (x || y || z) ≡ false → y ≡ false
      middle x y z h = grind arith

      last : (x y z : Bool) → (x || y || z) ≡ false → z ≡ false
      last x y z h = grind arith

      positive : (k : ℕ) → nat_eq k 0 ≡ false → 0 < k
      positive zero h = absurd (cc h)
      positive (suc k) h = omega arith

  -- ---- each declared name means something

  abbrev Means : ℕ → Type 0
  Means i = (j : ℕ) × MayMean d i j

  first_in : (xs : List ℕ) → 0 < length xs → (x : ℕ) × (is_in x xs ≡ true)
  first_in [] some = absurd (omega (arith, some))
  first_in (x ∷ xs) some = (x, let own : nat_eq x x ≡ true = eq-eqb x x refl in grind arith)

  module _ (ranks : Ranks d) where
    means_below : (r i : ℕ) (e : Entry) → slice_get (entries d) i ≡ Some e → ranks.rank (Declaring i) < r → Means i
    means_below zero i e is low = absurd (omega (arith, low))
    means_below (suc r) i e is low = by (λ k x at l. means_below r k x at l) e.what refl
      where
        by : ((k : ℕ) (x : Entry) → slice_get (entries d) k ≡ Some x → ranks.rank (Declaring k) < r → Means k) → (w : What) → e.what ≡ w → Means i
        by below (whats.Group c) what = (i, itself e is (ap refers what) refl)
        by below (whats.Instance c) what = (i, itself e is (ap refers what) refl)
        by below whats.Label what = (i, itself e is (ap refers what) refl)
        by below whats.Reference what =
            let fits = reference_fits i e is what in
            let p = first_in (above d e.operation) fits.some in
            let k = fits.each p.0 p.1 in
            let f = found d p.0 e.name k.0 k.1 in
            let l = ranks.falls (Declaring i) (Declaring k.0) (means d i k.0 p.0 e is what p.1 k.1) in
            let more = below k.0 f.e f.at (omega (arith, l, low)) in
            (more.0, higher e p.0 k.0 is what p.1 k.1 more.1)

    pub some_meant : (i : ℕ) (e : Entry) → slice_get (entries d) i ≡ Some e → Means i
    some_meant i e is = means_below (suc (ranks.rank (Declaring i))) i e is (omega arith)

  -- ---- all that a name may mean is of one sort

  -- the only meaning of a declaration
  only : {i k : ℕ} (e : Entry) → slice_get (entries d) i ≡ Some e → refers e.what ≡ false → MayMean d i k → k ≡ i
  only e is off (itself x at other same) = sym same
  only e is off (higher x p l at what h there more) = absurd (let same : e ≡ x = some_same (sym is ∙ at) in cc (off, same, what))
    where
      some_same : {a b : Entry} → Some a ≡ Some b → a ≡ b
      some_same f = cc f

  module _ (known : Known) (uses : IsFree (wrong_kind known d) d) (kinds : AreKinds d known) where
    -- a reference doesn't mean both a label and a child
    not_both : (i j k : ℕ) (e a b : Entry) (c : ℕ) → slice_get (entries d) i ≡ Some e → e.what ≡ whats.Reference → MayMean d i j → MayMean d i k → slice_get (entries d) j ≡ Some a → slice_get (entries d) k ≡ Some b → a.what ≡ whats.Label
        → ChoosesFrom b c → ⊥
    not_both i j k e a b c is what m n first second label child =
        let refused : what_misdeclared known d i (Some whats.Reference) ≡ false = ap (λ (x : What). what_misdeclared known d i (Some x)) (sym what) ∙ rightly_declared d known names uses i e is in
        let off : sorts_differ (known.traits i) ≡ false = off_left (sorts_differ (known.traits i)) _ refused in
        let one : (known.traits i).label ≡ true = shows d known.traits kinds.traits which.Label m (ap (λ (t : Traits). t.label) (own_label d j a first label)) in
        let other : (known.traits i).child ≡ true = shows d known.traits kinds.traits which.Child n (ap (λ (t : Traits). t.child) (own_child d k b second c child)) in
        absurd (cc (sym off ∙ both (known.traits i).label (known.traits i).child one other))
      where
        both : (x y : Bool) → x ≡ true → y ≡ true → (x && y) ≡ true
        both x y f g = grind arith

    pub same_sort : {i j k : ℕ} → MayMean d i j → MayMean d i k → (a b : Entry) → slice_get (entries d) j ≡ Some a → slice_get (entries d) k ≡ Some b → a.what ≡ whats.Label → b.what ≡ whats.Label
    same_sort {j = j} {k = k} (itself e is off same) n a b first second label =
        let alike : k ≡ j = only e is off n ∙ same in
        let entry : b ≡ a = some_same (sym second ∙ ap (slice_get (entries d)) alike ∙ first) in
        ap (λ (x : Entry). x.what) entry ∙ label
      where
        some_same : {a b : Entry} → Some a ≡ Some b → a ≡ b
        some_same f = cc f
    same_sort {i = i} {j = j} {k = k} (higher e p q is what h at more) n a b first second label = by b.what refl
      where
        by : (w : What) → b.what ≡ w → b.what ≡ whats.Label
        by (whats.Group c) f = absurd (not_both i j k e a b c is what (higher e p q is what h at more) n first second label (inl f))
        by (whats.Instance c) f = absurd (not_both i j k e a b c is what (higher e p q is what h at more) n first second label (inr f))
        by whats.Label f = f
        by whats.Reference f = absurd (definite d n b second f)
