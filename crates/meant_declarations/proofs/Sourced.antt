-- From some direct meanings of each reference the others are reached.
use Rattle.std.proofs.Common.{◌≡◌, ◌<◌, ◌+◌, ◌&&◌, ℕ, zero, suc, List, [], ◌∷◌, ◌++◌, Option, None, Some, Bool, true, false, cond, nat_eq, length, refl, ap, sym, ◌∙◌, arith, subst, inl, inr}
use Rattle.std.specs.Prelude.{slice_get}
use Rattle.std.specs.BTreeMap.{BTreeMap}
use Rattle.std.specs.BTreeSet.{BTreeSet}
use Rattle.std.specs.Option.{is_some}
use Rattle.std.specs.Global.{Vec}
use Rattle.std.specs.Cmp.Lexicographic.{same_text}
use Rattle.std.proofs.lemmas.Bool.{cases_lt, eq-eqb, ne_eqb, and_parts, eqb-true}
use Rattle.std.proofs.lemmas.Option.{get_or_from_slice_get}
use Rattle.std.proofs.lemmas.List.Quantifiers.{position-Some}
use Rattle.lisa_tree.specs.Descriptions.{DescriptionTree}
use Rattle.lisa_tree.specs.declared.declared.What.{What}
use Rattle.lisa_tree.specs.declared.declared.What.TheVariants as whats
use Rattle.lisa_tree.specs.Same.{same_name}
use Rattle.lisa_tree.specs.Declarations.{Entry, entries, declared_at, what_at, is_reference, owner_at, entry_name_at, above}
use Rattle.graph_paths.specs.Paths.{targets, is_in, Leads, Reaches, edge, more}
use Rattle.meant_declarations.specs.Meanings.{declared_by, direct_meanings, AreSources}
use Rattle.meant_declarations.specs.Sources.{IsCover, IsCovered, reference_at, hands_on, searched, found_above, source_row, AreSome}
use Rattle.meant_declarations.specs.Declaring.{noted_for, has, AreNoted, IsAround, AreDeclaring}
use Rattle.meant_declarations.proofs.Direct.{declares, is_declared, means_directly, declared_below, means_past}
use Rattle.meant_declarations.proofs.Walks.{targets_push, row_past}

-- ---- what a look-up finds

read : (xs : List Entry) (i : ℕ) → i < length xs → (x : Entry) × (slice_get xs i ≡ Some x)
read [] i h = absurd (omega arith)
read (x ∷ xs) zero h = (x, refl)
read (x ∷ xs) (suc i) h = read xs i (omega arith)

abbrev of_name : ℕ → List ℕ → Entry → Bool
of_name o n e = nat_eq e.operation o && same_name n e.name

pub record Found (d : DescriptionTree) (o : ℕ) (n : List ℕ) (i : ℕ) : Type 0 where
  pub e : Entry
  pub at : slice_get (entries d) i ≡ Some e
  pub owner : e.operation ≡ o
  pub name : n ≡ e.name

pub found : (d : DescriptionTree) (o : ℕ) (n : List ℕ) (i : ℕ) → declared_at d o n ≡ Some i → Found d o n i
found d o n i e =
    let r = read (entries d) i (declared_below d o n i e) in
    let x = r.0 in
    let passes : of_name o n x ≡ true = sym (ap (of_name o n) (get_or_from_slice_get (entries d) i x x r.1)) ∙ (position-Some (of_name o n) (entries d) i x e).1 in
    let parts = and_parts (nat_eq x.operation o) (same_name n x.name) passes in
    record { e = x; at = r.1; owner = eqb-true x.operation o parts.0; name = same_text n x.name (sym parts.1) }

module _ (d : DescriptionTree) where
  -- an operation that hands a name on, and its reference
  pub record Handed (n : List ℕ) (cover : Option ℕ) : Type 0 where
    pub upper : ℕ
    pub reference : ℕ
    pub is : cover ≡ Some upper
    pub declared : declared_at d upper n ≡ Some reference
    pub found : Found d upper n reference
    pub what : found.e.what ≡ whats.Reference

  reference_is : (w : What) → is_reference (Some w) ≡ true → w ≡ whats.Reference
  reference_is whats.Reference h = refl
  reference_is (whats.Group c) h = absurd (cc h)
  reference_is (whats.Instance c) h = absurd (cc h)
  reference_is whats.Label h = absurd (cc h)

  what_is : (i : ℕ) (e : Entry) → slice_get (entries d) i ≡ Some e → is_reference (what_at d i) ≡ true → e.what ≡ whats.Reference
  what_is i e at h = reference_is e.what (rw at at h)

  pub handed : (n : List ℕ) (cover : Option ℕ) → hands_on d n cover ≡ true → Handed n cover
  handed n None h = absurd (cc h)
  handed n (Some q) h = by (declared_at d q n) refl h
    where
      by : (r : Option ℕ) → declared_at d q n ≡ r → reference_at d r ≡ true → Handed n (Some q)
      by None is on = absurd (cc on)
      by (Some r) is on = let f = found d q n r is in record { upper = q; reference = r; is = refl; declared = is; found = f; what = what_is r f.e f.at on }

  -- ---- one row

  nothing_some : (i : ℕ) (row : List ℕ) → row ≡ [] → direct_meanings d i ≡ [] → AreSome d i row
  nothing_some i row none all = record {
    direct = λ j h. absurd (cc (sym (ap (is_in j) none) ∙ h));
    others = λ j h. absurd (cc (sym (ap (is_in j) all) ∙ h));
  }

  module _ (i : ℕ) (e : Entry) (at : slice_get (entries d) i ≡ Some e) (what : e.what ≡ whats.Reference) (cover : Option ℕ) (rest : List ℕ) (covered : IsCovered d (owner_at d i) cover rest) where
    all : direct_meanings d i ≡ declared_by d e.name (above d e.operation)
    all =
        let meant : direct_meanings d i ≡ cond (is_reference (Some e.what)) (declared_by d e.name (above d e.operation)) [] = rw at refl in
        meant ∙ ap (λ (w : What). cond (is_reference (Some w)) (declared_by d e.name (above d e.operation)) []) what

    row : source_row d cover rest i ≡ declared_by d e.name (searched d e.operation cover rest e.name)
    row =
        let found : source_row d cover rest i ≡ cond (is_reference (Some e.what)) (found_above d e.operation cover rest (Some e.name)) [] = rw at refl in
        found ∙ ap (λ (w : What). cond (is_reference (Some w)) (found_above d e.operation cover rest (Some e.name)) []) what

    owner : owner_at d i ≡ e.operation
    owner = rw at refl

    all_searched : hands_on d e.name cover ≡ false → AreSome d i (source_row d cover rest i)
    all_searched off =
        let same : source_row d cover rest i ≡ direct_meanings d i = row ∙ ap (λ (b : Bool). declared_by d e.name (cond b rest (above d e.operation))) off ∙ sym all in
        record { direct = λ j h. sym (ap (is_in j) same) ∙ h; others = λ j h. inl (ap (is_in j) same ∙ h) }

    some_searched : hands_on d e.name cover ≡ true → AreSome d i (source_row d cover rest i)
    some_searched on = record {
      direct = λ j h. (let x = declares d e.name j rest (sym (ap (is_in j) left) ∙ h) in ap (is_in j) all ∙ is_declared d e.name x.operation j (above d e.operation) (subst (λ (o : ℕ). is_in x.operation (above d o) ≡ true) owner (cov.outer.inside x.operation x.listed)) x.declared);
      others = λ j h. (let x = declares d e.name j (above d e.operation) (sym (ap (is_in j) all) ∙ h) in
          elim (cov.outer.others x.operation (subst (λ (o : ℕ). is_in x.operation (above d o) ≡ true) (sym owner) x.listed)) [
            | inl kept ↦ inl (ap (is_in j) left ∙ is_declared d e.name x.operation j rest kept x.declared)
            | inr above_it ↦ inr (record {
              reference = u.reference;
              listed = ap (is_in u.reference) left ∙ is_declared d e.name u.upper u.reference rest (cov.outer.kept cov.upper.stands) u.declared;
              means = means_directly d u.reference x.operation j u.found.e u.found.at u.what (subst (λ (o : ℕ). is_in x.operation (above d o) ≡ true) (sym u.found.owner) above_it) (ap (declared_at d x.operation) (sym u.found.name) ∙ x.declared);
              fewer = subst (λ (o : ℕ). length (above d o) < length (above d (owner_at d i))) (sym upper_is) cov.upper.fewer;
            })
          ]);
    }
      where
        u : Handed e.name cover
        u = handed e.name cover on

        cov : IsCover d (owner_at d i) u.upper rest
        cov = subst (λ (c : Option ℕ). IsCovered d (owner_at d i) c rest) u.is covered

        left : source_row d cover rest i ≡ declared_by d e.name rest
        left = row ∙ ap (λ (b : Bool). declared_by d e.name (cond b rest (above d e.operation))) on

        upper_is : owner_at d u.reference ≡ u.upper
        upper_is = (rw u.found.at refl) ∙ u.found.owner

    some_row : AreSome d i (source_row d cover rest i)
    some_row = by (hands_on d e.name cover) refl
      where
        by : (b : Bool) → hands_on d e.name cover ≡ b → AreSome d i (source_row d cover rest i)
        by true on = some_searched on
        by false off = all_searched off

  pub are_some : (i : ℕ) (cover : Option ℕ) (rest : List ℕ) → IsCovered d (owner_at d i) cover rest → AreSome d i (source_row d cover rest i)
  are_some i cover rest covered = by (slice_get (entries d) i) refl
    where
      by : (r : Option Entry) → slice_get (entries d) i ≡ r → AreSome d i (source_row d cover rest i)
      by None at = nothing_some i (source_row d cover rest i) (rw at refl) (rw at refl)
      by (Some e) at = sort e.what refl
        where
          off : (w : What) → e.what ≡ w → is_reference (Some w) ≡ false → AreSome d i (source_row d cover rest i)
          off w what plain =
              let other : is_reference (what_at d i) ≡ false = (rw at refl) ∙ ap (λ (w : What). is_reference (Some w)) what ∙ plain in
              nothing_some i (source_row d cover rest i) (rw other refl) (rw other refl)

          sort : (w : What) → e.what ≡ w → AreSome d i (source_row d cover rest i)
          sort whats.Reference what = some_row i e at what cover rest covered
          sort (whats.Group c) what = off (whats.Group c) what refl
          sort (whats.Instance c) what = off (whats.Instance c) what refl
          sort whats.Label what = off whats.Label what refl

  -- ---- one row, by way of all that declare the name

  noted_there : (n : List ℕ) (table : BTreeMap (List ℕ) (Vec ℕ)) → AreNoted d table → (p : ℕ) → is_some (declared_at d p n) ≡ true → is_in p (noted_for table n) ≡ true
  noted_there n table are p h = by (declared_at d p n) refl h
    where
      by : (r : Option ℕ) → declared_at d p n ≡ r → is_some r ≡ true → is_in p (noted_for table n) ≡ true
      by None is on = absurd (cc on)
      by (Some k) is on =
          let f = found d p n k is in
          let name : entry_name_at d k ≡ Some n = (rw f.at refl) ∙ ap (λ (m : List ℕ). Some m) (sym f.name) in
          let owner : owner_at d k ≡ p = (rw f.at refl) ∙ f.owner in
          subst (λ (q : ℕ). is_in q (noted_for table n) ≡ true) owner (are k n name)

  pub are_declaring : (o : ℕ) (n : List ℕ) (table : BTreeMap (List ℕ) (Vec ℕ)) (cover : Option ℕ) (rest : List ℕ) (all : BTreeSet ℕ) (operations : List ℕ) → AreNoted d table → IsAround d o cover rest all
      → ((p : ℕ) → is_in p operations ≡ (is_in p (noted_for table n) && has all p)) → AreDeclaring d o n operations
  are_declaring o n table cover rest all operations are around common = record {
    inside = λ p h. sym (around.each p) ∙ (and_parts (is_in p (noted_for table n)) (has all p) (sym (common p) ∙ h)).1;
    all = λ p h some. common p ∙ both (is_in p (noted_for table n)) (has all p) (noted_there n table are p some) (around.each p ∙ h);
  }
    where
      both : (x y : Bool) → x ≡ true → y ≡ true → (x && y) ≡ true
      both x y p q = grind arith

  pub declaring_are_some : (i : ℕ) (n operations : List ℕ) → is_reference (what_at d i) ≡ true → entry_name_at d i ≡ Some n → AreDeclaring d (owner_at d i) n operations → AreSome d i (declared_by d n operations)
  declaring_are_some i n operations reference name are = record {
    direct = λ j h. (let x = declares d n j operations h in ap (is_in j) all ∙ is_declared d n x.operation j (above d (owner_at d i)) (are.inside x.operation x.listed) x.declared);
    others = λ j h. (let x = declares d n j (above d (owner_at d i)) (sym (ap (is_in j) all) ∙ h) in
        inl (is_declared d n x.operation j operations (are.all x.operation x.listed (ap is_some x.declared)) x.declared));
  }
    where
      all : direct_meanings d i ≡ declared_by d n (above d (owner_at d i))
      all = rw reference (rw name refl)

  -- ---- all rows

  pub one_more_some : (next : List (Vec ℕ)) (v : Vec ℕ) (n : ℕ) → length next ≡ n → ((i : ℕ) → i < n → AreSome d i (targets next i)) → AreSome d n v.items → (i : ℕ) → i < n + 1 → AreSome d i (targets (next ++ v ∷ []) i)
  one_more_some next v n count each here i h = elim (cases_lt i n) [
    | inl before ↦ (let off : nat_eq i (length next) ≡ false = ne_eqb i (length next) (λ e. absurd (omega (arith, e, before, count))) in
        subst (AreSome d i) (sym (targets_push next v i ∙ ap (λ (b : Bool). cond b v.items (targets next i)) off)) (each i before))
    | inr behind ↦ (let same : i ≡ n = omega (arith, h, behind) in
        let on : nat_eq i (length next) ≡ true = eq-eqb i (length next) (omega (arith, same, count)) in
        subst (AreSome d i) (sym (targets_push next v i ∙ ap (λ (b : Bool). cond b v.items (targets next i)) on)) (subst (λ (k : ℕ). AreSome d k v.items) (sym same) here))
  ]

  after : {next : List (Vec ℕ)} {a b c : ℕ} → Leads next a b → Reaches next b c → Reaches next a c
  after l (edge e) = more (edge l) e
  after l (more r e) = more (after l r) e

  module _ (next : List (Vec ℕ)) (count : length next ≡ length (entries d)) (each : (i : ℕ) → i < length next → AreSome d i (targets next i)) where
    any_row : (i : ℕ) → AreSome d i (targets next i)
    any_row i = elim (cases_lt i (length next)) [
      | inl before ↦ each i before
      | inr behind ↦ nothing_some i (targets next i) (row_past next i behind) (means_past d i (omega (arith, behind, count)))
    ]

    reach : (bound i j : ℕ) → length (above d (owner_at d i)) < bound → is_in j (direct_meanings d i) ≡ true → Reaches next i j
    reach zero i j h e = absurd (omega arith)
    reach (suc bound) i j h e = elim ((any_row i).others j e) [
      | inl here ↦ edge here
      | inr there ↦ (let f = there.fewer in after there.listed (reach bound there.reference j (omega (arith, h, f)) there.means))
    ]

    pub are_sources : AreSources d next
    are_sources = record {
      count = count;
      direct = λ i j h. (any_row i).direct j h;
      reached = λ i j e. reach (suc (length (above d (owner_at d i)))) i j (omega arith) e;
    }
