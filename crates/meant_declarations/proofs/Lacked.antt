-- A reference that lacks a declaration leads to one of which that is seen where its name is looked up.
use Rattle.std.proofs.Common.{◌≡◌, ◌<◌, ◌≤◌, ◌+◌, ◌&&◌, ◌++◌, ℕ, zero, suc, List, [], ◌∷◌, Option, None, Some, Bool, true, false, cond, nat_eq, length, refl, ap, sym, ◌∙◌, arith, subst, inl, inr}
use Rattle.std.specs.Prelude.{slice_get}
use Rattle.std.specs.Option.{is_none}
use Rattle.std.specs.List.{list_any}
use Rattle.std.proofs.lemmas.Bool.{cases_Bool, cases_lt, eq-eqb, ne_eqb, and_parts}
use Rattle.std.proofs.lemmas.Option.{slice_get_past}
use Rattle.lisa_tree.specs.Descriptions.{DescriptionTree}
use Rattle.lisa_tree.specs.declared.declared.What.{What}
use Rattle.lisa_tree.specs.declared.declared.What.TheVariants as whats
use Rattle.lisa_tree.specs.Declarations.{Entry, entries, declared_at, what_at, is_reference, owner_at, above}
use Rattle.graph_paths.specs.Paths.{is_in, saw}
use Rattle.graph_paths.proofs.Seen.{saw_past}
use Rattle.meant_declarations.specs.Meanings.{direct_meanings, here, onward, SomeLedTo}
use Rattle.meant_declarations.specs.Sources.{IsCover, IsCovered, hands_on}
use Rattle.meant_declarations.specs.Lacking.{any_lacks, lacks_named, lacks, short_named, is_short, Lacking, IsMarked, AreMarked}
use Rattle.meant_declarations.proofs.Direct.{means_directly}
use Rattle.meant_declarations.proofs.Walks.{saw_push}
use Rattle.meant_declarations.proofs.Differ.{one_of, of_one}
use Rattle.meant_declarations.proofs.Sourced.{Handed, handed}

pub lacks_past : (d : DescriptionTree) (i : ℕ) → length (entries d) ≤ i → lacks d i ≡ false
lacks_past d i h = let none : what_at d i ≡ None = rw (slice_get_past (entries d) i h) refl in rw none refl

module _ (d : DescriptionTree) where
  reference_of : (w : What) → is_reference (Some w) ≡ true → w ≡ whats.Reference
  reference_of whats.Reference h = refl
  reference_of (whats.Group c) h = absurd (cc h)
  reference_of (whats.Instance c) h = absurd (cc h)
  reference_of whats.Label h = absurd (cc h)

  module _ (i : ℕ) (e : Entry) (at : slice_get (entries d) i ≡ Some e) where
    lacks_is : lacks d i ≡ (is_reference (Some e.what) && any_lacks d e.name (above d e.operation))
    lacks_is = rw at refl

    short_is : (cover : Option ℕ) (rest : List ℕ) → is_short d cover rest i ≡ (is_reference (Some e.what) && any_lacks d e.name (cond (hands_on d e.name cover) rest (above d e.operation)))
    short_is cover rest = rw at refl

    owner : owner_at d i ≡ e.operation
    owner = rw at refl

    same_searched : (cover : Option ℕ) (rest : List ℕ) → hands_on d e.name cover ≡ false → IsMarked d i (is_short d cover rest i)
    same_searched cover rest off =
        let same : is_short d cover rest i ≡ lacks d i = short_is cover rest ∙ ap (λ (b : Bool). is_reference (Some e.what) && any_lacks d e.name (cond b rest (above d e.operation))) off ∙ sym lacks_is in
        record { sound = λ h. sym same ∙ h; others = λ h. inl (same ∙ h) }

    some_searched : (cover : Option ℕ) (rest : List ℕ) → IsCovered d (owner_at d i) cover rest → hands_on d e.name cover ≡ true → IsMarked d i (is_short d cover rest i)
    some_searched cover rest covered on = record {
      sound = λ h. (let two = and_parts (is_reference (Some e.what)) (any_lacks d e.name rest) (sym short ∙ h) in
          let o = one_of (λ p. is_none (declared_at d p e.name)) rest two.1 in
          let l : any_lacks d e.name (above d e.operation) ≡ true = of_one (λ p. is_none (declared_at d p e.name)) o.number (above d e.operation) (to_own o.number (cov.outer.inside o.number o.listed)) o.holds in
          let r : is_reference (Some e.what) ≡ true = two.0 in
          lacks_is ∙ both (is_reference (Some e.what)) (any_lacks d e.name (above d e.operation)) r l);
      others = λ h. (let two = and_parts (is_reference (Some e.what)) (any_lacks d e.name (above d e.operation)) (sym lacks_is ∙ h) in
          let o = one_of (λ p. is_none (declared_at d p e.name)) (above d e.operation) two.1 in
          elim (cov.outer.others o.number (from_own o.number o.listed)) [
            | inl kept ↦ inl (short ∙ both (is_reference (Some e.what)) (any_lacks d e.name rest) two.0 (of_one (λ p. is_none (declared_at d p e.name)) o.number rest kept o.holds))
            | inr above_it ↦ inr (record {
              reference = u.reference;
              means = means_directly d i u.upper u.reference e at (reference_of e.what two.0) (to_own u.upper cov.upper.stands) u.declared;
              is = (let n : is_none (declared_at d o.number u.found.e.name) ≡ true = ap (λ (n : List ℕ). is_none (declared_at d o.number n)) (sym u.found.name) ∙ o.holds in
                  let l : any_lacks d u.found.e.name (above d u.found.e.operation) ≡ true =
                  of_one (λ p. is_none (declared_at d p u.found.e.name)) o.number (above d u.found.e.operation) (subst (λ (q : ℕ). is_in o.number (above d q) ≡ true) (sym u.found.owner) above_it) n in
                  let whole : lacks d u.reference ≡ (is_reference (Some u.found.e.what) && any_lacks d u.found.e.name (above d u.found.e.operation)) = rw u.found.at refl in
                  whole ∙ both (is_reference (Some u.found.e.what)) (any_lacks d u.found.e.name (above d u.found.e.operation)) (ap (λ (w : What). is_reference (Some w)) u.what) l);
              fewer = subst (λ (q : ℕ). length (above d q) < length (above d (owner_at d i))) (sym upper_is) cov.upper.fewer;
            })
          ]);
    }
      where
        u : Handed d e.name cover
        u = handed d e.name cover on

        cov : IsCover d (owner_at d i) u.upper rest
        cov = subst (λ (c : Option ℕ). IsCovered d (owner_at d i) c rest) u.is covered

        short : is_short d cover rest i ≡ (is_reference (Some e.what) && any_lacks d e.name rest)
        short = short_is cover rest ∙ ap (λ (b : Bool). is_reference (Some e.what) && any_lacks d e.name (cond b rest (above d e.operation))) on

        to_own : (p : ℕ) → is_in p (above d (owner_at d i)) ≡ true → is_in p (above d e.operation) ≡ true
        to_own p h = subst (λ (o : ℕ). is_in p (above d o) ≡ true) owner h

        from_own : (p : ℕ) → is_in p (above d e.operation) ≡ true → is_in p (above d (owner_at d i)) ≡ true
        from_own p h = subst (λ (o : ℕ). is_in p (above d o) ≡ true) (sym owner) h

        upper_is : owner_at d u.reference ≡ u.upper
        upper_is = (rw u.found.at refl) ∙ u.found.owner

        both : (x y : Bool) → x ≡ true → y ≡ true → (x && y) ≡ true
        both x y p q = grind arith

  pub is_marked : (i : ℕ) (cover : Option ℕ) (rest : List ℕ) → IsCovered d (owner_at d i) cover rest → IsMarked d i (is_short d cover rest i)
  is_marked i cover rest covered = by (slice_get (entries d) i) refl
    where
      by : (r : Option Entry) → slice_get (entries d) i ≡ r → IsMarked d i (is_short d cover rest i)
      by None at =
          let none : lacks d i ≡ false = rw at refl in
          let off : is_short d cover rest i ≡ false = rw at refl in
          record { sound = λ h. absurd (cc (sym off ∙ h)); others = λ h. absurd (cc (sym none ∙ h)) }
      by (Some e) at = elim (cases_Bool (hands_on d e.name cover)) [
        | inl on ↦ some_searched i e at cover rest covered on
        | inr off ↦ same_searched i e at cover rest off
      ]

  -- ---- all marks

  pub one_more_marked : (marks : List Bool) (mark : Bool) (n : ℕ) → length marks ≡ n → ((i : ℕ) → i < n → IsMarked d i (saw marks i)) → IsMarked d n mark → (i : ℕ) → i < n + 1 → IsMarked d i (saw (marks ++ mark ∷ []) i)
  one_more_marked marks mark n count each this i h = elim (cases_lt i n) [
    | inl before ↦ (let off : nat_eq i (length marks) ≡ false = ne_eqb i (length marks) (λ e. absurd (omega (arith, e, before, count))) in
        subst (IsMarked d i) (sym (saw_push marks mark i ∙ ap (λ (b : Bool). cond b mark (saw marks i)) off)) (each i before))
    | inr behind ↦ (let same : i ≡ n = omega (arith, h, behind) in
        let on : nat_eq i (length marks) ≡ true = eq-eqb i (length marks) (omega (arith, same, count)) in
        subst (IsMarked d i) (sym (saw_push marks mark i ∙ ap (λ (b : Bool). cond b mark (saw marks i)) on)) (subst (λ (k : ℕ). IsMarked d k mark) (sym same) this))
  ]

  module _ (marks : List Bool) (count : length marks ≡ length (entries d)) (each : (i : ℕ) → i < length marks → IsMarked d i (saw marks i)) where
    leads_on : (bound i : ℕ) → length (above d (owner_at d i)) < bound → lacks d i ≡ true → SomeLedTo d (λ j. saw marks j ≡ true) i
    leads_on zero i h e = absurd (omega arith)
    leads_on (suc bound) i h e = elim (cases_lt i (length marks)) [
      | inr behind ↦ absurd (cc (sym (lacks_past d i (omega (arith, behind, count))) ∙ e))
      | inl before ↦ elim ((each i before).others e) [
        | inl mark ↦ (i, (here (omega (arith, before, count)) refl, mark))
        | inr next ↦ (let f = next.fewer in let s = leads_on bound next.reference (omega (arith, h, f)) next.is in (s.0, (onward next.means s.1.0, s.1.1)))
      ]
    ]

    pub are_marked : AreMarked d marks
    are_marked i e = leads_on (suc (length (above d (owner_at d i)))) i (omega arith) e
