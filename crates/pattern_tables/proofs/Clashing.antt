-- Overlaps and covers of frames, from their masks and patterns.
use Rattle.std.proofs.Common.{◌≡◌, ℕ, ◌<◌, ◌≤◌, Bool, true, false, List, length, Option, Some, None, sym, ◌∙◌, subst, arith, inl, inr}
use Rattle.std.specs.Prelude.{slice_index_or, bit_or, IfSome, IfNone, IsTrue, nat_eq, bit_and}
use Rattle.std.proofs.lemmas.Bool.{cases_lt, eqb-true, eq-eqb}
use Rattle.std.proofs.lemmas.List.{get_or_default}
use Rattle.instruction_trees.specs.Bits.{Frame, Covers}
use Rattle.pattern_tables.specs.declared.bit_pattern.BitPattern.{BitPattern}
use Rattle.pattern_tables.specs.declared.overlaps.Overlap.{Overlap}
use Rattle.pattern_tables.specs.Patterns.{Stands, AllStand, IsAlias, Clash, AreApart, Shelter}
use Rattle.pattern_tables.specs.Overlaps.{IsOverlap, IsFirstOverlap, AnswersOverlap, IsCovered, IsFirstUncovered}
use Rattle.pattern_tables.specs.Clashes.{IsClashWith, IsFirstClash}
use Rattle.pattern_tables.proofs.Masks.{stands_common, stands_agree, stands_covers, covers_stands}

-- ---- covers, from the two tests of it

pub covers_test : (width : ℕ) (fs gs : Frame) (p q : BitPattern) → Stands width fs p → Stands width gs q → bit_and p.mask q.mask ≡ p.mask
    → (IsTrue (nat_eq (bit_and q.pattern p.mask) p.pattern) → Covers fs gs) × (Covers fs gs → IsTrue (nat_eq (bit_and q.pattern p.mask) p.pattern))
covers_test width fs gs p q f g m = (
  λ t. stands_covers width fs gs p q f g (m, eqb-true _ _ t),
  λ c. eq-eqb _ _ (covers_stands width fs gs p q f g c).1,
)

pub covers_fails : (width : ℕ) (fs gs : Frame) (p q : BitPattern) → Stands width fs p → Stands width gs q → (bit_and p.mask q.mask ≡ p.mask → ⊥)
    → (IsTrue (nat_eq (bit_and p.mask q.mask) p.mask) → Covers fs gs) × (Covers fs gs → IsTrue (nat_eq (bit_and p.mask q.mask) p.mask))
covers_fails width fs gs p q f g apart = (λ t. absurd (apart (eqb-true _ _ t)), λ c. absurd (apart (covers_stands width fs gs p q f g c).0))

-- ---- overlaps

module _ (width : ℕ) (frames : List Frame) (patterns : List BitPattern) (plain : List Bool) (stand : AllStand width frames patterns) where
  pub overlap_clash : (i j w : ℕ) → IsOverlap frames plain i j w → Clash patterns plain i j
  overlap_clash i j w o =
      let within : j < length patterns = subst (λ (n : ℕ). j < n) stand.level o.within in
      let order = o.order in
      record {
        order = order;
        within = within;
        first = o.first;
        second = o.second;
        agree = λ d. stands_agree width _ _ _ _ (stand.each i d (omega arith)) (stand.each j d within) w o.one o.other;
      }

  pub clash_overlap : (i j : ℕ) (d : BitPattern) → Clash patterns plain i j → IsOverlap frames plain i j (bit_or (slice_index_or patterns i d).pattern (slice_index_or patterns j d).pattern)
  clash_overlap i j d c =
      let order = c.order in
      let inside = c.within in
      let both = stands_common width _ _ _ _ (stand.each i d (omega arith)) (stand.each j d inside) (c.agree d) in
      record { order = order; within = subst (λ (n : ℕ). j < n) (sym stand.level) inside; first = c.first; second = c.second; one = both.0; other = both.1 }

  no_pattern : BitPattern
  no_pattern = record { mask = 0; pattern = 0 }

  pub first_overlap_is : (o : Overlap) → IsFirstClash patterns plain o → IsFirstOverlap frames plain o
  first_overlap_is o c = record {
    overlap = subst (λ (w : ℕ). IsOverlap frames plain o.first o.second w) (sym (c.word no_pattern)) (clash_overlap o.first o.second no_pattern c.clash);
    first = λ i j w is. c.first i j (overlap_clash i j w is);
    second = λ j w is. c.second j (overlap_clash o.first j w is);
  }

  pub answers_overlap : (result : Option Overlap) → IfNone result (AreApart patterns plain) → IfSome result (IsFirstClash patterns plain) → AnswersOverlap frames plain result
  answers_overlap None apart found = λ i j w is. apart i j (overlap_clash i j w is)
  answers_overlap (Some o) apart found = first_overlap_is o found

  pub no_overlap : (n : ℕ) → ((i j : ℕ) → i < n → Clash patterns plain i j → ⊥) → length patterns ≤ n → (i j w : ℕ) → IsOverlap frames plain i j w → ⊥
  no_overlap n none le i j w is =
      let c = overlap_clash i j w is in
      let order = c.order in
      let within = c.within in
      none i j (omega arith) c

  -- ---- covers

  pub sheltered : (i k : ℕ) → k < length patterns → Shelter patterns plain i k → IsCovered frames plain k
  sheltered i k inside s = record {
    by_form = i;
    within = subst (λ (n : ℕ). i < n) (sym stand.level) s.within;
    is_plain = s.is_plain;
    covers = stands_covers width _ _ _ _ (stand.each i no_pattern s.within) (stand.each k no_pattern inside) (s.contained no_pattern);
  }

  pub covered : (k : ℕ) → k < length patterns → (c : IsCovered frames plain k) → Shelter patterns plain c.by_form k
  covered k inside c =
      let within : c.by_form < length patterns = subst (λ (n : ℕ). c.by_form < n) stand.level c.within in
      record {
        within = within;
        is_plain = c.is_plain;
        contained = λ d. covers_stands width _ _ _ _ (stand.each c.by_form d within) (stand.each k d inside) c.covers;
      }

  pub all_covered : (n : ℕ) → ((k : ℕ) → k < n → IsAlias plain k → (i : ℕ) × Shelter patterns plain i k) → length patterns ≤ n
      → (k : ℕ) → k < length frames → IsAlias plain k → IsCovered frames plain k
  all_covered n each le k inside alias =
      let within : k < length patterns = subst (λ (m : ℕ). k < m) stand.level inside in
      let s = each k (omega arith) alias in
      sheltered s.0 k within s.1

  pub first_uncovered_is : (k : ℕ) → k < length patterns → IsAlias plain k → ((i : ℕ) × Shelter patterns plain i k → ⊥)
      → ((j : ℕ) → j < k → IsAlias plain j → (i : ℕ) × Shelter patterns plain i j) → IsFirstUncovered frames plain k
  first_uncovered_is k inside alias none each = record {
    within = subst (λ (n : ℕ). k < n) (sym stand.level) inside;
    alias = alias;
    uncovered = λ c. none (c.by_form, covered k inside c);
    first = λ j less is. let s = each j less is in sheltered s.0 j (omega arith) s.1;
  }

-- ---- the loops

pub alias_at : (plain : List Bool) (k : ℕ) → k < length plain → slice_index_or plain k false ≡ false → IsAlias plain k
alias_at plain k inside e = get_or_default plain k true false inside ∙ e

module _ (patterns : List BitPattern) (plain : List Bool) where
  pub with_first : (i : ℕ) (o : Overlap) → ((a b : ℕ) → a < i → Clash patterns plain a b → ⊥) → IsClashWith patterns plain i o → IsFirstClash patterns plain o
  with_first i o none c = record {
    clash = c.clash;
    first = λ a b is. elim (cases_lt a i) [ inl less ↦ absurd (none a b less is) | inr le ↦ (let e = c.is in omega arith) ];
    second = c.second;
    word = c.word;
  }
