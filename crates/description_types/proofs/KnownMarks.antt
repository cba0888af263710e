-- What is known of declared names, from tests of what is known of nodes.
use Rattle.std.proofs.Common.{◌≡◌, ◌<◌, ◌≤◌, ◌↔◌, ◌⊎◌, ◌&&◌, ◌||◌, ℕ, List, Option, None, Some, Bool, true, false, length, refl, sym, ap, ap₂, ◌∙◌, arith, inl, inr, ⊎_elim}
use Rattle.std.specs.Option.{is_some}
use Rattle.std.proofs.lemmas.Bool.{and_parts, cases_lt}
use Rattle.lisa_tree.specs.Descriptions.{DescriptionTree}
use Rattle.lisa_tree.specs.Declarations.{entries}
use Rattle.lisa_tree.specs.Paths.{entry_node}
use Rattle.graph_paths.specs.Paths.{saw}
use Rattle.graph_paths.proofs.Seen.{saw_past}
use Rattle.meant_declarations.specs.Meant.{SomeMeant}
use Rattle.description_types.specs.declared.values.TypeOf.{TypeOf}
use Rattle.description_types.specs.declared.values.TypeOf.TheVariants as types
use Rattle.description_types.specs.declared.values.Assignable.{Assignable}
use Rattle.description_types.specs.declared.values.Assignable.TheVariants as assigns
use Rattle.description_types.specs.Known.{has_no_type, is_assignable}
use Rattle.description_types.specs.Tables.{AreMeant, LacksType, IsIncomplete, IsTypeless, MayAssign, MayNotAssign, IsUnassignable, DifferInAssigning, IsSettled}
use Rattle.description_types.proofs.MeantMarks.{meant_from, meant_so}

-- ---- tests

lacking : (r : Option TypeOf) → has_no_type r ≡ true → r ≡ Some types.NoType
lacking None e = absurd (cc e)
lacking (Some types.NoType) e = refl
lacking (Some (types.Typed s)) e = absurd (cc e)
lacking (Some types.Refused) e = absurd (cc e)

assigned : (r : Option Assignable) → is_assignable true r ≡ true → r ≡ Some assigns.Yes
assigned None e = absurd (cc e)
assigned (Some assigns.Yes) e = refl
assigned (Some assigns.No) e = absurd (cc e)
assigned (Some assigns.Refused) e = absurd (cc e)
assigned (Some assigns.Mixed) e = absurd (cc e)

unassigned : (r : Option Assignable) → is_assignable false r ≡ true → r ≡ Some assigns.No
unassigned None e = absurd (cc e)
unassigned (Some assigns.Yes) e = absurd (cc e)
unassigned (Some assigns.No) e = refl
unassigned (Some assigns.Refused) e = absurd (cc e)
unassigned (Some assigns.Mixed) e = absurd (cc e)

module _ (d : DescriptionTree) (marks : ℕ → Bool) where
  pub typeless_so : (known : ℕ → Option TypeOf) → AreMeant d (λ j. has_no_type (known (entry_node d j)) ≡ true) marks → AreMeant d (LacksType d known) marks
  typeless_so known are =
      meant_so d (λ j. has_no_type (known (entry_node d j)) ≡ true) (LacksType d known) marks (λ j e. lacking (known (entry_node d j)) e) (λ j e. ap has_no_type e) are

  pub assignable_so : (known : ℕ → Option Assignable) → AreMeant d (λ j. is_assignable true (known (entry_node d j)) ≡ true) marks → AreMeant d (MayAssign d known) marks
  assignable_so known are =
      meant_so d (λ j. is_assignable true (known (entry_node d j)) ≡ true) (MayAssign d known) marks (λ j e. assigned (known (entry_node d j)) e) (λ j e. ap (is_assignable true) e) are

  pub unassignable_so : (known : ℕ → Option Assignable) → AreMeant d (λ j. is_assignable false (known (entry_node d j)) ≡ true) marks → AreMeant d (MayNotAssign d known) marks
  unassignable_so known are =
      meant_so d (λ j. is_assignable false (known (entry_node d j)) ≡ true) (MayNotAssign d known) marks (λ j e. unassigned (known (entry_node d j)) e) (λ j e. ap (is_assignable false) e) are

-- one may be assigned and one may not
pub differ_so : (d : DescriptionTree) (known : ℕ → Option Assignable) (may not both : ℕ → Bool) → AreMeant d (MayAssign d known) may → ((i : ℕ) → (not i ≡ true) ↔ IsUnassignable d known i) → ((i : ℕ) → both i ≡ (may i && not i))
    → (i : ℕ) → (both i ≡ true) ↔ (IsSettled d known i × DifferInAssigning d known i)
differ_so d known may not both are lack is i = (
  λ h. (let p = and_parts (may i) (not i) (sym (is i) ∙ h) in let denied = (lack i).0 p.1 in (denied.0, ((are i).0 p.0, denied.1))),
  λ some. is i ∙ both_true (may i) (not i) ((are i).1 some.1.0) ((lack i).1 (some.0, some.1.1)),
)
  where
    both_true : (a b : Bool) → a ≡ true → b ≡ true → (a && b) ≡ true
    both_true a b e f = grind arith

-- some declaration is incomplete, or the name is settled and one has no type
pub typeless_name : (d : DescriptionTree) (known : ℕ → Option TypeOf) (incomplete none : ℕ → Bool) (marks : List Bool) → AreMeant d (IsIncomplete d) incomplete → AreMeant d (LacksType d known) none → length marks ≡ length (entries d)
    → ((i : ℕ) → i < length (entries d) → saw marks i ≡ (incomplete i || (none i && is_some (known (entry_node d i))))) → (i : ℕ) → (saw marks i ≡ true) ↔ IsTypeless d known i
typeless_name d known incomplete none marks some lack len each i = (
  λ h. (let p = split (incomplete i) (none i && is_some (known (entry_node d i))) (sym (each i (below h)) ∙ h) in
      ⊎_elim (λ e. inl ((some i).0 e)) (λ e. (let q = and_parts (none i) (is_some (known (entry_node d i))) e in inr (q.1, (lack i).0 q.0))) p),
  ⊎_elim
      (λ (x : SomeMeant d (IsIncomplete d) i). each i (meant_from d x.1.0) ∙ left_true (incomplete i) _ ((some i).1 x))
      (λ (x : IsSettled d known i × SomeMeant d (LacksType d known) i). each i (meant_from d x.1.1.0) ∙ right_true (incomplete i) (none i) _ ((lack i).1 x.1) x.0),
)
  where
    split : (a b : Bool) → (a || b) ≡ true → (a ≡ true) ⊎ (b ≡ true)
    split true b e = inl refl
    split false b e = inr e

    left_true : (a b : Bool) → a ≡ true → (a || b) ≡ true
    left_true a b e = grind arith

    right_true : (a b c : Bool) → b ≡ true → c ≡ true → (a || (b && c)) ≡ true
    right_true a b c e f = grind arith

    below : saw marks i ≡ true → i < length (entries d)
    below h = ⊎_elim (λ (x : i < length (entries d)). x) (λ (x : length (entries d) ≤ i). absurd (cc (sym h ∙ saw_past marks i (omega (arith, len))))) (cases_lt i (length (entries d)))

-- of those that have a value
pub settled_so : {T : Type 0} (d : DescriptionTree) (P : ℕ → Type 0) (known : ℕ → Option T) (marked kept : ℕ → Bool) → ((i : ℕ) → P i → i < length (entries d)) → ((i : ℕ) → (marked i ≡ true) ↔ P i)
    → ((i : ℕ) → i < length (entries d) → kept i ≡ (marked i && is_some (known (entry_node d i)))) → ((i : ℕ) → kept i ≡ true → marked i ≡ true) → (i : ℕ) → (kept i ≡ true) ↔ (IsSettled d known i × P i)
settled_so d P known marked kept below are within keeps i = (
  λ h. (let p = (are i).0 (keeps i h) in ((and_parts (marked i) (is_some (known (entry_node d i))) (sym (within i (below i p)) ∙ h)).1, p)),
  λ both. within i (below i both.1) ∙ ap₂ (λ (x y : Bool). x && y) ((are i).1 both.1) both.0,
)
