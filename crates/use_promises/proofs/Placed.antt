-- What a declared name that is assigned may mean is no label.
use Rattle.std.proofs.Common.{◌≡◌, ℕ, List, None, Some, refl, sym, ap, ◌∙◌, inl, inr}
use Rattle.std.specs.Prelude.{slice_get}
use Rattle.lisa_tree.specs.Descriptions.{DescriptionTree}
use Rattle.description_places.specs.declared.sites.Region.{Region}
use Rattle.description_places.specs.Scopes.{Scope, local_named}
use Rattle.description_places.specs.Places as places
use Rattle.description_places.specs.Places.{at}
use Rattle.lisa_tree.specs.declared.declared.What.{What}
use Rattle.lisa_tree.specs.declared.declared.What.TheVariants as whats
use Rattle.lisa_tree.specs.Declarations.{Entry, entries, declared_at}
use Rattle.lisa_tree.specs.Paths.{entry_node}
use Rattle.lisa_machine.specs.description_types.declared.values.Assignable.TheVariants as assigns
use Rattle.lisa_machine.specs.description_types.Facts.{entry_value}
use Rattle.lisa_machine.specs.description_types.Kinds.{assignable_fact}
use Rattle.lisa_machine.specs.description_types.Steady.{assignables_steady}
use Rattle.lisa_machine.specs.description_types.Tables.{apart, unfit, Known, AreKinds}
use Rattle.lisa_machine.specs.name_checks.Doubled.{duplicate}
use Rattle.lisa_machine.specs.name_checks.Unknown.{unknown}
use Rattle.lisa_machine.specs.kind_checks.WrongKinds.{wrong_kind}
use Rattle.lisa_machine.specs.Freedom.{IsFree, Stands}
use Rattle.lisa_machine.specs.Ranks.{Ranks}
use Rattle.lisa_machine.proofs.Settling.{entry_is}
use Rattle.lisa_machine.proofs.Assigned.{written, reference_yes}
use Rattle.lisa_machine.specs.meant_declarations.Meant.{MayMean, itself, higher}
use Rattle.use_promises.specs.Using.{IsChildEntry}
use Rattle.use_promises.proofs.References.{definite}

module _ (d : DescriptionTree) (known : Known) (kinds : AreKinds d known) (names : IsFree (duplicate d) d) (stand : IsFree (unknown d) d) (uses : IsFree (wrong_kind known d) d) where
  abbrev IsAssignable : ℕ → Type 0
  IsAssignable i = known.assignables (entry_node d i) ≡ Some assigns.Yes

  meant_yes : {i j : ℕ} → MayMean d i j → IsAssignable i → IsAssignable j
  meant_yes (itself e is other same) y = sym (ap (λ (z : ℕ). known.assignables (entry_node d z)) same) ∙ y
  meant_yes (higher e p k is what h at more) y =
      let r = reference_yes d known kinds names stand uses _ e is what y p h in
      let same : r.0 ≡ k = some_same r.0 k (sym r.1 ∙ at) in
      meant_yes more (sym (ap (λ (z : ℕ). known.assignables (entry_node d z)) same) ∙ r.2)
    where
      some_same : (x y : ℕ) → Some x ≡ Some y → x ≡ y
      some_same x y f = cc f

  no_label : (j : ℕ) (e : Entry) → slice_get (entries d) j ≡ Some e → IsAssignable j → e.what ≡ whats.Label → ⊥
  no_label j e is y what = off (sym (entry_is d known names stand uses (assignable_fact d (apart known.traits) (unfit known.traits known.typeless)) (assignables_steady d (apart known.traits) (unfit known.traits known.typeless)) known.assignables kinds.assignables j e is
      ∙ ap (λ (x : What). entry_value d (assignable_fact d (apart known.traits) (unfit known.traits known.typeless)) known.assignables j (Some x)) what) ∙ y)
    where
      off : Some assigns.No ≡ Some assigns.Yes → ⊥
      off f = absurd (cc f)

  pub target_child : (ranks : Ranks d) (o i : ℕ) (region : Region) (scope : Scope) (n : List ℕ) → Stands d (at o region scope (places.Writes n)) → local_named n scope ≡ None → declared_at d o n ≡ Some i
      → (j : ℕ) (e : Entry) → MayMean d i j → slice_get (entries d) j ≡ Some e → IsChildEntry e
  target_child ranks o i region scope n s none at j e m is = by (meant_yes m (written d known kinds names stand uses ranks o region scope n s none i at)) e.what refl
    where
      by : IsAssignable j → (w : What) → e.what ≡ w → IsChildEntry e
      by y (whats.Group c) what = (c, inl what)
      by y (whats.Instance c) what = (c, inr what)
      by y whats.Label what = absurd (no_label j e is y what)
      by y whats.Reference what = absurd (definite d m e is what)
