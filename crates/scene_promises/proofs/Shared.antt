-- Types, and what may be assigned, go along all that a declared name may mean.
use Rattle.std.proofs.Common.{◌≡◌, ◌∙◌, ℕ, true, Some, sym, ap, inl, inr, ⊎_elim}
use Rattle.std.specs.Prelude.{slice_get}
use Rattle.std.proofs.lemmas.Option.{same_Some}
use Rattle.lisa_tree.specs.declared.tokens.Shape.{Shape}
use Rattle.lisa_tree.specs.Descriptions.{DescriptionTree}
use Rattle.lisa_tree.specs.declared.declared.What.{What}
use Rattle.lisa_tree.specs.Declarations.{Entry, entries, plain_at}
use Rattle.lisa_tree.specs.Paths.{entry_node}
use Rattle.graph_paths.specs.Paths.{is_in}
use Rattle.description_graph.proofs.Nodes.{alternatives_below}
use Rattle.description_types.specs.declared.values.TypeOf.{TypeOf}
use Rattle.description_types.specs.declared.values.TypeOf.TheVariants as types
use Rattle.description_types.specs.Types.{typed}
use Rattle.description_types.specs.Tables.{Known, AreKinds}
use Rattle.name_checks.specs.Doubled.{duplicate}
use Rattle.name_checks.specs.Unknown.{unknown}
use Rattle.kind_checks.specs.WrongKinds.{wrong_kind}
use Rattle.meant_declarations.specs.Meant.{MayMean, itself, higher}
use Rattle.lisa_machine.specs.Assigning.{HasPlace, IsAssignable}
use Rattle.lisa_machine.specs.Freedom.{IsFree}
use Rattle.lisa_machine.specs.Ranks.{Ranks}
use Rattle.lisa_machine.specs.Values.{IsOfType, ChoosesAmong}
use Rattle.lisa_machine.proofs.Assigned.{child_yes, reference_yes, operation_yes}
use Rattle.lisa_machine.proofs.Chosen.{plain_listed}
use Rattle.lisa_machine.proofs.Named.{what_is}
use Rattle.lisa_machine.proofs.Typing.{child_types, reference_types, operation_typed}
use Rattle.use_promises.specs.Meant.{ChoosesFrom}
use Rattle.use_promises.proofs.Given.{child_expressed}
use Rattle.scene_promises.specs.Sharing.{Expresses}

module _ (d : DescriptionTree) (known : Known) (kinds : AreKinds d known) (names : IsFree (duplicate d) d) (stand : IsFree (unknown d) d) (uses : IsFree (wrong_kind known d) d) where
  pub types_along : (s : Shape) {i j : ℕ} → MayMean d i j → IsOfType known.types d i s → IsOfType known.types d j s
  types_along s (itself e is other same) h = sym (ap (λ (z : ℕ). known.types (entry_node d z)) same) ∙ h
  types_along s (higher e p k is what up there more) h =
      let r = reference_types d known kinds names stand uses _ e s is what h p up in
      let same : r.0 ≡ k = same_Some r.0 k (sym r.1 ∙ there) in
      types_along s more (sym (ap (λ (z : ℕ). known.types (entry_node d z)) same) ∙ r.2)

  pub assignables_along : {i j : ℕ} → MayMean d i j → IsAssignable known.assignables d i → IsAssignable known.assignables d j
  assignables_along (itself e is other same) h = sym (ap (λ (z : ℕ). known.assignables (entry_node d z)) same) ∙ h
  assignables_along (higher e p k is what up there more) h =
      let r = reference_yes d known kinds names stand uses _ e is what h p up in
      let same : r.0 ≡ k = same_Some r.0 k (sym r.1 ∙ there) in
      assignables_along more (sym (ap (λ (z : ℕ). known.assignables (entry_node d z)) same) ∙ r.2)

  among : (j c : ℕ) (e : Entry) → slice_get (entries d) j ≡ Some e → ChoosesFrom e c → ChoosesAmong d j c
  among j c e is which = ⊎_elim (λ f. inl (what_is d j e is ∙ ap (λ (v : What). Some v) f)) (λ f. inr (what_is d j e is ∙ ap (λ (v : What). Some v) f)) which

  module _ (ranks : Ranks d) where
    pub expressed : (s : Shape) (i j c o : ℕ) (e : Entry) → MayMean d i j → slice_get (entries d) j ≡ Some e → ChoosesFrom e c → is_in o (plain_at d c) ≡ true → IsOfType known.types d i s → Expresses known.types d o s
    expressed s i j c o e means is which plain type =
        let x = child_expressed d known kinds names stand uses s i j c e type means is which o plain in
        let own = child_types d known kinds names stand uses j c s (among j c e is which) (types_along s means type) o plain in
        let given = operation_typed d known kinds names stand uses ranks o x.0 x.1 in
        let same : types.Typed given.0 ≡ types.Typed s = same_Some (types.Typed given.0) (types.Typed s) (sym given.2 ∙ own) in
        record { expression = x.0; is = x.1; type = given.1 ∙ ap typed (ap (λ (v : TypeOf). Some v) same) }

  pub placed : (i j c o : ℕ) (e : Entry) → MayMean d i j → slice_get (entries d) j ≡ Some e → ChoosesFrom e c → is_in o (plain_at d c) ≡ true → IsAssignable known.assignables d i → HasPlace known.assignables d o
  placed i j c o e means is which plain assigned =
      let own = child_yes d known kinds names stand uses j c (among j c e is which) (assignables_along means assigned) o plain in
      let r = operation_yes d known kinds names stand uses o (alternatives_below d c o (plain_listed d c o plain)) own in
      record { expression = r.0; is = r.1; place = r.2 }
