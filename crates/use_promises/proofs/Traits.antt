-- What is known of the uses of declared names: of each of them, and of all that it may mean.
use Rattle.std.proofs.Common.{◌≡◌, ◌⊎◌, ◌||◌, ℕ, List, [], ◌∷◌, Option, Some, Bool, true, false, nat_eq, refl, sym, ap, ◌∙◌, inl, inr, ⊎_elim}
use Rattle.std.specs.Prelude.{slice_get}
use Rattle.std.specs.List.{list_any}
use Rattle.std.proofs.lemmas.Bool.{or_cases, eqb-true}
use Rattle.lisa_tree.specs.Descriptions.{DescriptionTree}
use Rattle.lisa_tree.specs.declared.declared.What.{What}
use Rattle.lisa_tree.specs.declared.declared.What.TheVariants as whats
use Rattle.lisa_tree.specs.Operations.{sections_at}
use Rattle.lisa_tree.specs.Declarations.{Entry, entry, entries, declared_at, owner_at, entry_name_at, above}
use Rattle.lisa_tree.specs.Paths.{Declaring, leads, refers}
use Rattle.lisa_machine.specs.description_graph.Graph.{is_at}
use Rattle.lisa_machine.proofs.description_graph_proofs.Hits.{any_at, is_at-Some}
use Rattle.lisa_machine.proofs.description_graph_proofs.Meant.{next_of}
use Rattle.graph_paths.specs.Paths.{is_in}
use Rattle.lisa_machine.specs.meant_declarations.Meant.{MayMean, itself}
use Rattle.lisa_machine.specs.description_types.declared.values.Trait.{Trait}
use Rattle.lisa_machine.specs.description_types.declared.values.Traits.{Traits}
use Rattle.lisa_machine.specs.description_types.Codings.{coding_at, name_coding}
use Rattle.lisa_machine.specs.description_types.Uses.{holds, label_traits, choice_traits, child_traits, what_traits, own_traits}
use Rattle.lisa_machine.specs.description_types.Tables.{AreTraits}
use Rattle.lisa_machine.proofs.Decoding.{off_left, off_right}
use Rattle.lisa_machine.proofs.Named.{what_is}
use Rattle.use_promises.specs.Meant.{ChoosesFrom}

pub none_in : (test : ℕ → Bool) (p : ℕ) (ps : List ℕ) → is_in p ps ≡ true → list_any test ps ≡ false → test p ≡ false
none_in test p [] h e = absurd (cc h)
none_in test p (q ∷ ps) h e = elim (or_cases (nat_eq p q) (is_in p ps) h) [
  | inl same ↦ ap test (eqb-true p q same) ∙ off_left (test q) (list_any test ps) e
  | inr later ↦ none_in test p ps later (off_right (test q) (list_any test ps) e)
]

pub coding_is : (d : DescriptionTree) (i : ℕ) (e : Entry) → slice_get (entries d) i ≡ Some e → coding_at d i ≡ name_coding (sections_at d e.operation) (Some e.name)
coding_is d i e is =
    let owner : owner_at d i ≡ e.operation = cc is in
    let name : entry_name_at d i ≡ Some e.name = cc is in
    ap (λ (o : ℕ). name_coding (sections_at d o) (entry_name_at d i)) owner ∙ ap (name_coding (sections_at d e.operation)) name

-- a reference leads to what it may mean
pub means : (d : DescriptionTree) (i j p : ℕ) (e : Entry) → slice_get (entries d) i ≡ Some e → e.what ≡ whats.Reference → is_in p (above d e.operation) ≡ true → declared_at d p e.name ≡ Some j → leads d (Declaring i) (Declaring j) ≡ true
means d i j p e is what h at =
    ap (λ (x : Option Entry). next_of d x j) is
    ∙ ap (λ (w : What). next_of d (Some (entry e.operation w e.name)) j) what
    ∙ any_at (λ q. is_at (declared_at d q e.name) j) p (above d e.operation) h (is_at-Some (declared_at d p e.name) j at)

module _ (d : DescriptionTree) (i : ℕ) (e : Entry) (is : slice_get (entries d) i ≡ Some e) where
  own_so : (w : What) → e.what ≡ w → own_traits d i ≡ what_traits d i (Some w)
  own_so w what = ap (what_traits d i) (what_is d i e is ∙ ap (λ (x : What). Some x) what)

  -- a group or an instance, and a label

  pub own_child : (c : ℕ) → ChoosesFrom e c → own_traits d i ≡ child_traits (coding_at d i) (choice_traits d c)
  own_child c which = ⊎_elim (own_so (whats.Group c)) (own_so (whats.Instance c)) which

  pub own_label : e.what ≡ whats.Label → own_traits d i ≡ label_traits
  own_label what = own_so whats.Label what

  pub means_itself : (c : ℕ) → ChoosesFrom e c → MayMean d i i
  means_itself c which = itself e is (⊎_elim (λ what. ap refers what) (λ what. ap refers what) which) refl

module _ (d : DescriptionTree) (traits : ℕ → Traits) (are : AreTraits d traits) (q : Trait) {i j : ℕ} (m : MayMean d i j) where
  -- what a declaration has is known of each name that may mean it

  pub shows : holds q (own_traits d j) ≡ true → holds q (traits i) ≡ true
  shows on = (are q i).1 (j, (m, on))

  pub lacks : holds q (traits i) ≡ false → holds q (own_traits d j) ≡ false
  lacks off = by (holds q (own_traits d j)) refl
    where
      by : (b : Bool) → holds q (own_traits d j) ≡ b → b ≡ false
      by false e = refl
      by true e = absurd (cc (sym (shows e) ∙ off))
