-- The loops over the lists of a description, each in its own words.
use Rattle.std.proofs.Common.{◌≡◌, ◌<◌, ◌+◌, ℕ, List, [], ◌∷◌, Option, None, Some, refl, ap, sym, ◌∙◌, drop, get_or, length, map, arith}
use Rattle.std.specs.Option.{option_or}
use Rattle.lisa_tree.specs.declared.statements.Stmt.{Stmt}
use Rattle.lisa_tree.specs.declared.descriptions.Act.{Act}
use Rattle.lisa_tree.specs.declared.descriptions.Declare.{Declare}
use Rattle.lisa_tree.specs.declared.descriptions.CodingItem.{CodingItem}
use Rattle.lisa_tree.specs.declared.descriptions.SyntaxItem.{SyntaxItem}
use Rattle.lisa_tree.specs.declared.descriptions.Section.{Section as PlacedSection}
use Rattle.lisa_tree.specs.declared.descriptions.Operation.{Operation}
use Rattle.lisa_tree.specs.declared.descriptions.Resource.{Resource as PlacedResource}
use Rattle.lisa_tree.specs.Statements.{stmt_tree, stmt_trees}
use Rattle.lisa_tree.specs.Activations.{act_tree, act_trees}
use Rattle.lisa_tree.specs.Descriptions.{SectionTree, declare_tree, section_tree, operation_tree, resource_tree}
use Rattle.description_places.specs.declared.sites.Region.TheVariants as regions
use Rattle.description_places.specs.Scopes.{Scope}
use Rattle.description_places.specs.Places.{Declared, Stands, Section, Resource, At, at, Condition, first, places, all_places, after, act_places, acts_places, names_places, instances_places, declare_places, name_count, declares_places, item_places, items_places, part_places, parts_places, region_of, section_inner, sections_places, operation_places, operations_places, resources_places}
use Rattle.description_places.proofs.Turns.{goes_past, stops_at}

alone : {F : Type 0} (a : Option F) → option_or a None ≡ a
alone None = refl
alone (Some x) = refl

pub from_first : (k : ℕ) → k + 0 ≡ k
from_first k = omega arith

module _ {F : Type 0} (breaks : Condition F) where
  -- ---- statements

  pub statements_past : (o : ℕ) (s : Scope) (s' : Scope) (all : List Stmt) (i : ℕ) (d : Stmt) → i < length all → d ≡ get_or all i d → s' ≡ after s (stmt_tree d) → first breaks (places o s (stmt_tree d)) ≡ None
      → first breaks (all_places o s (stmt_trees (drop i all))) ≡ first breaks (all_places o s' (stmt_trees (drop (i + 1) all)))
  statements_past o s s' all i d h item next none = goes_past breaks (λ s all. all_places o s (stmt_trees all)) (λ s d. places o s (stmt_tree d)) (λ s d. after s (stmt_tree d)) (λ s d rest. refl) s all i d h item (none)
      ∙ ap (λ (z : Scope). first breaks (all_places o z (stmt_trees (drop (i + 1) all)))) (sym next)

  pub statements_stop : (o : ℕ) (s : Scope) (all : List Stmt) (i : ℕ) (d : Stmt) (fault : F) → i < length all → d ≡ get_or all i d → first breaks (places o s (stmt_tree d)) ≡ Some fault
      → Some fault ≡ first breaks (all_places o s (stmt_trees (drop i all)))
  statements_stop o s all i d fault h item some = stops_at breaks (λ s all. all_places o s (stmt_trees all)) (λ s d. places o s (stmt_tree d)) (λ s d. after s (stmt_tree d)) (λ s d rest. refl) s all i d h item fault (some)

  -- ---- items of an activation

  pub acts_past : (o : ℕ) (all : List Act) (i : ℕ) (d : Act) → i < length all → d ≡ get_or all i d → first breaks (act_places o (act_tree d)) ≡ None
      → first breaks (acts_places o (act_trees (drop i all))) ≡ first breaks (acts_places o (act_trees (drop (i + 1) all)))
  acts_past o all i d h item none = goes_past breaks (λ (k : ℕ) all. acts_places o (act_trees all)) (λ k d. act_places o (act_tree d)) (λ k d. k) (λ k d rest. refl) 0 all i d h item (none)

  pub acts_stop : (o : ℕ) (all : List Act) (i : ℕ) (d : Act) (fault : F) → i < length all → d ≡ get_or all i d → first breaks (act_places o (act_tree d)) ≡ Some fault
      → Some fault ≡ first breaks (acts_places o (act_trees (drop i all)))
  acts_stop o all i d fault h item some = stops_at breaks (λ (k : ℕ) all. acts_places o (act_trees all)) (λ k d. act_places o (act_tree d)) (λ k d. k) (λ k d rest. refl) 0 all i d h item fault (some)

  -- ---- declarations

  pub names_past : (o k : ℕ) (all : List (List ℕ)) (i : ℕ) (d : List ℕ) → i < length all → d ≡ get_or all i d → breaks o regions.Declares [] (Declared (k + i) d) ≡ None
      → first breaks (names_places o (k + i) (drop i all)) ≡ first breaks (names_places o (k + (i + 1)) (drop (i + 1) all))
  names_past o k all i d h item none = goes_past breaks (names_places o) (λ k n. at o regions.Declares [] (Declared k n) ∷ []) (λ k n. k + 1) (λ k n rest. refl) (k + i) all i d h item (alone _ ∙ none)
      ∙ ap (λ (m : ℕ). first breaks (names_places o m (drop (i + 1) all))) {x = k + i + 1} {y = k + (i + 1)} (omega arith)

  pub names_stop : (o k : ℕ) (all : List (List ℕ)) (i : ℕ) (d : List ℕ) (fault : F) → i < length all → d ≡ get_or all i d → breaks o regions.Declares [] (Declared (k + i) d) ≡ Some fault
      → Some fault ≡ first breaks (names_places o (k + i) (drop i all))
  names_stop o k all i d fault h item some = stops_at breaks (names_places o) (λ k n. at o regions.Declares [] (Declared k n) ∷ []) (λ k n. k + 1) (λ k n rest. refl) (k + i) all i d h item fault (alone _ ∙ some)

  abbrev instance_places : ℕ → ℕ → List ℕ × List ℕ → List At
  instance_places o k pair = at o regions.Declares [] (Declared k pair.0) ∷ at o regions.Declares [] (Stands pair.1) ∷ []

  pub instances_past : (o k : ℕ) (all : List (List ℕ × List ℕ)) (i : ℕ) (d : List ℕ × List ℕ) → i < length all → d ≡ get_or all i d → first breaks (instance_places o (k + i) d) ≡ None
      → first breaks (instances_places o (k + i) (drop i all)) ≡ first breaks (instances_places o (k + (i + 1)) (drop (i + 1) all))
  instances_past o k all i d h item none = goes_past breaks (instances_places o) (instance_places o) (λ k d. k + 1) (λ k d rest. refl) (k + i) all i d h item (none)
      ∙ ap (λ (m : ℕ). first breaks (instances_places o m (drop (i + 1) all))) {x = k + i + 1} {y = k + (i + 1)} (omega arith)

  pub instances_stop : (o k : ℕ) (all : List (List ℕ × List ℕ)) (i : ℕ) (d : List ℕ × List ℕ) (fault : F) → i < length all → d ≡ get_or all i d → first breaks (instance_places o (k + i) d) ≡ Some fault
      → Some fault ≡ first breaks (instances_places o (k + i) (drop i all))
  instances_stop o k all i d fault h item some = stops_at breaks (instances_places o) (instance_places o) (λ k d. k + 1) (λ k d rest. refl) (k + i) all i d h item fault (some)

  pub declares_past : (o k : ℕ) (k' : ℕ) (all : List Declare) (i : ℕ) (d : Declare) → i < length all → d ≡ get_or all i d → k' ≡ k + name_count (declare_tree d) → first breaks (declare_places o k (declare_tree d)) ≡ None
      → first breaks (declares_places o k (map declare_tree (drop i all))) ≡ first breaks (declares_places o k' (map declare_tree (drop (i + 1) all)))
  declares_past o k k' all i d h item next none = goes_past breaks (λ k all. declares_places o k (map declare_tree all)) (λ k d. declare_places o k (declare_tree d)) (λ k d. k + name_count (declare_tree d)) (λ k d rest. refl) k all i d h item (none)
      ∙ ap (λ (m : ℕ). first breaks (declares_places o m (map declare_tree (drop (i + 1) all)))) (sym next)

  pub declares_stop : (o k : ℕ) (all : List Declare) (i : ℕ) (d : Declare) (fault : F) → i < length all → d ≡ get_or all i d → first breaks (declare_places o k (declare_tree d)) ≡ Some fault
      → Some fault ≡ first breaks (declares_places o k (map declare_tree (drop i all)))
  declares_stop o k all i d fault h item some = stops_at breaks (λ k all. declares_places o k (map declare_tree all)) (λ k d. declare_places o k (declare_tree d)) (λ k d. k + name_count (declare_tree d)) (λ k d rest. refl) k all i d h item fault (some)

  -- ---- codings and syntaxes

  pub items_past : (o : ℕ) (all : List CodingItem) (i : ℕ) (d : CodingItem) → i < length all → d ≡ get_or all i d → first breaks (item_places o d) ≡ None
      → first breaks (items_places o (drop i all)) ≡ first breaks (items_places o (drop (i + 1) all))
  items_past o all i d h item none = goes_past breaks (λ (k : ℕ). items_places o) (λ k. item_places o) (λ k d. k) (λ k d rest. refl) 0 all i d h item (none)

  pub items_stop : (o : ℕ) (all : List CodingItem) (i : ℕ) (d : CodingItem) (fault : F) → i < length all → d ≡ get_or all i d → first breaks (item_places o d) ≡ Some fault
      → Some fault ≡ first breaks (items_places o (drop i all))
  items_stop o all i d fault h item some = stops_at breaks (λ (k : ℕ). items_places o) (λ k. item_places o) (λ k d. k) (λ k d rest. refl) 0 all i d h item fault (some)

  pub parts_past : (o : ℕ) (all : List SyntaxItem) (i : ℕ) (d : SyntaxItem) → i < length all → d ≡ get_or all i d → first breaks (part_places o d.part) ≡ None
      → first breaks (parts_places o (drop i all)) ≡ first breaks (parts_places o (drop (i + 1) all))
  parts_past o all i d h item none = goes_past breaks (λ (k : ℕ). parts_places o) (λ k d. part_places o d.part) (λ k d. k) (λ k d rest. refl) 0 all i d h item (none)

  pub parts_stop : (o : ℕ) (all : List SyntaxItem) (i : ℕ) (d : SyntaxItem) (fault : F) → i < length all → d ≡ get_or all i d → first breaks (part_places o d.part) ≡ Some fault
      → Some fault ≡ first breaks (parts_places o (drop i all))
  parts_stop o all i d fault h item some = stops_at breaks (λ (k : ℕ). parts_places o) (λ k d. part_places o d.part) (λ k d. k) (λ k d rest. refl) 0 all i d h item fault (some)

  -- ---- sections, operations and resources

  abbrev section_places : ℕ → List SectionTree → ℕ → SectionTree → List At
  section_places o whole k s = at o (region_of s) [] (Section whole k) ∷ section_inner o s

  pub sections_past : (o : ℕ) (whole : List SectionTree) (all : List PlacedSection) (i : ℕ) (d : PlacedSection) → i < length all → d ≡ get_or all i d → first breaks (section_places o whole i (section_tree d)) ≡ None
      → first breaks (sections_places o whole i (map section_tree (drop i all))) ≡ first breaks (sections_places o whole (i + 1) (map section_tree (drop (i + 1) all)))
  sections_past o whole all i d h item none = goes_past breaks (λ k all. sections_places o whole k (map section_tree all)) (λ k d. section_places o whole k (section_tree d)) (λ k d. k + 1) (λ k d rest. refl) i all i d h item (none)

  pub sections_stop : (o : ℕ) (whole : List SectionTree) (all : List PlacedSection) (i : ℕ) (d : PlacedSection) (fault : F) → i < length all → d ≡ get_or all i d → first breaks (section_places o whole i (section_tree d)) ≡ Some fault
      → Some fault ≡ first breaks (sections_places o whole i (map section_tree (drop i all)))
  sections_stop o whole all i d fault h item some = stops_at breaks (λ k all. sections_places o whole k (map section_tree all)) (λ k d. section_places o whole k (section_tree d)) (λ k d. k + 1) (λ k d rest. refl) i all i d h item fault (some)

  pub operations_past : (all : List Operation) (i : ℕ) (d : Operation) → i < length all → d ≡ get_or all i d → first breaks (operation_places i (operation_tree d)) ≡ None
      → first breaks (operations_places i (map operation_tree (drop i all))) ≡ first breaks (operations_places (i + 1) (map operation_tree (drop (i + 1) all)))
  operations_past all i d h item none = goes_past breaks (λ k all. operations_places k (map operation_tree all)) (λ k d. operation_places k (operation_tree d)) (λ k d. k + 1) (λ k d rest. refl) i all i d h item (none)

  pub operations_stop : (all : List Operation) (i : ℕ) (d : Operation) (fault : F) → i < length all → d ≡ get_or all i d → first breaks (operation_places i (operation_tree d)) ≡ Some fault
      → Some fault ≡ first breaks (operations_places i (map operation_tree (drop i all)))
  operations_stop all i d fault h item some = stops_at breaks (λ k all. operations_places k (map operation_tree all)) (λ k d. operation_places k (operation_tree d)) (λ k d. k + 1) (λ k d rest. refl) i all i d h item fault (some)

  pub resources_past : (all : List PlacedResource) (i : ℕ) (d : PlacedResource) → i < length all → d ≡ get_or all i d → breaks 0 regions.Resources [] (Resource i (resource_tree d)) ≡ None
      → first breaks (resources_places i (map resource_tree (drop i all))) ≡ first breaks (resources_places (i + 1) (map resource_tree (drop (i + 1) all)))
  resources_past all i d h item none = goes_past breaks (λ k all. resources_places k (map resource_tree all)) (λ k d. at 0 regions.Resources [] (Resource k (resource_tree d)) ∷ []) (λ k d. k + 1) (λ k d rest. refl) i all i d h item (alone _ ∙ none)

  pub resources_stop : (all : List PlacedResource) (i : ℕ) (d : PlacedResource) (fault : F) → i < length all → d ≡ get_or all i d → breaks 0 regions.Resources [] (Resource i (resource_tree d)) ≡ Some fault
      → Some fault ≡ first breaks (resources_places i (map resource_tree (drop i all)))
  resources_stop all i d fault h item some = stops_at breaks (λ k all. resources_places k (map resource_tree all)) (λ k d. at 0 regions.Resources [] (Resource k (resource_tree d)) ∷ []) (λ k d. k + 1) (λ k d rest. refl) i all i d h item fault (alone _ ∙ some)
