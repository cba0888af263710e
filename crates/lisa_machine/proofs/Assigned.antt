-- What may be assigned is known of each name, and what is assigned may be.
use Rattle.std.proofs.Common.{◌≡◌, ◌≢◌, ◌⊎◌, ◌<◌, ℕ, List, [], ◌∷◌, Option, None, Some, Bool, true, false, ◌&&◌, not, cond, length, refl, sym, ap, ◌∙◌, subst, inl, inr, ⊎_elim}
use Rattle.std.specs.Prelude.{slice_get, option_map}
use Rattle.std.specs.Option.{is_some, is_none}
use Rattle.std.proofs.lemmas.Option.{slice_get_within}
use Rattle.lisa_tree.specs.declared.tokens.Shape.{Shape}
use Rattle.lisa_tree.specs.Expressions as exprs
use Rattle.lisa_tree.specs.Expressions.{ExprTree}
use Rattle.lisa_tree.specs.Descriptions as trees
use Rattle.lisa_tree.specs.Descriptions.{ResourceTree, DescriptionTree}
use Rattle.description_places.specs.declared.sites.Region.{Region}
use Rattle.description_places.specs.declared.sites.Region.TheVariants as regions
use Rattle.description_places.specs.Scopes.{Scope, local_named}
use Rattle.description_places.specs.Places as places
use Rattle.description_places.specs.Places.{at, uses}
use Rattle.lisa_tree.specs.declared.declared.What.{What}
use Rattle.lisa_tree.specs.declared.declared.What.TheVariants as whats
use Rattle.lisa_tree.specs.declared.declared.Meaning.{Meaning}
use Rattle.lisa_tree.specs.declared.declared.Meaning.TheVariants as meanings
use Rattle.lisa_tree.specs.Resources.{is_named, resource_at}
use Rattle.lisa_tree.specs.Operations.{name_at, sections_at, expression_in}
use Rattle.lisa_tree.specs.Declarations.{Entry, entries, choices, declared_at, what_at, above, plain_at}
use Rattle.lisa_tree.specs.Meanings.{meaning, meaning_of}
use Rattle.lisa_tree.specs.Paths.{choice_node, entry_node, refers}
use Rattle.description_graph.proofs.Hits.{found}
use Rattle.description_graph.proofs.Nodes.{alternatives_below}
use Rattle.graph_paths.specs.Paths.{is_in}
use Rattle.meant_declarations.specs.Meant.{MayMean}
use Rattle.description_types.specs.declared.values.Assignable.{Assignable}
use Rattle.description_types.specs.declared.values.Assignable.TheVariants as assigns
use Rattle.description_types.specs.Types.{element_shape, meant_element}
use Rattle.description_types.specs.Refused.{is_apart, is_refused, meant_open, is_open}
use Rattle.description_types.specs.Facts.{Fact, IsSteady, merged, at_entry as value_at, declared_value, entry_value, added, known_together, any_open}
use Rattle.description_types.specs.Kinds.{resource_assignable, settled_assignable, meant_assignable, array_assignable, lacks_expression, value_assignable, expression_assignable, both_assignable, choice_assignable, assignable_of_choice, either_assignable, assignable_fact}
use Rattle.description_types.specs.Steady.{assignables_steady}
use Rattle.description_types.specs.Tables.{apart, unfit, DifferInAssigning, Known, AreKinds}
use Rattle.name_checks.specs.Doubled.{duplicate}
use Rattle.name_checks.specs.Unknown.{unknown, is_something, is_known}
use Rattle.kind_checks.specs.Uses.{is_no_word, is_no_array, sorts_differ, meant_misread, is_misread, meant_misindexed, is_misindexed, meant_miswritten, is_miswritten, what_misdeclared}
use Rattle.kind_checks.specs.WrongKinds.{wrong_kind, owner_name}
use Rattle.stage_checks.specs.Resets.{is_scalar}
use Rattle.lisa_machine.specs.Freedom.{IsFree, Stands, AllStand}
use Rattle.lisa_machine.specs.Ranks.{Ranks}
use Rattle.lisa_machine.specs.Assigning.{IsPlace, register, element, declared}
use Rattle.lisa_machine.proofs.Among.{free_place}
use Rattle.lisa_machine.proofs.Standing.{expression_stand}
use Rattle.lisa_machine.proofs.Decoding.{off_right, is_found, is_right, position_there}
use Rattle.lisa_machine.proofs.Named.{what_is}
use Rattle.lisa_machine.proofs.Choosing.{rightly_declared}
use Rattle.lisa_machine.proofs.Chosen.{IsGood, good_some, good_keeps, in_here, in_later, none_open, together_good, merged_only, known_only, closed_known, plain_listed}
use Rattle.lisa_machine.proofs.Agreeing.{meant_entry, Apart, agrees}
use Rattle.lisa_machine.proofs.Unrefused.{use_fits, unless}
use Rattle.lisa_machine.proofs.Settling.{choice_there, operation_is, choice_is, entry_is, child_is, reference_is, all_settled}

-- declarations that are meant aren't known to differ
abbrev IsOne : Option Assignable → Type 0
IsOne r = r ≡ Some assigns.Mixed → ⊥

-- nor is what they are kept from being known by a refused use
abbrev IsFit : Assignable → Type 0
IsFit t = t ≢ assigns.Refused

abbrev IsKnown : Option Assignable → Type 0
IsKnown r = IsGood IsFit r

-- ---- choices

both_one : (x y : Assignable) → both_assignable x y ≡ assigns.Mixed → ⊥
both_one assigns.Yes assigns.Yes e = absurd (cc e)
both_one assigns.Yes assigns.No e = absurd (cc e)
both_one assigns.Yes assigns.Mixed e = absurd (cc e)
both_one assigns.Yes assigns.Refused e = absurd (cc e)
both_one assigns.Refused assigns.Yes e = absurd (cc e)
both_one assigns.Refused assigns.No e = absurd (cc e)
both_one assigns.Refused assigns.Mixed e = absurd (cc e)
both_one assigns.Refused assigns.Refused e = absurd (cc e)
both_one assigns.No y e = absurd (cc e)
both_one assigns.Mixed y e = absurd (cc e)

both_fits : (x y : Assignable) → IsFit x → IsFit y → IsFit (both_assignable x y)
both_fits assigns.Yes assigns.Yes a b = λ e. absurd (cc e)
both_fits assigns.Yes assigns.No a b = λ e. absurd (cc e)
both_fits assigns.Yes assigns.Mixed a b = λ e. absurd (cc e)
both_fits assigns.Yes assigns.Refused a b = λ e. b refl
both_fits assigns.Refused y a b = λ e. a refl
both_fits assigns.No y a b = λ e. absurd (cc e)
both_fits assigns.Mixed y a b = λ e. absurd (cc e)

added_one : (x y : Option Assignable) → IsOne x → IsOne y → IsOne (added both_assignable x y)
added_one None y a b = b
added_one (Some x) None a b = a
added_one (Some x) (Some y) a b = λ e. both_one x y (cc e)

together_one : (value : ℕ → Option Assignable) (all : List ℕ) → ((a : ℕ) → is_in a all ≡ true → IsOne (value a)) → IsOne (known_together both_assignable value all)
together_one value [] each = λ e. absurd (cc e)
together_one value (a ∷ rest) each = added_one (value a) (known_together both_assignable value rest) (each a (in_here a rest)) (together_one value rest (λ b h. each b (in_later b a rest h)))

chosen_one : (lacks some_open : Bool) (r : Option Assignable) → IsOne r → IsOne (choice_assignable lacks some_open r)
chosen_one true some_open r one = λ e. absurd (cc e)
chosen_one false true r one = λ e. absurd (cc e)
chosen_one false false None one = λ e. absurd (cc e)
chosen_one false false (Some x) one = one

chosen_known : (lacks : Bool) (r : Option Assignable) → IsKnown r → IsKnown (choice_assignable lacks false r)
chosen_known true r k = (assigns.No, refl, λ f. absurd (cc f))
chosen_known false None k = absurd (cc k.1)
chosen_known false (Some x) k = k

chosen_yes : (lacks some_open : Bool) (r : Option Assignable) → choice_assignable lacks some_open r ≡ Some assigns.Yes → (some_open ≡ false) × (r ≡ Some assigns.Yes)
chosen_yes true some_open r e = absurd (cc e)
chosen_yes false true r e = absurd (cc e)
chosen_yes false false None e = absurd (cc e)
chosen_yes false false (Some x) e = (refl, e)

both_yes : (x y : Assignable) → both_assignable x y ≡ assigns.Yes → (x ≡ assigns.Yes) × (y ≡ assigns.Yes)
both_yes assigns.Yes assigns.Yes e = (refl, refl)
both_yes assigns.Yes assigns.No e = absurd (cc e)
both_yes assigns.Yes assigns.Mixed e = absurd (cc e)
both_yes assigns.Yes assigns.Refused e = absurd (cc e)
both_yes assigns.Refused assigns.Yes e = absurd (cc e)
both_yes assigns.Refused assigns.No e = absurd (cc e)
both_yes assigns.Refused assigns.Mixed e = absurd (cc e)
both_yes assigns.Refused assigns.Refused e = absurd (cc e)
both_yes assigns.No y e = absurd (cc e)
both_yes assigns.Mixed y e = absurd (cc e)

either_yes : (x y : Assignable) → either_assignable x y ≡ assigns.Yes → (x ≡ assigns.Yes) × (y ≡ assigns.Yes)
either_yes assigns.Yes assigns.Yes e = (refl, refl)
either_yes assigns.Yes assigns.No e = absurd (cc e)
either_yes assigns.Yes assigns.Mixed e = absurd (cc e)
either_yes assigns.Yes assigns.Refused e = absurd (cc e)
either_yes assigns.No assigns.Yes e = absurd (cc e)
either_yes assigns.No assigns.No e = absurd (cc e)
either_yes assigns.No assigns.Mixed e = absurd (cc e)
either_yes assigns.No assigns.Refused e = absurd (cc e)
either_yes assigns.Mixed assigns.Yes e = absurd (cc e)
either_yes assigns.Mixed assigns.No e = absurd (cc e)
either_yes assigns.Mixed assigns.Mixed e = absurd (cc e)
either_yes assigns.Mixed assigns.Refused e = absurd (cc e)
either_yes assigns.Refused assigns.Yes e = absurd (cc e)
either_yes assigns.Refused assigns.No e = absurd (cc e)
either_yes assigns.Refused assigns.Mixed e = absurd (cc e)
either_yes assigns.Refused assigns.Refused e = absurd (cc e)

either_fits : (x y : Assignable) → IsFit x → IsFit y → IsFit (either_assignable x y)
either_fits assigns.Yes assigns.Yes a b = λ e. absurd (cc e)
either_fits assigns.Yes assigns.No a b = λ e. absurd (cc e)
either_fits assigns.Yes assigns.Mixed a b = λ e. absurd (cc e)
either_fits assigns.Yes assigns.Refused a b = λ e. b refl
either_fits assigns.No assigns.Yes a b = λ e. absurd (cc e)
either_fits assigns.No assigns.No a b = λ e. absurd (cc e)
either_fits assigns.No assigns.Mixed a b = λ e. absurd (cc e)
either_fits assigns.No assigns.Refused a b = λ e. b refl
either_fits assigns.Mixed assigns.Yes a b = λ e. absurd (cc e)
either_fits assigns.Mixed assigns.No a b = λ e. absurd (cc e)
either_fits assigns.Mixed assigns.Mixed a b = λ e. absurd (cc e)
either_fits assigns.Mixed assigns.Refused a b = λ e. b refl
either_fits assigns.Refused assigns.Yes a b = λ e. a refl
either_fits assigns.Refused assigns.No a b = λ e. a refl
either_fits assigns.Refused assigns.Mixed a b = λ e. a refl
either_fits assigns.Refused assigns.Refused a b = λ e. a refl

either_parts : (x y : Assignable) → IsFit (either_assignable x y) → IsFit x × IsFit y
either_parts assigns.Yes assigns.Yes n = (λ e. absurd (cc e), λ e. absurd (cc e))
either_parts assigns.Yes assigns.No n = (λ e. absurd (cc e), λ e. absurd (cc e))
either_parts assigns.Yes assigns.Mixed n = (λ e. absurd (cc e), λ e. absurd (cc e))
either_parts assigns.Yes assigns.Refused n = absurd (n refl)
either_parts assigns.No assigns.Yes n = (λ e. absurd (cc e), λ e. absurd (cc e))
either_parts assigns.No assigns.No n = (λ e. absurd (cc e), λ e. absurd (cc e))
either_parts assigns.No assigns.Mixed n = (λ e. absurd (cc e), λ e. absurd (cc e))
either_parts assigns.No assigns.Refused n = absurd (n refl)
either_parts assigns.Mixed assigns.Yes n = (λ e. absurd (cc e), λ e. absurd (cc e))
either_parts assigns.Mixed assigns.No n = (λ e. absurd (cc e), λ e. absurd (cc e))
either_parts assigns.Mixed assigns.Mixed n = (λ e. absurd (cc e), λ e. absurd (cc e))
either_parts assigns.Mixed assigns.Refused n = absurd (n refl)
either_parts assigns.Refused assigns.Yes n = absurd (n refl)
either_parts assigns.Refused assigns.No n = absurd (n refl)
either_parts assigns.Refused assigns.Mixed n = absurd (n refl)
either_parts assigns.Refused assigns.Refused n = absurd (n refl)

-- ---- resources

resource_some : (x : ResourceTree) → is_no_word (Some x) ≡ false → IsKnown (resource_assignable (Some x))
resource_some (trees.Register word shape n None) e = (_, refl, λ f. absurd (cc f))
resource_some (trees.Clocked word shape n) e = (_, refl, λ f. absurd (cc f))
resource_some (trees.Pin shape n) e = (_, refl, λ f. absurd (cc f))
resource_some (trees.Register word shape n (Some depth)) e = absurd (cc e)
resource_some (trees.Memory word shape n depth) e = absurd (cc e)
resource_some (trees.Pipeline n stages) e = absurd (cc e)
resource_some (trees.Fields pipe fields) e = absurd (cc e)

resource_one : (r : Option ResourceTree) → IsOne (resource_assignable r)
resource_one None e = absurd (cc e)
resource_one (Some (trees.Register word shape n None)) e = absurd (cc e)
resource_one (Some (trees.Clocked word shape n)) e = absurd (cc e)
resource_one (Some (trees.Pin shape n)) e = absurd (cc e)
resource_one (Some (trees.Register word shape n (Some depth))) e = absurd (cc e)
resource_one (Some (trees.Memory word shape n depth)) e = absurd (cc e)
resource_one (Some (trees.Pipeline n stages)) e = absurd (cc e)
resource_one (Some (trees.Fields pipe fields)) e = absurd (cc e)

resource_yes : (r : Option ResourceTree) → resource_assignable r ≡ Some assigns.Yes → is_scalar r ≡ true
resource_yes None e = absurd (cc e)
resource_yes (Some (trees.Register word shape n None)) e = refl
resource_yes (Some (trees.Clocked word shape n)) e = refl
resource_yes (Some (trees.Pin shape n)) e = absurd (cc e)
resource_yes (Some (trees.Register word shape n (Some depth))) e = absurd (cc e)
resource_yes (Some (trees.Memory word shape n depth)) e = absurd (cc e)
resource_yes (Some (trees.Pipeline n stages)) e = absurd (cc e)
resource_yes (Some (trees.Fields pipe fields)) e = absurd (cc e)

array_some : (x : ResourceTree) → is_no_array (Some x) ≡ false → IsKnown (array_assignable (element_shape (Some x)))
array_some (trees.Register word shape n (Some depth)) e = (_, refl, λ f. absurd (cc f))
array_some (trees.Memory word shape n depth) e = (_, refl, λ f. absurd (cc f))
array_some (trees.Register word shape n None) e = absurd (cc e)
array_some (trees.Clocked word shape n) e = absurd (cc e)
array_some (trees.Pin shape n) e = absurd (cc e)
array_some (trees.Pipeline n stages) e = absurd (cc e)
array_some (trees.Fields pipe fields) e = absurd (cc e)

array_one : (r : Option Shape) → IsOne (array_assignable r)
array_one None e = absurd (cc e)
array_one (Some s) e = absurd (cc e)

settled_some : (r : Option Assignable) → IsKnown r → IsOne r → IsKnown (settled_assignable r)
settled_some None k one = absurd (cc k.1)
settled_some (Some assigns.Yes) k one = k
settled_some (Some assigns.No) k one = k
settled_some (Some assigns.Mixed) k one = absurd (one refl)
settled_some (Some assigns.Refused) k one = k

settled_one : (r : Option Assignable) → IsOne (settled_assignable r)
settled_one None e = absurd (cc e)
settled_one (Some assigns.Yes) e = absurd (cc e)
settled_one (Some assigns.No) e = absurd (cc e)
settled_one (Some assigns.Mixed) e = absurd (cc e)
settled_one (Some assigns.Refused) e = absurd (cc e)

settled_yes : (r : Option Assignable) → settled_assignable r ≡ Some assigns.Yes → r ≡ Some assigns.Yes
settled_yes None e = absurd (cc e)
settled_yes (Some assigns.Yes) e = refl
settled_yes (Some assigns.No) e = absurd (cc e)
settled_yes (Some assigns.Mixed) e = absurd (cc e)
settled_yes (Some assigns.Refused) e = absurd (cc e)

yes_of : (r : Option Assignable) → IsKnown r → (r ≡ Some assigns.No → ⊥) → IsOne r → r ≡ Some assigns.Yes
yes_of None k off one = absurd (cc k.1)
yes_of (Some assigns.Yes) k off one = refl
yes_of (Some assigns.No) k off one = absurd (off refl)
yes_of (Some assigns.Mixed) k off one = absurd (one refl)
yes_of (Some assigns.Refused) k off one = absurd (good_keeps IsFit _ k assigns.Refused refl refl)

unless_one : (refused : Bool) (r : Option Assignable) → IsOne r → IsOne (cond refused (Some assigns.Refused) r)
unless_one true r one = λ e. absurd (cc e)
unless_one false r one = one

unless_yes : (refused : Bool) (r : Option Assignable) → cond refused (Some assigns.Refused) r ≡ Some assigns.Yes → r ≡ Some assigns.Yes
unless_yes true r e = absurd (cc e)
unless_yes false r e = e

closed_one : (some_open : Bool) (r : Option Assignable) → IsOne r → IsOne (cond some_open None r)
closed_one true r one = λ e. absurd (cc e)
closed_one false r one = one

closed_yes : (some_open : Bool) (r : Option Assignable) → cond some_open None r ≡ Some assigns.Yes → r ≡ Some assigns.Yes
closed_yes true r e = absurd (cc e)
closed_yes false r e = e

-- ---- two are the same or differ

either_same : (x : Assignable) → either_assignable x x ≡ x
either_same assigns.Yes = refl
either_same assigns.No = refl
either_same assigns.Mixed = refl
either_same assigns.Refused = refl

decides : (x y : Assignable) → (x ≡ y) ⊎ (x ≢ y)
decides assigns.Yes assigns.Yes = inl refl
decides assigns.Yes assigns.No = inr (λ e. absurd (cc e))
decides assigns.Yes assigns.Mixed = inr (λ e. absurd (cc e))
decides assigns.Yes assigns.Refused = inr (λ e. absurd (cc e))
decides assigns.No assigns.Yes = inr (λ e. absurd (cc e))
decides assigns.No assigns.No = inl refl
decides assigns.No assigns.Mixed = inr (λ e. absurd (cc e))
decides assigns.No assigns.Refused = inr (λ e. absurd (cc e))
decides assigns.Mixed assigns.Yes = inr (λ e. absurd (cc e))
decides assigns.Mixed assigns.No = inr (λ e. absurd (cc e))
decides assigns.Mixed assigns.Mixed = inl refl
decides assigns.Mixed assigns.Refused = inr (λ e. absurd (cc e))
decides assigns.Refused assigns.Yes = inr (λ e. absurd (cc e))
decides assigns.Refused assigns.No = inr (λ e. absurd (cc e))
decides assigns.Refused assigns.Mixed = inr (λ e. absurd (cc e))
decides assigns.Refused assigns.Refused = inl refl

module _ (d : DescriptionTree) (known : Known) (kinds : AreKinds d known) (names : IsFree (duplicate d) d) (stand : IsFree (unknown d) d) (uses_free : IsFree (wrong_kind known d) d) where
  abbrev kept_apart : ℕ → Bool
  kept_apart = apart known.traits

  abbrev no_value : ℕ → Bool
  no_value = unfit known.traits known.typeless

  abbrev fact : Fact Assignable
  fact = assignable_fact d kept_apart no_value

  abbrev steady : IsSteady fact
  steady = assignables_steady d kept_apart no_value

  operation_value : (o : ℕ) → o < length d.operations → known.assignables o ≡ expression_assignable kept_apart no_value known.assignables d o (expression_in (sections_at d o))
  operation_value o h = operation_is d known names stand uses_free fact steady known.assignables kinds.assignables o h

  choice_value : (c : ℕ) → c < length (choices d) → known.assignables (choice_node d c) ≡ assignable_of_choice d known.assignables (plain_at d c)
  choice_value c h = choice_is d known names stand uses_free fact steady known.assignables kinds.assignables c h

  entry_value_is : (i : ℕ) (e : Entry) → slice_get (entries d) i ≡ Some e → known.assignables (entry_node d i) ≡ entry_value d fact known.assignables i (Some e.what)
  entry_value_is i e is = entry_is d known names stand uses_free fact steady known.assignables kinds.assignables i e is

  same_child : (i : ℕ) (r : Option Assignable) → option_map (fact.of_child i) r ≡ r
  same_child i None = refl
  same_child i (Some t) = refl

  child_value : (i : ℕ) (e : Entry) → slice_get (entries d) i ≡ Some e → (c : ℕ) → (e.what ≡ whats.Group c) ⊎ (e.what ≡ whats.Instance c) → known.assignables (entry_node d i) ≡ known.assignables (choice_node d c)
  child_value i e is c which = child_is d known names stand uses_free fact steady known.assignables kinds.assignables i e is c which ∙ same_child i (known.assignables (choice_node d c))

  -- ---- no name means declarations that differ

  meant_one : (m : Meaning) → IsOne (meant_assignable known.assignables d m)
  meant_one meanings.Nothing = λ e. absurd (cc e)
  meant_one (meanings.Resource k) = resource_one (slice_get d.resources k)
  meant_one (meanings.Declared i) = settled_one (known.assignables (entry_node d i))

  value_one : (o : ℕ) (e : ExprTree) → IsOne (value_assignable known.assignables d o e)
  value_one o (exprs.Named n) = meant_one (meaning d o n)
  value_one o (exprs.Element n index) = array_one (meant_element d (meaning d o n))
  value_one o (exprs.Number v base) = λ e. absurd (cc e)
  value_one o (exprs.Input field) = λ e. absurd (cc e)
  value_one o (exprs.Output field) = λ e. absurd (cc e)
  value_one o (exprs.Boundary p b a f) = λ e. absurd (cc e)
  value_one o exprs.Decoded = λ e. absurd (cc e)
  value_one o (exprs.Cast shape a) = λ e. absurd (cc e)
  value_one o (exprs.Complement a) = λ e. absurd (cc e)
  value_one o (exprs.Negate a) = λ e. absurd (cc e)
  value_one o (exprs.Two op a b) = λ e. absurd (cc e)
  value_one o (exprs.Choose c a b) = λ e. absurd (cc e)

  expression_one : (o : ℕ) (e : Option ExprTree) → IsOne (expression_assignable kept_apart no_value known.assignables d o e)
  expression_one o None = λ e. absurd (cc e)
  expression_one o (Some x) = closed_one (is_open kept_apart known.assignables d o x) _ (unless_one (is_refused no_value d o x) (value_assignable known.assignables d o x) (value_one o x))

  operation_one : (o : ℕ) → o < length d.operations → IsOne (known.assignables o)
  operation_one o h = subst IsOne (sym (operation_value o h)) (expression_one o (expression_in (sections_at d o)))

  choice_is_one : (c : ℕ) → c < length (choices d) → IsOne (known.assignables (choice_node d c))
  choice_is_one c h =
      subst IsOne (sym (choice_value c h))
      (chosen_one (lacks_expression d (plain_at d c)) (any_open known.assignables (plain_at d c)) (known_together both_assignable known.assignables (plain_at d c))
      (together_one known.assignables (plain_at d c) (λ o e. operation_one o (alternatives_below d c o (plain_listed d c o e)))))

  declaration_one : (i : ℕ) (e : Entry) → slice_get (entries d) i ≡ Some e → refers e.what ≡ false → IsOne (known.assignables (entry_node d i))
  declaration_one i e is off = by e.what refl
    where
      child : (c : ℕ) → (e.what ≡ whats.Group c) ⊎ (e.what ≡ whats.Instance c) → IsOne (known.assignables (entry_node d i))
      child c which = let x = choice_there d known names stand uses_free i e is c which in subst IsOne (sym (child_value i e is c which)) (choice_is_one c (slice_get_within (choices d) c x.0 x.1))

      by : (w : What) → e.what ≡ w → IsOne (known.assignables (entry_node d i))
      by (whats.Group c) what = child c (inl what)
      by (whats.Instance c) what = child c (inr what)
      by whats.Label what = subst IsOne (sym (entry_value_is i e is ∙ ap (λ (x : What). entry_value d fact known.assignables i (Some x)) what)) (λ f. absurd (cc f))
      by whats.Reference what = absurd (cc (sym off ∙ ap refers what))

  meant_declared : {i j : ℕ} → MayMean d i j → IsOne (known.assignables (entry_node d j))
  meant_declared {j = j} m = let e = meant_entry d m in declaration_one j e.0 e.1 e.2

  -- declarations that aren't the same differ in assigning
  apart_so : (i : ℕ) → Apart d known.assignables IsFit i → DifferInAssigning d known.assignables i
  apart_so i x = by x.value_of_one x.value_of_other refl refl
    where
      by : (u v : Assignable) → x.value_of_one ≡ u → x.value_of_other ≡ v → DifferInAssigning d known.assignables i
      by assigns.Yes assigns.No e f = (
        (x.one, (x.means_one, x.is_one ∙ ap (λ (t : Assignable). Some t) e)),
        (x.other, (x.means_other, x.is_other ∙ ap (λ (t : Assignable). Some t) f)),
      )
      by assigns.No assigns.Yes e f = (
        (x.other, (x.means_other, x.is_other ∙ ap (λ (t : Assignable). Some t) f)),
        (x.one, (x.means_one, x.is_one ∙ ap (λ (t : Assignable). Some t) e)),
      )
      by assigns.Yes assigns.Yes e f = absurd (x.differ (e ∙ sym f))
      by assigns.No assigns.No e f = absurd (x.differ (e ∙ sym f))
      by assigns.Refused v e f = absurd (x.good_one e)
      by assigns.Yes assigns.Refused e f = absurd (x.good_other f)
      by assigns.No assigns.Refused e f = absurd (x.good_other f)
      by assigns.Mixed v e f = absurd (meant_declared x.means_one (x.is_one ∙ ap (λ (t : Assignable). Some t) e))
      by assigns.Yes assigns.Mixed e f = absurd (meant_declared x.means_other (x.is_other ∙ ap (λ (t : Assignable). Some t) f))
      by assigns.No assigns.Mixed e f = absurd (meant_declared x.means_other (x.is_other ∙ ap (λ (t : Assignable). Some t) f))

  entry_one : (i : ℕ) (e : Entry) → slice_get (entries d) i ≡ Some e → IsOne (known.assignables (entry_node d i))
  entry_one i e is = by (refers e.what) refl
    where
      reference : (w : What) → refers w ≡ true → w ≡ whats.Reference
      reference whats.Reference on = refl
      reference (whats.Group c) on = absurd (cc on)
      reference (whats.Instance c) on = absurd (cc on)
      reference whats.Label on = absurd (cc on)

      by : (b : Bool) → refers e.what ≡ b → IsOne (known.assignables (entry_node d i))
      by false off = declaration_one i e is off
      by true on = λ mixed.
          (let b : what_misdeclared known d i (Some whats.Reference) ≡ false = ap (λ (x : What). what_misdeclared known d i (Some x)) (sym (reference e.what on)) ∙ rightly_declared d known names uses_free i e is in
          let off : known.assignables_differ i ≡ false = off_right (known.types_differ i) (known.assignables_differ i) (off_right (sorts_differ (known.traits i)) _ b) in
          ⊎_elim
          (λ some. meant_declared some.1.0 some.1.1)
          (λ x. absurd (cc (sym off ∙ (kinds.assignables_differ i).1 (ap is_some mixed, apart_so i x))))
          (agrees d known.assignables IsFit fact kinds.assignables either_same decides either_parts i assigns.Mixed mixed (λ h. absurd (cc h))))

  -- ---- each expression either may be assigned or may not

  resource_there : (n : List ℕ) (k : ℕ) → resource_at d n ≡ Some k → (x : ResourceTree) × (slice_get d.resources k ≡ Some x)
  resource_there n k e = let p = position_there (is_named n) d.resources k e in (p.0, p.1)

  module _ (o : ℕ) (ready : (n : List ℕ) (i : ℕ) → declared_at d o n ≡ Some i → IsKnown (known.assignables (entry_node d i))) where
    name_some : (n : List ℕ) → is_something (meaning d o n) ≡ true → meant_misread known d (meaning d o n) ≡ false → IsKnown (meant_assignable known.assignables d (meaning d o n))
    name_some n some right = by (declared_at d o n) (resource_at d n) refl refl some right
      where
        by : (x y : Option ℕ) → declared_at d o n ≡ x → resource_at d n ≡ y → is_something (meaning_of x y) ≡ true → meant_misread known d (meaning_of x y) ≡ false → IsKnown (meant_assignable known.assignables d (meaning_of x y))
        by (Some i) y at there s r = let f = found d o n i at in settled_some (known.assignables (entry_node d i)) (ready n i at) (entry_one i f.e f.at)
        by None (Some k) at there s r = let x = resource_there n k there in subst (λ (z : Option ResourceTree). IsKnown (resource_assignable z)) (sym x.1) (resource_some x.0 (ap is_no_word (sym x.1) ∙ r))
        by None None at there s r = absurd (cc s)

    element_some : (n : List ℕ) → is_something (meaning d o n) ≡ true → meant_misindexed known d (meaning d o n) ≡ false → IsKnown (array_assignable (meant_element d (meaning d o n)))
    element_some n some right = by (declared_at d o n) (resource_at d n) refl some right
      where
        by : (x y : Option ℕ) → resource_at d n ≡ y → is_something (meaning_of x y) ≡ true → meant_misindexed known d (meaning_of x y) ≡ false → IsKnown (array_assignable (meant_element d (meaning_of x y)))
        by (Some i) y there s r = absurd (cc r)
        by None (Some k) there s r = let x = resource_there n k there in subst (λ (z : Option ResourceTree). IsKnown (array_assignable (element_shape z))) (sym x.1) (array_some x.0 (ap is_no_array (sym x.1) ∙ r))
        by None None there s r = absurd (cc s)

    value_some : (e : ExprTree) → AllStand d (uses o regions.Expression [] e) → IsKnown (value_assignable known.assignables d o e)
    value_some (exprs.Named n) s =
        let here = s (at o regions.Expression [] (places.Reads n)) (inl refl) in
        name_some n (is_found (name_at d o) (is_known d o [] n) n (free_place (unknown d) d stand _ here)) (is_right (name_at d o) (is_misread known d o n None) n (free_place (wrong_kind known d) d uses_free _ here))
    value_some (exprs.Element n index) s =
        let here = s (at o regions.Expression [] (places.ReadsElement n)) (inl refl) in
        element_some n (is_found (name_at d o) (is_known d o [] n) n (free_place (unknown d) d stand _ here)) (is_right (name_at d o) (is_misindexed known d o n None) n (free_place (wrong_kind known d) d uses_free _ here))
    value_some (exprs.Number v base) s = (assigns.No, refl, λ f. absurd (cc f))
    value_some (exprs.Input field) s = (assigns.No, refl, λ f. absurd (cc f))
    value_some (exprs.Output field) s = (assigns.No, refl, λ f. absurd (cc f))
    value_some (exprs.Boundary p b a f) s = (assigns.No, refl, λ f. absurd (cc f))
    value_some exprs.Decoded s = (assigns.No, refl, λ f. absurd (cc f))
    value_some (exprs.Cast shape a) s = (assigns.No, refl, λ f. absurd (cc f))
    value_some (exprs.Complement a) s = (assigns.No, refl, λ f. absurd (cc f))
    value_some (exprs.Negate a) s = (assigns.No, refl, λ f. absurd (cc f))
    value_some (exprs.Two op a b) s = (assigns.No, refl, λ f. absurd (cc f))
    value_some (exprs.Choose c a b) s = (assigns.No, refl, λ f. absurd (cc f))

    -- no name in it is open
    closed : (e : ExprTree) → is_open kept_apart known.assignables d o e ≡ false
    closed (exprs.Named n) = by (declared_at d o n) (resource_at d n) refl
      where
        closes : (set_apart : Bool) (r : Option Assignable) → IsKnown r → (not set_apart && is_none r) ≡ false
        closes true r k = refl
        closes false None k = absurd (cc k.1)
        closes false (Some t) k = refl

        by : (x y : Option ℕ) → declared_at d o n ≡ x → meant_open kept_apart known.assignables d (meaning_of x y) ≡ false
        by (Some i) y at = closes (apart known.traits i) (known.assignables (entry_node d i)) (ready n i at)
        by None (Some k) at = refl
        by None None at = refl
    closed (exprs.Number v base) = refl
    closed (exprs.Element n index) = refl
    closed (exprs.Input field) = refl
    closed (exprs.Output field) = refl
    closed (exprs.Boundary pipe before after field) = refl
    closed exprs.Decoded = refl
    closed (exprs.Cast shape a) = refl
    closed (exprs.Complement a) = refl
    closed (exprs.Negate a) = refl
    closed (exprs.Two operator a b) = refl
    closed (exprs.Choose c a b) = refl

    operation_some : o < length d.operations → IsKnown (known.assignables o)
    operation_some h = subst IsKnown (sym (operation_value o h)) (by (expression_in (sections_at d o)) refl)
      where
        by : (r : Option ExprTree) → expression_in (sections_at d o) ≡ r → IsKnown (expression_assignable kept_apart no_value known.assignables d o r)
        by None is = (assigns.No, refl, λ f. absurd (cc f))
        by (Some e) is =
            let fits = use_fits d known uses_free no_value (λ i f. f) o e (expression_stand d o e is) in
            let stands = unless (is_refused no_value d o e) (Some assigns.Refused) (value_assignable known.assignables d o e) fits in
            subst IsKnown (sym (unless (is_open kept_apart known.assignables d o e) None _ (closed e) ∙ stands)) (value_some e (expression_stand d o e is))

  choice_some : (c : ℕ) → 0 < length (plain_at d c) → ((o : ℕ) → is_in o (plain_at d c) ≡ true → IsKnown (known.assignables o)) → IsKnown (fact.of_choice known.assignables c)
  choice_some c some each =
      subst (λ (b : Bool). IsKnown (choice_assignable (lacks_expression d (plain_at d c)) b (known_together both_assignable known.assignables (plain_at d c)))) (sym (none_open known.assignables (plain_at d c) (λ o h. good_some IsFit _ (each o h))))
      (chosen_known (lacks_expression d (plain_at d c)) (known_together both_assignable known.assignables (plain_at d c)) (together_good IsFit both_assignable both_fits known.assignables (plain_at d c) some each))

  -- ---- what is assigned

  pub written : (ranks : Ranks d) (o : ℕ) (region : Region) (scope : Scope) (n : List ℕ) → Stands d (at o region scope (places.Writes n)) → local_named n scope ≡ None → (i : ℕ) → declared_at d o n ≡ Some i → known.assignables (entry_node d i) ≡ Some assigns.Yes
  written ranks o region scope n s no_local i at =
      let e : is_miswritten known d o n (local_named n scope) ≡ false = is_right (owner_name d o region) (is_miswritten known d o n (local_named n scope)) n (free_place (wrong_kind known d) d uses_free _ s) in
      let f : meant_miswritten known d (meaning d o n) ≡ false = ap (is_miswritten known d o n) (sym no_local) ∙ e in
      let g : meant_miswritten known d (meanings.Declared i) ≡ false = ap (λ (r : Option ℕ). meant_miswritten known d (meaning_of r (resource_at d n))) (sym at) ∙ f in
      let off : known.unassignable i ≡ false = off_right (is_apart (known.traits i)) (known.unassignable i) (off_right (known.typeless i) _ g) in
      let x = found d o n i at in
      yes_of (known.assignables (entry_node d i))
      (all_settled d known names stand uses_free fact steady known.assignables kinds.assignables IsFit (λ i. λ f. absurd (cc f)) (λ i t k. k) either_fits operation_some choice_some ranks o n i at)
      (λ denied. ⊎_elim
      (λ some. absurd (cc (sym off ∙ (kinds.unassignable i).1 (ap is_some denied, some))))
      (λ y. absurd (cc (sym off ∙ (kinds.unassignable i).1 (ap is_some denied, (apart_so i y).1))))
      (agrees d known.assignables IsFit fact kinds.assignables either_same decides either_parts i assigns.No denied (λ h. absurd (cc h))))
      (entry_one i x.e x.at)

  pub child_yes : (i c : ℕ) → (what_at d i ≡ Some (whats.Group c)) ⊎ (what_at d i ≡ Some (whats.Instance c)) → known.assignables (entry_node d i) ≡ Some assigns.Yes → (o : ℕ) → is_in o (plain_at d c) ≡ true → known.assignables o ≡ Some assigns.Yes
  child_yes i c which assigned = by (slice_get (entries d) i) refl
    where
      same_what : (e : Entry) → slice_get (entries d) i ≡ Some e → (w : What) → what_at d i ≡ Some w → e.what ≡ w
      same_what e at w is = of_some (sym (what_is d i e at) ∙ is)
        where
          of_some : Some e.what ≡ Some w → e.what ≡ w
          of_some f = cc f

      by : (r : Option Entry) → slice_get (entries d) i ≡ r → (o : ℕ) → is_in o (plain_at d c) ≡ true → known.assignables o ≡ Some assigns.Yes
      by None at = ⊎_elim (λ w. absurd (cc (at, w))) (λ w. absurd (cc (at, w))) which
      by (Some e) at =
          let w : (e.what ≡ whats.Group c) ⊎ (e.what ≡ whats.Instance c) = ⊎_elim (λ f. inl (same_what e at (whats.Group c) f)) (λ f. inr (same_what e at (whats.Instance c) f)) which in
          let x = choice_there d known names stand uses_free i e at c w in
          let p = chosen_yes (lacks_expression d (plain_at d c)) (any_open known.assignables (plain_at d c)) (known_together both_assignable known.assignables (plain_at d c))
          (sym (choice_value c (slice_get_within (choices d) c x.0 x.1)) ∙ sym (child_value i e at c w) ∙ assigned) in
          known_only both_assignable assigns.Yes both_yes known.assignables (plain_at d c) (closed_known known.assignables (plain_at d c) p.0) p.1

  pub reference_yes : (i : ℕ) (e : Entry) → slice_get (entries d) i ≡ Some e → e.what ≡ whats.Reference → known.assignables (entry_node d i) ≡ Some assigns.Yes
      → (p : ℕ) → is_in p (above d e.operation) ≡ true → (j : ℕ) × (declared_at d p e.name ≡ Some j) × (known.assignables (entry_node d j) ≡ Some assigns.Yes)
  reference_yes i e is what assigned p h =
      let value : merged either_assignable (declared_value d known.assignables e.name) (above d e.operation) ≡ Some assigns.Yes
      = sym (reference_is d known names stand uses_free fact steady known.assignables kinds.assignables i e is what) ∙ assigned in
      by (declared_at d p e.name) refl (merged_only either_assignable assigns.Yes either_yes (declared_value d known.assignables e.name) (above d e.operation) value p h)
    where
      by : (r : Option ℕ) → declared_at d p e.name ≡ r → value_at d known.assignables r ≡ Some assigns.Yes → (j : ℕ) × (declared_at d p e.name ≡ Some j) × (known.assignables (entry_node d j) ≡ Some assigns.Yes)
      by None at f = absurd (cc f)
      by (Some j) at f = (j, at, f)

  -- ---- expressions that may be assigned

  named_place : (o : ℕ) (n : List ℕ) → meant_assignable known.assignables d (meaning d o n) ≡ Some assigns.Yes → IsPlace known.assignables d o (exprs.Named n)
  named_place o n assigned = by (declared_at d o n) (resource_at d n) refl refl assigned
    where
      by : (x y : Option ℕ) → declared_at d o n ≡ x → resource_at d n ≡ y → meant_assignable known.assignables d (meaning_of x y) ≡ Some assigns.Yes → IsPlace known.assignables d o (exprs.Named n)
      by (Some i) y at there e = declared n i at (settled_yes (known.assignables (entry_node d i)) e)
      by None (Some k) at there e = register n k at there (resource_yes (slice_get d.resources k) e)
      by None None at there e = absurd (cc e)

  place_of : (o : ℕ) (e : ExprTree) → value_assignable known.assignables d o e ≡ Some assigns.Yes → IsPlace known.assignables d o e
  place_of o (exprs.Named n) assigned = named_place o n assigned
  place_of o (exprs.Element n index) assigned = element n index
  place_of o (exprs.Number v base) assigned = absurd (cc assigned)
  place_of o (exprs.Input field) assigned = absurd (cc assigned)
  place_of o (exprs.Output field) assigned = absurd (cc assigned)
  place_of o (exprs.Boundary p b a f) assigned = absurd (cc assigned)
  place_of o exprs.Decoded assigned = absurd (cc assigned)
  place_of o (exprs.Cast shape a) assigned = absurd (cc assigned)
  place_of o (exprs.Complement a) assigned = absurd (cc assigned)
  place_of o (exprs.Negate a) assigned = absurd (cc assigned)
  place_of o (exprs.Two op a b) assigned = absurd (cc assigned)
  place_of o (exprs.Choose c a b) assigned = absurd (cc assigned)

  pub operation_yes : (o : ℕ) → o < length d.operations → known.assignables o ≡ Some assigns.Yes → (e : ExprTree) × (expression_in (sections_at d o) ≡ Some e) × IsPlace known.assignables d o e
  operation_yes o h assigned = by (expression_in (sections_at d o)) refl (sym (operation_value o h) ∙ assigned)
    where
      by : (r : Option ExprTree) → expression_in (sections_at d o) ≡ r → expression_assignable kept_apart no_value known.assignables d o r ≡ Some assigns.Yes → (e : ExprTree) × (expression_in (sections_at d o) ≡ Some e) × IsPlace known.assignables d o e
      by None is e = absurd (cc e)
      by (Some e) is y = (e, is, place_of o e (unless_yes (is_refused no_value d o e) (value_assignable known.assignables d o e) (closed_yes (is_open kept_apart known.assignables d o e) _ y)))
