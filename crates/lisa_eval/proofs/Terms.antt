-- Resolved expressions have the values that are meant.
use Rattle.std.proofs.Common.{◌≡◌, ◌%◌, ◌-◌, ◌∙◌, ℕ, Bool, not, List, [], Option, None, Some, IfSome, get_or, refl, sym, ap, subst}
use Rattle.std.specs.Prelude.{slice_get, option_map}
use Rattle.std.specs.Map.{lookup}
use Rattle.lisa_words.specs.declared.binary.Operator.{Operator}
use Rattle.lisa_tree.specs.declared.tokens.Shape.{Shape}
use Rattle.lisa_tree.specs.Expressions as exprs
use Rattle.lisa_tree.specs.Expressions.{ExprTree}
use Rattle.lisa_tree.specs.Descriptions as trees
use Rattle.lisa_tree.specs.Descriptions.{ResourceTree, DescriptionTree}
use Rattle.lisa_tree.specs.declared.declared.Meaning.{Meaning}
use Rattle.lisa_tree.specs.declared.declared.Meaning.TheVariants as meanings
use Rattle.lisa_tree.specs.Same.{same_name}
use Rattle.lisa_tree.specs.Resources.{stage_at}
use Rattle.lisa_tree.specs.Operations.{own_stage}
use Rattle.lisa_tree.specs.Meanings.{meaning}
use Rattle.description_places.specs.Literals as plain
use Rattle.description_places.specs.Scopes.{Scope}
use Rattle.lisa_machine.specs.Verdicts.{IsAccepted}
use Rattle.typed_values.specs.Words.{TypedWord, as_shape, truth, is_zero}
use Rattle.typed_values.specs.Operators.{operand, chosen}
use Rattle.typed_values.specs.Expressions.{made_of, complement}
use Rattle.typed_values.specs.Effects.{whole_of}
use Rattle.typed_values.specs.ResetEffects.{local_or}
use Rattle.description_sizes.specs.Texts.{levels}
use Rattle.lisa_meaning.specs.Scenes.{Scene, at_path, running}
use Rattle.lisa_meaning.specs.Moments.{Moment, bare, field_at}
use Rattle.lisa_meaning.specs.Values.{Below, Array, resource_value, named_array, element_value, field_place, shape_at, shaped_field, boundary_value, stage_before, meant_value, value_within, value_of}
use Rattle.behavior_plans.specs.Holdings.{Holdings}
use Rattle.behavior_plans.specs.Terms as terms
use Rattle.behavior_plans.specs.Terms.{TermTree}
use Rattle.behavior_plans.specs.Values.{literal, shaped_word, wrapped, term_value}
use Rattle.lisa_eval.specs.Resolving.{local_slot, resource_term, meant_term, local_term, element_term, field_term, boundary_term, two_terms, choice_term, resolved_term}
use Rattle.lisa_eval.specs.Holding.{register_shape, pin_shape, Holds}
use Rattle.lisa_eval.specs.Laws.{IsMeant, TermsAreMeant}
use Rattle.lisa_eval.proofs.Wrapping.{wraps}
use Rattle.lisa_eval.proofs.Widths.{shaped_is, shape_fits, array_fits, array_number}
use Rattle.lisa_eval.proofs.Slots.{IsSlotOf, slot_has}

-- a term with this value, and a literal where the expression is this one
abbrev Has : Holdings → Option ℕ → TypedWord → TermTree → Type 0
Has h number v t = (literal t ≡ number) × (term_value h t ≡ v)

module _ (d : DescriptionTree) (accepted : IsAccepted d) (scene : Scene) (m : Moment) (scope : Scope) (h : Holdings) (holds : Holds d scene m scope h) where
  abbrev Meant : ExprTree → Option TermTree → Type 0
  Meant e t = IfSome t (Has h (plain.literal e) (value_of d scene m e))

  -- ---- names

  resource_meant : (k : ℕ) (r : Option ResourceTree) → slice_get d.resources k ≡ r → IfSome (resource_term d k r) (Has h None (resource_value d m k r))
  resource_meant k None e = tt
  resource_meant k (Some (trees.Register word shape name None)) e = (refl, holds.registers k shape (ap register_shape e))
  resource_meant k (Some (trees.Register word shape name (Some depth))) e = tt
  resource_meant k (Some (trees.Clocked word shape name)) e = (refl, holds.kept k shape (ap register_shape e))
  resource_meant k (Some (trees.Memory word shape name depth)) e = tt
  resource_meant k (Some (trees.Pin shape name)) e = (refl, holds.pins k shape (ap pin_shape e))
  resource_meant k (Some (trees.Pipeline name stages)) e = tt
  resource_meant k (Some (trees.Fields pipe fields)) e = tt

  name_meant : (n : List ℕ) → Meant (exprs.Named n) (resolved_term d (running scene) scope (exprs.Named n))
  name_meant n = by (local_slot n scope) (meaning d (running scene) n) refl (slot_has n scope m.locals h.slots holds.locals)
    where
      v : TypedWord
      v = value_of d scene m (exprs.Named n)

      below : Below
      below = λ path e. value_within (levels d) d (at_path scene path) (bare m) e

      other : TypedWord
      other = meant_value below d scene m n (meaning d (running scene) n)

      by : (slot : Option ℕ) (is : Meaning) → meaning d (running scene) n ≡ is → IsSlotOf h.slots (lookup (same_name n) m.locals) slot → IfSome (local_term slot (meant_term d is)) (Has h None v)
      by (Some s) is e found = (refl, sym (ap (λ (o : Option TypedWord). local_or o other) found))
      by None meanings.Nothing e found = tt
      by None (meanings.Resource k) e found =
          let same : v ≡ resource_value d m k (slice_get d.resources k) = ap (λ (o : Option TypedWord). local_or o other) found ∙ ap (λ (x : Meaning). meant_value below d scene m n x) e in
          subst (λ (w : TypedWord). IfSome (resource_term d k (slice_get d.resources k)) (Has h None w)) (sym same) (resource_meant k (slice_get d.resources k) refl)
      by None (meanings.Declared i) e found = tt

  -- ---- elements and fields

  element_meant : (n : List ℕ) (a : Option Array) (index : ExprTree) (t : Option TermTree) → named_array d (running scene) n ≡ a → Meant index t
      → IfSome (element_term a t) (Has h None (element_value m (value_of d scene m index).bits a))
  element_meant n None index t is meant = tt
  element_meant n (Some a) index None is meant = tt
  element_meant n (Some a) index (Some t) is meant =
      let there = array_number d a (meaning d (running scene) n) is in
      let good = array_fits d accepted there.0 a there.1 in
      let bits : ℕ = (value_of d scene m index).bits in
      let row : List ℕ = get_or m.memory.cells a.place [] in (
        refl,
        ap (λ (cells : List (List ℕ)). shaped_word a.shape (get_or (get_or cells a.place []) (wrapped (a.depth - 1) (term_value h t).bits) 0)) holds.cells
            ∙ ap (λ (v : TypedWord). shaped_word a.shape (get_or row (wrapped (a.depth - 1) v.bits) 0)) meant.1
            ∙ ap (λ (i : ℕ). shaped_word a.shape (get_or row i 0)) (wraps bits a.depth good.1.0)
            ∙ shaped_is a.shape (get_or row (bits % a.depth) 0) good.0 (holds.cells_fit there.0 a (bits % a.depth) there.1),
      )

  field_meant : (s f : ℕ) (shape : Option Shape) → shape_at d f ≡ shape → IfSome (field_term d s f shape) (Has h None (shaped_field shape (field_at m.memory.fields s f)))
  field_meant s f None is = tt
  field_meant s f (Some shape) is =
      (refl, ap (λ (bits : ℕ). shaped_word shape bits) (holds.fields s f shape is) ∙ shaped_is shape (field_at m.memory.fields s f) (shape_fits d accepted f shape is) (holds.fields_fit s f shape is))

  boundary_meant : (s f : Option ℕ) → IfSome (boundary_term d s f) (Has h None (boundary_value d m s f))
  boundary_meant None f = tt
  boundary_meant (Some s) None = tt
  boundary_meant (Some s) (Some f) = field_meant s f (shape_at d f) refl

  -- ---- what is made of others

  one_meant : (make : TermTree → TermTree) (of : TypedWord → TypedWord) (a : ExprTree) (t : Option TermTree) → ((x : TermTree) → literal (make x) ≡ None) → ((x : TermTree) → term_value h (make x) ≡ of (term_value h x))
      → Meant a t → IfSome (option_map make t) (Has h None (of (value_of d scene m a)))
  one_meant make of a None plainly made meant = tt
  one_meant make of a (Some t) plainly made meant = (plainly t, made t ∙ ap of meant.1)

  two_meant : (operator : Operator) (a b : ExprTree) (t u : Option TermTree) → Meant a t → Meant b u
      → IfSome (two_terms (λ (x y : TermTree). terms.Two operator x y) t u) (Has h None (value_of d scene m (exprs.Two operator a b)))
  two_meant operator a b None u x y = tt
  two_meant operator a b (Some t) None x y = tt
  two_meant operator a b (Some t) (Some u) x y = (
    refl,
    ap (λ (l : Option ℕ). made_of operator l (literal u) (term_value h t) (term_value h u)) x.0
        ∙ ap (λ (r : Option ℕ). made_of operator (plain.literal a) r (term_value h t) (term_value h u)) y.0
        ∙ ap (λ (v : TypedWord). made_of operator (plain.literal a) (plain.literal b) v (term_value h u)) x.1
        ∙ ap (λ (w : TypedWord). made_of operator (plain.literal a) (plain.literal b) (value_of d scene m a) w) y.1,
  )

  -- the chosen one of two, widened as beside the other
  abbrev choice : TypedWord → Option ℕ → Option ℕ → TypedWord → TypedWord → TypedWord
  choice c l r v w = chosen (not (is_zero c)) (operand l r v w) (operand r l w v)

  choice_meant : (c a b : ExprTree) (s t u : Option TermTree) → Meant c s → Meant a t → Meant b u → IfSome (choice_term s t u) (Has h None (value_of d scene m (exprs.Choose c a b)))
  choice_meant c a b None t u z x y = tt
  choice_meant c a b (Some s) None u z x y = tt
  choice_meant c a b (Some s) (Some t) None z x y = tt
  choice_meant c a b (Some s) (Some t) (Some u) z x y = (
    refl,
    ap (λ (k : TypedWord). choice k (literal t) (literal u) (term_value h t) (term_value h u)) z.1
        ∙ ap (λ (l : Option ℕ). choice (value_of d scene m c) l (literal u) (term_value h t) (term_value h u)) x.0
        ∙ ap (λ (r : Option ℕ). choice (value_of d scene m c) (plain.literal a) r (term_value h t) (term_value h u)) y.0
        ∙ ap (λ (v : TypedWord). choice (value_of d scene m c) (plain.literal a) (plain.literal b) v (term_value h u)) x.1
        ∙ ap (λ (w : TypedWord). choice (value_of d scene m c) (plain.literal a) (plain.literal b) (value_of d scene m a) w) y.1,
  )

  -- ---- all of them

  term_meant : (e : ExprTree) → Meant e (resolved_term d (running scene) scope e)
  term_meant (exprs.Number v base) = (refl, refl)
  term_meant (exprs.Named n) = name_meant n
  term_meant (exprs.Element n index) = element_meant n (named_array d (running scene) n) index (resolved_term d (running scene) scope index) refl (term_meant index)
  term_meant (exprs.Input field) = boundary_meant (stage_before (own_stage d (running scene))) (field_place d field)
  term_meant (exprs.Output field) = boundary_meant (stage_before (own_stage d (running scene))) (field_place d field)
  term_meant (exprs.Boundary pipe before after field) = boundary_meant (stage_at d before) (field_place d field)
  term_meant exprs.Decoded = (refl, ap (λ (b : Bool). truth b) holds.decoded)
  term_meant (exprs.Cast shape a) =
      one_meant (λ (t : TermTree). terms.Cast shape t) (λ (v : TypedWord). as_shape shape v) a (resolved_term d (running scene) scope a) (λ x. refl) (λ x. refl) (term_meant a)
  term_meant (exprs.Complement a) =
      one_meant (λ (t : TermTree). terms.Complement t) (λ (v : TypedWord). complement v) a (resolved_term d (running scene) scope a) (λ x. refl) (λ x. refl) (term_meant a)
  term_meant (exprs.Negate a) =
      one_meant (λ (t : TermTree). terms.Negate t) (λ (v : TypedWord). truth (is_zero v)) a (resolved_term d (running scene) scope a) (λ x. refl) (λ x. refl) (term_meant a)
  term_meant (exprs.Two operator a b) = two_meant operator a b (resolved_term d (running scene) scope a) (resolved_term d (running scene) scope b) (term_meant a) (term_meant b)
  term_meant (exprs.Choose c a b) =
      choice_meant c a b (resolved_term d (running scene) scope c) (resolved_term d (running scene) scope a) (resolved_term d (running scene) scope b) (term_meant c) (term_meant a) (term_meant b)

  all_of_it : (e : ExprTree) (t : Option TermTree) → Meant e t → IfSome t (IsMeant d scene m h e)
  all_of_it e None meant = tt
  all_of_it e (Some t) meant = record {
    value = meant.1;
    whole = λ kind. ap (λ (l : Option ℕ). whole_of l (term_value h t) kind) meant.0 ∙ ap (λ (v : TypedWord). whole_of (plain.literal e) v kind) meant.1;
  }

  pub meant : (e : ExprTree) → IfSome (resolved_term d (running scene) scope e) (IsMeant d scene m h e)
  meant e = all_of_it e (resolved_term d (running scene) scope e) (term_meant e)

pub terms_meant : (d : DescriptionTree) → IsAccepted d → TermsAreMeant d
terms_meant d accepted scene m scope h e holds = meant d accepted scene m scope h holds e
