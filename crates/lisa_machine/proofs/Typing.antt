-- In a description in which nothing is wrong each expression has a type.
use Rattle.std.proofs.Common.{◌≡◌, ◌⊎◌, ◌<◌, ◌&&◌, ◌||◌, ◌++◌, ℕ, List, [], Option, None, Some, Bool, true, false, cond, not, length, refl, sym, ap, ◌∙◌, subst, inl, inr, ⊎_elim}
use Rattle.std.specs.Prelude.{slice_get, option_map}
use Rattle.std.specs.Option.{is_none, is_some}
use Rattle.std.proofs.lemmas.Option.{slice_get_within}
use Rattle.lisa_tree.specs.declared.tokens.Shape.{Shape}
use Rattle.lisa_words.specs.declared.words.Kind.{Kind}
use Rattle.lisa_words.specs.declared.binary.Operator.{Operator}
use Rattle.lisa_words.specs.declared.binary.Operator.TheVariants as operators
use Rattle.lisa_tree.specs.Expressions as exprs
use Rattle.lisa_tree.specs.Expressions.{ExprTree}
use Rattle.lisa_tree.specs.Descriptions as trees
use Rattle.lisa_tree.specs.Descriptions.{SectionTree, ResourceTree, DescriptionTree}
use Rattle.description_places.specs.declared.scopes.Local.{Local}
use Rattle.description_places.specs.declared.sites.Region.{Region}
use Rattle.description_places.specs.declared.sites.Region.TheVariants as regions
use Rattle.description_places.specs.Scopes.{Scope, local_named}
use Rattle.description_places.specs.Places as places
use Rattle.description_places.specs.Places.{at, uses, targets}
use Rattle.lisa_tree.specs.declared.declared.What.{What}
use Rattle.lisa_tree.specs.declared.declared.What.TheVariants as whats
use Rattle.lisa_tree.specs.declared.declared.Meaning.{Meaning}
use Rattle.lisa_tree.specs.declared.declared.Meaning.TheVariants as meanings
use Rattle.lisa_tree.specs.Resources.{is_named, resource_at, field_shape}
use Rattle.lisa_tree.specs.Operations.{name_at, sections_at, expression_in, coding_in, syntax_in}
use Rattle.lisa_tree.specs.Declarations.{Entry, entries, choices, declared_at, above, plain_at, what_at, owner_at, entry_name_at}
use Rattle.lisa_tree.specs.Meanings.{meaning, meaning_of}
use Rattle.lisa_tree.specs.Paths.{choice_node, entry_node, refers}
use Rattle.description_graph.proofs.Hits.{found}
use Rattle.graph_paths.specs.Paths.{is_in}
use Rattle.coded_names.specs.Codings.{field_width, number_kind}
use Rattle.description_types.specs.declared.values.TypeOf.{TypeOf}
use Rattle.description_types.specs.declared.values.TypeOf.TheVariants as types
use Rattle.description_types.specs.Shapes.{bit, joined, beside, paired}
use Rattle.description_types.specs.Types.{word_shape, element_shape, typed, meant_type, or_meant_type, name_type, meant_element, or_meant_element, element_type, two_type, type_of}
use Rattle.description_types.specs.Refused.{is_apart, meant_open, is_open, rests_on_refused, rests_on_open}
use Rattle.description_types.specs.Facts.{Fact, IsSteady, merged, at_entry as value_at, declared_value}
use Rattle.description_types.specs.Codings.{kind_or_unsigned, width_type, name_coding}
use Rattle.description_types.specs.Kinds.{as_type, expression_type, both_types, type_fact}
use Rattle.description_types.specs.Steady.{types_steady}
use Rattle.description_types.specs.Tables.{apart, DifferInType, IsSettled, Known, AreKinds}
use Rattle.description_types.proofs.KnownTypes.{self_shape, types_decide}
use Rattle.name_checks.specs.Doubled.{duplicate}
use Rattle.name_checks.specs.Unknown as unknowns
use Rattle.name_checks.specs.Unknown.{unknown, is_something, stands, is_known, is_field, is_main, lacks, is_loose, what_of, control_unknown, behind_unknown, stage_unknown, field_unknown}
use Rattle.kind_checks.specs.Uses.{is_no_word, is_no_register, is_no_array, sorts_differ, meant_misread, is_misread, meant_misindexed, is_misindexed, meant_miswritten, is_miswritten, what_misdeclared}
use Rattle.kind_checks.specs.WrongKinds.{wrong_kind, owner_name}
use Rattle.lisa_machine.specs.Freedom.{IsFree, Stands, AllStand}
use Rattle.lisa_machine.specs.Ranks.{Ranks}
use Rattle.lisa_machine.proofs.Among.{free_place, among_left, among_right}
use Rattle.lisa_machine.proofs.Standing.{expression_stand, expression_number, has_section}
use Rattle.lisa_machine.proofs.Decoding.{off_left, off_right, or_right, some_of, is_found, is_right, position_there}
use Rattle.lisa_machine.proofs.Named.{what_is}
use Rattle.lisa_machine.proofs.Choosing.{rightly_declared}
use Rattle.lisa_machine.proofs.Settling.{choice_there, operation_is, choice_is, child_is, reference_is, all_settled}
use Rattle.lisa_machine.proofs.Agreeing.{only_itself, agrees}
use Rattle.lisa_machine.proofs.Unrefused.{rests_on_none, uses_fit, unless}
use Rattle.lisa_machine.proofs.Chosen.{IsFit, IsKnown, good_keeps, types_stand, types_part, choice_known, choice_typed, merged_only, both_typed}
use Rattle.description_places.specs.Literals.{literal}

abbrev pub HasShape : Option Shape → Type 0
HasShape r = (s : Shape) × (r ≡ Some s)

-- ---- types of operators

besides : (a b : Option ℕ) (x y : Option Shape) → HasShape x → HasShape y → HasShape (beside a b x y)
besides None b x y h k = h
besides (Some v) (Some w) x y h k = h
besides (Some v) None x None h k = absurd (cc k.1)
besides (Some v) None x (Some s) h k = (_, refl)

joins : (x y : Option Shape) → HasShape x → HasShape y → HasShape (joined x y)
joins None y h k = absurd (cc h.1)
joins (Some s) None h k = absurd (cc k.1)
joins (Some s) (Some t) h k = (_, refl)

pairs : (a b : Option ℕ) (x y : Option Shape) → HasShape x → HasShape y → HasShape (paired a b x y)
pairs a b x y h k = joins (beside a b x y) (beside b a y x) (besides a b x y h k) (besides b a y x k h)

twos : (operator : Operator) (a b : Option ℕ) (x y : Option Shape) → HasShape x → HasShape y → HasShape (two_type operator a b x y)
twos operators.Left a b x y h k = h
twos operators.Right a b x y h k = h
twos operators.Add a b x y h k = pairs a b x y h k
twos operators.Sub a b x y h k = pairs a b x y h k
twos operators.Mul a b x y h k = pairs a b x y h k
twos operators.And a b x y h k = pairs a b x y h k
twos operators.Or a b x y h k = pairs a b x y h k
twos operators.Xor a b x y h k = pairs a b x y h k
twos _ a b x y h k = (bit, refl)

-- ---- types of resources

pub word_of : (r : Option ResourceTree) (x : ResourceTree) → r ≡ Some x → is_no_word r ≡ false → HasShape (word_shape r)
word_of None x is e = absurd (cc is)
word_of (Some (trees.Register word shape n None)) x is e = (shape, refl)
word_of (Some (trees.Clocked word shape n)) x is e = (shape, refl)
word_of (Some (trees.Pin shape n)) x is e = (shape, refl)
word_of (Some (trees.Register word shape n (Some depth))) x is e = absurd (cc e)
word_of (Some (trees.Memory word shape n depth)) x is e = absurd (cc e)
word_of (Some (trees.Pipeline n stages)) x is e = absurd (cc e)
word_of (Some (trees.Fields pipe fields)) x is e = absurd (cc e)

register_of : (r : Option ResourceTree) (x : ResourceTree) → r ≡ Some x → is_no_register r ≡ false → HasShape (word_shape r)
register_of None x is e = absurd (cc is)
register_of (Some (trees.Register word shape n None)) x is e = (shape, refl)
register_of (Some (trees.Clocked word shape n)) x is e = (shape, refl)
register_of (Some (trees.Pin shape n)) x is e = absurd (cc e)
register_of (Some (trees.Register word shape n (Some depth))) x is e = absurd (cc e)
register_of (Some (trees.Memory word shape n depth)) x is e = absurd (cc e)
register_of (Some (trees.Pipeline n stages)) x is e = absurd (cc e)
register_of (Some (trees.Fields pipe fields)) x is e = absurd (cc e)

pub element_of : (r : Option ResourceTree) (x : ResourceTree) → r ≡ Some x → is_no_array r ≡ false → HasShape (element_shape r)
element_of None x is e = absurd (cc is)
element_of (Some (trees.Register word shape n (Some depth))) x is e = (shape, refl)
element_of (Some (trees.Memory word shape n depth)) x is e = (shape, refl)
element_of (Some (trees.Register word shape n None)) x is e = absurd (cc e)
element_of (Some (trees.Clocked word shape n)) x is e = absurd (cc e)
element_of (Some (trees.Pin shape n)) x is e = absurd (cc e)
element_of (Some (trees.Pipeline n stages)) x is e = absurd (cc e)
element_of (Some (trees.Fields pipe fields)) x is e = absurd (cc e)

-- a type that is known, and isn't missing
pub typed_of : (r : Option TypeOf) → IsKnown r → (r ≡ Some types.NoType → ⊥) → HasShape (typed r)
typed_of None k some = absurd (cc k.1)
typed_of (Some types.NoType) k some = absurd (some refl)
typed_of (Some (types.Typed s)) k some = (s, refl)
typed_of (Some types.Refused) k some = absurd (good_keeps IsFit _ k types.Refused refl refl)

to_type : (s : Shape) (r : Option Shape) → r ≡ Some s → Some (as_type r) ≡ Some (types.Typed s)
to_type s r e = ap (λ (x : Option Shape). Some (as_type x)) e

-- a label has a type or none
label_fits : (sections : List SectionTree) (r : Option (List ℕ)) → IsFit (name_coding sections r).label
label_fits sections None = λ e. absurd (cc e)
label_fits sections (Some n) = by (kind_or_unsigned (number_kind n (syntax_in sections))) (field_width n (coding_in sections))
  where
    by : (kind : Kind) (w : Option ℕ) → IsFit (width_type kind w)
    by kind None = λ e. absurd (cc e)
    by kind (Some w) = λ e. absurd (cc e)

-- what two of the same type make
both_same : (x : TypeOf) → both_types x x ≡ x
both_same types.NoType = refl
both_same types.Refused = refl
both_same (types.Typed s) = ap (λ (b : Bool). cond b (types.Typed s) types.NoType) (self_shape s)

module _ (d : DescriptionTree) (known : Known) (kinds : AreKinds d known) (names : IsFree (duplicate d) d) (stand : IsFree (unknown d) d) (uses_free : IsFree (wrong_kind known d) d) where
  -- ---- what is known of a node follows

  abbrev fact : Fact TypeOf
  fact = type_fact d (apart known.traits)

  abbrev steady : IsSteady fact
  steady = types_steady d (apart known.traits)

  operation_value : (o : ℕ) → o < length d.operations → known.types o ≡ expression_type (apart known.traits) known.types d o (expression_in (sections_at d o))
  operation_value o h = operation_is d known names stand uses_free fact steady known.types kinds.types o h

  choice_value : (c : ℕ) → c < length (choices d) → known.types (choice_node d c) ≡ fact.of_choice known.types c
  choice_value c h = choice_is d known names stand uses_free fact steady known.types kinds.types c h

  same_child : (i : ℕ) (r : Option TypeOf) → option_map (fact.of_child i) r ≡ r
  same_child i None = refl
  same_child i (Some t) = refl

  child_value : (i : ℕ) (e : Entry) → slice_get (entries d) i ≡ Some e → (c : ℕ) → (e.what ≡ whats.Group c) ⊎ (e.what ≡ whats.Instance c) → known.types (entry_node d i) ≡ known.types (choice_node d c)
  child_value i e is c which = child_is d known names stand uses_free fact steady known.types kinds.types i e is c which ∙ same_child i (known.types (choice_node d c))

  -- ---- no name means declarations that differ, and none that is a value means one without a type

  alike : (i : ℕ) (e : Entry) → slice_get (entries d) i ≡ Some e → IsSettled d known.types i → DifferInType d known.types i → ⊥
  alike i e is has x = by e.what refl
    where
      some_same : (s t : TypeOf) → Some s ≡ Some t → s ≡ t
      some_same s t h = cc h

      alone : refers e.what ≡ false → ⊥
      alone off =
          let one : i ≡ x.one = only_itself d e is off x.means_one in
          let other : i ≡ x.other = only_itself d e is off x.means_other in
          x.differ (some_same x.type_of_one x.type_of_other (sym x.is_one ∙ ap (λ (j : ℕ). known.types (entry_node d j)) (sym one ∙ other) ∙ x.is_other))

      by : (w : What) → e.what ≡ w → ⊥
      by (whats.Group c) what = alone (ap refers what)
      by (whats.Instance c) what = alone (ap refers what)
      by whats.Label what = alone (ap refers what)
      by whats.Reference what =
          let b : what_misdeclared known d i (Some whats.Reference) ≡ false = ap (λ (y : What). what_misdeclared known d i (Some y)) (sym what) ∙ rightly_declared d known names uses_free i e is in
          let off : known.types_differ i ≡ false = off_left (known.types_differ i) (known.assignables_differ i) (off_right (sorts_differ (known.traits i)) _ b) in
          absurd (cc (sym off ∙ (kinds.types_differ i).1 (has, x)))

  pub some_type : (i : ℕ) (e : Entry) → slice_get (entries d) i ≡ Some e → known.typeless i ≡ false → known.types (entry_node d i) ≡ Some types.NoType → ⊥
  some_type i e is off none = ⊎_elim
      (λ some. absurd (cc (sym off ∙ (kinds.typeless i).1 (inr (ap is_some none, some)))))
      (λ x. alike i e is (ap is_some none) (record {
        one = x.one;
        other = x.other;
        means_one = x.means_one;
        means_other = x.means_other;
        type_of_one = x.value_of_one;
        type_of_other = x.value_of_other;
        is_one = x.is_one;
        is_other = x.is_other;
        one_stands = x.good_one;
        other_stands = x.good_other;
        differ = x.differ;
      }))
      (agrees d known.types IsFit fact kinds.types both_same types_decide types_part i types.NoType none (λ h. absurd (cc h)))

  -- ---- expressions, where each name that the operation declares has a type

  resource_there : (n : List ℕ) (k : ℕ) → resource_at d n ≡ Some k → (x : ResourceTree) × (slice_get d.resources k ≡ Some x)
  resource_there n k e = let p = position_there (is_named n) d.resources k e in (p.0, p.1)

  pub entry_there : (o : ℕ) (n : List ℕ) (i : ℕ) → declared_at d o n ≡ Some i → (e : Entry) × (slice_get (entries d) i ≡ Some e)
  entry_there o n i e = let f = found d o n i e in (f.e, f.at)

  module _ (o : ℕ) (ready : (n : List ℕ) (i : ℕ) → declared_at d o n ≡ Some i → IsKnown (known.types (entry_node d i))) where
    meant_typed : (n : List ℕ) (wrong : Meaning → Bool) → ((k : ℕ) (x : ResourceTree) → slice_get d.resources k ≡ Some x → wrong (meanings.Resource k) ≡ false → HasShape (word_shape (slice_get d.resources k)))
        → ((i : ℕ) → wrong (meanings.Declared i) ≡ false → known.typeless i ≡ false) → is_something (meaning d o n) ≡ true → wrong (meaning d o n) ≡ false → HasShape (meant_type known.types d (meaning d o n))
    meant_typed n wrong resource declared some right = by (declared_at d o n) (resource_at d n) refl refl some right
      where
        by : (x y : Option ℕ) → declared_at d o n ≡ x → resource_at d n ≡ y → is_something (meaning_of x y) ≡ true → wrong (meaning_of x y) ≡ false → HasShape (meant_type known.types d (meaning_of x y))
        by (Some i) y at there s r = let e = entry_there o n i at in typed_of (known.types (entry_node d i)) (ready n i at) (some_type i e.0 e.1 (declared i r))
        by None (Some k) at there s r = let x = resource_there n k there in resource k x.0 x.1 r
        by None None at there s r = absurd (cc s)

    read_typed : (region : Region) (scope : Scope) (n : List ℕ) → Stands d (at o region scope (places.Reads n)) → HasShape (name_type known.types d o scope n)
    read_typed region scope n s =
        by (local_named n scope) (is_found (name_at d o) (is_known d o scope n) n (free_place (unknown d) d stand _ s)) (is_right (owner_name d o region) (is_misread known d o n (local_named n scope)) n (free_place (wrong_kind known d) d uses_free _ s))
      where
        by : (r : Option Local) → (is_some r || stands d o n) ≡ true → is_misread known d o n r ≡ false → HasShape (or_meant_type known.types d o n r)
        by (Some local) k e = (local.shape, refl)
        by None k e =
            meant_typed n (meant_misread known d) (λ m x is f. word_of (slice_get d.resources m) x is f)
            (λ i f. off_left (known.typeless i) (is_apart (known.traits i)) f) k e

    written_typed : (region : Region) (scope : Scope) (n : List ℕ) → Stands d (at o region scope (places.Writes n)) → HasShape (name_type known.types d o scope n)
    written_typed region scope n s =
        by (local_named n scope) (is_found (name_at d o) (is_known d o scope n) n (free_place (unknown d) d stand _ s)) (is_right (owner_name d o region) (is_miswritten known d o n (local_named n scope)) n (free_place (wrong_kind known d) d uses_free _ s))
      where
        by : (r : Option Local) → (is_some r || stands d o n) ≡ true → is_miswritten known d o n r ≡ false → HasShape (or_meant_type known.types d o n r)
        by (Some local) k e = (local.shape, refl)
        by None k e =
            meant_typed n (meant_miswritten known d) (λ m x is f. register_of (slice_get d.resources m) x is f)
            (λ i f. off_left (known.typeless i) _ f) k e

    meant_elements : (n : List ℕ) → is_something (meaning d o n) ≡ true → meant_misindexed known d (meaning d o n) ≡ false → HasShape (meant_element d (meaning d o n))
    meant_elements n some right = by (declared_at d o n) (resource_at d n) refl some right
      where
        by : (x y : Option ℕ) → resource_at d n ≡ y → is_something (meaning_of x y) ≡ true → meant_misindexed known d (meaning_of x y) ≡ false → HasShape (meant_element d (meaning_of x y))
        by (Some i) y there s r = absurd (cc r)
        by None (Some k) there s r = let x = resource_there n k there in element_of (slice_get d.resources k) x.0 x.1 r
        by None None there s r = absurd (cc s)

    elements_typed : (scope : Scope) (n : List ℕ) → is_known d o scope n ≡ true → is_misindexed known d o n (local_named n scope) ≡ false → HasShape (element_type d o scope n)
    elements_typed scope n k e = by (local_named n scope) k e
      where
        by : (r : Option Local) → (is_some r || stands d o n) ≡ true → is_misindexed known d o n r ≡ false → HasShape (or_meant_element d o n r)
        by (Some local) k e = absurd (cc e)
        by None k e = meant_elements n k e

    field_typed : (operation field : List ℕ) → unknowns.unknown_fault operation (is_field d field) field ≡ None → HasShape (field_shape d field)
    field_typed operation field e = some_of (field_shape d field) (is_found operation (is_field d field) field e)

    pub expression_typed : (region : Region) (scope : Scope) (e : ExprTree) → AllStand d (uses o region scope e) → HasShape (type_of known.types d o scope e)
    expression_typed region scope (exprs.Number v base) s = (_, refl)
    expression_typed region scope (exprs.Named n) s = read_typed region scope n (s _ (inl refl))
    expression_typed region scope (exprs.Element n index) s =
        elements_typed scope n (is_found (name_at d o) (is_known d o scope n) n (free_place (unknown d) d stand _ (s (at o region scope (places.ReadsElement n)) (inl refl))))
        (is_right (owner_name d o region) (is_misindexed known d o n (local_named n scope)) n (free_place (wrong_kind known d) d uses_free _ (s (at o region scope (places.ReadsElement n)) (inl refl))))
    expression_typed region scope (exprs.Input field) s = field_typed (name_at d o) field (free_place (unknown d) d stand _ (s (at o region scope (places.ReadsInput field)) (inl refl)))
    expression_typed region scope (exprs.Output field) s = field_typed (name_at d o) field (free_place (unknown d) d stand _ (s (at o region scope (places.ReadsOutput field)) (inl refl)))
    expression_typed region scope (exprs.Boundary pipe before after field) s =
        field_typed (name_at d o) field (or_right (stage_unknown d o pipe after) (field_unknown d o field)
        (or_right (control_unknown d o scope pipe before) (behind_unknown d o pipe after field) (free_place (unknown d) d stand _ (s (at o region scope (places.ReadsBoundary pipe before after field)) (inl refl)))))
    expression_typed region scope exprs.Decoded s = (bit, refl)
    expression_typed region scope (exprs.Cast shape a) s = (shape, refl)
    expression_typed region scope (exprs.Complement a) s = expression_typed region scope a s
    expression_typed region scope (exprs.Negate a) s = (bit, refl)
    expression_typed region scope (exprs.Two operator a b) s =
        twos operator (literal a) (literal b) _ _
        (expression_typed region scope a (λ x h. s x (among_left x (uses o region scope a) (uses o region scope b) h)))
        (expression_typed region scope b (λ x h. s x (among_right x (uses o region scope a) (uses o region scope b) h)))
    expression_typed region scope (exprs.Choose c a b) s =
        pairs (literal a) (literal b) _ _
        (expression_typed region scope a (λ x h. s x (among_right x (uses o region scope c) (uses o region scope a ++ uses o region scope b) (among_left x (uses o region scope a) (uses o region scope b) h))))
        (expression_typed region scope b (λ x h. s x (among_right x (uses o region scope c) (uses o region scope a ++ uses o region scope b) (among_right x (uses o region scope a) (uses o region scope b) h))))

    pub target_typed : (region : Region) (scope : Scope) (e : ExprTree) → AllStand d (targets o region scope e) → HasShape (type_of known.types d o scope e)
    target_typed region scope (exprs.Named n) s = written_typed region scope n (s _ (inl refl))
    target_typed region scope (exprs.Element n index) s =
        elements_typed scope n (is_found (name_at d o) (is_known d o scope n) n (free_place (unknown d) d stand _ (s (at o region scope (places.WritesElement n)) (inl refl))))
        (is_right (owner_name d o region) (is_misindexed known d o n (local_named n scope)) n (free_place (wrong_kind known d) d uses_free _ (s (at o region scope (places.WritesElement n)) (inl refl))))
    target_typed region scope (exprs.Output field) s = field_typed (name_at d o) field (free_place (unknown d) d stand _ (s (at o region scope (places.WritesOutput field)) (inl refl)))
    target_typed region scope (exprs.Number v base) s = expression_typed region scope (exprs.Number v base) s
    target_typed region scope (exprs.Input field) s = expression_typed region scope (exprs.Input field) s
    target_typed region scope (exprs.Boundary p b a f) s = expression_typed region scope (exprs.Boundary p b a f) s
    target_typed region scope exprs.Decoded s = expression_typed region scope exprs.Decoded s
    target_typed region scope (exprs.Cast shape a) s = expression_typed region scope (exprs.Cast shape a) s
    target_typed region scope (exprs.Complement a) s = expression_typed region scope (exprs.Complement a) s
    target_typed region scope (exprs.Negate a) s = expression_typed region scope (exprs.Negate a) s
    target_typed region scope (exprs.Two operator a b) s = expression_typed region scope (exprs.Two operator a b) s
    target_typed region scope (exprs.Choose c a b) s = expression_typed region scope (exprs.Choose c a b) s

    -- in its expression nothing is open
    closed : (e : ExprTree) → AllStand d (uses o regions.Expression [] e) → is_open (apart known.traits) known.types d o e ≡ false
    closed (exprs.Named n) s = by (declared_at d o n) (resource_at d n) refl
      where
        closes : (apart : Bool) (r : Option TypeOf) → IsKnown r → (not apart && is_none r) ≡ false
        closes true r k = refl
        closes false None k = absurd (cc k.1)
        closes false (Some t) k = refl

        by : (x y : Option ℕ) → declared_at d o n ≡ x → meant_open (apart known.traits) known.types d (meaning_of x y) ≡ false
        by (Some i) y at = closes (apart known.traits i) (known.types (entry_node d i)) (ready n i at)
        by None (Some k) at = refl
        by None None at = refl
    closed (exprs.Number v base) s = refl
    closed (exprs.Element n index) s = refl
    closed (exprs.Input field) s = refl
    closed (exprs.Output field) s = refl
    closed (exprs.Boundary pipe before after field) s = refl
    closed exprs.Decoded s = refl
    closed (exprs.Cast shape a) s = refl
    closed (exprs.Complement a) s = refl
    closed (exprs.Negate a) s = refl
    closed (exprs.Two operator a b) s = refl
    closed (exprs.Choose c a b) s = refl

    -- nor is a use refused
    unrefused : (e : ExprTree) → expression_in (sections_at d o) ≡ Some e → expression_type (apart known.traits) known.types d o (Some e) ≡ Some (as_type (type_of known.types d o [] e))
    unrefused e is =
        unless (rests_on_open (apart known.traits) known.types d o e) None (Some (cond (rests_on_refused (apart known.traits) d o e) types.Refused (as_type (type_of known.types d o [] e))))
        (rests_on_none d o (is_open (apart known.traits) known.types d o) closed e (expression_stand d o e is))
        ∙ ap (λ (t : TypeOf). Some t) (unless (rests_on_refused (apart known.traits) d o e) types.Refused (as_type (type_of known.types d o [] e))
        (uses_fit d known uses_free (apart known.traits) (λ i f. off_right (known.typeless i) (is_apart (known.traits i)) f) o e (expression_stand d o e is)))

    -- an operation of which each declared name has a type
    pub operation_known : o < length d.operations → IsKnown (known.types o)
    operation_known h = subst IsKnown (sym (operation_value o h)) (by (expression_in (sections_at d o)) refl)
      where
        by : (r : Option ExprTree) → expression_in (sections_at d o) ≡ r → IsKnown (expression_type (apart known.traits) known.types d o r)
        by None is = (types.NoType, refl, λ e. absurd (cc e))
        by (Some e) is = let t = expression_typed regions.Expression [] e (expression_stand d o e is) in (types.Typed t.0, unrefused e is ∙ to_type t.0 (type_of known.types d o [] e) t.1, λ h. absurd (cc h))

  -- ---- going up along the ranks

  module _ (ranks : Ranks d) where
    pub all_declared : (o : ℕ) (n : List ℕ) (i : ℕ) → declared_at d o n ≡ Some i → IsKnown (known.types (entry_node d i))
    all_declared o n i at =
        all_settled d known names stand uses_free fact steady known.types kinds.types IsFit (λ i. label_fits (sections_at d (owner_at d i)) (entry_name_at d i)) (λ i t k. k) types_stand operation_known (λ c some each. choice_known d (apart known.traits) known.types c some each) ranks o n i at

    pub operation_typed : (o : ℕ) (e : ExprTree) → expression_in (sections_at d o) ≡ Some e → (s : Shape) × (type_of known.types d o [] e ≡ Some s) × (known.types o ≡ Some (types.Typed s))
    operation_typed o e is =
        let t = expression_typed o (all_declared o) regions.Expression [] e (expression_stand d o e is) in
        let k = expression_number (sections_at d o) e is in
        let h = has_section d o k.0 (trees.Expression e) k.1 in
        (t.0, t.1, operation_value o (slice_get_within d.operations o h.operation h.is) ∙ ap (expression_type (apart known.traits) known.types d o) is ∙ unrefused o (all_declared o) e is ∙ to_type t.0 (type_of known.types d o [] e) t.1)

  -- ---- a type comes from all that a name may mean

  pub child_types : (i c : ℕ) (s : Shape) → (what_at d i ≡ Some (whats.Group c)) ⊎ (what_at d i ≡ Some (whats.Instance c)) → known.types (entry_node d i) ≡ Some (types.Typed s) → (o : ℕ) → is_in o (plain_at d c) ≡ true → known.types o ≡ Some (types.Typed s)
  child_types i c s which typed = by (slice_get (entries d) i) refl
    where
      same_what : (e : Entry) → slice_get (entries d) i ≡ Some e → (w : What) → what_at d i ≡ Some w → e.what ≡ w
      same_what e at w is = of_some (sym (what_is d i e at) ∙ is)
        where
          of_some : Some e.what ≡ Some w → e.what ≡ w
          of_some f = cc f

      by : (r : Option Entry) → slice_get (entries d) i ≡ r → (o : ℕ) → is_in o (plain_at d c) ≡ true → known.types o ≡ Some (types.Typed s)
      by None at = ⊎_elim (λ w. absurd (cc (at, w))) (λ w. absurd (cc (at, w))) which
      by (Some e) at =
          let w : (e.what ≡ whats.Group c) ⊎ (e.what ≡ whats.Instance c) = ⊎_elim (λ f. inl (same_what e at (whats.Group c) f)) (λ f. inr (same_what e at (whats.Instance c) f)) which in
          let x = choice_there d known names stand uses_free i e at c w in
          choice_typed d (apart known.traits) known.types c s (sym (choice_value c (slice_get_within (choices d) c x.0 x.1)) ∙ sym (child_value i e at c w) ∙ typed)

  pub reference_types : (i : ℕ) (e : Entry) (s : Shape) → slice_get (entries d) i ≡ Some e → e.what ≡ whats.Reference → known.types (entry_node d i) ≡ Some (types.Typed s)
      → (p : ℕ) → is_in p (above d e.operation) ≡ true → (j : ℕ) × (declared_at d p e.name ≡ Some j) × (known.types (entry_node d j) ≡ Some (types.Typed s))
  reference_types i e s is what typed p h =
      let value : merged both_types (declared_value d known.types e.name) (above d e.operation) ≡ Some (types.Typed s) = sym (reference_is d known names stand uses_free fact steady known.types kinds.types i e is what) ∙ typed in
      by (declared_at d p e.name) refl (merged_only both_types (types.Typed s) (λ x y f. both_typed x y s f) (declared_value d known.types e.name) (above d e.operation) value p h)
    where
      by : (r : Option ℕ) → declared_at d p e.name ≡ r → value_at d known.types r ≡ Some (types.Typed s) → (j : ℕ) × (declared_at d p e.name ≡ Some j) × (known.types (entry_node d j) ≡ Some (types.Typed s))
      by None at f = absurd (cc f)
      by (Some j) at f = (j, at, f)
