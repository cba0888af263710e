-- What the codings, syntaxes, activations and aliases of an accepted description name.
use Rattle.std.proofs.Common.{◌≡◌, ◌<◌, ◌≤◌, ◌≢◌, ◌&&◌, ℕ, zero, suc, List, [], ◌∷◌, Option, None, Some, Bool, true, false, not, nat_eq, codes, refl, sym, ap, ◌∙◌, arith, subst, inl, inr}
use Rattle.std.specs.Prelude.{slice_get}
use Rattle.std.specs.Option.{is_some}
use Rattle.std.specs.List.{AllByRecursion, list_all}
use Rattle.std.specs.Cmp.Lexicographic.{nat_list_eq_equiv}
use Rattle.std.proofs.lemmas.Bool.{and_parts, eqb-true}
use Rattle.lisa_words.specs.declared.words.Kind.{Kind}
use Rattle.lisa_tree.specs.declared.tokens.Shape.{Shape}
use Rattle.lisa_tree.specs.declared.descriptions.Pattern.{Pattern}
use Rattle.lisa_tree.specs.declared.descriptions.Format.{Format}
use Rattle.lisa_tree.specs.declared.descriptions.CodingItem.{CodingItem}
use Rattle.lisa_tree.specs.declared.descriptions.CodingItem.TheVariants as items
use Rattle.lisa_tree.specs.declared.descriptions.SyntaxItem.{SyntaxItem}
use Rattle.lisa_tree.specs.declared.descriptions.SyntaxPart.{SyntaxPart}
use Rattle.lisa_tree.specs.declared.descriptions.SyntaxPart.TheVariants as parts
use Rattle.lisa_tree.specs.Expressions as exprs
use Rattle.lisa_tree.specs.Expressions.{ExprTree}
use Rattle.lisa_tree.specs.Activations.{ActTrees}
use Rattle.lisa_tree.specs.Descriptions as trees
use Rattle.lisa_tree.specs.Descriptions.{ResourceTree, DeclareTree, CodingTree, OperationTree, DescriptionTree}
use Rattle.description_places.specs.declared.sites.Region.TheVariants as regions
use Rattle.description_places.specs.Places as places
use Rattle.description_places.specs.Places.{At, at, Place, items_places, parts_places, item_places, part_places, coding_places, acts_places, act_places, uses}
use Rattle.lisa_tree.specs.Same.{same_name}
use Rattle.lisa_tree.specs.declared.declared.What.{What}
use Rattle.lisa_tree.specs.declared.declared.What.TheVariants as whats
use Rattle.lisa_tree.specs.declared.declared.Meaning.{Meaning}
use Rattle.lisa_tree.specs.declared.declared.Meaning.TheVariants as meanings
use Rattle.lisa_tree.specs.Resources.{is_named, resource_at, field_shape}
use Rattle.lisa_tree.specs.Operations.{name_at, own_stage, sections_at, declares_in, coding_in, behavior_in, expression_in, activation_in}
use Rattle.lisa_tree.specs.Declarations.{declared_at, what_at, entry_name_at}
use Rattle.lisa_tree.specs.Meanings.{meaning, meaning_of}
use Rattle.lisa_tree.specs.Paths.{entry_node, refers}
use Rattle.coded_names.specs.Codings.{pattern_width, field_width}
use Rattle.least_fixed_points.specs.Settles.{settled}
use Rattle.meant_declarations.specs.Meant.{itself}
use Rattle.description_graph.proofs.Hits.{found}
use Rattle.description_graph.proofs.Nodes.{at_entry}
use Rattle.description_types.specs.declared.values.CodedName.{CodedName}
use Rattle.description_types.specs.declared.values.TypeOf.{TypeOf}
use Rattle.description_types.specs.declared.values.TypeOf.TheVariants as types
use Rattle.description_types.specs.Shapes.{shape_of}
use Rattle.description_types.specs.Codings.{width_type, label_type, name_coding, coding_at}
use Rattle.description_types.specs.Facts.{entry_value, node_value, follows}
use Rattle.description_types.specs.Kinds.{type_fact}
use Rattle.description_types.specs.Tables.{apart, LacksType, Known, AreKinds}
use Rattle.name_checks.specs.Unknown.{unknown, is_something, stands, is_known, is_field, register_unknown, part_unknown}
use Rattle.shape_checks.specs.Shapes.{bad_width, bit_count}
use Rattle.kind_checks.specs.Uses.{by_sort, is_free, is_wrong_operand, is_wrong_root_group, is_wrong_field, is_wrong_number, is_wrong_shown, is_misstarted, is_wrong_register, is_no_register}
use Rattle.description_types.specs.Refused.{may_input}
use Rattle.kind_checks.specs.WrongKinds.{wrong_kind, faulty, has_references, lacks_coding, is_wrong_alias, stage_name, head_name, register_name, root_name}
use Rattle.stage_checks.specs.Resets.{is_scalar}
use Rattle.stage_checks.specs.Running.{acts_names}
use Rattle.lisa_machine.specs.Freedom.{IsFree, Stands, AllStand}
use Rattle.lisa_machine.specs.Declaring.{IsChild}
use Rattle.lisa_machine.specs.Codings.{FitsField, FitsItem, IsScalar, IsInput, FitsWord, FitsCoding, FitsNumber, FitsPart, FitsSyntax, IsNoReference, FitsAlias}
use Rattle.lisa_machine.proofs.Among.{free_place, among_left, among_right}
use Rattle.lisa_machine.proofs.Named.{what_is}
use Rattle.lisa_machine.proofs.Starting.{all_map, Started, acts_started}
use Rattle.lisa_machine.proofs.Decoding.{off_left, off_right, not_off, or_left, or_right, some_of, none_of, is_found, is_right, no_name, not_faulty, width_is, position_there}

-- ---- what a name that stands for something and isn't misused is declared as

-- the name is one that the operation declares, and isn't misused as such
record Rightly (d : DescriptionTree) (o : ℕ) (n : List ℕ) (wrong : Meaning → Bool) : Type 0 where
  pub number : ℕ
  pub declared : declared_at d o n ≡ Some number
  pub right : wrong (meanings.Declared number) ≡ false

rightly : (d : DescriptionTree) (o : ℕ) (n : List ℕ) (wrong : Meaning → Bool) → ((k : ℕ) → wrong (meanings.Resource k) ≡ true) → is_something (meaning d o n) ≡ true → wrong (meaning d o n) ≡ false → Rightly d o n wrong
rightly d o n wrong other some right = by (declared_at d o n) (resource_at d n) refl some right
  where
    by : (x y : Option ℕ) → declared_at d o n ≡ x → is_something (meaning_of x y) ≡ true → wrong (meaning_of x y) ≡ false → Rightly d o n wrong
    by (Some i) y is s r = record { number = i; declared = is; right = r }
    by None (Some k) is s r = absurd (cc (sym (other k) ∙ r))
    by None None is s r = absurd (cc s)

sort_group : (d : DescriptionTree) (i : ℕ) (a b : Bool) → by_sort true a b (what_at d i) ≡ false → b ≡ true → (c : ℕ) × (what_at d i ≡ Some (whats.Group c))
sort_group d i a b e off = by (what_at d i) refl e
  where
    by : (w : Option What) → what_at d i ≡ w → by_sort true a b w ≡ false → (c : ℕ) × (what_at d i ≡ Some (whats.Group c))
    by (Some (whats.Group c)) is f = (c, is)
    by (Some (whats.Instance c)) is f = absurd (cc f)
    by (Some whats.Label) is f = absurd (cc (sym off ∙ f))
    by (Some whats.Reference) is f = absurd (cc f)
    by None is f = absurd (cc f)

sort_label : (d : DescriptionTree) (i : ℕ) (b : Bool) → by_sort true true b (what_at d i) ≡ false → (what_at d i ≡ Some whats.Label) × (b ≡ false)
sort_label d i b e = by (what_at d i) refl e
  where
    by : (w : Option What) → what_at d i ≡ w → by_sort true true b w ≡ false → (what_at d i ≡ Some whats.Label) × (b ≡ false)
    by (Some (whats.Group c)) is f = absurd (cc f)
    by (Some (whats.Instance c)) is f = absurd (cc f)
    by (Some whats.Label) is f = (is, f)
    by (Some whats.Reference) is f = absurd (cc f)
    by None is f = absurd (cc f)

sort_child : (d : DescriptionTree) (o : ℕ) (n : List ℕ) (i : ℕ) (a b : Bool) → declared_at d o n ≡ Some i → by_sort a b true (what_at d i) ≡ false → IsChild d o n
sort_child d o n i a b at e = by (what_at d i) refl e
  where
    by : (w : Option What) → what_at d i ≡ w → by_sort a b true w ≡ false → IsChild d o n
    by (Some (whats.Group c)) is f = (c, inl (record { number = i; declared = at; is = is }))
    by (Some (whats.Instance c)) is f = (c, inr (record { number = i; declared = at; is = is }))
    by (Some whats.Label) is f = absurd (cc f)
    by (Some whats.Reference) is f = absurd (cc f)
    by None is f = absurd (cc f)

module _ (d : DescriptionTree) (known : Known) (stand : IsFree (unknown d) d) (uses_free : IsFree (wrong_kind known d) d) where
  -- ---- activations

  start_child : (o : ℕ) (n : List ℕ) → Stands d (at o regions.Activation [] (places.Starts n)) → IsChild d o n
  start_child o n s =
      let found : is_known d o [] n ≡ true = is_found (name_at d o) (is_known d o [] n) n (free_place (unknown d) d stand _ s) in
      let r = rightly d o n (is_misstarted known d) (λ k. refl) found (is_right (name_at d o) (is_misstarted known d (meaning d o n)) n (free_place (wrong_kind known d) d uses_free _ s)) in
      sort_child d o n r.number _ _ r.declared r.right

  pub acts_children : (o : ℕ) (all : ActTrees) → AllStand d (acts_places o all) → AllByRecursion (IsChild d o) (acts_names all)
  acts_children o all s = all_map (Started d o) (IsChild d o) (acts_names all) (start_child o) (acts_started d o all s)

  -- ---- codings

  all_free : (digits : List ℕ) → list_all (λ digit. nat_eq digit 120) digits ≡ true → AllByRecursion (λ digit. digit ≡ 120) digits
  all_free [] e = tt
  all_free (x ∷ rest) e = let p = and_parts (nat_eq x 120) (list_all (λ digit. nat_eq digit 120) rest) e in (eqb-true x 120 p.0, all_free rest p.1)

  width_same : (pattern : Pattern) → bit_count pattern ≡ pattern_width pattern
  width_same pattern = by pattern.times refl
    where
      by : (t : Option ℕ) → pattern.times ≡ t → bit_count pattern ≡ pattern_width pattern
      by None e = cc e
      by (Some times) e = cc e

  field_fits : IsFree bad_width d → (o : ℕ) (n : List ℕ) (pattern : Pattern) → Stands d (at o regions.Coding [] (places.Field n pattern)) → FitsField d o n pattern
  field_fits widths o n pattern s =
      let found : stands d o n ≡ true = is_found (name_at d o) (stands d o n) n (free_place (unknown d) d stand _ s) in
      let r = rightly d o n (is_wrong_field known d (is_free pattern)) (λ k. refl) found (is_right (name_at d o) (is_wrong_field known d (is_free pattern) (meaning d o n)) n (free_place (wrong_kind known d) d uses_free _ s)) in
      let l = sort_label d r.number (not (is_free pattern)) r.right in
      let w = width_is n (bit_count pattern) (free_place bad_width d widths _ s) in
      record {
        label = record { number = r.number; declared = r.declared; is = l.0 };
        free = all_free pattern.digits (not_off (is_free pattern) l.1);
        least = subst (λ (k : ℕ). 1 ≤ k) (width_same pattern) w.0;
        most = subst (λ (k : ℕ). k ≤ 64) (width_same pattern) w.1;
      }

  operand_child : (o : ℕ) (n : List ℕ) → Stands d (at o regions.Coding [] (places.Operand n)) → IsChild d o n
  operand_child o n s =
      let found : stands d o n ≡ true = is_found (name_at d o) (stands d o n) n (free_place (unknown d) d stand _ s) in
      let r = rightly d o n (is_wrong_operand known d) (λ k. refl) found (is_right (name_at d o) (is_wrong_operand known d (meaning d o n)) n (free_place (wrong_kind known d) d uses_free _ s)) in
      sort_child d o n r.number _ _ r.declared r.right

  item_fits : IsFree bad_width d → (o : ℕ) (item : CodingItem) → AllStand d (item_places o item) → FitsItem d o item
  item_fits widths o (items.Bits pattern) s = tt
  item_fits widths o (items.Field n pattern) s = field_fits widths o n pattern (s _ (inl refl))
  item_fits widths o (items.Child n) s = operand_child o n (s _ (inl refl))

  items_fit : IsFree bad_width d → (o : ℕ) (all : List CodingItem) → AllStand d (items_places o all) → AllByRecursion (FitsItem d o) all
  items_fit widths o [] s = tt
  items_fit widths o (item ∷ rest) s = (
    item_fits widths o item (λ a h. s a (among_left a (item_places o item) (items_places o rest) h)),
    items_fit widths o rest (λ a h. s a (among_right a (item_places o item) (items_places o rest) h)),
  )

  scalar_of : (r : Option ResourceTree) (x : ResourceTree) → r ≡ Some x → is_no_register r ≡ false → is_scalar r ≡ true
  scalar_of None x is e = absurd (cc is)
  scalar_of (Some (trees.Register word shape n None)) x is e = refl
  scalar_of (Some (trees.Clocked word shape n)) x is e = refl
  scalar_of (Some (trees.Register word shape n (Some depth))) x is e = absurd (cc e)
  scalar_of (Some (trees.Memory word shape n depth)) x is e = absurd (cc e)
  scalar_of (Some (trees.Pin shape n)) x is e = absurd (cc e)
  scalar_of (Some (trees.Pipeline n stages)) x is e = absurd (cc e)
  scalar_of (Some (trees.Fields pipe fields)) x is e = absurd (cc e)

  resource_there : (n : List ℕ) (k : ℕ) → resource_at d n ≡ Some k → (x : ResourceTree) × (slice_get d.resources k ≡ Some x)
  resource_there n k e = let p = position_there (is_named n) d.resources k e in (p.0, p.1)

  scalar_fits : (o : ℕ) (n : List ℕ) → is_something (meaning d o n) ≡ true → is_wrong_register known d (meaning d o n) ≡ false → IsScalar d o n
  scalar_fits o n some right = by (declared_at d o n) (resource_at d n) refl refl some right
    where
      by : (x y : Option ℕ) → declared_at d o n ≡ x → resource_at d n ≡ y → is_something (meaning_of x y) ≡ true → is_wrong_register known d (meaning_of x y) ≡ false → IsScalar d o n
      by (Some i) y is there s r = absurd (cc r)
      by None (Some k) is there s r =
          let x = resource_there n k there in
          record { number = k; resource = there; undeclared = is; scalar = scalar_of (slice_get d.resources k) x.0 x.1 r }
      by None None is there s r = absurd (cc s)

  pub input_of : (o : ℕ) (field : List ℕ) → is_field d field ≡ true → may_input (own_stage d o) ≡ true → IsInput d o field
  input_of o field there may = by (own_stage d o) refl may
    where
      by : (r : Option ℕ) → own_stage d o ≡ r → may_input r ≡ true → IsInput d o field
      by None is m = absurd (cc m)
      by (Some stage) is m =
          let shape = some_of (field_shape d field) there in
          record { shape = shape.0; is = shape.1; stage = stage; own = is; later = positive stage m }
        where
          positive : (stage : ℕ) → not (nat_eq stage 0) ≡ true → 0 < stage
          positive zero e = absurd (cc e)
          positive (suc k) e = omega arith

  word_fits : (o : ℕ) (register : ExprTree) → register_unknown d o register ≡ None → register_name known d o register ≡ None → FitsWord d o register
  word_fits o (exprs.Named n) e f = scalar_fits o n (is_found (name_at d o) (stands d o n) n e) (not_faulty (is_wrong_register known d (meaning d o n)) n f)
  word_fits o (exprs.Input field) e f = input_of o field (is_found (name_at d o) (is_field d field) field e) (not_off (may_input (own_stage d o)) (not_faulty (not (may_input (own_stage d o))) field f))
  word_fits o (exprs.Number v base) e f = tt
  word_fits o (exprs.Element n i) e f = tt
  word_fits o (exprs.Output field) e f = tt
  word_fits o (exprs.Boundary p b a field) e f = tt
  word_fits o exprs.Decoded e f = tt
  word_fits o (exprs.Cast shape a) e f = tt
  word_fits o (exprs.Complement a) e f = tt
  word_fits o (exprs.Negate a) e f = tt
  word_fits o (exprs.Two op a b) e f = tt
  word_fits o (exprs.Choose c a b) e f = tt

  root_fits : (o : ℕ) (register : ExprTree) (group : List ℕ) → Stands d (at o regions.Coding [] (places.Root register group)) → FitsCoding d o (trees.Root register group)
  root_fits o register group s =
      let u = free_place (unknown d) d stand _ s in
      let w = no_name (name_at d o) (root_name known d o register group) (free_place (wrong_kind known d) d uses_free _ s) in
      let found : stands d o group ≡ true = is_found (name_at d o) (stands d o group) group (or_right (register_unknown d o register) (part_unknown d o group) u) in
      let right = not_faulty (is_wrong_root_group known d (meaning d o group)) group (or_right (register_name known d o register) (faulty (is_wrong_root_group known d (meaning d o group)) group) w) in
      let r = rightly d o group (is_wrong_root_group known d) (λ k. refl) found right in
      let g = sort_group d r.number (known.traits r.number).listed_rooted true r.right refl in (
        word_fits o register (or_left (register_unknown d o register) (part_unknown d o group) u) (or_left (register_name known d o register) (faulty (is_wrong_root_group known d (meaning d o group)) group) w),
        (g.0, record { number = r.number; declared = r.declared; is = g.1 }),
      )

  pub coding_fits : IsFree bad_width d → (o : ℕ) (part : CodingTree) → AllStand d (coding_places o part) → FitsCoding d o part
  coding_fits widths o (trees.Root register group) s = root_fits o register group (s _ (inl refl))
  coding_fits widths o (trees.Items all) s = items_fit widths o all s

  -- ---- syntaxes

  module _ (kinds : AreKinds d known) where
    label_type_is : (i : ℕ) → what_at d i ≡ Some whats.Label → known.types (entry_node d i) ≡ Some (coding_at d i).label
    label_type_is i is = (kinds.types (entry_node d i) (coding_at d i).label).1 (settled (λ b. None) (λ b u e. absurd (cc e)) follows_so)
      where
        follows_so : follows d (type_fact d (apart known.traits)) (λ b. None) (entry_node d i) ≡ Some (coding_at d i).label
        follows_so = ap (node_value d (type_fact d (apart known.traits)) (λ b. None)) (at_entry d (entry_node d i) i refl) ∙ ap (entry_value d (type_fact d (apart known.traits)) (λ b. None) i) is

    width_of : (kind : Kind) (w : Option ℕ) → (width_type kind w ≡ types.NoType → ⊥) → (k : ℕ) × (w ≡ Some k)
    width_of kind None some = absurd (some refl)
    width_of kind (Some k) some = (k, refl)

    label_width : (o i : ℕ) (n : List ℕ) → declared_at d o n ≡ Some i → what_at d i ≡ Some whats.Label → known.typeless i ≡ false → (w : ℕ) × (field_width n (coding_in (sections_at d o)) ≡ Some w)
    label_width o i n at is typed =
        let f = found d o n i at in
        let coding : coding_at d i ≡ name_coding (sections_at d o) (Some n) = ap (λ (k : ℕ). name_coding (sections_at d k) (entry_name_at d i)) f.owner ∙ ap (name_coding (sections_at d o)) f.name in
        let what : f.e.what ≡ whats.Label = of_some f.e.what (sym (what_is d i f.e f.at) ∙ is) in
        let lacks : label_type (sections_at d o) n ≡ types.NoType → LacksType d known.types i = λ none. label_type_is i is ∙ ap (λ (c : CodedName). Some c.label) coding ∙ ap (λ (t : TypeOf). Some t) none in
        width_of _ (field_width n (coding_in (sections_at d o))) (λ (none : label_type (sections_at d o) n ≡ types.NoType). absurd (cc (sym typed ∙ (kinds.typeless i).1 (inr (ap is_some (lacks none), (i, (itself f.e f.at (ap refers what) refl, lacks none)))))))
      where
        of_some : (w : What) → Some w ≡ Some whats.Label → w ≡ whats.Label
        of_some w e = cc e

    -- a label's type has the width of its field
    pub label_shape : (o i : ℕ) (n : List ℕ) (s : Shape) → declared_at d o n ≡ Some i → what_at d i ≡ Some whats.Label → known.types (entry_node d i) ≡ Some (types.Typed s) → field_width n (coding_in (sections_at d o)) ≡ Some s.width
    label_shape o i n s at is typed =
        let f = found d o n i at in
        let coding : coding_at d i ≡ name_coding (sections_at d o) (Some n) = ap (λ (k : ℕ). name_coding (sections_at d k) (entry_name_at d i)) f.owner ∙ ap (name_coding (sections_at d o)) f.name in
        width_in _ (field_width n (coding_in (sections_at d o))) (sym (label_type_is i is ∙ ap (λ (c : CodedName). Some c.label) coding) ∙ typed)
      where
        width_in : (kind : Kind) (w : Option ℕ) → Some (width_type kind w) ≡ Some (types.Typed s) → w ≡ Some s.width
        width_in kind None e = absurd (cc e)
        width_in kind (Some k) e = ap (λ (z : ℕ). Some z) (width_same_shape (shape_of kind k) (of_some e))
          where
            of_some : Some (width_type kind (Some k)) ≡ Some (types.Typed s) → types.Typed (shape_of kind k) ≡ types.Typed s
            of_some f = cc f

            width_same_shape : (t : Shape) → types.Typed t ≡ types.Typed s → t.width ≡ s.width
            width_same_shape t f = let same : t ≡ s = cc f in ap (λ (z : Shape). z.width) same

    number_fits : (o : ℕ) (n : List ℕ) (format : Format) → Stands d (at o regions.Syntax [] (places.Number n format)) → FitsNumber d o n
    number_fits o n format s =
        let found : stands d o n ≡ true = is_found (name_at d o) (stands d o n) n (free_place (unknown d) d stand _ s) in
        let r = rightly d o n (is_wrong_number known d) (λ k. refl) found (is_right (name_at d o) (is_wrong_number known d (meaning d o n)) n (free_place (wrong_kind known d) d uses_free _ s)) in
        let l = sort_label d r.number (known.typeless r.number) r.right in
        let w = label_width o r.number n r.declared l.0 l.1 in
        record { label = record { number = r.number; declared = r.declared; is = l.0 }; width = w.0; field = w.1 }

    shown_child : (o : ℕ) (n : List ℕ) → Stands d (at o regions.Syntax [] (places.Shown n)) → IsChild d o n
    shown_child o n s =
        let found : stands d o n ≡ true = is_found (name_at d o) (stands d o n) n (free_place (unknown d) d stand _ s) in
        let r = rightly d o n (is_wrong_shown known d) (λ k. refl) found (is_right (name_at d o) (is_wrong_shown known d (meaning d o n)) n (free_place (wrong_kind known d) d uses_free _ s)) in
        sort_child d o n r.number _ _ r.declared r.right

    part_fits : (o : ℕ) (part : SyntaxPart) → AllStand d (part_places o part) → FitsPart d o part
    part_fits o (parts.Literal text) s = tt
    part_fits o (parts.Number n format) s = number_fits o n format (s _ (inl refl))
    part_fits o (parts.Child n) s = shown_child o n (s _ (inl refl))

    pub syntax_fits : (o : ℕ) (all : List SyntaxItem) → AllStand d (parts_places o all) → FitsSyntax d o all
    syntax_fits o [] s = tt
    syntax_fits o (item ∷ rest) s = (
      part_fits o item.part (λ a h. s a (among_left a (part_places o item.part) (parts_places o rest) h)),
      syntax_fits o rest (λ a h. s a (among_right a (part_places o item.part) (parts_places o rest) h)),
    )

  -- ---- aliases

  unlike : (a b : List ℕ) → same_name a b ≡ false → a ≢ b
  unlike a b e = λ same. absurd (cc (sym (ap (same_name a) same ∙ e), nat_list_eq_equiv.refl a))

  no_references_in : (all : List DeclareTree) → has_references all ≡ false → AllByRecursion IsNoReference all
  no_references_in [] e = tt
  no_references_in (trees.Reference names ∷ rest) e = absurd (cc e)
  no_references_in (trees.Group names alternatives ∷ rest) e = (λ m same. absurd (cc same), no_references_in rest e)
  no_references_in (trees.Instance pairs ∷ rest) e = (λ m same. absurd (cc same), no_references_in rest e)
  no_references_in (trees.Label names ∷ rest) e = (λ m same. absurd (cc same), no_references_in rest e)

  coded : (c : Option CodingTree) → lacks_coding c ≡ false → (all : List CodingItem) × (c ≡ Some (trees.Items all))
  coded None e = absurd (cc e)
  coded (Some (trees.Root register group)) e = absurd (cc e)
  coded (Some (trees.Items all)) e = (all, refl)

  pub alias_fits : (o : ℕ) (operation : OperationTree) → operation.alias ≡ true → Stands d (at o regions.Head [] (places.Head operation)) → FitsAlias operation
  alias_fits o operation is s =
      let w = no_name (name_at d o) (head_name d operation) (free_place (wrong_kind known d) d uses_free _ s) in
      let b = not_faulty (operation.alias && is_wrong_alias operation) operation.name (or_right (stage_name d operation.stage) (faulty (operation.alias && is_wrong_alias operation) operation.name) w) in
      let right : is_wrong_alias operation ≡ false = sym (ap (λ (t : Bool). t && is_wrong_alias operation) is) ∙ b in
      let names = off_left _ _ right in
      let one = off_right _ _ right in
      let two = off_right _ _ one in
      let three = off_right _ _ two in
      let four = off_right _ _ three in
      let five = off_right _ _ four in
      let c = coded (coding_in operation.sections) (off_left _ _ two) in
      record {
        items = c.0;
        coding = c.1;
        no_stage = none_of operation.stage (off_left _ _ one);
        no_references = no_references_in (declares_in operation.sections) (off_left _ _ three);
        no_behavior = none_of (behavior_in operation.sections) (off_left _ _ four);
        no_expression = none_of (expression_in operation.sections) (off_left _ _ five);
        no_activation = none_of (activation_in operation.sections) (off_right _ _ five);
        not_main = unlike operation.name (codes "main") (off_left _ _ names);
        not_reset = unlike operation.name (codes "reset") (off_right _ _ names);
      }
