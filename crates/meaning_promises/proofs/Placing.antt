-- Each assignment that stands sets one place, of the type of what is assigned.
use Rattle.std.proofs.Common.{◌≡◌, ◌⊎◌, ◌<◌, ◌%◌, ◌∙◌, ℕ, zero, suc, true, List, [], ◌∷◌, Option, None, Some, refl, sym, ap, subst, arith, inl, inr, ⊎_elim}
use Rattle.std.specs.Prelude.{slice_get}
use Rattle.std.specs.Map.{lookup}
use Rattle.std.proofs.lemmas.Option.{same_Some}
use Rattle.lisa_words.specs.declared.words.Kind.{Kind}
use Rattle.lisa_tree.specs.declared.tokens.Shape.{Shape}
use Rattle.lisa_tree.specs.Expressions as exprs
use Rattle.lisa_tree.specs.Expressions.{ExprTree}
use Rattle.lisa_tree.specs.Descriptions as trees
use Rattle.lisa_tree.specs.Descriptions.{ResourceTree, DescriptionTree}
use Rattle.description_places.specs.declared.scopes.Local.{Local}
use Rattle.description_places.specs.declared.sites.Region.{Region}
use Rattle.description_places.specs.declared.sites.Region.TheVariants as regions
use Rattle.description_places.specs.Scopes.{Scope, local_named}
use Rattle.description_places.specs.Places as places
use Rattle.description_places.specs.Places.{at, uses, targets}
use Rattle.lisa_tree.specs.declared.declared.Meaning.{Meaning}
use Rattle.lisa_tree.specs.declared.declared.Meaning.TheVariants as meanings
use Rattle.lisa_tree.specs.declared.declared.What.{What}
use Rattle.lisa_tree.specs.declared.declared.What.TheVariants as whats
use Rattle.lisa_tree.specs.Same.{same_name}
use Rattle.lisa_tree.specs.Resources.{resource_at}
use Rattle.lisa_tree.specs.Declarations.{Entry, entries, declared_at, what_at}
use Rattle.lisa_tree.specs.Meanings.{meaning, meaning_of}
use Rattle.lisa_tree.specs.Paths.{entry_node}
use Rattle.description_graph.proofs.Hits.{found}
use Rattle.description_graph.proofs.Nodes.{alternatives_below}
use Rattle.description_types.specs.declared.values.Assignable.{Assignable}
use Rattle.description_types.specs.declared.values.Assignable.TheVariants as assigns
use Rattle.description_types.specs.declared.values.TypeOf.{TypeOf}
use Rattle.description_types.specs.declared.values.TypeOf.TheVariants as types
use Rattle.description_types.specs.Facts.{entry_value}
use Rattle.description_types.specs.Kinds.{assignable_fact}
use Rattle.description_types.specs.Steady.{assignables_steady}
use Rattle.description_types.specs.Tables.{apart as set_apart, unfit}
use Rattle.description_types.specs.Types.{typed, word_shape, element_shape, meant_type, or_meant_type, meant_element, or_meant_element, type_of, element_type}
use Rattle.stage_checks.specs.Resets.{is_scalar}
use Rattle.lisa_meaning.specs.lisa_machine.Assigning.{IsPlace, register, element, declared}
use Rattle.lisa_meaning.specs.lisa_machine.Freedom.{Stands, AllStand}
use Rattle.lisa_meaning.specs.lisa_machine.Resolving.{IsArray, IsOutput, writes_local, writes_register, writes_value, Writable, IsDepth, FitsResource}
use Rattle.lisa_meaning.specs.lisa_machine.Soundness.{IsSound}
use Rattle.lisa_meaning.proofs.lisa_machine_proofs.Assigned.{written, child_yes, reference_yes, operation_yes}
use Rattle.lisa_meaning.proofs.lisa_machine_proofs.Chosen.{plain_listed}
use Rattle.lisa_meaning.proofs.lisa_machine_proofs.Named.{what_is}
use Rattle.lisa_meaning.proofs.lisa_machine_proofs.Resolved.{read_element, written_element, writes_output, writable, resource_fits}
use Rattle.lisa_meaning.proofs.lisa_machine_proofs.Standing.{expression_stand}
use Rattle.lisa_meaning.proofs.lisa_machine_proofs.Settling.{entry_is}
use Rattle.meant_declarations.specs.Meant.{MayMean, itself, higher}
use Rattle.lisa_meaning.specs.use_promises.Meant.{ChoosesFrom}
use Rattle.lisa_meaning.specs.use_promises.Using.{IsChildEntry, ChildrenMayRun}
use Rattle.lisa_meaning.proofs.use_promises_proofs.Used.{reads_run, writes_run}
use Rattle.lisa_meaning.proofs.use_promises_proofs.References.{definite}
use Rattle.lisa_meaning.specs.description_sizes.Texts.{levels}
use Rattle.lisa_meaning.specs.instruction_forms.Trees.{FormTree}
use Rattle.typed_values.specs.Words.{TypedWord, fitted}
use Rattle.typed_values.specs.Words as words
use Rattle.typed_values.specs.Effects.{local_put}
use Rattle.lisa_meaning.specs.Scenes.{Link, Scene, first_operation, home, child_at_home}
use Rattle.lisa_meaning.specs.Moments.{Moment, with_locals, bare}
use Rattle.lisa_meaning.specs.Values.{register_place, array_place, array_of, meant_array, named_array, field_place, value_of}
use Rattle.lisa_meaning.specs.Effects.{Given, resource_put, element_put, out_with, out_put, PutBelow, put_below, child_put, meant_put, name_put, put_within}
use Rattle.lisa_meaning.proofs.Above.{named_by}
use Rattle.lisa_meaning.proofs.Paths.{Home, home_of, ranks}
use Rattle.meaning_promises.specs.Scoping.{AreLocalsOf}
use Rattle.meaning_promises.specs.Running.{IsPath, PartsStand, Runs}
use Rattle.meaning_promises.specs.Spots.{Spot, LocalSpot, RegisterSpot, ElementSpot, OutSpot, set_spot, IsSpotOf, SetsSpot, IsTarget}
use Rattle.meaning_promises.proofs.Locals.{Found, none, one, find_local}
use Rattle.lisa_meaning.specs.machine_parts.Parts.{item, array, array_in, register_in}
use Rattle.meaning_promises.proofs.Fitted.{placed, rest_in}
use Rattle.meaning_promises.proofs.Children.{as_path, is_path, home_parts, child_low, Child, child_there, apart}
use Rattle.meaning_promises.proofs.Fields.{place_there}
use Rattle.meaning_promises.proofs.Reading.{known, Expressed, expressed, On, Within, enough}

-- a spot that isn't a local stands in the memory or in a boundary
abbrev IsOuter : Spot → Type 0
IsOuter (LocalSpot n shape) = ⊥
IsOuter (RegisterSpot place shape) = Unit {0}
IsOuter (ElementSpot place index shape) = Unit {0}
IsOuter (OutSpot stage field shape) = Unit {0}

outer_bare : (spot : Spot) (given : Given) (m : Moment) → IsOuter spot → with_locals m.locals (set_spot spot given (bare m)) ≡ set_spot spot given m
outer_bare (LocalSpot n shape) given m out = absurd out
outer_bare (RegisterSpot place shape) given m out = refl
outer_bare (ElementSpot place index shape) given m out = refl
outer_bare (OutSpot stage field shape) given m out = refl

-- what is assigned through names sets one such spot
record SetsOuter (d : DescriptionTree) (type : Option Shape) (m : Moment) (assign : Given → Moment) : Type 0 where
  pub sets : SetsSpot d [] type m assign
  pub outer : IsOuter sets.spot

-- whatever locals are in scope
outer_stands : (d : DescriptionTree) (spot : Spot) (scope : Scope) → IsOuter spot → IsSpotOf d [] spot → IsSpotOf d scope spot
outer_stands d (LocalSpot n shape) scope out stands = absurd out
outer_stands d (RegisterSpot place shape) scope out stands = stands
outer_stands d (ElementSpot place index shape) scope out stands = stands
outer_stands d (OutSpot stage field shape) scope out stands = stands

lifted : (d : DescriptionTree) (scope : Scope) (type : Option Shape) (m : Moment) (assign : Given → Moment) → SetsOuter d type m assign → SetsSpot d scope type m assign
lifted d scope type m assign r = record { spot = r.sets.spot; stands = outer_stands d r.sets.spot scope r.outer r.sets.stands; typed = r.sets.typed; sets = r.sets.sets }

module _ (d : DescriptionTree) (s : IsSound d) where
  abbrev assignables : ℕ → Option Assignable
  assignables = s.known.assignables

  -- ---- resources

  scalar_set : (k : ℕ) (r : Option ResourceTree) (m : Moment) → slice_get d.resources k ≡ r → is_scalar r ≡ true → SetsOuter d (word_shape r) m (λ given. resource_put d k r given m)
  scalar_set k None m is e = absurd (cc e)
  scalar_set k (Some (trees.Register word shape name None)) m is e = record { sets = record { spot = RegisterSpot (register_place d k) shape; stands = (item shape name, placed register_in d.resources k (trees.Register word shape name None) (item shape name) is refl, refl); typed = refl; sets = λ given. refl }; outer = tt }
  scalar_set k (Some (trees.Register word shape name (Some depth))) m is e = absurd (cc e)
  scalar_set k (Some (trees.Clocked word shape name)) m is e = record { sets = record { spot = RegisterSpot (register_place d k) shape; stands = (item shape name, placed register_in d.resources k (trees.Clocked word shape name) (item shape name) is refl, refl); typed = refl; sets = λ given. refl }; outer = tt }
  scalar_set k (Some (trees.Memory word shape name depth)) m is e = absurd (cc e)
  scalar_set k (Some (trees.Pin shape name)) m is e = absurd (cc e)
  scalar_set k (Some (trees.Pipeline name stages)) m is e = absurd (cc e)
  scalar_set k (Some (trees.Fields pipe fields)) m is e = absurd (cc e)

  -- an element of an array of this depth
  cell_set : (k : ℕ) (r : ResourceTree) (own : Shape) (name : List ℕ) (depth index : ℕ) (m : Moment) → slice_get d.resources k ≡ Some r → array_in r ≡ Some (array own name depth) → IsDepth depth
      → SetsOuter d (Some own) m (λ given. element_put (Some (record { place = array_place d k; shape = own; depth = depth })) index given m)
  cell_set k r own name depth index m is f deep =
      let least = deep.1 in
      let most = deep.2 in
      let low = rest_in index depth (omega (arith, least)) in
      let inside : index % depth < (array own name depth).depth = omega (arith, low, most) in
      record {
        sets = record {
          spot = ElementSpot (array_place d k) (index % depth) own;
          stands = (array own name depth, placed array_in d.resources k r (array own name depth) is f, refl, inside);
          typed = refl;
          sets = λ given. refl;
        };
        outer = tt;
      }

  array_set : (k : ℕ) (r : Option ResourceTree) (index : ℕ) (shape : Shape) (m : Moment) → slice_get d.resources k ≡ r → element_shape r ≡ Some shape → SetsOuter d (element_shape r) m (λ given. element_put (array_of d k r) index given m)
  array_set k None index shape m is e = absurd (cc e)
  array_set k (Some (trees.Register word own name None)) index shape m is e = absurd (cc e)
  array_set k (Some (trees.Register word own name (Some depth))) index shape m is e =
      let f : FitsResource (trees.Register word own name (Some depth)) = resource_fits d s.widths s.depths k _ is in
      cell_set k (trees.Register word own name (Some depth)) own name depth index m is refl f.1
  array_set k (Some (trees.Clocked word own name)) index shape m is e = absurd (cc e)
  array_set k (Some (trees.Memory word own name depth)) index shape m is e =
      let f : FitsResource (trees.Memory word own name depth) = resource_fits d s.widths s.depths k _ is in
      cell_set k (trees.Memory word own name depth) own name depth index m is refl f.1
  array_set k (Some (trees.Pin own name)) index shape m is e = absurd (cc e)
  array_set k (Some (trees.Pipeline name stages)) index shape m is e = absurd (cc e)
  array_set k (Some (trees.Fields pipe fields)) index shape m is e = absurd (cc e)

  element_set : (o : ℕ) (scope : Scope) (n : List ℕ) (index : ℕ) (m : Moment) → IsArray d o scope n → SetsOuter d (or_meant_element d o n (local_named n scope)) m (λ given. element_put (named_array d o n) index given m)
  element_set o scope n index m a =
      subst (λ (r : Option Local). SetsOuter d (or_meant_element d o n r) m (λ given. element_put (named_array d o n) index given m)) (sym a.is.no_local)
      (subst (λ (w : Meaning). SetsOuter d (meant_element d w) m (λ given. element_put (meant_array d w) index given m)) (sym meant)
      (array_set a.is.number (slice_get d.resources a.is.number) index a.shape m refl (ap element_shape a.is.is ∙ a.elements)))
    where
      meant : meaning d o n ≡ meanings.Resource a.is.number
      meant = ap (λ (r : Option ℕ). meaning_of r (resource_at d n)) a.is.undeclared ∙ ap (meaning_of None) a.is.named

  -- ---- what may be assigned along what a name may mean

  meant_yes : {i j : ℕ} → MayMean d i j → assignables (entry_node d i) ≡ Some assigns.Yes → assignables (entry_node d j) ≡ Some assigns.Yes
  meant_yes (itself e is other same) y = sym (ap (λ (z : ℕ). assignables (entry_node d z)) same) ∙ y
  meant_yes (higher e p k is what h at more) y =
      let r = reference_yes d s.known s.kinds s.names s.stand s.uses _ e is what y p h in
      let same : r.0 ≡ k = same_Some r.0 k (sym r.1 ∙ at) in
      meant_yes more (sym (ap (λ (z : ℕ). assignables (entry_node d z)) same) ∙ r.2)

  -- a label isn't assigned
  no_label : (j : ℕ) (e : Entry) → slice_get (entries d) j ≡ Some e → assignables (entry_node d j) ≡ Some assigns.Yes → e.what ≡ whats.Label → ⊥
  no_label j e is y what = off (sym (entry_is d s.known s.names s.stand s.uses (assignable_fact d (set_apart s.known.traits) (unfit s.known.traits s.known.typeless)) (assignables_steady d (set_apart s.known.traits) (unfit s.known.traits s.known.typeless)) assignables s.kinds.assignables j e is
      ∙ ap (λ (x : What). entry_value d (assignable_fact d (set_apart s.known.traits) (unfit s.known.traits s.known.typeless)) assignables j (Some x)) what) ∙ y)
    where
      off : Some assigns.No ≡ Some assigns.Yes → ⊥
      off f = absurd (cc f)

  child_entry : (i j : ℕ) (e : Entry) → MayMean d i j → slice_get (entries d) j ≡ Some e → assignables (entry_node d i) ≡ Some assigns.Yes → IsChildEntry e
  child_entry i j e means is may = by e.what refl
    where
      by : (w : What) → e.what ≡ w → IsChildEntry e
      by (whats.Group c) what = (c, inl what)
      by (whats.Instance c) what = (c, inr what)
      by whats.Label what = absurd (no_label j e is (meant_yes means may) what)
      by whats.Reference what = absurd (definite d means e is what)

  shape_known : (r : Option TypeOf) (t : Shape) → typed r ≡ Some t → r ≡ Some (types.Typed t)
  shape_known None t e = absurd (cc e)
  shape_known (Some types.NoType) t e = absurd (cc e)
  shape_known (Some types.Refused) t e = absurd (cc e)
  shape_known (Some (types.Typed u)) t e = ap (λ (x : Shape). Some (types.Typed x)) (same_Some u t e)

  module _ (form : Option FormTree) (word : ℕ) where
    abbrev Puts : ℕ → PutBelow
    Puts a path e given m = put_within a d (On d s form word path) e given m

    -- each EXPRESSION that is a place sets one spot, so many levels deep
    abbrev Inner : ℕ → Type 0
    Inner a = (here : Link) (above : List Link) (m : Moment) (e : ExprTree) (t : Shape) → Within d s form word a here above → IsPlace assignables d here.operation e → AllStand d (uses here.operation regions.Expression [] e)
        → type_of (known d s) d here.operation [] e ≡ Some t → SetsOuter d (Some t) (bare m) (λ given. put_within a d (On d s form word (here ∷ above)) e given (bare m))

    module _ (a : ℕ) (deeper : Inner a) (here : Link) (above : List Link) (within : Within d s form word (suc a) here above) where
      -- through a declared name
      through : (m : Moment) (n : List ℕ) (i : ℕ) → declared_at d here.operation n ≡ Some i → ChildrenMayRun d i → assignables (entry_node d i) ≡ Some assigns.Yes → (t : Shape) → known d s (entry_node d i) ≡ Some (types.Typed t)
          → SetsOuter d (Some t) m (λ given. child_put (Puts a) d (child_at_home d form n (home d n (here ∷ above))) given m)
      through m n i at runs may t type = by (found d h.here.operation n h.number h.declared).e (found d h.here.operation n h.number h.declared).at
        where
          h : Home d s n (here ∷ above) i
          h = home_of d s n here above i (as_path d (here ∷ above) within.path) at

          parts : PartsStand d (h.here ∷ h.above)
          parts = subst (PartsStand d) h.is (home_parts d n (here ∷ above) within.parts)

          below : (e : Entry) → slice_get (entries d) h.number ≡ Some e → (c : ℕ) → ChoosesFrom e c → (x : Child d s n form c h.here h.above) → SetsOuter d (Some t) m (λ given. child_put (Puts a) d (x.link ∷ h.here ∷ h.above) given m)
          below e is c which x =
              let p = x.link.operation in
              let w : (what_at d h.number ≡ Some (whats.Group c)) ⊎ (what_at d h.number ≡ Some (whats.Instance c)) =
              ⊎_elim (λ f. inl (what_is d h.number e is ∙ ap (λ (v : What). Some v) f)) (λ f. inr (what_is d h.number e is ∙ ap (λ (v : What). Some v) f)) which
              in
              let own = child_yes d s.known s.kinds s.names s.stand s.uses h.number c w (meant_yes h.means may) p x.plain in
              let y = operation_yes d s.known s.kinds s.names s.stand s.uses p (alternatives_below d c p (plain_listed d c p x.plain)) own in
              let z : Expressed d s p t = expressed d s t i h.number c e p type h.means is which x.plain in
              let same : z.expression ≡ y.0 = same_Some z.expression y.0 (sym z.is ∙ y.1) in
              let y_type : type_of (known d s) d p [] y.0 ≡ Some t = ap (type_of (known d s) d p []) (sym same) ∙ z.type in
              let named = named_by d h.here.operation n p x.listed in
              let one_number : h.number ≡ named.number = same_Some h.number named.number (sym h.declared ∙ named.declared) in
              let falls = child_low d (ranks d s) here.operation i h.here.operation n p at x.listed (subst (λ (j : ℕ). MayMean d i j) one_number h.means) in
              let low = within.low in
              let there : Within d s form word a x.link (h.here ∷ h.above) = record {
                path = ((n, x.listed), is_path d (h.here ∷ h.above) h.path_is);
                parts = (x.part, parts);
                low = omega (arith, low, falls);
              } in
              let r = deeper x.link (h.here ∷ h.above) m y.0 t there y.2 (expression_stand d p y.0 y.1) y_type in
              record {
                sets = record {
                  spot = r.sets.spot;
                  stands = r.sets.stands;
                  typed = r.sets.typed;
                  sets = λ given.
                      ap (λ (q : Option ExprTree). put_below (Puts a) (x.link ∷ h.here ∷ h.above) q given m) y.1
                      ∙ ap (with_locals m.locals) (r.sets.sets given)
                      ∙ outer_bare r.sets.spot given m r.outer;
                };
                outer = r.outer;
              }

          by : (e : Entry) → slice_get (entries d) h.number ≡ Some e → SetsOuter d (Some t) m (λ given. child_put (Puts a) d (child_at_home d form n (home d n (here ∷ above))) given m)
          by e is =
              let c = child_entry i h.number e h.means is may in
              let run = runs h.number c.0 e h.means is c.1 in
              let x : Child d s n form c.0 h.here h.above =
              child_there d s n form h.here h.above h.number c.0 e h.declared is c.1 (apart d s n h.here.operation h.number c.0 e h.declared is run) parts.0
              in
              subst (λ (p : List Link). SetsOuter d (Some t) m (λ given. child_put (Puts a) d p given m)) (sym (ap (child_at_home d form n) h.is ∙ x.is)) (below e is c.0 c.1 x)

      -- a name that means something else than a local
      declared_set : (m : Moment) (n : List ℕ) (i : ℕ) → declared_at d here.operation n ≡ Some i → ChildrenMayRun d i → assignables (entry_node d i) ≡ Some assigns.Yes → (t : Shape) → known d s (entry_node d i) ≡ Some (types.Typed t)
          → SetsOuter d (Some t) m (λ given. meant_put (Puts a) d (On d s form word (here ∷ above)) n (meaning d here.operation n) given m)
      declared_set m n i at runs may t type =
          subst (λ (w : Meaning). SetsOuter d (Some t) m (λ given. meant_put (Puts a) d (On d s form word (here ∷ above)) n w given m)) (sym (ap (λ (r : Option ℕ). meaning_of r (resource_at d n)) at)) (through m n i at runs may t type)

      register_set : (m : Moment) (n : List ℕ) (k : ℕ) → declared_at d here.operation n ≡ None → resource_at d n ≡ Some k → is_scalar (slice_get d.resources k) ≡ true
          → SetsOuter d (meant_type (known d s) d (meaning d here.operation n)) m (λ given. meant_put (Puts a) d (On d s form word (here ∷ above)) n (meaning d here.operation n) given m)
      register_set m n k off named scalar =
          subst (λ (w : Meaning). SetsOuter d (meant_type (known d s) d w) m (λ given. meant_put (Puts a) d (On d s form word (here ∷ above)) n w given m))
          (sym (ap (λ (r : Option ℕ). meaning_of r (resource_at d n)) off ∙ ap (meaning_of None) named)) (scalar_set k (slice_get d.resources k) m refl scalar)

    inner_set : (a : ℕ) → Inner a
    inner_set zero here above m e t within place stand type = absurd (let low = within.low in omega (arith, low))
    inner_set (suc a) here above m e t within (register n k off named scalar) stand type =
        subst (λ (r : Option Shape). SetsOuter d r (bare m) (λ given. put_within (suc a) d (On d s form word (here ∷ above)) (exprs.Named n) given (bare m))) type
        (register_set a (inner_set a) here above within (bare m) n k off named scalar)
    inner_set (suc a) here above m e t within (element n index) stand type =
        subst (λ (r : Option Shape). SetsOuter d r (bare m) (λ given. put_within (suc a) d (On d s form word (here ∷ above)) (exprs.Element n index) given (bare m))) type
        (element_set here.operation [] n (value_of d (On d s form word (here ∷ above)) (bare m) index).bits (bare m)
        (read_element d s.known s.stand s.uses here.operation regions.Expression [] n (stand (at here.operation regions.Expression [] (places.ReadsElement n)) (inl refl))))
    inner_set (suc a) here above m e t within (declared n i is may) stand type =
        let own : typed (known d s (entry_node d i)) ≡ Some t = ap (λ (r : Option ℕ). meant_type (known d s) d (meaning_of r (resource_at d n))) (sym is) ∙ type in
        declared_set a (inner_set a) here above within (bare m) n i is (reads_run d s.known s.kinds s.names s.stand s.uses here.operation i regions.Expression [] n (stand _ (inl refl)) refl is) may t (shape_known (known d s (entry_node d i)) t own)

    -- ---- a target

    module _ (here : Link) (above : List Link) (within : Within d s form word (suc (levels d)) here above) (region : Region) (scope : Scope) (m : Moment) (are : AreLocalsOf scope m.locals) where
      abbrev Sets : ExprTree → Type 0
      Sets target = SetsSpot d scope (type_of (known d s) d here.operation scope target) m (λ given. put_within (suc (levels d)) d (On d s form word (here ∷ above)) target given m)

      abbrev Meant : List ℕ → Given → Moment
      Meant n given = meant_put (Puts (levels d)) d (On d s form word (here ∷ above)) n (meaning d here.operation n) given m

      meant_set : (n : List ℕ) → Stands d (at here.operation region scope (places.Writes n)) → local_named n scope ≡ None → SetsOuter d (meant_type (known d s) d (meaning d here.operation n)) m (Meant n)
      meant_set n stands no_local = by (writable d s.known s.stand s.uses s.kinds s.names (ranks d s) here.operation region scope n stands)
        where
          by : Writable (known d s) d here.operation scope n → SetsOuter d (meant_type (known d s) d (meaning d here.operation n)) m (Meant n)
          by (writes_local l is counts) = absurd (let h = sym no_local ∙ is in cc h)
          by (writes_register r is scalar) = register_set (levels d) (inner_set (levels d)) here above within m n is.number is.undeclared is.named (ap is_scalar is.is ∙ scalar)
          by (writes_value shape v) =
              let type : meant_type (known d s) d (meaning d here.operation n) ≡ Some shape = ap (λ (r : Option ℕ). meant_type (known d s) d (meaning_of r (resource_at d n))) v.declared ∙ ap typed v.type in
              subst (λ (r : Option Shape). SetsOuter d r m (Meant n)) (sym type)
              (declared_set (levels d) (inner_set (levels d)) here above within m n v.number v.declared
              (writes_run d s.known s.kinds s.names s.stand s.uses here.operation v.number region scope n stands no_local v.declared)
              (written d s.known s.kinds s.names s.stand s.uses (ranks d s) here.operation region scope n stands no_local v.number v.declared) shape v.type)

      name_set : (n : List ℕ) → Stands d (at here.operation region scope (places.Writes n)) → Sets (exprs.Named n)
      name_set n stands = by (find_local n scope m.locals are)
        where
          by : Found n scope m.locals → Sets (exprs.Named n)
          by (none gone away) =
              subst (λ (r : Option Local). SetsSpot d scope (or_meant_type (known d s) d here.operation n r) m (λ given. name_put (Puts (levels d)) d (On d s form word (here ∷ above)) n (lookup (same_name n) m.locals) given m)) (sym gone)
              (subst (λ (r : Option TypedWord). SetsSpot d scope (meant_type (known d s) d (meaning d here.operation n)) m (λ given. name_put (Puts (levels d)) d (On d s form word (here ∷ above)) n r given m)) (sym away)
              (lifted d scope (meant_type (known d s) d (meaning d here.operation n)) m (Meant n) (meant_set n stands gone)))
          by (one l w is there t) = record {
            spot = LocalSpot n l.shape;
            stands = (l, is, refl);
            typed = ap (or_meant_type (known d s) d here.operation n) is;
            sets = λ given.
                ap (λ (r : Option TypedWord). name_put (Puts (levels d)) d (On d s form word (here ∷ above)) n r given m) there
                ∙ ap (λ (k : Kind). with_locals (local_put m.locals n (words.typed k w.width (fitted (given k) w.width))) m) t.kind
                ∙ ap (λ (width : ℕ). with_locals (local_put m.locals n (words.typed l.shape.kind width (fitted (given l.shape.kind) width))) m) t.width;
          }

      output_set : (field : List ℕ) → Stands d (at here.operation region scope (places.WritesOutput field)) → Sets (exprs.Output field)
      output_set field stands =
          let o : IsOutput d here.operation field = writes_output d s.known s.stand s.uses here.operation region scope field stands in
          let f = place_there d field o.shape o.is in
          record {
            spot = OutSpot o.stage f.0 o.shape;
            stands = (f.2, o.next);
            typed = o.is;
            sets = λ given.
                ap (λ (r : Option ℕ). out_put d r (field_place d field) given m) o.own
                ∙ ap (λ (r : Option ℕ). out_put d (Some o.stage) r given m) f.1
                ∙ ap (λ (r : Option Shape). out_with o.stage f.0 r given m) f.2;
          }

      pub target_set : (target : ExprTree) → IsTarget target → AllStand d (targets here.operation region scope target) → Sets target
      target_set (exprs.Named n) is stand = name_set n (stand _ (inl refl))
      target_set (exprs.Element n index) is stand =
          lifted d scope (element_type d here.operation scope n) m _
          (element_set here.operation scope n (value_of d (On d s form word (here ∷ above)) m index).bits m
          (written_element d s.known s.stand s.uses here.operation region scope n (stand (at here.operation region scope (places.WritesElement n)) (inl refl))))
      target_set (exprs.Output field) is stand = output_set field (stand _ (inl refl))
      target_set (exprs.Number v base) is stand = absurd is
      target_set (exprs.Input field) is stand = absurd is
      target_set (exprs.Boundary pipe before after field) is stand = absurd is
      target_set exprs.Decoded is stand = absurd is
      target_set (exprs.Cast shape a) is stand = absurd is
      target_set (exprs.Complement a) is stand = absurd is
      target_set (exprs.Negate a) is stand = absurd is
      target_set (exprs.Two operator a b) is stand = absurd is
      target_set (exprs.Choose c a b) is stand = absurd is

  pub scene_sets : (scene : Scene) (region : Region) (scope : Scope) (m : Moment) (target : ExprTree) → Runs d scene → AreLocalsOf scope m.locals → IsTarget target → AllStand d (targets (first_operation scene.path) region scope target)
      → SetsSpot d scope (type_of (known d s) d (first_operation scene.path) scope target) m (λ given. put_within (suc (levels d)) d scene target given m)
  scene_sets scene region scope m target runs are is stand = by scene.path runs.path runs.parts stand
    where
      by : (path : List Link) → IsPath d path → PartsStand d path → AllStand d (targets (first_operation path) region scope target)
          → SetsSpot d scope (type_of (known d s) d (first_operation path) scope target) m (λ given. put_within (suc (levels d)) d (On d s scene.form scene.word path) target given m)
      by [] path parts stand = absurd path
      by (here ∷ above) path parts stand =
          target_set scene.form scene.word here above (enough d s scene.form scene.word here above path parts (suc (levels d)) (omega arith)) region scope m are target is stand
