-- Under a guard that is 1 an assignment assigns, through all names of children that lead there.
use Rattle.std.proofs.Common.{◌≡◌, ◌⊎◌, ◌≤◌, ◌∙◌, ℕ, zero, suc, List, [], ◌∷◌, Option, None, Some, refl, sym, ap, subst, arith, inl, inr, ⊎_elim}
use Rattle.std.specs.Prelude.{slice_get}
use Rattle.std.specs.List.{AllZip}
use Rattle.std.specs.Map.{lookup}
use Rattle.std.proofs.lemmas.Option.{same_Some}
use Rattle.lisa_words.specs.declared.words.Kind.{Kind}
use Rattle.lisa_tree.specs.Expressions as exprs
use Rattle.lisa_tree.specs.Expressions.{ExprTree}
use Rattle.lisa_tree.specs.Descriptions.{DescriptionTree}
use Rattle.description_places.specs.declared.sites.Region.{Region}
use Rattle.description_places.specs.declared.sites.Region.TheVariants as regions
use Rattle.description_places.specs.Scopes as places
use Rattle.description_places.specs.Scopes.{local_named}
use Rattle.description_places.specs.Places as marks
use Rattle.description_places.specs.Places.{at, uses, targets}
use Rattle.lisa_tree.specs.declared.declared.What.{What}
use Rattle.lisa_tree.specs.declared.declared.What.TheVariants as whats
use Rattle.lisa_tree.specs.declared.declared.Meaning.TheVariants as meanings
use Rattle.lisa_tree.specs.Same.{same_name}
use Rattle.lisa_tree.specs.Resources.{resource_at}
use Rattle.lisa_tree.specs.Operations.{sections_at, expression_in}
use Rattle.lisa_tree.specs.Declarations.{Entry, entries, declared_at, what_at}
use Rattle.lisa_tree.specs.Meanings.{meaning_of}
use Rattle.lisa_tree.specs.Paths.{entry_node}
use Rattle.description_graph.proofs.Hits.{found}
use Rattle.description_graph.proofs.Nodes.{alternatives_below}
use Rattle.description_types.specs.declared.values.Assignable.{Assignable}
use Rattle.description_types.specs.declared.values.Assignable.TheVariants as answers
use Rattle.description_types.specs.Facts.{entry_value}
use Rattle.description_types.specs.Kinds.{assignable_fact}
use Rattle.description_types.specs.Steady.{assignables_steady}
use Rattle.description_types.specs.Tables.{apart as set_apart, unfit}
use Rattle.scene_paths.specs.lisa_machine.Assigning.{IsPlace as IsAssignable, register, element, declared}
use Rattle.scene_paths.specs.lisa_machine.Freedom.{Stands, AllStand}
use Rattle.scene_paths.specs.lisa_machine.Soundness.{IsSound}
use Rattle.scene_paths.proofs.lisa_machine_proofs.Assigned.{written, child_yes, reference_yes, operation_yes}
use Rattle.scene_paths.proofs.lisa_machine_proofs.Chosen.{plain_listed}
use Rattle.scene_paths.proofs.lisa_machine_proofs.Named.{what_is}
use Rattle.scene_paths.proofs.lisa_machine_proofs.Standing.{expression_stand}
use Rattle.scene_paths.proofs.lisa_machine_proofs.Settling.{entry_is}
use Rattle.scene_paths.specs.description_sizes.Texts.{levels}
use Rattle.meant_declarations.specs.Meant.{MayMean, itself, higher}
use Rattle.scene_paths.specs.use_promises.Using.{IsChildEntry, ChildrenMayRun}
use Rattle.scene_paths.proofs.use_promises_proofs.Used.{reads_run, writes_run}
use Rattle.scene_paths.proofs.use_promises_proofs.References.{definite}
use Rattle.lowered_words.specs.instruction_forms.Trees.{FormTree}
use Rattle.step_program.specs.Programs.{Program, Expr}
use Rattle.step_program.specs.Effects as steps
use Rattle.typed_values.specs.Words.{TypedWord}
use Rattle.scene_paths.specs.lisa_meaning.Scenes.{Link, Scene, child_at_home}
use Rattle.scene_paths.specs.lisa_meaning.Moments.{Moment, bare, with_locals}
use Rattle.scene_paths.specs.lisa_meaning.Effects as effects
use Rattle.scene_paths.specs.lisa_meaning.Effects.{PutBelow, doing, put_within}
use Rattle.scene_paths.proofs.lisa_meaning_proofs.Above.{named_by}
use Rattle.scene_paths.proofs.lisa_meaning_proofs.Paths as paths
use Rattle.scene_paths.proofs.lisa_meaning_proofs.Paths.{Home, ranks}
use Rattle.lowered_resources.specs.meaning_promises.Running.{PartsStand}
use Rattle.lowered_resources.proofs.meaning_promises_proofs.Children.{as_path, is_path, home_parts, child_low, Child, child_there, apart}
use Rattle.lowered_resources.proofs.meaning_promises_proofs.Reading.{On, Within, enough}
use Rattle.step_pieces.specs.Pieces.{Piece}
use Rattle.step_pieces.specs.Running.{ran}
use Rattle.step_pieces.specs.Formed.{Lies}
use Rattle.step_pieces.proofs.Rested.{low_up}
use Rattle.lowered_values.specs.Operands.{StandsFor}
use Rattle.lowered_values.proofs.Lowering.{stands_on}
use Rattle.lowered_statements.specs.Scopes.{Scope, names_of, IsScope}
use Rattle.lowered_statements.specs.Agreement.{Agrees, Spares, IsGuard, Leads, AreGiven, Idles}
use Rattle.lowered_statements.proofs.Scoped.{scope_low}
use Rattle.lowered_resources.specs.Putting.{Given, Stores, Reads, puts}
use Rattle.lowered_resources.specs.Holding.{Holds}
use Rattle.lowered_resources.specs.Laws.{IsPlace, ReadsIndex}
use Rattle.lowered_resources.proofs.Assigning.{puts_lead}
use Rattle.lowered_resources.proofs.Locals.{no_local}
use Rattle.lowered_behaviors.specs.Standpoints.{Standpoint, running, alternatives}
use Rattle.lowered_behaviors.specs.Values.{Ground}
use Rattle.lowered_behaviors.specs.Behaviors.{reads_at, store_at, puts_with, puts_within}
use Rattle.lowered_behaviors.specs.Agreement.{IsLink, HasWord, HoldsIn, AreNames}
use Rattle.lowered_behaviors.specs.Laws.{IsGround}
use Rattle.lowered_behaviors.proofs.Scratch.{value_scratch}
use Rattle.lowered_behaviors.proofs.Choosing.{IsOn, AreChosen, flag_tells, alternatives_chosen}
use Rattle.lowered_behaviors.proofs.Once.{named_once}
use Rattle.lowered_behaviors.proofs.Resting.{Acting, puts_idle, stored_rests}
use Rattle.lowered_behaviors.proofs.Kept.{its_sound, word_kept, holds_else}
use Rattle.lowered_behaviors.proofs.Sources.{no_standing}
use Rattle.lowered_behaviors.proofs.Evaluating.{IsHere, here_lasts, scope_down, evaluates}
use Rattle.lowered_behaviors.proofs.Acting.{Tells, one_acts}
use Rattle.lowered_behaviors.proofs.Putting.{guard_down, guard_alone, free_low, spares_alone, locals_spared, IsTargetAt, place_there, IsThrough, target_sort, through_is, index_lies, index_formed, given_up, child_act}

module _ (d : DescriptionTree) (s : IsSound d) where
  abbrev assignables : ℕ → Option Assignable
  assignables = s.known.assignables

  -- ---- what may be assigned along what a name may mean

  meant_yes : {i j : ℕ} → MayMean d i j → s.known.assignables (entry_node d i) ≡ Some answers.Yes → s.known.assignables (entry_node d j) ≡ Some answers.Yes
  meant_yes (itself e is other same) y = sym (ap (λ (z : ℕ). s.known.assignables (entry_node d z)) same) ∙ y
  meant_yes (higher e p k is what h at more) y =
      let r = reference_yes d s.known s.kinds s.names s.stand s.uses _ e is what y p h in
      let same : r.0 ≡ k = same_Some r.0 k (sym r.1 ∙ at) in
      meant_yes more (sym (ap (λ (z : ℕ). s.known.assignables (entry_node d z)) same) ∙ r.2)

  no_label : (j : ℕ) (e : Entry) → slice_get (entries d) j ≡ Some e → s.known.assignables (entry_node d j) ≡ Some answers.Yes → e.what ≡ whats.Label → ⊥
  no_label j e is y what = off (sym (entry_is d s.known s.names s.stand s.uses (assignable_fact d (set_apart s.known.traits) (unfit s.known.traits s.known.typeless)) (assignables_steady d (set_apart s.known.traits) (unfit s.known.traits s.known.typeless)) s.known.assignables s.kinds.assignables j e is
      ∙ ap (λ (x : What). entry_value d (assignable_fact d (set_apart s.known.traits) (unfit s.known.traits s.known.typeless)) s.known.assignables j (Some x)) what) ∙ y)
    where
      off : Some answers.No ≡ Some answers.Yes → ⊥
      off f = absurd (cc f)

  child_entry : (i j : ℕ) (e : Entry) → MayMean d i j → slice_get (entries d) j ≡ Some e → s.known.assignables (entry_node d i) ≡ Some answers.Yes → IsChildEntry e
  child_entry i j e means is may = by e.what refl
    where
      by : (w : What) → e.what ≡ w → IsChildEntry e
      by (whats.Group c) what = (c, inl what)
      by (whats.Instance c) what = (c, inr what)
      by whats.Label what = absurd (no_label j e is (meant_yes means may) what)
      by whats.Reference what = absurd (definite d means e is what)

  -- ---- targets

  -- a declared name that may be assigned, and runs
  pub record MayPut (i : ℕ) : Type 0 where
    pub runs : ChildrenMayRun d i
    pub may : s.known.assignables (entry_node d i) ≡ Some answers.Yes

  abbrev pub MayGoThrough : ℕ → places.Scope → ExprTree → Type 0
  MayGoThrough o standing target = (n : List ℕ) (i : ℕ) → target ≡ exprs.Named n → local_named n standing ≡ None → declared_at d o n ≡ Some i → MayPut i

  -- of a statement
  pub target_through : (o : ℕ) (region : Region) (standing : places.Scope) (target : ExprTree) → AllStand d (targets o region standing target) → MayGoThrough o standing target
  target_through o region standing target stand n i same none named_is =
      let there : Stands d (at o region standing (marks.Writes n)) = subst (λ (e : ExprTree). AllStand d (targets o region standing e)) same stand (at o region standing (marks.Writes n)) (inl refl) in
      record {
        runs = writes_run d s.known s.kinds s.names s.stand s.uses o i region standing n there none named_is;
        may = written d s.known s.kinds s.names s.stand s.uses (ranks d s) o region standing n there none i named_is;
      }

  -- of an EXPRESSION
  pub place_through : (o : ℕ) (e : ExprTree) → IsAssignable s.known.assignables d o e → AllStand d (uses o regions.Expression [] e) → MayGoThrough o [] e
  place_through o e (register m k off named scalar) stand n i same none named_is =
      let own : declared_at d o n ≡ None = ap (λ (x : ExprTree). declared_of x) (sym same) ∙ off in
      absurd (cc (sym own ∙ named_is))
    where
      declared_of : ExprTree → Option ℕ
      declared_of (exprs.Named n) = declared_at d o n
      declared_of _ = None
  place_through o e (element m index) stand n i same none named_is = absurd (cc same)
  place_through o e (declared m j is may) stand n i same none named_is =
      let there : Stands d (at o regions.Expression [] (marks.Reads n)) = subst (λ (x : ExprTree). AllStand d (uses o regions.Expression [] x)) same stand (at o regions.Expression [] (marks.Reads n)) (inl refl) in
      let one : Some i ≡ Some j = sym named_is ∙ ap (λ (x : ExprTree). declared_of x) (sym same) ∙ is in
      record {
        runs = reads_run d s.known s.kinds s.names s.stand s.uses o i regions.Expression [] n there refl named_is;
        may = ap (λ (k : ℕ). s.known.assignables (entry_node d k)) (same_Some i j one) ∙ may;
      }
    where
      declared_of : ExprTree → Option ℕ
      declared_of (exprs.Named n) = declared_at d o n
      declared_of _ = None

module _ (g : Ground) (p : Program) (before pins : List ℕ) (first lasts : ℕ) (ground : IsGround g p first lasts) (call : List Link → Moment → Moment) where
  abbrev pub s_put : IsSound g.description
  s_put = its_sound g p before pins first lasts ground

  abbrev run : steps.Moment → Piece → steps.Moment
  run now a = ran p before pins now a.moves

  abbrev LeadsIn : (scene : Scene) (from : ℕ) → Scope → Moment → steps.Moment → steps.Moment → Type 0
  LeadsIn scene from scope m a b = Leads (doing call g.description scene) p before pins (HoldsIn g scene p before pins) lasts from scope scope m a b

  -- what leads where resources alone are looked at does so with the word
  pub with_word : (scene : Scene) (from : ℕ) (scope : Scope) (m : Moment) (a b : steps.Moment) → IsScope p lasts from scope → HasWord g.description g.width g.row scene a
      → Leads (doing call g.description scene) p before pins (Holds g.description g.places p before pins) ground.told from scope scope m a b → LeadsIn scene from scope m a b
  with_word scene from scope m a b is word r =
      let up = scope_low p lasts from scope is in
      let low = ground.told_low in
      record {
        agrees = record {
          holds = record {
            holds = r.agrees.holds;
            word = word_kept g p before pins first lasts ground scene a b (λ k least most. r.spares.temps k least (omega (arith, most, up)) (free_low p lasts from scope k most is)) word;
          };
          has = r.agrees.has;
          locals = r.agrees.locals;
        };
        spares = record { room = r.spares.room; temps = λ k least most free. r.spares.temps k (omega (arith, low, least)) most free };
      }

  -- ---- assignments, so many levels deep

  abbrev pub Assigns : ℕ → Type 0
  Assigns more =
      (form : Option FormTree) (word : ℕ) (standpoint : Standpoint) (here : Link) (above : List Link) (region : Region) (scope : Scope) (standing : places.Scope) (guard : Expr) (from : ℕ) (target : ExprTree) (x : Given) (v : Kind → TypedWord)
      (m : Moment) (now : steps.Moment)
      → AllZip (IsLink form) standpoint (here ∷ above) → Within g.description s_put form word more here above → AreNames (names_of scope) standing
      → IsTargetAt g.description here.operation region standing target → MayGoThrough g.description s_put here.operation standing target
      → IsScope p lasts from scope → IsGuard p lasts from scope guard → steps.value p before pins now guard ≡ 1 → AreGiven p from x → ((kind : Kind) → StandsFor p before pins now (x kind) (v kind))
      → Lies p.temps from (puts_within more g standpoint scope guard from target x).widths
      → Agrees (doing call g.description (On g.description s_put form word (here ∷ above))) p before pins (HoldsIn g (On g.description s_put form word (here ∷ above)) p before pins) scope m now
      → LeadsIn (On g.description s_put form word (here ∷ above)) from scope (put_within more g.description (On g.description s_put form word (here ∷ above)) target v m) now (run now (puts_within more g standpoint scope guard from target x))

  module _ (more : ℕ) (deeper : Assigns more) (form : Option FormTree) (word : ℕ) (standpoint : Standpoint) (here : Link) (above : List Link) (region : Region) (scope : Scope) (standing : places.Scope)
      (guard : Expr) (from : ℕ) (target : ExprTree) (x : Given) (v : Kind → TypedWord) (m : Moment) (now : steps.Moment)
      (are : AllZip (IsLink form) standpoint (here ∷ above)) (within : Within g.description s_put form word (suc more) here above) (names : AreNames (names_of scope) standing)
      (there : IsTargetAt g.description here.operation region standing target) (may : MayGoThrough g.description s_put here.operation standing target)
      (is : IsScope p lasts from scope) (guards : IsGuard p lasts from scope guard) (one : steps.value p before pins now guard ≡ 1) (given : AreGiven p from x) (stand : (kind : Kind) → StandsFor p before pins now (x kind) (v kind))
      (alike : running standpoint ≡ here.operation) where
    abbrev scene : Scene
    scene = On g.description s_put form word (here ∷ above)

    abbrev AgreesNow : Type 0
    AgreesNow = Agrees (doing call g.description scene) p before pins (HoldsIn g scene p before pins) scope m now

    abbrev Below : PutBelow
    Below path target given now = put_within more g.description (On g.description s_put form word path) target given now

    abbrev reads : Reads
    reads = reads_at g standpoint

    abbrev stores : Stores
    stores = puts_with g (λ at guard from place x. puts_within more g at [] guard from place x) standpoint

    abbrev piece : ℕ → Piece
    piece o = puts g.description g.places reads stores o scope guard from target x

    le : lasts ≤ from
    le = scope_low p lasts from scope is

    -- ---- places of their own

    index_stands : AgreesNow → Lies p.temps from (piece here.operation).widths → ReadsIndex g.description p before pins reads scope scene from m now target
    index_stands h lies = by target refl
      where
        by : (e : ExprTree) → target ≡ e → ReadsIndex g.description p before pins reads scope scene from m now e
        by (exprs.Element n index) same =
            let t : IsTargetAt g.description here.operation region standing (exprs.Element n index) = subst (IsTargetAt g.description here.operation region standing) same there in
            let lies_index = index_lies g p before pins first lasts ground reads stores here.operation region scope standing guard from target x there lies n index same in (
              value_scratch g (suc (levels g.description)) standpoint scope from index,
              index_formed g p before pins first lasts ground standpoint region scope standing target from names (subst (λ (o : ℕ). IsTargetAt g.description o region standing target) (sym alike) there) is n index same lies_index,
              evaluates g p before pins first lasts ground (suc (levels g.description)) form word standpoint here above region scope standing from index m now are
                  (enough g.description s_put form word here above within.path within.parts (suc (levels g.description)) (omega arith)) names t.1 t.2 is lies_index (record { has = h.has; holds = h.holds }) h.locals,
            )
        by (exprs.Number u base) same = tt
        by (exprs.Named n) same = tt
        by (exprs.Input field) same = tt
        by (exprs.Output field) same = tt
        by (exprs.Boundary pipe first after field) same = tt
        by exprs.Decoded same = tt
        by (exprs.Cast shape a) same = tt
        by (exprs.Complement a) same = tt
        by (exprs.Negate a) same = tt
        by (exprs.Two operator a b) same = tt
        by (exprs.Choose c a b) same = tt

    own : IsPlace g.description here.operation scope target → AgreesNow → Lies p.temps from (piece here.operation).widths
        → LeadsIn scene from scope (put_within (suc more) g.description scene target v m) now (run now (piece here.operation))
    own place h lies =
        let low = ground.told_low in
        with_word scene from scope (put_within (suc more) g.description scene target v m) now (run now (piece here.operation)) is h.holds.word
        (puts_lead g.description g.places p first ground.told ground.placed before pins call scene scope from (scope_down g p before pins first lasts ground ground.told from scope low is) ground.accepted guard
        (guard_down p ground.told lasts from scope guard low guards) x v m now one given stand (record { holds = h.holds.holds; has = h.has; locals = h.locals }) reads stores more target place (index_stands h lies))

    -- ---- through a declared name

    module _ (n : List ℕ) (target_is : target ≡ exprs.Named n) (none : lookup (same_name n) scope ≡ None) (i : ℕ) (is_declared : declared_at g.description here.operation n ≡ Some i) (h : AgreesNow) where
      can : MayPut g.description s_put i
      can = may n i target_is (no_standing n scope standing names none) is_declared

      pub its_home : Home g.description s_put n (here ∷ above) i
      its_home = paths.home_of g.description s_put n here above i (as_path g.description (here ∷ above) within.path) is_declared

      parts_there : PartsStand g.description (its_home.here ∷ its_home.above)
      parts_there = subst (PartsStand g.description) its_home.is (home_parts g.description n (here ∷ above) within.parts)

      abbrev act : Acting
      act = child_act g p before pins first lasts ground more x

      -- the child's EXPRESSION is assigned where it runs
      module _ (link : Link) (e : ExprTree) (e_is : expression_in (sections_at g.description link.operation) ≡ Some e) (place : IsAssignable s_put.known.assignables g.description link.operation e)
          (inside : Within g.description s_put form word more link (its_home.here ∷ its_home.above)) (child_is : child_at_home g.description form n (its_home.here ∷ its_home.above) ≡ link ∷ its_home.here ∷ its_home.above) where
        abbrev path : List Link
        path = link ∷ its_home.here ∷ its_home.above

        abbrev inner : Scene
        inner = On g.description s_put form word path

        abbrev put_there : Moment
        put_there = with_locals m.locals (Below path e v (bare m))

        put_is : put_within (suc more) g.description scene target v m ≡ put_there
        put_is =
            ap (λ (t : ExprTree). effects.put Below g.description scene t v m) target_is
            ∙ ap (λ (r : Option TypedWord). effects.name_put Below g.description scene n r v m) (no_local p before pins n scope m.locals now h.locals none)
            ∙ ap (λ (r : Option ℕ). effects.meant_put Below g.description scene n (meaning_of r (resource_at g.description n)) v m) is_declared
            ∙ ap (λ (q : List Link). effects.child_put Below g.description (child_at_home g.description form n q) v m) its_home.is
            ∙ ap (λ (q : List Link). effects.child_put Below g.description q v m) child_is
            ∙ ap (λ (r : Option ExprTree). effects.put_below Below path r v m) e_is

        pub record Before (then : steps.Moment) : Type 0 where
          pub held : IsHere g p before pins first lasts ground form word (here ∷ above) m then
          pub values : (kind : Kind) → StandsFor p before pins then (x kind) (v kind)

        abbrev After : steps.Moment → Type 0
        After now = IsHere g p before pins first lasts ground form word (here ∷ above) put_there now

        child_idle : (a : Standpoint) → Idles p before pins (act a)
        child_idle a = stored_rests p before pins g (λ guard at place. puts_within more g a [] guard at place x) (λ e. puts_idle p before pins g more a [] e x) (expression_in (sections_at g.description (running a)))

        up_to : (at : ℕ) → from ≤ at → lasts ≤ at
        up_to at up = let u = le in omega (arith, up, u)

        before_tells : Tells p before pins g lasts from le act child_idle form Before
        before_tells = record {
          lasting = λ at a b up r h. record {
            held = here_lasts g p before pins first lasts ground form word (here ∷ above) m at a b (up_to at up) r h.held;
            values = λ kind. stands_on p before pins at (x kind) (v kind) a b (low_up from at (x kind).at up (given kind).low) r (h.values kind);
          };
          has = λ now h. h.held.has;
          flags = λ way now h. flag_tells g.description p before pins g.width g.row scene now h.held.holds.word way;
        }

        after_tells : Tells p before pins g lasts from le act child_idle form After
        after_tells = record {
          lasting = λ at a b up r h. here_lasts g p before pins first lasts ground form word (here ∷ above) put_there at a b (up_to at up) r h;
          has = λ now h. h.has;
          flags = λ way now h. flag_tells g.description p before pins g.width g.row scene now h.holds.word way;
        }

        does : (a : Standpoint) → IsOn form path a → (guard : Expr) (at : ℕ) (now : steps.Moment) → from ≤ at → IsGuard p lasts at [] guard → steps.value p before pins now guard ≡ 1 → Lies p.temps at (act a guard at).widths → Before now
            → After (run now (act a guard at)) × Spares lasts at [] now (run now (act a guard at))
        does [] on guard at now up guards one lies h = absurd on.scene
        does (b ∷ bs) on guard at now up guards one lies h =
            let own : expression_in (sections_at g.description b.operation) ≡ Some e = ap (λ (o : ℕ). expression_in (sections_at g.description o)) (sym on.scene.0.operation) ∙ e_is in
            let piece_is : act (b ∷ bs) guard at ≡ puts_within more g (b ∷ bs) [] guard at e x = ap (store_at (λ (place : ExprTree). puts_within more g (b ∷ bs) [] guard at place x)) own in
            let lies_own = subst (λ (a : Piece). Lies p.temps at a.widths) piece_is lies in
            let stand_e = expression_stand g.description link.operation e e_is in
            let r = deeper form word (b ∷ bs) link (its_home.here ∷ its_home.above) regions.Expression [] [] guard at e x v (bare m) now on.scene inside tt
            (place_there g.description s_put link.operation regions.Expression [] e stand_e (ground.numbers link.operation e e_is)) (place_through g.description s_put link.operation e place stand_e)
            (up_to at up) guards one (given_up g p before pins first lasts ground from at x up given) h.values lies_own
            (record { holds = holds_else g p before pins first lasts ground scene inner [] m now refl refl h.held.holds; has = h.held.has; locals = tt })
            in
            subst (λ (a : Piece). After (run now a) × Spares lasts at [] now (run now a)) (sym piece_is)
            (record { has = r.agrees.has; holds = holds_else g p before pins first lasts ground inner scene m.locals (Below path e v (bare m)) (run now (puts_within more g (b ∷ bs) [] guard at e x)) refl refl r.agrees.holds }, r.spares)

        leads_through : AreChosen form path (alternatives g.description n standpoint) → Lies p.temps from (stores n guard from x).widths
            → LeadsIn scene from scope (put_within (suc more) g.description scene target v m) now (run now (stores n guard from x))
        leads_through chosen lies =
            let r = one_acts p before pins g lasts from le act child_idle form Before After before_tells after_tells path does (alternatives g.description n standpoint) guard from now chosen (omega arith)
            (guard_alone p lasts from scope guard guards) one lies (record { held = record { has = h.has; holds = h.holds }; values = stand })
            in
            subst (λ (n : Moment). LeadsIn scene from scope n now (run now (stores name_of_child guard from x))) (sym put_is) (record {
              agrees = record { holds = r.0.holds; has = r.0.has; locals = locals_spared p before pins lasts lasts from scope m.locals now (run now (stores n guard from x)) (omega arith) is r.1 h.locals };
              spares = spares_alone lasts from scope now (run now (stores n guard from x)) r.1;
            })
          where
            name_of_child : List ℕ
            name_of_child = n

      lead : Lies p.temps from (stores n guard from x).widths → LeadsIn scene from scope (put_within (suc more) g.description scene target v m) now (run now (stores n guard from x))
      lead lies =
          let f = found g.description its_home.here.operation n its_home.number its_home.declared in
          let c = child_entry g.description s_put i its_home.number f.e its_home.means f.at can.may in
          let runs = can.runs its_home.number c.0 f.e its_home.means f.at c.1 in
          let k : Child g.description s_put n form c.0 its_home.here its_home.above =
          child_there g.description s_put n form its_home.here its_home.above its_home.number c.0 f.e its_home.declared f.at c.1 (apart g.description s_put n its_home.here.operation its_home.number c.0 f.e its_home.declared f.at runs) parts_there.0
          in
          let o = k.link.operation in
          let w : (what_at g.description its_home.number ≡ Some (whats.Group c.0)) ⊎ (what_at g.description its_home.number ≡ Some (whats.Instance c.0)) =
          ⊎_elim (λ e. inl (what_is g.description its_home.number f.e f.at ∙ ap (λ (v : What). Some v) e)) (λ e. inr (what_is g.description its_home.number f.e f.at ∙ ap (λ (v : What). Some v) e)) c.1
          in
          let yes = child_yes g.description s_put.known s_put.kinds s_put.names s_put.stand s_put.uses its_home.number c.0 w (meant_yes g.description s_put its_home.means can.may) o k.plain in
          let y = operation_yes g.description s_put.known s_put.kinds s_put.names s_put.stand s_put.uses o (alternatives_below g.description c.0 o (plain_listed g.description c.0 o k.plain)) yes in
          let named = named_by g.description its_home.here.operation n o k.listed in
          let same : its_home.number ≡ named.number = same_Some its_home.number named.number (sym its_home.declared ∙ named.declared) in
          let falls = child_low g.description (ranks g.description s_put) here.operation i its_home.here.operation n o is_declared k.listed (subst (λ (j : ℕ). MayMean g.description i j) same its_home.means) in
          let low = within.low in
          let inside : Within g.description s_put form word more k.link (its_home.here ∷ its_home.above) = record {
            path = ((n, k.listed), is_path g.description (its_home.here ∷ its_home.above) its_home.path_is);
            parts = (k.part, parts_there);
            low = omega (arith, low, falls);
          } in
          leads_through k.link y.0 y.1 y.2 inside k.is
          (alternatives_chosen g.description form n (λ o. named_once g.description s_put o n) standpoint (here ∷ above) are k.link (its_home.here ∷ its_home.above) (ap (child_at_home g.description form n) its_home.is ∙ k.is)) lies

    number_is : (n : List ℕ) (i : ℕ) (r : Option ℕ) → meaning_of r (resource_at g.description n) ≡ meanings.Declared i → r ≡ Some i
    number_is n i (Some j) e = cc e
    number_is n i None e = by (resource_at g.description n) e
      where
        by : (k : Option ℕ) → meaning_of None k ≡ meanings.Declared i → None ≡ Some i
        by None e = absurd (cc e)
        by (Some k) e = absurd (cc e)

    through : IsThrough g p before pins first lasts ground here.operation scope target → AgreesNow → Lies p.temps from (piece here.operation).widths
        → LeadsIn scene from scope (put_within (suc more) g.description scene target v m) now (run now (piece here.operation))
    through t h lies =
        let same = through_is g p before pins first lasts ground reads stores here.operation scope guard from target x t in
        subst (λ (a : Piece). LeadsIn scene from scope (put_within (suc more) g.description scene target v m) now (run now a)) (sym same)
        (lead t.name t.is t.declared.0 t.declared.1.0 (number_is t.name t.declared.1.0 (declared_at g.description here.operation t.name) t.declared.1.1) h (subst (λ (a : Piece). Lies p.temps from a.widths) same lies))

    assigned : AgreesNow → Lies p.temps from (piece (running standpoint)).widths → LeadsIn scene from scope (put_within (suc more) g.description scene target v m) now (run now (piece (running standpoint)))
    assigned h lies =
        subst (λ (o : ℕ). Lies p.temps from (piece o).widths → LeadsIn scene from scope (put_within (suc more) g.description scene target v m) now (run now (piece o))) (sym alike)
        (λ lies. ⊎_elim (λ t. through t h lies) (λ place. own place h lies) (target_sort g p before pins first lasts ground here.operation region scope standing target there)) lies

  pub assigns : (more : ℕ) → Assigns more
  assigns zero form word standpoint here above region scope standing guard from target x v m now are within names there may is guards one given stand lies h = absurd (let low = within.low in omega (arith, low))
  assigns (suc more) form word [] here above region scope standing guard from target x v m now are within names there may is guards one given stand lies h = absurd are
  assigns (suc more) form word (l ∷ ls) here above region scope standing guard from target x v m now are within names there may is guards one given stand lies h =
      assigned more (assigns more) form word (l ∷ ls) here above region scope standing guard from target x v m now are within names there may is guards one given stand (sym are.0.operation) h lies
