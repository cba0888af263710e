-- What may be read fits behind each statement.
use Rattle.std.proofs.Common.{◌≡◌, ℕ, zero, suc, Bool, true, false, cond, List, [], ◌∷◌, Option, None, Some, length, take, refl, sym, subst, inl}
use Rattle.std.specs.Prelude.{if◌then◌else◌}
use Rattle.std.specs.List.{AllByRecursion}
use Rattle.std.specs.Map.{lookup}
use Rattle.std.proofs.lemmas.Option.{same_Some}
use Rattle.lisa_tree.specs.declared.tokens.Shape.{Shape}
use Rattle.lisa_tree.specs.Expressions.{ExprTree}
use Rattle.lisa_tree.specs.Statements.{HeadTree, StmtTree, StmtTrees}
use Rattle.lisa_tree.specs.Descriptions.{DescriptionTree}
use Rattle.lisa_tree.specs.Same.{same_name}
use Rattle.lisa_tree.specs.Resources.{stage_at}
use Rattle.lisa_engine.specs.Shape.{IsFitting}
use Rattle.description_places.specs.declared.sites.Region.TheVariants as regions
use Rattle.description_places.specs.Scopes.{Scope}
use Rattle.description_places.specs.Places as places
use Rattle.description_places.specs.Places.{at, all_places}
use Rattle.description_sizes.specs.Texts.{levels}
use Rattle.lisa_words.specs.declared.words.Kind.TheVariants as kinds
use Rattle.machine_parts.specs.Parts.{arrays_of, pins_of, registers_of}
use Rattle.typed_values.specs.Words.{TypedWord, number_value}
use Rattle.typed_values.specs.Expressions.{Reader}
use Rattle.typed_values.specs.Effects.{Locals, Doing, like, local_put, first_of, counter_value, with_counter, effect, effects}
use Rattle.typed_values.specs.Laws.{IsFit}
use Rattle.typed_values.proofs.Fitting.{fitted_within, shaped_fits, zero_fits}
use Rattle.typed_values.proofs.Preserved as preserved
use Rattle.typed_values.proofs.Preserved.{effects_kept}
use Rattle.lisa_machine.specs.Freedom.{AllStand}
use Rattle.lisa_machine.specs.Soundness.{IsSound}
use Rattle.use_promises.proofs.Counted.{counter_holds}
use Rattle.lisa_meaning.specs.Scenes.{Link, Scene, at_path, child}
use Rattle.lisa_meaning.specs.Moments.{Moment, with_locals, with_stall, with_flush, bare}
use Rattle.lisa_meaning.specs.Effects.{Given, at_level, doing, behavior_at, body, run_within, run_behavior}
use Rattle.meaning_promises.specs.Fitting.{ContentsFit, ReadingsFit}
use Rattle.meaning_promises.specs.Running.{doing_within}
use Rattle.meaning_promises.proofs.Scoped.{Steps, step, all_steps}
use Rattle.meaning_promises.proofs.Stepping.{runs_left}
use Rattle.scene_promises.proofs.Putting.{Keeps, puts_kept}
use Rattle.scene_promises.proofs.Replaced.{fitting_set, cells_set}

-- ---- locals

abbrev AreFit : Locals → Type 0
AreFit locals = AllByRecursion (λ (x : List ℕ × TypedWord). IsFit x.1) locals

put_fits : (locals : Locals) (n : List ℕ) (v : TypedWord) → AreFit locals → IsFit v → AreFit (local_put locals n v)
put_fits [] n v all fits = (fits, tt)
put_fits (x ∷ locals) n v all fits = by (same_name n x.0) (put_fits locals n v all.1 fits)
  where
    by : (b : Bool) → AreFit (local_put locals n v) → AreFit (if b then (x.0, v) ∷ locals else (x ∷ local_put locals n v))
    by true more = (fits, all.1)
    by false more = (all.0, more)

found_fits : (n : List ℕ) (locals : Locals) (old : TypedWord) → lookup (same_name n) locals ≡ Some old → AreFit locals → IsFit old
found_fits n [] old e all = absurd (cc e)
found_fits n (x ∷ locals) old e all = by (same_name n x.0) e (λ f. found_fits n locals old f all.1)
  where
    by : (b : Bool) → cond b (Some x.1) (lookup (same_name n) locals) ≡ Some old → (lookup (same_name n) locals ≡ Some old → IsFit old) → IsFit old
    by true f more = subst IsFit (same_Some x.1 old f) all.0
    by false f more = more f

taken_fit : (k : ℕ) (locals : Locals) → AreFit locals → AreFit (take k locals)
taken_fit zero locals all = tt
taken_fit (suc k) [] all = tt
taken_fit (suc k) (x ∷ locals) all = (all.0, taken_fit k locals all.1)

like_fits : (old : TypedWord) (given : Given) → IsFit old → IsFit (like old given)
like_fits old given fit = record { least = fit.least; most = fit.most; within = fitted_within (given old.kind) old.width }

first_fits : (shape : Shape) (reader : Reader) (e : Option ExprTree) → IsFit (first_of shape reader e)
first_fits shape reader None = zero_fits shape
first_fits shape reader (Some e) = shaped_fits shape _

module _ (d : DescriptionTree) where
  -- ---- all that is read but the locals

  record RestFits (m : Moment) : Type 0 where
    pub memory : ContentsFit d m.memory
    pub kept : IsFitting (registers_of d) m.kept
    pub pins : IsFitting (pins_of d) m.pins

  rest_of : (m : Moment) → ReadingsFit d m → RestFits m
  rest_of m fit = record { memory = fit.memory; kept = fit.kept; pins = fit.pins }

  with_rest : (m : Moment) → RestFits m → AreFit m.locals → ReadingsFit d m
  with_rest m rest locals = record { memory = rest.memory; kept = rest.kept; pins = rest.pins; locals = locals }

  rest_keeps : Keeps d RestFits
  rest_keeps = record {
    register = λ place bits i m there fits rest. record {
      memory = record { registers = fitting_set (registers_of d) m.memory.registers place i bits there fits rest.memory.registers; cells = rest.memory.cells; fields = rest.memory.fields };
      kept = rest.kept;
      pins = rest.pins;
    };
    cell = λ place index bits a m there fits rest. record {
      memory = record { registers = rest.memory.registers; cells = cells_set (arrays_of d) m.memory.cells place a index bits there fits rest.memory.cells; fields = rest.memory.fields };
      kept = rest.kept;
      pins = rest.pins;
    };
    out = λ stage field bits m rest. record { memory = rest.memory; kept = rest.kept; pins = rest.pins };
    local = λ n old given m e rest. record { memory = rest.memory; kept = rest.kept; pins = rest.pins };
    enters = λ m rest. record { memory = rest.memory; kept = rest.kept; pins = rest.pins };
    leaves = λ m n rest other. record { memory = other.memory; kept = other.kept; pins = other.pins };
  }

  stall_rest : (o : Option ℕ) (m : Moment) → RestFits m → RestFits (at_level with_stall o m)
  stall_rest None m rest = rest
  stall_rest (Some s) m rest = record { memory = rest.memory; kept = rest.kept; pins = rest.pins }

  flush_rest : (o : Option ℕ) (m : Moment) → RestFits m → RestFits (at_level with_flush o m)
  flush_rest None m rest = rest
  flush_rest (Some s) m rest = record { memory = rest.memory; kept = rest.kept; pins = rest.pins }

  locals_rest : (locals : Locals) (m : Moment) → RestFits m → RestFits (with_locals locals m)
  locals_rest locals m rest = record { memory = rest.memory; kept = rest.kept; pins = rest.pins }

  all_rest : (call : List Link → Moment → Moment) → ((path : List Link) (m : Moment) → RestFits m → RestFits (call path m)) → (scene : Scene) → preserved.Keeps (doing call d scene) RestFits
  all_rest call each scene = record {
    put = λ target given m rest. puts_kept d RestFits rest_keeps (suc (levels d)) scene target given m rest;
    call = λ n m rest. each (child d scene n) m rest;
    stall = λ n m rest. stall_rest (stage_at d n) m rest;
    flush = λ n m rest. flush_rest (stage_at d n) m rest;
    locals = locals_rest;
  }

  body_rest : (does : Doing Moment) → preserved.Keeps does RestFits → (o : Option StmtTrees) (m : Moment) → RestFits m → RestFits (body does o m)
  body_rest does each None m rest = rest
  body_rest does each (Some all) m rest = locals_rest m.locals _ (effects_kept does RestFits each all (bare m) (locals_rest [] m rest))

  runs_rest : (more : ℕ) (scene : Scene) (m : Moment) → RestFits m → RestFits (run_within more d scene m)
  runs_rest zero scene m rest = rest
  runs_rest (suc more) scene m rest =
      let call : List Link → Moment → Moment = λ path now. run_within more d (at_path scene path) now in
      body_rest (doing call d scene) (all_rest call (λ path now held. runs_rest more (at_path scene path) now held) scene) (behavior_at d scene.path) m rest

  runs_fit : (more : ℕ) (scene : Scene) (m : Moment) → ReadingsFit d m → ReadingsFit d (run_within more d scene m)
  runs_fit more scene m fit = with_rest (run_within more d scene m) (runs_rest more scene m (rest_of m fit)) (subst AreFit (sym (runs_left d more scene m)) fit.locals)

  pub behavior_fits : (scene : Scene) (m : Moment) → ReadingsFit d m → ReadingsFit d (run_behavior d scene m)
  behavior_fits scene m fit = runs_fit (levels d) scene m fit

  -- ---- with the locals

  readings_keep : Keeps d (ReadingsFit d)
  readings_keep = record {
    register = λ place bits i m there fits fit. with_rest _ (rest_keeps.register place bits i m there fits (rest_of m fit)) fit.locals;
    cell = λ place index bits a m there fits fit. with_rest _ (rest_keeps.cell place index bits a m there fits (rest_of m fit)) fit.locals;
    out = λ stage field bits m fit. with_rest _ (rest_keeps.out stage field bits m (rest_of m fit)) fit.locals;
    local = λ n old given m e fit. with_rest _ (rest_keeps.local n old given m e (rest_of m fit)) (put_fits m.locals n (like old given) fit.locals (like_fits old given (found_fits n m.locals old e fit.locals)));
    enters = λ m fit. with_rest _ (rest_keeps.enters m (rest_of m fit)) tt;
    leaves = λ m n fit other. with_rest _ (rest_keeps.leaves m n (rest_of m fit) (rest_of n other)) fit.locals;
  }

  stall_fits : (o : Option ℕ) (m : Moment) → ReadingsFit d m → ReadingsFit d (at_level with_stall o m)
  stall_fits None m fit = fit
  stall_fits (Some s) m fit = record { memory = fit.memory; kept = fit.kept; pins = fit.pins; locals = fit.locals }

  flush_fits : (o : Option ℕ) (m : Moment) → ReadingsFit d m → ReadingsFit d (at_level with_flush o m)
  flush_fits None m fit = fit
  flush_fits (Some s) m fit = record { memory = fit.memory; kept = fit.kept; pins = fit.pins; locals = fit.locals }

  -- other locals that fit
  others_fit : (locals : Locals) (m : Moment) → ReadingsFit d m → AreFit locals → ReadingsFit d (with_locals locals m)
  others_fit locals m fit all = record { memory = fit.memory; kept = fit.kept; pins = fit.pins; locals = all }

  module _ (s : IsSound d) (more : ℕ) (scene : Scene) (o : ℕ) where
    counter_fits : (scope : Scope) (head : HeadTree) (bits : ℕ) (m : Moment) → AllStand d (places.head_places o scope head) → ReadingsFit d m → ReadingsFit d (with_counter (doing_within more d scene) head bits m)
    counter_fits scope head bits m stand fit =
        let h = counter_holds d s.bounds s.widths o regions.Behavior scope head (stand (at o regions.Behavior scope (places.Counts head)) (inl refl)) in
        let value : IsFit (counter_value head.shape bits) = subst (λ (r : Option Shape). IsFit (counter_value r bits)) (sym h.typed) (shaped_fits h.shape (number_value kinds.Unsigned bits)) in
        others_fit (local_put m.locals head.name (counter_value head.shape bits)) m fit (put_fits m.locals head.name (counter_value head.shape bits) fit.locals value)

    steps : Steps d o (doing_within more d scene) (λ scope m. ReadingsFit d m)
    steps = record {
      put = λ scope target e m stand fit. puts_kept d (ReadingsFit d) readings_keep (suc (levels d)) scene target _ m fit;
      call = λ scope n m stands fit. runs_fit more (at_path scene (child d scene n)) m fit;
      stall = λ scope pipe stage m stands fit. stall_fits (stage_at d stage) m fit;
      flush = λ scope pipe stage m stands fit. flush_fits (stage_at d stage) m fit;
      local = λ scope shape n e m stand fit. others_fit _ m fit (put_fits m.locals n (first_of shape ((doing_within more d scene).reader m) e) fit.locals (first_fits shape ((doing_within more d scene).reader m) e));
      counter = counter_fits;
      ends = λ scope wider m n extends fit other. others_fit (take (length m.locals) n.locals) n other (taken_fit (length m.locals) n.locals other.locals);
    }

    pub fits_behind : (scope : Scope) (a : StmtTree) (m : Moment) → AllStand d (places.places o scope a) → ReadingsFit d m → ReadingsFit d (effect (doing_within more d scene) a m)
    fits_behind scope a m stand fit = step d o (doing_within more d scene) (λ scope m. ReadingsFit d m) steps a scope m stand fit

    pub fits_behind_all : (scope : Scope) (all : StmtTrees) (m : Moment) → AllStand d (all_places o scope all) → ReadingsFit d m → ReadingsFit d (effects (doing_within more d scene) all m)
    fits_behind_all scope all m stand fit = all_steps d o (doing_within more d scene) (λ scope m. ReadingsFit d m) steps all scope m stand fit
