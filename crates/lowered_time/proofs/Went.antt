-- How far an edge has come, in the core and in the program; and what each step of time's own leaves of that.
use Rattle.std.proofs.Common.{◌≡◌, ℕ, suc, ◌+◌, ◌<◌, ◌≤◌, Bool, ◌||◌, List, ◌++◌, length, get_or, set, Option, Some, None, refl, sym, ap, ap₂, ◌∙◌, subst, arith, nat_eq, ⊎_elim, inr, ◌⊎◌}
use Rattle.std.specs.Prelude.{is_some}
use Rattle.std.specs.Option.{unwrap_or}
use Rattle.std.specs.List.{list_any, AllByRecursion}
use Rattle.std.proofs.lemmas.List.{get_or-set_same, get_or-set_other, length-set}
use Rattle.step_program.specs.Programs.{Expr, Temp, Move, Program}
use Rattle.step_program.specs.Effects.{Moment, value}
use Rattle.pipeline_time.specs.Acts.{size}
use Rattle.pipeline_time.specs.Cores.{Core, above_of}
use Rattle.pipeline_time.specs.Running.{Activation, Running}
use Rattle.pipeline_time.specs.Edges.{word_in}
use Rattle.step_pieces.specs.Pieces.{Builder}
use Rattle.step_pieces.specs.Running.{ran}
use Rattle.lowered_time.specs.Pieces.{Maker, chain, bind, holding}
use Rattle.lowered_time.specs.Building.{Operations, Layout, taken_at, slot_at, recorded_at, time_temps, root_row}
use Rattle.lowered_time.specs.Lowering.{bit, IsGuard, no_guard, held_guard, IsUnseen, Keeps, Meant, RowHas, AreLowered, Agrees, HasRowWord, IsWordOf}
use Rattle.lowered_time.proofs.Base.{ran_append}

-- a moment with one temp set
abbrev pub with_temp : ℕ → ℕ → Moment → Moment
with_temp temp v now = record { items = now.items; temps = set now.temps temp v; cells = now.cells }

module _ {R M A B C D E : Type 0} (core : Core R M) (ops : Operations) (layout : Layout) (p : Program) (meant : Meant R M A B C D E) (root : ℕ) (before pins : List ℕ) where
  abbrev pub go : List Move → Moment → Moment
  go moves now = ran p before pins now moves

  abbrev pub val : Moment → Expr → ℕ
  val now e = value p before pins now e

  -- whether an occurrence was recorded so far
  abbrev pub was_recorded : ℕ → Running M → Bool
  was_recorded k now = list_any (λ (a : Activation). nat_eq a.occurrence k) now.made || is_some (word_in k now.first)

  pub record Recording (now : Running M) : Type 0 where
    pub made : AllByRecursion (λ (a : Activation). (above_of core a.occurrence ≡ a.level) × (0 < a.level)) now.made
    pub first : AllByRecursion (λ (pair : ℕ × ℕ). above_of core pair.0 ≡ 0) now.first

  -- the moment of the program is that of the core
  pub record Tied (now : Running M) (lane : Moment) : Type 0 where
    pub agrees : Agrees meant before pins now.moment lane
    pub recorded : (k : ℕ) → k < suc (size core.acts) → get_or lane.temps (recorded_at core.stages k) 0 ≡ bit (was_recorded k now)
    pub taken : get_or lane.temps taken_at 0 ≡ bit (is_some now.slot)
    pub slot : get_or lane.temps slot_at 0 ≡ unwrap_or now.slot 0
    pub is_word : IsWordOf meant (unwrap_or now.slot 0)
    pub temp_count : length lane.temps ≡ length p.temps
    pub item_count : length lane.items ≡ length p.items
    pub recording : Recording now

  -- a row that occurrences from a number on leave as it is
  abbrev pub IsRowKept : ℕ → ℕ → Type 0
  IsRowKept index row = row ≡ root_row core ops layout → root < index

  -- From a moment to another, by steps that take temps from a number on, of occurrences from a number on.
  pub record Went (from index : ℕ) (now : Running M) (lane after : Moment) : Type 0 where
    pub tied : Tied now after
    pub controls : (temp : ℕ) → slot_at < temp → temp < recorded_at core.stages 0 → get_or after.temps temp 0 ≡ get_or lane.temps temp 0
    pub others : (temp : ℕ) → layout.lasting ≤ temp → temp < from → get_or after.temps temp 0 ≡ get_or lane.temps temp 0
    pub rows : (row word : ℕ) → IsRowKept index row → HasRowWord meant row word lane → HasRowWord meant row word after

  pub went_wider : (from from' index index' : ℕ) (now : Running M) (lane after : Moment) → from ≤ from' → index ≤ index' → Went from' index' now lane after → Went from index now lane after
  went_wider from from' index index' now lane after low few went = record {
    tied = went.tied;
    controls = went.controls;
    others = λ temp up less. went.others temp up (omega (arith, low, less));
    rows = λ row word kept has. went.rows row word (λ is. let r = kept is in omega (arith, r, few)) has;
  }

  pub went_both : (from index : ℕ) (a b : Running M) (lane middle after : Moment) → Went from index a lane middle → Went from index b middle after → Went from index b lane after
  went_both from index a b lane middle after one two = record {
    tied = two.tied;
    controls = λ temp low high. two.controls temp low high ∙ one.controls temp low high;
    others = λ temp low high. two.others temp low high ∙ one.others temp low high;
    rows = λ row word kept has. two.rows row word kept (one.rows row word kept has);
  }

  pub went_here : (from index : ℕ) (now : Running M) (lane : Moment) → Tied now lane → Went from index now lane lane
  went_here from index now lane tied = record { tied = tied; controls = λ temp low high. refl; others = λ temp low high. refl; rows = λ row word kept has. has }

  pub went_joined : (from from' index : ℕ) (a b : Running M) (xs ys : List Move) (lane : Moment) → from ≤ from' → Went from index a lane (go xs lane) → Went from' index b (go xs lane) (go ys (go xs lane)) → Went from index b lane (go (xs ++ ys) lane)
  went_joined from from' index a b xs ys lane low one two =
      subst (λ (m : Moment). Went from index b lane m) (sym (ran_append p before pins xs ys lane))
      (went_both from index a b lane (go xs lane) (go ys (go xs lane)) one
      (went_wider from from' index index b (go xs lane) (go ys (go xs lane)) low (omega arith) two))

  -- one builder after the other
  pub went_chain : (from index : ℕ) (a b : Running M) (first second : Builder) (lane : Moment)
      → Went from index a lane (go (first from).moves lane)
      → Went (from + length (first from).widths) index b (go (first from).moves lane) (go (second (from + length (first from).widths)).moves (go (first from).moves lane))
      → Went from index b lane (go (chain first second from).moves lane)
  went_chain from index a b first second lane one two =
      went_joined from (from + length (first from).widths) index a b (first from).moves (second (from + length (first from).widths)).moves lane (omega arith) one two

  pub went_bind : (from index : ℕ) (a b : Running M) (maker : Maker) (user : Expr → Builder) (lane : Moment)
      → Went from index a lane (go (maker from).piece.moves lane)
      → Went (from + length (maker from).piece.widths) index b (go (maker from).piece.moves lane) (go (user (maker from).out (from + length (maker from).piece.widths)).moves (go (maker from).piece.moves lane))
      → Went from index b lane (go (bind maker user from).moves lane)
  went_bind from index a b maker user lane one two =
      went_joined from (from + length (maker from).piece.widths) index a b (maker from).piece.moves (user (maker from).out (from + length (maker from).piece.widths)).moves lane (omega arith) one two

  -- ---- what stays

  pub guard_kept : (from index : ℕ) (now : Running M) (lane after : Moment) (guard : Expr) → IsGuard p layout from guard → Went from index now lane after → val after guard ≡ val lane guard
  guard_kept from index now lane after _ no_guard went = refl
  guard_kept from index now lane after _ (held_guard low high wide) went = went.others _ low high

  pub guard_wider : (from from' : ℕ) (guard : Expr) → from ≤ from' → IsGuard p layout from guard → IsGuard p layout from' guard
  guard_wider from from' _ more no_guard = no_guard
  guard_wider from from' _ more (held_guard low high wide) = held_guard low (omega (arith, more, high)) wide

  pub row_kept : (from index : ℕ) (now : Running M) (lane after : Moment) (row : Option ℕ) (word : ℕ) → ((r : ℕ) → row ≡ Some r → IsRowKept index r) → Went from index now lane after → RowHas meant row word lane → RowHas meant row word after
  row_kept from index now lane after None word kept went has = has
  row_kept from index now lane after (Some r) word kept went has = went.rows r word (kept r refl) has

  -- ---- parts

  -- a part gives a moment, and leaves what is time's
  pub tied_part : (from : ℕ) (now next : Running M) (lane after : Moment) → Tied now lane → Keeps core layout from lane after → Agrees meant before pins next.moment after
      → next.made ≡ now.made → next.first ≡ now.first → next.slot ≡ now.slot → Tied next after
  tied_part from now next lane after tied keeps agrees made first slot = record {
    agrees = agrees;
    recorded = λ k less.
        keeps.times (recorded_at core.stages k) (omega (arith, less)) ∙ tied.recorded k less
        ∙ ap₂ (λ (xs : List Activation) (ys : List (ℕ × ℕ)). bit (list_any (λ (a : Activation). nat_eq a.occurrence k) xs || is_some (word_in k ys))) (sym made) (sym first);
    taken = keeps.times taken_at (omega arith) ∙ tied.taken ∙ ap (λ (o : Option ℕ). bit (is_some o)) (sym slot);
    slot = keeps.times slot_at (omega arith) ∙ tied.slot ∙ ap (λ (o : Option ℕ). unwrap_or o 0) (sym slot);
    is_word = subst (λ (o : Option ℕ). IsWordOf meant (unwrap_or o 0)) (sym slot) tied.is_word;
    temp_count = keeps.temp_count ∙ tied.temp_count;
    item_count = keeps.item_count ∙ tied.item_count;
    recording = record {
      made = subst (λ (xs : List Activation). AllByRecursion (λ (a : Activation). (above_of core a.occurrence ≡ a.level) × (0 < a.level)) xs) (sym made) tied.recording.made;
      first = subst (λ (xs : List (ℕ × ℕ)). AllByRecursion (λ (pair : ℕ × ℕ). above_of core pair.0 ≡ 0) xs) (sym first) tied.recording.first;
    };
  }

  pub went_part : (from index : ℕ) (now next : Running M) (lane after : Moment) → Tied now lane → Keeps core layout from lane after → Agrees meant before pins next.moment after
      → next.made ≡ now.made → next.first ≡ now.first → next.slot ≡ now.slot
      → ((row word : ℕ) → IsRowKept index row → HasRowWord meant row word lane → HasRowWord meant row word after)
      → Went from index next lane after
  went_part from index now next lane after tied keeps agrees made first slot rows = record {
    tied = tied_part from now next lane after tied keeps agrees made first slot;
    controls = λ temp low high. keeps.times temp (omega (arith, high));
    others = keeps.others;
    rows = rows;
  }

  -- ---- time's own temps

  -- a temp that the parts don't see
  pub unseen_temp : (temp v : ℕ) (now : Moment) → (temp < time_temps core) ⊎ (layout.lasting ≤ temp) → IsUnseen core layout now (with_temp temp v now)
  unseen_temp temp v now outside = record {
    items = λ place other. refl;
    item_count = refl;
    temps = λ t low high. get_or-set_other now.temps temp t v 0 (λ is. ⊎_elim (λ l. omega (arith, is, low, l)) (λ l. omega (arith, is, high, l)) outside);
    temp_count = length-set now.temps temp v;
    cells = refl;
  }

  -- a new temp holds a value
  pub keeps_new : (from v : ℕ) (now : Moment) → layout.lasting ≤ from → time_temps core ≤ layout.lasting → Keeps core layout from now (with_temp from v now)
  keeps_new from v now low lasts = record {
    times = λ t less. get_or-set_other now.temps from t v 0 (λ is. omega (arith, is, less, low, lasts));
    others = λ t up less. get_or-set_other now.temps from t v 0 (λ is. omega (arith, is, less));
    temp_count = length-set now.temps from v;
    item_count = refl;
    places = λ place is. refl;
  }

  pub went_holding : (lowered : AreLowered core ops layout p meant) (from index width : ℕ) (e : Expr) (now : Running M) (lane : Moment) → layout.lasting ≤ from → time_temps core ≤ layout.lasting → Tied now lane → Went from index now lane (go (holding width e from).piece.moves lane)
  went_holding lowered from index width e now lane low lasts tied =
      let unseen = unseen_temp from (val lane e) lane (inr low) in
      went_part from index now now lane (with_temp from (val lane e) lane) tied (keeps_new from (val lane e) lane low lasts)
      (lowered.unseen before pins now.moment lane (with_temp from (val lane e) lane) unseen tied.agrees) refl refl refl
      (λ row word kept has. lowered.row_unseen row word lane (with_temp from (val lane e) lane) unseen has)

  pub holding_is : (from width : ℕ) (e : Expr) (lane : Moment) → from < length lane.temps → val (go (holding width e from).piece.moves lane) (Temp from) ≡ val lane e
  holding_is from width e lane less = get_or-set_same lane.temps from (val lane e) 0 less
