-- The turn of a level: what is due there runs, in the program as in the core.
use Rattle.std.proofs.Common.{◌≡◌, ℕ, zero, suc, ◌+◌, ◌<◌, ◌≤◌, Bool, true, false, ◌&&◌, ◌||◌, cond, List, [], ◌∷◌, ◌++◌, length, get_or, Option, Some, None, refl, sym, ap, ap₂, ◌∙◌, subst, arith, nat_eq}
use Rattle.std.specs.Prelude.{is_some}
use Rattle.std.specs.Option.{unwrap_or, option_map, option_or}
use Rattle.std.specs.List.{list_any, find, fold, filter, AllByRecursion}
use Rattle.std.proofs.lemmas.Bool.{eq-eqb, ne_eqb, eqb-true, both_ways}
use Rattle.step_program.specs.Programs.{Expr, Before, Temp, Move, Program}
use Rattle.step_program.specs.Effects.{Moment}
use Rattle.step_pieces.specs.Formed.{Lies}
use Rattle.step_pieces.proofs.Laid.{lies_left, lies_right}
use Rattle.pipeline_time.specs.Acts.{Acts, Done, Act, When, Node, nodes, size}
use Rattle.pipeline_time.specs.Cores.{Core, above_of, level_of}
use Rattle.pipeline_time.specs.Running.{Activation, Running, word_below, own_word, behavior, activate, run}
use Rattle.pipeline_time.specs.Edges.{word_in, waiting, is_due, run_due}
use Rattle.pipeline_time.specs.Journal.{Log, stands, stage_word as word_of}
use Rattle.pipeline_time.specs.Sound.{IsSound}
use Rattle.pipeline_time.proofs.Tree.{IsGood, IsGoodTree}
use Rattle.pipeline_time.proofs.Induct.{none_due, parts}
use Rattle.pipeline_time.proofs.Turns.{IsFirst, IsWorded, moving, ready, ready_at}
use Rattle.pipeline_time.proofs.Agree.{IsGoodPast, between, worded}
use Rattle.step_pieces.specs.Pieces.{Builder}
use Rattle.lowered_time.specs.Pieces.{chain, both, holding}
use Rattle.lowered_time.specs.Building.{Operations, Layout, open_at, recorded_at, root_row, row_of, own_row, occurrence, active, waits, due, turn_of}
use Rattle.lowered_time.specs.Lowering.{bit, IsLaidOut, Meant, IsOwned, AreLowered, HasRowWord}
use Rattle.lowered_time.proofs.Went.{go, val, Tied, IsRowKept, Went, went_wider, went_here, went_chain, went_bind, guard_wider}
use Rattle.lowered_time.proofs.Running.{one_more, none_more, active_runs, active_rests, occurrence_went, occurrence_rests, own_runs, own_row_for, not_root}

-- behind the first level nothing is activated from no stage
module _ {R M : Type 0} (core : Core R M) where
  stays_first : (here word number : ℕ) (now : Running M) → 0 < here → (activate core here number word now).first ≡ now.first
  unfolding activate
  stays_first zero word number now staged = absurd (omega (arith, staged))
  stays_first (suc here) word number now staged = refl

  begun_first : (number word : ℕ) (now : Running M) → (behavior core number word now).first ≡ now.first
  unfolding behavior
  begun_first number word now = refl

  either_first : (b : Bool) (x y now : Running M) → x.first ≡ now.first → y.first ≡ now.first → (cond b x y).first ≡ now.first
  either_first true x y now one two = one
  either_first false x y now one two = two

  pub first_stays : (here word : ℕ) (acts : Acts) (now : Running M) → 0 < here → (run core here word acts now).first ≡ now.first
  first_stays here word Done now staged = refl
  first_stays here word (Act number level past own rest) now staged =
      let mine = own_word core number past word now in
      let ran = run core here mine own (behavior core number mine now) in
      let waits' = activate core here number (word_below past word) now in
      let either = cond (nat_eq level here) ran waits' in
      let middle = cond (core.chooses number word) either now in
      first_stays here word rest middle staged
      ∙ either_first (core.chooses number word) either now now
      (either_first (nat_eq level here) ran waits' now (first_stays here mine own (behavior core number mine now) staged ∙ begun_first number mine now) (stays_first here (word_below past word) number now staged))
      refl
  first_stays here word (When number test taken other rest) now staged =
      let middle = cond (core.holds number test word now.moment) (run core here word taken now) (run core here word other now) in
      first_stays here word rest middle staged
      ∙ either_first (core.holds number test word now.moment) (run core here word taken now) (run core here word other now) now (first_stays here word taken now staged) (first_stays here word other now staged)

module _ {R M A B C D E : Type 0} (core : Core R M) (sound : IsSound core) (ops : Operations) (layout : Layout) (p : Program) (meant : Meant R M A B C D E) (before pins : List ℕ) (lowered : AreLowered core ops layout p meant) (laid : IsLaidOut core layout p) (enough : layout.lasting ≤ length p.temps)
    (past : List Log) (good : IsGoodPast core past)
    (bits_are : (level number place : ℕ) → layout.bit level number ≡ Some place → get_or before place 0 ≡ bit (is_some (stands core past level number)))
    (level : ℕ) (staged : 0 < level) (start : Running M) (firsts : AllByRecursion (λ (pair : ℕ × ℕ). IsFirst core start.slot pair.0 pair.1) start.first) where
  abbrev root : ℕ
  root = sound.root

  abbrev G : List Move → Moment → Moment
  G moves lane = go core ops layout p meant root before pins moves lane

  abbrev V : Moment → Expr → ℕ
  V lane e = val core ops layout p meant root before pins lane e

  abbrev T : Running M → Moment → Type 0
  T now lane = Tied core ops layout p meant root before pins now lane

  abbrev W : ℕ → ℕ → Running M → Moment → Moment → Type 0
  W from index now lane after = Went core ops layout p meant root before pins from index now lane after

  abbrev words : ℕ → Option ℕ
  words = waiting core (stands core past) level start

  abbrev test : Node → Bool
  test = is_due core words level

  standing_worded : IsWorded core (word_of core past) (stands core past)
  standing_worded = worded core sound past good

  at : (node : Node) → IsGood core root node → test node ≡ true → (node.level ≡ level) × (node.above < level)
  at node is_good is = ready_at core sound (word_of core past) (stands core past) standing_worded level start staged firsts node is_good is

  -- ---- what waits

  not_first : (number : ℕ) (pairs : List (ℕ × ℕ)) → AllByRecursion (λ (pair : ℕ × ℕ). IsFirst core start.slot pair.0 pair.1) pairs → (above_of core number ≡ 0 → ⊥) → word_in number pairs ≡ None
  not_first number [] each ne = refl
  not_first number (pair ∷ pairs) each ne =
      ap (λ (b : Bool). option_map (λ (pair : ℕ × ℕ). pair.1) (cond b (Some pair) (find (λ (pair : ℕ × ℕ). nat_eq pair.0 number) pairs))) (ne_eqb pair.0 number (λ same. ne (subst (λ (n : ℕ). above_of core n ≡ 0) same each.0.above)))
      ∙ not_first number pairs each.1 ne

  not_made : (number : ℕ) (made : List Activation) → AllByRecursion (λ (a : Activation). (above_of core a.occurrence ≡ a.level) × (0 < a.level)) made → above_of core number ≡ 0 → list_any (λ (a : Activation). nat_eq a.occurrence number) made ≡ false
  not_made number [] each is = refl
  not_made number (a ∷ made) each is =
      ap₂ (λ (x y : Bool). x || y) (ne_eqb a.occurrence number (λ same. let e = subst (λ (n : ℕ). above_of core n ≡ a.level) same each.0.0 in omega (arith, e, is, each.0.1))) (not_made number made each.1 is)

  never_stands : (number : ℕ) (o : Option ℕ) → stands core past level number ≡ o → ((0 < above_of core number) × (above_of core number < level) × (level ≤ level_of core number) → ⊥) → o ≡ None
  never_stands number None e never = refl
  never_stands number (Some w) e never = let b = between core past level number w good e in absurd (never (b.staged, b.after_activator, b.until_own))

  -- what the program tests is whether the occurrence waits; it tests nothing of one that never does
  abbrev IsTest : ℕ → Moment → Option Expr → Type 0
  IsTest number lane None = is_some (words number) ≡ false
  IsTest number lane (Some e) = V lane e ≡ bit (is_some (words number))

  words_by : (number : ℕ) (o fresh : Option ℕ) → stands core past level number ≡ o → cond (nat_eq level 1) (word_in number start.first) None ≡ fresh → words number ≡ option_or o fresh
  words_by number o fresh e f = ap₂ option_or e f

  waits_is : (above number : ℕ) (now : Running M) (lane : Moment) → number < suc (size core.acts) → above_of core number ≡ above → level_of core number ≡ level → T now lane → now.first ≡ start.first → IsTest number lane (waits core ops layout level above number)
  waits_is zero number now lane less is own tied same = of (nat_eq level 1) refl
    where
      gone : stands core past level number ≡ None
      gone = never_stands number (stands core past level number) refl (λ b. omega (arith, is, b.0))

      of : (b : Bool) → nat_eq level 1 ≡ b → IsTest number lane (cond b (Some (Temp (recorded_at core.stages number))) None)
      of true one =
          tied.recorded number less
          ∙ ap₂ (λ (x : Bool) (ys : List (ℕ × ℕ)). bit (x || is_some (word_in number ys))) (not_made number now.made tied.recording.made is) same
          ∙ sym (ap (λ (o : Option ℕ). bit (is_some o)) (words_by number None (word_in number start.first) gone (ap (λ (b : Bool). cond b (word_in number start.first) None) one)))
      of false other = ap is_some (words_by number None None gone (ap (λ (b : Bool). cond b (word_in number start.first) None) other))
  waits_is (suc above) number now lane less is own tied same = of (layout.bit level number) refl
    where
      fresh : cond (nat_eq level 1) (word_in number start.first) None ≡ None
      fresh = ap (λ (o : Option ℕ). cond (nat_eq level 1) o None) (not_first number start.first firsts (λ e. omega (arith, is, e))) ∙ both_none (nat_eq level 1)
        where
          both_none : (b : Bool) → ◌≡◌ {A = Option ℕ} (cond b None None) None
          both_none true = refl
          both_none false = refl

      or_none : (o : Option ℕ) → is_some (option_or o None) ≡ is_some o
      or_none None = refl
      or_none (Some w) = refl

      stood : is_some (words number) ≡ is_some (stands core past level number)
      stood = ap is_some (words_by number (stands core past level number) None refl fresh) ∙ or_none (stands core past level number)

      of : (o : Option ℕ) → layout.bit level number ≡ o → IsTest number lane (option_map (λ place. Before place) o)
      of None e = stood ∙ ap is_some (never_stands number (stands core past level number) refl (λ b. none_is_some (sym (ap is_some e) ∙ laid.has_bit level number less (omega (arith, is)) b.1 b.2)))
        where
          none_is_some : false ≡ true → ⊥
          none_is_some e = both_ways false refl e
      of (Some place) e = bits_are level number place e ∙ sym (ap bit stood)

  -- ---- nothing where the level isn't open

  due_rests : (from index number : ℕ) (own_level : ℕ) (past' inside : Bool) (own : Acts) (o : Option Expr) (now : Running M) (lane : Moment) → IsGoodTree core root own_level (past' || core.is_root number) (suc number) own
      → layout.lasting ≤ from → Lies p.temps from (due core ops layout level number past' own o from).widths → T now lane → V lane (Temp (open_at level)) ≡ 0 → index ≤ number
      → W from index now lane (G (due core ops layout level number past' own o from).moves lane)
  due_rests from index number own_level past' inside own None now lane tree low placed tied off few = went_here core ops layout p meant root before pins from index now lane tied
  due_rests from index number own_level past' inside own (Some e) now lane tree low placed tied off few =
      let user = λ (g : Expr). occurrence core ops layout number past' (Some (row_of core ops layout level)) g (active core ops layout level (own_row core ops layout number past' (Some (row_of core ops layout level))) g own) in
      let maker = holding 1 (both (Temp (open_at level)) e) in
      let base = from + 1 in
      let rest = user (Temp from) base in
      let placed1 = lies_left p.temps from (1 ∷ []) rest.widths placed in
      let placed2 = lies_right p.temps from (1 ∷ []) rest.widths placed in
      let c = none_more core ops layout p meant root before pins lowered laid.lasts enough sound.one_root from index (Temp (open_at level)) e now lane low placed1 tied off in
      let lane1 = G (maker from).piece.moves lane in
      went_bind core ops layout p meant root before pins from index now now maker user lane c.went
      (went_wider core ops layout p meant root before pins base base index number now lane1 (G rest.moves lane1) (omega arith) few
      (occurrence_rests core ops layout p meant root before pins lowered laid.lasts enough sound.one_root (core.is_root number) base number number past' (Some (row_of core ops layout level)) (Temp from) (active core ops layout level (own_row core ops layout number past' (Some (row_of core ops layout level))) (Temp from) own) now lane1 refl (omega (arith, low)) placed2 c.guarded c.went.tied c.is (omega arith)
      (λ from' lane' more placed' tied' off'. active_rests core ops layout p meant root before pins lowered laid.lasts enough sound.one_root level (own_row core ops layout number past' (Some (row_of core ops layout level))) own own_level from' (suc number) (past' || core.is_root number) (Temp from) now lane' tree (omega (arith, low, more)) placed' (guard_wider core ops layout p meant root before pins base from' (Temp from) more c.guarded) tied' off')))

  abbrev turn_by : Bool → ℕ → ℕ → ℕ → Bool → Acts → Builder
  turn_by here above own_level number past' own = cond here (due core ops layout level number past' own (waits core ops layout level above number)) (turn_of core ops layout level own_level own)

  open_kept : (from index : ℕ) (now : Running M) (lane after : Moment) (n : ℕ) → level ≤ core.stages → W from index now lane after → V lane (Temp (open_at level)) ≡ n → V after (Temp (open_at level)) ≡ n
  open_kept from index now lane after n within went is = went.controls (open_at level) (omega arith) (omega (arith, within)) ∙ is

  pub turn_rests : (acts : Acts) (above from index : ℕ) (inside : Bool) (now : Running M) (lane : Moment) → level ≤ core.stages → IsGoodTree core root above inside index acts
      → layout.lasting ≤ from → Lies p.temps from (turn_of core ops layout level above acts from).widths → T now lane → V lane (Temp (open_at level)) ≡ 0
      → W from index now lane (G (turn_of core ops layout level above acts from).moves lane)
  turn_rests Done above from index inside now lane within tree low placed tied off = went_here core ops layout p meant root before pins from index now lane tied
  turn_rests (Act number own_level past' own rest) above from index inside now lane within tree low placed tied off =
      let first = turn_by (nat_eq own_level level) above own_level number past' own in
      let base = from + length (first from).widths in
      let after = turn_of core ops layout level above rest base in
      let placed1 = lies_left p.temps from (first from).widths after.widths placed in
      let placed2 = lies_right p.temps from (first from).widths after.widths placed in
      let went1 : W from index now lane (G (first from).moves lane) =
      by (nat_eq own_level level) placed1 (λ placed'. turn_rests own own_level from (suc index) (past' || core.is_root number) now lane within tree.4 low placed' tied off) in
      went_chain core ops layout p meant root before pins from index now now first (turn_of core ops layout level above rest) lane went1
      (went_wider core ops layout p meant root before pins base base index (suc (index + size own)) now (G (first from).moves lane) (G after.moves (G (first from).moves lane)) (omega arith) (omega arith)
      (turn_rests rest above base (suc (index + size own)) inside now (G (first from).moves lane) within tree.5 (omega (arith, low)) placed2 went1.tied (open_kept from index now lane (G (first from).moves lane) 0 within went1 off)))
    where
      by : (b : Bool) → Lies p.temps from (turn_by b above own_level number past' own from).widths
          → (Lies p.temps from (turn_of core ops layout level own_level own from).widths → W from (suc index) now lane (G (turn_of core ops layout level own_level own from).moves lane))
          → W from index now lane (G (turn_by b above own_level number past' own from).moves lane)
      by true placed' inner = due_rests from index number own_level past' inside own (waits core ops layout level above number) now lane (subst (λ (n : ℕ). IsGoodTree core root own_level (past' || core.is_root number) (suc n) own) (sym tree.0) tree.4) low placed' tied off (omega (arith, tree.0))
      by false placed' inner = went_wider core ops layout p meant root before pins from from index (suc index) now lane (G (turn_of core ops layout level own_level own from).moves lane) (omega arith) (omega arith) (inner placed')
  turn_rests (When number t taken other rest) above from index inside now lane within tree low placed tied off =
      let one = turn_of core ops layout level above taken from in
      let base1 = from + length one.widths in
      let two = turn_of core ops layout level above other base1 in
      let base2 = base1 + length two.widths in
      let three = turn_of core ops layout level above rest base2 in
      let placed1 = lies_left p.temps from one.widths (two.widths ++ three.widths) placed in
      let placed2 = lies_right p.temps from one.widths (two.widths ++ three.widths) placed in
      let placed3 = lies_left p.temps base1 two.widths three.widths placed2 in
      let placed4 = lies_right p.temps base1 two.widths three.widths placed2 in
      let went1 = turn_rests taken above from index inside now lane within tree.0 low placed1 tied off in
      let lane1 = G one.moves lane in
      let off1 = open_kept from index now lane lane1 0 within went1 off in
      let went2 = turn_rests other above base1 (index + size taken) inside now lane1 within tree.1 (omega (arith, low)) placed3 went1.tied off1 in
      let lane2 = G two.moves lane1 in
      let off2 = open_kept base1 (index + size taken) now lane1 lane2 0 within went2 off1 in
      let went3 = turn_rests rest above base2 (index + (size taken + size other)) inside now lane2 within tree.2 (omega (arith, low)) placed4 went2.tied off2 in
      went_chain core ops layout p meant root before pins from index now now (turn_of core ops layout level above taken) (chain (turn_of core ops layout level above other) (turn_of core ops layout level above rest)) lane went1
      (went_wider core ops layout p meant root before pins base1 base1 index (index + size taken) now lane1 (G (chain (turn_of core ops layout level above other) (turn_of core ops layout level above rest) base1).moves lane1) (omega arith) (omega arith)
      (went_chain core ops layout p meant root before pins base1 (index + size taken) now now (turn_of core ops layout level above other) (turn_of core ops layout level above rest) lane1 went2
      (went_wider core ops layout p meant root before pins base2 base2 (index + size taken) (index + (size taken + size other)) now lane2 (G three.moves lane2) (omega arith) (omega arith) went3)))

  -- ---- what is due, where the level is open

  abbrev Below : ℕ → Acts → Type 0
  Below index acts = index + size acts ≤ suc (size core.acts)

  -- with the word that moves on from the level
  abbrev turn_word : ℕ
  turn_word = moving core (word_of core past) start.slot level

  abbrev ran_by : Bool → Node → Running M → Running M
  ran_by is node now = cond is (run_due core words now node) now

  due_runs : (on : Bool) (from index number above : ℕ) (past' inside : Bool) (own : Acts) (o : Option Expr) (now : Running M) (lane : Moment) → is_some (words number) ≡ on
      → IsGood core root (record { number = number; above = above; level = level; past = past'; own = own })
      → (past' ≡ true → inside ≡ true) → (inside ≡ true → root < number)
      → IsGoodTree core root level (past' || core.is_root number) (suc number) own → IsOwned number own → number + suc (size own) ≤ suc (size core.acts)
      → layout.lasting ≤ from → Lies p.temps from (due core ops layout level number past' own o from).widths → T now lane → V lane (Temp (open_at level)) ≡ 1 → index ≤ number
      → HasRowWord meant (row_of core ops layout level) turn_word lane
      → IsTest number lane o
      → W from index (ran_by on (record { number = number; above = above; level = level; past = past'; own = own }) now) lane (G (due core ops layout level number past' own o from).moves lane)
  due_runs true from index number above past' inside own None now lane is is_good so after tree owned below low placed tied on few has tests = absurd (both_ways true (sym is ∙ tests) refl)
  due_runs false from index number above past' inside own None now lane is is_good so after tree owned below low placed tied on few has tests = went_here core ops layout p meant root before pins from index now lane tied
  due_runs false from index number above past' inside own (Some e) now lane is is_good so after tree owned below low placed tied on few has tests =
      let user = λ (g : Expr). occurrence core ops layout number past' (Some (row_of core ops layout level)) g (active core ops layout level (own_row core ops layout number past' (Some (row_of core ops layout level))) g own) in
      let maker = holding 1 (both (Temp (open_at level)) e) in
      let base = from + 1 in
      let rest = user (Temp from) base in
      let placed1 = lies_left p.temps from (1 ∷ []) rest.widths placed in
      let placed2 = lies_right p.temps from (1 ∷ []) rest.widths placed in
      let c = one_more core ops layout p meant root before pins lowered laid.lasts enough sound.one_root from index (Temp (open_at level)) e false now lane low placed1 tied on (tests ∙ ap bit is) in
      let lane1 = G (maker from).piece.moves lane in
      went_bind core ops layout p meant root before pins from index now now maker user lane c.went
      (went_wider core ops layout p meant root before pins base base index number now lane1 (G rest.moves lane1) (omega arith) few
      (occurrence_rests core ops layout p meant root before pins lowered laid.lasts enough sound.one_root (core.is_root number) base number number past' (Some (row_of core ops layout level)) (Temp from) (active core ops layout level (own_row core ops layout number past' (Some (row_of core ops layout level))) (Temp from) own) now lane1 refl (omega (arith, low)) placed2 c.guarded c.went.tied c.is (omega arith)
      (λ from' lane' more placed' tied' off'. active_rests core ops layout p meant root before pins lowered laid.lasts enough sound.one_root level (own_row core ops layout number past' (Some (row_of core ops layout level))) own level from' (suc number) (past' || core.is_root number) (Temp from) now lane' tree (omega (arith, low, more)) placed' (guard_wider core ops layout p meant root before pins base from' (Temp from) more c.guarded) tied' off')))
  due_runs true from index number above past' inside own (Some e) now lane is is_good so after tree owned below low placed tied on few has tests =
      let node : Node = record { number = number; above = above; level = level; past = past'; own = own } in
      let row = Some (row_of core ops layout level) in
      let user = λ (g : Expr). occurrence core ops layout number past' row g (active core ops layout level (own_row core ops layout number past' row) g own) in
      let maker = holding 1 (both (Temp (open_at level)) e) in
      let base = from + 1 in
      let rest = user (Temp from) base in
      let placed1 = lies_left p.temps from (1 ∷ []) rest.widths placed in
      let placed2 = lies_right p.temps from (1 ∷ []) rest.widths placed in
      let c = one_more core ops layout p meant root before pins lowered laid.lasts enough sound.one_root from index (Temp (open_at level)) e true now lane low placed1 tied on (tests ∙ ap bit is) in
      let lane1 = G (maker from).piece.moves lane in
      let due_here : test node ≡ true = ap₂ (λ (x y : Bool). x && y) (eq-eqb level level refl) is in
      let r = ready core sound (word_of core past) (stands core past) standing_worded level start staged firsts node is_good due_here in
      let word = unwrap_or (words number) 0 in
      let has1 : HasRowWord meant (row_of core ops layout level) turn_word lane1 = c.went.rows (row_of core ops layout level) turn_word (λ same. absurd (apart same)) has in
      let word_is : past' ≡ true → turn_word ≡ word = λ e. sym (r.word.is ∙ ap (λ (b : Bool). word_below b turn_word) (is_good.past_is ∙ e)) in
      let chosen : past' ≡ true → (core.decodes word ≡ true) × (core.chooses number word ≡ true) = λ e. (is_good.chosen e word (r.word.chosen (is_good.past_is ∙ e)), r.word.chosen (is_good.past_is ∙ e)) in
      let runs = own_runs core ops layout p meant root before pins lowered laid.lasts enough sound.one_root number word past' row now (core.is_root number) refl (omega (arith, below)) is_good.past_is (not_root core ops layout p meant root before pins lowered laid.lasts enough sound.one_root number past' inside so after) chosen (λ e. refl) in
      let mine = own_word core number past' word now in
      let begun = behavior core number mine now in
      let end = run core level mine own begun in
      let kept = λ (r' : ℕ) (same : row ≡ Some r') (root_is : r' ≡ root_row core ops layout). absurd (apart (some_is r' same ∙ root_is)) in
      let row_for : (inside ≡ true → (r' : ℕ) × (row ≡ Some r')) × ((r' : ℕ) → row ≡ Some r' → IsRowKept core ops layout p meant root before pins number r') = ((λ e. (row_of core ops layout level, refl)), kept) in
      went_bind core ops layout p meant root before pins from index now end maker user lane c.went
      (went_wider core ops layout p meant root before pins base base index number end lane1 (G rest.moves lane1) (omega arith) few
      (occurrence_went core ops layout p meant root before pins lowered laid.lasts enough sound.one_root (core.is_root number) base number number word past' row (Temp from) (active core ops layout level (own_row core ops layout number past' row) (Temp from) own) now end lane1 refl (omega (arith, low)) placed2 c.guarded c.went.tied c.is (omega arith)
      (λ e. subst (λ (w : ℕ). HasRowWord meant (row_of core ops layout level) w lane1) (word_is e) has1) kept runs
      (λ from' lane' more placed' tied' on' has'. active_runs core ops layout p meant root before pins lowered laid.lasts enough sound.one_root level (own_row core ops layout number past' row) own from' (suc number) number mine (past' || core.is_root number) (Temp from) begun lane' tree owned (omega (arith, below)) (omega (arith, low, more)) placed' (guard_wider core ops layout p meant root before pins base from' (Temp from) more c.guarded) tied' on'
      (own_row_for core ops layout p meant root before pins lowered laid.lasts enough sound.one_root number number past' inside row (core.is_root number) refl so (omega arith) row_for) has' runs)))
    where
      apart : row_of core ops layout level ≡ root_row core ops layout → ⊥
      apart e = omega (arith, e)

      some_is : (r' : ℕ) → Some (row_of core ops layout level) ≡ Some r' → row_of core ops layout level ≡ r'
      some_is r' e = cc

  -- as far as the turn has come: what was activated from no stage is what it was as the turn began
  due_first : (on : Bool) (node : Node) (now : Running M) → node.level ≡ level → (ran_by on node now).first ≡ now.first
  due_first true node now is =
      let mine = own_word core node.number node.past (unwrap_or (words node.number) 0) now in
      first_stays core node.level mine node.own (behavior core node.number mine now) (omega (arith, is, staged)) ∙ begun_first core node.number mine now
  due_first false node now is = refl

  abbrev due_of : List Node → Running M → Running M
  due_of xs now = fold (run_due core words) now (filter test xs)

  no_row : row_of core ops layout level ≡ root_row core ops layout → ⊥
  no_row e = omega (arith, e)

  pub record Turned (from index : ℕ) (now : Running M) (lane after : Moment) : Type 0 where
    pub went : W from index now lane after
    pub first : now.first ≡ start.first

  pub turn_runs : (acts : Acts) (above from index owner : ℕ) (inside : Bool) (now : Running M) (lane : Moment) → level ≤ core.stages → IsGoodTree core root above inside index acts → IsOwned owner acts → Below index acts
      → layout.lasting ≤ from → Lies p.temps from (turn_of core ops layout level above acts from).widths → T now lane → V lane (Temp (open_at level)) ≡ 1
      → HasRowWord meant (row_of core ops layout level) turn_word lane → now.first ≡ start.first
      → Turned from index (due_of (nodes above acts) now) lane (G (turn_of core ops layout level above acts from).moves lane)
  turn_runs Done above from index owner inside now lane within tree owned below low placed tied on has same = record { went = went_here core ops layout p meant root before pins from index now lane tied; first = same }
  turn_runs (Act number own_level past' own rest) above from index owner inside now lane within tree owned below low placed tied on has same =
      let first = turn_by (nat_eq own_level level) above own_level number past' own in
      let base = from + length (first from).widths in
      let after = turn_of core ops layout level above rest base in
      let placed1 = lies_left p.temps from (first from).widths after.widths placed in
      let placed2 = lies_right p.temps from (first from).widths after.widths placed in
      by (nat_eq own_level level) refl placed1 placed2
      (λ placed'. turn_runs own own_level from (suc index) number (past' || core.is_root number) now lane within tree.4 owned.0 (omega (arith, below)) low placed' tied on has same)
      (λ base' middle lane' more placed' tied' on' has' same'. turn_runs rest above base' (suc (index + size own)) owner inside middle lane' within tree.5 owned.1 (omega (arith, below)) (omega (arith, low, more)) placed' tied' on' has' same')
    where
      node : Node
      node = record { number = number; above = above; level = own_level; past = past'; own = own }

      below_it : List Node
      below_it = nodes own_level own

      later : List Node
      later = nodes above rest

      Inner : Type 0
      Inner = Lies p.temps from (turn_of core ops layout level own_level own from).widths → Turned from (suc index) (due_of below_it now) lane (G (turn_of core ops layout level own_level own from).moves lane)

      Rest : Type 0
      Rest = (base' : ℕ) (middle : Running M) (lane' : Moment) → from ≤ base' → Lies p.temps base' (turn_of core ops layout level above rest base').widths → T middle lane' → V lane' (Temp (open_at level)) ≡ 1 → HasRowWord meant (row_of core ops layout level) turn_word lane' → middle.first ≡ start.first
          → Turned base' (suc (index + size own)) (due_of later middle) lane' (G (turn_of core ops layout level above rest base').moves lane')

      by : (b : Bool) → nat_eq own_level level ≡ b → Lies p.temps from (turn_by b above own_level number past' own from).widths
          → Lies p.temps (from + length (turn_by b above own_level number past' own from).widths) (turn_of core ops layout level above rest (from + length (turn_by b above own_level number past' own from).widths)).widths
          → Inner → Rest
          → Turned from index (due_of (node ∷ (below_it ++ later)) now) lane (G (chain (turn_by b above own_level number past' own) (turn_of core ops layout level above rest) from).moves lane)
      by true is placed1 placed2 inner_run rest_run = with_level (eqb-true own_level level is) (is_some (words number)) refl
        where
          base : ℕ
          base = from + length (turn_by true above own_level number past' own from).widths

          lane1 : Moment
          lane1 = G (turn_by true above own_level number past' own from).moves lane

          -- of what is below it nothing is due
          folded : (on : Bool) → own_level ≡ level → is_some (words number) ≡ on → due_of (node ∷ (below_it ++ later)) now ≡ due_of later (ran_by on node now)
          folded true at_level due_is =
              ap (λ (b : Bool). fold (run_due core words) now (cond b (node ∷ filter test (below_it ++ later)) (filter test (below_it ++ later)))) (ap₂ (λ (x y : Bool). x && y) (eq-eqb own_level level at_level) due_is)
              ∙ parts core root words level test at below_it later (run_due core words now node)
              ∙ ap (λ (xs : List Node). fold (run_due core words) (fold (run_due core words) (run_due core words now node) xs) (filter test later)) (none_due core root words level test at own_level (past' || core.is_root number) (suc index) own (omega (arith, at_level)) tree.4)
          folded false at_level due_is =
              ap (λ (b : Bool). fold (run_due core words) now (cond b (node ∷ filter test (below_it ++ later)) (filter test (below_it ++ later)))) (ap₂ (λ (x y : Bool). x && y) (eq-eqb own_level level at_level) due_is)
              ∙ parts core root words level test at below_it later now
              ∙ ap (λ (xs : List Node). fold (run_due core words) (fold (run_due core words) now xs) (filter test later)) (none_due core root words level test at own_level (past' || core.is_root number) (suc index) own (omega (arith, at_level)) tree.4)

          with_level : own_level ≡ level → (on : Bool) → is_some (words number) ≡ on → Turned from index (due_of (node ∷ (below_it ++ later)) now) lane (G (chain (turn_by true above own_level number past' own) (turn_of core ops layout level above rest) from).moves lane)
          with_level at_level on' due_is =
              let own_tree = subst (λ (n : ℕ). IsGoodTree core root own_level (past' || core.is_root number) (suc n) own) (sym tree.0) tree.4 in
              let number_low : number + suc (size own) ≤ suc (size core.acts) = omega (arith, tree.0, below) in
              let number_is : number < suc (size core.acts) = omega (arith, number_low) in
              let went0 : W from index (ran_by on' (record { number = number; above = above; level = level; past = past'; own = own }) now) lane lane1 =
              due_runs on' from index number above past' inside own (waits core ops layout level above number) now lane due_is
              (subst (λ (l : ℕ). IsGood core root (record { number = number; above = above; level = l; past = past'; own = own })) at_level tree.1)
              tree.2 tree.3 (subst (λ (l : ℕ). IsGoodTree core root l (past' || core.is_root number) (suc number) own) at_level own_tree) owned.0 number_low low placed1 tied on (omega (arith, tree.0)) has
              (waits_is above number now lane number_is tree.1.above_is (tree.1.level_is ∙ at_level) tied same) in
              let middle = ran_by on' node now in
              let went1 : W from index middle lane lane1 = subst (λ (l : ℕ). W from index (ran_by on' (record { number = number; above = above; level = l; past = past'; own = own }) now) lane lane1) (sym at_level) went0 in
              let next = rest_run base middle lane1 (omega arith) placed2 went1.tied (open_kept from index middle lane lane1 1 within went1 on)
              (went1.rows (row_of core ops layout level) turn_word (λ e. absurd (no_row e)) has) (due_first on' node now at_level ∙ same) in
              subst (λ (end : Running M). Turned from index end lane (G (chain (turn_by true above own_level number past' own) (turn_of core ops layout level above rest) from).moves lane)) (sym (folded on' at_level due_is)) record {
                went = went_chain core ops layout p meant root before pins from index middle (due_of later middle) (turn_by true above own_level number past' own) (turn_of core ops layout level above rest) lane went1
                    (went_wider core ops layout p meant root before pins base base index (suc (index + size own)) (due_of later middle) lane1 (G (turn_of core ops layout level above rest base).moves lane1) (omega arith) (omega arith) next.went);
                first = next.first;
              }
      by false is placed1 placed2 inner_run rest_run =
          let base = from + length (turn_of core ops layout level own_level own from).widths in
          let lane1 = G (turn_of core ops layout level own_level own from).moves lane in
          let inner = inner_run placed1 in
          let middle = due_of below_it now in
          let folded : due_of (node ∷ (below_it ++ later)) now ≡ due_of later middle =
          ap (λ (b : Bool). fold (run_due core words) now (cond b (node ∷ filter test (below_it ++ later)) (filter test (below_it ++ later)))) (ap (λ (x : Bool). x && is_some (words number)) is)
          ∙ parts core root words level test at below_it later now in
          let next = rest_run base middle lane1 (omega arith) placed2 inner.went.tied (open_kept from (suc index) middle lane lane1 1 within inner.went on)
          (inner.went.rows (row_of core ops layout level) turn_word (λ e. absurd (no_row e)) has) inner.first in
          subst (λ (end : Running M). Turned from index end lane (G (chain (turn_of core ops layout level own_level own) (turn_of core ops layout level above rest) from).moves lane)) (sym folded) record {
            went = went_chain core ops layout p meant root before pins from index middle (due_of later middle) (turn_of core ops layout level own_level own) (turn_of core ops layout level above rest) lane
                (went_wider core ops layout p meant root before pins from from index (suc index) middle lane lane1 (omega arith) (omega arith) inner.went)
                (went_wider core ops layout p meant root before pins base base index (suc (index + size own)) (due_of later middle) lane1 (G (turn_of core ops layout level above rest base).moves lane1) (omega arith) (omega arith) next.went);
            first = next.first;
          }
  turn_runs (When number t taken other rest) above from index owner inside now lane within tree owned below low placed tied on has same =
      let one = turn_of core ops layout level above taken from in
      let base1 = from + length one.widths in
      let two = turn_of core ops layout level above other base1 in
      let base2 = base1 + length two.widths in
      let three = turn_of core ops layout level above rest base2 in
      let placed1 = lies_left p.temps from one.widths (two.widths ++ three.widths) placed in
      let placed2 = lies_right p.temps from one.widths (two.widths ++ three.widths) placed in
      let placed3 = lies_left p.temps base1 two.widths three.widths placed2 in
      let placed4 = lies_right p.temps base1 two.widths three.widths placed2 in
      let xs = nodes above taken in
      let ys = nodes above other in
      let zs = nodes above rest in
      let one' = turn_runs taken above from index owner inside now lane within tree.0 owned.1 (omega (arith, below)) low placed1 tied on has same in
      let now1 = due_of xs now in
      let lane1 = G one.moves lane in
      let on1 = open_kept from index now1 lane lane1 1 within one'.went on in
      let has1 = one'.went.rows (row_of core ops layout level) turn_word (λ e. absurd (no_row e)) has in
      let two' = turn_runs other above base1 (index + size taken) owner inside now1 lane1 within tree.1 owned.2 (omega (arith, below)) (omega (arith, low)) placed3 one'.went.tied on1 has1 one'.first in
      let now2 = due_of ys now1 in
      let lane2 = G two.moves lane1 in
      let on2 = open_kept base1 (index + size taken) now2 lane1 lane2 1 within two'.went on1 in
      let has2 = two'.went.rows (row_of core ops layout level) turn_word (λ e. absurd (no_row e)) has1 in
      let three' = turn_runs rest above base2 (index + (size taken + size other)) owner inside now2 lane2 within tree.2 owned.3 (omega (arith, below)) (omega (arith, low)) placed4 two'.went.tied on2 has2 two'.first in
      let now3 = due_of zs now2 in
      let folded : due_of (xs ++ (ys ++ zs)) now ≡ now3 = parts core root words level test at xs (ys ++ zs) now ∙ parts core root words level test at ys zs now1 in
      subst (λ (end : Running M). Turned from index end lane (G (turn_of core ops layout level above (When number t taken other rest) from).moves lane)) (sym folded) record {
        went = went_chain core ops layout p meant root before pins from index now1 now3 (turn_of core ops layout level above taken) (chain (turn_of core ops layout level above other) (turn_of core ops layout level above rest)) lane one'.went
            (went_wider core ops layout p meant root before pins base1 base1 index (index + size taken) now3 lane1 (G (chain (turn_of core ops layout level above other) (turn_of core ops layout level above rest) base1).moves lane1) (omega arith) (omega arith)
            (went_chain core ops layout p meant root before pins base1 (index + size taken) now2 now3 (turn_of core ops layout level above other) (turn_of core ops layout level above rest) lane1 two'.went
            (went_wider core ops layout p meant root before pins base2 base2 (index + size taken) (index + (size taken + size other)) now3 lane2 (G three.moves lane2) (omega arith) (omega arith) three'.went)));
        first = three'.first;
      }
