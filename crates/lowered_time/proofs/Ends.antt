-- The ends of an edge: bits and words move on; and so an edge is made.
use Rattle.std.proofs.Common.{◌≡◌, ℕ, zero, suc, ◌<◌, ◌≤◌, Bool, true, false, not, ◌&&◌, ◌||◌, cond, List, [], ◌∷◌, ◌++◌, length, get_or, set, Option, Some, None, refl, sym, ap, ap₂, ◌∙◌, subst, arith, nat_eq, ⊎_elim}
use Rattle.std.specs.Prelude.{is_some}
use Rattle.std.specs.Option.{unwrap_or, option_map}
use Rattle.std.specs.List.{list_any, find, AllByRecursion}
use Rattle.std.proofs.lemmas.Bool.{cases_eq, eq-eqb, ne_eqb, eqb-true, eqb-false, both_ways}
use Rattle.std.proofs.lemmas.List.{get_or-set_same, get_or-set_other, length-set}
use Rattle.step_program.specs.Programs.{Expr, Const, Before, Temp, Choose, Move, Program}
use Rattle.step_program.specs.Effects.{Moment, chosen}
use Rattle.pipeline_time.specs.Acts.{size}
use Rattle.pipeline_time.specs.Cores.{Core, above_of, level_of, slot_level, level_of_slots}
use Rattle.pipeline_time.specs.Running.{Activation, Running}
use Rattle.pipeline_time.specs.Edges.{is_held, is_flushed, word_in}
use Rattle.pipeline_time.specs.Journal.{Log, stands, stage_word as word_of}
use Rattle.pipeline_time.specs.States.{log_of, slot_made}
use Rattle.pipeline_time.specs.Bits.{is_recorded, is_open, next_bit as core_bit, next_word as core_word, word_from}
use Rattle.pipeline_time.specs.Sound.{IsSound}
use Rattle.pipeline_time.proofs.Tree.{level_within}
use Rattle.pipeline_time.proofs.Turns.{moving}
use Rattle.pipeline_time.proofs.Agree.{IsGoodPast, between}
use Rattle.lowered_time.specs.Pieces.{both, none}
use Rattle.lowered_time.specs.Building.{Operations, Layout, slot_at, held_at, open_at, recorded_at, stage_word, place_word, stays, stood, came, next_bit, next_word, set_place, bit_ends, ends}
use Rattle.lowered_time.specs.Lowering.{bit, IsTimes, a_bit, a_word, IsUnseen, IsLaidOut, Meant, AreLowered, Agrees, IsWordOf}
use Rattle.lowered_time.proofs.Base.{both_is, either_is, none_is, ran_append}
use Rattle.lowered_time.proofs.Went.{go, val}
use Rattle.lowered_time.proofs.Turns.{Come}

module _ {R M A B C D E : Type 0} (core : Core R M) (sound : IsSound core) (ops : Operations) (layout : Layout) (p : Program) (meant : Meant R M A B C D E) (before pins : List ℕ) (lowered : AreLowered core ops layout p meant) (laid : IsLaidOut core layout p) (enough : layout.lasting ≤ length p.temps)
    (past : List Log) (good : IsGoodPast core past)
    (bits_are : (level number place : ℕ) → layout.bit level number ≡ Some place → get_or before place 0 ≡ bit (is_some (stands core past level number)))
    (words_are : (level place : ℕ) → layout.word level ≡ Some place → get_or before place 0 ≡ word_of core past level)
    (no_words : (level : ℕ) → layout.word level ≡ None → word_of core past level ≡ 0)
    (are_words : (level : ℕ) → IsWordOf meant (word_of core past level))
    (now : Running M) (first : Moment)
    (come : Come core sound ops layout p meant before pins lowered laid enough past good bits_are words_are no_words are_words 0 now first) where
  abbrev root : ℕ
  root = sound.root

  abbrev G : List Move → Moment → Moment
  G moves lane = go core ops layout p meant root before pins moves lane

  abbrev V : Moment → Expr → ℕ
  V lane e = val core ops layout p meant root before pins lane e

  abbrev log : Log
  log = log_of core now

  abbrev bits : ℕ → ℕ → Bool
  bits level number = is_some (stands core past level number)

  abbrev pub words : ℕ → ℕ
  words = word_of core past

  -- as far as the ends have come: items of bits and words change, and nothing else
  pub record Ending (lane : Moment) : Type 0 where
    pub unseen : IsUnseen core layout first lane
    pub temps : lane.temps ≡ first.temps

  agrees : (lane : Moment) → Ending lane → Agrees meant before pins now.moment lane
  agrees lane e = lowered.unseen before pins now.moment first lane e.unseen come.tied.agrees

  temp_is : (lane : Moment) → Ending lane → (t : ℕ) → get_or lane.temps t 0 ≡ get_or first.temps t 0
  temp_is lane e t = ap (λ (ts : List ℕ). get_or ts t 0) e.temps

  held_is : (lane : Moment) → Ending lane → (level : ℕ) → 0 < level → level ≤ core.stages → V lane (Temp (held_at level)) ≡ bit (is_held log.stalled level)
  held_is lane e level low high = temp_is lane e (held_at level) ∙ come.right.held level low high

  open_is : (lane : Moment) → Ending lane → (level : ℕ) → 0 < level → level ≤ core.stages → V lane (Temp (open_at level)) ≡ bit (is_open log level)
  open_is lane e level low high = temp_is lane e (open_at level) ∙ come.right.free level low high

  flushed_is : (lane : Moment) → Ending lane → (level : ℕ) → 0 < level → level ≤ core.stages → V lane (ops.flushed level) ≡ bit (is_flushed log.flushed level)
  flushed_is lane e level low high = lowered.flushed_is before pins now.moment lane level (agrees lane e) low high

  -- ---- a bit

  not_first : (number : ℕ) (pairs : List (ℕ × ℕ)) → AllByRecursion (λ (pair : ℕ × ℕ). above_of core pair.0 ≡ 0) pairs → 0 < above_of core number → is_some (word_in number pairs) ≡ false
  not_first number [] each staged = refl
  not_first number (pair ∷ pairs) each staged =
      ap (λ (b : Bool). is_some (option_map (λ (pair : ℕ × ℕ). pair.1) (cond b (Some pair) (find (λ (pair : ℕ × ℕ). nat_eq pair.0 number) pairs)))) (ne_eqb pair.0 number (λ same. let e = subst (λ (n : ℕ). above_of core n ≡ 0) same each.0 in omega (arith, e, staged)))
      ∙ not_first number pairs each.1 staged

  -- what was recorded of an occurrence was recorded at its activator's level
  recorded_there : (level number : ℕ) (made : List Activation) → AllByRecursion (λ (a : Activation). (above_of core a.occurrence ≡ a.level) × (0 < a.level)) made → level ≡ above_of core number → is_recorded made level number ≡ list_any (λ (a : Activation). nat_eq a.occurrence number) made
  recorded_there level number [] each is = refl
  recorded_there level number (a ∷ made) each is = ap₂ (λ (x y : Bool). x || y) (one (nat_eq a.occurrence number) refl) (recorded_there level number made each.1 is)
    where
      one : (b : Bool) → nat_eq a.occurrence number ≡ b → (b && nat_eq a.level level) ≡ b
      one true e = let same = eqb-true a.occurrence number e in eq-eqb a.level level (let l = subst (λ (n : ℕ). above_of core n ≡ a.level) same each.0.0 in omega (arith, l, is))
      one false e = refl

  recorded_nowhere : (level number : ℕ) (made : List Activation) → AllByRecursion (λ (a : Activation). (above_of core a.occurrence ≡ a.level) × (0 < a.level)) made → (level ≡ above_of core number → ⊥) → is_recorded made level number ≡ false
  recorded_nowhere level number [] each ne = refl
  recorded_nowhere level number (a ∷ made) each ne = ap₂ (λ (x y : Bool). x || y) (one (nat_eq a.occurrence number) refl) (recorded_nowhere level number made each.1 ne)
    where
      one : (b : Bool) → nat_eq a.occurrence number ≡ b → (b && nat_eq a.level level) ≡ false
      one true e = let same = eqb-true a.occurrence number e in ne_eqb a.level level (λ at. ne (let l = subst (λ (n : ℕ). above_of core n ≡ a.level) same each.0.0 in omega (arith, l, at)))
      one false e = refl

  never_stands : (level number : ℕ) (o : Option ℕ) → stands core past level number ≡ o → ((0 < above_of core number) × (above_of core number < level) × (level ≤ level_of core number) → ⊥) → is_some o ≡ false
  never_stands level number None e never = refl
  never_stands level number (Some w) e never = let b = between core past level number w good e in absurd (never (b.staged, b.after_activator, b.until_own))

  came_is : (lane : Moment) → Ending lane → (level number : ℕ) → number < suc (size core.acts) → 0 < above_of core number → above_of core number ≤ level → level < level_of core number
      → V lane (came core ops layout level number) ≡ bit ((bits level number && not (nat_eq level (level_of core number))) || is_recorded log.made level number)
  came_is lane e level number less staged above own = of (nat_eq level (above_of core number)) refl
    where
      last : nat_eq level (level_of core number) ≡ false
      last = ne_eqb level (level_of core number) (λ same. omega (arith, same, own))

      of : (b : Bool) → nat_eq level (above_of core number) ≡ b → V lane (cond b (Temp (recorded_at core.stages number)) (stood core ops layout (layout.bit level number))) ≡ bit ((bits level number && not (nat_eq level (level_of core number))) || is_recorded log.made level number)
      of true is =
          let same = eqb-true level (above_of core number) is in
          temp_is lane e (recorded_at core.stages number) ∙ come.tied.recorded number less
          ∙ ap bit (ap (λ (b : Bool). list_any (λ (a : Activation). nat_eq a.occurrence number) now.made || b) (not_first number now.first come.tied.recording.first staged) ∙ or_false (list_any (λ (a : Activation). nat_eq a.occurrence number) now.made)
          ∙ sym (recorded_there level number now.made come.tied.recording.made same)
          ∙ sym (ap (λ (b : Bool). (b && not (nat_eq level (level_of core number))) || is_recorded log.made level number) (never_stands level number (stands core past level number) refl (λ b. omega (arith, b.1, same)))))
        where
          or_false : (b : Bool) → (b || false) ≡ b
          or_false true = refl
          or_false false = refl
      of false is =
          let ne = eqb-false level (above_of core number) is in
          was (layout.bit level number) refl
          ∙ sym (ap bit (ap₂ (λ (x y : Bool). (bits level number && not x) || y) last (recorded_nowhere level number now.made come.tied.recording.made ne) ∙ plain (bits level number)))
        where
          plain : (b : Bool) → ((b && true) || false) ≡ b
          plain true = refl
          plain false = refl

          was : (o : Option ℕ) → layout.bit level number ≡ o → V lane (stood core ops layout o) ≡ bit (bits level number)
          was None at = let h = laid.has_bit level number less staged (let ne = eqb-false level (above_of core number) is in omega (arith, above, ne)) (omega (arith, own)) in absurd (both_ways false refl (sym (ap is_some at) ∙ h))
          was (Some place) at = bits_are level number place at

  bit_is : (lane : Moment) → Ending lane → (level number place : ℕ) → layout.bit (suc level) number ≡ Some place → V lane (next_bit core ops layout level number place) ≡ bit (core_bit core log bits (suc level) number)
  bit_is lane e level number place at =
      let b = laid.bit_between (suc level) number place at in
      let stages = level_within core sound number in
      let within : suc level ≤ core.stages = omega (arith, b.3, stages) in
      let low : 0 < level = omega (arith, b.1, b.2) in
      let held = is_held log.stalled (suc level) in
      let flushed = is_flushed log.flushed (suc level) in
      let moved = (bits level number && not (nat_eq level (level_of core number))) || is_recorded log.made level number in
      either_is p before pins lane (both (Before place) (stays core ops layout (suc level))) (both (Temp (open_at level)) (came core ops layout level number)) (bits (suc level) number && (held && not flushed)) (is_open log level && moved)
      (both_is p before pins lane (Before place) (stays core ops layout (suc level)) (bits (suc level) number) (held && not flushed) (bits_are (suc level) number place at)
      (both_is p before pins lane (Temp (held_at (suc level))) (none (ops.flushed (suc level))) held (not flushed) (held_is lane e (suc level) (omega arith) within) (none_is p before pins lane (ops.flushed (suc level)) flushed (flushed_is lane e (suc level) (omega arith) within))))
      (both_is p before pins lane (Temp (open_at level)) (came core ops layout level number) (is_open log level) moved (open_is lane e level low (omega (arith, within))) (came_is lane e level number b.0 b.1 (omega (arith, b.2)) (omega (arith, b.3))))

  -- ---- a word

  choose_bit : (b : Bool) (this other : ℕ) → chosen (bit b) this other ≡ cond b this other
  choose_bit true this other = refl
  choose_bit false this other = refl

  slots_staged : (o : Option ℕ) → is_some o ≡ true → 0 < level_of_slots o
  slots_staged None is = absurd (both_ways false refl is)
  slots_staged (Some zero) is = omega arith
  slots_staged (Some (suc stage)) is = omega arith

  Ending_tied : (lane : Moment) → Ending lane → V lane (Temp slot_at) ≡ unwrap_or now.slot 0
  Ending_tied lane e = temp_is lane e slot_at ∙ come.tied.slot

  moved_word : (lane : Moment) → Ending lane → (level : ℕ) → V lane (stage_word core ops layout level) ≡ moving core words now.slot level
  moved_word lane e level = of (nat_eq level (slot_level core)) (layout.word level) refl
    where
      of : (b : Bool) (o : Option ℕ) → layout.word level ≡ o → V lane (cond b (Temp slot_at) (place_word core ops layout o)) ≡ cond b (unwrap_or now.slot 0) (words level)
      of true o at = Ending_tied lane e
      of false None at = sym (no_words level at)
      of false (Some place) at = words_are level place at

  -- the slot that the edge makes is the one that the root took, where its level is free
  slot_open : (o : Option ℕ) (level : ℕ) → is_some o ≡ true → level ≡ level_of_slots o → is_open log level ≡ true → slot_made core o now ≡ now.slot
  slot_open None level some is free = absurd (both_ways false refl some)
  slot_open (Some zero) level some is free = ap (λ (b : Bool). cond b now.slot None) (subst (λ (l : ℕ). is_open log l ≡ true) is free)
  slot_open (Some (suc stage)) level some is free = refl

  from_is : (level : ℕ) → is_some core.root_level ≡ true → is_open log level ≡ true → moving core words now.slot level ≡ word_from core log words level
  from_is level some free = of (nat_eq level (slot_level core)) refl
    where
      of : (b : Bool) → nat_eq level (slot_level core) ≡ b → cond b (unwrap_or now.slot 0) (words level) ≡ cond b (unwrap_or (slot_made core core.root_level now) 0) (words level)
      of true e = sym (ap (λ (o : Option ℕ). unwrap_or o 0) (slot_open core.root_level level some (eqb-true level (slot_level core) e) free))
      of false e = refl

  word_is : (lane : Moment) → Ending lane → (level place : ℕ) → layout.word (suc level) ≡ Some place → V lane (next_word core ops layout level place) ≡ core_word core log words (suc level)
  word_is lane e level place at =
      let b = laid.word_between (suc level) place at in
      let positive = slots_staged core.root_level b.0 in
      let low : 0 < level = omega (arith, b.1, positive) in
      let held = is_held log.stalled (suc level) in
      let flushed = is_flushed log.flushed (suc level) in
      let w = V lane (stage_word core ops layout level) in
      let one : V lane (next_word core ops layout level place) ≡ cond held (cond flushed 0 (words (suc level))) (cond (is_open log level) w 0) =
      ap (λ (n : ℕ). chosen n (V lane (Choose (ops.flushed (suc level)) (Const layout.width 0) (Before place))) (V lane (Choose (Temp (open_at level)) (stage_word core ops layout level) (Const layout.width 0)))) (held_is lane e (suc level) (omega arith) b.2)
      ∙ choose_bit held (V lane (Choose (ops.flushed (suc level)) (Const layout.width 0) (Before place))) (V lane (Choose (Temp (open_at level)) (stage_word core ops layout level) (Const layout.width 0)))
      ∙ ap₂ (λ (x y : ℕ). cond held x y)
      (ap (λ (n : ℕ). chosen n 0 (get_or before place 0)) (flushed_is lane e (suc level) (omega arith) b.2) ∙ choose_bit flushed 0 (get_or before place 0) ∙ ap (λ (n : ℕ). cond flushed 0 n) (words_are (suc level) place at))
      (ap (λ (n : ℕ). chosen n w 0) (open_is lane e level low (omega (arith, b.2))) ∙ choose_bit (is_open log level) w 0) in
      one ∙ ap (λ (n : ℕ). cond held (cond flushed 0 (words (suc level))) n) (rest (is_open log level) refl)
    where
      rest : (b : Bool) → is_open log level ≡ b → cond b (V lane (stage_word core ops layout level)) 0 ≡ cond (b && not (nat_eq level core.stages)) (word_from core log words level) 0
      rest true free =
          let b = laid.word_between (suc level) place at in
          moved_word lane e level ∙ from_is level b.0 free
          ∙ sym (ap (λ (x : Bool). cond (not x) (word_from core log words level) 0) (ne_eqb level core.stages (λ same. omega (arith, same, b.2))))
      rest false free = refl

  -- ---- places, one after the other

  abbrev with_item : ℕ → ℕ → Moment → Moment
  with_item place v lane = record { items = set lane.items place v; temps = lane.temps; cells = lane.cells }

  set_ending : (place v : ℕ) (lane : Moment) → IsTimes layout place → Ending lane → Ending (with_item place v lane)
  set_ending place v lane is e = record {
    unseen = record {
      items = λ q other. get_or-set_other lane.items place q v 0 (λ same. other (subst (IsTimes layout) (sym same) is)) ∙ e.unseen.items q other;
      item_count = length-set lane.items place v ∙ e.unseen.item_count;
      temps = e.unseen.temps;
      temp_count = e.unseen.temp_count;
      cells = e.unseen.cells;
    };
    temps = e.temps;
  }

  fits : (place : ℕ) (lane : Moment) → Ending lane → place < length p.items → place < length lane.items
  fits place lane e less = omega (arith, less, e.unseen.item_count, come.tied.item_count)

  -- the bits of a level, of the first occurrences
  record BitsMade (level number : ℕ) (lane after : Moment) : Type 0 where
    ending : Ending after
    made : (n place : ℕ) → n < number → layout.bit (suc level) n ≡ Some place → get_or after.items place 0 ≡ bit (core_bit core log bits (suc level) n)
    others : (place : ℕ) → ((n : ℕ) → n < number → layout.bit (suc level) n ≡ Some place → ⊥) → get_or after.items place 0 ≡ get_or lane.items place 0

  bits_made : (level number : ℕ) (lane : Moment) → Ending lane → BitsMade level number lane (G (bit_ends core ops layout level number) lane)
  bits_made level zero lane e = record { ending = e; made = λ n place less at. absurd (omega (arith, less)); others = λ place never. refl }
  bits_made level (suc number) lane e =
      let m = bits_made level number lane e in
      subst (λ (after : Moment). BitsMade level (suc number) lane after) (sym (ran_append p before pins (bit_ends core ops layout level number) (set_place core ops layout (layout.bit (suc level) number) (next_bit core ops layout level number)) lane))
      (of (layout.bit (suc level) number) refl (G (bit_ends core ops layout level number) lane) m)
    where
      of : (o : Option ℕ) → layout.bit (suc level) number ≡ o → (middle : Moment) → BitsMade level number lane middle → BitsMade level (suc number) lane (G (set_place core ops layout o (next_bit core ops layout level number)) middle)
      of None at middle m = record {
        ending = m.ending;
        made = λ n place less is. ⊎_elim (λ same. absurd (none_is place (sym at ∙ ap (λ (k : ℕ). layout.bit (suc level) k) (sym same) ∙ is))) (λ ne. m.made n place (omega (arith, less, ne)) is) (cases_eq n number);
        others = λ place never. m.others place (λ n less is. never n (omega (arith, less)) is);
      }
        where
          none_is : (place : ℕ) → None ≡ Some place → ⊥
          none_is place e = cc
      of (Some spot) at middle m =
          let v = V middle (next_bit core ops layout level number spot) in
          let room = fits spot middle m.ending (laid.bit_within (suc level) number spot at) in
          record {
            ending = set_ending spot v middle (a_bit (suc level) number at) m.ending;
            made = λ n place less is. ⊎_elim
                (λ same.
                let place_is : place ≡ spot = some_is place spot (sym is ∙ ap (λ (k : ℕ). layout.bit (suc level) k) same ∙ at) in
                ap (λ (q : ℕ). get_or (set middle.items spot v) q 0) place_is ∙ get_or-set_same middle.items spot v 0 room ∙ bit_is middle m.ending level number spot at ∙ sym (ap (λ (k : ℕ). bit (core_bit core log bits (suc level) k)) same))
                (λ ne. get_or-set_other middle.items spot place v 0 (λ same. ne (laid.one_bit (suc level) n (suc level) number spot (subst (λ (q : ℕ). layout.bit (suc level) n ≡ Some q) same is) at).1) ∙ m.made n place (omega (arith, less, ne)) is)
                (cases_eq n number);
            others = λ place never. get_or-set_other middle.items spot place v 0 (λ same. never number (omega arith) (at ∙ ap Some (sym same))) ∙ m.others place (λ n less is. never n (omega (arith, less)) is);
          }
        where
          some_is : (a b : ℕ) → Some a ≡ Some b → a ≡ b
          some_is a b e = cc

  -- bits and words of the first levels
  pub record EndsMade (levels : ℕ) (after : Moment) : Type 0 where
    pub ending : Ending after
    pub bits : (level number place : ℕ) → level < levels → layout.bit (suc level) number ≡ Some place → get_or after.items place 0 ≡ bit (core_bit core log bits (suc level) number)
    pub words : (level place : ℕ) → level < levels → layout.word (suc level) ≡ Some place → get_or after.items place 0 ≡ core_word core log words (suc level)

  begins_ending : Ending first
  begins_ending = record { unseen = record { items = λ q other. refl; item_count = refl; temps = λ t low high. refl; temp_count = refl; cells = refl }; temps = refl }

  pub ends_made : (levels : ℕ) → EndsMade levels (G (ends core ops layout levels) first)
  ends_made zero = record { ending = begins_ending; bits = λ level number place less at. absurd (omega (arith, less)); words = λ level place less at. absurd (omega (arith, less)) }
  ends_made (suc levels) =
      let m = ends_made levels in
      let middle = G (ends core ops layout levels) first in
      let count = suc (size core.acts) in
      let b = bits_made levels count middle m.ending in
      let middle' = G (bit_ends core ops layout levels count) middle in
      subst (λ (after : Moment). EndsMade (suc levels) after)
      (sym (ran_append p before pins (ends core ops layout levels) (bit_ends core ops layout levels count ++ set_place core ops layout (layout.word (suc levels)) (next_word core ops layout levels)) first
      ∙ ran_append p before pins (bit_ends core ops layout levels count) (set_place core ops layout (layout.word (suc levels)) (next_word core ops layout levels)) middle))
      (of (layout.word (suc levels)) refl middle middle' m b)
    where
      of : (o : Option ℕ) → layout.word (suc levels) ≡ o → (middle middle' : Moment) → EndsMade levels middle → BitsMade levels (suc (size core.acts)) middle middle' → EndsMade (suc levels) (G (set_place core ops layout o (next_word core ops layout levels)) middle')
      of None at middle middle' m b = record {
        ending = b.ending;
        bits = λ level number place less is. ⊎_elim
            (λ same. ap_level level number place same is)
            (λ ne. b.others place (λ n low at'. ne (suc_is level levels (laid.one_bit (suc level) number (suc levels) n place is at').0)) ∙ m.bits level number place (omega (arith, less, ne)) is)
            (cases_eq level levels);
        words = λ level place less is. ⊎_elim
            (λ same. absurd (none_is place (sym at ∙ ap (λ (k : ℕ). layout.word (suc k)) (sym same) ∙ is)))
            (λ ne. b.others place (λ n low at'. laid.apart (suc levels) n (suc level) place at' is) ∙ m.words level place (omega (arith, less, ne)) is)
            (cases_eq level levels);
      }
        where
          none_is : (place : ℕ) → None ≡ Some place → ⊥
          none_is place e = cc

          suc_is : (x y : ℕ) → suc x ≡ suc y → x ≡ y
          suc_is x y e = omega (arith, e)

          ap_level : (level number place : ℕ) → level ≡ levels → layout.bit (suc level) number ≡ Some place → get_or middle'.items place 0 ≡ bit (core_bit core log bits (suc level) number)
          ap_level level number place same is =
              let is' : layout.bit (suc levels) number ≡ Some place = ap (λ (k : ℕ). layout.bit (suc k) number) (sym same) ∙ is in
              b.made number place (laid.bit_between (suc levels) number place is').0 is' ∙ sym (ap (λ (k : ℕ). bit (core_bit core log bits (suc k) number)) same)
      of (Some spot) at middle middle' m b =
          let v = V middle' (next_word core ops layout levels spot) in
          let room = fits spot middle' b.ending (laid.word_within (suc levels) spot at) in
          record {
            ending = set_ending spot v middle' (a_word (suc levels) at) b.ending;
            bits = λ level number place less is.
                get_or-set_other middle'.items spot place v 0 (λ same. laid.apart (suc level) number (suc levels) place is (at ∙ ap Some (sym same)))
                ∙ ⊎_elim
                (λ same. ap_level level number place same is)
                (λ ne. b.others place (λ n low at'. ne (suc_is level levels (laid.one_bit (suc level) number (suc levels) n place is at').0)) ∙ m.bits level number place (omega (arith, less, ne)) is)
                (cases_eq level levels);
            words = λ level place less is. ⊎_elim
                (λ same.
                let place_is : place ≡ spot = some_is place spot (sym is ∙ ap (λ (k : ℕ). layout.word (suc k)) same ∙ at) in
                ap (λ (q : ℕ). get_or (set middle'.items spot v) q 0) place_is ∙ get_or-set_same middle'.items spot v 0 room ∙ word_is middle' b.ending levels spot at ∙ sym (ap (λ (k : ℕ). core_word core log words (suc k)) same))
                (λ ne. get_or-set_other middle'.items spot place v 0 (λ same. ne (suc_is level levels (laid.one_word (suc level) (suc levels) spot (subst (λ (q : ℕ). layout.word (suc level) ≡ Some q) same is) at)))
                ∙ b.others place (λ n low at'. laid.apart (suc levels) n (suc level) place at' is) ∙ m.words level place (omega (arith, less, ne)) is)
                (cases_eq level levels);
          }
        where
          some_is : (a b : ℕ) → Some a ≡ Some b → a ≡ b
          some_is a b e = cc

          suc_is : (x y : ℕ) → suc x ≡ suc y → x ≡ y
          suc_is x y e = omega (arith, e)

          ap_level : (level number place : ℕ) → level ≡ levels → layout.bit (suc level) number ≡ Some place → get_or middle'.items place 0 ≡ bit (core_bit core log bits (suc level) number)
          ap_level level number place same is =
              let is' : layout.bit (suc levels) number ≡ Some place = ap (λ (k : ℕ). layout.bit (suc k) number) (sym same) ∙ is in
              b.made number place (laid.bit_between (suc levels) number place is').0 is' ∙ sym (ap (λ (k : ℕ). bit (core_bit core log bits (suc k) number)) same)
