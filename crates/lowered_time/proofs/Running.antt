-- What runs under a guard does what runs in the core, where the guard is 1, and nothing where it is 0.
use Rattle.std.proofs.Common.{◌≡◌, ℕ, zero, suc, ◌+◌, ◌<◌, ◌≤◌, Bool, true, false, not, ◌&&◌, ◌||◌, cond, List, [], ◌∷◌, ◌++◌, length, get_or, Option, Some, None, refl, sym, ap, ap₂, ◌∙◌, subst, arith, nat_eq, ⊎_elim, inl, inr, bit_and}
use Rattle.std.specs.Prelude.{is_some}
use Rattle.std.specs.Option.{unwrap_or, option_map}
use Rattle.std.specs.List.{list_any, find}
use Rattle.std.proofs.lemmas.Bool.{cases_eq, eq-eqb, ne_eqb, eqb-true, both_ways}
use Rattle.std.proofs.lemmas.List.{get_or-set_same, get_or-set_other, length-set}
use Rattle.step_program.specs.Programs.{Expr, Temp, Aim, ToTemp, Move, Program}
use Rattle.step_program.specs.Effects.{Moment, taken, chosen as picked}
use Rattle.step_pieces.specs.Formed.{Lies}
use Rattle.step_pieces.proofs.Laid.{lies_left, lies_right, lies_one}
use Rattle.pipeline_time.specs.Acts.{Acts, Done, Act, When, size}
use Rattle.pipeline_time.specs.Cores.{Core, above_of, is_past}
use Rattle.pipeline_time.specs.Running.{Activation, Running, word_below, own_word, behavior, activate, run}
use Rattle.pipeline_time.specs.Edges.{word_in}
use Rattle.pipeline_time.proofs.Tree.{IsGoodTree}
use Rattle.step_pieces.specs.Pieces.{Piece, Builder, always}
use Rattle.lowered_time.specs.Pieces.{Made, nothing, steps, chain, bind, given, both, none, holding}
use Rattle.lowered_time.specs.Building.{Operations, Layout, taken_at, slot_at, recorded_at, time_temps, root_row, own_row, chosen, slotted, rooted, recorded, occurrence, is_idle, active}
use Rattle.lowered_time.specs.Lowering.{bit, IsGuard, no_guard, held_guard, Meant, RowHas, Runs, IsPart, IsOwned, AreLowered, Agrees, HasRowWord, IsWordOf}
use Rattle.lowered_time.proofs.Base.{both_is, none_is, ran_append}
use Rattle.lowered_time.proofs.Went.{with_temp, go, val, was_recorded, Recording, Tied, IsRowKept, Went, went_wider, went_here, went_chain, went_bind, guard_kept, guard_wider, row_kept, went_part, unseen_temp, went_holding, holding_is}

module _ {R M A B C D E : Type 0} (core : Core R M) (ops : Operations) (layout : Layout) (p : Program) (meant : Meant R M A B C D E) (root : ℕ) (before pins : List ℕ) (lowered : AreLowered core ops layout p meant) (lasts : time_temps core ≤ layout.lasting) (enough : layout.lasting ≤ length p.temps) (one_root : (number : ℕ) → core.is_root number ≡ true → number ≡ root) where
  abbrev G : List Move → Moment → Moment
  G moves lane = go core ops layout p meant root before pins moves lane

  abbrev V : Moment → Expr → ℕ
  V lane e = val core ops layout p meant root before pins lane e

  abbrev T : Running M → Moment → Type 0
  T now lane = Tied core ops layout p meant root before pins now lane

  abbrev W : ℕ → ℕ → Running M → Moment → Moment → Type 0
  W from index now lane after = Went core ops layout p meant root before pins from index now lane after

  abbrev Kept : ℕ → ℕ → Type 0
  Kept index row = IsRowKept core ops layout p meant root before pins index row

  -- ---- temps that are set under a guard

  -- a step under a guard that is 0 does nothing
  idle : (guard e : Expr) (aim : Aim) (lane : Moment) → V lane guard ≡ 0 → G (given guard aim e ∷ []) lane ≡ lane
  idle guard e aim lane off = ap (λ (n : ℕ). picked n (taken p before pins lane aim (V lane e)) lane) off

  done : (guard e : Expr) (aim : Aim) (lane : Moment) → V lane guard ≡ 1 → G (given guard aim e ∷ []) lane ≡ taken p before pins lane aim (V lane e)
  done guard e aim lane on = ap (λ (n : ℕ). picked n (taken p before pins lane aim (V lane e)) lane) on

  -- ---- what is recorded

  any_more : (k number level word : ℕ) (now : Running M) → was_recorded core ops layout p meant root before pins k (activate core level number word now) ≡ (nat_eq number k || was_recorded core ops layout p meant root before pins k now)
  unfolding activate
  any_more k number zero word now = of (nat_eq number k) refl
    where
      of : (b : Bool) → nat_eq number k ≡ b → (list_any (λ (a : Activation). nat_eq a.occurrence k) now.made || is_some (option_map (λ (pair : ℕ × ℕ). pair.1) (cond (nat_eq number k) (Some (number, word)) (find (λ (pair : ℕ × ℕ). nat_eq pair.0 k) now.first)))) ≡ (nat_eq number k || (list_any (λ (a : Activation). nat_eq a.occurrence k) now.made || is_some (word_in k now.first)))
      of true e = ap (λ (b : Bool). list_any (λ (a : Activation). nat_eq a.occurrence k) now.made || is_some (option_map (λ (pair : ℕ × ℕ). pair.1) (cond b (Some (number, word)) (find (λ (pair : ℕ × ℕ). nat_eq pair.0 k) now.first)))) e ∙ last (list_any (λ (a : Activation). nat_eq a.occurrence k) now.made) ∙ sym (ap (λ (b : Bool). b || (list_any (λ (a : Activation). nat_eq a.occurrence k) now.made || is_some (word_in k now.first))) e)
        where
          last : (b : Bool) → (b || true) ≡ true
          last true = refl
          last false = refl
      of false e = ap (λ (b : Bool). list_any (λ (a : Activation). nat_eq a.occurrence k) now.made || is_some (option_map (λ (pair : ℕ × ℕ). pair.1) (cond b (Some (number, word)) (find (λ (pair : ℕ × ℕ). nat_eq pair.0 k) now.first)))) e ∙ sym (ap (λ (b : Bool). b || (list_any (λ (a : Activation). nat_eq a.occurrence k) now.made || is_some (word_in k now.first))) e)
  any_more k number (suc level) word now = of (nat_eq number k)
    where
      of : (b : Bool) → ((b || list_any (λ (a : Activation). nat_eq a.occurrence k) now.made) || is_some (word_in k now.first)) ≡ (b || (list_any (λ (a : Activation). nat_eq a.occurrence k) now.made || is_some (word_in k now.first)))
      of true = refl
      of false = refl

  sorted_more : (number level word : ℕ) (now : Running M) → above_of core number ≡ level → Recording core ops layout p meant root before pins now → Recording core ops layout p meant root before pins (activate core level number word now)
  unfolding activate
  sorted_more number zero word now is r = record { made = r.made; first = (is, r.first) }
  sorted_more number (suc level) word now is r = record { made = ((is, omega arith), r.made); first = r.first }

  same_moment : (number level word : ℕ) (now : Running M) → (activate core level number word now).moment ≡ now.moment
  unfolding activate
  same_moment number zero word now = refl
  same_moment number (suc level) word now = refl

  same_slot : (number level word : ℕ) (now : Running M) → (activate core level number word now).slot ≡ now.slot
  unfolding activate
  same_slot number zero word now = refl
  same_slot number (suc level) word now = refl

  one_recorded : (from index number level word : ℕ) (guard : Expr) (now : Running M) (lane : Moment) → number < suc (size core.acts) → above_of core number ≡ level → T now lane → V lane guard ≡ 1 → W from index (activate core level number word now) lane (G (recorded core ops layout number guard from).moves lane)
  one_recorded from index number level word guard now lane less is tied on =
      let at = recorded_at core.stages number in
      let fits : at < length lane.temps = omega (arith, less, lasts, tied.temp_count) in
      let after = with_temp at 1 lane in
      let unseen = unseen_temp core ops layout p meant root before pins at 1 lane (inl (omega (arith, less))) in
      let next = activate core level number word now in
      subst (λ (m : Moment). W from index next lane m) (sym (done guard always (ToTemp at) lane on)) record {
        tied = record {
          agrees = subst (λ (m : M). Agrees meant before pins m after) (sym (same_moment number level word now)) (lowered.unseen before pins now.moment lane after unseen tied.agrees);
          recorded = λ k low. ⊎_elim
              (λ e. ap (λ (n : ℕ). get_or after.temps (recorded_at core.stages n) 0) e ∙ get_or-set_same lane.temps at 1 0 fits ∙ sym (ap bit (any_more k number level word now ∙ ap (λ b. b || was_recorded core ops layout p meant root before pins k now) (eq-eqb number k (sym e)))))
              (λ ne. get_or-set_other lane.temps at (recorded_at core.stages k) 1 0 (λ same. ne (omega (arith, same))) ∙ tied.recorded k low ∙ sym (ap bit (any_more k number level word now ∙ ap (λ b. b || was_recorded core ops layout p meant root before pins k now) (ne_eqb number k (λ same. ne (sym same))))))
              (cases_eq k number);
          taken = get_or-set_other lane.temps at taken_at 1 0 (λ same. omega (arith, same)) ∙ tied.taken ∙ ap (λ (o : Option ℕ). bit (is_some o)) (sym (same_slot number level word now));
          slot = get_or-set_other lane.temps at slot_at 1 0 (λ same. omega (arith, same)) ∙ tied.slot ∙ ap (λ (o : Option ℕ). unwrap_or o 0) (sym (same_slot number level word now));
          is_word = subst (λ (o : Option ℕ). IsWordOf meant (unwrap_or o 0)) (sym (same_slot number level word now)) tied.is_word;
          temp_count = length-set lane.temps at 1 ∙ tied.temp_count;
          item_count = tied.item_count;
          recording = sorted_more number level word now is tied.recording;
        };
        controls = λ temp low high. get_or-set_other lane.temps at temp 1 0 (λ same. omega (arith, same, high));
        others = λ temp low high. get_or-set_other lane.temps at temp 1 0 (λ same. omega (arith, same, low, less, lasts));
        rows = λ row w kept has. lowered.row_unseen row w lane after unseen has;
      }

  none_recorded : (from index number : ℕ) (guard : Expr) (now : Running M) (lane : Moment) → T now lane → V lane guard ≡ 0 → W from index now lane (G (recorded core ops layout number guard from).moves lane)
  none_recorded from index number guard now lane tied off =
      subst (λ (m : Moment). W from index now lane m) (sym (idle guard always (ToTemp (recorded_at core.stages number)) lane off))
      (went_here core ops layout p meant root before pins from index now lane tied)

  -- ---- the root's word

  abbrev with_slot : Option ℕ → Running M → Running M
  with_slot slot now = record { moment = now.moment; made = now.made; first = now.first; slot = slot; ran = now.ran }

  -- what the slot holds, once the root has this word, where it is to take one
  abbrev slot_of : Bool → ℕ → Option ℕ → Option ℕ
  slot_of takes word slot = cond takes (Some word) slot

  two_steps : (a b : Move) (lane : Moment) → G (a ∷ b ∷ []) lane ≡ G (b ∷ []) (G (a ∷ []) lane)
  two_steps a b lane = refl

  taken_word : (from index word : ℕ) (test : Expr) (takes : Bool) (now : Running M) (lane : Moment) → T now lane → IsGuard p layout from test → V lane test ≡ bit takes → (takes ≡ true → V lane (ops.word (root_row core ops layout)) ≡ word) → IsWordOf meant word
      → W from index (with_slot (slot_of takes word now.slot) now) lane (G (given test (ToTemp slot_at) (ops.word (root_row core ops layout)) ∷ given test (ToTemp taken_at) always ∷ []) lane)
  taken_word from index word test true now lane tied guard on is fits =
      let first = with_temp slot_at word lane in
      let after = with_temp taken_at 1 first in
      let u1 = unseen_temp core ops layout p meant root before pins slot_at word lane (inl (omega arith)) in
      let u2 = unseen_temp core ops layout p meant root before pins taken_at 1 first (inl (omega arith)) in
      let one : G (given test (ToTemp slot_at) (ops.word (root_row core ops layout)) ∷ []) lane ≡ first = done test (ops.word (root_row core ops layout)) (ToTemp slot_at) lane on ∙ ap (λ (n : ℕ). with_temp slot_at n lane) (is refl) in
      let test_on : V first test ≡ 1 = guard_at test guard first (λ temp low high. get_or-set_other lane.temps slot_at temp word 0 (λ same. omega (arith, same, low, lasts))) ∙ on in
      let both' : G (given test (ToTemp slot_at) (ops.word (root_row core ops layout)) ∷ given test (ToTemp taken_at) always ∷ []) lane ≡ after =
      ap (λ (m : Moment). G (given test (ToTemp taken_at) always ∷ []) m) one ∙ done test always (ToTemp taken_at) first test_on in
      subst (λ (m : Moment). W from index (with_slot (Some word) now) lane m) (sym both') record {
        tied = record {
          agrees = lowered.unseen before pins now.moment first after u2 (lowered.unseen before pins now.moment lane first u1 tied.agrees);
          recorded = λ k less.
              get_or-set_other first.temps taken_at (recorded_at core.stages k) 1 0 (λ same. omega (arith, same))
              ∙ get_or-set_other lane.temps slot_at (recorded_at core.stages k) word 0 (λ same. omega (arith, same))
              ∙ tied.recorded k less;
          taken = get_or-set_same first.temps taken_at 1 0 (omega (arith, length-set lane.temps slot_at word, tied.temp_count, few));
          slot = get_or-set_other first.temps taken_at slot_at 1 0 (λ same. omega (arith, same)) ∙ get_or-set_same lane.temps slot_at word 0 (omega (arith, tied.temp_count, few));
          is_word = fits;
          temp_count = length-set first.temps taken_at 1 ∙ length-set lane.temps slot_at word ∙ tied.temp_count;
          item_count = tied.item_count;
          recording = record { made = tied.recording.made; first = tied.recording.first };
        };
        controls = λ temp low high. get_or-set_other first.temps taken_at temp 1 0 (λ same. omega (arith, same, low)) ∙ get_or-set_other lane.temps slot_at temp word 0 (λ same. omega (arith, same, low));
        others = λ temp low high. get_or-set_other first.temps taken_at temp 1 0 (λ same. omega (arith, same, low, lasts)) ∙ get_or-set_other lane.temps slot_at temp word 0 (λ same. omega (arith, same, low, lasts));
        rows = λ row w kept has. lowered.row_unseen row w first after u2 (lowered.row_unseen row w lane first u1 has);
      }
    where
      few : time_temps core ≤ length p.temps
      few = omega (arith, lasts, enough)

      guard_at : (g : Expr) → IsGuard p layout from g → (m : Moment) → ((temp : ℕ) → layout.lasting ≤ temp → temp < from → get_or m.temps temp 0 ≡ get_or lane.temps temp 0) → V m g ≡ V lane g
      guard_at _ no_guard m same = refl
      guard_at _ (held_guard low high wide) m same = same _ low high
  taken_word from index word test false now lane tied guard off is fits =
      subst (λ (m : Moment). W from index (with_slot now.slot now) lane m)
      (sym (ap (λ (m : Moment). G (given test (ToTemp taken_at) always ∷ []) m) (idle test (ops.word (root_row core ops layout)) (ToTemp slot_at) lane off) ∙ idle test always (ToTemp taken_at) lane off))
      (went_here core ops layout p meant root before pins from index (with_slot now.slot now) lane (retied tied))
    where
      retied : T now lane → T (with_slot now.slot now) lane
      retied t = record { agrees = t.agrees; recorded = t.recorded; taken = t.taken; slot = t.slot; is_word = t.is_word; temp_count = t.temp_count; item_count = t.item_count; recording = record { made = t.recording.made; first = t.recording.first } }

  -- a part at a moment that is tied
  pub part : (from : ℕ) (widths : List ℕ) (now : Running M) (lane : Moment) → layout.lasting ≤ from → Lies p.temps from widths → T now lane → IsPart core ops layout p meant from widths before pins now.moment lane
  part from widths now lane low placed tied = record { lasting = low; placed = placed; agrees = tied.agrees }

  -- whether the word is an instruction's
  slotted_went : (from index word : ℕ) (guard : Expr) (on : Bool) (now : Running M) (lane : Moment) → layout.lasting ≤ from → Lies p.temps from (slotted core ops layout guard from).widths → IsGuard p layout from guard → T now lane → V lane guard ≡ bit on → HasRowWord meant (root_row core ops layout) word lane → IsWordOf meant word
      → W from index (with_slot (slot_of (on && core.decodes word) word now.slot) now) lane (G (slotted core ops layout guard from).moves lane)
  slotted_went from index word guard on now lane low placed guarded tied is has fits =
      let test = both guard (ops.decodes (root_row core ops layout)) in
      let middle = G (holding 1 test from).piece.moves lane in
      let held = went_holding core ops layout p meant root before pins lowered from index 1 test now lane low lasts tied in
      let at : V middle (Temp from) ≡ bit (on && core.decodes word) =
      holding_is core ops layout p meant root before pins from 1 test lane (omega (arith, placed.room, tied.temp_count))
      ∙ both_is p before pins lane guard (ops.decodes (root_row core ops layout)) on (core.decodes word) is (lowered.row_is before pins (root_row core ops layout) word lane has).1 in
      went_bind core ops layout p meant root before pins from index now (with_slot (slot_of (on && core.decodes word) word now.slot) now) (holding 1 test) (λ decoded. steps (given decoded (ToTemp slot_at) (ops.word (root_row core ops layout)) ∷ given decoded (ToTemp taken_at) always ∷ [])) lane held
      (taken_word (from + 1) index word (Temp from) (on && core.decodes word) now middle held.tied (held_guard low (omega arith) (lies_one p.temps from 1 [] placed).1) at
      (λ takes. (lowered.row_is before pins (root_row core ops layout) word middle (lowered.row_unseen (root_row core ops layout) word lane middle (unseen_temp core ops layout p meant root before pins from (V lane test) lane (inr low)) has)).0) fits)

  -- the root takes its word, which its row has then, and the slot where the guard is 1
  rooted_went : (from index : ℕ) (guard : Expr) (on : Bool) (now : Running M) (lane : Moment) → layout.lasting ≤ from → Lies p.temps from (rooted core ops layout true guard from).widths → IsGuard p layout from guard → T now lane → V lane guard ≡ bit on → (root < index → ⊥)
      → W from index (with_slot (slot_of (on && core.decodes (core.fetch now.moment)) (core.fetch now.moment) now.slot) now) lane (G (rooted core ops layout true guard from).moves lane)
      × HasRowWord meant (root_row core ops layout) (core.fetch now.moment) (G (rooted core ops layout true guard from).moves lane)
  rooted_went from index guard on now lane low placed guarded tied is outside =
      let fetched = ops.fetch from in
      let base = from + length fetched.piece.widths in
      let load = ops.load (root_row core ops layout) fetched.out base in
      let base' = base + length load.widths in
      let slot = slotted core ops layout guard base' in
      let placed1 = lies_left p.temps from fetched.piece.widths (load.widths ++ slot.widths) placed in
      let placed2 = lies_right p.temps from fetched.piece.widths (load.widths ++ slot.widths) placed in
      let placed3 = lies_left p.temps base load.widths slot.widths placed2 in
      let placed4 = lies_right p.temps base load.widths slot.widths placed2 in
      let word = core.fetch now.moment in
      let f = lowered.fetches from before pins now.moment lane (part from fetched.piece.widths now lane low placed1 tied) in
      let lane1 = G fetched.piece.moves lane in
      let went1 : W from index now lane lane1 = went_part core ops layout p meant root before pins from index now now lane lane1 tied f.1.keeps f.1.agrees refl refl refl (λ row w kept has. f.2 row w tt has) in
      let part2 = part base load.widths now lane1 (omega (arith, low)) placed3 went1.tied in
      let l = lowered.load_leaves (root_row core ops layout) fetched.out base before pins now.moment lane1 (omega arith) part2 in
      let lane2 = G load.moves lane1 in
      let went2 : W base index now lane1 lane2 = went_part core ops layout p meant root before pins base index now now lane1 lane2 went1.tied l.0.keeps l.0.agrees refl refl refl (λ row w kept has. l.1 row w (λ same. outside (kept same)) has) in
      let has = lowered.loads (root_row core ops layout) fetched.out base before pins now.moment lane1 word (omega arith) part2 f.0 f.3 in
      let is2 : V lane2 guard ≡ bit on =
      guard_kept core ops layout p meant root before pins base index now lane1 lane2 guard (guard_wider core ops layout p meant root before pins from base guard (omega arith) guarded) went2
      ∙ guard_kept core ops layout p meant root before pins from index now lane lane1 guard guarded went1 ∙ is in
      let next = with_slot (slot_of (on && core.decodes word) word now.slot) now in
      let went3 : W base' index next lane2 (G slot.moves lane2) = slotted_went base' index word guard on now lane2 (omega (arith, low)) placed4 (guard_wider core ops layout p meant root before pins from base' guard (omega arith) guarded) went2.tied is2 has f.3 in
      let went23 : W base index next lane1 (G (chain (ops.load (root_row core ops layout) fetched.out) (slotted core ops layout guard) base).moves lane1) = went_chain core ops layout p meant root before pins base index now next (ops.load (root_row core ops layout) fetched.out) (slotted core ops layout guard) lane1 went2 went3 in (
        went_bind core ops layout p meant root before pins from index now next ops.fetch (λ word. chain (ops.load (root_row core ops layout) word) (slotted core ops layout guard)) lane went1 went23,
        subst (λ (m : Moment). HasRowWord meant (root_row core ops layout) word m)
            (sym (ran_append p before pins fetched.piece.moves (load.moves ++ slot.moves) lane ∙ ran_append p before pins load.moves slot.moves lane1))
            ((slotted_went base' (suc root) word guard on now lane2 (omega (arith, low)) placed4 (guard_wider core ops layout p meant root before pins from base' guard (omega arith) guarded) went2.tied is2 has f.3).rows (root_row core ops layout) word (λ same. omega arith) has),
      )

  -- ---- an occurrence

  begun_moment : (number word : ℕ) (now : Running M) → (behavior core number word now).moment ≡ core.behave number word now.moment
  unfolding behavior
  begun_moment number word now = refl

  begun_made : (number word : ℕ) (now : Running M) → (behavior core number word now).made ≡ now.made
  unfolding behavior
  begun_made number word now = refl

  begun_first : (number word : ℕ) (now : Running M) → (behavior core number word now).first ≡ now.first
  unfolding behavior
  begun_first number word now = refl

  begun_slot : (b : Bool) (number word : ℕ) (now : Running M) → core.is_root number ≡ b → (behavior core number word now).slot ≡ slot_of (b && core.decodes word) word now.slot
  unfolding behavior
  begun_slot b number word now is = ap (λ (r : Bool). cond (r && core.decodes word) (Some word) now.slot) is

  abbrev word_by : Bool → Bool → ℕ → Running M → ℕ
  word_by b past word now = cond b (core.fetch now.moment) (word_below past word)

  abbrev row_by : Bool → Bool → Option ℕ → Option ℕ
  row_by b past row = cond b (Some (root_row core ops layout)) (cond past row None)

  abbrev occurrence_by : Bool → ℕ → Bool → Option ℕ → Expr → Builder → Builder
  occurrence_by b number past row guard items = chain (rooted core ops layout b guard) (chain (ops.behavior number (row_by b past row) guard) items)

  -- a BEHAVIOR under a guard that is 1
  behavior_went : (b : Bool) (from number word : ℕ) (row : Option ℕ) (guard : Expr) (before' now : Running M) (lane : Moment) → core.is_root number ≡ b → now.moment ≡ before'.moment → now.made ≡ before'.made → now.first ≡ before'.first → now.slot ≡ slot_of (b && core.decodes word) word before'.slot
      → layout.lasting ≤ from → Lies p.temps from (ops.behavior number row guard from).widths → IsGuard p layout from guard → T now lane → V lane guard ≡ 1 → RowHas meant row word lane → Runs core ops layout p meant number row word
      → W from number (behavior core number word before') lane (G (ops.behavior number row guard from).moves lane)
  behavior_went b from number word row guard before' now lane is moment made first slot low placed guarded tied on has runs =
      let here = part from (ops.behavior number row guard from).widths now lane low placed tied in
      let k = lowered.behaves number row guard from before pins now.moment lane word here guarded on has runs in
      went_part core ops layout p meant root before pins from number now (behavior core number word before') lane (G (ops.behavior number row guard from).moves lane) tied k.leaves.keeps
      (subst (λ (m : M). Agrees meant before pins m (G (ops.behavior number row guard from).moves lane)) (ap (λ (m : M). core.behave number word m) moment ∙ sym (begun_moment number word before')) k.leaves.agrees)
      (begun_made number word before' ∙ sym made) (begun_first number word before' ∙ sym first) (begun_slot b number word before' is ∙ sym slot)
      (λ r w kept h. k.rows r w tt h)

  -- what isn't past the root has no word
  row_below : (past : Bool) (row : Option ℕ) (word : ℕ) (lane : Moment) → (past ≡ true → RowHas meant row word lane) → RowHas meant (cond past row None) (word_below past word) lane
  row_below true row word lane has = has refl
  row_below false row word lane has = refl

  -- what its items do, under the guard
  abbrev ItemsRun : Builder → ℕ → Expr → ℕ → Option ℕ → ℕ → Running M → Running M → Type 0
  ItemsRun items from guard number row word begun end =
      (from' : ℕ) (lane : Moment) → from ≤ from' → Lies p.temps from' (items from').widths → T begun lane → V lane guard ≡ 1 → RowHas meant row word lane
      → W from' (suc number) end lane (G (items from').moves lane)

  pub occurrence_went : (b : Bool) (from index number word : ℕ) (past : Bool) (row : Option ℕ) (guard : Expr) (items : Builder) (now end : Running M) (lane : Moment) → core.is_root number ≡ b
      → layout.lasting ≤ from → Lies p.temps from (occurrence_by b number past row guard items from).widths → IsGuard p layout from guard → T now lane → V lane guard ≡ 1 → index ≤ number
      → (past ≡ true → RowHas meant row word lane) → ((r : ℕ) → row ≡ Some r → Kept number r)
      → Runs core ops layout p meant number (row_by b past row) (word_by b past word now)
      → ItemsRun items from guard number (row_by b past row) (word_by b past word now) (behavior core number (word_by b past word now) now) end
      → W from index end lane (G (occurrence_by b number past row guard items from).moves lane)
  occurrence_went true from index number word past row guard items now end lane is low placed guarded tied on few has kept runs inner =
      let root_piece = rooted core ops layout true guard from in
      let base = from + length root_piece.widths in
      let behave_piece = ops.behavior number (Some (root_row core ops layout)) guard base in
      let base' = base + length behave_piece.widths in
      let rest = items base' in
      let placed1 = lies_left p.temps from root_piece.widths (behave_piece.widths ++ rest.widths) placed in
      let placed2 = lies_right p.temps from root_piece.widths (behave_piece.widths ++ rest.widths) placed in
      let placed3 = lies_left p.temps base behave_piece.widths rest.widths placed2 in
      let placed4 = lies_right p.temps base behave_piece.widths rest.widths placed2 in
      let mine = core.fetch now.moment in
      let same = one_root number is in
      let r = rooted_went from number guard true now lane low placed1 guarded tied on (λ less. omega (arith, less, same)) in
      let lane1 = G root_piece.moves lane in
      let now1 = with_slot (slot_of (core.decodes mine) mine now.slot) now in
      let on1 = guard_kept core ops layout p meant root before pins from number now1 lane lane1 guard guarded r.0 ∙ on in
      let guard1 = guard_wider core ops layout p meant root before pins from base guard (omega arith) guarded in
      let begun = behavior core number mine now in
      let went2 = behavior_went true base number mine (Some (root_row core ops layout)) guard now now1 lane1 is refl refl refl refl (omega (arith, low)) placed3 guard1 r.0.tied on1 r.1 runs in
      let lane2 = G behave_piece.moves lane1 in
      let on2 = guard_kept core ops layout p meant root before pins base number begun lane1 lane2 guard guard1 went2 ∙ on1 in
      let k = lowered.behaves number (Some (root_row core ops layout)) guard base before pins now1.moment lane1 mine (part base behave_piece.widths now1 lane1 (omega (arith, low)) placed3 r.0.tied) guard1 on1 r.1 runs in
      let went3 = inner base' lane2 (omega arith) placed4 went2.tied on2 (k.rows (root_row core ops layout) mine tt r.1) in
      went_wider core ops layout p meant root before pins from from index number end lane (G (occurrence_by true number past row guard items from).moves lane) (omega arith) few
      (went_chain core ops layout p meant root before pins from number now1 end (rooted core ops layout true guard) (chain (ops.behavior number (Some (root_row core ops layout)) guard) items) lane r.0
      (went_chain core ops layout p meant root before pins base number begun end (ops.behavior number (Some (root_row core ops layout)) guard) items lane1 went2
      (went_wider core ops layout p meant root before pins base' base' number (suc number) end lane2 (G rest.moves lane2) (omega arith) (omega arith) went3)))
  occurrence_went false from index number word past row guard items now end lane is low placed guarded tied on few has kept runs inner =
      let base = from + 0 in
      let behave_piece = ops.behavior number (cond past row None) guard base in
      let base' = base + length behave_piece.widths in
      let rest = items base' in
      let placed0 : Lies p.temps base (behave_piece.widths ++ rest.widths) = subst (λ (n : ℕ). Lies p.temps n (behave_piece.widths ++ rest.widths)) {x = from} {y = base} (omega arith) placed in
      let placed3 = lies_left p.temps base behave_piece.widths rest.widths placed0 in
      let placed4 = lies_right p.temps base behave_piece.widths rest.widths placed0 in
      let mine = word_below past word in
      let guard1 = guard_wider core ops layout p meant root before pins from base guard (omega arith) guarded in
      let begun = behavior core number mine now in
      let has' : RowHas meant (cond past row None) mine lane = row_below past row word lane has in
      let went2 = behavior_went false base number mine (cond past row None) guard now now lane is refl refl refl refl (omega (arith, low)) placed3 guard1 tied on has' runs in
      let lane2 = G behave_piece.moves lane in
      let on2 = guard_kept core ops layout p meant root before pins base number begun lane lane2 guard guard1 went2 ∙ on in
      let k = lowered.behaves number (cond past row None) guard base before pins now.moment lane mine (part base behave_piece.widths now lane (omega (arith, low)) placed3 tied) guard1 on has' runs in
      let went3 = inner base' lane2 (omega arith) placed4 went2.tied on2 (has_after (cond past row None) mine lane2 has' k.rows) in
      went_wider core ops layout p meant root before pins from base index number end lane (G (chain (ops.behavior number (cond past row None) guard) items base).moves lane) (omega arith) few
      (went_chain core ops layout p meant root before pins base number begun end (ops.behavior number (cond past row None) guard) items lane went2
      (went_wider core ops layout p meant root before pins base' base' number (suc number) end lane2 (G rest.moves lane2) (omega arith) (omega arith) went3))
    where
      has_after : (o : Option ℕ) (w : ℕ) (m : Moment) → RowHas meant o w lane → ((r w' : ℕ) → Unit {0} → HasRowWord meant r w' lane → HasRowWord meant r w' m) → RowHas meant o w m
      has_after None w m h kept = h
      has_after (Some r) w m h kept = kept r w tt h

  -- An idle occurrence does nothing in the core: it does there what its BEHAVIOR does under no guard, which takes no steps.
  idle_went : (b : Bool) (from index number word : ℕ) (past : Bool) (row : Option ℕ) (now : Running M) (lane : Moment) → core.is_root number ≡ b → ops.idle number ≡ true
      → layout.lasting ≤ from → from ≤ length p.temps → T now lane → index ≤ number
      → (past ≡ true → RowHas meant row word lane) → Runs core ops layout p meant number (row_by b past row) (word_by b past word now)
      → W from index (behavior core number (word_by b past word now) now) lane lane
  idle_went true from index number word past row now lane is idle low room tied few has runs = absurd (both_ways (core.is_root number) (lowered.idles number idle).0 is)
  idle_went false from index number word past row now lane is idle low room tied few has runs =
      let own = cond past row None in
      let mine = word_below past word in
      let none : ops.behavior number own always from ≡ nothing from = (lowered.idles number idle).1 own always from in
      let placed : Lies p.temps from (ops.behavior number own always from).widths =
      subst (λ (a : Piece). Lies p.temps from a.widths) (sym none) (record { room = omega (arith, room); at = λ k below. absurd (omega (arith, below)) }) in
      let went = behavior_went false from number mine own always now now lane is refl refl refl refl low placed no_guard tied refl (row_below past row word lane has) runs in
      went_wider core ops layout p meant root before pins from from index number (behavior core number mine now) lane lane (omega arith) few
      (subst (λ (a : Piece). W from number (behavior core number mine now) lane (G a.moves lane)) none went)

  -- nothing of an occurrence under a guard that is 0
  abbrev ItemsRest : Builder → ℕ → Expr → ℕ → Running M → Type 0
  ItemsRest items from guard number now =
      (from' : ℕ) (lane : Moment) → from ≤ from' → Lies p.temps from' (items from').widths → T now lane → V lane guard ≡ 0
      → W from' (suc number) now lane (G (items from').moves lane)

  rests_went : (from number : ℕ) (row : Option ℕ) (guard : Expr) (now : Running M) (lane : Moment) → layout.lasting ≤ from → Lies p.temps from (ops.behavior number row guard from).widths → IsGuard p layout from guard → T now lane → V lane guard ≡ 0
      → W from number now lane (G (ops.behavior number row guard from).moves lane)
  rests_went from number row guard now lane low placed guarded tied off =
      let here = part from (ops.behavior number row guard from).widths now lane low placed tied in
      let k = lowered.rests number row guard from before pins now.moment lane here guarded off in
      went_part core ops layout p meant root before pins from number now now lane (G (ops.behavior number row guard from).moves lane) tied k.leaves.keeps k.leaves.agrees refl refl refl (λ r w kept h. k.rows r w tt h)

  retied : (slot : Option ℕ) (now : Running M) (lane : Moment) → slot ≡ now.slot → T (with_slot slot now) lane → T now lane
  retied slot now lane same t = record {
    agrees = t.agrees;
    recorded = t.recorded;
    taken = t.taken ∙ ap (λ (o : Option ℕ). bit (is_some o)) same;
    slot = t.slot ∙ ap (λ (o : Option ℕ). unwrap_or o 0) same;
    is_word = subst (λ (o : Option ℕ). IsWordOf meant (unwrap_or o 0)) same t.is_word;
    temp_count = t.temp_count;
    item_count = t.item_count;
    recording = record { made = t.recording.made; first = t.recording.first };
  }

  pub occurrence_rests : (b : Bool) (from index number : ℕ) (past : Bool) (row : Option ℕ) (guard : Expr) (items : Builder) (now : Running M) (lane : Moment) → core.is_root number ≡ b
      → layout.lasting ≤ from → Lies p.temps from (occurrence_by b number past row guard items from).widths → IsGuard p layout from guard → T now lane → V lane guard ≡ 0 → index ≤ number
      → ItemsRest items from guard number now
      → W from index now lane (G (occurrence_by b number past row guard items from).moves lane)
  occurrence_rests true from index number past row guard items now lane is low placed guarded tied off few inner =
      let root_piece = rooted core ops layout true guard from in
      let base = from + length root_piece.widths in
      let behave_piece = ops.behavior number (Some (root_row core ops layout)) guard base in
      let base' = base + length behave_piece.widths in
      let rest = items base' in
      let placed1 = lies_left p.temps from root_piece.widths (behave_piece.widths ++ rest.widths) placed in
      let placed2 = lies_right p.temps from root_piece.widths (behave_piece.widths ++ rest.widths) placed in
      let placed3 = lies_left p.temps base behave_piece.widths rest.widths placed2 in
      let placed4 = lies_right p.temps base behave_piece.widths rest.widths placed2 in
      let same = one_root number is in
      let r = (rooted_went from number guard false now lane low placed1 guarded tied off (λ less. omega (arith, less, same))).0 in
      let lane1 = G root_piece.moves lane in
      let went1 : W from number now lane lane1 = record { tied = retied now.slot now lane1 refl r.tied; controls = r.controls; others = r.others; rows = r.rows } in
      let off1 = guard_kept core ops layout p meant root before pins from number now lane lane1 guard guarded went1 ∙ off in
      let guard1 = guard_wider core ops layout p meant root before pins from base guard (omega arith) guarded in
      let went2 = rests_went base number (Some (root_row core ops layout)) guard now lane1 (omega (arith, low)) placed3 guard1 went1.tied off1 in
      let lane2 = G behave_piece.moves lane1 in
      let off2 = guard_kept core ops layout p meant root before pins base number now lane1 lane2 guard guard1 went2 ∙ off1 in
      let went3 = inner base' lane2 (omega arith) placed4 went2.tied off2 in
      went_wider core ops layout p meant root before pins from from index number now lane (G (occurrence_by true number past row guard items from).moves lane) (omega arith) few
      (went_chain core ops layout p meant root before pins from number now now (rooted core ops layout true guard) (chain (ops.behavior number (Some (root_row core ops layout)) guard) items) lane went1
      (went_chain core ops layout p meant root before pins base number now now (ops.behavior number (Some (root_row core ops layout)) guard) items lane1 went2
      (went_wider core ops layout p meant root before pins base' base' number (suc number) now lane2 (G rest.moves lane2) (omega arith) (omega arith) went3)))
  occurrence_rests false from index number past row guard items now lane is low placed guarded tied off few inner =
      let base = from + 0 in
      let behave_piece = ops.behavior number (cond past row None) guard base in
      let base' = base + length behave_piece.widths in
      let rest = items base' in
      let placed0 : Lies p.temps base (behave_piece.widths ++ rest.widths) = subst (λ (n : ℕ). Lies p.temps n (behave_piece.widths ++ rest.widths)) {x = from} {y = base} (omega arith) placed in
      let placed3 = lies_left p.temps base behave_piece.widths rest.widths placed0 in
      let placed4 = lies_right p.temps base behave_piece.widths rest.widths placed0 in
      let guard1 = guard_wider core ops layout p meant root before pins from base guard (omega arith) guarded in
      let went2 = rests_went base number (cond past row None) guard now lane (omega (arith, low)) placed3 guard1 tied off in
      let lane2 = G behave_piece.moves lane in
      let off2 = guard_kept core ops layout p meant root before pins base number now lane lane2 guard guard1 went2 ∙ off in
      let went3 = inner base' lane2 (omega arith) placed4 went2.tied off2 in
      went_wider core ops layout p meant root before pins from base index number now lane (G (chain (ops.behavior number (cond past row None) guard) items base).moves lane) (omega arith) few
      (went_chain core ops layout p meant root before pins base number now now (ops.behavior number (cond past row None) guard) items lane went2
      (went_wider core ops layout p meant root before pins base' base' number (suc number) now lane2 (G rest.moves lane2) (omega arith) (omega arith) went3))

  -- ---- items

  -- whether an item is chosen: a guard of its own, or the one that is there
  pub record Choice (from : ℕ) (guard : Made) (on : Bool) (index : ℕ) (now : Running M) (lane : Moment) : Type 0 where
    pub went : W from index now lane (G guard.piece.moves lane)
    pub guarded : IsGuard p layout (from + length guard.piece.widths) guard.out
    pub is : V (G guard.piece.moves lane) guard.out ≡ bit on

  zero_and : (n : ℕ) → bit_and 0 n ≡ 0
  zero_and n = omega arith

  -- a guard that is 1, and a bit
  pub one_more : (from index : ℕ) (guard test : Expr) (on : Bool) (now : Running M) (lane : Moment) → layout.lasting ≤ from → Lies p.temps from (1 ∷ []) → T now lane → V lane guard ≡ 1 → V lane test ≡ bit on → Choice from (holding 1 (both guard test) from) on index now lane
  one_more from index guard test on now lane low placed tied it is = record {
    went = went_holding core ops layout p meant root before pins lowered from index 1 (both guard test) now lane low lasts tied;
    guarded = held_guard low (omega arith) (lies_one p.temps from 1 [] placed).1;
    is = holding_is core ops layout p meant root before pins from 1 (both guard test) lane (omega (arith, placed.room, tied.temp_count)) ∙ both_is p before pins lane guard test true on it is;
  }

  -- a guard that is 0, and whatever
  pub none_more : (from index : ℕ) (guard test : Expr) (now : Running M) (lane : Moment) → layout.lasting ≤ from → Lies p.temps from (1 ∷ []) → T now lane → V lane guard ≡ 0 → Choice from (holding 1 (both guard test) from) false index now lane
  none_more from index guard test now lane low placed tied it = record {
    went = went_holding core ops layout p meant root before pins lowered from index 1 (both guard test) now lane low lasts tied;
    guarded = held_guard low (omega arith) (lies_one p.temps from 1 [] placed).1;
    is = holding_is core ops layout p meant root before pins from 1 (both guard test) lane (omega (arith, placed.room, tied.temp_count)) ∙ ap (λ (n : ℕ). bit_and n (V lane test)) it ∙ zero_and (V lane test);
  }

  same_guard : (from index : ℕ) (guard : Expr) (on : Bool) (now : Running M) (lane : Moment) → IsGuard p layout from guard → T now lane → V lane guard ≡ bit on → Choice from (record { piece = nothing from; out = guard }) on index now lane
  same_guard from index guard on now lane guarded tied is = record {
    went = went_here core ops layout p meant root before pins from index now lane tied;
    guarded = guard_wider core ops layout p meant root before pins from (from + 0) guard (omega arith) guarded;
    is = is;
  }

  chosen_on : (from index number word : ℕ) (past : Bool) (row : Option ℕ) (guard : Expr) (now : Running M) (lane : Moment) → layout.lasting ≤ from → Lies p.temps from (chosen core ops layout number past row guard from).piece.widths → IsGuard p layout from guard → T now lane → V lane guard ≡ 1
      → number < suc (size core.acts) → is_past core number ≡ past → (past ≡ true → (r : ℕ) × (row ≡ Some r)) → RowHas meant row word lane
      → Choice from (chosen core ops layout number past row guard from) (core.chooses number word) index now lane
  chosen_on from index number word false row guard now lane low placed guarded tied on less is some has =
      same_guard from index guard (core.chooses number word) now lane guarded tied (on ∙ sym (ap bit (lowered.chosen number word is)))
  chosen_on from index number word true None guard now lane low placed guarded tied on less is some has = let s = some refl in absurd (none_is_some s.0 s.1)
    where
      none_is_some : (r : ℕ) → None ≡ Some r → ⊥
      none_is_some r e = cc
  chosen_on from index number word true (Some row) guard now lane low placed guarded tied on less is some has =
      one_more from index guard (ops.chooses row number) (core.chooses number word) now lane low placed tied on ((lowered.row_is before pins row word lane has).2 number less is)

  chosen_off : (from index number : ℕ) (past : Bool) (row : Option ℕ) (guard : Expr) (now : Running M) (lane : Moment) → layout.lasting ≤ from → Lies p.temps from (chosen core ops layout number past row guard from).piece.widths → IsGuard p layout from guard → T now lane → V lane guard ≡ 0
      → Choice from (chosen core ops layout number past row guard from) false index now lane
  chosen_off from index number false row guard now lane low placed guarded tied off = same_guard from index guard false now lane guarded tied off
  chosen_off from index number true None guard now lane low placed guarded tied off = same_guard from index guard false now lane guarded tied off
  chosen_off from index number true (Some row) guard now lane low placed guarded tied off = none_more from index guard (ops.chooses row number) now lane low placed tied off

  abbrev items_of : ℕ → Option ℕ → Expr → Acts → Builder
  items_of here row guard acts = active core ops layout here row guard acts

  -- what an item becomes under its own guard
  abbrev item_by : Bool → ℕ → ℕ → Bool → Option ℕ → Acts → Expr → Builder
  item_by same here number past row own guard = cond same (occurrence core ops layout number past row guard (active core ops layout here (own_row core ops layout number past row) guard own)) (recorded core ops layout number guard)

  -- an item under the guard of its activator
  abbrev item_of : ℕ → ℕ → ℕ → Bool → Option ℕ → Acts → Expr → Builder
  item_of here number level past row own guard =
      cond (nat_eq level here && is_idle core ops layout number own) nothing
      (bind (chosen core ops layout number past row guard) (λ (g : Expr). item_by (nat_eq level here) here number past row own g))

  -- what takes no steps where it is idle
  idle_either : (idle : Bool) (f : Builder) (from index : ℕ) (now : Running M) (lane : Moment) → Lies p.temps from (cond idle nothing f from).widths
      → (idle ≡ true → W from index now lane lane) → (Lies p.temps from (f from).widths → W from index now lane (G (f from).moves lane))
      → W from index now lane (G (cond idle nothing f from).moves lane)
  idle_either true f from index now lane placed still goes = still refl
  idle_either false f from index now lane placed still goes = goes placed

  -- ---- nothing under a guard that is 0

  item_rests : (same : Bool) (from index here number : ℕ) (past : Bool) (row : Option ℕ) (own : Acts) (guard : Expr) (now : Running M) (lane : Moment) → layout.lasting ≤ from → Lies p.temps from (item_by same here number past row own guard from).widths → IsGuard p layout from guard → T now lane → V lane guard ≡ 0 → index ≤ number
      → ItemsRest (active core ops layout here (own_row core ops layout number past row) guard own) from guard number now
      → W from index now lane (G (item_by same here number past row own guard from).moves lane)
  item_rests true from index here number past row own guard now lane low placed guarded tied off few inner =
      occurrence_rests (core.is_root number) from index number past row guard (active core ops layout here (own_row core ops layout number past row) guard own) now lane refl low placed guarded tied off few inner
  item_rests false from index here number past row own guard now lane low placed guarded tied off few inner = none_recorded from index number guard now lane tied off

  pub active_rests : (here : ℕ) (row : Option ℕ) (acts : Acts) (above from index : ℕ) (inside : Bool) (guard : Expr) (now : Running M) (lane : Moment) → IsGoodTree core root above inside index acts
      → layout.lasting ≤ from → Lies p.temps from (items_of here row guard acts from).widths → IsGuard p layout from guard → T now lane → V lane guard ≡ 0
      → W from index now lane (G (items_of here row guard acts from).moves lane)
  active_rests here row Done above from index inside guard now lane tree low placed guarded tied off = went_here core ops layout p meant root before pins from index now lane tied
  active_rests here row (Act number level past own rest) above from index inside guard now lane tree low placed guarded tied off =
      let choose = chosen core ops layout number past row guard in
      let c = choose from in
      let same = nat_eq level here in
      let user = λ (g : Expr). item_by same here number past row own g in
      let first = item_of here number level past row own guard in
      let base = from + length c.piece.widths in
      let item = user c.out base in
      let base' = from + length (first from).widths in
      let after = items_of here row guard rest base' in
      let placed1 = lies_left p.temps from (first from).widths after.widths placed in
      let placed2 = lies_right p.temps from (first from).widths after.widths placed in
      let went1 : W from index now lane (G (first from).moves lane) =
      idle_either (same && is_idle core ops layout number own) (bind choose user) from index now lane placed1
      (λ idle. went_here core ops layout p meant root before pins from index now lane tied)
      (λ placed1.
      let placed3 = lies_left p.temps from c.piece.widths item.widths placed1 in
      let placed4 = lies_right p.temps from c.piece.widths item.widths placed1 in
      let choice = chosen_off from number number past row guard now lane low placed3 guarded tied off in
      let lane1 = G c.piece.moves lane in
      let went2 : W base number now lane1 (G item.moves lane1) =
      item_rests same base number here number past row own c.out now lane1 (omega (arith, low)) placed4 choice.guarded choice.went.tied choice.is (omega arith)
      (λ from' lane' more placed' tied' off'. active_rests here (own_row core ops layout number past row) own level from' (suc number) (past || core.is_root number) c.out now lane' (subst (λ (n : ℕ). IsGoodTree core root level (past || core.is_root number) (suc n) own) (sym tree.0) tree.4) (omega (arith, low, more)) placed' (guard_wider core ops layout p meant root before pins base from' c.out more choice.guarded) tied' off') in
      went_wider core ops layout p meant root before pins from from index number now lane (G (bind choose user from).moves lane) (omega arith) (omega (arith, tree.0))
      (went_bind core ops layout p meant root before pins from number now now choose user lane choice.went went2)) in
      went_chain core ops layout p meant root before pins from index now now first (items_of here row guard rest) lane went1
      (went_wider core ops layout p meant root before pins base' base' index (suc (index + size own)) now (G (first from).moves lane) (G after.moves (G (first from).moves lane)) (omega arith) (omega arith)
      (active_rests here row rest above base' (suc (index + size own)) inside guard now (G (first from).moves lane) tree.5 (omega (arith, low)) placed2 (guard_wider core ops layout p meant root before pins from base' guard (omega arith) guarded) went1.tied
      (guard_kept core ops layout p meant root before pins from index now lane (G (first from).moves lane) guard guarded went1 ∙ off)))
  active_rests here row (When number test taken other rest) above from index inside guard now lane tree low placed guarded tied off =
      let maker = ops.condition number test row in
      let c = maker from in
      let user2 = λ (holds taking : Expr). bind (holding 1 (both guard (none holds))) (λ leaving. chain (items_of here row taking taken) (items_of here row leaving other)) in
      let user1 = λ (holds : Expr). bind (holding 1 (both guard holds)) (user2 holds) in
      let first = bind maker user1 in
      let base1 = from + length c.piece.widths in
      let base2 = base1 + 1 in
      let base3 = base2 + 1 in
      let taking = Temp base1 in
      let leaving = Temp base2 in
      let one = items_of here row taking taken base3 in
      let base4 = base3 + length one.widths in
      let two = items_of here row leaving other base4 in
      let base' = from + length (first from).widths in
      let after = items_of here row guard rest base' in
      let inner = 1 ∷ (1 ∷ (one.widths ++ two.widths)) in
      let placed1 = lies_left p.temps from (c.piece.widths ++ inner) after.widths placed in
      let placed2 = lies_right p.temps from (c.piece.widths ++ inner) after.widths placed in
      let placed3 = lies_left p.temps from c.piece.widths inner placed1 in
      let placed4 = lies_right p.temps from c.piece.widths inner placed1 in
      let placed5 = lies_left p.temps base1 (1 ∷ []) (1 ∷ (one.widths ++ two.widths)) placed4 in
      let placed6 = lies_right p.temps base1 (1 ∷ []) (1 ∷ (one.widths ++ two.widths)) placed4 in
      let placed7 = lies_left p.temps base2 (1 ∷ []) (one.widths ++ two.widths) placed6 in
      let placed8 = lies_right p.temps base2 (1 ∷ []) (one.widths ++ two.widths) placed6 in
      let placed9 = lies_left p.temps base3 one.widths two.widths placed8 in
      let placed10 = lies_right p.temps base3 one.widths two.widths placed8 in
      let l = lowered.condition_leaves number test row from before pins now.moment lane (part from c.piece.widths now lane low placed3 tied) in
      let lane1 = G c.piece.moves lane in
      let went1 : W from index now lane lane1 = went_part core ops layout p meant root before pins from index now now lane lane1 tied l.0.keeps l.0.agrees refl refl refl (λ r w kept has. l.1 r w tt has) in
      let off1 = guard_kept core ops layout p meant root before pins from index now lane lane1 guard guarded went1 ∙ off in
      let choice1 = none_more base1 index guard c.out now lane1 (omega (arith, low)) placed5 went1.tied off1 in
      let lane2 = G (holding 1 (both guard c.out) base1).piece.moves lane1 in
      let off2 = guard_kept core ops layout p meant root before pins base1 index now lane1 lane2 guard (guard_wider core ops layout p meant root before pins from base1 guard (omega arith) guarded) choice1.went ∙ off1 in
      let choice2 = none_more base2 index guard (none c.out) now lane2 (omega (arith, low)) placed7 choice1.went.tied off2 in
      let lane3 = G (holding 1 (both guard (none c.out)) base2).piece.moves lane2 in
      let yes_off = guard_kept core ops layout p meant root before pins base2 index now lane2 lane3 taking choice1.guarded choice2.went ∙ choice1.is in
      let yes_guard = guard_wider core ops layout p meant root before pins base2 base3 taking (omega arith) choice1.guarded in
      let went4 = active_rests here row taken above base3 index inside taking now lane3 tree.0 (omega (arith, low)) placed9 yes_guard choice2.went.tied yes_off in
      let lane4 = G one.moves lane3 in
      let no_off = guard_kept core ops layout p meant root before pins base3 index now lane3 lane4 leaving choice2.guarded went4 ∙ choice2.is in
      let went5 = active_rests here row other above base4 (index + size taken) inside leaving now lane4 tree.1 (omega (arith, low)) placed10 (guard_wider core ops layout p meant root before pins base3 base4 leaving (omega arith) choice2.guarded) went4.tied no_off in
      let went45 : W base3 index now lane3 (G (chain (items_of here row taking taken) (items_of here row leaving other) base3).moves lane3) =
      went_chain core ops layout p meant root before pins base3 index now now (items_of here row taking taken) (items_of here row leaving other) lane3 went4
      (went_wider core ops layout p meant root before pins base4 base4 index (index + size taken) now lane4 (G two.moves lane4) (omega arith) (omega arith) went5) in
      let went_first : W from index now lane (G (first from).moves lane) =
      went_bind core ops layout p meant root before pins from index now now maker user1 lane went1
      (went_bind core ops layout p meant root before pins base1 index now now (holding 1 (both guard c.out)) (user2 c.out) lane1 choice1.went
      (went_bind core ops layout p meant root before pins base2 index now now (holding 1 (both guard (none c.out))) (λ leaving. chain (items_of here row taking taken) (items_of here row leaving other)) lane2 choice2.went went45)) in
      went_chain core ops layout p meant root before pins from index now now first (items_of here row guard rest) lane went_first
      (went_wider core ops layout p meant root before pins base' base' index (index + (size taken + size other)) now (G (first from).moves lane) (G after.moves (G (first from).moves lane)) (omega arith) (omega arith)
      (active_rests here row rest above base' (index + (size taken + size other)) inside guard now (G (first from).moves lane) tree.2 (omega (arith, low)) placed2 (guard_wider core ops layout p meant root before pins from base' guard (omega arith) guarded) went_first.tied
      (guard_kept core ops layout p meant root before pins from index now lane (G (first from).moves lane) guard guarded went_first ∙ off)))

  -- ---- what runs under a guard that is 1

  -- numbers below the count
  abbrev Below : ℕ → Acts → Type 0
  Below index acts = index + size acts ≤ suc (size core.acts)

  -- what an item comes to in the core, where it is chosen
  abbrev then_by : Bool → ℕ → ℕ → Bool → ℕ → Acts → Running M → Running M
  then_by same here number past word own now =
      cond same (run core here (own_word core number past word now) own (behavior core number (own_word core number past word now) now)) (activate core here number (word_below past word) now)

  item_runs : (same : Bool) (from index here number word : ℕ) (past : Bool) (row : Option ℕ) (own : Acts) (guard : Expr) (now : Running M) (lane : Moment) → layout.lasting ≤ from → Lies p.temps from (item_by same here number past row own guard from).widths → IsGuard p layout from guard → T now lane → V lane guard ≡ 1 → index ≤ number
      → above_of core number ≡ here
      → (past ≡ true → RowHas meant row word lane) → ((r : ℕ) → row ≡ Some r → Kept number r)
      → Runs core ops layout p meant number (own_row core ops layout number past row) (own_word core number past word now)
      → (same ≡ true → ItemsRun (active core ops layout here (own_row core ops layout number past row) guard own) from guard number (own_row core ops layout number past row) (own_word core number past word now) (behavior core number (own_word core number past word now) now) (run core here (own_word core number past word now) own (behavior core number (own_word core number past word now) now)))
      → W from index (then_by same here number past word own now) lane (G (item_by same here number past row own guard from).moves lane)
  item_runs true from index here number word past row own guard now lane low placed guarded tied on few at has kept runs inner =
      occurrence_went (core.is_root number) from index number word past row guard (active core ops layout here (own_row core ops layout number past row) guard own) now (run core here (own_word core number past word now) own (behavior core number (own_word core number past word now) now)) lane refl low placed guarded tied on few has kept runs (inner refl)
  item_runs false from index here number word past row own guard now lane low placed guarded tied on few at has kept runs inner =
      one_recorded from index number here (word_below past word) guard now lane runs.0 at tied on

  abbrev RowFor : ℕ → Bool → Option ℕ → Type 0
  RowFor index inside row = (inside ≡ true → (r : ℕ) × (row ≡ Some r)) × ((r : ℕ) → row ≡ Some r → Kept index r)

  pub own_row_for : (number index : ℕ) (past inside : Bool) (row : Option ℕ) (b : Bool) → b ≡ core.is_root number → (past ≡ true → inside ≡ true) → index ≤ number → RowFor index inside row → RowFor (suc number) (past || b) (row_by b past row)
  own_row_for number index past inside row true is so few row_is = (λ e. (root_row core ops layout, refl), λ r e same. let n = one_root number (sym is) in omega (arith, n))
  own_row_for number index true inside row false is so few row_is = (λ e. row_is.0 (so refl), λ r e same. let k = row_is.1 r e same in omega (arith, k, few))
  own_row_for number index false inside row false is so few row_is = (λ e. absurd (both_ways false refl e), λ r e. absurd (none_is r e))
    where
      none_is : (r : ℕ) → None ≡ Some r → ⊥
      none_is r e = cc

  pub own_runs : (number word : ℕ) (past : Bool) (row : Option ℕ) (now : Running M) (b : Bool) → b ≡ core.is_root number → number < suc (size core.acts) → is_past core number ≡ past → (past ≡ true → b ≡ false) → (past ≡ true → (core.decodes word ≡ true) × (core.chooses number word ≡ true)) → (past ≡ true → is_some row ≡ true) → Runs core ops layout p meant number (row_by b past row) (word_by b past word now)
  own_runs number word past row now true is less past_is apart so some = (less, (λ e. absurd (both_ways true (apart (sym past_is ∙ e)) refl)), λ e. refl)
  own_runs number word true row now false is less past_is apart so some = (less, (λ e. so refl), λ e. some refl)
  own_runs number word false row now false is less past_is apart so some =
      (less, (λ e. absurd (both_ways false refl (sym past_is ∙ e))), λ e. absurd (both_ways false refl (sym (ap₂ (λ (x y : Bool). x || y) past_is (sym is)) ∙ e)))

  pub not_root : (number : ℕ) (past inside : Bool) → (past ≡ true → inside ≡ true) → (inside ≡ true → root < number) → past ≡ true → core.is_root number ≡ false
  not_root number past inside so after is = of (core.is_root number) refl
    where
      of : (b : Bool) → core.is_root number ≡ b → b ≡ false
      of true e = let n = one_root number e in let l = after (so is) in absurd (omega (arith, n, l))
      of false e = refl

  -- an item that is chosen, and one that isn't
  item_either : (on same : Bool) (from index here number word : ℕ) (past : Bool) (row : Option ℕ) (own : Acts) (guard : Expr) (now : Running M) (lane : Moment) → layout.lasting ≤ from → Lies p.temps from (item_by same here number past row own guard from).widths → IsGuard p layout from guard → T now lane → V lane guard ≡ bit on → index ≤ number
      → (on ≡ true → W from index (then_by same here number past word own now) lane (G (item_by same here number past row own guard from).moves lane))
      → (on ≡ false → W from index now lane (G (item_by same here number past row own guard from).moves lane))
      → W from index (cond on (then_by same here number past word own now) now) lane (G (item_by same here number past row own guard from).moves lane)
  item_either true same from index here number word past row own guard now lane low placed guarded tied is few taking leaving = taking refl
  item_either false same from index here number word past row own guard now lane low placed guarded tied is few taking leaving = leaving refl

  -- an item that takes no steps
  idle_runs : (on same : Bool) (from index here number word : ℕ) (past : Bool) (row : Option ℕ) (own : Acts) (now : Running M) (lane : Moment) → (same && is_idle core ops layout number own) ≡ true
      → layout.lasting ≤ from → from ≤ length p.temps → T now lane → index ≤ number → (past ≡ true → RowHas meant row word lane)
      → (on ≡ true → Runs core ops layout p meant number (own_row core ops layout number past row) (own_word core number past word now))
      → W from index (cond on (then_by same here number past word own now) now) lane lane
  idle_runs false same from index here number word past row own now lane idle low room tied few has runs = went_here core ops layout p meant root before pins from index now lane tied
  idle_runs true false from index here number word past row own now lane idle low room tied few has runs = absurd (both_ways false refl idle)
  idle_runs true true from index here number word past row Done now lane idle low room tied few has runs =
      idle_went (core.is_root number) from index number word past row now lane refl idle low room tied few has (runs refl)
  idle_runs true true from index here number word past row (Act a b c d e) now lane idle low room tied few has runs = absurd (both_ways false refl idle)
  idle_runs true true from index here number word past row (When a b c d e) now lane idle low room tied few has runs = absurd (both_ways false refl idle)

  branch_either : (on : Bool) (from index : ℕ) (first second : Builder) (now a b : Running M) (lane : Moment)
      → (on ≡ true → W from index a lane (G (chain first second from).moves lane)) → (on ≡ false → W from index b lane (G (chain first second from).moves lane))
      → W from index (cond on a b) lane (G (chain first second from).moves lane)
  branch_either true from index first second now a b lane one two = one refl
  branch_either false from index first second now a b lane one two = two refl

  pub active_runs : (here : ℕ) (row : Option ℕ) (acts : Acts) (from index owner word : ℕ) (inside : Bool) (guard : Expr) (now : Running M) (lane : Moment) → IsGoodTree core root here inside index acts → IsOwned owner acts → Below index acts
      → layout.lasting ≤ from → Lies p.temps from (items_of here row guard acts from).widths → IsGuard p layout from guard → T now lane → V lane guard ≡ 1
      → RowFor index inside row → RowHas meant row word lane → Runs core ops layout p meant owner row word
      → W from index (run core here word acts now) lane (G (items_of here row guard acts from).moves lane)
  active_runs here row Done from index owner word inside guard now lane tree owned below low placed guarded tied on row_for has runs = went_here core ops layout p meant root before pins from index now lane tied
  active_runs here row (Act number level past own rest) from index owner word inside guard now lane tree owned below low placed guarded tied on row_for has runs =
      let good = tree.1 in
      let choose = chosen core ops layout number past row guard in
      let c = choose from in
      let same = nat_eq level here in
      let user = λ (g : Expr). item_by same here number past row own g in
      let first = item_of here number level past row own guard in
      let base = from + length c.piece.widths in
      let item = user c.out base in
      let base' = from + length (first from).widths in
      let after = items_of here row guard rest base' in
      let placed1 = lies_left p.temps from (first from).widths after.widths placed in
      let placed2 = lies_right p.temps from (first from).widths after.widths placed in
      let less : number < suc (size core.acts) = omega (arith, tree.0, below) in
      let on_chosen = core.chooses number word in
      let up : (r : ℕ) → row ≡ Some r → Kept number r = λ r e is. let k = row_for.1 r e is in omega (arith, k, tree.0) in
      let mine_runs = λ (chosen_is : on_chosen ≡ true).
      own_runs number word past row now (core.is_root number) refl less good.past_is (not_root number past inside tree.2 tree.3) (λ is. (good.chosen is word chosen_is, chosen_is)) (λ is. ap is_some (row_for.0 (tree.2 is)).1) in
      let middle = cond on_chosen (then_by same here number past word own now) now in
      let went1 : W from index middle lane (G (first from).moves lane) =
      idle_either (same && is_idle core ops layout number own) (bind choose user) from index middle lane placed1
      (λ idle. idle_runs on_chosen same from index here number word past row own now lane idle low (let r = placed1.room in omega (arith, r)) tied (omega (arith, tree.0)) (λ is. has) mine_runs)
      (λ placed1.
      let placed3 = lies_left p.temps from c.piece.widths item.widths placed1 in
      let placed4 = lies_right p.temps from c.piece.widths item.widths placed1 in
      let choice = chosen_on from number number word past row guard now lane low placed3 guarded tied on less good.past_is (λ is. row_for.0 (tree.2 is)) has in
      let lane1 = G c.piece.moves lane in
      let has1 : RowHas meant row word lane1 = row_kept core ops layout p meant root before pins from number now lane lane1 row word up choice.went has in
      let taking = λ (chosen_is : on_chosen ≡ true).
      item_runs same base number here number word past row own c.out now lane1 (omega (arith, low)) placed4 choice.guarded choice.went.tied (choice.is ∙ ap bit chosen_is) (omega arith) good.above_is (λ is. has1) up (mine_runs chosen_is)
      (λ same_is from' lane' more placed' tied' on' has'.
      let level_is : level ≡ here = eqb-true level here same_is in
      active_runs here (own_row core ops layout number past row) own from' (suc number) number (own_word core number past word now) (past || core.is_root number) c.out (behavior core number (own_word core number past word now) now) lane'
      (subst (λ (l : ℕ). IsGoodTree core root l (past || core.is_root number) (suc number) own) level_is (subst (λ (n : ℕ). IsGoodTree core root level (past || core.is_root number) (suc n) own) (sym tree.0) tree.4))
      owned.0 (omega (arith, tree.0, below)) (omega (arith, low, more)) placed' (guard_wider core ops layout p meant root before pins base from' c.out more choice.guarded) tied' on'
      (own_row_for number index past inside row (core.is_root number) refl tree.2 (omega (arith, tree.0)) row_for) has' (mine_runs chosen_is)) in
      let leaving = λ (chosen_is : on_chosen ≡ false).
      item_rests same base number here number past row own c.out now lane1 (omega (arith, low)) placed4 choice.guarded choice.went.tied (choice.is ∙ ap bit chosen_is) (omega arith)
      (λ from' lane' more placed' tied' off'. active_rests here (own_row core ops layout number past row) own level from' (suc number) (past || core.is_root number) c.out now lane' (subst (λ (n : ℕ). IsGoodTree core root level (past || core.is_root number) (suc n) own) (sym tree.0) tree.4) (omega (arith, low, more)) placed' (guard_wider core ops layout p meant root before pins base from' c.out more choice.guarded) tied' off') in
      let went2 : W base number middle lane1 (G item.moves lane1) = item_either on_chosen same base number here number word past row own c.out now lane1 (omega (arith, low)) placed4 choice.guarded choice.went.tied choice.is (omega arith) taking leaving in
      went_wider core ops layout p meant root before pins from from index number middle lane (G (bind choose user from).moves lane) (omega arith) (omega (arith, tree.0))
      (went_bind core ops layout p meant root before pins from number now middle choose user lane choice.went went2)) in
      went_chain core ops layout p meant root before pins from index middle (run core here word rest middle) first (items_of here row guard rest) lane went1
      (went_wider core ops layout p meant root before pins base' base' index (suc (index + size own)) (run core here word rest middle) (G (first from).moves lane) (G after.moves (G (first from).moves lane)) (omega arith) (omega arith)
      (active_runs here row rest base' (suc (index + size own)) owner word inside guard middle (G (first from).moves lane) tree.5 owned.1 (omega (arith, below)) (omega (arith, low)) placed2 (guard_wider core ops layout p meant root before pins from base' guard (omega arith) guarded) went1.tied
      (guard_kept core ops layout p meant root before pins from index middle lane (G (first from).moves lane) guard guarded went1 ∙ on)
      (row_for.0, λ r e is. let k = row_for.1 r e is in omega (arith, k))
      (row_kept core ops layout p meant root before pins from index middle lane (G (first from).moves lane) row word row_for.1 went1 has) runs))
  active_runs here row (When number test taken other rest) from index owner word inside guard now lane tree owned below low placed guarded tied on row_for has runs =
      let maker = ops.condition number test row in
      let c = maker from in
      let user2 = λ (holds taking : Expr). bind (holding 1 (both guard (none holds))) (λ leaving. chain (items_of here row taking taken) (items_of here row leaving other)) in
      let user1 = λ (holds : Expr). bind (holding 1 (both guard holds)) (user2 holds) in
      let first = bind maker user1 in
      let base1 = from + length c.piece.widths in
      let base2 = base1 + 1 in
      let base3 = base2 + 1 in
      let taking = Temp base1 in
      let leaving = Temp base2 in
      let one = items_of here row taking taken base3 in
      let base4 = base3 + length one.widths in
      let two = items_of here row leaving other base4 in
      let base' = from + length (first from).widths in
      let after = items_of here row guard rest base' in
      let inner = 1 ∷ (1 ∷ (one.widths ++ two.widths)) in
      let placed1 = lies_left p.temps from (c.piece.widths ++ inner) after.widths placed in
      let placed2 = lies_right p.temps from (c.piece.widths ++ inner) after.widths placed in
      let placed3 = lies_left p.temps from c.piece.widths inner placed1 in
      let placed4 = lies_right p.temps from c.piece.widths inner placed1 in
      let placed5 = lies_left p.temps base1 (1 ∷ []) (1 ∷ (one.widths ++ two.widths)) placed4 in
      let placed6 = lies_right p.temps base1 (1 ∷ []) (1 ∷ (one.widths ++ two.widths)) placed4 in
      let placed7 = lies_left p.temps base2 (1 ∷ []) (one.widths ++ two.widths) placed6 in
      let placed8 = lies_right p.temps base2 (1 ∷ []) (one.widths ++ two.widths) placed6 in
      let placed9 = lies_left p.temps base3 one.widths two.widths placed8 in
      let placed10 = lies_right p.temps base3 one.widths two.widths placed8 in
      let holds = core.holds number test word now.moment in
      let here_part = part from c.piece.widths now lane low placed3 tied in
      let l = lowered.condition_leaves number test row from before pins now.moment lane here_part in
      let lane1 = G c.piece.moves lane in
      let is1 : V lane1 c.out ≡ bit holds = lowered.condition_is number test row from before pins now.moment lane word here_part has (subst (λ (n : ℕ). Runs core ops layout p meant n row word) (sym owned.0) runs) in
      let went1 : W from index now lane lane1 = went_part core ops layout p meant root before pins from index now now lane lane1 tied l.0.keeps l.0.agrees refl refl refl (λ r w kept h. l.1 r w tt h) in
      let on1 = guard_kept core ops layout p meant root before pins from index now lane lane1 guard guarded went1 ∙ on in
      let choice1 = one_more base1 index guard c.out holds now lane1 (omega (arith, low)) placed5 went1.tied on1 is1 in
      let lane2 = G (holding 1 (both guard c.out) base1).piece.moves lane1 in
      let on2 = guard_kept core ops layout p meant root before pins base1 index now lane1 lane2 guard (guard_wider core ops layout p meant root before pins from base1 guard (omega arith) guarded) choice1.went ∙ on1 in
      let is2 = guard_kept core ops layout p meant root before pins base1 index now lane1 lane2 c.out l.2 choice1.went ∙ is1 in
      let choice2 = one_more base2 index guard (none c.out) (not holds) now lane2 (omega (arith, low)) placed7 choice1.went.tied on2 (none_is p before pins lane2 c.out holds is2) in
      let lane3 = G (holding 1 (both guard (none c.out)) base2).piece.moves lane2 in
      let yes_is = guard_kept core ops layout p meant root before pins base2 index now lane2 lane3 taking choice1.guarded choice2.went ∙ choice1.is in
      let yes_guard = guard_wider core ops layout p meant root before pins base2 base3 taking (omega arith) choice1.guarded in
      let has3 = row_kept core ops layout p meant root before pins base2 index now lane2 lane3 row word row_for.1 choice2.went (row_kept core ops layout p meant root before pins base1 index now lane1 lane2 row word row_for.1 choice1.went (row_kept core ops layout p meant root before pins from index now lane lane1 row word row_for.1 went1 has)) in
      let row_later : RowFor (index + size taken) inside row = (row_for.0, λ r e is. let k = row_for.1 r e is in omega (arith, k)) in
      let lane4 = G one.moves lane3 in
      let yes_run = run core here word taken now in
      let no_run = run core here word other now in
      let middle = cond holds yes_run no_run in
      let went45 : W base3 index middle lane3 (G (chain (items_of here row taking taken) (items_of here row leaving other) base3).moves lane3) =
      branch_either holds base3 index (items_of here row taking taken) (items_of here row leaving other) now yes_run no_run lane3
      (λ it.
      let went4 = active_runs here row taken base3 index owner word inside taking now lane3 tree.0 owned.1 (omega (arith, below)) (omega (arith, low)) placed9 yes_guard choice2.went.tied (yes_is ∙ ap bit it) row_for has3 runs in
      let no_off = guard_kept core ops layout p meant root before pins base3 index yes_run lane3 lane4 leaving choice2.guarded went4 ∙ choice2.is ∙ ap (λ (b : Bool). bit (not b)) it in
      went_chain core ops layout p meant root before pins base3 index yes_run yes_run (items_of here row taking taken) (items_of here row leaving other) lane3 went4
      (went_wider core ops layout p meant root before pins base4 base4 index (index + size taken) yes_run lane4 (G two.moves lane4) (omega arith) (omega arith)
      (active_rests here row other here base4 (index + size taken) inside leaving yes_run lane4 tree.1 (omega (arith, low)) placed10 (guard_wider core ops layout p meant root before pins base3 base4 leaving (omega arith) choice2.guarded) went4.tied no_off)))
      (λ it.
      let went4 = active_rests here row taken here base3 index inside taking now lane3 tree.0 (omega (arith, low)) placed9 yes_guard choice2.went.tied (yes_is ∙ ap bit it) in
      let no_on = guard_kept core ops layout p meant root before pins base3 index now lane3 lane4 leaving choice2.guarded went4 ∙ choice2.is ∙ ap (λ (b : Bool). bit (not b)) it in
      went_chain core ops layout p meant root before pins base3 index now no_run (items_of here row taking taken) (items_of here row leaving other) lane3 went4
      (went_wider core ops layout p meant root before pins base4 base4 index (index + size taken) no_run lane4 (G two.moves lane4) (omega arith) (omega arith)
      (active_runs here row other base4 (index + size taken) owner word inside leaving now lane4 tree.1 owned.2 (omega (arith, below)) (omega (arith, low)) placed10 (guard_wider core ops layout p meant root before pins base3 base4 leaving (omega arith) choice2.guarded) went4.tied no_on row_later (row_kept core ops layout p meant root before pins base3 index now lane3 lane4 row word row_for.1 went4 has3) runs))) in
      let went_first : W from index middle lane (G (first from).moves lane) =
      went_bind core ops layout p meant root before pins from index now middle maker user1 lane went1
      (went_bind core ops layout p meant root before pins base1 index now middle (holding 1 (both guard c.out)) (user2 c.out) lane1 choice1.went
      (went_bind core ops layout p meant root before pins base2 index now middle (holding 1 (both guard (none c.out))) (λ leaving. chain (items_of here row taking taken) (items_of here row leaving other)) lane2 choice2.went went45)) in
      went_chain core ops layout p meant root before pins from index middle (run core here word rest middle) first (items_of here row guard rest) lane went_first
      (went_wider core ops layout p meant root before pins base' base' index (index + (size taken + size other)) (run core here word rest middle) (G (first from).moves lane) (G after.moves (G (first from).moves lane)) (omega arith) (omega arith)
      (active_runs here row rest base' (index + (size taken + size other)) owner word inside guard middle (G (first from).moves lane) tree.2 owned.3 (omega (arith, below)) (omega (arith, low)) placed2 (guard_wider core ops layout p meant root before pins from base' guard (omega arith) guarded) went_first.tied
      (guard_kept core ops layout p meant root before pins from index middle lane (G (first from).moves lane) guard guarded went_first ∙ on)
      (row_for.0, λ r e is. let k = row_for.1 r e is in omega (arith, k))
      (row_kept core ops layout p meant root before pins from index middle lane (G (first from).moves lane) row word row_for.1 went_first has) runs))
