-- Statements keep types and lengths.
use Rattle.std.proofs.Common.{ℕ, zero, suc, ◌+◌, ◌*◌, Bool, true, false, List, [], length, get_or, set, refl, ◌∙◌, if◌then◌else◌}
use Rattle.std.proofs.lemmas.List.{length-set}
use Rattle.std.proofs.Math.Seq.{map-set_same}
use Rattle.lisa_words.specs.declared.words.Kind.{Kind}
use Rattle.shape_checks.specs.declared.bounds.Bounds.{Bounds}
use Rattle.shape_checks.specs.Bounds.{turns}
use Rattle.typed_values.specs.Words.{TypedWord, as_shape, is_zero, truth}
use Rattle.typed_values.specs.Effects.{like, turned, counter_value}
use Rattle.behavior_plans.specs.Holdings.{Holdings, word_at, with_slot}
use Rattle.behavior_plans.specs.Spots as spots
use Rattle.behavior_plans.specs.Spots.{SpotTree}
use Rattle.behavior_plans.specs.Acts as acts
use Rattle.behavior_plans.specs.Acts.{ActTree, ActTrees}
use Rattle.behavior_plans.specs.Values.{wrapped, term_value, term_whole}
use Rattle.behavior_plans.specs.Effects.{spot_put, first_word, loop_turn, act_effect, acts_effect}
use Rattle.behavior_plans.specs.Laws.{word_type, KeepsTypes}

same : (h : Holdings) → KeepsTypes h h
same h = record { registers = refl; kept = refl; pins = refl; slots = refl; cells = refl; decoded = refl; fields = refl; outs = refl; stalled = refl; flushed = refl }

after : {a b c : Holdings} → KeepsTypes a b → KeepsTypes b c → KeepsTypes a c
after x y = record {
  registers = y.registers ∙ x.registers;
  kept = y.kept ∙ x.kept;
  pins = y.pins ∙ x.pins;
  slots = y.slots ∙ x.slots;
  cells = y.cells ∙ x.cells;
  decoded = y.decoded ∙ x.decoded;
  fields = y.fields ∙ x.fields;
  outs = y.outs ∙ x.outs;
  stalled = y.stalled ∙ x.stalled;
  flushed = y.flushed ∙ x.flushed;
}

either : (b : Bool) {h x y : Holdings} → KeepsTypes h x → KeepsTypes h y → KeepsTypes h (if b then x else y)
either true one other = one
either false one other = other

slot_keeps : (slot : ℕ) (word : TypedWord) (h : Holdings) → KeepsTypes h (with_slot slot word h)
slot_keeps slot word h = record { registers = refl; kept = refl; pins = refl; slots = length-set h.slots slot word; cells = refl; decoded = refl; fields = refl; outs = refl; stalled = refl; flushed = refl }

spot_keeps : (spot : SpotTree) (given : Kind → TypedWord) (h : Holdings) → KeepsTypes h (spot_put spot given h)
spot_keeps (spots.Register place) given h = record {
  registers = map-set_same word_type h.registers place (like (word_at h.registers place) given) (truth false) refl;
  kept = refl;
  pins = refl;
  slots = refl;
  cells = refl;
  decoded = refl;
  fields = refl;
  outs = refl;
  stalled = refl;
  flushed = refl;
}
spot_keeps (spots.Local slot) given h = slot_keeps slot (like (word_at h.slots slot) given) h
spot_keeps (spots.Element shape array last index) given h =
    let row : List ℕ = get_or h.cells array [] in
    let i : ℕ = wrapped last (term_value h index).bits in
    let bits : ℕ = (as_shape shape (given shape.kind)).bits in
    record {
      registers = refl;
      kept = refl;
      pins = refl;
      slots = refl;
      cells = map-set_same (λ (r : List ℕ). length r) h.cells array (set row i bits) [] (length-set row i bits);
      decoded = refl;
      fields = refl;
      outs = refl;
      stalled = refl;
      flushed = refl;
    }
spot_keeps (spots.Output shape place) given h =
    record { registers = refl; kept = refl; pins = refl; slots = refl; cells = refl; decoded = refl; fields = refl; outs = length-set h.outs place _; stalled = refl; flushed = refl }

turned_keeps : (turn : ℕ → Holdings → Holdings) (b : Bounds) (k n : ℕ) (h : Holdings) → ((bits : ℕ) (m : Holdings) → KeepsTypes m (turn bits m)) → KeepsTypes h (turned turn b k n h)
turned_keeps turn b k zero h each = same h
turned_keeps turn b k (suc n) h each = after (each (b.first + k * b.step) h) (turned_keeps turn b (k + 1) n (turn (b.first + k * b.step) h) each)

mutual
  act_keeps : (a : ActTree) (h : Holdings) → KeepsTypes h (act_effect a h)
  act_keeps acts.Empty h = same h
  act_keeps (acts.Block all) h = acts_keep all h
  act_keeps (acts.Local slot shape first) h = slot_keeps slot (first_word h shape first) h
  act_keeps (acts.Assign spot e) h = spot_keeps spot (term_whole h e) h
  act_keeps (acts.If test chosen) h = either (is_zero (term_value h test)) (same h) (act_keeps chosen h)
  act_keeps (acts.IfElse test chosen other) h = either (is_zero (term_value h test)) (act_keeps other h) (act_keeps chosen h)
  act_keeps (acts.For loop body) h =
      turned_keeps (loop_turn loop (act_effect body)) loop.bounds 0 (turns loop.bounds) h
      (λ bits m. after (slot_keeps loop.slot (counter_value loop.shape bits) m) (act_keeps body (with_slot loop.slot (counter_value loop.shape bits) m)))
  act_keeps (acts.Stall level) h =
      record { registers = refl; kept = refl; pins = refl; slots = refl; cells = refl; decoded = refl; fields = refl; outs = refl; stalled = length-set h.stalled level true; flushed = refl }
  act_keeps (acts.Flush level) h =
      record { registers = refl; kept = refl; pins = refl; slots = refl; cells = refl; decoded = refl; fields = refl; outs = refl; stalled = refl; flushed = length-set h.flushed level true }

  pub acts_keep : (all : ActTrees) (h : Holdings) → KeepsTypes h (acts_effect all h)
  acts_keep acts.End h = same h
  acts_keep (acts.Then a rest) h = after (act_keeps a h) (acts_keep rest (act_effect a h))
