-- Pipelines made and restored.
use Rattle.std.proofs.Common.{◌≡◌, ℕ, zero, suc, ◌+◌, ◌<◌, ◌≤◌, Bool, true, false, List, [], ◌∷◌, length, Option, None, Some, refl, sym, ap, ap₂, ◌∙◌, arith, nat_eq, ⊎_elim, ◌++◌, get_or, drop, append_assoc, add-one}
use Rattle.std.specs.Prelude.{map, slice_get, slice_index, is_some}
use Rattle.std.specs.Option.{option_map, unwrap_or}
use Rattle.std.specs.List.{AllByRecursion}
use Rattle.std.proofs.lemmas.Bool.{cases_lt, cases_eq, eq-eqb, ne_eqb, both_ways, false_from_ne_true}
use Rattle.std.proofs.lemmas.List.{map-append}
use Rattle.std.proofs.Math.Seq.{drop-cons}
use Rattle.std.proofs.lemmas.Option.{slice_get_past}
use Rattle.pipeline_time.specs.Cores.{Core, level_of, above_of}
use Rattle.pipeline_time.specs.Journal.{stands}
use Rattle.pipeline_time.specs.States.{after}
use Rattle.pipeline_time.specs.Bits.{shown}
use Rattle.pipeline_time.specs.Sound.{IsSound}
use Rattle.pipeline_time.proofs.Agree.{good_past, between}
use Rattle.lisa_activation.specs.declared.kept.Queues.{Queues}
use Rattle.lisa_activation.specs.declared.placing.Placing.{Placing}
use Rattle.lisa_activation.specs.Queued.{count, AreQueuesFor, IsEmpty, HasTables}
use Rattle.lisa_activation.specs.Restored.{IsShownBetween, IsRestored}
use Rattle.pipeline_runs.specs.declared.tree.Occurrence.{Occurrence}
use Rattle.pipeline_runs.specs.declared.plan.Plan.{Plan}
use Rattle.pipeline_runs.specs.Turns.{IsPlanOf, IsEquipped}
use Rattle.pipeline_runs.specs.Pipelines.{IsStaged, AreWords, AreBits, ShowsHardware}
use Rattle.pipeline_runs.proofs.Tables.{map_length, at_within, level_is, above_is, one_at, staged_within}

-- ---- placings

all_at : {X : Type 0} (P : X → Type 0) (xs : List X) → ((n : ℕ) (x : X) → slice_get xs n ≡ Some x → P x) → AllByRecursion P xs
all_at P [] each = tt
all_at P (x ∷ xs) each = (each 0 x refl, all_at P xs (λ n y e. each (suc n) y e))

pub all_staged : {R M : Type 0} (core : Core R M) → IsSound core → (plan : Plan) → IsPlanOf core plan → AllByRecursion IsStaged plan.occurrences.items
all_staged core sound plan planned =
    all_at IsStaged plan.occurrences.items (λ n o e.
    let one = one_at core sound plan planned n o e in
    record { above_within = omega (arith, one.level_within, one.above_within, planned.few); level_within = omega (arith, one.level_within, planned.few) })

-- an element's number, by two lists that have the same
abbrev pub number_of : {X : Type 0} → (X → ℕ) → List X → ℕ → ℕ
number_of f xs n = unwrap_or (option_map f (slice_get xs n)) 0

mapped : {X : Type 0} (f : X → ℕ) (xs : List X) (n : ℕ) → number_of f xs n ≡ unwrap_or (slice_get (map f xs) n) 0
mapped f [] n = refl
mapped f (x ∷ xs) zero = refl
mapped f (x ∷ xs) (suc n) = mapped f xs n

same_number : {X Y : Type 0} (f : X → ℕ) (g : Y → ℕ) (xs : List X) (ys : List Y) → map f xs ≡ map g ys → (n : ℕ) → number_of f xs n ≡ number_of g ys n
same_number f g xs ys e n = mapped f xs n ∙ ap (λ zs. unwrap_or (slice_get zs n) 0) e ∙ sym (mapped g ys n)

turned_eq : (a b c : ℕ) → b ≡ a + 1 → nat_eq (a + 1) c ≡ nat_eq c b
turned_eq a b c e =
    ⊎_elim
    (λ is. eq-eqb (a + 1) c is ∙ sym (eq-eqb c b (sym is ∙ sym e)))
    (λ ne. ne_eqb (a + 1) c ne ∙ sym (ne_eqb c b (λ is. ne (sym e ∙ sym is))))
    (cases_eq (a + 1) c)

module _ {R M : Type 0} (core : Core R M) (sound : IsSound core) (plan : Plan) (planned : IsPlanOf core plan) where
  -- an occurrence's level, found by its number
  levels : (n : ℕ) → number_of (λ (o : Occurrence). o.level) plan.occurrences.items n ≡ level_of core n
  levels n = ⊎_elim inside outside (cases_lt n (length plan.occurrences.items))
    where
      inside : n < length plan.occurrences.items → number_of (λ (o : Occurrence). o.level) plan.occurrences.items n ≡ level_of core n
      inside low =
          let o = at_within plan.occurrences.items n low in
          ap (λ (x : Option Occurrence). unwrap_or (option_map (λ (o : Occurrence). o.level) x) 0) o.1 ∙ sym (level_is core sound plan planned n o.0 o.1)

      none : length plan.occurrences.items ≤ n → (l : ℕ) → level_of core n ≡ l → 0 ≡ level_of core n
      none high zero e = sym e
      none high (suc s) e = let low = staged_within core sound plan planned n s e in absurd (omega arith)

      outside : length plan.occurrences.items ≤ n → number_of (λ (o : Occurrence). o.level) plan.occurrences.items n ≡ level_of core n
      outside high =
          ap (λ (x : Option Occurrence). unwrap_or (option_map (λ (o : Occurrence). o.level) x) 0) (slice_get_past plan.occurrences.items n high) ∙ none high (level_of core n) refl

  module _ (placings : List Placing) (own : map (λ p. p.level) placings ≡ map (λ o. o.level) plan.occurrences.items) (aboves : map (λ p. p.above) placings ≡ map (λ o. o.above) plan.occurrences.items) (queues : Queues) (made : AreQueuesFor placings queues) where
    as_many : count queues ≡ length plan.occurrences.items
    as_many =
        made.as_many
        ∙ sym (map_length (λ (p : Placing). p.level) placings)
        ∙ ap length own
        ∙ map_length (λ (o : Occurrence). o.level) plan.occurrences.items

    pub equipped : IsEquipped core queues plan
    equipped = record {
      sound = sound;
      planned = planned;
      tables = record {
        run = λ stage n low.
            made.run stage n low
            ∙ ap (λ l. nat_eq (stage + 1) l) (same_number (λ (p : Placing). p.level) (λ (o : Occurrence). o.level) placings plan.occurrences.items own n ∙ levels n)
            ∙ turned_eq stage (suc stage) (level_of core n) (omega arith);
        below = λ n low.
            let o = at_within plan.occurrences.items n (omega (arith, as_many)) in
            made.below n
            ∙ same_number (λ (p : Placing). p.above) (λ (o : Occurrence). o.above) placings plan.occurrences.items aboves n
            ∙ ap (λ (x : Option Occurrence). unwrap_or (option_map (λ (o : Occurrence). o.above) x) 0) o.1
            ∙ sym (above_is core sound plan planned n o.0 o.1);
      };
      as_many = as_many;
    }

-- ---- the first state

pub first_shows : {R M : Type 0} (core : Core R M) (lasting : R) (queues : Queues) (words : List ℕ) → ((stage : ℕ) → stage < 8 → slice_index words stage ≡ 0) → IsEmpty queues → ShowsHardware lasting queues words (shown core (after core lasting []))
first_shows core lasting queues words zeros empty = record {
  memory_is = refl;
  holds = record {
    stand = λ stage number low. empty.none_stands stage number;
    recorded = λ stage number low. empty.none_entered stage number;
    outside = λ number. empty.none_first number;
  };
  words_are = zeros;
}

-- ---- another state

module _ {R M : Type 0} (core : Core R M) (queues : Queues) (plan : Plan) (equipped : IsEquipped core queues plan) (start : R) (entries : List (List ℕ)) where
  abbrev bits : ℕ → ℕ → Bool
  bits = (shown core (after core start entries)).bits

  pub record Between (level number : ℕ) : Type 0 where
    pub staged : 0 < above_of core number
    pub after_activator : above_of core number < level
    pub until_own : level ≤ level_of core number

  stands_between : (level number : ℕ) (o : Option ℕ) → stands core (after core start entries).past level number ≡ o → is_some o ≡ true → Between level number
  stands_between level number None e is = absurd (both_ways false refl is)
  stands_between level number (Some w) e is =
      let b = between core (after core start entries).past level number w (good_past core equipped.sound start entries) e in
      record { staged = b.staged; after_activator = b.after_activator; until_own = b.until_own }

  of_bit : (level number : ℕ) → bits level number ≡ true → Between level number
  of_bit level number is = stands_between level number (stands core (after core start entries).past level number) refl is

  beyond : (stage number : ℕ) → count queues ≤ number → bits (suc stage) number ≡ false
  beyond stage number high = false_from_ne_true (bits (suc stage) number) (λ is.
      let b = of_bit (suc stage) number is in
      later number (level_of core number) refl high (omega (arith, b.until_own)))
    where
      later : (number l : ℕ) → level_of core number ≡ l → count queues ≤ number → 0 < l → ⊥
      later number zero e high low = omega arith
      later number (suc s) e high low = let inside = staged_within core equipped.sound plan equipped.planned number s e in omega (arith, equipped.as_many)

  pub shown_between : (test : ℕ → ℕ → Bool) → AreBits test (count queues) bits → IsShownBetween queues test
  shown_between test same stage number low inside is =
      let b = of_bit (suc stage) number (sym (same stage number low inside) ∙ is) in
      let at = equipped.tables.below number inside in
      record {
        has_activator = omega (arith, at, b.staged);
        after_activator = omega (arith, at, b.after_activator);
        until_own = λ earlier before. equipped.tables.run earlier number (omega arith) ∙ ne_eqb (level_of core number) (suc earlier) (λ e. omega (arith, b.until_own));
      }

  pub restored_shows : (test : ℕ → ℕ → Bool) (queues' : Queues) (lasting : R) (words : List ℕ) → IsRestored queues queues' test → lasting ≡ (after core start entries).memory → AreBits test (count queues) bits → AreWords words (shown core (after core start entries)).words → ShowsHardware lasting queues' words (shown core (after core start entries))
  restored_shows test queues' lasting words restored memory_is same words_are = record {
    memory_is = memory_is;
    holds = record {
      stand = λ stage number low.
          ⊎_elim
          (λ inside. restored.stand stage number low inside ∙ same stage number low inside)
          (λ high. restored.none_beyond stage number low high ∙ sym (beyond stage number high))
          (cases_lt number (count queues));
      recorded = λ stage number low. restored.none_entered stage number;
      outside = λ number. restored.none_first number;
    };
    words_are = words_are;
  }

pub equipped_restored : {R M : Type 0} (core : Core R M) (queues queues' : Queues) (plan : Plan) → IsEquipped core queues plan → HasTables queues queues' → IsEquipped core queues' plan
equipped_restored core queues queues' plan equipped same = record {
  sound = equipped.sound;
  planned = equipped.planned;
  tables = record {
    run = λ stage number low. same.run stage number ∙ equipped.tables.run stage number low;
    below = λ number low. same.below number ∙ equipped.tables.below number (omega (arith, same.as_many));
  };
  as_many = same.as_many ∙ equipped.as_many;
}

-- ---- rows of levels

pub one_more : {X Y : Type 0} (f : X → ℕ) (g : Y → ℕ) (row : List X) (x : X) (xs : List Y) (i : ℕ) (y : Y) → i < length xs → y ≡ get_or xs i y → f x ≡ g y → map f row ++ map g (drop i xs) ≡ map g xs → map f (row ++ x ∷ []) ++ map g (drop (i + 1) xs) ≡ map g xs
one_more f g row x xs i y low is same far =
    ap (λ ns. ns ++ map g (drop (i + 1) xs)) (map-append f row (x ∷ []))
    ∙ append_assoc (map f row) (f x ∷ []) (map g (drop (i + 1) xs))
    ∙ ap₂ (λ n ns. map f row ++ (n ∷ ns)) (same ∙ ap g is) (ap (λ k. map g (drop k xs)) (add-one i))
    ∙ ap (λ ys. map f row ++ map g ys) (sym (drop-cons xs i y low))
    ∙ far
