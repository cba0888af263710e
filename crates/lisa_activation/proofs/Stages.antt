-- A walk over the stages, from the last one down.
use Rattle.std.proofs.Common.{◌≡◌, ℕ, zero, suc, ◌+◌, ◌-◌, ◌^◌, ◌<◌, ◌≤◌, Bool, true, false, not, ◌&&◌, ◌||◌, List, length, sym, ap, ap₂, ◌∙◌, arith, nat_eq, ⊎_elim, get_or-set_same, get_or-set_other}
use Rattle.std.specs.Prelude.{slice_index, slice_set, bit_and, bit_or}
use Rattle.std.proofs.lemmas.Bool.{cases_eq, ne_eqb}
use Rattle.std.proofs.Math.ListN.{length-set}
use Rattle.activation_bits.specs.Members.{has}
use Rattle.activation_bits.proofs.HasBits.{has_and, has_or, has_not, has_none}
use Rattle.lisa_activation.specs.Columns.{is_open, ends}

-- the bit of an occurrence in each stage
abbrev pub bits_at : List ℕ → ℕ → ℕ → Bool
bits_at words bit stage = has (slice_index words stage) bit

abbrev pub ended : List ℕ → List ℕ → List ℕ → ℕ → ℕ → ℕ → ℕ → Bool
ended before own entered held flushed bit stage = ends (bits_at before bit) (bits_at own bit) (bits_at entered bit) held flushed stage

pub record FinishedFrom (before now own entered : List ℕ) (held flushed stage : ℕ) : Type 0 where
  pub done : (k bit : ℕ) → stage ≤ k → k < 8 → bit < 64 → has (slice_index now k) bit ≡ ended before own entered held flushed bit k
  pub left : (k : ℕ) → k < stage → slice_index now k ≡ slice_index before k
  pub len : length now ≡ 8
  pub positive : 0 < stage

pub one_stage : (before now own entered : List ℕ) (held flushed stage i j stayed moved : ℕ) → stage ≤ 8 → i + 1 ≡ stage → j + 1 ≡ i → ((bit : ℕ) → has stayed bit ≡ (has (slice_index now i) bit && (has held i && not (has flushed i)))) → ((bit : ℕ) → bit < 64 → has moved bit ≡ (is_open held flushed j && ((has (slice_index now j) bit && not (has (slice_index own j) bit)) || has (slice_index entered j) bit))) → FinishedFrom before now own entered held flushed stage → FinishedFrom before (slice_set now i (bit_or stayed moved)) own entered held flushed i
one_stage before now own entered held flushed stage i j stayed moved top at below stays moves far =
    let word = bit_or stayed moved in
    record {
      done = λ k bit low high within.
          ⊎_elim
          (λ e.
          let here : k ≡ suc j = omega arith in
          ap (λ w. has w bit) (ap (λ n. slice_index (slice_set now i word) n) e ∙ get_or-set_same now i word 0 (omega (arith, far.len)))
          ∙ has_or stayed moved bit
          ∙ ap₂ (λ a b. a || b)
          (stays bit ∙ ap (λ n. has (slice_index now n) bit && (has held n && not (has flushed n))) (sym e ∙ here) ∙ ap (λ w. has w bit && (has held (suc j) && not (has flushed (suc j)))) (far.left (suc j) (omega arith)))
          (moves bit within ∙ ap (λ w. is_open held flushed j && ((has w bit && not (has (slice_index own j) bit)) || has (slice_index entered j) bit)) (far.left j (omega arith)))
          ∙ ap (λ n. ended before own entered held flushed bit n) (sym here))
          (λ ne. ap (λ w. has w bit) (get_or-set_other now i k word 0 ne) ∙ far.done k bit (omega arith) high within)
          (cases_eq k i);
      left = λ k low. get_or-set_other now i k word 0 (λ e. omega arith) ∙ far.left k (omega arith);
      len = length-set now i word ∙ far.len;
      positive = omega arith;
    }

pub all_done : (before now own entered : List ℕ) (held flushed stage stayed : ℕ) → stage ≤ 1 → ((bit : ℕ) → has stayed bit ≡ (has (slice_index now 0) bit && (has held 0 && not (has flushed 0)))) → FinishedFrom before now own entered held flushed stage → (k bit : ℕ) → k < 8 → bit < 64 → has (slice_index (slice_set now 0 stayed) k) bit ≡ ended before own entered held flushed bit k
all_done before now own entered held flushed stage stayed high stays far zero bit within inside =
    ap (λ w. has w bit) (get_or-set_same now 0 stayed 0 (omega (arith, far.len)))
    ∙ stays bit
    ∙ ap (λ w. has w bit && (has held 0 && not (has flushed 0))) (far.left 0 (omega (arith, far.positive)))
all_done before now own entered held flushed stage stayed high stays far (suc k) bit within inside =
    ap (λ w. has w bit) (get_or-set_other now 0 (suc k) stayed 0 (λ e. omega arith)) ∙ far.done (suc k) bit (omega arith) within inside

with_open : (o x : Bool) → o ≡ true → x ≡ (o && x)
with_open o x is = grind arith

without_open : (o x : Bool) → o ≡ false → false ≡ (o && x)
without_open o x is = grind arith

pub moved : (word own entered held flushed stage bit : ℕ) → own < 2 ^ 64 → bit < 64 → is_open held flushed stage ≡ true → has (bit_or (bit_and word (2 ^ 64 - 1 - own)) entered) bit ≡ (is_open held flushed stage && ((has word bit && not (has own bit)) || has entered bit))
moved word own entered held flushed stage bit fits within is =
    has_or (bit_and word (2 ^ 64 - 1 - own)) entered bit
    ∙ ap (λ b. b || has entered bit) (has_and word (2 ^ 64 - 1 - own) bit ∙ ap (λ b. has word bit && b) (has_not own bit fits within))
    ∙ with_open (is_open held flushed stage) ((has word bit && not (has own bit)) || has entered bit) is

pub not_moved : (word own entered held flushed stage bit : ℕ) → is_open held flushed stage ≡ false → has 0 bit ≡ (is_open held flushed stage && ((has word bit && not (has own bit)) || has entered bit))
not_moved word own entered held flushed stage bit is = has_none bit ∙ without_open (is_open held flushed stage) ((has word bit && not (has own bit)) || has entered bit) is

-- the words of a row of stages after one more bit of a level
pub set_bit : (words : List ℕ) (level i bit word : ℕ) → i + 1 ≡ level → i < length words → ((other : ℕ) → has word other ≡ (has (slice_index words i) other || nat_eq other bit)) → (stage other : ℕ) → has (slice_index (slice_set words i word) stage) other ≡ (has (slice_index words stage) other || (nat_eq (stage + 1) level && nat_eq other bit))
set_bit words level i bit word at within is stage other =
    ⊎_elim
    (λ e.
    let same : nat_eq (stage + 1) level ≡ true = grind arith in
    ap (λ w. has w other) (ap (λ n. slice_index (slice_set words i word) n) e ∙ get_or-set_same words i word 0 within)
    ∙ is other
    ∙ ap (λ n. has (slice_index words n) other || nat_eq other bit) (sym e)
    ∙ ap (λ b. has (slice_index words stage) other || (b && nat_eq other bit)) (sym same))
    (λ ne.
    let other_level : nat_eq (stage + 1) level ≡ false = ne_eqb (stage + 1) level (λ e. ne (omega arith)) in
    ap (λ w. has w other) (get_or-set_other words i stage word 0 ne)
    ∙ or_none (has (slice_index words stage) other)
    ∙ ap (λ b. has (slice_index words stage) other || (b && nat_eq other bit)) (sym other_level))
    (cases_eq stage i)
  where
    or_none : (a : Bool) → a ≡ (a || false)
    or_none a = grind arith

-- no stage is that of level 0
pub kept_bit : (words : List ℕ) (level bit stage other : ℕ) → level ≡ 0 → has (slice_index words stage) other ≡ (has (slice_index words stage) other || (nat_eq (stage + 1) level && nat_eq other bit))
kept_bit words level bit stage other none =
    let apart : nat_eq (stage + 1) level ≡ false = ne_eqb (stage + 1) level (λ e. omega arith) in
    or_none (has (slice_index words stage) other)
    ∙ ap (λ b. has (slice_index words stage) other || (b && nat_eq other bit)) (sym apart)
  where
    or_none : (a : Bool) → a ≡ (a || false)
    or_none a = grind arith
