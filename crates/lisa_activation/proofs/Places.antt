-- Occurrences in columns of 64.
use Rattle.std.proofs.Common.{◌≡◌, ◌≢◌, ℕ, zero, suc, ◌+◌, ◌*◌, ◌/◌, ◌%◌, ◌<◌, ◌≤◌, ◌↔◌, Bool, true, false, ◌&&◌, ◌||◌, List, [], ◌∷◌, ◌++◌, length, get_or, Option, None, Some, refl, sym, ap, ap₂, ◌∙◌, subst, arith, nat_eq, ⊎_elim, get_or-set_same}
use Rattle.std.specs.Prelude.{slice_get, slice_index, slice_set, bit_and, bit_or}
use Rattle.std.specs.List.{AllByRecursion}
use Rattle.std.proofs.Math.ListN.{length-set}
use Rattle.std.proofs.lemmas.Option.{slice_get-get_or, slice_get_past}
use Rattle.std.proofs.lemmas.Bool.{eq-eqb, ne_eqb, cases_eq, cases_lt}
use Rattle.activation_bits.specs.Members.{has}
use Rattle.activation_bits.proofs.HasBits.{has_none, has_and, has_or}
use Rattle.activation_bits.proofs.InRows.{apart}
use Rattle.lisa_activation.specs.declared.columns.column.Column.{Column}
use Rattle.lisa_activation.specs.declared.placing.Placing.{Placing}
use Rattle.lisa_activation.specs.Columns.{ends, is_open, due_in, IsBare}
use Rattle.lisa_activation.specs.Queued.{at, bit_of, due_at, level_at, runs_at, IsColumnFinished, IsFinishedAt}

pub get-set_same : {X : Type 0} (xs : List X) (i : ℕ) (y : X) → i < length xs → slice_get (slice_set xs i y) i ≡ Some y
get-set_same xs i y h = slice_get-get_or (slice_set xs i y) i y (omega (arith, length-set xs i y)) ∙ ap Some (get_or-set_same xs i y y h)

pub get-set_other : {X : Type 0} (xs : List X) (i k : ℕ) (y : X) → k ≢ i → slice_get (slice_set xs i y) k ≡ slice_get xs k
get-set_other [] i k y ne = refl
get-set_other (x ∷ xs) zero zero y ne = absurd (ne refl)
get-set_other (x ∷ xs) zero (suc k) y ne = refl
get-set_other (x ∷ xs) (suc i) zero y ne = refl
get-set_other (x ∷ xs) (suc i) (suc k) y ne = get-set_other xs i k y (λ e. ne (ap suc e))

or_none : (a : Bool) → a ≡ (a || false)
or_none a = grind arith

or_unset : (a g : Bool) → a ≡ (a || (g && false))
or_unset a g = grind arith

pub read_at : {X : Type 0} (xs : List X) (k : ℕ) (x : X) → k < length xs → x ≡ get_or xs k x → slice_get xs k ≡ Some x
read_at xs k x within read = slice_get-get_or xs k x within ∙ ap Some (sym read)

-- one occurrence more in a word of its column
pub changed : (word : Column → ℕ) (columns : List Column) (number : ℕ) (old new : Column) (g : Bool) → number < 64 * length columns → old ≡ get_or columns (number / 64) old → ((bit : ℕ) → has (word new) bit ≡ (has (word old) bit || (g && nat_eq bit (number % 64)))) → (other : ℕ) → bit_of word (slice_set columns (number / 64) new) other ≡ (bit_of word columns other || (g && nat_eq other number))
changed word columns number old new g within read is other =
    let test = λ (column : Column). has (word column) (other % 64) in
    let k = number / 64 in
    let inside : k < length columns = omega arith in
    ⊎_elim
    (λ e.
    ap (λ q. at test (slice_get (slice_set columns k new) q)) e
    ∙ ap (at test) (get-set_same columns k new inside)
    ∙ is (other % 64)
    ∙ ap₂ (λ a b. a || (g && b)) (ap (at test) (sym (read_at columns k old inside read)) ∙ ap (λ q. at test (slice_get columns q)) (sym e)) (apart other number e))
    (λ ne.
    ap (at test) (get-set_other columns k (other / 64) new ne)
    ∙ or_unset (bit_of word columns other) g
    ∙ ap (λ b. bit_of word columns other || (g && b)) (sym (ne_eqb other number (λ e. ne (ap (λ n. n / 64) e)))))
    (cases_eq (other / 64) k)

-- a word that stays as it is
pub kept : (word : Column → ℕ) (columns : List Column) (number : ℕ) (old new : Column) → number < 64 * length columns → old ≡ get_or columns (number / 64) old → word new ≡ word old → (other : ℕ) → bit_of word (slice_set columns (number / 64) new) other ≡ bit_of word columns other
kept word columns number old new within read same other =
    changed word columns number old new false within read (λ bit. ap (λ w. has w bit) same ∙ or_none (has (word old) bit)) other
    ∙ sym (or_none (bit_of word columns other))

-- ---- columns in which nothing is

pub bare_at : (word : Column → ℕ) (columns : List Column) (k bit : ℕ) → AllByRecursion IsBare columns → ((column : Column) → IsBare column → word column ≡ 0) → at (λ column. has (word column) bit) (slice_get columns k) ≡ false
bare_at word [] k bit bare none = refl
bare_at word (c ∷ columns) zero bit bare none = ap (λ w. has w bit) (none c bare.0) ∙ has_none bit
bare_at word (c ∷ columns) (suc k) bit bare none = bare_at word columns k bit bare.1 none

pub bare_bits : (word : Column → ℕ) (columns : List Column) (number : ℕ) → AllByRecursion IsBare columns → ((column : Column) → IsBare column → word column ≡ 0) → bit_of word columns number ≡ false
bare_bits word columns number bare none = bare_at word columns (number / 64) (number % 64) bare none

pub one_bare : (columns : List Column) (column : Column) → AllByRecursion IsBare columns → IsBare column → AllByRecursion IsBare (columns ++ column ∷ [])
one_bare [] column bare one = (one, tt)
one_bare (c ∷ columns) column bare one = (bare.0, one_bare columns column bare.1 one)

-- ---- placings

-- as far as an index it is said in which level each occurrence runs
pub record PlacedTo (placings : List Placing) (columns : List Column) (index : ℕ) : Type 0 where
  pub own : (stage number : ℕ) → stage < 8 → number < index → bit_of (λ column. slice_index column.own stage) columns number ≡ runs_at placings stage number
  pub own_later : (stage number : ℕ) → stage < 8 → index ≤ number → bit_of (λ column. slice_index column.own stage) columns number ≡ false
  pub standing : (stage number : ℕ) → bit_of (λ column. slice_index column.standing stage) columns number ≡ false
  pub entered : (stage number : ℕ) → bit_of (λ column. slice_index column.entered stage) columns number ≡ false
  pub first : (number : ℕ) → bit_of (λ column. column.first) columns number ≡ false

pub none_placed : (placings : List Placing) (columns : List Column) → AllByRecursion IsBare columns → PlacedTo placings columns 0
none_placed placings columns bare = record {
  own = λ stage number within below. absurd (omega arith);
  own_later = λ stage number within above. bare_bits (λ column. slice_index column.own stage) columns number bare (λ column b. b.own stage);
  standing = λ stage number. bare_bits (λ column. slice_index column.standing stage) columns number bare (λ column b. b.standing stage);
  entered = λ stage number. bare_bits (λ column. slice_index column.entered stage) columns number bare (λ column b. b.entered stage);
  first = λ number. bare_bits (λ column. column.first) columns number bare (λ column b. b.first);
}

module _ (placings : List Placing) (columns after : List Column) (index level : ℕ) (is_level : level_at placings index ≡ level) (own : (stage other : ℕ) → stage < 8 → bit_of (λ column. slice_index column.own stage) after other ≡ (bit_of (λ column. slice_index column.own stage) columns other || (nat_eq (stage + 1) level && nat_eq other index))) (standing : (stage other : ℕ) → bit_of (λ column. slice_index column.standing stage) after other ≡ bit_of (λ column. slice_index column.standing stage) columns other) (entered : (stage other : ℕ) → bit_of (λ column. slice_index column.entered stage) after other ≡ bit_of (λ column. slice_index column.entered stage) columns other) (first : (other : ℕ) → bit_of (λ column. column.first) after other ≡ bit_of (λ column. column.first) columns other) where
  and_true : (x : Bool) → (x && true) ≡ x
  and_true x = grind arith

  pub one_placed : PlacedTo placings columns index → PlacedTo placings after (index + 1)
  one_placed far = record {
    own = λ stage number within below.
        ⊎_elim
        (λ e.
        own stage number within
        ∙ ap₂ (λ a b. a || (nat_eq (stage + 1) level && b)) (far.own_later stage number within (omega arith)) (eq-eqb number index e)
        ∙ and_true (nat_eq (stage + 1) level)
        ∙ ap (λ l. nat_eq (stage + 1) l) (sym is_level)
        ∙ ap (λ n. runs_at placings stage n) (sym e))
        (λ ne.
        own stage number within
        ∙ ap (λ b. bit_of (λ column. slice_index column.own stage) columns number || (nat_eq (stage + 1) level && b)) (ne_eqb number index ne)
        ∙ sym (or_unset (bit_of (λ column. slice_index column.own stage) columns number) (nat_eq (stage + 1) level))
        ∙ far.own stage number within (omega arith))
        (cases_eq number index);
    own_later = λ stage number within above.
        own stage number within
        ∙ ap (λ b. bit_of (λ column. slice_index column.own stage) columns number || (nat_eq (stage + 1) level && b)) (ne_eqb number index (λ e. omega arith))
        ∙ sym (or_unset (bit_of (λ column. slice_index column.own stage) columns number) (nat_eq (stage + 1) level))
        ∙ far.own_later stage number within (omega arith);
    standing = λ stage number. standing stage number ∙ far.standing stage number;
    entered = λ stage number. entered stage number ∙ far.entered stage number;
    first = λ number. first number ∙ far.first number;
  }

no_level : (placings : List Placing) (number : ℕ) → length placings ≤ number → level_at placings number ≡ 0
no_level [] number past = refl
no_level (p ∷ placings) zero past = absurd (omega arith)
no_level (p ∷ placings) (suc number) past = no_level placings number (omega arith)

pub all_placed : (placings : List Placing) (columns : List Column) (index : ℕ) → length placings ≤ index → PlacedTo placings columns index → (stage number : ℕ) → stage < 8 → bit_of (λ column. slice_index column.own stage) columns number ≡ runs_at placings stage number
all_placed placings columns index past far stage number within =
    ⊎_elim
    (λ below. far.own stage number within below)
    (λ above. far.own_later stage number within above ∙ sym (ap (λ l. nat_eq (stage + 1) l) (no_level placings number (omega arith)) ∙ ne_eqb (stage + 1) 0 (λ e. omega arith)))
    (cases_lt number index)

-- ---- the end of an edge

-- as far as an index the columns are at the end of the edge, and from there on as before
pub record ColumnsTo (before now : List Column) (held flushed index : ℕ) : Type 0 where
  pub done : (k : ℕ) → k < index → IsFinishedAt held flushed (slice_get before k) (slice_get now k)
  pub left : (k : ℕ) → index ≤ k → slice_get now k ≡ slice_get before k

pub none_done : (before : List Column) (held flushed : ℕ) → ColumnsTo before before held flushed 0
none_done before held flushed = record { done = λ k below. absurd (omega arith); left = λ k above. refl }

pub one_column : (before now : List Column) (held flushed i : ℕ) (old new : Column) → i < length now → old ≡ get_or now i old → IsColumnFinished held flushed old new → ColumnsTo before now held flushed i → ColumnsTo before (slice_set now i new) held flushed (i + 1)
one_column before now held flushed i old new within read ends far = record {
  done = λ k below.
      ⊎_elim
      (λ e. subst (λ k. IsFinishedAt held flushed (slice_get before k) (slice_get (slice_set now i new) k)) (sym e)
      (subst (λ o. IsFinishedAt held flushed o (slice_get (slice_set now i new) i)) (ap Some read ∙ sym (slice_get-get_or now i old within) ∙ far.left i (omega arith))
      (subst (λ o. IsFinishedAt held flushed (Some old) o) (sym (get-set_same now i new within)) ends)))
      (λ ne. subst (λ o. IsFinishedAt held flushed (slice_get before k) o) (sym (get-set_other now i k new ne)) (far.done k (omega arith)))
      (cases_eq k i);
  left = λ k above. get-set_other now i k new (λ e. omega arith) ∙ far.left k (omega arith);
}

no_column : (before now : List Column) (held flushed k : ℕ) → length now ≡ length before → length now ≤ k → IsFinishedAt held flushed (slice_get before k) (slice_get now k)
no_column before now held flushed k same past =
    subst (λ o. IsFinishedAt held flushed o (slice_get now k)) (sym (slice_get_past before k (omega arith)))
    (subst (λ o. IsFinishedAt held flushed None o) (sym (slice_get_past now k past)) tt)

pub all_finished : (before now : List Column) (held flushed : ℕ) → length now ≡ length before → ColumnsTo before now held flushed (length now) → (k : ℕ) → IsFinishedAt held flushed (slice_get before k) (slice_get now k)
all_finished before now held flushed same far k =
    ⊎_elim (λ below. far.done k below) (λ past. no_column before now held flushed k same past) (cases_lt k (length now))

-- ---- one occurrence at the end of an edge

none_ends : (held flushed stage : ℕ) → false ≡ ends (λ s. false) (λ s. false) (λ s. false) held flushed stage
none_ends held flushed zero = refl
none_ends held flushed (suc stage) = of (is_open held flushed stage)
  where
    of : (o : Bool) → false ≡ (o && false)
    of o = grind arith

module _ (held flushed : ℕ) (before after : List Column) (each : (k : ℕ) → IsFinishedAt held flushed (slice_get before k) (slice_get after k)) where
  pub bit_ends : (stage number : ℕ) → stage < 8 → bit_of (λ column. slice_index column.standing stage) after number ≡ ends (λ s. bit_of (λ column. slice_index column.standing s) before number) (λ s. bit_of (λ column. slice_index column.own s) before number) (λ s. bit_of (λ column. slice_index column.entered s) before number) held flushed stage
  bit_ends stage number within = of (slice_get before (number / 64)) (slice_get after (number / 64)) (each (number / 64))
    where
      bit : ℕ
      bit = number % 64

      of : (b a : Option Column) → IsFinishedAt held flushed b a → at (λ column. has (slice_index column.standing stage) bit) a ≡ ends (λ s. at (λ column. has (slice_index column.standing s) bit) b) (λ s. at (λ column. has (slice_index column.own s) bit) b) (λ s. at (λ column. has (slice_index column.entered s) bit) b) held flushed stage
      of None None so = none_ends held flushed stage
      of None (Some a) so = absurd so
      of (Some b) None so = absurd so
      of (Some b) (Some a) so = so.stand stage bit within (omega arith)

  pub bit_gone : (word : Column → ℕ) (number : ℕ) → ((b a : Column) → IsColumnFinished held flushed b a → word a ≡ 0) → bit_of word after number ≡ false
  bit_gone word number gone = of (slice_get before (number / 64)) (slice_get after (number / 64)) (each (number / 64))
    where
      of : (b a : Option Column) → IsFinishedAt held flushed b a → at (λ column. has (word column) (number % 64)) a ≡ false
      of None None so = refl
      of None (Some a) so = absurd so
      of (Some b) None so = absurd so
      of (Some b) (Some a) so = ap (λ w. has w (number % 64)) (gone b a so) ∙ has_none (number % 64)

  pub bit_kept : (word : Column → ℕ) (number : ℕ) → ((b a : Column) → IsColumnFinished held flushed b a → word a ≡ word b) → bit_of word after number ≡ bit_of word before number
  bit_kept word number same = of (slice_get before (number / 64)) (slice_get after (number / 64)) (each (number / 64))
    where
      of : (b a : Option Column) → IsFinishedAt held flushed b a → at (λ column. has (word column) (number % 64)) a ≡ at (λ column. has (word column) (number % 64)) b
      of None None so = refl
      of None (Some a) so = absurd so
      of (Some b) None so = absurd so
      of (Some b) (Some a) so = ap (λ w. has w (number % 64)) (same b a so)

-- ---- what is due

pub due_first : (column : Column) (stage bit : ℕ) → stage ≡ 0 → has (bit_and (slice_index column.own 0) (bit_or (slice_index column.standing 0) column.first)) bit ≡ due_in column stage bit
due_first column stage bit e =
    has_and (slice_index column.own 0) (bit_or (slice_index column.standing 0) column.first) bit
    ∙ ap (λ b. has (slice_index column.own 0) bit && b) (has_or (slice_index column.standing 0) column.first bit)
    ∙ ap (λ s. due_in column s bit) (sym e)

pub due_later : (column : Column) (stage bit : ℕ) → stage ≢ 0 → has (bit_and (slice_index column.own stage) (slice_index column.standing stage)) bit ≡ due_in column stage bit
due_later column stage bit ne =
    has_and (slice_index column.own stage) (slice_index column.standing stage) bit
    ∙ ap (λ b. has (slice_index column.own stage) bit && b)
    (or_none (has (slice_index column.standing stage) bit)
    ∙ ap (λ b. has (slice_index column.standing stage) bit || (b && has column.first bit)) (sym (ne_eqb stage 0 ne)))

-- up to a column none is due
abbrev pub NoneDue : List Column → ℕ → ℕ → ℕ → Type 0
NoneDue columns stage first place = (number : ℕ) → first ≤ number → number < place * 64 → due_at columns stage number ≡ false

pub none_past : (columns : List Column) (stage first place : ℕ) → length columns ≤ place → NoneDue columns stage first place → (number : ℕ) → first ≤ number → due_at columns stage number ≡ false
none_past columns stage first place past none number above =
    ⊎_elim
    (λ below. none number above below)
    (λ far. ap (at (λ column. due_in column stage (number % 64))) (slice_get_past columns (number / 64) (omega arith)))
    (cases_lt number (place * 64))

module _ (columns : List Column) (stage first place word from : ℕ) (here : (number : ℕ) → number / 64 ≡ place → due_at columns stage number ≡ has word (number % 64)) (start : (number : ℕ) → number / 64 ≡ place → (first ≤ number) ↔ (from ≤ number % 64)) (before : NoneDue columns stage first place) where
  pub none_here : ((bit : ℕ) → from ≤ bit → bit < 64 → has word bit ≡ false) → NoneDue columns stage first (place + 1)
  none_here none number above below =
      ⊎_elim
      (λ earlier. before number above earlier)
      (λ later.
      let e : number / 64 ≡ place = omega arith in
      here number e ∙ none (number % 64) ((start number e).0 above) (omega arith))
      (cases_lt number (place * 64))

  pub found_here : (bit : ℕ) → from ≤ bit → bit < 64 → has word bit ≡ true → ((b : ℕ) → from ≤ b → b < bit → has word b ≡ false) → (first ≤ place * 64 + bit) × (due_at columns stage (place * 64 + bit) ≡ true) × ((number : ℕ) → first ≤ number → number < place * 64 + bit → due_at columns stage number ≡ false)
  found_here bit low high is least =
      let number = place * 64 + bit in
      let at_place : number / 64 ≡ place = omega arith in
      let at_bit : number % 64 ≡ bit = omega arith in (
        (start number at_place).1 (omega arith),
        here number at_place ∙ ap (has word) at_bit ∙ is,
        λ other above below.
            ⊎_elim
            (λ earlier. before other above earlier)
            (λ later.
            let e : other / 64 ≡ place = omega arith in
            here other e ∙ least (other % 64) ((start other e).0 above) (omega arith))
            (cases_lt other (place * 64)),
      )
