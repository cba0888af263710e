-- What holds in the middle of a run.
use Rattle.std.proofs.Common.{◌≡◌, ℕ, suc, ◌+◌, ◌-◌, ◌*◌, ◌<◌, ◌≤◌, List, length, drop, get_or, sym, ap, ◌∙◌, subst, arith}
use Rattle.std.proofs.lemmas.List.{drop_more}
use Rattle.shape_checks.specs.declared.bounds.Bounds.{Bounds}
use Rattle.typed_values.specs.Effects.{turned}
use Rattle.behavior_plans.specs.declared.acts.Act.{Act}
use Rattle.behavior_plans.specs.Acts.{ActTrees, Then, act_tree, act_trees}
use Rattle.behavior_plans.specs.Holdings.{Holdings}
use Rattle.behavior_plans.specs.declared.store.Store.{Store}
use Rattle.behavior_plans.specs.Effects.{act_effect, acts_effect, act_writes, acts_writes}
use Rattle.behavior_plans.specs.Stores.{holdings_of, untouched, AreThere, Leaves}

-- what is left to run takes the store to the same end, within the touches that there may be
pub record Midway (start now : Store) (left end : Holdings) (writes_left writes : ℕ) : Type 0 where
  pub holdings : left ≡ end
  pub untouched_same : start.count + writes ≤ length start.touched.items → untouched now ≡ untouched start
  pub touches : now.count + writes_left ≤ start.count + writes
  pub room : length now.touched.items ≡ length start.touched.items
  pub places : AreThere start → AreThere now

pub leaves_as : {old new : Store} {a b : Holdings} {v w : ℕ} → a ≡ b → v ≡ w → Leaves old new a v → Leaves old new b w
leaves_as {old = old} {new = new} {b = b} {v = v} h k is = subst (λ n. Leaves old new b n) k (subst (λ (x : Holdings). Leaves old new x v) h is)

-- more touches may be allowed
pub leaves_more : {old new : Store} {a : Holdings} {v w : ℕ} → v ≤ w → Leaves old new a v → Leaves old new a w
leaves_more h is = record {
  holdings = is.holdings;
  untouched_same = λ fits. is.untouched_same (omega (arith, h, fits));
  touches = omega (arith, h, is.touches);
  room = is.room;
  places = is.places;
}

-- behind what notes nothing
pub leaves_behind : {a b c : Store} {one two : Holdings} {w : ℕ} → Leaves a b one 0 → Leaves b c two w → Leaves a c two w
leaves_behind x y = record {
  holdings = y.holdings;
  untouched_same = λ fits. y.untouched_same (omega (arith, fits, x.touches, x.room)) ∙ x.untouched_same (omega (arith, fits));
  touches = omega (arith, x.touches, y.touches);
  room = y.room ∙ x.room;
  places = λ there. y.places (x.places there);
}

acts_split : (all : List Act) (i : ℕ) (a : Act) → i < length all → a ≡ get_or all i a → act_trees (drop i all) ≡ Then (act_tree a) (act_trees (drop (i + 1) all))
acts_split all i a h is = ap act_trees (drop_more all i a h) ∙ ap (λ (x : Act). Then (act_tree x) (act_trees (drop (i + 1) all))) (sym is)

pub act_left : (all : List Act) (i : ℕ) (a : Act) (start now new : Store) (end : Holdings) (writes : ℕ) → i < length all → a ≡ get_or all i a
    → Midway start now (acts_effect (act_trees (drop i all)) (holdings_of now)) end (acts_writes (act_trees (drop i all))) writes
    → Leaves now new (act_effect (act_tree a) (holdings_of now)) (act_writes (act_tree a))
    → Midway start new (acts_effect (act_trees (drop (i + 1) all)) (holdings_of new)) end (acts_writes (act_trees (drop (i + 1) all))) writes
act_left all i a start now new end writes h item is leaves =
    let split = acts_split all i a h item in
    let count : acts_writes (act_trees (drop i all)) ≡ act_writes (act_tree a) + acts_writes (act_trees (drop (i + 1) all)) = ap acts_writes split in
    record {
      holdings = ap (acts_effect (act_trees (drop (i + 1) all))) leaves.holdings ∙ sym (ap (λ (ts : ActTrees). acts_effect ts (holdings_of now)) split) ∙ is.holdings;
      untouched_same = λ fits. leaves.untouched_same (omega (arith, count, is.touches, is.room, fits)) ∙ is.untouched_same fits;
      touches = omega (arith, count, is.touches, leaves.touches);
      room = leaves.room ∙ is.room;
      places = λ there. leaves.places (is.places there);
    }

one_less : (n k : ℕ) → k < n → n - k ≡ suc (n - (k + 1))
one_less n k h = omega arith

turns_less : (n k w : ℕ) → k < n → (n - k) * w ≡ w + (n - (k + 1)) * w
turns_less n k w h = ap (λ j. j * w) (one_less n k h) ∙ omega arith

pub turn_left : (turn : ℕ → Holdings → Holdings) (b : Bounds) (n k w : ℕ) (start now new : Store) (end : Holdings) → k < n
    → Midway start now (turned turn b k (n - k) (holdings_of now)) end ((n - k) * w) (n * w)
    → Leaves now new (turn (b.first + k * b.step) (holdings_of now)) w
    → Midway start new (turned turn b (k + 1) (n - (k + 1)) (holdings_of new)) end ((n - (k + 1)) * w) (n * w)
turn_left turn b n k w start now new end h is leaves =
    let count : (n - k) * w ≡ w + (n - (k + 1)) * w = turns_less n k w h in
    record {
      holdings = ap (λ (m : Holdings). turned turn b (k + 1) (n - (k + 1)) m) leaves.holdings ∙ ap (λ left. turned turn b k left (holdings_of now)) (sym (one_less n k h)) ∙ is.holdings;
      untouched_same = λ fits. leaves.untouched_same (omega (arith, count, is.touches, is.room, fits)) ∙ is.untouched_same fits;
      touches = omega (arith, count, is.touches, leaves.touches);
      room = leaves.room ∙ is.room;
      places = λ there. leaves.places (is.places there);
    }
