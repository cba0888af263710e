-- One reference after another is done.
use Rattle.std.proofs.Common.{◌≡◌, ◌≢◌, ◌<◌, ◌||◌, ℕ, zero, suc, List, [], ◌∷◌, Bool, true, false, cond, Some, nat_eq, length, set, replicate, refl, ap, sym, ◌∙◌, arith, subst, ⊎_elim}
use Rattle.std.specs.List.Sorted.{IsStrictlyIncreasing}
use Rattle.std.specs.Global.{Vec}
use Rattle.std.proofs.Math.Dec.{eqb-suc-suc, eqb-suc-zero}
use Rattle.std.proofs.lemmas.Bool.{cases_eq, eq-eqb, ne_eqb}
use Rattle.std.proofs.lemmas.List.{length-set}
use Rattle.lisa_tree.specs.Descriptions.{DescriptionTree}
use Rattle.graph_paths.specs.Paths.{targets, is_in, saw}
use Rattle.graph_paths.proofs.Seen.{saw-set}
use Rattle.lisa_tree.specs.declared.declared.What.TheVariants as whats
use Rattle.lisa_tree.specs.Declarations.{entries, what_at}
use Rattle.text_counts.specs.References.{MayMean, AreMeanings}
use Rattle.text_counts.specs.Gathering.{IsGathered}
use Rattle.text_counts.proofs.Leading.{declared}

targets-set : (rows : List (Vec ℕ)) (k : ℕ) (v : Vec ℕ) (a : ℕ) → k < length rows → targets (set rows k v) a ≡ cond (nat_eq a k) v.items (targets rows a)
targets-set [] k v a h = absurd (omega arith)
targets-set (w ∷ rows) zero v zero h = grind arith
targets-set (w ∷ rows) zero v (suc a) h = grind (arith, eqb-suc-zero)
targets-set (w ∷ rows) (suc k) v zero h = grind (arith, eqb-suc-zero)
targets-set (w ∷ rows) (suc k) v (suc a) h = rw (eqb-suc-suc a k) (targets-set rows k v a (omega arith))

saw_nothing : (n b : ℕ) → saw (replicate n false) b ≡ false
saw_nothing zero b = refl
saw_nothing (suc n) zero = refl
saw_nothing (suc n) (suc b) = saw_nothing n b

pub saw_still : (done : List Bool) (i k : ℕ) → i < length done → saw done k ≡ true → saw (set done i true) k ≡ true
saw_still done i k h e = saw-set done i k h ∙ ap (λ (b : Bool). b || nat_eq k i) e

pub saw_now : (done : List Bool) (i : ℕ) → i < length done → saw (set done i true) i ≡ true
saw_now done i h = saw-set done i i h ∙ ap (λ (b : Bool). saw done i || b) (eq-eqb i i refl) ∙ at (saw done i)
  where
    at : (b : Bool) → (b || true) ≡ true
    at true = refl
    at false = refl

module _ (d : DescriptionTree) where
  pub nothing_gathered : (lists : List (Vec ℕ)) (done : List Bool) (n : ℕ) → n ≡ length (entries d) → length lists ≡ n → ((i : ℕ) → targets lists i ≡ []) → done ≡ replicate n false → length done ≡ n
      → IsGathered d lists done
  nothing_gathered lists done n is len none new flags = record {
    count = len ∙ is;
    flags = flags ∙ is;
    rising = λ i. subst IsStrictlyIncreasing (sym (none i)) (λ k h. absurd (omega (arith, h)));
    sound = λ i a r e. absurd (cc (sym (ap (is_in a) (none i)) ∙ e));
    whole = λ i a r on m. absurd (cc (sym (ap (λ (l : List Bool). saw l i) new ∙ saw_nothing n i) ∙ on));
  }

  pub one_done : (lists : List (Vec ℕ)) (done : List Bool) → IsGathered d lists done → (i : ℕ) → what_at d i ≡ Some whats.Reference → (v : Vec ℕ) → IsStrictlyIncreasing v.items
      → ((a : ℕ) → is_in a v.items ≡ true → MayMean d i a) → ((a : ℕ) → MayMean d i a → is_in a v.items ≡ true)
      → IsGathered d (set lists i v) (set done i true)
  one_done lists done g i is v up sound whole = record {
    count = length-set lists i v ∙ g.count;
    flags = length-set done i true ∙ g.flags;
    rising = λ k. ⊎_elim (λ s. subst IsStrictlyIncreasing (sym (row_new k s)) up) (λ ne. subst IsStrictlyIncreasing (sym (row_old k ne)) (g.rising k)) (cases_eq k i);
    sound = λ k a r e. ⊎_elim
        (λ (s : k ≡ i). subst (λ (z : ℕ). MayMean d z a) (sym s) (sound a (sym (ap (is_in a) (row_new k s)) ∙ e)))
        (λ ne. g.sound k a r (sym (ap (is_in a) (row_old k ne)) ∙ e))
        (cases_eq k i);
    whole = λ k a r on m. ⊎_elim
        (λ (s : k ≡ i). ap (is_in a) (row_new k s) ∙ whole a (subst (λ (z : ℕ). MayMean d z a) s m))
        (λ ne. ap (is_in a) (row_old k ne) ∙ g.whole k a r (seen k ne on) m)
        (cases_eq k i);
  }
    where
      there : i < length (entries d)
      there = declared d i whats.Reference is

      in_lists : i < length lists
      in_lists = let c = g.count in let t = there in omega (arith, c, t)

      in_done : i < length done
      in_done = let c = g.flags in let t = there in omega (arith, c, t)

      row_new : (k : ℕ) → k ≡ i → targets (set lists i v) k ≡ v.items
      row_new k s = targets-set lists i v k in_lists ∙ ap (λ (b : Bool). cond b v.items (targets lists k)) (eq-eqb k i s)

      row_old : (k : ℕ) → k ≢ i → targets (set lists i v) k ≡ targets lists k
      row_old k ne = targets-set lists i v k in_lists ∙ ap (λ (b : Bool). cond b v.items (targets lists k)) (ne_eqb k i ne)

      seen : (k : ℕ) → k ≢ i → saw (set done i true) k ≡ true → saw done k ≡ true
      seen k ne on =
          let e = saw-set done i k in_done in
          let off : nat_eq k i ≡ false = ne_eqb k i ne in
          grind (arith, e, off, on)

  pub all_done : (lists : List (Vec ℕ)) (done : List Bool) → IsGathered d lists done → ((i : ℕ) → i < length (entries d) → what_at d i ≡ Some whats.Reference → saw done i ≡ true)
      → AreMeanings d (targets lists)
  all_done lists done g all = record {
    rising = λ i is. g.rising i;
    exact = λ i a is. (g.sound i a is, g.whole i a is (all i (declared d i whats.Reference is) is));
  }
