-- What a ledger is worth once its names are unfolded.
use Rattle.std.proofs.Common.{◌≡◌, ◌<◌, ◌≤◌, ◌+◌, ◌-◌, ◌*◌, ℕ, zero, suc, List, [], ◌∷◌, length, get_or, drop, refl, ap, ap₂, sym, ◌∙◌, arith}
use Rattle.std.specs.Prelude.{sum_by}
use Rattle.std.proofs.lemmas.List.Sums.{sum_by-cons}
use Rattle.lisa_tree.specs.Descriptions.{DescriptionTree}
use Rattle.access_counts.specs.declared.ledger.Ledger.{Ledger}
use Rattle.access_counts.specs.Unfolded.{Counted, counted_within, text_accesses}
use Rattle.access_counts.specs.Ledgers.{Prices, capped, worth, worth_from, ledger_worth, HasRoom, IsAdded, Gains}
use Rattle.access_counts.specs.Rounds.{Rates, prices_by, bare, access_of, priced, texts_priced, IsUnfolded, worth_within}
use Rattle.access_counts.proofs.Worth.{capped_more, capped_both, from_drop, from_past, free, all_worth, one_worth}

-- ---- three counts of each operation

three_gains : (now a b next x y z x' y' z' : ℕ) → Gains now x a → Gains a y b → Gains b z next → capped (next + (x' + (y' + z'))) ≡ capped (now + ((x + x') + ((y + y') + (z + z'))))
three_gains now a b next x y z x' y' z' f g h =
    let one : capped b ≡ capped (now + x + y) = g.same ∙ capped_more a (now + x) y f.same in
    let two : capped next ≡ capped (now + x + y + z) = h.same ∙ capped_more b (now + x + y) z one in
    capped_more next (now + x + y + z) (x' + (y' + z')) two
    ∙ ap capped (let e : now + x + y + z + (x' + (y' + z')) ≡ now + ((x + x') + ((y + y') + (z + z'))) = omega arith in e)

module _ (f g h : ℕ → ℕ) (xs ys zs : List ℕ) (i : ℕ) where
  abbrev pub left_worth : ℕ
  left_worth = worth_from f i (drop i xs) + (worth_from g i (drop i ys) + worth_from h i (drop i zs))

  pub one_operation : (now a b next goal : ℕ) → i < length xs → i < length ys → i < length zs
      → Gains now (get_or xs i 0 * f i) a → Gains a (get_or ys i 0 * g i) b → Gains b (get_or zs i 0 * h i) next
      → capped (now + left_worth) ≡ goal
      → capped (next + (worth_from f (i + 1) (drop (i + 1) xs) + (worth_from g (i + 1) (drop (i + 1) ys) + worth_from h (i + 1) (drop (i + 1) zs)))) ≡ goal
  one_operation now a b next goal l m n p q r e =
      three_gains now a b next _ _ _ _ _ _ p q r
      ∙ ap (λ (k : ℕ). capped (now + k)) (ap₂ (λ (k j : ℕ). k + j) (sym (from_drop f xs i l)) (ap₂ (λ (k j : ℕ). k + j) (sym (from_drop g ys i m)) (sym (from_drop h zs i n))))
      ∙ e

  pub all_operations : (now goal : ℕ) → length xs ≤ i → length ys ≤ i → length zs ≤ i → capped (now + left_worth) ≡ goal → capped now ≡ goal
  all_operations now goal l m n e =
      let a = from_past f i i xs l in
      let b = from_past g i i ys m in
      let c = from_past h i i zs n in
      ap capped (let z : now ≡ now + left_worth = omega (arith, a, b, c) in z) ∙ e

-- ---- one round

gathered : (new start r w v p u x y z : ℕ) → start ≡ r + (w + (0 + (0 + 0))) → capped new ≡ capped (start + (x + (y + z))) → capped x ≡ capped v → capped y ≡ capped p → capped z ≡ capped u
    → capped new ≡ capped (r + (w + (v + (p + u))))
gathered new start r w v p u x y z is e f g h =
    let names : capped (x + (y + z)) ≡ capped (v + (p + u)) = capped_both x v (y + z) (p + u) f (capped_both y p z u g h) in
    e
    ∙ capped_both start (r + w) (x + (y + z)) (v + (p + u)) (ap capped (let s : start ≡ r + w = omega (arith, is) in s)) names
    ∙ ap capped (let s : r + w + (v + (p + u)) ≡ r + (w + (v + (p + u))) = omega arith in s)

module _ (d : DescriptionTree) (chosen : ℕ → List ℕ) where
  -- what is due stands for what is used
  abbrev pub IsDue : List ℕ → List ℕ → Type 0
  IsDue uses due = (price : ℕ → ℕ) → capped (worth price due) ≡ capped (worth (λ i. sum_by price (chosen i)) uses)

  pub round_unfolds : (old start new : Ledger) (read assigned run : List ℕ) → HasRoom d new
      → IsDue old.values.items read → IsDue old.places.items assigned → IsDue old.runs.items run
      → ((p : Prices) → ledger_worth p start ≡ worth p.read old.reads.items + (worth p.write old.writes.items + (0 + (0 + 0))))
      → ((p : Prices) → Gains (ledger_worth p start) (worth (λ b. (priced d p b).read) read + (worth (λ b. (priced d p b).assigned) assigned + worth (λ b. (priced d p b).run) run)) (ledger_worth p new))
      → IsUnfolded d chosen old new
  round_unfolds old start new read assigned run room x y z is more = record {
    room = room;
    same = λ rates counted.
        let p = prices_by chosen rates counted in
        gathered (ledger_worth p new) (ledger_worth p start) (worth p.read old.reads.items) (worth p.write old.writes.items) _ _ _ _ _ _
        (is p) ((more p).same) (x (λ b. (priced d p b).read)) (y (λ b. (priced d p b).assigned)) (z (λ b. (priced d p b).run));
  }

  -- ---- several rounds

  pub one_level : (levels i : ℕ) (start old new : Ledger) (rates : Rates) → i < levels → IsUnfolded d chosen old new
      → capped (worth_within (levels - i) d chosen rates old) ≡ capped (worth_within levels d chosen rates start)
      → capped (worth_within (levels - (i + 1)) d chosen rates new) ≡ capped (worth_within levels d chosen rates start)
  one_level levels i start old new rates h u e =
      let k = levels - (i + 1) in
      let n : suc k ≡ levels - i = omega (arith, h) in
      u.same rates (counted_within k d chosen (access_of d rates))
      ∙ ap (λ (m : ℕ). capped (worth_within m d chosen rates old)) n
      ∙ e

  names_free : (p : Prices) (rates : Rates) (l : Ledger) → worth p.value l.values.items ≡ 0 → worth p.place l.places.items ≡ 0 → worth p.run l.runs.items ≡ 0
      → worth rates.read l.reads.items + (worth rates.write l.writes.items + (worth p.value l.values.items + (worth p.place l.places.items + worth p.run l.runs.items)))
      ≡ worth rates.read l.reads.items + (worth rates.write l.writes.items + 0)
  names_free p rates l a b c = ap (λ (n : ℕ). worth rates.read l.reads.items + (worth rates.write l.writes.items + n)) (omega (arith, a, b, c))

  bare_worth : (rates : Rates) (l : Ledger) → ledger_worth (bare rates) l ≡ worth rates.read l.reads.items + (worth rates.write l.writes.items + 0)
  bare_worth rates l = names_free (bare rates) rates l (free (λ i. 0) 0 l.values.items (λ k. refl)) (free (λ i. 0) 0 l.places.items (λ k. refl)) (free (λ i. 0) 0 l.runs.items (λ k. refl))

  no_sum : (xs : List ℕ) → sum_by (λ (b : ℕ). 0) xs ≡ 0
  no_sum [] = refl
  no_sum (x ∷ xs) = sum_by-cons (λ (b : ℕ). 0) x xs ∙ (let e = no_sum xs in let f : 0 + sum_by (λ (b : ℕ). 0) xs ≡ 0 = omega (arith, e) in f)

  pub no_level : (rates : Rates) (l : Ledger) → ledger_worth (bare rates) l ≡ worth_within 0 d chosen rates l
  no_level rates l =
      bare_worth rates l
      ∙ sym (names_free (prices_by chosen rates (counted_within 0 d chosen (access_of d rates))) rates l
      (free _ 0 l.values.items (λ k. no_sum (chosen k))) (free _ 0 l.places.items (λ k. no_sum (chosen k))) (free _ 0 l.runs.items (λ k. no_sum (chosen k))))

  pub nothing_left : (k : ℕ) (rates : Rates) (l : Ledger) → ((price : ℕ → ℕ) → worth price l.values.items ≡ 0) → ((price : ℕ → ℕ) → worth price l.places.items ≡ 0) → ((price : ℕ → ℕ) → worth price l.runs.items ≡ 0)
      → ledger_worth (bare rates) l ≡ worth_within k d chosen rates l
  nothing_left k rates l a b c =
      bare_worth rates l
      ∙ sym (names_free (prices_by chosen rates (counted_within k d chosen (access_of d rates))) rates l (a _) (b _) (c _))

  pub levels_done : (levels i : ℕ) (start l : Ledger) (rates : Rates) → levels ≤ i
      → capped (worth_within (levels - i) d chosen rates l) ≡ capped (worth_within levels d chosen rates start)
      → capped (ledger_worth (bare rates) l) ≡ capped (worth_within levels d chosen rates start)
  levels_done levels i start l rates h e =
      ap capped (no_level rates l)
      ∙ ap (λ (m : ℕ). capped (worth_within m d chosen rates l)) (let z : 0 ≡ levels - i = omega (arith, h) in z)
      ∙ e
