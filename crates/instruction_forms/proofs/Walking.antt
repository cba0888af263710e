-- Going over the items of a coding.
use Rattle.std.proofs.Common.{◌≡◌, ◌<◌, ◌≤◌, ◌+◌, ◌*◌, ◌-◌, ◌/◌, ◌%◌, ◌^◌, ℕ, List, ◌∷◌, Option, Some, length, drop, get_or, min, refl, sym, ap, ◌∙◌, arith, subst}
use native.Mathlib.Nat.{mod-lt, mul-div_cancel_left, div-lt_iff_lt-mul}
use Rattle.std.specs.Prelude.{unwrap_or}
use Rattle.std.proofs.lemmas.Option.{slice_get_within}
use Rattle.lisa_tree.specs.declared.descriptions.Pattern.{Pattern}
use Rattle.lisa_tree.specs.declared.descriptions.CodingItem.{CodingItem}
use Rattle.lisa_tree.specs.declared.descriptions.CodingItem.TheVariants as items
use Rattle.lisa_tree.specs.Descriptions.{DescriptionTree}
use Rattle.lisa_tree.specs.Declarations.{choices, alternatives_at}
use Rattle.lisa_tree.specs.Paths.{choice_node}
use Rattle.coding_tables.specs.coding_checks.Widths.{choice_named, capped}
use Rattle.coding_tables.specs.Codings.{pattern_digits, choice_alternatives, child_alternatives, items_of}
use Rattle.coding_tables.specs.Instructions.{below_count, total, AreFormCounts}
use Rattle.coding_tables.proofs.Counted.{product_digits}
use Rattle.coding_tables.proofs.Owning.{owned}
use Rattle.coding_tables.proofs.Ways.{in_is}
use Rattle.coding_tables.proofs.description_graph_proofs.Lists as lists
use Rattle.coding_tables.proofs.description_graph_proofs.Nodes.{alternatives_below}
use Rattle.instruction_forms.specs.declared.picking.Pick.{Pick}
use Rattle.instruction_forms.specs.declared.picking.Walk.{Walk}
use Rattle.instruction_forms.specs.Picks.{pick, told, left, item_span, span, child_picks, IsWalk}
use Rattle.instruction_forms.proofs.Nth.{pick_told}
use Rattle.instruction_forms.proofs.Picked.{some_left, in_total, no_fewer, no_more, factor_some}

-- ---- a child

pub told_few : (n : ℕ) → n ≤ 1024 → unwrap_or (Some (capped n)) 0 ≡ n
told_few n h = let e : min n (2 ^ 64 - 1) ≡ n = omega arith in e

-- the forms of a child's alternatives are told as they are
pub record Told (d : DescriptionTree) (table : ℕ → Option ℕ) (c m : ℕ) : Type 0 where
  pub some : 0 < told table (choice_node d c)
  pub left : (n : ℕ) → n ≡ total (below_count d) (alternatives_at d c) * m → n / told table (choice_node d c) ≡ m
  pub rest : 0 < m
  pub within : (number : ℕ) → number < total (below_count d) (alternatives_at d c) * m → number / m < total (below_count d) (alternatives_at d c)
  pub same : (q low : ℕ) → pick (told table) (alternatives_at d c) q low ≡ pick (below_count d) (alternatives_at d c) q low

pub told_child : (d : DescriptionTree) (table : ℕ → Option ℕ) → AreFormCounts d table → (c m number : ℕ) → c < length (choices d)
    → total (below_count d) (alternatives_at d c) * m ≤ 1024 → number < total (below_count d) (alternatives_at d c) * m → Told d table c m
told_child d table counts c m number h few within =
    let all = total (below_count d) (alternatives_at d c) in
    let rest = some_left all m number within in
    let l = no_fewer all m rest in
    let e : told table (choice_node d c) ≡ all = ap (λ (x : Option ℕ). unwrap_or x 0) (counts.choosing c h) ∙ told_few all (omega (arith, l, few)) in
    let some = factor_some all m number within in
    record {
      some = omega (arith, e, some);
      left = λ n is. ap (λ (k : ℕ). n / k) e ∙ ap (λ (k : ℕ). k / all) is ∙ mul-div_cancel_left m some;
      rest = rest;
      within = λ k i. (div-lt_iff_lt-mul rest).1 i;
      same = λ q low. pick_told (told table) (below_count d) (alternatives_at d c) q low (λ k i.
          let t = in_total (below_count d) (alternatives_at d c) k i in
          ap (λ (x : Option ℕ). unwrap_or x 0) (counts.operations k (alternatives_below d c k (in_is k (alternatives_at d c) i))) ∙ told_few (below_count d k) (omega (arith, t, l, few)));
    }

-- what the next child is taken from
pub record Taken (d : DescriptionTree) (table : ℕ → Option ℕ) (o : ℕ) (n : List ℕ) (c left : ℕ) : Type 0 where
  pub some : 0 < left / told table (choice_node d c)
  pub rest : (m : ℕ) → left ≡ total (below_count d) (child_alternatives d o n) * m → left / told table (choice_node d c) ≡ m
  pub same : (q low : ℕ) → pick (told table) (alternatives_at d c) q low ≡ pick (below_count d) (child_alternatives d o n) q low

pub taken : (d : DescriptionTree) (table : ℕ → Option ℕ) → AreFormCounts d table → (o : ℕ) (n : List ℕ) (c : ℕ) → choice_named d o n ≡ Some c → (left m number : ℕ)
    → left ≡ total (below_count d) (child_alternatives d o n) * m → number < left → left ≤ 1024 → Taken d table o n c left
taken d table counts o n c named left m number is within few =
    let own = owned d o n c named in
    let h = slice_get_within (choices d) c own.chosen own.is in
    let at : child_alternatives d o n ≡ alternatives_at d c = ap (choice_alternatives d) named in
    let to : (k : ℕ) → left ≡ total (below_count d) (child_alternatives d o n) * k → left ≡ total (below_count d) (alternatives_at d c) * k = λ k e. e ∙ ap (λ (ks : List ℕ). total (below_count d) ks * k) at in
    let child : (k : ℕ) → left ≡ total (below_count d) (alternatives_at d c) * k → Told d table c k = λ k e. told_child d table counts c k number h (let f : left ≡ total (below_count d) (alternatives_at d c) * k = e in omega (arith, f, few)) (let f : left ≡ total (below_count d) (alternatives_at d c) * k = e in omega (arith, f, within)) in
    let t = child m (to m is) in
    let quotient = t.left left (to m is) in
    let some = t.rest in
    record {
      some = omega (arith, quotient, some);
      rest = λ k e. (child k (to k e)).left left (to k e);
      same = λ q low. t.same q low ∙ ap (λ (ks : List ℕ). pick (below_count d) ks q low) (sym at);
    }

-- ---- steps

pub span_at : (known : ℕ → Option ℕ) (d : DescriptionTree) (o : ℕ) (all : List CodingItem) (i : ℕ) (item : CodingItem) → i < length all → item ≡ get_or all i item
    → span known d o (drop i all) ≡ item_span known d o item + span known d o (drop (i + 1) all)
span_at known d o all i item h is = ap (span known d o) (lists.one_more all i item h is)

pub span_fits : (known : ℕ → Option ℕ) (d : DescriptionTree) (o low : ℕ) (all : List CodingItem) (i : ℕ) (item : CodingItem) (w : Walk) → i < length all → item ≡ get_or all i item
    → IsWalk known d o low (drop i all) w → item_span known d o item < 2 ^ 32
span_fits known d o low all i item w h is walk =
    let s = span_at known d o all i item h is in
    let high = walk.is_high in
    let most = walk.most in
    omega (arith, s, high, most)

module _ (known : ℕ → Option ℕ) (d : DescriptionTree) (o low : ℕ) (rest : List CodingItem) where
  pub child_walk : (n : List ℕ) (w v : Walk) → IsWalk known d o low (items.Child n ∷ rest) w → v.left ≡ left d o rest → v.number ≡ w.number % v.left → v.high ≡ w.high - item_span known d o (items.Child n)
      → IsWalk known d o low rest v
  child_walk n w v walk at number high =
      let top = total (below_count d) (child_alternatives d o n) in
      let m = left d o rest in
      let is = walk.is_left in
      let few = walk.few in
      let within = walk.within in
      let i : w.number < top * m = omega (arith, is, within) in
      let some = some_left top m w.number i in
      let l = no_more top m w.number i in
      let r = mod-lt w.number some in
      let e : v.number ≡ w.number % m = number ∙ ap (λ (k : ℕ). w.number % k) at in
      let h = walk.is_high in
      record {
        within = omega (arith, r, e, at);
        few = omega (arith, l, is, few, at);
        is_left = at;
        is_high = omega (arith, h, high);
        most = (let t = walk.most in omega (arith, t, high));
      }

  pub other_walk : (item : CodingItem) (w v : Walk) → IsWalk known d o low (item ∷ rest) w → left d o (item ∷ rest) ≡ left d o rest → v.left ≡ w.left → v.number ≡ w.number → v.high ≡ w.high - item_span known d o item
      → IsWalk known d o low rest v
  other_walk item w v walk same at number high =
      let a = walk.within in
      let b = walk.few in
      let c = walk.is_left in
      let h = walk.is_high in
      record { within = omega (arith, a, at, number); few = omega (arith, b, at); is_left = omega (arith, c, same, at); is_high = omega (arith, h, high); most = (let t = walk.most in omega (arith, t, high)) }

module _ (known : ℕ → Option ℕ) (d : DescriptionTree) (o low : ℕ) (all : List CodingItem) (i : ℕ) (item : CodingItem) (h : i < length all) (at : item ≡ get_or all i item) where
  opened : (item' : CodingItem) → item ≡ item' → drop i all ≡ item' ∷ drop (i + 1) all
  opened item' e = lists.one_more all i item h at ∙ ap (λ (x : CodingItem). x ∷ drop (i + 1) all) e

  opened_walk : (item' : CodingItem) → item ≡ item' → (w : Walk) → IsWalk known d o low (drop i all) w → IsWalk known d o low (item' ∷ drop (i + 1) all) w
  opened_walk item' e w walk = subst (λ (xs : List CodingItem). IsWalk known d o low xs w) (opened item' e) walk

  lower : (item' : CodingItem) → item ≡ item' → (w v : Walk) (k : ℕ) → k ≡ item_span known d o item → v.high ≡ w.high - k → v.high ≡ w.high - item_span known d o item'
  lower item' e w v k f high = high ∙ ap (λ (z : ℕ). w.high - z) (f ∙ ap (item_span known d o) e)

  pub past_bits : (pattern : Pattern) → item ≡ items.Bits pattern → (w v : Walk) (k : ℕ) → k ≡ item_span known d o item → IsWalk known d o low (drop i all) w
      → v.left ≡ w.left → v.number ≡ w.number → v.high ≡ w.high - k → IsWalk known d o low (drop (i + 1) all) v
  past_bits pattern e w v k f walk a b c =
      other_walk known d o low (drop (i + 1) all) (items.Bits pattern) w v (opened_walk (items.Bits pattern) e w walk) (product_digits (below_count d) (pattern_digits pattern) (items_of d o (drop (i + 1) all))) a b (lower (items.Bits pattern) e w v k f c)

  pub past_field : (n : List ℕ) (pattern : Pattern) → item ≡ items.Field n pattern → (w v : Walk) (k : ℕ) → k ≡ item_span known d o item → IsWalk known d o low (drop i all) w
      → v.left ≡ w.left → v.number ≡ w.number → v.high ≡ w.high - k → IsWalk known d o low (drop (i + 1) all) v
  past_field n pattern e w v k f walk a b c =
      other_walk known d o low (drop (i + 1) all) (items.Field n pattern) w v (opened_walk (items.Field n pattern) e w walk) refl a b (lower (items.Field n pattern) e w v k f c)

  pub past_child : (n : List ℕ) → item ≡ items.Child n → (w v : Walk) (k : ℕ) → k ≡ item_span known d o item → IsWalk known d o low (drop i all) w
      → ((m : ℕ) → w.left ≡ total (below_count d) (child_alternatives d o n) * m → v.left ≡ m) → v.number ≡ w.number % v.left → v.high ≡ w.high - k → IsWalk known d o low (drop (i + 1) all) v
  past_child n e w v k f walk a b c =
      let open_it = opened_walk (items.Child n) e w walk in
      child_walk known d o low (drop (i + 1) all) n w v open_it (a (left d o (drop (i + 1) all)) open_it.is_left) b (lower (items.Child n) e w v k f c)

  pub split_child : (n : List ℕ) → item ≡ items.Child n → (w : Walk) → IsWalk known d o low (drop i all) w → (m : ℕ) × (w.left ≡ total (below_count d) (child_alternatives d o n) * m)
  split_child n e w walk = (left d o (drop (i + 1) all), (opened_walk (items.Child n) e w walk).is_left)

  pub picks_bits : (pattern : Pattern) → item ≡ items.Bits pattern → (number : ℕ) → child_picks known d o low (drop (i + 1) all) number ≡ child_picks known d o low (drop i all) number
  picks_bits pattern e number = ap (λ (xs : List CodingItem). child_picks known d o low xs number) (sym (opened (items.Bits pattern) e))

  pub picks_field : (n : List ℕ) (pattern : Pattern) → item ≡ items.Field n pattern → (number : ℕ) → child_picks known d o low (drop (i + 1) all) number ≡ child_picks known d o low (drop i all) number
  picks_field n pattern e number = ap (λ (xs : List CodingItem). child_picks known d o low xs number) (sym (opened (items.Field n pattern) e))

  pub picks_child : (n : List ℕ) → item ≡ items.Child n → (w v : Walk) (k : ℕ) (p : Pick) → k ≡ item_span known d o item → IsWalk known d o low (drop i all) w
      → ((m : ℕ) → w.left ≡ total (below_count d) (child_alternatives d o n) * m → v.left ≡ m) → v.number ≡ w.number % v.left
      → p ≡ pick (below_count d) (child_alternatives d o n) (w.number / v.left) (w.high - k)
      → p ∷ child_picks known d o low (drop (i + 1) all) v.number ≡ child_picks known d o low (drop i all) w.number
  picks_child n e w v k p f walk a b picked =
      let rest = drop (i + 1) all in
      let open_it = opened_walk (items.Child n) e w walk in
      let l : v.left ≡ left d o rest = a (left d o rest) open_it.is_left in
      let s : k ≡ item_span known d o (items.Child n) = f ∙ ap (item_span known d o) e in
      let high = open_it.is_high in
      let lowest : w.high - k ≡ low + span known d o rest = omega (arith, s, high) in
      ap (λ (q : Pick). q ∷ child_picks known d o low rest v.number) (picked ∙ ap (λ (m : ℕ). pick (below_count d) (child_alternatives d o n) (w.number / m) (w.high - k)) l ∙ ap (pick (below_count d) (child_alternatives d o n) (w.number / left d o rest)) lowest)
      ∙ ap (λ (m : ℕ). pick (below_count d) (child_alternatives d o n) (w.number / left d o rest) (low + span known d o rest) ∷ child_picks known d o low rest m) (b ∙ ap (λ (m : ℕ). w.number % m) l)
      ∙ ap (λ (xs : List CodingItem). child_picks known d o low xs w.number) (sym (opened (items.Child n) e))
