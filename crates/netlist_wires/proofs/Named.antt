-- The names of a program's module are all different, so each stands for what declares it.
use Rattle.std.proofs.Common.{◌≡◌, ◌≢◌, ℕ, suc, ◌+◌, ◌^◌, ◌<◌, ◌≤◌, List, [], ◌∷◌, ◌++◌, length, map, drop, get_or, refl, sym, ap, ◌∙◌, subst, arith, ⊎_elim}
use Rattle.std.specs.Prelude.{All, AllPairs, slice_index_or}
use Rattle.std.specs.List.{position_or_len}
use Rattle.std.specs.Str.{bytes_eq}
use Rattle.std.specs.Fmt.{decimal}
use Rattle.std.proofs.lemmas.Bool.{false_from_ne_true}
use Rattle.std.proofs.lemmas.List.{get_or-map, map-append}
use Rattle.std.proofs.lemmas.List.Sums.{position_or_len_is}
use Rattle.std.proofs.lemmas.List.Elements.{All-head, All-tail}
use Rattle.std.proofs.lemmas.Fmt.{decimal_injective, decimal_is_IsNumeral}
use Rattle.std.proofs.lemmas.Str.Parse.{digit_at}
use Rattle.std.proofs.lemmas.Slice.Eq.{bytes_eq-Decides}
use Rattle.lisa_engine.specs.declared.parts.Item.{Item}
use Rattle.lisa_engine.specs.declared.parts.ArrayItem.{ArrayItem}
use Rattle.lisa_engine.proofs.Places.{any_default}
use Rattle.verilog_text.specs.Clocked.{item_place, array_place}
use Rattle.verilog_rules.proofs.Apart.{Has, AreApart, has_front, has_back, has_either, apart_append, apart_front, apart_back, apart_both, apart_pairs}
use Rattle.step_program.specs.Programs.{Program}
use Rattle.step_program.specs.WellFormed.{IsDigit, IsWireName, IsFreeName, IsWellFormed}
use Rattle.netlist_wires.specs.declared.keys.Key.{Key}
use Rattle.netlist_wires.specs.Tables.{program_names, HasDistinctNames}
use Rattle.netlist_wires.specs.Wiring.{wire_name}
use Rattle.netlist_wires.proofs.Members.{wire_items}

-- ---- names apart

pub has_place : (xs : List (List ℕ)) (x : List ℕ) → Has xs x → (k : ℕ) × (k < length xs) × (get_or xs k [] ≡ x)
has_place [] x has = absurd has
has_place (y ∷ xs) x has = ⊎_elim (λ is. (0, omega arith, is)) (λ later. (let r = has_place xs x later in (suc r.0, omega (arith, r.1), r.2))) has

pub pairs_apart : (xs : List (List ℕ)) → AllPairs (λ (a b : List ℕ). a ≢ b) xs → AreApart xs
pairs_apart [] distinct = tt
pairs_apart (x ∷ xs) distinct = (
  (λ has. (let r = has_place xs x has in distinct 0 (suc r.0) [] (omega arith) (omega (arith, r.1)) (sym r.2))),
  pairs_apart xs (λ i j d less within same. distinct (suc i) (suc j) d (omega (arith, less)) (omega (arith, within)) same),
)

abbrev pub item_names : List Item → List (List ℕ)
item_names items = map (λ item. item.name) items

abbrev pub array_names : List ArrayItem → List (List ℕ)
array_names arrays = map (λ array. array.name) arrays

-- ---- wires

pub wire_same : (j k : ℕ) → j < 2 ^ 64 → k < 2 ^ 64 → wire_name j ≡ wire_name k → j ≡ k
wire_same j k lj lk e = decimal_injective j k lj lk (ap (drop 5) e)

pub has_wire : (n : ℕ) (keys : List Key) (x : List ℕ) → Has (item_names (wire_items n keys)) x → (k : ℕ) × (n ≤ k) × (k < n + length keys) × (wire_name k ≡ x)
has_wire n [] x has = absurd has
has_wire n (key ∷ keys) x has =
    ⊎_elim (λ is. (n, omega arith, omega arith, is)) (λ later. (let r = has_wire (suc n) keys x later in (r.0, omega (arith, r.1), omega (arith, r.2), r.3))) has

pub wires_apart : (n : ℕ) (keys : List Key) → n + length keys ≤ 2 ^ 64 → AreApart (item_names (wire_items n keys))
wires_apart n [] few = tt
wires_apart n (key ∷ keys) few = (
  (λ has. (let r = has_wire (suc n) keys (wire_name n) has in let same : r.0 ≡ n = wire_same r.0 n (omega (arith, r.2, few)) (omega (arith, few)) r.3 in omega (arith, r.1, same))),
  wires_apart (suc n) keys (omega (arith, few)),
)

pub is_wire : (k : ℕ) → k < 2 ^ 64 → IsWireName (wire_name k)
is_wire k less =
    let numeral = (decimal_is_IsNumeral k less).0 in
    record { digits = decimal k; some = numeral.0; all = λ i d h. at i d h; is = refl }
  where
    at : (i d : ℕ) → i < length (decimal k) → IsDigit (get_or (decimal k) i d)
    at i d h =
        let in_range = digit_at (decimal k) i (decimal_is_IsNumeral k less).0.1 h in
        subst IsDigit (any_default (decimal k) i 0 d h) (in_range.0, in_range.1)

-- a free name is no wire's
pub free_no_wire : (name : List ℕ) (k : ℕ) → k < 2 ^ 64 → IsFreeName name → wire_name k ≢ name
free_no_wire name k less free e = free.no_wire (subst IsWireName e (is_wire k less))

pub has_free : {X : Type 0} (f : X → List ℕ) (xs : List X) → All (λ x. IsFreeName (f x)) xs → (x : List ℕ) → Has (map f xs) x → IsFreeName x
has_free f [] all x has = absurd has
has_free f (y ∷ xs) all x has =
    ⊎_elim (λ is. subst IsFreeName is (All-head (λ z. IsFreeName (f z)) y xs all)) (λ later. has_free f xs (All-tail (λ z. IsFreeName (f z)) y xs all) x later) has

-- ---- places

module _ {X : Type 0} (f : X → List ℕ) where
  pub place_at : (xs : List X) → AreApart (map f xs) → (i : ℕ) (d : X) → i < length xs → position_or_len (λ x. bytes_eq (f x) (f (get_or xs i d))) xs ≡ i
  place_at xs apart i d h =
      position_or_len_is (λ x. bytes_eq (f x) (f (get_or xs i d))) xs i d (omega (arith, h))
      (λ k less. false_from_ne_true _ (λ e. apart_pairs f xs apart k i d less h ((bytes_eq-Decides (f (get_or xs k d)) (f (get_or xs i d))).0 e)))
      (λ _. (bytes_eq-Decides (f (get_or xs i d)) (f (get_or xs i d))).1 refl)

-- the place of a name that is the i-th one
pub item_at : (xs : List Item) → AreApart (item_names xs) → (i : ℕ) (name : List ℕ) → i < length xs → slice_index_or (item_names xs) i [] ≡ name → item_place xs name ≡ i
item_at [] apart i name h is = absurd (omega (arith, h))
item_at (x ∷ xs) apart i name h is =
    let there : (get_or (x ∷ xs) i x).name ≡ name = sym (get_or-map (λ (item : Item). item.name) (x ∷ xs) i x [] h) ∙ is in
    subst (λ (n : List ℕ). item_place (x ∷ xs) n ≡ i) there (place_at (λ (item : Item). item.name) (x ∷ xs) apart i x h)

pub array_at : (xs : List ArrayItem) → AreApart (array_names xs) → (i : ℕ) (name : List ℕ) → i < length xs → slice_index_or (array_names xs) i [] ≡ name → array_place xs name ≡ i
array_at [] apart i name h is = absurd (omega (arith, h))
array_at (x ∷ xs) apart i name h is =
    let there : (get_or (x ∷ xs) i x).name ≡ name = sym (get_or-map (λ (array : ArrayItem). array.name) (x ∷ xs) i x [] h) ∙ is in
    subst (λ (n : List ℕ). array_place (x ∷ xs) n ≡ i) there (place_at (λ (array : ArrayItem). array.name) (x ∷ xs) apart i x h)

-- ---- the names of a whole module

module _ (p : Program) (formed : IsWellFormed p) (distinct : HasDistinctNames p) (keys : List Key) (few : length keys ≤ 2 ^ 64) where
  names_apart : AreApart (item_names p.items ++ (array_names p.arrays ++ item_names p.pins))
  names_apart = pairs_apart (program_names p) distinct

  pub items_apart : AreApart (item_names p.items)
  items_apart = apart_front (item_names p.items) (array_names p.arrays ++ item_names p.pins) names_apart

  pub arrays_apart : AreApart (array_names p.arrays)
  arrays_apart = apart_front (array_names p.arrays) (item_names p.pins) (apart_back (item_names p.items) (array_names p.arrays ++ item_names p.pins) names_apart)

  pub pins_apart : AreApart (item_names p.pins)
  pins_apart = apart_back (array_names p.arrays) (item_names p.pins) (apart_back (item_names p.items) (array_names p.arrays ++ item_names p.pins) names_apart)

  pub items_no_pins : (x : List ℕ) → Has (item_names p.items) x → Has (item_names p.pins) x → ⊥
  items_no_pins x here there = apart_both (item_names p.items) (array_names p.arrays ++ item_names p.pins) names_apart x here (has_back (array_names p.arrays) (item_names p.pins) x there)

  pub items_no_arrays : (x : List ℕ) → Has (item_names p.items) x → Has (array_names p.arrays) x → ⊥
  items_no_arrays x here there = apart_both (item_names p.items) (array_names p.arrays ++ item_names p.pins) names_apart x here (has_front (array_names p.arrays) (item_names p.pins) x there)

  pub arrays_no_pins : (x : List ℕ) → Has (array_names p.arrays) x → Has (item_names p.pins) x → ⊥
  arrays_no_pins x here there = apart_both (array_names p.arrays) (item_names p.pins) (apart_back (item_names p.items) (array_names p.arrays ++ item_names p.pins) names_apart) x here there

  pub items_free : (x : List ℕ) → Has (item_names p.items) x → IsFreeName x
  items_free x has = has_free (λ (item : Item). item.name) p.items (λ k d h. (formed.items k d h).0) x has

  pub pins_free : (x : List ℕ) → Has (item_names p.pins) x → IsFreeName x
  pins_free x has = has_free (λ (item : Item). item.name) p.pins (λ k d h. (formed.pins k d h).0) x has

  pub arrays_free : (x : List ℕ) → Has (array_names p.arrays) x → IsFreeName x
  arrays_free x has = has_free (λ (array : ArrayItem). array.name) p.arrays (λ k d h. (formed.arrays k d h).0) x has

  pub no_wires : (x : List ℕ) → IsFreeName x → Has (item_names (wire_items 0 keys)) x → ⊥
  no_wires x free has = let r = has_wire 0 keys x has in free_no_wire x r.0 (omega (arith, r.2, few)) free r.3

  pub scalars_apart : AreApart (item_names (p.items ++ (p.pins ++ wire_items 0 keys)))
  scalars_apart =
      subst AreApart (sym (map-append (λ (item : Item). item.name) p.items (p.pins ++ wire_items 0 keys)
      ∙ ap (λ (xs : List (List ℕ)). item_names p.items ++ xs) (map-append (λ (item : Item). item.name) p.pins (wire_items 0 keys))))
      (apart_append (item_names p.items) (item_names p.pins ++ item_names (wire_items 0 keys)) items_apart
      (apart_append (item_names p.pins) (item_names (wire_items 0 keys)) pins_apart (wires_apart 0 keys (omega (arith, few))) (λ x here there. no_wires x (pins_free x here) there))
      (λ x here there. ⊎_elim (λ pin. items_no_pins x here pin) (λ wire. no_wires x (items_free x here) wire) (has_either (item_names p.pins) (item_names (wire_items 0 keys)) x there)))
