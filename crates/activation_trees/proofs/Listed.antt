-- Items, one after the other, and how many there are.
use Rattle.std.proofs.Common.{◌≡◌, ◌<◌, ◌≤◌, ◌+◌, ◌-◌, ◌*◌, ◌^◌, ◌++◌, ℕ, zero, suc, Bool, true, false, cond, List, [], ◌∷◌, Option, None, Some, length, map, min, filter, get_or, drop, drop-cons, refl, sym, ap, ◌∙◌, arith, add-one, append_assoc}
use Rattle.std.proofs.lemmas.List.{length-append, length-map}
use Rattle.lisa_machine.specs.lisa_engine.declared.parts.Item.{Item}
use Rattle.lisa_tree.specs.declared.tokens.Shape.{Shape}
use Rattle.lisa_tree.specs.Descriptions.{DescriptionTree}
use Rattle.lisa_tree.specs.Resources.{stages, fields}
use Rattle.activation_trees.specs.declared.parts.Occurrence.{Occurrence}
use Rattle.activation_trees.specs.Unfolding.{capped}
use Rattle.activation_trees.specs.Items.{field_item, boundary, boundary_items, root_stage, word_item, word_items, has_bit, bit_item, bits_from, bit_items, items_behind}

-- ---- texts

pub five_parts : (a b c d e : List ℕ) → (((a ++ b) ++ c) ++ d) ++ e ≡ a ++ (b ++ (c ++ (d ++ e)))
five_parts a b c d e = append_assoc ((a ++ b) ++ c) d e ∙ append_assoc (a ++ b) c (d ++ e) ∙ append_assoc a b (c ++ (d ++ e))

pub four_parts : (a b c d : List Item) → ((a ++ b) ++ c) ++ d ≡ a ++ (b ++ (c ++ d))
four_parts a b c d = append_assoc (a ++ b) c d ∙ append_assoc a b (c ++ d)

-- ---- one more item

pub one_field : (a b : List ℕ) (all : List (Shape × List ℕ)) (i : ℕ) (f : Shape × List ℕ) → i < length all → f ≡ get_or all i f
    → map (field_item a b) (drop i all) ≡ (field_item a b f ∷ []) ++ map (field_item a b) (drop (i + 1) all)
one_field a b all i f h e =
    ap (map (field_item a b)) (drop-cons all i f h)
    ∙ ap (λ (g : Shape × List ℕ). field_item a b g ∷ map (field_item a b) (drop (suc i) all)) (sym e)
    ∙ ap (λ (m : ℕ). field_item a b f ∷ map (field_item a b) (drop m all)) (sym (add-one i))

pub one_boundary : (all : List (Shape × List ℕ)) (names : List (List ℕ)) (i : ℕ) (a : List ℕ) → i < length names → a ≡ get_or names i a
    → boundary_items all (drop i names) ≡ boundary all a (drop (i + 1) names) ++ boundary_items all (drop (i + 1) names)
one_boundary all names i a h e =
    ap (boundary_items all) (drop-cons names i a h)
    ∙ ap (λ (x : List ℕ). boundary all x (drop (suc i) names) ++ boundary_items all (drop (suc i) names)) (sym e)
    ∙ ap (λ (m : ℕ). boundary all a (drop m names) ++ boundary_items all (drop m names)) (sym (add-one i))

pub one_word : (width : ℕ) (names : List (List ℕ)) (i : ℕ) (a : List ℕ) → i < length names → a ≡ get_or names i a
    → map (word_item width) (drop i names) ≡ (word_item width a ∷ []) ++ map (word_item width) (drop (i + 1) names)
one_word width names i a h e =
    ap (map (word_item width)) (drop-cons names i a h)
    ∙ ap (λ (x : List ℕ). word_item width x ∷ map (word_item width) (drop (suc i) names)) (sym e)
    ∙ ap (λ (m : ℕ). word_item width a ∷ map (word_item width) (drop m names)) (sym (add-one i))

pub one_bit : (d : DescriptionTree) (stage : List ℕ) (t : ℕ) (all : List Occurrence) (k : ℕ) (x : Occurrence) → k < length all → x ≡ get_or all k x
    → bits_from d stage t k (drop k all) ≡ cond (has_bit t x) (bit_item d stage x k ∷ []) [] ++ bits_from d stage t (k + 1) (drop (k + 1) all)
one_bit d stage t all k x h e =
    ap (bits_from d stage t k) (drop-cons all k x h)
    ∙ ap (λ (y : Occurrence). cond (has_bit t y) (bit_item d stage y k ∷ []) [] ++ bits_from d stage t (k + 1) (drop (suc k) all)) (sym e)
    ∙ ap (λ (m : ℕ). cond (has_bit t x) (bit_item d stage x k ∷ []) [] ++ bits_from d stage t (k + 1) (drop m all)) (sym (add-one k))

pub one_stage : (d : DescriptionTree) (all : List Occurrence) (names : List (List ℕ)) (t : ℕ) (a : List ℕ) → t < length names → a ≡ get_or names t a
    → bit_items d all t (drop t names) ≡ bits_from d a t 0 all ++ bit_items d all (t + 1) (drop (t + 1) names)
one_stage d all names t a h e =
    ap (bit_items d all t) (drop-cons names t a h)
    ∙ ap (λ (x : List ℕ). bits_from d x t 0 all ++ bit_items d all (t + 1) (drop (suc t) names)) (sym e)
    ∙ ap (λ (m : ℕ). bits_from d a t 0 all ++ bit_items d all (t + 1) (drop m names)) (sym (add-one t))

-- ---- how many

pub one_counted : (t : ℕ) (all : List Occurrence) (k : ℕ) (x : Occurrence) → k < length all → x ≡ get_or all k x
    → length (filter (has_bit t) (drop k all)) ≡ cond (has_bit t x) 1 0 + length (filter (has_bit t) (drop (k + 1) all))
one_counted t all k x h e =
    ap (λ (l : List Occurrence). length (filter (has_bit t) l)) (drop-cons all k x h)
    ∙ at (get_or all k x) (has_bit t (get_or all k x)) (filter (has_bit t) (drop (suc k) all))
    ∙ ap (λ (y : Occurrence). cond (has_bit t y) 1 0 + length (filter (has_bit t) (drop (suc k) all))) (sym e)
    ∙ ap (λ (m : ℕ). cond (has_bit t x) 1 0 + length (filter (has_bit t) (drop m all))) (sym (add-one k))
  where
    at : (y : Occurrence) (b : Bool) (rest : List Occurrence) → length (cond b (y ∷ rest) rest) ≡ cond b 1 0 + length rest
    at y true rest = omega arith
    at y false rest = omega arith

bits_counted : (d : DescriptionTree) (stage : List ℕ) (t k : ℕ) (all : List Occurrence) → length (bits_from d stage t k all) ≡ length (filter (has_bit t) all)
bits_counted d stage t k [] = refl
bits_counted d stage t k (x ∷ rest) =
    length-append (cond (has_bit t x) (bit_item d stage x k ∷ []) []) (bits_from d stage t (k + 1) rest)
    ∙ ap (λ (n : ℕ). length (cond (has_bit t x) (bit_item d stage x k ∷ []) []) + n) (bits_counted d stage t (k + 1) rest)
    ∙ at (has_bit t x) (bit_item d stage x k)
  where
    at : (b : Bool) (y : Item) → length (cond b (y ∷ []) []) + length (filter (has_bit t) rest) ≡ length (cond b (x ∷ filter (has_bit t) rest) (filter (has_bit t) rest))
    at true y = omega arith
    at false y = omega arith

pub one_stage_counted : (d : DescriptionTree) (all : List Occurrence) (names : List (List ℕ)) (t count : ℕ) → t < length names
    → capped (count + length (bit_items d all t (drop t names))) ≡ capped (capped (count + length (filter (has_bit t) all)) + length (bit_items d all (t + 1) (drop (t + 1) names)))
one_stage_counted d all names t count h =
    let a = get_or names t [] in
    let s = ap length (one_stage d all names t a h (get_or_same names t h)) in
    let l = length-append (bits_from d a t 0 all) (bit_items d all (t + 1) (drop (t + 1) names)) in
    let m = bits_counted d a t 0 all in
    ap (λ (n : ℕ). capped (count + n)) (s ∙ l ∙ ap (λ (n : ℕ). n + length (bit_items d all (t + 1) (drop (t + 1) names))) m)
    ∙ capped_sum count (length (filter (has_bit t) all)) (length (bit_items d all (t + 1) (drop (t + 1) names)))
  where
    get_or_same : (names : List (List ℕ)) (i : ℕ) → i < length names → get_or names i [] ≡ get_or names i (get_or names i [])
    get_or_same [] i h = absurd (omega arith)
    get_or_same (n ∷ names) zero h = refl
    get_or_same (n ∷ names) (suc i) h = get_or_same names i (omega arith)

    capped_sum : (x y z : ℕ) → capped (x + (y + z)) ≡ capped (capped (x + y) + z)
    capped_sum x y z = omega arith

-- past the last stage there are no more
pub bits_end : (d : DescriptionTree) (all : List Occurrence) (names : List (List ℕ)) (t count whole : ℕ) → length names ≤ t → count ≤ 2 ^ 64 - 1
    → capped (count + length (bit_items d all t (drop t names))) ≡ whole → count ≡ whole
bits_end d all names t count whole past few e =
    let none : length (bit_items d all t (drop t names)) ≡ 0 = ap (λ (l : List (List ℕ)). length (bit_items d all t l)) (drop-past names t past) in
    (let c : count ≡ capped (count + 0) = omega (arith, few) in c) ∙ ap (λ (n : ℕ). capped (count + n)) (sym none) ∙ e
  where
    drop-past : (names : List (List ℕ)) (t : ℕ) → length names ≤ t → drop t names ≡ []
    drop-past [] zero h = refl
    drop-past [] (suc t) h = refl
    drop-past (n ∷ names) zero h = absurd (omega arith)
    drop-past (n ∷ names) (suc t) h = drop-past names t (omega arith)

boundary_length : (all : List (Shape × List ℕ)) (a : List ℕ) (rest : List (List ℕ)) → length (boundary_items all (a ∷ rest)) ≡ length rest * length all
boundary_length all a [] = omega arith
boundary_length all a (b ∷ rest) =
    length-append (map (field_item a b) all) (boundary_items all (b ∷ rest))
    ∙ ap (λ (n : ℕ). n + length (boundary_items all (b ∷ rest))) (length-map all (field_item a b))
    ∙ ap (λ (n : ℕ). length all + n) (boundary_length all b rest)
    ∙ (let e : length all + length rest * length all ≡ suc (length rest) * length all = omega arith in e)

pub boundaries_counted : (all : List (Shape × List ℕ)) (names : List (List ℕ)) → length (boundary_items all names) ≡ (length names - 1) * length all
boundaries_counted all [] = omega arith
boundaries_counted all (a ∷ rest) = boundary_length all a rest ∙ ap (λ (n : ℕ). n * length all) (let e : length rest ≡ suc (length rest) - 1 = omega arith in e)

pub all_counted : (d : DescriptionTree) (width : Option ℕ) (all : List Occurrence) (registers : ℕ)
    → capped (registers + length (items_behind d width all))
    ≡ capped (capped (capped (registers + capped (length (boundary_items (fields d) (stages d)))) + length (word_items (stages d) width (root_stage d all))) + capped (length (bit_items d all 0 (stages d))))
all_counted d width all registers =
    let a = boundary_items (fields d) (stages d) in
    let b = word_items (stages d) width (root_stage d all) in
    let c = bit_items d all 0 (stages d) in
    ap (λ (n : ℕ). capped (registers + n)) (length-append a (b ++ c) ∙ ap (λ (n : ℕ). length a + n) (length-append b c))
    ∙ sums registers (length a) (length b) (length c)
  where
    sums : (r x y z : ℕ) → capped (r + (x + (y + z))) ≡ capped (capped (capped (r + capped x) + y) + capped z)
    sums r x y z = omega arith
