-- Items and cells show all of hardware whose parts have items.
use Rattle.std.proofs.Common.{◌≡◌, ◌<◌, ◌≤◌, ◌+◌, ◌-◌, ◌∙◌, ℕ, zero, suc, Bool, true, false, cond, List, ◌∷◌, length, map, nat_eq, refl, sym, ap, ap₂, subst, arith}
use Rattle.std.proofs.Math.Path.{fun_ext}
use Rattle.std.specs.List.{range_with_len}
use Rattle.std.proofs.lemmas.Bool.{eqb-true, eqb-false}
use Rattle.std.proofs.lemmas.List.{ext_get_or}
use Rattle.lisa_tree.specs.Descriptions.{DescriptionTree}
use Rattle.lisa_engine.specs.State as engine
use Rattle.lisa_tree.specs.Resources.{stages, fields}
use Rattle.item_layouts.specs.declared.place.ItemPlace.{ItemPlace}
use Rattle.item_layouts.specs.declared.place.ItemPlace.TheVariants.{Register, Field, Word, Bit}
use Rattle.item_layouts.specs.Layouts.{HasPlace, value_at, item_values}
use Rattle.item_layouts.proofs.Listed.{same_values}
use Rattle.pipeline_time.specs.Bits.{Hardware}
use Rattle.lisa_meaning.specs.Moments.{Contents, field_at, by_boundaries}
use Rattle.lisa_meaning.specs.States.{layout_of, values_of}
use Rattle.lisa_meaning.specs.Showing.{HasItems, ItemsShowAll}

-- ---- ranges

ranged_same : {X : Type 0} (g h : ℕ → X) (a n : ℕ) → ((k : ℕ) → a ≤ k → k < a + n → g k ≡ h k) → map g (range_with_len a n) ≡ map h (range_with_len a n)
ranged_same g h a zero each = refl
ranged_same {X = X} g h a (suc n) each =
    ap₂ (λ (x : X) (xs : List X). x ∷ xs) (each a (omega arith) (omega arith))
    (ranged_same g h (a + 1) n (λ k low high. each k (omega (arith, low)) (omega (arith, high))))

pub boundaries_same : (d : DescriptionTree) (g h : ℕ → ℕ → ℕ) → ((s f : ℕ) → s < length (stages d) - 1 → f < length (fields d) → g s f ≡ h s f) → by_boundaries d g ≡ by_boundaries d h
boundaries_same d g h each =
    ranged_same (λ s. map (g s) (range_with_len 0 (length (fields d)))) (λ s. map (h s) (range_with_len 0 (length (fields d)))) 0 (length (stages d) - 1)
    (λ s low high. ranged_same (g s) (h s) 0 (length (fields d)) (λ f least most. each s f (omega (arith, high)) (omega (arith, most))))

-- ---- parts of hardware

abbrev number : Bool → ℕ
number x = cond x 1 0

bit_told : (x y : Bool) → number x ≡ number y → x ≡ y
bit_told true true e = refl
bit_told true false e = absurd (omega (arith, e))
bit_told false true e = absurd (omega (arith, e))
bit_told false false e = refl

contents_same : (a b : Contents) → a.registers ≡ b.registers → a.cells ≡ b.cells → a.fields ≡ b.fields → a ≡ b
contents_same a b r c f =
    ap₂ (λ (rs : List ℕ) (cs : List (List ℕ)). (let made : Contents = record { registers = rs; cells = cs; fields = a.fields } in made)) r c
    ∙ ap (λ (fs : List (List ℕ)). (let made : Contents = record { registers = b.registers; cells = b.cells; fields = fs } in made)) f

hardware_same : (a b : Hardware Contents) → a.memory ≡ b.memory → a.bits ≡ b.bits → a.words ≡ b.words → a ≡ b
hardware_same a b m x w =
    ap₂ (λ (c : Contents) (bits : ℕ → ℕ → Bool). (let made : Hardware Contents = record { memory = c; bits = bits; words = a.words } in made)) m x
    ∙ ap (λ (words : ℕ → ℕ). (let made : Hardware Contents = record { memory = b.memory; bits = b.bits; words = words } in made)) w

module _ (d : DescriptionTree) (a b : Hardware Contents) (has : HasItems d a) (also : HasItems d b) (same : item_values (layout_of d) (values_of a) ≡ item_values (layout_of d) (values_of b)) where
  there : (p : ItemPlace) → HasPlace (layout_of d) p → value_at (values_of a) p ≡ value_at (values_of b) p
  there p h = same_values (layout_of d) (values_of a) (values_of b) p same h

  registers_same : a.memory.registers ≡ b.memory.registers
  registers_same =
      let count = has.registers in
      ext_get_or 0 a.memory.registers b.memory.registers (has.registers ∙ sym also.registers) (λ k low. there (Register k) (omega (arith, low, count)))

  fields_same : a.memory.fields ≡ b.memory.fields
  fields_same =
      has.fields
      ∙ boundaries_same d (field_at a.memory.fields) (field_at b.memory.fields) (λ s f low inside. there (Field s f) (omega (arith, low), inside))
      ∙ sym also.fields

  word_there : (level : ℕ) → ((s : ℕ) × (level ≡ suc s) × HasPlace (layout_of d) (Word s)) → a.words level ≡ b.words level
  word_there level at = subst (λ (n : ℕ). a.words n ≡ b.words n) (sym at.1) (there (Word at.0) at.2)

  word_same : (level : ℕ) → a.words level ≡ b.words level
  word_same level = by (nat_eq (a.words level) 0) refl (nat_eq (b.words level) 0) refl
    where
      by : (x : Bool) → nat_eq (a.words level) 0 ≡ x → (y : Bool) → nat_eq (b.words level) 0 ≡ y → a.words level ≡ b.words level
      by true e true f = eqb-true (a.words level) 0 e ∙ sym (eqb-true (b.words level) 0 f)
      by true e false f = word_there level (also.words level (eqb-false (b.words level) 0 f))
      by false e y f = word_there level (has.words level (eqb-false (a.words level) 0 e))

  bit_there : (level k : ℕ) → ((s : ℕ) × (level ≡ suc s) × HasPlace (layout_of d) (Bit s k)) → a.bits level k ≡ b.bits level k
  bit_there level k at = subst (λ (n : ℕ). a.bits n k ≡ b.bits n k) (sym at.1) (bit_told (a.bits (suc at.0) k) (b.bits (suc at.0) k) (there (Bit at.0 k) at.2))

  bit_same : (level k : ℕ) → a.bits level k ≡ b.bits level k
  bit_same level k = by (a.bits level k) refl (b.bits level k) refl
    where
      by : (x : Bool) → a.bits level k ≡ x → (y : Bool) → b.bits level k ≡ y → a.bits level k ≡ b.bits level k
      by true e y f = bit_there level k (has.bits level k e)
      by false e true f = bit_there level k (also.bits level k f)
      by false e false f = e ∙ sym f

pub items_show_all : (d : DescriptionTree) → ItemsShowAll d
items_show_all d a b has also same =
    let values : item_values (layout_of d) (values_of a) ≡ item_values (layout_of d) (values_of b) = ap (λ (s : engine.State). s.items) same in
    let cells : a.memory.cells ≡ b.memory.cells = ap (λ (s : engine.State). s.cells) same in
    hardware_same a b
    (contents_same a.memory b.memory (registers_same d a b has also values) cells (fields_same d a b has also values))
    (fun_ext (λ level. fun_ext (λ k. bit_same d a b has also values level k)))
    (fun_ext (λ level. word_same d a b has also values level))
