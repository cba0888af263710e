-- The steps that close the boundaries, one after the other.
use Rattle.std.proofs.Common.{◌≡◌, ◌+◌, ◌++◌, ◌∙◌, ℕ, zero, suc, List, [], ◌∷◌, map, append-nil, append_assoc, sym, ap, subst, arith}
use Rattle.std.specs.List.{flat_map, range_with_len}
use Rattle.lisa_tree.specs.Descriptions.{DescriptionTree}
use Rattle.step_program.specs.Programs.{Move}
use Rattle.step_pieces.specs.declared.drafts.Draft.{Draft}
use Rattle.lowered_time.specs.Pieces.{steps}
use Rattle.lowered_time.specs.Code.{Adds}
use Rattle.lowered_time.proofs.Adding.{adds_steps}
use Rattle.lowered_layouts.specs.Ends.{field_end, boundary_ends}
use Rattle.lowered_layouts.specs.Laws.{held_temp, open_temp}

-- ---- one more

mapped_more : {X : Type 0} (f : ℕ → X) (a n : ℕ) → map f (range_with_len a (suc n)) ≡ map f (range_with_len a n) ++ (f (a + n) ∷ [])
mapped_more {X = X} f a zero = ap (λ (m : ℕ). f m ∷ []) (let here : a ≡ a + 0 = omega arith in here)
mapped_more {X = X} f a (suc n) =
    ap (λ (l : List X). f a ∷ l)
    (mapped_more f (a + 1) n ∙ ap (λ (m : ℕ). map f (range_with_len (a + 1) n) ++ (f m ∷ [])) (let next : a + 1 + n ≡ a + suc n = omega arith in next))

blocks_more : {X : Type 0} (g : ℕ → List X) (a n : ℕ) → flat_map g (range_with_len a (suc n)) ≡ flat_map g (range_with_len a n) ++ g (a + n)
blocks_more g a zero = append-nil (g a) ∙ ap g (let here : a ≡ a + 0 = omega arith in here)
blocks_more {X = X} g a (suc n) =
    ap (λ (l : List X). g a ++ l)
    (blocks_more g (a + 1) n ∙ ap (λ (m : ℕ). flat_map g (range_with_len (a + 1) n) ++ g m) (let next : a + 1 + n ≡ a + suc n = omega arith in next))
    ∙ sym (append_assoc (g a) (flat_map g (range_with_len (a + 1) n)) (g (a + suc n)))

module _ (d : DescriptionTree) where
  -- the ends of the first fields of a boundary, and of the first boundaries
  pub field_on : (s k next : ℕ) (a b c : Draft) → next ≡ k + 1 → Adds (steps (map (field_end d held_temp open_temp s) (range_with_len 0 k))) a b
      → Adds (steps (field_end d held_temp open_temp s k ∷ [])) b c
      → Adds (steps (map (field_end d held_temp open_temp s) (range_with_len 0 next))) a c
  field_on s k next a b c more before one =
      let f = field_end d held_temp open_temp s in
      let all = adds_steps (map f (range_with_len 0 k)) (f k ∷ []) a b c before one in
      let same : map f (range_with_len 0 k) ++ (f k ∷ []) ≡ map f (range_with_len 0 next) =
      ap (λ (m : ℕ). map f (range_with_len 0 k) ++ (f m ∷ [])) (let e : k ≡ 0 + k = omega arith in e)
      ∙ sym (mapped_more f 0 k)
      ∙ ap (λ (n : ℕ). map f (range_with_len 0 n)) (let e : suc k ≡ next = omega (arith, more) in e)
      in
      subst (λ (moves : List Move). Adds (steps moves) a c) same all

  pub boundary_on : (k next : ℕ) (a b c : Draft) → next ≡ k + 1 → Adds (steps (flat_map (boundary_ends d held_temp open_temp) (range_with_len 0 k))) a b
      → Adds (steps (boundary_ends d held_temp open_temp k)) b c
      → Adds (steps (flat_map (boundary_ends d held_temp open_temp) (range_with_len 0 next))) a c
  boundary_on k next a b c more before one =
      let g = boundary_ends d held_temp open_temp in
      let all = adds_steps (flat_map g (range_with_len 0 k)) (g k) a b c before one in
      let same : flat_map g (range_with_len 0 k) ++ g k ≡ flat_map g (range_with_len 0 next) =
      ap (λ (m : ℕ). flat_map g (range_with_len 0 k) ++ g m) (let e : k ≡ 0 + k = omega arith in e)
      ∙ sym (blocks_more g 0 k)
      ∙ ap (λ (n : ℕ). flat_map g (range_with_len 0 n)) (let e : suc k ≡ next = omega (arith, more) in e)
      in
      subst (λ (moves : List Move). Adds (steps moves) a c) same all
