-- The memories of an image fit the arrays that they are for.
use Rattle.std.proofs.Common.{◌≡◌, ◌≢◌, ℕ, zero, suc, ◌-◌, ◌^◌, ◌<◌, ◌≤◌, Bool, true, false, List, [], ◌∷◌, ◌++◌, length, replicate, get_or, refl, sym, ap, ◌∙◌, subst, arith, ⊎_elim, Option, Some, None, length-append}
use Rattle.std.proofs.lemmas.List.{length-replicate, length-map, get_or_append_left, get_or-append_right, get_or-replicate, get_or-map}
use Rattle.std.proofs.lemmas.Nat.{pow_pos}
use Rattle.lisa_engine.proofs.Places.{any_default}
use Rattle.std.specs.Prelude.{All, AllPairs, find, not, ◌&&◌, ◌==◌}
use Rattle.std.specs.List.{list_any}
use Rattle.std.specs.Option.{option_map_or}
use Rattle.std.proofs.lemmas.Bool.{cases_Bool, cases_order, cases_lt, and_parts, eqb-true, not-false}
use Rattle.std.proofs.lemmas.Bool.Decides.{Decides-eqb}
use Rattle.std.proofs.lemmas.List.Folds.{Any-from_list_any}
use Rattle.std.proofs.lemmas.Slice.Eq.{slice_eq-Decides}
use Rattle.lisa_engine.specs.Memory.{Memory}
use Rattle.lisa_engine.specs.Shape.{AreCells}
use Rattle.lisa_engine.specs.Images.{IsMemory, IsImage, has_name, is_array, loaded, first_cells}
use Rattle.lisa_engine.specs.declared.parts.ArrayItem.{ArrayItem}

-- what holds of each element holds of the one that is found, and it passes the test
pub find_holds : {X : Type 0} (p : X → Bool) (P : X → Type 0) (xs : List X) (x : X) → All P xs → find p xs ≡ Some x → (p x ≡ true) × P x
find_holds p P [] x all is = cc
find_holds p P (y ∷ ys) x all is = ⊎_elim
    (λ t. let e : Some y ≡ Some x = rw t at is in let same : y ≡ x = cc in (subst (λ z. p z ≡ true) same t, subst P same (all 0 y (omega arith))))
    (λ f. find_holds p P ys x (λ k d h. all (suc k) d (omega arith)) (rw f at is))
    (cases_Bool (p y))

-- where nothing is found, no element passes the test
pub find_none : {X : Type 0} (p : X → Bool) (xs : List X) → find p xs ≡ None → All (λ x. p x ≡ false) xs
find_none p [] is k d within = absurd (omega arith)
find_none p (y ∷ ys) is zero d within = ⊎_elim (λ t. let e : Some y ≡ None = rw t at is in cc) (λ f. f) (cases_Bool (p y))
find_none p (y ∷ ys) is (suc k) d within = find_none p ys (⊎_elim (λ t. let e : Some y ≡ None = rw t at is in cc) (λ f. rw f at is) (cases_Bool (p y))) k d (omega arith)

-- the cells are few enough for the array, and narrow enough
pub record IsFor (array : ArrayItem) (cells : List ℕ) : Type 0 where
  pub room : length cells ≤ array.depth
  pub within : All (λ value. value < 2 ^ array.width) cells

no_cells : (array : ArrayItem) → IsFor array []
no_cells array = record { room = omega arith; within = λ k d h. absurd (omega arith) }

name_is : (name : List ℕ) (memory : Memory) → has_name name memory ≡ true → memory.name ≡ name
name_is name memory is = (slice_eq-Decides Decides-eqb memory.name name true (sym is)).0 refl

module _ (arrays : List ArrayItem) (image : List Memory) (rules : IsImage image) (distinct : AllPairs (λ a b. a.name ≢ b.name) arrays)
    (none : find (λ memory. not (list_any (is_array memory) arrays)) image ≡ None) where
  -- two places of one name are one place
  one_place : (i j : ℕ) (d : ArrayItem) → i < length arrays → j < length arrays → (get_or arrays i d).name ≡ (get_or arrays j d).name → i ≡ j
  one_place i j d in_i in_j same = ⊎_elim (λ e. e) (λ o. ⊎_elim (λ l. absurd (distinct i j d l in_j same)) (λ l. absurd (distinct j i d l in_i (sym same))) o) (cases_order i j)

  of_array : (memory : Memory) (array : ArrayItem) → IsMemory memory → is_array memory array ≡ true → IsFor array memory.cells
  of_array memory array keeps is =
      let parts = and_parts (has_name array.name memory && memory.width == array.width) (memory.depth == array.depth) is in
      let wide : memory.width ≡ array.width = eqb-true memory.width array.width (and_parts (has_name array.name memory) (memory.width == array.width) parts.0).1 in
      let deep : memory.depth ≡ array.depth = eqb-true memory.depth array.depth parts.1 in
      record { room = omega (arith, keeps.room, deep); within = subst (λ w. All (λ value. value < 2 ^ w) memory.cells) wide keeps.within }

  named_alike : (memory : Memory) (array : ArrayItem) → is_array memory array ≡ true → memory.name ≡ array.name
  named_alike memory array is =
      let parts = and_parts (has_name array.name memory && memory.width == array.width) (memory.depth == array.depth) is in
      name_is array.name memory (and_parts (has_name array.name memory) (memory.width == array.width) parts.0).0

  of_memory : (memory : Memory) (i : ℕ) (d : ArrayItem) → IsMemory memory → i < length arrays → memory.name ≡ (get_or arrays i d).name → not (list_any (is_array memory) arrays) ≡ false
      → IsFor (get_or arrays i d) memory.cells
  of_memory memory i d keeps within named known =
      let some = Any-from_list_any (is_array memory) arrays (not-false (list_any (is_array memory) arrays) known) in
      let there : get_or arrays some.0 d ≡ some.1 = any_default arrays some.0 d some.1 some.2 ∙ some.3 in
      let is : is_array memory (get_or arrays some.0 d) ≡ true = subst (λ array. is_array memory array ≡ true) (sym there) some.4 in
      let same : some.0 ≡ i = one_place some.0 i d some.2 within (sym (named_alike memory (get_or arrays some.0 d) is) ∙ named) in
      of_array memory (get_or arrays i d) keeps (subst (λ k. is_array memory (get_or arrays k d) ≡ true) same is)

  -- what the image has for an array fits it
  pub fits : (i : ℕ) (d : ArrayItem) → i < length arrays → IsFor (get_or arrays i d) (option_map_or (λ memory. memory.cells) (find (has_name (get_or arrays i d).name) image) [])
  fits i d within = found (find (has_name (get_or arrays i d).name) image) refl
    where
      found : (o : Option Memory) → find (has_name (get_or arrays i d).name) image ≡ o → IsFor (get_or arrays i d) (option_map_or (λ memory. memory.cells) o [])
      found None is = no_cells (get_or arrays i d)
      found (Some memory) is =
          let holds = find_holds (has_name (get_or arrays i d).name) (λ m. IsMemory m × (not (list_any (is_array m) arrays) ≡ false)) image memory
          (λ k e h. (rules.memories k e h, find_none (λ m. not (list_any (is_array m) arrays)) image none k e h)) is in
          of_memory memory i d holds.1.0 within (name_is (get_or arrays i d).name memory holds.0) holds.1.1

  filled : (array : ArrayItem) (cells : List ℕ) → IsFor array cells → length (cells ++ replicate (array.depth - length cells) 0) ≡ array.depth
  filled array cells fit = simp (length-append, length-replicate) (omega (arith, fit.room))

  narrow : (array : ArrayItem) (cells : List ℕ) (j : ℕ) → IsFor array cells → j < length (cells ++ replicate (array.depth - length cells) 0)
      → get_or (cells ++ replicate (array.depth - length cells) 0) j 0 < 2 ^ array.width
  narrow array cells j fit within = ⊎_elim
      (λ l. rw (get_or_append_left cells (replicate (array.depth - length cells) 0) 0 j l) (fit.within j 0 l))
      (λ l. let in_zeros : j - length cells < array.depth - length cells = omega (arith, filled array cells fit) in
      let zero_there : get_or (cells ++ replicate (array.depth - length cells) 0) j 0 ≡ 0
      = get_or-append_right cells (replicate (array.depth - length cells) 0) (length cells) j 0 refl l ∙ get_or-replicate (array.depth - length cells) (j - length cells) 0 0 in_zeros in
      omega (arith, zero_there, pow_pos array.width))
      (cases_lt j (length cells))

  row : (k : ℕ) (d : ArrayItem) → k < length arrays → get_or (first_cells arrays image) k [] ≡ loaded image (get_or arrays k d)
  row k d within = get_or-map (loaded image) arrays k d [] within

  pub shape : AreCells arrays (first_cells arrays image)
  shape = record {
    count = length-map arrays (loaded image);
    depths = λ k d h. ap length (row k d h) ∙ filled (get_or arrays k d) _ (fits k d h);
    within = λ k j d h there. subst (λ cells. get_or cells j 0 < 2 ^ (get_or arrays k d).width) (sym (row k d h))
        (narrow (get_or arrays k d) _ j (fits k d h) (subst (λ cells. j < length cells) (row k d h) there));
  }
