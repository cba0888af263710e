-- The memories that have an image's cells for their names are the image's.
use Rattle.std.proofs.Common.{◌≡◌, ◌≢◌, ◌≤◌, ℕ, Bool, true, false, cond, List, [], ◌∷◌, ◌++◌, length, map, filter, refl, sym, ap, ◌∙◌, subst, arith}
use Rattle.std.specs.List.{AllByRecursion}
use Rattle.std.specs.Str.{bytes_eq}
use Rattle.std.proofs.lemmas.List.{append-nil}
use Rattle.lisa_engine.specs.Memory.{Memory}
use Rattle.lisa_engine.specs.declared.parts.ArrayItem.{ArrayItem}
use Rattle.instruction_trees.specs.Trees.{In, here, there}
use Rattle.placed_programs.specs.Placed.{is_some_cell}
use Rattle.listing_promises.proofs.Named.{same_name, one_name, other_name, in_all, filter_in, in_filter, Apart, one_named}

-- the cells that an image has for memories of this name
abbrev pub named_cells : List ℕ → List Memory → List ℕ
named_cells name [] = []
named_cells name (m ∷ image) = cond (bytes_eq name m.name) m.cells [] ++ named_cells name image

abbrev pub name_of : Memory → List ℕ
name_of m = m.name

abbrev pub array_name : ArrayItem → List ℕ
array_name a = a.name

no_cells : (name : List ℕ) (image : List Memory) → AllByRecursion (λ (m : Memory). name ≢ m.name) image → named_cells name image ≡ []
no_cells name [] all = refl
no_cells name (m ∷ image) all = ap (λ (b : Bool). cond b m.cells [] ++ named_cells name image) (other_name name m.name all.0) ∙ no_cells name image all.1

its_cells : (image : List Memory) → Apart name_of image → (m : Memory) → In m image → named_cells m.name image ≡ m.cells
its_cells [] apart m i = elim i [ ]
its_cells (x ∷ image) apart m (here) =
    ap (λ (b : Bool). cond b m.cells [] ++ named_cells m.name image) (same_name m.name)
    ∙ ap (λ (l : List ℕ). m.cells ++ l) (no_cells m.name image apart.0)
    ∙ append-nil m.cells
its_cells (x ∷ image) apart m (there i) =
    ap (λ (b : Bool). cond b x.cells [] ++ named_cells m.name image) (other_name m.name x.name (λ e. in_all (λ (y : Memory). x.name ≢ y.name) image m apart.0 i (sym e)))
    ∙ its_cells image apart.1 m i

its_memory : (name : List ℕ) (image : List Memory) → is_some_cell (named_cells name image) ≡ true → (m : Memory) × In m image × (m.name ≡ name)
its_memory name [] h = absurd (cc h)
its_memory name (x ∷ image) h = by (bytes_eq name x.name) refl h (its_memory name image)
  where
    by : (b : Bool) → bytes_eq name x.name ≡ b → is_some_cell (cond b x.cells [] ++ named_cells name image) ≡ true
        → (is_some_cell (named_cells name image) ≡ true → (m : Memory) × In m image × (m.name ≡ name)) → (m : Memory) × In m (x ∷ image) × (m.name ≡ name)
    by true e g later = (x, here, sym (one_name name x.name e))
    by false e g later = let r = later g in (r.0, there r.1, r.2)

some_cell : (cells : List ℕ) → 1 ≤ length cells → is_some_cell cells ≡ true
some_cell [] h = absurd (omega (arith, h))
some_cell (c ∷ cells) h = refl

same_memory : (x y : Memory) → x.name ≡ y.name → x.width ≡ y.width → x.depth ≡ y.depth → x.cells ≡ y.cells → x ≡ y
same_memory x y name width depth cells = λ i. record { name = name i; width = width i; depth = depth i; cells = cells i }

-- the array is one of these, and is the memory's
pub record IsArrayOf (memories : List ArrayItem) (m : Memory) (a : ArrayItem) : Type 0 where
  pub inside : In a memories
  pub name : a.name ≡ m.name
  pub width : a.width ≡ m.width
  pub depth : a.depth ≡ m.depth

-- a memory of an image has some cells, and an array with room for them
pub record IsHeld (memories : List ArrayItem) (m : Memory) : Type 0 where
  pub some : 1 ≤ length m.cells
  pub room : length m.cells ≤ m.depth
  pub array : ArrayItem
  pub is : IsArrayOf memories m array

module _ (memories : List ArrayItem) (image : List Memory) (arrays_apart : Apart array_name memories) (image_apart : Apart name_of image) (held : (m : Memory) → In m image → IsHeld memories m) where
  -- a memory with the cells that the image has for its name
  abbrev pub filled_from : ArrayItem → Memory
  filled_from a = record { name = a.name; width = a.width; depth = a.depth; cells = named_cells a.name image }

  abbrev has_cells : Memory → Bool
  has_cells m = is_some_cell m.cells

  abbrev pub relisted : List Memory
  relisted = filter has_cells (map filled_from memories)

  filled : (m : Memory) → In m image → (a : ArrayItem) → IsArrayOf memories m a → filled_from a ≡ m
  filled m i a is = same_memory (filled_from a) m is.name is.width is.depth (ap (λ (n : List ℕ). named_cells n image) is.name ∙ its_cells image image_apart m i)

  -- an array for which the image has cells is that of one of its memories
  found : (a : ArrayItem) → In a memories → has_cells (filled_from a) ≡ true → (m : Memory) × In m image × (filled_from a ≡ m)
  found a i some =
      let named = its_memory a.name image some in
      let own = held named.0 named.1 in
      let same : own.array ≡ a = one_named array_name memories arrays_apart own.array a own.is.inside i (own.is.name ∙ named.2) in
      (named.0, named.1, ap filled_from (sym same) ∙ filled named.0 named.1 own.array own.is)

  pub none_more : (m : Memory) → In m relisted → In m image
  none_more = filter_in has_cells filled_from (λ (y : Memory). In y image) memories (λ a i some. let r = found a i some in subst (λ (y : Memory). In y image) (sym r.2) r.1)

  pub none_less : (m : Memory) → In m image → In m relisted
  none_less m i =
      let own = held m i in
      let e : filled_from own.array ≡ m = filled m i own.array own.is in
      subst (λ (y : Memory). In y relisted) e (in_filter has_cells filled_from memories own.array own.is.inside (ap has_cells e ∙ some_cell m.cells own.some))

  pub has_room : (a : ArrayItem) → In a memories → length (named_cells a.name image) ≤ a.depth
  has_room a i = by (is_some_cell (named_cells a.name image)) refl
    where
      none : (cells : List ℕ) → is_some_cell cells ≡ false → length cells ≤ a.depth
      none [] e = omega arith
      none (c ∷ cells) e = absurd (cc e)

      by : (b : Bool) → is_some_cell (named_cells a.name image) ≡ b → length (named_cells a.name image) ≤ a.depth
      by true e =
          let r = found a i e in
          let room = (held r.0 r.1).room in
          let cells : length (named_cells a.name image) ≡ length r.0.cells = ap (λ (m : Memory). length m.cells) r.2 in
          let depth : a.depth ≡ r.0.depth = ap (λ (m : Memory). m.depth) r.2 in
          omega (arith, room, cells, depth)
      by false e = none (named_cells a.name image) e
