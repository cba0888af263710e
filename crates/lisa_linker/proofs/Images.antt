-- The image of linked objects keeps the rules of images.
use Rattle.std.proofs.Common.{◌≡◌, ◌≢◌, ◌<◌, ◌≤◌, ◌+◌, ℕ, suc, ℤ, Bool, true, false, cond, List, [], ◌∷◌, ◌++◌, length, map, filter, get_or, None, Some, refl, sym, ap, ◌∙◌, arith}
use Rattle.std.specs.Prelude.{All, AllPairs, sum_by, flat_map, nat_lt}
use Rattle.std.specs.Option.{option_or}
use Rattle.std.specs.Str.{bytes_eq}
use Rattle.std.proofs.lemmas.Bool.{ltb-false}
use Rattle.std.proofs.lemmas.List.{length-append}
use Rattle.std.proofs.lemmas.List.Elements.{All-nil, All-cons, All-head, All-tail}
use Rattle.std.proofs.lemmas.List.Sums.{sum_by-cons}
use Rattle.std.proofs.lemmas.List.Kept.{AllPairs-cons}
use Rattle.std.proofs.lemmas.Slice.Eq.{bytes_eq-Decides}
use Rattle.lisa_engine.specs.Memory.{Memory}
use Rattle.lisa_engine.specs.Images.{IsMemory, IsImage}
use Rattle.lisa_engine.specs.declared.parts.ArrayItem.{ArrayItem}
use Rattle.lisa_object.specs.declared.faults.LinkFault.TheVariants as faults
use Rattle.lisa_object.specs.Objects.{PlainObject}
use Rattle.lisa_object.specs.ObjectRules.{IsObject}
use Rattle.placed_programs.specs.Addresses.{Counts, no_cells, counts_after, definitions}
use Rattle.placed_programs.specs.Symbols.{with_counts, all_exports, symbol}
use Rattle.placed_programs.specs.Placed.{object_sense, part_cells, is_some_cell, placed_memory, placed_image}
use Rattle.placed_programs.proofs.Counted.{counts_grow}
use Rattle.object_links.specs.Firsts.{first_of}
use Rattle.object_links.specs.LinkFaults.{Entries, named_width, capped, all_counts, if_overfull, overfull, first_unknown}
use Rattle.object_links.specs.LineNames.{parts_of}
use Rattle.lisa_linker.specs.Memories.{IsPlace, AreMemories}
use Rattle.lisa_linker.specs.Parts.{all_cells}
use Rattle.lisa_linker.proofs.Within.{none_both, parts_within}

-- ---- a memory of its own name has its width

same_name : (n : List ℕ) → bytes_eq n n ≡ true
same_name n = (bytes_eq-Decides n n).1 refl

other_name : (n m : List ℕ) → m ≢ n → bytes_eq n m ≡ false
other_name n m apart = by (bytes_eq n m) refl
  where
    by : (b : Bool) → bytes_eq n m ≡ b → bytes_eq n m ≡ false
    by true e = absurd (apart (sym ((bytes_eq-Decides n m).0 e)))
    by false e = e

abbrev Apart : ArrayItem → ArrayItem → Type 0
Apart a b = a.name ≢ b.name

pairs_tail : (a : ArrayItem) (arrays : List ArrayItem) → AllPairs Apart (a ∷ arrays) → AllPairs Apart arrays
pairs_tail a arrays h = λ i j d lt within. h (suc i) (suc j) d (omega arith) (omega arith)

pairs_head : (a : ArrayItem) (arrays : List ArrayItem) → AllPairs Apart (a ∷ arrays) → All (Apart a) arrays
pairs_head a arrays h = λ k d lt. h 0 (suc k) d (omega arith) (omega arith)

widths_found : (arrays : List ArrayItem) → AllPairs Apart arrays → All (λ a. named_width arrays a.name ≡ Some a.width) arrays
widths_found [] apart = All-nil (λ a. named_width [] a.name ≡ Some a.width)
widths_found (a ∷ arrays) apart =
    All-cons (λ b. named_width (a ∷ arrays) b.name ≡ Some b.width) a arrays
    (ap (λ (b : Bool). option_or (cond b (Some a.width) None) (named_width arrays a.name)) (same_name a.name))
    (λ k d lt.
    let b : ArrayItem = get_or arrays k d in
    ap (λ (t : Bool). option_or (cond t (Some a.width) None) (named_width arrays b.name)) (other_name b.name a.name (pairs_head a arrays apart k d lt))
    ∙ widths_found arrays (pairs_tail a arrays apart) k d lt)

-- ---- a memory has room

none_overfull : (counts : Counts) (arrays : List ArrayItem) → first_of (if_overfull counts) arrays ≡ None → All (λ a. counts a.name ≤ a.depth) arrays
none_overfull counts [] e = All-nil (λ a. counts a.name ≤ a.depth)
none_overfull counts (a ∷ arrays) e =
    let both = none_both (if_overfull counts a) (first_of (if_overfull counts) arrays) e in
    All-cons (λ b. counts b.name ≤ b.depth) a arrays (has_room a both.0) (none_overfull counts arrays both.1)
  where
    has_room : (b : ArrayItem) → if_overfull counts b ≡ None → counts b.name ≤ b.depth
    has_room b h = by (nat_lt b.depth (counts b.name)) refl
      where
        by : (t : Bool) → nat_lt b.depth (counts b.name) ≡ t → counts b.name ≤ b.depth
        by true t = absurd (let told : if_overfull counts b ≡ Some (faults.DoesNotFit b.name (capped (counts b.name)) b.depth) = ap (λ (x : Bool). cond x (Some (faults.DoesNotFit b.name (capped (counts b.name)) b.depth)) None) t in cc (told, h))
        by false t = ltb-false b.depth (counts b.name) t

parts_length : (shared : List (List ℕ × ℤ)) (m : List ℕ) (counts : Counts) (parts : List Entries)
    → counts m + length (flat_map (part_cells object_sense shared m) (with_counts counts parts)) ≡ all_counts counts parts m
parts_length shared m counts [] = omega arith
parts_length shared m counts (es ∷ parts) =
    let own : List ℕ = part_cells object_sense shared m (counts, es) in
    let rest : List ℕ = flat_map (part_cells object_sense shared m) (with_counts (counts_after counts None es) parts) in
    let grown : counts_after counts None es m ≡ counts m + length own = counts_grow object_sense (symbol (definitions counts None es) shared) m counts None (counts m) es in
    let behind : counts_after counts None es m + length rest ≡ all_counts (counts_after counts None es) parts m = parts_length shared m (counts_after counts None es) parts in
    let both : length (own ++ rest) ≡ length own + length rest = length-append own rest in
    omega (arith, grown, behind, both)

-- ---- the memories that have cells

module _ (memories : List ArrayItem) (objects : List PlainObject)
    (rules : (i : ℕ) (d : PlainObject) → i < length objects → IsObject (get_or objects i d))
    (known : first_unknown memories (parts_of objects) ≡ None) where
  abbrev placed : ArrayItem → Memory
  placed a = placed_memory object_sense (with_counts no_cells (parts_of objects)) a

  abbrev has_cells : Memory → Bool
  has_cells m = is_some_cell m.cells

  record IsReady (a : ArrayItem) : Type 0 where
    place : IsPlace a
    width : named_width memories a.name ≡ Some a.width
    room : all_counts no_cells (parts_of objects) a.name ≤ a.depth

  cells_fit : (a : ArrayItem) → IsReady a → length (placed a).cells ≤ a.depth
  cells_fit a h =
      let size : 0 + length (all_cells (parts_of objects) a.name) ≡ all_counts no_cells (parts_of objects) a.name =
      parts_length (all_exports (with_counts no_cells (parts_of objects))) a.name no_cells (parts_of objects) in
      let room : all_counts no_cells (parts_of objects) a.name ≤ a.depth = h.room in
      omega (arith, size, room)

  some_cells : (cs : List ℕ) → is_some_cell cs ≡ true → 1 ≤ length cs
  some_cells [] e = absurd (cc e)
  some_cells (c ∷ cs) e = omega arith

  is_memory : (a : ArrayItem) → IsReady a → has_cells (placed a) ≡ true → IsMemory (placed a)
  is_memory a h some = record {
    narrow = h.place.narrow;
    wide = h.place.wide;
    depth = h.place.depth;
    some = some_cells (placed a).cells some;
    room = cells_fit a h;
    within = parts_within (named_width memories) (all_exports (with_counts no_cells (parts_of objects))) a.name a.width h.width no_cells objects rules known;
  }

  abbrev kept : List ArrayItem → List Memory
  kept arrays = filter has_cells (map placed arrays)

  module _ (a : ArrayItem) (arrays : List ArrayItem) where
    -- what holds with the memory and without it holds of what is kept
    either : (P : List Memory → Type 0) → (has_cells (placed a) ≡ true → P (placed a ∷ kept arrays)) → P (kept arrays) → P (kept (a ∷ arrays))
    either P with without = by (has_cells (placed a)) refl
      where
        by : (b : Bool) → has_cells (placed a) ≡ b → P (cond b (placed a ∷ kept arrays) (kept arrays))
        by true e = with e
        by false e = without

  kept_memories : (arrays : List ArrayItem) → All IsReady arrays → All IsMemory (kept arrays)
  kept_memories [] all = All-nil IsMemory
  kept_memories (a ∷ arrays) all =
      let rest : All IsMemory (kept arrays) = kept_memories arrays (All-tail IsReady a arrays all) in
      either a arrays (λ ms. All IsMemory ms) (λ e. All-cons IsMemory (placed a) (kept arrays) (is_memory a (All-head IsReady a arrays all) e) rest) rest

  kept_apart : (n : List ℕ) (arrays : List ArrayItem) → All (λ a. n ≢ a.name) arrays → All (λ m. n ≢ m.name) (kept arrays)
  kept_apart n [] all = All-nil (λ m. n ≢ m.name)
  kept_apart n (a ∷ arrays) all =
      let rest : All (λ m. n ≢ m.name) (kept arrays) = kept_apart n arrays (All-tail (λ b. n ≢ b.name) a arrays all) in
      either a arrays (λ ms. All (λ m. n ≢ m.name) ms) (λ e. All-cons (λ m. n ≢ m.name) (placed a) (kept arrays) (All-head (λ b. n ≢ b.name) a arrays all) rest) rest

  kept_distinct : (arrays : List ArrayItem) → AllPairs Apart arrays → AllPairs (λ a b. a.name ≢ b.name) (kept arrays)
  kept_distinct [] apart = λ i j d lt within. absurd (omega arith)
  kept_distinct (a ∷ arrays) apart =
      let rest : AllPairs (λ a b. a.name ≢ b.name) (kept arrays) = kept_distinct arrays (pairs_tail a arrays apart) in
      either a arrays (λ ms. AllPairs (λ a b. a.name ≢ b.name) ms)
      (λ e. AllPairs-cons (λ (m n : Memory). m.name ≢ n.name) (placed a) (kept arrays) (kept_apart a.name arrays (pairs_head a arrays apart)) rest) rest

  abbrev sizes_of_all : List Memory → ℕ
  sizes_of_all ms = sum_by (λ m. length m.cells) ms

  kept_total : (arrays : List ArrayItem) → All IsReady arrays → sizes_of_all (kept arrays) ≤ sum_by (λ a. a.depth) arrays
  kept_total [] all = omega arith
  kept_total (a ∷ arrays) all =
      let rest : sizes_of_all (kept arrays) ≤ sum_by (λ b. b.depth) arrays = kept_total arrays (All-tail IsReady a arrays all) in
      let own : length (placed a).cells ≤ a.depth = cells_fit a (All-head IsReady a arrays all) in
      let whole : sum_by (λ (b : ArrayItem). b.depth) (a ∷ arrays) ≡ a.depth + sum_by (λ (b : ArrayItem). b.depth) arrays = sum_by-cons (λ (b : ArrayItem). b.depth) a arrays in
      let more : sizes_of_all (placed a ∷ kept arrays) ≡ length (placed a).cells + sizes_of_all (kept arrays) = sum_by-cons (λ (m : Memory). length m.cells) (placed a) (kept arrays) in
      either a arrays (λ ms. sizes_of_all ms ≤ sum_by (λ b. b.depth) (a ∷ arrays)) (λ e. omega (arith, rest, own, whole, more)) (omega (arith, rest, own, whole))

  pub image_rules : AreMemories memories → overfull memories (parts_of objects) ≡ None → IsImage (placed_image object_sense memories (parts_of objects))
  image_rules places room =
      let widths : All (λ a. named_width memories a.name ≡ Some a.width) memories = widths_found memories places.distinct in
      let rooms : All (λ a. all_counts no_cells (parts_of objects) a.name ≤ a.depth) memories = none_overfull (all_counts no_cells (parts_of objects)) memories room in
      let ready : All IsReady memories = λ k d lt. record { place = places.places k d lt; width = widths k d lt; room = rooms k d lt } in
      let total : sizes_of_all (kept memories) ≤ sum_by (λ a. a.depth) memories = kept_total memories ready in
      let most : sum_by (λ a. a.depth) memories ≤ 4194304 = places.total in
      record {
        memories = kept_memories memories ready;
        distinct = kept_distinct memories places.distinct;
        total = omega (arith, total, most);
      }
