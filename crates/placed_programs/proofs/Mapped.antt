-- What cells hold may be mapped: places and names don't look at it.
use Rattle.std.proofs.Common.{◌≡◌, ℕ, ◌+◌, ℤ, pos, Bool, true, false, List, [], ◌∷◌, ◌++◌, map, Option, None, Some, refl, ap, ◌∙◌}
use Rattle.std.specs.Prelude.{filter, flat_map, replicate}
use Rattle.std.specs.List.{list_any}
use Rattle.std.specs.Str.{bytes_eq}
use Rattle.lisa_engine.specs.Memory.{Memory}
use Rattle.lisa_engine.specs.declared.parts.ArrayItem.{ArrayItem}
use Rattle.placed_programs.specs.Entries.{Entry, Enter, Room, Put, Mark, Equal, Share, mapped}
use Rattle.placed_programs.specs.Addresses.{Counts, no_cells, adding, counts_after, address, definitions}
use Rattle.placed_programs.specs.Symbols.{Symbols, with_counts, shared_by, is_shared, exports, all_exports, symbol}
use Rattle.placed_programs.specs.Placed.{Sense, is_some_cell, cells_in, part_cells, placed_memory, placed_image}

-- so it is of each content of the entries
abbrev pub AllContents : {C : Type 0} → (C → Type 0) → List (Entry C) → Type 0
AllContents P [] = Unit {0}
AllContents P (Enter n w ∷ es) = AllContents P es
AllContents P (Room n ∷ es) = AllContents P es
AllContents P (Put c ∷ es) = P c × AllContents P es
AllContents P (Mark n ∷ es) = AllContents P es
AllContents P (Equal n v ∷ es) = AllContents P es
AllContents P (Share n ∷ es) = AllContents P es

abbrev pub AllParts : {C : Type 0} → (C → Type 0) → List (List (Entry C)) → Type 0
AllParts P [] = Unit {0}
AllParts P (es ∷ parts) = AllContents P es × AllParts P parts

module _ {C D : Type 0} (f : C → D) where
  abbrev there : List (Entry C) → List (Entry D)
  there es = map (mapped f) es

  counts_kept : (counts : Counts) (here : Option (List ℕ)) (es : List (Entry C)) → counts_after counts here (there es) ≡ counts_after counts here es
  counts_kept counts here [] = refl
  counts_kept counts here (Enter n w ∷ es) = counts_kept (adding here 0 counts) (Some n) es
  counts_kept counts here (Room n ∷ es) = counts_kept (adding here n counts) here es
  counts_kept counts here (Put c ∷ es) = counts_kept (adding here 1 counts) here es
  counts_kept counts here (Mark n ∷ es) = counts_kept (adding here 0 counts) here es
  counts_kept counts here (Equal n v ∷ es) = counts_kept (adding here 0 counts) here es
  counts_kept counts here (Share n ∷ es) = counts_kept (adding here 0 counts) here es

  definitions_kept : (counts : Counts) (here : Option (List ℕ)) (es : List (Entry C)) → definitions counts here (there es) ≡ definitions counts here es
  definitions_kept counts here [] = refl
  definitions_kept counts here (Enter n w ∷ es) = definitions_kept (adding here 0 counts) (Some n) es
  definitions_kept counts here (Room n ∷ es) = definitions_kept (adding here n counts) here es
  definitions_kept counts here (Put c ∷ es) = definitions_kept (adding here 1 counts) here es
  definitions_kept counts here (Mark n ∷ es) = ap (λ (ds : List (List ℕ × ℤ)). (n, pos (address here counts)) ∷ ds) (definitions_kept (adding here 0 counts) here es)
  definitions_kept counts here (Equal n v ∷ es) = ap (λ (ds : List (List ℕ × ℤ)). (n, v) ∷ ds) (definitions_kept (adding here 0 counts) here es)
  definitions_kept counts here (Share n ∷ es) = definitions_kept (adding here 0 counts) here es

  shares_kept : (es : List (Entry C)) → flat_map shared_by (there es) ≡ flat_map shared_by es
  shares_kept [] = refl
  shares_kept (Enter n w ∷ es) = shares_kept es
  shares_kept (Room n ∷ es) = shares_kept es
  shares_kept (Put c ∷ es) = shares_kept es
  shares_kept (Mark n ∷ es) = shares_kept es
  shares_kept (Equal n v ∷ es) = shares_kept es
  shares_kept (Share n ∷ es) = ap (λ (ns : List (List ℕ)). n ∷ ns) (shares_kept es)

  exports_kept : (counts : Counts) (es : List (Entry C)) → exports counts (there es) ≡ exports counts es
  exports_kept counts es =
      ap (λ (ns : List (List ℕ)). filter (λ (d : List ℕ × ℤ). list_any (bytes_eq d.0) ns) (definitions counts None (there es))) (shares_kept es)
      ∙ ap (λ (ds : List (List ℕ × ℤ)). filter (λ (d : List ℕ × ℤ). is_shared es d.0) ds) (definitions_kept counts None es)

  all_kept : (counts : Counts) (parts : List (List (Entry C))) → all_exports (with_counts counts (map there parts)) ≡ all_exports (with_counts counts parts)
  all_kept counts [] = refl
  all_kept counts (es ∷ parts) =
      ap (λ (ds : List (List ℕ × ℤ)). ds ++ all_exports (with_counts (counts_after counts None (there es)) (map there parts))) (exports_kept counts es)
      ∙ ap (λ (cs : Counts). exports counts es ++ all_exports (with_counts cs (map there parts))) (counts_kept counts None es)
      ∙ ap (λ (ds : List (List ℕ × ℤ)). exports counts es ++ ds) (all_kept (counts_after counts None es) parts)

  module _ (sense : Sense C) (other : Sense D) where
    -- what a content means there is what it means here
    abbrev Means : C → Type 0
    Means c = (symbols : Symbols) (a : ℕ) → other symbols a (f c) ≡ sense symbols a c

    cells_kept : (symbols : Symbols) (m : List ℕ) (inside : Bool) (a : ℕ) (es : List (Entry C)) → AllContents Means es
        → cells_in other symbols m inside a (there es) ≡ cells_in sense symbols m inside a es
    cells_kept symbols m true a [] all = refl
    cells_kept symbols m true a (Enter n w ∷ es) all = cells_kept symbols m (bytes_eq m n) (a + 0) es all
    cells_kept symbols m true a (Room n ∷ es) all = ap (λ (xs : List ℕ). replicate n 0 ++ xs) (cells_kept symbols m true (a + n) es all)
    cells_kept symbols m true a (Put c ∷ es) all =
        ap (λ (x : ℕ). x ∷ cells_in other symbols m true (a + 1) (there es)) (all.0 symbols a)
        ∙ ap (λ (xs : List ℕ). sense symbols a c ∷ xs) (cells_kept symbols m true (a + 1) es all.1)
    cells_kept symbols m true a (Mark n ∷ es) all = cells_kept symbols m true (a + 0) es all
    cells_kept symbols m true a (Equal n v ∷ es) all = cells_kept symbols m true (a + 0) es all
    cells_kept symbols m true a (Share n ∷ es) all = cells_kept symbols m true (a + 0) es all
    cells_kept symbols m false a [] all = refl
    cells_kept symbols m false a (Enter n w ∷ es) all = cells_kept symbols m (bytes_eq m n) a es all
    cells_kept symbols m false a (Room n ∷ es) all = cells_kept symbols m false a es all
    cells_kept symbols m false a (Put c ∷ es) all = cells_kept symbols m false a es all.1
    cells_kept symbols m false a (Mark n ∷ es) all = cells_kept symbols m false a es all
    cells_kept symbols m false a (Equal n v ∷ es) all = cells_kept symbols m false a es all
    cells_kept symbols m false a (Share n ∷ es) all = cells_kept symbols m false a es all

    parts_kept : (others : List (List ℕ × ℤ)) (m : List ℕ) (counts : Counts) (parts : List (List (Entry C))) → AllParts Means parts
        → flat_map (part_cells other others m) (with_counts counts (map there parts)) ≡ flat_map (part_cells sense others m) (with_counts counts parts)
    parts_kept others m counts [] all = refl
    parts_kept others m counts (es ∷ parts) all =
        let cells : List ℕ = part_cells sense others m (counts, es) in
        let rest : Counts → List ℕ = λ cs. flat_map (part_cells other others m) (with_counts cs (map there parts)) in
        ap (λ (ds : List (List ℕ × ℤ)). cells_in other (symbol ds others) m false (counts m) (there es) ++ rest (counts_after counts None (there es))) (definitions_kept counts None es)
        ∙ ap (λ (xs : List ℕ). xs ++ rest (counts_after counts None (there es))) (cells_kept (symbol (definitions counts None es) others) m false (counts m) es all.0)
        ∙ ap (λ (cs : Counts). cells ++ rest cs) (counts_kept counts None es)
        ∙ ap (λ (xs : List ℕ). cells ++ xs) (parts_kept others m (counts_after counts None es) parts all.1)

    memory_kept : (parts : List (List (Entry C))) (a : ArrayItem) → AllParts Means parts
        → placed_memory other (with_counts no_cells (map there parts)) a ≡ placed_memory sense (with_counts no_cells parts) a
    memory_kept parts a all =
        let made : List ℕ → Memory = λ xs. record { name = a.name; width = a.width; depth = a.depth; cells = xs } in
        ap made (
        ap (λ (ds : List (List ℕ × ℤ)). flat_map (part_cells other ds a.name) (with_counts no_cells (map there parts))) (all_kept no_cells parts)
        ∙ parts_kept (all_exports (with_counts no_cells parts)) a.name no_cells parts all)

    memories_kept : (parts : List (List (Entry C))) (memories : List ArrayItem) → AllParts Means parts
        → map (placed_memory other (with_counts no_cells (map there parts))) memories ≡ map (placed_memory sense (with_counts no_cells parts)) memories
    memories_kept parts [] all = refl
    memories_kept parts (a ∷ memories) all =
        ap (λ (m : Memory). m ∷ map (placed_memory other (with_counts no_cells (map there parts))) memories) (memory_kept parts a all)
        ∙ ap (λ (ms : List Memory). placed_memory sense (with_counts no_cells parts) a ∷ ms) (memories_kept parts memories all)

    -- the image of the mapped contents is the image
    pub image_kept : (memories : List ArrayItem) (parts : List (List (Entry C))) → AllParts Means parts
        → placed_image other memories (map (map (mapped f)) parts) ≡ placed_image sense memories parts
    image_kept memories parts all = ap (λ (ms : List Memory). filter (λ (m : Memory). is_some_cell m.cells) ms) (memories_kept parts memories all)
