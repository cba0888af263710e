-- Cells, piece by piece.
use Rattle.std.proofs.Common.{◌≡◌, ℕ, suc, ◌+◌, ◌*◌, ◌^◌, ◌<◌, ◌≤◌, Bool, true, false, cond, List, [], ◌∷◌, ◌++◌, length, map, take, drop, Option, Some, None, Result, Ok, Err, refl, sym, ap, ◌∙◌, arith, append_assoc, length-append}
use Rattle.std.specs.Prelude.{nat_lt}
use Rattle.std.proofs.lemmas.List.{append-nil}
use Rattle.std.proofs.Math.Nat.{pow-le-pow_right}
use Rattle.lisa_engine.specs.declared.parts.ArrayItem.{ArrayItem}
use Rattle.hex_files.specs.declared.faults.HexFault.{HexFault}
use Rattle.hex_files.specs.declared.faults.HexFault.TheVariants as faults
use Rattle.hex_files.specs.Maps.{Write, values_of}
use Rattle.hex_files.specs.HexText.{pieces}
use Rattle.hex_files.specs.Before.{unless}
use Rattle.hex_files.specs.Arrays.{with_cells}
use Rattle.hex_files.specs.HexReading.{◌>>=◌, little, cells_of, first_wide, filled, hex_writes, hex_of}
use Rattle.hex_files.specs.HexGives.{values_in}
use Rattle.hex_files.proofs.PieceLaws.{pieces_some, pieces_none}

-- the number that a byte and the bytes behind it are, which are so many
pub little_small : (n x b : ℕ) → n ≤ 7 → x < 256 ^ n → b < 256 → (b + 256 * x < 256 ^ (n + 1)) × (256 * x < 2 ^ 64) × (b + 256 * x < 2 ^ 64)
little_small n x b le lt small =
    let p : 256 ^ n ≤ 256 ^ 7 = pow-le-pow_right (omega arith) le in
    let e : 256 ^ (n + 1) ≡ 256 * 256 ^ n = (let f : n + 1 ≡ suc n = omega arith in ap (λ (k : ℕ). 256 ^ k) f ∙ omega arith) in
    (omega (arith, e, lt, small), omega (arith, p, lt), omega (arith, p, lt, small))

wide_on : (width index : ℕ) (cell : ℕ) (cells : List ℕ) → nat_lt cell (2 ^ width) ≡ true → first_wide width index (cell ∷ cells) ≡ first_wide width (index + 1) cells
unfolding first_wide
wide_on width index cell cells e = ap (λ (b : Bool). cond b (first_wide width (index + 1) cells) (Some (faults.CellRange index cell width))) e

wide_here : (width index : ℕ) (cell : ℕ) (cells : List ℕ) → nat_lt cell (2 ^ width) ≡ false → first_wide width index (cell ∷ cells) ≡ Some (faults.CellRange index cell width)
unfolding first_wide
wide_here width index cell cells e = ap (λ (b : Bool). cond b (first_wide width (index + 1) cells) (Some (faults.CellRange index cell width))) e

wide_none : (width index : ℕ) → first_wide width index [] ≡ None
unfolding first_wide
wide_none width index = refl

-- cells that were read, and those of what is left
abbrev pub cells_with : ℕ → ℕ → List ℕ → List ℕ → Result (List ℕ) HexFault
cells_with width size cells rest = unless (first_wide width (length cells) (map little (pieces size rest))) (cells ++ map little (pieces size rest))

pub cells_begin : (width size : ℕ) (cells rest : List ℕ) → cells ≡ [] → cells_with width size cells rest ≡ unless (first_wide width 0 (map little (pieces size rest))) (map little (pieces size rest))
cells_begin width size cells rest e = ap (λ (l : List ℕ). cells_with width size l rest) e

module _ (width size : ℕ) (cells rest : List ℕ) (total : Result (List ℕ) HexFault) (same : cells_with width size cells rest ≡ total) (sized : 0 < size) where
  first_is : 0 < length rest → map little (pieces size rest) ≡ little (take size rest) ∷ map little (pieces size (drop size rest))
  first_is pos = ap (map little) (pieces_some size rest sized pos)

  open_is : 0 < length rest → unless (first_wide width (length cells) (little (take size rest) ∷ map little (pieces size (drop size rest)))) (cells ++ little (take size rest) ∷ map little (pieces size (drop size rest))) ≡ total
  open_is pos = ap (λ (l : List ℕ). unless (first_wide width (length cells) l) (cells ++ l)) (sym (first_is pos)) ∙ same

  pub cell_read : (piece more now : List ℕ) (cell : ℕ) → 0 < length rest → piece ≡ take size rest → more ≡ drop size rest → cell ≡ little piece → nat_lt cell (2 ^ width) ≡ true → now ≡ cells ++ cell ∷ [] → cells_with width size now more ≡ total
  cell_read piece more now cell pos p m is fits e =
      let there : cell ≡ little (take size rest) = is ∙ ap little p in
      let tail : List ℕ = map little (pieces size (drop size rest)) in
      ap (λ (l : List ℕ). cells_with width size l more) e ∙ ap (λ (l : List ℕ). cells_with width size (cells ++ cell ∷ []) l) m
      ∙ ap (λ (k : ℕ). unless (first_wide width k tail) ((cells ++ cell ∷ []) ++ tail)) (length-append cells (cell ∷ []))
      ∙ ap (λ (l : List ℕ). unless (first_wide width (length cells + 1) tail) l) (append_assoc cells (cell ∷ []) tail)
      ∙ ap (λ (o : Option HexFault). unless o (cells ++ cell ∷ tail)) (sym (wide_on width (length cells) cell tail fits))
      ∙ ap (λ (k : ℕ). unless (first_wide width (length cells) (k ∷ tail)) (cells ++ k ∷ tail)) there
      ∙ open_is pos

  pub cell_wide : (piece : List ℕ) (cell : ℕ) → 0 < length rest → piece ≡ take size rest → cell ≡ little piece → nat_lt cell (2 ^ width) ≡ false → total ≡ Err (faults.CellRange (length cells) cell width)
  cell_wide piece cell pos p is fits =
      let there : cell ≡ little (take size rest) = is ∙ ap little p in
      let tail : List ℕ = map little (pieces size (drop size rest)) in
      sym (open_is pos) ∙ ap (λ (k : ℕ). unless (first_wide width (length cells) (k ∷ tail)) (cells ++ k ∷ tail)) (sym there)
      ∙ ap (λ (o : Option HexFault). unless o (cells ++ cell ∷ tail)) (wide_here width (length cells) cell tail fits)

  pub cells_done : length rest ≡ 0 → total ≡ Ok cells
  cells_done e =
      sym same ∙ ap (λ (ps : List (List ℕ)). unless (first_wide width (length cells) (map little ps)) (cells ++ map little ps)) (empty rest e)
      ∙ ap (λ (o : Option HexFault). unless o (cells ++ [])) (wide_none width (length cells)) ∙ ap (λ (l : List ℕ). Ok l) (append-nil cells)
    where
      empty : (l : List ℕ) → length l ≡ 0 → pieces size l ≡ []
      empty [] f = pieces_none size sized
      empty (x ∷ l) f = absurd (omega (arith, f))

-- ---- the whole

cells_in : ℕ → List ℕ → Result (List ℕ) HexFault
cells_in width values = unless (first_wide width 0 (cells_of width values)) (cells_of width values)

with_memory : (array : ArrayItem) (o : Option HexFault) (cells : List ℕ) → unless o (with_cells array cells) ≡ (unless o cells >>= λ cs. Ok (with_cells array cs))
with_memory array None cells = refl
with_memory array (Some f) cells = refl

whole : (array : ArrayItem) (r : Result (List Write) HexFault) → (r >>= λ ws. filled array (cells_of array.width (values_of ws))) ≡ (values_in r >>= λ values. cells_in array.width values >>= λ cs. Ok (with_cells array cs))
unfolding cells_in
whole array (Err f) = refl
whole array (Ok ws) = with_memory array (first_wide array.width 0 (cells_of array.width (values_of ws))) (cells_of array.width (values_of ws))

pub hex_read : (array : ArrayItem) (bytes values cells : List ℕ) → values_in (hex_writes array bytes) ≡ Ok values → unless (first_wide array.width 0 (cells_of array.width values)) (cells_of array.width values) ≡ Ok cells → hex_of array bytes ≡ Ok (with_cells array cells)
unfolding cells_in
hex_read array bytes values cells e f =
    whole array (hex_writes array bytes) ∙ ap (λ (r : Result (List ℕ) HexFault). r >>= λ vs. cells_in array.width vs >>= λ cs. Ok (with_cells array cs)) e
    ∙ ap (λ (r : Result (List ℕ) HexFault). r >>= λ cs. Ok (with_cells array cs)) f
