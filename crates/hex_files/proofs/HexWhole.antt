-- The text of a memory as an Intel HEX file, line by line.
use Rattle.std.proofs.Common.{◌≡◌, ℕ, zero, suc, ◌+◌, ◌*◌, ◌/◌, ◌%◌, ◌^◌, ◌<◌, ◌≤◌, Bool, true, false, cond, List, [], ◌∷◌, ◌++◌, length, map, take, drop, length-drop, Option, Some, None, Result, Ok, Err, All, refl, sym, ap, subst, ◌∙◌, arith, inl, inr, append_assoc, length-append, eq-eqb, ne_eqb}
use Rattle.std.specs.Prelude.{nat_lt, ◌&&◌}
use Rattle.std.specs.List.{flat_map, concat}
use Rattle.std.specs.Str.Lines.{lines}
use Rattle.std.proofs.lemmas.Bool.{cases_lt, cases_eq, lt-ltb, le-ltb, le-leb}
use Rattle.std.proofs.lemmas.List.{append-nil, take-append-drop, length-take}
use Rattle.std.proofs.lemmas.List.Elements.{All-tail}
use Rattle.std.proofs.Math.ListN.{drop_of_length-le}
use Rattle.std.proofs.Math.Seq.{take-append_seam, drop-append_seam}
use Rattle.std.proofs.Math.Pow.{pow_mono}
use Rattle.std.proofs.Math.Nat.{mul-le-mul_left}
use Rattle.lisa_engine.specs.Memory.{Memory}
use Rattle.hex_files.specs.declared.faults.HexFault.{HexFault}
use Rattle.hex_files.specs.declared.faults.HexFault.TheVariants as faults
use Rattle.hex_files.specs.Maps.{Write, laid}
use Rattle.hex_files.specs.HexText.{byte_count, low_bytes, memory_bytes, pieces, record_line, upper_line, data_lines, hex_text}
use Rattle.hex_files.specs.Before.{unless}
use Rattle.hex_files.specs.HexReading.{◌>>=◌, is_past, given_by, size_of, hex_writes, little, cells_of, first_wide, hex_of}
use Rattle.hex_files.specs.HexMachine.{Step, base_behind, step_of, and_more, writes_from}
use Rattle.hex_files.specs.HexGives.{values_in}
use Rattle.hex_files.specs.Printable.{IsPrintable, array_of}
use Rattle.hex_files.proofs.MapLaws.{values_laid}
use Rattle.hex_files.proofs.DigitPuts.{length-low_bytes, length-bytes}
use Rattle.hex_files.proofs.PieceLaws.{pieces_some, pieces_none}
use Rattle.hex_files.proofs.HexRules.{lines_agree}
use Rattle.hex_files.proofs.LineSteps.{on_record, good_record}
use Rattle.hex_files.proofs.CellPieces.{hex_read}
use Rattle.hex_files.proofs.RecordTexts.{Bytes, nil, cons, bytes-append, bytes-take, bytes-drop, IsWhole, told, record_text, not_empty, first_cut, record_read}

-- ---- one record

-- from any line on, the text gives these writes at a base
Given : ℕ → ℕ → List ℕ → List Write → Type 0
Given size base text ws = (line : ℕ) → writes_from size line (Some base) (lines text) ≡ Ok ws

module _ (size base address kind : ℕ) (content : List ℕ) (w : IsWhole address kind content) (inside : is_past size base (told address kind content) ≡ false) where
  step_is : (line : ℕ) → step_of size line (Some base) (record_text address kind content) ≡ Ok (given_by base (told address kind content), base_behind base (told address kind content))
  step_is line =
      on_record size line (Some base) (record_text address kind content) (not_empty address kind content) (told address kind content) (record_read address kind content w line)
      ∙ good_record size line base (told address kind content) inside

  goes_on : (rest : List ℕ) (line : ℕ) → writes_from size line (Some base) (lines (record_line address kind content ++ rest)) ≡ and_more (given_by base (told address kind content)) (writes_from size (line + 1) (base_behind base (told address kind content)) (lines rest))
  unfolding writes_from
  goes_on rest line =
      ap (writes_from size line (Some base)) (first_cut address kind content w rest)
      ∙ ap (λ (r : Result Step HexFault). r >>= λ x. and_more x.0 (writes_from size (line + 1) x.1 (lines rest))) (step_is line)

-- ---- each sort of record

end_whole : IsWhole 0 1 []
end_whole = record { short = omega arith; few = omega arith; known = omega arith; bytes = nil; sized = refl }

ended : (size base : ℕ) → Given size base (record_line 0 1 []) []
unfolding Given writes_from
ended size base line =
    ap (λ (t : List ℕ). writes_from size line (Some base) (lines t)) (sym (append-nil (record_line 0 1 [])))
    ∙ goes_on size base 0 1 [] end_whole refl [] line

upper_whole : (new : ℕ) → new < 65536 → IsWhole 0 4 (new / 256 ∷ new % 256 ∷ [])
upper_whole new lt = record { short = omega arith; few = omega arith; known = omega arith; bytes = cons (omega (arith, lt)) (cons (omega arith) nil); sized = refl }

nothing_more : (r : Result (List Write) HexFault) → and_more [] r ≡ r
nothing_more (Err f) = refl
nothing_more (Ok ws) = refl

raised : (size base new : ℕ) (rest : List ℕ) (ws : List Write) → new < 65536 → Given size (65536 * new) rest ws → Given size base (record_line 0 4 (new / 256 ∷ new % 256 ∷ []) ++ rest) ws
unfolding Given
raised size base new rest ws lt given line =
    goes_on size base 0 4 (new / 256 ∷ new % 256 ∷ []) (upper_whole new lt) refl rest line
    ∙ nothing_more (writes_from size (line + 1) (Some (65536 * (256 * (new / 256) + new % 256))) (lines rest))
    ∙ (let e : 256 * (new / 256) + new % 256 ≡ new = omega arith in ap (λ (n : ℕ). writes_from size (line + 1) (Some (65536 * n)) (lines rest)) e)
    ∙ given (line + 1)

above : (size upper new : ℕ) (rest : List ℕ) (ws : List Write) → new < 65536 → Given size (65536 * new) rest ws → Given size (65536 * upper) (upper_line upper new ++ rest) ws
unfolding Given
above size upper new rest ws lt given = elim (cases_eq upper new) [
  | inl e ↦ (λ line. rw (eq-eqb upper new e) (ap (λ (n : ℕ). writes_from size line (Some (65536 * n)) (lines rest)) e ∙ given line))
  | inr n ↦ (λ line. rw (ne_eqb upper new n) (raised size (65536 * upper) new rest ws lt given line))
]

-- ---- data

-- pieces from an address on, none of which passes a 16-bit address 65,535
data Tiles : ℕ → List (List ℕ) → Type 0 where
  done : {a : ℕ} → Tiles a []
  tile : {a : ℕ} {p : List ℕ} {ps : List (List ℕ)} → 0 < length p → length p < 256 → a % 65536 + length p ≤ 65536 → Bytes p → Tiles (a + length p) ps → Tiles a (p ∷ ps)

laid-append : (a : ℕ) (xs ys : List ℕ) → laid a xs ++ laid (a + length xs) ys ≡ laid a (xs ++ ys)
unfolding laid
laid-append a [] ys = let e : a + 0 ≡ a = omega arith in ap (λ (n : ℕ). laid n ys) e
laid-append a (x ∷ xs) ys = ap (λ (ws : List Write). (a, x) ∷ ws) ((let e : a + suc (length xs) ≡ a + 1 + length xs = omega arith in ap (λ (n : ℕ). laid (a + 1) xs ++ laid n ys) e) ∙ laid-append (a + 1) xs ys)

data_whole : (a : ℕ) (p : List ℕ) → length p < 256 → a % 65536 + length p ≤ 65536 → Bytes p → IsWhole (a % 65536) 0 p
data_whole a p few room g = record { short = omega arith; few = few; known = omega arith; bytes = g; sized = le-leb (a % 65536 + length p) 65536 room }

data_inside : (size a : ℕ) (p : List ℕ) → a + length p ≤ size → is_past size (65536 * (a / 65536)) (told (a % 65536) 0 p) ≡ false
data_inside size a p le =
    rw (le-ltb size (65536 * (a / 65536) + a % 65536 + length p) (omega (arith, le))) (never (nat_lt 0 (length p)))
  where
    never : (b : Bool) → b && false ≡ false
    never true = refl
    never false = refl

put : (size a : ℕ) (p rest : List ℕ) (ws : List Write) → length p < 256 → a % 65536 + length p ≤ 65536 → Bytes p → a + length p ≤ size → Given size (65536 * (a / 65536)) rest ws → Given size (65536 * (a / 65536)) (record_line (a % 65536) 0 p ++ rest) (laid a p ++ ws)
unfolding Given
put size a p rest ws few room g le given line =
    goes_on size (65536 * (a / 65536)) (a % 65536) 0 p (data_whole a p few room g) (data_inside size a p le) rest line
    ∙ ap (and_more (laid (65536 * (a / 65536) + a % 65536) p)) (given (line + 1))
    ∙ (let e : 65536 * (a / 65536) + a % 65536 ≡ a = omega arith in ap (λ (n : ℕ). Ok (laid n p ++ ws)) e)

all_put : (size upper a : ℕ) (ps : List (List ℕ)) → Tiles a ps → a + length (concat ps) ≤ size → size ≤ 4294967296 → Given size (65536 * upper) (data_lines upper a ps ++ record_line 0 1 []) (laid a (concat ps))
unfolding data_lines laid
all_put size upper a [] done le small = ended size (65536 * upper)
all_put size upper a (p ∷ ps) (tile pos few room g more) le small =
    let total : length (concat (p ∷ ps)) ≡ length p + length (concat ps) = length-append p (concat ps) in
    let new : ℕ = a / 65536 in
    let rest : List ℕ = data_lines new (a + length p) ps ++ record_line 0 1 [] in
    let high : new < 65536 = omega (arith, le, small, total, pos) in
    let given : Given size (65536 * new) (record_line (a % 65536) 0 p ++ rest) (laid a p ++ laid (a + length p) (concat ps)) =
    put size a p rest (laid (a + length p) (concat ps)) few room g (omega (arith, le, total)) (all_put size new (a + length p) ps more (omega (arith, le, total)) small) in
    subst (λ (ws : List Write). Given size (65536 * upper) ((upper_line upper new ++ (record_line (a % 65536) 0 p ++ data_lines new (a + length p) ps)) ++ record_line 0 1 []) ws) (laid-append a p (concat ps))
    (subst (λ (t : List ℕ). Given size (65536 * upper) t (laid a p ++ laid (a + length p) (concat ps))) (joined (upper_line upper new) (record_line (a % 65536) 0 p) (data_lines new (a + length p) ps) (record_line 0 1 []))
    (above size upper new (record_line (a % 65536) 0 p ++ rest) (laid a p ++ laid (a + length p) (concat ps)) high given))
  where
    joined : (u r d e : List ℕ) → u ++ (r ++ (d ++ e)) ≡ (u ++ (r ++ d)) ++ e
    joined u r d e = simp append_assoc

-- ---- pieces of 16 bytes

tiled_behind : (a : ℕ) (bs : List ℕ) → ((c : ℕ) → c % 16 ≡ 0 → Tiles c (pieces 16 (drop 16 bs))) → a % 16 ≡ 0 → Tiles (a + length (take 16 bs)) (pieces 16 (drop 16 bs))
tiled_behind a bs rec even = elim (cases_lt (length bs) 16) [
  | inl lt ↦ subst (λ (t : List ℕ). Tiles (a + length (take 16 bs)) (pieces 16 t)) (sym (drop_of_length-le bs {i = 16} (omega (arith, lt)))) (subst (Tiles (a + length (take 16 bs))) (sym (pieces_none 16 (omega arith))) done)
  | inr ge ↦ rec (a + length (take 16 bs)) (omega (arith, even, ge, length-take 16 bs))
]

tiled : (n a : ℕ) (bs : List ℕ) → length bs ≤ n → a % 16 ≡ 0 → Bytes bs → Tiles a (pieces 16 bs)
tiled n a [] le even g = subst (Tiles a) (sym (pieces_none 16 (omega arith))) done
tiled zero a (b ∷ bs) le even g = absurd (omega arith)
tiled (suc n) a (b ∷ bs) le even g = subst (Tiles a) (sym (pieces_some 16 (b ∷ bs) (omega arith) (omega arith)))
    (tile (omega (arith, length-take 16 (b ∷ bs))) (omega (arith, length-take 16 (b ∷ bs))) (omega (arith, even, length-take 16 (b ∷ bs))) (bytes-take 16 (b ∷ bs) g)
    (tiled_behind a (b ∷ bs) (λ c e. tiled n c (drop 16 (b ∷ bs)) (omega (arith, le, length-drop 16 (b ∷ bs))) e (bytes-drop 16 (b ∷ bs) g)) even))

joined_pieces : (n : ℕ) (bs : List ℕ) → length bs ≤ n → concat (pieces 16 bs) ≡ bs
joined_pieces n [] le = ap concat (pieces_none 16 (omega arith))
joined_pieces zero (b ∷ bs) le = absurd (omega arith)
joined_pieces (suc n) (b ∷ bs) le =
    ap concat (pieces_some 16 (b ∷ bs) (omega arith) (omega arith))
    ∙ ap (λ (t : List ℕ). take 16 (b ∷ bs) ++ t) (joined_pieces n (drop 16 (b ∷ bs)) (omega (arith, le, length-drop 16 (b ∷ bs)))) ∙ take-append-drop 16 (b ∷ bs)

-- ---- cells

low_are_bytes : (k v : ℕ) → Bytes (low_bytes k v)
unfolding low_bytes
low_are_bytes zero v = nil
low_are_bytes (suc k) v = cons (omega arith) (low_are_bytes k (v / 256))

all_are_bytes : (k : ℕ) (cs : List ℕ) → Bytes (flat_map (low_bytes k) cs)
all_are_bytes k [] = nil
all_are_bytes k (c ∷ cs) = bytes-append (low_bytes k c) (flat_map (low_bytes k) cs) (low_are_bytes k c) (all_are_bytes k cs)

little_low : (k v : ℕ) → v < 256 ^ k → little (low_bytes k v) ≡ v
unfolding low_bytes little
little_low zero v lt = omega (arith, lt)
little_low (suc k) v lt = let e = little_low k (v / 256) (omega (arith, lt)) in omega (arith, e)

cells_again : (k : ℕ) (cs : List ℕ) → 0 < k → All (λ c. c < 256 ^ k) cs → map little (pieces k (flat_map (low_bytes k) cs)) ≡ cs
cells_again k [] pos fits = ap (map little) (pieces_none k pos)
cells_again k (c ∷ cs) pos fits =
    let text : List ℕ = low_bytes k c ++ flat_map (low_bytes k) cs in
    ap (map little) (pieces_some k text pos (omega (arith, pos, length-append (low_bytes k c) (flat_map (low_bytes k) cs), length-low_bytes k c)))
    ∙ ap (λ (t : List ℕ). little t ∷ map little (pieces k (drop k text))) (first_part (low_bytes k c) (flat_map (low_bytes k) cs) k (length-low_bytes k c))
    ∙ ap (λ (t : List ℕ). little (low_bytes k c) ∷ map little (pieces k t)) (last_part (low_bytes k c) (flat_map (low_bytes k) cs) k (length-low_bytes k c))
    ∙ ap (λ (n : ℕ). n ∷ map little (pieces k (flat_map (low_bytes k) cs))) (little_low k c (fits 0 0 (omega arith)))
    ∙ ap (λ (t : List ℕ). c ∷ t) (cells_again k cs pos (All-tail (λ x. x < 256 ^ k) c cs fits))
  where
    first_part : (xs ys : List ℕ) (n : ℕ) → length xs ≡ n → take n (xs ++ ys) ≡ xs
    first_part xs ys n e = ap (λ (m : ℕ). take m (xs ++ ys)) (sym e) ∙ take-append_seam xs ys

    last_part : (xs ys : List ℕ) (n : ℕ) → length xs ≡ n → drop n (xs ++ ys) ≡ ys
    last_part xs ys n e = ap (λ (m : ℕ). drop m (xs ++ ys)) (sym e) ∙ drop-append_seam xs ys

none_wide : (width index : ℕ) (cs : List ℕ) → All (λ c. c < 2 ^ width) cs → first_wide width index cs ≡ None
unfolding first_wide
none_wide width index [] fits = refl
none_wide width index (c ∷ cs) fits =
    ap (λ (b : Bool). cond b (first_wide width (index + 1) cs) (Some (faults.CellRange index c width))) (lt-ltb c (2 ^ width) (fits 0 0 (omega arith)))
    ∙ none_wide width (index + 1) cs (All-tail (λ x. x < 2 ^ width) c cs fits)

as_bits : (k : ℕ) → 256 ^ k ≡ 2 ^ (8 * k)
as_bits zero = refl
as_bits (suc k) = let r = as_bits k in let e : 8 * suc k ≡ suc (suc (suc (suc (suc (suc (suc (suc (8 * k)))))))) = omega arith in omega (arith, r, ap (λ (n : ℕ). 2 ^ n) e)

enough : (width : ℕ) → 2 ^ width ≤ 256 ^ byte_count width
enough width = let le : width ≤ 8 * byte_count width = omega arith in omega (arith, as_bits (byte_count width), pow_mono le)

-- ---- the whole

module _ (m : Memory) (p : IsPrintable m) where
  k : ℕ
  k = byte_count m.width

  bytes : List ℕ
  bytes = memory_bytes m

  positive : 0 < k
  unfolding k
  positive = let s = p.some in omega arith

  few : k ≤ 8
  unfolding k
  few = let s = p.wide in omega arith

  deep : m.depth ≤ 1048576
  deep = let d = p.depth in omega (arith, d.3, pow_mono {i = d.0} {j = 20} d.2)

  room : length bytes ≤ size_of (array_of m)
  unfolding k bytes
  room = omega (arith, length-bytes k m.cells, mul-le-mul_left k p.room)

  small : size_of (array_of m) ≤ 4294967296
  unfolding k
  small = omega (arith, mul-le-mul_left k deep, mul-le-mul_left 1048576 few)

  written : hex_writes (array_of m) (hex_text m) ≡ Ok (laid 0 bytes)
  unfolding k bytes Given
  written =
      sym (lines_agree (size_of (array_of m)) (lines (hex_text m)))
      ∙ all_put (size_of (array_of m)) 0 0 (pieces 16 bytes) (tiled (length bytes) 0 bytes (omega arith) refl (all_are_bytes k m.cells)) (omega (arith, room, ap length (joined_pieces (length bytes) bytes (omega arith)))) small 1
      ∙ ap (λ (t : List ℕ). Ok (laid 0 t)) (joined_pieces (length bytes) bytes (omega arith))

  again : cells_of m.width bytes ≡ m.cells
  unfolding k bytes
  again = cells_again k m.cells positive (λ i d lt. omega (arith, p.within i d lt, enough m.width))

  pub read_back : hex_of (array_of m) (hex_text m) ≡ Ok m
  unfolding bytes
  read_back = hex_read (array_of m) (hex_text m) bytes m.cells
      (ap values_in written ∙ ap (λ (t : List ℕ). Ok t) (values_laid bytes))
      (ap (λ (cs : List ℕ). unless (first_wide m.width 0 cs) cs) again ∙ ap (λ (o : Option HexFault). unless o m.cells) (none_wide m.width 0 m.cells p.within))
