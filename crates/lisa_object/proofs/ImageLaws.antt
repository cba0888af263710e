-- Images are read back, and nothing else is.
use Rattle.std.proofs.Common.{◌≡◌, ◌≢◌, ℕ, zero, suc, ◌+◌, ◌-◌, ◌*◌, ◌^◌, ◌<◌, ◌≤◌, Bool, true, false, cond, List, [], ◌∷◌, ◌++◌, length, map, Option, Some, None, refl, sym, ap, subst, ◌∙◌, inl, inr, append_assoc, arith}
use Rattle.std.specs.Prelude.{nat_lt, nat_le, ◌==◌, ◌&&◌, not, codes, decimal, All, AllPairs, sum_by, IsTrue}
use Rattle.std.specs.List.{list_any, list_all, slice_split, flat_map}
use Rattle.std.specs.Str.{bytes_eq}
use Rattle.std.proofs.lemmas.Bool.{and_parts, and_from, lt-ltb, le-leb, leb-true, ltb-true, not-true, false≢true}
use Rattle.std.proofs.lemmas.List.Elements.{All-nil, All-cons, All-head, All-tail}
use Rattle.std.proofs.Math.Pow.{pow_mono}
use Rattle.lisa_engine.specs.Memory.{Memory}
use Rattle.lisa_engine.specs.Images.{IsDepth, IsMemory}
use Rattle.lisa_object.specs.declared.image_reader.Extent.{Extent}
use Rattle.lisa_object.specs.Texts.{line_of, hex, memory_head, memory_lines}
use Rattle.lisa_object.specs.Rules.{is_visible, is_depth}
use Rattle.lisa_object.specs.Reading.{◌>>=◌, Word, is_last, hex_of}
use Rattle.lisa_object.specs.ImageReading.{is_extent, head_at, cell_at, cells_of, filled, memory_of, and_more, memories_of}
use Rattle.lisa_object.proofs.Options.{bind_some, some_is, cond_some, guard_some}
use Rattle.lisa_object.proofs.WordLaws.{same_bytes, bytes_same, hex_there, hex_back}
use Rattle.lisa_object.proofs.TextLaws.{lacks, all_lack, all_lack-append, line_lacks}
use Rattle.lisa_object.proofs.PlainWords.{is_plain, plain_lacks, decimal_plain, hex_plain, visible_plain}
use Rattle.lisa_object.proofs.HeadLaws.{head_words, FitsExtent, head_there, head_back, depth_there, depth_back}
use Rattle.lisa_object.proofs.CellLoop.{Counted, cells_counted}

-- ---- cells

pub pow_small : (w : ℕ) → w ≤ 64 → 2 ^ w ≤ 2 ^ 64
pow_small w le = pow_mono {i = w} {j = 64} le

cell_there : (width n : ℕ) → width ≤ 64 → n < 2 ^ width → cell_at width (hex n) ≡ Some n
unfolding cell_at
cell_there width n wide lt = rw (hex_there n (omega (arith, lt, pow_small width wide)), lt-ltb n (2 ^ width) lt) refl

cell_back : (width : ℕ) (line : Word) (n : ℕ) → cell_at width line ≡ Some n → (line ≡ hex n) × (n < 2 ^ width)
unfolding cell_at
cell_back width line n e =
    let a = bind_some (hex_of line) (λ n. cond (nat_lt n (2 ^ width)) (Some n) None) n e in
    let b = guard_some (nat_lt a.0 (2 ^ width)) a.0 n a.2 in
    ((hex_back a.0 line a.1).1 ∙ ap hex b.1, subst (λ (k : ℕ). k < 2 ^ width) b.1 (ltb-true a.0 (2 ^ width) b.0))

pub cells_there : (width : ℕ) (cells : List ℕ) (lines : List Word) → width ≤ 64 → All (λ value. value < 2 ^ width) cells → cells_of width (length cells) (map hex cells ++ lines) ≡ Some (cells, lines)
unfolding cells_of
cells_there width [] lines wide h = refl
cells_there width (c ∷ cs) lines wide h =
    rw (cell_there width c wide (All-head (λ value. value < 2 ^ width) c cs h), cells_there width cs lines wide (All-tail (λ value. value < 2 ^ width) c cs h)) refl

pub cells_back : (width n : ℕ) (lines : List Word) (cells : List ℕ) (rest : List Word) → cells_of width n lines ≡ Some (cells, rest) → (lines ≡ map hex cells ++ rest) × All (λ value. value < 2 ^ width) cells
unfolding cells_of
cells_back width zero lines cells rest e =
    let same : ([], lines) ≡ (cells, rest) = some_is ([], lines) (cells, rest) e in
    subst (λ (x : List ℕ × List Word). (lines ≡ map hex x.0 ++ x.1) × All (λ value. value < 2 ^ width) x.0) same (refl, All-nil (λ value. value < 2 ^ width))
cells_back width (suc n) [] cells rest e = absurd cc
cells_back width (suc n) (line ∷ lines) cells rest e =
    let a = bind_some (cell_at width line) (λ cell. cells_of width n lines >>= λ r. Some (cell ∷ r.0, r.1)) (cells, rest) e in
    let b = bind_some (cells_of width n lines) (λ r. Some (a.0 ∷ r.0, r.1)) (cells, rest) a.2 in
    let same : (a.0 ∷ b.0.0, b.0.1) ≡ (cells, rest) = some_is (a.0 ∷ b.0.0, b.0.1) (cells, rest) b.2 in
    let first = cell_back width line a.0 a.1 in
    let more = cells_back width n lines b.0.0 b.0.1 b.1 in
    subst (λ (x : List ℕ × List Word). (line ∷ lines ≡ map hex x.0 ++ x.1) × All (λ value. value < 2 ^ width) x.0) same
    (ap (λ (l : Word). l ∷ lines) first.0 ∙ ap (λ (l : List Word). hex a.0 ∷ l) more.0, All-cons (λ value. value < 2 ^ width) a.0 b.0.0 first.1 more.1)

-- ---- one memory

-- a memory that may stand behind so many cells and these names
pub record MayFollow (before : ℕ) (seen : List Word) (m : Memory) : Type 0 where
  pub memory : IsMemory m
  pub visible : is_visible m.name ≡ true
  pub room : before + length m.cells ≤ 4194304
  pub new : list_any (bytes_eq m.name) seen ≡ false

extent_for : Memory → Extent
extent_for m = record { width = m.width; depth = m.depth; count = length m.cells }

pub depth_small : (d : ℕ) → IsDepth d → d < 2 ^ 32
depth_small d h = omega (arith, h.3, pow_mono {i = h.0} {j = 20} h.2)

extent_there : (m : Memory) → IsMemory m → is_extent (extent_for m) ≡ true
unfolding extent_for
extent_there m h = and_from _ _ (and_from _ _ (and_from _ _ (and_from _ _ (le-leb 1 m.width h.narrow) (le-leb m.width 64 h.wide)) (depth_there m.depth h.depth)) (le-leb 1 (length m.cells) h.some)) (le-leb (length m.cells) m.depth h.room)

extent_fits : (m : Memory) → IsMemory m → FitsExtent (extent_for m)
unfolding extent_for
extent_fits m h = record { width = omega (arith, h.wide); depth = depth_small m.depth h.depth; count = omega (arith, h.room, depth_small m.depth h.depth) }

pub memory_there : (before : ℕ) (seen : List Word) (m : Memory) (lines : List Word) → MayFollow before seen m → memory_of before seen (memory_head m) (map hex m.cells ++ lines) ≡ Some (m, lines)
unfolding memory_of extent_for
memory_there before seen m lines h =
    let there : head_at (memory_head m) ≡ Some (m.name, extent_for m) = head_there m.name (extent_for m) h.visible (extent_there m h.memory) (extent_fits m h.memory) in
    ap (λ (q : Option (Word × Extent)). q >>= λ h. cond (nat_le (before + h.1.count) 4194304 && not (list_any (bytes_eq h.0) seen)) (cells_of h.1.width h.1.count (map hex m.cells ++ lines) >>= λ r. Some (filled h.0 h.1 r.0, r.1)) None) there
    ∙ rw (le-leb (before + length m.cells) 4194304 h.room, h.new, cells_there m.width m.cells lines h.memory.wide h.memory.within) refl

pub record IsNext (before : ℕ) (seen : List Word) (line : Word) (lines : List Word) (m : Memory) (rest : List Word) : Type 0 where
  pub parts : line ∷ lines ≡ memory_lines m ++ rest
  pub may : MayFollow before seen m

pub memory_back : (before : ℕ) (seen : List Word) (line : Word) (lines : List Word) (m : Memory) (rest : List Word) → memory_of before seen line lines ≡ Some (m, rest) → IsNext before seen line lines m rest
unfolding memory_of
memory_back before seen line lines m rest e =
    let a = bind_some (head_at line) (λ h. cond (nat_le (before + h.1.count) 4194304 && not (list_any (bytes_eq h.0) seen)) (cells_of h.1.width h.1.count lines >>= λ r. Some (filled h.0 h.1 r.0, r.1)) None) (m, rest) e in
    let b = cond_some (nat_le (before + a.0.1.count) 4194304 && not (list_any (bytes_eq a.0.0) seen)) (cells_of a.0.1.width a.0.1.count lines >>= λ r. Some (filled a.0.0 a.0.1 r.0, r.1)) (m, rest) a.2 in
    let d = bind_some (cells_of a.0.1.width a.0.1.count lines) (λ r. Some (filled a.0.0 a.0.1 r.0, r.1)) (m, rest) b.1 in
    let tests = and_parts (nat_le (before + a.0.1.count) 4194304) (not (list_any (bytes_eq a.0.0) seen)) b.0 in
    let head = head_back line a.0.0 a.0.1 a.1 in
    let cells = cells_back a.0.1.width a.0.1.count lines d.0.0 d.0.1 d.1 in
    let counted = cells_counted a.0.1.width a.0.1.count lines d.0.0 d.0.1 d.1 in
    let k1 = and_parts (nat_le 1 a.0.1.width && nat_le a.0.1.width 64 && is_depth a.0.1.depth && nat_le 1 a.0.1.count) (nat_le a.0.1.count a.0.1.depth) head.kept in
    let k2 = and_parts (nat_le 1 a.0.1.width && nat_le a.0.1.width 64 && is_depth a.0.1.depth) (nat_le 1 a.0.1.count) k1.0 in
    let k3 = and_parts (nat_le 1 a.0.1.width && nat_le a.0.1.width 64) (is_depth a.0.1.depth) k2.0 in
    let k4 = and_parts (nat_le 1 a.0.1.width) (nat_le a.0.1.width 64) k3.0 in
    let same : (filled a.0.0 a.0.1 d.0.0, d.0.1) ≡ (m, rest) = some_is (filled a.0.0 a.0.1 d.0.0, d.0.1) (m, rest) d.2 in
    subst (λ (x : Memory × List Word). IsNext before seen line lines x.0 x.1) same (record {
      parts = ap (λ (l : Word). l ∷ lines) (head.text ∙ ap (λ (n : ℕ). line_of (codes "memory" ∷ a.0.0 ∷ decimal a.0.1.width ∷ decimal a.0.1.depth ∷ decimal n ∷ [])) (sym counted.cells)) ∙ ap (λ (l : List Word). memory_head (filled a.0.0 a.0.1 d.0.0) ∷ l) cells.0;
      may = record {
        memory = record {
          narrow = leb-true 1 a.0.1.width k4.0;
          wide = leb-true a.0.1.width 64 k4.1;
          depth = depth_back a.0.1.depth k3.1;
          some = omega (arith, leb-true 1 a.0.1.count k2.1, counted.cells);
          room = omega (arith, leb-true a.0.1.count a.0.1.depth k1.1, counted.cells);
          within = cells.1;
        };
        visible = head.seen;
        room = omega (arith, leb-true (before + a.0.1.count) 4194304 tests.0, counted.cells);
        new = not-true (list_any (bytes_eq a.0.0) seen) tests.1;
      };
    })

-- ---- all memories

-- memories that may stand behind so many cells and these names
abbrev pub MayStand : ℕ → List Word → List Memory → Type 0
MayStand before seen [] = Unit {0}
MayStand before seen (m ∷ ms) = MayFollow before seen m × MayStand (before + length m.cells) (m.name ∷ seen) ms

pub memories_there : (n before : ℕ) (seen : List Word) (ms : List Memory) → MayStand before seen ms → length ms < n → memories_of n before seen (flat_map memory_lines ms ++ codes "end" ∷ [] ∷ []) ≡ Some ms
unfolding memories_of
memories_there zero before seen ms h lt = absurd (omega arith)
memories_there (suc n) before seen [] h lt = refl
memories_there (suc n) before seen (m ∷ ms) h lt =
    let there = memory_there before seen m (flat_map memory_lines ms ++ codes "end" ∷ [] ∷ []) h.0 in
    let more = memories_there n (before + length m.cells) (m.name ∷ seen) ms h.1 (omega arith) in
    rw (append_assoc (map hex m.cells) (flat_map memory_lines ms) (codes "end" ∷ [] ∷ []), there, more) refl

last_back : (lines : List Word) → is_last lines ≡ true → lines ≡ [] ∷ []
last_back [] e = absurd (false≢true e)
last_back ([] ∷ []) e = refl
last_back ([] ∷ w ∷ ws) e = absurd (false≢true e)
last_back ((b ∷ bs) ∷ ws) e = absurd (false≢true e)

pub memories_back : (n before : ℕ) (seen lines : List Word) (ms : List Memory) → memories_of n before seen lines ≡ Some ms → (lines ≡ flat_map memory_lines ms ++ codes "end" ∷ [] ∷ []) × MayStand before seen ms
unfolding memories_of
memories_back zero before seen lines ms e = absurd cc
memories_back (suc n) before seen [] ms e = absurd cc
memories_back (suc n) before seen (line ∷ lines) ms e = go (bytes_eq line (codes "end")) refl e (λ before seen lines ms e. memories_back n before seen lines ms e)
  where
    go : (t : Bool) → bytes_eq line (codes "end") ≡ t → cond t (cond (is_last lines) (Some []) None) (memory_of before seen line lines >>= and_more (memories_of n) before seen) ≡ Some ms
        → ((before : ℕ) (seen lines : List Word) (ms : List Memory) → memories_of n before seen lines ≡ Some ms → (lines ≡ flat_map memory_lines ms ++ codes "end" ∷ [] ∷ []) × MayStand before seen ms)
        → (line ∷ lines ≡ flat_map memory_lines ms ++ codes "end" ∷ [] ∷ []) × MayStand before seen ms
    go true is f more =
        let a = guard_some (is_last lines) [] ms f in
        subst (λ (x : List Memory). (line ∷ lines ≡ flat_map memory_lines x ++ codes "end" ∷ [] ∷ []) × MayStand before seen x) a.1
        (ap (λ (l : Word). l ∷ lines) (bytes_same line (codes "end") is) ∙ ap (λ (l : List Word). codes "end" ∷ l) (last_back lines a.0), tt)
    go false is f more =
        let a = bind_some (memory_of before seen line lines) (and_more (memories_of n) before seen) ms f in
        let b = bind_some (memories_of n (before + length a.0.0.cells) (a.0.0.name ∷ seen) a.0.1) (λ all. Some (a.0.0 ∷ all)) ms a.2 in
        let next = memory_back before seen line lines a.0.0 a.0.1 a.1 in
        let rest = more (before + length a.0.0.cells) (a.0.0.name ∷ seen) a.0.1 b.0 b.1 in
        subst (λ (x : List Memory). (line ∷ lines ≡ flat_map memory_lines x ++ codes "end" ∷ [] ∷ []) × MayStand before seen x) (some_is (a.0.0 ∷ b.0) ms b.2)
        (next.parts ∙ ap (λ (l : List Word). memory_lines a.0.0 ++ l) rest.0 ∙ sym (append_assoc (memory_lines a.0.0) (flat_map memory_lines b.0) (codes "end" ∷ [] ∷ [])), (next.may, rest.1))
