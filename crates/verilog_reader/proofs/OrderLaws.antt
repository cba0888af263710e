-- Of the conditions on a module one is broken first.
use Rattle.std.proofs.Common.{◌≡◌, ℕ, zero, suc, ◌-◌, ◌^◌, List, [], ◌∷◌, Option, Some, None, refl, sym, ap, ◌∙◌, ◌⊎◌, inl, inr, ⊎_elim, arith}
use Rattle.std.specs.Prelude.{flat_map, option_map, slice_get, min}
use Rattle.std.proofs.Math.Pow.{pow-lt}
use Rattle.std.proofs.lemmas.Bool.{cases_lt}
use Rattle.lisa_words.proofs.StepLaws.{some_is}
use Rattle.verilog_text.specs.declared.faults.VerilogFault.{VerilogFault}
use Rattle.verilog_text.specs.declared.faults.VerilogFault.TheVariants as faults
use Rattle.verilog_text.specs.Tokens.{VTok}
use Rattle.verilog_text.specs.Trees.{VTree, ModuleTree}
use Rattle.verilog_text.specs.Values.{v_width}
use Rattle.verilog_text.specs.Clocked.{widths_of}
use Rattle.verilog_text.specs.Grammar.{SpellsModule}
use Rattle.verilog_text.specs.Conditions.{Use, IsExcess, counted, Store, member_indexes, used_name, event_name, what_of, count_of, limit_of, sort_of, NeedsWidth, IsDuplicate, IsUndeclared, IsWrongUse, IsUnset, IsMisindexed, IsDrivenTwice, IsTooMany}
use Rattle.verilog_text.specs.WidePlaces.{first_wide}
use Rattle.verilog_text.specs.Faults.{parts_of, IsTooWide, IsFirstBroken, HoldsAll, Holds4, Holds5, Holds6, Holds7, Holds8}
use Rattle.verilog_places.specs.Spelling.{PlacedToks}
use Rattle.verilog_places.proofs.PlacedSpellings.{place_or}
use Rattle.verilog_reader.proofs.FirstLaws.{one_first}

-- ---- what breaks a condition is one fault

abbrev One : (VerilogFault → Type 0) → Type 0
One Broken = (f g : VerilogFault) → Broken f → Broken g → f ≡ g

abbrev pub Duplicates : ModuleTree → VerilogFault → Type 0
Duplicates m f = (name : List ℕ) × IsDuplicate m name × (f ≡ faults.DuplicateName name)

abbrev pub Undeclares : ModuleTree → VerilogFault → Type 0
Undeclares m f = (name : List ℕ) × IsUndeclared m name × (f ≡ faults.UsedBeforeDeclared name)

abbrev pub Misuses : ModuleTree → VerilogFault → Type 0
Misuses m f = (name : List ℕ) × IsWrongUse m name × (f ≡ faults.WrongUse name)

abbrev pub Unsets : ModuleTree → VerilogFault → Type 0
Unsets m f = (name : List ℕ) × IsUnset m name × (f ≡ faults.NoInitial name)

abbrev pub Misindexes : ModuleTree → VerilogFault → Type 0
Misindexes m f = (name : List ℕ) × (width : ℕ) × (needed : ℕ) × IsMisindexed m name width needed × (f ≡ faults.IndexWidth name width needed)

abbrev pub Widens : Option ℕ → VerilogFault → Type 0
Widens wide f = (at : ℕ) × (wide ≡ Some at) × (f ≡ faults.TooWide at)

abbrev pub Drives : ModuleTree → VerilogFault → Type 0
Drives m f = (name : List ℕ) × IsDrivenTwice m name × (f ≡ faults.TwoDrivers name)

abbrev pub Exceeds : ModuleTree → VerilogFault → Type 0
Exceeds m f = (what : List ℕ) × (count : ℕ) × (limit : ℕ) × IsTooMany m what count limit × (f ≡ faults.TooMany what count limit)

one_duplicate : (m : ModuleTree) → One (Duplicates m)
one_duplicate m f g b d =
    let same = one_first _ _ _ _ b.1.1 d.1.1 in
    b.2 ∙ ap (λ (p : List (List ℕ) × List ℕ). faults.DuplicateName p.1) same ∙ sym d.2

one_undeclared : (m : ModuleTree) → One (Undeclares m)
one_undeclared m f g b d =
    let same = one_first _ _ _ _ b.1.1 d.1.1 in
    b.2 ∙ ap faults.UsedBeforeDeclared (sym b.1.2 ∙ ap (λ (p : List (List ℕ) × Use). used_name p.1) same ∙ d.1.2) ∙ sym d.2

one_misuse : (m : ModuleTree) → One (Misuses m)
one_misuse m f g b d =
    let same = one_first _ _ _ _ b.1.1 d.1.1 in
    b.2 ∙ ap faults.WrongUse (sym b.1.2 ∙ ap (λ (p : List (List ℕ) × Use). used_name p.1) same ∙ d.1.2) ∙ sym d.2

one_unset : (m : ModuleTree) → One (Unsets m)
one_unset m f g b d =
    let same = one_first _ _ _ _ b.1.1 d.1.1 in
    b.2 ∙ ap faults.NoInitial (sym b.1.2 ∙ ap event_name same ∙ d.1.2) ∙ sym d.2

one_wide : (wide : Option ℕ) → One (Widens wide)
one_wide wide f g b d = let same : Some b.0 ≡ Some d.0 = sym b.1 ∙ d.1 in cc

one_driven : (m : ModuleTree) → One (Drives m)
one_driven m f g b d =
    let same = one_first _ _ _ _ b.1.1 d.1.1 in
    b.2 ∙ ap (λ (p : List (List ℕ) × List ℕ). faults.TwoDrivers p.1) same ∙ sym d.2

one_excess : (m : ModuleTree) → One (Exceeds m)
one_excess m f g b d =
    let same : b.3.0 ≡ d.3.0 = one_first IsExcess (counted m) b.3.0 d.3.0 b.3.1 d.3.1 in
    let what : b.0 ≡ d.0 = sym b.3.2 ∙ ap what_of same ∙ d.3.2 in
    let count : b.1 ≡ d.1 = sym b.3.3 ∙ ap count_of same ∙ d.3.3 in
    let limit : b.2 ≡ d.2 = sym b.3.4 ∙ ap limit_of same ∙ d.3.4 in
    b.4 ∙ same_count what count limit ∙ sym d.4
  where
    same_count : {what others : List ℕ} {count counts limit limits : ℕ} → what ≡ others → count ≡ counts → limit ≡ limits → faults.TooMany what count limit ≡ faults.TooMany others counts limits
    same_count e f g = cc

exponents_same : (i j : ℕ) → 2 ^ i ≡ 2 ^ j → i ≡ j
exponents_same i j e = ⊎_elim (λ less. absurd (omega (arith, pow-lt less, e))) (λ le. ⊎_elim (λ less. absurd (omega (arith, pow-lt less, e))) (λ ge. omega (arith, le, ge)) (cases_lt j i)) (cases_lt i j)

depth_same : {w v d e : ℕ} → Some (Store w d) ≡ Some (Store v e) → d ≡ e
depth_same same = cc

one_misindexed : (m : ModuleTree) → One (Misindexes m)
one_misindexed m f g b d =
    let same : (b.0, b.3.0) ≡ (d.0, d.3.0) = one_first (λ (p : List ℕ × VTree). (k : ℕ) × NeedsWidth m p k) (flat_map member_indexes m.members) (b.0, b.3.0) (d.0, d.3.0) b.3.1 d.3.1 in
    let name : b.0 ≡ d.0 = ap (λ (p : List ℕ × VTree). p.0) same in
    let index : b.3.0 ≡ d.3.0 = ap (λ (p : List ℕ × VTree). p.1) same in
    let one : sort_of m b.0 ≡ Some (Store b.3.2.0 (2 ^ b.2)) = b.3.2.1 in
    let other : sort_of m d.0 ≡ Some (Store d.3.2.0 (2 ^ d.2)) = d.3.2.1 in
    let sorts : Some (Store b.3.2.0 (2 ^ b.2)) ≡ Some (Store d.3.2.0 (2 ^ d.2)) = sym one ∙ ap (sort_of m) name ∙ other in
    let powers : 2 ^ b.2 ≡ 2 ^ d.2 = depth_same sorts in
    let needed : b.2 ≡ d.2 = exponents_same b.2 d.2 powers in
    let width : b.1 ≡ d.1 = b.3.3 ∙ ap (λ (e : VTree). min (v_width (widths_of m) e) (2 ^ 32 - 1)) index ∙ sym d.3.3 in
    b.4 ∙ same_index name width needed ∙ sym d.4
  where
    same_index : {name others : List ℕ} {width wide needed wanted : ℕ} → name ≡ others → width ≡ wide → needed ≡ wanted → faults.IndexWidth name width needed ≡ faults.IndexWidth others wide wanted
    same_index e f g = cc

-- ---- conditions in order

-- one condition is broken, or it holds and the fault is of the later ones
abbrev Layer : (VerilogFault → Type 0) → (VerilogFault → Type 0) → VerilogFault → Type 0
Layer Broken Later f = Broken f ⊎ (((g : VerilogFault) → ¬ Broken g) × Later f)

one_layer : {Broken Later : VerilogFault → Type 0} → One Broken → One Later → One (Layer Broken Later)
one_layer broken later f g (inl x) (inl y) = broken f g x y
one_layer broken later f g (inl x) (inr y) = absurd (y.0 f x)
one_layer broken later f g (inr x) (inl y) = absurd (x.0 g y)
one_layer broken later f g (inr x) (inr y) = later f g x.1 y.1

no_layer : {Broken Later : VerilogFault → Type 0} → ((f : VerilogFault) → ¬ Broken f) → ((f : VerilogFault) → ¬ Later f) → (f : VerilogFault) → ¬ Layer Broken Later f
no_layer broken later f (inl x) = broken f x
no_layer broken later f (inr x) = later f x.1

-- the fault of a module, whose first place that is too wide is this
abbrev pub Breaks : ModuleTree → Option ℕ → VerilogFault → Type 0
Breaks m wide = Layer (Duplicates m) (Layer (Undeclares m) (Layer (Misuses m) (Layer (Unsets m) (Layer (Misindexes m) (Layer (Widens wide) (Layer (Drives m) (Exceeds m)))))))

pub one_breaks : (m : ModuleTree) (wide : Option ℕ) (f g : VerilogFault) → Breaks m wide f → Breaks m wide g → f ≡ g
one_breaks m wide =
    one_layer (one_duplicate m) (one_layer (one_undeclared m) (one_layer (one_misuse m) (one_layer (one_unset m) (one_layer (one_misindexed m) (one_layer (one_wide wide) (one_layer (one_driven m) (one_excess m)))))))

-- ---- what holds

no_duplicate : (m : ModuleTree) → Holds4 m → (f : VerilogFault) → ¬ Duplicates m f
no_duplicate m holds f b = holds b.0 b.1

no_undeclared : (m : ModuleTree) → Holds5 m → (f : VerilogFault) → ¬ Undeclares m f
no_undeclared m holds f b = holds.1 b.0 b.1

no_misuse : (m : ModuleTree) → Holds6 m → (f : VerilogFault) → ¬ Misuses m f
no_misuse m holds f b = holds.1 b.0 b.1

no_unset : (m : ModuleTree) → Holds7 m → (f : VerilogFault) → ¬ Unsets m f
no_unset m holds f b = holds.1 b.0 b.1

no_misindexed : (m : ModuleTree) → Holds8 m → (f : VerilogFault) → ¬ Misindexes m f
no_misindexed m holds f b = holds.1 b.0 b.1 b.2 b.3

no_wide : (wide : Option ℕ) → wide ≡ None → (f : VerilogFault) → ¬ Widens wide f
no_wide wide none f b = let some = b.1 in cc

-- ---- places of tokens

-- the place of the first that is too wide, by the places of the tokens
abbrev pub wide_of : (other : ℕ) (ts : PlacedToks) {m : ModuleTree} → SpellsModule (parts_of ts) m → Option ℕ
wide_of other ts s = option_map (place_or other ts) (first_wide s)

abbrev place_at : PlacedToks → ℕ → Option ℕ
place_at ts k = option_map (λ (t : ℕ × VTok). t.0) (slice_get ts k)

placed_at : (other : ℕ) (ts : PlacedToks) (k at : ℕ) → place_at ts k ≡ Some at → place_or other ts k ≡ at
placed_at other [] k at e = absurd cc
placed_at other (t ∷ ts) zero at e = cc
placed_at other (t ∷ ts) (suc k) at e = placed_at other ts k at e

-- a place that doesn't hang on what stands for a missing token is that of a token
at_place : (ts : PlacedToks) (k at : ℕ) → place_or 0 ts k ≡ at → place_or 1 ts k ≡ at → place_at ts k ≡ Some at
at_place [] k at e f = absurd (omega (arith, e, f))
at_place (t ∷ ts) zero at e f = ap (λ (n : ℕ). Some n) e
at_place (t ∷ ts) (suc k) at e f = at_place ts k at e f

map_none : {A B : Type 0} (f : A → B) (o : Option A) → option_map f o ≡ None → o ≡ None
map_none f None e = refl
map_none f (Some x) e = absurd cc

pub is_too_wide : (ts : PlacedToks) {m : ModuleTree} (s : SpellsModule (parts_of ts) m) (at : ℕ) → wide_of 0 ts s ≡ Some at → wide_of 1 ts s ≡ Some at → IsTooWide ts s at
is_too_wide ts s at e f = go (first_wide s) refl e f
  where
    go : (o : Option ℕ) → first_wide s ≡ o → option_map (place_or 0 ts) o ≡ Some at → option_map (place_or 1 ts) o ≡ Some at → IsTooWide ts s at
    go None is e f = absurd cc
    go (Some k) is e f = (k, is, at_place ts k at (some_is (place_or 0 ts k) at e) (some_is (place_or 1 ts k) at f))

pub none_wide : (ts : PlacedToks) {m : ModuleTree} (s : SpellsModule (parts_of ts) m) → wide_of 0 ts s ≡ None → first_wide s ≡ None
none_wide ts s e = map_none (place_or 0 ts) (first_wide s) e

too_wide_at : (ts : PlacedToks) {m : ModuleTree} (s : SpellsModule (parts_of ts) m) (at : ℕ) → IsTooWide ts s at → wide_of 0 ts s ≡ Some at
too_wide_at ts s at b = ap (option_map (place_or 0 ts)) b.1 ∙ ap (λ (n : ℕ). Some n) (placed_at 0 ts b.0 at b.2)

narrow_all : (ts : PlacedToks) {m : ModuleTree} (s : SpellsModule (parts_of ts) m) → first_wide s ≡ None → wide_of 0 ts s ≡ None
narrow_all ts s e = ap (option_map (place_or 0 ts)) e

-- ---- what tokens spell

-- what is broken first is the fault
pub breaks : (ts : PlacedToks) {m : ModuleTree} (s : SpellsModule (parts_of ts) m) (f : VerilogFault) → IsFirstBroken ts s f → Breaks m (wide_of 0 ts s) f
breaks ts {m = m} s (faults.DuplicateName name) h = inl (name, h, refl)
breaks ts {m = m} s (faults.UsedBeforeDeclared name) h = inr (no_duplicate m h.0, inl (name, h.1, refl))
breaks ts {m = m} s (faults.WrongUse name) h = inr (no_duplicate m h.0.0, inr (no_undeclared m h.0, inl (name, h.1, refl)))
breaks ts {m = m} s (faults.NoInitial name) h = inr (no_duplicate m h.0.0.0, inr (no_undeclared m h.0.0, inr (no_misuse m h.0, inl (name, h.1, refl))))
breaks ts {m = m} s (faults.IndexWidth name width needed) h =
    inr (no_duplicate m h.0.0.0.0, inr (no_undeclared m h.0.0.0, inr (no_misuse m h.0.0, inr (no_unset m h.0, inl (name, width, needed, h.1, refl)))))
breaks ts {m = m} s (faults.TooWide at) h =
    inr (no_duplicate m h.0.0.0.0.0, inr (no_undeclared m h.0.0.0.0, inr (no_misuse m h.0.0.0, inr (no_unset m h.0.0, inr (no_misindexed m h.0, inl (at, too_wide_at ts s at h.1, refl))))))
breaks ts {m = m} s (faults.TwoDrivers name) h =
    let eight : Holds8 m = h.0.0 in
    inr (no_duplicate m eight.0.0.0.0, inr (no_undeclared m eight.0.0.0, inr (no_misuse m eight.0.0, inr (no_unset m eight.0, inr (no_misindexed m eight, inr (no_wide (wide_of 0 ts s) (narrow_all ts s h.0.1), inl (name, h.1, refl)))))))
breaks ts {m = m} s (faults.TooMany what count limit) h =
    let eight : Holds8 m = h.0.0.0 in
    inr (
      no_duplicate m eight.0.0.0.0,
      inr (
        no_undeclared m eight.0.0.0,
        inr (
          no_misuse m eight.0.0,
          inr (
            no_unset m eight.0,
            inr (
              no_misindexed m eight,
              inr (
                no_wide (wide_of 0 ts s) (narrow_all ts s h.0.0.1),
                inr (λ g b. h.0.1 b.0 b.1, (what, count, limit, h.1, refl)),
              ),
            ),
          ),
        ),
      ),
    )
breaks ts s _ h = absurd h

-- where all holds there is no fault
pub unbroken : (ts : PlacedToks) {m : ModuleTree} (s : SpellsModule (parts_of ts) m) → HoldsAll s → (f : VerilogFault) → ¬ Breaks m (wide_of 0 ts s) f
unbroken ts {m = m} s h =
    let eight : Holds8 m = h.0.0.0 in
    no_layer (no_duplicate m eight.0.0.0.0) (no_layer (no_undeclared m eight.0.0.0) (no_layer (no_misuse m eight.0.0) (no_layer (no_unset m eight.0) (no_layer (no_misindexed m eight)
    (no_layer (no_wide (wide_of 0 ts s) (narrow_all ts s h.0.0.1)) (no_layer (λ f b. h.0.1 b.0 b.1) (λ f b. h.1 b.0 b.1 b.2 b.3)))))))
