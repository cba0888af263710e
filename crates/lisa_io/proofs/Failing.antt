-- One more fault of a file changes no content, and raises its count.
use Rattle.std.proofs.Common.{◌≡◌, ℕ, ◌+◌, ◌-◌, ◌<◌, ◌≤◌, ◌^◌, min, List, length, get_or, set, sym, ap, ◌∙◌, arith, Some, Err, true, false, [], ◌∷◌, suc, cond, refl, ◌≢◌, below_more, get_or-set_other, get_or-set_same, Bool}
use Rattle.std.specs.Prelude.{find, string_bytes, unwrap_or}
use Rattle.std.proofs.lemmas.Slice.Eq.{bytes_eq-Decides}
use Rattle.std.specs.Option.{option_map}
use Rattle.std.specs.Str.{bytes_eq}
use Rattle.lisa_io.specs.Causes.{HasCause}
use Rattle.lisa_io.specs.Memory.{named, file_name, file_bytes, file_content, file_faults}
use Rattle.lisa_io.specs.declared.files.MemFile.{MemFile}
use Rattle.lisa_io.proofs.Found.{find_map_set, find_map_other, find_rises, set_first}

pub record Fails (x y : MemFile) : Type 0 where
  pub name : y.name ≡ x.name
  pub bytes : y.bytes ≡ x.bytes
  pub faults : y.faults ≡ min (x.faults + 1) (2 ^ 64 - 1)
  pub fits : x.faults < 2 ^ 64

same_test : (files : List MemFile) (at : ℕ) (x y : MemFile) (n : List ℕ) → Fails x y → x ≡ get_or files at x → named n y ≡ named n (get_or files at x)
same_test files at x y n fails is = ap (λ s. bytes_eq (string_bytes s) n) fails.name ∙ ap (named n) is

pub kept : (files : List MemFile) (at : ℕ) (x y : MemFile) → Fails x y → x ≡ get_or files at x → file_bytes (set files at y) ≡ file_bytes files
kept files at x y fails is = λ i n.
    find_map_set (named n) (λ f. f.bytes.items) files at y x (same_test files at x y n fails is) (ap (λ b. b.items) fails.bytes ∙ ap (λ f. f.bytes.items) is) i

pub later : (files : List MemFile) (at : ℕ) (x y : MemFile) (m : ℕ) → Fails x y → x ≡ get_or files at x → (n : List ℕ) → file_faults files m n ≤ file_faults (set files at y) m n
later files at x y m fails is n =
    find_rises (named n) (λ f. f.faults) files at y x m (same_test files at x y n fails is) (omega (arith, fails.faults, fails.fits, ap (λ (f : MemFile). f.faults) is))

pub cause : {T E : Type 0} (e : E) (files : List MemFile) (at : ℕ) (x y : MemFile) (m : ℕ) (n : List ℕ) → Fails x y → x ≡ get_or files at x → at < length files
    → find (named n) files ≡ Some (get_or files at x) → named n (get_or files at x) ≡ true → ((k : ℕ) → k < at → named n (get_or files k x) ≡ false)
    → HasCause {T = T} {E = E} (file_faults files m n) (file_faults (set files at y) m n) (Err e)
cause e files at x y m n fails is within found passes first =
    let before : file_faults files m n ≡ x.faults = ap (λ r. unwrap_or (option_map (λ (f : MemFile). f.faults) r) m) (found ∙ ap Some (sym is)) in
    let after : file_faults (set files at y) m n ≡ y.faults = ap (λ r. unwrap_or (option_map (λ (f : MemFile). f.faults) r) m) (set_first (named n) files at y x within first (same_test files at x y n fails is ∙ passes)) in
    record { later = later files at x y m fails is n; failed = omega (arith, before, after, fails.faults) }

-- a file of one name has no other
not_named : (x : MemFile) (n other : List ℕ) → named n x ≡ true → other ≢ n → named other x ≡ false
not_named x n other passes differs = decide (named other x) refl
  where
    decide : (b : Bool) → named other x ≡ b → b ≡ false
    decide true same = absurd (differs (sym ((bytes_eq-Decides (file_name x) other).0 same) ∙ (bytes_eq-Decides (file_name x) n).0 passes))
    decide false same = refl

-- a fault of one name leaves the counts of the others
pub others : (files : List MemFile) (at : ℕ) (x y : MemFile) (m : ℕ) (n other : List ℕ) → Fails x y → x ≡ get_or files at x → named n (get_or files at x) ≡ true → other ≢ n
    → file_faults (set files at y) m other ≡ file_faults files m other
others files at x y m n other fails is passes differs =
    let old : named other (get_or files at x) ≡ false = not_named (get_or files at x) n other passes differs in
    ap (λ r. unwrap_or r m) (find_map_other (named other) (λ (f : MemFile). f.faults) files at y x (same_test files at x y other fails is ∙ old) old)

-- the count of one file starts again
abbrev pub forgotten : MemFile → MemFile
forgotten file = record { name = file.name; bytes = file.bytes; faults = 0 }

pub forgotten_kept : (files : List MemFile) (at : ℕ) (d : MemFile) → file_bytes (set files at (forgotten (get_or files at d))) ≡ file_bytes files
forgotten_kept files at d = λ i n. find_map_set (named n) file_content files at (forgotten (get_or files at d)) d refl refl i

pub forgotten_below : (files : List MemFile) (at : ℕ) (e : MemFile) → at < length files → ((k : ℕ) → k < at → (d : MemFile) → (get_or files k d).faults ≡ 0)
    → (k : ℕ) → k < at + 1 → (d : MemFile) → (get_or (set files at (forgotten (get_or files at e))) k d).faults ≡ 0
forgotten_below files at e within zeros =
    below_more _ _
    (λ k h d. let other : k ≢ at = omega arith in rw get_or-set_other (zeros k h d))
    (λ d. rw get_or-set_same refl)

-- where no file failed, no name did
pub none_failed : (files : List MemFile) → ((k : ℕ) → k < length files → (d : MemFile) → (get_or files k d).faults ≡ 0) → (n : List ℕ) → file_faults files 0 n ≡ 0
none_failed [] zeros n = refl
none_failed (x ∷ xs) zeros n =
    elim (named n x) as (λ v. unwrap_or (option_map (λ (f : MemFile). f.faults) (cond v (Some x) (find (named n) xs))) 0 ≡ 0)
    [ true ↦ zeros 0 (omega arith) x | false ↦ none_failed xs (λ k h d. zeros (suc k) (omega arith) d) n ]
