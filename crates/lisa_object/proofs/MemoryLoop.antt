-- What the loop over the memories of an image keeps.
use Rattle.std.proofs.Common.{◌≡◌, ℕ, zero, suc, ◌+◌, ◌<◌, ◌≤◌, Bool, true, false, cond, List, [], ◌∷◌, ◌++◌, length, Option, Some, None, refl, sym, ap, subst, ◌∙◌, append_assoc, arith}
use Rattle.std.specs.Prelude.{codes, nat_le, not, ◌&&◌}
use Rattle.std.specs.List.{list_any}
use Rattle.std.specs.Str.{bytes_eq}
use Rattle.std.proofs.lemmas.List.{append-nil}
use Rattle.lisa_engine.specs.Memory.{Memory}
use Rattle.lisa_object.specs.declared.faults.Stop.{Stop}
use Rattle.lisa_object.specs.declared.faults.Stop.TheVariants.{Misspelled, NoMemory}
use Rattle.lisa_object.specs.Gives.{Fails}
use Rattle.lisa_object.proofs.CellLoop.{cells_counted}
use Rattle.lisa_object.proofs.Options.{bind_some, some_is, cond_some}
use Rattle.lisa_object.specs.Reading.{◌>>=◌, Word, is_last}
use Rattle.lisa_object.specs.ImageReading.{head_at, cells_of, filled, memory_of, and_more, memories_of, memories_in}

abbrev pub Memories : Type 0
Memories = Option (List Memory)

abbrev pub memories_with : List Memory → Memories → Memories
memories_with front more = more >>= λ all. Some (front ++ all)

begins : (r : Memories) → memories_with [] r ≡ r
begins (Some x) = refl
begins None = refl

regroup : (front : List Memory) (m : Memory) (r : Memories) → memories_with front (r >>= λ all. Some (m ∷ all)) ≡ memories_with (front ++ m ∷ []) r
regroup front m (Some x) = ap (λ (l : List Memory). Some l) (simp append_assoc)
regroup front m None = refl

-- one line
one : (n before : ℕ) (seen : List Word) (line : Word) (lines : List Word) (t : Bool) → bytes_eq line (codes "end") ≡ t
    → memories_of (suc n) before seen (line ∷ lines) ≡ cond t (cond (is_last lines) (Some []) None) (memory_of before seen line lines >>= and_more (memories_of n) before seen)
unfolding memories_of
one n before seen line lines t e = ap (λ (b : Bool). cond b (cond (is_last lines) (Some []) None) (memory_of before seen line lines >>= and_more (memories_of n) before seen)) e

none_there : (n before : ℕ) (seen : List Word) → memories_of (suc n) before seen [] ≡ None
unfolding memories_of
none_there n before seen = refl

no_turn : (before : ℕ) (seen lines : List Word) → memories_of zero before seen lines ≡ None
unfolding memories_of
no_turn before seen lines = refl

-- of the memories in these lines those in front were read, so many cells and these names among them, and what is left is still to read
pub record Along (lines : List Word) (front : List Memory) (before : ℕ) (seen left : List Word) : Type 0 where
  pub count : ℕ
  pub enough : length left ≤ count
  pub same : memories_with front (memories_of count before seen left) ≡ memories_in lines

pub starts : (lines : List Word) → Along lines [] 0 [] lines
starts lines = record { count = length lines; enough = omega arith; same = begins (memories_in lines) }

module _ (lines : List Word) (front : List Memory) (before : ℕ) (seen left : List Word) (along : Along lines front before seen left) where
  pub lacking : left ≡ [] → memories_in lines ≡ None
  lacking is = go along.count (subst (λ (l : List Word). memories_with front (memories_of along.count before seen l) ≡ memories_in lines) is along.same)
    where
      go : (n : ℕ) → memories_with front (memories_of n before seen []) ≡ memories_in lines → memories_in lines ≡ None
      go zero same = sym same ∙ ap (memories_with front) (no_turn before seen [])
      go (suc n) same = sym same ∙ ap (memories_with front) (none_there n before seen)

  module _ (line : Word) (more : List Word) (is : left ≡ line ∷ more) where
    -- one turn, with a count less
    turned : (P : ℕ → Type 0) → ((n : ℕ) → length more ≤ n → memories_with front (memories_of (suc n) before seen (line ∷ more)) ≡ memories_in lines → P n) → (n : ℕ) × P n
    turned P then_ = go along.count (omega (arith, along.enough, ap length is)) (subst (λ (l : List Word). memories_with front (memories_of along.count before seen l) ≡ memories_in lines) is along.same)
      where
        go : (n : ℕ) → length more + 1 ≤ n → memories_with front (memories_of n before seen (line ∷ more)) ≡ memories_in lines → (n : ℕ) × P n
        go zero le same = absurd (omega arith)
        go (suc n) le same = (n, then_ n (omega arith) same)

    pub at_end : bytes_eq line (codes "end") ≡ true → memories_in lines ≡ cond (is_last more) (Some front) None
    at_end e = (turned (λ _. memories_in lines ≡ cond (is_last more) (Some front) None) (λ n le same. sym same ∙ ap (memories_with front) (one n before seen line more true e) ∙ last (is_last more))).1
      where
        last : (t : Bool) → memories_with front (cond t (Some []) None) ≡ cond t (Some front) None
        last true = ap (λ (l : List Memory). Some l) (append-nil front)
        last false = refl

    pub spoiled : bytes_eq line (codes "end") ≡ false → memory_of before seen line more ≡ None → memories_in lines ≡ None
    spoiled e f = (turned (λ _. memories_in lines ≡ None) (λ n le same. sym same ∙ ap (memories_with front) (one n before seen line more false e ∙ ap (λ (q : Option (Memory × List Word)). q >>= and_more (memories_of n) before seen) f))).1

    pub fails : (e : Stop) → bytes_eq line (codes "end") ≡ false → Fails e (memory_of before seen line more) → Fails e (memories_in lines)
    fails NoMemory e f = tt
    fails (Misspelled at) e f = spoiled e f

    pub goes_on : (m : Memory) (after : List Word) → bytes_eq line (codes "end") ≡ false → memory_of before seen line more ≡ Some (m, after) → length after ≤ length more → Along lines (front ++ m ∷ []) (before + length m.cells) (m.name ∷ seen) after
    goes_on m after e f le =
        (turned (λ _. Along lines (front ++ m ∷ []) (before + length m.cells) (m.name ∷ seen) after) (λ n enough same. record {
          count = n;
          enough = omega arith;
          same = sym (regroup front m (memories_of n (before + length m.cells) (m.name ∷ seen) after)) ∙ ap (memories_with front) (sym (one n before seen line more false e ∙ ap (λ (q : Option (Memory × List Word)). q >>= and_more (memories_of n) before seen) f)) ∙ same;
        })).1

-- a memory leaves no more lines than there were
pub memory_shrinks : (before : ℕ) (seen : List Word) (line : Word) (lines : List Word) (m : Memory) (rest : List Word) → memory_of before seen line lines ≡ Some (m, rest) → length rest ≤ length lines
unfolding memory_of
memory_shrinks before seen line lines m rest e =
    let a = bind_some (head_at line) (λ h. cond (nat_le (before + h.1.count) 4194304 && not (list_any (bytes_eq h.0) seen)) (cells_of h.1.width h.1.count lines >>= λ r. Some (filled h.0 h.1 r.0, r.1)) None) (m, rest) e in
    let b = cond_some (nat_le (before + a.0.1.count) 4194304 && not (list_any (bytes_eq a.0.0) seen)) (cells_of a.0.1.width a.0.1.count lines >>= λ r. Some (filled a.0.0 a.0.1 r.0, r.1)) (m, rest) a.2 in
    let d = bind_some (cells_of a.0.1.width a.0.1.count lines) (λ r. Some (filled a.0.0 a.0.1 r.0, r.1)) (m, rest) b.1 in
    let same : d.0.1 ≡ rest = ap (λ (x : Memory × List Word). x.1) (some_is (filled a.0.0 a.0.1 d.0.0, d.0.1) (m, rest) d.2) in
    let counted = cells_counted a.0.1.width a.0.1.count lines d.0.0 d.0.1 d.1 in
    omega (arith, ap length same, counted.left)
