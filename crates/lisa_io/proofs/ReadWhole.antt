-- A file that is being read whole.
use Rattle.std.proofs.Common.{◌≡◌, ℕ, ◌+◌, ◌<◌, ◌≤◌, List, ◌++◌, length, take, drop, sym, ap, ◌∙◌, subst, arith, length-append, length-drop}
use Rattle.std.proofs.lemmas.List.{take_all, length-take-le}
use Rattle.std.proofs.Math.Seq.{take-add}
use Rattle.std.proofs.Math.Nat.{le_trans}
use Rattle.lisa_io.specs.Contents.{Held, Tells, TellsNone, ReadsNext}

pub record SoFar {D : Type 0} (held : D → Held) (faults : D → List ℕ → ℕ) (first now : D) (name : List ℕ) (limit : ℕ) (bytes : List ℕ) : Type 0 where
  pub kept : held now ≡ held first
  pub within : length bytes ≤ limit + 1
  pub front : (whole : List ℕ) → Tells (held first) name whole → bytes ≡ take (length bytes) whole
  pub short : (whole : List ℕ) → Tells (held first) name whole → length bytes ≤ length whole
  pub later : (other : List ℕ) → faults first other ≤ faults now other
  pub none : TellsNone (held first) name → length bytes ≡ 0

pub done : {D : Type 0} (held : D → Held) (faults : D → List ℕ → ℕ) (first now : D) (name : List ℕ) (limit : ℕ) (from k : ℕ) (into bytes whole : List ℕ)
    → SoFar held faults first now name limit bytes
    → ((whole : List ℕ) → Tells (held now) name whole → ReadsNext whole from into k)
    → from ≡ length bytes → k ≡ 0 → 0 < length into
    → Tells (held first) name whole → bytes ≡ whole
done held faults first now name limit from k into bytes whole so reads is none some tells =
    let read = reads whole (subst (λ (h : Held). Tells h name whole) (sym so.kept) tells) in
    let ended : length whole ≤ length bytes = omega (arith, read.end none some) in
    so.front whole tells ∙ take_all (length bytes) whole ended

-- what one more read gives
pub more : {D : Type 0} (held : D → Held) (faults : D → List ℕ → ℕ) (first now next : D) (name into bytes items : List ℕ) (limit from k : ℕ)
    → SoFar held faults first now name limit bytes
    → held next ≡ held now
    → ((other : List ℕ) → faults now other ≤ faults next other)
    → ((whole : List ℕ) → Tells (held now) name whole → ReadsNext whole from into k)
    → (TellsNone (held now) name → ⊥)
    → from ≡ length bytes
    → k ≤ length into → length bytes + k ≤ limit + 1
    → items ≡ bytes ++ take k into
    → SoFar held faults first next name limit items
more held faults first now next name into bytes items limit from k so kept later reads there at room within is = record {
  kept = kept ∙ so.kept;
  within = omega (arith, longer);
  front = λ whole tells. is ∙ rw (longer, take-add) (joined whole tells);
  short = λ whole tells. omega (arith, longer, (read whole tells).within, so.short whole tells, length-drop (length bytes) whole);
  later = λ other. le_trans (so.later other) (later other);
  none = λ none. absurd (there (subst (λ (h : Held). TellsNone h name) (sym so.kept) none));
}
  where
    longer : length items ≡ length bytes + k
    longer = ap length is ∙ length-append bytes (take k into) ∙ ap (λ n. length bytes + n) (length-take-le k into room)

    read : (whole : List ℕ) → Tells (held first) name whole → ReadsNext whole (length bytes) into k
    read whole tells = subst (λ (n : ℕ). ReadsNext whole n into k) at (reads whole (subst (λ (h : Held). Tells h name whole) (sym so.kept) tells))

    joined : (whole : List ℕ) → Tells (held first) name whole → bytes ++ take k into ≡ take (length bytes) whole ++ take k (drop (length bytes) whole)
    joined whole tells = (λ i. so.front whole tells i ++ (read whole tells).same i)
