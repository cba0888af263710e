-- A source is assembled as its lines are read.
use Rattle.std.proofs.Common.{◌≡◌, ◌⊎◌, inl, inr, ℕ, List, [], ◌∷◌, ◌++◌, Option, None, Result, Ok, Err, refl, sym, subst, ◌∙◌, append_assoc}
use Rattle.std.specs.BTreeSet.{BTreeSet}
use Rattle.std.proofs.lemmas.List.{append-nil}
use Rattle.lisa_tree.specs.Descriptions.{DescriptionTree}
use Rattle.lisa_engine.specs.declared.parts.ArrayItem.{ArrayItem}
use Rattle.asm_source.specs.Plain.{PlainLine}
use Rattle.asm_source.specs.Source.{source_of}
use Rattle.asm_source.specs.Gives.{Misses, lines_with}
use Rattle.asm_source.specs.declared.flaw.SourceFault.{SourceFault}
use Rattle.asm_source.specs.declared.flaw.SourceFault.TheVariants as faults
use Rattle.lisa_object.specs.Objects.{PlainObjectLine}
use Rattle.lisa_object.specs.Seen.{HoldsSorted}
use Rattle.lisa_assembler.specs.Faults.{IsFaultOf, IsSourceFault}
use Rattle.lisa_assembler.specs.Objects.{digest_of, IsObjectOf}
use Rattle.lisa_assembler.specs.Sourced.{IsObjectOfBytes, IsFaultOfBytes}
use Rattle.lisa_assembler.specs.Sources.{line_names, section_behind}
use Rattle.lisa_assembler.specs.Steps.{IsStep}
use Rattle.lisa_assembler.proofs.Assembled.{AreAssembled, assembled_first, assembled_on, assembled_stops, assembled_end}

abbrev Names : Type 0
Names = BTreeSet (List ℕ)

-- what is assembled of the lines that were read, in front of any others
abbrev pub IsSoFar : DescriptionTree → List PlainLine → Option ArrayItem → Names → List PlainObjectLine → Type 0
IsSoFar d read here seen lines = (names : List (List ℕ)) × HoldsSorted seen names × ((left : List PlainLine) → AreAssembled d (read ++ left) here names lines left)

pub nothing_so_far : (d : DescriptionTree) (seen : Names) → HoldsSorted seen [] → IsSoFar d [] None seen []
nothing_so_far d seen held = ([], held, λ left. assembled_first d left)

one_more : (read : List PlainLine) (l : PlainLine) (left : List PlainLine) → read ++ l ∷ left ≡ (read ++ l ∷ []) ++ left
one_more read l left = simp append_assoc

-- one line more
pub next_so_far : (d : DescriptionTree) (read : List PlainLine) (l : PlainLine) (here next : Option ArrayItem) (seen entered : Names) (old new : List PlainObjectLine) → IsSoFar d read here seen old
    → next ≡ section_behind d here l.part
    → ((names : List (List ℕ)) → HoldsSorted seen names → HoldsSorted entered (line_names l ++ names))
    → ((names : List (List ℕ)) → HoldsSorted seen names → IsStep d here names l old new)
    → IsSoFar d (read ++ l ∷ []) next entered new
next_so_far d read l here next seen entered old new so behind held step = (
  line_names l ++ so.0,
  held so.0 so.1,
  λ left. subst (λ (all : List PlainLine). AreAssembled d all next (line_names l ++ so.0) new left) (one_more read l left)
      (assembled_on d (read ++ l ∷ left) here next so.0 old new l left (so.2 (l ∷ left)) (step so.0 so.1) behind),
)

-- the lines that follow are read too
whole : (front : List PlainLine) (r : Result (List PlainLine) SourceFault) (all : List PlainLine) → lines_with front r ≡ Ok all → (left : List PlainLine) × (all ≡ front ++ left)
whole front (Ok left) all e = (left, cc)
whole front (Err f) all e = absurd (never e)
  where
    never : ◌≡◌ {A = Result (List PlainLine) SourceFault} (Err f) (Ok all) → ⊥
    never w = cc

module _ (d : DescriptionTree) (bytes : List ℕ) where
  pub missed_fault : (f : SourceFault) → Misses f (source_of bytes) → (f ≡ faults.NoMemory) ⊎ IsFaultOfBytes d bytes f
  missed_fault faults.NoMemory e = inl refl
  missed_fault f e = inr (inl e)

  -- the first line with a fault, where the lines behind it are read too
  pub line_fault : (read : List PlainLine) (l : PlainLine) (here : Option ArrayItem) (seen : Names) (lines : List PlainObjectLine) (f g : SourceFault) (more : Result (List PlainLine) SourceFault)
      → IsSoFar d read here seen lines
      → ((names : List (List ℕ)) → HoldsSorted seen names → (f ≡ faults.NoMemory) ⊎ IsFaultOf d here names l f)
      → lines_with (read ++ l ∷ []) more ≡ source_of bytes
      → Misses g (source_of bytes) ⊎ ((ls : List PlainLine) × (source_of bytes ≡ Ok ls) × (g ≡ f))
      → (g ≡ faults.NoMemory) ⊎ IsFaultOfBytes d bytes g
  line_fault read l here seen lines f g more so fault same (inl m) = missed_fault g m
  line_fault read l here seen lines f g more so fault same (inr x) = at (fault so.0 so.1)
    where
      rest : (left : List PlainLine) × (x.0 ≡ (read ++ l ∷ []) ++ left)
      rest = whole (read ++ l ∷ []) more x.0 (same ∙ x.1)

      is : x.0 ≡ read ++ l ∷ rest.0
      is = rest.1 ∙ sym (one_more read l rest.0)

      at : (f ≡ faults.NoMemory) ⊎ IsFaultOf d here so.0 l f → (g ≡ faults.NoMemory) ⊎ IsFaultOfBytes d bytes g
      at (inl e) = inl (x.2 ∙ e)
      at (inr y) = inr (inr (
        x.0,
        x.1,
        subst (λ (h : SourceFault). IsSourceFault d None [] x.0 h) (sym x.2)
            (subst (λ (ls : List PlainLine). IsSourceFault d None [] ls f) (sym is) (assembled_stops d (read ++ l ∷ rest.0) here so.0 lines l rest.0 f (so.2 (l ∷ rest.0)) y)),
      ))

  pub whole_object : (read : List PlainLine) → source_of bytes ≡ Ok read → (here : Option ArrayItem) (seen : Names) (lines : List PlainObjectLine) (digest : List ℕ) → digest ≡ digest_of d
      → IsSoFar d read here seen lines → IsObjectOfBytes d bytes (record { digest = digest; lines = lines })
  whole_object read all here seen lines digest stamped so =
      let is = assembled_end d (read ++ []) here so.0 lines [] digest refl (so.2 []) stamped in
      (read, all, subst (λ (ls : List PlainLine). IsObjectOf d ls (record { digest = digest; lines = lines })) (append-nil read) is)
