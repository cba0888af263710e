-- What the loop over the lines of an object keeps.
use Rattle.std.proofs.Common.{◌≡◌, ℕ, ◌+◌, ◌<◌, Bool, true, false, cond, List, [], ◌∷◌, ◌++◌, length, Option, Some, None, refl, sym, ap, subst, ◌∙◌, append_assoc, arith}
use Rattle.std.specs.Prelude.{codes}
use Rattle.std.specs.Str.{bytes_eq}
use Rattle.std.proofs.lemmas.List.{append-nil}
use Rattle.lisa_object.specs.declared.faults.Stop.{Stop}
use Rattle.lisa_object.specs.declared.faults.Stop.TheVariants.{Misspelled, NoMemory}
use Rattle.lisa_object.specs.declared.rules.Standing.{Standing}
use Rattle.lisa_object.specs.Gives.{Fails}
use Rattle.lisa_object.specs.Reading.{◌>>=◌, Word, is_last}
use Rattle.lisa_object.specs.Objects.{PlainObjectLine}
use Rattle.lisa_object.specs.ObjectRules.{defined}
use Rattle.lisa_object.specs.LineMachine.{start, after}
use Rattle.lisa_object.specs.ObjectReading.{next_line, lines_of}

abbrev pub Lines : Type 0
Lines = Option (List PlainObjectLine)

abbrev pub lines_with : List PlainObjectLine → Lines → Lines
lines_with front more = more >>= λ all. Some (front ++ all)

pub begins : (r : Lines) → lines_with [] r ≡ r
begins (Some x) = refl
begins None = refl

regroup : (front : List PlainObjectLine) (l : PlainObjectLine) (r : Lines) → lines_with front (r >>= λ all. Some (l ∷ all)) ≡ lines_with (front ++ l ∷ []) r
regroup front l (Some x) = ap (λ (k : List PlainObjectLine). Some k) (simp append_assoc)
regroup front l None = refl

one : (st : Standing) (seen : List Word) (line : Word) (lines : List Word) (t : Bool) → bytes_eq line (codes "end") ≡ t
    → lines_of st seen (line ∷ lines) ≡ cond t (cond (is_last lines) (Some []) None) (next_line st seen line >>= λ l. lines_of (after st l) (defined l ++ seen) lines >>= λ more. Some (l ∷ more))
unfolding lines_of
one st seen line lines t e = ap (λ (b : Bool). cond b (cond (is_last lines) (Some []) None) (next_line st seen line >>= λ l. lines_of (after st l) (defined l ++ seen) lines >>= λ more. Some (l ∷ more))) e

none_there : (st : Standing) (seen : List Word) → lines_of st seen [] ≡ None
unfolding lines_of
none_there st seen = refl

module _ (front : List PlainObjectLine) (st : Standing) (seen left : List Word) (total : Lines) (same : lines_with front (lines_of st seen left) ≡ total) where
  pub lacking : left ≡ [] → total ≡ None
  lacking is = sym same ∙ ap (λ (l : List Word). lines_with front (lines_of st seen l)) is ∙ ap (lines_with front) (none_there st seen)

  module _ (line : Word) (lines : List Word) (is : left ≡ line ∷ lines) where
    at_next : lines_with front (lines_of st seen (line ∷ lines)) ≡ total
    at_next = ap (λ (l : List Word). lines_with front (lines_of st seen l)) (sym is) ∙ same

    pub at_end : bytes_eq line (codes "end") ≡ true → total ≡ cond (is_last lines) (Some front) None
    at_end e = sym at_next ∙ ap (lines_with front) (one st seen line lines true e) ∙ last (is_last lines)
      where
        last : (t : Bool) → lines_with front (cond t (Some []) None) ≡ cond t (Some front) None
        last true = ap (λ (l : List PlainObjectLine). Some l) (append-nil front)
        last false = refl

    step : (r : Option PlainObjectLine) → bytes_eq line (codes "end") ≡ false → next_line st seen line ≡ r → lines_of st seen (line ∷ lines) ≡ (r >>= λ l. lines_of (after st l) (defined l ++ seen) lines >>= λ more. Some (l ∷ more))
    step r e f = one st seen line lines false e ∙ ap (λ (q : Option PlainObjectLine). q >>= λ l. lines_of (after st l) (defined l ++ seen) lines >>= λ more. Some (l ∷ more)) f

    pub fails : (e : Stop) → bytes_eq line (codes "end") ≡ false → Fails e (next_line st seen line) → Fails e total
    fails NoMemory e f = tt
    fails (Misspelled at) e f = sym at_next ∙ ap (lines_with front) (step None e f)

    pub goes_on : (l : PlainObjectLine) → bytes_eq line (codes "end") ≡ false → next_line st seen line ≡ Some l → lines_with (front ++ l ∷ []) (lines_of (after st l) (defined l ++ seen) lines) ≡ total
    goes_on l e f = sym (regroup front l (lines_of (after st l) (defined l ++ seen) lines)) ∙ ap (lines_with front) (sym (step (Some l) e f)) ∙ at_next
