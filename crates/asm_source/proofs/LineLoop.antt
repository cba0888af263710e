-- What the loop over the lines of a source keeps.
use Rattle.std.proofs.Common.{◌≡◌, ℕ, ◌+◌, List, [], ◌∷◌, ◌++◌, Result, Ok, Err, refl, sym, ap, ◌∙◌, append_assoc}
use Rattle.std.proofs.lemmas.List.{append-nil}
use Rattle.asm_source.specs.declared.flaw.SourceFault.{SourceFault}
use Rattle.asm_source.specs.declared.flaw.SourceFault.TheVariants as faults
use Rattle.asm_source.specs.Sums.{◌>>=◌}
use Rattle.asm_source.specs.Plain.{PlainLine}
use Rattle.asm_source.specs.Parts.{line_of}
use Rattle.asm_source.specs.Source.{numbered, source_from}
use Rattle.asm_source.specs.Gives.{Misses, lines_with}

abbrev Lines : Type 0
Lines = Result (List PlainLine) SourceFault

pub begins : (r : Lines) → lines_with [] r ≡ r
begins (Ok x) = refl
begins (Err e) = refl

regroup : (front : List PlainLine) (l : PlainLine) (r : Lines) → lines_with front (r >>= λ more. Ok (l ∷ more)) ≡ lines_with (front ++ l ∷ []) r
regroup front l (Ok x) = ap (λ (k : List PlainLine). Ok k) (simp append_assoc)
regroup front l (Err e) = refl

first_of : (n : ℕ) (text : List ℕ) (texts : List (List ℕ)) (r : Result PlainLine SourceFault) → numbered n (line_of text) ≡ r → source_from n (text ∷ texts) ≡ (r >>= λ first. source_from (n + 1) texts >>= λ more. Ok (first ∷ more))
unfolding source_from
first_of n text texts r e = ap (λ (q : Result PlainLine SourceFault). q >>= λ first. source_from (n + 1) texts >>= λ more. Ok (first ∷ more)) e

none_of : (n : ℕ) → source_from n [] ≡ Ok []
unfolding source_from
none_of n = refl

pub goes_on : (front : List PlainLine) (n : ℕ) (text : List ℕ) (texts : List (List ℕ)) (l : PlainLine) (total : Lines) → numbered n (line_of text) ≡ Ok l → lines_with front (source_from n (text ∷ texts)) ≡ total → lines_with (front ++ l ∷ []) (source_from (n + 1) texts) ≡ total
goes_on front n text texts l total e same = sym (regroup front l (source_from (n + 1) texts)) ∙ ap (lines_with front) (sym (first_of n text texts (Ok l) e)) ∙ same

pub stops_at : (front : List PlainLine) (n : ℕ) (text : List ℕ) (texts : List (List ℕ)) (f : SourceFault) (total : Lines) → numbered n (line_of text) ≡ Err f → lines_with front (source_from n (text ∷ texts)) ≡ total → total ≡ Err f
stops_at front n text texts f total e same = sym same ∙ ap (lines_with front) (first_of n text texts (Err f) e)

pub misses_on : (front : List PlainLine) (n : ℕ) (text : List ℕ) (texts : List (List ℕ)) (f : SourceFault) (total : Lines) → Misses f (numbered n (line_of text)) → lines_with front (source_from n (text ∷ texts)) ≡ total → Misses f total
misses_on front n text texts faults.NoMemory total e same = tt
misses_on front n text texts f total e same = stops_at front n text texts f total e same

pub all_read : (front : List PlainLine) (n : ℕ) (total : Lines) → lines_with front (source_from n []) ≡ total → total ≡ Ok front
all_read front n total same = sym same ∙ ap (lines_with front) (none_of n) ∙ ap (λ (k : List PlainLine). Ok k) (append-nil front)
