-- Names of one line or object more.
use Rattle.std.proofs.Common.{◌≡◌, ℕ, Bool, true, false, ◌||◌, not, Some, List, [], ◌∷◌, ◌++◌, filter, refl, ap, sym, ◌∙◌, append_assoc}
use Rattle.std.specs.List.{list_any}
use Rattle.std.specs.Str.{bytes_eq}
use Rattle.std.specs.Prelude.{if◌then◌else◌}
use Rattle.std.proofs.lemmas.Bool.{false≢true}
use Rattle.std.proofs.lemmas.List.Elements.{filter-append}
use Rattle.std.proofs.lemmas.List.Folds.{list_any-append}
use Rattle.lisa_object.specs.declared.parts.Object.{Object}
use Rattle.lisa_object.specs.Objects.{object_tree}
use Rattle.placed_programs.specs.Entries.{entries_of}
use Rattle.object_links.specs.Firsts.{first_double}
use Rattle.object_links.specs.LinkFaults.{exported_names}
use Rattle.object_links.specs.LineNames.{line_exports}
use Rattle.object_links.proofs.ByLines.{exports_lines}

or_moved : (a b c : Bool) → (b || (a || c)) ≡ ((a || b) || c)
or_moved true true c = refl
or_moved true false c = refl
or_moved false true c = refl
or_moved false false c = refl

pub names_entered : (n : List ℕ) (own rest : List (List ℕ)) (old new : Bool) → new ≡ (list_any (bytes_eq n) own || old)
    → (list_any (bytes_eq n) rest || new) ≡ (list_any (bytes_eq n) (own ++ rest) || old)
names_entered n own rest old new e =
    ap (λ (b : Bool). list_any (bytes_eq n) rest || b) e
    ∙ or_moved (list_any (bytes_eq n) own) (list_any (bytes_eq n) rest) old
    ∙ ap (λ (b : Bool). b || old) (sym (list_any-append (bytes_eq n) own rest))

pub export_added : (p : List ℕ → Bool) (own rest old new : List (List ℕ)) → new ≡ old ++ filter p own → new ++ filter p rest ≡ old ++ filter p (own ++ rest)
export_added p own rest old new e =
    let moved : (old ++ filter p own) ++ filter p rest ≡ old ++ (filter p own ++ filter p rest) = simp append_assoc in
    ap (λ (ns : List (List ℕ)). ns ++ filter p rest) e ∙ moved ∙ ap (λ (ns : List (List ℕ)). old ++ ns) (sym (filter-append p own rest))

pub exports_added : (o : Object) (rest old new : List (List ℕ)) → new ≡ old ++ line_exports (object_tree o).lines
    → new ++ rest ≡ old ++ (exported_names (entries_of (object_tree o).lines) ++ rest)
exports_added o rest old new e =
    let own : List (List ℕ) = line_exports (object_tree o).lines in
    let moved : (old ++ own) ++ rest ≡ old ++ (own ++ rest) = simp append_assoc in
    ap (λ (ns : List (List ℕ)). ns ++ rest) e ∙ moved ∙ ap (λ (ns : List (List ℕ)). old ++ (ns ++ rest)) (exports_lines (object_tree o).lines)

pub double_there : (seen names : List (List ℕ)) (n : List ℕ) → list_any (bytes_eq n) seen ≡ true → first_double seen (n ∷ names) ≡ Some n
double_there seen names n e = ap (λ (b : Bool). if b then Some n else first_double (n ∷ seen) names) e

pub double_later : (seen names : List (List ℕ)) (n : List ℕ) → list_any (bytes_eq n) seen ≡ false → first_double seen (n ∷ names) ≡ first_double (n ∷ seen) names
double_later seen names n e = ap (λ (b : Bool). if b then Some n else first_double (n ∷ seen) names) e

-- where this one isn't double, it is among those that were seen for the ones behind it
pub double_goes_on : (seen names total : List (List ℕ)) (n : List ℕ) (new : Bool) → new ≡ not (list_any (bytes_eq n) seen) → new ≡ true
    → first_double seen (n ∷ names) ≡ first_double [] total → first_double (n ∷ seen) names ≡ first_double [] total
double_goes_on seen names total n new is on same = by (list_any (bytes_eq n) seen) refl
  where
    by : (b : Bool) → list_any (bytes_eq n) seen ≡ b → first_double (n ∷ seen) names ≡ first_double [] total
    by false e = sym (double_later seen names n e) ∙ same
    by true e = absurd (false≢true (sym (is ∙ ap not e) ∙ on))

pub double_found : (seen names total : List (List ℕ)) (n : List ℕ) (new : Bool) → new ≡ not (list_any (bytes_eq n) seen) → new ≡ false
    → first_double seen (n ∷ names) ≡ first_double [] total → Some n ≡ first_double [] total
double_found seen names total n new is off same = by (list_any (bytes_eq n) seen) refl
  where
    by : (b : Bool) → list_any (bytes_eq n) seen ≡ b → Some n ≡ first_double [] total
    by true e = sym (double_there seen names n e) ∙ same
    by false e = absurd (false≢true (sym off ∙ is ∙ ap not e))
