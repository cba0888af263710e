-- The entries of the lines of entries are these entries.
use Rattle.std.proofs.Common.{◌≡◌, List, [], ◌∷◌, ◌++◌, map, refl, ap, ◌∙◌}
use Rattle.lisa_object.specs.Objects.{PlainObjectLine}
use Rattle.placed_programs.specs.Entries.{Entry, Enter, Room, Put, Mark, Equal, Share, PlainFix, PlainCell, fix_line, lines_of, front_fixes, entries_of}

no_fixes : (es : List (Entry PlainCell)) → front_fixes (lines_of es) ≡ []
no_fixes [] = refl
no_fixes (Enter n w ∷ es) = refl
no_fixes (Room n ∷ es) = refl
no_fixes (Put c ∷ es) = refl
no_fixes (Mark n ∷ es) = refl
no_fixes (Equal n v ∷ es) = refl
no_fixes (Share n ∷ es) = refl

own_fixes : (fs : List PlainFix) (es : List (Entry PlainCell)) → front_fixes (map fix_line fs ++ lines_of es) ≡ fs
own_fixes [] es = no_fixes es
own_fixes (f ∷ fs) es = ap (λ (gs : List PlainFix). f ∷ gs) (own_fixes fs es)

past_fixes : (fs : List PlainFix) (ls : List PlainObjectLine) → entries_of (map fix_line fs ++ ls) ≡ entries_of ls
past_fixes [] ls = refl
past_fixes (f ∷ fs) ls = past_fixes fs ls

pub entries_again : (es : List (Entry PlainCell)) → entries_of (lines_of es) ≡ es
entries_again [] = refl
entries_again (Enter n w ∷ es) = ap (λ (r : List (Entry PlainCell)). Enter n w ∷ r) (entries_again es)
entries_again (Room n ∷ es) = ap (λ (r : List (Entry PlainCell)). Room n ∷ r) (entries_again es)
entries_again (Put c ∷ es) =
    ap (λ (fs : List PlainFix). Put (record { bits = c.bits; fixes = fs }) ∷ entries_of (map fix_line c.fixes ++ lines_of es)) (own_fixes c.fixes es)
    ∙ ap (λ (r : List (Entry PlainCell)). Put c ∷ r) (past_fixes c.fixes (lines_of es) ∙ entries_again es)
entries_again (Mark n ∷ es) = ap (λ (r : List (Entry PlainCell)). Mark n ∷ r) (entries_again es)
entries_again (Equal n v ∷ es) = ap (λ (r : List (Entry PlainCell)). Equal n v ∷ r) (entries_again es)
entries_again (Share n ∷ es) = ap (λ (r : List (Entry PlainCell)). Share n ∷ r) (entries_again es)
