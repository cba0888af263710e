-- A reference that lacks a declaration, by its name.
use Rattle.std.proofs.Common.{◌≡◌, ◌&&◌, ◌||◌, ℕ, List, [], ◌∷◌, Option, None, Some, Bool, true, false, not, nat_eq, length, refl, ap, ap₂, sym, ◌∙◌, subst}
use Rattle.std.specs.Option.{is_some, is_none}
use Rattle.std.specs.List.{list_any}
use Rattle.lisa_tree.specs.Descriptions.{DescriptionTree}
use Rattle.lisa_tree.specs.Declarations.{declared_at, what_at, is_reference, above}
use Rattle.meant_declarations.specs.Lacking.{any_lacks}
use Rattle.meant_declarations.specs.Lacking as declarations
use Rattle.meant_declarations.proofs.Sourced.{found}
use Rattle.name_checks.specs.Unknown.{is_main, lacks, is_loose, what_of}

same_none : (r : Option ℕ) → is_none r ≡ not (is_some r)
same_none None = refl
same_none (Some i) = refl

same_any : (d : DescriptionTree) (n : List ℕ) (operations : List ℕ) → any_lacks d n operations ≡ list_any (lacks d n) operations
same_any d n [] = refl
same_any d n (p ∷ operations) = ap₂ (λ (x y : Bool). x || y) (same_none (declared_at d p n)) (same_any d n operations)

lacks_named : (d : DescriptionTree) (o : ℕ) (n : List ℕ) (i : ℕ) → declared_at d o n ≡ Some i → is_reference (what_at d i) ≡ true → declarations.lacks d i ≡ list_any (lacks d n) (above d o)
lacks_named d o n i e is =
    let f = found d o n i e in
    let own : declarations.lacks d i ≡ (is_reference (what_at d i) && any_lacks d f.e.name (above d f.e.operation)) = rw f.at refl in
    own ∙ ap (λ (b : Bool). b && any_lacks d f.e.name (above d f.e.operation)) is ∙ ap (λ (m : List ℕ). any_lacks d m (above d f.e.operation)) (sym f.name) ∙ ap (λ (p : ℕ). any_lacks d n (above d p)) f.owner ∙ same_any d n (above d o)

pub loose_named : (d : DescriptionTree) (o : ℕ) (n : List ℕ) (i : ℕ) (mark : Bool) → declared_at d o n ≡ Some i → mark ≡ declarations.lacks d i
    → (is_reference (what_at d i) && (is_main d o || nat_eq (length (above d o)) 0 || mark)) ≡ (is_reference (what_of d (declared_at d o n)) && is_loose d o n)
loose_named d o n i mark e m = by (is_reference (what_at d i)) refl
  where
    there : what_of d (declared_at d o n) ≡ what_at d i
    there = ap (what_of d) e

    by : (b : Bool) → is_reference (what_at d i) ≡ b → (is_reference (what_at d i) && (is_main d o || nat_eq (length (above d o)) 0 || mark)) ≡ (is_reference (what_of d (declared_at d o n)) && is_loose d o n)
    by false off =
        ap (λ (b : Bool). b && (is_main d o || nat_eq (length (above d o)) 0 || mark)) off
        ∙ sym (ap (λ (b : Bool). b && is_loose d o n) (ap is_reference there ∙ off))
    by true on =
        ap (λ (t : Bool). is_reference (what_at d i) && (is_main d o || nat_eq (length (above d o)) 0 || t)) (m ∙ lacks_named d o n i e on)
        ∙ sym (ap (λ (b : Bool). b && is_loose d o n) (ap is_reference there))
