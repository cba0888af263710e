-- A name that is defined nowhere, by an object's lines and by its entries.
use Rattle.std.proofs.Common.{◌≡◌, ℕ, Bool, ◌||◌, not, List, ap, ◌∙◌}
use Rattle.std.specs.Prelude.{find, flat_map}
use Rattle.std.specs.List.{list_any}
use Rattle.std.specs.Str.{bytes_eq}
use Rattle.lisa_object.specs.Objects.{PlainObjectLine}
use Rattle.lisa_object.specs.ObjectRules.{defined}
use Rattle.placed_programs.specs.Entries.{lines_of, entries_of}
use Rattle.object_links.specs.LinkFaults.{own_names, is_defined, undefined_in}
use Rattle.object_links.specs.LineNames.{line_uses}
use Rattle.object_links.proofs.ByLines.{defined_lines, uses_lines}

pub undefined_lines : (own others : List ℕ → Bool) (names : List (List ℕ)) (ls : List PlainObjectLine)
    → ((n : List ℕ) → own n ≡ list_any (bytes_eq n) (flat_map defined ls)) → ((n : List ℕ) → others n ≡ list_any (bytes_eq n) names) → ls ≡ lines_of (entries_of ls)
    → find (λ n. not (own n || others n)) (flat_map line_uses ls) ≡ undefined_in names (entries_of ls)
undefined_lines own others names ls is_own is_other same =
    let own_is : (n : List ℕ) → own n ≡ list_any (bytes_eq n) (own_names (entries_of ls)) = λ n. is_own n ∙ ap (λ (ns : List (List ℕ)). list_any (bytes_eq n) ns) (defined_lines ls) in
    ap (λ (test : List ℕ → Bool). find test (flat_map line_uses ls)) (λ i n. not (own_is n i || is_other n i))
    ∙ ap (λ (ns : List (List ℕ)). find (λ (n : List ℕ). not (is_defined (own_names (entries_of ls)) names n)) ns) (ap (λ (m : List PlainObjectLine). flat_map line_uses m) same ∙ uses_lines (entries_of ls))
