use Rattle.std.proofs.Common.{◌≡◌, ℕ, ◌||◌, List, drop, map}
use Rattle.std.specs.List.{list_any}
use Rattle.std.specs.Str.{bytes_eq}
use Rattle.name_tables.specs.TableViews.{has_name}
use Rattle.object_links.proofs.uses.name_set.Given as goal

abbrev pub invariant-each : goal.invariant-each
invariant-each l = (n : List ℕ) → (list_any (bytes_eq n) (map (λ m. m.now) (drop l.name-index l.names)) || has_name l.set n) ≡ list_any (bytes_eq n) (map (λ m. m.now) l.names)
