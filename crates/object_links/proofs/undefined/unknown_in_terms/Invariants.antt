use Rattle.std.proofs.Common.{◌≡◌, ◌||◌, not, drop}
use Rattle.std.specs.Prelude.{find, filter_map}
use Rattle.name_tables.specs.TableViews.{has_name}
use Rattle.asm_source.specs.declared.parts.Term.{Term}
use Rattle.object_links.proofs.undefined.unknown_in_terms.Given as goal

abbrev pub invariant-loop-term : goal.invariant-loop-term
invariant-loop-term l = find (λ n. not (has_name l.own n || has_name l.others n)) (filter_map (λ (t : Term). t.name) (drop l.term-index l.terms))
    ≡ find (λ n. not (has_name l.own n || has_name l.others n)) (filter_map (λ (t : Term). t.name) l.terms)
