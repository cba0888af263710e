use Rattle.std.proofs.Common.{◌≡◌, ◌∙◌, ◌||◌, ◌&&◌, ap, sym, List, Option, Some, ℕ, length, arith, false}
use Rattle.std.specs.Option.{is_some, is_none}
use Rattle.graph_paths.specs.Paths.{is_in}
use Rattle.meant_declarations.specs.Walks.{kept}
use Rattle.least_fixed_points.specs.Settles.{entry}
use Rattle.meant_declarations.proofs.Walks.{begins, goes, ends, popped, entry_below}
use Rattle.meant_declarations.proofs.walking.origins.Goals as goal

pub going-init : goal.going-init
going-init c = begins _ _ _ _ c.in_ok-walk.ensures.count c.in_ok-walk.ensures.found c.in_ok-walk.ensures.work

pub row-requires : goal.row-requires
row-requires c =
    let own : entry c.going.walk.found.items c.in-Some.node ≡ Some c.in-Some-entry_at.origin = ap (λ (table : List (Option ℕ)). entry table c.in-Some.node) (sym c.deref.ensures.value) ∙ sym c.entry_at.ensures ∙ c.in-Some-entry_at.is in
    let l = entry_below c.going.walk.found.items c.in-Some.node c.in-Some-entry_at.origin own in
    omega (arith, l, c.going.invariant.count)

pub going-preserved : goal.going-preserved
going-preserved c =
    let on = c.going.invariant.works c.in-Some.node (popped c.going.walk.work.items _ c.in-Some.node c.in-Some.ensures.items) in
    let none : is_some (entry c.going.walk.found.items c.in-Some.node) ≡ false = ap (λ (table : List (Option ℕ)). is_some (entry table c.in-Some.node)) (sym c.deref.ensures.value) ∙ ap is_some (sym c.entry_at.ensures ∙ c.in_default-entry_at.is) in
    absurd (cc (sym on ∙ none))

pub going-preserved-in-Continue-branch-2 : goal.going-preserved-in-Continue-branch-2
going-preserved-in-Continue-branch-2 c =
    goes _ _ c.going.walk.found.items _ c.going.walk.work.items _ _ c.in-Some.node c.in-Some-entry_at.origin c.going.invariant c.in-Some.ensures.items
    (ap (λ (table : List (Option ℕ)). entry table c.in-Some.node) (sym c.deref.ensures.value) ∙ sym c.entry_at.ensures ∙ c.in-Some-entry_at.is) c.in_ok-come_to_all.ensures.count
    (λ b. c.in_ok-come_to_all.ensures.found b ∙ ap (λ (nodes : List ℕ). kept (entry c.going.walk.found.items b) (is_in b nodes) c.in-Some-entry_at.origin) c.row.ensures)
    (λ b. c.in_ok-come_to_all.ensures.work b ∙ ap (λ (nodes : List ℕ). is_in b c.pop.new.self.items || (is_in b nodes && is_none (entry c.going.walk.found.items b))) c.row.ensures)

pub returns-clause-exact : goal.returns-clause-exact
returns-clause-exact c =
    let none : length c.going.walk.work.items ≡ 0 = grind (arith, c.in_default.ensures.variant) in
    ends _ _ _ _ c.going.invariant none
