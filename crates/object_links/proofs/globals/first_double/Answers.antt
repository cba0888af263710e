use Rattle.std.proofs.Common.{◌∷◌, ◌+◌, ℕ, List, Bor, [], drop, map, refl, sym, ap, ◌∙◌, rules, arith}
use Rattle.std.proofs.lemmas.List.{drop_all}
use Rattle.object_links.specs.Firsts.{first_double}
use Rattle.object_links.proofs.Steps.{one_name}
use Rattle.object_links.proofs.Exports.{double_found, double_goes_on}
use Rattle.object_links.proofs.globals.first_double.Goals as goal

pub each-init : goal.each-init
each-init c = ([], (λ n. search rules), refl)

pub each-preserved : goal.each-preserved
each-preserved c =
    let seen = c.each.invariant.0 in
    let h = c.in_ok-new.ensures seen c.each.invariant.1 in
    let here = ap (λ (xs : List (Bor (List ℕ))). first_double seen (map (λ n. n.now) xs)) (sym (one_name c.args.names.now c.each.name-index c.name-item.result (omega arith) c.name-item.is)) ∙ c.each.invariant.2 in
    (c.name-item.result.now ∷ seen, h.1, double_goes_on seen (map (λ n. n.now) (drop (c.each.name-index + 1) c.args.names.now)) (map (λ n. n.now) c.args.names.now) c.name-item.result.now c.in_ok-new.new h.0 c.if-not-new.false here)

pub returns-then-not-new : goal.returns-then-not-new
returns-then-not-new c =
    let seen = c.each.invariant.0 in
    let h = c.in_ok-new.ensures seen c.each.invariant.1 in
    let here = ap (λ (xs : List (Bor (List ℕ))). first_double seen (map (λ n. n.now) xs)) (sym (one_name c.args.names.now c.each.name-index c.name-item.result (omega arith) c.name-item.is)) ∙ c.each.invariant.2 in
    double_found seen (map (λ n. n.now) (drop (c.each.name-index + 1) c.args.names.now)) (map (λ n. n.now) c.args.names.now) c.name-item.result.now c.in_ok-new.new h.0 c.if-not-new.true here

pub returns : goal.returns
returns c = ap (λ (xs : List (Bor (List ℕ))). first_double c.each.invariant.0 (map (λ n. n.now) xs)) (sym (drop_all c.each.name-index c.args.names.now (omega arith))) ∙ c.each.invariant.2
