use Rattle.std.proofs.Common.{◌≡◌, ◌∙◌, ℕ, List, Some, length, get_or, sym, ap, refl, arith}
use Rattle.std.specs.Prelude.{slice_get}
use Rattle.std.proofs.lemmas.Option.{slice_get_read, slice_get-get_or, same_Some}
use Rattle.form_patterns.specs.instruction_forms.Trees.{form_tree}
use Rattle.description_sizes.specs.activation_trees.declared.parts.Occurrence.{Occurrence}
use Rattle.description_sizes.specs.activation_trees.Unfolding.{occurrences}
use Rattle.description_sizes.specs.activation_trees.Places.{IsBelow}
use Rattle.lisa_forms.specs.declared.way.Way.{Way}
use Rattle.lisa_forms.specs.Ways.{way}
use Rattle.lisa_forms.specs.Standings.{told, stood}
use Rattle.lisa_forms.proofs.Chosen.{chosen_has_parent, stands_by, stood_by}
use Rattle.lisa_forms.proofs.forms.Forms.+standing.Goals as goal

pub returns-in-Some : goal.returns-in-Some
returns-in-Some t c d forms part =
    let all = c.args.self.now.occurrences.items in
    let k = c.args.occurrence in
    let p = c.in-Some.parent in
    let x = c.index-own.result.now in
    let f = form_tree c.args.form.now in
    let own : slice_get all k ≡ Some x = slice_get_read all (length all) k x refl c.requires.within c.index-own.ensures in
    let before = c.args.self.now.before k p x own c.in-Some.is in
    let a = get_or all p x in
    let above : slice_get all p ≡ Some a = slice_get-get_or all p x (let w = c.requires.within in omega (arith, before, w)) in
    let at : (i : ℕ) (y : Occurrence) → slice_get all i ≡ Some y → slice_get (occurrences d) i ≡ Some y = λ i y e. ap (λ (l : List Occurrence). slice_get l i) (sym forms.all_occurrences) ∙ e in
    let below : IsBelow d k x p a = record { is = at k x own; parent = c.in-Some.is; activator = at p a above } in
    let ways = c.args.self.now.ways.items in
    let w = c.index.result.now in
    let kept : w ≡ way d k x = same_Some w (way d k x) (
    sym (slice_get_read ways (length ways) k w refl (let h = c.requires.within in let l = c.args.self.now.all_ways in omega (arith, h, l)) c.index.ensures)
    ∙ forms.all_ways.each k x (at k x own)) in
    let is : told c.stood.result ≡ stood (way d k x) f x.operation (told c.standing-above.result) = c.stood.ensures ∙ ap (λ (v : Way). stood v f x.operation (told c.standing-above.result)) kept in
    let exact = c.standing-above.ensures d forms in
    (λ e. stands_by d f k p x a below (told c.standing-above.result) exact part (sym is ∙ e), λ s. is ∙ stood_by d f k p x a below (told c.standing-above.result) exact part s)

pub returns-in-None : goal.returns-in-None
returns-in-None t c d forms part =
    let all = c.args.self.now.occurrences.items in
    let k = c.args.occurrence in
    let x = c.index-own.result.now in
    let own : slice_get all k ≡ Some x = slice_get_read all (length all) k x refl c.requires.within c.index-own.ensures in
    let at : slice_get (occurrences d) k ≡ Some x = ap (λ (l : List Occurrence). slice_get l k) (sym forms.all_occurrences) ∙ own in
    (λ e. absurd (cc e), λ s. let found = chosen_has_parent d (form_tree c.args.form.now) k part s x at in absurd (cc (sym c.in-None.is ∙ found.1)))
