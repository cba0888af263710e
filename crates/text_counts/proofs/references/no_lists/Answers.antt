use Rattle.std.proofs.Common.{ℕ, [], ◌∷◌, map, ap, rules, ◌∙◌}
use Rattle.std.specs.Global.{Vec}
use Rattle.std.specs.Rc.{rc_value}
use Rattle.std.proofs.lemmas.List.{map-append}
use Rattle.text_counts.proofs.Rows.{empty_pushed}
use Rattle.text_counts.proofs.references.no_lists.Goals as goal

pub loop-number-preserved : goal.loop-number-preserved
loop-number-preserved c = record {
  count = search (rules, c.in_ok-push.ensures.items);
  none = λ i. rw (c.in_ok-push.ensures.items, map-append rc_value c.loop-number.lists.items (c.in_ok-list.list ∷ []))
      (empty_pushed (map rc_value c.loop-number.lists.items) (rc_value c.in_ok-list.list) (ap (λ (v : Vec ℕ). v.items) (c.in_ok-list.ensures.cases ∙ c.in_ok-empty.ensures.ok) ∙ c.new.ensures.items) c.loop-number.invariant.none i);
}
