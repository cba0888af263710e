use Rattle.std.proofs.Common.{map, ◌∙◌, arith}
use Rattle.text_tables.proofs.Parted.{shared_is}
use Rattle.text_tables.proofs.Relating.{entry_more}
use Rattle.text_tables.proofs.relations.row.Goals as goal

pub lists-preserved : goal.lists-preserved
lists-preserved c =
    let shared = c.args.shared.now in
    entry_more (map (λ v. v.items) shared) c.args.list c.lists.before c.lists.row.items c.push.new.self.items c.relation_of.result c.deref.result.now c.deref-in-lists.result.now c.in_ok-push.ensures.items
    (c.deref.ensures.value ∙ shared_is shared c.args.list c.index-shared-list.result c.requires c.index-shared-list.is)
    (c.deref-in-lists.ensures.value ∙ shared_is shared c.lists.before c.index-shared-before.result (omega (arith, c.requires)) c.index-shared-before.is) c.relation_of.ensures c.lists.invariant
