use Rattle.std.proofs.Common.{ap, arith}
use Rattle.std.proofs.lemmas.List.{get_or_default}
use Rattle.pattern_tables.specs.declared.entry.Entry.{Entry}
use Rattle.pattern_tables.proofs.Grouping.{none_tabled, span_rises, one_tabled}
use Rattle.pattern_tables.proofs.making.tables_from.Goals as goal

pub masks-init : goal.masks-init
masks-init c = rw c.new-tables.ensures.items (none_tabled c.args.entries.now)

pub make-requires-clause-rising : goal.make-requires-clause-rising
make-requires-clause-rising c = span_rises c.args.entries.now c.masks.start c.end_of_mask-end.result c.requires.rising (omega arith) c.end_of_mask-end.ensures.within c.end_of_mask-end.ensures.same

pub masks-preserved : goal.masks-preserved
masks-preserved c =
    rw c.in_ok-push.ensures.items
    (one_tabled c.args.entries.now c.masks.start c.end_of_mask-end.result c.masks.tables.items c.in_ok-make.field-0 c.requires.rising c.masks.invariant
    c.end_of_mask-end.ensures.more c.end_of_mask-end.ensures.within c.end_of_mask-end.ensures.same c.end_of_mask-end.ensures.end
    _ (λ d. ap (λ (e : Entry). e.mask) (get_or_default c.args.entries.now c.masks.start _ d c.masks-test.true)) c.in_ok-make.ensures.mask
    c.in_ok-make.ensures.entries)
