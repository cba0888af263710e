use Rattle.std.proofs.Common.{arith, rules, subst, ap, ◌∙◌, List, length, ◌≡◌}
use Rattle.std.proofs.lemmas.List.Sorted.{answers_always, length_permutation}
use Rattle.std.specs.List.Sorted.{IsPermutation}
use Rattle.pattern_tables.specs.Entries.{plain_entries}
use Rattle.pattern_tables.specs.declared.entry.Entry.{Entry}
use Rattle.pattern_tables.proofs.Entering.{length-entries}
use Rattle.pattern_tables.proofs.Ordered.{key_of, sorted_rise}
use Rattle.pattern_tables.proofs.decoder.Decoder.make.Goals as goal

pub tables_from-requires-clause-rising : goal.tables_from-requires-clause-rising
tables_from-requires-clause-rising c =
    rw c.deref.ensures.value
    (sorted_rise c.args.patterns.now c.args.plain.now c.sort_by_key.new.self.items c.requires.apart
    (subst (λ (xs : List Entry). IsPermutation xs c.sort_by_key.new.self.items) c.in_ok-entries.ensures c.sort_by_key.ensures.permutation)
    (c.in_ok-sort_by_key.ensures.sorted key_of (answers_always _ _ _ (λ f a r g k. search rules))))

pub tables_from-requires-clause-few : goal.tables_from-requires-clause-few
tables_from-requires-clause-few c =
    let size : length c.sort_by_key.new.self.items ≡ length (plain_entries 0 c.args.patterns.now c.args.plain.now) = length_permutation _ _ c.sort_by_key.ensures.permutation ∙ ap (λ (xs : List Entry). length xs) c.in_ok-entries.ensures in
    let most = length-entries 0 c.args.patterns.now c.args.plain.now in
    rw c.deref.ensures.value (omega (arith, size, most, c.requires.few))
