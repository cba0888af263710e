use Rattle.std.proofs.Common.{◌≡◌, ◌+◌, ◌-◌, ℕ, suc, ap, ap₂, sym, ◌∙◌, arith, List, map, drop, get_or}
use Rattle.lisa_tree.specs.Activations.{ActTrees, act_tree, act_trees}
use Rattle.lisa_tree.specs.Operations.{sections_at, activation_in}
use Rattle.stage_checks.proofs.Rows.{one_act}
use Rattle.lisa_meaning.specs.activation_trees.Starting.{Activated, activation}
use Rattle.pipeline_time.specs.Acts.{Acts, size}
use Rattle.pipeline_runs.specs.Runs.{acts_of}
use Rattle.lisa_meaning.specs.Trees.{followed, row, items_acts, items_tests}
use Rattle.activation_plans.specs.Growing.{activator}
use Rattle.activation_plans.proofs.Followed.{followed_none, row_more, next_more, item_more, behind_more}
use Rattle.activation_plans.proofs.Sized.{activation_size, activation_within, level_falls, chosen_smaller, other_smaller, item_smaller, none_left}
use Rattle.activation_plans.proofs.Chosen.{row_split, row_gone, one_branch, two_branches, activation_is, activation_none, none_below, some_below}
use Rattle.activation_plans.proofs.growing.+growing.Goals as goal

pub grow_below-grow_items-requires : goal.grow_below-grow_items-requires
grow_below-grow_items-requires g t c κs within =
    let d = g.N.Names.tree c.args.names.now in
    let o = c.args.occurrence.operation in
    let is = activation_is d o c.sections.result.now c.activation.result c.in-Some.acts c.sections.ensures c.activation.ensures c.in-Some.is in
    let fits = activation_within d o in
    let sized = ap activation_size is in
    let falls = level_falls c.args.levels _ (activation_size (activation_in (sections_at d o))) c.if-levels-eq0.false fits in
    (omega (arith, c.decreases, falls, sized), within)

pub grow_below-returns-in-None-clause-tree : goal.grow_below-returns-in-None-clause-tree
grow_below-returns-in-None-clause-tree g t c =
    let d = g.N.Names.tree c.args.names.now in
    let o = c.args.occurrence.operation in
    let is = activation_none d o c.sections.result.now c.activation.result c.sections.ensures c.activation.ensures c.in-None.is in
    c.nothing-in-None.ensures.tree ∙ sym (none_below d c.args.levels c.args.number c.args.occurrence c.if-levels-eq0.false is)

pub grow_below-returns-in-None-clause-next : goal.grow_below-returns-in-None-clause-next
grow_below-returns-in-None-clause-next g t c =
    let d = g.N.Names.tree c.args.names.now in
    let o = c.args.occurrence.operation in
    let is = activation_none d o c.sections.result.now c.activation.result c.sections.ensures c.activation.ensures c.in-None.is in
    let none = ap size (none_below d c.args.levels c.args.number c.args.occurrence c.if-levels-eq0.false is) in
    omega (arith, none, c.nothing-in-None.ensures.next, c.in_ok-from.ensures)

pub grow_below-returns-in_ok-grown-in-Some-clause-tree : goal.grow_below-returns-in_ok-grown-in-Some-clause-tree
grow_below-returns-in_ok-grown-in-Some-clause-tree g t c =
    let d = g.N.Names.tree c.args.names.now in
    let o = c.args.occurrence.operation in
    let is = activation_is d o c.sections.result.now c.activation.result c.in-Some.acts c.sections.ensures c.activation.ensures c.in-Some.is in
    c.in_ok-grown-in-Some.ensures.acts_are
    ∙ ap (λ (n : ℕ). items_acts (activator d (record { levels = c.args.levels - 1; number = c.args.number; occurrence = c.args.occurrence })) n 0 (act_trees c.in-Some.acts.now)) c.in_ok-from.ensures
    ∙ sym (some_below d c.args.levels c.args.number c.args.occurrence (act_trees c.in-Some.acts.now) c.if-levels-eq0.false is)

pub grow_below-returns-in_ok-grown-in-Some-clause-next : goal.grow_below-returns-in_ok-grown-in-Some-clause-next
grow_below-returns-in_ok-grown-in-Some-clause-next g t c =
    let d = g.N.Names.tree c.args.names.now in
    let o = c.args.occurrence.operation in
    let is = activation_is d o c.sections.result.now c.activation.result c.in-Some.acts c.sections.ensures c.activation.ensures c.in-Some.is in
    let whole = ap size
    (ap (λ (n : ℕ). items_acts (activator d (record { levels = c.args.levels - 1; number = c.args.number; occurrence = c.args.occurrence })) n 0 (act_trees c.in-Some.acts.now)) c.in_ok-from.ensures
    ∙ sym (some_below d c.args.levels c.args.number c.args.occurrence (act_trees c.in-Some.acts.now) c.if-levels-eq0.false is)) in
    omega (arith, whole, c.in_ok-grown-in-Some.ensures.next_is, c.in_ok-from.ensures)

pub grow_item-grow_items-requires : goal.grow_item-grow_items-requires
grow_item-grow_items-requires g t c κs within =
    let a = c.in-Choose in
    let less = chosen_smaller c.args.act.now a.field-0 a.chosen a.other c.deref.result.now a.is c.deref.ensures.value in
    (omega (arith, c.decreases, less), within)

pub grow_item-grow_items-requires-in-Some : goal.grow_item-grow_items-requires-in-Some
grow_item-grow_items-requires-in-Some g t c κs within =
    let a = c.in-Choose in
    let less = other_smaller c.args.act.now a.field-0 a.chosen c.in-Some.other a.other c.deref-in-Some.result.now a.is c.in-Some.is c.deref-in-Some.ensures.value in
    (omega (arith, c.decreases, less), within)

pub grow_items-grow_item-requires : goal.grow_items-grow_item-requires
grow_items-grow_item-requires g t c κs within =
    let less = item_smaller c.args.acts.now c.each.act-index c.act-item.result c.each-test.true c.act-item.is in
    (omega (arith, c.decreases, less), within)

pub grow_items-each-preserved : goal.grow_items-each-preserved
grow_items-each-preserved g t c =
    let a = activator (g.N.Names.tree c.args.names.now) c.args.above in
    let all = c.args.acts.now in
    let i = c.each.act-index in
    let item = act_tree c.act-item.result in
    let rest = act_trees (drop (i + 1) all) in
    let one = c.in_ok-one.one in
    let e = c.in_ok-one.ensures in
    let tree = acts_of c.each.tree in
    let more = acts_of c.follow.new.tree in
    let first = acts_of one.tree in
    let here = one_act all i c.act-item.result c.each-test.true c.act-item.is in
    let so_far = ap (λ (x : ActTrees). followed tree (items_acts a c.each.next c.each.last x)) (sym here) ∙ c.each.invariant.left in
    let number : one.next ≡ c.each.next + size first = e.next_is ∙ ap (λ (x : Acts). c.each.next + size x) (sym e.acts_are) in
    let tests = ap items_tests here in
    record {
      left =
          ap₂ (λ (n l : ℕ). followed more (items_acts a n l rest)) number e.test_is
          ∙ item_more a tree more first (items_acts a c.args.from c.args.test (act_trees all)) c.each.next c.each.last item rest e.acts_are c.follow.ensures so_far;
      next = behind_more tree more first c.args.from c.each.next one.next c.follow.ensures c.each.invariant.next number;
      last = let so = c.each.invariant.last in let here_test = e.test_is in omega (arith, so, here_test, tests);
    }

pub grow_items-returns : goal.grow_items-returns
grow_items-returns g t c =
    let a = activator (g.N.Names.tree c.args.names.now) c.args.above in
    let all = c.args.acts.now in
    let gone = none_left all c.each.act-index c.each-test.false in
    let tree = acts_of c.each.tree in
    let are = sym (followed_none tree) ∙ ap (λ (x : ActTrees). followed tree (items_acts a c.each.next c.each.last x)) (sym gone) ∙ c.each.invariant.left in
    let sizes = ap size are in
    let number = c.each.invariant.next in
    let tests = c.each.invariant.last in
    let none = ap items_tests gone in
    record { acts_are = are; next_is = omega (arith, sizes, number); test_is = omega (arith, tests, none) }

pub grow_item-returns-in_ok-grown-in-None : goal.grow_item-returns-in_ok-grown-in-None
grow_item-returns-in_ok-grown-in-None g t c =
    let a = activator (g.N.Names.tree c.args.names.now) c.args.above in
    let k = c.in-Choose in
    let xs = act_trees c.deref.result.now in
    let taken = c.in_ok-taken-in-Choose.taken in
    let e = c.in_ok-taken-in-Choose.ensures in
    let after = c.in_ok-after-in-Choose.ensures in
    let grown = c.in_ok-grown-in-None.grown in
    let h = c.in_ok-grown-in-None.ensures in
    let all = one_branch a c.args.from c.args.test grown.next grown.test c.args.act.now k.field-0 k.chosen k.other c.deref.result.now (acts_of grown.tree) (acts_of taken.tree)
    k.is c.in-None.is c.deref.ensures.value
    (e.acts_are ∙ ap (λ (n : ℕ). items_acts a c.args.from n xs) after)
    (h.next ∙ e.next_is ∙ ap (λ (n : ℕ). c.args.from + size (items_acts a c.args.from n xs)) after)
    (h.test ∙ e.test_is ∙ ap (λ (n : ℕ). n + items_tests xs) after)
    h.tree in
    record { acts_are = all.items_are; next_is = all.number_is; test_is = all.test_is }

pub grow_item-returns-in_ok-grown-in-Some : goal.grow_item-returns-in_ok-grown-in-Some
grow_item-returns-in_ok-grown-in-Some g t c =
    let a = activator (g.N.Names.tree c.args.names.now) c.args.above in
    let k = c.in-Choose in
    let xs = act_trees c.deref.result.now in
    let ys = act_trees c.deref-in-Some.result.now in
    let taken = c.in_ok-taken-in-Choose.taken in
    let e = c.in_ok-taken-in-Choose.ensures in
    let after = c.in_ok-after-in-Choose.ensures in
    let rest = c.in_ok-rest-in-Some.rest in
    let f = c.in_ok-rest-in-Some.ensures in
    let grown = c.in_ok-grown-in-Some.grown in
    let h = c.in_ok-grown-in-Some.ensures in
    let all = two_branches a c.args.from c.args.test taken.next taken.test grown.next grown.test c.args.act.now k.field-0 k.chosen c.in-Some.other k.other c.deref.result.now c.deref-in-Some.result.now
    (acts_of grown.tree) (acts_of taken.tree) (acts_of rest.tree)
    k.is c.in-Some.is c.deref.ensures.value c.deref-in-Some.ensures.value
    (e.acts_are ∙ ap (λ (n : ℕ). items_acts a c.args.from n xs) after)
    (e.next_is ∙ ap (λ (n : ℕ). c.args.from + size (items_acts a c.args.from n xs)) after)
    (e.test_is ∙ ap (λ (n : ℕ). n + items_tests xs) after)
    f.acts_are
    (h.next ∙ f.next_is)
    (h.test ∙ f.test_is)
    h.tree in
    record { acts_are = all.items_are; next_is = all.number_is; test_is = all.test_is }

pub grow_row-each-preserved : goal.grow_row-each-preserved
grow_row-each-preserved g t c =
    let d = g.N.Names.tree c.args.names.now in
    let a = activator d c.args.above in
    let all = c.args.operations.now in
    let i = c.each.operation-index in
    let kind = activation c.args.by_root in
    let x = c.in_ok-occurrence.occurrence in
    let own = c.in_ok-own.own in
    let e = c.in_ok-own.ensures in
    let tree = acts_of c.each.tree in
    let more = acts_of c.put_item.new.tree in
    let here = row_split c.args.by_root all i c.each-test.true in
    let so_far = ap (λ (l : List Activated). followed tree (row a c.each.next l)) (sym here) ∙ c.each.invariant.left in
    let sizes = ap size e.tree in
    let after = e.next in
    let number : own.next ≡ suc (c.each.next + size (acts_of own.tree)) = omega (arith, sizes, after) in
    record {
      left =
          ap (λ (n : ℕ). followed more (row a n (map kind (drop (i + 1) all)))) number
          ∙ row_more a tree more (acts_of own.tree) (row a c.args.from (map kind all)) c.each.next (kind (get_or all i 0)) (map kind (drop (i + 1) all)) x c.in_ok-occurrence.ensures e.tree c.in_ok-put_item.ensures so_far;
      next = next_more tree more (acts_of own.tree) c.args.from c.each.next own.next x c.in_ok-put_item.ensures c.each.invariant.next (omega (arith, number));
    }

pub grow_row-returns : goal.grow_row-returns
grow_row-returns g t c =
    let a = activator (g.N.Names.tree c.args.names.now) c.args.above in
    let all = c.args.operations.now in
    let gone = row_gone c.args.by_root all c.each.operation-index c.each-test.false in
    let tree = acts_of c.each.tree in
    let are = sym (followed_none tree) ∙ ap (λ (l : List Activated). followed tree (row a c.each.next l)) (sym gone) ∙ c.each.invariant.left in
    let sizes = ap size are in
    let number = c.each.invariant.next in
    record { acts_are = are; next_is = omega (arith, sizes, number); test_is = omega arith }
