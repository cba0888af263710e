use Rattle.std.proofs.Common.{subst, ◌≤◌, ◌∙◌, ℕ, length, sym, ap}
use Rattle.description_sizes.specs.activation_trees.Places.{AreParentsBefore}
use Rattle.lisa_forms.proofs.Counts.{few_forms}
use Rattle.lisa_forms.proofs.Kept.{parents_before}
use Rattle.lisa_forms.proofs.Parts.{as_many, as_many_plain}
use Rattle.lisa_forms.proofs.checking.kept.Goals as goal

pub invariant_of-result : goal.invariant_of-result
invariant_of-result g c =
    let d = g.N.Names.tree c.args.names.now in
    let unfolded = c.requires.unfolded.all_occurrences in
    record {
      level = as_many_plain d c.args.forms.items c.in_ok-plain.plain.items c.requires.forms c.in_ok-plain.ensures;
      few = subst (λ (n : ℕ). n ≤ 1024) (sym (as_many d c.args.forms.items c.requires.forms)) (few_forms d c.args.width c.requires.unfolded.fits);
      all_ways = c.in_ok-ways.ensures.count ∙ ap length (sym unfolded);
      before = subst AreParentsBefore (sym unfolded) (parents_before d);
    }
