use Rattle.std.proofs.Common.{◌+◌, ℕ, List, length, get_or, ap, ◌∙◌, arith}
use Rattle.std.proofs.lemmas.List.{length_push}
use Rattle.description_types.specs.declared.values.Traits.{Traits}
use Rattle.description_types.specs.Uses.{no_traits, choice_traits}
use Rattle.description_types.proofs.EachEntry.{one_more}
use Rattle.description_types.proofs.uses.traits_of_choices.Goals as goal

pub loop-choice-preserved : goal.loop-choice-preserved
loop-choice-preserved g c = record {
  len = ap length c.in_ok-push.ensures.items ∙ length_push c.loop-choice.table.items c.choice_traits.result ∙ ap (λ (k : ℕ). k + 1) c.loop-choice.invariant.len;
  each = λ i h.
      ap (λ (xs : List Traits). get_or xs i no_traits) c.in_ok-push.ensures.items
      ∙ one_more no_traits (choice_traits (g.N.Names.tree c.args.names.now)) c.loop-choice.table.items c.choice_traits.result c.loop-choice.choice c.loop-choice.invariant.len c.loop-choice.invariant.each c.choice_traits.ensures i h;
}

pub returns : goal.returns
returns g c = λ i h. c.loop-choice.invariant.each i (omega (arith, h, c.loop-choice.invariant.len))
