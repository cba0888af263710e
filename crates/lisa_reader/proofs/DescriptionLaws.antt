-- A description that is read is spelled so, and one that is spelled is read.
use Rattle.std.proofs.Common.{◌≡◌, ℕ, ◌≤◌, max, Bool, true, false, cond, List, [], ◌∷◌, ◌++◌, Option, Some, None, refl, sym, ap, subst, ◌∙◌, append_assoc, arith}
use Rattle.std.proofs.lemmas.List.{append-nil}
use Rattle.lisa_tree.specs.declared.tokens.Keyword.TheVariants as keywords
use Rattle.lisa_tree.specs.declared.tokens.Sign.TheVariants as signs
use Rattle.lisa_tree.specs.declared.tokens.TokenPart.{TokenPart}
use Rattle.lisa_tree.specs.declared.tokens.TokenPart.TheVariants as parts
use Rattle.lisa_tree.specs.Descriptions.{ResourceTree, OperationTree, DescriptionTree, operations_depth, description_depth}
use Rattle.lisa_tree.specs.Grammar.{Toks, mark}
use Rattle.lisa_tree.specs.DescriptionGrammar as grammar
use Rattle.lisa_tree.specs.DescriptionGrammar.{word, braced, SpellsResource, SpellsOperation, SpellsDescription}
use Rattle.lisa_words.specs.Many.{Each, none, some, many, with_front}
use Rattle.lisa_words.specs.Steps.{◌>>=◌}
use Rattle.lisa_words.proofs.StepLaws.{bind_some, some_is}
use Rattle.lisa_words.proofs.ManyLaws.{many_sound, many_complete}
use Rattle.lisa_behav_reader.specs.declared.misses.Missed.{Missed}
use Rattle.lisa_behav_reader.specs.declared.misses.Missed.TheVariants as misses
use Rattle.lisa_behav_reader.specs.Gives.{Fails}
use Rattle.lisa_behav_reader.specs.Past.{past_of}
use Rattle.lisa_behav_reader.proofs.PastLaws.{past_is}
use Rattle.lisa_section_reader.specs.Resources.{ends, resources_of}
use Rattle.lisa_section_reader.proofs.EachLaws.{to_items, from_items}
use Rattle.lisa_section_reader.proofs.ListLaws.{with_none}
use Rattle.lisa_section_reader.proofs.ResourceLaws.{resources_sound, resources_there}
use Rattle.lisa_reader.specs.Reading.{operation_of, is_done, operations_of, behind_resource, resource_part_of, description, description_of}
use Rattle.lisa_reader.proofs.OperationLaws.{SpellsShallow, operation_sound, operation_item}

-- ---- operations

spelled_each : {ts : Toks} {all : List OperationTree} → Each SpellsShallow ts all → grammar.Each SpellsOperation ts all
spelled_each none = grammar.none
spelled_each (some (d, le) f is) = grammar.some d (spelled_each f) is

shallow_each : {ts : Toks} {all : List OperationTree} → Each SpellsShallow ts all → operations_depth all ≤ 128
shallow_each none = omega arith
shallow_each (some (d, le) f is) = omega (arith, shallow_each f, le)

both_each : {ts : Toks} {all : List OperationTree} → grammar.Each SpellsOperation ts all → operations_depth all ≤ 128 → Each SpellsShallow ts all
both_each grammar.none le = none
both_each (grammar.some d f is) le = some (d, omega arith) (both_each f (omega arith)) is

pub done_nil : (ts : Toks) → is_done ts ≡ true → ts ≡ []
done_nil [] e = refl
done_nil (t ∷ ts) e = absurd cc

record AreOperations (ts : Toks) (x : List OperationTree × Toks) : Type 0 where
  pub spells : grammar.Each SpellsOperation ts x.0
  pub deep : operations_depth x.0 ≤ 128

operations_sound : (ts : Toks) (x : List OperationTree × Toks) → operations_of ts ≡ Some x → AreOperations ts x
unfolding operations_of
operations_sound ts x e =
    let t = many_sound SpellsShallow operation_of is_done operation_sound ts x e in
    let all : t.front ≡ ts = sym (append-nil t.front) ∙ ap (λ (l : Toks). t.front ++ l) (sym (done_nil x.1 t.stopped)) ∙ sym t.parts in
    record { spells = subst (λ (l : Toks). grammar.Each SpellsOperation l x.0) all (spelled_each t.spells); deep = shallow_each t.spells }

operations_there : (ts : Toks) (all : List OperationTree) → grammar.Each SpellsOperation ts all → operations_depth all ≤ 128 → operations_of ts ≡ Some (all, [])
unfolding operations_of
operations_there ts all d le = ap operations_of (sym (append-nil ts)) ∙ many_complete operation_item (both_each d le) [] refl

pub operations_start : (ts : Toks) → with_front [] (many operation_of is_done ts) ≡ operations_of ts
unfolding operations_of
operations_start ts = with_none (many operation_of is_done ts)

-- ---- the resources

resource_front : (ts us : Toks) → behind_resource ts ≡ Some us → ts ≡ word keywords.Resource ∷ us
resource_front (parts.Reserved keywords.Resource ∷ ts) us e = ap (λ (l : Toks). word keywords.Resource ∷ l) (some_is ts us e)
resource_front _ us e = absurd cc

record TakesResources (ts : Toks) (x : List ResourceTree × Toks) : Type 0 where
  pub inner : Toks
  pub parts : ts ≡ braced keywords.Resource inner ++ x.1
  pub spells : grammar.Each SpellsResource inner x.0

resource_part_sound : (ts : Toks) (x : List ResourceTree × Toks) → resource_part_of ts ≡ Some x → TakesResources ts x
unfolding resource_part_of
resource_part_sound ts x e =
    let p1 = bind_some (behind_resource ts) (λ a. past_of signs.OpenBrace a >>= λ b. resources_of b >>= λ all. past_of signs.CloseBrace all.1 >>= λ rest. Some (all.0, rest)) x e in
    let p2 = bind_some (past_of signs.OpenBrace p1.0) (λ b. resources_of b >>= λ all. past_of signs.CloseBrace all.1 >>= λ rest. Some (all.0, rest)) x p1.2 in
    let p3 = bind_some (resources_of p2.0) (λ all. past_of signs.CloseBrace all.1 >>= λ rest. Some (all.0, rest)) x p2.2 in
    let p4 = bind_some (past_of signs.CloseBrace p3.0.1) (λ rest. Some (p3.0.0, rest)) x p3.2 in
    let t = resources_sound p2.0 p3.0 p3.1 in
    let made : List ResourceTree × Toks = (p3.0.0, p4.0) in
    subst (λ (y : List ResourceTree × Toks). TakesResources ts y) (some_is made x p4.2) (record {
      inner = t.front;
      parts = resource_front ts p1.0 p1.1 ∙ ap (λ (l : Toks). word keywords.Resource ∷ l) (past_is signs.OpenBrace p1.0 p2.0 p2.1
          ∙ ap (λ (l : Toks). mark signs.OpenBrace ∷ l) (t.parts ∙ ap (λ (l : Toks). t.front ++ l) (past_is signs.CloseBrace p3.0.1 p4.0 p4.1) ∙ sym (append_assoc t.front (mark signs.CloseBrace ∷ []) p4.0)));
      spells = from_items t.spells;
    })

resource_part_there : (xs rest : Toks) (all : List ResourceTree) → grammar.Each SpellsResource xs all → resource_part_of (braced keywords.Resource xs ++ rest) ≡ Some (all, rest)
unfolding resource_part_of
resource_part_there xs rest all d =
    ap (λ (l : Toks). resource_part_of (word keywords.Resource ∷ mark signs.OpenBrace ∷ l)) (append_assoc xs (mark signs.CloseBrace ∷ []) rest)
    ∙ ap (λ (z : Option (List ResourceTree × Toks)). z >>= λ all. past_of signs.CloseBrace all.1 >>= λ rest. Some (all.0, rest)) (resources_there (to_items d) (mark signs.CloseBrace ∷ rest) refl)

-- ---- descriptions

pub record IsDescription (ts : Toks) (d : DescriptionTree) : Type 0 where
  pub spells : SpellsDescription ts d
  pub deep : description_depth d ≤ 128

pub description_sound : (ts : Toks) (d : DescriptionTree) → description_of ts ≡ Some d → IsDescription ts d
unfolding description_of
description_sound ts d e =
    let p1 = bind_some (resource_part_of ts) (λ r. operations_of r.1 >>= λ o. Some (description r.0 o.0)) d e in
    let p2 = bind_some (operations_of p1.0.1) (λ o. Some (description p1.0.0 o.0)) d p1.2 in
    let t = resource_part_sound ts p1.0 p1.1 in
    let u = operations_sound p1.0.1 p2.0 p2.1 in
    subst (λ (y : DescriptionTree). IsDescription ts y) (some_is (description p1.0.0 p2.0.0) d p2.2) (record {
      spells = record { resource_part = t.inner; operation_part = p1.0.1; spells_resources = t.spells; spells_operations = u.spells; whole = t.parts };
      deep = u.deep;
    })

pub description_there : (ts : Toks) (d : DescriptionTree) → SpellsDescription ts d → description_depth d ≤ 128 → description_of ts ≡ Some d
unfolding description_of
description_there ts d s le =
    ap description_of s.whole
    ∙ ap (λ (z : Option (List ResourceTree × Toks)). z >>= λ r. operations_of r.1 >>= λ o. Some (description r.0 o.0)) (resource_part_there s.resource_part s.operation_part d.resources s.spells_resources)
    ∙ ap (λ (z : Option (List OperationTree × Toks)). z >>= λ o. Some (description d.resources o.0)) (operations_there s.operation_part d.operations s.spells_operations le)
