use Rattle.std.proofs.Common.{◌≡◌, ◌<◌, ◌%◌, ℕ, List, length, get_or, sym, ap, ◌∙◌, subst, arith}
use Rattle.std.specs.Prelude.{slice_index}
use Rattle.std.proofs.lemmas.List.{get_or_read}
use Rattle.std.proofs.lemmas.Nat.{mod_below}
use Rattle.lisa_tree.specs.Descriptions.{DescriptionTree, description_tree}
use Rattle.coding_tables.specs.Instructions.{form_count}
use Rattle.generated_programs.specs.Draws.{plain_forms, chosen_form}
use Rattle.generated_programs.proofs.Drawn.{chosen_within}
use Rattle.generated_programs.proofs.choices.Choices.chosen.Goals as goal

-- what is read at that place is what the word chooses
read : (d : DescriptionTree) (xs : List ℕ) (word count v : ℕ) → 0 < length xs → xs ≡ plain_forms d → count ≡ length xs → v ≡ get_or xs (word % count) v → v ≡ chosen_form d word
read d xs word count v some forms counted at =
    get_or_read xs _ _ (mod_below word (length xs) some) (subst (λ (n : ℕ). v ≡ get_or xs (word % n) v) counted at) 0
    ∙ ap (λ (ys : List ℕ). slice_index ys (word % length ys)) forms

pub returns-clause-form : goal.returns-clause-form
returns-clause-form c =
    let s = c.args.self.now in
    let held = s.plain.ok.0 in
    let count = c.len.ensures in
    read (description_tree s.machine.now) s.plain.items c.args.word c.len.result c.index.result.now s.some s.forms (omega (arith, held, count)) c.index.ensures

pub returns-clause-within : goal.returns-clause-within
returns-clause-within c =
    let s = c.args.self.now in
    let d = description_tree s.machine.now in
    let held = s.plain.ok.0 in
    let count = c.len.ensures in
    subst (λ (k : ℕ). k < form_count d) (sym (read d s.plain.items c.args.word c.len.result c.index.result.now s.some s.forms (omega (arith, held, count)) c.index.ensures))
    (chosen_within d c.args.word (subst (λ (xs : List ℕ). 0 < length xs) s.forms s.some))
