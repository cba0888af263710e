use Rattle.std.proofs.Common.{◌≡◌, ◌++◌, List, ℕ, None, OnOk, option_copied, option_to_list, ap₂, subst}
use Rattle.asm_source.specs.Plain.{line_tree}
use Rattle.lisa_object.specs.Seen.{HoldsSorted}
use Rattle.lisa_assembler.specs.Faults.{first_double}
use Rattle.lisa_assembler.specs.Sources.{line_names}
use Rattle.lisa_assembler.proofs.line.begin_line.Goals as goal

pub returns-clause-new : goal.returns-clause-new
returns-clause-new c = λ names h.
    let all : c.deref.result.now ++ option_to_list (option_copied c.own_name.result) ≡ line_names (line_tree c.args.line.now) =
    ap₂ (λ (xs ys : List (List ℕ)). xs ++ ys) c.deref.ensures.value c.own_name.ensures in
    subst (λ (ns : List (List ℕ)). OnOk c.enter_names.result ((first_double names ns ≡ None) × HoldsSorted c.enter_names.new.seen (ns ++ names))) all (c.enter_names.ensures.new names h)
