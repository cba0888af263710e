use Rattle.std.proofs.Common.{◌≡◌, ℕ, List, [], ◌∷◌, ◌++◌, map, sym, ap, ◌∙◌}
use Rattle.std.specs.Prelude.{codes}
use Rattle.lisa_object.specs.Texts.{text_of}
use Rattle.lisa_object.specs.ObjectText.{object_head}
use Rattle.lisa_object.specs.ObjectPieces.{line_text}
use Rattle.lisa_object.proofs.ObjectPuts.{lines_put}
use Rattle.lisa_object.proofs.object_text.print_object.Goals as goal

pub returns : goal.returns
returns c =
    c.in_ok-put_object.ensures
    ∙ ap (λ (l : List ℕ). l ++ ((object_head c.args.object.now.digest ++ 10 ∷ []) ++ (text_of (map line_text c.args.object.now.lines.items) ++ (codes "end" ++ 10 ∷ [])))) c.new-out.ensures.items
    ∙ ap (λ (l : List ℕ). (object_head c.args.object.now.digest ++ 10 ∷ []) ++ l) (sym (lines_put c.args.object.now.lines.items))
