use Rattle.std.proofs.Common.{◌≡◌, ℕ, List, [], ◌∷◌, ◌++◌, length, ap, sym, ◌∙◌}
use Rattle.std.specs.Prelude.{codes, decimal}
use Rattle.std.proofs.lemmas.Result.{IfOk-equal}
use Rattle.lisa_engine.specs.Memory.{Memory}
use Rattle.lisa_object.specs.Texts.{line_of, memory_head}
use Rattle.lisa_object.proofs.Puts.{head_puts}
use Rattle.lisa_object.proofs.image_text.put_head.Goals as goal

pub returns : goal.returns
returns c =
    let pieces = head_puts c.args.out.now.items _ _ _ _ _ _ _ _ _ _ _ _ c.in_ok-put.ensures c.in_ok-put-2.ensures c.in_ok-put-3.ensures c.in_ok-put_decimal.ensures c.in_ok-put-4.ensures c.in_ok-put_decimal-2.ensures c.in_ok-put-5.ensures c.in_ok-put_decimal-3.ensures in
    IfOk-equal c.put-6.result _ _ _ c.put-6.ensures
    (pieces
    ∙ ap (λ (n : List ℕ). c.args.out.now.items ++ (line_of (codes "memory" ∷ n ∷ decimal c.memory.inside.width ∷ decimal c.memory.inside.depth ∷ decimal c.args.count ∷ []) ++ 10 ∷ [])) c.as_bytes.ensures
    ∙ ap (λ (m : Memory). c.args.out.now.items ++ (line_of (codes "memory" ∷ m.name ∷ decimal m.width ∷ decimal m.depth ∷ decimal c.args.count ∷ []) ++ 10 ∷ [])) c.memory.view_is
    ∙ ap (λ (k : ℕ). c.args.out.now.items ++ (line_of (codes "memory" ∷ c.args.memory.now.name ∷ decimal c.args.memory.now.width ∷ decimal c.args.memory.now.depth ∷ decimal k ∷ []) ++ 10 ∷ [])) c.requires)
