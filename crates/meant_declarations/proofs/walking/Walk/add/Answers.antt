use Rattle.std.proofs.Common.{rules, ◌≡◌, ◌∙◌, ◌&&◌, ◌++◌, ◌∷◌, [], ap, sym, List, Option, Some, ℕ, Bool, nat_eq, length}
use Rattle.least_fixed_points.specs.Settles.{entry}
use Rattle.std.specs.Vec.{vec_len}
use Rattle.meant_declarations.specs.Walks.{kept}
use Rattle.meant_declarations.proofs.Walks.{add_marked, add_plain, kept_none}
use Rattle.meant_declarations.proofs.walking.Walk.add.Goals as goal

pub returns-in_ok-push-2-clause-found : goal.returns-in_ok-push-2-clause-found
returns-in_ok-push-2-clause-found c = λ b.
    let length_is : vec_len c.args.self.now.found ≡ length c.args.self.now.found.items = search rules in
    ap (λ (table : List (Option ℕ)). entry table b) (c.in_ok-push-2.ensures.items ∙ ap (λ (n : ℕ). c.args.self.now.found.items ++ Some n ∷ []) (c.len-node.ensures ∙ length_is))
    ∙ add_marked c.args.self.now.found.items b
    ∙ ap (λ (t : Bool). kept (entry c.args.self.now.found.items b) (t && nat_eq b (length c.args.self.now.found.items)) b) (sym c.if-is_marked.true)

pub returns-in_ok-push-3-clause-found : goal.returns-in_ok-push-3-clause-found
returns-in_ok-push-3-clause-found c = λ b.
    ap (λ (table : List (Option ℕ)). entry table b) c.in_ok-push-3.ensures.items
    ∙ add_plain c.args.self.now.found.items b
    ∙ sym (kept_none (entry c.args.self.now.found.items b) b)
    ∙ ap (λ (t : Bool). kept (entry c.args.self.now.found.items b) (t && nat_eq b (length c.args.self.now.found.items)) b) (sym c.if-is_marked.false)
