use Rattle.std.proofs.Common.{◌≡◌, ◌↔◌, ◌∙◌, ℕ, List, Bool, Option, true, ap}
use Rattle.std.specs.Global.{Vec}
use Rattle.std.specs.List.{list_any}
use Rattle.std.proofs.lemmas.Result.{IfOk-weaker}
use Rattle.graph_paths.specs.Paths.{saw, targets}
use Rattle.least_fixed_points.specs.Settles.{entry}
use Rattle.meant_declarations.specs.Meant.{Differ}
use Rattle.meant_declarations.specs.Meanings.{Meant, SomeLedTo}
use Rattle.meant_declarations.specs.Walks.{found_value, are_other}
use Rattle.meant_declarations.proofs.Differ.{exactly}
use Rattle.meant_declarations.proofs.meanings.Meanings.differ.Goals as goal

pub returns-clause-exact : goal.returns-clause-exact
returns-clause-exact g c =
    IfOk-weaker c.reach.result (λ (told : Vec Bool). (i : ℕ) → (saw told.items i ≡ true) ↔ SomeLedTo (g.N.Names.tree c.args.names.now) (λ j. saw c.deref-5.result.now j ≡ true) i)
    (λ (told : Vec Bool). (i : ℕ) → (saw told.items i ≡ true) ↔ Differ (g.N.Names.tree c.args.names.now) g.T.PartialEq.eq (entry c.args.values.now) i)
    (λ told is i. exactly (g.N.Names.tree c.args.names.now) c.args.self.now.next c.requires.sources g.T.PartialEq.eq g.met.T.Eq.laws (entry c.args.values.now) c.deref.result.now (entry c.in_ok-found.found.items) (entry c.in_ok-own.own.items) c.deref-5.result.now
    (λ k. ap (λ (marks : List Bool). saw marks k) c.deref.ensures.value ∙ c.in_ok-known.ensures.marked k)
    c.in_ok-found.ensures.exact
    (λ k. c.in_ok-own.ensures k ∙ ap (λ (found : List (Option ℕ)). found_value (entry c.args.values.now) (entry found k)) c.deref-2.ensures.value)
    (λ k. ap (λ (marks : List Bool). saw marks k) c.deref-5.ensures.value
    ∙ c.in_ok-mixed.ensures k
    ∙ ap (λ (own : List (Option g.row.T.Denot)). list_any (λ (j : ℕ). are_other g.T.PartialEq.eq (entry own k) (entry own j)) (targets c.deref-3.result.now k)) c.deref-4.ensures.value
    ∙ ap (list_any (λ (j : ℕ). are_other g.T.PartialEq.eq (entry c.in_ok-own.own.items k) (entry c.in_ok-own.own.items j)))
    (ap (λ (next : List (Vec ℕ)). targets next k) (c.deref-3.ensures.value ∙ ap (λ (m : Meant). m.next) c.self.view_is)))
    i (saw told.items i) (is i))
    c.reach.ensures.exact
