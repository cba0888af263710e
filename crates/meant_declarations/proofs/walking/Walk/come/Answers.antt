use Rattle.std.proofs.Common.{◌≡◌, ◌∙◌, ◌+◌, ap, sym, List, Option, Bool, Some, ℕ, length, set}
use Rattle.std.specs.Option.{is_some}
use Rattle.graph_paths.specs.Paths.{is_in}
use Rattle.least_fixed_points.specs.Settles.{entry, missing}
use Rattle.meant_declarations.proofs.Walks.{come_before, work_before, come_now, work_now, steps_now}
use Rattle.meant_declarations.proofs.walking.Walk.come.Goals as goal

is : {table read : List (Option ℕ)} {x : Option ℕ} {t : Bool} (node : ℕ) → read ≡ table → x ≡ entry read node → is_some x ≡ t → is_some (entry table node) ≡ t
is node e f g = ap (λ (table : List (Option ℕ)). is_some (entry table node)) (sym e) ∙ ap is_some (sym f) ∙ g

pub returns-clause-found : goal.returns-clause-found
returns-clause-found c = λ b. come_now c.args.self.now.found.items c.args.node c.args.origin b c.requires (is c.args.node c.deref.ensures.value c.entry_at.ensures (sym c.is_some.ensures ∙ c.if-is_some.false))

pub returns-clause-work : goal.returns-clause-work
returns-clause-work c = λ b. ap (is_in b) c.in_ok-push.ensures.items ∙ work_now c.args.self.now.found.items c.args.self.now.work.items c.args.node b (is c.args.node c.deref.ensures.value c.entry_at.ensures (sym c.is_some.ensures ∙ c.if-is_some.false))

pub returns-clause-steps : goal.returns-clause-steps
returns-clause-steps c =
    ap (λ (work : List ℕ). missing (set c.args.self.now.found.items c.args.node (Some c.args.origin)) + length work) c.in_ok-push.ensures.items
    ∙ steps_now c.args.self.now.found.items c.args.self.now.work.items c.args.node c.args.origin c.requires (is c.args.node c.deref.ensures.value c.entry_at.ensures (sym c.is_some.ensures ∙ c.if-is_some.false))

pub returns-then-is_some-clause-found : goal.returns-then-is_some-clause-found
returns-then-is_some-clause-found c = λ b. come_before c.args.self.now.found.items c.args.node c.args.origin b (is c.args.node c.deref.ensures.value c.entry_at.ensures (sym c.is_some.ensures ∙ c.if-is_some.true))

pub returns-then-is_some-clause-work : goal.returns-then-is_some-clause-work
returns-then-is_some-clause-work c = λ b. work_before c.args.self.now.found.items c.args.self.now.work.items c.args.node b (is c.args.node c.deref.ensures.value c.entry_at.ensures (sym c.is_some.ensures ∙ c.if-is_some.true))
