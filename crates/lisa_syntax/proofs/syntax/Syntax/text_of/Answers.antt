use Rattle.std.proofs.Common.{ℕ, List, length, refl, sym, ap, ◌∙◌, subst}
use Rattle.instruction_texts.specs.Written.{Holds}
use Rattle.text_tables.specs.Shared.{shapes_at}
use Rattle.lisa_syntax.specs.Orders.{IsOrder}
use Rattle.lisa_syntax.proofs.Texts.{Shows, ready, order_seen, text_kept}
use Rattle.lisa_syntax.proofs.syntax.Syntax.text_of.Goals as goal

pub in_text_order-requires-clause-order : goal.in_text_order-requires-clause-order
in_text_order-requires-clause-order c =
    let s = c.args.self.now in
    let r = ready s c.args.form c.args.fields.now c.requires.values in
    let order = order_seen s c.args.form r.within c.index.result.now c.deref.result.now c.index.ensures c.deref.ensures.value in
    subst (λ (xs : List ℕ). IsOrder xs) (sym order) (s.ordered c.args.form r.within).is_order

pub in_text_order-requires-clause-level : goal.in_text_order-requires-clause-level
in_text_order-requires-clause-level c =
    let s = c.args.self.now in
    let r = ready s c.args.form c.args.fields.now c.requires.values in
    let order = order_seen s c.args.form r.within c.index.result.now c.deref.result.now c.index.ensures c.deref.ensures.value in
    r.level ∙ ap (λ (xs : List ℕ). length xs) (sym order)

pub text_of-requires-clause-within : goal.text_of-requires-clause-within
text_of-requires-clause-within c = (ready c.args.self.now c.args.form c.args.fields.now c.requires.values).within

pub text_of-requires-clause-holds : goal.text_of-requires-clause-holds
text_of-requires-clause-holds c =
    let s = c.args.self.now in
    let r = ready s c.args.form c.args.fields.now c.requires.values in
    let order = order_seen s c.args.form r.within c.index.result.now c.deref.result.now c.index.ensures c.deref.ensures.value in
    let shows = subst (λ (xs : List ℕ). Shows xs c.args.fields.now c.in_ok-values.values.items) order c.in_ok-values.ensures in
    subst (λ (vs : List ℕ). Holds (shapes_at s.table c.args.form) vs) (sym c.deref-2.ensures.value) (r.holds c.in_ok-values.values.items shows)

pub returns : goal.returns
returns c =
    let s = c.args.self.now in
    let r = ready s c.args.form c.args.fields.now c.requires.values in
    let order = order_seen s c.args.form r.within c.index.result.now c.deref.result.now c.index.ensures c.deref.ensures.value in
    let shows = subst (λ (xs : List ℕ). Shows xs c.args.fields.now c.in_ok-values.values.items) order c.in_ok-values.ensures in
    record { text = text_kept s c.args.form c.args.fields.now c.in_ok-values.values.items shows (shapes_at s.table c.args.form) refl c.deref-2.result.now c.deref-2.ensures.value c.text_of.result c.text_of.ensures.exact }
