use Rattle.std.proofs.Common.{◌≡◌, ℕ, Some, None, length, inl, inr, refl, sym, ◌∙◌, rules, arith}
use Rattle.std.specs.List.{slice_get}
use Rattle.std.proofs.lemmas.Result.{err_from_is_err_and}
use Rattle.lisa_tree.specs.Brackets.{IsFlat, IsTooDeep}
use Rattle.lisa_tree.specs.Descriptions.{description_tree}
use Rattle.lisa_tree.specs.Tokens.{toks}
use Rattle.lisa_reader.specs.Answers.{too_deep}
use Rattle.lisa_reader.specs.Reading.{description_of}
use Rattle.lisa_reader.proofs.ByteLaws.{found, same_tree, not_none, deep_spells_none, spelled_unbroken, missed_none, token_there, token_fault, no_description}
use Rattle.lisa_reader.proofs.reading.read_description.Goals as goal

pub returns-in_err-tokens-clause-fault : goal.returns-in_err-tokens-clause-fault
returns-in_err-tokens-clause-fault c =
    let p = err_from_is_err_and c.from_residual.result c.from_residual.ensures.1 in
    rw (p.1, p.2) (token_fault c.args.bytes.now c.in_err-tokens.field-0.0 c.in_err-tokens.ensures.fault)

pub returns-in-Some-clause-fault : goal.returns-in-Some-clause-fault
returns-in-Some-clause-fault c =
    let tokens = c.in_ok-tokens.tokens.items in
    let deep : IsTooDeep (toks tokens) c.in-Some.i = rw (← c.deref.ensures.value) c.in-Some.ensures in
    let there : slice_get tokens c.in-Some.i ≡ Some c.index.result.now = token_there tokens c.in-Some.i c.index.result.now deep c.index.ensures in
    inr (too_deep {i = c.in-Some.i} c.in_ok-tokens.ensures.found deep there)

pub returns-in-Ok-clause-found : goal.returns-in-Ok-clause-found
returns-in-Ok-clause-found c =
    let tokens = c.in_ok-tokens.tokens.items in
    let flat : IsFlat (toks tokens) = rw (← c.deref.ensures.value) c.in_default.ensures in
    let read : description_of (toks tokens) ≡ Some (description_tree c.in-Ok.d) = rw (← c.deref-2.ensures.value) c.in-Ok.ensures in
    found c.args.bytes.now tokens c.in_ok-tokens.ensures.found (description_tree c.in-Ok.d) flat read

pub returns-in-Ok-clause-only : goal.returns-in-Ok-clause-only
returns-in-Ok-clause-only c = λ t s.
    let tokens = c.in_ok-tokens.tokens.items in
    let read : description_of (toks tokens) ≡ Some (description_tree c.in-Ok.d) = rw (← c.deref-2.ensures.value) c.in-Ok.ensures in
    same_tree c.args.bytes.now tokens c.in_ok-tokens.ensures.found (description_tree c.in-Ok.d) t read s

pub returns-in-Ok-clause-only_fault : goal.returns-in-Ok-clause-only_fault
returns-in-Ok-clause-only_fault c = λ f b.
    let tokens = c.in_ok-tokens.tokens.items in
    let flat : IsFlat (toks tokens) = rw (← c.deref.ensures.value) c.in_default.ensures in
    let read : description_of (toks tokens) ≡ Some (description_tree c.in-Ok.d) = rw (← c.deref-2.ensures.value) c.in-Ok.ensures in
    absurd (spelled_unbroken c.args.bytes.now (description_tree c.in-Ok.d) f (found c.args.bytes.now tokens c.in_ok-tokens.ensures.found (description_tree c.in-Ok.d) flat read) b)

pub returns-clause-fault : goal.returns-clause-fault
returns-clause-fault c =
    let tokens = c.in_ok-tokens.tokens.items in
    let flat : IsFlat (toks tokens) = rw (← c.deref.ensures.value) c.in_default.ensures in
    let none : description_of (toks tokens) ≡ None = rw (← c.deref-2.ensures.value) (missed_none c.in-Err-At.field-0 c.in-Err-At.left _ c.in-Err-At.field-0-is c.in-Err-At.ensures) in
    inr (no_description c.args.bytes.now tokens c.place.result c.in_ok-tokens.ensures.found flat none (rw (← c.deref-in-Err-At.ensures.value) c.place.ensures))

pub returns-clause-only : goal.returns-clause-only
returns-clause-only c = λ t s.
    let tokens = c.in_ok-tokens.tokens.items in
    let none : description_of (toks tokens) ≡ None = rw (← c.deref-2.ensures.value) (missed_none c.in-Err-At.field-0 c.in-Err-At.left _ c.in-Err-At.field-0-is c.in-Err-At.ensures) in
    absurd (not_none c.args.bytes.now tokens c.in_ok-tokens.ensures.found none t s)
