use Rattle.std.proofs.Common.{◌≡◌, ◌<◌, ◌++◌, ◌∷◌, [], length, map, Ok, Some, None, arith}
use Rattle.std.proofs.lemmas.List.{map_push}
use Rattle.std.proofs.lemmas.Result.{err_from_is_err_and}
use Rattle.asm_source.specs.Bytes.{skip_blanks}
use Rattle.asm_source.specs.Plain.{token_tree}
use Rattle.asm_source.specs.Parts.{token_at}
use Rattle.asm_source.proofs.Loops.{goes_on, ends, fails}
use Rattle.asm_source.proofs.Stops.{no_token}
use Rattle.asm_source.proofs.instruction.instruction.Goals as goal

pub returns-in_err-token : goal.returns-in_err-token
returns-in_err-token c =
    let p = err_from_is_err_and c.from_residual.result c.from_residual.ensures.1 in
    let there = rw c.skip_blanks-text.ensures.value at c.in_err-token.ensures.exact in
    rw (p.1, p.2) (fails token_at no_token c.args.text.now (map token_tree c.each.all.items) c.each.rest.now c.each.invariant c.in_err-token.field-0.0 there)

pub returns-in_default : goal.returns-in_default
returns-in_default c =
    let there : token_at (skip_blanks c.each.rest.now) ≡ Ok None = rw (c.skip_blanks-text.ensures.value, c.in_default.is) at c.in_ok-token.ensures.exact in
    rw c.skip_blanks-text.ensures.value (ends token_at no_token c.args.text.now (map token_tree c.each.all.items) c.each.rest.now c.each.invariant there)

pub each-preserved : goal.each-preserved
each-preserved c =
    let there : token_at (skip_blanks c.each.rest.now) ≡ Ok (Some (token_tree c.in-Some.token, c.in-Some.after.now)) = rw (c.skip_blanks-text.ensures.value, c.in-Some.is) at c.in_ok-token.ensures.exact in
    let less : length c.in-Some.after.now < length c.each.rest.now = omega (arith, c.skip_blanks-text.ensures.shorter, rw c.in-Some.is at c.in_ok-token.ensures.shorter) in
    let more : map token_tree c.push.new.self.items ≡ map token_tree c.each.all.items ++ token_tree c.in-Some.token ∷ [] = rw c.in_ok-push.ensures.items (map_push token_tree c.each.all.items c.in-Some.token) in
    rw more (goes_on token_at no_token c.args.text.now (map token_tree c.each.all.items) c.each.rest.now c.each.invariant (token_tree c.in-Some.token) c.in-Some.after.now there less)
