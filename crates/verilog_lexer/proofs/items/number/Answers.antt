use Rattle.std.proofs.Common.{◌≡◌, ◌≤◌, ◌<◌, ℕ, length, sym, ◌∙◌, subst, Some, None, arith}
use Rattle.verilog_lexer.specs.Reading.{Front, base_behind}
use Rattle.verilog_lexer.specs.Answers.{Gives, item_of}
use Rattle.verilog_lexer.proofs.LongestTokens.{based_is}
use Rattle.verilog_lexer.proofs.NumberLaws.{size_some, behind_long, based_judged, plain_judged}
use Rattle.verilog_lexer.proofs.items.number.Goals as goal

pub returns-in-Some : goal.returns-in-Some
returns-in-Some c =
    let is : base_behind c.args.size.now c.args.rest.now ≡ Some c.in-Some.base = sym c.base_behind.ensures.value ∙ c.in-Some.is in
    rw (based_judged c.args.at c.in-Some.base c.args.size.now c.args.rest.now c.requires.all is, (sym c.behind_letter.ensures.value)) c.based.ensures

pub returns-in-None : goal.returns-in-None
returns-in-None c =
    let is : base_behind c.args.size.now c.args.rest.now ≡ None = sym c.base_behind.ensures.value ∙ c.in-None.is in
    rw (plain_judged c.args.at c.args.size.now c.args.rest.now is) c.plain.ensures

pub based-requires : goal.based-requires
based-requires c =
    let is : base_behind c.args.size.now c.args.rest.now ≡ Some c.in-Some.base = sym c.base_behind.ensures.value ∙ c.in-Some.is in
    let x = based_is c.args.size.now c.args.rest.now c.in-Some.base is in
    let long = behind_long c.args.size.now c.args.rest.now c.in-Some.base is in
    record {
      least = size_some c.args.size.now c.requires.some c.requires.all x.lead;
      some = c.in-Some.ensures.some;
      first = omega (arith, long, c.behind_letter.ensures.len);
      few = omega (arith, long, c.behind_letter.ensures.len, c.requires.few);
    }
