use Rattle.std.proofs.Common.{◌≡◌, ◌+◌, ℕ, List, ◌++◌, ◌∷◌, [], length, map, sym, ap, ◌∙◌, arith}
use Rattle.std.specs.Str.Lines.{lines}
use Rattle.std.proofs.lemmas.List.{map_push}
use Rattle.std.proofs.lemmas.Result.{err_from_is_err_and}
use Rattle.asm_source.specs.declared.parts.SourceLine.{SourceLine}
use Rattle.asm_source.specs.Plain.{line_tree}
use Rattle.asm_source.specs.Source.{source_from, source_of}
use Rattle.asm_source.specs.Gives.{lines_with}
use Rattle.asm_source.proofs.LineLoop.{begins, goes_on, misses_on, all_read}
use Rattle.asm_source.proofs.reader.read_source.Goals as goal

pub each-init : goal.each-init
unfolding source_of
each-init c = (ap (λ (l : List SourceLine). lines_with (map line_tree l) (source_from 1 (lines c.args.bytes.now))) c.in_ok-all.ensures.items ∙ begins (source_from 1 (lines c.args.bytes.now)), omega arith)

pub returns-in_err-read_line : goal.returns-in_err-read_line
returns-in_err-read_line c =
    let p = err_from_is_err_and c.from_residual-in_err-read_line.result c.from_residual-in_err-read_line.ensures.1 in
    let same = ap (λ (l : List (List ℕ)). lines_with (map line_tree c.each.all.items) (source_from (c.each.number + 1) l)) (sym c.in-Some.ensures.lines) ∙ c.each.invariant.0 in
    rw (p.1, p.2) (misses_on (map line_tree c.each.all.items) (c.each.number + 1) c.in-Some.text.now (lines c.in-Some.after.now) c.in_err-read_line.field-0.0 _ c.in_err-read_line.ensures same)

pub each-preserved : goal.each-preserved
each-preserved c =
    let same = ap (λ (l : List (List ℕ)). lines_with (map line_tree c.each.all.items) (source_from (c.each.number + 1) l)) (sym c.in-Some.ensures.lines) ∙ c.each.invariant.0 in
    let more : map line_tree c.push.new.self.items ≡ map line_tree c.each.all.items ++ line_tree c.in_ok-read_line.field-0 ∷ [] = rw c.in_ok-push.ensures.items (map_push line_tree c.each.all.items c.in_ok-read_line.field-0) in
    (rw more (goes_on (map line_tree c.each.all.items) (c.each.number + 1) c.in-Some.text.now (lines c.in-Some.after.now) (line_tree c.in_ok-read_line.field-0) _ c.in_ok-read_line.ensures same), omega (arith, c.each.invariant.1, ap length c.in-Some.ensures.lines))

pub returns : goal.returns
returns c =
    let same = ap (λ (l : List (List ℕ)). lines_with (map line_tree c.each.all.items) (source_from (c.each.number + 1) l)) (sym c.in_default.ensures.lines) ∙ c.each.invariant.0 in
    all_read (map line_tree c.each.all.items) (c.each.number + 1) _ same
