use Rattle.std.proofs.Common.{◌≡◌, ◌∷◌, ◌++◌, ◌+◌, [], List, drop, map, option_copied, ap, arith}
use Rattle.std.proofs.lemmas.List.{drop_all}
use Rattle.std.proofs.lemmas.Result.{err_from_is_err_and}
use Rattle.lisa_tree.specs.Descriptions.{description_tree}
use Rattle.asm_source.specs.Plain.{PlainLine, line_tree}
use Rattle.lisa_object.specs.Objects.{object_line_tree}
use Rattle.lisa_assembler.specs.Sources.{line_names}
use Rattle.lisa_assembler.proofs.Assembled.{assembled_or, assembled_next, assembled_end}
use Rattle.lisa_assembler.proofs.Lists.{one_line}
use Rattle.lisa_assembler.proofs.assembling.assemble.Goals as goal

pub returns-in_err-here-clause-fault : goal.returns-in_err-here-clause-fault
returns-in_err-here-clause-fault c =
    let d = description_tree c.args.tools.now.machine.now in
    let all : List PlainLine = map line_tree c.args.lines.now in
    let rest : List PlainLine = map line_tree (drop (c.each.line-index + 1) c.args.lines.now) in
    let next : map line_tree (drop c.each.line-index c.args.lines.now) ≡ line_tree c.line-item.result ∷ rest = ap (map line_tree) (one_line c.args.lines.now c.each.line-index c.line-item.result (omega arith) c.line-item.is) in
    let i = c.each.invariant.1 in
    let p = err_from_is_err_and c.from_residual.result c.from_residual.ensures.1 in
    rw (p.1, p.2) (assembled_or d all (option_copied c.each.here) i.0 (map object_line_tree c.each.own.items) (map line_tree (drop c.each.line-index c.args.lines.now)) (line_tree c.line-item.result) rest next i.2
    c.in_err-here.field-0.0 (c.in_err-here.ensures.fault i.0 i.1))

pub each-preserved : goal.each-preserved
each-preserved c =
    let d = description_tree c.args.tools.now.machine.now in
    let all : List PlainLine = map line_tree c.args.lines.now in
    let rest : List PlainLine = map line_tree (drop (c.each.line-index + 1) c.args.lines.now) in
    let next : map line_tree (drop c.each.line-index c.args.lines.now) ≡ line_tree c.line-item.result ∷ rest = ap (map line_tree) (one_line c.args.lines.now c.each.line-index c.line-item.result (omega arith) c.line-item.is) in
    let i = c.each.invariant.1 in (
      c.in_ok-here.ensures.words,
      (
        line_names (line_tree c.line-item.result) ++ i.0,
        c.in_ok-here.ensures.held i.0 i.1,
        assembled_next d all (option_copied c.each.here) i.0 (map object_line_tree c.each.own.items) (map line_tree (drop c.each.line-index c.args.lines.now)) (line_tree c.line-item.result) rest next i.2
            (option_copied c.in_ok-here.here) (map object_line_tree c.assemble_line.new.lines.items) (c.in_ok-here.ensures.step i.0 i.1) c.in_ok-here.ensures.section,
      ),
    )

pub returns-clause-object : goal.returns-clause-object
returns-clause-object c =
    let i = c.each.invariant.1 in
    let end : map line_tree (drop c.each.line-index c.args.lines.now) ≡ [] = ap (map line_tree) (drop_all c.each.line-index c.args.lines.now (omega arith)) in
    assembled_end (description_tree c.args.tools.now.machine.now) (map line_tree c.args.lines.now) (option_copied c.each.here) i.0 (map object_line_tree c.each.own.items)
    (map line_tree (drop c.each.line-index c.args.lines.now)) c.args.digest end i.2 c.requires.digest
