use Rattle.std.proofs.Common.{◌∷◌, [], arith}
use Rattle.std.proofs.lemmas.Result.{on_ok_weaker}
use Rattle.lisa_tree.specs.declared.tokens.TokenPart.TheVariants as parts
use Rattle.lisa_tree.specs.DescriptionGrammar.{names_by}
use Rattle.lisa_printer.specs.CanonicalTokens.{more_names}
use Rattle.lisa_printer.proofs.LoopLaws.{first_then, names_by-cons}
use Rattle.lisa_printer.proofs.resources.put_names.Goals as goal

pub returns : goal.returns
returns c =
    on_ok_weaker c.put_more_names.result
    (λ e.
    first_then (names_by c.args.sign) (more_names c.args.sign) c.first-item.result (parts.Named c.first-item.result ∷ []) (names_by-cons c.args.sign c.first-item.result)
    c.args.names.now c.args.page.now c.put_name.new.page c.put_more_names.new.page (omega arith) c.first-item.is c.in_ok-put_name.ensures e)
    c.put_more_names.ensures
