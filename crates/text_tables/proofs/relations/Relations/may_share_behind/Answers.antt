use Rattle.std.proofs.Common.{drop, arith}
use Rattle.text_tables.specs.Parts.{text_pieces}
use Rattle.text_tables.proofs.Parted.{share_parts}
use Rattle.text_tables.proofs.relations.Relations.may_share_behind.Goals as goal

pub returns-in-Apart : goal.returns-in-Apart
returns-in-Apart c = λ ts t u.
    absurd (c.in-Apart.ensures (text_pieces c.args.shared.now (drop 1 c.args.first.now)) (text_pieces c.args.shared.now (drop 1 c.args.second.now))
    (share_parts c.args.shared.now c.args.first.now c.args.second.now 0 c.index-first-0.result c.index-second-0.result (omega arith) (omega arith) c.index-first-0.is c.index-second-0.is (ts, t, u)))
