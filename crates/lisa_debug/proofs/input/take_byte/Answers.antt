use Rattle.std.proofs.lemmas.Bool.{ne_eqb}
use Rattle.lisa_debug.proofs.Takings.{takes_other}
use Rattle.lisa_debug.proofs.input.take_byte.Goals as goal

pub returns-clause-takes : goal.returns-clause-takes
returns-clause-takes g c course start taken st had = takes_other c.args.byte _ taken start _ _ (ne_eqb c.args.byte 10 c.if-byte-eq10.false) st had c.keep_byte.ensures.kept c.keep_byte.ensures.on
