use Rattle.asm_source.proofs.operands.+terms_at.Given as goal

abbrev pub decreases-terms_at : goal.decreases-terms_at
decreases-terms_at l = l.most
