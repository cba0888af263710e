use Rattle.lisa_forms.proofs.forms.Forms.+standing.Given as goal

abbrev pub decreases-standing : goal.decreases-standing
decreases-standing l = l.occurrence
