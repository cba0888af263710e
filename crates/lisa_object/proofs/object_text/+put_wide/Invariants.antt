use Rattle.lisa_object.proofs.object_text.+put_wide.Given as goal

abbrev pub decreases-put_wide : goal.decreases-put_wide
decreases-put_wide l = l.value
