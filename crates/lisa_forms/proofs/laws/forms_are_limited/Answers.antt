use Rattle.lisa_forms.proofs.laws.forms_are_limited.Goals as goal

pub returns-clause-accepted : goal.returns-clause-accepted
returns-clause-accepted c d f are = are.accepted

pub returns-clause-whole : goal.returns-clause-whole
returns-clause-whole c d f are = are.has_forms

pub returns-clause-limited : goal.returns-clause-limited
returns-clause-limited c d f are = record { width = f.width; has_width = are.has_width; limits = are.limits }
