use Rattle.pattern_tables.proofs.decoder.Decoder.form_of.Given as goal

abbrev pub ghosts-form_from : goal.ghosts-form_from
ghosts-form_from a = record { name = a.blank.name; parts = a.blank.parts }
