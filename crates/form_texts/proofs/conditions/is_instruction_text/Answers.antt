use Rattle.form_texts.proofs.conditions.is_instruction_text.Goals as goal

pub is_clean-requires : goal.is_clean-requires
is_clean-requires c = record { parts = λ o s at. (c.requires.opened.opened o s (rw c.deref.ensures.value at at)).parts }
