mod FieldTexts
