-- Words behind blanks.
use Rattle.std.specs.Prelude.{ℕ, List, [], ◌∷◌, ◌++◌}
use Rattle.std.specs.List.{flat_map}
use Rattle.lisa_object.specs.declared.parts.ObjectLine.{ObjectLine}
use Rattle.lisa_object.specs.Objects.{object_line_tree}
use Rattle.lisa_object.specs.ObjectText.{line_words}
use Rattle.lisa_object.specs.Texts.{line_of}

-- a blank before each word
abbrev pub behind_blanks : List (List ℕ) → List ℕ
behind_blanks words = flat_map (λ w. 32 ∷ w) words

-- a line's text, without its line feed
abbrev pub line_text : ObjectLine → List ℕ
line_text l = line_of (line_words (object_line_tree l))
