use Rattle.std.proofs.Common.{◌≡◌, ◌++◌, List, map, drop}
use Rattle.std.specs.List.{flat_map}
use Rattle.form_texts.specs.Segments.{written_in}
use Rattle.form_texts.specs.Strings.{symbols_of, part_of}
use Rattle.form_texts.specs.Written.{numbered_fields}
use Rattle.form_texts.specs.declared.strings.Strings.{Strings}
use Rattle.form_texts.proofs.assembling.assemble.Given as goal

abbrev pub invariant-loop-segment : goal.invariant-loop-segment
invariant-loop-segment l = (all : List Strings)
    → flat_map (symbols_of all) l.symbols.items ++ written_in all (drop l.segment-index l.segments) (numbered_fields l.source.first l.source.fields.now) (map (part_of all) l.source.parts.now)
    ≡ written_in all l.segments (numbered_fields l.source.first l.source.fields.now) (map (part_of all) l.source.parts.now)
