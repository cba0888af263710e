-- The lines of a description's faults.
use Rattle.std.specs.Prelude.{[], ◌∷◌, codes}
use Rattle.lisa_tree.specs.declared.faults.DescFault.{DescFault}
use Rattle.lisa_tree.specs.declared.faults.DescFault.TheVariants as faults
use Rattle.refusal_lines.specs.Lines.{Line, line, name, text, number, word}

-- want of memory is no refusal, and has no line of its own
abbrev pub description_line : DescFault → Line
description_line (faults.BadByte at) = line (codes "description 1 BadByte") (number (codes "at") at ∷ [])
description_line (faults.NumberTooWide at) = line (codes "description 2 NumberTooWide") (number (codes "at") at ∷ [])
description_line (faults.NameTooLong at) = line (codes "description 3 NameTooLong") (number (codes "at") at ∷ [])
description_line (faults.TooDeep at) = line (codes "description 4 TooDeep") (number (codes "at") at ∷ [])
description_line (faults.NotADescription at) = line (codes "description 5 NotADescription") (number (codes "at") at ∷ [])
description_line (faults.Duplicate name') = line (codes "description 6 Duplicate") (name (codes "name") name' ∷ [])
description_line (faults.Unknown operation name') = line (codes "description 7 Unknown") (name (codes "operation") operation ∷ name (codes "name") name' ∷ [])
description_line (faults.WrongKind operation name') = line (codes "description 8 WrongKind") (name (codes "operation") operation ∷ name (codes "name") name' ∷ [])
description_line (faults.BadWidth name' width) = line (codes "description 9 BadWidth") (name (codes "name") name' ∷ number (codes "width") width ∷ [])
description_line (faults.BadDepth name' depth) = line (codes "description 10 BadDepth") (name (codes "name") name' ∷ number (codes "depth") depth ∷ [])
description_line (faults.Narrowing operation from to) = line (codes "description 11 Narrowing") (name (codes "operation") operation ∷ number (codes "from") from ∷ number (codes "to") to ∷ [])
description_line (faults.LoopWithoutBound operation) = line (codes "description 12 LoopWithoutBound") (name (codes "operation") operation ∷ [])
description_line (faults.LoopTooLong operation turns) = line (codes "description 13 LoopTooLong") (name (codes "operation") operation ∷ number (codes "turns") turns ∷ [])
description_line (faults.Circular operation) = line (codes "description 14 Circular") (name (codes "operation") operation ∷ [])
description_line (faults.Backward activator activated) = line (codes "description 15 Backward") (name (codes "activator") activator ∷ name (codes "activated") activated ∷ [])
description_line (faults.Control operation stage) = line (codes "description 16 Control") (name (codes "operation") operation ∷ name (codes "stage") stage ∷ [])
description_line faults.BadMain = line (codes "description 17 BadMain") ([])
description_line faults.BadReset = line (codes "description 18 BadReset") ([])
description_line (faults.GroupWidth operation name') = line (codes "description 19 GroupWidth") (name (codes "operation") operation ∷ name (codes "name") name' ∷ [])
description_line (faults.NotWritten operation name') = line (codes "description 20 NotWritten") (name (codes "operation") operation ∷ name (codes "name") name' ∷ [])
description_line (faults.RootTwice operation) = line (codes "description 21 RootTwice") (name (codes "operation") operation ∷ [])
description_line (faults.TooMany what count limit) = line (codes "description 22 TooMany") (name (codes "what") what ∷ number (codes "count") count ∷ number (codes "limit") limit ∷ [])
description_line (faults.BadText form) = line (codes "description 23 BadText") (name (codes "form") form ∷ [])
description_line (faults.Overlap first second word') = line (codes "description 24 Overlap") (name (codes "first") first ∷ name (codes "second") second ∷ word (codes "word") word' ∷ [])
description_line (faults.Ambiguous first second text') = line (codes "description 25 Ambiguous") (name (codes "first") first ∷ name (codes "second") second ∷ text (codes "text") text' ∷ [])
description_line (faults.NotAnAlias form) = line (codes "description 26 NotAnAlias") (name (codes "form") form ∷ [])
description_line faults.NoMemory = line [] []
