-- What is counted of a description, how much of it there may be, and the fault where there is more.
use Rattle.std.specs.Prelude.{codes, ℕ, ◌-◌, ◌^◌, Bool, List, min, nat_lt}
use Rattle.lisa_tree.specs.declared.faults.DescFault.{DescFault}
use Rattle.lisa_tree.specs.declared.faults.DescFault.TheVariants as faults
use Rattle.description_sizes.specs.declared.sizes.Measure.{Measure}
use Rattle.description_sizes.specs.declared.sizes.Measure.TheVariants as measures
use Rattle.description_sizes.specs.declared.sizes.Size.{Size}

abbrev pub word_of : Measure → List ℕ
word_of measures.Stages = codes "stages"
word_of measures.Pins = codes "pins"
word_of measures.Operations = codes "operations"
word_of measures.Arrays = codes "arrays"
word_of measures.Cells = codes "cells"
word_of measures.Forms = codes "forms"
word_of measures.Occurrences = codes "occurrences"
word_of measures.Items = codes "items"
word_of measures.Statements = codes "statements"
word_of measures.Nodes = codes "nodes"

abbrev pub limit_of : Measure → ℕ
limit_of measures.Stages = 8
limit_of measures.Pins = 64
limit_of measures.Operations = 1024
limit_of measures.Arrays = 1024
limit_of measures.Cells = 4194304
limit_of measures.Forms = 1024
limit_of measures.Occurrences = 4096
limit_of measures.Items = 8192
limit_of measures.Statements = 4096
limit_of measures.Nodes = 4194304

abbrev pub size : Measure → ℕ → Size
size what count = record { what = what; count = count }

-- there is more than there may be
abbrev pub exceeds : Size → Bool
exceeds s = nat_lt (limit_of s.what) s.count

-- a count past 2 ^ 64 - 1 is told as that
abbrev pub told : Size → Size
told s = size s.what (min s.count (2 ^ 64 - 1))

abbrev pub fault : Size → DescFault
fault s = faults.TooMany (word_of s.what) (told s).count (limit_of s.what)
