-- The summary of a soak.
use Rattle.std.specs.Prelude.{ℕ, ◌++◌, List, [], codes}
use Rattle.sha2.specs.Sha256.{sha256}
use Rattle.lisa_engine.specs.Text.{state_text}
use Rattle.lisa_object.specs.Texts.{digest_digits, image_text}
use Rattle.lisa_object.specs.declared.parts.Stamped.{Stamped}
use Rattle.lisa_engine.specs.Machines.{Machine, course_of, state_at}
use Rattle.description_commands.specs.Checks.{count_line}
use Rattle.generator_commands.specs.declared.reports.Report.{Report}

-- the text of a machine's state after so many edges in which all pins are 0
abbrev pub final_text : Machine → ℕ → List ℕ
final_text m edges = state_text m.items m.arrays edges (state_at (course_of m []) edges)

-- a label and a digest, on a line
abbrev pub digest_line : List ℕ → List ℕ → List ℕ
digest_line label digest = label ++ (digest_digits digest ++ codes "\n")

abbrev pub report_text : Report → List ℕ
report_text r =
    count_line (codes "cells ") r.cells
    ++ (count_line (codes "edges ") r.edges
    ++ (digest_line (codes "image ") r.image ++ (digest_line (codes "state ") r.state ++ digest_line (codes "clock ") r.clock)))

-- so many instructions were drawn, and the image of their program was run for so many edges over the machines of a description and of a module
abbrev pub report_of : (count edges : ℕ) → Stamped → (described clocked : Machine) → Report
report_of count edges image described clocked = record {
  cells = count;
  edges = edges;
  image = sha256 (image_text image);
  state = sha256 (final_text described edges);
  clock = sha256 (final_text clocked edges);
}
