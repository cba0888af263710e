-- The files of a request are few, and those behind the first are short where all are.
use Rattle.std.proofs.Common.{◌≡◌, ◌<◌, ◌^◌, ℕ, zero, suc, List, [], ◌∷◌, ◌++◌, length, map, drop, Option, Some, None, refl, arith}
use Rattle.std.specs.Prelude.{All}
use Rattle.std.specs.List.{AllByRecursion}
use Rattle.std.specs.Global.{Vec}
use Rattle.std.proofs.lemmas.List.{length-map}
use Rattle.std.proofs.lemmas.List.Elements.{All-drop, All-from_recursion}
use Rattle.lisa_outcomes.specs.NamedFiles.{NamedFile, named, file_at}
use Rattle.lisa_outcomes.specs.RunFiles.{any_file, image_limit, schedule_limit}
use Rattle.verilog_command.specs.checked_descriptions.Descriptions.{description_limit}
use Rattle.generator_commands.specs.module_commands.Clocks.{module_limit}
use Rattle.generator_commands.specs.assembler_commands.Links.{object_limit}
use Rattle.command_words.specs.Requests.{Request, Format, Check, Verilog, Assemble, Link, Disassemble, Generate, Soak, Export, Import, Replay, Occupancy, Simulate, Clock, IsAllowed}
use Rattle.lisa_cli.specs.Files.{files_of}

run_few : (first : NamedFile) (a b : Option (List ℕ)) (k l : ℕ) → length (first ∷ (any_file a k ++ any_file b l)) < 2 ^ 32
run_few first None None k l = omega arith
run_few first None (Some y) k l = omega arith
run_few first (Some x) None k l = omega arith
run_few first (Some x) (Some y) k l = omega arith

pub few_files : (r : Request) → IsAllowed r → length (files_of r) < 2 ^ 32
few_files (Format description) h = omega arith
few_files (Check description) h = omega arith
few_files (Verilog description) h = omega arith
few_files (Assemble description source) h = omega arith
few_files (Link description objects) h = let same = length-map objects (λ (object : List ℕ). named object object_limit) in omega (arith, same, h.1.few)
few_files (Disassemble description image) h = omega arith
few_files (Generate description number count) h = omega arith
few_files (Soak description verilog number count edges) h = omega arith
few_files (Export format description image memory) h = omega arith
few_files (Import format description file memory) h = omega arith
few_files (Replay dump) h = omega arith
few_files (Occupancy names edges) h = run_few (named names.main description_limit) names.image names.schedule image_limit schedule_limit
few_files (Simulate task names) h = run_few (named names.main description_limit) names.image names.schedule image_limit schedule_limit
few_files (Clock task names) h = run_few (named names.main module_limit) names.image names.schedule image_limit schedule_limit

abbrev IsShort : Vec ℕ → Type 0
IsShort bytes = length bytes.items < 2 ^ 32

each_short : (all : List (Vec ℕ)) → ((place : ℕ) → length (file_at (map (λ bytes. bytes.items) all) place) < 2 ^ 32) → AllByRecursion IsShort all
each_short [] short = tt
each_short (bytes ∷ all) short = (short zero, each_short all (λ place. short (suc place)))

pub behind_short : (all : List (Vec ℕ)) → ((place : ℕ) → length (file_at (map (λ bytes. bytes.items) all) place) < 2 ^ 32) → All (λ bytes. length bytes.items < 2 ^ 32) (drop 1 all)
behind_short all short = All-drop IsShort 1 all (All-from_recursion IsShort all (each_short all short))

pub behind_texts : (all : List (Vec ℕ)) → map (λ bytes. bytes.items) (drop 1 all) ≡ drop 1 (map (λ bytes. bytes.items) all)
behind_texts [] = refl
behind_texts (bytes ∷ all) = refl
