-- The files of a run: the one that says the machine, and an image and a schedule where these aren't left out.
use Rattle.std.specs.Prelude.{ℕ, List, [], ◌∷◌, ◌++◌, Option, Some, None, option_map}
use Rattle.lisa_outcomes.specs.NamedFiles.{NamedFile, named, file_at}

-- the most bytes of an image and of a schedule
abbrev pub image_limit : ℕ
image_limit = 134217728

abbrev pub schedule_limit : ℕ
schedule_limit = 1048576

pub record RunNames : Type 0 where
  pub main : List ℕ
  pub image : Option (List ℕ)
  pub schedule : Option (List ℕ)

pub record RunBytes : Type 0 where
  pub main : List ℕ
  pub image : Option (List ℕ)
  pub schedule : Option (List ℕ)

-- a file that may be left out
abbrev pub any_file : Option (List ℕ) → (limit : ℕ) → List NamedFile
any_file None limit = []
any_file (Some name) limit = named name limit ∷ []

-- they are read in this order, of which the first has this limit
abbrev pub run_files : RunNames → (limit : ℕ) → List NamedFile
run_files names limit = named names.main limit ∷ (any_file names.image image_limit ++ any_file names.schedule schedule_limit)

-- the place of the schedule, where it isn't left out
abbrev pub schedule_place : Option (List ℕ) → ℕ
schedule_place None = 1
schedule_place (Some image) = 2

-- which bytes are whose
abbrev pub run_bytes : RunNames → List (List ℕ) → RunBytes
run_bytes names bytes = record {
  main = file_at bytes 0;
  image = option_map (λ name. file_at bytes 1) names.image;
  schedule = option_map (λ name. file_at bytes (schedule_place names.image)) names.schedule;
}
