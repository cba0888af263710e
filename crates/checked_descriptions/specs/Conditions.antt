-- The conditions on a description that bytes spell, in the order of their numbers, and its first fault.
use Rattle.std.specs.Prelude.{ℕ, ◌⊎◌, List, [], ◌∷◌, None, Some}
use Rattle.lisa_tree.specs.declared.faults.DescFault.{DescFault}
use Rattle.lisa_tree.specs.Descriptions.{DescriptionTree}
use Rattle.name_checks.specs.Doubled.{duplicate}
use Rattle.name_checks.specs.Unknown.{unknown}
use Rattle.shape_checks.specs.Shapes.{bad_width, bad_depth, without_bound, too_long}
use Rattle.lisa_syntax.specs.kind_checks.WrongKinds.{IsFirstWrongKind}
use Rattle.lisa_syntax.specs.kind_checks.Narrowings.{IsFirstNarrowing}
use Rattle.stage_checks.specs.Controls.{control}
use Rattle.stage_checks.specs.Resets.{bad_reset}
use Rattle.stage_checks.specs.Backward.{IsBackwardVerdict}
use Rattle.lisa_syntax.specs.coding_checks.Uneven.{IsFirstGroupWidth}
use Rattle.lisa_syntax.specs.coding_checks.Written.{not_written}
use Rattle.lisa_syntax.specs.lisa_machine.Verdicts.{Verdict, at_places, IsCircleVerdict, IsBadMainVerdict}
use Rattle.lisa_syntax.specs.lisa_forms.Verdicts.{IsRootVerdict, IsSizeVerdict, IsTextVerdict}
use Rattle.lisa_syntax.specs.lisa_forms.Coverage.{IsOverlapVerdict, IsUncoveredVerdict}
use Rattle.lisa_syntax.specs.Texts.{IsAmbiguityVerdict}

-- its number, and of a description what its first fault is, or that it has none
pub record Condition : Type 1 where
  pub number : ℕ
  pub verdict : DescriptionTree → Verdict

abbrev pub condition : ℕ → (DescriptionTree → Verdict) → Condition
condition number verdict = record { number = number; verdict = verdict }

-- what breaks each stands beside it
abbrev pub conditions : List Condition
conditions =
    condition 6 (λ d. at_places d (duplicate d))  -- two things share a name, or something stands twice
    ∷ condition 7 (λ d. at_places d (unknown d))  -- a name stands for nothing
    ∷ condition 8 IsFirstWrongKind  -- a name is used against its declaration
    ∷ condition 9 (λ d. at_places d bad_width)  -- a width is none
    ∷ condition 10 (λ d. at_places d bad_depth)  -- an array's depth is none
    ∷ condition 11 IsFirstNarrowing  -- a value is wider than its place
    ∷ condition 12 (λ d. at_places d (without_bound d))  -- a loop isn't of the bounded form
    ∷ condition 13 (λ d. at_places d (too_long d))  -- a loop has too many turns
    ∷ condition 14 IsCircleVerdict  -- an operation reaches itself
    ∷ condition 15 IsBackwardVerdict  -- an operation that runs in a stage activates one of an earlier stage
    ∷ condition 16 (λ d. at_places d (control d))  -- a stall or flush stands in no later stage
    ∷ condition 17 IsBadMainVerdict  -- there is no fitting `main`
    ∷ condition 18 (λ d. at_places d (bad_reset d))  -- `reset` is more than assignments of registers and locals
    ∷ condition 19 IsFirstGroupWidth  -- the alternatives of a child differ in width
    ∷ condition 20 (λ d. at_places d (not_written d))  -- a label or child isn't written once in the coding and once in the syntax
    ∷ condition 21 IsRootVerdict  -- there is a second root, or the root occurs twice
    ∷ condition 22 IsSizeVerdict  -- there is too much of something
    ∷ condition 23 IsTextVerdict  -- a form's text can't stand in a source
    ∷ condition 24 IsOverlapVerdict  -- two plain forms have a word in common
    ∷ condition 25 IsAmbiguityVerdict  -- two forms have a text in common
    ∷ condition 26 IsUncoveredVerdict  -- no plain form covers an alias
    ∷ []

-- none of these is broken
abbrev pub AreKept : List Condition → DescriptionTree → Type 0
AreKept [] d = Unit {0}
AreKept (c ∷ rest) d = c.verdict d None × AreKept rest d

-- this is the first fault of the first of these that is broken
abbrev pub IsFirstOf : List Condition → DescriptionTree → DescFault → Type 0
IsFirstOf [] d fault = ⊥
IsFirstOf (c ∷ rest) d fault = c.verdict d (Some fault) ⊎ (c.verdict d None × IsFirstOf rest d fault)

-- no condition is broken
abbrev pub IsSound : DescriptionTree → Type 0
IsSound d = AreKept conditions d

-- the first fault of the first condition that is broken
abbrev pub IsFirstOfAll : DescriptionTree → DescFault → Type 0
IsFirstOfAll d fault = IsFirstOf conditions d fault
