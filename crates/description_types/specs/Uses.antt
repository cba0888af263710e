-- How declared names may be used.
use Rattle.std.specs.Prelude.{ℕ, Bool, true, false, List, Option, Some, ◌&&◌, not, nat_lt, length}
use Rattle.std.specs.Option.{is_some}
use Rattle.std.specs.List.{list_any}
use Rattle.lisa_tree.specs.Descriptions.{DescriptionTree}
use Rattle.lisa_tree.specs.declared.declared.What.{What}
use Rattle.lisa_tree.specs.declared.declared.What.TheVariants as whats
use Rattle.lisa_tree.specs.Operations.{coding_in, sections_at, own_stage, is_root}
use Rattle.lisa_tree.specs.Declarations.{alternatives_at, plain_at, what_at}
use Rattle.coded_names.specs.Codings.{is_coding}
use Rattle.graph_paths.specs.Paths.{saw}
use Rattle.description_types.specs.declared.values.Trait.{Trait}
use Rattle.description_types.specs.declared.values.Trait.TheVariants as which
use Rattle.description_types.specs.declared.values.Traits.{Traits}
use Rattle.description_types.specs.declared.values.CodedName.{CodedName}
use Rattle.description_types.specs.Codings.{coding_at}

-- one of the traits holds
abbrev pub holds : Trait → Traits → Bool
holds which.Label t = t.label
holds which.Child t = t.child
holds which.Staged t = t.staged
holds which.Rooted t = t.rooted
holds which.Uncoded t = t.uncoded
holds which.Misplaced t = t.misplaced
holds which.Instructions t = t.instructions
holds which.ListedStaged t = t.listed_staged
holds which.ListedRooted t = t.listed_rooted

abbrev pub no_traits : Traits
no_traits = record { label = false; child = false; staged = false; rooted = false; uncoded = false; misplaced = false; instructions = false; listed_staged = false; listed_rooted = false }

abbrev pub label_traits : Traits
label_traits = record { label = true; child = false; staged = false; rooted = false; uncoded = false; misplaced = false; instructions = false; listed_staged = false; listed_rooted = false }

-- of a choice, as of a child that stands in no coding
abbrev pub choice_traits : DescriptionTree → ℕ → Traits
choice_traits d c = record {
  label = false;
  child = true;
  staged = list_any (λ o. is_some (own_stage d o)) (plain_at d c);
  rooted = list_any (is_root d) (plain_at d c);
  uncoded = nat_lt 1 (length (plain_at d c));
  misplaced = list_any (λ o. is_coding (coding_in (sections_at d o))) (alternatives_at d c);
  instructions = false;
  listed_staged = list_any (λ o. is_some (own_stage d o)) (alternatives_at d c);
  listed_rooted = list_any (is_root d) (alternatives_at d c);
}

-- of a child of a choice, by how it stands in the coding of its own operation
abbrev pub child_traits : CodedName → Traits → Traits
child_traits name t = record {
  label = t.label;
  child = t.child;
  staged = t.staged;
  rooted = t.rooted;
  uncoded = t.uncoded && not name.coded;
  misplaced = t.misplaced && not name.coded;
  instructions = name.instructions;
  listed_staged = t.listed_staged;
  listed_rooted = t.listed_rooted;
}

-- of a name by what it is declared as; a reference has none by itself
abbrev pub what_traits : DescriptionTree → ℕ → Option What → Traits
what_traits d i (Some (whats.Group c)) = child_traits (coding_at d i) (choice_traits d c)
what_traits d i (Some (whats.Instance c)) = child_traits (coding_at d i) (choice_traits d c)
what_traits d i (Some whats.Label) = label_traits
what_traits d i _ = no_traits

abbrev pub own_traits : DescriptionTree → ℕ → Traits
own_traits d i = what_traits d i (what_at d i)

-- for each trait, which declared names have it
pub record TraitMarks : Type 0 where
  pub label : List Bool
  pub child : List Bool
  pub staged : List Bool
  pub rooted : List Bool
  pub uncoded : List Bool
  pub misplaced : List Bool
  pub instructions : List Bool
  pub listed_staged : List Bool
  pub listed_rooted : List Bool

-- what such marks say; nothing holds past their end
abbrev pub traits_by : TraitMarks → ℕ → Traits
traits_by marks i = record {
  label = saw marks.label i;
  child = saw marks.child i;
  staged = saw marks.staged i;
  rooted = saw marks.rooted i;
  uncoded = saw marks.uncoded i;
  misplaced = saw marks.misplaced i;
  instructions = saw marks.instructions i;
  listed_staged = saw marks.listed_staged i;
  listed_rooted = saw marks.listed_rooted i;
}
