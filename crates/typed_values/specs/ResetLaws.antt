-- What holds of what `reset` leaves.
use Rattle.std.specs.Prelude.{◌≡◌, ◌<◌, ◌^◌, ℕ, List, map, All}
use Rattle.lisa_words.specs.declared.words.Kind.{Kind}
use Rattle.lisa_tree.specs.Descriptions.{ResourceTree, DescriptionTree}
use Rattle.typed_values.specs.Words.{TypedWord}
use Rattle.typed_values.specs.ResetEffects.{first_value, reset_moment}

-- the bits of a word are within its width
abbrev pub IsWithin : TypedWord → Type 0
IsWithin w = w.bits < 2 ^ w.width

abbrev pub kind_of : TypedWord → Kind
kind_of w = w.kind

abbrev pub width_of : TypedWord → ℕ
width_of w = w.width

abbrev pub first_kind : ResourceTree → Kind
first_kind r = (first_value r).kind

abbrev pub first_width : ResourceTree → ℕ
first_width r = (first_value r).width

-- the values have the kinds and widths of the resources, and are within them
pub record HaveTypes (rs : List ResourceTree) (ws : List TypedWord) : Type 0 where
  pub kinds : map kind_of ws ≡ map first_kind rs
  pub widths : map width_of ws ≡ map first_width rs
  pub within : All IsWithin ws

abbrev pub KeepsTypes : DescriptionTree → Type 0
KeepsTypes d = HaveTypes d.resources (reset_moment d).registers
