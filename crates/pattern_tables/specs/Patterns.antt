-- Masks and patterns that stand for frames, and lists of forms of which some are plain and the others aliases.
use Rattle.std.specs.Prelude.{◌≡◌, ◌<◌, ℕ, Bool, true, false, List, [], length, Option, slice_index_or, MatchOption, bit_and}
use Rattle.instruction_trees.specs.Bits.{Frame, Has, mask, pattern}
use Rattle.pattern_tables.specs.declared.bit_pattern.BitPattern.{BitPattern}

-- it has the frame's mask and pattern, and the frame has this width
pub record Stands (width : ℕ) (fs : Frame) (p : BitPattern) : Type 0 where
  pub wide : length fs ≡ width
  pub masked : p.mask ≡ mask fs
  pub patterned : p.pattern ≡ pattern fs

abbrev pub frame_at : List Frame → ℕ → Frame
frame_at frames k = slice_index_or frames k []

-- each stands for the frame at its place
pub record AllStand (width : ℕ) (frames : List Frame) (patterns : List BitPattern) : Type 0 where
  pub level : length frames ≡ length patterns
  pub each : (k : ℕ) (d : BitPattern) → k < length patterns → Stands width (frame_at frames k) (slice_index_or patterns k d)

-- the form at this place is plain
abbrev pub IsPlain : List Bool → ℕ → Type 0
IsPlain plain k = slice_index_or plain k false ≡ true

-- the form at this place is an alias
abbrev pub IsAlias : List Bool → ℕ → Type 0
IsAlias plain k = slice_index_or plain k true ≡ false

-- a word of both frames, where there is one
abbrev pub IsCommonWord : Frame → Frame → Option ℕ → Type 0
IsCommonWord fs gs result = MatchOption result ((w : ℕ) → Has w fs → Has w gs → ⊥) (λ w. Has w fs × Has w gs)

-- they have the same literal bits at the places at which both have one
abbrev pub Agree : BitPattern → BitPattern → Type 0
Agree p q = bit_and p.pattern q.mask ≡ bit_and q.pattern p.mask

-- the second has each literal bit of the first
abbrev pub IsContained : BitPattern → BitPattern → Type 0
IsContained p q = (bit_and p.mask q.mask ≡ p.mask) × (bit_and q.pattern p.mask ≡ p.pattern)

-- two different plain forms whose literal bits agree, the earlier one first
pub record Clash (patterns : List BitPattern) (plain : List Bool) (i j : ℕ) : Type 0 where
  pub order : i < j
  pub within : j < length patterns
  pub first : IsPlain plain i
  pub second : IsPlain plain j
  pub agree : (d : BitPattern) → Agree (slice_index_or patterns i d) (slice_index_or patterns j d)

-- no two different plain forms have literal bits that agree
abbrev pub AreApart : List BitPattern → List Bool → Type 0
AreApart patterns plain = (i j : ℕ) → Clash patterns plain i j → ⊥

-- a plain form that has no other literal bits than this form
pub record Shelter (patterns : List BitPattern) (plain : List Bool) (i k : ℕ) : Type 0 where
  pub within : i < length patterns
  pub is_plain : IsPlain plain i
  pub contained : (d : BitPattern) → IsContained (slice_index_or patterns i d) (slice_index_or patterns k d)
