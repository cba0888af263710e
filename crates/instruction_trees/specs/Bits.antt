-- Bits from the most significant one down, the numbers that they are, and frames: bits of which some are free.
use Rattle.std.specs.Prelude.{ℕ, zero, suc, ◌+◌, ◌*◌, ◌/◌, ◌%◌, ◌^◌, ◌<◌, Bool, true, false, List, [], ◌∷◌, length, Option, Some, None, map, nat_eq, if◌then◌else◌}

abbrev pub one_if : Bool → ℕ
one_if b = if b then 1 else 0

abbrev pub value : List Bool → ℕ
value [] = 0
value (b ∷ bs) = one_if b * 2 ^ length bs + value bs

-- the lowest n bits of a number
abbrev pub digits : ℕ → ℕ → List Bool
digits zero v = []
digits (suc n) v = nat_eq (v / 2 ^ n % 2) 1 ∷ digits n v

-- a bit of a frame is literal, or free where it is None
abbrev pub Frame : Type 0
Frame = List (Option Bool)

-- these bits agree with the frame except where it is free
pub data Meets : List Bool → Frame → Type 0 where
  none : Meets [] []
  same : {b : Bool} {bs : List Bool} {fs : Frame} → Meets bs fs → Meets (b ∷ bs) (Some b ∷ fs)
  free : {b : Bool} {bs : List Bool} {fs : Frame} → Meets bs fs → Meets (b ∷ bs) (None ∷ fs)

-- the word has the frame's width, and agrees with it except where it is free
pub record Has (w : ℕ) (fs : Frame) : Type 0 where
  pub below : w < 2 ^ length fs
  pub agrees : Meets (digits (length fs) w) fs

-- at each place at which the first has a literal bit, the second has the same literal bit
pub data Covers : Frame → Frame → Type 0 where
  none : Covers [] []
  same : {b : Bool} {fs gs : Frame} → Covers fs gs → Covers (Some b ∷ fs) (Some b ∷ gs)
  free : {g : Option Bool} {fs gs : Frame} → Covers fs gs → Covers (None ∷ fs) (g ∷ gs)

abbrev pub mask_bit : Option Bool → Bool
mask_bit None = false
mask_bit (Some b) = true

abbrev pub pattern_bit : Option Bool → Bool
pattern_bit None = false
pattern_bit (Some b) = b

abbrev pub mask_bits : Frame → List Bool
mask_bits fs = map mask_bit fs

abbrev pub pattern_bits : Frame → List Bool
pattern_bits fs = map pattern_bit fs

-- the number with ones at the literal bits
abbrev pub mask : Frame → ℕ
mask fs = value (mask_bits fs)

-- the number with the literal bits, and zeros at the free ones
abbrev pub pattern : Frame → ℕ
pattern fs = value (pattern_bits fs)
