-- The rules that images keep.
use Rattle.std.specs.Prelude.{ℕ, ◌<◌, ◌≤◌, ◌^◌, ◌≡◌, Bool, true, false, List, [], ◌∷◌, length, map, All, IsTrue, nat_le, ◌==◌, ◌&&◌}
use Rattle.std.specs.List.{list_all, list_any}
use Rattle.lisa_engine.specs.Memory.{Memory}
use Rattle.lisa_engine.specs.Images.{IsImage}
use Rattle.lisa_object.specs.declared.parts.Stamped.{Stamped}

-- printable, and no blank
abbrev pub is_visible_byte : ℕ → Bool
is_visible_byte b = nat_le 33 b && nat_le b 126

abbrev pub is_visible : List ℕ → Bool
is_visible [] = false
is_visible (b ∷ bs) = list_all is_visible_byte (b ∷ bs)

-- 32 bytes
pub record IsDigest (digest : List ℕ) : Type 0 where
  pub size : length digest ≡ 32
  pub bytes : All (λ b. b < 256) digest

-- the rules that an image with its digest keeps, beside those of each image
pub record IsStamped (s : Stamped) : Type 0 where
  pub digest : IsDigest s.digest
  pub image : IsImage s.image
  pub names : All (λ m. IsTrue (is_visible m.name)) s.image

-- the powers of two from 2 to 1,048,576
abbrev pub depths : List ℕ
depths = map (λ k. 2 ^ k) (1 ∷ 2 ∷ 3 ∷ 4 ∷ 5 ∷ 6 ∷ 7 ∷ 8 ∷ 9 ∷ 10 ∷ 11 ∷ 12 ∷ 13 ∷ 14 ∷ 15 ∷ 16 ∷ 17 ∷ 18 ∷ 19 ∷ 20 ∷ [])

abbrev pub is_depth : ℕ → Bool
is_depth depth = list_any (λ d. d == depth) depths
