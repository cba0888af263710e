-- What stands between tokens: runs of blanks, `//` to the end of the line, and `/*` to the next `*/`. IsGap is one of them, with what
-- follows it; BrokenGap is a comment that is at fault; starts_comment is the test for `//` and `/*`. gap_at says by cases what stands
-- at the front of the bytes. The laws are in proofs/GapLaws.antt: gap_is, gap_whole, gap_broken, gap_absent.
use Rattle.std.specs.Prelude.{◌≡◌, ℕ, suc, ◌+◌, ◌<◌, ◌≤◌, Bool, true, false, List, [], ◌∷◌, ◌++◌, length, take, drop, Option, Some, None, option_map, ◌==◌, ◌&&◌, ◌||◌, if◌then◌else◌}
use Rattle.std.specs.List.{list_all, prefix_len}
use Rattle.lisa_words.specs.declared.gaps.Gap.{Gap}
use Rattle.lisa_words.specs.declared.gaps.Gap.TheVariants.{Absent, Whole, Broken}
use Rattle.lisa_words.specs.Bytes.{is_blank, is_text, is_in_line, front_is}

-- nothing, or the end of a line
abbrev pub ends_line : List ℕ → Bool
ends_line [] = true
ends_line (b ∷ bs) = b == 10

-- how many bytes stand before the first `*/`
abbrev pub end_of : List ℕ → Option ℕ
end_of [] = None
end_of (b ∷ bs) = if b == 42 && front_is (λ c. c == 47) bs then Some 0 else option_map suc (end_of bs)

-- the bytes are one gap, where the rest follows: blanks, as many as stand there; `//` and the rest of the line, without its end; or
-- `/*` to the next `*/`, so that `/*/` is no whole comment
pub data IsGap : List ℕ → List ℕ → Type 0 where
  blanks : {b : ℕ} {bs rest : List ℕ} → is_blank b ≡ true → list_all is_blank bs ≡ true → front_is is_blank rest ≡ false → IsGap (b ∷ bs) rest
  line : {body rest : List ℕ} → list_all is_in_line body ≡ true → ends_line rest ≡ true → IsGap (47 ∷ 47 ∷ body) rest
  block : (body : List ℕ) {rest : List ℕ} → list_all is_text body ≡ true → end_of (body ++ (42 ∷ 47 ∷ rest)) ≡ Some (length body) → IsGap (47 ∷ 42 ∷ (body ++ 42 ∷ 47 ∷ [])) rest

-- A comment begins the bytes, and the byte that so many stand before is at fault: a byte of the comment that no text has, or the
-- comment's first byte where it doesn't end.
pub data BrokenGap : List ℕ → ℕ → Type 0 where
  in_line : (body rest : List ℕ) (b : ℕ) → list_all is_in_line body ≡ true → is_text b ≡ false → BrokenGap (47 ∷ 47 ∷ (body ++ b ∷ rest)) (2 + length body)
  in_block : (body rest : List ℕ) (b n : ℕ) → list_all is_text body ≡ true → is_text b ≡ false → end_of (body ++ b ∷ rest) ≡ Some n → length body < n
      → BrokenGap (47 ∷ 42 ∷ (body ++ b ∷ rest)) (2 + length body)
  no_end : {body : List ℕ} → end_of body ≡ None → BrokenGap (47 ∷ 42 ∷ body) 0

-- the first two bytes are these
abbrev pub starts_with : ℕ → ℕ → List ℕ → Bool
starts_with a b (c ∷ d ∷ bytes) = c == a && d == b
starts_with a b _ = false

-- a comment begins the bytes
abbrev pub starts_comment : List ℕ → Bool
starts_comment bytes = starts_with 47 47 bytes || starts_with 47 42 bytes

-- what an answer says of the bytes
abbrev pub GapIs : List ℕ → Gap → Type 0
GapIs bytes Absent = (front_is is_blank bytes ≡ false) × (starts_comment bytes ≡ false)
GapIs bytes (Whole n) = (length (take n bytes) ≡ n) × (0 < n) × IsGap (take n bytes) (drop n bytes)
GapIs bytes (Broken n) = BrokenGap bytes n

-- what is told lies inside the bytes
abbrev pub GapFits : List ℕ → Gap → Type 0
GapFits bytes Absent = Unit {0}
GapFits bytes (Whole n) = (0 < n) × (n ≤ length bytes)
GapFits bytes (Broken n) = n < length bytes

-- the same by cases; the body is what stands behind the first two bytes
abbrev pub line_at : List ℕ → Gap
line_at body =
    if ends_line (drop (prefix_len is_in_line body) body) then Whole (2 + prefix_len is_in_line body)
    else Broken (2 + prefix_len is_in_line body)

abbrev pub block_to : List ℕ → Option ℕ → Gap
block_to body None = Broken 0
block_to body (Some n) = if prefix_len is_text (take n body) == n then Whole (4 + n) else Broken (2 + prefix_len is_text (take n body))

abbrev pub block_at : List ℕ → Gap
block_at body = block_to body (end_of body)

unfoldable pub gap_at : List ℕ → Gap
gap_at bytes =
    if front_is is_blank bytes then Whole (prefix_len is_blank bytes)
    else (if starts_with 47 47 bytes then line_at (drop 2 bytes)
    else (if starts_with 47 42 bytes then block_at (drop 2 bytes) else Absent))
