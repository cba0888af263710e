-- A board that is read is for its items and pins.
use Rattle.std.proofs.Common.{◌≡◌, ◌+◌, ◌==◌, ℕ, List, [], ◌∷◌, length, Bool, true, false, cond, Result, Ok, Err, subst, refl}
use Rattle.lisa_engine.specs.declared.parts.Item.{Item}
use Rattle.lisa_board.specs.Boards.{Devices, IsBoardFor}
use Rattle.lisa_board.specs.BoardLines.{followed_by, device_of, with_device, with_lines, no_devices, board_lines}
use Rattle.lisa_board.specs.declared.fault.BoardFault.{BoardFault}
use Rattle.lisa_board.proofs.BoardFits.{device_fits, none_fits}
use Rattle.engine_commands.specs.Boards.{IsBoard}

same_board : (a b : Devices) → ◌≡◌ {A = Result Devices BoardFault} (Ok a) (Ok b) → a ≡ b
same_board a b e = cc

no_board : (fault : BoardFault) (b : Devices) → ◌≡◌ {A = Result Devices BoardFault} (Err fault) (Ok b) → ⊥
no_board fault b e = cc

-- what is read, and then taken further
followed : {D P : Type 0} (more : D → Result Devices BoardFault) (read : Result D BoardFault) (board : Devices)
    → ((d : D) → read ≡ Ok d → more d ≡ Ok board → P) → followed_by more read ≡ Ok board → P
followed more (Ok d) board each next = each d refl next
followed more (Err fault) board each next = absurd (no_board fault board next)

module _ (items pins : List Item) (board : Devices) where
  -- a line that may be empty, and what follows it
  line_fits : (texts : List (List ℕ)) (line : ℕ) (before : Devices) (text : List ℕ) → IsBoardFor items pins before
      → ((next : Devices) → IsBoardFor items pins next → with_lines items pins (line + 1) next texts ≡ Ok board → IsBoardFor items pins board)
      → with_lines items pins line before (text ∷ texts) ≡ Ok board → IsBoardFor items pins board
  line_fits texts line before text fits rest is = by_length (length text == 0) is
    where
      by_length : (empty : Bool) → cond empty (with_lines items pins (line + 1) before texts) (followed_by (λ device. with_lines items pins (line + 1) (with_device before device) texts) (device_of items pins line before text)) ≡ Ok board → IsBoardFor items pins board
      by_length true next = rest before fits next
      by_length false next =
          followed (λ device. with_lines items pins (line + 1) (with_device before device) texts) (device_of items pins line before text) board
          (λ device read more. rest (with_device before device) (device_fits items pins line before text device fits read) more) next

  lines_fit : (texts : List (List ℕ)) (line : ℕ) (before : Devices) → IsBoardFor items pins before → with_lines items pins line before texts ≡ Ok board → IsBoardFor items pins board
  lines_fit [] line before fits is = subst (IsBoardFor items pins) (same_board before board is) fits
  lines_fit (text ∷ texts) line before fits is = line_fits texts line before text fits (λ next for more. lines_fit texts (line + 1) next for more) is

  pub board_fits : (bytes : List ℕ) → IsBoard items pins bytes board → IsBoardFor items pins board
  board_fits bytes read = lines_fit (board_lines bytes) 1 (no_devices (length pins)) (none_fits items pins) read
