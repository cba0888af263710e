-- Reading a board as a step of a command.
use Rattle.std.proofs.Common.{◌≡◌, ◌∙◌, sym, refl, subst, List, ℕ, Result, Ok, Err, ◌⊎◌, inl, inr, ⊎_elim}
use Rattle.lisa_board.specs.Boards.{Devices}
use Rattle.lisa_board.specs.BoardLines.{board_of, IsUnlessNoMemory}
use Rattle.lisa_board.specs.declared.fault.BoardFault.{BoardFault}
use Rattle.lisa_board.specs.declared.fault.BoardFault.TheVariants as boards
use Rattle.lisa_engine.specs.declared.parts.Item.{Item}
use Rattle.lisa_outcomes.specs.declared.status.End.{End}
use Rattle.lisa_outcomes.specs.declared.status.End.TheVariants as ends
use Rattle.lisa_outcomes.specs.declared.status.Refusal.TheVariants as refusals
use Rattle.lisa_outcomes.specs.Stages.{Finds}
use Rattle.lisa_outcomes.proofs.Finding.{found_ok, found_memory, found_refused}
use Rattle.lisa_outcomes.proofs.Refusals.{board_refusal}
use Rattle.lisa_outcomes.proofs.Told.{ok_is_no_err}
use Rattle.engine_commands.specs.Boards.{IsBoard, IsNoBoard}
use Rattle.engine_commands.specs.Unread.{unread_board}

same_board : (a b : Devices) → ◌≡◌ {A = Result Devices BoardFault} (Ok a) (Ok b) → a ≡ b
same_board a b e = cc

-- the board was read
pub boarded : (items pins : List Item) (bytes : List ℕ) (board : Devices) → IsUnlessNoMemory (board_of items pins bytes) (Ok board)
    → Finds (λ (b : Devices). b) (IsBoard items pins bytes) (IsNoBoard items pins bytes) (Ok board)
boarded items pins bytes board read = found_ok (λ (b : Devices). b) (IsBoard items pins bytes) (IsNoBoard items pins bytes) board here
    (λ other is. same_board board other (sym here ∙ is)) (λ refusal wrong. ok_is_no_err board wrong.0 (sym here ∙ wrong.1))
  where
    here : board_of items pins bytes ≡ Ok board
    here = ⊎_elim (λ same. sym same) (λ memory. absurd (ok_is_no_err board _ memory)) read

-- the end is want of memory, or the fault is the refusal
unboarded_is : (f : BoardFault) → (unread_board f ≡ ends.NoMemory) ⊎ ((unread_board f ≡ ends.Refused (refusals.Board f)) × (f ≡ boards.NoMemory → ⊥))
unboarded_is boards.NoMemory = inl refl
unboarded_is (boards.BadLine line) = inr (refl, λ e. absurd (cc))
unboarded_is (boards.UnknownItem line name) = inr (refl, λ e. absurd (cc))
unboarded_is (boards.UnknownPin line name) = inr (refl, λ e. absurd (cc))
unboarded_is (boards.PinTaken line name) = inr (refl, λ e. absurd (cc))
unboarded_is (boards.PinWidth line name width) = inr (refl, λ e. absurd (cc))
unboarded_is (boards.TooMany line what limit) = inr (refl, λ e. absurd (cc))

same_fault : (a b : BoardFault) → ◌≡◌ {A = Result Devices BoardFault} (Err a) (Err b) → a ≡ b
same_fault a b e = cc

-- it wasn't
pub unboarded : (items pins : List Item) (bytes : List ℕ) (f : BoardFault) → IsUnlessNoMemory {T = Devices} (board_of items pins bytes) (Err f)
    → Finds (λ (b : Devices). b) (IsBoard items pins bytes) (IsNoBoard items pins bytes) (Err (unread_board f))
unboarded items pins bytes f read = ⊎_elim
    (λ m. subst (λ (e : End). Finds (λ (b : Devices). b) (IsBoard items pins bytes) (IsNoBoard items pins bytes) (Err e)) (sym m) (found_memory (λ (b : Devices). b) (IsBoard items pins bytes) (IsNoBoard items pins bytes)))
    (λ r. subst (λ (e : End). Finds (λ (b : Devices). b) (IsBoard items pins bytes) (IsNoBoard items pins bytes) (Err e)) (sym r.0)
    (found_refused (λ (b : Devices). b) (IsBoard items pins bytes) (IsNoBoard items pins bytes) (refusals.Board f) (board_refusal f r.1) (f, here r.1, refl) (λ board is. ok_is_no_err board f (sym is ∙ here r.1))))
    (unboarded_is f)
  where
    here : (f ≡ boards.NoMemory → ⊥) → board_of items pins bytes ≡ Err f
    here other = ⊎_elim (λ same. sym same) (λ memory. absurd (other (same_fault _ _ memory))) read
