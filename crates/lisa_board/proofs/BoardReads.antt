-- The lines of a board file, part by part.
use Rattle.std.proofs.Common.{◌≡◌, ℕ, suc, ◌+◌, ◌<◌, ◌≤◌, Bool, true, false, List, [], ◌∷◌, inl, inr, length, drop, get_or, map, refl, sym, ap, ◌∙◌, subst, arith, Result, Ok, Err}
use Rattle.std.specs.Prelude.{◌==◌, ◌||◌, codes}
use Rattle.std.specs.Str.{bytes_eq}
use Rattle.std.specs.List.{slice_split, list_any}
use Rattle.std.specs.Borrow.{Bor}
use Rattle.std.specs.Result.{IsErrAnd}
use Rattle.std.specs.Str.Lines.{strip_carriage_return}
use Rattle.std.proofs.Math.ListN.{drop_of_length-le}
use Rattle.std.proofs.Math.Seq.{drop-cons}
use Rattle.std.proofs.lemmas.Bool.{eq-eqb, ne_eqb}
use Rattle.std.proofs.lemmas.List.{length-map, get_or-map}
use Rattle.std.proofs.lemmas.List.Folds.{list_any-append}
use Rattle.lisa_engine.specs.declared.parts.Item.{Item}
use Rattle.lisa_engine.proofs.LineTexts.{parts_room, text_le}
use Rattle.lisa_board.specs.declared.device.Device.{Device}
use Rattle.lisa_board.specs.declared.fault.BoardFault.{BoardFault}
use Rattle.lisa_board.specs.declared.fault.BoardFault.TheVariants.{BadLine, NoMemory}
use Rattle.lisa_board.specs.Boards.{Devices, console_pins}
use Rattle.lisa_board.specs.BoardLines.{is_driven, followed_by, device_of_words, device_of, with_device, with_lines, board_of, IsUnlessNoMemory}

pub any_map : {X Y : Type 0} (p : Y → Bool) (f : X → Y) (xs : List X) → list_any (λ x. p (f x)) xs ≡ list_any p (map f xs)
any_map p f [] = refl
any_map p f (x ∷ xs) = rw (any_map p f xs) refl

-- the console's pins come first, and then those of the timers
pub driven_is : (board : Devices) (pin : ℕ) → list_any (λ other. other == pin) (console_pins board.console) ≡ false
    → list_any (λ timer. timer.pin == pin) board.timers ≡ is_driven board pin
driven_is board pin none =
    any_map (λ other. other == pin) (λ timer. timer.pin) board.timers
    ∙ sym (list_any-append (λ other. other == pin) (console_pins board.console) (map (λ timer. timer.pin) board.timers)
    ∙ ap (λ b. b || list_any (λ other. other == pin) (map (λ timer. timer.pin) board.timers)) none)

pub driven_first : (board : Devices) (pin : ℕ) → list_any (λ other. other == pin) (console_pins board.console) ≡ true → true ≡ is_driven board pin
driven_first board pin some =
    sym (list_any-append (λ other. other == pin) (console_pins board.console) (map (λ timer. timer.pin) board.timers)
    ∙ ap (λ b. b || list_any (λ other. other == pin) (map (λ timer. timer.pin) board.timers)) some)

-- words that are neither three nor six are no device
pub no_device : (items pins : List Item) (line : ℕ) (board : Devices) (words : List (Bor (List ℕ))) → (length words ≡ 3 → ⊥) → (length words ≡ 6 → ⊥)
    → ◌≡◌ {A = Result Device BoardFault} (Err (BadLine line)) (device_of_words items pins line board (map (λ w. w.now) words))
no_device items pins line board [] three six = refl
no_device items pins line board (a ∷ []) three six = refl
no_device items pins line board (a ∷ b ∷ []) three six = refl
no_device items pins line board (a ∷ b ∷ c ∷ []) three six = absurd (three refl)
no_device items pins line board (a ∷ b ∷ c ∷ d ∷ []) three six = refl
no_device items pins line board (a ∷ b ∷ c ∷ d ∷ e ∷ []) three six = refl
no_device items pins line board (a ∷ b ∷ c ∷ d ∷ e ∷ f ∷ []) three six = absurd (six refl)
no_device items pins line board (a ∷ b ∷ c ∷ d ∷ e ∷ f ∷ g ∷ more) three six = refl

-- three words of which the first isn't `timer` are none, nor six of which the first isn't `console`
pub no_timer : (items pins : List Item) (line : ℕ) (board : Devices) (words : List (Bor (List ℕ))) (x : Bor (List ℕ)) → length words ≡ 3
    → bytes_eq (get_or words 0 x).now (codes "timer") ≡ false
    → ◌≡◌ {A = Result Device BoardFault} (Err (BadLine line)) (device_of_words items pins line board (map (λ w. w.now) words))
no_timer items pins line board [] x three other = absurd (omega arith)
no_timer items pins line board (a ∷ []) x three other = absurd (omega arith)
no_timer items pins line board (a ∷ b ∷ []) x three other = absurd (omega arith)
no_timer items pins line board (a ∷ b ∷ c ∷ []) x three other = rw other refl
no_timer items pins line board (a ∷ b ∷ c ∷ d ∷ more) x three other = absurd (omega arith)

pub no_console : (items pins : List Item) (line : ℕ) (board : Devices) (words : List (Bor (List ℕ))) (x : Bor (List ℕ)) → length words ≡ 6
    → bytes_eq (get_or words 0 x).now (codes "console") ≡ false
    → ◌≡◌ {A = Result Device BoardFault} (Err (BadLine line)) (device_of_words items pins line board (map (λ w. w.now) words))
no_console items pins line board [] x six other = absurd (omega arith)
no_console items pins line board (a ∷ []) x six other = absurd (omega arith)
no_console items pins line board (a ∷ b ∷ []) x six other = absurd (omega arith)
no_console items pins line board (a ∷ b ∷ c ∷ []) x six other = absurd (omega arith)
no_console items pins line board (a ∷ b ∷ c ∷ d ∷ []) x six other = absurd (omega arith)
no_console items pins line board (a ∷ b ∷ c ∷ d ∷ e ∷ []) x six other = absurd (omega arith)
no_console items pins line board (a ∷ b ∷ c ∷ d ∷ e ∷ f ∷ []) x six other = rw other refl
no_console items pins line board (a ∷ b ∷ c ∷ d ∷ e ∷ f ∷ g ∷ more) x six other = absurd (omega arith)

-- a text is the one at a place of the bytes' parts
pub record IsText (bytes : List ℕ) (parts : List (List ℕ)) (place : ℕ) (text : List ℕ) : Type 0 where
  pub cut : parts ≡ slice_split (λ b. b == 10) bytes
  pub within : place < length parts
  pub is : text ≡ strip_carriage_return (get_or parts place [])

pub is_text : (bytes : List ℕ) (items : List (Bor (List ℕ))) (place : ℕ) (x : Bor (List ℕ)) (text : List ℕ) → map (λ p. p.now) items ≡ slice_split (λ b. b == 10) bytes
    → place < length items → x ≡ get_or items place x → text ≡ strip_carriage_return x.now → IsText bytes (map (λ p. p.now) items) place text
is_text bytes items place x text cut within is_x spelled = record {
  cut = cut;
  within = omega (arith, length-map items (λ p. p.now));
  is = spelled ∙ ap strip_carriage_return (ap (λ y. y.now) is_x ∙ sym (get_or-map (λ p. p.now) items place x [] within));
}

pub room_for : {bytes : List ℕ} {parts : List (List ℕ)} {place : ℕ} {text : List ℕ} → IsText bytes parts place text → (length text ≡ 0 → ⊥) → place + 1 ≤ length bytes
room_for {bytes = bytes} {parts = parts} {place = place} {text = text} t some =
    let room : length parts + length (get_or parts place []) ≤ length bytes + 1
    = subst (λ ps. length ps + length (get_or ps place []) ≤ length bytes + 1) (sym t.cut) (parts_room (λ b. b == 10) bytes place [] (subst (λ ps. place < length ps) t.cut t.within)) in
    let less = text_le false (get_or parts place []) in
    let positive : 0 < length text = omega arith in
    let same = ap length t.is in
    omega (arith, room, less, positive, same, t.within)

-- what is left of the lines from a place on
abbrev pub left_from : List Item → List Item → List (List ℕ) → ℕ → Devices → Result Devices BoardFault
left_from items pins parts place board = with_lines items pins (place + 1) board (map strip_carriage_return (drop place parts))

module _ (items pins : List Item) (bytes : List ℕ) (parts : List (List ℕ)) (place : ℕ) (text : List ℕ) (board : Devices) (t : IsText bytes parts place text)
    (so_far : board_of items pins bytes ≡ left_from items pins parts place board) where
  opened : map strip_carriage_return (drop place parts) ≡ text ∷ map strip_carriage_return (drop (place + 1) parts)
  opened =
      let next : suc place ≡ place + 1 = omega arith in
      ap (map strip_carriage_return) (drop-cons parts place [] t.within)
      ∙ ap (λ n. strip_carriage_return (get_or parts place []) ∷ map strip_carriage_return (drop n parts)) next
      ∙ ap (λ x. x ∷ map strip_carriage_return (drop (place + 1) parts)) (sym t.is)

  begun : board_of items pins bytes ≡ with_lines items pins (place + 1) board (text ∷ map strip_carriage_return (drop (place + 1) parts))
  begun = so_far ∙ ap (with_lines items pins (place + 1) board) opened

  pub after_empty : length text ≡ 0 → board_of items pins bytes ≡ left_from items pins parts (place + 1) board
  after_empty empty = begun ∙ rw (eq-eqb (length text) 0 empty) refl

  one_taken : (length text ≡ 0 → ⊥) → board_of items pins bytes
      ≡ followed_by (λ device. left_from items pins parts (place + 1) (with_device board device)) (device_of items pins (place + 1) board text)
  one_taken some = begun ∙ rw (ne_eqb (length text) 0 some) refl

  pub is_device : (device : Device) → IsUnlessNoMemory (device_of items pins (place + 1) board text) (Ok device) → device_of items pins (place + 1) board text ≡ Ok device
  is_device device (inl e) = sym e
  is_device device (inr e) = cc

  pub after_device : (device : Device) → (length text ≡ 0 → ⊥) → IsUnlessNoMemory (device_of items pins (place + 1) board text) (Ok device)
      → board_of items pins bytes ≡ left_from items pins parts (place + 1) (with_device board device)
  after_device device some here = one_taken some
      ∙ ap (followed_by (λ d. left_from items pins parts (place + 1) (with_device board d))) (is_device device here)

  pub after_fault : (fault : BoardFault) (r : Result Devices BoardFault) → (length text ≡ 0 → ⊥) → IsUnlessNoMemory (device_of items pins (place + 1) board text) (Err fault)
      → IsErrAnd r (λ e. e ≡ fault) → IsUnlessNoMemory (board_of items pins bytes) r
  after_fault fault (Ok last) some here gives = absurd gives
  after_fault fault (Err other) some (inl e) gives =
      inl (ap Err gives ∙ sym (one_taken some ∙ ap (followed_by (λ d. left_from items pins parts (place + 1) (with_device board d))) (sym e)))
  after_fault fault (Err other) some (inr e) gives = inr (ap Err gives ∙ (let same : ◌≡◌ {A = Result Devices BoardFault} (Err fault) (Err NoMemory) = cc in same))

-- behind the last part no line is left
pub all_read : (items pins : List Item) (bytes : List ℕ) (parts : List (List ℕ)) (place : ℕ) (board : Devices) → length parts ≤ place
    → board_of items pins bytes ≡ left_from items pins parts place board → board_of items pins bytes ≡ Ok board
all_read items pins bytes parts place board end so_far = so_far ∙ ap (λ ps. with_lines items pins (place + 1) board (map strip_carriage_return ps)) (drop_of_length-le parts end)
