-- Places of two forms to which one text leads, gathered one from another.
use Rattle.std.specs.Prelude.{◌≡◌, ◌<◌, ℕ, ◌+◌, ◌^◌, List, [], ◌∷◌, ◌++◌, Option, Some, None, length}
use Rattle.std.specs.List.{slice_get}
use Rattle.instruction_texts.specs.declared.shapes.Shape.{Shape}
use Rattle.instruction_texts.specs.declared.shapes.Token.{Token}
use Rattle.instruction_texts.specs.declared.places.Place.{Place}
use Rattle.instruction_texts.specs.declared.places.Meeting.{Meeting}
use Rattle.instruction_texts.specs.declared.places.Reached.{Reached}
use Rattle.instruction_texts.specs.Shapes.{IsText}
use Rattle.instruction_texts.specs.Moves.{Step, Accepts, Tells, first_step, second_step, room}

-- from the meeting on both forms say these tokens
abbrev pub BothTell : List Shape → List Shape → Meeting → List Token → Type 0
BothTell ss us m ts = Tells ss m.first ts × Tells us m.second ts

abbrev pub BothSay : List Shape → List Shape → List Token → Type 0
BothSay ss us ts = IsText ss ts × IsText us ts

-- where it was reached from an earlier one by a token, that one tells what it tells behind the token; else it tells whole texts
abbrev pub IsReached : List Shape → List Shape → List Meeting → Meeting → Option Reached → Type 0
IsReached ss us ms m None = (ts : List Token) → BothTell ss us m ts → BothSay ss us ts
IsReached ss us ms m (Some r) = (b : Meeting) → slice_get ms r.before ≡ Some b → (ts : List Token) → BothTell ss us m ts → BothTell ss us b (r.token ∷ ts)

abbrev pub IsLater : List Meeting → ℕ → Option Reached → Type 0
IsLater ms k None = Unit {0}
IsLater ms k (Some r) = (r.before < k) × (r.before < length ms)

-- each meeting was reached from an earlier one
abbrev pub AreLater : List Meeting → Type 0
AreLater ms = (k : ℕ) (m : Meeting) → slice_get ms k ≡ Some m → IsLater ms k m.reached

abbrev pub AreReached : List Shape → List Shape → List Meeting → Type 0
AreReached ss us ms = (k : ℕ) (m : Meeting) → slice_get ms k ≡ Some m → IsReached ss us ms m m.reached

-- a meeting of these places
pub record Comes (ms : List Meeting) (first second : Place) : Type 0 where
  pub number : ℕ
  pub meeting : Meeting
  pub is : slice_get ms number ≡ Some meeting
  pub first_is : meeting.first ≡ first
  pub second_is : meeting.second ≡ second

-- what may still be tried from the meetings
abbrev pub weight : List Shape → List Meeting → ℕ
weight ss [] = 0
weight ss (m ∷ ms) = 5 ^ room ss m.first + weight ss ms

abbrev pub step_weight : List Shape → Option Step → ℕ
step_weight ss None = 0
step_weight ss (Some s) = 5 ^ room ss s.next

-- nothing is added, or one meeting behind two steps with a token of both
pub data Adds (ms : List Meeting) (before : ℕ) : Option Step → Option Step → List Meeting → Type 0 where
  nothing : {s t : Option Step} → Adds ms before s t ms
  meeting : {s t : Step} (token : Token) → Accepts s.piece token → Accepts t.piece token
      → Adds ms before (Some s) (Some t) (ms ++ record { first = s.next; second = t.next; reached = Some (record { before = before; token = token }) } ∷ [])

-- where a token is one of both steps, there is a meeting behind them
abbrev pub HasNext : List Meeting → Option Step → Option Step → Type 0
HasNext ms (Some s) (Some t) = (token : Token) → Accepts s.piece token → Accepts t.piece token → Comes ms s.next t.next
HasNext ms _ _ = Unit {0}

pub record Joins (old new : List Meeting) (before : ℕ) (s t : Option Step) : Type 0 where
  pub adds : Adds old before s t new
  pub has : HasNext new s t

-- the meetings behind one meeting are added, for each pair of steps in turn
pub record Follows (ss us : List Shape) (old new : List Meeting) (number : ℕ) : Type 0 where
  pub here : Meeting
  pub is : slice_get old number ≡ Some here
  pub one : List Meeting
  pub two : List Meeting
  pub three : List Meeting
  pub joins_one : Joins old one number (first_step ss here.first) (first_step us here.second)
  pub joins_two : Joins one two number (first_step ss here.first) (second_step us here.second)
  pub joins_three : Joins two three number (second_step ss here.first) (first_step us here.second)
  pub joins_four : Joins three new number (second_step ss here.first) (second_step us here.second)

-- the whole text, where these tokens stand behind the meeting
pub data Way (ms : List Meeting) : ℕ → List Token → List Token → Type 0 where
  start : {k : ℕ} {ts : List Token} (m : Meeting) → slice_get ms k ≡ Some m → m.reached ≡ None → Way ms k ts ts
  back : {k : ℕ} {ts ws : List Token} (m : Meeting) (r : Reached) → slice_get ms k ≡ Some m → m.reached ≡ Some r → Way ms r.before (r.token ∷ ts) ws → Way ms k ts ws
