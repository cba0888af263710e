-- The texts of a form from a place on, said piece by piece.
use Rattle.std.specs.Prelude.{◌≡◌, ℕ, ◌+◌, ◌-◌, ◌*◌, ◌^◌, Bool, true, false, List, [], ◌∷◌, length, drop, Option, Some, None, nat_le, ◌&&◌}
use Rattle.std.specs.List.{slice_get}
use Rattle.instruction_texts.specs.declared.shapes.Shape.{Shape}
use Rattle.instruction_texts.specs.declared.shapes.Shape.TheVariants.{Other, Literal, Unsigned, Signed}
use Rattle.instruction_texts.specs.declared.shapes.Token.{Token}
use Rattle.instruction_texts.specs.declared.shapes.Token.TheVariants.{Word, Sign}
use Rattle.instruction_texts.specs.declared.shapes.Ending.{Ending}
use Rattle.instruction_texts.specs.declared.shapes.Ending.TheVariants.{Plain, Number}
use Rattle.instruction_texts.specs.declared.places.Pending.{Pending}
use Rattle.instruction_texts.specs.declared.places.Pending.TheVariants.{Nothing, Minus, Digits}
use Rattle.instruction_texts.specs.declared.places.Place.{Place}
use Rattle.instruction_texts.specs.declared.places.Said.{Said}
use Rattle.instruction_texts.specs.declared.places.Said.TheVariants as saids
use Rattle.instruction_texts.specs.declared.places.Move.{Move}
use Rattle.instruction_texts.specs.Runs.{ends, accepts}
use Rattle.instruction_texts.specs.Shapes.{IsText, whole, upper}
use Rattle.instruction_texts.specs.Leads.{lead_of}

-- a character, or a run of a prefix and an ending
pub data Piece : Type 0 where
  Mark : ℕ → Piece
  RunOf : List ℕ → Ending → Piece

abbrev pub piece_of : Said → Piece
piece_of (saids.Mark c) = Mark c
piece_of (saids.Run r) = RunOf r.prefix.now r.ending

-- a piece that may be said, and the place behind it
pub record Step : Type 0 where
  pub piece : Piece
  pub next : Place

abbrev pub step_of : Move → Step
step_of m = record { piece = piece_of m.said; next = m.next }

-- the token is said by the piece
abbrev pub Accepts : Piece → Token → Type 0
Accepts (Mark c) t = t ≡ Sign c
Accepts (RunOf p e) t = (text : List ℕ) × (t ≡ Word text) × (accepts (lead_of e p) e text ≡ true)

-- the size of a negative number, from 1 up to this one
abbrev pub sizes : ℕ → Ending
sizes high = Number false true high

-- the digits of a negative number, and then a text of the form
abbrev pub FromDigits : ℕ → List Shape → List Token → Type 0
FromDigits high ss ts = (cs : List ℕ) × (us : List Token) × (ts ≡ Word cs ∷ us) × (ends (sizes high) cs ≡ true) × IsText ss us

-- these tokens are said by the form from there on
abbrev pub From : Pending → List Shape → List Token → Type 0
From Nothing ss ts = IsText ss ts
From (Minus high) ss ts = (us : List Token) × (ts ≡ Sign 45 ∷ us) × FromDigits high ss us
From (Digits high) ss ts = FromDigits high ss ts

abbrev pub Tells : List Shape → Place → List Token → Type 0
Tells ss place ts = From place.pending (drop place.shape ss) ts

abbrev pub is_nothing : Pending → Bool
is_nothing Nothing = true
is_nothing _ = false

abbrev pub place_at : ℕ → Pending → Place
place_at k pending = record { shape = k; pending = pending }

abbrev pub step : Piece → ℕ → Pending → Step
step piece k pending = record { piece = piece; next = place_at k pending }

-- what may be said at a piece before the one of this number: a number with a sign as one that isn't negative
abbrev pub first_of : ℕ → Shape → Step
first_of k (Other c) = step (Mark c) k Nothing
first_of k (Literal p) = step (RunOf p Plain) k Nothing
first_of k (Unsigned hex p n) = step (RunOf p (whole hex n)) k Nothing
first_of k (Signed p n) = step (RunOf p (upper n)) k Nothing

-- a negative number begins with its prefix, where it isn't empty
abbrev pub negative_of : ℕ → List ℕ → ℕ → Step
negative_of k [] high = step (Mark 45) k (Digits high)
negative_of k (c ∷ p) high = step (RunOf (c ∷ p) Plain) k (Minus high)

abbrev pub second_of : ℕ → Shape → Option Step
second_of k (Signed p n) = Some (negative_of k p (2 ^ (n - 1)))
second_of k _ = None

abbrev pub first_from : Pending → ℕ → Option Shape → Option Step
first_from Nothing k None = None
first_from Nothing k (Some s) = Some (first_of (k + 1) s)
first_from (Minus high) k s = Some (step (Mark 45) k (Digits high))
first_from (Digits high) k s = Some (step (RunOf [] (sizes high)) k Nothing)

abbrev pub second_from : Pending → ℕ → Option Shape → Option Step
second_from Nothing k None = None
second_from Nothing k (Some s) = second_of (k + 1) s
second_from _ k s = None

-- what may be said at a place, and what else may
abbrev pub first_step : List Shape → Place → Option Step
first_step ss place = first_from place.pending place.shape (slice_get ss place.shape)

abbrev pub second_step : List Shape → Place → Option Step
second_step ss place = second_from place.pending place.shape (slice_get ss place.shape)

-- nothing is said behind the place
abbrev pub is_last : ℕ → Place → Bool
is_last count place = is_nothing place.pending && nat_le count place.shape

-- how much may still be said
abbrev pub room_of : Pending → ℕ → ℕ
room_of Nothing left = 3 * left
room_of (Digits high) left = 3 * left + 1
room_of (Minus high) left = 3 * left + 2

abbrev pub room : List Shape → Place → ℕ
room ss place = room_of place.pending (length (drop place.shape ss))

-- the token that two pieces share, if they share any
abbrev pub IsCommon : Piece → Piece → Option Token → Type 0
IsCommon a b None = (t : Token) → Accepts a t → Accepts b t → ⊥
IsCommon a b (Some t) = Accepts a t × Accepts b t
