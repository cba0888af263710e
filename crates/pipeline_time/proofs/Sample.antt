-- Rows of the language's samples that were worked out by hand, on cores written by hand.
use Rattle.std.proofs.Common.{◌≡◌, ℕ, suc, ◌+◌, ◌/◌, ◌%◌, Bool, true, false, ◌||◌, List, [], ◌∷◌, ◌++◌, Option, None, Some, refl, arith, nat_lt}
use Rattle.std.specs.Prelude.{slice_index, if◌then◌else◌, ◌==◌}
use Rattle.std.specs.Option.{unwrap_or}
use Rattle.std.proofs.lemmas.Bool.{eqb-true, both_ways}
use Rattle.pipeline_time.specs.Acts.{Done, Act}
use Rattle.pipeline_time.specs.Cores.{Core}
use Rattle.pipeline_time.specs.Running.{behavior, activate}
use Rattle.pipeline_time.specs.Edges.{is_held, is_flushed}
use Rattle.pipeline_time.specs.Journal.{stands, stage_word}
use Rattle.pipeline_time.specs.States.{after}
use Rattle.pipeline_time.specs.Bits.{hardware_after}
use Rattle.pipeline_time.specs.Sound.{NamesEarlier, IsSound}

-- registers, then the fields of boundaries; as they are, and as the edge began
record Scratch : Type 0 where
  now : List ℕ
  before : List ℕ
  pins : List ℕ
  out : Option ℕ
  stalled : List ℕ
  flushed : List ℕ

begun : List ℕ → List ℕ → Scratch
begun pins memory = record { now = memory; before = memory; pins = pins; out = None; stalled = []; flushed = [] }

-- the field of the boundary behind a level, which nothing or this was written to
abbrev field : Scratch → ℕ → Option ℕ → ℕ → ℕ → ℕ
field m level out old earlier =
    if is_held m.stalled (suc level) then old
    else (if is_held m.stalled level || is_flushed m.flushed level then 0 else unwrap_or out earlier)

adds_none : (level : ℕ) → NamesEarlier level [] []
adds_none level = record { more = []; is_added = refl; are_earlier = λ above k d short. absurd (omega arith) }

-- ---- a root in the first of three stages, and an operation in the last

abbrev k_behavior : ℕ → ℕ → List ℕ → List ℕ
k_behavior number word r =
    if number == 1 then (slice_index r 0 + 1) % 16 ∷ slice_index r 1 ∷ []
    else (if number == 2 then slice_index r 0 ∷ (slice_index r 1 + word) % 16 ∷ [] else r)

abbrev k : Core (List ℕ) (List ℕ)
k = record {
  acts = Act 1 1 false (Act 2 3 true Done Done) Done;
  stages = 3;
  is_root = λ number. number == 1;
  root_level = Some 1;
  begin = λ pins memory. memory;
  behave = k_behavior;
  holds = λ number test word m. true;
  chooses = λ number word. true;
  fetch = λ m. slice_index m 0;
  decodes = λ word. true;
  close = λ m. m;
  stalled = λ m. [];
  flushed = λ m. [];
}

abbrev four : List (List ℕ)
four = [] ∷ [] ∷ [] ∷ [] ∷ []

-- after four edges `pc` is 4, `acc` 1, the words of X and W are 3 and 2, and `add` stands in both
k_after_four : ((after k (0 ∷ 0 ∷ []) four).memory ≡ 4 ∷ 1 ∷ [])
    × (stage_word k (after k (0 ∷ 0 ∷ []) four).past 2 ≡ 3)
    × (stage_word k (after k (0 ∷ 0 ∷ []) four).past 3 ≡ 2)
    × (stands k (after k (0 ∷ 0 ∷ []) four).past 2 2 ≡ Some 3)
    × ((hardware_after k (0 ∷ 0 ∷ []) four).memory ≡ 4 ∷ 1 ∷ [])
    × ((hardware_after k (0 ∷ 0 ∷ []) four).bits 3 2 ≡ true)
unfolding behavior activate
k_after_four = (refl, refl, refl, refl, refl, refl)

-- it is sound, so the laws aren't empty
k_sound : IsSound k
k_sound = record {
  tree = (
    refl,
    record { ordered = omega arith; within = omega arith; stalls = λ w m. adds_none 0; flushes = λ w m. adds_none 0; root = λ is. absurd (no is); past_inside = λ is. is; chosen = λ is word c. refl },
    (
      refl,
      record { ordered = omega arith; within = omega arith; stalls = λ w m. adds_none 1; flushes = λ w m. adds_none 1; root = λ is staged. refl; past_inside = λ is. is; chosen = λ is word c. refl },
      (
        refl,
        record { ordered = omega arith; within = omega arith; stalls = λ w m. adds_none 3; flushes = λ w m. adds_none 3; root = λ is. absurd (no is); past_inside = λ is. refl; chosen = λ is word c. refl },
        tt,
        tt,
      ),
      tt,
    ),
    tt,
  );
  root = 1;
  one_root = λ number is. eqb-true number 1 is;
  root_within = λ level is. let e : 1 ≡ level = cc in (omega arith, omega arith);
}
  where
    no : false ≡ true → ⊥
    no e = both_ways false refl e

-- ---- stalls and flushes: `main`, and an operation in each of three stages, the second with a field from the first

-- `t`, `last`, `A/B.v`, `B/C.v`; the pins are `hold`, `kill`, `irq`
abbrev e_main : Scratch → Scratch
e_main m =
    let hold = if slice_index m.pins 0 == 1 then 2 ∷ [] else [] in
    let kill = if slice_index m.pins 1 == 1 then 2 ∷ [] else [] in
    let irq = slice_index m.pins 2 == 1 in
    record {
      now = if irq then 8 ∷ slice_index m.before 3 ∷ [] else m.now;
      before = m.before;
      pins = m.pins;
      out = m.out;
      stalled = hold ++ m.stalled;
      flushed = (if irq then 3 ∷ 2 ∷ 1 ∷ [] else []) ++ (kill ++ m.flushed);
    }

abbrev e_first : Scratch → Scratch
e_first m =
    let t = (slice_index m.now 0 + 1) % 16 in
    record { now = t ∷ slice_index m.now 1 ∷ []; before = m.before; pins = m.pins; out = Some t; stalled = m.stalled; flushed = m.flushed }

abbrev e_last : Scratch → Scratch
e_last m =
    let v = slice_index m.before 3 in
    record {
      now = slice_index m.now 0 ∷ v ∷ [];
      before = m.before;
      pins = m.pins;
      out = m.out;
      stalled = (if v == 1 then 2 ∷ [] else []) ++ m.stalled;
      flushed = m.flushed;
    }

abbrev e_behavior : ℕ → ℕ → Scratch → Scratch
e_behavior number word m =
    if number == 0 then e_main m
    else (if number == 1 then e_first m
    else (if number == 3 then e_last m else m))

abbrev e : Core (List ℕ) Scratch
e = record {
  acts = Act 1 1 false (Act 2 2 false (Act 3 3 false Done Done) Done) Done;
  stages = 3;
  is_root = λ number. false;
  root_level = None;
  begin = begun;
  behave = e_behavior;
  holds = λ number test word m. true;
  chooses = λ number word. true;
  fetch = λ m. 0;
  decodes = λ word. false;
  close = λ m. slice_index m.now 0 ∷ slice_index m.now 1 ∷ field m 1 m.out (slice_index m.before 2) 0 ∷ field m 2 None (slice_index m.before 3) (slice_index m.before 2) ∷ [];
  stalled = λ m. m.stalled;
  flushed = λ m. m.flushed;
}

abbrev zeros : List ℕ
zeros = 0 ∷ 0 ∷ 0 ∷ 0 ∷ []

abbrev three : List (List ℕ)
three = [] ∷ [] ∷ [] ∷ []

-- In the third edge the last stage stalls the middle one: what stands in the middle stays, and nothing moves into the last.
e_third : ((after e zeros three).memory ≡ 2 ∷ 1 ∷ 2 ∷ 0 ∷ [])
    × ((hardware_after e zeros three).bits 2 2 ≡ true)
    × ((hardware_after e zeros three).bits 3 3 ≡ false)
    × (stands e (after e zeros three).past 2 2 ≡ Some 0)
    × (stands e (after e zeros three).past 3 3 ≡ None)
unfolding behavior activate begun
e_third = (refl, refl, refl, refl, refl)

e_fourth : ((after e zeros four).memory ≡ 3 ∷ 1 ∷ 3 ∷ 2 ∷ [])
    × ((hardware_after e zeros four).bits 2 2 ≡ true)
    × ((hardware_after e zeros four).bits 3 3 ≡ true)
unfolding behavior activate begun
e_fourth = (refl, refl, refl)

-- Held and flushed in the second edge, what stands in the middle stage is dropped, and the first stage stays held.
e_dropped : ((after e zeros ([] ∷ (1 ∷ 1 ∷ 0 ∷ []) ∷ [])).memory ≡ 1 ∷ 0 ∷ 1 ∷ 0 ∷ [])
    × ((hardware_after e zeros ([] ∷ (1 ∷ 1 ∷ 0 ∷ []) ∷ [])).bits 2 2 ≡ false)
    × ((after e zeros ([] ∷ (1 ∷ 1 ∷ 0 ∷ []) ∷ [] ∷ [])).memory ≡ 2 ∷ 0 ∷ 2 ∷ 1 ∷ [])
    × ((hardware_after e zeros ([] ∷ (1 ∷ 1 ∷ 0 ∷ []) ∷ [] ∷ [])).bits 2 2 ≡ true)
unfolding behavior activate begun
e_dropped = (refl, refl, refl, refl)

-- ---- a root in the second of three stages that takes the field before it, and a branch that flushes

-- `pc`, `FE/DC.ir`, `DC/EX.ir`; the program is one branch, by 2
abbrev c_behavior : ℕ → ℕ → Scratch → Scratch
c_behavior number word m =
    let pc = slice_index m.now 0 in
    if number == 1 then record { now = (pc + 1) % 16 ∷ []; before = m.before; pins = m.pins; out = Some (if pc == 0 then 130 else 0); stalled = m.stalled; flushed = m.flushed }
    else (if number == 5 then record { now = (pc + word) % 16 ∷ []; before = m.before; pins = m.pins; out = m.out; stalled = m.stalled; flushed = 1 ∷ 2 ∷ m.flushed }
    else m)

abbrev c_chooses : ℕ → ℕ → Bool
c_chooses number word =
    if number == 3 then word / 64 == 1
    else (if number == 4 then word / 64 == 0
    else (if number == 5 then word / 64 == 2 else true))

abbrev c : Core (List ℕ) Scratch
c = record {
  acts = Act 1 1 false (Act 2 2 false (Act 3 3 true Done (Act 4 3 true Done (Act 5 3 true Done Done))) Done) Done;
  stages = 3;
  is_root = λ number. number == 2;
  root_level = Some 2;
  begin = begun;
  behave = c_behavior;
  holds = λ number test word m. true;
  chooses = c_chooses;
  fetch = λ m. slice_index m.before 1;
  decodes = λ word. nat_lt (word / 64) 3;
  close = λ m. slice_index m.now 0 ∷ field m 1 m.out (slice_index m.before 1) 0 ∷ field m 2 None (slice_index m.before 2) (slice_index m.before 1) ∷ [];
  stalled = λ m. m.stalled;
  flushed = λ m. m.flushed;
}

abbrev two : List (List ℕ)
two = [] ∷ [] ∷ []

-- the branch waits in the last stage with its word
c_second : ((after c zeros two).memory ≡ 2 ∷ 0 ∷ 130 ∷ [])
    × (stage_word c (after c zeros two).past 3 ≡ 130)
    × (stands c (after c zeros two).past 3 5 ≡ Some 130)
    × (stands c (after c zeros two).past 3 4 ≡ None)
    × (stands c (after c zeros two).past 2 2 ≡ Some 0)
unfolding behavior activate begun
c_second = (refl, refl, refl, refl, refl)

-- it jumps, and drops what stands in the stages before it
c_third : ((after c zeros three).memory ≡ 4 ∷ 0 ∷ 0 ∷ [])
    × (stage_word c (after c zeros three).past 3 ≡ 0)
    × (stands c (after c zeros three).past 3 5 ≡ None)
    × (stands c (after c zeros three).past 2 2 ≡ None)
    × ((hardware_after c zeros three).bits 2 2 ≡ false)
    × ((hardware_after c zeros three).words 3 ≡ 0)
unfolding behavior activate begun
c_third = (refl, refl, refl, refl, refl, refl)

-- ---- a root in no stage

-- The root, in no stage, activates 2 in the first stage past it; 3 in the first stage activates 4 in the second, which flushes the first.
abbrev t_behavior : ℕ → ℕ → Scratch → Scratch
t_behavior number word m =
    if number == 2 then record { now = word ∷ []; before = m.before; pins = m.pins; out = m.out; stalled = m.stalled; flushed = m.flushed }
    else (if number == 4 then record { now = m.now; before = m.before; pins = m.pins; out = m.out; stalled = m.stalled; flushed = 1 ∷ m.flushed }
    else m)

-- the word is the pin
abbrev t : Core (List ℕ) Scratch
t = record {
  acts = Act 1 0 false (Act 2 1 true Done Done) (Act 3 1 false (Act 4 2 false Done Done) Done);
  stages = 3;
  is_root = λ number. number == 1;
  root_level = Some 0;
  begin = begun;
  behave = t_behavior;
  holds = λ number test word m. true;
  chooses = λ number word. true;
  fetch = λ m. slice_index m.pins 0;
  decodes = λ word. true;
  close = λ m. m.now;
  stalled = λ m. m.stalled;
  flushed = λ m. m.flushed;
}

-- What it activates runs in the first stage in the same edge, and its word moves into the second.
t_first : ((after t (0 ∷ []) ((7 ∷ []) ∷ [])).memory ≡ 7 ∷ [])
    × (stage_word t (after t (0 ∷ []) ((7 ∷ []) ∷ [])).past 2 ≡ 7)
    × ((hardware_after t (0 ∷ []) ((7 ∷ []) ∷ [])).bits 2 4 ≡ true)
unfolding behavior activate begun
t_first = (refl, refl, refl)

-- Where the first stage is flushed in the edge, what the root activated is dropped, and so is its word.
t_second : ((after t (0 ∷ []) ((7 ∷ []) ∷ (5 ∷ []) ∷ [])).memory ≡ 7 ∷ [])
    × (stage_word t (after t (0 ∷ []) ((7 ∷ []) ∷ (5 ∷ []) ∷ [])).past 2 ≡ 0)
    × (stage_word t (after t (0 ∷ []) ((7 ∷ []) ∷ (5 ∷ []) ∷ [])).past 3 ≡ 7)
    × ((hardware_after t (0 ∷ []) ((7 ∷ []) ∷ (5 ∷ []) ∷ [])).words 2 ≡ 0)
    × ((hardware_after t (0 ∷ []) ((7 ∷ []) ∷ (5 ∷ []) ∷ [])).bits 2 4 ≡ false)
unfolding behavior activate begun
t_second = (refl, refl, refl, refl, refl)

-- ---- a root in the last stage

abbrev l : Core (List ℕ) Scratch
l = record {
  acts = Act 1 1 false (Act 2 2 false (Act 3 2 true Done Done) Done) Done;
  stages = 2;
  is_root = λ number. number == 2;
  root_level = Some 2;
  begin = begun;
  behave = λ number word m. if number == 3 then record { now = word ∷ []; before = m.before; pins = m.pins; out = m.out; stalled = m.stalled; flushed = m.flushed } else m;
  holds = λ number test word m. true;
  chooses = λ number word. true;
  fetch = λ m. slice_index m.pins 0;
  decodes = λ word. true;
  close = λ m. m.now;
  stalled = λ m. m.stalled;
  flushed = λ m. m.flushed;
}

-- its slot is gone at once
l_second : ((after l (0 ∷ []) ([] ∷ (5 ∷ []) ∷ [])).memory ≡ 5 ∷ [])
    × (stage_word l (after l (0 ∷ []) ([] ∷ (5 ∷ []) ∷ [])).past 2 ≡ 0)
    × (stage_word l (after l (0 ∷ []) ([] ∷ (5 ∷ []) ∷ [])).past 3 ≡ 0)
    × ((hardware_after l (0 ∷ []) ([] ∷ (5 ∷ []) ∷ [])).words 3 ≡ 0)
unfolding behavior activate begun
l_second = (refl, refl, refl, refl)
