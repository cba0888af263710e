-- Why the search finds a text of both forms where there is one, and ends.
use Rattle.std.proofs.Common.{◌≡◌, ℕ, zero, suc, ◌+◌, ◌^◌, ◌<◌, ◌≤◌, true, false, ◌&&◌, List, [], ◌∷◌, ◌++◌, length, drop, Option, Some, None, get_or, reverse, refl, sym, ap, ◌∙◌, subst, arith, inl, inr, ◌⊎◌}
use Rattle.std.specs.Prelude.{Result, Ok, Err, OnOk}
use Rattle.std.specs.List.{slice_get}
use Rattle.std.proofs.lemmas.List.{length-append, reverse-append}
use Rattle.std.proofs.lemmas.Bool.{and_parts, and_from, cases_lt}
use Rattle.instruction_texts.specs.declared.shapes.Shape.{Shape}
use Rattle.instruction_texts.specs.declared.shapes.Token.{Token}
use Rattle.instruction_texts.specs.declared.places.Pending.TheVariants.{Nothing}
use Rattle.instruction_texts.specs.declared.places.Place.{Place}
use Rattle.instruction_texts.specs.declared.places.Meeting.{Meeting}
use Rattle.instruction_texts.specs.declared.places.Reached.{Reached}
use Rattle.instruction_texts.specs.Shapes.{IsText}
use Rattle.instruction_texts.specs.Moves.{Step, Accepts, Tells, first_step, second_step, is_last, room}
use Rattle.instruction_texts.specs.Meetings.{BothTell, BothSay, IsReached, IsLater, AreLater, AreReached, Comes, weight, step_weight, Adds, nothing, meeting, HasNext, Joins, Follows, Way, start, back}
use Rattle.instruction_texts.proofs.CommonRuns.{power_some}
use Rattle.instruction_texts.proofs.MoveLaws.{Through, through_step, first_tells, second_tells, ends_here, last_place, first_lighter, second_lighter}

-- ---- lists

get_left : {A : Type 0} (xs ys : List A) (k : ℕ) (x : A) → slice_get xs k ≡ Some x → slice_get (xs ++ ys) k ≡ Some x
get_left [] ys k x e = absurd cc
get_left (y ∷ xs) ys zero x e = e
get_left (y ∷ xs) ys (suc k) x e = get_left xs ys k x e

get_split : {A : Type 0} (xs : List A) (y : A) (k : ℕ) (x : A) → slice_get (xs ++ y ∷ []) k ≡ Some x → (slice_get xs k ≡ Some x) ⊎ ((k ≡ length xs) × (y ≡ x))
get_split [] y zero x e = inr (refl, (cc))
get_split [] y (suc k) x e = absurd cc
get_split (z ∷ xs) y zero x e = inl e
get_split (z ∷ xs) y (suc k) x e = elim (get_split xs y k x e) [ inl h ↦ inl h | inr h ↦ inr (ap suc h.0, h.1) ]

pub get_inside : {A : Type 0} (xs : List A) (k : ℕ) (x : A) → slice_get xs k ≡ Some x → k < length xs
get_inside [] k x e = absurd cc
get_inside (y ∷ xs) zero x e = omega arith
get_inside (y ∷ xs) (suc k) x e = let h = get_inside xs k x e in omega arith

same_get : {A : Type 0} (xs : List A) (k : ℕ) (x y : A) → slice_get xs k ≡ Some x → slice_get xs k ≡ Some y → x ≡ y
same_get xs k x y e h = let both : Some x ≡ Some y = sym e ∙ h in cc

some_get : {A : Type 0} (xs : List A) (k : ℕ) → k < length xs → (x : A) × (slice_get xs k ≡ Some x)
some_get [] k h = absurd (omega arith)
some_get (x ∷ xs) zero h = (x, refl)
some_get (x ∷ xs) (suc k) h = some_get xs k (omega arith)

drop_last : {A : Type 0} (xs : List A) (y : A) (k : ℕ) → k ≤ length xs → drop k (xs ++ y ∷ []) ≡ drop k xs ++ y ∷ []
drop_last xs y zero h = refl
drop_last [] y (suc k) h = absurd (omega arith)
drop_last (x ∷ xs) y (suc k) h = drop_last xs y k (omega arith)

drop_here : {A : Type 0} (xs : List A) (k : ℕ) (x : A) → slice_get xs k ≡ Some x → drop k xs ≡ x ∷ drop (suc k) xs
drop_here [] k x e = absurd cc
drop_here (y ∷ xs) zero x e = let h : y ≡ x = cc in ap (λ (z : _). z ∷ xs) h
drop_here (y ∷ xs) (suc k) x e = drop_here xs k x e

-- ---- one meeting more

module _ (old : List Meeting) (before : ℕ) where
  longer : {s t : Option Step} {new : List Meeting} → Adds old before s t new → length old ≤ length new
  longer nothing = omega arith
  longer (meeting {s = s} {t = t} token a b) = let e = length-append old (record { first = s.next; second = t.next; reached = Some (record { before = before; token = token }) } ∷ []) in omega (arith, e)

  kept : {s t : Option Step} {new : List Meeting} → Adds old before s t new → (k : ℕ) (m : Meeting) → slice_get old k ≡ Some m → slice_get new k ≡ Some m
  kept nothing k m e = e
  kept (meeting token a b) k m e = get_left old _ k m e

  back_kept : {s t : Option Step} {new : List Meeting} → Adds old before s t new → (k : ℕ) (m : Meeting) → k < length old → slice_get new k ≡ Some m → slice_get old k ≡ Some m
  back_kept nothing k m h e = e
  back_kept (meeting token a b) k m h e = elim (get_split old _ k m e) [ inl l ↦ l | inr r ↦ absurd (let q = r.0 in omega arith) ]

  later_more : (o : Option Reached) (k : ℕ) (new : List Meeting) → length old ≤ length new → IsLater old k o → IsLater new k o
  later_more None k new h l = tt
  later_more (Some r) k new h l = (l.0, omega (arith, l.1))

  later_kept : {s t : Option Step} {new : List Meeting} → before < length old → Adds old before s t new → AreLater old → AreLater new
  later_kept inside nothing all = all
  later_kept inside (meeting {s = s} {t = t} token a b) all = λ k m e. elim (get_split old _ k m e) [
    | inl l ↦ later_more m.reached k (old ++ record { first = s.next; second = t.next; reached = Some (record { before = before; token = token }) } ∷ []) (longer (meeting {s = s} {t = t} token a b)) (all k m l)
    | inr r ↦ (
        let new = old ++ record { first = s.next; second = t.next; reached = Some (record { before = before; token = token }) } ∷ [] in
        let more : length old ≤ length new = longer (meeting {s = s} {t = t} token a b) in
        subst (λ (x : Meeting). IsLater new k x.reached) r.1 ((let q = r.0 in omega arith), omega arith))
  ]

-- what leads from a place to what is told behind a step of it
abbrev Leads : List Shape → Place → Option Step → Type 0
Leads ss place None = Unit {0}
Leads ss place (Some s) = (token : Token) (ts : List Token) → Accepts s.piece token → Tells ss s.next ts → Tells ss place (token ∷ ts)

module _ (ss us : List Shape) (old : List Meeting) (before : ℕ) (here : Meeting) (is : slice_get old before ≡ Some here) where
  reached_more : (new : List Meeting) → ((k : ℕ) (m : Meeting) → k < length old → slice_get new k ≡ Some m → slice_get old k ≡ Some m) → (m : Meeting) (o : Option Reached) (k : ℕ) → IsLater old k o → IsReached ss us old m o → IsReached ss us new m o
  reached_more new same m None k l r = r
  reached_more new same m (Some x) k l r = λ b e. r b (same x.before b l.1 e)

  reached_kept : {s t : Option Step} {new : List Meeting} → Adds old before s t new → Leads ss here.first s → Leads us here.second t → AreLater old → AreReached ss us old → AreReached ss us new
  reached_kept nothing f g later all = all
  reached_kept (meeting {s = s} {t = t} token a b) f g later all = λ k m e. elim (get_split old _ k m e) [
    | inl l ↦ reached_more (old ++ record { first = s.next; second = t.next; reached = Some (record { before = before; token = token }) } ∷ []) (back_kept old before (meeting {s = s} {t = t} token a b)) m m.reached k (later k m l) (all k m l)
    | inr r ↦ (
        let new = old ++ record { first = s.next; second = t.next; reached = Some (record { before = before; token = token }) } ∷ [] in
        subst (λ (x : Meeting). IsReached ss us new x x.reached) r.1
        (λ c h ts both.
        let same : here ≡ c = same_get old before here c is (back_kept old before (meeting {s = s} {t = t} token a b) before c (get_inside old before here is) h) in
        subst (λ (x : Meeting). BothTell ss us x (token ∷ ts)) same (f token ts a both.0, g token ts b both.1)))
  ]

weight_last : (ss : List Shape) (ms : List Meeting) (m : Meeting) → weight ss (ms ++ m ∷ []) ≡ weight ss ms + 5 ^ room ss m.first
weight_last ss [] m = omega arith
weight_last ss (n ∷ ms) m = let e = weight_last ss ms m in omega arith

heavier : (ss : List Shape) (old : List Meeting) (before k : ℕ) {s t : Option Step} {new : List Meeting} → k ≤ length old → Adds old before s t new → weight ss (drop k new) ≤ weight ss (drop k old) + step_weight ss s
heavier ss old before k inside nothing = omega arith
heavier ss old before k inside (meeting {s = s} {t = t} token a b) =
    let m : Meeting = record { first = s.next; second = t.next; reached = Some (record { before = before; token = token }) } in
    let e : weight ss (drop k (old ++ m ∷ [])) ≡ weight ss (drop k old) + 5 ^ room ss s.next = ap (λ (l : List Meeting). weight ss l) (drop_last old m k inside) ∙ weight_last ss (drop k old) m in
    omega arith

-- ---- all that follows one meeting

pub record Ahead (ss us : List Shape) (ms : List Meeting) (from : ℕ) : Type 0 where
  pub number : ℕ
  pub meeting : Meeting
  pub text : List Token
  pub at_least : from ≤ number
  pub is : slice_get ms number ≡ Some meeting
  pub told : BothTell ss us meeting text

-- a meeting that tells what stands behind the first of these tokens
pub record Onward (ss us : List Shape) (ms : List Meeting) (ts : List Token) : Type 0 where
  pub token : Token
  pub rest : List Token
  pub splits : ts ≡ token ∷ rest
  pub number : ℕ
  pub meeting : Meeting
  pub is : slice_get ms number ≡ Some meeting
  pub told : BothTell ss us meeting rest

-- whatever is told at a meeting that was left goes on at another
abbrev IsLeft : List Shape → List Shape → List Meeting → Meeting → Type 0
IsLeft ss us ms m = (ts : List Token) → BothTell ss us m ts → Onward ss us ms ts

-- the first meeting, at which both texts are whole
pub record Begun (ss us : List Shape) (ms : List Meeting) : Type 0 where
  pub meeting : Meeting
  pub is : slice_get ms 0 ≡ Some meeting
  pub told : (ts : List Token) → BothSay ss us ts → BothTell ss us meeting ts

pub record Searching (ss us : List Shape) (ms : List Meeting) (from : ℕ) : Type 0 where
  pub later : AreLater ms
  pub reached : AreReached ss us ms
  pub begun : Begun ss us ms
  pub left : (k : ℕ) (m : Meeting) → k < from → slice_get ms k ≡ Some m → IsLeft ss us ms m

-- what is told at some meeting is told, from some token on, at one to come
ahead : (ss us : List Shape) (ms : List Meeting) (from : ℕ) → Searching ss us ms from → (ts : List Token) (k : ℕ) (m : Meeting) → slice_get ms k ≡ Some m → BothTell ss us m ts → Ahead ss us ms from
ahead ss us ms from s ts k m is told = go ts k m is told (cases_lt k from) where
  go : (ts : List Token) (k : ℕ) (m : Meeting) → slice_get ms k ≡ Some m → BothTell ss us m ts → (k < from) ⊎ (from ≤ k) → Ahead ss us ms from
  go ts k m is told (inr le) = record { number = k; meeting = m; text = ts; at_least = le; is = is; told = told }
  go [] k m is told (inl lt) = absurd (let o = s.left k m lt is [] told in let e = o.splits in cc)
  go (t ∷ ts) k m is told (inl lt) =
      let o = s.left k m lt is (t ∷ ts) told in
      let e : ts ≡ o.rest = (let h = o.splits in cc) in
      go ts o.number o.meeting o.is (subst (λ (l : List Token). BothTell ss us o.meeting l) (sym e) o.told) (cases_lt o.number from)

next_comes : (ss us : List Shape) (ms : List Meeting) (s t : Option Step) (ts : List Token) → Through ss s ts → Through us t ts → HasNext ms s t → Onward ss us ms ts
next_comes ss us ms None t ts v w has = absurd v
next_comes ss us ms (Some s) None ts v w has = absurd w
next_comes ss us ms (Some s) (Some t) ts v w has =
    let e : v.token ∷ v.rest ≡ w.token ∷ w.rest = sym v.is ∙ w.is in
    let token : v.token ≡ w.token = cc in
    let rest : v.rest ≡ w.rest = cc in
    let m : Comes ms s.next t.next = has v.token v.accepted (subst (λ (x : Token). Accepts t.piece x) (sym token) w.accepted) in
    record {
      token = v.token;
      rest = v.rest;
      splits = v.is;
      number = m.number;
      meeting = m.meeting;
      is = m.is;
      told = (subst (λ (p : Place). Tells ss p v.rest) (sym m.first_is) v.told, subst (λ (p : Place). Tells us p v.rest) (sym m.second_is) (subst (λ (l : List Token). Tells us t.next l) (sym rest) w.told));
    }

module _ (ss us : List Shape) (old new : List Meeting) (number : ℕ) (f : Follows ss us old new number) where
  in_old : slice_get old number ≡ Some f.here
  in_old = f.is

  in_one : slice_get f.one number ≡ Some f.here
  in_one = kept old number f.joins_one.adds number f.here f.is

  in_two : slice_get f.two number ≡ Some f.here
  in_two = kept f.one number f.joins_two.adds number f.here in_one

  in_three : slice_get f.three number ≡ Some f.here
  in_three = kept f.two number f.joins_three.adds number f.here in_two

  pub all_kept : (k : ℕ) (m : Meeting) → slice_get old k ≡ Some m → slice_get new k ≡ Some m
  all_kept k m e = kept f.three number f.joins_four.adds k m (kept f.two number f.joins_three.adds k m (kept f.one number f.joins_two.adds k m (kept old number f.joins_one.adds k m e)))

  all_later : AreLater old → AreLater new
  all_later h =
      later_kept f.three number (get_inside f.three number f.here in_three) f.joins_four.adds
      (later_kept f.two number (get_inside f.two number f.here in_two) f.joins_three.adds
      (later_kept f.one number (get_inside f.one number f.here in_one) f.joins_two.adds
      (later_kept old number (get_inside old number f.here in_old) f.joins_one.adds h)))

  first_leads : (place : Place) (xs : List Shape) → Leads xs place (first_step xs place)
  first_leads place xs = go (first_step xs place) refl where
    go : (o : Option Step) → first_step xs place ≡ o → Leads xs place o
    go None e = tt
    go (Some s) e = λ token ts a b. first_tells xs place s e token ts a b

  second_leads : (place : Place) (xs : List Shape) → Leads xs place (second_step xs place)
  second_leads place xs = go (second_step xs place) refl where
    go : (o : Option Step) → second_step xs place ≡ o → Leads xs place o
    go None e = tt
    go (Some s) e = λ token ts a b. second_tells xs place s e token ts a b

  all_reached : AreLater old → AreReached ss us old → AreReached ss us new
  all_reached h r =
      let l1 = later_kept old number (get_inside old number f.here in_old) f.joins_one.adds h in
      let l2 = later_kept f.one number (get_inside f.one number f.here in_one) f.joins_two.adds l1 in
      let l3 = later_kept f.two number (get_inside f.two number f.here in_two) f.joins_three.adds l2 in
      reached_kept ss us f.three number f.here in_three f.joins_four.adds (second_leads f.here.first ss) (second_leads f.here.second us) l3
      (reached_kept ss us f.two number f.here in_two f.joins_three.adds (second_leads f.here.first ss) (first_leads f.here.second us) l2
      (reached_kept ss us f.one number f.here in_one f.joins_two.adds (first_leads f.here.first ss) (second_leads f.here.second us) l1
      (reached_kept ss us old number f.here in_old f.joins_one.adds (first_leads f.here.first ss) (first_leads f.here.second us) h r)))

  pub lighter : weight ss (drop (number + 1) new) < weight ss (drop number old)
  lighter =
      let i0 = get_inside old number f.here in_old in
      let i1 = get_inside f.one number f.here in_one in
      let i2 = get_inside f.two number f.here in_two in
      let i3 = get_inside f.three number f.here in_three in
      let a = heavier ss old number (number + 1) (omega arith) f.joins_one.adds in
      let b = heavier ss f.one number (number + 1) (omega arith) f.joins_two.adds in
      let c = heavier ss f.two number (number + 1) (omega arith) f.joins_three.adds in
      let d = heavier ss f.three number (number + 1) (omega arith) f.joins_four.adds in
      let p = first_lighter ss f.here.first in
      let q = second_lighter ss f.here.first in
      let some : 0 < 5 ^ room ss f.here.first = power_some 5 (room ss f.here.first) (omega arith) in
      let step : number + 1 ≡ suc number = omega arith in
      let e : weight ss (drop number old) ≡ 5 ^ room ss f.here.first + weight ss (drop (number + 1) old) = ap (λ (l : List Meeting). weight ss l) (drop_here old number f.here in_old) ∙ ap (λ (k : ℕ). 5 ^ room ss f.here.first + weight ss (drop k old)) (sym step) in
      omega arith

  lift : (ms : List Meeting) → ((k : ℕ) (m : Meeting) → slice_get ms k ≡ Some m → slice_get new k ≡ Some m) → {ts : List Token} → Onward ss us ms ts → Onward ss us new ts
  lift ms more o = record { token = o.token; rest = o.rest; splits = o.splits; number = o.number; meeting = o.meeting; is = more o.number o.meeting o.is; told = o.told }

  onward : (t : Token) (ts : List Token) → BothTell ss us f.here (t ∷ ts) → Onward ss us new (t ∷ ts)
  onward t ts both = elim (through_step ss f.here.first t ts both.0) [
    | inl v ↦ elim (through_step us f.here.second t ts both.1) [
      | inl w ↦ lift f.one (λ k m e. kept f.three number f.joins_four.adds k m (kept f.two number f.joins_three.adds k m (kept f.one number f.joins_two.adds k m e)))
          (next_comes ss us f.one (first_step ss f.here.first) (first_step us f.here.second) (t ∷ ts) v w f.joins_one.has)
      | inr w ↦ lift f.two (λ k m e. kept f.three number f.joins_four.adds k m (kept f.two number f.joins_three.adds k m e))
          (next_comes ss us f.two (first_step ss f.here.first) (second_step us f.here.second) (t ∷ ts) v w f.joins_two.has)
    ]
    | inr v ↦ elim (through_step us f.here.second t ts both.1) [
      | inl w ↦ lift f.three (λ k m e. kept f.three number f.joins_four.adds k m e)
          (next_comes ss us f.three (second_step ss f.here.first) (first_step us f.here.second) (t ∷ ts) v w f.joins_three.has)
      | inr w ↦ next_comes ss us new (second_step ss f.here.first) (second_step us f.here.second) (t ∷ ts) v w f.joins_four.has
    ]
  ]

  -- the search goes on where no text ends at the meeting
  pub searches_on : (m : Meeting) → slice_get old number ≡ Some m → (is_last (length ss) m.first && is_last (length us) m.second) ≡ false → Searching ss us old number → Searching ss us new (number + 1)
  searches_on m at_m unfinished s = record {
    later = all_later s.later;
    reached = all_reached s.later s.reached;
    begun = record { meeting = s.begun.meeting; is = all_kept 0 s.begun.meeting s.begun.is; told = s.begun.told };
    left = left;
  } where
    told_on : (ts : List Token) → BothTell ss us f.here ts → Onward ss us new ts
    told_on [] both = absurd (let x = ends_here ss f.here.first both.0 in let y = ends_here us f.here.second both.1 in let e : (is_last (length ss) f.here.first && is_last (length us) f.here.second) ≡ true = and_from _ _ x y in let same : m ≡ f.here = same_get old number m f.here at_m in_old in let z : false ≡ true = sym unfinished ∙ ap (λ (x : Meeting). is_last (length ss) x.first && is_last (length us) x.second) same ∙ e in cc)
    told_on (t ∷ ts) both = onward t ts both

    left : (k : ℕ) (n : Meeting) → k < number + 1 → slice_get new k ≡ Some n → IsLeft ss us new n
    left k n lt is = elim (cases_lt k number) [
      | inl before ↦ (
          let g = some_get old k (let i = get_inside old number f.here in_old in omega arith) in
          let same : g.0 ≡ n = same_get new k g.0 n (all_kept k g.0 g.1) is in
          λ ts both. lift old all_kept (s.left k g.0 before g.1 ts (subst (λ (x : Meeting). BothTell ss us x ts) (sym same) both)))
      | inr past ↦ (
          let at : k ≡ number = omega arith in
          let same : f.here ≡ n = same_get new number f.here n (all_kept number f.here in_old) (subst (λ (j : ℕ). slice_get new j ≡ Some n) at is) in
          λ ts both. told_on ts (subst (λ (x : Meeting). BothTell ss us x ts) (sym same) both))
    ]

-- ---- the beginning and the ends

pub begins : (ss us : List Shape) (m : Meeting) → m.first ≡ record { shape = 0; pending = Nothing } → m.second ≡ record { shape = 0; pending = Nothing } → m.reached ≡ None → Searching ss us (m ∷ []) 0
begins ss us m e g r = record {
  later = λ k n h. subst (λ (x : Meeting). IsLater (m ∷ []) k x.reached) (only k n h) (subst (λ (o : Option Reached). IsLater (m ∷ []) k o) (sym r) tt);
  reached = λ k n h. subst (λ (x : Meeting). IsReached ss us (m ∷ []) x x.reached) (only k n h) (subst (λ (o : Option Reached). IsReached ss us (m ∷ []) m o) (sym r)
      (λ ts both. (subst (λ (p : Place). Tells ss p ts) e both.0, subst (λ (p : Place). Tells us p ts) g both.1)));
  begun = record { meeting = m; is = refl; told = λ ts both. (subst (λ (p : Place). Tells ss p ts) (sym e) both.0, subst (λ (p : Place). Tells us p ts) (sym g) both.1) };
  left = λ k n lt h. absurd (omega arith);
} where
  only : (k : ℕ) (n : Meeting) → slice_get (m ∷ []) k ≡ Some n → m ≡ n
  only zero n h = cc
  only (suc k) n h = absurd cc

pub none_left : (ss us : List Shape) (ms : List Meeting) (from : ℕ) → length ms ≤ from → Searching ss us ms from → (ts : List Token) → IsText ss ts → IsText us ts → ⊥
none_left ss us ms from past s ts a b = let h = ahead ss us ms from s ts 0 s.begun.meeting s.begun.is (s.begun.told ts (a, b)) in let i = get_inside ms h.number h.meeting h.is in let l = h.at_least in omega arith

along : (ss us : List Shape) (ms : List Meeting) → AreReached ss us ms → {k : ℕ} {ts ws : List Token} → Way ms k ts ws → (m : Meeting) → slice_get ms k ≡ Some m → BothTell ss us m ts → AreLater ms → BothSay ss us ws
along ss us ms all (start {k = k} {ts = ts} n e r) m is both later =
    let same : m ≡ n = same_get ms k m n is e in
    let h : IsReached ss us ms n None = subst (λ (o : Option Reached). IsReached ss us ms n o) r (all k n e) in
    h ts (subst (λ (x : Meeting). BothTell ss us x ts) same both)
along ss us ms all (back {k = k} {ts = ts} n r e reach way) m is both later =
    let same : m ≡ n = same_get ms k m n is e in
    let h : IsReached ss us ms n (Some r) = subst (λ (o : Option Reached). IsReached ss us ms n o) reach (all k n e) in
    let l : IsLater ms k (Some r) = subst (λ (o : Option Reached). IsLater ms k o) reach (later k n e) in
    let b = some_get ms r.before l.1 in
    along ss us ms all way b.0 b.1 (h b.0 b.1 ts (subst (λ (x : Meeting). BothTell ss us x ts) same both)) later

pub found : (ss us : List Shape) (ms : List Meeting) (k : ℕ) (m : Meeting) (ws : List Token) → slice_get ms k ≡ Some m → Searching ss us ms k → (is_last (length ss) m.first && is_last (length us) m.second) ≡ true → Way ms k [] ws → BothSay ss us ws
found ss us ms k m ws is s closed way =
    let t = and_parts (is_last (length ss) m.first) (is_last (length us) m.second) closed in
    along ss us ms s.reached way m is (last_place ss m.first t.0, last_place us m.second t.1) s.later

-- ---- in the words of the code

pub joins_longer : {old new : List Meeting} {before : ℕ} {s t : Option Step} → Joins old new before s t → length old ≤ length new
joins_longer {old} {before = before} j = longer old before j.adds

pub follows : (ss us : List Shape) (old one two three new : List Meeting) (number : ℕ) (here there : Place) (s t u v : Option Step) → number < length old
    → ((m : Meeting) → slice_get old number ≡ Some m → (here ≡ m.first) × (there ≡ m.second))
    → s ≡ first_step ss here → u ≡ second_step ss here → t ≡ first_step us there → v ≡ second_step us there
    → Joins old one number s t → Joins one two number s v → Joins two three number u t → Joins three new number u v → Follows ss us old new number
follows ss us old one two three new number here there s t u v inside places a b c d w x y z =
    let g = some_get old number inside in
    let p = places g.0 g.1 in
    let a' : s ≡ first_step ss (g.0).first = a ∙ ap (first_step ss) p.0 in
    let b' : u ≡ second_step ss (g.0).first = b ∙ ap (second_step ss) p.0 in
    let c' : t ≡ first_step us (g.0).second = c ∙ ap (first_step us) p.1 in
    let d' : v ≡ second_step us (g.0).second = d ∙ ap (second_step us) p.1 in
    record {
      here = g.0;
      is = g.1;
      one = one;
      two = two;
      three = three;
      joins_one = rejoined old one number s t (first_step ss (g.0).first) (first_step us (g.0).second) a' c' w;
      joins_two = rejoined one two number s v (first_step ss (g.0).first) (second_step us (g.0).second) a' d' x;
      joins_three = rejoined two three number u t (second_step ss (g.0).first) (first_step us (g.0).second) b' c' y;
      joins_four = rejoined three new number u v (second_step ss (g.0).first) (second_step us (g.0).second) b' d' z;
    } where
      rejoined : (old new : List Meeting) (number : ℕ) (s t s' t' : Option Step) → s ≡ s' → t ≡ t' → Joins old new number s t → Joins old new number s' t'
      rejoined old new number s t s' t' e g j = subst (λ (o : Option Step). Joins old new number o t') e (subst (λ (o : Option Step). Joins old new number s o) g j)

pub get_at : {A : Type 0} (xs : List A) (k : ℕ) (x d : A) → k < length xs → x ≡ get_or xs k d → slice_get xs k ≡ Some x
get_at [] k x d h e = absurd (omega arith)
get_at (y ∷ xs) zero x d h e = ap (λ (z : _). Some z) (sym e)
get_at (y ∷ xs) (suc k) x d h e = get_at xs k x d (omega arith) e

pub way_on : (ms : List Meeting) (k last : ℕ) (xs ys : List Token) (m : Meeting) (r : Reached) → ((ws : List Token) → Way ms k (reverse xs) ws → Way ms last [] ws) → slice_get ms k ≡ Some m → m.reached ≡ Some r
    → ys ≡ xs ++ r.token ∷ [] → (ws : List Token) → Way ms r.before (reverse ys) ws → Way ms last [] ws
way_on ms k last xs ys m r going is reach e ws way = going ws (back m r is reach (subst (λ (l : List Token). Way ms r.before l ws) (ap (λ (l : List Token). reverse l) e ∙ reverse-append xs (r.token ∷ [])) way))

pub on_ok : {T E : Type 0} {P Q : Type 0} (r : Result T E) → OnOk r P → (P → Q) → OnOk r Q
on_ok (Ok x) h f = f h
on_ok (Err e) h f = tt
