-- The counters of timers, one timer after the other.
use Rattle.std.proofs.Common.{◌≡◌, ℕ, zero, suc, ◌+◌, ◌<◌, ◌≤◌, List, [], ◌∷◌, ◌++◌, length, get_or, set, take, drop, map, replicate, refl, sym, ap, ◌∙◌, arith}
use Rattle.std.proofs.Math.ListN.{drop_of_length-le}
use Rattle.std.specs.Prelude.{fold, slice_index}
use Rattle.std.proofs.lemmas.List.{map-append, take_more, take_all, append-nil}
use Rattle.std.proofs.lemmas.Grind.{fold-append}
use Rattle.lisa_engine.specs.PinValues.{set_pin}
use Rattle.lisa_board.specs.declared.parts.Timer.{Timer}
use Rattle.lisa_board.specs.declared.timers.Counter.{Counter}
use Rattle.lisa_board.specs.Feeding.{tick, at_zero, counter_after, pulse_of}

-- one more look of a timer
counter_more : (timer : Timer) (rows : List (List ℕ)) (row : List ℕ) → counter_after timer (rows ++ row ∷ []) ≡ tick (counter_after timer rows) (slice_index row timer.load)
counter_more timer rows row =
    ap (fold tick at_zero) (map-append (λ r. slice_index r timer.load) rows (row ∷ []))
    ∙ fold-append tick at_zero (map (λ r. slice_index r timer.load) rows) (slice_index row timer.load ∷ [])

-- what stands at a place that isn't written yet
unwritten : {X Y : Type 0} (f g : X → Y) (xs : List X) (i : ℕ) (x : X) (d : Y) → i < length xs → x ≡ get_or xs i x → get_or (map f (take i xs) ++ map g (drop i xs)) i d ≡ g x
unwritten f g [] i x d within is = absurd (omega arith)
unwritten f g (z ∷ zs) zero x d within is = ap g (sym is)
unwritten f g (z ∷ zs) (suc i) x d within is = unwritten f g zs i x d (omega arith) is

-- and with it written
written : {X Y : Type 0} (f g : X → Y) (xs : List X) (i : ℕ) (x : X) (y : Y) → i < length xs → x ≡ get_or xs i x → y ≡ f x
    → set (map f (take i xs) ++ map g (drop i xs)) i y ≡ map f (take (i + 1) xs) ++ map g (drop (i + 1) xs)
written f g [] i x y within is new = absurd (omega arith)
written f g (z ∷ zs) zero x y within is new = ap (λ w. w ∷ map g zs) (new ∙ ap f is)
written f g (z ∷ zs) (suc i) x y within is new = let e : suc i + 1 ≡ suc (i + 1) = omega arith in rw e (ap (λ t. f z ∷ t) (written f g zs i x y (omega arith) is new))

-- some of the timers have looked at one more row
abbrev pub partly : List Timer → List (List ℕ) → List ℕ → ℕ → List Counter
partly timers rows row place = map (λ t. counter_after t (rows ++ row ∷ [])) (take place timers) ++ map (λ t. counter_after t rows) (drop place timers)

pub one_more : (timers : List Timer) (rows : List (List ℕ)) (row : List ℕ) (place : ℕ) (timer : Timer) (old new : Counter) (load : ℕ) (counters : List Counter)
    → place < length timers → timer ≡ get_or timers place timer → counters ≡ partly timers rows row place → old ≡ get_or counters place old
    → load ≡ slice_index row timer.load → new ≡ tick old load → set counters place new ≡ partly timers rows row (place + 1)
one_more timers rows row place timer old new load counters within is so_far is_old is_load is_new =
    let had : old ≡ counter_after timer rows
    = is_old ∙ ap (λ c. get_or c place old) so_far ∙ unwritten (λ t. counter_after t (rows ++ row ∷ [])) (λ t. counter_after t rows) timers place timer old within is in
    let gets : new ≡ counter_after timer (rows ++ row ∷ [])
    = is_new ∙ ap (λ c. tick c load) had ∙ ap (tick (counter_after timer rows)) is_load ∙ sym (counter_more timer rows row) in
    ap (λ c. set c place new) so_far ∙ written (λ t. counter_after t (rows ++ row ∷ [])) (λ t. counter_after t rows) timers place timer new within is gets

at_place : {X Y : Type 0} (f : X → Y) (xs : List X) (i : ℕ) (x : X) (d : Y) → i < length xs → x ≡ get_or xs i x → get_or (map f xs) i d ≡ f x
at_place f [] i x d within is = absurd (omega arith)
at_place f (z ∷ zs) zero x d within is = ap f (sym is)
at_place f (z ∷ zs) (suc i) x d within is = at_place f zs i x d (omega arith) is

-- one more pin
pub one_pulse : (timers : List Timer) (rows : List (List ℕ)) (place : ℕ) (timer : Timer) (counter : Counter) (counters : List Counter) (first values : List ℕ)
    → place < length timers → timer ≡ get_or timers place timer → counters ≡ map (λ t. counter_after t rows) timers → counter ≡ get_or counters place counter
    → values ≡ fold set_pin first (map (pulse_of rows) (take place timers))
    → set values timer.pin counter.pulse ≡ fold set_pin first (map (pulse_of rows) (take (place + 1) timers))
one_pulse timers rows place timer counter counters first values within is are is_counter so_far =
    let has : counter ≡ counter_after timer rows
    = is_counter ∙ ap (λ c. get_or c place counter) are ∙ at_place (λ t. counter_after t rows) timers place timer counter within is in
    let more : take (place + 1) timers ≡ take place timers ++ timer ∷ []
    = take_more timers place timer within ∙ ap (λ t. take place timers ++ t ∷ []) (sym is) in
    ap (λ v. set v timer.pin counter.pulse) so_far
    ∙ ap (λ c. set (fold set_pin first (map (pulse_of rows) (take place timers))) timer.pin c.pulse) has
    ∙ sym (ap (λ l. fold set_pin first (map (pulse_of rows) l)) more
    ∙ ap (fold set_pin first) (map-append (pulse_of rows) (take place timers) (timer ∷ []))
    ∙ fold-append set_pin first (map (pulse_of rows) (take place timers)) (pulse_of rows timer ∷ []))

-- all of them have looked
pub all_looked : (timers : List Timer) (rows : List (List ℕ)) (row : List ℕ) (place : ℕ) → length timers ≤ place
    → partly timers rows row place ≡ map (λ t. counter_after t (rows ++ row ∷ [])) timers
all_looked timers rows row place end =
    ap (λ l. map (λ t. counter_after t (rows ++ row ∷ [])) (take place timers) ++ map (λ t. counter_after t rows) l) (drop_of_length-le timers end)
    ∙ append-nil (map (λ t. counter_after t (rows ++ row ∷ [])) (take place timers))
    ∙ ap (map (λ t. counter_after t (rows ++ row ∷ []))) (take_all place timers end)

-- no row was looked at yet
pub none_looked : (timers : List Timer) (n : ℕ) → n ≡ length timers → replicate n at_zero ≡ map (λ t. counter_after t []) timers
none_looked [] zero is = refl
none_looked [] (suc n) is = absurd (omega arith)
none_looked (t ∷ timers) zero is = absurd (omega arith)
none_looked (t ∷ timers) (suc n) is = ap (λ l. at_zero ∷ l) (none_looked timers n (omega arith))
