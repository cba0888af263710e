-- What is gathered in a room, as it is filled and sent on.
use Rattle.std.proofs.Common.{◌≡◌, ℕ, ◌+◌, ◌-◌, ◌≤◌, List, [], ◌++◌, length, take, drop, refl, sym, ap, ◌∙◌, arith, append_assoc, length-drop, Option, Some, None, Result, Ok, Err}
use Rattle.std.proofs.lemmas.List.{take-append-drop, drop-append-le, drop-take, length-take, length-take-le, append-nil}
use Rattle.std.specs.Io.KnownBytes.{Appends, Keeps, WriteAppends, append_known}
use Rattle.lisa_io.specs.Contents.{IsFront}
use Rattle.lisa_io.specs.Gathered.{gathered}
use Rattle.lisa_io.proofs.Taken.{drop-plus, nothing}

-- some bytes go on from the room to the sink below
pub sent_on : (below next : Option (List ℕ)) (room : List ℕ) (sent filled k : ℕ) → sent ≤ filled
    → Appends below next (take k (take (filled - sent) (drop sent room))) → Keeps (gathered below room sent filled) (gathered next room (sent + k) filled)
sent_on None next room sent filled k le p = tt
sent_on (Some xs) None room sent filled k le p = absurd p
sent_on (Some xs) (Some ys) room sent filled k le p =
    let held : take (filled - sent) (drop sent room) ≡ drop sent (take filled room) =
    sym (drop-take sent (filled - sent) room) ∙ ap (λ n. drop sent (take n room)) {x = sent + (filled - sent)} {y = filled} (omega arith) in
    let rest : drop (sent + k) (take filled room) ≡ drop k (drop sent (take filled room)) = drop-plus sent k (take filled room) in
    (λ i. p i ++ rest i)
    ∙ append_assoc xs (take k (take (filled - sent) (drop sent room))) (drop k (drop sent (take filled room)))
    ∙ ap (λ t. xs ++ (take k t ++ drop k (drop sent (take filled room)))) held
    ∙ ap (λ t. xs ++ t) (take-append-drop k (drop sent (take filled room)))

-- a piece is put into the room
pub put_in : (below : Option (List ℕ)) (room next piece : List ℕ) (sent filled : ℕ) → sent ≤ filled → filled ≤ length room
    → take (filled + length piece) next ≡ take filled room ++ piece → Appends (gathered below room sent filled) (gathered below next sent (filled + length piece)) piece
put_in None room next piece sent filled le within is = tt
put_in (Some xs) room next piece sent filled le within is =
    let long : sent ≤ length (take filled room) = omega (arith, length-take-le filled room within) in
    ap (λ t. xs ++ drop sent t) is ∙ ap (λ t. xs ++ t) (drop-append-le sent (take filled room) piece long) ∙ sym (append_assoc xs (drop sent (take filled room)) piece)

-- an empty room may be used from its start again
pub emptied : (below : Option (List ℕ)) (room : List ℕ) (sent filled : ℕ) → filled ≤ sent → filled ≤ length room
    → Keeps (gathered below room sent filled) (gathered below room 0 0)
emptied None room sent filled le within = tt
emptied (Some xs) room sent filled le within =
    let none : drop sent (take filled room) ≡ [] = nothing (drop sent (take filled room)) (omega (arith, length-drop sent (take filled room), length-take-le filled room within)) in
    let none' : drop 0 (take 0 room) ≡ [] = nothing (drop 0 (take 0 room)) (omega (arith, length-drop 0 (take 0 room), length-take-le 0 room (omega arith))) in
    ap (λ t. xs ++ t) (none' ∙ sym none)

pub kept_through : (a b c : Option (List ℕ)) → Keeps a b → Keeps b c → Keeps a c
kept_through None b c p q = tt
kept_through (Some xs) None c p q = absurd p
kept_through (Some xs) (Some ys) None p q = absurd q
kept_through (Some xs) (Some ys) (Some zs) p q = q ∙ p

pub kept_itself : (a : Option (List ℕ)) → Keeps a a
kept_itself None = tt
kept_itself (Some xs) = refl

pub kept_then_appended : (a b c : Option (List ℕ)) (piece : List ℕ) → Keeps a b → Appends b c piece → Appends a c piece
kept_then_appended None b c piece p q = tt
kept_then_appended (Some xs) None c piece p q = absurd p
kept_then_appended (Some xs) (Some ys) None piece p q = absurd q
kept_then_appended (Some xs) (Some ys) (Some zs) piece p q = q ∙ ap (λ t. t ++ piece) p

pub front_through : (a b c : Option (List ℕ)) → IsFront a b → IsFront b c → IsFront a c
front_through None b c p q = tt
front_through (Some xs) None c p q = absurd p
front_through (Some xs) (Some ys) None p q = absurd q
front_through (Some xs) (Some ys) (Some zs) p q = (p.0 ++ q.0, q.1 ∙ ap (λ t. t ++ q.0) p.1 ∙ append_assoc xs p.0 q.0)

appends_past : (old new : Option (List ℕ)) (bytes : List ℕ) → Appends old new bytes → Appends (append_known old []) (append_known new []) bytes
appends_past None new bytes p = tt
appends_past (Some xs) None bytes p = absurd p
appends_past (Some xs) (Some ys) bytes p = append-nil ys ∙ p ∙ ap (λ t. t ++ bytes) (sym (append-nil xs))

keeps_past : (old new : Option (List ℕ)) → Keeps old new → Keeps (append_known old []) (append_known new [])
keeps_past None new p = tt
keeps_past (Some xs) None p = absurd p
keeps_past (Some xs) (Some ys) p = append-nil ys ∙ p ∙ sym (append-nil xs)

nothing_held : (room : List ℕ) (sent filled : ℕ) → filled ≡ 0 → drop sent (take filled room) ≡ []
nothing_held room sent filled none =
    nothing (drop sent (take filled room)) (omega (arith, length-drop sent (take filled room), length-take filled room))

-- where nothing is held back, a piece goes straight to the sink below
pub put_past : {E : Type 0} (below middle next : Option (List ℕ)) (room after piece : List ℕ) (sent filled from to : ℕ) (r : Result ℕ E) → to ≡ 0
    → Keeps (gathered below room sent filled) (gathered middle after from to) → WriteAppends middle next r piece
    → WriteAppends (gathered below room sent filled) (gathered next after from to) r piece
put_past below middle next room after piece sent filled from to (Ok n) none kept put =
    kept_then_appended (gathered below room sent filled) (gathered middle after from to) (gathered next after from to) (take n piece) kept
    (rw (nothing_held after from to none) (appends_past middle next (take n piece) put))
put_past below middle next room after piece sent filled from to (Err e) none kept put =
    kept_through (gathered below room sent filled) (gathered middle after from to) (gathered next after from to) kept
    (rw (nothing_held after from to none) (keeps_past middle next put))
