-- What a journal keeps of each edge: the items before it and its touches. It depends on the definition alone, so it stays
-- true whatever edges follow, and the newest entry always meets the condition of `retreat`.
use Rattle.std.proofs.Common.{◌≡◌, ℕ, ◌<◌, List, [], ◌∷◌, ◌++◌, length, sym, ap, ◌∙◌, subst, refl, arith, length-append}
use Rattle.std.proofs.lemmas.List.{get_or_append_left}
use Rattle.lisa_engine.specs.State.{State}
use Rattle.lisa_engine.specs.Shape.{IsFitting, IsShaped, AreEntries}
use Rattle.lisa_engine.specs.Machines.{Machine}
use Rattle.lisa_engine.specs.Touches.{Tracks, LeadsBack, TakesBack, put_back, set_cell}
use Rattle.lisa_engine.specs.declared.parts.Item.{Item}
use Rattle.lisa_engine.specs.declared.parts.Touch.{Touch}

-- the items before an edge and its touches lead back over it: all the premises are clauses of `edge`
pub leads_back : {m : Machine} {before after : State} {touches : List Touch} {l : List (List ℕ)} {entry : List ℕ}
    → before ≡ m.defined l → after ≡ m.defined (l ++ entry ∷ []) → Tracks m.arrays before.cells after.cells touches
    → LeadsBack m before.items touches l entry
leads_back {m = m} {before = before} {touches = touches} {l = l} {entry = entry} is_before is_after tracks = record {
  values = ap (λ s. s.items) is_before;
  cells = subst (λ s. Tracks m.arrays s.cells (m.defined (l ++ entry ∷ [])).cells touches) is_before (subst (λ s. Tracks m.arrays before.cells s.cells touches) is_after tracks);
}

-- the state that is gone back to: the items given, and the present cells with the touches put back
pub taken_back : {m : Machine} {present : State} {given : List ℕ} {touches : List Touch} {l : List (List ℕ)} {entry : List ℕ}
    → TakesBack m present given touches l entry → m.defined l ≡ record { items = given; cells = put_back touches present.cells }
taken_back {m = m} {present = present} {given = given} {touches = touches} {l = l} t =
    let cells : (m.defined l).cells ≡ put_back touches present.cells = sym (ap (λ s. put_back touches s.cells) t.now ∙ t.back.cells.back) in
    λ i. record { items = sym t.back.values i; cells = cells i }

-- the entries before the one that is taken back
pub entries_before : (pins : List Item) (before : List (List ℕ)) (entry : List ℕ) → AreEntries pins (before ++ entry ∷ []) → AreEntries pins before
entries_before pins before entry entries k d within =
    subst (IsFitting pins) (get_or_append_left before (entry ∷ []) d k within) (entries k d (omega (arith, length-append before (entry ∷ []))))

-- that state has the engine's shape, since the definition gives no other
pub taken_shaped : {m : Machine} {present : State} {given : List ℕ} {touches : List Touch} {l : List (List ℕ)} {entry : List ℕ}
    → ((entries : List (List ℕ)) → AreEntries m.pins entries → IsShaped m.items m.arrays (m.defined entries))
    → TakesBack m present given touches l entry → IsShaped m.items m.arrays (record { items = given; cells = put_back touches present.cells })
taken_shaped {m = m} {l = l} {entry = entry} shaped t =
    subst (IsShaped m.items m.arrays) (taken_back t) (shaped l (entries_before m.pins l entry t.entries))

-- one more touch after others: its value is put back first
pub put_back_more : (touches : List Touch) (last : Touch) (cells : List (List ℕ))
    → put_back (touches ++ last ∷ []) cells ≡ put_back touches (set_cell cells last.array last.index last.before)
put_back_more [] last cells = refl
put_back_more (touch ∷ touches) last cells = ap (λ cs. set_cell cs touch.array touch.index touch.before) (put_back_more touches last cells)
