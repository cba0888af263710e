-- What a dump says doesn't rest on the places of its events.
use Rattle.std.proofs.Common.{◌≡◌, ℕ, ◌+◌, Bool, true, false, cond, List, [], ◌∷◌, ◌++◌, map, Option, Some, None, refl, sym, ap, ◌∙◌}
use Rattle.std.specs.Prelude.{fold, find, count_by, ◌||◌}
use Rattle.std.specs.List.{list_any}
use Rattle.std.proofs.lemmas.List.{map-append}
use Rattle.std.specs.Str.{bytes_eq}
use Rattle.vcd_trace.specs.Written.{Variable, Change, Changed}
use Rattle.vcd_trace.specs.Meaning.{Block, cut, joined, blocks, given, values_after, changed, time_changes, times_from}
use Rattle.vcd_trace.specs.VcdFaults.{falls, first_fall, is_time, first_changes}
use Rattle.vcd_trace.specs.declared.parts.Event.{Event}
use Rattle.vcd_trace.specs.declared.parts.Event.TheVariants as events
use Rattle.vcd_trace.proofs.Pieces.{bare_change, bare}

abbrev pub bare_block : Block → Block
bare_block block = (block.0, map bare_change block.1)

cut_bare : (es : List Event) → cut (map bare es) ≡ (map bare_change (cut es).0, map bare_block (cut es).1)
cut_bare [] = refl
cut_bare (events.Change c ∷ es) = ap (λ (x : List Change × List Block). (bare_change c ∷ x.0, x.1)) (cut_bare es)
cut_bare (events.Time m ∷ es) = ap (λ (x : List Change × List Block). ([], (m.time, x.0) ∷ x.1)) (cut_bare es)

joined_bare : (l : List Change) (bs : List Block) → joined (map bare_change l, map bare_block bs) ≡ map bare_block (joined (l, bs))
joined_bare l [] = refl
joined_bare l (b ∷ bs) = ap (λ (cs : List Change). (b.0, cs) ∷ map bare_block bs) (sym (map-append bare_change l b.1))

pub blocks_bare : (es : List Event) → blocks (map bare es) ≡ map bare_block (blocks es)
blocks_bare es = ap joined (cut_bare es) ∙ joined_bare (cut es).0 (cut es).1

last_bare : (code : List ℕ) (x : ℕ) (cs : List Change) → fold (given code) x (map bare_change cs) ≡ fold (given code) x cs
last_bare code x [] = refl
last_bare code x (c ∷ cs) = last_bare code (given code x c) cs

values_bare : (vs : List Variable) (cs : List Change) → values_after vs (map bare_change cs) ≡ values_after vs cs
values_bare [] cs = refl
values_bare (v ∷ vs) cs = λ i. last_bare v.code 0 cs i ∷ values_bare vs cs i

pub times_bare : (vs : List Variable) (before : Option (List ℕ)) (known : List Change) (bs : List Block) → times_from vs before (map bare_change known) (map bare_block bs) ≡ times_from vs before known bs
times_bare vs before known [] = refl
times_bare vs before known (b ∷ bs) =
    ap (λ (l : List Change). changed b.0 (time_changes before (values_after vs l)) ∷ times_from vs (Some (values_after vs l)) l (map bare_block bs)) (sym (map-append bare_change known b.1))
    ∙ ap (λ (l : List ℕ). changed b.0 (time_changes before l) ∷ times_from vs (Some l) (map bare_change (known ++ b.1)) (map bare_block bs)) (values_bare vs (known ++ b.1))
    ∙ ap (λ (l : List Changed). changed b.0 (time_changes before (values_after vs (known ++ b.1))) ∷ l) (times_bare vs (Some (values_after vs (known ++ b.1))) (known ++ b.1) bs)

pub find_bare : (p : Event → Bool) → ((e : Event) → p (bare e) ≡ p e) → (es : List Event) → find p (map bare es) ≡ None → find p es ≡ None
find_bare p same [] e = refl
find_bare p same (x ∷ es) e = go (p (bare x)) refl (sym (same x)) e (find_bare p same es)
  where
    go : (b : Bool) → p (bare x) ≡ b → p x ≡ p (bare x) → cond b (Some (bare x)) (find p (map bare es)) ≡ None
        → (find p (map bare es) ≡ None → find p es ≡ None) → cond (p x) (Some x) (find p es) ≡ None
    go true is back f rec = absurd cc
    go false is back f rec = ap (λ (b : Bool). cond b (Some x) (find p es)) (back ∙ is) ∙ rec f

pub fall_bare : (before : Option ℕ) (es : List Event) → first_fall before (map bare es) ≡ None → first_fall before es ≡ None
fall_bare before [] e = refl
fall_bare before (events.Change c ∷ es) e = fall_bare before es e
fall_bare before (events.Time m ∷ es) e = go (falls before m.time) e (fall_bare (Some m.time) es)
  where
    go : (b : Bool) → cond b (Some 0) (first_fall (Some m.time) (map bare es)) ≡ None
        → (first_fall (Some m.time) (map bare es) ≡ None → first_fall (Some m.time) es ≡ None) → cond b (Some m.at) (first_fall (Some m.time) es) ≡ None
    go true f rec = absurd cc
    go false f rec = rec f

count_more : (n : ℕ) (es : List Event) → fold (λ (a : ℕ) (x : Event). a + cond (is_time x) 1 0) n (map bare es) ≡ fold (λ (a : ℕ) (x : Event). a + cond (is_time x) 1 0) n es
count_more n [] = refl
count_more n (events.Change c ∷ es) = count_more (n + 0) es
count_more n (events.Time m ∷ es) = count_more (n + 1) es

pub count_bare : (es : List Event) → count_by is_time (map bare es) ≡ count_by is_time es
count_bare es = count_more 0 es

pub any_bare : (code : List ℕ) (cs : List Change) → list_any (λ c. bytes_eq c.code code) (map bare_change cs) ≡ list_any (λ c. bytes_eq c.code code) cs
any_bare code [] = refl
any_bare code (c ∷ cs) = ap (λ (b : Bool). bytes_eq c.code code || b) (any_bare code cs)

pub first_bare : (bs : List Block) → first_changes (map bare_block bs) ≡ map bare_change (first_changes bs)
first_bare [] = refl
first_bare (b ∷ bs) = refl
