-- The times, event by event.
use Rattle.std.proofs.Common.{◌≡◌, ℕ, ◌+◌, ◌<◌, ◌≤◌, Bool, true, false, cond, List, [], ◌∷◌, ◌++◌, length, drop, get_or, set, map, replicate, Option, Some, None, refl, sym, ap, subst, ◌∙◌, arith, append_assoc}
use Rattle.std.specs.Prelude.{unwrap_or}
use Rattle.std.specs.Str.{bytes_eq}
use Rattle.std.proofs.lemmas.Bool.{false≢true}
use Rattle.std.proofs.lemmas.List.{append-nil, drop_more, drop_all, get_or-set_same, get_or-set_other, get_or-replicate, length-set, length-replicate}
use Rattle.std.proofs.lemmas.List.Sums.{fold-append}
use Rattle.vcd_trace.specs.Written.{Variable, Change, Changed}
use Rattle.vcd_trace.specs.Meaning.{Block, place_of, cut, joined, blocks, given, last_value, values_after, changed, time_changes, times_from}
use Rattle.vcd_trace.specs.CodeTables.{put_value, slot_of, values_in, ended_times, ended_before}
use Rattle.vcd_trace.specs.declared.parts.Event.{Event}
use Rattle.vcd_trace.specs.declared.parts.Event.TheVariants as events
use Rattle.vcd_trace.specs.declared.parts.Moment.{Moment}
use Rattle.vcd_trace.proofs.CodeLaws.{same_bytes, equal_bytes, place_is, has_place}

-- ---- blocks, while their events are read

-- the blocks of what is left, where so many changes stand before it: at an open time, or before the first one
abbrev pub pending : Option ℕ → List Change → List Change × List Block → List Block
pending None more rest = joined (more ++ rest.0, rest.1)
pending (Some time) more rest = (time, more ++ rest.0) ∷ rest.1

pub pend_change : (begun : Option ℕ) (more : List Change) (c : Change) (es : List Event) → pending begun more (cut (events.Change c ∷ es)) ≡ pending begun (more ++ c ∷ []) (cut es)
pend_change None more c es = ap (λ (l : List Change). joined (l, (cut es).1)) (sym (append_assoc more (c ∷ []) (cut es).0))
pend_change (Some time) more c es = ap (λ (l : List Change). (time, l) ∷ (cut es).1) (sym (append_assoc more (c ∷ []) (cut es).0))

pub pend_first : (more : List Change) (m : Moment) (es : List Event) → pending None more (cut (events.Time m ∷ es)) ≡ pending (Some m.time) more (cut es)
pend_first more m es = ap (λ (l : List Change). (m.time, l ++ (cut es).0) ∷ (cut es).1) (append-nil more)

pub pend_next : (time : ℕ) (more : List Change) (m : Moment) (es : List Event) → pending (Some time) more (cut (events.Time m ∷ es)) ≡ (time, more) ∷ pending (Some m.time) [] (cut es)
pend_next time more m es = ap (λ (l : List Change). (time, l) ∷ (m.time, (cut es).0) ∷ (cut es).1) (append-nil more)

pub pend_none : (more : List Change) → pending None more (cut []) ≡ []
pend_none more = refl

pub pend_last : (time : ℕ) (more : List Change) → pending (Some time) more (cut []) ≡ (time, more) ∷ []
pend_last time more = ap (λ (l : List Change). (time, l) ∷ []) (append-nil more)

pub pend_begin : (es : List Event) → blocks es ≡ pending None [] (cut es)
pend_begin es = refl

-- what is left opens with the event
pub opened : (es : List Event) (i : ℕ) (e : Event) → i < length es → e ≡ get_or es i e → drop i es ≡ e ∷ drop (i + 1) es
opened es i e within is = drop_more es i e within ∙ ap (λ (x : Event). x ∷ drop (i + 1) es) (sym is)

-- ---- the values of codes

abbrev pub Held : List Variable → List Change → List ℕ → Type 0
Held vs known present = (code : List ℕ) (p : ℕ) → place_of vs code ≡ Some p → get_or present p 0 ≡ last_value known code

pub held_first : (vs : List Variable) → Held vs [] (replicate (length vs) 0)
held_first vs code p e = get_or-replicate (length vs) p 0 0 (place_is vs code p (record { code = []; name = []; width = 0 }) e).0

last_more : (known : List Change) (c : Change) (code : List ℕ) → last_value (known ++ c ∷ []) code ≡ given code (last_value known code) c
last_more known c code = fold-append (given code) 0 known (c ∷ [])

pub held_more : (vs : List Variable) (known : List Change) (present : List ℕ) (c : Change) → length present ≡ length vs → Held vs known present
    → Held vs (known ++ c ∷ []) (put_value present (place_of vs c.code) c.value)
held_more vs known present c long held code p e = go (bytes_eq c.code code) refl (place_of vs c.code) refl ∙ sym (last_more known c code)
  where
    d : Variable
    d = record { code = []; name = []; width = 0 }

    go : (b : Bool) → bytes_eq c.code code ≡ b → (o : Option ℕ) → place_of vs c.code ≡ o → get_or (put_value present o c.value) p 0 ≡ cond b (unwrap_or c.value 0) (last_value known code)
    go true same None f = absurd (let g = ap (place_of vs) (same_bytes c.code code same) in let h : ◌≡◌ {A = Option ℕ} None (Some p) = sym f ∙ g ∙ e in cc)
    go true same (Some s) f =
        let g = ap (place_of vs) (same_bytes c.code code same) in
        let h : ◌≡◌ {A = Option ℕ} (Some s) (Some p) = sym f ∙ g ∙ e in
        let k : s ≡ p = cc in
        subst (λ (q : ℕ). get_or (set present s (unwrap_or c.value 0)) q 0 ≡ unwrap_or c.value 0) k
        (get_or-set_same present s (unwrap_or c.value 0) 0 (omega (arith, long, (place_is vs c.code s d f).0)))
    go false other None f = held code p e
    go false other (Some s) f =
        get_or-set_other present s p (unwrap_or c.value 0) 0 (λ same. false≢true (sym other ∙ subst (λ (x : List ℕ). bytes_eq c.code x ≡ true) (codes same) (equal_bytes c.code)))
        ∙ held code p e
      where
        codes : p ≡ s → c.code ≡ code
        codes same = sym (place_is vs c.code s d f).1 ∙ ap (λ (q : ℕ). (get_or vs q d).code) (sym same) ∙ (place_is vs code p d e).1

pub put_long : (present : List ℕ) (o value : Option ℕ) → length (put_value present o value) ≡ length present
put_long present None value = refl
put_long present (Some p) value = length-set present p (unwrap_or value 0)

-- the values at the places of the variables
pub values_are : (vs : List Variable) (known : List Change) (present : List ℕ) → Held vs known present
    → map (λ slot. get_or present slot 0) (map (slot_of vs) vs) ≡ values_after vs known
values_are vs known present held = go [] vs refl
  where
    go : (front rest : List Variable) → front ++ rest ≡ vs → map (λ slot. get_or present slot 0) (map (slot_of vs) rest) ≡ values_after rest known
    go front [] e = refl
    go front (v ∷ rest) e =
        let found = has_place front rest v in
        let there : place_of vs v.code ≡ Some found.0 = ap (λ (l : List Variable). place_of l v.code) (sym e) ∙ found.1 in
        (λ i. (ap (λ (o : Option ℕ). get_or present (unwrap_or o 0) 0) there ∙ held v.code found.0 there) i
        ∷ go (front ++ v ∷ []) rest (append_assoc front (v ∷ []) rest ∙ e) i)

-- ---- the times

-- what was made of the events before a place: `before` are the values at the last time that ended
pub record Replayed (vs : List Variable) (es : List Event) (i : ℕ) (present : List ℕ) (before : Option (List ℕ)) (begun : Option ℕ) (times : List Changed) : Type 0 where
  pub known : List Change
  pub more : List Change
  pub held : Held vs (known ++ more) present
  pub long : length present ≡ length vs
  pub total : times ++ times_from vs before known (pending begun more (cut (drop i es))) ≡ times_from vs None [] (blocks es)

pub replay_first : (vs : List Variable) (es : List Event) (count : ℕ) → count ≡ length vs → Replayed vs es 0 (replicate count 0) None None []
replay_first vs es count is =
    subst (λ (n : ℕ). Replayed vs es 0 (replicate n 0) None None []) (sym is)
    (record { known = []; more = []; held = held_first vs; long = length-replicate (length vs) 0; total = refl })

module _ (vs : List Variable) (es : List Event) (i : ℕ) (present : List ℕ) (before : Option (List ℕ)) (times : List Changed) where
  pub replay_change : (begun : Option ℕ) (c : Change) (after : List ℕ) → Replayed vs es i present before begun times → drop i es ≡ events.Change c ∷ drop (i + 1) es
      → after ≡ put_value present (place_of vs c.code) c.value → Replayed vs es (i + 1) after before begun times
  replay_change begun c after r is put = record {
    known = r.known;
    more = r.more ++ c ∷ [];
    held = subst (Held vs (r.known ++ (r.more ++ c ∷ []))) (sym put)
        (subst (λ (l : List Change). Held vs l (put_value present (place_of vs c.code) c.value)) (append_assoc r.known r.more (c ∷ [])) (held_more vs (r.known ++ r.more) present c r.long r.held));
    long = ap length put ∙ put_long present (place_of vs c.code) c.value ∙ r.long;
    total = ap (λ (l : List Block). times ++ times_from vs before r.known l) (sym (ap (λ (l : List Event). pending begun r.more (cut l)) is ∙ pend_change begun r.more c (drop (i + 1) es))) ∙ r.total;
  }

  pub replay_time : (m : Moment) → Replayed vs es i present before None times → drop i es ≡ events.Time m ∷ drop (i + 1) es → Replayed vs es (i + 1) present before (Some m.time) times
  replay_time m r is = record {
    known = r.known;
    more = r.more;
    held = r.held;
    long = r.long;
    total = ap (λ (l : List Block). times ++ times_from vs before r.known l) (sym (ap (λ (l : List Event). pending None r.more (cut l)) is ∙ pend_first r.more m (drop (i + 1) es))) ∙ r.total;
  }

  module _ (time : ℕ) (r : Replayed vs es i present before (Some time) times) (now : List ℕ) (is_now : now ≡ values_in present (map (slot_of vs) vs))
      (ended : Changed) (is_ended : ended ≡ changed time (time_changes before now)) where
    now_is : now ≡ values_after vs (r.known ++ r.more)
    now_is = is_now ∙ values_are vs (r.known ++ r.more) present r.held

    -- the open time with what follows it
    unfolded : (rest : List Block) → times ++ times_from vs before r.known ((time, r.more) ∷ rest) ≡ (times ++ ended ∷ []) ++ times_from vs (Some now) (r.known ++ r.more) rest
    unfolded rest =
        (λ j. times ++ (changed time (time_changes before (sym now_is j)) ∷ times_from vs (Some (sym now_is j)) (r.known ++ r.more) rest))
        ∙ ap (λ (c : Changed). times ++ (c ∷ times_from vs (Some now) (r.known ++ r.more) rest)) (sym is_ended)
        ∙ sym (append_assoc times (ended ∷ []) (times_from vs (Some now) (r.known ++ r.more) rest))

    pub replay_next : (m : Moment) → drop i es ≡ events.Time m ∷ drop (i + 1) es → Replayed vs es (i + 1) present (Some now) (Some m.time) (times ++ ended ∷ [])
    replay_next m is = record {
      known = r.known ++ r.more;
      more = [];
      held = subst (λ (l : List Change). Held vs l present) (sym (append-nil (r.known ++ r.more))) r.held;
      long = r.long;
      total = sym (unfolded (pending (Some m.time) [] (cut (drop (i + 1) es))))
          ∙ ap (λ (l : List Block). times ++ times_from vs before r.known l) (sym (ap (λ (l : List Event). pending (Some time) r.more (cut l)) is ∙ pend_next time r.more m (drop (i + 1) es)))
          ∙ r.total;
    }

    pub replay_last : length es ≤ i → times ++ ended ∷ [] ≡ times_from vs None [] (blocks es)
    replay_last all =
        sym (append-nil (times ++ ended ∷ [])) ∙ sym (unfolded [])
        ∙ ap (λ (l : List Block). times ++ times_from vs before r.known l) (sym (ap (λ (l : List Event). pending (Some time) r.more (cut l)) (drop_all i es all) ∙ pend_last time r.more))
        ∙ r.total

  pub replay_none : Replayed vs es i present before None times → length es ≤ i → times ≡ times_from vs None [] (blocks es)
  replay_none r all =
      sym (append-nil times)
      ∙ ap (λ (l : List Block). times ++ times_from vs before r.known l) (sym (ap (λ (l : List Event). pending None r.more (cut l)) (drop_all i es all)))
      ∙ r.total

-- ---- the same whether a time has begun or not

module _ (vs : List Variable) (es : List Event) (i : ℕ) (present : List ℕ) (before : Option (List ℕ)) (times : List Changed) (now : List ℕ) (is_now : now ≡ values_in present (map (slot_of vs) vs)) where
  pub replay_ended : (begun : Option ℕ) (m : Moment) → Replayed vs es i present before begun times → drop i es ≡ events.Time m ∷ drop (i + 1) es
      → Replayed vs es (i + 1) present (ended_before begun before now) (Some m.time) (times ++ ended_times begun before now)
  replay_ended None m r is = subst (λ (l : List Changed). Replayed vs es (i + 1) present before (Some m.time) l) (sym (append-nil times)) (replay_time vs es i present before times m r is)
  replay_ended (Some time) m r is = replay_next vs es i present before times time r now is_now (changed time (time_changes before now)) refl m is

  pub replay_done : (begun : Option ℕ) → Replayed vs es i present before begun times → length es ≤ i → times ++ ended_times begun before now ≡ times_from vs None [] (blocks es)
  replay_done None r all = append-nil times ∙ replay_none vs es i present before times r all
  replay_done (Some time) r all = replay_last vs es i present before times time r now is_now (changed time (time_changes before now)) refl all
