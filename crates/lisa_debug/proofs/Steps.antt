-- The edges of a course, and what a journal keeps of them.
use Rattle.std.proofs.Common.{◌≡◌, ℕ, suc, ◌+◌, ◌-◌, ◌<◌, ◌≤◌, List, [], ◌∷◌, ◌++◌, length, take, get_or, sym, ap, ◌∙◌, subst, arith, ⊎_elim, length-append}
use Rattle.std.specs.Prelude.{All}
use Rattle.std.proofs.lemmas.Bool.{cases_lt}
use Rattle.std.proofs.lemmas.List.{get_or_push, get_or_append_left, get_or-take, length-take, take-append-le, take_all}
use Rattle.lisa_engine.specs.State.{State}
use Rattle.lisa_engine.specs.ScheduleLine.{Line}
use Rattle.lisa_engine.specs.Shape.{IsFitting, AreEntries}
use Rattle.lisa_engine.specs.Touches.{Tracks, LeadsBack, TakesBack}
use Rattle.lisa_engine.specs.PinValues.{pins_at, IsFor}
use Rattle.lisa_engine.specs.declared.parts.Item.{Item}
use Rattle.lisa_engine.specs.declared.parts.ArrayItem.{ArrayItem}
use Rattle.lisa_engine.specs.declared.parts.Touch.{Touch}
use Rattle.lisa_engine.proofs.Played.{values_at, pins_fit, entries_fit}
use Rattle.lisa_engine.proofs.Journal.{leads_back}
use Rattle.lisa_engine.specs.Machines.{Machine, Course, course_of, entries_to, state_at}
use Rattle.lisa_debug.specs.Kept.{restored, LeadsOver, IsPlayed, HasMade, IsLive, CameTo}
use Rattle.lisa_debug.specs.declared.journal.Entry.{Entry}
use Rattle.lisa_debug.specs.declared.journal.Journal.{Journal}

pub same_course : {m n : Machine} (lines : List Line) → m ≡ n → course_of m lines ≡ course_of n lines
same_course lines same = λ k. course_of (same k) lines

pub played_values : (course : Course) (edge place : ℕ) (given : List ℕ) → IsPlayed course edge place given → given ≡ pins_at (length course.machine.pins) course.lines edge
played_values course edge place given p = p.values ∙ values_at (length course.machine.pins) course.lines edge place p.after

pub played_fit : (course : Course) (edge place : ℕ) (given : List ℕ) → IsFor course.machine.pins course.lines → IsPlayed course edge place given → IsFitting course.machine.pins given
played_fit course edge place given for p = subst (IsFitting course.machine.pins) (sym (played_values course edge place given p)) (pins_fit course.machine.pins course.lines edge for)

-- the next edge with the values that were played
pub has_made : (course now : Course) (before after : State) (touches : List Touch) (edge place : ℕ) (values row : List ℕ) → IsFor course.machine.pins course.lines
    → IsPlayed course (edge + 1) place values → before ≡ state_at course edge
    → ((l : List (List ℕ)) → AreEntries course.machine.pins l → before ≡ course.machine.defined l → after ≡ now.machine.defined (l ++ values ∷ []))
    → Tracks course.machine.arrays before.cells after.cells touches → now ≡ course → row ≡ before.items → HasMade course now before after touches edge row
has_made course now before after touches edge place values row for played is_before leads tracks same kept = record {
  same = same;
  kept = kept;
  led = leads (entries_to course edge) (entries_fit course.machine.pins course.lines edge for) is_before
      ∙ (λ k. (same k).machine.defined (entries_to course edge ++ values_are k ∷ []));
  tracks = tracks;
}
  where
    next : edge + 1 ≡ suc edge
    next = omega arith

    values_are : values ≡ pins_at (length course.machine.pins) course.lines (suc edge)
    values_are = played_values course (edge + 1) place values played ∙ ap (pins_at (length course.machine.pins) course.lines) next

-- what is kept of the edge leads back over it
pub leads_over : (course now : Course) (before after : State) (touches : List Touch) (edge : ℕ) (row : List ℕ) (entry : Entry)
    → HasMade course now before after touches edge row → before ≡ state_at course edge
    → restored entry.changes.items after.items ≡ row → entry.touches.items ≡ touches → All (λ change. change.item < length course.machine.items) entry.changes.items
    → LeadsOver course edge entry
leads_over course now before after touches edge row entry made is_before back same places = record {
  places = places;
  back = subst (λ given. LeadsBack course.machine given entry.touches.items (entries_to course edge) (pins_at (length course.machine.pins) course.lines (suc edge))) (sym given_is)
      (subst (λ ts. LeadsBack course.machine before.items ts (entries_to course edge) (pins_at (length course.machine.pins) course.lines (suc edge))) (sym same)
      (leads_back is_before made.led made.tracks));
}
  where
    given_is : restored entry.changes.items (state_at course (suc edge)).items ≡ before.items
    given_is = ap (λ s. restored entry.changes.items s.items) (sym made.led) ∙ back ∙ made.kept

-- one more entry
pub kept_more : (course : Course) (entries : List Entry) (entry : Entry) → ((k : ℕ) (d : Entry) → k < length entries → LeadsOver course k (get_or entries k d)) → LeadsOver course (length entries) entry
    → (k : ℕ) (d : Entry) → k < length (entries ++ entry ∷ []) → LeadsOver course k (get_or (entries ++ entry ∷ []) k d)
kept_more course entries entry all last k d within = ⊎_elim
    (λ less. subst (LeadsOver course k) (sym (get_or_append_left entries (entry ∷ []) d k less)) (all k d less))
    (λ ge. let here : length entries ≡ k = omega (arith, length-append entries (entry ∷ [])) in
    subst (LeadsOver course k) (sym (get_or_push entries entry d k here)) (subst (λ n. LeadsOver course n entry) here last))
    (cases_lt k (length entries))

-- one entry fewer
pub kept_less : (course : Course) (entries : List Entry) (n : ℕ) → n ≤ length entries → ((k : ℕ) (d : Entry) → k < length entries → LeadsOver course k (get_or entries k d))
    → (k : ℕ) (d : Entry) → k < length (take n entries) → LeadsOver course k (get_or (take n entries) k d)
kept_less course entries n le all k d within =
    let less : k < n = omega (arith, length-take n entries) in
    subst (LeadsOver course k) (sym (get_or-take n entries k d less)) (all k d (omega arith))

-- the condition for going back over the last edge
pub takes_back : (course : Course) (present : State) (given : List ℕ) (edge : ℕ) (entry : Entry) → IsFor course.machine.pins course.lines → present ≡ state_at course (suc edge) → LeadsOver course edge entry
    → given ≡ restored entry.changes.items present.items
    → TakesBack course.machine present given entry.touches.items (entries_to course edge) (pins_at (length course.machine.pins) course.lines (suc edge))
takes_back course present given edge entry for now over is = record {
  entries = entries_fit course.machine.pins course.lines (suc edge) for;
  now = now;
  back = subst (λ g. LeadsBack course.machine g entry.touches.items (entries_to course edge) (pins_at (length course.machine.pins) course.lines (suc edge)))
      (sym (is ∙ ap (λ s. restored entry.changes.items s.items) now)) over.back;
}

pub came_more : {course now next : Course} {present after : State} {journal kept : Journal} {edge far : ℕ} (to : ℕ) → CameTo course now present journal edge → CameTo now next after kept far → far ≡ to
    → CameTo course next after kept to
came_more to a b e = record { same = b.same ∙ a.same; live = b.live; stands = b.stands ∙ e }

pub played_now : {course now : Course} {edge place : ℕ} {given : List ℕ} (at : ℕ) → now ≡ course → edge ≡ at → IsPlayed course edge place given → IsPlayed now at place given
played_now {course = course} {place = place} {given = given} at same e p = subst (λ n. IsPlayed n at place given) (sym same) (subst (λ k. IsPlayed course k place given) e p)

pub came_at : {course now : Course} {present : State} {journal : Journal} {edge : ℕ} (to : ℕ) → CameTo course now present journal edge → edge ≡ to → CameTo course now present journal to
came_at to a e = record { same = a.same; live = a.live; stands = a.stands ∙ e }

pub played_then : {course now : Course} {edge place : ℕ} {given : List ℕ} (at : ℕ) → now ≡ course → edge ≡ at → IsPlayed now edge place given → IsPlayed course at place given
played_then at same e p = played_now at (sym same) e p

-- the same edges, with other values in the rooms
pub live_same : {course : Course} {present : State} {journal kept : Journal} → IsLive course present journal → kept.entries.items ≡ journal.entries.items
    → length kept.row.items ≡ length journal.row.items → length kept.pins.items ≡ length journal.pins.items → IsLive course present kept
live_same {course = course} a entries row room = record {
  schedule = a.schedule;
  now = a.now ∙ ap (λ es. state_at course (length es)) (sym entries);
  limit = subst (λ es. length es ≤ 10000) (sym entries) a.limit;
  entries = subst (λ es. (k : ℕ) (d : Entry) → k < length es → LeadsOver course k (get_or es k d)) (sym entries) a.entries;
  row = row ∙ a.row;
  room = room ∙ a.room;
}

-- one more edge, and its entry
pub live_more : {course now : Course} {before after : State} {touches : List Touch} {row : List ℕ} {journal kept : Journal} (entry : Entry) → IsLive course before journal
    → HasMade course now before after touches (length journal.entries.items) row → LeadsOver course (length journal.entries.items) entry → length journal.entries.items < 10000
    → kept.entries.items ≡ journal.entries.items ++ entry ∷ [] → length kept.row.items ≡ length journal.row.items → length kept.pins.items ≡ length journal.pins.items
    → CameTo course now after kept (length journal.entries.items + 1)
live_more {course = course} {after = after} {journal = journal} {kept = kept} entry a made over limit pushed row room =
    let grown : length kept.entries.items ≡ length journal.entries.items + 1 = ap length pushed ∙ length-append journal.entries.items (entry ∷ []) in
    let next : suc (length journal.entries.items) ≡ length kept.entries.items = omega arith in
    record {
      same = made.same;
      live = subst (λ x. IsLive x after kept) (sym made.same) (record {
        schedule = a.schedule;
        now = made.led ∙ ap (state_at course) next;
        limit = omega arith;
        entries = subst (λ es. (k : ℕ) (d : Entry) → k < length es → LeadsOver course k (get_or es k d)) (sym pushed) (kept_more course journal.entries.items entry a.entries over);
        row = row ∙ a.row;
        room = room ∙ a.room;
      });
      stands = grown;
    }

-- one edge fewer
pub live_less : {course now : Course} {present after : State} {journal kept : Journal} → IsLive course present journal → now ≡ course
    → after ≡ state_at course (length journal.entries.items - 1) → kept.entries.items ≡ take (length journal.entries.items - 1) journal.entries.items
    → length kept.row.items ≡ length journal.row.items → length kept.pins.items ≡ length journal.pins.items
    → CameTo course now after kept (length journal.entries.items - 1)
live_less {course = course} {after = after} {journal = journal} {kept = kept} a same is_after popped row room =
    let long = length-take (length journal.entries.items - 1) journal.entries.items in
    let fewer : length kept.entries.items ≡ length journal.entries.items - 1 = omega (arith, ap length popped, long) in
    record {
      same = same;
      live = subst (λ x. IsLive x after kept) (sym same) (record {
        schedule = a.schedule;
        now = is_after ∙ ap (state_at course) (sym fewer);
        limit = omega (arith, a.limit);
        entries = subst (λ es. (k : ℕ) (d : Entry) → k < length es → LeadsOver course k (get_or es k d)) (sym popped)
            (kept_less course journal.entries.items (length journal.entries.items - 1) (omega arith) a.entries);
        row = row ∙ a.row;
        room = room ∙ a.room;
      });
      stands = fewer;
    }

-- what `retreat` asks for, after as many edges as there are entries
pub may_retreat : {course : Course} {present : State} {journal : Journal} (given : List ℕ) (entry : Entry) → IsLive course present journal → 0 < length journal.entries.items
    → entry ≡ get_or journal.entries.items (length journal.entries.items - 1) entry → given ≡ restored entry.changes.items present.items
    → TakesBack course.machine present given entry.touches.items (entries_to course (length journal.entries.items - 1))
    (pins_at (length course.machine.pins) course.lines (suc (length journal.entries.items - 1)))
may_retreat {course = course} {present = present} {journal = journal} given entry a some is given_is =
    let last : length journal.entries.items ≡ suc (length journal.entries.items - 1) = omega arith in
    takes_back course present given (length journal.entries.items - 1) entry a.schedule (a.now ∙ ap (state_at course) last)
    (subst (LeadsOver course (length journal.entries.items - 1)) (sym is) (a.entries (length journal.entries.items - 1) entry (omega arith))) given_is

-- the last entry, and those before it
pub last_is : (items xs : List Entry) (e : Entry) → items ≡ xs ++ e ∷ [] → e ≡ get_or items (length items - 1) e
last_is items xs e is =
    let long : length xs ≡ length items - 1 = omega (arith, ap length is, length-append xs (e ∷ [])) in
    sym (ap (λ l. get_or l (length items - 1) e) is ∙ get_or_push xs e e (length items - 1) long)

pub rest_is : (items xs : List Entry) (e : Entry) → items ≡ xs ++ e ∷ [] → xs ≡ take (length items - 1) items
rest_is items xs e is =
    let long : length xs ≡ length items - 1 = omega (arith, ap length is, length-append xs (e ∷ [])) in
    sym (ap (take (length items - 1)) is ∙ take-append-le (length items - 1) xs (e ∷ []) (omega arith) ∙ take_all (length items - 1) xs (omega arith))
