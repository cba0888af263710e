-- A machine on a board, one edge after the other.
use Rattle.std.proofs.Common.{◌≡◌, ℕ, zero, suc, ◌+◌, ◌<◌, ◌≤◌, List, [], ◌∷◌, ◌++◌, map, refl, sym, ap, ◌∙◌, subst, arith}
use Rattle.std.specs.Prelude.{All, Option}
use Rattle.std.proofs.lemmas.List.Elements.{All-push}
use Rattle.lisa_engine.specs.State.{State}
use Rattle.lisa_engine.specs.Shape.{IsFitting, IsWidth, AreEntries}
use Rattle.lisa_engine.specs.Machines.{Machine}
use Rattle.lisa_board.specs.declared.parts.Timer.{Timer}
use Rattle.lisa_board.specs.declared.parts.Console.{Console}
use Rattle.lisa_board.specs.declared.timers.Counter.{Counter}
use Rattle.lisa_board.specs.Boards.{Devices, IsBoardFor}
use Rattle.lisa_board.specs.Feeding.{counter_after, offers, feed, printed_by}
use Rattle.lisa_board.specs.Runs.{rows_of, fed_entries, output}
use Rattle.lisa_board.specs.Kept.{Seen, seen_by, offered_by}
use Rattle.lisa_board.proofs.Feeds.{feed_fits}
use Rattle.lisa_board.proofs.RowLists.{earlier_of, rows_are, earlier_more}
use Rattle.lisa_board.proofs.Seeing.{offered_is, prints_nothing}

-- one more entry
pub entries_more : (m : Machine) (board : Devices) (input : List ℕ) (n : ℕ)
    → fed_entries m board input (n + 1) ≡ fed_entries m board input n ++ feed board input (rows_of m (fed_entries m board input n)) ∷ []
entries_more m board input n =
    let e : n + 1 ≡ suc n = omega arith in
    subst (λ k. fed_entries m board input k ≡ fed_entries m board input n ++ feed board input (rows_of m (fed_entries m board input n)) ∷ []) (sym e) refl

-- the entries fit the pins
pub entries_fit : (m : Machine) (board : Devices) (input : List ℕ) (n : ℕ) → All (λ pin. IsWidth pin.width) m.pins → IsBoardFor m.items m.pins board → All (λ b. b < 256) input
    → AreEntries m.pins (fed_entries m board input n)
entries_fit m board input zero widths for bytes = λ k d within. absurd (omega arith)
entries_fit m board input (suc n) widths for bytes =
    All-push (IsFitting m.pins) (fed_entries m board input n) (feed board input (rows_of m (fed_entries m board input n)))
    (entries_fit m board input n widths for bytes)
    (feed_fits m.items m.pins widths board input (rows_of m (fed_entries m board input n)) for bytes)

-- an engine `now` that came from the engine `first` by the edges 1 to n, and what is kept of them
pub record Stands {D : Type 0} (present : D → State) (machine : D → Machine) (first now : D) (board : Devices) (input : List ℕ) (n : ℕ)
    (counters : List Counter) (port : Seen) (bytes : List ℕ) : Type 0 where
  pub led : present now ≡ (machine first).defined (fed_entries (machine first) board input n)
  pub kept : machine now ≡ machine first
  pub looked : counters ≡ map (λ t. counter_after t (earlier_of (machine first) (fed_entries (machine first) board input n))) board.timers
  pub seen : port ≡ seen_by board.console input (earlier_of (machine first) (fed_entries (machine first) board input n))
      ((machine first).defined (fed_entries (machine first) board input n)).items
  pub shown : bytes ≡ output (machine first) board input n

pub stands_first : {D : Type 0} (present : D → State) (machine : D → Machine) (first : D) (board : Devices) (input : List ℕ) (counters : List Counter) (port : Seen) (bytes : List ℕ)
    → present first ≡ (machine first).defined [] → counters ≡ map (λ t. counter_after t []) board.timers
    → port ≡ seen_by board.console input [] (present first).items → bytes ≡ []
    → Stands present machine first first board input 0 counters port bytes
stands_first present machine first board input counters port bytes at looked seen none = record {
  led = at;
  kept = refl;
  looked = looked;
  seen = seen ∙ ap (λ s. seen_by board.console input [] s.items) at;
  shown = none ∙ prints_nothing board.console ((machine first).defined []).items;
}

module _ {D : Type 0} (present : D → State) (machine : D → Machine) (first now : D) (board : Devices) (input : List ℕ) (n : ℕ) (counters : List Counter) (port : Seen) (bytes : List ℕ)
    (st : Stands present machine first now board input n counters port bytes) where
  abbrev entries : List (List ℕ)
  entries = fed_entries (machine first) board input n

  abbrev earlier : List (List ℕ)
  earlier = earlier_of (machine first) entries

  abbrev row : List ℕ
  row = ((machine first).defined entries).items

  rows_now : earlier ++ (present now).items ∷ [] ≡ rows_of (machine first) entries
  rows_now = ap (λ s. earlier ++ s.items ∷ []) st.led ∙ sym (rows_are (machine first) entries)

  -- the timers have looked at the row before the edge
  pub looked_more : (timers : List Timer) (next : List Counter) → timers ≡ board.timers → ((rows : List (List ℕ)) → counters ≡ map (λ t. counter_after t rows) timers
      → next ≡ map (λ t. counter_after t (rows ++ (present now).items ∷ [])) timers)
      → next ≡ map (λ t. counter_after t (rows_of (machine first) entries)) board.timers
  looked_more timers next same looks =
      looks earlier (st.looked ∙ ap (map (λ t. counter_after t earlier)) (sym same))
      ∙ ap (map (λ t. counter_after t (earlier ++ (present now).items ∷ []))) same
      ∙ ap (λ rows. map (λ t. counter_after t rows) board.timers) rows_now

  -- and the pins are fed
  pub fed : (timers : List Timer) (next : List Counter) (rest pins : List ℕ) → timers ≡ board.timers → rest ≡ port.rest
      → ((rows : List (List ℕ)) → counters ≡ map (λ t. counter_after t rows) timers
      → next ≡ map (λ t. counter_after t (rows ++ (present now).items ∷ [])) timers)
      → ((i : List ℕ) (rows : List (List ℕ)) → next ≡ map (λ t. counter_after t rows) board.timers → offered_by board.console rest ≡ offers board.console i rows
      → pins ≡ feed board i rows)
      → pins ≡ feed board input (rows_of (machine first) entries)
  fed timers next rest pins same left looks feeds =
      feeds input (rows_of (machine first) entries) (looked_more timers next same looks)
      (ap (offered_by board.console) (left ∙ ap (λ p. p.rest) st.seen) ∙ offered_is board.console input earlier row (rows_of (machine first) entries) (rows_are (machine first) entries))

  -- the console has seen and printed one more row
  pub saw : (console : Option Console) (after : Seen) (items : List ℕ) → console ≡ board.console
      → ((i : List ℕ) (e : List (List ℕ)) (r : List ℕ) → port ≡ seen_by console i e r → after ≡ seen_by console i (e ++ r ∷ []) items)
      → after ≡ seen_by board.console input (earlier ++ row ∷ []) items
  saw console after items same sees =
      sees input earlier row (st.seen ∙ ap (λ c. seen_by c input earlier row) (sym same))
      ∙ ap (λ c. seen_by c input (earlier ++ row ∷ []) items) same

  pub showed : (console : Option Console) (shown items : List ℕ) → console ≡ board.console
      → ((i : List ℕ) (e : List (List ℕ)) (r : List ℕ) → port ≡ seen_by console i e r → bytes ≡ printed_by console (e ++ r ∷ []) → shown ≡ printed_by console ((e ++ r ∷ []) ++ items ∷ []))
      → shown ≡ printed_by board.console ((earlier ++ row ∷ []) ++ items ∷ [])
  showed console shown items same shows =
      shows input earlier row (st.seen ∙ ap (λ c. seen_by c input earlier row) (sym same))
      (st.shown ∙ ap (printed_by board.console) (rows_are (machine first) entries) ∙ ap (λ c. printed_by c (earlier ++ row ∷ [])) (sym same))
      ∙ ap (λ c. printed_by c ((earlier ++ row ∷ []) ++ items ∷ [])) same

  pub fed_fit : (pins : List ℕ) → All (λ pin. IsWidth pin.width) (machine first).pins → IsBoardFor (machine first).items (machine first).pins board → All (λ b. b < 256) input
      → pins ≡ feed board input (rows_of (machine first) entries) → IsFitting (machine now).pins pins
  fed_fit pins widths for small is =
      subst (λ m. IsFitting m.pins pins) (sym st.kept)
      (subst (IsFitting (machine first).pins) (sym is) (feed_fits (machine first).items (machine first).pins widths board input (rows_of (machine first) entries) for small))

  -- after all edges
  pub stands_last : (count : ℕ) → n ≡ count → present now ≡ (machine first).defined (fed_entries (machine first) board input count)
  stands_last count all = st.led ∙ ap (λ k. (machine first).defined (fed_entries (machine first) board input k)) all

  pub shown_last : (count : ℕ) → n ≡ count → bytes ≡ output (machine first) board input count
  shown_last count all = st.shown ∙ ap (output (machine first) board input) all

  -- the state after one more edge
  module _ (next : D) (pins : List ℕ) (widths : All (λ pin. IsWidth pin.width) (machine first).pins) (for : IsBoardFor (machine first).items (machine first).pins board) (small : All (λ b. b < 256) input)
      (is : pins ≡ feed board input (rows_of (machine first) entries))
      (leads : (l : List (List ℕ)) → AreEntries (machine now).pins l → present now ≡ (machine now).defined l → present next ≡ (machine next).defined (l ++ pins ∷ []))
      (same : machine next ≡ machine now) where
    pub led_more : present next ≡ (machine first).defined (fed_entries (machine first) board input (n + 1))
    led_more =
        leads entries (subst (λ m. AreEntries m.pins entries) (sym st.kept) (entries_fit (machine first) board input n widths for small)) (st.led ∙ ap (λ m. m.defined entries) (sym st.kept))
        ∙ ap (λ m. m.defined (entries ++ pins ∷ [])) (same ∙ st.kept)
        ∙ ap (λ v. (machine first).defined (entries ++ v ∷ [])) is
        ∙ ap (machine first).defined (sym (entries_more (machine first) board input n))

    pub led_within : (count : ℕ) → n < count → (k : ℕ) × (k ≤ count) × (present next ≡ (machine first).defined (fed_entries (machine first) board input k))
    led_within count lt = (n + 1, omega (arith, lt), led_more)

  -- after one more edge
  pub stands_more : (next : D) (looked : List Counter) (pins : List ℕ) (after : Seen) (shown : List ℕ)
      → All (λ pin. IsWidth pin.width) (machine first).pins → IsBoardFor (machine first).items (machine first).pins board → All (λ b. b < 256) input
      → looked ≡ map (λ t. counter_after t (rows_of (machine first) entries)) board.timers
      → pins ≡ feed board input (rows_of (machine first) entries)
      → ((l : List (List ℕ)) → AreEntries (machine now).pins l → present now ≡ (machine now).defined l → present next ≡ (machine next).defined (l ++ pins ∷ []))
      → machine next ≡ machine now
      → after ≡ seen_by board.console input (earlier ++ row ∷ []) (present next).items
      → shown ≡ printed_by board.console ((earlier ++ row ∷ []) ++ (present next).items ∷ [])
      → Stands present machine first next board input (n + 1) looked after shown
  stands_more next looked pins after shown widths for small looks is leads same sees shows = record {
    led = led_next;
    kept = same ∙ st.kept;
    looked = looks ∙ ap (λ rows. map (λ t. counter_after t rows) board.timers) (sym earlier_next);
    seen = sees
        ∙ ap (λ rows. seen_by board.console input rows (present next).items) (sym (rows_are (machine first) entries) ∙ sym earlier_next)
        ∙ ap (λ s. seen_by board.console input (earlier_of (machine first) later) s.items) led_next;
    shown = shows
        ∙ ap (λ rows. printed_by board.console (rows ++ (present next).items ∷ [])) (sym (rows_are (machine first) entries) ∙ sym earlier_next)
        ∙ ap (λ s. printed_by board.console (earlier_of (machine first) later ++ s.items ∷ [])) led_next
        ∙ ap (printed_by board.console) (sym (rows_are (machine first) later));
  }
    where
      entry : List ℕ
      entry = feed board input (rows_of (machine first) entries)

      later : List (List ℕ)
      later = fed_entries (machine first) board input (n + 1)

      more : later ≡ entries ++ entry ∷ []
      more = entries_more (machine first) board input n

      earlier_next : earlier_of (machine first) later ≡ rows_of (machine first) entries
      earlier_next = ap (earlier_of (machine first)) more ∙ earlier_more (machine first) entries entry

      led_next : present next ≡ (machine first).defined later
      led_next = led_more next pins widths for small is leads same
