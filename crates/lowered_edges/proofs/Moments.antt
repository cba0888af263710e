-- What is held at moments, and that it is left as it was.
use Rattle.std.proofs.Common.{◌≡◌, ◌≢◌, ◌<◌, ◌≤◌, ◌+◌, ◌*◌, ◌∙◌, ◌⊎◌, ◌^◌, ◌||◌, ap₂, ℕ, zero, suc, Bool, List, [], ◌∷◌, length, get_or, nat_eq, refl, ap, subst, arith, inl, inr, ⊎_elim}
use Rattle.std.specs.List.{list_any}
use Rattle.std.proofs.lemmas.Bool.{cases_lt, cases_order}
use Rattle.std.proofs.lemmas.List.{length-map}
use Rattle.std.proofs.Math.Nat.{mul-le-mul_right}
use Rattle.lisa_tree.specs.Descriptions.{DescriptionTree}
use Rattle.lisa_engine.specs.State.{State}
use Rattle.lisa_tree.specs.Resources.{stages}
use Rattle.graph_paths.specs.Paths.{is_in}
use Rattle.lisa_engine.specs.Shape.{IsFitting}
use Rattle.machine_parts.specs.Parts.{pins_of, registers_of}
use Rattle.item_layouts.specs.declared.place.ItemPlace.TheVariants.{Register, Word, Bit}
use Rattle.pipeline_time.specs.Edges.{is_flushed}
use Rattle.step_program.specs.Programs.{Program}
use Rattle.step_program.specs.Effects as steps
use Rattle.activation_plans.specs.lisa_meaning.Cores.{core_of}
use Rattle.activation_plans.specs.lisa_meaning.Moments.{Contents, Moment, begin_moment}
use Rattle.lowered_time.specs.Building.{time_temps}
use Rattle.lowered_time.specs.Lowering.{bit, IsTimes, a_bit, a_word, IsUnseen, Agrees, HasRowWord, IsWordOf, Lasts, IsEntry}
use Rattle.lowered_layouts.specs.lowered_resources.Places.{Lasting, Written, Out, Stall, Flush, Has}
use Rattle.lowered_layouts.specs.lowered_words.Ways.{all_ways}
use Rattle.lowered_layouts.specs.lowered_words.Rows.{row_size}
use Rattle.lowered_layouts.proofs.lowered_words_proofs.Telling.{row_lasts}
use Rattle.lowered_layouts.specs.Temps.{temp, rows_at, row_base, row_count, lasting_widths}
use Rattle.lowered_layouts.specs.Items.{time_layout}
use Rattle.lowered_layouts.proofs.Blocks.{in_block}
use Rattle.lowered_layouts.proofs.Items.{one_place, register_at}
use Rattle.lowered_layouts.proofs.Starting.{edge_begins}
use Rattle.lowered_layouts.proofs.Temps.{lasting_long, temp_first, temp_low}
use Rattle.lowered_edges.specs.Meaning.{IsMoment, HasWordIn, HasLasting, meant}

module _ (d : DescriptionTree) (width : ℕ) (p : Program) where
  -- ---- cases

  pub agrees : (before pins : List ℕ) (m : Moment) (now : steps.Moment) → IsMoment d width p before pins m now → Agrees (meant d width p) before pins m now
  agrees before pins m now h = ((((before, pins), (m, now)), h), refl)

  pub agreed : (before pins : List ℕ) (m : Moment) (now : steps.Moment) → Agrees (meant d width p) before pins m now → IsMoment d width p before pins m now
  agreed before pins m now a = subst (λ (at : (List ℕ × List ℕ) × (Moment × steps.Moment)). IsMoment d width p at.0.0 at.0.1 at.1.0 at.1.1) a.1 a.0.1

  pub has_row : (row word : ℕ) (now : steps.Moment) → HasWordIn d width p row word now → HasRowWord (meant d width p) row word now
  has_row row word now h = ((((row, word), now), h), refl)

  pub row_had : (row word : ℕ) (now : steps.Moment) → HasRowWord (meant d width p) row word now → HasWordIn d width p row word now
  row_had row word now a = subst (λ (at : (ℕ × ℕ) × steps.Moment). HasWordIn d width p at.0.0 at.0.1 at.1) a.1 a.0.1

  pub is_word : (word : ℕ) → word < 2 ^ width → IsWordOf (meant d width p) word
  is_word word low = ((word, low), refl)

  pub word_low : (word : ℕ) → IsWordOf (meant d width p) word → word < 2 ^ width
  word_low word a = subst (λ (w : ℕ). w < 2 ^ width) a.1 a.0.1

  pub lasting : (memory : Contents) (state : State) → HasLasting d width p memory state → Lasts (meant d width p) memory state
  lasting memory state h = (((memory, state), h), refl)

  pub lasted : (memory : Contents) (state : State) → Lasts (meant d width p) memory state → HasLasting d width p memory state
  lasted memory state a = subst (λ (at : Contents × State). HasLasting d width p at.0 at.1) a.1 a.0.1

  pub entered : (pins : List ℕ) → IsEntry (meant d width p) pins → IsFitting (pins_of d) pins
  entered pins a = subst (λ (ns : List ℕ). IsFitting (pins_of d) ns) a.1 a.0.1

  -- ---- what is left as it was

  -- what a description holds beside rows
  pub record LeavesThings (a b : steps.Moment) : Type 0 where
    pub items : (k : ℕ) → k < length (registers_of d) → get_or b.items k 0 ≡ get_or a.items k 0
    pub item_count : length b.items ≡ length a.items
    pub temps : (k : ℕ) → time_temps (core_of d) ≤ k → k < rows_at d → get_or b.temps k 0 ≡ get_or a.temps k 0
    pub temp_count : length b.temps ≡ length a.temps
    pub cells : b.cells ≡ a.cells

  pub moment_left : (before pins : List ℕ) (m : Moment) (a b : steps.Moment) → LeavesThings a b → IsMoment d width p before pins m a → IsMoment d width p before pins m b
  moment_left before pins m a b left is =
      let h = is.holds in
      record {
        holds = record {
          item_count = left.item_count ∙ h.item_count;
          past = h.past;
          present = record {
            registers = λ k low. left.items k low ∙ h.present.registers k low;
            cells = left.cells ∙ h.present.cells;
            marks = λ s f has. still (Written s f) has ∙ h.present.marks s f has;
            outs = λ s f bits has got. still (Out s f) has ∙ h.present.outs s f bits has got;
            stalled = λ level has. still (Stall level) has ∙ h.present.stalled level has;
            flushed = λ level has. still (Flush level) has ∙ h.present.flushed level has;
          };
          fits = h.fits;
        };
        has = left.temp_count ∙ is.has;
        bare = is.bare;
        stalls = is.stalls;
      }
    where
      still : (x : Lasting) → Has d x → get_or b.temps (temp d x) 0 ≡ get_or a.temps (temp d x) 0
      still x has = left.temps (temp d x) (temp_first d x has) (temp_low d x has)

  -- ---- rows

  -- a row stands behind what else lasts, and before what doesn't
  pub row_last : (row : ℕ) → row < row_count d → row_base d row + row_size d ≤ length (lasting_widths d width)
  row_last row low =
      let long = lasting_long d width in
      let inside = in_block row (row_count d) (row_size d) (suc (length (all_ways d))) low (omega arith) in
      omega (arith, long, inside)

  pub row_first : (row : ℕ) → time_temps (core_of d) ≤ row_base d row
  row_first row = omega arith

  pub row_left : (row word : ℕ) (a b : steps.Moment) → ((k : ℕ) → rows_at d ≤ k → k < length (lasting_widths d width) → get_or b.temps k 0 ≡ get_or a.temps k 0) → HasWordIn d width p row word a → HasWordIn d width p row word b
  row_left row word a b same is = record {
    there = is.there;
    held = row_lasts d (row_base d row) word a b (λ k low high. let last = row_last row is.there in same k (omega (arith, low)) (omega (arith, high, last))) is.held;
    fits = is.fits;
  }

  rows_before : (row other : ℕ) → row < other → row_base d row + row_size d ≤ row_base d other
  rows_before row other low =
      let most : suc row * row_size d ≤ other * row_size d = mul-le-mul_right (row_size d) (let h : suc row ≤ other = omega (arith, low) in h) in
      let next : suc row * row_size d ≡ row_size d + row * row_size d = grind arith in
      omega (arith, most, next)

  pub rows_apart : (row other : ℕ) → other ≢ row → (row_base d other + row_size d ≤ row_base d row) ⊎ (row_base d row + row_size d ≤ row_base d other)
  rows_apart row other differs = ⊎_elim
      (λ same. absurd (differs same))
      (λ apart. ⊎_elim (λ low. inl (rows_before other row low)) (λ high. inr (rows_before row other high)) apart)
      (cases_order other row)

  -- ---- what time changes

  -- registers are no bits and no words
  not_times : (k : ℕ) → k < length (registers_of d) → IsTimes (time_layout d width) k → ⊥
  not_times k low (a_bit zero number at) = absurd (cc at)
  not_times k low (a_bit (suc s) number at) = let same : Register k ≡ Bit s number = one_place d (Register k) (Bit s number) k (register_at d k low) at in absurd (cc same)
  not_times k low (a_word zero at) = absurd (cc at)
  not_times k low (a_word (suc s) at) = let same : Register k ≡ Word s = one_place d (Register k) (Word s) k (register_at d k low) at in absurd (cc same)

  pub behind_registers : (k : ℕ) → IsTimes (time_layout d width) k → length (registers_of d) ≤ k
  behind_registers k is = ⊎_elim (λ low. absurd (not_times k low is)) (λ least. least) (cases_lt k (length (registers_of d)))

  unseen_left : (now after : steps.Moment) → IsUnseen (core_of d) (time_layout d width) now after → LeavesThings now after
  unseen_left now after u = record {
    items = λ k low. u.items k (λ is. not_times k low is);
    item_count = u.item_count;
    temps = λ k first low. let long = lasting_long d width in u.temps k first (omega (arith, low, long));
    temp_count = u.temp_count;
    cells = u.cells;
  }

  pub unseen : (before pins : List ℕ) (m : Moment) (now after : steps.Moment) → IsUnseen (core_of d) (time_layout d width) now after
      → Agrees (meant d width p) before pins m now → Agrees (meant d width p) before pins m after
  unseen before pins m now after u a = agrees before pins m after (moment_left before pins m now after (unseen_left now after u) (agreed before pins m now a))

  pub row_unseen : (row word : ℕ) (now after : steps.Moment) → IsUnseen (core_of d) (time_layout d width) now after
      → HasRowWord (meant d width p) row word now → HasRowWord (meant d width p) row word after
  row_unseen row word now after u a = has_row row word after (row_left row word now after (λ k low high. u.temps k (omega (arith, low)) high) (row_had row word now a))

  -- ---- an edge begins

  pub begins : (memory : Contents) (old : State) (pins : List ℕ) → IsEntry (meant d width p) pins → Lasts (meant d width p) memory old
      → Agrees (meant d width p) old.items pins (begin_moment d pins memory) (steps.begun p old)
  begins memory old pins entry lasts =
      let h = lasted memory old lasts in
      agrees old.items pins (begin_moment d pins memory) (steps.begun p old) (record {
        holds = edge_begins d p pins memory old h.contents h.item_count h.fit (entered pins entry);
        has = length-map p.temps (λ (w : ℕ). 0);
        bare = refl;
        stalls = tt;
      })

  -- ---- stalls and flushes

  either_way : (level : ℕ) (all : List ℕ) → is_in level all ≡ list_any (λ (stall : ℕ). nat_eq stall level) all
  either_way level [] = refl
  either_way level (x ∷ xs) = ap₂ (λ (a b : Bool). a || b) (same level x) (either_way level xs)
    where
      same : (a b : ℕ) → nat_eq a b ≡ nat_eq b a
      same a b = grind arith

  pub stalled_is : (before pins : List ℕ) (m : Moment) (now : steps.Moment) (level : ℕ) → Agrees (meant d width p) before pins m now → 0 < level → level ≤ length (stages d)
      → get_or now.temps (temp d (Stall level)) 0 ≡ bit (list_any (λ (stall : ℕ). nat_eq stall level) m.stalled)
  stalled_is before pins m now level a least most =
      (agreed before pins m now a).holds.present.stalled level (least, most) ∙ ap bit (either_way level m.stalled)

  pub flushed_is : (before pins : List ℕ) (m : Moment) (now : steps.Moment) (level : ℕ) → Agrees (meant d width p) before pins m now → 0 < level → level ≤ length (stages d)
      → get_or now.temps (temp d (Flush level)) 0 ≡ bit (is_flushed m.flushed level)
  flushed_is before pins m now level a least most =
      (agreed before pins m now a).holds.present.flushed level (least, most) ∙ ap bit (either_way level m.flushed)
