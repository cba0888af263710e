-- What is written of a run is read again.
use Rattle.std.proofs.Common.{◌≡◌, ℕ, zero, suc, ◌+◌, ◌^◌, ◌<◌, ◌≤◌, Bool, true, false, cond, List, [], ◌∷◌, ◌++◌, length, map, get_or, None, refl, sym, ap, ◌∙◌, arith}
use Rattle.std.specs.Prelude.{All, ◌==◌}
use Rattle.std.specs.List.{flat_map, zip, enumerate_from}
use Rattle.std.proofs.Math.Pow.{pow_mono}
use Rattle.std.proofs.lemmas.Grind.{flat_map-append}
use Rattle.std.proofs.lemmas.List.{append-nil, get_or-map}
use Rattle.lisa_engine.specs.State.{State}
use Rattle.lisa_engine.specs.Shape.{IsFitting, IsWidth}
use Rattle.lisa_engine.specs.Text.{edge_line, value_text, item_line, item_lines, changed_line, changed_items, changes_text, trace_text}
use Rattle.lisa_engine.specs.declared.parts.Item.{Item}
use Rattle.vcd_trace.specs.VcdText.{vcd_text}
use Rattle.vcd_trace.specs.Written.{Variable}
use Rattle.vcd_trace.specs.Meaning.{item_of, blocks, if_changed, changes_between, changed, times_from}
use Rattle.vcd_trace.specs.VcdFaults.{fault_of, Spells}
use Rattle.vcd_trace.specs.Runs.{IsWordName, IsDumpable}
use Rattle.vcd_trace.specs.Traces.{name_at, change_line, time_text, dump_trace, edge_times, run_dump}
use Rattle.vcd_trace.proofs.Pieces.{piece_form}
use Rattle.vcd_trace.proofs.RunPieces.{AreGood, Fit, variables_from, run_events, run_piece}
use Rattle.vcd_trace.proofs.BareLaws.{blocks_bare, times_bare}
use Rattle.vcd_trace.proofs.RunMeaning.{items_are, run_times}
use Rattle.vcd_trace.proofs.RunFaults.{fault_none}

goods : (items : List Item) → All (λ item. IsWidth item.width) items → All (λ item. IsWordName item.name) items → AreGood items
goods [] widths names = tt
goods (item ∷ items) widths names =
    let width = widths 0 item (omega arith) in
    let name = names 0 item (omega arith) in (
      record { some = width.0; most = width.1; named = record { some = name.some; solid = name.solid } },
      goods items (λ k d within. widths (suc k) d (omega arith)) (λ k d within. names (suc k) d (omega arith)),
    )

fits : (items : List Item) (vs : List ℕ) → AreGood items → IsFitting items vs → Fit items vs
fits [] [] good fit = tt
fits [] (v ∷ vs) good fit = let e = fit.count in absurd (omega (arith, e))
fits (item ∷ items) [] good fit = let e = fit.count in absurd (omega (arith, e))
fits (item ∷ items) (v ∷ vs) good fit =
    let here : v < 2 ^ item.width = fit.within 0 item (omega arith) in
    let most : item.width ≤ 64 = good.0.most in
    let wide : 2 ^ item.width ≤ 2 ^ 64 = pow_mono most in
    (here, omega arith, fits items vs good.1 (record { count = (let e = fit.count in omega (arith, e)); within = λ k d within. fit.within (suc k) d (omega arith) }))

pub spells : (items : List Item) (values : ℕ → List ℕ) (n : ℕ) → IsDumpable items values n → Spells (vcd_text items values n) (run_dump items values n)
spells items values n is =
    let good = goods items is.widths is.names in
    let fit = λ (k : ℕ) (le : k ≤ n). fits items (values k) good (is.fitting k le) in
    let read = piece_form (vcd_text items values n) (variables_from 0 items) (run_events items values n) (run_piece items values n good fit (let s = is.short in omega arith)) in
    let form = read.0 in
    let times : times_from form.variables None [] (blocks form.events) ≡ changed 0 (enumerate_from 0 (values 0)) ∷ edge_times values n
    = ap (λ (vs : List Variable). times_from vs None [] (blocks form.events)) read.2
    ∙ sym (times_bare (variables_from 0 items) None [] (blocks form.events))
    ∙ ap (times_from (variables_from 0 items) None []) (sym (blocks_bare form.events) ∙ ap blocks read.3)
    ∙ run_times items values n fit in
    let declared : map item_of form.variables ≡ items = ap (map item_of) read.2 ∙ items_are 0 items in (
      form,
      read.1,
      ap (λ (vs : List Variable). fault_of vs form.events) read.2 ∙ fault_none items values n good fit is.few is.short form.events read.3,
      λ i. record { items = sym declared i; times = sym times i },
    )

-- ---- traces

Named : List Item → ℕ → List Item → Type 0
Named all k items = (i : ℕ) (d : Item) → i < length items → name_at all (k + i) ≡ (get_or items i d).name

named_all : (all : List Item) → Named all 0 all
unfolding Named
named_all all i d within =
    let e : 0 + i ≡ i = omega arith in
    ap (name_at all) e ∙ get_or-map (λ item. item.name) all i d [] within

named_on : (all : List Item) (k : ℕ) (item : Item) (items : List Item) → Named all k (item ∷ items) → Named all (k + 1) items
unfolding Named
named_on all k item items named i d within =
    let e : k + suc i ≡ k + 1 + i = omega arith in
    ap (name_at all) (sym e) ∙ named (suc i) d (omega arith)

named_here : (all : List Item) (k : ℕ) (item : Item) (items : List Item) → Named all k (item ∷ items) → name_at all k ≡ item.name
unfolding Named
named_here all k item items named =
    let e : k ≡ k + 0 = omega arith in
    ap (name_at all) e ∙ named 0 item (omega arith)

all_lines : (all : List Item) (k : ℕ) (items : List Item) (vs : List ℕ) → Named all k items → length vs ≡ length items → flat_map (change_line all) (enumerate_from k vs) ≡ flat_map item_line (zip items vs)
all_lines all k [] [] named long = refl
all_lines all k [] (v ∷ vs) named long = absurd (omega (arith, long))
all_lines all k (item ∷ items) [] named long = absurd (omega (arith, long))
all_lines all k (item ∷ items) (v ∷ vs) named long =
    λ i. (named_here all k item items named i ++ value_text v) ++ all_lines all (k + 1) items vs (named_on all k item items named) (omega (arith, long)) i

some_lines : (all : List Item) (k : ℕ) (items : List Item) (before now : List ℕ) → Named all k items → length before ≡ length items → length now ≡ length items
    → flat_map (change_line all) (flat_map if_changed (enumerate_from k (zip before now))) ≡ flat_map changed_line (zip items (zip before now))
some_lines all k [] [] [] named p q = refl
some_lines all k [] [] (n ∷ ns) named p q = absurd (omega (arith, q))
some_lines all k [] (b ∷ bs) now named p q = absurd (omega (arith, p))
some_lines all k (item ∷ items) [] now named p q = absurd (omega (arith, p))
some_lines all k (item ∷ items) (b ∷ bs) [] named p q = absurd (omega (arith, q))
some_lines all k (item ∷ items) (b ∷ bs) (n ∷ ns) named p q = go (b == n) (some_lines all (k + 1) items bs ns (named_on all k item items named) (omega (arith, p)) (omega (arith, q)))
  where
    go : (t : Bool) → flat_map (change_line all) (flat_map if_changed (enumerate_from (k + 1) (zip bs ns))) ≡ flat_map changed_line (zip items (zip bs ns))
        → flat_map (change_line all) (cond t [] ((k, n) ∷ []) ++ flat_map if_changed (enumerate_from (k + 1) (zip bs ns))) ≡ cond t [] (item_line (item, n)) ++ flat_map changed_line (zip items (zip bs ns))
    go true rest = rest
    go false rest = λ i. (named_here all k item items named i ++ value_text n) ++ rest i

module _ (items : List Item) (state : ℕ → State) where
  edges : (n : ℕ) → ((k : ℕ) → k ≤ n → length (state k).items ≡ length items) → flat_map (time_text items) (edge_times (λ k. (state k).items) n) ≡ changes_text items [] state n
  edges zero long = refl
  edges (suc n) long =
      flat_map-append (time_text items) (edge_times (λ k. (state k).items) n) (changed (suc n) (changes_between (state n).items (state (suc n)).items) ∷ [])
      ∙ ap (λ (t : List ℕ). flat_map (time_text items) (edge_times (λ k. (state k).items) n) ++ t) (append-nil (time_text items (changed (suc n) (changes_between (state n).items (state (suc n)).items))))
      ∙ (λ i. edges n (λ k le. long k (omega arith)) i
      ++ (edge_line (suc n) ++ some_lines items 0 items (state n).items (state (suc n)).items (named_all items) (long n (omega arith)) (long (suc n) (omega arith)) i))
      ∙ ap (λ (t : List ℕ). changes_text items [] state n ++ (edge_line (suc n) ++ t)) (sym (append-nil (changed_items items (state n).items (state (suc n)).items)))

  pub traces : (n : ℕ) → ((k : ℕ) → k ≤ n → length (state k).items ≡ length items) → dump_trace (run_dump items (λ k. (state k).items) n) ≡ trace_text items [] state n
  traces n long =
      (λ i. (edge_line 0 ++ all_lines items 0 items (state 0).items (named_all items) (long 0 (omega arith)) i) ++ edges n long i)
      ∙ ap (λ (t : List ℕ). (edge_line 0 ++ t) ++ changes_text items [] state n) (sym (append-nil (item_lines items (state 0).items)))
