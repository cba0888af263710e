-- The dump of a run over a description can be read again.
use Rattle.std.proofs.Common.{◌≡◌, ◌<◌, ◌≤◌, ℕ, true, false, List, [], ◌∷◌, length, Option, None, refl, sym, ap, subst, arith}
use Rattle.std.specs.Prelude.{All, ◌==◌}
use Rattle.std.specs.List.{list_all, AllByRecursion}
use Rattle.std.proofs.lemmas.List.Elements.{recursion_from_All}
use Rattle.std.proofs.lemmas.Bool.{ne_eqb}
use Rattle.lisa_tree.specs.Descriptions.{DescriptionTree}
use Rattle.lisa_engine.specs.State.{State}
use Rattle.lisa_engine.specs.Shape.{IsShaped}
use Rattle.lisa_engine.specs.Memory.{Memory}
use Rattle.lisa_engine.specs.Images.{IsImage, missing_memory}
use Rattle.lisa_engine.specs.PinValues.{pin_values}
use Rattle.lisa_engine.specs.Text.{trace_text}
use Rattle.lisa_engine.specs.declared.parts.Item.{Item}
use Rattle.step_program.specs.WellFormed.{IsGraphic}
use Rattle.item_promises.specs.lisa_machine.Verdicts.{IsAccepted}
use Rattle.item_promises.specs.machine_parts.Parts.{arrays_of, pins_of}
use Rattle.item_promises.specs.instruction_forms.Widths.{HasWidth}
use Rattle.item_promises.specs.description_sizes.Sizes.{items}
use Rattle.program_declarations.specs.Laws.{AreDeclared, ShownIsDeclared}
use Rattle.vcd_trace.specs.VcdText.{vcd_text}
use Rattle.vcd_trace.specs.VcdWords.{is_solid}
use Rattle.vcd_trace.specs.VcdFaults.{Spells}
use Rattle.vcd_trace.specs.Runs.{IsWordName, IsDumpable}
use Rattle.vcd_trace.specs.Traces.{dump_trace, run_dump}
use Rattle.lisa_outcomes.specs.Outcomes.{Finished, passed}
use Rattle.lisa_outcomes.specs.RunFiles.{RunBytes}
use Rattle.engine_commands.specs.Replays.{GivesReplay}
use Rattle.description_commands.specs.lisa_meaning.States.{state_of}
use Rattle.verilog_command.proofs.checked_descriptions_proofs.Listed.{sound_parts}
use Rattle.headline_laws.specs.Headline.{MeantUnder, meant_state}
use Rattle.headline_laws.proofs.Machines.{memories_kept}

-- ---- names are words

far : (b c : ℕ) → c < 33 → IsGraphic b → (b == c) ≡ false
far b c low is = let above = is.0 in ne_eqb b c (λ e. omega (arith, low, above, e))

graphic_solid : (b : ℕ) → IsGraphic b → is_solid b ≡ true
graphic_solid b is = rw (far b 32 (omega arith) is) (rw (far b 9 (omega arith) is) (rw (far b 10 (omega arith) is) (rw (far b 13 (omega arith) is) refl)))

all_solid : (name : List ℕ) → AllByRecursion IsGraphic name → list_all is_solid name ≡ true
all_solid [] h = refl
all_solid (b ∷ name) h = rw (graphic_solid b h.0) (all_solid name h.1)

-- ---- what is printed

module _ (declared : (d : DescriptionTree) (width : Option ℕ) → ShownIsDeclared d width)
    (shaped : (d : DescriptionTree) (width : Option ℕ) (image : List Memory) (entries : List (List ℕ)) → IsAccepted d → HasWidth d width → IsImage image → missing_memory (arrays_of d) image ≡ None
    → IsShaped (items d width) (arrays_of d) (state_of d image entries))
    (again : (items : List Item) (values : ℕ → List ℕ) (n : ℕ) → IsDumpable items values n → Spells (vcd_text items values n) (run_dump items values n))
    (kept : (items : List Item) (state : ℕ → State) (n : ℕ) → ((k : ℕ) → k ≤ n → length (state k).items ≡ length items) → dump_trace (run_dump items (λ k. (state k).items) n) ≡ trace_text items [] state n)
    (run : RunBytes) (m : MeantUnder run) (edges : ℕ) (short : edges ≤ 10000) where
  abbrev shown_items : List Item
  shown_items = items m.meant.tree m.meant.width

  abbrev values : ℕ → List ℕ
  values k = (meant_state m k).items

  all_declared : AreDeclared shown_items (arrays_of m.meant.tree) (pins_of m.meant.tree)
  all_declared =
      let parts = sound_parts m.meant.tree m.meant.checked.sound in
      declared m.meant.tree m.meant.width parts.0 (record { bytes = run.main; spells = m.meant.spelled }) parts.1.0 m.meant.checked.width

  image_kept : IsImage m.meant.memories
  image_kept = subst IsImage (sym m.meant.image.are) (memories_kept run.image m.meant.image.image m.meant.image.spelled)

  shape : (k : ℕ) → IsShaped shown_items (arrays_of m.meant.tree) (meant_state m k)
  shape k = shaped m.meant.tree m.meant.width m.meant.memories (pin_values (length (pins_of m.meant.tree)) m.lines k) (sound_parts m.meant.tree m.meant.checked.sound).0 m.meant.checked.width image_kept m.meant.found

  word_name : (name : List ℕ) → 0 < length name → All IsGraphic name → IsWordName name
  word_name name some graphic = record { some = some; solid = all_solid name (recursion_from_All IsGraphic name graphic) }

  dumpable : IsDumpable shown_items values edges
  dumpable = record {
    few = all_declared.few_items;
    short = short;
    widths = λ k d within. (all_declared.of_items k d within).1;
    names = λ k d within. let free = (all_declared.of_items k d within).0 in word_name _ free.some free.graphic;
    fitting = λ k low. (shape k).values;
  }

  replay : GivesReplay (vcd_text shown_items values edges) (Finished (trace_text shown_items [] (meant_state m) edges))
  replay = passed {a = run_dump shown_items values edges} (again shown_items values edges dumpable)
      (ap (λ (text : List ℕ). Finished text) (sym (kept shown_items (meant_state m) edges (λ k low. (shape k).values.count))))

  pub replayed : (shown : List ℕ) → shown ≡ vcd_text shown_items values edges → GivesReplay shown (Finished (trace_text shown_items [] (meant_state m) edges))
  replayed shown is = subst (λ (text : List ℕ). GivesReplay text (Finished (trace_text shown_items [] (meant_state m) edges))) (sym is) replay
