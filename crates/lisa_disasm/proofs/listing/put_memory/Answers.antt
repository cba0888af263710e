use Rattle.std.proofs.Common.{◌∙◌, ◌++◌, ℕ, Bool, List, ap, sym, subst}
use Rattle.std.specs.Prelude.{codes}
use Rattle.std.specs.List.{flat_map}
use Rattle.lisa_io.proofs.Known.{puts_stop}
use Rattle.lisa_engine.specs.Memory.{Memory}
use Rattle.lisa_engine.proofs.TraceTexts.{unless_failed, unless_ok, unless_then, unless_over}
use Rattle.lisa_disasm.specs.Listings.{IsCellLine}
use Rattle.lisa_disasm.proofs.Putting.{ended, memory_text}
use Rattle.lisa_disasm.proofs.listing.put_memory.Goals as goal

pub returns-in_err-put_section : goal.returns-in_err-put_section
returns-in_err-put_section g c = λ d line is syntax each.
    let m = c.args.memory.now in
    let rest = flat_map (λ (w : ℕ). ended (line m.width w)) m.cells in
    unless_over
    (ap (λ (n : List ℕ). ended (codes ".section " ++ n) ++ rest) (c.as_bytes.ensures ∙ ap (λ (k : Memory). k.name) c.memory.view_is) ∙ memory_text line m)
    (unless_failed _ _ c.from_residual.ensures.1 (puts_stop rest c.in_err-put_section.ensures))

pub returns : goal.returns
returns g c = λ d line is syntax each.
    unless_over
    (ap (λ (n : List ℕ). ended (codes ".section " ++ n) ++ flat_map (λ (w : ℕ). ended (line c.memory.inside.width w)) c.deref.result.now) c.as_bytes.ensures
    ∙ ap (λ (ws : List ℕ). ended (codes ".section " ++ c.memory.inside.name) ++ flat_map (λ (w : ℕ). ended (line c.memory.inside.width w)) ws) c.deref.ensures.value
    ∙ ap (λ (k : Memory). ended (codes ".section " ++ k.name) ++ flat_map (λ (w : ℕ). ended (line k.width w)) k.cells) c.memory.view_is
    ∙ memory_text line c.args.memory.now)
    (unless_then {T = Unit {0}} {u = tt} (unless_ok c.in_ok-put_section.ensures)
    (c.put_cells.ensures d (line c.memory.inside.width) is syntax
    (λ w. subst (λ (b : Bool). IsCellLine d b w (line c.memory.inside.width w)) (sym c.is_code.ensures) (each c.memory.inside.width w))))
