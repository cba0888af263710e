use Rattle.std.proofs.Common.{◌++◌, ◌∙◌, ℕ, List, map, ap}
use Rattle.std.specs.Global.{Vec}
use Rattle.instruction_texts.specs.Symbols.{text_sym}
use Rattle.form_texts.specs.Segments.{written_in}
use Rattle.form_texts.proofs.Segmented.{short_on, long_on}
use Rattle.form_texts.proofs.Stringed.{on_one}
use Rattle.form_texts.proofs.segments.end_text.Goals as goal

pub returns-then-len-lt-LONG-clause-goes_on : goal.returns-then-len-lt-LONG-clause-goes_on
returns-then-len-lt-LONG-clause-goes_on c =
    let old = c.args.growing.now in
    on_one c.add_bytes.result c.add_bytes.ensures (λ grown.
    short_on c.args.table.now.strings.items old.segments.items c.add_bytes.new.segments.items old.text.items c.replace-text.new.dest.items (ap (λ (v : Vec ℕ). v.items) c.replace-text.ensures.after ∙ c.new.ensures.items)
    (λ all fields parts. grown all fields parts
    ∙ ap (λ (t : List ℕ). written_in all old.segments.items fields parts ++ map text_sym t) (c.deref-then-len-lt-LONG.ensures.value ∙ ap (λ (v : Vec ℕ). v.items) c.replace-text.ensures.value)))

pub returns-clause-goes_on : goal.returns-clause-goes_on
returns-clause-goes_on c =
    let table = c.args.table.now.strings in
    let old = c.args.growing.now in
    let kept = c.in_ok-keep.ensures.kept in
    long_on table.items c.keep.new.table.strings.items kept.0 c.len-number.result old.segments.items c.push.new.self.items old.text.items c.replace-text.new.dest.items kept.1
    (kept.2 ∙ ap (λ (v : Vec ℕ). v.items) c.replace-text.ensures.value) (c.len-number.ensures ∙ table.ok.0) (ap (λ (v : Vec ℕ). v.items) c.replace-text.ensures.after ∙ c.new.ensures.items) c.in_ok-push.ensures.items
