use Rattle.std.proofs.Common.{◌≡◌, ◌∙◌, ◌+◌, ap, subst, sym, arith, List, ℕ, [], ◌∷◌, ◌++◌, map, length, length-append}
use Rattle.std.proofs.lemmas.List.{drop_more, drop_all, map-append, length-map}
use Rattle.lisa_outcomes.specs.FileViews.{named_of, all_bytes}
use Rattle.lisa_outcomes.proofs.ReadingFiles.{HasRead, none_read, one_more, all_read, next_unread, unkept, short_more}
use Rattle.lisa_outcomes.proofs.loading.load_files.Goals as goal

pub returns-in-Err-clause-loads : goal.returns-in-Err-clause-loads
returns-in-Err-clause-loads g c =
    next_unread all_bytes _ _ _ _ _ _ _ _ _ c.in-Err.end c.loop-place.invariant.1 (rw (drop_more c.args.named.now c.loop-place.place (record { name = record { ref_ptr = (0, 0); now = [] }; limit = 0 }) (omega arith)) at c.loop-place.invariant.0) c.in-Err.ensures.loads

pub loop-place-preserved : goal.loop-place-preserved
loop-place-preserved g c =
    let more : all_bytes c.push.new.self ≡ all_bytes c.loop-place.all ++ (c.in-Ok.bytes.items ∷ []) =
    ap (map (λ bytes. bytes.items)) c.in-Ok-push.ensures.items ∙ map-append (λ bytes. bytes.items) c.loop-place.all.items (c.in-Ok.bytes ∷ []) in (
      rw more (one_more _ _ _ _ _ _ _ _ _ _ c.loop-place.invariant.1 c.load.ensures.later c.in-Ok.ensures.loads.bytes (rw (drop_more c.args.named.now c.loop-place.place (record { name = record { ref_ptr = (0, 0); now = [] }; limit = 0 }) (omega arith)) at c.loop-place.invariant.0)),
      c.load.ensures.held ∙ c.loop-place.invariant.1,
      λ other. omega (arith, c.loop-place.invariant.2 other, c.load.ensures.later other),
      rw more (short_more (all_bytes c.loop-place.all) c.in-Ok.bytes.items c.loop-place.invariant.3 (omega (arith, c.in-Ok.ensures.loads.bytes.0))),
      ap length c.in-Ok-push.ensures.items ∙ length-append c.loop-place.all.items (c.in-Ok.bytes ∷ []) ∙ omega (arith, c.loop-place.invariant.4),
    )

pub returns-clause-count : goal.returns-clause-count
returns-clause-count g c = length-map c.loop-place.all.items (λ bytes. bytes.items) ∙ omega (arith, c.loop-place.invariant.4)

pub returns-clause-loads : goal.returns-clause-loads
returns-clause-loads g c = all_read all_bytes _ _ c.loop-place.all _ _ (rw (drop_all c.loop-place.place c.args.named.now (omega arith)) at c.loop-place.invariant.0)
