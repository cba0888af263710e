use Rattle.std.proofs.Common.{◌≡◌, ◌∙◌, ◌+◌, ap, sym, arith, List, ℕ, [], ◌∷◌, ◌++◌, map, drop}
use Rattle.std.specs.Global.{Vec}
use Rattle.std.proofs.lemmas.List.{drop_more, drop_all, map-append}
use Rattle.lisa_object.specs.Objects.{object_tree}
use Rattle.assembler_commands.specs.ObjectViews.{texts_of, trees_of}
use Rattle.assembler_commands.proofs.ObjectFiles.{none_read, one_more, all_read, next_unread}
use Rattle.assembler_commands.proofs.objects.objects_of.Goals as goal

pub returns-in-Err : goal.returns-in-Err
returns-in-Err c =
    let files = c.args.files.now in
    let left : drop c.loop-place.place files ≡ c.index-files-place.result ∷ drop (c.loop-place.place + 1) files =
    drop_more files c.loop-place.place c.index-files-place.result (omega arith) ∙ ap (λ (x : Vec ℕ). x ∷ drop (c.loop-place.place + 1) files) (sym c.index-files-place.is) in
    next_unread (texts_of files) _ _ _ _ c.in-Err.end (rw left at c.loop-place.invariant) (rw c.deref.ensures.value at c.in-Err.ensures)

pub loop-place-preserved : goal.loop-place-preserved
loop-place-preserved c =
    let files = c.args.files.now in
    let left : drop c.loop-place.place files ≡ c.index-files-place.result ∷ drop (c.loop-place.place + 1) files =
    drop_more files c.loop-place.place c.index-files-place.result (omega arith) ∙ ap (λ (x : Vec ℕ). x ∷ drop (c.loop-place.place + 1) files) (sym c.index-files-place.is) in
    let more : trees_of c.push.new.self.items ≡ trees_of c.loop-place.all.items ++ (object_tree c.in-Ok.object ∷ []) =
    ap trees_of c.in-Ok-push.ensures.items ∙ map-append object_tree c.loop-place.all.items (c.in-Ok.object ∷ []) in
    rw more (one_more (texts_of files) _ _ _ _ _ (rw c.deref.ensures.value at c.in-Ok.ensures).found (rw left at c.loop-place.invariant))

pub returns : goal.returns
returns c = all_read c.objects_are_unique.ensures (texts_of c.args.files.now) _ c.loop-place.all (rw (drop_all c.loop-place.place c.args.files.now (omega arith)) at c.loop-place.invariant)
