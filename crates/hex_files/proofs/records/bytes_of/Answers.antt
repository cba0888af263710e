use Rattle.std.proofs.Common.{List, ℕ, get_or, drop, sym, ap, ◌∙◌}
use Rattle.std.proofs.lemmas.Bool.{eqb-true}
use Rattle.std.proofs.lemmas.List.{take_rest}
use Rattle.hex_files.specs.HexReading.{bytes_of}
use Rattle.hex_files.proofs.WordLoops.{is_some}
use Rattle.hex_files.proofs.RecordLoops.{ahead, begins, two_first, pair_read, no_pair, all_pairs, one_left}
use Rattle.hex_files.proofs.records.bytes_of.Goals as goal

pub pairs-init : goal.pairs-init
pairs-init c = begins c.new-bytes.result.items (bytes_of c.args.digits.now) c.new-bytes.ensures.items

pub returns-in_default-byte_of : goal.returns-in_default-byte_of
returns-in_default-byte_of c =
    sym (no_pair c.pairs.bytes.items c.pairs.left.now _ c.pairs.invariant (get_or c.pairs.left.now 0 0) (get_or c.pairs.left.now 1 0) (drop 2 c.pairs.left.now) (two_first c.pairs.left.now c.in-len2-up.len_at_least) (sym c.in_default-byte_of.ensures))

pub pairs-preserved : goal.pairs-preserved
pairs-preserved c =
    ap (λ (l : List ℕ). ahead c.push.new.self.items (bytes_of l)) (take_rest c.pairs.left.now 2) ∙ ap (λ (f : List ℕ). ahead f (bytes_of (drop 2 c.pairs.left.now))) c.in_ok-push.ensures.items
    ∙ pair_read c.pairs.bytes.items c.pairs.left.now _ c.pairs.invariant (get_or c.pairs.left.now 0 0) (get_or c.pairs.left.now 1 0) c.in-Some.byte (drop 2 c.pairs.left.now) (two_first c.pairs.left.now c.in-len2-up.len_at_least) (sym c.in-Some.ensures)

pub returns-then-is_empty : goal.returns-then-is_empty
returns-then-is_empty c = sym (all_pairs c.pairs.bytes.items c.pairs.left.now _ c.pairs.invariant (eqb-true _ _ (sym c.is_empty.ensures ∙ c.if-is_empty.true)))

pub returns-else-is_empty : goal.returns-else-is_empty
returns-else-is_empty c = sym (one_left c.pairs.bytes.items c.pairs.left.now _ c.pairs.invariant c.in_default.len_below (is_some c.pairs.left.now (sym c.is_empty.ensures ∙ c.if-is_empty.false)))
