-- Lines one behind the other, as a reader goes through them: what it keeps of those before, and which may follow.
use Rattle.std.specs.Prelude.{◌+◌, ◌-◌, ◌^◌, Bool, true, List, [], ◌∷◌, nat_le, nat_lt, ◌&&◌}
use Rattle.lisa_object.specs.declared.rules.Standing.{Standing}
use Rattle.lisa_object.specs.Objects.{PlainObjectLine, Section, Space, Label, Equ, Global, Cell, Fix}
use Rattle.lisa_object.specs.ObjectRules.{has_names, is_within, fits_kind, is_clear, is_sum}

-- `Standing` says how wide the section's cells are, 0 before any section, and of the cell that stands directly before, with fixes of it
-- between, its value and the bit below which a further fix must lie, 0 where there is no such cell.
abbrev pub start : Standing
start = record { width = 0; cell = 0; below = 0 }

abbrev pub may_follow : Standing → PlainObjectLine → Bool
may_follow st (Section n w) = nat_le 1 w && nat_le w 64
may_follow st (Space n) = nat_lt 0 st.width && nat_le n 1048576
may_follow st (Label n) = nat_lt 0 st.width
may_follow st (Equ n v) = is_within (2 ^ 64 - 1) v
may_follow st (Global n) = true
may_follow st (Cell v) = nat_lt 0 st.width && nat_lt v (2 ^ st.width)
may_follow st (Fix l w k s) = nat_le 1 w && nat_le (l + w) st.below && is_clear st.cell l w && fits_kind st.width k l w && is_sum s

abbrev pub after : Standing → PlainObjectLine → Standing
after st (Section n w) = record { width = w; cell = 0; below = 0 }
after st (Cell v) = record { width = st.width; cell = v; below = st.width }
after st (Fix l w k s) = record { width = st.width; cell = st.cell; below = l }
after st _ = record { width = st.width; cell = 0; below = 0 }

abbrev pub are_lines : Standing → List PlainObjectLine → Bool
are_lines st [] = true
are_lines st (l ∷ ls) = has_names l && may_follow st l && are_lines (after st l) ls
