-- What a module must be so that it can be clocked with words of 64 bits. It follows from the rules on a module's names, lengths
-- and counts: no two declarations share a name, each has from 1 to 64 bits, no expression is longer than 64 bits, and there are at
-- most 8,192 registers, 1,024 arrays and 64 inputs.
use Rattle.std.specs.Prelude.{suc, ◌-◌, ◌*◌, ◌≤◌, ◌≢◌, length, All, AllPairs}
use Rattle.verilog_text.specs.Trees.{VTree, Number, Named, Bits, Cell, One, Two, Choose, Join, Repeat, VTrees, End, Then, ActionTrees, Done, Set, Put, If, MemberTree, Wire, Always, ModuleTree}
use Rattle.verilog_text.specs.Values.{Widths, v_width, parts_width}
use Rattle.verilog_text.specs.Clocked.{regs, arrays, scalars, widths_of}

abbrev mutual
  -- the expression and each expression in it is at most 64 bits long
  pub IsNarrow : Widths → VTree → Type 0
  IsNarrow widths (Number width value) = width ≤ 64
  IsNarrow widths (Named name) = widths.wide name ≤ 64
  IsNarrow widths (Bits name high low) = suc (high - low) ≤ 64
  IsNarrow widths (Cell name index) = (widths.cell name ≤ 64) × IsNarrow widths index
  IsNarrow widths (One one a) = (v_width widths (One one a) ≤ 64) × IsNarrow widths a
  IsNarrow widths (Two operator a b) = (v_width widths (Two operator a b) ≤ 64) × IsNarrow widths a × IsNarrow widths b
  IsNarrow widths (Choose test this other) = (v_width widths (Choose test this other) ≤ 64) × IsNarrow widths test × IsNarrow widths this × IsNarrow widths other
  IsNarrow widths (Join parts) = (parts_width widths parts ≤ 64) × AreNarrow widths parts
  IsNarrow widths (Repeat times a) = (times * v_width widths a ≤ 64) × IsNarrow widths a

  pub AreNarrow : Widths → VTrees → Type 0
  AreNarrow widths End = Unit {0}
  AreNarrow widths (Then e rest) = IsNarrow widths e × AreNarrow widths rest

-- so are the expressions of actions
abbrev pub AreNarrowActions : Widths → ActionTrees → Type 0
AreNarrowActions widths Done = Unit {0}
AreNarrowActions widths (Set name value rest) = IsNarrow widths value × AreNarrowActions widths rest
AreNarrowActions widths (Put name index value rest) = IsNarrow widths index × IsNarrow widths value × AreNarrowActions widths rest
AreNarrowActions widths (If test this other rest) = IsNarrow widths test × AreNarrowActions widths this × AreNarrowActions widths other × AreNarrowActions widths rest

abbrev pub IsNarrowMember : Widths → MemberTree → Type 0
IsNarrowMember widths (Wire item e) = IsNarrow widths e
IsNarrowMember widths (Always edge actions) = AreNarrowActions widths actions
IsNarrowMember widths _ = Unit {0}

pub record IsClockable (m : ModuleTree) : Type 0 where
  pub distinct_scalars : AllPairs (λ a b. a.name ≢ b.name) (scalars m)
  pub distinct_arrays : AllPairs (λ a b. a.name ≢ b.name) (arrays m.members)
  pub narrow_scalars : All (λ item. item.width ≤ 64) (scalars m)
  pub narrow_arrays : All (λ array. array.width ≤ 64) (arrays m.members)
  pub some_scalars : All (λ item. 1 ≤ item.width) (scalars m)
  pub some_arrays : All (λ array. 1 ≤ array.width) (arrays m.members)
  pub few_items : length (regs m.members) ≤ 8192
  pub few_arrays : length (arrays m.members) ≤ 1024
  pub few_pins : length m.inputs ≤ 64
  pub narrow : All (IsNarrowMember (widths_of m)) m.members
