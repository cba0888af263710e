-- What the tables of names stand for.
use Rattle.std.specs.Prelude.{ℕ, ◌+◌, List, [], ◌∷◌, ◌++◌, length, map}
use Rattle.verilog_text.specs.Trees as trees
use Rattle.verilog_text.specs.Trees.{MemberTree}
use Rattle.verilog_text.specs.Conditions.{Sort, Clock, Input, Register, Store, Net, Declared, Use, Read, Select, Index, Assign, Start, Edge, member_declares, member_uses}
use Rattle.verilog_checks.specs.declared.parts.Kind.{Kind}
use Rattle.verilog_checks.specs.declared.parts.Kind.TheVariants as kinds
use Rattle.verilog_checks.specs.declared.parts.Declaration.{Declaration}
use Rattle.verilog_checks.specs.declared.parts.Way.{Way}
use Rattle.verilog_checks.specs.declared.parts.Way.TheVariants as ways
use Rattle.verilog_checks.specs.declared.parts.NameUse.{NameUse}
use Rattle.verilog_checks.specs.declared.parts.Event.{Event}
use Rattle.verilog_checks.specs.declared.parts.Event.TheVariants as events

abbrev pub sort_by : Kind → Sort
sort_by kinds.Clock = Clock
sort_by (kinds.Input width) = Input width
sort_by (kinds.Register width) = Register width
sort_by (kinds.Store width depth) = Store width depth
sort_by (kinds.Net width) = Net width

abbrev pub declared_by : Declaration → Declared
declared_by d = record { name = d.name.now; sort = sort_by d.kind }

abbrev pub used_by : List ℕ → Way → Use
used_by name ways.Read = Read name
used_by name (ways.Select high low) = Select name high low
used_by name ways.Index = Index name
used_by name ways.Assign = Assign name
used_by name ways.Start = Start name
used_by name ways.Edge = Edge name

-- with the number of declarations before it
abbrev pub counted_use : NameUse → ℕ × Use
counted_use u = (u.before, used_by u.name.now u.way)

-- uses behind so many declarations
abbrev pub behind : ℕ → List Use → List (ℕ × Use)
behind n us = map (λ u. (n, u)) us

-- all uses of members, each with the number of declarations before it
abbrev pub counted_uses : ℕ → List MemberTree → List (ℕ × Use)
counted_uses n [] = []
counted_uses n (member ∷ rest) = behind n (member_uses member) ++ counted_uses (n + length (member_declares member)) rest

-- a `reg` that is declared, or a name that is given a first value
pub data Told : Type 0 where
  Declares : List ℕ → Told
  Gives : List ℕ → Told

abbrev pub told : Event → Told
told (events.Declares name) = Declares name.now
told (events.Gives name) = Gives name.now

abbrev pub told_by : MemberTree → List Told
told_by (trees.Reg item) = Declares item.name ∷ []
told_by (trees.Initial all) = map (λ s. Gives s.name) all
told_by _ = []
