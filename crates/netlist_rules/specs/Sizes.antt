-- How long the text of a program's module is at most, in bytes. The program's names count only where they can stand: as leaves of an
-- expression, as targets, and in declarations. What an operator gives, and what a temp holds, is a wire or a number. Where an operator
-- gives a number, it takes no wire, whose frame is longer than a number: so what it gives counts as a wire.
-- The names of wires have as much room as their numbers take: 20 digits are enough for any program, and fewer for one with few wires.
use Rattle.std.specs.Prelude.{ℕ, ◌+◌, ◌*◌, ◌^◌, ◌≤◌, max, List, [], ◌∷◌, length, nat_eq, if◌then◌else◌}
use Rattle.step_program.specs.declared.expressions.OneOp.TheVariants.{Not, Cut, Widen}
use Rattle.step_program.specs.declared.expressions.TwoOp.{TwoOp}
use Rattle.step_program.specs.declared.expressions.TwoOp.TheVariants.{Shl, Shr, Equal}
use Rattle.step_program.specs.Programs.{Expr, Const, Now, Before, Pin, Temp, Cell, One, Two, Choose, Aim, ToItem, ToTemp, ToCell, Move, Program}
use Rattle.step_program.specs.Effects.{width}
use Rattle.netlist_wires.specs.Tables.{program_names}
use Rattle.netlist_wires.specs.Costs.{writes_to, arrays_after}

-- the length of the longest name, and at least that of a wire whose number has 20 digits
abbrev pub longest : List (List ℕ) → ℕ
longest [] = 25
longest (name ∷ names) = max (length name) (longest names)

-- the longest name of a program, and the longest of a wire
pub record Room : Type 0 where
  pub name : ℕ
  pub wire : ℕ

-- where the numbers of wires have so many digits, behind `wire.`
abbrev pub room_for : (digits : ℕ) → (longest : ℕ) → Room
room_for digits longest = record { name = longest; wire = 5 + digits }

-- ---- operands

-- a number with its size, and the name of a wire, each with the space behind it
abbrev pub number_most : ℕ
number_most = 25

abbrev pub wire_most : (room : Room) → ℕ
wire_most room = 2 + room.wire

abbrev pub name_most : (room : Room) → ℕ
name_most room = 2 + room.name

-- what a temp of a width holds: a wire, or a number, which is no longer than a wire where it has one bit
abbrev pub held_most : (room : Room) → (width : ℕ) → ℕ
held_most room width = if nat_eq width 1 then wire_most room else max number_most (wire_most room)

-- of an expression where it is an operand; one that is cut or extended to its own width stands for itself
abbrev pub operand_most : Program → (room : Room) → Expr → ℕ
operand_most p room (Const w v) = number_most
operand_most p room (Now item) = name_most room
operand_most p room (Before item) = name_most room
operand_most p room (Pin pin) = name_most room
operand_most p room (Temp temp) = held_most room (width p (Temp temp))
operand_most p room (Cell array index) = wire_most room
operand_most p room (One Not a) = wire_most room
operand_most p room (One (Cut narrow) a) = if nat_eq narrow (width p a) then operand_most p room a else wire_most room
operand_most p room (One (Widen wide) a) = if nat_eq wide (width p a) then operand_most p room a else wire_most room
operand_most p room (Two two a b) = wire_most room
operand_most p room (Choose test this other) = wire_most room

-- ---- wires

-- `wire [ 63 : 0 ] \wire.0 = ;` around what the wire carries
abbrev pub frame_most : (room : Room) → ℕ
frame_most room = 22 + room.wire

-- an operator's sign with the space behind it
abbrev pub sign_most : TwoOp → ℕ
sign_most Shl = 3
sign_most Shr = 3
sign_most Equal = 3
sign_most _ = 2

-- of the three wires for a read of a cell behind a write of its array
abbrev pub pair_most : (room : Room) → ℕ
pair_most room = 3 * frame_most room + 11 + 4 * wire_most room + 4 * name_most room

-- of the wires of an expression behind writes of these arrays
abbrev pub expr_most : Program → (room : Room) → (arrays : List ℕ) → Expr → ℕ
expr_most p room arrays (Cell array index) =
    expr_most p room arrays index + (frame_most room + 4 + name_most room + operand_most p room index + writes_to array arrays * pair_most room)
expr_most p room arrays (One one a) = expr_most p room arrays a + (frame_most room + 12 + operand_most p room a)
expr_most p room arrays (Two two a b) = expr_most p room arrays a + (expr_most p room arrays b + (frame_most room + sign_most two + operand_most p room a + operand_most p room b))
expr_most p room arrays (Choose test this other) =
    expr_most p room arrays test + (expr_most p room arrays this + (expr_most p room arrays other + (frame_most room + 4 + operand_most p room test + operand_most p room this + operand_most p room other)))
expr_most p room arrays _ = 0

-- ---- steps

-- of the wire that holds a value where the guard is a number: none but for a name
abbrev pub settled_most : Program → (room : Room) → Expr → ℕ
settled_most p room (Now item) = frame_most room + name_most room
settled_most p room (Before item) = frame_most room + name_most room
settled_most p room (Pin pin) = frame_most room + name_most room
settled_most p room (One (Cut narrow) a) = if nat_eq narrow (width p a) then settled_most p room a else 0
settled_most p room (One (Widen wide) a) = if nat_eq wide (width p a) then settled_most p room a else 0
settled_most p room _ = 0

-- of the wire that holds a value or what was there, of `old` bytes where it is an operand
abbrev pub given_most : Program → (room : Room) → (old : ℕ) → (guard value : Expr) → ℕ
given_most p room old (Const w v) value = settled_most p room value
given_most p room old guard value = frame_most room + 4 + operand_most p room guard + operand_most p room value + old

-- of what a target takes beside the wires of the guard and the value; a cell is written in the `always` block
abbrev pub aim_most : Program → (room : Room) → (arrays : List ℕ) → (guard value : Expr) → Aim → ℕ
aim_most p room arrays guard value (ToItem item) = given_most p room (name_most room) guard value
aim_most p room arrays guard value (ToTemp temp) = given_most p room (held_most room (width p (Temp temp))) guard value
aim_most p room arrays guard value (ToCell array index) =
    expr_most p room arrays index + (26 + name_most room + operand_most p room guard + operand_most p room index + operand_most p room value)

abbrev pub move_most : Program → (room : Room) → (arrays : List ℕ) → Move → ℕ
move_most p room arrays move =
    expr_most p room arrays move.guard + (expr_most p room arrays move.value + aim_most p room arrays move.guard move.value move.aim)

abbrev pub moves_most : Program → (room : Room) → (arrays : List ℕ) → List Move → ℕ
moves_most p room arrays [] = 0
moves_most p room arrays (move ∷ moves) = move_most p room arrays move + moves_most p room (arrays_after move.aim arrays) moves

-- ---- programs

-- of a program whose names have this room: an item is declared, has a first value and is assigned
abbrev pub program_most : (room : Room) → Program → ℕ
program_most room p = 111 + length p.items * (51 + 4 * name_most room) + length p.arrays * (33 + name_most room) + length p.pins * (19 + name_most room) + moves_most p room [] p.moves

abbrev pub module_most : (digits : ℕ) → Program → ℕ
module_most digits p = program_most (room_for digits (longest (program_names p))) p

-- so many digits are enough for the numbers of a program's wires, of which each takes its frame
pub record AreEnough (digits : ℕ) (p : Program) : Type 0 where
  pub some : 1 ≤ digits
  pub few : digits ≤ 20
  pub enough : module_most digits p ≤ frame_most (room_for digits (longest (program_names p))) * 10 ^ digits
