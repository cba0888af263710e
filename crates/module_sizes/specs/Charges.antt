-- What a program's steps are charged with where the numbers of its wires have 7 digits, by the length of its longest name.
use Rattle.std.specs.Prelude.{ℕ, List}
use Rattle.step_program.specs.Programs.{Program, Expr, Move}
use Rattle.netlist_rules.specs.Sizes as sizes
use Rattle.netlist_rules.specs.Sizes.{Room, room_for}

abbrev pub room : (most : ℕ) → Room
room most = room_for 7 most

abbrev pub name_most : (most : ℕ) → ℕ
name_most most = sizes.name_most (room most)

-- of the name of a wire, and of what a temp of a width holds
abbrev pub wire_most : ℕ
wire_most = sizes.wire_most (room 0)

abbrev pub held_most : (width : ℕ) → ℕ
held_most width = sizes.held_most (room 0) width

abbrev pub operand_most : Program → (most : ℕ) → Expr → ℕ
operand_most p most e = sizes.operand_most p (room most) e

abbrev pub settled_most : Program → (most : ℕ) → Expr → ℕ
settled_most p most e = sizes.settled_most p (room most) e

abbrev pub given_most : Program → (most old : ℕ) → (guard value : Expr) → ℕ
given_most p most old guard value = sizes.given_most p (room most) old guard value

abbrev pub pair_most : (most : ℕ) → ℕ
pair_most most = sizes.pair_most (room most)

abbrev pub expr_most : Program → (most : ℕ) → (arrays : List ℕ) → Expr → ℕ
expr_most p most arrays e = sizes.expr_most p (room most) arrays e

abbrev pub move_most : Program → (most : ℕ) → (arrays : List ℕ) → Move → ℕ
move_most p most arrays move = sizes.move_most p (room most) arrays move

abbrev pub moves_most : Program → (most : ℕ) → (arrays : List ℕ) → List Move → ℕ
moves_most p most arrays moves = sizes.moves_most p (room most) arrays moves
