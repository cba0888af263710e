-- What the code's values stand for.
use Rattle.std.specs.Prelude.{ℕ, zero, suc, List, [], ◌∷◌, Option, None, Some, map}
use Rattle.std.specs.Borrow.{Bor}
use Rattle.std.specs.Option.{option_map}
use Rattle.std.specs.Map.{lookup}
use Rattle.lisa_tree.specs.Descriptions.{DescriptionTree}
use Rattle.lisa_tree.specs.Expressions as exprs
use Rattle.lisa_tree.specs.Expressions.{ExprTree}
use Rattle.lisa_tree.specs.Statements.{StmtTrees, End}
use Rattle.lisa_tree.specs.declared.declared.Meaning.{Meaning}
use Rattle.lisa_tree.specs.declared.declared.Meaning.TheVariants as meanings
use Rattle.lisa_tree.specs.Same.{same_name}
use Rattle.lisa_tree.specs.Meanings.{meaning}
use Rattle.lisa_tree.specs.Operations.{sections_at, behavior_in, expression_in}
use Rattle.scene_paths.specs.description_sizes.Texts.{levels}
use Rattle.description_types.specs.Types.{Types}
use Rattle.name_tables.specs.TableViews.{value_of}
use Rattle.step_program.specs.Programs.{Expr, ToTemp, Temp}
use Rattle.step_pieces.specs.Pieces.{Piece, nothing, behind, held}
use Rattle.lowered_time.specs.Pieces.{both}
use Rattle.lowered_values.specs.Computed.{Computed}
use Rattle.lowered_values.specs.Templates.{fitted}
use Rattle.lowered_values.specs.Code.{plain}
use Rattle.lowered_statements.specs.Scopes.{Local, Scope}
use Rattle.lowered_statements.specs.Scenes.{Scenes}
use Rattle.lowered_resources.specs.Places.{Places}
use Rattle.lowered_resources.specs.Putting.{Given, moving, move_to, stalls, flushes}
use Rattle.lowered_resources.specs.Reading.{Known}
use Rattle.lowered_words.specs.Ways.{Way}
use Rattle.lowered_words.specs.Code.{words_tree}
use Rattle.lowered_behaviors.specs.declared.positions.Position.{Position}
use Rattle.lowered_behaviors.specs.declared.ground.Ground as code
use Rattle.lowered_behaviors.specs.declared.known.KnownNames.{KnownNames}
use Rattle.lowered_behaviors.specs.Settled.{types_of}
use Rattle.lowered_behaviors.specs.Standpoints.{Standpoint, running, own_way}
use Rattle.lowered_behaviors.specs.Values.{Ground, Prepared, prepared, expressed, flag, name_here, operand_or, value_within}
use Rattle.lowered_behaviors.specs.Behaviors.{puts_within, reads_at, store_at}
use Rattle.lowered_behaviors.specs.Positions.{standpoint_of, home_in, alternatives_in}

-- ---- grounds

abbrev pub ground_with : DescriptionTree → Types → Places → (width : ℕ) → (row : Option ℕ) → Ground
ground_with d types places width row = record { description = d; types = types; places = places; width = width; row = row }

abbrev pub ground_of : {P : Type 0} → (P → Places) → code.Ground P → Ground
ground_of places g = ground_with (words_tree g.words.now) (types_of g.types.now) (places g.placing.now) g.width g.row

-- ---- names

abbrev pub texts_of : List (Bor (List ℕ)) → List (List ℕ)
texts_of names = map (λ n. n.now) names

abbrev pub known_names : KnownNames → Known
known_names k = record { named = λ n. operand_or (option_map plain (value_of k.sources n)); decoded = plain k.decoded }

abbrev pub entry_of : Meaning → Option ℕ
entry_of meanings.Nothing = None
entry_of (meanings.Resource k) = None
entry_of (meanings.Declared i) = Some i

abbrev pub entry_beside : Option Local → Meaning → Option ℕ
entry_beside (Some l) m = None
entry_beside None m = entry_of m

-- the number of a name that an operation declares, and no local's
abbrev pub entry_here : DescriptionTree → ℕ → Scope → List ℕ → Option ℕ
entry_here d o scope n = entry_beside (lookup (same_name n) scope) (meaning d o n)

-- what EXPRESSIONs of children leave, so many levels deep
abbrev pub expressed_within : ℕ → Ground → Standpoint → ℕ → Computed
expressed_within more g at from = expressed g.description (λ at from e. value_within more g at [] from e) at from

-- the names that an expression reads, so many levels deep
abbrev pub prepared_within : ℕ → Ground → Standpoint → Scope → ℕ → List (List ℕ) → Prepared
prepared_within more g standpoint scope from names = prepared (name_here g (expressed_within more g) standpoint scope) from names

-- the value of an alternative goes into the temp of a child's value, under the alternative's flag
abbrev pub choice_piece : (Standpoint → ℕ → Computed) → Ground → (width temp : ℕ) → ℕ → Standpoint → Piece
choice_piece value g width temp from a =
    let x = value a from in
    behind x.piece (moving (move_to (flag g.description g.row (own_way a)) (ToTemp temp) (fitted x.out width) ∷ []))

-- ---- places

-- the name that an operation declares, where that is the place
abbrev pub name_at : List ℕ → Option ℕ → Option (List ℕ)
name_at n None = None
name_at n (Some i) = Some n

abbrev pub declared_place : DescriptionTree → ℕ → Scope → ExprTree → Option (List ℕ)
declared_place d o scope (exprs.Number v base) = None
declared_place d o scope (exprs.Named n) = name_at n (entry_here d o scope n)
declared_place d o scope (exprs.Element n index) = None
declared_place d o scope (exprs.Input field) = None
declared_place d o scope (exprs.Output field) = None
declared_place d o scope (exprs.Boundary pipe before after field) = None
declared_place d o scope exprs.Decoded = None
declared_place d o scope (exprs.Cast shape a) = None
declared_place d o scope (exprs.Complement a) = None
declared_place d o scope (exprs.Negate a) = None
declared_place d o scope (exprs.Two operator a b) = None
declared_place d o scope (exprs.Choose c a b) = None

-- the EXPRESSION of an operation as a place, so many levels deep
abbrev pub stored_within : ℕ → Ground → Given → Standpoint → (guard : Expr) → ℕ → Piece
stored_within more g x at guard from = store_at (λ place. puts_within more g at [] guard from place x) (expression_in (sections_at g.description (running at)))

-- ---- guards of alternatives

-- one more temp, where a word chooses the alternative
abbrev pub guard_piece : Ground → (guard : Expr) → Option Way → ℕ → Piece
guard_piece g guard None from = nothing
guard_piece g guard (Some way) from = held from nothing 1 (both guard (flag g.description g.row (Some way)))

abbrev pub guard_out : (guard : Expr) → Option Way → ℕ → Expr
guard_out guard None from = guard
guard_out guard (Some way) from = Temp from

-- ---- scenes

abbrev pub test_of : Ground → List Position → Option Expr
test_of g positions = option_map (λ w. flag g.description g.row (Some w)) (own_way (standpoint_of g.description positions))

-- one less, where there is one
abbrev pub fewer : ℕ → ℕ
fewer zero = zero
fewer (suc levels) = levels

abbrev pub callee_at : Ground → (levels : ℕ) → List Position → (List Position × ℕ) × Option Expr
callee_at g levels positions = ((positions, levels), test_of g positions)

-- what is called too deep does nothing
abbrev pub body_at : (levels : ℕ) → Option StmtTrees → StmtTrees
body_at zero all = End
body_at (suc levels) None = End
body_at (suc levels) (Some all) = all

-- by positions, and by how many levels of calls are left, the own one among them
abbrev pub scenes_of : Ground → Scenes (List Position × ℕ)
scenes_of g = record {
  reads = λ s. reads_at g (standpoint_of g.description s.0);
  puts = λ s scope guard from target x. puts_within (suc (levels g.description)) g (standpoint_of g.description s.0) scope guard from target x;
  stalls = λ s guard from stage. stalls g.description g.places guard stage;
  flushes = λ s guard from stage. flushes g.description g.places guard stage;
  callees = λ s n. map (callee_at g (fewer s.1)) (alternatives_in g.description n (home_in g.description n s.0));
  body = λ s. body_at s.1 (behavior_in (sections_at g.description (running (standpoint_of g.description s.0))));
}
