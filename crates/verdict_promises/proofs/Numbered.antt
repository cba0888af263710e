-- The faults of a condition have its number.
use Rattle.std.proofs.Common.{◌≡◌, ◌||◌, take, ℕ, Bool, true, false, List, [], ◌∷◌, Option, None, Some, cond, refl, sym, subst}
use Rattle.std.specs.Prelude.{option_map}
use Rattle.std.specs.Option.{option_or, is_some}
use Rattle.std.specs.List.{list_any}
use Rattle.lisa_tree.specs.declared.faults.DescFault.{DescFault}
use Rattle.lisa_tree.specs.declared.faults.DescFault.TheVariants as faults
use Rattle.lisa_tree.specs.declared.tokens.Shape.{Shape}
use Rattle.lisa_tree.specs.Expressions as exprs
use Rattle.lisa_tree.specs.Expressions.{ExprTree}
use Rattle.lisa_tree.specs.Statements.{HeadTree}
use Rattle.lisa_tree.specs.Descriptions as trees
use Rattle.lisa_tree.specs.Descriptions.{ResourceTree, DescriptionTree}
use Rattle.lisa_tree.specs.Operations.{name_at, number_of}
use Rattle.lisa_tree.specs.Resources.{resource_at, is_pipe}
use Rattle.description_places.specs.declared.sites.Region.{Region}
use Rattle.description_places.specs.Scopes.{Scope}
use Rattle.description_places.specs.Places as places
use Rattle.description_places.specs.Places.{At, Place, Condition, first}
use Rattle.description_types.specs.Types.{type_of}
use Rattle.description_types.specs.Tables.{Known}
use Rattle.name_checks.specs.Doubled.{duplicate_fault, earlier, is_fields, field_names, again_in, list_fault, resource_fault, counter_fault, duplicate}
use Rattle.name_checks.specs.Unknown.{unknown_fault, stands, is_known, is_field, is_stage, operation_unknown, part_unknown, control_unknown, behind_unknown, resource_unknown, head_unknown, alternatives_unknown, register_unknown, counter_unknown, unknown}
use Rattle.shape_checks.specs.declared.bounds.Bounds.{Bounds}
use Rattle.shape_checks.specs.Bounds.{bounds_of}
use Rattle.shape_checks.specs.Shapes.{width_fault, bit_count, field_fault, resource_width, counter_width, bad_width, array_fault, resource_depth, bad_depth, open_fault, without_bound, long_fault, too_long}
use Rattle.kind_checks.specs.WrongKinds.{told, wrong_kind}
use Rattle.kind_checks.specs.Narrowings.{narrows, assigned_type, narrowing}
use Rattle.stage_checks.specs.Controls.{control}
use Rattle.stage_checks.specs.Resets.{refused, goes_beyond, bad_reset}
use Rattle.stage_checks.specs.Backward.{goes_back, backward}
use Rattle.coding_checks.specs.Uneven.{uneven_fault, group_width}
use Rattle.coding_checks.specs.Written.{unwritten_fault, not_written}
use Rattle.verdict_promises.specs.Numbers.{fault_number}

-- a fault that is found has this number
abbrev pub Has : ℕ → Option DescFault → Type 0
Has n None = Unit {0}
Has n (Some f) = fault_number f ≡ n

has_cond : (n : ℕ) (b : Bool) (x y : Option DescFault) → Has n x → Has n y → Has n (cond b x y)
has_cond n true x y p q = p
has_cond n false x y p q = q

has_or : (n : ℕ) (x y : Option DescFault) → Has n x → Has n y → Has n (option_or x y)
has_or n None y p q = q
has_or n (Some f) y p q = p

pub has_mapped : {T : Type 0} (n : ℕ) (fault : T → DescFault) → ((t : T) → fault_number (fault t) ≡ n) → (x : Option T) → Has n (option_map fault x)
has_mapped n fault each None = tt
has_mapped n fault each (Some t) = each t

pub has_first : (n : ℕ) (breaks : Condition DescFault) → ((o : ℕ) (region : Region) (scope : Scope) (place : Place) → Has n (breaks o region scope place)) → (all : List At) → Has n (first breaks all)
has_first n breaks each [] = tt
has_first n breaks each (a ∷ rest) = has_or n (breaks a.operation a.region a.scope a.place) (first breaks rest) (each a.operation a.region a.scope a.place) (has_first n breaks each rest)

pub numbered : (n : ℕ) (found : Option DescFault) (f : DescFault) → Some f ≡ found → Has n found → fault_number f ≡ n
numbered n found f e h = subst (Has n) (sym e) h

-- ---- 6

doubled : (b : Bool) (n : List ℕ) → Has 6 (duplicate_fault b n)
doubled b n = has_cond 6 b (Some (faults.Duplicate n)) None refl tt

listed : (names : List (List ℕ)) → Has 6 (list_fault names)
listed names = has_mapped 6 faults.Duplicate (λ n. refl) (again_in [] names)

resource_doubled : (d : DescriptionTree) (k : ℕ) (r : ResourceTree) → Has 6 (resource_fault d k r)
resource_doubled d k (trees.Register word shape n depth) = doubled _ n
resource_doubled d k (trees.Clocked word shape n) = doubled _ n
resource_doubled d k (trees.Memory word shape n depth) = doubled _ n
resource_doubled d k (trees.Pin shape n) = doubled _ n
resource_doubled d k (trees.Pipeline n stages) =
    let twice = earlier (resource_at d n) k || list_any is_pipe (take k d.resources) in
    has_or 6 (duplicate_fault twice n) (list_fault stages) (doubled twice n) (listed stages)
resource_doubled d k (trees.Fields pipe fields) =
    let twice = list_any is_fields (take k d.resources) in
    has_or 6 (duplicate_fault twice pipe) (list_fault (field_names fields)) (doubled twice pipe) (listed (field_names fields))

counter_doubled : (d : DescriptionTree) (o : ℕ) (scope : Scope) (shape : Option Shape) (n : List ℕ) → Has 6 (counter_fault d o scope shape n)
counter_doubled d o scope None n = tt
counter_doubled d o scope (Some shape) n = doubled _ n

pub duplicates : (d : DescriptionTree) (o : ℕ) (region : Region) (scope : Scope) (place : Place) → Has 6 (duplicate d o region scope place)
duplicates d o region scope (places.Resource k r) = resource_doubled d k r
duplicates d o region scope (places.Head operation) = doubled _ operation.name
duplicates d o region scope (places.Section all k) = doubled _ (name_at d o)
duplicates d o region scope (places.Declared k n) = doubled _ n
duplicates d o region scope (places.Alternatives all) = listed all
duplicates d o region scope (places.Local shape n value) = doubled _ n
duplicates d o region scope (places.Counts head) = counter_doubled d o scope head.shape head.name
duplicates d o region scope _ = tt

-- ---- 7

no_such : (operation : List ℕ) (b : Bool) (n : List ℕ) → Has 7 (unknown_fault operation b n)
no_such operation b n = has_cond 7 b None (Some (faults.Unknown operation n)) tt refl

either_such : (operation : List ℕ) (a : Bool) (n : List ℕ) (b : Bool) (m : List ℕ) → Has 7 (option_or (unknown_fault operation a n) (unknown_fault operation b m))
either_such operation a n b m = has_or 7 (unknown_fault operation a n) (unknown_fault operation b m) (no_such operation a n) (no_such operation b m)

resource_unknowns : (d : DescriptionTree) (r : ResourceTree) → Has 7 (resource_unknown d r)
resource_unknowns d (trees.Fields pipe fields) = no_such [] _ pipe
resource_unknowns d _ = tt

head_unknowns : (d : DescriptionTree) (operation : List ℕ) (stage : Option (List ℕ × List ℕ)) → Has 7 (head_unknown d operation stage)
head_unknowns d operation None = tt
head_unknowns d operation (Some stage) = either_such operation (is_some (resource_at d stage.0)) stage.0 (is_stage d stage.0 stage.1) stage.1

alternatives_unknowns : (d : DescriptionTree) (o : ℕ) (names : List (List ℕ)) → Has 7 (alternatives_unknown d o names)
alternatives_unknowns d o [] = tt
alternatives_unknowns d o (n ∷ rest) = has_or 7 (operation_unknown d o n) (alternatives_unknown d o rest) (no_such (name_at d o) (is_some (number_of d n)) n) (alternatives_unknowns d o rest)

register_unknowns : (d : DescriptionTree) (o : ℕ) (register : ExprTree) → Has 7 (register_unknown d o register)
register_unknowns d o (exprs.Named n) = no_such (name_at d o) _ n
register_unknowns d o (exprs.Input field) = no_such (name_at d o) _ field
register_unknowns d o _ = tt

counter_unknowns : (d : DescriptionTree) (o : ℕ) (scope : Scope) (shape : Option Shape) (n : List ℕ) → Has 7 (counter_unknown d o scope shape n)
counter_unknowns d o scope None n = no_such (name_at d o) _ n
counter_unknowns d o scope (Some shape) n = tt

pub unknowns : (d : DescriptionTree) (o : ℕ) (region : Region) (scope : Scope) (place : Place) → Has 7 (unknown d o region scope place)
unknowns d o region scope (places.Resource k r) = resource_unknowns d r
unknowns d o region scope (places.Head operation) = head_unknowns d operation.name operation.stage
unknowns d o region scope (places.Declared k n) = no_such (name_at d o) _ n
unknowns d o region scope (places.Alternatives all) = alternatives_unknowns d o all
unknowns d o region scope (places.Stands n) = no_such (name_at d o) _ n
unknowns d o region scope (places.Root register group) = has_or 7 (register_unknown d o register) (part_unknown d o group) (register_unknowns d o register) (no_such (name_at d o) (stands d o group) group)
unknowns d o region scope (places.Field n pattern) = no_such (name_at d o) _ n
unknowns d o region scope (places.Operand n) = no_such (name_at d o) _ n
unknowns d o region scope (places.Number n format) = no_such (name_at d o) _ n
unknowns d o region scope (places.Shown n) = no_such (name_at d o) _ n
unknowns d o region scope (places.Reads n) = no_such (name_at d o) _ n
unknowns d o region scope (places.ReadsElement n) = no_such (name_at d o) _ n
unknowns d o region scope (places.ReadsInput field) = no_such (name_at d o) _ field
unknowns d o region scope (places.ReadsOutput field) = no_such (name_at d o) _ field
unknowns d o region scope (places.ReadsBoundary pipe before after field) =
    has_or 7 (control_unknown d o scope pipe before) (behind_unknown d o pipe after field)
    (either_such (name_at d o) (is_known d o scope pipe) pipe (is_stage d pipe before) before)
    (either_such (name_at d o) (is_stage d pipe after) after (is_field d field) field)
unknowns d o region scope (places.Writes n) = no_such (name_at d o) _ n
unknowns d o region scope (places.WritesElement n) = no_such (name_at d o) _ n
unknowns d o region scope (places.WritesOutput field) = no_such (name_at d o) _ field
unknowns d o region scope (places.Counts head) = counter_unknowns d o scope head.shape head.name
unknowns d o region scope (places.Steps n) = no_such (name_at d o) _ n
unknowns d o region scope (places.Calls n) = no_such (name_at d o) _ n
unknowns d o region scope (places.Stalls pipe stage) = either_such (name_at d o) (is_known d o scope pipe) pipe (is_stage d pipe stage) stage
unknowns d o region scope (places.Flushes pipe stage) = either_such (name_at d o) (is_known d o scope pipe) pipe (is_stage d pipe stage) stage
unknowns d o region scope (places.Executes pipe) = no_such (name_at d o) _ pipe
unknowns d o region scope (places.Shifts pipe) = no_such (name_at d o) _ pipe
unknowns d o region scope (places.Starts n) = no_such (name_at d o) _ n
unknowns d o region scope _ = tt

-- ---- 8 and 11

all_told : (operation : List ℕ) (x : Option (List ℕ)) → Has 8 (told operation x)
all_told operation None = tt
all_told operation (Some n) = refl

pub wrong_kinds : (known : Known) (d : DescriptionTree) (o : ℕ) (region : Region) (scope : Scope) (place : Place) → Has 8 (wrong_kind known d o region scope place)
wrong_kinds known d o region scope place = all_told _ _

narrowed : (operation : List ℕ) (from to : Option Shape) → Has 11 (narrows operation from to)
narrowed operation (Some from) (Some to) = has_cond 11 _ (Some (faults.Narrowing operation from.width to.width)) None refl tt
narrowed operation (Some from) None = tt
narrowed operation None to = tt

pub narrowings : (known : Known) (d : DescriptionTree) (o : ℕ) (region : Region) (scope : Scope) (place : Place) → Has 11 (narrowing known d o region scope place)
narrowings known d o region scope (places.Local shape n (Some value)) = narrowed (name_at d o) (assigned_type known d o scope (Some shape) value) (Some shape)
narrowings known d o region scope (places.Assigns target value) =
    let place = type_of known.types d o scope target in
    narrowed (name_at d o) (assigned_type known d o scope place value) place
narrowings known d o region scope _ = tt

-- ---- 9 and 10

off_width : (n : List ℕ) (width : ℕ) → Has 9 (width_fault n width)
off_width n width = has_cond 9 _ None (Some (faults.BadWidth n width)) tt refl

off_fields : (fields : List (Shape × List ℕ)) → Has 9 (field_fault fields)
off_fields [] = tt
off_fields (field ∷ rest) = has_or 9 (width_fault field.1 field.0.width) (field_fault rest) (off_width field.1 field.0.width) (off_fields rest)

off_resource : (r : ResourceTree) → Has 9 (resource_width r)
off_resource (trees.Register word shape n depth) = off_width n shape.width
off_resource (trees.Clocked word shape n) = off_width n shape.width
off_resource (trees.Memory word shape n depth) = off_width n shape.width
off_resource (trees.Pin shape n) = off_width n shape.width
off_resource (trees.Pipeline n stages) = tt
off_resource (trees.Fields pipe fields) = off_fields fields

off_counter : (shape : Option Shape) (head : HeadTree) → Has 9 (counter_width shape head)
off_counter None head = tt
off_counter (Some shape) head = has_cond 9 _ None (Some (faults.BadWidth head.name shape.width)) tt refl

pub bad_widths : (o : ℕ) (region : Region) (scope : Scope) (place : Place) → Has 9 (bad_width o region scope place)
bad_widths o region scope (places.Resource k r) = off_resource r
bad_widths o region scope (places.Field n pattern) = off_width n (bit_count pattern)
bad_widths o region scope (places.Casts shape) = off_width [] shape.width
bad_widths o region scope (places.Local shape n value) = off_width n shape.width
bad_widths o region scope (places.Counts head) = off_counter head.shape head
bad_widths o region scope _ = tt

off_depth : (n : List ℕ) (depth : Option ℕ) → Has 10 (array_fault n depth)
off_depth n None = tt
off_depth n (Some depth) = has_cond 10 _ None (Some (faults.BadDepth n depth)) tt refl

off_array : (r : ResourceTree) → Has 10 (resource_depth r)
off_array (trees.Register word shape n depth) = off_depth n depth
off_array (trees.Memory word shape n depth) = off_depth n (Some depth)
off_array _ = tt

pub bad_depths : (o : ℕ) (region : Region) (scope : Scope) (place : Place) → Has 10 (bad_depth o region scope place)
bad_depths o region scope (places.Resource k r) = off_array r
bad_depths o region scope _ = tt

-- ---- 12 and 13

left_open : (n : List ℕ) (x : Option Bounds) → Has 12 (open_fault n x)
left_open n None = refl
left_open n (Some b) = tt

pub open_loops : (d : DescriptionTree) (o : ℕ) (region : Region) (scope : Scope) (place : Place) → Has 12 (without_bound d o region scope place)
open_loops d o region scope places.Loops = refl
open_loops d o region scope (places.Counts head) = left_open (name_at d o) (bounds_of head)
open_loops d o region scope _ = tt

turned_long : (n : List ℕ) (x : Option Bounds) → Has 13 (long_fault n x)
turned_long n None = tt
turned_long n (Some b) = has_cond 13 _ (Some (faults.LoopTooLong n _)) None refl tt

pub long_loops : (d : DescriptionTree) (o : ℕ) (region : Region) (scope : Scope) (place : Place) → Has 13 (too_long d o region scope place)
long_loops d o region scope (places.Counts head) = turned_long (name_at d o) (bounds_of head)
long_loops d o region scope _ = tt

-- ---- 15, 16 and 18

gone_back : (d : DescriptionTree) (o : ℕ) (x : Option ℕ) → Has 15 (goes_back d o x)
gone_back d o None = tt
gone_back d o (Some a) = refl

pub backwards : (d : DescriptionTree) (latest : ℕ → Option ℕ) (o : ℕ) (region : Region) (scope : Scope) (place : Place) → Has 15 (backward d latest o region scope place)
backwards d latest o region scope (places.Starts n) = gone_back d o _
backwards d latest o region scope _ = tt

pub controls : (d : DescriptionTree) (o : ℕ) (region : Region) (scope : Scope) (place : Place) → Has 16 (control d o region scope place)
controls d o region scope (places.Stalls pipe stage) = has_cond 16 _ None (Some (faults.Control (name_at d o) stage)) tt refl
controls d o region scope (places.Flushes pipe stage) = has_cond 16 _ None (Some (faults.Control (name_at d o) stage)) tt refl
controls d o region scope _ = tt

pub bad_mains : (bad : Bool) → Has 17 (cond bad (Some faults.BadMain) None)
bad_mains bad = has_cond 17 bad (Some faults.BadMain) None refl tt

pub bad_resets : (d : DescriptionTree) (o : ℕ) (region : Region) (scope : Scope) (place : Place) → Has 18 (bad_reset d o region scope place)
bad_resets d o region scope place = has_cond 18 _ (refused (goes_beyond d o scope place)) None (has_cond 18 _ (Some faults.BadReset) None refl tt) tt

-- ---- 19 and 20

uneven : (d : DescriptionTree) (o : ℕ) (n : List ℕ) (b : Bool) → Has 19 (uneven_fault d o n b)
uneven d o n b = has_cond 19 b (Some (faults.GroupWidth (name_at d o) n)) None refl tt

pub group_widths : (widths : ℕ → Option ℕ) (d : DescriptionTree) (o : ℕ) (region : Region) (scope : Scope) (place : Place) → Has 19 (group_width widths d o region scope place)
group_widths widths d o region scope (places.Operand n) = uneven d o n _
group_widths widths d o region scope (places.Root register group) = uneven d o group _
group_widths widths d o region scope _ = tt

unwritten : (d : DescriptionTree) (o : ℕ) (n : List ℕ) (b : Bool) → Has 20 (unwritten_fault d o n b)
unwritten d o n b = has_cond 20 b (Some (faults.NotWritten (name_at d o) n)) None refl tt

pub writings : (d : DescriptionTree) (o : ℕ) (region : Region) (scope : Scope) (place : Place) → Has 20 (not_written d o region scope place)
writings d o region scope (places.Declared k n) = unwritten d o n _
writings d o region scope (places.Shown n) = unwritten d o n _
writings d o region scope _ = tt
