-- Reading an object, on its lines.
use Rattle.std.specs.Prelude.{ℕ, ℤ, pos, ◌-ℤ◌, ◌^◌, Bool, true, false, List, [], ◌∷◌, ◌++◌, codes, decimal, Option, Some, None, not, ◌==◌, ◌&&◌, if◌then◌else◌}
use Rattle.std.specs.List.{list_any, slice_split}
use Rattle.std.specs.Str.{bytes_eq}
use Rattle.std.specs.Str.Parse.{digits_value}
use Rattle.asm_source.specs.Bytes.{is_name}
use Rattle.asm_source.specs.declared.parts.Term.{Term}
use Rattle.lisa_object.specs.declared.parts.FixKind.{FixKind}
use Rattle.lisa_object.specs.declared.parts.FixKind.TheVariants as kinds
use Rattle.lisa_object.specs.declared.rules.Standing.{Standing}
use Rattle.lisa_object.specs.Objects.{PlainObjectLine, Section, Space, Label, Equ, Global, Cell, Fix, PlainObject}
use Rattle.lisa_object.specs.ObjectRules.{defined}
use Rattle.lisa_object.specs.LineMachine.{start, may_follow, after}
use Rattle.lisa_object.specs.Reading.{◌>>=◌, Word, first_of, is_nil, is_last, small_of, hex_of, opening_of, written}

-- exactly one word, and exactly two
abbrev pub one_of : List Word → Option Word
one_of words = first_of words >>= λ a. if is_nil a.1 then Some a.0 else None

abbrev pub two_of : List Word → Option (Word × Word)
two_of words = first_of words >>= λ a. first_of a.1 >>= λ b. if is_nil b.1 then Some (a.0, b.0) else None

unfoldable pub wide_of : Word → Option ℕ
wide_of word = written (10 ^ 21) decimal (digits_value 10 word) word

abbrev pub negative : ℕ → Option ℤ
negative n = if n == 0 then None else Some (pos 0 -ℤ pos n)

unfoldable pub integer_of : Word → Option ℤ
integer_of [] = None
integer_of (b ∷ bs) = if b == 45 then (wide_of bs >>= negative) else (wide_of (b ∷ bs) >>= λ n. Some (pos n))

abbrev pub name_of : Word → Option Word
name_of word = if is_name word then Some word else None

unfoldable pub section_of : List Word → Option PlainObjectLine
section_of words = two_of words >>= λ w. small_of w.1 >>= λ width. name_of w.0 >>= λ n. Some (Section n width)

unfoldable pub space_of : List Word → Option PlainObjectLine
space_of words = one_of words >>= λ w. small_of w >>= λ n. Some (Space n)

abbrev pub named_by : (Word → PlainObjectLine) → List Word → Option PlainObjectLine
named_by make words = one_of words >>= λ w. name_of w >>= λ n. Some (make n)

unfoldable pub label_of : List Word → Option PlainObjectLine
label_of words = named_by Label words

unfoldable pub global_of : List Word → Option PlainObjectLine
global_of words = named_by Global words

unfoldable pub equ_of : List Word → Option PlainObjectLine
equ_of words = two_of words >>= λ w. integer_of w.1 >>= λ v. name_of w.0 >>= λ n. Some (Equ n v)

unfoldable pub cell_of : List Word → Option PlainObjectLine
cell_of words = one_of words >>= λ w. hex_of w >>= λ v. Some (Cell v)

abbrev pub kind_of : Word → Option FixKind
kind_of word = if bytes_eq word (codes "u") then Some kinds.Unsigned else (if bytes_eq word (codes "s") then Some kinds.Signed else (if bytes_eq word (codes "w") then Some kinds.Whole else None))

abbrev pub symbol_of : Word → Option (Option Word)
symbol_of word = if bytes_eq word (codes "$") then Some None else (name_of word >>= λ n. Some (Some n))

abbrev pub signed_term : Bool → Word → Option Term
signed_term minus word = symbol_of word >>= λ s. Some (record { minus = minus; name = s })

unfoldable pub term_of : Word → Option Term
term_of [] = None
term_of (b ∷ bs) = if b == 43 then signed_term false bs else (if b == 45 then signed_term true bs else None)

unfoldable pub terms_of : List Word → Option (List Term)
terms_of [] = Some []
terms_of (w ∷ ws) = term_of w >>= λ t. terms_of ws >>= λ ts. Some (t ∷ ts)

abbrev pub FixHead : Type 0
FixHead = ℕ × ℕ × FixKind × ℤ × List Word

abbrev pub fix_head : List Word → Option FixHead
fix_head words =
    first_of words >>= λ a. first_of a.1 >>= λ b. first_of b.1 >>= λ c. first_of c.1 >>= λ d.
    small_of a.0 >>= λ l. small_of b.0 >>= λ w. kind_of c.0 >>= λ k. integer_of d.0 >>= λ n. Some (l, w, k, n, d.1)

unfoldable pub fix_of : List Word → Option PlainObjectLine
fix_of words = fix_head words >>= λ h. terms_of h.4 >>= λ ts. Some (Fix h.0 h.1 h.2 (record { constant = h.3; terms = ts }))

abbrev pub line_from : Word → List Word → Option PlainObjectLine
line_from keyword words =
    if bytes_eq keyword (codes "section") then section_of words
    else (if bytes_eq keyword (codes "space") then space_of words
    else (if bytes_eq keyword (codes "label") then label_of words
    else (if bytes_eq keyword (codes "equ") then equ_of words
    else (if bytes_eq keyword (codes "global") then global_of words
    else (if bytes_eq keyword (codes "cell") then cell_of words
    else (if bytes_eq keyword (codes "fix") then fix_of words else None))))))

unfoldable pub line_at : Word → Option PlainObjectLine
line_at line = first_of (slice_split (λ b. b == 32) line) >>= λ k. line_from k.0 k.1

-- no name that the line defines was seen
abbrev pub is_new : List Word → List Word → Bool
is_new seen [] = true
is_new seen (n ∷ ns) = not (list_any (bytes_eq n) seen)

abbrev pub next_line : Standing → List Word → Word → Option PlainObjectLine
next_line st seen line = line_at line >>= λ l. if may_follow st l && is_new seen (defined l) then Some l else None

-- the lines up to `end`, behind others
unfoldable pub lines_of : Standing → List Word → List Word → Option (List PlainObjectLine)
lines_of st seen [] = None
lines_of st seen (line ∷ lines) =
    if bytes_eq line (codes "end") then (if is_last lines then Some [] else None)
    else (next_line st seen line >>= λ l. lines_of (after st l) (defined l ++ seen) lines >>= λ more. Some (l ∷ more))

unfoldable pub object_of : List Word → Option PlainObject
object_of [] = None
object_of (line ∷ lines) = opening_of (codes "object") line >>= λ d. lines_of start [] lines >>= λ ls. Some (record { digest = d; lines = ls })
