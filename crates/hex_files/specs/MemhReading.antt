-- Reading a memory from a `$readmemh` file.
use Rattle.std.specs.Prelude.{ℕ, suc, ◌+◌, ◌^◌, Bool, true, false, List, [], ◌∷◌, length, take, drop, filter, get_or, reverse, Option, Some, None, option_map, option_to_list, slice_get, Result, Ok, Err, nat_lt, nat_le, not, ◌==◌, ◌&&◌, ◌||◌, if◌then◌else◌}
use Rattle.std.specs.List.{flat_map, list_all, suffix_len}
use Rattle.std.specs.Char.{is_digit}
use Rattle.std.specs.Str.Parse.{digits_value}
use Rattle.lisa_words.specs.Bytes.{is_blank, front_is}
use Rattle.lisa_words.specs.Fix.{fix}
use Rattle.lisa_words.specs.Gaps.{starts_comment, gap_at}
use Rattle.lisa_words.specs.declared.gaps.Gap.{Gap}
use Rattle.lisa_words.specs.declared.gaps.Gap.TheVariants.{Absent, Whole, Broken}
use Rattle.lisa_engine.specs.Memory.{Memory}
use Rattle.lisa_engine.specs.declared.parts.ArrayItem.{ArrayItem}
use Rattle.hex_files.specs.declared.faults.MemhFault.{MemhFault}
use Rattle.hex_files.specs.declared.faults.MemhFault.TheVariants.{BadWord, CellRange, PastEnd}
use Rattle.hex_files.specs.declared.memh_words.MemhWord.{MemhWord}
use Rattle.hex_files.specs.declared.memh_words.MemhWord.TheVariants.{Index, Value}
use Rattle.hex_files.specs.Arrays.{with_cells}
use Rattle.hex_files.specs.Before.{with_before, unless}
use Rattle.hex_files.specs.Maps.{Write, values_of}

-- ---- words, with blanks and comments between them

-- a blank or a comment begins
abbrev pub ends_word : List ℕ → Bool
ends_word bytes = front_is is_blank bytes || starts_comment bytes

-- how many bytes stand before the first blank or comment
unfoldable pub word_len : List ℕ → ℕ
word_len [] = 0
word_len (b ∷ bs) = if ends_word (b ∷ bs) then 0 else suc (word_len bs)

-- a text that stands between blanks and comments, and its place
abbrev pub Placed : Type 0
Placed = ℕ × List ℕ

-- The words where this gap or none stands at the front. A comment that is at fault stands as an empty word at the byte to blame.
abbrev pub words_behind : (ℕ × List ℕ → List Placed) → ℕ → List ℕ → Gap → List Placed
words_behind more at bytes Absent = (at, take (word_len bytes) bytes) ∷ more (at + word_len bytes, drop (word_len bytes) bytes)
words_behind more at bytes (Whole n) = more (at + n, drop n bytes)
words_behind more at bytes (Broken n) = (at + n, []) ∷ []

abbrev pub words_step : (ℕ × List ℕ → List Placed) → ℕ × List ℕ → List Placed
words_step more (at, []) = []
words_step more (at, b ∷ bs) = words_behind more at (b ∷ bs) (gap_at (b ∷ bs))

-- the words of the bytes, the first of which has this place
unfoldable pub words_from : ℕ → List ℕ → List Placed
words_from at bytes = fix (λ x. length x.1) [] words_step (at, bytes)

-- ---- what a word says

-- one or more hexadecimal digits of either case, with `_` anywhere behind the first
abbrev pub is_number : List ℕ → Bool
is_number [] = false
is_number (b ∷ bs) = is_digit b 16 && list_all (λ c. c == 95 || is_digit c 16) bs

-- the number below 2 ^ 64 that a text writes
unfoldable pub number_of : List ℕ → Option ℕ
number_of text =
    let n = digits_value 16 (filter (λ b. not (b == 95)) text) in
    if is_number text && nat_lt n (2 ^ 64) then Some n else None

-- `@` and the next cell's index, or a cell's value
unfoldable pub word_of : List ℕ → Option MemhWord
word_of [] = None
word_of (b ∷ bs) = if b == 64 then option_map (λ n. Index n) (number_of bs) else option_map (λ n. Value n) (number_of (b ∷ bs))

-- ---- what the words write

-- what is wrong with a value for a cell
abbrev pub cell_fault : ArrayItem → ℕ → ℕ → Option MemhFault
cell_fault array index value =
    if nat_le (2 ^ array.width) value then Some (CellRange index value array.width)
    else (if nat_le array.depth index then Some (PastEnd index array.depth) else None)

-- what is wrong with a word where the next cell has this index
abbrev pub said_fault : ArrayItem → ℕ → MemhWord → Option MemhFault
said_fault array index (Index n) = None
said_fault array index (Value n) = cell_fault array index n

-- the cell's value that a word gives there, if it gives one
abbrev pub given_by : ℕ → MemhWord → List Write
given_by index (Index n) = []
given_by index (Value n) = (index, n) ∷ []

-- ---- words behind others

abbrev pub index_set : MemhWord → List ℕ
index_set (Index n) = n ∷ []
index_set (Value n) = []

abbrev pub is_value : MemhWord → Bool
is_value (Index n) = false
is_value (Value n) = true

-- the next cell's index behind words: as the last `@` of them says, 0 where there is none, and one more for each value behind that
abbrev pub next_index : List MemhWord → ℕ
next_index before = get_or (reverse (flat_map index_set before)) 0 0 + suffix_len is_value before

-- what words say, in their order
abbrev pub said_in : List Placed → List MemhWord
said_in words = flat_map (λ (w : Placed). option_to_list (word_of w.1)) words

-- the fault where the word at this place says so or nothing
abbrev pub fault_in : ArrayItem → List MemhWord → ℕ → Option MemhWord → Option MemhFault
fault_in array before at None = Some (BadWord at)
fault_in array before at (Some word) = said_fault array (next_index before) word

-- the fault of a word behind others, if it has one
abbrev pub faults_at : ArrayItem → List Placed × Placed → List MemhFault
faults_at array (before, (at, text)) = option_to_list (fault_in array (said_in before) at (word_of text))

-- the value that a word behind others gives, if it gives one
abbrev pub given_at : List MemhWord × MemhWord → List Write
given_at (before, word) = given_by (next_index before) word

-- the cells that words give, word by word, or the fault of the first word that has one
abbrev pub writes_in : ArrayItem → List Placed → Result (List Write) MemhFault
writes_in array words = unless (slice_get (flat_map (faults_at array) (with_before words)) 0) (flat_map given_at (with_before (said_in words)))

-- the cells that the bytes give
abbrev pub memh_writes : ArrayItem → List ℕ → Result (List Write) MemhFault
memh_writes array bytes = writes_in array (words_from 0 bytes)

abbrev pub filled : ArrayItem → Result (List Write) MemhFault → Result Memory MemhFault
filled array (Err fault) = Err fault
filled array (Ok ws) = Ok (with_cells array (values_of ws))

-- the memory that the bytes spell for the array, or their first fault
abbrev pub memh_of : ArrayItem → List ℕ → Result Memory MemhFault
memh_of array bytes = filled array (memh_writes array bytes)
