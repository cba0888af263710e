-- Words read one by one into cells.
use Rattle.std.proofs.Common.{◌≡◌, ℕ, ◌+◌, List, [], ◌∷◌, Option, Some, None, Result, Ok, Err, refl, sym, ap, subst, inl, inr, ◌∙◌}
use Rattle.lisa_engine.specs.Memory.{Memory}
use Rattle.lisa_engine.specs.declared.parts.ArrayItem.{ArrayItem}
use Rattle.hex_files.specs.declared.faults.MemhFault.{MemhFault}
use Rattle.hex_files.specs.declared.faults.MemhFault.TheVariants as faults
use Rattle.hex_files.specs.declared.memh_words.MemhWord.{MemhWord}
use Rattle.hex_files.specs.declared.memh_words.MemhWord.TheVariants.{Index, Value}
use Rattle.hex_files.specs.Maps.{Write, stored}
use Rattle.hex_files.specs.Arrays.{with_cells}
use Rattle.hex_files.specs.MemhReading.{Placed, words_from, word_of, cell_fault, memh_writes, filled, memh_of}
use Rattle.hex_files.specs.MemhMachine.{if_sound, and_more, meant, writes_from}
use Rattle.hex_files.specs.MemhGives.{with_rest, Misses, PutsCell, ReadsWord, IsUnlessNoMemory}
use Rattle.hex_files.proofs.MapLaws.{all_stored}
use Rattle.hex_files.proofs.MemhRules.{words_agree}

begins : (array : ArrayItem) (r : Result (List Write) MemhFault) → with_rest array [] r ≡ filled array r
begins array (Err fault) = refl
begins array (Ok ws) = ap (λ (cells : List ℕ). Ok (with_cells array cells)) (all_stored ws)

pub first : (array : ArrayItem) (bytes cells : List ℕ) → cells ≡ [] → with_rest array cells (writes_from array 0 (words_from 0 bytes)) ≡ memh_of array bytes
first array bytes cells e =
    ap (λ (l : List ℕ). with_rest array l (writes_from array 0 (words_from 0 bytes))) e ∙ ap (with_rest array []) (words_agree array (words_from 0 bytes))
    ∙ begins array (memh_writes array bytes)

none_left : (array : ArrayItem) (next : ℕ) → writes_from array next [] ≡ Ok []
unfolding writes_from
none_left array next = refl

pub all_read : (array : ArrayItem) (cells : List ℕ) (next : ℕ) (words : List Placed) (total : Result Memory MemhFault) → with_rest array cells (writes_from array next words) ≡ total → words ≡ [] → total ≡ Ok (with_cells array cells)
all_read array cells next words total same e = sym same ∙ ap (λ (ws : List Placed). with_rest array cells (writes_from array next ws)) e ∙ ap (with_rest array cells) (none_left array next)

put_first : (array : ArrayItem) (cells : List ℕ) (w : Write) (r : Result (List Write) MemhFault) → with_rest array cells (and_more w r) ≡ with_rest array (stored cells w) r
put_first array cells w (Err fault) = refl
put_first array cells w (Ok ws) = refl

on_word : (array : ArrayItem) (next at : ℕ) (text : List ℕ) (words : List Placed) → writes_from array next ((at, text) ∷ words) ≡ meant array (λ n. writes_from array n words) at next (word_of text)
unfolding writes_from
on_word array next at text words = refl

module _ (array : ArrayItem) (cells : List ℕ) (index at : ℕ) (text : List ℕ) (later : List Placed) where
  says : (word : Option MemhWord) → word_of text ≡ word → with_rest array cells (writes_from array index ((at, text) ∷ later)) ≡ with_rest array cells (meant array (λ n. writes_from array n later) at index word)
  says word e =
      ap (with_rest array cells) (on_word array index at text later)
      ∙ ap (λ (w : Option MemhWord). with_rest array cells (meant array (λ n. writes_from array n later) at index w)) e

  pub bad : word_of text ≡ None → with_rest array cells (writes_from array index ((at, text) ∷ later)) ≡ Err (faults.BadWord at)
  bad e = says None e

  pub to_index : (n : ℕ) → word_of text ≡ Some (Index n) → with_rest array cells (writes_from array index ((at, text) ∷ later)) ≡ with_rest array cells (writes_from array n later)
  to_index n e = says (Some (Index n)) e

  refused : (v : ℕ) (fault : MemhFault) → word_of text ≡ Some (Value v) → cell_fault array index v ≡ Some fault → with_rest array cells (writes_from array index ((at, text) ∷ later)) ≡ Err fault
  refused v fault e f =
      says (Some (Value v)) e
      ∙ ap (λ (o : Option MemhFault). with_rest array cells (if_sound o (and_more (index, v) (writes_from array (index + 1) later)))) f

  put : (v next : ℕ) (now : List ℕ) → word_of text ≡ Some (Value v) → PutsCell array index v cells now (Ok next) → ReadsWord array at index text later cells now (Ok next)
  put v next now e p =
      says (Some (Value v)) e
      ∙ ap (λ (o : Option MemhFault). with_rest array cells (if_sound o (and_more (index, v) (writes_from array (index + 1) later)))) p.0
      ∙ put_first array cells (index, v) (writes_from array (index + 1) later)
      ∙ ap (λ (k : ℕ). with_rest array (stored cells (index, v)) (writes_from array k later)) (sym p.1)
      ∙ ap (λ (l : List ℕ). with_rest array l (writes_from array next later)) (sym p.2)

  not_put : (v : ℕ) (now : List ℕ) (fault : MemhFault) → word_of text ≡ Some (Value v) → PutsCell array index v cells now (Err fault) → ReadsWord array at index text later cells now (Err fault)
  not_put v now faults.NoMemory e p = tt
  not_put v now (faults.NoSuchMemory name) e p = refused v (faults.NoSuchMemory name) e p
  not_put v now (faults.BadWord place) e p = refused v (faults.BadWord place) e p
  not_put v now (faults.CellRange i value width) e p = refused v (faults.CellRange i value width) e p
  not_put v now (faults.PastEnd i depth) e p = refused v (faults.PastEnd i depth) e p

  pub put_any : (v : ℕ) (now : List ℕ) (result : Result ℕ MemhFault) → word_of text ≡ Some (Value v) → PutsCell array index v cells now result → ReadsWord array at index text later cells now result
  put_any v now (Ok next) e p = put v next now e p
  put_any v now (Err fault) e p = not_put v now fault e p

pub cell_misses : (array : ArrayItem) (index v : ℕ) (old new : List ℕ) (fault : MemhFault) → cell_fault array index v ≡ Some fault → PutsCell array index v old new (Err fault)
cell_misses array index v old new faults.NoMemory e = tt
cell_misses array index v old new (faults.NoSuchMemory name) e = e
cell_misses array index v old new (faults.BadWord place) e = e
cell_misses array index v old new (faults.CellRange i value width) e = e
cell_misses array index v old new (faults.PastEnd i depth) e = e

-- ---- the words of the bytes

module _ (array : ArrayItem) (cells : List ℕ) (index at : ℕ) (words : List Placed) (total : Result Memory MemhFault) (same : with_rest array cells (writes_from array index words) ≡ total) where
  pub word_read : (text : List ℕ) (later : List Placed) (next : ℕ) (now : List ℕ) → words ≡ (at, text) ∷ later → ReadsWord array at index text later cells now (Ok next) → with_rest array now (writes_from array next later) ≡ total
  word_read text later next now is r = sym r ∙ ap (λ (ws : List Placed). with_rest array cells (writes_from array index ws)) (sym is) ∙ same

  pub word_missed : (text : List ℕ) (later : List Placed) (now : List ℕ) (fault : MemhFault) → words ≡ (at, text) ∷ later → ReadsWord array at index text later cells now (Err fault) → Misses fault total
  word_missed text later now fault is r = subst (Misses fault) (ap (λ (ws : List Placed). with_rest array cells (writes_from array index ws)) (sym is) ∙ same) r

pub misses : (fault : MemhFault) (total : Result Memory MemhFault) → total ≡ Err fault → Misses fault total
misses faults.NoMemory total e = tt
misses (faults.NoSuchMemory name) total e = e
misses (faults.BadWord at) total e = e
misses (faults.CellRange index value width) total e = e
misses (faults.PastEnd index depth) total e = e

-- what is answered where no cells were
pub missed : (fault : MemhFault) (expected : Result Memory MemhFault) → Misses fault expected → IsUnlessNoMemory expected (Err fault)
missed faults.NoMemory expected m = inr refl
missed (faults.NoSuchMemory name) expected m = inl (sym m)
missed (faults.BadWord at) expected m = inl (sym m)
missed (faults.CellRange index value width) expected m = inl (sym m)
missed (faults.PastEnd index depth) expected m = inl (sym m)
