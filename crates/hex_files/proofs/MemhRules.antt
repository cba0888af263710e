-- A reader that goes from word to word gives what the words give.
use Rattle.std.proofs.Common.{◌≡◌, ℕ, ◌+◌, List, [], ◌∷◌, ◌++◌, reverse, get_or, append-nil, Option, Some, None, Result, refl, sym, ap, ◌∙◌, arith}
use Rattle.std.specs.Prelude.{slice_get, option_to_list}
use Rattle.std.specs.List.{flat_map, prefix_len}
use Rattle.std.proofs.lemmas.List.{reverse-append}
use Rattle.std.proofs.lemmas.Grind.{flat_map-append}
use Rattle.lisa_engine.specs.declared.parts.ArrayItem.{ArrayItem}
use Rattle.hex_files.specs.declared.faults.MemhFault.{MemhFault}
use Rattle.hex_files.specs.declared.memh_words.MemhWord.{MemhWord}
use Rattle.hex_files.specs.declared.memh_words.MemhWord.TheVariants.{Index, Value}
use Rattle.hex_files.specs.Before.{with_before, unless}
use Rattle.hex_files.specs.Maps.{Write}
use Rattle.hex_files.specs.MemhReading.{Placed, word_of, cell_fault, index_set, is_value, next_index, said_in, fault_in, faults_at, given_at, writes_in}
use Rattle.hex_files.specs.MemhMachine.{and_more, if_sound, meant, writes_from}
use Rattle.hex_files.proofs.Spread.{spread, spread_all}

-- ---- the next index

abbrev index_by : List ℕ → List MemhWord → ℕ
index_by set back = get_or (reverse set) 0 0 + prefix_len is_value back

index_more : (said : List MemhWord) (word : MemhWord) → next_index (said ++ word ∷ []) ≡ index_by (flat_map index_set said ++ index_set word) (word ∷ reverse said)
index_more said word =
    ap (λ (l : List ℕ). index_by l (reverse (said ++ word ∷ []))) (flat_map-append index_set said (word ∷ []) ∙ ap (λ (l : List ℕ). flat_map index_set said ++ l) (append-nil (index_set word)))
    ∙ ap (λ (l : List MemhWord). index_by (flat_map index_set said ++ index_set word) l) (reverse-append said (word ∷ []))

at_index : (said : List MemhWord) (n : ℕ) → next_index (said ++ Index n ∷ []) ≡ n
at_index said n = index_more said (Index n) ∙ ap (λ (l : List ℕ). get_or l 0 0 + 0) (reverse-append (flat_map index_set said) (n ∷ [])) ∙ omega arith

behind_value : (said : List MemhWord) (n : ℕ) → next_index (said ++ Value n ∷ []) ≡ next_index said + 1
behind_value said n = index_more said (Value n) ∙ ap (λ (l : List ℕ). index_by l (Value n ∷ reverse said)) (append-nil (flat_map index_set said)) ∙ omega arith

word_more : (front : List Placed) (w : Placed) (o : Option MemhWord) → word_of w.1 ≡ o → said_in (front ++ w ∷ []) ≡ said_in front ++ option_to_list o
word_more front w o e =
    flat_map-append (λ (p : Placed). option_to_list (word_of p.1)) front (w ∷ [])
    ∙ ap (λ (l : List MemhWord). said_in front ++ l) (append-nil (option_to_list (word_of w.1)) ∙ ap option_to_list e)

-- ---- word by word

-- what words give behind others
abbrev gives_behind : ArrayItem → List Placed → List Placed → Result (List Write) MemhFault
gives_behind array front words = unless (slice_get (spread (faults_at array) front words) 0) (spread given_at (said_in front) (said_in words))

put_before : (w : Write) (more : List Write) (o : Option MemhFault) → and_more w (unless o more) ≡ unless o (w ∷ more)
put_before w more None = refl
put_before w more (Some f) = refl

module _ (array : ArrayItem) (front : List Placed) (at : ℕ) (text : List ℕ) (words : List Placed) (rec : writes_from array (next_index (said_in (front ++ (at, text) ∷ []))) words ≡ gives_behind array (front ++ (at, text) ∷ []) words) where
  abbrev more_faults : List MemhFault
  more_faults = spread (faults_at array) (front ++ (at, text) ∷ []) words

  abbrev refused : Option MemhFault → List Write → Result (List Write) MemhFault
  refused o ws = unless (slice_get (option_to_list o ++ more_faults) 0) ws

  onward : (word : MemhWord) (next : ℕ) → word_of text ≡ Some word → next_index (said_in front ++ word ∷ []) ≡ next
      → writes_from array next words ≡ unless (slice_get more_faults 0) (spread given_at (said_in front ++ word ∷ []) (said_in words))
  onward word next e n =
      let same : said_in (front ++ (at, text) ∷ []) ≡ said_in front ++ word ∷ [] = word_more front (at, text) (Some word) e in
      ap (λ (k : ℕ). writes_from array k words) (sym n) ∙ ap (λ (l : List MemhWord). writes_from array (next_index l) words) (sym same) ∙ rec
      ∙ ap (λ (l : List MemhWord). unless (slice_get more_faults 0) (spread given_at l (said_in words))) same

  by_fault : (v : ℕ) → word_of text ≡ Some (Value v) → (f : Option MemhFault)
      → if_sound f (and_more (next_index (said_in front), v) (writes_from array (next_index (said_in front) + 1) words)) ≡ refused f (spread given_at (said_in front) (Value v ∷ said_in words))
  unfolding spread
  by_fault v e (Some f) = refl
  by_fault v e None =
      ap (and_more (next_index (said_in front), v)) (onward (Value v) (next_index (said_in front) + 1) e (behind_value (said_in front) v))
      ∙ put_before (next_index (said_in front), v) (spread given_at (said_in front ++ Value v ∷ []) (said_in words)) (slice_get more_faults 0)

  by_word : (o : Option MemhWord) → word_of text ≡ o
      → meant array (λ n. writes_from array n words) at (next_index (said_in front)) o ≡ refused (fault_in array (said_in front) at o) (spread given_at (said_in front) (option_to_list o ++ said_in words))
  unfolding spread
  by_word None e = refl
  by_word (Some (Index n)) e = onward (Index n) n e (at_index (said_in front) n)
  by_word (Some (Value v)) e = by_fault v e (cell_fault array (next_index (said_in front)) v)

  read : writes_from array (next_index (said_in front)) ((at, text) ∷ words) ≡ gives_behind array front ((at, text) ∷ words)
  unfolding writes_from spread
  read = by_word (word_of text) refl

agrees : (array : ArrayItem) (front words : List Placed) → writes_from array (next_index (said_in front)) words ≡ gives_behind array front words
unfolding writes_from spread
agrees array front [] = refl
agrees array front ((at, text) ∷ words) = read array front at text words (agrees array (front ++ (at, text) ∷ []) words)

pub words_agree : (array : ArrayItem) (words : List Placed) → writes_from array 0 words ≡ writes_in array words
words_agree array words =
    agrees array [] words
    ∙ ap (λ (l : List MemhFault). unless (slice_get l 0) (spread given_at [] (said_in words))) (sym (spread_all (faults_at array) words))
    ∙ ap (λ (l : List Write). unless (slice_get (flat_map (faults_at array) (with_before words)) 0) l) (sym (spread_all given_at (said_in words)))
