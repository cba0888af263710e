-- What segments write, one more after the other.
use Rattle.std.proofs.Common.{◌≡◌, ◌<◌, ◌≤◌, ◌+◌, ◌-◌, ◌++◌, ℕ, zero, suc, List, [], ◌∷◌, Bool, true, false, Option, Some, length, get_or, drop, take, map, refl, sym, ap, ap₂, ◌∙◌, subst, arith, ⊎_elim, append_assoc, append-nil, drop-cons, add-one}
use Rattle.std.specs.Prelude.{slice_index_or}
use Rattle.std.specs.Global.{Vec}
use Rattle.std.specs.List.{flat_map}
use Rattle.std.proofs.Math.ListN.{drop_of_length-le}
use Rattle.std.proofs.lemmas.Bool.{cases_lt}
use Rattle.std.proofs.lemmas.List.{get_or_append_left, get_or-append-add, length-append, length-map, map-append}
use Rattle.lisa_tree.specs.declared.descriptions.CodingItem.{CodingItem}
use Rattle.lisa_tree.specs.declared.descriptions.SyntaxItem.{SyntaxItem}
use Rattle.lisa_tree.specs.declared.descriptions.SyntaxPart.{SyntaxPart}
use Rattle.lisa_tree.specs.Descriptions.{DescriptionTree}
use Rattle.lisa_tree.specs.Operations.{syntax_in, sections_at}
use Rattle.instruction_forms.specs.Described.{items_at}
use Rattle.instruction_texts.specs.Symbols.{Sym, text_sym, written_by, gap, assemble}
use Rattle.text_tables.proofs.Opened.{rest_is}
use Rattle.form_texts.specs.Segments.{Writing, slot_symbols, segment_symbols, written_in, IsWritten, Continues, shown_by, shown_behind, operation_writing, IsLonger, segments_at, AreTemplates}
use Rattle.form_texts.specs.Strings.{strings_at, bytes_of, AreOpened}
use Rattle.form_texts.specs.Syntaxes.{content, element}
use Rattle.form_texts.specs.Written.{shown_items}
use Rattle.form_texts.specs.declared.segments.Segment.{Segment}
use Rattle.form_texts.specs.declared.segments.Segment.TheVariants as segments
use Rattle.form_texts.specs.declared.segments.Slot.{Slot}
use Rattle.form_texts.specs.declared.segments.Templates.{Templates}
use Rattle.form_texts.specs.declared.strings.Strings.{Strings}
use Rattle.form_texts.specs.declared.symbols.Symbol.TheVariants as symbols
use Rattle.form_texts.proofs.Codings.{past_end, elements_are}
use Rattle.form_texts.proofs.Stringed.{pushed}
use Rattle.form_texts.proofs.Tabled.{last_at}

-- ---- byte by byte

pub one_byte : {A : Type 0} (f : A → List (Sym ℕ)) (text : List ℕ) (i : ℕ) (x : A) (before after : List A) (total : List (Sym ℕ)) → i < length text → f x ≡ text_sym (get_or text i 0) ∷ [] → after ≡ before ++ x ∷ []
    → flat_map f before ++ map text_sym (drop i text) ≡ total → flat_map f after ++ map text_sym (drop (i + 1) text) ≡ total
one_byte {A = A} f text i x before after total h is grown so_far =
    let more : List (Sym ℕ) = map text_sym (drop (i + 1) text) in
    let opened : drop i text ≡ get_or text i 0 ∷ drop (i + 1) text = drop-cons text i 0 h ∙ ap (λ (n : ℕ). get_or text i 0 ∷ drop n text) (sym (add-one i)) in
    ap (λ (l : List A). flat_map f l ++ more) grown
    ∙ ap (λ (l : List (Sym ℕ)). l ++ more) (pushed f before x)
    ∙ append_assoc (flat_map f before) (f x) more
    ∙ ap (λ (l : List (Sym ℕ)). flat_map f before ++ (l ++ more)) is
    ∙ ap (λ (l : List ℕ). flat_map f before ++ map text_sym l) (sym opened)
    ∙ so_far

pub last_byte : {A : Type 0} (f : A → List (Sym ℕ)) (text : List ℕ) (i : ℕ) (all : List A) (total : List (Sym ℕ)) → length text ≤ i → flat_map f all ++ map text_sym (drop i text) ≡ total → flat_map f all ≡ total
last_byte f text i all total past so_far =
    sym (append-nil (flat_map f all)) ∙ ap (λ (l : List ℕ). flat_map f all ++ map text_sym l) (sym (drop_of_length-le text past)) ∙ so_far

-- ---- the text so far is ended

-- byte by byte
pub short_on : (all : List Strings) (old new : List Segment) (text none : List ℕ) → none ≡ []
    → ((all : List Strings) (fields : List (ℕ × ℕ)) (parts : List (List (Sym ℕ))) → written_in all new fields parts ≡ written_in all old fields parts ++ map text_sym text)
    → (rest whole : Writing) → Continues all old text rest whole → Continues all new none rest whole
short_on all old new text none empty grown rest whole so_far more fields parts =
    let here = written_in (all ++ more) old fields parts in
    ap₂ (λ (w : List (Sym ℕ)) (t : List ℕ). w ++ (map text_sym t ++ rest fields parts)) (grown (all ++ more) fields parts) empty
    ∙ append_assoc here (map text_sym text) (rest fields parts)
    ∙ so_far more fields parts

-- as strings that are kept
pub long_on : (all longer : List Strings) (s : Strings) (n : ℕ) (old new : List Segment) (text none : List ℕ) → longer ≡ all ++ s ∷ [] → s.text.items ≡ text → n ≡ length all → none ≡ []
    → new ≡ old ++ segments.Same (symbols.Strings n) ∷ [] → (rest whole : Writing) → Continues all old text rest whole → Continues longer new none rest whole
long_on all longer s n old new text none are is number empty grown rest whole so_far more fields parts =
    let with_it : List Strings = longer ++ more in
    let same : with_it ≡ all ++ s ∷ more = ap (λ (l : List Strings). l ++ more) are ∙ append_assoc all (s ∷ []) more in
    let at : strings_at with_it n ≡ Some s = ap₂ (λ (l : List Strings) (k : ℕ). strings_at l k) same number ∙ last_at all more s in
    let f : Segment → List (Sym ℕ) = segment_symbols with_it fields parts in
    let behind : List (Sym ℕ) = rest fields parts in
    ap₂ (λ (l : List Segment) (t : List ℕ). flat_map f l ++ (map text_sym t ++ behind)) grown empty
    ∙ ap (λ (l : List (Sym ℕ)). l ++ behind) (pushed f old (segments.Same (symbols.Strings n)))
    ∙ append_assoc (flat_map f old) (map text_sym (bytes_of (strings_at with_it n))) behind
    ∙ ap (λ (r : Option Strings). flat_map f old ++ (map text_sym (bytes_of r) ++ behind)) at
    ∙ ap (λ (b : List ℕ). flat_map f old ++ (map text_sym b ++ behind)) is
    ∙ ap (λ (l : List Strings). written_in l old fields parts ++ (map text_sym text ++ behind)) same
    ∙ so_far (s ∷ more) fields parts

-- ---- one more slot, string or gap

pub slot_on : (all : List Strings) (old new : List Segment) (text : List ℕ) (slot : Slot) → text ≡ [] → new ≡ old ++ segments.Open slot ∷ []
    → (rest whole : Writing) → Continues all old text (λ fields parts. slot_symbols slot fields parts ++ rest fields parts) whole → Continues all new text rest whole
slot_on all old new text slot none grown rest whole so_far more fields parts =
    let f : Segment → List (Sym ℕ) = segment_symbols (all ++ more) fields parts in
    let own : List (Sym ℕ) = slot_symbols slot fields parts in
    ap₂ (λ (l : List Segment) (t : List ℕ). flat_map f l ++ (map text_sym t ++ rest fields parts)) grown none
    ∙ ap (λ (l : List (Sym ℕ)). l ++ rest fields parts) (pushed f old (segments.Open slot))
    ∙ append_assoc (flat_map f old) own (rest fields parts)
    ∙ ap (λ (t : List ℕ). flat_map f old ++ (map text_sym t ++ (own ++ rest fields parts))) (sym none)
    ∙ so_far more fields parts

pub text_on : (all : List Strings) (here : List Segment) (old new text : List ℕ) → new ≡ old ++ text
    → (rest whole : Writing) → Continues all here old (λ fields parts. map text_sym text ++ rest fields parts) whole → Continues all here new rest whole
text_on all here old new text grown rest whole so_far more fields parts =
    let before : List (Sym ℕ) = written_in (all ++ more) here fields parts in
    ap (λ (t : List ℕ). before ++ (map text_sym t ++ rest fields parts)) grown
    ∙ ap (λ (w : List (Sym ℕ)). before ++ (w ++ rest fields parts)) (map-append text_sym old text)
    ∙ ap (λ (w : List (Sym ℕ)). before ++ w) (append_assoc (map text_sym old) (map text_sym text) (rest fields parts))
    ∙ so_far more fields parts

-- the element that is added
pub one_content : (all : List Strings) (here : List Segment) (text : List ℕ) (items : List CodingItem) (x y : SyntaxPart) → x ≡ y → (rest whole : Writing)
    → Continues all here text (λ fields parts. written_by fields parts (content items x) ++ rest fields parts) whole → Continues all here text (λ fields parts. written_by fields parts (content items y) ++ rest fields parts) whole
one_content all here text items x y is rest whole so_far =
    subst (λ (z : SyntaxPart). Continues all here text (λ fields parts. written_by fields parts (content items z) ++ rest fields parts) whole) is so_far

-- the rest may be written in another way
pub same_rest : (all : List Strings) (here : List Segment) (text : List ℕ) (rest other whole : Writing) → ((fields : List (ℕ × ℕ)) (parts : List (List (Sym ℕ))) → other fields parts ≡ rest fields parts)
    → Continues all here text rest whole → Continues all here text other whole
same_rest all here text rest other whole same so_far more fields parts =
    ap (λ (l : List (Sym ℕ)). written_in (all ++ more) here fields parts ++ (map text_sym text ++ l)) (same fields parts) ∙ so_far more fields parts

-- a gap before the element, or none
pub unjoined_on : (all : List Strings) (here : List Segment) (old new : List ℕ) (joined : Bool) → joined ≡ false → new ≡ old ++ 32 ∷ []
    → (rest whole : Writing) → Continues all here old (λ fields parts. gap joined ++ rest fields parts) whole → Continues all here new rest whole
unjoined_on all here old new joined is grown rest whole so_far =
    text_on all here old new (32 ∷ []) grown rest whole
    (same_rest all here old (λ fields parts. gap joined ++ rest fields parts) (λ fields parts. map text_sym (32 ∷ []) ++ rest fields parts) whole (λ fields parts. ap (λ (b : Bool). gap b ++ rest fields parts) (sym is)) so_far)

pub joined_on : (all : List Strings) (here : List Segment) (text : List ℕ) (joined : Bool) → joined ≡ true → (rest whole : Writing) → Continues all here text (λ fields parts. gap joined ++ rest fields parts) whole → Continues all here text rest whole
joined_on all here text joined is rest whole so_far =
    same_rest all here text (λ fields parts. gap joined ++ rest fields parts) rest whole (λ fields parts. ap (λ (b : Bool). gap b ++ rest fields parts) (sym is)) so_far

-- ---- a whole syntax

pub first_shown : (all : List Strings) (here : List Segment) (text : List ℕ) (whole : Writing) → here ≡ [] → text ≡ [] → Continues all here text whole whole
first_shown all here text whole none empty more fields parts =
    ap₂ (λ (l : List Segment) (t : List ℕ). written_in (all ++ more) l fields parts ++ (map text_sym t ++ whole fields parts)) none empty

pub no_elements : (items : List CodingItem) (shown : List SyntaxItem) → length shown < 1 → (fields : List (ℕ × ℕ)) (parts : List (List (Sym ℕ))) → [] ≡ shown_by items shown fields parts
no_elements items [] h fields parts = refl
no_elements items (x ∷ shown) h fields parts = absurd (omega (arith, h))

split_first : (all : List SyntaxItem) (x : SyntaxItem) → 1 ≤ length all → x ≡ get_or all 0 x → all ≡ x ∷ take (length all - 1) (drop 1 all)
split_first [] x h is = absurd (omega (arith, h))
split_first (y ∷ all) x h is = ap₂ (λ (z : SyntaxItem) (l : List SyntaxItem). z ∷ l) (sym is) (sym (rest_is 1 (y ∷ all)))

-- where the first element is still to be written
pub one_first : (all : List Strings) (here : List Segment) (text : List ℕ) (items : List CodingItem) (shown : List SyntaxItem) (x : SyntaxItem) → here ≡ [] → text ≡ [] → 1 ≤ length shown → x ≡ get_or shown 0 x
    → Continues all here text (λ fields parts. written_by fields parts (content items x.part) ++ shown_behind items (take (length shown - 1) (drop 1 shown)) fields parts) (shown_by items shown)
one_first all here text items shown x none empty long is =
    same_rest all here text (shown_by items shown) (λ fields parts. written_by fields parts (content items x.part) ++ shown_behind items (take (length shown - 1) (drop 1 shown)) fields parts) (shown_by items shown)
    (λ fields parts. sym (ap (λ (l : List SyntaxItem). shown_by items l fields parts) (split_first shown x long is)))
    (first_shown all here text (shown_by items shown) none empty)

pub one_shown : (items : List CodingItem) (all : List SyntaxItem) (i : ℕ) (x : SyntaxItem) → i < length all → x ≡ get_or all i x → (fields : List (ℕ × ℕ)) (parts : List (List (Sym ℕ)))
    → gap x.joined ++ (written_by fields parts (content items x.part) ++ shown_behind items (drop (i + 1) all) fields parts) ≡ shown_behind items (drop i all) fields parts
one_shown items all i x h is fields parts =
    let opened : drop i all ≡ x ∷ drop (i + 1) all = drop-cons all i x h ∙ ap₂ (λ (y : SyntaxItem) (n : ℕ). y ∷ drop n all) (sym is) (sym (add-one i)) in
    sym (ap (λ (l : List SyntaxItem). shown_behind items l fields parts) opened)

pub none_shown : (items : List CodingItem) (all : List SyntaxItem) (i : ℕ) → length all ≤ i → (fields : List (ℕ × ℕ)) (parts : List (List (Sym ℕ))) → [] ≡ shown_behind items (drop i all) fields parts
none_shown items all i past fields parts = sym (ap (λ (l : List SyntaxItem). shown_behind items l fields parts) (drop_of_length-le all past))

-- where nothing is left
pub all_shown : (all : List Strings) (here : List Segment) (text : List ℕ) (whole : Writing) → text ≡ [] → Continues all here text (λ fields parts. []) whole → IsWritten all here whole
all_shown all here text whole none so_far more fields parts =
    let before : List (Sym ℕ) = written_in (all ++ more) here fields parts in
    sym (append-nil before) ∙ ap (λ (t : List ℕ). before ++ (map text_sym t ++ [])) (sym none) ∙ so_far more fields parts

-- ---- all operations

pub still_written : (all longer : List Strings) (here : List Segment) (writing : Writing) → IsLonger all longer → IsWritten all here writing → IsWritten longer here writing
still_written all longer here writing grown so_far more fields parts =
    ap (λ (l : List Strings). written_in l here fields parts) (ap (λ (l : List Strings). l ++ more) grown.1 ∙ append_assoc all grown.0 more) ∙ so_far (grown.0 ++ more) fields parts

-- the first n operations are gone through
pub record Templated (d : DescriptionTree) (n : ℕ) (all : List Strings) (here : List (Vec Segment)) : Type 0 where
  pub count : length here ≡ n
  pub written : (o : ℕ) → o < n → IsWritten all (segments_at here o) (operation_writing d o)

pub none_templated : (d : DescriptionTree) (all : List Strings) (here : List (Vec Segment)) → here ≡ [] → Templated d 0 all here
none_templated d all here none = record {
  count = ap length none;
  written = λ o h. absurd (omega (arith, h));
}

module _ (d : DescriptionTree) (n : ℕ) (all longer : List Strings) (old new : List (Vec Segment)) (v : Vec Segment) (grown : IsLonger all longer) (is : new ≡ old ++ v ∷ []) (so_far : Templated d n all old) where
  segment_lists : List (Vec Segment) → List (List Segment)
  segment_lists l = map (λ (v : Vec Segment). v.items) l

  lists : segment_lists new ≡ segment_lists old ++ v.items ∷ []
  unfolding segment_lists
  lists = ap (map (λ (v : Vec Segment). v.items)) is ∙ map-append (λ (v : Vec Segment). v.items) old (v ∷ [])

  counted : length (segment_lists old) ≡ n
  unfolding segment_lists
  counted = length-map old (λ (v : Vec Segment). v.items) ∙ so_far.count

  before : (o : ℕ) → o < n → segments_at old o ≡ segments_at new o
  unfolding segment_lists
  before o h = sym (ap (λ (l : List (List Segment)). slice_index_or l o []) lists ∙ get_or_append_left (segment_lists old) (v.items ∷ []) [] o (let c = counted in omega (arith, h, c)))

  last : (o : ℕ) → o ≡ n → v.items ≡ segments_at new o
  unfolding segment_lists
  last o e =
      let at : o ≡ length (segment_lists old) + 0 = (let c = counted in omega (arith, e, c)) in
      sym (ap (λ (l : List (List Segment)). slice_index_or l o []) lists ∙ ap (λ (k : ℕ). slice_index_or (segment_lists old ++ v.items ∷ []) k []) at ∙ get_or-append-add (segment_lists old) (v.items ∷ []) 0 [])

  pub more_templated : (items : List CodingItem) → items ≡ items_at d n → (shown : List SyntaxItem) → shown ≡ shown_items (syntax_in (sections_at d n)) → IsWritten longer v.items (shown_by items shown) → Templated d (n + 1) longer new
  more_templated items items_are shown shown_are here = record {
    count = ap length is ∙ length-append old (v ∷ []) ∙ ap (λ (m : ℕ). m + 1) so_far.count;
    written = λ o h. ⊎_elim
        (λ (less : o < n). subst (λ (l : List Segment). IsWritten longer l (operation_writing d o)) (before o less) (still_written all longer (segments_at old o) (operation_writing d o) grown (so_far.written o less)))
        (λ (le : n ≤ o).
        let at : o ≡ n = omega (arith, h, le) in
        subst (λ (l : List Segment). IsWritten longer l (operation_writing d o)) (last o at)
        (λ more fields parts. here more fields parts
        ∙ ap₂ (λ (xs : List CodingItem) (ss : List SyntaxItem). assemble fields parts (map (element xs) ss)) items_are shown_are
        ∙ ap (assemble fields parts) (sym (elements_are (items_at d n) (syntax_in (sections_at d n))))
        ∙ ap (λ (k : ℕ). operation_writing d k fields parts) (sym at)))
        (cases_lt o n);
  }

past_segments : (all : List (Vec Segment)) (o : ℕ) → length all ≤ o → segments_at all o ≡ []
past_segments [] o h = refl
past_segments (v ∷ all) zero h = absurd (omega (arith, h))
past_segments (v ∷ all) (suc o) h = past_segments all o (omega (arith, h))

pub all_templated : (d : DescriptionTree) (n : ℕ) (t : Templates) → length d.operations ≤ n → AreOpened t.table → Templated d n t.table.strings.items t.segments.items → AreTemplates d t
all_templated d n t past opened all = record {
  opened = opened;
  written = λ o fields parts. ⊎_elim
      (λ (less : o < n). ap (λ (l : List Strings). written_in l (segments_at t.segments.items o) fields parts) (sym (append-nil t.table.strings.items)) ∙ all.written o less [] fields parts)
      (λ (le : n ≤ o).
      let c = all.count in
      ap (λ (l : List Segment). written_in t.table.strings.items l fields parts) (past_segments t.segments.items o (omega (arith, le, c)))
      ∙ ap (assemble fields parts) (sym (past_end d o (omega (arith, past, le)))))
      (cases_lt o n);
}

-- ---- the symbols of a form

pub one_segment : (all : List Strings) (here : List Segment) (i : ℕ) (x d : Segment) (before after total : List (Sym ℕ)) (fields : List (ℕ × ℕ)) (parts : List (List (Sym ℕ))) → i < length here → x ≡ get_or here i d
    → after ≡ before ++ segment_symbols all fields parts x → before ++ written_in all (drop i here) fields parts ≡ total → after ++ written_in all (drop (i + 1) here) fields parts ≡ total
one_segment all here i x d before after total fields parts h is grown so_far =
    let more = written_in all (drop (i + 1) here) fields parts in
    let opened : drop i here ≡ x ∷ drop (i + 1) here = drop-cons here i d h ∙ ap₂ (λ (y : Segment) (n : ℕ). y ∷ drop n here) (sym is) (sym (add-one i)) in
    ap (λ (l : List (Sym ℕ)). l ++ more) grown
    ∙ append_assoc before (segment_symbols all fields parts x) more
    ∙ ap (λ (l : List Segment). before ++ written_in all l fields parts) (sym opened)
    ∙ so_far

pub last_segment : (all : List Strings) (here : List Segment) (i : ℕ) (made total : List (Sym ℕ)) (fields : List (ℕ × ℕ)) (parts : List (List (Sym ℕ))) → length here ≤ i → made ++ written_in all (drop i here) fields parts ≡ total → made ≡ total
last_segment all here i made total fields parts past so_far =
    sym (append-nil made) ∙ ap (λ (l : List Segment). made ++ written_in all l fields parts) (sym (drop_of_length-le here past)) ∙ so_far
