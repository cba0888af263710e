-- The values of names are noted line by line.
use Rattle.std.proofs.Common.{◌≡◌, ℕ, ℤ, Bool, true, false, cond, List, [], ◌∷◌, ◌++◌, filter, Option, None, Some, refl, sym, ap, subst, ◌∙◌}
use Rattle.std.specs.Prelude.{All, IsTrue}
use Rattle.std.specs.Map.{lookup}
use Rattle.std.specs.Option.{option_or, IfSome}
use Rattle.std.specs.Str.{bytes_eq}
use Rattle.std.proofs.lemmas.List.Elements.{filter-append, All-head, All-tail}
use Rattle.name_tables.specs.TableViews.{value_of}
use Rattle.asm_source.specs.Numbers.{IsShort}
use Rattle.lisa_object.specs.declared.rules.Standing.{Standing}
use Rattle.lisa_object.specs.Objects.{PlainObjectLine}
use Rattle.lisa_object.specs.ObjectRules.{AreLines}
use Rattle.lisa_object.specs.LineMachine.{start, may_follow, after, are_lines}
use Rattle.lisa_object.proofs.LineRules.{rules_make_lines}
use Rattle.placed_programs.specs.Entries.{entries_of}
use Rattle.placed_programs.specs.Addresses.{Counts, no_cells, adding, counts_after, definitions}
use Rattle.placed_programs.specs.Symbols.{with_counts, exports, all_exports}
use Rattle.object_links.specs.LinkFaults.{Entries}
use Rattle.object_links.specs.LineSizes.{line_size, line_enters, count_of}
use Rattle.object_links.proofs.Steps.{or_assoc}
use Rattle.lisa_linker.specs.LineValues.{line_defines}
use Rattle.lisa_linker.specs.Tables.{ByName, NameSet, AreShort, is_wanted}
use Rattle.lisa_linker.proofs.FixBits.{followed}
use Rattle.lisa_linker.proofs.ByLine.{counts_line, defines_line}

abbrev pub Defined : Type 0
Defined = List (List ℕ × ℤ)

looked_by : (b : Bool) (v : ℤ) (xs ys : Option ℤ) (zs : Option ℤ) → xs ≡ option_or ys zs → cond b (Some v) xs ≡ option_or (cond b (Some v) ys) zs
looked_by true v xs ys zs e = refl
looked_by false v xs ys zs e = e

pub lookup-append : (test : List ℕ → Bool) (xs ys : Defined) → lookup test (xs ++ ys) ≡ option_or (lookup test xs) (lookup test ys)
lookup-append test [] ys = refl
lookup-append test (x ∷ xs) ys = looked_by (test x.0) x.1 (lookup test (xs ++ ys)) (lookup test xs) (lookup test ys) (lookup-append test xs ys)

-- what is wanted of these definitions has this value of the name
abbrev pub wanted_value : Option NameSet → List ℕ → Defined → Option ℤ
wanted_value wanted n ds = lookup (bytes_eq n) (filter (λ d. is_wanted wanted d.0) ds)

wanted-append : (wanted : Option NameSet) (n : List ℕ) (xs ys : Defined) → wanted_value wanted n (xs ++ ys) ≡ option_or (wanted_value wanted n xs) (wanted_value wanted n ys)
wanted-append wanted n xs ys =
    ap (λ (ds : Defined). lookup (bytes_eq n) ds) (filter-append (λ (d : List ℕ × ℤ). is_wanted wanted d.0) xs ys)
    ∙ lookup-append (bytes_eq n) (filter (λ d. is_wanted wanted d.0) xs) (filter (λ d. is_wanted wanted d.0) ys)

short_by : (b : Bool) (v : ℤ) (o : Option ℤ) → IsShort 1 v → IfSome o (IsShort 1) → IfSome (cond b (Some v) o) (IsShort 1)
short_by true v o h k = h
short_by false v o h k = k

short_kept : (b : Bool) (n : List ℕ) (d : List ℕ × ℤ) (ds : Defined) → IsShort 1 d.1 → IfSome (lookup (bytes_eq n) ds) (IsShort 1) → IfSome (lookup (bytes_eq n) (cond b (d ∷ ds) ds)) (IsShort 1)
short_kept true n d ds h k = short_by (bytes_eq n d.0) d.1 (lookup (bytes_eq n) ds) h k
short_kept false n d ds h k = k

short_value : (wanted : Option NameSet) (n : List ℕ) (ds : Defined) → All (λ d. IsShort 1 d.1) ds → IfSome (wanted_value wanted n ds) (IsShort 1)
short_value wanted n [] all = tt
short_value wanted n (d ∷ ds) all =
    short_kept (is_wanted wanted d.0) n d (filter (λ e. is_wanted wanted e.0) ds) (All-head (λ e. IsShort 1 e.1) d ds all)
    (short_value wanted n ds (All-tail (λ e. IsShort 1 e.1) d ds all))

short_or : (x y : Option ℤ) → IfSome x (IsShort 1) → IfSome y (IsShort 1) → IfSome (option_or x y) (IsShort 1)
short_or None y h k = k
short_or (Some x) y h k = h

-- what is noted before the lines that are left, of all lines behind so many cells and these values
pub record AreNoted (wanted : Option NameSet) (first : Counts) (old : ByName ℤ) (all : List PlainObjectLine)
    (counts : ByName ℕ) (values : ByName ℤ) (here : Option (List ℕ)) (left : List PlainObjectLine) : Type 0 where
  pub standing : Standing
  pub lines : are_lines standing left ≡ true
  pub short : AreShort values
  pub counted : (m : List ℕ) → counts_after (count_of counts) here (entries_of left) m ≡ counts_after first None (entries_of all) m
  pub noted : (n : List ℕ) → option_or (value_of values n) (wanted_value wanted n (definitions (count_of counts) here (entries_of left)))
      ≡ option_or (value_of old n) (wanted_value wanted n (definitions first None (entries_of all)))

pub noted_first : (wanted : Option NameSet) (counts : ByName ℕ) (values : ByName ℤ) (all : List PlainObjectLine)
    → AreLines all → AreShort values → AreNoted wanted (count_of counts) values all counts values None all
noted_first wanted counts values all rules short = record { standing = start; lines = rules_make_lines all rules; short = short; counted = λ m. refl; noted = λ n. refl }

pub noted_on : (wanted : Option NameSet) (first : Counts) (old : ByName ℤ) (all : List PlainObjectLine)
    (counts next_counts : ByName ℕ) (values next_values : ByName ℤ) (here next : Option (List ℕ)) (l : PlainObjectLine) (ls : List PlainObjectLine)
    → AreNoted wanted first old all counts values here (l ∷ ls)
    → ((st : Standing) → IsTrue (may_follow st l) → All (λ d. IsShort 1 d.1) (line_defines (count_of counts) here l))
    → ((m : List ℕ) → count_of next_counts m ≡ adding here (line_size l) (count_of counts) m)
    → ((n : List ℕ) → value_of next_values n ≡ option_or (value_of values n) (wanted_value wanted n (line_defines (count_of counts) here l)))
    → next ≡ line_enters here l
    → AreNoted wanted first old all next_counts next_values next ls
noted_on wanted first old all counts next_counts values next_values here next l ls a short counted noted enters =
    let f = followed a.standing l ls a.lines in
    let same : count_of next_counts ≡ adding here (line_size l) (count_of counts) = λ i m. counted m i in
    let own : Defined = line_defines (count_of counts) here l in
    let behind : Defined = definitions (adding here (line_size l) (count_of counts)) (line_enters here l) (entries_of ls) in
    let is_behind : definitions (count_of next_counts) next (entries_of ls) ≡ behind =
    ap (λ (c : Counts). definitions c next (entries_of ls)) same ∙ ap (λ (h : Option (List ℕ)). definitions (adding here (line_size l) (count_of counts)) h (entries_of ls)) enters in
    record {
      standing = after a.standing l;
      lines = f.rest;
      short = λ n. let P : Option ℤ → Type 0 = λ v. IfSome v (IsShort 1) in
          subst P (sym (noted n)) (short_or (value_of values n) (wanted_value wanted n own) (a.short n) (short_value wanted n own (short a.standing f.may)));
      counted = λ m.
          ap (λ (c : Counts). counts_after c next (entries_of ls) m) same
          ∙ ap (λ (h : Option (List ℕ)). counts_after (adding here (line_size l) (count_of counts)) h (entries_of ls) m) enters
          ∙ sym (ap (λ (c : Counts). c m) (counts_line (count_of counts) here l ls))
          ∙ a.counted m;
      noted = λ n.
          ap (λ (ds : Defined). option_or (value_of next_values n) (wanted_value wanted n ds)) is_behind
          ∙ ap (λ (v : Option ℤ). option_or v (wanted_value wanted n behind)) (noted n)
          ∙ or_assoc (value_of values n) (wanted_value wanted n own) (wanted_value wanted n behind)
          ∙ ap (λ (v : Option ℤ). option_or (value_of values n) v) (sym (wanted-append wanted n own behind))
          ∙ ap (λ (ds : Defined). option_or (value_of values n) (wanted_value wanted n ds)) (sym (defines_line (count_of counts) here l ls))
          ∙ a.noted n;
    }

-- all definitions are wanted
all_wanted : (ds : Defined) → filter (λ d. is_wanted None d.0) ds ≡ ds
all_wanted [] = refl
all_wanted (d ∷ ds) = ap (λ (es : Defined). d ∷ es) (all_wanted ds)

pub own_wanted : (n : List ℕ) (ds : Defined) → wanted_value None n ds ≡ lookup (bytes_eq n) ds
own_wanted n ds = ap (λ (es : Defined). lookup (bytes_eq n) es) (all_wanted ds)

-- the definitions that a set of names wants are those that pass a test which the set decides
pub shared_wanted : (set : NameSet) (test : List ℕ → Bool) (n : List ℕ) (ds : Defined) → ((k : List ℕ) → is_wanted (Some set) k ≡ test k)
    → wanted_value (Some set) n ds ≡ lookup (bytes_eq n) (filter (λ d. test d.0) ds)
shared_wanted set test n ds same = ap (λ (t : List ℕ → Bool). lookup (bytes_eq n) (filter (λ (d : List ℕ × ℤ). t d.0) ds)) (λ i k. same k i)

-- ---- all objects

-- what is noted of the parts before those that are left
pub record AreShared (all : List Entries) (counts : ByName ℕ) (values : ByName ℤ) (left : List Entries) : Type 0 where
  pub short : AreShort values
  pub noted : (n : List ℕ) → option_or (value_of values n) (lookup (bytes_eq n) (all_exports (with_counts (count_of counts) left)))
      ≡ lookup (bytes_eq n) (all_exports (with_counts no_cells all))

pub shared_first : (all : List Entries) (counts : ByName ℕ) (values : ByName ℤ) → ((m : List ℕ) → count_of counts m ≡ 0) → ((n : List ℕ) → value_of values n ≡ None) → AreShared all counts values all
shared_first all counts values zero none =
    let same : count_of counts ≡ no_cells = λ i m. zero m i in
    record {
      short = λ n. let P : Option ℤ → Type 0 = λ v. IfSome v (IsShort 1) in subst P (sym (none n)) tt;
      noted = λ n.
          ap (λ (v : Option ℤ). option_or v (lookup (bytes_eq n) (all_exports (with_counts (count_of counts) all)))) (none n)
          ∙ ap (λ (c : Counts). lookup (bytes_eq n) (all_exports (with_counts c all))) same;
    }

pub shared_on : (all : List Entries) (counts next_counts : ByName ℕ) (values next_values : ByName ℤ) (es : Entries) (left : List Entries) → AreShared all counts values (es ∷ left)
    → AreShort next_values → ((m : List ℕ) → count_of next_counts m ≡ counts_after (count_of counts) None es m)
    → ((n : List ℕ) → value_of next_values n ≡ option_or (value_of values n) (lookup (bytes_eq n) (exports (count_of counts) es))) → AreShared all next_counts next_values left
shared_on all counts next_counts values next_values es left a short counted noted =
    let same : count_of next_counts ≡ counts_after (count_of counts) None es = λ i m. counted m i in
    let own : Defined = exports (count_of counts) es in
    let rest : Counts → Defined = λ c. all_exports (with_counts c left) in
    record {
      short = short;
      noted = λ n.
          ap (λ (c : Counts). option_or (value_of next_values n) (lookup (bytes_eq n) (rest c))) same
          ∙ ap (λ (v : Option ℤ). option_or v (lookup (bytes_eq n) (rest (counts_after (count_of counts) None es)))) (noted n)
          ∙ or_assoc (value_of values n) (lookup (bytes_eq n) own) (lookup (bytes_eq n) (rest (counts_after (count_of counts) None es)))
          ∙ ap (λ (v : Option ℤ). option_or (value_of values n) v) (sym (lookup-append (bytes_eq n) own (rest (counts_after (count_of counts) None es))))
          ∙ a.noted n;
    }
