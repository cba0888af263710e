-- A source is assembled line by line.
use Rattle.std.proofs.Common.{◌≡◌, ◌⊎◌, inl, inr, ℕ, List, [], ◌∷◌, ◌++◌, Option, None, refl, sym, ap, subst, ◌∙◌, append_assoc}
use Rattle.std.proofs.lemmas.List.{append-nil}
use Rattle.lisa_tree.specs.Descriptions.{DescriptionTree}
use Rattle.lisa_engine.specs.declared.parts.ArrayItem.{ArrayItem}
use Rattle.asm_source.specs.Plain.{PlainLine}
use Rattle.asm_source.specs.declared.flaw.SourceFault.{SourceFault}
use Rattle.asm_source.specs.declared.flaw.SourceFault.TheVariants as faults
use Rattle.lisa_object.specs.Objects.{PlainObjectLine, PlainObject}
use Rattle.placed_programs.specs.Entries.{Entry}
use Rattle.lisa_assembler.specs.Faults.{IsFaultOf, IsSourceFault}
use Rattle.lisa_assembler.specs.Objects.{digest_of, IsObjectOf}
use Rattle.lisa_assembler.specs.Sources.{SourceCell, AreEntries, line_names, section_behind}
use Rattle.lisa_assembler.specs.Steps.{IsStep}
use Rattle.lisa_assembler.proofs.Doubles.{AreSingle, single_distinct}
use Rattle.lisa_assembler.proofs.Written.{written, written-append}

-- what is assembled before the lines that are left, of all lines
pub record AreAssembled (d : DescriptionTree) (all : List PlainLine) (here : Option ArrayItem) (names : List (List ℕ)) (lines : List PlainObjectLine) (left : List PlainLine) : Type 0 where
  pub front : List (Entry SourceCell)
  pub is : lines ≡ written d front
  pub entries : (es : List (Entry SourceCell)) → AreEntries d here left es → AreEntries d None all (front ++ es)
  pub faults : (f : SourceFault) → IsSourceFault d here names left f → IsSourceFault d None [] all f
  pub single : AreSingle names left → AreSingle [] all

pub assembled_first : (d : DescriptionTree) (all : List PlainLine) → AreAssembled d all None [] [] all
assembled_first d all = record { front = []; is = refl; entries = λ es are. are; faults = λ f is. is; single = λ s. s }

pub assembled_on : (d : DescriptionTree) (all : List PlainLine) (here next : Option ArrayItem) (names : List (List ℕ)) (old new : List PlainObjectLine) (l : PlainLine) (ls : List PlainLine)
    → AreAssembled d all here names old (l ∷ ls) → IsStep d here names l old new → next ≡ section_behind d here l.part
    → AreAssembled d all next (line_names l ++ names) new ls
assembled_on d all here next names old new l ls a s behind = record {
  front = a.front ++ s.entries;
  is = s.written ∙ ap (λ (xs : List PlainObjectLine). xs ++ written d s.entries) a.is ∙ sym (written-append d a.front s.entries);
  entries = λ es are.
      let moved : a.front ++ (s.entries ++ es) ≡ (a.front ++ s.entries) ++ es = simp append_assoc in
      subst (λ (xs : List (Entry SourceCell)). AreEntries d None all xs) moved
      (a.entries (s.entries ++ es) (s.entries, es, s.are, subst (λ (h : Option ArrayItem). AreEntries d h ls es) behind are, refl));
  faults = λ f is. a.faults f (inr (s.none, subst (λ (h : Option ArrayItem). IsSourceFault d h (line_names l ++ names) ls f) behind is));
  single = λ rest. a.single (s.single, rest);
}

pub assembled_stops : (d : DescriptionTree) (all : List PlainLine) (here : Option ArrayItem) (names : List (List ℕ)) (lines : List PlainObjectLine) (l : PlainLine) (ls : List PlainLine) (f : SourceFault)
    → AreAssembled d all here names lines (l ∷ ls) → IsFaultOf d here names l f → IsSourceFault d None [] all f
assembled_stops d all here names lines l ls f a is = a.faults f (inl is)

pub assembled_all : (d : DescriptionTree) (all : List PlainLine) (here : Option ArrayItem) (names : List (List ℕ)) (lines : List PlainObjectLine) (o : PlainObject)
    → AreAssembled d all here names lines [] → o.digest ≡ digest_of d → o.lines ≡ lines → IsObjectOf d all o
assembled_all d all here names lines o a stamped are = record {
  entries = a.front ++ [];
  source = record { entries = a.entries [] refl; distinct = single_distinct all (a.single tt) };
  stamped = stamped;
  is = are ∙ a.is ∙ ap (λ (es : List (Entry SourceCell)). written d es) none_more;
}
  where
    none_more : a.front ≡ a.front ++ []
    none_more = sym (append-nil a.front)

module _ (d : DescriptionTree) (all : List PlainLine) (here : Option ArrayItem) (names : List (List ℕ)) (lines : List PlainObjectLine) (left : List PlainLine) (l : PlainLine) (ls : List PlainLine) (is : left ≡ l ∷ ls)
    (a : AreAssembled d all here names lines left) where
  at_line : AreAssembled d all here names lines (l ∷ ls)
  at_line = subst (λ (xs : List PlainLine). AreAssembled d all here names lines xs) is a

  -- the fault of the next line is the source's
  pub assembled_or : (f : SourceFault) → (f ≡ faults.NoMemory) ⊎ IsFaultOf d here names l f → (f ≡ faults.NoMemory) ⊎ IsSourceFault d None [] all f
  assembled_or f (inl e) = inl e
  assembled_or f (inr x) = inr (assembled_stops d all here names lines l ls f at_line x)

  pub assembled_next : (next : Option ArrayItem) (new : List PlainObjectLine) → IsStep d here names l lines new → next ≡ section_behind d here l.part → AreAssembled d all next (line_names l ++ names) new ls
  assembled_next next new s behind = assembled_on d all here next names lines new l ls at_line s behind

pub assembled_end : (d : DescriptionTree) (all : List PlainLine) (here : Option ArrayItem) (names : List (List ℕ)) (lines : List PlainObjectLine) (left : List PlainLine) (digest : List ℕ) → left ≡ []
    → AreAssembled d all here names lines left → digest ≡ digest_of d → IsObjectOf d all (record { digest = digest; lines = lines })
assembled_end d all here names lines left digest is a stamped =
    assembled_all d all here names lines (record { digest = digest; lines = lines }) (subst (λ (xs : List PlainLine). AreAssembled d all here names lines xs) is a) stamped refl
