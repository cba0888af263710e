-- Resources are read as they are spelled.
use Rattle.std.proofs.Common.{◌≡◌, ℕ, true, false, List, [], ◌∷◌, ◌++◌, Option, Some, None, refl, sym, ap, subst, ◌∙◌, append_assoc, arith, inl, inr}
use Rattle.lisa_tree.specs.declared.tokens.Keyword.TheVariants as keywords
use Rattle.lisa_tree.specs.declared.tokens.Shape.{Shape}
use Rattle.lisa_tree.specs.declared.tokens.Sign.TheVariants as signs
use Rattle.lisa_tree.specs.declared.tokens.TokenPart.TheVariants as parts
use Rattle.lisa_tree.specs.declared.descriptions.RegisterWord.{RegisterWord}
use Rattle.lisa_tree.specs.declared.descriptions.RegisterWord.TheVariants as registers
use Rattle.lisa_tree.specs.declared.descriptions.MemoryWord.{MemoryWord}
use Rattle.lisa_tree.specs.declared.descriptions.MemoryWord.TheVariants as memories
use Rattle.lisa_tree.specs.Descriptions as descriptions
use Rattle.lisa_tree.specs.Descriptions.{ResourceTree}
use Rattle.lisa_tree.specs.Grammar.{Toks, mark}
use Rattle.lisa_tree.specs.DescriptionGrammar.{word, names_by, register_word, memory_word, SpellsDepth, field_tokens, IsOptional, SpellsResource}
use Rattle.lisa_words.specs.Many.{Each, many, with_front}
use Rattle.lisa_words.specs.Steps.{◌>>=◌}
use Rattle.lisa_words.proofs.StepLaws.{bind_some, some_is}
use Rattle.lisa_words.proofs.ManyLaws.{Shrinks, Takes, TakesAll, shrinks_from, many_sound, IsItem, many_complete}
use Rattle.lisa_behav_reader.specs.Past.{past_of}
use Rattle.lisa_behav_reader.specs.Reading.{name_of}
use Rattle.lisa_behav_reader.proofs.PastLaws.{past_is}
use Rattle.lisa_behav_reader.proofs.ExprSound.{name_front}
use Rattle.lisa_section_reader.specs.Lists.{follows, names_of, without, typed_of, fields_of}
use Rattle.lisa_section_reader.specs.Resources.{depth_of, sized_of, register_of, word_of, clocked_of, memory_of, pin_of, pipeline_of, in_of, boundary_of, resource_of, ends, resources_of}
use Rattle.lisa_section_reader.proofs.ListLaws.{typed_front, names_sound, names_there, is_front, without_is, without_there, fields_sound, fields_there, with_none}

abbrev Taken : Toks → ResourceTree × Toks → Type 0
Taken ts x = Takes SpellsResource ts x

-- a number in brackets
record TakesDepth (ts : Toks) (x : ℕ × Toks) : Type 0 where
  pub front : Toks
  pub parts : ts ≡ front ++ x.1
  pub spells : SpellsDepth front x.0

depth_sound : (ts : Toks) (x : ℕ × Toks) → depth_of ts ≡ Some x → TakesDepth ts x
depth_sound (parts.Sign signs.OpenSquare ∷ parts.Number depth base ∷ parts.Sign signs.CloseSquare ∷ parts.Sign signs.Semicolon ∷ ts) x e =
    subst (λ (y : ℕ × Toks). TakesDepth (mark signs.OpenSquare ∷ parts.Number depth base ∷ mark signs.CloseSquare ∷ mark signs.Semicolon ∷ ts) y) (some_is (depth, ts) x e)
    (record { front = mark signs.OpenSquare ∷ parts.Number depth base ∷ mark signs.CloseSquare ∷ mark signs.Semicolon ∷ []; parts = refl; spells = (base, refl) })
depth_sound _ x e = absurd cc

sized_sound : (kind : RegisterWord) (shape : Shape) (name : List ℕ) (ts : Toks) (x : ResourceTree × Toks) → sized_of kind (shape, name) ts ≡ Some x → Taken (register_word kind ∷ parts.TypeWord shape ∷ parts.Named name ∷ ts) x
sized_sound kind shape name (parts.Sign signs.Semicolon ∷ ts) x e =
    subst (λ (y : ResourceTree × Toks). Taken (register_word kind ∷ parts.TypeWord shape ∷ parts.Named name ∷ mark signs.Semicolon ∷ ts) y) (some_is (descriptions.Register kind shape name None, ts) x e)
    (record { front = register_word kind ∷ parts.TypeWord shape ∷ parts.Named name ∷ mark signs.Semicolon ∷ []; parts = refl; some = omega arith; spells = refl })
sized_sound kind shape name ts x e =
    let p = bind_some (depth_of ts) (λ d. Some (descriptions.Register kind shape name (Some d.0), d.1)) x e in
    let d = depth_sound ts p.0 p.1 in
    let made : ResourceTree × Toks = (descriptions.Register kind shape name (Some p.0.0), p.0.1) in
    subst (λ (y : ResourceTree × Toks). Taken (register_word kind ∷ parts.TypeWord shape ∷ parts.Named name ∷ ts) y) (some_is made x p.2) (record {
      front = register_word kind ∷ parts.TypeWord shape ∷ parts.Named name ∷ d.front;
      parts = ap (λ (l : Toks). register_word kind ∷ parts.TypeWord shape ∷ parts.Named name ∷ l) d.parts;
      some = omega arith;
      spells = (d.front, d.spells, refl);
    })

register_sound : (kind : RegisterWord) (ts : Toks) (x : ResourceTree × Toks) → register_of kind ts ≡ Some x → Taken (register_word kind ∷ ts) x
unfolding register_of
register_sound kind ts x e =
    let p = bind_some (typed_of ts) (λ t. sized_of kind t.0 t.1) x e in
    subst (λ (l : Toks). Taken (register_word kind ∷ l) x) (sym (typed_front ts p.0 p.1)) (sized_sound kind p.0.0.0 p.0.0.1 p.0.1 x p.2)

memory_sound : (kind : MemoryWord) (ts : Toks) (x : ResourceTree × Toks) → memory_of kind ts ≡ Some x → Taken (memory_word kind ∷ ts) x
unfolding memory_of
memory_sound kind ts x e =
    let p = bind_some (typed_of ts) (λ t. depth_of t.1 >>= λ d. Some (descriptions.Memory kind t.0.0 t.0.1 d.0, d.1)) x e in
    let q = bind_some (depth_of p.0.1) (λ d. Some (descriptions.Memory kind p.0.0.0 p.0.0.1 d.0, d.1)) x p.2 in
    let d = depth_sound p.0.1 q.0 q.1 in
    let made : ResourceTree × Toks = (descriptions.Memory kind p.0.0.0 p.0.0.1 q.0.0, q.0.1) in
    subst (λ (y : ResourceTree × Toks). Taken (memory_word kind ∷ ts) y) (some_is made x q.2) (record {
      front = memory_word kind ∷ parts.TypeWord p.0.0.0 ∷ parts.Named p.0.0.1 ∷ d.front;
      parts = ap (λ (l : Toks). memory_word kind ∷ l) (typed_front ts p.0 p.1 ∙ ap (λ (l : Toks). parts.TypeWord p.0.0.0 ∷ parts.Named p.0.0.1 ∷ l) d.parts);
      some = omega arith;
      spells = (d.front, d.spells, refl);
    })

word_front : (ts : Toks) (x : RegisterWord × Toks) → word_of ts ≡ Some x → ts ≡ register_word x.0 ∷ x.1
word_front (parts.Reserved keywords.Register ∷ ts) x e = ap (λ (y : RegisterWord × Toks). register_word y.0 ∷ y.1) (some_is (registers.Register, ts) x e)
word_front (parts.Reserved keywords.ProgramCounter ∷ ts) x e = ap (λ (y : RegisterWord × Toks). register_word y.0 ∷ y.1) (some_is (registers.ProgramCounter, ts) x e)
word_front (parts.Reserved keywords.ControlRegister ∷ ts) x e = ap (λ (y : RegisterWord × Toks). register_word y.0 ∷ y.1) (some_is (registers.ControlRegister, ts) x e)
word_front _ x e = absurd cc

clocked_sound : (ts : Toks) (x : ResourceTree × Toks) → clocked_of ts ≡ Some x → Taken (word keywords.Clocked ∷ ts) x
unfolding clocked_of
clocked_sound ts x e =
    let w = bind_some (word_of ts) (λ w. typed_of w.1 >>= λ t. past_of signs.Semicolon t.1 >>= λ rest. Some (descriptions.Clocked w.0 t.0.0 t.0.1, rest)) x e in
    let p = bind_some (typed_of w.0.1) (λ t. past_of signs.Semicolon t.1 >>= λ rest. Some (descriptions.Clocked w.0.0 t.0.0 t.0.1, rest)) x w.2 in
    let q = bind_some (past_of signs.Semicolon p.0.1) (λ rest. Some (descriptions.Clocked w.0.0 p.0.0.0 p.0.0.1, rest)) x p.2 in
    let made : ResourceTree × Toks = (descriptions.Clocked w.0.0 p.0.0.0 p.0.0.1, q.0) in
    subst (λ (y : ResourceTree × Toks). Taken (word keywords.Clocked ∷ ts) y) (some_is made x q.2) (record {
      front = word keywords.Clocked ∷ register_word w.0.0 ∷ parts.TypeWord p.0.0.0 ∷ parts.Named p.0.0.1 ∷ mark signs.Semicolon ∷ [];
      parts = ap (λ (l : Toks). word keywords.Clocked ∷ l) (word_front ts w.0 w.1 ∙ ap (λ (l : Toks). register_word w.0.0 ∷ l) (typed_front w.0.1 p.0 p.1 ∙ ap (λ (l : Toks). parts.TypeWord p.0.0.0 ∷ parts.Named p.0.0.1 ∷ l) (past_is signs.Semicolon p.0.1 q.0 q.1)));
      some = omega arith;
      spells = refl;
    })

pin_sound : (ts : Toks) (x : ResourceTree × Toks) → pin_of ts ≡ Some x → Taken (word keywords.Pin ∷ ts) x
unfolding pin_of
pin_sound ts x e =
    let p = bind_some (typed_of ts) (λ t. past_of signs.Semicolon t.1 >>= λ rest. Some (descriptions.Pin t.0.0 t.0.1, rest)) x e in
    let q = bind_some (past_of signs.Semicolon p.0.1) (λ rest. Some (descriptions.Pin p.0.0.0 p.0.0.1, rest)) x p.2 in
    let made : ResourceTree × Toks = (descriptions.Pin p.0.0.0 p.0.0.1, q.0) in
    subst (λ (y : ResourceTree × Toks). Taken (word keywords.Pin ∷ ts) y) (some_is made x q.2) (record {
      front = word keywords.Pin ∷ parts.TypeWord p.0.0.0 ∷ parts.Named p.0.0.1 ∷ mark signs.Semicolon ∷ [];
      parts = ap (λ (l : Toks). word keywords.Pin ∷ l) (typed_front ts p.0 p.1 ∙ ap (λ (l : Toks). parts.TypeWord p.0.0.0 ∷ parts.Named p.0.0.1 ∷ l) (past_is signs.Semicolon p.0.1 q.0 q.1));
      some = omega arith;
      spells = refl;
    })

pipeline_sound : (ts : Toks) (x : ResourceTree × Toks) → pipeline_of ts ≡ Some x → Taken (word keywords.Pipeline ∷ ts) x
unfolding pipeline_of
pipeline_sound ts x e =
    let p1 = bind_some (name_of ts) _ x e in
    let p2 = bind_some (past_of signs.Equal p1.0.1) _ x p1.2 in
    let p3 = bind_some (past_of signs.OpenBrace p2.0) _ x p2.2 in
    let p4 = bind_some (names_of signs.Semicolon p3.0) _ x p3.2 in
    let p5 = bind_some (past_of signs.CloseBrace (without signs.Semicolon p4.0.1)) _ x p4.2 in
    let p6 = bind_some (past_of signs.Semicolon p5.0) _ x p5.2 in
    let names = names_sound signs.Semicolon p3.0 p4.0 p4.1 in
    let w = without_is signs.Semicolon p4.0.1 in
    let made : ResourceTree × Toks = (descriptions.Pipeline p1.0.0 p4.0.0, p6.0) in
    let tail : Toks = mark signs.CloseBrace ∷ mark signs.Semicolon ∷ [] in
    let inner : Toks = names_by signs.Semicolon p4.0.0 ++ (w.0 ++ tail) in
    let closing : without signs.Semicolon p4.0.1 ≡ tail ++ p6.0 = past_is signs.CloseBrace (without signs.Semicolon p4.0.1) p5.0 p5.1 ∙ ap (λ (l : Toks). mark signs.CloseBrace ∷ l) (past_is signs.Semicolon p5.0 p6.0 p6.1) in
    let behind : p3.0 ≡ inner ++ p6.0 =
    names.parts ∙ ap (λ (l : Toks). names_by signs.Semicolon p4.0.0 ++ l) (w.2 ∙ ap (λ (l : Toks). w.0 ++ l) closing ∙ sym (append_assoc w.0 tail p6.0))
    ∙ sym (append_assoc (names_by signs.Semicolon p4.0.0) (w.0 ++ tail) p6.0) in
    subst (λ (y : ResourceTree × Toks). Taken (word keywords.Pipeline ∷ ts) y) (some_is made x p6.2) (record {
      front = word keywords.Pipeline ∷ parts.Named p1.0.0 ∷ mark signs.Equal ∷ mark signs.OpenBrace ∷ inner;
      parts = ap (λ (l : Toks). word keywords.Pipeline ∷ l) (name_front ts p1.0 p1.1 ∙ ap (λ (l : Toks). parts.Named p1.0.0 ∷ l) (past_is signs.Equal p1.0.1 p2.0 p2.1 ∙ ap (λ (l : Toks). mark signs.Equal ∷ l) (past_is signs.OpenBrace p2.0 p3.0 p3.1 ∙ ap (λ (l : Toks). mark signs.OpenBrace ∷ l) behind)));
      some = omega arith;
      spells = (w.0, w.1, names.some, refl);
    })

in_front : (ts : Toks) (x : List ℕ × Toks) → in_of ts ≡ Some x → ts ≡ word keywords.In ∷ parts.Named x.0 ∷ x.1
in_front (parts.Reserved keywords.In ∷ parts.Named pipe ∷ ts) x e = ap (λ (y : List ℕ × Toks). word keywords.In ∷ parts.Named y.0 ∷ y.1) (some_is (pipe, ts) x e)
in_front _ x e = absurd cc

boundary_sound : (ts : Toks) (x : ResourceTree × Toks) → boundary_of ts ≡ Some x → Taken (word keywords.PipelineRegister ∷ ts) x
unfolding boundary_of
boundary_sound ts x e =
    let p1 = bind_some (in_of ts) _ x e in
    let p2 = bind_some (past_of signs.OpenBrace p1.0.1) _ x p1.2 in
    let p3 = bind_some (fields_of p2.0) _ x p2.2 in
    let p4 = bind_some (past_of signs.CloseBrace p3.0.1) _ x p3.2 in
    let w = without_is signs.Semicolon p4.0 in
    let made : ResourceTree × Toks = (descriptions.Fields p1.0.0 p3.0.0, without signs.Semicolon p4.0) in
    let inner : Toks = field_tokens p3.0.0 ++ (mark signs.CloseBrace ∷ w.0) in
    let behind : p2.0 ≡ inner ++ without signs.Semicolon p4.0 =
    fields_sound p2.0 p3.0 p3.1 ∙ ap (λ (l : Toks). field_tokens p3.0.0 ++ l) (past_is signs.CloseBrace p3.0.1 p4.0 p4.1 ∙ ap (λ (l : Toks). mark signs.CloseBrace ∷ l) w.2)
    ∙ sym (append_assoc (field_tokens p3.0.0) (mark signs.CloseBrace ∷ w.0) (without signs.Semicolon p4.0)) in
    subst (λ (y : ResourceTree × Toks). Taken (word keywords.PipelineRegister ∷ ts) y) (some_is made x p4.2) (record {
      front = word keywords.PipelineRegister ∷ word keywords.In ∷ parts.Named p1.0.0 ∷ mark signs.OpenBrace ∷ inner;
      parts = ap (λ (l : Toks). word keywords.PipelineRegister ∷ l) (in_front ts p1.0 p1.1 ∙ ap (λ (l : Toks). word keywords.In ∷ parts.Named p1.0.0 ∷ l) (past_is signs.OpenBrace p1.0.1 p2.0 p2.1 ∙ ap (λ (l : Toks). mark signs.OpenBrace ∷ l) behind));
      some = omega arith;
      spells = (w.0, w.1, refl);
    })

pub resource_sound : (ts : Toks) (x : ResourceTree × Toks) → resource_of ts ≡ Some x → Takes SpellsResource ts x
unfolding resource_of
resource_sound (parts.Reserved keywords.Register ∷ ts) x e = register_sound registers.Register ts x e
resource_sound (parts.Reserved keywords.ProgramCounter ∷ ts) x e = register_sound registers.ProgramCounter ts x e
resource_sound (parts.Reserved keywords.ControlRegister ∷ ts) x e = register_sound registers.ControlRegister ts x e
resource_sound (parts.Reserved keywords.Clocked ∷ ts) x e = clocked_sound ts x e
resource_sound (parts.Reserved keywords.Memory ∷ ts) x e = memory_sound memories.Memory ts x e
resource_sound (parts.Reserved keywords.DataMemory ∷ ts) x e = memory_sound memories.DataMemory ts x e
resource_sound (parts.Reserved keywords.ProgramMemory ∷ ts) x e = memory_sound memories.ProgramMemory ts x e
resource_sound (parts.Reserved keywords.Pin ∷ ts) x e = pin_sound ts x e
resource_sound (parts.Reserved keywords.Pipeline ∷ ts) x e = pipeline_sound ts x e
resource_sound (parts.Reserved keywords.PipelineRegister ∷ ts) x e = boundary_sound ts x e
resource_sound _ x e = absurd cc

pub resource_shrinks : Shrinks resource_of
resource_shrinks = shrinks_from SpellsResource resource_of resource_sound

-- ---- what is spelled is read

-- no semicolon follows
abbrev pub NoSemicolon : Toks → Type 0
NoSemicolon ts = is_front signs.Semicolon ts ≡ false

depth_there : (xs rest : Toks) (depth : ℕ) → SpellsDepth xs depth → depth_of (xs ++ rest) ≡ Some (depth, rest)
depth_there xs rest depth (base, is) = ap (λ (l : Toks). depth_of (l ++ rest)) is

sized_there : (kind : RegisterWord) (shape : Shape) (name : List ℕ) (depth : ℕ) (xs rest : Toks) → SpellsDepth xs depth → sized_of kind (shape, name) (xs ++ rest) ≡ Some (descriptions.Register kind shape name (Some depth), rest)
sized_there kind shape name depth xs rest (base, is) = ap (λ (l : Toks). sized_of kind (shape, name) (l ++ rest)) is

register_there : (kind : RegisterWord) (ts : Toks) → resource_of (register_word kind ∷ ts) ≡ register_of kind ts
unfolding resource_of
register_there registers.Register ts = refl
register_there registers.ProgramCounter ts = refl
register_there registers.ControlRegister ts = refl

memory_there : (kind : MemoryWord) (ts : Toks) → resource_of (memory_word kind ∷ ts) ≡ memory_of kind ts
unfolding resource_of
memory_there memories.Memory ts = refl
memory_there memories.DataMemory ts = refl
memory_there memories.ProgramMemory ts = refl

word_there : (kind : RegisterWord) (ts : Toks) → word_of (register_word kind ∷ ts) ≡ Some (kind, ts)
word_there registers.Register ts = refl
word_there registers.ProgramCounter ts = refl
word_there registers.ControlRegister ts = refl

resource_there : (xs rest : Toks) (r : ResourceTree) → SpellsResource xs r → NoSemicolon rest → resource_of (xs ++ rest) ≡ Some (r, rest)
unfolding resource_of register_of clocked_of memory_of pin_of pipeline_of boundary_of
resource_there xs rest (descriptions.Register kind shape name None) is stops = ap (λ (l : Toks). resource_of (l ++ rest)) is ∙ register_there kind _
resource_there xs rest (descriptions.Register kind shape name (Some depth)) (ys, d, is) stops =
    ap (λ (l : Toks). resource_of (l ++ rest)) is ∙ register_there kind (parts.TypeWord shape ∷ parts.Named name ∷ (ys ++ rest)) ∙ sized_there kind shape name depth ys rest d
resource_there xs rest (descriptions.Clocked kind shape name) is stops =
    ap (λ (l : Toks). resource_of (l ++ rest)) is
    ∙ ap (λ (o : Option (RegisterWord × Toks)). o >>= λ word. typed_of word.1 >>= λ t. past_of signs.Semicolon t.1 >>= λ rest. Some (descriptions.Clocked word.0 t.0.0 t.0.1, rest)) (word_there kind (parts.TypeWord shape ∷ parts.Named name ∷ mark signs.Semicolon ∷ rest))
resource_there xs rest (descriptions.Memory kind shape name depth) (ys, d, is) stops =
    ap (λ (l : Toks). resource_of (l ++ rest)) is ∙ memory_there kind (parts.TypeWord shape ∷ parts.Named name ∷ (ys ++ rest))
    ∙ ap (λ (o : Option (ℕ × Toks)). o >>= λ d. Some (descriptions.Memory kind shape name d.0, d.1)) (depth_there ys rest depth d)
resource_there xs rest (descriptions.Pin shape name) is stops = ap (λ (l : Toks). resource_of (l ++ rest)) is
resource_there xs rest (descriptions.Pipeline name stages) (ys, optional, there, is) stops =
    let tail : Toks = mark signs.CloseBrace ∷ mark signs.Semicolon ∷ [] in
    let regrouped : (names_by signs.Semicolon stages ++ (ys ++ tail)) ++ rest ≡ names_by signs.Semicolon stages ++ (ys ++ (tail ++ rest)) =
    append_assoc (names_by signs.Semicolon stages) (ys ++ tail) rest ∙ ap (λ (l : Toks). names_by signs.Semicolon stages ++ l) (append_assoc ys tail rest) in
    ap (λ (l : Toks). resource_of (l ++ rest)) is
    ∙ ap (λ (l : Toks). names_of signs.Semicolon l >>= λ stages. past_of signs.CloseBrace (without signs.Semicolon stages.1) >>= λ c. past_of signs.Semicolon c >>= λ rest. Some (descriptions.Pipeline name stages.0, rest)) regrouped
    ∙ ap (λ (o : Option (List (List ℕ) × Toks)). o >>= λ stages. past_of signs.CloseBrace (without signs.Semicolon stages.1) >>= λ c. past_of signs.Semicolon c >>= λ rest. Some (descriptions.Pipeline name stages.0, rest)) (names_there signs.Semicolon stages (ys ++ (tail ++ rest)) there (no_name ys (tail ++ rest) optional refl))
    ∙ ap (λ (l : Toks). past_of signs.CloseBrace l >>= λ c. past_of signs.Semicolon c >>= λ rest. Some (descriptions.Pipeline name stages, rest)) (without_there signs.Semicolon ys (tail ++ rest) optional refl)
  where
    -- no name stands behind the last semicolon
    no_name : (ys us : Toks) → IsOptional signs.Semicolon ys → us ≡ mark signs.CloseBrace ∷ mark signs.Semicolon ∷ rest → follows signs.Semicolon (ys ++ us) ≡ false
    no_name ys us (inl e) same = ap (λ (l : Toks). follows signs.Semicolon (l ++ us)) e ∙ ap (follows signs.Semicolon) same
    no_name ys us (inr e) same = ap (λ (l : Toks). follows signs.Semicolon (l ++ us)) e ∙ ap (λ (l : Toks). follows signs.Semicolon (mark signs.Semicolon ∷ l)) same
resource_there xs rest (descriptions.Fields pipe fields) (ys, optional, is) stops =
    let regrouped : (field_tokens fields ++ (mark signs.CloseBrace ∷ ys)) ++ rest ≡ field_tokens fields ++ (mark signs.CloseBrace ∷ (ys ++ rest)) = append_assoc (field_tokens fields) (mark signs.CloseBrace ∷ ys) rest in
    ap (λ (l : Toks). resource_of (l ++ rest)) is
    ∙ ap (λ (l : Toks). fields_of l >>= λ fields. past_of signs.CloseBrace fields.1 >>= λ rest. Some (descriptions.Fields pipe fields.0, without signs.Semicolon rest)) regrouped
    ∙ ap (λ (o : Option (List (Shape × List ℕ) × Toks)). o >>= λ fields. past_of signs.CloseBrace fields.1 >>= λ rest. Some (descriptions.Fields pipe fields.0, without signs.Semicolon rest)) (fields_there fields (mark signs.CloseBrace ∷ (ys ++ rest)) refl)
    ∙ ap (λ (l : Toks). Some (descriptions.Fields pipe fields, l)) (without_there signs.Semicolon ys rest optional stops)

-- ---- all resources

no_semicolon_there : (xs rest : Toks) (r : ResourceTree) → SpellsResource xs r → NoSemicolon (xs ++ rest)
no_semicolon_there xs rest (descriptions.Register registers.Register shape name None) is = ap (λ (l : Toks). is_front signs.Semicolon (l ++ rest)) is
no_semicolon_there xs rest (descriptions.Register registers.ProgramCounter shape name None) is = ap (λ (l : Toks). is_front signs.Semicolon (l ++ rest)) is
no_semicolon_there xs rest (descriptions.Register registers.ControlRegister shape name None) is = ap (λ (l : Toks). is_front signs.Semicolon (l ++ rest)) is
no_semicolon_there xs rest (descriptions.Register registers.Register shape name (Some depth)) (ys, d, is) = ap (λ (l : Toks). is_front signs.Semicolon (l ++ rest)) is
no_semicolon_there xs rest (descriptions.Register registers.ProgramCounter shape name (Some depth)) (ys, d, is) = ap (λ (l : Toks). is_front signs.Semicolon (l ++ rest)) is
no_semicolon_there xs rest (descriptions.Register registers.ControlRegister shape name (Some depth)) (ys, d, is) = ap (λ (l : Toks). is_front signs.Semicolon (l ++ rest)) is
no_semicolon_there xs rest (descriptions.Clocked kind shape name) is = ap (λ (l : Toks). is_front signs.Semicolon (l ++ rest)) is
no_semicolon_there xs rest (descriptions.Memory memories.Memory shape name depth) (ys, d, is) = ap (λ (l : Toks). is_front signs.Semicolon (l ++ rest)) is
no_semicolon_there xs rest (descriptions.Memory memories.DataMemory shape name depth) (ys, d, is) = ap (λ (l : Toks). is_front signs.Semicolon (l ++ rest)) is
no_semicolon_there xs rest (descriptions.Memory memories.ProgramMemory shape name depth) (ys, d, is) = ap (λ (l : Toks). is_front signs.Semicolon (l ++ rest)) is
no_semicolon_there xs rest (descriptions.Pin shape name) is = ap (λ (l : Toks). is_front signs.Semicolon (l ++ rest)) is
no_semicolon_there xs rest (descriptions.Pipeline name stages) (ys, optional, there, is) = ap (λ (l : Toks). is_front signs.Semicolon (l ++ rest)) is
no_semicolon_there xs rest (descriptions.Fields pipe fields) (ys, optional, is) = ap (λ (l : Toks). is_front signs.Semicolon (l ++ rest)) is

goes_there : (xs rest : Toks) (r : ResourceTree) → SpellsResource xs r → ends (xs ++ rest) ≡ false
goes_there xs rest (descriptions.Register registers.Register shape name None) is = ap (λ (l : Toks). ends (l ++ rest)) is
goes_there xs rest (descriptions.Register registers.ProgramCounter shape name None) is = ap (λ (l : Toks). ends (l ++ rest)) is
goes_there xs rest (descriptions.Register registers.ControlRegister shape name None) is = ap (λ (l : Toks). ends (l ++ rest)) is
goes_there xs rest (descriptions.Register registers.Register shape name (Some depth)) (ys, d, is) = ap (λ (l : Toks). ends (l ++ rest)) is
goes_there xs rest (descriptions.Register registers.ProgramCounter shape name (Some depth)) (ys, d, is) = ap (λ (l : Toks). ends (l ++ rest)) is
goes_there xs rest (descriptions.Register registers.ControlRegister shape name (Some depth)) (ys, d, is) = ap (λ (l : Toks). ends (l ++ rest)) is
goes_there xs rest (descriptions.Clocked kind shape name) is = ap (λ (l : Toks). ends (l ++ rest)) is
goes_there xs rest (descriptions.Memory memories.Memory shape name depth) (ys, d, is) = ap (λ (l : Toks). ends (l ++ rest)) is
goes_there xs rest (descriptions.Memory memories.DataMemory shape name depth) (ys, d, is) = ap (λ (l : Toks). ends (l ++ rest)) is
goes_there xs rest (descriptions.Memory memories.ProgramMemory shape name depth) (ys, d, is) = ap (λ (l : Toks). ends (l ++ rest)) is
goes_there xs rest (descriptions.Pin shape name) is = ap (λ (l : Toks). ends (l ++ rest)) is
goes_there xs rest (descriptions.Pipeline name stages) (ys, optional, there, is) = ap (λ (l : Toks). ends (l ++ rest)) is
goes_there xs rest (descriptions.Fields pipe fields) (ys, optional, is) = ap (λ (l : Toks). ends (l ++ rest)) is

ends_stop : (rest : Toks) → ends rest ≡ true → NoSemicolon rest
ends_stop (parts.Sign signs.CloseBrace ∷ rest) e = refl
ends_stop _ e = absurd cc

resource_item : IsItem SpellsResource resource_of ends NoSemicolon
resource_item = record { shrinks = resource_shrinks; reads = resource_there; goes = goes_there; before = no_semicolon_there; at_stop = ends_stop }

pub resources_start : (ts : Toks) → with_front [] (many resource_of ends ts) ≡ resources_of ts
unfolding resources_of
resources_start ts = with_none (many resource_of ends ts)

pub resources_sound : (ts : Toks) (x : List ResourceTree × Toks) → resources_of ts ≡ Some x → TakesAll SpellsResource ends ts x
unfolding resources_of
resources_sound ts x e = many_sound SpellsResource resource_of ends resource_sound ts x e

pub resources_there : {ts : Toks} {all : List ResourceTree} → Each SpellsResource ts all → (rest : Toks) → ends rest ≡ true → resources_of (ts ++ rest) ≡ Some (all, rest)
unfolding resources_of
resources_there d rest stops = many_complete resource_item d rest stops
