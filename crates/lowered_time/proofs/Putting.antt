-- What the parts of an edge put behind a draft, from what each of their pieces puts there.
use Rattle.std.proofs.Common.{◌≡◌, ℕ, suc, ◌<◌, Bool, true, false, ◌&&◌, cond, [], ◌∷◌, ◌++◌, Option, None, Some, refl, sym, ap, ◌∙◌, subst, arith, nat_eq}
use Rattle.std.specs.Prelude.{Result, Ok, Err, OnOk}
use Rattle.std.specs.Option.{option_map}
use Rattle.std.proofs.lemmas.Bool.{both_ways, ne_eqb}
use Rattle.step_program.specs.Programs.{Expr, Temp, ToTemp}
use Rattle.step_pieces.specs.declared.drafts.Draft.{Draft}
use Rattle.step_pieces.specs.declared.leaves.Leaf.{Leaf}
use Rattle.step_pieces.specs.Pieces.{Builder, always}
use Rattle.step_pieces.specs.Drafts.{leaf_tree}
use Rattle.pipeline_time.specs.Acts.{Acts, Done, Act, When, size}
use Rattle.pipeline_time.specs.Cores.{Core}
use Rattle.lowered_time.specs.Pieces.{nothing, steps, chain, bind, given, holding, both, none}
use Rattle.lowered_time.specs.Building.{Operations, Layout, taken_at, slot_at, open_at, own_row, chosen, slotted, rooted, recorded, occurrence, is_idle, active, waits, due, turn_of, controls, stage_word, turn, turns, main_run, bit_ends, set_place, next_bit, next_word, ends}
use Rattle.lowered_time.specs.Code.{Adds, Makes}
use Rattle.lowered_time.proofs.Adding.{adds_nothing, adds_chain, adds_bind, adds_steps, adds_three}

module _ {R M : Type 0} (core : Core R M) (ops : Operations) (layout : Layout) where
  -- ---- occurrences

  pub slot_made : (guard test word : Expr) (a b c d : Draft) (decoded : Leaf) → test ≡ ops.decodes 0 → word ≡ ops.word 0
      → Makes (holding 1 (both guard test)) a b decoded
      → Adds (steps (given (leaf_tree decoded) (ToTemp slot_at) word ∷ [])) b c
      → Adds (steps (given (leaf_tree decoded) (ToTemp taken_at) always ∷ [])) c d
      → Adds (slotted core ops layout guard) a d
  slot_made guard test word a b c d decoded is_test is_word made first second =
      adds_bind (holding 1 (both guard (ops.decodes 0))) (λ x. steps (given x (ToTemp slot_at) (ops.word 0) ∷ given x (ToTemp taken_at) always ∷ [])) a b d decoded
      (subst (λ (e : Expr). Makes (holding 1 (both guard e)) a b decoded) is_test made)
      (adds_steps (given (leaf_tree decoded) (ToTemp slot_at) (ops.word 0) ∷ []) (given (leaf_tree decoded) (ToTemp taken_at) always ∷ []) b c d
      (subst (λ (e : Expr). Adds (steps (given (leaf_tree decoded) (ToTemp slot_at) e ∷ [])) b c) is_word first) second)

  pub word_taken : (number : ℕ) (guard : Expr) (a b c d : Draft) (word : Leaf) → core.is_root number ≡ true
      → Makes ops.fetch a b word → Adds (ops.load 0 (leaf_tree word)) b c → Adds (slotted core ops layout guard) c d
      → Adds (rooted core ops layout (core.is_root number) guard) a d
  word_taken number guard a b c d word is made loaded slot =
      subst (λ (t : Bool). Adds (rooted core ops layout t guard) a d) (sym is)
      (adds_bind ops.fetch (λ w. chain (ops.load 0 w) (slotted core ops layout guard)) a b d word made
      (adds_chain (ops.load 0 (leaf_tree word)) (slotted core ops layout guard) b c d loaded slot))

  pub no_word_taken : (number : ℕ) (guard : Expr) (a : Draft) → core.is_root number ≡ false → Adds (rooted core ops layout (core.is_root number) guard) a a
  no_word_taken number guard a is = subst (λ (t : Bool). Adds (rooted core ops layout t guard) a a) (sym is) (adds_nothing a)

  pub chosen_before : (number : ℕ) (past : Bool) (row : Option ℕ) (guard : Leaf) (a : Draft) → past ≡ false → Makes (chosen core ops layout number past row (leaf_tree guard)) a a guard
  chosen_before number false row guard a is = record { added = adds_nothing a; is_out = refl }
  chosen_before number true row guard a is = absurd (both_ways true is refl)

  pub chosen_without : (number : ℕ) (past : Bool) (guard : Leaf) (a : Draft) → past ≡ true → Makes (chosen core ops layout number past None (leaf_tree guard)) a a guard
  chosen_without number false guard a is = absurd (both_ways false refl is)
  chosen_without number true guard a is = record { added = adds_nothing a; is_out = refl }

  pub chosen_with : (number : ℕ) (past : Bool) (row : ℕ) (guard test : Expr) (a b : Draft) (out : Leaf) → past ≡ true → test ≡ ops.chooses row number
      → Makes (holding 1 (both guard test)) a b out → Makes (chosen core ops layout number past (Some row) guard) a b out
  chosen_with number false row guard test a b out is is_test made = absurd (both_ways false refl is)
  chosen_with number true row guard test a b out is is_test made = subst (λ (e : Expr). Makes (holding 1 (both guard e)) a b out) is_test made

  -- an occurrence's items behind its word and its BEHAVIOR
  pub begun_with : (number : ℕ) (row : Option ℕ) (guard : Expr) (items : Builder) (a b c : Draft)
      → Adds (chain (rooted core ops layout (core.is_root number) guard) (ops.behavior number row guard)) a b → Adds items b c
      → Adds (chain (rooted core ops layout (core.is_root number) guard) (chain (ops.behavior number row guard) items)) a c
  begun_with number row guard items a b c first second = adds_three (rooted core ops layout (core.is_root number) guard) (ops.behavior number row guard) items a b c first second

  -- an occurrence, whose row, guard and items are these
  pub occurrence_put : (here number : ℕ) (past : Bool) (row own_part : Option ℕ) (guard own_guard : Expr) (acts own : Acts) (a b : Draft)
      → own_part ≡ own_row core ops layout number past row → own_guard ≡ guard → own ≡ acts
      → Adds (chain (rooted core ops layout (core.is_root number) own_guard) (chain (ops.behavior number own_part own_guard) (active core ops layout here own_part own_guard own))) a b
      → Adds (occurrence core ops layout number past row guard (active core ops layout here (own_row core ops layout number past row) guard acts)) a b
  occurrence_put here number past row own_part guard own_guard acts own a b is_row is_guard is_own put =
      let row_put =
      subst (λ (r : Option ℕ). Adds (chain (rooted core ops layout (core.is_root number) own_guard) (chain (ops.behavior number r own_guard) (active core ops layout here r own_guard own))) a b) is_row put
      in
      let guard_put = subst (λ (g : Expr). Adds (occurrence core ops layout number past row g (active core ops layout here (own_row core ops layout number past row) g own)) a b) is_guard row_put in
      subst (λ (t : Acts). Adds (occurrence core ops layout number past row guard (active core ops layout here (own_row core ops layout number past row) guard t)) a b) is_own guard_put

  module _ (here : ℕ) (row : Option ℕ) (guard : Expr) where
    abbrev mine : ℕ → Bool → Option ℕ
    mine number past = own_row core ops layout number past row

    abbrev items_of : ℕ → Bool → Acts → Expr → Builder
    items_of number past own x = active core ops layout here (mine number past) x own

    abbrev used : ℕ → ℕ → Bool → Acts → Expr → Builder
    used number level past own x = cond (nat_eq level here) (occurrence core ops layout number past row x (items_of number past own x)) (recorded core ops layout number x)

    -- an item: its own piece, where it isn't idle, and what follows it
    item_goes : (number level : ℕ) (past : Bool) (own rest : Acts) (a b c d : Draft) (x : Leaf) → (nat_eq level here && is_idle core ops layout number own) ≡ false
        → Makes (chosen core ops layout number past row guard) a b x
        → Adds (used number level past own (leaf_tree x)) b c
        → Adds (active core ops layout here row guard rest) c d
        → Adds (active core ops layout here row guard (Act number level past own rest)) a d
    item_goes number level past own rest a b c d x busy made put others =
        let one = bind (chosen core ops layout number past row guard) (used number level past own) in
        adds_chain (cond (nat_eq level here && is_idle core ops layout number own) nothing one) (active core ops layout here row guard rest) a c d
        (subst (λ (t : Bool). Adds (cond t nothing one) a c) (sym busy)
        (adds_bind (chosen core ops layout number past row guard) (used number level past own) a b c x made put))
        others

    -- an idle item that would run here takes no steps
    pub item_idle : (number level : ℕ) (past : Bool) (own rest : Acts) (a b : Draft) → (nat_eq level here && is_idle core ops layout number own) ≡ true
        → Adds (active core ops layout here row guard rest) a b
        → Adds (active core ops layout here row guard (Act number level past own rest)) a b
    item_idle number level past own rest a b idle others =
        let one = bind (chosen core ops layout number past row guard) (used number level past own) in
        adds_chain (cond (nat_eq level here && is_idle core ops layout number own) nothing one) (active core ops layout here row guard rest) a a b
        (subst (λ (t : Bool). Adds (cond t nothing one) a a) (sym idle) (adds_nothing a))
        others

    pub item_here : (number level : ℕ) (past : Bool) (own rest : Acts) (own_part : Option ℕ) (a b c d e : Draft) (x y : Leaf) → nat_eq level here ≡ true → (nat_eq level here && is_idle core ops layout number own) ≡ false
        → own_part ≡ mine number past → y ≡ x
        → Makes (chosen core ops layout number past row guard) a b x
        → Adds (chain (rooted core ops layout (core.is_root number) (leaf_tree y)) (ops.behavior number own_part (leaf_tree y))) b c
        → Adds (active core ops layout here own_part (leaf_tree y) own) c d
        → Adds (active core ops layout here row guard rest) d e
        → Adds (active core ops layout here row guard (Act number level past own rest)) a e
    item_here number level past own rest own_part a b c d e x y same busy is_row is_guard made begun items others =
        let put =
        begun_with number own_part (leaf_tree y) (active core ops layout here own_part (leaf_tree y) own) b c d begun items
        in
        let row_put =
        subst (λ (r : Option ℕ). Adds (chain (rooted core ops layout (core.is_root number) (leaf_tree y)) (chain (ops.behavior number r (leaf_tree y)) (active core ops layout here r (leaf_tree y) own))) b d) is_row put
        in
        let guard_put = subst (λ (g : Leaf). Adds (occurrence core ops layout number past row (leaf_tree g) (items_of number past own (leaf_tree g))) b d) is_guard row_put in
        item_goes number level past own rest a b d e x busy made
        (subst (λ (t : Bool). Adds (cond t (occurrence core ops layout number past row (leaf_tree x) (items_of number past own (leaf_tree x))) (recorded core ops layout number (leaf_tree x))) b d) (sym same) guard_put)
        others

    pub item_later : (number level : ℕ) (past : Bool) (own rest : Acts) (a b c d : Draft) (x : Leaf) → nat_eq level here ≡ false
        → Makes (chosen core ops layout number past row guard) a b x
        → Adds (recorded core ops layout number (leaf_tree x)) b c
        → Adds (active core ops layout here row guard rest) c d
        → Adds (active core ops layout here row guard (Act number level past own rest)) a d
    item_later number level past own rest a b c d x later made noted others =
        item_goes number level past own rest a b c d x (ap (λ (t : Bool). t && is_idle core ops layout number own) later) made
        (subst (λ (t : Bool). Adds (cond t (occurrence core ops layout number past row (leaf_tree x) (items_of number past own (leaf_tree x))) (recorded core ops layout number (leaf_tree x))) b c) (sym later) noted)
        others

    abbrev branches : Acts → Acts → Expr → Builder
    branches taken other holds =
        bind (holding 1 (both guard holds)) (λ taking.
        bind (holding 1 (both guard (none holds))) (λ leaving.
        chain (active core ops layout here row taking taken) (active core ops layout here row leaving other)))

    pub if_put : (number test : ℕ) (taken other rest : Acts) (a b c d e f g : Draft) (holds taking leaving : Leaf)
        → Makes (ops.condition number test row) a b holds
        → Makes (holding 1 (both guard (leaf_tree holds))) b c taking
        → Makes (holding 1 (both guard (none (leaf_tree holds)))) c d leaving
        → Adds (active core ops layout here row (leaf_tree taking) taken) d e
        → Adds (active core ops layout here row (leaf_tree leaving) other) e f
        → Adds (active core ops layout here row guard rest) f g
        → Adds (active core ops layout here row guard (When number test taken other rest)) a g
    if_put number test taken other rest a b c d e f g holds taking leaving made first second third fourth others =
        let both_branches = adds_chain (active core ops layout here row (leaf_tree taking) taken) (active core ops layout here row (leaf_tree leaving) other) d e f third fourth in
        let leave = adds_bind (holding 1 (both guard (none (leaf_tree holds)))) (λ y. chain (active core ops layout here row (leaf_tree taking) taken) (active core ops layout here row y other)) c d f leaving second both_branches in
        let take =
        adds_bind (holding 1 (both guard (leaf_tree holds)))
        (λ x. bind (holding 1 (both guard (none (leaf_tree holds)))) (λ y. chain (active core ops layout here row x taken) (active core ops layout here row y other))) b c f taking first leave
        in
        adds_chain (bind (ops.condition number test row) (branches taken other)) (active core ops layout here row guard rest) a f g
        (adds_bind (ops.condition number test row) (branches taken other) a b f holds made take) others

  -- ---- turns

  pub due_put : (level number : ℕ) (past : Bool) (own : Acts) (waiting : Expr) (a b c : Draft) (x y : Leaf) (own_part : Option ℕ)
      → own_part ≡ own_row core ops layout number past (Some (suc level)) → y ≡ x
      → Makes (holding 1 (both (Temp (open_at level)) waiting)) a b x
      → Adds (chain (rooted core ops layout (core.is_root number) (leaf_tree y)) (chain (ops.behavior number own_part (leaf_tree y)) (active core ops layout level own_part (leaf_tree y) own))) b c
      → Adds (due core ops layout level number past own (Some waiting)) a c
  due_put level number past own waiting a b c x y own_part is_row is_guard made put =
      adds_bind (holding 1 (both (Temp (open_at level)) waiting))
      (λ x. occurrence core ops layout number past (Some (suc level)) x (active core ops layout level (own_row core ops layout number past (Some (suc level))) x own)) a b c x made
      (occurrence_put level number past (Some (suc level)) own_part (leaf_tree x) (leaf_tree y) own own b c is_row (ap leaf_tree is_guard) refl put)

  -- `main` and what it leads to at once
  pub main_put : (acts : Acts) (own_part : Option ℕ) (guard : Expr) (a b : Draft) → own_part ≡ own_row core ops layout 0 false None → guard ≡ always → acts ≡ core.acts
      → Adds (chain (rooted core ops layout (core.is_root 0) guard) (chain (ops.behavior 0 own_part guard) (active core ops layout 0 own_part guard acts))) a b
      → Adds (main_run core ops layout) a b
  main_put acts own_part guard a b is_row is_guard is_acts put = occurrence_put 0 0 false None own_part always guard core.acts acts a b is_row is_guard is_acts put

  abbrev dues : ℕ → ℕ → ℕ → ℕ → Bool → Acts → Bool → Builder
  dues level above number own_level past own same =
      cond same (due core ops layout level number past own (waits core ops layout level above number)) (turn_of core ops layout level own_level own)

  pub turn_waits : (level above number own_level : ℕ) (past : Bool) (own rest : Acts) (a b c : Draft) (waiting : Expr) (o : Option Leaf) → nat_eq own_level level ≡ true
      → option_map leaf_tree o ≡ waits core ops layout level above number → option_map leaf_tree o ≡ Some waiting
      → Adds (due core ops layout level number past own (Some waiting)) a b
      → Adds (turn_of core ops layout level above rest) b c
      → Adds (turn_of core ops layout level above (Act number own_level past own rest)) a c
  turn_waits level above number own_level past own rest a b c waiting o same is is_some put others =
      adds_chain (dues level above number own_level past own (nat_eq own_level level)) (turn_of core ops layout level above rest) a b c
      (subst (λ (t : Bool). Adds (dues level above number own_level past own t) a b) (sym same)
      (subst (λ (w : Option Expr). Adds (due core ops layout level number past own w) a b) (sym is_some ∙ is) put))
      others

  pub turn_never : (level above number own_level : ℕ) (past : Bool) (own rest : Acts) (a b : Draft) (o : Option Leaf) → nat_eq own_level level ≡ true
      → option_map leaf_tree o ≡ waits core ops layout level above number → option_map leaf_tree o ≡ None
      → Adds (turn_of core ops layout level above rest) a b
      → Adds (turn_of core ops layout level above (Act number own_level past own rest)) a b
  turn_never level above number own_level past own rest a b o same is is_none others =
      adds_chain (dues level above number own_level past own (nat_eq own_level level)) (turn_of core ops layout level above rest) a a b
      (subst (λ (t : Bool). Adds (dues level above number own_level past own t) a a) (sym same)
      (subst (λ (w : Option Expr). Adds (due core ops layout level number past own w) a a) (sym is_none ∙ is) (adds_nothing a)))
      others

  pub turn_below : (level above number own_level : ℕ) (past : Bool) (own rest : Acts) (a b c : Draft) → nat_eq own_level level ≡ false
      → Adds (turn_of core ops layout level own_level own) a b
      → Adds (turn_of core ops layout level above rest) b c
      → Adds (turn_of core ops layout level above (Act number own_level past own rest)) a c
  turn_below level above number own_level past own rest a b c other below others =
      adds_chain (dues level above number own_level past own (nat_eq own_level level)) (turn_of core ops layout level above rest) a b c
      (subst (λ (t : Bool). Adds (dues level above number own_level past own t) a b) (sym other) below)
      others

  pub turn_if : (level above number test : ℕ) (taken other rest : Acts) (a b c d : Draft)
      → Adds (turn_of core ops layout level above taken) a b
      → Adds (turn_of core ops layout level above other) b c
      → Adds (turn_of core ops layout level above rest) c d
      → Adds (turn_of core ops layout level above (When number test taken other rest)) a d
  turn_if level above number test taken other rest a b c d first second third =
      adds_chain (turn_of core ops layout level above taken) (chain (turn_of core ops layout level above other) (turn_of core ops layout level above rest)) a b d first
      (adds_chain (turn_of core ops layout level above other) (turn_of core ops layout level above rest) b c d second third)

  -- the items of `main` are due as they are, since `main` runs in no stage
  turn_whole : (level : ℕ) (a b : Draft) → 0 < level → Adds (turn_of core ops layout level 0 core.acts) a b → Adds (turn_of core ops layout level 0 (Act 0 0 false core.acts Done)) a b
  turn_whole level a b staged put = turn_below level 0 0 0 false core.acts Done a b b (ne_eqb 0 level (λ e. omega (arith, e, staged))) put (adds_nothing b)

  pub turn_put : (level : ℕ) (word : Expr) (acts : Acts) (a b c d : Draft) → 0 < level → acts ≡ core.acts → word ≡ stage_word core ops layout level
      → Adds (controls core ops layout level) a b → Adds (ops.load (suc level) word) b c → Adds (turn_of core ops layout level 0 acts) c d
      → Adds (turn core ops layout level) a d
  turn_put level word acts a b c d staged is_acts is_word control loaded due =
      let whole = turn_whole level c d staged (subst (λ (x : Acts). Adds (turn_of core ops layout level 0 x) c d) is_acts due) in
      let load = subst (λ (e : Expr). Adds (ops.load (suc level) e) b c) is_word loaded in
      adds_chain (controls core ops layout level) (chain (ops.load (suc level) (stage_word core ops layout level)) (turn_of core ops layout level 0 (Act 0 0 false core.acts Done))) a b d control
      (adds_chain (ops.load (suc level) (stage_word core ops layout level)) (turn_of core ops layout level 0 (Act 0 0 false core.acts Done)) b c d load whole)

  pub turns_more : (level before : ℕ) (a b c : Draft) → level ≡ suc before → Adds (turn core ops layout level) a b → Adds (turns core ops layout before) b c → Adds (turns core ops layout level) a c
  turns_more level before a b c e one others =
      subst (λ (n : ℕ). Adds (turns core ops layout n) a c) (sym e)
      (adds_chain (turn core ops layout (suc before)) (turns core ops layout before) a b c (subst (λ (n : ℕ). Adds (turn core ops layout n) a b) e one) others)

  pub no_turns : (level : ℕ) (a : Draft) → level ≡ 0 → Adds (turns core ops layout level) a a
  no_turns level a e = subst (λ (n : ℕ). Adds (turns core ops layout n) a a) (sym e) (adds_nothing a)

  -- ---- ends

  pub bits_more : (level number : ℕ) (a b c : Draft) → Adds (steps (bit_ends core ops layout level number)) a b
      → Adds (steps (set_place core ops layout (layout.bit (suc level) number) (next_bit core ops layout level number))) b c
      → Adds (steps (bit_ends core ops layout level (suc number))) a c
  bits_more level number a b c before one = adds_steps (bit_ends core ops layout level number) (set_place core ops layout (layout.bit (suc level) number) (next_bit core ops layout level number)) a b c before one

  pub ends_more : (level before : ℕ) (a b c d : Draft) → level ≡ suc before → Adds (steps (ends core ops layout before)) a b
      → Adds (steps (bit_ends core ops layout before (suc (size core.acts)))) b c
      → Adds (steps (set_place core ops layout (layout.word (suc before)) (next_word core ops layout before))) c d
      → Adds (steps (ends core ops layout level)) a d
  ends_more level before a b c d e earlier bits word =
      subst (λ (n : ℕ). Adds (steps (ends core ops layout n)) a d) (sym e)
      (adds_steps (ends core ops layout before) (bit_ends core ops layout before (suc (size core.acts)) ++ set_place core ops layout (layout.word (suc before)) (next_word core ops layout before)) a b d earlier
      (adds_steps (bit_ends core ops layout before (suc (size core.acts))) (set_place core ops layout (layout.word (suc before)) (next_word core ops layout before)) b c d bits word))

  pub no_ends : (level : ℕ) (a : Draft) → level ≡ 0 → Adds (steps (ends core ops layout level)) a a
  no_ends level a e = subst (λ (n : ℕ). Adds (steps (ends core ops layout n)) a a) (sym e) (adds_nothing a)

  pub edge_put : (a b c d e : Draft) (close : Builder) → Adds (main_run core ops layout) a b → Adds (turns core ops layout core.stages) b c → Adds (steps (ends core ops layout core.stages)) c d → Adds close d e
      → Adds (chain (main_run core ops layout) (chain (turns core ops layout core.stages) (chain (steps (ends core ops layout core.stages)) close))) a e
  edge_put a b c d e close main staged ended closed =
      adds_chain (main_run core ops layout) (chain (turns core ops layout core.stages) (chain (steps (ends core ops layout core.stages)) close)) a b e main
      (adds_chain (turns core ops layout core.stages) (chain (steps (ends core ops layout core.stages)) close) b c e staged
      (adds_chain (steps (ends core ops layout core.stages)) close c d e ended closed))

-- ---- in the code's terms

pub on_ok : {A E P Q : Type 0} (r : Result A E) → (P → Q) → OnOk r P → OnOk r Q
on_ok (Ok x) f p = f p
on_ok (Err e) f p = p

pub given_same : (guard value other : Expr) (temp place : ℕ) (a b : Draft) → temp ≡ place → value ≡ other → Adds (steps (given guard (ToTemp temp) value ∷ [])) a b → Adds (steps (given guard (ToTemp place) other ∷ [])) a b
given_same guard value other temp place a b is_temp is_value put =
    subst (λ (e : Expr). Adds (steps (given guard (ToTemp place) e ∷ [])) a b) is_value (subst (λ (t : ℕ). Adds (steps (given guard (ToTemp t) value ∷ [])) a b) is_temp put)
