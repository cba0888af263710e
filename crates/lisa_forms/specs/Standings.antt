-- How an occurrence stands to a form: chosen at a part or at none, or not chosen.
use Rattle.std.specs.Prelude.{ℕ, Option, None, Some, cond, nat_eq}
use Rattle.form_patterns.specs.instruction_forms.Trees.{FormTree, form_tree}
use Rattle.lisa_forms.specs.declared.way.Way.{Way}
use Rattle.lisa_forms.specs.declared.way.Way.TheVariants as ways
use Rattle.lisa_forms.specs.declared.standing.Standing.{Standing}
use Rattle.lisa_forms.specs.declared.standing.Standing.TheVariants as standings
use Rattle.lisa_forms.specs.Choosing.{child_at, operation_of}

-- the part of what is chosen
abbrev pub told : Standing → Option (Option FormTree)
told standings.Unchosen = None
told standings.Apart = Some None
told (standings.At form) = Some (Some (form_tree form.now))

abbrev pub part_in : Option (Option FormTree) → Option FormTree
part_in None = None
part_in (Some part) = part

-- a part, where it has this operation
abbrev pub matched : FormTree → ℕ → Option (Option FormTree)
matched f o = cond (nat_eq (operation_of f) o) (Some (Some f)) None

abbrev pub matched_in : Option FormTree → ℕ → Option (Option FormTree)
matched_in None o = None
matched_in (Some f) o = matched f o

-- what is activated by the child at a place
abbrev pub matched_child : Option (Option FormTree) → ℕ → ℕ → Option (Option FormTree)
matched_child None i o = None
matched_child (Some None) i o = Some None
matched_child (Some (Some f)) i o = matched_in (child_at f i) o

-- what is activated by another name
abbrev pub beside : Option (Option FormTree) → Option (Option FormTree)
beside None = None
beside (Some part) = Some None

-- how an occurrence of this operation stands, by the way in which it is activated, and by how its activator stands
abbrev pub stood : Way → FormTree → ℕ → Option (Option FormTree) → Option (Option FormTree)
stood ways.Outside f o above = None
stood ways.Top f o above = matched f o
stood (ways.Child i) f o above = matched_child above i o
stood ways.Apart f o above = beside above
