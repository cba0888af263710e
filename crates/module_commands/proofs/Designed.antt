-- Reading a module and an image as one step of a command.
use Rattle.std.proofs.Common.{◌≡◌, ◌∙◌, sym, ap, refl, Option, Ok, Err}
use Rattle.lisa_object.specs.declared.parts.Stamped.{Stamped}
use Rattle.verilog_text.specs.Trees.{module_tree}
use Rattle.verilog_text.specs.Faults.{VAccepts}
use Rattle.verilog_text.specs.declared.modules.Module.{Module}
use Rattle.lisa_outcomes.specs.declared.status.End.{End}
use Rattle.lisa_outcomes.specs.declared.status.Refusal.{Refusal}
use Rattle.lisa_outcomes.specs.RunFiles.{RunBytes}
use Rattle.lisa_outcomes.specs.Stages.{Finds}
use Rattle.lisa_outcomes.proofs.Told.{err_is, ok_is_no_err, not_ok}
use Rattle.engine_commands.specs.Images.{IsImageOf, IsNoImage, memories_of}
use Rattle.module_commands.specs.declared.parts.Parts.{Parts}
use Rattle.module_commands.specs.Designs.{Design, IsDesign, IsNoDesign, no_module, no_image, IsUnreadModule}
use Rattle.module_commands.specs.DesignViews.{design_of}

pub unread_design : (bytes : RunBytes) (end : End) → Finds {X = Module} module_tree (VAccepts bytes.main) (IsUnreadModule bytes.main) (Err end)
    → Finds {X = Parts} design_of (IsDesign bytes) (IsNoDesign bytes) (Err end)
unread_design bytes end finds = record {
  found = tt;
  only = λ d is. finds.only d.tree is.accepted;
  wrong = λ refusal e. no_module (finds.wrong refusal (ap Err (err_is _ _ e)));
  real = λ refusal e. finds.real refusal (ap Err (err_is _ _ e));
  none = λ refusal wrong ok. not_ok ok;
  read = λ e. finds.read (ap Err (err_is _ _ e));
  write = λ e. finds.write (ap Err (err_is _ _ e));
}

pub imageless_design : (bytes : RunBytes) (x : Module) (end : End) → Finds {X = Module} module_tree (VAccepts bytes.main) (IsUnreadModule bytes.main) (Ok x)
    → Finds {X = Option Stamped} (λ image. image) (IsImageOf bytes.image) (IsNoImage bytes.image) (Err end) → Finds {X = Parts} design_of (IsDesign bytes) (IsNoDesign bytes) (Err end)
imageless_design bytes x end read finds = record {
  found = tt;
  only = λ d is. finds.only is.image is.spelled;
  wrong = λ refusal e. no_image read.found (finds.wrong refusal (ap Err (err_is _ _ e)));
  real = λ refusal e. finds.real refusal (ap Err (err_is _ _ e));
  none = λ refusal wrong ok. not_ok ok;
  read = λ e. finds.read (ap Err (err_is _ _ e));
  write = λ e. finds.write (ap Err (err_is _ _ e));
}

same_design : (a b : Design) → a.tree ≡ b.tree → a.memories ≡ b.memories → a ≡ b
same_design a b tree memories = λ i. record { tree = tree i; memories = memories i }

pub whole_design : (bytes : RunBytes) (x : Module) (image : Option Stamped) (parts : Parts) → Finds {X = Module} module_tree (VAccepts bytes.main) (IsUnreadModule bytes.main) (Ok x)
    → Finds {X = Option Stamped} (λ image. image) (IsImageOf bytes.image) (IsNoImage bytes.image) (Ok image) → module_tree parts.clocked ≡ module_tree x → parts.image ≡ memories_of image
    → Finds {X = Parts} design_of (IsDesign bytes) (IsNoDesign bytes) (Ok parts)
whole_design bytes x image parts read finds tree memories = record {
  found = record { accepted = rw tree read.found; image = image; spelled = finds.found; memories = memories };
  only = λ d is. same_design (design_of parts) d (tree ∙ read.only d.tree is.accepted) (memories ∙ ap memories_of (finds.only is.image is.spelled) ∙ sym is.memories);
  wrong = λ refusal e. absurd (ok_is_no_err _ _ e);
  real = λ refusal e. absurd (ok_is_no_err _ _ e);
  none = λ refusal wrong ok. never refusal wrong;
  read = λ e. ok_is_no_err _ _ e;
  write = λ e. ok_is_no_err _ _ e;
}
  where
    never : (refusal : Refusal) → IsNoDesign bytes refusal → ⊥
    never refusal (no_module wrong) = read.none refusal wrong refl
    never refusal (no_image accepted wrong) = finds.none refusal wrong refl
