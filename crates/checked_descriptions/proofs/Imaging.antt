-- From what reading an image answers to what a command finds that is over a description.
use Rattle.std.proofs.Common.{◌≡◌, ◌≢◌, ◌∙◌, sym, ap, refl, subst, List, ℕ, Option, Some, None, Result, Ok, Err, inl, inr, ⊎_elim, IfOk}
use Rattle.lisa_tree.specs.Descriptions.{DescriptionTree}
use Rattle.description_digest.specs.Digests.{digest_of}
use Rattle.lisa_engine.specs.Images.{IsImage}
use Rattle.lisa_engine.specs.Memory.{Memory}
use Rattle.lisa_object.specs.declared.parts.Stamped.{Stamped}
use Rattle.lisa_object.specs.declared.faults.ImageFault.TheVariants as images
use Rattle.lisa_outcomes.specs.declared.status.End.{End}
use Rattle.lisa_outcomes.specs.declared.status.End.TheVariants as ends
use Rattle.lisa_outcomes.specs.declared.status.Refusal.{Refusal}
use Rattle.lisa_outcomes.specs.declared.status.Refusal.TheVariants as refusals
use Rattle.lisa_outcomes.specs.Stages.{Finds}
use Rattle.lisa_outcomes.proofs.Finding.{found_ok, found_refused}
use Rattle.lisa_outcomes.proofs.Refusals.{image_refusal}
use Rattle.lisa_outcomes.proofs.Told.{err_is, not_ok, none_is_no_some, some_is}
use Rattle.engine_commands.specs.Images.{IsImageOf, IsNoImage, memories_of}
use Rattle.checked_descriptions.specs.DescriptionImages.{HasDigest, IsImageFor, IsNoImageFor}
use Rattle.checked_descriptions.specs.ImageViews.{IsMade, IsMadeElsewhere}

-- an image that isn't left out
module _ (d : DescriptionTree) (bytes : Option (List ℕ)) (s : Stamped)
    (read : Finds {X = Option Stamped} (λ image. image) (IsImageOf bytes) (IsNoImage bytes) (Ok (Some s))) where
  same_image : (other : Option Stamped) → IsImageOf bytes other → Some s ≡ other
  same_image other is = read.only other is

  found_memories : (memories : List Memory) → IsMade d s memories → IsImageFor d bytes memories
  found_memories memories made = record { image = Some s; spelled = read.found; digest = made.0; are = made.1 }

  made_memories : (memories : List Memory) → IsImageFor d bytes memories → IsMade d s memories
  made_memories memories is =
      (subst (HasDigest d) (sym (same_image is.image is.spelled)) is.digest, is.are ∙ sym (ap memories_of (same_image is.image is.spelled)))

  for_another : (refusal : Refusal) → IsMadeElsewhere d s refusal → IsNoImageFor d bytes refusal
  for_another refusal wrong = inr (s, read.found, wrong.0, wrong.1)

  made_elsewhere : (refusal : Refusal) → IsNoImageFor d bytes refusal → IsMadeElsewhere d s refusal
  made_elsewhere refusal wrong = ⊎_elim (λ n. absurd (read.none refusal n refl))
      (λ a. subst (λ (x : Stamped). IsMadeElsewhere d x refusal) (sym (some_is (same_image (Some a.0) a.1))) (a.2, a.3)) wrong

  pub stamped_finds : (result : Result (List Memory) End) → Finds {X = List Memory} (λ image. image) (IsMade d s) (IsMadeElsewhere d s) result
      → Finds {X = List Memory} (λ image. image) (IsImageFor d bytes) (IsNoImageFor d bytes) result
  stamped_finds result finds = record {
    found = ok_found result finds.found;
    only = λ memories is. finds.only memories (made_memories memories is);
    wrong = λ refusal e. for_another refusal (finds.wrong refusal e);
    real = finds.real;
    none = λ refusal wrong ok. finds.none refusal (made_elsewhere refusal wrong) ok;
    read = finds.read;
    write = finds.write;
  }
    where
      ok_found : (r : Result (List Memory) End) → IfOk r (IsMade d s) → IfOk r (IsImageFor d bytes)
      ok_found (Ok image) made = found_memories image made
      ok_found (Err e) made = made

-- one that is left out
pub imageless_finds : (d : DescriptionTree) (bytes : Option (List ℕ)) (image : List Memory) → Finds {X = Option Stamped} (λ image. image) (IsImageOf bytes) (IsNoImage bytes) (Ok None)
    → image ≡ memories_of None → Finds {X = List Memory} (λ image. image) (IsImageFor d bytes) (IsNoImageFor d bytes) (Ok image)
imageless_finds d bytes image read none = found_ok (λ (i : List Memory). i) (IsImageFor d bytes) (IsNoImageFor d bytes) image
    (record { image = None; spelled = read.found; digest = tt; are = none })
    (λ memories is. none ∙ ap memories_of (read.only is.image is.spelled) ∙ sym is.are)
    (λ refusal wrong. ⊎_elim (λ n. read.none refusal n refl) (λ a. none_is_no_some _ (read.only (Some a.0) a.1)) wrong)

-- one that wasn't read
pub unread_finds : (d : DescriptionTree) (bytes : Option (List ℕ)) (end : End) → Finds {X = Option Stamped} (λ image. image) (IsImageOf bytes) (IsNoImage bytes) (Err end)
    → Finds {X = List Memory} (λ image. image) (IsImageFor d bytes) (IsNoImageFor d bytes) (Err end)
unread_finds d bytes end read = record {
  found = tt;
  only = λ memories is. read.only is.image is.spelled;
  wrong = λ refusal e. inl (read.wrong refusal (ap Err (err_is _ _ e)));
  real = λ refusal e. read.real refusal (ap Err (err_is _ _ e));
  none = λ refusal wrong ok. not_ok ok;
  read = λ e. read.read (ap Err (err_is _ _ e));
  write = λ e. read.write (ap Err (err_is _ _ e));
}

-- ---- the digest

pub same_digest_finds : (d : DescriptionTree) (s : Stamped) (image : List Memory) → s.digest ≡ digest_of d → image ≡ s.image
    → Finds {X = List Memory} (λ image. image) (IsMade d s) (IsMadeElsewhere d s) (Ok image)
same_digest_finds d s image same is = found_ok (λ (i : List Memory). i) (IsMade d s) (IsMadeElsewhere d s) image (same, is) (λ memories made. is ∙ sym made.1) (λ refusal wrong. wrong.0 same)

pub other_digest_finds : (d : DescriptionTree) (s : Stamped) (expected : List ℕ) → expected ≡ digest_of d → s.digest ≢ expected
    → Finds {X = List Memory} (λ image. image) (IsMade d s) (IsMadeElsewhere d s) (Err (ends.Refused (refusals.Image (images.OtherDescription s.digest expected))))
other_digest_finds d s expected is other = found_refused (λ (i : List Memory). i) (IsMade d s) (IsMadeElsewhere d s) (refusals.Image (images.OtherDescription s.digest expected))
    (image_refusal (images.OtherDescription s.digest expected) (λ e. cc))
    (subst (λ (bytes : List ℕ). s.digest ≢ bytes) is other, ap (λ (bytes : List ℕ). refusals.Image (images.OtherDescription s.digest bytes)) is)
    (λ memories made. other (made.0 ∙ sym is))

-- ---- the rules of images

read_image : (bytes : Option (List ℕ)) (s : Stamped) → IsImageOf bytes (Some s) → IsImage s.image
read_image None s is = absurd (none_is_no_some _ (sym is))
read_image (Some text) s is = subst (λ (x : Stamped). IsImage x.image) (sym (some_is is.1)) is.2.image

pub kept_image : (d : DescriptionTree) (bytes : Option (List ℕ)) (s : Stamped) (result : Result (List Memory) End)
    → Finds {X = Option Stamped} (λ image. image) (IsImageOf bytes) (IsNoImage bytes) (Ok (Some s))
    → Finds {X = List Memory} (λ image. image) (IsMade d s) (IsMadeElsewhere d s) result → IfOk result IsImage
kept_image d bytes s (Ok image) read made = subst IsImage (sym made.found.1) (read_image bytes s read.found)
kept_image d bytes s (Err end) read made = tt
