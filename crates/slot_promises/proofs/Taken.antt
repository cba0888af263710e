-- What is activated past the root is activated where a slot moves on.
use Rattle.std.proofs.Common.{◌≡◌, ℕ, zero, suc, ◌<◌, Bool, true, false, cond, ◌&&◌, ◌||◌, Option, Some, refl, sym, ap, ap₂, ◌∙◌, arith, nat_eq}
use Rattle.std.specs.Prelude.{is_some}
use Rattle.std.specs.List.{AllByRecursion}
use Rattle.std.proofs.lemmas.Bool.{both_ways, eq-eqb, or_left, or_right}
use Rattle.pipeline_time.specs.Acts.{Node}
use Rattle.pipeline_time.specs.Cores.{Core, above_of, is_past, level_of_slots, slot_level}
use Rattle.pipeline_time.specs.Running.{Activation, Running, word_below, own_word, behavior, activate}
use Rattle.pipeline_time.specs.Sound.{IsSound}
use Rattle.pipeline_time.proofs.Lists.{each_so}
use Rattle.pipeline_time.proofs.Tree.{IsGood}
use Rattle.pipeline_time.proofs.Induct.{IsTracked}

more_there : (c : Bool) (a b : Option ℕ) (x : Bool) → (is_some a ≡ true → is_some b ≡ true) → cond c (is_some a) x ≡ true → cond c (is_some b) x ≡ true
more_there true a b x more is = more is
more_there false a b x more is = is

taken_more : (c : Bool) (word : ℕ) (slot : Option ℕ) → is_some slot ≡ true → is_some (cond c (Some word) slot) ≡ true
taken_more true word slot is = refl
taken_more false word slot is = is

left_of : (a b : Bool) → (a || b) ≡ true → b ≡ false → a ≡ true
left_of true b is none = refl
left_of false b is none = absurd (both_ways b none is)

-- `behind` tells in which stages slots stood before the edge
module _ {R M : Type 0} (core : Core R M) (behind : ℕ → Bool) where
  -- whether a slot moves on from a level: the one that the root took, where slots are made or where it runs in no stage, and else the stage's
  abbrev pub has_slot : Option ℕ → ℕ → Bool
  has_slot slot level = cond (nat_eq level 0 || nat_eq level (slot_level core)) (is_some slot) (behind level)

  abbrev pub MadeHas : Option ℕ → Activation → Type 0
  MadeHas slot a = is_past core a.occurrence ≡ true → has_slot slot a.level ≡ true

  abbrev pub FirstHas : Option ℕ → ℕ × ℕ → Type 0
  FirstHas slot pair = is_past core pair.0 ≡ true → (above_of core pair.0 ≡ 0) × (is_some slot ≡ true)

  -- of all that was activated so far
  pub record AllHave (now : Running M) : Type 0 where
    pub made : AllByRecursion (MadeHas now.slot) now.made
    pub first : AllByRecursion (FirstHas now.slot) now.first

  -- the slot that the root took stays, and all that is activated has one where what is past the root does
  pub record Takes (here : ℕ) (inside : Bool) (word : ℕ) (now after : Running M) : Type 0 where
    pub kept : is_some now.slot ≡ true → is_some after.slot ≡ true
    pub all : (inside ≡ true → core.decodes word ≡ true → has_slot now.slot here ≡ true) → AllHave now → AllHave after

  pub has_more : (a b : Option ℕ) → (is_some a ≡ true → is_some b ≡ true) → (level : ℕ) → has_slot a level ≡ true → has_slot b level ≡ true
  has_more a b more level is = more_there (nat_eq level 0 || nat_eq level (slot_level core)) a b (behind level) more is

  pub taken_here : (slot : Option ℕ) (level : ℕ) → (nat_eq level 0 || nat_eq level (slot_level core)) ≡ true → is_some slot ≡ true → has_slot slot level ≡ true
  taken_here slot level here is = ap (λ c. cond c (is_some slot) (behind level)) here ∙ is

  module _ (sound : IsSound core) where
    -- the root runs in the level of slots, or in no stage
    root_here : (node : Node) → IsGood core sound.root node → core.is_root node.number ≡ true → (nat_eq node.level 0 || nat_eq node.level (slot_level core)) ≡ true
    root_here node good is = of node.level refl
      where
        of : (level : ℕ) → node.level ≡ level → (nat_eq node.level 0 || nat_eq node.level (slot_level core)) ≡ true
        of zero e = or_left (nat_eq node.level 0) _ (eq-eqb node.level 0 e)
        of (suc stage) e =
            let root : core.root_level ≡ Some (suc stage) = good.root_is is (omega (arith, e, good.within)) ∙ ap Some e in
            or_right (nat_eq node.level 0) _ (eq-eqb node.level (slot_level core) (e ∙ sym (ap level_of_slots root)))

    -- below an occurrence that is the root or past it
    below_has : (node : Node) (inside : Bool) (word own : ℕ) (now : Running M) → IsGood core sound.root node → (node.past ≡ true → inside ≡ true) → own ≡ own_word core node.number node.past word now → (inside ≡ true → core.decodes word ≡ true → has_slot now.slot node.level ≡ true) → (node.past || core.is_root node.number) ≡ true → core.decodes own ≡ true → has_slot (behavior core node.number own now).slot node.level ≡ true
    unfolding behavior
    below_has node inside word own now good under same has is decodes = by (core.is_root node.number) refl
      where
        slot' : Option ℕ
        slot' = cond (core.is_root node.number && core.decodes own) (Some own) now.slot

        by : (r : Bool) → core.is_root node.number ≡ r → has_slot slot' node.level ≡ true
        by true root =
            taken_here slot' node.level (root_here node good root)
            (ap₂ (λ r c. is_some (cond (r && c) (Some own) now.slot)) root decodes)
        by false other =
            let past = left_of node.past (core.is_root node.number) is other in
            let word_is : own ≡ word = same ∙ ap₂ (λ r p. cond r (core.fetch now.moment) (word_below p word)) other past in
            has_more now.slot slot' (taken_more (core.is_root node.number && core.decodes own) own now.slot) node.level
            (has (under past) (ap core.decodes (sym word_is) ∙ decodes))

    node_takes : (node : Node) (inside : Bool) (word to : ℕ) (now after : Running M) → IsGood core sound.root node → (node.past ≡ true → inside ≡ true) → (inside ≡ true → sound.root < node.number) → node.number < to → Takes node.level (node.past || core.is_root node.number) (own_word core node.number node.past word now) (behavior core node.number (own_word core node.number node.past word now) now) after → Takes node.level inside word now after
    unfolding behavior
    node_takes node inside word to now after good under beyond within inner =
        let own = own_word core node.number node.past word now in
        let more = taken_more (core.is_root node.number && core.decodes own) own now.slot in
        let slot' = cond (core.is_root node.number && core.decodes own) (Some own) now.slot in
        record {
          kept = λ is. inner.kept (more is);
          all = λ has have. inner.all (below_has node inside word own now good under refl has)
              (record {
                made = each_so (MadeHas now.slot) (MadeHas slot') now.made (λ a h past. has_more now.slot slot' more a.level (h past)) have.made;
                first = each_so (FirstHas now.slot) (FirstHas slot') now.first (λ pair h past. let f = h past in (f.0, more f.1)) have.first;
              });
        }

    activated_takes : (above : ℕ) (node : Node) (inside : Bool) (word : ℕ) (now : Running M) → node.above ≡ above → IsGood core sound.root node → (node.past ≡ true → inside ≡ true) → core.chooses node.number word ≡ true → Takes above inside word now (activate core above node.number (word_below node.past word) now)
    unfolding activate
    activated_takes zero node inside word now at good under chosen = record {
      kept = λ is. is;
      all = λ has have. record {
        made = have.made;
        first = ((λ past. let p = sym good.past_is ∙ past in (good.above_is ∙ at, has (under p) (good.chosen p word chosen))), have.first);
      };
    }
    activated_takes (suc stage) node inside word now at good under chosen = record {
      kept = λ is. is;
      all = λ has have. record {
        made = ((λ past. let p = sym good.past_is ∙ past in has (under p) (good.chosen p word chosen)), have.made);
        first = have.first;
      };
    }

    pub all_take : IsTracked core sound.root (λ here inside word from to now after. Takes here inside word now after)
    all_take = record {
      same = λ here inside word from to now. record { kept = λ is. is; all = λ has have. have };
      wider = λ here inside word from to from' to' now after low high takes. takes;
      both = λ here inside word from middle to a b c low high one two. record {
        kept = λ is. two.kept (one.kept is);
        all = λ has have. two.all (λ i decodes. has_more a.slot b.slot one.kept here (has i decodes)) (one.all has have);
      };
      node = node_takes;
      activated = λ node inside word now good under later chosen. activated_takes node.above node inside word now refl good under chosen;
    }
