-- Equal keys are one.
use Rattle.std.proofs.Common.{rules, ap, ap₂, ◌≡◌, true, ℕ}
use Rattle.std.proofs.lemmas.Bool.{and_parts, eqb-true}
use Rattle.step_program.specs.declared.expressions.TwoOp.{TwoOp}
use Rattle.netlist_wires.specs.declared.keys.Flat.{Flat}
use Rattle.netlist_wires.specs.declared.keys.Body.{Body}
use Rattle.netlist_wires.specs.declared.keys.Key.{Key}
use Rattle.netlist_wires.specs.declared.keys.Body.TheVariants.{Copied, Lowest, Padded, Inverse, Load, Operate, Select}
use Rattle.step_program.specs.contracts.expressions.TwoOpPartialEq.TheImpl as ops
use Rattle.netlist_wires.specs.contracts.keys.FlatPartialEq.TheImpl as flats
use Rattle.netlist_wires.specs.contracts.keys.BodyPartialEq.TheImpl as bodies
use Rattle.netlist_wires.specs.contracts.keys.KeyPartialEq.TheImpl as keys

op_same : (a b : TwoOp) → ops.eq-value.it a b ≡ true → a ≡ b
op_same a b e = search rules

flat_same : (a b : Flat) → flats.eq-value.it a b ≡ true → a ≡ b
flat_same a b e = search rules

pub body_same : (a b : Body) → bodies.eq-value.it a b ≡ true → a ≡ b
body_same (Copied f) (Copied g) e = ap Copied (flat_same f g e)
body_same (Lowest a f) (Lowest b g) e =
    let x = and_parts _ _ e in
    ap₂ {C = Body} (λ (a : ℕ) (f : Flat). Lowest a f) (eqb-true a b x.0) (flat_same f g x.1)
body_same (Padded a f) (Padded b g) e =
    let x = and_parts _ _ e in
    ap₂ {C = Body} (λ (a : ℕ) (f : Flat). Padded a f) (eqb-true a b x.0) (flat_same f g x.1)
body_same (Inverse f) (Inverse g) e = ap Inverse (flat_same f g e)
body_same (Load a f) (Load b g) e =
    let x = and_parts _ _ e in
    ap₂ {C = Body} (λ (a : ℕ) (f : Flat). Load a f) (eqb-true a b x.0) (flat_same f g x.1)
body_same (Operate o f g) (Operate p h i) e =
    let x = and_parts _ _ e in
    let y = and_parts _ _ x.1 in
    ap₂ {C = Body} (λ (o : TwoOp) (go : TwoOp → Body). go o) (op_same o p x.0) (ap₂ {C = TwoOp → Body} (λ (f g : Flat) (o : TwoOp). Operate o f g) (flat_same f h y.0) (flat_same g i y.1))
body_same (Select f g h) (Select i j k) e =
    let x = and_parts _ _ e in
    let y = and_parts _ _ x.1 in
    ap₂ {C = Body} (λ (f : Flat) (go : Flat → Body). go f) (flat_same f i x.0) (ap₂ {C = Flat → Body} (λ (g h f : Flat). Select f g h) (flat_same g j y.0) (flat_same h k y.1))
body_same _ _ e = cc

pub key_same : (a b : Key) → keys.eq-value.it a b ≡ true → a ≡ b
key_same a b e =
    let x = and_parts _ _ e in
    ap₂ {C = Key} (λ (w : ℕ) (body : Body). (let key : Key = record { width = w; body = body } in key)) (eqb-true a.width b.width x.0) (body_same a.body b.body x.1)
