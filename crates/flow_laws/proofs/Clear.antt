-- What it means that no rule fails at a step.
use Rattle.std.proofs.Common.{◌≡◌, Bool, true, false, Option, Some, None, refl, if◌then◌else◌}
use Rattle.std.proofs.lemmas.Bool.{or_parts}
use Rattle.lattice_core.specs.Order.{Order}
use Rattle.flow_graph.specs.declared.proof.Why.{Why}
use Rattle.flow_graph.specs.declared.step.StepInPath.{StepInPath}
use Rattle.flow_graph.specs.System.{System}
use Rattle.flow_graph.specs.PathRules.{rule_at, fails_b1, fails_b2, fails_b3, is_missing, is_foreign, is_outside, is_kept, is_unknown, is_headless, is_late_const, is_stray_bound, is_late_return, is_unmatched_in_sub, is_loose_sub, follows_bound}

passed : (a : Bool) (w : Why) (r : Option Why) → (if a then Some w else r) ≡ None → (a ≡ false) × (r ≡ None)
passed true w r e = absurd cc
passed false w r e = (refl, e)

pub record Clear (sys : System) (order : Order) (p : StepInPath) : Type 0 where
  pub known : is_unknown p.step ≡ false
  pub headed : is_headless p ≡ false
  pub no_const : is_late_const p ≡ false
  pub no_bound : is_stray_bound p ≡ false
  pub returned : is_late_return p ≡ false
  pub matched : is_unmatched_in_sub p ≡ false
  pub in_group : is_loose_sub p ≡ false
  pub before_bound : follows_bound p ≡ false
  pub joined : fails_b2 p ≡ false
  pub closed : fails_b3 p ≡ false
  pub there : is_missing p.step ≡ false
  pub own : is_foreign sys p.path p.step ≡ false
  pub carried : is_outside p.lattice p.step ≡ false
  pub over : is_kept order p.elem p.step ≡ false

pub clear : (sys : System) (order : Order) (p : StepInPath) → rule_at sys order p ≡ None → Clear sys order p
unfolding rule_at fails_b1
clear sys order p e =
    let r1 = passed (fails_b1 p) _ _ e in
    let r2 = passed (fails_b2 p) _ _ r1.1 in
    let r3 = passed (fails_b3 p) _ _ r2.1 in
    let r4 = passed (is_missing p.step) _ _ r3.1 in
    let r5 = passed (is_foreign sys p.path p.step) _ _ r4.1 in
    let r6 = passed (is_outside p.lattice p.step) _ _ r5.1 in
    let r7 = passed (is_kept order p.elem p.step) _ _ r6.1 in
    let b7 = or_parts _ (follows_bound p) r1.0 in
    let b6 = or_parts _ (is_loose_sub p) b7.0 in
    let b5 = or_parts _ (is_unmatched_in_sub p) b6.0 in
    let b4 = or_parts _ (is_late_return p) b5.0 in
    let b3 = or_parts _ (is_stray_bound p) b4.0 in
    let b2 = or_parts _ (is_late_const p) b3.0 in
    let b1 = or_parts (is_unknown p.step) (is_headless p) b2.0 in
    record {
      known = b1.0;
      headed = b1.1;
      no_const = b2.1;
      no_bound = b3.1;
      returned = b4.1;
      matched = b5.1;
      in_group = b6.1;
      before_bound = b7.1;
      joined = r2.0;
      closed = r3.0;
      there = r4.0;
      own = r5.0;
      carried = r6.0;
      over = r7.0;
    }
