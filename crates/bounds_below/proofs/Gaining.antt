-- How sets grow.
use Rattle.std.proofs.Common.{◌≡◌, ◌≢◌, ℕ, ◌+◌, ◌<◌, inl, inr, List, [], ◌∷◌, ◌++◌, length, bit_or, refl, sym, ◌∙◌, ap, subst, arith}
use Rattle.std.specs.Int.{bit_at}
use Rattle.std.specs.List.{Contains}
use Rattle.std.proofs.lemmas.Bool.{cases_eq}
use Rattle.std.proofs.lemmas.List.{length-append}
use Rattle.std.proofs.lemmas.List.Elements.{Contains-append_left, Contains-push}
use Rattle.lattice_core.proofs.Bits.{or_left, or_right, or_either}
use Rattle.flow_graph.specs.System.{System, AllBelow}
use Rattle.bounds_below.specs.declared.flows.Flows.{Flows}
use Rattle.bounds_below.specs.declared.work.Work.{Work}
use Rattle.bounds_below.specs.Below.{set_at, Reaches}
use Rattle.bounds_below.specs.Carrying.{AllReach, AreOfSystem, AreSound, Gains, Has, Includes, IsTaken, left_in, room}

pub gains_same : (w : Work) → Gains w w
gains_same w =
    record { size = refl; left = omega arith; kept = λ v b has. has; waits = λ v waits. waits; still = λ v. inr refl }

-- sets that gain and gain again have gained in all
pub gains_then : (a b c : Work) → Gains a b → Gains b c → Gains a c
gains_then a b c p q = record {
  size = q.size ∙ p.size;
  left = omega (arith, p.left, q.left);
  kept = λ v e has. q.kept v e (p.kept v e has);
  waits = λ v waits. q.waits v (p.waits v waits);
  still = λ v. elim (q.still v) [
    | inl waits ↦ inl waits
    | inr same ↦ elim (p.still v) [ inl waits ↦ inl (q.waits v waits) | inr alike ↦ inr (same ∙ alike) ]
  ];
}

pub system_same : (flows : Flows) (old new : ℕ) → new ≡ old → AreOfSystem flows old → AreOfSystem flows new
system_same flows old new same is = subst (λ (n : ℕ). AreOfSystem flows n) (sym same) is

pub below_same : (sys : System) (old new : ℕ) → new ≡ old → AllBelow sys old → AllBelow sys new
below_same sys old new same below = subst (λ k. AllBelow sys k) (sym same) below

-- the set of a variable was raised
module _ (old new : List ℕ) (at elems : ℕ) (here : set_at new at ≡ bit_or (set_at old at) elems)
    (others : (v : ℕ) → v ≢ at → set_at new v ≡ set_at old v) where
  pub raised_has : Includes elems new at
  raised_has b has = subst (λ (x : ℕ). bit_at x b ≡ 1) (sym here) (or_right (set_at old at) elems b has)

  pub raised_kept : (v b : ℕ) → Has old v b → Has new v b
  raised_kept v b has = elim (cases_eq v at) [
    | inl same ↦
        let before : bit_at (set_at old at) b ≡ 1 = subst (λ (x : ℕ). Has old x b) same has in
        subst (λ (x : ℕ). Has new x b) (sym same)
        (subst (λ (x : ℕ). bit_at x b ≡ 1) (sym here) (or_left (set_at old at) elems b before))
    | inr apart ↦ subst (λ (x : ℕ). bit_at x b ≡ 1) (sym (others v apart)) has
  ]

  pub raised_sound : (sys : System) (lattice : ℕ) → AllReach sys lattice elems at → AreSound sys lattice old
      → AreSound sys lattice new
  raised_sound sys lattice more sound v b has = elim (cases_eq v at) [
    | inl same ↦
        let both : bit_at (bit_or (set_at old at) elems) b ≡ 1 =
        subst (λ (x : ℕ). bit_at x b ≡ 1) here (subst (λ (x : ℕ). Has new x b) same has) in
        elim (or_either (set_at old at) elems b both) [
          | inl before ↦ sound v b (subst (λ (x : ℕ). Has old x b) (sym same) before)
          | inr gained ↦ subst (λ (x : ℕ). Reaches sys lattice x b) (sym same) (more b gained)
        ]
    | inr apart ↦ sound v b (subst (λ (x : ℕ). bit_at x b ≡ 1) (others v apart) has)
  ]

-- and the variable waits
pub gained : (old new : Work) (at elems : ℕ) → room new.sets.items < room old.sets.items
    → length new.sets.items ≡ length old.sets.items →
    set_at new.sets.items at ≡ bit_or (set_at old.sets.items at) elems
    → ((v : ℕ) → v ≢ at → set_at new.sets.items v ≡ set_at old.sets.items v) →
    new.waiting.items ≡ old.waiting.items ++ at ∷ [] → Gains old new
gained old new at elems less size here others pushed = record {
  size = size;
  left =
      let longer : length new.waiting.items ≡ length old.waiting.items + 1 =
      ap length pushed ∙ length-append old.waiting.items (at ∷ []) in
      omega (arith, less, longer);
  kept = raised_kept old.sets.items new.sets.items at elems here others;
  waits = λ v waits.
      subst (λ (xs : List ℕ). Contains xs v) (sym pushed) (Contains-append_left old.waiting.items (at ∷ []) v waits);
  still = λ v. elim (cases_eq v at) [
    | inl same ↦
        let last : Contains (old.waiting.items ++ at ∷ []) at = Contains-push old.waiting.items at in
        inl (subst (λ (x : ℕ). Contains new.waiting.items x) (sym same)
        (subst (λ (xs : List ℕ). Contains xs at) (sym pushed) last))
    | inr apart ↦ inr (others v apart)
  ];
}

-- one that waited was taken
pub taken_less : (old new : Work) (at : ℕ) → IsTaken old new at → new.sets.items ≡ old.sets.items
    → left_in new < left_in old
taken_less old new at taken sets =
    let longer : length old.waiting.items ≡ length new.waiting.items + 1 =
    ap length taken ∙ length-append new.waiting.items (at ∷ []) in
    let same = ap room sets in
    omega (arith, longer, same)
