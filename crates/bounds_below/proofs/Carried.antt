-- What was carried stays so, and what was carried from every variable is all.
use Rattle.std.proofs.Common.{◌≡◌, ℕ, ◌⊎◌, inl, inr, List, Option, Some, slice_get, refl, sym, ◌∙◌, ap, subst}
use Rattle.std.specs.Int.{bit_at}
use Rattle.std.specs.List.{Contains}
use Rattle.std.proofs.lemmas.List.Elements.{Contains-push_cases}
use Rattle.lattice_core.proofs.Bits.{none_in}
use Rattle.flow_graph.specs.declared.constraint.Constraint.{Constraint}
use Rattle.flow_graph.specs.declared.constraint.Link.{Link}
use Rattle.flow_graph.specs.declared.constraint.Link.TheVariants.{Le, Enter, Leave}
use Rattle.flow_graph.specs.Index.{IsKeyed, link_leads_to, link_site}
use Rattle.flow_graph.specs.System.{System, Stands}
use Rattle.match_summary.specs.declared.reason.Summary.{Summary}
use Rattle.match_summary.specs.Summary.{Summarises}
use Rattle.split_laws.specs.Splits.{Down, here, along, into, round}
use Rattle.bounds_below.specs.declared.work.Work.{Work}
use Rattle.bounds_below.specs.Below.{set_at, AreBelow}
use Rattle.bounds_below.specs.Carrying.{AgreesAt, AreBegun, AreSound, Gains, Has, Includes, IsCarried, IsPassed, IsTaken, Waits}
use Rattle.bounds_below.proofs.Links.{one_link}
use Rattle.bounds_below.proofs.Groups.{matches_leads, matches_one}

keyed_by : (sys : System) (lattice n k : ℕ) (key : Link → Option ℕ) (link : Link) → Stands sys lattice n link
    → key link ≡ Some k → IsKeyed sys key k n
keyed_by sys lattice n k key link st is =
    record { constraint = st.constraint; there = st.there; keyed = ap key st.link_is ∙ is }

module _ (sys : System) (lattice : ℕ) (rows : List Summary) where
  pub passed_on : (had : ℕ) (old new : List ℕ) (s b m : ℕ) → ((v e : ℕ) → Has old v e → Has new v e)
      → IsPassed sys lattice rows had old s b m → IsPassed sys lattice rows had new s b m
  passed_on had old new s b m kept passed = λ u a st leads one e has. kept u e (passed u a st leads one e has)

  pub carried_on : (had : ℕ) (old new : List ℕ) (v n : ℕ) → ((v e : ℕ) → Has old v e → Has new v e)
      → IsCarried sys lattice rows had old v n → IsCarried sys lattice rows had new v n
  carried_on had old new v n kept is = record {
    flow = λ u st e has. kept u e (is.flow u st e has);
    call = λ s u st e has. kept u e (is.call s u st e has);
    group = λ s b m st. passed_on had old new s b m kept (is.group s b m st);
  }

  -- a constraint that does not lead to the variable has nothing to carry
  pub carried_elsewhere : (had : ℕ) (sets : List ℕ) (v n : ℕ)
      → (IsKeyed sys link_leads_to v n → IsCarried sys lattice rows had sets v n)
      → IsCarried sys lattice rows had sets v n
  carried_elsewhere had sets v n listed = record {
    flow = λ u st. (listed (keyed_by sys lattice n v link_leads_to (Le u v) st refl)).flow u st;
    call = λ s u st. (listed (keyed_by sys lattice n v link_leads_to (Enter s u v) st refl)).call s u st;
    group = λ s b m st. (listed (keyed_by sys lattice n v link_leads_to (Leave s b v) st refl)).group s b m st;
  }

  pub passed_elsewhere : (had : ℕ) (sets : List ℕ) (s b m : ℕ)
      → (IsKeyed sys link_site s m → IsPassed sys lattice rows had sets s b m)
      → IsPassed sys lattice rows had sets s b m
  passed_elsewhere had sets s b m listed =
      λ u a st. listed (keyed_by sys lattice m s link_site (Enter s u a) st refl) u a st

  -- the empty set has nothing to carry
  pub empty_agrees : (sets : List ℕ) (v : ℕ) → set_at sets v ≡ 0 → AgreesAt sys lattice rows sets v
  empty_agrees sets v is n = record {
    flow = λ u st e has. absurd (none v is e has);
    call = λ s u st e has. absurd (none v is e has);
    group = λ s b m st u a st2 leads one e has. absurd (none v is e has);
  }
    where
      none : (v : ℕ) → set_at sets v ≡ 0 → (e : ℕ) → bit_at (set_at sets v) e ≡ 1 → ⊥
      none v is e has = none_in e (subst (λ (x : ℕ). bit_at x e ≡ 1) is has)

  -- what was carried of a constraint, by its link
  module _ (had : ℕ) (sets : List ℕ) (v n : ℕ) (constraint : Constraint)
      (there : slice_get sys.constraints n ≡ Some constraint) where
    pub flow_carried : (x w : ℕ) → constraint.link ≡ Le x w → Includes had sets x
        → IsCarried sys lattice rows had sets v n
    flow_carried x w is done = record {
      flow = λ u st.
          let e = one_link sys lattice n constraint (Le x w) there is (Le u v) st in
          let from : x ≡ u = cc in
          subst (λ (y : ℕ). Includes had sets y) from done;
      call = λ s u st. let e = one_link sys lattice n constraint (Le x w) there is (Enter s u v) st in absurd cc;
      group = λ s b m st. let e = one_link sys lattice n constraint (Le x w) there is (Leave s b v) st in absurd cc;
    }

    pub call_carried : (s x w : ℕ) → constraint.link ≡ Enter s x w → Includes had sets x
        → IsCarried sys lattice rows had sets v n
    call_carried s x w is done = record {
      flow = λ u st. let e = one_link sys lattice n constraint (Enter s x w) there is (Le u v) st in absurd cc;
      call = λ t u st.
          let e = one_link sys lattice n constraint (Enter s x w) there is (Enter t u v) st in
          let from : x ≡ u = cc in
          subst (λ (y : ℕ). Includes had sets y) from done;
      group = λ t b m st.
          let e = one_link sys lattice n constraint (Enter s x w) there is (Leave t b v) st in
          absurd cc;
    }

    pub back_carried : (s x w : ℕ) → constraint.link ≡ Leave s x w
        → ((m : ℕ) → IsPassed sys lattice rows had sets s x m) → IsCarried sys lattice rows had sets v n
    back_carried s x w is done = record {
      flow = λ u st. let e = one_link sys lattice n constraint (Leave s x w) there is (Le u v) st in absurd cc;
      call = λ t u st. let e = one_link sys lattice n constraint (Leave s x w) there is (Enter t u v) st in absurd cc;
      group = λ t b m st.
          let e = one_link sys lattice n constraint (Leave s x w) there is (Leave t b v) st in
          let site : s ≡ t = cc in
          let from : x ≡ b = cc in
          subst (λ (y : ℕ). IsPassed sys lattice rows had sets y b m) site
          (subst (λ (y : ℕ). IsPassed sys lattice rows had sets s y m) from (done m));
    }

  -- after a turn each variable waits or agrees
  pub turn_agrees : (old middle new : Work) (at : ℕ) → IsTaken old middle at → middle.sets.items ≡ old.sets.items
      → Gains middle new →
      ((n : ℕ) → IsCarried sys lattice rows (set_at middle.sets.items at) new.sets.items at n) →
      ((v : ℕ) → Waits old v ⊎ AgreesAt sys lattice rows old.sets.items v) → (v : ℕ)
      → Waits new v ⊎ AgreesAt sys lattice rows new.sets.items v
  turn_agrees old middle new at taken alike gains carried settled v = elim (gains.still v) [
    | inl waits ↦ inl waits
    | inr same ↦ elim (settled v) [
      | inl waited ↦
          elim (Contains-push_cases middle.waiting.items at v (subst (λ (xs : List ℕ). Contains xs v) taken waited)) [
            | inl still ↦ inl (gains.waits v still)
            | inr last ↦
                let here : at ≡ v = last in
                let set : set_at middle.sets.items at ≡ set_at new.sets.items v =
                ap (λ (x : ℕ). set_at middle.sets.items x) here ∙ sym same in
                inr (λ n.
                subst (λ (x : ℕ). IsCarried sys lattice rows (set_at new.sets.items v) new.sets.items x n) here
                (subst (λ (x : ℕ). IsCarried sys lattice rows x new.sets.items at n) set (carried n)))
          ]
      | inr agrees ↦
          let set : set_at old.sets.items v ≡ set_at new.sets.items v =
          ap (λ (xs : List ℕ). set_at xs v) (sym alike) ∙ sym same in
          inr (λ n. subst (λ (x : ℕ). IsCarried sys lattice rows x new.sets.items v n) set
          (carried_on (set_at old.sets.items v) old.sets.items new.sets.items v n
          (λ u e has. gains.kept u e (subst (λ (xs : List ℕ). Has xs u e) (sym alike) has)) (agrees n)))
    ]
  ]

  -- where each variable agrees, what a variable leads to is in its set
  module _ (sets : List ℕ) (all : Summarises sys lattice rows)
      (agree : (v : ℕ) → AgreesAt sys lattice rows sets v) where
    down_has : (v x e : ℕ) → Down sys lattice v x → Has sets x e → Has sets v e
    down_has v x e (here _) has = has
    down_has v x e (along _ y _ n d st) has = down_has v y e d ((agree x n).flow y st e has)
    down_has v x e (into _ y _ s n d st) has = down_has v y e d ((agree x n).call s y st e has)
    down_has v x e (round _ y a b _ s g n m d st p st2) has =
        down_has v y e d ((agree x m).group s b n st2 y a st (matches_leads sys lattice rows all g a b (n, s, y, st) p)
        (matches_one sys lattice g a b p) e has)

    pub agreed_below : AreSound sys lattice sets → AreBegun sys lattice sets → AreBelow sys lattice sets
    agreed_below sound begun v b = (sound v b, λ r. down_has v r.1.0 b r.1.1 (begun r.0 r.1.0 b r.1.2))
