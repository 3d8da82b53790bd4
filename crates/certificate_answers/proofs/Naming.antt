-- What a constant leads to, and what is joined, stands in a constraint, and so has a name.
use Rattle.std.proofs.Common.{◌≡◌, ℕ, zero, suc, ◌+◌, ◌*◌, Bool, List, [], ◌∷◌, slice_get, Some, refl, ◌∙◌, ap, subst, inl, inr, cond}
use Rattle.std.proofs.lemmas.Bool.Decides.{eqb_tells}
use Rattle.flow_graph.specs.declared.constraint.Link.{Link}
use Rattle.flow_graph.specs.declared.constraint.Link.TheVariants.{Le, Const, Enter, Leave}
use Rattle.flow_graph.specs.System.{System, Stands}
use Rattle.flow_graph.specs.Paths.{Returning, Calling, Lead, Part, start, flows, returns, grouped, anew, calls, calls_on, flows_on, grouped_on, flow, group}
use Rattle.certificate_laws.specs.Certificates.{IsInnerEnd, IsJoined}
use Rattle.certificate_text.specs.Names.{ends_in, first_from, name_of, second_end}
use Rattle.certificate_text.proofs.EndLemmas.{second_there}

-- the variable has a name
abbrev pub IsNamed : System → ℕ → Type 0
IsNamed sys v = (m : ℕ) × (name_of sys v ≡ Some m)

-- what stands at an end has a first one
first_there : (ends : List ℕ) (k j v : ℕ) → slice_get ends j ≡ Some v → (m : ℕ) × (first_from k ends v ≡ Some m)
first_there [] k j v there = absurd cc
first_there (u ∷ ends) k zero v there = elim (eqb_tells u v) [
  | inl same ↦ (k, ap (λ (b : Bool). cond b (Some k) (first_from (k + 1) ends v)) same.0)
  | inr other ↦ let is : u ≡ v = cc in absurd (other.1 is)
]
first_there (u ∷ ends) k (suc j) v there =
    let rest = first_there ends (k + 1) j v there in
    elim (eqb_tells u v) [
      | inl same ↦ (k, ap (λ (b : Bool). cond b (Some k) (first_from (k + 1) ends v)) same.0)
      | inr other ↦ (rest.0, ap (λ (b : Bool). cond b (Some k) (first_from (k + 1) ends v)) other.0 ∙ rest.1)
    ]

module _ (sys : System) (lattice : ℕ) where
  -- the second end of a constraint
  end_named : (n : ℕ) (link : Link) (v : ℕ) → Stands sys lattice n link → second_end link ≡ v → IsNamed sys v
  end_named n link v stands end =
      let at = second_there sys.constraints n (2 * n + 1) stands.constraint stands.there refl in
      let is : second_end stands.constraint.link ≡ v = ap second_end stands.link_is ∙ end in
      first_there (ends_in sys) 0 (2 * n + 1) v (at ∙ ap (λ (u : ℕ). Some u) is)

  mutual
    returning_named : (e v : ℕ) → Returning sys lattice e v → IsNamed sys v
    returning_named e v (start _ n st) = end_named n (Const lattice e v) v st refl
    returning_named e v (flows u _ n p st) = end_named n (Le u v) v st refl
    returning_named e v (returns u _ s n p st) = end_named n (Leave s u v) v st refl
    returning_named e v (grouped u a b _ s g n m p st q st2) = end_named m (Leave s b v) v st2 refl
    returning_named e v (anew _ p is) = calling_named e v p

    calling_named : (e v : ℕ) → Calling sys lattice e v → IsNamed sys v
    calling_named e v (calls u _ s n p st) = end_named n (Enter s u v) v st refl
    calling_named e v (calls_on u _ s n p st) = end_named n (Enter s u v) v st refl
    calling_named e v (flows_on u _ n p st) = end_named n (Le u v) v st refl
    calling_named e v (grouped_on u a b _ s g n m p st q st2) = end_named m (Leave s b v) v st2 refl

  pub lead_named : (e v : ℕ) → Lead sys lattice e v → IsNamed sys v
  lead_named e v (inl first) = returning_named e v first
  lead_named e v (inr second) = calling_named e v second

  part_named : (f x v : ℕ) → Part sys lattice f x v → IsNamed sys v
  part_named f x v (flow _ _ _ n st is) = end_named n (Le x v) v st refl
  part_named f x v (group _ _ a b _ s g n m st q st2 is) = end_named m (Leave s b v) v st2 refl

  inner_named : (x : ℕ) → IsInnerEnd sys lattice x → IsNamed sys x
  inner_named x end = end_named end.0 (Enter end.1 end.2 x) x end.3 refl

  pub joined_named : (x v : ℕ) → IsJoined sys lattice x v → IsNamed sys x × IsNamed sys v
  joined_named x v joined = (
    inner_named x joined.0,
    elim joined.1 [
      | inl same ↦ subst (IsNamed sys) same (inner_named x joined.0)
      | inr path ↦ part_named path.0 path.1 v path.3
    ],
  )
