-- The constants that lead to a variable and the bounds that it leads to, found by their constraints.
use Rattle.std.proofs.Common.{◌≡◌, ◌↔◌, ℕ, Bool, true, false, IsTrue, List, ◌∷◌, ◌++◌, codes, slice_get, Some, None, refl, sym, ◌∙◌, ap}
use Rattle.std.proofs.Common.{[], subst, append-nil, arith}
use Rattle.std.proofs.lemmas.Nat.Bits.{bit_at-zero}
use Rattle.std.specs.Fmt.{decimal}
use Rattle.std.specs.Int.{bit_at}
use Rattle.flow_graph.specs.declared.constraint.Constraint.{Constraint}
use Rattle.flow_graph.specs.declared.constraint.Link.{Link}
use Rattle.flow_graph.specs.declared.constraint.Link.TheVariants.{Const, Bound}
use Rattle.flow_graph.specs.declared.proof.PathStep.{PathStep}
use Rattle.flow_graph.specs.declared.proof.PathStep.TheVariants.{Take}
use Rattle.flow_graph.specs.declared.proof.Walk.{Walk}
use Rattle.flow_graph.specs.System.{System, IsNoBound, IsWellOwned, Stands}
use Rattle.flow_graph.specs.Paths.{Lead}
use Rattle.flow_graph.specs.PathProofs.{steps_of}
use Rattle.flow_graph.specs.Leading.{GoesTo, Leads}
use Rattle.flow_graph.proofs.Links.{some_constraint}
use Rattle.walk_laws.specs.Laws.{LeadsAreWalks}
use Rattle.annotate.specs.Texts.{Scene, line, proof_text, walk_text}
use Rattle.flow_query.specs.Answers.{IsFrom, IsTo, IsWalkTo, FromText, NoFrom, OneFrom, ToText, NoTo, OneTo}
use Rattle.flow_query.specs.Ends.{IsBound, IsConstant}
use Rattle.flow_query.specs.Searches.{IsBoundAt, IsConstantAt, IsNoConstant}
use Rattle.flow_query.proofs.Going.{constants_lead}

const_is : {v w l m a b : ℕ} → Const l a v ≡ Const m b w → (a ≡ b) × (v ≡ w)
const_is e = (cc, cc)

bound_is : {v w l m a b : ℕ} → Bound v l a ≡ Bound w m b → v ≡ w
bound_is e = cc

-- an element that is not in a set is in no set that is the same
pub not_in : (is : Bool) (set elem other : ℕ) → (IsTrue is ↔ (bit_at set elem ≡ 1)) → set ≡ other → is ≡ false
    → bit_at other elem ≡ 1 → ⊥
not_in is set elem other tells same out has =
    let in_it : is ≡ true = tells.1 (ap (λ s. bit_at s elem) same ∙ has) in
    absurd cc

-- what a constraint is
module _ (sys : System) (lattice number : ℕ) (constraint : Constraint)
    (there : slice_get sys.constraints number ≡ Some constraint) where
  pub link_there : (link : Link) → Stands sys lattice number link → constraint.link ≡ link
  link_there link stands = ap (λ (c : Constraint). c.link) (some_constraint (sym there ∙ stands.there)) ∙ stands.link_is

  pub constant_stands : (elem at : ℕ) → constraint.link ≡ Const lattice elem at → IsConstantAt sys lattice number at
  constant_stands elem at is = (elem, record { constraint = constraint; there = there; link_is = is; carried = refl })

  pub bound_stands : (elem at : ℕ) → constraint.link ≡ Bound at lattice elem → IsBoundAt sys lattice number at
  bound_stands elem at is = (elem, record { constraint = constraint; there = there; link_is = is; carried = refl })

  -- one that is no constant of the lattice, or whose element does not lead to the variable, does not lead there
  pub no_constant : (var : ℕ) → IsNoConstant constraint.link lattice → IsFrom sys lattice var number → ⊥
  no_constant var none from = none from.elem from.at (link_there (Const lattice from.elem from.at) from.constant)

  pub not_reached : (var elem at : ℕ) → LeadsAreWalks → IsWellOwned sys → constraint.link ≡ Const lattice elem at →
      (Lead sys lattice elem var → ⊥) → IsFrom sys lattice var number → ⊥
  not_reached var elem at law owned is never from =
      let same = const_is (sym (link_there (Const lattice from.elem from.at) from.constant) ∙ is) in
      let Of : ℕ → Type 0 = λ e. Lead sys lattice e var in
      never (subst Of same.0
      (constants_lead sys lattice number from.elem from.at from.constant var
      ((law sys lattice from.at var owned).0 from.leads)))

  pub no_bound : (var : ℕ) → IsNoBound constraint.link lattice → IsTo sys lattice var number → ⊥
  no_bound var none to = none to.at to.elem (link_there (Bound to.at lattice to.elem) to.bound)

-- where the element of a constant does not lead, its variable does not
pub not_led_from : (sys : System) (lattice var elem at : ℕ) → LeadsAreWalks → IsWellOwned sys → (n : ℕ)
    → Stands sys lattice n (Const lattice elem at) →
    (Lead sys lattice elem var → ⊥) → Leads sys lattice at var → ⊥
not_led_from sys lattice var elem at law owned n stands never leads =
    never (constants_lead sys lattice n elem at stands var ((law sys lattice at var owned).0 leads))

-- a constant in a variable that does not lead there
pub no_from_at : (sys : System) (lattice var number at : ℕ) → IsConstantAt sys lattice number at
    → (Leads sys lattice at var → ⊥) → IsFrom sys lattice var number → ⊥
no_from_at sys lattice var number at constant never from =
    let own = constant.1 in
    let link = link_there sys lattice number own.constraint own.there (Const lattice from.elem from.at) from.constant in
    let same = const_is (sym link ∙ own.link_is) in
    let At : ℕ → Type 0 = λ u. Leads sys lattice u var in
    never (subst At same.1 from.leads)

-- what is written of a constant in a variable, and of a bound of one
module _ (sys : System) (lattice var number at : ℕ) (law : LeadsAreWalks) (owned : IsWellOwned sys) where
  pub no_to : IsBoundAt sys lattice number at → (GoesTo sys lattice var at → ⊥) → IsTo sys lattice var number → ⊥
  no_to bound never to =
      let own = bound.1 in
      let link = link_there sys lattice number own.constraint own.there (Bound to.at lattice to.elem) to.bound in
      let At : ℕ → Type 0 = λ v. GoesTo sys lattice var v in
      never (subst At (bound_is (sym link ∙ own.link_is)) ((law sys lattice var to.at owned).0 to.leads))

  pub one_from : (scene : Scene) (walk : Walk) → IsConstantAt sys lattice number at → Leads sys lattice at var →
      IsWalkTo sys lattice at var walk →
      FromText scene sys lattice var number
      (line (codes "from " ++ decimal number) ++ walk_text scene sys (Some number) None walk)
  one_from scene walk constant leads holds =
      let Is : List PathStep → Type 0 = λ steps. FromText scene sys lattice var number
      (line (codes "from " ++ decimal number) ++ proof_text scene sys (steps_of walk.subs.items) steps) in
      let from : IsFrom sys lattice var number =
      record { elem = constant.0; at = at; constant = constant.1; leads = leads } in
      subst Is (sym (append-nil (Take number 0 ∷ walk.steps.items))) (OneFrom from walk holds)

  pub one_to : (scene : Scene) (walk : Walk) → IsBoundAt sys lattice number at → GoesTo sys lattice var at →
      IsWalkTo sys lattice var at walk →
      ToText scene sys lattice var number
      (line (codes "to " ++ decimal number) ++ walk_text scene sys None (Some number) walk)
  one_to scene walk bound goes holds =
      let to : IsTo sys lattice var number =
      record { elem = bound.0; at = at; bound = bound.1; leads = (law sys lattice var at owned).1 goes } in
      OneTo to walk holds

-- what a search says of a variable
pub not_led : {A : Type 0} (is : Bool) → (IsTrue is ↔ A) → is ≡ false → A → ⊥
not_led is tells out has = let led_to : is ≡ true = tells.1 has in absurd cc

pub led : {A : Type 0} (is : Bool) → (IsTrue is ↔ A) → is ≡ true → A
led is tells known = tells.0 known

-- ---- where no constraint is one of these

pub no_from_text : (scene : Scene) (sys : System) (lattice var number : ℕ) → (IsConstant sys lattice number → ⊥)
    → FromText scene sys lattice var number []
no_from_text scene sys lattice var number none = NoFrom (λ from. none (from.at, from.elem, from.constant))

pub no_to_text : (scene : Scene) (sys : System) (lattice var number : ℕ) → (IsBound sys lattice number → ⊥)
    → ToText scene sys lattice var number []
no_to_text scene sys lattice var number none = NoTo (λ to. none (to.at, to.elem, to.bound))

-- where no element leads to a variable, no constant does
pub nothing_led : (sys : System) (lattice var set : ℕ) → LeadsAreWalks → IsWellOwned sys
    → ((e : ℕ) → Lead sys lattice e var → bit_at set e ≡ 1) → set ≡ 0 → (number : ℕ) →
    IsFrom sys lattice var number → ⊥
nothing_led sys lattice var set law owned bits none number from =
    let lead = constants_lead sys lattice number from.elem from.at from.constant var
    ((law sys lattice from.at var owned).0 from.leads) in
    let zero_is = bit_at-zero from.elem in
    let same : bit_at 0 from.elem ≡ 1 = ap (λ s. bit_at s from.elem) (sym none) ∙ bits from.elem lead in
    omega (arith, zero_is, same)
