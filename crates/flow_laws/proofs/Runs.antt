-- What is known of whole paths no step of which fails.
use Rattle.std.proofs.Common.{◌≡◌, ℕ, suc, ◌-◌, Bool, true, false, ◌==◌, List, [], ◌∷◌, length, Option, Some, None, option_map, refl, sym, ◌∙◌, ap, arith, slice_get, if◌then◌else◌}
use Rattle.std.proofs.lemmas.Bool.{not-false}
use Rattle.qual_base.specs.declared.places.Span.{Span}
use Rattle.qual_base.specs.declared.places.Owner.TheVariants.{Nobody}
use Rattle.lattice_core.specs.Order.{Order}
use Rattle.flow_graph.specs.declared.constraint.Link.{Link}
use Rattle.flow_graph.specs.declared.constraint.Link.TheVariants.{Le, Const, Bound, Enter, Leave}
use Rattle.flow_graph.specs.declared.proof.PathStep.{PathStep}
use Rattle.flow_graph.specs.declared.proof.PathStep.TheVariants.{Take, Sub as SubStep}
use Rattle.flow_graph.specs.declared.proof.Why.{Why}
use Rattle.flow_graph.specs.declared.proof.BadStep.{BadStep}
use Rattle.flow_graph.specs.declared.step.Seen.{Seen}
use Rattle.flow_graph.specs.declared.step.Seen.TheVariants.{Edge, Through, NoSub, NoEdge}
use Rattle.flow_graph.specs.declared.step.Path.TheVariants.{Main, Sub}
use Rattle.flow_graph.specs.System.{System}
use Rattle.flow_graph.specs.PathRules.{is_sub, is_bound, is_const, holds_of, is_headless, is_late_const, is_stray_bound, is_loose_sub, is_after_sub}
use Rattle.flow_graph.specs.PathProofs.{fault_or, first_of, last_of, edge_at, through, span_of, look, or_else, ends_in_bound}
use Rattle.flow_laws.proofs.Clear.{Clear}
use Rattle.flow_laws.proofs.Places.{edge, here}

pub no_fault : (r : Option Why) (line : ℕ) (rest : Option BadStep) → fault_or r line rest ≡ None
    → (r ≡ None) × (rest ≡ None)
no_fault (Some w) line rest e = absurd cc
no_fault None line rest e = (refl, e)

pub nothing : (a b : Option BadStep) → or_else a b ≡ None → (a ≡ None) × (b ≡ None)
nothing (Some x) b e = absurd cc
nothing None b e = (refl, e)

-- the last of the steps, or the last before them
abbrev pub last_seen : (PathStep → Seen) → List Seen → List PathStep → Option Seen
last_seen see before [] = first_of before
last_seen see before (s ∷ steps) = last_seen see (see s ∷ before) steps

-- the last of two steps and more is the last of those behind the first
last_on : (s t : PathStep) (steps : List PathStep) → last_of (s ∷ t ∷ steps) ≡ last_of (t ∷ steps)
last_on s t steps =
    let count : length (s ∷ t ∷ steps) - 1 ≡ suc (length (t ∷ steps) - 1) = omega arith in
    rw count refl

last_there : (see : PathStep → Seen) (before : List Seen) (s : PathStep) (steps : List PathStep)
    → last_seen see before (s ∷ steps) ≡ None → ⊥
last_there see before s [] e = cc
last_there see before s (t ∷ steps) e = last_there see (see s ∷ before) t steps e

pub last_is : (see : PathStep → Seen) (before : List Seen) (s : PathStep) (steps : List PathStep)
    → last_seen see before (s ∷ steps) ≡ option_map see (last_of (s ∷ steps))
last_is see before s [] = refl
last_is see before s (t ∷ steps) = last_is see (see s ∷ before) t steps ∙ ap (option_map see) (sym (last_on s t steps))

module _ (sys : System) (order : Order) (lattice elem : ℕ) where
  -- a sub-path that nobody owns fails at its first step
  pub nobody_fails : (next : Option Seen) (step : Seen)
      → Clear sys order (here (Sub Nobody) lattice elem None None step next false) → ⊥
  unfolding is_late_const is_stray_bound is_loose_sub is_after_sub
  nobody_fails next (Edge e) k = on_link e.link e.lattices e.span k
    where
      on_link : (l : Link) (m : ℕ) (p : Span)
          → Clear sys order (here (Sub Nobody) lattice elem None None (edge l m p) next false) → ⊥
      on_link (Le u v) m p k = let wrong : true ≡ false = k.own in cc
      on_link (Const l e v) m p k = let wrong : true ≡ false = k.no_const in cc
      on_link (Bound u l b) m p k = let wrong : true ≡ false = k.no_bound in cc
      on_link (Enter s u v) m p k = let wrong : true ≡ false = k.own in cc
      on_link (Leave s u v) m p k = let wrong : true ≡ false = k.own in cc
  nobody_fails next (Through u v) k = let wrong : true ≡ false = k.in_group in cc
  nobody_fails next NoSub k = let wrong : true ≡ false = k.there in cc
  nobody_fails next NoEdge k = let wrong : true ≡ false = k.known in cc

  through_sub : (u v : Option ℕ) → is_sub (through u v) ≡ true
  through_sub (Some u) (Some v) = refl
  through_sub (Some u) None = refl
  through_sub None v = refl

  if_sub : (b : Bool) (x : Seen) → is_sub x ≡ true → is_sub (if b then NoSub else x) ≡ true
  if_sub true x e = refl
  if_sub false x e = e

  span_sub : (o : Option (List PathStep)) → is_sub (span_of sys o) ≡ true
  span_sub (Some steps) = through_sub _ _
  span_sub None = refl

  -- a sub-path's number is looked at as one
  pub look_sub : (earlier : List (List PathStep)) (number line : ℕ)
      → is_sub (look sys earlier (SubStep number line)) ≡ true
  look_sub earlier number line = if_sub (number == 0) _ (span_sub (slice_get earlier (number - 1)))

  pub look_edge : (earlier : List (List PathStep)) (s : PathStep) → is_sub (look sys earlier s) ≡ false
      → look sys earlier s ≡ edge_at sys s
  look_edge earlier (Take e line) no_sub = refl
  look_edge earlier (SubStep number line) no_sub =
      let both : true ≡ false = sym (look_sub earlier number line) ∙ no_sub in
      absurd cc

pub headed : (lattice elem : ℕ) (next : Option Seen) (step : Seen)
    → is_headless (here Main lattice elem None None step next false) ≡ false → is_const step ≡ true
unfolding is_headless
headed lattice elem next step e = not-false (is_const step) e

-- what a step names is never a sub-path and a constant
both : (x : Seen) → is_sub x ≡ true → is_const x ≡ true → ⊥
both (Edge c) sub const = cc
both (Through u v) sub const = cc
both NoSub sub const = cc
both NoEdge sub const = cc

pub if_none : (b : Bool) (x : BadStep) → (if b then None else Some x) ≡ None → b ≡ true
if_none true x e = refl
if_none false x e = absurd cc

module _ (sys : System) (order : Order) (lattice elem : ℕ) where
  pub const_edge : (subs : List (List PathStep)) (s : PathStep) → is_const (look sys subs s) ≡ true
      → is_const (edge_at sys s) ≡ true
  const_edge subs (Take n line) is = is
  const_edge subs (SubStep n line) is = absurd (both _ (look_sub sys order lattice elem subs n line) is)

  pub ends_bound : (subs : List (List PathStep)) (o : Option PathStep) (seen : Option Seen)
      → seen ≡ option_map (look sys subs) o → holds_of seen is_sub ≡ false → holds_of seen is_bound ≡ false →
      ends_in_bound sys o ≡ true → ⊥
  ends_bound subs (Some s) seen is no_sub unbound end =
      let same = look_edge sys order lattice elem subs s (rw is at no_sub) in
      let none : is_bound (look sys subs s) ≡ false = rw is at unbound in
      let clash : false ≡ true = sym none ∙ ap is_bound same ∙ end in
      cc
  ends_bound subs None seen is no_sub unbound end = cc
