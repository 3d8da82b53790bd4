-- A path with its sub-paths, whose steps were read from no lines, is a path proof that holds.
use Rattle.std.proofs.Common.{◌≡◌, ℕ, ◌-◌, false, List, [], ◌∷◌, ◌++◌, map, length, slice_get, Option, Some, None, if◌then◌else◌, suc, arith, refl, sym, ◌∙◌, ap, subst, append_assoc, append-nil}
use Rattle.qual_base.specs.declared.places.Owner.TheVariants.{Function}
use Rattle.lattice_core.specs.Order.{Order, leq}
use Rattle.flow_graph.specs.declared.constraint.Link.{Link}
use Rattle.flow_graph.specs.declared.constraint.Link.TheVariants.{Le, Const, Bound, Enter, Leave}
use Rattle.flow_graph.specs.declared.proof.PathStep.{PathStep}
use Rattle.flow_graph.specs.declared.proof.PathStep.TheVariants.{Take, Sub}
use Rattle.flow_graph.specs.declared.proof.BadStep.{BadStep}
use Rattle.flow_graph.specs.declared.proof.Why.{Why}
use Rattle.flow_graph.specs.declared.proof.Why.TheVariants.{B1}
use Rattle.flow_graph.specs.declared.step.Seen.{Seen}
use Rattle.flow_graph.specs.declared.step.Seen.TheVariants.{Through}
use Rattle.flow_graph.specs.declared.step.Path.{Path}
use Rattle.flow_graph.specs.declared.step.Path.TheVariants.{Main, Sub as SubOf}
use Rattle.flow_graph.specs.System.{System, owner_of, Stands}
use Rattle.flow_graph.specs.PathRules.{begins, ends, is_bound, rule_at}
use Rattle.flow_graph.specs.PathProofs.{first_failing, main_fault, subs_fault, in_path, look, edge_at, first_of, last_of, of_step, through, span_of, home_of, owner_at, fault_or, or_else, end_fault, ends_in_bound}
use Rattle.flow_graph.specs.declared.phase.Phase.{Phase}
use Rattle.flow_graph.specs.declared.phase.Phase.TheVariants.{First, Second}
use Rattle.flow_graph.specs.Parts.{settled, Part, Flow, Empty, Full, Inside, Done, More, IsSub, Onward, ToBound, Ends, Along, Back, Into, IsPath}
use Rattle.flow_laws.specs.PathForms.{AreSubPaths, NoPaths, NoSteps, Stepped}
use Rattle.flow_laws.proofs.Places.{edge}
use Rattle.flow_laws.proofs.Passing.{start_passes}
use Rattle.flow_laws.proofs.Walking.{seen, inside_passes, follows_none, follows_const, call_const, quiet_and, onward_passes, Settles}

-- two steps and more have the last one of those behind the first
last_more : {A : Type 0} (x y : A) (zs : List A) → last_of (x ∷ y ∷ zs) ≡ last_of (y ∷ zs)
last_more x y zs =
    let steps : length (x ∷ y ∷ zs) - 1 ≡ suc (length (y ∷ zs) - 1) = omega arith in
    ap (slice_get (x ∷ y ∷ zs)) steps

or_none : (a b : Option BadStep) → or_else a b ≡ None → (a ≡ None) × (b ≡ None)
or_none (Some x) b is = absurd cc
or_none None b is = (refl, is)

or_both : (a b : Option BadStep) → a ≡ None → b ≡ None → or_else a b ≡ None
or_both a b first second = ap (λ x. or_else x b) first ∙ second

module _ (sys : System) (lattice : ℕ) (subs : List (List PathStep)) where
  -- where a step that takes a constraint begins and ends
  begins_at : (n : ℕ) (link : Link) (st : Stands sys lattice n link)
      → begins (edge_at sys (Take n 0)) ≡ begins (edge link st.constraint.lattices st.constraint.span)
  begins_at n link st = ap begins (seen sys lattice n link st)

  ends_at : (n : ℕ) (link : Link) (st : Stands sys lattice n link)
      → ends (edge_at sys (Take n 0)) ≡ ends (edge link st.constraint.lattices st.constraint.span)
  ends_at n link st = ap ends (seen sys lattice n link st)

  -- the end of the last of some steps
  abbrev pub end_is : List PathStep → ℕ → Type 0
  end_is steps v = of_step sys (last_of steps) ends ≡ Some v

  end_more : (x y : PathStep) (rest : List PathStep) (v : ℕ) → end_is (y ∷ rest) v → end_is (x ∷ y ∷ rest) v
  end_more x y rest v is = ap (λ s. of_step sys s ends) (last_more x y rest) ∙ is

  -- a part in front of steps that may be empty
  part_end : (u x v : ℕ) (front rest : List PathStep) → Part sys lattice subs u x front
      → ((s : PathStep) → ends (edge_at sys s) ≡ Some x → end_is (s ∷ rest) v) →
      end_is (front ++ rest) v
  part_end u x v _ rest (Flow _ _ n st) more = more (Take n 0) (ends_at n (Le u x) st)
  part_end u x v _ rest (Empty _ a _ s n m st ts) more =
      end_more (Take n 0) (Take m 0) rest v (more (Take m 0) (ends_at m (Leave s a x) ts))
  part_end u x v _ rest (Full _ a b _ s n m k st is ts) more =
      end_more (Take n 0) (Sub k 0) (Take m 0 ∷ rest) v
      (end_more (Sub k 0) (Take m 0) rest v (more (Take m 0) (ends_at m (Leave s b x) ts)))

  part_more : (u x v : ℕ) (front rest : List PathStep) → Part sys lattice subs u x front
      → ((s : PathStep) → ends (edge_at sys s) ≡ Some x → end_is (s ∷ rest) v) →
      (s : PathStep) → end_is (s ∷ (front ++ rest)) v
  part_more u x v _ rest (Flow _ _ n st) more s = end_more s (Take n 0) rest v (more (Take n 0) (ends_at n (Le u x) st))
  part_more u x v _ rest (Empty _ a _ t n m st ts) more s =
      end_more s (Take n 0) (Take m 0 ∷ rest) v
      (end_more (Take n 0) (Take m 0) rest v (more (Take m 0) (ends_at m (Leave t a x) ts)))
  part_more u x v _ rest (Full _ a b _ t n m k st is ts) more s =
      end_more s (Take n 0) (Sub k 0 ∷ Take m 0 ∷ rest) v
      (end_more (Take n 0) (Sub k 0) (Take m 0 ∷ rest) v
      (end_more (Sub k 0) (Take m 0) rest v (more (Take m 0) (ends_at m (Leave t b x) ts))))

  inside_end : (f u v : ℕ) (steps : List PathStep) → Inside sys lattice subs f u v steps → (s : PathStep)
      → ends (edge_at sys s) ≡ Some u → end_is (s ∷ steps) v
  inside_end f u _ _ (Done _) s is = is
  inside_end f u v _ (More _ x _ front rest part from to more) s is =
      part_more u x v front rest part (inside_end f x v rest more) s

  part_begin : (u x : ℕ) (front rest : List PathStep) → Part sys lattice subs u x front
      → of_step sys (first_of (front ++ rest)) begins ≡ Some u
  part_begin u x _ rest (Flow _ _ n st) = begins_at n (Le u x) st
  part_begin u x _ rest (Empty _ a _ s n m st ts) = begins_at n (Enter s u a) st
  part_begin u x _ rest (Full _ a b _ s n m k st is ts) = begins_at n (Enter s u a) st

  -- a sub-path begins and ends at its variables
  pub sub_begin : (u v : ℕ) (steps : List PathStep) → IsSub sys lattice subs u v steps
      → of_step sys (first_of steps) begins ≡ Some u
  sub_begin u v steps sub =
      ap (λ xs. of_step sys (first_of xs) begins) sub.steps_are ∙ part_begin u sub.next sub.front sub.rest sub.part

  pub sub_span : (u v : ℕ) (steps : List PathStep) → IsSub sys lattice subs u v steps
      → span_of sys (Some steps) ≡ Through u v
  sub_span u v steps sub =
      let last : of_step sys (last_of steps) ends ≡ Some v =
      ap (λ xs. of_step sys (last_of xs) ends) sub.steps_are
      ∙ part_end u sub.next v sub.front sub.rest sub.part (inside_end sub.function sub.next v sub.rest sub.more) in
      ap (λ x. through x (of_step sys (last_of steps) ends)) (sub_begin u v steps sub)
      ∙ ap (λ x. through (Some u) x) last

  -- a sub-path fails no rule
  pub sub_passes : (order : Order) (elem u v : ℕ) (steps : List PathStep) → IsSub sys lattice subs u v steps →
      first_failing sys order (SubOf (home_of sys steps)) lattice elem (look sys subs) [] steps ≡ None
  sub_passes order elem u v steps sub =
      let home : home_of sys steps ≡ Function sub.function =
      ap (owner_at sys) (sub_begin u v steps sub) ∙ sub.from_is in
      let Passes : Path → List PathStep → Type 0 =
      λ path xs. first_failing sys order path lattice elem (look sys subs) [] xs ≡ None in
      let Of : List PathStep → Type 0 = λ xs. Passes (SubOf (home_of sys steps)) xs in
      subst Of (sym sub.steps_are)
      (subst (λ o. Passes (SubOf o) (sub.front ++ sub.rest)) (sym home)
      (inside_passes sys order lattice elem subs sub.function u v (sub.front ++ sub.rest)
      (More u sub.next v sub.front sub.rest sub.part sub.from_is sub.next_is sub.more) []
      (follows_none sys order lattice elem subs sub.function u)))

-- sub-paths that each rest on earlier ones fail no rule
module _ (sys : System) (order : Order) (lattice elem : ℕ) where
  subs_more : (earlier xs : List (List PathStep)) (y : List PathStep)
      → subs_fault sys order lattice elem earlier xs ≡ None →
      first_failing sys order (SubOf (home_of sys y)) lattice elem (look sys (earlier ++ xs)) [] y ≡ None
      → subs_fault sys order lattice elem earlier (xs ++ y ∷ []) ≡ None
  subs_more earlier [] y none last =
      let Passes : List (List PathStep) → Type 0 =
      λ before. first_failing sys order (SubOf (home_of sys y)) lattice elem (look sys before) [] y ≡ None in
      or_both _ _ (subst Passes (append-nil earlier) last) refl
  subs_more earlier (x ∷ xs) y none last =
      let Passes : List (List PathStep) → Type 0 =
      λ before. first_failing sys order (SubOf (home_of sys y)) lattice elem (look sys before) [] y ≡ None in
      let both = or_none _ _ none in
      or_both _ _ both.0
      (subs_more (earlier ++ x ∷ []) xs y both.1 (subst Passes (sym (append_assoc earlier (x ∷ []) xs)) last))

  pub subs_pass : (subs : List (List PathStep)) → AreSubPaths sys lattice subs
      → subs_fault sys order lattice elem [] subs ≡ None
  subs_pass _ NoPaths = refl
  subs_pass _ (NoSteps subs before) = subs_more [] subs [] (subs_pass subs before) refl
  subs_pass _ (Stepped subs u v steps before sub) =
      subs_more [] subs steps (subs_pass subs before) (sub_passes sys lattice subs order elem u v steps sub)

module _ (sys : System) (lattice : ℕ) (subs : List (List PathStep)) (bound : ℕ) where
  last_part : (u v : ℕ) (front rest : List PathStep) → Part sys lattice subs u v front
      → ((s : PathStep) → last_of (s ∷ rest) ≡ Some (Take bound 0)) →
      (s : PathStep) → last_of (s ∷ (front ++ rest)) ≡ Some (Take bound 0)
  last_part u v _ rest (Flow _ _ n st) more s = last_more s (Take n 0) rest ∙ more (Take n 0)
  last_part u v _ rest (Empty _ a _ t n m st ts) more s =
      last_more s (Take n 0) (Take m 0 ∷ rest) ∙ last_more (Take n 0) (Take m 0) rest ∙ more (Take m 0)
  last_part u v _ rest (Full _ a b _ t n m k st is ts) more s =
      last_more s (Take n 0) (Sub k 0 ∷ Take m 0 ∷ rest) ∙ last_more (Take n 0) (Sub k 0) (Take m 0 ∷ rest)
      ∙ last_more (Sub k 0) (Take m 0) rest ∙ more (Take m 0)

  -- the last step takes the bound
  onward_last : (p : Phase) (u : ℕ) (steps : List PathStep) → Onward sys lattice subs (ToBound bound) p u steps
      → (s : PathStep) → last_of (s ∷ steps) ≡ Some (Take bound 0)
  onward_last p u _ (Ends _ _ _ limit st) s = refl
  onward_last p u _ (Along _ _ _ v front rest part more) s =
      last_part u v front rest part (onward_last (settled (owner_of sys v) p) v rest more) s
  onward_last _ u _ (Back _ _ v t n rest st more) s =
      last_more s (Take n 0) rest ∙ onward_last (settled (owner_of sys v) First) v rest more (Take n 0)
  onward_last p u _ (Into _ _ _ v t n rest st more) s =
      last_more s (Take n 0) rest ∙ onward_last (settled (owner_of sys v) Second) v rest more (Take n 0)

  pub path_last : (elem : ℕ) (steps : List PathStep) → IsPath sys lattice subs elem bound steps
      → last_of steps ≡ Some (Take bound 0)
  path_last elem steps path =
      ap last_of path.steps_are ∙ onward_last _ path.from path.rest path.onward (Take path.start 0)

  onward_bound : (p : Phase) (u : ℕ) (steps : List PathStep) → Onward sys lattice subs (ToBound bound) p u steps
      → (v : ℕ) × (limit : ℕ) × Stands sys lattice bound (Bound v lattice limit)
  onward_bound p u _ (Ends _ _ _ limit st) = (u, limit, st)
  onward_bound p u _ (Along _ _ _ v front rest part more) = onward_bound (settled (owner_of sys v) p) v rest more
  onward_bound _ u _ (Back _ _ v t n rest st more) = onward_bound (settled (owner_of sys v) First) v rest more
  onward_bound p u _ (Into _ _ _ v t n rest st more) = onward_bound (settled (owner_of sys v) Second) v rest more

  abbrev unended : ℕ → BadStep
  unended end = record { line = end; why = B1 }

  -- a path that a constant is not below
  module _ (order : Order) (elem : ℕ) (good : AreSubPaths sys lattice subs)
      (over : (v limit : ℕ) → Stands sys lattice bound (Bound v lattice limit) → leq order elem limit ≡ false) where
    module _ (start from : ℕ) (rest : List PathStep) (end : ℕ)
        (constant : Stands sys lattice start (Const lattice elem from))
        (onward : Onward sys lattice subs (ToBound bound) (settled (owner_of sys from) First) from rest) where
      abbrev first : Seen
      first = edge (Const lattice elem from) constant.constraint.lattices constant.constraint.span

      ends_well : end_fault sys (Take start 0 ∷ rest) end ≡ None
      ends_well =
          let Ending : Option PathStep → Type 0 =
          λ step. (if ends_in_bound sys step then None else Some (unended end)) ≡ None in
          let Sees : Seen → Type 0 = λ s. (if is_bound s then None else Some (unended end)) ≡ None in
          let st = onward_bound _ from rest onward in
          subst Ending (sym (onward_last _ from rest onward (Take start 0)))
          (subst Sees (sym (seen sys lattice bound (Bound st.0 lattice st.1) st.2)) refl)

      settles : Settles sys order lattice elem subs (settled (owner_of sys from) First) (first ∷ [])
      settles is =
          λ after. call_const sys order Main lattice elem [] after lattice elem from _ _
          ∙ quiet_and sys order Main lattice elem _ _ refl

      abbrev whole : Option Why → Option BadStep → Option BadStep
      whole why walk =
          or_else (fault_or why 0 None) (or_else (subs_fault sys order lattice elem [] subs)
          (or_else (fault_or why 0 walk) (end_fault sys (Take start 0 ∷ rest) end)))

      abbrev walked : Seen → Option BadStep
      walked s = first_failing sys order Main lattice elem (look sys subs) (s ∷ []) rest

      pub passes : main_fault sys order lattice elem subs (Take start 0) rest end ≡ None
      passes =
          let Rule : Seen → Option Why =
          λ s. rule_at sys order (in_path sys Main lattice elem [] s (map (look sys subs) rest)) in
          let Passes : Seen → Type 0 = λ s. whole (Rule s) (walked s) ≡ None in
          subst Passes (sym (seen sys lattice start (Const lattice elem from) constant))
          (ap (λ why. whole why (walked first)) (start_passes sys order lattice elem _ _ from _ _)
          ∙ or_both _ _ (subs_pass sys order lattice elem subs good)
          (or_both _ _ (onward_passes sys order lattice elem subs (ToBound bound) over _ from rest onward (first ∷ [])
          (follows_const sys order Main lattice elem lattice elem from _ _) settles) ends_well))
