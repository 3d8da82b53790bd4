-- Sub-paths that come behind others.
use Rattle.std.proofs.Common.{◌≡◌, ◌≢◌, ℕ, zero, suc, ◌+◌, ◌-◌, ◌<◌, List, [], ◌∷◌, ◌++◌, length, slice_get, Option, Some, None, option_map, inl, inr, refl, sym, ◌∙◌, ap, subst, arith}
use Rattle.std.proofs.Math.Dec.{eqb-suc-zero}
use Rattle.std.proofs.lemmas.Bool.{cases_eq}
use Rattle.std.proofs.lemmas.List.{length-append}
use Rattle.std.proofs.lemmas.Option.{same_Some}
use Rattle.qual_base.proofs.Lists.{get_left, push_last}
use Rattle.flow_graph.specs.declared.proof.PathStep.{PathStep}
use Rattle.flow_graph.specs.declared.proof.PathStep.TheVariants.{Sub}
use Rattle.flow_graph.specs.declared.step.Seen.TheVariants.{Through}
use Rattle.flow_graph.specs.System.{System}
use Rattle.flow_graph.specs.PathProofs.{look, span_of, AreApart}
use Rattle.flow_graph.specs.declared.phase.Phase.{Phase}
use Rattle.flow_graph.specs.Parts.{Part, Flow, Empty, Full, Inside, Done, More, IsSub, None as NoSubs, Next, Goal, Onward, Ends, There, Along, Back, Into}
use Rattle.error_path.specs.Made.{AreMade}
use Rattle.error_path.specs.Traced.{HasSub}
use Rattle.flow_laws.proofs.Showing.{sub_span}
use Rattle.match_summary.proofs.Growth.{push_cases}

module _ (sys : System) where
  span_more : (o : Option (List PathStep)) (subs more : List (List PathStep)) (n u v : ℕ) → slice_get subs n ≡ o
      → span_of sys o ≡ Through u v →
      span_of sys (slice_get (subs ++ more) n) ≡ Through u v
  span_more None subs more n u v is span = absurd cc
  span_more (Some steps) subs more n u v is span = ap (span_of sys) (get_left subs more n steps is) ∙ span

  look_next : (subs : List (List PathStep)) (n : ℕ) → look sys subs (Sub (suc n) 0) ≡ span_of sys (slice_get subs n)
  look_next subs n = let less : suc n - 1 ≡ n = omega arith in rw (eqb-suc-zero n, less) refl

  -- what a number names stays where more sub-paths come
  pub look_more : (subs more : List (List PathStep)) (k u v : ℕ) → look sys subs (Sub k 0) ≡ Through u v
      → look sys (subs ++ more) (Sub k 0) ≡ Through u v
  look_more subs more zero u v is = absurd cc
  look_more subs more (suc n) u v is =
      look_next (subs ++ more) n ∙ span_more (slice_get subs n) subs more n u v refl (sym (look_next subs n) ∙ is)

  -- a number that names a sub-path
  pub sub_looked : (subs : List (List PathStep)) (k u v : ℕ) → look sys subs (Sub k 0) ≡ Through u v
      → HasSub sys subs u v
  sub_looked subs zero u v is = absurd cc
  sub_looked subs (suc n) u v is = (n, sym (look_next subs n) ∙ is)

  pub sub_more : (subs more : List (List PathStep)) (u v : ℕ) → HasSub sys subs u v → HasSub sys (subs ++ more) u v
  sub_more subs more u v has = (has.0, span_more (slice_get subs has.0) subs more has.0 u v refl has.1)

  look_at : (subs : List (List PathStep)) (n : ℕ) → look sys subs (Sub (n + 1) 0) ≡ span_of sys (slice_get subs n)
  look_at subs n = let next : n + 1 ≡ suc n = omega arith in ap (λ k. look sys subs (Sub k 0)) next ∙ look_next subs n

  pub made_none : (lattice : ℕ) (subs : List (List PathStep)) (place : ℕ → ℕ → Option ℕ) → subs ≡ []
      → ((u v : ℕ) → place u v ≡ None) → AreMade sys lattice subs place
  made_none lattice subs place is none =
      let empty : AreMade sys lattice [] place = record {
        good = NoSubs;
        few = omega arith;
        found = λ u v n some. let no : None ≡ Some n = sym (none u v) ∙ some in absurd cc;
        named = λ n steps some. absurd cc;
      } in
      subst (λ xs. AreMade sys lattice xs place) (sym is) empty

  module _ (lattice : ℕ) (subs : List (List PathStep)) (place new : ℕ → ℕ → Option ℕ) (u v : ℕ) (steps : List PathStep)
      (made : AreMade sys lattice subs place)
      (sub : IsSub sys lattice subs u v steps) (free : place u v ≡ None) (room : length subs < 4294967294)
      (here : new u v ≡ Some (length subs))
      (others : (x y : ℕ) → (x ≡ u → y ≢ v) → new x y ≡ place x y) where
    longer : length (subs ++ steps ∷ []) ≡ length subs + 1
    longer = length-append subs (steps ∷ [])

    new_found : (x y n : ℕ) → x ≡ u → y ≡ v → new x y ≡ Some n
        → (n < length (subs ++ steps ∷ [])) × (look sys (subs ++ steps ∷ []) (Sub (n + 1) 0) ≡ Through x y)
    new_found x y n f t is =
        let at : n ≡ length subs =
        same_Some n (length subs) (sym is ∙ ap (λ z. new z y) f ∙ ap (λ z. new u z) t ∙ here) in
        let size = longer in (
          omega (arith, at, size),
          look_at (subs ++ steps ∷ []) n ∙ ap (λ k. span_of sys (slice_get (subs ++ steps ∷ []) k)) at
              ∙ ap (span_of sys) (push_last subs steps) ∙ sub_span sys lattice subs u v steps sub
              ∙ ap (λ z. Through z v) (sym f) ∙ ap (λ z. Through x z) (sym t),
        )

    old_found : (x y n : ℕ) → (x ≡ u → y ≢ v) → new x y ≡ Some n
        → (n < length (subs ++ steps ∷ [])) × (look sys (subs ++ steps ∷ []) (Sub (n + 1) 0) ≡ Through x y)
    old_found x y n other is =
        let was = made.found x y n (sym (others x y other) ∙ is) in
        let lt = was.0 in
        let size = longer in
        (omega (arith, lt, size), look_more subs (steps ∷ []) (n + 1) x y was.1)

    old_named : (n x y : ℕ) → place x y ≡ Some n → new x y ≡ Some n
    old_named n x y is = elim (cases_eq x u) [
      | inr not ↦ others x y (λ e. absurd (not e)) ∙ is
      | inl f ↦ elim (cases_eq y v) [
        | inr not ↦ others x y (λ e. not) ∙ is
        | inl t ↦
            let no : None ≡ Some n = sym free ∙ ap (λ z. place z v) (sym f) ∙ ap (λ z. place x z) (sym t) ∙ is in
            absurd cc
      ]
    ]

    pub made_push : AreMade sys lattice (subs ++ steps ∷ []) new
    made_push = record {
      good = Next subs u v steps made.good sub;
      few = let size = longer in omega (arith, size, room);
      found = λ x y n is. elim (cases_eq x u) [
        | inr not ↦ old_found x y n (λ e. absurd (not e)) is
        | inl f ↦ elim (cases_eq y v) [ inl t ↦ new_found x y n f t is | inr not ↦ old_found x y n (λ e. not) is ]
      ];
      named = λ n some is. elim (push_cases subs steps n some is) [
        | inl old ↦ let was = made.named n some old.1 in (was.0, was.1, was.2, old_named n was.0 was.1 was.3)
        | inr last ↦ (
          u,
          v,
          ap (λ xs. span_of sys (Some xs)) (sym last.1) ∙ sub_span sys lattice subs u v steps sub,
          here ∙ ap (λ k. Some k) (sym last.0),
        )
      ];
    }

  through_is : (u v x y : ℕ) → Through u v ≡ Through x y → (u ≡ x) × (v ≡ y)
  through_is u v x y e = (cc, cc)

  -- sub-paths that have places are apart
  pub made_apart : (lattice : ℕ) (subs : List (List PathStep)) (place : ℕ → ℕ → Option ℕ)
      → AreMade sys lattice subs place → AreApart sys subs
  made_apart lattice subs place made n m one other first second same =
      let p = made.named n one first in
      let q = made.named m other second in
      let ends = through_is p.0 p.1 q.0 q.1 (sym p.2 ∙ same ∙ q.2) in
      same_Some n m (sym p.3 ∙ ap (λ z. place z p.1) ends.0 ∙ ap (λ z. place q.0 z) ends.1 ∙ q.3)

  -- parts and main paths stay where more sub-paths come
  module _ (lattice : ℕ) (subs more : List (List PathStep)) where
    part_grown : (u v : ℕ) (front : List PathStep) → Part sys lattice subs u v front
        → Part sys lattice (subs ++ more) u v front
    part_grown u v _ (Flow _ _ n st) = Flow u v n st
    part_grown u v _ (Empty _ a _ s n m st ts) = Empty u a v s n m st ts
    part_grown u v _ (Full _ a b _ s n m k st is ts) = Full u a b v s n m k st (look_more subs more k a b is) ts

    pub inside_grown : (f u v : ℕ) (steps : List PathStep) → Inside sys lattice subs f u v steps
        → Inside sys lattice (subs ++ more) f u v steps
    inside_grown f u _ _ (Done _) = Done u
    inside_grown f u v _ (More _ x _ front rest part from to on) =
        More u x v front rest (part_grown u x front part) from to (inside_grown f x v rest on)

    pub onward_grown : (goal : Goal) (p : Phase) (u : ℕ) (steps : List PathStep)
        → Onward sys lattice subs goal p u steps → Onward sys lattice (subs ++ more) goal p u steps
    onward_grown _ p u _ (Ends bound _ _ limit st) = Ends bound p u limit st
    onward_grown _ p u _ (There _ _) = There p u
    onward_grown goal p u _ (Along _ _ _ v front rest part on) =
        Along goal p u v front rest (part_grown u v front part) (onward_grown goal _ v rest on)
    onward_grown goal _ u _ (Back _ _ v s n rest st on) = Back goal u v s n rest st (onward_grown goal _ v rest on)
    onward_grown goal p u _ (Into _ _ _ v s n rest st on) = Into goal p u v s n rest st (onward_grown goal _ v rest on)

-- a number that a place gives
pub number_place : (place : Option ℕ) (k : ℕ) → option_map (λ n. n + 1) place ≡ Some k
    → (n : ℕ) × (place ≡ Some n) × (k ≡ n + 1)
number_place None k is = absurd cc
number_place (Some n) k is = (n, refl, cc)

pub no_number : (place : Option ℕ) → option_map (λ n. n + 1) place ≡ None → place ≡ None
no_number None is = refl
no_number (Some n) is = absurd cc
