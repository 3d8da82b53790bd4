-- The nodes of two external functions belong to two functions.
use Rattle.std.proofs.Common.{◌≡◌, ℕ, suc, ◌≤◌, inl, inr, Bool, true, false, ◌&&◌, All, List, [], ◌∷◌, reverse, Option, None, Some, refl, sym, ◌∙◌, ap, subst, arith}
use Rattle.std.specs.List.{filter, Contains}
use Rattle.std.specs.Prelude.{if◌then◌else◌}
use Rattle.std.proofs.lemmas.List.{reverse-append}
use Rattle.std.proofs.lemmas.List.Elements.{Contains-append_cases}
use Rattle.qual_base.specs.declared.places.Owner.{Owner}
use Rattle.qual_base.specs.declared.places.Owner.TheVariants.{Function}
use Rattle.qual_base.proofs.Tests.{and_second, and_first}
use Rattle.flow_graph.specs.System.{owner_of}
use Rattle.flow_rules.specs.Owners.{AllOwned}
use Rattle.name_rules.specs.Spellings.{Place}
use Rattle.name_rules.specs.Scopes.{Role, typedef_role, object_role, function_role, parameter_role, field_role, enumerator_role, Declared, declared_at, Names, is_place}
use Rattle.name_rules.specs.Linking.{is_external, link_of}
use Rattle.type_rules.specs.Program.{names_of}
use Rattle.row_rules.specs.Starting.{is_function_role, is_some_function}
use Rattle.row_rules.specs.Sites.{functions_of, has_place, owner_by}
use Rattle.row_rules.specs.Worlds.{number_among, numbered_from}
use Rattle.row_rules.specs.Annotations.{has_access}
use Rattle.constraint_rules.specs.Systems.{Program, starts_of, system_of}
use Rattle.row_laws.specs.KeyLaws.Differing.{IsRead, UnitsDiffer}
use Rattle.name_rules.proofs.MeaningLaws.Lists.{place_is}
use Rattle.owned_laws.specs.Functions.{FunctionsOwnTheirs, OwnsIts}
use Rattle.annotate.specs.Texts.{UnitText}
use Rattle.sig_writer.specs.Functions.{external_in, externals_in, functions_in, is_first}
use Rattle.sig_writer.specs.Parts.{AreOwnedApart}
use Rattle.sig_writer.specs.Signatures.{External, nodes_of}
use Rattle.sig_writer.proofs.Elements.{first_or, here, none, of_filter, of_map, there}

-- ---- lists

-- an element of a reversed list is one of the list
of_reverse : {X : Type 0} (xs : List X) (x : X) → Contains (reverse xs) x → Contains xs x
of_reverse [] x h = h
of_reverse {X} (y ∷ xs) x h =
    elim (Contains-append_cases (reverse xs) (y ∷ []) x
    (subst (λ (ys : List X). Contains ys x) (reverse-append (y ∷ []) xs) h)) [
      | inl before ↦ there xs y x (of_reverse xs x before)
      | inr last ↦ elim (first_or [] y x last) [
        | inl same ↦ subst (λ (z : X). Contains (y ∷ xs) z) same (here xs y)
        | inr more ↦ absurd (none x more)
      ]
    ]

-- ---- numbers of functions

-- the number of a place among others, counted from n on, is not below n
not_before : (n : ℕ) (places : List Place) (p : Place) → n ≤ number_among n places p
not_before n [] p = omega arith
not_before n (q ∷ places) p = by (is_place q p) (not_before (suc n) places p)
  where
    by : (b : Bool) → suc n ≤ number_among (suc n) places p → n ≤ (if b then n else number_among (suc n) places p)
    by true more = omega arith
    by false more = omega (arith, more)

-- two functions that are numbered have two numbers
one_number : (n : ℕ) (places : List Place) (p q : Place) → has_place places p ≡ true → has_place places q ≡ true →
    number_among n places p ≡ number_among n places q → p ≡ q
one_number n [] p q has_p has_q same = absurd cc
one_number n (x ∷ places) p q has_p has_q same =
    by (is_place x p) (is_place x q) refl refl has_p has_q same (one_number (suc n) places p q)
  where
    by : (a b : Bool) → is_place x p ≡ a → is_place x q ≡ b → (if a then true else has_place places p) ≡ true →
        (if b then true else has_place places q) ≡ true →
        (if a then n else number_among (suc n) places p) ≡ (if b then n else number_among (suc n) places q) →
        (has_place places p ≡ true → has_place places q ≡ true
        → number_among (suc n) places p ≡ number_among (suc n) places q → p ≡ q) →
        p ≡ q
    by true true at_p at_q has_p has_q same later = sym (place_is x p at_p) ∙ place_is x q at_q
    by true false at_p at_q has_p has_q same later =
        let far = not_before (suc n) places q in absurd (omega (arith, far, same))
    by false true at_p at_q has_p has_q same later =
        let far = not_before (suc n) places p in absurd (omega (arith, far, same))
    by false false at_p at_q has_p has_q same later = later has_p has_q same

-- ---- external functions

-- a role of a function is the role of functions, and no other
is_function : (role : Role) → is_function_role role ≡ true → role ≡ function_role
is_function typedef_role is = absurd cc
is_function object_role is = absurd cc
is_function function_role is = refl
is_function (parameter_role i) is = absurd cc
is_function (field_role n i) is = absurd cc
is_function enumerator_role is = absurd cc

some_declared : (found : Option Declared) → is_some_function found ≡ true
    → (d : Declared) × (found ≡ Some d) × (d.role ≡ function_role)
some_declared None is = absurd cc
some_declared (Some d) is = (d, refl, is_function d.role is)

-- each of the variables that all have one owner has this owner
owned_at : (own : ℕ → Owner) (owner : Owner) (vars : List ℕ) (v : ℕ) → AllOwned own owner vars → Contains vars v
    → own v ≡ owner
owned_at own owner [] v all in_vars = absurd (none v in_vars)
owned_at own owner (u ∷ vars) v all in_vars = elim (first_or vars u v in_vars) [
  | inl same ↦ subst (λ w. own w ≡ owner) same all.0
  | inr more ↦ owned_at own owner vars v all.1 more
]

function_is : (m n : ℕ) → Function m ≡ Function n → m ≡ n
function_is m n same = cc

module _ (law : FunctionsOwnTheirs) (units : List UnitText) (p : Program) (read : All IsRead p.sources)
    (differ : UnitsDiffer p.sources) where
  abbrev s : Names
  s = names_of p.sources

  abbrev functions : List Place
  functions = functions_of s

  abbrev external : Place → External
  external = external_in units (numbered_from 0 (starts_of (has_access p.lattices) p.sources))

  -- where an external function was first declared, which is its link
  record IsAt (f : External) : Type 0 where
    q : Place
    is : external q ≡ f
    linked : link_of s q ≡ q
    owns : OwnsIts p q

  at_place : (f : External) → Contains (externals_in units p) f → IsAt f
  at_place f in_it =
      let placed = of_map external (functions_in s) f in_it in
      let thing = of_map (λ (it : ℕ × Place). it.1) (filter (is_first s) (reverse s.things)) placed.0 placed.1 in
      let kept = of_filter (is_first s) (reverse s.things) thing.0 thing.1 in
      let q = placed.0 in
      let at : thing.0.1 ≡ q = thing.2 in
      let tested : is_first s (thing.0.0, q) ≡ true =
      subst (λ (x : Place). is_first s (thing.0.0, x) ≡ true) at kept.1 in
      let both = and_second (is_external s.statics thing.0.0 q)
      (is_place (link_of s q) q && is_some_function (declared_at s.declared q)) tested in
      let linked = place_is (link_of s q) q
      (and_first (is_place (link_of s q) q) (is_some_function (declared_at s.declared q)) both) in
      let declared = some_declared (declared_at s.declared q)
      (and_second (is_place (link_of s q) q) (is_some_function (declared_at s.declared q)) both) in
      let named : Contains s.things (thing.0.0, q) =
      subst (λ (x : Place). Contains s.things (thing.0.0, x)) at (of_reverse s.things thing.0 kept.0) in
      record {
        q = q;
        is = placed.2;
        linked = linked;
        owns = law p read differ thing.0.0 q declared.0 named declared.1 declared.2;
      }

  pub owned_apart : AreOwnedApart (system_of p) (externals_in units p)
  owned_apart one other u v f in_one in_other at_u at_v own_u own_v =
      let a = at_place one in_one in
      let b = at_place other in_other in
      let first : Function f ≡ Function (number_among 0 functions (link_of s a.q)) =
      sym own_u ∙ owned_at (owner_of (system_of p)) (owner_by functions (Some (link_of s a.q)))
      (nodes_of (external a.q)) u a.owns.owned
      (subst (λ (e : External). Contains (nodes_of e) u) (sym a.is) at_u) in
      let second : Function f ≡ Function (number_among 0 functions (link_of s b.q)) =
      sym own_v ∙ owned_at (owner_of (system_of p)) (owner_by functions (Some (link_of s b.q)))
      (nodes_of (external b.q)) v b.owns.owned
      (subst (λ (e : External). Contains (nodes_of e) v) (sym b.is) at_v) in
      let numbers = function_is (number_among 0 functions (link_of s a.q)) (number_among 0 functions (link_of s b.q))
      (sym first ∙ second) in
      let links = one_number 0 functions (link_of s a.q) (link_of s b.q) a.owns.numbered b.owns.numbered numbers in
      let places : a.q ≡ b.q = sym a.linked ∙ links ∙ b.linked in
      ap nodes_of (sym a.is ∙ ap external places ∙ b.is)
