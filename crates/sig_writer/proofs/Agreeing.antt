-- The text of a type is one for all words that are the same at its nodes.
use Rattle.std.proofs.Common.{◌≡◌, ℕ, zero, Bool, ◌||◌, List, [], ◌∷◌, ◌++◌, codes, Option, None, Some, refl}
use Rattle.std.proofs.Common.{◌∙◌, ap, subst, inl, inr, arith}
use Rattle.std.specs.List.{list_any, Contains}
use Rattle.std.proofs.lemmas.List.Elements.{Contains-append_cases, Contains-push_cases, Contains-append_left}
use Rattle.std.proofs.lemmas.List.Elements.{Contains-append_right}
use Rattle.qual_types.specs.Skel.{Skel, flat, ref, fun, Skels, no_skels, more_skels, nodes, all_nodes, of_some, root}
use Rattle.sig_writer.specs.Signatures.{all_unplaced, declared_text, each_before, each_behind, ellipsis_text}
use Rattle.sig_writer.specs.Signatures.{in_brackets, kind_text, lone}
use Rattle.sig_writer.specs.Signatures.{more_text, params_text, spaced, type_text, unplaced}

pub first_in : (x : ℕ) (xs : List ℕ) → Contains (x ∷ xs) x
first_in x xs = Contains-append_left (x ∷ []) xs x (zero, omega arith, refl)

pub later_in : (x : ℕ) (xs : List ℕ) (y : ℕ) → Contains xs y → Contains (x ∷ xs) y
later_in x xs y h = Contains-append_right (x ∷ []) xs y h

none_in : (x : ℕ) → Contains [] x → ⊥
none_in x h = omega (arith, h.1)

-- what is in one of two lists
both_in : (xs ys zs : List ℕ) → ((x : ℕ) → Contains xs x → Contains zs x) → ((y : ℕ) → Contains ys y → Contains zs y) →
    (z : ℕ) → Contains (xs ++ ys) z → Contains zs z
both_in xs ys zs left right z h = elim (Contains-append_cases xs ys z h) [ inl l ↦ left z l | inr r ↦ right z r ]

-- what is a number or in a list
one_in : (x : ℕ) (xs zs : List ℕ) → Contains zs x → ((y : ℕ) → Contains xs y → Contains zs y) → (z : ℕ) →
    Contains (x ∷ xs) z → Contains zs z
one_in x xs zs here right z h = both_in (x ∷ []) xs zs
    (λ y k. elim (Contains-push_cases [] x y k) [
      | inl none ↦ absurd (none_in y none)
      | inr same ↦ subst
          (Contains zs) same here
    ]) right z h

-- tests that are the same in a list find alike
pub any_same : (f g : ℕ → Bool) (xs : List ℕ) → ((v : ℕ) → Contains xs v → f v ≡ g v) → list_any f xs ≡ list_any g xs
any_same f g [] same = refl
any_same f g (x ∷ xs) same =
    ap (λ b. b || list_any f xs) (same x (first_in x xs))
    ∙ ap (λ b. g x || b) (any_same f g xs (λ v h. same v (later_in x xs v h)))

abbrev Agree : (ℕ → List (List ℕ)) → (ℕ → List (List ℕ)) → List ℕ → Type 0
Agree words other vars = (v : ℕ) → Contains vars v → words v ≡ other v

-- a node of later parameters or of the ellipsis is one where a parameter stands before them
in_later : (p : Skel) (ps : Skels) (e : Option ℕ) (u : ℕ) → Contains (all_nodes ps ++ of_some e) u →
    Contains (all_nodes (more_skels p ps) ++ of_some e) u
in_later p ps e u h = both_in (all_nodes ps) (of_some e) (nodes p ++ all_nodes ps ++ of_some e)
    (λ x k. Contains-append_left (nodes p ++ all_nodes ps) (of_some e) x
    (Contains-append_right (nodes p) (all_nodes ps) x k))
    (λ x k. Contains-append_right (nodes p ++ all_nodes ps) (of_some e) x k) u h

ellipsis_same : (words other : ℕ → List (List ℕ)) (e : Option ℕ) → Agree words other (of_some e) →
    ellipsis_text words e ≡ ellipsis_text other e
ellipsis_same words other None same = refl
ellipsis_same words other (Some v) same = ap (λ t. codes ", " ++ each_before t ++ codes "...") (same v (first_in v []))

mutual
  pub type_same : (words other : ℕ → List (List ℕ)) (s : Skel) (inner : List ℕ) → Agree words other (nodes s) →
      type_text words s inner ≡ type_text other s inner
  type_same words other (flat v kind) inner same =
      ap (λ t. each_before t ++ kind_text kind ++ spaced inner) (same v (first_in v []))
  type_same words other (ref v s) inner same =
      ap (λ t. type_text words s (in_brackets s (codes "*" ++ each_behind t ++ spaced inner)))
      (same v (first_in v (nodes s)))
      ∙ type_same words other s (in_brackets s (codes "*" ++ each_behind (other v) ++ spaced inner))
      (λ u h. same u (later_in v (nodes s) u h))
  type_same words other (fun v ps r e) inner same =
      let rest = all_nodes ps ++ (nodes r ++ of_some e) in
      ap (λ (t : List ℕ). type_text words r (inner ++ codes "(" ++ t ++ codes ")"))
      (params_same words other ps e (λ u h. same u (later_in v rest u
      (both_in (all_nodes ps) (of_some e) rest (λ x. Contains-append_left (all_nodes ps) (nodes r ++ of_some e) x)
      (λ x k. Contains-append_right (all_nodes ps) (nodes r ++ of_some e) x
      (Contains-append_right (nodes r) (of_some e) x k)) u h))))
      ∙ type_same words other r (inner ++ codes "(" ++ params_text other ps e ++ codes ")")
      (λ u h. same u (later_in v rest u
      (Contains-append_right (all_nodes ps) (nodes r ++ of_some e) u (Contains-append_left (nodes r) (of_some e) u h))))

  params_same : (words other : ℕ → List (List ℕ)) (ps : Skels) (e : Option ℕ) →
      Agree words other (all_nodes ps ++ of_some e) →
      params_text words ps e ≡ params_text other ps e
  params_same words other no_skels e same = refl
  params_same words other (more_skels p ps) e same =
      ap (λ (t : List ℕ). t ++ more_text words ps e) (type_same words other p [] (λ u h. same u
      (Contains-append_left (nodes p ++ all_nodes ps) (of_some e) u
      (Contains-append_left (nodes p) (all_nodes ps) u h))))
      ∙ ap (λ (t : List ℕ). type_text other p [] ++ t)
      (more_same words other ps e (λ u h. same u (in_later p ps e u h)))

  more_same : (words other : ℕ → List (List ℕ)) (ps : Skels) (e : Option ℕ) →
      Agree words other (all_nodes ps ++ of_some e) →
      more_text words ps e ≡ more_text other ps e
  more_same words other no_skels e same = ellipsis_same words other e same
  more_same words other (more_skels p ps) e same =
      ap (λ (t : List ℕ). codes ", " ++ t ++ more_text words ps e) (type_same words other p [] (λ u h. same u
      (Contains-append_left (nodes p ++ all_nodes ps) (of_some e) u
      (Contains-append_left (nodes p) (all_nodes ps) u h))))
      ∙ ap (λ (t : List ℕ). codes ", " ++ type_text other p [] ++ t)
      (more_same words other ps e (λ u h. same u (in_later p ps e u h)))

-- words that agree at the nodes of a skeleton give the same text of the declared name
pub declared_same : (words other : ℕ → List (List ℕ)) (s : Skel) (name : List ℕ) → Agree words other (nodes s) →
    declared_text words s name ≡ declared_text other s name
declared_same words other (flat v kind) name same = refl
declared_same words other (ref v s) name same = type_same words other s name (λ u h. same u (later_in v (nodes s) u h))
declared_same words other (fun v ps r e) name same = refl

-- the nodes without a place are nodes
lone_in : (ps : Skels) (e : Option ℕ) (v : ℕ) → Contains (lone ps e) v → Contains (of_some e) v
lone_in no_skels e v h = h
lone_in (more_skels p ps) e v h = absurd (none_in v h)

mutual
  unplaced_in : (s : Skel) (v : ℕ) → Contains (unplaced s) v → Contains (nodes s) v
  unplaced_in (flat v kind) u h = absurd (none_in u h)
  unplaced_in (ref v s) u h = later_in v (nodes s) u (unplaced_in s u h)
  unplaced_in (fun v ps r e) u h =
      let rest = all_nodes ps ++ (nodes r ++ of_some e) in
      one_in v (lone ps e ++ (all_unplaced ps ++ unplaced r)) (v ∷ rest) (first_in v rest) (λ x k. later_in v rest x
      (both_in (lone ps e) (all_unplaced ps ++ unplaced r) rest
      (λ y m. Contains-append_right (all_nodes ps) (nodes r ++ of_some e) y
      (Contains-append_right (nodes r) (of_some e) y (lone_in ps e y m)))
      (both_in (all_unplaced ps) (unplaced r) rest
      (λ y m. Contains-append_left (all_nodes ps) (nodes r ++ of_some e) y (all_unplaced_in ps y m))
      (λ y m. Contains-append_right (all_nodes ps) (nodes r ++ of_some e) y
      (Contains-append_left (nodes r) (of_some e) y (unplaced_in r y m)))) x k)) u h

  all_unplaced_in : (ps : Skels) (v : ℕ) → Contains (all_unplaced ps) v → Contains (all_nodes ps) v
  all_unplaced_in no_skels u h = absurd (none_in u h)
  all_unplaced_in (more_skels p ps) u h = both_in (unplaced p) (all_unplaced ps) (nodes p ++ all_nodes ps)
      (λ x k. Contains-append_left (nodes p) (all_nodes ps) x (unplaced_in p x k))
      (λ x k. Contains-append_right (nodes p) (all_nodes ps) x (all_unplaced_in ps x k)) u h

-- the root of a skeleton is one of its nodes
root_in : (s : Skel) → Contains (nodes s) (root s)
root_in (flat v kind) = first_in v []
root_in (ref v s) = first_in v (nodes s)
root_in (fun v ps r e) = first_in v (all_nodes ps ++ (nodes r ++ of_some e))

pub placeless_in : (s : Skel) (v : ℕ) → Contains (root s ∷ unplaced s) v → Contains (nodes s) v
placeless_in s v h = one_in (root s) (unplaced s) (nodes s) (root_in s) (unplaced_in s) v h
