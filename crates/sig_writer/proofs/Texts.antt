-- The text of a type is that of the words of its nodes.
use Rattle.std.proofs.Common.{◌≡◌, ℕ, List, [], ◌∷◌, ◌++◌, Option, None, Some, codes, refl, ◌∙◌, ap, subst, inl, inr}
use Rattle.std.specs.List.{Contains}
use Rattle.std.proofs.lemmas.List.Elements.{Contains-append_left, Contains-append_right, Contains-append_cases}
use Rattle.qual_types.specs.Skel.{Skel, flat, ref, fun, Skels, no_skels, more_skels, nodes, all_nodes, of_some, root}
use Rattle.sig_writer.specs.Signatures.{all_unplaced, declared_text, each_before, each_behind, ellipsis_text, in_brackets, kind_text, lone, more_text, params_text, spaced, type_text, unplaced}
use Rattle.sig_writer.proofs.Elements.{first_or, here, there, none}

module _ (words other : ℕ → List (List ℕ)) where
  abbrev AreSameAt : List ℕ → Type 0
  AreSameAt vars = (v : ℕ) → Contains vars v → words v ≡ other v

  left : (xs ys : List ℕ) → AreSameAt (xs ++ ys) → AreSameAt xs
  left xs ys h v in_xs = h v (Contains-append_left xs ys v in_xs)

  right : (xs ys : List ℕ) → AreSameAt (xs ++ ys) → AreSameAt ys
  right xs ys h v in_ys = h v (Contains-append_right xs ys v in_ys)

  later : (x : ℕ) (xs : List ℕ) → AreSameAt (x ∷ xs) → AreSameAt xs
  later x xs h v in_xs = h v (there xs x v in_xs)

  same_ellipsis : (e : Option ℕ) → AreSameAt (of_some e) → ellipsis_text words e ≡ ellipsis_text other e
  same_ellipsis None h = refl
  same_ellipsis (Some v) h = ap (λ ws. codes ", " ++ each_before ws ++ codes "...") (h v (here [] v))

  mutual
    pub same_type : (s : Skel) (inner : List ℕ) → AreSameAt (nodes s) →
        type_text words s inner ≡ type_text other s inner
    same_type (flat v k) inner h = ap (λ ws. each_before ws ++ kind_text k ++ spaced inner) (h v (here [] v))
    same_type (ref v s) inner h =
        same_type s (in_brackets s (codes "*" ++ each_behind (words v) ++ spaced inner)) (later v (nodes s) h)
        ∙ ap (λ ws. type_text other s (in_brackets s (codes "*" ++ each_behind ws ++ spaced inner)))
        (h v (here (nodes s) v))
    same_type (fun v ps r e) inner h =
        let rest = later v (all_nodes ps ++ (nodes r ++ of_some e)) h in
        let behind = right (all_nodes ps) (nodes r ++ of_some e) rest in
        let params = same_params ps e (left (all_nodes ps) (nodes r ++ of_some e) rest)
        (right (nodes r) (of_some e) behind) in
        same_type r (inner ++ codes "(" ++ params_text words ps e ++ codes ")") (left (nodes r) (of_some e) behind)
        ∙ ap (λ text. type_text other r (inner ++ codes "(" ++ text ++ codes ")")) params

    same_params : (ps : Skels) (e : Option ℕ) → AreSameAt (all_nodes ps) → AreSameAt (of_some e) →
        params_text words ps e ≡ params_text other ps e
    same_params no_skels e h g = refl
    same_params (more_skels p ps) e h g =
        ap (λ text. text ++ more_text words ps e) (same_type p [] (left (nodes p) (all_nodes ps) h))
        ∙ ap (λ text. type_text other p [] ++ text) (same_more ps e (right (nodes p) (all_nodes ps) h) g)

    same_more : (ps : Skels) (e : Option ℕ) → AreSameAt (all_nodes ps) → AreSameAt (of_some e) →
        more_text words ps e ≡ more_text other ps e
    same_more no_skels e h g = same_ellipsis e g
    same_more (more_skels p ps) e h g =
        ap (λ text. codes ", " ++ text ++ more_text words ps e) (same_type p [] (left (nodes p) (all_nodes ps) h))
        ∙ ap (λ text. codes ", " ++ type_text other p [] ++ text) (same_more ps e (right (nodes p) (all_nodes ps) h) g)

  pub same_declared : (s : Skel) (name : List ℕ) → AreSameAt (nodes s) →
      declared_text words s name ≡ declared_text other s name
  same_declared (flat v k) name h = refl
  same_declared (ref v s) name h = same_type s name (later v (nodes s) h)
  same_declared (fun v ps r e) name h = refl

-- ---- what has no place is a node

-- the root of a skeleton is among its nodes
pub root_is_node : (s : Skel) → Contains (nodes s) (root s)
root_is_node (flat v k) = here [] v
root_is_node (ref v s) = here (nodes s) v
root_is_node (fun v ps r e) = here (all_nodes ps ++ (nodes r ++ of_some e)) v

lone_is_some : (ps : Skels) (e : Option ℕ) (v : ℕ) → Contains (lone ps e) v → Contains (of_some e) v
lone_is_some no_skels e v h = h
lone_is_some (more_skels p ps) e v h = absurd (none v h)

mutual
  pub unplaced_is_node : (s : Skel) (v : ℕ) → Contains (unplaced s) v → Contains (nodes s) v
  unplaced_is_node (flat u k) v h = absurd (none v h)
  unplaced_is_node (ref u s) v h = there (nodes s) u v (unplaced_is_node s v h)
  unplaced_is_node (fun u ps r e) v h =
      let inner = all_nodes ps ++ (nodes r ++ of_some e) in
      let in_params : Contains (all_nodes ps) v → Contains (u ∷ inner) v =
      λ is. there inner u v (Contains-append_left (all_nodes ps) (nodes r ++ of_some e) v is) in
      let in_rest : Contains (nodes r ++ of_some e) v → Contains (u ∷ inner) v =
      λ is. there inner u v (Contains-append_right (all_nodes ps) (nodes r ++ of_some e) v is) in
      elim (Contains-append_cases (u ∷ lone ps e) (all_unplaced ps ++ unplaced r) v h) [
        | inl early ↦ elim (first_or (lone ps e) u v early) [
          | inl same ↦ subst (λ w. Contains (u ∷ inner) w) same (here inner u)
          | inr only ↦ in_rest (Contains-append_right (nodes r) (of_some e) v (lone_is_some ps e v only))
        ]
        | inr late ↦ elim (Contains-append_cases (all_unplaced ps) (unplaced r) v late) [
          | inl params ↦ in_params (all_unplaced_are_nodes ps v params)
          | inr back ↦ in_rest (Contains-append_left (nodes r) (of_some e) v (unplaced_is_node r v back))
        ]
      ]

  all_unplaced_are_nodes : (ps : Skels) (v : ℕ) → Contains (all_unplaced ps) v → Contains (all_nodes ps) v
  all_unplaced_are_nodes no_skels v h = absurd (none v h)
  all_unplaced_are_nodes (more_skels p ps) v h = elim (Contains-append_cases (unplaced p) (all_unplaced ps) v h) [
    | inl first ↦ Contains-append_left (nodes p) (all_nodes ps) v (unplaced_is_node p v first)
    | inr more ↦ Contains-append_right (nodes p) (all_nodes ps) v (all_unplaced_are_nodes ps v more)
  ]
