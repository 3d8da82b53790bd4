-- The variables of a skeleton lie in its interval, and each interval has one owner.
use Rattle.std.proofs.Common.{◌≡◌, ℕ, zero, suc, ◌+◌, ◌-◌, ◌<◌, ◌≤◌, Contains, List, [], ◌∷◌, ◌++◌, get_or, Option, None, Some, sym, ◌∙◌, ap, subst, arith}
use Rattle.std.specs.Prelude.{replicate, unwrap_or, slice_get}
use Rattle.std.proofs.lemmas.List.{get_or_append_left, get_or-append-add, get_or-replicate, length-replicate}
use Rattle.std.proofs.lemmas.Option.{unwrap_or-slice_get}
use Rattle.qual_base.specs.declared.places.Owner.{Owner}
use Rattle.qual_base.specs.declared.places.Owner.TheVariants.{Nobody}
use Rattle.type_table.specs.Types.{CType, base, void, struct, pointer, function, CTypes, no_types, more_types, Words, size, sizes, one_for}
use Rattle.qual_types.specs.Skel.{nodes, all_nodes, of_some, numbered, all_numbered, numbered_ellipsis}
use Rattle.flow_rules.specs.Owners.{AllOwned}
use Rattle.name_rules.specs.Spellings.{Place}
use Rattle.row_rules.specs.Starting.{Start}
use Rattle.row_rules.specs.Worlds.{Numbered, numbered_from}
use Rattle.row_rules.specs.Sites.{owner_by, owners_among}
use Rattle.owned_laws.specs.OwnerLaws.Laws.{SkeletonsAreOwned}

module _ (own : ℕ → Owner) (owner : Owner) where
  -- so many variables from a number on belong to the owner
  abbrev pub HasAll : ℕ → ℕ → Type 0
  HasAll n m = (v : ℕ) → n ≤ v → v < n + m → own v ≡ owner

  all_append : (xs ys : List ℕ) → AllOwned own owner xs → AllOwned own owner ys → AllOwned own owner (xs ++ ys)
  all_append [] ys p q = q
  all_append (x ∷ xs) ys p q = (p.0, all_append xs ys p.1 q)

  ellipsis_owned : (e : Option Words) (n : ℕ) → HasAll n (one_for e) →
      AllOwned own owner (of_some (numbered_ellipsis e n))
  ellipsis_owned None n h = tt
  ellipsis_owned (Some ws) n h = (h n (omega arith) (omega arith), tt)

  mutual
    pub nodes_owned : (t : CType) (n : ℕ) → HasAll n (size t) → AllOwned own owner (nodes (numbered t n))
    nodes_owned (base ws) n h = (h n (omega arith) (omega arith), tt)
    nodes_owned (void ws) n h = (h n (omega arith) (omega arith), tt)
    nodes_owned (struct ws s) n h = (h n (omega arith) (omega arith), tt)
    nodes_owned (pointer ws t) n h =
        (h n (omega arith) (omega arith), nodes_owned t (n + 1) (λ v low high. h v (omega arith) (omega arith)))
    nodes_owned (function ws ps r e) n h = (
      h n (omega arith) (omega arith),
      all_append (all_nodes (all_numbered ps (n + 1))) _
          (all_nodes_owned ps (n + 1) (λ v low high. h v (omega arith) (omega arith)))
          (all_append (nodes (numbered r (n + 1 + sizes ps))) _
          (nodes_owned r (n + 1 + sizes ps) (λ v low high. h v (omega arith) (omega arith)))
          (ellipsis_owned e (n + 1 + sizes ps + size r) (λ v low high. h v (omega arith) (omega arith)))),
    )

    all_nodes_owned : (ts : CTypes) (n : ℕ) → HasAll n (sizes ts) →
        AllOwned own owner (all_nodes (all_numbered ts n))
    all_nodes_owned no_types n h = tt
    all_nodes_owned (more_types t ts) n h =
        all_append (nodes (numbered t n)) _
        (nodes_owned t n (λ v low high. h v (omega arith) (omega arith)))
        (all_nodes_owned ts (n + size t) (λ v low high. h v (omega arith) (omega arith)))

-- skeletons are numbered one behind the other

-- each skeleton numbered from n on has a first number of at least n
first_behind : (starts : List Start) (n : ℕ) (it : Numbered) → Contains (numbered_from n starts) it → n ≤ it.first
first_behind [] n it c = absurd (omega (arith, c.1))
first_behind (start ∷ starts) n it (zero, less, is) =
    let e : n ≡ it.first = ap (λ (x : Numbered). x.first) is in omega arith
first_behind (start ∷ starts) n it (suc k, less, is) =
    let h : n + size start.type ≤ it.first = first_behind starts (n + size start.type) it (k, omega arith, is) in
    omega arith

module _ (functions : List Place) where
  abbrev owner_here : List Start → ℕ → Owner
  owner_here starts k = get_or (owners_among functions starts) k Nobody

  abbrev IsOwned : List Start → ℕ → Numbered → Type 0
  IsOwned starts n it =
      (k : ℕ) → it.first ≤ n + k → n + k < it.first + size it.start.type →
      owner_here starts k ≡ owner_by functions it.start.owner

  -- the first skeleton
  here : (start : Start) (starts : List Start) (n : ℕ) →
      IsOwned (start ∷ starts) n (record { start = start; first = n })
  here start starts n k low high =
      get_or_append_left (replicate (size start.type) (owner_by functions start.owner))
      (owners_among functions starts) Nobody k
      (rw (length-replicate (size start.type) (owner_by functions start.owner)) (omega arith))
      ∙ get_or-replicate (size start.type) k (owner_by functions start.owner) Nobody (omega arith)

  -- those behind it
  past : (start : Start) (starts : List Start) (k : ℕ) →
      owner_here (start ∷ starts) (size start.type + k) ≡ owner_here starts k
  past start starts k =
      ap (λ (m : ℕ). owner_here (start ∷ starts) (m + k))
      (sym (length-replicate (size start.type) (owner_by functions start.owner)))
      ∙ get_or-append-add (replicate (size start.type) (owner_by functions start.owner))
      (owners_among functions starts) k Nobody

  pub owned : (starts : List Start) (n : ℕ) (it : Numbered) → Contains (numbered_from n starts) it →
      IsOwned starts n it
  owned [] n it c = absurd (omega (arith, c.1))
  owned (start ∷ starts) n it (zero, less, is) = subst (IsOwned (start ∷ starts) n) is (here start starts n)
  owned (start ∷ starts) n it (suc m, less, is) = λ k low high.
      let c : Contains (numbered_from (n + size start.type) starts) it = (m, omega arith, is) in
      let behind : n + size start.type ≤ it.first = first_behind starts (n + size start.type) it c in
      let split : k ≡ size start.type + (k - size start.type) = omega arith in
      ap (owner_here (start ∷ starts)) split
      ∙ (past start starts (k - size start.type)
      ∙ owned starts (n + size start.type) it c (k - size start.type) (omega arith) (omega arith))

-- the variables of each skeleton have the owner with which it begins
pub skeletons_are_owned : SkeletonsAreOwned
skeletons_are_owned functions starts it c =
    nodes_owned (λ v. unwrap_or (slice_get (owners_among functions starts) v) Nobody)
    (owner_by functions it.start.owner) it.start.type it.first
    (λ v low high. unwrap_or-slice_get (owners_among functions starts) v Nobody
    ∙ owned functions starts 0 it c v (omega arith) (omega arith))
