-- The rows of a type show its skeleton, and each part is where it says.
use Rattle.std.proofs.Common.{◌≡◌, ℕ, suc, ◌+◌, ◌<◌, ◌≤◌, List, [], ◌∷◌, ◌++◌, length, Option, Some, None, refl, sym, ◌∙◌, ap, arith, subst, length-append}
use Rattle.std.specs.Prelude.{option_and_then}
use Rattle.qual_base.specs.declared.places.Owner.{Owner}
use Rattle.type_table.specs.Types.{Words, CType, base, void, struct, pointer, function, CTypes, no_types, more_types, size, sizes}
use Rattle.qual_types.specs.declared.look.Kind.TheVariants.{Base}
use Rattle.qual_types.specs.declared.position.Step.{Step}
use Rattle.qual_types.specs.declared.position.Step.TheVariants as steps
use Rattle.qual_types.specs.declared.row.Node.TheVariants as nodes
use Rattle.qual_types.specs.declared.row.Parent.{Parent}
use Rattle.qual_types.specs.declared.row.Parent.TheVariants.{Inside, Param, Result}
use Rattle.qual_types.specs.declared.row.VarRow.{VarRow}
use Rattle.qual_types.specs.Skel.{Skel, flat, ref, fun, Skels, no_skels, more_skels, param_at, numbered, all_numbered, numbered_ellipsis, follow, ended}
use Rattle.qual_types.specs.Rows.{Seen, shown, tree_seen, params_seen, ellipsis_seen, above, rows_of, param_rows, ellipsis_rows}
use Rattle.qual_types.specs.Table.{IsPart, IsPlaced, ArePlaced, IsParentLinked, AreLinked}

ellipsis_length : (n : ℕ) (e : Option Words) → length (ellipsis_rows n e) ≡ Rattle.type_table.specs.Types.one_for e
ellipsis_length n None = refl
ellipsis_length n (Some ws) = refl

mutual
  pub rows_length : (t : CType) (n : ℕ) (parent : Parent) → length (rows_of t n parent) ≡ size t
  rows_length (base ws) n parent = refl
  rows_length (void ws) n parent = refl
  rows_length (struct ws s) n parent = refl
  rows_length (pointer ws t) n parent = let l = rows_length t (n + 1) (Inside n) in omega (arith, l)
  rows_length (function ws ps r e) n parent =
      let back = n + 1 + sizes ps in
      let last = Result n (numbered_ellipsis e (back + size r)) in
      let a = params_length n 0 ps (n + 1) in
      let b = rows_length r back last in
      let c = ellipsis_length n e in
      let d = length-append (rows_of r back last) (ellipsis_rows n e) in
      let f = length-append (param_rows n 0 ps (n + 1)) (rows_of r back last ++ ellipsis_rows n e) in
      omega (arith, a, b, c, d, f)

  pub params_length : (of i : ℕ) (ts : CTypes) (n : ℕ) → length (param_rows of i ts n) ≡ sizes ts
  params_length of i no_types n = refl
  params_length of i (more_types t ts) n =
      let a = rows_length t n (Param of i (n + size t)) in
      let b = params_length of (i + 1) ts (n + size t) in
      let c = length-append (rows_of t n (Param of i (n + size t))) (param_rows of (i + 1) ts (n + size t)) in
      omega (arith, a, b, c)

-- the rows of a list, from a number on, show what they name
abbrev pub AreShown : (ℕ → Seen) → ℕ → List VarRow → Type 0
AreShown look n [] = Unit {0}
AreShown look n (row ∷ rows) = (look n ≡ shown look n row) × AreShown look (n + 1) rows

shown_front : (look : ℕ → Seen) (n : ℕ) (xs ys : List VarRow) → AreShown look n (xs ++ ys) → AreShown look n xs
shown_front look n [] ys h = tt
shown_front look n (x ∷ xs) ys h = (h.0, shown_front look (n + 1) xs ys h.1)

shown_back : (look : ℕ → Seen) (n k : ℕ) (xs ys : List VarRow) → n + length xs ≡ k → AreShown look n (xs ++ ys)
    → AreShown look k ys
shown_back look n k [] ys e h = let same : n ≡ k = omega (arith, e) in subst (λ j. AreShown look j ys) same h
shown_back look n k (x ∷ xs) ys e h = shown_back look (n + 1) k xs ys (omega (arith, e)) h.1

-- what the rows of a type show
pub record IsRead (look : ℕ → Seen) (t : CType) (n : ℕ) (parent : Parent) : Type 0 where
  pub tree : (look n).tree ≡ numbered t n
  pub params : (look n).params ≡ params_seen look (numbered t n) parent
  pub ellipsis : (look n).ellipsis ≡ ellipsis_seen parent

-- a tree that is known gives the rest
by_tree : (look : ℕ → Seen) (t : CType) (n : ℕ) (row : VarRow) → look n ≡ shown look n row
    → tree_seen look n row.node ≡ numbered t n → IsRead look t n row.parent
by_tree look t n row is e = record {
  tree = ap (λ (s : Seen). s.tree) is ∙ e;
  params = ap (λ (s : Seen). s.params) is ∙ ap (λ (x : Skel). params_seen look x row.parent) e;
  ellipsis = ap (λ (s : Seen). s.ellipsis) is;
}

mutual
  pub read : (look : ℕ → Seen) (t : CType) (n : ℕ) (parent : Parent) → AreShown look n (rows_of t n parent)
      → IsRead look t n parent
  read look (base ws) n parent h = by_tree look (base ws) n (record { node = nodes.Base; parent = parent }) h.0 refl
  read look (void ws) n parent h = by_tree look (void ws) n (record { node = nodes.Void; parent = parent }) h.0 refl
  read look (struct ws s) n parent h =
      by_tree look (struct ws s) n (record { node = nodes.Struct s; parent = parent }) h.0 refl
  read look (pointer ws t) n parent h =
      let inner = read look t (n + 1) (Inside n) h.1 in
      by_tree look (pointer ws t) n (record { node = nodes.Ref; parent = parent }) h.0
      (ap (λ (x : Skel). ref n x) inner.tree)
  read look (function ws ps r e) n parent h =
      let back = n + 1 + sizes ps in
      let last = Result n (numbered_ellipsis e (back + size r)) in
      let params = param_rows n 0 ps (n + 1) in
      let rest = rows_of r back last ++ ellipsis_rows n e in
      let one = shown_front look (n + 1) params rest h.1 in
      let two =
      shown_back look (n + 1) back params rest (let l = params_length n 0 ps (n + 1) in omega (arith, l)) h.1 in
      let given = read look r back last (shown_front look back (rows_of r back last) (ellipsis_rows n e) two) in
      let all = read_params look n 0 ps (n + 1) one given.params in
      by_tree look (function ws ps r e) n (record { node = nodes.Fun back; parent = parent }) h.0
      (rw (all, given.tree, given.ellipsis) refl)

  read_params : (look : ℕ → Seen) (of i : ℕ) (ts : CTypes) (n : ℕ) → AreShown look n (param_rows of i ts n)
      → (look (n + sizes ts)).params ≡ no_skels
      → (look n).params ≡ all_numbered ts n
  read_params look of i no_types n h end =
      let at : n + 0 ≡ n = omega arith in
      subst (λ j. (look j).params ≡ no_skels) at end
  read_params look of i (more_types t ts) n h end =
      let next = n + size t in
      let parent = Param of i next in
      let one = read look t n parent (shown_front look n (rows_of t n parent) (param_rows of (i + 1) ts next) h) in
      let two = shown_back look n next (rows_of t n parent) (param_rows of (i + 1) ts next)
      (let l = rows_length t n parent in omega (arith, l)) h in
      let at : n + (size t + sizes ts) ≡ next + sizes ts = omega arith in
      let all = read_params look of (i + 1) ts next two (subst (λ j. (look j).params ≡ no_skels) at end) in
      one.params ∙ ap (λ (x : Skels). more_skels (numbered t n) x) all

-- rows that are linked stand one behind the other
pub linked_append : (count n k : ℕ) (xs ys : List VarRow) → n + length xs ≡ k → AreLinked count n xs
    → AreLinked count k ys
    → AreLinked count n (xs ++ ys)
linked_append count n k [] ys e h g = let same : k ≡ n = omega (arith, e) in subst (λ j. AreLinked count j ys) same g
linked_append count n k (x ∷ xs) ys e h g = (h.0, h.1, linked_append count (n + 1) k xs ys (omega (arith, e)) h.2 g)

-- the rows of a type are one at least
some_size : (t : CType) → 0 < size t
some_size (base ws) = omega arith
some_size (void ws) = omega arith
some_size (struct ws s) = omega arith
some_size (pointer ws t) = omega arith
some_size (function ws ps r e) = omega arith

linked_ellipsis : (count n k : ℕ) (e : Option Words) → AreLinked count k (ellipsis_rows n e)
linked_ellipsis count n k None = tt
linked_ellipsis count n k (Some ws) = (tt, tt, tt)

ellipsis_link : (count n k m : ℕ) (e : Option Words) → m + Rattle.type_table.specs.Types.one_for e ≤ count
    → IsParentLinked count k (Result n (numbered_ellipsis e m))
ellipsis_link count n k m None le = tt
ellipsis_link count n k m (Some ws) le = omega (arith, le)

mutual
  pub linked : (count : ℕ) (t : CType) (n : ℕ) (parent : Parent) → n + size t ≤ count → IsParentLinked count n parent
      → AreLinked count n (rows_of t n parent)
  linked count (base ws) n parent le here = (tt, here, tt)
  linked count (void ws) n parent le here = (tt, here, tt)
  linked count (struct ws s) n parent le here = (tt, here, tt)
  linked count (pointer ws t) n parent le here =
      let some = some_size t in
      (omega (arith, le, some), here, linked count t (n + 1) (Inside n) (omega (arith, le)) tt)
  linked count (function ws ps r e) n parent le here =
      let back = n + 1 + sizes ps in
      let last = Result n (numbered_ellipsis e (back + size r)) in
      let some = some_size r in
      let one = params_linked count n 0 ps (n + 1) (omega (arith, le, some)) in
      let two =
      linked count r back last (omega (arith, le)) (ellipsis_link count n back (back + size r) e (omega (arith, le))) in
      let l = params_length n 0 ps (n + 1) in
      let m = rows_length r back last in (
        (omega arith, omega (arith, le, some)),
        here,
        linked_append count (n + 1) back (param_rows n 0 ps (n + 1)) (rows_of r back last ++ ellipsis_rows n e)
            (omega (arith, l)) one
            (linked_append count back (back + size r) (rows_of r back last) (ellipsis_rows n e) (omega (arith, m)) two
            (linked_ellipsis count n (back + size r) e)),
      )

  params_linked : (count of i : ℕ) (ts : CTypes) (n : ℕ) → n + sizes ts < count
      → AreLinked count n (param_rows of i ts n)
  params_linked count of i no_types n le = tt
  params_linked count of i (more_types t ts) n le =
      let next = n + size t in
      let some = some_size t in
      let l = rows_length t n (Param of i next) in
      linked_append count n next (rows_of t n (Param of i next)) (param_rows of (i + 1) ts next) (omega (arith, l))
      (linked count t n (Param of i next) (omega (arith, le)) (omega (arith, some), omega (arith, le)))
      (params_linked count of (i + 1) ts next (omega (arith, le)))

-- rows that are placed and rows that are placed behind them are placed together
pub placed_append : (look : ℕ → Skel) (own : ℕ → Owner) (n k : ℕ) (xs ys : List VarRow) → n + length xs ≡ k
    → ArePlaced look own n xs → ArePlaced look own k ys → ArePlaced look own n (xs ++ ys)
placed_append look own n k [] ys e h g =
    let same : k ≡ n = omega (arith, e) in
    subst (λ j. ArePlaced look own j ys) same g
placed_append look own n k (x ∷ xs) ys e h g = (h.0, placed_append look own (n + 1) k xs ys (omega (arith, e)) h.1 g)

-- a path through an ellipsis ends there
ends : (p : List Step) (m : ℕ) → ended p (Some m) ≡ follow p (flat m Base)
ends [] m = refl
ends (steps.Inside ∷ p) m = refl
ends (steps.Param i ∷ p) m = refl
ends (steps.Result ∷ p) m = refl
ends (steps.Ellipsis ∷ p) m = refl

module _ (look : ℕ → Seen) (own : ℕ → Owner) (owner : Owner) where
  abbrev Tree : ℕ → Skel
  Tree m = (look m).tree

  -- all variables of a stretch have the owner
  abbrev AllOwned : ℕ → ℕ → Type 0
  AllOwned n count = (j : ℕ) → n ≤ j → j < n + count → own j ≡ owner

  placed_ellipsis : (of k m : ℕ) (e : Option Words) → of < k → AreShown look k (ellipsis_rows of e) → own of ≡ owner
      → AllOwned k (Rattle.type_table.specs.Types.one_for e)
      → ((p : List Step) → follow (steps.Ellipsis ∷ p) (Tree of) ≡ ended p (numbered_ellipsis e k))
      → ArePlaced Tree own k (ellipsis_rows of e)
  placed_ellipsis of k m None lt h o all leads = tt
  placed_ellipsis of k m (Some ws) lt h o all leads = (
    record {
      lower = lt;
      same_owner = o ∙ sym (all k (omega arith) (omega arith));
      leads = λ p. leads p ∙ ends p k ∙ sym (ap (follow p) (ap (λ (s : Seen). s.tree) h.0));
    },
    tt,
  )

  mutual
    pub placed : (t : CType) (n : ℕ) (parent : Parent) → AreShown look n (rows_of t n parent) → AllOwned n (size t)
        → IsPlaced Tree own n (above parent) → ArePlaced Tree own n (rows_of t n parent)
    placed (base ws) n parent h all here = (here, tt)
    placed (void ws) n parent h all here = (here, tt)
    placed (struct ws s) n parent h all here = (here, tt)
    placed (pointer ws t) n parent h all here =
        let some = some_size t in
        let tree : Tree n ≡ ref n (Tree (n + 1)) = ap (λ (s : Seen). s.tree) h.0 in
        let part : IsPart Tree own (n + 1) n steps.Inside = record {
          lower = omega arith;
          same_owner = all n (omega arith) (omega arith) ∙ sym (all (n + 1) (omega arith) (omega (arith, some)));
          leads = λ p. ap (follow (steps.Inside ∷ p)) tree;
        } in
        (here, placed t (n + 1) (Inside n) h.1 (λ j lo hi. all j (omega (arith, lo)) (omega (arith, hi))) part)
    placed (function ws ps r e) n parent h all here =
        let back = n + 1 + sizes ps in
        let last = Result n (numbered_ellipsis e (back + size r)) in
        let params = param_rows n 0 ps (n + 1) in
        let rest = rows_of r back last ++ ellipsis_rows n e in
        let l = params_length n 0 ps (n + 1) in
        let m = rows_length r back last in
        let some = some_size r in
        let one = shown_front look (n + 1) params rest h.1 in
        let two = shown_back look (n + 1) back params rest (omega (arith, l)) h.1 in
        let three = shown_front look back (rows_of r back last) (ellipsis_rows n e) two in
        let four =
        shown_back look back (back + size r) (rows_of r back last) (ellipsis_rows n e) (omega (arith, m)) two in
        let tree : Tree n ≡ fun n (look (n + 1)).params (Tree back) (look back).ellipsis =
        ap (λ (s : Seen). s.tree) h.0 in
        let last_is = (read look r back last three).ellipsis in
        let mine : own n ≡ owner = all n (omega arith) (omega arith) in
        let part : IsPart Tree own back n steps.Result = record {
          lower = omega arith;
          same_owner = mine ∙ sym (all back (omega arith) (omega (arith, some)));
          leads = λ p. ap (follow (steps.Result ∷ p)) tree;
        } in (
          here,
          placed_append Tree own (n + 1) back params rest (omega (arith, l))
              (params_placed n 0 ps (n + 1) (omega arith) one mine
              (λ j lo hi. all j (omega (arith, lo)) (omega (arith, hi)))
              (λ j p. let at : 0 + j ≡ j = omega arith in ap (follow (steps.Param (0 + j) ∷ p)) tree
              ∙ ap (λ k. option_and_then (follow p) (param_at (look (n + 1)).params k)) at))
              (placed_append Tree own back (back + size r) (rows_of r back last) (ellipsis_rows n e) (omega (arith, m))
              (placed r back last three (λ j lo hi. all j (omega (arith, lo)) (omega (arith, hi))) part)
              (placed_ellipsis n (back + size r) 0 e (omega arith) four mine
              (λ j lo hi. all j (omega (arith, lo)) (omega (arith, hi)))
              (λ p. ap (follow (steps.Ellipsis ∷ p)) tree ∙ ap (ended p) last_is))),
        )

    params_placed : (of i : ℕ) (ts : CTypes) (n : ℕ) → of < n → AreShown look n (param_rows of i ts n) → own of ≡ owner
        → AllOwned n (sizes ts)
        → ((j : ℕ) (p : List Step)
        → follow (steps.Param (i + j) ∷ p) (Tree of) ≡ option_and_then (follow p) (param_at (look n).params j))
        → ArePlaced Tree own n (param_rows of i ts n)
    params_placed of i no_types n lt h mine all leads = tt
    params_placed of i (more_types t ts) n lt h mine all leads =
        let next = n + size t in
        let parent = Param of i next in
        let l = rows_length t n parent in
        let some = some_size t in
        let one = shown_front look n (rows_of t n parent) (param_rows of (i + 1) ts next) h in
        let two = shown_back look n next (rows_of t n parent) (param_rows of (i + 1) ts next) (omega (arith, l)) h in
        let is = read look t n parent one in
        let params : (look n).params ≡ more_skels (Tree n) (look next).params =
        is.params ∙ ap (λ (x : Skel). more_skels x (look next).params) (sym is.tree) in
        let at : i + 0 ≡ i = omega arith in
        let part : IsPart Tree own n of (steps.Param i) = record {
          lower = lt;
          same_owner = mine ∙ sym (all n (omega arith) (omega (arith, some)));
          leads = λ p. subst (λ k. follow (steps.Param k ∷ p) (Tree of) ≡ follow p (Tree n)) at
              (leads 0 p ∙ ap (λ (x : Skels). option_and_then (follow p) (param_at x 0)) params);
        } in
        placed_append Tree own n next (rows_of t n parent) (param_rows of (i + 1) ts next) (omega (arith, l))
        (placed t n parent one (λ j lo hi. all j lo (omega (arith, hi))) part)
        (params_placed of (i + 1) ts next (omega (arith, lt)) two mine
        (λ j lo hi. all j (omega (arith, lo)) (omega (arith, hi)))
        (λ j p. let e : (i + 1) + j ≡ i + suc j = omega arith in
        ap (λ k. follow (steps.Param k ∷ p) (Tree of)) e
        ∙ (leads (suc j) p ∙ ap (λ (x : Skels). option_and_then (follow p) (param_at x (suc j))) params)))
