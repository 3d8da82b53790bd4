-- Sets of numbers, the lattices of values, and nodes below each other.
use Rattle.std.proofs.Common.{◌≡◌, ◌≢◌, ℕ, zero, suc, ◌+◌, ◌^◌, ◌<◌, ◌≤◌, true, false, ◌&&◌, ◌||◌, List, [], ◌∷◌, ◌++◌, length, map, drop, slice_index_or, slice_get, Some, refl, sym, ◌∙◌, ap, subst, arith, if◌then◌else◌}
use Rattle.std.proofs.lemmas.Bool.{eq-eqb, ne_eqb}
use Rattle.lattice_core.specs.View.{LatticeView}
use Rattle.flow_graph.specs.declared.graph.GraphFault.{GraphFault}
use Rattle.flow_graph.specs.System.{System}
use Rattle.flow_rules.specs.Adding.{with}
use Rattle.row_rules.specs.Worlds.{World}
use Rattle.row_rules.specs.Indexing.{Indexed, below_all, below_each, has_number, is_value_lattice, is_within, value_lattices, value_lattices_from}
use Rattle.row_adding.specs.declared.indexed.IndexedNode.{IndexedNode}
use Rattle.row_adding.specs.Adding.{StopsEarly}
use Rattle.row_adding.specs.Indexing.{all_below_in, below_in, below_one, indexed_of}

-- numbers from a place on

-- from the index of a number on a list is this number and those from the next index on
there : (m : ℕ) (xs : List ℕ) (i : ℕ) → m ≡ slice_index_or xs i m → i < length xs → drop i xs ≡ m ∷ drop (i + 1) xs
there m [] i is lt = absurd (omega arith)
there m (y ∷ ys) zero is lt = ap (λ z. z ∷ ys) (sym is)
there m (y ∷ ys) (suc i) is lt = let e : suc i + 1 ≡ suc (i + 1) = omega arith in rw e (there m ys i is (omega arith))

-- past its end no numbers of a list are left
past : (xs : List ℕ) (i : ℕ) → length xs ≤ i → drop i xs ≡ []
past [] zero le = refl
past [] (suc i) le = refl
past (x ∷ xs) zero le = absurd (omega arith)
past (x ∷ xs) (suc i) le = past xs i (omega arith)

module _ (n : ℕ) where
  pub number_here : (m : ℕ) (xs : List ℕ) (i : ℕ) → m ≡ slice_index_or xs i m → i < length xs → n ≡ m
      → has_number n (drop i xs) ≡ has_number n xs → true ≡ has_number n xs
  number_here m xs i is lt same so = ap (λ b. b || has_number n (drop (i + 1) xs)) (sym (eq-eqb n m same))
      ∙ ap (has_number n) (sym (there m xs i is lt)) ∙ so

  pub not_here : (m : ℕ) (xs : List ℕ) (i : ℕ) → m ≡ slice_index_or xs i m → i < length xs → n ≢ m
      → has_number n (drop i xs) ≡ has_number n xs → has_number n (drop (i + 1) xs) ≡ has_number n xs
  not_here m xs i is lt other so = ap (λ b. b || has_number n (drop (i + 1) xs)) (sym (ne_eqb n m other))
      ∙ ap (has_number n) (sym (there m xs i is lt)) ∙ so

  pub no_number : (xs : List ℕ) (i : ℕ) → length xs ≤ i → has_number n (drop i xs) ≡ has_number n xs
      → false ≡ has_number n xs
  no_number xs i le so = ap (has_number n) (sym (past xs i le)) ∙ so

module _ (ms : List ℕ) where
  pub lacks_one : (n : ℕ) (xs : List ℕ) (i : ℕ) → n ≡ slice_index_or xs i n → i < length xs → false ≡ has_number n ms
      → is_within (drop i xs) ms ≡ is_within xs ms → false ≡ is_within xs ms
  lacks_one n xs i is lt lacks so = ap (λ b. b && is_within (drop (i + 1) xs) ms) lacks
      ∙ ap (λ ys. is_within ys ms) (sym (there n xs i is lt)) ∙ so

  pub has_one : (n : ℕ) (xs : List ℕ) (i : ℕ) → n ≡ slice_index_or xs i n → i < length xs → true ≡ has_number n ms
      → is_within (drop i xs) ms ≡ is_within xs ms → is_within (drop (i + 1) xs) ms ≡ is_within xs ms
  has_one n xs i is lt has so = ap (λ b. b && is_within (drop (i + 1) xs) ms) has
      ∙ ap (λ ys. is_within ys ms) (sym (there n xs i is lt)) ∙ so

  pub has_all : (xs : List ℕ) (i : ℕ) → length xs ≤ i → is_within (drop i xs) ms ≡ is_within xs ms
      → true ≡ is_within xs ms
  has_all xs i le so = ap (λ ys. is_within ys ms) (sym (past xs i le)) ∙ so

-- the lattices of values

-- from the index of a lattice on a list is this lattice and those from the next index on
drop_there : {A : Type 0} (xs : List A) (n : ℕ) (x : A) → slice_get xs n ≡ Some x → drop n xs ≡ x ∷ drop (n + 1) xs
drop_there [] n x is = absurd cc
drop_there (y ∷ ys) zero x is = let e : y ≡ x = cc in ap (λ z. z ∷ ys) e
drop_there (y ∷ ys) (suc n) x is = let e : suc n + 1 ≡ suc (n + 1) = omega arith in rw e (drop_there ys n x is)

-- past the last lattice none is left
no_views : (ls : List LatticeView) (i : ℕ) → length ls ≤ i → drop i ls ≡ []
no_views [] zero le = refl
no_views [] (suc i) le = refl
no_views (x ∷ xs) zero le = absurd (omega arith)
no_views (x ∷ xs) (suc i) le = no_views xs i (omega arith)

module _ (n : ℕ) (ls : List LatticeView) where
  next : (l : LatticeView) → slice_get ls n ≡ Some l
      → value_lattices_from n (drop n ls)
      ≡ (if is_value_lattice l then 2 ^ n else 0) + value_lattices_from (n + 1) (drop (n + 1) ls)
  next l is = ap (value_lattices_from n) (drop_there ls n l is)
      ∙ (let e : suc n ≡ n + 1 = omega arith in
      ap (λ k. (if is_value_lattice l then 2 ^ n else 0) + value_lattices_from k (drop (n + 1) ls)) e)

  pub value_here : (l : LatticeView) (r q : ℕ) → slice_get ls n ≡ Some l → true ≡ is_value_lattice l → q ≡ 2 ^ n
      → r ≡ value_lattices_from (n + 1) (drop (n + 1) ls) → r + q ≡ value_lattices_from n (drop n ls)
  value_here l r q is holds power so =
      (let e : r + q ≡ q + r = omega arith in e) ∙ ap (λ k. k + r) power ∙ ap (λ k. 2 ^ n + k) so
      ∙ ap (λ b. (if b then 2 ^ n else 0) + value_lattices_from (n + 1) (drop (n + 1) ls)) holds ∙ sym (next l is)

  pub none_here : (l : LatticeView) (r : ℕ) → slice_get ls n ≡ Some l → false ≡ is_value_lattice l
      → r ≡ value_lattices_from (n + 1) (drop (n + 1) ls) → r ≡ value_lattices_from n (drop n ls)
  none_here l r is fails so = so
      ∙ (let e : value_lattices_from (n + 1) (drop (n + 1) ls) ≡ 0 + value_lattices_from (n + 1) (drop (n + 1) ls) =
      omega arith in e)
      ∙ ap (λ b. (if b then 2 ^ n else 0) + value_lattices_from (n + 1) (drop (n + 1) ls)) fails ∙ sym (next l is)

  pub no_more : length ls ≤ n → 0 ≡ value_lattices_from n (drop n ls)
  no_more le = ap (value_lattices_from n) (sym (no_views ls n le))

-- nodes below each other

module _ (w : World) (m : ℕ) (is : m ≡ value_lattices w) where
  each_is : (it : Indexed) (xs : List Indexed) → below_in m it xs ≡ below_each w it xs
  each_is it [] = refl
  each_is it (x ∷ xs) =
      ap (λ k. below_one k it x ++ below_in m it xs) is
      ∙ ap (λ cs. below_one (value_lattices w) it x ++ cs) (each_is it xs)

  all_is : (xs all : List Indexed) → all_below_in m xs all ≡ below_all w xs all
  all_is [] all = refl
  all_is (x ∷ xs) all =
      ap (λ cs. cs ++ all_below_in m xs all) (each_is x all) ∙ ap (λ cs. below_each w x all ++ cs) (all_is xs all)

  module _ (xs : List IndexedNode) (ns : List Indexed) (shown : map indexed_of xs ≡ ns) where
    row_is : all_below_in m (map indexed_of xs) (map indexed_of xs) ≡ below_all w ns ns
    row_is = ap (λ ys. all_below_in m ys ys) shown ∙ all_is ns ns

    pub below_all_added : (a b : System) → b ≡ with a (all_below_in m (map indexed_of xs) (map indexed_of xs))
        → b ≡ with a (below_all w ns ns)
    below_all_added a b added = added ∙ ap (with a) row_is

    pub below_all_stops : (a b : System) (f : GraphFault)
        → StopsEarly a b f (all_below_in m (map indexed_of xs) (map indexed_of xs))
        → StopsEarly a b f (below_all w ns ns)
    below_all_stops a b f stop = subst (StopsEarly a b f) row_is stop
