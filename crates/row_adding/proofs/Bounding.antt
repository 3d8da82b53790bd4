-- The bounds by elements, one behind the other.
use Rattle.std.proofs.Common.{◌≡◌, ℕ, zero, suc, ◌+◌, ◌≤◌, Bool, List, [], ◌∷◌, ◌++◌, length, drop, slice_get, Some, sym, ◌∙◌, ap, subst, arith}
use Rattle.qual_base.specs.declared.places.Span.{Span}
use Rattle.qual_base.proofs.Lists.{drop_past}
use Rattle.lattice_core.specs.declared.Entry.{Entry}
use Rattle.lattice_core.specs.View.{LatticeView}
use Rattle.flow_graph.specs.declared.graph.GraphFault.{GraphFault}
use Rattle.flow_graph.specs.System.{System}
use Rattle.flow_rules.specs.Adding.{with}
use Rattle.row_rules.specs.Annotations.{bounds_of, bounds_from}
use Rattle.row_adding.specs.Adding.{StopsEarly}
use Rattle.row_adding.specs.Parts.{bound_by}
use Rattle.row_adding.proofs.Lists.{with_append, with_none, stop_front, stop_back}

-- from the index of an element on a list is this element and those from the next index on
pub drop_there : {A : Type 0} (xs : List A) (n : ℕ) (x : A) → slice_get xs n ≡ Some x → drop n xs ≡ x ∷ drop (n + 1) xs
drop_there [] n x is = absurd cc
drop_there (y ∷ ys) zero x is = let e : y ≡ x = cc in ap (λ z. z ∷ ys) e
drop_there (y ∷ ys) (suc n) x is = let e : suc n + 1 ≡ suc (n + 1) = omega arith in rw e (drop_there ys n x is)

module _ (test : Entry → Bool) (v : ℕ) (s : Span) where
  entry_next : (l n : ℕ) (es : List Entry) (e : Entry) → slice_get es n ≡ Some e
      → bounds_of test v s l n (drop n es) ≡ bound_by test v s l n e ++ bounds_of test v s l (n + 1) (drop (n + 1) es)
  entry_next l n es e is = ap (bounds_of test v s l n) (drop_there es n e is)
      ∙ (let one : suc n ≡ n + 1 = omega arith in
      ap (λ m. bound_by test v s l n e ++ bounds_of test v s l m (drop (n + 1) es)) one)

  pub no_entry_left : (l n : ℕ) (es : List Entry) (a : System) → length es ≤ n
      → a ≡ with a (bounds_of test v s l n (drop n es))
  no_entry_left l n es a le = with_none a ∙ ap (λ xs. with a (bounds_of test v s l n xs)) (sym (drop_past es n le))

  pub entry_added : (l n : ℕ) (es : List Entry) (e : Entry) (a b c : System) → slice_get es n ≡ Some e
      → b ≡ with a (bound_by test v s l n e) → c ≡ with b (bounds_of test v s l (n + 1) (drop (n + 1) es))
      → c ≡ with a (bounds_of test v s l n (drop n es))
  entry_added l n es e a b c is first rest =
      rest ∙ ap (λ g. with g (bounds_of test v s l (n + 1) (drop (n + 1) es))) first
      ∙ sym (with_append a (bound_by test v s l n e) (bounds_of test v s l (n + 1) (drop (n + 1) es)))
      ∙ ap (with a) (sym (entry_next l n es e is))

  pub stops_at_entry : (l n : ℕ) (es : List Entry) (e : Entry) (a b : System) (f : GraphFault) → slice_get es n ≡ Some e
      → StopsEarly a b f (bound_by test v s l n e) → StopsEarly a b f (bounds_of test v s l n (drop n es))
  stops_at_entry l n es e a b f is stop = subst (StopsEarly a b f) (sym (entry_next l n es e is))
      (stop_front a b f (bound_by test v s l n e) (bounds_of test v s l (n + 1) (drop (n + 1) es)) stop)

  pub stops_behind_entry : (l n : ℕ) (es : List Entry) (e : Entry) (a b c : System) (f : GraphFault)
      → slice_get es n ≡ Some e
      → b ≡ with a (bound_by test v s l n e) → StopsEarly b c f (bounds_of test v s l (n + 1) (drop (n + 1) es))
      → StopsEarly a c f (bounds_of test v s l n (drop n es))
  stops_behind_entry l n es e a b c f is first stop = subst (StopsEarly a c f) (sym (entry_next l n es e is))
      (stop_back a b c f (bound_by test v s l n e) (bounds_of test v s l (n + 1) (drop (n + 1) es)) first stop)

  view_next : (n : ℕ) (ls : List LatticeView) (l : LatticeView) → slice_get ls n ≡ Some l
      → bounds_from test v s n (drop n ls) ≡ bounds_of test v s n 0 (drop 0 l.entries)
      ++ bounds_from test v s (n + 1) (drop (n + 1) ls)
  view_next n ls l is = ap (bounds_from test v s n) (drop_there ls n l is)
      ∙ (let one : suc n ≡ n + 1 = omega arith in
      ap (λ m. bounds_of test v s n 0 l.entries ++ bounds_from test v s m (drop (n + 1) ls)) one)

  pub no_view_left : (n : ℕ) (ls : List LatticeView) (a : System) → length ls ≤ n
      → a ≡ with a (bounds_from test v s n (drop n ls))
  no_view_left n ls a le = with_none a ∙ ap (λ xs. with a (bounds_from test v s n xs)) (sym (drop_past ls n le))

  pub view_added : (n : ℕ) (ls : List LatticeView) (l : LatticeView) (a b c : System) → slice_get ls n ≡ Some l
      → b ≡ with a (bounds_of test v s n 0 (drop 0 l.entries))
      → c ≡ with b (bounds_from test v s (n + 1) (drop (n + 1) ls))
      → c ≡ with a (bounds_from test v s n (drop n ls))
  view_added n ls l a b c is first rest = rest ∙ ap (λ g. with g (bounds_from test v s (n + 1) (drop (n + 1) ls))) first
      ∙ sym (with_append a (bounds_of test v s n 0 (drop 0 l.entries)) (bounds_from test v s (n + 1) (drop (n + 1) ls)))
      ∙ ap (with a) (sym (view_next n ls l is))

  pub stops_at_view : (n : ℕ) (ls : List LatticeView) (l : LatticeView) (a b : System) (f : GraphFault)
      → slice_get ls n ≡ Some l
      → StopsEarly a b f (bounds_of test v s n 0 (drop 0 l.entries))
      → StopsEarly a b f (bounds_from test v s n (drop n ls))
  stops_at_view n ls l a b f is stop = subst (StopsEarly a b f) (sym (view_next n ls l is))
      (stop_front a b f (bounds_of test v s n 0 (drop 0 l.entries))
      (bounds_from test v s (n + 1) (drop (n + 1) ls)) stop)

  pub stops_behind_view : (n : ℕ) (ls : List LatticeView) (l : LatticeView) (a b c : System) (f : GraphFault)
      → slice_get ls n ≡ Some l
      → b ≡ with a (bounds_of test v s n 0 (drop 0 l.entries))
      → StopsEarly b c f (bounds_from test v s (n + 1) (drop (n + 1) ls))
      → StopsEarly a c f (bounds_from test v s n (drop n ls))
  stops_behind_view n ls l a b c f is first stop = subst (StopsEarly a c f) (sym (view_next n ls l is))
      (stop_back a b c f (bounds_of test v s n 0 (drop 0 l.entries))
      (bounds_from test v s (n + 1) (drop (n + 1) ls)) first stop)

  -- the same by a number that is equal
  pub entry_added_at : (l n m : ℕ) (es : List Entry) (e : Entry) (a b c : System) → m ≡ n → slice_get es m ≡ Some e
      → b ≡ with a (bound_by test v s l m e) → c ≡ with b (bounds_of test v s l (n + 1) (drop (n + 1) es))
      → c ≡ with a (bounds_of test v s l n (drop n es))
  entry_added_at l n m es e a b c same is first rest = entry_added l n es e a b c (ap (slice_get es) (sym same) ∙ is)
      (first ∙ ap (λ k. with a (bound_by test v s l k e)) same) rest

  pub view_added_at : (n m : ℕ) (ls : List LatticeView) (l : LatticeView) (a b c : System) → m ≡ n
      → slice_get ls m ≡ Some l
      → b ≡ with a (bounds_of test v s m 0 l.entries) → c ≡ with b (bounds_from test v s (n + 1) (drop (n + 1) ls))
      → c ≡ with a (bounds_from test v s n (drop n ls))
  view_added_at n m ls l a b c same is first rest = view_added n ls l a b c (ap (slice_get ls) (sym same) ∙ is)
      (first ∙ ap (λ k. with a (bounds_of test v s k 0 l.entries)) same) rest
