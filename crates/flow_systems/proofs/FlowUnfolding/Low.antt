-- Raising keeps an assignment at or below each that rises along the constraints.
use Rattle.std.proofs.Common.{◌≡◌, ℕ, ◌<◌, List, [], ◌∷◌, Ok, Err, IfOk, OnOk, MatchBool, Bool, true, false, cond, nat_eq, refl, sym, ◌∙◌, ap, subst, arith}
use Rattle.std.specs.declared.result.Result.{Result}
use Rattle.std.specs.Str.{bytes_eq}
use Rattle.std.specs.Cmp.Lexicographic.{bytes_decides}
use Rattle.std.proofs.lemmas.Bool.{eqb-true, and_parts}
use Rattle.qual_base.specs.declared.places.Owner.{Owner}
use Rattle.lattice_core.specs.Order.{Order, size, leq, IsOrder}
use Rattle.flow_graph.specs.declared.constraint.Link.{Link}
use Rattle.flow_graph.specs.declared.constraint.Link.TheVariants.{Le, Const, Bound, Enter, Leave}
use Rattle.flow_graph.specs.System.{System, Stands, owner_of}
use Rattle.flow_graph.specs.CallStrings.{either}
use Rattle.flow_graph.specs.PathRules.{link_ends}
use Rattle.flow_graph.specs.Unfolding.{Assignment, at, seen_from, Rises, Meets, NamesElementsIn}
use Rattle.flow_systems.specs.FlowUnfolding.Copies.{stands, behind}
use Rattle.flow_systems.specs.FlowUnfolding.Assignment.{is_same, changed, Raises}
use Rattle.flow_systems.specs.FlowUnfolding.Meeting.{begin_element, end_sites, AreElements, IsLow, IsOver, IsUnmet}
use Rattle.flow_systems.proofs.FlowUnfolding.CopyTests.{copy_is, entered_is, root_copy}

-- what is true of the new element and of the elements that stay is true of each
changed_has : (P : ℕ → Type 0) (map : Assignment) (u : ℕ) (x : List ℕ) (e v : ℕ) (w : List ℕ) → P (map v w)
    → (u ≡ v → x ≡ w → P e) → P (changed map u x e v w)
changed_has P map u x e v w stays new = by_test (is_same u x v w) refl
  where
    by_test : (b : Bool) → is_same u x v w ≡ b → P (cond b e (map v w))
    by_test true is =
        let parts = and_parts (nat_eq u v) (bytes_eq x w) is in
        new (eqb-true u v parts.0) ((bytes_decides x w).0 parts.1)
    by_test false is = stays

module _ (sys : System) (lattice : ℕ) (order : Order) (depth : ℕ) where
  named_here : (n l e v : ℕ) → Stands sys lattice n (Const l e v) → Stands sys lattice n (Const lattice e v)
  named_here n l e v st = let Fits : ℕ → Type 0 = λ k. Stands sys lattice n (Const k e v) in subst Fits st.carried st

  bound_here : (n l e v : ℕ) → Stands sys lattice n (Bound v l e) → Stands sys lattice n (Bound v lattice e)
  bound_here n l e v st = let Fits : ℕ → Type 0 = λ k. Stands sys lattice n (Bound v k e) in subst Fits st.carried st

  -- where a link begins, an assignment is at or below what another that rises has at its end
  begins_below : (map other : Assignment) → IsOrder order
      → ((v : ℕ) (w : List ℕ) → leq order (map v w) (other v w) ≡ true) → Rises sys lattice order depth other →
      (n : ℕ) (link : Link) (w : List ℕ) → Stands sys lattice n link → stands sys depth link w ≡ true →
      leq order (begin_element sys map link w) (at sys other (link_ends link) (end_sites link w)) ≡ true
  begins_below map other ordered low rises n (Le u v) w st is =
      ordered.through (at sys map u w) (at sys other u w) (at sys other v w) (low u (seen_from (owner_of sys u) w))
      (rises.le n u v w st (copy_is sys depth (either (owner_of sys u) (owner_of sys v)) w is))
  begins_below map other ordered low rises n (Const l e v) w st is =
      rises.const n e v w (named_here n l e v st) (copy_is sys depth (owner_of sys v) w is)
  begins_below map other ordered low rises n (Bound v l e) w st is = low v (seen_from (owner_of sys v) w)
  begins_below map other ordered low rises n (Enter s u v) [] st is = absurd cc
  begins_below map other ordered low rises n (Enter s u v) (t ∷ w) st is =
      let parts = entered_is sys depth s t w is in
      let Fits : ℕ → Type 0 = λ k. leq order (at sys other u w) (at sys other v (k ∷ w)) ≡ true in
      ordered.through (at sys map u w) (at sys other u w) (at sys other v (t ∷ w))
      (low u (seen_from (owner_of sys u) w))
      (subst Fits (sym parts.0) (rises.enter n s u v parts.1.0 w st parts.1.1 parts.1.2 (omega (arith, parts.2))))
  begins_below map other ordered low rises n (Leave s u v) [] st is = absurd cc
  begins_below map other ordered low rises n (Leave s u v) (t ∷ w) st is =
      let parts = entered_is sys depth s t w is in
      let Fits : ℕ → Type 0 = λ k. leq order (at sys other u (k ∷ w)) (at sys other v w) ≡ true in
      ordered.through (at sys map u (t ∷ w)) (at sys other u (t ∷ w)) (at sys other v w)
      (low u (seen_from (owner_of sys u) (t ∷ w)))
      (subst Fits (sym parts.0) (rises.leave n s u v parts.1.0 w st parts.1.1 parts.1.2 (omega (arith, parts.2))))

  -- a link begins at an element
  pub begins_inside : (map : Assignment) → NamesElementsIn sys lattice order → AreElements order map
      → (n : ℕ) (link : Link) (w : List ℕ) → Stands sys lattice n link →
      begin_element sys map link w < size order
  begins_inside map named elements n (Le u v) w st = elements u (seen_from (owner_of sys u) w)
  begins_inside map named elements n (Const l e v) w st = named.const n e v (named_here n l e v st)
  begins_inside map named elements n (Bound v l e) w st = elements v (seen_from (owner_of sys v) w)
  begins_inside map named elements n (Enter s u v) w st = elements u (seen_from (owner_of sys u) (behind w))
  begins_inside map named elements n (Leave s u v) w st = elements u (seen_from (owner_of sys u) w)

  pub raised_low : (old new : Assignment) → IsOrder order → IsLow sys lattice order depth old
      → (n : ℕ) (link : Link) (w : List ℕ) → Stands sys lattice n link →
      stands sys depth link w ≡ true →
      Raises order old new (link_ends link) (seen_from (owner_of sys (link_ends link)) (end_sites link w))
      (begin_element sys old link w) → IsLow sys lattice order depth new
  raised_low old new ordered low n link w st is raises =
      let end : ℕ = link_ends link in
      let copy : List ℕ = seen_from (owner_of sys end) (end_sites link w) in
      let Inside : ℕ → Type 0 = λ k. k < size order in
      record {
        elements = λ v x. subst Inside (sym (raises.changes v x))
            (changed_has Inside old end copy raises.join v x (low.elements v x)
            (λ e f. (ordered.inside (old end copy) raises.join raises.least.left).1));
        below = λ other rises v x.
            let Under : ℕ → Type 0 = λ k. leq order k (other v x) ≡ true in
            subst Under (sym (raises.changes v x))
            (changed_has Under old end copy raises.join v x (low.below other rises v x)
            (λ e f.
            let Var : ℕ → Type 0 = λ k. leq order raises.join (other k x) ≡ true in
            let Sites : List ℕ → Type 0 = λ k. leq order raises.join (other end k) ≡ true in
            subst Var e (subst Sites f (raises.least.least (other end copy) (low.below other rises end copy)
            (begins_below old other ordered (low.below other rises) rises n link w st is)))));
      }

  -- the same with names for the parts of the raised copy
  pub step_low : (old new : Assignment) → IsOrder order → IsLow sys lattice order depth old
      → (n : ℕ) (link : Link) (w : List ℕ) → Stands sys lattice n link →
      stands sys depth link w ≡ true → (end : ℕ) (owner : Owner) (ends copy : List ℕ) (e : ℕ) → end ≡ link_ends link
      → owner ≡ owner_of sys end → ends ≡ end_sites link w →
      copy ≡ seen_from owner ends → e ≡ begin_element sys old link w → Raises order old new end copy e
      → IsLow sys lattice order depth new
  step_low old new ordered low n link w st is end owner ends copy e end_is owner_is ends_is copy_is_seen e_is raises =
      let seen : copy ≡ seen_from (owner_of sys (link_ends link)) (end_sites link w) =
      copy_is_seen ∙ ap (λ o. seen_from o ends) (owner_is ∙ ap (λ v. owner_of sys v) end_is)
      ∙ ap (λ x. seen_from (owner_of sys (link_ends link)) x) ends_is in
      let At : ℕ → Type 0 = λ k. Raises order old new k copy e in
      let Copy : List ℕ → Type 0 = λ k. Raises order old new (link_ends link) k e in
      let By : ℕ → Type 0 =
      λ k. Raises order old new (link_ends link) (seen_from (owner_of sys (link_ends link)) (end_sites link w)) k in
      raised_low old new ordered low n link w st is (subst By e_is (subst Copy seen (subst At end_is raises)))

  -- where the least assignment is not below a bound, none meets the unfolding
  pub over_unmet : (map : Assignment) → IsOrder order → IsLow sys lattice order depth map
      → IsOver sys lattice order depth map → IsUnmet sys lattice order depth
  over_unmet map ordered low over other meets =
      let copy = copy_is sys depth (owner_of sys over.var) over.sites over.in_copy in
      let under : leq order (at sys map over.var over.sites) over.element ≡ true =
      ordered.through (at sys map over.var over.sites) (at sys other over.var over.sites) over.element
      (low.below other meets.rises over.var (seen_from (owner_of sys over.var) over.sites))
      (meets.bound over.number over.element over.var over.sites over.bound copy) in
      let both : true ≡ false = sym under ∙ over.over in absurd cc

  -- where some assignment meets the unfolding, each constant and bound names an element
  pub met_names : (other : Assignment) → IsOrder order → Meets sys lattice order depth other
      → NamesElementsIn sys lattice order
  met_names other ordered meets = record {
    const = λ n e v st.
        (ordered.inside e (at sys other v []) (meets.rises.const n e v [] st (root_copy sys depth (owner_of sys v)))).0;
    bound = λ n v b st.
        (ordered.inside (at sys other v []) b (meets.bound n b v [] st (root_copy sys depth (owner_of sys v)))).1;
  }

-- the two outcomes of raising
pub raised_both : {E : Type 0} (r : Result Bool E) (A B C G : Type 0) → IfOk r (λ grew. MatchBool grew A (B × C))
    → (A → G) → (B → G) → OnOk r G
raised_both (Ok true) A B C G h one other = one h
raised_both (Ok false) A B C G h one other = other h.0
raised_both (Err e) A B C G h one other = tt
