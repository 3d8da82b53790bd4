-- What the tests of call strings and copies say.
use Rattle.std.proofs.Common.{◌≡◌, ℕ, ◌≤◌, List, [], ◌∷◌, length, slice_get, Some, None, true, ◌&&◌, nat_eq, nat_le, refl, sym, ◌∙◌, ap, subst, eq-eqb, arith}
use Rattle.std.specs.declared.option.Option.{Option}
use Rattle.std.proofs.lemmas.Bool.{eqb-true, leb-true, le-leb, and_parts, and_from}
use Rattle.std.proofs.lemmas.Option.{slice_get_within}
use Rattle.qual_base.specs.declared.places.Owner.{Owner}
use Rattle.qual_base.specs.declared.places.Owner.TheVariants.{Nobody, Function}
use Rattle.flow_graph.specs.declared.constraint.Site.{Site}
use Rattle.flow_graph.specs.System.{System, Calls}
use Rattle.flow_graph.specs.CallStrings.{IsCallString, IsCopy}
use Rattle.flow_systems.specs.FlowUnfolding.Strings.{AreBelow}
use Rattle.flow_systems.specs.FlowUnfolding.Copies.{has_target, owner_at, calls, outer_of, is_call_string, is_copy, is_outer_copy, is_entered}

-- a site with a function as its target is a call from the site's owner to that function
calls_at : (sys : System) (s : ℕ) (owner : Owner) (o : Option Site) → slice_get sys.sites s ≡ o
    → has_target o owner ≡ true → Calls sys s (owner_at o) owner
calls_at sys s owner None e h = absurd cc
calls_at sys s Nobody (Some it) e h = absurd cc
calls_at sys s (Function f) (Some it) e h =
    record { it = it; there = e; outer_is = refl; inner_is = ap (λ (g : ℕ). Function g) (eqb-true f it.target h) }

calls_is : (sys : System) (s : ℕ) (owner : Owner) → calls sys s owner ≡ true → Calls sys s (outer_of sys s) owner
calls_is sys s owner h = calls_at sys s owner (slice_get sys.sites s) refl h

-- a call from one owner to another passes the test of its site
calls_test : (sys : System) (s : ℕ) (outer owner : Owner) → Calls sys s outer owner → calls sys s owner ≡ true
calls_test sys s outer owner h =
    let At : Option Site → Type 0 = λ o. has_target o owner ≡ true in
    let Of : Owner → Type 0 = λ k. has_target (Some h.it) k ≡ true in
    subst At (sym h.there) (subst Of (sym h.inner_is) (eq-eqb h.it.target h.it.target refl))

outer_is : (sys : System) (s : ℕ) (outer owner : Owner) → Calls sys s outer owner → outer ≡ outer_of sys s
outer_is sys s outer owner h = h.outer_is ∙ sym (ap owner_at h.there)

-- a list of sites that passes the test is a call string to the owner
string_is : (sys : System) (owner : Owner) (w : List ℕ) → is_call_string sys owner w ≡ true → IsCallString sys owner w
string_is sys owner [] h = tt
string_is sys owner (s ∷ []) h = (outer_of sys s, calls_is sys s owner (and_parts (calls sys s owner) true h).0)
string_is sys owner (s ∷ t ∷ w) h =
    let parts = and_parts (calls sys s owner) (is_call_string sys (outer_of sys s) (t ∷ w)) h in
    (outer_of sys s, calls_is sys s owner parts.0, string_is sys (outer_of sys s) (t ∷ w) parts.1)

-- a call string to an owner passes the test
string_test : (sys : System) (owner : Owner) (w : List ℕ) → IsCallString sys owner w → is_call_string sys owner w ≡ true
string_test sys owner [] h = refl
string_test sys owner (s ∷ []) h = and_from (calls sys s owner) true (calls_test sys s h.0 owner h.1) refl
string_test sys owner (s ∷ t ∷ w) h =
    let On : Owner → Type 0 = λ o. IsCallString sys o (t ∷ w) in
    and_from (calls sys s owner) (is_call_string sys (outer_of sys s) (t ∷ w)) (calls_test sys s h.0 owner h.1)
    (string_test sys (outer_of sys s) (t ∷ w) (subst On (outer_is sys s h.0 owner h.1) h.2))

-- a list of sites that passes the test at a depth is a copy of the owner
pub copy_is : (sys : System) (depth : ℕ) (owner : Owner) (w : List ℕ) → is_copy sys depth owner w ≡ true
    → IsCopy sys depth owner w
copy_is sys depth Nobody [] h = refl
copy_is sys depth Nobody (s ∷ w) h =
    let none : length (s ∷ w) ≡ 0 = eqb-true (length (s ∷ w)) 0 h in
    absurd (omega (arith, none))
copy_is sys depth (Function f) w h =
    let parts = and_parts (nat_le (length w) depth) (is_call_string sys (Function f) w) h in
    (string_is sys (Function f) w parts.1, leb-true (length w) depth parts.0)

-- a copy of an owner at a depth passes the test
pub copy_test : (sys : System) (depth : ℕ) (owner : Owner) (w : List ℕ) → IsCopy sys depth owner w
    → is_copy sys depth owner w ≡ true
copy_test sys depth Nobody w h = eq-eqb (length w) 0 (ap length h)
copy_test sys depth (Function f) w h =
    and_from (nat_le (length w) depth) (is_call_string sys (Function f) w) (le-leb (length w) depth h.1)
    (string_test sys (Function f) w h.0)

-- the sites of a call string are among those of the system
string_below : (sys : System) (owner : Owner) (w : List ℕ) → IsCallString sys owner w → AreBelow (length sys.sites) w
string_below sys owner [] h = tt
string_below sys owner (s ∷ []) h = (slice_get_within sys.sites s h.1.it h.1.there, tt)
string_below sys owner (s ∷ t ∷ w) h = (slice_get_within sys.sites s h.1.it h.1.there, string_below sys h.0 (t ∷ w) h.2)

-- the sites of a copy are among those of the system, and no more than the depth
pub copy_below : (sys : System) (depth : ℕ) (owner : Owner) (w : List ℕ) → IsCopy sys depth owner w
    → AreBelow (length sys.sites) w × (length w ≤ depth)
copy_below sys depth Nobody w h =
    let Low : List ℕ → Type 0 = λ x. AreBelow (length sys.sites) x × (length x ≤ depth) in
    let none : Low [] = (tt, omega arith) in subst Low (sym h) none
copy_below sys depth (Function f) w h = (string_below sys (Function f) w h.0, h.1)

-- the copy that holds no site is there at each depth
pub root_copy : (sys : System) (depth : ℕ) (owner : Owner) → IsCopy sys depth owner []
root_copy sys depth Nobody = refl
root_copy sys depth (Function f) = (tt, omega arith)

-- a site that is there, a copy of whose owner this is
abbrev pub HasOuterCopy : System → ℕ → Option Site → List ℕ → Type 0
HasOuterCopy sys depth o w = (site : Site) × (o ≡ Some site) × IsCopy sys depth site.owner w

outer_copy_is : (sys : System) (depth : ℕ) (o : Option Site) (w : List ℕ) → is_outer_copy sys depth o w ≡ true
    → HasOuterCopy sys depth o w
outer_copy_is sys depth None w h = absurd cc
outer_copy_is sys depth (Some site) w h = (site, refl, copy_is sys depth site.owner w h)

-- a copy that a site is found to enter has the site first, then a copy of its owner, within the depth
pub entered_is : (sys : System) (depth s t : ℕ) (w : List ℕ) → is_entered sys depth s (t ∷ w) ≡ true →
    (t ≡ s) × HasOuterCopy sys depth (slice_get sys.sites s) w × (length (t ∷ w) ≤ depth)
entered_is sys depth s t w h =
    let outer = is_outer_copy sys depth (slice_get sys.sites s) w in
    let parts = and_parts (nat_eq t s) (nat_le (length (t ∷ w)) depth && outer) h in
    let rest = and_parts (nat_le (length (t ∷ w)) depth) outer parts.1 in (
      eqb-true t s parts.0,
      outer_copy_is sys depth (slice_get sys.sites s) w rest.1,
      leb-true (length (t ∷ w)) depth rest.0,
    )

-- a copy of a site's owner with the site in front, within the depth, is found to be entered by the site
pub entered_test : (sys : System) (depth s : ℕ) (site : Site) (w : List ℕ) → slice_get sys.sites s ≡ Some site
    → IsCopy sys depth site.owner w → length (s ∷ w) ≤ depth →
    is_entered sys depth s (s ∷ w) ≡ true
entered_test sys depth s site w there copy short =
    let outer = is_outer_copy sys depth (slice_get sys.sites s) w in
    let outer_is : outer ≡ true = rw there (copy_test sys depth site.owner w copy) in
    and_from (nat_eq s s) (nat_le (length (s ∷ w)) depth && outer) (eq-eqb s s refl)
    (and_from (nat_le (length (s ∷ w)) depth) outer (le-leb (length (s ∷ w)) depth short) outer_is)
