-- Paths of a library, and what its words and its bounds have of them.
use Rattle.std.proofs.Common.{◌≡◌, ℕ, ◌+◌, ◌≤◌, length, arith, ◌++◌, Bool, true, false, not, List, [], ◌∷◌, Option, Some, None, slice_get, refl, sym, ◌∙◌, ap, subst, ◌⊎◌, inl, inr}
use Rattle.qual_base.specs.declared.places.Owner.{Owner}
use Rattle.qual_base.specs.declared.places.Owner.TheVariants.{Nobody, Function}
use Rattle.flow_graph.specs.declared.constraint.Site.{Site}
use Rattle.flow_graph.specs.declared.constraint.Link.TheVariants.{Le, Enter, Leave}
use Rattle.flow_graph.specs.declared.constraint.Constraint.{Constraint}
use Rattle.flow_graph.specs.CallStrings.{IsCallString, IsCopy}
use Rattle.flow_graph.specs.System.{System, owner_of, Calls, IsWellOwned}
use Rattle.flow_graph.specs.Paths.{Matches, stay, longer, Part, flow, group, Match}
use Rattle.split_laws.specs.Splits.{Split, of_part, alone, IsMine, IsOther, IsSplit, Down, along, round}
use Rattle.flow_laws.proofs.Owners.{function_is}
use Rattle.split_laws.proofs.Appending.{front_has}

site_is : {x y : Site} → Some x ≡ Some y → x ≡ y
site_is e = cc

module _ (sys : System) (lattice : ℕ) where
  -- a path goes on by one inside a function
  pub down_on : (f u x v : ℕ) → Down sys lattice u x → Matches sys lattice f x v → Down sys lattice u v
  down_on f u x v d (stay _ _ is) = d
  down_on f u x v d (longer _ _ y _ m part) = on_part (down_on f u x y d m) part
    where
      on_part : Down sys lattice u y → Part sys lattice f y v → Down sys lattice u v
      on_part d (flow _ _ _ n st is) = along u y v n d st
      on_part d (group _ _ a b _ s g n m st q st2 is) = round u y a b v s g n m d st q st2

  -- a path inside a function is empty, or one of parts
  pub split_path : (f u v : ℕ) → Matches sys lattice f u v → (u ≡ v) ⊎ Match sys lattice u v
  split_path f u v (stay _ _ is) = inl refl
  split_path f u v (longer _ _ y _ m part) = inr (f, y, m, part)

-- calls and copies are those of the sites, whatever the constraints
module _ (s : Split) (one other : List Constraint) where
  pub calls_of : (t : ℕ) (outer inner : Owner) → Calls (of_part s one) t outer inner
      → Calls (of_part s other) t outer inner
  calls_of t outer inner c = record { it = c.it; there = c.there; outer_is = c.outer_is; inner_is = c.inner_is }

  string_of : (owner : Owner) (sites : List ℕ) → IsCallString (of_part s one) owner sites
      → IsCallString (of_part s other) owner sites
  string_of owner [] h = tt
  string_of owner (t ∷ []) h = (h.0, calls_of t h.0 owner h.1)
  string_of owner (t ∷ r ∷ sites) h = (h.0, calls_of t h.0 owner h.1, string_of h.0 (r ∷ sites) h.2)

  pub copy_of : (depth : ℕ) (owner : Owner) (sites : List ℕ) → IsCopy (of_part s one) depth owner sites
      → IsCopy (of_part s other) depth owner sites
  copy_of depth Nobody sites h = h
  copy_of depth (Function f) sites h = (string_of (Function f) sites h.0, h.1)

-- a copy without its last site
pub copy_off : (sys : System) (depth : ℕ) (outer inner : Owner) (t : ℕ) (sites : List ℕ)
    → IsCopy sys depth inner (t ∷ sites) → Calls sys t outer inner → IsCopy sys depth outer sites
copy_off sys depth outer inner t sites copy call =
    by_string sites (string (subst (λ o. IsCopy sys depth o (t ∷ sites)) call.inner_is copy))
  where
    string : IsCopy sys depth (Function call.it.target) (t ∷ sites)
        → IsCopy sys depth (Function call.it.target) (t ∷ sites)
    string c = c

    same : (o : Owner) → Calls sys t o (Function call.it.target) → o ≡ outer
    same o other =
        other.outer_is ∙ ap (λ (site : Site). site.owner) (site_is (sym other.there ∙ call.there)) ∙ sym call.outer_is

    shorter : (o : Owner) (w : List ℕ) → IsCallString sys o w → length w + 1 ≤ depth → IsCopy sys depth o w
    shorter Nobody [] h fits = refl
    shorter Nobody (r ∷ []) h fits = let wrong : Nobody ≡ Function h.1.it.target = h.1.inner_is in absurd cc
    shorter Nobody (r ∷ q ∷ w) h fits = let wrong : Nobody ≡ Function h.1.it.target = h.1.inner_is in absurd cc
    shorter (Function f) w h fits = (h, omega (arith, fits))

    by_string : (w : List ℕ) → IsCopy sys depth (Function call.it.target) (t ∷ w) → IsCopy sys depth outer w
    by_string [] c = root_of outer
      where
        root_of : (o : Owner) → IsCopy sys depth o []
        root_of Nobody = refl
        root_of (Function f) = (tt, omega arith)
    by_string (r ∷ w) c =
        subst (λ o. IsCopy sys depth o (r ∷ w)) (same c.0.0 c.0.1) (shorter c.0.0 (r ∷ w) c.0.2 (omega (arith, c.1)))

module _ (s : Split) (fits : IsSplit s) where
  pub owned : IsWellOwned (alone s)
  owned = record {
    le = λ n u v f g h p q. fits.owned.le n u v f g (front_has s s.library s.client n (Le u v) h) p q;
    enter = λ n t u v h. calls_of s (s.library ++ s.client) s.library t _ _
        (fits.owned.enter n t u v (front_has s s.library s.client n (Enter t u v) h));
    leave = λ n t u v h. calls_of s (s.library ++ s.client) s.library t _ _
        (fits.owned.leave n t u v (front_has s s.library s.client n (Leave t u v) h));
  }

  abbrev foreign_owner : Owner → Bool
  foreign_owner Nobody = true
  foreign_owner (Function f) = not (s.mine f)

  abbrev foreign_by : Option Site → Bool
  foreign_by None = true
  foreign_by (Some it) = foreign_owner it.owner

  -- the calls of a site are not made by the library
  abbrev pub foreign : ℕ → Bool
  foreign t = foreign_by (slice_get s.sites t)

  foreign_is : (t u x : ℕ) → Calls (alone s) t (owner_of (alone s) u) (owner_of (alone s) x)
      → foreign t ≡ foreign_owner (owner_of (alone s) u)
  foreign_is t u x call = ap foreign_by call.there ∙ ap foreign_owner (sym call.outer_is)

  pub own_site : (t u x : ℕ) → Calls (alone s) t (owner_of (alone s) u) (owner_of (alone s) x) → IsMine s u
      → foreign t ≡ true → ⊥
  own_site t u x call mine is =
      let one : foreign t ≡ not (s.mine mine.0) = foreign_is t u x call ∙ ap foreign_owner mine.1 in
      let two : not (s.mine mine.0) ≡ false = ap not mine.2 in
      let wrong : true ≡ false = sym is ∙ one ∙ two in
      cc

  other_owner : (o : Owner) → ((f : ℕ) → o ≡ Function f → s.mine f ≡ false) → foreign_owner o ≡ true
  other_owner Nobody h = refl
  other_owner (Function f) h = ap not (h f refl)

  pub other_site : (t u x : ℕ) → Calls (alone s) t (owner_of (alone s) u) (owner_of (alone s) x) → IsOther s u
      → foreign t ≡ true
  other_site t u x call other = foreign_is t u x call ∙ other_owner (owner_of (alone s) u) other

  pub mine_not_other : (v : ℕ) → IsMine s v → IsOther s v → ⊥
  mine_not_other v mine other = let wrong : true ≡ false = sym mine.2 ∙ other mine.0 mine.1 in cc

  by_owner : (v : ℕ) (o : Owner) → owner_of (alone s) v ≡ o → IsMine s v ⊎ IsOther s v
  by_owner v Nobody is = inr (λ f h. let wrong : Nobody ≡ Function f = sym is ∙ h in absurd cc)
  by_owner v (Function f) is = by_mine (s.mine f) refl
    where
      by_mine : (b : Bool) → s.mine f ≡ b → IsMine s v ⊎ IsOther s v
      by_mine true e = inl (f, is, e)
      by_mine false e = inr (λ g h. ap s.mine (function_is (sym h ∙ is)) ∙ e)

  pub mine_or_other : (v : ℕ) → IsMine s v ⊎ IsOther s v
  mine_or_other v = by_owner v (owner_of (alone s) v) refl
