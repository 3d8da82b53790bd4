-- Lists that are added one behind the other.
use Rattle.std.proofs.Common.{◌≡◌, ℕ, zero, suc, ◌+◌, ◌<◌, List, [], ◌∷◌, ◌++◌, length, take, refl, sym, ◌∙◌, ap, arith, append_assoc, length-append}
use Rattle.qual_base.specs.declared.places.Span.{Span}
use Rattle.flow_graph.specs.declared.constraint.Link.{Link}
use Rattle.flow_graph.specs.declared.constraint.Constraint.{Constraint}
use Rattle.flow_graph.specs.declared.graph.GraphFault.{GraphFault}
use Rattle.flow_graph.specs.System.{System}
use Rattle.qual_types.specs.Skel.{Skels, no_skels, more_skels}
use Rattle.flow_rules.specs.Lists.{tie, tied, past}
use Rattle.flow_rules.specs.Adding.{marked, with, Stops}

-- the constraints of joined links are the joined constraints
pub marked_append : (m : ℕ) (s : Span) (xs ys : List Link) → marked m s (xs ++ ys) ≡ marked m s xs ++ marked m s ys
marked_append m s [] ys = refl
marked_append m s (x ∷ xs) ys =
    ap (λ (l : List Constraint). record { link = x; lattices = m; span = s } ∷ l) (marked_append m s xs ys)

pub with_append : (sys : System) (xs ys : List Constraint) → with sys (xs ++ ys) ≡ with (with sys xs) ys
with_append sys xs ys =
    ap (λ (l : List Constraint). record sys { constraints = l }) (sym (append_assoc sys.constraints xs ys))

-- the first items of two joined lists, fewer than the first has, are its own
take_front : (n : ℕ) (xs ys : List Constraint) → n < length xs → take n (xs ++ ys) ≡ take n xs
take_front n [] ys lt = absurd (omega (arith, lt))
take_front zero (x ∷ xs) ys lt = refl
take_front (suc n) (x ∷ xs) ys lt = ap (λ (l : List Constraint). x ∷ l) (take_front n xs ys (omega (arith, lt)))

-- a front that reaches into the second of two lists has all of the first
take_back : (n : ℕ) (xs ys : List Constraint) → take (length xs + n) (xs ++ ys) ≡ xs ++ take n ys
take_back n [] ys = let e : 0 + n ≡ n = omega arith in ap (λ k. take k ys) e
take_back n (x ∷ xs) ys =
    let e : length (x ∷ xs) + n ≡ suc (length xs + n) = omega arith in
    rw e (ap (λ (l : List Constraint). x ∷ l) (take_back n xs ys))

-- an adding that stops in the first list, and one that stops in the second
pub stop_front : (a b : System) (f : GraphFault) (xs ys : List Constraint) → Stops a b f xs → Stops a b f (xs ++ ys)
stop_front a b f xs ys h = record {
  added = h.added;
  some_left = let l = h.some_left in let m = length-append xs ys in omega (arith, l, m);
  part = h.part ∙ ap (with a) (sym (take_front h.added xs ys h.some_left));
  cause = h.cause;
}

-- an adding that stops behind a list that was added whole stops in both lists joined
pub stop_back : (a b c : System) (f : GraphFault) (xs ys : List Constraint) → b ≡ with a xs → Stops b c f ys
    → Stops a c f (xs ++ ys)
stop_back a b c f xs ys e h = record {
  added = length xs + h.added;
  some_left = let l = h.some_left in let m = length-append xs ys in omega (arith, l, m);
  part = h.part ∙ (ap (λ (s : System). with s (take h.added ys)) e
      ∙ (sym (with_append a xs (take h.added ys)) ∙ ap (with a) (sym (take_back h.added xs ys))));
  cause = h.cause;
}

-- links that tie joined lists to one variable are the joined links
pub tied_append : (xs ys : List ℕ) (v : ℕ) → tied (xs ++ ys) v ≡ tied xs v ++ tied ys v
tied_append [] ys v = refl
tied_append (x ∷ xs) ys v =
    ap (λ (l : List Link). tie x v ++ l) (tied_append xs ys v) ∙ sym (append_assoc (tie x v) (tied xs v) (tied ys v))

pub past_none : (ps : Skels) → past ps no_skels ≡ ps
past_none no_skels = refl
past_none (more_skels p ps) = refl
