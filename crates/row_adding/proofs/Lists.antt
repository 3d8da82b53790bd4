-- Lists that are added one behind the other.
use Rattle.std.proofs.Common.{◌≡◌, ◌↔◌, ℕ, zero, suc, ◌+◌, ◌≤◌, List, [], ◌∷◌, ◌++◌, length, take, refl, sym, ◌∙◌, ap, subst, arith, append_assoc, length-append}
use Rattle.qual_base.specs.declared.places.Span.{Span}
use Rattle.flow_graph.specs.declared.constraint.Link.{Link}
use Rattle.flow_graph.specs.declared.constraint.Constraint.{Constraint}
use Rattle.flow_graph.specs.declared.graph.GraphFault.{GraphFault}
use Rattle.flow_graph.specs.declared.graph.GraphFault.TheVariants.{TooMany, NoMemory}
use Rattle.flow_graph.specs.System.{System, most_constraints}
use Rattle.flow_rules.specs.Adding.{marked, with, Stops}
use Rattle.flow_rules.specs.Lists.{smash, unsmash}
use Rattle.qual_types.specs.Skel.{Skel}
use Rattle.row_rules.specs.Worlds.{constraint, constraints}
use Rattle.row_adding.specs.Adding.{StopsEarly}

pub with_append : (sys : System) (xs ys : List Constraint) → with sys (xs ++ ys) ≡ with (with sys xs) ys
with_append sys xs ys =
    ap (λ (l : List Constraint). record sys { constraints = l }) (sym (append_assoc sys.constraints xs ys))

append_nil : (xs : List Constraint) → xs ++ [] ≡ xs
append_nil [] = refl
append_nil (x ∷ xs) = ap (λ (l : List Constraint). x ∷ l) (append_nil xs)

pub with_none : (sys : System) → sys ≡ with sys []
with_none sys = ap (λ (l : List Constraint). record sys { constraints = l }) (sym (append_nil sys.constraints))

-- the front of two lists in a row, no longer than the first, is that of the first
take_front : (n : ℕ) (xs ys : List Constraint) → n ≤ length xs → take n (xs ++ ys) ≡ take n xs
take_front zero [] ys le = refl
take_front (suc n) [] ys le = absurd (omega (arith, le))
take_front zero (x ∷ xs) ys le = refl
take_front (suc n) (x ∷ xs) ys le = ap (λ (l : List Constraint). x ∷ l) (take_front n xs ys (omega (arith, le)))

-- a front that reaches into the second of two lists has all of the first
take_back : (n : ℕ) (xs ys : List Constraint) → take (length xs + n) (xs ++ ys) ≡ xs ++ take n ys
take_back n [] ys = let e : 0 + n ≡ n = omega arith in ap (λ k. take k ys) e
take_back n (x ∷ xs) ys =
    let e : length (x ∷ xs) + n ≡ suc (length xs + n) = omega arith in
    rw e (ap (λ (l : List Constraint). x ∷ l) (take_back n xs ys))

-- an adding that stops in the first list, and one that stops in the second
pub stop_front : (a b : System) (f : GraphFault) (xs ys : List Constraint) → StopsEarly a b f xs
    → StopsEarly a b f (xs ++ ys)
stop_front a b f xs ys h = record {
  added = h.added;
  within = let l = h.within in let m = length-append xs ys in omega (arith, l, m);
  part = h.part ∙ ap (with a) (sym (take_front h.added xs ys h.within));
  full = λ is. let l = h.full is in let m = length-append xs ys in let le = l.0 in (omega (arith, le, m), l.1);
}

-- where a first list was added and the second stops early, both in a row stop early
pub stop_back : (a b c : System) (f : GraphFault) (xs ys : List Constraint) → b ≡ with a xs → StopsEarly b c f ys
    → StopsEarly a c f (xs ++ ys)
stop_back a b c f xs ys e h = record {
  added = length xs + h.added;
  within = let l = h.within in let m = length-append xs ys in omega (arith, l, m);
  part = h.part ∙ (ap (λ (s : System). with s (take h.added ys)) e
      ∙ (sym (with_append a xs (take h.added ys)) ∙ ap (with a) (sym (take_back h.added xs ys))));
  full = λ is. let l = h.full is in let m = length-append xs ys in let le = l.0 in (omega (arith, le, m), l.1);
}

-- one that stops at once, for want of memory
pub stop_first : (a : System) (xs : List Constraint) → StopsEarly a a NoMemory xs
stop_first a xs = record {
  added = 0;
  within = omega arith;
  part = with_none a ∙ ap (with a) (none xs);
  full = λ is. absurd cc;
}
  where
    none : (xs : List Constraint) → [] ≡ take 0 xs
    none [] = refl
    none (x ∷ xs) = refl

-- an adding that stops with some constraints left stops early in their list
pub stop_is : (a b : System) (f : GraphFault) (xs : List Constraint) → Stops a b f xs → StopsEarly a b f xs
stop_is a b f xs h = record {
  added = h.added;
  within = let l = h.some_left in omega (arith, l);
  part = h.part;
  full = λ is. (h.some_left, h.cause.0 is);
}

marked_is : (m : ℕ) (s : Span) (links : List Link) → marked m s links ≡ constraints m s links
marked_is m s [] = refl
marked_is m s (link ∷ links) = ap (λ (l : List Constraint). constraint m s link ∷ l) (marked_is m s links)

-- what is marked by links, as constraints
pub with_marked : (a b : System) (m : ℕ) (s : Span) (links : List Link) → b ≡ with a (marked m s links)
    → b ≡ with a (constraints m s links)
with_marked a b m s links is = is ∙ ap (with a) (marked_is m s links)

pub stop_marked : (a b : System) (f : GraphFault) (m : ℕ) (s : Span) (links : List Link)
    → Stops a b f (marked m s links) → StopsEarly a b f (constraints m s links)
stop_marked a b f m s links h = subst (StopsEarly a b f) (marked_is m s links) (stop_is a b f (marked m s links) h)

-- one constraint that was refused
pub stop_one : (a b : System) (f : GraphFault) (c : Constraint) → b ≡ a
    → (f ≡ TooMany) ↔ (length a.constraints ≡ most_constraints) → StopsEarly a b f (c ∷ [])
stop_one a b f c same cause = record {
  added = 0;
  within = omega arith;
  part = same ∙ with_none a;
  full = λ is. (omega arith, ap (λ (s : System). length s.constraints) same ∙ cause.0 is);
}

pub smashed : (a b : System) (m : ℕ) (s : Span) (x : Skel) (e : ℕ) → b ≡ with a (marked m s (smash x e))
    → b ≡ with a (constraints m s (smash x e))
smashed a b m s x e is = with_marked a b m s (smash x e) is

pub smash_stops : (a b : System) (f : GraphFault) (m : ℕ) (s : Span) (x : Skel) (e : ℕ)
    → Stops a b f (marked m s (smash x e)) → StopsEarly a b f (constraints m s (smash x e))
smash_stops a b f m s x e stop = stop_marked a b f m s (smash x e) stop

pub unsmashed : (a b : System) (m : ℕ) (s : Span) (x : Skel) (e : ℕ) → b ≡ with a (marked m s (unsmash e x))
    → b ≡ with a (constraints m s (unsmash e x))
unsmashed a b m s x e is = with_marked a b m s (unsmash e x) is

pub unsmash_stops : (a b : System) (f : GraphFault) (m : ℕ) (s : Span) (x : Skel) (e : ℕ)
    → Stops a b f (marked m s (unsmash e x)) → StopsEarly a b f (constraints m s (unsmash e x))
unsmash_stops a b f m s x e stop = stop_marked a b f m s (unsmash e x) stop

-- the same in lattices that are as many
pub with_all : (a b : System) (m n : ℕ) (s : Span) (links : List Link) → m ≡ n → b ≡ with a (marked m s links)
    → b ≡ with a (constraints n s links)
with_all a b m n s links same is = with_marked a b m s links is ∙ ap (λ k. with a (constraints k s links)) same

pub stop_all : (a b : System) (f : GraphFault) (m n : ℕ) (s : Span) (links : List Link) → m ≡ n
    → Stops a b f (marked m s links) → StopsEarly a b f (constraints n s links)
stop_all a b f m n s links same stop =
    subst (λ k. StopsEarly a b f (constraints k s links)) same (stop_marked a b f m s links stop)
