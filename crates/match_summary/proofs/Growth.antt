-- How lists of summaries grow, and what stays true of them.
use Rattle.std.proofs.Common.{◌≡◌, ℕ, zero, suc, ◌+◌, ◌≤◌, ◌<◌, ◌⊎◌, inl, inr, Bool, List, [], ◌∷◌, ◌++◌, Some, length, take, slice_get, refl, sym, ◌∙◌, ap, subst, arith, append_assoc, append-nil}
use Rattle.std.specs.List.{Contains}
use Rattle.std.proofs.lemmas.List.{length-append, take-append-le}
use Rattle.std.proofs.lemmas.List.Elements.{Contains-append_left, Contains-push_cases}
use Rattle.std.proofs.lemmas.Option.{slice_get_within, slice_get-get_or, get_or_from_slice_get}
use Rattle.std.proofs.Math.Seq.{take-append_seam}
use Rattle.qual_base.proofs.Lists.{get_left}
use Rattle.flow_graph.specs.System.{System}
use Rattle.match_summary.specs.declared.reason.Reason.{Reason}
use Rattle.match_summary.specs.declared.reason.Reason.TheVariants.{Last, Group}
use Rattle.match_summary.specs.declared.reason.Summary.{Summary}
use Rattle.match_summary.specs.Summary.{HasPair, Leads, EndsAt, RestsOn}
use Rattle.match_summary.specs.Closing.{AllFollow, Follows, Grows, IsEntered, IsFollowed, IsGood, IsLeft, IsLeftFrom, IsMarked, targets}
use Rattle.match_summary.specs.Starts.{sources}
use Rattle.match_summary.proofs.Sources.{source_at, source_row}

-- an element by its place
pub contains_at : {X : Type 0} (xs : List X) (n : ℕ) (x : X) → slice_get xs n ≡ Some x → Contains xs x
contains_at xs n x is = (n, slice_get_within xs n x is, get_or_from_slice_get xs n x x is)

pub at_contains : {X : Type 0} (xs : List X) (x : X) → Contains xs x
    → (n : ℕ) × (n < length xs) × (slice_get xs n ≡ Some x)
at_contains xs x there = (there.0, there.1, slice_get-get_or xs there.0 x there.1 ∙ ap (λ y. Some y) there.2)

-- the elements of a list with one more are those of the list and the new one
pub push_cases : {X : Type 0} (xs : List X) (x : X) (n : ℕ) (y : X) → slice_get (xs ++ x ∷ []) n ≡ Some y →
    ((n < length xs) × (slice_get xs n ≡ Some y)) ⊎ ((n ≡ length xs) × (x ≡ y))
push_cases [] x zero y is = inr (refl, cc)
push_cases [] x (suc n) y is = absurd cc
push_cases (z ∷ xs) x zero y is = inl (omega arith, is)
push_cases (z ∷ xs) x (suc n) y is = elim (push_cases xs x n y is) [
  | inl old ↦ let lt = old.0 in inl (omega arith, old.1)
  | inr new ↦ inr (ap (λ k. suc k) new.0, new.1)
]

-- an item at a place within the first of two joined lists is one of the first
front_back : {X : Type 0} (xs ys : List X) (n : ℕ) (x : X) → n < length xs → slice_get (xs ++ ys) n ≡ Some x
    → slice_get xs n ≡ Some x
front_back [] ys n x lt is = absurd (omega arith)
front_back (y ∷ xs) ys zero x lt is = is
front_back (y ∷ xs) ys (suc n) x lt is = front_back xs ys n x (omega arith) is

pub at_grown : (old new : List Summary) (n : ℕ) (row : Summary) → Grows old new → slice_get old n ≡ Some row
    → slice_get new n ≡ Some row
at_grown old new n row p is = ap (λ (rows : List Summary). slice_get rows n) p.is ∙ get_left old p.more n row is

pub at_early : (old new : List Summary) (n : ℕ) (row : Summary) → Grows old new → n < length old
    → slice_get new n ≡ Some row → slice_get old n ≡ Some row
at_early old new n row p lt is =
    front_back old p.more n row lt (ap (λ (rows : List Summary). slice_get rows n) (sym p.is) ∙ is)

pub grows_not : (rows : List Summary) → Grows rows rows
grows_not rows = record { more = []; is = sym (append-nil rows) }

pub grows_then : (a b c : List Summary) → Grows a b → Grows b c → Grows a c
grows_then a b c p q =
    record { more = p.more ++ q.more; is = q.is ∙ ap (λ xs. xs ++ q.more) p.is ∙ append_assoc a p.more q.more }

pub grows_longer : (old new : List Summary) → Grows old new → length old ≤ length new
grows_longer old new p =
    let whole : length new ≡ length old + length p.more = ap length p.is ∙ length-append old p.more in
    omega (arith, whole)

pub contains_grown : (old new : List Summary) (row : Summary) → Grows old new → Contains old row → Contains new row
contains_grown old new row p there =
    subst (λ rows. Contains rows row) (sym p.is) (Contains-append_left old p.more row there)

pub has_grown : (old new : List Summary) (u v : ℕ) → Grows old new → HasPair old u v → HasPair new u v
has_grown old new u v p h = (h.0, contains_grown old new _ p h.1)

pub leads_grown : (old new : List Summary) (u v : ℕ) → Grows old new → Leads old u v → Leads new u v
leads_grown old new u v p (inl same) = inl same
leads_grown old new u v p (inr h) = inr (has_grown old new u v p h)

pub ends_grown : (sys : System) (lattice : ℕ) (old new : List Summary) (why : Reason) (v : ℕ) → Grows old new
    → EndsAt sys lattice old why v → EndsAt sys lattice new why v
ends_grown sys lattice old new (Last edge before) v p h = h
ends_grown sys lattice old new (Group before enter leave) v p h =
    (h.0, h.1, h.2, h.3, leads_grown old new h.1 h.2 p h.4, h.5, h.6)

-- a new pair whose reason rests on the list keeps the list good
pub good_push : (sys : System) (lattice : ℕ) (marks : List Bool) (rows : List Summary) (row : Summary)
    → IsGood sys lattice marks rows → RestsOn sys lattice rows row →
    (HasPair rows row.from row.to → ⊥) → IsMarked marks row.from → IsGood sys lattice marks (rows ++ row ∷ [])
good_push sys lattice marks rows row good rests new inner = record {
  begins = λ u v pair. elim (Contains-push_cases rows row _ pair.1) [
    | inl old ↦ good.begins u v (pair.0, old)
    | inr last ↦ subst (λ x. IsMarked marks x) (ap (λ (r : Summary). r.from) last) inner
  ];
  grounded = λ n r is. elim (push_cases rows row n r is) [
    | inl old ↦
        let lt = old.0 in
        subst (λ xs. RestsOn sys lattice xs r) (sym (take-append-le n rows (row ∷ []) (omega arith)))
        (good.grounded n r old.1)
    | inr last ↦
        let front : take n (rows ++ row ∷ []) ≡ rows =
        ap (λ k. take k (rows ++ row ∷ [])) last.0 ∙ take-append_seam rows (row ∷ []) in
        subst (λ xs. RestsOn sys lattice xs r) (sym front)
        (subst (λ (x : Summary). RestsOn sys lattice rows x) last.1 rests)
  ];
  once = λ n m u v p q a b. elim (push_cases rows row n _ a) [
    | inl first ↦ elim (push_cases rows row m _ b) [
      | inl second ↦ good.once n m u v p q first.1 second.1
      | inr second ↦ absurd (new (
        p,
        contains_at rows n _
            (first.1 ∙ ap (λ (x : Summary). Some (record { from = x.from; to = x.to; why = p })) (sym second.1)),
      ))
    ]
    | inr first ↦ elim (push_cases rows row m _ b) [
      | inl second ↦ absurd (new (
        q,
        contains_at rows m _
            (second.1 ∙ ap (λ (x : Summary). Some (record { from = x.from; to = x.to; why = q })) (sym first.1)),
      ))
      | inr second ↦ first.0 ∙ sym second.0
    ]
  ];
}

pub follows_on : (sys : System) (old new : List Summary) (u w : ℕ) → Grows old new → Follows sys old u w
    → Follows sys new u w
follows_on sys old new u w p h = λ one. has_grown old new u w p (h one)

pub left_on : (sys : System) (lattice : ℕ) (first old new : List Summary) (u s a m : ℕ) → Grows old new
    → IsLeft sys lattice first old u s a m → IsLeft sys lattice first new u s a m
left_on sys lattice first old new u s a m p h = λ b w st leads one. follows_on sys old new u w p (h b w st leads one)

pub left_from : (sys : System) (lattice : ℕ) (first old new : List Summary) (u s a m : ℕ) → Grows first old
    → IsLeft sys lattice old new u s a m → IsLeft sys lattice first new u s a m
left_from sys lattice first old new u s a m p h = λ b w st leads one. h b w st (leads_grown first old a b p leads) one

pub all_on : (sys : System) (marks : List Bool) (first old new : List Summary) (x w : ℕ) → Grows old new
    → AllFollow sys marks first old x w → AllFollow sys marks first new x w
all_on sys marks first old new x w p h = λ t inner leads. follows_on sys old new t w p (h t inner leads)

pub all_from : (sys : System) (marks : List Bool) (first old new : List Summary) (x w : ℕ) → Grows first old
    → AllFollow sys marks old new x w → AllFollow sys marks first new x w
all_from sys marks first old new x w p h = λ t inner leads. h t inner (leads_grown first old t x p leads)

pub entered_on : (sys : System) (lattice : ℕ) (marks : List Bool) (first old new : List Summary) (u s w m : ℕ)
    → Grows old new → IsEntered sys lattice marks first old u s w m → IsEntered sys lattice marks first new u s w m
entered_on sys lattice marks first old new u s w m p h = λ x st. all_on sys marks first old new x w p (h x st)

pub entered_from : (sys : System) (lattice : ℕ) (marks : List Bool) (first old new : List Summary) (u s w m : ℕ)
    → Grows first old → IsEntered sys lattice marks old new u s w m → IsEntered sys lattice marks first new u s w m
entered_from sys lattice marks first old new u s w m p h = λ x st. all_from sys marks first old new x w p (h x st)

-- a constraint that was followed stays so when more summaries come
pub followed_on : (sys : System) (lattice : ℕ) (marks : List Bool) (first old new : List Summary) (u v n : ℕ)
    → Grows old new → IsFollowed sys lattice marks first old u v n → IsFollowed sys lattice marks first new u v n
followed_on sys lattice marks first old new u v n p h = record {
  flow = λ w st. follows_on sys old new u w p (h.flow w st);
  enter = λ s a m st. left_on sys lattice first old new u s a m p (h.enter s a m st);
  leave = λ s w m st one. entered_on sys lattice marks first old new u s w m p (h.leave s w m st one);
}

-- what was followed for all of a list of summaries was followed for those that it grew from
pub followed_from : (sys : System) (lattice : ℕ) (marks : List Bool) (first old new : List Summary) (u v n : ℕ)
    → Grows first old → IsFollowed sys lattice marks old new u v n → IsFollowed sys lattice marks first new u v n
followed_from sys lattice marks first old new u v n p h = record {
  flow = h.flow;
  enter = λ s a m st. left_from sys lattice first old new u s a m p (h.enter s a m st);
  leave = λ s w m st one. entered_from sys lattice marks first old new u s w m p (h.leave s w m st one);
}

-- what the pairs lead to, by their places
pub target_at : (rows : List Summary) (n : ℕ) (row : Summary) → slice_get rows n ≡ Some row
    → slice_get (targets rows) n ≡ Some row.to
target_at [] n row is = absurd cc
target_at (x ∷ rows) zero row is = cc
target_at (x ∷ rows) (suc n) row is = target_at rows n row is

-- a place of the targets that has a variable has a summary that leads to it
pub row_at : (rows : List Summary) (n to : ℕ) → slice_get (targets rows) n ≡ Some to
    → (row : Summary) × (slice_get rows n ≡ Some row) × (row.to ≡ to)
row_at [] n to is = absurd cc
row_at (x ∷ rows) zero to is = (x, refl, cc)
row_at (x ∷ rows) (suc n) to is = row_at rows n to is

-- a place has the same target when more summaries come
pub targets_grown : (old new : List Summary) (n to : ℕ) → Grows old new → slice_get (targets old) n ≡ Some to
    → slice_get (targets new) n ≡ Some to
targets_grown old new n to p is =
    let row = row_at old n to is in
    target_at new n row.0 (at_grown old new n row.0 p row.1) ∙ ap (λ (x : ℕ). Some x) row.2

-- what follows of a part behind nothing and behind the pairs
pub all_follow : (sys : System) (marks : List Bool) (first old new : List Summary) (x w : ℕ) → Grows first old
    → Grows old new → (IsMarked marks x → Follows sys old x w) →
    ((t : ℕ) → HasPair old t x → Follows sys new t w) → AllFollow sys marks first new x w
all_follow sys marks first old new x w p q here pairs t inner (inl same) one =
    has_grown old new t w q
    (subst (λ y. Follows sys old y w) (sym same) (here (subst (λ y. IsMarked marks y) same inner)) one)
all_follow sys marks first old new x w p q here pairs t inner (inr pair) one =
    pairs t (has_grown first old t x p pair) one

-- what follows of the Leaves from one variable, after the list has grown before and since
pub left_between : (sys : System) (lattice : ℕ) (first old middle new : List Summary) (u s a b m : ℕ) → Grows first old
    → Grows middle new → IsLeftFrom sys lattice old middle u s a b m →
    IsLeftFrom sys lattice first new u s a b m
left_between sys lattice first old middle new u s a b m p q h =
    λ w st leads one. follows_on sys middle new u w q (h w st (leads_grown first old a b p leads) one)

-- where they begin, after they have grown
pub sources_grown : (old new : List Summary) (n from : ℕ) → Grows old new → slice_get (sources old) n ≡ Some from
    → slice_get (sources new) n ≡ Some from
sources_grown old new n from p is =
    let row = source_row old n from is in
    source_at new n row.0 (at_grown old new n row.0 p row.1) ∙ ap (λ (x : ℕ). Some x) row.2
