-- Owners are given variable by variable, and skeleton by skeleton.
use Rattle.std.proofs.Common.{◌≡◌, ◌≢◌, ℕ, zero, suc, ◌+◌, ◌-◌, ◌<◌, max, arith, List, [], ◌∷◌, ◌++◌, length, length-append, map, drop, replicate, slice_get, slice_index_or, unwrap_or, inl, inr, refl, sym, ◌∙◌, ap, append_assoc, append-nil}
use Rattle.std.proofs.lemmas.Bool.Decides.{eqb_tells}
use Rattle.qual_base.specs.declared.places.Owner.{Owner}
use Rattle.qual_base.specs.declared.places.Owner.TheVariants.{Nobody}
use Rattle.flow_graph.specs.System.{System, SetsOwner, owner_of}
use Rattle.type_table.specs.Types.{size}
use Rattle.type_table.specs.declared.row.TypeRow.{TypeRow}
use Rattle.name_rules.specs.Spellings.{Place}
use Rattle.row_rules.specs.Starting as rules
use Rattle.row_rules.specs.Sites.{variables_among, owner_by, owners_among}
use Rattle.unit_starts.specs.declared.start.Start.{Start}
use Rattle.unit_starts.specs.Views.{start_in}

abbrev owner_at : List Owner → ℕ → Owner
owner_at xs n = unwrap_or (slice_get xs n) Nobody

-- two lists of owners of one length that give each variable the same owner are one list
same_lists : (xs ys : List Owner) → length xs ≡ length ys → ((n : ℕ) → n < length xs → owner_at xs n ≡ owner_at ys n)
    → xs ≡ ys
same_lists [] [] e same = refl
same_lists [] (y ∷ ys) e same = absurd (omega arith)
same_lists (x ∷ xs) [] e same = absurd (omega arith)
same_lists (x ∷ xs) (y ∷ ys) e same =
    ap (λ (z : Owner). z ∷ xs) (same 0 (omega arith))
    ∙ ap (λ (zs : List Owner). y ∷ zs) (same_lists xs ys (omega arith) (λ n lt. same (suc n) (omega arith)))

-- a variable below the length of a list of owners keeps its owner with one owner more behind
in_front : (xs : List Owner) (x : Owner) (n : ℕ) → n < length xs → owner_at xs n ≡ owner_at (xs ++ x ∷ []) n
in_front [] x n lt = absurd (omega arith)
in_front (y ∷ xs) x zero lt = refl
in_front (y ∷ xs) x (suc n) lt = in_front xs x n (omega arith)

-- the variable at the length of a list of owners has the owner that is put behind it
at_end : (xs : List Owner) (x : Owner) (n : ℕ) → n ≡ length xs → x ≡ owner_at (xs ++ x ∷ []) n
at_end [] x zero is = refl
at_end [] x (suc n) is = absurd (omega arith)
at_end (y ∷ xs) x zero is = absurd (omega arith)
at_end (y ∷ xs) x (suc n) is = at_end xs x n (omega arith)

higher : (n : ℕ) → max n (n + 1) ≡ n + 1
higher n = omega arith

-- the first variable that had no owner has one
set_last : (old new : System) (n : ℕ) (owner : Owner) → SetsOwner old new n owner → length old.owners ≡ n
    → new.owners ≡ old.owners ++ owner ∷ []
set_last old new n owner sets known =
    let count : length new.owners ≡ n + 1 = sets.known ∙ ap (λ (k : ℕ). max k (n + 1)) known ∙ higher n in
    let more = length-append old.owners (owner ∷ []) in
    same_lists new.owners (old.owners ++ owner ∷ []) (omega arith) (λ u lt. by_test u lt count)
  where
    by_test : (u : ℕ) → u < length new.owners → length new.owners ≡ n + 1
        → owner_at new.owners u ≡ owner_at (old.owners ++ owner ∷ []) u
    by_test u lt count = elim (eqb_tells u n) [
      | inl a ↦ ap (owner_of new) a.1 ∙ sets.owner_is ∙ at_end old.owners owner u (a.1 ∙ sym known)
      | inr b ↦ let apart : u ≢ n = b.1 in
          sets.others u apart ∙ in_front old.owners owner u (omega arith)
    ]

-- an owner before e - (n + 1) of itself is e - n times this owner, where n is below e
one_fewer : (n e : ℕ) (owner : Owner) → n < e → owner ∷ replicate (e - (n + 1)) owner ≡ replicate (e - n) owner
one_fewer n e owner lt =
    let left : suc (e - (n + 1)) ≡ e - n = omega arith in
    ap (λ (k : ℕ). replicate k owner) left

-- one more has its owner
pub one_owned : (old new : System) (n e : ℕ) (owner : Owner) → SetsOwner old new n owner → length old.owners ≡ n → n < e
    → new.owners ++ replicate (e - (n + 1)) owner ≡ old.owners ++ replicate (e - n) owner
one_owned old new n e owner sets known lt =
    ap (λ (os : List Owner). os ++ replicate (e - (n + 1)) owner) (set_last old new n owner sets known)
    ∙ append_assoc old.owners (owner ∷ []) (replicate (e - (n + 1)) owner)
    ∙ ap (λ (os : List Owner). old.owners ++ os) (one_fewer n e owner lt)

-- and they are one more
pub one_counted : (old new : System) (n : ℕ) (owner : Owner) → SetsOwner old new n owner → length old.owners ≡ n
    → length new.owners ≡ n + 1
one_counted old new n owner sets known = sets.known ∙ ap (λ (k : ℕ). max k (n + 1)) known ∙ higher n

-- all have theirs
pub none_left : (owners : List Owner) (n e : ℕ) (owner : Owner) → n ≡ e → owners ++ replicate (e - n) owner ≡ owners
none_left owners n e owner is =
    let none : e - n ≡ 0 = omega arith in
    ap (λ (k : ℕ). owners ++ replicate k owner) none ∙ append-nil owners

module _ (types : List TypeRow) where
  -- the next skeleton
  behind : (xs : List Start) (i : ℕ) (x : Start) → i < length xs → x ≡ slice_index_or xs i x
      → map (start_in types) (drop i xs) ≡ start_in types x ∷ map (start_in types) (drop (i + 1) xs)
  behind [] i x lt is = absurd (omega arith)
  behind (y ∷ xs) zero x lt is = ap (λ (z : Start). start_in types z ∷ map (start_in types) xs) (sym is)
  behind (y ∷ xs) (suc i) x lt is =
      let e : suc i + 1 ≡ suc (i + 1) = omega arith in rw e (behind xs i x (omega arith) is)

  pub counted_next : (xs : List Start) (i : ℕ) (x : Start) → i < length xs → x ≡ slice_index_or xs i x
      → variables_among (map (start_in types) (drop i xs))
      ≡ size (start_in types x).type + variables_among (map (start_in types) (drop (i + 1) xs))
  counted_next xs i x lt is = ap variables_among (behind xs i x lt is)

  -- the variables of one skeleton more have their owner
  pub owners_next : (functions : List Place) (old new : List Owner) (xs : List Start) (i : ℕ) (x : Start)
      → i < length xs → x ≡ slice_index_or xs i x
      → new ≡ old ++ replicate (size (start_in types x).type) (owner_by functions x.owner)
      → new ++ owners_among functions (map (start_in types) (drop (i + 1) xs))
      ≡ old ++ owners_among functions (map (start_in types) (drop i xs))
  owners_next functions old new xs i x lt is owned =
      ap (λ (os : List Owner). os ++ owners_among functions (map (start_in types) (drop (i + 1) xs))) owned
      ∙ append_assoc old (replicate (size (start_in types x).type) (owner_by functions x.owner))
      (owners_among functions (map (start_in types) (drop (i + 1) xs)))
      ∙ ap (λ (ss : List rules.Start). old ++ owners_among functions ss) (sym (behind xs i x lt is))
