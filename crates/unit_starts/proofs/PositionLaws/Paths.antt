-- A path to a variable of a skeleton that is numbered is the one in the list of paths.
use Rattle.std.proofs.Common.{◌≡◌, ℕ, zero, suc, ◌+◌, List, [], ◌∷◌, ◌++◌, length, slice_get, Option, None, Some, refl, sym, ◌∙◌, ap, arith, subst, length-append}
use Rattle.type_table.specs.Types.{CType, base, void, struct, pointer, function, CTypes, no_types, more_types, Words, size, sizes, one_for}
use Rattle.qual_types.specs.declared.position.Step.{Step}
use Rattle.qual_types.specs.declared.position.Step.TheVariants as steps
use Rattle.std.specs.Option.{option_and_then}
use Rattle.qual_base.proofs.Lists.{get_left}
use Rattle.qual_types.specs.Skel.{numbered, all_numbered, numbered_ellipsis, follow, ended, param_at}
use Rattle.unit_starts.specs.PositionLaws.Positions.{behind, ellipsis_paths, paths, param_paths}

-- lists

-- behind the length of the first of two lists stand the elements of the second
pub get_right : {A : Type 0} (xs ys : List A) (n : ℕ) → slice_get (xs ++ ys) (length xs + n) ≡ slice_get ys n
get_right [] ys n = let e : 0 + n ≡ n = omega arith in ap (λ (m : ℕ). slice_get ys m) e
get_right (y ∷ xs) ys n =
    let e : length (y ∷ xs) + n ≡ suc (length xs + n) = omega arith in
    ap (λ (m : ℕ). slice_get (y ∷ (xs ++ ys)) m) e ∙ get_right xs ys n

-- the n-th of paths with one step before each is the n-th path with this step before it
pub get_behind : (step : Step) (ps : List (List Step)) (n : ℕ) (p : List Step) → slice_get ps n ≡ Some p
    → slice_get (behind step ps) n ≡ Some (step ∷ p)
get_behind step [] n p e = absurd cc
get_behind step (q ∷ ps) zero p e = let same : q ≡ p = cc in ap (λ r. Some (step ∷ r)) same
get_behind step (q ∷ ps) (suc n) p e = get_behind step ps n p e

pub behind_length : (step : Step) (ps : List (List Step)) → length (behind step ps) ≡ length ps
behind_length step [] = refl
behind_length step (p ∷ ps) = ap suc (behind_length step ps)

-- there are as many paths as constructors

ellipsis_counted : (e : Option Words) → length (ellipsis_paths e) ≡ one_for e
ellipsis_counted None = refl
ellipsis_counted (Some ws) = refl

mutual
  pub counted : (t : CType) → length (paths t) ≡ size t
  counted (base ws) = refl
  counted (void ws) = refl
  counted (struct ws n) = refl
  counted (pointer ws t) =
      let a : length (behind steps.Inside (paths t)) ≡ length (paths t) = behind_length steps.Inside (paths t) in
      let b : length (paths t) ≡ size t = counted t in
      omega arith
  counted (function ws ps r e) =
      let a : length (param_paths 0 ps ++ (behind steps.Result (paths r) ++ ellipsis_paths e))
      ≡ length (param_paths 0 ps) + length (behind steps.Result (paths r) ++ ellipsis_paths e)
      = length-append (param_paths 0 ps) (behind steps.Result (paths r) ++ ellipsis_paths e) in
      let b : length (behind steps.Result (paths r) ++ ellipsis_paths e)
      ≡ length (behind steps.Result (paths r)) + length (ellipsis_paths e)
      = length-append (behind steps.Result (paths r)) (ellipsis_paths e) in
      let c : length (param_paths 0 ps) ≡ sizes ps = all_counted ps 0 in
      let d : length (behind steps.Result (paths r)) ≡ length (paths r) = behind_length steps.Result (paths r) in
      let f : length (paths r) ≡ size r = counted r in
      let g : length (ellipsis_paths e) ≡ one_for e = ellipsis_counted e in
      omega arith

  pub all_counted : (ts : CTypes) (i : ℕ) → length (param_paths i ts) ≡ sizes ts
  all_counted no_types i = refl
  all_counted (more_types t ts) i =
      let a : length (behind (steps.Param i) (paths t) ++ param_paths (suc i) ts)
      ≡ length (behind (steps.Param i) (paths t)) + length (param_paths (suc i) ts)
      = length-append (behind (steps.Param i) (paths t)) (param_paths (suc i) ts) in
      let b : length (behind (steps.Param i) (paths t)) ≡ length (paths t) = behind_length (steps.Param i) (paths t) in
      let c : length (paths t) ≡ size t = counted t in
      let d : length (param_paths (suc i) ts) ≡ sizes ts = all_counted ts (suc i) in
      omega arith

-- the path of a variable, so many behind the first
pub record IsAt (ps : List (List Step)) (first v : ℕ) (p : List Step) : Type 0 where
  pub offset : ℕ
  pub is : v ≡ first + offset
  pub there : slice_get ps offset ≡ Some p

first_at : (ps : List (List Step)) (n v : ℕ) → Some n ≡ Some v → IsAt ([] ∷ ps) n v []
first_at ps n v e = let same : n ≡ v = cc in record { offset = 0; is = omega arith; there = refl }

-- behind a first path, and so many more
later_at : (ps : List (List Step)) (n v : ℕ) (p : List Step) → IsAt ps (n + 1) v p → IsAt ([] ∷ ps) n v p
later_at ps n v p it = let e : v ≡ n + 1 + it.offset = it.is in
    record { offset = suc it.offset; is = omega arith; there = it.there }

inside_at : (step : Step) (ps : List (List Step)) (n v : ℕ) (p : List Step) → IsAt ps n v p
    → IsAt (behind step ps) n v (step ∷ p)
inside_at step ps n v p it = record { offset = it.offset; is = it.is; there = get_behind step ps it.offset p it.there }

left_at : (ps qs : List (List Step)) (n v : ℕ) (p : List Step) → IsAt ps n v p → IsAt (ps ++ qs) n v p
left_at ps qs n v p it = record { offset = it.offset; is = it.is; there = get_left ps qs it.offset p it.there }

-- a path that is at a variable in the second of two lists is so in both together, numbered behind the first
right_at : (ps qs : List (List Step)) (n m v : ℕ) (p : List Step) → m ≡ n + length ps → IsAt qs m v p
    → IsAt (ps ++ qs) n v p
right_at ps qs n m v p e it =
    record {
      offset = length ps + it.offset;
      is = let a : v ≡ m + it.offset = it.is in omega arith;
      there = get_right ps qs it.offset ∙ it.there;
    }

-- a path to the variable of further arguments is the one path of an ellipsis
ellipsis_at : (e : Option Words) (p : List Step) (n v : ℕ) → ended p (numbered_ellipsis e n) ≡ Some v
    → IsAt (ellipsis_paths e) n v (steps.Ellipsis ∷ p)
ellipsis_at None [] n v e = absurd cc
ellipsis_at None (s ∷ p) n v e = absurd cc
ellipsis_at (Some ws) [] n v e = let same : n ≡ v = cc in record { offset = 0; is = omega arith; there = refl }
ellipsis_at (Some ws) (s ∷ p) n v e = absurd cc

mutual
  pub found : (t : CType) (n : ℕ) (p : List Step) (v : ℕ) → follow p (numbered t n) ≡ Some v → IsAt (paths t) n v p
  found (base ws) n [] v e = first_at [] n v e
  found (base ws) n (steps.Inside ∷ p) v e = absurd cc
  found (base ws) n (steps.Param i ∷ p) v e = absurd cc
  found (base ws) n (steps.Result ∷ p) v e = absurd cc
  found (base ws) n (steps.Ellipsis ∷ p) v e = absurd cc
  found (void ws) n [] v e = first_at [] n v e
  found (void ws) n (steps.Inside ∷ p) v e = absurd cc
  found (void ws) n (steps.Param i ∷ p) v e = absurd cc
  found (void ws) n (steps.Result ∷ p) v e = absurd cc
  found (void ws) n (steps.Ellipsis ∷ p) v e = absurd cc
  found (struct ws s) n [] v e = first_at [] n v e
  found (struct ws s) n (steps.Inside ∷ p) v e = absurd cc
  found (struct ws s) n (steps.Param i ∷ p) v e = absurd cc
  found (struct ws s) n (steps.Result ∷ p) v e = absurd cc
  found (struct ws s) n (steps.Ellipsis ∷ p) v e = absurd cc
  found (pointer ws t) n [] v e = first_at (behind steps.Inside (paths t)) n v e
  found (pointer ws t) n (steps.Inside ∷ p) v e =
      later_at (behind steps.Inside (paths t)) n v (steps.Inside ∷ p)
      (inside_at steps.Inside (paths t) (n + 1) v p (found t (n + 1) p v e))
  found (pointer ws t) n (steps.Param i ∷ p) v e = absurd cc
  found (pointer ws t) n (steps.Result ∷ p) v e = absurd cc
  found (pointer ws t) n (steps.Ellipsis ∷ p) v e = absurd cc
  found (function ws ps r e) n [] v is =
      first_at (param_paths 0 ps ++ (behind steps.Result (paths r) ++ ellipsis_paths e)) n v is
  found (function ws ps r e) n (steps.Inside ∷ p) v is = absurd cc
  found (function ws ps r e) n (steps.Param i ∷ p) v is =
      later_at (param_paths 0 ps ++ (behind steps.Result (paths r) ++ ellipsis_paths e)) n v (steps.Param i ∷ p)
      (left_at (param_paths 0 ps) (behind steps.Result (paths r) ++ ellipsis_paths e) (n + 1) v (steps.Param i ∷ p)
      (let At : ℕ → Type 0 = λ m. IsAt (param_paths 0 ps) (n + 1) v (steps.Param m ∷ p) in
      let e : 0 + i ≡ i = omega arith in
      subst At e (found_param ps 0 i (n + 1) p v is)))
  found (function ws ps r e) n (steps.Result ∷ p) v is =
      later_at (param_paths 0 ps ++ (behind steps.Result (paths r) ++ ellipsis_paths e)) n v (steps.Result ∷ p)
      (right_at (param_paths 0 ps) (behind steps.Result (paths r) ++ ellipsis_paths e) (n + 1) (n + 1 + sizes ps) v
      (steps.Result ∷ p)
      (ap (λ (m : ℕ). n + 1 + m) (sym (all_counted ps 0)))
      (left_at (behind steps.Result (paths r)) (ellipsis_paths e) (n + 1 + sizes ps) v (steps.Result ∷ p)
      (inside_at steps.Result (paths r) (n + 1 + sizes ps) v p (found r (n + 1 + sizes ps) p v is))))
  found (function ws ps r e) n (steps.Ellipsis ∷ p) v is =
      later_at (param_paths 0 ps ++ (behind steps.Result (paths r) ++ ellipsis_paths e)) n v (steps.Ellipsis ∷ p)
      (right_at (param_paths 0 ps) (behind steps.Result (paths r) ++ ellipsis_paths e) (n + 1) (n + 1 + sizes ps) v
      (steps.Ellipsis ∷ p)
      (ap (λ (m : ℕ). n + 1 + m) (sym (all_counted ps 0)))
      (right_at (behind steps.Result (paths r)) (ellipsis_paths e) (n + 1 + sizes ps) (n + 1 + sizes ps + size r) v
      (steps.Ellipsis ∷ p)
      (ap (λ (m : ℕ). n + 1 + sizes ps + m) (sym (behind_length steps.Result (paths r) ∙ counted r)))
      (ellipsis_at e p (n + 1 + sizes ps + size r) v is)))

  -- parameter i of those from j on
  found_param : (ts : CTypes) (j i n : ℕ) (p : List Step) (v : ℕ)
      → option_and_then (follow p) (param_at (all_numbered ts n) i) ≡ Some v
      → IsAt (param_paths j ts) n v (steps.Param (j + i) ∷ p)
  found_param no_types j i n p v e = absurd cc
  found_param (more_types t ts) j zero n p v e =
      let At : ℕ → Type 0 =
      λ m. IsAt (behind (steps.Param j) (paths t) ++ param_paths (suc j) ts) n v (steps.Param m ∷ p) in
      let same : j ≡ j + 0 = omega arith in
      subst At same (left_at (behind (steps.Param j) (paths t)) (param_paths (suc j) ts) n v (steps.Param j ∷ p)
      (inside_at (steps.Param j) (paths t) n v p (found t n p v e)))
  found_param (more_types t ts) j (suc i) n p v e =
      right_at (behind (steps.Param j) (paths t)) (param_paths (suc j) ts) n (n + size t) v
      (steps.Param (j + suc i) ∷ p)
      (ap (λ (m : ℕ). n + m) (sym (behind_length (steps.Param j) (paths t) ∙ counted t)))
      (let At : ℕ → Type 0 = λ m. IsAt (param_paths (suc j) ts) (n + size t) v (steps.Param m ∷ p) in
      let same : suc j + i ≡ j + suc i = omega arith in
      subst At same (found_param ts (suc j) i (n + size t) p v e))
