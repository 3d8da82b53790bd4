-- Numbers past a table, and what two words say of one thing.
use Rattle.std.proofs.Common.{◌≡◌, ℕ, suc, ◌+◌, ◌≤◌, arith, List, [], ◌∷◌, length, unwrap_or, Option, option_map, refl, ◌∙◌, ap}
use Rattle.std.proofs.lemmas.Option.{slice_get_past}
use Rattle.qual_types.specs.declared.row.VarRow.{VarRow}
use Rattle.qual_types.specs.Skel.{Skel, flat, ref, fun, no_skeleton, params_of, param_at}
use Rattle.qual_types.specs.Rows.{Seen, nothing, all_seen, skel_of}
use Rattle.row_rules.specs.Annotations.{parameters}

seen_length : (n : ℕ) (rows : List VarRow) → length (all_seen n rows) ≡ length rows
seen_length n [] = refl
seen_length n (row ∷ rows) = ap suc (seen_length (n + 1) rows)

-- past the table of variables, at the number of no variable, there is no skeleton
pub nowhere_is : (rows : List VarRow) → length rows ≤ 16777216 → skel_of rows 4294967295 ≡ no_skeleton
nowhere_is rows few =
    let e = seen_length 0 rows in
    ap (λ (o : Option Seen). (unwrap_or o nothing).tree) (slice_get_past (all_seen 0 rows) 4294967295 (omega arith))

-- what is the i-th parameter of a skeleton by one reading of its parameters is so by the other
pub same_parameters : (rows : List VarRow) (s i : ℕ) (o : Option ℕ)
    → option_map (skel_of rows) o ≡ param_at (params_of (skel_of rows s)) i
    → option_map (skel_of rows) o ≡ param_at (parameters (skel_of rows s)) i
same_parameters rows s i o is = is ∙ ap (λ ps. param_at ps i) (same (skel_of rows s))
  where
    same : (s : Skel) → params_of s ≡ parameters s
    same (flat v k) = refl
    same (ref v s) = refl
    same (fun v ps r e) = refl
