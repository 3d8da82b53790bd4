-- What rules say of pointers, by what these point at.
use Rattle.std.proofs.Common.{◌≡◌, ℕ, suc, true, false, List, [], ◌∷◌, length, Some, None, refl, ap, ◌∙◌}
use Rattle.type_table.specs.Types.{Words, CType, base, void, struct, pointer, function}
use Rattle.type_table.specs.Rows.{types_at}
use Rattle.name_rules.specs.Pieces.{is_function}
use Rattle.name_rules.specs.Values.{target, is_plain_void_pointer, points_to_function, result_type, takes, count_types}
use Rattle.expr_shapes.specs.ShapeValues.Views.{is_plain_void, result_of, takes_so_many}

-- a pointer without annotation words is a plain `void *` where it points to a plain `void`
pub plain_pointer : (t : CType) → is_plain_void_pointer (Some (pointer [] t)) ≡ is_plain_void t
plain_pointer (base ws) = refl
plain_pointer (void []) = refl
plain_pointer (void (word ∷ ws)) = refl
plain_pointer (struct ws n) = refl
plain_pointer (pointer ws t) = refl
plain_pointer (function ws ps r e) = refl

pub plain_without : (ws : Words) (t : CType) → ws ≡ [] → is_plain_void_pointer (Some (pointer ws t)) ≡ is_plain_void t
plain_without [] t e = plain_pointer t
plain_without (word ∷ ws) t e = absurd cc

pub plain_with : (ws : Words) (t : CType) → ¬ (ws ≡ []) → is_plain_void_pointer (Some (pointer ws t)) ≡ false
plain_with [] t e = absurd (e refl)
plain_with (word ∷ ws) t e = refl

-- functions

-- a pointer points to a function where its target is one
function_behind : (ws : Words) (t : CType) → points_to_function (pointer ws t) ≡ is_function t
function_behind ws (base vs) = refl
function_behind ws (void vs) = refl
function_behind ws (struct vs n) = refl
function_behind ws (pointer vs t) = refl
function_behind ws (function vs ps r e) = refl

-- a type with a target points to a function where the target is one
pub function_pointed : (v t : CType) → Some t ≡ target v → points_to_function v ≡ is_function t
function_pointed (base ws) t e = absurd cc
function_pointed (void ws) t e = absurd cc
function_pointed (struct ws n) t e = absurd cc
function_pointed (pointer ws it) t e = function_behind ws it ∙ ap is_function (let same : it ≡ t = cc in same)
function_pointed (function ws ps r es) t e = absurd cc

-- a type without a target points to no function
pub no_function : (v : CType) → None ≡ target v → points_to_function v ≡ false
no_function (base ws) e = refl
no_function (void ws) e = refl
no_function (struct ws n) e = refl
no_function (pointer ws t) e = absurd cc
no_function (function ws ps r es) e = refl

-- the result of a call of a pointer is that of its target
result_behind : (ws : Words) (t : CType) → result_type (pointer ws t) ≡ result_of t
result_behind ws (base vs) = refl
result_behind ws (void vs) = refl
result_behind ws (struct vs n) = refl
result_behind ws (pointer vs t) = refl
result_behind ws (function vs ps r e) = refl

-- the result of a call of a type with a target is that of the target
pub result_pointed : (v t : CType) → Some t ≡ target v → result_type v ≡ result_of t
result_pointed (base ws) t e = absurd cc
result_pointed (void ws) t e = absurd cc
result_pointed (struct ws n) t e = absurd cc
result_pointed (pointer ws it) t e = result_behind ws it ∙ ap result_of (let same : it ≡ t = cc in same)
result_pointed (function ws ps r es) t e = absurd cc

-- a call of a type without a target has no result
pub no_result : (v : CType) → None ≡ target v → result_type v ≡ None
no_result (base ws) e = refl
no_result (void ws) e = refl
no_result (struct ws n) e = refl
no_result (pointer ws t) e = absurd cc
no_result (function ws ps r es) e = refl

-- a pointer takes so many arguments where its target does
takes_behind : (ws : Words) (t : CType) (n : ℕ) → takes (pointer ws t) n ≡ takes_so_many t n
takes_behind ws (base vs) n = refl
takes_behind ws (void vs) n = refl
takes_behind ws (struct vs k) n = refl
takes_behind ws (pointer vs t) n = refl
takes_behind ws (function vs ps r None) n = refl
takes_behind ws (function vs ps r (Some es)) n = refl

-- a type with a target takes so many arguments where the target does
pub takes_pointed : (v t : CType) (n : ℕ) → Some t ≡ target v → takes v n ≡ takes_so_many t n
takes_pointed (base ws) t n e = absurd cc
takes_pointed (void ws) t n e = absurd cc
takes_pointed (struct ws k) t n e = absurd cc
takes_pointed (pointer ws it) t n e = takes_behind ws it n ∙
    ap (λ (x : CType). takes_so_many x n) (let same : it ≡ t = cc in same)
takes_pointed (function ws ps r es) t n e = absurd cc

-- a type without a target takes any number of arguments
pub takes_other : (v : CType) (n : ℕ) → None ≡ target v → takes v n ≡ true
takes_other (base ws) n e = refl
takes_other (void ws) n e = refl
takes_other (struct ws k) n e = refl
takes_other (pointer ws t) n e = absurd cc
takes_other (function ws ps r es) n e = refl

pub so_many : (types : List CType) (ns : List ℕ) → count_types (types_at types ns) ≡ length ns
so_many types [] = refl
so_many types (n ∷ ns) = ap suc (so_many types ns)
