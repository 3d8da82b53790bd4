-- Skeletons: a qualifier variable at each constructor of a type (Foster et al. 2006, qualified types).
use Rattle.std.specs.Prelude.{ℕ, zero, suc, ◌+◌, Bool, true, false, List, [], ◌∷◌, ◌++◌, Option, Some, None, option_and_then}
use Rattle.type_table.specs.Types.{Words, CType, base, void, struct, pointer, function, CTypes, no_types, more_types, size, sizes}
use Rattle.qual_types.specs.declared.look.Kind.{Kind}
use Rattle.qual_types.specs.declared.look.Kind.TheVariants.{Base, Void, Struct, Nothing}
use Rattle.qual_types.specs.declared.position.Step.{Step}
use Rattle.qual_types.specs.declared.position.Step.TheVariants as steps

mutual
  -- the skeleton of a type: a variable at each of its constructors
  pub data Skel : Type 0 where
    flat : ℕ → Kind → Skel
    ref : ℕ → Skel → Skel
    -- parameters, result, and the variable of the further arguments, where there may be some
    fun : ℕ → Skels → Skel → Option ℕ → Skel

  -- the skeletons of parameters
  pub data Skels : Type 0 where
    no_skels : Skels
    more_skels : Skel → Skels → Skels

-- what stands for the skeleton of what has none
abbrev pub no_skeleton : Skel
no_skeleton = flat 0 Nothing

-- the variable of the outermost constructor
abbrev pub root : Skel → ℕ
root (flat v k) = v
root (ref v s) = v
root (fun v ps r e) = v

-- what a reference holds
abbrev pub inside_of : Skel → Option Skel
inside_of (flat v k) = None
inside_of (ref v s) = Some s
inside_of (fun v ps r e) = None

-- the parameters of a function, none of what is no function
abbrev pub params_of : Skel → Skels
params_of (flat v k) = no_skels
params_of (ref v s) = no_skels
params_of (fun v ps r e) = ps

-- what a function gives
abbrev pub result_of : Skel → Option Skel
result_of (flat v k) = None
result_of (ref v s) = None
result_of (fun v ps r e) = Some r

-- the variable of a function's further arguments, where it takes some
abbrev pub ellipsis_of : Skel → Option ℕ
ellipsis_of (flat v k) = None
ellipsis_of (ref v s) = None
ellipsis_of (fun v ps r e) = e

-- the number of a struct
abbrev pub struct_of : Skel → Option ℕ
struct_of (flat v (Struct n)) = Some n
struct_of (flat v Base) = None
struct_of (flat v Void) = None
struct_of (flat v Nothing) = None
struct_of (ref v s) = None
struct_of (fun v ps r e) = None

-- the parameter of a number, counted from 0
abbrev pub param_at : Skels → ℕ → Option Skel
param_at no_skels i = None
param_at (more_skels p ps) zero = Some p
param_at (more_skels p ps) (suc i) = param_at ps i

-- the variable, where there is one
abbrev pub of_some : Option ℕ → List ℕ
of_some None = []
of_some (Some v) = v ∷ []

-- the variables of all constructors, in pre-order
abbrev mutual
  -- the variables of a skeleton, in pre-order
  pub nodes : Skel → List ℕ
  nodes (flat v k) = v ∷ []
  nodes (ref v s) = v ∷ nodes s
  nodes (fun v ps r e) = v ∷ all_nodes ps ++ (nodes r ++ of_some e)

  -- the variables of parameters
  pub all_nodes : Skels → List ℕ
  all_nodes no_skels = []
  all_nodes (more_skels s ss) = nodes s ++ all_nodes ss

-- the variables of all constructors but the outermost
abbrev pub strict_nodes : Skel → List ℕ
strict_nodes (flat v k) = []
strict_nodes (ref v s) = nodes s
strict_nodes (fun v ps r e) = all_nodes ps ++ (nodes r ++ of_some e)

-- The skeleton of a type: its constructors are numbered from n on in pre-order, a type before what it refers to, a
-- function before its parameters, its result, its ellipsis.
abbrev pub numbered_ellipsis : Option Words → ℕ → Option ℕ
numbered_ellipsis None n = None
numbered_ellipsis (Some ws) n = Some n

abbrev mutual
  -- the skeleton of a type whose variables are numbered from here on
  pub numbered : CType → ℕ → Skel
  numbered (base ws) n = flat n Base
  numbered (void ws) n = flat n Void
  numbered (struct ws s) n = flat n (Struct s)
  numbered (pointer ws t) n = ref n (numbered t (n + 1))
  numbered (function ws ps r e) n =
      fun n (all_numbered ps (n + 1)) (numbered r (n + 1 + sizes ps)) (numbered_ellipsis e (n + 1 + sizes ps + size r))

  -- the skeletons of parameters, numbered from here on
  pub all_numbered : CTypes → ℕ → Skels
  all_numbered no_types n = no_skels
  all_numbered (more_types t ts) n = more_skels (numbered t n) (all_numbered ts (n + size t))

-- a type, or a reference to it
abbrev pub within : Bool → CType → CType
within true t = pointer [] t
within false t = t

-- a path that ends at a variable
abbrev pub ended : List Step → Option ℕ → Option ℕ
ended [] e = e
ended (s ∷ p) e = None

-- The variable that a path leads to from the outside; none where some constructor on the way has no such part.
abbrev pub follow : List Step → Skel → Option ℕ
follow [] s = Some (root s)
follow (steps.Inside ∷ p) (flat v k) = None
follow (steps.Inside ∷ p) (ref v s) = follow p s
follow (steps.Inside ∷ p) (fun v ps r e) = None
follow (steps.Param i ∷ p) (flat v k) = None
follow (steps.Param i ∷ p) (ref v s) = None
follow (steps.Param i ∷ p) (fun v ps r e) = option_and_then (follow p) (param_at ps i)
follow (steps.Result ∷ p) (flat v k) = None
follow (steps.Result ∷ p) (ref v s) = None
follow (steps.Result ∷ p) (fun v ps r e) = follow p r
follow (steps.Ellipsis ∷ p) (flat v k) = None
follow (steps.Ellipsis ∷ p) (ref v s) = None
follow (steps.Ellipsis ∷ p) (fun v ps r e) = ended p e
