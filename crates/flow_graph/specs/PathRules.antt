-- The rules of path proofs, each a test of a step with the steps around it.
use Rattle.std.specs.Prelude.{ℕ, Bool, true, false, not, ◌&&◌, ◌||◌, ◌==◌, Option, Some, None, if◌then◌else◌}
use Rattle.std.specs.Int.{bit_at}
use Rattle.qual_base.specs.declared.places.Owner.{Owner}
use Rattle.qual_base.specs.declared.places.Owner.TheVariants.{Function}
use Rattle.lattice_core.specs.Order.{Order, leq}
use Rattle.flow_graph.specs.declared.constraint.Link.{Link}
use Rattle.flow_graph.specs.declared.constraint.Link.TheVariants.{Le, Const, Bound, Enter, Leave}
use Rattle.flow_graph.specs.declared.proof.Why.{Why}
use Rattle.flow_graph.specs.declared.proof.Why.TheVariants.{B1, B2, B3, B4, B5, B6, B7}
use Rattle.flow_graph.specs.declared.step.Seen.{Seen}
use Rattle.flow_graph.specs.declared.step.Seen.TheVariants.{Edge, Through, NoSub, NoEdge}
use Rattle.flow_graph.specs.declared.step.Path.{Path}
use Rattle.flow_graph.specs.declared.step.Path.TheVariants.{Main, Sub}
use Rattle.flow_graph.specs.declared.step.StepInPath.{StepInPath}
use Rattle.flow_graph.specs.System.{System, owner_of}

-- the variable where a link begins; a constant begins at none
abbrev pub link_begins : Link → Option ℕ
link_begins (Le u v) = Some u
link_begins (Const l e v) = None
link_begins (Bound u l e) = Some u
link_begins (Enter s u v) = Some u
link_begins (Leave s u v) = Some u

-- the variable where a link ends, of a bound the one that is bounded
abbrev pub link_ends : Link → ℕ
link_ends (Le u v) = v
link_ends (Const l e v) = v
link_ends (Bound u l e) = u
link_ends (Enter s u v) = v
link_ends (Leave s u v) = v

-- the variable where a step begins, where there is one
abbrev pub begins : Seen → Option ℕ
begins (Edge c) = link_begins c.link
begins (Through u v) = Some u
begins NoSub = None
begins NoEdge = None

-- the variable where a step ends, where there is one
abbrev pub ends : Seen → Option ℕ
ends (Edge c) = Some (link_ends c.link)
ends (Through u v) = Some v
ends NoSub = None
ends NoEdge = None

-- whether a link is a constant
abbrev pub is_const_link : Link → Bool
is_const_link (Const l e v) = true
is_const_link _ = false

-- whether a link is a bound
abbrev pub is_bound_link : Link → Bool
is_bound_link (Bound u l e) = true
is_bound_link _ = false

-- whether a step is a constant
abbrev pub is_const : Seen → Bool
is_const (Edge c) = is_const_link c.link
is_const _ = false

-- whether a step is a bound
abbrev pub is_bound : Seen → Bool
is_bound (Edge c) = is_bound_link c.link
is_bound _ = false

-- whether a step is the number of a sub-path, also of one that is not there
abbrev pub is_sub : Seen → Bool
is_sub (Through u v) = true
is_sub NoSub = true
is_sub _ = false

-- the site that a link enters, where it is a call
abbrev pub enters_link : Link → Option ℕ
enters_link (Enter s u v) = Some s
enters_link _ = None

-- the site that a link leaves, where it is a return
abbrev pub leaves_link : Link → Option ℕ
leaves_link (Leave s u v) = Some s
leaves_link _ = None

-- the site that a step enters, where it is a call
abbrev pub enters : Seen → Option ℕ
enters (Edge c) = enters_link c.link
enters _ = None

-- the site that a step leaves, where it is a return
abbrev pub leaves : Seen → Option ℕ
leaves (Edge c) = leaves_link c.link
leaves _ = None

-- whether there is something
abbrev pub is_there : {A : Type 0} → Option A → Bool
is_there (Some x) = true
is_there None = false

-- whether there is a step, and the test holds of it
abbrev pub holds_of : Option Seen → (Seen → Bool) → Bool
holds_of (Some x) test = test x
holds_of None test = false

-- both are there and are one number
abbrev pub agree : Option ℕ → Option ℕ → Bool
agree (Some a) (Some b) = a == b
agree _ _ = false

-- both are there and are two numbers
abbrev pub differ : Option ℕ → Option ℕ → Bool
differ (Some a) (Some b) = not (a == b)
differ _ _ = false

-- the site that a step enters, where there is a step and it is a call
abbrev pub site_entered : Option Seen → Option ℕ
site_entered (Some x) = enters x
site_entered None = None

-- the variable where a step ends, where there is a step
abbrev pub end_of : Option Seen → Option ℕ
end_of (Some x) = ends x
end_of None = None

-- whether a path is the main one, as opposed to a sub-path
abbrev pub is_main : Path → Bool
is_main Main = true
is_main (Sub o) = false

-- An Enter begins a group exactly where the next step is a sub-path or a Leave of its site.
unfoldable pub begins_group : Seen → Option Seen → Bool
begins_group step after = holds_of after (λ x. is_sub x || agree (enters step) (leaves x))

-- the step right after a group's sub-path counts as inside the group
unfoldable pub is_after_sub : StepInPath → Bool
is_after_sub p = holds_of p.one_before is_sub && is_there (site_entered p.two_before)

-- a Leave right after the Enter of its group
unfoldable pub closes : StepInPath → Bool
closes p = agree (site_entered p.one_before) (leaves p.step)

-- an Enter that begins no group and is not right behind a sub-path of one
unfoldable pub is_unmatched_enter : StepInPath → Bool
is_unmatched_enter p = is_there (enters p.step) && not (begins_group p.step p.one_after) && not (is_after_sub p)

-- a Leave that closes no group
unfoldable pub is_unmatched_leave : StepInPath → Bool
is_unmatched_leave p = is_there (leaves p.step) && not (closes p) && not (is_after_sub p)

-- Rule B1: the step is none that may stand there. Here: it names no constraint that there is.
abbrev pub is_unknown : Seen → Bool
is_unknown NoEdge = true
is_unknown _ = false

-- the first step of the main path, where it is not a constant
unfoldable pub is_headless : StepInPath → Bool
is_headless p = is_main p.path && not (is_there p.one_before) && not (is_const p.step)

-- a later constant of the main path, or one in a sub-path
unfoldable pub is_late_const : StepInPath → Bool
is_late_const p = is_const p.step && not (is_main p.path && not (is_there p.one_before))

-- a bound in a sub-path
unfoldable pub is_stray_bound : StepInPath → Bool
is_stray_bound p = is_bound p.step && not (is_main p.path)

-- an unmatched Leave after an unmatched Enter, with no variable of nobody since that Enter
unfoldable pub is_late_return : StepInPath → Bool
is_late_return p = is_main p.path && is_unmatched_leave p && p.in_call

-- an unmatched Enter or Leave in a sub-path
unfoldable pub is_unmatched_in_sub : StepInPath → Bool
is_unmatched_in_sub p = not (is_main p.path) && (is_unmatched_enter p || is_unmatched_leave p)

-- a sub-path's number outside a group
unfoldable pub is_loose_sub : StepInPath → Bool
is_loose_sub p = is_sub p.step && not (is_there (site_entered p.one_before)) && not (is_after_sub p)

-- a step after a bound
unfoldable pub follows_bound : StepInPath → Bool
follows_bound p = holds_of p.one_before is_bound

-- whether rule B1 fails at a step
unfoldable pub fails_b1 : StepInPath → Bool
fails_b1 p =
    is_unknown p.step || is_headless p || is_late_const p || is_stray_bound p || is_late_return p
    || is_unmatched_in_sub p || is_loose_sub p || follows_bound p

-- Rule B2: the step does not begin at the variable where the one before ended.
unfoldable pub fails_b2 : StepInPath → Bool
fails_b2 p = differ (end_of p.one_before) (begins p.step)

-- Rule B3: the step after a group's sub-path is not a Leave of the site of the group's Enter, or there is none.
unfoldable pub fails_b3 : StepInPath → Bool
fails_b3 p =
    is_after_sub p && not (agree (site_entered p.two_before) (leaves p.step))
    || is_sub p.step && not (is_there p.one_after)

-- Rule B4: the number is not that of an earlier sub-path that has steps.
abbrev pub is_missing : Seen → Bool
is_missing NoSub = true
is_missing _ = false

-- Rule B5: a variable of a sub-path's own parts does not have its one owner, which is a function.
-- Here: whether two owners are one function.
abbrev pub is_owned_by : Owner → Owner → Bool
is_owned_by (Function f) (Function g) = f == g
is_owned_by _ _ = false

-- whether a variable does not belong to the owner of the sub-path; in the main path none has to
abbrev pub lacks : System → Path → ℕ → Bool
lacks sys Main v = false
lacks sys (Sub home) v = not (is_owned_by home (owner_of sys v))

-- whether a link of a path has a variable of its own that does not belong to the path's owner
abbrev pub is_foreign_link : System → Path → Link → Bool
is_foreign_link sys path (Le u v) = lacks sys path u || lacks sys path v
is_foreign_link sys path (Enter s u v) = lacks sys path u
is_foreign_link sys path (Leave s u v) = lacks sys path v
is_foreign_link sys path (Const l e v) = false
is_foreign_link sys path (Bound v l e) = false

-- whether a step breaks rule B5
abbrev pub is_foreign : System → Path → Seen → Bool
is_foreign sys path (Edge c) = is_foreign_link sys path c.link
is_foreign sys path _ = false

-- Rule B6: the step is not in the lattice of the main path's constant.
abbrev pub is_outside_link : ℕ → Link → ℕ → Bool
is_outside_link lattice (Le u v) mask = not (bit_at mask lattice == 1)
is_outside_link lattice (Const named e v) mask = not (named == lattice)
is_outside_link lattice (Bound v named e) mask = not (named == lattice)
is_outside_link lattice (Enter s u v) mask = not (bit_at mask lattice == 1)
is_outside_link lattice (Leave s u v) mask = not (bit_at mask lattice == 1)

-- whether a step breaks rule B6
abbrev pub is_outside : ℕ → Seen → Bool
is_outside lattice (Edge c) = is_outside_link lattice c.link c.lattices
is_outside lattice _ = false

-- Rule B7: the constant's element is at or below the bound's.
abbrev pub is_kept_link : Order → ℕ → Link → Bool
is_kept_link order elem (Bound u l b) = leq order elem b
is_kept_link order elem _ = false

-- whether a step breaks rule B7: it is a bound that the element keeps
abbrev pub is_kept : Order → ℕ → Seen → Bool
is_kept order elem (Edge c) = is_kept_link order elem c.link
is_kept order elem _ = false

-- the first rule that fails at a step
unfoldable pub rule_at : System → Order → StepInPath → Option Why
rule_at sys order p =
    if fails_b1 p then Some B1
    else if fails_b2 p then Some B2
    else if fails_b3 p then Some B3
    else if is_missing p.step then Some B4
    else if is_foreign sys p.path p.step then Some B5
    else if is_outside p.lattice p.step then Some B6
    else if is_kept order p.elem p.step then Some B7
    else None
