-- The list of an initialiser in braces, gone through once more: what each item initialises.
use Rattle.std.proofs.Common.{◌≡◌, ℕ, Bool, true, false, List, [], ◌∷◌, Option, None, Some, refl, ◌∙◌, ap}
use Rattle.std.proofs.lemmas.List.{append-nil}
use Rattle.flow_graph.specs.declared.constraint.Constraint.{Constraint}
use Rattle.tape_ops.specs.declared.op.Op.{Op}
use Rattle.c_tree.specs.Ends.{first_token, last_token}
use Rattle.c_tree.specs.Tree.{Expr, Init, init_value, init_braced, InitList, init_list, InitItems, no_init_items, more_init_items, Desigs, no_desigs, more_desigs, Desig, member_desig, index_desig, range_desig, old_desig}
use Rattle.c_tape.specs.Tape.{desig_tape, desigs_tape, rule, rule_of_list, rule_of_items}
use Rattle.qual_types.specs.declared.look.Kind.TheVariants as kinds
use Rattle.qual_types.specs.Skel.{Skel, flat, ref, fun}
use Rattle.row_rules.specs.Worlds.{span}
use Rattle.constraint_rules.specs.Demands.{desig_skel, desigs_skel, item_skel, next_behind, items_rule}
use Rattle.constraint_rules.specs.Demands as demands
use Rattle.row_rules.specs.RowSteps.Rounds.{Rounds, is_quiet}
use Rattle.row_rules.specs.RowSteps.State.{Operand, Braces, untargeted, listed, State}
use Rattle.row_rules.specs.RowSteps.OpRows.{into_target}
use Rattle.row_rules.specs.RowSteps.Steps.{target_in, list_of, with_item}
use Rattle.row_laws.proofs.Goes.{Registers, Over, unless, Stacks, state, Runs, stay, op_runs, chain, started_from, giving, ending}
use Rattle.row_laws.proofs.Stacks.{operand_of, taken, taken_in, taken_of}

-- stacks, with the operands that are left for what comes behind, and the registers
pub record Ruled : Type 0 where
  pub core : Stacks
  pub rest : List Operand
  pub registers : Registers

-- in the midst of an initialiser in braces
abbrev pub ruling : Rounds → Braces → (List Operand → List Operand) → Ruled → Registers → State
ruling r it q a s = record (state r a.core a.registers) { braces = it ∷ a.core.braces; leaves = q a.rest }

-- what runs in an initialiser in braces runs from any state that stands for its stacks and what is left
pub ruled_from : {k : Over} {quiet : Bool} {B : Type 0} {tape : List Op} {r : Rounds} {it it2 : Braces}
    {rows : List Constraint} (q q2 : List Operand → List Operand) (m : B → Registers → Ruled) →
    Runs k quiet Ruled tape (ruling r it q) (ruling r it2 q2) rows
    → Runs k quiet B tape (λ b s. ruling r it q (m b s) s) (λ b s. ruling r it2 q2 (m b s) s) rows
ruled_from q q2 m p =
    record {
      behind = λ b s. s;
      goes = λ b s. p.goes (m b s) s;
      found = λ y b s. p.found y (m b s) s;
    }

abbrev pub left : List Operand → List Operand
left rest = rest

-- deeper in braces, or before further items
abbrev deeper : Braces → Ruled → Ruled
deeper it a = record a { core = record (a.core) { braces = it ∷ a.core.braces } }

module _ (k : Over) (r : Rounds) where
  abbrev before : InitItems → Ruled → Ruled
  before items a = record a { rest = taken_of k items a.rest }

  -- designators

  desig_untargeted : (d : Desig) (q : List Operand → List Operand) →
      Runs k (is_quiet r) Ruled (desig_tape d) (ruling r untargeted q) (ruling r untargeted q) []
  desig_untargeted (member_desig dot name) q = op_runs [] (λ y a s. refl)
  desig_untargeted (index_desig opening e closing) q = op_runs [] (λ y a s. refl)
  desig_untargeted (range_desig opening e dots e2 closing) q = op_runs [] (λ y a s. refl)
  desig_untargeted (old_desig name colon) q = op_runs [] (λ y a s. refl)

  desigs_untargeted : (ds : Desigs) (q : List Operand → List Operand) →
      Runs k (is_quiet r) Ruled (desigs_tape ds) (ruling r untargeted q) (ruling r untargeted q) []
  desigs_untargeted no_desigs q = stay
  desigs_untargeted (more_desigs d ds) q = chain (desig_untargeted d q) (desigs_untargeted ds q)

  desig_further : (d : Desig) (t : Skel) (is_first : Bool) (next : ℕ) (now : Skel) (q : List Operand → List Operand) →
      Runs k (is_quiet r) Ruled (desig_tape d) (ruling r (listed t is_first next (Some now)) q)
      (ruling r (listed t is_first next (Some (desig_skel k.world now d))) q) []
  desig_further (member_desig dot name) t is_first next now q = op_runs [] (λ y a s. refl)
  desig_further (index_desig opening e closing) t is_first next now q = op_runs [] (λ y a s. refl)
  desig_further (range_desig opening e dots e2 closing) t is_first next now q = op_runs [] (λ y a s. refl)
  desig_further (old_desig name colon) t is_first next now q = op_runs [] (λ y a s. refl)

  desigs_further : (ds : Desigs) (t : Skel) (is_first : Bool) (next : ℕ) (now : Skel)
      (q : List Operand → List Operand) →
      Runs k (is_quiet r) Ruled (desigs_tape ds) (ruling r (listed t is_first next (Some now)) q)
      (ruling r (listed t is_first next (Some (desigs_skel k.world now ds))) q) []
  desigs_further no_desigs t is_first next now q = stay
  desigs_further (more_desigs d ds) t is_first next now q =
      chain (desig_further d t is_first next now q)
      (desigs_further ds t is_first next (desig_skel k.world now d) q)

  -- a list behind the designators of an item
  abbrev behind_desigs : Skel → Bool → ℕ → Desigs → Braces
  behind_desigs t is_first next no_desigs = listed t is_first next None
  behind_desigs t is_first next (more_desigs d ds) =
      listed t is_first (next_behind k.world t (more_desigs d ds) next)
      (Some (desigs_skel k.world t (more_desigs d ds)))

  desigs_listed : (ds : Desigs) (t : Skel) (is_first : Bool) (next : ℕ) (q : List Operand → List Operand) →
      Runs k (is_quiet r) Ruled (desigs_tape ds) (ruling r (listed t is_first next None) q)
      (ruling r (behind_desigs t is_first next ds) q) []
  desigs_listed no_desigs t is_first next q = stay
  desigs_listed (more_desigs (member_desig dot name) ds) t is_first next q =
      chain (op_runs [] (λ y a s. refl)) (desigs_further ds t is_first _ _ q)
  desigs_listed (more_desigs (index_desig opening e closing) ds) t is_first next q =
      chain (op_runs [] (λ y a s. refl)) (desigs_further ds t is_first _ _ q)
  desigs_listed (more_desigs (range_desig opening e dots e2 closing) ds) t is_first next q =
      chain (op_runs [] (λ y a s. refl)) (desigs_further ds t is_first _ _ q)
  desigs_listed (more_desigs (old_desig name colon) ds) t is_first next q =
      chain (op_runs [] (λ y a s. refl)) (desigs_further ds t is_first _ _ q)

  target_behind : (ds : Desigs) (t : Skel) (is_first : Bool) (next : ℕ) →
      target_in k.world (behind_desigs t is_first next ds) ≡ item_skel k.world t is_first next ds
  target_behind no_desigs (ref v s) is_first next = refl
  target_behind no_desigs (flat v (kinds.Struct n)) is_first next = refl
  target_behind no_desigs (flat v kinds.Base) is_first next = refl
  target_behind no_desigs (flat v kinds.Void) is_first next = refl
  target_behind no_desigs (flat v kinds.Nothing) is_first next = refl
  target_behind no_desigs (fun v ps result e) is_first next = refl
  target_behind (more_desigs d ds) (ref v s) is_first next = refl
  target_behind (more_desigs d ds) (flat v (kinds.Struct n)) is_first next = refl
  target_behind (more_desigs d ds) (flat v kinds.Base) is_first next = refl
  target_behind (more_desigs d ds) (flat v kinds.Void) is_first next = refl
  target_behind (more_desigs d ds) (flat v kinds.Nothing) is_first next = refl
  target_behind (more_desigs d ds) (fun v ps result e) is_first next = refl

  item_behind : (ds : Desigs) (t : Skel) (is_first : Bool) (next : ℕ) →
      with_item (behind_desigs t is_first next ds) ≡ listed t false (next_behind k.world t ds next) None
  item_behind no_desigs t is_first next = refl
  item_behind (more_desigs d ds) t is_first next = refl

  -- lists

  abbrev behind_items : Skel → Bool → ℕ → InitItems → Braces
  behind_items t is_first next no_init_items = listed t is_first next None
  behind_items t is_first next (more_init_items ds equal init items) =
      behind_items t false (next_behind k.world t ds next) items

  abbrev behind_all : Option Skel → InitItems → Braces
  behind_all None items = untargeted
  behind_all (Some t) items = behind_items t true 0 items

  abbrev all_rows : Option Skel → InitItems → List Constraint
  all_rows None items = []
  all_rows (Some t) items = items_rule k.world t true 0 items

  same_all : (t : Option Skel) (opening : ℕ) (items : InitItems) (last : Option ℕ) (closing : ℕ) →
      all_rows t items ≡ demands.rule k.world t (init_braced (init_list opening items last closing))
  same_all None opening items last closing = refl
  same_all (Some t) opening items last closing = refl

  items_run : (items : InitItems) (t : Option Skel)
      → Runs k (is_quiet r) Ruled (rule_of_items items) (ruling r untargeted (taken_of k items))
      (ruling r untargeted left) []
      → ((t : Skel) → Runs k (is_quiet r) Ruled (rule_of_items items)
      (ruling r (listed t true 0 None) (taken_of k items)) (ruling r (behind_items t true 0 items) left)
      (items_rule k.world t true 0 items))
      → Runs k (is_quiet r) Ruled (rule_of_items items) (ruling r (list_of t) (taken_of k items))
      (ruling r (behind_all t items) left) (all_rows t items)
  items_run items None p q = p
  items_run items (Some t) p q = q t

  item_runs : (i : Init) (t : Skel) (is_first : Bool) (next : ℕ) (ds : Desigs)
      → Runs k (is_quiet r) Ruled (rule i) (ruling r (behind_desigs t is_first next ds) (taken k i))
      (ruling r (with_item (behind_desigs t is_first next ds)) left)
      (demands.rule k.world (target_in k.world (behind_desigs t is_first next ds)) i)
      → Runs k (is_quiet r) Ruled (rule i) (ruling r (behind_desigs t is_first next ds) (taken k i))
      (ruling r (listed t false (next_behind k.world t ds next) None) left)
      (demands.rule k.world (item_skel k.world t is_first next ds) i)
  item_runs i t is_first next ds p =
      ending _ (giving p (λ y. ap (λ (it : Option Skel). demands.rule k.world it i)
      (target_behind ds t is_first next)))
      (λ a s. ap (λ (it : Braces). ruling r it left a s) (item_behind ds t is_first next))

  pub leaf_row : (e : Expr) (t : Option Skel) →
      into_target k.world t (operand_of k e) (span k.world (first_token e) (last_token e)) ≡
      demands.rule k.world t (init_value e)
  leaf_row e None = refl
  leaf_row e (Some t) = refl

  mutual
    pub rule_runs : (i : Init) (it : Braces) →
        Runs k (is_quiet r) Ruled (rule i) (ruling r it (taken k i)) (ruling r (with_item it) left)
        (demands.rule k.world (target_in k.world it) i)
    rule_runs (init_value e) it =
        op_runs (demands.rule k.world (target_in k.world it) (init_value e))
        (λ y a s. ap (unless (is_quiet r)) (leaf_row e (target_in k.world it)))
    rule_runs (init_braced list) it = list_runs list it

    pub list_runs : (list : InitList) (it : Braces) →
        Runs k (is_quiet r) Ruled (rule_of_list list) (ruling r it (taken_in k list)) (ruling r (with_item it) left)
        (demands.rule k.world (target_in k.world it) (init_braced list))
    list_runs (init_list opening items last closing) it =
        giving (chain (chain (op_runs [] (λ y a s. refl))
        (started_from (deeper it) (λ a s. s) (items_run items (target_in k.world it) (items_untargeted items)
        (λ t. items_listed items t true 0)))) (op_runs [] (λ y a s. refl)))
        (λ y. append-nil (all_rows (target_in k.world it) items)
        ∙ same_all (target_in k.world it) opening items last closing)

    items_untargeted : (items : InitItems) →
        Runs k (is_quiet r) Ruled (rule_of_items items) (ruling r untargeted (taken_of k items))
        (ruling r untargeted left) []
    items_untargeted no_init_items = stay
    items_untargeted (more_init_items ds equal init items) =
        chain (chain (desigs_untargeted ds (λ rest. taken k init (taken_of k items rest)))
        (started_from (before items) (λ a s. s) (rule_runs init untargeted))) (items_untargeted items)

    items_listed : (items : InitItems) (t : Skel) (is_first : Bool) (next : ℕ) →
        Runs k (is_quiet r) Ruled (rule_of_items items) (ruling r (listed t is_first next None) (taken_of k items))
        (ruling r (behind_items t is_first next items) left) (items_rule k.world t is_first next items)
    items_listed no_init_items t is_first next = stay
    items_listed (more_init_items ds equal init items) t is_first next =
        chain (chain (desigs_listed ds t is_first next (λ rest. taken k init (taken_of k items rest)))
        (started_from (before items) (λ a s. s)
        (item_runs init t is_first next ds (rule_runs init (behind_desigs t is_first next ds)))))
        (items_listed items t false (next_behind k.world t ds next))
