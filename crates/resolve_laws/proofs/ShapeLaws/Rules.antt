-- The list of an initialiser in braces, gone through once more: the faults of designators, and what each item
-- initialises.
use Rattle.std.proofs.Common.{◌≡◌, ℕ, ◌+◌, Bool, true, false, List, [], ◌++◌, Option, None, Some, refl, ap, arith}
use Rattle.c_tree.specs.Tree.{Init, init_value, init_braced, InitList, init_list, InitItems, no_init_items, more_init_items, Desigs, no_desigs, more_desigs, Desig, member_desig, index_desig, range_desig, old_desig}
use Rattle.c_tape.specs.Tape.{desig_tape, desigs_tape, rule, rule_of_list, rule_of_items}
use Rattle.type_table.specs.Types.{CType}
use Rattle.name_rules.specs.Spellings.{place}
use Rattle.name_rules.specs.Faults.{Fault, not_pointer, fault_where}
use Rattle.name_rules.specs.Values.{is_no_pointer, Target, no_target, to}
use Rattle.name_rules.specs.Checks.{member_faults}
use Rattle.type_rules.specs.Judging.{desig_type, desigs_type, next_behind, item_target, desigs_faults, indices_faults, init_faults, untargeted_faults, untargeted_items_faults, list_faults, items_faults}
use Rattle.name_rules.specs.ShapeSteps.State.{Braces, untargeted, listed}
use Rattle.name_rules.specs.ShapeSteps.Steps.{target_in, list_of, with_item, within}
use Rattle.resolve_laws.proofs.ShapeLaws.Goes.{Over, total, total_append, Goes, nowhere, one, join, from, same, reaching}

module _ (k : Over) where
  -- the faults of designators alone

  abbrev pub own_faults : Option CType → Desig → List Fault
  own_faults t (member_desig before name) = member_faults k.spelling k.names t name.token name.name
  own_faults t (index_desig opening e closing) = fault_where (is_no_pointer t) (place k.spelling opening) not_pointer
  own_faults t (range_desig opening e dots e2 closing) =
      fault_where (is_no_pointer t) (place k.spelling opening) not_pointer
  own_faults t (old_desig name colon) = member_faults k.spelling k.names t name.token name.name

  abbrev pub designator_faults : Option CType → Desigs → List Fault
  designator_faults t no_desigs = []
  designator_faults t (more_desigs d ds) = own_faults t d ++ designator_faults (desig_type k.spelling k.names t d) ds

  abbrev mutual
    pub rule_faults : Target → Init → List Fault
    rule_faults t (init_value e) = []
    rule_faults t (init_braced list) = list_rule_faults t list

    pub list_rule_faults : Target → InitList → List Fault
    list_rule_faults no_target (init_list opening items last closing) = []
    list_rule_faults (to t) (init_list opening items last closing) = items_rule_faults t true 0 items

    pub items_rule_faults : Option CType → Bool → ℕ → InitItems → List Fault
    items_rule_faults t is_first next no_init_items = []
    items_rule_faults t is_first next (more_init_items ds equal init items) =
        designator_faults t ds ++
        (rule_faults (item_target k.spelling k.names t is_first next ds) init ++ items_rule_faults t false
        (next_behind k.spelling k.names t ds next) items)

  -- what is at fault in an initialiser, is so in its expressions or its designators

  desigs_split : (t : Option CType) (ds : Desigs) →
      total k.weight (desigs_faults k.spelling k.names t ds) ≡
      total k.weight (indices_faults k.spelling k.names ds) + total k.weight (designator_faults t ds)
  desigs_split t no_desigs = refl
  desigs_split t (more_desigs (member_desig before name) ds) =
      let others = desigs_split (desig_type k.spelling k.names t (member_desig before name)) ds in
      omega (arith, total_append k.weight)
  desigs_split t (more_desigs (index_desig opening e closing) ds) =
      let others = desigs_split (desig_type k.spelling k.names t (index_desig opening e closing)) ds in
      omega (arith, total_append k.weight)
  desigs_split t (more_desigs (range_desig opening e dots e2 closing) ds) =
      let others = desigs_split (desig_type k.spelling k.names t (range_desig opening e dots e2 closing)) ds in
      omega (arith, total_append k.weight)
  desigs_split t (more_desigs (old_desig name colon) ds) =
      let others = desigs_split (desig_type k.spelling k.names t (old_desig name colon)) ds in
      omega (arith, total_append k.weight)

  mutual
    pub init_split : (i : Init) (t : Target) → total k.weight (init_faults k.spelling k.names t i) ≡
        total k.weight (init_faults k.spelling k.names no_target i) + total k.weight (rule_faults t i)
    init_split (init_value e) t = omega arith
    init_split (init_braced list) no_target = list_split_none list
    init_split (init_braced list) (to t) = list_split list t

    list_split_none : (list : InitList) → total k.weight (untargeted_faults k.spelling k.names list) ≡
        total k.weight (untargeted_faults k.spelling k.names list) + total k.weight (list_rule_faults no_target list)
    list_split_none (init_list opening items last closing) = omega arith

    pub list_split : (list : InitList) (t : Option CType) → total k.weight (list_faults k.spelling k.names t list) ≡
        total k.weight (untargeted_faults k.spelling k.names list) + total k.weight (list_rule_faults (to t) list)
    list_split (init_list opening items last closing) t = items_split items t true 0

    items_split : (items : InitItems) (t : Option CType) (is_first : Bool) (next : ℕ) →
        total k.weight (items_faults k.spelling k.names t is_first next items) ≡
        total k.weight (untargeted_items_faults k.spelling k.names items) + total k.weight
        (items_rule_faults t is_first next items)
    items_split no_init_items t is_first next = refl
    items_split (more_init_items ds equal init items) t is_first next =
        let designators = desigs_split t ds in let item =
        init_split init (item_target k.spelling k.names t is_first next ds) in
        let others = items_split items t false (next_behind k.spelling k.names t ds next) in
        omega (arith, total_append k.weight)

  -- designators

  desig_untargeted : (d : Desig) → Goes k (desig_tape d) (within untargeted) (within untargeted) []
  desig_untargeted (member_desig before name) = one [] (λ st. refl)
  desig_untargeted (index_desig opening e closing) = one [] (λ st. refl)
  desig_untargeted (range_desig opening e dots e2 closing) = one [] (λ st. refl)
  desig_untargeted (old_desig name colon) = one [] (λ st. refl)

  desigs_untargeted : (ds : Desigs) → Goes k (desigs_tape ds) (within untargeted) (within untargeted) []
  desigs_untargeted no_desigs = nowhere
  desigs_untargeted (more_desigs d ds) = same (join (desig_untargeted d) (desigs_untargeted ds)) refl

  desig_further : (d : Desig) (t : Option CType) (is_first : Bool) (next : ℕ) (now : Option CType) →
      Goes k (desig_tape d) (within (listed t is_first next (Some now)))
      (within (listed t is_first next (Some (desig_type k.spelling k.names now d)))) (own_faults now d)
  desig_further (member_desig before name) t is_first next now = one _ (λ st. refl)
  desig_further (index_desig opening e closing) t is_first next now = one _ (λ st. refl)
  desig_further (range_desig opening e dots e2 closing) t is_first next now = one _ (λ st. refl)
  desig_further (old_desig name colon) t is_first next now = one _ (λ st. refl)

  desigs_further : (ds : Desigs) (t : Option CType) (is_first : Bool) (next : ℕ) (now : Option CType) →
      Goes k (desigs_tape ds) (within (listed t is_first next (Some now)))
      (within (listed t is_first next (Some (desigs_type k.spelling k.names now ds)))) (designator_faults now ds)
  desigs_further no_desigs t is_first next now = nowhere
  desigs_further (more_desigs d ds) t is_first next now =
      join (desig_further d t is_first next now)
      (desigs_further ds t is_first next (desig_type k.spelling k.names now d))

  -- a list behind the designators of an item
  abbrev pub behind_desigs : Option CType → Bool → ℕ → Desigs → Braces
  behind_desigs t is_first next no_desigs = listed t is_first next None
  behind_desigs t is_first next (more_desigs d ds) =
      listed t is_first (next_behind k.spelling k.names t (more_desigs d ds) next)
      (Some (desigs_type k.spelling k.names t (more_desigs d ds)))

  desigs_listed : (ds : Desigs) (t : Option CType) (is_first : Bool) (next : ℕ) →
      Goes k (desigs_tape ds) (within (listed t is_first next None)) (within (behind_desigs t is_first next ds))
      (designator_faults t ds)
  desigs_listed no_desigs t is_first next = nowhere
  desigs_listed (more_desigs (member_desig before name) ds) t is_first next =
      join (one _ (λ st. refl)) (desigs_further ds t is_first _ _)
  desigs_listed (more_desigs (index_desig opening e closing) ds) t is_first next =
      join (one _ (λ st. refl)) (desigs_further ds t is_first _ _)
  desigs_listed (more_desigs (range_desig opening e dots e2 closing) ds) t is_first next =
      join (one _ (λ st. refl)) (desigs_further ds t is_first _ _)
  desigs_listed (more_desigs (old_desig name colon) ds) t is_first next =
      join (one _ (λ st. refl)) (desigs_further ds t is_first _ _)

  target_behind : (ds : Desigs) (t : Option CType) (is_first : Bool) (next : ℕ) →
      target_in k.names (behind_desigs t is_first next ds) ≡ item_target k.spelling k.names t is_first next ds
  target_behind no_desigs t is_first next = refl
  target_behind (more_desigs d ds) t is_first next = refl

  item_behind : (ds : Desigs) (t : Option CType) (is_first : Bool) (next : ℕ) →
      with_item (behind_desigs t is_first next ds) ≡ listed t false (next_behind k.spelling k.names t ds next) None
  item_behind no_desigs t is_first next = refl
  item_behind (more_desigs d ds) t is_first next = refl

  abbrev pub behind_items : Option CType → Bool → ℕ → InitItems → Braces
  behind_items t is_first next no_init_items = listed t is_first next None
  behind_items t is_first next (more_init_items ds equal init items) =
      behind_items t false (next_behind k.spelling k.names t ds next) items

  abbrev pub behind_all : Target → InitItems → Braces
  behind_all no_target items = untargeted
  behind_all (to t) items = behind_items t true 0 items

  abbrev pub all_faults : Target → InitItems → List Fault
  all_faults no_target items = []
  all_faults (to t) items = items_rule_faults t true 0 items

  same_all : (t : Target) (opening : ℕ) (items : InitItems) (last : Option ℕ) (closing : ℕ) →
      total k.weight (all_faults t items) ≡ total k.weight (list_rule_faults t (init_list opening items last closing))
  same_all no_target opening items last closing = refl
  same_all (to t) opening items last closing = refl

  none_ruled : (i : Init) → total k.weight (rule_faults no_target i) ≡ 0
  none_ruled (init_value e) = refl
  none_ruled (init_braced (init_list opening items last closing)) = refl

  -- items

  items_go : (items : InitItems) (t : Target) → Goes k (rule_of_items items) (within untargeted) (within untargeted) []
      → ((t : Option CType) → Goes k (rule_of_items items) (within (listed t true 0 None))
      (within (behind_items t true 0 items)) (items_rule_faults t true 0 items))
      → Goes k (rule_of_items items) (within (list_of t)) (within (behind_all t items)) (all_faults t items)
  items_go items no_target p q = p
  items_go items (to t) p q = q t

  item_goes : (i : Init) (t : Option CType) (is_first : Bool) (next : ℕ) (ds : Desigs)
      → Goes k (rule i) (within (behind_desigs t is_first next ds))
      (within (with_item (behind_desigs t is_first next ds)))
      (rule_faults (target_in k.names (behind_desigs t is_first next ds)) i)
      → Goes k (rule i) (within (behind_desigs t is_first next ds))
      (within (listed t false (next_behind k.spelling k.names t ds next) None))
      (rule_faults (item_target k.spelling k.names t is_first next ds) i)
  item_goes i t is_first next ds p =
      reaching _ (same p (ap (λ (it : Target). total k.weight (rule_faults it i)) (target_behind ds t is_first next)))
      (λ st. ap (λ (it : Braces). within it st) (item_behind ds t is_first next))

  mutual
    pub rule_goes : (i : Init) (it : Braces) →
        Goes k (rule i) (within it) (within (with_item it)) (rule_faults (target_in k.names it) i)
    rule_goes (init_value e) it = one [] (λ st. refl)
    rule_goes (init_braced list) it = list_rule_goes list it

    pub list_rule_goes : (list : InitList) (it : Braces) →
        Goes k (rule_of_list list) (within it) (within (with_item it)) (list_rule_faults (target_in k.names it) list)
    list_rule_goes (init_list opening items last closing) it =
        same (join (join (one [] (λ st. refl))
        (from (within it) (items_go items (target_in k.names it) (items_untargeted items)
        (λ t. items_listed items t true 0)))) (one [] (λ st. refl)))
        (let e = same_all (target_in k.names it) opening items last closing in omega (arith, total_append k.weight))

    items_untargeted : (items : InitItems) → Goes k (rule_of_items items) (within untargeted) (within untargeted) []
    items_untargeted no_init_items = nowhere
    items_untargeted (more_init_items ds equal init items) =
        same (join (join (desigs_untargeted ds) (rule_goes init untargeted)) (items_untargeted items))
        (let e = none_ruled init in omega (arith, total_append k.weight))

    items_listed : (items : InitItems) (t : Option CType) (is_first : Bool) (next : ℕ) →
        Goes k (rule_of_items items) (within (listed t is_first next None))
        (within (behind_items t is_first next items)) (items_rule_faults t is_first next items)
    items_listed no_init_items t is_first next = nowhere
    items_listed (more_init_items ds equal init items) t is_first next =
        same (join (join (desigs_listed ds t is_first next)
        (item_goes init t is_first next ds (rule_goes init (behind_desigs t is_first next ds))))
        (items_listed items t false (next_behind k.spelling k.names t ds next)))
        (omega (arith, total_append k.weight))
