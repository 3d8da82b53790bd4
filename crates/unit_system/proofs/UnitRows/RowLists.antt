-- A row that is added, and the row of an op.
use Rattle.std.proofs.Common.{◌≡◌, ◌<◌, ◌≤◌, ◌+◌, ℕ, ◌∷◌, ◌++◌, List, [], length, take, Option, Some, None, Result, OnOk, IfErr, refl, sym, ◌∙◌, ap, subst, arith, append_assoc, length-append}
use Rattle.std.proofs.lemmas.List.{take-append-le, append-nil}
use Rattle.std.proofs.lemmas.Result.{on_ok_weaker, IfErr-weaker}
use Rattle.std.proofs.Math.Seq.{take-append-add}
use Rattle.flow_graph.specs.declared.constraint.Constraint.{Constraint}
use Rattle.flow_graph.specs.declared.graph.GraphFault.{GraphFault}
use Rattle.flow_graph.specs.declared.graph.GraphFault.TheVariants.{NoMemory}
use Rattle.flow_graph.specs.System.{System}
use Rattle.flow_rules.specs.Adding.{with}
use Rattle.row_rules.specs.Worlds.{World}
use Rattle.row_world.specs.declared.known.Known.{Known}
use Rattle.row_world.specs.Shown.{Shows}
use Rattle.qual_base.specs.declared.places.Span.{Span}
use Rattle.qual_types.specs.Skel.{Skel}
use Rattle.row_rules.specs.RowSteps.State.{Operand, is_zero_operand, val_of_operand}
use Rattle.row_rules.specs.RowSteps.OpRows.{into_target}
use Rattle.row_adding.specs.Adding.{StopsEarly, Adds, Halts}
use Rattle.row_adding.specs.Parts.{into_some}

-- two rows that are one in each world that is shown
abbrev pub Same : Known → (World → List Constraint) → (World → List Constraint) → Type 0
Same k rows others = (w : World) → Shows k w → rows w ≡ others w

pub row_added : {T : Type 0} (r : Result T GraphFault) (k : Known) (old new : System)
    (rows others : World → List Constraint) →
    Same k rows others → OnOk r (Adds k old new rows) → OnOk r (Adds k old new others)
row_added r k old new rows others same added =
    on_ok_weaker r (λ a w shows. a w shows ∙ ap (with old) (same w shows)) added

-- an adding that halts in some rows halts in rows that are the same in each world shown
pub row_halted : {T : Type 0} (r : Result T GraphFault) (k : Known) (old new : System)
    (rows others : World → List Constraint) →
    Same k rows others → IfErr r (λ fault. Halts k old new fault rows) → IfErr r (λ fault. Halts k old new fault others)
row_halted r k old new rows others same halted =
    IfErr-weaker r (λ fault. Halts k old new fault rows) (λ fault. Halts k old new fault others)
    (λ fault h w shows. subst (StopsEarly old new fault) (same w shows) (h w shows)) halted

pub with_none : (sys : System) → sys ≡ with sys []
with_none sys = sym (ap (λ (cs : List Constraint). record sys { constraints = cs }) (append-nil sys.constraints))

pub with_more : (sys : System) (xs ys : List Constraint) → with (with sys xs) ys ≡ with sys (xs ++ ys)
with_more sys xs ys =
    ap (λ (cs : List Constraint). record sys { constraints = cs }) (append_assoc sys.constraints xs ys)

take_in : {A : Type 0} (xs ys zs : List A) (n : ℕ) → n ≤ length ys → take (length xs + n) (xs ++ (ys ++ zs)) ≡
    xs ++ take n ys
take_in {A} xs ys zs n le =
    take-append-add xs (ys ++ zs) n ∙ ap (λ (l : List A). xs ++ l) (take-append-le n ys zs le)

-- an adding that stopped inside a longer one
pub stops_within : (old now new : System) (fault : GraphFault) (before list after whole : List Constraint) →
    now ≡ with old before → whole ≡ before ++ (list ++ after) → StopsEarly now new fault list →
    StopsEarly old new fault whole
stops_within old now new fault before list after whole so all stop = record {
  added = length before + stop.added;
  within =
      let e = ap length all in
      let a = length-append before (list ++ after) in
      let b = length-append list after in
      let le = stop.within in
      omega arith;
  part =
      stop.part
      ∙ ap (λ (sys : System). with sys (take stop.added list)) so
      ∙ with_more old before (take stop.added list)
      ∙ ap (with old)
      (sym (ap (take (length before + stop.added)) all ∙ take_in before list after stop.added stop.within));
  full = λ many.
      let e = ap length all in
      let a = length-append before (list ++ after) in
      let b = length-append list after in
      let lt : stop.added < length list = (stop.full many).0 in
      (omega arith, (stop.full many).1);
}

-- two rows, one behind the other

-- rows that were added and rows that were added behind them are both there
pub rows_added : {T : Type 0} (r : Result T GraphFault) (k : Known) (old now new : System)
    (first second : World → List Constraint) →
    Adds k old now first → OnOk r (Adds k now new second) → OnOk r (Adds k old new (λ w. first w ++ second w))
rows_added r k old now new first second one other =
    on_ok_weaker r (λ a w shows. a w shows ∙ ap (λ (sys : System). with sys (second w)) (one w shows)
    ∙ with_more old (first w) (second w)) other

-- where first rows were added and second ones halt, the two in a row halt
pub rows_halted : {T : Type 0} (r : Result T GraphFault) (k : Known) (old now new : System)
    (first second : World → List Constraint) →
    Adds k old now first → IfErr r (λ fault. Halts k now new fault second) →
    IfErr r (λ fault. Halts k old new fault (λ w. first w ++ second w))
rows_halted r k old now new first second one other =
    IfErr-weaker r (λ fault. Halts k now new fault second) (λ fault. Halts k old new fault (λ w. first w ++ second w))
    (λ fault h w shows. stops_within old now new fault (first w) (second w) [] (first w ++ second w) (one w shows)
    (ap (λ (cs : List Constraint). first w ++ cs) (sym (append-nil (second w)))) (h w shows)) other

pub first_halted : (k : Known) (old new : System) (fault : GraphFault) (first second : World → List Constraint) →
    Halts k old new fault first → Halts k old new fault (λ w. first w ++ second w)
first_halted k old new fault first second h = λ w shows.
    stops_within old old new fault [] (first w) (second w) (first w ++ second w) (with_none old) refl (h w shows)

-- where memory is wanting before anything was added, the graph stays, whatever was to be added
pub none_halts : (sys : System) (list : List Constraint) → StopsEarly sys sys NoMemory list
none_halts sys list = record {
  added = 0;
  within = omega arith;
  part = with_none sys ∙ ap (with sys) (sym (nothing_taken list));
  full = λ many. absurd (cc many);
} where
  nothing_taken : {A : Type 0} (xs : List A) → take 0 xs ≡ []
  nothing_taken [] = refl
  nothing_taken (x ∷ xs) = refl

-- where the rows are empty in each world shown, the graph that stays has them
pub none_added : (k : Known) (graph : System) (rows : World → List Constraint) →
    ((w : World) → Shows k w → rows w ≡ []) → Adds k graph graph rows
none_added k graph rows none = λ w shows.
    sym (ap (with graph) (none w shows)
    ∙ ap (λ (cs : List Constraint). record graph { constraints = cs }) (append-nil graph.constraints))

-- an operand that flows into what it initialises, by its parts
pub into_same : (w : World) (t : Option Skel) (it : Operand) (where_ : Span) →
    into_some w t (is_zero_operand it) (val_of_operand it) where_ ≡ into_target w t it where_
into_same w None it where_ = refl
into_same w (Some t) it where_ = refl
