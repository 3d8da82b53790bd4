-- Drafts that go on, and those that wait.
use Rattle.std.proofs.Common.{◌≡◌, ℕ, ◌<◌, List, [], ◌∷◌, ◌++◌, Option, Some, None, IfSome, IfNone, inl, inr, take, reverse, sym, ◌∙◌, ap, subst}
use Rattle.std.proofs.lemmas.List.Elements.{Contains-push_cases, Contains-push, Contains-append_left}
use Rattle.flow_graph.specs.declared.proof.PathStep.{PathStep}
use Rattle.qual_base.specs.declared.places.Owner.TheVariants.{Function}
use Rattle.flow_graph.specs.System.{System, owner_of}
use Rattle.error_path.specs.declared.steps.Pair.{Pair}
use Rattle.flow_graph.specs.Parts.{Part, Inside, Done, More, IsSub}
use Rattle.match_summary.specs.declared.reason.Reason.TheVariants.{Group}
use Rattle.match_summary.specs.declared.reason.Summary.{Summary}
use Rattle.match_summary.specs.Summary.{HasPair, RestsOn, Summarises}
use Rattle.error_path.specs.declared.sub_paths.Draft.{Draft}
use Rattle.error_path.specs.declared.sub_paths.SubPaths.{SubPaths}
use Rattle.error_path.specs.Drafts.{rank, AreDrafts, IsDraft, IsMissing, IsWritten}
use Rattle.error_path.specs.Made.{place_of, IsInner}
use Rattle.error_path.proofs.Making.{inside_grown}
use Rattle.error_path.proofs.Resting.{has_early, has_of, leads_owner, rank_early}

module _ (sys : System) (lattice : ℕ) (rows : List Summary) where
  module _ (subs : List (List PathStep)) where
    pub drafts_push : (drafts : List Draft) (draft : Draft) → AreDrafts sys lattice rows subs drafts
        → IsDraft sys lattice rows subs draft → AreDrafts sys lattice rows subs (drafts ++ draft ∷ [])
    drafts_push drafts draft all one other there = elim (Contains-push_cases drafts draft other there) [
      | inl before ↦ all other before
      | inr same ↦ subst (IsDraft sys lattice rows subs) same one
    ]

    pub drafts_last : (drafts : List Draft) (draft : Draft) → AreDrafts sys lattice rows subs (drafts ++ draft ∷ [])
        → IsDraft sys lattice rows subs draft
    drafts_last drafts draft all = all draft (Contains-push drafts draft)

    pub drafts_rest : (drafts : List Draft) (draft : Draft) → AreDrafts sys lattice rows subs (drafts ++ draft ∷ [])
        → AreDrafts sys lattice rows subs drafts
    drafts_rest drafts draft all other there = all other (Contains-append_left drafts (draft ∷ []) other there)

    -- a draft of which nothing is written
    pub empty_draft : (draft : Draft) → draft.at ≡ draft.pair.to → draft.steps.items ≡ []
        → HasPair rows draft.pair.from draft.pair.to → IsDraft sys lattice rows subs draft
    empty_draft draft at none joined = record {
      whole = joined;
      joined = subst (λ v. HasPair rows draft.pair.from v) (sym at) joined;
      inside = λ f o.
          let Steps : List PathStep → Type 0 = λ xs. Inside sys lattice subs f draft.at draft.pair.to (reverse xs) in
          let At : ℕ → Type 0 = λ v. Inside sys lattice subs f v draft.pair.to [] in
          subst Steps (sym none) (subst At (sym at) (Done draft.pair.to));
    }

    pub empty_draft_of : (draft : Draft) (pair : Pair) → draft.pair ≡ pair → draft.at ≡ pair.to → draft.steps.items ≡ []
        → HasPair rows pair.from pair.to → IsDraft sys lattice rows subs draft
    empty_draft_of draft pair is at none joined =
        empty_draft draft (at ∙ ap (λ (p : Pair). p.to) (sym is)) none
        (subst (λ (p : Pair). HasPair rows p.from p.to) (sym is) joined)

    -- one that has the same steps
    pub same_draft : (old new : Draft) → new.pair ≡ old.pair → new.at ≡ old.at → new.steps.items ≡ old.steps.items
        → IsDraft sys lattice rows subs old → IsDraft sys lattice rows subs new
    same_draft old new pair at steps draft = record {
      whole = subst (λ (p : Pair). HasPair rows p.from p.to) (sym pair) draft.whole;
      joined = subst (λ (p : Pair). HasPair rows p.from new.at) (sym pair)
          (subst (λ v. HasPair rows old.pair.from v) (sym at) draft.joined);
      inside =
          let Of : Pair → Type 0 = λ p. (f : ℕ) → owner_of sys p.from ≡ Function f
          → Inside sys lattice subs f new.at p.to (reverse new.steps.items) in
          subst Of (sym pair) (λ f o.
          let At : ℕ → Type 0 = λ v. Inside sys lattice subs f v old.pair.to (reverse new.steps.items) in
          let Steps : List PathStep → Type 0 = λ xs. Inside sys lattice subs f old.at old.pair.to (reverse xs) in
          subst At (sym at) (subst Steps (sym steps) (draft.inside f o)));
    }

    -- one that goes on
    pub written_draft : Summarises sys lattice rows → (old new : Draft) → new.pair ≡ old.pair
        → IsDraft sys lattice rows subs old → IsWritten sys lattice rows subs old new →
        HasPair rows old.pair.from new.at → IsDraft sys lattice rows subs new
    written_draft all old new pair draft written joined = record {
      whole = subst (λ (p : Pair). HasPair rows p.from p.to) (sym pair) draft.whole;
      joined = subst (λ (p : Pair). HasPair rows p.from new.at) (sym pair) joined;
      inside =
          let Of : Pair → Type 0 = λ p. (f : ℕ) → owner_of sys p.from ≡ Function f
          → Inside sys lattice subs f new.at p.to (reverse new.steps.items) in
          subst Of (sym pair) (λ f o.
          let Steps : List PathStep → Type 0 = λ xs. Inside sys lattice subs f new.at old.pair.to xs in
          subst Steps (sym written.fronts)
          (More new.at old.at old.pair.to written.front (reverse old.steps.items) written.part
          (leads_owner sys lattice rows all old.pair.from new.at f (inr joined) o)
          (written.one.2 ∙ sym written.one.1 ∙ o) (draft.inside f o)));
    }

    -- and one that is whole
    pub written_sub : (old new : Draft) → IsDraft sys lattice rows subs old → IsWritten sys lattice rows subs old new
        → new.at ≡ old.pair.from →
        IsSub sys lattice subs old.pair.from old.pair.to (reverse new.steps.items)
    written_sub old new draft written same =
        let Begins : ℕ → Type 0 = λ x. Part sys lattice subs x old.at written.front in
        record {
          function = written.one.0;
          next = old.at;
          front = written.front;
          rest = reverse old.steps.items;
          part = subst Begins same written.part;
          from_is = written.one.1;
          next_is = written.one.2;
          more = draft.inside written.one.0 written.one.1;
          steps_are = written.fronts;
        }

    -- what goes on where the pair's first variable is not reached
    pub goes_on : (old new : Draft) → new.pair ≡ old.pair → IsWritten sys lattice rows subs old new
        → (new.at ≡ new.pair.from → ⊥) →
        HasPair rows old.pair.from new.at × (rank rows new.pair.from new.at < rank rows old.pair.from old.at)
    goes_on old new pair written not =
        let from : new.pair.from ≡ old.pair.from = ap (λ (p : Pair). p.from) pair in
        elim written.before [
          | inl same ↦ absurd (not (sym same ∙ sym from))
          | inr deeper ↦
              (deeper.0, subst (λ u. rank rows u new.at < rank rows old.pair.from old.at) (sym from) deeper.1)
        ]

  pub drafts_grown : (subs more : List (List PathStep)) (drafts : List Draft) → AreDrafts sys lattice rows subs drafts
      → AreDrafts sys lattice rows (subs ++ more) drafts
  drafts_grown subs more drafts all draft there =
      let was = all draft there in
      record {
        whole = was.whole;
        joined = was.joined;
        inside = λ f o.
            inside_grown sys lattice subs more f draft.at draft.pair.to (reverse draft.steps.items) (was.inside f o);
      }

-- what an answer says where it is there, and where it is not
pub pair_given : (B : Pair → Type 0) (o : Option Pair) (p : Pair) → o ≡ Some p → IfSome o B → B p
pair_given B o p is given = let Of : Option Pair → Type 0 = λ x. IfSome x B in subst Of is given

pub pair_none : (A : Type 0) (o : Option Pair) → o ≡ None → IfNone o A → A
pair_none A o is given = let Of : Option Pair → Type 0 = λ x. IfNone x A in subst Of is given

-- the pair inside a group that a summary's reason names
pub group_missing : (sys : System) (lattice : ℕ) (rows : List Summary) (made : SubPaths) (draft : Draft)
    (before enter leave : ℕ) (pair : Pair) →
    RestsOn sys lattice (take (rank rows draft.pair.from draft.at) rows)
    (record { from = draft.pair.from; to = draft.at; why = Group before enter leave }) →
    IsInner sys enter leave pair → (pair.from ≡ pair.to → ⊥) → place_of made pair.from pair.to ≡ None
    → IsMissing rows made draft pair
group_missing sys lattice rows made draft before enter leave pair r inner apart free =
    let p = r.part in
    let n = rank rows draft.pair.from draft.at in
    let from : pair.from ≡ p.1 = inner.from p.0 before p.1 (has_of sys lattice enter _ p.3) in
    let to : pair.to ≡ p.2 = inner.to p.0 p.2 draft.at (has_of sys lattice leave _ p.6) in
    let early : HasPair (take n rows) pair.from pair.to = elim p.4 [
      | inl same ↦ absurd (apart (from ∙ same ∙ sym to))
      | inr joined ↦ subst (λ u. HasPair (take n rows) u pair.to) (sym from)
          (subst (λ v. HasPair (take n rows) p.1 v) (sym to) joined)
    ] in
    record {
      joined = has_early rows n pair.from pair.to early;
      free = free;
      less = rank_early rows n pair.from pair.to early;
    }
