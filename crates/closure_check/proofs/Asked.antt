-- What each rule asks, and what is asked of links, variables and pairs.
use Rattle.std.proofs.Common.{◌≡◌, ℕ, Some, slice_get, refl, sym, ◌∙◌, ap, subst}
use Rattle.qual_base.proofs.Tests.{some_number}
use Rattle.flow_graph.specs.declared.constraint.Link.{Link}
use Rattle.flow_graph.specs.declared.constraint.Link.TheVariants.{Le, Const, Bound, Enter, Leave}
use Rattle.flow_graph.specs.declared.constraint.Constraint.{Constraint}
use Rattle.flow_graph.specs.System.{IsInLattice}
use Rattle.flow_graph.specs.PathRules.{link_begins}
use Rattle.flow_graph.specs.Index.{IsKeyed}
use Rattle.flow_graph.proofs.Links.{some_constraint}
use Rattle.flow_laws.proofs.Links.{link_at, enter_site, enter_inner}
use Rattle.certificate_laws.specs.declared.rule.CertRule.{CertRule}
use Rattle.certificate_laws.specs.declared.rule.CertRule.TheVariants.{A1, A2, A3, A4, A5, A6, A7, A8, A9}
use Rattle.closure_check.specs.declared.claim.Claim.{Claim}
use Rattle.closure_check.specs.declared.rounds.Going.TheVariants.{First, Pair}
use Rattle.closure_check.specs.Checking.{Asks, AsksEdge, AsksLinks, AsksPairs, AsksVars, GoesRound, IsObeyed}

-- the rule A7 asks of an Enter that the first set goes round
pub round_asked : (given : Claim) (rule : CertRule) (link : Link) (s u x : ℕ) → link ≡ Enter s u x → rule ≡ A7
    → GoesRound given (First u) s x → Asks given rule link
round_asked given rule link s u x is seven round =
    subst (λ (l : Link). Asks given rule l) (sym is)
    (λ five. let wrong : A5 ≡ A7 = sym five ∙ seven in absurd cc, λ same. round)

pub asked_round : (given : Claim) (rule : CertRule) (link : Link) (s u x : ℕ) → link ≡ Enter s u x → rule ≡ A7
    → Asks given rule link → GoesRound given (First u) s x
asked_round given rule link s u x is seven asked = (subst (λ (l : Link). Asks given rule l) is asked).1 seven

-- and of an Enter from the end of a pair that the pair does
module _ (given : Claim) (rule : CertRule) (z u n : ℕ) (c : Constraint) (s w x : ℕ)
    (there : slice_get given.graph.now.constraints n ≡ Some c) (is : c.link ≡ Enter s w x) (seven : rule ≡ A7) where
  pub call_asked : GoesRound given (Pair z) s x → AsksEdge given rule z u n
  call_asked round = (
    λ six. let wrong : A6 ≡ A7 = sym six ∙ seven in absurd cc,
    λ same t y st.
        let one : Enter s w x ≡ Enter t u y = sym is ∙ link_at given.graph.now given.at n c (Enter t u y) there st in
        subst (λ (t : ℕ). GoesRound given (Pair z) t y) (enter_site one)
        (subst (λ (y : ℕ). GoesRound given (Pair z) s y) (enter_inner one) round),
  )

  pub asked_call : IsKeyed given.graph.now link_begins u n → IsInLattice given.at c.link c.lattices
      → AsksEdge given rule z u n → GoesRound given (Pair z) s x
  asked_call key carried asked =
      let same : c ≡ key.constraint = some_constraint (sym there ∙ key.there) in
      let at : w ≡ u =
      some_number (ap link_begins (sym is) ∙ ap (λ (c : Constraint). link_begins c.link) same ∙ key.keyed) in
      asked.1 seven s x (record {
        constraint = c;
        there = there;
        link_is = is ∙ ap (λ (u : ℕ). Enter s u x) at;
        carried = subst (λ (l : Link). IsInLattice given.at l c.lattices) is carried;
      })

-- A rule that is obeyed is as is asked of each link,
pub each_link : (given : Claim) (rule : CertRule) → IsObeyed given rule → AsksLinks given rule
each_link given rule obeyed n (Le u v) st = λ is. (subst (λ (r : CertRule). IsObeyed given r) is obeyed) n u v st
each_link given rule obeyed n (Const l e v) st = λ is. (subst (λ (r : CertRule). IsObeyed given r) is obeyed) n e v
    (record {
      constraint = st.constraint;
      there = st.there;
      link_is = st.link_is ∙ ap (λ (k : ℕ). Const k e v) st.carried;
      carried = refl;
    })
each_link given rule obeyed n (Bound v l b) st = λ is. (subst (λ (r : CertRule). IsObeyed given r) is obeyed) n v b
    (record {
      constraint = st.constraint;
      there = st.there;
      link_is = st.link_is ∙ ap (λ (k : ℕ). Bound v k b) st.carried;
      carried = refl;
    })
each_link given rule obeyed n (Enter s u x) st = (
  λ is. (subst (λ (r : CertRule). IsObeyed given r) is obeyed) n s u x st,
  λ is y m pair v back. ((subst (λ (r : CertRule). IsObeyed given r) is obeyed) n m s u x y v st pair back).0,
)
each_link given rule obeyed n (Leave s u v) st = λ is. (subst (λ (r : CertRule). IsObeyed given r) is obeyed) n s u v st

-- and of each pair.
pub each_pair : (given : Claim) (rule : CertRule) → IsObeyed given rule → AsksPairs given rule
each_pair given rule obeyed z u pair = (
  λ is. (subst (λ (r : CertRule). IsObeyed given r) is obeyed) z u pair,
  λ other n. (
    λ is v f st owner. (subst (λ (r : CertRule). IsObeyed given r) is obeyed) n u v z f st owner pair,
    λ is s x st y m inside v back.
        ((subst (λ (r : CertRule). IsObeyed given r) is obeyed) n m s u x y v st inside back).1 z pair,
  ),
)

-- The other way round, rule by rule.
pub const_obeyed : (given : Claim) → AsksLinks given A1 → IsObeyed given A1
const_obeyed given all = λ n e v st. all n (Const given.at e v) st refl

pub flow_obeyed : (given : Claim) → AsksLinks given A3 → IsObeyed given A3
flow_obeyed given all = λ n u v st. all n (Le u v) st refl

pub back_obeyed : (given : Claim) → AsksLinks given A4 → IsObeyed given A4
back_obeyed given all = λ n s u v st. all n (Leave s u v) st refl

pub call_obeyed : (given : Claim) → AsksLinks given A5 → IsObeyed given A5
call_obeyed given all = λ n s u x st. (all n (Enter s u x) st).0 refl

pub pair_flow_obeyed : (given : Claim) → AsksPairs given A6 → IsObeyed given A6
pair_flow_obeyed given all =
    λ n u v z f st owner pair. ((all z u pair).1 (λ (wrong : A6 ≡ A8). cc) n).0 refl v f st owner

-- a certificate obeys A7 where each link and each pair is as A7 asks
pub group_obeyed : (given : Claim) → AsksLinks given A7 → AsksPairs given A7 → IsObeyed given A7
group_obeyed given links pairs = λ n m s u x y v st inside back. (
  (links n (Enter s u x) st).1 refl y m inside v back,
  λ z pair. ((pairs z u pair).1 (λ (wrong : A7 ≡ A8). cc) n).1 refl s x st y m inside v back,
)

pub pair_obeyed : (given : Claim) → AsksPairs given A8 → IsObeyed given A8
pair_obeyed given all = λ z u pair. (all z u pair).0 refl

pub bound_obeyed : (given : Claim) → AsksLinks given A9 → IsObeyed given A9
bound_obeyed given all = λ n v b st. all n (Bound v given.at b) st refl

-- what holds of one rule holds of the rule that is that one
pub by_links : (given : Claim) (rule one : CertRule) → rule ≡ one → (AsksLinks given one → IsObeyed given one)
    → AsksLinks given rule → IsObeyed given rule
by_links given rule one is on all =
    subst (λ (r : CertRule). IsObeyed given r) (sym is) (on (subst (λ (r : CertRule). AsksLinks given r) is all))

pub by_pairs : (given : Claim) (rule one : CertRule) → rule ≡ one → (AsksPairs given one → IsObeyed given one)
    → AsksPairs given rule → IsObeyed given rule
by_pairs given rule one is on all =
    subst (λ (r : CertRule). IsObeyed given r) (sym is) (on (subst (λ (r : CertRule). AsksPairs given r) is all))

-- the rule for calls is obeyed where its question of constraints and that of pairs are both answered
pub by_both : (given : Claim) (rule : CertRule) → rule ≡ A7 → AsksLinks given rule → AsksPairs given rule
    → IsObeyed given rule
by_both given rule is links pairs = subst (λ (r : CertRule). IsObeyed given r) (sym is)
    (group_obeyed given (subst (λ (r : CertRule). AsksLinks given r) is links)
    (subst (λ (r : CertRule). AsksPairs given r) is pairs))

pub by_vars : (given : Claim) (rule : CertRule) → rule ≡ A2 → AsksVars given → IsObeyed given rule
by_vars given rule is all = subst (λ (r : CertRule). IsObeyed given r) (sym is) all

pub vars_by : (given : Claim) (rule : CertRule) → rule ≡ A2 → IsObeyed given rule → AsksVars given
vars_by given rule is obeyed = subst (λ (r : CertRule). IsObeyed given r) is obeyed
